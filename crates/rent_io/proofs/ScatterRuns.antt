-- Polls of a read into all parts of a vector, one behind the other.
use Rattle.std.proofs.Common.{◌≡◌, ◌∙◌, ℕ, zero, suc, ◌<◌, ◌≤◌, inl, inr, [], ◌∷◌, ◌++◌, Bool, take, refl, sym, ap, subst, arith}
use Rattle.std.proofs.Common.{List, append_assoc, append-nil, length, length-append}
use Rattle.std.specs.Prelude.{Result, IfErr}
use Rattle.std.proofs.lemmas.List.{take-take}
use Rattle.rent_buf.specs.Parts.{Parts, part_at, part_put}
use Rattle.rent_buf.specs.declared.fault.IoFault.{IoFault}
use Rattle.rent_io.specs.declared.poll.Step.{Step}
use Rattle.rent_io.specs.Completeness.{IsShort}
use Rattle.rent_io.specs.Reader.{Reader}
use Rattle.rent_io.specs.ReadVectoredExact.{Scattering, has_read, read_of, rooms, wanted, Scatters, ScatterGoesOn, IsScattered}
use Rattle.rent_io.specs.ReadVectoredExact.{StopsPoll, StopsScattering, ReadsScattered, HasScattered, ScatterRunEnd}
use Rattle.rent_io.specs.State.{Advances, Ran}
use Rattle.rent_io.proofs.ReadStates.{early_later, early_short, gave_none, read_advances, read_ends, read_more, read_short}
use Rattle.rent_io.proofs.Runs.{fails_later}
use Rattle.rent_io.proofs.Scatters.{put_rooms}

-- Nothing stored at a place leaves the bytes before it.
nothing_read : (parts : Parts) (k at : ℕ) → read_of (part_put parts k at []) k at ≡ read_of parts k at
nothing_read [] k at = refl
nothing_read (part ∷ parts) zero at = ap (take at) (append-nil (take at part.bytes)) ∙ take-take at at part.bytes (omega arith)
nothing_read (part ∷ parts) (suc k) at = ap (λ l. part.bytes ++ l) (nothing_read parts k at)

-- And its room.
nothing_room : (parts : Parts) (k at : ℕ) → (part_at (part_put parts k at []) k).total ≡ (part_at parts k).total
nothing_room [] k at = refl
nothing_room (part ∷ parts) zero at = refl
nothing_room (part ∷ parts) (suc k) at = nothing_room parts k at

module _ (s g : Scattering) (u : List ℕ) (has : Scatters s g u) where
  -- Bytes that were read behind those that it had read by then, as a whole.
  read_behind : (read v : List ℕ) → read ≡ has_read g ++ v → read ≡ has_read s ++ (u ++ v)
  read_behind read v is = is ∙ ap (λ l. l ++ v) has.is_read ∙ append_assoc (has_read s) u v

  -- A poll that goes on adds its bytes.
  scatter_adds : (next : Scattering) (v : List ℕ) → ScatterGoesOn g next v → Scatters s next (u ++ v)
  scatter_adds next v goes = record {
    is_read = read_behind (has_read next) v goes.adds.is_read;
    same_rooms = goes.adds.same_rooms ∙ has.same_rooms;
    same_total = goes.adds.same_total ∙ has.same_total;
  }

  -- One that fills all parts ends full parts.
  scatter_is_done : (back : Parts) (n : ℕ) (v : List ℕ) → IsScattered g back n v → IsScattered s back n (u ++ v)
  scatter_is_done back n v done = record {
    is_read = read_behind _ v done.is_read;
    full = done.full;
    same_rooms = done.same_rooms ∙ has.same_rooms;
    total = done.total ∙ has.same_total;
  }

  -- What a fault leaves.
  scatter_stops : (tells : Bool) (before mid now : Reader) (back : Parts) (fault : IoFault) → before.counts.faults ≤ mid.counts.faults
      → before.counts.zeros ≤ mid.counts.zeros → StopsPoll tells mid now g back fault → StopsScattering tells before now s back fault u
  scatter_stops tells before mid now back fault stay zeros (inl failed) = record {
    into = g.part;
    at = g.filled;
    is_read = ap (λ l. read_of l g.part g.filled) failed.0 ∙ has.is_read;
    same_rooms = ap rooms failed.0 ∙ has.same_rooms;
    cause = inl (fails_later before.counts mid.counts now.counts fault stay failed.1);
  }
  scatter_stops tells before mid now back fault stay zeros (inr early) =
      let into = early.into in
      let at = early.at in record {
        into = into;
        at = at;
        is_read = ap (λ l. read_of l into at) early.nothing ∙ nothing_read g.parts into at ∙ early.same_read ∙ has.is_read;
        same_rooms = ap rooms early.nothing ∙ put_rooms g.parts into at [] ∙ has.same_rooms;
        cause = inr (
          early_later tells before mid now fault zeros early.early,
          subst (λ n. at < n) (sym (ap (λ l. (part_at l into).total) early.nothing ∙ nothing_room g.parts into at)) early.more,
        );
      }

-- No polls of a read into all parts.
pub scatter_none : (tells : Bool) (reader : Reader) (s : Scattering) → HasScattered tells reader reader s s
scatter_none tells reader s = gave_none tells reader (Scatters s s)
    (record { is_read = sym (append-nil (has_read s)); same_rooms = refl; same_total = refl })

module _ {T : Type 0} (tells : Bool) (task : ℕ) (before mid now : Reader) (held : T → Parts) (s g : Scattering)
    (step : Step Scattering (Result ℕ IoFault × T)) where
  -- One poll more of a read into all parts.
  pub scatter_more : before.counts.faults ≤ mid.counts.faults → before.counts.zeros ≤ mid.counts.zeros → HasScattered tells before mid s g
      → ReadsScattered tells task mid now held g step
      → Ran (ScatterRunEnd tells before now held s) (HasScattered tells before now s) step
  scatter_more stay zeros has is =
      read_more tells before mid now task g (Scatters s) (ScatterGoesOn g) _ (ScatterRunEnd tells before now held s) step has
      (λ next u v it goes. scatter_adds s g u it next v goes)
      (λ end is. read_ends tells before mid now (Scatters s g) (IsScattered g (held end.1)) (IsScattered s (held end.1))
      (λ fault none. StopsPoll tells mid now g (held end.1) fault) (StopsScattering tells before now s (held end.1)) end.0 has
      (λ n u v it done front. scatter_is_done s g u it (held end.1) n v done)
      (λ fault u it stops. scatter_stops s g u it tells before mid now (held end.1) fault stay zeros stops) is) is

  -- A poll of it waits for a cause, or moves something; and how it ends where no count rose.
  pub scatter_advances : ReadsScattered tells task mid now held g step
      → Advances (λ s. length (has_read s)) (λ s. 0) (λ end. IfErr end.0 (IsShort tells mid now (wanted g))) mid.counts now.counts g step
  scatter_advances is =
      read_advances tells mid now task (λ s. length (has_read s)) g _ (λ end. IfErr end.0 (IsShort tells mid now (wanted g)))
      (ScatterGoesOn g) step
      (λ end is quiet. read_short tells mid now (IsScattered g (held end.1)) (λ fault none. StopsPoll tells mid now g (held end.1) fault)
      (IsShort tells mid now (wanted g)) end.0 is (λ fault same stops. elim stops [
        | inl failed ↦ absurd (quiet.0 failed.1.0)
        | inr early ↦ early_short tells mid now (wanted g) fault same (omega (arith, early.lacks)) early.early
      ]))
      (λ next got goes. omega (arith, goes.some, ap length goes.adds.is_read, length-append (has_read g) got)) is

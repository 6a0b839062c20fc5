-- What bits show of a handle once reports are treated: those of a world in memory show each handle that was due.
use Rattle.std.proofs.Common.{◌≡◌, ◌≢◌, ◌∙◌, inl, inr, ℕ, ◌<◌, Bool, true, false, not, if◌then◌else◌, List, [], ◌∷◌, ◌++◌, Option}
use Rattle.std.proofs.Common.{None, Some, refl, sym, ap, subst, arith, slice_get}
use Rattle.std.specs.Prelude.{is_some, unwrap_or, option_map, bit_and, bit_or, min, max, ◌==◌, IsTrue}
use Rattle.std.specs.Int.{bit_at}
use Rattle.std.proofs.lemmas.Bool.Decides.{nat_tests}
use Rattle.std.proofs.lemmas.Nat.{le_or_l, le_or_r}
use Rattle.std.proofs.lemmas.Nat.Bits.{bit_at_and, bit_at_or, same_from_bits}
use Rattle.handle_core.specs.Table.{Table}
use Rattle.machine.specs.declared.world.HandleState.{HandleState}
use Rattle.machine.specs.Attempt.{is_readable_at}
use Rattle.machine.specs.Lists.{has_number}
use Rattle.machine.proofs.Leaving.{has-other}
use Rattle.machine.proofs.Numbers.{equal-self, same-or-not}
use Rattle.ready_driver.specs.declared.non_block.Report.{Report}
use Rattle.ready_driver.specs.declared.ready.Direction.TheVariants.{Read, Write}
use Rattle.ready_driver.specs.Io.{IoView, IsShown, IsWaited}
use Rattle.ready_driver.specs.Ready.{meets, mask_of}
use Rattle.ready_driver.specs.ScheduledIo.{Scheduled}
use Rattle.ready_driver.specs.Records.{Kept, AreNamed, quiet, record_at, key_at, named_at, io_at, changed_in, with_io}
use Rattle.ready_driver.specs.Registry.{Handling, is_known, AreRecorded, AreKeyed}
use Rattle.ready_driver.specs.Reports.{bits_of, is_keyed, report_of, reports_of, ShowsBits}
use Rattle.ready_driver.specs.Turns.{with_report, reported, reported_each, bits_after, bits_by, AreReported, AreShown}
use Rattle.ready_driver.specs.declared.records.Record.{Record}
use Rattle.ready_driver.proofs.Agreeing.{keys-changed-named, named-changed}
use Rattle.ready_driver.proofs.Paired.{some-same}
use Rattle.ready_driver.proofs.Recorded.{changed-other, io-changed, keyed-record}
use Rattle.ready_driver.proofs.Shown.{keyed-key}

-- The least of a number and of the greater of two.
pub spread : (x y z : ℕ) → min (max x y) z ≡ max (min x z) (min y z)
spread x y z = omega arith

-- What a union shares with a set each side shares with it.
pub shared_union : (a b m : ℕ) → bit_and (bit_or a b) m ≡ bit_or (bit_and a m) (bit_and b m)
shared_union a b m = same_from_bits _ _ (λ k.
    bit_at_and (bit_or a b) m k ∙ ap (λ n. min n (bit_at m k)) (bit_at_or a b k) ∙ spread (bit_at a k) (bit_at b k) (bit_at m k)
    ∙ sym (bit_at_or (bit_and a m) (bit_and b m) k ∙ ap (λ n. max n (bit_at (bit_and b m) k)) (bit_at_and a m k)
    ∙ ap (max (min (bit_at a k) (bit_at m k))) (bit_at_and b m k)))

-- A set that meets another has a bit of it.
meets-some : (n : ℕ) → not (n == 0) ≡ true → 0 < n
meets-some n met = grind (arith, nat_tests)

-- And where it has a bit of it, it meets it.
some-meets : (n : ℕ) → 0 < n → not (n == 0) ≡ true
some-meets n some = grind (arith, nat_tests)

-- A union meets what a side of it meets.
union-meets-left : (a b m : ℕ) → meets a m ≡ true → meets (bit_or a b) m ≡ true
union-meets-left a b m met =
    let some = meets-some (bit_and a m) met in
    let more = le_or_l (bit_and a m) (bit_and b m) in
    let same = shared_union a b m in
    some-meets (bit_and (bit_or a b) m) (omega (arith, some, more, same))

-- And what its other side meets.
union-meets-right : (a b m : ℕ) → meets b m ≡ true → meets (bit_or a b) m ≡ true
union-meets-right a b m met =
    let some = meets-some (bit_and b m) met in
    let more = le_or_r (bit_and a m) (bit_and b m) in
    let same = shared_union a b m in
    some-meets (bit_and (bit_or a b) m) (omega (arith, some, more, same))

-- Further bits show what the others showed.
shows-more : (readable : Bool) (ready extra : ℕ) → ShowsBits readable ready → ShowsBits readable (bit_or ready extra)
shows-more readable ready extra shows = record {
  writes = union-meets-left ready extra (mask_of Write) shows.writes;
  reads = λ r. union-meets-left ready extra (mask_of Read) (shows.reads r);
}

-- The bits of a handle show what it has.
shows-got : (readable : Bool) (ready : ℕ) → ShowsBits readable (bit_or ready (bits_of readable))
shows-got true ready = record {
  writes = union-meets-right ready (bits_of true) (mask_of Write) refl;
  reads = λ r. union-meets-right ready (bits_of true) (mask_of Read) refl;
}
shows-got false ready = record {
  writes = union-meets-right ready (bits_of false) (mask_of Write) refl;
  reads = λ r. (let f : ⊥ = cc in absurd f);
}

-- So do the bits once reports are treated.
pub after-more : (reports : List Report) (h : ℕ) (readable : Bool) (ready : ℕ) → ShowsBits readable ready →
    ShowsBits readable (bits_after h ready reports)
after-more [] h readable ready shows = shows
after-more (report ∷ reports) h readable ready shows =
    after-more reports h readable (if report.key == h then bit_or ready report.ready else ready) (by (report.key == h))
  where
    by : (b : Bool) → ShowsBits readable (if b then bit_or ready report.ready else ready)
    by true = shows-more readable ready report.ready shows
    by false = shows

-- The report of a handle that is registered with a key shows what it has.
after-own : (key : ℕ) (found : Option (Option ℕ)) (readable : Bool) (ready : ℕ) (reports : List Report) → found ≡ Some (Some key) →
    ShowsBits readable (bits_after key ready (report_of found readable ++ reports))
after-own key found readable ready reports is =
    subst (λ k. ShowsBits readable (bits_after key ready (report_of k readable ++ reports))) (sym is)
    (subst (λ b. ShowsBits readable (bits_after key (if b then bit_or ready (bits_of readable) else ready) reports)) (sym (equal-self key))
    (after-more reports key readable (bit_or ready (bits_of readable)) (shows-got readable ready)))

-- What reports show from all bits on they show behind another one.
after-other : (h : ℕ) (key : Option (Option ℕ)) (other readable : Bool) (reports : List Report) →
    ((ready : ℕ) → ShowsBits readable (bits_after h ready reports)) → (ready : ℕ) →
    ShowsBits readable (bits_after h ready (report_of key other ++ reports))
after-other h None other readable reports shows ready = shows ready
after-other h (Some None) other readable reports shows ready = shows ready
after-other h (Some (Some key)) other readable reports shows ready = shows (if key == h then bit_or ready (bits_of other) else ready)

-- The reports of handles show what each of them has, by its key.
pub after-due : (world : List HandleState) (keys : List (Option ℕ)) (handles : List ℕ) (h key : ℕ) → has_number h handles ≡ true →
    slice_get keys h ≡ Some (Some key) → (ready : ℕ) →
    ShowsBits (is_readable_at world h) (bits_after key ready (reports_of world keys handles))
after-due world keys [] h key due keyed ready = (let f : ⊥ = cc in absurd f)
after-due world keys (n ∷ handles) h key due keyed ready = elim (same-or-not h n) [
  | inl e ↦
      subst (λ k. ShowsBits (is_readable_at world h)
      (bits_after key ready (report_of (slice_get keys k) (is_readable_at world k) ++ reports_of world keys handles))) e
      (after-own key (slice_get keys h) (is_readable_at world h) ready (reports_of world keys handles) keyed)
  | inr e ↦
      after-other key (slice_get keys n) (is_readable_at world n) (is_readable_at world h) (reports_of world keys handles)
      (after-due world keys handles h key (sym (has-other h n handles e) ∙ due) keyed) ready
]

-- The bits of a handle that has this key after a report.
bits-reported : (kept : Kept) (report : Report) (h key : ℕ) → AreNamed kept → key_at kept h ≡ Some key →
    (io_at (reported kept report) h).ready ≡ (if report.key == key then bit_or (io_at kept h).ready report.ready else (io_at kept h).ready)
bits-reported kept report h key named keyed = elim (same-or-not key report.key) [
  | inl e ↦
      ap (λ x. (io_at (changed_in kept x (with_io (with_report report.ready))) h).ready) ((named h report.key).1 (keyed ∙ ap Some e))
      ∙ ap (λ (io : Scheduled). io.ready) (io-changed kept h (with_report report.ready) (keyed-record kept h key keyed))
      ∙ ap (λ b. if b then bit_or (io_at kept h).ready report.ready else (io_at kept h).ready) (sym (equal e))
  | inr e ↦
      other (named_at kept report.key) refl e
      ∙ ap (λ b. if b then bit_or (io_at kept h).ready report.ready else (io_at kept h).ready) (sym (unequal e))
]
  where
    equal : key ≡ report.key → (report.key == key) ≡ true
    equal e = grind (arith, nat_tests)

    unequal : key ≢ report.key → (report.key == key) ≡ false
    unequal e = grind (arith, nat_tests)

    other : (x : Option ℕ) → named_at kept report.key ≡ x → key ≢ report.key →
        (io_at (changed_in kept x (with_io (with_report report.ready))) h).ready ≡ (io_at kept h).ready
    other None is e = refl
    other (Some n) is e =
        ap (λ x. (unwrap_or (option_map (λ r. r.io) x) quiet).ready) (changed-other kept n (with_io (with_report report.ready)) h (λ same.
        e (some-same key report.key (sym keyed ∙ ap (key_at kept) same ∙ (named n report.key).0 is))))

-- The bits of a handle that has a key after reports.
bits-each : (reports : List Report) (kept : Kept) (h key : ℕ) → AreNamed kept → key_at kept h ≡ Some key →
    bits_after key (io_at kept h).ready reports ≡ (io_at (reported_each kept reports) h).ready
bits-each [] kept h key named keyed = refl
bits-each (report ∷ reports) kept h key named keyed =
    ap (λ bits. bits_after key bits reports) (sym (bits-reported kept report h key named keyed))
    ∙ bits-each reports (reported kept report) h key (named-changed kept report.key (with_io (with_report report.ready)) (λ one. refl)
    named)
    (keys-changed-named kept report.key (with_io (with_report report.ready)) (λ one. refl) h ∙ keyed)

-- Each handle has the key that it had.
keys-each : (reports : List Report) (kept : Kept) (h : ℕ) → key_at (reported_each kept reports) h ≡ key_at kept h
keys-each [] kept h = refl
keys-each (report ∷ reports) kept h =
    keys-each reports (reported kept report) h ∙ keys-changed-named kept report.key (with_io (with_report report.ready)) (λ one. refl) h

-- The bits once no report is treated.
pub bits-none : (key : Option ℕ) (ready : ℕ) → bits_by key ready [] ≡ ready
bits-none None ready = refl
bits-none (Some key) ready = refl

-- The bits of a handle that has a record, once reports are treated.
bits-treated : (reports : List Report) (kept : Kept) (h : ℕ) → AreNamed kept → (key : Option ℕ) → key_at kept h ≡ key →
    is_some (record_at kept h) ≡ true → bits_by key (io_at kept h).ready reports ≡ (io_at (reported_each kept reports) h).ready
bits-treated reports kept h named None keyed there = absurd (no-key (record_at kept h) keyed there)
  where
    no-key : (x : Option Record) → option_map (λ r. r.key) x ≡ None → is_some x ≡ true → ⊥
    no-key None keyed there = cc
    no-key (Some one) keyed there = cc
bits-treated reports kept h named (Some key) keyed there = bits-each reports kept h key named keyed

-- Handles in memory whose reports were treated.
pub shown-treated : {I : Type 0} (view : I → IoView) (old new : Handling I) (reports : List Report) → AreRecorded old.table old.records →
    AreNamed old.records → new ≡ record old { records = reported_each old.records reports } → AreShown view old reports →
    AreShown view new []
shown-treated view old new reports recorded named is shown =
    subst (λ x. AreShown view x []) (sym is) (record {
      owned = λ h known key at. keys-each reports old.records h ∙ shown.owned h known key at;
      shown = λ h known. subst (IsShown (view old.io) h) (bits-treated reports old.records h named (key_at old.records h) refl
          (recorded h ∙ known) ∙ sym (bits-none (key_at (reported_each old.records reports) h) _)) (shown.shown h known);
    })

-- Handles of which none is due have the bits of what the world has for them.
pub shown-reported : (table : Table) (records : Kept) (io : IoView) → io.due ≡ [] → AreKeyed table io.keys →
    ((h : ℕ) → is_known table h ≡ true → IsShown io h (bits_by (key_at records h) (io_at records h).ready [])) →
    AreReported table records io.world
shown-reported table records io none keyed shown = λ h known. elim (shown h known (keyed h known)) [
  | inl due ↦ (let f : false ≡ true = sym (ap (has_number h) none) ∙ due in let g : ⊥ = cc in absurd g)
  | inr bits ↦ subst (ShowsBits (is_readable_at io.world h)) (bits-none (key_at records h) (io_at records h).ready) bits
]

-- A wait put the reports of what is due into an empty list.
pub shown-waited : {I : Type 0} (view : I → IoView) (tells memory : Bool) (old new : Handling I) (came : List Report) → IsTrue memory →
    IsTrue tells → new ≡ record old { io = new.io } → IsWaited tells memory (view old.io) (view new.io) →
    came ≡ reports_of (view old.io).world (view old.io).keys (view old.io).due → AreShown view old [] → AreShown view new came
shown-waited view tells memory old new came in_memory tell is waited reports shown = record {
  owned = λ h known key at.
      ap (λ x. key_at x.records h) is
      ∙ shown.owned h (held h known) key (ap (λ ks. slice_get ks h) (sym (waited.keys_are in_memory)) ∙ at);
  shown = λ h known keyed. (
      let before : is_keyed (view old.io).keys h ≡ true = ap (λ ks. is_keyed ks h) (sym (waited.keys_are in_memory)) ∙ keyed in
      let key = keyed-key (view old.io).keys h before in
      let own : key_at new.records h ≡ Some key.0 = ap (λ x. key_at x.records h) is ∙ shown.owned h (held h known) key.0 key.1 in
      let bits : (io_at new.records h).ready ≡ (io_at old.records h).ready = ap (λ x. (io_at x.records h).ready) is in
      inr (subst (λ w. ShowsBits (is_readable_at w h) (bits_by (key_at new.records h) (io_at new.records h).ready came)) (sym
      (waited.world tell))
      (subst (λ k. ShowsBits (is_readable_at (view old.io).world h) (bits_by k (io_at new.records h).ready came)) (sym own)
      (subst (λ r. ShowsBits (is_readable_at (view old.io).world h) (bits_after key.0 r came)) (sym bits)
      (elim (shown.shown h (held h known) before) [
        | inl due ↦
            subst (λ rs. ShowsBits (is_readable_at (view old.io).world h) (bits_after key.0 (io_at old.records h).ready rs)) (sym reports)
            (after-due (view old.io).world (view old.io).keys (view old.io).due h key.0 due key.1 (io_at old.records h).ready)
        | inr has ↦
            after-more came key.0 (is_readable_at (view old.io).world h) (io_at old.records h).ready
            (subst (ShowsBits (is_readable_at (view old.io).world h)) (bits-none (key_at old.records h) (io_at old.records h).ready) has)
      ])))));
}
  where
    held : (h : ℕ) → is_known new.table h ≡ true → is_known old.table h ≡ true
    held h known = subst (λ t. is_known t h ≡ true) (ap (λ x. x.table) is) known

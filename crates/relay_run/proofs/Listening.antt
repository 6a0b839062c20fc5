-- What it leaves of an object that a driver over it listened, or couldn't.
use Rattle.std.proofs.Common.{ℕ, zero, suc, ◌≡◌, ◌≢◌, ◌≤◌, ◌∙◌, inl, inr, ap, sym, refl, subst, arith, Bool, IsTrue, true, false}
use Rattle.std.proofs.Common.{[], ◌∷◌, ◌++◌, length, Some, None}
use Rattle.std.specs.Prelude.{is_some, slice_get}
use Rattle.std.specs.FinMap as map
use Rattle.rent_buf.specs.Counts.{Rose}
use Rattle.handle_core.specs.Table.{by_user}
use Rattle.machine.specs.World.{fresh}
use Rattle.machine.specs.declared.world.HandleKind.TheVariants.{Listener, Stream}
use Rattle.machine.specs.declared.world.HandleState.{HandleState}
use Rattle.machine.proofs.Numbers.{same-or-not}
use Rattle.driver_core.proofs.Maps.{put-other}
use Rattle.ready_driver.specs.Dialing.{IsOpened, IsUnopened}
use Rattle.ready_driver.specs.Io.{IoView, IsLater}
use Rattle.ready_driver.specs.Registry.{AreKeyed, Handling, TriesFor, is_known, is_old}
use Rattle.ready_driver.specs.Reports.{has_key, is_keyed, with_key}
use Rattle.ready_driver.specs.declared.non_block.NonBlockError.{NonBlockError}
use Rattle.ready_driver.specs.declared.non_block.NonBlockError.TheVariants as non_block
use Rattle.relay_run.specs.Relaying.{HasListened, IsListening, RunsOver, refused_by}
use Rattle.relay_run.specs.declared.run.Relayed.TheVariants.{Fault, OutOfMemory}

-- A run that ran out of memory came to just that.
pub starves : (memory : Bool) (limit rounds : ℕ) (old new : IoView) → old.faults ≤ new.faults
    → RunsOver memory limit rounds old new OutOfMemory
starves memory limit rounds old new order = record {
  fault = λ no. absurd cc;
  order = order;
  listens = tt;
  none = tt;
  opens = λ is. tt;
}

-- No key is among none.
no_keys : (k : ℕ) → is_keyed [] k ≡ true → ⊥
no_keys zero there = cc
no_keys (suc k) there = cc

-- Each handle but the first of one that listens: there is none.
going_single : (h k : ℕ) (handle : HandleState) → h ≡ 0 → k ≢ h → slice_get (fresh Listener ∷ []) k ≡ Some handle
    → (handle.kind ≡ Stream) × (handle.ended ≡ false)
going_single h zero handle at other there = absurd (other (sym at))
going_single h (suc k) handle at other there = absurd cc

-- A world in memory whose one handle listens and is registered.
single_listens : {I : Type 0} (view : I → IoView) (all : Handling I) (h : ℕ) → h ≡ 0 → (view all.io).world ≡ fresh Listener ∷ []
    → (key : ℕ) → (view all.io).keys ≡ Some key ∷ [] → (view all.io).made ≡ 1
    → ((k : ℕ) → k ≢ h → is_known all.table k ≡ true → ⊥) → IsListening view all h
single_listens view all h at world key keys made alone = record {
  listens = record {
    handle = fresh Listener;
    there = ap (λ w. slice_get w h) world ∙ ap (slice_get (fresh Listener ∷ [])) at;
    kind = refl;
  };
  keyed = record {
    keyed = λ k known. elim (same-or-not k h) [
      | inl e ↦ ap has_key (ap (λ ks. slice_get ks k) keys ∙ ap (slice_get (Some key ∷ [])) (e ∙ at))
      | inr e ↦ absurd (alone k e known)
    ];
    sized = ap length keys ∙ sym made;
  };
  going = λ k handle other there. going_single h k handle at other (sym (ap (λ w. slice_get w k) world) ∙ there);
}

-- What trying to register a handle left of the object.
tried : (tells memory : Bool) (h key : ℕ) (old new : IoView) (taken : Bool) → TriesFor tells memory h key old new taken
    → IsLater old new × (new.made ≡ old.made) × (IsTrue tells → new.world ≡ old.world)
    × (IsTrue memory → new.keys ≡ with_key old.keys h (Some key))
tried tells memory h key old new true tries = (tries.0.later, tries.0.made, tries.0.world, tries.0.keys_are)
tried tells memory h key old new false tries = (tries.0.later, tries.0.made, tries.0.world, λ is. absurd (tries.1 is))

-- A driver over an object listened.
pub opened_listens : {I : Type 0} (view : I → IoView) (tells memory : Bool) (io : I) (old new : Handling I) (h : ℕ)
    → (IsTrue memory → IsTrue tells) → old.io ≡ io
    → ((view io).world ≡ [] → (view io).keys ≡ [] → AreKeyed old.table (view old.io).keys)
    → IsOpened view tells memory Listener old new h → HasListened view memory (view io) new h
opened_listens view tells memory io old new h shows same stands opened =
    let given = opened.made in
    let rest = tried tells memory h opened.user.key (view opened.mid.io) (view new.io) opened.user.taken opened.user.tries in
    record {
      order =
          let first = given.later.faults in
          let second = rest.0.faults in
          let start = ap (λ i. (view i).faults) same in omega (arith, first, second, start);
      made = rest.1 ∙ given.made ∙ ap (λ i. suc ((view i).made)) same;
      listening = λ is_empty.
          let is = is_empty.is_memory in
          let at : h ≡ 0 = given.number ∙ ap (λ i. (view i).made) same ∙ is_empty.made in
          single_listens view new h at
          (rest.2 (shows is) ∙ given.world (shows is) ∙ ap (λ i. (view i).world ++ fresh Listener ∷ []) same
          ∙ ap (λ w. w ++ fresh Listener ∷ []) is_empty.world) opened.user.key
          (rest.3 is ∙ ap (λ ks. with_key ks h (Some opened.user.key)) (given.keys is ∙ ap (λ i. (view i).keys ++ None ∷ []) same
          ∙ ap (λ ks. ks ++ None ∷ []) is_empty.keys) ∙ ap (λ n. with_key (None ∷ []) n (Some opened.user.key)) at)
          (rest.1 ∙ given.made ∙ ap (λ i. suc ((view i).made)) same ∙ ap suc is_empty.made)
          (λ k other known.
          let before : is_known old.table k ≡ true =
          sym (ap is_some (ap (λ m. map.get m k) (opened.user.table ∙ ap (λ m. map.insert m h by_user) opened.holders)
          ∙ put-other old.table.holders h by_user k other)) ∙ known in
          no_keys k (sym (ap (λ ks. is_keyed ks k) (ap (λ i. (view i).keys) same ∙ is_empty.keys))
          ∙ stands is_empty.world is_empty.keys k before));
    }

-- It couldn't: a fault is the object's, since a number was left for the handle.
pub unopened_runs : {I : Type 0} (view : I → IoView) (tells memory : Bool) (limit rounds : ℕ) (io : I) (old new : Handling I)
    (why : NonBlockError) → old.io ≡ io → is_old old.table (view old.io).made ≡ false → IsUnopened view tells memory old new why
    → RunsOver memory limit rounds (view io) (view new.io) (refused_by why)
unopened_runs view tells memory limit rounds io old new non_block.OutOfMemory same number unopened =
    starves memory limit rounds (view io) (view new.io)
    (subst (λ i. (view i).faults ≤ (view new.io).faults) same unopened.object.later.faults)
unopened_runs view tells memory limit rounds io old new (non_block.Fault code) same number unopened = record {
  fault = λ is. elim unopened.cause [
    | inl cause ↦ subst (λ i. Rose (view i).faults (view new.io).faults) same cause.0
    | inr cause ↦ (let no : ◌≡◌ {A = Bool} true false = sym cause.1 ∙ number in absurd cc)
  ];
  order = subst (λ i. (view i).faults ≤ (view new.io).faults) same unopened.object.later.faults;
  listens = tt;
  none = tt;
  opens = λ is. tt;
}

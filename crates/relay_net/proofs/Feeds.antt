-- What arrives at a handle in memory joins the end of its direction's bytes on their way.
use Rattle.std.proofs.Common.{ℕ, zero, suc, ◌≡◌, ◌<◌, ◌∙◌, ap, sym, refl, subst, arith, List, [], ◌∷◌, ◌++◌, length}
use Rattle.std.proofs.Common.{inl, inr, Bool, true, false}
use Rattle.std.proofs.Common.{Option, Some, None, Ok, Err}
use Rattle.std.proofs.lemmas.Bool.Decides.{nat_tests}
use Rattle.std.specs.Prelude.{OnOk, Result, nat_lt, option_map, slice_get, unwrap_or}
use Rattle.std.proofs.lemmas.List.{append_assoc}
use Rattle.machine.specs.Lists.{amended, passes}
use Rattle.machine.specs.World.{WorldEnds, WorldFeeds, input_at, refuses_feed, with_end, with_input}
use Rattle.machine.specs.declared.world.WorldError.{WorldError}
use Rattle.machine.specs.declared.world.WorldError.TheVariants.{BadHandleEvent, OutOfMemory}
use Rattle.machine.specs.declared.world.HandleState.{HandleState}
use Rattle.machine.proofs.Amended.{get-amended, get-amended-other}
use Rattle.machine.proofs.Numbers.{same-or-not}
use Rattle.net_stream.specs.Told.{output_at}
use Rattle.relay_net.specs.Flow.{line}
use Rattle.relay_net.specs.Keeping.{HasEnded}
use Rattle.relay_net.proofs.Marks.{KeepsEnds}

-- What was sent is as it was at every handle.
fed_output : (world : List HandleState) (h to : ℕ) (bytes : List ℕ)
    → output_at (amended world h (with_input bytes)) to ≡ output_at world to
fed_output world h to bytes = elim (same-or-not to h) [
  | inl same ↦ subst (λ k. output_at (amended world h (with_input bytes)) k ≡ output_at world k) (sym same)
      (ap (λ found. unwrap_or (option_map (λ handle. handle.output) found) []) (get-amended (with_input bytes) world h)
      ∙ by-handle (slice_get world h))
  | inr other ↦ ap (λ found. unwrap_or (option_map (λ handle. handle.output) found) [])
      (get-amended-other (with_input bytes) world h to other)
]
  where
    by-handle : (found : Option HandleState)
        → unwrap_or (option_map (λ handle. handle.output) (option_map (with_input bytes) found)) []
        ≡ unwrap_or (option_map (λ handle. handle.output) found) []
    by-handle None = refl
    by-handle (Some handle) = refl

-- What waits at the handle has the bytes at its end.
fed_input : (world : List HandleState) (h : ℕ) (bytes : List ℕ) (handle : HandleState) → slice_get world h ≡ Some handle
    → input_at (amended world h (with_input bytes)) h ≡ input_at world h ++ bytes
fed_input world h bytes handle there =
    ap (λ found. unwrap_or (option_map (λ one. one.input) found) []) (get-amended (with_input bytes) world h)
    ∙ ap (λ found. unwrap_or (option_map (λ one. one.input) (option_map (with_input bytes) found)) []) there
    ∙ ap (λ found. unwrap_or (option_map (λ one. one.input) found) [] ++ bytes) (sym there)

-- So the bytes on their way from it have them at their end.
pub fed_line : (old new : List HandleState) (h to : ℕ) (held bytes : List ℕ) (handle : HandleState) → slice_get old h ≡ Some handle
    → new ≡ amended old h (with_input bytes) → line new h to held ≡ line old h to held ++ bytes
fed_line old new h to held bytes handle there is =
    ap (λ world. line world h to held) is
    ∙ ap (λ sent. sent ++ (held ++ input_at (amended old h (with_input bytes)) h)) (fed_output old h to bytes)
    ∙ ap (λ waits. output_at old to ++ (held ++ waits)) (fed_input old h bytes handle there)
    ∙ ap (λ rest. output_at old to ++ rest) (sym (append_assoc held (input_at old h) bytes))
    ∙ sym (append_assoc (output_at old to) (held ++ input_at old h) bytes)

-- A place of a list has an element.
found_within : (world : List HandleState) (h : ℕ) → h < length world → (handle : HandleState) × (slice_get world h ≡ Some handle)
found_within [] h within = absurd (omega (arith, within))
found_within (handle ∷ world) zero within = (handle, refl)
found_within (handle ∷ world) (suc h) within = found_within world h (omega (arith, within))

-- The same of a call that answers so.
pub feeds_line : (old new : List HandleState) (h : ℕ) (bytes : List ℕ) (result : Result Unit WorldError) → nat_lt h (length old) ≡ true
    → WorldFeeds bytes old h new result
    → OnOk result ((to : ℕ) (held : List ℕ) → line new h to held ≡ line old h to held ++ bytes)
feeds_line old new h bytes (Ok done) within feeds = λ to held.
    let below : h < length old = grind (arith, nat_tests) in
    let found = found_within old h below in
    fed_line old new h to held bytes found.0 found.1 feeds.1
feeds_line old new h bytes (Err why) within feeds = tt

-- A change of one handle that keeps its kind, and its end if that was marked, keeps ends.
changed_kept : (change : HandleState → HandleState) → ((handle : HandleState) → (change handle).kind ≡ handle.kind)
    → (world : List HandleState) (h : ℕ)
    → ((handle : HandleState) → slice_get world h ≡ Some handle → (handle.input ≡ []) × (handle.ended ≡ true)
    → ((change handle).input ≡ []) × ((change handle).ended ≡ true)) → KeepsEnds world (amended world h change)
changed_kept change kind world h spent g ended = elim (same-or-not g h) [
  | inl e ↦ record {
    handle = change ended.handle;
    there = ap (slice_get (amended world h change)) e
        ∙ (get-amended change world h ∙ ap (option_map change) (sym (ap (slice_get world) e) ∙ ended.there));
    spent = λ stream.
        let was = sym (kind ended.handle) ∙ stream in
        spent ended.handle (sym (ap (slice_get world) e) ∙ ended.there) (ended.spent was);
  }
  | inr e ↦ record { handle = ended.handle; there = get-amended-other change world h g e ∙ ended.there; spent = ended.spent }
]

-- Handles that stay as they are keep ends.
same_ends : (old new : List HandleState) → new ≡ old → KeepsEnds old new
same_ends old new same h ended = subst (λ w. HasEnded w h) (sym same) ended

-- What arrives keeps ends: a handle whose end is marked takes nothing.
pub fed_kept : (bytes : List ℕ) (old new : List HandleState) (h : ℕ) (result : Result Unit WorldError) → WorldFeeds bytes old h new result
    → KeepsEnds old new
fed_kept bytes old new h (Ok done) feeds = subst (KeepsEnds old) (sym feeds.1)
    (changed_kept (with_input bytes) (λ handle. refl) old h (λ handle there is. absurd (open_end handle there is.1)))
  where
    open_end : (handle : HandleState) → slice_get old h ≡ Some handle → handle.ended ≡ true → ⊥
    open_end handle there ended =
        let takes : refuses_feed handle ≡ false = sym (ap (passes refuses_feed) there) ∙ feeds.0 in
        let no : handle.ended ≡ false = search (arith, nat_tests) in
        let both : ◌≡◌ {A = Bool} true false = sym ended ∙ no in
        absurd cc
fed_kept bytes old new h (Err BadHandleEvent) feeds = same_ends old new feeds.1
fed_kept bytes old new h (Err OutOfMemory) feeds = same_ends old new feeds.1

-- So does the end of what arrives.
pub ended_kept : (old new : List HandleState) (h : ℕ) (result : Result Unit WorldError) → WorldEnds old h new result → KeepsEnds old new
ended_kept old new h (Ok done) ends = subst (KeepsEnds old) (sym ends.1)
    (changed_kept with_end (λ handle. refl) old h (λ handle there is. (is.0, refl)))
ended_kept old new h (Err BadHandleEvent) ends = same_ends old new ends.1
ended_kept old new h (Err OutOfMemory) ends = absurd ends

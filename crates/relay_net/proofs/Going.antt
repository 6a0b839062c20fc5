-- Handles that listen, and streams whose end isn't marked, through what calls do to handles.
use Rattle.std.proofs.Common.{ℕ, ◌≡◌, ◌∙◌, ap, sym, refl, subst, List, [], ◌∷◌, ◌++◌, inl, inr}
use Rattle.std.specs.Prelude.{option_map, slice_get}
use Rattle.machine.specs.declared.world.HandleKind.TheVariants.{Stream}
use Rattle.machine.specs.declared.world.HandleState.{HandleState}
use Rattle.machine.specs.Effect.{sent_to_kind, with_sent, without_front}
use Rattle.machine.specs.Lists.{amended}
use Rattle.machine.specs.World.{fresh}
use Rattle.machine.proofs.Amended.{get-amended, get-amended-other, there-before}
use Rattle.machine.proofs.Numbers.{same-or-not}
use Rattle.driver_core.proofs.Lists.{get-front}
use Rattle.relay_net.specs.Keeping.{MovesBetween}
use Rattle.relay_net.specs.Listening.{AreGoingBut, IsListener}
use Rattle.relay_net.proofs.Places.{get_pushed}
use Rattle.net_stream.proofs.Handles.{same_kind}

-- A change of a handle keeps its kind, and the mark of a stream's end.
record KeepsGoing (change : HandleState → HandleState) : Type 0 where
  kind : (handle : HandleState) → (change handle).kind ≡ handle.kind
  ended : (handle : HandleState) → handle.kind ≡ Stream → (change handle).ended ≡ handle.ended

-- Bytes that leave the input are such a change, and so are bytes that are sent.
taken_going : (k : ℕ) → KeepsGoing (without_front k)
taken_going k = record { kind = λ handle. refl; ended = λ handle stream. refl }

-- So does what is sent.
sent_going : (bytes : List ℕ) → KeepsGoing (with_sent bytes)
sent_going bytes = record {
  kind = λ handle. same_kind handle.kind bytes handle;
  ended = λ handle stream. ap (λ k. (sent_to_kind k bytes handle).ended) stream;
}

-- What listens listens still, once a handle changed so.
amended_listens : (change : HandleState → HandleState) → KeepsGoing change → (world : List HandleState) (h g : ℕ) → IsListener world g
    → IsListener (amended world h change) g
amended_listens change keeps world h g listens = elim (same-or-not g h) [
  | inl e ↦ record {
    handle = change listens.handle;
    there = ap (slice_get (amended world h change)) e
        ∙ (get-amended change world h ∙ ap (option_map change) (sym (ap (slice_get world) e) ∙ listens.there));
    kind = keeps.kind listens.handle ∙ listens.kind;
  }
  | inr e ↦ record { handle = listens.handle; there = get-amended-other change world h g e ∙ listens.there; kind = listens.kind }
]

-- Streams whose end isn't marked are such streams still.
amended_going : (change : HandleState → HandleState) → KeepsGoing change → (world : List HandleState) (h listener : ℕ)
    → AreGoingBut listener world → AreGoingBut listener (amended world h change)
amended_going change keeps world h listener going g handle other there = elim (same-or-not g h) [
  | inl e ↦ let was = there-before change (slice_get world h) handle (sym (get-amended change world h)
      ∙ (sym (ap (slice_get (amended world h change)) e) ∙ there)) in
      let is = going g was.0 other (ap (slice_get world) e ∙ was.1) in (
        ap (λ x. x.kind) was.2 ∙ (keeps.kind was.0 ∙ is.0),
        ap (λ x. x.ended) was.2 ∙ (keeps.ended was.0 is.0 ∙ is.1),
      )
  | inr e ↦ going g handle other (sym (get-amended-other change world h g e) ∙ there)
]

-- So it is of what moves between two handles.
pub moves_listens : (old new : List HandleState) (near far : ℕ) → MovesBetween old near far new → (h : ℕ) → IsListener old h
    → IsListener new h
moves_listens old new near far (inl (inl same)) h listens = subst (λ w. IsListener w h) (sym same) listens
moves_listens old new near far (inl (inr taken)) h listens =
    subst (λ w. IsListener w h) (sym taken.1) (amended_listens (without_front taken.0) (taken_going taken.0) old near h listens)
moves_listens old new near far (inr (inl same)) h listens = subst (λ w. IsListener w h) (sym same) listens
moves_listens old new near far (inr (inr sent)) h listens =
    subst (λ w. IsListener w h) (sym sent.1) (amended_listens (with_sent sent.0) (sent_going sent.0) old far h listens)

-- Where no handle but one is marked, none but it is behind what moves.
pub moves_going : (old new : List HandleState) (near far : ℕ) → MovesBetween old near far new → (h : ℕ) → AreGoingBut h old
    → AreGoingBut h new
moves_going old new near far (inl (inl same)) h going = subst (AreGoingBut h) (sym same) going
moves_going old new near far (inl (inr taken)) h going =
    subst (AreGoingBut h) (sym taken.1) (amended_going (without_front taken.0) (taken_going taken.0) old near h going)
moves_going old new near far (inr (inl same)) h going = subst (AreGoingBut h) (sym same) going
moves_going old new near far (inr (inr sent)) h going =
    subst (AreGoingBut h) (sym sent.1) (amended_going (with_sent sent.0) (sent_going sent.0) old far h going)

-- And of a stream more.
pub appended_listens : (world : List HandleState) (h : ℕ) → IsListener world h → IsListener (world ++ fresh Stream ∷ []) h
appended_listens world h listens = record {
  handle = listens.handle;
  there = get-front world (fresh Stream ∷ []) h listens.handle listens.there;
  kind = listens.kind;
}

-- Nor behind a new handle.
pub appended_going : (world : List HandleState) (h : ℕ) → AreGoingBut h world → AreGoingBut h (world ++ fresh Stream ∷ [])
appended_going world h going g handle other there = elim (get_pushed world (fresh Stream) g handle there) [
  | inl was ↦ going g handle other was
  | inr new ↦ (ap (λ x. x.kind) new.0, ap (λ x. x.ended) new.0)
]

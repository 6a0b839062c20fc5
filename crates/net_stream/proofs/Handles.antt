-- What a receive and a send leave of an object's handles: other handles' bytes, and what was sent, or waits, at their own.
use Rattle.std.proofs.Common.{ℕ, ◌≡◌, ◌≢◌, ◌∙◌, ap, sym, refl, subst, List, [], Option, Some, None, inl, inr}
use Rattle.std.specs.Prelude.{option_map, unwrap_or, slice_get}
use Rattle.machine.specs.declared.world.HandleKind.{HandleKind}
use Rattle.machine.specs.declared.world.HandleKind.TheVariants.{Stream, Pipe, Datagram, File, Listener}
use Rattle.machine.specs.declared.world.HandleState.{HandleState}
use Rattle.machine.specs.Effect.{sent_to_kind, with_sent, without_front}
use Rattle.machine.specs.Lists.{amended}
use Rattle.machine.specs.World.{input_at}
use Rattle.machine.proofs.Amended.{get-amended, get-amended-other}
use Rattle.machine.proofs.Numbers.{same-or-not}
use Rattle.net_stream.specs.Told.{IsSentTo, IsStream, IsTaken, output_at}

-- What waits at a handle that was looked up.
abbrev input_in : Option HandleState → List ℕ
input_in found = unwrap_or (option_map (λ handle. handle.input) found) []

-- What was sent to it.
abbrev output_in : Option HandleState → List ℕ
output_in found = unwrap_or (option_map (λ handle. handle.output) found) []

-- A receive leaves what was sent, at every handle.
pub taken_sent : (old new : List HandleState) (h g : ℕ) → IsTaken old h new → output_at new g ≡ output_at old g
taken_sent old new h g (inl same) = ap (λ ws. output_at ws g) same
taken_sent old new h g (inr taken) = ap (λ ws. output_at ws g) taken.1 ∙ elim (same-or-not g h) [
  | inl e ↦ subst (λ n. output_at (amended old h (without_front taken.0)) n ≡ output_at old n) (sym e)
      (ap output_in (get-amended (without_front taken.0) old h) ∙ same-output taken.0 (slice_get old h))
  | inr e ↦ ap output_in (get-amended-other (without_front taken.0) old h g e)
]
  where
    same-output : (k : ℕ) (found : Option HandleState) → output_in (option_map (without_front k) found) ≡ output_in found
    same-output k None = refl
    same-output k (Some handle) = refl

-- It leaves what waits at every other handle.
pub taken_others : (old new : List HandleState) (h g : ℕ) → g ≢ h → IsTaken old h new → input_at new g ≡ input_at old g
taken_others old new h g other (inl same) = ap (λ ws. input_at ws g) same
taken_others old new h g other (inr taken) =
    ap (λ ws. input_at ws g) taken.1 ∙ ap input_in (get-amended-other (without_front taken.0) old h g other)

-- A stream stays one.
pub taken_stream : (old new : List HandleState) (h g : ℕ) → IsTaken old h new → IsStream old g → IsStream new g
taken_stream old new h g (inl same) stream = subst (λ ws. IsStream ws g) (sym same) stream
taken_stream old new h g (inr taken) stream =
    subst (λ ws. IsStream ws g) (sym taken.1) (elim (same-or-not g h) [
      | inl e ↦ record {
        handle = without_front taken.0 stream.handle;
        there = ap (slice_get (amended old h (without_front taken.0))) e ∙ (get-amended (without_front taken.0) old h
            ∙ ap (option_map (without_front taken.0)) (sym (ap (slice_get old) e) ∙ stream.there));
        kind = stream.kind;
      }
      | inr e ↦ record {
        handle = stream.handle;
        there = get-amended-other (without_front taken.0) old h g e ∙ stream.there;
        kind = stream.kind;
      }
    ])

-- Of a handle that isn't a pipe a send leaves what waits at it.
same_input : (bytes : List ℕ) (handle : HandleState) → handle.kind ≡ Stream → (with_sent bytes handle).input ≡ handle.input
same_input bytes handle kind = ap (λ k. (sent_to_kind k bytes handle).input) kind

-- It leaves the kind.
pub same_kind : (kind : HandleKind) (bytes : List ℕ) (handle : HandleState) → (sent_to_kind kind bytes handle).kind ≡ handle.kind
same_kind Pipe bytes handle = refl
same_kind Stream bytes handle = refl
same_kind Datagram bytes handle = refl
same_kind File bytes handle = refl
same_kind Listener bytes handle = refl

-- A send to a stream leaves what waits, at every handle.
pub sent_waiting : (old new : List HandleState) (h g : ℕ) → IsStream old h → IsSentTo old h new → input_at new g ≡ input_at old g
sent_waiting old new h g stream (inl same) = ap (λ ws. input_at ws g) same
sent_waiting old new h g stream (inr sent) = ap (λ ws. input_at ws g) sent.1 ∙ elim (same-or-not g h) [
  | inl e ↦ subst (λ n. input_at (amended old h (with_sent sent.0)) n ≡ input_at old n) (sym e)
      (ap input_in (get-amended (with_sent sent.0) old h ∙ ap (option_map (with_sent sent.0)) stream.there)
      ∙ (same_input sent.0 stream.handle stream.kind ∙ ap input_in (sym stream.there)))
  | inr e ↦ ap input_in (get-amended-other (with_sent sent.0) old h g e)
]

-- It leaves what was sent to every other handle.
pub sent_others : (old new : List HandleState) (h g : ℕ) → g ≢ h → IsSentTo old h new → output_at new g ≡ output_at old g
sent_others old new h g other (inl same) = ap (λ ws. output_at ws g) same
sent_others old new h g other (inr sent) =
    ap (λ ws. output_at ws g) sent.1 ∙ ap output_in (get-amended-other (with_sent sent.0) old h g other)

-- A stream stays one.
pub sent_stream : (old new : List HandleState) (h g : ℕ) → IsSentTo old h new → IsStream old g → IsStream new g
sent_stream old new h g (inl same) stream = subst (λ ws. IsStream ws g) (sym same) stream
sent_stream old new h g (inr sent) stream =
    subst (λ ws. IsStream ws g) (sym sent.1) (elim (same-or-not g h) [
      | inl e ↦ record {
        handle = with_sent sent.0 stream.handle;
        there = ap (slice_get (amended old h (with_sent sent.0))) e ∙ (get-amended (with_sent sent.0) old h
            ∙ ap (option_map (with_sent sent.0)) (sym (ap (slice_get old) e) ∙ stream.there));
        kind = same_kind stream.handle.kind sent.0 stream.handle ∙ stream.kind;
      }
      | inr e ↦ record {
        handle = stream.handle;
        there = get-amended-other (with_sent sent.0) old h g e ∙ stream.there;
        kind = stream.kind;
      }
    ])

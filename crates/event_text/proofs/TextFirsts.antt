-- What is read by the first of some words.
use Rattle.std.proofs.Common.{◌≡◌, ℕ, List, [], ◌∷◌, refl}
use Rattle.std.specs.Prelude.{true, false, bytes_eq, codes}
use Rattle.event_text.specs.TextReaders.{behind_first, first_of}
use Rattle.event_text.specs.TextRequestReads.{request_of, request_by, place_request_by, path_request_by, handle_request_by}
use Rattle.event_text.specs.TextEventReads.{event_of, linked_by, external_by, created_by, numbered_by}

-- A request is read by the first of its words; by none there is none.
pub request-first : (words : List (List ℕ)) → request_by (first_of words) (behind_first words) ≡ request_of words
unfolding request_by place_request_by path_request_by handle_request_by
request-first [] = refl
request-first (word ∷ words) = refl

-- So is an external event,
pub external-first : (words : List (List ℕ)) → external_by (first_of words) (behind_first words) ≡ event_of true words
unfolding external_by created_by numbered_by
external-first [] = refl
external-first (word ∷ words) = refl

-- .. and any, where the first word is neither `turn` nor `exec`.
pub other-first : (words : List (List ℕ)) → bytes_eq (first_of words) (codes "turn") ≡ false
    → bytes_eq (first_of words) (codes "exec") ≡ false
    → linked_by (first_of words) (behind_first words) ≡ event_of false words
unfolding linked_by external_by created_by numbered_by
other-first [] turn exec = refl
other-first (word ∷ words) turn exec = rw (turn, exec) refl

-- The links of data words, as they grow and as one more word joins.
use Rattle.std.proofs.Common.{◌≡◌, ◌⊎◌, inl, inr, ℕ, zero, suc, ◌<◌, ◌≤◌, Bool, true, false, List, [], ◌∷◌, ◌++◌, length, get_or, set, Some}
use Rattle.std.proofs.Common.{slice_get, refl, sym, ◌∙◌, ap, arith}
use Rattle.std.proofs.lemmas.List.{get_or-set_same, get_or-set_other, length-set}
use Rattle.ring_core.specs.declared.links.TheConstants.{FAR}
use Rattle.ring_core.specs.Links.{Linked, LinksTo, AreLinked, NextLinkFor, Lengthens}
use Rattle.machine.proofs.Numbers.{below-or-not, same-or-not}

-- Some links, where each word that is kept has its own, or not.
abbrev pub linked_by : List ℕ → Bool → Linked
linked_by slots complete = record { slots = slots; complete = complete }

-- Links that grew name what they named.
pub linked-grown : (complete : Bool) (before now : List ℕ) (flags : List Bool) (words : List ℕ) → Lengthens complete before now →
    AreLinked (linked_by before complete) flags words → AreLinked (linked_by now complete) flags words
linked-grown complete before now flags words grown linked slot w kept here =
    let link : LinksTo (linked_by before complete) slot w = linked slot w kept here in
    elim (below-or-not w (length before)) [
      | inl within ↦ record {
        names = λ inside other. grown.same w within ∙ link.names within (λ is. other (grown.same w within ∙ is));
        misses = λ beyond near. (let longer = grown.longer in absurd (omega arith));
      }
      | inr beyond ↦ elim (below-or-not w FAR) [
        | inl near ↦ record {
          names = λ inside other. (let count = ap length (grown.only (link.misses beyond near)) in absurd (omega arith));
          misses = λ past close. link.misses beyond near;
        }
        | inr far ↦ record {
          names = λ inside other. (let most = grown.near in absurd (omega arith));
          misses = λ past close. absurd (omega arith);
        }
      ]
    ]

-- A slot that is kept behind one more is the last one, or was kept.
last-or-kept : (flags : List Bool) (slot : ℕ) → slice_get (flags ++ true ∷ []) slot ≡ Some true →
    (slot ≡ length flags) ⊎ (slice_get flags slot ≡ Some true)
last-or-kept [] zero kept = inl refl
last-or-kept [] (suc slot) kept = cc
last-or-kept (f ∷ flags) zero kept = inr kept
last-or-kept (f ∷ flags) (suc slot) kept = elim (last-or-kept flags slot kept) [ inl last ↦ inl (omega arith) | inr there ↦ inr there ]

-- A word without a link joins: if it isn't far, not each has its link any more.
pub linked-without : (complete left : Bool) (before now : List ℕ) (flags : List Bool) (words : List ℕ) (word : ℕ) →
    Lengthens complete before now → AreLinked (linked_by before complete) flags words → slice_get words (length flags) ≡ Some word →
    length now ≤ word → (word < FAR → left ≡ false) → (complete ≡ false → left ≡ false) →
    AreLinked (linked_by now left) (flags ++ true ∷ []) words
linked-without complete left before now flags words word grown linked joins beyond near lost slot w kept here =
    elim (last-or-kept flags slot kept) [
      | inl last ↦ (
          let same : Some w ≡ Some word = sym here ∙ ap (slice_get words) last ∙ joins in
          let equal : w ≡ word = cc in record {
            names = λ inside other. absurd (omega arith);
            misses = λ past close. near (omega arith);
          })
      | inr there ↦ (
          let link = linked-grown complete before now flags words grown linked slot w there here in record {
            names = link.names;
            misses = λ past close. lost (link.misses past close);
          })
    ]

-- A word with a link joins: the link names its slot, unless the word is kept on another.
pub linked-joined : (complete : Bool) (links : List ℕ) (flags : List Bool) (words : List ℕ) (word link : ℕ) →
    AreLinked (linked_by links complete) flags words → slice_get words (length flags) ≡ Some word → word < length links →
    NextLinkFor flags words (get_or links word 0) word (length flags) link →
    AreLinked (linked_by (set links word link) complete) (flags ++ true ∷ []) words
linked-joined complete links flags words word link linked joins within next slot w kept here =
    let count = length-set links word link in
    elim (same-or-not w word) [
      | inl is ↦ record {
        names = λ inside other.
            let written : get_or (set links word link) w 0 ≡ link = ap (λ i. get_or (set links word link) i 0) is
            ∙ get_or-set_same links word link 0 within in
            written ∙ elim next [
              | inl several ↦ several
              | inr one ↦ elim (last-or-kept flags slot kept) [
                | inl last ↦ absurd (other (written ∙ one.0 ∙ sym last))
                | inr there ↦ elim (same-or-not (get_or links word 0) slot) [
                  | inl before ↦ absurd (one.2 (ap (slice_get flags) before ∙ there) (ap (slice_get words) before ∙ here ∙ ap Some is))
                  | inr differs ↦ absurd (one.1 ((linked slot word there (here ∙ ap Some is)).names within differs))
                ]
              ]
            ];
        misses = λ past close. absurd (omega arith);
      }
      | inr differs ↦ elim (last-or-kept flags slot kept) [
        | inl last ↦ (
            let same : Some w ≡ Some word = sym here ∙ ap (slice_get words) last ∙ joins in
            let equal : w ≡ word = cc in
            absurd (differs equal))
        | inr there ↦ (
            let to : LinksTo (linked_by links complete) slot w = linked slot w there here in
            let stays : get_or (set links word link) w 0 ≡ get_or links w 0 = get_or-set_other links word w _ 0 differs in record {
              names = λ inside other. stays ∙ to.names (omega arith) (λ is. other (stays ∙ is));
              misses = λ past close. to.misses (omega arith) close;
            })
      ]
    ]

-- A submission queue as contracts see it. Cited by `Submissions` and its definitions.
use Rattle.std.specs.Prelude.{ℕ, IsTrue, List, [], ◌∷◌, refl}
use Rattle.std.specs.Coded.{Coded, code_by, coded×, coded_list, coded_ℕ}
use Rattle.ring_core.specs.declared.entry.Entry.{Entry}
use Rattle.ring_core.specs.contracts.entry.Entry.{the_row}
use Rattle.ring_core.specs.Entry.{may_link}

-- A ring, the entries that it kept out, oldest first, and for how many entries more memory is reserved.
pub record Pending (R : Type 0) : Type 0 where
  pub ring : R
  pub due : List Entry
  pub room : ℕ

-- Each of these entries may be pushed.
abbrev pub MayBePushed : List Entry → Type 0
MayBePushed [] = Unit {0}
MayBePushed (entry ∷ entries) = IsTrue (may_link entry entry.body) × MayBePushed entries

-- It is stored as the tuple of its fields.
abbrev pub pending_code : {R : Type 0} → Coded R → Coded (Pending R)
pending_code code = code_by (_ × (List Entry × ℕ)) (coded× code (coded× (coded_list the_row.coded) coded_ℕ))
    (λ p. (p.ring, (p.due, p.room))) (λ t. record { ring = t.0; due = t.1.0; room = t.1.1 }) (λ _. refl)

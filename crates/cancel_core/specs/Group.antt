-- A cancel group as a value. Each clause on groups cites it.
use Rattle.std.specs.Prelude.{ℕ, ◌==◌, Bool, true, false, not, List, [], filter, slice_index_or, slice_set}
use Rattle.std.specs.Ordering.{nat_cmp}
use Rattle.std.specs.BTreeSet.{insert_key}

-- A group is the numbers of its members, ascending, and whether it is canceled.
pub record Group : Type 0 where
  pub members : List ℕ
  pub canceled : Bool

-- A group that was just made.
abbrev pub fresh : Group
fresh = record { members = []; canceled = false }

-- A group that was canceled.
abbrev pub canceled : Group
canceled = record { members = []; canceled = true }

-- The members with one more at its place in the order, or the same where it is one already.
abbrev pub joined : List ℕ → ℕ → List ℕ
joined members serial = insert_key nat_cmp members serial

-- The members but this one.
abbrev pub without : List ℕ → ℕ → List ℕ
without members serial = filter (λ member. not (member == serial)) members

-- The group of a number.
abbrev pub group_at : List Group → ℕ → Group
group_at groups n = slice_index_or groups n fresh

-- Groups of which one has other members. Its mark and all other groups stay.
abbrev pub with_members : List Group → ℕ → List ℕ → List Group
with_members groups n members = slice_set groups n (record (group_at groups n) { members = members })

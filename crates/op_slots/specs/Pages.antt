-- The pages of a slab, by number: how many places each has, and which keys lie on it. Cited by `page_of`, `Slab` and `Ref`.
use Rattle.std.specs.Prelude.{ℕ, ◌+◌, ◌-◌, ◌*◌, ◌/◌, ◌^◌, min}
use Rattle.std.specs.Int.{w64, leading_zeros}
use Rattle.op_slots.specs.declared.slab.pages.TheConstants.{NUM_PAGES, PAGE_INITIAL_SIZE}

-- how many binary digits a number below 2 ^ 64 has, where 0 has none
abbrev pub binary_digits : ℕ → ℕ
binary_digits n = 64 - leading_zeros w64 n

-- the page of a key: the number of binary digits of (key + 64) / 128, whose sum stays below 2 ^ 64, and the last page at most
unfoldable pub page_of : ℕ → ℕ
page_of key = min (binary_digits (min (key + PAGE_INITIAL_SIZE) (2 ^ 64 - 1) / (2 * PAGE_INITIAL_SIZE))) (NUM_PAGES - 1)

-- how many places a page has: each later page has twice as many as the one before it
abbrev pub places_on : ℕ → ℕ
places_on page = PAGE_INITIAL_SIZE * 2 ^ page

-- the first key of a page, which is how many places the pages before it have
abbrev pub first_key : ℕ → ℕ
first_key page = PAGE_INITIAL_SIZE * 2 ^ page - PAGE_INITIAL_SIZE

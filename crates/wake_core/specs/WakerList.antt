-- Lists of wakers. Cited by the drains, by wake safety and by the laws over steps.
use Rattle.std.specs.Prelude.{◌≡◌, ℕ, ◌-◌, List, [], ◌∷◌, filter, map, Bool, true, false, ◌==◌}
use Rattle.std.specs.List.{range_with_len}
use Rattle.wake_core.specs.declared.waker.Waker.{Waker}

-- whether there is no waker
abbrev pub is_empty : List Waker → Bool
is_empty [] = true
is_empty (first ∷ rest) = false

-- the wakers of the sender with this number, in order
abbrev pub wakers_of : ℕ → List Waker → List Waker
wakers_of sender wakers = filter (λ (w : Waker). w.sender == sender) wakers

-- the numbers of that sender's wakers, in order
abbrev pub numbers_of : ℕ → List Waker → List ℕ
numbers_of sender wakers = map (λ (w : Waker). w.number) (wakers_of sender wakers)

-- the numbers from `first` to `end` less one, in order
abbrev pub numbers_between : ℕ → ℕ → List ℕ
numbers_between first end = range_with_len first (end - first)

-- the numbers of each sender's wakers rise by one from waker to waker
abbrev pub IsInOrder : List Waker → Type 0
IsInOrder wakers = (sender : ℕ) → (first : ℕ) × (end : ℕ) × (numbers_of sender wakers ≡ numbers_between first end)

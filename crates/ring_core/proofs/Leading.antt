-- The leaders of bound entries, as entries are taken and end.
use Rattle.std.proofs.Common.{◌≡◌, ℕ, zero, suc, Bool, true, false, List, [], ◌∷◌, ◌++◌, map, take, drop, remove, Some, slice_get}
use Rattle.std.proofs.Common.{refl, sym, ◌∙◌, ap, subst, true≢false, if◌then◌else◌}
use Rattle.machine.specs.declared.request.Outcome.{Outcome}
use Rattle.machine.specs.declared.request.Outcome.TheVariants.{Count, From, Made, Fail}
use Rattle.ring_core.specs.declared.entry.Entry.{Entry}
use Rattle.ring_core.specs.declared.entry.Body.{Body}
use Rattle.ring_core.specs.declared.entry.Body.TheVariants.{Call as Calls, Cancel as Cancels, Close as Closes}
use Rattle.ring_core.specs.declared.entry.Flight.{Flight}
use Rattle.ring_core.specs.Ring.{marked_by, fresh_flight, binds_next, flying_after_entry, flying_bound, flying_after}
use Rattle.ring_core.specs.Bound.{is_bound, behind_bound, left_behind, taken_along, flying_left}
use Rattle.ring_core.specs.Bound.{broken, AreLed, HasLeader}
use Rattle.ring_core.proofs.Binding.{remove-parts, free-behind}

-- What is left behind bound entries has its leaders, whether the first of them is bound or not.
led-broken : (led : Bool) (x : Flight) (xs : List Flight) (bound : Bool) → x.bound ≡ bound → AreLed (binds_next x.entry x.entry.body) xs →
    AreLed led (behind_bound xs) → AreLed led (behind_bound (x ∷ xs))
led-broken led x xs true is has rest = subst (λ v. AreLed led (if v then behind_bound xs else (x ∷ xs))) (sym is) rest
led-broken led x xs false is has rest =
    subst (λ v. AreLed led (if v then behind_bound xs else (x ∷ xs))) (sym is)
    (λ bound. (let no : ⊥ = true≢false (sym bound ∙ is) in absurd no), has)

-- What is left of those behind an entry has a leader, whatever is before it.
led-behind : (outcome : Outcome) (a b : Bool) (xs : List Flight) → AreLed a xs → AreLed b (left_behind outcome xs)
led-behind (Count k) a b [] led = tt
led-behind (Count k) a b (x ∷ xs) led = (λ bound. (let no : ⊥ = true≢false (sym bound) in absurd no), led.1)
led-behind (From k addr) a b [] led = tt
led-behind (From k addr) a b (x ∷ xs) led = (λ bound. (let no : ⊥ = true≢false (sym bound) in absurd no), led.1)
led-behind (Made h) a b [] led = tt
led-behind (Made h) a b (x ∷ xs) led = (λ bound. (let no : ⊥ = true≢false (sym bound) in absurd no), led.1)
led-behind (Fail e) a b [] led = tt
led-behind (Fail e) a b (x ∷ xs) led =
    led-broken b x xs x.bound refl led.1 (led-behind (Fail e) (binds_next x.entry x.entry.body) b xs led.1)

-- What is left in flight has its leaders.
pub led-left : (outcome : Outcome) (place : ℕ) (led : Bool) (xs : List Flight) → AreLed led xs → AreLed led (flying_left outcome place xs)
led-left outcome zero led [] has = led-behind outcome led led [] has
led-left outcome (suc n) led [] has = led-behind outcome led led [] has
led-left outcome zero led (x ∷ xs) has = led-behind outcome (binds_next x.entry x.entry.body) led xs has.1
led-left outcome (suc n) led (x ∷ xs) has = (has.0, led-left outcome n (binds_next x.entry x.entry.body) xs has.1)

-- An entry that isn't linked binds nothing.
binds-unlinked : (entry : Entry) (body : Body) → entry.linked ≡ false → binds_next entry body ≡ false
binds-unlinked entry (Calls call) free = free
binds-unlinked entry (Cancels key) free = refl
binds-unlinked entry (Closes h) free = refl

-- A flag that isn't true is false.
not-true : (b : Bool) → (b ≡ true → ⊥) → b ≡ false
not-true true never = absurd (never refl)
not-true false _ = refl

-- Directly behind an entry that isn't linked none is bound.
pub next-free : (led : Bool) (xs : List Flight) (n : ℕ) (x : Flight) → AreLed led xs → slice_get xs n ≡ Some x → x.entry.linked ≡ false →
    is_bound (drop (suc n) xs) zero ≡ false
next-free led [] n x has there free = cc
next-free led (y ∷ []) zero x has there free = refl
next-free led (y ∷ z ∷ xs) zero x has there free =
    let same : y ≡ x = cc in
    not-true z.bound (λ bound. true≢false (sym (has.1.0 bound)
    ∙ binds-unlinked y.entry y.entry.body (ap (λ v. v.entry.linked) same ∙ free)))
next-free led (y ∷ xs) (suc n) x has there free = next-free (binds_next y.entry y.entry.body) xs n x has.1 there free

-- An entry that isn't linked ends alone.
pub ends-alone : (outcome : Outcome) (led : Bool) (xs : List Flight) (n : ℕ) (x : Flight) → AreLed led xs → slice_get xs n ≡ Some x →
    x.entry.linked ≡ false → (remove xs n ≡ flying_left outcome n xs) × (broken (taken_along outcome (drop (suc n) xs)) ≡ [])
ends-alone outcome led xs n x has there free =
    let behind = free-behind outcome (drop (suc n) xs) (next-free led xs n x has there free) in (
      remove-parts xs n ∙ ap (λ ys. take n xs ++ ys) (sym behind.0),
      ap broken behind.1,
    )

-- The entry at a bound place has a leader directly before it.
pub led-at : (led : Bool) (xs : List Flight) (n : ℕ) → AreLed led xs → is_bound xs (suc n) ≡ true → HasLeader xs (suc n)
led-at led [] n has bound = cc
led-at led (x ∷ []) zero has bound = cc
led-at led (x ∷ y ∷ xs) zero has bound =
    record { before = zero; next = refl; leader = x; there = refl; links = has.1.0 bound }
led-at led (x ∷ xs) (suc n) has bound =
    let at = led-at (binds_next x.entry x.entry.body) xs n has.1 bound in
    record { before = suc at.before; next = ap suc at.next; leader = at.leader; there = at.there; links = at.links }

-- The first entry isn't bound.
pub led-first : (xs : List Flight) (n : ℕ) → AreLed false xs → is_bound xs n ≡ true → HasLeader xs n
led-first [] n has bound = cc
led-first (x ∷ xs) zero has bound = (let no : ⊥ = true≢false (sym (has.0 bound)) in absurd no)
led-first (x ∷ xs) (suc n) has bound = led-at false (x ∷ xs) n has bound

-- Whether the last entry is a linked call.
last_links : Bool → List Flight → Bool
last_links led [] = led
last_links led (x ∷ xs) = last_links (binds_next x.entry x.entry.body) xs

-- One more entry has its leader where it isn't bound, or the last one is linked.
led-joined : (led : Bool) (xs : List Flight) (x : Flight) → AreLed led xs → (x.bound ≡ true → last_links led xs ≡ true) →
    AreLed led (xs ++ x ∷ [])
unfolding last_links
led-joined led [] x has leads = (leads, tt)
led-joined led (y ∷ xs) x has leads = (has.0, led-joined (binds_next y.entry y.entry.body) xs x has.1 leads)

-- Then it is the last one.
last-joined : (led : Bool) (xs : List Flight) (x : Flight) → last_links led (xs ++ x ∷ []) ≡ binds_next x.entry x.entry.body
unfolding last_links
last-joined led [] x = refl
last-joined led (y ∷ xs) x = last-joined (binds_next y.entry y.entry.body) xs x

-- A mark takes no leader away.
led-marked : (key : ℕ) (led : Bool) (xs : List Flight) → AreLed led xs → AreLed led (map (marked_by key) xs)
led-marked key led [] has = tt
led-marked key led (x ∷ xs) has = (has.0, led-marked key (binds_next x.entry x.entry.body) xs has.1)

-- What is in flight has its leaders after one entry was taken, and the next one has its own.
led-taken_one : (bound : Bool) (flying : List Flight) (entry : Entry) (body : Body) → entry.body ≡ body → AreLed false flying →
    (bound ≡ true → last_links false flying ≡ true) → AreLed false (flying_after_entry bound flying entry body)
    × (binds_next entry body ≡ true → last_links false (flying_after_entry bound flying entry body) ≡ true)
led-taken_one bound flying entry (Calls call) is has leads = (
  led-joined false flying (fresh_flight entry bound) has leads,
  λ links. last-joined false flying (fresh_flight entry bound) ∙ ap (binds_next entry) is ∙ links,
)
led-taken_one bound flying entry (Cancels key) is has leads = (
  led-marked key false flying has,
  λ links. (let no : ⊥ = true≢false (sym links) in absurd no),
)
led-taken_one bound flying entry (Closes h) is has leads = (
  led-joined false flying (fresh_flight entry false) has (λ no. (let none : ⊥ = true≢false (sym no) in absurd none)),
  λ links. (let no : ⊥ = true≢false (sym links) in absurd no),
)

-- What is in flight has its leaders after entries were taken.
led-taken_each : (bound : Bool) (flying : List Flight) (entries : List Entry) → AreLed false flying →
    (bound ≡ true → last_links false flying ≡ true) → AreLed false (flying_bound bound flying entries)
led-taken_each bound flying [] has leads = has
led-taken_each bound flying (entry ∷ entries) has leads =
    let one = led-taken_one bound flying entry entry.body refl has leads in
    led-taken_each (binds_next entry entry.body) (flying_after_entry bound flying entry entry.body) entries one.0 one.1

-- The same, of entries that are taken at once.
pub led-taken : (flying : List Flight) (entries : List Entry) → AreLed false flying → AreLed false (flying_after flying entries)
led-taken flying entries has =
    led-taken_each false flying entries has (λ no. (let none : ⊥ = true≢false (sym no) in absurd none))

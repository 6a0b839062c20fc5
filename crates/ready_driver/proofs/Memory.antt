-- Reserved memory for tasks, through each change of what waits.
use Rattle.std.proofs.Common.{◌≡◌, ◌⊎◌, inl, inr, ℕ, suc, Bool, true, false, cond, eqb, not, Some, List, [], ◌∷◌, length}
use Rattle.std.proofs.Common.{refl, sym, ap, subst, arith}
use Rattle.std.specs.Prelude.{◌+◌, ◌≤◌, IsTrue, filter, option_map, is_some, Result, Ok, Err, OnOk, OnErr}
use Rattle.std.proofs.lemmas.Bool.{not-true}
use Rattle.ready_driver.specs.declared.ready.Direction.{Direction}
use Rattle.ready_driver.specs.declared.scheduled_io.Waiter.{Waiter}
use Rattle.ready_driver.specs.Ready.{meets, mask_of}
use Rattle.ready_driver.specs.Rooms.{Rooms, room_of}
use Rattle.ready_driver.specs.ScheduledIo.{waiter_of, kept, is_met, taken, left, forgotten, IsWaitingIn, HasRoom, IsSound}
use Rattle.ready_driver.proofs.Waiting.{once-kept, once-filtered, filtered-fits}

-- Room for every direction is room for every entry.
pub room-all : (rooms : Rooms) (n : ℕ) → ((d : Direction) → n ≤ room_of rooms d) → (ws : List Waiter) → HasRoom rooms n ws
room-all rooms n every [] = tt
room-all rooms n every (w ∷ ws) = (every w.direction, room-all rooms n every ws)

-- Some of the entries need no more room than all.
pub room-filtered : (old new : Rooms) (n m : ℕ) (p : Waiter → Bool) → m ≤ n
    → ((w : Waiter) → p w ≡ true → room_of old w.direction ≤ room_of new w.direction)
    → (ws : List Waiter) → HasRoom old n ws → HasRoom new m (filter p ws)
room-filtered old new n m p fewer grown [] room = tt
room-filtered old new n m p fewer grown (w ∷ ws) room =
    by-test (p w) refl (room-filtered old new n m p fewer grown ws room.1)
  where
    by-test : (b : Bool) → p w ≡ b → HasRoom new m (filter p ws) → HasRoom new m (cond b (w ∷ filter p ws) (filter p ws))
    by-test true passes later = (let more = grown w passes in omega (arith, room.0), later)
    by-test false fails later = later

-- Where the room grew, there is still room.
pub room-grown : (old new : Rooms) (n : ℕ) → ((d : Direction) → room_of old d ≤ room_of new d) → (ws : List Waiter)
    → HasRoom old n ws → HasRoom new n ws
room-grown old new n grown [] room = tt
room-grown old new n grown (w ∷ ws) room =
    (let more = grown w.direction in omega (arith, room.0), room-grown old new n grown ws room.1)

-- An entry that is put among others needs room for itself alone.
pub room-kept : (old new : Rooms) (n : ℕ) (e : Waiter) → ((d : Direction) → room_of old d ≤ room_of new d) → n ≤ room_of new e.direction
    → (ws : List Waiter) → HasRoom old n ws → HasRoom new n (kept ws e)
room-kept old new n e grown own [] room = (own, tt)
room-kept old new n e grown own (w ∷ ws) room = by-first (eqb w.serial e.serial) (room-kept old new n e grown own ws room.1)
  where
    by-first : (b : Bool) → HasRoom new n (kept ws e) → HasRoom new n (cond b (e ∷ ws) (w ∷ kept ws e))
    by-first true later = (own, room-grown old new n grown ws room.1)
    by-first false later = (let more = grown w.direction in omega (arith, room.0), later)

-- An operation that waits is renewed among as many.
length-renewed : (ws : List Waiter) (e : Waiter) → is_some (waiter_of ws e.serial) ≡ true → length (kept ws e) ≡ length ws
length-renewed [] e there = (let f : ⊥ = cc in absurd f)
length-renewed (w ∷ ws) e there = by-first (eqb w.serial e.serial) (length-renewed ws e) there
  where
    by-first : (b : Bool) → (is_some (waiter_of ws e.serial) ≡ true → length (kept ws e) ≡ length ws) →
        is_some (cond b (Some w) (waiter_of ws e.serial)) ≡ true → length (cond b (e ∷ ws) (w ∷ kept ws e)) ≡ length (w ∷ ws)
    by-first true later at = refl
    by-first false later at = ap suc (later at)

-- One that is put among others makes them one more at most.
length-kept : (ws : List Waiter) (e : Waiter) → length (kept ws e) ≤ length ws + 1
length-kept [] e = omega arith
length-kept (w ∷ ws) e = by-first (eqb w.serial e.serial) (length-kept ws e)
  where
    by-first : (b : Bool) → length (kept ws e) ≤ length ws + 1 → length (cond b (e ∷ ws) (w ∷ kept ws e)) ≤ length (w ∷ ws) + 1
    by-first true later = omega arith
    by-first false later = omega (arith, later)

-- The direction of an operation that waits has room.
pub room_there : (rooms : Rooms) (n : ℕ) (d : Direction) (ws : List Waiter) (serial : ℕ) → HasRoom rooms n ws
    → IsWaitingIn ws serial d → n ≤ room_of rooms d
room_there rooms n d [] serial room is = absurd (cc)
room_there rooms n d (w ∷ ws) serial room is = by-first (eqb w.serial serial) (room_there rooms n d ws serial room.1) is
  where
    by-first : (b : Bool) → (option_map (λ v. v.direction) (waiter_of ws serial) ≡ Some d → n ≤ room_of rooms d)
        → option_map (λ v. v.direction) (cond b (Some w) (waiter_of ws serial)) ≡ Some d → n ≤ room_of rooms d
    by-first true later at = let same : w.direction ≡ d = cc in subst (λ v. n ≤ room_of rooms v) same room.0
    by-first false later at = later at

-- A set of bits leaves an entry.
abbrev is_left : ℕ → Waiter → Bool
is_left ready w = not (is_met ready w)

-- What is kept stays true where the room grew.
pub sound_grown : (ws : List Waiter) (old new : Rooms) → IsSound ws old → ((d : Direction) → room_of old d ≤ room_of new d) → IsSound ws new
sound_grown ws old new sound grown = record { once = sound.once; room = room-grown old new (length ws) grown ws sound.room }

-- It stays true where an entry was renewed, and there is room for its direction.
pub sound_renewed : (ws ys : List Waiter) (old new : Rooms) (e : Waiter) → ys ≡ kept ws e → is_some (waiter_of ws e.serial) ≡ true →
    IsSound ws old → ((d : Direction) → room_of old d ≤ room_of new d) → length ws ≤ room_of new e.direction → IsSound ys new
sound_renewed ws ys old new e is there sound grown fits = rw is (record {
  once = once-kept ws e sound.once;
  room = subst (λ n. HasRoom new n (kept ws e)) (sym (length-renewed ws e there))
      (room-kept old new (length ws) e grown fits ws sound.room);
})

-- It stays true where an entry was put among others, and there is room for one more in each direction.
pub sound_kept : (ws ys : List Waiter) (old new : Rooms) (e : Waiter) → ys ≡ kept ws e → IsSound ws old →
    ((d : Direction) → length ws + 1 ≤ room_of new d) → IsSound ys new
sound_kept ws ys old new e is sound fits = rw is (record {
  once = once-kept ws e sound.once;
  room = room-all new (length (kept ws e)) (λ d. let one = length-kept ws e in let more = fits d in omega (arith, one, more)) (kept ws e);
})

-- It stays true where an entry was to join, and memory may have run out.
pub sound_joined : {T E : Type 0} (result : Result T E) (ws ys : List Waiter) (old new : Rooms) (e : Waiter) →
    OnOk result (ys ≡ kept ws e) → OnErr result (ys ≡ ws) → IsSound ws old → ((d : Direction) → room_of old d ≤ room_of new d) →
    ((d : Direction) → length ws + 1 ≤ room_of new d) → IsSound ys new
sound_joined (Ok value) ws ys old new e ok err sound grown fits = sound_kept ws ys old new e ok sound fits
sound_joined (Err error) ws ys old new e ok err sound grown fits =
    subst (λ zs. IsSound zs new) (sym err) (sound_grown ws old new sound grown)

-- It stays true where an operation was forgotten.
pub sound_forgotten : (ws ys : List Waiter) (rooms : Rooms) (n : ℕ) → ys ≡ forgotten ws n → IsSound ws rooms → IsSound ys rooms
sound_forgotten ws ys rooms n is sound = rw is (record {
  once = once-filtered (λ w. not (eqb w.serial n)) ws sound.once;
  room = room-filtered rooms rooms (length ws) (length (forgotten ws n)) (λ w. not (eqb w.serial n)) (filtered-fits _ ws)
      (λ w passes. omega arith) ws sound.room;
})

-- It stays true where a wake took some, and left the room of each direction that isn't met.
pub sound_left : (ws ys : List Waiter) (old new : Rooms) (ready : ℕ) → ys ≡ left ready ws → IsSound ws old
    → ((d : Direction) → meets ready (mask_of d) ≡ false → room_of old d ≤ room_of new d) → IsSound ys new
sound_left ws ys old new ready is sound stays = rw is (record {
  once = once-filtered (is_left ready) ws sound.once;
  room = room-filtered old new (length ws) (length (left ready ws)) (is_left ready) (filtered-fits _ ws)
      (λ w passes. stays w.direction (not-true (is_met ready w) passes)) ws sound.room;
})

-- Where a vector has the room of each direction that is met, nothing is taken, or it has room for what the rooms are for.
taken-or-room : (rooms : Rooms) (ready n capacity : ℕ) → ((d : Direction) → IsTrue (meets ready (mask_of d)) → room_of rooms d ≤ capacity) →
    (ws : List Waiter) → HasRoom rooms n ws → (taken ready ws ≡ []) ⊎ (n ≤ capacity)
taken-or-room rooms ready n capacity large [] room = inl refl
taken-or-room rooms ready n capacity large (w ∷ ws) room =
    by-met (is_met ready w) refl (taken-or-room rooms ready n capacity large ws room.1)
  where
    by-met : (m : Bool) → is_met ready w ≡ m → (taken ready ws ≡ []) ⊎ (n ≤ capacity)
        → (cond m (w ∷ taken ready ws) (taken ready ws) ≡ []) ⊎ (n ≤ capacity)
    by-met true met later = inr (let fits = large w.direction met in omega (arith, room.0, fits))
    by-met false met later = later

-- So it has room for what is taken.
pub taken_fits : (rooms : Rooms) (ready capacity : ℕ) → ((d : Direction) → IsTrue (meets ready (mask_of d)) → room_of rooms d ≤ capacity) →
    (ws : List Waiter) → IsSound ws rooms → length (taken ready ws) ≤ capacity
taken_fits rooms ready capacity large ws sound = elim (taken-or-room rooms ready (length ws) capacity large ws sound.room) [
  | inl none ↦ subst (λ us. length us ≤ capacity) (sym none) (omega arith)
  | inr room ↦ (let fewer = filtered-fits (is_met ready) ws in omega (arith, fewer, room))
]

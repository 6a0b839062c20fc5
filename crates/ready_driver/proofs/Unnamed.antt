-- A call of handles in memory leaves each handle that its request doesn't name, and a request names the handle that it waits for.
use Rattle.std.proofs.Common.{◌≡◌, ◌≢◌, ℕ, ◌<◌, Bool, true, false, ◌||◌, ◌==◌, if◌then◌else◌, List, [], ◌∷◌, length, Option, None}
use Rattle.std.proofs.Common.{Some, slice_get, refl, sym, ◌∙◌, ap, subst, arith}
use Rattle.std.specs.Prelude.{nat_lt}
use Rattle.std.proofs.lemmas.Bool.Decides.{nat_tests}
use Rattle.rent_buf.specs.Buffer.{Buffer}
use Rattle.rent_buf.specs.Parts.{Parts}
use Rattle.machine.specs.declared.request.Request.{Request}
use Rattle.machine.specs.declared.request.Request.TheVariants.{Recv, ReadVec, Send, WriteVec, RecvMsg, SendMsg, Read, Write}
use Rattle.machine.specs.declared.request.Request.TheVariants.{SpliceTo, SpliceFrom, Accept, Open, Connect, Fsync, PollAdd, MkDir, Rename}
use Rattle.machine.specs.declared.request.Request.TheVariants.{Unlink}
use Rattle.machine.specs.declared.request.Told.{Told}
use Rattle.machine.specs.declared.request.Told.TheVariants.{Count, Fail}
use Rattle.machine.specs.declared.world.HandleState.{HandleState}
use Rattle.machine.specs.Lists.{amended, has_number}
use Rattle.machine.specs.Request.{both, named}
use Rattle.machine.specs.World.{messages_at}
use Rattle.machine.specs.Effect.{without_front, without_message, message_effect}
use Rattle.machine.specs.WorldCall.{call_effect}
use Rattle.machine.proofs.Numbers.{equal-self}
use Rattle.machine.proofs.Amended.{get-amended-other}
use Rattle.machine.proofs.Appended.{get-append-within}
use Rattle.driver_core.specs.declared.slot.Slot.{Slot}
use Rattle.driver_core.specs.Holds.{named_in}
use Rattle.driver_core.specs.Slot.{is_flying}
use Rattle.ready_driver.specs.Awaits.{awaits_if, slot_awaits}
use Rattle.ready_driver.specs.declared.ready.Direction.{Direction}
use Rattle.ready_driver.proofs.Exact.{awaits-named}

-- A number that isn't the only one of a list is another one.
other-one : (h n : ℕ) → has_number h (n ∷ []) ≡ false → h ≢ n
other-one h n is same =
    let met : has_number h (n ∷ []) ≡ true = ap (λ k. k == n || false) same ∙ ap (λ b. b || false) (equal-self n) in
    let f : true ≡ false = sym met ∙ is in
    let g : ⊥ = cc in
    g

-- A number that isn't among two is neither.
other-both : (h a b : ℕ) → has_number h (both a b) ≡ false → (h ≢ a) × (h ≢ b)
other-both h a b is = by (nat_lt a b) (nat_lt b a) refl refl is
  where
    first : (x y : Bool) → (x || (y || false)) ≡ false → x ≡ false
    first false y none = refl
    first true y none = none

    second : (x y : Bool) → (x || (y || false)) ≡ false → y ≡ false
    second false false none = refl
    second false true none = none
    second true y none = (let f : ⊥ = cc in absurd f)

    apart : (n : ℕ) → (h == n) ≡ false → h ≢ n
    apart n none same = (let f : true ≡ false = sym (ap (λ k. k == n) same ∙ equal-self n) ∙ none in let g : ⊥ = cc in g)

    by : (x y : Bool) → nat_lt a b ≡ x → nat_lt b a ≡ y →
        has_number h (if x then a ∷ b ∷ [] else if y then b ∷ a ∷ [] else a ∷ []) ≡ false → (h ≢ a) × (h ≢ b)
    by true y lt gt none = (apart a (first (h == a) (h == b) none), apart b (second (h == a) (h == b) none))
    by false true lt gt none = (apart a (second (h == b) (h == a) none), apart b (first (h == b) (h == a) none))
    by false false lt gt none =
        let same : a ≡ b = grind (arith, nat_tests) in
        (other-one h a none, subst (λ n. h ≢ n) same (other-one h a none))

-- A message that is taken leaves the handles as they are but for its own.
message-world : (world : List HandleState) (k : ℕ) (message : Option (ℕ × List ℕ)) → (message_effect world k message).world ≡ world
message-world world k None = refl
message-world world k (Some message) = refl

-- A call that a count ended leaves a handle that its request doesn't name.
counted-other : (world : List HandleState) (request : Request Buffer Parts) (k h : ℕ) → has_number h (named request) ≡ false →
    h < length world → slice_get (call_effect world request (Count k)).world h ≡ slice_get world h
counted-other world (Recv fd buf) k h other within = get-amended-other _ world fd h (other-one h fd other)
counted-other world (ReadVec fd parts) k h other within = get-amended-other _ world fd h (other-one h fd other)
counted-other world (Send fd buf) k h other within = get-amended-other _ world fd h (other-one h fd other)
counted-other world (WriteVec fd parts) k h other within = get-amended-other _ world fd h (other-one h fd other)
counted-other world (RecvMsg fd buf) k h other within =
    ap (λ w. slice_get w h) (message-world (amended world fd without_message) k (slice_get (messages_at world fd) 0))
    ∙ get-amended-other _ world fd h (other-one h fd other)
counted-other world (SendMsg fd addr buf) k h other within = get-amended-other _ world fd h (other-one h fd other)
counted-other world (Read fd pos buf) k h other within = refl
counted-other world (Write fd pos buf) k h other within = get-amended-other _ world fd h (other-one h fd other)
counted-other world (SpliceTo fd pipe len) k h other within =
    let apart = other-both h fd pipe other in
    get-amended-other _ (amended world fd (without_front k)) pipe h apart.1 ∙ get-amended-other _ world fd h apart.0
counted-other world (SpliceFrom pipe fd len) k h other within =
    let apart = other-both h pipe fd other in
    get-amended-other _ (amended world pipe (without_front k)) fd h apart.1 ∙ get-amended-other _ world pipe h apart.0
counted-other world (Accept fd) k h other within = get-append-within world _ h within
counted-other world (Open path flags mode) k h other within = get-append-within world _ h within
counted-other world (Connect fd addr) k h other within = refl
counted-other world (Fsync fd data_only) k h other within = refl
counted-other world (PollAdd fd read) k h other within = refl
counted-other world (MkDir path mode) k h other within = refl
counted-other world (Rename from to) k h other within = refl
counted-other world (Unlink path remove_dir) k h other within = refl

-- A call leaves a handle that its request doesn't name.
pub called-other : (world : List HandleState) (request : Request Buffer Parts) (told : Told) (h : ℕ) →
    has_number h (named request) ≡ false → h < length world → slice_get (call_effect world request told).world h ≡ slice_get world h
called-other world request (Count k) h other within = counted-other world request k h other within
called-other world request (Fail e) h other within = refl

-- An operation that is in flight names the handle that it waits for.
pub slot-named : {B : Type 0} (slot : Option (Slot B)) (h : ℕ) (dir : Direction) → slot_awaits slot ≡ Some (h, dir) →
    has_number h (named_in slot) ≡ true
slot-named None h dir is = (let f : ⊥ = cc in absurd f)
slot-named (Some s) h dir is = by (is_flying s.life) is
  where
    by : (b : Bool) → awaits_if b s.request ≡ Some (h, dir) → has_number h (named s.request) ≡ true
    by true there = awaits-named s.request h dir there
    by false there = (let f : ⊥ = cc in absurd f)

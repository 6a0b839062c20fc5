-- Which tokens a driver holds, and what a call keeps of them and of their requests: what its operations do. Cited by each call of
-- the driver, and by whoever keeps tokens.
use Rattle.std.specs.Prelude.{◌≡◌, Bool, Some}
use Rattle.rent_buf.specs.Parts.{Parts}
use Rattle.machine.specs.declared.request.Request.{Request}
use Rattle.machine.specs.Surroundings.{Surroundings}
use Rattle.machine.specs.declared.request.Call.{Call}
use Rattle.ring_core.specs.declared.entry.Entry.{Entry}
use Rattle.ring_core.specs.Entry.{call_entry, cancel_entry}
use Rattle.driver_core.specs.declared.op.Op.{Op}
use Rattle.driver_core.specs.Ops.{Ops}
use Rattle.driver_core.specs.Op.{Holds as HoldsIn, HoldsNone as HoldsNoneIn, KeepsTokens as KeepsTokensIn, DropsToken as DropsTokenIn}
use Rattle.driver_core.specs.Requests.{request_at, KeepsRequests as KeepsRequestsIn, KeepsSurroundings as KeepsSurroundingsIn}
pub use Rattle.driver_core.specs.Op.{number_of, key_of}
use Rattle.uring_driver.specs.declared.uring.IoUringDriver.{IoUringDriver}

-- The driver's operations.
abbrev pub ops_in : {R B : Type 0} → IoUringDriver R B → Ops B
ops_in driver = record { slots = driver.slots; given = driver.given }

-- The driver holds a token: the slot at its key has its number, and its operation wasn't dropped.
abbrev pub Holds : {R B : Type 0} → IoUringDriver R B → Op → Type 0
Holds driver op = HoldsIn (ops_in driver) op

-- No token is held.
abbrev pub HoldsNone : {R B : Type 0} → IoUringDriver R B → Type 0
HoldsNone driver = HoldsNoneIn (ops_in driver)

-- A call keeps every token, and makes none.
abbrev pub KeepsTokens : {R B : Type 0} → IoUringDriver R B → IoUringDriver R B → Type 0
KeepsTokens old new = KeepsTokensIn (ops_in old) (ops_in new)

-- A call spends one token, keeps every other, and makes none.
abbrev pub DropsToken : {R B : Type 0} → IoUringDriver R B → IoUringDriver R B → Op → Type 0
DropsToken old new op = DropsTokenIn (ops_in old) (ops_in new) op

-- A token's operation has this request, with what it holds.
abbrev pub HasRequest : {R B : Type 0} → IoUringDriver R B → Op → Request B Parts → Type 0
HasRequest driver op request = request_at (ops_in driver) op ≡ Some request

-- A call keeps requests: each token that is held before and after has its request, with what it holds, unchanged.
abbrev pub KeepsRequests : {R B : Type 0} → IoUringDriver R B → IoUringDriver R B → Type 0
KeepsRequests old new = KeepsRequestsIn (ops_in old) (ops_in new)

-- A call keeps surroundings: the buffer of each token that is held before and after has its surroundings unchanged.
abbrev pub KeepsSurroundings : {R B : Type 0} → (B → Surroundings) → IoUringDriver R B → IoUringDriver R B → Type 0
KeepsSurroundings reader old new = KeepsSurroundingsIn reader (ops_in old) (ops_in new)

-- The entry of a token's call, linked or not.
abbrev pub call_for : Op → Bool → Call → Entry
call_for op linked call = call_entry op.key op.number linked call

-- The cancel of a token's operation.
abbrev pub cancel_for : Op → Entry
cancel_for op = cancel_entry op.key op.number

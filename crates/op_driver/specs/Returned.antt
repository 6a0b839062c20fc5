-- What a poll does to requests, whichever the driver. Cited by `OpDriver`.
use Rattle.std.specs.Prelude.{◌≡◌, ◌≢◌, Option, None, Some, Result, Ok, Err}
use Rattle.rent_buf.specs.Buffer.{Buffer}
use Rattle.rent_buf.specs.Parts.{Parts}
use Rattle.rent_buf.specs.declared.fault.OutOfMemory.{OutOfMemory}
use Rattle.machine.specs.declared.request.Request.{Request}
use Rattle.machine.specs.declared.request.Way.TheVariants.{Sends}
use Rattle.machine.specs.Request.{plain_request, shape_of, way_of}
use Rattle.driver_core.specs.declared.op.Op.{Op}
use Rattle.driver_core.specs.declared.op.PollOp.{PollOp}
use Rattle.driver_core.specs.declared.op.PollOp.TheVariants.{Pending, Ready}
use Rattle.driver_core.specs.Op.{Holds}
use Rattle.driver_core.specs.Ops.{Ops}
use Rattle.driver_core.specs.Requests.{request_at}

-- A request came back for the one that was submitted: its call names what that named, and what it sends is as it was.
pub record IsBack {B : Type 0} (buffer : B → Buffer) (request now : Request B Parts) : Type 0 where
  pub shape : shape_of now ≡ shape_of request
  pub sent : way_of request ≡ Sends → plain_request buffer now ≡ plain_request buffer request

-- The same of what is known of a token's request: there was one, and there is one.
abbrev pub IsBackOf : {B : Type 0} → (B → Buffer) → Option (Request B Parts) → Option (Request B Parts) → Type 0
IsBackOf buffer (Some request) (Some now) = IsBack buffer request now
IsBackOf buffer (Some request) None = ⊥
IsBackOf buffer None now = ⊥

-- A poll returns the request of its operation where it is ready, and else that one has it still.
abbrev pub PollsRequest : {B : Type 0} → (B → Buffer) → Ops B → Ops B → Op → Result (PollOp B) (OutOfMemory × Op) → Type 0
PollsRequest buffer old new op (Ok (Pending back)) = IsBackOf buffer (request_at old op) (request_at new op)
PollsRequest buffer old new op (Ok (Ready done)) = IsBackOf buffer (request_at old op) (Some done.request)
PollsRequest buffer old new op (Err error) = IsBackOf buffer (request_at old op) (request_at new op)

-- Each other operation has its request, with what it holds, unchanged.
abbrev pub KeepsOthers : {B : Type 0} → Ops B → Ops B → Op → Type 0
KeepsOthers old new op = (other : Op) → other ≢ op → Holds old other → request_at new other ≡ request_at old other

-- Each operation that is held has its request still: it names what it named, and what it sends is as it was. Bytes may have come to it.
abbrev pub KeepsBack : {B : Type 0} → (B → Buffer) → Ops B → Ops B → Type 0
KeepsBack buffer old new = (op : Op) → Holds old op → IsBackOf buffer (request_at old op) (request_at new op)

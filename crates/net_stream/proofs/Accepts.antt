-- An accept that comes back is one of the same listener.
use Rattle.std.proofs.Common.{ℕ, ◌≡◌, subst, Option, Some, None}
use Rattle.rent_buf.specs.Parts.{Parts}
use Rattle.rent_buf.specs.Rent.{Rented, buffer_of_rent}
use Rattle.machine.specs.declared.request.Request.{Request}
use Rattle.machine.specs.declared.request.Request.TheVariants.{Recv, ReadVec, Send, WriteVec, RecvMsg, SendMsg, Read, Write}
use Rattle.machine.specs.declared.request.Request.TheVariants.{SpliceTo, SpliceFrom, Accept, Open, Connect, Fsync, PollAdd, MkDir, Rename}
use Rattle.machine.specs.declared.request.Request.TheVariants.{Unlink}
use Rattle.machine.specs.Request.{shape_of}
use Rattle.op_driver.specs.Returned.{IsBack, IsBackOf}
use Rattle.net_stream.specs.Drives.{IfAsked}
use Rattle.net_stream.specs.Listener.{IsAccept}

-- A request of an accept's shape is an accept at that handle.
shape_accept : (h : ℕ) (now : Request Rented Parts) → shape_of now ≡ Accept h → IsAccept h now
shape_accept h (Recv fd buf) same = absurd cc
shape_accept h (ReadVec fd parts) same = absurd cc
shape_accept h (Send fd buf) same = absurd cc
shape_accept h (WriteVec fd parts) same = absurd cc
shape_accept h (RecvMsg fd buf) same = absurd cc
shape_accept h (SendMsg fd addr buf) same = absurd cc
shape_accept h (Read fd pos buf) same = absurd cc
shape_accept h (Write fd pos buf) same = absurd cc
shape_accept h (SpliceTo fd pipe len) same = absurd cc
shape_accept h (SpliceFrom pipe fd len) same = absurd cc
shape_accept h (Accept fd) same = cc
shape_accept h (Open path flags mode) same = absurd cc
shape_accept h (Connect fd addr) same = absurd cc
shape_accept h (Fsync fd data_only) same = absurd cc
shape_accept h (PollAdd fd read) same = absurd cc
shape_accept h (MkDir path mode) same = absurd cc
shape_accept h (Rename from to) same = absurd cc
shape_accept h (Unlink path remove_dir) same = absurd cc

-- What came back for an accept is one.
accept_back : (fd : ℕ) (request now : Request Rented Parts) → IsAccept fd request → IsBack buffer_of_rent request now → IsAccept fd now
accept_back fd (Recv h buf) now is back = absurd is
accept_back fd (ReadVec h parts) now is back = absurd is
accept_back fd (Send h buf) now is back = absurd is
accept_back fd (WriteVec h parts) now is back = absurd is
accept_back fd (RecvMsg h buf) now is back = absurd is
accept_back fd (SendMsg h addr buf) now is back = absurd is
accept_back fd (Read h pos buf) now is back = absurd is
accept_back fd (Write h pos buf) now is back = absurd is
accept_back fd (SpliceTo h pipe len) now is back = absurd is
accept_back fd (SpliceFrom pipe h len) now is back = absurd is
accept_back fd (Accept h) now is back = subst (λ n. IsAccept n now) is (shape_accept h now back.shape)
accept_back fd (Open path flags mode) now is back = absurd is
accept_back fd (Connect h addr) now is back = absurd is
accept_back fd (Fsync h data_only) now is back = absurd is
accept_back fd (PollAdd h read) now is back = absurd is
accept_back fd (MkDir path mode) now is back = absurd is
accept_back fd (Rename from to) now is back = absurd is
accept_back fd (Unlink path remove_dir) now is back = absurd is

-- What is known of an accept that is back.
pub accept_kept : (fd : ℕ) (asked now : Option (Request Rented Parts)) → IfAsked asked (IsAccept fd) → IsBackOf buffer_of_rent asked now
    → IfAsked now (IsAccept fd)
accept_kept fd None now is back = absurd is
accept_kept fd (Some request) None is back = absurd back
accept_kept fd (Some request) (Some now) is back = accept_back fd request now is back

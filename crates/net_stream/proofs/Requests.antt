-- Requests that come back: a receive is one of the same handle, a send is what was sent.
use Rattle.std.proofs.Common.{ℕ, ◌≡◌, ◌∙◌, ap, sym, refl, subst, Option, Some, None}
use Rattle.rent_buf.specs.Buffer.{Buffer}
use Rattle.rent_buf.specs.Parts.{Parts}
use Rattle.rent_buf.specs.Rent.{Rented, buffer_of_rent}
use Rattle.machine.specs.declared.request.Request.{Request}
use Rattle.machine.specs.declared.request.Request.TheVariants.{Recv, ReadVec, Send, WriteVec, RecvMsg, SendMsg, Read, Write}
use Rattle.machine.specs.declared.request.Request.TheVariants.{SpliceTo, SpliceFrom, Accept, Open, Connect, Fsync, PollAdd, MkDir, Rename}
use Rattle.machine.specs.declared.request.Request.TheVariants.{Unlink}
use Rattle.machine.specs.Request.{plain_request, shape_of}
use Rattle.op_driver.specs.Returned.{IsBack, IsBackOf}
use Rattle.net_stream.specs.Drives.{IfAsked, IsRecv, IsSend}

-- A request of a receive's shape is a receive from that handle.
shape_recv : (h : ℕ) (now : Request Rented Parts) → shape_of now ≡ Recv h tt → IsRecv h now
shape_recv h (Recv fd buf) same = cc
shape_recv h (ReadVec fd parts) same = absurd cc
shape_recv h (Send fd buf) same = absurd cc
shape_recv h (WriteVec fd parts) same = absurd cc
shape_recv h (RecvMsg fd buf) same = absurd cc
shape_recv h (SendMsg fd addr buf) same = absurd cc
shape_recv h (Read fd pos buf) same = absurd cc
shape_recv h (Write fd pos buf) same = absurd cc
shape_recv h (SpliceTo fd pipe len) same = absurd cc
shape_recv h (SpliceFrom pipe fd len) same = absurd cc
shape_recv h (Accept fd) same = absurd cc
shape_recv h (Open path flags mode) same = absurd cc
shape_recv h (Connect fd addr) same = absurd cc
shape_recv h (Fsync fd data_only) same = absurd cc
shape_recv h (PollAdd fd read) same = absurd cc
shape_recv h (MkDir path mode) same = absurd cc
shape_recv h (Rename from to) same = absurd cc
shape_recv h (Unlink path remove_dir) same = absurd cc

-- What came back for a receive is one.
recv_back : (fd : ℕ) (request now : Request Rented Parts) → IsRecv fd request → IsBack buffer_of_rent request now → IsRecv fd now
recv_back fd (Recv h buf) now is back = subst (λ n. IsRecv n now) is (shape_recv h now back.shape)
recv_back fd (ReadVec h parts) now is back = absurd is
recv_back fd (Send h buf) now is back = absurd is
recv_back fd (WriteVec h parts) now is back = absurd is
recv_back fd (RecvMsg h buf) now is back = absurd is
recv_back fd (SendMsg h addr buf) now is back = absurd is
recv_back fd (Read h pos buf) now is back = absurd is
recv_back fd (Write h pos buf) now is back = absurd is
recv_back fd (SpliceTo h pipe len) now is back = absurd is
recv_back fd (SpliceFrom pipe h len) now is back = absurd is
recv_back fd (Accept h) now is back = absurd is
recv_back fd (Open path flags mode) now is back = absurd is
recv_back fd (Connect h addr) now is back = absurd is
recv_back fd (Fsync h data_only) now is back = absurd is
recv_back fd (PollAdd h read) now is back = absurd is
recv_back fd (MkDir path mode) now is back = absurd is
recv_back fd (Rename from to) now is back = absurd is
recv_back fd (Unlink path remove_dir) now is back = absurd is

-- What is known of a receive that is back.
pub recv_kept : (fd : ℕ) (asked now : Option (Request Rented Parts)) → IfAsked asked (IsRecv fd) → IsBackOf buffer_of_rent asked now
    → IfAsked now (IsRecv fd)
recv_kept fd None now is back = absurd is
recv_kept fd (Some request) None is back = absurd back
recv_kept fd (Some request) (Some now) is back = recv_back fd request now is back

-- The buffer of a send, and else another.
abbrev sent_buffer : Request Buffer Parts → Buffer → Buffer
sent_buffer (Send fd buf) other = buf
sent_buffer _ other = other

-- A request that is a send as plain data is that send.
plain_send : (h : ℕ) (buf : Rented) (now : Request Rented Parts) → plain_request buffer_of_rent now ≡ Send h (buffer_of_rent buf)
    → now ≡ Send h buf
plain_send h buf (Recv fd kept) same = absurd cc
plain_send h buf (ReadVec fd parts) same = absurd cc
plain_send h buf (Send fd kept) same =
    let e : buffer_of_rent kept ≡ buffer_of_rent buf = ap (λ r. sent_buffer r (buffer_of_rent buf)) same in
    let number : fd ≡ h = cc in
    let bytes : kept.bytes ≡ buf.bytes = ap (λ b. b.bytes) e in
    let total : kept.total ≡ buf.total = ap (λ b. b.total) e in
    let whole : kept ≡ buf = ap (λ bs. record { bytes = bs; total = kept.total }) bytes
    ∙ ap (λ n. record { bytes = buf.bytes; total = n }) total in
    ap (λ b. Send fd b) whole ∙ ap (λ n. Send n buf) number
plain_send h buf (WriteVec fd parts) same = absurd cc
plain_send h buf (RecvMsg fd kept) same = absurd cc
plain_send h buf (SendMsg fd addr kept) same = absurd cc
plain_send h buf (Read fd pos kept) same = absurd cc
plain_send h buf (Write fd pos kept) same = absurd cc
plain_send h buf (SpliceTo fd pipe len) same = absurd cc
plain_send h buf (SpliceFrom pipe fd len) same = absurd cc
plain_send h buf (Accept fd) same = absurd cc
plain_send h buf (Open path flags mode) same = absurd cc
plain_send h buf (Connect fd addr) same = absurd cc
plain_send h buf (Fsync fd data_only) same = absurd cc
plain_send h buf (PollAdd fd read) same = absurd cc
plain_send h buf (MkDir path mode) same = absurd cc
plain_send h buf (Rename from to) same = absurd cc
plain_send h buf (Unlink path remove_dir) same = absurd cc

-- A send that is back is what it was.
send_back : (fd total : ℕ) (request now : Request Rented Parts) → IsSend fd total request → IsBack buffer_of_rent request now
    → now ≡ request
send_back fd total (Recv h buf) now is back = absurd is
send_back fd total (ReadVec h parts) now is back = absurd is
send_back fd total (Send h buf) now is back = plain_send h buf now (back.sent refl)
send_back fd total (WriteVec h parts) now is back = absurd is
send_back fd total (RecvMsg h buf) now is back = absurd is
send_back fd total (SendMsg h addr buf) now is back = absurd is
send_back fd total (Read h pos buf) now is back = absurd is
send_back fd total (Write h pos buf) now is back = absurd is
send_back fd total (SpliceTo h pipe len) now is back = absurd is
send_back fd total (SpliceFrom pipe h len) now is back = absurd is
send_back fd total (Accept h) now is back = absurd is
send_back fd total (Open path flags mode) now is back = absurd is
send_back fd total (Connect h addr) now is back = absurd is
send_back fd total (Fsync h data_only) now is back = absurd is
send_back fd total (PollAdd h read) now is back = absurd is
send_back fd total (MkDir path mode) now is back = absurd is
send_back fd total (Rename from to) now is back = absurd is
send_back fd total (Unlink path remove_dir) now is back = absurd is

-- What is known of a send that is back: it is what it was.
pub send_same : (fd total : ℕ) (asked : Option (Request Rented Parts)) (now : Request Rented Parts) → IfAsked asked (IsSend fd total)
    → IsBackOf buffer_of_rent asked (Some now) → asked ≡ Some now
send_same fd total None now is back = absurd is
send_same fd total (Some request) now is back = ap Some (sym (send_back fd total request now is back))

-- What is known of a send that is back is what was known.
pub send_stays : (fd total : ℕ) (asked now : Option (Request Rented Parts)) → IfAsked asked (IsSend fd total)
    → IsBackOf buffer_of_rent asked now → now ≡ asked
send_stays fd total None now is back = absurd is
send_stays fd total (Some request) None is back = absurd back
send_stays fd total (Some request) (Some now) is back = ap Some (send_back fd total request now is back)

-- A send is back as itself.
pub send_itself : (fd total : ℕ) (asked : Option (Request Rented Parts)) → IfAsked asked (IsSend fd total)
    → IsBackOf buffer_of_rent asked asked
send_itself fd total None is = absurd is
send_itself fd total (Some request) is = record { shape = refl; sent = λ sends. refl }

-- It is a send to that handle still.
pub send_kept : (fd total : ℕ) (asked now : Option (Request Rented Parts)) → IfAsked asked (IsSend fd total)
    → IsBackOf buffer_of_rent asked now → IfAsked now (IsSend fd total)
send_kept fd total None now is back = absurd is
send_kept fd total (Some request) None is back = absurd back
send_kept fd total (Some request) (Some now) is back =
    subst (λ r. IfAsked (Some r) (IsSend fd total)) (sym (send_back fd total request now is back)) is

-- A receive is that of some buffer, and a send that of one.
pub record RecvOf (fd : ℕ) (request : Request Rented Parts) : Type 0 where
  pub buf : Rented
  pub request_is : request ≡ Recv fd buf

-- A receive is that of some buffer.
pub recv_is : (fd : ℕ) (request : Request Rented Parts) → IsRecv fd request → RecvOf fd request
recv_is fd (Recv h buf) is = record { buf = buf; request_is = ap (λ n. Recv n buf) is }
recv_is fd (ReadVec h parts) is = absurd is
recv_is fd (Send h buf) is = absurd is
recv_is fd (WriteVec h parts) is = absurd is
recv_is fd (RecvMsg h buf) is = absurd is
recv_is fd (SendMsg h addr buf) is = absurd is
recv_is fd (Read h pos buf) is = absurd is
recv_is fd (Write h pos buf) is = absurd is
recv_is fd (SpliceTo h pipe len) is = absurd is
recv_is fd (SpliceFrom pipe h len) is = absurd is
recv_is fd (Accept h) is = absurd is
recv_is fd (Open path flags mode) is = absurd is
recv_is fd (Connect h addr) is = absurd is
recv_is fd (Fsync h data_only) is = absurd is
recv_is fd (PollAdd h read) is = absurd is
recv_is fd (MkDir path mode) is = absurd is
recv_is fd (Rename from to) is = absurd is
recv_is fd (Unlink path remove_dir) is = absurd is

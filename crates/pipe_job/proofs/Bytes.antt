-- The bytes of a job that were sent, and those that were received.
use Rattle.std.proofs.Common.{ℕ, ◌≡◌, ◌≢◌, ◌∙◌, ◌≤◌, ◌<◌, ◌+◌, ◌-◌, ap, sym, arith, min, Bool, true, false, true≢false, IsTrue, List, ◌++◌}
use Rattle.std.proofs.Common.{length, take, drop, eqb, refl}
use Rattle.std.proofs.Common.{take-add}
use Rattle.std.specs.List.{starts_with}
use Rattle.std.proofs.lemmas.Bool.Decides.{Decides-eqb}
use Rattle.std.proofs.lemmas.List.{drop_at, length-drop, length-take, take-take, take_all, take_at, take_min}
use Rattle.std.proofs.lemmas.Slice.Eq.{starts_is}
use Rattle.rent_buf.specs.Rent.{Rented, buffer_of_rent}
use Rattle.rent_buf.specs.declared.fault.IoFault.TheVariants.{InvalidData}
use Rattle.machine.specs.declared.request.TheConstants.{MOST_ASKED}
use Rattle.machine.specs.declared.request.Request.TheVariants.{Send}
use Rattle.machine.specs.Request.{sent_of}
use Rattle.pipe_job.specs.Course.{Coursed, IsRoom, IsWhole, ReceiveFault, received_in, sent_in}
use Rattle.pipe_job.specs.declared.course.TheConstants.{MOST_MOVED}

-- The first of the next bytes are the next ones, where they aren't more.
pub next_front : (bytes : List ℕ) (k most from : ℕ) → k ≤ length (take most (drop from bytes)) → take k (take most (drop from bytes))
    ≡ take k (drop from bytes)
next_front bytes k most from within =
    let size = length-take most (drop from bytes) in
    take-take k most (drop from bytes) (omega (arith, within, size))

-- All bytes were sent.
pub whole_sent : (c : Coursed) → IsWhole c → sent_in c ≡ c.bytes
whole_sent c whole = let all = whole.all_sent in take_all c.sent c.bytes (omega (arith, all))

-- All were received.
pub whole_received : (c : Coursed) → IsWhole c → received_in c ≡ c.bytes
whole_received c whole = let all = whole.all_received in take_all c.received c.bytes (omega (arith, all))

-- The bytes up to one number are those up to a lower one, and those between.
up_to : (bytes : List ℕ) (low high : ℕ) → low ≤ high → take high bytes ≡ take low bytes ++ take (high - low) (drop low bytes)
up_to bytes low high below =
    ap (λ n. take n bytes) (let same : high ≡ low + (high - low) = omega (arith, below) in same) ∙ take-add low (high - low) bytes

-- Bytes with which those begin that were sent and not received are the next ones to be received.
pub begins_next : (bytes got : List ℕ) (low high : ℕ) → starts_with eqb (take (high - low) (drop low bytes)) got ≡ true
    → length got ≤ length (take (high - low) (drop low bytes)) → take (low + length got) bytes ≡ take low bytes ++ got
begins_next bytes got low high starts within =
    let begins = (starts_is Decides-eqb (take (high - low) (drop low bytes)) got true (sym starts)).0 refl in
    take-add low (length got) bytes ∙ ap (λ bs. take low bytes ++ bs)
    (sym (next_front bytes (length got) (high - low) low within) ∙ ap (take (length got)) begins ∙ take_at got _ (length got) refl)

-- Others are other bytes than the next.
pub begins_other : (c : Coursed) (got : List ℕ) → c.received ≤ c.sent → c.sent ≤ length c.bytes
    → starts_with eqb (take (c.sent - c.received) (drop c.received c.bytes)) got ≡ false → ReceiveFault c got InvalidData
begins_other c got below within starts = λ rest same.
    let size = length-take c.received c.bytes in
    let front : length (take c.received c.bytes) ≡ c.received = omega (arith, size, below, within) in
    let between : take (c.sent - c.received) (drop c.received c.bytes) ≡ got ++ rest =
    sym (drop_at (take c.received c.bytes) (take (c.sent - c.received) (drop c.received c.bytes)) c.received front)
    ∙ ap (drop c.received) (sym (up_to c.bytes c.received c.sent below) ∙ same)
    ∙ drop_at (take c.received c.bytes) (got ++ rest) c.received front in
    true≢false (sym ((starts_is Decides-eqb (take (c.sent - c.received) (drop c.received c.bytes)) got false (sym starts)).1 rest between))

-- The buffer of a send offers all that it has: the next bytes.
pub room_offers : (c : Coursed) (buf : Rented) → IsRoom c buf → c.sent < length c.bytes
    → sent_of (Send c.pipe (buffer_of_rent buf)) ≡ take MOST_MOVED (drop c.sent c.bytes)
room_offers c buf room some =
    let most = room.most in
    let fits = room.fits in
    ap (take MOST_ASKED) (take_all buf.total buf.bytes fits) ∙ take_all MOST_ASKED buf.bytes (omega (arith, most, fits)) ∙ room.sends some

-- Where not all were sent, fewer were.
pub unsent_fewer : (c : Coursed) (is : Bool) → (c.sent ≡ length c.bytes → IsTrue is) → is ≡ false → c.sent ≤ length c.bytes
    → c.sent < length c.bytes
unsent_fewer c is says not within =
    let none : c.sent ≢ length c.bytes = λ same. true≢false (sym (says same) ∙ not) in omega (arith, none, within)

-- As many of the next bytes as there are, or the most of one operation.
pub next_most : (bytes : List ℕ) (from most m : ℕ) → m ≡ min (length bytes - from) most
    → take (from + m - from) (drop from bytes) ≡ take most (drop from bytes)
next_most bytes from most m is =
    let size = length-drop from bytes in
    let count : from + m - from ≡ min most (length (drop from bytes)) = omega (arith, is, size) in
    ap (λ n. take n (drop from bytes)) count ∙ take_min most (drop from bytes)

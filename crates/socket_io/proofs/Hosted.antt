-- What is sent on a socket, of what a request shows.
use Rattle.std.proofs.Common.{◌≡◌, ℕ, ◌≤◌, List, ◌∙◌, ap, arith, length, take, ◌++◌}
use Rattle.std.proofs.lemmas.List.{length-append, length-take}
use Rattle.machine.specs.declared.request.TheConstants.{MOST_ASKED}
use Rattle.socket_io.specs.declared.mio_io.TheConstants.{MOST_MOVED}

-- What is sent of some bytes, no more than one call moves, is no more than what a request asks for.
pub shown-few : (shown : List ℕ) (count : ℕ) → count ≤ MOST_MOVED → count ≤ length shown → count ≤ length (take MOST_ASKED shown)
shown-few shown count moved few =
    let asked = length-take MOST_ASKED shown in
    omega (arith, asked, moved, few)

-- A list was cleared, and got the first of some bytes, up to the most that one call moves. What is sent of it is no more than what a
-- request asks for.
pub appended-few : (old cleared list shown : List ℕ) (count : ℕ) → cleared ≡ take 0 old → list ≡ cleared ++ take MOST_MOVED shown →
    count ≤ length list → count ≤ length (take MOST_ASKED shown)
appended-few old cleared list shown count none is few =
    let joined = ap length is ∙ length-append cleared (take MOST_MOVED shown) in
    let nothing = ap length none in
    let moved = length-take MOST_MOVED shown in
    let asked = length-take MOST_ASKED shown in
    omega (arith, joined, nothing, moved, asked, few)

-- What the system says, as an object whose calls don't wait tells it: its errors, and its events. Cited by `Socket` and `Poller`.
use Rattle.std.specs.Prelude.{ℕ, ◌≡◌, [], ◌∷◌, ℤ, pos, negsuc, nat_le, ◌&&◌, Bool, true, false, if◌then◌else◌, Option, Some, None, bit_or}
use Rattle.std.specs.declared.io.ErrorKind.{ErrorKind}
use Rattle.std.specs.declared.net.ipv4_addr.Ipv4Addr.{Ipv4Addr}
use Rattle.std.specs.declared.net.ip_addr.IpAddr.TheVariants.{V4}
use Rattle.std.specs.declared.net.socket_addr.SocketAddr.{SocketAddr}
use Rattle.std.specs.Net.Addr.{ipv4_octets}
use Rattle.std.specs.Net.Socket.{socket_ip, socket_port}
use Rattle.machine.specs.declared.request.TheConstants.{LAST_ERROR}
use Rattle.mio.specs.declared.event.event.Event.{Event}
use Rattle.mio.specs.Event.{event_token, is_readable, is_writable, is_read_closed, is_write_closed}
use Rattle.socket_io.specs.declared.mio_io.socket.TheConstants.{NO_NUMBER}
use Rattle.socket_io.specs.declared.mio_io.socket.Refusal.{Refusal}
use Rattle.socket_io.specs.declared.mio_io.socket.Refusal.TheVariants.{WouldBlock, Error}
use Rattle.ready_driver.specs.Ready.{readable_bit, writable_bit, read_closed_bit, write_closed_bit}
use Rattle.ready_driver.specs.declared.non_block.Report.{Report}

-- An address is a port of this machine, 127.0.0.1, which no other machine reaches.
pub record IsLocal (addr : SocketAddr) (port : ℕ) : Type 0 where
  pub host : Ipv4Addr
  pub octets : ipv4_octets host ≡ 127 ∷ 0 ∷ 0 ∷ 1 ∷ []
  pub ip : socket_ip addr ≡ V4 host
  pub port_is : socket_port addr ≡ port

-- The number of an error of the system, from 1 to the greatest one, and `NO_NUMBER` for every other one.
abbrev pub error_number : Option ℤ → ℕ
error_number (Some (pos n)) = if nat_le 1 n && nat_le n LAST_ERROR then n else NO_NUMBER
error_number (Some (negsuc n)) = NO_NUMBER
error_number None = NO_NUMBER

-- What an error of the system says of a call, by its kind and its number.
abbrev pub refusal_of : ErrorKind → Option ℤ → Refusal
refusal_of ErrorKind.WouldBlock code = WouldBlock
refusal_of _ code = Error (error_number code)

-- A bit, or none.
abbrev pub bit_if : Bool → ℕ → ℕ
bit_if true bit = bit
bit_if false bit = 0

-- The bits of an event.
abbrev pub event_bits : Event → ℕ
event_bits event =
    bit_or (bit_or (bit_if (is_readable event) readable_bit) (bit_if (is_writable event) writable_bit))
    (bit_or (bit_if (is_read_closed event) read_closed_bit) (bit_if (is_write_closed event) write_closed_bit))

-- What is reported of an event: its token is the key.
abbrev pub event_report : Event → Report
event_report event = record { key = (event_token event).0; ready = event_bits event }

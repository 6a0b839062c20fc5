-- The reply to a look, by what is looked at.
use Rattle.std.proofs.Common.{ℕ, List, Option}
use Rattle.machine.specs.declared.world.Look.{Look as Shown}
use Rattle.machine.specs.declared.world.Look.TheVariants.{Bytes as ShownBytes, Messages as ShownMessages}
use Rattle.machine.specs.declared.ledger.Event.TheVariants.{Look}
use Rattle.machine.specs.declared.ledger.Reply.{Reply}
use Rattle.machine.specs.declared.ledger.Reply.TheVariants.{Output, Messages}
use Rattle.machine.specs.World.{look_at}
use Rattle.machine.specs.Ledger.{Ledger}
use Rattle.machine.specs.Step.{look_reply, row}

-- What holds of each list of bytes and of each list of messages as a reply holds of the reply to a look.
pub looked : (P : Reply → Type 0) (L : Ledger) (h : ℕ) → ((bytes : List ℕ) → P (Output bytes)) →
    ((messages : List (Option ℕ × List ℕ)) → P (Messages messages)) → P (row L (Look h)).1
looked P L h bytes messages = by (look_at L.world h)
  where
    by : (look : Shown) → P (look_reply look)
    by (ShownBytes shown) = bytes shown
    by (ShownMessages shown) = messages shown

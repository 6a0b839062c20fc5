use Rattle.std.proofs.Common.{◌≡◌, ◌∙◌, ℕ, refl, subst, sym, ap}
use Rattle.std.specs.Prelude.{◌≤◌, length}
use Rattle.machine.specs.declared.world.TheConstants.{MOST_HANDLES}
use Rattle.machine.specs.declared.request.Call.TheVariants as Call
use Rattle.machine.specs.contracts.world.World.{the_view}
use Rattle.machine.proofs.Few.{length-moved, length-spliced}
use Rattle.machine.proofs.world.World.transfer.Goals.{in-In, in-Out, in-MessageIn, in-MessageOut, in-ReadAt, in-WriteAt, in-ToPipe}
use Rattle.machine.proofs.world.World.transfer.Goals.{in-FromPipe, in-Connect, in-Fsync, in-PollAdd, in-Path}
use Rattle.machine.proofs.world.World.transfer.Goals as goal

-- As many handles are no more than a bound.
as_many : {m n : ℕ} → m ≡ n → n ≤ MOST_HANDLES → m ≤ MOST_HANDLES
as_many same le = subst (λ k. k ≤ MOST_HANDLES) (sym same) le

pub returns-clause-few : goal.returns-clause-few
returns-clause-few g c = elim c.match-call.branch [
  | in-In w ↦ (
      as_many (ap (λ s. length (the_view s)) w.self-inside-is
      ∙ length-moved g.P.Payloads.stores g.P.Payloads.takes_memory (Call.In w.in-In.h w.in-In.ask)
      c.args.k c.args.word _ _ _ _ _ _ w.read_at.ensures refl
      ∙ ap length c.self.view_is))
  | in-Out w ↦ (
      as_many (ap (λ s. length (the_view s)) w.self-inside-is
      ∙ length-moved g.P.Payloads.stores g.P.Payloads.takes_memory (Call.Out w.in-Out.h w.in-Out.ask)
      c.args.k c.args.word _ _ _ _ _ _ w.send_at.ensures refl
      ∙ ap length c.self.view_is))
  | in-MessageIn w ↦ (
      as_many (ap (λ s. length (the_view s)) w.self-inside-is
      ∙ length-moved g.P.Payloads.stores g.P.Payloads.takes_memory (Call.MessageIn w.in-MessageIn.h w.in-MessageIn.ask)
      c.args.k c.args.word _ _ _ _ _ _ w.receive_at.ensures refl
      ∙ ap length c.self.view_is))
  | in-MessageOut w ↦ (
      as_many (ap (λ s. length (the_view s)) w.self-inside-is
      ∙ length-moved g.P.Payloads.stores g.P.Payloads.takes_memory
      (Call.MessageOut w.in-MessageOut.h w.in-MessageOut.addr w.in-MessageOut.ask) c.args.k c.args.word _ _ _ _ _ _
      w.send_message_at.ensures refl
      ∙ ap length c.self.view_is))
  | in-ReadAt w ↦ (
      as_many (ap (λ s. length (the_view s)) w.self-inside-is
      ∙ length-moved g.P.Payloads.stores g.P.Payloads.takes_memory (Call.ReadAt w.in-ReadAt.h w.in-ReadAt.pos w.in-ReadAt.ask)
      c.args.k c.args.word _ _ _ _ _ _ w.read_file_at.ensures refl
      ∙ ap length c.self.view_is))
  | in-WriteAt w ↦ (
      as_many (ap (λ s. length (the_view s)) w.self-inside-is
      ∙ length-moved g.P.Payloads.stores g.P.Payloads.takes_memory (Call.WriteAt w.in-WriteAt.h w.in-WriteAt.pos w.in-WriteAt.ask)
      c.args.k c.args.word _ _ _ _ _ _ w.write_file_at.ensures refl
      ∙ ap length c.self.view_is))
  | in-ToPipe w ↦ (
      as_many (ap (λ s. length (the_view s)) w.self-inside-is
      ∙ length-spliced (Call.ToPipe w.in-ToPipe.h w.in-ToPipe.pipe w.in-ToPipe.ask) c.args.k _ _ _ w.splice_to_at.ensures refl
      ∙ ap length c.self.view_is))
  | in-FromPipe w ↦ (
      as_many (ap (λ s. length (the_view s)) w.self-inside-is
      ∙ length-spliced (Call.FromPipe w.in-FromPipe.pipe w.in-FromPipe.h w.in-FromPipe.ask) c.args.k _ _ _ w.splice_from_at.ensures refl
      ∙ ap length c.self.view_is))
  | in-Connect w ↦ as_many (ap (λ s. length (the_view s)) w.self-inside-is ∙ ap length c.self.view_is)
  | in-Fsync w ↦ as_many (ap (λ s. length (the_view s)) w.self-inside-is ∙ ap length c.self.view_is)
  | in-PollAdd w ↦ as_many (ap (λ s. length (the_view s)) w.self-inside-is ∙ ap length c.self.view_is)
  | in-Path w ↦ as_many (ap (λ s. length (the_view s)) w.self-inside-is ∙ ap length c.self.view_is)
]

use Rattle.std.proofs.Common.{◌≡◌, true, false, ◌∙◌, rules}
use Rattle.wake_core.specs.WakeState.{CanReadFlag}
use Rattle.wake_core.proofs.SendLemmas.{called_after_false, idle_after_true, idle_after_token, pushed_after_read, pushed_after_token}
use Rattle.wake_core.proofs.SendLemmas.{makes_both}
use Rattle.wake_core.proofs.locked.sender.end_send.Goals as goal

pub set_token-requires : goal.set_token-requires
set_token-requires g c =
    let down : c.args.state.now.flag ≡ false = search rules in
    called_after_false c.args.state.now c.read_flag.new.self c.args.sender c.read_flag.ensures.state down

pub returns-then-not-read_flag-clause-steps : goal.returns-then-not-read_flag-clause-steps
returns-then-not-read_flag-clause-steps g c =
    let down : c.args.state.now.flag ≡ false = search rules in
    let can : CanReadFlag c.args.state.now c.args.sender = search rules in
    makes_both c.args.state.now c.read_flag.new.self c.set_token.new.self c.args.sender
    can down c.read_flag.ensures.state c.set_token.ensures

pub returns-then-not-read_flag-clause-idle : goal.returns-then-not-read_flag-clause-idle
returns-then-not-read_flag-clause-idle g c = idle_after_token c.read_flag.new.self c.set_token.new.self c.args.sender c.set_token.ensures

pub returns-then-not-read_flag-clause-pushed : goal.returns-then-not-read_flag-clause-pushed
returns-then-not-read_flag-clause-pushed g c =
    pushed_after_token c.read_flag.new.self c.set_token.new.self c.args.sender c.set_token.ensures
    ∙ pushed_after_read c.args.state.now c.read_flag.new.self c.args.sender c.read_flag.ensures.state

pub returns-else-not-read_flag-clause-idle : goal.returns-else-not-read_flag-clause-idle
returns-else-not-read_flag-clause-idle g c =
    let up : c.args.state.now.flag ≡ true = search rules in
    idle_after_true c.args.state.now c.read_flag.new.self c.args.sender c.read_flag.ensures.state up

pub returns-else-not-read_flag-clause-pushed : goal.returns-else-not-read_flag-clause-pushed
returns-else-not-read_flag-clause-pushed g c =
    pushed_after_read c.args.state.now c.read_flag.new.self c.args.sender c.read_flag.ensures.state

pub returns-in-Called-clause-idle : goal.returns-in-Called-clause-idle
returns-in-Called-clause-idle g c =
    idle_after_token c.args.state.now c.set_token-in-Called.new.self c.args.sender c.set_token-in-Called.ensures

pub returns-in-Called-clause-pushed : goal.returns-in-Called-clause-pushed
returns-in-Called-clause-pushed g c =
    pushed_after_token c.args.state.now c.set_token-in-Called.new.self c.args.sender c.set_token-in-Called.ensures

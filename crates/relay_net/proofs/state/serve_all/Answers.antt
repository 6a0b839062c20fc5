use Rattle.std.proofs.Common.{◌≡◌, ◌∙◌, ◌+◌, Ok, suc, refl, subst, arith}
use Rattle.std.specs.Vec.{vec_len}
use Rattle.std.proofs.lemmas.List.Sorted.{IsPermutation-refl, IsPermutation-trans}
use Rattle.relay_net.specs.Forwarding.{RoundBehind, RoundTo}
use Rattle.relay_net.specs.Relay.{GoesOn}
use Rattle.relay_net.proofs.Rounds.{round_ends, round_starts}
use Rattle.relay_net.proofs.Keyed.{keeps_none, keeps_then}
use Rattle.relay_net.proofs.state.serve_all.Goals as goal
use Rattle.ready_driver.proofs.Still.{later-then, later-same}

pub returns-in_err-serve_at-clause-serving : goal.returns-in_err-serve_at-clause-serving
returns-in_err-serve_at-clause-serving g c = λ start was serving.
    c.serve_at.ensures.serving start was (c.loop-at.invariant.serving start was serving)

pub returns-in_err-serve_at-clause-names : goal.returns-in_err-serve_at-clause-names
returns-in_err-serve_at-clause-names g c = IsPermutation-trans _ _ _ c.serve_at.ensures.names c.loop-at.invariant.names

pub loop-at-preserved-then-branch : goal.loop-at-preserved-then-branch
loop-at-preserved-then-branch g c =
    let goes : vec_len c.serve_at.new.state.open ≡ vec_len c.loop-at.state.open =
    subst (λ b. GoesOn b (vec_len c.loop-at.state.open) (vec_len c.serve_at.new.state.open)) c.if-branch.true
    c.in_ok-serve_at.ensures.len in
    let test = c.loop-at-test.true in
    let size = c.len.ensures in
    let before = c.loop-at.invariant in
    let within = before.within in
    let fewer = before.fewer in
    let given = before.given in
    let closed = before.closed in
    let failed = before.failed in
    let now = c.serve_at.ensures in
    let more = now.given in
    let room_closed = now.room.0 in
    let cap_closed = now.room.1 in
    let room_failed = now.room.2 in
    let cap_failed = now.room.3 in
    let next : suc c.loop-at.at ≡ c.loop-at.at + 1 = omega arith in
    record {
      sound = now.sound;
      serving = λ start was serving. now.serving start was (before.serving start was serving);
      names = IsPermutation-trans _ _ _ now.names before.names;
      later = later-then (g.I.NonBlock.view c.args.state.now.driver.handling.io) (g.I.NonBlock.view c.loop-at.state.driver.handling.io)
          (g.I.NonBlock.view c.serve_at.new.state.driver.handling.io) before.later now.later;
      same = (now.same.0 ∙ before.same.0, now.same.1 ∙ before.same.1);
      asks = now.asks ∙ before.asks;
      within = omega (arith, test, size, within, goes);
      fewer = omega (arith, fewer, goes);
      given = omega (arith, test, size, given, more, goes);
      closed = omega (arith, closed, room_closed, cap_closed, goes);
      failed = omega (arith, failed, room_failed, cap_failed, goes);
      keyed = keeps_then _ _ _ _ _ before.keyed now.keyed;
      forwards = λ memory start was untouched.
          subst (λ n. RoundTo g.I.NonBlock.view start was c.serve_at.new.state.driver c.serve_at.new.state.open.items n) next
          (subst (λ b. RoundBehind g.I.NonBlock.view start was c.serve_at.new.state.driver c.serve_at.new.state.open.items c.loop-at.at
          (Ok b)) c.if-branch.true (c.in_ok-serve_at.ensures.forwards memory start was (before.forwards memory start was untouched)));
      closes = λ told going.
          let still = before.closes told going in
          let more = now.closes told still.1 in (more.0 ∙ still.0, more.1);
    }

pub loop-at-preserved : goal.loop-at-preserved
loop-at-preserved g c =
    let goes : vec_len c.serve_at.new.state.open + 1 ≡ vec_len c.loop-at.state.open =
    subst (λ b. GoesOn b (vec_len c.loop-at.state.open) (vec_len c.serve_at.new.state.open)) c.if-branch.false
    c.in_ok-serve_at.ensures.len in
    let test = c.loop-at-test.true in
    let size = c.len.ensures in
    let before = c.loop-at.invariant in
    let within = before.within in
    let fewer = before.fewer in
    let given = before.given in
    let closed = before.closed in
    let failed = before.failed in
    let now = c.serve_at.ensures in
    let more = now.given in
    let room_closed = now.room.0 in
    let cap_closed = now.room.1 in
    let room_failed = now.room.2 in
    let cap_failed = now.room.3 in
    record {
      sound = now.sound;
      serving = λ start was serving. now.serving start was (before.serving start was serving);
      names = IsPermutation-trans _ _ _ now.names before.names;
      later = later-then (g.I.NonBlock.view c.args.state.now.driver.handling.io) (g.I.NonBlock.view c.loop-at.state.driver.handling.io)
          (g.I.NonBlock.view c.serve_at.new.state.driver.handling.io) before.later now.later;
      same = (now.same.0 ∙ before.same.0, now.same.1 ∙ before.same.1);
      asks = now.asks ∙ before.asks;
      within = omega (arith, test, size, within, goes);
      fewer = omega (arith, fewer, goes);
      given = omega (arith, test, size, given, more, goes);
      closed = omega (arith, closed, room_closed, cap_closed, goes);
      failed = omega (arith, failed, room_failed, cap_failed, goes);
      keyed = keeps_then _ _ _ _ _ before.keyed now.keyed;
      forwards = λ memory start was untouched.
          subst (λ b. RoundBehind g.I.NonBlock.view start was c.serve_at.new.state.driver c.serve_at.new.state.open.items c.loop-at.at
          (Ok b)) c.if-branch.false (c.in_ok-serve_at.ensures.forwards memory start was (before.forwards memory start was untouched));
      closes = λ told going.
          let still = before.closes told going in
          let more = now.closes told still.1 in (more.0 ∙ still.0, more.1);
    }

pub returns-in_err-serve_at-clause-keyed : goal.returns-in_err-serve_at-clause-keyed
returns-in_err-serve_at-clause-keyed g c =
    keeps_then _ _ _ _ _ c.loop-at.invariant.keyed c.serve_at.ensures.keyed

pub loop-at-init : goal.loop-at-init
loop-at-init g c =
    let closed = c.requires.closed in
    let failed = c.requires.failed in
    record {
      sound = c.requires.sound;
      serving = λ start was serving. serving;
      names = IsPermutation-refl _;
      later = later-same (g.I.NonBlock.view c.args.state.now.driver.handling.io);
      same = (refl, refl);
      asks = refl;
      within = omega arith;
      fewer = omega arith;
      given = omega arith;
      closed = omega (arith, closed);
      failed = omega (arith, failed);
      keyed = keeps_none _ _ _;
      forwards = λ memory start was untouched.
          round_starts g.I.NonBlock.view g.I.NonBlock.tells g.I.NonBlock.memory g.met.I.NonBlock.memory_tells start
          c.args.state.now.driver was c.args.state.now.open.items untouched;
      closes = λ told going. (refl, going);
    }

pub returns-clause-forwards : goal.returns-clause-forwards
returns-clause-forwards g c = λ memory start was untouched.
    let size = c.len.ensures in
    let test = c.loop-at-test.false in
    round_ends g.I.NonBlock.view g.I.NonBlock.tells g.I.NonBlock.memory g.met.I.NonBlock.memory_tells start c.loop-at.state.driver was
    c.loop-at.state.open.items c.loop-at.at (omega (arith, size, test))
    (c.loop-at.invariant.forwards memory start was untouched)

pub returns-in_err-serve_at-clause-closes : goal.returns-in_err-serve_at-clause-closes
returns-in_err-serve_at-clause-closes g c = λ told going.
    let still = c.loop-at.invariant.closes told going in
    (c.serve_at.ensures.closes told still.1).0 ∙ still.0

pub returns-clause-closes : goal.returns-clause-closes
returns-clause-closes g c = λ told going. (c.loop-at.invariant.closes told going).0

use Rattle.std.proofs.Common.{◌∙◌, ap, subst, sym, ◌++◌, ◌∷◌, []}
use Rattle.std.specs.Prelude.{length, map, slice_get}
use Rattle.ready_driver.specs.LegacyState.{ops_in}
use Rattle.relay_net.specs.Connection.{near_of}
use Rattle.relay_net.specs.Opening.{Opening}
use Rattle.relay_net.specs.Relay.{IsSound}
use Rattle.relay_net.proofs.Opens.{fresh_kept, opening_pushed, opening_widens}
use Rattle.relay_net.proofs.Opened.{kept_sound, opened_sound, released_opening, released_sound}
use Rattle.relay_net.proofs.Numbers.{numbers_opened}
use Rattle.relay_net.proofs.Keyed.{keeps_then}
use Rattle.relay_net.specs.Forwarding.{AreUntouched}
use Rattle.relay_net.proofs.Rounds.{untouched_pushed, untouched_widens}
use Rattle.relay_net.proofs.opening.open_one.Goals as goal
use Rattle.machine.proofs.Appended.{get-append-end}

pub returns-then-is_err-clause-sound : goal.returns-then-is_err-clause-sound
returns-then-is_err-clause-sound g c =
    subst (IsSound c.args.state.now.room (ops_in c.release.new.driver) c.release.new.driver.handling.table c.args.state.now.listener
    c.args.state.now.accept)
    (sym c.reserve.ensures.items)
    (released_sound g.I.NonBlock.view g.I.NonBlock.tells c.args.state.now.driver c.release.new.driver c.args.state.now.listener
    c.args.state.now.accept c.args.state.now.open.items
    c.args.near c.release.ensures.releases c.requires.fresh c.requires.sound)

pub returns-then-is_err-clause-opening : goal.returns-then-is_err-clause-opening
returns-then-is_err-clause-opening g c = λ start was opening.
    subst (Opening g.I.NonBlock.view g.I.NonBlock.tells start was c.release.new.driver) (sym c.reserve.ensures.items)
    (released_opening g.I.NonBlock.view g.I.NonBlock.tells start c.args.state.now.driver c.release.new.driver was
    c.args.state.now.open.items c.args.state.now.listener
    c.args.near c.release.ensures.releases c.requires.sound.served opening)

pub returns-in-Ok-clause-sound : goal.returns-in-Ok-clause-sound
returns-in-Ok-clause-sound g c =
    subst (IsSound c.args.state.now.room (ops_in c.far.new.driver) c.far.new.driver.handling.table c.args.state.now.listener
    c.args.state.now.accept)
    (sym (c.push_reserved.ensures.items ∙ ap (λ xs. xs ++ c.new.result ∷ []) c.reserve.ensures.items))
    (opened_sound g.I.NonBlock.view g.I.NonBlock.tells c.args.state.now.driver c.far.new.driver c.args.state.now.listener
    c.args.state.now.accept
    c.args.state.now.open.items c.args.near c.in-Ok.far c.new.result c.requires.sound c.far.ensures.widens c.far.ensures.ops
    c.requires.fresh c.in-Ok.ensures.far c.new.ensures.handles (c.new.ensures.fits (ops_in c.far.new.driver))
    c.new.ensures.room)

pub returns-in-Ok-clause-opening : goal.returns-in-Ok-clause-opening
returns-in-Ok-clause-opening g c = λ start was opening.
    subst (Opening g.I.NonBlock.view g.I.NonBlock.tells start was c.far.new.driver)
    (sym (c.push_reserved.ensures.items ∙ ap (λ xs. xs ++ c.new.result ∷ []) c.reserve.ensures.items))
    (opening_pushed g.I.NonBlock.view g.I.NonBlock.tells start c.far.new.driver was c.args.state.now.open.items c.new.result
    c.new.ensures.going (opening_widens g.I.NonBlock.view g.I.NonBlock.tells start c.args.state.now.driver c.far.new.driver was
    c.args.state.now.open.items
    c.args.state.now.listener
    c.far.ensures.widens c.requires.sound.served opening))

pub returns-in-Err-clause-sound : goal.returns-in-Err-clause-sound
returns-in-Err-clause-sound g c =
    subst (IsSound c.args.state.now.room (ops_in c.release-in-Err.new.driver) c.release-in-Err.new.driver.handling.table
    c.args.state.now.listener c.args.state.now.accept)
    (sym c.reserve.ensures.items)
    (released_sound g.I.NonBlock.view g.I.NonBlock.tells c.far.new.driver c.release-in-Err.new.driver c.args.state.now.listener
    c.args.state.now.accept
    c.args.state.now.open.items c.args.near c.release-in-Err.ensures.releases
    (fresh_kept c.args.state.now.driver.handling.table c.far.new.driver.handling.table c.args.state.now.listener c.args.state.now.open.items
    c.args.near c.far.ensures.widens.users c.requires.fresh)
    (kept_sound g.I.NonBlock.view g.I.NonBlock.tells c.args.state.now.driver c.far.new.driver c.args.state.now.listener
    c.args.state.now.accept
    c.args.state.now.open.items c.requires.sound c.far.ensures.widens c.far.ensures.ops))

pub returns-in-Err-clause-opening : goal.returns-in-Err-clause-opening
returns-in-Err-clause-opening g c = λ start was opening.
    subst (Opening g.I.NonBlock.view g.I.NonBlock.tells start was c.release-in-Err.new.driver) (sym c.reserve.ensures.items)
    (released_opening g.I.NonBlock.view g.I.NonBlock.tells start c.far.new.driver c.release-in-Err.new.driver was
    c.args.state.now.open.items c.args.state.now.listener
    c.args.near c.release-in-Err.ensures.releases
    (kept_sound g.I.NonBlock.view g.I.NonBlock.tells c.args.state.now.driver c.far.new.driver c.args.state.now.listener
    c.args.state.now.accept
    c.args.state.now.open.items c.requires.sound c.far.ensures.widens c.far.ensures.ops).served
    (opening_widens g.I.NonBlock.view g.I.NonBlock.tells start c.args.state.now.driver c.far.new.driver was c.args.state.now.open.items
    c.args.state.now.listener
    c.far.ensures.widens c.requires.sound.served opening))

pub returns-then-is_err-clause-err : goal.returns-then-is_err-clause-err
returns-then-is_err-clause-err g c = ap (λ xs. map near_of xs) c.reserve.ensures.items

pub returns-in-Ok-clause-names : goal.returns-in-Ok-clause-names
returns-in-Ok-clause-names g c =
    ap (λ xs. map near_of xs) (c.push_reserved.ensures.items ∙ ap (λ xs. xs ++ c.new.result ∷ []) c.reserve.ensures.items)
    ∙ numbers_opened c.args.state.now.open.items c.new.result c.args.near c.new.ensures.handles.0

pub returns-in-Err-clause-err : goal.returns-in-Err-clause-err
returns-in-Err-clause-err g c = ap (λ xs. map near_of xs) c.reserve.ensures.items

pub returns-in-Ok-clause-first : goal.returns-in-Ok-clause-first
returns-in-Ok-clause-first g c = record {
  first = c.new.result;
  among = (
    length c.args.state.now.open.items,
    ap (λ xs. slice_get xs (length c.args.state.now.open.items))
        (c.push_reserved.ensures.items ∙ ap (λ xs. xs ++ c.new.result ∷ []) c.reserve.ensures.items)
        ∙ get-append-end c.args.state.now.open.items c.new.result,
  );
  near = c.new.ensures.handles.0;
  going = c.new.ensures.going;
  forth = (c.new.ensures.none (ops_in c.far.new.driver)).0;
  back = (c.new.ensures.none (ops_in c.far.new.driver)).1;
}

pub returns-in-Err-clause-keyed : goal.returns-in-Err-clause-keyed
returns-in-Err-clause-keyed g c =
    keeps_then _ _ _ _ _ c.far.ensures.keyed c.release-in-Err.ensures.keyed

pub returns-in-Ok-clause-forwards : goal.returns-in-Ok-clause-forwards
returns-in-Ok-clause-forwards g c = λ memory start was opening untouched.
    subst (AreUntouched g.I.NonBlock.view start was c.far.new.driver)
    (sym (c.push_reserved.ensures.items ∙ ap (λ xs. xs ++ c.new.result ∷ []) c.reserve.ensures.items))
    (untouched_pushed g.I.NonBlock.view g.I.NonBlock.tells g.I.NonBlock.memory g.met.I.NonBlock.memory_tells start c.far.new.driver was
    c.args.state.now.open.items c.new.result c.args.state.now.listener
    (opened_sound g.I.NonBlock.view g.I.NonBlock.tells c.args.state.now.driver c.far.new.driver c.args.state.now.listener
    c.args.state.now.accept
    c.args.state.now.open.items c.args.near c.in-Ok.far c.new.result c.requires.sound c.far.ensures.widens c.far.ensures.ops
    c.requires.fresh c.in-Ok.ensures.far c.new.ensures.handles (c.new.ensures.fits (ops_in c.far.new.driver))
    c.new.ensures.room).served
    (opening_widens g.I.NonBlock.view g.I.NonBlock.tells start c.args.state.now.driver c.far.new.driver was
    c.args.state.now.open.items c.args.state.now.listener c.far.ensures.widens c.requires.sound.served opening)
    (untouched_widens g.I.NonBlock.view g.I.NonBlock.tells g.I.NonBlock.memory g.met.I.NonBlock.memory_tells start c.args.state.now.driver
    c.far.new.driver was c.args.state.now.open.items c.args.state.now.listener
    c.far.ensures.widens c.far.ensures.seen memory c.requires.sound.served untouched))

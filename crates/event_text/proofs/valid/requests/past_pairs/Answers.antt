use Rattle.std.proofs.Common.{◌∙◌, ap, sym, arith}
use Rattle.std.proofs.lemmas.Bool.{eq-eqb}
use Rattle.event_text.specs.TextLook.{no_more}
use Rattle.event_text.proofs.TextHex.{isnt-eqb}
use Rattle.event_text.proofs.TextValid.{parts_seen-alone, parts_seen-stop, parts_seen-over, parts_seen-more, parts_seen-all}
use Rattle.event_text.proofs.valid.requests.past_pairs.Goals as goal

pub returns-in_default-next_bytes_word-clause-reads : goal.returns-in_default-next_bytes_word-clause-reads
returns-in_default-next_bytes_word-clause-reads c =
    parts_seen-alone _ _ _ _ c.args.count c.loop-room.left c.loop-room.rooms c.loop-room.invariant.seen c.in-Some.ensures.reads
    c.in_default-next_bytes_word.ensures.reads

pub returns-in_default-with_part-clause-reads : goal.returns-in_default-with_part-clause-reads
returns-in_default-with_part-clause-reads c =
    parts_seen-stop _ _ _ _ _ _ c.args.count c.loop-room.left c.loop-room.rooms c.loop-room.invariant.seen c.in-Some.ensures.reads
    c.in-Some-next_bytes_word.ensures.reads c.in_default-with_part.ensures

pub returns-then-left-eq0-clause-reads : goal.returns-then-left-eq0-clause-reads
returns-then-left-eq0-clause-reads c =
    parts_seen-over _ _ _ _ _ _ c.args.count c.loop-room.left c.loop-room.rooms c.loop-room.invariant.seen c.in-Some.ensures.reads
    c.in-Some-next_bytes_word.ensures.reads c.if-left-eq0.true

pub loop-room-preserved : goal.loop-room-preserved
loop-room-preserved c = record {
  seen = parts_seen-more _ _ _ _ _ _ c.args.count c.loop-room.left _ c.loop-room.rooms _ c.loop-room.invariant.seen
      c.in-Some.ensures.reads c.in-Some-next_bytes_word.ensures.reads c.in-Some-with_part.ensures
      (let some = c.if-left-eq0.false in omega arith);
  line = c.in-Some-next_bytes_word.ensures.past ∙ c.in-Some.ensures.past ∙ c.loop-room.invariant.line;
}

pub returns-then-left-eq0-2-clause-reads : goal.returns-then-left-eq0-2-clause-reads
returns-then-left-eq0-2-clause-reads c =
    c.past_line.ensures.reads ∙ ap no_more c.in_default.ensures.reads ∙ sym (eq-eqb c.loop-room.left 0 c.if-left-eq0-2.true)
    ∙ parts_seen-all _ _ c.args.count c.loop-room.left c.loop-room.rooms c.loop-room.invariant.seen c.in_default.ensures.reads

pub returns-else-left-eq0-2-clause-reads : goal.returns-else-left-eq0-2-clause-reads
returns-else-left-eq0-2-clause-reads c =
    sym (isnt-eqb c.loop-room.left 0 c.if-left-eq0-2.false)
    ∙ parts_seen-all _ _ c.args.count c.loop-room.left c.loop-room.rooms c.loop-room.invariant.seen c.in_default.ensures.reads

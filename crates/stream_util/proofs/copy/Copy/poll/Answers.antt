use Rattle.std.proofs.Common.{◌≡◌, ◌<◌, ◌∙◌, length, drop, [], sym, ap, arith, inr, refl, append-nil}
use Rattle.std.proofs.lemmas.List.{length-drop}
use Rattle.std.proofs.Math.ListN.{drop_of_length-le}
use Rattle.rent_io.specs.declared.poll.Step.TheVariants.{Again}
use Rattle.stream_util.proofs.Completeness.{copy_completes}
use Rattle.stream_util.proofs.Copies.{again_joined, fetched, delivered, slice_counted}
use Rattle.stream_util.proofs.copy.Copy.poll.Goals as goal

pub returns-else-n-eq0-clause-answer : goal.returns-else-n-eq0-clause-answer
returns-else-n-eq0-clause-answer g c =
    let a = c.in-Ready-Ok-default in
    let i = c.self.inside in
    let reader = g.R.AsyncReadRent.reader in
    let writer = g.W.AsyncWriteRent.writer c.args.writer.now in
    let reads = rw a.field-0-is at a.ensures.reads in
    let none : c.args.self.held ≡ [] = ap (λ k. k.held) (sym c.self.view_is)
    ∙ drop_of_length-le i.buf.bytes (omega (arith, c.if-sent-len.true, c.len-len.ensures)) in
    let count : i.count ≡ c.args.self.count = ap (λ k. k.count) c.self.view_is in
    inr
    (rw count (fetched g.R.AsyncReadRent.tells g.W.AsyncWriteRent.tells (reader c.args.reader.now) (reader c.poll_read.new.self) writer
    c.args.self i.buf a.buf a.n none (omega (arith, count, c.self.invariant.2)) c.if-n-eq0.false reads.0))

pub returns-else-n-eq0-clause-complete : goal.returns-else-n-eq0-clause-complete
returns-else-n-eq0-clause-complete g c =
    copy_completes _ _ c.args.task _ _ c.args.self (Again _) (returns-else-n-eq0-clause-answer g c)

pub returns-then-n-eq0-2-clause-answer : goal.returns-then-n-eq0-2-clause-answer
returns-then-n-eq0-2-clause-answer g c =
    let a = c.in-Ready-Ok-default-poll_write in
    let i = c.self.inside in
    let writes = rw a.field-0-is at a.ensures.writes in
    let same : c.into_inner-buf.result.bytes ≡ i.buf.bytes =
    ap (λ r. r.bytes) (c.into_inner-buf.ensures ∙ ap (λ p. p.inner) (writes.0 ∙ c.new.ensures)) in
    let is : drop i.sent c.into_inner-buf.result.bytes ≡ c.args.self.held = ap (drop i.sent) same ∙ ap (λ k. k.held) c.self.view_is in
    let some : 0 < length c.args.self.held = omega (
      arith,
      ap length is,
      ap length same,
      length-drop i.sent c.into_inner-buf.result.bytes,
      c.if-sent-len.false,
      c.len-len.ensures,
      c.self.invariant.0,
    ) in
    let none = rw c.if-n-eq0-2.true at writes.2 in
    let writer = g.W.AsyncWriteRent.writer in
    let counted = slice_counted (λ r. r.bytes) i.buf c.new.result i.sent c.len-len.result a.n (writer c.args.writer.now).counts.zeros
    (writer c.poll_write.new.self).counts.zeros c.new.ensures (omega (arith, c.if-sent-len.false, c.len-len.ensures, c.self.invariant.0))
    c.len-len.ensures c.if-n-eq0-2.true (rw a.field-0-is at a.ensures.none) in
    rw c.ended-then-n-eq0-2.ensures (is, (λ _. refl, λ w. none w ∙ append-nil _), inr (inr (some, (refl, counted))))

pub returns-else-n-eq0-2-clause-answer : goal.returns-else-n-eq0-2-clause-answer
returns-else-n-eq0-2-clause-answer g c =
    let a = c.in-Ready-Ok-default-poll_write in
    let i = c.self.inside in
    let writer = g.W.AsyncWriteRent.writer in
    let writes = rw a.field-0-is at a.ensures.writes in
    rw c.saturating_add.ensures
    (inr (delivered g.R.AsyncReadRent.tells g.W.AsyncWriteRent.tells (g.R.AsyncReadRent.reader c.args.reader.now) (writer c.args.writer.now)
    (writer c.poll_write.new.self) c.args.self i.buf c.into_inner-buf.result i.sent a.n i.count c.len-len.result c.new.result a.part
    c.self.view_is c.new.ensures (record { same = writes.0; within = writes.1; joined = writes.2 }) c.into_inner-buf.ensures
    c.len-len.ensures c.if-n-eq0-2.false))

pub returns-then-n-eq0-2-clause-complete : goal.returns-then-n-eq0-2-clause-complete
returns-then-n-eq0-2-clause-complete g c =
    copy_completes _ _ c.args.task _ _ c.args.self c.ended-then-n-eq0-2.result (returns-then-n-eq0-2-clause-answer g c)

pub returns-else-n-eq0-2-clause-complete : goal.returns-else-n-eq0-2-clause-complete
returns-else-n-eq0-2-clause-complete g c =
    copy_completes _ _ c.args.task _ _ c.args.self (Again _) (returns-else-n-eq0-2-clause-answer g c)

pub returns-else-n-eq0-2-clause-joined : goal.returns-else-n-eq0-2-clause-joined
returns-else-n-eq0-2-clause-joined g c =
    let count = ap (λ k. k.count) c.self.view_is in
    again_joined _ _ _ _ c.args.self _ (omega (arith, count, c.self.invariant.2)) (returns-else-n-eq0-2-clause-answer g c)

use Rattle.std.proofs.Common.{◌≤◌, ◌∙◌, ◌≡◌, ap, refl, sym, subst, ◌-◌, ◌+◌, ◌++◌, length, take, drop, eqb}
use Rattle.std.specs.List.{starts_with}
use Rattle.rent_buf.specs.declared.fault.IoFault.TheVariants.{InvalidData}
use Rattle.pipe_job.specs.Course.{ReceiveFault}
use Rattle.pipe_job.proofs.Bytes.{begins_next, begins_other}
use Rattle.pipe_job.proofs.course.Course.receive.Goals as goal

-- other bytes than the next
pub returns-then-not-starts_with-clause-fault : goal.returns-then-not-starts_with-clause-fault
returns-then-not-starts_with-clause-fault c =
    let one = c.self.inside in
    subst (λ v. ReceiveFault v c.args.bytes.now InvalidData) c.self.view_is (begins_other
    (record { pipe = one.pipe; bytes = one.bytes; sent = one.sent; received = one.received }) c.args.bytes.now c.self.invariant.1
    c.self.invariant.0
    (ap (λ bs. starts_with eqb (take (one.sent - one.received) (drop one.received bs)) c.args.bytes.now) (sym c.as_slice-all.ensures)
    ∙ sym c.starts_with.ensures.value ∙ c.if-not-starts_with.true))

-- the next ones
pub returns-clause-ok : goal.returns-clause-ok
returns-clause-ok c =
    let one = c.self.inside in
    let next = begins_next one.bytes c.args.bytes.now one.received one.sent
    (ap (λ bs. starts_with eqb (take (one.sent - one.received) (drop one.received bs)) c.args.bytes.now) (sym c.as_slice-all.ensures)
    ∙ sym c.starts_with.ensures.value ∙ c.if-not-starts_with.false)
    (subst (λ bs. length c.args.bytes.now ≤ length (take (one.sent - one.received) (drop one.received bs))) c.as_slice-all.ensures
    (c.if-not-starts_with.ensures.bound refl)) in
    subst (λ v. (take (one.received + length c.args.bytes.now) one.bytes ≡ take v.received v.bytes ++ c.args.bytes.now)
    × (one.sent ≡ v.sent)) c.self.view_is (next, refl)

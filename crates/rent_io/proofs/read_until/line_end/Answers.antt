use Rattle.std.proofs.Common.{arith}
use Rattle.rent_io.proofs.Lines.{line_at, lacks_all}
use Rattle.rent_io.proofs.read_until.line_end.Goals as goal

pub returns-in-Some-clause-line : goal.returns-in-Some-clause-line
returns-in-Some-clause-line c =
    let h = c.in-Some.ensures in
    line_at c.args.delim c.args.bytes.now c.in-Some.place h.0.high (λ j less e. h.0.before j (omega arith) less e) h.1

pub returns-in-None-clause-line : goal.returns-in-None-clause-line
returns-in-None-clause-line c = lacks_all c.args.delim c.args.bytes.now (λ j less e. c.in-None.ensures j (omega arith) less e)

use Rattle.std.proofs.Common.{◌⊎◌, subst}
use Rattle.std.specs.Prelude.{string_bytes}
use Rattle.rent_io.specs.ReadLine.{Lining, LineEnd, LineGoesOn}
use Rattle.rent_io.specs.ReadState.{Gave, Interrupted}
use Rattle.rent_io.proofs.Texts.{lining, line_again, line_ends}
use Rattle.rent_io.proofs.read_line.LineStatePolledPlain.poll_by.Goals as goal

pub returns-in-Ready-clause-answer : goal.returns-in-Ready-clause-answer
returns-in-Ready-clause-answer g c =
    let tells = g.A.AsyncReadRent.tells in
    let before = g.A.AsyncReadRent.reader c.args.io.now in
    let now = g.A.AsyncReadRent.reader c.poll_by.new.io in
    let i = c.self.inside in
    let text = c.into_text in
    subst (λ (l : Lining). LineEnd tells before now l (string_bytes text.result.1) text.result.0) c.self.view_is
    (line_ends tells before now i.until i.start c.in-Ready.bytes _ c.in-Ready.outcome _ c.self.invariant c.in-Ready.ensures.answer
    text.ensures)

pub returns-in-Again-clause-answer : goal.returns-in-Again-clause-answer
returns-in-Again-clause-answer g c =
    let tells = g.A.AsyncReadRent.tells in
    let before = g.A.AsyncReadRent.reader c.args.io.now in
    let now = g.A.AsyncReadRent.reader c.poll_by.new.io in
    let i = c.self.inside in
    let next = lining c.in-Again.until i.start in
    subst (λ (l : Lining). Interrupted tells before now l next ⊎ Gave tells before now (LineGoesOn l next)) c.self.view_is
    (line_again tells before now i.until c.in-Again.until i.start c.self.invariant c.in-Again.ensures.answer)

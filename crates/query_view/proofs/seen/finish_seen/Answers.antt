use Rattle.std.proofs.Common.{◌∙◌, Option, Some, subst, sym}
use Rattle.sqlval.specs.declared.fault.Fault.{Fault}
use Rattle.query_answer.specs.Parts.{Kept}
use Rattle.query_view.specs.Seen.{HasSeen}
use Rattle.query_view.proofs.SeenParts.{refused}
use Rattle.query_view.proofs.seen.finish_seen.Goals as goal

pub returns-in-Some-clause-answered : goal.returns-in-Some-clause-answered
returns-in-Some-clause-answered c = λ view rows e has.
    let q = c.args.reading.now in
    refused view q rows c.seen.inside.found c.in-Some.fault (subst (λ (s : Kept × Option Fault). HasSeen view q rows s) (sym c.seen.view_is ∙ (λ i. (c.seen.inside.found, c.in-Some.is i))) has)

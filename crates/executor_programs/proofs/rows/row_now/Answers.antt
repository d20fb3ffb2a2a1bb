use Rattle.std.proofs.Common.{SFits, rules, subst, w64, ℤ}
use Rattle.std.proofs.lemmas.Int.{to_z-of_z}
use Rattle.executor.specs.Rows.{FindsIn}
use Rattle.executor_programs.proofs.rows.row_now.Goals as goal

pub returns-clause-found : goal.returns-clause-found
returns-clause-found g c = λ told l db name t is there.
    (let gs = g.P.Pages in
    let fits : SFits w64 c.args.rowid = search rules in
    subst (λ (n : ℤ). FindsIn (gs.map c.args.pages.now) (gs.limits (gs.below c.args.pages.now)).page c.args.table.now n c.row_at.result) (to_z-of_z w64 c.args.rowid fits) (c.row_at.ensures.found told) l db name t is)

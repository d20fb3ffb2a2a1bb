use Rattle.std.proofs.Common.{List, subst, sym}
use Rattle.sqlval.specs.Refusals.{Answer}
use Rattle.query_terms.specs.Outcome.{AnswersBy}
use Rattle.query_terms.specs.Values.{Row}
use Rattle.std.specs.Global.{Vec}
use Rattle.executor_programs.specs.Begun.{SeesRows}
use Rattle.executor_programs.specs.declared.acts.ViewItem.{ViewItem}
use Rattle.executor_programs.proofs.SeenRows.{as_updated, inserted}
use Rattle.executor_programs.proofs.seen.rows_seen.Goals as goal

pub returns-in-Insert-clause-shown : goal.returns-in-Insert-clause-shown
returns-in-Insert-clause-shown c = λ seen columns shows wide.
    subst (λ (item : ViewItem). SeesRows seen columns c.args.act.now item c.inserted_row.result) (sym c.in-Insert.is)
    (inserted (λ rows. rows.items) columns c.args.width c.args.act.now.places.items c.deref.result.now c.in-Insert.given.items c.inserted_row.result wide c.deref.ensures c.inserted_row.ensures)

pub returns-in-Update-clause-shown : goal.returns-in-Update-clause-shown
returns-in-Update-clause-shown c = λ seen columns shows wide.
    subst (λ (item : ViewItem). SeesRows seen columns c.args.act.now item c.updated_row.result) (sym c.in-Update.is)
    (subst (λ (a : Answer (List (List Row))). AnswersBy (λ (rows : Vec (List Row)). rows.items) a c.updated_row.result) (as_updated seen c.args.act.now.sets.items c.in-Update.row) (c.updated_row.ensures.updated seen shows))

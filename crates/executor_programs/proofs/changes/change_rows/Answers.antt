use Rattle.std.proofs.Common.{true, false}
use Rattle.sqlval.specs.Names.{folded}
use Rattle.trigger.specs.Binding.{aim_of}
use Rattle.catalog.specs.Listed.{listed_in}
use Rattle.executor_programs.proofs.Quietly.{made_quietly}
use Rattle.executor_programs.proofs.Setting.{still_or_not}
use Rattle.executor_programs.proofs.changes.change_rows.Goals as goal

pub returns-then-is_still-clause-made : goal.returns-then-is_still-clause-made
returns-then-is_still-clause-made g c = λ told db held.
    made_quietly c.args.change.now db (g.P.Pages.map c.args.pages.now) (g.P.Pages.map c.change_quietly.new.pages) (g.P.Pages.limits (g.P.Pages.below c.args.pages.now)).page (listed_in c.args.catalog.now) c.change_quietly.result
    (c.change_quietly.ensures.made told) held
    (still_or_not c.is_still.result true _ (aim_of c.args.change.now).event db (folded c.target_of.result.now) (aim_of c.args.change.now).target (c.is_still.ensures held.rows_at db held.of_listed) c.event_in.ensures c.target_of.ensures c.if-is_still.true)

pub returns-clause-made : goal.returns-clause-made
returns-clause-made g c = λ told db held.
    c.change_and_run.ensures.made told db held
    (still_or_not c.is_still.result false _ (aim_of c.args.change.now).event db (folded c.target_of.result.now) (aim_of c.args.change.now).target (c.is_still.ensures held.rows_at db held.of_listed) c.event_in.ensures c.target_of.ensures c.if-is_still.false)

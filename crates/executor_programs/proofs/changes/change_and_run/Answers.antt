use Rattle.std.proofs.Common.{refl, ap, subst, List}
use Rattle.catalog.specs.Database.{Name}
use Rattle.catalog.specs.Listed.{listed_in}
use Rattle.row_change.specs.Changes.{no_outer}
use Rattle.trigger.specs.Effects.{change_with, programs}
use Rattle.executor_programs.specs.Running.{running_names}
use Rattle.executor_programs.proofs.Folding.{RunsTo}
use Rattle.executor_programs.proofs.Setting.{isnt_known, knows_all, ran, shows_none}
use Rattle.executor_programs.proofs.changes.change_and_run.Goals as goal

pub returns-in_err-bound-clause-made : goal.returns-in_err-bound-clause-made
returns-in_err-bound-clause-made g c = λ told db held sets.
    isnt_known c.args.change.now db (g.P.Pages.map c.args.pages.now) (g.P.Pages.limits (g.P.Pages.below c.args.pages.now)).page (listed_in c.args.catalog.now) c.from_residual.result c.in_err-bound.field-0.0 c.from_residual.ensures.1
    (c.in_err-bound.ensures.known held.rows_at db held.of_listed)

pub returns-clause-made : goal.returns-clause-made
returns-clause-made g c = λ told db held sets.
    (let size = (g.P.Pages.limits (g.P.Pages.below c.args.pages.now)).page in
    let l = listed_in c.args.catalog.now in
    let new = g.P.Pages.map c.run_bound.new.pages in
    ran c.args.change.now db (c.in_ok-bound.ensures.known held.rows_at db held.of_listed) (g.P.Pages.map c.args.pages.now) new size l c.run_bound.result held sets
    (subst (λ (names : List Name). RunsTo new size l (change_with (programs 64) names no_outer db c.args.change.now) c.run_bound.result) (ap running_names c.new-running.ensures.items)
    (c.run_bound.ensures.runs no_outer told (shows_none _ refl refl) (knows_all l c.args.change.now (λ rows_at db is. c.in_ok-bound.ensures.known rows_at db is)) c.in_ok-bound.ensures.named db held)))

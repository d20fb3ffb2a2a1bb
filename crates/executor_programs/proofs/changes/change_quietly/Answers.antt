use Rattle.std.proofs.Common.{sym, subst}
use Rattle.sql_syntax.specs.declared.change.Change.{Change}
use Rattle.catalog.specs.Listed.{listed_in}
use Rattle.executor.specs.Changing.{MakesQuietly}
use Rattle.executor_programs.proofs.changes.change_quietly.Goals as goal

pub returns-in-Insert-clause-made : goal.returns-in-Insert-clause-made
returns-in-Insert-clause-made g c told =
    subst (λ (ch : Change). MakesQuietly ch (g.P.Pages.map c.args.pages.now) (g.P.Pages.map c.insert.new.pages) (g.P.Pages.limits (g.P.Pages.below c.args.pages.now)).page (listed_in c.args.catalog.now) c.insert.result) (sym c.in-Insert.is)
    (c.insert.ensures.made told)

pub returns-in-Delete-clause-made : goal.returns-in-Delete-clause-made
returns-in-Delete-clause-made g c told =
    subst (λ (ch : Change). MakesQuietly ch (g.P.Pages.map c.args.pages.now) (g.P.Pages.map c.delete_rows.new.pages) (g.P.Pages.limits (g.P.Pages.below c.args.pages.now)).page (listed_in c.args.catalog.now) c.delete_rows.result) (sym c.in-Delete.is)
    (c.delete_rows.ensures.made told)

pub returns-in-Update-clause-made : goal.returns-in-Update-clause-made
returns-in-Update-clause-made g c told =
    subst (λ (ch : Change). MakesQuietly ch (g.P.Pages.map c.args.pages.now) (g.P.Pages.map c.update_rows.new.pages) (g.P.Pages.limits (g.P.Pages.below c.args.pages.now)).page (listed_in c.args.catalog.now) c.update_rows.result) (sym c.in-Update.is)
    (c.update_rows.ensures.made told)

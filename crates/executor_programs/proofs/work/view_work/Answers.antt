use Rattle.std.proofs.Common.{inr, length, rules, ◌≡◌}
use Rattle.catalog.specs.Listed.{listed_in}
use Rattle.executor_programs.proofs.WorksOfViews.{read_only}
use Rattle.executor_programs.proofs.work.view_work.Goals as goal

pub returns-then-is_empty-clause-found : goal.returns-then-is_empty-clause-found
returns-then-is_empty-clause-found g c = λ told view db seen stored shows known.
    (let none : length c.args.act.before.items ≡ 0 = search rules in
    inr (λ run running. read_only c.listed_tables_are_found.ensures.finds c.listed_tables_are_known.ensures (listed_in c.args.catalog.now) seen c.args.change.now db _ _ stored c.args.width c.args.act view none c.args.bound known run running))

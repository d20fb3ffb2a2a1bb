use Rattle.std.proofs.Common.{◌≡◌, Option, Some, length, rules, subst, sym}
use Rattle.std.specs.Prelude.{IfSome}
use Rattle.catalog.specs.Listed.{listed_in, table_named, tables_of}
use Rattle.query_plan.specs.declared.searching.Search.{Search}
use Rattle.query_terms.specs.Terms.{Term}
use Rattle.executor_programs.proofs.SoughtRows.{all_enough, sought_enough}
use Rattle.executor_programs.proofs.seeking.rows_to_ask.Goals as goal
use Rattle.executor_programs.specs.Seeking.{AreEnoughBeside, SeeksBeside}

pub returns-in_default-clause-enough : goal.returns-in_default-clause-enough
returns-in_default-clause-enough g c = λ db seen told stored shows known.
    all_enough db seen c.args.name.now c.args.condition.now c.all_rows.result (c.all_rows.ensures.read told db stored known)

pub returns-in_default-condition-clause-enough : goal.returns-in_default-condition-clause-enough
returns-in_default-condition-clause-enough g c = λ db seen told stored shows known.
    all_enough db seen c.args.name.now c.args.condition.now c.all_rows-in_default-condition.result (c.all_rows-in_default-condition.ensures.read told db stored known)

pub returns-in-Some-2-clause-enough : goal.returns-in-Some-2-clause-enough
returns-in-Some-2-clause-enough g c = λ db seen told stored shows known.
    (let table = c.in-Some.table.now in
    let term = c.in-Some-condition.term in
    let sought = c.in-Some-2.search in
    let named : table_named c.args.name.now (tables_of c.args.catalog.now) ≡ Some table = search rules in
    let seeks : SeeksBeside table.indexes seen.rows term sought =
    subst (λ (found : Option Search). IfSome found (λ it. SeeksBeside table.indexes seen.rows term it)) c.in-Some-2.is (c.in_ok-search.ensures.seeks seen shows) in
    subst (λ (condition : Option Term). AreEnoughBeside db seen c.args.name.now condition c.rows_sought.result) (sym c.in-Some-condition.is)
    (sought_enough db seen c.args.name.now c.other_rows_fail.ensures c.calm_is_not_refused.ensures table term sought c.rows_sought.result seeks
    (c.rows_sought.ensures.found (length seen.rows) seeks.asked told seeks.sought (listed_in c.args.catalog.now) db c.args.name.now stored named)))

pub returns-in-None-clause-enough : goal.returns-in-None-clause-enough
returns-in-None-clause-enough g c = λ db seen told stored shows known.
    all_enough db seen c.args.name.now c.args.condition.now c.all_rows-in-None.result (c.all_rows-in-None.ensures.read told db stored known)

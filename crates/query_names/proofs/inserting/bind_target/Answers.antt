use Rattle.std.proofs.Common.{sym, subst, IfErr}
use Rattle.std.proofs.lemmas.Result.{err_from_is_err_and}
use Rattle.catalog.specs.Listed.{tables_of}
use Rattle.query_names.specs.Inserts.{IsTargetFault}
use Rattle.query_names.proofs.InsertNames.{columns_refused}
use Rattle.query_names.proofs.inserting.bind_target.Goals as goal

pub returns-in_err-check_list-clause-refused : goal.returns-in_err-check_list-clause-refused
returns-in_err-check_list-clause-refused c =
    let e = err_from_is_err_and c.from_residual-in_err-check_list.result c.from_residual-in_err-check_list.ensures.1 in
    subst (λ r. IfErr r (IsTargetFault (tables_of c.args.catalog.now) c.args.insert.now)) (sym e.1)
    (subst (IsTargetFault (tables_of c.args.catalog.now) c.args.insert.now) (sym e.2)
    (columns_refused (tables_of c.args.catalog.now) c.args.insert.now c.in_ok-table.table.now c.in_ok-table.ensures.found c.in_err-check_list.field-0.0 c.in_err-check_list.ensures.refused))

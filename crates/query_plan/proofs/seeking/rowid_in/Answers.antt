use Rattle.std.proofs.Common.{rules, ◌≡◌, sym, subst, false, IfNone}
use Rattle.std.specs.List.{list_any}
use Rattle.query_names.specs.Calm.{finds, parts}
use Rattle.query_plan.specs.Seeking.{Seeks, no_index}
use Rattle.query_plan.proofs.Words.{rowid_only}
use Rattle.query_plan.proofs.seeking.rowid_in.Goals as goal

pub returns-in-Some-clause-none : goal.returns-in-Some-clause-none
returns-in-Some-clause-none c =
    let seeks : Seeks c.args.source c.args.condition.now c.in-Some.number = search rules in
    subst (λ sought. IfNone sought (list_any (finds c.args.source no_index) (parts c.args.condition.now) ≡ false)) (sym c.ok.ensures.value)
    (rowid_only (list_any (finds c.args.source no_index) (parts c.args.condition.now) ≡ false) c.args.source c.in-Some.number c.args.condition.now seeks c.try_from.result c.try_from.ensures)

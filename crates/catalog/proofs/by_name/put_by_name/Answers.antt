use Rattle.std.proofs.Common.{◌≡◌, rules, sym, subst}
use Rattle.std.specs.List.{insert}
use Rattle.catalog.specs.ByName.{AreByName, IsGapOfName, Rise, in_handles, table_name}
use Rattle.catalog.proofs.RisingNames.{more_by_name}
use Rattle.catalog.proofs.by_name.put_by_name.Goals as goal

pub returns-in_ok-insert-in-Err-clause-new : goal.returns-in_ok-insert-in-Err-clause-new
returns-in_ok-insert-in-Err-clause-new c = λ new tables place are.
    (let name : c.as_str.result.now ≡ c.args.table.value.name = search rules in
    let is = subst (λ n. Rise (in_handles c.as_slice.result.now) → IsGapOfName table_name n c.as_slice.result.now c.in-Err.place) name c.in-Err.ensures.gap in
    subst (λ handles. AreByName (insert tables place c.args.table.value) (in_handles handles)) (sym c.in_ok-insert-in-Err.ensures.items)
    (more_by_name c.args.by_name.now.items c.in-Err.place c.args.table
    (subst (λ handles. Rise (in_handles handles) → IsGapOfName table_name c.args.table.value.name handles c.in-Err.place) c.as_slice.ensures.value is) tables place are))

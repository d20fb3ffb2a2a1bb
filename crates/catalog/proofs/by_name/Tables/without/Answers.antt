use Rattle.std.proofs.Common.{◌≡◌, ◌∙◌, ap, sym, subst}
use Rattle.catalog.specs.ByIndex.{AreIndexesByName, indexes_elsewhere}
use Rattle.catalog.specs.ByName.{AreByName, in_handles}
use Rattle.catalog.specs.Listed.{without_table}
use Rattle.catalog.proofs.RisingIndexes.{less_by_index}
use Rattle.catalog.proofs.RisingNames.{less_by_name}
use Rattle.catalog.proofs.by_name.Tables.without.Goals as goal

pub invariant_of-result : goal.invariant_of-result
invariant_of-result c = λ is.
    (let tables = in_handles c.self.inside.listed.items in
    let by_name = in_handles c.self.inside.by_name.items in
    let left : in_handles c.in_ok-other_handles.field-0.items ≡ without_table c.args.name.now tables =
    c.in_ok-other_handles.ensures.left ∙ ap (λ handles. without_table c.args.name.now (in_handles handles)) c.as_slice.ensures.value in
    let left_by_name : in_handles c.in_ok-other_handles-2.field-0.items ≡ without_table c.args.name.now by_name =
    c.in_ok-other_handles-2.ensures.left ∙ ap (λ handles. without_table c.args.name.now (in_handles handles)) c.as_slice-2.ensures.value in
    let indexes = in_handles c.self.inside.indexes.items in
    let left_indexes : in_handles c.in_ok-indexes_of_others.field-0.items ≡ indexes_elsewhere c.args.name.now indexes =
    c.in_ok-indexes_of_others.ensures.left ∙ ap (λ handles. indexes_elsewhere c.args.name.now (in_handles handles)) c.as_slice-3.ensures.value in (
      subst (λ ts. AreByName ts (in_handles c.in_ok-other_handles-2.field-0.items)) (sym left)
          (subst (AreByName (without_table c.args.name.now tables)) (sym left_by_name) (less_by_name c.args.name.now tables by_name (c.self.invariant is).0)),
      subst (λ ts. AreIndexesByName ts (in_handles c.in_ok-indexes_of_others.field-0.items)) (sym left)
          (subst (AreIndexesByName (without_table c.args.name.now tables)) (sym left_indexes) (less_by_index c.args.name.now tables indexes (c.self.invariant is).1)),
    ))

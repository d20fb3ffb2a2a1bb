use Rattle.std.proofs.Common.{◌≡◌, ◌∙◌, ap, rules, sym, subst, true}
use Rattle.std.specs.Prelude.{IsTrue}
use Rattle.std.specs.List.{list_any}
use Rattle.catalog.specs.ByIndex.{AreIndexesByName, AreMore, any_of, indexes_elsewhere}
use Rattle.catalog.specs.ByName.{AreByName, in_handles}
use Rattle.catalog.specs.Listed.{is_table, with_replaced}
use Rattle.catalog.proofs.Found.{table_found}
use Rattle.catalog.proofs.RisingIndexes.{replaced_by_index}
use Rattle.catalog.proofs.RisingNames.{replaced_by_name}
use Rattle.catalog.proofs.by_name.Tables.replacing.Goals as goal
use Rattle.catalog.proofs.by_name.Tables.replacing.Goals.{then-self, else-self, then-is_listed, else-is_listed}

pub invariant_of-result : goal.invariant_of-result
invariant_of-result c =
    let new = c.args.new.now.value in
    let tables = in_handles c.self.inside.listed.items in
    let by_name = in_handles c.self.inside.by_name.items in
    let before = in_handles c.self.inside.indexes.items in
    let indexes = in_handles c.put_indexes.new.handles.items in
    let name : c.as_str.result.now ≡ new.name = search rules in
    let name_again : c.as_str-2.result.now ≡ new.name = search rules in
    let replaced : in_handles c.in_ok-handles_replaced.field-0.items ≡ with_replaced new tables =
    c.in_ok-handles_replaced.ensures.replaced ∙ ap (λ handles. with_replaced new (in_handles handles)) c.as_slice-2.ensures.value in
    let replaced_too : in_handles c.in_ok-handles_replaced-2.field-0.items ≡ with_replaced new by_name =
    c.in_ok-handles_replaced-2.ensures.replaced ∙ ap (λ handles. with_replaced new (in_handles handles)) c.as_slice-3.ensures.value in
    let left : in_handles c.in_ok-indexes.indexes.items ≡ indexes_elsewhere new.name before =
    c.in_ok-indexes.ensures.left ∙ ap (λ handles. indexes_elsewhere c.as_str-2.result.now (in_handles handles)) c.as_slice.ensures.value
    ∙ ap (λ n. indexes_elsewhere n before) name_again in
    elim c.if-self.branch [
      | then-self w ↦ (elim c.if-is_listed.branch [
        | then-is_listed v ↦ λ all.
            (let both : AreByName tables by_name × AreIndexesByName tables before = search rules in
            let is_listed : c.is_some-is_listed.result ≡ true = search rules in
            let are_new : IsTrue c.in_ok-are_new.are_new = search rules in
            let there : list_any (is_table new.name) tables ≡ true =
            ap (list_any (is_table new.name)) c.self.view_is
            ∙ ap (λ n. list_any (is_table n) c.args.self.now) (sym name)
            ∙ sym (table_found c.as_str.result.now c.args.self.now c.find.result c.is_some-is_listed.result c.is_some-is_listed.ensures c.find.ensures)
            ∙ is_listed in (
              subst (λ ts. AreByName ts (in_handles c.in_ok-handles_replaced-2.field-0.items)) (sym replaced)
                  (subst (AreByName (with_replaced new tables)) (sym replaced_too) (replaced_by_name new tables by_name both.0)),
              subst (λ ts. AreIndexesByName ts indexes) (sym replaced)
                  (replaced_by_index new tables before indexes there both.1
                  (subst (λ handles. AreMore (λ test. any_of test new new.indexes) handles indexes) left (c.in_ok-are_new.ensures.new are_new))),
            ))
        | else-is_listed v ↦ λ all. search rules
      ])
      | else-self w ↦ (elim c.if-is_listed.branch [
        | then-is_listed v ↦ λ all. search rules
        | else-is_listed v ↦ λ all. search rules
      ])
    ]

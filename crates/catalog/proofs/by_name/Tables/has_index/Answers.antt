use Rattle.std.proofs.Common.{◌∙◌, ap, rules, subst, sym}
use Rattle.std.specs.List.{list_any}
use Rattle.catalog.specs.ByIndex.{AreIndexesByName}
use Rattle.catalog.specs.ByName.{AreByName, in_handles}
use Rattle.catalog.specs.Listed.{has_index}
use Rattle.catalog.proofs.RisingIndexes.{has_answer}
use Rattle.catalog.proofs.Sharing.{shared_any}
use Rattle.catalog.proofs.by_name.Tables.has_index.Goals as goal

pub returns-then-self : goal.returns-then-self
returns-then-self c =
    let name = c.args.name.now in
    let tables = in_handles c.self.inside.listed.items in
    let both : AreByName tables (in_handles c.self.inside.by_name.items) × AreIndexesByName tables (in_handles c.self.inside.indexes.items) = search rules in
    let are = subst (λ handles. AreIndexesByName tables (in_handles handles)) (sym c.as_slice.ensures.value) both.1 in
    let given = c.place_of_index.ensures in
    c.is_ok.ensures.value
    ∙ has_answer name tables c.as_slice.result.now c.place_of_index.result are given.within given.found given.gap
    ∙ ap (list_any (has_index name)) c.self.view_is

pub returns-else-self : goal.returns-else-self
returns-else-self c =
    c.is_index_named.ensures
    ∙ shared_any (has_index c.args.name.now) c.as_slice-else-self.result.now
    ∙ ap (λ handles. list_any (has_index c.args.name.now) (in_handles handles)) c.as_slice-else-self.ensures.value
    ∙ ap (list_any (has_index c.args.name.now)) c.self.view_is

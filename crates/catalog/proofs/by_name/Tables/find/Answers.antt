use Rattle.std.proofs.Common.{◌∙◌, ap, sym, subst, rules}
use Rattle.std.specs.Prelude.{option_map}
use Rattle.std.specs.List.{find}
use Rattle.catalog.specs.ByIndex.{AreIndexesByName}
use Rattle.catalog.specs.ByName.{AreByName, Rise, in_handles}
use Rattle.catalog.specs.Listed.{is_table}
use Rattle.catalog.proofs.Sharing.{found_value, handle_value, shared_found}
use Rattle.catalog.proofs.by_name.Tables.find.Goals as goal

pub returns-then-self : goal.returns-then-self
returns-then-self c =
    let both : AreByName (in_handles c.self.inside.listed.items) (in_handles c.self.inside.by_name.items)
    × AreIndexesByName (in_handles c.self.inside.listed.items) (in_handles c.self.inside.indexes.items) = search rules in
    let are = both.0 in
    found_value c.found_among.result
    ∙ ap (option_map handle_value) (c.found_among.ensures (subst (λ handles. Rise (in_handles handles)) (sym c.as_slice.ensures.value) are.rise))
    ∙ shared_found (is_table c.args.name.now) c.as_slice.result.now
    ∙ ap (λ handles. find (is_table c.args.name.now) (in_handles handles)) c.as_slice.ensures.value
    ∙ are.first c.args.name.now
    ∙ ap (find (is_table c.args.name.now)) c.self.view_is

pub returns-else-self : goal.returns-else-self
returns-else-self c =
    found_value c.handle_named.result
    ∙ ap (option_map handle_value) c.handle_named.ensures
    ∙ shared_found (is_table c.args.name.now) c.as_slice-else-self.result.now
    ∙ ap (λ handles. find (is_table c.args.name.now) (in_handles handles)) c.as_slice-else-self.ensures.value
    ∙ ap (find (is_table c.args.name.now)) c.self.view_is

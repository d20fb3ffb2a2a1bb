use Rattle.std.proofs.Common.{◌∙◌, ap, sym}
use Rattle.std.specs.Prelude.{◌||◌}
use Rattle.std.specs.List.{list_any}
use Rattle.catalog.specs.Listed.{has_index, tables_of}
use Rattle.catalog.proofs.Found.{any_found}
use Rattle.catalog.proofs.tables.Catalog.has_table_name.Goals as goal

pub returns-then-is_some : goal.returns-then-is_some
returns-then-is_some c =
    c.if-is_some.true ∙ ap (λ b. b || list_any (has_index c.args.name.now) (tables_of c.args.self.now)) (sym c.if-is_some.true)
    ∙ sym (any_found c.args.name.now (tables_of c.args.self.now) c.find.result c.is_some.result c.is_some.ensures c.find.ensures)

pub returns-else-is_some : goal.returns-else-is_some
returns-else-is_some c =
    c.has_index.ensures
    ∙ ap (λ b. b || list_any (has_index c.args.name.now) (tables_of c.args.self.now)) (sym c.if-is_some.false)
    ∙ sym (any_found c.args.name.now (tables_of c.args.self.now) c.find.result c.is_some.result c.is_some.ensures c.find.ensures)

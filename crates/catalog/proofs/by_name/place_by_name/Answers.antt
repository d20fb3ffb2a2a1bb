use Rattle.std.proofs.Common.{rules, of_calls}
use Rattle.std.proofs.lemmas.Fn.{always_returns_same}
use Rattle.std.specs.declared.alloc.Global.{Global}
use Rattle.std.specs.declared.rc.Rc.{Rc}
use Rattle.catalog.specs.ByName.{compared_names, table_name}
use Rattle.catalog.specs.declared.tables.Table.{Table}
use Rattle.catalog.proofs.Rising.{found, gap}
use Rattle.catalog.proofs.by_name.place_by_name.Goals as goal

pub returns-clause-found : goal.returns-clause-found
returns-clause-found c =
    let by_order = c.binary_search_by.ensures.position (λ (h : Rc Table Global). compared_names h.value.name c.args.name.now) (always_returns_same _ _ _ (λ a r f k. search (rules, of_calls))) in
    found table_name c.args.by_name.now c.args.name.now _ by_order

pub returns-clause-gap : goal.returns-clause-gap
returns-clause-gap c =
    let by_order = c.binary_search_by.ensures.position (λ (h : Rc Table Global). compared_names h.value.name c.args.name.now) (always_returns_same _ _ _ (λ a r f k. search (rules, of_calls))) in
    gap table_name c.args.by_name.now c.args.name.now _ by_order

use Rattle.std.proofs.Common.{rules, of_calls}
use Rattle.std.proofs.lemmas.Fn.{always_returns_same}
use Rattle.std.specs.declared.alloc.Global.{Global}
use Rattle.std.specs.declared.rc.Rc.{Rc}
use Rattle.catalog.specs.ByIndex.{index_name}
use Rattle.catalog.specs.ByName.{compared_names}
use Rattle.catalog.specs.declared.by_index.IndexHandle.{IndexHandle}
use Rattle.catalog.proofs.Rising.{found, gap}
use Rattle.catalog.proofs.by_index.place_of_index.Goals as goal

pub returns-clause-found : goal.returns-clause-found
returns-clause-found c =
    let by_order = c.binary_search_by.ensures.position (λ (h : Rc IndexHandle Global). compared_names (index_name h.value) c.args.name.now) (always_returns_same _ _ _ (λ a r f k. search (rules, of_calls))) in
    found index_name c.args.handles.now c.args.name.now _ by_order

pub returns-clause-gap : goal.returns-clause-gap
returns-clause-gap c =
    let by_order = c.binary_search_by.ensures.position (λ (h : Rc IndexHandle Global). compared_names (index_name h.value) c.args.name.now) (always_returns_same _ _ _ (λ a r f k. search (rules, of_calls))) in
    gap index_name c.args.handles.now c.args.name.now _ by_order

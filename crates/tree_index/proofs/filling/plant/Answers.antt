use Rattle.std.proofs.Common.{◌≡◌, ◌∙◌, ℕ, true, [], List, length, rules, map, ap, inl, sym, subst}
use Rattle.tree_pack.specs.Packing.{AreOf, CanPack, Packs}
use Rattle.tree_page.specs.declared.items.Kind.TheVariants.{IndexLeaf}
use Rattle.tree_store.specs.Storing.{Rewrites}
use Rattle.tree_index.specs.Flattening.{BuildsOver}
use Rattle.tree_index.proofs.Fillings.{does_since}
use Rattle.tree_index.proofs.Plantings.{run_node, run_of, run_can, alone_or, store_refused, several_or}
use Rattle.tree_index.proofs.Readings.{full_err, outside_full}
use Rattle.tree_index.proofs.Rooting.{none_left}
use Rattle.tree_index.proofs.filling.plant.Goals as goal

pub returns-in_err-packed-clause-planted : goal.returns-in_err-packed-clause-planted
returns-in_err-packed-clause-planted g c = λ told entries chains free is.
    (let gs = g.P.Pages in
    let first = c.args.pages.now in
    let old = gs.map first in
    let size = (gs.limits (gs.below first)).page in
    let cells = map (λ cell. cell.items) c.args.cells.now in
    let lent = map (λ cell. cell.now) c.as_slice.result.now in
    let same : lent ≡ cells = ap (map (λ cell. cell.now)) c.as_slice.ensures.value ∙ c.in_ok-cells.ensures.cells in
    let size_is = c.page_size.ensures in
    let node = run_node old size c.args.root entries chains free cells is in
    let of = subst (λ (n : ℕ). AreOf IndexLeaf n [] lent node) (sym size_is) (subst (λ (cs : List (List ℕ)). AreOf IndexLeaf size [] cs node) (sym same) (run_of old size c.args.root entries chains free cells is)) in
    let can = subst (λ (n : ℕ). CanPack n 0 IndexLeaf lent) (sym size_is) (subst (λ (cs : List (List ℕ)). CanPack size 0 IndexLeaf cs) (sym same) (run_can old size c.args.root entries chains free cells is)) in
    outside_full _ c.from_residual-in_err-packed.result c.in_err-packed.field-0.0 c.from_residual-in_err-packed.ensures.1 (inl (c.in_err-packed.ensures.only node of can)))

pub returns-then-is_empty-clause-planted : goal.returns-then-is_empty-clause-planted
returns-then-is_empty-clause-planted g c = λ told entries chains free is.
    (let gs = g.P.Pages in
    let first = c.args.pages.now in
    let old = gs.map first in
    let size = (gs.limits (gs.below first)).page in
    let cells = map (λ cell. cell.items) c.args.cells.now in
    let lent = map (λ cell. cell.now) c.as_slice.result.now in
    let same : lent ≡ cells = ap (map (λ cell. cell.now)) c.as_slice.ensures.value ∙ c.in_ok-cells.ensures.cells in
    let size_is = c.page_size.ensures in
    let packed = c.in_ok-packed.packed in
    let node = run_node old size c.args.root entries chains free cells is in
    let of = subst (λ (n : ℕ). AreOf IndexLeaf n [] lent node) (sym size_is) (subst (λ (cs : List (List ℕ)). AreOf IndexLeaf size [] cs node) (sym same) (run_of old size c.args.root entries chains free cells is)) in
    let packs = subst (λ (cs : List (List ℕ)). Packs IndexLeaf size [] true cs node packed) same (subst (λ (n : ℕ). Packs IndexLeaf n [] true lent node packed) size_is (c.in_ok-packed.ensures.packed node of)) in
    let none : length packed.pieces.items ≡ 0 = search rules in
    let new = gs.map c.put_node.new.pages in
    let rewrites = subst (λ (bytes : List ℕ). Rewrites old new size c.args.root bytes c.put_node.result) c.as_slice-then-is_empty.ensures.value (c.put_node.ensures.rewritten told) in
    alone_or old size c.args.root entries chains free cells is packed packs new c.put_node.result (none_left packed.pieces.items none) rewrites)

pub returns-in_err-fan-clause-planted : goal.returns-in_err-fan-clause-planted
returns-in_err-fan-clause-planted g c = λ told entries chains free is.
    (let gs = g.P.Pages in
    let first = c.args.pages.now in
    let old = gs.map first in
    let size = (gs.limits (gs.below first)).page in
    let cells = map (λ cell. cell.items) c.args.cells.now in
    let lent = map (λ cell. cell.now) c.as_slice.result.now in
    let same : lent ≡ cells = ap (map (λ cell. cell.now)) c.as_slice.ensures.value ∙ c.in_ok-cells.ensures.cells in
    let size_is = c.page_size.ensures in
    let packed = c.in_ok-packed.packed in
    let node = run_node old size c.args.root entries chains free cells is in
    let of = subst (λ (n : ℕ). AreOf IndexLeaf n [] lent node) (sym size_is) (subst (λ (cs : List (List ℕ)). AreOf IndexLeaf size [] cs node) (sym same) (run_of old size c.args.root entries chains free cells is)) in
    let packs = subst (λ (cs : List (List ℕ)). Packs IndexLeaf size [] true cs node packed) same (subst (λ (n : ℕ). Packs IndexLeaf n [] true lent node packed) size_is (c.in_ok-packed.ensures.packed node of)) in
    full_err _ c.from_residual-in_err-fan.result c.in_err-fan.field-0.0 c.from_residual-in_err-fan.ensures.1
    (store_refused old size c.args.root entries chains free cells is packed packs (gs.map c.store.new.pages) c.in_err-fan.field-0.0 (c.in_err-fan.ensures.stored told)))

pub returns-clause-planted : goal.returns-clause-planted
returns-clause-planted g c = λ told entries chains free is.
    (let gs = g.P.Pages in
    let first = c.args.pages.now in
    let old = gs.map first in
    let size = (gs.limits (gs.below first)).page in
    let cells = map (λ cell. cell.items) c.args.cells.now in
    let lent = map (λ cell. cell.now) c.as_slice.result.now in
    let same : lent ≡ cells = ap (map (λ cell. cell.now)) c.as_slice.ensures.value ∙ c.in_ok-cells.ensures.cells in
    let size_is = c.page_size.ensures in
    let packed = c.in_ok-packed.packed in
    let node = run_node old size c.args.root entries chains free cells is in
    let of = subst (λ (n : ℕ). AreOf IndexLeaf n [] lent node) (sym size_is) (subst (λ (cs : List (List ℕ)). AreOf IndexLeaf size [] cs node) (sym same) (run_of old size c.args.root entries chains free cells is)) in
    let packs = subst (λ (cs : List (List ℕ)). Packs IndexLeaf size [] true cs node packed) same (subst (λ (n : ℕ). Packs IndexLeaf n [] true lent node packed) size_is (c.in_ok-packed.ensures.packed node of)) in
    let fan = c.in_ok-fan.fan in
    let mid = gs.map c.store.new.pages in
    let new = gs.map c.build_over.new.pages in
    let builds = does_since gs.below gs.tells gs.limits first c.store.new.pages (λ (n : ℕ). BuildsOver mid new n c.args.root fan 15 c.build_over.result) c.in_ok-fan.ensures.kept
    c.build_over.ensures.built told in
    several_or old size c.args.root entries chains free cells is packed packs mid new fan c.build_over.result (c.in_ok-fan.ensures.stored told) builds)

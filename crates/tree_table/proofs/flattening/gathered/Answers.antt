use Rattle.std.proofs.Common.{◌≡◌, ◌∙◌, ℕ, true, [], map, ap, inl, sym, subst}
use Rattle.std.specs.Prelude.{Some}
use Rattle.tree_page.specs.Node.{Keys}
use Rattle.tree_page.specs.declared.items.Kind.TheVariants.{TableInterior}
use Rattle.tree_pack.specs.Building.{right_bytes}
use Rattle.tree_pack.specs.Packing.{AreOf, CanPack, Packs}
use Rattle.tree_store.specs.Sides.{children}
use Rattle.tree_store.specs.Storing.{cells_of}
use Rattle.tree_table.specs.Tree.{top}
use Rattle.tree_table.proofs.Exits.{outside_full}
use Rattle.tree_table.proofs.Gatherings.{are_of, can_pack, gathered_or}
use Rattle.tree_table.proofs.flattening.gathered.Goals as goal

pub returns-in_err-packed-clause-gathered : goal.returns-in_err-packed-clause-gathered
returns-in_err-packed-clause-gathered g c = λ told depth low high rows used free is.
    (let gs = g.P.Pages in
    let first = c.args.pages.now in
    let old = gs.map first in
    let size = (gs.limits (gs.below first)).page in
    let fan = c.args.fan.now in
    let cells = map (λ cell. cell.now) c.as_slice.result.now in
    let same : cells ≡ cells_of fan = ap (map (λ cell. cell.now)) c.as_slice.ensures.value ∙ c.in_ok-cells.ensures.cells in
    let size_is = c.page_size.ensures in
    let of = subst (λ (n : ℕ). AreOf TableInterior n (right_bytes (Some fan.last)) cells (Keys (children (top depth) is.kids) (top depth is.last))) (sym size_is) (are_of old size depth low high rows used free fan is cells same) in
    let can = subst (λ (n : ℕ). CanPack n 0 TableInterior cells) (sym size_is) (can_pack old size depth low high rows used free fan is cells same) in
    outside_full _ c.from_residual-in_err-packed.result c.in_err-packed.field-0.0 c.from_residual-in_err-packed.ensures.1
    (inl (c.in_err-packed.ensures.only (Keys (children (top depth) is.kids) (top depth is.last)) of can)))

pub returns-clause-gathered : goal.returns-clause-gathered
returns-clause-gathered g c = λ told depth low high rows used free is.
    (let gs = g.P.Pages in
    let first = c.args.pages.now in
    let old = gs.map first in
    let size = (gs.limits (gs.below first)).page in
    let fan = c.args.fan.now in
    let cells = map (λ cell. cell.now) c.as_slice.result.now in
    let same : cells ≡ cells_of fan = ap (map (λ cell. cell.now)) c.as_slice.ensures.value ∙ c.in_ok-cells.ensures.cells in
    let size_is = c.page_size.ensures in
    let node = Keys (children (top depth) is.kids) (top depth is.last) in
    let of = subst (λ (n : ℕ). AreOf TableInterior n (right_bytes (Some fan.last)) cells node) (sym size_is) (are_of old size depth low high rows used free fan is cells same) in
    let packs = subst (λ (n : ℕ). Packs TableInterior n [] true cells node c.in_ok-packed.packed) size_is (c.in_ok-packed.ensures.packed node of) in
    gathered_or old size depth low high rows used free fan is cells same c.in_ok-packed.packed packs (gs.map c.store.new.pages) c.store.result (c.store.ensures.stored told))

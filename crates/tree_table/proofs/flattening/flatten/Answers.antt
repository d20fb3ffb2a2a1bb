use Rattle.std.proofs.Common.{◌∙◌, ℕ, suc, List, map, Ok, Err, IsTrue, ap, sym, subst, arith}
use Rattle.std.specs.Global.{Vec}
use Rattle.pages.specs.Map.{PageMap}
use Rattle.tree_store.specs.Sides.{children}
use Rattle.tree_store.specs.declared.storing.Fan.{Fan}
use Rattle.tree_table.specs.Flattening.{BuildsOver, FindsLeaves}
use Rattle.tree_table.specs.Tree.{top, rows_of}
use Rattle.tree_table.specs.Growing.{below_of}
use Rattle.tree_table.proofs.Descents.{since}
use Rattle.tree_table.proofs.Exits.{outside_full}
use Rattle.tree_table.proofs.Flattened.{root_says, root_fan, kids_beside, flattened_or}
use Rattle.tree_table.proofs.flattening.flatten.Goals as goal

abbrev bytes_of : List (Vec ℕ) → List (List ℕ)
bytes_of cells = map (λ cell. cell.items) cells

pub returns-in_err-last-clause-flattened : goal.returns-in_err-last-clause-flattened
returns-in_err-last-clause-flattened g c = λ told depth low high t free is sorted sized.
    (let gs = g.P.Pages in
    let first = c.args.pages.now in
    let size = (gs.limits (gs.below first)).page in
    outside_full _ c.from_residual.result c.in_err-last.field-0.0 c.from_residual.ensures.1
    (c.in_err-last.ensures.read told (children (top depth) t.kids) (top depth t.last) is.free_are.whole (root_says (gs.map first) size c.args.root depth low high t free is sorted sized)))

pub returns-in_err-leaves-clause-flattened : goal.returns-in_err-leaves-clause-flattened
returns-in_err-leaves-clause-flattened g c = λ told depth low high t free is sorted sized.
    (let gs = g.P.Pages in
    let first = c.args.pages.now in
    let old = gs.map first in
    let size = (gs.limits (gs.below first)).page in
    let root = c.args.root in
    let stays = c.in_ok-last.ensures.stays in
    let fan : Fan = record { cells = c.read_cells.new.out; last = c.in_ok-last.last } in
    let read = c.in_ok-last.ensures.read told (children (top depth) t.kids) (top depth t.last) is.free_are.whole (root_says old size root depth low high t free is sorted sized) in
    let fan_is = root_fan old size root depth low high t free is sorted sized fan (bytes_of c.new-cells.result.items) (ap bytes_of c.new-cells.ensures.items) read in
    let beside = kids_beside old size root depth low high t free is sorted sized fan fan_is in
    let finds = since gs.below gs.tells gs.limits gs.map first c.read_cells.new.pages (λ (m : PageMap) (n : ℕ). FindsLeaves m (gs.map c.leaves_below.new.pages) n fan 19 (Err c.in_err-leaves.field-0.0)) stays.kept stays.same
    c.in_err-leaves.ensures.found told in
    outside_full _ c.from_residual-in_err-leaves.result c.in_err-leaves.field-0.0 c.from_residual-in_err-leaves.ensures.1
    (finds depth low high (rows_of (suc depth) t) (below_of (suc depth) t) free beside (let few = is.shallow in omega (arith, few))))

pub returns-clause-flattened : goal.returns-clause-flattened
returns-clause-flattened g c = λ told depth low high t free is sorted sized.
    (let gs = g.P.Pages in
    let first = c.args.pages.now in
    let old = gs.map first in
    let size = (gs.limits (gs.below first)).page in
    let root = c.args.root in
    let stays = c.in_ok-last.ensures.stays in
    let fan : Fan = record { cells = c.read_cells.new.out; last = c.in_ok-last.last } in
    let read = c.in_ok-last.ensures.read told (children (top depth) t.kids) (top depth t.last) is.free_are.whole (root_says old size root depth low high t free is sorted sized) in
    let fan_is = root_fan old size root depth low high t free is sorted sized fan (bytes_of c.new-cells.result.items) (ap bytes_of c.new-cells.ensures.items) read in
    let beside = kids_beside old size root depth low high t free is sorted sized fan fan_is in
    let mid = gs.map c.leaves_below.new.pages in
    let new = gs.map c.build_over.new.pages in
    let leaves = c.in_ok-leaves.leaves in
    let finds = since gs.below gs.tells gs.limits gs.map first c.read_cells.new.pages (λ (m : PageMap) (n : ℕ). FindsLeaves m mid n fan 19 (Ok leaves)) stays.kept stays.same c.in_ok-leaves.ensures.found told in
    let found = finds depth low high (rows_of (suc depth) t) (below_of (suc depth) t) free beside (let few = is.shallow in omega (arith, few)) in
    let kept = c.in_ok-leaves.ensures.kept ∙ stays.kept in
    let builds = subst (λ k. BuildsOver mid new (gs.limits k).page root leaves 15 c.build_over.result) kept (c.build_over.ensures.built (subst (λ k. IsTrue (gs.tells k)) (sym kept) told)) in
    flattened_or old size root depth low high t free is sorted sized mid new leaves c.build_over.result found builds)

use Rattle.std.proofs.Common.{◌∙◌, ℕ, List, map, Ok, Err, ap, inl, subst}
use Rattle.std.specs.Global.{Vec}
use Rattle.tree_index.specs.Filling.{MakesCells, PlantsLeaves}
use Rattle.tree_index.proofs.Fillings.{does_since, refused_as, are_ready, tree_filled}
use Rattle.tree_index.proofs.filling.fill_tree.Goals as goal

pub returns-in_err-root-clause-filled : goal.returns-in_err-root-clause-filled
returns-in_err-root-clause-filled g c = λ told columns free free_are sized are.
    refused_as c.args.entries.now _ c.from_residual.result c.in_err-root.field-0.0 c.from_residual.ensures.1 (inl (c.in_err-root.ensures.made told columns free free_are sized))

pub returns-in_err-cells-clause-filled : goal.returns-in_err-cells-clause-filled
returns-in_err-cells-clause-filled g c = λ told columns free free_are sized are.
    (let p = g.P.Pages in
    let old = c.args.pages.now in
    let mid = c.new_tree.new.pages in
    let t = c.in_ok-root.ensures.made told columns free free_are sized in
    let makes = does_since p.below p.tells p.limits old mid (λ (n : ℕ). MakesCells (λ (made : Vec (Vec ℕ)). map (λ (cell : Vec ℕ). cell.items) made.items) (p.map mid) (p.map c.cells_for.new.pages) n c.args.entries.now (Err c.in_err-cells.field-0.0))
    c.in_ok-root.ensures.kept c.in_err-cells.ensures.made told in
    refused_as c.args.entries.now _ c.from_residual-in_err-cells.result c.in_err-cells.field-0.0 c.from_residual-in_err-cells.ensures.1 (makes t.now_free t.stands.free_are sized))

pub returns-in_err-plant-clause-filled : goal.returns-in_err-plant-clause-filled
returns-in_err-plant-clause-filled g c = λ told columns free free_are sized are.
    (let p = g.P.Pages in
    let old = c.args.pages.now in
    let mid = c.new_tree.new.pages in
    let next = c.cells_for.new.pages in
    let size = (p.limits (p.below old)).page in
    let entries = c.args.entries.now in
    let cells = map (λ (cell : Vec ℕ). cell.items) c.in_ok-cells.cells.items in
    let t = c.in_ok-root.ensures.made told columns free free_are sized in
    let makes = does_since p.below p.tells p.limits old mid (λ (n : ℕ). MakesCells (λ (made : Vec (Vec ℕ)). map (λ (cell : Vec ℕ). cell.items) made.items) (p.map mid) (p.map next) n entries (Ok c.in_ok-cells.cells))
    c.in_ok-root.ensures.kept c.in_ok-cells.ensures.made told in
    let a = makes t.now_free t.stands.free_are sized in
    let plants = does_since p.below p.tells p.limits old next (λ (n : ℕ). PlantsLeaves (p.map next) (p.map c.plant.new.pages) n c.in_ok-root.root (map (λ (cell : Vec ℕ). cell.items) c.as_slice.result.now) (Err c.in_err-plant.field-0.0))
    (c.in_ok-cells.ensures.kept ∙ c.in_ok-root.ensures.kept) c.in_err-plant.ensures.planted told in
    let here = subst (λ (cs : List (List ℕ)). PlantsLeaves (p.map next) (p.map c.plant.new.pages) size c.in_ok-root.root cs (Err c.in_err-plant.field-0.0)) (ap (map (λ (cell : Vec ℕ). cell.items)) c.as_slice.ensures.value) plants in
    refused_as entries _ c.from_residual-in_err-plant.result c.in_err-plant.field-0.0 c.from_residual-in_err-plant.ensures.1
    (inl (here entries _ a.now_free (are_ready (p.map old) (p.map mid) (p.map next) size c.in_ok-root.root columns entries free cells free_are sized t a))))

pub returns-clause-filled : goal.returns-clause-filled
returns-clause-filled g c = λ told columns free free_are sized are.
    (let p = g.P.Pages in
    let old = c.args.pages.now in
    let mid = c.new_tree.new.pages in
    let next = c.cells_for.new.pages in
    let new = c.plant.new.pages in
    let size = (p.limits (p.below old)).page in
    let entries = c.args.entries.now in
    let cells = map (λ (cell : Vec ℕ). cell.items) c.in_ok-cells.cells.items in
    let t = c.in_ok-root.ensures.made told columns free free_are sized in
    let makes = does_since p.below p.tells p.limits old mid (λ (n : ℕ). MakesCells (λ (made : Vec (Vec ℕ)). map (λ (cell : Vec ℕ). cell.items) made.items) (p.map mid) (p.map next) n entries (Ok c.in_ok-cells.cells))
    c.in_ok-root.ensures.kept c.in_ok-cells.ensures.made told in
    let a = makes t.now_free t.stands.free_are sized in
    let plants = does_since p.below p.tells p.limits old next (λ (n : ℕ). PlantsLeaves (p.map next) (p.map new) n c.in_ok-root.root (map (λ (cell : Vec ℕ). cell.items) c.as_slice.result.now) (Ok tt))
    (c.in_ok-cells.ensures.kept ∙ c.in_ok-root.ensures.kept) c.in_ok-plant.ensures.planted told in
    let here = subst (λ (cs : List (List ℕ)). PlantsLeaves (p.map next) (p.map new) size c.in_ok-root.root cs (Ok tt)) (ap (map (λ (cell : Vec ℕ). cell.items)) c.as_slice.ensures.value) plants in
    tree_filled (p.map old) (p.map mid) (p.map next) size c.in_ok-root.root columns entries free cells free_are sized t a (p.map new) are
    (here entries _ a.now_free (are_ready (p.map old) (p.map mid) (p.map next) size c.in_ok-root.root columns entries free cells free_are sized t a)))

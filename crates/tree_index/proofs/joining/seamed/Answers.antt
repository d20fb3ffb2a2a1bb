use Rattle.std.proofs.Common.{rules, ◌≡◌, ◌∙◌, ℕ, zero, List, [], length, map, IsTrue, sym, ap, subst, inl, arith}
use Rattle.pages.specs.Map.{PageMap, page_at}
use Rattle.tree_page.specs.Cells.{Pairwise}
use Rattle.tree_page.specs.Node.{Between, IsNode, IsBetweenCell}
use Rattle.tree_pack.specs.Splicing.{Joins}
use Rattle.tree_store.specs.Storing.{cells_of}
use Rattle.tree_index.specs.Growing.{replaced}
use Rattle.tree_index.proofs.Beside.{at_start}
use Rattle.tree_index.proofs.Emptied.{large_size}
use Rattle.tree_index.proofs.Leaves.{usual}
use Rattle.tree_index.proofs.Merging.{first_moved, seamed_or}
use Rattle.tree_index.proofs.Readings.{refused}
use Rattle.tree_index.proofs.Spreading.{memory_outside}
use Rattle.tree_index.proofs.joining.seamed.Goals as goal

pub returns-in_err-other-clause-seams : goal.returns-in_err-other-clause-seams
returns-in_err-other-clause-seams g c = λ told said news more last end whole sized far_left far_right left_says right_says near cells few.
    (let gs = g.P.Pages in
    let old = gs.map c.args.pages.now in
    let size = (gs.limits (gs.below c.args.pages.now)).page in
    let bytes : c.loaded.result.now ≡ page_at old c.args.right = c.loaded.ensures ∙ c.in_ok-load.ensures.bytes told in
    let node = subst (λ (page : List ℕ). IsNode page 0 (Between more end)) (sym bytes) (at_start old c.args.right (Between more end) far_right right_says) in
    let long : length c.loaded.result.now ≡ size = ap length bytes ∙ whole c.args.right right_says.has in
    let none : map (λ cell. cell.items) c.new.result.items ≡ [] = (let empty : c.new.result.items ≡ [] = search rules in ap (map (λ cell. cell.items)) empty) in
    let fans = c.in_err-other.ensures.fans more [] end node (usual c.loaded.result.now size (large_size size sized) long) (omega arith) near (subst (λ (cells : List (List ℕ)). Pairwise (IsBetweenCell (length c.loaded.result.now)) cells []) (sym none) tt) (omega arith) in
    refused _ _ c.in_err-other.field-0.0 c.from_residual-in_err-other.ensures.1 (inl fans))

pub returns-clause-seams : goal.returns-clause-seams
returns-clause-seams g c = λ told said news more last end whole sized far_left far_right left_says right_says near cells few.
    (let gs = g.P.Pages in
    let old = gs.map c.args.pages.now in
    let size = (gs.limits (gs.below c.args.pages.now)).page in
    let stays = c.in_ok-load.ensures.stays in
    let bytes : c.loaded.result.now ≡ page_at old c.args.right = c.loaded.ensures ∙ c.in_ok-load.ensures.bytes told in
    let node = subst (λ (page : List ℕ). IsNode page 0 (Between more end)) (sym bytes) (at_start old c.args.right (Between more end) far_right right_says) in
    let long : length c.loaded.result.now ≡ size = ap length bytes ∙ whole c.args.right right_says.has in
    let none : map (λ cell. cell.items) c.new.result.items ≡ [] = (let empty : c.new.result.items ≡ [] = search rules in ap (map (λ cell. cell.items)) empty) in
    let fans = c.in_ok-other.ensures.fans more [] end node (usual c.loaded.result.now size (large_size size sized) long) (omega arith) near (subst (λ (cells : List (List ℕ)). Pairwise (IsBetweenCell (length c.loaded.result.now)) cells []) (sym none) tt) (omega arith) in
    let one = first_moved c.loaded.result.now size _ more end c.in_ok-other.other none long fans in
    let told_mid = subst (λ k. IsTrue (gs.tells k)) (sym stays.kept) told in
    let left : c.loaded-2.result.now ≡ page_at old c.args.left = c.loaded-2.ensures ∙ c.in_ok-load-2.ensures.bytes told_mid ∙ ap (λ (m : PageMap). page_at m c.args.left) stays.same in
    let left_node = subst (λ (page : List ℕ). IsNode page 0 (Between said last)) (sym left) (at_start old c.args.left (Between said last) far_left left_says) in
    let left_long : length c.loaded-2.result.now ≡ size = ap length left ∙ whole c.args.left left_says.has in
    let right : c.as_slice-3.result.now ≡ c.in_ok-other.other.last.items = c.as_slice-3.ensures.value in
    let between : map (λ cell. cell.now) c.as_slice-2.result.now ≡ cells_of c.args.fan.now = ap (map (λ cell. cell.now)) c.as_slice-2.ensures.value ∙ c.in_ok-cells.ensures.cells ∙ ap (map (λ cell. cell.items)) c.as_slice.ensures.value in
    let s = replaced zero ([], c.args.fan.now.last) more end in
    let right_node = subst (λ (page : List ℕ). IsNode page 0 (Between s.0 s.1)) (sym right) one.says in
    let joins = subst (λ (them : List (List ℕ)). Joins c.loaded-2.result.now them c.as_slice-3.result.now c.join.result) between c.join.ensures.joined in
    memory_outside _ c.join.result
    (seamed_or c.loaded-2.result.now c.as_slice-3.result.now size c.args.fan.now said news more last end left_node sized left_long cells few right_node (ap length right ∙ one.long) c.join.result joins))

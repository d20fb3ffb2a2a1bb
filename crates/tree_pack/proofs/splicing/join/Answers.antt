use Rattle.std.proofs.Common.{◌≡◌, ◌++◌, false, [], length, map, refl, ap, ◌∙◌, arith}
use Rattle.tree_page.specs.Node.{right_of}
use Rattle.tree_pack.specs.Building.{right_bytes}
use Rattle.tree_pack.proofs.SplicingLemmas.{refused_on, len_of, kind_of, last_of_page, whole_is, packing_of, packs_or_memory}
use Rattle.tree_pack.proofs.splicing.join.Goals as goal

pub returns-in_err-first-clause-joined : goal.returns-in_err-first-clause-joined
returns-in_err-first-clause-joined c = λ kind a b new is_a is_b usual sized same like say. absurd (c.in_err-first.ensures.only a is_a)

pub returns-in_err-second-clause-joined : goal.returns-in_err-second-clause-joined
returns-in_err-second-clause-joined c = λ kind a b new is_a is_b usual sized same like say. absurd (c.in_err-second.ensures.only b is_b)

pub returns-in_err-all-clause-joined : goal.returns-in_err-all-clause-joined
returns-in_err-all-clause-joined c =
    λ kind a b new is_a is_b usual sized same like say.
    let len : c.len.result ≡ length is_a.cells = len_of _ c.args.left.now 0 c.len.result a is_a c.in_ok-first.ensures.place c.len.ensures in
    let around = rw (c.in_ok-first.ensures.place, c.in_ok-second.ensures.place) at c.in_err-all.ensures.around in
    refused_on c.from_residual-in_err-all.result c.in_err-all.field-0.0 _ c.from_residual-in_err-all.ensures.1 (around a b is_a is_b (omega (arith, len)) (omega arith))

pub returns-clause-joined : goal.returns-clause-joined
returns-clause-joined c =
    λ kind a b new is_a is_b usual sized same like say.
    let left = c.args.left.now in
    let at_first = c.in_ok-first.ensures.place in
    let at_second = c.in_ok-second.ensures.place in
    let len : c.len.result ≡ length is_a.cells = len_of _ left 0 c.len.result a is_a at_first c.len.ensures in
    let around = rw (at_first, at_second) at c.in_ok-all.ensures.around in
    let all = whole_is c.len.result (map (λ cell. cell.now) c.in_ok-all.all.items) is_a.cells _ len (around a b is_a is_b (omega (arith, len)) (omega arith)) in
    let kind_is : c.kind.result ≡ kind = kind_of _ left 0 c.kind.result kind a is_a at_first c.kind.ensures same in
    let last_is : right_bytes c.last_child.result ≡ right_of b = last_of_page _ c.args.right.now 0 c.last_child.result b is_b at_second c.last_child.ensures in
    let least = usual.least in
    let addressed = usual.addressed in
    let cells = is_a.cells ++ (map (λ cell. cell.now) c.args.between.now ++ is_b.cells) in
    packs_or_memory c.pack.result (length left) [] kind (right_of b) false cells new least addressed (omega arith) say
    (packing_of c.pack.result (length left) [] [] c.kind.result kind (right_bytes c.last_child.result) (right_of b) false false
    (map (λ cell. cell.now) c.deref.result.now) cells refl kind_is last_is refl (ap (λ xs. map (λ cell. cell.now) xs) c.deref.ensures.value ∙ all)
    (λ node is_node. (c.pack.ensures.packed node is_node, c.pack.ensures.only node is_node)))

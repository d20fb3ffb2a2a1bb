use Rattle.std.proofs.Common.{◌≡◌, ◌+◌, ◌==◌, min, length, map, take, refl, sym, ap, ◌∙◌, arith}
use Rattle.std.proofs.lemmas.List.{take_min, length-take}
use Rattle.tree_page.specs.Node.{right_of}
use Rattle.tree_pack.specs.Building.{right_bytes}
use Rattle.tree_pack.specs.Splicing.{spliced}
use Rattle.tree_pack.proofs.SplicingLemmas.{refused_on, len_of, kind_of, last_of_page, same_last, packs_alone, packing_of, packs_or_memory}
use Rattle.tree_pack.proofs.splicing.splice.Goals as goal
use Rattle.tree_pack.proofs.splicing.splice.Goals.{then-len-from-via-then-len-from, then-len-from-via-else-len-from+then-len-from-2}

pub returns-in_err-tree-clause-spliced : goal.returns-in_err-tree-clause-spliced
returns-in_err-tree-clause-spliced c = λ kind old new is usual same within say. absurd (c.in_err-tree.ensures.only old is)

pub returns-then-len-from-clause-spliced : goal.returns-then-len-from-clause-spliced
returns-then-len-from-clause-spliced c =
    λ kind old new is usual same within say.
    let len : c.len-len.result ≡ length is.cells = len_of _ c.args.page.now c.args.start c.len-len.result old is c.in_ok-tree.ensures.place c.len-len.ensures in
    elim c.then-len-from.branch [
      | then-len-from-via-then-len-from w ↦ let past = w.if-len-from in absurd (omega (arith, past, within, len))
      | then-len-from-via-else-len-from+then-len-from-2 w ↦ let past = w.if-len-from-2 in absurd (omega (arith, past, within, len))
    ]

pub returns-in_err-all-clause-spliced : goal.returns-in_err-all-clause-spliced
returns-in_err-all-clause-spliced c =
    λ kind old new is usual same within say.
    let around = rw c.in_ok-tree.ensures.place at c.in_err-all.ensures.around in
    refused_on c.from_residual-in_err-all.result c.in_err-all.field-0.0 _ c.from_residual-in_err-all.ensures.1 (around old old is is (omega (arith, within)) within)

pub returns-in-Some-clause-spliced : goal.returns-in-Some-clause-spliced
returns-in-Some-clause-spliced c =
    λ kind old new is usual same within say.
    let page = c.args.page.now in
    let start = c.args.start in
    let least = usual.least in
    let near = usual.near in
    let stays = last_of_page _ page start c.last_child.result old is c.in_ok-tree.ensures.place c.last_child.ensures in
    let right : right_of new ≡ right_of old = say.right_is ∙ ap right_bytes (sym (same_last c.last_child.result c.args.right (sym c.if-eq.ensures))) ∙ stays in
    let placed = (rw c.in-Some.is at c.in_ok-last.ensures.placed) old new is usual within (sym say.kind_is ∙ same) right say.say in
    packs_alone kind page start (c.args.from + c.args.count == length is.cells) (spliced c.args.from c.args.count (map (λ cell. cell.now) c.args.cells.now) is.cells) new _ c.new.ensures.items say.kind_is
    (omega (arith, least, near)) placed

pub returns-clause-spliced : goal.returns-clause-spliced
returns-clause-spliced c =
    λ kind old new is usual same within say.
    let page = c.args.page.now in
    let start = c.args.start in
    let place = c.in_ok-tree.ensures.place in
    let len : c.len-len.result ≡ length is.cells = len_of _ page start c.len-len.result old is place c.len-len.ensures in
    let around = rw place at c.in_ok-all.ensures.around in
    let all = around old old is is (omega (arith, within)) within in
    let kind_is : c.kind.result ≡ kind = kind_of _ page start c.kind.result kind old is place c.kind.ensures same in
    let least = usual.least in
    let addressed = usual.addressed in
    let near = usual.near in
    let cells = spliced c.args.from c.args.count (map (λ cell. cell.now) c.args.cells.now) is.cells in
    let behind = c.args.from + c.args.count == length is.cells in
    let front_is : c.min.result ≡ min start (length page) = c.min.ensures in
    packs_or_memory c.pack.result (length page) (take start page) kind (right_bytes c.args.right) behind cells new least addressed (omega (arith, near, length-take start page)) say
    (packing_of c.pack.result (length page) (take c.min.result page) (take start page) c.kind.result kind (right_bytes c.args.right) (right_bytes c.args.right) (c.args.from + c.args.count == c.len-len.result) behind
    (map (λ cell. cell.now) c.deref.result.now) cells (ap (λ n. take n page) front_is ∙ take_min start page) kind_is refl (ap (λ n. c.args.from + c.args.count == n) len) (ap (λ xs. map (λ cell. cell.now) xs) c.deref.ensures.value ∙ all)
    (λ node is_node. (c.pack.ensures.packed node is_node, c.pack.ensures.only node is_node)))

use Rattle.std.proofs.Common.{◌≡◌, ℕ, List, ◌+◌, ◌*◌, ◌∙◌, drop, slice_index_or, [], ap, sym, arith}
use Rattle.tree_pack.proofs.ReplacingLemmas.{offset_is}
use Rattle.tree_pack.proofs.RewritingLemmas.{rest_of}
use Rattle.tree_pack.proofs.rewriting.cell_on.Goals as goal

pub returns : goal.returns
returns c = λ said is there.
    (let page = c.args.page.now in
    let pointer = c.in_ok-pointer.pointer in
    let left = drop pointer page in
    let pointers = rest_of page pointer c.if-page-pointer.false in
    let at_is = c.from_be_bytes.ensures in
    let pointer_is : pointer ≡ c.args.start + 8 + 0 + 2 * c.args.place = (let a = c.in_ok-pointer.ensures in let b = c.in_ok-checked_add.ensures in let d = c.in_ok-checked_mul.ensures in omega (arith, a, b, d)) in
    let from = offset_is 13 page c.args.start [] is.cells is.page_is c.args.place c.from-at.result left there (ap (λ n. drop n page) pointer_is)
    (c.from-at.ensures ∙ at_is ∙ ap (λ (bytes : List ℕ). slice_index_or bytes 0 0 * 256 + slice_index_or bytes 1 0) pointers) in
    rest_of page c.from-at.result c.if-page-at.false ∙ ap (λ n. drop n page) (sym from))

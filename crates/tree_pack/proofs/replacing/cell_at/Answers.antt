use Rattle.std.proofs.Common.{◌≡◌, ◌+◌, ◌-◌, ◌*◌, ◌<◌, ◌∙◌, length, drop, slice_index_or, ap, refl, arith}
use Rattle.std.proofs.lemmas.List.{get_or-take}
use Rattle.tree_page.specs.Node.{code_of, right_of}
use Rattle.tree_pack.proofs.PlacingLemmas.{count_on, width_on}
use Rattle.tree_pack.proofs.ReplacingLemmas.{offset_is, cell_size}
use Rattle.tree_pack.proofs.replacing.cell_at.Goals as goal

pub returns-in-len2-up-clause-found : goal.returns-in-len2-up-clause-found
returns-in-len2-up-clause-found c =
    λ node is.
    let page = c.args.page.now in
    let start = c.args.start in
    let place = c.args.place in
    let over = c.in-Ok.ensures.place in
    let count : c.len-count.result ≡ length is.cells = count_on _ page start c.len-count.result node is over c.len-count.ensures in
    let width : c.right_len.result ≡ length (right_of node) = c.right_len.ensures.value ∙ width_on _ page start c.kind.result node is over c.kind.ensures in
    let past = c.if-place-count.false in
    let there : place < length is.cells = omega (arith, past, count) in
    let pointer = start + 8 + c.right_len.result + 2 * place in
    let last = start + 8 + c.right_len.result + 2 * c.len-count.result in
    let left = drop pointer page in
    let read = c.in_ok-get.ensures.lookup.0.2 in
    let high : slice_index_or c.in_ok-get.field-0.now 0 0 ≡ slice_index_or left 0 0 = ap (λ bytes. slice_index_or bytes 0 0) read ∙ get_or-take (last - pointer) left 0 0 (omega (arith, past)) in
    let low : slice_index_or c.in_ok-get.field-0.now 1 0 ≡ slice_index_or left 1 0 = ap (λ bytes. slice_index_or bytes 1 0) read ∙ get_or-take (last - pointer) left 1 0 (omega (arith, past)) in
    let at : c.from-at.result ≡ slice_index_or left 0 0 * 256 + slice_index_or left 1 0 = omega (arith, c.from-at.ensures, c.from_be_bytes.ensures, high, low) in
    record {
      there = there;
      long = ap (λ n. c.from-at.result + n) (cell_size _ page start place (length c.in-Ok-cell.cell.now) node is over there c.in-Ok-cell.cell.now c.in-Ok-cell.ensures.only refl);
      offset = offset_is (code_of node) page start (right_of node) is.cells is.page_is place c.from-at.result left there (ap (λ n. drop n page) (omega (arith, width))) at;
      first_is = omega (arith, width);
      pointer_is = omega (arith, width);
      last_is = omega (arith, width, count);
      count_is = count;
    }

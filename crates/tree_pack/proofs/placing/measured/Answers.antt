use Rattle.std.proofs.Common.{◌≡◌, ◌+◌, ◌*◌, length, ap, ◌∙◌, arith}
use Rattle.tree_page.specs.Node.{right_of}
use Rattle.tree_pack.specs.Placing.{least_in}
use Rattle.tree_pack.proofs.PlacingLemmas.{count_on, width_on, lies_behind}
use Rattle.tree_pack.proofs.placing.measured.Goals as goal

pub returns-clause-lies : goal.returns-clause-lies
returns-clause-lies c =
    λ node is.
    let page = c.args.page.now in
    let start = c.args.start in
    let place = c.in-Ok.ensures.place in
    let first = start + 8 + c.right_len.result in
    let end = first + 2 * c.len-count.result in
    let count : c.len-count.result ≡ length is.cells = count_on _ page start c.len-count.result node is place c.len-count.ensures in
    let width : c.right_len.result ≡ length (right_of node) = c.right_len.ensures.value ∙ width_on _ page start c.kind.result node is place c.kind.ensures in
    let first_is : first ≡ start + 8 + length (right_of node) = omega (arith, width) in
    record {
      pointers_are = first_is;
      count_is = count;
      behind = lies_behind page start node is first end c.least_pointer-low.result first_is (omega (arith, count)) (c.least_pointer-low.ensures.value ∙ ap (least_in (length page)) c.in_ok-get.ensures.lookup.0.2);
    }

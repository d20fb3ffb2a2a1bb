use Rattle.std.proofs.Common.{◌<◌, ℕ, ℤ, List, length, sym, subst}
use Rattle.tree_page.specs.Node.{Local, Rows, IsNode}
use Rattle.tree_pack.specs.Replacing.{written_over}
use Rattle.tree_pack.specs.Rewriting.{IsRewritten}
use Rattle.tree_pack.proofs.rewriting.put_payload.Goals as goal

pub returns-in-Some-clause-written : goal.returns-in-Some-clause-written
returns-in-Some-clause-written c = λ said is there so.
    (let start = c.args.start in
    let place = c.args.place in
    let payload = c.args.payload.now in
    let found = subst (λ (bytes : List ℕ). (said : List (ℤ × Local)) (is : IsNode bytes start (Rows said)) → place < length is.cells → IsRewritten bytes start said is place payload (written_over c.in-Some.at payload bytes))
    c.as_slice.ensures.value c.in-Some.ensures.rewritten said is there in
    subst (λ (new : List ℕ). IsRewritten c.args.page.now.items start said is place payload new) (sym (c.write_over.ensures.written so)) found)

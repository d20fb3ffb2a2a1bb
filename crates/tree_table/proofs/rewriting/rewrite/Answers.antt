use Rattle.std.proofs.Common.{ℕ, List, subst}
use Rattle.tree_pack.specs.Rewriting.{IsRewritten}
use Rattle.tree_table.proofs.rewriting.rewrite.Goals as goal

pub returns-in-Some : goal.returns-in-Some
returns-in-Some c = λ said is there so.
    (let payload = c.in-Some.payload in
    (payload, c.in-Some.is, subst (λ (bytes : List ℕ). IsRewritten c.args.page.now.items c.args.start said is c.args.place bytes c.put_payload.new.page.items) c.as_slice.ensures.value (c.put_payload.ensures.written said is there so)))

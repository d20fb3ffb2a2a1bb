use Rattle.std.proofs.Common.{◌∷◌, [], IfSome, subst}
use Rattle.tree_pack.specs.Placing.{IsPlaced, Places}
use Rattle.tree_pack.specs.Splicing.{spliced}
use Rattle.tree_pack.proofs.RemovingLemmas.{without, node_without, code_without, right_without, say_without, put_again}
use Rattle.tree_pack.proofs.splicing.exchange_cell.Goals as goal

pub returns-in-Some-clause-exchanged : goal.returns-in-Some-clause-exchanged
returns-in-Some-clause-exchanged c =
    λ old new is usual within same last say.
    let page = c.args.page.now in
    let place = c.args.place in
    let mid = node_without place old in
    let removed = subst (λ found. IfSome found (λ written. IsPlaced page c.args.start (without place is.cells) mid written.items)) c.in-Some.is
    (c.in_ok-without.ensures.removed old mid is usual within (code_without place old) (right_without place old) (say_without _ place is.cells old is.say)) in
    put_again page c.in-Some.without.items c.args.start place c.args.cell.now old mid new is removed usual within (code_without place old) (right_without place old) same last say c.place_cell.result (subst (λ bytes. Places bytes c.args.start place c.args.cell.now c.place_cell.result) c.deref.ensures.value c.place_cell.ensures.placed)

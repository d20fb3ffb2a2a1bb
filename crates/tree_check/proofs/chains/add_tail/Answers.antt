use Rattle.std.proofs.Common.{◌∷◌, [], ◌<◌, arith, rules}
use Rattle.tree_page.specs.Reading.{local_of}
use Rattle.tree_check.specs.declared.chains.Tail.{Tail}
use Rattle.tree_check.proofs.TailLemmas.{is_long}
use Rattle.tree_check.proofs.chains.add_tail.Goals as goal

pub returns-clause-added : goal.returns-clause-added
returns-clause-added c = λ held.
    (let lt : c.args.most < c.args.payload.size = omega (arith, c.if-payload-most.false) in
    let tail : Tail = record { first = c.in-Some.first; size = c.saturating_sub-size.result } in
    (tail ∷ [], c.in_ok-push.ensures.items, is_long c.args.usable c.args.most (local_of c.args.payload) c.local_len-local.result tail lt held c.local_len-local.ensures c.in-Some.ensures.found c.saturating_sub-size.ensures (search rules)))

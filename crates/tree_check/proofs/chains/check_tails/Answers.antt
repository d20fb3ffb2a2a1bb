use Rattle.std.proofs.Common.{Ok}
use Rattle.tree_check.proofs.TailChains.{tail_then, tail_stops, tails_end}
use Rattle.tree_check.proofs.Running.{goes_on, ends}
use Rattle.tree_check.proofs.chains.check_tails.Goals as goal

pub returns-in_err-check_chain-clause-checked : goal.returns-in_err-check_chain-clause-checked
returns-in_err-check_chain-clause-checked g c =
    let p = g.P.Pages in
    ends p.below p.tells p.limits p.map p.count p.failures c.args.pages.now c.tails.pages c.args.marks.now.items c.tails.marks.items _ _ c.tails.invariant c.check_chain.new.marks.items c.from_residual.result
    (λ map size told can. tail_stops map size c.tails.rest.now _ c.tails.marks.items c.check_chain.new.marks.items c.check_chain.new.marks.items c.in_err-check_chain.field-0.0 c.from_residual.result c.in-len1-up.len_at_least
    (c.in_err-check_chain.ensures.checked map size told can) c.from_residual.ensures.1)

pub tails-preserved : goal.tails-preserved
tails-preserved g c =
    let p = g.P.Pages in
    goes_on p.below p.tells p.limits p.map p.count p.failures c.args.pages.now c.tails.pages c.args.marks.now.items c.tails.marks.items _ _ c.tails.invariant
    (Ok tt) c.check_chain.new.pages c.check_chain.new.marks.items _ c.in_ok-check_chain.ensures.stays c.in_ok-check_chain.ensures.long
    (λ map size told can after result rest. tail_then map size c.tails.rest.now _ c.tails.marks.items c.check_chain.new.marks.items c.in-len1-up.len_at_least (c.in_ok-check_chain.ensures.checked map size told can) after result rest)

pub returns-clause-checked : goal.returns-clause-checked
returns-clause-checked g c =
    let p = g.P.Pages in
    ends p.below p.tells p.limits p.map p.count p.failures c.args.pages.now c.tails.pages c.args.marks.now.items c.tails.marks.items _ _ c.tails.invariant c.tails.marks.items (Ok tt)
    (λ map size told can. tails_end map size c.tails.rest.now c.tails.marks.items c.in_default.len_below)

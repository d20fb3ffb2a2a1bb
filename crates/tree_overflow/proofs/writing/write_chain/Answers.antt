use Rattle.std.proofs.Common.{◌<◌, ◌^◌, rules, Ok, Err}
use Rattle.tree_overflow.proofs.LayingChains.{laid_anew, unlaid, lays_since}
use Rattle.tree_overflow.proofs.writing.write_chain.Goals as goal

pub returns-in_err-lay_chain-clause-laid : goal.returns-in_err-lay_chain-clause-laid
returns-in_err-lay_chain-clause-laid g c = λ told.
    (let near : c.in_ok-first.first < 2 ^ 32 = search rules in
    let pages = g.P.Pages in
    let old = c.args.pages.now in
    let mid = c.take.new.pages in
    let new = pages.map c.lay_chain.new.pages in
    let fault = c.in_err-lay_chain.field-0.0 in
    let lays = lays_since pages.below pages.tells pages.limits old mid (pages.map mid) new c.in_ok-first.first c.args.bytes.now (Err fault) c.in_ok-first.ensures.kept c.in_err-lay_chain.ensures.laid told in
    unlaid (pages.map old) (pages.map mid) new new (pages.limits (pages.below old)).page c.in_ok-first.first c.args.bytes.now fault c.from_residual-in_err-lay_chain.result near (c.in_ok-first.ensures.taken told) lays
    c.from_residual-in_err-lay_chain.ensures.1)

pub returns-clause-laid : goal.returns-clause-laid
returns-clause-laid g c = λ told.
    (let near : c.in_ok-first.first < 2 ^ 32 = search rules in
    let pages = g.P.Pages in
    let old = c.args.pages.now in
    let mid = c.take.new.pages in
    let new = pages.map c.lay_chain.new.pages in
    let lays = lays_since pages.below pages.tells pages.limits old mid (pages.map mid) new c.in_ok-first.first c.args.bytes.now (Ok tt) c.in_ok-first.ensures.kept c.in_ok-lay_chain.ensures.laid told in
    laid_anew (pages.map old) (pages.map mid) new (pages.limits (pages.below old)).page c.in_ok-first.first c.args.bytes.now near (c.in_ok-first.ensures.taken told) lays)

use Rattle.std.proofs.Common.{◌∙◌, ap}
use Rattle.tree_pack.specs.Freeing.{greatest_in}
use Rattle.tree_pack.proofs.FreeingLemmas.{clear_below, none_below, up_to}
use Rattle.tree_pack.proofs.freeing.are_clear.Goals as goal

pub returns-then-greatest-eq0 : goal.returns-then-greatest-eq0
returns-then-greatest-eq0 c =
    λ told node is are.
    let page = c.args.page.now in
    let greatest = c.greatest_below-greatest.result in
    let upto = up_to page c.args.start node is c.args.end c.args.at greatest c.args.pointers are (c.greatest_below-greatest.ensures.value ∙ ap (greatest_in c.args.end 0) c.in-Some.ensures.lookup.0.2) in
    none_below page c.args.start node is c.args.end c.args.at greatest c.if-greatest-eq0.true upto

pub returns : goal.returns
returns c =
    λ told node is are.
    let page = c.args.page.now in
    let greatest = c.greatest_below-greatest.result in
    let upto = up_to page c.args.start node is c.args.end c.args.at greatest c.args.pointers are (c.greatest_below-greatest.ensures.value ∙ ap (greatest_in c.args.end 0) c.in-Some.ensures.lookup.0.2) in
    clear_below page c.args.start node is c.args.end c.args.at greatest (c.ends_before.ensures told node is) upto

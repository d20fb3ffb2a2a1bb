use Rattle.std.proofs.Common.{◌≡◌, [], rules}
use Rattle.tree_store.specs.Storing.{cells_of}
use Rattle.tree_store.proofs.RootedPages.{rooted_or, raises_since}
use Rattle.tree_store.proofs.storing.store_root.Goals as goal

pub returns-clause-rooted : goal.returns-clause-rooted
returns-clause-rooted g c = λ told free are has none interior can.
    (let pages = g.P.Pages in
    let old = c.args.pages.now in
    let mid = c.store.new.pages in
    let new = pages.map c.raise.new.pages in
    let size = (pages.limits (pages.below old)).page in
    let fan = c.in_ok-fan.fan in
    let several : c.args.packed.now.pieces.items ≡ [] → ⊥ = search rules in
    let raises = raises_since pages.below pages.tells pages.limits old mid (pages.map mid) new c.args.root c.args.kind fan.last (cells_of fan) c.raise.result c.in_ok-fan.ensures.kept c.raise.ensures.raised told in
    rooted_or (pages.map old) (pages.map mid) new size c.args.root c.args.kind free c.args.packed.now fan c.raise.result several are has none interior can (c.in_ok-fan.ensures.stored told) raises)

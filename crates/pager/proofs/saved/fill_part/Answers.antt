use Rattle.std.proofs.Common.{◌≡◌, ◌∙◌, get_or, length, set, sym, ap, subst}
use Rattle.std.proofs.lemmas.List.{get_or_default, get_or_read, length-set}
use Rattle.wal.specs.declared.pages.PageImage.{PageImage}
use Rattle.pager.specs.Pieces.{IsSpot, InPieces, all_items}
use Rattle.pager.specs.Undo.{part_over}
use Rattle.pager.proofs.Joining.{spot_read, spot_set, spot_within}
use Rattle.pager.proofs.PartsBack.{here_at, here_is}
use Rattle.pager.proofs.saved.fill_part.Goals as goal

pub fill_in-requires : goal.fill_in-requires
fill_in-requires c =
    let spot = c.spot_of-spot.result in
    let ps = c.pages.inside.pieces.items in
    let is = subst (λ qs. IsSpot qs c.args.index spot.piece spot.at) c.deref.ensures.value c.spot_of-spot.ensures in
    spot_within ps c.args.index spot.piece spot.at c.index_mut.result.now c.index_mut.ensures.value is

pub invariant_of-pages : goal.invariant_of-pages
invariant_of-pages c =
    let spot = c.spot_of-spot.result in
    let ps = c.pages.inside.pieces.items in
    let p = c.index_mut.result.now in
    let is = subst (λ qs. IsSpot qs c.args.index spot.piece spot.at) c.deref.ensures.value c.spot_of-spot.ensures in
    let within = spot_within ps c.args.index spot.piece spot.at p c.index_mut.ensures.value is in
    let page = part_over c.args.offset c.args.bytes.now (here_at p.items spot.at within) in
    let after = spot_set ps c.args.index spot.piece spot.at p c.index_mut.ensures.value c.fill_in.new.pages page is (c.fill_in.ensures (here_at p.items spot.at within) ∙ ap (λ q. set p.items spot.at (part_over c.args.offset c.args.bytes.now q)) (sym (here_is p.items spot.at within))) in
    (c.pages.invariant.0 ∙ sym (ap length after ∙ length-set (all_items ps) c.args.index page), c.pages.invariant.1)

pub returns : goal.returns
returns c d =
    let spot = c.spot_of-spot.result in
    let ps = c.pages.inside.pieces.items in
    let p = c.index_mut.result.now in
    let is = subst (λ qs. IsSpot qs c.args.index spot.piece spot.at) c.deref.ensures.value c.spot_of-spot.ensures in
    let shown = ap (λ (v : InPieces PageImage). v.items) c.pages.view_is in
    let within = spot_within ps c.args.index spot.piece spot.at p c.index_mut.ensures.value is in
    let old : PageImage = get_or p.items spot.at d in
    let read = spot_read ps c.args.index spot.piece spot.at p c.index_mut.ensures.value old is (get_or_default p.items spot.at d old within) in
    let there : old ≡ get_or c.args.pages.now.items c.args.index old = subst (λ xs. old ≡ get_or xs c.args.index old) shown read in
    let page = part_over c.args.offset c.args.bytes.now old in
    spot_set ps c.args.index spot.piece spot.at p c.index_mut.ensures.value c.fill_in.new.pages page is (c.fill_in.ensures d) ∙ ap (λ xs. set xs c.args.index page) shown
    ∙ ap (λ q. set c.args.pages.now.items c.args.index (part_over c.args.offset c.args.bytes.now q)) (get_or_read c.args.pages.now.items c.args.index old c.requires there d)

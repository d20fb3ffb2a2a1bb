use Rattle.std.proofs.Common.{◌≡◌, ◌∙◌, get_or, length, set, sym, ap, subst}
use Rattle.std.proofs.lemmas.List.{get_or_default, get_or_read, length-set}
use Rattle.wal.specs.declared.pages.PageImage.{PageImage}
use Rattle.pager.specs.Pieces.{IsSpot, InPieces, all_items}
use Rattle.pager.proofs.Joining.{spot_read, spot_set, spot_within}
use Rattle.pager.proofs.saved.refill.Goals as goal

pub refill_in-requires-clause-within : goal.refill_in-requires-clause-within
refill_in-requires-clause-within c =
    let spot = c.spot_of-spot.result in
    let ps = c.pages.inside.pieces.items in
    let is = subst (λ qs. IsSpot qs c.args.index spot.piece spot.at) c.deref.ensures.value c.spot_of-spot.ensures in
    spot_within ps c.args.index spot.piece spot.at c.index_mut.result.now c.index_mut.ensures.value is

pub refill_in-requires-clause-long : goal.refill_in-requires-clause-long
refill_in-requires-clause-long c d =
    let spot = c.spot_of-spot.result in
    let ps = c.pages.inside.pieces.items in
    let p = c.index_mut.result.now in
    let is = subst (λ qs. IsSpot qs c.args.index spot.piece spot.at) c.deref.ensures.value c.spot_of-spot.ensures in
    let shown = ap (λ (v : InPieces PageImage). v.items) c.pages.view_is in
    let within = spot_within ps c.args.index spot.piece spot.at p c.index_mut.ensures.value is in
    let page : PageImage = get_or p.items spot.at d in
    let read = spot_read ps c.args.index spot.piece spot.at p c.index_mut.ensures.value page is (get_or_default p.items spot.at d page within) in
    ap (λ (q : PageImage). length q.bytes.items) (subst (λ xs. page ≡ get_or xs c.args.index page) shown read) ∙ c.requires.long page

pub invariant_of-pages : goal.invariant_of-pages
invariant_of-pages c =
    let spot = c.spot_of-spot.result in
    let ps = c.pages.inside.pieces.items in
    let is = subst (λ qs. IsSpot qs c.args.index spot.piece spot.at) c.deref.ensures.value c.spot_of-spot.ensures in
    let after = spot_set ps c.args.index spot.piece spot.at c.index_mut.result.now c.index_mut.ensures.value c.refill_in.new.pages c.refill_in.ensures.page is c.refill_in.ensures.set_is in
    (c.pages.invariant.0 ∙ sym (ap length after ∙ length-set (all_items ps) c.args.index c.refill_in.ensures.page), c.pages.invariant.1)

pub returns : goal.returns
returns c =
    let spot = c.spot_of-spot.result in
    let ps = c.pages.inside.pieces.items in
    let p = c.index_mut.result.now in
    let is = subst (λ qs. IsSpot qs c.args.index spot.piece spot.at) c.deref.ensures.value c.spot_of-spot.ensures in
    let shown = ap (λ (v : InPieces PageImage). v.items) c.pages.view_is in
    let within = spot_within ps c.args.index spot.piece spot.at p c.index_mut.ensures.value is in
    let page = c.refill_in.ensures.page in
    record {
      page = page;
      number_is = λ d.
          let old : PageImage = get_or p.items spot.at d in
          let read = spot_read ps c.args.index spot.piece spot.at p c.index_mut.ensures.value old is (get_or_default p.items spot.at d old within) in
          let there : old ≡ get_or c.args.pages.now.items c.args.index old = subst (λ xs. old ≡ get_or xs c.args.index old) shown read in
          c.refill_in.ensures.number_is d ∙ ap (λ (q : PageImage). q.number) (get_or_read c.args.pages.now.items c.args.index old c.requires.within there d);
      bytes_are = c.refill_in.ensures.bytes_are;
      set_is = spot_set ps c.args.index spot.piece spot.at p c.index_mut.ensures.value c.refill_in.new.pages page is c.refill_in.ensures.set_is ∙ ap (λ xs. set xs c.args.index page) shown;
    }

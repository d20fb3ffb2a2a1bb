use Rattle.std.proofs.Common.{◌∙◌, set, sym, ap, subst}
use Rattle.wal.specs.declared.pages.PageImage.{PageImage}
use Rattle.pager.specs.Pieces.{IsSpot, InPieces, all_items}
use Rattle.pager.specs.Writers.{FirstIsBytes, HasHeader, Reheads, SetsFirst}
use Rattle.pager.proofs.FirstPieces.{first_bytes, first_reheads, first_sets}
use Rattle.pager.proofs.Reheading.{sets_same_length}
use Rattle.pager.proofs.heading.rehead.Goals as goal

pub invariant_of-pages : goal.invariant_of-pages
invariant_of-pages c =
    let spot = c.spot_of-first.result in
    let ps = c.pages.inside.pieces.items in
    let is = subst (λ qs. IsSpot qs 0 spot.piece spot.at) c.deref.ensures.value c.spot_of-first.ensures in
    let sets = first_sets ps spot.piece spot.at c.index_mut.result.now c.rehead_piece.new.pages is c.index_mut.ensures.value c.rehead_piece.ensures.first in
    (c.pages.invariant.0 ∙ sym (sets_same_length (all_items ps) _ sets), c.pages.invariant.1)

pub returns-then-len-gt0-clause-reheads : goal.returns-then-len-gt0-clause-reheads
returns-then-len-gt0-clause-reheads c old has =
    let spot = c.spot_of-first.result in
    let ps = c.pages.inside.pieces.items in
    let is = subst (λ qs. IsSpot qs 0 spot.piece spot.at) c.deref.ensures.value c.spot_of-first.ensures in
    let shown = ap (λ (v : InPieces PageImage). v.items) c.pages.view_is in
    subst (λ xs. Reheads xs (all_items (set ps spot.piece c.rehead_piece.new.pages)) c.args.header.now) shown
    (first_reheads ps spot.piece spot.at c.index_mut.result.now c.rehead_piece.new.pages is c.index_mut.ensures.value old c.args.header.now c.rehead_piece.ensures.reheads (subst (λ xs. HasHeader xs old) (sym shown) has))

pub returns-then-len-gt0-clause-first : goal.returns-then-len-gt0-clause-first
returns-then-len-gt0-clause-first c =
    let spot = c.spot_of-first.result in
    let ps = c.pages.inside.pieces.items in
    let is = subst (λ qs. IsSpot qs 0 spot.piece spot.at) c.deref.ensures.value c.spot_of-first.ensures in
    let shown = ap (λ (v : InPieces PageImage). v.items) c.pages.view_is in
    subst (λ xs. SetsFirst xs (all_items (set ps spot.piece c.rehead_piece.new.pages))) shown
    (first_sets ps spot.piece spot.at c.index_mut.result.now c.rehead_piece.new.pages is c.index_mut.ensures.value c.rehead_piece.ensures.first)

pub returns-then-len-gt0-clause-bytes : goal.returns-then-len-gt0-clause-bytes
returns-then-len-gt0-clause-bytes c =
    let spot = c.spot_of-first.result in
    let ps = c.pages.inside.pieces.items in
    let is = subst (λ qs. IsSpot qs 0 spot.piece spot.at) c.deref.ensures.value c.spot_of-first.ensures in
    let shown = ap (λ (v : InPieces PageImage). v.items) c.pages.view_is in
    subst FirstIsBytes shown (first_bytes ps spot.piece spot.at c.index_mut.result.now c.rehead_piece.new.pages is c.index_mut.ensures.value c.rehead_piece.ensures.bytes)

use Rattle.std.proofs.Common.{◌+◌, [], length, drop, map, slice_index_or, ap, ◌∙◌, arith}
use Rattle.std.proofs.lemmas.List.{length-map}
use Rattle.tree_pack.specs.Building.{right_room, page_of}
use Rattle.tree_pack.specs.Spreading.{pages_of, dividing}
use Rattle.tree_pack.proofs.SpreadLemmas.{slice_is, rest_is, first_fits_page, last_fits_page, start_on, parts_on, pages_on, dividers_on, pages_last, dividers_last}
use Rattle.tree_pack.proofs.spreading.write_parts.Goals as goal

pub write_piece-requires : goal.write_piece-requires
write_piece-requires c =
    rw (slice_is c.parts.start (slice_index_or c.parts.left.now 0 0) c.args.cells.now)
    (first_fits_page c.args.kind c.args.page_size c.parts.left.now (drop c.parts.start (map (λ cell. cell.now) c.args.cells.now)) (right_room c.args.kind) c.requires.header.0 c.requires.header.1 (omega arith) c.in-len1-up.len_at_least c.parts.invariant.fit)

pub write-requires : goal.write-requires
write-requires c =
    let cells = map (λ cell. cell.now) c.args.cells.now in
    rw (rest_is c.parts.start c.args.cells.now)
    (last_fits_page c.args.kind c.args.page_size c.parts.left.now (drop c.parts.start cells) (length c.args.right.now) c.requires.header.0 c.requires.header.1 (omega (arith, c.requires.right)) c.in_default.len_below c.parts.invariant.fit)

pub returns-clause-images : goal.returns-clause-images
returns-clause-images c =
    let cells = map (λ cell. cell.now) c.args.cells.now in
    pages_last c.args.kind c.args.page_size c.parts.left.now (drop c.parts.start cells) (pages_of c.args.kind c.args.page_size c.args.right.now c.args.counts.now cells) (map (λ piece. piece.page.items) c.parts.pieces.items) c.args.right.now c.in_ok-last.last.items
    c.in_default.len_below (c.in_ok-last.ensures ∙ ap (λ part. page_of [] c.args.page_size c.args.kind c.args.right.now part) (rest_is c.parts.start c.args.cells.now)) c.parts.invariant.pages

pub returns-clause-dividers : goal.returns-clause-dividers
returns-clause-dividers c =
    let cells = map (λ cell. cell.now) c.args.cells.now in
    dividers_last c.args.kind c.parts.left.now (drop c.parts.start cells) (dividing c.args.kind c.args.counts.now cells) (map (λ piece. piece.divider.items) c.parts.pieces.items) c.in_default.len_below c.parts.invariant.dividers

pub parts-preserved : goal.parts-preserved
parts-preserved c =
    let cells = map (λ cell. cell.now) c.args.cells.now in
    let kind = c.args.kind in
    let start = c.parts.start in
    let left = c.parts.left.now in
    let count = slice_index_or left 0 0 in
    let up = c.up_len.result in
    let up_is = c.up_len.ensures.value in
    let some = c.in-len1-up.len_at_least in
    let i = c.parts.invariant in
    let len = length-map c.args.cells.now (λ cell. cell.now) in
    let pieces = c.parts.pieces.items in
    let pushed = c.push.new.self.items in
    let made = rw (slice_is start count c.args.cells.now, rest_is (start + count) c.args.cells.now) at c.in_ok-piece.ensures in
    record {
      within = omega (arith, start_on kind c.args.page_size start up left cells up_is (omega (arith, i.within, len)) some i.fit, len);
      fit = parts_on kind c.args.page_size start up left cells up_is some i.fit;
      pages = pages_on kind c.args.page_size start up left cells (pages_of kind c.args.page_size c.args.right.now c.args.counts.now cells) c.args.right.now pieces pushed c.in_ok-piece.piece up_is some c.in_ok-push.ensures.items made.page i.pages;
      dividers = dividers_on kind start up left cells (dividing kind c.args.counts.now cells) pieces pushed c.in_ok-piece.piece up_is some c.in_ok-push.ensures.items made.divider i.dividers;
    }

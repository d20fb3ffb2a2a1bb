use Rattle.std.proofs.Common.{◌≡◌, ◌+◌, ◌<◌, [], length, map, slice_index_or, refl, sym, arith}
use Rattle.std.proofs.lemmas.List.{length-map, get_or-map}
use Rattle.tree_pack.proofs.ReplacingLemmas.{none_yet, one_more, all_placed}
use Rattle.tree_pack.proofs.replacing.replace_cells.Goals as goal

pub cells-init : goal.cells-init
cells-init c = λ node is within. (omega arith, none_yet c.args.page.now c.in_ok-out.out.items c.args.start node is c.args.from (map (λ cell. cell.now) c.args.cells.now) (c.in_ok-out.ensures.items_if_clones_equal (λ x y same. same)))

pub cells-preserved : goal.cells-preserved
cells-preserved c =
    λ node is within.
    let here = c.cells.invariant node is within in
    let cells = c.args.cells.now in
    let news = map (λ cell. cell.now) cells in
    let i = c.cells.index in
    let lt : i < length cells = c.cells-test.true in
    let count : length news ≡ length cells = length-map cells (λ cell. cell.now) in
    let few = is.page_is.few in
    let sum = c.saturating_add-place.ensures in
    let place_is : c.saturating_add-place.result ≡ c.args.from + i = omega (arith, sum, lt, within, few) in
    let cell = slice_index_or cells i (record { ref_ptr = (0, 0); now = [] }) in
    let fits = c.if-not-write_over.ensures.fits refl in
    let there = c.in-Some.there in
    let same = c.if-size-cell.false in
    let size = c.saturating_sub-size.ensures in (
      omega (arith, lt),
      one_more c.args.page.now c.cells.out.items c.write_over.new.page.items c.args.start node is c.args.from i c.saturating_add-place.result there news cell.now here.1 (omega (arith, within, count)) (omega (arith, lt, count)) place_is
          (sym (get_or-map (λ cell. cell.now) cells i (record { ref_ptr = (0, 0); now = [] }) [] lt)) (c.in-Some.ensures.found node is) (omega (arith, same, size)) fits
          (c.if-not-write_over.ensures.written refl),
    )

pub returns-clause-replaced : goal.returns-clause-replaced
returns-clause-replaced c =
    λ old new is usual within same last say.
    let here = c.cells.invariant old is within in
    let past = c.cells-test.false in
    let most = here.0 in
    let cells = c.args.cells.now in
    let news = map (λ cell. cell.now) cells in
    let count : length news ≡ length cells = length-map cells (λ cell. cell.now) in
    all_placed c.args.page.now c.cells.out.items c.args.start old new is c.args.from c.cells.index (length cells) news here.1 (omega (arith, past, most, count)) (sym count) same last say

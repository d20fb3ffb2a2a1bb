use Rattle.std.proofs.Common.{◌≡◌, ◌<◌, ◌++◌, ◌∙◌, ℕ, List, length, map, take, drop, sym, ap, subst, arith}
use Rattle.std.proofs.lemmas.List.{get_or-map, length-map}
use Rattle.tree_page.specs.Node.{Rows}
use Rattle.tree_pack.proofs.SplicingLemmas.{refused_on}
use Rattle.tree_table.specs.Runs.{cell_in}
use Rattle.tree_table.proofs.RunMade.{IsUpTo, none_put, next_put, all_put, next_place_is, exchanged_packs}
use Rattle.tree_table.proofs.runs.exchange.Goals as goal

pub returns-in_err-page-clause-exchanged : goal.returns-in_err-page-clause-exchanged
returns-in_err-page-clause-exchanged c = λ said rows is usual rise say. absurd (c.in_err-page.ensures.only (Rows said) is)

pub places-init : goal.places-init
places-init c = λ node is rise.
    subst (λ (all : List (List ℕ)). IsUpTo is.cells c.args.places.now (map cell_in c.args.cells.now) c.first_of-first.result c.first_of-first.result 0 all) (sym (ap (λ (xs : List _). map (λ cell. cell.now) xs) c.new-all.ensures.items))
    (none_put is.cells c.args.places.now (map cell_in c.args.cells.now) c.first_of-first.result c.first_of-first.ensures rise)

pub returns-in_err-append_row-clause-exchanged : goal.returns-in_err-append_row-clause-exchanged
returns-in_err-append_row-clause-exchanged c = λ said rows is usual rise say.
    (let here = c.places.invariant (Rows said) is rise in
    let next = next_place_is is.cells c.args.places.now c.places.index c.places.from here.rises c.places-test.true in
    let put = rw c.in_ok-page.ensures.place at c.in_err-append_row.ensures.put in
    refused_on c.from_residual-in_err-append_row.result c.in_err-append_row.field-0.0 _ c.from_residual-in_err-append_row.ensures.1
    (put (Rows said) is next.0 (let lt = next.1 in omega (arith, lt))))

pub places-preserved : goal.places-preserved
places-preserved c = λ node is rise.
    (let here = c.places.invariant node is rise in
    let places = c.args.places.now in
    let i = c.places.index in
    let next = next_place_is is.cells places i c.places.from here.rises c.places-test.true in
    let put = rw c.in_ok-page.ensures.place at c.in_ok-append_row.ensures.put in
    let cell = c.index-cells-index.result in
    let same : length places ≡ length c.args.cells.now = c.requires in
    let lt : i < length places = c.places-test.true in
    let lt_cells : i < length c.args.cells.now = omega (arith, lt, same) in
    let few = (is.page_is).few in
    let within = next.1 in
    let sum = c.saturating_add-from.ensures in
    let mapped = length-map c.args.cells.now cell_in in
    next_put is.cells places (map cell_in c.args.cells.now) c.first_of-first.result c.places.from i c.saturating_add-from.result (map (λ cell. cell.now) c.places.all.items) (map (λ cell. cell.now) c.append_row.new.out.items) (cell_in cell) here lt
    (omega (arith, same, mapped)) (ap cell_in c.index-cells-index.is ∙ sym (get_or-map cell_in c.args.cells.now i cell (cell_in cell) lt_cells)) (omega (arith, few, within, sum))
    (put node is next.0 (omega (arith, within))))

pub returns-clause-exchanged : goal.returns-clause-exchanged
returns-clause-exchanged c = λ said rows is usual rise say.
    (let here = c.places.invariant (Rows said) is rise in
    let whole = all_put is.cells c.args.places.now (map cell_in c.args.cells.now) c.first_of-first.result c.places.from c.places.index (map (λ cell. cell.now) c.places.all.items) here c.places-test.false in
    let items = ap (λ (xs : List _). map (λ cell. cell.now) xs) c.as_slice.ensures.value in
    exchanged_packs c.args.bytes.now c.args.start c.first_of-first.result c.places.from c.saturating_sub-count.result c.splice.result said rows is usual (map (λ cell. cell.now) c.as_slice.result.now) _ here.after here.within c.saturating_sub-count.ensures
    (ap (λ (xs : List (List ℕ)). take c.first_of-first.result is.cells ++ (xs ++ drop c.places.from is.cells)) items ∙ whole) say c.splice.ensures.spliced)

use Rattle.std.proofs.Common.{◌≡◌, ◌∙◌, List, IsTrue, Ok, Err, sym, subst}
use Rattle.std.specs.Prelude.{MatchResult}
use Rattle.pages.specs.Calls.{IsOutsideOrFull}
use Rattle.pages.specs.Map.{PageMap, page_at, IsThere}
use Rattle.tree_table.specs.Growing.{below_of, IsPlanned}
use Rattle.tree_table.specs.Rows.{with_changes, IsLocal}
use Rattle.tree_table.specs.Runs.{Exchanges, WritesRows}
use Rattle.tree_table.specs.Tree.{rows_of}
use Rattle.tree_table.specs.declared.changing.RowChange.{RowChange}
use Rattle.tree_table.proofs.Exits.{full_err, outside_full}
use Rattle.tree_table.proofs.RunMade.{freed, written, new_there, made_as}
use Rattle.tree_table.proofs.runs.exchanged_leaf.Goals as goal

pub returns-in_err-free_run-clause-exchanged : goal.returns-in_err-free_run-clause-exchanged
returns-in_err-free_run-clause-exchanged g c = λ told ways rowid low t high free all run.
    (let gs = g.P.Pages in
    let pages = c.args.pages.now in
    let old = gs.map pages in
    let size = (gs.limits (gs.below pages)).page in
    let number = c.args.number in
    let under = run.under in
    let place = run.place in
    let lt = run.within in
    let same = run.same in
    let first = run.first in
    let places = c.args.places.now in
    let mid = gs.map c.free_run.new.pages in
    outside_full _ c.from_residual.result c.in_err-free_run.field-0.0 c.from_residual.ensures.1
    (freed old size number ways rowid low t high free under all first place lt same places run.run mid (Err c.in_err-free_run.field-0.0) (c.in_err-free_run.ensures.freed told)))

pub returns-in_err-cells-clause-exchanged : goal.returns-in_err-cells-clause-exchanged
returns-in_err-cells-clause-exchanged g c = λ told ways rowid low t high free all run.
    (let gs = g.P.Pages in
    let pages = c.args.pages.now in
    let old = gs.map pages in
    let size = (gs.limits (gs.below pages)).page in
    let number = c.args.number in
    let under = run.under in
    let place = run.place in
    let lt = run.within in
    let same = run.same in
    let first = run.first in
    let places = c.args.places.now in
    let mid = gs.map c.free_run.new.pages in
    let given = freed old size number ways rowid low t high free under all first place lt same places run.run mid (Ok tt) (c.in_ok-free_run.ensures.freed told) in
    let kept = c.in_ok-free_run.ensures.kept in
    let told_mid = subst (λ k. IsTrue (gs.tells k)) (sym kept) told in
    let new = gs.map c.write_rows.new.pages in
    let writes = subst (λ (cs : List RowChange). WritesRows mid new size cs (Err c.in_err-cells.field-0.0)) run.made
    (subst (λ k. WritesRows mid new (gs.limits k).page c.args.changes.now (Err c.in_err-cells.field-0.0)) kept (c.in_err-cells.ensures.written told_mid)) in
    full_err _ c.from_residual-in_err-cells.result c.in_err-cells.field-0.0 c.from_residual-in_err-cells.ensures.1
    (written old size number ways rowid low t high free under all first place lt same places run.run mid given new (Err c.in_err-cells.field-0.0) writes))

pub returns-in_err-load-clause-exchanged : goal.returns-in_err-load-clause-exchanged
returns-in_err-load-clause-exchanged g c = λ told ways rowid low t high free all run.
    (let gs = g.P.Pages in
    let pages = c.args.pages.now in
    let old = gs.map pages in
    let size = (gs.limits (gs.below pages)).page in
    let number = c.args.number in
    let under = run.under in
    let place = run.place in
    let lt = run.within in
    let same = run.same in
    let first = run.first in
    let places = c.args.places.now in
    let mid = gs.map c.free_run.new.pages in
    let given = freed old size number ways rowid low t high free under all first place lt same places run.run mid (Ok tt) (c.in_ok-free_run.ensures.freed told) in
    let kept = c.in_ok-free_run.ensures.kept in
    let told_mid = subst (λ k. IsTrue (gs.tells k)) (sym kept) told in
    let new = gs.map c.write_rows.new.pages in
    let writes = subst (λ (cs : List RowChange). WritesRows mid new size cs (Ok c.in_ok-cells.cells)) run.made
    (subst (λ k. WritesRows mid new (gs.limits k).page c.args.changes.now (Ok c.in_ok-cells.cells)) kept (c.in_ok-cells.ensures.written told_mid)) in
    let w = written old size number ways rowid low t high free under all first place lt same places run.run mid given new (Ok c.in_ok-cells.cells) writes in
    let kept_new = c.in_ok-cells.ensures.kept ∙ kept in
    let told_new = subst (λ k. IsTrue (gs.tells k)) (sym kept_new) told in
    let cells = c.in_ok-cells.cells.items in
    let there = new_there old size number ways rowid low t high free under all first place lt same places run.run mid given new cells w in
    outside_full _ c.from_residual-in_err-load.result c.in_err-load.field-0.0 c.from_residual-in_err-load.ensures.1
    (c.in_err-load.ensures.refusal told_new (subst (λ k. IsThere new (gs.limits k).page number) (sym kept_new) there)))

pub returns-clause-exchanged : goal.returns-clause-exchanged
returns-clause-exchanged g c = λ told ways rowid low t high free all run.
    (let gs = g.P.Pages in
    let pages = c.args.pages.now in
    let old = gs.map pages in
    let size = (gs.limits (gs.below pages)).page in
    let number = c.args.number in
    let under = run.under in
    let place = run.place in
    let lt = run.within in
    let same = run.same in
    let first = run.first in
    let places = c.args.places.now in
    let mid = gs.map c.free_run.new.pages in
    let given = freed old size number ways rowid low t high free under all first place lt same places run.run mid (Ok tt) (c.in_ok-free_run.ensures.freed told) in
    let kept = c.in_ok-free_run.ensures.kept in
    let told_mid = subst (λ k. IsTrue (gs.tells k)) (sym kept) told in
    let new = gs.map c.write_rows.new.pages in
    let writes = subst (λ (cs : List RowChange). WritesRows mid new size cs (Ok c.in_ok-cells.cells)) run.made
    (subst (λ k. WritesRows mid new (gs.limits k).page c.args.changes.now (Ok c.in_ok-cells.cells)) kept (c.in_ok-cells.ensures.written told_mid)) in
    let w = written old size number ways rowid low t high free under all first place lt same places run.run mid given new (Ok c.in_ok-cells.cells) writes in
    let kept_new = c.in_ok-cells.ensures.kept ∙ kept in
    let told_new = subst (λ k. IsTrue (gs.tells k)) (sym kept_new) told in
    let cells = c.in_ok-cells.cells.items in
    let there = new_there old size number ways rowid low t high free under all first place lt same places run.run mid given new cells w in
    let read : c.loaded.result.now ≡ page_at new number = c.loaded.ensures ∙ c.in_ok-load.ensures.bytes told_new in
    let exchanges = subst (λ cs. Exchanges c.loaded.result.now c.start_of.result places cs c.exchange.result) c.as_slice.ensures.value c.exchange.ensures.exchanged in
    let done = made_as old size number ways rowid low t high free under all first place lt same places run.run mid given new cells w c.loaded.result.now c.start_of.result c.args.changes.now c.exchange.result read c.start_of.ensures run.made exchanges in
    subst (λ (m : PageMap). MatchResult c.exchange.result (λ packed. IsLocal rowid high (with_changes c.args.changes.now)
    × IsPlanned old m size number 0 low high (with_changes c.args.changes.now (rows_of 0 t)) (below_of 0 t) free packed) IsOutsideOrFull) (sym c.in_ok-load.ensures.stays.same) done)

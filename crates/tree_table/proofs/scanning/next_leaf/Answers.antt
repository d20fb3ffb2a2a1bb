use Rattle.std.proofs.Common.{◌∙◌, ◌++◌, ℕ, ℤ, Ok, Err, sym, ap, subst, List, w64}
use Rattle.std.proofs.lemmas.Int.{to_z-of_z}
use Rattle.tree_leaf.specs.Leaf.{Entry}
use Rattle.pages.specs.Map.{PageMap}
use Rattle.tree_table.specs.Rows.{rows_from}
use Rattle.tree_table.specs.Scanning.{CopiesRows}
use Rattle.tree_table.specs.Ways.{FindsLeaf}
use Rattle.tree_table.proofs.FoundRows.{since}
use Rattle.tree_table.proofs.LeafRows.{refused}
use Rattle.tree_table.proofs.Scans.{of_leaf, words_of}
use Rattle.tree_table.proofs.scanning.next_leaf.Goals as goal

pub returns-in_err-end-clause-given : goal.returns-in_err-end-clause-given
returns-in_err-end-clause-given g c = λ told rows used whole tree. refused _ _ c.in_err-end.field-0.0 c.from_residual.ensures.1 (c.in_err-end.ensures.found told rows used whole tree)

pub returns-in_err-fill-clause-given : goal.returns-in_err-fill-clause-given
returns-in_err-fill-clause-given g c = λ told rows used whole tree.
    (let gs = g.P.Pages in
    let end = c.in_ok-end.ensures.found told rows used whole tree in
    let stays = c.in_ok-end.ensures.stays in
    refused _ _ c.in_err-fill.field-0.0 c.from_residual-in_err-fill.ensures.1
    (since gs.below gs.tells gs.limits gs.map (λ (m : PageMap) (n : ℕ). CopiesRows m n c.in_ok-end.end.way.page c.in_ok-end.end.place c.fill.new.self (Err c.in_err-fill.field-0.0)) c.args.pages.now
    c.find_leaf.new.pages stays.kept stays.same c.in_err-fill.ensures.copied told end.under.t whole end.under.lies end.under.at))

pub returns-clause-given : goal.returns-clause-given
returns-clause-given g c = λ told rows used whole tree.
    (let gs = g.P.Pages in
    let pages = gs.map c.args.pages.now in
    let size = (gs.limits (gs.below c.args.pages.now)).page in
    let plain = to_z-of_z w64 c.args.next c.ranges.next in
    let end = subst (λ (z : ℤ). FindsLeaf pages size c.args.root z (Ok c.in_ok-end.end)) plain (c.in_ok-end.ensures.found told) rows used whole tree in
    let stays = c.in_ok-end.ensures.stays in
    let copied = since gs.below gs.tells gs.limits gs.map (λ (m : PageMap) (n : ℕ). CopiesRows m n c.in_ok-end.end.way.page c.in_ok-end.end.place c.fill.new.self (Ok tt)) c.args.pages.now
    c.find_leaf.new.pages stays.kept stays.same c.in_ok-fill.ensures.copied told end.under.t whole end.under.lies end.under.at in
    of_leaf pages size c.args.next rows c.in_ok-end.end c.next_of.result end (words_of pages size c.args.root rows used tree) c.next_of.ensures
    ∙ ap (λ (them : List Entry). them ++ rows_from c.next_of.result rows) (sym copied))

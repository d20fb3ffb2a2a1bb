use Rattle.std.proofs.Common.{◌∙◌, ℕ, ℤ, pos, Ok, Err, Option, refl, sym, ap, subst, w64, List, [], true, false}
use Rattle.std.proofs.lemmas.Int.{to_z-of_z}
use Rattle.pages.specs.Map.{PageMap, page_at}
use Rattle.tree_table.specs.Calls.{IsFound}
use Rattle.tree_table.specs.Tree.{Held}
use Rattle.tree_table.specs.Ways.{FindsLeaf, ReadsRow}
use Rattle.tree_table.proofs.FoundRows.{since, rowid_since, row_found, row_missing}
use Rattle.tree_table.proofs.LeafRows.{refused}
use Rattle.tree_table.proofs.finding.get.Goals as goal

nothing : Held
nothing = record { row = record { rowid = pos 0; payload = [] }; pages = [] }

pub returns-in_err-end-clause-found : goal.returns-in_err-end-clause-found
returns-in_err-end-clause-found g c = λ told rows used whole tree. refused _ _ c.in_err-end.field-0.0 c.from_residual.ensures.1 (c.in_err-end.ensures.found told rows used whole tree)

pub returns-in_err-is_row_at-clause-found : goal.returns-in_err-is_row_at-clause-found
returns-in_err-is_row_at-clause-found g c = λ told rows used whole tree.
    (let gs = g.P.Pages in
    let end = c.in_ok-end.ensures.found told rows used whole tree in
    let stays = c.in_ok-end.ensures.stays in
    let held = c.in_ok-end.ensures.held told ∙ ap (λ (m : PageMap). page_at m c.in_ok-end.end.way.page) (sym stays.same) in
    let plain = to_z-of_z w64 c.args.rowid c.ranges.rowid in
    refused _ _ c.in_err-is_row_at.field-0.0 c.from_residual-in_err-is_row_at.ensures.1
    (rowid_since gs.below gs.tells gs.limits gs.map c.args.pages.now c.find_leaf.new.pages c.in_ok-end.end.way.page c.in_ok-end.end.place c.args.rowid _ (Err c.in_err-is_row_at.field-0.0) plain
    stays.kept stays.same (λ telling. c.in_err-is_row_at.ensures.found telling held) told end.under.t whole end.under.lies end.under.at))

pub returns-then-not-branch-clause-found : goal.returns-then-not-branch-clause-found
returns-then-not-branch-clause-found g c = λ told rows used whole tree.
    (let gs = g.P.Pages in
    let pages = gs.map c.args.pages.now in
    let size = (gs.limits (gs.below c.args.pages.now)).page in
    let plain = to_z-of_z w64 c.args.rowid c.ranges.rowid in
    let end = subst (λ (z : ℤ). FindsLeaf pages size c.args.root z (Ok c.in_ok-end.end)) plain (c.in_ok-end.ensures.found told) rows used whole tree in
    let stays = c.in_ok-end.ensures.stays in
    let held = c.in_ok-end.ensures.held told ∙ ap (λ (m : PageMap). page_at m c.in_ok-end.end.way.page) (sym stays.same) in
    let at = rowid_since gs.below gs.tells gs.limits gs.map c.args.pages.now c.find_leaf.new.pages c.in_ok-end.end.way.page c.in_ok-end.end.place c.args.rowid _ (Ok c.in_ok-is_row_at.field-0) plain
    stays.kept stays.same (λ telling. c.in_ok-is_row_at.ensures.found telling held) told end.under.t whole end.under.lies end.under.at in
    subst (λ (payload : Option (List ℕ)). IsFound payload c.args.out.now.items c.args.out.now.items false) (sym (row_missing pages size c.args.rowid rows c.in_ok-end.end _ end at c.if-not-branch.true)) (refl, refl))

pub returns-in_err-read_next_row-clause-found : goal.returns-in_err-read_next_row-clause-found
returns-in_err-read_next_row-clause-found g c = λ told rows used whole tree.
    (let gs = g.P.Pages in
    let pages = gs.map c.args.pages.now in
    let size = (gs.limits (gs.below c.args.pages.now)).page in
    let plain = to_z-of_z w64 c.args.rowid c.ranges.rowid in
    let end = subst (λ (z : ℤ). FindsLeaf pages size c.args.root z (Ok c.in_ok-end.end)) plain (c.in_ok-end.ensures.found told) rows used whole tree in
    let stays = c.in_ok-end.ensures.stays in
    let held = c.in_ok-end.ensures.held told ∙ ap (λ (m : PageMap). page_at m c.in_ok-end.end.way.page) (sym stays.same) in
    let at = rowid_since gs.below gs.tells gs.limits gs.map c.args.pages.now c.find_leaf.new.pages c.in_ok-end.end.way.page c.in_ok-end.end.place c.args.rowid _ (Ok c.in_ok-is_row_at.field-0) plain
    stays.kept stays.same (λ telling. c.in_ok-is_row_at.ensures.found telling held) told end.under.t whole end.under.lies end.under.at in
    let there = row_found pages size c.args.rowid rows c.in_ok-end.end _ nothing end at c.if-not-branch.false in
    refused _ _ c.in_err-read_next_row.field-0.0 c.from_residual-in_err-read_next_row.ensures.1
    (since gs.below gs.tells gs.limits gs.map (λ (m : PageMap) (n : ℕ). ReadsRow m n c.in_ok-end.end.way.page c.in_ok-end.end.place c.args.out.now.items c.read_next_row.new.out.items (Err c.in_err-read_next_row.field-0.0)) c.args.pages.now
    c.find_leaf.new.pages stays.kept stays.same (λ telling. c.in_err-read_next_row.ensures.read telling held) told end.under.t nothing whole end.under.lies end.under.at there.0))

pub returns-clause-found : goal.returns-clause-found
returns-clause-found g c = λ told rows used whole tree.
    (let gs = g.P.Pages in
    let pages = gs.map c.args.pages.now in
    let size = (gs.limits (gs.below c.args.pages.now)).page in
    let plain = to_z-of_z w64 c.args.rowid c.ranges.rowid in
    let end = subst (λ (z : ℤ). FindsLeaf pages size c.args.root z (Ok c.in_ok-end.end)) plain (c.in_ok-end.ensures.found told) rows used whole tree in
    let stays = c.in_ok-end.ensures.stays in
    let held = c.in_ok-end.ensures.held told ∙ ap (λ (m : PageMap). page_at m c.in_ok-end.end.way.page) (sym stays.same) in
    let at = rowid_since gs.below gs.tells gs.limits gs.map c.args.pages.now c.find_leaf.new.pages c.in_ok-end.end.way.page c.in_ok-end.end.place c.args.rowid _ (Ok c.in_ok-is_row_at.field-0) plain
    stays.kept stays.same (λ telling. c.in_ok-is_row_at.ensures.found telling held) told end.under.t whole end.under.lies end.under.at in
    let there = row_found pages size c.args.rowid rows c.in_ok-end.end _ nothing end at c.if-not-branch.false in
    let read = since gs.below gs.tells gs.limits gs.map (λ (m : PageMap) (n : ℕ). ReadsRow m n c.in_ok-end.end.way.page c.in_ok-end.end.place c.args.out.now.items c.read_next_row.new.out.items (Ok c.in_ok-read_next_row.field-0)) c.args.pages.now
    c.find_leaf.new.pages stays.kept stays.same (λ telling. c.in_ok-read_next_row.ensures.read telling held) told end.under.t nothing whole end.under.lies end.under.at there.0 in
    subst (λ (payload : Option (List ℕ)). IsFound payload c.args.out.now.items c.read_next_row.new.out.items true) (sym there.1) (refl, read.1))

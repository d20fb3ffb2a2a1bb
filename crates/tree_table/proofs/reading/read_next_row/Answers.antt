use Rattle.std.proofs.Common.{rules, SFits, ◌∙◌, ◌≤◌, ◌-◌, ◌++◌, ℕ, pos, ap, length, w64, List, [], slice_index_or, arith}
use Rattle.std.proofs.lemmas.Int.{to_z-of_z}
use Rattle.tree_page.specs.Node.{Local}
use Rattle.tree_table.proofs.LeafRows.{says_rows, said_there, row_is_held, lies_whole}
use Rattle.tree_table.proofs.reading.read_next_row.Goals as goal

nothing : Local
nothing = record { size = 0; bytes = [] }

pub returns-in-Err-clause-read : goal.returns-in-Err-clause-read
returns-in-Err-clause-read g c = λ told held_is leaf d whole is at lt.
    (let pages = g.P.Pages.map c.args.pages.now in
    let size = (g.P.Pages.limits (g.P.Pages.below c.args.pages.now)).page in
    let says = says_rows pages size c.args.leaf c.loaded.result.now leaf is at (c.loaded.ensures ∙ held_is) in
    let there = said_there pages size is.said leaf.rows c.args.place (pos 0, nothing) d is.rows lt in
    absurd (c.in-Err.ensures.only is.said (pos 0, nothing) says there.0))

pub returns-clause-read : goal.returns-clause-read
returns-clause-read g c = λ told held_is leaf d whole is at lt.
    (let pages = g.P.Pages.map c.args.pages.now in
    let size = (g.P.Pages.limits (g.P.Pages.below c.args.pages.now)).page in
    let says = says_rows pages size c.args.leaf c.loaded.result.now leaf is at (c.loaded.ensures ∙ held_is) in
    let held = row_is_held pages size leaf c.args.place c.in-Ok.row d is lt (λ e there. c.in-Ok.ensures.only is.said e says there) in
    let fits : SFits w64 c.in-Ok.row.rowid = search rules in
    let le : length (slice_index_or leaf.rows c.args.place d).row.payload ≤ size - 35 =
    omega (arith, held.size, c.if-row-most.false, c.saturating_sub-most.ensures, c.page_size.ensures) in (
      to_z-of_z w64 c.in-Ok.row.rowid fits ∙ held.rowid,
      c.in_ok-extend_from_slice.ensures.items ∙ ap (λ (l : List ℕ). c.args.out.now.items ++ l) (lies_whole pages size (size - 35) _ _ _ held.payload le),
    ))

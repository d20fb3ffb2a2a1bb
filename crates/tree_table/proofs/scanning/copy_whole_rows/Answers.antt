use Rattle.std.proofs.Common.{◌≡◌, ◌∙◌, ◌-◌, ℕ, ap, subst}
use Rattle.tree_table.specs.Scanning.{HasShort, rows_between}
use Rattle.tree_table.proofs.KidCells.{memory_placed}
use Rattle.tree_table.proofs.LeafRows.{says_rows}
use Rattle.tree_table.proofs.ShortRows.{short_put}
use Rattle.tree_table.proofs.scanning.copy_whole_rows.Goals as goal

pub returns-in-Ok-clause-copied : goal.returns-in-Ok-clause-copied
returns-in-Ok-clause-copied g c = λ told held_is leaf place whole is at le lt are.
    (let pages = g.P.Pages.map c.args.pages.now in
    let size = (g.P.Pages.limits (g.P.Pages.below c.args.pages.now)).page in
    let says = says_rows pages size c.args.leaf c.loaded.result.now leaf is at (c.loaded.ensures ∙ held_is) in
    let most : c.saturating_sub-most.result ≡ size - 35 = c.saturating_sub-most.ensures ∙ ap (λ (n : ℕ). n - 35) c.page_size.ensures in
    let entries = rows_between place c.args.place leaf.rows in
    short_put pages size is.said leaf.rows place c.args.place c.in-Ok.to c.copy_short_rows.new.rows.items c.copy_short_rows.new.out.items is.rows le
    (subst (λ (n : ℕ). HasShort is.said n c.args.place c.in-Ok.to entries c.copy_short_rows.new.rows.items c.copy_short_rows.new.out.items) most (c.in-Ok.ensures.copied is.said entries says are)))

pub returns-in-Err-clause-copied : goal.returns-in-Err-clause-copied
returns-in-Err-clause-copied g c = λ told held_is leaf place whole is at le lt are.
    (let pages = g.P.Pages.map c.args.pages.now in
    let size = (g.P.Pages.limits (g.P.Pages.below c.args.pages.now)).page in
    let says = says_rows pages size c.args.leaf c.loaded.result.now leaf is at (c.loaded.ensures ∙ held_is) in
    memory_placed c.args.leaf c.in-Err.fault c.at_page.result (c.in-Err.ensures.copied is.said (rows_between place c.args.place leaf.rows) says are) c.at_page.ensures)

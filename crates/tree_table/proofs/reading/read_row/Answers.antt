use Rattle.std.proofs.Common.{rules, SFits, ◌≡◌, ◌∙◌, ◌≤◌, ◌-◌, ◌++◌, ℕ, pos, Ok, Err, ap, length, w64, List, [], slice_index_or, arith}
use Rattle.std.proofs.lemmas.Int.{to_z-of_z}
use Rattle.tree_page.specs.Node.{Local}
use Rattle.tree_table.proofs.LeafRows.{refused, says_rows, said_there, row_is_held, lies_whole, payload_read}
use Rattle.tree_table.proofs.reading.read_row.Goals as goal

nothing : Local
nothing = record { size = 0; bytes = [] }

pub returns-in-Err-clause-read : goal.returns-in-Err-clause-read
returns-in-Err-clause-read g c = λ told leaf d whole is at lt.
    (let pages = g.P.Pages.map c.args.pages.now in
    let size = (g.P.Pages.limits (g.P.Pages.below c.args.pages.now)).page in
    let says = says_rows pages size c.args.leaf c.loaded.result.now leaf is at (c.loaded.ensures ∙ c.in_ok-load.ensures.bytes told) in
    let there = said_there pages size is.said leaf.rows c.args.place (pos 0, nothing) d is.rows lt in
    absurd (c.in-Err.ensures.only is.said (pos 0, nothing) says there.0))

pub returns-then-size-most-clause-read : goal.returns-then-size-most-clause-read
returns-then-size-most-clause-read g c = λ told leaf d whole is at lt.
    (let pages = g.P.Pages.map c.args.pages.now in
    let size = (g.P.Pages.limits (g.P.Pages.below c.args.pages.now)).page in
    let says = says_rows pages size c.args.leaf c.loaded.result.now leaf is at (c.loaded.ensures ∙ c.in_ok-load.ensures.bytes told) in
    let held = row_is_held pages size leaf c.args.place c.in-Ok.row d is lt (λ e there. c.in-Ok.ensures.only is.said e says there) in
    let fits : SFits w64 c.in-Ok.row.rowid = search rules in
    let kept = ap (λ k. (g.P.Pages.limits k).page) c.in_ok-load.ensures.stays.kept in
    let le : length (slice_index_or leaf.rows c.args.place d).row.payload ≤ size - 35 =
    omega (arith, held.size, c.if-size-most.true, c.saturating_sub-most.ensures, c.page_size.ensures, kept) in (
      to_z-of_z w64 c.in-Ok.row.rowid fits ∙ held.rowid,
      c.in_ok-extend_from_slice.ensures.items ∙ ap (λ (l : List ℕ). c.args.out.now.items ++ l) (lies_whole pages size (size - 35) _ _ _ held.payload le),
    ))

pub returns-in_err-read_payload-clause-read : goal.returns-in_err-read_payload-clause-read
returns-in_err-read_payload-clause-read g c = λ told leaf d whole is at lt.
    (let gs = g.P.Pages in
    let pages = gs.map c.args.pages.now in
    let size = (gs.limits (gs.below c.args.pages.now)).page in
    let stays = c.in_ok-load.ensures.stays in
    let says = says_rows pages size c.args.leaf c.loaded.result.now leaf is at (c.loaded.ensures ∙ c.in_ok-load.ensures.bytes told) in
    let held = row_is_held pages size leaf c.args.place c.in-Ok.row d is lt (λ e there. c.in-Ok.ensures.only is.said e says there) in
    let all : c.as_slice.result.now ≡ c.in-Ok.row.payload.bytes.now = search rules in
    refused _ _ c.in_err-read_payload.field-0.0 c.from_residual-in_err-read_payload.ensures.1
    (payload_read gs.below gs.tells gs.limits gs.map c.args.pages.now c.load.new.self c.saturating_sub-most.result c.in-Ok.row c.args.out.now.items c.read_payload.new.out.items c.as_slice.result.now (Err c.in_err-read_payload.field-0.0)
    (slice_index_or leaf.rows c.args.place d) stays.kept stays.same (c.saturating_sub-most.ensures ∙ ap (λ (n : ℕ). n - 35) c.page_size.ensures) all whole held c.in_err-read_payload.ensures.read told))

pub returns-clause-read : goal.returns-clause-read
returns-clause-read g c = λ told leaf d whole is at lt.
    (let gs = g.P.Pages in
    let pages = gs.map c.args.pages.now in
    let size = (gs.limits (gs.below c.args.pages.now)).page in
    let stays = c.in_ok-load.ensures.stays in
    let says = says_rows pages size c.args.leaf c.loaded.result.now leaf is at (c.loaded.ensures ∙ c.in_ok-load.ensures.bytes told) in
    let held = row_is_held pages size leaf c.args.place c.in-Ok.row d is lt (λ e there. c.in-Ok.ensures.only is.said e says there) in
    let fits : SFits w64 c.in-Ok.row.rowid = search rules in
    let all : c.as_slice.result.now ≡ c.in-Ok.row.payload.bytes.now = search rules in (
      to_z-of_z w64 c.in-Ok.row.rowid fits ∙ held.rowid,
      payload_read gs.below gs.tells gs.limits gs.map c.args.pages.now c.load.new.self c.saturating_sub-most.result c.in-Ok.row c.args.out.now.items c.read_payload.new.out.items c.as_slice.result.now (Ok tt)
          (slice_index_or leaf.rows c.args.place d) stays.kept stays.same (c.saturating_sub-most.ensures ∙ ap (λ (n : ℕ). n - 35) c.page_size.ensures) all whole held c.in_ok-read_payload.ensures.read told,
    ))

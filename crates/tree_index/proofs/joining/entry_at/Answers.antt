use Rattle.std.proofs.Common.{◌∙◌, [], slice_index_or}
use Rattle.tree_page.specs.Node.{Local}
use Rattle.tree_page.specs.Reading.{local_of}
use Rattle.tree_index.proofs.Comparisons.{local_within, held_at}
use Rattle.tree_index.proofs.Dividing.{held_len, divider_or}
use Rattle.tree_index.proofs.Emptied.{large_size}
use Rattle.tree_index.proofs.Readings.{says_it}
use Rattle.tree_index.proofs.joining.entry_at.Goals as goal

nothing : Local
nothing = record { size = 0; bytes = [] }

pub returns-in-Ok-clause-given : goal.returns-in-Ok-clause-given
returns-in-Ok-clause-given g c = λ told node entries d whole sized has lt.
    (let pages = g.P.Pages.map c.args.pages.now in
    let size = (g.P.Pages.limits (g.P.Pages.below c.args.pages.now)).page in
    let is = says_it pages c.args.number c.loaded.result.now node has.says (c.loaded.ensures ∙ c.in_ok-load.ensures.bytes told) in
    let local = local_of c.in-Ok.local in
    let held = held_at pages size c.args.number c.args.place node entries d has lt local (c.in-Ok.ensures.only node local is has.ours (local_within pages size c.args.number c.args.place node entries d has lt)) in
    divider_or pages size local (slice_index_or entries c.args.place d) c.entry_cell.result held
    (c.entry_cell.ensures.is size (held_len pages size local (slice_index_or entries c.args.place d) (large_size size sized).0 held)) c.entry_cell.ensures.refused)

pub returns-in-Err-clause-given : goal.returns-in-Err-clause-given
returns-in-Err-clause-given g c = λ told node entries d whole sized has lt.
    (let pages = g.P.Pages.map c.args.pages.now in
    let size = (g.P.Pages.limits (g.P.Pages.below c.args.pages.now)).page in
    let is = says_it pages c.args.number c.loaded.result.now node has.says (c.loaded.ensures ∙ c.in_ok-load.ensures.bytes told) in
    absurd (c.in-Err.ensures.only node nothing is has.ours (local_within pages size c.args.number c.args.place node entries d has lt)))

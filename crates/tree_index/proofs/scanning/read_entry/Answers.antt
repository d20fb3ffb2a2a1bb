use Rattle.std.proofs.Common.{rules, ◌≡◌, ◌∙◌, ◌≤◌, ◌++◌, ℕ, List, [], length, ap, slice_index_or, arith}
use Rattle.tree_page.specs.Node.{Local}
use Rattle.tree_page.specs.Payload.{index_most}
use Rattle.tree_page.specs.Reading.{local_of}
use Rattle.tree_index.proofs.Comparisons.{local_within, held_at, payload_read}
use Rattle.tree_index.proofs.Readings.{says_it, lies_whole}
use Rattle.tree_index.proofs.scanning.read_entry.Goals as goal

nothing : Local
nothing = record { size = 0; bytes = [] }

pub returns-in-Err-clause-read : goal.returns-in-Err-clause-read
returns-in-Err-clause-read g c = λ told node entries d whole has lt.
    (let pages = g.P.Pages.map c.args.pages.now in
    let size = (g.P.Pages.limits (g.P.Pages.below c.args.pages.now)).page in
    let is = says_it pages c.args.number c.loaded.result.now node has.says (c.loaded.ensures ∙ c.in_ok-load.ensures.bytes told) in
    absurd (c.in-Err.ensures.only node nothing is has.ours (local_within pages size c.args.number c.args.place node entries d has lt)))

pub returns-then-size-most-clause-read : goal.returns-then-size-most-clause-read
returns-then-size-most-clause-read g c = λ told node entries d whole has lt.
    (let pages = g.P.Pages.map c.args.pages.now in
    let size = (g.P.Pages.limits (g.P.Pages.below c.args.pages.now)).page in
    let is = says_it pages c.args.number c.loaded.result.now node has.says (c.loaded.ensures ∙ c.in_ok-load.ensures.bytes told) in
    let local = local_of c.in-Ok.local in
    let held = held_at pages size c.args.number c.args.place node entries d has lt local (c.in-Ok.ensures.only node local is has.ours (local_within pages size c.args.number c.args.place node entries d has lt)) in
    let it = slice_index_or entries c.args.place d in
    let most : c.most_in-most.result ≡ index_most size = c.most_in-most.ensures ∙ ap index_most (c.page_size.ensures ∙ ap (λ k. (g.P.Pages.limits k).page) c.in_ok-load.ensures.stays.kept) in
    let le : length it.payload ≤ index_most size = omega (arith, held.size, c.if-size-most.true, most) in
    c.in_ok-extend_from_slice.ensures.items ∙ ap (λ (l : List ℕ). c.args.out.now.items ++ l) (lies_whole pages size (index_most size) _ it.payload it.pages held.payload le))

pub returns-clause-read : goal.returns-clause-read
returns-clause-read g c = λ told node entries d whole has lt.
    (let gs = g.P.Pages in
    let pages = gs.map c.args.pages.now in
    let size = (gs.limits (gs.below c.args.pages.now)).page in
    let stays = c.in_ok-load.ensures.stays in
    let is = says_it pages c.args.number c.loaded.result.now node has.says (c.loaded.ensures ∙ c.in_ok-load.ensures.bytes told) in
    let local = local_of c.in-Ok.local in
    let held = held_at pages size c.args.number c.args.place node entries d has lt local (c.in-Ok.ensures.only node local is has.ours (local_within pages size c.args.number c.args.place node entries d has lt)) in
    let all : c.as_slice.result.now ≡ c.in-Ok.local.bytes.now = search rules in
    payload_read gs.below gs.tells gs.limits gs.map c.args.pages.now c.load.new.self c.most_in-most.result local c.args.out.now.items c.read_payload.new.out.items c.as_slice.result.now c.read_payload.result
    (slice_index_or entries c.args.place d) stays.kept stays.same (c.most_in-most.ensures ∙ ap index_most c.page_size.ensures) all whole held c.read_payload.ensures.read told)

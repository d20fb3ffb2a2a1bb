use Rattle.std.proofs.Common.{rules, ◌≡◌, ◌∙◌, ◌≤◌, ◌++◌, ℕ, List, [], length, sym, ap, subst, slice_index_or, Ok, Err, arith}
use Rattle.record.specs.Record.{IsRecord}
use Rattle.tree_page.specs.Payload.{index_most}
use Rattle.tree_page.specs.Reading.{local_of}
use Rattle.tree_index.proofs.Comparisons.{local_within, held_at, nothing, payload_read}
use Rattle.tree_index.proofs.Readings.{refused, says_it, lies_whole}
use Rattle.tree_index.proofs.comparing.order.Goals as goal

pub returns-in-Err-clause-found : goal.returns-in-Err-clause-found
returns-in-Err-clause-found g c = λ told node entries d whole has lt.
    (let pages = g.P.Pages.map c.args.pages.now in
    let size = (g.P.Pages.limits (g.P.Pages.below c.args.pages.now)).page in
    let is = says_it pages c.args.number c.loaded.result.now node has.says (c.loaded.ensures ∙ c.in_ok-load.ensures.bytes told) in
    absurd (c.in-Err.ensures.only node nothing is has.ours (local_within pages size c.args.number c.args.place node entries d has lt)))

pub returns-then-size-most-clause-found : goal.returns-then-size-most-clause-found
returns-then-size-most-clause-found g c = λ told node entries d whole has lt.
    (let pages = g.P.Pages.map c.args.pages.now in
    let size = (g.P.Pages.limits (g.P.Pages.below c.args.pages.now)).page in
    let is = says_it pages c.args.number c.loaded.result.now node has.says (c.loaded.ensures ∙ c.in_ok-load.ensures.bytes told) in
    let local = local_of c.in-Ok.local in
    let held = held_at pages size c.args.number c.args.place node entries d has lt local (c.in-Ok.ensures.only node local is has.ours (local_within pages size c.args.number c.args.place node entries d has lt)) in
    let it = slice_index_or entries c.args.place d in
    let most : c.most_in-most.result ≡ index_most size = c.most_in-most.ensures ∙ ap index_most (c.page_size.ensures ∙ ap (λ k. (g.P.Pages.limits k).page) c.in_ok-load.ensures.stays.kept) in
    let le : length it.payload ≤ index_most size = omega (arith, held.size, c.if-size-most.true, most) in
    c.compare_payload.ensures it.entry (subst (λ (bytes : List ℕ). IsRecord bytes it.entry) (sym (lies_whole pages size (index_most size) _ it.payload it.pages held.payload le)) held.record_is))

pub returns-in_err-read_payload-clause-found : goal.returns-in_err-read_payload-clause-found
returns-in_err-read_payload-clause-found g c = λ told node entries d whole has lt.
    (let gs = g.P.Pages in
    let pages = gs.map c.args.pages.now in
    let size = (gs.limits (gs.below c.args.pages.now)).page in
    let stays = c.in_ok-load.ensures.stays in
    let is = says_it pages c.args.number c.loaded.result.now node has.says (c.loaded.ensures ∙ c.in_ok-load.ensures.bytes told) in
    let local = local_of c.in-Ok.local in
    let held = held_at pages size c.args.number c.args.place node entries d has lt local (c.in-Ok.ensures.only node local is has.ours (local_within pages size c.args.number c.args.place node entries d has lt)) in
    let all : c.as_slice.result.now ≡ c.in-Ok.local.bytes.now = search rules in
    refused _ _ c.in_err-read_payload.field-0.0 c.from_residual-in_err-read_payload.ensures.1
    (payload_read gs.below gs.tells gs.limits gs.map c.args.pages.now c.load.new.self c.most_in-most.result local c.clear.new.self.items c.read_payload.new.out.items c.as_slice.result.now (Err c.in_err-read_payload.field-0.0)
    (slice_index_or entries c.args.place d) stays.kept stays.same (c.most_in-most.ensures ∙ ap index_most c.page_size.ensures) all whole held c.in_err-read_payload.ensures.read told))

pub returns-clause-found : goal.returns-clause-found
returns-clause-found g c = λ told node entries d whole has lt.
    (let gs = g.P.Pages in
    let pages = gs.map c.args.pages.now in
    let size = (gs.limits (gs.below c.args.pages.now)).page in
    let stays = c.in_ok-load.ensures.stays in
    let is = says_it pages c.args.number c.loaded.result.now node has.says (c.loaded.ensures ∙ c.in_ok-load.ensures.bytes told) in
    let local = local_of c.in-Ok.local in
    let held = held_at pages size c.args.number c.args.place node entries d has lt local (c.in-Ok.ensures.only node local is has.ours (local_within pages size c.args.number c.args.place node entries d has lt)) in
    let it = slice_index_or entries c.args.place d in
    let all : c.as_slice.result.now ≡ c.in-Ok.local.bytes.now = search rules in
    let read = payload_read gs.below gs.tells gs.limits gs.map c.args.pages.now c.load.new.self c.most_in-most.result local c.clear.new.self.items c.read_payload.new.out.items c.as_slice.result.now (Ok tt)
    it stays.kept stays.same (c.most_in-most.ensures ∙ ap index_most c.page_size.ensures) all whole held c.in_ok-read_payload.ensures.read told in
    let bytes : c.as_slice-2.result.now ≡ c.read_payload.new.out.items = search rules in
    let from : c.clear.new.self.items ≡ [] = search rules in
    c.compare_payload-2.ensures it.entry (subst (λ (them : List ℕ). IsRecord them it.entry) (sym (bytes ∙ read ∙ ap (λ (l : List ℕ). l ++ it.payload) from)) held.record_is))

use Rattle.std.proofs.Common.{◌≤◌, ℕ, List, length, sym, subst, slice_index_or, arith}
use Rattle.record.specs.Record.{IsRecord}
use Rattle.tree_page.specs.Payload.{index_most}
use Rattle.tree_page.specs.Reading.{local_of}
use Rattle.tree_index.proofs.Comparisons.{local_within, held_at, nothing}
use Rattle.tree_index.proofs.Givings.{no_pages}
use Rattle.tree_index.proofs.Readings.{on_bytes, lies_whole}
use Rattle.tree_index.proofs.comparing.order_on.Goals as goal

pub returns-in-Err-clause-found : goal.returns-in-Err-clause-found
returns-in-Err-clause-found c = λ pages size number read most node entries d whole has lt.
    (let is = on_bytes pages number c.args.page.now node has.says read in
    absurd (c.in-Err.ensures.only node nothing is has.ours (local_within pages size number c.args.place node entries d has lt)))

pub returns-clause-found : goal.returns-clause-found
returns-clause-found c = λ pages size number read most node entries d whole has lt.
    (let is = on_bytes pages number c.args.page.now node has.says read in
    let local = local_of c.in-Ok.local in
    let held = held_at pages size number c.args.place node entries d has lt local (c.in-Ok.ensures.only node local is has.ours (local_within pages size number c.args.place node entries d has lt)) in
    let it = slice_index_or entries c.args.place d in
    let le : length it.payload ≤ index_most size = omega (arith, held.size, c.if-local-most.false, most) in
    c.compare_payload.ensures it.entry (subst (λ (bytes : List ℕ). IsRecord bytes it.entry) (sym (lies_whole pages size (index_most size) _ it.payload it.pages held.payload le)) held.record_is))

pub returns-in-Err-clause-whole : goal.returns-in-Err-clause-whole
returns-in-Err-clause-whole c = λ pages size number read most node entries d has lt.
    (let is = on_bytes pages number c.args.page.now node has.says read in
    absurd (c.in-Err.ensures.only node nothing is has.ours (local_within pages size number c.args.place node entries d has lt)))

pub returns-clause-whole : goal.returns-clause-whole
returns-clause-whole c = λ pages size number read most node entries d has lt.
    (let is = on_bytes pages number c.args.page.now node has.says read in
    let local = local_of c.in-Ok.local in
    let held = held_at pages size number c.args.place node entries d has lt local (c.in-Ok.ensures.only node local is has.ours (local_within pages size number c.args.place node entries d has lt)) in
    let it = slice_index_or entries c.args.place d in
    let le : length it.payload ≤ index_most size = omega (arith, held.size, c.if-local-most.false, most) in
    no_pages pages size (index_most size) _ it.payload it.pages held.payload le)

use Rattle.std.proofs.Common.{rules, ◌≡◌, ◌∙◌, ℕ, List, length, ap, sym, subst}
use Rattle.std.specs.Prelude.{IfOk}
use Rattle.record.specs.Record.{IsRecord}
use Rattle.tree_page.specs.Node.{IsEntryCell}
use Rattle.tree_page.specs.Payload.{index_most}
use Rattle.tree_overflow.specs.Calls.{IsWritten}
use Rattle.tree_index.proofs.Emptied.{large_size}
use Rattle.tree_index.proofs.Fillings.{one_cell_or}
use Rattle.tree_index.proofs.Leaves.{payload_held}
use Rattle.tree_index.proofs.filling.cell_for.Goals as goal

pub returns-clause-made : goal.returns-clause-made
returns-clause-made g c = λ told free free_are sized.
    (let pages = g.P.Pages in
    let old = pages.map c.args.pages.now in
    let size = (pages.limits (pages.below c.args.pages.now)).page in
    let mid = pages.map c.write_payload.new.pages in
    let entry = c.args.entry.now in
    let payload = c.as_slice-payload.result.now in
    let held = c.in_ok-held.held.items in
    let most : c.most_in-most.result ≡ index_most size = c.most_in-most.ensures ∙ ap index_most c.page_size.ensures in
    let w = subst (λ (n : ℕ). IsWritten old mid size n free payload held) most (c.in_ok-held.ensures.written told free free_are) in
    let bytes : payload ≡ c.in_ok-encoded.encoded.items = c.as_slice-payload.ensures.value in
    let record_is = subst (λ (them : List ℕ). IsRecord them entry) (sym bytes) c.in_ok-encoded.ensures.is in
    let long = payload_held mid size held payload w.chain (large_size size sized).0 w.is in
    let value = c.as_slice.ensures.value in
    let cell = subst (λ (bytes : List ℕ). IfOk c.entry_cell.result (λ cell. IsEntryCell size cell.items (record { size = length payload; bytes = bytes }))) value
    (c.entry_cell.ensures.is size (ap length value ∙ long)) in
    one_cell_or old mid size entry payload held free c.entry_cell.result record_is w cell c.entry_cell.ensures.refused)

pub returns-clause-causes : goal.returns-clause-causes
returns-clause-causes g c =
    let was = c.in_ok-held.ensures.causes in
    record { db = was.db; log = was.log; why = search rules }

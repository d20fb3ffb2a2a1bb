use Rattle.std.proofs.Common.{◌≡◌, ◌-◌, ◌∙◌, ℕ, ℤ, Bool, w64, to_z, of_z, IsTrue, Ok, Err, length, List, [], ◌∷◌, sym, ap, subst}
use Rattle.std.specs.Prelude.{Result}
use Rattle.std.proofs.lemmas.Int.{to_z-of_z}
use Rattle.sqlval.specs.declared.fault.Fault.{Fault}
use Rattle.tree_leaf.specs.Leaf.{Entry}
use Rattle.pages.specs.Counting.{start_of}
use Rattle.pages.specs.Map.{PageMap, page_at, IsThere}
use Rattle.tree_page.specs.Node.{IsRowCell}
use Rattle.tree_page.specs.Payload.{table_most}
use Rattle.tree_page.specs.Reading.{below}
use Rattle.tree_overflow.specs.Calls.{IsWritten}
use Rattle.tree_pack.specs.Splicing.{Splices}
use Rattle.tree_store.specs.Storing.{PlacesOn}
use Rattle.tree_table.specs.Growing.{IsPutOrPlanned, below_of}
use Rattle.tree_table.specs.Rows.{with_row}
use Rattle.tree_table.specs.Tree.{rows_of}
use Rattle.tree_table.proofs.Exits.{full_err, outside_full, planned_since}
use Rattle.tree_table.proofs.Few.{large_size}
use Rattle.tree_table.proofs.Leaves.{payload_held}
use Rattle.tree_table.proofs.Orders.{ids_of}
use Rattle.tree_table.proofs.Putting.{there_mid, whole_mid, leaf_placed, leaf_unplaced, leaf_refused, leaf_planned}
use Rattle.tree_table.proofs.growing.leaf_with.Goals as goal

pub returns-in_err-place_on-clause-planned : goal.returns-in_err-place_on-clause-planned
returns-in_err-place_on-clause-planned g c = λ told ways low t high free under absent at.
    (let pages = g.P.Pages in
    let old = pages.map c.args.pages.now in
    let size = (pages.limits (pages.below c.args.pages.now)).page in
    let number = c.args.number in
    let mid = pages.map c.write_payload.new.pages in
    let new = pages.map c.place_on.new.pages in
    let row : Entry = record { rowid = c.args.rowid; payload = c.args.payload.now } in
    let held = c.in_ok-held.held.items in
    let bytes = c.in_ok-cell.cell.items in
    let most : c.saturating_sub-most.result ≡ table_most size = c.saturating_sub-most.ensures ∙ ap (λ (n : ℕ). n - 35) c.page_size.ensures in
    let w = subst (λ (n : ℕ). IsWritten old mid size n free c.args.payload.now held) most (c.in_ok-held.ensures.written told free under.free_are) in
    let told_mid = subst (λ k. IsTrue (pages.tells k)) (sym c.in_ok-held.ensures.kept) told in
    let long = payload_held mid size held c.args.payload.now w.chain (large_size size under.sized).0 w.is in
    let cell : IsRowCell size bytes (c.args.rowid, record { size = length c.args.payload.now; bytes = held }) = (
    let plain = to_z-of_z w64 c.args.rowid c.ranges.rowid in
    let value = c.as_slice.ensures.value in
    subst (λ (z : ℤ). IsRowCell size bytes (z, record { size = length c.args.payload.now; bytes = held })) plain
    (subst (λ (bytes_in : List ℕ). IsRowCell size bytes (to_z w64 (of_z w64 c.args.rowid), record { size = length c.args.payload.now; bytes = bytes_in })) value
    (c.in_ok-cell.ensures.is size (ap length value ∙ long)))) in
    let answered : Result Bool Fault = Err c.in_err-place_on.field-0.0 in
    let places : PlacesOn mid new size number (below row.rowid (ids_of t.rows)) bytes answered = (
    subst (λ (n : ℕ). PlacesOn mid new size number n bytes answered) at
    (subst (λ (l : List ℕ). PlacesOn mid new size number c.args.place l answered) c.as_slice-2.ensures.value
    (subst (λ k. PlacesOn mid new (pages.limits k).page number c.args.place c.as_slice-2.result.now answered) c.in_ok-held.ensures.kept (c.in_err-place_on.ensures.placed told_mid)))) in
    outside_full (IsPutOrPlanned old new size number row low t high free) c.from_residual-in_err-place_on.result c.in_err-place_on.field-0.0 c.from_residual-in_err-place_on.ensures.1
    (leaf_refused old mid size number ways row low t high free under absent held w bytes cell new c.in_err-place_on.field-0.0 places))

pub returns-then-branch-clause-planned : goal.returns-then-branch-clause-planned
returns-then-branch-clause-planned g c = λ told ways low t high free under absent at.
    (let pages = g.P.Pages in
    let old = pages.map c.args.pages.now in
    let size = (pages.limits (pages.below c.args.pages.now)).page in
    let number = c.args.number in
    let mid = pages.map c.write_payload.new.pages in
    let new = pages.map c.place_on.new.pages in
    let row : Entry = record { rowid = c.args.rowid; payload = c.args.payload.now } in
    let held = c.in_ok-held.held.items in
    let bytes = c.in_ok-cell.cell.items in
    let most : c.saturating_sub-most.result ≡ table_most size = c.saturating_sub-most.ensures ∙ ap (λ (n : ℕ). n - 35) c.page_size.ensures in
    let w = subst (λ (n : ℕ). IsWritten old mid size n free c.args.payload.now held) most (c.in_ok-held.ensures.written told free under.free_are) in
    let told_mid = subst (λ k. IsTrue (pages.tells k)) (sym c.in_ok-held.ensures.kept) told in
    let long = payload_held mid size held c.args.payload.now w.chain (large_size size under.sized).0 w.is in
    let cell : IsRowCell size bytes (c.args.rowid, record { size = length c.args.payload.now; bytes = held }) = (
    let plain = to_z-of_z w64 c.args.rowid c.ranges.rowid in
    let value = c.as_slice.ensures.value in
    subst (λ (z : ℤ). IsRowCell size bytes (z, record { size = length c.args.payload.now; bytes = held })) plain
    (subst (λ (bytes_in : List ℕ). IsRowCell size bytes (to_z w64 (of_z w64 c.args.rowid), record { size = length c.args.payload.now; bytes = bytes_in })) value
    (c.in_ok-cell.ensures.is size (ap length value ∙ long)))) in
    let answered : Result Bool Fault = Ok c.in_ok-place_on.field-0 in
    let places : PlacesOn mid new size number (below row.rowid (ids_of t.rows)) bytes answered = (
    subst (λ (n : ℕ). PlacesOn mid new size number n bytes answered) at
    (subst (λ (l : List ℕ). PlacesOn mid new size number c.args.place l answered) c.as_slice-2.ensures.value
    (subst (λ k. PlacesOn mid new (pages.limits k).page number c.args.place c.as_slice-2.result.now answered) c.in_ok-held.ensures.kept (c.in_ok-place_on.ensures.placed told_mid)))) in
    leaf_placed old mid size number ways row low t high free under absent held w bytes cell new (subst (λ (b : Bool). PlacesOn mid new size number (below row.rowid (ids_of t.rows)) bytes (Ok b)) c.if-branch.true places))

pub returns-in_err-load-clause-planned : goal.returns-in_err-load-clause-planned
returns-in_err-load-clause-planned g c = λ told ways low t high free under absent at.
    (let pages = g.P.Pages in
    let old = pages.map c.args.pages.now in
    let size = (pages.limits (pages.below c.args.pages.now)).page in
    let number = c.args.number in
    let mid = pages.map c.write_payload.new.pages in
    let new = pages.map c.place_on.new.pages in
    let row : Entry = record { rowid = c.args.rowid; payload = c.args.payload.now } in
    let held = c.in_ok-held.held.items in
    let bytes = c.in_ok-cell.cell.items in
    let most : c.saturating_sub-most.result ≡ table_most size = c.saturating_sub-most.ensures ∙ ap (λ (n : ℕ). n - 35) c.page_size.ensures in
    let w = subst (λ (n : ℕ). IsWritten old mid size n free c.args.payload.now held) most (c.in_ok-held.ensures.written told free under.free_are) in
    let told_mid = subst (λ k. IsTrue (pages.tells k)) (sym c.in_ok-held.ensures.kept) told in
    let long = payload_held mid size held c.args.payload.now w.chain (large_size size under.sized).0 w.is in
    let cell : IsRowCell size bytes (c.args.rowid, record { size = length c.args.payload.now; bytes = held }) = (
    let plain = to_z-of_z w64 c.args.rowid c.ranges.rowid in
    let value = c.as_slice.ensures.value in
    subst (λ (z : ℤ). IsRowCell size bytes (z, record { size = length c.args.payload.now; bytes = held })) plain
    (subst (λ (bytes_in : List ℕ). IsRowCell size bytes (to_z w64 (of_z w64 c.args.rowid), record { size = length c.args.payload.now; bytes = bytes_in })) value
    (c.in_ok-cell.ensures.is size (ap length value ∙ long)))) in
    let answered : Result Bool Fault = Ok c.in_ok-place_on.field-0 in
    let places : PlacesOn mid new size number (below row.rowid (ids_of t.rows)) bytes answered = (
    subst (λ (n : ℕ). PlacesOn mid new size number n bytes answered) at
    (subst (λ (l : List ℕ). PlacesOn mid new size number c.args.place l answered) c.as_slice-2.ensures.value
    (subst (λ k. PlacesOn mid new (pages.limits k).page number c.args.place c.as_slice-2.result.now answered) c.in_ok-held.ensures.kept (c.in_ok-place_on.ensures.placed told_mid)))) in
    let same = leaf_unplaced old mid size number ways row low t high free under absent held w bytes cell new (subst (λ (b : Bool). PlacesOn mid new size number (below row.rowid (ids_of t.rows)) bytes (Ok b)) c.if-branch.false places) in
    let kept = c.in_ok-place_on.ensures.kept ∙ c.in_ok-held.ensures.kept in
    let told_new = subst (λ k. IsTrue (pages.tells k)) (sym kept) told in
    let there : IsThere mid size number = record {
      has = there_mid old mid size number ways row low t high free under absent held w;
      whole = whole_mid old mid size number ways row low t high free under absent held w number (there_mid old mid size number ways row low t high free under absent held w);
    } in
    outside_full (IsPutOrPlanned old (pages.map c.load.new.self) size number row low t high free) c.from_residual-in_err-load.result c.in_err-load.field-0.0 c.from_residual-in_err-load.ensures.1
    (c.in_err-load.ensures.refusal told_new (subst (λ k. IsThere new (pages.limits k).page number) (sym kept) (subst (λ (m : PageMap). IsThere m size number) (sym same) there))))

pub returns-in_err-packed-clause-planned : goal.returns-in_err-packed-clause-planned
returns-in_err-packed-clause-planned g c = λ told ways low t high free under absent at.
    (let pages = g.P.Pages in
    let old = pages.map c.args.pages.now in
    let size = (pages.limits (pages.below c.args.pages.now)).page in
    let number = c.args.number in
    let mid = pages.map c.write_payload.new.pages in
    let new = pages.map c.place_on.new.pages in
    let row : Entry = record { rowid = c.args.rowid; payload = c.args.payload.now } in
    let held = c.in_ok-held.held.items in
    let bytes = c.in_ok-cell.cell.items in
    let most : c.saturating_sub-most.result ≡ table_most size = c.saturating_sub-most.ensures ∙ ap (λ (n : ℕ). n - 35) c.page_size.ensures in
    let w = subst (λ (n : ℕ). IsWritten old mid size n free c.args.payload.now held) most (c.in_ok-held.ensures.written told free under.free_are) in
    let told_mid = subst (λ k. IsTrue (pages.tells k)) (sym c.in_ok-held.ensures.kept) told in
    let long = payload_held mid size held c.args.payload.now w.chain (large_size size under.sized).0 w.is in
    let cell : IsRowCell size bytes (c.args.rowid, record { size = length c.args.payload.now; bytes = held }) = (
    let plain = to_z-of_z w64 c.args.rowid c.ranges.rowid in
    let value = c.as_slice.ensures.value in
    subst (λ (z : ℤ). IsRowCell size bytes (z, record { size = length c.args.payload.now; bytes = held })) plain
    (subst (λ (bytes_in : List ℕ). IsRowCell size bytes (to_z w64 (of_z w64 c.args.rowid), record { size = length c.args.payload.now; bytes = bytes_in })) value
    (c.in_ok-cell.ensures.is size (ap length value ∙ long)))) in
    let answered : Result Bool Fault = Ok c.in_ok-place_on.field-0 in
    let places : PlacesOn mid new size number (below row.rowid (ids_of t.rows)) bytes answered = (
    subst (λ (n : ℕ). PlacesOn mid new size number n bytes answered) at
    (subst (λ (l : List ℕ). PlacesOn mid new size number c.args.place l answered) c.as_slice-2.ensures.value
    (subst (λ k. PlacesOn mid new (pages.limits k).page number c.args.place c.as_slice-2.result.now answered) c.in_ok-held.ensures.kept (c.in_ok-place_on.ensures.placed told_mid)))) in
    let same = leaf_unplaced old mid size number ways row low t high free under absent held w bytes cell new (subst (λ (b : Bool). PlacesOn mid new size number (below row.rowid (ids_of t.rows)) bytes (Ok b)) c.if-branch.false places) in
    let kept = c.in_ok-place_on.ensures.kept ∙ c.in_ok-held.ensures.kept in
    let told_new = subst (λ k. IsTrue (pages.tells k)) (sym kept) told in
    let page : c.loaded.result.now ≡ page_at mid number = c.loaded.ensures ∙ c.in_ok-load.ensures.bytes told_new ∙ ap (λ (m : PageMap). page_at m number) same in
    let splices : Splices (page_at mid number) (start_of number) (below row.rowid (ids_of t.rows)) 0 (bytes ∷ []) [] (Err c.in_err-packed.field-0.0) = (
    subst (λ (n : ℕ). Splices (page_at mid number) (start_of number) n 0 (bytes ∷ []) [] (Err c.in_err-packed.field-0.0)) at
    (subst (λ (n : ℕ). Splices (page_at mid number) n c.args.place 0 (bytes ∷ []) [] (Err c.in_err-packed.field-0.0)) c.start_of-start.ensures
    (subst (λ (l : List ℕ). Splices l c.start_of-start.result c.args.place 0 (bytes ∷ []) [] (Err c.in_err-packed.field-0.0)) page
    (subst (λ (l : List ℕ). Splices c.loaded.result.now c.start_of-start.result c.args.place 0 (l ∷ []) [] (Err c.in_err-packed.field-0.0)) c.as_slice-3.ensures.value c.in_err-packed.ensures.spliced)))) in
    let planned = leaf_planned old mid size number ways row low t high free under absent held w bytes cell (Err c.in_err-packed.field-0.0) splices in
    full_err (IsPutOrPlanned old (pages.map c.load.new.self) size number row low t high free) c.from_residual-in_err-packed.result c.in_err-packed.field-0.0 c.from_residual-in_err-packed.ensures.1 planned)

pub returns-clause-planned : goal.returns-clause-planned
returns-clause-planned g c = λ told ways low t high free under absent at.
    (let pages = g.P.Pages in
    let old = pages.map c.args.pages.now in
    let size = (pages.limits (pages.below c.args.pages.now)).page in
    let number = c.args.number in
    let mid = pages.map c.write_payload.new.pages in
    let new = pages.map c.place_on.new.pages in
    let row : Entry = record { rowid = c.args.rowid; payload = c.args.payload.now } in
    let held = c.in_ok-held.held.items in
    let bytes = c.in_ok-cell.cell.items in
    let most : c.saturating_sub-most.result ≡ table_most size = c.saturating_sub-most.ensures ∙ ap (λ (n : ℕ). n - 35) c.page_size.ensures in
    let w = subst (λ (n : ℕ). IsWritten old mid size n free c.args.payload.now held) most (c.in_ok-held.ensures.written told free under.free_are) in
    let told_mid = subst (λ k. IsTrue (pages.tells k)) (sym c.in_ok-held.ensures.kept) told in
    let long = payload_held mid size held c.args.payload.now w.chain (large_size size under.sized).0 w.is in
    let cell : IsRowCell size bytes (c.args.rowid, record { size = length c.args.payload.now; bytes = held }) = (
    let plain = to_z-of_z w64 c.args.rowid c.ranges.rowid in
    let value = c.as_slice.ensures.value in
    subst (λ (z : ℤ). IsRowCell size bytes (z, record { size = length c.args.payload.now; bytes = held })) plain
    (subst (λ (bytes_in : List ℕ). IsRowCell size bytes (to_z w64 (of_z w64 c.args.rowid), record { size = length c.args.payload.now; bytes = bytes_in })) value
    (c.in_ok-cell.ensures.is size (ap length value ∙ long)))) in
    let answered : Result Bool Fault = Ok c.in_ok-place_on.field-0 in
    let places : PlacesOn mid new size number (below row.rowid (ids_of t.rows)) bytes answered = (
    subst (λ (n : ℕ). PlacesOn mid new size number n bytes answered) at
    (subst (λ (l : List ℕ). PlacesOn mid new size number c.args.place l answered) c.as_slice-2.ensures.value
    (subst (λ k. PlacesOn mid new (pages.limits k).page number c.args.place c.as_slice-2.result.now answered) c.in_ok-held.ensures.kept (c.in_ok-place_on.ensures.placed told_mid)))) in
    let same = leaf_unplaced old mid size number ways row low t high free under absent held w bytes cell new (subst (λ (b : Bool). PlacesOn mid new size number (below row.rowid (ids_of t.rows)) bytes (Ok b)) c.if-branch.false places) in
    let kept = c.in_ok-place_on.ensures.kept ∙ c.in_ok-held.ensures.kept in
    let told_new = subst (λ k. IsTrue (pages.tells k)) (sym kept) told in
    let page : c.loaded.result.now ≡ page_at mid number = c.loaded.ensures ∙ c.in_ok-load.ensures.bytes told_new ∙ ap (λ (m : PageMap). page_at m number) same in
    let splices : Splices (page_at mid number) (start_of number) (below row.rowid (ids_of t.rows)) 0 (bytes ∷ []) [] (Ok c.in_ok-packed.packed) = (
    subst (λ (n : ℕ). Splices (page_at mid number) (start_of number) n 0 (bytes ∷ []) [] (Ok c.in_ok-packed.packed)) at
    (subst (λ (n : ℕ). Splices (page_at mid number) n c.args.place 0 (bytes ∷ []) [] (Ok c.in_ok-packed.packed)) c.start_of-start.ensures
    (subst (λ (l : List ℕ). Splices l c.start_of-start.result c.args.place 0 (bytes ∷ []) [] (Ok c.in_ok-packed.packed)) page
    (subst (λ (l : List ℕ). Splices c.loaded.result.now c.start_of-start.result c.args.place 0 (l ∷ []) [] (Ok c.in_ok-packed.packed)) c.as_slice-3.ensures.value c.in_ok-packed.ensures.spliced)))) in
    let planned = leaf_planned old mid size number ways row low t high free under absent held w bytes cell (Ok c.in_ok-packed.packed) splices in
    planned_since old mid (pages.map c.load.new.self) size number 0 low high (with_row row (rows_of 0 t)) (below_of 0 t) free (Ok c.in_ok-packed.packed) ((c.in_ok-load.ensures.stays).same ∙ same) planned)

use Rattle.std.proofs.Common.{◌≡◌, ◌∙◌, ℕ, Bool, IsTrue, Ok, Err, length, List, [], ◌∷◌, sym, ap, subst}
use Rattle.std.specs.Prelude.{Result}
use Rattle.sqlval.specs.declared.fault.Fault.{Fault}
use Rattle.pages.specs.Map.{PageMap, page_at, IsThere}
use Rattle.tree_page.specs.Node.{IsEntryCell}
use Rattle.tree_page.specs.Payload.{index_most}
use Rattle.tree_overflow.specs.Calls.{IsWritten}
use Rattle.tree_pack.specs.Splicing.{Splices}
use Rattle.tree_store.specs.Storing.{PlacesOn}
use Rattle.tree_index.specs.Freeing.{below_of}
use Rattle.tree_index.specs.Growing.{IsPutOrPlanned, entries_put}
use Rattle.tree_index.proofs.Emptied.{large_size}
use Rattle.tree_index.proofs.Leaves.{payload_held, says_mid, long_mid, leaf_placed, leaf_unplaced, leaf_unwritten, leaf_planned}
use Rattle.tree_index.proofs.Readings.{full_err, outside_full}
use Rattle.tree_index.proofs.Widening.{planned_since}
use Rattle.tree_index.proofs.growing.leaf_with.Goals as goal

pub returns-in_err-place_on-clause-planned : goal.returns-in_err-place_on-clause-planned
returns-in_err-place_on-clause-planned g c = λ told entry ways t free under sized record_is within.
    (let pages = g.P.Pages in
    let old = pages.map c.args.pages.now in
    let size = (pages.limits (pages.below c.args.pages.now)).page in
    let number = c.args.number in
    let place = c.args.place in
    let mid = pages.map c.write_payload.new.pages in
    let new = pages.map c.place_on.new.pages in
    let payload = c.args.new.payload.now in
    let held = c.in_ok-held.held.items in
    let bytes = c.in_ok-cell.cell.items in
    let most : c.most_in-most.result ≡ index_most size = c.most_in-most.ensures ∙ ap index_most c.page_size.ensures in
    let w = subst (λ (n : ℕ). IsWritten old mid size n free payload held) most (c.in_ok-held.ensures.written told free under.free_are) in
    let told_mid = subst (λ k. IsTrue (pages.tells k)) (sym c.in_ok-held.ensures.kept) told in
    let long = payload_held mid size held payload w.chain (large_size size sized).0 w.is in
    let cell : IsEntryCell size bytes (record { size = length payload; bytes = held }) = (
    let value = c.as_slice.ensures.value in
    subst (λ (bytes_in : List ℕ). IsEntryCell size bytes (record { size = length payload; bytes = bytes_in })) value
    (c.in_ok-cell.ensures.is size (ap length value ∙ long))) in
    let answered : Result Bool Fault = Err c.in_err-place_on.field-0.0 in
    let places : PlacesOn mid new size number place bytes answered = (
    subst (λ (l : List ℕ). PlacesOn mid new size number place l answered) c.as_slice-2.ensures.value
    (subst (λ k. PlacesOn mid new (pages.limits k).page number place c.as_slice-2.result.now answered) c.in_ok-held.ensures.kept (c.in_err-place_on.ensures.placed told_mid))) in
    outside_full (IsPutOrPlanned old new size number place entry t free) c.from_residual-in_err-place_on.result c.in_err-place_on.field-0.0 c.from_residual-in_err-place_on.ensures.1
    (leaf_unwritten old mid size number ways entry payload t free under sized record_is held w place within bytes cell new c.in_err-place_on.field-0.0 places))

pub returns-then-branch-clause-planned : goal.returns-then-branch-clause-planned
returns-then-branch-clause-planned g c = λ told entry ways t free under sized record_is within.
    (let pages = g.P.Pages in
    let old = pages.map c.args.pages.now in
    let size = (pages.limits (pages.below c.args.pages.now)).page in
    let number = c.args.number in
    let place = c.args.place in
    let mid = pages.map c.write_payload.new.pages in
    let new = pages.map c.place_on.new.pages in
    let payload = c.args.new.payload.now in
    let held = c.in_ok-held.held.items in
    let bytes = c.in_ok-cell.cell.items in
    let most : c.most_in-most.result ≡ index_most size = c.most_in-most.ensures ∙ ap index_most c.page_size.ensures in
    let w = subst (λ (n : ℕ). IsWritten old mid size n free payload held) most (c.in_ok-held.ensures.written told free under.free_are) in
    let told_mid = subst (λ k. IsTrue (pages.tells k)) (sym c.in_ok-held.ensures.kept) told in
    let long = payload_held mid size held payload w.chain (large_size size sized).0 w.is in
    let cell : IsEntryCell size bytes (record { size = length payload; bytes = held }) = (
    let value = c.as_slice.ensures.value in
    subst (λ (bytes_in : List ℕ). IsEntryCell size bytes (record { size = length payload; bytes = bytes_in })) value
    (c.in_ok-cell.ensures.is size (ap length value ∙ long))) in
    let answered : Result Bool Fault = Ok c.in_ok-place_on.field-0 in
    let places : PlacesOn mid new size number place bytes answered = (
    subst (λ (l : List ℕ). PlacesOn mid new size number place l answered) c.as_slice-2.ensures.value
    (subst (λ k. PlacesOn mid new (pages.limits k).page number place c.as_slice-2.result.now answered) c.in_ok-held.ensures.kept (c.in_ok-place_on.ensures.placed told_mid))) in
    leaf_placed old mid size number ways entry payload t free under sized record_is held w place within bytes cell new (subst (λ (b : Bool). PlacesOn mid new size number place bytes (Ok b)) c.if-branch.true places))

pub returns-in_err-load-clause-planned : goal.returns-in_err-load-clause-planned
returns-in_err-load-clause-planned g c = λ told entry ways t free under sized record_is within.
    (let pages = g.P.Pages in
    let old = pages.map c.args.pages.now in
    let size = (pages.limits (pages.below c.args.pages.now)).page in
    let number = c.args.number in
    let place = c.args.place in
    let mid = pages.map c.write_payload.new.pages in
    let new = pages.map c.place_on.new.pages in
    let payload = c.args.new.payload.now in
    let held = c.in_ok-held.held.items in
    let bytes = c.in_ok-cell.cell.items in
    let most : c.most_in-most.result ≡ index_most size = c.most_in-most.ensures ∙ ap index_most c.page_size.ensures in
    let w = subst (λ (n : ℕ). IsWritten old mid size n free payload held) most (c.in_ok-held.ensures.written told free under.free_are) in
    let told_mid = subst (λ k. IsTrue (pages.tells k)) (sym c.in_ok-held.ensures.kept) told in
    let long = payload_held mid size held payload w.chain (large_size size sized).0 w.is in
    let cell : IsEntryCell size bytes (record { size = length payload; bytes = held }) = (
    let value = c.as_slice.ensures.value in
    subst (λ (bytes_in : List ℕ). IsEntryCell size bytes (record { size = length payload; bytes = bytes_in })) value
    (c.in_ok-cell.ensures.is size (ap length value ∙ long))) in
    let answered : Result Bool Fault = Ok c.in_ok-place_on.field-0 in
    let places : PlacesOn mid new size number place bytes answered = (
    subst (λ (l : List ℕ). PlacesOn mid new size number place l answered) c.as_slice-2.ensures.value
    (subst (λ k. PlacesOn mid new (pages.limits k).page number place c.as_slice-2.result.now answered) c.in_ok-held.ensures.kept (c.in_ok-place_on.ensures.placed told_mid))) in
    let same = leaf_unplaced old mid size number ways entry payload t free under sized record_is held w place within bytes cell new (subst (λ (b : Bool). PlacesOn mid new size number place bytes (Ok b)) c.if-branch.false places) in
    let kept = c.in_ok-place_on.ensures.kept ∙ c.in_ok-held.ensures.kept in
    let told_new = subst (λ k. IsTrue (pages.tells k)) (sym kept) told in
    let there : IsThere mid size number = record { has = (says_mid old mid size number ways entry payload t free under sized record_is held w place within).has; whole = long_mid old mid size number ways entry payload t free under sized record_is held w place within } in
    outside_full (IsPutOrPlanned old (pages.map c.load.new.self) size number place entry t free) c.from_residual-in_err-load.result c.in_err-load.field-0.0 c.from_residual-in_err-load.ensures.1
    (c.in_err-load.ensures.refusal told_new (subst (λ k. IsThere new (pages.limits k).page number) (sym kept) (subst (λ (m : PageMap). IsThere m size number) (sym same) there))))

pub returns-in_err-packed-clause-planned : goal.returns-in_err-packed-clause-planned
returns-in_err-packed-clause-planned g c = λ told entry ways t free under sized record_is within.
    (let pages = g.P.Pages in
    let old = pages.map c.args.pages.now in
    let size = (pages.limits (pages.below c.args.pages.now)).page in
    let number = c.args.number in
    let place = c.args.place in
    let mid = pages.map c.write_payload.new.pages in
    let new = pages.map c.place_on.new.pages in
    let payload = c.args.new.payload.now in
    let held = c.in_ok-held.held.items in
    let bytes = c.in_ok-cell.cell.items in
    let most : c.most_in-most.result ≡ index_most size = c.most_in-most.ensures ∙ ap index_most c.page_size.ensures in
    let w = subst (λ (n : ℕ). IsWritten old mid size n free payload held) most (c.in_ok-held.ensures.written told free under.free_are) in
    let told_mid = subst (λ k. IsTrue (pages.tells k)) (sym c.in_ok-held.ensures.kept) told in
    let long = payload_held mid size held payload w.chain (large_size size sized).0 w.is in
    let cell : IsEntryCell size bytes (record { size = length payload; bytes = held }) = (
    let value = c.as_slice.ensures.value in
    subst (λ (bytes_in : List ℕ). IsEntryCell size bytes (record { size = length payload; bytes = bytes_in })) value
    (c.in_ok-cell.ensures.is size (ap length value ∙ long))) in
    let answered : Result Bool Fault = Ok c.in_ok-place_on.field-0 in
    let places : PlacesOn mid new size number place bytes answered = (
    subst (λ (l : List ℕ). PlacesOn mid new size number place l answered) c.as_slice-2.ensures.value
    (subst (λ k. PlacesOn mid new (pages.limits k).page number place c.as_slice-2.result.now answered) c.in_ok-held.ensures.kept (c.in_ok-place_on.ensures.placed told_mid))) in
    let same = leaf_unplaced old mid size number ways entry payload t free under sized record_is held w place within bytes cell new (subst (λ (b : Bool). PlacesOn mid new size number place bytes (Ok b)) c.if-branch.false places) in
    let kept = c.in_ok-place_on.ensures.kept ∙ c.in_ok-held.ensures.kept in
    let told_new = subst (λ k. IsTrue (pages.tells k)) (sym kept) told in
    let page : c.loaded.result.now ≡ page_at mid number = c.loaded.ensures ∙ c.in_ok-load.ensures.bytes told_new ∙ ap (λ (m : PageMap). page_at m number) same in
    let splices : Splices (page_at mid number) 0 place 0 (bytes ∷ []) [] (Err c.in_err-packed.field-0.0) = (
    subst (λ (l : List ℕ). Splices l 0 place 0 (bytes ∷ []) [] (Err c.in_err-packed.field-0.0)) page
    (subst (λ (l : List ℕ). Splices c.loaded.result.now 0 place 0 (l ∷ []) [] (Err c.in_err-packed.field-0.0)) c.as_slice-3.ensures.value c.in_err-packed.ensures.spliced)) in
    let planned = leaf_planned old mid size number ways entry payload t free under sized record_is held w place within bytes cell (Err c.in_err-packed.field-0.0) splices in
    full_err (IsPutOrPlanned old (pages.map c.load.new.self) size number place entry t free) c.from_residual-in_err-packed.result c.in_err-packed.field-0.0 c.from_residual-in_err-packed.ensures.1 planned)

pub returns-clause-planned : goal.returns-clause-planned
returns-clause-planned g c = λ told entry ways t free under sized record_is within.
    (let pages = g.P.Pages in
    let old = pages.map c.args.pages.now in
    let size = (pages.limits (pages.below c.args.pages.now)).page in
    let number = c.args.number in
    let place = c.args.place in
    let mid = pages.map c.write_payload.new.pages in
    let new = pages.map c.place_on.new.pages in
    let payload = c.args.new.payload.now in
    let held = c.in_ok-held.held.items in
    let bytes = c.in_ok-cell.cell.items in
    let most : c.most_in-most.result ≡ index_most size = c.most_in-most.ensures ∙ ap index_most c.page_size.ensures in
    let w = subst (λ (n : ℕ). IsWritten old mid size n free payload held) most (c.in_ok-held.ensures.written told free under.free_are) in
    let told_mid = subst (λ k. IsTrue (pages.tells k)) (sym c.in_ok-held.ensures.kept) told in
    let long = payload_held mid size held payload w.chain (large_size size sized).0 w.is in
    let cell : IsEntryCell size bytes (record { size = length payload; bytes = held }) = (
    let value = c.as_slice.ensures.value in
    subst (λ (bytes_in : List ℕ). IsEntryCell size bytes (record { size = length payload; bytes = bytes_in })) value
    (c.in_ok-cell.ensures.is size (ap length value ∙ long))) in
    let answered : Result Bool Fault = Ok c.in_ok-place_on.field-0 in
    let places : PlacesOn mid new size number place bytes answered = (
    subst (λ (l : List ℕ). PlacesOn mid new size number place l answered) c.as_slice-2.ensures.value
    (subst (λ k. PlacesOn mid new (pages.limits k).page number place c.as_slice-2.result.now answered) c.in_ok-held.ensures.kept (c.in_ok-place_on.ensures.placed told_mid))) in
    let same = leaf_unplaced old mid size number ways entry payload t free under sized record_is held w place within bytes cell new (subst (λ (b : Bool). PlacesOn mid new size number place bytes (Ok b)) c.if-branch.false places) in
    let kept = c.in_ok-place_on.ensures.kept ∙ c.in_ok-held.ensures.kept in
    let told_new = subst (λ k. IsTrue (pages.tells k)) (sym kept) told in
    let page : c.loaded.result.now ≡ page_at mid number = c.loaded.ensures ∙ c.in_ok-load.ensures.bytes told_new ∙ ap (λ (m : PageMap). page_at m number) same in
    let splices : Splices (page_at mid number) 0 place 0 (bytes ∷ []) [] (Ok c.in_ok-packed.packed) = (
    subst (λ (l : List ℕ). Splices l 0 place 0 (bytes ∷ []) [] (Ok c.in_ok-packed.packed)) page
    (subst (λ (l : List ℕ). Splices c.loaded.result.now 0 place 0 (l ∷ []) [] (Ok c.in_ok-packed.packed)) c.as_slice-3.ensures.value c.in_ok-packed.ensures.spliced)) in
    let planned = leaf_planned old mid size number ways entry payload t free under sized record_is held w place within bytes cell (Ok c.in_ok-packed.packed) splices in
    planned_since old mid (pages.map c.load.new.self) size 0 (entries_put place entry t) (below_of 0 t) free (Ok c.in_ok-packed.packed) ((c.in_ok-load.ensures.stays).same ∙ same) planned)

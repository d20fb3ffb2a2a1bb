use Rattle.std.proofs.Common.{rules, ◌≡◌, Bool, List, Vec, Global, ℕ, map, slice_index_or}
use Rattle.std.specs.Prelude.{option_map}
use Rattle.row_search.specs.Finding.{AddsFirst, is_sought}
use Rattle.row_search.proofs.Records.{all_told, at_first, goes_on, not_told, stops}
use Rattle.row_search.proofs.entries.add_rowids.Goals as goal

abbrev items_of : Vec ℕ Global → List ℕ
items_of bytes = bytes.items

pub records-init : goal.records-init
records-init c = at_first (is_sought c.args.key.columns.now c.args.key.values.now (option_map (λ r. r.now) c.args.range)) (map items_of c.args.records.now) c.args.rowids.now.items

pub returns-in_err-rowid-clause-only : goal.returns-in_err-rowid-clause-only
returns-in_err-rowid-clause-only c = λ given are ends.
    (let bytes : c.as_slice.result.now ≡ (slice_index_or c.args.records.now c.records.record-index c.record-item.result).items = search rules in
    not_told items_of (is_sought c.args.key.columns.now c.args.key.values.now (option_map (λ r. r.now) c.args.range)) c.args.records.now c.args.rowids.now.items c.records.rowids.items c.records.record-index c.record-item.result c.records.invariant c.records-test.true
    c.as_slice.result.now bytes (λ (all : Bool). AddsFirst (is_sought c.args.key.columns.now c.args.key.values.now (option_map (λ r. r.now) c.args.range)) given c.args.rowids.now.items c.records.rowids.items all) c.in_err-rowid.field-0.0 c.from_residual.result
    c.in_err-rowid.ensures.only c.from_residual.ensures.1 given are ends)

pub returns-in_default-clause-only : goal.returns-in_default-clause-only
returns-in_default-clause-only c = λ given are ends.
    (let bytes : c.as_slice.result.now ≡ (slice_index_or c.args.records.now c.records.record-index c.record-item.result).items = search rules in
    stops items_of (is_sought c.args.key.columns.now c.args.key.values.now (option_map (λ r. r.now) c.args.range)) c.args.records.now c.args.rowids.now.items c.records.rowids.items c.records.record-index c.record-item.result c.records.invariant c.records-test.true
    c.as_slice.result.now bytes c.in_ok-rowid.field-0 c.in_ok-rowid.ensures.only (search rules) given are ends)

pub records-preserved : goal.records-preserved
records-preserved c =
    let bytes : c.as_slice.result.now ≡ (slice_index_or c.args.records.now c.records.record-index c.record-item.result).items = search rules in
    goes_on items_of (is_sought c.args.key.columns.now c.args.key.values.now (option_map (λ r. r.now) c.args.range)) c.args.records.now c.args.rowids.now.items c.records.rowids.items c.records.record-index c.record-item.result c.records.invariant c.records-test.true
    c.as_slice.result.now bytes c.in_ok-rowid.field-0 c.in_ok-rowid.ensures.only c.in-Some.rowid c.in-Some.is c.push.new.self.items (search rules)

pub returns-clause-only : goal.returns-clause-only
returns-clause-only c = λ given are ends.
    all_told items_of (is_sought c.args.key.columns.now c.args.key.values.now (option_map (λ r. r.now) c.args.range)) c.args.records.now c.args.rowids.now.items c.records.rowids.items c.records.record-index c.records.invariant c.records-test.false given are ends

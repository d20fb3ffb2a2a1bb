use Rattle.std.proofs.Common.{rules, Bool, ◌≡◌, ◌<◌, ℕ, List, [], Vec, Global, length, map, slice_index_or, arith}
use Rattle.index_build.specs.Calls.{Tells}
use Rattle.index_build.specs.Checking.{AreFew, IsRowsEntry}
use Rattle.index_build.proofs.Comparing.{all_those, as_long, differs, not_told, one_more, there, too_many}
use Rattle.index_build.proofs.checking.are_of_rows.Goals as goal

abbrev items_of : Vec ℕ Global → List ℕ
items_of bytes = bytes.items

pub returns-then-records-most-clause-only : goal.returns-then-records-most-clause-only
returns-then-records-most-clause-only c = λ given rises are.
    (let many = as_long items_of c.args.records.now in
    too_many (IsRowsEntry c.args.columns.now c.args.rows.now) (map items_of c.args.records.now) c.args.most given (omega (arith, many, c.if-records-most.true)) are)

pub returns-in_err-is_record_of_row-clause-only : goal.returns-in_err-is_record_of_row-clause-only
returns-in_err-is_record_of_row-clause-only c = λ given rises are.
    (let P = IsRowsEntry c.args.columns.now c.args.rows.now in
    let lt : c.records.index < length c.args.records.now = omega (arith, c.records-test.true) in
    let bytes : c.as_slice.result.now ≡ (slice_index_or c.args.records.now c.records.index c.index-records-index.result).items = search rules in
    let is = there items_of P c.args.records.now c.records.index c.index-records-index.result lt c.as_slice.result.now bytes given are in
    not_told (λ (it : Bool). Tells it (P (slice_index_or given c.records.index []))) (λ (all : Bool). Tells all (AreFew c.args.columns.now c.args.rows.now c.args.most given)) c.in_err-is_record_of_row.field-0.0
    c.from_residual.result (c.in_err-is_record_of_row.ensures.only (slice_index_or given c.records.index []) rises is) c.from_residual.ensures.1)

pub returns-then-not-branch-clause-only : goal.returns-then-not-branch-clause-only
returns-then-not-branch-clause-only c = λ given rises are.
    (let P = IsRowsEntry c.args.columns.now c.args.rows.now in
    let lt : c.records.index < length c.args.records.now = omega (arith, c.records-test.true) in
    let bytes : c.as_slice.result.now ≡ (slice_index_or c.args.records.now c.records.index c.index-records-index.result).items = search rules in
    let is = there items_of P c.args.records.now c.records.index c.index-records-index.result lt c.as_slice.result.now bytes given are in
    differs items_of P c.args.records.now c.records.index c.index-records-index.result lt c.as_slice.result.now bytes given are c.in_ok-is_record_of_row.field-0 c.args.most
    (c.in_ok-is_record_of_row.ensures.only (slice_index_or given c.records.index []) rises is) (search rules))

pub records-init : goal.records-init
records-init c = λ rises given are. tt

pub records-preserved : goal.records-preserved
records-preserved c = λ rises given are.
    (let P = IsRowsEntry c.args.columns.now c.args.rows.now in
    let lt : c.records.index < length c.args.records.now = omega (arith, c.records-test.true) in
    let bytes : c.as_slice.result.now ≡ (slice_index_or c.args.records.now c.records.index c.index-records-index.result).items = search rules in
    let is = there items_of P c.args.records.now c.records.index c.index-records-index.result lt c.as_slice.result.now bytes given are in
    one_more items_of P c.args.records.now c.records.index c.index-records-index.result lt c.as_slice.result.now bytes given are c.in_ok-is_record_of_row.field-0
    (c.in_ok-is_record_of_row.ensures.only (slice_index_or given c.records.index []) rises is) (search rules) (c.records.invariant rises given are))

pub returns-clause-only : goal.returns-clause-only
returns-clause-only c = λ given rises are.
    (let many = as_long items_of c.args.records.now in
    all_those (IsRowsEntry c.args.columns.now c.args.rows.now) (map items_of c.args.records.now) c.args.most c.records.index given (c.records.invariant rises) (omega (arith, many, c.records-test.false))
    (omega (arith, many, c.if-records-most.false)) are)

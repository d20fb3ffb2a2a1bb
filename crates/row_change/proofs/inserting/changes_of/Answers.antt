use Rattle.std.proofs.Common.{◌<◌, ◌≤◌, refl, ap, map, length, slice_index_or, rules, arith}
use Rattle.std.proofs.lemmas.List.{length-map}
use Rattle.row_change.specs.NewRows.{IsReplacement, entry_left, row_of}
use Rattle.row_change.proofs.Records.{all_written, one_too_long, written_on}
use Rattle.row_change.proofs.Replaced.{all_push}
use Rattle.row_change.proofs.inserting.changes_of.Goals as goal

pub rows-init : goal.rows-init
rows-init c = rw (c.new-changes.ensures.items) (λ all. (refl, tt), tt)

pub returns-in_err-change_for-clause-refused : goal.returns-in_err-change_for-clause-refused
returns-in_err-change_for-clause-refused c =
    let olds = map row_of c.args.rows.now in
    let lt : c.rows.index < length olds = (let long = length-map c.args.rows.now row_of in let test = c.rows-test.true in omega (arith, long, test)) in
    let row = slice_index_or c.rows.rows c.rows.index c.index-rows-index.result in
    let at = ap (λ r. slice_index_or c.rows.rows c.rows.index r) c.index-rows-index.is in
    let h = one_too_long c.args.own olds c.rows.rows c.rows.index row lt at (map entry_left c.rows.changes.items) c.in_err-change_for.field-0.0
    c.in_err-change_for.ensures.refused c.rows.invariant.0 in
    search rules

pub rows-preserved : goal.rows-preserved
rows-preserved c =
    let olds = map row_of c.args.rows.now in
    let lt : c.rows.index < length olds = (let long = length-map c.args.rows.now row_of in let test = c.rows-test.true in omega (arith, long, test)) in
    let row = slice_index_or c.rows.rows c.rows.index c.index-rows-index.result in
    let at = ap (λ r. slice_index_or c.rows.rows c.rows.index r) c.index-rows-index.is in
    rw (c.in_ok-push.ensures.items) (
      written_on c.args.own olds c.rows.rows c.rows.index row lt at c.change_for.new.row c.rows.changes.items c.in_ok-change_for.field-0
          c.in_ok-change_for.ensures.made c.in_ok-change_for.ensures.kept c.rows.invariant.0,
      all_push IsReplacement c.rows.changes.items c.in_ok-change_for.field-0 c.rows.invariant.1 c.in_ok-change_for.ensures.some,
    )

pub returns-clause-made : goal.returns-clause-made
returns-clause-made c =
    let olds = map row_of c.args.rows.now in
    let le : length olds ≤ c.rows.index = (let long = length-map c.args.rows.now row_of in let test = c.rows-test.false in omega (arith, long, test)) in
    all_written c.args.own olds (map row_of c.rows.rows) c.rows.index (map entry_left c.rows.changes.items) le c.rows.invariant.0

pub returns-clause-kept : goal.returns-clause-kept
returns-clause-kept c = λ all. (c.rows.invariant.0 all).0

pub returns-clause-some : goal.returns-clause-some
returns-clause-some c = c.rows.invariant.1

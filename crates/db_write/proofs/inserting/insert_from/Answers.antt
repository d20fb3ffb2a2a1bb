use Rattle.std.proofs.Common.{rules, subst, ◌∙◌, ◌-◌, ℕ, ℤ, List, length, map, take, drop, Option, Ok, Err}
use Rattle.sqlval.specs.declared.value.Value.{Value}
use Rattle.row_scan.specs.Rows.{values_of}
use Rattle.db_write.specs.OneRow.{InsertsAfter, InsertsFrom}
use Rattle.db_write.proofs.InsertedRows.{first_given, inserts_more, inserts_none, inserts_stop, none_given}
use Rattle.db_write.proofs.Looping.{since}
use Rattle.db_write.proofs.inserting.insert_from.Goals as goal

pub returns-in_err-row-clause-inserted : goal.returns-in_err-row-clause-inserted
returns-in_err-row-clause-inserted g c = λ told.
    (let pages = g.P.Pages in
    let old = c.args.pages.now in
    let mid = c.rows.pages in
    let new = pages.map c.insert_after.new.pages in
    let size = (pages.limits (pages.below old)).page in
    let table = c.args.table.now in
    let places = c.args.places.now in
    let left = c.rows.left.now in
    let given = c.given-item.result in
    let fault = c.in_err-row.field-0.0 in
    let result = c.from_residual.result in
    let does = since pages.below pages.tells pages.limits old mid (λ (n : ℕ). InsertsAfter (pages.map mid) new n table places c.deref.result.now c.rows.before (Err fault)) c.rows.invariant.kept c.in_err-row.ensures.inserted told in
    c.rows.invariant.decides told new result
    (subst (λ (them : List (List Value)). InsertsFrom (pages.map mid) new size table places them c.rows.before result) (first_given values_of left given c.in-len1-up.len_at_least c.given-item.is)
    (inserts_stop (pages.map mid) new size table places given.items (map values_of (take (length left - 1) (drop 1 left))) c.rows.before fault result c.from_residual.ensures.1
    (subst (λ (row : List Value). InsertsAfter (pages.map mid) new size table places row c.rows.before (Err fault)) c.deref.ensures does))))

pub rows-preserved : goal.rows-preserved
rows-preserved g c =
    let pages = g.P.Pages in
    let old = c.args.pages.now in
    let mid = c.rows.pages in
    let size = (pages.limits (pages.below old)).page in
    let table = c.args.table.now in
    let places = c.args.places.now in
    let left = c.rows.left.now in
    let given = c.given-item.result in
    let row = c.in_ok-row.row in
    record {
      kept = c.in_ok-row.ensures.kept ∙ c.rows.invariant.kept;
      causes = search rules;
      decides = λ told end result rest.
          (let new = pages.map c.insert_after.new.pages in
          let does = since pages.below pages.tells pages.limits old mid (λ (n : ℕ). InsertsAfter (pages.map mid) new n table places c.deref.result.now c.rows.before (Ok row)) c.rows.invariant.kept c.in_ok-row.ensures.inserted told in
          c.rows.invariant.decides told end result
          (subst (λ (them : List (List Value)). InsertsFrom (pages.map mid) end size table places them c.rows.before result) (first_given values_of left given c.in-len1-up.len_at_least c.given-item.is)
          (inserts_more (pages.map mid) new size table places given.items (map values_of (take (length left - 1) (drop 1 left))) c.rows.before end row result
          (subst (λ (item : List Value). InsertsAfter (pages.map mid) new size table places item c.rows.before (Ok row)) c.deref.ensures does)
          (subst (λ (last : Option ℤ). InsertsFrom new end size table places (map values_of (take (length left - 1) (drop 1 left))) last result) c.last_after-before.ensures rest))));
    }

pub returns-clause-inserted : goal.returns-clause-inserted
returns-clause-inserted g c = λ told.
    (let pages = g.P.Pages in
    let old = c.args.pages.now in
    let now = pages.map c.rows.pages in
    let size = (pages.limits (pages.below old)).page in
    let table = c.args.table.now in
    let places = c.args.places.now in
    c.rows.invariant.decides told now (Ok tt)
    (subst (λ (them : List (List Value)). InsertsFrom now now size table places them c.rows.before (Ok tt)) (none_given values_of c.rows.left.now c.in_default.len_below) (inserts_none now size table places c.rows.before)))

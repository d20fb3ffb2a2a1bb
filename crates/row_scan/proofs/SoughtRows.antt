-- The rows of a tree that have a rowid, as a query's source has them.
use Rattle.std.proofs.Common.{◌≡◌, inl, inr, refl, sym, ap, subst, ◌∙◌, ℕ, ℤ, ◌≤ℤ◌, ◌<ℤ◌, Bool, true, false, cond, if◌then◌else◌, List, [], ◌∷◌, ◌++◌, map, Option, Some, None, Ok, Err, arith}
use Rattle.std.proofs.lemmas.Int.{ints}
use Rattle.std.specs.Ordering.{int_eq}
use Rattle.std.specs.Prelude.{Result, IsErrAnd}
use Rattle.sqlval.specs.Faults.{IsOutside}
use Rattle.sqlval.specs.declared.fault.Fault.{Fault}
use Rattle.record.specs.Columns.{HoldsValues}
use Rattle.tree_leaf.specs.Leaf.{Entry}
use Rattle.pages.specs.Map.{PageMap}
use Rattle.tree_page.specs.Cells.{Pairwise}
use Rattle.tree_table.specs.Calls.{FindsRow, IsFound}
use Rattle.tree_table.specs.Rows.{payload_at}
use Rattle.tree_table.proofs.Orders.{greater_not, le_lt, lt_le, same_or_other}
use Rattle.catalog.specs.declared.tables.RowShape.{RowShape}
use Rattle.query_terms.specs.Values.{Row}
use Rattle.query_names.specs.declared.queries.BoundSource.{BoundSource}
use Rattle.row_scan.specs.Rows.{IsRow, TableRow}
use Rattle.row_scan.specs.Sources.{LoadsRowsAt, as_held, as_source, rows_at}
use Rattle.row_scan.proofs.SourceRows.{held_is}
use Rattle.row_scan.proofs.TreeOrder.{Goes, tree_goes}

-- ---- one entry and its row

passed_entry : (rowid : ℤ) (entry : Entry) (entries : List Entry) → int_eq entry.rowid rowid ≡ false → payload_at rowid (entry ∷ entries) ≡ payload_at rowid entries
passed_entry rowid entry entries h = ap (λ (t : Bool). if t then Some entry.payload else payload_at rowid entries) h

taken_entry : (rowid : ℤ) (entry : Entry) (entries : List Entry) → int_eq entry.rowid rowid ≡ true → payload_at rowid (entry ∷ entries) ≡ Some entry.payload
taken_entry rowid entry entries h = ap (λ (t : Bool). if t then Some entry.payload else payload_at rowid entries) h

passed_row : (rowid : ℤ) (row : TableRow) (rows : List TableRow) → int_eq row.0 rowid ≡ false → rows_at rowid (row ∷ rows) ≡ rows_at rowid rows
passed_row rowid row rows h = ap (λ (t : Bool). cond t (row ∷ rows_at rowid rows) (rows_at rowid rows)) h

taken_row : (rowid : ℤ) (row : TableRow) (rows : List TableRow) → int_eq row.0 rowid ≡ true → rows_at rowid (row ∷ rows) ≡ row ∷ rows_at rowid rows
taken_row rowid row rows h = ap (λ (t : Bool). cond t (row ∷ rows_at rowid rows) (rows_at rowid rows)) h

-- ---- all entries

-- no row has a rowid that is at most what all rowids are above
none_above : (shape : RowShape) (rowid low : ℤ) (entries : List Entry) (rows : List TableRow) (high : ℤ) → rowid ≤ℤ low → Goes low entries high → Pairwise (IsRow shape) entries rows → rows_at rowid rows ≡ []
none_above shape rowid low [] [] high le goes each = refl
none_above shape rowid low [] (row ∷ rows) high le goes each = absurd each
none_above shape rowid low (entry ∷ entries) [] high le goes each = absurd each
none_above shape rowid low (entry ∷ entries) (row ∷ rows) high le goes each =
    let lt : rowid <ℤ entry.rowid = le_lt rowid low entry.rowid le goes.0 in
    passed_row rowid row rows (greater_not row.0 rowid (subst (λ (n : ℤ). rowid <ℤ n) each.0.rowid lt))
    ∙ none_above shape rowid entry.rowid entries rows high (lt_le rowid entry.rowid lt) goes.1 each.1

-- the row of a payload that was found
abbrev pub as_found : Option ℕ → ℤ → Option (List ℕ) → List Row
as_found own rowid None = []
as_found own rowid (Some payload) = as_held own (record { rowid = rowid; payload = payload }) ∷ []

-- at most one row has a rowid, and it is the entry's that is found
found_is : HoldsValues → (shape : RowShape) (rowid low : ℤ) (entries : List Entry) (rows : List TableRow) (high : ℤ) → Goes low entries high → Pairwise (IsRow shape) entries rows
    → as_found shape.own rowid (payload_at rowid entries) ≡ map as_source (rows_at rowid rows)
found_is holds shape rowid low [] [] high goes each = refl
found_is holds shape rowid low [] (row ∷ rows) high goes each = absurd each
found_is holds shape rowid low (entry ∷ entries) [] high goes each = absurd each
found_is holds shape rowid low (entry ∷ entries) (row ∷ rows) high goes each = elim (same_or_other entry.rowid rowid) [
  | inl (test, same) ↦
      ap (as_found shape.own rowid) (taken_entry rowid entry entries test)
      ∙ (ap (λ (n : ℤ). as_held shape.own (record { rowid = n; payload = entry.payload }) ∷ []) (sym same)
      ∙ (ap (λ (first : Row). first ∷ []) (held_is holds shape entry row each.0)
      ∙ ap (map as_source)
      (sym (taken_row rowid row rows (subst (λ (n : ℤ). int_eq n rowid ≡ true) each.0.rowid test)
      ∙ ap (λ (others : List TableRow). row ∷ others) (none_above shape rowid entry.rowid entries rows high (at_most rowid entry.rowid same) goes.1 each.1)))))
  | inr (test, other) ↦
      ap (as_found shape.own rowid) (passed_entry rowid entry entries test)
      ∙ (found_is holds shape rowid entry.rowid entries rows high goes.1 each.1
      ∙ ap (map as_source) (sym (passed_row rowid row rows (subst (λ (n : ℤ). int_eq n rowid ≡ false) each.0.rowid test))))
]
  where
    at_most : (rowid other : ℤ) → other ≡ rowid → rowid ≤ℤ other
    at_most rowid other same = subst (λ (n : ℤ). rowid ≤ℤ n) (sym same) (omega (arith, ints))

-- ---- a call

-- what a call gives where bytes were found, or weren't
abbrev given : Option ℕ → ℤ → List ℕ → Bool → List Row
given own rowid bytes true = as_held own (record { rowid = rowid; payload = bytes }) ∷ []
given own rowid bytes false = []

-- what was put behind nothing is the row's payload
given_payload : (own : Option ℕ) (rowid : ℤ) (payload : Option (List ℕ)) (after : List ℕ) (is : Bool) → IsFound payload [] after is → given own rowid after is ≡ as_found own rowid payload
given_payload own rowid None after is (none, same) = ap (given own rowid after) none
given_payload own rowid (Some payload) after is (some, same) = ap (given own rowid after) some ∙ ap (λ (bytes : List ℕ). as_held own (record { rowid = rowid; payload = bytes }) ∷ []) same

-- the row of a rowid was looked up
sought : HoldsValues → (pages : PageMap) (size : ℕ) (table : BoundSource) (rowid : ℤ) (before after : List ℕ) (is : Bool) → before ≡ [] → FindsRow pages size table.root rowid before after (Ok is)
    → LoadsRowsAt pages size table rowid (Ok (given table.shape.own rowid after is))
sought holds pages size table rowid before after is none finds rows whole has =
    given_payload table.shape.own rowid (payload_at rowid has.entries) after is (subst (λ (bytes : List ℕ). IsFound (payload_at rowid has.entries) bytes after is) none (finds has.entries has.used whole has.tree))
    ∙ found_is holds table.shape rowid has.tree.low has.entries rows has.tree.high (tree_goes pages size table.root has.entries has.used has.tree) has.each

-- it is there
pub one_sought : HoldsValues → (pages : PageMap) (size : ℕ) (table : BoundSource) (rowid : ℤ) (before after bytes : List ℕ) (is : Bool) (rows found : List Row) (row : Row) → before ≡ []
    → FindsRow pages size table.root rowid before after (Ok is) → is ≡ true → bytes ≡ after → row ≡ as_held table.shape.own (record { rowid = rowid; payload = bytes }) → rows ≡ [] → found ≡ rows ++ row ∷ []
    → LoadsRowsAt pages size table rowid (Ok found)
one_sought holds pages size table rowid before after bytes is rows found row none finds some same row_is empty put =
    subst (λ (them : List Row). LoadsRowsAt pages size table rowid (Ok them)) (sym all) (sought holds pages size table rowid before after is none finds)
  where
    all : found ≡ given table.shape.own rowid after is
    all =
        put
        ∙ (ap (λ (them : List Row). them ++ row ∷ []) empty
        ∙ (ap (λ (first : Row). first ∷ []) (row_is ∙ ap (λ (b : List ℕ). as_held table.shape.own (record { rowid = rowid; payload = b })) same)
        ∙ ap (given table.shape.own rowid after) (sym some)))

-- it isn't there
pub none_sought : HoldsValues → (pages : PageMap) (size : ℕ) (table : BoundSource) (rowid : ℤ) (before after : List ℕ) (is : Bool) (rows found : List Row) → before ≡ []
    → FindsRow pages size table.root rowid before after (Ok is) → is ≡ false → rows ≡ [] → found ≡ rows → LoadsRowsAt pages size table rowid (Ok found)
none_sought holds pages size table rowid before after is rows found none finds not_there empty same =
    subst (λ (them : List Row). LoadsRowsAt pages size table rowid (Ok them)) (sym (same ∙ (empty ∙ ap (given table.shape.own rowid after) (sym not_there))))
    (sought holds pages size table rowid before after is none finds)

-- it wasn't looked up
pub sought_unread : (pages : PageMap) (size : ℕ) (table : BoundSource) (rowid : ℤ) (before after : List ℕ) (fault : Fault) (result : Result (List Row) Fault) → IsErrAnd result (λ e. e ≡ fault)
    → FindsRow pages size table.root rowid before after (Err fault) → LoadsRowsAt pages size table rowid result
sought_unread pages size table rowid before after fault (Ok found) same finds = absurd same
sought_unread pages size table rowid before after fault (Err e) same finds = λ rows whole has. subst IsOutside (sym same) (finds has.entries has.used whole has.tree)

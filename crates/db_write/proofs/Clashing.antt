-- A row clashes in one of the indexes exactly where it isn't alone.
use Rattle.std.proofs.Common.{◌≡◌, refl, sym, ap, ◌∙◌, ◌&&◌, ◌||◌, Bool, true, false, not, List, [], ◌∷◌, Ok, Err}
use Rattle.std.specs.List.{list_any}
use Rattle.sqlval.specs.Refusals.{Answer, ◌then◌, Unique}
use Rattle.catalog.specs.Listed.{as_index}
use Rattle.catalog.specs.declared.tables.Index.{Index}
use Rattle.catalog.specs.declared.tables.Table.{Table}
use Rattle.query_names.specs.Keys.{clash}
use Rattle.row_scan.specs.Rows.{TableRow}
use Rattle.row_change.specs.Constraints.{demand}
use Rattle.row_change.specs.Demands.{admitted, is_alone, with_own_rowid}
use Rattle.index_entries.specs.Alone.{clashes}
use Rattle.index_build.proofs.SameClashes.{clash_alike}
use Rattle.db_layout.specs.Trees.{columns_of}
use Rattle.db_write.specs.Turning.{clashes_among, clashes_at}

abbrev given_row : TableRow → Answer TableRow
given_row row = Ok row

-- the row, where none of these has its key
abbrev pub where_alone : Table → List TableRow → TableRow → Answer TableRow
where_alone table rows row = demand (is_alone table row rows) Unique then λ done. given_row row

-- a row is admitted where none has its rowid, and then where none has its key
pub in_turn : (table : Table) (rows : List TableRow) (a : Answer TableRow) → (a then λ row. admitted table rows row) ≡ ((a then λ row. with_own_rowid rows row) then where_alone table rows)
in_turn table rows (Ok row) = refl
in_turn table rows (Err r) = refl

-- what is alone is the row itself
pub alone_same : (table : Table) (rows : List TableRow) (a : Answer TableRow) (row : TableRow) → (a then where_alone table rows) ≡ Ok row → a ≡ Ok row
alone_same table rows (Ok r) row e = by (is_alone table r rows) e
  where
    by : (b : Bool) → (demand b Unique then λ done. given_row r) ≡ Ok row → given_row r ≡ Ok row
    by true h = h
    by false h = absurd cc
alone_same table rows (Err r) row e = absurd cc

module _ (table : Table) (row : TableRow) where
  in_unique : (index : Index) → index.is_unique ≡ true → (rows : List TableRow) → list_any (λ r. clash (as_index table index) row.1 r.1) rows ≡ list_any (clashes (columns_of index) row) rows
  in_unique index unique [] = refl
  in_unique index unique (other ∷ rows) =
      ap (λ (b : Bool). b || list_any (λ r. clash (as_index table index) row.1 r.1) rows) (sym (clash_alike (as_index table index) row other unique))
      ∙ ap (λ (b : Bool). clashes (columns_of index) row other || b) (in_unique index unique rows)

  in_plain : (index : Index) → index.is_unique ≡ false → (rows : List TableRow) → list_any (λ r. clash (as_index table index) row.1 r.1) rows ≡ false
  in_plain index plain [] = refl
  in_plain index plain (other ∷ rows) =
      ap (λ (b : Bool). clash (record (as_index table index) { is_unique = b }) row.1 other.1 || list_any (λ r. clash (as_index table index) row.1 r.1) rows) plain ∙ in_plain index plain rows

  at_index : (index : Index) (rows : List TableRow) → list_any (λ r. clash (as_index table index) row.1 r.1) rows ≡ clashes_at index row rows
  at_index index rows = by index.is_unique refl
    where
      by : (b : Bool) → index.is_unique ≡ b → list_any (λ r. clash (as_index table index) row.1 r.1) rows ≡ clashes_at index row rows
      by true unique = in_unique index unique rows ∙ sym (ap (λ (b : Bool). b && list_any (clashes (columns_of index) row) rows) unique)
      by false plain = in_plain index plain rows ∙ sym (ap (λ (b : Bool). b && list_any (clashes (columns_of index) row) rows) plain)

  among : (indexes : List Index) (rows : List TableRow) → list_any (λ i. list_any (λ r. clash (as_index table i) row.1 r.1) rows) indexes ≡ clashes_among indexes row rows
  among [] rows = refl
  among (index ∷ indexes) rows =
      ap (λ (b : Bool). b || list_any (λ i. list_any (λ r. clash (as_index table i) row.1 r.1) rows) indexes) (at_index index rows) ∙ ap (λ (b : Bool). clashes_at index row rows || b) (among indexes rows)

  pub alone_is : (rows : List TableRow) → is_alone table row rows ≡ not (clashes_among table.indexes row rows)
  alone_is rows = ap not (among table.indexes rows)

  -- a row that clashes in no index is alone
  pub passes : (rows : List TableRow) → clashes_among table.indexes row rows ≡ false → where_alone table rows row ≡ Ok row
  passes rows none = ap (λ (b : Bool). demand b Unique then λ done. given_row row) (alone_is rows ∙ ap not none)

  -- and one that clashes in one isn't
  pub clash_refused : (rows : List TableRow) → clashes_among table.indexes row rows ≡ true → where_alone table rows row ≡ Err Unique
  clash_refused rows some = ap (λ (b : Bool). demand b Unique then λ done. given_row row) (alone_is rows ∙ ap not some)

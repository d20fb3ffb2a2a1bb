-- What a call that changes or reads one row of a table's trees does to the database that the pages store.
use Rattle.std.proofs.Common.{◌≡◌, inl, inr, refl, sym, ap, subst, ◌∙◌, ℕ, ℤ, true, List, [], ◌∷◌, ◌++◌, length, map, Option, Some, None, Result, Ok, Err}
use Rattle.std.specs.Prelude.{⊤, IsErrAnd, MatchResult, option_map, slice_get}
use Rattle.std.specs.FinMap.Entries.{find, put}
use Rattle.std.specs.Ordering.{int_cmp}
use Rattle.sqlval.specs.Faults.{IsOrMemory, IsOutside}
use Rattle.sqlval.specs.PageSizes.{IsPageSize}
use Rattle.sqlval.specs.Refusals.{Answer, ◌then◌}
use Rattle.sqlval.specs.declared.fault.Fault.{Fault}
use Rattle.sqlval.specs.declared.value.Value.{Value}
use Rattle.pages.specs.Calls.{IsOutsideOrFull}
use Rattle.pages.specs.Map.{PageMap}
use Rattle.db_layout.specs.Layout.{Owner}
use Rattle.db_layout.specs.Trees.{AreAmong}
use Rattle.catalog.specs.Database as database
use Rattle.catalog.specs.Database.{ATable, Database, Name, row, with_object, without_row}
use Rattle.catalog.specs.Laws.{ListsOtherRows}
use Rattle.catalog.specs.Listed.{Listed, with_rows}
use Rattle.catalog.specs.Named.{IsOfListed, KeepsNamed, ListsIndexes}
use Rattle.catalog.specs.Rows.{are_rows, as_row}
use Rattle.catalog.specs.declared.tables.Table.{Table}
use Rattle.catalog.specs.declared.tables.TableRow as stored
use Rattle.query_terms.specs.Rows.{row_at}
use Rattle.query_terms.specs.Values.{Row}
use Rattle.row_scan.specs.Rows.{TableRow}
use Rattle.row_scan.specs.Sources.{as_source}
use Rattle.row_change.specs.Agreement.{HasIndexesOf, IsSetFor}
use Rattle.row_change.specs.Constraints.{table_of, updated_rowid}
use Rattle.row_change.specs.NewRows.{row_of}
use Rattle.row_change.specs.RowChanges.{insert_row}
use Rattle.row_change.proofs.Rising.{Rises, fit_rows_rise}
use Rattle.db_write.specs.Changing.{HoldsFitRows}
use Rattle.db_write.specs.OneRow.{InsertsOneRow, IsRefusedAs, TakesOneRow, TurnsRow, row_inserted, row_turned}
use Rattle.db_write.specs.Reading.{FindsOneRow}
use Rattle.db_write.proofs.PutRows.{others_left}
use Rattle.db_pages.specs.Stored.{Stores, all_trees, schema_tree}
use Rattle.executor.specs.Holding.{HoldsTrees}
use Rattle.executor.specs.Rows.{AreStoredBy, FindsIn, InsertsInto, IsRowMade, IsRowSet, IsRowStored, SetsIn, StoresTable, TakesFrom, literals, still, values_put}
use Rattle.executor.proofs.HeldTrees.{among, held_table, page_size, rows_with, stores_rows, trees_held}
use Rattle.executor.proofs.Insertions.{listed_table}
use Rattle.executor.proofs.Owners.{HasTable}
use Rattle.executor.proofs.Roots.{own_pages}
use Rattle.executor.proofs.SingleRows.{IsRowAmong, full_row, having_row, inserted_as, made_as, row_among, set_as, set_so}
use Rattle.executor.proofs.Wide.{indexes_of_table}

-- what follows for every listed database
pub record Laws : Type 0 where
  pub lists : ListsOtherRows
  pub named : KeepsNamed

abbrev one_table : database.Table → Answer database.Table
one_table t = Ok t

same_table : (a b : database.Table) → one_table a ≡ one_table b → a ≡ b
same_table a b e = cc

-- the row of a rowid, where there is one
abbrev one_or_none : ℤ → Option (List Value) → List TableRow
one_or_none rowid found = elim found [ None ↦ [] | Some values ↦ (rowid, values) ∷ [] ]

module _ (old : PageMap) (size : ℕ) (l : Listed) (db : Database) (name : Name) (table : Table) (t : database.Table) (is : StoresTable old size l db name table t) where
  -- its rows
  abbrev pub rows : List TableRow
  rows = is.stored.rows_at table.root

  found : table_of db name ≡ Ok (with_rows table rows)
  found = subst (λ (n : Name). table_of db n ≡ Ok (with_rows table rows)) is.is_folded (listed_table is.stored.rows_at l db name table is.stored.of_listed.lists is.named)

  pub table_is : t ≡ with_rows table rows
  table_is = same_table t (with_rows table rows) (sym is.is ∙ found)

  owned : HasTable is.stored.rows_at l.tables is.stored.held table
  owned = held_table old size l db is.stored name table is.named

  fit : are_rows (with_rows table rows) ≡ true
  fit = owned.split.is.fit

  rises : Rises rows
  rises = fit_rows_rise (with_rows table rows) fit

  abbrev schema : Owner
  schema = schema_tree is.stored.schema is.stored.schema_used

  abbrev before : List Owner
  before = all_trees owned.split.before

  abbrev after : List Owner
  after = all_trees owned.split.after

  abbrev trees : HoldsTrees old size is.stored.rows_at l.tables is.stored.schema
  trees = trees_held old size l db is.stored

  sized : IsPageSize size
  sized = page_size old size is.stored.rows_at l.tables is.stored.schema trees

  its_trees : AreAmong old size schema before table rows after
  its_trees = among old size is.stored.rows_at l.tables is.stored.schema trees table owned

  -- where the row of a rowid stands
  abbrev Among : ℤ → List Value → Type 0
  Among rowid values = IsRowAmong rowid values rows

  there : (rowid : ℤ) (values : List Value) → row t rowid ≡ Some values → find int_cmp rowid rows ≡ Some values
  there rowid values at = subst (λ (u : database.Table). row u rowid ≡ Some values) table_is at

  stands : (rowid : ℤ) (values : List Value) → row t rowid ≡ Some values → Among rowid values
  stands rowid values at = row_among rowid values rows (there rowid values at)

  parted : (rowid : ℤ) (values : List Value) (a : Among rowid values) → AreAmong old size schema before table (a.front ++ (rowid, values) ∷ a.back) after
  parted rowid values a = subst (λ (rs : List TableRow). AreAmong old size schema before table rs after) (sym a.are) its_trees

  parted_fit : (rowid : ℤ) (values : List Value) (a : Among rowid values) → are_rows (with_rows table (a.front ++ (rowid, values) ∷ a.back)) ≡ true
  parted_fit rowid values a = subst (λ (rs : List TableRow). are_rows (with_rows table rs) ≡ true) (sym a.are) fit

  -- without it the others are left
  left : (rowid : ℤ) (values : List Value) (a : Among rowid values) → without_row rowid (with_rows table rows) ≡ with_rows table (a.front ++ a.back)
  left rowid values a =
      ap (λ (rs : List TableRow). without_row rowid (with_rows table rs)) (sym a.are)
      ∙ ap (with_rows table) (others_left a.front (rowid, values) a.back (fit_rows_rise (with_rows table (a.front ++ (rowid, values) ∷ a.back)) (parted_fit rowid values a)))

  -- the database whose table has other rows
  abbrev with_now : List TableRow → Database
  with_now now = with_object db name (ATable (with_rows table now))

  stores_now : Laws → (new : PageMap) (now : List TableRow) → HoldsFitRows old new size schema before table now after → Stores new size l (with_now now)
  stores_now laws new now hold = stores_rows old new size l db (with_now now) is.stored table now owned hold of_listed
    where
      of_listed : IsOfListed (rows_with is.stored.rows_at table.root now) l (with_now now)
      of_listed = record {
        lists = laws.lists is.stored.rows_at l db name table now is.stored.of_listed.lists is.named
            (λ other u found here. own_pages old size l db is.stored other name u table found is.named here);
        named = laws.named db name (ATable (with_rows table now)) is.stored.of_listed.named;
        once = is.stored.of_listed.once;
      }

  has_indexes : ListsIndexes → HasIndexesOf db name table
  has_indexes indexes = subst (λ (n : Name). HasIndexesOf db n table) is.is_folded (indexes_of_table indexes is.stored.rows_at l db name table is.stored.of_listed is.named)

  -- a refusal is one of what the definition says
  refused_as : {A : Type 0} (answer : Answer A) (made : Answer Database) (then_made : A → Answer Database) (fault : Fault) → made ≡ (answer then then_made) → IsRefusedAs answer table fault → IsRefusedAs made table fault
  refused_as answer made then_made fault same (inl outside) = inl outside
  refused_as answer made then_made fault same (inr (inl e)) = inr (inl (same ∙ ap (λ (a : Answer _). a then then_made) e))
  refused_as answer made then_made fault same (inr (inr wide)) = inr (inr wide)

  -- ---- INSERT

  module _ (laws : Laws) (indexes : ListsIndexes) (by_column : List (Option ℕ)) (places : List ℕ) (given : List Value) (set : IsSetFor table by_column places given) (new : PageMap) where
    abbrev put_row : TableRow → Answer Database
    put_row = having_row db name table (has_indexes indexes) rows

    same : insert_row still name places db given ≡ (row_inserted table by_column rows given then put_row)
    same = inserted_as db name table (has_indexes indexes) rows rises found places by_column given set

    pub row_inserts : (result : Result stored.TableRow Fault) → InsertsOneRow old new size table by_column given result
        → MatchResult result (λ made. IsRowStored new size l db name t places given (row_of made)) (IsRefusedAs (insert_row still name places db given) table)
    row_inserts (Ok made) inserts =
        let was = inserts schema before after rows sized refl its_trees fit in
        record {
          stores = record {
            made = with_now (put int_cmp made.rowid made.values.items rows);
            is = same ∙ ap (λ (a : Answer TableRow). a then put_row) was.answer;
            stored = stores_now laws new (put int_cmp made.rowid made.values.items rows) was.hold;
          };
          row = subst (λ (u : database.Table). IsRowMade u places given (row_of made)) (sym table_is)
              (made_as db name table (has_indexes indexes) rows rises found places by_column given set (row_of made) was.answer);
        }
    row_inserts (Err fault) inserts =
        refused_as (row_inserted table by_column rows given) (insert_row still name places db given) put_row fault same (inserts schema before after rows sized refl its_trees fit)

  -- ---- UPDATE

  module _ (laws : Laws) (indexes : ListsIndexes) (rowid : ℤ) (values given : List Value) (at : row t rowid ≡ Some values) (stores : AreStoredBy t given) (new : PageMap) where
    a : Among rowid values
    a = stands rowid values at

    abbrev others : List TableRow
    others = a.front ++ a.back

    stores_so : AreStoredBy (with_rows table rows) given
    stores_so = subst (λ (u : database.Table). AreStoredBy u given) table_is stores

    long : length values ≡ length given
    long = full_row table a.front (rowid, values) a.back (parted_fit rowid values a) ∙ sym stores_so.full

    abbrev put_now : TableRow → Answer Database
    put_now = having_row db name table (has_indexes indexes) others

    set_is : values_put db name t rowid given ≡ (row_turned table (literals 0 given) (rowid, values) others then put_now)
    set_is =
        ap (λ (u : database.Table). values_put db name u rowid given) table_is
        ∙ set_as db name table (has_indexes indexes) rows others rowid values given (left rowid values a) long stores_so

    pub row_sets : (source : Row) (result : Result stored.TableRow Fault) → source ≡ as_source (rowid, values) → TurnsRow old new size table (literals 0 given) source result
        → MatchResult result (λ now. IsRowSet new size l db name t rowid given (row_of now)) (IsRefusedAs (values_put db name t rowid given) table)
    row_sets source (Ok now) from turns =
        let turned = turns schema before after a.front (rowid, values) a.back sized refl (parted rowid values a) (parted_fit rowid values a) from in
        let so = set_so db name table (has_indexes indexes) rows others rowid values given (left rowid values a) long stores_so (row_of now) turned.answer in
        record {
          stores = record {
            made = with_now (put int_cmp now.rowid now.values.items others);
            is = set_is ∙ ap (λ (x : Answer TableRow). x then put_now) turned.answer;
            stored = stores_now laws new (put int_cmp now.rowid now.values.items others) turned.hold;
          };
          rowid_is = subst (λ (u : database.Table). updated_rowid u rowid given ≡ Ok now.rowid) (sym table_is) so.0;
          values_are = so.1;
        }
    row_sets source (Err fault) from turns =
        refused_as (row_turned table (literals 0 given) (rowid, values) others) (values_put db name t rowid given) put_now fault set_is
        (turns schema before after a.front (rowid, values) a.back sized refl (parted rowid values a) (parted_fit rowid values a) from)

  -- ---- DELETE

  pub row_takes : Laws → (rowid : ℤ) (values : List Value) → row t rowid ≡ Some values → (new : PageMap) (result : Result ⊤ Fault) → TakesOneRow old new size table (rowid, values) result
      → MatchResult result (λ done. Stores new size l (with_object db name (ATable (without_row rowid t)))) IsOutsideOrFull
  row_takes laws rowid values at new result takes = by result (takes schema before after a.front a.back sized refl (parted rowid values a) (parted_fit rowid values a))
    where
      a : Among rowid values
      a = stands rowid values at

      same : without_row rowid t ≡ with_rows table (a.front ++ a.back)
      same = ap (without_row rowid) table_is ∙ left rowid values a

      by : (r : Result ⊤ Fault) → MatchResult r (λ done. HoldsFitRows old new size schema before table (a.front ++ a.back) after) IsOutsideOrFull
          → MatchResult r (λ done. Stores new size l (with_object db name (ATable (without_row rowid t)))) IsOutsideOrFull
      by (Ok done) hold = subst (λ (u : database.Table). Stores new size l (with_object db name (ATable u))) (sym same) (stores_now laws new (a.front ++ a.back) hold)
      by (Err fault) why = why

  -- ---- rows that are read

  -- what was read by a rowid is its row, or none where there is none
  pub found_so : (rowid : ℤ) (them : List Row) → FindsOneRow old size table rowid (Ok them) → option_map as_row (slice_get them 0) ≡ option_map (λ values. (rowid, values)) (row t rowid)
  found_so rowid them finds =
      ap (λ (rs : List Row). option_map as_row (slice_get rs 0)) (finds schema before after rows sized refl its_trees fit)
      ∙ (by (find int_cmp rowid rows) ∙ ap (λ (u : database.Table). option_map (λ (values : List Value). (rowid, values)) (row u rowid)) (sym table_is))
    where
      by : (o : Option (List Value)) → option_map as_row (slice_get (map as_source (one_or_none rowid o)) 0) ≡ option_map (λ values. (rowid, values)) o
      by None = refl
      by (Some values) = refl

  pub not_found : (rowid : ℤ) (fault : Fault) → FindsOneRow old size table rowid (Err fault) → IsOutside fault
  not_found rowid fault finds = finds schema before after rows sized refl its_trees fit

-- ---- calls

-- a call that was refused before anything changed
pub sets_none : (old new : PageMap) (size : ℕ) (table : Table) (was : TableRow) (values : List Value) (fault : Fault) (result : Result stored.TableRow Fault) → IsErrAnd result (λ e. e ≡ fault) → IsOutsideOrFull fault
    → SetsIn old new size table was values result
sets_none old new size table was values fault (Ok now) same why = absurd same
sets_none old new size table was values fault (Err e) same why = λ l db name t is at stores. inl (subst IsOutsideOrFull (sym same) why)

-- a row is inserted
pub inserts_into : Laws → ListsIndexes → (old new : PageMap) (size : ℕ) (table : Table) (by_column : List (Option ℕ)) (given : List Value) (result : Result stored.TableRow Fault)
    → InsertsOneRow old new size table by_column given result → InsertsInto old new size table by_column given result
inserts_into laws indexes old new size table by_column given result inserts l db name t places is set = row_inserts old size l db name table t is laws indexes by_column places given set new result inserts

-- a row that is there is set
pub sets_in : Laws → ListsIndexes → (old new : PageMap) (size : ℕ) (table : Table) (was : TableRow) (given : List Value) (source : Row) (result : Result stored.TableRow Fault) → source ≡ as_source was
    → TurnsRow old new size table (literals 0 given) source result → SetsIn old new size table was given result
sets_in laws indexes old new size table was given source result from turns l db name t is at stores =
    row_sets old size l db name table t is laws indexes was.0 was.1 given at stores new source result from turns

-- a row that is there is taken out
pub takes_from : Laws → (old new : PageMap) (size : ℕ) (table : Table) (was : TableRow) (result : Result ⊤ Fault) → TakesOneRow old new size table was result → TakesFrom old new size table was result
takes_from laws old new size table was result takes l db name t is at = row_takes old size l db name table t is laws was.0 was.1 at new result takes

-- the row of a rowid is found
pub finds_none : (old : PageMap) (size : ℕ) (table : Table) (rowid : ℤ) (fault : Fault) (result : Result (Option stored.TableRow) Fault) → IsErrAnd result (λ e. e ≡ fault) → FindsOneRow old size table rowid (Err fault)
    → FindsIn old size table rowid result
finds_none old size table rowid fault (Ok it) same finds = absurd same
finds_none old size table rowid fault (Err e) same finds = λ l db name t is. subst IsOutside (sym same) (not_found old size l db name table t is rowid fault finds)

pub finds_in : (old : PageMap) (size : ℕ) (table : Table) (rowid : ℤ) (them : List Row) (result : Result (Option stored.TableRow) Fault) → FindsOneRow old size table rowid (Ok them)
    → IsOrMemory (λ found. option_map row_of found ≡ option_map as_row (slice_get them 0)) result → FindsIn old size table rowid result
finds_in old size table rowid them (Ok it) finds copied = λ l db name t is. copied ∙ found_so old size l db name table t is rowid them finds
finds_in old size table rowid them (Err fault) finds memory = λ l db name t is. inl memory

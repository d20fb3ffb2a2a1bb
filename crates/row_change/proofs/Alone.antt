-- Rows that UNIQUE indexes keep apart, by the indexes of the database and by those that are listed.
use Rattle.std.proofs.Common.{◌≡◌, refl, sym, ap, ◌∙◌, Bool, true, false, ◌&&◌, ◌||◌, not, cond, if◌then◌else◌, List, [], ◌∷◌, ℤ, Option, Some, None, Ok, Err}
use Rattle.std.proofs.lemmas.Bool.{false≢true}
use Rattle.std.specs.FinMap.Entries.{put, find, by_order}
use Rattle.std.specs.List.{cons_option, list_any}
use Rattle.std.specs.Ordering.{eq_by_cmp, is_eq}
use Rattle.std.specs.declared.cmp.Ordering.{Ordering}
use Rattle.std.specs.declared.cmp.Ordering.TheVariants.{Less, Equal, Greater}
use Rattle.sqlval.specs.Names.{folded, is_same_name}
use Rattle.sqlval.specs.Refusals.{Answer, NoSuch}
use Rattle.sqlval.specs.declared.value.Value.{Value}
use Rattle.catalog.specs.Database as database
use Rattle.catalog.specs.Database.{Name, Database, Object, ATable, AnIndex, AView, ATrigger, Index, indexes_of, name_order, object, with_object}
use Rattle.catalog.specs.Listed.{as_index, with_rows}
use Rattle.catalog.specs.declared.tables.Index.{Index as ListedIndex}
use Rattle.catalog.specs.declared.tables.Table.{Table}
use Rattle.query_names.specs.Keys.{clash}
use Rattle.row_scan.specs.Rows.{TableRow}
use Rattle.row_change.specs.Agreement.{HasIndexesOf, has_unique}
use Rattle.row_change.specs.Constraints.{is_unique_in, table_of}
use Rattle.row_change.specs.Demands.{is_alone}

-- a row is alone as the definition has it, and as the listed indexes have it
pub alone_is : (db : Database) (name : Name) (table : Table) (rowid : ℤ) (values : List Value) (rows : List TableRow) → HasIndexesOf db name table
    → is_unique_in (indexes_of db name) values (with_rows table rows) ≡ is_alone table (rowid, values) rows
alone_is db name table rowid values rows has = ap not (has (λ i. list_any (λ (r : TableRow). clash i values r.1) rows))

-- ---- a table in place of a table

-- no index stands there
abbrev IsNoIndex : Option Object → Type 0
IsNoIndex found = (i : Index) → found ≡ Some (AnIndex i) → ⊥

indexes_put : (k name : Name) (t : database.Table) (db : Database) → IsNoIndex (find name_order k db) → indexes_of (put name_order k (ATable t) db) name ≡ indexes_of db name
indexes_put k name t [] none = refl
indexes_put k name t (e ∷ es) none = by (name_order k e.0) refl (indexes_put k name t es)
  where
    here : (b : Bool) → eq_by_cmp name_order k e.0 ≡ b → IsNoIndex (cond b (Some e.1) (find name_order k es))
    here b is i found = none i (ap (λ c. cond c (Some e.1) (find name_order k es)) is ∙ found)

    -- what stands there is no index
    replaced : (o : Object) → IsNoIndex (Some o) → indexes_of es name ≡ indexes_of ((e.0, o) ∷ es) name
    replaced (ATable u) apart = refl
    replaced (AnIndex i) apart = absurd (apart i refl)
    replaced (AView v) apart = refl
    replaced (ATrigger g) apart = refl

    after : (o : Object) (front : Database) → indexes_of front name ≡ indexes_of es name → indexes_of ((e.0, o) ∷ front) name ≡ indexes_of ((e.0, o) ∷ es) name
    after (ATable u) front same = same
    after (AnIndex i) front same = ap (cons_option (if is_same_name i.table name then Some (e.0, i) else None)) same
    after (AView v) front same = same
    after (ATrigger g) front same = same

    by : (o : Ordering) → name_order k e.0 ≡ o → (IsNoIndex (find name_order k es) → indexes_of (put name_order k (ATable t) es) name ≡ indexes_of es name)
        → indexes_of (by_order o ((k, ATable t) ∷ e ∷ es) ((e.0, ATable t) ∷ es) (e ∷ put name_order k (ATable t) es)) name ≡ indexes_of (e ∷ es) name
    by Less is more = refl
    by Equal is more = replaced e.1 (here true (ap is_eq is))
    by Greater is more = after e.1 (put name_order k (ATable t) es) (more (here false (ap is_eq is)))

abbrev table_in : Option Object → Answer database.Table
table_in o = elim o [ Some (ATable t) ↦ Ok t | _ ↦ Err NoSuch ]

no_index : (found : Option Object) (t : database.Table) → table_in found ≡ Ok t → IsNoIndex found
no_index (Some (ATable u)) t e i h = absurd cc
no_index (Some (AnIndex j)) t e i h = absurd cc
no_index (Some (AView v)) t e i h = absurd cc
no_index (Some (ATrigger g)) t e i h = absurd cc
no_index None t e i h = absurd cc

-- with other rows of a table the database has the same indexes on it
pub indexes_stay : (db : Database) (name : Name) (table : Table) (t u : database.Table) → table_of db name ≡ Ok t → HasIndexesOf db name table → HasIndexesOf (with_object db name (ATable u)) name table
indexes_stay db name table t u is has test =
    ap (list_any (λ (i : Name × Index). test i.1)) (indexes_put (folded name) name u db (no_index (object db name) t is)) ∙ has test

-- ---- without a UNIQUE index

neither : (a b : Bool) → (a || b) ≡ false → (a ≡ false) × (b ≡ false)
neither true b h = absurd (false≢true (sym h))
neither false b h = (refl, h)

first_false : (a b c : Bool) → a ≡ false → (a && b && c) ≡ false
first_false a b c e = ap (λ a. a && b && c) e

both_false : (a b : Bool) → a ≡ false → b ≡ false → (a || b) ≡ false
both_false a b e f = ap (λ a. a || b) e ∙ f

never : (i : Index) (values : List Value) (rows : List TableRow) → i.is_unique ≡ false → list_any (λ (r : TableRow). clash i values r.1) rows ≡ false
never i values [] plain = refl
never i values (r ∷ rows) plain = both_false (clash i values r.1) (list_any (λ (r : TableRow). clash i values r.1) rows) (first_false i.is_unique _ _ plain) (never i values rows plain)

none_clash : (table : Table) (row : TableRow) (rows : List TableRow) (is : List ListedIndex) → list_any (λ i. i.is_unique) is ≡ false
    → list_any (λ i. list_any (λ (r : TableRow). clash (as_index table i) row.1 r.1) rows) is ≡ false
none_clash table row rows [] none = refl
none_clash table row rows (i ∷ is) none =
    let both = neither i.is_unique (list_any (λ i. i.is_unique) is) none in
    ap (λ b. b || list_any (λ i. list_any (λ (r : TableRow). clash (as_index table i) row.1 r.1) rows) is) (never (as_index table i) row.1 rows both.0) ∙ none_clash table row rows is both.1

pub free_alone : (table : Table) (row : TableRow) (rows : List TableRow) → has_unique table ≡ false → is_alone table row rows ≡ true
free_alone table row rows none = ap not (none_clash table row rows table.indexes none)

-- The tables that the schema's rows tell, each with its indexes: which of them a name finds, and on which an index is.
use Rattle.std.proofs.Common.{◌≡◌, inl, inr, refl, sym, ap, ◌∙◌, ℕ, Bool, true, false, cond, List, [], ◌∷◌, map, Option, Some, None}
use Rattle.std.proofs.lemmas.Bool.{false≢true}
use Rattle.std.specs.FinMap.Entries.{find}
use Rattle.std.specs.List.{AllByRecursion}
use Rattle.std.specs.Prelude.{⊤}
use Rattle.sqlval.specs.Names.{folded, is_same_name}
use Rattle.pages.specs.Map.{PageMap}
use Rattle.catalog.specs.Database as database
use Rattle.catalog.specs.Database.{Name, Database, Object, ATable, AnIndex, AView, ATrigger, name_order, object}
use Rattle.catalog.specs.Listed.{Listed, as_view, table_named}
use Rattle.sql_syntax.specs.declared.create.TriggerDefinition.{TriggerDefinition}
use Rattle.catalog.specs.declared.tables.Table.{Table}
use Rattle.catalog.specs.declared.tables.Trigger.{Trigger}
use Rattle.catalog.specs.declared.tables.View.{View}
use Rattle.db_pages.proofs.StoredShares.{GoesWithOne, theirs}
use Rattle.db_pages.proofs.StoredNames.{Misses, named_same, same_named, same_some, some_is_none}
use Rattle.db_pages.proofs.StoredListings.{IndexItem, IndexListing, IsIndexListing, IsItem, IsListing, IsTriggerListing, IsViewListing, Item, Listing, TableItem, TriggerItem, ViewItem, index_there, row_of, rows_in}
use Rattle.db_pages.proofs.StoredApart.{NamesApart, all_both, all_so, indexes_among, of_indexes, of_items, of_tables, of_triggers, of_views, onto_names, other_name, row_names, row_named, tables_among, triggers_among, views_among}

-- the index is on the table
abbrev pub is_on : Listing → IndexListing → Bool
is_on l i = is_same_name l.table.name i.on

-- the table with those of the indexes that are on it
abbrev pub with_indexes : List IndexListing → Listing → Table
with_indexes indexes l = record l.table { indexes = map (λ i. i.index) (theirs is_on indexes l) }

-- the tables of the items, each with its indexes
abbrev pub tables_in : List Item → List Table
tables_in items = map (with_indexes (indexes_among items)) (tables_among items)

-- and the views
abbrev pub views_in : List Item → List View
views_in items = map (λ l. l.view) (views_among items)

-- and the triggers
abbrev pub triggers_in : List Item → List Trigger
triggers_in items = map (λ l. l.trigger) (triggers_among items)

-- all that the items tell
abbrev pub all_listed : List Item → Listed
all_listed items = record { tables = tables_in items; views = views_in items; triggers = triggers_in items }

-- what holds of all indexes on a table
pub all_theirs : (P : IndexListing → Type 0) (l : Listing) (indexes : List IndexListing) → AllByRecursion (λ i. is_on l i ≡ true → P i) indexes → AllByRecursion P (theirs is_on indexes l)
all_theirs P l [] all = tt
all_theirs P l (i ∷ indexes) all = by_test (is_on l i) refl (all_theirs P l indexes all.1)
  where
    by_test : (b : Bool) → is_on l i ≡ b → AllByRecursion P (theirs is_on indexes l) → AllByRecursion P (cond b (i ∷ theirs is_on indexes l) (theirs is_on indexes l))
    by_test true is rest = (all.0 is, rest)
    by_test false is rest = rest

module _ (indexes : List IndexListing) where
  abbrev pub listed : List Listing → List Table
  listed tables = map (with_indexes indexes) tables

  -- what is found under a name is one of them, of which this holds
  pub record IsFoundWith (P : Listing → Type 0) (name : Name) (t : Table) : Type 0 where
    pub l : Listing
    pub holds : P l
    pub table_is : with_indexes indexes l ≡ t
    pub same : folded l.table.name ≡ folded name

  pub found_with : (P : Listing → Type 0) (tables : List Listing) (name : Name) (t : Table) → AllByRecursion P tables → table_named name (listed tables) ≡ Some t → IsFoundWith P name t
  found_with P [] name t all found = some_is_none t (sym found)
  found_with P (l ∷ tables) name t all found = by_test (found_with P tables name t all.1) (is_same_name l.table.name name) refl found
    where
      by_test : (table_named name (listed tables) ≡ Some t → IsFoundWith P name t) → (b : Bool) → is_same_name l.table.name name ≡ b
          → cond b (Some (with_indexes indexes l)) (table_named name (listed tables)) ≡ Some t → IsFoundWith P name t
      by_test rest true is found = record { l = l; holds = all.0; table_is = same_some (with_indexes indexes l) t found; same = named_same l.table.name name is }
      by_test rest false is found = rest found

  -- where none is found under a name, none has it
  pub none_named : (tables : List Listing) (name : Name) → table_named name (listed tables) ≡ None → AllByRecursion (λ l. folded l.table.name ≡ folded name → ⊥) tables
  none_named [] name none = tt
  none_named (l ∷ tables) name none = by_test (none_named tables name) (is_same_name l.table.name name) refl none
    where
      by_test : (table_named name (listed tables) ≡ None → AllByRecursion (λ l. folded l.table.name ≡ folded name → ⊥) tables) → (b : Bool) → is_same_name l.table.name name ≡ b
          → cond b (Some (with_indexes indexes l)) (table_named name (listed tables)) ≡ None → AllByRecursion (λ l. folded l.table.name ≡ folded name → ⊥) (l ∷ tables)
      by_test rest true is none = some_is_none (with_indexes indexes l) none
      by_test rest false is none = ((λ same. false≢true (sym is ∙ same_named l.table.name name same)), rest none)

  -- each is found under its own name
  abbrev pub IsFoundIn : List Listing → Listing → Type 0
  IsFoundIn tables l = (name : Name) → is_same_name l.table.name name ≡ true → table_named name (listed tables) ≡ Some (with_indexes indexes l)

  pub each_found : (tables : List Listing) → NamesApart tables → AllByRecursion (IsFoundIn tables) tables
  each_found [] apart = tt
  each_found (m ∷ tables) apart = (
    (λ name is. ap (λ b. cond b (Some (with_indexes indexes m)) (table_named name (listed tables))) is),
    all_both (λ l. folded m.table.name ≡ folded l.table.name → ⊥) (IsFoundIn tables) (IsFoundIn (m ∷ tables))
        (λ l other found name is.
        ap (λ b. cond b (Some (with_indexes indexes m)) (table_named name (listed tables)))
        (other_name m.table.name name (λ same. other (same ∙ sym (named_same l.table.name name is)))) ∙ found name is)
        tables apart.0 (each_found tables apart.1),
  )

  -- an index whose table is found is on that one alone
  pub on_one : (i : IndexListing) (tables : List Listing) (t : Table) → NamesApart tables → table_named i.on (listed tables) ≡ Some t → GoesWithOne is_on i tables
  on_one i [] t apart found = some_is_none t (sym found)
  on_one i (l ∷ tables) t apart found = by_test (on_one i tables t apart.1) (is_on l i) refl found
    where
      by_test : (table_named i.on (listed tables) ≡ Some t → GoesWithOne is_on i tables) → (b : Bool) → is_on l i ≡ b
          → cond b (Some (with_indexes indexes l)) (table_named i.on (listed tables)) ≡ Some t → GoesWithOne is_on i (l ∷ tables)
      by_test rest true is found = inl (
        is,
        all_so (λ m. folded l.table.name ≡ folded m.table.name → ⊥) (λ m. is_on m i ≡ false)
            (λ m other. other_name m.table.name i.on (λ same. other (named_same l.table.name i.on is ∙ sym same))) tables apart.0,
      )
      by_test rest false is found = inr (is, rest found)

-- ---- the table of an index

table_is_index : {B : Type 0} (t : database.Table) (i : database.Index) → Some (ATable t) ≡ Some (AnIndex i) → B
table_is_index t i e = absurd cc

table_is_view : {B : Type 0} (t : database.Table) (v : database.View) → Some (ATable t) ≡ Some (AView v) → B
table_is_view t v e = absurd cc

table_is_trigger : {B : Type 0} (t : database.Table) (d : TriggerDefinition) → Some (ATable t) ≡ Some (ATrigger d) → B
table_is_trigger t d e = absurd cc

-- its table is one of them
pub record IsHome (items : List Item) (i : IndexListing) : Type 0 where
  pub t : Table
  pub found : table_named i.on (tables_in items) ≡ Some t

-- of an index, that its table is one of them
abbrev pub HasHome : List Item → Item → Type 0
HasHome items (TableItem l) = ⊤
HasHome items (IndexItem i) = IsHome items i
HasHome items (ViewItem l) = ⊤
HasHome items (TriggerItem l) = ⊤

module _ (pages : PageMap) (size : ℕ) (db : Database) (items : List Item) (each : AllByRecursion (IsItem pages size db) items)
    (missed : (q : Name) → Misses q (row_names (rows_in items)) → find name_order q db ≡ None) where
  -- a name that finds a table is that of a listed one
  none_else : (name : Name) (t : database.Table) → object db name ≡ Some (ATable t) → table_named name (tables_in items) ≡ None → ⊥
  none_else name t found none =
      some_is_none (ATable t) (sym found ∙ missed (folded name) (onto_names (λ n. folded name ≡ n → ⊥) items
      (of_items (λ item. folded name ≡ folded (row_of item).name → ⊥) items
      (all_both (IsListing pages size db) (λ l. folded l.table.name ≡ folded name → ⊥) (λ l. folded name ≡ folded l.row.name → ⊥)
      (λ l is other same. other (sym (same ∙ row_named pages size db l is))) (tables_among items) (of_tables (IsItem pages size db) items each)
      (none_named (indexes_among items) (tables_among items) name none))
      (all_so (IsIndexListing pages size db) (λ l. folded name ≡ folded l.row.name → ⊥)
      (λ l is same. table_is_index t (index_there l) (sym found ∙ (ap (λ n. find name_order n db) same ∙ is.found))) (indexes_among items)
      (of_indexes (IsItem pages size db) items each))
      (all_so (IsViewListing db) (λ l. folded name ≡ folded l.row.name → ⊥)
      (λ l is same. table_is_view t (as_view l.view) (sym found ∙ (ap (λ n. find name_order n db) same ∙ is.found))) (views_among items)
      (of_views (IsItem pages size db) items each))
      (all_so (IsTriggerListing db) (λ l. folded name ≡ folded l.row.name → ⊥)
      (λ l is same. table_is_trigger t l.trigger.definition (sym found ∙ (ap (λ n. find name_order n db) same ∙ is.found))) (triggers_among items)
      (of_triggers (IsItem pages size db) items each)))))

  pub home : (i : IndexListing) → IsIndexListing pages size db i → IsHome items i
  home i is = by_found (table_named i.on (tables_in items)) refl
    where
      by_found : (found : Option Table) → table_named i.on (tables_in items) ≡ found → IsHome items i
      by_found (Some t) found = record { t = t; found = found }
      by_found None found = absurd (none_else i.on is.t is.on found)

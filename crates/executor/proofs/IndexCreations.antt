-- What a CREATE INDEX comes to on the database that pages hold.
use Rattle.std.proofs.Common.{◌≡◌, ◌⊎◌, ◌<◌, ◌≤◌, ◌+◌, inl, inr, refl, sym, ap, subst, ◌∙◌, ℕ, zero, suc, ℤ, pos, Bool, true, false, if◌then◌else◌, codes, map, List, [], ◌∷◌, ◌++◌, append_assoc, length, None, Some, Ok, Err, arith}
use Rattle.std.specs.Prelude.{Contains}
use Rattle.std.proofs.lemmas.Bool.{cases_eq, cases_lt}
use Rattle.std.proofs.lemmas.Grind.{common_steps}
use Rattle.std.proofs.lemmas.List.{length-map}
use Rattle.std.specs.List.{AllByRecursion}
use Rattle.sqlval.specs.Names.{folded}
use Rattle.sqlval.specs.Refusals.{Refusal, Unique, refusal_of}
use Rattle.sqlval.specs.declared.collation.Collation.{Collation}
use Rattle.sqlval.specs.declared.fault.Fault.{Fault}
use Rattle.sqlval.specs.declared.fault.Fault.TheVariants as fault
use Rattle.sql_syntax.specs.declared.create.IndexDefinition.{IndexDefinition}
use Rattle.sql_syntax.specs.declared.create.NewObject.TheVariants as object
use Rattle.sql_syntax.specs.declared.statement.Statement.{Statement}
use Rattle.sql_syntax.specs.declared.statement.Statement.TheVariants as statement
use Rattle.pages.specs.Calls.{IsOutsideOrFull}
use Rattle.pages.specs.Counting.{occurs, fresh}
use Rattle.pages.specs.Map.{PageMap}
use Rattle.pages.proofs.Moving.{occurs_append}
use Rattle.tree_table.specs.Calls.{Stands}
use Rattle.tree_table.specs.Rows.{payload_at, with_row}
use Rattle.tree_index.specs.Entries.{Entry as IndexEntry}
use Rattle.tree_index.specs.Tree.{IsIndexTree}
use Rattle.db_layout.specs.Layout.{HoldsUnder, IsTree, Owner, ReplacesTrees, TreesStand, used_by}
use Rattle.catalog.specs.Database as database
use Rattle.catalog.specs.Database.{AnIndex, ATable, ATrigger, AView, Database, Name, with_object, object as object_in}
use Rattle.catalog.specs.Listed.{as_index, is_name_of, is_table, rowids_of, table_named, with_replaced, with_rows, Listed}
use Rattle.catalog.specs.Named.{IsOfListed}
use Rattle.catalog.specs.NewIndexes.{ListsNewIndex, with_index, replacing}
use Rattle.catalog.specs.UnusedRowids.{is_among}
use Rattle.catalog.specs.declared.tables.Index.{Index}
use Rattle.catalog.specs.declared.tables.IndexColumn.{IndexColumn}
use Rattle.catalog.specs.declared.tables.Table.{Table}
use Rattle.query_names.specs.Checked.{Checked, Meant, faults, good, meant}
use Rattle.query_names.specs.Keys.{has_clash}
use Rattle.query_names.specs.Schema.{create, resolve_index_column}
use Rattle.query_names.proofs.ColumnNames.{folded_twice}
use Rattle.query_bind.specs.Indexed.{IsIndexOn, IsIndexRefusal, MakesListedIndex, RefusesIndexAsDefined, key_of}
use Rattle.row_scan.specs.Rows.{TableRow}
use Rattle.db_layout.specs.Trees.{AreTreesOf, HoldsNow, IsEntriesTree}
use Rattle.index_entries.specs.Keeping.{columns_in}
use Rattle.db_write.specs.Changing.{AddsIndex, IsIndexAdded, IsRefusedIndex, index_of, is_wide}
use Rattle.db_pages.specs.Schema.{HasKeyIndexes, IsCreateOf}
use Rattle.db_pages.specs.Stored.{Stores}
use Rattle.executor.specs.Changing.{IsChangeRefusal, IsIndexIn, IsMade}
use Rattle.executor.specs.Listing.{AddsRow, AreTooLong, IsAdded}
use Rattle.executor.specs.Works.{IsRefused, Makes, Reaches, RefusesWith, Work, change_made, clashes_in, clashes_on, index_clashes, made_index, of_known}
use Rattle.executor.proofs.FoundTables.{indexes_listed, table_found}
use Rattle.executor.specs.Holding.{IsListingRefusal, IsListedWith, IsToldBy}
use Rattle.executor.proofs.HeldTrees.{stored_of}
use Rattle.executor.proofs.KeyIndexes.{all_replaced, keys_with_index}
use Rattle.executor.proofs.Owners.{found_among, one_of}
use Rattle.executor.proofs.Roots.{all_apart, used_both, uses_root}
use Rattle.executor.proofs.Targets.{AreFit, fit_with_other, named_as}
use Rattle.executor.proofs.Replacing.{IsSplit, found_in_place, found_is, names_once, same_folded, split_at}
use Rattle.executor.proofs.Wide.{known_long}
use Rattle.executor.proofs.Telling.{AreToldBy, as_rows, as_told, free_at, many_retold, map_append, more_pages, one_more, same_indexes, same_table, told_around, told_as}

-- what follows for every listed database
pub record Laws : Type 0 where
  pub lists : ListsNewIndex
  pub makes : MakesListedIndex
  pub refuses : RefusesIndexAsDefined

abbrev pub creating : List ℕ → IndexDefinition → Statement
creating sql d = statement.Create (record { sql = sql; object = object.Index d })

-- ---- its work

refused_work : (n : Name) (k : Checked Database) (r : Refusal) → Contains (faults k) r → RefusesWith (made_index n (of_known k)) r
refused_work n (Meant db []) r has = absurd (omega (arith, has.1))
refused_work n (Meant db (s ∷ rs)) r has = has

-- what it makes of the listed tables
abbrev pub index_made : Database → IndexDefinition → Table → List IndexColumn → Database
index_made db d t columns = with_object db d.name (AnIndex (record { table = folded d.table; is_unique = d.is_unique; is_automatic = false; columns = map key_of columns }))

-- ---- an index more

last_of : {A : Type 0} (P : A → Type 0) (xs : List A) (x : A) → AllByRecursion P (xs ++ x ∷ []) → P x
last_of P [] x all = all.0
last_of P (y ∷ xs) x all = last_of P xs x all.1

module _ (laws : Laws) (old : PageMap) (size : ℕ) (l : Listed) (db : Database) (held : Stores old size l db) (sql : List ℕ) (d : IndexDefinition) where
  -- its names are refused
  pub refused_names : (f : Fault) → (f ≡ fault.Memory) ⊎ IsIndexRefusal l d (refusal_of f) → IsChangeRefusal (creating sql d) db f
  refused_names f (inl memory) = inl (inl (inl memory))
  refused_names f (inr why) =
      inr (inl (refused_work d.name (create db (object.Index d)) (refusal_of f) (laws.refuses held.rows_at l db d (refusal_of f) held.of_listed.lists why)))

  module _ (t : Table) (columns : List IndexColumn) (is : IsIndexOn l d t columns) where
    own_name : is_table d.table t ≡ true
    own_name = found_is (is_table d.table) l.tables t is.on

    same_name : folded d.table ≡ folded t.name
    same_name = sym (same_folded t.name d.table own_name)

    pub named : table_named t.name l.tables ≡ Some t
    named = named_as l.tables t.name d.table (sym same_name) ∙ is.on

    split : IsSplit t l.tables
    split = split_at (is_table d.table) l.tables t (names_once l held.of_listed.once) is.on

    abbrev rows : List TableRow
    rows = held.rows_at t.root

    -- not listed as yet
    abbrev pub index : Index
    index = record { name = d.name; columns = columns; is_unique = d.is_unique; is_automatic = false; root = 0; rowid = pos 0 }

    pub told : IsCreateOf sql (object.Index d) → IsToldBy t index d.name (Some sql)
    told text = (d, refl, text, record { free = is.free; once = is.once; name_is = refl; on = same_name; unique = refl; written = refl; columns = is.known })

    abbrev with_it : Table
    with_it = with_index index t

    abbrev listed : Listed
    listed = replacing with_it l

    abbrev made : Database
    made = with_object db d.name (AnIndex (as_index t index))

    of_made : IsOfListed held.rows_at listed made
    of_made = laws.lists held.rows_at l db t index held.of_listed named is.new

    made_is : index_made db d t columns ≡ made
    made_is = ap (λ (x : database.Index). with_object db d.name (AnIndex x)) (λ k. record { table = same_name k; is_unique = d.is_unique; is_automatic = false; columns = map key_of columns })

    -- the table in the new database, with its rows
    table_there : object_in made (folded t.name) ≡ Some (ATable (with_rows with_it rows))
    table_there = table_found held.rows_at listed made (folded t.name) with_it of_made.lists (named_as listed.tables (folded t.name) t.name (folded_twice t.name) ∙ found_in_place t with_it refl l.tables named)

    -- two rows clash there as they do for the index that is made
    clash_is : index_clashes made d.name ≡ has_clash (as_index t index) rows
    clash_is =
        ap (clashes_in made) (last_of (IsIndexIn made with_it) t.indexes index (indexes_listed held.rows_at listed made of_made split.before with_it split.after (split.replaced with_it refl)))
        ∙ ap (clashes_on (as_index t index)) table_there

    abbrev made_by : Bool → Work
    made_by clash = if clash then IsRefused (Unique ∷ []) else Makes made

    work_is : (clash : Bool) → has_clash (as_index t index) rows ≡ clash → change_made (creating sql d) db ≡ made_by clash
    work_is clash e =
        ap (λ (k : Checked Database). made_index d.name (of_known k)) (laws.makes held.rows_at l db d t columns held.of_listed.lists is)
        ∙ (ap (λ (x : Database). made_index d.name (Makes x)) made_is ∙ ap made_by (clash_is ∙ e))

    reached : has_clash (as_index t index) rows ≡ false → Reaches (change_made (creating sql d) db) made
    reached apart = subst (λ (w : Work). Reaches w made) (sym (work_is false apart)) refl

    refused_clash : has_clash (as_index t index) rows ≡ true → RefusesWith (change_made (creating sql d) db) Unique
    refused_clash clash = subst (λ (w : Work). RefusesWith w Unique) (sym (work_is true clash)) (0, omega arith, refl)

    -- the definition names as many columns
    columns_long : length columns ≡ length d.columns
    columns_long =
        sym (length-map columns key_of)
        ∙ (sym (ap (λ (k : Checked (List (ℕ × Collation))). length (meant k)) is.known) ∙ (known_long (map (resolve_index_column d.table (with_rows t [])) d.columns) ∙ length-map d.columns (resolve_index_column d.table (with_rows t []))))

    -- why it isn't listed is why the statement is refused
    pub refused : (f : Fault) → IsListingRefusal t index d.name (Some sql) rows f → IsChangeRefusal (creating sql d) db f
    refused f (inl full) = inl full
    refused f (inr (inl full)) = inr (inr (inr (record { is = full; why = tt })))
    refused f (inr (inr (inl (what, clash)))) = inr (inl (subst (λ (g : Fault). RefusesWith (change_made (creating sql d) db) (refusal_of g)) (sym what) (refused_clash clash)))
    refused f (inr (inr (inr (inl (what, wide))))) = inr (inr (inl (record { is = what; why = inl (ap is_wide (sym columns_long) ∙ wide) })))
    refused f (inr (inr (inr (inr (apart, (root, (what, long))))))) = inr (inr (inl (record { is = what; why = inr (record { made = made; reaches = reached apart; long = (t.name, root, sym same_name, long) }) })))

    its_keys : HasKeyIndexes t
    its_keys = let a = found_among (is_table d.table) l.tables t is.on in one_of HasKeyIndexes a.front t a.back (subst (AllByRecursion HasKeyIndexes) a.parts held.keys)

    -- where it is listed, the database is the one that the statement makes
    pub creates : (new : PageMap) (now_listed : Listed) → IsListedWith new size l db t index rows now_listed → IsMade (creating sql d) db new size now_listed
    creates new now_listed is_listed =
        let i : Index = record index { root = is_listed.root; rowid = is_listed.rowid } in record {
          made = made;
          reaches = reached is_listed.apart;
          stored = stored_of new size now_listed made is_listed.holds
              (subst (λ (x : Listed). AllByRecursion HasKeyIndexes x.tables) (sym is_listed.listed) (all_replaced HasKeyIndexes (with_index i t) l.tables (keys_with_index t i refl its_keys) held.keys))
              (subst (λ (x : Listed). AreFit x x.triggers) (sym (is_listed.listed ∙ ap (λ (ts : List Table). record l { tables = ts }) (split.replaced (with_index i t) refl)))
              (fit_with_other l split.before t (with_index i t) split.after split.parts refl refl held.targets));
        }

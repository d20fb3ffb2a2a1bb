-- What a CREATE TABLE comes to on the database that pages hold.
use Rattle.std.proofs.Common.{◌≡◌, ◌⊎◌, ◌≤◌, inl, inr, refl, sym, ap, subst, ◌∙◌, ℕ, ℤ, Bool, true, false, not, ◌||◌, cond, codes, map, List, [], ◌∷◌, ◌++◌, length, take, Option, None, Some, Result, Ok, Err, arith}
use Rattle.std.specs.Prelude.{Contains, IfErr, IsErrAnd, MatchResult, IfOk, flat_map, is_some, option_map}
use Rattle.std.specs.List as list
use Rattle.std.specs.List.{AllByRecursion, list_any}
use Rattle.sqlval.specs.Lists.{any_twice}
use Rattle.sqlval.specs.Names.{folded, is_same_name}
use Rattle.sqlval.specs.PageSizes.{IsPageSize}
use Rattle.sqlval.specs.Refusals.{Refusal, refusal_of}
use Rattle.sqlval.specs.declared.fault.Fault.{Fault}
use Rattle.sqlval.specs.declared.fault.Fault.TheVariants as fault
use Rattle.sql_syntax.specs.declared.create.NewObject.TheVariants as object
use Rattle.sql_syntax.specs.declared.create.TableDefinition.{TableDefinition}
use Rattle.sql_syntax.specs.declared.statement.Statement.{Statement}
use Rattle.sql_syntax.specs.declared.statement.Statement.TheVariants as statement
use Rattle.record.specs.Record.{IsRecord}
use Rattle.record.specs.Writing.{AreStorable}
use Rattle.pages.specs.Calls.{IsOutsideOrFull}
use Rattle.pages.specs.Counting.{occurs}
use Rattle.pages.specs.Map.{PageMap}
use Rattle.freelist.specs.Calls.{AreFree}
use Rattle.tree_table.specs.Calls.{Stands}
use Rattle.tree_table.specs.Freeing.{IsNewTree}
use Rattle.tree_table.specs.Rows.{payload_at, with_row}
use Rattle.tree_table.proofs.LeafTrees.{root_there}
use Rattle.db_layout.specs.Layout.{ReplacesTrees, TreesStand}
use Rattle.catalog.specs.Database.{AnIndex, ATable, Database, Name, Object, with_object}
use Rattle.catalog.specs.Listed.{Lists, as_index, has_index, has_table_name, is_name_of, is_reserved, is_table, key_columns, named_among, names_of, objects_of, with_replaced, with_rows, table_named, treeless_names, Listed, is_trigger, is_view}
use Rattle.catalog.specs.Named.{IsOfListed, KeepsNamed}
use Rattle.catalog.specs.NewTables.{ListsNewTable}
use Rattle.catalog.specs.UnusedRowids.{is_among}
use Rattle.catalog.specs.Listed.{rowids_of}
use Rattle.catalog.specs.declared.tables.Column.{Column}
use Rattle.catalog.specs.declared.tables.Index.{Index}
use Rattle.catalog.specs.declared.tables.Table.{Table}
use Rattle.catalog.proofs.Found.{names_found}
use Rattle.query_names.specs.Checked.{Checked, Meant, faults, good}
use Rattle.query_names.specs.Bound.{IsFaultOf, is_twice_named}
use Rattle.query_names.specs.Creating.{IsCreateRefusal, checks_known, defined, described, has_doubled, table_keys_known}
use Rattle.query_names.specs.Schema.{automatic, automatic_name, create, with_objects}
use Rattle.query_names.proofs.CreatedTables.{makes_table, named_columns, refuses_table}
use Rattle.row_scan.specs.Rows.{TableRow}
use Rattle.db_pages.specs.Reordering.{AreReordered}
use Rattle.db_pages.specs.Schema.{AreRowsOf, HasKeyIndexes, IndexTold, IsCreateOf, IsTableRow, TableTold, all_told, automatic_objects, due_objects, schema_row, tables_told}
use Rattle.db_pages.proofs.Reordering.{reordered_is, reordered_refl}
use Rattle.db_pages.specs.Stored.{Stores}
use Rattle.executor.specs.Changing.{IsChangeRefusal, IsMade}
use Rattle.executor.specs.Listing.{AreTooLong, IsAdded, IsNewTable}
use Rattle.executor.specs.Works.{Reaches, RefusesWith, change_made, of_known}
use Rattle.executor.proofs.FoundTables.{names, names_are, neither, no_no, same_bytes}
use Rattle.executor.specs.Holding.{AreNewNames, HoldsListed, HoldsTrees, IsKeyRefusal, IsKeyed}
use Rattle.executor.proofs.HeldTrees.{none_there, page_size, rows_here, rows_with, schema_stands, stored_of, trees_held, with_schema, with_table}
use Rattle.executor.proofs.KeyCreations.{all_automatic, take_due}
use Rattle.executor.proofs.KeyIndexes.{all_replaced, some_keys, wide_keys}
use Rattle.executor.proofs.NewNames.{automatic_names_are_new, not_reserved}
use Rattle.executor.proofs.Replacing.{turned}
use Rattle.executor.proofs.Roots.{found_root, roots_of}
use Rattle.executor.proofs.Targets.{AreFit, fit_with_other, fit_with_table, no_view}
use Rattle.executor.proofs.Telling.{as_rows, as_told, free_at, more_pages, one_more, treeless_told}

-- what follows for every listed database, and for the trees of its file
pub record Laws : Type 0 where
  pub lists : ListsNewTable
  pub named : KeepsNamed
  pub stand : TreesStand
  pub give_way : ReplacesTrees

abbrev pub creating : List ℕ → TableDefinition → Statement
creating sql d = statement.Create (record { sql = sql; object = object.Table d })

-- ---- its work

pub refused_work : (k : Checked Database) (r : Refusal) → Contains (faults k) r → RefusesWith (of_known k) r
refused_work (Meant db []) r has = absurd (omega (arith, has.1))
refused_work (Meant db (s ∷ rs)) r has = has

-- the database with the table, and with the indexes that its keys ask for
abbrev pub bare_made : Database → TableDefinition → Table → Database
bare_made db d t = with_object db d.name (ATable (with_rows t []))

abbrev pub made_of : Database → TableDefinition → Table → Database
made_of db d t = with_objects (bare_made db d t) (due_objects t)

pub reached : (sql : List ℕ) (db : Database) (rows_at : ℕ → List TableRow) (l : Listed) (d : TableDefinition) (t : Table) → IsOfListed rows_at l db → IsNewTable l d t
    → Reaches (change_made (creating sql d) db) (made_of db d t)
reached sql db rows_at l d t of_listed new =
    subst (λ (k : Checked Database). Reaches (of_known k) (made_of db d t))
    (sym (makes_table rows_at l db d t of_listed.lists (record { free = new.makes.free; new = new.new; once = new.makes.once }) new.makes.columns new.makes.checks new.makes.keys
    ∙ ap (λ (n : Name). good (with_objects (bare_made db d t) (automatic n 1 (map key_columns t.keys)))) (sym new.makes.name_is))) refl

-- ---- names that none has

-- an object isn't found by a name that none has
pub own : (name : Name) (os : List (Name × Object)) → named_among name os ≡ None → list_any (is_same_name name) (names os) ≡ false
own name [] none = refl
own name (o ∷ os) none = by_test (own name os) (is_same_name o.0 name) refl none
  where
    not_found : option_map (λ (x : Name × Object). x.1) (Some o) ≡ None → ⊥
    not_found h = absurd cc

    by_test : (named_among name os ≡ None → list_any (is_same_name name) (names os) ≡ false) → (b : Bool) → is_same_name o.0 name ≡ b
        → option_map (λ (x : Name × Object). x.1) (cond b (Some o) (list.find (λ (x : Name × Object). is_same_name x.0 name) os)) ≡ None → (is_same_name name o.0 || list_any (is_same_name name) (names os)) ≡ false
    by_test rest true e none = absurd (not_found none)
    by_test rest false e none = ap (λ b. b || list_any (is_same_name name) (names os)) (turned o.0 name e) ∙ rest none

none_some : {A : Type 0} (o : Option A) → is_some o ≡ false → o ≡ None
none_some None h = refl
none_some (Some x) h = absurd cc

-- a name that is new is none of those that there are
pub none_named : (rows_at : ℕ → List TableRow) (l : Listed) (name : Name) → is_name_of l name ≡ false → list_any (is_same_name name) (names_of l) ≡ false
none_named rows_at l name new =
    subst (λ (ns : List Name). list_any (is_same_name name) ns ≡ false) (names_are rows_at l)
    (own name (objects_of rows_at l) (none_some (named_among name (objects_of rows_at l)) (names_found rows_at name l ∙ new)))

-- and no table has it
none_has : (tables : List Table) (name : Name) → list_any (has_table_name name) tables ≡ false → table_named name tables ≡ None
none_has [] name new = refl
none_has (t ∷ ts) name new =
    let both = neither (has_table_name name t) (list_any (has_table_name name) ts) new in
    let own = neither (is_table name t) (has_index name t) both.0 in
    ap (λ b. cond b (Some t) (table_named name ts)) own.0 ∙ none_has ts name both.1

pub no_table : (l : Listed) (name : Name) → is_name_of l name ≡ false → table_named name l.tables ≡ None
no_table l name new = none_has l.tables name (neither (list_any (has_table_name name) l.tables) (list_any (is_view name) l.views || list_any (is_trigger name) l.triggers) new).0

-- nor is one replaced
replaces_none : (new : Table) (tables : List Table) → list_any (has_table_name new.name) tables ≡ false → with_replaced new tables ≡ tables
replaces_none new [] none = refl
replaces_none new (t ∷ ts) none =
    let both = neither (has_table_name new.name t) (list_any (has_table_name new.name) ts) none in
    ap (λ b. cond b new t ∷ with_replaced new ts) (neither (is_table new.name t) (has_index new.name t) both.0).0 ∙ ap (λ us. t ∷ us) (replaces_none new ts both.1)

-- with a table more, before the others
abbrev pub more : Listed → Table → Listed
more l t = record l { tables = t ∷ l.tables }

bare_names : (t : Table) (l : Listed) → t.indexes ≡ [] → names_of (more l t) ≡ t.name ∷ names_of l
bare_names t l bare = ap
    (λ (is : List Index). map (λ (u : Table). u.name) (t ∷ l.tables)
    ++ (treeless_names l ++ (map (λ (i : Index). i.name) is ++ flat_map (λ (u : Table). map (λ (i : Index). i.name) u.indexes) l.tables))) bare

-- ---- a table more

module _ (laws : Laws) (old : PageMap) (size : ℕ) (l : Listed) (db : Database) (held : Stores old size l db) (sql : List ℕ) (d : TableDefinition) where
  -- its definition is refused
  pub refused_definition : (f : Fault) → (f ≡ fault.Memory) ⊎ IsCreateRefusal l d (refusal_of f) → IsChangeRefusal (creating sql d) db f
  refused_definition f (inl memory) = inl (inl (inl memory))
  refused_definition f (inr why) = inr (inl (refused_work (create db (object.Table d)) (refusal_of f) (refuses_table held.rows_at l db d (refusal_of f) held.of_listed.lists why)))

  abbrev trees : HoldsTrees old size held.rows_at l.tables held.schema
  trees = trees_held old size l db held

  pub size_is : IsPageSize size
  size_is = page_size old size held.rows_at l.tables held.schema trees

  pub are_free : AreFree old size held.free
  are_free = (schema_stands old size held.rows_at l.tables held.schema trees laws.stand).free_are

  pub none_at : (rowid : ℤ) → is_among rowid (rowids_of l) ≡ false → payload_at rowid held.schema ≡ None
  none_at rowid unused = free_at (length old) l held.schema rowid held.tell unused

  module _ (t : Table) (new_table : IsNewTable l d t) (mid : PageMap) (root : ℕ) (root_is : t.root ≡ root) (tree : IsNewTree old mid size held.free root) where
    abbrev then_trees : HoldsTrees mid size (rows_with held.rows_at root []) (t ∷ l.tables) held.schema
    then_trees = with_table old size held.rows_at l.tables held.schema trees laws.give_way mid root tree t root_is new_table.bare

    pub schema_then : Stands mid size 1 held.schema held.schema_used tree.now_free
    schema_then = schema_stands mid size (rows_with held.rows_at root []) (t ∷ l.tables) held.schema then_trees laws.stand

    -- its row isn't added
    pub refused_row : (f : Fault) → IsOutsideOrFull f ⊎ AreTooLong (schema_row (codes "table") d.name d.name root (Some sql)) f → IsChangeRefusal (creating sql d) db f
    refused_row f (inl full) = inl full
    refused_row f (inr (what, long)) = inr (inr (inl (record {
      is = what;
      why = inr (record {
        made = made_of db d t;
        reaches = reached sql db held.rows_at l d t held.of_listed new_table;
        long = (root, inl long);
      });
    })))

    module _ (text : IsCreateOf sql (object.Table d)) (new : PageMap) (unused : is_among t.rowid (rowids_of l) ≡ false)
        (added : IsAdded mid new size (schema_row (codes "table") d.name d.name root (Some sql)) held.schema held.schema_used tree.now_free t.rowid) where
      longer : length mid ≤ length new
      longer = added.becomes.moves.longer

      new_row : IsTableRow (length new) t added.entry
      new_row = record {
        sql = sql;
        definition = d;
        creates = text;
        makes = new_table.makes;
        rowid_is = added.rowid_is;
        row_is = record {
          above = omega (arith, root_is, tree.after);
          within = let there = (root_there mid size root [] (root ∷ []) tree.stands.tree).last in omega (arith, root_is, there, longer);
          name = d.name;
          name_is = refl;
          table_name = d.name;
          table_name_is = refl;
          row_is = subst (λ (n : ℕ). IsRecord added.entry.payload (schema_row (codes "table") d.name d.name n (Some sql))) (sym root_is) added.is;
        };
      }

      all_are : all_told (more l t) ≡ TableTold t ∷ all_told l
      all_are = ap (λ (is : List Index). ((TableTold t ∷ map (λ i. IndexTold t i) is) ++ tables_told l.tables) ++ treeless_told l) new_table.bare

      told : AreRowsOf (length new) (more l t) (with_row added.entry held.schema)
      told = as_rows (length new) (more l t) (TableTold t ∷ all_told l) (with_row added.entry held.schema) all_are
          (one_more (length new) [] (all_told l) (TableTold t) added.entry held.schema
          (more_pages (length old) (length new) (let first = tree.moves.longer in omega (arith, first, longer)) (all_told l) held.schema (as_told (length old) l held.schema held.tell))
          (subst (λ z. payload_at z held.schema ≡ None) (sym added.rowid_is) (none_at t.rowid unused)) new_row)

      name_is : t.name ≡ d.name
      name_is = new_table.makes.name_is

      new_name : is_name_of l t.name ≡ false
      new_name = subst (λ (n : Name). is_name_of l n ≡ false) (sym name_is) new_table.new

      unused_root : (name : Name) (u : Table) → table_named name l.tables ≡ Some u → u.root ≡ t.root → ⊥
      unused_root name u found same =
          let there = found_root (is_table name) l.tables u found in
          let at = subst (λ n. 1 ≤ occurs n (roots_of l.tables)) (same ∙ root_is) there in
          let none = none_there old size held.rows_at l.tables held.schema trees laws.give_way mid root tree in
          absurd (omega (arith, at, none))

      lists_more : Lists (rows_with held.rows_at root []) (more l t) (with_object db t.name (ATable (with_rows t [])))
      lists_more = subst (λ (n : ℕ). Lists (rows_with held.rows_at n []) (more l t) (with_object db t.name (ATable (with_rows t [])))) root_is
          (laws.lists held.rows_at [] l.tables l db t held.of_listed.lists new_table.bare (no_table l t.name new_name) unused_root)

      of_more : IsOfListed (rows_with held.rows_at root []) (more l t) (with_object db t.name (ATable (with_rows t [])))
      of_more = record {
        lists = lists_more;
        named = laws.named db t.name (ATable (with_rows t [])) held.of_listed.named;
        once = ap not (ap (any_twice is_same_name) (bare_names t l new_table.bare)
            ∙ (ap (λ b. b || any_twice is_same_name (names_of l)) (none_named held.rows_at l t.name new_name) ∙ no_no (any_twice is_same_name (names_of l)) held.of_listed.once));
      }

      -- the pages hold the table, without the indexes of its keys
      abbrev holds_more : HoldsListed new size (more l t) (bare_made db d t)
      holds_more = record {
        rows_at = rows_with held.rows_at root [];
        of_listed = subst (λ (n : Name). IsOfListed (rows_with held.rows_at root []) (more l t) (with_object db n (ATable (with_rows t [])))) name_is of_more;
        schema = with_row added.entry held.schema;
        tell = told;
        trees = with_schema mid size (rows_with held.rows_at root []) (t ∷ l.tables) held.schema then_trees laws.give_way new (with_row added.entry held.schema) added.becomes;
      }

      named_first : table_named t.name (t ∷ l.tables) ≡ Some t
      named_first = ap (λ (b : Bool). cond b (Some t) (table_named t.name l.tables)) (same_bytes (folded t.name))

      -- nor has it rows, and the names of those indexes are new
      new_names : AreNewNames (more l t) t.name
      new_names number =
          ap (λ (b : Bool). ((b || has_index (folded (automatic_name t.name number)) t) || list_any (has_table_name (folded (automatic_name t.name number))) l.tables) || (list_any (is_view (folded (automatic_name t.name number))) l.views || list_any (is_trigger (folded (automatic_name t.name number))) l.triggers))
          (not_reserved t.name t.name number (subst (λ (n : Name). is_reserved n ≡ false) (sym name_is) new_table.makes.free))
          ∙ (ap (λ (is : List Index). (list_any (λ (i : Index). is_same_name i.name (folded (automatic_name t.name number))) is || list_any (has_table_name (folded (automatic_name t.name number))) l.tables) || (list_any (is_view (folded (automatic_name t.name number))) l.views || list_any (is_trigger (folded (automatic_name t.name number))) l.triggers)) new_table.bare
          ∙ automatic_names_are_new (length old) l held.schema held.tell held.keys t.name new_name number)

      -- what listing the indexes of its keys comes to
      pub lists_keys : {X : Type 0} (listed_by : X → Listed) (last : PageMap) (listed : Listed) → listed ≡ more l t → (result : Result X Fault)
          → ((db : Database) (held : HoldsListed new size listed db) (table : Table) → table_named d.name listed.tables ≡ Some table → table.indexes ≡ [] → held.rows_at table.root ≡ [] → AreNewNames listed table.name
          → MatchResult result (λ x. IsKeyed last size listed db table (length table.keys) (listed_by x)) (IsKeyRefusal table))
          → MatchResult result (λ x. IsKeyed last size (more l t) (bare_made db d t) t (length t.keys) (listed_by x)) (IsKeyRefusal t)
      lists_keys listed_by last listed same result lists =
          subst (λ (ts : Listed). (db : Database) (held : HoldsListed new size ts db) (table : Table) → table_named d.name ts.tables ≡ Some table → table.indexes ≡ [] → held.rows_at table.root ≡ [] → AreNewNames ts table.name
          → MatchResult result (λ x. IsKeyed last size ts db table (length table.keys) (listed_by x)) (IsKeyRefusal table)) same lists
          (bare_made db d t) holds_more t
          (subst (λ (n : Name). table_named n (t ∷ l.tables) ≡ Some t) name_is named_first)
          new_table.bare (rows_here held.rows_at root t.root [] root_is) new_names

-- ---- the indexes of its keys are listed

module _ (old : PageMap) (size : ℕ) (l : Listed) (db : Database) (held : Stores old size l db) (sql : List ℕ) (d : TableDefinition) (t : Table) (new_table : IsNewTable l d t)
    (last : PageMap) where
  -- the table with its indexes has those that its keys ask for
  keys_are : (after : Listed) → (k : IsKeyed last size (more l t) (bare_made db d t) t (length t.keys) after) → HasKeyIndexes k.keyed
  keys_are after k = reordered_is (automatic_objects k.keyed) (automatic_objects k.keyed) (due_objects k.keyed) (objects_are ∙ due_same) (reordered_refl (automatic_objects k.keyed))
    where
      due_same : due_objects t ≡ due_objects k.keyed
      due_same = sym (ap due_objects k.alike)

      objects_are : automatic_objects k.keyed ≡ due_objects t
      objects_are =
          ap (λ (is : List Index). map (λ (i : Index). (i.name, AnIndex (as_index k.keyed i))) is) (all_automatic k.keyed.indexes k.automatic)
          ∙ (ap (λ (u : Table). map (λ (i : Index). (i.name, AnIndex (as_index u i))) k.keyed.indexes) k.alike
          ∙ (k.keys ∙ take_due t))

  pub refused_keys : (f : Fault) → IsKeyRefusal t f → IsChangeRefusal (creating sql d) db f
  refused_keys f (inl full) = inl full
  refused_keys f (inr (inl (what, some))) = inr (inr (inr (record { is = what; why = some_keys d t new_table.makes.keys some })))
  refused_keys f (inr (inr (inl (what, wide)))) = inr (inr (inl (record { is = what; why = inl (sym (wide_keys d t new_table.makes.keys) ∙ wide) })))
  refused_keys f (inr (inr (inr (number, root, (what, long))))) = inr (inr (inl (record {
    is = what;
    why = inr (record {
      made = made_of db d t;
      reaches = reached sql db held.rows_at l d t held.of_listed new_table;
      long = (root, inr (number, subst (λ (n : Name). AreStorable (schema_row (codes "index") (automatic_name n number) n root None) → ⊥) new_table.makes.name_is long));
    });
  })))

  pub creates : (after : Listed) → IsKeyed last size (more l t) (bare_made db d t) t (length t.keys) after → IsMade (creating sql d) db last size after
  creates after k = record {
    made = made_of db d t;
    reaches = reached sql db held.rows_at l d t held.of_listed new_table;
    stored = subst (λ (os : List (Name × Object)). Stores last size after (with_objects (bare_made db d t) os)) (take_due t) (stored_of last size after (with_objects (bare_made db d t) (take (length t.keys) (due_objects t))) k.holds keys targets);
  }
    where
      same_name : is_same_name t.name k.keyed.name ≡ true
      same_name = subst (λ (n : Name). is_same_name t.name n ≡ true) (sym (ap (λ (u : Table). u.name) k.alike)) (same_bytes (folded t.name))

      keys : AllByRecursion HasKeyIndexes after.tables
      keys = subst (AllByRecursion HasKeyIndexes) (sym (ap (λ (x : Listed). x.tables) k.listed ∙ ap (λ (b : Bool). cond b k.keyed t ∷ with_replaced k.keyed l.tables) same_name))
          (keys_are after k, all_replaced HasKeyIndexes k.keyed l.tables (keys_are after k) held.keys)

      new_name : is_name_of l t.name ≡ false
      new_name = subst (λ (n : Name). is_name_of l n ≡ false) (sym new_table.makes.name_is) new_table.new

      -- no other has the table's name
      none_replaced : with_replaced k.keyed l.tables ≡ l.tables
      none_replaced = replaces_none k.keyed l.tables
          (subst (λ (n : Name). list_any (has_table_name n) l.tables ≡ false) (sym (ap (λ (u : Table). u.name) k.alike))
          (neither (list_any (has_table_name t.name) l.tables) (list_any (is_view t.name) l.views || list_any (is_trigger t.name) l.triggers) new_name).0)

      after_is : after ≡ record l { tables = k.keyed ∷ l.tables }
      after_is =
          k.listed ∙ ap (λ (ts : List Table). record l { tables = ts }) (ap (λ (b : Bool). cond b k.keyed t ∷ with_replaced k.keyed l.tables) same_name ∙ ap (λ (ts : List Table). k.keyed ∷ ts) none_replaced)

      targets : AreFit after after.triggers
      targets = subst (λ (x : Listed). AreFit x x.triggers) (sym after_is)
          (fit_with_other (more l t) [] t k.keyed l.tables refl (ap (λ (u : Table). u.name) k.alike) (ap (λ (u : Table). with_rows u []) k.alike)
          (fit_with_table l t (no_table l t.name new_name) (no_view l t.name new_name) held.targets))

-- ---- calls that pass a refusal on

pub handed_on : {X : Type 0} (P : X → Type 0) (Q : Fault → Type 0) (r : Result X Fault) (f : Fault) → IsErrAnd r (λ e. e ≡ f) → Q f → MatchResult r P Q
handed_on P Q (Ok x) f is why = absurd is
handed_on P Q (Err e) f is why = subst Q (sym is) why

-- there is a catalog with the table, or memory is short
pub taken : {X : Type 0} (Listed Made : X → Type 0) (Q : Fault → Type 0) (r : Result X Fault) → IfOk r Listed → IfErr r (λ f. f ≡ fault.Memory) → ((x : X) → Listed x → Made x) → Q fault.Memory → MatchResult r Made Q
taken Listed Made Q (Ok x) listed memory make short = make x listed
taken Listed Made Q (Err f) listed memory make short = subst Q (sym memory) short

-- what a call comes to, in other words
pub turned_result : {X : Type 0} {P Q : X → Type 0} {S T : Fault → Type 0} (r : Result X Fault) → MatchResult r P S → ((x : X) → P x → Q x) → ((f : Fault) → S f → T f) → MatchResult r Q T
turned_result (Ok x) p make why = make x p
turned_result (Err f) p make why = why f p

pub refused_by : {X : Type 0} (Q : Fault → Type 0) (r : Result X Fault) (f : Fault) → IsErrAnd r (λ e. e ≡ f) → Q f → IfErr r Q
refused_by Q (Ok x) f is why = absurd is
refused_by Q (Err e) f is why = subst Q (sym is) why

-- the columns of a definition without doubled ones have different names
pub columns_alone : (d : TableDefinition) (columns : List Column) → map described columns ≡ map defined d.columns → has_doubled d.columns ≡ false → is_twice_named columns ≡ false
columns_alone d columns same once = ap (any_twice is_same_name) (named_columns d.columns columns same) ∙ once

-- why its keys are refused is why it is
pub why_keys : (l : Listed) (d : TableDefinition) (columns : List Column) (f : Fault) → map described columns ≡ map defined d.columns → IsFaultOf (faults (table_keys_known d columns)) f
    → (f ≡ fault.Memory) ⊎ IsCreateRefusal l d (refusal_of f)
why_keys l d columns f same (inl memory) = inl memory
why_keys l d columns f same (inr has) = inr (inr (inr (inr (inr (columns, same, inr has)))))

-- and so is why its CHECKs are
pub why_checks : (l : Listed) (d : TableDefinition) (columns : List Column) (f : Fault) → map described columns ≡ map defined d.columns → IsFaultOf (faults (checks_known d columns)) f
    → (f ≡ fault.Memory) ⊎ IsCreateRefusal l d (refusal_of f)
why_checks l d columns f same (inl memory) = inl memory
why_checks l d columns f same (inr has) = inr (inr (inr (inr (inr (columns, same, inl has)))))

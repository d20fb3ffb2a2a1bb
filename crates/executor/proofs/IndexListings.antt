-- An index that is listed with its table: its tree, and its row in the schema table.
use Rattle.std.proofs.Common.{◌≡◌, ◌⊎◌, ◌<◌, ◌≤◌, ◌+◌, inl, inr, refl, sym, ap, subst, ◌∙◌, ℕ, zero, suc, ℤ, pos, Bool, true, false, if◌then◌else◌, codes, map, List, [], ◌∷◌, ◌++◌, append_assoc, length, Option, None, Some, Ok, Err, arith}
use Rattle.std.specs.Prelude.{Contains}
use Rattle.std.proofs.lemmas.Bool.{cases_eq, cases_lt}
use Rattle.std.proofs.lemmas.Grind.{common_steps}
use Rattle.std.proofs.lemmas.List.{length-map}
use Rattle.std.specs.List.{AllByRecursion}
use Rattle.sqlval.specs.Names.{folded}
use Rattle.sqlval.specs.Refusals.{Refusal, Unique, refusal_of}
use Rattle.sqlval.specs.declared.collation.Collation.{Collation}
use Rattle.sqlval.specs.declared.value.Value.{Value}
use Rattle.record.specs.Record.{IsRecord}
use Rattle.sqlval.specs.declared.fault.Fault.{Fault}
use Rattle.sqlval.specs.declared.fault.Fault.TheVariants as fault
use Rattle.sql_syntax.specs.declared.create.IndexDefinition.{IndexDefinition}
use Rattle.sql_syntax.specs.declared.create.NewObject.TheVariants as object
use Rattle.sql_syntax.specs.declared.statement.Statement.{Statement}
use Rattle.sql_syntax.specs.declared.statement.Statement.TheVariants as statement
use Rattle.pages.specs.Calls.{IsOutsideOrFull}
use Rattle.pages.specs.Counting.{occurs, fresh}
use Rattle.pages.specs.Map.{PageMap}
use Rattle.pages.proofs.Moving.{occurs_append}
use Rattle.tree_table.specs.Calls.{Stands}
use Rattle.tree_table.specs.Rows.{payload_at, with_row}
use Rattle.tree_index.specs.Entries.{Entry as IndexEntry}
use Rattle.tree_index.specs.Tree as index
use Rattle.tree_index.specs.Tree.{IsIndexTree}
use Rattle.db_layout.specs.Layout.{HoldsUnder, IsTree, Owner, ReplacesTrees, TreesStand, used_by}
use Rattle.catalog.specs.Database as database
use Rattle.catalog.specs.Database.{AnIndex, ATable, ATrigger, AView, Database, Name, with_object, object as object_in}
use Rattle.catalog.specs.Listed.{as_index, is_name_of, is_table, rowids_of, table_named, with_replaced, with_rows, Listed}
use Rattle.catalog.specs.Named.{IsOfListed}
use Rattle.catalog.specs.NewIndexes.{ListsNewIndex, with_index, replacing}
use Rattle.catalog.specs.UnusedRowids.{is_among}
use Rattle.catalog.specs.declared.tables.Index.{Index}
use Rattle.catalog.specs.declared.tables.IndexColumn.{IndexColumn}
use Rattle.catalog.specs.declared.tables.Table.{Table}
use Rattle.query_names.specs.Checked.{Checked, Meant, faults, good, meant}
use Rattle.query_names.specs.Keys.{has_clash}
use Rattle.query_names.specs.Schema.{create, resolve_index_column}
use Rattle.query_names.proofs.ColumnNames.{folded_twice}
use Rattle.query_bind.specs.Indexed.{IsIndexOn, IsIndexRefusal, MakesListedIndex, RefusesIndexAsDefined, key_of}
use Rattle.row_scan.specs.Rows.{TableRow}
use Rattle.db_layout.specs.Trees.{AreTreesOf, HoldsNow, IsEntriesTree}
use Rattle.index_entries.specs.Keeping.{columns_in}
use Rattle.db_write.specs.Changing.{AddsIndex, IsIndexAdded, IsRefusedIndex, index_of, is_wide}
use Rattle.db_pages.specs.Schema.{AreRowsOf, HasRowOf, IndexTold, TableTold, Tells, Told, all_told, schema_row, told_by, tables_told}
use Rattle.db_pages.specs.Stored.{Stores, all_trees, schema_tree}
use Rattle.executor.specs.Changing.{IsChangeRefusal, IsIndexIn, IsMade}
use Rattle.executor.specs.Listing.{AddsRow, AreTooLong, IsAdded}
use Rattle.executor.specs.Works.{IsRefused, Makes, Reaches, RefusesWith, Work, change_made, clashes_in, clashes_on, index_clashes, made_index, of_known}
use Rattle.executor.proofs.FoundTables.{indexes_listed, table_found}
use Rattle.executor.specs.Holding.{HoldsListed, HoldsTrees, IsListingRefusal, IsListedWith, IsToldBy}
use Rattle.executor.proofs.HeldTrees.{among, changed, page_size, rows_elsewhere, rows_here, rows_with, schema_stands, stores_of, trees_held, with_schema}
use Rattle.executor.proofs.Owners.{HasTable, one_of, splits, table_of_parts}
use Rattle.executor.proofs.Roots.{all_apart, used_both, uses_root}
use Rattle.executor.proofs.Targets.{named_as}
use Rattle.executor.proofs.Replacing.{IsSplit, found_in_place, found_is, names_once, same_folded, split_at}
use Rattle.executor.proofs.Wide.{known_long}
use Rattle.executor.proofs.Telling.{AreToldBy, as_rows, as_told, free_at, many_retold, map_append, more_pages, one_more, same_indexes, same_table, told_around, told_as, told_after}

-- what follows for every listed database, and for the trees of its file
pub record Laws : Type 0 where
  pub lists : ListsNewIndex
  pub stand : TreesStand
  pub give_way : ReplacesTrees

-- ---- an index more

pub rows_same : (rows_at : ℕ → List TableRow) (at : ℕ) → rows_with rows_at at (rows_at at) ≡ rows_at
rows_same rows_at at = λ k root. one root k
  where
    one : (root : ℕ) → rows_with rows_at at (rows_at at) root ≡ rows_at root
    one root = elim (cases_eq root at) [
      | inl here ↦ rows_here rows_at at root (rows_at at) here ∙ ap rows_at (sym here)
      | inr differ ↦ rows_elsewhere rows_at at root (rows_at at) differ
    ]

last_of : {A : Type 0} (P : A → Type 0) (xs : List A) (x : A) → AllByRecursion P (xs ++ x ∷ []) → P x
last_of P [] x all = all.0
last_of P (y ∷ xs) x all = last_of P xs x all.1

-- the root of an index's tree is one of its pages
index_root : (map : PageMap) (size root : ℕ) (columns : List Collation) (entries : List IndexEntry) (used : List ℕ) → IsIndexTree map size root columns entries used → 1 ≤ occurs root used
index_root map size root columns entries used tree =
    subst (λ (ps : List ℕ). 1 ≤ occurs root ps) tree.used_are
    (subst (λ (n : ℕ). 1 ≤ occurs n (index.pages_of tree.depth tree.tree)) tree.root_is (top_first tree.depth tree.tree))
  where
    here : (n : ℕ) (xs : List ℕ) → 1 ≤ occurs n (n ∷ xs)
    here n xs = grind (arith)

    top_first : (depth : ℕ) (t : index.Tree depth) → 1 ≤ occurs (index.top depth t) (index.pages_of depth t)
    top_first zero t = here t.page _
    top_first (suc depth) t = here t.page _

fresh_where : (count n : ℕ) → 1 ≤ fresh 0 count n → (1 ≤ n) × (n ≤ count)
fresh_where count n some = (low count n some, high count n some)
  where
    low : (count n : ℕ) → 1 ≤ fresh 0 count n → 1 ≤ n
    low count n some = grind (arith, common_steps)

    high : (count n : ℕ) → 1 ≤ fresh 0 count n → n ≤ count
    high count n some = grind (arith, common_steps)

fresh_once : (count n : ℕ) → fresh 0 count n ≤ 1
fresh_once count n = grind (arith, common_steps)

module _ (laws : Laws) (old : PageMap) (size : ℕ) (l : Listed) (db : Database) (held : HoldsListed old size l db) (t : Table) (named : table_named t.name l.tables ≡ Some t)
    (index : Index) (new_name : is_name_of l index.name ≡ false) (name : Name) (sql : Option (List ℕ)) (told_by_row : IsToldBy t index name sql) where
  pub split : IsSplit t l.tables
  split = split_at (is_table t.name) l.tables t (names_once l held.of_listed.once) named

  abbrev o : HasTable held.rows_at l.tables held.trees.held t
  o = table_of_parts held.rows_at l.tables held.trees.held split.before t split.after split.parts held.trees.each

  abbrev rows : List TableRow
  rows = held.rows_at t.root

  module _ (root : ℕ) (rowid : ℤ) where
    abbrev i : Index
    i = record index { root = root; rowid = rowid }

    abbrev with_it : Table
    with_it = with_index i t

    abbrev listed : Listed
    listed = replacing with_it l

    abbrev made : Database
    made = with_object db index.name (AnIndex (as_index t index))

    of_made : IsOfListed held.rows_at listed made
    of_made = laws.lists held.rows_at l db t i held.of_listed named new_name

    listed_are : listed.tables ≡ split.before ++ with_it ∷ split.after
    listed_are = split.replaced with_it refl

    -- ---- its tree is made

    module _ (mid : PageMap) (now : HoldsNow old mid size (schema_tree held.schema held.trees.schema_used) (all_trees o.split.before) with_it rows (all_trees o.split.after))
        (apart : has_clash (as_index t index) rows ≡ false) where
      abbrev in_order : List Table
      in_order = split.before ++ with_it ∷ split.after

      abbrev then_trees : HoldsTrees mid size (rows_with held.rows_at t.root rows) in_order held.schema
      then_trees = changed old size held.rows_at l.tables held.schema held.trees t o mid with_it rows refl o.split.is.fit now

      pub schema_then : Stands mid size 1 held.schema held.trees.schema_used now.among.free
      schema_then = schema_stands mid size (rows_with held.rows_at t.root rows) in_order held.schema then_trees laws.stand

      -- ---- its root

      owner_used : (owner : Owner) → IsEntriesTree rows i owner → IsTree mid size owner → 1 ≤ occurs i.root owner.used
      owner_used owner its tree =
          subst (λ (n : ℕ). 1 ≤ occurs n owner.used) its.root_is
          (index_root mid size owner.root _ _ owner.used (subst (HoldsUnder mid size owner.root owner.used) its.content_is tree))

      trees_used : (mine : List Owner) → AreTreesOf with_it rows mine → AllByRecursion (IsTree mid size) mine → 1 ≤ occurs i.root (used_by mine)
      trees_used [] are trees = absurd are
      trees_used (first ∷ others) are trees =
          let s = splits (IsEntriesTree rows) t.indexes i [] others are.1 in
          let tree = one_of (IsTree mid size) s.before s.at s.after (subst (AllByRecursion (IsTree mid size)) s.parts trees.1) in
          let own = owner_used s.at s.is tree in
          let sum = occurs_append i.root first.used (used_by others) in
          let parts = ap (λ (os : List Owner). occurs i.root (used_by os)) s.parts in
          let both = used_both i.root s.before (s.at ∷ s.after) in
          let last = occurs_append i.root s.at.used (used_by s.after) in
          omega (arith, own, sum, parts, both, last)

      abbrev mine : List Owner
      mine = now.among.mine

      abbrev before : List Owner
      before = all_trees o.split.before

      abbrev after : List Owner
      after = all_trees o.split.after

      mine_stand : AllByRecursion (IsTree mid size) mine
      mine_stand = (all_apart (IsTree mid size) mine after (all_apart (IsTree mid size) before (mine ++ after) now.among.shared.trees.1).1).0

      all_used : (n : ℕ) → occurs n held.trees.schema_used + occurs n (used_by mine) ≤ fresh 0 (length mid) n
      all_used n =
          let once = now.among.shared.once n in
          let sum = occurs_append n held.trees.schema_used (used_by (before ++ (mine ++ after))) in
          let both = used_both n before (mine ++ after) in
          let rest = used_both n mine after in
          omega (arith, once, sum, both, rest)

      root_used : 1 ≤ occurs i.root (used_by mine)
      root_used = trees_used mine now.among.are mine_stand

      within : i.root ≤ length mid
      within = let all = all_used i.root in (fresh_where (length mid) i.root (omega (arith, all, root_used))).1

      above : 1 < i.root
      above = elim (cases_lt 1 i.root) [
        | inl more ↦ more
        | inr low ↦ (let all = all_used i.root in
            let first = (fresh_where (length mid) i.root (omega (arith, all, root_used))).0 in
            let one : i.root ≡ 1 = omega (arith, low, first) in
            let at_one = subst (λ (n : ℕ). 1 ≤ occurs n (used_by mine)) one root_used in
            let schema = uses_root mid size 1 held.schema held.trees.schema_used now.among.shared.trees.0 in
            let sum = all_used 1 in
            let once = fresh_once (length mid) 1 in
            absurd (omega (arith, at_one, schema, sum, once)))
      ]

      -- ---- its row

      module _ (new : PageMap) (unused : is_among rowid (rowids_of l) ≡ false)
          (added : IsAdded mid new size (schema_row (codes "index") name t.name root sql) held.schema held.trees.schema_used now.among.free rowid) where
        longer : length mid ≤ length new
        longer = added.becomes.moves.longer

        has_row : (own on : Name) (text : Option (List ℕ)) → sql ≡ text → folded name ≡ folded own → folded t.name ≡ folded on → HasRowOf (length new) (codes "index") own on root text added.entry
        has_row own on text same own_is on_is = record {
          above = above;
          within = omega (arith, within, longer);
          name = name;
          name_is = own_is;
          table_name = t.name;
          table_name_is = on_is;
          row_is = subst (λ (x : Option (List ℕ)). IsRecord added.entry.payload (schema_row (codes "index") name t.name root x)) same added.is;
        }

        new_row : (text : Option (List ℕ)) → sql ≡ text → IsToldBy t index name text → Tells (length new) (IndexTold with_it i) added.entry
        new_row None same is = inr (record { automatic = is.0; rowid_is = added.rowid_is; row_is = has_row index.name t.name None same is.1 refl })
        new_row (Some text) same (d, name_is, creates, makes) = inl (record {
          sql = text;
          definition = d;
          creates = creates;
          makes = record {
            free = makes.free;
            once = makes.once;
            name_is = makes.name_is;
            on = makes.on;
            unique = makes.unique;
            written = makes.written;
            columns = makes.columns;
          };
          rowid_is = added.rowid_is;
          row_is = has_row d.name d.table (Some text) same (ap folded name_is) (sym makes.on);
        })

        abbrev front : List Told
        front = tables_told split.before

        abbrev back : List Told
        back = told_after split.after l

        abbrev again : List Told
        again = TableTold with_it ∷ map (λ j. IndexTold with_it j) t.indexes

        told_now : AreToldBy (length new) (front ++ (told_by t ++ back)) held.schema
        told_now = told_as (length new) (all_told l) (front ++ (told_by t ++ back)) held.schema (ap (λ (ts : List Table). all_told (record l { tables = ts })) split.parts ∙ told_around split.before t split.after l)
            (more_pages (length old) (length new) (let first = now.longer in omega (arith, first, longer)) (all_told l) held.schema (as_told (length old) l held.schema held.tell))

        told_again : AreToldBy (length new) ((front ++ again) ++ back) held.schema
        told_again = told_as (length new) (front ++ (again ++ back)) ((front ++ again) ++ back) held.schema (sym (append_assoc front again back))
            (many_retold (length new) front (told_by t) again back held.schema (same_table (length new) t (t.indexes ++ i ∷ []), same_indexes (length new) t (t.indexes ++ i ∷ []) t.indexes) told_now)

        told_more : AreToldBy (length new) ((front ++ again) ++ IndexTold with_it i ∷ back) (with_row added.entry held.schema)
        told_more = one_more (length new) (front ++ again) back (IndexTold with_it i) added.entry held.schema told_again
            (subst (λ z. payload_at z held.schema ≡ None) (sym added.rowid_is) (free_at (length old) l held.schema rowid held.tell unused)) (new_row sql refl told_by_row)

        all_are : all_told listed ≡ (front ++ again) ++ IndexTold with_it i ∷ back
        all_are =
            ap (λ (ts : List Table). all_told (record l { tables = ts })) listed_are
            ∙ (told_around split.before with_it split.after l
            ∙ (ap (λ (xs : List Told). front ++ ((TableTold with_it ∷ xs) ++ back)) (map_append (λ j. IndexTold with_it j) t.indexes (i ∷ []))
            ∙ (ap (λ (xs : List Told). front ++ xs) (append_assoc again (IndexTold with_it i ∷ []) back) ∙ sym (append_assoc front again (IndexTold with_it i ∷ back)))))

        told : AreRowsOf (length new) listed (with_row added.entry held.schema)
        told = as_rows (length new) listed ((front ++ again) ++ IndexTold with_it i ∷ back) (with_row added.entry held.schema) all_are told_more

        abbrev holds_more : HoldsListed new size listed made
        holds_more = record {
          rows_at = rows_with held.rows_at t.root rows;
          of_listed = subst (λ (rs : ℕ → List TableRow). IsOfListed rs listed made) (sym (rows_same held.rows_at t.root)) of_made;
          schema = with_row added.entry held.schema;
          tell = told;
          trees = subst (λ (ts : List Table). HoldsTrees new size (rows_with held.rows_at t.root rows) ts (with_row added.entry held.schema)) (sym listed_are)
              (with_schema mid size (rows_with held.rows_at t.root rows) in_order held.schema then_trees laws.give_way new (with_row added.entry held.schema) added.becomes);
        }

        pub lists : (now_listed : Listed) → now_listed ≡ listed → IsListedWith new size l db t index rows now_listed
        lists now_listed same = subst (IsListedWith new size l db t index rows) (sym same) (record {
          root = root;
          rowid = rowid;
          apart = apart;
          listed = refl;
          holds = holds_more;
          rows_are = rows_here held.rows_at t.root t.root rows refl;
        })

  -- ---- the call that finds its rowid

  pub refused_rowid : {X : Type 0} (f : Fault) → (f ≡ fault.Memory) ⊎ ((f ≡ fault.RowidFull) × X) → IsListingRefusal t index name sql rows f
  refused_rowid f (inl memory) = inl (inl (inl memory))
  refused_rowid f (inr (full, taken)) = inr (inl full)

  -- ---- the call that makes its tree

  pub refused_tree : (mid : PageMap) (f : Fault) → AddsIndex old mid size t index.columns index.is_unique (Err f) → IsListingRefusal t index name sql rows f
  refused_tree mid f adds = by (adds (schema_tree held.schema held.trees.schema_used) (all_trees o.split.before) (all_trees o.split.after) rows (page_size old size held.rows_at l.tables held.schema held.trees) refl
      (among old size held.rows_at l.tables held.schema held.trees t o) o.split.is.fit)
    where
      by : IsRefusedIndex index.columns index.is_unique rows f → IsListingRefusal t index name sql rows f
      by (inl full) = inl full
      by (inr (inl (what, clash))) = inr (inr (inl (what, clash)))
      by (inr (inr (what, wide))) = inr (inr (inr (inl (what, wide))))

  -- it is made over rows that it keeps apart
  then_added : (mid : PageMap) (root : ℕ) → AddsIndex old mid size t index.columns index.is_unique (Ok root)
      → IsIndexAdded old mid size (schema_tree held.schema held.trees.schema_used) (all_trees o.split.before) t index.columns index.is_unique rows (all_trees o.split.after) root
  then_added mid root adds =
      adds (schema_tree held.schema held.trees.schema_used) (all_trees o.split.before) (all_trees o.split.after) rows (page_size old size held.rows_at l.tables held.schema held.trees) refl
      (among old size held.rows_at l.tables held.schema held.trees t o) o.split.is.fit

  -- the calls that make its tree and add its row, one after the other
  module _ (root : ℕ) (rowid : ℤ) (mid new : PageMap) (makes : AddsIndex old mid size t index.columns index.is_unique (Ok root)) (unused : is_among rowid (rowids_of l) ≡ false) where
    then_now : HoldsNow old mid size (schema_tree held.schema held.trees.schema_used) (all_trees o.split.before) (with_index (i root rowid) t) rows (all_trees o.split.after)
    then_now = (then_added mid root makes).has (i root rowid) refl refl

    apart : has_clash (as_index t index) rows ≡ false
    apart = (then_added mid root makes).apart

    row_unused : payload_at rowid held.schema ≡ None
    row_unused = free_at (length old) l held.schema rowid held.tell unused

    abbrev row_values : List Value
    row_values = schema_row (codes "index") name t.name root sql

    pub row_refused : (f : Fault) → AddsRow mid new size rowid row_values (Err f) → IsListingRefusal t index name sql rows f
    row_refused f adds = by (adds held.schema held.trees.schema_used then_now.among.free (schema_then root rowid mid then_now apart) row_unused)
      where
        by : IsOutsideOrFull f ⊎ AreTooLong row_values f → IsListingRefusal t index name sql rows f
        by (inl full) = inl full
        by (inr long) = inr (inr (inr (inr (apart, (root, long)))))

    pub row_added : AddsRow mid new size rowid row_values (Ok tt) → (now_listed : Listed) → now_listed ≡ replacing (with_index (i root rowid) t) l → IsListedWith new size l db t index rows now_listed
    row_added adds now_listed same =
        lists root rowid mid then_now apart new unused (adds held.schema held.trees.schema_used then_now.among.free (schema_then root rowid mid then_now apart) row_unused) now_listed same

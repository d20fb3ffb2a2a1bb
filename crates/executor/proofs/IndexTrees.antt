-- The sources of a query on a database: their rows, and the entries of their indexes.
use Rattle.std.proofs.Common.{◌≡◌, refl, sym, ap, subst, ◌∙◌, ℕ, suc, true, List, [], ◌∷◌, ◌++◌, length, Option, Some, None, inl, map, Result, Ok, Err}
use Rattle.std.proofs.lemmas.List.{append_assoc}
use Rattle.std.proofs.lemmas.Option.{same_Some}
use Rattle.std.specs.List.{AllByRecursion}
use Rattle.std.specs.Prelude.{option_and_then, option_map, MatchResult, slice_get}
use Rattle.sqlval.specs.Conversion.{is_word}
use Rattle.pages.specs.Map.{PageMap}
use Rattle.db_layout.specs.Layout.{IsTree, Owner}
use Rattle.db_layout.specs.Trees.{AreTreesOf}
use Rattle.catalog.specs.Database.{Database, Name}
use Rattle.catalog.specs.Listed.{is_table, table_named, Listed}
use Rattle.catalog.specs.declared.tables.Table.{Table}
use Rattle.query_names.specs.declared.queries.BoundSource.{BoundSource}
use Rattle.query_bind.specs.Named.{ArePlaced, place_seen}
use Rattle.query_answer.specs.Nesting.{Named}
use Rattle.row_scan.specs.Rows.{TableRow}
use Rattle.row_search.specs.Found.{HasEntriesOf, HasIndexed}
use Rattle.db_write.proofs.Needed.{are_words, entries_trees, rest_of}
use Rattle.executor.specs.Reading.{HasSource, IsSourceOf, AreSourceRows, IsRefusalOf, IsSameOver, LoadsNeeded, LoadsSource}
use Rattle.db_pages.specs.Stored.{Stores, all_trees}
use Rattle.executor.proofs.Owners.{found_among, has_rows, table_of_parts, trees_around}
use Rattle.executor.proofs.LoadedSources.{tree_rows}
use Rattle.query_terms.specs.Values.{Row}
use Rattle.query_names.specs.Views.{rows_of}
use Rattle.query_names.specs.declared.queries.Origin.TheVariants.{Tree}
use Rattle.query_names.specs.declared.reading.Reading.{Reading}
use Rattle.sqlval.specs.Faults.{IsOutside}
use Rattle.sqlval.specs.declared.fault.Fault.{Fault}
use Rattle.row_scan.specs.Sources.{as_source}

-- ---- the trees of a table's indexes

have_entries : (pages : PageMap) (size : ℕ) (l : Listed) (db : Database) (held : Stores pages size l db) (name : Name) (t : Table) → table_named name l.tables ≡ Some t
    → AllByRecursion (HasEntriesOf pages size (held.rows_at t.root)) t.indexes
have_entries pages size l db held name t named =
    let among = found_among (is_table name) l.tables t named in
    let o = table_of_parts held.rows_at l.tables held.held among.front t among.back among.parts held.each in
    let trees : AllByRecursion (IsTree pages size) (o.split.at ++ all_trees o.split.after) =
    rest_of (IsTree pages size) (all_trees o.split.before) (o.split.at ++ all_trees o.split.after)
    (subst (AllByRecursion (IsTree pages size)) (ap all_trees o.split.parts ∙ trees_around o.split.before o.split.at o.split.after) held.shared.trees.1) in
    by o.split.at (all_trees o.split.after) o.split.is.are trees
  where
    by : (at others : List Owner) → AreTreesOf t (held.rows_at t.root) at → AllByRecursion (IsTree pages size) (at ++ others) → AllByRecursion (HasEntriesOf pages size (held.rows_at t.root)) t.indexes
    by [] others are trees = absurd are
    by (first ∷ mine) others are trees = entries_trees pages size (held.rows_at t.root) t.indexes mine others are.1 trees.1

-- ---- rowids of 64 bits

words_at : (pages : PageMap) (size : ℕ) (l : Listed) (db : Database) (held : Stores pages size l db) (name : Name) (t : Table) → table_named name l.tables ≡ Some t
    → AllByRecursion (λ (row : TableRow). is_word row.0 ≡ true) (held.rows_at t.root)
words_at pages size l db held name t named =
    let among = found_among (is_table name) l.tables t named in
    let o = table_of_parts held.rows_at l.tables held.held among.front t among.back among.parts held.each in
    are_words t (held.rows_at t.root) o.split.is.fit

-- ---- the sources of a query

module _ (pages : PageMap) (size : ℕ) (l : Listed) (db : Database) (stored : Stores pages size l db) where
  pub has_indexed : (name : Name) (place : BoundSource) (t : Table) → option_map place_seen (table_named name l.tables) ≡ Some place → table_named name l.tables ≡ Some t
      → HasIndexed pages size place t.indexes (stored.rows_at place.root)
  has_indexed name place t placed named =
      subst (λ (x : BoundSource). HasIndexed pages size x t.indexes (stored.rows_at x.root)) (same_Some (place_seen t) place (sym (ap (option_map place_seen) named) ∙ placed))
      (record {
        whole = stored.shared.whole;
        has = has_rows pages size l db stored name t named;
        words = words_at pages size l db stored name t named;
        entries = have_entries pages size l db stored name t named;
      })

  pub has_source : (sources : List Named) (n : ℕ) (s : Named) (place : BoundSource) → slice_get sources n ≡ Some s → option_map place_seen (table_named s.0 l.tables) ≡ Some place
      → HasSource pages size l.tables sources n place (stored.rows_at place.root)
  has_source sources n s place at placed = by (table_named s.0 l.tables) refl placed
    where
      indexed : (t : Table) → IsSourceOf l.tables sources n t → HasIndexed pages size place t.indexes (stored.rows_at place.root)
      indexed t is = has_indexed s.0 place t placed (sym (ap (option_and_then (λ (it : Named). table_named it.0 l.tables)) at) ∙ is)

      by : (found : Option Table) → table_named s.0 l.tables ≡ found → option_map place_seen found ≡ Some place → HasSource pages size l.tables sources n place (stored.rows_at place.root)
      by None named at = (let bad : None ≡ Some place = at in cc)
      by (Some t) named at = (let it = has_indexed s.0 place t placed named in record { whole = it.whole; has = it.has; indexed = indexed })

-- a table's rows that the query needs are rows of its source
pub tree_loaded : (pages : PageMap) (size : ℕ) (l : Listed) (room : ℕ) (q : Reading) (n : ℕ) (place : BoundSource) (result : Result (List Row) Fault) → LoadsNeeded pages size l.tables q n place result
    → LoadsSource pages size l room q n (Tree place) result
tree_loaded pages size l room q n place result loads db s stored at placed few known = by result (loads (stored.rows_at place.root) (has_source pages size l db stored q.sources n s place at placed))
  where
    by : (result : Result (List Row) Fault) → MatchResult result (λ found. IsSameOver q n found (map as_source (stored.rows_at place.root))) IsOutside → MatchResult result (AreSourceRows room db q n s.0) (IsRefusalOf (rows_of room db s.0))
    by (Ok found) same = record { all = map as_source (stored.rows_at place.root); are = tree_rows room stored.rows_at l db s.0 place stored.of_listed.lists placed; same = same }
    by (Err f) outside = inl outside

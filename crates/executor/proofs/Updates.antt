-- What an UPDATE comes to on the database that pages hold.
use Rattle.std.proofs.Common.{◌≡◌, ◌⊎◌, inl, inr, refl, sym, ap, subst, ◌∙◌, ℕ, Bool, false, List, [], ◌∷◌, ◌++◌, map, Option, Some, None, Result, Ok, Err, arith}
use Rattle.std.specs.Prelude.{⊤, Contains, MatchResult, zip}
use Rattle.std.proofs.lemmas.List.Elements.{Contains-append_left, Contains-append_right}
use Rattle.sqlval.specs.Names.{folded}
use Rattle.sqlval.specs.Refusals.{Answer, ◌then◌, NoSuch, Refusal, refusal_of}
use Rattle.sqlval.specs.declared.fault.Fault.{Fault}
use Rattle.sqlval.specs.declared.fault.Fault.TheVariants as fault
use Rattle.sql_syntax.specs.declared.change.Assignment.{Assignment}
use Rattle.sql_syntax.specs.declared.change.Change.TheVariants as kind
use Rattle.sql_syntax.specs.declared.change.Update.{Update}
use Rattle.sql_syntax.specs.declared.statement.Statement.{Statement}
use Rattle.sql_syntax.specs.declared.statement.Statement.TheVariants as statement
use Rattle.pages.specs.Map.{PageMap}
use Rattle.db_layout.specs.Trees.{AreAmong}
use Rattle.catalog.specs.Database.{ATable, Database, Name, with_object}
use Rattle.catalog.specs.Laws.{ListsOtherRows}
use Rattle.catalog.specs.Listed.{Lists, is_table, table_named, with_rows, Listed}
use Rattle.catalog.specs.Named.{IsOfListed, KeepsNamed, ListsIndexes}
use Rattle.catalog.specs.declared.tables.Column.{Column}
use Rattle.catalog.specs.declared.tables.Table.{Table}
use Rattle.query_names.specs.Bound.{IsFaultOf, looked_up, source_seen}
use Rattle.query_names.specs.Checked.{Checked, Meant, ◌and_then◌, also, both, faults, good, known_all, known_map, noted}
use Rattle.query_names.specs.Expressions.{resolve}
use Rattle.query_names.specs.Inserts.{AreColumns, IsListRefusal}
use Rattle.query_names.specs.Queries.{resolve_filter}
use Rattle.query_names.specs.Scopes.{beside, resolve_places, source_of}
use Rattle.query_names.specs.declared.scope.ScopeColumn.{ScopeColumn}
use Rattle.query_names.specs.declared.scope.ScopeSource.{ScopeSource}
use Rattle.query_terms.specs.Terms.{Term}
use Rattle.row_scan.specs.Rows.{TableRow}
use Rattle.query_bind.specs.Assigned.{columns_set, set_known, sets_known}
use Rattle.row_change.specs.Changes.{Resolved, Updates, no_outer, resolve_change}
use Rattle.row_change.specs.Setting.{rows_set}
use Rattle.db_write.specs.Changing.{IsRefusedUpdate, UpdatesInTrees}
use Rattle.query_names.proofs.ColumnPlaces.{column_place}
use Rattle.row_change.proofs.PlacesByName.{doubled_list, list_places, unknown_list}
use Rattle.trigger.specs.Binding.{IsFault}
use Rattle.trigger.specs.Effects.{change}
use Rattle.trigger.specs.Laws.{BindsAlone, SetsOffNothing, UpdateSetsRows}
use Rattle.executor.specs.Changing.{IsChangeRefusal, IsMade}
use Rattle.db_pages.specs.Stored.{Stores, all_trees, schema_tree}
use Rattle.executor.specs.Works.{Reaches, RefusesWith, change_made, of_answer}
use Rattle.executor.proofs.Deletions.{as_refused}
use Rattle.executor.proofs.Insertions.{listed_table, named_folded}
use Rattle.executor.proofs.Owners.{HasTable}
use Rattle.executor.specs.Holding.{HoldsTrees}
use Rattle.executor.proofs.HeldTrees.{among, page_size, rows_with, stores_rows, held_table, trees_held}
use Rattle.executor.proofs.Roots.{own_pages}
use Rattle.executor.proofs.FoundTables.{indexes_listed}
use Rattle.executor.proofs.Replacing.{found_is, same_folded}
use Rattle.executor.proofs.Wide.{indexes_of_table, wide_in}
use Rattle.executor.proofs.KnownSources.{known_as}
use Rattle.executor.specs.Refusing.{is_view_named}

-- what follows for every listed database, and for the trees of its file
pub record Laws : Type 0 where
  pub lists : ListsOtherRows
  pub named : KeepsNamed
  pub binds : BindsAlone
  pub updates : UpdateSetsRows
  pub indexes : ListsIndexes

abbrev updating : Update → Statement
updating u = statement.Change (kind.Update u)

-- ---- SET

abbrev expressions : List ScopeSource → List Assignment → Checked (List Term)
expressions scope sets = known_all (map (λ x. resolve false scope x.value) sets)

abbrev sets_of : List ScopeSource → ScopeSource → List Assignment → Checked (List (ℕ × Term))
sets_of scope s sets = both zip (resolve_places s (map (λ x. x.column) sets)) (expressions scope sets)

zipped : (columns : List Column) (scope : List ScopeSource) (sets : List Assignment) → both zip (good (map (column_place columns) (columns_set sets))) (expressions scope sets) ≡ sets_known columns scope sets
zipped columns scope [] = refl
zipped columns scope (x ∷ sets) =
    one (column_place columns x.column) (map (column_place columns) (columns_set sets)) (resolve false scope x.value) (expressions scope sets)
    ∙ ap (both (λ y ys. y ∷ ys) (set_known columns scope x)) (zipped columns scope sets)
  where
    one : (p : ℕ) (ps : List ℕ) (k : Checked Term) (ks : Checked (List Term))
        → both zip (good (p ∷ ps)) (both (λ y ys. y ∷ ys) k ks) ≡ both (λ y ys. y ∷ ys) (known_map (λ t. (p, t)) k) (both zip (good ps) ks)
    one p ps (Meant t rs) (Meant ts ss) = refl

same_faults : (columns : List Column) (scope : List ScopeSource) (sets : List Assignment) → faults (sets_known columns scope sets) ≡ faults (expressions scope sets)
same_faults columns scope [] = refl
same_faults columns scope (x ∷ sets) = one _ (resolve false scope x.value) (sets_known columns scope sets) (expressions scope sets) (same_faults columns scope sets)
  where
    one : (f : Term → ℕ × Term) (k : Checked Term) (ks : Checked (List (ℕ × Term))) (ls : Checked (List Term)) → faults ks ≡ faults ls
        → faults (both (λ y ys. y ∷ ys) (known_map f k) ks) ≡ faults (both (λ y ys. y ∷ ys) k ls)
    one f (Meant t rs) (Meant xs ss) (Meant ys us) e = ap (λ more. rs ++ more) e

both_faults : {A B C : Type 0} (f : A → B → C) (k : Checked A) (l : Checked B) → faults (both f k l) ≡ faults k ++ faults l
both_faults f (Meant x rs) (Meant y ss) = refl

-- ---- the whole

abbrev named_sets : Update → List Name
named_sets u = map (λ x. folded x.column) u.assignments

abbrev as_updates : Update → List (ℕ × Term) → Option Term → Resolved
as_updates u sets condition = Updates (folded u.table) sets (named_sets u) condition

abbrev resolved_by : Update → Checked (List ScopeColumn × Bool) → Checked Resolved
resolved_by u found =
    (noted found and_then λ found. good (source_of (folded u.table) found)) and_then λ s.
    both (as_updates u) (sets_of (beside [] (s.name ∷ []) ++ s ∷ []) s u.assignments) (resolve_filter (beside [] (s.name ∷ []) ++ s ∷ []) u.condition)

first_fault : (r : Refusal) (k : Checked Resolved) → Contains (faults (also (r ∷ []) k)) r
first_fault r (Meant x rs) = (0, omega arith, refl)

no_faults : (k : Checked Resolved) → also [] k ≡ k
no_faults (Meant x rs) = refl

module _ (laws : Laws) (pages : PageMap) (size : ℕ) (l : Listed) (db : Database) (held : Stores pages size l db) (u : Update) (still : SetsOffNothing db (kind.Update u)) (plain : is_view_named l u.table ≡ false) where
  resolved : (found : Option Table) → table_named u.table l.tables ≡ found → resolve_change db no_outer (kind.Update u) ≡ resolved_by u (looked_up found)
  resolved found named = ap (resolved_by u) (known_as held.rows_at l db held.of_listed.lists u.table plain ∙ ap looked_up named)

  refused_so : (f : Fault) → Contains (faults (resolve_change db no_outer (kind.Update u))) (refusal_of f) → IsChangeRefusal (updating u) db f
  refused_so f has = inr (inl (inl ((laws.binds db (kind.Update u) (refusal_of f) still).1 has)))

  -- a name that no table has
  pub name_refused : (f : Fault) → (f ≡ fault.Memory) ⊎ (refusal_of f ≡ NoSuch) × (table_named u.table l.tables ≡ None) → IsChangeRefusal (updating u) db f
  name_refused f (inl memory) = inl (inl (inl memory))
  name_refused f (inr (is, none)) =
      refused_so f (subst (λ (k : Checked Resolved). Contains (faults k) (refusal_of f)) (sym (resolved None none)) (subst (Contains (faults (resolved_by u (looked_up None)))) (sym is) (first_fault NoSuch _)))

  module _ (t : Table) (named : table_named u.table l.tables ≡ Some t) where
    abbrev scope : List ScopeSource
    scope = source_seen u.table t ∷ []

    abbrev sets_meant : Checked (List (ℕ × Term))
    sets_meant = sets_of scope (source_seen u.table t) u.assignments

    abbrev condition_of : Checked (Option Term)
    condition_of = resolve_filter scope u.condition

    parts : resolve_change db no_outer (kind.Update u) ≡ both (as_updates u) sets_meant condition_of
    parts = resolved (Some t) named ∙ no_faults (both (as_updates u) sets_meant condition_of)

    faults_are : faults (resolve_change db no_outer (kind.Update u)) ≡ faults sets_meant ++ faults condition_of
    faults_are = ap (λ (k : Checked Resolved). faults k) parts ∙ both_faults (as_updates u) sets_meant condition_of

    -- the columns that SET names, or its expressions, are refused
    pub sets_refused : (f : Fault) → (f ≡ fault.Memory) ⊎ (IsListRefusal t.columns (Some (columns_set u.assignments)) (refusal_of f) ⊎ Contains (faults (sets_known t.columns scope u.assignments)) (refusal_of f))
        → IsChangeRefusal (updating u) db f
    sets_refused f (inl memory) = inl (inl (inl memory))
    sets_refused f (inr why) =
        refused_so f (subst (λ (rs : List Refusal). Contains rs (refusal_of f)) (sym faults_are) (Contains-append_left (faults sets_meant) (faults condition_of) (refusal_of f)
        (subst (λ (rs : List Refusal). Contains rs (refusal_of f)) (sym (both_faults zip places (expressions scope u.assignments))) (by why))))
      where
        places : Checked (List ℕ)
        places = resolve_places (source_seen u.table t) (columns_set u.assignments)

        by : IsListRefusal t.columns (Some (columns_set u.assignments)) (refusal_of f) ⊎ Contains (faults (sets_known t.columns scope u.assignments)) (refusal_of f)
            → Contains (faults (resolve_places (source_seen u.table t) (columns_set u.assignments)) ++ faults (expressions scope u.assignments)) (refusal_of f)
        by (inl (inl (is, unknown))) =
            Contains-append_left (faults (resolve_places (source_seen u.table t) (columns_set u.assignments))) (faults (expressions scope u.assignments)) (refusal_of f)
            (subst (Contains (faults (resolve_places (source_seen u.table t) (columns_set u.assignments)))) (sym is) (unknown_list u.table t (held.once u.table t named) (columns_set u.assignments) unknown))
        by (inl (inr (is, doubled))) =
            Contains-append_left (faults (resolve_places (source_seen u.table t) (columns_set u.assignments))) (faults (expressions scope u.assignments)) (refusal_of f)
            (subst (Contains (faults (resolve_places (source_seen u.table t) (columns_set u.assignments)))) (sym is) (doubled_list u.table t (held.once u.table t named) (columns_set u.assignments) doubled))
        by (inr has) =
            Contains-append_right (faults (resolve_places (source_seen u.table t) (columns_set u.assignments))) (faults (expressions scope u.assignments)) (refusal_of f)
            (subst (λ (rs : List Refusal). Contains rs (refusal_of f)) (same_faults t.columns scope u.assignments) has)

    -- a condition whose names are refused
    pub where_refused : (f : Fault) → IsFaultOf (faults condition_of) f → IsChangeRefusal (updating u) db f
    where_refused f (inl memory) = inl (inl (inl memory))
    where_refused f (inr has) = refused_so f (subst (λ (rs : List Refusal). Contains rs (refusal_of f)) (sym faults_are) (Contains-append_right (faults sets_meant) (faults condition_of) (refusal_of f) has))

    -- ---- its table's rows

    module _ (sets : List (ℕ × Term)) (listed_columns : AreColumns t.columns (Some (columns_set u.assignments))) (sets_are : sets_known t.columns scope u.assignments ≡ Meant sets [])
        (condition : Option Term) (known : condition_of ≡ Meant condition []) where
      sets_known_so : sets_meant ≡ Meant sets []
      sets_known_so =
          ap (λ (k : Checked (List ℕ)). both zip k (expressions scope u.assignments)) (list_places u.table t (held.once u.table t named) (columns_set u.assignments) listed_columns.0 listed_columns.1)
          ∙ (zipped t.columns scope u.assignments ∙ sets_are)

      bound : resolve_change db no_outer (kind.Update u) ≡ Meant (Updates (folded u.table) sets (named_sets u) condition) []
      bound = parts ∙ (ap (λ (k : Checked (List (ℕ × Term))). both (as_updates u) k condition_of) sets_known_so ∙ ap (both (as_updates u) (Meant sets [])) known)

      owned : HasTable held.rows_at l.tables held.held t
      owned = held_table pages size l db held u.table t named

      not_refused : (r : Refusal) → IsFault db (kind.Update u) r → ⊥
      not_refused r is = nothing (subst (λ (k : Checked Resolved). Contains (faults k) r) bound ((laws.binds db (kind.Update u) r still).0 is))
        where
          nothing : Contains [] r → ⊥
          nothing has = absurd (omega (arith, has.1))

      -- the database whose table has these rows
      abbrev with_now : List TableRow → Database
      with_now now = with_object db (folded u.table) (ATable (with_rows t now))

      reaches : (made : Database) → change db (kind.Update u) ≡ Ok made → Reaches (change_made (updating u) db) made
      reaches made e = (not_refused, subst (λ (a : Answer Database). Reaches (of_answer a) made) (sym e) refl)

      refuses : (f : Fault) → change db (kind.Update u) ≡ Err (refusal_of f) → IsChangeRefusal (updating u) db f
      refuses f e = inr (inl (inr (not_refused, subst (λ (a : Answer Database). RefusesWith (of_answer a) (refusal_of f)) (sym e) (as_refused f))))

      lists_now : (now : List TableRow) → Lists (rows_with held.rows_at t.root now) l (with_now now)
      lists_now now =
          laws.lists held.rows_at l db (folded u.table) t now held.of_listed.lists (named_folded l.tables u.table t named)
          (λ other x found here. own_pages pages size l db held other (folded u.table) x t found (named_folded l.tables u.table t named) here)

      of_listed : (now : List TableRow) → IsOfListed (rows_with held.rows_at t.root now) l (with_now now)
      of_listed now = record {
        lists = lists_now now;
        named = laws.named db (folded u.table) (ATable (with_rows t now)) held.of_listed.named;
        once = held.of_listed.once;
      }

      abbrev trees : HoldsTrees pages size held.rows_at l.tables held.schema
      trees = trees_held pages size l db held

      its_trees : AreAmong pages size (schema_tree held.schema held.schema_used) (all_trees owned.split.before) t (held.rows_at t.root) (all_trees owned.split.after)
      its_trees = among pages size held.rows_at l.tables held.schema trees t owned

      change_is : (a : Answer (List TableRow)) → rows_set t sets condition (held.rows_at t.root) ≡ a → change db (kind.Update u) ≡ (a then λ now. Ok (with_now now))
      change_is a e =
          laws.updates db u t (held.rows_at t.root) sets (named_sets u) condition still held.of_listed.named (indexes_of_table laws.indexes held.rows_at l db u.table t held.of_listed named) (listed_table held.rows_at l db u.table t held.of_listed.lists named) owned.split.is.fit bound
          ∙ ap (λ (x : Answer (List TableRow)). x then λ now. Ok (with_now now)) e

      -- what the call that sets the rows comes to
      pub set_makes : (new : PageMap) (result : Result ⊤ Fault) → UpdatesInTrees pages new size t condition sets result
          → MatchResult result (λ done. IsMade (updating u) db new size l) (IsChangeRefusal (updating u) db)
      set_makes new (Ok done) set_so =
          let set = set_so (schema_tree held.schema held.schema_used) (all_trees owned.split.before) (all_trees owned.split.after) (held.rows_at t.root) (page_size pages size held.rows_at l.tables held.schema trees) refl its_trees owned.split.is.fit in
          record {
            made = with_now set.now;
            reaches = reaches (with_now set.now) (change_is (Ok set.now) set.answer);
            stored = stores_rows pages new size l db (with_now set.now) held t set.now owned set.hold (of_listed set.now);
          }
      set_makes new (Err f) set_so =
          by (set_so (schema_tree held.schema held.schema_used) (all_trees owned.split.before) (all_trees owned.split.after) (held.rows_at t.root) (page_size pages size held.rows_at l.tables held.schema trees) refl its_trees owned.split.is.fit)
        where
          by : IsRefusedUpdate t condition sets (held.rows_at t.root) f → IsChangeRefusal (updating u) db f
          by (inl outside) = inl outside
          by (inr (inl e)) = refuses f (change_is (Err (refusal_of f)) e)
          by (inr (inr (what, wide))) =
              inr (inr (inl (record { is = what; why = inl (wide_in db t u.table (same_folded t.name u.table (found_is (is_table u.table) l.tables t named)) (indexes_listed held.rows_at l db held.of_listed owned.front t owned.back owned.tables_are) wide) })))

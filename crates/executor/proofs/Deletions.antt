-- What a DELETE comes to on the database that pages hold.
use Rattle.std.proofs.Common.{◌≡◌, ◌⊎◌, inl, inr, refl, sym, ap, subst, ◌∙◌, ℕ, Bool, false, List, [], ◌∷◌, ◌++◌, Option, Some, None, Result, Ok, Err, arith}
use Rattle.std.specs.Prelude.{⊤, Contains, MatchResult}
use Rattle.sqlval.specs.Names.{folded}
use Rattle.sqlval.specs.Refusals.{Answer, ◌then◌, NoSuch, Refusal, refusal_of}
use Rattle.sqlval.specs.declared.fault.Fault.{Fault}
use Rattle.sqlval.specs.declared.fault.Fault.TheVariants as fault
use Rattle.sql_syntax.specs.declared.change.Change.TheVariants as kind
use Rattle.sql_syntax.specs.declared.change.Delete.{Delete}
use Rattle.sql_syntax.specs.declared.statement.Statement.{Statement}
use Rattle.sql_syntax.specs.declared.statement.Statement.TheVariants as statement
use Rattle.pages.specs.Map.{PageMap}
use Rattle.db_layout.specs.Layout.{Owner}
use Rattle.sqlval.specs.PageSizes.{IsPageSize}
use Rattle.db_layout.specs.Trees.{AreAmong}
use Rattle.catalog.specs.Database.{ATable, Database, Name, with_object}
use Rattle.catalog.specs.Laws.{ListsOtherRows}
use Rattle.catalog.specs.Listed.{with_rows, table_named, Listed}
use Rattle.catalog.specs.Named.{IsOfListed, KeepsNamed}
use Rattle.catalog.specs.declared.tables.Table.{Table}
use Rattle.query_names.specs.Bound.{IsFaultOf, looked_up, source_seen}
use Rattle.query_names.specs.Checked.{Checked, Meant, ◌and_then◌, also, faults, good, known_map, noted}
use Rattle.query_names.specs.Queries.{resolve_filter}
use Rattle.query_names.specs.Scopes.{beside, source_of}
use Rattle.query_names.specs.declared.scope.ScopeColumn.{ScopeColumn}
use Rattle.query_terms.specs.Terms.{Term}
use Rattle.row_scan.specs.Rows.{TableRow}
use Rattle.row_change.specs.Changes.{Deletes, Resolved, no_outer, resolve_change}
use Rattle.row_change.specs.Choosing.{rows_left}
use Rattle.row_change.specs.Constraints.{table_of}
use Rattle.db_write.specs.Changing.{DeletesInTrees, HoldsFitRows, IsRefusedDelete}
use Rattle.trigger.specs.Binding.{IsFault}
use Rattle.trigger.specs.Effects.{change}
use Rattle.trigger.specs.Laws.{BindsAlone, DeleteTakesChosen, DeleteTakesRows, SetsOffNothing}
use Rattle.executor.specs.Changing.{IsChangeRefusal, IsMade}
use Rattle.db_pages.specs.Stored.{Stores, all_trees, schema_tree}
use Rattle.executor.specs.Works.{Reaches, RefusesWith, change_made, of_answer}
use Rattle.executor.proofs.Insertions.{listed_table, named_folded}
use Rattle.executor.proofs.Owners.{HasTable}
use Rattle.executor.specs.Holding.{HoldsTrees}
use Rattle.executor.proofs.HeldTrees.{among, page_size, rows_with, stores_rows, held_table, trees_held}
use Rattle.executor.proofs.Roots.{own_pages}
use Rattle.executor.proofs.KnownSources.{known_as}
use Rattle.executor.specs.Refusing.{is_view_named}

-- what follows for every listed database, and for the trees of its file
pub record Laws : Type 0 where
  pub lists : ListsOtherRows
  pub named : KeepsNamed
  pub binds : BindsAlone
  pub deletes : DeleteTakesRows
  pub chosen : DeleteTakesChosen

abbrev deleting : Delete → Statement
deleting d = statement.Change (kind.Delete d)

-- ---- its names

abbrev resolved_by : Delete → Checked (List ScopeColumn × Bool) → Checked Resolved
resolved_by d found =
    (noted found and_then λ found. good (source_of (folded d.table) found)) and_then λ s. known_map (Deletes (folded d.table)) (resolve_filter (beside [] (s.name ∷ []) ++ s ∷ []) d.condition)

first_fault : (r : Refusal) (k : Checked Resolved) → Contains (faults (also (r ∷ []) k)) r
first_fault r (Meant x rs) = (0, omega arith, refl)

known_fault : (name : Name) (k : Checked (Option Term)) (r : Refusal) → Contains (faults k) r → Contains (faults (also [] (known_map (Deletes name) k))) r
known_fault name (Meant w rs) r has = has

-- a refusal is one by its statement
pub as_refused : (f : Fault) → RefusesWith (of_answer (Err (refusal_of f))) (refusal_of f)
as_refused f = (0, omega arith, refl)

module _ (laws : Laws) (pages : PageMap) (size : ℕ) (l : Listed) (db : Database) (held : Stores pages size l db) (d : Delete) (still : SetsOffNothing db (kind.Delete d)) (plain : is_view_named l d.table ≡ false) where
  resolved : (found : Option Table) → table_named d.table l.tables ≡ found → resolve_change db no_outer (kind.Delete d) ≡ resolved_by d (looked_up found)
  resolved found named = ap (resolved_by d) (known_as held.rows_at l db held.of_listed.lists d.table plain ∙ ap looked_up named)

  refused_so : (f : Fault) → Contains (faults (resolve_change db no_outer (kind.Delete d))) (refusal_of f) → IsChangeRefusal (deleting d) db f
  refused_so f has = inr (inl (inl ((laws.binds db (kind.Delete d) (refusal_of f) still).1 has)))

  -- a name that no table has
  pub name_refused : (f : Fault) → (f ≡ fault.Memory) ⊎ (refusal_of f ≡ NoSuch) × (table_named d.table l.tables ≡ None) → IsChangeRefusal (deleting d) db f
  name_refused f (inl memory) = inl (inl (inl memory))
  name_refused f (inr (is, none)) =
      refused_so f (subst (λ (k : Checked Resolved). Contains (faults k) (refusal_of f)) (sym (resolved None none)) (subst (Contains (faults (resolved_by d (looked_up None)))) (sym is) (first_fault NoSuch _)))

  module _ (t : Table) (named : table_named d.table l.tables ≡ Some t) where
    abbrev condition_of : Checked (Option Term)
    condition_of = resolve_filter (source_seen d.table t ∷ []) d.condition

    -- a condition whose names are refused
    pub where_refused : (f : Fault) → IsFaultOf (faults condition_of) f → IsChangeRefusal (deleting d) db f
    where_refused f (inl memory) = inl (inl (inl memory))
    where_refused f (inr has) = refused_so f (subst (λ (k : Checked Resolved). Contains (faults k) (refusal_of f)) (sym (resolved (Some t) named)) (known_fault (folded d.table) condition_of (refusal_of f) has))

    -- ---- its table's rows

    module _ (condition : Option Term) (known : condition_of ≡ Meant condition []) where
      bound : resolve_change db no_outer (kind.Delete d) ≡ Meant (Deletes (folded d.table) condition) []
      bound = resolved (Some t) named ∙ ap (λ (k : Checked (Option Term)). also [] (known_map (Deletes (folded d.table)) k)) known

      owned : HasTable held.rows_at l.tables held.held t
      owned = held_table pages size l db held d.table t named

      not_refused : (r : Refusal) → IsFault db (kind.Delete d) r → ⊥
      not_refused r is = nothing (subst (λ (k : Checked Resolved). Contains (faults k) r) bound ((laws.binds db (kind.Delete d) r still).0 is))
        where
          nothing : Contains [] r → ⊥
          nothing has = absurd (omega (arith, has.1))

      -- the database whose table has these rows
      abbrev with_left : List TableRow → Database
      with_left left = with_object db (folded d.table) (ATable (with_rows t left))

      reaches : (made : Database) → change db (kind.Delete d) ≡ Ok made → Reaches (change_made (deleting d) db) made
      reaches made e = (not_refused, subst (λ (a : Answer Database). Reaches (of_answer a) made) (sym e) refl)

      refuses : (f : Fault) → change db (kind.Delete d) ≡ Err (refusal_of f) → IsChangeRefusal (deleting d) db f
      refuses f e = inr (inl (inr (not_refused, subst (λ (a : Answer Database). RefusesWith (of_answer a) (refusal_of f)) (sym e) (as_refused f))))

      of_listed : (left : List TableRow) → IsOfListed (rows_with held.rows_at t.root left) l (with_left left)
      of_listed left = record {
        lists = laws.lists held.rows_at l db (folded d.table) t left held.of_listed.lists (named_folded l.tables d.table t named)
            (λ other u found here. own_pages pages size l db held other (folded d.table) u t found (named_folded l.tables d.table t named) here);
        named = laws.named db (folded d.table) (ATable (with_rows t left)) held.of_listed.named;
        once = held.of_listed.once;
      }

      stored : (new : PageMap) (left : List TableRow) → HoldsFitRows pages new size (schema_tree held.schema held.schema_used) (all_trees owned.split.before) t left (all_trees owned.split.after)
          → Stores new size l (with_left left)
      stored new left now = stores_rows pages new size l db (with_left left) held t left owned now (of_listed left)

      abbrev trees : HoldsTrees pages size held.rows_at l.tables held.schema
      trees = trees_held pages size l db held

      its_trees : AreAmong pages size (schema_tree held.schema held.schema_used) (all_trees owned.split.before) t (held.rows_at t.root) (all_trees owned.split.after)
      its_trees = among pages size held.rows_at l.tables held.schema trees t owned

      listed : table_of db (folded d.table) ≡ Ok (with_rows t (held.rows_at t.root))
      listed = listed_table held.rows_at l db d.table t held.of_listed.lists named

    abbrev Makes : PageMap → Result ⊤ Fault → Type 0
    Makes new result = MatchResult result (λ done. IsMade (deleting d) db new size l) (IsChangeRefusal (deleting d) db)

    abbrev schema : Owner
    schema = schema_tree held.schema held.schema_used

    size_is : IsPageSize size
    size_is = page_size pages size held.rows_at l.tables held.schema (trees_held pages size l db held)

    clear_makes : condition_of ≡ Meant None [] → (new : PageMap) (result : Result ⊤ Fault) → DeletesInTrees pages new size t None result → Makes new result
    clear_makes known new (Ok done) clears =
        let o = owned None known in
        let cleared = clears schema (all_trees o.split.before) (all_trees o.split.after) (held.rows_at t.root) size_is refl (its_trees None known) o.split.is.fit in
        record {
          made = with_left None known [];
          reaches = reaches None known (with_left None known []) (laws.deletes db d t (held.rows_at t.root) still held.of_listed.named (listed None known) o.split.is.fit (bound None known));
          stored = stored None known new [] cleared;
        }
    clear_makes known new (Err f) clears =
        let o = owned None known in inl (clears schema (all_trees o.split.before) (all_trees o.split.after) (held.rows_at t.root) size_is refl (its_trees None known) o.split.is.fit)

    module _ (c : Term) (known : condition_of ≡ Meant (Some c) []) where
      abbrev o : HasTable held.rows_at l.tables held.held t
      o = owned (Some c) known

      change_is : (a : Answer (List TableRow)) → rows_left c (held.rows_at t.root) ≡ a → change db (kind.Delete d) ≡ (a then λ left. Ok (with_left (Some c) known left))
      change_is a e =
          laws.chosen db d t (held.rows_at t.root) c still held.of_listed.named (listed (Some c) known) o.split.is.fit (bound (Some c) known)
          ∙ ap (λ (x : Answer (List TableRow)). x then λ left. Ok (with_left (Some c) known left)) e

      take_makes : (new : PageMap) (result : Result ⊤ Fault) → DeletesInTrees pages new size t (Some c) result → Makes new result
      take_makes new (Ok done) takes =
          let taken = takes schema (all_trees o.split.before) (all_trees o.split.after) (held.rows_at t.root) size_is refl (its_trees (Some c) known) o.split.is.fit in
          record {
            made = with_left (Some c) known taken.left;
            reaches = reaches (Some c) known (with_left (Some c) known taken.left) (change_is (Ok taken.left) taken.answer);
            stored = stored (Some c) known new taken.left taken.hold;
          }
      take_makes new (Err f) takes =
          by (takes schema (all_trees o.split.before) (all_trees o.split.after) (held.rows_at t.root) size_is refl (its_trees (Some c) known) o.split.is.fit)
        where
          by : IsRefusedDelete c (held.rows_at t.root) f → IsChangeRefusal (deleting d) db f
          by (inl outside) = inl outside
          by (inr e) = refuses (Some c) known f (change_is (Err (refusal_of f)) e)

    -- what the call that deletes the rows comes to
    pub taking_makes : (condition : Option Term) → condition_of ≡ Meant condition [] → (new : PageMap) (result : Result ⊤ Fault) → DeletesInTrees pages new size t condition result → Makes new result
    taking_makes None known new result takes = clear_makes known new result takes
    taking_makes (Some c) known new result takes = take_makes c known new result takes

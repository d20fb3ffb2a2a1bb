-- NEW and OLD, whatever rows they are.
use Rattle.std.proofs.Common.{◌≡◌, refl, sym, ap, ◌∙◌, Bool, true, false, List, [], ◌++◌, map, Option, Some, None}
use Rattle.std.specs.Prelude.{codes, is_some}
use Rattle.sqlval.specs.Names.{folded}
use Rattle.sqlval.specs.declared.value.Value.TheVariants.{Null}
use Rattle.sql_syntax.specs.declared.change.Change.{Change}
use Rattle.sql_syntax.specs.declared.change.Change.TheVariants as kind
use Rattle.catalog.specs.Database.{Database, Name}
use Rattle.query_names.specs.Checked.{is_good, meant}
use Rattle.query_names.specs.Views.{look_up}
use Rattle.query_names.specs.declared.scope.ScopeColumn.{ScopeColumn}
use Rattle.query_names.specs.declared.scope.ScopeSource.{ScopeSource}
use Rattle.query_terms.specs.Values.{Row}
use Rattle.query_bind.specs.Named.{AreOuter}
use Rattle.row_change.specs.RowChanges.{Event, Firing, Inserting, Deleting, Updating}
use Rattle.trigger.specs.Binding.{aim_of, program_scope}
use Rattle.trigger.specs.Triggers.{outer_if, outer_of}
use Rattle.trigger_names.specs.Programs.{HasRowsOf, SeeRows, has_new, has_old, row_if}

-- an event at a row
abbrev fired_with : Name → Event → List ScopeColumn → Bool → Option Row → Option Row → Firing
fired_with n e cs b new old = record { target = n; event = e; columns = cs; has_rowid = b; new = new; old = old }

-- a table or view of these columns
abbrev of_columns : List ScopeColumn → Bool → ScopeSource
of_columns cs b = record { name = []; columns = cs; has_rowid = b; needs_name = false; is_known = true }

scope_by : (n : Name) (e : Event) (cs : List ScopeColumn) (b : Bool) (new old : Option Row)
    → (outer_of (fired_with n e cs b new old)).scope ≡ row_if (is_some new) (codes "new") (of_columns cs b) ++ row_if (is_some old) (codes "old") (of_columns cs b)
scope_by n e cs b None None = refl
scope_by n e cs b None (Some r) = refl
scope_by n e cs b (Some r) None = refl
scope_by n e cs b (Some r) (Some s) = refl

-- what programs see at a row, by its columns
pub seen_as : (firing : Firing) (s : ScopeSource) (e : Event) → firing.columns ≡ s.columns → firing.has_rowid ≡ s.has_rowid → HasRowsOf e firing
    → (outer_of firing).scope ≡ row_if (has_new e) (codes "new") s ++ row_if (has_old e) (codes "old") s
seen_as firing s e columns rowid has =
    scope_by firing.target firing.event firing.columns firing.has_rowid firing.new firing.old
    ∙ (ap (λ cs. row_if (is_some firing.new) (codes "new") (of_columns cs firing.has_rowid) ++ row_if (is_some firing.old) (codes "old") (of_columns cs firing.has_rowid)) columns
    ∙ (ap (λ b. row_if (is_some firing.new) (codes "new") (of_columns s.columns b) ++ row_if (is_some firing.old) (codes "old") (of_columns s.columns b)) rowid
    ∙ (ap (λ there. row_if there (codes "new") s ++ row_if (is_some firing.old) (codes "old") s) has.0
    ∙ ap (λ there. row_if (has_new e) (codes "new") s ++ row_if there (codes "old") s) has.1)))

-- they are found by their names alone
pub seen_outer : (e : Event) (s : ScopeSource) → AreOuter (row_if (has_new e) (codes "new") s ++ row_if (has_old e) (codes "old") s)
seen_outer Inserting s = ((refl, refl), tt)
seen_outer Deleting s = ((refl, refl), tt)
seen_outer (Updating ns) s = ((refl, refl), ((refl, refl), tt))

-- ---- before any row is known

nothing : Row
nothing = record { rowid = Null; values = [] }

module _ (db : Database) where
  -- the columns of the table or view of a change
  abbrev columns_in : Change → List ScopeColumn
  columns_in c = (meant (look_up db (aim_of c).target)).0

  abbrev has_rowid_in : Change → Bool
  has_rowid_in c = (meant (look_up db (aim_of c).target)).1

  seen_first : (c : Change) → is_good (look_up db (aim_of c).target) ≡ true
      → (program_scope db (aim_of c)).scope
      ≡ row_if (has_new (aim_of c).event) (codes "new") (of_columns (columns_in c) (has_rowid_in c))
      ++ row_if (has_old (aim_of c).event) (codes "old") (of_columns (columns_in c) (has_rowid_in c))
  seen_first (kind.Insert i) good =
      ap (λ known. (outer_if known (fired_with (folded i.table) Inserting (columns_in (kind.Insert i)) (has_rowid_in (kind.Insert i)) (Some nothing) None)).scope) good
  seen_first (kind.Update u) good =
      ap (λ known. (outer_if known (fired_with (folded u.table) (Updating (map (λ a. folded a.column) u.assignments)) (columns_in (kind.Update u)) (has_rowid_in (kind.Update u)) (Some nothing) (Some nothing))).scope) good
  seen_first (kind.Delete d) good =
      ap (λ known. (outer_if known (fired_with (folded d.table) Deleting (columns_in (kind.Delete d)) (has_rowid_in (kind.Delete d)) None (Some nothing))).scope) good

pub see_rows : SeeRows
see_rows db c firing good columns rowid has =
    seen_first db c good ∙ sym (seen_as firing (of_columns (meant (look_up db (aim_of c).target)).0 (meant (look_up db (aim_of c).target)).1) (aim_of c).event columns rowid has)

-- A change whose names are known: what looking them up answers, and the triggers around each row.
use Rattle.std.proofs.Common.{◌≡◌, inl, inr, refl, sym, ap, subst, ◌∙◌, ℕ, List, [], ◌∷◌, Bool, arith}
use Rattle.std.specs.List.{Contains, find}
use Rattle.std.specs.Str.{bytes_eq}
use Rattle.sqlval.specs.Faults.{IsOutside}
use Rattle.sqlval.specs.Names.{folded}
use Rattle.sqlval.specs.Refusals.{Refusal, refusal_of}
use Rattle.sqlval.specs.declared.fault.Fault.{Fault}
use Rattle.sql_syntax.specs.declared.change.Change.{Change}
use Rattle.catalog.specs.Database.{Database, Name}
use Rattle.catalog.specs.Listed.{Listed, table_named}
use Rattle.pages.specs.Map.{PageMap}
use Rattle.query_names.specs.Bound.{IsFaultOf}
use Rattle.query_names.specs.Checked.{Checked, Meant, faults, good, known_map, meant}
use Rattle.query_names.specs.Known.{columns_in}
use Rattle.query_names.specs.Laws.{KnowsListed}
use Rattle.query_names.specs.Scopes.{source_of}
use Rattle.query_names.specs.Views.{look_up}
use Rattle.query_names.specs.declared.scope.ScopeColumn.{ScopeColumn}
use Rattle.query_names.specs.declared.scope.ScopeSource.{ScopeSource}
use Rattle.query_names.proofs.ColumnNames.{folded_twice}
use Rattle.row_change.specs.Changes.{Outer, resolve_change}
use Rattle.trigger.specs.Binding.{aim_of}
use Rattle.trigger_bind.specs.Knowing.{KnowsAll}
use Rattle.db_pages.specs.Stored.{Stores}
use Rattle.executor_programs.specs.Rows.{columns_listed_of}
use Rattle.executor_programs.proofs.KnownGiven.{aim_known, look_same}

-- names that are known are refused for memory alone
pub only_memory : (db : Database) (seen : Outer) (c : Change) (f : Fault) → KnowsAll db seen c → IsFaultOf (faults (resolve_change db seen c)) f → IsOutside f
only_memory db seen c f knows (inl memory) = inl memory
only_memory db seen c f knows (inr there) = absurd (knows 0 (refusal_of f) there)

-- they aren't refused
pub none_refused : (db : Database) (seen : Outer) (c : Change) → KnowsAll db seen c → faults (resolve_change db seen c) ≡ []
none_refused db seen c knows = by (faults (resolve_change db seen c)) (knows 0)
  where
    by : (rs : List Refusal) → ((r : Refusal) → Contains rs r → ⊥) → rs ≡ []
    by [] none = refl
    by (r ∷ rs) none = absurd (none r (0, omega arith, refl))

-- what the program sees, by the same sources
pub same_outer : (scope : List ScopeSource) (seen : Outer) (P : Outer → Type 0) → scope ≡ seen.scope → P (record { scope = scope; rows = seen.rows }) → P seen
same_outer scope seen P same p = subst (λ (s : List ScopeSource). P (record { scope = s; rows = seen.rows })) same p

abbrev seen_as : Name → List ScopeColumn × Bool → ScopeSource
seen_as name found = source_of (folded name) (good found)

module _ (db : Database) (seen : Outer) (c : Change) (name : Name) (same : folded name ≡ (aim_of c).target) (known : faults (resolve_change db seen c) ≡ []) where
  name_good : faults (look_up db name) ≡ []
  name_good = ap faults (sym (look_same db seen c name same)) ∙ aim_known db seen c known

  pub source_refused : (f : Fault) → IsFaultOf (faults (known_map (seen_as name) (look_up db name))) f → IsOutside f
  source_refused f (inl memory) = inl memory
  source_refused f (inr there) = absurd (none (subst (λ (rs : List Refusal). Contains rs (refusal_of f)) (on (look_up db name) ∙ name_good) there))
    where
      on : (k : Checked (List ScopeColumn × Bool)) → faults (known_map (seen_as name) k) ≡ faults k
      on (Meant x rs) = refl

      none : Contains [] (refusal_of f) → ⊥
      none there = omega (arith, there.1)

  module _ (listed : KnowsListed) (l : Listed) (pages : PageMap) (size : ℕ) (stored : Stores pages size l db) (source : ScopeSource) (is : known_map (seen_as name) (look_up db name) ≡ Meant source []) where
    found_is : meant (look_up db name) ≡ meant (columns_in 64 l [] (aim_of c).target)
    found_is = ap meant (sym (look_same db seen c name same) ∙ listed stored.rows_at l db stored.of_listed.lists 64 [] (aim_of c).target)

    pub source_columns : source.columns ≡ columns_listed_of l (aim_of c).target
    source_columns = on (look_up db name) is ∙ ap (λ (x : List ScopeColumn × Bool). x.0) found_is
      where
        on : (k : Checked (List ScopeColumn × Bool)) → known_map (seen_as name) k ≡ Meant source [] → source.columns ≡ (meant k).0
        on (Meant x rs) e = sym (ap (λ (k : Checked ScopeSource). (meant k).columns) e)

    pub source_rowid : source.has_rowid ≡ (meant (columns_in 64 l [] (aim_of c).target)).1
    source_rowid = on (look_up db name) is ∙ ap (λ (x : List ScopeColumn × Bool). x.1) found_is
      where
        on : (k : Checked (List ScopeColumn × Bool)) → known_map (seen_as name) k ≡ Meant source [] → source.has_rowid ≡ (meant k).1
        on (Meant x rs) e = sym (ap (λ (k : Checked ScopeSource). (meant k).has_rowid) e)

-- the listed table that a change names, whichever letters are large
pub named_as : (l : Listed) (c : Change) (name : Name) → folded name ≡ (aim_of c).target → table_named (aim_of c).target l.tables ≡ table_named name l.tables
named_as l c name same = ap (λ (m : Name). find (λ t. bytes_eq (folded t.name) m) l.tables) (ap folded (sym same) ∙ folded_twice name)

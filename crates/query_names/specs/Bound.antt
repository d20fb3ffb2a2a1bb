-- What is looked up among listed tables, beside what its text stands for.
use Rattle.std.specs.Prelude.{◌≡◌, ◌⊎◌, ⊤, ℕ, Bool, true, false, List, [], ◌∷◌, length, map, Option, Some, None}
use Rattle.std.specs.List.{Contains}
use Rattle.sqlval.specs.Lists.{any_twice}
use Rattle.sqlval.specs.Names.{folded, is_same_name}
use Rattle.sqlval.specs.Refusals.{Refusal, refusal_of, NoSuch}
use Rattle.sqlval.specs.declared.fault.Fault.{Fault}
use Rattle.sqlval.specs.declared.fault.Fault.TheVariants.{Memory}
use Rattle.catalog.specs.Database.{Name}
use Rattle.catalog.specs.Listed.{with_rows, table_named}
use Rattle.catalog.specs.declared.tables.Column.{Column}
use Rattle.catalog.specs.declared.tables.Table.{Table}
use Rattle.query_names.specs.Checked.{Checked, good, bad}
use Rattle.query_names.specs.Scopes.{source_of, table_scope}
use Rattle.query_names.specs.declared.scope.ScopeColumn.{ScopeColumn}
use Rattle.query_names.specs.declared.scope.ScopeSource.{ScopeSource}

-- ---- tables

-- a table's column, as expressions see it
abbrev pub column_seen : Column → ScopeColumn
column_seen c = record { name = Some (folded c.name); affinity = Some c.affinity; collation = c.collation; is_rowid = false }

-- the columns of a listed table, which has a rowid
abbrev pub columns_seen : Table → List ScopeColumn × Bool
columns_seen t = (table_scope (with_rows t []), true)

-- what a name stands for that this table has, or none
abbrev pub looked_up : Option Table → Checked (List ScopeColumn × Bool)
looked_up None = bad ([], false) NoSuch
looked_up (Some t) = good (columns_seen t)

-- two columns have one name
abbrev pub is_twice_named : List Column → Bool
is_twice_named cs = any_twice is_same_name (map (λ c. c.name) cs)

-- each listed table's columns have different names
abbrev pub AreOnce : List Table → Type 0
AreOnce tables = (name : Name) (t : Table) → table_named name tables ≡ Some t → is_twice_named t.columns ≡ false

-- a table as the source of a query, by its name there
abbrev pub source_seen : Name → Table → ScopeSource
source_seen name t = source_of (folded name) (good (columns_seen t))

-- ---- refusals

-- one of these refusals, or the lack of memory
abbrev pub IsFaultOf : List Refusal → Fault → Type 0
IsFaultOf rs f = (f ≡ Memory) ⊎ Contains rs (refusal_of f)

-- ---- rows

-- the items of both lists, each with its own
abbrev pub EachOf : {A B : Type 0} → (A → B → Type 0) → List A → List B → Type 0
EachOf P [] [] = ⊤
EachOf P (x ∷ xs) (y ∷ ys) = P x y × EachOf P xs ys
EachOf P _ _ = ⊥

-- how many values each row has: one for each listed column, or for each of the table
abbrev pub count_wanted : Option (List Name) → Table → ℕ
count_wanted None t = length t.columns
count_wanted (Some names) t = length names

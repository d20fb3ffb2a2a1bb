-- What CREATE TABLE makes, and each of its refusals (SQL As Understood By SQLite, "CREATE TABLE").
use Rattle.std.specs.Prelude.{ℕ, Bool, true, false, not, ◌&&◌, List, [], ◌∷◌, ◌++◌, map, Option, Some, None, unwrap_or, if◌then◌else◌, codes, filter, filter_map, flat_map, slice_get}
use Rattle.std.specs.List.{list_any, last_or}
use Rattle.std.specs.Cmp.Lexicographic.{pointwise}
use Rattle.sqlval.specs.Affinity.{declared_affinity}
use Rattle.sqlval.specs.Lists.{distinct, any_twice}
use Rattle.sqlval.specs.Names.{folded, is_same_name}
use Rattle.sqlval.specs.Refusals.{Misuse, Unsupported}
use Rattle.sqlval.specs.declared.affinity.Affinity.{Affinity}
use Rattle.sqlval.specs.declared.affinity.Affinity.TheVariants as kind
use Rattle.sqlval.specs.declared.collation.Collation.{Collation}
use Rattle.sqlval.specs.declared.collation.Collation.TheVariants.{Binary}
use Rattle.sqlval.specs.declared.value.Value.{Value}
use Rattle.sqlval.specs.declared.value.Value.TheVariants.{Null}
use Rattle.sql_syntax.specs.Tree.{Tree}
use Rattle.sql_syntax.specs.declared.create.ColumnDefinition.{ColumnDefinition}
use Rattle.sql_syntax.specs.declared.create.ColumnRule.{ColumnRule}
use Rattle.sql_syntax.specs.declared.create.ColumnRule.TheVariants as column
use Rattle.sql_syntax.specs.declared.create.TableDefinition.{TableDefinition}
use Rattle.sql_syntax.specs.declared.create.TableRule.{TableRule}
use Rattle.sql_syntax.specs.declared.create.TableRule.TheVariants as rule
use Rattle.catalog.specs.Database.{Name, Table, TableColumn}
use Rattle.catalog.specs.Listed.{type_text}
use Rattle.query_terms.specs.Terms.{Term}
use Rattle.query_names.specs.Expressions.{resolve, resolve_collation}
use Rattle.query_names.specs.Checked.{Checked, good, bad, both, known_map, known_all, ◌and_then◌, unless}
use Rattle.query_names.specs.Scopes.{table_source, resolve_places, is_doubled}
use Rattle.query_names.specs.declared.scope.ScopeSource.{ScopeSource}

-- ---- columns

-- the last of the values that the rules give
abbrev pub last_of : {A : Type 0} → (ColumnRule → Option A) → A → List ColumnRule → A
last_of f a [] = a
last_of f a (r ∷ rs) = last_of f (unwrap_or (f r) a) rs

abbrev pub default_of : ColumnRule → Option Value
default_of (column.Default v) = Some v
default_of _ = None

abbrev pub collation_in : ColumnRule → Option Name
collation_in (column.Collate n) = Some n
collation_in _ = None

abbrev pub is_not_null : ColumnRule → Bool
is_not_null column.NotNull = true
is_not_null _ = false

-- a type of REAL affinity isn't supported
abbrev pub affinity_known : Option Affinity → Checked Affinity
affinity_known None = bad kind.Blob Unsupported
affinity_known (Some a) = good a

-- each collation that is written must be one, and of several the last counts; BINARY where none is
abbrev pub collation_of : List ColumnRule → Checked Collation
collation_of rules = known_map (λ ks. unwrap_or (last_or None ks) Binary) (known_all (map resolve_collation (filter_map collation_in rules)))

-- of several DEFAULTs too the last counts
abbrev pub column_of : ColumnDefinition → Checked TableColumn
column_of c = both (λ a k. record { name = folded c.name; affinity = a; collation = k; is_filled = list_any is_not_null c.rules; default = last_of default_of Null c.rules })
    (affinity_known (declared_affinity (type_text c))) (collation_of c.rules)

-- ---- keys and CHECKs

-- whether it is a PRIMARY KEY, and its columns
abbrev pub WrittenKey : Type 0
WrittenKey = Bool × List Name

abbrev pub column_key : Name → ColumnRule → List WrittenKey
column_key n column.PrimaryKey = (true, n ∷ []) ∷ []
column_key n column.Unique = (false, n ∷ []) ∷ []
column_key n _ = []

abbrev pub table_key : TableRule → List WrittenKey
table_key (rule.PrimaryKey ns) = (true, ns) ∷ []
table_key (rule.Unique ns) = (false, ns) ∷ []
table_key _ = []

-- each UNIQUE and PRIMARY KEY: those of the columns in their order, then the table's
abbrev pub keys_of : TableDefinition → List WrittenKey
keys_of d = flat_map (λ c. flat_map (column_key c.name) c.rules) d.columns ++ flat_map table_key d.rules

abbrev pub column_check : ColumnRule → List Tree
column_check (column.Check e) = e ∷ []
column_check _ = []

abbrev pub table_check : TableRule → List Tree
table_check (rule.Check e) = e ∷ []
table_check _ = []

-- in the order of their text
abbrev pub checks_of : TableDefinition → List Tree
checks_of d = flat_map (λ c. flat_map column_check c.rules) d.columns ++ flat_map table_check d.rules

-- the type is the one word INTEGER
abbrev pub is_integer : Option ColumnDefinition → Bool
is_integer None = false
is_integer (Some c) = pointwise is_same_name c.declared.words (codes "integer" ∷ []) && not c.declared.is_sized

-- the one column of a primary key that is another name of the rowid (SQL As Understood By SQLite, "CREATE TABLE", "ROWIDs and the INTEGER PRIMARY KEY")
abbrev pub rowid_key : List ColumnDefinition → Bool × List ℕ → Option ℕ
rowid_key cs (true, i ∷ []) = if is_integer (slice_get cs i) then Some i else None
rowid_key cs _ = None

abbrev pub has_no_rowid_key : List ColumnDefinition → Bool × List ℕ → Bool
has_no_rowid_key cs k = elim (rowid_key cs k) [ None ↦ true | Some i ↦ false ]

abbrev pub first_some : {A B : Type 0} → (A → Option B) → List A → Option B
first_some f [] = None
first_some f (x ∷ xs) = elim (f x) [ Some y ↦ Some y | None ↦ first_some f xs ]

-- the collation of a column
abbrev pub collation_at : List TableColumn → ℕ → Collation
collation_at cs i = elim (slice_get cs i) [ None ↦ Binary | Some c ↦ c.collation ]

abbrev pub resolve_key : ScopeSource → WrittenKey → Checked (Bool × List ℕ)
resolve_key s k = known_map (λ is. (k.0, is)) (resolve_places s k.1)

-- ---- the table

-- a table that holds no row
abbrev pub without_rows : List TableColumn → Option ℕ → List Term → Table
without_rows cs key checks = record { columns = cs; rowid_column = key; checks = checks; rows = [] }

-- the first column of each name
abbrev pub firsts : List TableColumn → List TableColumn
firsts cs = distinct (λ x y. is_same_name x.name y.name) cs

-- as the keys and CHECKs see the table; a name that two columns have means the first
abbrev pub new_source : Name → List TableColumn → ScopeSource
new_source n cs = table_source n (without_rows (firsts cs) None [])

-- the table that its text makes, without rows, and the columns of each index that its keys make
abbrev pub table_made : TableDefinition → Checked (Table × List (List (ℕ × Collation)))
table_made d =
    unless (is_doubled (map (λ c. c.name) d.columns)) Misuse
    (unless (any_twice (λ k l. k.0 && l.0) (keys_of d)) Misuse
    (unless (any_twice (λ k l. pointwise is_same_name k.1 l.1) (keys_of d)) Misuse
    (known_all (map column_of d.columns) and_then λ columns.
    known_all (map (resolve false (new_source d.name columns ∷ [])) (checks_of d)) and_then λ checks.
    known_all (map (resolve_key (new_source d.name columns)) (keys_of d)) and_then λ keys.
    good (
      without_rows columns (first_some (rowid_key d.columns) keys) checks,
      map (λ k. map (λ i. (i, collation_at columns i)) k.1) (filter (has_no_rowid_key d.columns) keys),
    ))))

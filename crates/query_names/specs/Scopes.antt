-- The sources that an expression sees, and which column a name means (SQL As Understood By SQLite, "SELECT", "Determination of input data").
use Rattle.std.specs.Prelude.{ℕ, zero, suc, Bool, true, false, not, ◌&&◌, List, [], ◌∷◌, ◌++◌, map, length, Option, Some, None, if◌then◌else◌, ◌==◌, codes}
use Rattle.std.specs.List.{list_any}
use Rattle.sqlval.specs.Lists.{any_twice}
use Rattle.sqlval.specs.Names.{folded, is_same_name}
use Rattle.sqlval.specs.Refusals.{Misuse}
use Rattle.sqlval.specs.declared.affinity.Affinity.TheVariants as kind
use Rattle.sqlval.specs.declared.collation.Collation.TheVariants.{Binary}
use Rattle.sqlval.specs.declared.value.Value.TheVariants.{Null}
use Rattle.catalog.specs.Database.{Name, Table, TableColumn}
use Rattle.query_names.specs.declared.scope.ScopeColumn.{ScopeColumn}
use Rattle.query_names.specs.declared.scope.ScopeSource.{ScopeSource}
use Rattle.query_names.specs.Checked.{Checked, good, meant, is_good, known_all, unless, the_one}
use Rattle.query_terms.specs.Terms.{Term, Const, Cell}
use Rattle.query_terms.specs.declared.tree.Place.{Place}
use Rattle.query_terms.specs.declared.tree.Place.TheVariants.{At, RowId}

-- a source as its table or view gives it: its columns, and whether it has a rowid
abbrev pub source_of : Name → Checked (List ScopeColumn × Bool) → ScopeSource
source_of n k = record { name = n; columns = (meant k).0; has_rowid = (meant k).1; needs_name = false; is_known = is_good k }

-- NEW and OLD can't be reached where a source of the statement has that name: a column of that name is the source's, or there is none
abbrev pub reached : List Name → ScopeSource → ScopeSource
reached names s = if list_any (is_same_name s.name) names then record s { columns = []; has_rowid = false; is_known = true } else s

-- NEW and OLD, as far as they can be reached beside sources of these names
abbrev pub beside : List ScopeSource → List Name → List ScopeSource
beside outer names = map (reached names) outer

abbrev pub is_named : Name → Option Name → Bool
is_named n None = false
is_named n (Some m) = is_same_name n m

-- what stands for the column at this place: the rowid where it is another name of it
abbrev pub place_meant : ℕ → ScopeColumn → Place
place_meant i c = if c.is_rowid then RowId else At i

-- the columns of that name
abbrev pub named_from : ℕ → ℕ → Name → List ScopeColumn → List Term
named_from s i n [] = []
named_from s i n (c ∷ cs) =
    let rest = named_from s (suc i) n cs in
    if is_named n c.name then (Cell s (place_meant i c) c.affinity c.collation ∷ rest) else rest

-- the columns of that name, or else the rowid
abbrev pub named_in : ℕ → Name → ScopeSource → List Term
named_in s n source =
    let columns = named_from s 0 n source.columns in
    if length columns == 0 && source.has_rowid && is_same_name n (codes "rowid") then (Cell s RowId (Some kind.Integer) Binary ∷ []) else columns

-- the source may be meant by what is written before a column
abbrev pub fits : Option Name → ScopeSource → Bool
fits None source = not source.needs_name
fits (Some q) source = is_same_name q source.name

-- what a column may mean among these sources, counted from s
abbrev pub found : ℕ → Option Name → Name → List ScopeSource → List Term
found s q n [] = []
found s q n (source ∷ sources) = (if fits q source then named_in s n source else []) ++ found (suc s) q n sources

-- the column that a name means, with the source that is written before it or none
abbrev pub resolve_column : List ScopeSource → Option Name → Name → Checked Term
resolve_column scope q n = the_one (list_any (λ s. fits q s && not s.is_known) scope) (Const Null) (found 0 q n scope)

-- a table's column
abbrev pub column_scope : TableColumn → ScopeColumn
column_scope c = record { name = Some c.name; affinity = Some c.affinity; collation = c.collation; is_rowid = false }

abbrev marked_at : ℕ → List ScopeColumn → List ScopeColumn
marked_at i [] = []
marked_at zero (c ∷ cs) = record c { is_rowid = true } ∷ cs
marked_at (suc i) (c ∷ cs) = c ∷ marked_at i cs

-- the columns, where that at this place is another name of the rowid
abbrev pub with_rowid_at : Option ℕ → List ScopeColumn → List ScopeColumn
with_rowid_at None columns = columns
with_rowid_at (Some place) columns = marked_at place columns

-- a table's columns
abbrev pub table_scope : Table → List ScopeColumn
table_scope t = with_rowid_at t.rowid_column (map column_scope t.columns)

-- a table as a source
abbrev pub table_source : Name → Table → ScopeSource
table_source n t = source_of (folded n) (good (table_scope t, true))

-- the places of the columns of that name, counted from i
abbrev pub places_from : ℕ → Name → List ScopeColumn → List ℕ
places_from i n [] = []
places_from i n (c ∷ cs) =
    let rest = places_from (suc i) n cs in
    elim c.name [ None ↦ rest | Some m ↦ (if is_same_name n m then (i ∷ rest) else rest) ]

-- the place of a column by name
abbrev pub place_of : ScopeSource → Name → Checked ℕ
place_of s n = the_one (not s.is_known) 0 (places_from 0 n s.columns)

-- one name twice
abbrev pub is_doubled : List Name → Bool
is_doubled = any_twice is_same_name

-- the places of a list of columns, none of them twice
abbrev pub resolve_places : ScopeSource → List Name → Checked (List ℕ)
resolve_places s ns = unless (is_doubled ns) Misuse (known_all (map (place_of s) ns))

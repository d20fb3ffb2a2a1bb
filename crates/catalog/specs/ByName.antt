-- What lies by rising name, so that what has a name is found by halves; and tables that do.
use Rattle.std.specs.Prelude.{◌≡◌, ℕ, true, List, [], ◌∷◌, map, slice_index_or}
use Rattle.std.specs.List.{AllByRecursion, find}
use Rattle.std.specs.List.Sorted.{IsPartitionPoint}
use Rattle.std.specs.declared.alloc.Global.{Global}
use Rattle.std.specs.declared.cmp.Ordering.{Ordering}
use Rattle.std.specs.declared.cmp.Ordering.TheVariants.{Less, Greater}
use Rattle.std.specs.declared.rc.Rc.{Rc}
use Rattle.sqlval.specs.Names.{folded, is_same_name}
use Rattle.catalog.specs.Database.{Name, name_order}
use Rattle.catalog.specs.declared.tables.Table.{Table}

-- the order of names without the case of letters
abbrev pub compared_names : Name → Name → Ordering
compared_names a b = name_order (folded a) (folded b)

-- the names of these rise, each once
abbrev pub RiseBy : {A : Type 0} → (A → Name) → List A → Type 0
RiseBy own [] = Unit {0}
RiseBy own (x ∷ xs) = AllByRecursion (λ y. compared_names (own x) (own y) ≡ Less) xs × RiseBy own xs

-- the name of a table
abbrev pub table_name : Table → Name
table_name table = table.name

-- the names of tables rise, each once
abbrev pub Rise : List Table → Type 0
Rise tables = RiseBy table_name tables

-- these tables by rising name: of each name that one of them has the first
pub record AreByName (tables by_name : List Table) : Type 0 where
  pub rise : Rise by_name
  pub first : (name : Name) → find (λ t. is_same_name t.name name) by_name ≡ find (λ t. is_same_name t.name name) tables

-- what handles share
abbrev pub in_handles : {A : Type 0} → List (Rc A Global) → List A
in_handles handles = map (λ handle. handle.value) handles

-- what stands at a place has this name
abbrev pub HasNameAt : {A : Type 0} → (A → Name) → Name → List (Rc A Global) → ℕ → Type 0
HasNameAt {A} own name handles place = (d : Rc A Global) → is_same_name (own (slice_index_or handles place d).value) name ≡ true

-- those before a place have names before this one, and those from it on names after it
abbrev pub IsGapOfName : {A : Type 0} → (A → Name) → Name → List (Rc A Global) → ℕ → Type 0
IsGapOfName own name handles place = IsPartitionPoint (λ handle. compared_names (own handle.value) name ≡ Less) (λ handle. compared_names (own handle.value) name ≡ Greater) handles place

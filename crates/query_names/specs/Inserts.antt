-- What an INSERT's list of columns and its VALUES are among listed tables, and why it is refused (SQL As Understood By SQLite, "INSERT").
use Rattle.std.specs.Prelude.{◌≡◌, ◌⊎◌, ⊤, ℕ, Bool, true, false, List, map, length, Option, Some, None, is_none}
use Rattle.std.specs.List.{list_any, position_from, range_with_len}
use Rattle.sqlval.specs.Names.{is_same_name}
use Rattle.sqlval.specs.Refusals.{Refusal, refusal_of, NoSuch, Misuse}
use Rattle.sqlval.specs.declared.fault.Fault.{Fault}
use Rattle.sqlval.specs.declared.fault.Fault.TheVariants as fault
use Rattle.sql_syntax.specs.declared.change.Insert.{Insert}
use Rattle.catalog.specs.Database.{Name}
use Rattle.catalog.specs.Listed.{place_named, table_named}
use Rattle.catalog.specs.declared.tables.Column.{Column}
use Rattle.catalog.specs.declared.tables.Table.{Table}
use Rattle.query_names.specs.Scopes.{is_doubled}

-- ---- columns

-- For each column, where its value stands in a row given: at the column's own place without a list of columns, and else at that
-- of the column's name in the list, if it is there.
abbrev pub places_in : List Column → Option (List Name) → List (Option ℕ)
places_in columns None = map Some (range_with_len 0 (length columns))
places_in columns (Some names) = map (λ column. position_from (λ name. is_same_name name column.name) 0 names) columns

-- one of the names is no column's
abbrev pub has_unknown : List Column → List Name → Bool
has_unknown columns names = list_any (λ name. is_none (place_named name columns)) names

-- each name of the list is a column's, and stands there once
abbrev pub AreColumns : List Column → Option (List Name) → Type 0
AreColumns columns None = ⊤
AreColumns columns (Some names) = (has_unknown columns names ≡ false) × (is_doubled names ≡ false)

-- why the list isn't so
abbrev pub IsListRefusal : List Column → Option (List Name) → Refusal → Type 0
IsListRefusal columns None r = ⊥
IsListRefusal columns (Some names) r = (r ≡ NoSuch) × (has_unknown columns names ≡ true) ⊎ (r ≡ Misuse) × (is_doubled names ≡ true)

-- ---- refusals

-- Why its table and columns aren't found: memory is short, no table has the name, or the list of columns is refused.
abbrev pub IsTargetFault : List Table → Insert → Fault → Type 0
IsTargetFault tables i f =
    (f ≡ fault.Memory)
    ⊎ (refusal_of f ≡ NoSuch) × (table_named i.table tables ≡ None)
    ⊎ ((t : Table) × (table_named i.table tables ≡ Some t) × IsListRefusal t.columns i.columns (refusal_of f))

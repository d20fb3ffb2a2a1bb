-- How entries are made and compared.
use Rattle.std.specs.Prelude.{ℕ, ◌+◌, Bool, true, false, not, ◌&&◌, ◌||◌, List, [], ◌∷◌, ◌++◌, map, slice_get, slice_index_or, unwrap_or}
use Rattle.std.specs.Ordering.{is_eq, ordering_then}
use Rattle.std.specs.declared.cmp.Ordering.{Ordering}
use Rattle.sqlval.specs.Order.{order}
use Rattle.sqlval.specs.declared.collation.Collation.TheVariants.{Binary}
use Rattle.sqlval.specs.declared.value.Value.{Value}
use Rattle.sqlval.specs.declared.value.Value.TheVariants.{Null}
use Rattle.query_names.specs.Keys.{is_null}
use Rattle.query_terms.specs.Values.{Row}
use Rattle.tree_index.specs.Entries.{Entry}
use Rattle.catalog.specs.declared.tables.IndexColumn.{IndexColumn}

-- the value at a place, NULL past the last
abbrev pub value_or_null : List Value → ℕ → Value
value_or_null values place = unwrap_or (slice_get values place) Null

-- the entry of a row as a query's source has it
abbrev pub indexed_of : List IndexColumn → Row → Entry
indexed_of columns row = map (λ column. slice_index_or row.values column.place Null) columns ++ row.rowid ∷ []

-- by the columns, the first of which has its value at this place of an entry, then by the rowid; a missing value is NULL
abbrev pub ranked : ℕ → List IndexColumn → Entry → Entry → Ordering
ranked place [] a b = order Binary (value_or_null a place) (value_or_null b place)
ranked place (column ∷ columns) a b =
    ordering_then (order column.collation (value_or_null a place) (value_or_null b place)) (ranked (place + 1) columns a b)

-- two entries have equal values of the columns, the first of which has its value at this place, and none is NULL; a missing value is NULL
abbrev pub have_one_key : ℕ → List IndexColumn → Entry → Entry → Bool
have_one_key place [] a b = true
have_one_key place (column ∷ columns) a b =
    (not (is_null (value_or_null a place)) && is_eq (order column.collation (value_or_null a place) (value_or_null b place))) && have_one_key (place + 1) columns a b

-- some item and the next one are so
abbrev pub any_beside : {A : Type 0} → (A → A → Bool) → List A → Bool
any_beside same [] = false
any_beside same (x ∷ []) = false
any_beside same (x ∷ y ∷ rest) = same x y || any_beside same (y ∷ rest)

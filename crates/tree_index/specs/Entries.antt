-- The entries of an index and their order (Database File Format, "Representation Of SQL Indices").
use Rattle.std.specs.Prelude.{◌≡◌, ◌+◌, Bool, true, false, not, List, [], ◌∷◌, ◌++◌, map, length, take, filter, if◌then◌else◌, ⊤}
use Rattle.std.specs.declared.cmp.Ordering.{Ordering}
use Rattle.std.specs.Ordering.{is_gt, is_lt, is_eq}
use Rattle.std.specs.List.{AllByRecursion, list_any}
use Rattle.sqlval.specs.Lists.{SortKey, keys_cmp, is_rising, placed}
use Rattle.sqlval.specs.declared.collation.Collation.{Collation}
use Rattle.sqlval.specs.declared.collation.Collation.TheVariants.{Binary}
use Rattle.sqlval.specs.declared.value.Value.{Value}

-- the values of an entry: those of the indexed columns, then the rowid
abbrev pub Entry : Type 0
Entry = List Value

abbrev pub rising_key : Collation → SortKey
rising_key c = record { collation = c; descending = false }

-- the columns' collations, and that of the rowid
abbrev pub keys_of : List Collation → List SortKey
keys_of columns = map rising_key columns ++ rising_key Binary ∷ []

-- Value by value, under the columns' collations, the rowid last (Database File Format, "Record Sort Order"). The first values of an
-- entry equal each entry that begins with them.
abbrev pub entry_cmp : List Collation → Entry → Entry → Ordering
entry_cmp columns = keys_cmp (keys_of columns)

-- entries of so many columns and a rowid, each once, in rising order
pub record AreEntries (columns : List Collation) (entries : List Entry) : Type 0 where
  pub whole : AllByRecursion (λ entry. length entry ≡ length columns + 1) entries
  pub rising : is_rising (entry_cmp columns) entries ≡ true

-- whether one that the order can't tell from this entry is among these
abbrev pub has_entry : List Collation → Entry → List Entry → Bool
has_entry columns entry entries = list_any (λ other. is_eq (entry_cmp columns entry other)) entries

-- the entries with this one, before the first that isn't less
abbrev pub with_entry : List Collation → Entry → List Entry → List Entry
with_entry columns entry entries = placed (entry_cmp columns) entry entries

-- the values of the columns, without the rowid
abbrev pub key_in : List Collation → Entry → List Value
key_in columns entry = take (length columns) entry

-- the entries with this one, before the first that isn't less than a key
abbrev pub put_before : List Collation → List Value → Entry → List Entry → List Entry
put_before columns key entry [] = entry ∷ []
put_before columns key entry (other ∷ entries) = if is_gt (entry_cmp columns key other) then (other ∷ put_before columns key entry entries) else (entry ∷ other ∷ entries)

-- where no entry equals the key, the place of the key is that of the entry
abbrev pub LeadsTo : List Collation → List Value → Entry → Type 0
LeadsTo columns key entry = (entries : List Entry) → has_entry columns key entries ≡ false
    → (has_entry columns entry entries ≡ false) × (put_before columns key entry entries ≡ with_entry columns entry entries)

-- the entries without those that the order can't tell from this one
abbrev pub without_entry : List Collation → Entry → List Entry → List Entry
without_entry columns entry entries = filter (λ other. not (is_eq (entry_cmp columns entry other))) entries

-- the entries without these, one after the other
abbrev pub without_entries : List Collation → List Entry → List Entry → List Entry
without_entries columns [] entries = entries
without_entries columns (gone ∷ more) entries = without_entries columns more (without_entry columns gone entries)

-- each of these is among the entries when its turn comes, after those before it have gone
abbrev pub GoInTurn : List Collation → List Entry → List Entry → Type 0
GoInTurn columns [] entries = ⊤
GoInTurn columns (gone ∷ more) entries = (has_entry columns gone entries ≡ true) × GoInTurn columns more (without_entry columns gone entries)

-- the entries with these, one after the other
abbrev pub with_entries : List Collation → List Entry → List Entry → List Entry
with_entries columns [] entries = entries
with_entries columns (come ∷ more) entries = with_entries columns more (with_entry columns come entries)

-- none of these is among the entries when its turn comes, after those before it have come
abbrev pub ComeInTurn : List Collation → List Entry → List Entry → Type 0
ComeInTurn columns [] entries = ⊤
ComeInTurn columns (come ∷ more) entries = (has_entry columns come entries ≡ false) × ComeInTurn columns more (with_entry columns come entries)

-- each of these has a value for each column, and a rowid
abbrev pub AreLong : List Collation → List Entry → Type 0
AreLong columns entries = AllByRecursion (λ entry. length entry ≡ length columns + 1) entries

-- an entry, which compares so with a key, is passed: it is less, or it is equal where the key itself is passed
abbrev pub is_passed : Bool → Ordering → Bool
is_passed after order = if after then not (is_lt order) else is_gt order

-- the entries from a key on, which may be the first values of an entry, or those after it
abbrev pub entries_from : Bool → List Collation → List Value → List Entry → List Entry
entries_from after columns key entries = filter (λ entry. not (is_passed after (entry_cmp columns key entry))) entries

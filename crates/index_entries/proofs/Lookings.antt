-- What the first entries from a row's key on tell of the other rows.
use Rattle.std.proofs.Common.{◌≡◌, refl, sym, ap, subst, ◌∙◌, ℕ, Bool, true, false, not, ◌||◌, List, [], ◌∷◌, ◌++◌, length, map, take, slice_index_or, Ok, Err}
use Rattle.std.specs.List.{list_any}
use Rattle.std.specs.Prelude.{Result, IsErrAnd}
use Rattle.sqlval.specs.Faults.{IsOutside}
use Rattle.sqlval.specs.declared.collation.Collation.{Collation}
use Rattle.sqlval.specs.declared.fault.Fault.{Fault}
use Rattle.sqlval.specs.declared.value.Value.{Value}
use Rattle.sqlval.specs.declared.value.Value.TheVariants.{Int, Null}
use Rattle.pages.specs.Map.{PageMap}
use Rattle.tree_index.specs.Entries.{AreEntries, entries_from, key_in}
use Rattle.tree_index.proofs.LastEntries.{rise_with}
use Rattle.index_entries.specs.Alone.{clashes, has_null}
use Rattle.index_entries.specs.Entries.{AreApart, Columns, Row, collations, entries_of_rows, indexed}
use Rattle.index_entries.specs.Keeping.{columns_in}
use Rattle.index_entries.specs.Others.{FindsAlone, FindsNext, begins_with}
use Rattle.catalog.specs.declared.tables.IndexColumn.{IndexColumn}
use Rattle.index_entries.proofs.Keys.{any_clash, finds_keys, no_clash}
use Rattle.index_entries.proofs.OtherKeys.{others_seen, seen}
use Rattle.index_entries.proofs.Rows.{adds_its_entry}
use Rattle.index_entries.proofs.Turning.{indexed_long, same_key, without_one}

entries_rise : (columns : Columns) (rows : List Row) → AreApart rows → AreEntries (collations columns) (entries_of_rows columns rows)
entries_rise columns [] apart = record { whole = tt; rising = refl }
entries_rise columns (row ∷ rows) apart =
    rise_with (collations columns) (indexed columns row) (entries_of_rows columns rows) (entries_rise columns rows apart.1) (adds_its_entry columns [] rows row apart).0 (indexed_long columns row)

-- the key in an entry
pub key_is : (columns : Columns) (values : List Value) (last : Value) → let key = map (λ column. slice_index_or values column.0 Null) columns in take (length (collations columns)) (key ++ last ∷ []) ≡ key
key_is [] values last = refl
key_is (column ∷ columns) values last = ap (λ (vs : List Value). slice_index_or values column.0 Null ∷ vs) (key_is columns values last)

pub key_listed : (columns : List IndexColumn) (row : Row) (values key : List Value) → values ≡ row.1 → key ≡ map (λ column. slice_index_or values column.place Null) columns
    → key ≡ key_in (collations (columns_in columns)) (indexed (columns_in columns) row)
key_listed columns row values key values_are is =
    is ∙ same_key values columns ∙ ap (λ (vs : List Value). map (λ column. slice_index_or vs column.0 Null) (columns_in columns)) values_are ∙ sym (key_is (columns_in columns) row.1 (Int row.0))

-- a search in other words
pub as_meant : (pages : PageMap) (size root : ℕ) (under cs : List Collation) (from start : List Value) (after : Bool) (key sought : List Value) → under ≡ cs → from ≡ start → key ≡ sought
    → (result : Result Bool Fault) → FindsNext pages size root under from after key result → FindsNext pages size root cs start after sought result
as_meant pages size root under cs from start after' key sought under_is from_is key_is result finds =
    subst (λ (c : List Collation). FindsNext pages size root c start after' sought result) under_is
    (subst (λ (k : List Value). FindsNext pages size root under k after' sought result) from_is (subst (λ (k : List Value). FindsNext pages size root under from after' k result) key_is finds))

module _ (pages : PageMap) (size root : ℕ) (columns : Columns) (row : Row) where
  abbrev cs : List Collation
  cs = collations columns

  abbrev key : List Value
  key = key_in (collations columns) (indexed columns row)

  -- where a value is NULL
  pub null_alone : has_null columns row.1 ≡ true → FindsAlone pages size root columns row (Ok true)
  null_alone some = λ before after used apart whole tree. sym (ap not (no_clash columns row (before ++ after) some))

  clash_seen : has_null columns row.1 ≡ false → (before after : List Row) → AreApart (before ++ row ∷ after)
      → list_any (clashes columns row) (before ++ after) ≡ seen (collations columns) (indexed columns row) (entries_of_rows columns (before ++ row ∷ after))
  clash_seen none before after apart =
      let law = adds_its_entry columns before after row apart in
      any_clash columns row (before ++ after) none ∙ sym (finds_keys columns row (before ++ after))
      ∙ others_seen cs (indexed columns row) (entries_of_rows columns (before ++ after)) (entries_rise columns (before ++ after) (without_one before row after apart)) law.0
      ∙ ap (seen (collations columns) (indexed columns row)) (sym law.1)

  -- another comes first
  pub another_first : has_null columns row.1 ≡ false → FindsNext pages size root cs key false (indexed columns row) (Ok false) → FindsAlone pages size root columns row (Ok false)
  another_first none finds = λ before after used apart whole tree.
      (let es = entries_of_rows columns (before ++ row ∷ after) in
      let first = finds es used whole tree in
      sym (ap not (clash_seen none before after apart ∙ ap (λ (b : Bool). not b || begins_with cs key (entries_from true cs (indexed columns row) es)) (sym first))))

  -- the row itself does, and the next one tells
  pub itself_first : has_null columns row.1 ≡ false → FindsNext pages size root cs key false (indexed columns row) (Ok true) → (same : Bool)
      → FindsNext pages size root cs (indexed columns row) true key (Ok same) → FindsAlone pages size root columns row (Ok (not same))
  itself_first none finds same next = λ before after used apart whole tree.
      (let es = entries_of_rows columns (before ++ row ∷ after) in
      let first = finds es used whole tree in
      let second = next es used whole tree in
      ap not second ∙ sym (ap not (clash_seen none before after apart ∙ ap (λ (b : Bool). not b || begins_with cs key (entries_from true cs (indexed columns row) es)) (sym first))))

  -- one of the two isn't read
  pub not_looked : (from : List Value) (after : Bool) (sought : List Value) (fault : Fault) (result : Result Bool Fault) → IsErrAnd result (λ e. e ≡ fault)
      → FindsNext pages size root cs from after sought (Err fault) → FindsAlone pages size root columns row result
  not_looked from after' sought fault (Ok b) same finds = absurd same
  not_looked from after' sought fault (Err e) same finds = λ before after used apart whole tree. subst IsOutside (sym same) (finds (entries_of_rows columns (before ++ row ∷ after)) used whole tree)

-- Rows that a table may hold, by their parts, and in their order.
use Rattle.std.proofs.Common.{◌≡◌, refl, sym, ap, ◌∙◌, ◌^◌, ◌-◌, ◌+ℤ◌, ◌<ℤ◌, ◌&&◌, ◌==◌, ℤ, pos, Bool, true, false, cond, int_lt, List, [], ◌∷◌, length, map, Option, Some, None, Ok, Err, arith}
use Rattle.std.proofs.lemmas.Bool.{eq-eqb, false≢true}
use Rattle.std.proofs.lemmas.Int.{ints}
use Rattle.std.specs.Cmp.{int_cmp_is}
use Rattle.std.specs.List.{list_all}
use Rattle.std.specs.Ordering.{int_cmp, is_lt}
use Rattle.std.specs.Prelude.{MatchOption, unwrap_or, ⊤}
use Rattle.std.specs.declared.cmp.Ordering.TheVariants.{Less}
use Rattle.sqlval.specs.Conversion.{is_word}
use Rattle.sqlval.specs.Lists.{is_rising}
use Rattle.sqlval.specs.Refusals.{RowidFull}
use Rattle.catalog.specs.Database as database
use Rattle.catalog.specs.Rows.{holds_rowid, is_row, is_value}
use Rattle.row_scan.specs.Rows.{TableRow}
use Rattle.row_scan.proofs.RowOrder.{both_true}
use Rattle.row_change.specs.Inserting.{last_rowid, rowid_after}
use Rattle.row_change.proofs.Rising.{Climbs, Rises, both, is_next}

-- ---- rowids of 64 bits

abbrev pub IsWordOr : Option ℤ → Type 0
IsWordOr last = MatchOption last ⊤ (λ n. is_word n ≡ true)

first_word : is_word (pos 1) ≡ true
first_word = refl

next_word : (n : ℤ) → is_word n ≡ true → n <ℤ pos (2 ^ 63 - 1) → is_word (n +ℤ pos 1) ≡ true
next_word n word lt = grind (arith, ints)

given_one : (rowid : ℤ) → rowid_after None ≡ Ok rowid → pos 1 ≡ rowid
given_one rowid e = cc

pub word_after : (last : Option ℤ) (rowid : ℤ) → IsWordOr last → rowid_after last ≡ Ok rowid → is_word rowid ≡ true
word_after None rowid word e = ap is_word (sym (given_one rowid e)) ∙ first_word
word_after (Some n) rowid word e = by (int_lt n (pos (2 ^ 63 - 1))) refl e
  where
    by : (b : Bool) → int_lt n (pos (2 ^ 63 - 1)) ≡ b → cond b (Ok (n +ℤ pos 1)) (Err RowidFull) ≡ Ok rowid → is_word rowid ≡ true
    by true h k = ap is_word (is_next true n rowid k) ∙ next_word n word (grind (arith, ints))
    by false h k = absurd cc

-- ---- the rows

values_first : (a b c d : Bool) → (a && b && c && d) ≡ true → a ≡ true
values_first true b c d e = refl
values_first false b c d e = absurd (false≢true e)

-- a row that a table may hold, by its parts
pub row_fits : (t : database.Table) (row : TableRow) → is_word row.0 ≡ true → length row.1 ≡ length t.columns → list_all is_value row.1 ≡ true → holds_rowid t.rowid_column row ≡ true → is_row t row ≡ true
row_fits t row word long can holds =
    both_true (is_word row.0 && length row.1 == length t.columns && list_all is_value row.1) (holds_rowid t.rowid_column row)
    (both_true (is_word row.0 && length row.1 == length t.columns) (list_all is_value row.1)
    (both_true (is_word row.0) (length row.1 == length t.columns) word (eq-eqb (length row.1) (length t.columns) long)) can) holds

pub word_fits : (t : database.Table) (row : TableRow) → is_row t row ≡ true → is_word row.0 ≡ true
word_fits t row fit = values_first (is_word row.0) (length row.1 == length t.columns) (list_all is_value row.1) (holds_rowid t.rowid_column row) fit

-- the last rowid of rows that a table may hold
pub last_word : (t : database.Table) (rows : List TableRow) → list_all (is_row t) rows ≡ true → IsWordOr (last_rowid rows)
last_word t [] fit = tt
last_word t (row ∷ rows) fit =
    let parts = both (is_row t row) (list_all (is_row t) rows) fit in
    word_or row.0 (last_rowid rows) (word_fits t row parts.0) (last_word t rows parts.1)
  where
    word_or : (n : ℤ) (last : Option ℤ) → is_word n ≡ true → IsWordOr last → is_word (unwrap_or last n) ≡ true
    word_or n None word more = word
    word_or n (Some m) word more = more

-- ---- their order

is_before : (a b : ℤ) → a <ℤ b → is_lt (int_cmp a b) ≡ true
is_before a b lt = ap is_lt (sym (int_cmp_is a b Less lt))

climb_rising : (low : ℤ) (rows : List TableRow) → Climbs low rows → is_rising int_cmp (low ∷ map (λ row. row.0) rows) ≡ true
climb_rising low [] climb = refl
climb_rising low (row ∷ rows) climb =
    both_true (is_lt (int_cmp low row.0)) (is_rising int_cmp (row.0 ∷ map (λ row. row.0) rows)) (is_before low row.0 climb.0) (climb_rising row.0 rows climb.1)

pub rises_rising : (rows : List TableRow) → Rises rows → is_rising int_cmp (map (λ row. row.0) rows) ≡ true
rises_rising [] rises = refl
rises_rising (row ∷ rows) rises = climb_rising row.0 rows rises

-- The rows of a page of bytes are such as a table may hold.
use Rattle.std.proofs.Common.{◌≡◌, inl, inr, ℕ, zero, suc, ◌+◌, ◌-◌, ◌*◌, ◌^◌, ◌<◌, ◌≤◌, ◌&&◌, ◌==◌, Bool, true, false, cond, nat_lt, nat_le, ℤ, pos, negsuc, ◌-ℤ◌, ◌<ℤ◌, List, [], ◌∷◌, ◌++◌, length, map, slice_index, slice_index_or, refl, sym, ap, subst, ◌∙◌, arith}
use Rattle.std.proofs.Math.Nat.{pow-suc}
use Rattle.std.proofs.lemmas.Int.{ints}
use Rattle.std.proofs.lemmas.Bool.{eq-eqb, false≢true}
use Rattle.std.proofs.lemmas.Bool.Decides.{nat_tests}
use Rattle.std.proofs.lemmas.Nat.{mul-le}
use Rattle.std.proofs.lemmas.Str.{utf8_valid_len-IsUtf8}
use Rattle.std.specs.Cmp.{int_cmp_is}
use Rattle.std.specs.List.{AllByRecursion, list_all}
use Rattle.std.specs.Ordering.{int_cmp, is_lt}
use Rattle.std.specs.Str.Lossy.{utf8_valid_len}
use Rattle.std.specs.declared.cmp.Ordering.TheVariants.{Less}
use Rattle.byteorder.specs.Endian.{big_from, big_number, twos_complement}
use Rattle.sqlval.specs.Conversion.{is_word}
use Rattle.sqlval.specs.Lists.{is_rising}
use Rattle.sqlval.specs.declared.value.Value.{Value}
use Rattle.sqlval.specs.declared.value.Value.TheVariants.{Null, Int, Text, Blob}
use Rattle.record.specs.Record.{AreColumns, IsBody, IsRecord, width}
use Rattle.record.specs.Writing.{IsBytes, IsStorable}
use Rattle.record.proofs.RecordLemmas.{AreBytes-front, AreBytes-rest}
use Rattle.record.proofs.VarintLemmas.{AreBytes}
use Rattle.tree_leaf.specs.Leaf.{Entry}
use Rattle.tree_page.specs.Cells.{Pairwise}
use Rattle.tree_table.specs.SingleLeaf.{AreRising}
use Rattle.catalog.specs.Rows.{is_value}
use Rattle.catalog.specs.declared.tables.RowShape.{RowShape}
use Rattle.row_scan.specs.Rows.{IsRow, TableRow}
use Rattle.row_scan.proofs.RowLemmas.{no_row}

pub both_true : (a b : Bool) → a ≡ true → b ≡ true → (a && b) ≡ true
both_true true b h k = k
both_true false b h k = absurd (false≢true h)

-- ---- integers

word_above : (n : ℕ) → n < 2 ^ 63 → is_word (pos n) ≡ true
word_above n h = grind (arith, nat_tests)

word_below : (n : ℕ) → n < 2 ^ 63 → is_word (negsuc n) ≡ true
word_below n h = grind (arith, nat_tests)

-- a number in two's complement, where `half` is half of what its bytes may be
complement_word : (half x : ℕ) → half ≤ 2 ^ 63 → x < 2 * half → is_word (cond (nat_lt x half) (pos x) (pos x -ℤ pos (2 * half))) ≡ true
complement_word half x small lt = by_test (nat_lt x half) refl
  where
    by_test : (b : Bool) → nat_lt x half ≡ b → is_word (cond b (pos x) (pos x -ℤ pos (2 * half))) ≡ true
    by_test true e = word_above x (let below : x < half = grind (arith, nat_tests) in omega (arith, below))
    by_test false e =
        let above : half ≤ x = grind (arith, nat_tests) in
        let same : pos x -ℤ pos (2 * half) ≡ negsuc (2 * half - suc x) = omega (arith, ints, above, lt) in
        subst (λ z. is_word z ≡ true) (sym same) (word_below (2 * half - suc x) (omega (arith, above)))

one_digit : (d rest power : ℕ) → d < 256 → rest < power → d * power + rest < power * 256
one_digit d rest power h k = let le : d * power ≤ 255 * power = mul-le d power 255 power (omega arith) (omega arith) in omega (arith, le)

-- the number in so many bytes
big_below : (n i : ℕ) (xs : List ℕ) → IsBytes xs → big_from i n xs < 256 ^ n
big_below zero i xs fits = omega arith
big_below (suc n) i xs fits = rw pow-suc (one_digit (slice_index xs i) (big_from (suc i) n xs) (256 ^ n) (fits i) (big_below n (suc i) xs fits))

index_below : (xs : List ℕ) → AreBytes xs → IsBytes xs
index_below [] fits i = omega arith
index_below (x ∷ xs) fits zero = fits.0
index_below (x ∷ xs) fits (suc i) = index_below xs fits.1 i

wide_word : (serial x : ℕ) → 1 ≤ serial → serial ≤ 6 → x < 256 ^ width serial → is_word (twos_complement (width serial) x) ≡ true
wide_word zero x low high lt = absurd (omega (arith, low))
wide_word (suc zero) x low high lt = complement_word (2 ^ 7) x (omega arith) (omega (arith, lt))
wide_word (suc (suc zero)) x low high lt = complement_word (2 ^ 15) x (omega arith) (omega (arith, lt))
wide_word (suc (suc (suc zero))) x low high lt = complement_word (2 ^ 23) x (omega arith) (omega (arith, lt))
wide_word (suc (suc (suc (suc zero)))) x low high lt = complement_word (2 ^ 31) x (omega arith) (omega (arith, lt))
wide_word (suc (suc (suc (suc (suc zero))))) x low high lt = complement_word (2 ^ 47) x (omega arith) (omega (arith, lt))
wide_word (suc (suc (suc (suc (suc (suc zero)))))) x low high lt = complement_word (2 ^ 63) x (omega arith) (omega (arith, lt))
wide_word (suc (suc (suc (suc (suc (suc (suc n))))))) x low high lt = absurd (omega (arith, high))

-- ---- values

all_below : (bytes : List ℕ) → AreBytes bytes → list_all (λ c. nat_lt c 256) bytes ≡ true
all_below [] fits = refl
all_below (x ∷ xs) fits = both_true (nat_lt x 256) (list_all (λ c. nat_lt c 256) xs) (let lt : x < 256 = fits.0 in grind (arith, nat_tests)) (all_below xs fits.1)

within : (n : ℕ) → n ≤ 1000000 → nat_le n 1000000 ≡ true
within n h = grind (arith, nat_tests)

word_of : (serial : ℕ) (body : List ℕ) (n : ℤ) → AreBytes body → IsBody serial body (Int n) → is_word n ≡ true
word_of serial body n fits (inl is) = ap is_word is.2
word_of serial body n fits (inr (inl is)) = ap is_word is.2
word_of serial body n fits (inr (inr is)) =
    ap is_word is.value ∙ wide_word serial (big_number (width serial) body) is.low is.high (big_below (width serial) 0 body (index_below body fits))

-- a value that a record can hold
stored_value : (serial : ℕ) (body : List ℕ) (value : Value) → AreBytes body → IsStorable value → IsBody serial body value → is_value value ≡ true
stored_value serial body Null fits can is = refl
stored_value serial body (Int n) fits can is = word_of serial body n fits is
stored_value serial body (Text t) fits can is =
    both_true (nat_le (length t) 1000000) (utf8_valid_len t == length t) (within (length t) can) (eq-eqb (utf8_valid_len t) (length t) (utf8_valid_len-IsUtf8 t is.2))
stored_value serial body (Blob b) fits can is =
    both_true (nat_le (length b) 1000000) (list_all (λ c. nat_lt c 256) b) (within (length b) can) (all_below b (subst AreBytes is.1 fits))

stored_values : (values : List Value) (types bodies : List ℕ) → AreBytes bodies → AllByRecursion IsStorable values → AreColumns types bodies values → list_all is_value values ≡ true
stored_values [] types bodies fits can columns = refl
stored_values (value ∷ values) types bodies fits can (types_left, bodies_left, column, columns) =
    let inside = subst AreBytes column.bodies_are fits in
    both_true (is_value value) (list_all is_value values)
    (stored_value column.serial column.body value (AreBytes-front column.body bodies_left inside) can.0 column.body_is)
    (stored_values values types_left bodies_left (AreBytes-rest column.body bodies_left inside) can.1 columns)

-- the values of a record of bytes, each of which a record can hold
pub record_holds : (bytes : List ℕ) (values : List Value) → AreBytes bytes → AllByRecursion IsStorable values → IsRecord bytes values → list_all is_value values ≡ true
record_holds bytes values fits can is = stored_values values is.types is.bodies (AreBytes-rest is.types is.bodies (AreBytes-rest is.head (is.types ++ is.bodies) (subst AreBytes is.parts fits))) can is.columns

-- ---- rows

-- the entries after the first rise
rest_rising : (entry : Entry) (entries : List Entry) → AreRising (entry ∷ entries) → AreRising entries
rest_rising entry entries rising zero d le lt = absurd (omega (arith, le))
rest_rising entry entries rising (suc j) d le lt =
    subst (λ k. (slice_index_or (entry ∷ entries) k d).rowid <ℤ (slice_index_or entries (suc j) d).rowid) (before j) (rising (suc (suc j)) d (omega arith) (omega (arith, lt)))
  where
    before : (j : ℕ) → suc (suc j) - 1 ≡ suc (suc j - 1)
    before j = omega arith

pub rowids_rise : (shape : RowShape) (entries : List Entry) (rows : List TableRow) → AreRising entries → Pairwise (IsRow shape) entries rows → is_rising int_cmp (map (λ r. r.0) rows) ≡ true
rowids_rise shape [] [] rising each = refl
rowids_rise shape [] (row ∷ rows) rising each = absurd each
rowids_rise shape (entry ∷ entries) [] rising each = absurd each
rowids_rise shape (entry ∷ []) (row ∷ []) rising each = refl
rowids_rise shape (entry ∷ []) (row ∷ next ∷ rows) rising each = absurd each.1
rowids_rise shape (entry ∷ other ∷ entries) (row ∷ []) rising each = absurd each.1
rowids_rise shape (entry ∷ other ∷ entries) (row ∷ next ∷ rows) rising each =
    let lt : entry.rowid <ℤ other.rowid = rising 1 no_row (omega arith) (omega arith) in
    both_true (is_lt (int_cmp row.0 next.0)) (is_rising int_cmp (next.0 ∷ map (λ r. r.0) rows))
    (ap is_lt (sym (int_cmp_is row.0 next.0 Less (subst (λ n. row.0 <ℤ n) each.1.0.rowid (subst (λ n. n <ℤ other.rowid) each.0.rowid lt)))))
    (rowids_rise shape (other ∷ entries) (next ∷ rows) (rest_rising entry (other ∷ entries) rising) each.1)

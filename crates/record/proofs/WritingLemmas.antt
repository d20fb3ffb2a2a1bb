-- What is written is a record of the values.
use Rattle.std.proofs.Common.{◌≡◌, inl, inr, ℕ, zero, suc, ℤ, pos, negsuc, ◌-ℤ◌, ◌+◌, ◌*◌, ◌-◌, ◌%◌, ◌^◌, ◌<◌, ◌≤◌, false, cond, nat_lt, List, [], ◌∷◌, ◌++◌, length, map, refl, sym, ap, subst, ◌∙◌, append_assoc, arith}
use Rattle.std.specs.Int.{w64}
use Rattle.std.specs.Prelude.{Result, Ok, Err, IfOk, OnOk, All}
use Rattle.std.specs.Global.{Vec}
use Rattle.sqlval.specs.declared.fault.Fault.{Fault}
use Rattle.std.proofs.lemmas.List.Elements.{All-from_recursion, recursion_from_All}
use Rattle.std.specs.List.{flat_map, AllByRecursion}
use Rattle.std.proofs.Math.Nat.{mod-eq_of_lt, mod-lt}
use Rattle.std.proofs.lemmas.Bool.{lt-ltb, le-ltb, cases_lt}
use Rattle.std.proofs.lemmas.Bool.Decides.{nat_tests}
use Rattle.std.proofs.lemmas.Int.{ints}
use Rattle.std.proofs.lemmas.List.{append-nil, length-append}
use Rattle.byteorder.specs.Endian.{big_number, big_bytes, twos_complement, low_bytes}
use Rattle.byteorder.specs.Numbers.{big_number-reads_back, length-bytes_high_first}
use Rattle.sqlval.specs.Fields.{value_of}
use Rattle.sqlval.specs.declared.value.Field.{Field}
use Rattle.sqlval.specs.declared.value.Value.{Value}
use Rattle.sqlval.specs.declared.value.Value.TheVariants.{Null, Int, Text, Blob}
use Rattle.record.specs.Varint.{IsVarint, varint}
use Rattle.record.specs.Reading.{body_len}
use Rattle.record.specs.Record.{width, IsWide, IsBody, AreColumns, IsRecord}
use Rattle.record.specs.Writing.{IsStorable, AreStorable, Fits, wide_type, serial_of, wide_bytes, body_of, type_of, header_len, with_header, record_of}
use Rattle.record.proofs.VarintLemmas.{varint_shortest, length_varint_le, length_one, length_two}

-- ---- integers

-- how far an integer lies from 0 or from -1
abbrev steps : ℤ → ℕ
steps (pos n) = n
steps (negsuc n) = n

-- two's complement of w bytes gives the integer back
abbrev Back : ℕ → ℤ → Type 0
Back w n = twos_complement w (low_bytes w64 w n) ≡ n

pos_back : (half k : ℕ) → k < half → cond (nat_lt (k % (2 * half)) half) (pos (k % (2 * half))) (pos (k % (2 * half)) -ℤ pos (2 * half)) ≡ pos k
pos_back half k lt =
    let same : k % (2 * half) ≡ k = mod-eq_of_lt (omega arith) in
    rw (same, lt-ltb _ _ lt) refl

neg_back : (half k low : ℕ) → k < half → low ≡ 2 * half - suc k → cond (nat_lt low half) (pos low) (pos low -ℤ pos (2 * half)) ≡ negsuc k
neg_back half k low lt e =
    let above : nat_lt low half ≡ false = le-ltb _ _ (omega arith) in
    rw above (omega (arith, ints))

back_1 : (n : ℤ) → steps n < 2 ^ 7 → Back 1 n
back_1 (pos k) lt = pos_back (2 ^ 7) k lt
back_1 (negsuc k) lt = neg_back (2 ^ 7) k ((2 ^ 64 - suc k) % 2 ^ 8) lt (omega arith)

back_2 : (n : ℤ) → steps n < 2 ^ 15 → Back 2 n
back_2 (pos k) lt = pos_back (2 ^ 15) k lt
back_2 (negsuc k) lt = neg_back (2 ^ 15) k ((2 ^ 64 - suc k) % 2 ^ 16) lt (omega arith)

back_3 : (n : ℤ) → steps n < 2 ^ 23 → Back 3 n
back_3 (pos k) lt = pos_back (2 ^ 23) k lt
back_3 (negsuc k) lt = neg_back (2 ^ 23) k ((2 ^ 64 - suc k) % 2 ^ 24) lt (omega arith)

back_4 : (n : ℤ) → steps n < 2 ^ 31 → Back 4 n
back_4 (pos k) lt = pos_back (2 ^ 31) k lt
back_4 (negsuc k) lt = neg_back (2 ^ 31) k ((2 ^ 64 - suc k) % 2 ^ 32) lt (omega arith)

back_6 : (n : ℤ) → steps n < 2 ^ 47 → Back 6 n
back_6 (pos k) lt = pos_back (2 ^ 47) k lt
back_6 (negsuc k) lt = neg_back (2 ^ 47) k ((2 ^ 64 - suc k) % 2 ^ 48) lt (omega arith)

back_8 : (n : ℤ) → steps n < 2 ^ 63 → Back 8 n
back_8 (pos k) lt = pos_back (2 ^ 63) k lt
back_8 (negsuc k) lt = neg_back (2 ^ 63) k ((2 ^ 64 - suc k) % 2 ^ 64) lt (omega arith)

-- the type has room for the steps
pub record HasRoom (n : ℤ) (serial : ℕ) : Type 0 where
  pub low : 1 ≤ serial
  pub high : serial ≤ 6
  pub fits : low_bytes w64 (width serial) n < 256 ^ width serial
  pub back : Back (width serial) n

room : (n : ℤ) → steps n < 2 ^ 63 → HasRoom n (wide_type (steps n))
unfolding wide_type
room n lt =
    elim (cases_lt (steps n) (2 ^ 7)) [
      | inl a ↦ rw (lt-ltb _ _ a) (record { low = omega arith; high = omega arith; fits = mod-lt _ (omega arith); back = back_1 n a })
      | inr b ↦ elim (cases_lt (steps n) (2 ^ 15)) [
        | inl a ↦ rw (le-ltb _ _ b, lt-ltb _ _ a) (record { low = omega arith; high = omega arith; fits = mod-lt _ (omega arith); back = back_2 n a })
        | inr b2 ↦ elim (cases_lt (steps n) (2 ^ 23)) [
          | inl a ↦ rw (le-ltb _ _ b, le-ltb _ _ b2, lt-ltb _ _ a) (record { low = omega arith; high = omega arith; fits = mod-lt _ (omega arith); back = back_3 n a })
          | inr b3 ↦ elim (cases_lt (steps n) (2 ^ 31)) [
            | inl a ↦ rw (le-ltb _ _ b, le-ltb _ _ b2, le-ltb _ _ b3, lt-ltb _ _ a) (record { low = omega arith; high = omega arith; fits = mod-lt _ (omega arith); back = back_4 n a })
            | inr b4 ↦ elim (cases_lt (steps n) (2 ^ 47)) [
              | inl a ↦ rw (le-ltb _ _ b, le-ltb _ _ b2, le-ltb _ _ b3, le-ltb _ _ b4, lt-ltb _ _ a) (record { low = omega arith; high = omega arith; fits = mod-lt _ (omega arith); back = back_6 n a })
              | inr b5 ↦ rw (le-ltb _ _ b, le-ltb _ _ b2, le-ltb _ _ b3, le-ltb _ _ b4, le-ltb _ _ b5) (record { low = omega arith; high = omega arith; fits = mod-lt _ (omega arith); back = back_8 n lt })
            ]
          ]
        ]
      ]
    ]

wide_is : (n : ℤ) (serial : ℕ) → HasRoom n serial → IsWide serial (wide_bytes serial n) n
wide_is n serial r =
    let w = width serial in
    let x = low_bytes w64 w n in
    let again : big_number w (big_bytes w x) ≡ x = ap (big_number w) (sym (append-nil (big_bytes w x))) ∙ big_number-reads_back w x [] r.fits in
    record { low = r.low; high = r.high; len = length-bytes_high_first w x; value = sym (ap (twos_complement w) again ∙ r.back) }

-- ---- values

abbrev pub IsWritten : Value → Type 0
IsWritten value = IsBody (serial_of value) (body_of value) value × (serial_of value < 2 ^ 64)

pub value_is_written : (value : Value) → Fits value → IsStorable value → IsWritten value
unfolding body_of
value_is_written Null fits storable = ((refl, refl), omega arith)
value_is_written (Int (pos n)) fits storable =
    elim (cases_lt n 2) [
      | inl a ↦ rw (lt-ltb _ _ a) (small n a, omega arith)
      | inr b ↦
          let r = room (pos n) fits.sfits in
          rw (le-ltb _ _ b) (inr (inr (wide_is (pos n) (wide_type n) r)), omega (arith, r.high))
    ]
  where
    small : (n : ℕ) → n < 2 → IsBody (8 + n) [] (Int (pos n))
    small zero a = inl (refl, refl, refl)
    small (suc zero) a = inr (inl (refl, refl, refl))
    small (suc (suc n)) a = absurd (omega arith)
value_is_written (Int (negsuc n)) fits storable =
    let r = room (negsuc n) fits.sfits in
    (inr (inr (wide_is (negsuc n) (wide_type n) r)), omega (arith, r.high))
value_is_written (Text t) fits storable = ((refl, refl, fits), omega arith)
value_is_written (Blob b) fits storable = ((refl, refl), omega arith)

-- ---- lengths

wide_high : (n : ℕ) → wide_type n ≤ 6
unfolding wide_type
wide_high n = grind (arith, nat_tests)

pub width_few : (serial : ℕ) → serial ≤ 6 → width serial ≤ 8
width_few serial high = grind (arith, nat_tests)

pub body_len_wide : (serial : ℕ) → serial ≤ 6 → body_len serial ≡ width serial
unfolding body_len
body_len_wide serial high = grind (arith, nat_tests)

wide_short : (serial : ℕ) (n : ℤ) → serial ≤ 6 → length (wide_bytes serial n) ≤ 1000000
wide_short serial n high = rw (length-bytes_high_first (width serial) (low_bytes w64 (width serial) n)) (omega (arith, width_few serial high))

-- a value's serial type says how long its body is
pub length-body : (value : Value) → body_len (serial_of value) ≡ length (body_of value)
unfolding body_of body_len
length-body Null = refl
length-body (Int (pos n)) =
    elim (cases_lt n 2) [
      | inl a ↦ rw (lt-ltb _ _ a) (small n a)
      | inr b ↦ rw (le-ltb _ _ b) (body_len_wide (wide_type n) (wide_high n) ∙ sym (length-bytes_high_first (width (wide_type n)) (low_bytes w64 (width (wide_type n)) (pos n))))
    ]
  where
    small : (n : ℕ) → n < 2 → body_len (8 + n) ≡ 0
    small zero a = refl
    small (suc zero) a = refl
    small (suc (suc n)) a = absurd (omega arith)
length-body (Int (negsuc n)) =
    body_len_wide (wide_type n) (wide_high n) ∙ sym (length-bytes_high_first (width (wide_type n)) (low_bytes w64 (width (wide_type n)) (negsuc n)))
length-body (Text t) = grind (arith, nat_tests)
length-body (Blob b) = grind (arith, nat_tests)

pub length-type : (value : Value) (serial : ℕ) → serial ≡ serial_of value → length (varint serial) ≡ length (type_of value)
unfolding type_of
length-type value serial e = ap (λ (serial : ℕ). length (varint serial)) e

pub body_short : (value : Value) → IsStorable value → length (body_of value) ≤ 1000000
unfolding body_of
body_short Null storable = omega arith
body_short (Int (pos n)) storable =
    elim (cases_lt n 2) [
      | inl a ↦ rw (lt-ltb _ _ a) (omega arith)
      | inr b ↦ rw (le-ltb _ _ b) (wide_short (wide_type n) (pos n) (wide_high n))
    ]
body_short (Int (negsuc n)) storable = wide_short (wide_type n) (negsuc n) (wide_high n)
body_short (Text t) storable = storable
body_short (Blob b) storable = storable

-- ---- the row

columns_are_written : (values : List Value) → AllByRecursion IsWritten values → AreColumns (flat_map type_of values) (flat_map body_of values) values
unfolding type_of
columns_are_written [] w = (refl, refl)
columns_are_written (value ∷ values) w = (
  flat_map type_of values,
  flat_map body_of values,
  record {
    serial = serial_of value;
    type = type_of value;
    body = body_of value;
    types_are = refl;
    bodies_are = refl;
    type_is = (varint_shortest (serial_of value) w.0.1).is;
    body_is = w.0.0;
  },
  columns_are_written values w.1,
)

pub types_short : (values : List Value) → length (flat_map type_of values) ≤ 9 * length values
unfolding type_of
types_short [] = omega arith
types_short (value ∷ values) = omega (arith, types_short values, length-append (type_of value) (flat_map type_of values), length_varint_le (serial_of value))

-- the length of the header counts its own bytes
pub header_counts : (types : ℕ) → types < 16382 → length (varint (header_len types)) + types ≡ header_len types
unfolding header_len
header_counts types small =
    elim (cases_lt types 127) [
      | inl a ↦ rw (lt-ltb _ _ a) (omega (arith, length_one (types + 1) (omega arith)))
      | inr b ↦ rw (le-ltb _ _ b) (omega (arith, length_two (types + 2) (omega arith) (omega arith)))
    ]

pub record_is_written : (values : List Value) → AllByRecursion IsWritten values → length values ≤ 1000 → IsRecord (record_of values) values
unfolding record_of
record_is_written values w few =
    let types = flat_map type_of values in
    let small : length types < 16382 = omega (arith, types_short values) in
    let counts = header_counts (length types) small in
    let below : header_len (length types) < 2 ^ 64 = omega (arith, length_varint_le (header_len (length types))) in
    record {
      head = varint (header_len (length types));
      types = types;
      bodies = flat_map body_of values;
      parts = refl;
      head_is = subst (IsVarint (varint (header_len (length types)))) (sym counts) (varint_shortest (header_len (length types)) below).is;
      columns = columns_are_written values w;
    }

row_is_written : (values : List Value) → AllByRecursion Fits values → AllByRecursion IsStorable values → AllByRecursion IsWritten values
row_is_written [] fits storable = tt
row_is_written (value ∷ values) fits storable = (value_is_written value fits.0 storable.0, row_is_written values fits.1 storable.1)

-- the parts as they are written one after the other
pub parts_are : (out0 out1 out2 out3 t b : List ℕ) (size : ℕ) → out0 ≡ [] → out1 ≡ out0 ++ varint size → out2 ≡ out1 ++ t → out3 ≡ out2 ++ b → size ≡ header_len (length t) → out3 ≡ with_header t b
parts_are out0 out1 out2 out3 t b size e0 e1 e2 e3 e4 =
    let head_is : out1 ≡ varint (header_len (length t)) = e1 ∙ ap (λ (x : List ℕ). x ++ varint size) e0 ∙ ap varint e4 in
    e3 ∙ ap (λ (x : List ℕ). x ++ b) (e2 ∙ ap (λ (x : List ℕ). x ++ t) head_is) ∙ append_assoc (varint (header_len (length t))) t b

-- of values that lie elsewhere: each part of the record, item by item
pub storable_each : (fields : List Field) → AreStorable (map value_of fields) → All (λ f. IsStorable (value_of f)) fields
storable_each fields are = All-from_recursion (λ f. IsStorable (value_of f)) fields (each fields (recursion_from_All IsStorable (map value_of fields) are.1))
  where
    each : (fs : List Field) → AllByRecursion IsStorable (map value_of fs) → AllByRecursion (λ f. IsStorable (value_of f)) fs
    each [] all = tt
    each (f ∷ fs) all = (all.0, each fs all.1)

pub is_written : (values : List Value) (r : Result (Vec ℕ) Fault) → AreStorable values → OnOk r (All Fits values) → IfOk r (λ bytes. bytes.items ≡ record_of values) → IfOk r (λ bytes. IsRecord bytes.items values)
is_written values (Ok bytes) storable fits exact =
    rw exact (record_is_written values (row_is_written values (recursion_from_All Fits values fits) (recursion_from_All IsStorable values storable.1)) storable.0)
is_written values (Err fault) storable fits exact = tt

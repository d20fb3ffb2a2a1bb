-- No record of the values is shorter than the one that is written.
use Rattle.std.proofs.Common.{◌≡◌, inl, inr, ℕ, zero, suc, ℤ, pos, negsuc, ◌-ℤ◌, ◌+◌, ◌*◌, ◌-◌, ◌^◌, ◌<◌, ◌≤◌, cond, nat_lt, List, [], ◌∷◌, ◌++◌, length, get_or, sym, ap, subst, arith}
use Rattle.std.specs.Prelude.{Result, Ok, Err, IfOk}
use Rattle.std.specs.Global.{Vec}
use Rattle.sqlval.specs.declared.fault.Fault.{Fault}
use Rattle.std.proofs.lemmas.List.Elements.{recursion_from_All}
use Rattle.std.specs.List.{flat_map, AllByRecursion}
use Rattle.std.proofs.lemmas.List.{length-append, length_push, length-map, nil_from_length, get_or_append_left, get_or_past, get_or-append-add}
use Rattle.std.proofs.lemmas.Bool.{cases_lt, lt-ltb, le-ltb}
use Rattle.sqlval.specs.declared.value.Value.{Value}
use Rattle.sqlval.specs.declared.value.Value.TheVariants.{Null, Int, Text, Blob}
use Rattle.record.specs.Varint.{IsVarint, varint, marked, base128}
use Rattle.std.proofs.lemmas.Int.{ints}
use Rattle.std.proofs.lemmas.Bool.Decides.{nat_tests}
use Rattle.byteorder.specs.Endian.{big_number, low_bytes, twos_complement}
use Rattle.byteorder.specs.Numbers.{big_from-lt, length-bytes_high_first}
use Rattle.std.specs.Int.{w64}
use Rattle.record.specs.Record.{width, IsWide, IsBody, AreColumns, IsRecord}
use Rattle.record.specs.Writing.{IsStorable, AreStorable, IsBytes, wide_type, int_bytes, int_type, type_of, body_of, header_len, record_of}
use Rattle.record.proofs.WritingLemmas.{types_short}
use Rattle.record.proofs.VarintLemmas.{varint_shortest, length_one, length_two}

-- ---- a value of a type lies in its range

six : (P : ℕ → Type 0) → P 1 → P 2 → P 3 → P 4 → P 5 → P 6 → (serial : ℕ) → 1 ≤ serial → serial ≤ 6 → P serial
six P a b c d e f zero low high = absurd (omega arith)
six P a b c d e f (suc zero) low high = a
six P a b c d e f (suc (suc zero)) low high = b
six P a b c d e f (suc (suc (suc zero))) low high = c
six P a b c d e f (suc (suc (suc (suc zero)))) low high = d
six P a b c d e f (suc (suc (suc (suc (suc zero))))) low high = e
six P a b c d e f (suc (suc (suc (suc (suc (suc zero)))))) low high = f
six P a b c d e f (suc (suc (suc (suc (suc (suc (suc k))))))) low high = absurd (omega arith)

abbrev steps : ℤ → ℕ
steps (pos n) = n
steps (negsuc n) = n

in_range : (half x : ℕ) → x < 2 * half → steps (cond (nat_lt x half) (pos x) (pos x -ℤ pos (2 * half))) < half
in_range half x below =
    elim (cases_lt x half) [
      | inl a ↦ rw (lt-ltb _ _ a) a
      | inr b ↦
          let same : pos x -ℤ pos (2 * half) ≡ negsuc (2 * half - suc x) = omega (arith, ints) in
          rw (le-ltb _ _ b, same) (omega arith)
    ]

abbrev Ranges : ℕ → Type 0
Ranges serial = (x : ℕ) → x < 256 ^ width serial → steps (twos_complement (width serial) x) < 2 ^ (8 * width serial - 1)

ranges : (serial : ℕ) → 1 ≤ serial → serial ≤ 6 → Ranges serial
ranges = six Ranges (in_range (2 ^ 7)) (in_range (2 ^ 15)) (in_range (2 ^ 23)) (in_range (2 ^ 31)) (in_range (2 ^ 47)) (in_range (2 ^ 63))

abbrev Narrow : ℕ → Type 0
Narrow serial = (n : ℕ) → n < 2 ^ (8 * width serial - 1) → width (wide_type n) ≤ width serial

narrow : (serial : ℕ) → 1 ≤ serial → serial ≤ 6 → Narrow serial
unfolding wide_type
narrow = six Narrow (λ n below. grind (arith, nat_tests)) (λ n below. grind (arith, nat_tests)) (λ n below. grind (arith, nat_tests)) (λ n below. grind (arith, nat_tests)) (λ n below. grind (arith, nat_tests)) (λ n below. grind (arith, nat_tests))

-- ---- each value's type and body are the shortest

abbrev AreSmall : List ℕ → Type 0
AreSmall bytes = (i : ℕ) → get_or bytes i 0 < 256

wide_least : (serial : ℕ) (body : List ℕ) (n : ℤ) → AreSmall body → IsWide serial body n → width (wide_type (steps n)) ≤ length body
wide_least serial body n small w =
    let below = big_from-lt 0 (width serial) body small in
    let range : steps n < 2 ^ (8 * width serial - 1) = subst (λ (z : ℤ). steps z < 2 ^ (8 * width serial - 1)) (sym w.value) (ranges serial w.low w.high (big_number (width serial) body) below) in
    omega (arith, narrow serial w.low w.high (steps n) range, w.len)

int_least : (serial : ℕ) (body : List ℕ) (n : ℤ) → AreSmall body → IsBody serial body (Int n) → length (int_bytes n) ≤ length body
int_least serial body n small (inl e) = rw e.2 (omega arith)
int_least serial body n small (inr (inl e)) = rw e.2 (omega arith)
int_least serial body (pos n) small (inr (inr w)) =
    elim (cases_lt n 2) [
      | inl a ↦ rw (lt-ltb _ _ a) (omega arith)
      | inr b ↦ rw (le-ltb _ _ b) (omega (arith, length-bytes_high_first (width (wide_type n)) (low_bytes w64 (width (wide_type n)) (pos n)), wide_least serial body (pos n) small w))
    ]
int_least serial body (negsuc n) small (inr (inr w)) =
    omega (arith, length-bytes_high_first (width (wide_type n)) (low_bytes w64 (width (wide_type n)) (negsuc n)), wide_least serial body (negsuc n) small w)

pub some_byte : (type : List ℕ) (serial : ℕ) → IsVarint type serial → 1 ≤ length type
some_byte type serial v = omega (arith, ap length v.spelled, length_push (marked v.high) v.last)

int_type_small : (n : ℤ) → int_type n < 128
unfolding wide_type
int_type_small (pos n) = grind (arith, nat_tests)
int_type_small (negsuc n) = grind (arith, nat_tests)

value_least : (value : Value) (serial : ℕ) (type body : List ℕ) → IsStorable value → AreSmall body → IsVarint type serial → IsBody serial body value
    → (length (type_of value) ≤ length type) × (length (body_of value) ≤ length body)
unfolding type_of body_of
value_least Null serial type body storable small v b = (omega (arith, length_one 0 (omega arith), some_byte type serial v), omega arith)
value_least (Int n) serial type body storable small v b = (omega (arith, length_one (int_type n) (int_type_small n), some_byte type serial v), int_least serial body n small b)
value_least (Text t) serial type body storable small v b =
    let least = (varint_shortest (13 + 2 * length t) (omega arith)).least type (subst (IsVarint type) b.0 v) in
    (least, omega (arith, ap length b.1))
value_least (Blob t) serial type body storable small v b =
    let least = (varint_shortest (12 + 2 * length t) (omega arith)).least type (subst (IsVarint type) b.0 v) in
    (least, omega (arith, ap length b.1))

-- ---- the row

AreSmall-front : (xs ys : List ℕ) → AreSmall (xs ++ ys) → AreSmall xs
AreSmall-front xs ys h i =
    elim (cases_lt i (length xs)) [
      | inl a ↦ subst (λ (b : ℕ). b < 256) (get_or_append_left xs ys 0 i a) (h i)
      | inr b ↦ rw (get_or_past xs i 0 b) (omega arith)
    ]

AreSmall-rest : (xs ys : List ℕ) → AreSmall (xs ++ ys) → AreSmall ys
AreSmall-rest xs ys h i = subst (λ (b : ℕ). b < 256) (get_or-append-add xs ys i 0) (h (length xs + i))

columns_least : (values : List Value) (types bodies : List ℕ) → AllByRecursion IsStorable values → AreSmall bodies → AreColumns types bodies values
    → (length (flat_map type_of values) ≤ length types) × (length (flat_map body_of values) ≤ length bodies)
columns_least [] types bodies storable small c = (omega arith, omega arith)
columns_least (value ∷ values) types bodies storable small c =
    let split : AreSmall (c.2.body ++ c.1) = subst AreSmall c.2.bodies_are small in
    let here = value_least value c.2.serial c.2.type c.2.body storable.0 (AreSmall-front c.2.body c.1 split) c.2.type_is c.2.body_is in
    let rest = columns_least values c.0 c.1 storable.1 (AreSmall-rest c.2.body c.1 split) c.3 in (
      omega (arith, here.0, rest.0, length-append (type_of value) (flat_map type_of values), ap length c.2.types_are, length-append c.2.type c.0),
      omega (arith, here.1, rest.1, length-append (body_of value) (flat_map body_of values), ap length c.2.bodies_are, length-append c.2.body c.1),
    )

-- a varint of one byte is below 128
one_byte : (head : List ℕ) (n : ℕ) → IsVarint head n → length head ≡ 1 → n < 128
one_byte head n v one =
    let none : v.high ≡ [] = nil_from_length v.high (omega (arith, one, ap length v.spelled, length_push (marked v.high) v.last, length-map v.high (λ (digit : ℕ). 128 + digit))) in
    let zero_is : base128 v.high ≡ 0 = ap base128 none in
    elim v.ends [ inl e ↦ omega (arith, e.1, e.2) | inr e ↦ absurd (omega (arith, e.0, ap length none)) ]

head_least : (types : ℕ) (head : List ℕ) (others : ℕ) → types < 16382 → types ≤ others → IsVarint head (length head + others) → length (varint (header_len types)) ≤ length head
unfolding header_len
head_least types head others small le v =
    elim (cases_lt types 127) [
      | inl a ↦ rw (lt-ltb _ _ a) (omega (arith, length_one (types + 1) (omega arith), some_byte head (length head + others) v))
      | inr b ↦ rw (le-ltb _ _ b) (elim (cases_lt 1 (length head)) [
        | inl two ↦ omega (arith, length_two (types + 2) (omega arith) (omega arith))
        | inr few ↦
            let one : length head ≡ 1 = omega (arith, some_byte head (length head + others) v) in
            absurd (omega (arith, one_byte head (length head + others) v one))
      ])
    ]

-- No record of the values is shorter than the one that is written.
pub record_least : (values : List Value) (other : List ℕ) → AllByRecursion IsStorable values → length values ≤ 1000 → AreSmall other → IsRecord other values → length (record_of values) ≤ length other
unfolding record_of
record_least values other storable few small r =
    let split : AreSmall (r.head ++ (r.types ++ r.bodies)) = subst AreSmall r.parts small in
    let bodies_small = AreSmall-rest r.types r.bodies (AreSmall-rest r.head (r.types ++ r.bodies) split) in
    let c = columns_least values r.types r.bodies storable bodies_small r.columns in
    let t = flat_map type_of values in
    let b = flat_map body_of values in
    let h = head_least (length t) r.head (length r.types) (omega (arith, types_short values)) c.0 r.head_is in
    omega (arith, c.0, c.1, ap length r.parts, length-append r.head (r.types ++ r.bodies), length-append r.types r.bodies, length-append (varint (header_len (length t))) (t ++ b), length-append t b)

pub is_shortest : (values : List Value) (r : Result (Vec ℕ) Fault) → AreStorable values → IfOk r (λ bytes. bytes.items ≡ record_of values)
    → IfOk r (λ bytes. (other : List ℕ) → IsBytes other → IsRecord other values → length bytes.items ≤ length other)
is_shortest values (Ok bytes) storable exact = λ other small is. rw exact (record_least values other (recursion_from_All IsStorable values storable.1) storable.0 small is)
is_shortest values (Err fault) storable exact = tt

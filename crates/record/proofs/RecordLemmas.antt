-- What is read is a record of the values, and a record of values is read as these.
use Rattle.std.proofs.Common.{◌≡◌, inl, inr, ℕ, zero, suc, ℤ, ◌+◌, ◌*◌, ◌-◌, ◌/◌, ◌%◌, ◌<◌, ◌≤◌, true, false, cond, nat_lt, eqb, List, [], ◌∷◌, ◌++◌, length, take, drop, Some, Result, Ok, Err, refl, sym, ap, subst, ◌∙◌, arith}
use Rattle.byteorder.specs.Endian.{big_number, twos_complement}
use Rattle.std.specs.Str.{is_utf8, IsUtf8}
use Rattle.std.proofs.lemmas.Bool.{ltb-true, ltb-false, lt-ltb, le-ltb, eqb-true, eqb-false, ne_eqb}
use Rattle.std.proofs.lemmas.Bool.Decides.{nat_tests}
use Rattle.std.proofs.lemmas.List.{take_at, drop_at, take-append-drop, length-append, length-take, nil_from_length}
use Rattle.std.proofs.lemmas.Str.{IsUtf8-from_is_utf8, is_utf8-from_IsUtf8}
use Rattle.sqlval.specs.declared.value.Value.{Value}
use Rattle.sqlval.specs.declared.value.Value.TheVariants.{Null, Int, Text, Blob}
use Rattle.record.specs.declared.field.Wrong.{Wrong}
use Rattle.record.specs.declared.field.Wrong.TheVariants.{Broken}
use Rattle.record.specs.Varint.{IsVarint, varint_at}
use Rattle.record.specs.Record.{width, IsWide, IsBody, IsColumn, AreColumns, IsRecord}
use Rattle.record.specs.Reading.{◌>>=◌, or_broken, body_len, text_at, body_at, column_at, columns_at, split_header, halves_at, record_at}
use Rattle.record.proofs.VarintLemmas.{AreBytes, chosen, varint_takes, varint_again}
use Rattle.record.proofs.ColumnLemmas.{bind_ok, ok_is, guard_ok, some_from_or_broken, column_takes, column_shorter}

-- ---- a body

len_wide : (serial : ℕ) → 1 ≤ serial → serial ≤ 6 → body_len serial ≡ width serial
unfolding body_len
len_wide serial low high = grind (arith, nat_tests)

len_none : (serial : ℕ) → 8 ≤ serial → serial < 12 → body_len serial ≡ 0
unfolding body_len
len_none serial low high = grind (arith, nat_tests)

len_long : (serial : ℕ) → 12 ≤ serial → body_len serial ≡ (serial - 12) / 2
unfolding body_len
len_long serial low = grind (arith, nat_tests)

abbrev Fine : ℕ → List ℕ → Value → Type 0
Fine serial body value = (length body ≡ body_len serial) × (body_at serial body ≡ Ok value)

wide_again : (serial : ℕ) (body : List ℕ) (n : ℤ) → IsWide serial body n → Fine serial body (Int n)
unfolding body_at
wide_again serial body n w =
    let len : length body ≡ body_len serial = w.len ∙ sym (len_wide serial w.low w.high) in
    let zero_not : eqb serial 0 ≡ false = ne_eqb _ _ (λ e. omega (arith, w.low)) in
    let below : nat_lt serial 7 ≡ true = lt-ltb _ _ (omega (arith, w.high)) in
    (len, rw (zero_not, below, w.len, w.value) refl)

-- an integer at one of the types 1 to 6
pub wide_reads : (serial : ℕ) (body : List ℕ) (n : ℤ) → 1 ≤ serial → serial ≤ 6 → n ≡ twos_complement (length body) (big_number (length body) body) → body_at serial body ≡ Ok (Int n)
unfolding body_at
wide_reads serial body n low high is =
    let zero_not : eqb serial 0 ≡ false = ne_eqb _ _ (λ e. omega (arith, low)) in
    let below : nat_lt serial 7 ≡ true = lt-ltb _ _ (omega (arith, high)) in
    rw (zero_not, below, is) refl

pub body_again : (serial : ℕ) (body : List ℕ) (value : Value) → IsBody serial body value → Fine serial body value
unfolding body_at body_len
body_again serial body Null b = (rw (b.0, b.1) refl, rw b.0 refl)
body_again serial body (Int n) (inl b) = (rw (b.0, b.1) refl, rw (b.0, b.2) refl)
body_again serial body (Int n) (inr (inl b)) = (rw (b.0, b.1) refl, rw (b.0, b.2) refl)
body_again serial body (Int n) (inr (inr w)) = wide_again serial body n w
body_again serial body (Text t) b =
    let same : body ≡ t = b.1 in
    let ok : is_utf8 t ≡ true = is_utf8-from_IsUtf8 t b.2 in
    let len : length body ≡ body_len serial = rw (len_long serial (omega (arith, b.0)), same) (omega (arith, b.0)) in
    (len, rw same (text_reads serial t b.0 ok))
  where
    text_reads : (serial : ℕ) (t : List ℕ) → serial ≡ 13 + 2 * length t → is_utf8 t ≡ true → body_at serial t ≡ Ok (Text t)
    text_reads serial t e ok = grind (arith, nat_tests)
body_again serial body (Blob t) b =
    let same : body ≡ t = b.1 in
    let len : length body ≡ body_len serial = rw (len_long serial (omega (arith, b.0)), same) (omega (arith, b.0)) in
    (len, rw same (blob_reads serial t b.0))
  where
    blob_reads : (serial : ℕ) (t : List ℕ) → serial ≡ 12 + 2 * length t → body_at serial t ≡ Ok (Blob t)
    blob_reads serial t e = grind (arith, nat_tests)

text_takes : (body : List ℕ) (value : Value) → text_at body ≡ Ok value → IsUtf8 body × (value ≡ Text body)
text_takes body value e =
    elim (chosen (is_utf8 body) (Ok (Text body)) (Err Broken) (Ok value) e) [
      | inl is ↦ (IsUtf8-from_is_utf8 body is.0, sym (ok_is is.1))
      | inr not ↦ absurd (let e2 = not.1 in cc)
    ]

abbrev Here : ℕ → List ℕ → Value → Type 0
Here serial body value = length body ≡ body_len serial → IsBody serial body value

pub body_takes : (serial : ℕ) (body : List ℕ) (value : Value) → body_at serial body ≡ Ok value → Here serial body value
unfolding body_at body_len
body_takes serial body value e len =
    elim (chosen (eqb serial 0) _ _ _ e) [
      | inl t ↦
          let zero_is : serial ≡ 0 = eqb-true _ _ t.0 in
          let none : body ≡ [] = nil_from_length body (len ∙ ap body_len zero_is) in
          subst (IsBody serial body) (ok_is t.1) (zero_is, none)
      | inr t ↦ elim (chosen (nat_lt serial 7) _ _ _ t.1) [
        | inl u ↦
            let low : 1 ≤ serial = let no = eqb-false _ _ t.0 in grind arith in
            let high : serial ≤ 6 = let below : serial < 7 = ltb-true _ _ u.0 in omega arith in
            let wide : length body ≡ width serial = len ∙ len_wide serial low high in
            subst (IsBody serial body) (ok_is u.1) (inr (inr (record { low = low; high = high; len = wide; value = rw wide refl })))
        | inr u ↦ elim (chosen (eqb serial 7) _ _ _ u.1) [
          | inl v ↦ absurd (let e2 = v.1 in cc)
          | inr v ↦ elim (chosen (eqb serial 8) _ _ _ v.1) [
            | inl w ↦
                let is : serial ≡ 8 = eqb-true _ _ w.0 in
                subst (IsBody serial body) (ok_is w.1) (inl (is, nil_from_length body (len ∙ ap body_len is), refl))
            | inr w ↦ elim (chosen (eqb serial 9) _ _ _ w.1) [
              | inl x ↦
                  let is : serial ≡ 9 = eqb-true _ _ x.0 in
                  subst (IsBody serial body) (ok_is x.1) (inr (inl (is, nil_from_length body (len ∙ ap body_len is), refl)))
              | inr x ↦ elim (chosen (nat_lt serial 12) _ _ _ x.1) [
                | inl y ↦ absurd (let e2 = y.1 in cc)
                | inr y ↦
                    let above : 12 ≤ serial = ltb-false _ _ y.0 in
                    let half : length body ≡ (serial - 12) / 2 = len ∙ len_long serial above in
                    elim (chosen (eqb (serial % 2) 0) _ _ _ y.1) [
                      | inl z ↦
                          let even : serial % 2 ≡ 0 = eqb-true _ _ z.0 in
                          let is : serial ≡ 12 + 2 * length body = omega arith in
                          subst (IsBody serial body) (ok_is z.1) (is, refl)
                      | inr z ↦
                          let odd = eqb-false _ _ z.0 in
                          let is : serial ≡ 13 + 2 * length body = grind arith in
                          let text = text_takes body value z.1 in
                          subst (IsBody serial body) (sym text.1) (is, refl, text.0)
                    ]
              ]
            ]
          ]
        ]
      ]
    ]

-- ---- a column

pub AreBytes-front : (xs ys : List ℕ) → AreBytes (xs ++ ys) → AreBytes xs
AreBytes-front [] ys h = tt
AreBytes-front (x ∷ xs) ys h = (h.0, AreBytes-front xs ys h.1)

pub AreBytes-rest : (xs ys : List ℕ) → AreBytes (xs ++ ys) → AreBytes ys
AreBytes-rest [] ys h = h
AreBytes-rest (x ∷ xs) ys h = AreBytes-rest xs ys h.1

column_is : (types bodies : List ℕ) (value : Value) (types_left bodies_left : List ℕ) → AreBytes types → column_at types bodies ≡ Ok (value, types_left, bodies_left)
    → IsColumn types bodies value types_left bodies_left × AreBytes types_left
column_is types bodies value types_left bodies_left fits e =
    let t = column_takes types bodies value types_left bodies_left e in
    let v = varint_takes types t.serial types_left fits t.type_is in
    let body = take (body_len t.serial) bodies in
    let len : length body ≡ body_len t.serial = omega (arith, length-take (body_len t.serial) bodies, t.long) in (
      record {
        serial = t.serial;
        type = v.0;
        body = body;
        types_are = v.1;
        bodies_are = sym (take-append-drop (body_len t.serial) bodies) ∙ ap (λ (x : List ℕ). body ++ x) (sym t.left_is);
        type_is = v.2;
        body_is = body_takes t.serial body value t.body_is len;
      },
      AreBytes-rest v.0 types_left (subst AreBytes v.1 fits),
    )

column_again : (types bodies : List ℕ) (value : Value) (types_left bodies_left : List ℕ) → IsColumn types bodies value types_left bodies_left → column_at types bodies ≡ Ok (value, types_left, bodies_left)
unfolding column_at
column_again types bodies value types_left bodies_left c =
    let type : varint_at types ≡ Some (c.serial, types_left) = ap varint_at c.types_are ∙ varint_again c.type c.serial types_left c.type_is in
    let fine = body_again c.serial c.body value c.body_is in
    let long : nat_lt (length bodies) (body_len c.serial) ≡ false = le-ltb _ _ (omega (arith, ap length c.bodies_are, length-append c.body bodies_left, fine.0)) in
    let body : take (body_len c.serial) bodies ≡ c.body = ap (take (body_len c.serial)) c.bodies_are ∙ take_at c.body bodies_left (body_len c.serial) fine.0 in
    let left : drop (body_len c.serial) bodies ≡ bodies_left = ap (drop (body_len c.serial)) c.bodies_are ∙ drop_at c.body bodies_left (body_len c.serial) fine.0 in
    rw (type, long, body, fine.1, left) refl

-- ---- the columns

pub columns_are : (most : ℕ) (types bodies : List ℕ) (values : List Value) → AreBytes types → columns_at most types bodies ≡ Ok values → AreColumns types bodies values
unfolding columns_at
columns_are most [] bodies values fits e =
    elim (chosen (eqb (length bodies) 0) (Ok []) (Err Broken) (Ok values) e) [
      | inl t ↦ subst (AreColumns [] bodies) (ok_is t.1) (refl, nil_from_length bodies (eqb-true _ _ t.0))
      | inr t ↦ absurd (let e2 = t.1 in cc)
    ]
columns_are zero (b ∷ types) bodies values fits e = absurd cc
columns_are (suc most) (b ∷ types) bodies values fits e =
    let c = bind_ok (column_at (b ∷ types) bodies) (λ column. columns_at most column.1 column.2 >>= λ values. Ok (column.0 ∷ values)) values e in
    let r = bind_ok (columns_at most c.0.1 c.0.2) (λ values. Ok (c.0.0 ∷ values)) values c.2 in
    let first = column_is (b ∷ types) bodies c.0.0 c.0.1 c.0.2 fits c.1 in
    subst (AreColumns (b ∷ types) bodies) (ok_is r.2) (c.0.1, c.0.2, first.0, columns_are most c.0.1 c.0.2 r.0 first.1 r.1)

pub columns_again : (values : List Value) (most : ℕ) (types bodies : List ℕ) → length types ≤ most → AreColumns types bodies values → columns_at most types bodies ≡ Ok values
unfolding columns_at
columns_again [] most types bodies le c = rw (c.0, c.1) refl
columns_again (value ∷ values) most [] bodies le c =
    absurd (let shorter = column_shorter [] bodies value c.0 c.1 (column_again [] bodies value c.0 c.1 c.2) in omega arith)
columns_again (value ∷ values) zero (b ∷ types) bodies le c = absurd (omega arith)
columns_again (value ∷ values) (suc most) (b ∷ types) bodies le c =
    let first = column_again (b ∷ types) bodies value c.0 c.1 c.2 in
    let shorter = column_shorter (b ∷ types) bodies value c.0 c.1 first in
    rw (first, columns_again values most c.0 c.1 (omega arith) c.3) refl

-- ---- the record

pub record_is : (bytes : List ℕ) (values : List Value) → AreBytes bytes → record_at bytes ≡ Ok values → IsRecord bytes values
unfolding record_at halves_at
record_is bytes values fits e =
    let h = bind_ok (halves_at bytes) (λ halves. columns_at (length halves.0) halves.0 halves.1) values e in
    let v = bind_ok (or_broken (varint_at bytes)) (λ head. split_header (length bytes - length head.1) head.0 head.1) h.0 h.1 in
    let whole = v.0.0 in
    let rest = v.0.1 in
    let front = length bytes - length rest in
    let t = varint_takes bytes whole rest fits (some_from_or_broken (varint_at bytes) v.0 v.1) in
    let long = guard_ok (nat_lt whole front) Broken (cond (nat_lt (length rest) (whole - front)) (Err Broken) (Ok (take (whole - front) rest, drop (whole - front) rest))) h.0 v.2 in
    let enough = guard_ok (nat_lt (length rest) (whole - front)) Broken (Ok (take (whole - front) rest, drop (whole - front) rest)) h.0 long.1 in
    let le1 : front ≤ whole = ltb-false _ _ long.0 in
    let le2 : whole - front ≤ length rest = ltb-false _ _ enough.0 in
    let len : length bytes ≡ length t.0 + length rest = ap length t.1 ∙ length-append t.0 rest in
    let types = take (whole - front) rest in
    let bodies = drop (whole - front) rest in
    let halves : (types, bodies) ≡ h.0 = ok_is enough.1 in
    let whole_is : whole ≡ length t.0 + length types = omega (arith, length-take (whole - front) rest) in
    let rest_fits : AreBytes rest = AreBytes-rest t.0 rest (subst AreBytes t.1 fits) in
    record {
      head = t.0;
      types = types;
      bodies = bodies;
      parts = t.1 ∙ ap (λ (x : List ℕ). t.0 ++ x) (sym (take-append-drop (whole - front) rest));
      head_is = subst (IsVarint t.0) whole_is t.2;
      columns = columns_are (length types) types bodies values (AreBytes-front types bodies (subst AreBytes (sym (take-append-drop (whole - front) rest)) rest_fits))
          (subst (λ (p : List ℕ × List ℕ). columns_at (length p.0) p.0 p.1 ≡ Ok values) (sym halves) h.2);
    }

pub record_again : (bytes : List ℕ) (values : List Value) → IsRecord bytes values → record_at bytes ≡ Ok values
unfolding record_at halves_at
record_again bytes values r =
    let rest = r.types ++ r.bodies in
    let whole = length r.head + length r.types in
    let head : varint_at bytes ≡ Some (whole, rest) = ap varint_at r.parts ∙ varint_again r.head whole rest r.head_is in
    let len : length bytes - length rest ≡ length r.head = omega (arith, ap length r.parts, length-append r.head rest) in
    let long : nat_lt whole (length r.head) ≡ false = le-ltb _ _ (omega arith) in
    let rest_len : whole - length r.head ≡ length r.types = omega arith in
    let enough : nat_lt (length rest) (length r.types) ≡ false = le-ltb _ _ (omega (arith, length-append r.types r.bodies)) in
    rw (head, len, long, rest_len, enough, take_at r.types r.bodies (length r.types) refl, drop_at r.types r.bodies (length r.types) refl) (columns_again values (length r.types) r.types r.bodies (omega arith) r.columns)

abbrev list_in : Result (List Value) Wrong → List Value
list_in (Ok values) = values
list_in (Err wrong) = []

pub one_list : (bytes : List ℕ) (some others : List Value) → IsRecord bytes some → IsRecord bytes others → some ≡ others
one_list bytes some others a b = ap list_in (sym (record_again bytes some a) ∙ record_again bytes others b)

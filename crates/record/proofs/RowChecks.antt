-- What a look at the values of a record tells of them.
use Rattle.std.proofs.Common.{◌≡◌, inl, inr, IsTrue, ℕ, ◌+◌, ◌≤◌, ◌&&◌, Bool, true, eqb, List, [], ◌∷◌, ◌++◌, length, take, drop, Option, Some, None, Result, Ok, Err, refl, sym, ap, subst, ◌∙◌, arith}
use Rattle.std.proofs.lemmas.Bool.{and_from, and_parts, cases_Bool, eq-eqb, le-ltb, ne_eqb}
use Rattle.std.proofs.lemmas.List.{append-nil, length-append, length-take}
use Rattle.std.proofs.lemmas.List.Elements.{All-cons, All-head, All-nil, All-push, All-tail}
use Rattle.std.proofs.lemmas.Str.{IsUtf8-from_is_utf8, is_utf8-from_IsUtf8}
use Rattle.std.specs.Prelude.{All, MatchResult, is_none, is_ok}
use Rattle.std.specs.Str.{is_utf8, IsUtf8}
use Rattle.sqlval.specs.Sameness.{is_same_value}
use Rattle.sqlval.specs.declared.value.Value.{Value}
use Rattle.sqlval.specs.declared.value.Value.TheVariants.{Null, Int, Text, Blob}
use Rattle.record.specs.declared.field.Wrong.{Wrong}
use Rattle.record.specs.declared.field.Wrong.TheVariants.{Broken}
use Rattle.record.specs.Varint.{varint_at}
use Rattle.record.specs.Record.{IsBody}
use Rattle.record.specs.Reading.{body_at, body_len, column_at, columns_at, halves_at, record_at}
use Rattle.record.specs.Rows.{has_null_at}
use Rattle.record.specs.Writing.{IsStorable}
use Rattle.record.proofs.ColumnLemmas.{column_shorter, columns_go_on, with_front}
use Rattle.record.proofs.RecordLemmas.{body_takes}
use Rattle.record.proofs.WritingLemmas.{width_few}

-- ---- one value

-- what a test of bytes tells of them
pub text_told : {S E : Type 0} (P : S → Type 0) (Q : E → Type 0) (r : Result S E) (bytes : List ℕ) → MatchResult r (λ s. P s × IsUtf8 bytes) (λ e. (IsUtf8 bytes → ⊥) × Q e) → is_ok r ≡ is_utf8 bytes
text_told P Q (Ok s) bytes told = sym (is_utf8-from_IsUtf8 bytes told.1)
text_told P Q (Err e) bytes told =
    elim (cases_Bool (is_utf8 bytes)) [
      | inl is ↦ absurd (told.0 (IsUtf8-from_is_utf8 bytes is))
      | inr not ↦ sym not
    ]

-- NULL alone has the type 0
null_typed : (serial : ℕ) (body : List ℕ) (value : Value) → IsBody serial body value → eqb serial 0 ≡ is_same_value value Null
null_typed serial body Null is = eq-eqb serial 0 is.0
null_typed serial body (Int n) (inl is) = ne_eqb serial 0 (λ e. omega (arith, is.0))
null_typed serial body (Int n) (inr (inl is)) = ne_eqb serial 0 (λ e. omega (arith, is.0))
null_typed serial body (Int n) (inr (inr is)) = ne_eqb serial 0 (λ e. omega (arith, is.low))
null_typed serial body (Text t) is = ne_eqb serial 0 (λ e. omega (arith, is.0))
null_typed serial body (Blob b) is = ne_eqb serial 0 (λ e. omega (arith, is.0))

-- a value that can be stored has a short body, and one with a short body can be stored
short_stored : (serial : ℕ) (body : List ℕ) (value : Value) → IsBody serial body value → IsStorable value → length body ≤ 1000000
short_stored serial body Null is can = omega (arith, ap length is.1)
short_stored serial body (Int n) (inl is) can = omega (arith, ap length is.1)
short_stored serial body (Int n) (inr (inl is)) can = omega (arith, ap length is.1)
short_stored serial body (Int n) (inr (inr is)) can = omega (arith, is.len, width_few serial is.high)
short_stored serial body (Text t) is can = omega (arith, ap length is.1, can)
short_stored serial body (Blob b) is can = omega (arith, ap length is.1, can)

stored_short : (serial : ℕ) (body : List ℕ) (value : Value) → IsBody serial body value → length body ≤ 1000000 → IsStorable value
stored_short serial body Null is short = tt
stored_short serial body (Int n) is short = tt
stored_short serial body (Text t) is short = omega (arith, ap length is.1, short)
stored_short serial body (Blob b) is short = omega (arith, ap length is.1, short)

-- What a value that is passed over is, where its body is one of its type.
pub record IsPassed (types bodies types_left : List ℕ) (serial : ℕ) (value : Value) : Type 0 where
  pub is : column_at types bodies ≡ Ok (value, types_left, drop (body_len serial) bodies)
  pub null : eqb serial 0 ≡ is_same_value value Null
  pub stored : IsStorable value → body_len serial ≤ 1000000
  pub short : body_len serial ≤ 1000000 → IsStorable value

pub passed : (types bodies types_left : List ℕ) (serial : ℕ) (value : Value) → Some (serial, types_left) ≡ varint_at types → body_len serial ≤ length bodies
    → body_at serial (take (body_len serial) bodies) ≡ Ok value → IsPassed types bodies types_left serial value
unfolding column_at
passed types bodies types_left serial value type long body =
    let len : length (take (body_len serial) bodies) ≡ body_len serial = omega (arith, length-take (body_len serial) bodies, long) in
    let is = body_takes serial (take (body_len serial) bodies) value body len in
    record {
      is = rw (sym type, le-ltb (length bodies) (body_len serial) long, body) refl;
      null = null_typed serial (take (body_len serial) bodies) value is;
      stored = λ can. subst (λ (n : ℕ). n ≤ 1000000) len (short_stored serial (take (body_len serial) bodies) value is can);
      short = λ few. stored_short serial (take (body_len serial) bodies) value is (subst (λ (n : ℕ). n ≤ 1000000) (sym len) few);
    }

-- ---- one value more

all_front : (values : List Value) (value : Value) → All IsStorable (values ++ value ∷ []) → All IsStorable values × IsStorable value
all_front values value all = (each values all, last values all)
  where
    each : (values : List Value) → All IsStorable (values ++ value ∷ []) → All IsStorable values
    each [] all = All-nil IsStorable
    each (first ∷ values) all = All-cons IsStorable first values (All-head IsStorable first (values ++ value ∷ []) all) (each values (All-tail IsStorable first (values ++ value ∷ []) all))

    last : (values : List Value) → All IsStorable (values ++ value ∷ []) → IsStorable value
    last [] all = All-head IsStorable value [] all
    last (first ∷ values) all = last values (All-tail IsStorable first (values ++ value ∷ []) all)

-- What is known of the values so far, after which those that are left come.
pub record HasSeen (types bodies : List ℕ) (own : Option ℕ) (types_left bodies_left : List ℕ) (count : ℕ) (has_null is_storable : Bool) : Type 0 where
  pub values : List Value
  pub rest : with_front values (columns_at (length types_left) types_left bodies_left) ≡ columns_at (length types) types bodies
  pub fewer : count + length types_left ≤ length types
  pub count_is : count ≡ length values
  pub null_is : has_null ≡ has_null_at own values
  pub yes : IsTrue is_storable → All IsStorable values
  pub no : All IsStorable values → IsTrue is_storable

-- before any value
pub none_seen : (types bodies : List ℕ) (own : Option ℕ) → HasSeen types bodies own types bodies 0 (is_none own) true
none_seen types bodies own = record {
  values = [];
  rest = same (columns_at (length types) types bodies);
  fewer = omega arith;
  count_is = refl;
  null_is = at_none own;
  yes = λ e. All-nil IsStorable;
  no = λ all. refl;
}
  where
    same : (read : Result (List Value) Wrong) → with_front [] read ≡ read
    same (Ok values) = refl
    same (Err wrong) = refl

    at_none : (own : Option ℕ) → is_none own ≡ has_null_at own []
    at_none None = refl
    at_none (Some place) = refl

module _ (types bodies : List ℕ) (own : Option ℕ) (types_left bodies_left : List ℕ) (count : ℕ) (has_null is_storable : Bool) (seen : HasSeen types bodies own types_left bodies_left count has_null is_storable) where
  -- after one more
  pub one_seen : (value : Value) (types_after bodies_after : List ℕ) (null stored both : Bool) → column_at types_left bodies_left ≡ Ok (value, types_after, bodies_after)
      → null ≡ has_null_at own (seen.values ++ value ∷ []) → (IsTrue stored → IsStorable value) × (IsStorable value → IsTrue stored) → both ≡ (is_storable && stored)
      → HasSeen types bodies own types_after bodies_after (count + 1) null both
  one_seen value types_after bodies_after null stored both is null_is can both_is =
      let shorter = column_shorter types_left bodies_left value types_after bodies_after is in
      record {
        values = seen.values ++ value ∷ [];
        rest = columns_go_on seen.values value types_left bodies_left types_after bodies_after (columns_at (length types) types bodies) is seen.rest;
        fewer = omega (arith, shorter, seen.fewer);
        count_is = omega (arith, seen.count_is, length-append seen.values (value ∷ []));
        null_is = null_is;
        yes = λ e. (let parts = and_parts is_storable stored (sym both_is ∙ e) in All-push IsStorable seen.values value (seen.yes parts.0) (can.0 parts.1));
        no = λ all. (let parts = all_front seen.values value all in both_is ∙ and_from is_storable stored (seen.no parts.0) (can.1 parts.1));
      }

  -- a value that can't be read is why there are none
  pub one_wrong : (wrong : Wrong) → (length types_left ≡ 0 → ⊥) → column_at types_left bodies_left ≡ Err wrong → columns_at (length types) types bodies ≡ Err wrong
  unfolding columns_at
  one_wrong wrong some is = sym seen.rest ∙ ap (with_front seen.values) (stops types_left some is)
    where
      stops : (types : List ℕ) → (length types ≡ 0 → ⊥) → column_at types bodies_left ≡ Err wrong → columns_at (length types) types bodies_left ≡ Err wrong
      stops [] some is = absurd (some refl)
      stops (byte ∷ types) some is = rw is refl

  -- where no types are left, the bodies are all used up, or this is wrong
  pub all_seen : length types_left ≡ 0 → length bodies_left ≡ 0 → columns_at (length types) types bodies ≡ Ok seen.values
  unfolding columns_at
  all_seen no_types no_bodies = sym seen.rest ∙ (ap (with_front seen.values) (ends types_left no_types) ∙ ap (λ (values : List Value). Ok values) (append-nil seen.values))
    where
      ends : (types : List ℕ) → length types ≡ 0 → columns_at (length types) types bodies_left ≡ Ok []
      ends [] none = rw no_bodies refl
      ends (byte ∷ types) none = absurd (omega (arith, none))

  pub some_left : length types_left ≡ 0 → (length bodies_left ≡ 0 → ⊥) → columns_at (length types) types bodies ≡ Err Broken
  unfolding columns_at
  some_left no_types some = sym seen.rest ∙ ap (with_front seen.values) (ends types_left no_types)
    where
      ends : (types : List ℕ) → length types ≡ 0 → columns_at (length types) types bodies_left ≡ Err Broken
      ends [] none = rw (ne_eqb (length bodies_left) 0 some) refl
      ends (byte ∷ types) none = absurd (omega (arith, none))

-- ---- a record

-- what its halves are read as
pub halves_read : (bytes types bodies : List ℕ) → halves_at bytes ≡ Ok (types, bodies) → record_at bytes ≡ columns_at (length types) types bodies
unfolding record_at
halves_read bytes types bodies is = rw is refl

pub halves_wrong : (bytes : List ℕ) (wrong : Wrong) → halves_at bytes ≡ Err wrong → record_at bytes ≡ Err wrong
unfolding record_at
halves_wrong bytes wrong is = rw is refl

pub no_both : (read : Result (List Value) Wrong) (values : List Value) (wrong : Wrong) → read ≡ Ok values → read ≡ Err wrong → ⊥
no_both (Ok some) values wrong e e' = absurd cc
no_both (Err other) values wrong e e' = absurd cc

pub one_wrong_alone : (read : Result (List Value) Wrong) (wrong other : Wrong) → read ≡ Err wrong → read ≡ Err other → wrong ≡ other
one_wrong_alone (Ok some) wrong other e e' = absurd cc
one_wrong_alone (Err some) wrong other e e' = cc

pub same_values : (read : Result (List Value) Wrong) (some others : List Value) → read ≡ Ok some → read ≡ Ok others → some ≡ others
same_values (Ok values) some others e e' = cc
same_values (Err wrong) some others e e' = absurd cc

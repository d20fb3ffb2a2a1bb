-- The values in bytes, each by itself.
use Rattle.std.proofs.Common.{◌≡◌, inl, inr, eqb, ℕ, zero, suc, ◌+◌, ◌-◌, ◌<◌, ◌≤◌, Bool, true, false, cond, nat_lt, List, [], ◌∷◌, ◌++◌, length, take, drop, Option, Some, None, Result, Ok, Err, refl, sym, ap, ◌∙◌, append_assoc, arith}
use Rattle.std.proofs.lemmas.Bool.{eqb-true}
use Rattle.std.proofs.lemmas.List.{append-nil}
use Rattle.std.specs.Prelude.{option_map, slice_get, unwrap_or}
use Rattle.sqlval.specs.declared.value.Value.{Value}
use Rattle.sqlval.specs.declared.value.Value.TheVariants.{Null}
use Rattle.record.specs.declared.field.Wrong.{Wrong}
use Rattle.record.specs.declared.field.Wrong.TheVariants.{Broken}
use Rattle.record.specs.Varint.{varint_at}
use Rattle.record.specs.Record.{IsRecord}
use Rattle.record.specs.Reading.{◌>>=◌, body_len, body_at, column_at, columns_at, halves_at, record_at}
use Rattle.record.specs.Columns.{and_those_after, body_or_null, left_after, or_null, value_here, value_typed, values_from, values_in, values_of_halves}
use Rattle.record.proofs.ColumnLemmas.{bind_ok, ok_is, column_takes, varint_shortens}
use Rattle.record.proofs.RecordLemmas.{record_again}
use Rattle.record.proofs.VarintLemmas.{chosen, some_is}

-- ---- the values of a record

none_left : (bodies : List ℕ) → left_after [] bodies ≡ None
unfolding varint_at
none_left bodies = refl

-- nothing is said by no types
pub no_types : (most : ℕ) (bodies : List ℕ) → values_from most [] bodies ≡ []
no_types zero bodies = refl
no_types (suc most) bodies = ap (and_those_after (value_here [] bodies) (values_from most)) (none_left bodies)

pub left_is : (types bodies : List ℕ) (value : Value) (types_left bodies_left : List ℕ) → column_at types bodies ≡ Ok (value, types_left, bodies_left)
    → left_after types bodies ≡ Some (types_left, bodies_left)
left_is types bodies value types_left bodies_left e =
    let takes = column_takes types bodies value types_left bodies_left e in
    ap (option_map (λ (serial : ℕ × List ℕ). (serial.1, drop (body_len serial.0) bodies))) takes.type_is ∙ ap (λ (left : List ℕ). Some (types_left, left)) (sym takes.left_is)

no_columns : (most : ℕ) (bodies : List ℕ) (values : List Value) → columns_at most [] bodies ≡ Ok values → values ≡ []
unfolding columns_at
no_columns most [] values e = sym (ok_is e)
no_columns most (b ∷ bodies) values e =
    elim (chosen (eqb (length (b ∷ bodies)) 0) (Ok []) (Err Broken) (Ok values) e) [
      | inl none ↦ absurd (let zero_is = eqb-true _ _ none.0 in omega arith)
      | inr not ↦ absurd (let e2 = not.1 in cc)
    ]

pub columns_lie : (most : ℕ) (types bodies : List ℕ) (values : List Value) → columns_at most types bodies ≡ Ok values → values_from most types bodies ≡ values
unfolding columns_at
columns_lie most [] bodies values e = no_types most bodies ∙ sym (no_columns most bodies values e)
columns_lie zero (b ∷ types) bodies values e = cc
columns_lie (suc most) (b ∷ types) bodies values e =
    let first = bind_ok (column_at (b ∷ types) bodies) (λ column. columns_at most column.1 column.2 >>= λ values. Ok (column.0 ∷ values)) values e in
    let column = first.0 in
    let after = bind_ok (columns_at most column.1 column.2) (λ values. Ok (column.0 ∷ values)) values first.2 in
    ap (and_those_after (value_here (b ∷ types) bodies) (values_from most)) (left_is (b ∷ types) bodies column.0 column.1 column.2 first.1)
    ∙ (ap (λ (value : Value). value ∷ values_from most column.1 column.2) (ap or_null first.1)
    ∙ (ap (λ (values : List Value). column.0 ∷ values) (columns_lie most column.1 column.2 after.0 after.1) ∙ ok_is after.2))

pub record_lies : (bytes : List ℕ) (values : List Value) → IsRecord bytes values → values_in bytes ≡ values
unfolding record_at
record_lies bytes values is =
    let split = bind_ok (halves_at bytes) (λ halves. columns_at (length halves.0) halves.0 halves.1) values (record_again bytes values is) in
    ap values_of_halves split.1 ∙ columns_lie (length split.0.0) split.0.0 split.0.1 values split.2

-- ---- reading on

-- the value at a place, or NULL
abbrev pub nth : List Value → ℕ → Value
nth values index = unwrap_or (slice_get values index) Null

-- of what is left, the value is the first
pub nth_here : (most : ℕ) (types bodies : List ℕ) → length types ≤ most → value_here types bodies ≡ nth (values_from most types bodies) 0
unfolding column_at varint_at
nth_here zero [] bodies le = refl
nth_here zero (b ∷ types) bodies le = absurd (omega (arith, le))
nth_here (suc most) types bodies le = first_of (varint_at types) refl
  where
    first_of : (found : Option (ℕ × List ℕ)) → varint_at types ≡ found → value_here types bodies ≡ nth (values_from (suc most) types bodies) 0
    first_of None e = rw (e, value_here) refl
    first_of (Some serial) e = rw (e, left_after) refl

-- past a value, the place is one less
pub nth_later : (most index : ℕ) (types bodies types_left bodies_left : List ℕ) → left_after types bodies ≡ Some (types_left, bodies_left)
    → nth (values_from (suc most) types bodies) (suc index) ≡ nth (values_from most types_left bodies_left) index
nth_later most index types bodies types_left bodies_left e =
    ap (λ (left : Option (List ℕ × List ℕ)). nth (and_those_after (value_here types bodies) (values_from most) left) (suc index)) e

-- so it is one turn later
pub nth_on : (len index counter : ℕ) (types bodies types_left bodies_left : List ℕ) (value : Value) → counter < index → counter < len
    → Some (types_left, bodies_left) ≡ left_after types bodies → nth (values_from (len - counter) types bodies) (index - counter) ≡ value
    → nth (values_from (len - (counter + 1)) types_left bodies_left) (index - (counter + 1)) ≡ value
nth_on len index counter types bodies types_left bodies_left value lt within e so_far =
    let more : len - counter ≡ suc (len - (counter + 1)) = omega (arith, within) in
    let later : index - counter ≡ suc (index - (counter + 1)) = omega (arith, lt) in
    sym (nth_later (len - (counter + 1)) (index - (counter + 1)) types bodies types_left bodies_left (sym e))
    ∙ (sym (ap (λ (most : ℕ). nth (values_from most types bodies) (suc (index - (counter + 1)))) more ∙ ap (λ (place : ℕ). nth (values_from (suc (len - (counter + 1))) types bodies) place) refl) ∙ (sym (ap (λ (place : ℕ). nth (values_from (len - counter) types bodies) place) later) ∙ so_far))

-- ---- the number of turns doesn't matter

found_in : (serial : Option (ℕ × List ℕ)) (bodies : List ℕ) (left : List ℕ × List ℕ) → option_map (λ (serial : ℕ × List ℕ). (serial.1, drop (body_len serial.0) bodies)) serial ≡ Some left
    → (n : ℕ) × (serial ≡ Some (n, left.0))
found_in None bodies left e = absurd cc
found_in (Some serial) bodies left e = (serial.0, ap (λ (types : List ℕ). Some (serial.0, types)) (ap (λ (l : List ℕ × List ℕ). l.0) (some_is e)))

pub left_shorter : (types bodies : List ℕ) (left : List ℕ × List ℕ) → left_after types bodies ≡ Some left → length left.0 < length types
left_shorter types bodies left e = let found = found_in (varint_at types) bodies left e in varint_shortens types found.0 left.0 found.1

same_after : (value : Value) (f g : List ℕ → List ℕ → List Value) (found : Option (List ℕ × List ℕ)) → ((left : List ℕ × List ℕ) → found ≡ Some left → f left.0 left.1 ≡ g left.0 left.1)
    → and_those_after value f found ≡ and_those_after value g found
same_after value f g None same = refl
same_after value f g (Some left) same = ap (λ (values : List Value). value ∷ values) (same left refl)

pub values_enough : (m k : ℕ) (types bodies : List ℕ) → length types ≤ m → length types ≤ k → values_from m types bodies ≡ values_from k types bodies
values_enough m k [] bodies le le' = no_types m bodies ∙ sym (no_types k bodies)
values_enough zero k (b ∷ types) bodies le le' = absurd (omega (arith, le))
values_enough (suc m) zero (b ∷ types) bodies le le' = absurd (omega (arith, le'))
values_enough (suc m) (suc k) (b ∷ types) bodies le le' =
    same_after (value_here (b ∷ types) bodies) (values_from m) (values_from k) (left_after (b ∷ types) bodies)
    (λ left e. let shorter = left_shorter (b ∷ types) bodies left e in values_enough m k left.0 left.1 (omega (arith, shorter, le)) (omega (arith, shorter, le')))

-- what a type says of the value, and of what it leaves
pub typed_is : (types bodies : List ℕ) (serial : ℕ) (types_left : List ℕ) → Some (serial, types_left) ≡ varint_at types → value_typed serial bodies ≡ value_here types bodies
unfolding column_at
typed_is types bodies serial types_left e =
    rw (sym e) (same (nat_lt (length bodies) (body_len serial)) (body_at serial (take (body_len serial) bodies)))
  where
    same : (short : Bool) (read : Result Value Wrong) → cond short Null (body_or_null read) ≡ or_null (cond short (Err Broken) (read >>= λ value. Ok (value, types_left, drop (body_len serial) bodies)))
    same true read = refl
    same false (Ok value) = refl
    same false (Err wrong) = refl

pub typed_leaves : (types bodies : List ℕ) (serial : ℕ) (types_left : List ℕ) → Some (serial, types_left) ≡ varint_at types → Some (types_left, drop (body_len serial) bodies) ≡ left_after types bodies
typed_leaves types bodies serial types_left e = ap (option_map (λ (serial : ℕ × List ℕ). (serial.1, drop (body_len serial.0) bodies))) e

-- the values so far and those that are left, one turn later
pub values_on : (front all : List Value) (types bodies types_left bodies_left : List ℕ) (value : Value) → Some (types_left, bodies_left) ≡ left_after types bodies
    → value ≡ value_here types bodies → front ++ values_from (length types) types bodies ≡ all
    → (front ++ value ∷ []) ++ values_from (length types_left) types_left bodies_left ≡ all
values_on front all [] bodies types_left bodies_left value e is so_far = absurd (omega (arith, left_shorter [] bodies (types_left, bodies_left) (sym e)))
values_on front all (b ∷ types) bodies types_left bodies_left value e is so_far =
    let shorter = left_shorter (b ∷ types) bodies (types_left, bodies_left) (sym e) in
    append_assoc front (value ∷ []) (values_from (length types_left) types_left bodies_left)
    ∙ (ap (λ (values : List Value). front ++ value ∷ values) (values_enough (length types_left) (length types) types_left bodies_left (omega arith) (omega (arith, shorter)))
    ∙ (ap (λ (first : Value). front ++ first ∷ values_from (length types) types_left bodies_left) is
    ∙ (ap (λ (left : Option (List ℕ × List ℕ)). front ++ and_those_after (value_here (b ∷ types) bodies) (values_from (length types)) left) e ∙ so_far)))

-- at the end none is left
pub values_end : (front all : List Value) (types bodies : List ℕ) → None ≡ left_after types bodies → front ++ values_from (length types) types bodies ≡ all → front ≡ all
values_end front all [] bodies e so_far = sym (append-nil front) ∙ so_far
values_end front all (b ∷ types) bodies e so_far =
    sym (append-nil front) ∙ (ap (λ (left : Option (List ℕ × List ℕ)). front ++ and_those_after (value_here (b ∷ types) bodies) (values_from (length types)) left) e ∙ so_far)

-- An entry that is compared where it lies: its values, one after another.
use Rattle.std.proofs.Common.{◌≡◌, refl, sym, ap, subst, ◌∙◌, ℕ, zero, suc, ◌+◌, ◌<◌, ◌≤◌, inl, inr, Bool, true, false, cond, eqb, List, [], ◌∷◌, length, drop, slice_index_or, Result, Ok, Err, arith}
use Rattle.std.specs.Prelude.{min}
use Rattle.std.specs.declared.cmp.Ordering.TheVariants.{Equal}
use Rattle.std.proofs.lemmas.Bool.{cases_lt}
use Rattle.std.proofs.lemmas.List.{length-drop}
use Rattle.sqlval.specs.declared.collation.Collation.{Collation}
use Rattle.sqlval.specs.declared.value.Value.{Value}
use Rattle.sqlval.specs.declared.value.Value.TheVariants.{Null}
use Rattle.record.specs.declared.field.Wrong.{Wrong}
use Rattle.record.specs.declared.field.Wrong.TheVariants.{Broken}
use Rattle.record.specs.Reading.{◌>>=◌, column_at, columns_at, halves_at, record_at}
use Rattle.record.specs.Varint.{varint_at}
use Rattle.tree_index.proofs.Comparisons.{From, value_at, past_keys, past_values}

abbrev done : {A : Type 0} → A → Result A Wrong
done x = Ok x

done_is : {A : Type 0} {x y : A} → done x ≡ done y → x ≡ y
done_is e = cc

-- a step that went on, and what it gave
bind_ok : {A B : Type 0} (r : Result A Wrong) (f : A → Result B Wrong) (y : B) → (r >>= f) ≡ Ok y → (x : A) × (r ≡ Ok x) × (f x ≡ Ok y)
bind_ok (Ok x) f y e = (x, refl, e)
bind_ok (Err wrong) f y e = absurd cc

-- ---- the halves of an entry

abbrev columns_of : List ℕ × List ℕ → Result (List Value) Wrong
columns_of halves = columns_at (length halves.0) halves.0 halves.1

-- the halves of what is read are read
pub halves_read : (payload types bodies : List ℕ) (entry : List Value) → record_at payload ≡ Ok entry → halves_at payload ≡ Ok (types, bodies) → columns_at (length types) types bodies ≡ Ok entry
unfolding record_at
halves_read payload types bodies entry read halves = sym (ap (λ (them : Result (List ℕ × List ℕ) Wrong). them >>= columns_of) halves) ∙ read

-- and there are some
pub halves_there : (payload : List ℕ) (wrong : Wrong) (entry : List Value) → record_at payload ≡ Ok entry → halves_at payload ≡ Err wrong → ⊥
unfolding record_at
halves_there payload wrong entry read none = (let halves = bind_ok (halves_at payload) columns_of entry read in let there = halves.1 in absurd cc)

-- ---- its values

-- what is left of types and bodies is read as these values
abbrev pub AreLeft : List ℕ → List ℕ → List Value → Type 0
AreLeft types bodies values = (most : ℕ) × (columns_at most types bodies ≡ Ok values)

none_of : (none : Bool) (values : List Value) → cond none (done []) (Err Broken) ≡ Ok values → values ≡ []
none_of true values e = cc
none_of false values e = absurd cc

-- where no value is read, none is left
none_left : (most : ℕ) (types bodies : List ℕ) (wrong : Wrong) (values : List Value) → columns_at most types bodies ≡ Ok values → column_at types bodies ≡ Err wrong → values ≡ []
unfolding columns_at
none_left most [] bodies wrong values read none = none_of (eqb (length bodies) 0) values read
none_left zero (b ∷ types) bodies wrong values read none = absurd cc
none_left (suc most) (b ∷ types) bodies wrong values read none =
    (let first = bind_ok (column_at (b ∷ types) bodies) (λ column. columns_at most column.1 column.2 >>= λ after. Ok (column.0 ∷ after)) values read in let there = first.1 in absurd cc)

nothing_read : (bodies : List ℕ) (column : Value × List ℕ × List ℕ) → column_at [] bodies ≡ Ok column → ⊥
unfolding column_at varint_at
nothing_read bodies column e = cc

-- a value that is read is the first, and what it leaves is read as the others
one_left : (most : ℕ) (types bodies : List ℕ) (column : Value × List ℕ × List ℕ) (values : List Value) → columns_at most types bodies ≡ Ok values → column_at types bodies ≡ Ok column
    → (after : List Value) × (values ≡ column.0 ∷ after) × AreLeft column.1 column.2 after
unfolding columns_at
one_left most [] bodies column values read one = absurd (nothing_read bodies column one)
one_left zero (b ∷ types) bodies column values read one = absurd cc
one_left (suc most) (b ∷ types) bodies column values read one =
    let go : Value × List ℕ × List ℕ → Result (List Value) Wrong = λ it. columns_at most it.1 it.2 >>= λ after. Ok (it.0 ∷ after) in
    let all : go column ≡ Ok values = sym (ap (λ (it : Result (Value × List ℕ × List ℕ) Wrong). it >>= go) one) ∙ read in
    let others = bind_ok (columns_at most column.1 column.2) (λ after. Ok (column.0 ∷ after)) values all in
    (others.0, sym (done_is others.2), (most, others.1))

-- ---- from a place on

-- past the key, or past the columns and the rowid, all is equal
pub past_all : (columns : List Collation) (key entry : List Value) (place : ℕ) → min (length key) (length columns + 1) ≤ place → From columns key entry place ≡ Equal
past_all columns key entry place le = elim (cases_lt (length columns) place) [
  | inl lt ↦ past_keys columns key entry place lt
  | inr ge ↦ past_values columns key entry place (omega (arith, ge, le))
]

-- where no value is read, the entry has ended
pub past_entry : (columns : List Collation) (key entry : List Value) (place : ℕ) (types bodies : List ℕ) (wrong : Wrong) → AreLeft types bodies (drop place entry) → column_at types bodies ≡ Err wrong
    → From columns key entry place ≡ Equal
past_entry columns key entry place types bodies wrong left none =
    past_values columns key entry place (omega (arith, ap length (none_left left.0 types bodies wrong (drop place entry) left.1 none), length-drop place entry))

-- the value at a place of an entry was read, with what comes after it
pub record IsNext (entry : List Value) (place : ℕ) (value : Value) (types_after bodies_after : List ℕ) : Type 0 where
  pub within : place < length entry
  pub here : value ≡ slice_index_or entry place Null
  pub after : AreLeft types_after bodies_after (drop (place + 1) entry)

parts_are : (a b : Value) (xs ys : List Value) → a ∷ xs ≡ b ∷ ys → (a ≡ b) × (xs ≡ ys)
parts_are a b xs ys e = (cc, cc)

pub is_next : (entry : List Value) (place : ℕ) (types bodies : List ℕ) (value : Value) (types_after bodies_after : List ℕ) → AreLeft types bodies (drop place entry)
    → column_at types bodies ≡ Ok (value, types_after, bodies_after) → IsNext entry place value types_after bodies_after
is_next entry place types bodies value types_after bodies_after left one =
    let first = one_left left.0 types bodies (value, types_after, bodies_after) (drop place entry) left.1 one in
    let within : place < length entry = omega (arith, ap length first.1, length-drop place entry) in
    let both = parts_are value (slice_index_or entry place Null) first.0 (drop (suc place) entry) (sym first.1 ∙ value_at entry place Null within) in
    let more : suc place ≡ place + 1 = omega arith in
    record {
      within = within;
      here = both.0;
      after = subst (AreLeft types_after bodies_after) (both.1 ∙ ap (λ (n : ℕ). drop n entry) more) first.2;
    }

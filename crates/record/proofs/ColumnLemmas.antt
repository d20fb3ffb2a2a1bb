-- Reading columns one after the other.
use Rattle.std.proofs.Common.{◌≡◌, inl, inr, ℕ, zero, suc, ◌+◌, ◌*◌, ◌-◌, ◌<◌, ◌≤◌, Bool, true, false, cond, nat_lt, List, [], ◌∷◌, ◌++◌, length, take, drop, Option, Some, None, Result, Ok, Err, refl, sym, ap, ◌∙◌, append_assoc, arith}
use Rattle.std.proofs.lemmas.Bool.{ltb-false}
use Rattle.sqlval.specs.declared.value.Value.{Value}
use Rattle.record.specs.declared.field.Wrong.{Wrong}
use Rattle.record.specs.declared.field.Wrong.TheVariants.{Broken}
use Rattle.record.specs.Varint.{varint_from, varint_at}
use Rattle.record.specs.Reading.{◌>>=◌, or_broken, body_len, body_at, column_at, columns_at}
use Rattle.record.proofs.VarintLemmas.{chosen, some_is}

-- ---- the value of a step that did not fail

pub bind_ok : {A B : Type 0} (r : Result A Wrong) (f : A → Result B Wrong) (y : B) → (r >>= f) ≡ Ok y → (x : A) × (r ≡ Ok x) × (f x ≡ Ok y)
bind_ok (Ok x) f y e = (x, refl, e)
bind_ok (Err d) f y e = absurd cc

abbrev done : {A : Type 0} → A → Result A Wrong
done x = Ok x

pub ok_is : {A : Type 0} {x y : A} → done x ≡ done y → x ≡ y
ok_is e = cc

pub some_from_or_broken : {A : Type 0} (o : Option A) (x : A) → or_broken o ≡ Ok x → o ≡ Some x
some_from_or_broken None x e = absurd cc
some_from_or_broken (Some y) x e = ap (λ z. Some z) (ok_is e)

pub guard_ok : {A : Type 0} (b : Bool) (d : Wrong) (r : Result A Wrong) (y : A) → cond b (Err d) r ≡ Ok y → (b ≡ false) × (r ≡ Ok y)
guard_ok true d r y e = absurd cc
guard_ok false d r y e = (refl, e)

-- two ways to go on that agree wherever a step leads
pub bind_same : {A B : Type 0} (r : Result A Wrong) (f g : A → Result B Wrong) → ((x : A) → r ≡ Ok x → f x ≡ g x) → (r >>= f) ≡ (r >>= g)
bind_same (Ok x) f g h = h x refl
bind_same (Err e) f g h = refl

-- ---- each column takes a byte of the types

varint_shorter : (most high : ℕ) (bytes : List ℕ) (n : ℕ) (rest : List ℕ) → varint_from most high bytes ≡ Some (n, rest) → length rest < length bytes
varint_shorter most high [] n rest e = absurd cc
varint_shorter zero high (b ∷ bytes) n rest e =
    let p : (high * 256 + b, bytes) ≡ (n, rest) = some_is e in
    omega (arith, ap (λ (x : ℕ × List ℕ). length x.1) p)
varint_shorter (suc most) high (b ∷ bytes) n rest e =
    elim (chosen (nat_lt b 128) _ _ _ e) [
      | inl small ↦ let p : (high * 128 + b, bytes) ≡ (n, rest) = some_is small.1 in omega (arith, ap (λ (x : ℕ × List ℕ). length x.1) p)
      | inr large ↦ omega (arith, varint_shorter most (high * 128 + (b - 128)) bytes n rest large.1)
    ]

pub varint_shortens : (bytes : List ℕ) (n : ℕ) (rest : List ℕ) → varint_at bytes ≡ Some (n, rest) → length rest < length bytes
unfolding varint_at
varint_shortens bytes n rest e = varint_shorter 8 0 bytes n rest e

pub record Takes (types bodies : List ℕ) (value : Value) (types_left bodies_left : List ℕ) : Type 0 where
  pub serial : ℕ
  pub type_is : varint_at types ≡ Some (serial, types_left)
  pub long : body_len serial ≤ length bodies
  pub body_is : body_at serial (take (body_len serial) bodies) ≡ Ok value
  pub left_is : bodies_left ≡ drop (body_len serial) bodies

pub column_takes : (types bodies : List ℕ) (value : Value) (types_left bodies_left : List ℕ) → column_at types bodies ≡ Ok (value, types_left, bodies_left) → Takes types bodies value types_left bodies_left
unfolding column_at
column_takes types bodies value types_left bodies_left e =
    let s = bind_ok (or_broken (varint_at types)) (λ serial. cond (nat_lt (length bodies) (body_len serial.0)) (Err Broken) (body_at serial.0 (take (body_len serial.0) bodies) >>= λ v. Ok (v, serial.1, drop (body_len serial.0) bodies))) (value, types_left, bodies_left) e in
    let serial = s.0.0 in
    let g = guard_ok (nat_lt (length bodies) (body_len serial)) Broken (body_at serial (take (body_len serial) bodies) >>= λ v. Ok (v, s.0.1, drop (body_len serial) bodies)) (value, types_left, bodies_left) s.2 in
    let v = bind_ok (body_at serial (take (body_len serial) bodies)) (λ v. Ok (v, s.0.1, drop (body_len serial) bodies)) (value, types_left, bodies_left) g.1 in
    let same = ok_is v.2 in
    record {
      serial = serial;
      type_is = some_from_or_broken (varint_at types) s.0 s.1 ∙ ap (λ (x : Value × List ℕ × List ℕ). Some (serial, x.1)) same;
      long = ltb-false _ _ g.0;
      body_is = v.1 ∙ ap (λ (x : Value × List ℕ × List ℕ). Ok x.0) same;
      left_is = sym (ap (λ (x : Value × List ℕ × List ℕ). x.2) same);
    }

pub column_shorter : (types bodies : List ℕ) (value : Value) (types_left bodies_left : List ℕ) → column_at types bodies ≡ Ok (value, types_left, bodies_left) → length types_left < length types
column_shorter types bodies value types_left bodies_left e =
    let t = column_takes types bodies value types_left bodies_left e in varint_shortens types t.serial types_left t.type_is

-- ---- the number of turns does not matter

pub columns_enough : (m k : ℕ) (types bodies : List ℕ) → length types ≤ m → length types ≤ k → columns_at m types bodies ≡ columns_at k types bodies
unfolding columns_at
columns_enough m k [] bodies le le' = refl
columns_enough zero k (b ∷ types) bodies le le' = absurd (omega arith)
columns_enough (suc m) zero (b ∷ types) bodies le le' = absurd (omega arith)
columns_enough (suc m) (suc k) (b ∷ types) bodies le le' =
    bind_same (column_at (b ∷ types) bodies) (λ column. columns_at m column.1 column.2 >>= λ values. Ok (column.0 ∷ values)) (λ column. columns_at k column.1 column.2 >>= λ values. Ok (column.0 ∷ values))
    (λ x h. let shorter = column_shorter (b ∷ types) bodies x.0 x.1 x.2 h in rw (columns_enough m k x.1 x.2 (omega arith) (omega arith)) refl)

-- ---- what was read before, and what is still read

abbrev pub with_front : List Value → Result (List Value) Wrong → Result (List Value) Wrong
with_front front read = read >>= λ values. Ok (front ++ values)

regroup : (front : List Value) (value : Value) (read : Result (List Value) Wrong) → with_front front (read >>= λ values. Ok (value ∷ values)) ≡ with_front (front ++ value ∷ []) read
regroup front value (Ok x) = ap (λ (vs : List Value). Ok vs) (simp append_assoc)
regroup front value (Err f) = refl

pub columns_go_on : (front : List Value) (value : Value) (types bodies types_left bodies_left : List ℕ) (total : Result (List Value) Wrong)
    → column_at types bodies ≡ Ok (value, types_left, bodies_left) → with_front front (columns_at (length types) types bodies) ≡ total
    → with_front (front ++ value ∷ []) (columns_at (length types_left) types_left bodies_left) ≡ total
unfolding columns_at
columns_go_on front value [] bodies types_left bodies_left total h so_far = absurd (let shorter = column_shorter [] bodies value types_left bodies_left h in omega arith)
columns_go_on front value (b ∷ types) bodies types_left bodies_left total h so_far =
    let shorter = column_shorter (b ∷ types) bodies value types_left bodies_left h in
    let same = columns_enough (length types) (length types_left) types_left bodies_left (omega arith) (omega arith) in
    let one : with_front front (columns_at (suc (length types)) (b ∷ types) bodies) ≡ with_front (front ++ value ∷ []) (columns_at (length types_left) types_left bodies_left) =
    rw (h, same) (regroup front value (columns_at (length types_left) types_left bodies_left)) in
    sym one ∙ so_far

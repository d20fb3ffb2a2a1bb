-- A value among literals that stay as they are.
use Rattle.std.proofs.Common.{◌≡◌, refl, sym, ap, ◌∙◌, Bool, true, false, ◌&&◌, ◌||◌, List, [], ◌∷◌, length, map, Option, Some, None, Ok, Err}
use mathlib.Core.Bool.{true≢false}
use Rattle.std.specs.Prelude.{pos, neg_ℤ}
use Rattle.std.specs.List.{list_any}
use Rattle.std.specs.Ordering.{is_eq, ordering_reverse}
use Rattle.std.specs.declared.cmp.Ordering.{Ordering}
use Rattle.std.specs.declared.cmp.Ordering.TheVariants.{Less, Equal, Greater}
use Rattle.sqlval.specs.Conversion.{converted, word}
use Rattle.sqlval.specs.Order.{order}
use Rattle.sqlval.specs.Refusals.{Answer, ◌then◌}
use Rattle.sqlval.specs.declared.affinity.Affinity.{Affinity}
use Rattle.sqlval.specs.declared.affinity.Affinity.TheVariants as kind
use Rattle.sqlval.specs.declared.collation.Collation.{Collation}
use Rattle.sqlval.specs.declared.value.Value.{Value}
use Rattle.sqlval.specs.declared.value.Value.TheVariants.{Null, Int, Text, Blob}
use Rattle.sqlval.specs.Fields.{value_of}
use Rattle.sqlval.specs.declared.value.Field.{Field}
use Rattle.sqlval.specs.declared.value.Field.TheVariants as field
use Rattle.sqlval.proofs.Ordering as values
use Rattle.query_terms.specs.Terms.{Term, Const, Digits, Cell, Key, Apply, Total, One, Two, Collate, In, Between, Raise, affinity, collation, terms}
use Rattle.query_terms.specs.Values.{Environment, compare, compared, conversion, is_null, of_bool, or_else, value, value_among}
use Rattle.query_terms.specs.declared.tree.Comparison.TheVariants as comparison
use Rattle.query_terms.specs.declared.tree.OneSided.TheVariants.{Negated, Not}
use Rattle.query_filter.specs.Literals.{are_plain, value_or_null, stays_beside, literal_value}

-- ---- tests

first_of : (a b : Bool) → (a && b) ≡ true → a ≡ true
first_of true b e = refl
first_of false b e = absurd (true≢false (sym e))

second_of : (a b : Bool) → (a && b) ≡ true → b ≡ true
second_of true b e = e
second_of false b e = absurd (true≢false (sym e))

-- ---- literals

never : (a : Option Affinity) → stays_beside a Null ≡ true → ⊥
never None e = true≢false (sym e)
never (Some kind.Blob) e = true≢false (sym e)
never (Some kind.Text) e = true≢false (sym e)
never (Some kind.Numeric) e = true≢false (sym e)
never (Some kind.Integer) e = true≢false (sym e)

answered : (a : Option Affinity) (r : Answer Value) → stays_beside a (value_or_null r) ≡ true → r ≡ Ok (value_or_null r)
answered a (Ok v) e = refl
answered a (Err r) e = absurd (never a e)

-- what is written is the value
pub plain_value : (a : Option Affinity) (e : Term) (env : Environment) → stays_beside a (literal_value e) ≡ true → value e env ≡ Ok (literal_value e)
plain_value a (Const v) env e = refl
plain_value a (Digits n) env e = answered a (word (pos n)) e
plain_value a (One Negated (Digits n)) env e = answered a (word (neg_ℤ (pos n))) e
plain_value a (One Negated (Const v)) env e = absurd (never a e)
plain_value a (One Negated (Cell s p k c)) env e = absurd (never a e)
plain_value a (One Negated (Key k t)) env e = absurd (never a e)
plain_value a (One Negated (Apply f ts)) env e = absurd (never a e)
plain_value a (One Negated (Total g t)) env e = absurd (never a e)
plain_value a (One Negated (One o t)) env e = absurd (never a e)
plain_value a (One Negated (Two o t u)) env e = absurd (never a e)
plain_value a (One Negated (Collate c t)) env e = absurd (never a e)
plain_value a (One Negated (In n t ts)) env e = absurd (never a e)
plain_value a (One Negated (Between n t u v)) env e = absurd (never a e)
plain_value a (One Negated (Raise k t)) env e = absurd (never a e)
plain_value a (One Not t) env e = absurd (never a e)
plain_value a (Cell s p k c) env e = absurd (never a e)
plain_value a (Key k t) env e = absurd (never a e)
plain_value a (Apply f ts) env e = absurd (never a e)
plain_value a (Total g t) env e = absurd (never a e)
plain_value a (Two o t u) env e = absurd (never a e)
plain_value a (Collate c t) env e = absurd (never a e)
plain_value a (In n t ts) env e = absurd (never a e)
plain_value a (Between n t u v) env e = absurd (never a e)
plain_value a (Raise k t) env e = absurd (never a e)

-- ---- comparison

own_stays : (a : Option Affinity) (v : Value) → converted (conversion a None) v ≡ Ok v
own_stays None v = refl
own_stays (Some kind.Blob) v = refl
own_stays (Some kind.Text) v = refl
own_stays (Some kind.Numeric) v = refl
own_stays (Some kind.Integer) v = refl

other_stays : (a : Option Affinity) (w : Value) → stays_beside a w ≡ true → converted (conversion None a) w ≡ Ok w
other_stays None w e = refl
other_stays (Some kind.Blob) w e = refl
other_stays (Some kind.Text) Null e = refl
other_stays (Some kind.Text) (Int n) e = absurd (true≢false (sym e))
other_stays (Some kind.Text) (Text t) e = refl
other_stays (Some kind.Text) (Blob b) e = refl
other_stays (Some kind.Numeric) Null e = refl
other_stays (Some kind.Numeric) (Int n) e = refl
other_stays (Some kind.Numeric) (Text t) e = absurd (true≢false (sym e))
other_stays (Some kind.Numeric) (Blob b) e = refl
other_stays (Some kind.Integer) Null e = refl
other_stays (Some kind.Integer) (Int n) e = refl
other_stays (Some kind.Integer) (Text t) e = absurd (true≢false (sym e))
other_stays (Some kind.Integer) (Blob b) e = refl

as_they_are : (c : Collation) (a : Option Affinity) (v w : Value) → stays_beside a w ≡ true → compare comparison.Equal c a None v w ≡ Ok (compared comparison.Equal c v w)
as_they_are c a v w e =
    ap (λ (x : Answer Value). (x then λ v'. converted (conversion None a) w then λ w'. pair v' w') then done) (own_stays a v)
    ∙ ap (λ (x : Answer Value). (x then λ w'. pair v w') then done) (other_stays a w e)
  where
    pair : Value → Value → Answer (Value × Value)
    pair v' w' = Ok (v', w')

    done : Value × Value → Answer Value
    done p = Ok (compared comparison.Equal c p.0 p.1)

met : (c : Collation) (a : Option Affinity) (v w : Value) → is_null v ≡ false → stays_beside a w ≡ true → compared comparison.Equal c v w ≡ of_bool (is_eq (order c v w))
met c a Null w some e = absurd (true≢false some)
met c a (Int m) Null some e = absurd (never a e)
met c a (Int m) (Int n) some e = refl
met c a (Int m) (Text t) some e = refl
met c a (Int m) (Blob b) some e = refl
met c a (Text s) Null some e = absurd (never a e)
met c a (Text s) (Int n) some e = refl
met c a (Text s) (Text t) some e = refl
met c a (Text s) (Blob b) some e = refl
met c a (Blob x) Null some e = absurd (never a e)
met c a (Blob x) (Int n) some e = refl
met c a (Blob x) (Text t) some e = refl
met c a (Blob x) (Blob y) some e = refl

eq_back : (r : Ordering) → is_eq (ordering_reverse r) ≡ is_eq r
eq_back Less = refl
eq_back Equal = refl
eq_back Greater = refl

other_way : (c : Collation) (v w : Value) → is_eq (order c v w) ≡ is_eq (order c w v)
other_way c v w = ap is_eq ((values.total c).antisymm v w) ∙ eq_back (order c w v)

-- ---- lists

-- where the first is compared, and then the rest
or_rest : (b r : Bool) → or_else (of_bool b) (Ok (of_bool r)) ≡ Ok (of_bool (b || r))
or_rest true r = refl
or_rest false true = refl
or_rest false false = refl

module _ (a : Term) (v : Value) (some : is_null v ≡ false) (env : Environment) where
  abbrev tied : Value → Bool
  tied w = is_eq (order (collation a) w v)

  -- a value other than NULL
  pub among : (list : List Term) → are_plain (affinity a) list ≡ true → value_among a v (terms list) env ≡ Ok (of_bool (list_any tied (map literal_value list)))
  among [] h = refl
  among (e ∷ es) h =
      let here = first_of (stays_beside (affinity a) (literal_value e)) (are_plain (affinity a) es) h in
      ap (λ (x : Answer Value). x then λ w. compare comparison.Equal (collation a) (affinity a) None v w then λ t. or_else t (value_among a v (terms es) env)) (plain_value (affinity a) e env here)
      ∙ (ap (λ (x : Answer Value). x then λ t. or_else t (value_among a v (terms es) env)) (as_they_are (collation a) (affinity a) v (literal_value e) here)
      ∙ (ap (λ (t : Value). or_else t (value_among a v (terms es) env)) (met (collation a) (affinity a) v (literal_value e) some here ∙ ap of_bool (other_way (collation a) v (literal_value e)))
      ∙ (ap (or_else (of_bool (tied (literal_value e)))) (among es (second_of (stays_beside (affinity a) (literal_value e)) (are_plain (affinity a) es) h))
      ∙ or_rest (tied (literal_value e)) (list_any tied (map literal_value es)))))

-- NULL, and then the rest
null_more : (a : Term) (env : Environment) (e : Term) (es : List Term) → are_plain (affinity a) (e ∷ es) ≡ true → value_among a Null (terms (e ∷ es)) env ≡ or_else Null (value_among a Null (terms es) env)
null_more a env e es h =
    let here = first_of (stays_beside (affinity a) (literal_value e)) (are_plain (affinity a) es) h in
    ap (λ (x : Answer Value). x then λ w. compare comparison.Equal (collation a) (affinity a) None Null w then λ t. or_else t (value_among a Null (terms es) env)) (plain_value (affinity a) e env here)
    ∙ ap (λ (x : Answer Value). x then λ t. or_else t (value_among a Null (terms es) env)) (as_they_are (collation a) (affinity a) Null (literal_value e) here)

-- NULL beside a list that isn't empty
null_among : (a : Term) (env : Environment) (e : Term) (es : List Term) → are_plain (affinity a) (e ∷ es) ≡ true → value_among a Null (terms (e ∷ es)) env ≡ Ok Null
null_among a env e [] h = null_more a env e [] h
null_among a env e (d ∷ ds) h =
    null_more a env e (d ∷ ds) h ∙ ap (or_else Null) (null_among a env d ds (second_of (stays_beside (affinity a) (literal_value e)) (are_plain (affinity a) (d ∷ ds)) h))

pub null_beside : (a : Term) (env : Environment) (list : List Term) → (length list ≡ 0 → ⊥) → are_plain (affinity a) list ≡ true → value_among a Null (terms list) env ≡ Ok Null
null_beside a env [] some h = absurd (some refl)
null_beside a env (e ∷ es) some h = null_among a env e es h

-- ---- in the code's words

pub some_field : (f : Field) → (f ≡ field.Null → ⊥) → is_null (value_of f) ≡ false
some_field field.Null h = absurd (h refl)
some_field (field.Int n) h = refl
some_field (field.Text t) h = refl
some_field (field.Blob b) h = refl

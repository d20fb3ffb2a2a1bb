-- A calm condition isn't refused.
use Rattle.std.proofs.Common.{◌≡◌, refl, sym, ap, ◌∙◌, Bool, true, false, subst, ◌&&◌, Option, Some, None, Ok, Err, pos, cond, not}
use Rattle.std.specs.Prelude.{is_ok}
use Rattle.std.specs.Ordering.{is_eq}
use mathlib.Core.Bool.{true≢false}
use Rattle.sqlval.specs.Conversion.{converted}
use Rattle.sqlval.specs.Order.{order}
use Rattle.sqlval.specs.Refusals.{Answer, ◌then◌, RealRefused}
use Rattle.sqlval.specs.declared.affinity.Affinity.{Affinity}
use Rattle.sqlval.specs.declared.affinity.Affinity.TheVariants as kind
use Rattle.sqlval.specs.declared.collation.Collation.{Collation}
use Rattle.sqlval.specs.declared.value.Value.{Value}
use Rattle.sqlval.specs.declared.value.Value.TheVariants.{Null, Int, Text, Blob}
use Rattle.query_names.specs.Calm.{is_side, converts_literal, converts, is_calm_pair, are_calm_sides, is_calm_among, is_calm}
use Rattle.query_terms.specs.Terms.{Term, Terms, Const, Digits, Cell, One, Two, In, Between, End, More, affinity, collation, collation_of_two}
use Rattle.query_terms.specs.declared.tree.Comparison.{Comparison}
use Rattle.query_terms.specs.declared.tree.Comparison.TheVariants.{Equal, GreaterOrEqual, LessOrEqual}
use Rattle.query_terms.specs.declared.tree.OneSided.TheVariants.{Not}
use Rattle.query_terms.specs.declared.tree.TwoSided.TheVariants.{Compare, Is, IsNot, And, Or}
use Rattle.query_terms.specs.Values.{conversion, Environment, value, truth, of_bool, of_truth, compared, compare, same_as, is_met, both_converted, negated, turned, between, and_also, or_else, and_after, or_after, both_hold, one_holds, value_among}

left : (x y : Bool) → (x && y) ≡ true → x ≡ true
left true y h = refl
left false y h = h

right : (x y : Bool) → (x && y) ≡ true → y ≡ true
right true y h = h
right false y h = absurd (true≢false (sym h))

-- a value that is true, false or NULL
abbrev Good : Answer Value → Type 0
Good a = (v : Value) × (a ≡ Ok v) × (b : Option Bool) × (truth v ≡ Ok b)

good_bool : (b : Bool) → Good (Ok (of_bool b))
good_bool true = (of_bool true, refl, Some true, refl)
good_bool false = (of_bool false, refl, Some false, refl)

good_truth : (t : Option Bool) → Good (Ok (of_truth t))
good_truth None = (Null, refl, None, refl)
good_truth (Some b) = good_bool b

good_compared : (o : Comparison) (c : Collation) (v w : Value) → Good (Ok (compared o c v w))
good_compared o c Null w = (Null, refl, None, refl)
good_compared o c (Int x) Null = (Null, refl, None, refl)
good_compared o c (Text x) Null = (Null, refl, None, refl)
good_compared o c (Blob x) Null = (Null, refl, None, refl)
good_compared o c (Int x) (Int y) = good_bool (is_met o (order c (Int x) (Int y)))
good_compared o c (Int x) (Text y) = good_bool (is_met o (order c (Int x) (Text y)))
good_compared o c (Int x) (Blob y) = good_bool (is_met o (order c (Int x) (Blob y)))
good_compared o c (Text x) (Int y) = good_bool (is_met o (order c (Text x) (Int y)))
good_compared o c (Text x) (Text y) = good_bool (is_met o (order c (Text x) (Text y)))
good_compared o c (Text x) (Blob y) = good_bool (is_met o (order c (Text x) (Blob y)))
good_compared o c (Blob x) (Int y) = good_bool (is_met o (order c (Blob x) (Int y)))
good_compared o c (Blob x) (Text y) = good_bool (is_met o (order c (Blob x) (Text y)))
good_compared o c (Blob x) (Blob y) = good_bool (is_met o (order c (Blob x) (Blob y)))

-- ---- sides

side : (t : Term) → is_side t ≡ true → (env : Environment) → (v : Value) × (value t env ≡ Ok v)
side (Cell s p a c) h env = (_, refl)
side (Const v) h env = (v, refl)
side (Digits n) h env = (Int (pos n), ap (λ b. cond b (Ok (Int (pos n))) (Err RealRefused)) h)
side _ h env = absurd (true≢false (sym h))

the_ok : (a : Answer Value) → is_ok a ≡ true → (w : Value) × (a ≡ Ok w)
the_ok (Ok w) h = (w, refl)
the_ok (Err e) h = absurd (true≢false (sym h))

-- the value of a side, and as it is compared
abbrev Converts : Affinity → Term → Environment → Type 0
Converts k t env = (v : Value) × (w : Value) × (value t env ≡ Ok v) × (converted k v ≡ Ok w)

literal : (k : Affinity) (t : Term) → is_side t ≡ true → converts_literal k t ≡ true → (env : Environment) → Converts k t env
unfolding side
literal k (Const v) h g env = let w = the_ok (converted k v) g in (v, w.0, refl, w.1)
literal k (Digits n) h g env = let w = the_ok (converted k (Int (pos n))) g in (Int (pos n), w.0, (side (Digits n) h env).1, w.1)
literal k _ h g env = absurd (true≢false (sym g))

converted_side : (k : Affinity) (t : Term) → (is_side t && converts k t) ≡ true → (env : Environment) → Converts k t env
converted_side kind.Blob t h env = let s = side t (left (is_side t) true h) env in (s.0, s.0, s.1, refl)
converted_side kind.Integer t h env = literal kind.Integer t (left (is_side t) _ h) (right (is_side t) _ h) env
converted_side kind.Numeric t h env = literal kind.Numeric t (left (is_side t) _ h) (right (is_side t) _ h) env
converted_side kind.Text t h env = literal kind.Text t (left (is_side t) _ h) (right (is_side t) _ h) env

-- ---- comparisons

get : Answer Value → Value
get (Ok v) = v
get (Err e) = Null

same_value_of : (x y : Value) (a : Answer Value) → a ≡ Ok x → a ≡ Ok y → x ≡ y
unfolding get
same_value_of x y a p q = ap get (sym p ∙ q)

-- both sides' values, and as they are compared
abbrev Sides : Option Affinity → Option Affinity → Term → Term → Environment → Type 0
Sides a b s t env = (v : Value) × (w : Value) × (p : Value × Value) × (value s env ≡ Ok v) × (value t env ≡ Ok w) × (both_converted a b v w ≡ Ok p)

sides : (a b : Option Affinity) (s t : Term) (env : Environment) → is_calm_pair a b s t ≡ true → Sides a b s t env
sides a b s t env h =
    let x : Converts (conversion a b) s env = converted_side (conversion a b) s (left (is_side s && converts (conversion a b) s) _ h) env in
    let y : Converts (conversion b a) t env = converted_side (conversion b a) t (right (is_side s && converts (conversion a b) s) _ h) env in
    let pair : Value → Answer (Value × Value) = λ v. converted (conversion b a) y.0 then λ w. Ok (v, w) in
    let second : Value → Answer (Value × Value) = λ w. Ok (x.1, w) in
    (x.0, y.0, (x.1, y.1), x.2, y.2, ap (λ r. r then pair) x.3 ∙ ap (λ r. r then second) y.3)

good_sides : (f : Value → Value → Answer Value) (a b : Option Affinity) (s t : Term) (env : Environment) (g : Value × Value → Answer Value) → ((v w : Value) → f v w ≡ (both_converted a b v w then g)) → ((p : Value × Value) → Good (g p))
    → (x : Sides a b s t env) → Good (f x.0 x.1)
good_sides f a b s t env g e k x = subst Good (sym (e x.0 x.1 ∙ ap (λ r. r then g) x.5)) (k x.2)

-- a comparison whose sides have these values
good_compare : (o : Comparison) (c : Collation) (a b : Option Affinity) (s t : Term) (env : Environment) → (x : Sides a b s t env) → Good (compare o c a b x.0 x.1)
good_compare o c a b s t env x = good_sides (compare o c a b) a b s t env (λ p. Ok (compared o c p.0 p.1)) (λ v w. refl) (λ p. good_compared o c p.0 p.1) x

-- ---- truth

good_rest : (f : Option Bool → Option Bool) (b : Answer Value) → Good b → Good (b then λ w. truth w then λ u. Ok (of_truth (f u)))
good_rest f b g = subst Good (sym (ap (λ x. x then λ w. truth w then λ u. Ok (of_truth (f u))) g.1 ∙ ap (λ x. x then λ u. Ok (of_truth (f u))) g.3)) (good_truth (f g.2))

good_and_after : (t : Option Bool) (b : Answer Value) → Good b → Good (and_after t b)
good_and_after (Some false) b g = good_bool false
good_and_after (Some true) b g = good_rest (both_hold (Some true)) b g
good_and_after None b g = good_rest (both_hold None) b g

good_or_after : (t : Option Bool) (b : Answer Value) → Good b → Good (or_after t b)
good_or_after (Some true) b g = good_bool true
good_or_after (Some false) b g = good_rest (one_holds (Some false)) b g
good_or_after None b g = good_rest (one_holds None) b g

-- a first answer that is good, and what is made of it
good_then : (a : Answer Value) (f : Value → Answer Value) → (g : Good a) → Good (f g.0) → Good (a then f)
good_then a f g h = subst Good (sym (ap (λ x. x then f) g.1)) h

good_and : (a b : Answer Value) → Good a → Good b → Good (a then λ v. and_also v b)
good_and a b g h = good_then a (λ v. and_also v b) g (subst Good (sym (ap (λ x. x then λ t. and_after t b) g.3)) (good_and_after g.2 b h))

good_or : (a b : Answer Value) → Good a → Good b → Good (a then λ v. or_else v b)
good_or a b g h = good_then a (λ v. or_else v b) g (subst Good (sym (ap (λ x. x then λ t. or_after t b) g.3)) (good_or_after g.2 b h))

negation : Option Bool → Answer Value
negation t = elim t [ None ↦ Ok Null | Some b ↦ Ok (of_bool (not b)) ]

good_negation : (t : Option Bool) → Good (negation t)
unfolding negation
good_negation None = (Null, refl, None, refl)
good_negation (Some b) = good_bool (not b)

good_negated : (a : Answer Value) → Good a → Good (a then negated)
unfolding negation
good_negated a g = good_then a negated g (subst Good (sym (ap (λ x. x then negation) g.3)) (good_negation g.2))

good_turned : (n : Bool) (a : Answer Value) → Good a → Good (a then turned n)
good_turned true a g = good_negated a g
good_turned false a g = good_then a (turned false) g (g.0, refl, g.2, g.3)

-- ---- conditions

-- the two sides of a comparison are met, left first
good_met : (s t : Term) (env : Environment) (f : Value → Value → Answer Value) → (a b : Option Affinity) → (x : Sides a b s t env) → Good (f x.0 x.1) → Good (value s env then λ v. value t env then f v)
good_met s t env f a b x g = subst Good (sym (ap (λ y. y then λ v. value t env then f v) x.3 ∙ ap (λ y. y then f x.0) x.4)) g

good_same : (turn : Bool → Bool) (s t : Term) (env : Environment) → are_calm_sides s t ≡ true → Good (value s env then λ v. value t env then λ w. same_as s t v w then λ b. Ok (of_bool (turn b)))
good_same turn s t env h =
    let x : Sides (affinity s) (affinity t) s t env = sides (affinity s) (affinity t) s t env h in
    let f : Value → Value → Answer Value = λ v w. same_as s t v w then λ b. Ok (of_bool (turn b)) in
    let e : same_as s t x.0 x.1 ≡ Ok (is_eq (order (collation_of_two s t) x.2.0 x.2.1)) = ap (λ r. r then λ p. Ok (is_eq (order (collation_of_two s t) p.0 p.1))) x.5 in
    good_met s t env f (affinity s) (affinity t) x (subst Good (sym (ap (λ r. r then λ b. Ok (of_bool (turn b))) e)) (good_bool (turn (is_eq (order (collation_of_two s t) x.2.0 x.2.1)))))

good_among : (a : Term) (bs : Terms) (env : Environment) (v : Value) → value a env ≡ Ok v → is_calm_among a bs ≡ true → Good (value_among a v bs env)
good_among a End env v e h = good_bool false
good_among a (More b bs) env v e h =
    let x : Sides (affinity a) None a b env = sides (affinity a) None a b env (left (is_calm_pair (affinity a) None a b) _ h) in
    let rest : Good (value_among a v bs env) = good_among a bs env v e (right (is_calm_pair (affinity a) None a b) _ h) in
    let first : Good (compare Equal (collation a) (affinity a) None v x.1) = subst (λ y. Good (compare Equal (collation a) (affinity a) None y x.1)) (same_value_of x.0 v (value a env) x.3 e) (good_compare Equal (collation a) (affinity a) None a b env x) in
    subst Good (sym (ap (λ y. y then λ w. compare Equal (collation a) (affinity a) None v w then λ t. or_else t (value_among a v bs env)) x.4))
    (good_or (compare Equal (collation a) (affinity a) None v x.1) (value_among a v bs env) first rest)

pub calm_is_good : (t : Term) → is_calm t ≡ true → (env : Environment) → Good (value t env)
calm_is_good (Two (Compare o) a b) h env =
    let x : Sides (affinity a) (affinity b) a b env = sides (affinity a) (affinity b) a b env h in
    good_met a b env (compare o (collation_of_two a b) (affinity a) (affinity b)) (affinity a) (affinity b) x (good_compare o (collation_of_two a b) (affinity a) (affinity b) a b env x)
calm_is_good (Two Is a b) h env = good_same (λ b. b) a b env h
calm_is_good (Two IsNot a b) h env = good_same not a b env h
calm_is_good (Two And a b) h env = good_and (value a env) (value b env) (calm_is_good a (left (is_calm a) _ h) env) (calm_is_good b (right (is_calm a) _ h) env)
calm_is_good (Two Or a b) h env = good_or (value a env) (value b env) (calm_is_good a (left (is_calm a) _ h) env) (calm_is_good b (right (is_calm a) _ h) env)
calm_is_good (One Not e) h env = good_negated (value e env) (calm_is_good e h env)
calm_is_good (In n a bs) h env =
    let s : (v : Value) × (value a env ≡ Ok v) = side a (among_side a bs h) env in
    subst Good (sym (ap (λ y. y then λ v. value_among a v bs env then turned n) s.1)) (good_turned n (value_among a s.0 bs env) (good_among a bs env s.0 s.1 h))
  where
    among_side : (a : Term) (bs : Terms) → is_calm_among a bs ≡ true → is_side a ≡ true
    among_side a End h = h
    among_side a (More b bs) h = among_side a bs (right (is_calm_pair (affinity a) None a b) _ h)
calm_is_good (Between n a b c) h env =
    let x : Sides (affinity a) (affinity b) a b env = sides (affinity a) (affinity b) a b env (left (are_calm_sides a b) _ h) in
    let y : Sides (affinity a) (affinity c) a c env = sides (affinity a) (affinity c) a c env (right (are_calm_sides a b) _ h) in
    let v : Value = x.0 in
    let le : Value → Value → Answer Value = compare LessOrEqual (collation_of_two a c) (affinity a) (affinity c) in
    let ge : Value → Value → Answer Value = compare GreaterOrEqual (collation_of_two a b) (affinity a) (affinity b) in
    let high : Good (value c env then le v) = subst Good (sym (ap (λ r. r then le v) y.4))
    (subst (λ z. Good (le z y.1)) (same_value_of y.0 v (value a env) y.3 x.3) (good_compare LessOrEqual (collation_of_two a c) (affinity a) (affinity c) a c env y)) in
    let low : Good (ge v x.1) = good_compare GreaterOrEqual (collation_of_two a b) (affinity a) (affinity b) a b env x in
    let all : Good (between a b c v (value b env) (value c env)) = subst Good (sym (ap (λ r. r then λ w. ge v w then λ t. and_also t (value c env then le v)) x.4)) (good_and (ge v x.1) (value c env then le v) low high) in
    subst Good (sym (ap (λ r. r then λ v. between a b c v (value b env) (value c env) then turned n) x.3)) (good_turned n (between a b c v (value b env) (value c env)) all)
calm_is_good _ h env = absurd (true≢false (sym h))

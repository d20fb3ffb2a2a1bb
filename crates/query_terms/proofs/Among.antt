-- Lists that a value is looked for in, and lists of which the first value is taken.
use Rattle.std.proofs.Common.{◌≡◌, inl, inr, refl, sym, ap, ◌∙◌, ℕ, ◌<◌, ◌+◌, Bool, true, false, List, length, drop, get_or, Option, Some, None, Ok, Err}
use Rattle.std.proofs.lemmas.List.{at_drop_more}
use Rattle.query_terms.specs.Outcome.{IsRefusedBy}
use Rattle.sqlval.specs.declared.fault.Fault.{Fault}
use Rattle.std.specs.Prelude.{unwrap_or}
use mathlib.Core.Bool.{true≢false}
use Rattle.sqlval.specs.Refusals.{Answer, Refusal, refusal_of, ◌then◌}
use Rattle.sqlval.specs.declared.value.Value.{Value}
use Rattle.query_terms.specs.Rows.{alone, compared_to}
use Rattle.query_terms.specs.Terms.{Term, Terms, End, More, affinity, collation, terms}
use Rattle.query_terms.specs.declared.tree.Comparison.TheVariants.{Equal}
use Rattle.query_terms.specs.Values.{Environment, compare, of_truth, one_holds, or_after, or_else, truth, value, value_among}

-- what was found so far, together with what is found in the rest
abbrev pub together : Option Bool → Answer Value → Answer Value
together t a = a then λ w. truth w then λ u. Ok (of_truth (one_holds t u))

truth_again : (t : Option Bool) → truth (of_truth t) ≡ Ok t
truth_again None = refl
truth_again (Some true) = refl
truth_again (Some false) = refl

nested : (t u x : Option Bool) → one_holds t (one_holds u x) ≡ one_holds (one_holds t u) x
nested (Some false) u x = refl
nested (Some true) u x = refl
nested None (Some false) x = refl
nested None (Some true) x = refl
nested None None None = refl
nested None None (Some true) = refl
nested None None (Some false) = refl

-- one after another
twice_together : (t u : Option Bool) (a : Answer Value) → together t (together u a) ≡ together (one_holds t u) a
twice_together t u (Err r) = refl
twice_together t u (Ok w) = by (truth w)
  where
    by : (x : Answer (Option Bool)) → ((x then λ y. Ok (of_truth (one_holds u y))) then λ v. truth v then λ y. Ok (of_truth (one_holds t y))) ≡ (x then λ y. Ok (of_truth (one_holds (one_holds t u) y)))
    by (Err r) = refl
    by (Ok y) = ap (λ z. z then λ v. Ok (of_truth (one_holds t v))) (truth_again (one_holds u y)) ∙ ap (λ z. Ok (of_truth z)) (nested t u y)

tidy_after : (u : Option Bool) (a : Answer Value) → together (Some false) (or_after u a) ≡ or_after u a
tidy_after (Some true) a = refl
tidy_after (Some false) a = twice_together (Some false) (Some false) a
tidy_after None a = twice_together (Some false) None a

tidy_then : {A : Type 0} (a : Answer A) (f : A → Answer Value) → ((x : A) → together (Some false) (f x) ≡ f x) → together (Some false) (a then f) ≡ (a then f)
tidy_then (Ok x) f h = h x
tidy_then (Err r) f h = refl

pub begins : (a : Term) (v : Value) (es : Terms) (env : Environment) → together (Some false) (value_among a v es env) ≡ value_among a v es env
begins a v End env = refl
begins a v (More e es) env =
    tidy_then (value e env) (λ w. compare Equal (collation a) (affinity a) None v w then λ t. or_else t (value_among a v es env)) (λ w.
    tidy_then (compare Equal (collation a) (affinity a) None v w) (λ t. or_else t (value_among a v es env)) (λ t.
    tidy_then (truth t) (λ u. or_after u (value_among a v es env)) (λ u. tidy_after u (value_among a v es env))))

then_then : {A B C : Type 0} (a : Answer A) (f : A → Answer B) (g : B → Answer C) → ((a then f) then g) ≡ (a then λ x. f x then g)
then_then (Ok x) f g = refl
then_then (Err r) f g = refl

-- whether the value equals that of one more
abbrev pub equal_to : Term → Value → Term → Environment → Answer (Option Bool)
equal_to a v e env = compared_to Equal (alone a) v (value e env)

one_more : (a : Term) (v : Value) (e : Term) (es : Terms) (env : Environment) → value_among a v (More e es) env ≡ (equal_to a v e env then λ u. or_after u (value_among a v es env))
one_more a v e es env = by (value e env)
  where
    by : (x : Answer Value) → (x then λ w. compare Equal (collation a) (affinity a) None v w then λ t. or_else t (value_among a v es env))
        ≡ ((x then λ w. compare Equal (collation a) (affinity a) None v w then truth) then λ u. or_after u (value_among a v es env))
    by (Err r) = refl
    by (Ok w) = sym (then_then (compare Equal (collation a) (affinity a) None v w) truth (λ u. or_after u (value_among a v es env)))

-- it equals this one, and no other is met
found_here : (a : Term) (v : Value) (e : Term) (es : Terms) (env : Environment) (t u : Option Bool) → equal_to a v e env ≡ Ok u → unwrap_or u false ≡ true → together t (value_among a v (More e es) env) ≡ Ok (of_truth u)
found_here a v e es env t u h k = ap (together t) (one_more a v e es env ∙ ap (λ x. x then λ y. or_after y (value_among a v es env)) h) ∙ by t u k
  where
    by : (t u : Option Bool) → unwrap_or u false ≡ true → together t (or_after u (value_among a v es env)) ≡ Ok (of_truth u)
    by None (Some true) k = refl
    by (Some true) (Some true) k = refl
    by (Some false) (Some true) k = refl
    by t (Some false) k = absurd (true≢false (sym k))
    by t None k = absurd (true≢false (sym k))

-- it doesn't, and the others are met
found_later : (a : Term) (v : Value) (e : Term) (es : Terms) (env : Environment) (t u : Option Bool) → equal_to a v e env ≡ Ok u → unwrap_or u false ≡ false → together t (value_among a v (More e es) env) ≡ together (one_holds t u) (value_among a v es env)
found_later a v e es env t u h k = ap (together t) (one_more a v e es env ∙ ap (λ x. x then λ y. or_after y (value_among a v es env)) h) ∙ by u k
  where
    by : (u : Option Bool) → unwrap_or u false ≡ false → together t (or_after u (value_among a v es env)) ≡ together (one_holds t u) (value_among a v es env)
    by (Some true) k = absurd (true≢false k)
    by (Some false) k = twice_together t (Some false) (value_among a v es env)
    by None k = twice_together t None (value_among a v es env)

-- it is refused
refused_here : (a : Term) (v : Value) (e : Term) (es : Terms) (env : Environment) (t : Option Bool) (r : Refusal) → equal_to a v e env ≡ Err r → together t (value_among a v (More e es) env) ≡ Err r
refused_here a v e es env t r h = ap (together t) (one_more a v e es env ∙ ap (λ x. x then λ y. or_after y (value_among a v es env)) h)

-- ---- by the place in the list

-- the list from a place on
from_place : (a : Term) (v : Value) (list : List Term) (i : ℕ) (e : Term) (env : Environment) (t : Option Bool) → i < length list → e ≡ get_or list i e
    → together t (value_among a v (terms (drop i list)) env) ≡ together t (value_among a v (More e (terms (drop (i + 1) list))) env)
from_place a v list i e env t lt is =
    at_drop_more (λ es. together t (value_among a v (terms es) env)) list i e lt
    ∙ ap (λ x. together t (value_among a v (More x (terms (drop (i + 1) list))) env)) (sym is)

pub refused_at : (a : Term) (v : Value) (list : List Term) (i : ℕ) (e : Term) (env : Environment) (t : Option Bool) (f : Fault) → i < length list → e ≡ get_or list i e
    → IsRefusedBy (equal_to a v e env) f → IsRefusedBy (together t (value_among a v (terms (drop i list)) env)) f
refused_at a v list i e env t f lt is (inl m) = inl m
refused_at a v list i e env t f lt is (inr k) = inr (from_place a v list i e env t lt is ∙ refused_here a v e (terms (drop (i + 1) list)) env t (refusal_of f) k)

pub found_at : (a : Term) (v : Value) (list : List Term) (i : ℕ) (e : Term) (env : Environment) (t u : Option Bool) → i < length list → e ≡ get_or list i e
    → equal_to a v e env ≡ Ok u → unwrap_or u false ≡ true → together t (value_among a v (terms (drop i list)) env) ≡ Ok (of_truth u)
found_at a v list i e env t u lt is k b = from_place a v list i e env t lt is ∙ found_here a v e (terms (drop (i + 1) list)) env t u k b

pub goes_on : (a : Term) (v : Value) (list : List Term) (i : ℕ) (e : Term) (env : Environment) (t u w : Option Bool) → i < length list → e ≡ get_or list i e
    → equal_to a v e env ≡ Ok u → unwrap_or u false ≡ false → w ≡ one_holds t u
    → together w (value_among a v (terms (drop (i + 1) list)) env) ≡ together t (value_among a v (terms (drop i list)) env)
goes_on a v list i e env t u w lt is k b same =
    ap (λ s. together s (value_among a v (terms (drop (i + 1) list)) env)) same
    ∙ sym (from_place a v list i e env t lt is ∙ found_later a v e (terms (drop (i + 1) list)) env t u k b)

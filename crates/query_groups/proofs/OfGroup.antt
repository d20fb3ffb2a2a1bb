-- What expressions give of a group is told by what is kept of it.
use Rattle.std.proofs.Common.{◌≡◌, ℕ, refl, sym, ap, ◌∙◌, Bool, true, false, true≢false, ◌&&◌, List, [], ◌∷◌, ◌++◌, map, Ok, Err}
use Rattle.std.specs.Global.{Box}
use Rattle.std.specs.List.{AllByRecursion, list_all}
use Rattle.sqlval.specs.Refusals.{Answer, ◌then◌, all_answers}
use Rattle.sqlval.specs.declared.collation.Collation.{Collation}
use Rattle.sqlval.specs.declared.fault.Fault.{Fault}
use Rattle.sqlval.specs.declared.value.Value.{Value}
use Rattle.sqlval.specs.declared.value.Value.TheVariants.{Null}
use Rattle.query_terms.specs.Outcome.{IsRefusedBy}
use Rattle.query_terms.specs.Terms.{Term, Const, Digits, Cell, Key, Apply, Total, One, Two, Collate, In, Between, Raise, collation}
use Rattle.query_terms.specs.Values.{Environment, Row, aggregated, value}
use Rattle.query_terms.specs.declared.tree.Aggregate.{Aggregate}
use Rattle.query_terms.specs.declared.tree.Aggregate.TheVariants.{CountAll}
use Rattle.query_terms.proofs.InOrder.{refuses_on, with_front}
use Rattle.query_totals.specs.Tallies.{given_by, tally_of}
use Rattle.query_totals.specs.Totals.{AreTaken, argument_at, arguments_at, tallies_over, tally_for, tally_over}
use Rattle.query_totals.specs.declared.tally.Tally.{Tally}
use Rattle.query_totals.proofs.Kept.{given_is}
use Rattle.query_totals.proofs.Taken.{all_given}
use Rattle.query_groups.specs.Giving.{given_each, given_of}
use Rattle.query_names.specs.Readings.{group_env, values}
use Rattle.query_groups.specs.Groups.{Keyed, is_of_group, keys_of_group, rows_of_group}
use Rattle.query_terms.specs.View.{tree_of}
use Rattle.query_terms.specs.declared.tree.Node.{Node}
use Rattle.query_terms.specs.declared.tree.Node.TheVariants as node

-- ---- of which aggregate, collation and arguments something is kept

abbrev pub kind_of : Term → Aggregate
kind_of (Total g e) = g
kind_of _ = CountAll

abbrev pub collation_of : Term → Collation
collation_of (Total g e) = collation e
collation_of t = collation t

pub tally_is : (t : Term) (vs : List Value) → tally_for t vs ≡ tally_of (kind_of t) (collation_of t) vs
tally_is (Total g e) vs = refl
tally_is (Const v) vs = refl
tally_is (Digits n) vs = refl
tally_is (Cell s p k c) vs = refl
tally_is (Key k e) vs = refl
tally_is (Apply f es) vs = refl
tally_is (One o e) vs = refl
tally_is (Two o a b) vs = refl
tally_is (Collate c e) vs = refl
tally_is (In n a bs) vs = refl
tally_is (Between n a b c) vs = refl
tally_is (Raise k t) vs = refl

pub given_as : (t : Term) (vs : List Value) (tally : Tally) → tally ≡ tally_for t vs → aggregated (kind_of t) (collation_of t) vs ≡ given_by tally
given_as t vs tally h = given_is (kind_of t) (collation_of t) vs ∙ ap given_by (sym (h ∙ tally_is t vs))

-- ---- one expression after another

abbrev one_of : Answer (List Value) → Answer Value
one_of (Ok []) = Ok Null
one_of (Ok (v ∷ vs)) = Ok v
one_of (Err r) = Err r

of_one : (a : Answer Value) → one_of (all_answers (a ∷ [])) ≡ a
of_one (Ok v) = refl
of_one (Err r) = refl

first_taken : (a : Answer Value) (b : Answer (List Value)) (vs : List Value) → (a then λ x. b then λ xs. let l : Answer (List Value) = Ok (x ∷ xs) in l) ≡ Ok vs → (ws : List Value) × (all_answers (a ∷ []) ≡ Ok ws)
first_taken (Ok v) b vs e = (v ∷ [], refl)
first_taken (Err r) b vs e = absurd cc

rest_taken : (a : Answer Value) (b : Answer (List Value)) (vs : List Value) → (a then λ x. b then λ xs. let l : Answer (List Value) = Ok (x ∷ xs) in l) ≡ Ok vs → (ws : List Value) × (b ≡ Ok ws)
rest_taken (Ok v) (Ok ws) vs e = (ws, refl)
rest_taken (Ok v) (Err r) vs e = absurd cc
rest_taken (Err r) b vs e = absurd cc

first_all : (t : Term) (ts : List Term) (rows : List (List Row)) → AllByRecursion (AreTaken (t ∷ ts)) rows → AllByRecursion (AreTaken (t ∷ [])) rows
first_all t ts [] h = tt
first_all t ts (r ∷ rs) h = (first_taken (argument_at t r) (arguments_at ts r) h.0.0 h.0.1, first_all t ts rs h.1)

rest_all : (t : Term) (ts : List Term) (rows : List (List Row)) → AllByRecursion (AreTaken (t ∷ ts)) rows → AllByRecursion (AreTaken ts) rows
rest_all t ts [] h = tt
rest_all t ts (r ∷ rs) h = (rest_taken (argument_at t r) (arguments_at ts r) h.0.0 h.0.1, rest_all t ts rs h.1)

given_at : (t : Term) (env : Environment) → is_of_group t ≡ true → AllByRecursion (AreTaken (t ∷ [])) env.group → value t env ≡ given_of env.keys t (tally_over env.group t)
given_at (Key k e) env i h = refl
given_at (Total g e) env i h =
    sym (of_one (value (Total g e) env)) ∙ (ap one_of (all_given (Total g e ∷ []) env refl h) ∙ of_one (given_by (tally_over env.group (Total g e))))
given_at (Const v) env i h = absurd (true≢false (sym i))
given_at (Digits n) env i h = absurd (true≢false (sym i))
given_at (Cell s p k c) env i h = absurd (true≢false (sym i))
given_at (Apply f es) env i h = absurd (true≢false (sym i))
given_at (One o e) env i h = absurd (true≢false (sym i))
given_at (Two o a b) env i h = absurd (true≢false (sym i))
given_at (Collate c e) env i h = absurd (true≢false (sym i))
given_at (In n a bs) env i h = absurd (true≢false (sym i))
given_at (Between n a b c) env i h = absurd (true≢false (sym i))
given_at (Raise k t) env i h = absurd (true≢false (sym i))

first_of : (a b : Bool) → (a && b) ≡ true → a ≡ true
first_of true b e = refl
first_of false b e = absurd (true≢false (sym e))

second_of : (a b : Bool) → (a && b) ≡ true → b ≡ true
second_of true b e = e
second_of false b e = absurd (true≢false (sym e))

abbrev in_front : Value → List Value → Answer (List Value)
in_front v vs = Ok (v ∷ vs)

-- the values of all are what each gives by what is kept
pub each_is : (ts : List Term) (env : Environment) → list_all is_of_group ts ≡ true → AllByRecursion (AreTaken ts) env.group → all_answers (map (λ t. value t env) ts) ≡ given_each env.keys ts (tallies_over env.group ts)
each_is [] env i h = refl
each_is (t ∷ ts) env i h =
    ap (λ (a : Answer Value). a then λ v. all_answers (map (λ u. value u env) ts) then λ vs. in_front v vs) (given_at t env (first_of (is_of_group t) (list_all is_of_group ts) i) (first_all t ts env.group h))
    ∙ ap (λ (b : Answer (List Value)). given_of env.keys t (tally_over env.group t) then λ v. b then λ vs. in_front v vs) (each_is ts env (second_of (is_of_group t) (list_all is_of_group ts) i) (rest_all t ts env.group h))

-- ---- what is left decides

front_on : (front : List Value) (v : Value) (rest : Answer (List Value)) → with_front front (rest then λ vs. in_front v vs) ≡ with_front (front ++ v ∷ []) rest
front_on front v (Ok vs) = ap (λ (ws : List Value). let l : Answer (List Value) = Ok ws in l) (regrouped front)
  where
    regrouped : (ws : List Value) → ws ++ v ∷ vs ≡ (ws ++ v ∷ []) ++ vs
    regrouped [] = refl
    regrouped (w ∷ ws) = ap (λ (us : List Value). w ∷ us) (regrouped ws)
front_on front v (Err r) = refl

pub given_more : (keys : List Value) (t : Term) (ts : List Term) (tally : Tally) (tallies : List Tally) (front : List Value) (v : Value) → given_of keys t tally ≡ Ok v
    → with_front front (given_each keys (t ∷ ts) (tally ∷ tallies)) ≡ with_front (front ++ v ∷ []) (given_each keys ts tallies)
given_more keys t ts tally tallies front v h =
    ap (λ (a : Answer Value). with_front front (a then λ w. given_each keys ts tallies then λ vs. in_front w vs)) h ∙ front_on front v (given_each keys ts tallies)

pub given_refused : (keys : List Value) (t : Term) (ts : List Term) (tally : Tally) (tallies : List Tally) (front : List Value) (fault : Fault) → IsRefusedBy (given_of keys t tally) fault
    → IsRefusedBy (with_front front (given_each keys (t ∷ ts) (tally ∷ tallies))) fault
given_refused keys t ts tally tallies front fault h =
    refuses_on fault (given_each keys (t ∷ ts) (tally ∷ tallies)) (λ vs. let l : Answer (List Value) = Ok (front ++ vs) in l)
    (refuses_on fault (given_of keys t tally) (λ w. given_each keys ts tallies then λ vs. in_front w vs) h)

pub given_past : (keys : List Value) (ts : List Term) → given_each keys ts [] ≡ Ok []
given_past keys [] = refl
given_past keys (t ∷ ts) = refl

-- ---- one expression

-- where it isn't a key, what is kept tells
pub not_a_key : (keys : List Value) (tally : Tally) (n : Node) → ((k : ℕ) (e : Box Term) → n ≡ node.Key k e → ⊥) → given_of keys (tree_of n) tally ≡ given_by tally
not_a_key keys tally (node.Const v) h = refl
not_a_key keys tally (node.Digits m) h = refl
not_a_key keys tally (node.Cell s p a c) h = refl
not_a_key keys tally (node.Key k e) h = absurd (h k e refl)
not_a_key keys tally (node.Apply f es) h = refl
not_a_key keys tally (node.Total g e) h = refl
not_a_key keys tally (node.One o e) h = refl
not_a_key keys tally (node.Two o a b) h = refl
not_a_key keys tally (node.Collate c e) h = refl
not_a_key keys tally (node.In m a es) h = refl
not_a_key keys tally (node.Between m a b c) h = refl
not_a_key keys tally (node.Raise k t) h = refl

-- ---- all of a group

pub of_group : (outer : List Row) (group : List Keyed) (ts : List Term) (keys : List Value) (tallies : List Tally) → list_all is_of_group ts ≡ true → AllByRecursion (AreTaken ts) (rows_of_group group) → keys ≡ keys_of_group group
    → tallies ≡ tallies_over (rows_of_group group) ts → values (group_env outer group) ts ≡ given_each keys ts tallies
of_group outer [] ts keys tallies i h k told = each_is ts (group_env outer []) i tt ∙ (λ j. given_each (sym k j) ts (sym told j))
of_group outer (r ∷ rs) ts keys tallies i h k told = each_is ts (group_env outer (r ∷ rs)) i h ∙ (λ j. given_each (sym k j) ts (sym told j))

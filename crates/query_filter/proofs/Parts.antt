-- WHERE, part by part.
use Rattle.std.proofs.Common.{◌≡◌, inl, inr, refl, sym, ap, ◌∙◌, Bool, true, false, List, [], ◌∷◌, ◌++◌, Option, Some, None, Ok, Err}
use Rattle.std.specs.Prelude.{unwrap_or}
use Rattle.sqlval.specs.Refusals.{Answer, ◌then◌}
use Rattle.sqlval.specs.declared.fault.Fault.{Fault}
use Rattle.sqlval.specs.declared.value.Value.{Value}
use Rattle.query_terms.specs.Outcome.{IsRefusedBy}
use Rattle.query_terms.specs.Rows.{and_truth}
use Rattle.query_terms.specs.Terms.{Term, Const, Digits, Cell, Key, Apply, Total, One, Two, Collate, In, Between, Raise}
use Rattle.query_terms.specs.Values.{Environment, and_after, and_also, both_hold, of_truth, truth, value}
use Rattle.query_terms.specs.declared.tree.TwoSided.TheVariants.{Compare, Calculate, Is, IsNot, And, Or, Concatenate}
use Rattle.query_filter.specs.Passing.{passing, told}
use Rattle.query_filter.specs.Sides.{all_holding, filter_sides, holding, joined_sides}

truth_again : (t : Option Bool) → truth (of_truth t) ≡ Ok t
truth_again None = refl
truth_again (Some true) = refl
truth_again (Some false) = refl

-- what comes after the first parts
after : (t : Option Bool) (ds es : List Term) (env : Environment) → all_holding t (ds ++ es) env ≡ (all_holding t ds env then λ u. all_holding u es env)
after t [] es env = refl
after t (d ∷ ds) es env = by (and_truth t (holding d env)) (λ u. after u ds es env)
  where
    by : (x : Answer (Option Bool)) → ((u : Option Bool) → all_holding u (ds ++ es) env ≡ (all_holding u ds env then λ w. all_holding w es env))
        → (x then λ u. all_holding u (ds ++ es) env) ≡ ((x then λ u. all_holding u ds env) then λ u. all_holding u es env)
    by (Ok u) rest = rest u
    by (Err r) rest = refl

one : (e : Term) (env : Environment) → all_holding (Some true) (e ∷ []) env ≡ holding e env
one e env = by (holding e env)
  where
    by : (x : Answer (Option Bool)) → (and_truth (Some true) x then λ u. (let y : Answer (Option Bool) = Ok u in y)) ≡ x
    by (Ok u) = refl
    by (Err r) = refl

-- AND's value, and its truth
of_and : (t : Option Bool) (b : Answer Value) → (and_after t b then truth) ≡ (and_truth t (b then truth) then λ u. (let y : Answer (Option Bool) = Ok u in y))
of_and (Some false) b = refl
of_and (Some true) (Err r) = refl
of_and (Some true) (Ok w) = by (truth w)
  where
    by : (x : Answer (Option Bool)) → ((x then λ u. (let y : Answer Value = Ok (of_truth (both_hold (Some true) u)) in y)) then truth) ≡ ((x then λ u. (let y : Answer (Option Bool) = Ok (both_hold (Some true) u) in y)) then λ u. (let y : Answer (Option Bool) = Ok u in y))
    by (Err r) = refl
    by (Ok u) = truth_again (both_hold (Some true) u)
of_and None (Err r) = refl
of_and None (Ok w) = by (truth w)
  where
    by : (x : Answer (Option Bool)) → ((x then λ u. (let y : Answer Value = Ok (of_truth (both_hold None u)) in y)) then truth) ≡ ((x then λ u. (let y : Answer (Option Bool) = Ok (both_hold None u) in y)) then λ u. (let y : Answer (Option Bool) = Ok u in y))
    by (Err r) = refl
    by (Ok u) = truth_again (both_hold None u)

and_holds : (a b : Term) (env : Environment) → holding (Two And a b) env ≡ (holding a env then λ t. all_holding t (b ∷ []) env)
and_holds a b env = by (value a env)
  where
    by : (x : Answer Value) → ((x then λ v. and_also v (value b env)) then truth) ≡ ((x then truth) then λ t. all_holding t (b ∷ []) env)
    by (Err r) = refl
    by (Ok v) = within (truth v)
      where
        within : (y : Answer (Option Bool)) → ((y then λ t. and_after t (value b env)) then truth) ≡ (y then λ t. all_holding t (b ∷ []) env)
        within (Err r) = refl
        within (Ok t) = of_and t (value b env)

-- the parts of a condition say what it says
sides_hold : (t : Term) (env : Environment) → all_holding (Some true) (joined_sides t) env ≡ holding t env
sides_hold (Two And a b) env =
    after (Some true) (joined_sides a) (b ∷ []) env
    ∙ (ap (λ (x : Answer (Option Bool)). x then λ u. all_holding u (b ∷ []) env) (sides_hold a env) ∙ sym (and_holds a b env))
sides_hold (Two Or a b) env = one (Two Or a b) env
sides_hold (Two Is a b) env = one (Two Is a b) env
sides_hold (Two IsNot a b) env = one (Two IsNot a b) env
sides_hold (Two Concatenate a b) env = one (Two Concatenate a b) env
sides_hold (Two (Compare o) a b) env = one (Two (Compare o) a b) env
sides_hold (Two (Calculate o) a b) env = one (Two (Calculate o) a b) env
sides_hold (Const v) env = one (Const v) env
sides_hold (Digits n) env = one (Digits n) env
sides_hold (Cell s p k c) env = one (Cell s p k c) env
sides_hold (Key k t) env = one (Key k t) env
sides_hold (Apply f ts) env = one (Apply f ts) env
sides_hold (Total g t) env = one (Total g t) env
sides_hold (One o t) env = one (One o t) env
sides_hold (Collate c t) env = one (Collate c t) env
sides_hold (In n t ts) env = one (In n t ts) env
sides_hold (Between n t u v) env = one (Between n t u v) env
sides_hold (Raise k t) env = one (Raise k t) env

pub filter_passes : (f : Option Term) (env : Environment) → told (all_holding (Some true) (filter_sides f) env) ≡ passing f env
filter_passes None env = refl
filter_passes (Some t) env = ap told (sides_hold t env)

-- ---- in the code's words

module _ (f : Option Term) (parts : List Term) (env : Environment) (are : parts ≡ filter_sides f) where
  whole : told (all_holding (Some true) parts env) ≡ passing f env
  whole = ap (λ (es : List Term). told (all_holding (Some true) es env)) are ∙ filter_passes f env

  pub filter_told : (t : Option Bool) (b : Bool) → all_holding (Some true) parts env ≡ Ok t → b ≡ unwrap_or t false → passing f env ≡ Ok b
  filter_told t b e is = sym whole ∙ (ap told e ∙ ap done (sym is))
    where
      done : Bool → Answer Bool
      done b = Ok b

  pub filter_refused : (fault : Fault) → IsRefusedBy (all_holding (Some true) parts env) fault → IsRefusedBy (passing f env) fault
  filter_refused fault (inl m) = inl m
  filter_refused fault (inr e) = inr (sym whole ∙ ap told e)

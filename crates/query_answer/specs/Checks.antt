-- Whether an aggregate's argument is refused at a row.
use Rattle.std.specs.Prelude.{Bool, List, map, Ok}
use Rattle.sqlval.specs.Refusals.{Answer, ◌then◌}
use Rattle.query_terms.specs.Terms.{Term, Terms, Total, Apply, One, Two, Collate, In, Between, End, More, terms}
use Rattle.query_terms.specs.Values.{Environment, counted, value}
use Rattle.query_terms.specs.declared.tree.Aggregate.TheVariants.{CountAll}

-- an answer of which nothing but a refusal is kept
abbrev pub passed : {A : Type 0} → Answer A → Answer (Unit {0})
passed a = a then λ x. Ok tt

-- the aggregates' arguments in a term, from left to right
abbrev mutual
  pub checked : Term → Environment → Answer (Unit {0})
  checked (Total CountAll e) env = Ok tt
  checked (Total g e) env = passed (value e env then counted g)
  checked (Apply f es) env = checked_in es env
  checked (One o e) env = checked e env
  checked (Two o a b) env = checked a env then λ u. checked b env
  checked (Collate c e) env = checked e env
  checked (In n a bs) env = checked a env then λ u. checked_in bs env
  checked (Between n a b c) env = checked a env then λ u. checked b env then λ v. checked c env
  checked _ env = Ok tt

  pub checked_in : Terms → Environment → Answer (Unit {0})
  checked_in End env = Ok tt
  checked_in (More e es) env = checked e env then λ u. checked_in es env

abbrev pub both_checked : Term → Term → Environment → Answer (Unit {0})
both_checked a b env = checked a env then λ u. checked b env

abbrev pub among_checked : Term → Terms → Environment → Answer (Unit {0})
among_checked a bs env = checked a env then λ u. checked_in bs env

-- those in a query's results, and then those in its ORDER BY
abbrev pub lists_checked : List Term → List (Term × Bool) → Environment → Answer (Unit {0})
lists_checked results order env = checked_in (terms results) env then λ u. checked_in (terms (map (λ o. o.0) order)) env

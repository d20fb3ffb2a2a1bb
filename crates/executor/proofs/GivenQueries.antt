-- The rows of a query, as those that an INSERT gives.
use Rattle.std.proofs.Common.{◌≡◌, ◌∙◌, ap, inr, refl, subst, sym, ℕ, Bool, true, false, not, ◌&&◌, ◌==◌, List, [], length, Some, arith}
use Rattle.std.specs.Prelude.{Contains}
use Rattle.std.proofs.lemmas.Bool.Decides.{nat_tests}
use Rattle.sqlval.specs.Refusals.{Answer, Misuse, refusal_of}
use Rattle.sqlval.specs.declared.fault.Fault.{Fault}
use Rattle.sqlval.specs.declared.value.Value.{Value}
use Rattle.sql_syntax.specs.declared.change.InsertSource.TheVariants as source
use Rattle.sql_syntax.specs.declared.query.Query.{Query}
use Rattle.catalog.specs.Database.{Database}
use Rattle.query_names.specs.Bound.{IsFaultOf}
use Rattle.query_names.specs.Checked.{Checked, Meant, faults, good, known_map, unless}
use Rattle.query_names.specs.Queries.{resolve_query}
use Rattle.query_names.specs.Views.{answer_of, look_up}
use Rattle.query_names.specs.declared.reading.Reading.{Reading}
use Rattle.query_names.proofs.PartRefusals.{mapped}
use Rattle.query_bind.proofs.Chains.{refused_first, then_good}
use Rattle.row_change.specs.Changes.{Given, GivenQuery, no_outer, resolve_given}
use Rattle.trigger.specs.Effects.{given_rows}
use Rattle.executor.specs.Works.{given_on}

pub other_count : (counted_as len n : ℕ) → counted_as ≡ len → (counted_as ≡ n → ⊥) → (n == len) ≡ false
other_count counted_as len n same differ = grind (arith, nat_tests)

-- another number of results is refused, where their number is known
abbrev counted : ℕ → Reading → Checked Given
counted n r = unless (not r.is_open && not (n == length r.results)) Misuse (good (GivenQuery r))

-- a refusal of its names is one of what is given
pub unnamed_given : (db : Database) (n : ℕ) (q : Query) (f : Fault) → IsFaultOf (faults (resolve_query (look_up db) [] q)) f → IsFaultOf (faults (given_on db n (source.Query q))) f
unnamed_given db n q f why =
    mapped (given_rows db no_outer) (resolve_given db no_outer (Some n) (source.Query q)) f (refused_first (resolve_query (look_up db) [] q) (counted n) f why)

module _ (db : Database) (n : ℕ) (q : Query) (reading : Reading) (named : resolve_query (look_up db) [] q ≡ Meant reading []) (closed : reading.is_open ≡ false) where
  by_count : (b : Bool) → (n == length reading.results) ≡ b → given_on db n (source.Query q) ≡ known_map (given_rows db no_outer) (unless (not b) Misuse (good (GivenQuery reading)))
  by_count b e =
      ap (known_map (given_rows db no_outer))
      (then_good (resolve_query (look_up db) [] q) (counted n) reading named
      ∙ (ap (λ o. unless (not o && not (n == length reading.results)) Misuse (good (GivenQuery reading))) closed
      ∙ ap (λ c. unless (not c) Misuse (good (GivenQuery reading))) e))

  pub miscounted : (f : Fault) → (n == length reading.results) ≡ false → refusal_of f ≡ Misuse → IsFaultOf (faults (given_on db n (source.Query q))) f
  miscounted f e is = inr (subst (λ (k : Checked (Answer (List (List Value)))). Contains (faults k) (refusal_of f)) (sym (by_count false e)) (0, omega arith, sym is))

  pub well_counted : (n == length reading.results) ≡ true → given_on db n (source.Query q) ≡ Meant (answer_of db [] reading) []
  well_counted e = by_count true e

-- ---- what is known of it

-- the refusals of what is looked up are those of its rows
pub same_faults : {A B : Type 0} (f : A → B) (k : Checked A) → faults (known_map f k) ≡ faults k
same_faults f (Meant x rs) = refl

pub as_known : (db : Database) (n : ℕ) (q : Query) (f : Fault) → IsFaultOf (faults (given_on db n (source.Query q))) f → IsFaultOf (faults (resolve_given db no_outer (Some n) (source.Query q))) f
as_known db n q f why = subst (λ rs. IsFaultOf rs f) (same_faults (given_rows db no_outer) (resolve_given db no_outer (Some n) (source.Query q))) why

pub well_known : (db : Database) (n : ℕ) (q : Query) (reading : Reading) → resolve_query (look_up db) [] q ≡ Meant reading [] → reading.is_open ≡ false → (n == length reading.results) ≡ true
    → faults (resolve_given db no_outer (Some n) (source.Query q)) ≡ []
well_known db n q reading named closed same =
    sym (same_faults (given_rows db no_outer) (resolve_given db no_outer (Some n) (source.Query q))) ∙ ap faults (well_counted db n q reading named closed same)

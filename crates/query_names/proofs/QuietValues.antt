-- No values of terms over rows, and no condition, are refused for a disk.
use Rattle.std.proofs.Common.{inl, inr, subst, List, map}
use Rattle.sqlval.specs.Faults.{IsNotDiskFault}
use Rattle.sqlval.specs.Refusals.{all_answers}
use Rattle.sqlval.specs.declared.fault.Fault.{Fault}
use Rattle.query_terms.specs.Outcome.{IsRefusedBy}
use Rattle.query_terms.specs.Terms.{Term}
use Rattle.query_terms.specs.Values.{Row, Environment, value, truth}
use Rattle.query_names.specs.Readings.{env_of, holds, values}
use Rattle.query_terms.proofs.Quiet.{IsQuiet, each, memory_is_quiet, next, of_test, of_value, quiet_fault}

pub of_holds : (t : Term) (rows : List Row) → IsQuiet (holds t rows)
of_holds t rows = next (value t (env_of rows)) truth (of_value t (env_of rows)) (λ v. of_test v)

pub of_values : (env : Environment) (ts : List Term) → IsQuiet (values env ts)
of_values env ts = each (λ t. value t env) (λ t. of_value t env) ts

-- no condition is refused for a disk
pub condition_refused : (t : Term) (rows : List Row) (f : Fault) → IsRefusedBy (holds t rows) f → IsNotDiskFault f
condition_refused t rows f (inl m) = memory_is_quiet f m
condition_refused t rows f (inr e) = quiet_fault f (subst IsQuiet e (of_holds t rows))

-- the values of rows of terms
pub values_quietly : (env : Environment) (rows : List (List Term)) (f : Fault) → IsRefusedBy (all_answers (map (values env) rows)) f → IsNotDiskFault f
values_quietly env rows f (inl m) = memory_is_quiet f m
values_quietly env rows f (inr e) = quiet_fault f (subst IsQuiet e (each (values env) (of_values env) rows))

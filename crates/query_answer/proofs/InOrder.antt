-- Expressions of ORDER BY come after the results.
use Rattle.std.proofs.Common.{◌≡◌, List, map, Ok, sym, subst}
use Rattle.query_terms.specs.Outcome.{IsRefusedBy}
use Rattle.sqlval.specs.Refusals.{Answer, ◌then◌}
use Rattle.sqlval.specs.declared.fault.Fault.{Fault}
use Rattle.sqlval.specs.declared.value.Value.{Value}
use Rattle.query_terms.specs.Values.{Environment}
use Rattle.query_names.specs.declared.reading.Reading.{Reading}
use Rattle.query_names.specs.Readings.{sortable, values}
use Rattle.query_terms.proofs.InOrder.{refuses_on}

abbrev pair : List Value → List Value → Answer (List Value × List Value)
pair vs ks = Ok (vs, ks)

-- the expressions of ORDER BY are refused after the results
pub keys_refused : (q : Reading) (env : Environment) (vs : List Value) (fault : Fault) → values env q.results ≡ Ok vs → IsRefusedBy (values env (map (λ o. o.0) q.order)) fault → IsRefusedBy (sortable q env) fault
keys_refused q env vs fault h k =
    subst (λ a. IsRefusedBy {A = List Value × List Value} (a then λ ws. values env (map (λ o. o.0) q.order) then pair ws) fault) (sym h) (refuses_on fault (values env (map (λ o. o.0) q.order)) (pair vs) k)

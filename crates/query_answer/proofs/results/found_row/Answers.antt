use Rattle.std.proofs.Common.{◌≡◌, rules, subst, map, Ok}
use Rattle.query_terms.specs.Outcome.{IsRefusedBy}
use Rattle.query_terms.specs.Rows.{seen}
use Rattle.query_names.specs.Readings.{sortable, values}
use Rattle.query_answer.proofs.InOrder.{keys_refused}
use Rattle.query_answer.proofs.results.found_row.Goals as goal

pub returns-in_err-keys-clause-found : goal.returns-in_err-keys-clause-found
returns-in_err-keys-clause-found c =
    let f = c.in_err-keys.field-0.0 in
    let h : IsRefusedBy (sortable c.args.reading.now (seen c.args.env)) f =
    keys_refused c.args.reading.now (seen c.args.env) c.in_ok-results.results f (subst (λ ts. values (seen c.args.env) ts ≡ Ok c.in_ok-results.results) c.as_slice.ensures c.in_ok-results.ensures)
    (subst (λ os. IsRefusedBy (values (seen c.args.env) (map (λ o. o.0) os)) f) c.as_slice-2.ensures c.in_err-keys.ensures) in
    search rules

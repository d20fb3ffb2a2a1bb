use Rattle.std.proofs.Common.{◌≡◌, ◌∙◌, ap, map, refl, rules}
use Rattle.query_names.specs.Grouping.{keyed}
use Rattle.query_names.specs.declared.scope.ScopeColumn.{ScopeColumn}
use Rattle.query_terms.specs.Terms.{Term}
use Rattle.std.specs.Prelude.{Bool}
use Rattle.query_bind.proofs.Readings.{made}
use Rattle.query_bind.proofs.querying.reading_of.Goals as goal

pub returns-in_err-check_parts-clause-named : goal.returns-in_err-check_parts-clause-named
returns-in_err-check_parts-clause-named c =
    let results : c.deref-5.result.now ≡ map (λ (r : Term × ScopeColumn). keyed c.args.parts.keys.items r.0) c.args.parts.results.items = search rules in
    let orders : c.deref-6.result.now ≡ map (λ (o : Term × Bool). (keyed c.args.parts.keys.items o.0, o.1)) c.args.parts.orders.items = search rules in
    let h = c.in_err-check_parts.ensures results orders in
    search rules

pub returns-clause-named : goal.returns-clause-named
returns-clause-named c =
    let results : c.deref-5.result.now ≡ map (λ (r : Term × ScopeColumn). keyed c.args.parts.keys.items r.0) c.args.parts.results.items = search rules in
    let orders : c.deref-6.result.now ≡ map (λ (o : Term × Bool). (keyed c.args.parts.keys.items o.0, o.1)) c.args.parts.orders.items = search rules in
    let h = c.in_ok-check_parts.ensures results orders in
    let columns = c.from_vec-4.ensures ∙ (c.in_ok-columns.ensures ∙ ap (map (λ (r : Term × ScopeColumn). r.1)) c.deref-7.ensures.value) in
    made c.args.outer c.args.query.now c.args.parts _ (search rules) refl (search rules) (search rules) (search rules) columns refl (search rules) refl (search rules) (search rules) h

use Rattle.std.proofs.Common.{◌≡◌, [], false, map, sym, subst, rules}
use Rattle.query_names.specs.Bound.{IsFaultOf}
use Rattle.query_names.specs.Checked.{Meant, faults, known_all}
use Rattle.query_names.specs.Expressions.{resolve}
use Rattle.query_names.specs.Named.{Names}
use Rattle.query_names.specs.Queries.{resolve_items}
use Rattle.query_bind.specs.Named.{order_given, orders_checked}
use Rattle.query_bind.specs.declared.querying.Parts.{Parts}
use Rattle.query_bind.proofs.Readings.{clauses_named, filter_refused, keys_refused, orders_refused, results_refused}
use Rattle.query_bind.proofs.querying.bind_clauses.Goals as goal

pub returns-in_err-keys-clause-named : goal.returns-in_err-keys-clause-named
returns-in_err-keys-clause-named c = λ tables.
    let h = keys_refused c.args.outer c.args.scope.now c.args.query.now c.args.joined.items c.in_err-keys.field-0.0
    (subst (λ es. IsFaultOf (faults (known_all (map (resolve false c.args.scope.now) es))) c.in_err-keys.field-0.0) c.as_slice.ensures c.in_err-keys.ensures) in
    search rules

pub returns-in_err-results-clause-named : goal.returns-in_err-results-clause-named
returns-in_err-results-clause-named c = λ tables.
    let h = results_refused c.args.outer c.args.scope.now c.args.query.now c.args.joined.items c.in_err-results.field-0.0
    (subst (λ es. IsFaultOf (faults (resolve_items c.args.scope.now es)) c.in_err-results.field-0.0) c.as_slice-items.ensures c.in_err-results.ensures) in
    search rules

pub returns-in_err-orders-clause-named : goal.returns-in_err-orders-clause-named
returns-in_err-orders-clause-named c = λ tables.
    let named : resolve_items c.args.scope.now c.args.query.now.results ≡ Meant c.in_ok-results.results.items [] =
    subst (λ es. resolve_items c.args.scope.now es ≡ Meant c.in_ok-results.results.items []) c.as_slice-items.ensures c.in_ok-results.ensures in
    let refused : IsFaultOf (faults (orders_checked (map (order_given c.args.scope.now c.args.query.now.results c.in_ok-results.results.items) c.args.query.now.order))) c.in_err-orders.field-0.0 =
    rw (sym c.as_slice-items.ensures, sym c.deref.ensures.value, sym c.as_slice-2.ensures) (c.in_err-orders.ensures tables) in
    let h = orders_refused c.args.outer c.args.scope.now c.args.query.now c.args.joined.items c.in_ok-results.results.items c.in_err-orders.field-0.0 named refused in
    search rules

pub returns-in_err-filter-clause-named : goal.returns-in_err-filter-clause-named
returns-in_err-filter-clause-named c = λ tables.
    let h = filter_refused c.args.outer c.args.scope.now c.args.query.now c.args.joined.items c.in_err-filter.field-0.0 c.in_err-filter.ensures.named in
    search rules

pub returns-clause-named : goal.returns-clause-named
returns-clause-named c = λ tables.
    let p : Parts = record { joined = c.args.joined; filter = c.in_ok-filter.filter; keys = c.in_ok-keys.keys; results = c.in_ok-results.results; orders = c.in_ok-orders.orders } in
    let keys : known_all (map (resolve false c.args.scope.now) c.args.query.now.groups) ≡ Meant c.in_ok-keys.keys.items [] =
    subst (λ es. known_all (map (resolve false c.args.scope.now) es) ≡ Meant c.in_ok-keys.keys.items []) c.as_slice.ensures c.in_ok-keys.ensures in
    let results : resolve_items c.args.scope.now c.args.query.now.results ≡ Meant c.in_ok-results.results.items [] =
    subst (λ es. resolve_items c.args.scope.now es ≡ Meant c.in_ok-results.results.items []) c.as_slice-items.ensures c.in_ok-results.ensures in
    let orders : orders_checked (map (order_given c.args.scope.now c.args.query.now.results c.in_ok-results.results.items) c.args.query.now.order) ≡ Meant c.in_ok-orders.orders.items [] =
    rw (sym c.as_slice-items.ensures, sym c.deref.ensures.value, sym c.as_slice-2.ensures) (c.in_ok-orders.ensures tables) in
    subst (λ k. Names k c.reading_of.result) (sym (clauses_named c.args.outer c.args.scope.now c.args.query.now p tables c.in_ok-filter.ensures.named keys results orders)) c.reading_of.ensures.named

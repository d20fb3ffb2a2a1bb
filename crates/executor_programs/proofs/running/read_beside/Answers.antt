use Rattle.std.proofs.Common.{subst, sym}
use Rattle.query_bind.specs.Named.{AreOuter}
use Rattle.executor_programs.proofs.KnownBeside.{known_beside, named_beside, unbound, unread, was_read}
use Rattle.executor_programs.proofs.running.read_beside.Goals as goal

pub returns-in_err-bound-clause-read : goal.returns-in_err-bound-clause-read
returns-in_err-bound-clause-read g c = λ seen told shows knows db held.
    (let outer = subst AreOuter (sym shows.scope) shows.known in
    unbound db seen c.args.query.now c.args.outer.scope.now c.in_err-bound.field-0.0 c.from_residual.result c.from_residual.ensures.1 shows.scope (knows held.rows_at db held.of_listed)
    (c.in_err-bound.ensures.named held.rows_at db outer held.of_listed.lists))

pub returns-in_err-queried_rows-clause-read : goal.returns-in_err-queried_rows-clause-read
returns-in_err-queried_rows-clause-read g c = λ seen told shows knows db held.
    (let outer = subst AreOuter (sym shows.scope) shows.known in
    let reading = c.in_ok-bound.bound.reading in
    let named = named_beside db seen c.args.query.now c.args.outer.scope.now reading shows.scope (c.in_ok-bound.ensures.named held.rows_at db outer held.of_listed.lists) in
    unread db seen c.args.query.now reading named c.in_err-queried_rows.field-0.0 c.from_residual-in_err-queried_rows.result c.from_residual-in_err-queried_rows.ensures.1
    (c.in_err-queried_rows.ensures.answered db seen told held shows (known_beside db seen.scope c.args.query.now reading named)))

pub returns-clause-read : goal.returns-clause-read
returns-clause-read g c = λ seen told shows knows db held.
    (let outer = subst AreOuter (sym shows.scope) shows.known in
    let reading = c.in_ok-bound.bound.reading in
    let named = named_beside db seen c.args.query.now c.args.outer.scope.now reading shows.scope (c.in_ok-bound.ensures.named held.rows_at db outer held.of_listed.lists) in
    was_read db seen c.args.query.now reading named _
    (c.in_ok-queried_rows.ensures.answered db seen told held shows (known_beside db seen.scope c.args.query.now reading named)))

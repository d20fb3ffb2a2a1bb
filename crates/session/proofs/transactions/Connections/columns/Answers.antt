use Rattle.std.proofs.Common.{subst, sym}
use Rattle.catalog.specs.Listed.{Listed, Lists}
use Rattle.session.specs.Looking.{NamesColumnsOf}
use Rattle.session.proofs.LookingOnly.{looks_refused, looks_unread, short_names}
use Rattle.session.proofs.transactions.Connections.columns.Goals as goal

pub returns-in_err-look_from-clause-told : goal.returns-in_err-look_from-clause-told
returns-in_err-look_from-clause-told g c m shows =
    looks_refused (NamesColumnsOf c.args.query.now c.from_residual.result) c.args.self.now c.look_from.new.self c.args.connection m c.in_err-look_from.ensures.files (c.in_err-look_from.ensures.turned m shows)
    (λ db. short_names c.args.query.now c.from_residual.result c.in_err-look_from.field-0.0 c.from_residual.ensures.1 c.in_err-look_from.ensures.refused db)

pub returns-clause-told : goal.returns-clause-told
returns-clause-told g c m shows =
    looks_unread (NamesColumnsOf c.args.query.now c.column_names.result) c.args.self.now c.look_from.new.self c.args.connection m c.in_ok-look_from.ensures.files (c.in_ok-look_from.ensures.turned m shows)
    c.in_ok-look_from.ensures.newest
    (λ db shown stored. c.column_names.ensures.named stored.stored.rows_at db
    (subst (λ (l : Listed). Lists stored.stored.rows_at l db) (sym c.current.ensures) stored.stored.of_listed.lists))

use Rattle.session.specs.Looking.{TellsAllOf}
use Rattle.session.proofs.LookingOnly.{looks_read, looks_refused, short_told}
use Rattle.session.proofs.transactions.Connections.objects.Goals as goal

pub returns-in_err-look_from-clause-told : goal.returns-in_err-look_from-clause-told
returns-in_err-look_from-clause-told g c m shows =
    looks_refused (TellsAllOf c.from_residual.result) c.args.self.now c.look_from.new.self c.args.connection m c.in_err-look_from.ensures.files (c.in_err-look_from.ensures.turned m shows)
    (λ db. short_told c.from_residual.result c.in_err-look_from.field-0.0 c.from_residual.ensures.1 c.in_err-look_from.ensures.refused db)

pub returns-clause-told : goal.returns-clause-told
returns-clause-told g c m shows =
    looks_read (TellsAllOf c.schema_seen.result) c.args.self.now c.look_from.new.self c.schema_seen.new.self c.args.connection m c.in_ok-look_from.ensures.files (c.in_ok-look_from.ensures.turned m shows)
    c.in_ok-look_from.ensures.newest c.schema_seen.ensures.reads (λ db shown stored. c.schema_seen.ensures.told m db shown stored)

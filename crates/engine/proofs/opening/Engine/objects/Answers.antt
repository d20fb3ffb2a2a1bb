use Rattle.std.proofs.Common.{sym}
use Rattle.engine.proofs.Marked.{check_not_io, check_passes, for_any, nothing_called}
use Rattle.engine.proofs.opening.Engine.objects.Goals as goal

pub returns-in_err-check-clause-counted : goal.returns-in_err-check-clause-counted
returns-in_err-check-clause-counted g c =
    nothing_called c.from_residual.result c.in_err-check.field-0.0 c.args.self.now c.from_residual.ensures.1
    (check_not_io _ c.args.connection c.in_err-check.field-0.0 (sym c.in_err-check.ensures))

pub returns-clause-counted : goal.returns-clause-counted
returns-clause-counted g c = record { cause = for_any _ c.objects.result _ _ c.objects.ensures.cause; marks = c.objects.ensures.marks }

pub returns-in_err-check-clause-told : goal.returns-in_err-check-clause-told
returns-in_err-check-clause-told g c whole there m shows = absurd (check_passes _ c.args.connection c.in_err-check.field-0.0 whole there (sym c.in_err-check.ensures))

use Rattle.std.proofs.Common.{◌∙◌, ap, cond, sym}
use Rattle.sqlval.specs.Fields.{value_of}
use Rattle.query_totals.proofs.Kept.{better_is}
use Rattle.query_totals.proofs.tally.is_better.Goals as goal

pub returns : goal.returns
returns c =
    better_is c.args.collation c.args.is_max (value_of c.args.best) (value_of c.args.value)
    ∙ ap (λ b. cond b (value_of c.args.value) (value_of c.args.best)) (sym c.improves_on.ensures)

use Rattle.std.proofs.Common.{map}
use Rattle.row_change.specs.Choosing.{chosen_or_all}
use Rattle.row_change.specs.NewRows.{row_of}
use Rattle.row_change.proofs.Meant.{copied, not_copied}
use Rattle.row_change.proofs.meaning.meant_rows.Goals as goal

pub returns-in_err-places-clause-found : goal.returns-in_err-places-clause-found
returns-in_err-places-clause-found c = λ all enough.
    not_copied (λ them. map row_of them.items) (chosen_or_all c.args.condition.now all) c.from_residual.result c.in_err-places.field-0.0 c.from_residual.ensures.1 (c.in_err-places.ensures.found all enough)

pub returns-clause-found : goal.returns-clause-found
returns-clause-found c = λ all enough.
    copied (chosen_or_all c.args.condition.now all) c.args.rows.now c.in_ok-places.places.items c.deref.result.now c.copies_at.result (c.in_ok-places.ensures.found all enough) c.deref.ensures.value
    c.copies_at.ensures.copied c.copies_at.ensures.refused

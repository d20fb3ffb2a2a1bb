use Rattle.std.proofs.Common.{◌∙◌, sym}
use Rattle.tree_page.specs.Node.{Between}
use Rattle.tree_index.proofs.Clearing.{none_some}
use Rattle.tree_index.proofs.Readings.{refused}
use Rattle.tree_index.proofs.Widening.{some_is}
use Rattle.tree_index.proofs.joining.kid_of.Goals as goal

pub returns-in_err-child-clause-found : goal.returns-in_err-child-clause-found
returns-in_err-child-clause-found g c = λ told said last whole says.
    refused _ _ c.in_err-child.field-0.0 c.from_residual.ensures.1 (c.in_err-child.ensures.found told (Between said last) whole says tt)

pub returns-in-Some-clause-found : goal.returns-in-Some-clause-found
returns-in-Some-clause-found g c = λ told said last whole says.
    some_is _ _ (sym c.in-Some.is ∙ c.in_ok-child.ensures.found told (Between said last) whole says tt)

pub returns-in-None-clause-found : goal.returns-in-None-clause-found
returns-in-None-clause-found g c = λ told said last whole says.
    absurd (none_some _ (sym c.in-None.is ∙ c.in_ok-child.ensures.found told (Between said last) whole says tt))

use Rattle.std.proofs.Common.{inr, ◌∷◌, [], ◌++◌, ◌∙◌, ap}
use Rattle.disk.specs.Calls.{overwritten}
use Rattle.disk.specs.declared.change.Change.TheVariants.{Write}
use Rattle.disk.proofs.changed.overwrite.Goals as goal

pub returns-in_ok-record_write-clause-landed : goal.returns-in_ok-record_write-clause-landed
returns-in_ok-record_write-clause-landed c t = (
  c.in_ok-copy_of.field-0,
  c.in_ok-copy_of.ensures,
  c.in_ok-record_write.ensures.recorded ∙ ap (λ lands. c.args.changes.now.items ++ Write c.args.at c.in_ok-copy_of.field-0 lands ∷ []) t,
  c.in_ok-record_write.ensures.landed t ∙ ap (λ bytes. overwritten c.args.at bytes c.args.content.now.items) c.in_ok-copy_of.ensures,
)

pub returns-in_ok-record_write-clause-not_landed : goal.returns-in_ok-record_write-clause-not_landed
returns-in_ok-record_write-clause-not_landed c t = (
  c.record_write.ensures.not_landed t,
  inr (
    c.in_ok-copy_of.field-0,
    c.in_ok-copy_of.ensures,
    c.in_ok-record_write.ensures.recorded ∙ ap (λ lands. c.args.changes.now.items ++ Write c.args.at c.in_ok-copy_of.field-0 lands ∷ []) t,
  ),
)

use Rattle.sql_syntax.specs.declared.create.NewObject.TheVariants as object
use Rattle.executor.proofs.KeptTexts.{answered, passed}
use Rattle.executor.proofs.triggers.kept_trigger.Goals as goal

pub returns-in_err-kept_object-clause-kept : goal.returns-in_err-kept_object-clause-kept
returns-in_err-kept_object-clause-kept c = λ d text.
    passed d c.from_residual.result c.in_err-kept_object.field-0.0 c.from_residual.ensures.1 (c.in_err-kept_object.ensures.kept (object.Trigger d) text)

pub returns-clause-kept : goal.returns-clause-kept
returns-clause-kept c = λ d text. answered d c.defined_trigger.result (c.defined_trigger.ensures.trigger d (c.in_ok-kept_object.ensures.kept (object.Trigger d) text))

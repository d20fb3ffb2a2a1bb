use Rattle.std.proofs.Common.{refl, ◌∙◌}
use Rattle.std.proofs.lemmas.Result.{on_ok_weaker}
use Rattle.disk.proofs.Moments.{elapses_both}
use Rattle.engine.proofs.NewFiles.{cut_to_nothing}
use Rattle.engine.proofs.CountedCalls.{call_refused, last_counted}
use Rattle.engine.proofs.creating.empty_log.Goals as goal

pub returns-clause-emptied : goal.returns-clause-emptied
returns-clause-emptied g c = λ told. on_ok_weaker c.sync.result (λ syncs. cut_to_nothing _ _ _ (c.in_ok-cut.ensures.done told) syncs) (c.sync.ensures.done (c.cut.ensures.tells ∙ told))

pub returns-clause-moments : goal.returns-clause-moments
returns-clause-moments g c = λ told. elapses_both _ _ _ (c.cut.ensures.moments told) (c.sync.ensures.moments (c.cut.ensures.tells ∙ told))

pub returns-in_err-cut-clause-counted : goal.returns-in_err-cut-clause-counted
returns-in_err-cut-clause-counted g c = call_refused _ c.in_err-cut.field-0.0 _ _ _ c.from_residual.ensures.1 refl c.in_err-cut.ensures.count

pub returns-clause-counted : goal.returns-clause-counted
returns-clause-counted g c = last_counted c.sync.result _ _ _ c.in_ok-cut.ensures.count c.sync.ensures.count

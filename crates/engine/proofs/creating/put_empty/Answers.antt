use Rattle.std.proofs.Common.{rules, inl, inr}
use Rattle.engine.proofs.NewFileCrashes.{becomes, is_created, nothing_becomes}
use Rattle.engine.proofs.CountedCalls.{last_of_two, none_of_two, on_call}
use Rattle.engine.proofs.creating.put_empty.Goals as goal

pub returns-clause-none_failed : goal.returns-clause-none_failed
returns-clause-none_failed g c = none_of_two _ _ c.put_page.result c.put_page.ensures.counted.none_failed c.in_ok-empty_log.ensures.counted.none_failed

pub returns-in_err-empty_log-clause-crash : goal.returns-in_err-empty_log-clause-crash
returns-in_err-empty_log-clause-crash g c = λ size served empty told told_log synced blank. nothing_becomes size _ _ _ _ synced blank (search rules) (search rules)

pub returns-clause-crash : goal.returns-clause-crash
returns-clause-crash g c = λ size served empty told told_log synced blank. becomes size _ _ _ _ _ synced blank empty (search rules) (search rules) (c.put_page.ensures.crash size served empty told synced blank)

pub returns-in_err-empty_log-clause-left : goal.returns-in_err-empty_log-clause-left
returns-in_err-empty_log-clause-left g c = λ size served empty told told_log blank. inl blank

pub returns-clause-left : goal.returns-clause-left
returns-clause-left g c = λ size served empty told told_log blank. is_created size _ empty (c.put_page.ensures.left size served empty told blank) (c.in_ok-empty_log.ensures.emptied told_log).content

pub returns-in_err-empty_log-clause-called : goal.returns-in_err-empty_log-clause-called
returns-in_err-empty_log-clause-called g c = on_call c.from_residual.result (inr (c.in_err-empty_log.ensures.counted.io c.in_err-empty_log.ensures.refused))

pub returns-clause-called : goal.returns-clause-called
returns-clause-called g c = last_of_two _ _ c.put_page.result c.put_page.ensures.refused c.put_page.ensures.counted.io

use Rattle.std.proofs.Common.{refl, ◌∙◌}
use Rattle.std.proofs.lemmas.Result.{on_ok_weaker}
use Rattle.engine.proofs.NewFiles.{written_whole}
use Rattle.engine.proofs.NewFileCrashes.{not_cut, not_written, written, empty_flat, is_uncut, is_unwritten, is_written}
use Rattle.engine.proofs.CountedCalls.{call_refused, last_counted}
use Rattle.engine.proofs.creating.put_page.Goals as goal

pub returns-clause-made : goal.returns-clause-made
returns-clause-made g c = λ told.
    let cuts = c.in_ok-cut.ensures.done told in
    let told_cut = c.cut.ensures.tells ∙ told in
    let writes = c.in_ok-write_at.ensures.done told_cut in
    on_ok_weaker c.sync.result (λ syncs. written_whole _ _ _ _ _ cuts writes syncs) (c.sync.ensures.done (c.write_at.ensures.tells ∙ told_cut))

pub returns-in_err-cut-clause-crash : goal.returns-in_err-cut-clause-crash
returns-in_err-cut-clause-crash g c = λ size served empty told synced blank. not_cut _ (empty_flat size _ served empty) _ synced blank _ (c.in_err-cut.ensures.failed told)

pub returns-in_err-write_at-clause-crash : goal.returns-in_err-write_at-clause-crash
returns-in_err-write_at-clause-crash g c = λ size served empty told synced blank.
    not_written _ (empty_flat size _ served empty) _ synced blank _ (c.in_ok-cut.ensures.done told) _ (c.in_err-write_at.ensures.failed (c.cut.ensures.tells ∙ told))

pub returns-clause-crash : goal.returns-clause-crash
returns-clause-crash g c = λ size served empty told synced blank.
    let told_cut = c.cut.ensures.tells ∙ told in
    let told_written = c.write_at.ensures.tells ∙ told_cut in
    written _ (empty_flat size _ served empty) _ synced blank _ (c.in_ok-cut.ensures.done told) c.sync.result _ _ (c.in_ok-write_at.ensures.done told_cut) (c.sync.ensures.done told_written) (c.sync.ensures.failed told_written)

pub returns-in_err-cut-clause-left : goal.returns-in_err-cut-clause-left
returns-in_err-cut-clause-left g c = λ size served empty told blank. is_uncut _ _ blank _ (c.in_err-cut.ensures.failed told)

pub returns-in_err-write_at-clause-left : goal.returns-in_err-write_at-clause-left
returns-in_err-write_at-clause-left g c = λ size served empty told blank.
    is_unwritten _ (empty_flat size _ served empty) _ _ (c.in_ok-cut.ensures.done told) _ (c.in_err-write_at.ensures.failed (c.cut.ensures.tells ∙ told))

pub returns-clause-left : goal.returns-clause-left
returns-clause-left g c = λ size served empty told blank.
    let told_cut = c.cut.ensures.tells ∙ told in
    let told_written = c.write_at.ensures.tells ∙ told_cut in
    is_written _ (empty_flat size _ served empty) _ _ (c.in_ok-cut.ensures.done told) c.sync.result _ _ (c.in_ok-write_at.ensures.done told_cut) (c.sync.ensures.done told_written) (c.sync.ensures.failed told_written)

pub returns-in_err-cut-clause-counted : goal.returns-in_err-cut-clause-counted
returns-in_err-cut-clause-counted g c = call_refused _ c.in_err-cut.field-0.0 _ _ _ c.from_residual.ensures.1 refl c.in_err-cut.ensures.count

pub returns-in_err-write_at-clause-counted : goal.returns-in_err-write_at-clause-counted
returns-in_err-write_at-clause-counted g c = call_refused _ c.in_err-write_at.field-0.0 _ _ _ c.from_residual-in_err-write_at.ensures.1 c.in_ok-cut.ensures.count c.in_err-write_at.ensures.count

pub returns-clause-counted : goal.returns-clause-counted
returns-clause-counted g c = last_counted c.sync.result _ _ _ (c.in_ok-write_at.ensures.count ∙ c.in_ok-cut.ensures.count) c.sync.ensures.count

use Rattle.std.proofs.Common.{◌≡◌, ◌∙◌, sym}
use Rattle.std.proofs.lemmas.Bool.{eqb-true}
use Rattle.wal.specs.LogState.{state_of}
use Rattle.wal_checkpoint.proofs.Emptying.{emptying, emptying_refused, meanwhile_nothing, truncate_emptied}
use Rattle.wal_checkpoint.proofs.checkpoints.cut_to_nothing.Goals as goal

pub returns-then-not-is_all_copied-clause-crash : goal.returns-then-not-is_all_copied-clause-crash
returns-then-not-is_all_copied-clause-crash g c may = meanwhile_nothing c.args.log.now may

pub returns-clause-done : goal.returns-clause-done
returns-clause-done g c may =
    let all : (state_of c.args.log.now).copied ≡ (state_of c.args.log.now).frames = eqb-true _ _ (sym c.is_all_copied.ensures ∙ c.if-not-is_all_copied.false) in
    truncate_emptied c.args.log.now c.truncate.new.self c.truncate.result may all c.truncate.ensures.same c.truncate.ensures.known (c.truncate.ensures.done may.told.log)

pub returns-clause-crash : goal.returns-clause-crash
returns-clause-crash g c may =
    let all : (state_of c.args.log.now).copied ≡ (state_of c.args.log.now).frames = eqb-true _ _ (sym c.is_all_copied.ensures ∙ c.if-not-is_all_copied.false) in
    emptying c.args.log.now c.truncate.new.self may all c.truncate.ensures.same.db (c.truncate.ensures.crash may.told.whole may.told.log) (c.truncate.ensures.left may.told.whole may.told.log)

pub returns-clause-refused : goal.returns-clause-refused
returns-clause-refused g c = emptying_refused c.args.log.now (state_of c.args.log.now).has_failed _ _ _ _ _ c.truncate.result (λ may. may.told.whole) c.truncate.ensures.refused

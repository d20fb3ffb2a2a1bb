use Rattle.std.proofs.Common.{rules, subst, sym}
use Rattle.std.specs.Prelude.{IsTrue}
use Rattle.pager_older.proofs.VersionLemmas.{fails_either, fails_leaving, writes_leaving}
use Rattle.pager_older.proofs.writing.write_versions.Goals as goal

pub returns-in_err-write_at-clause-failed : goal.returns-in_err-write_at-clause-failed
returns-in_err-write_at-clause-failed g c told =
    let either = fails_either _ _ (c.requires told) (c.in_err-write_at.ensures.failed told) in
    search (rules, either)

pub returns-in_err-write_at-clause-crash : goal.returns-in_err-write_at-clause-crash
returns-in_err-write_at-clause-crash g c told synced = fails_leaving _ synced (c.requires told) _ (c.in_err-write_at.ensures.failed told)

pub returns-clause-crash : goal.returns-clause-crash
returns-clause-crash g c told synced =
    let told_then = subst IsTrue (sym c.in_ok-write_at.ensures.tells) told in
    writes_leaving _ synced (c.requires told) c.sync.result _ _ (c.in_ok-write_at.ensures.done told) (c.sync.ensures.done told_then) (c.sync.ensures.failed told_then)

use Rattle.std.proofs.Common.{◌≤◌, ◌∙◌, ℕ, Bool, List, length, subst, sym}
use Rattle.disk.specs.File.{File, IsSynced}
use Rattle.std.specs.Prelude.{IsTrue, Ok}
use Rattle.engine.specs.Converting.{HoldsAlone, TellsConverted}
use Rattle.engine.proofs.ConvertedFiles.{both_read, both_synced_only, db_synced_only, not_left, refused_handed, refused_outside, turned_read, versions_long}
use Rattle.engine.proofs.converting.convert.Goals as goal

pub returns-in_err-settle-clause-crash : goal.returns-in_err-settle-clause-crash
returns-in_err-settle-clause-crash g c database told_db told_log synced alone empty =
    db_synced_only database (g.D.Disk.file c.args.db.now) (g.D.Disk.file c.args.log.now) synced alone (g.D.Disk.file c.settle.new.file) (c.settle.ensures.crash told_db)

pub returns-in_err-settle-2-clause-crash : goal.returns-in_err-settle-2-clause-crash
returns-in_err-settle-2-clause-crash g c database told_db told_log synced alone empty =
    both_synced_only database (g.D.Disk.file c.args.db.now) (g.D.Disk.file c.args.log.now) synced alone (g.D.Disk.file c.settle.new.file) (g.D.Disk.file c.settle-2.new.file) (c.settle.ensures.crash told_db) (c.settle-2.ensures.crash told_log)

pub returns-in_err-is_convertible-clause-crash : goal.returns-in_err-is_convertible-clause-crash
returns-in_err-is_convertible-clause-crash g c database told_db told_log synced alone empty =
    both_read database (g.D.Disk.file c.args.db.now) (g.D.Disk.file c.args.log.now) synced alone (g.D.Disk.file c.settle.new.file) (g.D.Disk.file c.settle-2.new.file) _ _ (c.settle.ensures.crash told_db) (c.settle-2.ensures.crash told_log)
    (c.in_err-is_convertible.ensures.db_kept.same (subst IsTrue (sym c.settle.ensures.told) told_db)) (c.in_err-is_convertible.ensures.log_kept.same (subst IsTrue (sym c.settle-2.ensures.told) told_log))

pub returns-then-not-branch-clause-crash : goal.returns-then-not-branch-clause-crash
returns-then-not-branch-clause-crash g c database told_db told_log synced alone empty =
    both_read database (g.D.Disk.file c.args.db.now) (g.D.Disk.file c.args.log.now) synced alone (g.D.Disk.file c.settle.new.file) (g.D.Disk.file c.settle-2.new.file) _ _ (c.settle.ensures.crash told_db) (c.settle-2.ensures.crash told_log)
    (c.in_ok-is_convertible.ensures.db_kept.same (subst IsTrue (sym c.settle.ensures.told) told_db)) (c.in_ok-is_convertible.ensures.log_kept.same (subst IsTrue (sym c.settle-2.ensures.told) told_log))

pub returns-in_err-is_convertible-clause-converts : goal.returns-in_err-is_convertible-clause-converts
returns-in_err-is_convertible-clause-converts g c database told_db told_log alone empty none =
    let db_same = c.settle.ensures.same told_db in
    let log_same = c.settle-2.ensures.same told_log in
    let why = c.in_err-is_convertible.ensures.told (subst IsTrue (sym c.settle.ensures.told) told_db) (subst IsTrue (sym c.settle-2.ensures.told) told_log) in
    refused_handed c.from_residual-in_err-is_convertible.result c.in_err-is_convertible.field-0.0 c.from_residual-in_err-is_convertible.ensures.1
    (refused_outside _ database (subst (λ (b : List ℕ). HoldsAlone b database) (sym db_same) alone) _ c.args.journal c.in_err-is_convertible.field-0.0 none (log_same ∙ empty) why)

pub returns-then-not-branch-clause-converts : goal.returns-then-not-branch-clause-converts
returns-then-not-branch-clause-converts g c database told_db told_log alone empty none =
    let db_same = c.settle.ensures.same told_db in
    let told = c.in_ok-is_convertible.ensures.told (subst IsTrue (sym c.settle.ensures.told) told_db) (subst IsTrue (sym c.settle-2.ensures.told) told_log) in
    absurd (not_left _ database (subst (λ (b : List ℕ). HoldsAlone b database) (sym db_same) alone) (g.D.Disk.file c.settle-2.new.file).content c.args.journal
    (subst (λ (b : Bool). TellsConverted (g.D.Disk.file c.settle.new.file).content (g.D.Disk.file c.settle-2.new.file).content c.args.journal (Ok b)) c.if-not-branch.true told))

pub write_versions-requires : goal.write_versions-requires
write_versions-requires g c told =
    let kept = c.in_ok-is_convertible.ensures.db_kept in
    let told_then = subst IsTrue kept.tells_same told in
    let older = c.in_ok-is_convertible.ensures.older told_then c.if-not-branch.false in
    subst (λ (f : File). 20 ≤ length f.content) (sym (kept.same told_then)) (versions_long _ older)

pub returns-in_err-write_versions-clause-crash : goal.returns-in_err-write_versions-clause-crash
returns-in_err-write_versions-clause-crash g c database told_db told_log synced alone empty =
    let then_db = subst IsTrue (sym c.settle.ensures.told) told_db in
    let then_log = subst IsTrue (sym c.settle-2.ensures.told) told_log in
    let kept = c.in_ok-is_convertible.ensures.db_kept in
    let same_db = kept.same then_db in
    turned_read database (g.D.Disk.file c.args.db.now) (g.D.Disk.file c.args.log.now) synced alone (g.D.Disk.file c.settle.new.file) (g.D.Disk.file c.settle-2.new.file) (g.D.Disk.file c.is_convertible.new.db) _ (g.D.Disk.file c.write_versions.new.db)
    (c.settle.ensures.crash told_db) (c.settle-2.ensures.crash told_log) (c.settle.ensures.same told_db) (c.in_ok-settle-2.ensures.synced told_log) (c.settle-2.ensures.same told_log ∙ empty)
    same_db (c.in_ok-is_convertible.ensures.log_kept.same then_log)
    (c.write_versions.ensures.crash (subst IsTrue (sym kept.tells_same) then_db) (subst IsSynced (sym same_db) (c.in_ok-settle.ensures.synced told_db)))

pub returns-clause-crash : goal.returns-clause-crash
returns-clause-crash g c database told_db told_log synced alone empty =
    let then_db = subst IsTrue (sym c.settle.ensures.told) told_db in
    let then_log = subst IsTrue (sym c.settle-2.ensures.told) told_log in
    let kept = c.in_ok-is_convertible.ensures.db_kept in
    let same_db = kept.same then_db in
    turned_read database (g.D.Disk.file c.args.db.now) (g.D.Disk.file c.args.log.now) synced alone (g.D.Disk.file c.settle.new.file) (g.D.Disk.file c.settle-2.new.file) (g.D.Disk.file c.is_convertible.new.db) _ (g.D.Disk.file c.write_versions.new.db)
    (c.settle.ensures.crash told_db) (c.settle-2.ensures.crash told_log) (c.settle.ensures.same told_db) (c.in_ok-settle-2.ensures.synced told_log) (c.settle-2.ensures.same told_log ∙ empty)
    same_db (c.in_ok-is_convertible.ensures.log_kept.same then_log)
    (c.write_versions.ensures.crash (subst IsTrue (sym kept.tells_same) then_db) (subst IsSynced (sym same_db) (c.in_ok-settle.ensures.synced told_db)))

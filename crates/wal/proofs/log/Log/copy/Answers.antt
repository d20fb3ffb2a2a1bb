use Rattle.std.proofs.Common.{◌≡◌, inl, ◌∙◌, ◌≤◌, ℕ, true, false, sym, subst, refl}
use Rattle.std.specs.Prelude.{IsTrue}
use Rattle.disk.specs.File.{File, IsSynced}
use Rattle.wal.specs.Alone.{HasNewest, StandsAlone}
use Rattle.wal.specs.Committed.{frames_under}
use Rattle.wal.specs.LogState.{state_in}
use Rattle.wal.specs.Stale.{HasCleanTail}
use Rattle.wal.specs.Stands.{LogStands, header_where}
use Rattle.wal.proofs.Shown.{copied_known, is_missing, meanwhile_known, missing_refused, seen_bounds, shown_nothing, stands_alone}
use Rattle.wal.proofs.log.Log.copy.Goals as goal

pub returns-then-not-sees_uncopied-clause-crash : goal.returns-then-not-sees_uncopied-clause-crash
returns-then-not-sees_uncopied-clause-crash g c ok told told_log synced =
    shown_nothing (state_in c.args.self.now.state) c.args.target (g.D.Disk.file c.args.self.now.log).content (g.D.Disk.file c.args.self.now.db) synced

pub returns-in_err-check_there-clause-crash : goal.returns-in_err-check_there-clause-crash
returns-in_err-check_there-clause-crash g c ok told told_log synced =
    shown_nothing (state_in c.args.self.now.state) c.args.target (g.D.Disk.file c.args.self.now.log).content (g.D.Disk.file c.args.self.now.db) synced

pub returns-in_err-check_there-clause-refused : goal.returns-in_err-check_there-clause-refused
returns-in_err-check_there-clause-refused g c =
    let s = c.args.self.now.state in
    let lacks = c.in_err-check_there.ensures.refused in
    let seen = seen_bounds (state_in s) c.args.target (sym c.sees_uncopied.ensures ∙ c.if-not-sees_uncopied.false) in
    missing_refused c.from_residual.result c.in_err-check_there.field-0.0 s.is_failed _ _ lacks.0 c.from_residual.ensures.1 lacks.1 (refl, refl)
    (λ told told_log. is_missing s c.args.target (g.D.Disk.file c.args.self.now.db).content (g.D.Disk.file c.args.self.now.log).content c.copied_size-size.result lacks.0 (c.args.self.now.log_there c.if-self.false told_log) seen.1
    c.copied_size-size.ensures.is c.copied_size-size.ensures.few (c.args.self.now.db_there c.if-self.false told) lacks.2 lacks.3 lacks.4 lacks.5)

pub returns-in_err-page-clause-crash : goal.returns-in_err-page-clause-crash
returns-in_err-page-clause-crash g c ok told told_log synced =
    shown_nothing (state_in c.args.self.now.state) c.args.target (g.D.Disk.file c.args.self.now.log).content (g.D.Disk.file c.args.self.now.db) synced

pub copy_frames-requires-clause-copied : goal.copy_frames-requires-clause-copied
copy_frames-requires-clause-copied g c told told_log = c.args.self.now.db_pages c.if-self.false told told_log

pub copy_frames-requires-clause-there : goal.copy_frames-requires-clause-there
copy_frames-requires-clause-there g c number low high none =
    c.in_ok-check_there.ensures.there number low (subst (λ (n : ℕ). number ≤ n) (sym c.copied_size-size.ensures.is) high) none

pub returns-in_err-copy_frames-clause-crash : goal.returns-in_err-copy_frames-clause-crash
returns-in_err-copy_frames-clause-crash g c ok told told_log synced =
    meanwhile_known (state_in c.args.self.now.state) true c.args.target (g.D.Disk.file c.args.self.now.log).content (g.D.Disk.file c.args.self.now.db) (g.D.Disk.file c.copy_frames.new.db)
    (c.copy_frames.ensures.crash told told_log synced)

pub invariant_of-self-7 : goal.invariant_of-self-7
invariant_of-self-7 g c =
    let s = c.args.self.now.state in
    let log = g.D.Disk.file c.args.self.now.log in
    let new_log = g.D.Disk.file c.copy_frames.new.log in
    let old = (g.D.Disk.file c.args.self.now.db).content in
    let new = (g.D.Disk.file c.copy_frames.new.db).content in
    let before = λ (now : IsTrue (g.D.Disk.tells c.copy_frames.new.db)). (let told : IsTrue (g.D.Disk.tells c.args.self.now.db) = sym c.copy_frames.ensures.kept.0 ∙ now in told) in
    let before_log = λ (now : IsTrue (g.D.Disk.tells c.copy_frames.new.log)). (let told : IsTrue (g.D.Disk.tells c.args.self.now.log) = sym c.copy_frames.ensures.kept.1.tells_same ∙ now in told) in
    let same = λ (now : IsTrue (g.D.Disk.tells c.copy_frames.new.log)). (let is : log ≡ new_log = sym (c.copy_frames.ensures.kept.1.same (before_log now)) in is) in
    record {
      db_there = λ ok now. c.copied_len-len.ensures.is ∙ sym (c.in_ok-copy_frames.ensures.synced (before now)).1;
      db_copied = λ ok now now_log some all.
          subst (λ (f : File). StandsAlone new s.page_size (frames_under (header_where s.is_begun s.header) f.content s.mark) s.size) (same now_log)
          (stands_alone (state_in s) c.args.target log.content old new (copied_known (state_in s) true c.args.target log.content old new (c.in_ok-copy_frames.ensures.done (before now) (before_log now_log))) all);
      db_pages = λ ok now now_log number low high within.
          subst (λ (f : File). HasNewest new s.page_size (frames_under (header_where s.is_begun s.header) f.content c.args.target.mark) number) (same now_log)
          (λ k newest. (c.in_ok-copy_frames.ensures.done (before now) (before_log now_log)).stands number _ low (subst (λ (n : ℕ). number ≤ n) c.copied_size-size.ensures.is high) (inl (k, newest, refl)));
      log_clean = λ ok now clean. subst (λ (f : File). HasCleanTail s.header s.is_begun s.mark f.content) (same now) (c.args.self.now.log_clean c.if-self.false (before_log now) clean);
      log_synced = λ ok now. subst IsSynced (same now) (c.args.self.now.log_synced c.if-self.false (before_log now));
      log_there = λ ok now. subst (λ (f : File). LogStands s.header s.is_begun s.mark s.sum s.index f.content) (same now) (c.args.self.now.log_there c.if-self.false (before_log now));
    }

pub returns-clause-done : goal.returns-clause-done
returns-clause-done g c told told_log =
    let s = c.args.self.now.state in
    let sees = sym c.sees_uncopied.ensures ∙ c.if-not-sees_uncopied.false in
    record {
      copied = λ is. copied_known (state_in s) true c.args.target (g.D.Disk.file c.args.self.now.log).content (g.D.Disk.file c.args.self.now.db).content (g.D.Disk.file c.copy_frames.new.db).content (c.in_ok-copy_frames.ensures.done told told_log);
      synced = λ is. (c.in_ok-copy_frames.ensures.synced told).0;
      same = λ none. absurd (let bad : true ≡ false = sym sees ∙ none in cc);
    }

pub returns-clause-crash : goal.returns-clause-crash
returns-clause-crash g c ok told told_log synced =
    meanwhile_known (state_in c.args.self.now.state) true c.args.target (g.D.Disk.file c.args.self.now.log).content (g.D.Disk.file c.args.self.now.db) (g.D.Disk.file c.copy_frames.new.db)
    (c.copy_frames.ensures.crash told told_log synced)

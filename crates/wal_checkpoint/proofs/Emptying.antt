-- A log that begins anew, or is cut to nothing, once all its frames are copied.
use Rattle.std.proofs.Common.{◌≡◌, inl, inr, ℕ, List, [], Bool, true, false, refl, sym, ◌∙◌, ap, subst, arith}
use Rattle.std.specs.Prelude.{None, Result, Ok, Err, IfErr, MatchResult, OnOk, if◌then◌else◌, ◌==◌}
use Rattle.std.proofs.lemmas.Bool.{cases_lt, eq-eqb}
use Rattle.disk.specs.declared.device.Disk.{Ghosts}
use Rattle.disk.specs.File.{File, Version, versions, IsLeft, IsSynced, IsContentLeft, Always}
use Rattle.disk.proofs.Current.{synced_left}
use Rattle.disk.proofs.Moments.{always_weaker, stays}
use Rattle.sqlval.specs.declared.fault.Fault.{Fault}
use Rattle.sqlval.specs.declared.fault.Fault.TheVariants.{Failed, Io}
use Rattle.wal_frame.specs.declared.log_header.LogHeader.{LogHeader}
use Rattle.wal.specs.Committed.{HasCommits, frames_under}
use Rattle.wal.specs.Commits.{KeepsDisks}
use Rattle.wal.specs.LogState.{LogState, db_of, header_of, log_of, state_of}
use Rattle.wal.specs.Refusals.{IsCutRefusal}
use Rattle.wal.specs.Restarts.{IsRestarted, IsStateAnew, IsStateTruncated, IsTruncated, LeavesOrNone, is_copied, restarted, truncated}
use Rattle.wal.specs.Stands.{header_where}
use Rattle.wal.specs.declared.log.Log.{Log}
use Rattle.pager.specs.Views.{Tells, newest_view}
use Rattle.wal_checkpoint.specs.Emptied.{CountOn, Emptied, EmptiedMeanwhile, IsRefusedEmptying, LeavesCounting, MayEmpty}
use Rattle.wal_checkpoint.proofs.Passing.{left_is, synced_as}

none_under : (b : Bool) (h : LogHeader) (log : List ℕ) → frames_under (header_where b h) log 0 ≡ []
none_under true h log = refl
none_under false h log = refl

module _ {D : Type 0} {g : Ghosts D} (old : Log D g) where
  abbrev log : File
  log = g.file (log_of old)

  -- where all frames are copied, none count on as well
  none_count : MayEmpty old → (state_of old).copied ≡ (state_of old).frames → CountOn old []
  none_count may all = elim (cases_lt 0 (state_of old).frames) [
    | inl some ↦ inr (refl, old.db_copied may.told.whole may.told.db may.told.log some all)
    | inr few ↦
        (let zero : (state_of old).frames ≡ 0 = omega (arith, few) in
        inl (sym (ap (frames_under (header_of (state_of old)) log.content) zero ∙ none_under old.state.is_begun old.state.header log.content)))
  ]

  same_counts : MayEmpty old → (vs : List Version) → vs ≡ versions log → LeavesCounting old vs
  same_counts may vs is c left = (
    (newest_view old).frames,
    subst (λ (bytes : List ℕ). HasCommits (state_of old).page_size bytes (newest_view old).frames) (sym (left_is log may.log_synced c (subst (λ (l : List Version). IsLeft l c) is left))) may.commits,
    inl refl,
  )

  leaves_counting : MayEmpty old → (state_of old).copied ≡ (state_of old).frames → (vs : List Version) → LeavesOrNone (state_of old).page_size (newest_view old).frames vs → LeavesCounting old vs
  leaves_counting may all vs leaves c left = elim (leaves c left) [
    | inl has ↦ ((newest_view old).frames, has, inl refl)
    | inr none ↦ ([], none, none_count may all)
  ]

  -- the log as it is
  pub emptied_nothing : MayEmpty old → Emptied old old
  emptied_nothing may = record { told = may.told; page_size = refl; size = refl; frames = inl refl; log_synced = may.log_synced; commits = may.commits }

  pub meanwhile_nothing : MayEmpty old → EmptiedMeanwhile old old
  meanwhile_nothing may = record {
    shown = stays (LeavesCounting old) log log refl (same_counts may (versions log) refl);
    left = synced_left log may.log_synced;
    db = refl;
  }

  module _ (new : Log D g) where
    abbrev new_log : File
    new_log = g.file (log_of new)

    pub emptying : MayEmpty old → (state_of old).copied ≡ (state_of old).frames → db_of new ≡ db_of old → Always log new_log (LeavesOrNone (state_of old).page_size (newest_view old).frames) → IsContentLeft new_log → EmptiedMeanwhile old new
    emptying may all same leaves left = record {
      shown = always_weaker log new_log (LeavesCounting old) (LeavesOrNone (state_of old).page_size (newest_view old).frames) (leaves_counting may all) leaves;
      left = left;
      db = same;
    }

    tells_on : MayEmpty old → KeepsDisks g.tells g.failures (db_of old) (db_of new) (log_of old) (log_of new) → (state_of new).has_failed ≡ (state_of old).has_failed → Tells new
    tells_on may keeps failed = record {
      db = ap g.tells keeps.db ∙ may.told.db;
      log = keeps.tells_same ∙ may.told.log;
      whole = failed ∙ may.told.whole;
    }

    -- a log without frames
    emptied_of : MayEmpty old → (state_of old).copied ≡ (state_of old).frames → KeepsDisks g.tells g.failures (db_of old) (db_of new) (log_of old) (log_of new)
        → (state_of new).has_failed ≡ (state_of old).has_failed → (state_of new).page_size ≡ (state_of old).page_size → (state_of new).size ≡ (state_of old).size → (state_of new).frames ≡ 0
        → HasCommits (state_of old).page_size new_log.content [] → IsSynced new_log → Emptied old new
    emptied_of may all keeps failed page_size size zero commits synced =
        let none : (newest_view new).frames ≡ [] = ap (frames_under (header_of (state_of new)) new_log.content) zero ∙ none_under new.state.is_begun new.state.header new_log.content in
        record {
          told = tells_on may keeps failed;
          page_size = page_size;
          size = size;
          frames = subst (CountOn old) (sym none) (none_count may all);
          log_synced = synced;
          commits = subst (HasCommits (state_of new).page_size new_log.content) (sym none) (subst (λ (n : ℕ). HasCommits n new_log.content []) (sym page_size) commits);
        }

    -- a log that nothing was done to
    emptied_same : MayEmpty old → KeepsDisks g.tells g.failures (db_of old) (db_of new) (log_of old) (log_of new) → state_of new ≡ state_of old → new_log ≡ log → Emptied old new
    emptied_same may keeps state same =
        let frames : (newest_view new).frames ≡ (newest_view old).frames =
        ap (λ (s : LogState). frames_under (header_of s) new_log.content s.frames) state ∙ ap (λ (f : File). frames_under (header_of (state_of old)) f.content (state_of old).frames) same in
        record {
          told = tells_on may keeps (ap (λ (s : LogState). s.has_failed) state);
          page_size = ap (λ (s : LogState). s.page_size) state;
          size = ap (λ (s : LogState). s.size) state;
          frames = inl frames;
          log_synced = synced_as log new_log same may.log_synced;
          commits =
              subst (λ (n : ℕ). HasCommits n new_log.content (newest_view new).frames) (sym (ap (λ (s : LogState). s.page_size) state))
              (subst (λ (f : File). HasCommits (state_of old).page_size f.content (newest_view new).frames) (sym same)
              (subst (HasCommits (state_of old).page_size log.content) (sym frames) may.commits));
        }

    anew_at : (b : Bool) → is_copied (state_of old) ≡ b → MayEmpty old → (state_of old).copied ≡ (state_of old).frames → KeepsDisks g.tells g.failures (db_of old) (db_of new) (log_of old) (log_of new)
        → state_of new ≡ (if b then restarted (state_of old) else state_of old) → IsRestarted (state_of old) log new_log → Emptied old new
    anew_at true is may all keeps state restarts =
        emptied_of may all keeps (ap (λ (s : LogState). s.has_failed) state) (ap (λ (s : LogState). s.page_size) state) (ap (λ (s : LogState). s.size) state) (ap (λ (s : LogState). s.frames) state)
        (restarts.anew is).commits (restarts.anew is).synced
    anew_at false is may all keeps state restarts = emptied_same may keeps state (restarts.same is)

    pub restart_emptied : (result : Result (Unit {0}) Fault) → MayEmpty old → (state_of old).copied ≡ (state_of old).frames → KeepsDisks g.tells g.failures (db_of old) (db_of new) (log_of old) (log_of new)
        → IsStateAnew result (state_of old) (state_of new) → OnOk result (IsRestarted (state_of old) log new_log) → OnOk result (Emptied old new)
    restart_emptied (Ok u) may all keeps state restarts = anew_at (is_copied (state_of old)) refl may all keeps state restarts
    restart_emptied (Err e) may all keeps state restarts = tt

    cut_off : (state_of old).copied ≡ (state_of old).frames → state_of new ≡ (if (state_of old).copied == (state_of old).frames then truncated (state_of old) else state_of old) → state_of new ≡ truncated (state_of old)
    cut_off all state = state ∙ ap (λ (b : Bool). if b then truncated (state_of old) else state_of old) (eq-eqb (state_of old).copied (state_of old).frames all)

    no_commits : (page_size : ℕ) (bytes : List ℕ) → bytes ≡ [] → HasCommits page_size bytes []
    no_commits page_size bytes is = subst (λ (l : List ℕ). HasCommits page_size l []) (sym is) (record { header = None; header_is = refl; committed = refl; frames_are = refl })

    pub truncate_emptied : (result : Result (Unit {0}) Fault) → MayEmpty old → (state_of old).copied ≡ (state_of old).frames → KeepsDisks g.tells g.failures (db_of old) (db_of new) (log_of old) (log_of new)
        → IsStateTruncated result (state_of old) (state_of new) → OnOk result (IsTruncated (state_of old) log new_log) → OnOk result (Emptied old new)
    truncate_emptied (Ok u) may all keeps known truncates =
        let state = cut_off all known in
        emptied_of may all keeps (ap (λ (s : LogState). s.has_failed) state) (ap (λ (s : LogState). s.page_size) state) (ap (λ (s : LogState). s.size) state) (ap (λ (s : LogState). s.frames) state)
        (no_commits (state_of old).page_size new_log.content (truncates.content all)) (truncates.synced all)
    truncate_emptied (Err e) may all keeps known truncates = tt

  -- why it is refused
  pub emptying_refused : (has_failed : Bool) (P : Unit {0} → Type 0) (d e : D) (m n : ℕ) (result : Result (Unit {0}) Fault) → (MayEmpty old → has_failed ≡ false) → MatchResult result P (IsCutRefusal has_failed d e m n) → IfErr result (IsRefusedEmptying old)
  emptying_refused has_failed P d e m n (Ok u) whole is = tt
  emptying_refused has_failed P d e m n (Err f) whole is = (λ memory. subst (IsCutRefusal has_failed d e m n) memory is, λ may. by_fault f is (whole may))
    where
      by_fault : (f : Fault) → IsCutRefusal has_failed d e m n f → has_failed ≡ false → f ≡ Io
      by_fault Io is whole = refl
      by_fault Failed is whole = absurd (let bad : true ≡ false = sym is.1 ∙ whole in cc)
      by_fault _ is whole = absurd is

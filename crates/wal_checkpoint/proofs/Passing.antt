-- Frames that are copied: both files show what they showed.
use Rattle.std.proofs.Common.{◌≡◌, inl, inr, ◌<◌, ◌≤◌, ℕ, List, [], ◌∷◌, Bool, true, false, length, refl, sym, ◌∙◌, ap, subst, arith}
use Rattle.std.specs.Prelude.{IsTrue, Result, Ok, Err, OnOk, IfErr, if◌then◌else◌, ◌==◌}
use Rattle.std.proofs.lemmas.Bool.{cases_Bool, eqb-true}
use Rattle.disk.specs.declared.device.Disk.{Ghosts}
use Rattle.disk.specs.File.{File, Version, whole, versions, IsLeft, IsSynced, IsContentLeft, OnDb}
use Rattle.disk.proofs.Current.{synced_left}
use Rattle.disk.proofs.Left.{left_synced}
use Rattle.disk.proofs.Moments.{alone, always_end, always_weaker}
use Rattle.sqlval.specs.declared.fault.Fault.{Fault}
use Rattle.sqlval.specs.declared.fault.Fault.TheVariants.{Memory, Io, Failed, Damaged}
use Rattle.sqlval.specs.declared.fault.Damage.TheVariants.{Size}
use Rattle.wal_frame.specs.declared.log_header.LogHeader.{LogHeader}
use Rattle.wal_frame.specs.Accepted.{KeepsFile}
use Rattle.wal_frame.specs.Written.{Framed}
use Rattle.wal.specs.Committed.{HasCommits, frames_under}
use Rattle.wal.specs.Commits.{after_refusal}
use Rattle.wal.specs.Copies.{after_copying, sees_uncopied, Copies, CopiesMeanwhile, IsCopyRefusal, IsMissing, IsStateCopied, LeavesShown, ShowsStill}
use Rattle.wal.specs.LogState.{LogState, db_of, header_of, log_of, seen_by, size_of, state_of}
use Rattle.wal.specs.Stands.{header_where}
use Rattle.wal.specs.View.{IsPageIn}
use Rattle.wal.specs.declared.log.Log.{Log}
use Rattle.wal.specs.declared.log.Snapshot.{Snapshot}
use Rattle.wal.proofs.FrameLists.{framed_len}
use Rattle.pager.specs.Views.{Tells, newest_view, view_at}
use Rattle.wal_checkpoint.specs.Shown.{Checkpoints, IsCheckpointRefusal, IsRefusedCopying, LeaveShown, MayCopy, Meanwhile, ShowsNewest, ShowsSame}

-- a crash leaves a synced file as it is
pub left_is : (file : File) → IsSynced file → (c : List ℕ) → IsLeft (versions file) c → c ≡ file.content
left_is file synced c left = left_synced (whole file.content) c (subst (λ (vs : List Version). IsLeft vs c) (alone file synced) left)

pub synced_as : (old new : File) → new ≡ old → IsSynced old → IsSynced new
synced_as old new same = subst IsSynced (sym same)

only_copied : (b : Bool) (known : LogState) (m : ℕ) → (if b then record known { copied = m } else known) ≡ record known { copied = (if b then record known { copied = m } else known).copied }
only_copied true known m = refl
only_copied false known m = refl

-- a copying changes the count of copied frames alone
pub copied_alone : (known : LogState) (target : Snapshot) → after_copying known target ≡ record known { copied = (after_copying known target).copied }
copied_alone known target = only_copied (sees_uncopied known target) known (seen_by target)

kept_header : (known : LogState) (fault : Fault) → (after_refusal known fault).header ≡ known.header
kept_header known Io = refl
kept_header known _ = refl

-- the header is as it was, refused or not
pub copied_header : (result : Result (Unit {0}) Fault) (target : Snapshot) (old new : LogState) → IsStateCopied result target old new → new.header ≡ old.header
copied_header (Ok u) target old new is = ap (λ (s : LogState). s.header) (is ∙ copied_alone old target)
copied_header (Err e) target old new is = ap (λ (s : LogState). s.header) is ∙ kept_header old e

some_under : (b : Bool) (h : LogHeader) (log : List ℕ) (n : ℕ) → (b ≡ false → n ≡ 0) → 0 < n → frames_under (header_where b h) log n ≡ [] → ⊥
some_under true h log n none some is = omega (arith, some, framed_len h log n, ap length is)
some_under false h log n none some is = omega (arith, some, none refl)

module _ {D : Type 0} {g : Ghosts D} (old : Log D g) (target : Snapshot) where
  abbrev db : File
  db = g.file (db_of old)

  abbrev log : File
  log = g.file (log_of old)

  -- a log that counts frames has them
  pub has_some : Tells old → 0 < (state_of old).frames → (newest_view old).frames ≡ [] → ⊥
  has_some told some is = some_under old.state.is_begun old.state.header log.content old.state.mark (old.log_there told.whole told.log).none some is

  -- the files as they are
  pub shows_itself : ShowsNewest old target db.content (newest_view old).frames
  shows_itself = record {
    same = record { page_size = refl; size = refl; pages = λ number bytes first last has. has };
    front = inl refl;
    frames_are = inl (refl, λ none. refl);
  }

  pub nothing_done : MayCopy old target → Checkpoints old target false old
  nothing_done may = record {
    told = may.told;
    page_size = refl;
    size = refl;
    shows = shows_itself;
    frames = λ here. refl;
    others = λ here snapshot sees within sized. record { page_size = refl; size = refl; pages = λ number bytes first last has. has };
    db_synced = may.db_synced;
    log_synced = may.log_synced;
    commits = may.commits;
  }

  log_commits : MayCopy old target → (c : List ℕ) → IsLeft (versions log) c → HasCommits (state_of old).page_size c (newest_view old).frames
  log_commits may c left = subst (λ (bytes : List ℕ). HasCommits (state_of old).page_size bytes (newest_view old).frames) (sym (left_is log may.log_synced c left)) may.commits

  pub nothing_left : MayCopy old target → Meanwhile old target old
  nothing_left may = record {
    shown = (
      [],
      (
        (λ c d left left'. (
          (newest_view old).frames,
          log_commits may d left',
          subst (λ (bytes : List ℕ). ShowsNewest old target bytes (newest_view old).frames) (sym (left_is db may.db_synced c left)) shows_itself,
        )),
        refl,
        refl,
      ),
    );
    db_left = synced_left db may.db_synced;
    log_left = synced_left log may.log_synced;
  }

  -- a database file that shows what it showed
  shows_still : MayCopy old target → ((newest_view old).frames ≡ [] → ⊥) → (c : List ℕ) → ShowsStill (state_of old) target log.content db.content c → ShowsNewest old target c (newest_view old).frames
  shows_still may some c still = record {
    same = record { page_size = refl; size = refl; pages = still.pages };
    front = still.front may.long may.some;
    frames_are = inl (refl, λ none. absurd (some none));
  }

  leaves_shown : MayCopy old target → ((newest_view old).frames ≡ [] → ⊥) → (vs : List Version) → LeavesShown (state_of old) target log.content db.content vs → LeaveShown old target vs (versions log)
  leaves_shown may some vs shown c d left left' = ((newest_view old).frames, log_commits may d left', shows_still may some c (shown c left))

  module _ (new : Log D g) where
    abbrev new_db : File
    new_db = g.file (db_of new)

    abbrev new_log : File
    new_log = g.file (log_of new)

    pub meanwhile : MayCopy old target → 0 < (state_of old).frames → new_log ≡ log → CopiesMeanwhile (state_of old) target log.content db new_db → Meanwhile old target new
    meanwhile may some same crash =
        let has = has_some may.told some in
        let shown = always_weaker db new_db (λ (vs : List Version). LeaveShown old target vs (versions log)) (LeavesShown (state_of old) target log.content db.content) (leaves_shown may has) crash.shown in
        record {
          shown = (OnDb new_db ∷ [], (shown, (always_end db new_db (λ (vs : List Version). LeaveShown old target vs (versions log)) shown, refl, same)));
          db_left = crash.left;
          log_left = subst IsContentLeft (sym same) (synced_left log may.log_synced);
        }

    -- what is known then
    pub record Copied : Type 0 where
      pub some : 0 < (state_of old).frames
      pub known : state_of new ≡ after_copying (state_of old) target
      pub db_told : g.tells (db_of new) ≡ g.tells (db_of old)
      pub log_kept : KeepsFile g.tells g.file (log_of old) (log_of new)
      pub copies : Copies (state_of old) target log.content db new_db
      pub crash : CopiesMeanwhile (state_of old) target log.content db new_db

    module _ (may : MayCopy old target) (is : Copied) where
      same : new_log ≡ log
      same = is.log_kept.same may.told.log

      state : state_of new ≡ record (state_of old) { copied = (after_copying (state_of old) target).copied }
      state = is.known ∙ copied_alone (state_of old) target

      frames_to : (n : ℕ) → frames_under (header_of (state_of new)) new_log.content n ≡ frames_under (header_of (state_of old)) log.content n
      frames_to n = ap (λ (s : LogState). frames_under (header_of s) new_log.content n) state ∙ ap (λ (f : File). frames_under (header_of (state_of old)) f.content n) same

      page_size : (state_of new).page_size ≡ (state_of old).page_size
      page_size = ap (λ (s : LogState). s.page_size) state

      newest : (newest_view new).frames ≡ (newest_view old).frames
      newest = ap (frames_under (header_of (state_of new)) new_log.content) (ap (λ (s : LogState). s.frames) state) ∙ frames_to (state_of old).frames

      told : Tells new
      told = record {
        db = is.db_told ∙ may.told.db;
        log = is.log_kept.tells_same ∙ may.told.log;
        whole = ap (λ (s : LogState). s.has_failed) state ∙ may.told.whole;
      }

      -- a page under the frames that a snapshot sees
      stays : (n number : ℕ) (bytes : List ℕ) → seen_by target ≤ n → 1 ≤ number → (seen_by target ≡ (state_of old).frames → number ≤ (state_of old).size)
          → IsPageIn db.content (state_of old).page_size (frames_under (header_of (state_of old)) log.content n) number bytes
          → IsPageIn new_db.content (state_of old).page_size (frames_under (header_of (state_of old)) log.content n) number bytes
      stays n number bytes sees first sized has = elim (cases_Bool (sees_uncopied (state_of old) target)) [
        | inl copied ↦ (is.copies.copied copied).stays n number bytes sees first sized has
        | inr none ↦ subst (λ (f : File). IsPageIn f.content (state_of old).page_size (frames_under (header_of (state_of old)) log.content n) number bytes) (sym (is.copies.same none)) has
      ]

      seen : (n number : ℕ) (bytes : List ℕ) → IsPageIn new_db.content (state_of old).page_size (frames_under (header_of (state_of old)) log.content n) number bytes
          → IsPageIn new_db.content (state_of new).page_size (frames_under (header_of (state_of new)) new_log.content n) number bytes
      seen n number bytes has =
          subst (λ (size : ℕ). IsPageIn new_db.content size (frames_under (header_of (state_of new)) new_log.content n) number bytes) (sym page_size)
          (subst (λ (fs : List Framed). IsPageIn new_db.content (state_of old).page_size fs number bytes) (sym (frames_to n)) has)

      others : (snapshot : Snapshot) → seen_by target ≤ seen_by snapshot → seen_by snapshot ≤ (state_of old).frames → (seen_by snapshot ≡ (state_of old).frames → size_of snapshot ≡ (state_of old).size)
          → ShowsSame (view_at old snapshot) (view_at new snapshot)
      others snapshot sees within sized = record {
        page_size = page_size;
        size = refl;
        pages = λ number bytes first last has.
            let small : seen_by target ≡ (state_of old).frames → number ≤ (state_of old).size =
            λ all.
            let most : seen_by snapshot ≡ (state_of old).frames = omega (arith, all, sees, within) in
            omega (arith, last, sized most) in
            seen (seen_by snapshot) number bytes (stays (seen_by snapshot) number bytes sees first small has);
      }

      synced : IsSynced new_db
      synced = elim (cases_Bool (sees_uncopied (state_of old) target)) [
        | inl copied ↦ is.copies.synced copied
        | inr none ↦ synced_as db new_db (is.copies.same none) may.db_synced
      ]

      commits : HasCommits (state_of new).page_size new_log.content (newest_view new).frames
      commits =
          subst (λ (size : ℕ). HasCommits size new_log.content (newest_view new).frames) (sym page_size)
          (subst (λ (f : File). HasCommits (state_of old).page_size f.content (newest_view new).frames) (sym same)
          (subst (HasCommits (state_of old).page_size log.content) (sym newest) may.commits))

      pub checkpoints : Checkpoints old target false new
      checkpoints = record {
        told = told;
        page_size = page_size;
        size = ap (λ (s : LogState). s.size) state;
        shows = subst (ShowsNewest old target new_db.content) (sym newest) (shows_still may (has_some may.told is.some) new_db.content (always_end db new_db (LeavesShown (state_of old) target log.content db.content) is.crash.shown new_db.content is.crash.left));
        frames = λ here. ap (λ (s : LogState). s.frames) state;
        others = λ here. others;
        db_synced = synced;
        log_synced = synced_as log new_log same may.log_synced;
        commits = commits;
      }

    pub copied_ok : (result : Result (Unit {0}) Fault) → MayCopy old target → 0 < (state_of old).frames → IsStateCopied result target (state_of old) (state_of new)
        → g.tells (db_of new) ≡ g.tells (db_of old) → KeepsFile g.tells g.file (log_of old) (log_of new) → OnOk result (Copies (state_of old) target log.content db new_db)
        → CopiesMeanwhile (state_of old) target log.content db new_db → OnOk result (Checkpoints old target false new)
    copied_ok (Ok u) may some known db_told log_kept copies crash = checkpoints may (record { some = some; known = known; db_told = db_told; log_kept = log_kept; copies = copies; crash = crash })
    copied_ok (Err e) may some known db_told log_kept copies crash = tt

    size_copied : (b : Bool) → (seen_by target == (state_of old).frames) ≡ b → MayCopy old target → (if seen_by target == (state_of old).frames then (state_of old).size else size_of target) ≡ size_of target
    size_copied true is may = subst (λ (b : Bool). (if b then (state_of old).size else size_of target) ≡ size_of target) (sym is) (sym (may.sized (eqb-true (seen_by target) (state_of old).frames is)))
    size_copied false is may = subst (λ (b : Bool). (if b then (state_of old).size else size_of target) ≡ size_of target) (sym is) refl

    never_missing : MayCopy old target → (number : ℕ) → IsMissing (state_of old) target db.content log.content number → ⊥
    never_missing may number missing =
        let there = may.there number missing.first (subst (λ (n : ℕ). number ≤ n) (size_copied (seen_by target == (state_of old).frames) refl may) missing.last) in
        missing.none there.0 there.1

    refusal : (fault : Fault) → MayCopy old target → state_of new ≡ after_refusal (state_of old) fault
        → IsCopyRefusal (state_of old).has_failed (λ number. IsTrue (g.tells (db_of old)) → IsTrue (g.tells (log_of old)) → IsMissing (state_of old) target db.content log.content number)
        ((db_of new ≡ db_of old) × (log_of new ≡ log_of old)) fault → IsCheckpointRefusal old new fault
    refusal Io may known is = inr refl
    refusal Memory may known is = inl (refl, known, is.0, is.1)
    refusal Failed may known is = absurd (let bad : true ≡ false = sym is.1 ∙ may.told.whole in cc)
    refusal (Damaged Size number) may known is = absurd (never_missing may number (is.1 may.told.db may.told.log))
    refusal _ may known is = absurd is

    short : (has_failed : Bool) (Missing : ℕ → Type 0) (Same : Type 0) (fault : Fault) → IsCopyRefusal has_failed Missing Same fault → fault ≡ Memory → Same
    short has_failed Missing Same fault is memory = subst (IsCopyRefusal has_failed Missing Same) memory is

    pub copy_refused : (result : Result (Unit {0}) Fault) → IsStateCopied result target (state_of old) (state_of new)
        → IfErr result (IsCopyRefusal (state_of old).has_failed (λ number. IsTrue (g.tells (db_of old)) → IsTrue (g.tells (log_of old)) → IsMissing (state_of old) target db.content log.content number)
        ((db_of new ≡ db_of old) × (log_of new ≡ log_of old))) → IfErr result (IsRefusedCopying old target new)
    copy_refused (Ok u) known is = tt
    copy_refused (Err e) known is = (
      short (state_of old).has_failed (λ number. IsTrue (g.tells (db_of old)) → IsTrue (g.tells (log_of old)) → IsMissing (state_of old) target db.content log.content number) ((db_of new ≡ db_of old) × (log_of new ≡ log_of old)) e is,
      λ may. refusal e may known is,
    )

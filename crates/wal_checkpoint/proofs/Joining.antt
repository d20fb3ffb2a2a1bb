-- A copying, and then a log that begins anew.
use Rattle.std.proofs.Common.{◌≡◌, inl, inr, ◌≤◌, ◌*◌, ℕ, List, [], ◌∷◌, Bool, true, false, refl, sym, ◌∙◌, ap, subst, arith}
use Rattle.std.specs.Prelude.{Err, IfErr, IsErrAnd, IsTrue, Ok, Result}
use Rattle.disk.specs.declared.device.Disk.{Ghosts}
use Rattle.disk.specs.File.{File, Version, versions, IsContentLeft, OnLog}
use Rattle.disk.proofs.Moments.{always_end, always_weaker, throughout_both}
use Rattle.sqlval.specs.declared.fault.Fault.{Fault}
use Rattle.wal_frame.specs.Written.{Framed}
use Rattle.wal.specs.Alone.{StandsAlone}
use Rattle.wal.specs.Committed.{HasCommits}
use Rattle.wal.specs.LogState.{db_of, log_of, state_of}
use Rattle.wal.specs.View.{IsInFile, IsPageIn}
use Rattle.wal.specs.declared.log.Log.{Log}
use Rattle.wal.specs.declared.log.Snapshot.{Snapshot}
use Rattle.pager.specs.Views.{newest_view}
use Rattle.wal_checkpoint.specs.Emptied.{CountOn, Emptied, EmptiedMeanwhile, IsRefusedEmptying, LeavesCounting, MayEmpty}
use Rattle.wal_checkpoint.specs.Shown.{Checkpoints, IsRefusedCopying, LeaveShown, MayCopy, Meanwhile, ShowsNewest}
use Rattle.wal_checkpoint.specs.declared.checkpoints.Counts.{Counts}
use Rattle.wal_checkpoint.proofs.Passing.{left_is, synced_as}

-- a refusal that is handed on
pub handed_on : {D : Type 0} {g : Ghosts D} (old : Log D g) (target : Snapshot) (new : Log D g) (result : Result Counts Fault) (f : Fault) → IsErrAnd result (λ e. e ≡ f) → IsRefusedCopying old target new f → IfErr result (IsRefusedCopying old target new)
handed_on old target new (Ok counts) f is why = absurd is
handed_on old target new (Err e) f is why = subst (IsRefusedCopying old target new) (sym is) why

module _ {D : Type 0} {g : Ghosts D} (old : Log D g) (target : Snapshot) (mid : Log D g) where
  abbrev db : File
  db = g.file (db_of mid)

  abbrev log : File
  log = g.file (log_of mid)

  pub may_empty : Checkpoints old target false mid → MayEmpty mid
  may_empty first = record { told = first.told; log_synced = first.log_synced; commits = first.commits }

  -- a page that the database file shows under the frames stands in it
  in_file : Checkpoints old target false mid → StandsAlone db.content (state_of mid).page_size (newest_view mid).frames (state_of mid).size
      → (number : ℕ) (bytes : List ℕ) → 1 ≤ number → number ≤ (state_of old).size → IsPageIn db.content (state_of old).page_size (newest_view mid).frames number bytes → IsInFile db.content (state_of old).page_size number bytes
  in_file first alone number bytes low high has =
      subst (λ (n : ℕ). IsInFile db.content n number bytes) first.page_size
      (alone.pages number bytes low (subst (λ (n : ℕ). number ≤ n) (sym first.size) high) (subst (λ (n : ℕ). IsPageIn db.content n (newest_view mid).frames number bytes) (sym first.page_size) has))

  shows_alone : Checkpoints old target false mid → StandsAlone db.content (state_of mid).page_size (newest_view mid).frames (state_of mid).size → ShowsNewest old target db.content []
  shows_alone first alone = record {
    same = record {
      page_size = refl;
      size = refl;
      pages = λ number bytes low high has. inr ((λ k lt of_page. absurd (omega (arith, lt))), in_file first alone number bytes low high (first.shows.same.pages number bytes low high has));
    };
    front = first.shows.front;
    frames_are = inr (refl, alone.long ∙ ap (λ (n : ℕ). n * (state_of mid).page_size) first.size ∙ ap (λ (n : ℕ). (state_of old).size * n) first.page_size);
  }

  -- what counts on shows what the newest view showed
  shows_on : Checkpoints old target false mid → (frames : List Framed) → CountOn mid frames → ShowsNewest old target db.content frames
  shows_on first frames (inl is) = subst (ShowsNewest old target db.content) (sym is) first.shows
  shows_on first frames (inr alone) = subst (ShowsNewest old target db.content) (sym alone.0) (shows_alone first alone.1)

  leaves_on : Checkpoints old target false mid → (vs : List Version) → LeavesCounting mid vs → LeaveShown old target (versions db) vs
  leaves_on first vs counting c d left left' =
      let frames = counting d left' in (
        frames.0,
        subst (λ (n : ℕ). HasCommits n d frames.0) first.page_size frames.1,
        subst (λ (bytes : List ℕ). ShowsNewest old target bytes frames.0) (sym (left_is db first.db_synced c left)) (shows_on first frames.0 frames.2),
      )

  module _ (new : Log D g) where
    abbrev new_db : File
    new_db = g.file (db_of new)

    abbrev new_log : File
    new_log = g.file (log_of new)

    pub joined : (may_restart : Bool) → IsTrue may_restart → Checkpoints old target false mid → EmptiedMeanwhile mid new → Emptied mid new → Checkpoints old target may_restart new
    joined may_restart alone first meanwhile second = record {
      told = second.told;
      page_size = second.page_size ∙ first.page_size;
      size = second.size ∙ first.size;
      shows = subst (λ (d : D). ShowsNewest old target (g.file d).content (newest_view new).frames) (sym meanwhile.db) (shows_on first (newest_view new).frames second.frames);
      frames = λ never. absurd (let bad : true ≡ false = sym alone ∙ never in cc);
      others = λ never. absurd (let bad : true ≡ false = sym alone ∙ never in cc);
      db_synced = synced_as db new_db (ap g.file meanwhile.db) first.db_synced;
      log_synced = second.log_synced;
      commits = second.commits;
    }

    pub joined_meanwhile : Checkpoints old target false mid → Meanwhile old target mid → EmptiedMeanwhile mid new → Meanwhile old target new
    joined_meanwhile first before after =
        let shown = always_weaker log new_log (λ (vs : List Version). LeaveShown old target (versions db) vs) (LeavesCounting mid) (leaves_on first) after.shown in
        record {
          shown = throughout_both (LeaveShown old target) (LeaveShown old target) (λ d l good. good) (g.file (db_of old)) (g.file (log_of old)) db log new_db new_log before.shown
              (OnLog new_log ∷ [], (shown, (always_end log new_log (λ (vs : List Version). LeaveShown old target (versions db) vs) shown, ap g.file after.db, refl)));
          db_left = subst IsContentLeft (sym (ap g.file after.db)) before.db_left;
          log_left = after.left;
        }

    -- frames were copied, and then the log wasn't emptied
    pub refused_later : (result : Result Counts Fault) (f : Fault) → IsErrAnd result (λ e. e ≡ f) → IsRefusedEmptying mid f → (MayCopy old target → Checkpoints old target false mid) → IfErr result (IsRefusedCopying old target new)
    refused_later (Ok counts) f is why first = absurd is
    refused_later (Err e) f is why first = (λ memory. absurd (why.0 (sym is ∙ memory)), λ may. inr (is ∙ why.1 (may_empty (first may))))

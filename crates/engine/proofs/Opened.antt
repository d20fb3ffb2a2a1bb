-- Opening leaves of two files what they were, or a log that was cut after its commits.
use Rattle.std.proofs.Common.{◌≡◌, ◌⊎◌, ◌≤◌, inl, inr, ℕ, Bool, List, [], ◌∷◌, refl, sym, ap, subst, ◌∙◌, arith}
use Rattle.std.specs.Prelude.{IsTrue}
use Rattle.disk.specs.File.{Version, File, IsContentLeft, IsSynced, IsLeft, Always, Throughout, OnLog, whole, versions, moment}
use Rattle.disk.proofs.Left.{left_synced}
use Rattle.disk.proofs.Moments.{alone, left_more, later_moment, always_weaker, always_end, run_weaker, throughout_both}
use Rattle.wal_frame.specs.Written.{Framed}
use Rattle.wal.specs.Committed.{HasCommits}
use Rattle.wal_frame.specs.Accepted.{KeepsFile}
use Rattle.wal.specs.LogState.{LogState}
use Rattle.wal.specs.Opened.{KeepsContent, LeavesAsBefore}
use Rattle.wal.proofs.Beginning.{both_read}
use Rattle.wal.specs.Crashes.{LeavesCommits}
use Rattle.db_header.specs.Header.{IsHeader}
use Rattle.engine.specs.Opening.{HasPageSize, IsCutTo, LeavesOpened}

pub synced_is : (file : File) → IsSynced file → (c : List ℕ) → IsLeft (versions file) c → c ≡ file.content
synced_is file synced c left = left_synced (whole file.content) c (subst (λ (vs : List Version). IsLeft vs c) (alone file synced) left)

whole_left : (bytes : List ℕ) → IsLeft (whole bytes ∷ []) bytes
whole_left bytes = record {
  from = 0;
  within = omega arith;
  size = refl;
  sectors = λ k. record { source = 0; within = omega arith; before_cut = λ m above upto. absurd (omega (arith, above, upto)); same = λ p low high lt. refl };
}

content_left : (file : File) → IsSynced file → IsLeft (versions file) file.content
content_left file synced = subst (λ (vs : List Version). IsLeft vs file.content) (sym (alone file synced)) (whole_left file.content)

pub unchanged : (db log new_db new_log : File) → new_db ≡ db → new_log ≡ log → Throughout (LeavesOpened db log) db log new_db new_log
unchanged db log new_db new_log same_db same_log = ([], (inl (λ d l a b. (inl a, inl b)), same_db, same_log))

-- what was read has the commits that each crash leaves
read_commits : (page_size : ℕ) (frames : List Framed) (old new : File) → IsSynced old → Always old new (LeavesCommits page_size frames) → HasCommits page_size old.content frames
read_commits page_size frames old new synced all =
    all.each (moment old) (omega arith) (later_moment old new all.elapses) old.content
    (subst (λ (vs : List Version). IsLeft vs old.content) (sym all.elapses.grows.1) (left_more (versions old) all.elapses.grows.0 old.content (content_left old synced)))

pub cut_opened : (page_size : ℕ) (frames : List Framed) (db log new_db new_log : File) → HasPageSize db.content page_size → IsSynced db → IsSynced log → new_db ≡ db → Always log new_log (LeavesCommits page_size frames)
    → Throughout (LeavesOpened db log) db log new_db new_log
cut_opened page_size frames db log new_db new_log pages db_synced log_synced same cut =
    (OnLog new_log ∷ [], (always_weaker log new_log (λ vs. LeavesOpened db log (versions db) vs) (LeavesCommits page_size frames) at cut, (at (versions new_log) (always_end log new_log (LeavesCommits page_size frames) cut), same, refl)))
  where
    at : (vs : List Version) → LeavesCommits page_size frames vs → LeavesOpened db log (versions db) vs
    at vs left = inr (record { db_read = synced_is db db_synced; page_size = page_size; headed = pages; frames = frames; read = read_commits page_size frames log new_log log_synced cut; left = left })

-- opened files are those that were read
module _ (db log mid_db mid_log : File) (db_synced : IsSynced mid_db) (log_synced : IsSynced mid_log) (db_same : mid_db.content ≡ db.content) (log_same : mid_log.content ≡ log.content) where
  could_db : (c : List ℕ) → (IsLeft (versions mid_db) c ⊎ (c ≡ mid_db.content)) → IsLeft (versions db) c ⊎ (c ≡ db.content)
  could_db c (inl left) = inr (synced_is mid_db db_synced c left ∙ db_same)
  could_db c (inr same) = inr (same ∙ db_same)

  could_log : (c : List ℕ) → (IsLeft (versions mid_log) c ⊎ (c ≡ mid_log.content)) → IsLeft (versions log) c ⊎ (c ≡ log.content)
  could_log c (inl left) = inr (synced_is mid_log log_synced c left ∙ log_same)
  could_log c (inr same) = inr (same ∙ log_same)

  earlier : (d l : List Version) → LeavesOpened mid_db mid_log d l → LeavesOpened db log d l
  earlier d l (inl before) = inl (λ x y a b. (let both = before x y a b in (could_db x both.0, could_log y both.1)))
  earlier d l (inr cut) = inr (record {
    db_read = λ c left. cut.db_read c left ∙ db_same;
    page_size = cut.page_size;
    headed = λ head is. cut.headed head (subst (λ (c : List ℕ). IsHeader c head) (sym db_same) is);
    frames = cut.frames;
    read = subst (λ (c : List ℕ). HasCommits cut.page_size c cut.frames) log_same cut.read;
    left = cut.left;
  })

  pub then_opened : (new_db new_log : File) → Throughout (LeavesAsBefore db log) db log mid_db mid_log → Throughout (LeavesOpened mid_db mid_log) mid_db mid_log new_db new_log
      → Throughout (LeavesOpened db log) db log new_db new_log
  then_opened new_db new_log one two =
      throughout_both (LeavesOpened db log) (LeavesOpened mid_db mid_log) earlier db log mid_db mid_log new_db new_log
      (one.0, run_weaker (LeavesOpened db log) (LeavesAsBefore db log) (λ d l before. inl before) one.0 db log mid_db mid_log one.1) two

pub as_before : (db log new_db new_log : File) → Throughout (LeavesAsBefore db log) db log new_db new_log → Throughout (LeavesOpened db log) db log new_db new_log
as_before db log new_db new_log one = (one.0, run_weaker (LeavesOpened db log) (LeavesAsBefore db log) (λ d l before. inl before) one.0 db log new_db new_log one.1)

pub read_then_cut : (page_size : ℕ) (frames : List Framed) (db log mid_db mid_log new_db new_log : File) → HasPageSize db.content page_size → IsSynced db → IsSynced log → mid_db ≡ db → mid_log ≡ log → new_db ≡ mid_db
    → Always mid_log new_log (LeavesCommits page_size frames) → Throughout (LeavesOpened db log) db log new_db new_log
read_then_cut page_size frames db log mid_db mid_log new_db new_log pages db_synced log_synced db_same log_same kept cut =
    cut_opened page_size frames db log new_db new_log pages db_synced log_synced (kept ∙ db_same) (subst (λ (f : File). Always f new_log (LeavesCommits page_size frames)) log_same cut)

-- what is known, and what was there before, under other names
pub cut_as : (known other : LogState) (old mid new : List ℕ) → other ≡ known → mid ≡ old → IsCutTo other mid new → IsCutTo known old new
cut_as known other old mid new same_known same cut = subst (λ (k : LogState). IsCutTo k old new) same_known (subst (λ (l : List ℕ). IsCutTo other l new) same cut)

pub synced_as : (old new : File) → new ≡ old → IsSynced old → IsSynced new
synced_as old new same = subst IsSynced (sym same)

-- ---- the two disks

module _ {D : Type 0} (tells : D → Bool) (file : D → File) (failures : D → ℕ) where
  -- The files hold what they held, and a crash leaves what it could leave before, or what was read.
  pub record WereRead (db log new_db new_log : D) : Type 0 where
    pub db_kept : KeepsContent tells file failures db new_db
    pub log_kept : KeepsContent tells file failures log new_log
    pub before : IsTrue (tells db) → IsTrue (tells log) → Throughout (LeavesAsBefore (file db) (file log)) (file db) (file log) (file new_db) (file new_log)

  content_still : (old mid new : D) → KeepsContent tells file failures old mid → KeepsFile tells file mid new → failures mid ≤ failures new → KeepsContent tells file failures old new
  content_still old mid new kept still counts = record {
    tells_same = still.tells_same ∙ kept.tells_same;
    same = λ told. ap (λ (f : File). f.content) (still.same (kept.tells_same ∙ told)) ∙ kept.same told;
    left = λ told was. subst IsContentLeft (sym (still.same (kept.tells_same ∙ told))) (kept.left told was);
    counts = omega (arith, kept.counts, counts);
  }

  -- files that are read once more
  pub read_on : (db log mid_db mid_log new_db new_log : D) → WereRead db log mid_db mid_log → KeepsFile tells file mid_db new_db → KeepsFile tells file mid_log new_log
      → failures mid_db ≤ failures new_db → failures mid_log ≤ failures new_log → WereRead db log new_db new_log
  read_on db log mid_db mid_log new_db new_log were db_still log_still db_counts log_counts = record {
    db_kept = content_still db mid_db new_db were.db_kept db_still db_counts;
    log_kept = content_still log mid_log new_log were.log_kept log_still log_counts;
    before = λ told_db told_log.
        both_read (file db) (file log) (file mid_db) (file mid_log) (file new_db) (file new_log) (were.before told_db told_log) (db_still.same (were.db_kept.tells_same ∙ told_db)) (log_still.same (were.log_kept.tells_same ∙ told_log));
  }

-- a disk that isn't called
pub not_called : {D : Type 0} (tells : D → Bool) (file : D → File) (d : D) → KeepsFile tells file d d
not_called tells file d = record { tells_same = refl; same = λ told. refl }

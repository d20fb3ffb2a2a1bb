-- What a crash leaves of files that hold a database, while they are opened, holds it.
use Rattle.std.proofs.Common.{◌≡◌, inl, inr, refl, sym, ap, subst, ◌∙◌, ⊎_elim, ℕ, List, length}
use Rattle.std.specs.Prelude.{Option}
use Rattle.disk.specs.File.{File, IsSynced, Throughout, Version}
use Rattle.disk.proofs.Moments.{run_weaker}
use Rattle.db_header.specs.Header.{IsHeader}
use Rattle.db_header.specs.declared.fields.Header.{Header}
use Rattle.wal_frame.specs.Written.{Framed}
use Rattle.wal_frame.specs.declared.log_header.LogHeader.{LogHeader}
use Rattle.wal.specs.Committed.{AreCommitted, HasCommits, frames_under}
use Rattle.catalog.specs.Database.{Database}
use Rattle.session.specs.Holding.{LeaveHeld, StoreFiles}
use Rattle.session.proofs.Standing.{held_if_stored}
use Rattle.engine.specs.Opening.{HasPageSize, LeavesOpened}
use Rattle.engine.proofs.EmptyOpening.{ok_is}
use Rattle.engine.proofs.HeldOpening.{head_of, held_as, one_count}
use Rattle.engine.proofs.Opened.{synced_is}

-- a log has one list of committed frames
one_commits : (log : List ℕ) (a b : ℕ) (these those : List Framed) → HasCommits a log these → HasCommits b log those → these ≡ those
one_commits log a b these those one other =
    one.frames_are ∙ (λ i. frames_under (header i) log (count i)) ∙ sym other.frames_are
  where
    header : one.header ≡ other.header
    header = ok_is one.header other.header (sym one.header_is ∙ other.header_is)

    count : length these ≡ length those
    count = one_count other.header log a b (length these) (length those) (subst (λ (h : Option LogHeader). AreCommitted log a h (length these)) header one.committed) other.committed

-- the header that was read has the page size that is known
pub has_pages : (db : List ℕ) (mid : List ℕ) (head : Header) (page_size : ℕ) → ((h : Header) → IsHeader db h → head ≡ h) → page_size ≡ head.page_size → mid ≡ db → HasPageSize mid page_size
has_pages db mid head page_size read sized same = λ h is.
    sym (ap (λ (x : Header). x.page_size) (read h (subst (λ (b : List ℕ). IsHeader b h) same is))) ∙ sym sized

module _ (db log : File) (db_synced : IsSynced db) (log_synced : IsSynced log) (database : Database) (held : StoreFiles db.content log.content database) where
  leave_held : (d l : List Version) → LeavesOpened db log d l → LeaveHeld (λ (x : Database). x ≡ database) d l
  leave_held d l (inl before) a b left_a left_b chance =
      let both = before a b left_a left_b in (
        database,
        refl,
        held_if_stored a b database (held_as db.content log.content a b database (⊎_elim (synced_is db db_synced a) (λ same. same) both.0) (⊎_elim (synced_is log log_synced b) (λ same. same) both.1) held),
      )
  leave_held d l (inr cut) a b left_a left_b chance =
      let sized : cut.page_size ≡ held.view.page_size = sym (cut.headed held.found.head (head_of db.content log.content database held)) ∙ held.found.head_size in
      let frames : cut.frames ≡ held.view.frames = one_commits log.content cut.page_size held.view.page_size cut.frames held.view.frames cut.read held.commits in (
        database,
        refl,
        held_if_stored a b database (record {
          view = held.view;
          db_is = held.db_is ∙ sym (cut.db_read a left_a);
          commits = subst (λ (n : ℕ). HasCommits n b held.view.frames) sized (subst (λ (fs : List Framed). HasCommits cut.page_size b fs) frames (cut.left b left_b));
          found = held.found;
          tables = held.tables;
          stored = held.stored;
        }),
      )

  pub held_throughout : (new_db new_log : File) → Throughout (LeavesOpened db log) db log new_db new_log → Throughout (LeaveHeld (λ (x : Database). x ≡ database)) db log new_db new_log
  held_throughout new_db new_log run = (run.0, run_weaker (LeaveHeld (λ (x : Database). x ≡ database)) (LeavesOpened db log) leave_held run.0 db log new_db new_log run.1)

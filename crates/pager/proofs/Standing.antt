-- What a database file shows that stands for itself, and what a writer sees over it.
use Rattle.std.proofs.Common.{◌≡◌, ◌⊎◌, inl, inr, ◌<◌, ◌≤◌, ◌∙◌, ℕ, List, [], Bool, true, false, length, refl, sym, ap, subst, arith}
use Rattle.std.specs.Prelude.{◌↔◌, ◌&&◌, Option, Some, None, if◌then◌else◌}
use Rattle.std.proofs.lemmas.Bool.{cases_lt}
use Rattle.disk.specs.declared.device.Disk.{Ghosts}
use Rattle.db_header.specs.declared.fields.Header.{Header}
use Rattle.wal_frame.specs.Written.{Framed}
use Rattle.wal.specs.declared.log.Log.{Log}
use Rattle.wal.specs.Alone.{StandsAlone}
use Rattle.wal.specs.Anew.{base_of, begins_anew}
use Rattle.wal.specs.Commits.{commits_of}
use Rattle.wal.specs.Committed.{frames_under}
use Rattle.wal.specs.Laws.{IsChanged}
use Rattle.wal.specs.LogState.{LogState, header_of, log_of, seen_by, state_of}
use Rattle.wal.specs.Restarts.{is_copied, restarted}
use Rattle.wal.specs.View.{IsInFile, IsPageIn}
use Rattle.pager.specs.declared.writer.Writer.{Writer}
use Rattle.pager.specs.Commits.{IsBase, MayCommit}
use Rattle.pager.specs.Limits.{pages_of}
use Rattle.pager.specs.Maps.{newest_frame}
use Rattle.pager.specs.Views.{View, ViewHas, changes_of, newest_view, view_at, view_of}
use Rattle.pager.specs.Writers.{seen, snapshot_of}
use Rattle.pager.proofs.Mapping.{IsNewestFrame, newest_is}
use Rattle.pager.proofs.Seeing.{seen_from, seen_to}

-- ---- whether a log begins anew

and_once : (a b : Bool) → ((a && b) && b) ≡ (a && b)
and_once true true = refl
and_once true false = refl
and_once false b = refl

pub anew_same : (known : LogState) (may_restart restarts : Bool) → restarts ≡ begins_anew known may_restart → begins_anew known restarts ≡ begins_anew known may_restart
anew_same known may_restart restarts is = ap (λ (b : Bool). b && is_copied known) is ∙ and_once may_restart (is_copied known)

pub base_same : (known : LogState) (may_restart restarts : Bool) → restarts ≡ begins_anew known may_restart → base_of known restarts ≡ base_of known may_restart
base_same known may_restart restarts is = ap (λ (b : Bool). if b then restarted known else known) (anew_same known may_restart restarts is)

-- ---- a file that stands for itself

module _ (db : List ℕ) (page_size : ℕ) (frames : List Framed) (size : ℕ) (alone : StandsAlone db page_size frames size) (number : ℕ) (low : 1 ≤ number) (high : number ≤ size) (bytes : List ℕ) where
  pub alone_back : IsPageIn db page_size frames number bytes → IsPageIn db page_size [] number bytes
  alone_back has = inr ((λ k lt of_page. absurd (omega (arith, lt))), alone.pages number bytes low high has)

  in_file : IsPageIn db page_size [] number bytes → IsInFile db page_size number bytes
  in_file (inl newest) = absurd (omega (arith, newest.1.within))
  in_file (inr filed) = filed.1

  pub alone_forth : IsPageIn db page_size [] number bytes → IsPageIn db page_size frames number bytes
  alone_forth has = by_frame (newest_frame number frames) (newest_is number frames)
    where
      by_frame : (found : Option (List ℕ)) → IsNewestFrame number frames found → IsPageIn db page_size frames number bytes
      by_frame (Some page) is =
          let there = alone.pages number page low high (inl (is.0, is.1, is.2)) in
          let same : page ≡ bytes = there.bytes_are ∙ sym (in_file has).bytes_are in
          subst (IsPageIn db page_size frames number) same (inl (is.0, is.1, is.2))
      by_frame None is = inr (is, in_file has)

module _ {D : Type 0} {g : Ghosts D} where
  -- the frames of a commit are written after these: a writer sees over them what it saw
  pub record IsUnder (files : Log D g) (writer : Writer) (kept : List Framed) : Type 0 where
    pub is_base : IsBase files kept
    pub shows : (number : ℕ) (bytes : List ℕ) → 1 ≤ number → number ≤ pages_of writer
        → ViewHas (seen (record (view_at files (snapshot_of writer)) { frames = kept }) writer) number bytes ↔ ViewHas (view_of files writer) number bytes

  module _ (files : Log D g) (writer : Writer) (page : List ℕ) (header : Header) (may : MayCommit files writer page header) where
    abbrev before : List Framed
    before = commits_of (state_of files) (g.file (log_of files)).content

    abbrev own : View
    own = view_at files (snapshot_of writer)

    own_frames : own.frames ≡ before
    own_frames = ap (λ (n : ℕ). frames_under (header_of (state_of files)) (g.file (log_of files)).content n) may.newest

    abbrev over : List Framed → View
    over kept = record own { frames = kept }

    over_same : over before ≡ own
    over_same = ap over (sym own_frames)

    pub under_grows : IsUnder files writer before
    under_grows = record {
      is_base = inl refl;
      shows = λ number bytes low high. (
        (λ has. subst (λ (v : View). ViewHas (seen v writer) number bytes) over_same has),
        (λ has. subst (λ (v : View). ViewHas (seen v writer) number bytes) (sym over_same) has),
      );
    }

    pub under_anew : StandsAlone (newest_view files).db (newest_view files).page_size before (newest_view files).size → IsUnder files writer []
    under_anew alone = record {
      is_base = inr (refl, alone);
      shows = λ number bytes low high. (
        (λ has. forth number bytes low high (seen_from (over []) writer number bytes may.whole has)),
        (λ has. back number bytes low high (seen_from own writer number bytes may.whole has)),
      );
    }
      where
        forth : (number : ℕ) (bytes : List ℕ) → 1 ≤ number → number ≤ pages_of writer → IsChanged own.db own.page_size [] (changes_of writer) number bytes → ViewHas (view_of files writer) number bytes
        forth number bytes low high (inl among) = seen_to own writer number bytes may.whole (inl among)
        forth number bytes low high (inr none) = elim (cases_lt (state_of files).size number) [
          | inl past ↦ absurd (may.reaches number past high none.0)
          | inr within ↦ seen_to own writer number bytes may.whole (inr (
            none.0,
            subst (λ (fs : List Framed). IsPageIn own.db own.page_size fs number bytes) (sym own_frames)
                (alone_forth own.db own.page_size before (state_of files).size alone number low within bytes none.1),
          ))
        ]

        back : (number : ℕ) (bytes : List ℕ) → 1 ≤ number → number ≤ pages_of writer → IsChanged own.db own.page_size own.frames (changes_of writer) number bytes → ViewHas (seen (over []) writer) number bytes
        back number bytes low high (inl among) = seen_to (over []) writer number bytes may.whole (inl among)
        back number bytes low high (inr none) = elim (cases_lt (state_of files).size number) [
          | inl past ↦ absurd (may.reaches number past high none.0)
          | inr within ↦ seen_to (over []) writer number bytes may.whole (inr (
            none.0,
            alone_back own.db own.page_size before (state_of files).size alone number low within bytes
                (subst (λ (fs : List Framed). IsPageIn own.db own.page_size fs number bytes) own_frames none.1),
          ))
        ]

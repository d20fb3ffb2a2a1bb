-- What a crash leaves while a commit is written, and where it writes nothing.
use Rattle.std.proofs.Common.{◌≡◌, ◌++◌, ℕ, Bool, true, List, refl, ◌∙◌, ap, subst}
use Rattle.disk.specs.File.{File, IsSynced, IsContentLeft, Always}
use Rattle.disk.proofs.Current.{synced_left}
use Rattle.disk.proofs.Moments.{always_weaker}
use Rattle.wal_frame.specs.declared.sums.Sum.{Sum}
use Rattle.wal_frame.specs.Accepted.{frame_start, sum_to}
use Rattle.wal_frame.specs.Written.{Framed, written}
use Rattle.wal_index.specs.declared.index.Index.{Index}
use Rattle.wal.specs.Commits.{commits_of}
use Rattle.wal.specs.Crashes.{LeavesEither, LeavesWriting, WritesCommit}
use Rattle.wal.specs.LogState.{LogState}
use Rattle.disk.specs.Calls.{overwritten}
use Rattle.wal.specs.Stands.{LogStands, base_at, place_at, log_front, log_end}
use Rattle.wal.proofs.Staling.{IsBase}
use Rattle.wal.proofs.Appending.{FrontOf, IsGrown, IsCommit}
use Rattle.wal.proofs.Crashing.{leaves_either, log_commits, still_either}
use Rattle.wal.proofs.Halting.{after_trim, not_cut}

-- The bytes that are written are the frames', so a crash leaves the committed frames, or these after them.
pub writes_commit : (known : LogState) (clean : Bool) (end : ℕ) (sum : Sum) (index : Index) (fs : List Framed) (out : List ℕ) (old new : File) → LogStands known.header known.has_header known.frames sum index old.content
    → FrontOf known.header known.has_header known.frames sum old.content → IsBase known.header known.frames (log_front known.header known.has_header known.frames old.content) old.content (base_at known.header known.has_header clean end old.content)
    → known.header.page_size ≡ known.page_size
    → IsGrown known.header known.frames (log_front known.header known.has_header known.frames old.content) fs (overwritten (place_at known.has_header end) out (base_at known.header known.has_header clean end old.content)) → IsCommit fs
    → end ≡ log_end known.header known.has_header known.frames → place_at known.has_header end ≡ frame_start known.header known.frames → out ≡ written known.header sum fs → Always old new (LeavesWriting known.header known.has_header clean end out old.content)
    → IsContentLeft new → WritesCommit known fs old new
writes_commit known clean end sum index fs out old new stands front base size grown commit is_end is_place is_out writing left = record {
  is_clean = clean;
  writing = subst (λ (n : ℕ). Always old new (LeavesWriting known.header known.has_header clean n (written known.header (sum_to known.header old.content known.frames) fs) old.content)) is_end
      (subst (λ (l : List ℕ). Always old new (LeavesWriting known.header known.has_header clean end l old.content)) (is_out ∙ ap (λ (s : Sum). written known.header s fs) stands.sum_is) writing);
  either = always_weaker old new (LeavesEither known.page_size (commits_of known old.content) (commits_of known old.content ++ fs)) (LeavesWriting known.header known.has_header clean end out old.content)
      (λ vs. leaves_either known.header known.has_header clean known.frames end known.page_size sum index fs old.content out vs stands front base size grown commit is_end is_place) writing;
  left = left;
}

-- Where nothing is written, a crash leaves the log as it is.
pub writes_nothing : (known : LogState) (sum : Sum) (index : Index) (fs : List Framed) (file : File) → IsSynced file → LogStands known.header known.has_header known.frames sum index file.content → known.header.page_size ≡ known.page_size → WritesCommit known fs file file
writes_nothing known sum index fs file synced stands size =
    let end = log_end known.header known.has_header known.frames in
    record {
      is_clean = true;
      writing = after_trim known.header known.has_header true end (written known.header (sum_to known.header file.content known.frames) fs) file file (not_cut file file end refl synced);
      either = still_either known.page_size (commits_of known file.content) (commits_of known file.content ++ fs) file synced (log_commits known.header known.has_header known.frames known.page_size sum index file.content stands size);
      left = synced_left file synced;
    }

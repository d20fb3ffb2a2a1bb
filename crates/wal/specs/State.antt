-- How what is known of the two files changes.
use Rattle.std.specs.Prelude.{◌≡◌, ◌<◌, ◌≤◌, ◌+◌, ℕ, Bool, true, List, [], length, slice_index}
use Rattle.wal_frame.specs.declared.log_header.LogHeader.{LogHeader}
use Rattle.wal_frame.specs.declared.sums.Sum.{Sum}
use Rattle.wal_frame.specs.Log.{header_sum}
use Rattle.wal.specs.declared.pages.PageImage.{PageImage}
use Rattle.wal.specs.declared.state.State.{State}
use Rattle.wal_index.specs.Index.{frames_of, SameFrames, KeepsRoom}
use Rattle.wal.specs.Indexed.{IsOldOrNew, HasEach, KeepsFrames}
use Rattle.wal.specs.Pages.{numbers_of}

-- everything but the index, and it has the frames that it had
pub record SameState (old new : State) : Type 0 where
  pub page_size : new.page_size ≡ old.page_size
  pub db_len : new.db_len ≡ old.db_len
  pub header : new.header ≡ old.header
  pub is_begun : new.is_begun ≡ old.is_begun
  pub is_clean : new.is_clean ≡ old.is_clean
  pub is_failed : new.is_failed ≡ old.is_failed
  pub mark : new.mark ≡ old.mark
  pub copied : new.copied ≡ old.copied
  pub copied_pages : new.copied_pages ≡ old.copied_pages
  pub sum : new.sum ≡ old.sum
  pub size : new.size ≡ old.size
  pub frames : SameFrames old.index new.index

-- the frames of these pages count
pub record Admits (pages : List PageImage) (size : ℕ) (sum : Sum) (old new : State) : Type 0 where
  pub page_size : new.page_size ≡ old.page_size
  pub db_len : new.db_len ≡ old.db_len
  pub header : new.header ≡ old.header
  pub is_begun : new.is_begun ≡ old.is_begun
  pub is_clean : new.is_clean ≡ old.is_clean
  pub is_failed : new.is_failed ≡ old.is_failed
  pub mark : new.mark ≡ old.mark + length pages
  pub copied : new.copied ≡ old.copied
  pub copied_pages : new.copied_pages ≡ old.copied_pages
  pub sum_is : new.sum ≡ sum
  pub size_is : new.size ≡ size
  pub frames : (p k : ℕ) → 1 ≤ p → k < length (frames_of new.index p) → IsOldOrNew old.mark pages (length pages) old.index p (slice_index (frames_of new.index p) k)
  pub added : HasEach old.mark (numbers_of pages) (length pages) new.index
  pub kept : KeepsFrames old.index new.index

-- the log has begun anew, with this header or to get it: no frame counts, and the index has none and as much room
pub record Restarts (header : LogHeader) (has_header : Bool) (old new : State) : Type 0 where
  pub page_size : new.page_size ≡ old.page_size
  pub db_len : new.db_len ≡ old.db_len
  pub header_is : new.header ≡ header
  pub is_begun : new.is_begun ≡ has_header
  pub is_clean : new.is_clean ≡ true
  pub is_failed : new.is_failed ≡ old.is_failed
  pub mark : new.mark ≡ 0
  pub copied : new.copied ≡ 0
  pub copied_pages : new.copied_pages ≡ 0
  pub sum_is : new.sum ≡ header_sum header
  pub size : new.size ≡ old.size
  pub none : (p : ℕ) → frames_of new.index p ≡ []
  pub room : KeepsRoom old.index new.index

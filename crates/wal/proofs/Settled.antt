-- A log after a commit, for the layers above: its committed frames, how many there are, and the size that the last one has.
use Rattle.std.proofs.Common.{◌≡◌, ◌<◌, ◌≤◌, ◌+◌, ℕ, zero, suc, List, [], ◌∷◌, ◌++◌, length, map, get_or, sym, ◌∙◌, ap, subst, arith, refl, length-append}
use Rattle.std.specs.Prelude.{Option, Some, None}
use Rattle.std.proofs.lemmas.List.{length-map}
use Rattle.disk.specs.declared.device.Disk.{Ghosts}
use Rattle.disk.specs.File.{File}
use Rattle.wal_frame.specs.declared.frame.FrameHeader.{FrameHeader}
use Rattle.wal_frame.specs.declared.log_header.LogHeader.{LogHeader}
use Rattle.wal_frame.specs.Written.{Framed}
use Rattle.wal.specs.declared.log.Log.{Log}
use Rattle.wal.specs.declared.pages.PageImage.{PageImage}
use Rattle.wal.specs.Committed.{HasCommits, HasCommitted, framed_to, frames_under}
use Rattle.wal.specs.Commits.{Commits, commits_of}
use Rattle.wal.specs.LogState.{LogState, state_of}
use Rattle.wal.specs.Sizes.{IsViewSize}
use Rattle.wal.specs.Pages.{framed}
use Rattle.wal.proofs.CommitLemmas.{last_size, pages_len}
use Rattle.wal.proofs.FrameLists.{framed_len}

-- the log's header has the size of a page
pub known_size : {D : Type 0} {g : Ghosts D} (files : Log D g) → (state_of files).header.page_size ≡ (state_of files).page_size
known_size files = files.state.same_size

-- the log has the frames from before the commit, and the commit's
pub commits_settled : (known : LogState) (fs : List Framed) (old new : File) → known.header.page_size ≡ known.page_size → Commits known fs old new → HasCommits known.page_size new.content (commits_of known old.content ++ fs)
commits_settled known fs old new size commits = record {
  header = Some known.header;
  header_is = commits.header_is;
  committed = (size, subst (HasCommitted known.header new.content) (sym count) commits.committed);
  frames_are = sym commits.frames_are ∙ ap (framed_to known.header new.content) (sym count);
}
  where
    count : length (commits_of known old.content ++ fs) ≡ known.frames + length fs
    count = ap length (sym commits.frames_are) ∙ framed_len known.header new.content (known.frames + length fs)

pub no_more_frames : (header : Option LogHeader) (log : List ℕ) (n : ℕ) → length (frames_under header log n) ≤ n
no_more_frames None log n = omega arith
no_more_frames (Some h) log n = omega (arith, framed_len h log n)

abbrev heads_in : List Framed → List FrameHeader
heads_in fs = map (λ (f : Framed). f.head) fs

pages_more : (fs : List Framed) (pages : List PageImage) (size : ℕ) → length (heads_in (fs ++ framed pages size)) ≡ length fs + length pages
pages_more fs pages size = omega (arith, length-map (fs ++ framed pages size) (λ (f : Framed). f.head), length-append fs (framed pages size), pages_len pages size)

last_has : (fs : List Framed) (pages : List PageImage) (size i : ℕ) (d : FrameHeader) → 0 < length pages → suc i ≡ length (heads_in (fs ++ framed pages size)) → (get_or (heads_in (fs ++ framed pages size)) i d).size ≡ size
last_has [] pages size i d some last = last_size pages size i d (omega (arith, last, pages_more [] pages size))
last_has (f ∷ fs) pages size zero d some last = absurd (omega (arith, last, some, pages_more fs pages size))
last_has (f ∷ fs) pages size (suc i) d some last = last_has fs pages size i d some (omega (arith, last))

by_last : (heads : List FrameHeader) (counted : Option ℕ) (len page_size size : ℕ) → 0 < length heads → ((i : ℕ) (d : FrameHeader) → suc i ≡ length heads → (get_or heads i d).size ≡ size) → IsViewSize heads counted len page_size size
by_last [] counted len page_size size some last = absurd (omega (arith, some))
by_last (h ∷ hs) counted len page_size size some last = sym (last (length hs) h refl)

-- the size after a commit is the commit's
pub commit_sized : (fs : List Framed) (pages : List PageImage) (counted : Option ℕ) (len page_size size : ℕ) → 0 < length pages → IsViewSize (map (λ (f : Framed). f.head) (fs ++ framed pages size)) counted len page_size size
commit_sized fs pages counted len page_size size some =
    by_last (heads_in (fs ++ framed pages size)) counted len page_size size (omega (arith, some, pages_more fs pages size)) (λ i d last. last_has fs pages size i d some last)

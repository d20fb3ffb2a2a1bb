-- What follows for what readers see (Database File Format, "Reader Algorithm").
use Rattle.std.specs.Prelude.{◌≡◌, ◌⊎◌, ◌≤◌, ℕ, Bool, List, [], ◌∷◌, ◌++◌, length, Option}
use Rattle.std.specs.List.{AllByRecursion}
use Rattle.disk.specs.File.{File}
use Rattle.wal_frame.specs.declared.log_header.LogHeader.{LogHeader}
use Rattle.wal_frame.specs.Written.{Framed}
use Rattle.wal.specs.declared.pages.PageImage.{PageImage}
use Rattle.wal.specs.Anew.{CommitsOver, base_of, kept_frames}
use Rattle.wal.specs.Committed.{frames_under}
use Rattle.wal.specs.Commits.{Commits, commits_of, grown}
use Rattle.wal.specs.LogState.{LogState, header_of}
use Rattle.wal.specs.Pages.{ArePages, framed}
use Rattle.wal.specs.View.{IsPage, IsPageIn}

-- the pages of a log are those of its frames
abbrev pub PagesAreOfFrames : Type 0
PagesAreOfFrames = (db log : List ℕ) (page_size : ℕ) (header : Option LogHeader) (n number : ℕ) (bytes : List ℕ)
    → (IsPage db log page_size header n number bytes → IsPageIn db page_size (frames_under header log n) number bytes)
    × (IsPageIn db page_size (frames_under header log n) number bytes → IsPage db log page_size header n number bytes)

-- a page has one content
abbrev pub PageIsOne : Type 0
PageIsOne = (db : List ℕ) (page_size : ℕ) (frames : List Framed) (number : ℕ) (a b : List ℕ) → IsPageIn db page_size frames number a → IsPageIn db page_size frames number b → a ≡ b

-- after a commit each snapshot before it sees the frames that it saw
abbrev pub SnapshotsStay : Type 0
SnapshotsStay = (known : LogState) (fs : List Framed) (old new : File) (count size n : ℕ) → Commits known fs old new → n ≤ known.frames
    → frames_under (header_of (grown known count size)) new.content n ≡ frames_under (header_of known) old.content n

-- and the newest snapshot sees those before the commit, where the log doesn't begin anew, and the commit's
abbrev pub CommitsFollow : Type 0
CommitsFollow = (known : LogState) (may_restart : Bool) (fs : List Framed) (old new : File) (count size : ℕ) → CommitsOver known may_restart fs old new → count ≡ length fs
    → commits_of (grown (base_of known may_restart) count size) new.content ≡ kept_frames known may_restart old.content ++ fs

-- the page is one of these, and has these bytes
abbrev pub IsAmong : List PageImage → ℕ → List ℕ → Type 0
IsAmong [] number bytes = ⊥
IsAmong (p ∷ ps) number bytes = ((p.number ≡ number) × (bytes ≡ p.bytes.items)) ⊎ IsAmong ps number bytes

-- the page is none of these
abbrev pub IsNotAmong : List PageImage → ℕ → Type 0
IsNotAmong pages number = AllByRecursion (λ (p : PageImage). p.number ≡ number → ⊥) pages

-- a page as it is where these were changed
abbrev pub IsChanged : List ℕ → ℕ → List Framed → List PageImage → ℕ → List ℕ → Type 0
IsChanged db page_size frames pages number bytes = IsAmong pages number bytes ⊎ (IsNotAmong pages number × IsPageIn db page_size frames number bytes)

-- The frames of a commit change its pages, and no others.
abbrev pub CommitChanges : Type 0
CommitChanges = (db : List ℕ) (page_size : ℕ) (frames : List Framed) (pages : List PageImage) (last size bytes number : ℕ) (content : List ℕ) → ArePages last size bytes pages
    → (IsPageIn db page_size (frames ++ framed pages size) number content → IsChanged db page_size frames pages number content)
    × (IsChanged db page_size frames pages number content → IsPageIn db page_size (frames ++ framed pages size) number content)

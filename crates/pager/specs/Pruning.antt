-- Which changes of a writer its commit writes: page 1, and each page whose bytes aren't those that its snapshot shows (Database File
-- Format, "WAL File Format").
use Rattle.std.specs.Prelude.{◌≡◌, ◌⊎◌, ◌↔◌, ◌≤◌, ℕ, List, [], ◌∷◌, Option, Some, None}
use Rattle.std.specs.List.{AllByRecursion}
use Rattle.wal.specs.declared.pages.PageImage.{PageImage}
use Rattle.pager.specs.declared.writer.Writer.{Writer}
use Rattle.pager.specs.Limits.{pages_of, page_size_of}
use Rattle.pager.specs.Sound.{IsSound}
use Rattle.pager.specs.Views.{View, ViewHas, IsViewPage, changes_of}
use Rattle.pager.specs.Writers.{makes_objects, seen, snapshot_of}

-- the view shows this page as it is, and it isn't page 1
pub record IsShown (view : View) (page : PageImage) : Type 0 where
  pub other : page.number ≡ 1 → ⊥
  pub shows : IsViewPage view page.number page.bytes.items

-- the first of these is the page, and this holds of the others
abbrev pub BeginsWith : PageImage → (List PageImage → Type 0) → List PageImage → Type 0
BeginsWith page Holds [] = ⊥
BeginsWith page Holds (q ∷ qs) = (q.number ≡ page.number) × (q.bytes.items ≡ page.bytes.items) × Holds qs

-- of these pages, those are the ones that the view doesn't show
abbrev pub AreNew : View → List PageImage → List PageImage → Type 0
AreNew view [] new = new ≡ []
AreNew view (p ∷ ps) new = (IsShown view p × AreNew view ps new) ⊎ ((IsShown view p → ⊥) × BeginsWith p (AreNew view ps) new)

-- some of these pages, in their order
abbrev pub AreSome : List PageImage → List PageImage → Type 0
AreSome [] some = some ≡ []
AreSome (p ∷ ps) some = AreSome ps some ⊎ BeginsWith p (AreSome ps) some

-- a writer that sees what another sees, and has only those of its changes that the view doesn't show
pub record IsPruned (view : View) (writer pruned : Writer) : Type 0 where
  pub sound : IsSound pruned
  pub size : pages_of pruned ≡ pages_of writer
  pub page_size : page_size_of pruned ≡ page_size_of writer
  pub snapshot : snapshot_of pruned ≡ snapshot_of writer
  pub objects : makes_objects pruned ≡ makes_objects writer
  pub changes : AreNew view (changes_of writer) (changes_of pruned)
  pub sees : (number : ℕ) (bytes : List ℕ) → ViewHas (seen view pruned) number bytes ↔ ViewHas (seen view writer) number bytes

-- such a writer was made, or none of its changes is shown
abbrev pub Prunes : View → Writer → Option Writer → Type 0
Prunes view writer None = AreNew view (changes_of writer) (changes_of writer)
Prunes view writer (Some pruned) = IsPruned view writer pruned

-- each of these pages has a number from 1 on
abbrev pub AreNumbered : List PageImage → Type 0
AreNumbered = AllByRecursion (λ (p : PageImage). 1 ≤ p.number)

-- each page of the view is there
abbrev pub AreAllThere : View → Type 0
AreAllThere view = (number : ℕ) → 1 ≤ number → number ≤ view.size → (bytes : List ℕ) × ViewHas view number bytes

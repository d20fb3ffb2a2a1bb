-- Views that show the same pages hold the same database.
use Rattle.std.proofs.Common.{◌≡◌, ◌≤◌, inl, inr, ℕ, List, refl, sym, subst, arith}
use Rattle.std.proofs.lemmas.Bool.{cases_lt}
use Rattle.catalog.specs.Database.{Database}
use Rattle.pages.specs.Map.{PageMap}
use Rattle.wal.specs.Laws.{IsChanged}
use Rattle.wal.specs.LogState.{size_of}
use Rattle.wal.specs.Sizes.{IsSizeWithinLimits}
use Rattle.wal.proofs.Changes.{page_one}
use Rattle.pager.specs.declared.writer.Writer.{Writer}
use Rattle.pager.specs.Limits.{pages_of}
use Rattle.pager.specs.Maps.{pages_in}
use Rattle.pager.specs.Sound.{IsSound}
use Rattle.pager.specs.Views.{View, ViewHas, changes_of}
use Rattle.pager.specs.Writers.{seen, snapshot_of}
use Rattle.pager.proofs.Mapping.{maps_within}
use Rattle.pager.proofs.Seeing.{seen_from, seen_to}
use Rattle.wal_checkpoint.specs.Shown.{ShowsSame}
use Rattle.db_pages.specs.Stored.{Stores}
use Rattle.session.specs.Stored.{ShowsDatabase}
use Rattle.session.proofs.FirstPages.{all_there}
use Rattle.catalog.specs.Listed.{Listed}

pub same_shown : (v w : View) (tables : Listed) (db : Database) → ShowsSame v w → ShowsDatabase v tables db → ShowsDatabase w tables db
same_shown v w tables db same shown = record {
  stored = subst (λ (n : ℕ). Stores (pages_in w) n tables db) (sym same.page_size) (subst (λ (map : PageMap). Stores map v.page_size tables db) maps shown.stored);
  served = subst (λ (n : ℕ). IsSizeWithinLimits n w.size) (sym same.page_size) (subst (IsSizeWithinLimits v.page_size) (sym same.size) shown.served);
}
  where
    back : (number : ℕ) (bytes : List ℕ) → 1 ≤ number → number ≤ v.size → ViewHas w number bytes → ViewHas v number bytes
    back number bytes low high has =
        let here = all_there v tables db shown number low high in
        let one : here.0 ≡ bytes = page_one w.db w.page_size w.frames number here.0 bytes (same.pages number here.0 low high here.1) has in
        subst (ViewHas v number) one here.1

    maps : pages_in v ≡ pages_in w
    maps = maps_within v w (sym same.size) (λ number bytes low high.
        (let within : number ≤ v.size = omega (arith, high, same.size) in (
          (λ has. same.pages number bytes low within has),
          (λ has. back number bytes low within has),
        )))

-- and so do those that a writer sees over them
pub same_seen : (v w : View) (writer : Writer) → ShowsSame v w → IsSound writer → size_of (snapshot_of writer) ≡ v.size → ShowsSame (seen v writer) (seen w writer)
same_seen v w writer same sound sized = record {
  page_size = same.page_size;
  size = refl;
  pages = λ number bytes low high has. by_change number bytes low high (seen_from v writer number bytes sound.consistent has);
}
  where
    by_change : (number : ℕ) (bytes : List ℕ) → 1 ≤ number → number ≤ pages_of writer → IsChanged v.db v.page_size v.frames (changes_of writer) number bytes → ViewHas (seen w writer) number bytes
    by_change number bytes low high (inl among) = seen_to w writer number bytes sound.consistent (inl among)
    by_change number bytes low high (inr none) = elim (cases_lt v.size number) [
      | inl past ↦ absurd (sound.reaches number (omega (arith, past, sized)) high none.0)
      | inr within ↦ seen_to w writer number bytes sound.consistent (inr (none.0, same.pages number bytes low within none.1))
    ]

-- The pages that a connection sees.
use Rattle.std.proofs.Common.{◌≡◌, ◌≤◌, inl, inr, refl, ap, subst, ℕ, List, arith}
use Rattle.disk.specs.declared.device.Disk.{Ghosts}
use Rattle.wal.specs.Committed.{frames_under}
use Rattle.wal.specs.LogState.{db_of, log_of, state_of, header_of, seen_by}
use Rattle.wal.specs.declared.log.Log.{Log}
use Rattle.wal.specs.declared.log.Snapshot.{Snapshot}
use Rattle.wal.proofs.Changes.{page_one}
use Rattle.session.specs.declared.savepoints.SavedCatalogs.{SavedCatalogs}
use Rattle.pager.specs.Views.{ViewHas, View, newest_view, view_at}
use Rattle.pager.specs.declared.writer.Writer.{Writer}
use Rattle.catalog.specs.Database.{Database}
use Rattle.session.specs.Machine.{Connection, Machine}
use Rattle.session.specs.Representation.{IsTransaction, seen_in}
use Rattle.session.specs.Writers.{IsNewest, IsWriter, SeesBy}
use Rattle.session.specs.declared.seats.Transaction.{Transaction}
use Rattle.session.specs.declared.seats.Transaction.TheVariants as transaction

pub one_page : (view : View) (number : ℕ) (a b : List ℕ) → ViewHas view number a → ViewHas view number b → a ≡ b
one_page view number a b = page_one view.db view.page_size view.frames number a b

module _ {D : Type 0} {g : Ghosts D} where
  pub at_newest : (files : Log D g) (snapshot : Snapshot) → IsNewest files snapshot → view_at files snapshot ≡ newest_view files
  at_newest files snapshot is = λ i. record {
    db = (g.file (db_of files)).content;
    frames = frames_under (header_of (state_of files)) (g.file (log_of files)).content (is.seen i);
    page_size = (state_of files).page_size;
    size = is.sized i;
  }

  pub writer_of : (files : Log D g) (catalog : SavedCatalogs) (m : Machine) (t : Transaction) (k : Connection) (w : Writer) → t ≡ transaction.Writing w → IsTransaction files catalog m.history t k → IsWriter files w
  writer_of files catalog m t k w is are = (subst (λ (x : Transaction). IsTransaction files catalog m.history x k) is are).may

  -- what a snapshot shows that isn't a writer's
  pub sight_is : (files : Log D g) (t : Transaction) (s : Snapshot) → ((w : Writer) → t ≡ transaction.Writing w → ⊥) → SeesBy files t s → view_at files s ≡ seen_in t files
  sight_is files transaction.Idle s other sees = at_newest files s sees
  sight_is files transaction.Begun s other sees = at_newest files s sees
  sight_is files (transaction.Reading own) s other sees = ap (view_at files) sees
  sight_is files (transaction.Writing w) s other sees = absurd (other w refl)

  -- it has seen no more frames than there are
  pub sight_within : (files : Log D g) (catalog : SavedCatalogs) (history : List Database) (t : Transaction) (k : Connection) (s : Snapshot) → ((w : Writer) → t ≡ transaction.Writing w → ⊥) → IsTransaction files catalog history t k → SeesBy files t s
      → seen_by s ≤ (state_of files).frames
  sight_within files catalog history transaction.Idle k s other is sees = omega (arith, sees.seen)
  sight_within files catalog history transaction.Begun k s other is sees = omega (arith, sees.seen)
  sight_within files catalog history (transaction.Reading own) k s other is sees = elim is.2.age [
    | inl last ↦ omega (arith, last.1.seen, ap seen_by sees)
    | inr before ↦ omega (arith, before.1, ap seen_by sees)
  ]
  sight_within files catalog history (transaction.Writing w) k s other is sees = absurd (other w refl)

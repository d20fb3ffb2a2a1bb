-- The contents of two files have one view.
use Rattle.std.proofs.Common.{◌≡◌, ◌∙◌, refl, sym, ap, subst, ℕ, List, length, map}
use Rattle.std.specs.Prelude.{Option, Some, None, Result, Ok}
use Rattle.sqlval.specs.PageSizes.{IsPageSize}
use Rattle.db_header.specs.Header.{IsHeader, counted_of}
use Rattle.db_header.specs.declared.fields.Header.{Header}
use Rattle.wal_frame.specs.Written.{Framed}
use Rattle.wal_frame.specs.declared.log_header.LogHeader.{LogHeader}
use Rattle.wal.specs.Committed.{AreCommitted, frames_under}
use Rattle.wal.specs.Sizes.{IsViewSize}
use Rattle.wal.proofs.Openable.{committed_one, one_size, some_size}
use Rattle.catalog.specs.Database.{Database}
use Rattle.pager.specs.Maps.{pages_in}
use Rattle.pager.specs.Views.{View}
use Rattle.db_pages.specs.Stored.{Stores}
use Rattle.db_pages.specs.Standing.{StoredOnce}
use Rattle.session.specs.Holding.{StoreFiles}
use Rattle.session.proofs.StoredFiles.{stored_if_held}
use Rattle.engine.specs.Promises.{HeldOnce}
use Rattle.session.proofs.StandingViews.{one_header}

ok_is : {A E : Type 0} (a b : A) → ◌≡◌ {A = Result A E} (Ok a) (Ok b) → a ≡ b
ok_is a b h = cc

-- so many frames of a log are committed
one_count : (header : Option LogHeader) (log : List ℕ) (a b m n : ℕ) → AreCommitted log a header m → AreCommitted log b header n → m ≡ n
one_count None log a b m n one other = one ∙ sym other
one_count (Some h) log a b m n one other = committed_one h log m n one.1 other.1

head_of : (db log : List ℕ) (database : Database) (held : StoreFiles db log database) → IsHeader db held.found.head
head_of db log database held = subst (λ (d : List ℕ). IsHeader d held.found.head) held.db_is held.found.head_is

module _ (db log : List ℕ) (a b : Database) (one : StoreFiles db log a) (other : StoreFiles db log b) where
  one_head : one.found.head ≡ other.found.head
  one_head = one_header db db one.found.head other.found.head refl (head_of db log a one) (head_of db log b other)

  one_page_size : one.view.page_size ≡ other.view.page_size
  one_page_size = sym one.found.head_size ∙ ap (λ (h : Header). h.page_size) one_head ∙ other.found.head_size

  one_log : one.commits.header ≡ other.commits.header
  one_log = ok_is one.commits.header other.commits.header (sym one.commits.header_is ∙ other.commits.header_is)

  one_length : length one.view.frames ≡ length other.view.frames
  one_length = one_count other.commits.header log one.view.page_size other.view.page_size (length one.view.frames) (length other.view.frames)
      (subst (λ (h : Option LogHeader). AreCommitted log one.view.page_size h (length one.view.frames)) one_log one.commits.committed) other.commits.committed

  one_frames : one.view.frames ≡ other.view.frames
  one_frames = one.commits.frames_are ∙ (λ i. frames_under (one_log i) log (one_length i)) ∙ sym other.commits.frames_are

  one_db : one.view.db ≡ other.view.db
  one_db = one.db_is ∙ sym other.db_is

  abbrev sized_by : List Framed → Header → List ℕ → ℕ → Type 0
  sized_by frames head bytes page_size = IsViewSize (map (λ f. f.head) frames) (counted_of head) (length bytes) page_size one.view.size

  same_sized : sized_by other.view.frames other.found.head other.view.db other.view.page_size
  same_sized =
      subst (λ (n : ℕ). sized_by other.view.frames other.found.head other.view.db n) one_page_size
      (subst (λ (d : List ℕ). sized_by other.view.frames other.found.head d one.view.page_size) one_db
      (subst (λ (h : Header). sized_by other.view.frames h one.view.db one.view.page_size) one_head
      (subst (λ (fs : List Framed). sized_by fs one.found.head one.view.db one.view.page_size) one_frames one.found.sized)))

  one_view_size : one.view.size ≡ other.view.size
  one_view_size =
      let some = some_size other.view.page_size (subst IsPageSize other.found.head_size other.found.head_is.served) in
      one_size (map (λ f. f.head) other.view.frames) (counted_of other.found.head) (length other.view.db) other.view.page_size one.view.size other.view.size some same_sized other.found.sized

  -- They hold their databases by one view.
  pub one_view : one.view ≡ other.view
  one_view = λ i. record { db = one_db i; frames = one_frames i; page_size = one_page_size i; size = one_view_size i }

-- Two databases that the contents of two files hold are one.
pub held_once : StoredOnce → HeldOnce
held_once once db log a b one other =
    let first = stored_if_held db log a one in
    let second = stored_if_held db log b other in
    once (pages_in first.view) first.view.page_size first.tables second.tables a b first.stored.stored
    (subst (λ (v : View). Stores (pages_in v) v.page_size second.tables b) (sym (one_view db log a b first second)) second.stored.stored)

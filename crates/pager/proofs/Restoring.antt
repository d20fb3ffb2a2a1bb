-- A first page that got a header and then its own again is what it was.
use Rattle.std.proofs.Common.{◌≡◌, ◌<◌, ◌≤◌, ◌^◌, ℕ, List, [], ◌∷◌, Vec, length, refl, sym, ◌∙◌, ap, subst, arith}
use Rattle.std.specs.Coded.{×_prop, le_prop, Coded-set, coded_ℕ}
use Rattle.std.specs.declared.alloc.Global.{Global}
use Rattle.db_header.specs.declared.fields.Header.{Header}
use Rattle.wal.specs.declared.pages.PageImage.{PageImage}
use Rattle.pager.specs.declared.saved.Saved.{Saved}
use Rattle.pager.specs.declared.saved.Mark.{Mark}
use Rattle.pager.specs.declared.writer.Writer.{Writer}
use Rattle.pager.specs.Marks.{changes_at_each, marks_of, now_of}
use Rattle.pager.specs.Undo.{IsKept}
use Rattle.pager.specs.Views.{changes_of}
use Rattle.pager.specs.Writers.{FirstIsBytes, HasHeader, Reheads, SetsFirst}
use Rattle.pager.proofs.Undoing.{kept_over}

-- ---- bytes in the same place

module _ (w : Vec ℕ Global) where
  same_facts : (ok : (w.len ≡ length w.items) × (w.len ≤ w.cap)) (small : w.cap < 2 ^ 63) → w ≡ record { ptr = w.ptr; len = w.len; cap = w.cap; alloc = w.alloc; items = w.items; ok = ok; small = small }
  same_facts ok small =
      ap (λ k. record { ptr = w.ptr; len = w.len; cap = w.cap; alloc = w.alloc; items = w.items; ok = k; small = w.small }) (×_prop (Coded-set coded_ℕ w.len (length w.items)) le_prop w.ok ok)
      ∙ ap (λ k. record { ptr = w.ptr; len = w.len; cap = w.cap; alloc = w.alloc; items = w.items; ok = ok; small = k }) (le_prop w.small small)

  same_numbers_of : (cap len : ℕ) (items : List ℕ) → w.cap ≡ cap → w.len ≡ len → w.items ≡ items → (ok : (len ≡ length items) × (len ≤ cap)) (small : cap < 2 ^ 63)
      → w ≡ record { ptr = w.ptr; len = len; cap = cap; alloc = w.alloc; items = items; ok = ok; small = small }
  same_numbers_of cap len items cap_is len_is items_is =
      subst (λ (c : ℕ). (ok : (len ≡ length items) × (len ≤ c)) (small : c < 2 ^ 63) → w ≡ record { ptr = w.ptr; len = len; cap = c; alloc = w.alloc; items = items; ok = ok; small = small }) cap_is
      (subst (λ (n : ℕ). (ok : (n ≡ length items) × (n ≤ w.cap)) (small : w.cap < 2 ^ 63) → w ≡ record { ptr = w.ptr; len = n; cap = w.cap; alloc = w.alloc; items = items; ok = ok; small = small }) len_is
      (subst (λ (xs : List ℕ). (ok : (w.len ≡ length xs) × (w.len ≤ w.cap)) (small : w.cap < 2 ^ 63) → w ≡ record { ptr = w.ptr; len = w.len; cap = w.cap; alloc = w.alloc; items = xs; ok = ok; small = small }) items_is same_facts))

  same_bytes : (v : Vec ℕ Global) → w.ptr ≡ v.ptr → w.cap ≡ v.cap → w.alloc ≡ v.alloc → w.items ≡ v.items → w ≡ v
  same_bytes v ptr cap alloc items =
      same_numbers_of v.cap v.len v.items cap (w.ok.0 ∙ ap length items ∙ sym v.ok.0) items v.ok v.small
      ∙ ap (λ p. record { ptr = p; len = v.len; cap = v.cap; alloc = w.alloc; items = v.items; ok = v.ok; small = v.small }) ptr
      ∙ ap (λ a. record { ptr = v.ptr; len = v.len; cap = v.cap; alloc = a; items = v.items; ok = v.ok; small = v.small }) alloc

pub same_image : (p r : PageImage) → r.number ≡ p.number → r.bytes.ptr ≡ p.bytes.ptr → r.bytes.cap ≡ p.bytes.cap → r.bytes.alloc ≡ p.bytes.alloc → r.bytes.items ≡ p.bytes.items → r ≡ p
same_image p r number ptr cap alloc items =
    ap (λ n. record { number = n; bytes = r.bytes }) number ∙ ap (λ (b : Vec ℕ Global). record { number = p.number; bytes = b }) (same_bytes r.bytes p.bytes ptr cap alloc items)

-- ---- the first of some pages

restored : (ps qs rs : List PageImage) (header : Header) → HasHeader ps header → FirstIsBytes ps → Reheads ps rs header → SetsFirst ps qs → SetsFirst qs rs → rs ≡ ps
restored [] qs rs header has bytes again first second = absurd has
restored (p ∷ ps) [] rs header has bytes again first second = absurd first
restored (p ∷ ps) (q ∷ qs) [] header has bytes again first second = absurd second
restored (p ∷ ps) (q ∷ qs) (r ∷ rs) header has bytes again first second =
    let items : p.bytes.items ≡ r.bytes.items = again.1.only p.bytes.items bytes has refl in
    ap (λ (x : PageImage). x ∷ rs) (same_image p r again.0 (second.1.start ∙ first.1.start) (second.1.capacity ∙ first.1.capacity) (second.1.allocator ∙ first.1.allocator) (sym items)) ∙ ap (λ xs. p ∷ xs) again.2

-- what changes the first of them in its place keeps the log whole
pub kept_first : (most : ℕ) (es : List Saved) (ps qs : List PageImage) (ts : List ℕ) (ms : List Mark) → IsKept most es ps ts ms → SetsFirst ps qs → IsKept most es qs ts ms
kept_first most es [] qs ts ms is first = subst (λ rs. IsKept most es rs ts ms) (sym first) is
kept_first most es (p ∷ ps) [] ts ms is first = absurd first
kept_first most es (p ∷ ps) (q ∷ qs) ts ms is first =
    subst (λ rs. IsKept most es (q ∷ rs) ts ms) (sym first.2) (kept_over most es (p ∷ ps) ts ms 0 q is (record { within = omega arith; number_is = λ d. sym first.0 }))

-- ---- a writer

-- one whose first page got another header, in its place
pub record IsReset (old new : Writer) : Type 0 where
  pub first : SetsFirst (changes_of old) (changes_of new)
  pub bytes : FirstIsBytes (changes_of old)
  pub saved : new.saved ≡ old.saved
  pub marks : new.marks ≡ old.marks

-- a writer with the same pages
pub reset_same : (old mid new : Writer) → IsReset old mid → changes_of new ≡ changes_of mid → (new.saved ≡ mid.saved) × (new.marks ≡ mid.marks) → IsReset old new
reset_same old mid new is pages log = record {
  first = subst (SetsFirst (changes_of old)) (sym pages) is.first;
  bytes = is.bytes;
  saved = log.0 ∙ is.saved;
  marks = log.1 ∙ is.marks;
}

module _ (writer mid left : Writer) (header : Header) (has : HasHeader (changes_of writer) header) (one : IsReset writer mid) (two : IsReset mid left) (again : Reheads (changes_of writer) (changes_of left) header) where
  changes_again : changes_of left ≡ changes_of writer
  changes_again = restored (changes_of writer) (changes_of mid) (changes_of left) header has one.bytes again one.first two.first

  pub now_again : left.size ≡ writer.size → left.has_new_objects ≡ writer.has_new_objects → now_of left ≡ now_of writer
  now_again size objects =
      ap (λ ps. record { pages = ps; size = left.size; makes_objects = left.has_new_objects }) changes_again
      ∙ ap (λ n. record { pages = changes_of writer; size = n; makes_objects = left.has_new_objects }) size
      ∙ ap (λ b. record { pages = changes_of writer; size = writer.size; makes_objects = b }) objects

  pub marks_again : marks_of left ≡ marks_of writer
  marks_again =
      ap (λ ps. changes_at_each left.saved.items ps left.marks.items) changes_again
      ∙ ap (λ (es : Vec Saved Global). changes_at_each es.items (changes_of writer) left.marks.items) (two.saved ∙ one.saved)
      ∙ ap (λ (ms : Vec Mark Global). changes_at_each writer.saved.items (changes_of writer) ms.items) (two.marks ∙ one.marks)

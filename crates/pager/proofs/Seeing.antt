-- What a writer sees after its changes.
use Rattle.std.proofs.Common.{◌≡◌, ◌⊎◌, inl, inr, ◌≤◌, ℕ, List, [], ◌∷◌, length, sym, ◌∙◌, ap, set, subst, arith}
use Rattle.std.specs.Prelude.{◌↔◌, IsFalse, max, Result, Ok, Err, IfErr}
use Rattle.sqlval.specs.declared.fault.Fault.{Fault}
use Rattle.std.specs.List.{insert}
use Rattle.std.proofs.lemmas.Bool.{cases_eq}
use Rattle.std.proofs.lemmas.Bool.Decides.{nat_tests}
use Rattle.wal.specs.declared.pages.PageImage.{PageImage}
use Rattle.wal.specs.Laws.{IsAmong, IsNotAmong, IsChanged}
use Rattle.wal.specs.Pages.{ArePages}
use Rattle.wal.proofs.Changes.{from_commit, page_one, to_commit}
use Rattle.pager.specs.declared.writer.Writer.{Writer}
use Rattle.pager.specs.Limits.{pages_of, page_size_of}
use Rattle.pager.specs.Marks.{marks_of}
use Rattle.pager.specs.Views.{View, ViewHas, after, changes_of}
use Rattle.pager.specs.Writers.{BeginAtPageOne, IsAt, IsBegun, IsGapFor, IsConsistent, ReplacesPages, makes_objects, seen, snapshot_of}
use Rattle.pager.proofs.WriterPages.{Put, among_and_not, at_most, insert_begins, insert_pages, insert_puts, larger, set_begins, set_pages, set_puts}

-- a page that a writer sees is among its changes, or is the view's and none of them
pub seen_from : (view : View) (writer : Writer) (number : ℕ) (bytes : List ℕ) → IsConsistent writer → ViewHas (seen view writer) number bytes → IsChanged view.db view.page_size view.frames (changes_of writer) number bytes
seen_from view writer number bytes whole has = from_commit view.db view.page_size view.frames (changes_of writer) 0 (pages_of writer) (page_size_of writer) number bytes whole.pages has

pub seen_to : (view : View) (writer : Writer) (number : ℕ) (bytes : List ℕ) → IsConsistent writer → IsChanged view.db view.page_size view.frames (changes_of writer) number bytes → ViewHas (seen view writer) number bytes
seen_to view writer number bytes whole is = to_commit view.db view.page_size view.frames (changes_of writer) 0 (pages_of writer) (page_size_of writer) number bytes whole.pages is

-- a page among the changes is seen over whatever view, and one that is not is the view's
pub among_seen : (writer : Writer) (number : ℕ) (bytes : List ℕ) → IsConsistent writer → IsAmong (changes_of writer) number bytes → (view : View) → ViewHas (seen view writer) number bytes
among_seen writer number bytes whole among view = seen_to view writer number bytes whole (inl among)

pub not_among_seen : (writer : Writer) (number : ℕ) → IsConsistent writer → IsNotAmong (changes_of writer) number → (view : View) (bytes : List ℕ) → ViewHas (seen view writer) number bytes ↔ ViewHas view number bytes
not_among_seen writer number whole none view bytes = ((λ has. below (seen_from view writer number bytes whole has)), (λ has. seen_to view writer number bytes whole (inr (none, has))))
  where
    below : IsChanged view.db view.page_size view.frames (changes_of writer) number bytes → ViewHas view number bytes
    below (inl among) = absurd (among_and_not (changes_of writer) number bytes among none)
    below (inr rest) = rest.1

-- the greater of two
left_of : (a b : ℕ) → a ≤ max a b
left_of a b = grind (arith, nat_tests)

right_of : (a b : ℕ) → b ≤ max a b
right_of a b = grind (arith, nat_tests)

no_larger : (a b : ℕ) → b ≤ a → max a b ≡ a
no_larger a b le = grind (arith, nat_tests)

-- a put page
module _ (page : PageImage) (old new : Writer) (was : IsConsistent old) (is : IsConsistent new) (put : Put page (changes_of old) (changes_of new)) where
  put_forth : (view : View) (number : ℕ) (bytes : List ℕ) → IsChanged view.db view.page_size view.frames (changes_of new) number bytes
      → IsAmong (page ∷ []) number bytes ⊎ (IsNotAmong (page ∷ []) number × ViewHas (seen view old) number bytes)
  put_forth view number bytes changed = elim (cases_eq page.number number) [
    | inl same ↦ inl (inl (same, here same changed))
    | inr other ↦ inr ((other, tt), seen_to view old number bytes was (before other changed))
  ]
    where
      here : page.number ≡ number → IsChanged view.db view.page_size view.frames (changes_of new) number bytes → bytes ≡ page.bytes.items
      here same (inl among) = put.here bytes (subst (λ (n : ℕ). IsAmong (changes_of new) n bytes) (sym same) among)
      here same (inr none) = absurd (among_and_not (changes_of new) page.number page.bytes.items put.there (subst (IsNotAmong (changes_of new)) (sym same) none.0))

      before : (page.number ≡ number → ⊥) → IsChanged view.db view.page_size view.frames (changes_of new) number bytes → IsChanged view.db view.page_size view.frames (changes_of old) number bytes
      before other (inl among) = inl (put.forth number bytes other among)
      before other (inr none) = inr (put.none_forth number other none.0, none.1)

  put_back : (view : View) (number : ℕ) (bytes : List ℕ) → IsAmong (page ∷ []) number bytes ⊎ (IsNotAmong (page ∷ []) number × ViewHas (seen view old) number bytes)
      → ViewHas (seen view new) number bytes
  put_back view number bytes (inl (inl here)) = seen_to view new number bytes is (inl (subst (λ (n : ℕ). IsAmong (changes_of new) n bytes) here.0 (subst (IsAmong (changes_of new) page.number) (sym here.1) put.there)))
  put_back view number bytes (inl (inr none)) = absurd none
  put_back view number bytes (inr rest) = seen_to view new number bytes is (now (seen_from view old number bytes was rest.1))
    where
      now : IsChanged view.db view.page_size view.frames (changes_of old) number bytes → IsChanged view.db view.page_size view.frames (changes_of new) number bytes
      now (inl among) = inl (put.back number bytes rest.0.0 among)
      now (inr none) = inr (put.none_back number rest.0.0 none.0, none.1)

  pub puts : pages_of new ≡ max (pages_of old) page.number → page_size_of new ≡ page_size_of old → snapshot_of new ≡ snapshot_of old → marks_of new ≡ marks_of old → ReplacesPages (page ∷ []) old new
  puts size page_size snapshot marks = record {
    sees = λ view number bytes. ((λ has. put_forth view number bytes (seen_from view new number bytes is has)), put_back view number bytes);
    size = size;
    page_size = page_size;
    snapshot = snapshot;
    marks = marks;
    rest = λ number none. (let away = others_rest number none in ((away, tt), put.none_forth number away none));
  }
    where
      others_rest : (number : ℕ) → IsNotAmong (changes_of new) number → page.number ≡ number → ⊥
      others_rest number none same = among_and_not (changes_of new) page.number page.bytes.items put.there (subst (IsNotAmong (changes_of new)) (sym same) none)

-- what a put made of a writer
pub record IsPut (page : PageImage) (old new : Writer) : Type 0 where
  pub whole : IsConsistent new
  pub puts : ReplacesPages (page ∷ []) old new

pub replaced : (old new : Writer) (i : ℕ) (page : PageImage) → IsConsistent old → IsAt (changes_of old) page.number i → length page.bytes.items ≡ page_size_of old
    → changes_of new ≡ set (changes_of old) i page → pages_of new ≡ pages_of old → page_size_of new ≡ page_size_of old → snapshot_of new ≡ snapshot_of old → marks_of new ≡ marks_of old → IsPut page old new
replaced old new i page was at len changes size page_size snapshot marks =
    let are : ArePages 0 (pages_of old) (page_size_of old) (changes_of new) =
    subst (ArePages 0 (pages_of old) (page_size_of old)) (sym changes) (set_pages 0 (pages_of old) (page_size_of old) (changes_of old) i page was.pages at len) in
    let whole : IsConsistent new = record {
      pages = subst (λ (n : ℕ). ArePages 0 n (page_size_of new) (changes_of new)) (sym size) (subst (λ (n : ℕ). ArePages 0 (pages_of old) n (changes_of new)) (sym page_size) are);
      first = subst BeginAtPageOne (sym changes) (set_begins (changes_of old) i page was.first at);
    } in
    let put : Put page (changes_of old) (changes_of new) = subst (Put page (changes_of old)) (sym changes) (set_puts 0 (pages_of old) (page_size_of old) (changes_of old) i page was.pages at) in
    let most = at_most 0 (pages_of old) (page_size_of old) (changes_of old) page.number i was.pages at in
    record { whole = whole; puts = puts page old new was whole put (size ∙ sym (no_larger (pages_of old) page.number most)) page_size snapshot marks }

pub inserted : (old new : Writer) (i : ℕ) (page : PageImage) → IsConsistent old → IsGapFor (changes_of old) page.number i → 1 ≤ page.number → length page.bytes.items ≡ page_size_of old
    → changes_of new ≡ insert (changes_of old) i page → pages_of new ≡ max (pages_of old) page.number → page_size_of new ≡ page_size_of old → snapshot_of new ≡ snapshot_of old → marks_of new ≡ marks_of old → IsPut page old new
inserted old new i page was gap low len changes size page_size snapshot marks =
    let more = larger 0 (pages_of old) (max (pages_of old) page.number) (page_size_of old) (changes_of old) (left_of (pages_of old) page.number) was.pages in
    let are : ArePages 0 (max (pages_of old) page.number) (page_size_of old) (changes_of new) =
    subst (ArePages 0 (max (pages_of old) page.number) (page_size_of old)) (sym changes)
    (insert_pages 0 (max (pages_of old) page.number) (page_size_of old) (changes_of old) i page more gap low (right_of (pages_of old) page.number) len) in
    let whole : IsConsistent new = record {
      pages = subst (λ (n : ℕ). ArePages 0 n (page_size_of new) (changes_of new)) (sym size) (subst (λ (n : ℕ). ArePages 0 (max (pages_of old) page.number) n (changes_of new)) (sym page_size) are);
      first = subst BeginAtPageOne (sym changes) (insert_begins (changes_of old) i page was.first gap low);
    } in
    let put : Put page (changes_of old) (changes_of new) = subst (Put page (changes_of old)) (sym changes) (insert_puts (changes_of old) i page gap) in
    record { whole = whole; puts = puts page old new was whole put size page_size snapshot marks }

-- ---- what differs in nothing that a writer sees

pub record AreAlike (old new : Writer) : Type 0 where
  pub changes : changes_of new ≡ changes_of old
  pub size : pages_of new ≡ pages_of old
  pub page_size : page_size_of new ≡ page_size_of old
  pub snapshot : snapshot_of new ≡ snapshot_of old

pub whole_same : (old new : Writer) → AreAlike old new → IsConsistent old → IsConsistent new
whole_same old new same was = record {
  pages = subst (λ (n : ℕ). ArePages 0 n (page_size_of new) (changes_of new)) (sym same.size)
      (subst (λ (n : ℕ). ArePages 0 (pages_of old) n (changes_of new)) (sym same.page_size) (subst (ArePages 0 (pages_of old) (page_size_of old)) (sym same.changes) was.pages));
  first = subst BeginAtPageOne (sym same.changes) was.first;
}

seen_is : (view : View) (old new : Writer) → AreAlike old new → (number : ℕ) (bytes : List ℕ) → ViewHas (seen view old) number bytes → ViewHas (seen view new) number bytes
seen_is view old new same number bytes has = subst (λ (n : ℕ). ViewHas (after view (changes_of new) n) number bytes) (sym same.size) (subst (λ (ps : List PageImage). ViewHas (after view ps (pages_of old)) number bytes) (sym same.changes) has)

-- page 1 is among pages that it begins
pub first_not_missing : (ps : List PageImage) → BeginAtPageOne ps → IsNotAmong ps 1 → ⊥
first_not_missing [] first none = first
first_not_missing (p ∷ ps) first none = none.0 first

pub never : {T : Type 0} (result : Result T Fault) (P : Fault → Type 0) → IfErr result (λ fault. ⊥) → IfErr result P
never (Ok x) P bad = tt
never (Err fault) P bad = absurd bad

pub refuted : {T : Type 0} (result : Result T Fault) (P : Type 0) → (P → ⊥) → IfErr result (λ fault. P) → IfErr result (λ fault. ⊥)
refuted (Ok x) P not bad = tt
refuted (Err fault) P not bad = not bad

-- ---- the beginning

pub begun : (view : View) (writer : Writer) (page : PageImage) → page.number ≡ 1 → changes_of writer ≡ page ∷ [] → pages_of writer ≡ view.size → page_size_of writer ≡ view.page_size → IsFalse (makes_objects writer) → 1 ≤ view.size
    → length page.bytes.items ≡ view.page_size → ViewHas view 1 page.bytes.items → marks_of writer ≡ [] → IsBegun view writer
begun view writer page number_is changes size page_size objects some len has marks = record { whole = whole; size = size; page_size = page_size; objects = objects; marks = marks; sees = λ number bytes. (forth number bytes, back number bytes) }
  where
    whole : IsConsistent writer
    whole = record {
      pages = subst (ArePages 0 (pages_of writer) (page_size_of writer)) (sym changes) (omega (arith, number_is), omega (arith, number_is, size, some), len ∙ sym page_size, tt);
      first = subst BeginAtPageOne (sym changes) number_is;
    }

    from_page : (number : ℕ) (bytes : List ℕ) → IsChanged view.db view.page_size view.frames (page ∷ []) number bytes → ViewHas view number bytes
    from_page number bytes (inl (inl here)) = subst (λ (n : ℕ). ViewHas view n bytes) (sym number_is ∙ here.0) (subst (ViewHas view 1) (sym here.1) has)
    from_page number bytes (inl (inr none)) = absurd none
    from_page number bytes (inr rest) = rest.1

    to_page : (number : ℕ) (bytes : List ℕ) → ViewHas view number bytes → IsChanged view.db view.page_size view.frames (page ∷ []) number bytes
    to_page number bytes is = elim (cases_eq page.number number) [
      | inl same ↦ inl (inl (same, page_one view.db view.page_size view.frames 1 bytes page.bytes.items (subst (λ (n : ℕ). ViewHas view n bytes) (sym same ∙ number_is) is) has))
      | inr other ↦ inr ((other, tt), is)
    ]

    forth : (number : ℕ) (bytes : List ℕ) → ViewHas (seen view writer) number bytes → ViewHas view number bytes
    forth number bytes is = from_page number bytes (subst (λ (ps : List PageImage). IsChanged view.db view.page_size view.frames ps number bytes) changes (seen_from view writer number bytes whole is))

    back : (number : ℕ) (bytes : List ℕ) → ViewHas view number bytes → ViewHas (seen view writer) number bytes
    back number bytes is = seen_to view writer number bytes whole (subst (λ (ps : List PageImage). IsChanged view.db view.page_size view.frames ps number bytes) (sym changes) (to_page number bytes is))

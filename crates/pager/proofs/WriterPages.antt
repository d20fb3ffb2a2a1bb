-- Where a page is among those of a writer, and what putting one there makes of them.
use Rattle.std.proofs.Common.{◌≡◌, inl, inr, ◌<◌, ◌≤◌, ℕ, zero, suc, List, [], ◌∷◌, length, get_or, set, refl, sym, ◌∙◌, subst, arith}
use Rattle.std.specs.List.{insert, AllByRecursion}
use Rattle.wal.specs.declared.pages.PageImage.{PageImage}
use Rattle.wal.specs.Laws.{IsAmong, IsNotAmong}
use Rattle.wal.specs.Pages.{ArePages}
use Rattle.pager.specs.Writers.{BeginAtPageOne, IsAt, IsGapFor}

abbrev number_at : List PageImage → ℕ → PageImage → ℕ
number_at ps i d = (get_or ps i d).number

-- numbers rise
above : (last size bytes : ℕ) (ps : List PageImage) → ArePages last size bytes ps → (j : ℕ) (d : PageImage) → j < length ps → last < number_at ps j d
above last size bytes [] are j d lt = absurd (omega (arith, lt))
above last size bytes (p ∷ ps) are zero d lt = are.0
above last size bytes (p ∷ ps) are (suc j) d lt = (let more = above p.number size bytes ps are.3 j d (omega (arith, lt)) in omega (arith, more, are.0))

-- ---- the page at a place is among them, and a page that has a gap is not

pub among_at : (ps : List PageImage) (number i : ℕ) (bytes : List ℕ) → IsAt ps number i → (x : PageImage) → bytes ≡ (get_or ps i x).bytes.items → IsAmong ps number bytes
among_at [] number i bytes at x is = absurd (omega (arith, at.within))
among_at (p ∷ ps) number zero bytes at x is = inl (at.number_is x, is)
among_at (p ∷ ps) number (suc i) bytes at x is = inr (among_at ps number i bytes (record { within = omega (arith, at.within); number_is = λ d. at.number_is d }) x is)

-- pages above a number are others
pub others : (last size bytes number : ℕ) (ps : List PageImage) → number ≤ last → ArePages last size bytes ps → IsNotAmong ps number
others last size bytes number [] le are = tt
others last size bytes number (p ∷ ps) le are = ((λ is. omega (arith, is, le, are.0)), others p.number size bytes number ps (omega (arith, le, are.0)) are.3)

greater_others : (number : ℕ) (ps : List PageImage) → AllByRecursion (λ (p : PageImage). number < p.number) ps → IsNotAmong ps number
greater_others number [] all = tt
greater_others number (p ∷ ps) all = ((λ is. omega (arith, is, all.0)), greater_others number ps all.1)

gap_tail : (p : PageImage) (ps : List PageImage) (number i : ℕ) → IsGapFor (p ∷ ps) number (suc i) → IsGapFor ps number i
gap_tail p ps number i gap = record { within = omega (arith, gap.within); smaller = gap.smaller.1; greater = gap.greater }

pub not_among_gap : (ps : List PageImage) (number i : ℕ) → IsGapFor ps number i → IsNotAmong ps number
not_among_gap [] number i gap = tt
not_among_gap (p ∷ ps) number zero gap = greater_others number (p ∷ ps) gap.greater
not_among_gap (p ∷ ps) number (suc i) gap = ((λ is. omega (arith, is, gap.smaller.0)), not_among_gap ps number i (gap_tail p ps number i gap))

-- ---- a page in the place of what it was

pub set_pages : (last size bytes : ℕ) (ps : List PageImage) (i : ℕ) (page : PageImage) → ArePages last size bytes ps → IsAt ps page.number i → length page.bytes.items ≡ bytes → ArePages last size bytes (set ps i page)
set_pages last size bytes [] i page are at len = absurd (omega (arith, at.within))
set_pages last size bytes (p ∷ ps) zero page are at len =
    let same : p.number ≡ page.number = at.number_is page in
    (omega (arith, same, are.0), omega (arith, same, are.1), len, subst (λ (n : ℕ). ArePages n size bytes ps) same are.3)
set_pages last size bytes (p ∷ ps) (suc i) page are at len =
    (are.0, are.1, are.2, set_pages p.number size bytes ps i page are.3 (record { within = omega (arith, at.within); number_is = λ d. at.number_is d }) len)

-- ---- a page in its gap

pub larger : (last size more bytes : ℕ) (ps : List PageImage) → size ≤ more → ArePages last size bytes ps → ArePages last more bytes ps
larger last size more bytes [] le are = tt
larger last size more bytes (p ∷ ps) le are = (are.0, omega (arith, are.1, le), are.2, larger p.number size more bytes ps le are.3)

after_gap : (last number size bytes : ℕ) (ps : List PageImage) → AllByRecursion (λ (p : PageImage). number < p.number) ps → ArePages last size bytes ps → ArePages number size bytes ps
after_gap last number size bytes [] all are = tt
after_gap last number size bytes (p ∷ ps) all are = (all.0, are.1, are.2, are.3)

pub insert_pages : (last size bytes : ℕ) (ps : List PageImage) (i : ℕ) (page : PageImage) → ArePages last size bytes ps → IsGapFor ps page.number i → last < page.number → page.number ≤ size → length page.bytes.items ≡ bytes → ArePages last size bytes (insert ps i page)
insert_pages last size bytes [] zero page are gap lt le len = (lt, le, len, tt)
insert_pages last size bytes [] (suc i) page are gap lt le len = (lt, le, len, tt)
insert_pages last size bytes (p ∷ ps) zero page are gap lt le len = (lt, le, len, (gap.greater.0, are.1, are.2, are.3))
insert_pages last size bytes (p ∷ ps) (suc i) page are gap lt le len =
    (are.0, are.1, are.2, insert_pages p.number size bytes ps i page are.3 (gap_tail p ps page.number i gap) gap.smaller.0 le len)

-- ---- what is among them then: the page, and what else was

-- these are the pages of before with this one put
pub record Put (page : PageImage) (old new : List PageImage) : Type 0 where
  pub here : (bytes : List ℕ) → IsAmong new page.number bytes → bytes ≡ page.bytes.items
  pub there : IsAmong new page.number page.bytes.items
  pub forth : (number : ℕ) (bytes : List ℕ) → (page.number ≡ number → ⊥) → IsAmong new number bytes → IsAmong old number bytes
  pub back : (number : ℕ) (bytes : List ℕ) → (page.number ≡ number → ⊥) → IsAmong old number bytes → IsAmong new number bytes
  pub none_forth : (number : ℕ) → (page.number ≡ number → ⊥) → IsNotAmong new number → IsNotAmong old number
  pub none_back : (number : ℕ) → (page.number ≡ number → ⊥) → IsNotAmong old number → IsNotAmong new number

-- a page among pages of a commit is not missing among them
pub among_and_not : (ps : List PageImage) (number : ℕ) (bytes : List ℕ) → IsAmong ps number bytes → IsNotAmong ps number → ⊥
among_and_not [] number bytes among none = among
among_and_not (p ∷ ps) number bytes (inl here) none = none.0 here.0
among_and_not (p ∷ ps) number bytes (inr rest) none = among_and_not ps number bytes rest none.1

pub set_puts : (last size bytes : ℕ) (ps : List PageImage) (i : ℕ) (page : PageImage) → ArePages last size bytes ps → IsAt ps page.number i → Put page ps (set ps i page)
set_puts last size bytes [] i page are at = absurd (omega (arith, at.within))
set_puts last size bytes (p ∷ ps) zero page are at =
    let same : p.number ≡ page.number = at.number_is page in
    let none : IsNotAmong ps page.number = others p.number size bytes page.number ps (omega (arith, same)) are.3 in
    record {
      here = λ b. elim [ inl h ↦ h.1 | inr r ↦ absurd (among_and_not ps page.number b r none) ];
      there = inl (refl, refl);
      forth = λ n b other. elim [ inl h ↦ absurd (other h.0) | inr r ↦ inr r ];
      back = λ n b other. elim [ inl h ↦ absurd (other (sym same ∙ h.0)) | inr r ↦ inr r ];
      none_forth = λ n other none. ((λ is. other (sym same ∙ is)), none.1);
      none_back = λ n other none. (other, none.1);
    }
set_puts last size bytes (p ∷ ps) (suc i) page are at =
    let rest = set_puts p.number size bytes ps i page are.3 (record { within = omega (arith, at.within); number_is = λ d. at.number_is d }) in
    let low : p.number < page.number = below p ps i page are at in
    record {
      here = λ b. elim [ inl h ↦ absurd (omega (arith, low, h.0)) | inr r ↦ rest.here b r ];
      there = inr rest.there;
      forth = λ n b other. elim [ inl h ↦ inl h | inr r ↦ inr (rest.forth n b other r) ];
      back = λ n b other. elim [ inl h ↦ inl h | inr r ↦ inr (rest.back n b other r) ];
      none_forth = λ n other none. (none.0, rest.none_forth n other none.1);
      none_back = λ n other none. (none.0, rest.none_back n other none.1);
    }
  where
    below : (p : PageImage) (ps : List PageImage) (i : ℕ) (page : PageImage) → ArePages last size bytes (p ∷ ps) → IsAt (p ∷ ps) page.number (suc i) → p.number < page.number
    below p ps i page are at = (let up = above p.number size bytes ps are.3 i page (omega (arith, at.within)) in let is : number_at ps i page ≡ page.number = at.number_is page in omega (arith, up, is))

pub insert_puts : (ps : List PageImage) (i : ℕ) (page : PageImage) → IsGapFor ps page.number i → Put page ps (insert ps i page)
insert_puts ps zero page gap =
    let none : IsNotAmong ps page.number = greater_others page.number ps gap.greater in
    record {
      here = λ b. elim [ inl h ↦ h.1 | inr r ↦ absurd (among_and_not ps page.number b r none) ];
      there = inl (refl, refl);
      forth = λ n b other. elim [ inl h ↦ absurd (other h.0) | inr r ↦ r ];
      back = λ n b other r. inr r;
      none_forth = λ n other none. none.1;
      none_back = λ n other none. (other, none);
    }
insert_puts [] (suc i) page gap = absurd (omega (arith, gap.within))
insert_puts (p ∷ ps) (suc i) page gap =
    let rest = insert_puts ps i page (gap_tail p ps page.number i gap) in
    record {
      here = λ b. elim [ inl h ↦ absurd (omega (arith, gap.smaller.0, h.0)) | inr r ↦ rest.here b r ];
      there = inr rest.there;
      forth = λ n b other. elim [ inl h ↦ inl h | inr r ↦ inr (rest.forth n b other r) ];
      back = λ n b other. elim [ inl h ↦ inl h | inr r ↦ inr (rest.back n b other r) ];
      none_forth = λ n other none. (none.0, rest.none_forth n other none.1);
      none_back = λ n other none. (none.0, rest.none_back n other none.1);
    }

pub at_most : (last size bytes : ℕ) (ps : List PageImage) (number i : ℕ) → ArePages last size bytes ps → IsAt ps number i → number ≤ size
at_most last size bytes [] number i are at = absurd (omega (arith, at.within))
at_most last size bytes (p ∷ ps) number zero are at = (let same : p.number ≡ number = at.number_is p in omega (arith, same, are.1))
at_most last size bytes (p ∷ ps) number (suc i) are at = at_most p.number size bytes ps number i are.3 (record { within = omega (arith, at.within); number_is = λ d. at.number_is d })

pub set_begins : (ps : List PageImage) (i : ℕ) (page : PageImage) → BeginAtPageOne ps → IsAt ps page.number i → BeginAtPageOne (set ps i page)
set_begins [] i page first at = absurd first
set_begins (p ∷ ps) zero page first at = sym (at.number_is page) ∙ first
set_begins (p ∷ ps) (suc i) page first at = first

pub insert_begins : (ps : List PageImage) (i : ℕ) (page : PageImage) → BeginAtPageOne ps → IsGapFor ps page.number i → 1 ≤ page.number → BeginAtPageOne (insert ps i page)
insert_begins [] i page first gap le = absurd first
insert_begins (p ∷ ps) zero page first gap le = absurd (omega (arith, gap.greater.0, first, le))
insert_begins (p ∷ ps) (suc i) page first gap le = first

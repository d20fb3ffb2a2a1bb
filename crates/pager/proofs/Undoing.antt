-- What the log says of the pages at a mark stays as they change.
use Rattle.std.proofs.Common.{◌≡◌, ◌⊎◌, inl, inr, ◌<◌, ◌≤◌, ◌==◌, ℕ, zero, suc, List, [], ◌∷◌, ◌++◌, length, take, drop, get_or, set, refl, sym, ◌∙◌, ap, subst, arith, Vec}
use Rattle.std.specs.Prelude.{true, false, nat_le, Bool, IfErr, IsTrue, OnOk, Result, Ok, Err, if◌then◌else◌, ◌+◌, ⊤}
use Rattle.sqlval.specs.declared.fault.Fault.{Fault}
use Rattle.sqlval.specs.declared.fault.Fault.TheVariants.{Memory}
use Rattle.std.specs.List.{AllByRecursion, insert}
use Rattle.std.specs.Vec.{with_items}
use Rattle.std.specs.declared.alloc.Global.{Global}
use Rattle.wal.specs.declared.pages.PageImage.{PageImage}
use Rattle.pages.specs.Map.{written_over}
use Rattle.pager.specs.declared.saved.Saved.{Saved}
use Rattle.pager.specs.declared.saved.Saved.TheVariants.{Added, Changed, Part}
use Rattle.pager.specs.declared.saved.Mark.{Mark}
use Rattle.pager.specs.Writers.{IsAt, IsGapFor}
use Rattle.pager.specs.Marks.{changes_at, changes_at_each}
use Rattle.pager.specs.Undo.{AllBehind, AllSaved, AreMarks, AreUpTo, Beside, IsBefore, IsKept, IsMark, IsSince, IsStamped, IsUpTo, Link, Linked, NumbersRise, tells_page, mentions, newest_stamp, number_of, part_over, parts_over, swapped, swapped_stamps, undone, unwound, without, without_stamps}
use Rattle.pager.proofs.Placing.{agrees, if_false, if_true, insert_back, insert_rises, same_numbers, set_back, set_rises}

-- ---- mentions

by_equal : (number : ℕ) (e : Saved) (es : List Saved) (t : Bool) → tells_page number e ≡ t → IsTrue (mentions number (e ∷ es)) → IsTrue (tells_page number e) ⊎ IsTrue (mentions number es)
by_equal number e es true is m = inl is
by_equal number e es false is m = inr (sym (if_false (tells_page number e) true (mentions number es) is) ∙ m)

pub mention_cases : (number : ℕ) (e : Saved) (es : List Saved) → IsTrue (mentions number (e ∷ es)) → IsTrue (tells_page number e) ⊎ IsTrue (mentions number es)
mention_cases number e es m = by_equal number e es (tells_page number e) refl m

pub mention_here : (number : ℕ) (e : Saved) (es : List Saved) → IsTrue (tells_page number e) → IsTrue (mentions number (e ∷ es))
mention_here number e es is = if_true (tells_page number e) true (mentions number es) is

-- what tells a whole page is of it
pub whole_number : (number : ℕ) (e : Saved) → IsTrue (tells_page number e) → number_of e ≡ number
whole_number number (Added other) is = same_numbers other number is
whole_number number (Changed page t) is = same_numbers page.number number is
whole_number number (Part other offset bytes) is = absurd cc

either_true : (t u : Bool) → u ≡ true → (if t then true else u) ≡ true
either_true true u is = refl
either_true false u is = is

pub mention_there : (number : ℕ) (e : Saved) (es : List Saved) → IsTrue (mentions number es) → IsTrue (mentions number (e ∷ es))
mention_there number e es m = either_true (tells_page number e) (mentions number es) m

pub mention_last : (number : ℕ) (es : List Saved) (e : Saved) → IsTrue (tells_page number e) → IsTrue (mentions number (es ++ e ∷ []))
mention_last number [] e is = mention_here number e [] is
mention_last number (f ∷ es) e is = mention_there number f (es ++ e ∷ []) (mention_last number es e is)

pub mention_before : (number : ℕ) (es fs : List Saved) → IsTrue (mentions number es) → IsTrue (mentions number (es ++ fs))
mention_before number [] fs m = absurd cc
mention_before number (f ∷ es) fs m = elim (mention_cases number f es m) [ inl h ↦ mention_here number f (es ++ fs) h | inr r ↦ mention_there number f (es ++ fs) (mention_before number es fs r) ]

pub mention_init : (number : ℕ) (es : List Saved) (e : Saved) → (IsTrue (tells_page number e) → ⊥) → IsTrue (mentions number (es ++ e ∷ [])) → IsTrue (mentions number es)
mention_init number [] e other m = elim (mention_cases number e [] m) [ inl h ↦ absurd (other h) | inr r ↦ r ]
mention_init number (f ∷ es) e other m = elim (mention_cases number f (es ++ e ∷ []) m) [ inl h ↦ mention_here number f es h | inr r ↦ mention_there number f es (mention_init number es e other r) ]

-- ---- links: what is seen, the newest_stamp first

abbrev pub pile : List Saved → List Saved → List Saved
pile [] seen = seen
pile (e ∷ es) seen = pile es (e ∷ seen)

pile_seen : (number : ℕ) (es seen : List Saved) → IsTrue (mentions number seen) → IsTrue (mentions number (pile es seen))
pile_seen number [] seen m = m
pile_seen number (e ∷ es) seen m = pile_seen number es (e ∷ seen) (mention_there number e seen m)

pile_from : (number : ℕ) (es seen : List Saved) → IsTrue (mentions number es) → IsTrue (mentions number (pile es seen))
pile_from number [] seen m = absurd cc
pile_from number (e ∷ es) seen m = elim (mention_cases number e es m) [ inl h ↦ pile_seen number es (e ∷ seen) (mention_here number e seen h) | inr r ↦ pile_from number es (e ∷ seen) r ]

pile_to : (number : ℕ) (es seen : List Saved) → IsTrue (mentions number (pile es seen)) → IsTrue (mentions number es) ⊎ IsTrue (mentions number seen)
pile_to number [] seen m = inr m
pile_to number (e ∷ es) seen m = elim (pile_to number es (e ∷ seen) m) [
  | inl h ↦ inl (mention_there number e es h)
  | inr r ↦ (elim (mention_cases number e seen r) [ inl h ↦ inl (mention_here number e es h) | inr s ↦ inr s ])
]

-- nothing is seen before a mark
pub pile_none : (number : ℕ) (es : List Saved) → IsTrue (mentions number (pile es [])) → IsTrue (mentions number es)
pile_none number es m = elim (pile_to number es [] m) [ inl h ↦ h | inr r ↦ absurd cc ]

pub link_more : (stamp : ℕ) (seen others : List Saved) (e : Saved) → ((number : ℕ) → IsTrue (mentions number seen) → IsTrue (mentions number others)) → Link stamp seen e → Link stamp others e
link_more stamp seen others (Added number) each link = tt
link_more stamp seen others (Changed page t) each link = λ le. each page.number (link le)
link_more stamp seen others (Part number offset bytes) each link = tt

pub each_more : (e : Saved) (seen others : List Saved) → ((number : ℕ) → IsTrue (mentions number seen) → IsTrue (mentions number others)) → (number : ℕ) → IsTrue (mentions number (e ∷ seen)) → IsTrue (mentions number (e ∷ others))
each_more e seen others each number m = elim (mention_cases number e seen m) [ inl h ↦ mention_here number e others h | inr r ↦ mention_there number e others (each number r) ]

pub linked_snoc : (stamp : ℕ) (seen es : List Saved) (e : Saved) → Linked stamp seen es → Link stamp (pile es seen) e → Linked stamp seen (es ++ e ∷ [])
linked_snoc stamp seen [] e links link = (link, tt)
linked_snoc stamp seen (f ∷ es) e links link = (links.0, linked_snoc stamp (f ∷ seen) es e links.1 link)

pub linked_init : (stamp : ℕ) (seen es : List Saved) (e : Saved) → Linked stamp seen (es ++ e ∷ []) → Linked stamp seen es
linked_init stamp seen [] e links = tt
linked_init stamp seen (f ∷ es) e links = (links.0, linked_init stamp (f ∷ seen) es e links.1)

pub linked_last : (stamp : ℕ) (seen es : List Saved) (e : Saved) → Linked stamp seen (es ++ e ∷ []) → Link stamp (pile es seen) e
linked_last stamp seen [] e links = links.0
linked_last stamp seen (f ∷ es) e links = linked_last stamp (f ∷ seen) es e links.1

-- ---- lists of pages alike but for the images of one number

abbrev pub Alike : ℕ → List PageImage → List PageImage → Type 0
Alike number [] [] = ⊤
Alike number [] (q ∷ qs) = ⊥
Alike number (p ∷ ps) [] = ⊥
Alike number (p ∷ ps) (q ∷ qs) = ((p ≡ q) ⊎ ((p.number ≡ number) × (q.number ≡ number))) × Alike number ps qs

pub alike_same : (number : ℕ) (ps : List PageImage) → Alike number ps ps
alike_same number [] = tt
alike_same number (p ∷ ps) = (inl refl, alike_same number ps)

pub alike_set : (number : ℕ) (ps : List PageImage) (i : ℕ) (page : PageImage) → IsAt ps number i → page.number ≡ number → Alike number (set ps i page) ps
alike_set number [] i page at is = absurd (omega (arith, at.within))
alike_set number (p ∷ ps) zero page at is = (inr (is, at.number_is p), alike_same number ps)
alike_set number (p ∷ ps) (suc i) page at is = (inl refl, alike_set number ps i page (record { within = omega (arith, at.within); number_is = λ d. at.number_is d }) is)

same_number : (number : ℕ) (p q : PageImage) → (p ≡ q) ⊎ ((p.number ≡ number) × (q.number ≡ number)) → p.number ≡ q.number
same_number number p q (inl is) = ap (λ (x : PageImage). x.number) is
same_number number p q (inr both) = both.0 ∙ sym both.1

if_alike : (number : ℕ) (t u : Bool) → t ≡ u → (p q page : PageImage) → (p ≡ q) ⊎ ((p.number ≡ number) × (q.number ≡ number)) → ((if t then page else p) ≡ (if u then page else q)) ⊎ (((if t then page else p).number ≡ number) × ((if u then page else q).number ≡ number))
if_alike number true true same p q page is = inl refl
if_alike number true false same p q page is = absurd cc
if_alike number false true same p q page is = absurd cc
if_alike number false false same p q page is = is

swapped_alike : (number : ℕ) (page : PageImage) (ps qs : List PageImage) → Alike number ps qs → Alike number (swapped page ps) (swapped page qs)
swapped_alike number page [] [] are = tt
swapped_alike number page [] (q ∷ qs) are = absurd are
swapped_alike number page (p ∷ ps) [] are = absurd are
swapped_alike number page (p ∷ ps) (q ∷ qs) are =
    (if_alike number (p.number == page.number) (q.number == page.number) (ap (λ n. n == page.number) (same_number number p q are.0)) p q page are.0, swapped_alike number page ps qs are.1)

without_cons : (number : ℕ) (t u : Bool) → t ≡ u → (p q : PageImage) (ps qs : List PageImage) → (p ≡ q) ⊎ ((p.number ≡ number) × (q.number ≡ number)) → Alike number ps qs → Alike number (if t then ps else p ∷ ps) (if u then qs else q ∷ qs)
without_cons number true true same p q ps qs is are = are
without_cons number true false same p q ps qs is are = absurd cc
without_cons number false true same p q ps qs is are = absurd cc
without_cons number false false same p q ps qs is are = (is, are)

without_alike : (number other : ℕ) (ps qs : List PageImage) → Alike number ps qs → Alike number (without other ps) (without other qs)
without_alike number other [] [] are = tt
without_alike number other [] (q ∷ qs) are = absurd are
without_alike number other (p ∷ ps) [] are = absurd are
without_alike number other (p ∷ ps) (q ∷ qs) are =
    without_cons number (p.number == other) (q.number == other) (ap (λ n. n == other) (same_number number p q are.0)) p q (without other ps) (without other qs) are.0 (without_alike number other ps qs are.1)

-- a part of a page leaves its number
pub part_number : (offset : ℕ) (bytes : List ℕ) (page : PageImage) → (part_over offset bytes page).number ≡ page.number
part_number offset bytes page = by_test (nat_le (offset + length bytes) (length page.bytes.items)) refl
  where
    by_test : (t : Bool) → nat_le (offset + length bytes) (length page.bytes.items) ≡ t → (part_over offset bytes page).number ≡ page.number
    by_test true is = ap (λ (q : PageImage). q.number) (if_true (nat_le (offset + length bytes) (length page.bytes.items)) (record { number = page.number; bytes = with_items page.bytes (written_over offset bytes page.bytes.items) }) page is)
    by_test false is = ap (λ (q : PageImage). q.number) (if_false (nat_le (offset + length bytes) (length page.bytes.items)) (record { number = page.number; bytes = with_items page.bytes (written_over offset bytes page.bytes.items) }) page is)

part_if : (b : Bool) (offset : ℕ) (bytes : List ℕ) (page : PageImage) → (if b then part_over offset bytes page else page).number ≡ page.number
part_if true offset bytes page = part_number offset bytes page
part_if false offset bytes page = refl

parts_alike : (number other offset : ℕ) (bytes : List ℕ) (ps qs : List PageImage) → Alike number ps qs → Alike number (parts_over other offset bytes ps) (parts_over other offset bytes qs)
parts_alike number other offset bytes [] [] are = tt
parts_alike number other offset bytes [] (q ∷ qs) are = absurd are
parts_alike number other offset bytes (p ∷ ps) [] are = absurd are
parts_alike number other offset bytes (p ∷ ps) (q ∷ qs) are = (
  elim are.0 [
    | inl same ↦ inl (ap (λ (x : PageImage). if x.number == other then part_over offset bytes x else x) same)
    | inr both ↦ inr (part_if (p.number == other) offset bytes p ∙ both.0, part_if (q.number == other) offset bytes q ∙ both.1)
  ],
  parts_alike number other offset bytes ps qs are.1,
)

undone_alike : (number : ℕ) (e : Saved) (ps qs : List PageImage) → Alike number ps qs → Alike number (undone e ps) (undone e qs)
undone_alike number (Added other) ps qs are = without_alike number other ps qs are
undone_alike number (Changed page t) ps qs are = swapped_alike number page ps qs are
undone_alike number (Part other offset bytes) ps qs are = parts_alike number other offset bytes.items ps qs are

unwound_alike : (number : ℕ) (es : List Saved) (ps qs : List PageImage) → Alike number ps qs → Alike number (unwound es ps) (unwound es qs)
unwound_alike number [] ps qs are = are
unwound_alike number (e ∷ es) ps qs are = undone_alike number e (unwound es ps) (unwound es qs) (unwound_alike number es ps qs are)

-- what puts back or takes out this number makes them the same
swapped_meets : (number : ℕ) (page : PageImage) (ps qs : List PageImage) → page.number ≡ number → Alike number ps qs → swapped page ps ≡ swapped page qs
swapped_meets number page [] [] is are = refl
swapped_meets number page [] (q ∷ qs) is are = absurd are
swapped_meets number page (p ∷ ps) [] is are = absurd are
swapped_meets number page (p ∷ ps) (q ∷ qs) is are =
    let head : (if p.number == page.number then page else p) ≡ (if q.number == page.number then page else q) = elim are.0 [
      | inl same ↦ ap (λ (x : PageImage). if x.number == page.number then page else x) same
      | inr both ↦ if_true (p.number == page.number) page p (agrees p.number page.number (both.0 ∙ sym is)) ∙ sym (if_true (q.number == page.number) page q (agrees q.number page.number (both.1 ∙ sym is)))
    ] in
    ap (λ x. x ∷ swapped page ps) head ∙ ap (λ xs. (if q.number == page.number then page else q) ∷ xs) (swapped_meets number page ps qs is are.1)

without_meets : (number other : ℕ) (ps qs : List PageImage) → other ≡ number → Alike number ps qs → without other ps ≡ without other qs
without_meets number other [] [] is are = refl
without_meets number other [] (q ∷ qs) is are = absurd are
without_meets number other (p ∷ ps) [] is are = absurd are
without_meets number other (p ∷ ps) (q ∷ qs) is are =
    let rest : without other ps ≡ without other qs = without_meets number other ps qs is are.1 in
    elim are.0 [
      | inl same ↦ ap (λ (x : PageImage). if x.number == other then without other ps else x ∷ without other ps) same ∙ ap (λ xs. if q.number == other then xs else q ∷ xs) rest
      | inr both ↦ if_true (p.number == other) _ _ (agrees p.number other (both.0 ∙ sym is)) ∙ rest ∙ sym (if_true (q.number == other) _ _ (agrees q.number other (both.1 ∙ sym is)))
    ]

undone_meets : (number : ℕ) (e : Saved) (ps qs : List PageImage) → IsTrue (tells_page number e) → Alike number ps qs → undone e ps ≡ undone e qs
undone_meets number (Added other) ps qs is are = without_meets number other ps qs (same_numbers other number is) are
undone_meets number (Changed page t) ps qs is are = swapped_meets number page ps qs (same_numbers page.number number is) are
undone_meets number (Part other offset bytes) ps qs is are = absurd cc

pub unwound_meets : (number : ℕ) (es : List Saved) (ps qs : List PageImage) → IsTrue (mentions number es) → Alike number ps qs → unwound es ps ≡ unwound es qs
unwound_meets number [] ps qs m are = absurd cc
unwound_meets number (e ∷ es) ps qs m are = elim (mention_cases number e es m) [
  | inl h ↦ undone_meets number e (unwound es ps) (unwound es qs) h (unwound_alike number es ps qs are)
  | inr r ↦ ap (undone e) (unwound_meets number es ps qs r are)
]

pub unwound_append : (es fs : List Saved) (ps : List PageImage) → unwound (es ++ fs) ps ≡ unwound es (unwound fs ps)
unwound_append [] fs ps = refl
unwound_append (e ∷ es) fs ps = ap (undone e) (unwound_append es fs ps)

-- ---- the newest_stamp mark

pub newest_last : (ms : List Mark) (k : ℕ) (d : Mark) → k + 1 ≡ length ms → (get_or ms k d).stamp ≡ newest_stamp ms
newest_last [] k d is = absurd (omega (arith, is))
newest_last (m ∷ []) zero d is = refl
newest_last (m ∷ []) (suc k) d is = absurd (omega (arith, is))
newest_last (m ∷ n ∷ ms) zero d is = absurd (omega (arith, is))
newest_last (m ∷ n ∷ ms) (suc k) d is = newest_last (n ∷ ms) k d (omega (arith, is))

-- ---- each page beside its stamp

pub beside_even : (Q : PageImage → ℕ → Type 0) (ps : List PageImage) (ts : List ℕ) → Beside Q ps ts → length ts ≡ length ps
beside_even Q [] [] all = refl
beside_even Q [] (t ∷ ts) all = absurd all
beside_even Q (p ∷ ps) [] all = absurd all
beside_even Q (p ∷ ps) (t ∷ ts) all = ap suc (beside_even Q ps ts all.1)

pub beside_map : (Q R : PageImage → ℕ → Type 0) → ((p : PageImage) (t : ℕ) → Q p t → R p t) → (ps : List PageImage) (ts : List ℕ) → Beside Q ps ts → Beside R ps ts
beside_map Q R each [] [] all = tt
beside_map Q R each [] (t ∷ ts) all = absurd all
beside_map Q R each (p ∷ ps) [] all = absurd all
beside_map Q R each (p ∷ ps) (t ∷ ts) all = (each p t all.0, beside_map Q R each ps ts all.1)

pub beside_over : (Q : PageImage → ℕ → Type 0) (ps : List PageImage) (ts : List ℕ) (i : ℕ) (page : PageImage) → IsAt ps page.number i → ((p : PageImage) (t : ℕ) → p.number ≡ page.number → Q p t → Q page t) → Beside Q ps ts → Beside Q (set ps i page) ts
beside_over Q [] ts i page at each all = absurd (omega (arith, at.within))
beside_over Q (p ∷ ps) [] i page at each all = absurd all
beside_over Q (p ∷ ps) (t ∷ ts) zero page at each all = (each p t (at.number_is p) all.0, all.1)
beside_over Q (p ∷ ps) (t ∷ ts) (suc i) page at each all = (all.0, beside_over Q ps ts i page (record { within = omega (arith, at.within); number_is = λ d. at.number_is d }) each all.1)

pub beside_set : (Q R : PageImage → ℕ → Type 0) → ((p : PageImage) (t : ℕ) → Q p t → R p t) → (ps : List PageImage) (ts : List ℕ) (i : ℕ) (page : PageImage) (stamp : ℕ) → R page stamp → Beside Q ps ts → Beside R (set ps i page) (set ts i stamp)
beside_set Q R each [] [] i page stamp here all = tt
beside_set Q R each [] (t ∷ ts) i page stamp here all = absurd all
beside_set Q R each (p ∷ ps) [] i page stamp here all = absurd all
beside_set Q R each (p ∷ ps) (t ∷ ts) zero page stamp here all = (here, beside_map Q R each ps ts all.1)
beside_set Q R each (p ∷ ps) (t ∷ ts) (suc i) page stamp here all = (each p t all.0, beside_set Q R each ps ts i page stamp here all.1)

pub beside_insert : (Q R : PageImage → ℕ → Type 0) → ((p : PageImage) (t : ℕ) → Q p t → R p t) → (ps : List PageImage) (ts : List ℕ) (i : ℕ) (page : PageImage) (stamp : ℕ) → R page stamp → Beside Q ps ts → Beside R (insert ps i page) (insert ts i stamp)
beside_insert Q R each [] [] zero page stamp here all = (here, tt)
beside_insert Q R each [] [] (suc i) page stamp here all = (here, tt)
beside_insert Q R each [] (t ∷ ts) i page stamp here all = absurd all
beside_insert Q R each (p ∷ ps) [] i page stamp here all = absurd all
beside_insert Q R each (p ∷ ps) (t ∷ ts) zero page stamp here all = (here, beside_map Q R each (p ∷ ps) (t ∷ ts) all)
beside_insert Q R each (p ∷ ps) (t ∷ ts) (suc i) page stamp here all = (each p t all.0, beside_insert Q R each ps ts i page stamp here all.1)

pub beside_at : (Q : PageImage → ℕ → Type 0) (ps : List PageImage) (ts : List ℕ) (i : ℕ) (d : PageImage) (e : ℕ) → i < length ps → Beside Q ps ts → Q (get_or ps i d) (get_or ts i e)
beside_at Q [] ts i d e lt all = absurd (omega (arith, lt))
beside_at Q (p ∷ ps) [] i d e lt all = absurd all
beside_at Q (p ∷ ps) (t ∷ ts) zero d e lt all = all.0
beside_at Q (p ∷ ps) (t ∷ ts) (suc i) d e lt all = beside_at Q ps ts i d e (omega (arith, lt)) all.1

swap_test : (R : PageImage → ℕ → Type 0) (b : Bool) (p page : PageImage) (t stamp : ℕ) → (b ≡ true → R page stamp) → (b ≡ false → R p t) → R (if b then page else p) (if b then stamp else t)
swap_test R true p page t stamp hit other = hit refl
swap_test R false p page t stamp hit other = other refl

pub not_equal : (a b : ℕ) → (a == b) ≡ false → a ≡ b → ⊥
not_equal a b is same = clash (sym is ∙ agrees a b same)
  where
    clash : false ≡ true → ⊥
    clash bad = absurd cc

pub beside_swapped : (Q R : PageImage → ℕ → Type 0) (page : PageImage) (stamp : ℕ) → ((p : PageImage) (t : ℕ) → (p.number ≡ page.number → ⊥) → Q p t → R p t) → R page stamp → (ps : List PageImage) (ts : List ℕ) → Beside Q ps ts → Beside R (swapped page ps) (swapped_stamps page.number stamp ps ts)
beside_swapped Q R page stamp each here [] [] all = tt
beside_swapped Q R page stamp each here [] (t ∷ ts) all = absurd all
beside_swapped Q R page stamp each here (p ∷ ps) [] all = absurd all
beside_swapped Q R page stamp each here (p ∷ ps) (t ∷ ts) all =
    (swap_test R (p.number == page.number) p page t stamp (λ is. here) (λ is. each p t (not_equal p.number page.number is) all.0), beside_swapped Q R page stamp each here ps ts all.1)

out_test : (R : PageImage → ℕ → Type 0) (b : Bool) (p : PageImage) (t : ℕ) (ps : List PageImage) (ts : List ℕ) → (b ≡ false → R p t) → Beside R ps ts → Beside R (if b then ps else p ∷ ps) (if b then ts else t ∷ ts)
out_test R true p t ps ts other all = all
out_test R false p t ps ts other all = (other refl, all)

pub beside_without : (Q R : PageImage → ℕ → Type 0) (number : ℕ) → ((p : PageImage) (t : ℕ) → (p.number ≡ number → ⊥) → Q p t → R p t) → (ps : List PageImage) (ts : List ℕ) → Beside Q ps ts → Beside R (without number ps) (without_stamps number ps ts)
beside_without Q R number each [] [] all = tt
beside_without Q R number each [] (t ∷ ts) all = absurd all
beside_without Q R number each (p ∷ ps) [] all = absurd all
beside_without Q R number each (p ∷ ps) (t ∷ ts) all =
    out_test R (p.number == number) p t (without number ps) (without_stamps number ps ts) (λ is. each p t (not_equal p.number number is) all.0) (beside_without Q R number each ps ts all.1)

-- ---- one mark, as the pages change

drop_snoc : (k : ℕ) (es : List Saved) (e : Saved) → k ≤ length es → drop k (es ++ e ∷ []) ≡ drop k es ++ e ∷ []
drop_snoc zero es e le = refl
drop_snoc (suc k) [] e le = absurd (omega (arith, le))
drop_snoc (suc k) (f ∷ es) e le = drop_snoc k es e (omega (arith, le))

length_snoc : (es : List Saved) (e : Saved) → length (es ++ e ∷ []) ≡ length es + 1
length_snoc [] e = refl
length_snoc (f ∷ es) e = (let h = length_snoc es e in omega (arith, h))

pub state_push : (es : List Saved) (e : Saved) (old new : List PageImage) (m : Mark) → m.saved ≤ length es → undone e new ≡ old → changes_at (es ++ e ∷ []) new m ≡ changes_at es old m
state_push es e old new m le is = ap (λ ps. record { pages = ps; size = m.size; makes_objects = m.has_new_objects }) (ap (λ fs. unwound fs new) (drop_snoc m.saved es e le) ∙ unwound_append (drop m.saved es) (e ∷ []) new ∙ ap (unwound (drop m.saved es)) is)

-- a page takes the place of one as young as the mark
pub mark_over : (es : List Saved) (ps : List PageImage) (ts : List ℕ) (i : ℕ) (page : PageImage) (m : Mark) → IsAt ps page.number i → IsMark es ps ts m → IsMark es (set ps i page) ts m
mark_over es ps ts i page m at is =
    (is.0, (beside_over (IsSince m.stamp (drop m.saved es)) ps ts i page at (λ p t same q le. subst (λ n. IsTrue (mentions n (drop m.saved es))) same (q le)) is.1.0, is.1.1))

pub state_over : (es : List Saved) (ps : List PageImage) (ts : List ℕ) (i : ℕ) (page : PageImage) (t : ℕ) (m : Mark) → IsAt ps page.number i → t ≡ get_or ts i t → m.stamp ≤ t → IsMark es ps ts m → changes_at es (set ps i page) m ≡ changes_at es ps m
state_over es ps ts i page t m at t_is le is =
    let since = beside_at (IsSince m.stamp (drop m.saved es)) ps ts i page t at.within is.1.0 in
    let mention : IsTrue (mentions page.number (drop m.saved es)) = subst (λ n. IsTrue (mentions n (drop m.saved es))) (at.number_is page) (since (subst (λ u. m.stamp ≤ u) t_is le)) in
    ap (λ qs. record { pages = qs; size = m.size; makes_objects = m.has_new_objects }) (unwound_meets page.number (drop m.saved es) (set ps i page) ps mention (alike_set page.number ps i page at refl))

since_more : (stamp : ℕ) (es : List Saved) (e : Saved) (p : PageImage) (t : ℕ) → IsSince stamp es p t → IsSince stamp (es ++ e ∷ []) p t
since_more stamp es e p t is le = mention_before p.number es (e ∷ []) (is le)

-- its image before is saved
pub mark_save : (es : List Saved) (ps : List PageImage) (ts : List ℕ) (i : ℕ) (page old : PageImage) (t most : ℕ) (m : Mark) → IsAt ps page.number i → old ≡ get_or ps i old → t ≡ get_or ts i t → IsMark es ps ts m → IsMark (es ++ Changed old t ∷ []) (set ps i page) (set ts i most) m
mark_save es ps ts i page old t most m at old_is t_is is =
    let same : old.number ≡ page.number = ap (λ (q : PageImage). q.number) old_is ∙ at.number_is old in
    let long = length_snoc es (Changed old t) in
    let le = is.0 in
    let since = beside_at (IsSince m.stamp (drop m.saved es)) ps ts i old t at.within is.1.0 in
    let link : Link m.stamp (pile (drop m.saved es) []) (Changed old t) = λ young. pile_from old.number (drop m.saved es) [] (subst (λ (q : PageImage). IsTrue (mentions q.number (drop m.saved es))) (sym old_is) (since (subst (λ u. m.stamp ≤ u) t_is young))) in (
      omega (arith, le, long),
      (
        subst (λ fs. Beside (IsSince m.stamp fs) (set ps i page) (set ts i most)) (sym (drop_snoc m.saved es (Changed old t) le))
            (beside_set (IsSince m.stamp (drop m.saved es)) (IsSince m.stamp (drop m.saved es ++ Changed old t ∷ [])) (λ p u q. since_more m.stamp (drop m.saved es) (Changed old t) p u q) ps ts i page most (λ young. mention_last page.number (drop m.saved es) (Changed old t) (agrees old.number page.number same)) is.1.0),
        subst (Linked m.stamp []) (sym (drop_snoc m.saved es (Changed old t) le)) (linked_snoc m.stamp [] (drop m.saved es) (Changed old t) is.1.1 link),
      ),
    )

-- a page is added
pub mark_add : (es : List Saved) (ps : List PageImage) (ts : List ℕ) (i : ℕ) (page : PageImage) (most : ℕ) (m : Mark) → IsMark es ps ts m → IsMark (es ++ Added page.number ∷ []) (insert ps i page) (insert ts i most) m
mark_add es ps ts i page most m is =
    let long = length_snoc es (Added page.number) in
    let le = is.0 in (
      omega (arith, le, long),
      (
        subst (λ fs. Beside (IsSince m.stamp fs) (insert ps i page) (insert ts i most)) (sym (drop_snoc m.saved es (Added page.number) le))
            (beside_insert (IsSince m.stamp (drop m.saved es)) (IsSince m.stamp (drop m.saved es ++ Added page.number ∷ [])) (λ p u q. since_more m.stamp (drop m.saved es) (Added page.number) p u q) ps ts i page most (λ young. mention_last page.number (drop m.saved es) (Added page.number) (agrees page.number page.number refl)) is.1.0),
        subst (Linked m.stamp []) (sym (drop_snoc m.saved es (Added page.number) le)) (linked_snoc m.stamp [] (drop m.saved es) (Added page.number) is.1.1 tt),
      ),
    )

-- a part of it is
pub mark_part : (es : List Saved) (e : Saved) (ps : List PageImage) (ts : List ℕ) (i : ℕ) (page : PageImage) (m : Mark) → ((stamp : ℕ) (seen : List Saved) → Link stamp seen e) → IsAt ps page.number i → IsMark es ps ts m → IsMark (es ++ e ∷ []) (set ps i page) ts m
mark_part es e ps ts i page m link at is =
    let long = length_snoc es e in
    let le = is.0 in (
      omega (arith, le, long),
      (
        subst (λ fs. Beside (IsSince m.stamp fs) (set ps i page) ts) (sym (drop_snoc m.saved es e le))
            (beside_over (IsSince m.stamp (drop m.saved es ++ e ∷ [])) ps ts i page at (λ p t same q young. subst (λ n. IsTrue (mentions n (drop m.saved es ++ e ∷ []))) same (q young))
            (beside_map (IsSince m.stamp (drop m.saved es)) (IsSince m.stamp (drop m.saved es ++ e ∷ [])) (λ p u q. since_more m.stamp (drop m.saved es) e p u q) ps ts is.1.0)),
        subst (Linked m.stamp []) (sym (drop_snoc m.saved es e le)) (linked_snoc m.stamp [] (drop m.saved es) e is.1.1 (link m.stamp (pile (drop m.saved es) []))),
      ),
    )

-- the newest_stamp change is taken back
abbrev pub stamps_undone : Saved → List PageImage → List ℕ → List ℕ
stamps_undone (Added number) ps ts = without_stamps number ps ts
stamps_undone (Changed page t) ps ts = swapped_stamps page.number t ps ts
stamps_undone (Part number offset bytes) ps ts = ts

since_init : (stamp : ℕ) (es : List Saved) (e : Saved) (p : PageImage) (t : ℕ) → (p.number ≡ number_of e → ⊥) → IsSince stamp (es ++ e ∷ []) p t → IsSince stamp es p t
since_init stamp es e p t other is le = mention_init p.number es e (λ same. other (sym (whole_number p.number e same))) (is le)

beside_parts : (Q R : PageImage → ℕ → Type 0) (number offset : ℕ) (bytes : List ℕ) → ((p q : PageImage) (t : ℕ) → q.number ≡ p.number → Q p t → R q t) → (ps : List PageImage) (ts : List ℕ) → Beside Q ps ts → Beside R (parts_over number offset bytes ps) ts
beside_parts Q R number offset bytes each [] [] all = tt
beside_parts Q R number offset bytes each [] (t ∷ ts) all = absurd all
beside_parts Q R number offset bytes each (p ∷ ps) [] all = absurd all
beside_parts Q R number offset bytes each (p ∷ ps) (t ∷ ts) all =
    (each p (if p.number == number then part_over offset bytes p else p) t (part_if (p.number == number) offset bytes p) all.0, beside_parts Q R number offset bytes each ps ts all.1)

since_part : (stamp : ℕ) (es : List Saved) (number offset : ℕ) (bytes : Vec ℕ Global) (p q : PageImage) (t : ℕ) → q.number ≡ p.number → IsSince stamp (es ++ Part number offset bytes ∷ []) p t → IsSince stamp es q t
since_part stamp es number offset bytes p q t same is young = subst (λ n. IsTrue (mentions n es)) (sym same) (mention_init p.number es (Part number offset bytes) (λ whole. absurd cc) (is young))

beside_undone : (stamp : ℕ) (es : List Saved) (e : Saved) (ps : List PageImage) (ts : List ℕ) → Link stamp (pile es []) e → Beside (IsSince stamp (es ++ e ∷ [])) ps ts → Beside (IsSince stamp es) (undone e ps) (stamps_undone e ps ts)
beside_undone stamp es (Added number) ps ts link all =
    beside_without (IsSince stamp (es ++ Added number ∷ [])) (IsSince stamp es) number (since_init stamp es (Added number)) ps ts all
beside_undone stamp es (Changed page t) ps ts link all =
    beside_swapped (IsSince stamp (es ++ Changed page t ∷ [])) (IsSince stamp es) page t (since_init stamp es (Changed page t)) (λ young. pile_none page.number es (link young)) ps ts all
beside_undone stamp es (Part number offset bytes) ps ts link all =
    beside_parts (IsSince stamp (es ++ Part number offset bytes ∷ [])) (IsSince stamp es) number offset bytes.items (since_part stamp es number offset bytes) ps ts all

pub mark_undo : (es : List Saved) (e : Saved) (ps : List PageImage) (ts : List ℕ) (m : Mark) → m.saved ≤ length es → IsMark (es ++ e ∷ []) ps ts m → IsMark es (undone e ps) (stamps_undone e ps ts) m
mark_undo es e ps ts m le is =
    let links = subst (Linked m.stamp []) (drop_snoc m.saved es e le) is.1.1 in
    let all = subst (λ fs. Beside (IsSince m.stamp fs) ps ts) (drop_snoc m.saved es e le) is.1.0 in
    (le, (beside_undone m.stamp (drop m.saved es) e ps ts (linked_last m.stamp [] (drop m.saved es) e links) all, linked_init m.stamp [] (drop m.saved es) e links))

-- ---- all marks

pub marks_map : (P : Mark → Type 0) (most more : ℕ) (es fs : List Saved) (ps qs : List PageImage) (ts us : List ℕ) → most ≤ more → ((m : Mark) → P m → IsMark es ps ts m → IsMark fs qs us m) → (ms : List Mark) → AllByRecursion P ms → AreMarks most es ps ts ms → AreMarks more fs qs us ms
marks_map P most more es fs ps qs ts us le each [] all are = tt
marks_map P most more es fs ps qs ts us le each (m ∷ ms) all are =
    let up = are.0 in
    (omega (arith, le, up), (each m all.0 are.1.0, (are.1.1.0, marks_map P most more es fs ps qs ts us le each ms all.1 are.1.1.1)))

pub states_map : (P : Mark → Type 0) (most : ℕ) (es fs : List Saved) (ps qs : List PageImage) (ts : List ℕ) → ((m : Mark) → P m → IsMark es ps ts m → changes_at fs qs m ≡ changes_at es ps m) → (ms : List Mark) → AllByRecursion P ms → AreMarks most es ps ts ms → changes_at_each fs qs ms ≡ changes_at_each es ps ms
states_map P most es fs ps qs ts each [] all are = refl
states_map P most es fs ps qs ts each (m ∷ ms) all are =
    ap (λ s. s ∷ changes_at_each fs qs ms) (each m all.0 are.1.0) ∙ ap (λ ss. changes_at es ps m ∷ ss) (states_map P most es fs ps qs ts each ms all.1 are.1.1.1)

pub any : (ms : List Mark) → AllByRecursion (λ (m : Mark). ⊤) ms
any [] = tt
any (m ∷ ms) = (tt, any ms)

-- no stamp of a mark is greater than the newest_stamp's
behind_newest : (m : Mark) (ms : List Mark) → AllBehind m ms → m.stamp ≤ newest_stamp (m ∷ ms)
behind_newest m [] all = omega arith
behind_newest m (n ∷ []) all = all.0.1
behind_newest m (n ∷ o ∷ ms) all = behind_newest m (o ∷ ms) all.1

newest_more : (m : Mark) (ms : List Mark) → AllBehind m ms → newest_stamp ms ≤ newest_stamp (m ∷ ms)
newest_more m [] all = omega arith
newest_more m (n ∷ ms) all = omega arith

pub all_up_to : (most t : ℕ) (es : List Saved) (ps : List PageImage) (ts : List ℕ) (ms : List Mark) → newest_stamp ms ≤ t → AreMarks most es ps ts ms → AllByRecursion (λ (m : Mark). m.stamp ≤ t) ms
all_up_to most t es ps ts [] le are = tt
all_up_to most t es ps ts (m ∷ ms) le are =
    let here = behind_newest m ms are.1.1.0 in
    let rest = newest_more m ms are.1.1.0 in
    (omega (arith, le, here), all_up_to most t es ps ts ms (omega (arith, le, rest)) are.1.1.1)

up_to_snoc : (most : ℕ) (es : List Saved) (e : Saved) → IsUpTo most e → AreUpTo most es → AreUpTo most (es ++ e ∷ [])
up_to_snoc most [] e is all = (is, tt)
up_to_snoc most (f ∷ es) e is all = (all.0, up_to_snoc most es e is all.1)

up_to_init : (most : ℕ) (es : List Saved) (e : Saved) → AreUpTo most (es ++ e ∷ []) → AreUpTo most es × IsUpTo most e
up_to_init most [] e all = (tt, all.0)
up_to_init most (f ∷ es) e all = (let rest = up_to_init most es e all.1 in ((all.0, rest.0), rest.1))

-- ---- a whole log, as the pages change

pub kept_even : (most : ℕ) (es : List Saved) (ps : List PageImage) (ts : List ℕ) (ms : List Mark) → IsKept most es ps ts ms → length ts ≡ length ps
kept_even most es ps ts ms is = beside_even (IsStamped most) ps ts is.1.0

pub kept_over : (most : ℕ) (es : List Saved) (ps : List PageImage) (ts : List ℕ) (ms : List Mark) (i : ℕ) (page : PageImage) → IsKept most es ps ts ms → IsAt ps page.number i → IsKept most es (set ps i page) ts ms
kept_over most es ps ts ms i page is at = (
  set_rises 0 ps i page is.0 at,
  (
    beside_over (IsStamped most) ps ts i page at (λ p t same q. q) is.1.0,
    (
      is.1.1.0,
      marks_map (λ (m : Mark). ⊤) most most es es ps (set ps i page) ts ts (omega arith) (λ m here mark. mark_over es ps ts i page m at mark) ms (any ms) is.1.1.1,
    ),
  ),
)

pub states_over : (most : ℕ) (es : List Saved) (ps : List PageImage) (ts : List ℕ) (ms : List Mark) (i t : ℕ) (page : PageImage) → IsKept most es ps ts ms → IsAt ps page.number i → t ≡ get_or ts i t → newest_stamp ms ≤ t → changes_at_each es (set ps i page) ms ≡ changes_at_each es ps ms
states_over most es ps ts ms i t page is at t_is young =
    states_map (λ (m : Mark). m.stamp ≤ t) most es es ps (set ps i page) ts (λ m le mark. state_over es ps ts i page t m at t_is le mark) ms (all_up_to most t es ps ts ms young is.1.1.1) is.1.1.1

pub kept_save : (most : ℕ) (es fs : List Saved) (ps qs : List PageImage) (ts us : List ℕ) (ms : List Mark) (i t : ℕ) (page old : PageImage) → IsKept most es ps ts ms → IsAt ps page.number i → old ≡ get_or ps i old → t ≡ get_or ts i t
    → fs ≡ es ++ Changed old t ∷ [] → qs ≡ set ps i page → us ≡ set ts i most → IsKept most fs qs us ms
kept_save most es fs ps qs ts us ms i t page old is at old_is t_is fs_is qs_is us_is =
    subst (λ gs. IsKept most gs qs us ms) (sym fs_is) (subst (λ rs. IsKept most (es ++ Changed old t ∷ []) rs us ms) (sym qs_is) (subst (λ vs. IsKept most (es ++ Changed old t ∷ []) (set ps i page) vs ms) (sym us_is) (
      set_rises 0 ps i page is.0 at,
      (
        beside_set (IsStamped most) (IsStamped most) (λ p u q. q) ps ts i page most (omega arith) is.1.0,
        (
          up_to_snoc most es (Changed old t) (subst (λ u. u ≤ most) (sym t_is) (beside_at (IsStamped most) ps ts i old t at.within is.1.0)) is.1.1.0,
          marks_map (λ (m : Mark). ⊤) most most es (es ++ Changed old t ∷ []) ps (set ps i page) ts (set ts i most) (omega arith) (λ m here mark. mark_save es ps ts i page old t most m at old_is t_is mark) ms (any ms) is.1.1.1,
        ),
      ),
    )))

pub states_save : (most : ℕ) (es fs : List Saved) (ps qs : List PageImage) (ts : List ℕ) (ms : List Mark) (i t : ℕ) (page old : PageImage) → IsKept most es ps ts ms → IsAt ps page.number i → old ≡ get_or ps i old
    → fs ≡ es ++ Changed old t ∷ [] → qs ≡ set ps i page → changes_at_each fs qs ms ≡ changes_at_each es ps ms
states_save most es fs ps qs ts ms i t page old is at old_is fs_is qs_is =
    ap (λ gs. changes_at_each gs qs ms) fs_is ∙ ap (λ rs. changes_at_each (es ++ Changed old t ∷ []) rs ms) qs_is ∙
    states_map (λ (m : Mark). ⊤) most es (es ++ Changed old t ∷ []) ps (set ps i page) ts (λ m here mark. state_push es (Changed old t) ps (set ps i page) m mark.0 (set_back 0 ps i page old is.0 at old_is)) ms (any ms) is.1.1.1

pub kept_add : (most : ℕ) (es fs : List Saved) (ps qs : List PageImage) (ts us : List ℕ) (ms : List Mark) (i : ℕ) (page : PageImage) → IsKept most es ps ts ms → IsGapFor ps page.number i
    → fs ≡ es ++ Added page.number ∷ [] → qs ≡ insert ps i page → us ≡ insert ts i most → IsKept most fs qs us ms
kept_add most es fs ps qs ts us ms i page is gap fs_is qs_is us_is =
    subst (λ gs. IsKept most gs qs us ms) (sym fs_is) (subst (λ rs. IsKept most (es ++ Added page.number ∷ []) rs us ms) (sym qs_is) (subst (λ vs. IsKept most (es ++ Added page.number ∷ []) (insert ps i page) vs ms) (sym us_is) (
      insert_rises 0 ps i page is.0 gap (omega arith),
      (
        beside_insert (IsStamped most) (IsStamped most) (λ p u q. q) ps ts i page most (omega arith) is.1.0,
        (
          up_to_snoc most es (Added page.number) tt is.1.1.0,
          marks_map (λ (m : Mark). ⊤) most most es (es ++ Added page.number ∷ []) ps (insert ps i page) ts (insert ts i most) (omega arith) (λ m here mark. mark_add es ps ts i page most m mark) ms (any ms) is.1.1.1,
        ),
      ),
    )))

pub states_add : (most : ℕ) (es fs : List Saved) (ps qs : List PageImage) (ts : List ℕ) (ms : List Mark) (i : ℕ) (page : PageImage) → IsKept most es ps ts ms → IsGapFor ps page.number i
    → fs ≡ es ++ Added page.number ∷ [] → qs ≡ insert ps i page → changes_at_each fs qs ms ≡ changes_at_each es ps ms
states_add most es fs ps qs ts ms i page is gap fs_is qs_is =
    ap (λ gs. changes_at_each gs qs ms) fs_is ∙ ap (λ rs. changes_at_each (es ++ Added page.number ∷ []) rs ms) qs_is ∙
    states_map (λ (m : Mark). ⊤) most es (es ++ Added page.number ∷ []) ps (insert ps i page) ts (λ m here mark. state_push es (Added page.number) ps (insert ps i page) m mark.0 (insert_back 0 ps i page is.0 gap)) ms (any ms) is.1.1.1

-- a part of a page was written over, and what stood there is saved
pub kept_part : (most : ℕ) (es fs : List Saved) (e : Saved) (ps qs : List PageImage) (ts : List ℕ) (ms : List Mark) (i : ℕ) (page : PageImage) → IsKept most es ps ts ms → ((stamp : ℕ) (seen : List Saved) → Link stamp seen e) → IsUpTo most e → IsAt ps page.number i
    → fs ≡ es ++ e ∷ [] → qs ≡ set ps i page → IsKept most fs qs ts ms
kept_part most es fs e ps qs ts ms i page is link up at fs_is qs_is =
    subst (λ gs. IsKept most gs qs ts ms) (sym fs_is) (subst (λ rs. IsKept most (es ++ e ∷ []) rs ts ms) (sym qs_is) (
      set_rises 0 ps i page is.0 at,
      (
        beside_over (IsStamped most) ps ts i page at (λ p t same q. q) is.1.0,
        (
          up_to_snoc most es e up is.1.1.0,
          marks_map (λ (m : Mark). ⊤) most most es (es ++ e ∷ []) ps (set ps i page) ts ts (omega arith) (λ m here mark. mark_part es e ps ts i page m link at mark) ms (any ms) is.1.1.1,
        ),
      ),
    ))

pub states_part : (most : ℕ) (es fs : List Saved) (e : Saved) (ps qs : List PageImage) (ts : List ℕ) (ms : List Mark) → IsKept most es ps ts ms → fs ≡ es ++ e ∷ [] → undone e qs ≡ ps → changes_at_each fs qs ms ≡ changes_at_each es ps ms
states_part most es fs e ps qs ts ms is fs_is back =
    ap (λ gs. changes_at_each gs qs ms) fs_is ∙
    states_map (λ (m : Mark). ⊤) most es (es ++ e ∷ []) ps qs ts (λ m here mark. state_push es e ps qs m mark.0 back) ms (any ms) is.1.1.1

rises_more : (low last : ℕ) (ps : List PageImage) → low ≤ last → NumbersRise last ps → NumbersRise low ps
rises_more low last [] le are = tt
rises_more low last (p ∷ ps) le are = (let up = are.0 in omega (arith, le, up), are.1)

swapped_cons : (b : Bool) (last : ℕ) (p page : PageImage) (ps : List PageImage) → (p.number == page.number) ≡ b → last ≤ p.number → NumbersRise (p.number + 1) (swapped page ps) → NumbersRise last ((if p.number == page.number then page else p) ∷ swapped page ps)
swapped_cons true last p page ps is le are =
    let n = same_numbers p.number page.number is in
    subst (λ (q : PageImage). NumbersRise last (q ∷ swapped page ps)) (sym (if_true (p.number == page.number) page p is)) (omega (arith, n, le), subst (λ k. NumbersRise (k + 1) (swapped page ps)) n are)
swapped_cons false last p page ps is le are = subst (λ (q : PageImage). NumbersRise last (q ∷ swapped page ps)) (sym (if_false (p.number == page.number) page p is)) (le, are)

swapped_rises : (last : ℕ) (page : PageImage) (ps : List PageImage) → NumbersRise last ps → NumbersRise last (swapped page ps)
swapped_rises last page [] are = tt
swapped_rises last page (p ∷ ps) are = swapped_cons (p.number == page.number) last p page ps refl are.0 (swapped_rises (p.number + 1) page ps are.1)

out_rises : (b : Bool) (last : ℕ) (p : PageImage) (ps : List PageImage) → last ≤ p.number → NumbersRise (p.number + 1) ps → NumbersRise last (if b then ps else p ∷ ps)
out_rises true last p ps le are = rises_more last (p.number + 1) ps (omega (arith, le)) are
out_rises false last p ps le are = (le, are)

without_rises : (last number : ℕ) (ps : List PageImage) → NumbersRise last ps → NumbersRise last (without number ps)
without_rises last number [] are = tt
without_rises last number (p ∷ ps) are = out_rises (p.number == number) last p (without number ps) are.0 (without_rises (p.number + 1) number ps are.1)

parts_rises : (last number offset : ℕ) (bytes : List ℕ) (ps : List PageImage) → NumbersRise last ps → NumbersRise last (parts_over number offset bytes ps)
parts_rises last number offset bytes [] are = tt
parts_rises last number offset bytes (p ∷ ps) are =
    let same = sym (part_if (p.number == number) offset bytes p) in
    (subst (λ n. last ≤ n) same are.0, subst (λ n. NumbersRise (n + 1) (parts_over number offset bytes ps)) same (parts_rises (p.number + 1) number offset bytes ps are.1))

undone_rises : (e : Saved) (ps : List PageImage) → NumbersRise 0 ps → NumbersRise 0 (undone e ps)
undone_rises (Added number) ps are = without_rises 0 number ps are
undone_rises (Changed page t) ps are = swapped_rises 0 page ps are
undone_rises (Part number offset bytes) ps are = parts_rises 0 number offset bytes.items ps are

undone_stamped : (most : ℕ) (e : Saved) (ps : List PageImage) (ts : List ℕ) → IsUpTo most e → Beside (IsStamped most) ps ts → Beside (IsStamped most) (undone e ps) (stamps_undone e ps ts)
undone_stamped most (Added number) ps ts is all = beside_without (IsStamped most) (IsStamped most) number (λ p t other q. q) ps ts all
undone_stamped most (Changed page t) ps ts is all = beside_swapped (IsStamped most) (IsStamped most) page t (λ p u other q. q) is ps ts all
undone_stamped most (Part number offset bytes) ps ts is all = beside_parts (IsStamped most) (IsStamped most) number offset bytes.items (λ p q t same le. le) ps ts all

saved_init : (es : List Saved) (e : Saved) (m : Mark) → m.saved < length (es ++ e ∷ []) → m.saved ≤ length es
saved_init es e m lt = (let long = length_snoc es e in omega (arith, lt, long))

pub kept_undo : (most : ℕ) (es fs : List Saved) (e : Saved) (ps : List PageImage) (ts : List ℕ) (ms : List Mark) → IsKept most fs ps ts ms → fs ≡ es ++ e ∷ [] → AllSaved (length fs) ms → IsKept most es (undone e ps) (stamps_undone e ps ts) ms
kept_undo most es fs e ps ts ms before fs_is below =
    let is = subst (λ gs. IsKept most gs ps ts ms) fs_is before in
    let all = subst (λ gs. AllSaved (length gs) ms) fs_is below in
    let stamps = up_to_init most es e is.1.1.0 in (
      undone_rises e ps is.0,
      (
        undone_stamped most e ps ts stamps.1 is.1.0,
        (
          stamps.0,
          marks_map (λ (m : Mark). m.saved < length (es ++ e ∷ [])) most most (es ++ e ∷ []) es ps (undone e ps) ts (stamps_undone e ps ts) (omega arith) (λ m lt mark. mark_undo es e ps ts m (saved_init es e m lt) mark) ms all is.1.1.1,
        ),
      ),
    )

pub states_undo : (most : ℕ) (es fs : List Saved) (e : Saved) (ps : List PageImage) (ts : List ℕ) (ms : List Mark) → IsKept most fs ps ts ms → fs ≡ es ++ e ∷ [] → AllSaved (length fs) ms → changes_at_each es (undone e ps) ms ≡ changes_at_each fs ps ms
states_undo most es fs e ps ts ms before fs_is below =
    let is = subst (λ gs. IsKept most gs ps ts ms) fs_is before in
    let all = subst (λ gs. AllSaved (length gs) ms) fs_is below in
    states_map (λ (m : Mark). m.saved < length (es ++ e ∷ [])) most (es ++ e ∷ []) es ps (undone e ps) ts (λ m lt mark. sym (state_push es e (undone e ps) ps m (saved_init es e m lt) refl)) ms all is.1.1.1
    ∙ sym (ap (λ gs. changes_at_each gs ps ms) fs_is)

-- ---- a mark of now, and marks left out

behind_snoc : (m n : Mark) (ms : List Mark) → IsBefore m n → AllBehind m ms → AllBehind m (ms ++ n ∷ [])
behind_snoc m n [] is all = (is, tt)
behind_snoc m n (o ∷ ms) is all = (all.0, behind_snoc m n ms is all.1)

drop_all : (es : List Saved) → drop (length es) es ≡ []
drop_all [] = refl
drop_all (e ∷ es) = drop_all es

new_mark : (most : ℕ) (es : List Saved) (ps : List PageImage) (ts : List ℕ) (m : Mark) → m.saved ≡ length es → m.stamp ≡ most + 1 → Beside (IsStamped most) ps ts → IsMark es ps ts m
new_mark most es ps ts m saved_is stamp_is all =
    let none : drop m.saved es ≡ [] = ap (λ k. drop k es) saved_is ∙ drop_all es in
    (omega (arith, saved_is), (beside_map (IsStamped most) (IsSince m.stamp (drop m.saved es)) (λ p t le young. absurd (omega (arith, le, young, stamp_is))) ps ts all, subst (Linked m.stamp []) (sym none) tt))

marks_snoc : (most : ℕ) (es : List Saved) (ps : List PageImage) (ts : List ℕ) (ms : List Mark) (n : Mark) → n.saved ≡ length es → n.stamp ≡ most + 1 → IsMark es ps ts n → AreMarks most es ps ts ms → AreMarks (most + 1) es ps ts (ms ++ n ∷ [])
marks_snoc most es ps ts [] n saved_is stamp_is mark are = (omega (arith, stamp_is), (mark, (tt, tt)))
marks_snoc most es ps ts (m ∷ ms) n saved_is stamp_is mark are =
    let up = are.0 in
    let low = are.1.0.0 in
    (omega (arith, up), (are.1.0, (behind_snoc m n ms (omega (arith, low, saved_is), omega (arith, up, stamp_is)) are.1.1.0, marks_snoc most es ps ts ms n saved_is stamp_is mark are.1.1.1)))

up_to_more : (most : ℕ) (es : List Saved) → AreUpTo most es → AreUpTo (most + 1) es
up_to_more most [] all = tt
up_to_more most (Added number ∷ es) all = (tt, up_to_more most es all.1)
up_to_more most (Changed page t ∷ es) all = (let up = all.0 in omega (arith, up), up_to_more most es all.1)
up_to_more most (Part number offset bytes ∷ es) all = (tt, up_to_more most es all.1)

pub kept_mark : (most more : ℕ) (es : List Saved) (ps : List PageImage) (ts : List ℕ) (ms ns : List Mark) (n : Mark) → IsKept most es ps ts ms → more ≡ most + 1 → n.saved ≡ length es → n.stamp ≡ more → ns ≡ ms ++ n ∷ [] → IsKept more es ps ts ns
kept_mark most more es ps ts ms ns n is more_is saved_is stamp_is ns_is =
    subst (λ k. IsKept k es ps ts ns) (sym more_is) (subst (IsKept (most + 1) es ps ts) (sym ns_is) (
      is.0,
      (
        beside_map (IsStamped most) (IsStamped (most + 1)) (λ p t le. omega (arith, le)) ps ts is.1.0,
        (
          up_to_more most es is.1.1.0,
          marks_snoc most es ps ts ms n saved_is (stamp_is ∙ more_is) (new_mark most es ps ts n saved_is (stamp_is ∙ more_is) is.1.0) is.1.1.1,
        ),
      ),
    ))

-- the marks up to one of them have no more saved before them
behind_take : (m : Mark) (ms : List Mark) (k : ℕ) → AllBehind m ms → AllBehind m (take k ms)
behind_take m [] zero all = tt
behind_take m [] (suc k) all = tt
behind_take m (n ∷ ms) zero all = tt
behind_take m (n ∷ ms) (suc k) all = (all.0, behind_take m ms k all.1)

marks_take : (most : ℕ) (es : List Saved) (ps : List PageImage) (ts : List ℕ) (ms : List Mark) (k : ℕ) → AreMarks most es ps ts ms → AreMarks most es ps ts (take k ms)
marks_take most es ps ts [] zero are = tt
marks_take most es ps ts [] (suc k) are = tt
marks_take most es ps ts (m ∷ ms) zero are = tt
marks_take most es ps ts (m ∷ ms) (suc k) are = (are.0, (are.1.0, (behind_take m ms k are.1.1.0, marks_take most es ps ts ms k are.1.1.1)))

pub kept_take : (most : ℕ) (es : List Saved) (ps : List PageImage) (ts : List ℕ) (ms : List Mark) (k : ℕ) → IsKept most es ps ts ms → IsKept most es ps ts (take k ms)
kept_take most es ps ts ms k is = (is.0, (is.1.0, (is.1.1.0, marks_take most es ps ts ms k is.1.1.1)))

pub states_take : (es : List Saved) (ps : List PageImage) (ms : List Mark) (k : ℕ) → changes_at_each es ps (take k ms) ≡ take k (changes_at_each es ps ms)
states_take es ps [] zero = refl
states_take es ps [] (suc k) = refl
states_take es ps (m ∷ ms) zero = refl
states_take es ps (m ∷ ms) (suc k) = ap (λ ss. changes_at es ps m ∷ ss) (states_take es ps ms k)

before_at : (m : Mark) (ms : List Mark) (k : ℕ) (d : Mark) → k < length ms → AllBehind m ms → IsBefore m (get_or ms k d)
before_at m [] k d lt all = absurd (omega (arith, lt))
before_at m (n ∷ ms) zero d lt all = all.0
before_at m (n ∷ ms) (suc k) d lt all = before_at m ms k d (omega (arith, lt)) all.1

pub up_to_mark : (most : ℕ) (es : List Saved) (ps : List PageImage) (ts : List ℕ) (ms : List Mark) (k : ℕ) (d : Mark) → k < length ms → AreMarks most es ps ts ms → AllByRecursion (λ (m : Mark). m.saved ≤ (get_or ms k d).saved) (take (suc k) ms)
up_to_mark most es ps ts [] k d lt are = absurd (omega (arith, lt))
up_to_mark most es ps ts (m ∷ ms) zero d lt are = (omega arith, tt)
up_to_mark most es ps ts (m ∷ ms) (suc k) d lt are = ((before_at m ms k d (omega (arith, lt)) are.1.1.0).0, up_to_mark most es ps ts ms k d (omega (arith, lt)) are.1.1.1)

pub saved_less : (k most : ℕ) (ms : List Mark) → k < most → AllByRecursion (λ (m : Mark). m.saved ≤ k) ms → AllSaved most ms
saved_less k most [] lt all = tt
saved_less k most (m ∷ ms) lt all = (let le = all.0 in omega (arith, lt, le), saved_less k most ms lt all.1)

saved_within : (most : ℕ) (es : List Saved) (ps : List PageImage) (ts : List ℕ) (ms : List Mark) (k : ℕ) (m : Mark) → k < length ms → m ≡ get_or ms k m → AreMarks most es ps ts ms → m.saved ≤ length es
saved_within most es ps ts [] k m lt is are = absurd (omega (arith, lt))
saved_within most es ps ts (n ∷ ms) zero m lt is are = subst (λ (o : Mark). o.saved ≤ length es) (sym is) are.1.0.0
saved_within most es ps ts (n ∷ ms) (suc k) m lt is are = saved_within most es ps ts ms k m (omega (arith, lt)) is are.1.1.1

pub mark_within : (most : ℕ) (es : List Saved) (ps : List PageImage) (ts : List ℕ) (ms : List Mark) (k : ℕ) (m : Mark) → k < length ms → m ≡ get_or ms k m → IsKept most es ps ts ms → m.saved ≤ length es
mark_within most es ps ts ms k m lt is kept = saved_within most es ps ts ms k m lt is kept.1.1.1

pub states_length : (es : List Saved) (ps : List PageImage) (ms : List Mark) → length (changes_at_each es ps ms) ≡ length ms
states_length es ps [] = refl
states_length es ps (m ∷ ms) = ap suc (states_length es ps ms)

pub kept_undone : (most : ℕ) (es fs : List Saved) (e : Saved) (ps qs : List PageImage) (ts us : List ℕ) (ms : List Mark) → IsKept most fs ps ts ms → fs ≡ es ++ e ∷ [] → AllSaved (length fs) ms → qs ≡ undone e ps → us ≡ stamps_undone e ps ts → IsKept most es qs us ms
kept_undone most es fs e ps qs ts us ms is fs_is below qs_is us_is =
    subst (λ rs. IsKept most es rs us ms) (sym qs_is) (subst (λ vs. IsKept most es (undone e ps) vs ms) (sym us_is) (kept_undo most es fs e ps ts ms is fs_is below))

pub states_undone : (most : ℕ) (es fs : List Saved) (e : Saved) (ps qs : List PageImage) (ts : List ℕ) (ms : List Mark) → IsKept most fs ps ts ms → fs ≡ es ++ e ∷ [] → AllSaved (length fs) ms → qs ≡ undone e ps → changes_at_each es qs ms ≡ changes_at_each fs ps ms
states_undone most es fs e ps qs ts ms is fs_is below qs_is = ap (λ rs. changes_at_each es rs ms) qs_is ∙ states_undo most es fs e ps ts ms is fs_is below

pub saved_below : (most : ℕ) (es fs : List Saved) (ps : List PageImage) (ts : List ℕ) (ms ns : List Mark) (k : ℕ) (m : Mark) → k < length ms → m ≡ get_or ms k m → IsKept most es ps ts ms → ns ≡ take (k + 1) ms → m.saved < length fs → AllSaved (length fs) ns
saved_below most es fs ps ts ms ns k m lt is kept ns_is more =
    let next : k + 1 ≡ suc k = omega arith in
    let here : (get_or ms k m).saved < length fs = subst (λ (o : Mark). o.saved < length fs) is more in
    subst (AllSaved (length fs)) (sym (ns_is ∙ ap (λ j. take j ms) next)) (saved_less (get_or ms k m).saved (length fs) (take (suc k) ms) here (up_to_mark most es ps ts ms k m lt kept.1.1.1))

pub kept_taken : (most : ℕ) (es : List Saved) (ps : List PageImage) (ts : List ℕ) (ms ns : List Mark) (k : ℕ) → IsKept most es ps ts ms → ns ≡ take k ms → IsKept most es ps ts ns
kept_taken most es ps ts ms ns k is ns_is = subst (IsKept most es ps ts) (sym ns_is) (kept_take most es ps ts ms k is)

pub states_taken : (es : List Saved) (ps : List PageImage) (ms ns : List Mark) (k : ℕ) → ns ≡ take k ms → changes_at_each es ps ns ≡ take k (changes_at_each es ps ms)
states_taken es ps ms ns k ns_is = ap (changes_at_each es ps) ns_is ∙ states_take es ps ms k

-- ---- a page whose image at the newest mark is saved

pub any_stamp : (ts : List ℕ) (i a b : ℕ) → i < length ts → get_or ts i a ≡ get_or ts i b
any_stamp [] i a b lt = absurd (omega (arith, lt))
any_stamp (t ∷ ts) zero a b lt = refl
any_stamp (t ∷ ts) (suc i) a b lt = any_stamp ts i a b (omega (arith, lt))

pub states_young : (most : ℕ) (es : List Saved) (ps qs : List PageImage) (ts : List ℕ) (ms : List Mark) (i : ℕ) (page : PageImage) → IsKept most es ps ts ms → IsAt ps page.number i → qs ≡ set ps i page → newest_stamp ms ≤ get_or ts i 0
    → changes_at_each es qs ms ≡ changes_at_each es ps ms
states_young most es ps qs ts ms i page is at qs_is young =
    let even = kept_even most es ps ts ms is in
    let within = at.within in
    ap (λ rs. changes_at_each es rs ms) qs_is ∙ states_over most es ps ts ms i (get_or ts i 0) page is at (any_stamp ts i 0 (get_or ts i 0) (omega (arith, even, within))) young

-- ---- no mark

pub kept_none : (most : ℕ) (es : List Saved) (ps : List PageImage) (ts : List ℕ) (ms : List Mark) → IsKept most es ps ts ms → IsKept most [] ps ts []
kept_none most es ps ts ms is = (is.0, (is.1.0, (tt, tt)))

inserted_alone : (most : ℕ) (es : List Saved) (ps : List PageImage) (ts : List ℕ) (i : ℕ) (page : PageImage) → IsKept most es ps ts [] → IsGapFor ps page.number i → IsKept most es (insert ps i page) (insert ts i most) []
inserted_alone most es ps ts i page is gap = (insert_rises 0 ps i page is.0 gap (omega arith), (beside_insert (IsStamped most) (IsStamped most) (λ p u q. q) ps ts i page most (omega arith) is.1.0, (is.1.1.0, tt)))

-- a page was put in its gap, or refused
pub kept_alone : {T : Type 0} (result : Result T Fault) (most : ℕ) (es : List Saved) (ps qs : List PageImage) (ts us : List ℕ) (ms : List Mark) (i : ℕ) (page : PageImage) → ms ≡ [] → IsKept most es ps ts ms → IsGapFor ps page.number i
    → OnOk result (qs ≡ insert ps i page) → OnOk result (us ≡ insert ts i most) → IfErr result (λ fault. (fault ≡ Memory) × (qs ≡ ps) × (us ≡ ts)) → IsKept most es qs us ms
kept_alone (Ok x) most es ps qs ts us ms i page none is gap pages stamps refused =
    subst (λ rs. IsKept most es rs us ms) (sym pages) (subst (λ vs. IsKept most es (insert ps i page) vs ms) (sym stamps) (subst (IsKept most es (insert ps i page) (insert ts i most)) (sym none)
    (inserted_alone most es ps ts i page (subst (IsKept most es ps ts) none is) gap)))
kept_alone (Err fault) most es ps qs ts us ms i page none is gap pages stamps refused =
    subst (λ rs. IsKept most es rs us ms) (sym refused.1) (subst (λ vs. IsKept most es ps vs ms) (sym refused.2) is)

pub no_marks : (ms : List Mark) → length ms ≡ 0 → ms ≡ []
no_marks [] is = refl
no_marks (m ∷ ms) is = absurd (omega (arith, is))

-- Which writers are sound, and that a page more or less as it should be changes nothing of it.
use Rattle.std.proofs.Common.{◌≡◌, inl, inr, ◌<◌, ◌≤◌, ◌+◌, ◌*◌, ◌/◌, ◌==◌, ℕ, zero, suc, List, [], ◌∷◌, ◌++◌, length, take, drop, get_or, set, refl, sym, ◌∙◌, ap, subst, arith, Bool, true, false, nat_lt}
use Rattle.std.specs.Prelude.{◌&&◌, IsTrue, nat_le, max, if◌then◌else◌}
use Rattle.std.specs.List.{AllByRecursion, insert}
use Rattle.std.proofs.Math.Nat.{le-div_iff_mul-le, le-min, min-le_left, min-le_right}
use Rattle.std.proofs.lemmas.Bool.{and_from, and_parts, cases_eq, cases_lt, leb-true, le-leb}
use Rattle.std.proofs.lemmas.Bool.Decides.{nat_tests}
use Rattle.wal.specs.declared.pages.PageImage.{PageImage}
use Rattle.wal.specs.Laws.{IsNotAmong}
use Rattle.wal.specs.LogState.{size_of}
use Rattle.wal.specs.Pages.{ArePages}
use Rattle.wal.specs.Sizes.{IsSizeWithinLimits}
use Rattle.pager.specs.declared.writer.Writer.{Writer}
use Rattle.pager.specs.Limits.{is_too_large, pages_of, page_size_of}
use Rattle.pager.specs.Sound.{IsSound, are_pages, begin_at_page_one, is_sound, most_of, reach_from}
use Rattle.pager.specs.Views.{View, changes_of}
use Rattle.pager.specs.Writers.{BeginAtPageOne, IsAt, IsBegun, IsConsistent, IsGapFor, snapshot_of}
use Rattle.pager.proofs.WriterPages.{insert_begins, insert_pages, others, set_begins, set_pages}

-- ---- tests and facts

pub pages_from : (last size bytes : ℕ) (ps : List PageImage) → are_pages last size bytes ps ≡ true → ArePages last size bytes ps
pages_from last size bytes [] is = tt
pages_from last size bytes (p ∷ ps) is =
    let a = and_parts (nat_lt last p.number) (nat_le p.number size && (length p.bytes.items == bytes && are_pages p.number size bytes ps)) is in
    let b = and_parts (nat_le p.number size) (length p.bytes.items == bytes && are_pages p.number size bytes ps) a.1 in
    let c = and_parts (length p.bytes.items == bytes) (are_pages p.number size bytes ps) b.1 in
    (grind (arith, a.0), leb-true p.number size b.0, grind (arith, c.0), pages_from p.number size bytes ps c.1)

pub pages_to : (last size bytes : ℕ) (ps : List PageImage) → ArePages last size bytes ps → are_pages last size bytes ps ≡ true
pages_to last size bytes [] are = refl
pages_to last size bytes (p ∷ ps) are =
    and_from (nat_lt last p.number) (nat_le p.number size && (length p.bytes.items == bytes && are_pages p.number size bytes ps)) (grind (arith, are.0))
    (and_from (nat_le p.number size) (length p.bytes.items == bytes && are_pages p.number size bytes ps) (le-leb p.number size are.1)
    (and_from (length p.bytes.items == bytes) (are_pages p.number size bytes ps) (grind (arith, are.2)) (pages_to p.number size bytes ps are.3)))

begins_from : (ps : List PageImage) → begin_at_page_one ps ≡ true → BeginAtPageOne ps
begins_from [] is = (let bad : false ≡ true = is in absurd cc)
begins_from (p ∷ ps) is = grind (arith, is)

begins_to : (ps : List PageImage) → BeginAtPageOne ps → begin_at_page_one ps ≡ true
begins_to [] is = absurd is
begins_to (p ∷ ps) is = grind (arith, is)

-- each number above one, up to another, is among these
abbrev pub Reach : ℕ → ℕ → List PageImage → Type 0
Reach last size ps = (number : ℕ) → last < number → number ≤ size → IsNotAmong ps number → ⊥

reach_step : (last size number : ℕ) (p : PageImage) (ps : List PageImage) → last < number → IsNotAmong (p ∷ ps) number
    → (reach_from last size ps ≡ true → ⊥) → (reach_from (last + 1) size ps ≡ true → last + 1 < number → ⊥)
    → (test : Bool) → nat_le p.number last ≡ test → (if test then reach_from last size ps else (p.number == last + 1 && reach_from (last + 1) size ps)) ≡ true → ⊥
reach_step last size number p ps above none skip next true le is = skip is
reach_step last size number p ps above none skip next false more is =
    let parts = and_parts (p.number == last + 1) (reach_from (last + 1) size ps) is in
    let here : p.number ≡ last + 1 = grind (arith, parts.0) in
    elim (cases_eq p.number number) [
      | inl same ↦ none.0 same
      | inr other ↦ next parts.1 (omega (arith, above, here, other))
    ]

pub reach_all : (last size : ℕ) (ps : List PageImage) → reach_from last size ps ≡ true → Reach last size ps
reach_all last size [] is number above below none = (let le = leb-true size last is in omega (arith, le, above, below))
reach_all last size (p ∷ ps) is number above below none =
    reach_step last size number p ps above none (λ h. reach_all last size ps h number above below none.1) (λ h more. reach_all (last + 1) size ps h number more below none.1) (nat_le p.number last) refl is

-- where pages rise, the next number is the first of those that are past one
first_past : (last size bytes before : ℕ) (p : PageImage) (ps : List PageImage) → ArePages before size bytes (p ∷ ps) → last < p.number → Reach last size (p ∷ ps) → p.number ≡ last + 1
first_past last size bytes before p ps are more reach = elim (cases_eq p.number (last + 1)) [
  | inl is ↦ is
  | inr other ↦ absurd (reach (last + 1) (omega arith) (omega (arith, more, are.1)) (other, others p.number size bytes (last + 1) ps (omega (arith, more, other)) are.3))
]

reach_back : (last size bytes before : ℕ) (p : PageImage) (ps : List PageImage) → ArePages before size bytes (p ∷ ps) → Reach last size (p ∷ ps)
    → (p.number ≤ last → reach_from last size ps ≡ true) → (p.number ≡ last + 1 → reach_from (last + 1) size ps ≡ true)
    → (test : Bool) → nat_le p.number last ≡ test → (if test then reach_from last size ps else (p.number == last + 1 && reach_from (last + 1) size ps)) ≡ true
reach_back last size bytes before p ps are reach skip next true le = skip (leb-true p.number last le)
reach_back last size bytes before p ps are reach skip next false more =
    let is = first_past last size bytes before p ps are (grind (arith, more)) reach in
    and_from (p.number == last + 1) (reach_from (last + 1) size ps) (grind (arith, is)) (next is)

pub all_reach : (last size bytes before : ℕ) (ps : List PageImage) → ArePages before size bytes ps → Reach last size ps → reach_from last size ps ≡ true
all_reach last size bytes before [] are reach = le-leb size last (elim (cases_lt last size) [
  | inl more ↦ absurd (reach size more (omega arith) tt)
  | inr le ↦ le
])
all_reach last size bytes before (p ∷ ps) are reach = reach_back last size bytes before p ps are reach
    (λ le. all_reach last size bytes p.number ps are.3 (λ number above below none. reach number above below ((λ is. omega (arith, is, le, above)), none)))
    (λ is. all_reach (last + 1) size bytes p.number ps are.3 (λ number above below none. reach number (omega (arith, above)) below ((λ same. omega (arith, same, is, above)), none)))
    (nat_le p.number last) refl

pub sound_from : (writer : Writer) → IsTrue (is_sound writer) → IsSound writer
sound_from writer is =
    let a = and_parts (begin_at_page_one (changes_of writer)) (are_pages 0 (pages_of writer) (page_size_of writer) (changes_of writer) && (reach_from (size_of (snapshot_of writer)) (pages_of writer) (changes_of writer) && nat_le (pages_of writer) (most_of (page_size_of writer)))) is in
    let b = and_parts (are_pages 0 (pages_of writer) (page_size_of writer) (changes_of writer)) (reach_from (size_of (snapshot_of writer)) (pages_of writer) (changes_of writer) && nat_le (pages_of writer) (most_of (page_size_of writer))) a.1 in
    let c = and_parts (reach_from (size_of (snapshot_of writer)) (pages_of writer) (changes_of writer)) (nat_le (pages_of writer) (most_of (page_size_of writer))) b.1 in
    record {
      consistent = record { pages = pages_from 0 (pages_of writer) (page_size_of writer) (changes_of writer) b.0; first = begins_from (changes_of writer) a.0 };
      reaches = reach_all (size_of (snapshot_of writer)) (pages_of writer) (changes_of writer) c.0;
      within = leb-true (pages_of writer) (most_of (page_size_of writer)) c.1;
    }

pub sound_to : (writer : Writer) → IsSound writer → IsTrue (is_sound writer)
sound_to writer sound =
    and_from (begin_at_page_one (changes_of writer)) (are_pages 0 (pages_of writer) (page_size_of writer) (changes_of writer) && (reach_from (size_of (snapshot_of writer)) (pages_of writer) (changes_of writer) && nat_le (pages_of writer) (most_of (page_size_of writer))))
    (begins_to (changes_of writer) sound.consistent.first)
    (and_from (are_pages 0 (pages_of writer) (page_size_of writer) (changes_of writer)) (reach_from (size_of (snapshot_of writer)) (pages_of writer) (changes_of writer) && nat_le (pages_of writer) (most_of (page_size_of writer)))
    (pages_to 0 (pages_of writer) (page_size_of writer) (changes_of writer) sound.consistent.pages)
    (and_from (reach_from (size_of (snapshot_of writer)) (pages_of writer) (changes_of writer)) (nat_le (pages_of writer) (most_of (page_size_of writer)))
    (all_reach (size_of (snapshot_of writer)) (pages_of writer) (page_size_of writer) 0 (changes_of writer) sound.consistent.pages sound.reaches)
    (le-leb (pages_of writer) (most_of (page_size_of writer)) sound.within)))

-- ---- what changes nothing of it

same_test : (a b : Bool) → (a ≡ true → b ≡ true) → (b ≡ true → a ≡ true) → a ≡ b
same_test true true forth back = refl
same_test false false forth back = refl
same_test true false forth back = sym (forth refl)
same_test false true forth back = back refl

pub sound_same : (old new : Writer) → (IsSound old → IsSound new) → (IsSound new → IsSound old) → is_sound new ≡ is_sound old
sound_same old new forth back = same_test (is_sound new) (is_sound old) (λ is. sound_to old (back (sound_from new is))) (λ is. sound_to new (forth (sound_from old is)))

-- ---- a page in the place of another

unset_pages : (last size bytes : ℕ) (ps : List PageImage) (i : ℕ) (page : PageImage) → ArePages last size bytes (set ps i page) → IsAt ps page.number i
    → ((d : PageImage) → length (get_or ps i d).bytes.items ≡ bytes) → ArePages last size bytes ps
unset_pages last size bytes [] i page are at long = tt
unset_pages last size bytes (p ∷ ps) zero page are at long =
    let same : p.number ≡ page.number = at.number_is page in
    (omega (arith, same, are.0), omega (arith, same, are.1), long page, subst (λ (n : ℕ). ArePages n size bytes ps) (sym same) are.3)
unset_pages last size bytes (p ∷ ps) (suc i) page are at long =
    (are.0, are.1, are.2, unset_pages p.number size bytes ps i page are.3 (record { within = omega (arith, at.within); number_is = λ d. at.number_is d }) long)

unset_begins : (ps : List PageImage) (i : ℕ) (page : PageImage) → BeginAtPageOne (set ps i page) → IsAt ps page.number i → BeginAtPageOne ps
unset_begins [] i page begins at = absurd (omega (arith, at.within))
unset_begins (p ∷ ps) zero page begins at = at.number_is page ∙ begins
unset_begins (p ∷ ps) (suc i) page begins at = begins

set_others : (ps : List PageImage) (i : ℕ) (page : PageImage) (number : ℕ) → IsAt ps page.number i → IsNotAmong (set ps i page) number → IsNotAmong ps number
set_others [] i page number at none = tt
set_others (p ∷ ps) zero page number at none = ((λ is. none.0 (sym (at.number_is page) ∙ is)), none.1)
set_others (p ∷ ps) (suc i) page number at none = (none.0, set_others ps i page number (record { within = omega (arith, at.within); number_is = λ d. at.number_is d }) none.1)

unset_others : (ps : List PageImage) (i : ℕ) (page : PageImage) (number : ℕ) → IsAt ps page.number i → IsNotAmong ps number → IsNotAmong (set ps i page) number
unset_others [] i page number at none = tt
unset_others (p ∷ ps) zero page number at none = ((λ is. none.0 (at.number_is page ∙ is)), none.1)
unset_others (p ∷ ps) (suc i) page number at none = (none.0, unset_others ps i page number (record { within = omega (arith, at.within); number_is = λ d. at.number_is d }) none.1)

-- ---- two writers of one size, over one snapshot

-- nothing but the pages differs
pub record AreBeside (old new : Writer) : Type 0 where
  pub size : pages_of new ≡ pages_of old
  pub page_size : page_size_of new ≡ page_size_of old
  pub snapshot : snapshot_of new ≡ snapshot_of old

pub beside_back : (old new : Writer) → AreBeside old new → AreBeside new old
beside_back old new beside = record { size = sym beside.size; page_size = sym beside.page_size; snapshot = sym beside.snapshot }

-- where the one's pages are pages, the other's are, and what the one has past the snapshot, so has the other
pub sound_beside : (old new : Writer) → AreBeside old new → (ArePages 0 (pages_of old) (page_size_of old) (changes_of old) → ArePages 0 (pages_of old) (page_size_of old) (changes_of new))
    → (BeginAtPageOne (changes_of old) → BeginAtPageOne (changes_of new))
    → ((number : ℕ) → size_of (snapshot_of old) < number → IsNotAmong (changes_of new) number → IsNotAmong (changes_of old) number) → IsSound old → IsSound new
sound_beside old new beside pages first others_too sound = record {
  consistent = record {
    pages = subst (λ (n : ℕ). ArePages 0 n (page_size_of new) (changes_of new)) (sym beside.size) (subst (λ (n : ℕ). ArePages 0 (pages_of old) n (changes_of new)) (sym beside.page_size) (pages sound.consistent.pages));
    first = first sound.consistent.first;
  };
  reaches = λ number above below none.
      (let more : size_of (snapshot_of old) < number = omega (arith, above, ap size_of beside.snapshot) in
      sound.reaches number more (omega (arith, below, beside.size)) (others_too number more none));
  within = subst (λ (n : ℕ). n ≤ most_of (page_size_of new)) (sym beside.size) (subst (λ (n : ℕ). pages_of old ≤ most_of n) (sym beside.page_size) sound.within);
}

-- where the pages are the same too, the one is sound as the other
pub sound_alike : (old new : Writer) → AreBeside old new → changes_of new ≡ changes_of old → IsSound old → IsSound new
sound_alike old new beside changes = sound_beside old new beside
    (λ are. subst (ArePages 0 (pages_of old) (page_size_of old)) (sym changes) are)
    (λ first. subst BeginAtPageOne (sym changes) first)
    (λ number above none. subst (λ (ps : List PageImage). IsNotAmong ps number) changes none)

-- a page of the same length took the place of another
pub set_sound : (old new : Writer) (i : ℕ) (page : PageImage) → AreBeside old new → changes_of new ≡ set (changes_of old) i page → IsAt (changes_of old) page.number i → length page.bytes.items ≡ page_size_of old
    → ((d : PageImage) → length (get_or (changes_of old) i d).bytes.items ≡ page_size_of old) → is_sound new ≡ is_sound old
set_sound old new i page beside changes at len long = sound_same old new
    (sound_beside old new beside
    (λ are. subst (ArePages 0 (pages_of old) (page_size_of old)) (sym changes) (set_pages 0 (pages_of old) (page_size_of old) (changes_of old) i page are at len))
    (λ first. subst BeginAtPageOne (sym changes) (set_begins (changes_of old) i page first at))
    (λ number above none. set_others (changes_of old) i page number at (subst (λ (ps : List PageImage). IsNotAmong ps number) changes none)))
    (sound_beside new old (beside_back old new beside)
    (λ are. subst (λ (n : ℕ). ArePages 0 (pages_of new) n (changes_of old)) (sym beside.page_size)
    (unset_pages 0 (pages_of new) (page_size_of old) (changes_of old) i page (subst (ArePages 0 (pages_of new) (page_size_of old)) changes (subst (λ (n : ℕ). ArePages 0 (pages_of new) n (changes_of new)) beside.page_size are)) at long))
    (λ first. unset_begins (changes_of old) i page (subst BeginAtPageOne changes first) at)
    (λ number above none. subst (λ (ps : List PageImage). IsNotAmong ps number) (sym changes) (unset_others (changes_of old) i page number at none)))

-- ---- a page in its gap

uninsert_pages : (last size bytes : ℕ) (ps : List PageImage) (i : ℕ) (page : PageImage) → ArePages last size bytes (insert ps i page) → ArePages last size bytes ps
uninsert_pages last size bytes [] i page are = tt
uninsert_pages last size bytes (p ∷ ps) zero page are = (omega (arith, are.0, are.3.0), are.3.1, are.3.2, are.3.3)
uninsert_pages last size bytes (p ∷ ps) (suc i) page are = (are.0, are.1, are.2, uninsert_pages p.number size bytes ps i page are.3)

uninsert_begins : (ps : List PageImage) (i : ℕ) (page : PageImage) → 1 ≤ i → i ≤ length ps → BeginAtPageOne (insert ps i page) → BeginAtPageOne ps
uninsert_begins ps zero page low le begins = absurd (omega (arith, low))
uninsert_begins [] (suc i) page low le begins = absurd (omega (arith, le))
uninsert_begins (p ∷ ps) (suc i) page low le begins = begins

insert_others : (ps : List PageImage) (i : ℕ) (page : PageImage) (number : ℕ) → IsNotAmong (insert ps i page) number → IsNotAmong ps number
insert_others [] i page number none = tt
insert_others (p ∷ ps) zero page number none = none.1
insert_others (p ∷ ps) (suc i) page number none = (none.0, insert_others ps i page number none.1)

uninsert_others : (ps : List PageImage) (i : ℕ) (page : PageImage) (number : ℕ) → (page.number ≡ number → ⊥) → IsNotAmong ps number → IsNotAmong (insert ps i page) number
uninsert_others [] zero page number other none = (other, tt)
uninsert_others [] (suc i) page number other none = (other, tt)
uninsert_others (p ∷ ps) zero page number other none = (other, none)
uninsert_others (p ∷ ps) (suc i) page number other none = (none.0, uninsert_others ps i page number other none.1)

-- a page that the snapshot shows was put among the changes
pub insert_sound : (old new : Writer) (i : ℕ) (page : PageImage) → AreBeside old new → changes_of new ≡ insert (changes_of old) i page → 1 ≤ i → i ≤ length (changes_of old)
    → (IsConsistent old → IsGapFor (changes_of old) page.number i) → 1 ≤ page.number → page.number ≤ pages_of old → page.number ≤ size_of (snapshot_of old) → length page.bytes.items ≡ page_size_of old
    → is_sound new ≡ is_sound old
insert_sound old new i page beside changes low le gap first last shown len = sound_same old new forth back
  where
    forth : IsSound old → IsSound new
    forth sound = sound_beside old new beside
        (λ are. subst (ArePages 0 (pages_of old) (page_size_of old)) (sym changes) (insert_pages 0 (pages_of old) (page_size_of old) (changes_of old) i page are (gap sound.consistent) first last len))
        (λ begins. subst BeginAtPageOne (sym changes) (insert_begins (changes_of old) i page begins (gap sound.consistent) first))
        (λ number above none. insert_others (changes_of old) i page number (subst (λ (ps : List PageImage). IsNotAmong ps number) changes none)) sound

    back : IsSound new → IsSound old
    back = sound_beside new old (beside_back old new beside)
        (λ are. uninsert_pages 0 (pages_of new) (page_size_of new) (changes_of old) i page (subst (ArePages 0 (pages_of new) (page_size_of new)) changes are))
        (λ begins. uninsert_begins (changes_of old) i page low le (subst BeginAtPageOne changes begins))
        (λ number above none. subst (λ (ps : List PageImage). IsNotAmong ps number) (sym changes)
        (uninsert_others (changes_of old) i page number (λ is. omega (arith, is, shown, above, ap size_of beside.snapshot)) none))

-- ---- a page at the end

below_last : (last size bytes : ℕ) (ps : List PageImage) (page : PageImage) → ArePages last size bytes (ps ++ page ∷ []) → last < page.number
below_last last size bytes [] page are = are.0
below_last last size bytes (p ∷ ps) page are = (let more = below_last p.number size bytes ps page are.3 in omega (arith, more, are.0))

push_pages : (last size bytes : ℕ) (ps : List PageImage) (page : PageImage) → last ≤ size → page.number ≡ size + 1 → length page.bytes.items ≡ bytes → ArePages last size bytes ps → ArePages last (size + 1) bytes (ps ++ page ∷ [])
push_pages last size bytes [] page le is len are = (omega (arith, le, is), omega (arith, is), len, tt)
push_pages last size bytes (p ∷ ps) page le is len are = (are.0, omega (arith, are.1), are.2, push_pages p.number size bytes ps page are.1 is len are.3)

unpush_pages : (last size bytes : ℕ) (ps : List PageImage) (page : PageImage) → page.number ≡ size + 1 → ArePages last (size + 1) bytes (ps ++ page ∷ []) → ArePages last size bytes ps
unpush_pages last size bytes [] page is are = tt
unpush_pages last size bytes (p ∷ ps) page is are =
    let more = below_last p.number (size + 1) bytes ps page are.3 in
    (are.0, omega (arith, more, is), are.2, unpush_pages p.number size bytes ps page is are.3)

pub end_gap : (last size bytes : ℕ) (ps : List PageImage) → ArePages last size bytes ps → IsGapFor ps (size + 1) (length ps)
end_gap last size bytes ps are = record { within = omega arith; smaller = all_small last size bytes ps are; greater = none_greater ps }
  where
    all_small : (last size bytes : ℕ) (ps : List PageImage) → ArePages last size bytes ps → AllByRecursion (λ (p : PageImage). p.number < size + 1) (take (length ps) ps)
    all_small last size bytes [] are = tt
    all_small last size bytes (p ∷ ps) are = (omega (arith, are.1), all_small p.number size bytes ps are.3)

    none_greater : (ps : List PageImage) → AllByRecursion (λ (p : PageImage). size + 1 < p.number) (drop (length ps) ps)
    none_greater [] = tt
    none_greater (p ∷ ps) = none_greater ps

pub insert_end : (ps : List PageImage) (page : PageImage) → insert ps (length ps) page ≡ ps ++ page ∷ []
insert_end [] page = refl
insert_end (p ∷ ps) page = ap (λ (qs : List PageImage). p ∷ qs) (insert_end ps page)

push_begins : (ps : List PageImage) (page : PageImage) → 1 ≤ length ps → (BeginAtPageOne ps → BeginAtPageOne (ps ++ page ∷ [])) × (BeginAtPageOne (ps ++ page ∷ []) → BeginAtPageOne ps)
push_begins [] page some = absurd (omega (arith, some))
push_begins (p ∷ ps) page some = ((λ is. is), (λ is. is))

push_others : (ps : List PageImage) (page : PageImage) (number : ℕ) → IsNotAmong (ps ++ page ∷ []) number → IsNotAmong ps number × (page.number ≡ number → ⊥)
push_others [] page number none = (tt, none.0)
push_others (p ∷ ps) page number none = (let rest = push_others ps page number none.1 in ((none.0, rest.0), rest.1))

unpush_others : (ps : List PageImage) (page : PageImage) (number : ℕ) → (page.number ≡ number → ⊥) → IsNotAmong ps number → IsNotAmong (ps ++ page ∷ []) number
unpush_others [] page number other none = (other, tt)
unpush_others (p ∷ ps) page number other none = (none.0, unpush_others ps page number other none.1)

-- a page was added at the end, and was one more
pub push_sound : (old new : Writer) (page : PageImage) → changes_of new ≡ changes_of old ++ (page ∷ []) → pages_of new ≡ pages_of old + 1 → page_size_of new ≡ page_size_of old → snapshot_of new ≡ snapshot_of old
    → 1 ≤ length (changes_of old) → page.number ≡ pages_of old + 1 → length page.bytes.items ≡ page_size_of old → pages_of old + 1 ≤ most_of (page_size_of old) → is_sound new ≡ is_sound old
push_sound old new page changes size page_size snapshot some is len within = sound_same old new forth back
  where
    forth : IsSound old → IsSound new
    forth sound = record {
      consistent = record {
        pages = subst (λ (n : ℕ). ArePages 0 n (page_size_of new) (changes_of new)) (sym size) (subst (λ (n : ℕ). ArePages 0 (pages_of old + 1) n (changes_of new)) (sym page_size)
            (subst (ArePages 0 (pages_of old + 1) (page_size_of old)) (sym changes) (push_pages 0 (pages_of old) (page_size_of old) (changes_of old) page (omega arith) is len sound.consistent.pages)));
        first = subst BeginAtPageOne (sym changes) ((push_begins (changes_of old) page some).0 sound.consistent.first);
      };
      reaches = λ number above below none. (let rest = push_others (changes_of old) page number (subst (λ (ps : List PageImage). IsNotAmong ps number) changes none) in
          sound.reaches number (omega (arith, above, ap size_of snapshot)) (elim (cases_lt (pages_of old) number) [
            | inl more ↦ absurd (rest.1 (omega (arith, more, below, size, is)))
            | inr le ↦ le
          ]) rest.0);
      within = subst (λ (n : ℕ). n ≤ most_of (page_size_of new)) (sym size) (subst (λ (n : ℕ). pages_of old + 1 ≤ most_of n) (sym page_size) within);
    }

    back : IsSound new → IsSound old
    back sound = record {
      consistent = record {
        pages = unpush_pages 0 (pages_of old) (page_size_of old) (changes_of old) page is (subst (ArePages 0 (pages_of old + 1) (page_size_of old)) changes
            (subst (λ (n : ℕ). ArePages 0 (pages_of old + 1) n (changes_of new)) page_size (subst (λ (n : ℕ). ArePages 0 n (page_size_of new) (changes_of new)) size sound.consistent.pages)));
        first = (push_begins (changes_of old) page some).1 (subst BeginAtPageOne changes sound.consistent.first);
      };
      reaches = λ number above below none. sound.reaches number (omega (arith, above, ap size_of snapshot)) (omega (arith, below, size))
          (subst (λ (ps : List PageImage). IsNotAmong ps number) (sym changes) (unpush_others (changes_of old) page number (λ same. omega (arith, same, is, below)) none));
      within = omega (arith, within);
    }

-- ---- the limits

some_size : (n : ℕ) → 0 < max 1 n
some_size n = grind (arith, nat_tests)

same_size : (n : ℕ) → max 1 (suc n) ≡ suc n
same_size n = grind (arith, nat_tests)

-- the limits in bytes, as a product and as a quotient
bytes_within : (pages page_size : ℕ) → pages ≤ 65536 → pages * page_size ≤ 1073741824 → pages ≤ 1073741824 / max 1 page_size
bytes_within pages page_size few le = (le-div_iff_mul-le (some_size page_size)).1 (at_least page_size le)
  where
    at_least : (n : ℕ) → pages * n ≤ 1073741824 → pages * max 1 n ≤ 1073741824
    at_least zero le = omega (arith, few)
    at_least (suc n) le = subst (λ (k : ℕ). pages * k ≤ 1073741824) (sym (same_size n)) le

within_bytes : (pages page_size : ℕ) → pages ≤ 1073741824 / max 1 page_size → pages * page_size ≤ 1073741824
within_bytes pages page_size le = at_most page_size ((le-div_iff_mul-le (some_size page_size)).0 le)
  where
    at_most : (n : ℕ) → pages * max 1 n ≤ 1073741824 → pages * n ≤ 1073741824
    at_most zero le = omega arith
    at_most (suc n) le = subst (λ (k : ℕ). pages * k ≤ 1073741824) (same_size n) le

pub within_limits : (pages page_size : ℕ) → is_too_large pages page_size ≡ false → pages ≤ most_of page_size
within_limits pages page_size is =
    let few : pages ≤ 65536 = grind (arith, nat_tests, is) in
    let small : pages * page_size ≤ 1073741824 = grind (arith, nat_tests, is) in
    le-min few (bytes_within pages page_size few small)

pub past_limits : (pages page_size : ℕ) → is_too_large pages page_size ≡ true → pages ≤ most_of page_size → ⊥
past_limits pages page_size is le =
    let quotient = 1073741824 / max 1 page_size in
    let few = min-le_left 65536 quotient in
    let less = min-le_right 65536 quotient in
    let small = within_bytes pages page_size (omega (arith, le, less)) in
    grind (arith, nat_tests, is, le, few, small)

-- a writer that has changed nothing yet
pub begun_is_sound : (view : View) (writer : Writer) → IsBegun view writer → view.size ≡ size_of (snapshot_of writer) → IsSizeWithinLimits view.page_size view.size → IsSound writer
begun_is_sound view writer begun size within = record {
  consistent = begun.whole;
  reaches = λ number above below none. omega (arith, above, below, begun.size, size);
  within = subst (λ (n : ℕ). n ≤ most_of (page_size_of writer)) (sym begun.size) (subst (λ (n : ℕ). view.size ≤ most_of n) (sym begun.page_size) (le-min within.few (bytes_within view.size view.page_size within.few within.small)));
}

-- The map of a view's pages is what the view shows.
use Rattle.std.proofs.Common.{◌≡◌, ◌⊎◌, inl, inr, ◌<◌, ◌≤◌, ◌+◌, ◌-◌, ◌*◌, ◌==◌, ℕ, zero, suc, List, [], ◌∷◌, ◌++◌, length, get_or, refl, sym, ◌∙◌, ap, subst, arith, length-append, Bool, true, false}
use Rattle.std.proofs.lemmas.Bool.{cases_eq, cases_lt}
use Rattle.std.proofs.lemmas.Bool.Decides.{nat_tests}
use Rattle.std.proofs.lemmas.Grind.{get_or-set_at}
use Rattle.std.proofs.lemmas.List.{ext_get_or, get_or_append_left, get_or_push, get_or-set_other, length-set}
use Rattle.std.specs.Prelude.{◌↔◌, max, Option, Some, None, nat_le, if◌then◌else◌}
use Rattle.wal_frame.specs.Written.{Framed}
use Rattle.wal.specs.declared.pages.PageImage.{PageImage}
use Rattle.wal.specs.Laws.{IsAmong, IsNotAmong}
use Rattle.wal.specs.View.{IsNewestIn, blank_frame}
use Rattle.wal.proofs.Changes.{page_one}
use Rattle.pages.specs.Map.{PageMap, page_at, with_page, IsThere}
use Rattle.pager.specs.declared.writer.Writer.{Writer}
use Rattle.pager.specs.Limits.{pages_of}
use Rattle.pager.specs.Maps.{later_or, newest_frame, page_of_file, frame_or_file, found_in, pages_to, pages_in}
use Rattle.pager.specs.Views.{View, ViewHas, IsViewPage}
use Rattle.pager.specs.Writers.{ReplacesPages, seen}

no_larger : (a b : ℕ) → b ≤ a → max a b ≡ a
no_larger a b le = grind (arith, nat_tests)

one_larger : (a b : ℕ) → b ≡ a + 1 → max a b ≡ suc a
one_larger a b is = grind (arith, nat_tests)

-- ---- the newest frame

abbrev at : List Framed → ℕ → Framed
at frames k = get_or frames k blank_frame

abbrev pub HasNone : ℕ → List Framed → Type 0
HasNone number frames = (k : ℕ) → k < length frames → (at frames k).head.page ≡ number → ⊥

-- what is found is the newest frame, or there is none
abbrev pub IsNewestFrame : ℕ → List Framed → Option (List ℕ) → Type 0
IsNewestFrame number frames (Some bytes) = (k : ℕ) × IsNewestIn frames number k × (bytes ≡ (at frames k).page)
IsNewestFrame number frames None = HasNone number frames

pub newest_is : (number : ℕ) (frames : List Framed) → IsNewestFrame number frames (newest_frame number frames)
newest_is number [] = λ k lt is. absurd (omega (arith, lt))
newest_is number (f ∷ fs) = step (newest_frame number fs) (newest_is number fs) (f.head.page == number) refl
  where
    later : (k : ℕ) → IsNewestIn fs number k → IsNewestIn (f ∷ fs) number (suc k)
    later k is = record {
      within = omega (arith, is.within);
      page = is.page;
      last = λ j after within. by_place j after within;
    }
      where
        by_place : (j : ℕ) → suc k < j → j < length (f ∷ fs) → (at (f ∷ fs) j).head.page ≡ number → ⊥
        by_place zero after within same = absurd (omega (arith, after))
        by_place (suc j) after within same = is.last j (omega (arith, after)) (omega (arith, within)) same

    none_later : HasNone number fs → (j : ℕ) → 0 < j → j < length (f ∷ fs) → (at (f ∷ fs) j).head.page ≡ number → ⊥
    none_later none zero after within same = absurd (omega (arith, after))
    none_later none (suc j) after within same = none j (omega (arith, within)) same

    none_here : HasNone number fs → (f.head.page ≡ number → ⊥) → HasNone number (f ∷ fs)
    none_here none other zero within same = other same
    none_here none other (suc j) within same = none j (omega (arith, within)) same

    step : (found : Option (List ℕ)) → IsNewestFrame number fs found → (test : Bool) → (f.head.page == number) ≡ test
        → IsNewestFrame number (f ∷ fs) (later_or found (if test then Some f.page else None))
    step (Some bytes) is test test_is = (suc is.0, later is.0 is.1, is.2)
    step None none true test_is = (0, record { within = omega arith; page = same; last = none_later none }, refl)
      where
        same : f.head.page ≡ number
        same = grind (arith, test_is)
    step None none false test_is = none_here none other
      where
        other : f.head.page ≡ number → ⊥
        other = grind (arith, test_is)

-- ---- what is found

-- what is found is the page that the view shows, or it shows none
abbrev pub IsFoundOr : View → ℕ → List ℕ → Type 0
IsFoundOr view number found = ViewHas view number found ⊎ (((bytes : List ℕ) → ViewHas view number bytes → ⊥) × (found ≡ []))

pub found_or_none : (view : View) (number : ℕ) → IsFoundOr view number (found_in view number)
found_or_none view number = step (newest_frame number view.frames) (newest_is number view.frames)
  where
    missing : HasNone number view.frames → (number * view.page_size ≤ length view.db → ⊥) → (bytes : List ℕ) → ViewHas view number bytes → ⊥
    missing none short bytes (inl there) = none there.0 there.1.within there.1.page
    missing none short bytes (inr there) = short there.1.whole

    in_file : HasNone number view.frames → (test : Bool) → nat_le (number * view.page_size) (length view.db) ≡ test → IsFoundOr view number (page_of_file view.db view.page_size number)
    in_file none true test_is = rw test_is (inl (inr (none, record { whole = grind (arith, test_is); bytes_are = refl })))
    in_file none false test_is = rw test_is (inr (missing none (λ le. grind (arith, test_is, le)), refl))

    step : (found : Option (List ℕ)) → IsNewestFrame number view.frames found → IsFoundOr view number (frame_or_file found view.db view.page_size number)
    step (Some bytes) is = inl (inl is)
    step None none = in_file none (nat_le (number * view.page_size) (length view.db)) refl

pub has_found : (view : View) (number : ℕ) (bytes : List ℕ) → ViewHas view number bytes → found_in view number ≡ bytes
has_found view number bytes has = elim (found_or_none view number) [
  | inl found ↦ page_one view.db view.page_size view.frames number (found_in view number) bytes found has
  | inr none ↦ absurd (none.0 bytes has)
]

pub same_found : (a b : View) (number : ℕ) → ((bytes : List ℕ) → ViewHas a number bytes ↔ ViewHas b number bytes) → found_in a number ≡ found_in b number
same_found a b number same = elim (found_or_none b number) [
  | inl found ↦ has_found a number (found_in b number) ((same (found_in b number)).1 found)
  | inr none ↦ elim (found_or_none a number) [
    | inl found ↦ absurd (none.0 (found_in a number) ((same (found_in a number)).0 found))
    | inr nor ↦ nor.1 ∙ sym none.1
  ]
]

-- ---- the map

pub count_to : (view : View) (n : ℕ) → length (pages_to view n) ≡ n
count_to view zero = refl
count_to view (suc n) = length-append (pages_to view n) (found_in view (suc n) ∷ []) ∙ omega (arith, count_to view n)

pub at_to : (view : View) (n i : ℕ) → i < n → get_or (pages_to view n) i [] ≡ found_in view (suc i)
at_to view zero i lt = absurd (omega (arith, lt))
at_to view (suc n) i lt = elim (cases_lt i n) [
  | inl less ↦ get_or_append_left (pages_to view n) (found_in view (suc n) ∷ []) [] i (omega (arith, less, count_to view n)) ∙ at_to view n i less
  | inr ge ↦ (let is : n ≡ i = omega (arith, lt, ge) in
      get_or_push (pages_to view n) (found_in view (suc n)) [] i (count_to view n ∙ is) ∙ ap (λ (k : ℕ). found_in view (suc k)) is)
]

pub page_in : (view : View) (number : ℕ) → 1 ≤ number → number ≤ view.size → page_at (pages_in view) number ≡ found_in view number
page_in view number first last = at_to view view.size (number - 1) (omega (arith, first, last)) ∙ ap (found_in view) (omega (arith, first))

pub maps_shown : (view : View) (number : ℕ) (bytes : List ℕ) → IsViewPage view number bytes → page_at (pages_in view) number ≡ bytes
maps_shown view number bytes is = page_in view number is.first is.last ∙ has_found view number bytes is.has

pub shows_mapped : (view : View) (number : ℕ) → 1 ≤ view.page_size → IsThere (pages_in view) view.page_size number → IsViewPage view number (page_at (pages_in view) number)
shows_mapped view number some there =
    let last : number ≤ view.size = omega (arith, there.has.last, count_to view view.size) in
    let is = page_in view number there.has.first last in
    record { first = there.has.first; last = last; has = subst (ViewHas view number) (sym is) (here is) }
  where
    here : page_at (pages_in view) number ≡ found_in view number → ViewHas view number (found_in view number)
    here is = elim (found_or_none view number) [
      | inl found ↦ found
      | inr none ↦ absurd (omega (arith, some, ap length (is ∙ none.1), there.whole))
    ]

-- two views of one size that show the same up to a number have the same map up to it
pub same_to : (a b : View) (n : ℕ) → ((number : ℕ) (bytes : List ℕ) → ViewHas a number bytes ↔ ViewHas b number bytes) → pages_to a n ≡ pages_to b n
same_to a b zero same = refl
same_to a b (suc n) same = ap (λ (map : PageMap). map ++ found_in a (suc n) ∷ []) (same_to a b n same) ∙ ap (λ (page : List ℕ). pages_to b n ++ page ∷ []) (same_found a b (suc n) (same (suc n)))

pub maps_alike : (a b : View) → a.size ≡ b.size → ((number : ℕ) (bytes : List ℕ) → ViewHas a number bytes ↔ ViewHas b number bytes) → pages_in a ≡ pages_in b
maps_alike a b size same = ap (pages_to a) size ∙ same_to a b b.size same

-- and where they show the same from page 1 on
pub same_within : (a b : View) (n : ℕ) → ((number : ℕ) (bytes : List ℕ) → 1 ≤ number → number ≤ n → ViewHas a number bytes ↔ ViewHas b number bytes) → pages_to a n ≡ pages_to b n
same_within a b zero same = refl
same_within a b (suc n) same = ap (λ (map : PageMap). map ++ found_in a (suc n) ∷ []) (same_within a b n (λ number bytes low high. same number bytes low (omega (arith, high))))
    ∙ ap (λ (page : List ℕ). pages_to b n ++ page ∷ []) (same_found a b (suc n) (λ bytes. same (suc n) bytes (omega arith) (omega arith)))

pub maps_within : (a b : View) → a.size ≡ b.size → ((number : ℕ) (bytes : List ℕ) → 1 ≤ number → number ≤ b.size → ViewHas a number bytes ↔ ViewHas b number bytes) → pages_in a ≡ pages_in b
maps_within a b size same = ap (pages_to a) size ∙ same_within a b b.size same

-- ---- pages that are put

module _ (view : View) (page : PageImage) (old new : Writer) (puts : ReplacesPages (page ∷ []) old new) where
  found_here : found_in (seen view new) page.number ≡ page.bytes.items
  found_here = has_found (seen view new) page.number page.bytes.items ((puts.sees view page.number page.bytes.items).1 (inl (inl (refl, refl))))

  found_there : (number : ℕ) → (page.number ≡ number → ⊥) → found_in (seen view new) number ≡ found_in (seen view old) number
  found_there number other = same_found (seen view new) (seen view old) number (λ bytes. ((λ has. forth bytes ((puts.sees view number bytes).0 has)), (λ has. (puts.sees view number bytes).1 (inr ((other, tt), has)))))
    where
      forth : (bytes : List ℕ) → IsAmong (page ∷ []) number bytes ⊎ (IsNotAmong (page ∷ []) number × ViewHas (seen view old) number bytes) → ViewHas (seen view old) number bytes
      forth bytes (inl (inl here)) = absurd (other here.0)
      forth bytes (inl (inr none)) = absurd none
      forth bytes (inr rest) = rest.1

  pub put_in_place : 1 ≤ page.number → page.number ≤ pages_of old → pages_in (seen view new) ≡ with_page (pages_in (seen view old)) page.number page.bytes.items
  put_in_place first last = ext_get_or [] (pages_in (seen view new)) (with_page (pages_in (seen view old)) page.number page.bytes.items) long each
    where
      size : pages_of new ≡ pages_of old
      size = puts.size ∙ no_larger (pages_of old) page.number last

      long : length (pages_in (seen view new)) ≡ length (with_page (pages_in (seen view old)) page.number page.bytes.items)
      long = omega (arith, count_to (seen view new) (pages_of new), count_to (seen view old) (pages_of old), size, length-set (pages_in (seen view old)) (page.number - 1) page.bytes.items)

      each : (i : ℕ) → i < length (pages_in (seen view new)) → get_or (pages_in (seen view new)) i [] ≡ get_or (with_page (pages_in (seen view old)) page.number page.bytes.items) i []
      each i lt =
          let within : i < pages_of new = omega (arith, lt, count_to (seen view new) (pages_of new)) in
          at_to (seen view new) (pages_of new) i within ∙ elim (cases_eq page.number (suc i)) [
            | inl is ↦ ap (found_in (seen view new)) (sym is) ∙ found_here
                ∙ sym (get_or-set_at (pages_in (seen view old)) (page.number - 1) i page.bytes.items [] (omega (arith, is)) (omega (arith, first, last, count_to (seen view old) (pages_of old))))
            | inr other ↦ found_there (suc i) other ∙ sym (at_to (seen view old) (pages_of old) i (omega (arith, within, size)))
                ∙ sym (get_or-set_other (pages_in (seen view old)) (page.number - 1) i page.bytes.items [] (λ is. other (omega (arith, is, first))))
          ]

  same_below : (n : ℕ) → n < page.number → pages_to (seen view new) n ≡ pages_to (seen view old) n
  same_below zero lt = refl
  same_below (suc n) lt = ap (λ (map : PageMap). map ++ found_in (seen view new) (suc n) ∷ []) (same_below n (omega (arith, lt)))
      ∙ ap (λ (bytes : List ℕ). pages_to (seen view old) n ++ bytes ∷ []) (found_there (suc n) (λ is. omega (arith, is, lt)))

  pub put_at_end : page.number ≡ pages_of old + 1 → pages_in (seen view new) ≡ pages_in (seen view old) ++ (page.bytes.items ∷ [])
  put_at_end is =
      let size : pages_of new ≡ suc (pages_of old) = puts.size ∙ one_larger (pages_of old) page.number is in
      ap (pages_to (seen view new)) size
      ∙ ap (λ (map : PageMap). map ++ found_in (seen view new) (suc (pages_of old)) ∷ []) (same_below (pages_of old) (omega (arith, is)))
      ∙ ap (λ (bytes : List ℕ). pages_to (seen view old) (pages_of old) ++ bytes ∷ []) (ap (found_in (seen view new)) (omega (arith, is)) ∙ found_here)

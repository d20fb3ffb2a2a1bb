-- Which frames an index has, and room for which pages.
use Rattle.std.proofs.Common.{◌≡◌, inl, inr, ◌<◌, ◌+◌, ℕ, zero, suc, List, [], ◌∷◌, length, get_or, sym, ◌∙◌, ap, subst, arith, length-append}
use Rattle.std.proofs.lemmas.List.{get_or_append_left}
use Rattle.std.proofs.lemmas.Bool.{cases_lt}
use Rattle.wal_index.specs.declared.index.Index.{Index}
use Rattle.wal.specs.declared.pages.PageImage.{PageImage}
use Rattle.wal_index.specs.Index.{frames_of, SameFrames, AddsFrame, IsPageNumber, HasFrame, room_for, KeepsRoom, KeepsRoomBut}
use Rattle.wal.specs.Indexed.{KeepsFrames, HasEach, HasRooms, IsStrict}
use Rattle.wal.specs.Pages.{ArePages, numbers_of}

pub kept_by_same : (old new : Index) → SameFrames old new → KeepsFrames old new
kept_by_same old new same p f known has = record {
  place = has.place;
  within = omega (arith, has.within, ap length (same p));
  is = ap (λ (l : List ℕ). get_or l has.place 0) (same p) ∙ has.is;
}

pub kept_by_added : (page frame : ℕ) (old new : Index) → AddsFrame page frame old new → KeepsFrames old new
kept_by_added page frame old new adds p f known has = elim (adds p known) [
  | inl same ↦ record { place = has.place; within = omega (arith, has.within, ap length same); is = ap (λ (l : List ℕ). get_or l has.place 0) same ∙ has.is }
  | inr more ↦ record {
    place = has.place;
    within = omega (arith, has.within, ap length more.1, length-append (frames_of old p) (frame ∷ []));
    is = ap (λ (l : List ℕ). get_or l has.place 0) more.1 ∙ get_or_append_left (frames_of old p) (frame ∷ []) 0 has.place has.within ∙ has.is;
  }
]

pub kept_both : (old mid new : Index) → KeepsFrames old mid → KeepsFrames mid new → KeepsFrames old new
kept_both old mid new one two p f known has = two p f known (one p f known has)

-- one frame more of the pages in order
pub has_more : (before : ℕ) (numbers : List ℕ) (n : ℕ) (old new : Index) → HasEach before numbers n old → KeepsFrames old new → (IsPageNumber (get_or numbers n 0) → HasFrame new (get_or numbers n 0) (before + 1 + n)) → HasEach before numbers (n + 1) new
has_more before numbers n old new each kept last i lt number = elim (cases_lt i n) [
  | inl below ↦ kept (get_or numbers i 0) (before + 1 + i) number.0 (each i below number)
  | inr past ↦
      (let is : n ≡ i = omega (arith, past, lt) in
      subst (λ (k : ℕ). HasFrame new (get_or numbers k 0) (before + 1 + k)) is (last (subst (λ (k : ℕ). IsPageNumber (get_or numbers k 0)) (sym is) number)))
]

pub has_none : (before : ℕ) (numbers : List ℕ) (index : Index) → HasEach before numbers 0 index
has_none before numbers index i lt number = absurd (omega (arith, lt))

-- room for one page more, and for one less
pub rooms_more : (numbers : List ℕ) (n : ℕ) (old new : Index) → HasRooms 0 n numbers old → KeepsRoom old new → (IsPageNumber (get_or numbers n 0) → 0 < room_for new (get_or numbers n 0)) → HasRooms 0 (n + 1) numbers new
rooms_more numbers n old new rooms kept last i from lt number = elim (cases_lt i n) [
  | inl below ↦ omega (arith, rooms i from below number, kept (get_or numbers i 0))
  | inr past ↦
      (let is : n ≡ i = omega (arith, past, lt) in
      subst (λ (k : ℕ). 0 < room_for new (get_or numbers k 0)) is (last (subst (λ (k : ℕ). IsPageNumber (get_or numbers k 0)) (sym is) number)))
]

pub rooms_less : (numbers : List ℕ) (n : ℕ) (old new : Index) → IsStrict numbers → HasRooms n (length numbers) numbers old → KeepsRoomBut (get_or numbers n 0) old new → HasRooms (n + 1) (length numbers) numbers new
rooms_less numbers n old new strict rooms kept i from lt number =
    omega (arith, rooms i (omega (arith, from)) lt number, kept (get_or numbers i 0) number.0 (λ same. omega (arith, same, strict n i (omega (arith, from)) lt)))

-- the pages of a commit rise
strict_above : (last size bytes : ℕ) (pages : List PageImage) → ArePages last size bytes pages → (j : ℕ) → j < length (numbers_of pages) → last < get_or (numbers_of pages) j 0
strict_above last size bytes [] are j lt = absurd (omega (arith, lt))
strict_above last size bytes (p ∷ ps) are zero lt = are.0
strict_above last size bytes (p ∷ ps) are (suc j) lt = omega (arith, are.0, strict_above p.number size bytes ps are.3 j (omega (arith, lt)))

pub strict_pages : (last size bytes : ℕ) (pages : List PageImage) → ArePages last size bytes pages → IsStrict (numbers_of pages)
strict_pages last size bytes [] are i j below lt = absurd (omega (arith, lt))
strict_pages last size bytes (p ∷ ps) are i zero below lt = absurd (omega (arith, below))
strict_pages last size bytes (p ∷ ps) are zero (suc j) below lt = strict_above p.number size bytes ps are.3 j (omega (arith, lt))
strict_pages last size bytes (p ∷ ps) are (suc i) (suc j) below lt = strict_pages p.number size bytes ps are.3 i j (omega (arith, below)) (omega (arith, lt))

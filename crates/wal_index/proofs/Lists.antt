-- How the lists of an index change, and where a rising list passes a mark.
use Rattle.std.proofs.Common.{◌≡◌, ◌⊎◌, inl, inr, ◌<◌, ◌≤◌, ◌+◌, ◌-◌, ℕ, List, [], ◌∷◌, ◌++◌, Bool, true, false, Vec, length, map, set, get_or, sym, ◌∙◌, ap, subst, arith, length-append}
use Rattle.std.specs.Prelude.{if◌then◌else◌, nat_le}
use Rattle.std.specs.declared.alloc.Global.{Global}
use Rattle.std.specs.List.Sorted.{IsPartitionedBy, IsPartitionPoint}
use Rattle.std.proofs.lemmas.List.{length-map, map-set, map-append, get_or-map, get_or-set_same, get_or-set_other, get_or_default, get_or_append_left, get_or_push, get_or_past}
use Rattle.std.proofs.lemmas.Bool.{cases_eq, cases_lt, le-leb, leb-true, leb-false}
use Rattle.wal_index.specs.Rows.{IsRising, AreUpTo, AreRising, list_at}

abbrev Row : Type 0
Row = Vec ℕ Global

abbrev items_of : Row → List ℕ
items_of v = v.items

-- the list at the place where one was set
list_set : (rows : List Row) (i : ℕ) (v : Row) → i < length rows → list_at (set rows i v) i ≡ v.items
list_set rows i v lt =
    ap (λ (l : List (List ℕ)). get_or l i []) (map-set items_of rows i v) ∙ get_or-set_same (map items_of rows) i v.items [] (omega (arith, lt, length-map rows items_of))

-- and at any other
pub list_elsewhere : (rows : List Row) (i : ℕ) (v : Row) (j : ℕ) → (j ≡ i → ⊥) → list_at (set rows i v) j ≡ list_at rows j
list_elsewhere rows i v j other =
    ap (λ (l : List (List ℕ)). get_or l j []) (map-set items_of rows i v) ∙ get_or-set_other (map items_of rows) i j v.items [] other

-- a list that was read
pub list_read : (rows : List Row) (i : ℕ) (w : Row) → i < length rows → w ≡ get_or rows i w → w.items ≡ list_at rows i
list_read rows i w lt is = ap items_of is ∙ sym (get_or-map items_of rows i w [] lt)

pub row_is : (rows read : List Row) (i : ℕ) (w : Row) → read ≡ rows → i < length read → w ≡ get_or read i w → w.items ≡ list_at rows i
row_is rows read i w same lt is = list_read read i w lt is ∙ ap (λ (l : List Row). list_at l i) same

-- a list that has the same items
pub same_list : (rows : List Row) (i : ℕ) (v w : Row) → i < length rows → w ≡ get_or rows i w → v.items ≡ w.items → (j : ℕ) → list_at (set rows i v) j ≡ list_at rows j
same_list rows i v w lt is items j = elim (cases_eq j i) [
  | inl same ↦ ap (list_at (set rows i v)) same ∙ list_set rows i v lt ∙ items ∙ list_read rows i w lt is ∙ ap (list_at rows) (sym same)
  | inr other ↦ list_elsewhere rows i v j other
]

-- a list more that is empty
pub list_pushed : (rows : List Row) (v : Row) → v.items ≡ [] → (j : ℕ) → list_at (rows ++ v ∷ []) j ≡ list_at rows j
list_pushed rows v none j = ap (λ (l : List (List ℕ)). get_or l j []) (map-append items_of rows (v ∷ [])) ∙ elim (cases_lt j (length rows)) [
  | inl before ↦ get_or_append_left (map items_of rows) (v.items ∷ []) [] j (omega (arith, before, length-map rows items_of))
  | inr past ↦ elim (cases_eq j (length rows)) [
    | inl last ↦ get_or_push (map items_of rows) v.items [] j (omega (arith, last, length-map rows items_of)) ∙ none ∙ sym (get_or_past (map items_of rows) j [] (omega (arith, past, length-map rows items_of)))
    | inr other ↦ get_or_past (map items_of rows ++ v.items ∷ []) j [] (omega (arith, past, other, length-append (map items_of rows) (v.items ∷ []), length-map rows items_of))
        ∙ sym (get_or_past (map items_of rows) j [] (omega (arith, past, length-map rows items_of)))
  ]
]

-- a list that has one item more, or not
pub pushed_list : (rows : List Row) (i : ℕ) (v w : Row) (f : ℕ) (ok : Bool) → i < length rows → w ≡ get_or rows i w → v.items ≡ (if ok then w.items ++ f ∷ [] else w.items) → (j : ℕ)
    → (list_at (set rows i v) j ≡ list_at rows j) ⊎ ((j ≡ i) × (list_at (set rows i v) j ≡ list_at rows j ++ f ∷ []))
pushed_list rows i v w f false lt is items j = inl (same_list rows i v w lt is items j)
pushed_list rows i v w f true lt is items j = elim (cases_eq j i) [
  | inl same ↦ inr (
    same,
    ap (list_at (set rows i v)) same ∙ list_set rows i v lt ∙ items ∙ ap (λ (l : List ℕ). l ++ f ∷ []) (list_read rows i w lt is)
        ∙ ap (λ (k : ℕ). list_at rows k ++ f ∷ []) (sym same),
  )
  | inr other ↦ inl (list_elsewhere rows i v j other)
]

-- where there was room, the item was pushed
pub pushed_in : (rows : List Row) (i : ℕ) (v w : Row) (f : ℕ) (ok : Bool) → i < length rows → v.items ≡ (if ok then w.items ++ f ∷ [] else w.items) → ok ≡ true → list_at (set rows i v) i ≡ w.items ++ f ∷ []
pushed_in rows i v w f ok lt items pushed = list_set rows i v lt ∙ items ∙ ap (λ (b : Bool). if b then w.items ++ f ∷ [] else w.items) pushed

pub rising_push : (xs : List ℕ) (f : ℕ) → IsRising xs → AreUpTo f xs → IsRising (xs ++ f ∷ [])
rising_push xs f rising below i j le lt = elim (cases_lt j (length xs)) [
  | inl before ↦ omega (arith, rising i j le before, get_or_append_left xs (f ∷ []) 0 i (omega (arith, le, before)), get_or_append_left xs (f ∷ []) 0 j before)
  | inr past ↦ (let last : get_or (xs ++ f ∷ []) j 0 ≡ f = get_or_push xs f 0 j (omega (arith, past, lt, length-append xs (f ∷ []))) in
      elim (cases_lt i (length xs)) [
        | inl low ↦ omega (arith, last, below i low, get_or_append_left xs (f ∷ []) 0 i low)
        | inr high ↦ (let same : get_or (xs ++ f ∷ []) i 0 ≡ f = get_or_push xs f 0 i (omega (arith, high, le, lt, length-append xs (f ∷ []))) in omega (arith, last, same))
      ])
]

-- the lists rise where each is as it was, or has a greater item more
pub rising_same : (old new : List Row) → ((j : ℕ) → list_at new j ≡ list_at old j) → AreRising old → AreRising new
rising_same old new same rising place = subst IsRising (sym (same place)) (rising place)

pub rising_added : (rows : List Row) (i : ℕ) (v w : Row) (f : ℕ) (ok : Bool) → i < length rows → w ≡ get_or rows i w → v.items ≡ (if ok then w.items ++ f ∷ [] else w.items) → AreUpTo f (list_at rows i) → AreRising rows → AreRising (set rows i v)
rising_added rows i v w f ok lt is items below rising place = elim (pushed_list rows i v w f ok lt is items place) [
  | inl same ↦ subst IsRising (sym same) (rising place)
  | inr more ↦ subst IsRising (sym more.1) (rising_push (list_at rows place) f (rising place) (subst (λ (k : ℕ). AreUpTo f (list_at rows k)) (sym more.0) below))
]

-- the lists rise where one was emptied
pub rising_emptied : (rows : List Row) (i : ℕ) (v : Row) → i < length rows → v.items ≡ [] → AreRising rows → AreRising (set rows i v)
rising_emptied rows i v lt none rising place = elim (cases_eq place i) [
  | inl same ↦ subst IsRising (sym (ap (list_at (set rows i v)) same ∙ list_set rows i v lt ∙ none)) (λ k j le past. absurd (omega (arith, past)))
  | inr other ↦ subst IsRising (sym (list_elsewhere rows i v place other)) (rising place)
]

-- the first lists are empty: those before one that is emptied, and it
pub emptied_more : (rows : List Row) (i : ℕ) (v : Row) → i < length rows → v.items ≡ [] → ((p : ℕ) → p < i → list_at rows p ≡ []) → (p : ℕ) → p < i + 1 → list_at (set rows i v) p ≡ []
emptied_more rows i v lt none before p le = elim (cases_eq p i) [
  | inl same ↦ ap (list_at (set rows i v)) same ∙ list_set rows i v lt ∙ none
  | inr other ↦ list_elsewhere rows i v p other ∙ before p (omega (arith, le, other))
]

pub emptied_all : (rows : List Row) (n : ℕ) → length rows ≤ n → ((p : ℕ) → p < n → list_at rows p ≡ []) → (p : ℕ) → list_at rows p ≡ []
emptied_all rows n le before p = elim (cases_lt p n) [
  | inl lt ↦ before p lt
  | inr past ↦ get_or_past (map items_of rows) p [] (omega (arith, past, le, length-map rows items_of))
]

-- where a rising list passes a mark
pub parted : (xs : List ℕ) (mark : ℕ) → IsRising xs → IsPartitionedBy (λ y. nat_le y mark) xs
parted xs mark rising i j d le lt seen =
    le-leb _ _ (omega (arith, leb-true _ _ seen, rising i j le lt, get_or_default xs i d 0 (omega (arith, le, lt)), get_or_default xs j d 0 lt))

pub none_seen : (xs : List ℕ) (mark n : ℕ) → IsPartitionPoint (λ y. nat_le y mark ≡ true) (λ y. nat_le y mark ≡ false) xs n → n ≡ 0 → (k : ℕ) → k < length xs → mark < get_or xs k 0
none_seen xs mark n point none k lt = leb-false _ _ (point.1 k 0 (omega (arith, none)) lt)

pub last_seen : (xs : List ℕ) (mark n : ℕ) → IsPartitionPoint (λ y. nat_le y mark ≡ true) (λ y. nat_le y mark ≡ false) xs n → 0 < n → get_or xs (n - 1) 0 ≤ mark
last_seen xs mark n point some = leb-true _ _ (point.0 (n - 1) 0 (omega arith) (omega (arith, some)))

pub newest_seen : (xs : List ℕ) (mark n : ℕ) → IsRising xs → n ≤ length xs → IsPartitionPoint (λ y. nat_le y mark ≡ true) (λ y. nat_le y mark ≡ false) xs n → 0 < n → (k : ℕ) → k < length xs → get_or xs k 0 ≤ mark → get_or xs k 0 ≤ get_or xs (n - 1) 0
newest_seen xs mark n rising bound point some k lt seen = elim (cases_lt k n) [
  | inl before ↦ rising k (n - 1) (omega (arith, before)) (omega (arith, bound, some))
  | inr past ↦ absurd (omega (arith, seen, leb-false _ _ (point.1 k 0 past lt)))
]

-- a list more that is empty, or not
pub maybe_pushed : (rows new : List Row) (v : Row) (ok : Bool) → v.items ≡ [] → new ≡ (if ok then rows ++ v ∷ [] else rows) → (j : ℕ) → list_at new j ≡ list_at rows j
maybe_pushed rows new v false none is j = ap (λ (l : List Row). list_at l j) is
maybe_pushed rows new v true none is j = ap (λ (l : List Row). list_at l j) is ∙ list_pushed rows v none j

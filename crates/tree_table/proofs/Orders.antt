-- Rows by rising rowid: where a row has its place among them.
use Rattle.std.proofs.Common.{◌≡◌, ◌+◌, ℕ, zero, suc, ℤ, ◌<ℤ◌, ◌≤ℤ◌, Bool, true, false, int_lt, if◌then◌else◌, List, [], ◌∷◌, ◌++◌, map, take, drop, Some, None, refl, sym, ap, subst, ◌∙◌, inl, inr, ◌⊎◌, arith}
use Rattle.std.proofs.lemmas.Int.{ints}
use Rattle.std.specs.List.{AllByRecursion}
use Rattle.std.specs.Ordering.{int_eq}
use Rattle.tree_leaf.specs.Leaf.{Entry}
use Rattle.pages.specs.Map.{PageMap}
use Rattle.tree_page.specs.Cells.{Pairwise}
use Rattle.tree_page.specs.Node.{Local}
use Rattle.tree_page.specs.Reading.{below}
use Rattle.tree_pack.specs.Splicing.{spliced}
use Rattle.tree_store.specs.Sides.{each_of, nothing, Parted}
use Rattle.tree_table.specs.Rows.{payload_at, with_row}
use Rattle.tree_table.specs.Stepping.{before, HasRowid}
use Rattle.tree_table.specs.Tree.{Held, IsHeldAs, Tree, Rises, IsSorted, rows_of}

-- ---- numbers

eq_cases : (a b : ℤ) (t : Bool) → int_eq a b ≡ t → ((int_eq a b ≡ true) × (a ≡ b)) ⊎ ((int_eq a b ≡ false) × (a ≡ b → ⊥))
eq_cases a b true h = inl (h, grind (arith, ints))
eq_cases a b false h = inr (h, λ e. grind (arith, ints))

pub same_or_other : (a b : ℤ) → ((int_eq a b ≡ true) × (a ≡ b)) ⊎ ((int_eq a b ≡ false) × (a ≡ b → ⊥))
same_or_other a b = eq_cases a b (int_eq a b) refl

lt_cases : (a b : ℤ) (t : Bool) → int_lt a b ≡ t → ((int_lt a b ≡ true) × (a <ℤ b)) ⊎ ((int_lt a b ≡ false) × (b ≤ℤ a))
lt_cases a b true h = inl (h, grind (arith, ints))
lt_cases a b false h = inr (h, grind (arith, ints))

pub less_or_not : (a b : ℤ) → ((int_lt a b ≡ true) × (a <ℤ b)) ⊎ ((int_lt a b ≡ false) × (b ≤ℤ a))
less_or_not a b = lt_cases a b (int_lt a b) refl

pub is_less : (a b : ℤ) → a <ℤ b → int_lt a b ≡ true
is_less a b h = grind (arith, ints)

pub not_less : (a b : ℤ) → b ≤ℤ a → int_lt a b ≡ false
not_less a b h = grind (arith, ints)

pub less_not : (a b : ℤ) → a <ℤ b → int_eq a b ≡ false
less_not a b h = elim (same_or_other a b) [
  | inl same ↦ absurd (let e = same.1 in grind (arith, ints))
  | inr other ↦ other.0
]

pub greater_not : (a b : ℤ) → b <ℤ a → int_eq a b ≡ false
greater_not a b h = elim (same_or_other a b) [
  | inl same ↦ absurd (let e = same.1 in grind (arith, ints))
  | inr other ↦ other.0
]

pub lt_le : (a b : ℤ) → a <ℤ b → a ≤ℤ b
lt_le a b h = omega (arith, ints)

pub le_lt : (a b c : ℤ) → a ≤ℤ b → b <ℤ c → a <ℤ c
le_lt a b c h k = omega (arith, ints)

pub lt_le_lt : (a b c : ℤ) → a <ℤ b → b ≤ℤ c → a <ℤ c
lt_le_lt a b c h k = omega (arith, ints)

pub le_le : (a b c : ℤ) → a ≤ℤ b → b ≤ℤ c → a ≤ℤ c
le_le a b c h k = omega (arith, ints)

-- ---- rows on one side

abbrev pub AreLess : ℤ → List Entry → Type 0
AreLess rowid rows = AllByRecursion (λ (row : Entry). row.rowid <ℤ rowid) rows

abbrev pub AreGreater : ℤ → List Entry → Type 0
AreGreater rowid rows = AllByRecursion (λ (row : Entry). rowid <ℤ row.rowid) rows

pub all_append : (P : Entry → Type 0) (xs ys : List Entry) → AllByRecursion P xs → AllByRecursion P ys → AllByRecursion P (xs ++ ys)
all_append P [] ys a b = b
all_append P (x ∷ xs) ys a b = (a.0, all_append P xs ys a.1 b)

pub none_among : (rowid : ℤ) (rows : List Entry) → AreGreater rowid rows → payload_at rowid rows ≡ None
none_among rowid [] h = refl
none_among rowid (row ∷ rows) h = rw (greater_not row.rowid rowid h.0) (none_among rowid rows h.1)

payload_right : (rowid : ℤ) (left rest : List Entry) → AreLess rowid left → payload_at rowid (left ++ rest) ≡ payload_at rowid rest
payload_right rowid [] rest h = refl
payload_right rowid (row ∷ left) rest h = rw (less_not row.rowid rowid h.0) (payload_right rowid left rest h.1)

payload_left : (rowid : ℤ) (mid right : List Entry) → AreGreater rowid right → payload_at rowid (mid ++ right) ≡ payload_at rowid mid
payload_left rowid [] right h = none_among rowid right h
payload_left rowid (row ∷ mid) right h = rw (payload_left rowid mid right h) refl

-- a rowid between less and greater ones is looked up there
pub payload_within : (rowid : ℤ) (left mid right : List Entry) → AreLess rowid left → AreGreater rowid right → payload_at rowid (left ++ (mid ++ right)) ≡ payload_at rowid mid
payload_within rowid left mid right less more = payload_right rowid left (mid ++ right) less ∙ payload_left rowid mid right more

with_right : (row : Entry) (left rest : List Entry) → AreLess row.rowid left → with_row row (left ++ rest) ≡ left ++ with_row row rest
with_right row [] rest h = refl
with_right row (first ∷ left) rest h =
    rw (not_less row.rowid first.rowid (lt_le first.rowid row.rowid h.0)) (rw (is_less first.rowid row.rowid h.0) (ap (λ (rows : List Entry). first ∷ rows) (with_right row left rest h.1)))

pub with_here : (row : Entry) (right : List Entry) → AreGreater row.rowid right → with_row row right ≡ row ∷ right
with_here row [] h = refl
with_here row (first ∷ right) h = rw (is_less row.rowid first.rowid h.0) refl

with_step : (a b : Bool) (row first : Entry) (mid right more all : List Entry) → more ≡ all ++ right
    → (if a then row ∷ first ∷ (mid ++ right) else (if b then row ∷ (mid ++ right) else first ∷ more)) ≡ (if a then row ∷ first ∷ mid else (if b then row ∷ mid else first ∷ all)) ++ right
with_step true b row first mid right more all e = refl
with_step false true row first mid right more all e = refl
with_step false false row first mid right more all e = ap (λ (rows : List Entry). first ∷ rows) e

with_left : (row : Entry) (mid right : List Entry) → AreGreater row.rowid right → with_row row (mid ++ right) ≡ with_row row mid ++ right
with_left row [] right h = with_here row right h
with_left row (first ∷ mid) right h =
    with_step (int_lt row.rowid first.rowid) (int_eq row.rowid first.rowid) row first mid right (with_row row (mid ++ right)) (with_row row mid) (with_left row mid right h)

-- and a row is put there
pub with_within : (row : Entry) (left mid right : List Entry) → AreLess row.rowid left → AreGreater row.rowid right
    → with_row row (left ++ (mid ++ right)) ≡ left ++ (with_row row mid ++ right)
with_within row left mid right less more = with_right row left (mid ++ right) less ∙ ap (λ (rows : List Entry). left ++ rows) (with_left row mid right more)

-- ---- bounds

pub rises_le : (low : ℤ) (rows : List Held) (high : ℤ) → Rises low rows high → low ≤ℤ high
rises_le low [] high h = h
rises_le low (held ∷ rows) high h = lt_le low high (lt_le_lt low held.row.rowid high h.0 (rises_le held.row.rowid rows high h.1))

abbrev pub rows_in : List Held → List Entry
rows_in rows = map (λ (held : Held). held.row) rows

pub rises_more : (rowid low : ℤ) (rows : List Held) (high : ℤ) → rowid ≤ℤ low → Rises low rows high → AreGreater rowid (rows_in rows)
rises_more rowid low [] high le h = tt
rises_more rowid low (held ∷ rows) high le h =
    (let lt = le_lt rowid low held.row.rowid le h.0 in (lt, rises_more rowid held.row.rowid rows high (lt_le rowid held.row.rowid lt) h.1))

rises_less : (rowid low : ℤ) (rows : List Held) (high : ℤ) → high <ℤ rowid → Rises low rows high → AreLess rowid (rows_in rows)
rises_less rowid low [] high lt h = tt
rises_less rowid low (held ∷ rows) high lt h = (le_lt held.row.rowid high rowid (rises_le held.row.rowid rows high h.1) lt, rises_less rowid held.row.rowid rows high lt h.1)

parted_le : {T : Type 0} (P : ℤ → T → ℤ → Type 0) → ((low : ℤ) (t : T) (high : ℤ) → P low t high → low ≤ℤ high)
    → (low : ℤ) (kids : List (T × ℤ)) (last : T) (high : ℤ) → Parted P low kids last high → low ≤ℤ high
parted_le P each low [] last high h = each low last high h
parted_le P each low (kid ∷ kids) last high h = le_le low kid.1 high (each low kid.0 kid.1 h.0) (parted_le P each kid.1 kids last high h.1)

pub sorted_le : (depth : ℕ) (low : ℤ) (t : Tree depth) (high : ℤ) → IsSorted depth low t high → low ≤ℤ high
sorted_le zero low t high h = rises_le low t.rows high h
sorted_le (suc depth) low t high h = parted_le (IsSorted depth) (sorted_le depth) low t.kids t.last high h

more_each : {T : Type 0} (P : ℤ → T → ℤ → Type 0) (f : T → List Entry) → ((low : ℤ) (t : T) (high : ℤ) → P low t high → low ≤ℤ high)
    → ((rowid low : ℤ) (t : T) (high : ℤ) → rowid ≤ℤ low → P low t high → AreGreater rowid (f t))
    → (rowid low : ℤ) (kids : List (T × ℤ)) (last : T) (high : ℤ) → rowid ≤ℤ low → Parted P low kids last high → AreGreater rowid (each_of f nothing kids last)
more_each P f rise each rowid low [] last high le h = each rowid low last high le h
more_each P f rise each rowid low (kid ∷ kids) last high le h =
    all_append (λ (row : Entry). rowid <ℤ row.rowid) (f kid.0) (each_of f nothing kids last) (each rowid low kid.0 kid.1 le h.0)
    (more_each P f rise each rowid kid.1 kids last high (le_le rowid low kid.1 le (rise low kid.0 kid.1 h.0)) h.1)

less_each : {T : Type 0} (P : ℤ → T → ℤ → Type 0) (f : T → List Entry) → ((low : ℤ) (t : T) (high : ℤ) → P low t high → low ≤ℤ high)
    → ((rowid low : ℤ) (t : T) (high : ℤ) → high <ℤ rowid → P low t high → AreLess rowid (f t))
    → (rowid low : ℤ) (kids : List (T × ℤ)) (last : T) (high : ℤ) → high <ℤ rowid → Parted P low kids last high → AreLess rowid (each_of f nothing kids last)
less_each P f rise each rowid low [] last high lt h = each rowid low last high lt h
less_each P f rise each rowid low (kid ∷ kids) last high lt h =
    all_append (λ (row : Entry). row.rowid <ℤ rowid) (f kid.0) (each_of f nothing kids last)
    (each rowid low kid.0 kid.1 (le_lt kid.1 high rowid (parted_le P rise kid.1 kids last high h.1) lt) h.0)
    (less_each P f rise each rowid kid.1 kids last high lt h.1)

pub sorted_more : (depth : ℕ) (rowid low : ℤ) (t : Tree depth) (high : ℤ) → rowid ≤ℤ low → IsSorted depth low t high → AreGreater rowid (rows_of depth t)
sorted_more zero rowid low t high le h = rises_more rowid low t.rows high le h
sorted_more (suc depth) rowid low t high le h = more_each (IsSorted depth) (rows_of depth) (sorted_le depth) (sorted_more depth) rowid low t.kids t.last high le h

pub sorted_less : (depth : ℕ) (rowid low : ℤ) (t : Tree depth) (high : ℤ) → high <ℤ rowid → IsSorted depth low t high → AreLess rowid (rows_of depth t)
sorted_less zero rowid low t high lt h = rises_less rowid low t.rows high lt h
sorted_less (suc depth) rowid low t high lt h = less_each (IsSorted depth) (rows_of depth) (sorted_le depth) (sorted_less depth) rowid low t.kids t.last high lt h

pub kids_more : (depth : ℕ) (rowid low : ℤ) (kids : List (Tree depth × ℤ)) (last : Tree depth) (high : ℤ) → rowid ≤ℤ low → Parted (IsSorted depth) low kids last high
    → AreGreater rowid (each_of (rows_of depth) nothing kids last)
kids_more depth = more_each (IsSorted depth) (rows_of depth) (sorted_le depth) (sorted_more depth)

-- ---- a leaf

abbrev pub ids_of : List Held → List ℤ
ids_of rows = map (λ (held : Held). held.row.rowid) rows

abbrev pub put_in : {A : Type 0} → ℕ → A → List A → List A
put_in place x xs = take place xs ++ x ∷ drop place xs

pub put_spliced : {A : Type 0} (place : ℕ) (x : A) (xs : List A) → put_in place x xs ≡ spliced place 0 (x ∷ []) xs
put_spliced {A} place x xs = (let e : place + 0 ≡ place = omega arith in ap (λ (n : ℕ). take place xs ++ x ∷ drop n xs) (sym e))

-- a row whose rowid a leaf hasn't stands at its place
pub leaf_with : (held : Held) (rows : List Held) → payload_at held.row.rowid (rows_in rows) ≡ None
    → with_row held.row (rows_in rows) ≡ rows_in (put_in (below held.row.rowid (ids_of rows)) held rows)
leaf_with held [] none = refl
leaf_with held (first ∷ rows) none = elim (less_or_not first.row.rowid held.row.rowid) [
  | inl less ↦ rw less.0 (rw (not_less held.row.rowid first.row.rowid (lt_le first.row.rowid held.row.rowid less.1))
      (ap (λ (rows : List Entry). first.row ∷ rows) (leaf_with held rows (subst (λ (b : Bool). (if b then Some first.row.payload else payload_at held.row.rowid (rows_in rows)) ≡ None) (less_not first.row.rowid held.row.rowid less.1) none))))
  | inr more ↦ elim (same_or_other first.row.rowid held.row.rowid) [
    | inl same ↦ absurd (no_some (subst (λ (b : Bool). (if b then Some first.row.payload else payload_at held.row.rowid (rows_in rows)) ≡ None) same.0 none))
    | inr other ↦ rw more.0 (rw (is_less held.row.rowid first.row.rowid (let h = other.1 in let k = more.1 in apart held.row.rowid first.row.rowid k h)) refl)
  ]
]
  where
    no_some : {A : Type 0} {x : A} → Some x ≡ None → ⊥
    no_some e = cc

    apart : (a b : ℤ) → a ≤ℤ b → (b ≡ a → ⊥) → a <ℤ b
    apart a b le other = elim (less_or_not a b) [
      | inl less ↦ less.1
      | inr not ↦ absurd (other (let k = not.1 in omega (arith, ints)))
    ]

no_some : {A : Type 0} {x : A} → Some x ≡ None → ⊥
no_some e = cc

apart : (a b : ℤ) → a ≤ℤ b → (b ≡ a → ⊥) → a <ℤ b
apart a b le other = elim (less_or_not a b) [
  | inl less ↦ less.1
  | inr not ↦ absurd (other (let k = not.1 in omega (arith, ints)))
]

-- a row that isn't the one looked for isn't found
payload_on : (rowid : ℤ) (row : Entry) (rows : List Entry) → payload_at rowid (row ∷ rows) ≡ None → (row.rowid ≡ rowid → ⊥) × (payload_at rowid rows ≡ None)
payload_on rowid row rows none = elim (same_or_other row.rowid rowid) [
  | inl same ↦ absurd (no_some (subst (λ (b : Bool). (if b then Some row.payload else payload_at rowid rows) ≡ None) same.0 none))
  | inr other ↦ (other.1, subst (λ (b : Bool). (if b then Some row.payload else payload_at rowid rows) ≡ None) other.0 none)
]

-- and the rowids still rise
pub leaf_rises : (held : Held) (low : ℤ) (rows : List Held) (high : ℤ) → low <ℤ held.row.rowid → held.row.rowid ≤ℤ high → payload_at held.row.rowid (rows_in rows) ≡ None
    → Rises low rows high → Rises low (put_in (below held.row.rowid (ids_of rows)) held rows) high
leaf_rises held low [] high above upto none h = (above, upto)
leaf_rises held low (first ∷ rows) high above upto none h = elim (less_or_not first.row.rowid held.row.rowid) [
  | inl less ↦ rw less.0 (h.0, leaf_rises held first.row.rowid rows high less.1 upto (payload_on held.row.rowid first.row (rows_in rows) none).1 h.1)
  | inr more ↦ rw more.0 (above, (apart held.row.rowid first.row.rowid more.1 (payload_on held.row.rowid first.row (rows_in rows) none).0, h.1))
]

-- ---- what a leaf says of rowids

pub same_ids : (map' : PageMap) (usable : ℕ) (said : List (ℤ × Local)) (rows : List Held) → Pairwise (IsHeldAs map' usable) said rows → map (λ (row : ℤ × Local). row.0) said ≡ ids_of rows
same_ids map' usable [] [] h = refl
same_ids map' usable [] (held ∷ rows) h = absurd h
same_ids map' usable (row ∷ said) [] h = absurd h
same_ids map' usable (row ∷ said) (held ∷ rows) h =
    ap (λ (n : ℤ). n ∷ map (λ (row : ℤ × Local). row.0) said) h.0.rowid ∙ ap (λ (ns : List ℤ). held.row.rowid ∷ ns) (same_ids map' usable said rows h.1)

-- a row that the leaf says is there is looked up
pub found_there : (map' : PageMap) (usable : ℕ) (rowid : ℤ) (said : List (ℤ × Local)) (rows : List Held) → Pairwise (IsHeldAs map' usable) said rows
    → HasRowid rowid said (before rowid said) → payload_at rowid (rows_in rows) ≡ None → ⊥
found_there map' usable rowid [] rows h has none = (let lt = has.within in omega (arith, lt))
found_there map' usable rowid (row ∷ said) [] h has none = absurd h
found_there map' usable rowid (row ∷ said) (held ∷ rows) h has none =
    let split = payload_on rowid held.row (rows_in rows) none in
    elim (less_or_not row.0 rowid) [
      | inl less ↦ found_there map' usable rowid said rows h.1 (shifted (subst (λ (b : Bool). HasRowid rowid (row ∷ said) (if b then suc (before rowid said) else 0)) less.0 has)) split.1
      | inr more ↦ split.0 (sym h.0.rowid ∙ (subst (λ (b : Bool). HasRowid rowid (row ∷ said) (if b then suc (before rowid said) else 0)) more.0 has).same row)
    ]
  where
    shifted : HasRowid rowid (row ∷ said) (suc (before rowid said)) → HasRowid rowid said (before rowid said)
    shifted is = record { within = (let lt = is.within in omega (arith, lt)); same = λ d. is.same d }

-- a row that it doesn't say isn't
pub not_there : (map' : PageMap) (usable : ℕ) (rowid low : ℤ) (said : List (ℤ × Local)) (rows : List Held) (high : ℤ) → Pairwise (IsHeldAs map' usable) said rows
    → Rises low rows high → (HasRowid rowid said (before rowid said) → ⊥) → payload_at rowid (rows_in rows) ≡ None
not_there map' usable rowid low [] [] high h rises has = refl
not_there map' usable rowid low [] (held ∷ rows) high h rises has = absurd h
not_there map' usable rowid low (row ∷ said) [] high h rises has = refl
not_there map' usable rowid low (row ∷ said) (held ∷ rows) high h rises has =
    elim (less_or_not row.0 rowid) [
      | inl less ↦ rw (less_not held.row.rowid rowid (subst (λ (z : ℤ). z <ℤ rowid) h.0.rowid less.1))
          (not_there map' usable rowid held.row.rowid said rows high h.1 rises.1
          (λ is. has (subst (λ (b : Bool). HasRowid rowid (row ∷ said) (if b then suc (before rowid said) else 0)) (sym less.0) (shifted is))))
      | inr more ↦ later more (apart rowid held.row.rowid (subst (λ (z : ℤ). rowid ≤ℤ z) h.0.rowid more.1)
          (λ same. has (subst (λ (b : Bool). HasRowid rowid (row ∷ said) (if b then suc (before rowid said) else 0)) (sym more.0) (first (h.0.rowid ∙ same)))))
    ]
  where
    shifted : HasRowid rowid said (before rowid said) → HasRowid rowid (row ∷ said) (suc (before rowid said))
    shifted is = record { within = (let lt = is.within in omega (arith, lt)); same = λ d. is.same d }

    first : row.0 ≡ rowid → HasRowid rowid (row ∷ said) 0
    first same = record { within = omega arith; same = λ d. same }

    later : (int_lt row.0 rowid ≡ false) × (rowid ≤ℤ row.0) → rowid <ℤ held.row.rowid → payload_at rowid (rows_in (held ∷ rows)) ≡ None
    later more lt = none_among rowid (rows_in (held ∷ rows)) (lt, rises_more rowid held.row.rowid rows high (lt_le rowid held.row.rowid lt) rises.1)

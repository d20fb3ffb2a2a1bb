-- The rows of a run, before it and after it.
use Rattle.std.proofs.Common.{◌≡◌, ◌⊎◌, ◌≤◌, ◌<◌, ◌-◌, ℕ, zero, suc, ℤ, pos, ◌<ℤ◌, ◌≤ℤ◌, Bool, true, false, int_lt, if◌then◌else◌, List, [], ◌∷◌, ◌++◌, append_assoc, length, map, take, drop, slice_index_or, Option, Some, None, refl, sym, ap, subst, ◌∙◌, inl, inr, arith}
use Rattle.std.proofs.lemmas.Int.{ints}
use Rattle.std.proofs.lemmas.List.{map-append}
use Rattle.std.specs.Global.{Vec}
use Rattle.std.specs.List.{AllByRecursion}
use Rattle.std.specs.Ordering.{int_eq}
use Rattle.tree_leaf.specs.Leaf.{Entry}
use Rattle.pages.specs.Map.{PageMap}
use Rattle.tree_page.specs.Cells.{Pairwise}
use Rattle.tree_page.specs.Node.{Local}
use Rattle.tree_table.specs.Rows.{with_row, with_change, with_changes, IsLocal}
use Rattle.tree_table.specs.Runs.{IsRun, AreRising, NewRow, none_held, entry_for, entries_of, helds_of, exchanged}
use Rattle.tree_table.specs.Tree.{Held, IsHeldAs, Rises}
use Rattle.tree_table.specs.declared.changing.RowChange.{RowChange}
use Rattle.tree_table.proofs.LeafRows.{said_there, said_counted}
use Rattle.tree_table.proofs.Locals.{AreBetween, AreOver, AreUpTo, change_local, changes_behind, changes_local, same_le}
use Rattle.tree_table.proofs.Orders.{AreLess, AreGreater, rows_in, rises_le, rises_more, lt_le, same_or_other, not_less}
use Rattle.tree_table.proofs.Roots.{sorted_wider}
use Rattle.tree_table.proofs.RunLists.{window}

-- at these places of the rows, which rise from this one on, stand those of the first changes
abbrev pub IsRunOf : ℕ → List Held → List RowChange → List ℕ → Type 0
IsRunOf from rows changes [] = Unit {0}
IsRunOf from rows [] (place ∷ places) = ⊥
IsRunOf from rows (change ∷ changes) (place ∷ places) =
    (from ≤ place) × (place < length rows) × ((slice_index_or rows place none_held).row.rowid ≡ change.rowid) × IsRunOf (suc place) rows changes places

item : ℤ × Local
item = (pos 0, record { size = 0; bytes = [] })

pub run_held : (map' : PageMap) (size : ℕ) (said : List (ℤ × Local)) (rows : List Held) → Pairwise (IsHeldAs map' size) said rows
    → (from : ℕ) (changes : List RowChange) (places : List ℕ) → IsRun from said changes places → IsRunOf from rows changes places
run_held map' size said rows hold from changes [] run = tt
run_held map' size said rows hold from [] (place ∷ places) run = absurd run
run_held map' size said rows hold from (change ∷ changes) (place ∷ places) run =
    let within = run.1.within in
    let counted = said_counted map' size said rows hold in
    let lt : place < length rows = omega (arith, within, counted) in
    let there = said_there map' size said rows place item none_held hold lt in
    (run.0, lt, sym (there.1).rowid ∙ run.1.same item, run_held map' size said rows hold (suc place) changes places run.2)

pub run_rises : (from : ℕ) (rows : List Held) (changes : List RowChange) (places : List ℕ) → IsRunOf from rows changes places → AreRising from (length rows) places
run_rises from rows changes [] run = tt
run_rises from rows [] (place ∷ places) run = absurd run
run_rises from rows (change ∷ changes) (place ∷ places) run = (run.0, run.1, run_rises (suc place) rows changes places run.3)

pub run_few : (from : ℕ) (rows : List Held) (changes : List RowChange) (places : List ℕ) → IsRunOf from rows changes places → length places ≤ length changes
run_few from rows changes [] run = omega arith
run_few from rows [] (place ∷ places) run = absurd run
run_few from rows (change ∷ changes) (place ∷ places) run = (let le = run_few (suc place) rows changes places run.3 in omega (arith, le))

-- ---- a row among others

lt_lt : (a b c : ℤ) → a <ℤ b → b <ℤ c → a <ℤ c
lt_lt a b c h k = omega (arith, ints)

rises_parts : (low : ℤ) (left : List Held) (x : Held) (right : List Held) (high : ℤ) → Rises low (left ++ (x ∷ right)) high
    → AreLess x.row.rowid (rows_in left) × (low <ℤ x.row.rowid) × Rises x.row.rowid right high
rises_parts low [] x right high h = (tt, h.0, h.1)
rises_parts low (y ∷ left) x right high h =
    (let r = rises_parts y.row.rowid left x right high h.1 in ((r.1, r.0), lt_lt low y.row.rowid x.row.rowid h.0 r.1, r.2))

rises_join : (low : ℤ) (left : List Held) (x : Held) (right more : List Held) (high : ℤ) → Rises low (left ++ (x ∷ right)) high → Rises x.row.rowid more high → Rises low (left ++ more) high
rises_join low [] x right more high h rest = sorted_wider zero x.row.rowid low (record { page = 0; rows = more }) high high (lt_le low x.row.rowid h.0) (same_le high) rest
rises_join low (y ∷ left) x right more high h rest = (h.0, rises_join y.row.rowid left x right more high h.1 rest)

rises_swap : (low : ℤ) (left : List Held) (x y : Held) (right more : List Held) (high : ℤ) → Rises low (left ++ (x ∷ right)) high → y.row.rowid ≡ x.row.rowid → Rises x.row.rowid more high
    → Rises low (left ++ (y ∷ more)) high
rises_swap low [] x y right more high h same rest = (subst (λ (z : ℤ). low <ℤ z) (sym same) h.0, subst (λ (z : ℤ). Rises z more high) (sym same) rest)
rises_swap low (z ∷ left) x y right more high h same rest = (h.0, rises_swap z.row.rowid left x y right more high h.1 same rest)

-- ---- what a change leaves of its row

pub equal_is : (a b : ℤ) → a ≡ b → int_eq a b ≡ true
equal_is a b e = elim (same_or_other a b) [
  | inl same ↦ same.0
  | inr other ↦ absurd (other.1 e)
]

equal_le : (a b : ℤ) → a ≡ b → a ≤ℤ b
equal_le a b e = omega (arith, ints)

pub put_there : (less same : Bool) (x y z : List Entry) → less ≡ false → same ≡ true → (if less then x else (if same then y else z)) ≡ y
put_there true same x y z no_less is_same = absurd (let e = no_less in cc)
put_there false true x y z no_less is_same = refl
put_there false false x y z no_less is_same = absurd (let e = is_same in cc)

one_by : (rowid : ℤ) (payload : Option (Vec ℕ)) (row : Entry) → row.rowid ≡ rowid
    → with_change (record { rowid = rowid; payload = payload }) (row ∷ []) ≡ entry_for (record { rowid = rowid; payload = payload })
one_by rowid None row same = ap (λ (b : Bool). if b then [] else row ∷ []) (equal_is row.rowid rowid same)
one_by rowid (Some payload) row same =
    let new : Entry = record { rowid = rowid; payload = payload.items } in
    ap (λ (b : Bool). elim (if b then Some row.payload else None) [ None ↦ row ∷ [] | Some old ↦ with_row new (row ∷ []) ]) (equal_is row.rowid rowid same)
    ∙ put_there (int_lt rowid row.rowid) (int_eq rowid row.rowid) (new ∷ row ∷ []) (new ∷ []) (row ∷ new ∷ []) (not_less rowid row.rowid (equal_le row.rowid rowid same)) (equal_is rowid row.rowid (sym same))

one_changed : (change : RowChange) (row : Entry) → row.rowid ≡ change.rowid → with_change change (row ∷ []) ≡ entry_for change
one_changed change row same = one_by change.rowid change.payload row same

entry_upto : (rowid : ℤ) (payload : Option (Vec ℕ)) → AreUpTo rowid (entry_for (record { rowid = rowid; payload = payload }))
entry_upto rowid None = tt
entry_upto rowid (Some payload) = (same_le rowid, tt)

abbrev first_rowid : ℤ → List Entry → ℤ
first_rowid none [] = none
first_rowid none (row ∷ rows) = row.rowid

-- no row is left, or the new one
new_or_none : (rowid : ℤ) (payload : Option (Vec ℕ)) (news : List NewRow) → entries_of news ≡ entry_for (record { rowid = rowid; payload = payload })
    → (news ≡ []) ⊎ ((new : NewRow) × (news ≡ new ∷ []) × (new.held.row.rowid ≡ rowid))
new_or_none rowid None [] e = inl refl
new_or_none rowid None (new ∷ news) e = absurd cc
new_or_none rowid (Some payload) [] e = absurd cc
new_or_none rowid (Some payload) (new ∷ []) e = inr (new, refl, ap (first_rowid rowid) e)
new_or_none rowid (Some payload) (new ∷ other ∷ news) e = absurd cc

helds_rows : (news : List NewRow) → rows_in (helds_of news) ≡ entries_of news
helds_rows [] = refl
helds_rows (new ∷ news) = ap (λ (rows : List Entry). new.held.row ∷ rows) (helds_rows news)

abbrev firsts : List ℕ → List RowChange → List RowChange
firsts places changes = take (length places) changes

-- each new row is what its change leaves
abbrev pub AreFor : List (List NewRow) → List RowChange → Type 0
AreFor news changes = map entries_of news ≡ map entry_for changes

no_cons : {A : Type 0} {x : A} {xs : List A} → x ∷ xs ≡ [] → ⊥
no_cons e = cc

head_same : {A : Type 0} {x y : A} {xs ys : List A} → x ∷ xs ≡ y ∷ ys → x ≡ y
head_same e = cc

tail_same : {A : Type 0} {x y : A} {xs ys : List A} → x ∷ xs ≡ y ∷ ys → xs ≡ ys
tail_same e = cc

-- ---- all of the run

over_less : (low mid : ℤ) (changes : List RowChange) → low <ℤ mid → AreOver mid changes → AreOver low changes
over_less low mid [] lt h = tt
over_less low mid (change ∷ changes) lt h = (lt_lt low mid change.rowid lt h.0, over_less low mid changes lt h.1)

module _ (rows : List Held) (high : ℤ) where
  abbrev slot : ℕ → Held
  slot place = slice_index_or rows place none_held

  abbrev front : ℕ → ℕ → List Held
  front from place = take (place - from) (drop from rows)

  parts : (from place : ℕ) (low : ℤ) → from ≤ place → place < length rows → Rises low (drop from rows) high
      → Rises low (front from place ++ (slot place ∷ drop (suc place) rows)) high
  parts from place low le lt h = subst (λ (xs : List Held). Rises low xs high) (window from place rows none_held le lt) h

  run_over : (from : ℕ) (changes : List RowChange) (places : List ℕ) (low : ℤ) → Rises low (drop from rows) high → IsRunOf from rows changes places → AreOver low (firsts places changes)
  run_over from changes [] low h run = tt
  run_over from [] (place ∷ places) low h run = absurd run
  run_over from (change ∷ changes) (place ∷ places) low h run =
      let p = rises_parts low (front from place) (slot place) (drop (suc place) rows) high (parts from place low run.0 run.1 h) in (
        subst (λ (z : ℤ). low <ℤ z) run.2 p.1,
        over_less low (slot place).row.rowid (firsts places changes) p.1 (run_over (suc place) changes places (slot place).row.rowid p.2 run.3),
      )

  run_upto : (from : ℕ) (changes : List RowChange) (places : List ℕ) (low : ℤ) → Rises low (drop from rows) high → IsRunOf from rows changes places
      → AllByRecursion (λ (change : RowChange). change.rowid ≤ℤ high) (firsts places changes)
  run_upto from changes [] low h run = tt
  run_upto from [] (place ∷ places) low h run = absurd run
  run_upto from (change ∷ changes) (place ∷ places) low h run =
      let p = rises_parts low (front from place) (slot place) (drop (suc place) rows) high (parts from place low run.0 run.1 h) in (
        subst (λ (z : ℤ). z ≤ℤ high) run.2 (rises_le (slot place).row.rowid (drop (suc place) rows) high p.2),
        run_upto (suc place) changes places (slot place).row.rowid p.2 run.3,
      )

  pub rises_exchanged : (from : ℕ) (changes : List RowChange) (places : List ℕ) (news : List (List NewRow)) (low : ℤ) → length places ≡ length news → Rises low (drop from rows) high
      → IsRunOf from rows changes places → AreFor news (firsts places changes) → Rises low (exchanged from places (map helds_of news) rows) high
  rises_exchanged from changes [] news low same h run are = h
  rises_exchanged from changes (place ∷ places) [] low same h run are = h
  rises_exchanged from [] (place ∷ places) (new ∷ news) low same h run are = absurd run
  rises_exchanged from (change ∷ changes) (place ∷ places) (new ∷ news) low same h run are =
      let split = parts from place low run.0 run.1 h in
      let p = rises_parts low (front from place) (slot place) (drop (suc place) rows) high split in
      let more = exchanged (suc place) places (map helds_of news) rows in
      let rest : Rises (slot place).row.rowid more high = rises_exchanged (suc place) changes places news (slot place).row.rowid (omega (arith, same)) p.2 run.3 (tail_same are) in
      elim (new_or_none change.rowid change.payload new (head_same are)) [
        | inl none ↦ subst (λ (n : List NewRow). Rises low (front from place ++ (helds_of n ++ more)) high) (sym none) (rises_join low (front from place) (slot place) (drop (suc place) rows) more high split rest)
        | inr (one, is, its) ↦ subst (λ (n : List NewRow). Rises low (front from place ++ (helds_of n ++ more)) high) (sym is)
            (rises_swap low (front from place) (slot place) one.held (drop (suc place) rows) more high split (its ∙ sym run.2) rest)
      ]

  less_up : (rowid : ℤ) (left : List Entry) → AreLess rowid left → AreUpTo rowid left
  less_up rowid [] h = tt
  less_up rowid (row ∷ left) h = (lt_le row.rowid rowid h.0, less_up rowid left h.1)

  up_append : (rowid : ℤ) (xs ys : List Entry) → AreUpTo rowid xs → AreUpTo rowid ys → AreUpTo rowid (xs ++ ys)
  up_append rowid [] ys a b = b
  up_append rowid (x ∷ xs) ys a b = (a.0, up_append rowid xs ys a.1 b)

  pub rows_exchanged : (from : ℕ) (changes : List RowChange) (places : List ℕ) (news : List (List NewRow)) (low : ℤ) → length places ≡ length news → Rises low (drop from rows) high
      → IsRunOf from rows changes places → AreFor news (firsts places changes)
      → rows_in (exchanged from places (map helds_of news) rows) ≡ with_changes (firsts places changes) (rows_in (drop from rows))
  rows_exchanged from changes [] news low same h run are = refl
  rows_exchanged from changes (place ∷ places) [] low same h run are = absurd (omega (arith, same))
  rows_exchanged from [] (place ∷ places) (new ∷ news) low same h run are = absurd run
  rows_exchanged from (change ∷ changes) (place ∷ places) (new ∷ news) low same h run are =
      let split = parts from place low run.0 run.1 h in
      let left = front from place in
      let x = slot place in
      let right = drop (suc place) rows in
      let p = rises_parts low left x right high split in
      let more = exchanged (suc place) places (map helds_of news) rows in
      let rest = rows_exchanged (suc place) changes places news x.row.rowid (omega (arith, same)) p.2 run.3 (tail_same are) in
      let some = firsts places changes in
      let before = rows_in left in
      let entry = entry_for change in
      let less = subst (λ (z : ℤ). AreLess z before) run.2 p.0 in
      let greater = subst (λ (z : ℤ). AreGreater z (rows_in right)) run.2 (rises_more x.row.rowid x.row.rowid right high (same_le x.row.rowid) p.2) in
      let over = subst (λ (z : ℤ). AreOver z some) run.2 (run_over (suc place) changes places x.row.rowid p.2 run.3) in
      map-append (λ (held : Held). held.row) left (helds_of new ++ more)
      ∙ ap (λ (ys : List Entry). before ++ ys) (map-append (λ (held : Held). held.row) (helds_of new) more)
      ∙ ap (λ (ys : List Entry). before ++ (ys ++ rows_in more)) (helds_rows new ∙ head_same are)
      ∙ ap (λ (ys : List Entry). before ++ (entry ++ ys)) rest
      ∙ sym (append_assoc before entry (with_changes some (rows_in right)))
      ∙ sym (changes_behind change.rowid some (before ++ entry) (rows_in right) over (up_append change.rowid before entry (less_up change.rowid before less) (entry_upto change.rowid change.payload)))
      ∙ ap (λ (ys : List Entry). with_changes some ys) (append_assoc before entry (rows_in right))
      ∙ ap (λ (ys : List Entry). with_changes some (before ++ (ys ++ rows_in right))) (sym (one_changed change x.row run.2))
      ∙ ap (λ (ys : List Entry). with_changes some ys) (sym ((change_local change).within before (x.row ∷ []) (rows_in right) less greater))
      ∙ ap (λ (ys : List Entry). with_changes some (with_change change ys)) (sym (map-append (λ (held : Held). held.row) left (x ∷ right)))
      ∙ ap (λ (ys : List Held). with_changes some (with_change change (rows_in ys))) (sym (window from place rows none_held run.0 run.1))

  between : (rowid : ℤ) (changes : List RowChange) → AreOver rowid changes → AllByRecursion (λ (change : RowChange). change.rowid ≤ℤ high) changes → AreBetween rowid high changes
  between rowid [] over upto = tt
  between rowid (change ∷ changes) over upto = ((lt_le rowid change.rowid over.0, upto.0), between rowid changes over.1 upto.1)

  -- the changes of a run are local from its first rowid on
  pub run_local : (from : ℕ) (changes : List RowChange) (places : List ℕ) (low rowid : ℤ) → Rises low (drop from rows) high → IsRunOf from rows changes places
      → ((change : RowChange) (rest : List RowChange) → changes ≡ change ∷ rest → change.rowid ≡ rowid) → IsLocal rowid high (with_changes (firsts places changes))
  run_local from changes [] low rowid h run first = changes_local rowid high [] tt
  run_local from [] (place ∷ places) low rowid h run first = absurd run
  run_local from (change ∷ changes) (place ∷ places) low rowid h run first =
      let x = slot place in
      let right = drop (suc place) rows in
      let p = rises_parts low (front from place) x right high (parts from place low run.0 run.1 h) in
      let is = first change changes refl in
      let over = subst (λ (z : ℤ). AreOver z (firsts places changes)) (run.2 ∙ is) (run_over (suc place) changes places x.row.rowid p.2 run.3) in
      let upto = run_upto from (change ∷ changes) (place ∷ places) low h run in
      changes_local rowid high (firsts (place ∷ places) (change ∷ changes)) ((equal_le rowid change.rowid (sym is), upto.0), between rowid (firsts places changes) over upto.1)

-- Rows that are written over others, one after another.
use Rattle.std.proofs.Common.{◌≡◌, ◌≤◌, ◌<◌, ◌+◌, ◌-◌, ℕ, zero, suc, ℤ, List, [], ◌∷◌, ◌++◌, length, map, take, drop, slice_index_or, Option, Some, None, refl, sym, ap, subst, ◌∙◌, arith}
use Rattle.std.proofs.lemmas.List.{get_or-append-add, get_or-drop, drop-drop, set_split, set-append_right, length-append, length-drop, length-map, length-take-le, map-append}
use Rattle.std.specs.Global.{Vec}
use Rattle.std.specs.List.{AllByRecursion}
use Rattle.std.specs.Prelude.{slice_set}
use Rattle.tree_page.specs.Cells.{Pairwise}
use Rattle.tree_page.specs.Node.{Local, Rows, IsNode, IsRowCell}
use Rattle.tree_pack.specs.Placing.{IsPlaced}
use Rattle.tree_pack.specs.Rewriting.{whole, IsRewritten}
use Rattle.tree_table.specs.Rewriting.{said_for, IsLaid, singly, AreRewritten}
use Rattle.tree_table.specs.Runs.{AreRising, IsRun, exchanged}
use Rattle.tree_table.specs.Stepping.{HasRowid}
use Rattle.tree_table.specs.declared.changing.RowChange.{RowChange}

-- ---- items that give way, each to one

abbrev pub AreOnes : {A : Type 0} → List (List A) → Type 0
AreOnes news = AllByRecursion (λ new. length new ≡ 1) news

pub last_rises : (from count : ℕ) (places : List ℕ) (place : ℕ) → AreRising from count (places ++ place ∷ []) → (from ≤ place) × (place < count)
last_rises from count [] place rise = (rise.0, rise.1)
last_rises from count (p ∷ places) place rise = (let next = last_rises (suc p) count places place rise.2 in let le = rise.0 in let far = next.0 in (omega (arith, le, far), next.1))

pub first_rise : (from count : ℕ) (places : List ℕ) (place : ℕ) → AreRising from count (places ++ place ∷ []) → AreRising from count places
first_rise from count [] place rise = tt
first_rise from count (p ∷ places) place rise = (rise.0, rise.1, first_rise (suc p) count places place rise.2)

module _ {A : Type 0} (xs : List A) where
  front_long : (from p : ℕ) → from ≤ p → p < length xs → length (take (p - from) (drop from xs)) ≡ p - from
  front_long from p le lt = length-take-le (p - from) (drop from xs) (let long = length-drop from xs in omega (arith, long, le, lt))

  -- one more item gives way behind the others
  pub exchanged_set : (from : ℕ) (places : List ℕ) (news : List (List A)) (place : ℕ) (x : A) → AreRising from (length xs) (places ++ place ∷ []) → length places ≡ length news → AreOnes news
      → slice_set (exchanged from places news xs) (place - from) x ≡ exchanged from (places ++ place ∷ []) (news ++ (x ∷ []) ∷ []) xs
  exchanged_set from [] [] place x rise same ones =
      let le = rise.0 in
      let lt = rise.1 in
      let long = length-drop from xs in
      let on : from + suc (place - from) ≡ suc place = omega (arith, le) in
      let rest : drop (suc (place - from)) (drop from xs) ≡ drop (suc place) xs = drop-drop (suc (place - from)) from xs ∙ ap (λ (n : ℕ). drop n xs) on in
      set_split (drop from xs) (place - from) x (omega (arith, long, le, lt)) ∙ ap (λ (ys : List A). take (place - from) (drop from xs) ++ (x ∷ ys)) rest
  exchanged_set from [] (new ∷ news) place x rise same ones = absurd (omega (arith, same))
  exchanged_set from (p ∷ places) [] place x rise same ones = absurd (omega (arith, same))
  exchanged_set from (p ∷ places) (new ∷ news) place x rise same ones =
      let front = take (p - from) (drop from xs) in
      let rest = exchanged (suc p) places news xs in
      let le = rise.0 in
      let lt = rise.1 in
      let far = (last_rises (suc p) (length xs) places place rise.2).0 in
      let one = ones.0 in
      let on : place - from - (p - from) - 1 ≡ place - suc p = omega (arith, le, far) in
      set-append_right front (new ++ rest) (p - from) (place - from) x (front_long from p le lt) (omega (arith, far))
      ∙ ap (λ (ys : List A). front ++ ys) (set-append_right new rest 1 (place - from - (p - from)) x one (omega (arith, far, le)) ∙ ap (λ (n : ℕ). new ++ slice_set rest n x) on
      ∙ ap (λ (ys : List A). new ++ ys) (exchanged_set (suc p) places news place x rise.2 (omega (arith, same)) ones.1))

  -- behind those that gave way the items are as they were
  pub exchanged_get : (from : ℕ) (places : List ℕ) (news : List (List A)) (place : ℕ) (d : A) → AreRising from (length xs) (places ++ place ∷ []) → length places ≡ length news → AreOnes news
      → slice_index_or (exchanged from places news xs) (place - from) d ≡ slice_index_or xs place d
  exchanged_get from [] [] place d rise same ones = (let le = rise.0 in let on : from + (place - from) ≡ place = omega (arith, le) in get_or-drop from xs (place - from) d ∙ ap (λ (n : ℕ). slice_index_or xs n d) on)
  exchanged_get from [] (new ∷ news) place d rise same ones = absurd (omega (arith, same))
  exchanged_get from (p ∷ places) [] place d rise same ones = absurd (omega (arith, same))
  exchanged_get from (p ∷ places) (new ∷ news) place d rise same ones =
      let front = take (p - from) (drop from xs) in
      let rest = exchanged (suc p) places news xs in
      let le = rise.0 in
      let lt = rise.1 in
      let far = (last_rises (suc p) (length xs) places place rise.2).0 in
      let one = ones.0 in
      let long = front_long from p le lt in
      let at : place - from ≡ length front + (length new + (place - suc p)) = omega (arith, long, one, le, far) in
      ap (λ (n : ℕ). slice_index_or (front ++ (new ++ rest)) n d) at ∙ get_or-append-add front (new ++ rest) (length new + (place - suc p)) d ∙ get_or-append-add new rest (place - suc p) d
      ∙ exchanged_get (suc p) places news place d rise.2 (omega (arith, same)) ones.1

  -- there are as many
  pub exchanged_long : (from : ℕ) (places : List ℕ) (news : List (List A)) → AreRising from (length xs) places → length places ≡ length news → AreOnes news → from ≤ length xs
      → from + length (exchanged from places news xs) ≡ length xs
  exchanged_long from [] [] rise same ones le = (let long = length-drop from xs in omega (arith, long, le))
  exchanged_long from [] (new ∷ news) rise same ones le = absurd (omega (arith, same))
  exchanged_long from (p ∷ places) [] rise same ones le = absurd (omega (arith, same))
  exchanged_long from (p ∷ places) (new ∷ news) rise same ones le =
      let front = take (p - from) (drop from xs) in
      let rest = exchanged (suc p) places news xs in
      let from_le = rise.0 in
      let lt = rise.1 in
      let one = ones.0 in
      let more = exchanged_long (suc p) places news rise.2 (omega (arith, same)) ones.1 (omega (arith, lt)) in
      omega (arith, length-append front (new ++ rest), length-append new rest, front_long from p from_le lt, one, more, from_le)

-- ---- rows

pub said_some : (change : RowChange) (payload : Vec ℕ) → change.payload ≡ Some payload → said_for change ≡ (change.rowid, whole payload.items) ∷ []
said_some change payload is = ap (λ (o : Option (Vec ℕ)). elim o as (λ x. List (ℤ × Local)) [ None ↦ [] | Some payload ↦ (change.rowid, whole payload.items) ∷ [] ]) is

-- what the changes leave is one row each
laid_ones : (size : ℕ) (changes : List RowChange) (cells : List (List ℕ)) → Pairwise (IsLaid size) changes cells → AreOnes (map said_for changes)
laid_ones size [] [] all = tt
laid_ones size [] (cell ∷ cells) all = absurd all
laid_ones size (change ∷ changes) [] all = absurd all
laid_ones size (change ∷ changes) (cell ∷ cells) all = (ap length (said_some change all.0.payload all.0.is), laid_ones size changes cells all.1)

cell_ones : (cells : List (List ℕ)) → AreOnes (singly cells)
cell_ones [] = tt
cell_ones (cell ∷ cells) = (refl, cell_ones cells)

laid_long : (size : ℕ) (changes : List RowChange) (cells : List (List ℕ)) → Pairwise (IsLaid size) changes cells → length changes ≡ length cells
laid_long size [] [] all = refl
laid_long size [] (cell ∷ cells) all = absurd all
laid_long size (change ∷ changes) [] all = absurd all
laid_long size (change ∷ changes) (cell ∷ cells) all = (let e = laid_long size changes cells all.1 in omega (arith, e))

laid_more : (size : ℕ) (changes : List RowChange) (cells : List (List ℕ)) (change : RowChange) (cell : List ℕ) → Pairwise (IsLaid size) changes cells → IsLaid size change cell → Pairwise (IsLaid size) (changes ++ change ∷ []) (cells ++ cell ∷ [])
laid_more size [] [] change cell all is = (is, tt)
laid_more size [] (c ∷ cells) change cell all is = absurd all
laid_more size (c ∷ changes) [] change cell all is = absurd all
laid_more size (c ∷ changes) (d ∷ cells) change cell all is = (all.0, laid_more size changes cells change cell all.1 is)

short_more : (P : ℕ → Type 0) (places : List ℕ) (place : ℕ) → AllByRecursion P places → P place → AllByRecursion P (places ++ place ∷ [])
short_more P [] place all is = (is, tt)
short_more P (p ∷ places) place all is = (all.0, short_more P places place all.1 is)

module _ (page : List ℕ) (start : ℕ) (said : List (ℤ × Local)) (is : IsNode page start (Rows said)) where
  pub none_rewritten : (out : List ℕ) → out ≡ page → AreRewritten page start said is [] [] out
  none_rewritten out same = record {
    cells = [];
    laid = tt;
    short = tt;
    placed = subst (λ (bytes : List ℕ). IsPlaced page start is.cells (Rows said) bytes) (sym same) (record { is = is; cells_are = refl; long = refl; front = refl });
  }

  module _ (places : List ℕ) (changes : List RowChange) (out : List ℕ) (so : AreRewritten page start said is places changes out) (place : ℕ) (change : RowChange)
      (rise : AreRising 0 (length is.cells) (places ++ place ∷ [])) (same : length places ≡ length changes) where
    cells_same : length places ≡ length (singly so.cells)
    cells_same = (let e = laid_long (length page) changes so.cells so.laid in let m = length-map so.cells (λ (cell : List ℕ). cell ∷ []) in omega (arith, same, e, m))

    pub on_page : place < length so.placed.is.cells
    on_page = (let e = ap length so.placed.cells_are in
        let long = exchanged_long is.cells 0 places (singly so.cells) (first_rise 0 (length is.cells) places place rise) cells_same (cell_ones so.cells) (omega arith) in
        let lt = (last_rises 0 (length is.cells) places place rise).1 in omega (arith, e, long, lt))

    pub one_rewritten : (payload : Vec ℕ) (new : List ℕ) → length said ≡ length is.cells → HasRowid change.rowid said place → change.payload ≡ Some payload
        → IsRewritten out start (exchanged 0 places (map said_for changes) said) so.placed.is place payload.items new → AreRewritten page start said is (places ++ place ∷ []) (changes ++ change ∷ []) new
    one_rewritten payload new counted has some r =
        let rise_said = subst (λ (n : ℕ). AreRising 0 n (places ++ place ∷ [])) (sym counted) rise in
        let said_same : length places ≡ length (map said_for changes) = (let m = length-map changes said_for in omega (arith, same, m)) in
        let ones = laid_ones (length page) changes so.cells so.laid in
        let plain : place - 0 ≡ place = omega arith in
        let there = λ (d : ℤ × Local). (sym (exchanged_get said 0 places (map said_for changes) place d rise_said said_same ones) ∙ ap (λ (n : ℕ). slice_index_or (exchanged 0 places (map said_for changes) said) n d) plain ∙ r.row_is d) in
        let rowid : r.row.0 ≡ change.rowid = sym (ap (λ (row : ℤ × Local). row.0) (there r.row)) ∙ has.same r.row in
        let long = so.placed.long in
        let item : ℤ × Local = (change.rowid, whole payload.items) in
        let item_is : (r.row.0, whole payload.items) ≡ item = ap (λ (z : ℤ). (z, whole payload.items)) rowid in
        let says : IsRowCell (length page) r.cell item = subst (λ (n : ℕ). IsRowCell n r.cell item) long (subst (λ (row : ℤ × Local). IsRowCell (length out) r.cell row) item_is r.says) in
        let short : length payload.items ≤ length page - 35 = (let le = r.short in omega (arith, le, long)) in
        let saids : slice_set (exchanged 0 places (map said_for changes) said) place (r.row.0, whole payload.items) ≡ exchanged 0 (places ++ place ∷ []) (map said_for (changes ++ change ∷ [])) said =
        ap (λ (row : ℤ × Local). slice_set (exchanged 0 places (map said_for changes) said) place row) item_is ∙ ap (λ (n : ℕ). slice_set (exchanged 0 places (map said_for changes) said) n item) (sym plain)
        ∙ exchanged_set said 0 places (map said_for changes) place item rise_said said_same ones
        ∙ ap (λ (news : List (List (ℤ × Local))). exchanged 0 (places ++ place ∷ []) news said) (ap (λ (one : List (ℤ × Local)). map said_for changes ++ one ∷ []) (sym (said_some change payload some)) ∙ sym (map-append said_for changes (change ∷ []))) in
        let cells_now : slice_set so.placed.is.cells place r.cell ≡ exchanged 0 (places ++ place ∷ []) (singly (so.cells ++ r.cell ∷ [])) is.cells =
        ap (λ (cells : List (List ℕ)). slice_set cells place r.cell) so.placed.cells_are ∙ ap (λ (n : ℕ). slice_set (exchanged 0 places (singly so.cells) is.cells) n r.cell) (sym plain)
        ∙ exchanged_set is.cells 0 places (singly so.cells) place r.cell rise cells_same (cell_ones so.cells)
        ∙ ap (λ (news : List (List (List ℕ))). exchanged 0 (places ++ place ∷ []) news is.cells) (sym (map-append (λ (cell : List ℕ). cell ∷ []) so.cells (r.cell ∷ []))) in
        record {
          cells = so.cells ++ r.cell ∷ [];
          laid = laid_more (length page) changes so.cells change r.cell so.laid (record { payload = payload; is = some; short = short; says = says });
          short = short_more (λ place. (d : ℤ × Local) → (slice_index_or said place d).1.size ≤ length page - 35) places place so.short
              (λ d. (let e = ap (λ (row : ℤ × Local). row.1.size) (there d) in let size = r.size_is in omega (arith, e, size, short)));
          placed = placed_by (slice_set (exchanged 0 places (map said_for changes) said) place (r.row.0, whole payload.items)) (exchanged 0 (places ++ place ∷ []) (map said_for (changes ++ change ∷ [])) said) saids r.now
              (exchanged 0 (places ++ place ∷ []) (singly (so.cells ++ r.cell ∷ [])) is.cells) (r.cells_are ∙ cells_now) (r.long ∙ long) (r.front ∙ so.placed.front);
        }
      where
        placed_by : (rows rows_now : List (ℤ × Local)) → rows ≡ rows_now → (node : IsNode new start (Rows rows)) (cells : List (List ℕ)) → node.cells ≡ cells → length new ≡ length page → take start new ≡ take start page
            → IsPlaced page start cells (Rows rows_now) new
        placed_by rows rows_now e node cells cells_are long front = rw (sym e) (record { is = node; cells_are = cells_are; long = long; front = front })

-- ---- the places of a run

pub run_long : (from : ℕ) (said : List (ℤ × Local)) (changes : List RowChange) (places : List ℕ) → IsRun from said changes places → length places ≤ length changes
run_long from said changes [] run = omega arith
run_long from said [] (place ∷ places) run = absurd run
run_long from said (change ∷ changes) (place ∷ places) run = (let le = run_long (suc place) said changes places run.2 in omega (arith, le))

pub run_rise : (from : ℕ) (said : List (ℤ × Local)) (changes : List RowChange) (places : List ℕ) → IsRun from said changes places → AreRising from (length said) places
run_rise from said changes [] run = tt
run_rise from said [] (place ∷ places) run = absurd run
run_rise from said (change ∷ changes) (place ∷ places) run = (run.0, run.1.within, run_rise (suc place) said changes places run.2)

pub run_has : (from : ℕ) (said : List (ℤ × Local)) (changes : List RowChange) (places : List ℕ) → IsRun from said changes places → (i : ℕ) → i < length places → (d : RowChange)
    → HasRowid (slice_index_or changes i d).rowid said (slice_index_or places i 0)
run_has from said changes [] run i lt d = absurd (omega (arith, lt))
run_has from said [] (place ∷ places) run i lt d = absurd run
run_has from said (change ∷ changes) (place ∷ places) run zero lt d = run.1
run_has from said (change ∷ changes) (place ∷ places) run (suc i) lt d = run_has (suc place) said changes places run.2 i (omega (arith, lt)) d

pub rise_take : (from count : ℕ) (places : List ℕ) (i : ℕ) → AreRising from count places → AreRising from count (take i places)
rise_take from count [] zero rise = tt
rise_take from count [] (suc i) rise = tt
rise_take from count (place ∷ places) zero rise = tt
rise_take from count (place ∷ places) (suc i) rise = (rise.0, rise.1, rise_take (suc place) count places i rise.2)

pub run_take : (from : ℕ) (said : List (ℤ × Local)) (changes : List RowChange) (places : List ℕ) → IsRun from said changes places → IsRun from said (take (length places) changes) places
run_take from said changes [] run = tt
run_take from said [] (place ∷ places) run = absurd run
run_take from said (change ∷ changes) (place ∷ places) run = (run.0, run.1, run_take (suc place) said changes places run.2)

pub taken_again : (changes : List RowChange) (n : ℕ) → take n (take n changes) ≡ take n changes
taken_again [] zero = refl
taken_again [] (suc n) = refl
taken_again (change ∷ changes) zero = refl
taken_again (change ∷ changes) (suc n) = ap (λ (rest : List RowChange). change ∷ rest) (taken_again changes n)

-- A row that was taken off its leaf is put in again, with another payload.
use Rattle.std.proofs.Common.{◌≡◌, ◌∙◌, ℕ, zero, suc, ℤ, ◌≤ℤ◌, Bool, true, false, if◌then◌else◌, List, [], ◌∷◌, ◌+◌, ◌≤◌, length, map, take, Option, Some, None, refl, sym, ap, subst, inl, inr}
use Rattle.std.specs.Global.{Vec}
use Rattle.std.specs.Prelude.{int_lt, Result, Ok, Err, MatchResult}
use Rattle.std.specs.Ordering.{int_eq}
use Rattle.sqlval.specs.declared.fault.Fault.{Fault}
use Rattle.tree_leaf.specs.Leaf.{Entry}
use Rattle.pages.specs.Calls.{IsOutsideOrFull}
use Rattle.pages.specs.Counting.{occurs, Moves}
use Rattle.pages.specs.Map.{PageMap}
use Rattle.pages.proofs.Moving.{in_sequence}
use Rattle.tree_page.specs.Reading.{below}
use Rattle.tree_overflow.proofs.Laying.{keeps_then}
use Rattle.tree_pack.specs.declared.spreading.Packed.{Packed}
use Rattle.tree_table.specs.Growing.{below_of, IsEdited, IsPlanned, IsPut, IsPutOrPlanned, IsThereAt, IsUnder, PlansLeaf}
use Rattle.tree_table.specs.Rows.{payload_at, with_row, without_row, with_change, with_changes, IsLocal}
use Rattle.tree_table.specs.Runs.{IsOneChange, IsFirst, IsNoRun, IsPutAgain, PutsAgain, with_again}
use Rattle.tree_table.specs.Stepping.{StepsFrom}
use Rattle.tree_table.specs.Tree.{Held, Leaf, Rises, Tree, pages_of, rows_of}
use Rattle.tree_table.specs.declared.changing.RowChange.{RowChange}
use Rattle.tree_table.specs.declared.descending.Step.TheVariants.{Found}
use Rattle.tree_table.specs.declared.growing.Change.{Change}
use Rattle.tree_table.specs.declared.growing.Change.TheVariants.{Still, Same, Spread}
use Rattle.tree_table.proofs.Descents.{deep_leaf, here_change, leaf_place, not_inside, step_found}
use Rattle.tree_table.proofs.Locals.{changes_local, same_le, without_none}
use Rattle.tree_table.proofs.Orders.{AreGreater, ids_of, less_or_not, lt_le, none_among, not_less, rises_more, rows_in, same_or_other, with_here}
use Rattle.tree_table.proofs.Passing.{AreUpTo, IsAfter, after_top, once_after, tree_up}
use Rattle.tree_table.proofs.RunRows.{equal_is, put_there}
use Rattle.tree_table.proofs.TakenRows.{IsStepTaken}

-- ---- the other rows

abbrev numbers : List Entry → List ℤ
numbers rows = map (λ (row : Entry). row.rowid) rows

none_less : (rowid : ℤ) (rows : List Entry) → AreGreater rowid rows → below rowid (numbers rows) ≡ 0
none_less rowid [] h = refl
none_less rowid (row ∷ rows) h = ap (λ (b : Bool). if b then suc (below rowid (numbers rows)) else 0) (not_less row.rowid rowid (lt_le rowid row.rowid h.0))

at_least : (a b : ℤ) → a ≡ b → b ≤ℤ a
at_least a b e = subst (λ (z : ℤ). z ≤ℤ a) e (same_le a)

behind : (rowid : ℤ) (first : Held) (rows : List Held) (high : ℤ) → first.row.rowid ≡ rowid → Rises first.row.rowid rows high → AreGreater rowid (rows_in rows)
behind rowid first rows high same h = rises_more rowid first.row.rowid rows high (at_least first.row.rowid rowid same) h

without_head : (rowid : ℤ) (row : Entry) (rows : List Entry) (b : Bool) → int_eq row.rowid rowid ≡ b → without_row rowid (row ∷ rows) ≡ (if b then rows else row ∷ without_row rowid rows)
without_head rowid row rows b e = ap (λ (t : Bool). if t then rows else row ∷ without_row rowid rows) e

-- the row's place is where it was
place_without : (rowid low : ℤ) (rows : List Held) (high : ℤ) → Rises low rows high → below rowid (numbers (without_row rowid (rows_in rows))) ≡ below rowid (ids_of rows)
place_without rowid low [] high h = refl
place_without rowid low (first ∷ rows) high h = elim (same_or_other first.row.rowid rowid) [
  | inl same ↦ ap (λ (xs : List Entry). below rowid (numbers xs)) (without_head rowid first.row (rows_in rows) true same.0)
      ∙ none_less rowid (rows_in rows) (behind rowid first rows high same.1 h.1)
      ∙ sym (ap (λ (b : Bool). if b then suc (below rowid (ids_of rows)) else 0) (not_less first.row.rowid rowid (at_least first.row.rowid rowid same.1)))
  | inr other ↦ ap (λ (xs : List Entry). below rowid (numbers xs)) (without_head rowid first.row (rows_in rows) false other.0)
      ∙ ap (λ (n : ℕ). if int_lt first.row.rowid rowid then suc n else 0) (place_without rowid first.row.rowid rows high h.1)
]

-- none of them has its rowid
none_without : (rowid low : ℤ) (rows : List Held) (high : ℤ) → Rises low rows high → payload_at rowid (without_row rowid (rows_in rows)) ≡ None
none_without rowid low [] high h = refl
none_without rowid low (first ∷ rows) high h = elim (same_or_other first.row.rowid rowid) [
  | inl same ↦ ap (payload_at rowid) (without_head rowid first.row (rows_in rows) true same.0) ∙ none_among rowid (rows_in rows) (behind rowid first rows high same.1 h.1)
  | inr other ↦ ap (payload_at rowid) (without_head rowid first.row (rows_in rows) false other.0)
      ∙ ap (λ (b : Bool). if b then Some first.row.payload else payload_at rowid (without_row rowid (rows_in rows))) other.0
      ∙ none_without rowid first.row.rowid rows high h.1
]

third : (less same : Bool) (x y z : List Entry) → less ≡ false → same ≡ false → (if less then x else (if same then y else z)) ≡ z
third true same x y z no_less other = absurd (let e = no_less in cc)
third false true x y z no_less other = absurd (let e = other in cc)
third false false x y z no_less other = refl

not_equal : (a b : ℤ) → (b ≡ a → ⊥) → int_eq a b ≡ false
not_equal a b other = elim (same_or_other a b) [
  | inl same ↦ absurd (other (sym same.1))
  | inr apart ↦ apart.0
]

-- with it they are the rows with it in place of the one before
with_without : (row : Entry) (low : ℤ) (rows : List Held) (high : ℤ) → Rises low rows high → with_row row (without_row row.rowid (rows_in rows)) ≡ with_row row (rows_in rows)
with_without row low [] high h = refl
with_without row low (first ∷ rows) high h =
    let rest = rows_in rows in
    let others = without_row row.rowid rest in
    let less = int_lt row.rowid first.row.rowid in
    let equal = int_eq row.rowid first.row.rowid in
    elim (same_or_other first.row.rowid row.rowid) [
      | inl same ↦ ap (with_row row) (without_head row.rowid first.row rest true same.0) ∙ with_here row rest (behind row.rowid first rows high same.1 h.1)
          ∙ sym (put_there less equal (row ∷ first.row ∷ rest) (row ∷ rest) (first.row ∷ with_row row rest)
          (not_less row.rowid first.row.rowid (at_least row.rowid first.row.rowid (sym same.1))) (equal_is row.rowid first.row.rowid (sym same.1)))
      | inr other ↦ ap (with_row row) (without_head row.rowid first.row rest false other.0) ∙ elim (less_or_not row.rowid first.row.rowid) [
        | inl before ↦ ap (λ (xs : List Entry). with_row row (first.row ∷ xs)) (without_none row.rowid rest (rises_more row.rowid first.row.rowid rows high (lt_le row.rowid first.row.rowid before.1) h.1))
        | inr not ↦ third less equal (row ∷ first.row ∷ others) (row ∷ others) (first.row ∷ with_row row others) not.0 (not_equal row.rowid first.row.rowid other.1)
            ∙ ap (λ (xs : List Entry). first.row ∷ xs) (with_without row first.row.rowid rows high h.1)
            ∙ sym (third less equal (row ∷ first.row ∷ rest) (row ∷ rest) (first.row ∷ with_row row rest) not.0 (not_equal row.rowid first.row.rowid other.1))
      ]
    ]

replaced_there : (rows new : List Entry) (found : Option (List ℕ)) → IsThereAt found → elim found [ None ↦ rows | Some payload ↦ new ] ≡ new
replaced_there rows new None there = absurd (there refl)
replaced_there rows new (Some payload) there = refl

again_by : (rowid : ℤ) (payload : Option (Vec ℕ)) (low : ℤ) (rows : List Held) (high : ℤ) → Rises low rows high → IsThereAt (payload_at rowid (rows_in rows))
    → with_again rowid (record { rowid = rowid; payload = payload } ∷ []) (without_row rowid (rows_in rows)) ≡ with_change (record { rowid = rowid; payload = payload }) (rows_in rows)
again_by rowid None low rows high h there = refl
again_by rowid (Some payload) low rows high h there =
    let row : Entry = record { rowid = rowid; payload = payload.items } in
    with_without row low rows high h ∙ sym (replaced_there (rows_in rows) (with_row row (rows_in rows)) (payload_at rowid (rows_in rows)) there)

changed_again : (rowid : ℤ) (changes : List RowChange) → IsOneChange changes → IsFirst rowid changes → (low : ℤ) (rows : List Held) (high : ℤ) → Rises low rows high → IsThereAt (payload_at rowid (rows_in rows))
    → with_again rowid changes (without_row rowid (rows_in rows)) ≡ with_changes (take 1 changes) (rows_in rows)
changed_again rowid [] alone first low rows high h there = absurd alone
changed_again rowid (change ∷ []) alone first low rows high h there =
    again_by rowid change.payload low rows high h there ∙ ap (λ (z : ℤ). with_change (record { rowid = z; payload = change.payload }) (rows_in rows)) (sym first)
changed_again rowid (change ∷ next ∷ changes) alone first low rows high h there = absurd alone

pub alone_local : (rowid high : ℤ) (changes : List RowChange) → IsOneChange changes → IsFirst rowid changes → rowid ≤ℤ high → IsLocal rowid high (with_changes (take 1 changes))
alone_local rowid high [] alone first upto = absurd alone
alone_local rowid high (change ∷ []) alone first upto =
    changes_local rowid high (change ∷ []) (subst (λ (z : ℤ). (rowid ≤ℤ z) × (z ≤ℤ high)) (sym first) (same_le rowid, upto), tt)
alone_local rowid high (change ∷ next ∷ changes) alone first upto = absurd alone

ids_from : (rows : List Held) → numbers (rows_in rows) ≡ ids_of rows
ids_from [] = refl
ids_from (held ∷ rows) = ap (λ (ids : List ℤ). held.row.rowid ∷ ids) (ids_from rows)

-- ---- the leaf without the row

module _ (old mid : PageMap) (size number ways : ℕ) (rowid low : ℤ) (t : Leaf) (high : ℤ) (free : List ℕ) (under : IsUnder old size number ways rowid zero low t high free)
    (put : IsPut old mid size number zero low high (without_row rowid (rows_of zero t)) (pages_of zero t) free) where
  abbrev others : Leaf
  others = put.tree

  top_moves : Moves old mid (number ∷ below_of zero t) free (number ∷ below_of zero others) put.now_free
  top_moves = subst (λ (n : ℕ). Moves old mid (n ∷ below_of zero t) free (number ∷ below_of zero others) put.now_free) under.top_is
      (subst (λ (n : ℕ). Moves old mid (pages_of zero t) free (n ∷ below_of zero others) put.now_free) put.top_is put.moves)

  past : IsAfter mid size (below_of zero others) put.now_free
  past = after_top old mid size number (below_of zero t) free (below_of zero others) put.now_free under.free_are top_moves put.has
      (subst (λ (n : ℕ). AreUpTo (length old) (n ∷ below_of zero t)) under.top_is (tree_up old size zero t under.lies))
      (subst (λ (m : ℕ). (n : ℕ) → occurs n (m ∷ below_of zero t) + occurs n free ≤ 1) under.top_is under.apart) under.first

  under_mid : IsUnder mid size number ways rowid zero low others high put.now_free
  under_mid = record {
    top_is = put.top_is;
    lies = put.lies;
    sorted = put.sorted;
    above = under.above;
    upto = under.upto;
    shallow = under.shallow;
    apart = once_after old mid size (pages_of zero t) free (pages_of zero others) put.now_free under.free_are put.moves (tree_up old size zero t under.lies) under.apart;
    first = past.first;
    free_are = past.are;
    sized = under.sized;
  }

  absent : payload_at rowid (rows_of zero others) ≡ None
  absent = ap (payload_at rowid) put.rows_are ∙ none_without rowid low t.rows high under.sorted

  place_is : (place : ℕ) → place ≡ below rowid (ids_of t.rows) → place ≡ below rowid (ids_of others.rows)
  place_is place is =
      is ∙ sym (place_without rowid low t.rows high under.sorted) ∙ sym (ap (λ (rows : List Entry). below rowid (numbers rows)) put.rows_are) ∙ ap (below rowid) (ids_from others.rows)

  put_both : (new : PageMap) (rows edited : List Entry) → rows ≡ edited → IsPut mid new size number zero low high rows (pages_of zero others) put.now_free
      → IsPut old new size number zero low high edited (pages_of zero t) free
  put_both new rows edited same q = record {
    tree = q.tree;
    top_is = q.top_is;
    lies = q.lies;
    sorted = q.sorted;
    rows_are = q.rows_are ∙ same;
    now_free = q.now_free;
    has = q.has;
    moves = in_sequence old mid new (pages_of zero t) free (pages_of zero others) put.now_free (pages_of zero q.tree) q.now_free put.moves q.moves;
    header = keeps_then old mid new put.header q.header;
  }

  plan_both : (new : PageMap) (rows edited : List Entry) → rows ≡ edited → (packed : Packed) → IsPlanned mid new size number zero low high rows (below_of zero others) put.now_free packed
      → IsPlanned old new size number zero low high edited (below_of zero t) free packed
  plan_both new rows edited same packed plan = record {
    kids = plan.kids;
    last = plan.last;
    tops = plan.tops;
    divide = plan.divide;
    sorted = plan.sorted;
    rows_are = plan.rows_are ∙ same;
    now_free = plan.now_free;
    has = plan.has;
    moves = in_sequence old mid new (number ∷ below_of zero t) free (number ∷ below_of zero others) put.now_free _ plan.now_free top_moves plan.moves;
    header = keeps_then old mid new put.header plan.header;
    sized = plan.sized;
    front = plan.front;
    few = plan.few;
  }

  both : (new : PageMap) (place : ℕ) (changes : List RowChange) → IsOneChange changes → IsFirst rowid changes → place ≡ below rowid (ids_of t.rows) → IsThereAt (payload_at rowid (rows_of zero t))
      → (result : Result Change Fault) → PutsAgain mid new size number place ways rowid changes result
      → MatchResult result (IsEdited (IsNoRun 1) IsThereAt old new size number ways rowid (with_changes (take 1 changes)) zero low t high free) IsOutsideOrFull
  both new place changes alone first at there result puts = by result (puts low others high put.now_free under_mid absent (place_is place at))
    where
      local : IsLocal rowid high (with_changes (take 1 changes))
      local = alone_local rowid high changes alone first under.upto

      same : with_again rowid changes (rows_of zero others) ≡ with_changes (take 1 changes) (rows_of zero t)
      same = ap (with_again rowid changes) put.rows_are ∙ changed_again rowid changes alone first low t.rows high under.sorted there

      by : (result : Result Change Fault) → MatchResult result (IsPutAgain mid new size number ways rowid changes low others high put.now_free) IsOutsideOrFull
          → MatchResult result (IsEdited (IsNoRun 1) IsThereAt old new size number ways rowid (with_changes (take 1 changes)) zero low t high free) IsOutsideOrFull
      by (Ok Still) is = absurd is
      by (Ok Same) is = (there, local, put_both new _ _ same is)
      by (Ok (Spread packed deep)) is = (there, local, is.0, plan_both new _ _ same packed is.1)
      by (Err fault) refused = refused

-- a row that was taken off is put in again, which is the change
pub step_again : (old mid new : PageMap) (size number ways place : ℕ) (rowid : ℤ) (depth : ℕ) (low : ℤ) (t : Tree depth) (high : ℤ) (free : List ℕ) → IsUnder old size number ways rowid depth low t high free
    → StepsFrom old size number rowid (Ok (Found place)) → (changes : List RowChange) → IsFirst rowid changes → IsStepTaken old mid size number rowid changes depth low t high free true
    → (result : Result Change Fault) → PutsAgain mid new size number place ways rowid changes result
    → MatchResult result (IsEdited (IsNoRun 1) IsThereAt old new size number ways rowid (with_changes (take 1 changes)) depth low t high free) IsOutsideOrFull
step_again old mid new size number ways place rowid zero low t high free under steps changes first taken result puts =
    both old mid size number ways rowid low t high free under taken.1 new place changes taken.0 first (leaf_place old size number ways rowid low t high free under place steps)
    (step_found old size number ways place rowid zero low t high free under steps) result puts
step_again old mid new size number ways place rowid (suc depth) low t high free under steps changes first taken result puts =
    absurd (not_inside old size number ways place rowid depth low t high free under steps)

-- ---- the row that is put in

-- the leaf has the row that the change gives, or gives way
pub again_some : (old new : PageMap) (size number place ways : ℕ) (rowid : ℤ) (changes rest : List RowChange) (change : RowChange) (payload : Vec ℕ) → changes ≡ change ∷ rest → change.payload ≡ Some payload
    → (result : Result (Option Packed) Fault) → PlansLeaf old new size number place (record { rowid = rowid; payload = payload.items }) result
    → (low : ℤ) (t : Leaf) (high : ℤ) (free : List ℕ) → IsUnder old size number ways rowid zero low t high free → payload_at rowid (rows_of zero t) ≡ None → place ≡ below rowid (ids_of t.rows)
    → MatchResult result (λ answer. IsPutAgain old new size number ways rowid changes low t high free (here_change ways answer)) IsOutsideOrFull
again_some old new size number place ways rowid changes rest change payload are some result plans low t high free under absent at = by result (plans ways low t high free under absent at)
  where
    row : Entry
    row = record { rowid = rowid; payload = payload.items }

    same : with_row row (rows_of zero t) ≡ with_again rowid changes (rows_of zero t)
    same = sym (ap (λ (xs : List RowChange). with_again rowid xs (rows_of zero t)) are
        ∙ ap (λ (o : Option (Vec ℕ)). elim o [ None ↦ rows_of zero t | Some payload ↦ with_row (record { rowid = rowid; payload = payload.items }) (rows_of zero t) ]) some)

    by : (result : Result (Option Packed) Fault) → MatchResult result (IsPutOrPlanned old new size number row low t high free) IsOutsideOrFull
        → MatchResult result (λ answer. IsPutAgain old new size number ways rowid changes low t high free (here_change ways answer)) IsOutsideOrFull
    by (Ok None) is = subst (λ (rows : List Entry). IsPut old new size number zero low high rows (pages_of zero t) free) same is
    by (Ok (Some packed)) is = (deep_leaf ways, subst (λ (rows : List Entry). IsPlanned old new size number zero low high rows (below_of zero t) free packed) same is)
    by (Err fault) refused = refused

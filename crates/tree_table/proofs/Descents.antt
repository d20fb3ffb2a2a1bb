-- The way to a rowid, from a page of a tree on.
use Rattle.std.proofs.Common.{◌≡◌, ◌≤◌, ◌<◌, ℕ, zero, suc, ℤ, pos, Bool, true, false, nat_eq, length, slice_index_or, IsTrue, List, [], ◌∷◌, map, take, Option, None, Some, refl, sym, ap, subst, ◌∙◌, inl, arith}
use Rattle.std.proofs.lemmas.Grind.{common_steps}
use Rattle.std.specs.Prelude.{Result, Ok, Err, MatchResult}
use Rattle.sqlval.specs.declared.fault.Fault.{Fault}
use Rattle.sqlval.specs.Faults.{IsOutside}
use Rattle.tree_leaf.specs.Leaf.{Entry}
use Rattle.pages.specs.Calls.{Limits, IsOutsideOrFull}
use Rattle.pages.specs.Map.{PageMap}
use Rattle.tree_page.specs.Node.{Local, Rows, Keys}
use Rattle.tree_page.specs.Reading.{NeverFall, below}
use Rattle.tree_pack.specs.declared.spreading.Packed.{Packed}
use Rattle.tree_store.specs.Saying.{Says}
use Rattle.tree_store.specs.Sides.{children, Parted}
use Rattle.tree_table.specs.Growing.{below_of, IsUnder, IsEdited, IsPlanned, Edits, IsChanged, IsThereAt, IsDeep, IsWidened, PlansLeaf, Widens}
use Rattle.tree_table.specs.Rows.{payload_at, with_row, with_changes, IsLocal}
use Rattle.tree_table.specs.Runs.{IsFirst, IsNoRun, ChangesLeaf}
use Rattle.tree_table.specs.Stepping.{HasRowid, IsStep, StepsFrom, child_at}
use Rattle.tree_table.specs.Tree.{Held, Tree, top, rows_of, Rises, IsSorted}
use Rattle.tree_table.specs.declared.changing.RowChange.{RowChange}
use Rattle.tree_table.specs.declared.descending.Step.{Step}
use Rattle.tree_table.specs.declared.descending.Step.TheVariants.{Found, Here, Down}
use Rattle.tree_table.specs.declared.growing.Change.{Change}
use Rattle.tree_table.specs.declared.growing.Change.TheVariants.{Still, Same, Spread}
use Rattle.tree_table.proofs.Holes.{Kids, keys_of}
use Rattle.tree_table.proofs.Locals.{local_wider, same_le, with_local}
use Rattle.tree_table.proofs.LeafRows.{said_there, said_counted}
use Rattle.tree_table.proofs.Orders.{ids_of, lt_le, found_there, not_there, same_ids, sorted_le}
use Rattle.tree_table.proofs.Widening.{child_refused, above_still, above_same, acts_above}

-- ---- the numbers of a page

pub ids_rise : (low : ℤ) (rows : List Held) (high : ℤ) → Rises low rows high → NeverFall (ids_of rows)
ids_rise low [] high h = tt
ids_rise low (a ∷ []) high h = tt
ids_rise low (a ∷ b ∷ rows) high h = (lt_le a.row.rowid b.row.rowid h.1.0, ids_rise a.row.rowid (b ∷ rows) high h.1)

keys_rise : (depth : ℕ) (low : ℤ) (kids : Kids depth) (last : Tree depth) (high : ℤ) → Parted (IsSorted depth) low kids last high → NeverFall (keys_of kids)
keys_rise depth low [] last high h = tt
keys_rise depth low (a ∷ []) last high h = tt
keys_rise depth low (a ∷ b ∷ kids) last high h = (sorted_le depth a.1 b.0 b.1 h.1.0, keys_rise depth a.1 (b ∷ kids) last high h.1)

keys_shown : (depth : ℕ) (kids : Kids depth) → map (λ (kid : ℕ × ℤ). kid.1) (children (top depth) kids) ≡ keys_of kids
keys_shown depth [] = refl
keys_shown depth (kid ∷ kids) = ap (λ (keys : List ℤ). kid.1 ∷ keys) (keys_shown depth kids)

-- ---- a leaf

module _ (old : PageMap) (size number ways : ℕ) (rowid : ℤ) (low : ℤ) (t : Tree zero) (high : ℤ) (free : List ℕ) (under : IsUnder old size number ways rowid zero low t high free) where
  abbrev leaf_said : List (ℤ × Local)
  leaf_said = (under.lies).said

  leaf_ids : map (λ (said : ℤ × Local). said.0) leaf_said ≡ ids_of t.rows
  leaf_ids = same_ids old size leaf_said t.rows (under.lies).rows

  leaf_step : (result : Result Step Fault) → StepsFrom old size number rowid result → MatchResult result (IsStep rowid (Rows leaf_said)) IsOutside
  leaf_step result steps =
      steps (Rows leaf_said) (map (λ (said : ℤ × Local). said.0) leaf_said) (under.free_are).whole (subst (λ (n : ℕ). Says old n (Rows leaf_said)) under.top_is (under.lies).says) refl
      (subst (λ (ids : List ℤ). NeverFall ids) (sym leaf_ids) (ids_rise low t.rows high under.sorted))

  leaf_found : (place : ℕ) → StepsFrom old size number rowid (Ok (Found place)) → payload_at rowid (rows_of zero t) ≡ None → ⊥
  leaf_found place steps =
      let is = leaf_step (Ok (Found place)) steps in
      found_there old size rowid leaf_said t.rows (under.lies).rows (subst (λ (n : ℕ). HasRowid rowid leaf_said n) is.0 is.1)

  pub leaf_place : (place : ℕ) → StepsFrom old size number rowid (Ok (Found place)) → place ≡ below rowid (ids_of t.rows)
  leaf_place place steps = (leaf_step (Ok (Found place)) steps).0 ∙ ap (below rowid) leaf_ids

  leaf_here : (place : ℕ) → StepsFrom old size number rowid (Ok (Here place)) → (payload_at rowid (rows_of zero t) ≡ None) × (place ≡ below rowid (ids_of t.rows))
  leaf_here place steps =
      let is = leaf_step (Ok (Here place)) steps in (
        not_there old size rowid low leaf_said t.rows high (under.lies).rows under.sorted (λ has. is.1 (subst (λ (n : ℕ). HasRowid rowid leaf_said n) (sym is.0) has)),
        is.0 ∙ ap (below rowid) leaf_ids,
      )

module _ (old : PageMap) (size number ways : ℕ) (rowid : ℤ) (depth : ℕ) (low : ℤ) (t : Tree (suc depth)) (high : ℤ) (free : List ℕ)
    (under : IsUnder old size number ways rowid (suc depth) low t high free) where
  inner_step : (result : Result Step Fault) → StepsFrom old size number rowid result → MatchResult result (IsStep rowid (Keys (children (top depth) t.kids) (top depth t.last))) IsOutside
  inner_step result steps =
      steps (Keys (children (top depth) t.kids) (top depth t.last)) (map (λ (kid : ℕ × ℤ). kid.1) (children (top depth) t.kids)) (under.free_are).whole
      (subst (λ (n : ℕ). Says old n (Keys (children (top depth) t.kids) (top depth t.last))) under.top_is (under.lies).0) refl
      (subst (λ (keys : List ℤ). NeverFall keys) (sym (keys_shown depth t.kids)) (keys_rise depth low t.kids t.last high under.sorted))

  inner_down : (place child : ℕ) → StepsFrom old size number rowid (Ok (Down place child))
      → (place ≡ below rowid (keys_of t.kids)) × (child ≡ child_at place (children (top depth) t.kids) (top depth t.last))
  inner_down place child steps = (let is = inner_step (Ok (Down place child)) steps in (is.0 ∙ ap (below rowid) (keys_shown depth t.kids), is.1))

-- ---- what the code does next

pub step_refused : (old : PageMap) (size number ways : ℕ) (rowid : ℤ) (depth : ℕ) (low : ℤ) (t : Tree depth) (high : ℤ) (free : List ℕ) → IsUnder old size number ways rowid depth low t high free
    → (fault : Fault) → StepsFrom old size number rowid (Err fault) → IsOutsideOrFull fault
step_refused old size number ways rowid zero low t high free under fault steps = inl (leaf_step old size number ways rowid low t high free under (Err fault) steps)
step_refused old size number ways rowid (suc depth) low t high free under fault steps = inl (inner_step old size number ways rowid depth low t high free under (Err fault) steps)

pub step_found : (old : PageMap) (size number ways place : ℕ) (rowid : ℤ) (depth : ℕ) (low : ℤ) (t : Tree depth) (high : ℤ) (free : List ℕ) → IsUnder old size number ways rowid depth low t high free
    → StepsFrom old size number rowid (Ok (Found place)) → payload_at rowid (rows_of depth t) ≡ None → ⊥
step_found old size number ways place rowid zero low t high free under steps = leaf_found old size number ways rowid low t high free under place steps
step_found old size number ways place rowid (suc depth) low t high free under steps = absurd (inner_step old size number ways rowid depth low t high free under (Ok (Found place)) steps)

is_zero : (n : ℕ) → nat_eq n 0 ≡ true → n ≤ 0
is_zero n e = grind (arith, common_steps)

is_more : (n : ℕ) → nat_eq n 0 ≡ false → 0 < n
is_more n e = grind (arith, common_steps)

pub deep_leaf : (ways : ℕ) → IsDeep ways zero (nat_eq ways 0)
deep_leaf ways = record { full = λ e. is_zero ways e; short = λ e. is_more ways e }

-- what becomes of the leaf
abbrev pub here_change : ℕ → Option Packed → Change
here_change ways None = Same
here_change ways (Some packed) = Spread packed (nat_eq ways 0)

pub step_here : (old new : PageMap) (size number ways place : ℕ) (row : Entry) (depth : ℕ) (low : ℤ) (t : Tree depth) (high : ℤ) (free : List ℕ) → IsUnder old size number ways row.rowid depth low t high free
    → StepsFrom old size number row.rowid (Ok (Here place)) → (result : Result (Option Packed) Fault) → PlansLeaf old new size number place row result
    → MatchResult result (λ answer. IsChanged old new size number ways row depth low t high free (here_change ways answer)) IsOutsideOrFull
step_here old new size number ways place row zero low t high free under steps result plans = by result plans
  where
    is : (payload_at row.rowid (rows_of zero t) ≡ None) × (place ≡ below row.rowid (ids_of t.rows))
    is = leaf_here old size number ways row.rowid low t high free under place steps

    by : (result : Result (Option Packed) Fault) → PlansLeaf old new size number place row result
        → MatchResult result (λ answer. IsChanged old new size number ways row zero low t high free (here_change ways answer)) IsOutsideOrFull
    by (Ok None) plans = (is.0, local_wider row.rowid row.rowid row.rowid high (with_row row) (same_le row.rowid) under.upto (with_local row), plans ways low t high free under is.0 is.1)
    by (Ok (Some packed)) plans = (is.0, local_wider row.rowid row.rowid row.rowid high (with_row row) (same_le row.rowid) under.upto (with_local row), deep_leaf ways, plans ways low t high free under is.0 is.1)
    by (Err fault) plans = plans ways low t high free under is.0 is.1
step_here old new size number ways place row (suc depth) low t high free under steps result plans = absurd (inner_step old size number ways row.rowid depth low t high free under (Ok (Here place)) steps)

-- where the row is there, it is the leaf's one at this place
pub leaf_at : (old : PageMap) (size number ways : ℕ) (rowid low : ℤ) (t : Tree zero) (high : ℤ) (free : List ℕ) → IsUnder old size number ways rowid zero low t high free
    → (place : ℕ) → StepsFrom old size number rowid (Ok (Found place)) → (place < length t.rows) × ((d : Held) → (slice_index_or t.rows place d).row.rowid ≡ rowid)
leaf_at old size number ways rowid low t high free under place steps =
    let said = (under.lies).said in
    let item : ℤ × Local = (pos 0, record { size = 0; bytes = [] }) in
    let has = (leaf_step old size number ways rowid low t high free under (Ok (Found place)) steps).1 in
    let lt : place < length t.rows = (let within = has.within in let e = said_counted old size said t.rows (under.lies).rows in omega (arith, within, e)) in
    (lt, λ d. sym ((said_there old size said t.rows place item d (under.lies).rows lt).1.rowid) ∙ has.same item)

-- an interior page has none
pub not_inside : (old : PageMap) (size number ways place : ℕ) (rowid : ℤ) (depth : ℕ) (low : ℤ) (t : Tree (suc depth)) (high : ℤ) (free : List ℕ)
    → IsUnder old size number ways rowid (suc depth) low t high free → StepsFrom old size number rowid (Ok (Found place)) → ⊥
not_inside old size number ways place rowid depth low t high free under steps = inner_step old size number ways rowid depth low t high free under (Ok (Found place)) steps

-- and the leaf gives way to packed pages
pub step_cut : (old new : PageMap) (size number ways place : ℕ) (rowid : ℤ) (depth : ℕ) (low : ℤ) (t : Tree depth) (high : ℤ) (free : List ℕ) → IsUnder old size number ways rowid depth low t high free
    → StepsFrom old size number rowid (Ok (Found place)) → (changes : List RowChange) → IsFirst rowid changes → (result : Result (ℕ × Packed) Fault) → ChangesLeaf old new size number place changes result
    → MatchResult result (λ done. IsEdited (IsNoRun done.0) IsThereAt old new size number ways rowid (with_changes (take done.0 changes)) depth low t high free (Spread done.1 (nat_eq ways 0))) IsOutsideOrFull
step_cut old new size number ways place rowid zero low t high free under steps changes first result cuts =
    let at = leaf_at old size number ways rowid low t high free under place steps in
    by result (cuts ways rowid low t high free under first at.0 at.1)
  where
    by : (result : Result (ℕ × Packed) Fault)
        → MatchResult result (λ done. IsLocal rowid high (with_changes (take done.0 changes))
        × IsPlanned old new size number 0 low high (with_changes (take done.0 changes) (rows_of 0 t)) (below_of 0 t) free done.1) IsOutsideOrFull
        → MatchResult result (λ done. IsEdited (IsNoRun done.0) IsThereAt old new size number ways rowid (with_changes (take done.0 changes)) zero low t high free (Spread done.1 (nat_eq ways 0))) IsOutsideOrFull
    by (Ok (count, packed)) cut = (leaf_found old size number ways rowid low t high free under place steps, cut.0, deep_leaf ways, cut.1)
    by (Err fault) outside = outside
step_cut old new size number ways place rowid (suc depth) low t high free under steps changes first result cuts = absurd (not_inside old size number ways place rowid depth low t high free under steps)

-- and where it isn't, there is none
pub step_none : (old : PageMap) (size number ways place : ℕ) (rowid : ℤ) (depth : ℕ) (low : ℤ) (t : Tree depth) (high : ℤ) (free : List ℕ) → IsUnder old size number ways rowid depth low t high free
    → StepsFrom old size number rowid (Ok (Here place)) → payload_at rowid (rows_of depth t) ≡ None
step_none old size number ways place rowid zero low t high free under steps = (leaf_here old size number ways rowid low t high free under place steps).0
step_none old size number ways place rowid (suc depth) low t high free under steps = absurd (inner_step old size number ways rowid depth low t high free under (Ok (Here place)) steps)

pub down_deep : (old : PageMap) (size number ways place child : ℕ) (rowid : ℤ) (depth : ℕ) (low : ℤ) (t : Tree depth) (high : ℤ) (free : List ℕ) → IsUnder old size number ways rowid depth low t high free
    → StepsFrom old size number rowid (Ok (Down place child)) → ways ≡ 0 → ⊥
down_deep old size number ways place child rowid zero low t high free under steps none = leaf_step old size number ways rowid low t high free under (Ok (Down place child)) steps
down_deep old size number ways place child rowid (suc depth) low t high free under steps none = (let le = under.shallow in omega (arith, le, none))

-- what becomes of the child decides
module _ (old mid : PageMap) (size number fewer place child : ℕ) (rowid : ℤ) (edit : List Entry → List Entry) (Skips Acts : Option (List ℕ) → Type 0) where
  abbrev Under : (depth : ℕ) → ℤ → Tree depth → ℤ → List ℕ → Type 0
  Under depth low t high free = IsUnder old size number (suc fewer) rowid depth low t high free

  pub down : (depth : ℕ) (low : ℤ) (t : Tree depth) (high : ℤ) (free : List ℕ) → Under depth low t high free
      → StepsFrom old size number rowid (Ok (Down place child)) → (result : Result Change Fault) → Edits Skips Acts old mid size child fewer rowid edit result
      → MatchResult result (λ change. ((packed : Packed) (deep : Bool) → change ≡ Spread packed deep → ⊥) → IsEdited Skips Acts old mid size number (suc fewer) rowid edit depth low t high free change) IsOutsideOrFull
  down zero low t high free under steps result changes = absurd (leaf_step old size number (suc fewer) rowid low t high free under (Ok (Down place child)) steps)
  down (suc depth) low t high free under steps result changes = by result changes
    where
      is : (place ≡ below rowid (keys_of t.kids)) × (child ≡ child_at place (children (top depth) t.kids) (top depth t.last))
      is = inner_down old size number (suc fewer) rowid depth low t high free under place child steps

      by : (result : Result Change Fault) → Edits Skips Acts old mid size child fewer rowid edit result
          → MatchResult result (λ change. ((packed : Packed) (deep : Bool) → change ≡ Spread packed deep → ⊥) → IsEdited Skips Acts old mid size number (suc fewer) rowid edit (suc depth) low t high free change) IsOutsideOrFull
      by (Ok Still) changes = λ not. above_still old size number fewer rowid edit depth low t high free under place child is.0 is.1 Skips Acts mid changes
      by (Ok Same) changes = λ not. above_same old size number fewer rowid edit depth low t high free under place child is.0 is.1 Skips Acts mid changes
      by (Ok (Spread packed deep)) changes = λ not. absurd (not packed deep refl)
      by (Err fault) changes = child_refused old size number fewer rowid edit depth low t high free under place child is.0 is.1 Skips Acts mid fault changes

  -- where the child gives way to packed pages, what becomes of the page above is so
  pub down_spread : (new : PageMap) (depth : ℕ) (low : ℤ) (t : Tree depth) (high : ℤ) (free : List ℕ) → Under depth low t high free
      → StepsFrom old size number rowid (Ok (Down place child)) → (packed : Packed) (deep : Bool) → Edits Skips Acts old mid size child fewer rowid edit (Ok (Spread packed deep))
      → (result : Result Change Fault) → Widens mid new size number place child packed deep result
      → MatchResult result (IsEdited Skips Acts old new size number (suc fewer) rowid edit depth low t high free) IsOutsideOrFull
  down_spread new zero low t high free under steps packed deep changes result widens =
      absurd (leaf_step old size number (suc fewer) rowid low t high free under (Ok (Down place child)) steps)
  down_spread new (suc depth) low t high free under steps packed deep changes result widens =
      let is = inner_down old size number (suc fewer) rowid depth low t high free under place child steps in
      by result (acts_above old size number fewer rowid edit depth low t high free under place child is.0 is.1 Skips Acts mid packed deep changes)
      (widens old fewer rowid edit depth low t high free under is.0 is.1 (λ depth low t high free under. (let c = changes depth low t high free under in (c.1, c.2, c.3))))
    where
      by : (result : Result Change Fault) → Acts (payload_at rowid (rows_of (suc depth) t)) × IsLocal rowid high edit → MatchResult result (IsWidened old new size number (suc fewer) edit (suc depth) low t high free) IsOutsideOrFull
          → MatchResult result (IsEdited Skips Acts old new size number (suc fewer) rowid edit (suc depth) low t high free) IsOutsideOrFull
      by (Ok Still) acts is = absurd is
      by (Ok Same) acts is = (acts.0, acts.1, is.0)
      by (Ok (Spread packed deep)) acts is = (acts.0, acts.1, is.0, is.1)
      by (Err fault) acts is = is

-- ---- since the first call

pub since : {P K : Type 0} (below' : P → K) (tells : K → Bool) (limits : K → Limits) (map' : P → PageMap) (old mid : P) (F : PageMap → ℕ → Type 0) → below' mid ≡ below' old → map' mid ≡ map' old
    → (IsTrue (tells (below' mid)) → F (map' mid) (limits (below' mid)).page) → IsTrue (tells (below' old)) → F (map' old) (limits (below' old)).page
since {P} {K} below' tells limits map' old mid F kept same is told =
    subst (λ (m : PageMap). F m (limits (below' old)).page) same
    (subst (λ (k : K). F (map' mid) (limits k).page) kept (is (subst (λ (k : K). IsTrue (tells k)) (sym kept) told)))

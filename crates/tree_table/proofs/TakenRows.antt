-- A row is taken off its leaf, where it lies.
use Rattle.std.proofs.Common.{◌≡◌, ◌≤◌, ◌<◌, ◌+◌, ◌-◌, ℕ, zero, suc, ℤ, Bool, true, false, List, [], ◌∷◌, ◌++◌, length, take, drop, slice_index_or, None, refl, sym, ap, subst, ◌∙◌, inl, arith}
use Rattle.std.specs.Prelude.{All, Result, Ok, Err, MatchResult}
use Rattle.sqlval.specs.declared.fault.Fault.{Fault}
use Rattle.sqlval.specs.Faults.{IsOutside}
use Rattle.pages.specs.Calls.{IsOutsideOrFull}
use Rattle.pages.specs.Counting.{occurs, start_of}
use Rattle.pages.specs.Map.{PageMap, page_at, IsThere}
use Rattle.tree_page.specs.Cells.{Pairwise}
use Rattle.tree_page.specs.Node.{Local, Rows, IsNode, IsRowCell, Say}
use Rattle.tree_page.specs.Payload.{table_most}
use Rattle.tree_page.proofs.HeaderLemmas.{same_length}
use Rattle.tree_pack.specs.Splicing.{spliced}
use Rattle.tree_pack.proofs.Splices.{pairwise_spliced}
use Rattle.tree_store.specs.Saying.{Says}
use Rattle.tree_store.specs.Storing.{IsPlacedOn, TakesOff}
use Rattle.tree_table.specs.Growing.{IsPut, IsUnder}
use Rattle.tree_table.specs.Rows.{without_row}
use Rattle.tree_table.specs.Runs.{IsOneChange, IsTakenOff, TakesRow, none_held}
use Rattle.tree_table.specs.Stepping.{StepsFrom}
use Rattle.tree_table.specs.Tree.{Held, IsHeldAs, Leaf, Rises, Tree, pages_of, rows_of}
use Rattle.tree_table.specs.declared.changing.RowChange.{RowChange}
use Rattle.tree_table.specs.declared.descending.Step.TheVariants.{Found}
use Rattle.tree_table.proofs.Descents.{leaf_at, not_inside}
use Rattle.tree_table.proofs.Few.{large_size}
use Rattle.tree_table.proofs.Givings.{chain_of}
use Rattle.tree_table.proofs.Leaves.{chains_of}
use Rattle.tree_table.proofs.Orders.{rows_in}
use Rattle.tree_table.proofs.PutLeaf.{leaf_put, unfree}
use Rattle.tree_table.proofs.RunFrees.{item, none_go_on}
use Rattle.tree_table.proofs.RunLists.{kept_pages}
use Rattle.tree_table.proofs.RunRows.{IsRunOf, run_rises, rises_exchanged, rows_exchanged}

-- ---- the list without the item at a place

cut_plain : {A : Type 0} (place : ℕ) (xs : List A) → take (place - 0) xs ++ drop (suc place) xs ≡ spliced place 1 [] xs
cut_plain {A} place xs =
    let plain : place - 0 ≡ place = omega arith in
    let next : suc place ≡ place + 1 = omega arith in
    ap (λ (n : ℕ). take n xs ++ drop (suc place) xs) plain ∙ ap (λ (n : ℕ). take place xs ++ drop n xs) next

module _ (old : PageMap) (size number ways : ℕ) (rowid low : ℤ) (t : Leaf) (high : ℤ) (free : List ℕ) (under : IsUnder old size number ways rowid zero low t high free)
    (place : ℕ) (lt : place < length t.rows) (same : (d : Held) → (slice_index_or t.rows place d).row.rowid ≡ rowid) where
  abbrev said : List (ℤ × Local)
  said = (under.lies).said

  abbrev new_said : List (ℤ × Local)
  new_said = spliced place 1 [] said

  abbrev others : List Held
  others = spliced place 1 [] t.rows

  -- the removal, as a run of one
  abbrev removed : RowChange
  removed = record { rowid = rowid; payload = None }

  run : IsRunOf 0 t.rows (removed ∷ []) (place ∷ [])
  run = (omega arith, lt, same none_held, tt)

  pub says : Says old number (Rows said)
  says = subst (λ (n : ℕ). Says old n (Rows said)) under.top_is (under.lies).says

  pub taken_there : IsThere old size number
  taken_there = record { has = says.has; whole = (under.free_are).whole number says.has }

  long : length (page_at old number) ≡ size
  long = taken_there.whole

  pub node : IsNode (page_at old number) (start_of number) (Rows said)
  node = says.node_is

  pub within : place < length node.cells
  within =
      let count = same_length (IsRowCell (length (page_at old number))) node.cells said node.say ∙ same_length (IsHeldAs old size) said t.rows (under.lies).rows in
      omega (arith, lt, count)

  held_rows : Pairwise (IsHeldAs old size) new_said others
  held_rows = pairwise_spliced (IsHeldAs old size) place 1 said [] t.rows [] (under.lies).rows tt

  say : Say size (spliced place 1 [] node.cells) (Rows new_said)
  say = subst (λ (n : ℕ). Pairwise (IsRowCell n) (spliced place 1 [] node.cells) new_said) long
      (pairwise_spliced (IsRowCell (length (page_at old number))) place 1 node.cells [] said [] node.say tt)

  -- ---- the rows that are left

  sorted : Rises low others high
  sorted = subst (λ (xs : List Held). Rises low xs high) (cut_plain place t.rows)
      (rises_exchanged t.rows high 0 (removed ∷ []) (place ∷ []) ([] ∷ []) low refl under.sorted run refl)

  rows_are : rows_in others ≡ without_row rowid (rows_of zero t)
  rows_are = ap rows_in (sym (cut_plain place t.rows)) ∙ rows_exchanged t.rows high 0 (removed ∷ []) (place ∷ []) ([] ∷ []) low refl under.sorted run refl

  -- ---- their pages, where the row lies whole on the leaf

  abbrev IsShort : Type 0
  IsShort = All (λ (n : ℕ). n < length said → (slice_index_or said n item).1.size ≤ table_most size) (place ∷ [])

  -- what the page's bytes tell of the row
  pub short_row : (bytes : List ℕ) (most : ℕ) → bytes ≡ page_at old number → most ≡ table_most size
      → ((said : List (ℤ × Local)) (d : ℤ × Local) → IsNode bytes (start_of number) (Rows said) → All (λ n. n < length said → (slice_index_or said n d).1.size ≤ most) (place ∷ []))
      → IsShort
  short_row bytes most read is short =
      subst (λ (m : ℕ). All (λ n. n < length said → (slice_index_or said n item).1.size ≤ m) (place ∷ [])) is
      (short said item (subst (λ (them : List ℕ). IsNode them (start_of number) (Rows said)) (sym read) node))

  module _ (short : IsShort) where
    chains_same : (n : ℕ) → occurs n (chains_of others) ≡ occurs n (chains_of t.rows)
    chains_same n =
        let rise = run_rises 0 t.rows (removed ∷ []) (place ∷ []) run in
        let whole = kept_pages chain_of n 0 (place ∷ []) t.rows none_held rise in
        let none = ap (occurs n) (none_go_on old size number ways rowid low t high free under (place ∷ []) rise 0 (place ∷ []) rise short) in
        let e = ap (λ (xs : List Held). occurs n (chains_of xs)) (cut_plain place t.rows) in
        omega (arith, whole, none, e)

    -- the leaf's page has the others now
    taken_put : (new : PageMap) → IsPlacedOn old new size free number (spliced place 1 [] node.cells) (Rows new_said) true
        → IsPut old new size number zero low high (without_row rowid (rows_of zero t)) (pages_of zero t) free
    taken_put new (image, placed, rewritten) =
        leaf_put old size number ways rowid low t high free under others chains_same new_said (without_row rowid (rows_of zero t)) held_rows sorted rows_are new image placed.is rewritten

    pub row_taken : (changes : List RowChange) → IsOneChange changes → (new : PageMap) (result : Result Bool Fault) → TakesOff old new size number place result
        → MatchResult result (IsTakenOff old new size number rowid changes low t high free) IsOutside
    row_taken changes alone new result takes =
        by result (takes free under.free_are says.has (unfree old size number ways rowid low t high free under others chains_same) (Rows said) (Rows new_said) node (large_size size under.sized).0 (large_size size under.sized).1 within refl refl say)
      where
        by : (result : Result Bool Fault)
            → MatchResult result (λ taken. IsPlacedOn old new size free number (spliced place 1 [] node.cells) (Rows new_said) taken × (taken ≡ true → 2 ≤ length node.cells)) IsOutside
            → MatchResult result (IsTakenOff old new size number rowid changes low t high free) IsOutside
        by (Ok true) is = (alone, taken_put new is.0)
        by (Ok false) is = is.0
        by (Err fault) outside = outside

-- ---- the tree

-- The row was taken off its leaf, or nothing has changed.
abbrev pub IsStepTaken : PageMap → PageMap → ℕ → ℕ → ℤ → List RowChange → (depth : ℕ) → ℤ → Tree depth → ℤ → List ℕ → Bool → Type 0
IsStepTaken old new size number rowid changes depth low t high free true = IsOneChange changes × IsPut old new size number depth low high (without_row rowid (rows_of depth t)) (pages_of depth t) free
IsStepTaken old new size number rowid changes depth low t high free false = new ≡ old

pub step_taken : (old new : PageMap) (size number ways place : ℕ) (rowid : ℤ) (depth : ℕ) (low : ℤ) (t : Tree depth) (high : ℤ) (free : List ℕ) → IsUnder old size number ways rowid depth low t high free
    → StepsFrom old size number rowid (Ok (Found place)) → (changes : List RowChange) → (result : Result Bool Fault) → TakesRow old new size number place changes result
    → MatchResult result (IsStepTaken old new size number rowid changes depth low t high free) IsOutsideOrFull
step_taken old new size number ways place rowid zero low t high free under steps changes result takes =
    let at = leaf_at old size number ways rowid low t high free under place steps in
    by result (takes ways rowid low t high free under at.0 at.1)
  where
    by : (result : Result Bool Fault) → MatchResult result (IsTakenOff old new size number rowid changes low t high free) IsOutside
        → MatchResult result (IsStepTaken old new size number rowid changes zero low t high free) IsOutsideOrFull
    by (Ok true) is = is
    by (Ok false) is = is
    by (Err fault) outside = inl outside
step_taken old new size number ways place rowid (suc depth) low t high free under steps changes result takes =
    absurd (not_inside old size number ways place rowid depth low t high free under steps)

-- A row gets another payload where the one before lies.
use Rattle.std.proofs.Common.{◌≡◌, ◌≤◌, ◌<◌, ◌-◌, ℕ, zero, suc, ℤ, Bool, true, false, List, [], ◌∷◌, ◌++◌, length, take, drop, slice_index_or, Some, refl, sym, ap, subst, ◌∙◌, inl, arith}
use Rattle.std.proofs.lemmas.List.{set_split}
use Rattle.std.specs.Global.{Vec}
use Rattle.std.specs.Prelude.{All, Result, Ok, Err, MatchResult, slice_set}
use Rattle.sqlval.specs.declared.fault.Fault.{Fault}
use Rattle.sqlval.specs.Faults.{IsOutside}
use Rattle.pages.specs.Calls.{IsOutsideOrFull}
use Rattle.pages.specs.Counting.{occurs, start_of}
use Rattle.pages.specs.Map.{PageMap, page_at}
use Rattle.tree_leaf.specs.Leaf.{Entry}
use Rattle.tree_page.specs.Cells.{Pairwise}
use Rattle.tree_page.specs.Node.{Local, Rows, IsNode}
use Rattle.tree_page.specs.Payload.{table_most}
use Rattle.tree_pack.specs.Rewriting as rewriting
use Rattle.tree_pack.specs.Rewriting.{whole}
use Rattle.tree_pack.proofs.RewritingLemmas.{pairs_set}
use Rattle.tree_store.specs.Storing.{IsRewritten, IsRewrittenOn, RewritesOn}
use Rattle.tree_table.specs.Growing.{IsEdited, IsPut, IsThereAt, IsUnder}
use Rattle.tree_table.specs.Rows.{with_changes}
use Rattle.tree_table.specs.Runs.{AreRising, IsFirst, IsNoRun, IsOneChange, IsRowRewritten, NewRow, RewritesRow, entry_for, none_held}
use Rattle.tree_table.specs.Stepping.{StepsFrom}
use Rattle.tree_table.specs.Tree.{Held, IsHeldAs, Leaf, Rises, Tree, pages_of, rows_of}
use Rattle.tree_table.specs.declared.changing.RowChange.{RowChange}
use Rattle.tree_table.specs.declared.descending.Step.TheVariants.{Found}
use Rattle.tree_table.specs.declared.growing.Change.TheVariants.{Same}
use Rattle.tree_table.proofs.ComingAgain.{alone_local}
use Rattle.tree_table.proofs.Descents.{leaf_at, not_inside, step_found}
use Rattle.tree_table.proofs.Givings.{chain_of}
use Rattle.tree_table.proofs.LeafRows.{said_there}
use Rattle.tree_table.proofs.Leaves.{chains_of}
use Rattle.tree_table.proofs.NewCells.{some_by, whole_is}
use Rattle.tree_table.proofs.Orders.{rows_in}
use Rattle.tree_table.proofs.PutLeaf.{leaf_put, unfree}
use Rattle.tree_table.proofs.RewrittenLeaves.{all_of_each}
use Rattle.tree_table.proofs.RunFrees.{item, none_go_on}
use Rattle.tree_table.proofs.RunLists.{kept_pages, new_pages}
use Rattle.tree_table.proofs.RunRows.{IsRunOf, run_rises, rises_exchanged, rows_exchanged}
use Rattle.tree_table.proofs.TakenRows.{node, says, taken_there, within}

-- ---- the list with another item at a place

set_plain : {A : Type 0} (place : ℕ) (xs : List A) (x : A) → place < length xs → take (place - 0) xs ++ (x ∷ drop (suc place) xs) ≡ slice_set xs place x
set_plain {A} place xs x lt = (let plain : place - 0 ≡ place = omega arith in ap (λ (n : ℕ). take n xs ++ (x ∷ drop (suc place) xs)) plain ∙ sym (set_split xs place x lt))

module _ (old : PageMap) (size number ways : ℕ) (rowid low : ℤ) (t : Leaf) (high : ℤ) (free : List ℕ) (under : IsUnder old size number ways rowid zero low t high free)
    (place : ℕ) (lt : place < length t.rows) (same : (d : Held) → (slice_index_or t.rows place d).row.rowid ≡ rowid)
    (change : RowChange) (first : change.rowid ≡ rowid) (payload : Vec ℕ) (some : change.payload ≡ Some payload) where
  abbrev said : List (ℤ × Local)
  said = (under.lies).said

  abbrev leaf : IsNode (page_at old number) (start_of number) (Rows said)
  leaf = node old size number ways rowid low t high free under place lt same

  long : length (page_at old number) ≡ size
  long = (taken_there old size number ways rowid low t high free under place lt same).whole

  abbrev row : Held
  row = record { row = record { rowid = change.rowid; payload = payload.items }; pages = [] }

  abbrev news : List NewRow
  news = record { cell = []; said = (change.rowid, whole payload.items); held = row } ∷ []

  abbrev others : List Held
  others = slice_set t.rows place row

  run : IsRunOf 0 t.rows (change ∷ []) (place ∷ [])
  run = (omega arith, lt, same none_held ∙ sym first, tt)

  rise : AreRising 0 (length t.rows) (place ∷ [])
  rise = run_rises 0 t.rows (change ∷ []) (place ∷ []) run

  entries_are : (row.row ∷ []) ∷ [] ≡ entry_for change ∷ []
  entries_are = ap (λ (one : List Entry). one ∷ []) (sym (some_by change.rowid change.payload payload some))

  sorted : Rises low others high
  sorted = subst (λ (xs : List Held). Rises low xs high) (set_plain place t.rows row lt)
      (rises_exchanged t.rows high 0 (change ∷ []) (place ∷ []) (news ∷ []) low refl under.sorted run entries_are)

  rows_are : rows_in others ≡ with_changes (change ∷ []) (rows_of zero t)
  rows_are = ap rows_in (sym (set_plain place t.rows row lt)) ∙ rows_exchanged t.rows high 0 (change ∷ []) (place ∷ []) (news ∷ []) low refl under.sorted run entries_are

  module _ (image : List ℕ) (now : rewriting.IsRewritten (page_at old number) (start_of number) said leaf place payload.items image) where
    short : length payload.items ≤ table_most size
    short = (let le = now.short in let e = long in omega (arith, le, e))

    rowid_is : now.row.0 ≡ change.rowid
    rowid_is =
        let there = said_there old size said t.rows place item none_held (under.lies).rows lt in
        sym (ap (λ (one : ℤ × Local). one.0) (now.row_is item)) ∙ there.1.rowid ∙ same none_held ∙ sym first

    abbrev new_said : List (ℤ × Local)
    new_said = slice_set said place (change.rowid, whole payload.items)

    says_new : IsNode image (start_of number) (Rows new_said)
    says_new = subst (λ (z : ℤ). IsNode image (start_of number) (Rows (slice_set said place (z, whole payload.items)))) rowid_is now.now

    held_rows : Pairwise (IsHeldAs old size) new_said others
    held_rows = pairs_set (IsHeldAs old size) said t.rows (under.lies).rows place (change.rowid, whole payload.items) row
        (record { rowid = refl; size = refl; payload = whole_is old size payload.items short })

    was_short : All (λ (n : ℕ). n < length said → (slice_index_or said n item).1.size ≤ table_most size) (place ∷ [])
    was_short = all_of_each (λ (n : ℕ). n < length said → (slice_index_or said n item).1.size ≤ table_most size) (place ∷ [])
        ((λ on. (let e = ap (λ (one : ℤ × Local). one.1.size) (now.row_is item) in let size_is = now.size_is in let le = short in omega (arith, e, size_is, le))), tt)

    chains_same : (n : ℕ) → occurs n (chains_of others) ≡ occurs n (chains_of t.rows)
    chains_same n =
        let all = kept_pages chain_of n 0 (place ∷ []) t.rows none_held rise in
        let none = ap (occurs n) (none_go_on old size number ways rowid low t high free under (place ∷ []) rise 0 (place ∷ []) rise was_short) in
        let more = new_pages chain_of n 0 (place ∷ []) ((row ∷ []) ∷ []) t.rows refl in
        let e = ap (λ (xs : List Held). occurs n (chains_of xs)) (set_plain place t.rows row lt) in
        omega (arith, all, none, more, e)

    pub row_put : (new : PageMap) → IsRewritten old new size free number image → IsPut old new size number zero low high (with_changes (change ∷ []) (rows_of zero t)) (pages_of zero t) free
    row_put new rewritten =
        leaf_put old size number ways rowid low t high free under others chains_same new_said (with_changes (change ∷ []) (rows_of zero t)) held_rows sorted rows_are new image says_new rewritten

-- ---- the leaf

module _ (old : PageMap) (size number ways : ℕ) (rowid low : ℤ) (t : Leaf) (high : ℤ) (free : List ℕ) (under : IsUnder old size number ways rowid zero low t high free)
    (place : ℕ) (lt : place < length t.rows) (same : (d : Held) → (slice_index_or t.rows place d).row.rowid ≡ rowid) where
  one_rewritten : (change : RowChange) → change.rowid ≡ rowid → (payload : Vec ℕ) → change.payload ≡ Some payload → (new : PageMap) (result : Result Bool Fault)
      → RewritesOn old new size number place payload.items result → MatchResult result (IsRowRewritten old new size number (change ∷ []) low t high free) IsOutside
  one_rewritten change first payload some new result rewrites =
      by result (rewrites free under.free_are (says old size number ways rowid low t high free under place lt same).has
      (unfree old size number ways rowid low t high free under t.rows (λ n. refl)) (under.lies).said
      (node old size number ways rowid low t high free under place lt same) (within old size number ways rowid low t high free under place lt same))
    where
      by : (result : Result Bool Fault)
          → MatchResult result (IsRewrittenOn old new size free number (under.lies).said (node old size number ways rowid low t high free under place lt same) place payload.items) IsOutside
          → MatchResult result (IsRowRewritten old new size number (change ∷ []) low t high free) IsOutside
      by (Ok true) is = (tt, row_put old size number ways rowid low t high free under place lt same change first payload some is.0 is.1 new is.2)
      by (Ok false) is = is
      by (Err fault) outside = outside

  head_same : {change other : RowChange} {rest more : List RowChange} → change ∷ rest ≡ other ∷ more → change ≡ other
  head_same e = cc

  -- the row of the only change has the payload that it gives
  pub row_rewritten : (changes : List RowChange) → IsOneChange changes → IsFirst rowid changes → (change : RowChange) (rest : List RowChange) (payload : Vec ℕ) → changes ≡ change ∷ rest → change.payload ≡ Some payload
      → (new : PageMap) (result : Result Bool Fault) → RewritesOn old new size number place payload.items result → MatchResult result (IsRowRewritten old new size number changes low t high free) IsOutside
  row_rewritten [] alone first change rest payload are some new result rewrites = absurd alone
  row_rewritten (one ∷ []) alone first change rest payload are some new result rewrites =
      one_rewritten one first payload (ap (λ (c : RowChange). c.payload) (head_same are) ∙ some) new result rewrites
  row_rewritten (one ∷ next ∷ changes) alone first change rest payload are some new result rewrites = absurd alone

-- ---- the tree

-- The row of the only change was changed, or nothing has changed.
abbrev pub IsStepRewritten : PageMap → PageMap → ℕ → ℕ → ℕ → ℤ → List RowChange → (depth : ℕ) → ℤ → Tree depth → ℤ → List ℕ → Bool → Type 0
IsStepRewritten old new size number ways rowid changes depth low t high free true = IsEdited (IsNoRun 1) IsThereAt old new size number ways rowid (with_changes (take 1 changes)) depth low t high free Same
IsStepRewritten old new size number ways rowid changes depth low t high free false = new ≡ old

pub step_rewritten : (old new : PageMap) (size number ways place : ℕ) (rowid : ℤ) (depth : ℕ) (low : ℤ) (t : Tree depth) (high : ℤ) (free : List ℕ) → IsUnder old size number ways rowid depth low t high free
    → StepsFrom old size number rowid (Ok (Found place)) → (changes : List RowChange) → IsFirst rowid changes → (result : Result Bool Fault) → RewritesRow old new size number place changes result
    → MatchResult result (IsStepRewritten old new size number ways rowid changes depth low t high free) IsOutsideOrFull
step_rewritten old new size number ways place rowid zero low t high free under steps changes first result rewrites =
    let at = leaf_at old size number ways rowid low t high free under place steps in
    by result (rewrites ways rowid low t high free under first at.0 at.1)
  where
    by : (result : Result Bool Fault) → MatchResult result (IsRowRewritten old new size number changes low t high free) IsOutside
        → MatchResult result (IsStepRewritten old new size number ways rowid changes zero low t high free) IsOutsideOrFull
    by (Ok true) is = (step_found old size number ways place rowid zero low t high free under steps, alone_local rowid high changes is.0 first under.upto, is.1)
    by (Ok false) is = is
    by (Err fault) outside = inl outside
step_rewritten old new size number ways place rowid (suc depth) low t high free under steps changes first result rewrites =
    absurd (not_inside old size number ways place rowid depth low t high free under steps)

-- What becomes of a leaf whose rows are written over.
use Rattle.std.proofs.Common.{◌≡◌, ◌≤◌, ◌<◌, ◌-◌, ℕ, zero, suc, ℤ, true, List, [], ◌∷◌, length, map, take, slice_index_or, refl, sym, ap, subst, ◌∙◌, arith}
use Rattle.std.specs.List.{AllByRecursion, flat_map}
use Rattle.std.specs.Prelude.{All}
use Rattle.pages.specs.Counting.{start_of, Moves}
use Rattle.pages.specs.Map.{PageMap, page_at, Has}
use Rattle.freelist.specs.Calls.{AreFree}
use Rattle.tree_leaf.specs.Leaf.{Entry}
use Rattle.tree_overflow.proofs.Laying.{same_keeps}
use Rattle.tree_page.specs.Cells.{Pairwise}
use Rattle.tree_page.specs.Node.{Local, Rows, IsNode, IsRowCell}
use Rattle.tree_page.specs.Payload.{table_most}
use Rattle.tree_page.specs.declared.items.Kind.TheVariants.{TableLeaf}
use Rattle.tree_page.proofs.HeaderLemmas.{same_length}
use Rattle.tree_pack.specs.Building.{cell_room}
use Rattle.tree_pack.specs.Packing.{Packs}
use Rattle.tree_pack.specs.Parts.{total}
use Rattle.tree_pack.specs.Rewriting.{whole}
use Rattle.tree_pack.specs.declared.spreading.Packed.{Packed}
use Rattle.tree_pack.proofs.SplicingLemmas.{packs_alone}
use Rattle.tree_table.specs.Freeing.{AreGivenBack}
use Rattle.tree_table.specs.Growing.{below_of, IsPlanned, IsUnder}
use Rattle.tree_table.specs.Rewriting.{said_for, IsLaid, singly, AreRewritten}
use Rattle.tree_table.specs.Rows.{with_changes}
use Rattle.tree_table.specs.Runs.{AreWritten, NewRow, IsSound, cells_of, entries_of, entry_for, exchanged, new_chains, picked, room_for, says_of}
use Rattle.tree_table.specs.Tree.{Leaf, rows_of}
use Rattle.tree_table.specs.declared.changing.RowChange.{RowChange}
use Rattle.tree_table.proofs.Few.{large_size}
use Rattle.tree_table.proofs.Givings.{chain_of, none_given}
use Rattle.tree_table.proofs.NewCells.{cell_small, none_moves, room_by, some_by, whole_is}
use Rattle.tree_table.proofs.RewrittenRows.{said_some}
use Rattle.tree_table.proofs.RunFrees.{none_go_on}
use Rattle.tree_table.proofs.RunLeaves.{planned_as, start_le}
use Rattle.tree_table.proofs.RunRows.{IsRunOf, run_rises}

-- ---- the rows, as written

-- the row that a change leaves
abbrev new_row : (size : ℕ) (change : RowChange) (cell : List ℕ) → IsLaid size change cell → NewRow
new_row size change cell laid = record {
  cell = cell;
  said = (change.rowid, whole laid.payload.items);
  held = record { row = record { rowid = change.rowid; payload = laid.payload.items }; pages = [] };
}

abbrev rows_laid : (size : ℕ) (changes : List RowChange) (cells : List (List ℕ)) → Pairwise (IsLaid size) changes cells → List (List NewRow)
rows_laid size [] [] all = []
rows_laid size [] (cell ∷ cells) all = []
rows_laid size (change ∷ changes) [] all = []
rows_laid size (change ∷ changes) (cell ∷ cells) all = (new_row size change cell all.0 ∷ []) ∷ rows_laid size changes cells all.1

module _ (m : PageMap) (size : ℕ) where
  laid_cells : (changes : List RowChange) (cells : List (List ℕ)) (all : Pairwise (IsLaid size) changes cells) → map cells_of (rows_laid size changes cells all) ≡ singly cells
  laid_cells [] [] all = refl
  laid_cells [] (cell ∷ cells) all = absurd all
  laid_cells (change ∷ changes) [] all = absurd all
  laid_cells (change ∷ changes) (cell ∷ cells) all = ap (λ (rest : List (List (List ℕ))). (cell ∷ []) ∷ rest) (laid_cells changes cells all.1)

  laid_says : (changes : List RowChange) (cells : List (List ℕ)) (all : Pairwise (IsLaid size) changes cells) → map says_of (rows_laid size changes cells all) ≡ map said_for changes
  laid_says [] [] all = refl
  laid_says [] (cell ∷ cells) all = absurd all
  laid_says (change ∷ changes) [] all = absurd all
  laid_says (change ∷ changes) (cell ∷ cells) all =
      ap (λ (rest : List (List (ℤ × Local))). ((change.rowid, whole all.0.payload.items) ∷ []) ∷ rest) (laid_says changes cells all.1)
      ∙ ap (λ (one : List (ℤ × Local)). one ∷ map said_for changes) (sym (said_some change all.0.payload all.0.is))

  laid_entries : (changes : List RowChange) (cells : List (List ℕ)) (all : Pairwise (IsLaid size) changes cells) → map entries_of (rows_laid size changes cells all) ≡ map entry_for changes
  laid_entries [] [] all = refl
  laid_entries [] (cell ∷ cells) all = absurd all
  laid_entries (change ∷ changes) [] all = absurd all
  laid_entries (change ∷ changes) (cell ∷ cells) all =
      ap (λ (rest : List (List Entry)). (record { rowid = change.rowid; payload = all.0.payload.items } ∷ []) ∷ rest) (laid_entries changes cells all.1)
      ∙ ap (λ (one : List Entry). one ∷ map entry_for changes) (sym (some_by change.rowid change.payload all.0.payload all.0.is))

  laid_chains : (changes : List RowChange) (cells : List (List ℕ)) (all : Pairwise (IsLaid size) changes cells) → new_chains (rows_laid size changes cells all) ≡ []
  laid_chains [] [] all = refl
  laid_chains [] (cell ∷ cells) all = absurd all
  laid_chains (change ∷ changes) [] all = absurd all
  laid_chains (change ∷ changes) (cell ∷ cells) all = laid_chains changes cells all.1

  laid_sound : (changes : List RowChange) (cells : List (List ℕ)) (all : Pairwise (IsLaid size) changes cells) → AllByRecursion (AllByRecursion (IsSound m size)) (rows_laid size changes cells all)
  laid_sound [] [] all = tt
  laid_sound [] (cell ∷ cells) all = absurd all
  laid_sound (change ∷ changes) [] all = absurd all
  laid_sound (change ∷ changes) (cell ∷ cells) all = (
    (record { says = all.0.says; holds = record { rowid = refl; size = refl; payload = whole_is m size all.0.payload.items all.0.short } }, tt),
    laid_sound changes cells all.1,
  )

  laid_room : 512 ≤ size → (changes : List RowChange) (cells : List (List ℕ)) → Pairwise (IsLaid size) changes cells → total (map (λ cell. total (map cell_room cell)) (singly cells)) ≤ total (map (room_for size) changes)
  laid_room big [] [] all = omega arith
  laid_room big [] (cell ∷ cells) all = absurd all
  laid_room big (change ∷ changes) [] all = absurd all
  laid_room big (change ∷ changes) (cell ∷ cells) all =
      let one = cell_small size cell (change.rowid, whole all.0.payload.items) big all.0.says in
      let e = room_by size change.rowid change.payload all.0.payload all.0.is in
      let more = laid_room big changes cells all.1 in
      omega (arith, one, e, more)

  all_written : (free : List ℕ) → AreFree m size free → 512 ≤ size → (changes : List RowChange) (cells : List (List ℕ)) (all : Pairwise (IsLaid size) changes cells) → AreWritten m m size changes free (singly cells)
  all_written free are big changes cells all = record {
    rows = rows_laid size changes cells all;
    cells_are = laid_cells changes cells all;
    entries_are = laid_entries changes cells all;
    sound = laid_sound changes cells all;
    room = laid_room big changes cells all;
    now_free = free;
    free_are = are;
    moves = subst (λ (pages : List ℕ). Moves m m [] free pages free) (sym (laid_chains changes cells all)) (none_moves m free);
    header = same_keeps m m refl;
  }

pub all_of_each : (P : ℕ → Type 0) (xs : List ℕ) → AllByRecursion P xs → All P xs
all_of_each P [] all k d lt = absurd (omega (arith, lt))
all_of_each P (x ∷ xs) all zero d lt = all.0
all_of_each P (x ∷ xs) all (suc k) d lt = all_of_each P xs all.1 k d (omega (arith, lt))

each_lower : (P Q : ℕ → Type 0) → ((n : ℕ) → P n → Q n) → (xs : List ℕ) → AllByRecursion P xs → AllByRecursion Q xs
each_lower P Q f [] all = tt
each_lower P Q f (x ∷ xs) all = (f x all.0, each_lower P Q f xs all.1)

-- ---- the leaf

module _ (old : PageMap) (size number ways : ℕ) (rowid low : ℤ) (t : Leaf) (high : ℤ) (free : List ℕ) (under : IsUnder old size number ways rowid zero low t high free)
    (changes : List RowChange) (places : List ℕ) (run : IsRunOf 0 t.rows changes places) where
  abbrev saids : List (ℤ × Local)
  saids = (under.lies).said

  pub leaf_node : IsNode (page_at old number) (start_of number) (Rows saids)
  leaf_node = subst (λ (n : ℕ). IsNode (page_at old n) (start_of n) (Rows saids)) under.top_is (under.lies).says.node_is

  whole_leaf : length (page_at old number) ≡ size
  whole_leaf = (let has = subst (λ (n : ℕ). Has old n) under.top_is (under.lies).says.has in (under.free_are).whole number has)

  abbrev firsts : List RowChange
  firsts = take (length places) changes

  near_start : start_of number ≤ length (page_at old number)
  near_start = (let n = start_le number in let big = (large_size size under.sized).0 in let long = whole_leaf in omega (arith, n, big, long))

  pub rewritten_planned : (packed : Packed) → packed.pieces.items ≡ [] → AreRewritten (page_at old number) (start_of number) saids leaf_node places firsts packed.last.items
      → IsPlanned old old size number zero low high (with_changes firsts (rows_of zero t)) (below_of zero t) free packed
  unfolding all_written
  rewritten_planned packed none so =
      let page = page_at old number in
      let big = (large_size size under.sized).0 in
      let laid = subst (λ (n : ℕ). Pairwise (IsLaid n) firsts so.cells) whole_leaf so.laid in
      let short : (d : ℤ × Local) → All (λ place. place < length saids → (slice_index_or saids place d).1.size ≤ table_most size) places =
      (λ d. all_of_each (λ place. place < length saids → (slice_index_or saids place d).1.size ≤ table_most size) places
      (each_lower (λ place. (d : ℤ × Local) → (slice_index_or saids place d).1.size ≤ length page - 35) (λ place. place < length saids → (slice_index_or saids place d).1.size ≤ table_most size)
      (λ n h within. (let le = h d in let long = whole_leaf in omega (arith, le, long))) places so.short)) in
      let rise = run_rises 0 t.rows changes places run in
      let given : AreGivenBack old old size (flat_map chain_of (picked t.rows places)) free =
      subst (λ (chain : List ℕ). AreGivenBack old old size chain free) (sym (none_go_on old size number ways rowid low t high free under places rise 0 places rise (short _))) (none_given old size free under.free_are) in
      let w = all_written old size given.now_free given.free_are big firsts so.cells laid in
      let all = exchanged 0 places (singly so.cells) leaf_node.cells in
      let rows = exchanged 0 places (map said_for firsts) saids in
      let same : rows ≡ exchanged 0 places (map says_of w.rows) saids = ap (λ (news : List (List (ℤ × Local))). exchanged 0 places news saids) (sym (laid_says old size firsts so.cells laid)) in
      let packs = packs_alone TableLeaf page (start_of number) true all (Rows rows) packed none refl near_start so.placed in
      let count : length all ≡ length rows = ap length (sym so.placed.cells_are) ∙ same_length (IsRowCell (length packed.last.items)) so.placed.is.cells rows so.placed.is.say in
      planned_as old size number ways rowid low t high free under changes places run old given old (singly so.cells) w all (count ∙ ap length same) packed true
      (subst (λ (saying : List (ℤ × Local)). Packs TableLeaf (length page) (take (start_of number) page) true all (Rows saying) packed) same packs)
      (let e = ap length none in omega (arith, e))

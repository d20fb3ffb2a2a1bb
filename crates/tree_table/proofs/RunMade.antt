-- What becomes of a leaf whose rows are changed, call by call.
use Rattle.std.proofs.Common.{◌≡◌, ◌≤◌, ◌<◌, ◌+◌, ◌-◌, ◌==◌, ℕ, zero, suc, ℤ, pos, Bool, List, [], ◌∷◌, ◌++◌, append_assoc, length, map, take, drop, slice_index_or, Option, Some, None, Bor, refl, sym, ap, subst, ◌∙◌, inl, arith}
use Rattle.std.proofs.lemmas.List.{drop_more, drop_all, append-nil, map_push, take-append-drop}
use Rattle.std.specs.Global.{Vec}
use Rattle.std.specs.List.{flat_map}
use Rattle.std.specs.Prelude.{⊤, Result, Ok, Err, MatchResult, IsErrAnd}
use Rattle.sqlval.specs.declared.fault.Fault.{Fault}
use Rattle.sqlval.specs.declared.fault.Fault.TheVariants.{Memory}
use Rattle.sqlval.specs.Faults.{IsOutside}
use Rattle.pages.specs.Calls.{IsOutsideOrFull}
use Rattle.pages.specs.Counting.{start_of}
use Rattle.pages.specs.Map.{PageMap, page_at, Has, IsThere}
use Rattle.tree_page.specs.Node.{Local, Rows, IsNode}
use Rattle.tree_page.specs.Reading.{NeverFall}
use Rattle.tree_page.specs.declared.items.Kind.TheVariants.{TableLeaf}
use Rattle.tree_pack.specs.Packing.{AreOf, Packs}
use Rattle.tree_pack.specs.Splicing.{spliced, IsUsual, Splices}
use Rattle.tree_pack.specs.declared.spreading.Packed.{Packed}
use Rattle.tree_table.specs.Freeing.{AreGivenBack}
use Rattle.tree_table.specs.Growing.{below_of, IsPlanned, IsUnder, IsEdited, IsThereAt}
use Rattle.tree_table.specs.Rewriting.{AreRewritten, Rewrites}
use Rattle.tree_table.specs.Rows.{with_changes, IsLocal}
use Rattle.tree_table.specs.Runs.{AreRising, AreWritten, Exchanges, FindsRun, FreesRun, IsFirst, IsNoRun, IsRunIn, WritesRows, cell_in, change_in, count_in, exchanged, none_held, picked}
use Rattle.tree_table.specs.Stepping.{HasRowid}
use Rattle.tree_table.specs.Tree.{Held, Leaf, Tree, rows_of}
use Rattle.tree_table.specs.declared.changing.RowChange.{RowChange}
use Rattle.tree_table.specs.declared.growing.Change.{Change}
use Rattle.tree_table.proofs.Descents.{ids_rise}
use Rattle.tree_table.proofs.Few.{large_size}
use Rattle.tree_table.proofs.Givings.{chain_of}
use Rattle.tree_table.proofs.LeafRows.{said_there}
use Rattle.tree_table.proofs.Orders.{same_ids}
use Rattle.tree_table.proofs.Putting.{usual}
use Rattle.tree_table.proofs.RunLeaves.{leaf_there, rising, cells_say, new_said, planned, node_new}
use Rattle.tree_table.proofs.RewrittenLeaves.{leaf_node, rewritten_planned}
use Rattle.tree_table.proofs.RewrittenRows.{run_take, taken_again}
use Rattle.tree_table.proofs.RunRows.{IsRunOf, run_held, run_rises, run_local}

is_first : (rowid : ℤ) (changes : List RowChange) → IsFirst rowid changes → (change : RowChange) (rest : List RowChange) → changes ≡ change ∷ rest → change.rowid ≡ rowid
is_first rowid [] first change rest e = absurd first
is_first rowid (one ∷ more) first change rest e = ap (λ (cs : List RowChange). head_of cs) (sym e) ∙ first
  where
    head_of : List RowChange → ℤ
    head_of [] = rowid
    head_of (change ∷ changes) = change.rowid

module _ (old : PageMap) (size number ways : ℕ) (rowid low : ℤ) (t : Leaf) (high : ℤ) (free : List ℕ) (under : IsUnder old size number ways rowid zero low t high free)
    (changes : List RowChange) (first : IsFirst rowid changes) (place : ℕ) (lt : place < length t.rows) (same : (d : Held) → (slice_index_or t.rows place d).row.rowid ≡ rowid) where
  abbrev said : List (ℤ × Local)
  said = (under.lies).said

  item : ℤ × Local
  item = (pos 0, record { size = 0; bytes = [] })

  pub old_there : IsThere old size number
  old_there = (let has = subst (λ (n : ℕ). Has old n) under.top_is (under.lies).says.has in record { has = has; whole = (under.free_are).whole number has })

  has : HasRowid rowid said place
  has = record {
    within = (said_there old size said t.rows place item none_held (under.lies).rows lt).0;
    same = λ d. (said_there old size said t.rows place d none_held (under.lies).rows lt).1.rowid ∙ same none_held;
  }

  numbers : NeverFall (map (λ (row : ℤ × Local). row.0) said)
  numbers = subst (λ (ids : List ℤ). NeverFall ids) (sym (same_ids old size said t.rows (under.lies).rows)) (ids_rise low t.rows high under.sorted)

  pub found : (bytes : List ℕ) (start : ℕ) (result : Result (Vec ℕ) Fault) → bytes ≡ page_at old number → start ≡ start_of number → FindsRun bytes start place changes result
      → MatchResult result (λ places. IsRunIn size said changes places.items) (λ fault. fault ≡ Memory)
  found bytes start result bytes_are start_is finds =
      subst (λ (n : ℕ). MatchResult result (λ places. IsRunIn n said changes places.items) (λ fault. fault ≡ Memory)) old_there.whole
      (subst (λ (n : ℕ). FindsRun (page_at old number) n place changes result) start_is (subst (λ (b : List ℕ). FindsRun b start place changes result) bytes_are finds)
      said rowid (subst (λ (n : ℕ). IsNode (page_at old n) (start_of n) (Rows said)) under.top_is (under.lies).says.node_is) numbers first has)

  module _ (places : List ℕ) (in_leaf : IsRunIn size said changes places) where
    run : IsRunOf 0 t.rows changes places
    run = run_held old size said t.rows (under.lies).rows 0 changes places in_leaf.run

    pub freed : (mid : PageMap) (result : Result ⊤ Fault) → FreesRun old mid size number places result
        → MatchResult result (λ done. AreGivenBack old mid size (flat_map chain_of (picked t.rows places)) free) IsOutside
    freed mid result frees = frees ways rowid low t high free under (run_rises 0 t.rows changes places run)

    module _ (mid : PageMap) (given : AreGivenBack old mid size (flat_map chain_of (picked t.rows places)) free) where
      pub written : (new : PageMap) (result : Result (Vec (Option (Vec ℕ))) Fault) → WritesRows mid new size (take (length places) changes) result
          → MatchResult result (λ cells. AreWritten mid new size (take (length places) changes) given.now_free (map cell_in cells.items)) IsOutsideOrFull
      written new result writes = writes given.now_free given.free_are (large_size size under.sized).0

      module _ (new : PageMap) (cells : List (Option (Vec ℕ))) (w : AreWritten mid new size (take (length places) changes) given.now_free (map cell_in cells)) where
        pub new_there : IsThere new size number
        new_there = leaf_there old size number ways rowid low t high free under changes places run mid given new (map cell_in cells) w

        pub made : (page : List ℕ) (start : ℕ) (result : Result Packed Fault) → page ≡ page_at new number → start ≡ start_of number → Exchanges page start places cells result
            → MatchResult result (λ packed. IsLocal rowid high (with_changes (take (length places) changes))
            × IsPlanned old new size number zero low high (with_changes (take (length places) changes) (rows_of zero t)) (below_of zero t) free packed) IsOutsideOrFull
        made page start result page_is start_is exchanges = by result
            (subst (λ (n : ℕ). Exchanges (page_at new number) n places cells result) start_is (subst (λ (bytes : List ℕ). Exchanges bytes start places cells result) page_is exchanges))
          where
            by : (result : Result Packed Fault) → Exchanges (page_at new number) (start_of number) places cells result
                → MatchResult result (λ packed. IsLocal rowid high (with_changes (take (length places) changes))
                × IsPlanned old new size number zero low high (with_changes (take (length places) changes) (rows_of zero t)) (below_of zero t) free packed) IsOutsideOrFull
            by (Ok packed) exchanges =
                let packs = exchanges said (new_said old size number ways rowid low t high free under changes places run mid given new (map cell_in cells) w)
                (node_new old size number ways rowid low t high free under changes places run mid given new (map cell_in cells) w) (usual size number (page_at new number) (large_size size under.sized) new_there.whole)
                (rising old size number ways rowid low t high free under changes places run mid given new (map cell_in cells) w) (cells_say old size number ways rowid low t high free under changes places run mid given new (map cell_in cells) w) in (
                  run_local t.rows high 0 changes places low rowid under.sorted run (is_first rowid changes first),
                  planned old size number ways rowid low t high free under changes places run mid given new (map cell_in cells) w
                      (let le = in_leaf.room (large_size size under.sized).0 in omega (arith, le)) packed packs.0 packs.1,
                )
            by (Err fault) exchanges = inl (inl (exchanges said (new_said old size number ways rowid low t high free under changes places run mid given new (map cell_in cells) w)
                (node_new old size number ways rowid low t high free under changes places run mid given new (map cell_in cells) w) (usual size number (page_at new number) (large_size size under.sized) new_there.whole)
                (rising old size number ways rowid low t high free under changes places run mid given new (map cell_in cells) w) (cells_say old size number ways rowid low t high free under changes places run mid given new (map cell_in cells) w)))

        -- the same, of changes that are these
        pub made_as : (page : List ℕ) (start : ℕ) (some : List RowChange) (result : Result Packed Fault) → page ≡ page_at new number → start ≡ start_of number → some ≡ take (length places) changes
            → Exchanges page start places cells result
            → MatchResult result (λ packed. IsLocal rowid high (with_changes some)
            × IsPlanned old new size number zero low high (with_changes some (rows_of zero t)) (below_of zero t) free packed) IsOutsideOrFull
        made_as page start some result page_is start_is some_is exchanges =
            subst (λ (cs : List RowChange). MatchResult result (λ packed. IsLocal rowid high (with_changes cs)
            × IsPlanned old new size number zero low high (with_changes cs (rows_of zero t)) (below_of zero t) free packed) IsOutsideOrFull) (sym some_is) (made page start result page_is start_is exchanges)

    -- where the rows are written over, the page has to take the leaf's place
    pub rewritten_made : (page : List ℕ) (start : ℕ) (some : List RowChange) (packed : Packed) → page ≡ page_at old number → start ≡ start_of number → some ≡ take (length places) changes
        → Rewrites page start places some (Ok (Some packed))
        → IsLocal rowid high (with_changes some) × IsPlanned old old size number zero low high (with_changes some (rows_of zero t)) (below_of zero t) free packed
    rewritten_made page start some packed page_is start_is some_is rewrites =
        subst (λ (cs : List RowChange). IsLocal rowid high (with_changes cs) × IsPlanned old old size number zero low high (with_changes cs (rows_of zero t)) (below_of zero t) free packed) (sym some_is)
        (let firsts = take (length places) changes in
        let by = subst (λ (cs : List RowChange). Rewrites (page_at old number) (start_of number) places cs (Ok (Some packed))) some_is
        (subst (λ (n : ℕ). Rewrites (page_at old number) n places some (Ok (Some packed))) start_is (subst (λ (bytes : List ℕ). Rewrites bytes start places some (Ok (Some packed))) page_is rewrites)) in
        let node = leaf_node old size number ways rowid low t high free under changes places run in
        let done = by said node (run_take 0 said changes places in_leaf.run) in
        let so = subst (λ (cs : List RowChange). AreRewritten (page_at old number) (start_of number) said node places cs packed.last.items) (taken_again changes (length places)) done.1 in
        (run_local t.rows high 0 changes places low rowid under.sorted run (is_first rowid changes first), rewritten_planned old size number ways rowid low t high free under changes places run packed done.0 so))

-- ---- the cells of the page, with the new ones

-- what was put behind up to a place, from the first one on
pub record IsUpTo (cells : List (List ℕ)) (places : List ℕ) (news : List (List (List ℕ))) (first from i : ℕ) (all : List (List ℕ)) : Type 0 where
  pub within : from ≤ length cells
  pub after : first ≤ from
  pub rises : AreRising from (length cells) (drop i places)
  pub whole : take first cells ++ (all ++ exchanged from (drop i places) (drop i news) cells) ≡ exchanged 0 places news cells

pub none_put : (cells : List (List ℕ)) (places : List ℕ) (news : List (List (List ℕ))) (first : ℕ) → first ≡ slice_index_or places 0 0 → AreRising 0 (length cells) places → IsUpTo cells places news first first 0 []
none_put cells places news first e rise = subst (λ (n : ℕ). IsUpTo cells places news n n 0 []) (sym e) (by places news rise)
  where
    by : (places : List ℕ) (news : List (List (List ℕ))) → AreRising 0 (length cells) places → IsUpTo cells places news (slice_index_or places 0 0) (slice_index_or places 0 0) 0 []
    by [] news rise = record { within = omega arith; after = omega arith; rises = tt; whole = refl }
    by (place ∷ places) [] rise = record { within = (let lt = rise.1 in omega (arith, lt)); after = omega arith; rises = (omega arith, rise.1, rise.2); whole = take-append-drop place cells }
    by (place ∷ places) (new ∷ news) rise =
        let rest = new ++ exchanged (suc place) places news cells in
        let none : place - place ≡ 0 = omega arith in
        let plain : place - 0 ≡ place = omega arith in
        record {
          within = (let lt = rise.1 in omega (arith, lt));
          after = omega arith;
          rises = (omega arith, rise.1, rise.2);
          whole = ap (λ (n : ℕ). take place cells ++ (take n (drop place cells) ++ rest)) none ∙ sym (ap (λ (n : ℕ). take n cells ++ rest) plain);
        }

pub next_place_is : (cells : List (List ℕ)) (places : List ℕ) (i from : ℕ) → AreRising from (length cells) (drop i places) → i < length places
    → (from ≤ slice_index_or places i 0) × (slice_index_or places i 0 < length cells) × AreRising (suc (slice_index_or places i 0)) (length cells) (drop (i + 1) places)
next_place_is cells places i from rise lt = subst (λ (ps : List ℕ). AreRising from (length cells) ps) (drop_more places i 0 lt) rise

pub next_put : (cells : List (List ℕ)) (places : List ℕ) (news : List (List (List ℕ))) (first from i to : ℕ) (all more : List (List ℕ)) (new : List (List ℕ)) → IsUpTo cells places news first from i all
    → i < length places → length places ≡ length news → new ≡ slice_index_or news i new → to ≡ suc (slice_index_or places i 0)
    → more ≡ all ++ (take (slice_index_or places i 0 - from) (drop from cells) ++ new) → IsUpTo cells places news first to (i + 1) more
next_put cells places news first from i to all more new so lt count is to_is put =
    let place = slice_index_or places i 0 in
    let next = next_place_is cells places i from so.rises lt in
    let front = take (place - from) (drop from cells) in
    let rest = exchanged (suc place) (drop (i + 1) places) (drop (i + 1) news) cells in
    let news_are : drop i news ≡ new ∷ drop (i + 1) news = drop_more news i new (omega (arith, lt, count)) ∙ ap (λ (x : List (List ℕ)). x ∷ drop (i + 1) news) (sym is) in
    let regrouped : more ++ rest ≡ all ++ exchanged from (drop i places) (drop i news) cells =
    ap (λ (xs : List (List ℕ)). xs ++ rest) put ∙ append_assoc all (front ++ new) rest ∙ ap (λ (xs : List (List ℕ)). all ++ xs) (append_assoc front new rest)
    ∙ sym (ap (λ (xs : List (List (List ℕ))). all ++ exchanged from (place ∷ drop (i + 1) places) xs cells) news_are)
    ∙ sym (ap (λ (ps : List ℕ). all ++ exchanged from ps (drop i news) cells) (drop_more places i 0 lt)) in
    subst (λ (n : ℕ). IsUpTo cells places news first n (i + 1) more) (sym to_is) (record {
      within = (let within = next.1 in omega (arith, within));
      after = (let after = so.after in let from_le = next.0 in omega (arith, after, from_le));
      rises = next.2;
      whole = ap (λ (xs : List (List ℕ)). take first cells ++ xs) regrouped ∙ so.whole;
    })

pub all_put : (cells : List (List ℕ)) (places : List ℕ) (news : List (List (List ℕ))) (first from i : ℕ) (all : List (List ℕ)) → IsUpTo cells places news first from i all → length places ≤ i
    → take first cells ++ (all ++ drop from cells) ≡ exchanged 0 places news cells
all_put cells places news first from i all so le = sym (ap (λ (ps : List ℕ). take first cells ++ (all ++ exchanged from ps (drop i news) cells)) (drop_all i places le)) ∙ so.whole

-- ---- cells that are appended

abbrev bytes_of : List (Bor (List ℕ)) → List (List ℕ)
bytes_of cells = map (λ (cell : Bor (List ℕ)). cell.now) cells

pub put_none : (old out : List (Bor (List ℕ))) (mid : List (List ℕ)) (cell : Option (Vec ℕ)) → cell ≡ None → bytes_of out ≡ bytes_of old ++ mid → bytes_of out ≡ bytes_of old ++ (mid ++ cell_in cell)
put_none old out mid cell none so = so ∙ ap (λ (xs : List (List ℕ)). bytes_of old ++ xs) (sym (append-nil mid)) ∙ ap (λ (o : Option (Vec ℕ)). bytes_of old ++ (mid ++ cell_in o)) (sym none)

pub put_some : (old out pushed : List (Bor (List ℕ))) (mid : List (List ℕ)) (cell : Option (Vec ℕ)) (bytes : Vec ℕ) (slice : Bor (List ℕ)) → cell ≡ Some bytes → slice.now ≡ bytes.items → pushed ≡ out ++ slice ∷ []
    → bytes_of out ≡ bytes_of old ++ mid → bytes_of pushed ≡ bytes_of old ++ (mid ++ cell_in cell)
put_some old out pushed mid cell bytes slice some is put so =
    ap bytes_of put ∙ map_push (λ (x : Bor (List ℕ)). x.now) out slice ∙ ap (λ (xs : List (List ℕ)). xs ++ slice.now ∷ []) so ∙ append_assoc (bytes_of old) mid (slice.now ∷ [])
    ∙ ap (λ (x : List ℕ). bytes_of old ++ (mid ++ x ∷ [])) is ∙ ap (λ (o : Option (Vec ℕ)). bytes_of old ++ (mid ++ cell_in o)) (sym some)

-- ---- on the way up

pub below_refused : (old new : PageMap) (size number ways : ℕ) (rowid : ℤ) (changes : List RowChange) (result : Result (ℕ × Change) Fault) (fault : Fault) → IsErrAnd result (λ e. e ≡ fault) → IsOutsideOrFull fault
    → (depth : ℕ) (low : ℤ) (t : Tree depth) (high : ℤ) (free : List ℕ)
    → MatchResult (change_in result) (IsEdited (IsNoRun (count_in result)) IsThereAt old new size number ways rowid (with_changes (take (count_in result) changes)) depth low t high free) IsOutsideOrFull
below_refused old new size number ways rowid changes (Ok done) fault is refused depth low t high free = absurd is
below_refused old new size number ways rowid changes (Err e) fault is refused depth low t high free = subst IsOutsideOrFull (sym is) refused

-- ---- the pages of the cells

pub exchanged_packs : (page : List ℕ) (start first from count : ℕ) (result : Result Packed Fault) (said rows : List (ℤ × Local)) (is : IsNode page start (Rows said)) → IsUsual page start → (all whole : List (List ℕ)) → first ≤ from → from ≤ length is.cells → count ≡ from - first
    → take first is.cells ++ (all ++ drop from is.cells) ≡ whole → AreOf TableLeaf (length page) [] whole (Rows rows) → Splices page start first count all [] result
    → MatchResult result (λ packed. (rises : Bool) × Packs TableLeaf (length page) (take start page) rises whole (Rows rows) packed) (λ fault. fault ≡ Memory)
exchanged_packs page start first from count result said rows is usual all whole after le count_is e say splices = by result (splices TableLeaf (Rows said) (Rows rows) is usual refl (omega (arith, le, after, count_is))
    (subst (λ (cells : List (List ℕ)). AreOf TableLeaf (length page) [] cells (Rows rows)) (sym same) say))
  where
    same : spliced first count all is.cells ≡ whole
    same = (let plain : first + count ≡ from = omega (arith, after, count_is) in ap (λ (n : ℕ). take first is.cells ++ (all ++ drop n is.cells)) plain ∙ e)

    by : (result : Result Packed Fault) → MatchResult result (Packs TableLeaf (length page) (take start page) (first + count == length is.cells) (spliced first count all is.cells) (Rows rows)) (λ fault. fault ≡ Memory)
        → MatchResult result (λ packed. (rises : Bool) × Packs TableLeaf (length page) (take start page) rises whole (Rows rows) packed) (λ fault. fault ≡ Memory)
    by (Ok packed) packs = (first + count == length is.cells, subst (λ (cells : List (List ℕ)). Packs TableLeaf (length page) (take start page) (first + count == length is.cells) cells (Rows rows) packed) same packs)
    by (Err fault) memory = memory

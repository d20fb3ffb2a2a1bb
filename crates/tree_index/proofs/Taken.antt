-- An entry whose overflow pages are given back, and a leaf without it.
use Rattle.std.proofs.Common.{◌≡◌, ◌≤◌, ◌<◌, ◌+◌, ◌-◌, ◌==◌, ℕ, zero, suc, Bool, true, false, List, [], ◌∷◌, length, slice_index_or, refl, sym, ap, subst, inl, arith}
use Rattle.std.specs.Prelude.{⊤, Result, Ok, Err, MatchResult}
use Rattle.sqlval.specs.Faults.{IsOutside}
use Rattle.sqlval.specs.PageSizes.{IsPageSize}
use Rattle.sqlval.specs.declared.fault.Fault.{Fault}
use Rattle.pages.specs.Counting.{occurs, start_of, Moves}
use Rattle.pages.specs.Map.{PageMap, page_at, AreWhole, IsThere}
use Rattle.pages.proofs.Moving.{occurs_append}
use Rattle.tree_page.specs.Cells.{Pairwise}
use Rattle.tree_page.specs.Node.{Local, Entries, IsNode, IsEntryCell, Say}
use Rattle.tree_page.specs.declared.items.Kind.TheVariants.{IndexLeaf}
use Rattle.tree_page.proofs.HeaderLemmas.{same_length}
use Rattle.tree_pack.specs.Building.{cell_room}
use Rattle.tree_pack.specs.Packing.{AreOf, Packs}
use Rattle.tree_pack.specs.Splicing.{spliced, Splices}
use Rattle.tree_pack.specs.declared.spreading.Packed.{Packed}
use Rattle.tree_store.specs.Saying.{Says}
use Rattle.tree_store.specs.Staying.{AreKept}
use Rattle.tree_store.specs.Storing.{IsPlacedOn, TakesOff}
use Rattle.tree_store.proofs.Staying.{kept_of, says_kept, occurs_here}
use Rattle.tree_index.specs.Calls.{AreGivenBack}
use Rattle.tree_index.specs.Comparing.{locals_of}
use Rattle.tree_index.specs.Entries.{Entry}
use Rattle.tree_index.specs.Freeing.{StandsUnder, FreesEntry, chains_of, below_of}
use Rattle.tree_index.specs.Growing.{IsPlanned, IsPut}
use Rattle.tree_index.specs.Joining.{without_at}
use Rattle.tree_index.specs.Tree.{Held, IsHeldAs, Leaf, Tree, entries_of, pages_of}
use Rattle.tree_index.proofs.Clearing.{number_far, top_and_below}
use Rattle.tree_index.proofs.Cutting.{values}
use Rattle.tree_index.proofs.Emptied.{large_size}
use Rattle.tree_index.proofs.Givings.{among, chain_of}
use Rattle.tree_index.proofs.Inserts.{nothing}
use Rattle.tree_index.proofs.Leaves.{usual, at_most}
use Rattle.tree_index.proofs.OnLeaves.{unfree, put_on}
use Rattle.tree_index.proofs.OneLess.{none_in, pairwise_without}
use Rattle.tree_index.proofs.Readings.{said_there}
use Rattle.tree_pack.proofs.Rooms.{cells_fit}
use Rattle.tree_index.proofs.Shares.{beside_used, once_after, others_kept, start_after}
use Rattle.tree_index.proofs.Staying.{entries_kept}
use Rattle.tree_index.proofs.Subtrees.{entries_at, told, row_pages, tree_up}
use Rattle.tree_index.proofs.Sums.{room_swapped}
use Rattle.tree_index.proofs.Tops.{leaf_tops, planned_by}

no_local : Local
no_local = record { size = 0; bytes = [] }

-- the entries' overflow pages are among those of the tree
pub chains_among : (depth n : ℕ) (t : Tree depth) → occurs n (chains_of (entries_at depth t)) ≤ occurs n (below_of depth t)
chains_among zero n t = omega arith
chains_among (suc depth) n t = (let row = row_pages (pages_of depth) n t.kids t.last in omega (arith, row))

module _ (old : PageMap) (size number ways depth : ℕ) (t : Tree depth) (free : List ℕ) (under : StandsUnder old size number ways depth t free) (place : ℕ) (lt : place < length (entries_at depth t)) where
  abbrev pub held : Held
  held = slice_index_or (entries_at depth t) place nothing

  pub held_among : (n : ℕ) → occurs n held.pages ≤ occurs n (below_of depth t)
  held_among n = (let part = among chain_of place (entries_at depth t) nothing n lt in let all = chains_among depth n t in omega (arith, part, all))

  pub split_pages : (n : ℕ) → occurs n (pages_of depth t) ≡ occurs n (number ∷ below_of depth t)
  split_pages n = ap (occurs n) (top_and_below old size number ways depth t free under)

  -- its overflow pages are given back
  pub entry_freed : (mid : PageMap) (result : Result ⊤ Fault) → FreesEntry old mid size number place result → MatchResult result (λ done. AreGivenBack old mid size held.pages free) IsOutside
  entry_freed mid result frees =
      let its = told old size number depth t under.top_is under.lies in
      let there = said_there old size (locals_of its.node) (entries_at depth t) place no_local nothing its.has.held lt in
      frees its.node no_local held free its.has.says its.has.ours there.0 there.1 under.free_are
      (let part = held_among 1 in let none = under.first in let e = split_pages 1 in omega (arith, part, none, e))
      (record { once = λ n. (let part = held_among n in let all = under.apart n in let e = split_pages n in let f = occurs_append n held.pages free in omega (arith, part, all, e, f)) })

-- ---- a leaf

chains_without : (n place : ℕ) (entries : List Held) (d : Held) → place < length entries → occurs n (chains_of entries) ≡ occurs n (slice_index_or entries place d).pages + occurs n (chains_of (without_at place entries))
chains_without n place [] d lt = absurd (omega (arith, lt))
chains_without n zero (held ∷ entries) d lt = occurs_append n held.pages (chains_of entries)
chains_without n (suc place) (held ∷ entries) d lt =
    let rest = chains_without n place entries d (omega (arith, lt)) in
    let one = occurs_append n held.pages (chains_of entries) in
    let two = occurs_append n held.pages (chains_of (without_at place entries)) in
    omega (arith, rest, one, two)

values_without : (place : ℕ) (entries : List Held) → values (without_at place entries) ≡ without_at place (values entries)
values_without place [] = refl
values_without zero (held ∷ entries) = refl
values_without (suc place) (held ∷ entries) = ap (λ es. held.entry ∷ es) (values_without place entries)

module _ (old : PageMap) (size number ways : ℕ) (t : Leaf) (free : List ℕ) (under : StandsUnder old size number ways zero t free) (sized : IsPageSize size) (place : ℕ) (lt : place < length t.entries) (mid : PageMap)
    (given : AreGivenBack old mid size (held old size number ways zero t free under place lt).pages free) where
  abbrev gone : Held
  gone = held old size number ways zero t free under place lt

  abbrev rest : List Held
  rest = without_at place t.entries

  abbrev said : List Local
  said = without_at place (under.lies).said

  whole_mid : AreWhole size mid
  whole_mid = (given.free_are).whole

  rest_kept : AreKept old mid size (t.page ∷ chains_of rest)
  rest_kept = others_kept old mid size gone.pages free [] given.now_free (t.page ∷ chains_of rest) (under.free_are).whole given.moves
      (λ n some. (let all = under.apart n in let e = chains_without n place t.entries nothing lt in omega (arith, all, e, some)))

  hold : Pairwise (IsHeldAs mid size) said rest
  hold = entries_kept old mid size said rest (kept_of old mid size (t.page ∷ chains_of rest) (chains_of rest) (λ n some. omega (arith, some)) rest_kept)
      (pairwise_without (IsHeldAs old size) place (under.lies).said t.entries (under.lies).entries)

  says_mid : Says mid number (Entries (under.lies).said)
  says_mid = subst (λ (n : ℕ). Says mid n (Entries (under.lies).said)) under.top_is
      (says_kept old mid size t.page (t.page ∷ chains_of rest) (Entries (under.lies).said) rest_kept (occurs_here t.page (chains_of rest)) (under.lies).says)

  pub leaf_there : IsThere mid size number
  leaf_there = record { has = says_mid.has; whole = whole_mid number says_mid.has }

  long_mid : length (page_at mid number) ≡ size
  long_mid = leaf_there.whole

  node : IsNode (page_at mid number) 0 (Entries (under.lies).said)
  node = subst (λ (n : ℕ). IsNode (page_at mid number) n (Entries (under.lies).said)) (start_after number (number_far old size number ways zero t free under)) says_mid.node_is

  within : place < length node.cells
  within = (let a = same_length (IsEntryCell (length (page_at mid number))) node.cells (under.lies).said node.say in
      let b = same_length (IsHeldAs old size) (under.lies).said t.entries (under.lies).entries in omega (arith, lt, a, b))

  abbrev cells : List (List ℕ)
  cells = spliced place 1 [] node.cells

  cells_say : AreOf IndexLeaf (length (page_at mid number)) [] cells (Entries said)
  cells_say = record {
    kind_is = refl;
    right_is = refl;
    say = subst (λ (xs : List (List ℕ)). Pairwise (IsEntryCell (length (page_at mid number))) xs said) (sym (none_in place node.cells))
        (pairwise_without (IsEntryCell (length (page_at mid number))) place node.cells (under.lies).said node.say);
  }

  planned : (packed : Packed) → Packs IndexLeaf (length (page_at mid number)) [] (place + 1 == length node.cells) cells (Entries said) packed
      → IsPlanned old mid size zero (without_at place (entries_of zero t)) (below_of zero t) free packed
  planned packed packs =
      let page = page_at mid number in
      let sizes = large_size size sized in
      let long = long_mid in
      let its = subst (λ (n : ℕ). Packs IndexLeaf n [] (place + 1 == length node.cells) cells (Entries said) packed) long packs in
      let sum = room_swapped cell_room place [] node.cells [] within in
      let fit = cells_fit 10 page 0 [] node.cells node.page_is in
      let few = at_most 2 (size - 0 - 8 - 0) (place + 1 == length node.cells) _ its.counts its.cut (let big = sizes.0 in omega (arith, sum, fit, long, big)) in
      let tops = leaf_tops mid size (place + 1 == length node.cells) cells said rest packed its hold few in
      subst (λ es. IsPlanned old mid size zero es (below_of zero t) free packed) (values_without place t.entries)
      (planned_by old mid size zero (values rest) (chains_of rest) (below_of zero t) free packed tops given.now_free (given.free_are).has
      (beside_used old mid gone.pages free [] given.now_free (chains_of rest) (below_of zero t) (chains_of rest) given.moves (λ n. chains_without n place t.entries nothing lt) (λ n. omega arith)) given.header)

  -- the other cells are packed
  -- ---- off the leaf's page

  abbrev now_free : List ℕ
  now_free = given.now_free

  first_moves : Moves old mid (pages_of zero t) free (number ∷ chains_of rest) now_free
  first_moves = beside_used old mid gone.pages free [] now_free (number ∷ chains_of rest) (pages_of zero t) (number ∷ chains_of rest) given.moves
      (λ n. (let e = chains_without n place t.entries nothing lt in let same = ap (λ (m : ℕ). occurs n (m ∷ chains_of t.entries)) under.top_is in omega (arith, e, same)))
      (λ n. omega arith)

  once_mid : (n : ℕ) → occurs n (number ∷ chains_of rest) + occurs n now_free ≤ 1
  once_mid = once_after old mid size (pages_of zero t) free (number ∷ chains_of rest) now_free under.free_are first_moves (tree_up old size zero t under.lies) under.apart

  node_there : IsNode (page_at mid number) (start_of number) (Entries (under.lies).said)
  node_there = says_mid.node_is

  say_there : Say size (spliced place 1 [] node_there.cells) (Entries said)
  say_there = subst (λ (xs : List (List ℕ)). Pairwise (IsEntryCell size) xs said) (sym (none_in place node_there.cells))
      (pairwise_without (IsEntryCell size) place node_there.cells (under.lies).said
      (subst (λ (n : ℕ). Pairwise (IsEntryCell n) node_there.cells (under.lies).said) long_mid node_there.say))

  within_there : place < length node_there.cells
  within_there = (let a = same_length (IsEntryCell (length (page_at mid number))) node_there.cells (under.lies).said node_there.say in
      let b = same_length (IsHeldAs old size) (under.lies).said t.entries (under.lies).entries in omega (arith, lt, a, b))

  leaf_taken : (new : PageMap) (result : Result Bool Fault) → TakesOff mid new size number place result
      → MatchResult result (λ taken. IsPlacedOn mid new size now_free number (spliced place 1 [] node_there.cells) (Entries said) taken × (taken ≡ true → 2 ≤ length node_there.cells)) IsOutside
  leaf_taken new result takes = takes now_free given.free_are says_mid.has
      (unfree old mid size number (pages_of zero t) free now_free said rest whole_mid says_mid.has hold first_moves once_mid given.header)
      (Entries (under.lies).said) (Entries said) node_there (large_size size sized).0 (large_size size sized).1 within_there refl refl say_there

  -- the tree under the page has the others then
  pub leaf_off : (new : PageMap) → TakesOff mid new size number place (Ok true) → IsPut old new size number zero (without_at place (entries_of zero t)) (pages_of zero t) free
  leaf_off new takes = subst (λ (es : List Entry). IsPut old new size number zero es (pages_of zero t) free) (values_without place t.entries)
      (put_on old mid size number (pages_of zero t) free now_free said rest whole_mid says_mid.has hold first_moves once_mid given.header new
      (spliced place 1 [] node_there.cells) (leaf_taken new (Ok true) takes).0)

  pub leaf_still : (new : PageMap) → TakesOff mid new size number place (Ok false) → new ≡ mid
  leaf_still new takes = (leaf_taken new (Ok false) takes).0

  pub leaf_unwritten : (new : PageMap) (fault : Fault) → TakesOff mid new size number place (Err fault) → IsOutside fault
  leaf_unwritten new fault takes = leaf_taken new (Err fault) takes

  -- ---- a page in its place

  pub leaf_cut : (page : List ℕ) (result : Result Packed Fault) → page ≡ page_at mid number → Splices page 0 place 1 [] [] result
      → MatchResult result (IsPlanned old mid size zero (without_at place (entries_of zero t)) (below_of zero t) free) IsOutside
  leaf_cut page result page_is splices = by result (subst (λ (bytes : List ℕ). Splices bytes 0 place 1 [] [] result) page_is splices)
    where
      by : (result : Result Packed Fault) → Splices (page_at mid number) 0 place 1 [] [] result → MatchResult result (IsPlanned old mid size zero (without_at place (entries_of zero t)) (below_of zero t) free) IsOutside
      by (Ok packed) splices =
          planned packed (splices IndexLeaf (Entries (under.lies).said) (Entries said) node (usual (page_at mid number) size (large_size size sized) long_mid) refl (let le = within in omega (arith, le)) cells_say)
      by (Err fault) splices =
          inl (splices IndexLeaf (Entries (under.lies).said) (Entries said) node (usual (page_at mid number) size (large_size size sized) long_mid) refl (let le = within in omega (arith, le)) cells_say)

pub cut_since : (old mid new : PageMap) (size depth : ℕ) (entries : List Entry) (used free : List ℕ) (result : Result Packed Fault) → new ≡ mid
    → MatchResult result (IsPlanned old mid size depth entries used free) IsOutside → MatchResult result (IsPlanned old new size depth entries used free) IsOutside
cut_since old mid new size depth entries used free result same is =
    subst (λ (m : PageMap). MatchResult result (IsPlanned old m size depth entries used free) IsOutside) (sym same) is

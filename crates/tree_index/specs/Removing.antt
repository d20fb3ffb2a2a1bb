-- How an entry is taken out of an index's tree: what becomes of the page at the top of a subtree.
use Rattle.std.specs.Prelude.{◌≡◌, ◌≤◌, ◌<◌, ℕ, zero, suc, true, false, List, ◌∷◌, length, take, Ok, Option, None, Some, ◌++◌, Result, MatchResult}
use Rattle.sqlval.specs.Faults.{IsOutside}
use Rattle.sqlval.specs.PageSizes.{IsPageSize}
use Rattle.sqlval.specs.declared.collation.Collation.{Collation}
use Rattle.sqlval.specs.declared.fault.Fault.{Fault}
use Rattle.pages.specs.Calls.{IsOutsideOrFull}
use Rattle.pages.specs.Map.{PageMap, AreWhole}
use Rattle.tree_pack.specs.declared.spreading.Packed.{Packed}
use Rattle.tree_index.specs.Calls.{BecomesEntries, Stands}
use Rattle.tree_index.specs.Entries.{Entry, AreEntries, AreLong, GoInTurn, has_entry, without_entries, without_entry}
use Rattle.tree_index.specs.Freeing.{StandsUnder, below_of}
use Rattle.tree_index.specs.Growing.{IsPlanned, IsPut, IsUnder, IsWayTo}
use Rattle.tree_index.specs.Joining.{tree_at, without_at, entries_around}
use Rattle.tree_index.specs.Tree.{Leaf, Tree, top, entries_of, pages_of, Lies}
use Rattle.tree_index.specs.declared.removing.Loss.{Loss}
use Rattle.tree_index.specs.declared.removing.Loss.TheVariants.{Still, Done, Spread}

-- how deep a tree is was found; or memory was short, or a disk's call failed
abbrev pub FindsDepth : PageMap → ℕ → ℕ → ℕ → Result ℕ Fault → Type 0
FindsDepth pages size number ways result = (depth : ℕ) (t : Tree depth) → AreWhole size pages → top depth t ≡ number → Lies pages size depth t
    → depth ≤ ways → MatchResult result (λ found. found ≡ depth) IsOutside

-- what became of a tree's page at the top whose entry was taken out: the tree under the page has these entries now, without so many of the rest, each
-- of which was there in its turn; or packed pages have to take its place
abbrev pub IsTakenOut : PageMap → PageMap → ℕ → ℕ → (depth : ℕ) → List Collation → List Entry → List Entry → Tree depth → List ℕ → Loss → Type 0
IsTakenOut old new size number depth columns rest entries t free Still = ⊥
IsTakenOut old new size number depth columns rest entries t free (Done more) =
    (more ≤ length rest) × GoInTurn columns (take more rest) entries
    × IsPut old new size number depth (without_entries columns (take more rest) entries) (pages_of depth t) free
IsTakenOut old new size number depth columns rest entries t free (Spread packed) = IsPlanned old new size depth entries (below_of depth t) free packed

-- a leaf has these entries now, or packed pages have to take its place
abbrev pub IsLeafCut : PageMap → PageMap → ℕ → ℕ → List Entry → Leaf → List ℕ → Option Packed → Type 0
IsLeafCut old new size number entries t free None = IsPut old new size number zero entries (pages_of zero t) free
IsLeafCut old new size number entries t free (Some packed) = IsPlanned old new size zero entries (below_of zero t) free packed

-- where a tree is a leaf, this becomes of it without the entry at a place
abbrev pub CutsLeaf : PageMap → PageMap → ℕ → ℕ → ℕ → Result (Option Packed) Fault → Type 0
CutsLeaf old new size number place result = (ways : ℕ) (t : Leaf) (free : List ℕ) → StandsUnder old size number ways zero t free → IsPageSize size
    → place < length t.entries
    → MatchResult result (IsLeafCut old new size number (without_at place (entries_of zero t)) t free) IsOutside

-- how many entries are on the page at the top
abbrev pub count_at : (depth : ℕ) → Tree depth → ℕ
count_at zero t = length t.entries
count_at (suc depth) t = length t.kids

-- the entries without the one at a place of the page at the top
abbrev pub entries_cut : (depth : ℕ) → ℕ → Tree depth → List Entry
entries_cut zero place t = without_at place (entries_of zero t)
entries_cut (suc depth) place t =
    entries_around depth place (entries_of depth (tree_at place t.kids t.last) ++ entries_of depth (tree_at (suc place) t.kids t.last)) t

-- where a tree stands under a page, this becomes of it without the entry at a place, and without some of the rest; or memory was short, a disk's
-- call failed, or there are as many pages as there may be
abbrev pub TakesAt : PageMap → PageMap → ℕ → ℕ → ℕ → ℕ → List Collation → List Entry → Result Loss Fault → Type 0
TakesAt old new size number place depth columns rest result = (ways : ℕ) (t : Tree depth) (free : List ℕ)
    → StandsUnder old size number ways depth t free → IsPageSize size → place < count_at depth t → AreEntries columns (entries_cut depth place t) → AreLong columns rest
    → MatchResult result (IsTakenOut old new size number depth columns rest (entries_cut depth place t) t free) IsOutsideOrFull

-- what became of a page: the first entry isn't there, and nothing changed; or it is, and was taken out, and some of the rest with it
abbrev pub IsLessened : PageMap → PageMap → ℕ → ℕ → List Collation → Entry → List Entry → (depth : ℕ) → Tree depth → List ℕ → Loss → Type 0
IsLessened old new size number columns entry rest depth t free Still = (has_entry columns entry (entries_of depth t) ≡ false) × (new ≡ old)
IsLessened old new size number columns entry rest depth t free (Done more) =
    (has_entry columns entry (entries_of depth t) ≡ true)
    × IsTakenOut old new size number depth columns rest (without_entry columns entry (entries_of depth t)) t free (Done more)
IsLessened old new size number columns entry rest depth t free (Spread packed) =
    (has_entry columns entry (entries_of depth t) ≡ true)
    × IsTakenOut old new size number depth columns rest (without_entry columns entry (entries_of depth t)) t free (Spread packed)

-- where a tree of this depth stands under a page, this becomes of it; or memory was short, a disk's call failed, or there are as many pages as
-- there may be
abbrev pub Lessens : PageMap → PageMap → ℕ → ℕ → ℕ → List Collation → Entry → List Entry → Result Loss Fault → Type 0
Lessens old new size number depth columns entry rest result = (t : Tree depth) (free : List ℕ) → IsUnder old size number depth columns depth t free
    → AreLong columns (entry ∷ rest)
    → MatchResult result (IsLessened old new size number columns entry rest depth t free) IsOutsideOrFull

-- where packed pages have to take the place of a child, this becomes of the page above
abbrev pub Narrows : PageMap → PageMap → ℕ → ℕ → ℕ → ℕ → Packed → ℕ → Result Loss Fault → Type 0
Narrows mid new size number place child packed depth result =
    (old : PageMap) (columns : List Collation) (entry : Entry) (rest : List Entry) (t : Tree (suc depth)) (free : List ℕ)
    → IsUnder old size number (suc depth) columns (suc depth) t free → AreLong columns (entry ∷ rest) → IsWayTo columns entry depth t place child
    → Lessens old mid size child depth columns entry rest (Ok (Spread packed))
    → MatchResult result (IsLessened old new size number columns entry rest (suc depth) t free) IsOutsideOrFull

-- the first entry was taken out, and so many of the rest, each of which was there in its turn; or it isn't there and nothing changed
abbrev pub IsFirstRemoved : PageMap → PageMap → ℕ → ℕ → List Collation → Entry → List Entry → List Entry → List ℕ → List ℕ → Option ℕ → Type 0
IsFirstRemoved old new size root columns entry rest entries used free None = (has_entry columns entry entries ≡ false) × (new ≡ old)
IsFirstRemoved old new size root columns entry rest entries used free (Some more) =
    (more ≤ length rest) × GoInTurn columns (entry ∷ take more rest) entries
    × BecomesEntries old new size root columns (without_entries columns (entry ∷ take more rest) entries) used free

-- where a tree stands, an entry is taken out of it, and some of the rest with it; or memory was short, a disk's call failed, or there are as many
-- pages as there may be
abbrev pub RemovesFirst : PageMap → PageMap → ℕ → ℕ → List Collation → Entry → List Entry → Result (Option ℕ) Fault → Type 0
RemovesFirst old new size root columns entry rest result =
    (entries : List Entry) (used free : List ℕ) → Stands old size root columns entries used free → AreLong columns (entry ∷ rest)
    → MatchResult result (IsFirstRemoved old new size root columns entry rest entries used free) IsOutsideOrFull

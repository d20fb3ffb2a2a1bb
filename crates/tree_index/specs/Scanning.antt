-- Reading an index's entries in order.
use Rattle.std.specs.Prelude.{◌≡◌, ◌≤◌, ◌<◌, ℕ, Bool, true, false, List, [], ◌∷◌, ◌++◌, ◌+◌, ◌-◌, length, map, take, drop, slice_index_or, if◌then◌else◌, ⊤, Result, MatchResult}
use Rattle.sqlval.specs.Faults.{IsOutside}
use Rattle.sqlval.specs.declared.collation.Collation.{Collation}
use Rattle.sqlval.specs.declared.fault.Fault.{Fault}
use Rattle.sqlval.specs.declared.value.Value.{Value}
use Rattle.record.specs.Record.{IsRecord}
use Rattle.pages.specs.Map.{PageMap, AreWhole}
use Rattle.tree_page.specs.Cells.{Pairwise}
use Rattle.tree_page.specs.Node.{Entries, IsNode, Local, Node}
use Rattle.tree_page.specs.Payload.{index_most}
use Rattle.tree_page.specs.Reading.{Place}
use Rattle.tree_index.specs.Comparing.{HasEntries}
use Rattle.tree_index.specs.Entries.{Entry, AreEntries, entries_from}
use Rattle.tree_index.specs.Tree.{Held, IsHeldAs, Tree, top, entries_of, Lies, IsIndexTree}

-- the entries that come from a cursor's place on: none at the end
abbrev pub coming : Bool → Bool → List Collation → List Value → List Entry → List Entry
coming ended after columns key entries = if ended then [] else entries_from after columns key entries

-- Of a tree, the batch has the records of the next entries that come, in order, and the others come later; there is none only at the end. Or
-- memory was short, or a disk's call failed.
abbrev pub GivesBatch : PageMap → ℕ → ℕ → List Collation → (List Entry → List Entry) → (List Entry → List Entry) → Bool → List (List ℕ) → Result ⊤ Fault → Type 0
GivesBatch pages size root columns next later ended batch result = (entries : List Entry) (used : List ℕ) → AreWhole size pages
    → IsIndexTree pages size root columns entries used
    → MatchResult result (λ done. (given : List Entry) × Pairwise IsRecord batch given × (next entries ≡ given ++ later entries) × (given ≡ [] → ended ≡ true)) IsOutside

-- ---- steps

-- the record of the entry at a place of a page was put after what stood there before; or memory was short, or a disk's call failed
abbrev pub ReadsEntry : PageMap → ℕ → ℕ → ℕ → List ℕ → List ℕ → Result ⊤ Fault → Type 0
ReadsEntry pages size number place before after result = (node : Node) (entries : List Held) (d : Held) → AreWhole size pages
    → HasEntries pages size number node entries → place < length entries
    → MatchResult result (λ done. after ≡ before ++ (slice_index_or entries place d).payload) IsOutside

-- it is one more of these records; or memory was short, or a disk's call failed
abbrev pub PushesEntry : PageMap → ℕ → ℕ → ℕ → List (List ℕ) → List (List ℕ) → Result ⊤ Fault → Type 0
PushesEntry pages size number place before after result = (node : Node) (entries : List Held) (d : Held) → AreWhole size pages
    → HasEntries pages size number node entries → place < length entries
    → MatchResult result (λ done. after ≡ before ++ (slice_index_or entries place d).payload ∷ []) IsOutside

-- Of a leaf, the record of the entry at a place is one more of these records, if it lies whole in its cell; else they stay. Or memory was short, or
-- a disk's call failed.
abbrev pub PushesLying : Place → ℕ → ℕ → List (List ℕ) → List (List ℕ) → Result Bool Fault → Type 0
PushesLying page most place before after result = (pages : PageMap) (size : ℕ) (said : List Local) (entries : List Held) (d : Held) → most ≡ index_most size
    → IsNode page.bytes page.start (Entries said) → Pairwise (IsHeldAs pages size) said entries → place < length entries
    → MatchResult result (λ whole. after ≡ (if whole then before ++ (slice_index_or entries place d).payload ∷ [] else before)) IsOutside

-- these records and those of the entries from a place up to another are those and the ones from a third place on
abbrev pub AreCopied : List Held → ℕ → ℕ → List (List ℕ) → List (List ℕ) → ℕ → Type 0
AreCopied entries from upto before after at =
    before ++ map (λ held. held.payload) (take (upto - from) (drop from entries)) ≡ after ++ map (λ held. held.payload) (take (upto - at) (drop at entries))

-- Of a leaf, the records of the entries from a place up to another, where there are as many, are put after these up to the place that is answered;
-- or memory was short, or a disk's call failed.
abbrev pub CopiesLying : Place → ℕ → ℕ → ℕ → List (List ℕ) → List (List ℕ) → Result ℕ Fault → Type 0
CopiesLying page most from upto before after result = (pages : PageMap) (size : ℕ) (said : List Local) (entries : List Held) → most ≡ index_most size
    → IsNode page.bytes page.start (Entries said) → Pairwise (IsHeldAs pages size) said entries → (from < upto → upto ≤ length entries)
    → MatchResult result (AreCopied entries from upto before after) IsOutside

-- the same of the page of a number that says entries
abbrev pub CopiesFirst : PageMap → ℕ → ℕ → ℕ → ℕ → List (List ℕ) → List (List ℕ) → Result ℕ Fault → Type 0
CopiesFirst pages size number from upto before after result = (node : Node) (entries : List Held) → HasEntries pages size number node entries
    → (from < upto → upto ≤ length entries) → MatchResult result (AreCopied entries from upto before after) IsOutside

-- up to so many of these from a place on are all
abbrev pub AreAll : ℕ → ℕ → ℕ → Bool → Type 0
AreAll len place most all = (all ≡ true → len ≤ place + most) × (all ≡ false → place + most < len)

-- The records of the entries of a page from a place on, up to so many, are put after these, and the answer is whether these are all; or memory
-- was short, or a disk's call failed.
abbrev pub CopiesEntries : PageMap → ℕ → ℕ → ℕ → ℕ → List (List ℕ) → List (List ℕ) → Result Bool Fault → Type 0
CopiesEntries pages size number place most before after result = (node : Node) (entries : List Held) → AreWhole size pages
    → HasEntries pages size number node entries
    → MatchResult result (λ all. (after ≡ before ++ map (λ held. held.payload) (take most (drop place entries))) × AreAll (length entries) place most all)
    IsOutside

-- The batch has the records of the first entries that come of these: of all, or of some, and at least one.
pub record IsBatch (after : Bool) (columns : List Collation) (key : List Value) (entries : List Entry) (batch : List (List ℕ)) (whole : Bool) : Type 0 where
  pub given : List Entry
  pub rest : List Entry
  pub records : Pairwise IsRecord batch given
  pub split : entries_from after columns key entries ≡ given ++ rest
  pub all : whole ≡ true → rest ≡ []
  pub some : whole ≡ false → given ≡ [] → ⊥

-- where a tree is under a page, an empty batch gets the records of its first entries that come; or memory was short, or a disk's call failed
abbrev pub GivesBelow : PageMap → ℕ → ℕ → ℕ → Bool → List Collation → List Value → List (List ℕ) → List (List ℕ) → Result Bool Fault → Type 0
GivesBelow pages size number ways after columns key before batch result = (depth : ℕ) (t : Tree depth) → AreWhole size pages → top depth t ≡ number
    → Lies pages size depth t → depth ≤ ways → AreEntries columns (entries_of depth t) → before ≡ []
    → MatchResult result (IsBatch after columns key (entries_of depth t) batch) IsOutside

-- What calls do with an index's tree: it is a set of entries in rising order.
use Rattle.std.specs.Prelude.{◌≡◌, ◌⊎◌, ◌≤◌, ◌+◌, ℕ, zero, suc, Bool, true, false, List, [], ◌∷◌, length, take, ⊤, Option, None, Some, Result, MatchResult}
use Rattle.sqlval.specs.Faults.{IsOutside}
use Rattle.sqlval.specs.PageSizes.{IsPageSize}
use Rattle.sqlval.specs.declared.collation.Collation.{Collation}
use Rattle.sqlval.specs.declared.fault.Fault.{Fault}
use Rattle.sqlval.specs.declared.fault.Fault.TheVariants.{TooLong}
use Rattle.record.specs.Record.{IsRecord}
use Rattle.record.specs.Writing.{AreStorable}
use Rattle.pages.specs.Calls.{IsOutsideOrFull}
use Rattle.pages.specs.Counting.{occurs, Moves}
use Rattle.pages.specs.Map.{PageMap}
use Rattle.freelist.specs.Calls.{AreFree, KeepsHeader}
use Rattle.sqlval.specs.declared.value.Value.{Value}
use Rattle.tree_index.specs.Entries.{Entry, AreLong, ComeInTurn, GoInTurn, LeadsTo, has_entry, key_in, with_entries, with_entry, without_entries, without_entry}
use Rattle.tree_index.specs.Tree.{IsIndexTree}

-- a tree of these entries, and free pages beside it, none of them in it; page 1 isn't one of its pages
pub record Stands (map : PageMap) (size root : ℕ) (columns : List Collation) (entries : List Entry) (used free : List ℕ) : Type 0 where
  pub tree : IsIndexTree map size root columns entries used
  pub free_are : AreFree map size free
  pub apart : (n : ℕ) → occurs n used + occurs n free ≤ 1
  pub first : occurs 1 used ≡ 0
  pub sized : IsPageSize size

-- ---- a new tree

-- A page was taken that is the root of an empty tree. The file grew only if no page is free.
pub record IsNewTree (old new : PageMap) (size : ℕ) (columns : List Collation) (free : List ℕ) (root : ℕ) : Type 0 where
  pub now_free : List ℕ
  pub stands : Stands new size root columns [] (root ∷ []) now_free
  pub moves : Moves old new [] free (root ∷ []) now_free
  pub header : KeepsHeader old new
  pub rule : (length new ≡ length old) ⊎ (now_free ≡ [])

-- Where these pages are free, a tree without entries is made; or memory was short, a disk's call failed, or there are as many pages as
-- there may be.
abbrev pub MakesTree : PageMap → PageMap → ℕ → Result ℕ Fault → Type 0
MakesTree old new size result = (columns : List Collation) (free : List ℕ) → AreFree old size free → IsPageSize size
    → MatchResult result (IsNewTree old new size columns free) IsOutsideOrFull

-- ---- pages that are given back

-- These pages are free now.
pub record AreGivenBack (old new : PageMap) (size : ℕ) (used free : List ℕ) : Type 0 where
  pub now_free : List ℕ
  pub free_are : AreFree new size now_free
  pub moves : Moves old new used free [] now_free
  pub header : KeepsHeader old new
  pub same : length new ≡ length old

-- Where a tree stands, its pages are free then; or memory was short, or a disk's call failed.
abbrev pub FreesTree : PageMap → PageMap → ℕ → ℕ → Result ⊤ Fault → Type 0
FreesTree old new size root result = (columns : List Collation) (entries : List Entry) (used free : List ℕ)
    → Stands old size root columns entries used free → MatchResult result (λ done. AreGivenBack old new size used free) IsOutside

-- a tree without entries stands under this root, which is its one page; its other pages are free
pub record IsCleared (old new : PageMap) (size root : ℕ) (columns : List Collation) (used free : List ℕ) : Type 0 where
  pub now_free : List ℕ
  pub stands : Stands new size root columns [] (root ∷ []) now_free
  pub moves : Moves old new used free (root ∷ []) now_free
  pub header : KeepsHeader old new
  pub same : length new ≡ length old

-- Where a tree stands, it has no entries then, and its root is its one page; or memory was short, or a disk's call failed.
abbrev pub ClearsTree : PageMap → PageMap → ℕ → ℕ → Result ⊤ Fault → Type 0
ClearsTree old new size root result = (columns : List Collation) (entries : List Entry) (used free : List ℕ)
    → Stands old size root columns entries used free
    → MatchResult result (λ done. IsCleared old new size root columns used free) IsOutside

-- ---- a new entry

-- The tree under the same root has these entries now. It and the freelist share the pages that they had and those that were added.
pub record BecomesEntries (old new : PageMap) (size root : ℕ) (columns : List Collation) (entries : List Entry) (used free : List ℕ) : Type 0 where
  pub now_used : List ℕ
  pub now_free : List ℕ
  pub stands : Stands new size root columns entries now_used now_free
  pub moves : Moves old new used free now_used now_free
  pub header : KeepsHeader old new

-- memory was short, a disk's call failed, there are as many pages as there may be, or no record can hold the entry
abbrev pub IsInsertRefusal : Entry → Fault → Type 0
IsInsertRefusal entry fault = IsOutsideOrFull fault ⊎ ((fault ≡ TooLong) × (AreStorable entry → ⊥))

-- the entry was put in, where none equals the key; or one does, and nothing changed
abbrev pub IsInsertedBy : PageMap → PageMap → ℕ → ℕ → List Collation → List Value → Entry → List Entry → List ℕ → List ℕ → Bool → Type 0
IsInsertedBy old new size root columns key entry entries used free true =
    (has_entry columns key entries ≡ false) × BecomesEntries old new size root columns (with_entry columns entry entries) used free
IsInsertedBy old new size root columns key entry entries used free false = (has_entry columns key entries ≡ true) × (new ≡ old)

-- the entry was put in; or it is there and nothing changed
abbrev pub IsInserted : PageMap → PageMap → ℕ → ℕ → List Collation → Entry → List Entry → List ℕ → List ℕ → Bool → Type 0
IsInserted old new size root columns entry = IsInsertedBy old new size root columns entry entry

-- the entry was put in, and no other begins with the values of its columns; or one does, and nothing changed
abbrev pub IsInsertedAlone : PageMap → PageMap → ℕ → ℕ → List Collation → Entry → List Entry → List ℕ → List ℕ → Bool → Type 0
IsInsertedAlone old new size root columns entry = IsInsertedBy old new size root columns (key_in columns entry) entry

-- the entry was put in, where none equals the key, and so many of the rest, none of which was there in its turn; or one does, and nothing changed
abbrev pub IsFirstInserted : PageMap → PageMap → ℕ → ℕ → List Collation → List Value → Entry → List Entry → List Entry → List ℕ → List ℕ → Option ℕ → Type 0
IsFirstInserted old new size root columns key entry rest entries used free None = (has_entry columns key entries ≡ true) × (new ≡ old)
IsFirstInserted old new size root columns key entry rest entries used free (Some more) =
    (more ≤ length rest) × (has_entry columns key entries ≡ false) × ComeInTurn columns (entry ∷ take more rest) entries
    × BecomesEntries old new size root columns (with_entries columns (entry ∷ take more rest) entries) used free

-- Where a tree stands, the entry of a payload is put at the place to which the key leads, and some of the rest with it; or memory was short, a
-- disk's call failed, or there are as many pages as there may be.
abbrev pub PutsEntry : PageMap → PageMap → ℕ → ℕ → List Collation → List Value → List ℕ → List Entry → Result (Option ℕ) Fault → Type 0
PutsEntry old new size root columns key payload rest result =
    (entry : Entry) (entries : List Entry) (used free : List ℕ) → Stands old size root columns entries used free → LeadsTo columns key entry
    → IsRecord payload entry → AreLong columns (entry ∷ rest)
    → MatchResult result (IsFirstInserted old new size root columns key entry rest entries used free) IsOutsideOrFull

-- Where a tree stands, an entry of its columns and a rowid is put into it; or the call is refused.
abbrev pub InsertsEntry : PageMap → PageMap → ℕ → ℕ → List Collation → Entry → Result Bool Fault → Type 0
InsertsEntry old new size root columns entry result =
    (entries : List Entry) (used free : List ℕ) → Stands old size root columns entries used free → length entry ≡ length columns + 1
    → MatchResult result (IsInserted old new size root columns entry entries used free) (IsInsertRefusal entry)

-- Where a tree stands, an entry of its columns and a rowid is put into it, unless one is there that begins with the values of these
-- columns; or the call is refused.
abbrev pub InsertsAlone : PageMap → PageMap → ℕ → ℕ → List Collation → Entry → Result Bool Fault → Type 0
InsertsAlone old new size root columns entry result =
    (entries : List Entry) (used free : List ℕ) → Stands old size root columns entries used free → length entry ≡ length columns + 1
    → MatchResult result (IsInsertedAlone old new size root columns entry entries used free) (IsInsertRefusal entry)

-- ---- entries that are put in one after the other

-- none is given, or the first is among the entries
abbrev pub IsFirstThere : List Collation → List Entry → List Entry → Type 0
IsFirstThere columns [] entries = ⊤
IsFirstThere columns (first ∷ given) entries = has_entry columns first entries ≡ true

-- so many of the given entries, the first ones, were put in, none of which was there in its turn; or it is none, since there is no first one or it is
-- there, and nothing changed
abbrev pub IsRunInserted : PageMap → PageMap → ℕ → ℕ → List Collation → List Entry → List Entry → List ℕ → List ℕ → ℕ → Type 0
IsRunInserted old new size root columns given entries used free zero = IsFirstThere columns given entries × (new ≡ old)
IsRunInserted old new size root columns given entries used free (suc more) =
    (suc more ≤ length given) × ComeInTurn columns (take (suc more) given) entries
    × BecomesEntries old new size root columns (with_entries columns (take (suc more) given) entries) used free

-- memory was short, a disk's call failed, there are as many pages as there may be, or no record can hold the first of the entries
abbrev pub IsFirstRefusal : List Entry → Fault → Type 0
IsFirstRefusal [] fault = ⊥
IsFirstRefusal (first ∷ given) fault = IsInsertRefusal first fault

-- Where a tree stands, the first of the given entries, each of its columns and a rowid, are put into it; or the call is refused.
abbrev pub InsertsRun : PageMap → PageMap → ℕ → ℕ → List Collation → List Entry → Result ℕ Fault → Type 0
InsertsRun old new size root columns given result =
    (entries : List Entry) (used free : List ℕ) → Stands old size root columns entries used free → AreLong columns given
    → MatchResult result (IsRunInserted old new size root columns given entries used free) (IsFirstRefusal given)

-- ---- an entry that is taken out

-- the entry was taken out; or it isn't there and nothing changed
abbrev pub IsRemoved : PageMap → PageMap → ℕ → ℕ → List Collation → Entry → List Entry → List ℕ → List ℕ → Bool → Type 0
IsRemoved old new size root columns entry entries used free true =
    (has_entry columns entry entries ≡ true) × BecomesEntries old new size root columns (without_entry columns entry entries) used free
IsRemoved old new size root columns entry entries used free false = (has_entry columns entry entries ≡ false) × (new ≡ old)

-- Where a tree stands, an entry of its columns and a rowid is taken out of it; or memory was short, a disk's call failed, or there are as many
-- pages as there may be: pages that are joined may need one more.
abbrev pub RemovesEntry : PageMap → PageMap → ℕ → ℕ → List Collation → Entry → Result Bool Fault → Type 0
RemovesEntry old new size root columns entry result =
    (entries : List Entry) (used free : List ℕ) → Stands old size root columns entries used free → length entry ≡ length columns + 1
    → MatchResult result (IsRemoved old new size root columns entry entries used free) IsOutsideOrFull

-- ---- entries that are taken out one after the other

-- none is given, or the first isn't among the entries
abbrev pub IsFirstMissing : List Collation → List Entry → List Entry → Type 0
IsFirstMissing columns [] entries = ⊤
IsFirstMissing columns (first ∷ given) entries = has_entry columns first entries ≡ false

-- so many of the given entries, the first ones, were taken out, each of which was there in its turn; or it is none, since there is no first one, and
-- nothing changed
abbrev pub IsRunRemoved : PageMap → PageMap → ℕ → ℕ → List Collation → List Entry → List Entry → List ℕ → List ℕ → ℕ → Type 0
IsRunRemoved old new size root columns given entries used free zero = IsFirstMissing columns given entries × (new ≡ old)
IsRunRemoved old new size root columns given entries used free (suc more) =
    (suc more ≤ length given) × GoInTurn columns (take (suc more) given) entries
    × BecomesEntries old new size root columns (without_entries columns (take (suc more) given) entries) used free

-- Where a tree stands, the first of the given entries, each of its columns and a rowid, are taken out of it; or memory was short, a disk's call
-- failed, or there are as many pages as there may be.
abbrev pub RemovesRun : PageMap → PageMap → ℕ → ℕ → List Collation → List Entry → Result ℕ Fault → Type 0
RemovesRun old new size root columns given result =
    (entries : List Entry) (used free : List ℕ) → Stands old size root columns entries used free → AreLong columns given
    → MatchResult result (IsRunRemoved old new size root columns given entries used free) IsOutsideOrFull

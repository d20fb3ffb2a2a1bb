-- The rows of a leaf, by their places.
use Rattle.std.proofs.Common.{◌≡◌, refl, sym, ◌∙◌, ap, subst, ℕ, zero, suc, ◌<◌, ◌≤◌, ◌-◌, nat_eq, Bool, false, ℤ, List, [], ◌∷◌, ◌++◌, length, map, take, drop, slice_index_or, IsTrue, Result, Ok, Err, SFits, w64, to_z, of_z, arith}
use Rattle.std.specs.Prelude.{⊤, MatchResult, IsErrAnd}
use Rattle.std.proofs.lemmas.Bool.Decides.{nat_tests}
use Rattle.std.proofs.lemmas.Int.{to_z-of_z}
use Rattle.std.proofs.lemmas.List.{append-nil, take_all, drop_all}
use Rattle.sqlval.specs.Faults.{IsOutside}
use Rattle.sqlval.specs.declared.fault.Fault.{Fault}
use Rattle.tree_overflow.specs.Chains.{IsChain, IsPayload, first_link}
use Rattle.tree_overflow.specs.Calls.{Reads}
use Rattle.pages.specs.Calls.{Limits}
use Rattle.pages.specs.Map.{PageMap, page_at, AreWhole}
use Rattle.pages.specs.Counting.{start_of}
use Rattle.tree_page.specs.Cells.{Pairwise}
use Rattle.tree_page.specs.Node.{Local, Rows, IsNode}
use Rattle.tree_page.specs.Payload.{local_size, table_most}
use Rattle.tree_page.specs.Reading.{row_of}
use Rattle.tree_page.specs.declared.items.Row.{Row}
use Rattle.tree_table.proofs.StepsDown.{ok_is}
use Rattle.tree_table.specs.Tree.{Held, IsHeldAs, Leaf, IsLeaf}
use Rattle.tree_table.specs.Ways.{IsRowAt}

-- a refusal is passed on
pub refused : {X : Type 0} (P : X → Type 0) (result : Result X Fault) (fault : Fault) → IsErrAnd result (λ e. e ≡ fault) → IsOutside fault → MatchResult result P IsOutside
refused P (Ok x) fault is outside = absurd is
refused P (Err e) fault is outside = subst IsOutside (sym is) outside

-- ---- rowids

pub number_there : (rows : List (ℤ × Local)) (place : ℕ) (d : ℤ × Local) (z : ℤ) → place < length rows → slice_index_or (map (λ row. row.0) rows) place z ≡ (slice_index_or rows place d).0
number_there [] place d z lt = absurd (omega (arith, lt))
number_there (row ∷ rows) zero d z lt = refl
number_there (row ∷ rows) (suc place) d z lt = number_there rows place d z (omega (arith, lt))

pub numbers_counted : (rows : List (ℤ × Local)) → length (map (λ row. row.0) rows) ≡ length rows
numbers_counted [] = refl
numbers_counted (row ∷ rows) = ap suc (numbers_counted rows)

pub no_row_at : (numbers : List ℤ) (place : ℕ) (rowid : ℤ) → length numbers ≤ place → IsRowAt numbers place rowid false
no_row_at numbers place rowid le = (λ so. absurd (never so), λ there. absurd (omega (arith, le, there.0))) where
  never : IsTrue false → ⊥
  never e = cc

eq_true : (a b : ℕ) → IsTrue (nat_eq a b) → a ≡ b
eq_true a b h = grind (arith, nat_tests)

is_eq : (a b : ℕ) → a ≡ b → IsTrue (nat_eq a b)
is_eq a b h = grind (arith, nat_tests)

pub row_at_place : (rows : List (ℤ × Local)) (place : ℕ) (row : Row) (rowid : ℤ) → SFits w64 row.rowid → SFits w64 rowid → place < length rows
    → ((d : ℤ × Local) → row_of row ≡ slice_index_or rows place d) → IsRowAt (map (λ row. row.0) rows) place rowid (nat_eq (of_z w64 row.rowid) (of_z w64 rowid))
row_at_place rows place row rowid fits its_fits lt is =
    let number = λ (d : ℤ). number_there rows place (row_of row) d lt ∙ sym (ap (λ (r : ℤ × Local). r.0) (is (row_of row))) in (
      λ so. (
        omega (arith, lt, numbers_counted rows),
        λ d. number d ∙ sym (to_z-of_z w64 row.rowid fits) ∙ ap (λ (n : ℕ). to_z w64 n) (eq_true (of_z w64 row.rowid) (of_z w64 rowid) so) ∙ to_z-of_z w64 rowid its_fits,
      ),
      λ there. is_eq (of_z w64 row.rowid) (of_z w64 rowid) (ap (λ (z : ℤ). of_z w64 z) (sym (number rowid) ∙ there.1 rowid)),
    )

-- ---- the page of a leaf

pub says_rows : (pages : PageMap) (size page : ℕ) (bytes : List ℕ) (leaf : Leaf) (is : IsLeaf pages size leaf) → leaf.page ≡ page → bytes ≡ page_at pages page → IsNode bytes (start_of page) (Rows is.said)
says_rows pages size page bytes leaf is at read =
    subst (λ (them : List ℕ). IsNode them (start_of page) (Rows is.said)) (sym read) (subst (λ (n : ℕ). IsNode (page_at pages n) (start_of n) (Rows is.said)) at is.says.node_is)

-- what a leaf says of the row at a place
pub said_there : (pages : PageMap) (size : ℕ) (said : List (ℤ × Local)) (rows : List Held) (place : ℕ) (item : ℤ × Local) (d : Held) → Pairwise (IsHeldAs pages size) said rows → place < length rows
    → (place < length said) × IsHeldAs pages size (slice_index_or said place item) (slice_index_or rows place d)
said_there pages size [] [] place item d all lt = absurd (omega (arith, lt))
said_there pages size [] (row ∷ rows) place item d all lt = absurd all
said_there pages size (one ∷ said) [] place item d all lt = absurd all
said_there pages size (one ∷ said) (row ∷ rows) zero item d all lt = (omega arith, all.0)
said_there pages size (one ∷ said) (row ∷ rows) (suc place) item d all lt =
    (let rest = said_there pages size said rows place item d all.1 (omega (arith, lt)) in (omega (arith, rest.0), rest.1))

pub said_counted : (pages : PageMap) (size : ℕ) (said : List (ℤ × Local)) (rows : List Held) → Pairwise (IsHeldAs pages size) said rows → length said ≡ length rows
said_counted pages size [] [] all = refl
said_counted pages size [] (row ∷ rows) all = absurd all
said_counted pages size (one ∷ said) [] all = absurd all
said_counted pages size (one ∷ said) (row ∷ rows) all = ap suc (said_counted pages size said rows all.1)

-- a leaf has as many rows as it says
pub counted_in : (pages : PageMap) (size : ℕ) (said : List (ℤ × Local)) (rows : List Held) (count : ℕ) → Pairwise (IsHeldAs pages size) said rows → ◌≡◌ {A = Result ℕ Fault} (Ok count) (Ok (length said)) → count ≡ length rows
counted_in pages size said rows count all is = ok_is count (length said) is ∙ said_counted pages size said rows all

-- what was read of that row
pub row_is_held : (pages : PageMap) (size : ℕ) (leaf : Leaf) (place : ℕ) (row : Row) (d : Held) (is : IsLeaf pages size leaf) → place < length leaf.rows
    → ((e : ℤ × Local) → place < length is.said → row_of row ≡ slice_index_or is.said place e) → IsHeldAs pages size (row_of row) (slice_index_or leaf.rows place d)
row_is_held pages size leaf place row d is lt reads =
    let there = said_there pages size is.said leaf.rows place (row_of row) d is.rows lt in
    subst (λ (item : ℤ × Local). IsHeldAs pages size item (slice_index_or leaf.rows place d)) (sym (reads (row_of row) there.0)) there.1

-- ---- a payload that lies whole in its cell

no_link : (pages : PageMap) (usable : ℕ) (bytes chain : List ℕ) → IsChain pages usable bytes chain → length bytes ≡ 0 → first_link chain ≡ []
no_link pages usable bytes [] is none = refl
no_link pages usable bytes (page ∷ chain) is none = absurd (omega (arith, (is.0).some, none))

pub local_whole : (usable most size : ℕ) → size ≤ most → local_size usable most size ≡ size
local_whole usable most size le = grind (arith, nat_tests)

pub lies_whole : (pages : PageMap) (usable most : ℕ) (bytes payload chain : List ℕ) → IsPayload pages usable most bytes payload chain → length payload ≤ most → bytes ≡ payload
lies_whole pages usable most bytes payload chain is le =
    let all = local_whole usable most (length payload) le in
    let rest : length (drop (local_size usable most (length payload)) payload) ≡ 0 = ap (λ (n : ℕ). length (drop n payload)) all ∙ ap length (drop_all (length payload) payload (omega arith)) in
    is.parts ∙ ap (λ (n : ℕ). take n payload ++ first_link chain) all ∙ ap (λ (link : List ℕ). take (length payload) payload ++ link) (no_link pages usable _ chain is.chain rest)
    ∙ append-nil (take (length payload) payload) ∙ take_all (length payload) payload (omega arith)

-- ---- what the calls answer

pub row_at_leaf : (said : List (ℤ × Local)) (numbers : List ℤ) (place : ℕ) (rowid again : ℤ) (there : Bool) → again ≡ rowid → map (λ row. row.0) said ≡ numbers
    → IsRowAt (map (λ row. row.0) said) place again there → IsRowAt numbers place rowid there
row_at_leaf said numbers place rowid again there plain same is =
    subst (λ (z : ℤ). IsRowAt numbers place z there) plain (subst (λ (them : List ℤ). IsRowAt them place again there) same is)

module _ {P K : Type 0} (below : P → K) (tells : K → Bool) (limits : K → Limits) (map : P → PageMap) where
  reads_since : (old mid : P) (most size : ℕ) (held before after : List ℕ) (result : Result ⊤ Fault) → below mid ≡ below old → map mid ≡ map old
      → (IsTrue (tells (below mid)) → Reads (map mid) (limits (below mid)).page most held size before after result) → IsTrue (tells (below old))
      → Reads (map old) (limits (below old)).page most held size before after result
  reads_since old mid most size held before after result kept same reads told =
      subst (λ (k : K). Reads (map old) (limits k).page most held size before after result) kept
      (subst (λ (m : PageMap). Reads m (limits (below mid)).page most held size before after result) same (reads (subst (λ (k : K). IsTrue (tells k)) (sym kept) told)))

  -- the payload of a row was read over the pages after its leaf's
  pub payload_read : (old mid : P) (most : ℕ) (row : Row) (before after held : List ℕ) (result : Result ⊤ Fault) (it : Held) → below mid ≡ below old → map mid ≡ map old
      → most ≡ (limits (below mid)).page - 35 → held ≡ row.payload.bytes.now → AreWhole (limits (below old)).page (map old) → IsHeldAs (map old) (limits (below old)).page (row_of row) it
      → (IsTrue (tells (below mid)) → Reads (map mid) (limits (below mid)).page most held row.payload.size before after result) → IsTrue (tells (below old))
      → MatchResult result (λ done. after ≡ before ++ it.row.payload) IsOutside
  payload_read old mid most row before after held result it kept same is_most is_held whole is reads told =
      let size = (limits (below old)).page in
      let most_is : most ≡ table_most size = is_most ∙ ap (λ (k : K). (limits k).page - 35) kept in
      let begun = subst (λ (n : ℕ). IsPayload (map old) size n held it.row.payload it.pages) (sym most_is)
      (subst (λ (them : List ℕ). IsPayload (map old) size (table_most size) them it.row.payload it.pages) (sym is_held) is.payload) in
      reads_since old mid most row.payload.size held before after result kept same reads told it.row.payload it.pages whole begun (sym is.size)

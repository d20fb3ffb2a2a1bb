-- Where packed pages begin, told by their counts.
use Rattle.std.proofs.Common.{◌≡◌, ◌≤◌, ℕ, suc, List, [], ◌∷◌, ◌++◌, length, take, drop, refl, ap, ◌∙◌, arith}
use Rattle.std.proofs.lemmas.List.{length-drop, take_at}
use Rattle.pages.specs.Counting.{start_of}
use Rattle.tree_pack.specs.Lists.{entry_parts, with_key, row_parts, sides_of}
use Rattle.tree_pack.specs.Packing as packing
use Rattle.tree_pack.specs.Rows.{LieWithin}
use Rattle.tree_pack.specs.declared.spreading.Piece.{Piece}
use Rattle.tree_table.specs.Growing.{start_in}

-- The counts are those of so many pieces.
pub record AreCounted (counts : List ℕ) (pieces : ℕ) : Type 0 where
  pub none : counts ≡ [] → pieces ≡ 0
  pub some : (counts ≡ [] → ⊥) → 1 ≤ pieces
  pub few : pieces ≤ length counts

no_cons : {A : Type 0} {x : A} {xs : List A} → x ∷ xs ≡ [] → ⊥
no_cons e = cc

-- ---- rows

pub rows_counted : {A K : Type 0} (key : List A → K) (counts : List ℕ) (rows : List A) → length (row_parts key counts rows).0 ≡ length counts
rows_counted key [] rows = refl
rows_counted key (count ∷ counts) rows = (let e = rows_counted key counts (drop count rows) in omega (arith, e))

pub are_counted : (counts : List ℕ) (pieces : ℕ) → pieces ≡ length counts → AreCounted counts pieces
are_counted [] pieces e = record { none = λ none. e; some = λ some. absurd (some refl); few = omega (arith, e) }
are_counted (count ∷ counts) pieces e = record { none = λ none. absurd (no_cons none); some = λ some. omega (arith, e); few = omega (arith, e) }

-- ---- children

key_few : {A : Type 0} (counts : List ℕ) (whole front rest : List A) → ((xs : List A) → length (entry_parts counts xs).0 ≤ length counts)
    → length (with_key whole front rest (λ xs. entry_parts counts xs)).0 ≤ suc (length counts)
key_few counts whole front [] more = omega arith
key_few counts whole front (item ∷ rest) more = (let le = more rest in omega (arith, le))

parts_few : {A : Type 0} (counts : List ℕ) (items : List A) → length (entry_parts counts items).0 ≤ length counts
parts_few [] items = omega arith
parts_few (count ∷ counts) items = key_few counts items (take count items) (drop count items) (λ xs. parts_few counts xs)

key_some : {A : Type 0} (counts : List ℕ) (whole front rest : List A) → 1 ≤ length rest → 1 ≤ length (with_key whole front rest (λ xs. entry_parts counts xs)).0
key_some counts whole front [] some = absurd (omega (arith, some))
key_some counts whole front (item ∷ rest) some = omega arith

pub parts_counted : {A : Type 0} (counts : List ℕ) (items : List A) (pieces : ℕ) → LieWithin 1 counts (length items) → pieces ≡ length (entry_parts counts items).0 → AreCounted counts pieces
parts_counted [] items pieces within e = record { none = λ none. e; some = λ some. absurd (some refl); few = omega (arith, e) }
parts_counted (count ∷ counts) items pieces within e =
    let len = length-drop count items in
    let le = within.1 in
    let some = key_some counts items (take count items) (drop count items) (omega (arith, len, le)) in
    let few = parts_few (count ∷ counts) items in
    record { none = λ none. absurd (no_cons none); some = λ is. omega (arith, e, some); few = omega (arith, e, few) }

pub sides_count : {T K : Type 0} (parts : List (List (T × K) × (T × K))) → length (sides_of parts) ≡ length parts
sides_count [] = refl
sides_count (part ∷ parts) = (let e = sides_count parts in omega (arith, e))

-- ---- pages

pub begins_same : (front : List ℕ) (number : ℕ) (counts : List ℕ) (pieces : List Piece) → AreCounted counts (length pieces) → length front ≡ start_of number → packing.start_of front counts ≡ start_in number pieces
begins_same front number [] [] are long = long
begins_same front number [] (piece ∷ pieces) are long = absurd (let none = are.none refl in omega (arith, none))
begins_same front number (count ∷ counts) [] are long = absurd (let some = are.some (λ e. no_cons e) in omega (arith, some))
begins_same front number (count ∷ counts) (piece ∷ pieces) are long = refl

pub no_counts : (counts : List ℕ) (pieces : List Piece) → AreCounted counts (length pieces) → pieces ≡ [] → counts ≡ []
no_counts [] pieces are e = refl
no_counts (count ∷ counts) pieces are e = absurd (let some = are.some (λ e. no_cons e) in let none = ap length e in omega (arith, some, none))

-- a page alone begins as the front does
pub front_alone : (front bytes : List ℕ) (start : ℕ) → length front ≡ start → (rest : List ℕ) × (bytes ≡ front ++ rest) → take start bytes ≡ front
front_alone front bytes start long is = ap (take start) is.1 ∙ take_at front is.0 start long

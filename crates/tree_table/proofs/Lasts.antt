-- The greatest rowid of a tree is that of the last row of its last leaf that has rows.
use Rattle.std.proofs.Common.{◌≡◌, refl, sym, ◌∙◌, ap, subst, ℕ, suc, ◌-◌, ◌+◌, ◌^◌, Bool, true, false, ℤ, pos, negsuc, ◌<ℤ◌, ◌≤ℤ◌, List, [], ◌∷◌, ◌++◌, length, slice_index_or, map, Option, Some, None, Ok, IsTrue, arith}
use Rattle.std.proofs.lemmas.Int.{ints}
use Rattle.std.proofs.lemmas.List.{append-nil}
use Rattle.std.specs.Prelude.{⊤, Result, is_some}
use Rattle.sqlval.specs.declared.fault.Fault.{Fault}
use Rattle.tree_leaf.specs.Leaf.{Entry}
use Rattle.pages.specs.Calls.{Limits, Stays}
use Rattle.pages.specs.Map.{PageMap, AreWhole}
use Rattle.tree_page.specs.Cells.{Pairwise}
use Rattle.tree_page.specs.Node.{Local}
use Rattle.tree_table.specs.Rows.{last_rowid}
use Rattle.tree_table.specs.Tree.{Held, IsHeldAs, IsTableTree}
use Rattle.tree_table.specs.Ways.{IsLeft, IsRight, IsEnd, FindsLeaf, rowids, last_of_numbers}
use Rattle.tree_table.specs.declared.way.End.{End}
use Rattle.tree_table.proofs.FoundRows.{since}
use Rattle.tree_table.proofs.Scans.{AreWords, words_of}
use Rattle.tree_table.proofs.StepsDown.{ok_is}
use Rattle.tree_table.proofs.WaysDown.{UpTo, Above, rows_in, said_rowids}

-- ---- the last of a list

pub last_there : (numbers : List ℤ) (d : ℤ) → (length numbers ≡ 0 → ⊥) → last_of_numbers numbers ≡ Some (slice_index_or numbers (length numbers - 1) d)
last_there [] d some = absurd (some refl)
last_there (number ∷ []) d some = (let none : 1 - 1 ≡ 0 = omega arith in sym (ap (λ (n : ℕ). Some (slice_index_or (number ∷ []) n d)) none))
last_there (number ∷ next ∷ numbers) d some =
    let less : length (number ∷ next ∷ numbers) - 1 ≡ suc (length (next ∷ numbers) - 1) = omega arith in
    last_there (next ∷ numbers) d (λ e. omega (arith, e)) ∙ sym (ap (λ (n : ℕ). Some (slice_index_or (number ∷ next ∷ numbers) n d)) less)

pub none_last : (numbers : List ℤ) → length numbers ≡ 0 → last_of_numbers numbers ≡ None
none_last [] none = refl
none_last (number ∷ numbers) none = absurd (omega (arith, none))

pub last_of_rows : (rows : List Held) → last_of_numbers (rowids rows) ≡ last_rowid (rows_in rows)
last_of_rows [] = refl
last_of_rows (row ∷ []) = refl
last_of_rows (row ∷ next ∷ rows) = last_of_rows (next ∷ rows)

-- the last number that a leaf says is that of its last row
pub last_read : (pages : PageMap) (size : ℕ) (said : List (ℤ × Local)) (rows : List Held) (last : Option ℤ) → Pairwise (IsHeldAs pages size) said rows
    → ◌≡◌ {A = Result (Option ℤ) Fault} (Ok last) (Ok (last_of_numbers (map (λ row. row.0) said))) → last ≡ last_rowid (rows_in rows)
last_read pages size said rows last all is = ok_is last _ is ∙ ap last_of_numbers (said_rowids pages size said rows all) ∙ last_of_rows rows

last_behind : (front : List Entry) (row : Entry) (rows : List Entry) → last_rowid (front ++ row ∷ rows) ≡ last_rowid (row ∷ rows)
last_behind [] row rows = refl
last_behind (one ∷ []) row rows = refl
last_behind (one ∷ two ∷ front) row rows = last_behind (two ∷ front) row rows

pub is_there : (last : Option ℤ) → is_some last ≡ true → last ≡ None → ⊥
is_there None there none = cc
is_there (Some z) there none = cc

pub not_there : (last : Option ℤ) → is_some last ≡ false → last ≡ None
not_there None none = refl
not_there (Some z) none = absurd (never none)
  where
    never : true ≡ false → ⊥
    never e = cc

-- ---- the last leaf that may have rows

upto_behind : (most : ℤ) (front rows : List Entry) → UpTo most (front ++ rows) → UpTo most rows
upto_behind most [] rows all = all
upto_behind most (row ∷ front) rows all = upto_behind most front rows all.1

none_after : (most high : ℤ) (right : Option ℤ) (after : List Entry) → IsRight most right high after → Above high after → UpTo most after → after ≡ []
none_after most high None after is behind all = is
none_after most high (Some key) [] is behind all = refl
none_after most high (Some key) (row ∷ after) is behind all = absurd (never key high most row.rowid is.0 is.1 behind.0 all.0)
  where
    never : (key high most rowid : ℤ) → key ≡ high → most ≤ℤ key → high <ℤ rowid → rowid ≤ℤ most → ⊥
    never key high most rowid same le less upto = omega (arith, ints, same, le, less, upto)

module _ (pages : PageMap) (size : ℕ) (most : ℤ) (rows : List Entry) (end : End) (is : IsEnd pages size most rows end) (all : UpTo most rows) where
  ends_with : rows ≡ is.under.front ++ rows_in is.under.t.rows
  ends_with =
      let leaf = rows_in is.under.t.rows in
      let rest = subst (UpTo most) is.under.rows_are all in
      let none = none_after most is.under.high end.way.right is.under.after is.under.right_is is.under.after_is (upto_behind most leaf is.under.after (upto_behind most is.under.front (leaf ++ is.under.after) rest)) in
      is.under.rows_are ∙ ap (λ (them : List Entry). is.under.front ++ (leaf ++ them)) none ∙ ap (λ (them : List Entry). is.under.front ++ them) (append-nil leaf)

  of_some : (them : List Entry) (z : ℤ) → last_rowid them ≡ Some z → last_rowid (is.under.front ++ them) ≡ Some z
  of_some [] z found = absurd (let e = sym found in none_some z e)
    where
      none_some : (z : ℤ) → Some z ≡ None → ⊥
      none_some z e = cc
  of_some (row ∷ them) z found = last_behind is.under.front row them ∙ found

  -- its last row is the last of all
  pub last_found : (z : ℤ) → last_rowid (rows_in is.under.t.rows) ≡ Some z → last_rowid rows ≡ Some z
  last_found z found = ap last_rowid ends_with ∙ of_some (rows_in is.under.t.rows) z found

  pub some_found : (last : Option ℤ) → (last ≡ None → ⊥) → last ≡ last_rowid (rows_in is.under.t.rows) → last ≡ last_rowid rows
  some_found None some found = absurd (some refl)
  some_found (Some z) some found = sym (last_found z (sym found))

  none_in : (them : List Entry) → last_rowid them ≡ None → them ≡ []
  none_in [] none = refl
  none_in (row ∷ them) none = absurd (some_last row them none)
    where
      some_last : (row : Entry) (them : List Entry) → last_rowid (row ∷ them) ≡ None → ⊥
      some_last row [] e = cc
      some_last row (next ∷ them) e = some_last next them e

  all_left : last_rowid (rows_in is.under.t.rows) ≡ None → rows ≡ is.under.front
  all_left none = ends_with ∙ ap (λ (them : List Entry). is.under.front ++ them) (none_in (rows_in is.under.t.rows) none) ∙ append-nil is.under.front

  -- it has none, and nothing stands on its left
  pub none_left_of : last_rowid (rows_in is.under.t.rows) ≡ None → end.way.left ≡ None → last_rowid rows ≡ None
  none_left_of none at_start =
      let left = subst (λ (key : Option ℤ). IsLeft most key is.under.low is.under.front) at_start is.under.left_is in
      ap last_rowid (all_left none ∙ left)

  -- it has none, and all are at most the key on its left
  pub upto_left : (key : ℤ) → last_rowid (rows_in is.under.t.rows) ≡ None → end.way.left ≡ Some key → UpTo key rows
  upto_left key none at =
      let left = subst (λ (key : Option ℤ). IsLeft most key is.under.low is.under.front) at is.under.left_is in
      subst (UpTo key) (sym (all_left none)) (subst (λ (z : ℤ). UpTo z is.under.front) (sym left.0) is.under.front_is)

words_upto : (rows : List Entry) → AreWords rows → UpTo (pos (2 ^ 63 - 1)) rows
words_upto [] words = tt
words_upto (row ∷ rows) words = (let less = (words.0).1 in omega (arith, ints, less), words_upto rows words.1)

-- ---- from leaf to leaf, to the left

-- how many rowids of 64 bits are less
abbrev pub count_below : ℤ → ℕ
count_below (pos n) = 2 ^ 63 + n
count_below (negsuc n) = 2 ^ 63 - suc n

module _ {P K : Type 0} (below : P → K) (tells : K → Bool) (limits : K → Limits) (map : P → PageMap) (count : P → ℕ) (failures : P → ℕ × ℕ) where
  -- No row is greater than this.
  pub record AreUpTo (old new : P) (root : ℕ) (most : ℤ) : Type 0 where
    pub stays : Stays below map count failures {T = ⊤} (Ok tt) old new
    pub upto : IsTrue (tells (below old)) → (rows : List Entry) (used : List ℕ) → AreWhole (limits (below old)).page (map old) → IsTableTree (map old) (limits (below old)).page root rows used → UpTo most rows

  pub all_words : (old : P) (root : ℕ) → AreUpTo old old root (pos (2 ^ 63 - 1))
  all_words old root = record {
    stays = record { kept = refl; same = refl; counted = refl; causes = record { db = omega arith; log = omega arith; why = tt } };
    upto = λ told rows used whole tree. words_upto rows (words_of (map old) (limits (below old)).page root rows used tree);
  }

  pub leaf_since : (old mid : P) (root : ℕ) (most again : ℤ) (result : Result End Fault) → AreUpTo old mid root most → again ≡ most
      → (IsTrue (tells (below mid)) → FindsLeaf (map mid) (limits (below mid)).page root again result) → IsTrue (tells (below old)) → FindsLeaf (map old) (limits (below old)).page root most result
  leaf_since old mid root most again result are plain finds told =
      subst (λ (z : ℤ). FindsLeaf (map old) (limits (below old)).page root z result) plain
      (since below tells limits map (λ (m : PageMap) (n : ℕ). FindsLeaf m n root again result) old mid are.stays.kept are.stays.same finds told)

-- The rows of a leaf that lie whole in their cells, put behind those of a batch.
use Rattle.std.proofs.Common.{◌≡◌, refl, sym, ◌∙◌, ap, subst, ℕ, suc, ◌<◌, ◌≤◌, ◌+◌, ◌-◌, ℤ, List, [], ◌∷◌, ◌++◌, length, map, drop, append_assoc, slice_index_or, arith}
use Rattle.std.proofs.lemmas.List.{append-nil, drop_all, drop_more, length-drop, length-append, map-append}
use Rattle.std.specs.List.{AllByRecursion}
use Rattle.tree_leaf.specs.Leaf.{Entry}
use Rattle.pages.specs.Map.{PageMap}
use Rattle.tree_page.specs.Cells.{Pairwise}
use Rattle.tree_page.specs.Node.{Local}
use Rattle.tree_table.specs.Scanning.{AreBatched, BeginsLong, HasShort, rows_between, whole_row}
use Rattle.tree_table.specs.Tree.{Held, IsHeldAs}
use Rattle.tree_table.specs.declared.scanning.BatchRow.{BatchRow}
use Rattle.tree_table.proofs.Batches.{one_more}
use Rattle.tree_table.proofs.LeafRows.{lies_whole, said_counted, said_there}

-- What was put up to here.
pub record HasPut (said : List (ℤ × Local)) (most place at : ℕ) (entries : List Entry) (rows : List BatchRow) (bytes : List ℕ) : Type 0 where
  pub short : List (ℤ × Local)
  pub parts : drop place said ≡ short ++ drop at said
  pub at_is : at ≡ place + length short
  pub are_short : AllByRecursion (λ row. row.1.size ≤ most) short
  pub batch : AreBatched (entries ++ map whole_row short) rows bytes

pub nothing_put : (said : List (ℤ × Local)) (most place : ℕ) (entries : List Entry) (rows : List BatchRow) (bytes : List ℕ) → AreBatched entries rows bytes → HasPut said most place place entries rows bytes
nothing_put said most place entries rows bytes are = record {
  short = [];
  parts = refl;
  at_is = omega arith;
  are_short = tt;
  batch = subst (λ (es : List Entry). AreBatched es rows bytes) (sym (append-nil entries)) are;
}

one_short : (most : ℕ) (rows : List (ℤ × Local)) (row : ℤ × Local) → AllByRecursion (λ row. row.1.size ≤ most) rows → row.1.size ≤ most → AllByRecursion (λ row. row.1.size ≤ most) (rows ++ row ∷ [])
one_short most [] row all le = (le, tt)
one_short most (one ∷ rows) row all le = (all.0, one_short most rows row all.1 le)

pub one_put : (said : List (ℤ × Local)) (most place at : ℕ) (entries : List Entry) (rows new_rows : List BatchRow) (bytes new_bytes : List ℕ) (row d : ℤ × Local) → at < length said
    → row ≡ slice_index_or said at d → row.1.size ≤ most → HasPut said most place at entries rows bytes
    → ((es : List Entry) → AreBatched es rows bytes → AreBatched (es ++ whole_row row ∷ []) new_rows new_bytes) → HasPut said most place (at + 1) entries new_rows new_bytes
one_put said most place at entries rows new_rows bytes new_bytes row d lt is le has put = record {
  short = has.short ++ row ∷ [];
  parts = has.parts ∙ ap (λ (l : List (ℤ × Local)). has.short ++ l) (drop_more said at d lt ∙ ap (λ (r : ℤ × Local). r ∷ drop (at + 1) said) (sym is))
      ∙ sym (append_assoc has.short (row ∷ []) (drop (at + 1) said));
  at_is = (let both = length-append has.short (row ∷ []) in omega (arith, has.at_is, both));
  are_short = one_short most has.short row has.are_short le;
  batch = subst (λ (es : List Entry). AreBatched es new_rows new_bytes)
      (append_assoc entries (map whole_row has.short) (whole_row row ∷ []) ∙ ap (λ (es : List Entry). entries ++ es) (sym (map-append whole_row has.short (row ∷ []))))
      (put (entries ++ map whole_row has.short) has.batch);
}

has_short : (said : List (ℤ × Local)) (most place at : ℕ) (entries : List Entry) (rows : List BatchRow) (bytes : List ℕ) → HasPut said most place at entries rows bytes → BeginsLong most (drop at said)
    → HasShort said most place at entries rows bytes
has_short said most place at entries rows bytes has next = record {
  short = has.short;
  rest = drop at said;
  parts = has.parts;
  to_is = has.at_is;
  are_short = has.are_short;
  next = next;
  batch = has.batch;
}

-- it stops at the end, or before a long row
pub all_put : (said : List (ℤ × Local)) (most place at : ℕ) (entries : List Entry) (rows : List BatchRow) (bytes : List ℕ) → length said ≤ at → HasPut said most place at entries rows bytes
    → HasShort said most place at entries rows bytes
all_put said most place at entries rows bytes le has = has_short said most place at entries rows bytes has (subst (BeginsLong most) (sym (drop_all at said le)) tt)

pub stopped : (said : List (ℤ × Local)) (most place at : ℕ) (entries : List Entry) (rows : List BatchRow) (bytes : List ℕ) (row d : ℤ × Local) → at < length said → row ≡ slice_index_or said at d
    → most < row.1.size → HasPut said most place at entries rows bytes → HasShort said most place at entries rows bytes
stopped said most place at entries rows bytes row d lt is long has =
    has_short said most place at entries rows bytes has (subst (BeginsLong most) (sym (drop_more said at d lt)) (subst (λ (r : ℤ × Local). most < r.1.size) is long))

-- ---- these are rows of the leaf

heads : (a b : ℤ × Local) (rows others : List (ℤ × Local)) → a ∷ rows ≡ b ∷ others → a ≡ b
heads a b rows others e = cc

tails : (a b : ℤ × Local) (rows others : List (ℤ × Local)) → a ∷ rows ≡ b ∷ others → rows ≡ others
tails a b rows others e = cc

there_is : (at : ℕ) (said rows : List (ℤ × Local)) (row : ℤ × Local) → drop at said ≡ row ∷ rows → at < length said
there_is at said rows row is = (let left = length-drop at said in let long = ap length is in omega (arith, left, long))

same_entry : (a b : Entry) → a.rowid ≡ b.rowid → a.payload ≡ b.payload → a ≡ b
same_entry a b rowid payload = λ i. record { rowid = rowid i; payload = payload i }

short_between : (pages : PageMap) (size : ℕ) (said : List (ℤ × Local)) (held : List Held) → Pairwise (IsHeldAs pages size) said held → (place at : ℕ) (short rest : List (ℤ × Local)) → place ≤ at
    → drop at said ≡ short ++ rest → AllByRecursion (λ row. row.1.size ≤ size - 35) short → rows_between place (at + length short) held ≡ rows_between place at held ++ map whole_row short
short_between pages size said held all place at [] rest le is short =
    ap (λ (n : ℕ). rows_between place n held) (none at) ∙ sym (append-nil (rows_between place at held))
  where
    none : (n : ℕ) → n + 0 ≡ n
    none n = omega arith
short_between pages size said held all place at (row ∷ rows) rest le is short =
    let lt = there_is at said (rows ++ rest) row is in
    let it = sym is ∙ drop_more said at row lt in
    let counted = said_counted pages size said held all in
    let held_lt : at < length held = omega (arith, lt, counted) in
    let d : Held = record { row = whole_row row; pages = [] } in
    let there = said_there pages size said held at row d all held_lt in
    let held_is = subst (λ (r : ℤ × Local). IsHeldAs pages size r (slice_index_or held at d)) (sym (heads row (slice_index_or said at row) (rows ++ rest) (drop (at + 1) said) it)) there.1 in
    let whole = lies_whole pages size (size - 35) row.1.bytes _ _ held_is.payload (omega (arith, held_is.size, short.0)) in
    let entry = same_entry (whole_row row) (slice_index_or held at d).row held_is.rowid whole in
    let rest_is = sym (tails row (slice_index_or said at row) (rows ++ rest) (drop (at + 1) said) it) in
    let more = one_more place at held d le held_lt ∙ ap (λ (e : Entry). rows_between place at held ++ e ∷ []) (sym entry) in
    ap (λ (n : ℕ). rows_between place n held) (next at (length rows)) ∙ short_between pages size said held all place (at + 1) rows rest (omega (arith, le)) rest_is short.1
    ∙ ap (λ (es : List Entry). es ++ map whole_row rows) more ∙ append_assoc (rows_between place at held) (whole_row row ∷ []) (map whole_row rows)
  where
    next : (n m : ℕ) → n + suc m ≡ (n + 1) + m
    next n m = omega arith

-- a batch that had the rows of a leaf up to a place has those up to the other then
pub short_put : (pages : PageMap) (size : ℕ) (said : List (ℤ × Local)) (held : List Held) (place at to : ℕ) (rows : List BatchRow) (bytes : List ℕ) → Pairwise (IsHeldAs pages size) said held → place ≤ at
    → HasShort said (size - 35) at to (rows_between place at held) rows bytes → AreBatched (rows_between place to held) rows bytes
short_put pages size said held place at to rows bytes all le has =
    subst (λ (es : List Entry). AreBatched es rows bytes)
    (sym (short_between pages size said held all place at has.short has.rest le has.parts has.are_short) ∙ ap (λ (n : ℕ). rows_between place n held) (sym has.to_is)) has.batch

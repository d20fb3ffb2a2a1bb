-- A table leaf whose payloads are all whole is a leaf of a tree.
use Rattle.std.proofs.Common.{◌≡◌, ◌≤◌, ◌<◌, ◌+◌, ◌-◌, ◌*◌, ◌^◌, ◌==◌, ℕ, ℤ, suc, refl, sym, ◌∙◌, ap, subst, arith, List, [], ◌∷◌, ◌++◌, length, take, drop, map, Bool, true, false, nat_le, if◌then◌else◌, append_assoc}
use Rattle.std.proofs.lemmas.List.{take_all, drop_all, length-append, append-nil}
use Rattle.std.specs.List.{flat_map}
use Rattle.tree_leaf.specs.Leaf.{Entry, IsCell, AreCells, IsTableLeaf}
use Rattle.tree_page.specs.Cells.{Span, AreApart, pointer}
use Rattle.pages.specs.Map.{PageMap, page_at, Has}
use Rattle.tree_overflow.specs.Chains.{IsPayload}
use Rattle.tree_page.specs.Payload.{table_most, local_size, held_size}
use Rattle.tree_page.specs.Node.{Local, IsRowCell}
use Rattle.pages.specs.Counting.{start_of}
use Rattle.tree_page.specs.Cells.{Pairwise, IsAt, page_header}
use Rattle.tree_table.specs.Tree.{Held, IsHeldAs, IsLeaf, Rises, IsTableTree}

-- the row of an entry whose payload is whole
abbrev pub whole : Entry → Held
whole entry = record { row = entry; pages = [] }

-- what a leaf says of it
abbrev pub said : Entry → ℤ × Local
said entry = (entry.rowid, record { size = length entry.payload; bytes = entry.payload })

first_part : (b : Bool) (p k : ℕ) → b ≡ true → (if b then p else k) ≡ p
first_part true p k h = refl
first_part false p k h = cc

pub is_local : (usable : ℕ) (payload : List ℕ) → length payload + 35 ≤ usable → local_size usable (table_most usable) (length payload) ≡ length payload
is_local usable payload h = first_part (nat_le (length payload) (usable - 35)) _ _ (grind arith)

payload_is : (pages : PageMap) (usable : ℕ) (payload : List ℕ) → length payload + 35 ≤ usable → IsPayload pages usable (table_most usable) payload payload []
payload_is pages usable payload h =
    let here : local_size usable (table_most usable) (length payload) ≡ length payload = is_local usable payload h in
    record {
      parts = sym (append-nil _ ∙ (ap (λ n. take n payload) here ∙ take_all (length payload) payload (omega arith)));
      chain = ap (λ n. drop n payload) here ∙ drop_all (length payload) payload (omega arith);
    }

regrouped : (a b c d e : List ℕ) → a ++ (b ++ (c ++ (d ++ e))) ≡ a ++ ((b ++ (c ++ d)) ++ e)
regrouped a b c d e = ap (λ z. a ++ z) (sym (append_assoc b (c ++ d) e ∙ ap (λ z. b ++ z) (append_assoc c d e)))

at : (page : List ℕ) (span : Span) (entry : Entry) (c : IsCell page span entry) → IsAt page span (c.size ++ (c.rowid ++ entry.payload))
at page span entry c =
    let cell : List ℕ = c.size ++ (c.rowid ++ entry.payload) in
    let parts : page ≡ c.before ++ (cell ++ c.after) = c.parts ∙ regrouped c.before c.size c.rowid entry.payload c.after in
    let long : length page ≡ length c.before + (length cell + length c.after) =
    ap length parts ∙ (length-append c.before (cell ++ c.after) ∙ ap (λ n. length c.before + n) (length-append cell c.after)) in
    record { before = c.before; after = c.after; parts = parts; from_is = c.from_is; to_is = omega (arith, long, c.to_is); near = c.near }

is_held : (usable : ℕ) (payload : List ℕ) → length payload + 35 ≤ usable → held_size usable (table_most usable) (length payload) ≡ length payload
is_held usable payload h = first_part (nat_le (length payload) (usable - 35)) _ _ (grind arith)

row_is : (page : List ℕ) (span : Span) (entry : Entry) (c : IsCell page span entry) → IsRowCell (length page) (c.size ++ (c.rowid ++ entry.payload)) (said entry)
row_is page span entry c = record {
  size = c.size;
  rowid = c.rowid;
  number = c.number;
  parts = refl;
  size_is = c.size_is;
  rowid_is = c.rowid_is;
  signed = c.signed;
  held = sym (is_held (length page) entry.payload c.whole);
}

held_as : (pages : PageMap) (usable : ℕ) (entry : Entry) → length entry.payload + 35 ≤ usable → IsHeldAs pages usable (said entry) (whole entry)
held_as pages usable entry h = record { rowid = refl; size = refl; payload = payload_is pages usable entry.payload h }

-- the bytes of cells, what they say, and the rows that they hold
pub record AreWhole (pages : PageMap) (page : List ℕ) (spans : List Span) (entries : List Entry) : Type 0 where
  pub cells : List (List ℕ)
  pub count : length cells ≡ length entries
  pub at : Pairwise (IsAt page) spans cells
  pub say : Pairwise (IsRowCell (length page)) cells (map said entries)
  pub rows : Pairwise (IsHeldAs pages (length page)) (map said entries) (map whole entries)

are_whole : (pages : PageMap) (page : List ℕ) (spans : List Span) (entries : List Entry) → AreCells page spans entries → AreWhole pages page spans entries
are_whole pages page [] [] h = record { cells = []; count = refl; at = tt; say = tt; rows = tt }
are_whole pages page [] (entry ∷ entries) h = absurd h
are_whole pages page (span ∷ spans) [] h = absurd h
are_whole pages page (span ∷ spans) (entry ∷ entries) (c, h) =
    let more : AreWhole pages page spans entries = are_whole pages page spans entries h in
    record {
      cells = (c.size ++ (c.rowid ++ entry.payload)) ∷ more.cells;
      count = ap suc more.count;
      at = (at page span entry c, more.at);
      say = (row_is page span entry c, more.say);
      rows = (held_as pages (length page) entry c.whole, more.rows);
    }

front_end : (start n m : ℕ) → n ≡ m → start + 8 + 2 * n ≡ start + 8 + 0 + 2 * m
front_end start n m h = omega arith

-- A page that is a table leaf of these rows, all whole, is a leaf of a tree that holds them.
pub whole_leaf : (pages : PageMap) (number : ℕ) (entries : List Entry) → Has pages number → IsTableLeaf (page_at pages number) (start_of number) entries
    → IsLeaf pages (length (page_at pages number)) (record { page = number; rows = map whole entries })
whole_leaf pages number entries has leaf =
    let cells : AreWhole pages (page_at pages number) leaf.spans entries = are_whole pages (page_at pages number) leaf.spans entries leaf.cells in
    let counted : length entries ≡ length cells.cells = sym cells.count in
    record {
      said = map said entries;
      says = record {
        has = has;
        node_is = record {
          cells = cells.cells;
          page_is = record {
            before = leaf.before;
            freeblock = leaf.freeblock;
            content = leaf.content;
            fragments = leaf.fragments;
            spans = leaf.spans;
            rest = leaf.rest;
            parts = leaf.parts ∙ ap (λ (n : ℕ). leaf.before ++ (page_header 13 leaf.freeblock n leaf.content leaf.fragments ++ (flat_map pointer leaf.spans ++ leaf.rest))) counted;
            start_is = leaf.start_is;
            freeblock_is = leaf.freeblock_is;
            content_is = leaf.content_is;
            few = subst (λ (n : ℕ). n < 2 ^ 16) counted leaf.few;
            cells_are = cells.at;
            apart = subst (λ (n : ℕ). AreApart (record { from = 0; to = n } ∷ []) leaf.spans) (front_end (start_of number) (length entries) (length cells.cells) counted) leaf.apart;
          };
          say = cells.say;
        };
      };
      rows = cells.rows;
    }

same_rows : (entries : List Entry) → map (λ (held : Held). held.row) (map whole entries) ≡ entries
same_rows [] = refl
same_rows (entry ∷ entries) = ap (λ es. entry ∷ es) (same_rows entries)

no_overflow : (entries : List Entry) → flat_map (λ (held : Held). held.pages) (map whole entries) ≡ []
no_overflow [] = refl
no_overflow (entry ∷ entries) = no_overflow entries

at_most_one : (b : Bool) → (if b then 1 else 0) + 0 ≤ 1
at_most_one true = omega arith
at_most_one false = omega arith

-- A page that is a table leaf of these rows, all whole and by rising rowid, is a whole tree: its own root.
pub whole_tree : (pages : PageMap) (number : ℕ) (low high : ℤ) (entries : List Entry) → Has pages number → IsTableLeaf (page_at pages number) (start_of number) entries
    → Rises low (map whole entries) high → IsTableTree pages (length (page_at pages number)) number entries (number ∷ [])
whole_tree pages number low high entries has leaf rises = record {
  depth = 0;
  tree = record { page = number; rows = map whole entries };
  low = low;
  high = high;
  shallow = omega arith;
  root_is = refl;
  lies = whole_leaf pages number entries has leaf;
  sorted = rises;
  rows_are = same_rows entries;
  used_are = ap (λ used. number ∷ used) (no_overflow entries);
  once = record { once = λ n. at_most_one (number == n) };
}

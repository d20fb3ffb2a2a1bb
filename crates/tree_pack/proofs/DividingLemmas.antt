-- What divides the pages of a node.
use Rattle.std.proofs.Common.{◌≡◌, ◌≤◌, ◌<◌, ◌+◌, ◌-◌, ℕ, zero, suc, ℤ, pos, Bool, List, [], ◌∷◌, ◌++◌, length, take, drop, map, get_or, Bor, refl, sym, ap, subst, ◌∙◌, arith}
use Rattle.std.proofs.lemmas.List.{length-append, length-drop, length-map, drop-drop}
use Rattle.std.proofs.Math.Seq.{take-append_seam}
use Rattle.record.specs.Varint.{IsVarint, varint_at}
use Rattle.record.proofs.VarintLemmas.{varint_again}
use Rattle.tree_page.specs.Cells.{Pairwise}
use Rattle.tree_page.specs.Node.{Local, Node, Rows, Keys, Entries, Between, IsRowCell, IsKeyCell, IsEntryCell, IsBetweenCell}
use Rattle.tree_page.specs.declared.items.Kind.{Kind}
use Rattle.tree_page.specs.declared.items.Kind.TheVariants.{TableLeaf, TableInterior, IndexLeaf, IndexInterior}
use Rattle.tree_pack.specs.Parts.{IsCut}
use Rattle.tree_pack.specs.Lists.{row_parts, entry_parts, with_key, sides_of}
use Rattle.tree_pack.specs.Rows.{LieWithin, last_number}
use Rattle.tree_pack.specs.Building.{cell_room}
use Rattle.tree_pack.specs.Packing.{up_of, AreOf, IsKey, Divide, dividers_of}
use Rattle.tree_pack.specs.Spreading.{first_cell, before_rest, next_varint, row_key, last_key_or, last_key, dividing}
use Rattle.tree_pack.proofs.Joins.{LeavesOne}
use Rattle.tree_pack.proofs.FillingLemmas.{cut_leaves_one}
use Rattle.tree_pack.proofs.SayLemmas.{pairwise_drop, pairwise_length}

abbrev bytes_of : List (Bor (List ℕ)) → List (List ℕ)
bytes_of cells = map (λ (cell : Bor (List ℕ)). cell.now) cells

last_after : (none : List ℕ) (cells : List (Bor (List ℕ))) (d : Bor (List ℕ)) (n : ℕ) → length cells ≡ suc n → row_key (get_or cells n d).now ≡ last_key_or none (bytes_of cells)
last_after none [] d n len = absurd (omega arith)
last_after none (a ∷ []) d zero len = refl
last_after none (a ∷ []) d (suc n) len = absurd (omega arith)
last_after none (a ∷ b ∷ cells) d zero len = absurd (omega arith)
last_after none (a ∷ b ∷ cells) d (suc n) len = last_after (row_key a.now) (b ∷ cells) d n (omega arith)

-- the last item of a slice is the last cell
pub last_is : (cells : List (Bor (List ℕ))) (cell : Bor (List ℕ)) → 0 < length cells → cell ≡ get_or cells (length cells - 1) cell → row_key cell.now ≡ last_key (bytes_of cells)
last_is cells cell some e = ap (λ (x : Bor (List ℕ)). row_key x.now) e ∙ last_after [] cells cell (length cells - 1) (omega (arith, some))

-- ---- rows

leading_is : (text rest : List ℕ) (n : ℕ) → IsVarint text n → before_rest (text ++ rest) (varint_at (text ++ rest)) ≡ text
leading_is text rest n is =
    let len : length (text ++ rest) - length rest ≡ length text = omega (arith, length-append text rest) in
    ap (before_rest (text ++ rest)) (varint_again text n rest is) ∙ ap (λ (m : ℕ). take m (text ++ rest)) len ∙ take-append_seam text rest

-- the second varint of a row's cell is its rowid
key_is : (n : ℕ) (cell : List ℕ) (row : ℤ × Local) → IsRowCell n cell row → IsKey (row_key cell) row.0
key_is n cell row is = record {
  number = is.number;
  key_is = subst (λ (bytes : List ℕ). IsVarint bytes is.number) (sym spelled) is.rowid_is;
  signed = is.signed;
}
  where
    spelled : row_key cell ≡ is.rowid
    spelled =
        ap row_key is.parts ∙ ap next_varint (varint_again is.size row.1.size (is.rowid ++ row.1.bytes) is.size_is)
        ∙ leading_is is.rowid row.1.bytes is.number is.rowid_is

last_says : (n count : ℕ) (text : List ℕ) (key : ℤ) (cells : List (List ℕ)) (rows : List (ℤ × Local)) → 1 ≤ count → 1 ≤ length cells → Pairwise (IsRowCell n) cells rows
    → IsKey (last_key_or text (take count cells)) (last_number key (take count rows))
last_says n zero text key cells rows some more say = absurd (omega arith)
last_says n (suc count) text key [] rows some more say = absurd (omega arith)
last_says n (suc count) text key (cell ∷ cells) [] some more say = absurd say
last_says n (suc zero) text key (cell ∷ cells) (row ∷ rows) some more say = key_is n cell row say.0
last_says n (suc (suc count)) text key (cell ∷ []) (row ∷ []) some more say = key_is n cell row say.0
last_says n (suc (suc count)) text key (cell ∷ []) (row ∷ next ∷ rows) some more say = absurd say.1
last_says n (suc (suc count)) text key (cell ∷ other ∷ cells) (row ∷ rows) some more say =
    last_says n (suc count) (row_key cell) row.0 (other ∷ cells) rows (omega arith) (omega arith) say.1

rows_divided : (n : ℕ) (counts : List ℕ) (cells : List (List ℕ)) (rows : List (ℤ × Local)) → LieWithin 0 counts (length cells) → Pairwise (IsRowCell n) cells rows
    → Pairwise IsKey (dividing TableLeaf counts cells) (map (λ part. part.1) (row_parts (last_number (pos 0)) counts rows).0)
rows_divided n [] cells rows within say = tt
rows_divided n (count ∷ counts) cells rows (some, le, more) say =
    let e : count + 0 ≡ count = omega arith in
    let len : length cells - (count + 0) ≡ length (drop count cells) = omega (arith, length-drop count cells) in (
      last_says n count [] (pos 0) cells rows some (omega (arith, some, le)) say,
      rw e (rows_divided n counts (drop count cells) (drop count rows) (subst (λ (m : ℕ). LieWithin 0 counts m) len more) (pairwise_drop (IsRowCell n) count cells rows say)),
    )

-- ---- what goes up

-- what divides parts of items, one of which goes up after each
abbrev cut_ends : (List ℕ → List ℕ) → List ℕ → List (List ℕ) → List (List ℕ)
cut_ends end [] cells = []
cut_ends end (count ∷ counts) cells = end (first_cell (drop count cells)) ∷ cut_ends end counts (drop (count + 1) cells)

up_step : {A K : Type 0} (P : List ℕ → A → Type 0) (Q : List ℕ → K → Type 0) (end : List ℕ → List ℕ) (key : A → K) → ((cell : List ℕ) (item : A) → P cell item → Q (end cell) (key item))
    → (counts : List ℕ) (behind after : List (List ℕ)) (whole before rest : List A) → 1 ≤ length rest → Pairwise P behind rest
    → Pairwise Q (cut_ends end counts after) (map (λ part. key part.1) (entry_parts counts (drop 1 rest)).0)
    → Pairwise Q (end (first_cell behind) ∷ cut_ends end counts after) (map (λ part. key part.1) (with_key whole before rest (λ xs. entry_parts counts xs)).0)
up_step P Q end key go counts behind after whole before [] some say more = absurd (omega arith)
up_step P Q end key go counts [] after whole before (item ∷ rest) some say more = absurd say
up_step P Q end key go counts (cell ∷ behind) after whole before (item ∷ rest) some say more = (go cell item say.0, more)

ups_divided : {A K : Type 0} (P : List ℕ → A → Type 0) (Q : List ℕ → K → Type 0) (end : List ℕ → List ℕ) (key : A → K) → ((cell : List ℕ) (item : A) → P cell item → Q (end cell) (key item))
    → (counts : List ℕ) (cells : List (List ℕ)) (items : List A) → LeavesOne counts items → Pairwise P cells items
    → Pairwise Q (cut_ends end counts cells) (map (λ part. key part.1) (entry_parts counts items).0)
ups_divided P Q end key go [] cells items leaves say = tt
ups_divided {A} P Q end key go (count ∷ counts) cells items leaves say =
    let lt = leaves.0 in
    let more = ups_divided P Q end key go counts (drop (count + 1) cells) (drop (count + 1) items) leaves.1 (pairwise_drop P (count + 1) cells items say) in
    up_step P Q end key go counts (drop count cells) (drop (count + 1) cells) items (take count items) (drop count items) (omega (arith, lt, length-drop count items)) (pairwise_drop P count cells items say)
    (subst (λ (xs : List A). Pairwise Q (cut_ends end counts (drop (count + 1) cells)) (map (λ part. key part.1) (entry_parts counts xs).0)) (sym (drop-drop 1 count items)) more)

-- the same of children with keys
sides_divided : {T K : Type 0} (Q : List ℕ → K → Type 0) (ends : List (List ℕ)) (parts : List (List (T × K) × (T × K))) → Pairwise Q ends (map (λ part. part.1.1) parts) → Pairwise Q ends (map (λ part. part.1) (sides_of parts))
sides_divided Q ends [] h = h
sides_divided Q [] (part ∷ parts) h = absurd h
sides_divided Q (end ∷ ends) (part ∷ parts) h = (h.0, sides_divided Q ends parts h.1)

dividing_keys : (counts : List ℕ) (cells : List (List ℕ)) → cut_ends (λ cell. drop 4 cell) counts cells ≡ dividing TableInterior counts cells
dividing_keys [] cells = refl
dividing_keys (count ∷ counts) cells = ap (λ (xs : List (List ℕ)). drop 4 (first_cell (drop count cells)) ∷ xs) (dividing_keys counts (drop (count + 1) cells))

dividing_entries : (counts : List ℕ) (cells : List (List ℕ)) → cut_ends (λ cell. cell) counts cells ≡ dividing IndexLeaf counts cells
dividing_entries [] cells = refl
dividing_entries (count ∷ counts) cells = ap (λ (xs : List (List ℕ)). first_cell (drop count cells) ∷ xs) (dividing_entries counts (drop (count + 1) cells))

dividing_between : (counts : List ℕ) (cells : List (List ℕ)) → cut_ends (λ cell. drop 4 cell) counts cells ≡ dividing IndexInterior counts cells
dividing_between [] cells = refl
dividing_between (count ∷ counts) cells = ap (λ (xs : List (List ℕ)). drop 4 (first_cell (drop count cells)) ∷ xs) (dividing_between counts (drop (count + 1) cells))

key_end : (cell : List ℕ) (kid : ℕ × ℤ) → IsKeyCell cell kid → IsKey (drop 4 cell) kid.1
key_end cell kid is = record {
  number = is.number;
  key_is = subst (λ (bytes : List ℕ). IsVarint bytes is.number) (sym (ap (λ (bytes : List ℕ). drop 4 bytes) is.parts)) is.key_is;
  signed = is.signed;
}

between_end : (n : ℕ) (cell : List ℕ) (kid : ℕ × Local) → IsBetweenCell n cell kid → IsEntryCell n (drop 4 cell) kid.1
between_end n cell kid is = subst (λ (bytes : List ℕ). IsEntryCell n bytes kid.1) (sym (ap (λ (bytes : List ℕ). drop 4 bytes) is.parts)) is.entry

-- ---- all kinds

-- where the cells are cut, these divide the parts
pub several_divided : (kind : Kind) (n room : ℕ) (rises : Bool) (right counts : List ℕ) (cells : List (List ℕ)) (node : Node) → AreOf kind n right cells node → LieWithin (up_of kind) counts (length cells)
    → IsCut (up_of kind) room rises (map cell_room cells) counts → Divide n (dividing kind counts cells) (dividers_of counts node)
several_divided TableLeaf n room rises right counts cells (Rows rows) is within cut = rows_divided n counts cells rows within is.say
several_divided TableInterior n room rises right counts cells (Keys kids last) is within cut =
    let same : length (map cell_room cells) ≡ length kids = length-map cells cell_room ∙ pairwise_length IsKeyCell cells kids is.say.0 in
    subst (λ (ends : List (List ℕ)). Divide n ends (dividers_of counts (Keys kids last))) (dividing_keys counts cells)
    (sides_divided IsKey (cut_ends (λ cell. drop 4 cell) counts cells) (entry_parts counts kids).0
    (ups_divided IsKeyCell IsKey (λ cell. drop 4 cell) (λ kid. kid.1) key_end counts cells kids (cut_leaves_one room rises (map cell_room cells) counts kids same cut) is.say.0))
several_divided IndexLeaf n room rises right counts cells (Entries entries) is within cut =
    let same : length (map cell_room cells) ≡ length entries = length-map cells cell_room ∙ pairwise_length (IsEntryCell n) cells entries is.say in
    subst (λ (ends : List (List ℕ)). Divide n ends (dividers_of counts (Entries entries))) (dividing_entries counts cells)
    (ups_divided (IsEntryCell n) (IsEntryCell n) (λ cell. cell) (λ entry. entry) (λ cell entry h. h) counts cells entries (cut_leaves_one room rises (map cell_room cells) counts entries same cut) is.say)
several_divided IndexInterior n room rises right counts cells (Between kids last) is within cut =
    let same : length (map cell_room cells) ≡ length kids = length-map cells cell_room ∙ pairwise_length (IsBetweenCell n) cells kids is.say.0 in
    subst (λ (ends : List (List ℕ)). Divide n ends (dividers_of counts (Between kids last))) (dividing_between counts cells)
    (sides_divided (IsEntryCell n) (cut_ends (λ cell. drop 4 cell) counts cells) (entry_parts counts kids).0
    (ups_divided (IsBetweenCell n) (IsEntryCell n) (λ cell. drop 4 cell) (λ kid. kid.1) (between_end n) counts cells kids (cut_leaves_one room rises (map cell_room cells) counts kids same cut) is.say.0))
several_divided kind n room rises right counts cells node is within cut = let clash = is.kind_is in absurd (omega (arith, clash))

-- where nothing is cut, nothing divides
pub none_divide : (n : ℕ) (node : Node) → Divide n [] (dividers_of [] node)
none_divide n (Rows rows) = tt
none_divide n (Keys kids last) = tt
none_divide n (Entries entries) = tt
none_divide n (Between kids last) = tt

-- A row is put into a leaf.
use Rattle.std.proofs.Common.{◌≡◌, ◌≤◌, ◌+◌, ◌-◌, ◌^◌, ◌==◌, ℕ, zero, ℤ, pos, List, [], ◌∷◌, length, map, take, None, refl, sym, ap, subst, ◌∙◌, inl, arith}
use Rattle.std.proofs.lemmas.Grind.{common_steps}
use Rattle.std.proofs.lemmas.List.{length-map, length-take-le}
use Rattle.std.specs.List.{AllByRecursion}
use Rattle.std.specs.Prelude.{Bool, false, true, Result, Ok, Err, MatchResult}
use Rattle.sqlval.specs.declared.fault.Fault.{Fault}
use Rattle.sqlval.specs.Faults.{IsOutside}
use Rattle.tree_leaf.specs.Leaf.{Entry}
use Rattle.pages.specs.Calls.{IsOutsideOrFull}
use Rattle.pages.specs.Counting.{occurs, start_of, Moves}
use Rattle.pages.specs.Laws.{IsJoined}
use Rattle.pages.specs.Map.{PageMap, page_at, Has, AreWhole}
use Rattle.pages.proofs.Moving.{in_sequence, occurs_append}
use Rattle.freelist.specs.Calls.{AreFree}
use Rattle.freelist.proofs.Lists.{occurs_self}
use Rattle.tree_page.specs.Cells.{Pairwise}
use Rattle.tree_page.specs.Node.{Local, Rows, IsNode, IsRowCell, Say}
use Rattle.tree_page.specs.Payload.{table_most}
use Rattle.tree_page.specs.Reading.{below}
use Rattle.tree_page.specs.declared.items.Kind.TheVariants.{TableLeaf}
use Rattle.tree_page.proofs.HeaderLemmas.{same_length}
use Rattle.tree_page.proofs.Places.{below_within}
use Rattle.tree_overflow.specs.Calls.{IsWritten}
use Rattle.tree_overflow.proofs.Laying.{beside, keeps_then}
use Rattle.tree_pack.specs.Building.{cell_room}
use Rattle.tree_pack.specs.Lists.{row_parts}
use Rattle.tree_pack.specs.Packing as packing
use Rattle.tree_pack.specs.Packing.{AreOf, IsKey, images, divider_bytes, Packs}
use Rattle.tree_pack.specs.Rows.{LieWithin, last_number}
use Rattle.tree_pack.specs.Splicing.{spliced, IsUsual, Splices}
use Rattle.tree_pack.specs.declared.spreading.Packed.{Packed}
use Rattle.tree_pack.specs.declared.spreading.Piece.{Piece}
use Rattle.tree_pack.proofs.RowLemmas.{cut_within}
use Rattle.tree_pack.proofs.SmallLemmas.{row_small}
use Rattle.tree_pack.proofs.Splices.{pairwise_spliced}
use Rattle.tree_store.specs.Saying.{Says}
use Rattle.tree_store.specs.Storing.{IsPlacedOn, PlacesOn}
use Rattle.tree_store.proofs.PutPages.{put_there}
use Rattle.tree_table.specs.Growing.{below_of, IsTop, all_of, IsPlanned, IsPut, IsUnder}
use Rattle.tree_table.specs.Rows.{payload_at, with_row}
use Rattle.tree_table.specs.Tree.{Held, IsHeldAs, IsLeaf, Leaf, rows_of, pages_of}
use Rattle.tree_table.proofs.Few.{few_parts, large_size}
use Rattle.tree_table.proofs.Leaves.{chains_of, cut_leaf, put_chains}
use Rattle.tree_table.proofs.Orders.{ids_of, put_in, put_spliced, leaf_with, leaf_rises}
use Rattle.tree_table.proofs.Passing.{after, beside_used, once_after, others_seen, tree_up, up_none}
use Rattle.tree_pack.proofs.Rooms.{cells_fit}
use Rattle.tree_table.proofs.Staying.{lies_stays, rows_stay}
use Rattle.tree_table.proofs.Starts.{are_counted, rows_counted, begins_same, no_counts, front_alone}
use Rattle.tree_table.proofs.Sums.{room_added}

start_le : (n : ℕ) → start_of n ≤ 100
start_le n = grind (arith, common_steps)

-- pages of the format's sizes are usual
pub usual : (size number : ℕ) (page : List ℕ) → (512 ≤ size) × (size ≤ 2 ^ 16) → length page ≡ size → IsUsual page (start_of number)
usual size number page sizes long = record { least = (let big = sizes.0 in omega (arith, big, long)); addressed = (let small = sizes.1 in omega (arith, small, long)); near = start_le number }

module _ (old mid : PageMap) (size number ways : ℕ) (row : Entry) (low : ℤ) (t : Leaf) (high : ℤ) (free : List ℕ) (under : IsUnder old size number ways row.rowid zero low t high free)
    (absent : payload_at row.rowid (rows_of zero t) ≡ None) (held : List ℕ) (w : IsWritten old mid size (table_most size) free row.payload held) where
  pub whole_mid : AreWhole size mid
  whole_mid = (w.moves).whole size (under.free_are).whole

  pub leaf_mid : IsLeaf mid size t
  leaf_mid = lies_stays old mid (w.moves).longer size (under.free_are).whole whole_mid zero t
      (others_seen old mid [] free w.chain w.now_free (pages_of zero t) w.moves (λ n some. (let once = under.apart n in omega (arith, once, some)))) under.lies

  -- the leaf's page as it is when the payload is written
  pub says_mid : Says mid number (Rows leaf_mid.said)
  says_mid = subst (λ (n : ℕ). Says mid n (Rows leaf_mid.said)) under.top_is leaf_mid.says

  pub there_mid : Has mid number
  there_mid = says_mid.has

  long_mid : length (page_at mid number) ≡ size
  long_mid = whole_mid number there_mid

  abbrev local : Local
  local = record { size = length row.payload; bytes = held }

  abbrev place : ℕ
  place = below row.rowid (ids_of t.rows)

  abbrev said : List (ℤ × Local)
  said = spliced place 0 ((row.rowid, local) ∷ []) leaf_mid.said

  abbrev new_row : Held
  new_row = record { row = row; pages = w.chain }

  abbrev rows : List Held
  rows = put_in place new_row t.rows

  held_rows : Pairwise (IsHeldAs mid size) said rows
  held_rows = subst (λ (xs : List Held). Pairwise (IsHeldAs mid size) said xs) (sym (put_spliced place new_row t.rows))
      (pairwise_spliced (IsHeldAs mid size) place 0 leaf_mid.said ((row.rowid, local) ∷ []) t.rows (new_row ∷ []) leaf_mid.rows (record { rowid = refl; size = refl; payload = w.is }, tt))

  -- ---- what is used and free

  first_moves : Moves old mid (pages_of zero t) free (t.page ∷ chains_of rows) w.now_free
  first_moves = beside_used old mid [] free w.chain w.now_free (pages_of zero t) (pages_of zero t) (t.page ∷ chains_of rows) w.moves (λ n. omega arith)
      (λ n. (let put = put_chains n place new_row t.rows in omega (arith, put)))

  once_mid : (n : ℕ) → occurs n (t.page ∷ chains_of rows) + occurs n w.now_free ≤ 1
  once_mid = once_after old mid size (pages_of zero t) free (t.page ∷ chains_of rows) w.now_free under.free_are first_moves (tree_up old size zero t under.lies) under.apart

  -- the leaf's page, with the chains of its rows
  joined : IsJoined (number ∷ []) (chains_of rows) (t.page ∷ chains_of rows)
  joined n = (let same = ap (λ (m : ℕ). occurs n (m ∷ chains_of rows)) under.top_is in let both = occurs_append n (number ∷ []) (chains_of rows) in omega (arith, same, both))

  pub free_mid : AreFree mid size w.now_free
  free_mid = (after old mid size [] free w.chain w.now_free under.free_are w.moves w.has (up_none (length old)) (λ n. (let once = under.apart n in omega (arith, once))) refl).are

  pub unfree_mid : occurs number w.now_free ≡ 0
  unfree_mid = (let once = once_mid number in let both = joined number in let self = occurs_self number in omega (arith, once, both, self))

  module _ (cell : List ℕ) (is_cell : IsRowCell size cell (row.rowid, local)) where
    node : IsNode (page_at mid number) (start_of number) (Rows leaf_mid.said)
    node = says_mid.node_is

    cell_count : length node.cells ≡ length t.rows
    cell_count = same_length (IsRowCell (length (page_at mid number))) node.cells leaf_mid.said node.say ∙ same_length (IsHeldAs mid size) leaf_mid.said t.rows leaf_mid.rows

    within : place ≤ length node.cells
    within = (let le = below_within row.rowid (ids_of t.rows) in let len = length-map t.rows (λ (held : Held). held.row.rowid) in let count = cell_count in omega (arith, le, len, count))

    cells_say : AreOf TableLeaf (length (page_at mid number)) [] (spliced place 0 (cell ∷ []) node.cells) (Rows said)
    cells_say = record {
      kind_is = refl;
      right_is = refl;
      say = pairwise_spliced (IsRowCell (length (page_at mid number))) place 0 node.cells (cell ∷ []) leaf_mid.said ((row.rowid, local) ∷ []) node.say
          (subst (λ (n : ℕ). IsRowCell n cell (row.rowid, local)) (sym long_mid) is_cell, tt);
    }

    -- ---- the row in its place

    say_put : Say size (put_in place cell node.cells) (Rows said)
    say_put = subst (λ (cells : List (List ℕ)). Pairwise (IsRowCell size) cells said) (sym (put_spliced place cell node.cells))
        (subst (λ (n : ℕ). Pairwise (IsRowCell n) (spliced place 0 (cell ∷ []) node.cells) said) long_mid cells_say.say)

    -- the leaf's page has the row now
    leaf_put : (new : PageMap) → IsPlacedOn mid new size w.now_free number (put_in place cell node.cells) (Rows said) true
        → IsPut old new size number zero low high (with_row row (rows_of zero t)) (pages_of zero t) free
    leaf_put new (image, placed, rewritten) =
        let moves = rewritten.moves in
        let whole_now = moves.whole size whole_mid in
        let has : Has new number = record { first = there_mid.first; last = (let last = there_mid.last in let longer = moves.longer in omega (arith, last, longer)) } in
        let bytes : page_at new number ≡ image = ap (λ (m : PageMap). page_at m number) rewritten.is ∙ put_there mid number image there_mid in
        let says : Says new number (Rows said) = record { has = has; node_is = subst (λ (l : List ℕ). IsNode l (start_of number) (Rows said)) (sym bytes) placed.is } in
        let unused : (n : ℕ) → 1 ≤ occurs n (chains_of rows) → occurs n (number ∷ []) + occurs n w.now_free ≡ 0 = λ n some. (let once = once_mid n in let both = joined n in omega (arith, once, both, some)) in
        record {
          tree = record { page = t.page; rows = rows };
          top_is = under.top_is;
          lies = record {
            said = said;
            says = subst (λ (n : ℕ). Says new n (Rows said)) (sym under.top_is) says;
            rows = rows_stay mid new moves.longer size said rows (others_seen mid new (number ∷ []) w.now_free (number ∷ []) w.now_free (chains_of rows) moves unused) held_rows;
          };
          sorted = leaf_rises new_row low t.rows high under.above under.upto absent under.sorted;
          rows_are = sym (leaf_with new_row t.rows absent);
          now_free = w.now_free;
          has = rewritten.has;
          moves = in_sequence old mid new (pages_of zero t) free (t.page ∷ chains_of rows) w.now_free (t.page ∷ chains_of rows) w.now_free first_moves
              (beside_used mid new (number ∷ []) w.now_free (number ∷ []) w.now_free (chains_of rows) (t.page ∷ chains_of rows) (t.page ∷ chains_of rows) moves joined joined);
          header = keeps_then old mid new w.header rewritten.header;
        }

    -- the cell is put on the leaf's page, or nothing changes
    leaf_places : (new : PageMap) (result : Result Bool Fault) → PlacesOn mid new size number place cell result
        → MatchResult result (IsPlacedOn mid new size w.now_free number (put_in place cell node.cells) (Rows said)) IsOutside
    leaf_places new result places = places w.now_free free_mid there_mid unfree_mid (Rows leaf_mid.said) (Rows said) node (large_size size under.sized).1 within refl refl say_put

    pub leaf_placed : (new : PageMap) → PlacesOn mid new size number place cell (Ok true)
        → IsPut old new size number zero low high (with_row row (rows_of zero t)) (pages_of zero t) free
    leaf_placed new places = leaf_put new (leaf_places new (Ok true) places)

    pub leaf_unplaced : (new : PageMap) → PlacesOn mid new size number place cell (Ok false) → new ≡ mid
    leaf_unplaced new places = leaf_places new (Ok false) places

    pub leaf_refused : (new : PageMap) (fault : Fault) → PlacesOn mid new size number place cell (Err fault) → IsOutside fault
    leaf_refused new fault places = leaf_places new (Err fault) places

    -- ---- pages in its place

    abbrev Packs_now : Packed → Type 0
    Packs_now packed = Packs TableLeaf (length (page_at mid number)) (take (start_of number) (page_at mid number)) (place + 0 == length node.cells) (spliced place 0 (cell ∷ []) node.cells) (Rows said) packed

    planned : (packed : Packed) → Packs_now packed → IsPlanned old mid size number zero low high (with_row row (rows_of zero t)) (below_of zero t) free packed
    planned packed packs =
        let page = page_at mid number in
        let start = start_of number in
        let cells = spliced place 0 (cell ∷ []) node.cells in
        let sizes = large_size size under.sized in
        let near = start_le number in
        let long = long_mid in
        let front_len : length (take start page) ≡ start = length-take-le start page (omega (arith, long, sizes.0, near)) in
        let room : ℕ = length page - length (take start page) - 8 - 0 in
        let cell_len : length (map cell_room cells) ≡ length rows =
        length-map cells cell_room ∙ same_length (IsRowCell (length page)) cells said cells_say.say ∙ same_length (IsHeldAs mid size) said rows held_rows in
        let lie = subst (λ (n : ℕ). LieWithin 0 packs.counts n) cell_len (cut_within 0 room (place + 0 == length node.cells) (map cell_room cells) packs.counts packs.cut) in
        let piece_count : length packed.pieces.items ≡ length packs.counts = (
        sym (length-map packed.pieces.items (λ (piece : Piece). piece.divider.items)) ∙ same_length IsKey (divider_bytes packed) _ packs.divide
        ∙ length-map (row_parts (last_number (pos 0)) packs.counts said).0 (λ part. part.1) ∙ rows_counted (last_number (pos 0)) packs.counts said) in
        let counted = are_counted packs.counts (length packed.pieces.items) piece_count in
        let at = packing.start_of (take start page) packs.counts in
        let cut = cut_leaf mid size at low high packs.counts said rows (images packed) held_rows (leaf_rises new_row low t.rows high under.above under.upto absent under.sorted) lie packs.say in
        record {
          kids = cut.kids;
          last = cut.last;
          tops = subst (λ (n : ℕ). Pairwise (IsTop mid size zero n) (images packed) (all_of cut.kids cut.last)) (begins_same (take start page) number packs.counts packed.pieces.items counted front_len) cut.tops;
          divide = subst (λ (ks : List ℤ). Pairwise IsKey (divider_bytes packed) ks) cut.keys_are packs.divide;
          sorted = cut.sorted;
          rows_are = cut.rows_are ∙ sym (leaf_with new_row t.rows absent);
          now_free = w.now_free;
          has = w.has;
          moves = subst (λ (pages : List ℕ). Moves old mid (number ∷ below_of zero t) free (number ∷ pages) w.now_free) (sym cut.chains_are)
              (beside old mid (below_of zero t) free (chains_of rows) w.now_free number
              (beside_used old mid [] free w.chain w.now_free (below_of zero t) (below_of zero t) (chains_of rows) w.moves (λ n. omega arith) (λ n. put_chains n place new_row t.rows)));
          header = w.header;
          sized = subst (λ (n : ℕ). AllByRecursion (λ image. length image ≡ n) (images packed)) long packs.sized;
          front = λ none. front_alone (take start page) packed.last.items start front_len (packs.front_is (no_counts packs.counts packed.pieces.items counted none));
          few = (let sum = room_added cell_room place (cell ∷ []) node.cells in
              let fit = cells_fit 13 page start [] node.cells node.page_is in
              let small = row_small size cell (row.rowid, local) sizes.0 is_cell in
              let most = few_parts 0 room (place + 0 == length node.cells) (map cell_room cells) packs.counts packs.cut (omega (arith, long, front_len, sizes.0, near))
              (omega (arith, sum, fit, small, front_len, near, long, sizes.0)) in
              omega (arith, most, piece_count));
        }

    -- the cells of the leaf with the new one are packed
    pub leaf_planned : (result : Result Packed Fault) → Splices (page_at mid number) (start_of number) place 0 (cell ∷ []) [] result
        → MatchResult result (IsPlanned old mid size number zero low high (with_row row (rows_of zero t)) (below_of zero t) free) IsOutsideOrFull
    leaf_planned (Ok packed) splices =
        planned packed (splices TableLeaf (Rows leaf_mid.said) (Rows said) node (usual size number (page_at mid number) (large_size size under.sized) long_mid) refl
        (let le = within in omega (arith, le)) cells_say)
    leaf_planned (Err fault) splices =
        inl (inl (splices TableLeaf (Rows leaf_mid.said) (Rows said) node (usual size number (page_at mid number) (large_size size under.sized) long_mid) refl
        (let le = within in omega (arith, le)) cells_say))

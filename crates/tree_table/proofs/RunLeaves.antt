-- The rows of a run are changed in their leaf.
use Rattle.std.proofs.Common.{◌≡◌, ◌≤◌, ◌+◌, ◌-◌, ◌*◌, ℕ, zero, ℤ, pos, Bool, List, [], ◌∷◌, ◌++◌, length, map, take, refl, sym, ap, subst, ◌∙◌, arith}
use Rattle.std.proofs.lemmas.Grind.{common_steps}
use Rattle.std.proofs.lemmas.List.{length-map, length-take-le}
use Rattle.std.specs.List.{AllByRecursion, flat_map}
use Rattle.tree_leaf.specs.Leaf.{Entry}
use Rattle.pages.specs.Counting.{occurs, start_of, Moves}
use Rattle.pages.specs.Map.{PageMap, page_at, AreWhole, IsThere}
use Rattle.pages.proofs.Moving.{in_sequence}
use Rattle.tree_overflow.proofs.Laying.{beside, keeps_then}
use Rattle.tree_page.specs.Cells.{Pairwise}
use Rattle.tree_page.specs.Node.{Local, Rows, IsNode, IsRowCell}
use Rattle.tree_page.specs.Payload.{table_most}
use Rattle.tree_page.specs.declared.items.Kind.TheVariants.{TableLeaf}
use Rattle.tree_page.proofs.HeaderLemmas.{same_length}
use Rattle.tree_pack.specs.Building.{cell_room}
use Rattle.tree_pack.specs.Lists.{row_parts}
use Rattle.tree_pack.specs.Packing as packing
use Rattle.tree_pack.specs.Packing.{AreOf, IsKey, images, divider_bytes, Packs}
use Rattle.tree_pack.specs.Parts.{total}
use Rattle.tree_pack.specs.Rows.{LieWithin, last_number}
use Rattle.tree_pack.specs.declared.spreading.Packed.{Packed}
use Rattle.tree_pack.specs.declared.spreading.Piece.{Piece}
use Rattle.tree_pack.proofs.RowLemmas.{cut_within}
use Rattle.tree_store.specs.Saying.{Says}
use Rattle.tree_table.specs.Freeing.{AreGivenBack}
use Rattle.tree_table.specs.Growing.{below_of, IsTop, all_of, IsPlanned, IsUnder}
use Rattle.tree_table.specs.Rows.{with_changes}
use Rattle.tree_table.specs.Runs.{AreRising, AreWritten, NewRow, IsSound, none_held, picked, room_for, entry_for, entries_of, cells_of, says_of, helds_of, new_chains, exchanged}
use Rattle.tree_table.specs.Tree.{Held, IsHeldAs, Leaf, rows_of}
use Rattle.tree_table.specs.declared.changing.RowChange.{RowChange}
use Rattle.tree_table.proofs.Few.{few_parts, large_size}
use Rattle.tree_table.proofs.Givings.{chain_of, after_part, IsAfterPart}
use Rattle.tree_table.proofs.Leaves.{chains_of, cut_leaf}
use Rattle.tree_table.proofs.Passing.{beside_used, others_seen}
use Rattle.tree_pack.proofs.Rooms.{cells_fit}
use Rattle.tree_table.proofs.RunLists.{kept, kept_pages, new_pages, exchanged_room, exchanged_pairs}
use Rattle.tree_table.proofs.RunRows.{IsRunOf, run_few, run_rises, rises_exchanged, rows_exchanged}
use Rattle.tree_table.proofs.Starts.{are_counted, rows_counted, begins_same, no_counts, front_alone}
use Rattle.tree_table.proofs.Staying.{AreSeen, first_of, payload_stays, says_stays}

pub start_le : (n : ℕ) → start_of n ≤ 100
start_le n = grind (arith, common_steps)

chains_same : (rows : List (List NewRow)) → flat_map (λ new. flat_map chain_of new) (map helds_of rows) ≡ new_chains rows
chains_same [] = refl
chains_same (row ∷ rows) = ap (λ (pages : List ℕ). flat_map chain_of (helds_of row) ++ pages) (chains_same rows) ∙ ap (λ (pages : List ℕ). pages ++ new_chains rows) (row_chains row)
  where
    row_chains : (row : List NewRow) → flat_map chain_of (helds_of row) ≡ flat_map (λ new. new.held.pages) row
    row_chains [] = refl
    row_chains (new ∷ row) = ap (λ (pages : List ℕ). new.held.pages ++ pages) (row_chains row)

module _ (new : PageMap) (size : ℕ) where
  row_says : (row : List NewRow) → AllByRecursion (IsSound new size) row → Pairwise (IsRowCell size) (cells_of row) (says_of row)
  row_says [] h = tt
  row_says (one ∷ row) h = (h.0.says, row_says row h.1)

  row_holds : (row : List NewRow) → AllByRecursion (IsSound new size) row → Pairwise (IsHeldAs new size) (says_of row) (helds_of row)
  row_holds [] h = tt
  row_holds (one ∷ row) h = (h.0.holds, row_holds row h.1)

  rows_say : (rows : List (List NewRow)) → AllByRecursion (AllByRecursion (IsSound new size)) rows → Pairwise (λ cells said. Pairwise (IsRowCell size) cells said) (map cells_of rows) (map says_of rows)
  rows_say [] h = tt
  rows_say (row ∷ rows) h = (row_says row h.0, rows_say rows h.1)

  rows_hold : (rows : List (List NewRow)) → AllByRecursion (AllByRecursion (IsSound new size)) rows → Pairwise (λ said helds. Pairwise (IsHeldAs new size) said helds) (map says_of rows) (map helds_of rows)
  rows_hold [] h = tt
  rows_hold (row ∷ rows) h = (row_holds row h.0, rows_hold rows h.1)

module _ (old : PageMap) (size number ways : ℕ) (rowid low : ℤ) (t : Leaf) (high : ℤ) (free : List ℕ) (under : IsUnder old size number ways rowid zero low t high free)
    (changes : List RowChange) (places : List ℕ) (run : IsRunOf 0 t.rows changes places)
    (mid : PageMap) (given : AreGivenBack old mid size (flat_map chain_of (picked t.rows places)) free) where
  abbrev stays : List Held
  stays = kept 0 places t.rows

  abbrev gone : List ℕ
  gone = flat_map chain_of (picked t.rows places)

  abbrev here : List ℕ
  here = t.page ∷ chains_of stays

  counted : (n : ℕ) → occurs n (chains_of stays) + occurs n gone ≡ occurs n (chains_of t.rows)
  counted n = kept_pages chain_of n 0 places t.rows none_held (run_rises 0 t.rows changes places run)

  past : IsAfterPart old mid size here given.now_free
  past = after_part old mid size gone here free under.free_are (λ n. (let all = under.apart n in let e = counted n in omega (arith, all, e))) given

  says_mid : Says mid number (Rows (under.lies).said)
  says_mid = (let says = (under.lies).says in subst (λ (n : ℕ). Says mid n (Rows (under.lies).said)) under.top_is
      (says_stays old mid past.longer size past.whole past.whole_now t.page (Rows (under.lies).said)
      ((past.seen).same t.page (says.has).first (says.has).last (first_of t.page (chains_of stays))) says))

  module _ (new : PageMap) (cells : List (List (List ℕ))) (w : AreWritten mid new size (take (length places) changes) given.now_free cells) where
    seen_new : AreSeen mid new here
    seen_new = others_seen mid new [] given.now_free (new_chains w.rows) w.now_free here w.moves (λ n some. (let once = past.apart n in omega (arith, once, some)))

    whole_new : AreWhole size new
    whole_new = (w.free_are).whole

    says_new : Says new number (Rows (under.lies).said)
    says_new = (let says = subst (λ (n : ℕ). Says mid n (Rows (under.lies).said)) (sym under.top_is) says_mid in
        subst (λ (n : ℕ). Says new n (Rows (under.lies).said)) under.top_is
        (says_stays mid new (w.moves).longer size past.whole_now whole_new t.page (Rows (under.lies).said)
        (seen_new.same t.page (says.has).first (says.has).last (first_of t.page (chains_of stays))) says))

    pub leaf_there : IsThere new size number
    leaf_there = record { has = says_new.has; whole = whole_new number says_new.has }

    long_new : length (page_at new number) ≡ size
    long_new = leaf_there.whole

    same : length places ≡ length w.rows
    same = (let e = ap length w.entries_are in let a = length-map w.rows entries_of in let b = length-map (take (length places) changes) entry_for in
        let c = length-take-le (length places) changes (run_few 0 t.rows changes places run) in omega (arith, e, a, b, c))

    stays_held : (said : ℤ × Local) (held : Held) → ((n : ℕ) → occurs n held.pages ≤ occurs n here) → IsHeldAs old size said held → IsHeldAs new size said held
    stays_held said held among is = record {
      rowid = is.rowid;
      size = is.size;
      payload = payload_stays mid new (w.moves).longer size (table_most size) said.1.bytes held.row.payload held.pages
          (record { same = λ n from to some. seen_new.same n from to (let m = among n in omega (arith, m, some)) })
          (payload_stays old mid past.longer size (table_most size) said.1.bytes held.row.payload held.pages
          (record { same = λ n from to some. (past.seen).same n from to (let m = among n in omega (arith, m, some)) }) is.payload);
    }

    abbrev rows : List Held
    rows = exchanged 0 places (map helds_of w.rows) t.rows

    abbrev pub new_said : List (ℤ × Local)
    new_said = exchanged 0 places (map says_of w.rows) (under.lies).said

    counts : {A : Type 0} (f : List NewRow → A) → length places ≡ length (map f w.rows)
    counts f = (let e = length-map w.rows f in let s = same in omega (arith, e, s))

    held_rows : Pairwise (IsHeldAs new size) new_said rows
    held_rows = exchanged_pairs (IsHeldAs old size) (IsHeldAs new size) chain_of here stays_held 0 places (map says_of w.rows) (map helds_of w.rows) (under.lies).said t.rows (counts says_of)
        (rows_hold new size w.rows w.sound) (λ n. omega arith) (under.lies).rows

    pub node_new : IsNode (page_at new number) (start_of number) (Rows (under.lies).said)
    node_new = says_new.node_is

    cell_count : length node_new.cells ≡ length t.rows
    cell_count = same_length (IsRowCell (length (page_at new number))) node_new.cells (under.lies).said node_new.say ∙ same_length (IsHeldAs old size) (under.lies).said t.rows (under.lies).rows

    pub rising : AreRising 0 (length node_new.cells) places
    rising = subst (λ (n : ℕ). AreRising 0 n places) (sym cell_count) (run_rises 0 t.rows changes places run)

    abbrev all_cells : List (List ℕ)
    all_cells = exchanged 0 places cells node_new.cells

    pub cells_say : AreOf TableLeaf (length (page_at new number)) [] all_cells (Rows new_said)
    cells_say = record {
      kind_is = refl;
      right_is = refl;
      say = subst (λ (n : ℕ). Pairwise (IsRowCell n) all_cells new_said) (sym long_new)
          (subst (λ (news : List (List (List ℕ))). Pairwise (IsRowCell size) (exchanged 0 places news node_new.cells) new_said) w.cells_are
          (exchanged_pairs (IsRowCell size) (IsRowCell size) (λ one. []) [] (λ x y among h. h) 0 places (map cells_of w.rows) (map says_of w.rows) node_new.cells (under.lies).said (counts cells_of)
          (rows_say new size w.rows w.sound) (λ n. none_of n (kept 0 places (under.lies).said))
          (subst (λ (n : ℕ). Pairwise (IsRowCell n) node_new.cells (under.lies).said) long_new node_new.say)));
    }
      where
        none_of : {A : Type 0} (n : ℕ) (xs : List A) → occurs n (flat_map (λ (x : A). []) xs) ≤ occurs n []
        none_of n [] = omega arith
        none_of n (x ∷ xs) = none_of n xs

    new_moves : Moves old new (below_of zero t) free (chains_of rows) w.now_free
    new_moves =
        in_sequence old mid new (below_of zero t) free (chains_of stays) given.now_free (chains_of rows) w.now_free
        (beside_used old mid gone free [] given.now_free (chains_of stays) (below_of zero t) (chains_of stays) given.moves (λ n. (let e = counted n in omega (arith, e))) (λ n. omega arith))
        (beside_used mid new [] given.now_free (new_chains w.rows) w.now_free (chains_of stays) (chains_of stays) (chains_of rows) w.moves (λ n. omega arith)
        (λ n. (let e = new_pages chain_of n 0 places (map helds_of w.rows) t.rows (counts helds_of) in let f = ap (occurs n) (chains_same w.rows) in omega (arith, e, f))))

    abbrev edited : List Entry
    edited = with_changes (take (length places) changes) (rows_of zero t)

    pieces_counted : (all : List (List ℕ)) (packed : Packed) (rises : Bool) (packs : Packs TableLeaf (length (page_at new number)) (take (start_of number) (page_at new number)) rises all (Rows new_said) packed)
        → length packed.pieces.items ≡ length packs.counts
    pieces_counted all packed rises packs =
        sym (length-map packed.pieces.items (λ (piece : Piece). piece.divider.items)) ∙ same_length IsKey (divider_bytes packed) _ packs.divide
        ∙ length-map (row_parts (last_number (pos 0)) packs.counts new_said).0 (λ part. part.1) ∙ rows_counted (last_number (pos 0)) packs.counts new_said

    -- where pages say the new rows, by any cells, they have to take the leaf's place
    pub planned_as : (all : List (List ℕ)) → length all ≡ length new_said → (packed : Packed) (rises : Bool)
        → Packs TableLeaf (length (page_at new number)) (take (start_of number) (page_at new number)) rises all (Rows new_said) packed → length packed.pieces.items ≤ 8
        → IsPlanned old new size number zero low high edited (below_of zero t) free packed
    planned_as all all_len packed rises packs few =
        let page = page_at new number in
        let start = start_of number in
        let sizes = large_size size under.sized in
        let near = start_le number in
        let long = long_new in
        let front_len : length (take start page) ≡ start = length-take-le start page (omega (arith, long, sizes.0, near)) in
        let room : ℕ = length page - length (take start page) - 8 - 0 in
        let cell_len : length (map cell_room all) ≡ length rows = length-map all cell_room ∙ all_len ∙ same_length (IsHeldAs new size) new_said rows held_rows in
        let lie = subst (λ (n : ℕ). LieWithin 0 packs.counts n) cell_len (cut_within 0 room rises (map cell_room all) packs.counts packs.cut) in
        let counted = are_counted packs.counts (length packed.pieces.items) (pieces_counted all packed rises packs) in
        let at = packing.start_of (take start page) packs.counts in
        let rise = rises_exchanged t.rows high 0 changes places w.rows low same under.sorted run w.entries_are in
        let cut = cut_leaf new size at low high packs.counts new_said rows (images packed) held_rows rise lie packs.say in
        record {
          kids = cut.kids;
          last = cut.last;
          tops = subst (λ (n : ℕ). Pairwise (IsTop new size zero n) (images packed) (all_of cut.kids cut.last)) (begins_same (take start page) number packs.counts packed.pieces.items counted front_len) cut.tops;
          divide = subst (λ (ks : List ℤ). Pairwise IsKey (divider_bytes packed) ks) cut.keys_are packs.divide;
          sorted = cut.sorted;
          rows_are = cut.rows_are ∙ rows_exchanged t.rows high 0 changes places w.rows low same under.sorted run w.entries_are;
          now_free = w.now_free;
          has = (w.free_are).has;
          moves = subst (λ (pages : List ℕ). Moves old new (number ∷ below_of zero t) free (number ∷ pages) w.now_free) (sym cut.chains_are)
              (beside old new (below_of zero t) free (chains_of rows) w.now_free number new_moves);
          header = keeps_then old mid new given.header w.header;
          sized = subst (λ (n : ℕ). AllByRecursion (λ image. length image ≡ n) (images packed)) long packs.sized;
          front = λ none. front_alone (take start page) packed.last.items start front_len (packs.front_is (no_counts packs.counts packed.pieces.items counted none));
          few = few;
        }

    pub planned : 2 * total (map (room_for size) (take (length places) changes)) ≤ 2 * size → (packed : Packed) (rises : Bool)
        → Packs TableLeaf (length (page_at new number)) (take (start_of number) (page_at new number)) rises all_cells (Rows new_said) packed
        → IsPlanned old new size number zero low high edited (below_of zero t) free packed
    planned small packed rises packs =
        let page = page_at new number in
        let start = start_of number in
        let sizes = large_size size under.sized in
        let near = start_le number in
        let long = long_new in
        let front_len : length (take start page) ≡ start = length-take-le start page (omega (arith, long, sizes.0, near)) in
        let room : ℕ = length page - length (take start page) - 8 - 0 in
        let piece_count = pieces_counted all_cells packed rises packs in
        let few : length packed.pieces.items ≤ 8 = (let count = ap length w.cells_are in let mapped = length-map w.rows cells_of in let match = same in
        let sum = exchanged_room cell_room 0 places cells node_new.cells [] (omega (arith, count, mapped, match)) rising in
        let fit = cells_fit 13 page start [] node_new.cells node_new.page_is in
        let new_room = w.room in
        let most = few_parts 0 room rises (map cell_room all_cells) packs.counts packs.cut (omega (arith, long, front_len, sizes.0, near))
        (omega (arith, sum, fit, small, new_room, front_len, near, long, sizes.0)) in
        omega (arith, most, piece_count)) in
        planned_as all_cells (same_length (IsRowCell (length page)) all_cells new_said cells_say.say) packed rises packs few

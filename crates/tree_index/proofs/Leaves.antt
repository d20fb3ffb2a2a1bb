-- An entry is put on a leaf.
use Rattle.std.proofs.Common.{◌≡◌, ◌≤◌, ◌<◌, ◌+◌, ◌-◌, ◌*◌, ◌^◌, ◌==◌, ℕ, zero, suc, List, [], ◌∷◌, ◌++◌, length, map, take, drop, refl, sym, ap, subst, ◌∙◌, inl, inr, arith, nat_le, Bool, true, false, if◌then◌else◌}
use Rattle.std.proofs.Math.Nat.{mul-le-mul_left}
use Rattle.std.proofs.lemmas.Bool.{cases_lt, leb-true}
use Rattle.std.proofs.lemmas.Grind.{common_steps}
use Rattle.std.proofs.lemmas.List.{length-append, length-map, length-take-le, length-drop}
use Rattle.std.specs.List.{AllByRecursion}
use Rattle.std.specs.Prelude.{Result, Ok, Err, MatchResult}
use Rattle.sqlval.specs.PageSizes.{IsPageSize}
use Rattle.sqlval.specs.declared.fault.Fault.{Fault}
use Rattle.sqlval.specs.Faults.{IsOutside}
use Rattle.record.specs.Record.{IsRecord}
use Rattle.pages.specs.Calls.{IsOutsideOrFull}
use Rattle.pages.specs.Counting.{occurs, start_of, Moves}
use Rattle.pages.specs.Map.{PageMap, page_at, AreWhole}
use Rattle.pages.proofs.Moving.{occurs_append}
use Rattle.tree_page.specs.Cells.{Pairwise}
use Rattle.freelist.specs.Calls.{AreFree}
use Rattle.tree_page.specs.Node.{Local, Entries, IsNode, IsEntryCell, Say}
use Rattle.tree_page.specs.Payload.{index_most, least, fitted, local_size, held_size}
use Rattle.tree_page.specs.declared.items.Kind.TheVariants.{IndexLeaf}
use Rattle.tree_page.proofs.HeaderLemmas.{same_length}
use Rattle.tree_overflow.specs.Calls.{IsWritten}
use Rattle.tree_overflow.specs.Chains.{IsChain, IsPayload, first_link}
use Rattle.tree_pack.specs.Building.{cell_room}
use Rattle.tree_pack.specs.Lists.{pieces, entry_parts, with_key}
use Rattle.tree_pack.specs.Packing.{AreOf, images, divider_bytes, Packs}
use Rattle.tree_pack.specs.Parts.{total, IsCut}
use Rattle.tree_pack.specs.Splicing.{spliced, IsUsual, Splices}
use Rattle.tree_pack.specs.declared.spreading.Packed.{Packed}
use Rattle.tree_pack.specs.declared.spreading.Piece.{Piece}
use Rattle.tree_pack.proofs.CountLemmas.{cut_fewer}
use Rattle.tree_pack.proofs.SmallLemmas.{entry_small}
use Rattle.tree_pack.proofs.Splices.{pairwise_spliced}
use Rattle.tree_store.specs.Saying.{Says}
use Rattle.tree_store.specs.Storing.{IsPlacedOn, PlacesOn}
use Rattle.tree_index.specs.Entries.{Entry}
use Rattle.tree_index.specs.Freeing.{StandsUnder, chains_of, below_of}
use Rattle.tree_index.specs.Growing.{IsPlanned, IsPut, entries_put}
use Rattle.tree_index.specs.Tree.{Held, IsHeldAs, IsLeaf, Leaf, pages_of}
use Rattle.tree_index.proofs.Branches.{starts_at}
use Rattle.tree_index.proofs.Clearing.{number_far}
use Rattle.tree_index.proofs.Cutting.{cut_leaf, values}
use Rattle.tree_index.proofs.Emptied.{large_size}
use Rattle.tree_pack.proofs.Rooms.{cells_fit}
use Rattle.tree_index.proofs.OnLeaves.{unfree, put_on}
use Rattle.tree_index.proofs.Shares.{after, beside_used, once_after, others_kept, start_after, up_none}
use Rattle.tree_index.proofs.Staying.{lies_kept}
use Rattle.tree_index.proofs.Subtrees.{tree_up}
use Rattle.tree_index.proofs.Sums.{room_added}

-- ---- few pages

key_few : {A : Type 0} (counts : List ℕ) (whole front rest : List A) → ((xs : List A) → length (entry_parts counts xs).0 ≤ length counts)
    → length (with_key whole front rest (λ xs. entry_parts counts xs)).0 ≤ suc (length counts)
key_few counts whole front [] more = omega arith
key_few counts whole front (item ∷ rest) more = (let le = more rest in omega (arith, le))

pub parts_few : {A : Type 0} (counts : List ℕ) (items : List A) → length (entry_parts counts items).0 ≤ length counts
parts_few [] items = omega arith
parts_few (count ∷ counts) items = key_few counts items (take count items) (drop count items) (λ xs. parts_few counts xs)

-- cells that don't fill so many pages make at most one more
pub at_most : (pages room : ℕ) (rises : Bool) (sizes counts : List ℕ) → IsCut 1 room rises sizes counts → total sizes < room * suc pages → length counts ≤ pages
at_most pages room rises sizes counts cut small = elim (cases_lt pages (length counts)) [
  | inl lt ↦ absurd (let most = cut_fewer 1 room rises sizes counts (omega arith) cut in let more = mul-le-mul_left room lt in omega (arith, most, more, small))
  | inr ge ↦ ge
]

-- cells that don't fill two pages
pub at_most_two : (room : ℕ) (rises : Bool) (sizes counts : List ℕ) → IsCut 1 room rises sizes counts → total sizes < 2 * room → length counts ≤ 1
at_most_two room rises sizes counts cut small = at_most 1 room rises sizes counts cut (omega (arith, small))

-- or three
pub at_most_three : (room : ℕ) (rises : Bool) (sizes counts : List ℕ) → IsCut 1 room rises sizes counts → total sizes < 3 * room → length counts ≤ 2
at_most_three room rises sizes counts cut small = at_most 2 room rises sizes counts cut (omega (arith, small))

-- pages of the format's sizes are usual
pub usual : (page : List ℕ) (size : ℕ) → (512 ≤ size) × (size ≤ 2 ^ 16) → length page ≡ size → IsUsual page 0
usual page size sizes long = record { least = (let big = sizes.0 in omega (arith, big, long)); addressed = (let small = sizes.1 in omega (arith, small, long)); near = omega arith }

-- ---- what a cell holds of a payload

least_le : (size : ℕ) → 512 ≤ size → least size ≤ index_most size
least_le size big = omega (arith, big)

local_le : (size n : ℕ) → 512 ≤ size → index_most size < n → local_size size (index_most size) n ≤ index_most size
local_le size n big more = by_size (nat_le n (index_most size)) refl
  where
    by_fit : (b : Bool) → nat_le (fitted size n) (index_most size) ≡ b → (if nat_le (fitted size n) (index_most size) then fitted size n else least size) ≤ index_most size
    by_fit true e = rw e (leb-true _ _ e)
    by_fit false e = rw e (least_le size big)

    by_size : (b : Bool) → nat_le n (index_most size) ≡ b → local_size size (index_most size) n ≤ index_most size
    by_size true e = absurd (let le = leb-true n (index_most size) e in omega (arith, le, more))
    by_size false e = rw e (by_fit (nat_le (fitted size n) (index_most size)) refl)

no_chain : (m : PageMap) (usable : ℕ) (bytes pages : List ℕ) → length bytes ≡ 0 → IsChain m usable bytes pages → length (first_link pages) ≡ 0
no_chain m usable bytes [] none h = refl
no_chain m usable bytes (page ∷ pages) none h = absurd (let some = h.0.some in omega (arith, some, none))

a_chain : (m : PageMap) (usable : ℕ) (bytes pages : List ℕ) → 1 ≤ length bytes → IsChain m usable bytes pages → length (first_link pages) ≡ 4
a_chain m usable bytes [] some h = absurd (let none = ap length h in omega (arith, some, none))
a_chain m usable bytes (page ∷ pages) some h = refl

not_le : (a b : ℕ) → nat_le a b ≡ false → b < a
not_le a b e = grind (arith, common_steps)

no_bool : true ≡ false → ⊥
no_bool e = cc

pub payload_held : (m : PageMap) (size : ℕ) (held payload pages : List ℕ) → 512 ≤ size → IsPayload m size (index_most size) held payload pages → length held ≡ held_size size (index_most size) (length payload)
payload_held m size held payload pages big is = by_size (nat_le (length payload) (index_most size)) refl
  where
    local : ℕ
    local = local_size size (index_most size) (length payload)

    long : length held ≡ length (take local payload) + length (first_link pages)
    long = ap length is.parts ∙ length-append (take local payload) (first_link pages)

    by_size : (b : Bool) → nat_le (length payload) (index_most size) ≡ b → length held ≡ held_size size (index_most size) (length payload)
    by_size true e =
        let all : local ≡ length payload = rw e refl in
        let left = length-drop local payload in
        let none = no_chain m size (drop local payload) pages (omega (arith, left, all)) is.chain in
        let taken = length-take-le local payload (omega (arith, all)) in
        rw e (omega (arith, long, none, taken, all))
    by_size false e =
        let more = not_le (length payload) (index_most size) e in
        let le = local_le size (length payload) big more in
        let left = length-drop local payload in
        let some = a_chain m size (drop local payload) pages (omega (arith, left, le, more)) is.chain in
        let taken = length-take-le local payload (omega (arith, le, more)) in
        held_more e (omega (arith, long, some, taken))
      where
        held_more : nat_le (length payload) (index_most size) ≡ false → length held ≡ local + 4 → length held ≡ held_size size (index_most size) (length payload)
        held_more e h = h ∙ sym (held_is (nat_le (length payload) (index_most size)) e)
          where
            held_is : (b : Bool) → b ≡ false → (if b then length payload else local + 4) ≡ local + 4
            held_is true e = absurd (no_bool e)
            held_is false e = refl

-- ---- one entry more

-- one more at a place
abbrev pub with_one : {A : Type 0} → ℕ → A → List A → List A
with_one place x xs = take place xs ++ (x ∷ drop place xs)

spliced_is : {A : Type 0} (place : ℕ) (x : A) (xs : List A) → spliced place 0 (x ∷ []) xs ≡ with_one place x xs
spliced_is place x xs = (let e : place + 0 ≡ place = omega arith in ap (λ (n : ℕ). take place xs ++ (x ∷ drop n xs)) e)

one_values : (place : ℕ) (held : Held) (entries : List Held) → values (with_one place held entries) ≡ take place (values entries) ++ (held.entry ∷ drop place (values entries))
one_values zero held entries = refl
one_values (suc place) held [] = refl
one_values (suc place) held (first ∷ entries) = ap (λ (es : List Entry). first.entry ∷ es) (one_values place held entries)

one_chains : (n place : ℕ) (held : Held) (entries : List Held) → occurs n (chains_of (with_one place held entries)) ≡ occurs n held.pages + occurs n (chains_of entries)
one_chains n zero held entries = occurs_append n held.pages (chains_of entries)
one_chains n (suc place) held [] = occurs_append n held.pages []
one_chains n (suc place) held (first ∷ entries) =
    let rest = one_chains n place held entries in
    let one = occurs_append n first.pages (chains_of (with_one place held entries)) in
    let two = occurs_append n first.pages (chains_of entries) in
    omega (arith, rest, one, two)

put_values : (place : ℕ) (held : Held) (entries : List Held) → values (spliced place 0 (held ∷ []) entries) ≡ take place (values entries) ++ (held.entry ∷ drop place (values entries))
put_values place held entries = ap values (spliced_is place held entries) ∙ one_values place held entries

put_chains : (n place : ℕ) (held : Held) (entries : List Held) → occurs n (chains_of (spliced place 0 (held ∷ []) entries)) ≡ occurs n held.pages + occurs n (chains_of entries)
put_chains n place held entries = ap (λ (hs : List Held). occurs n (chains_of hs)) (spliced_is place held entries) ∙ one_chains n place held entries

module _ (old mid : PageMap) (size number ways : ℕ) (entry : Entry) (payload : List ℕ) (t : Leaf) (free : List ℕ) (under : StandsUnder old size number ways zero t free) (sized : IsPageSize size)
    (record_is : IsRecord payload entry) (held : List ℕ) (w : IsWritten old mid size (index_most size) free payload held) (place : ℕ) (within : place ≤ length t.entries) where
  pub whole_mid : AreWhole size mid
  whole_mid = (w.moves).whole size (under.free_are).whole

  pub leaf_mid : IsLeaf mid size t
  leaf_mid = lies_kept old mid size zero t
      (others_kept old mid size [] free w.chain w.now_free (pages_of zero t) (under.free_are).whole w.moves (λ n some. (let once = under.apart n in omega (arith, once, some)))) under.lies

  -- the leaf's page as it is when the payload is written
  pub says_mid : Says mid number (Entries leaf_mid.said)
  says_mid = subst (λ (n : ℕ). Says mid n (Entries leaf_mid.said)) under.top_is leaf_mid.says

  pub long_mid : length (page_at mid number) ≡ size
  long_mid = whole_mid number says_mid.has

  abbrev pub local : Local
  local = record { size = length payload; bytes = held }

  abbrev said : List Local
  said = spliced place 0 (local ∷ []) leaf_mid.said

  abbrev new_one : Held
  new_one = record { entry = entry; payload = payload; pages = w.chain }

  abbrev entries : List Held
  entries = spliced place 0 (new_one ∷ []) t.entries

  held_entries : Pairwise (IsHeldAs mid size) said entries
  held_entries = pairwise_spliced (IsHeldAs mid size) place 0 leaf_mid.said (local ∷ []) t.entries (new_one ∷ []) leaf_mid.entries (record { size = refl; payload = w.is; record_is = record_is }, tt)

  -- ---- what is used and free

  first_moves : Moves old mid (pages_of zero t) free (number ∷ chains_of entries) w.now_free
  first_moves = beside_used old mid [] free w.chain w.now_free (pages_of zero t) (pages_of zero t) (number ∷ chains_of entries) w.moves (λ n. omega arith)
      (λ n. (let put = put_chains n place new_one t.entries in let same = ap (λ (m : ℕ). occurs n (m ∷ chains_of t.entries)) under.top_is in omega (arith, put, same)))

  once_mid : (n : ℕ) → occurs n (number ∷ chains_of entries) + occurs n w.now_free ≤ 1
  once_mid = once_after old mid size (pages_of zero t) free (number ∷ chains_of entries) w.now_free under.free_are first_moves (tree_up old size zero t under.lies) under.apart

  free_mid : AreFree mid size w.now_free
  free_mid = (after old mid size [] free w.chain w.now_free under.free_are w.moves w.has (up_none (length old)) (λ n. (let once = under.apart n in omega (arith, once))) refl).are

  module _ (cell : List ℕ) (is_cell : IsEntryCell size cell local) where
    node : IsNode (page_at mid number) 0 (Entries leaf_mid.said)
    node = subst (λ (n : ℕ). IsNode (page_at mid number) n (Entries leaf_mid.said)) (start_after number (number_far old size number ways zero t free under)) says_mid.node_is

    cell_count : length node.cells ≡ length t.entries
    cell_count = same_length (IsEntryCell (length (page_at mid number))) node.cells leaf_mid.said node.say ∙ same_length (IsHeldAs mid size) leaf_mid.said t.entries leaf_mid.entries

    cells_say : AreOf IndexLeaf (length (page_at mid number)) [] (spliced place 0 (cell ∷ []) node.cells) (Entries said)
    cells_say = record {
      kind_is = refl;
      right_is = refl;
      say = pairwise_spliced (IsEntryCell (length (page_at mid number))) place 0 node.cells (cell ∷ []) leaf_mid.said (local ∷ []) node.say
          (subst (λ (n : ℕ). IsEntryCell n cell local) (sym long_mid) is_cell, tt);
    }

    -- ---- the entry on the leaf's page

    node_there : IsNode (page_at mid number) (start_of number) (Entries leaf_mid.said)
    node_there = says_mid.node_is

    say_put : Say size (with_one place cell node_there.cells) (Entries said)
    say_put = subst (λ (cells : List (List ℕ)). Pairwise (IsEntryCell size) cells said) (spliced_is place cell node_there.cells)
        (pairwise_spliced (IsEntryCell size) place 0 node_there.cells (cell ∷ []) leaf_mid.said (local ∷ [])
        (subst (λ (n : ℕ). Pairwise (IsEntryCell n) node_there.cells leaf_mid.said) long_mid node_there.say) (is_cell, tt))

    there_count : length node_there.cells ≡ length t.entries
    there_count = same_length (IsEntryCell (length (page_at mid number))) node_there.cells leaf_mid.said node_there.say
        ∙ same_length (IsHeldAs mid size) leaf_mid.said t.entries leaf_mid.entries

    leaf_places : (new : PageMap) (result : Result Bool Fault) → PlacesOn mid new size number place cell result
        → MatchResult result (IsPlacedOn mid new size w.now_free number (with_one place cell node_there.cells) (Entries said)) IsOutside
    leaf_places new result places = places w.now_free free_mid says_mid.has
        (unfree old mid size number (pages_of zero t) free w.now_free said entries whole_mid says_mid.has held_entries first_moves once_mid w.header)
        (Entries leaf_mid.said) (Entries said) node_there (large_size size sized).1 (let count = there_count in omega (arith, count, within)) refl refl say_put

    pub leaf_placed : (new : PageMap) → PlacesOn mid new size number place cell (Ok true) → IsPut old new size number zero (entries_put place entry t) (pages_of zero t) free
    leaf_placed new places = subst (λ (es : List Entry). IsPut old new size number zero es (pages_of zero t) free) (put_values place new_one t.entries)
        (put_on old mid size number (pages_of zero t) free w.now_free said entries whole_mid says_mid.has held_entries first_moves once_mid w.header new
        (with_one place cell node_there.cells) (leaf_places new (Ok true) places))

    pub leaf_unplaced : (new : PageMap) → PlacesOn mid new size number place cell (Ok false) → new ≡ mid
    leaf_unplaced new places = leaf_places new (Ok false) places

    pub leaf_unwritten : (new : PageMap) (fault : Fault) → PlacesOn mid new size number place cell (Err fault) → IsOutside fault
    leaf_unwritten new fault places = leaf_places new (Err fault) places

    -- ---- pages in its place

    planned : (packed : Packed) → Packs IndexLeaf (length (page_at mid number)) [] (place + 0 == length node.cells) (spliced place 0 (cell ∷ []) node.cells) (Entries said) packed
        → IsPlanned old mid size zero (entries_put place entry t) (below_of zero t) free packed
    planned packed packs =
        let page = page_at mid number in
        let cells = spliced place 0 (cell ∷ []) node.cells in
        let sizes = large_size size sized in
        let room : ℕ = length page - 0 - 8 - 0 in
        let says = subst (λ (n : ℕ). Pairwise (λ image node. IsNode image n node) (images packed) (map (λ part. Entries part) (pieces (entry_parts packs.counts said).0 (entry_parts packs.counts said).1))) (starts_at packs.counts) packs.say in
        let divide = subst (λ (n : ℕ). Pairwise (IsEntryCell n) (divider_bytes packed) (map (λ part. part.1) (entry_parts packs.counts said).0)) long_mid packs.divide in
        let cut = cut_leaf mid size packs.counts said entries (images packed) (divider_bytes packed) held_entries says divide in
        let piece_count : length packed.pieces.items ≡ length (entry_parts packs.counts said).0 = (
        sym (length-map packed.pieces.items (λ (piece : Piece). piece.divider.items)) ∙ same_length (IsEntryCell size) (divider_bytes packed) _ divide
        ∙ length-map (entry_parts packs.counts said).0 (λ part. part.1)) in
        record {
          kids = cut.kids;
          last = cut.last;
          tops = cut.tops;
          divide = cut.divide;
          entries_are = cut.entries_are ∙ put_values place new_one t.entries;
          now_free = w.now_free;
          has = w.has;
          moves = subst (λ (pages : List ℕ). Moves old mid (below_of zero t) free pages w.now_free) (sym cut.chains_are)
              (beside_used old mid [] free w.chain w.now_free (below_of zero t) (below_of zero t) (chains_of entries) w.moves (λ n. omega arith) (λ n. put_chains n place new_one t.entries));
          header = w.header;
          sized = subst (λ (n : ℕ). AllByRecursion (λ image. length image ≡ n) (images packed)) long_mid packs.sized;
          few = (let sum = room_added cell_room place (cell ∷ []) node.cells in
              let fit = cells_fit 10 page 0 [] node.cells node.page_is in
              let small = entry_small size cell local sizes.0 is_cell in
              let long = long_mid in
              let big = sizes.0 in
              let most = at_most_two room (place + 0 == length node.cells) (map cell_room cells) packs.counts packs.cut (omega (arith, sum, fit, small, long, big)) in
              let parts = parts_few packs.counts said in
              omega (arith, most, parts, piece_count));
        }

    -- the cells of the leaf with the new one are packed
    pub leaf_planned : (result : Result Packed Fault) → Splices (page_at mid number) 0 place 0 (cell ∷ []) [] result
        → MatchResult result (IsPlanned old mid size zero (entries_put place entry t) (below_of zero t) free) IsOutsideOrFull
    leaf_planned (Ok packed) splices =
        planned packed (splices IndexLeaf (Entries leaf_mid.said) (Entries said) node (usual (page_at mid number) size (large_size size sized) long_mid) refl
        (let count = cell_count in omega (arith, count, within)) cells_say)
    leaf_planned (Err fault) splices =
        inl (inl (splices IndexLeaf (Entries leaf_mid.said) (Entries said) node (usual (page_at mid number) size (large_size size sized) long_mid) refl
        (let count = cell_count in omega (arith, count, within)) cells_say))

-- Cells that are read off pages, and what they are packed as.
use Rattle.std.proofs.Common.{◌≡◌, ◌≤◌, ◌<◌, ◌+◌, ◌-◌, ◌^◌, ℕ, Bool, List, [], ◌∷◌, ◌++◌, append_assoc, length, take, drop, map, get_or, Option, None, Some, true, Bor, Result, Ok, Err, IsErrAnd, IfOk, IfErr, MatchResult, refl, sym, ap, subst, ◌∙◌, arith}
use Rattle.std.proofs.lemmas.List.{take_more, get_or-drop, length-drop, take_all, map_push, map-append, take-append-drop, length-take-le}
use Rattle.std.proofs.Math.Dec.{eqb}
use Rattle.std.proofs.lemmas.Bool.{eqb-true, true≢false}
use Rattle.std.specs.Option.{option_eq}
use Rattle.std.specs.List.{AllByRecursion, insert}
use Rattle.sqlval.specs.declared.fault.Fault.{Fault}
use Rattle.sqlval.specs.declared.fault.Fault.TheVariants.{Memory}
use Rattle.tree_page.specs.Cells.{Pairwise}
use Rattle.tree_page.specs.Node.{Node, Rows, Keys, Entries, Between, IsRowCell, IsKeyCell, IsEntryCell, IsBetweenCell, code_of, right_of, IsNode}
use Rattle.tree_page.specs.Reading.{Place, type_of, count_of, last_of}
use Rattle.tree_page.specs.declared.items.Kind.{Kind}
use Rattle.tree_page.specs.declared.items.Kind.TheVariants.{TableLeaf, TableInterior, IndexLeaf, IndexInterior}
use Rattle.tree_pack.specs.Placing.{IsPlaced}
use Rattle.tree_pack.specs.declared.spreading.Packed.{Packed}
use Rattle.tree_pack.specs.Building.{cell_room, right_room, right_bytes}
use Rattle.tree_pack.specs.Splicing.{spliced}
use Rattle.tree_pack.specs.declared.spreading.Piece.{Piece}
use Rattle.tree_pack.specs.Parts.{total}
use Rattle.tree_pack.specs.Packing.{CanPack, AreOf, nodes_of, images, dividers_of, Divide, Packs}
use Rattle.tree_pack.proofs.SayLemmas.{pairwise_length}
use Rattle.tree_pack.proofs.DividingLemmas.{none_divide}
use Rattle.tree_pack.proofs.Rooms.{cells_fit}
use Rattle.tree_pack.proofs.SmallLemmas.{node_packs}

abbrev bytes_of : List (Bor (List ℕ)) → List (List ℕ)
bytes_of cells = map (λ (cell : Bor (List ℕ)). cell.now) cells

-- ---- refusals

abbrev pub IsMemory : Fault → Type 0
IsMemory fault = fault ≡ Memory

-- a refusal that is handed on
pub refused_on : {T : Type 0} (result : Result T Fault) (fault : Fault) (P : T → Type 0) → IsErrAnd result (λ e. e ≡ fault) → fault ≡ Memory → MatchResult result P IsMemory
refused_on (Ok x) fault P is memory = absurd is
refused_on (Err e) fault P is memory = is ∙ memory

-- ---- what a page has

-- a page has as many cells as its node has items
pub count_is : (page : List ℕ) (start : ℕ) (node : Node) (is : IsNode page start node) → length is.cells ≡ count_of node
count_is page start (Rows rows) is = pairwise_length (IsRowCell (length page)) is.cells rows is.say
count_is page start (Keys kids last) is = pairwise_length IsKeyCell is.cells kids is.say.0
count_is page start (Entries entries) is = pairwise_length (IsEntryCell (length page)) is.cells entries is.say
count_is page start (Between kids last) is = pairwise_length (IsBetweenCell (length page)) is.cells kids is.say.0

-- what the code reads of a page that says something
pub len_of : (place : Place) (page : List ℕ) (start len : ℕ) (node : Node) (is : IsNode page start node) → place ≡ record { bytes = page; start = start } → ((other : Node) → IsNode place.bytes place.start other → len ≡ count_of other) → len ≡ length is.cells
len_of place page start len node is at counts = (rw at at counts) node is ∙ sym (count_is page start node is)

-- no two kinds have pages of one type
pub one_kind : (a b : Kind) → type_of a ≡ type_of b → a ≡ b
one_kind TableLeaf TableLeaf e = refl
one_kind TableInterior TableInterior e = refl
one_kind IndexLeaf IndexLeaf e = refl
one_kind IndexInterior IndexInterior e = refl
one_kind a b e = absurd (omega (arith, e))

pub kind_of : (place : Place) (page : List ℕ) (start : ℕ) (read kind : Kind) (node : Node) → IsNode page start node → place ≡ record { bytes = page; start = start } → ((other : Node) → IsNode place.bytes place.start other → type_of read ≡ code_of other)
    → type_of kind ≡ code_of node → read ≡ kind
kind_of place page start read kind node is at reads same = one_kind read kind ((rw at at reads) node is ∙ sym same)

-- the last child, as bytes
last_bytes : (node : Node) → right_bytes (last_of node) ≡ right_of node
last_bytes (Rows rows) = refl
last_bytes (Keys kids last) = refl
last_bytes (Entries entries) = refl
last_bytes (Between kids last) = refl

pub last_of_page : (place : Place) (page : List ℕ) (start : ℕ) (read : Option ℕ) (node : Node) → IsNode page start node → place ≡ record { bytes = page; start = start } → ((other : Node) → IsNode place.bytes place.start other → read ≡ last_of other)
    → right_bytes read ≡ right_of node
last_of_page place page start read node is at reads = ap right_bytes ((rw at at reads) node is) ∙ last_bytes node

-- ---- cells that are appended

-- one cell more
pub cell_on : (old out pushed : List (Bor (List ℕ))) (cell : Bor (List ℕ)) (cells : List (List ℕ)) (from index : ℕ) → pushed ≡ out ++ cell ∷ [] → from ≤ index → index < length cells
    → cell.now ≡ get_or cells index [] → bytes_of out ≡ bytes_of old ++ take (index - from) (drop from cells) → bytes_of pushed ≡ bytes_of old ++ take (index + 1 - from) (drop from cells)
cell_on old out pushed cell cells from index p le lt is so_far =
    let e : index + 1 - from ≡ index - from + 1 = omega arith in
    let place : from + (index - from) ≡ index = omega arith in
    let item : get_or (drop from cells) (index - from) [] ≡ cell.now = get_or-drop from cells (index - from) [] ∙ ap (λ (n : ℕ). get_or cells n []) place ∙ sym is in
    let more : take (index + 1 - from) (drop from cells) ≡ take (index - from) (drop from cells) ++ cell.now ∷ [] =
    ap (λ (n : ℕ). take n (drop from cells)) e ∙ take_more (drop from cells) (index - from) [] (omega (arith, length-drop from cells)) ∙ ap (λ (x : List ℕ). take (index - from) (drop from cells) ++ x ∷ []) item in
    ap bytes_of p ∙ map_push (λ (x : Bor (List ℕ)). x.now) out cell ∙ ap (λ (xs : List (List ℕ)). xs ++ cell.now ∷ []) so_far
    ∙ append_assoc (bytes_of old) (take (index - from) (drop from cells)) (cell.now ∷ []) ∙ ap (λ (xs : List (List ℕ)). bytes_of old ++ xs) (sym more)

-- up to the end
pub cells_end : (old out : List (Bor (List ℕ))) (cells : List (List ℕ)) (from index to : ℕ) → index ≡ to → bytes_of out ≡ bytes_of old ++ take (index - from) (drop from cells)
    → bytes_of out ≡ bytes_of old ++ take (to - from) (drop from cells)
cells_end old out cells from index to e so_far = subst (λ (n : ℕ). bytes_of out ≡ bytes_of old ++ take (n - from) (drop from cells)) e so_far

-- three lists one after the other
pub around_is : (none first second third between : List (Bor (List ℕ))) (a b : List (List ℕ)) (to from len : ℕ) → from ≤ len → len ≡ length b → none ≡ [] → bytes_of first ≡ bytes_of none ++ take (to - 0) (drop 0 a) → second ≡ first ++ between
    → bytes_of third ≡ bytes_of second ++ take (len - from) (drop from b) → bytes_of third ≡ take to a ++ (bytes_of between ++ drop from b)
around_is none first second third between a b to from len le e empty one two three =
    let zero_less : to - 0 ≡ to = omega arith in
    let all : take (len - from) (drop from b) ≡ drop from b = take_all (len - from) (drop from b) (omega (arith, length-drop from b)) in
    three ∙ ap (λ (xs : List (List ℕ)). bytes_of second ++ xs) all
    ∙ ap (λ (xs : List (List ℕ)). xs ++ drop from b) (ap bytes_of two ∙ map-append (λ (x : Bor (List ℕ)). x.now) first between ∙ ap (λ (xs : List (List ℕ)). xs ++ bytes_of between) (one ∙ ap (λ (xs : List (Bor (List ℕ))). bytes_of xs ++ take (to - 0) a) empty ∙ ap (λ (n : ℕ). take n a) zero_less))
    ∙ append_assoc (take to a) (bytes_of between) (drop from b)

-- all cells of the first page
pub whole_is : (n : ℕ) (all a rest : List (List ℕ)) → n ≡ length a → all ≡ take n a ++ rest → all ≡ a ++ rest
whole_is n all a rest e is = is ∙ ap (λ (xs : List (List ℕ)). xs ++ rest) (take_all n a (omega (arith, e)))

-- ---- one cell more

-- one cell where no other gives way
pub spliced_one : (from count : ℕ) (cells : List (List ℕ)) (more : List (Bor (List ℕ))) (none : Bor (List ℕ)) → count ≡ 0 → 1 ≤ length more → length more < 2
    → spliced from count (bytes_of more) cells ≡ insert cells from (get_or more 0 none).now
spliced_one from count cells [] none zero some few = absurd (omega (arith, some))
spliced_one from count cells (cell ∷ []) none zero some few = ap (λ (n : ℕ). take from cells ++ cell.now ∷ drop n cells) (omega (arith, zero))
spliced_one from count cells (cell ∷ other ∷ more) none zero some few = absurd (omega (arith, few))

pub no_cells : (more : List (Bor (List ℕ))) → length more < 1 → bytes_of more ≡ []
no_cells [] few = refl
no_cells (cell ∷ more) few = absurd (omega (arith, few))

pub one_cell : (more : List (Bor (List ℕ))) (none : Bor (List ℕ)) → 1 ≤ length more → length more < 2 → bytes_of more ≡ (get_or more 0 none).now ∷ []
one_cell [] none some few = absurd (omega (arith, some))
one_cell (cell ∷ []) none some few = refl
one_cell (cell ∷ other ∷ more) none some few = absurd (omega (arith, few))

-- what the code compares
pub same_last : (a b : Option ℕ) → option_eq eqb a b ≡ true → a ≡ b
same_last None None e = refl
same_last None (Some y) e = absurd (true≢false (sym e))
same_last (Some x) None e = absurd (true≢false (sym e))
same_last (Some x) (Some y) e = ap Some (eqb-true x y e)

-- what stands between the header and the pointers of a page of this kind
right_wide : (kind : Kind) (node : Node) → type_of kind ≡ code_of node → right_room kind ≡ length (right_of node)
right_wide TableLeaf (Rows rows) e = refl
right_wide TableInterior (Keys kids last) e = refl
right_wide IndexLeaf (Entries entries) e = refl
right_wide IndexInterior (Between kids last) e = refl
right_wide kind node e = absurd (omega (arith, e))

-- one page says all of a node
lone_node : (node : Node) → nodes_of [] node ≡ node ∷ []
lone_node (Rows rows) = refl
lone_node (Keys kids last) = refl
lone_node (Entries entries) = refl
lone_node (Between kids last) = refl

-- a page that says all is packed alone
pub packs_alone : (kind : Kind) (page : List ℕ) (start : ℕ) (rises : Bool) (cells : List (List ℕ)) (node : Node) (packed : Packed) → packed.pieces.items ≡ [] → type_of kind ≡ code_of node → start ≤ length page
    → IsPlaced page start cells node packed.last.items → Packs kind (length page) (take start page) rises cells node packed
packs_alone kind page start rises cells node packed alone same near placed =
    let new = packed.last.items in
    let is = placed.is in
    let wide = right_wide kind node same in
    let front : length (take start page) ≡ start = length-take-le start page near in
    let lie = cells_fit (code_of node) new start (right_of node) is.cells is.page_is in
    let size : total (map cell_room cells) ≡ total (map cell_room is.cells) = ap (λ (xs : List (List ℕ)). total (map cell_room xs)) (sym placed.cells_are) in
    let fits : total (map cell_room cells) ≤ length page - length (take start page) - 8 - right_room kind = omega (arith, wide, front, lie, size, placed.long) in
    let images_are : images packed ≡ new ∷ [] = ap (λ (pieces : List Piece). map (λ (piece : Piece). piece.page.items) pieces ++ new ∷ []) alone in
    record {
      counts = [];
      cut = record { one = λ e. refl; lone = λ lt e. absurd (omega (arith, lt, fits)); parts = λ lt e. absurd (omega (arith, lt, fits)) };
      say = subst (λ (pages : List (List ℕ)). Pairwise (λ image part. IsNode image (length (take start page)) part) pages (nodes_of [] node)) (sym images_are)
          (subst (λ (nodes : List Node). Pairwise (λ image part. IsNode image (length (take start page)) part) (new ∷ []) nodes) (sym (lone_node node))
          (subst (λ (n : ℕ). IsNode new n node) (sym front) is, tt));
      sized = subst (AllByRecursion (λ image. length image ≡ length page)) (sym images_are) (placed.long, tt);
      front_is = λ e. (drop start new, sym (take-append-drop start new) ∙ ap (λ (xs : List ℕ). xs ++ drop start new) placed.front);
      divide = subst (λ (pieces : List Piece). Divide (length page) (map (λ (piece : Piece). piece.divider.items) pieces) (dividers_of [] node)) (sym alone) (none_divide (length page) node);
    }

-- ---- what is packed

-- this is what packing these cells answers
abbrev pub IsPacking : Result Packed Fault → ℕ → List ℕ → Kind → List ℕ → Bool → List (List ℕ) → Type 0
IsPacking result n front kind right rises cells = (node : Node) → AreOf kind n right cells node → IfOk result (λ packed. Packs kind n front rises cells node packed) × (CanPack n (length front) kind cells → IfErr result IsMemory)

-- the same of the same page, kind, cells and place
pub packing_of : (result : Result Packed Fault) (n : ℕ) (front before : List ℕ) (kind of : Kind) (right last : List ℕ) (rises behind : Bool) (cells all : List (List ℕ)) → front ≡ before → kind ≡ of → right ≡ last → rises ≡ behind → cells ≡ all
    → IsPacking result n front kind right rises cells → IsPacking result n before of last behind all
packing_of result n front before kind of right last rises behind cells all f k r b c h =
    subst (λ (x : List ℕ). IsPacking result n x of last behind all) f
    (subst (λ (x : Kind). IsPacking result n front x last behind all) k
    (subst (λ (x : List ℕ). IsPacking result n front kind x behind all) r
    (subst (λ (x : Bool). IsPacking result n front kind right x all) b
    (subst (λ (x : List (List ℕ)). IsPacking result n front kind right rises x) c h))))

-- on pages of the format's sizes the refusal is that of memory
pub packs_or_memory : (result : Result Packed Fault) (n : ℕ) (front : List ℕ) (kind : Kind) (right : List ℕ) (rises : Bool) (cells : List (List ℕ)) (node : Node) → 512 ≤ n → n ≤ 2 ^ 16 → length front ≤ 100 → AreOf kind n right cells node
    → IsPacking result n front kind right rises cells → MatchResult result (Packs kind n front rises cells node) IsMemory
packs_or_memory (Ok packed) n front kind right rises cells node big near first is h = (h node is).0
packs_or_memory (Err fault) n front kind right rises cells node big near first is h = (h node is).1 (node_packs kind n (length front) right cells node big near first is)

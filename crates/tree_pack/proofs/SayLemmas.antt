-- Each page says its part of the node.
use Rattle.std.proofs.Common.{◌≡◌, ◌≤◌, ◌<◌, ◌+◌, ◌-◌, ◌^◌, ℕ, zero, suc, ℤ, Bool, List, [], ◌∷◌, length, take, drop, map, refl, sym, ap, subst, ◌∙◌, arith}
use Rattle.std.specs.List.{AllByRecursion}
use Rattle.std.specs.Int.{w32, to_be_bytes}
use Rattle.std.proofs.lemmas.List.{drop-drop, length-drop, length-map, length-take}
use Rattle.tree_page.specs.Cells.{Pairwise, IsTreePage}
use Rattle.tree_page.specs.Node.{Local, Node, Rows, Keys, Entries, Between, IsRowCell, IsKeyCell, IsEntryCell, IsBetweenCell, code_of, right_of, Say, IsNode}
use Rattle.tree_page.specs.Reading.{type_of}
use Rattle.tree_page.specs.declared.items.Kind.{Kind}
use Rattle.tree_page.specs.declared.items.Kind.TheVariants.{TableLeaf, TableInterior, IndexLeaf, IndexInterior}
use Rattle.tree_pack.specs.Parts.{total, IsCut}
use Rattle.tree_pack.specs.Lists.{parts_of, entry_parts, with_key, sides_of, all_sides}
use Rattle.tree_pack.specs.Building.{Fits, cell_room, right_room, page_of}
use Rattle.tree_pack.specs.Packing.{up_of, AreOf, nodes_of}
use Rattle.tree_pack.specs.Spreading.{first_cell, cut_pages, pages_of, PartsFit}
use Rattle.tree_pack.proofs.BuildingLemmas.{AreSome, some_take, some_drop, page_built}
use Rattle.tree_pack.proofs.SmallLemmas.{say_some}
use Rattle.tree_pack.proofs.Joins.{LeavesOne}
use Rattle.tree_pack.proofs.FillingLemmas.{cut_leaves_one, cut_entries}

-- ---- lists side by side

pub pairwise_take : {A B : Type 0} (P : A → B → Type 0) (n : ℕ) (xs : List A) (ys : List B) → Pairwise P xs ys → Pairwise P (take n xs) (take n ys)
pairwise_take P zero xs ys h = tt
pairwise_take P (suc n) [] [] h = tt
pairwise_take P (suc n) [] (y ∷ ys) h = absurd h
pairwise_take P (suc n) (x ∷ xs) [] h = absurd h
pairwise_take P (suc n) (x ∷ xs) (y ∷ ys) h = (h.0, pairwise_take P n xs ys h.1)

pub pairwise_drop : {A B : Type 0} (P : A → B → Type 0) (n : ℕ) (xs : List A) (ys : List B) → Pairwise P xs ys → Pairwise P (drop n xs) (drop n ys)
pairwise_drop P zero xs ys h = h
pairwise_drop P (suc n) [] [] h = tt
pairwise_drop P (suc n) [] (y ∷ ys) h = absurd h
pairwise_drop P (suc n) (x ∷ xs) [] h = absurd h
pairwise_drop P (suc n) (x ∷ xs) (y ∷ ys) h = pairwise_drop P n xs ys h.1

pub pairwise_length : {A B : Type 0} (P : A → B → Type 0) (xs : List A) (ys : List B) → Pairwise P xs ys → length xs ≡ length ys
pairwise_length P [] [] h = refl
pairwise_length P [] (y ∷ ys) h = absurd h
pairwise_length P (x ∷ xs) [] h = absurd h
pairwise_length P (x ∷ xs) (y ∷ ys) h = omega (arith, pairwise_length P xs ys h.1)

-- ---- one page

-- a page that is written says what its cells say
pub node_built : (front : List ℕ) (n : ℕ) (kind : Kind) (right : List ℕ) (cells : List (List ℕ)) (node : Node) → Fits n (length front) (length right) cells → type_of kind ≡ code_of node → right_of node ≡ right → Say n cells node
    → IsNode (page_of front n kind right cells) (length front) node
node_built front n kind right cells node fits k r say =
    let built = page_built front n kind right cells fits in
    record {
      cells = cells;
      page_is =
          subst (λ (xs : List ℕ). IsTreePage (code_of node) (page_of front n kind right cells) (length front) xs cells) (sym r)
          (subst (λ (m : ℕ). IsTreePage m (page_of front n kind right cells) (length front) right cells) k built.0);
      say = subst (λ (m : ℕ). Say m cells node) (sym built.1) say;
    }

-- ---- the pages of parts

abbrev SaysAt : ℕ → List ℕ → Node → Type 0
SaysAt start image node = IsNode image start node

leaves_said : {A : Type 0} (P : List ℕ → A → Type 0) (make : List A → Node) (page : List ℕ → List (List ℕ) → List ℕ) (R : List (List ℕ) → Type 0)
    → ((part : List (List ℕ)) (items : List A) → R part → Pairwise P part items → IsNode (page [] part) 0 (make items)) → (up : ℕ) (counts : List ℕ) (cells : List (List ℕ)) (items : List A)
    → AllByRecursion R (parts_of up counts cells) → Pairwise P cells items → Pairwise (SaysAt 0) (cut_pages up 0 page [] counts cells) (map make (parts_of up counts items))
leaves_said P make page R good up [] cells items fit h = (good cells items fit.0 h, tt)
leaves_said P make page R good up (count ∷ counts) cells items fit h = (
  good (take count cells) (take count items) fit.0 (pairwise_take P count cells items h),
  leaves_said P make page R good up counts (drop (count + up) cells) (drop (count + up) items) fit.1 (pairwise_drop P (count + up) cells items h),
)

-- the sides of children with keys, the last child after them
abbrev sides_from : {K : Type 0} → (List (ℕ × K) → ℕ → Node) → List (List (ℕ × K) × (ℕ × K)) × List (ℕ × K) → ℕ → List Node
sides_from make parts last = map (λ side. make side.0 side.1) (all_sides (sides_of parts.0) (parts.1, last))

side_step : {K : Type 0} (P : List ℕ → ℕ × K → Type 0) (make : List (ℕ × K) → ℕ → Node) (page : List ℕ → List (List ℕ) → List ℕ) (R : List (List ℕ) → Type 0)
    → ((part : List (List ℕ)) (items : List (ℕ × K)) (child : ℕ) → R part → Pairwise P part items → child < 2 ^ 32 → IsNode (page (to_be_bytes w32 child) part) 0 (make items child))
    → ((cell : List ℕ) (kid : ℕ × K) → P cell kid → (take 4 cell ≡ to_be_bytes w32 kid.0) × (kid.0 < 2 ^ 32)) → (counts right : List ℕ) (front behind after : List (List ℕ)) (whole before rest : List (ℕ × K)) (last : ℕ) → drop 1 behind ≡ after → 1 ≤ length rest
    → R front → Pairwise P front before → Pairwise P behind rest → Pairwise (SaysAt 0) (cut_pages 1 4 page right counts after) (sides_from make (entry_parts counts (drop 1 rest)) last)
    → Pairwise (SaysAt 0) (page (take 4 (first_cell behind)) front ∷ cut_pages 1 4 page right counts after) (sides_from make (with_key whole before rest (λ xs. entry_parts counts xs)) last)
side_step P make page R good head counts right front behind after whole before [] last e some fit h k more = absurd (omega arith)
side_step P make page R good head counts right front [] after whole before (kid ∷ rest) last e some fit h k more = absurd k
side_step P make page R good head counts right front (cell ∷ behind) after whole before (kid ∷ rest) last e some fit h k more =
    let child = head cell kid k.0 in
    (subst (λ (bytes : List ℕ). IsNode (page bytes front) 0 (make before kid.0)) (sym child.0) (good front before kid.0 fit h child.1), more)

sides_said : {K : Type 0} (P : List ℕ → ℕ × K → Type 0) (make : List (ℕ × K) → ℕ → Node) (page : List ℕ → List (List ℕ) → List ℕ) (R : List (List ℕ) → Type 0)
    → ((part : List (List ℕ)) (items : List (ℕ × K)) (child : ℕ) → R part → Pairwise P part items → child < 2 ^ 32 → IsNode (page (to_be_bytes w32 child) part) 0 (make items child))
    → ((cell : List ℕ) (kid : ℕ × K) → P cell kid → (take 4 cell ≡ to_be_bytes w32 kid.0) × (kid.0 < 2 ^ 32)) → (counts : List ℕ) (cells : List (List ℕ)) (kids : List (ℕ × K)) (last : ℕ)
    → LeavesOne counts kids → AllByRecursion R (parts_of 1 counts cells) → Pairwise P cells kids → last < 2 ^ 32 → Pairwise (SaysAt 0) (cut_pages 1 4 page (to_be_bytes w32 last) counts cells) (sides_from make (entry_parts counts kids) last)
sides_said P make page R good head [] cells kids last leaves fit h near = (good cells kids last fit.0 h near, tt)
sides_said {K} P make page R good head (count ∷ counts) cells kids last leaves fit h near =
    let more = sides_said P make page R good head counts (drop (count + 1) cells) (drop (count + 1) kids) last leaves.1 fit.1 (pairwise_drop P (count + 1) cells kids h) near in
    let lt = leaves.0 in
    side_step P make page R good head counts (to_be_bytes w32 last) (take count cells) (drop count cells) (drop (count + 1) cells) kids (take count kids) (drop count kids) last (drop-drop 1 count cells) (omega (arith, lt, length-drop count kids)) fit.0
    (pairwise_take P count cells kids h) (pairwise_drop P count cells kids h)
    (subst (λ (xs : List (ℕ × K)). Pairwise (SaysAt 0) (cut_pages 1 4 page (to_be_bytes w32 last) counts (drop (count + 1) cells)) (sides_from make (entry_parts counts xs) last)) (sym (drop-drop 1 count kids)) more)

-- ---- the cells of interior pages begin with the child's number

key_head : (cell : List ℕ) (kid : ℕ × ℤ) → IsKeyCell cell kid → (take 4 cell ≡ to_be_bytes w32 kid.0) × (kid.0 < 2 ^ 32)
key_head cell kid is = (ap (λ (xs : List ℕ). take 4 xs) is.parts, is.near)

between_head : (n : ℕ) (cell : List ℕ) (kid : ℕ × Local) → IsBetweenCell n cell kid → (take 4 cell ≡ to_be_bytes w32 kid.0) × (kid.0 < 2 ^ 32)
between_head n cell kid is = (ap (λ (xs : List ℕ). take 4 xs) is.parts, is.near)

-- ---- all kinds

abbrev PartFits : Kind → ℕ → List (List ℕ) → Type 0
PartFits kind n part = total (map cell_room part) ≤ n - 8 - right_room kind

-- where the cells are cut, each page says its part
pub several_say : (kind : Kind) (n room : ℕ) (rises : Bool) (right counts : List ℕ) (cells : List (List ℕ)) (node : Node) → n ≤ 2 ^ 16 → 8 + right_room kind ≤ n → AreOf kind n right cells node → PartsFit kind n counts cells
    → IsCut (up_of kind) room rises (map cell_room cells) counts → Pairwise (SaysAt 0) (pages_of kind n right counts cells) (nodes_of counts node)
several_say TableLeaf n room rises right counts cells (Rows rows) near header is fit cut =
    subst (λ (xs : List ℕ). Pairwise (SaysAt 0) (pages_of TableLeaf n xs counts cells) (nodes_of counts (Rows rows))) is.right_is
    (leaves_said (IsRowCell n) (λ part. Rows part) (λ right part. page_of [] n TableLeaf right part) (PartFits TableLeaf n)
    (λ part items f h. node_built [] n TableLeaf [] part (Rows items) (record { addressed = near; some = say_some n part (Rows items) h; room = omega (arith, header, f) }) refl refl h)
    0 counts cells rows fit.fit is.say)
several_say TableInterior n room rises right counts cells (Keys kids last) near header is fit cut =
    let same : length (map cell_room cells) ≡ length kids = length-map cells cell_room ∙ pairwise_length IsKeyCell cells kids is.say.0 in
    subst (λ (xs : List ℕ). Pairwise (SaysAt 0) (pages_of TableInterior n xs counts cells) (nodes_of counts (Keys kids last))) is.right_is
    (sides_said IsKeyCell (λ items child. Keys items child) (λ right part. page_of [] n TableInterior right part) (PartFits TableInterior n)
    (λ part items child f h lt. node_built [] n TableInterior (to_be_bytes w32 child) part (Keys items child) (record { addressed = near; some = say_some n part (Keys items child) (h, lt); room = omega (arith, header, f) }) refl refl (h, lt))
    key_head counts cells kids last (cut_leaves_one room rises (map cell_room cells) counts kids same cut) fit.fit is.say.0 is.say.1)
several_say IndexLeaf n room rises right counts cells (Entries entries) near header is fit cut =
    let same : length (map cell_room cells) ≡ length entries = length-map cells cell_room ∙ pairwise_length (IsEntryCell n) cells entries is.say in
    subst (λ (xs : List ℕ). Pairwise (SaysAt 0) (pages_of IndexLeaf n xs counts cells) (nodes_of counts (Entries entries))) is.right_is
    (subst (λ (parts : List (List Local)). Pairwise (SaysAt 0) (pages_of IndexLeaf n [] counts cells) (map (λ part. Entries part) parts)) (sym (cut_entries room rises (map cell_room cells) counts entries same cut))
    (leaves_said (IsEntryCell n) (λ part. Entries part) (λ right part. page_of [] n IndexLeaf right part) (PartFits IndexLeaf n)
    (λ part items f h. node_built [] n IndexLeaf [] part (Entries items) (record { addressed = near; some = say_some n part (Entries items) h; room = omega (arith, header, f) }) refl refl h)
    1 counts cells entries fit.fit is.say))
several_say IndexInterior n room rises right counts cells (Between kids last) near header is fit cut =
    let same : length (map cell_room cells) ≡ length kids = length-map cells cell_room ∙ pairwise_length (IsBetweenCell n) cells kids is.say.0 in
    subst (λ (xs : List ℕ). Pairwise (SaysAt 0) (pages_of IndexInterior n xs counts cells) (nodes_of counts (Between kids last))) is.right_is
    (sides_said (IsBetweenCell n) (λ items child. Between items child) (λ right part. page_of [] n IndexInterior right part) (PartFits IndexInterior n)
    (λ part items child f h lt. node_built [] n IndexInterior (to_be_bytes w32 child) part (Between items child) (record { addressed = near; some = say_some n part (Between items child) (h, lt); room = omega (arith, header, f) }) refl refl (h, lt))
    (between_head n) counts cells kids last (cut_leaves_one room rises (map cell_room cells) counts kids same cut) fit.fit is.say.0 is.say.1)
several_say kind n room rises right counts cells node near header is fit cut = let clash = is.kind_is in absurd (omega (arith, clash))

-- where nothing is cut, the one page says the node
pub one_says : (front : List ℕ) (kind : Kind) (n : ℕ) (right : List ℕ) (cells : List (List ℕ)) (node : Node) → Fits n (length front) (length right) cells → AreOf kind n right cells node
    → Pairwise (SaysAt (length front)) (page_of front n kind right cells ∷ []) (nodes_of [] node)
one_says front kind n right cells (Rows rows) fits is = (node_built front n kind right cells (Rows rows) fits is.kind_is is.right_is is.say, tt)
one_says front kind n right cells (Keys kids last) fits is = (node_built front n kind right cells (Keys kids last) fits is.kind_is is.right_is is.say, tt)
one_says front kind n right cells (Entries entries) fits is = (node_built front n kind right cells (Entries entries) fits is.kind_is is.right_is is.say, tt)
one_says front kind n right cells (Between kids last) fits is = (node_built front n kind right cells (Between kids last) fits is.kind_is is.right_is is.say, tt)

-- each page is of the page's size
pub pages_sized : (kind : Kind) (n : ℕ) (right counts : List ℕ) (cells : List (List ℕ)) → n ≤ 2 ^ 16 → 8 + right_room kind ≤ n → length right ≤ right_room kind → AreSome cells
    → AllByRecursion (PartFits kind n) (parts_of (up_of kind) counts cells) → AllByRecursion (λ (image : List ℕ). length image ≡ n) (pages_of kind n right counts cells)
pages_sized kind n right [] cells near header le some fit = let f = fit.0 in ((page_built [] n kind right cells (record { addressed = near; some = some; room = omega (arith, header, f, le) })).1, tt)
pages_sized kind n right (count ∷ counts) cells near header le some fit =
    let f = fit.0 in
    let child = take (right_room kind) (first_cell (drop count cells)) in (
      (page_built [] n kind child (take count cells) (record { addressed = near; some = some_take count cells some; room = omega (arith, header, f, length-take (right_room kind) (first_cell (drop count cells))) })).1,
      pages_sized kind n right counts (drop (count + up_of kind) cells) near header le (some_drop (count + up_of kind) cells some) fit.1,
    )

-- What a page says is found on it.
use Rattle.std.proofs.Common.{◌≡◌, ℕ, ℤ, zero, suc, ◌-◌, ◌<◌, pos, List, [], ◌∷◌, ◌++◌, length, take, slice_index_or, Option, Some, None, refl, sym, ap, subst, ◌∙◌, arith}
use Rattle.std.specs.Prelude.{option_map}
use Rattle.std.proofs.lemmas.List.{take_at, length-append, length-map, get_or-map}
use Rattle.record.proofs.VarintLemmas.{some_is}
use Rattle.tree_page.specs.declared.items.Kind.{Kind}
use Rattle.tree_page.specs.declared.items.Kind.TheVariants.{TableLeaf, TableInterior, IndexLeaf, IndexInterior}
use Rattle.std.specs.Int.{w64, cast_signed}
use Rattle.record.specs.Varint.{varint_at}
use Rattle.tree_page.specs.Payload.{table_most}
use Rattle.tree_page.specs.Cells.{Pairwise, IsTreePage}
use Rattle.tree_page.specs.Node.{Local, Node, Rows, Keys, Entries, Between, IsRowCell, IsKeyCell, IsEntryCell, IsBetweenCell, code_of, right_of, Say, IsNode}
use Rattle.tree_page.specs.Reading.{Place, type_of, count_of, last_of, numbers_of}
use Rattle.tree_page.specs.Bytes.{◌>>=◌, right_size, header_on, last_on, tail_on, leading_local, leading_row, leading_rowid, leading_key, leading_entry, leading_between, item_of, rest_of, after_cell, item_on, cell_on, number_on}
use Rattle.tree_page.proofs.HeaderLemmas.{then_some, same_length, front_again, last_again, no_last, tail_again}
use Rattle.tree_page.proofs.CellLemmas.{row_again, key_again, entry_again, between_again}

-- ---- kinds

abbrev pub kind_of : Node → Kind
kind_of (Rows rows) = TableLeaf
kind_of (Keys kids last) = TableInterior
kind_of (Entries entries) = IndexLeaf
kind_of (Between kids last) = IndexInterior

-- the kind has the type that the page has
pub type_is : (node : Node) → type_of (kind_of node) ≡ code_of node
type_is (Rows rows) = refl
type_is (Keys kids last) = refl
type_is (Entries entries) = refl
type_is (Between kids last) = refl

-- the last child's number takes as many bytes as the kind says
pub right_is : (node : Node) → length (right_of node) ≡ right_size (kind_of node)
unfolding right_size
right_is (Rows rows) = refl
right_is (Keys kids last) = refl
right_is (Entries entries) = refl
right_is (Between kids last) = refl

-- there are as many cells as items
pub count_is : (usable : ℕ) (cells : List (List ℕ)) (node : Node) → Say usable cells node → length cells ≡ count_of node
count_is usable cells (Rows rows) say = same_length (IsRowCell usable) cells rows say
count_is usable cells (Keys kids last) say = same_length IsKeyCell cells kids say.0
count_is usable cells (Entries entries) say = same_length (IsEntryCell usable) cells entries say
count_is usable cells (Between kids last) say = same_length (IsBetweenCell usable) cells kids say.0

pub node_count : (page : List ℕ) (start : ℕ) (node : Node) (is : IsNode page start node) → length is.cells ≡ count_of node
node_count page start node is = count_is (length page) is.cells node is.say

node_page : (page : List ℕ) (start : ℕ) (node : Node) (is : IsNode page start node) → IsTreePage (type_of (kind_of node)) page start (right_of node) is.cells
node_page page start node is = subst (λ (type : ℕ). IsTreePage type page start (right_of node) is.cells) (sym (type_is node)) is.page_is

-- the header of a page that says something
pub node_front : (page : List ℕ) (start : ℕ) (node : Node) → IsNode page start node → header_on page start ≡ Some (kind_of node, count_of node)
node_front page start node is =
    front_again (kind_of node) page start (right_of node) is.cells (node_page page start node is) (right_is node)
    ∙ ap (λ (n : ℕ). Some (kind_of node, n)) (node_count page start node is)

-- the last child is read
pub node_last : (page : List ℕ) (start : ℕ) (node : Node) → IsNode page start node → last_on page start (kind_of node) ≡ last_of node
unfolding right_size
node_last page start (Rows rows) is = no_last page start TableLeaf refl
node_last page start (Keys kids last) is = last_again TableInterior page start last is.cells is.page_is refl is.say.1
node_last page start (Entries entries) is = no_last page start IndexLeaf refl
node_last page start (Between kids last) is = last_again IndexInterior page start last is.cells is.page_is refl is.say.1

-- ---- cells

-- what holds of each pair holds at each place
pub pairs_at : {X Y : Type 0} (P : X → Y → Type 0) (xs : List X) (ys : List Y) (index : ℕ) (d : X) (e : Y) → Pairwise P xs ys → index < length ys → P (slice_index_or xs index d) (slice_index_or ys index e)
pairs_at P [] [] index d e are less = absurd (omega arith)
pairs_at P [] (y ∷ ys) index d e are less = absurd are
pairs_at P (x ∷ xs) [] index d e are less = absurd are
pairs_at P (x ∷ xs) (y ∷ ys) zero d e are less = are.0
pairs_at P (x ∷ xs) (y ∷ ys) (suc index) d e are less = pairs_at P xs ys index d e are.1 (omega (arith, less))

-- a reader reads each such cell, whatever stands after it
abbrev pub IsRead : {X : Type 0} → (List ℕ → X → Type 0) → (List ℕ → Option (X × List ℕ)) → Type 0
IsRead {X} P reader = (cell : List ℕ) (x : X) (rest : List ℕ) → P cell x → reader (cell ++ rest) ≡ Some (x, rest)

-- what each cell says is read at its place
pub found_again : {X : Type 0} (P : List ℕ → X → Type 0) (reader : ℕ → List ℕ → Option (X × List ℕ)) (kind : Kind) (page : List ℕ) (start : ℕ) (right : List ℕ) (cells : List (List ℕ)) (items : List X) (index : ℕ) (d : X)
    → IsRead P (reader (length page)) → IsTreePage (type_of kind) page start right cells → length right ≡ right_size kind → Pairwise P cells items → index < length items
    → item_on reader page start (kind, length items) index ≡ Some (slice_index_or items index d)
found_again {X} P reader kind page start right cells items index d reads is wide are less =
    let count = same_length P cells items are in
    let tail = tail_again kind page start right cells index is wide (omega (arith, count, less)) in
    let cell = slice_index_or cells index [] in
    let item = slice_index_or items index d in
    let here : tail_on page start (kind, length items) index ≡ Some (cell ++ tail.after) = ap (λ (n : ℕ). tail_on page start (kind, n) index) (sym count) ∙ tail.is in
    then_some (tail_on page start (kind, length items) index) (λ tail. item_of (reader (length page) tail)) (cell ++ tail.after) (Some item) here
    (ap item_of (reads cell item tail.after (pairs_at P cells items index [] d are less)))

-- a row is read, and below it a child with its key, an entry, a child with the entry after it
pub node_row : (page : List ℕ) (start : ℕ) (rows : List (ℤ × Local)) (index : ℕ) (d : ℤ × Local) → IsNode page start (Rows rows) → index < length rows
    → item_on leading_row page start (TableLeaf, length rows) index ≡ Some (slice_index_or rows index d)
node_row page start rows index d is less = found_again (IsRowCell (length page)) leading_row TableLeaf page start [] is.cells rows index d (row_again (length page)) is.page_is (right_is (Rows rows)) is.say less

pub node_key : (page : List ℕ) (start : ℕ) (kids : List (ℕ × ℤ)) (last index : ℕ) (d : ℕ × ℤ) → IsNode page start (Keys kids last) → index < length kids
    → item_on (λ usable. leading_key) page start (TableInterior, length kids) index ≡ Some (slice_index_or kids index d)
node_key page start kids last index d is less =
    found_again IsKeyCell (λ usable. leading_key) TableInterior page start (right_of (Keys kids last)) is.cells kids index d key_again is.page_is (right_is (Keys kids last)) is.say.0 less

pub node_entry : (page : List ℕ) (start : ℕ) (entries : List Local) (index : ℕ) (d : Local) → IsNode page start (Entries entries) → index < length entries
    → item_on leading_entry page start (IndexLeaf, length entries) index ≡ Some (slice_index_or entries index d)
node_entry page start entries index d is less =
    found_again (IsEntryCell (length page)) leading_entry IndexLeaf page start [] is.cells entries index d (entry_again (length page)) is.page_is (right_is (Entries entries)) is.say less

pub node_between : (page : List ℕ) (start : ℕ) (kids : List (ℕ × Local)) (last index : ℕ) (d : ℕ × Local) → IsNode page start (Between kids last) → index < length kids
    → item_on leading_between page start (IndexInterior, length kids) index ≡ Some (slice_index_or kids index d)
node_between page start kids last index d is less =
    found_again (IsBetweenCell (length page)) leading_between IndexInterior page start (right_of (Between kids last)) is.cells kids index d (between_again (length page)) is.page_is (right_is (Between kids last)) is.say.0 less

abbrev pub no_local : Local
no_local = record { size = 0; bytes = [] }

-- a cell ends where the bytes after it begin
after_again : (usable : ℕ) (cells : List (List ℕ)) (node : Node) (index : ℕ) (rest : List ℕ) → Say usable cells node → index < count_of node
    → after_cell (kind_of node) usable (slice_index_or cells index [] ++ rest) ≡ Some rest
unfolding after_cell
after_again usable cells (Rows rows) index rest say less = ap rest_of (row_again usable _ (slice_index_or rows index (pos 0, no_local)) rest (pairs_at (IsRowCell usable) cells rows index [] (pos 0, no_local) say less))
after_again usable cells (Keys kids last) index rest say less = ap rest_of (key_again _ (slice_index_or kids index (0, pos 0)) rest (pairs_at IsKeyCell cells kids index [] (0, pos 0) say.0 less))
after_again usable cells (Entries entries) index rest say less = ap rest_of (entry_again usable _ (slice_index_or entries index no_local) rest (pairs_at (IsEntryCell usable) cells entries index [] no_local say less))
after_again usable cells (Between kids last) index rest say less = ap rest_of (between_again usable _ (slice_index_or kids index (0, no_local)) rest (pairs_at (IsBetweenCell usable) cells kids index [] (0, no_local) say.0 less))

whole_cell : (cell rest : List ℕ) → take (length (cell ++ rest) - length rest) (cell ++ rest) ≡ cell
whole_cell cell rest = take_at cell rest (length (cell ++ rest) - length rest) (omega (arith, length-append cell rest))

-- the bytes of a cell are read
pub node_cell : (page : List ℕ) (start : ℕ) (node : Node) (is : IsNode page start node) (index : ℕ) → index < count_of node
    → cell_on page start (kind_of node, count_of node) index ≡ Some (slice_index_or is.cells index [])
node_cell page start node is index less =
    let count = node_count page start node is in
    let kind = kind_of node in
    let tail = tail_again kind page start (right_of node) is.cells index (node_page page start node is) (right_is node) (omega (arith, count, less)) in
    let cell = slice_index_or is.cells index [] in
    let here : tail_on page start (kind, count_of node) index ≡ Some (cell ++ tail.after) = ap (λ (n : ℕ). tail_on page start (kind, n) index) (sym count) ∙ tail.is in
    rw (here, after_again (length page) is.cells node index tail.after is.say less, whole_cell cell tail.after) refl

-- ---- rowids and keys

-- there is a rowid or key for each cell
pub numbers_count : (node : Node) (numbers : List ℤ) → numbers_of node ≡ Some numbers → count_of node ≡ length numbers
numbers_count (Rows rows) numbers e = sym (length-map rows (λ row. row.0)) ∙ ap length (some_is e)
numbers_count (Keys kids last) numbers e = sym (length-map kids (λ kid. kid.1)) ∙ ap length (some_is e)
numbers_count (Entries entries) numbers e = absurd cc
numbers_count (Between kids last) numbers e = absurd cc

-- where a row is read, its rowid is
rowid_here : (n : ℤ) (payload : Option (Local × List ℕ)) (row : ℤ × Local) → item_of (payload >>= λ p. Some ((n, p.0), p.1)) ≡ Some row → Some n ≡ Some row.0
rowid_here n None row e = absurd cc
rowid_here n (Some p) row e = ap (λ (r : ℤ × Local). Some r.0) (some_is e)

rowid_after : (usable size : ℕ) (rowid : Option (ℕ × List ℕ)) (row : ℤ × Local)
    → item_of (rowid >>= λ r. leading_local usable (table_most usable) size r.1 >>= λ p. Some ((cast_signed w64 r.0, p.0), p.1)) ≡ Some row
    → (rowid >>= λ r. Some (cast_signed w64 r.0)) ≡ Some row.0
rowid_after usable size None row e = absurd cc
rowid_after usable size (Some r) row e = rowid_here (cast_signed w64 r.0) (leading_local usable (table_most usable) size r.1) row e

rowid_of : (usable : ℕ) (size : Option (ℕ × List ℕ)) (row : ℤ × Local)
    → item_of (size >>= λ s. varint_at s.1 >>= λ r. leading_local usable (table_most usable) s.0 r.1 >>= λ p. Some ((cast_signed w64 r.0, p.0), p.1)) ≡ Some row
    → (size >>= λ s. varint_at s.1 >>= λ r. Some (cast_signed w64 r.0)) ≡ Some row.0
rowid_of usable None row e = absurd cc
rowid_of usable (Some s) row e = rowid_after usable s.0 (varint_at s.1) row e

rowid_on : (usable : ℕ) (tail : Option (List ℕ)) (row : ℤ × Local) → (tail >>= λ bytes. item_of (leading_row usable bytes)) ≡ Some row → (tail >>= leading_rowid) ≡ Some row.0
unfolding leading_row leading_rowid
rowid_on usable None row e = absurd cc
rowid_on usable (Some bytes) row e = rowid_of usable (varint_at bytes) row e

-- it is read
pub node_number : (page : List ℕ) (start : ℕ) (node : Node) (numbers : List ℤ) (index : ℕ) (d : ℤ) → IsNode page start node → numbers_of node ≡ Some numbers → index < length numbers
    → number_on (kind_of node) page start (kind_of node, count_of node) index ≡ Some (slice_index_or numbers index d)
unfolding number_on
node_number page start (Rows rows) numbers index d is e less =
    let inside : index < length rows = omega (arith, numbers_count (Rows rows) numbers e, less) in
    let number = get_or-map (λ (row : ℤ × Local). row.0) rows index (pos 0, no_local) d inside in
    rowid_on (length page) (tail_on page start (TableLeaf, length rows) index) (slice_index_or rows index (pos 0, no_local)) (node_row page start rows index (pos 0, no_local) is inside)
    ∙ ap (λ (n : ℤ). Some n) (sym number ∙ ap (λ (ns : List ℤ). slice_index_or ns index d) (some_is e))
node_number page start (Keys kids last) numbers index d is e less =
    let inside : index < length kids = omega (arith, numbers_count (Keys kids last) numbers e, less) in
    let number = get_or-map (λ (kid : ℕ × ℤ). kid.1) kids index (0, pos 0) d inside in
    ap (λ (o : Option (ℕ × ℤ)). o >>= λ kid. Some kid.1) (node_key page start kids last index (0, pos 0) is inside)
    ∙ ap (λ (n : ℤ). Some n) (sym number ∙ ap (λ (ns : List ℤ). slice_index_or ns index d) (some_is e))
node_number page start (Entries entries) numbers index d is e less = absurd cc
node_number page start (Between kids last) numbers index d is e less = absurd cc

-- ---- answers

abbrev pub at : List ℕ → ℕ → Place
at bytes start = record { bytes = bytes; start = start }

-- a page's bytes and its header's place, as its methods see them
pub on_place : (page : Place) (bytes : List ℕ) (start : ℕ) (node : Node) → at bytes start ≡ page → IsNode page.bytes page.start node → IsNode bytes start node
on_place page bytes start node e is = subst (λ (q : Place). IsNode q.bytes q.start node) (sym e) is

-- the header that was read is that of what the page says
pub header_is : (page : Place) (bytes : List ℕ) (start : ℕ) (header : Kind × ℕ) (node : Node) → at bytes start ≡ page → header_on bytes start ≡ Some header → IsNode page.bytes page.start node
    → header ≡ (kind_of node, count_of node)
header_is page bytes start header node e sound is = some_is (sym sound ∙ node_front bytes start node (on_place page bytes start node e is))

-- what is found on the page that says this was found by the call
pub found_there : {X Y : Type 0} (view : X → Y) (find : List ℕ → ℕ → Kind × ℕ → Option Y) (r : Option X) (page : Place) (bytes : List ℕ) (start : ℕ) (header : Kind × ℕ) (node : Node) (y : Y)
    → at bytes start ≡ page → header_on bytes start ≡ Some header → option_map view r ≡ find bytes start header → IsNode page.bytes page.start node
    → find page.bytes page.start (kind_of node, count_of node) ≡ Some y → option_map view r ≡ Some y
found_there view find r page bytes start header node y e sound is_found is there =
    let same = header_is page bytes start header node e sound is in
    let here : find bytes start (kind_of node, count_of node) ≡ Some y = subst (λ (q : Place). find q.bytes q.start (kind_of node, count_of node) ≡ Some y) (sym e) there in
    is_found ∙ (ap (find bytes start) same ∙ here)

-- what was found is seen so
pub seen : {X Y : Type 0} (view : X → Y) (r : Option X) (x : X) (y : Y) → r ≡ Some x → option_map view r ≡ Some y → view x ≡ y
seen view r x y is e = some_is (sym (ap (option_map view) is) ∙ e)

-- something was found
pub unseen : {X Y : Type 0} (view : X → Y) (r : Option X) (y : Y) → r ≡ None → option_map view r ≡ Some y → ⊥
unseen view (Some x) y none e = absurd cc
unseen view None y none e = absurd cc

-- The header of a tree's page, and the pointers after it, are read as what they say.
use Rattle.std.proofs.Common.{◌≡◌, ℕ, zero, suc, ◌+◌, ◌*◌, ◌/◌, ◌%◌, ◌^◌, ◌<◌, ◌≤◌, List, [], ◌∷◌, ◌++◌, length, take, drop, slice_index_or, Option, Some, None, refl, sym, ap, ◌∙◌, append_assoc, arith}
use Rattle.std.specs.List.{flat_map}
use Rattle.std.specs.Int.{w16, w32, to_be_bytes}
use Rattle.std.proofs.lemmas.Bool.{lt-ltb, le-ltb}
use Rattle.std.proofs.lemmas.List.{drop_at, drop-drop, length-append, length-drop}
use Rattle.std.proofs.lemmas.Nat.{from_be_bytes-to_be_bytes_2, from_be_bytes-to_be_bytes_4}
use Rattle.tree_page.specs.declared.items.Kind.{Kind}
use Rattle.tree_page.specs.declared.items.Kind.TheVariants.{TableLeaf, TableInterior, IndexLeaf, IndexInterior}
use Rattle.tree_page.specs.Cells.{Span, pointer, Pairwise, IsAt, IsTreePage, page_header}
use Rattle.tree_page.specs.Reading.{type_of}
use Rattle.tree_page.specs.Bytes.{◌>>=◌, bytes_from, two_bytes, leading_pair, leading_child, kind_of_type, right_size, node_header, header_on, last_on, tail_on}

-- a step that found something
pub then_some : {A B : Type 0} (r : Option A) (f : A → Option B) (x : A) (y : Option B) → r ≡ Some x → f x ≡ y → (r >>= f) ≡ y
then_some r f x y e h = ap (λ z. z >>= f) e ∙ h

-- ---- bytes and numbers

-- an offset within bytes is reached
pub skips : (offset : ℕ) (bytes : List ℕ) → offset ≤ length bytes → bytes_from offset bytes ≡ Some (drop offset bytes)
unfolding bytes_from
skips offset bytes within = rw (le-ltb (length bytes) offset within) refl

-- two bytes are read as the number that they are
pub pair_again : (n : ℕ) (rest : List ℕ) → n < 2 ^ 16 → leading_pair (to_be_bytes w16 n ++ rest) ≡ Some n
unfolding leading_pair
pair_again n rest near = ap (λ (m : ℕ). Some m) (from_be_bytes-to_be_bytes_2 n near)

-- so are the four of a page's number
pub page_again : (n : ℕ) (rest : List ℕ) → n < 2 ^ 32 → leading_child (to_be_bytes w32 n ++ rest) ≡ Some (n, rest)
unfolding leading_child
page_again n rest near = ap (λ (m : ℕ). Some (m, rest)) (from_be_bytes-to_be_bytes_4 n near)

-- each kind is read from its type
pub kind_again : (kind : Kind) → kind_of_type (type_of kind) ≡ Some kind
unfolding kind_of_type
kind_again TableLeaf = refl
kind_again TableInterior = refl
kind_again IndexLeaf = refl
kind_again IndexInterior = refl

-- ---- the header

-- a page has as many pointers as cells
pub same_length : {X Y : Type 0} (P : X → Y → Type 0) (xs : List X) (ys : List Y) → Pairwise P xs ys → length xs ≡ length ys
same_length P [] [] are = refl
same_length P [] (y ∷ ys) are = absurd are
same_length P (x ∷ xs) [] are = absurd are
same_length P (x ∷ xs) (y ∷ ys) are = ap (λ (n : ℕ). suc n) (same_length P xs ys are.1)

-- a pointer takes two bytes
pub length-pointers : (spans : List Span) → length (flat_map pointer spans) ≡ 2 * length spans
length-pointers [] = refl
length-pointers (span ∷ spans) = omega (arith, length-pointers spans)

-- a header takes eight bytes
pub length-header : (kind count fragments : ℕ) (freeblock content : List ℕ) → length freeblock ≡ 2 → length content ≡ 2 → length (page_header kind freeblock count content fragments) ≡ 8
length-header kind count fragments freeblock content a b =
    omega (arith, a, b, length-append freeblock (to_be_bytes w16 count ++ (content ++ fragments ∷ [])), length-append content (fragments ∷ []))

-- a header is read where its pointers have room
header_again : (kind : Kind) (type : ℕ) (freeblock content : List ℕ) (count fragments : ℕ) (rest : List ℕ) → kind_of_type type ≡ Some kind → length freeblock ≡ 2 → length content ≡ 2 → count < 2 ^ 16
    → right_size kind + 2 * count ≤ length rest → node_header (page_header type freeblock count content fragments ++ rest) ≡ Some (kind, count)
unfolding node_header
header_again kind type (a ∷ b ∷ []) (c ∷ d ∷ []) count fragments rest is f g few long =
    let number : two_bytes (count / 256 % 256) (count % 256) ≡ count = from_be_bytes-to_be_bytes_2 count few in
    rw (is, number, le-ltb (length rest) (right_size kind + 2 * count) long) refl
header_again kind type (a ∷ b ∷ []) [] count fragments rest is f g few long = absurd (omega arith)
header_again kind type (a ∷ b ∷ []) (c ∷ []) count fragments rest is f g few long = absurd (omega arith)
header_again kind type (a ∷ b ∷ []) (c ∷ d ∷ x ∷ content) count fragments rest is f g few long = absurd (omega arith)
header_again kind type [] content count fragments rest is f g few long = absurd (omega arith)
header_again kind type (a ∷ []) content count fragments rest is f g few long = absurd (omega arith)
header_again kind type (a ∷ b ∷ x ∷ freeblock) content count fragments rest is f g few long = absurd (omega arith)

-- what stands after the header's start
pub record Stands (kind : ℕ) (page : List ℕ) (start : ℕ) (right : List ℕ) (cells : List (List ℕ)) (is : IsTreePage kind page start right cells) : Type 0 where
  pub header : List ℕ
  pub node : drop start page ≡ header ++ (right ++ (flat_map pointer is.spans ++ is.rest))
  pub header_is : header ≡ page_header kind is.freeblock (length cells) is.content is.fragments
  pub eight : length header ≡ 8
  pub within : start ≤ length page
  pub long : length (drop start page) ≡ 8 + length right + 2 * length cells + length is.rest

-- so much stands after the header's start
pub stands : (kind : ℕ) (page : List ℕ) (start : ℕ) (right : List ℕ) (cells : List (List ℕ)) (is : IsTreePage kind page start right cells) → Stands kind page start right cells is
stands kind page start right cells is =
    let header = page_header kind is.freeblock (length cells) is.content is.fragments in
    let pointers = flat_map pointer is.spans in
    let node : drop start page ≡ header ++ (right ++ (pointers ++ is.rest)) = ap (drop start) is.parts ∙ drop_at is.before _ start is.start_is in
    let eight = length-header kind (length cells) is.fragments is.freeblock is.content is.freeblock_is is.content_is in
    record {
      header = header;
      node = node;
      header_is = refl;
      eight = eight;
      within = omega (arith, ap length is.parts, length-append is.before (header ++ (right ++ (pointers ++ is.rest))), is.start_is);
      long = omega (
        arith,
        ap length node,
        length-append header (right ++ (pointers ++ is.rest)),
        length-append right (pointers ++ is.rest),
        length-append pointers is.rest,
        length-pointers is.spans,
        same_length (IsAt page) is.spans cells is.cells_are,
        eight,
      );
    }

-- the header of a page is read
pub front_again : (kind : Kind) (page : List ℕ) (start : ℕ) (right : List ℕ) (cells : List (List ℕ)) → IsTreePage (type_of kind) page start right cells → length right ≡ right_size kind
    → header_on page start ≡ Some (kind, length cells)
front_again kind page start right cells is wide =
    let s = stands (type_of kind) page start right cells is in
    let rest = right ++ (flat_map pointer is.spans ++ is.rest) in
    let room : right_size kind + 2 * length cells ≤ length rest = omega (arith, s.long, ap length s.node, length-append s.header rest, s.eight, wide) in
    then_some (bytes_from start page) node_header (drop start page) _ (skips start page s.within) (
    ap node_header (s.node ∙ ap (λ (h : List ℕ). h ++ rest) s.header_is)
    ∙ header_again kind (type_of kind) is.freeblock is.content (length cells) is.fragments rest (kind_again kind) is.freeblock_is is.content_is is.few room
    )

-- the last child's number
pub last_again : (kind : Kind) (page : List ℕ) (start last : ℕ) (cells : List (List ℕ)) → IsTreePage (type_of kind) page start (to_be_bytes w32 last) cells → right_size kind ≡ 4 → last < 2 ^ 32
    → last_on page start kind ≡ Some last
unfolding last_on
last_again kind page start last cells is four near =
    let s = stands (type_of kind) page start (to_be_bytes w32 last) cells is in
    let rest = flat_map pointer is.spans ++ is.rest in
    let after : drop 8 (drop start page) ≡ to_be_bytes w32 last ++ rest = ap (drop 8) s.node ∙ drop_at s.header _ 8 s.eight in
    rw (four, skips start page s.within, skips 8 (drop start page) (omega (arith, s.long)), after, page_again last rest near) refl

-- a leaf has no last child
pub no_last : (page : List ℕ) (start : ℕ) (kind : Kind) → right_size kind ≡ 0 → last_on page start kind ≡ None
unfolding last_on
no_last page start kind none = rw none refl

-- ---- the pointers

-- bytes begin with the pointer to a place where the cell stands
pub record Points (page : List ℕ) (bytes : List ℕ) (cell : List ℕ) : Type 0 where
  pub span : Span
  pub more : List ℕ
  pub parts : bytes ≡ pointer span ++ more
  pub there : IsAt page span cell

-- the pointer at each place leads to the cell
pub points : (page : List ℕ) (spans : List Span) (cells : List (List ℕ)) (rest : List ℕ) (index : ℕ) → Pairwise (IsAt page) spans cells → index < length cells
    → Points page (drop (2 * index) (flat_map pointer spans ++ rest)) (slice_index_or cells index [])
points page [] [] rest index are less = absurd (omega arith)
points page [] (cell ∷ cells) rest index are less = absurd are
points page (span ∷ spans) [] rest index are less = absurd are
points page (span ∷ spans) (cell ∷ cells) rest zero are less = record { span = span; more = flat_map pointer spans ++ rest; parts = refl; there = are.0 }
points page (span ∷ spans) (cell ∷ cells) rest (suc index) are less =
    let next = points page spans cells rest index are.1 (omega (arith, less)) in
    let two : 2 * suc index ≡ suc (suc (2 * index)) = omega arith in
    record {
      span = next.span;
      more = next.more;
      parts = ap (λ (n : ℕ). drop n (pointer span ++ (flat_map pointer spans ++ rest))) two ∙ next.parts;
      there = next.there;
    }

-- the page from a cell on
pub record Tail (page : List ℕ) (start : ℕ) (header : Kind × ℕ) (index : ℕ) (cell : List ℕ) : Type 0 where
  pub after : List ℕ
  pub is : tail_on page start header index ≡ Some (cell ++ after)

-- the pointer stands at its place
pub placed : (kind : ℕ) (page : List ℕ) (start : ℕ) (right : List ℕ) (cells : List (List ℕ)) (is : IsTreePage kind page start right cells) (width index : ℕ) → length right ≡ width
    → drop (8 + width + 2 * index) (drop start page) ≡ drop (2 * index) (flat_map pointer is.spans ++ is.rest)
placed kind page start right cells is width index wide =
    let s = stands kind page start right cells is in
    let rest = flat_map pointer is.spans ++ is.rest in
    let grouped : drop start page ≡ (s.header ++ right) ++ rest = s.node ∙ sym (append_assoc s.header right rest) in
    sym (drop-drop (2 * index) (8 + width) (drop start page))
    ∙ ap (drop (2 * index)) (ap (drop (8 + width)) grouped ∙ drop_at (s.header ++ right) rest (8 + width) (omega (arith, length-append s.header right, s.eight, wide)))

-- a pointer leads to its cell
pub tail_at : (page : List ℕ) (start : ℕ) (header : Kind × ℕ) (index : ℕ) (cell : List ℕ) → index < header.1 → start ≤ length page → 8 + right_size header.0 + 2 * index ≤ length (drop start page)
    → (p : Points page (drop (8 + right_size header.0 + 2 * index) (drop start page)) cell) → tail_on page start header index ≡ Some (cell ++ p.there.after)
unfolding tail_on
tail_at page start header index cell less within room p =
    let there = p.there in
    let begins : drop p.span.from page ≡ cell ++ there.after = ap (drop p.span.from) there.parts ∙ drop_at there.before (cell ++ there.after) p.span.from (sym there.from_is) in
    let inside : p.span.from ≤ length page = omega (arith, ap length there.parts, length-append there.before (cell ++ there.after), there.from_is) in
    rw (lt-ltb index header.1 less, skips start page within, skips (8 + right_size header.0 + 2 * index) (drop start page) room, p.parts, pair_again p.span.from p.more there.near, skips p.span.from page inside, begins) refl

tail_by : (page : List ℕ) (start : ℕ) (header : Kind × ℕ) (index : ℕ) (cell : List ℕ) → index < header.1 → start ≤ length page → 8 + right_size header.0 + 2 * index ≤ length (drop start page)
    → Points page (drop (8 + right_size header.0 + 2 * index) (drop start page)) cell → Tail page start header index cell
tail_by page start header index cell less within room p = record { after = p.there.after; is = tail_at page start header index cell less within room p }

-- the page from each cell on is read
pub tail_again : (kind : Kind) (page : List ℕ) (start : ℕ) (right : List ℕ) (cells : List (List ℕ)) (index : ℕ) → IsTreePage (type_of kind) page start right cells → length right ≡ right_size kind
    → index < length cells → Tail page start (kind, length cells) index (slice_index_or cells index [])
tail_again kind page start right cells index is wide less =
    let s = stands (type_of kind) page start right cells is in
    let cell = slice_index_or cells index [] in
    let p = points page is.spans cells is.rest index is.cells_are less in
    let at = placed (type_of kind) page start right cells is (right_size kind) index wide in
    tail_by page start (kind, length cells) index cell less s.within (omega (arith, s.long, wide, less)) (record { span = p.span; more = p.more; parts = at ∙ p.parts; there = p.there })

-- two bytes are read whatever comes after them
pair_of_two : (count : ℕ) (bytes : List ℕ) → count ≡ 2 → 2 ≤ length bytes → leading_pair (take count bytes) ≡ leading_pair bytes
unfolding leading_pair
pair_of_two count (high ∷ low ∷ bytes) two long = rw two refl
pair_of_two count [] two long = absurd (omega arith)
pair_of_two count (high ∷ []) two long = absurd (omega arith)

-- a pointer that is there is read where it stands
pub tail_read : (page : List ℕ) (start : ℕ) (header : Kind × ℕ) (index at count : ℕ) (read : Option ℕ) → index < header.1 → at ≡ start + 8 + right_size header.0 + 2 * index → at + 2 ≤ length page → count ≡ 2
    → read ≡ leading_pair (take count (drop at page)) → tail_on page start header index ≡ (read >>= λ offset. bytes_from offset page)
unfolding tail_on
tail_read page start header index at count read less place room two is =
    let within : start ≤ length page = omega (arith, place, room) in
    let inner : 8 + right_size header.0 + 2 * index ≤ length (drop start page) = omega (arith, place, room, length-drop start page) in
    let long : 2 ≤ length (drop at page) = omega (arith, room, length-drop at page) in
    let from : drop (8 + right_size header.0 + 2 * index) (drop start page) ≡ drop at page = drop-drop (8 + right_size header.0 + 2 * index) start page ∙ ap (λ (n : ℕ). drop n page) (omega (arith, place)) in
    rw (lt-ltb index header.1 less, skips start page within, skips (8 + right_size header.0 + 2 * index) (drop start page) inner, from) (ap (λ (r : Option ℕ). r >>= λ offset. bytes_from offset page) (sym (is ∙ pair_of_two count (drop at page) two long)))

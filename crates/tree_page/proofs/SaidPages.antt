-- A page whose cells were claimed says something, and the cells of a page that says something are claimed.
use Rattle.std.proofs.Common.{◌≡◌, ◌≤◌, ◌<◌, ◌+◌, ◌-◌, ◌*◌, ◌^◌, ℕ, ℤ, zero, suc, Bool, inl, inr, eqb, nat_lt, List, [], ◌∷◌, ◌++◌, length, take, drop, Option, Some, None, refl, sym, ap, subst, ◌∙◌, append_assoc, arith}
use Rattle.std.specs.Int.{w16, w32, to_be_bytes}
use Rattle.std.specs.List.{AllByRecursion, flat_map}
use Rattle.std.proofs.lemmas.Bool.{ltb-false, eqb-true}
use Rattle.std.proofs.lemmas.List.{take-append-drop, drop-drop, drop_at, length-append, length-drop, length-take-le}
use Rattle.record.proofs.RecordLemmas.{AreBytes-front}
use Rattle.record.proofs.VarintLemmas.{AreBytes, chosen, some_is}
use Rattle.tree_page.specs.declared.items.Kind.{Kind}
use Rattle.tree_page.specs.declared.items.Kind.TheVariants.{TableLeaf, TableInterior, IndexLeaf, IndexInterior}
use Rattle.tree_page.specs.Cells.{Span, pointer, AreApart, Pairwise, IsAt, page_header, IsTreePage}
use Rattle.tree_page.specs.Node.{Local, Node, Rows, Keys, Entries, Between, IsRowCell, IsKeyCell, IsEntryCell, IsBetweenCell, IsNode}
use Rattle.tree_page.specs.Reading.{type_of, count_of}
use Rattle.tree_page.specs.Bytes.{◌>>=◌, bytes_from, two_bytes, leading_pair, kind_of_type, right_size, node_header, header_on, pointer_from, tail_on, rest_of, after_cell}
use Rattle.tree_page.specs.Checking.{IsSaid, front_end, taken_up_to, claimed, ends_on, claimed_from}
use Rattle.tree_page.proofs.HeaderLemmas.{same_length, length-header, stands, Points, tail_at, placed}
use Rattle.tree_page.proofs.CellLemmas.{bind_some, row_again, key_again, entry_again, between_again}
use Rattle.tree_page.proofs.Claims.{unless_some, where_some, AreTaken, IsProper, with_claim, length-with_claim, taken_with, claim_is, claim_again, length-taken_up_to, taken_first}
use Rattle.tree_page.proofs.CellsSay.{bytes_after, bytes_from_drop, two_again, two_near, four_is, AreSaid, rows_said, keys_said, entries_said, betweens_said}
use Rattle.tree_page.proofs.NodeLemmas.{kind_of, right_is, node_front}

-- ---- the pointer to a cell

-- bytes from an offset on were there
skipped : (offset : ℕ) (bytes rest : List ℕ) → bytes_from offset bytes ≡ Some rest → (offset ≤ length bytes) × (drop offset bytes ≡ rest)
unfolding bytes_from
skipped offset bytes rest e =
    let g = unless_some (nat_lt (length bytes) offset) (Some (drop offset bytes)) rest e in (ltb-false _ _ g.0, some_is g.1)

-- two bytes were read as a pointer
record IsPair (bytes : List ℕ) (offset : ℕ) : Type 0 where
  pub more : List ℕ
  pub parts : bytes ≡ to_be_bytes w16 offset ++ more
  pub near : offset < 2 ^ 16

pair_is : (bytes : List ℕ) (offset : ℕ) → AreBytes bytes → leading_pair bytes ≡ Some offset → IsPair bytes offset
unfolding leading_pair
pair_is (high ∷ low ∷ more) offset fits e =
    let same : two_bytes high low ≡ offset = some_is e in
    record {
      more = more;
      parts = ap (λ (x : List ℕ). x ++ more) (sym (two_again high low fits.0 fits.1.0) ∙ ap (to_be_bytes w16) same);
      near = subst (λ (n : ℕ). n < 2 ^ 16) same (two_near high low fits.0 fits.1.0);
    }
pair_is [] offset fits e = absurd cc
pair_is (high ∷ []) offset fits e = absurd cc

-- a pointer was read, and the page from there on
record Pointed (page bytes tail : List ℕ) : Type 0 where
  pub offset : ℕ
  pub pair : IsPair bytes offset
  pub within : offset ≤ length page
  pub tail_is : drop offset page ≡ tail

abbrev from_pointer : List ℕ → ℕ → Kind → ℕ → List ℕ
from_pointer page start kind index = drop (8 + right_size kind + 2 * index) (drop start page)

pointed : (page : List ℕ) (start : ℕ) (kind : Kind) (count index : ℕ) (tail : List ℕ) → AreBytes page → tail_on page start (kind, count) index ≡ Some tail → Pointed page (from_pointer page start kind index) tail
unfolding tail_on
pointed page start kind count index tail fits e =
    let g = where_some (nat_lt index count) (pointer_from page start kind index >>= leading_pair >>= λ offset. bytes_from offset page) tail e in
    let o = bind_some (pointer_from page start kind index >>= leading_pair) (λ offset. bytes_from offset page) tail g.1 in
    let p = bind_some (pointer_from page start kind index) leading_pair o.0 o.1 in
    let n = bind_some (bytes_from start page) (λ node. bytes_from (8 + right_size kind + 2 * index) node) p.0 p.1 in
    let node = (skipped start page n.0 n.1).1 in
    let place : from_pointer page start kind index ≡ p.0 = ap (drop (8 + right_size kind + 2 * index)) node ∙ (skipped (8 + right_size kind + 2 * index) n.0 p.0 n.2).1 in
    let inside : AreBytes (from_pointer page start kind index) = bytes_from_drop (8 + right_size kind + 2 * index) (drop start page) (bytes_from_drop start page fits) in
    let far = skipped o.0 page tail o.2 in
    record {
      offset = o.0;
      pair = pair_is (from_pointer page start kind index) o.0 inside (ap leading_pair place ∙ p.2);
      within = far.0;
      tail_is = far.1;
    }

-- the page from a cell on is no longer than the page
pub tail_shortens : (page : List ℕ) (start : ℕ) (header : Kind × ℕ) (index : ℕ) (tail : List ℕ) → tail_on page start header index ≡ Some tail → length tail ≤ length page
unfolding tail_on
tail_shortens page start header index tail e =
    let g = where_some (nat_lt index header.1) (pointer_from page start header.0 index >>= leading_pair >>= λ offset. bytes_from offset page) tail e in
    let o = bind_some (pointer_from page start header.0 index >>= leading_pair) (λ offset. bytes_from offset page) tail g.1 in
    omega (arith, length-drop o.0 page, ap length (skipped o.0 page tail o.2).1)

-- ---- the cells

-- A cell stands on the page, says something, and this pointer leads to it.
record IsThere (X : Type 0) (P : List ℕ → X → Type 0) (page bytes : List ℕ) (span : Span) : Type 0 where
  pub cell : List ℕ
  pub item : X
  pub more : List ℕ
  pub points : bytes ≡ pointer span ++ more
  pub there : IsAt page span cell
  pub is : P cell item
  pub proper : IsProper span
  pub within : span.to ≤ length page

stands_there : (X : Type 0) (P : List ℕ → X → Type 0) (kind : Kind) (page : List ℕ) (start count index : ℕ) (span : Span) → AreSaid X P kind (length page) → AreBytes page → ends_on page start (kind, count) index ≡ Some (span.from, span.to)
    → IsThere X P page (from_pointer page start kind index) span
stands_there X P kind page start count index span said fits e =
    let t = bind_some (tail_on page start (kind, count) index) _ (span.from, span.to) e in
    let a = bind_some (after_cell kind (length page) t.0) _ (span.from, span.to) t.2 in
    let same = some_is a.2 in
    let p = pointed page start kind count index t.0 fits t.1 in
    let inside : AreBytes t.0 = subst AreBytes p.tail_is (bytes_from_drop p.offset page fits) in
    let says = said t.0 a.0 inside a.1 in
    let long = ap length p.tail_is in
    let from_is : length page - length t.0 ≡ span.from = ap (λ (x : ℕ × ℕ). x.0) same in
    let to_is : length page - length a.0 ≡ span.to = ap (λ (x : ℕ × ℕ). x.1) same in
    let offset_is : p.offset ≡ span.from = omega (arith, length-drop p.offset page, long, from_is, p.within) in
    let size = ap length says.parts ∙ length-append says.cell a.0 in
    record {
      cell = says.cell;
      item = says.item;
      more = p.pair.more;
      points = p.pair.parts ∙ ap (λ (n : ℕ). to_be_bytes w16 n ++ p.pair.more) offset_is;
      there = record {
        before = take p.offset page;
        after = a.0;
        parts = sym (take-append-drop p.offset page) ∙ ap (λ (x : List ℕ). take p.offset page ++ x) (p.tail_is ∙ says.parts);
        from_is = omega (arith, length-take-le p.offset page p.within, offset_is);
        to_is = omega (arith, length-take-le p.offset page p.within, length-drop p.offset page, long, size, to_is, p.within);
        near = subst (λ (n : ℕ). n < 2 ^ 16) offset_is p.pair.near;
      };
      is = says.is;
      proper = omega (arith, length-drop p.offset page, long, size, from_is, to_is, p.within, says.some);
      within = omega (arith, to_is);
    }

-- Cells stand there one after another, as many as pointers, and none shares a byte with another or with those before.
record AreThere (X : Type 0) (P : List ℕ → X → Type 0) (page : List ℕ) (before : List Span) (bytes : List ℕ) (count : ℕ) : Type 0 where
  pub spans : List Span
  pub cells : List (List ℕ)
  pub items : List X
  pub rest : List ℕ
  pub points : bytes ≡ flat_map pointer spans ++ rest
  pub are : Pairwise (IsAt page) spans cells
  pub say : Pairwise P cells items
  pub apart : AreApart before spans
  pub many : length spans ≡ count

-- the next pointer stands after the one that was read
next_pointer : (page : List ℕ) (start : ℕ) (kind : Kind) (index : ℕ) (span : Span) (more : List ℕ) → from_pointer page start kind index ≡ pointer span ++ more → more ≡ from_pointer page start kind (index + 1)
next_pointer page start kind index span more points =
    let place : 8 + right_size kind + 2 * index + 2 ≡ 8 + right_size kind + 2 * (index + 1) = omega arith in
    sym (drop_at (pointer span) more 2 refl) ∙ ap (drop 2) (sym points) ∙ drop-drop 2 (8 + right_size kind + 2 * index) (drop start page) ∙ ap (λ (n : ℕ). drop n (drop start page)) place

claimed_there : (X : Type 0) (P : List ℕ → X → Type 0) (kind : Kind) (page : List ℕ) (start total : ℕ) (taken marks : List Bool) (before : List Span) (index count : ℕ) → AreSaid X P kind (length page) → AreBytes page → length taken ≡ length page
    → AllByRecursion IsProper before → AreTaken taken before → claimed_from page start (kind, total) taken index count ≡ Some marks → AreThere X P page before (from_pointer page start kind index) count
claimed_there X P kind page start total taken marks before index zero said fits long proper are e =
    record { spans = []; cells = []; items = []; rest = from_pointer page start kind index; points = refl; are = tt; say = tt; apart = tt; many = refl }
claimed_there X P kind page start total taken marks before index (suc count) said fits long proper are e =
    let s = bind_some (ends_on page start (kind, total) index) (λ ends. claimed taken ends.0 ends.1 >>= λ left. claimed_from page start (kind, total) left (index + 1) count) marks e in
    let t = bind_some (claimed taken s.0.0 s.0.1) (λ left. claimed_from page start (kind, total) left (index + 1) count) marks s.2 in
    let span : Span = record { from = s.0.0; to = s.0.1 } in
    let there = stands_there X P kind page start total index span said fits s.1 in
    let ordered : span.from ≤ span.to = omega (arith, there.proper) in
    let within : span.to ≤ length taken = omega (arith, there.within, long) in
    let claim = claim_is taken t.0 span before there.proper proper are t.1 in
    let left_long : length t.0 ≡ length page = ap length claim.1 ∙ length-with_claim taken span ordered within ∙ long in
    let left_are : AreTaken t.0 (span ∷ before) = subst (λ (left : List Bool). AreTaken left (span ∷ before)) (sym claim.1) (taken_with taken span before ordered within are) in
    let next = claimed_there X P kind page start total t.0 marks (span ∷ before) (index + 1) count said fits left_long (there.proper, proper) left_are t.2 in
    record {
      spans = span ∷ next.spans;
      cells = there.cell ∷ next.cells;
      items = there.item ∷ next.items;
      rest = next.rest;
      points = there.points ∙ ap (λ (x : List ℕ). pointer span ++ x) (next_pointer page start kind index span there.more there.points ∙ next.points)
          ∙ sym (append_assoc (pointer span) (flat_map pointer next.spans) next.rest);
      are = (there.there, next.are);
      say = (there.is, next.say);
      apart = (claim.0, next.apart);
      many = ap (λ (n : ℕ). suc n) next.many;
    }

-- ---- the header

-- a header of this kind, which counts so many cells, stands there
record IsFront (bytes : List ℕ) (kind : Kind) (count : ℕ) : Type 0 where
  pub freeblock : List ℕ
  pub content : List ℕ
  pub fragments : ℕ
  pub rest : List ℕ
  pub parts : bytes ≡ page_header (type_of kind) freeblock count content fragments ++ rest
  pub freeblock_is : length freeblock ≡ 2
  pub content_is : length content ≡ 2
  pub few : count < 2 ^ 16
  pub room : right_size kind + 2 * count ≤ length rest

abbrev some_kind : Kind → Option Kind
some_kind kind = Some kind

kind_is : (byte : ℕ) (kind : Kind) → kind_of_type byte ≡ Some kind → byte ≡ type_of kind
unfolding kind_of_type
kind_is byte kind e =
    elim (chosen (eqb byte 13) (some_kind TableLeaf) _ _ e) [
      | inl a ↦ eqb-true byte 13 a.0 ∙ ap type_of (some_is a.1)
      | inr other ↦ elim (chosen (eqb byte 5) (some_kind TableInterior) _ _ other.1) [
        | inl a ↦ eqb-true byte 5 a.0 ∙ ap type_of (some_is a.1)
        | inr other ↦ elim (chosen (eqb byte 10) (some_kind IndexLeaf) _ _ other.1) [
          | inl a ↦ eqb-true byte 10 a.0 ∙ ap type_of (some_is a.1)
          | inr other ↦ (let last = where_some (eqb byte 2) (Some IndexInterior) kind other.1 in eqb-true byte 2 last.0 ∙ ap type_of (some_is last.1))
        ]
      ]
    ]

front_is : (bytes : List ℕ) (kind : Kind) (count : ℕ) → AreBytes bytes → node_header bytes ≡ Some (kind, count) → IsFront bytes kind count
unfolding node_header
front_is [] kind count fits e = absurd cc
front_is (a ∷ []) kind count fits e = absurd cc
front_is (a ∷ b ∷ []) kind count fits e = absurd cc
front_is (a ∷ b ∷ c ∷ []) kind count fits e = absurd cc
front_is (a ∷ b ∷ c ∷ d ∷ []) kind count fits e = absurd cc
front_is (a ∷ b ∷ c ∷ d ∷ f ∷ []) kind count fits e = absurd cc
front_is (a ∷ b ∷ c ∷ d ∷ f ∷ g ∷ []) kind count fits e = absurd cc
front_is (a ∷ b ∷ c ∷ d ∷ f ∷ g ∷ h ∷ []) kind count fits e = absurd cc
front_is (byte ∷ b ∷ c ∷ high ∷ low ∷ g ∷ h ∷ i ∷ rest) kind count fits e =
    let number = two_bytes high low in
    let k = bind_some (kind_of_type byte) _ (kind, count) e in
    let t = unless_some (nat_lt (length rest) (right_size k.0 + 2 * number)) (Some (k.0, number)) (kind, count) k.2 in
    let same : (k.0, number) ≡ (kind, count) = some_is t.1 in
    let room : right_size k.0 + 2 * number ≤ length rest = ltb-false _ _ t.0 in
    let type : byte ≡ type_of kind = kind_is byte k.0 k.1 ∙ ap (λ (x : Kind × ℕ). type_of x.0) same in
    let counts : number ≡ count = ap (λ (x : Kind × ℕ). x.1) same in
    let small = fits.1.1.1 in
    let pair : high ∷ low ∷ [] ≡ to_be_bytes w16 count = sym (two_again high low small.0 small.1.0) ∙ ap (to_be_bytes w16) counts in
    record {
      freeblock = b ∷ c ∷ [];
      content = g ∷ h ∷ [];
      fragments = i;
      rest = rest;
      parts = ap (λ (n : ℕ). n ∷ b ∷ c ∷ high ∷ low ∷ g ∷ h ∷ i ∷ rest) type ∙ ap (λ (x : List ℕ). (type_of kind ∷ b ∷ c ∷ (x ++ (g ∷ h ∷ i ∷ []))) ++ rest) pair;
      freeblock_is = refl;
      content_is = refl;
      few = subst (λ (n : ℕ). n < 2 ^ 16) counts (two_near high low small.0 small.1.0);
      room = subst (λ (x : Kind × ℕ). right_size x.0 + 2 * x.1 ≤ length rest) same room;
    }

-- the pointers stand after the header and the last child's number
rest_is : (page : List ℕ) (start : ℕ) (kind : Kind) (count : ℕ) (f : IsFront (drop start page) kind count) → f.rest ≡ take (right_size kind) f.rest ++ from_pointer page start kind 0
rest_is page start kind count f =
    let header = page_header (type_of kind) f.freeblock count f.content f.fragments in
    let eight = length-header (type_of kind) count f.fragments f.freeblock f.content f.freeblock_is f.content_is in
    let after : drop 8 (drop start page) ≡ f.rest = ap (drop 8) f.parts ∙ drop_at header f.rest 8 eight in
    let place : 8 + right_size kind ≡ 8 + right_size kind + 2 * 0 = omega arith in
    let same : drop (right_size kind) f.rest ≡ from_pointer page start kind 0 =
    ap (drop (right_size kind)) (sym after) ∙ drop-drop (right_size kind) 8 (drop start page) ∙ ap (λ (n : ℕ). drop n (drop start page)) place in
    sym (take-append-drop (right_size kind) f.rest) ∙ ap (λ (x : List ℕ). take (right_size kind) f.rest ++ x) same

-- the bytes between the header and the pointers
abbrev right_in : (bytes : List ℕ) (kind : Kind) (count : ℕ) → IsFront bytes kind count → List ℕ
right_in bytes kind count f = take (right_size kind) f.rest

-- a header and the cells behind it are a page
tree_page : (X : Type 0) (P : List ℕ → X → Type 0) (page : List ℕ) (start : ℕ) (kind : Kind) (count : ℕ) (f : IsFront (drop start page) kind count) → start ≤ length page
    → (a : AreThere X P page (record { from = 0; to = front_end start (kind, count) } ∷ []) (from_pointer page start kind 0) count) → IsTreePage (type_of kind) page start (right_in (drop start page) kind count f) a.cells
unfolding front_end
tree_page X P page start kind count f within a =
    let right = right_in (drop start page) kind count f in
    let header = λ (n : ℕ). page_header (type_of kind) f.freeblock n f.content f.fragments in
    let wide : length right ≡ right_size kind = length-take-le (right_size kind) f.rest (omega (arith, f.room)) in
    let many : count ≡ length a.cells = omega (arith, a.many, same_length (IsAt page) a.spans a.cells a.are) in
    let end : front_end start (kind, count) ≡ start + 8 + length right + 2 * length a.cells = omega (arith, wide, many) in
    record {
      before = take start page;
      freeblock = f.freeblock;
      content = f.content;
      fragments = f.fragments;
      spans = a.spans;
      rest = a.rest;
      parts = sym (take-append-drop start page) ∙ ap (λ (x : List ℕ). take start page ++ x) (f.parts ∙ ap (λ (n : ℕ). header n ++ f.rest) many
          ∙ ap (λ (x : List ℕ). header (length a.cells) ++ x) (rest_is page start kind count f ∙ ap (λ (x : List ℕ). right ++ x) a.points));
      start_is = length-take-le start page within;
      freeblock_is = f.freeblock_is;
      content_is = f.content_is;
      few = omega (arith, f.few, many);
      cells_are = a.are;
      apart = subst (λ (n : ℕ). AreApart (record { from = 0; to = n } ∷ []) a.spans) end a.apart;
    }

-- ---- a page whose cells were claimed

-- which bytes are taken once those of all its cells are too
abbrev pub claimed_all : List ℕ → ℕ → Kind × ℕ → Option (List Bool)
claimed_all page start header = claimed_from page start header (taken_up_to (front_end start header) (length page)) 0 header.1

-- the header was read, and its pointers have room
record HasFront (page : List ℕ) (start : ℕ) (kind : Kind) (count : ℕ) : Type 0 where
  pub front : IsFront (drop start page) kind count
  pub within : start ≤ length page
  pub room : front_end start (kind, count) ≤ length page

has_front : (page : List ℕ) (start : ℕ) (kind : Kind) (count : ℕ) → AreBytes page → header_on page start ≡ Some (kind, count) → HasFront page start kind count
unfolding front_end
has_front page start kind count fits e =
    let h = bind_some (bytes_from start page) node_header (kind, count) e in
    let s = skipped start page h.0 h.1 in
    let f = front_is (drop start page) kind count (bytes_from_drop start page fits) (ap node_header s.1 ∙ h.2) in
    let header = page_header (type_of kind) f.freeblock count f.content f.fragments in
    let eight = length-header (type_of kind) count f.fragments f.freeblock f.content f.freeblock_is f.content_is in
    record { front = f; within = s.0; room = omega (arith, s.0, length-drop start page, ap length f.parts, length-append header f.rest, eight, f.room) }

-- the pointers end on the page
pub front_within : (page : List ℕ) (start : ℕ) (header : Kind × ℕ) → AreBytes page → header_on page start ≡ Some header → front_end start header ≤ length page
front_within page start header fits e = (has_front page start header.0 header.1 fits e).room

-- so does each of them
pub pointer_within : (page : List ℕ) (start : ℕ) (header : Kind × ℕ) (index : ℕ) → AreBytes page → header_on page start ≡ Some header → index < header.1 → start + 8 + right_size header.0 + 2 * index + 2 ≤ length page
unfolding front_end
pointer_within page start header index fits e less =
    let within = front_within page start header fits e in
    omega (arith, within, less)

-- the cells of such a page
all_there : (X : Type 0) (P : List ℕ → X → Type 0) (page : List ℕ) (start : ℕ) (kind : Kind) (count : ℕ) (marks : List Bool) → AreSaid X P kind (length page) → AreBytes page → front_end start (kind, count) ≤ length page
    → claimed_all page start (kind, count) ≡ Some marks → AreThere X P page (record { from = 0; to = front_end start (kind, count) } ∷ []) (from_pointer page start kind 0) count
unfolding front_end
all_there X P page start kind count marks said fits room e =
    let end = front_end start (kind, count) in
    let proper : 0 < end = omega arith in
    claimed_there X P kind page start count (taken_up_to end (length page)) marks (record { from = 0; to = end } ∷ []) 0 count said fits (length-taken_up_to end (length page) room) (proper, tt) (taken_first end (length page)) e

-- the last child's number
last_is : (page : List ℕ) (start : ℕ) (kind : Kind) (count : ℕ) (f : IsFront (drop start page) kind count) → AreBytes page → right_size kind ≡ 4 → (last : ℕ) × (right_in (drop start page) kind count f ≡ to_be_bytes w32 last) × (last < 2 ^ 32)
last_is page start kind count f fits four =
    let header = page_header (type_of kind) f.freeblock count f.content f.fragments in
    let rest : AreBytes f.rest = bytes_after header f.rest (drop start page) f.parts (bytes_from_drop start page fits) in
    let right : AreBytes (take (right_size kind) f.rest) = AreBytes-front (take (right_size kind) f.rest) (drop (right_size kind) f.rest) (subst AreBytes (sym (take-append-drop (right_size kind) f.rest)) rest) in
    four_is (take (right_size kind) f.rest) right (length-take-le (right_size kind) f.rest (omega (arith, f.room)) ∙ four)

-- A page whose cells were claimed says something.
pub said : (page : List ℕ) (start : ℕ) (kind : Kind) (count : ℕ) (marks : List Bool) → AreBytes page → header_on page start ≡ Some (kind, count) → claimed_all page start (kind, count) ≡ Some marks
    → IsSaid (record { bytes = page; start = start })
unfolding right_size
said page start TableLeaf count marks fits e claims =
    let h = has_front page start TableLeaf count fits e in
    let a = all_there (ℤ × Local) (IsRowCell (length page)) page start TableLeaf count marks (rows_said (length page)) fits h.room claims in
    let is = tree_page (ℤ × Local) (IsRowCell (length page)) page start TableLeaf count h.front h.within a in
    (Rows a.items, record { cells = a.cells; page_is = is; say = a.say })
said page start IndexLeaf count marks fits e claims =
    let h = has_front page start IndexLeaf count fits e in
    let a = all_there Local (IsEntryCell (length page)) page start IndexLeaf count marks (entries_said (length page)) fits h.room claims in
    let is = tree_page Local (IsEntryCell (length page)) page start IndexLeaf count h.front h.within a in
    (Entries a.items, record { cells = a.cells; page_is = is; say = a.say })
said page start TableInterior count marks fits e claims =
    let h = has_front page start TableInterior count fits e in
    let a = all_there (ℕ × ℤ) IsKeyCell page start TableInterior count marks (keys_said (length page)) fits h.room claims in
    let is = tree_page (ℕ × ℤ) IsKeyCell page start TableInterior count h.front h.within a in
    let last = last_is page start TableInterior count h.front fits refl in
    (Keys a.items last.0, record { cells = a.cells; page_is = subst (λ (right : List ℕ). IsTreePage 5 page start right a.cells) last.1 is; say = (a.say, last.2) })
said page start IndexInterior count marks fits e claims =
    let h = has_front page start IndexInterior count fits e in
    let a = all_there (ℕ × Local) (IsBetweenCell (length page)) page start IndexInterior count marks (betweens_said (length page)) fits h.room claims in
    let is = tree_page (ℕ × Local) (IsBetweenCell (length page)) page start IndexInterior count h.front h.within a in
    let last = last_is page start IndexInterior count h.front fits refl in
    (Between a.items last.0, record { cells = a.cells; page_is = subst (λ (right : List ℕ). IsTreePage 2 page start right a.cells) last.1 is; say = (a.say, last.2) })

-- ---- a page that says something

-- a cell of this sort ends where the bytes after it begin
abbrev Ends : (X : Type 0) (P : List ℕ → X → Type 0) → Kind → ℕ → Type 0
Ends X P kind usable = (cell : List ℕ) (x : X) (rest : List ℕ) → P cell x → after_cell kind usable (cell ++ rest) ≡ Some rest

rows_end : (usable : ℕ) → Ends (ℤ × Local) (IsRowCell usable) TableLeaf usable
unfolding after_cell
rows_end usable cell x rest is = ap rest_of (row_again usable cell x rest is)

keys_end : (usable : ℕ) → Ends (ℕ × ℤ) IsKeyCell TableInterior usable
unfolding after_cell
keys_end usable cell x rest is = ap rest_of (key_again cell x rest is)

entries_end : (usable : ℕ) → Ends Local (IsEntryCell usable) IndexLeaf usable
unfolding after_cell
entries_end usable cell x rest is = ap rest_of (entry_again usable cell x rest is)

betweens_end : (usable : ℕ) → Ends (ℕ × Local) (IsBetweenCell usable) IndexInterior usable
unfolding after_cell
betweens_end usable cell x rest is = ap rest_of (between_again usable cell x rest is)

-- so many cells are claimed
record AreClaimed (page : List ℕ) (start : ℕ) (header : Kind × ℕ) (taken : List Bool) (index count : ℕ) : Type 0 where
  pub marks : List Bool
  pub is : claimed_from page start header taken index count ≡ Some marks

-- where a cell ends that stands on the page
ends_again : (page : List ℕ) (start : ℕ) (kind : Kind) (total index : ℕ) (span : Span) (cell : List ℕ) (at : IsAt page span cell) → tail_on page start (kind, total) index ≡ Some (cell ++ at.after)
    → after_cell kind (length page) (cell ++ at.after) ≡ Some at.after → ends_on page start (kind, total) index ≡ Some (span.from, span.to)
ends_again page start kind total index span cell at tail after =
    let size = ap length at.parts ∙ length-append at.before (cell ++ at.after) in
    let more = length-append cell at.after in
    let from_is : length page - length (cell ++ at.after) ≡ span.from = omega (arith, size, at.from_is) in
    let to_is : length page - length at.after ≡ span.to = omega (arith, size, more, at.to_is) in
    let ends : ends_on page start (kind, total) index ≡ Some (length page - length (cell ++ at.after), length page - length at.after) = rw (tail, after) refl in
    ends ∙ ap (λ (n : ℕ). Some (n, length page - length at.after)) from_is ∙ ap (λ (n : ℕ). Some (span.from, n)) to_is

step_again : (page : List ℕ) (start : ℕ) (header : Kind × ℕ) (taken left : List Bool) (index count : ℕ) (span : Span) → ends_on page start header index ≡ Some (span.from, span.to) → claimed taken span.from span.to ≡ Some left
    → AreClaimed page start header left (index + 1) count → AreClaimed page start header taken index (suc count)
step_again page start header taken left index count span ends claim next = record { marks = next.marks; is = rw (ends, claim) next.is }

claimed_again : (X : Type 0) (P : List ℕ → X → Type 0) (kind : Kind) (page : List ℕ) (start total : ℕ) (taken : List Bool) (before spans : List Span) (cells : List (List ℕ)) (items : List X) (rest : List ℕ) (index : ℕ) → Ends X P kind (length page)
    → start ≤ length page → 8 + right_size kind + 2 * (index + length spans) ≤ length (drop start page) → index + length spans ≤ total → from_pointer page start kind index ≡ flat_map pointer spans ++ rest → length taken ≡ length page
    → AreTaken taken before → Pairwise (IsAt page) spans cells → Pairwise P cells items → AreApart before spans → AreClaimed page start (kind, total) taken index (length spans)
claimed_again X P kind page start total taken before [] cells items rest index ends within room few points long are there say apart = record { marks = taken; is = refl }
claimed_again X P kind page start total taken before (span ∷ spans) [] items rest index ends within room few points long are there say apart = absurd there
claimed_again X P kind page start total taken before (span ∷ spans) (cell ∷ cells) [] rest index ends within room few points long are there say apart = absurd say
claimed_again X P kind page start total taken before (span ∷ spans) (cell ∷ cells) (item ∷ items) rest index ends within room few points long are there say apart =
    let at = there.0 in
    let more = flat_map pointer spans ++ rest in
    let here : from_pointer page start kind index ≡ pointer span ++ more = points ∙ append_assoc (pointer span) (flat_map pointer spans) rest in
    let p : Points page (from_pointer page start kind index) cell = record { span = span; more = more; parts = here; there = at } in
    let tail = tail_at page start (kind, total) index cell (omega (arith, few)) within (omega (arith, room)) p in
    let size = ap length at.parts ∙ length-append at.before (cell ++ at.after) in
    let inside : span.to ≤ length taken = omega (arith, size, length-append cell at.after, at.to_is, long) in
    let ordered : span.from ≤ span.to = omega (arith, at.from_is, at.to_is) in
    let next = claimed_again X P kind page start total (with_claim taken span) (span ∷ before) spans cells items rest (index + 1) ends within (omega (arith, room)) (omega (arith, few))
    (sym (next_pointer page start kind index span more here)) (length-with_claim taken span ordered inside ∙ long) (taken_with taken span before ordered inside are) there.1 say.1 apart.1 in
    step_again page start (kind, total) taken (with_claim taken span) index (length spans) span (ends_again page start kind total index span cell at tail (ends cell item at.after say.0))
    (claim_again taken span before inside apart.0 are) next

-- all cells of a page are claimed
all_again : (X : Type 0) (P : List ℕ → X → Type 0) (kind : Kind) (page : List ℕ) (start : ℕ) (right : List ℕ) (cells : List (List ℕ)) (items : List X) → Ends X P kind (length page)
    → IsTreePage (type_of kind) page start right cells → length right ≡ right_size kind → Pairwise P cells items
    → AreClaimed page start (kind, length items) (taken_up_to (front_end start (kind, length items)) (length page)) 0 (length items)
unfolding front_end
all_again X P kind page start right cells items ends is wide say =
    let s = stands (type_of kind) page start right cells is in
    let count = same_length P cells items say in
    let many : length is.spans ≡ length items = same_length (IsAt page) is.spans cells is.cells_are ∙ count in
    let end = front_end start (kind, length items) in
    let end_is : start + 8 + length right + 2 * length cells ≡ end = omega (arith, wide, count) in
    let room : end ≤ length page = omega (arith, s.long, length-drop start page, s.within, wide, count) in
    let taken = taken_up_to end (length page) in
    let apart : AreApart (record { from = 0; to = end } ∷ []) is.spans = subst (λ (n : ℕ). AreApart (record { from = 0; to = n } ∷ []) is.spans) end_is is.apart in
    subst (λ (n : ℕ). AreClaimed page start (kind, length items) taken 0 n) many
    (claimed_again X P kind page start (length items) taken (record { from = 0; to = end } ∷ []) is.spans cells items is.rest 0 ends s.within (omega (arith, s.long, wide, count, many)) (omega (arith, many))
    (placed (type_of kind) page start right cells is (right_size kind) 0 wide) (length-taken_up_to end (length page) room) (taken_first end (length page)) is.cells_are say apart)

-- The cells of a page that says something are claimed.
pub said_again : (page : List ℕ) (start : ℕ) (node : Node) → IsNode page start node → (marks : List Bool) × (claimed_all page start (kind_of node, count_of node) ≡ Some marks)
said_again page start (Rows rows) is =
    let a = all_again (ℤ × Local) (IsRowCell (length page)) TableLeaf page start [] is.cells rows (rows_end (length page)) is.page_is (right_is (Rows rows)) is.say in (a.marks, a.is)
said_again page start (Keys kids last) is =
    let a = all_again (ℕ × ℤ) IsKeyCell TableInterior page start (to_be_bytes w32 last) is.cells kids (keys_end (length page)) is.page_is (right_is (Keys kids last)) is.say.0 in (a.marks, a.is)
said_again page start (Entries entries) is =
    let a = all_again Local (IsEntryCell (length page)) IndexLeaf page start [] is.cells entries (entries_end (length page)) is.page_is (right_is (Entries entries)) is.say in (a.marks, a.is)
said_again page start (Between kids last) is =
    let a = all_again (ℕ × Local) (IsBetweenCell (length page)) IndexInterior page start (to_be_bytes w32 last) is.cells kids (betweens_end (length page)) is.page_is (right_is (Between kids last)) is.say.0 in (a.marks, a.is)

-- ---- one cell after another

-- once a cell is claimed, those after it are left
pub claims_step : (page : List ℕ) (start : ℕ) (header : Kind × ℕ) (taken left : List Bool) (index total from to : ℕ) → index < total → ends_on page start header index ≡ Some (from, to) → claimed taken from to ≡ Some left
    → claimed_from page start header left (index + 1) (total - (index + 1)) ≡ claimed_from page start header taken index (total - index)
claims_step page start header taken left index total from to less ends claim =
    let one : total - index ≡ suc (total - (index + 1)) = omega (arith, less) in
    sym (ap (claimed_from page start header taken index) one ∙ rw (ends, claim) refl)

-- ---- what the check answers

not_both : {A : Type 0} (r : Option A) (x : A) → r ≡ Some x → r ≡ None → ⊥
not_both (Some y) x e none = absurd cc
not_both None x e none = absurd cc

-- the header and the marks are those of a page that says something
pub said_by : (page : List ℕ) (start : ℕ) (header : Kind × ℕ) (taken marks : List Bool) → AreBytes page → header_on page start ≡ Some header → taken ≡ taken_up_to (front_end start header) (length page)
    → claimed_from page start header taken 0 header.1 ≡ Some marks → IsSaid (record { bytes = page; start = start })
said_by page start header taken marks fits e set claims =
    said page start header.0 header.1 marks fits e (ap (λ (left : List Bool). claimed_from page start header left 0 header.1) (sym set) ∙ claims)

-- a page that says something is refused for no cell
pub not_refused : (page : List ℕ) (start : ℕ) (header : Kind × ℕ) (taken : List Bool) (node : Node) → header_on page start ≡ Some header → taken ≡ taken_up_to (front_end start header) (length page) → IsNode page start node
    → claimed_from page start header taken 0 header.1 ≡ None → ⊥
not_refused page start header taken node e set is none =
    let same : header ≡ (kind_of node, count_of node) = some_is (sym e ∙ node_front page start node is) in
    let again = said_again page start node is in
    let there : claimed_all page start header ≡ Some again.0 = subst (λ (h : Kind × ℕ). claimed_all page start h ≡ Some again.0) (sym same) again.1 in
    let here : claimed_all page start header ≡ None = ap (λ (left : List Bool). claimed_from page start header left 0 header.1) (sym set) ∙ none in
    not_both (claimed_all page start header) again.0 there here

-- The payloads of a leaf's rows, and the chains over which they go on.
use Rattle.std.proofs.Common.{◌≡◌, ◌+◌, ◌≤◌, ◌<◌, ◌^◌, ℕ, ℤ, ◌<ℤ◌, List, [], ◌∷◌, ◌++◌, length, take, drop, nat_le, if◌then◌else◌, refl, sym, ap, subst, ◌∙◌, arith}
use Rattle.std.proofs.lemmas.Bool.Decides.{nat_tests}
use Rattle.std.proofs.lemmas.List.{append-nil, length-append, length-drop, length-take, take_all, drop_all, take_at, drop_at}
use Rattle.std.specs.Int.{w32, to_be_bytes}
use Rattle.std.specs.List.{flat_map}
use Rattle.pages.specs.Counting.{occurs}
use Rattle.pages.specs.Map.{PageMap}
use Rattle.tree_page.specs.Cells.{Pairwise}
use Rattle.tree_page.specs.Node.{Local}
use Rattle.tree_page.specs.Payload.{least, fitted, local_size, table_most, index_most}
use Rattle.tree_overflow.specs.Chains.{IsChain, first_link, next_of}
use Rattle.tree_table.specs.Tree.{Held, IsHeldAs, Rises}
use Rattle.tree_table.proofs.SameRows.{split}
use Rattle.tree_check.specs.Subtrees.{RisesAs}
use Rattle.tree_check.specs.Tails.{Chain, IsTailOn, IsTail, IsShort, IsLong, AreTails, IsCellOf}
use Rattle.tree_check.specs.declared.chains.Tail.{Tail}
use Rattle.tree_check.proofs.Links.{pages_on, one_number, none_left}
use Rattle.tree_check.proofs.Parting.{occurs_append}

abbrev pub pages_for : Held → List ℕ
pages_for held = held.pages

-- ---- sizes

local_whole : (usable most size : ℕ) → size ≤ most → local_size usable most size ≡ size
local_whole usable most size le = grind (arith, nat_tests)

local_cases : (most fit low size : ℕ) → low ≤ most → most < size → (if nat_le size most then size else (if nat_le fit most then fit else low)) < size
local_cases most fit low size le lt = grind (arith, nat_tests)

-- the least part of a payload is no longer than the longest that lies whole in a cell
pub least_in_table : (usable : ℕ) → 512 ≤ usable → least usable ≤ table_most usable
least_in_table usable large = omega (arith, large)

pub least_in_index : (usable : ℕ) → 512 ≤ usable → least usable ≤ index_most usable
least_in_index usable large = omega (arith, large)

-- of a payload that goes on, a part lies elsewhere
local_part : (usable most size : ℕ) → least usable ≤ most → most < size → local_size usable most size < size
local_part usable most size low lt = local_cases most (fitted usable size) (least usable) size low lt

-- ---- one payload

-- The chains have the pages of a payload.
pub record HasChains (map : PageMap) (size : ℕ) (tails : List Tail) (pages : List ℕ) : Type 0 where
  pub chains : List Chain
  pub on : Pairwise (IsTailOn map size) tails chains
  pub as_often : (n : ℕ) → occurs n (flat_map pages_on chains) ≡ occurs n pages

-- A payload has the pages of these chains.
pub record HasPayload (map : PageMap) (size most : ℕ) (said : Local) (pages : List ℕ) : Type 0 where
  pub payload : List ℕ
  pub over : List ℕ
  pub is : IsCellOf map size most said payload over
  pub as_often : (n : ℕ) → occurs n over ≡ occurs n pages

module _ (map : PageMap) (size most : ℕ) (low : least size ≤ most) (said : Local) where
  short_chains : (payload pages : List ℕ) → IsCellOf map size most said payload pages → IsShort size most said → HasChains map size [] pages
  short_chains payload pages is short =
      let le : length payload ≤ most = (let a = is.long in let b = short.fits in omega (arith, a, b)) in
      let all = local_whole size most (length payload) le in
      let none : length (drop (local_size size most (length payload)) payload) ≡ 0 =
      length-drop (local_size size most (length payload)) payload ∙ omega (arith, all) in
      let empty : pages ≡ [] = none_left map size _ pages is.is.chain none in
      record { chains = []; on = tt; as_often = λ n. sym (ap (occurs n) empty) }

  -- one that lies whole in its cell is what lies there
  pub short_whole : (payload pages : List ℕ) → IsCellOf map size most said payload pages → IsShort size most said → said.bytes ≡ payload
  short_whole payload pages is short =
      let le : length payload ≤ most = (let a = is.long in let b = short.fits in omega (arith, a, b)) in
      let all = local_whole size most (length payload) le in
      let none : length (drop (local_size size most (length payload)) payload) ≡ 0 =
      length-drop (local_size size most (length payload)) payload ∙ omega (arith, all) in
      let empty : pages ≡ [] = none_left map size _ pages is.is.chain none in
      is.is.parts
      ∙ (ap (λ (ps : List ℕ). take (local_size size most (length payload)) payload ++ first_link ps) empty
      ∙ (append-nil (take (local_size size most (length payload)) payload)
      ∙ (ap (λ (n : ℕ). take n payload) all ∙ take_all (length payload) payload (omega arith))))

  first_page : (tail : Tail) → tail.first < 2 ^ 32 → (bytes pages : List ℕ) → to_be_bytes w32 tail.first ≡ first_link pages → IsChain map size bytes pages → next_of pages ≡ tail.first
  first_page tail near bytes [] links chain = absurd (let none = ap length links in omega (arith, none))
  first_page tail near bytes (page ∷ pages) links chain =
      sym (one_number tail.first page [] [] near chain.0.near (append-nil (to_be_bytes w32 tail.first) ∙ (links ∙ sym (append-nil (to_be_bytes w32 page)))))

  long_chains : (tail : Tail) (payload pages : List ℕ) → IsCellOf map size most said payload pages → IsLong size most said tail → HasChains map size (tail ∷ []) pages
  long_chains tail payload pages is long =
      let count = is.long in
      let local = local_size size most (length payload) in
      let local_is : local_size size most said.size ≡ local = ap (local_size size most) count in
      let part = local_part size most said.size low long.long in
      let front : length long.here ≡ length (take local payload) = long.here_is ∙ (local_is ∙ sym (length-take local payload ∙ omega (arith, part, local_is, count))) in
      let links = (split long.here (to_be_bytes w32 tail.first) (take local payload) (first_link pages) front (sym long.parts ∙ is.is.parts)).1 in
      let first = first_page tail long.near (drop local payload) pages links is.is.chain in
      let left : length (drop local payload) ≡ tail.size = length-drop local payload ∙ (let l = long.left in omega (arith, l, local_is, count)) in
      record {
        chains = record { bytes = drop local payload; pages = pages } ∷ [];
        on = (record { is = is.is.chain; first_is = first; long = left }, tt);
        as_often = λ n. ap (occurs n) (append-nil pages);
      }

  -- a payload goes on over these chains
  pub payload_chains : (tails : List Tail) (payload pages : List ℕ) → IsCellOf map size most said payload pages → IsTail size most said tails → HasChains map size tails pages
  payload_chains [] payload pages is tail = short_chains payload pages is tail
  payload_chains (tail ∷ []) payload pages is long = long_chains tail payload pages is long
  payload_chains (tail ∷ more ∷ tails) payload pages is none = absurd none

  short_payload : IsShort size most said → HasPayload map size most said []
  short_payload short =
      let le : length said.bytes ≤ most = (let a = short.whole in let b = short.fits in omega (arith, a, b)) in
      let all = local_whole size most (length said.bytes) le in
      record {
        payload = said.bytes;
        over = [];
        is = record {
          long = sym short.whole;
          is = record {
            parts = sym (append-nil (take (local_size size most (length said.bytes)) said.bytes) ∙ (ap (λ n. take n said.bytes) all ∙ take_all (length said.bytes) said.bytes (omega arith)));
            chain = ap (λ n. drop n said.bytes) all ∙ drop_all (length said.bytes) said.bytes (omega arith);
          };
        };
        as_often = λ n. refl;
      }

  links_to : (tail : Tail) (bytes pages : List ℕ) → next_of pages ≡ tail.first → 0 < length bytes → IsChain map size bytes pages → to_be_bytes w32 tail.first ≡ first_link pages
  links_to tail bytes [] first some chain = absurd (let none = ap length chain in omega (arith, none, some))
  links_to tail bytes (page ∷ pages) first some chain = ap (to_be_bytes w32) (sym first)

  long_payload : (tail : Tail) (bytes pages : List ℕ) → IsLong size most said tail → IsTailOn map size tail (record { bytes = bytes; pages = pages }) → HasPayload map size most said pages
  long_payload tail bytes pages long on =
      let part = local_part size most said.size low long.long in
      let both = length-append long.here bytes in
      let here = long.here_is in
      let left = long.left in
      let rest = on.long in
      let count : length (long.here ++ bytes) ≡ said.size = omega (arith, both, here, left, rest, part) in
      let local_is : local_size size most (length (long.here ++ bytes)) ≡ length long.here = ap (local_size size most) count ∙ sym here in
      let front : take (local_size size most (length (long.here ++ bytes))) (long.here ++ bytes) ≡ long.here = ap (λ n. take n (long.here ++ bytes)) local_is ∙ take_at long.here bytes (length long.here) refl in
      let behind : drop (local_size size most (length (long.here ++ bytes))) (long.here ++ bytes) ≡ bytes = ap (λ n. drop n (long.here ++ bytes)) local_is ∙ drop_at long.here bytes (length long.here) refl in
      let some : 0 < length bytes = omega (arith, rest, left, part) in
      record {
        payload = long.here ++ bytes;
        over = pages;
        is = record {
          long = sym count;
          is = record {
            parts = long.parts ∙ (ap (λ (l : List ℕ). l ++ to_be_bytes w32 tail.first) (sym front)
                ∙ ap (λ (l : List ℕ). take (local_size size most (length (long.here ++ bytes))) (long.here ++ bytes) ++ l) (links_to tail bytes pages on.first_is some on.is));
            chain = subst (λ (l : List ℕ). IsChain map size l pages) (sym behind) on.is;
          };
        };
        as_often = λ n. refl;
      }

  -- the chains of a payload's tails make the payload
  pub chains_payload : (tails : List Tail) (chains : List Chain) → IsTail size most said tails → Pairwise (IsTailOn map size) tails chains → HasPayload map size most said (flat_map pages_on chains)
  chains_payload [] [] short on = short_payload short
  chains_payload [] (chain ∷ chains) short on = absurd on
  chains_payload (tail ∷ []) [] long on = absurd on
  chains_payload (tail ∷ []) (chain ∷ []) long on =
      let made = long_payload tail chain.bytes chain.pages long on.0 in
      record { payload = made.payload; over = made.over; is = made.is; as_often = λ n. made.as_often n ∙ sym (ap (occurs n) (append-nil chain.pages)) }
  chains_payload (tail ∷ []) (chain ∷ other ∷ chains) long on = absurd on.1
  chains_payload (tail ∷ more ∷ tails) chains none on = absurd none

-- ---- one row

-- the row that a leaf tells goes on over these chains
row_chains : (map : PageMap) (size : ℕ) (said : ℤ × Local) (tails : List Tail) (held : Held) → 512 ≤ size → IsHeldAs map size said held → IsTail size (table_most size) said.1 tails → HasChains map size tails held.pages
row_chains map size said tails held large is tail =
    payload_chains map size (table_most size) (least_in_table size large) said.1 tails held.row.payload held.pages (record { long = is.size; is = is.payload }) tail

-- A row has the pages of these chains.
record HasRow (map : PageMap) (size : ℕ) (said : ℤ × Local) (pages : List ℕ) : Type 0 where
  pub held : Held
  pub is : IsHeldAs map size said held
  pub as_often : (n : ℕ) → occurs n held.pages ≡ occurs n pages

-- the chains of a row's tails make the row
chains_row : (map : PageMap) (size : ℕ) (said : ℤ × Local) (tails : List Tail) (chains : List Chain) → 512 ≤ size → IsTail size (table_most size) said.1 tails → Pairwise (IsTailOn map size) tails chains
    → HasRow map size said (flat_map pages_on chains)
chains_row map size said tails chains large tail on =
    let made = chains_payload map size (table_most size) (least_in_table size large) said.1 tails chains tail on in
    record {
      held = record { row = record { rowid = said.0; payload = made.payload }; pages = made.over };
      is = record { rowid = refl; size = made.is.long; payload = made.is.is };
      as_often = made.as_often;
    }

-- ---- all rows

pair_append : {X Y : Type 0} (P : X → Y → Type 0) (xs us : List X) (ys vs : List Y) → Pairwise P xs ys → Pairwise P us vs → Pairwise P (xs ++ us) (ys ++ vs)
pair_append P [] us [] vs a b = b
pair_append P [] us (y ∷ ys) vs a b = absurd a
pair_append P (x ∷ xs) us [] vs a b = absurd a
pair_append P (x ∷ xs) us (y ∷ ys) vs a b = (a.0, pair_append P xs us ys vs a.1 b)

-- Two parts of a list stand beside two parts of another.
record IsCut {X Y : Type 0} (P : X → Y → Type 0) (xs us : List X) (all : List Y) : Type 0 where
  pub front : List Y
  pub rest : List Y
  pub all_are : all ≡ front ++ rest
  pub on : Pairwise P xs front
  pub after : Pairwise P us rest

pair_cut : {X Y : Type 0} (P : X → Y → Type 0) (xs us : List X) (all : List Y) → Pairwise P (xs ++ us) all → IsCut P xs us all
pair_cut P [] us all a = record { front = []; rest = all; all_are = refl; on = tt; after = a }
pair_cut P (x ∷ xs) us [] a = absurd a
pair_cut P (x ∷ xs) us (y ∷ all) a =
    let cut = pair_cut P xs us all a.1 in
    record { front = y ∷ cut.front; rest = cut.rest; all_are = ap (λ l. y ∷ l) cut.all_are; on = (a.0, cut.on); after = cut.after }

flat_count : {X : Type 0} (f : X → List ℕ) (xs ys : List X) (n : ℕ) → occurs n (flat_map f (xs ++ ys)) ≡ occurs n (flat_map f xs) + occurs n (flat_map f ys)
flat_count f [] ys n = omega arith
flat_count f (x ∷ xs) ys n =
    let a = flat_count f xs ys n in
    let b = occurs_append n (f x) (flat_map f (xs ++ ys)) in
    let d = occurs_append n (f x) (flat_map f xs) in
    omega (arith, a, b, d)

-- the rows of a leaf go on over these chains
pub rows_chains : (map : PageMap) (size : ℕ) (said : List (ℤ × Local)) (rows : List Held) (tails : List Tail) → 512 ≤ size → Pairwise (IsHeldAs map size) said rows → AreTails size said tails
    → HasChains map size tails (flat_map pages_for rows)
rows_chains map size [] [] tails large all are = record { chains = []; on = subst (λ (l : List Tail). Pairwise (IsTailOn map size) l []) (sym are) tt; as_often = λ n. refl }
rows_chains map size [] (row ∷ rows) tails large all are = absurd all
rows_chains map size (one ∷ said) [] tails large all are = absurd all
rows_chains map size (one ∷ said) (row ∷ rows) tails large all are =
    let first = row_chains map size one are.0 row large all.0 are.3 in
    let rest = rows_chains map size said rows are.1 large all.1 are.4 in
    record {
      chains = first.chains ++ rest.chains;
      on = subst (λ (l : List Tail). Pairwise (IsTailOn map size) l (first.chains ++ rest.chains)) (sym are.2) (pair_append (IsTailOn map size) are.0 are.1 first.chains rest.chains first.on rest.on);
      as_often = λ n. (
          let a = flat_count pages_on first.chains rest.chains n in
          let b = first.as_often n in
          let d = rest.as_often n in
          let e = occurs_append n row.pages (flat_map pages_for rows) in
          omega (arith, a, b, d, e));
    }

-- The rows have the pages of these chains.
pub record MakesRows (map : PageMap) (size : ℕ) (said : List (ℤ × Local)) (pages : List ℕ) : Type 0 where
  pub rows : List Held
  pub are : Pairwise (IsHeldAs map size) said rows
  pub as_often : (n : ℕ) → occurs n (flat_map pages_for rows) ≡ occurs n pages

-- these chains make the rows of a leaf
pub chains_rows : (map : PageMap) (size : ℕ) (said : List (ℤ × Local)) (tails : List Tail) (chains : List Chain) → 512 ≤ size → AreTails size said tails → Pairwise (IsTailOn map size) tails chains
    → MakesRows map size said (flat_map pages_on chains)
chains_rows map size [] tails chains large are on = by chains (subst (λ (l : List Tail). Pairwise (IsTailOn map size) l chains) are on)
  where
    by : (chains : List Chain) → Pairwise (IsTailOn map size) [] chains → MakesRows map size [] (flat_map pages_on chains)
    by [] on = record { rows = []; are = tt; as_often = λ n. refl }
    by (chain ∷ chains) on = absurd on
chains_rows map size (one ∷ said) tails chains large are on =
    let cut = pair_cut (IsTailOn map size) are.0 are.1 chains (subst (λ (l : List Tail). Pairwise (IsTailOn map size) l chains) are.2 on) in
    let first = chains_row map size one are.0 cut.front large are.3 cut.on in
    let rest = chains_rows map size said are.1 cut.rest large are.4 cut.after in
    record {
      rows = first.held ∷ rest.rows;
      are = (first.is, rest.are);
      as_often = λ n. (
          let a = ap (λ (l : List Chain). occurs n (flat_map pages_on l)) cut.all_are in
          let b = flat_count pages_on cut.front cut.rest n in
          let d = first.as_often n in
          let e = rest.as_often n in
          let f = occurs_append n first.held.pages (flat_map pages_for rest.rows) in
          omega (arith, a, b, d, e, f));
    }

-- ---- their order

pub rises_as : (map : PageMap) (size : ℕ) (low high : ℤ) (said : List (ℤ × Local)) (rows : List Held) → Pairwise (IsHeldAs map size) said rows → Rises low rows high → RisesAs low said high
rises_as map size low high [] [] all rises = rises
rises_as map size low high [] (row ∷ rows) all rises = absurd all
rises_as map size low high (one ∷ said) [] all rises = absurd all
rises_as map size low high (one ∷ said) (row ∷ rows) all rises =
    subst (λ (z : ℤ). (low <ℤ z) × RisesAs z said high) (sym all.0.rowid) (rises.0, rises_as map size row.row.rowid high said rows all.1 rises.1)

pub rises_so : (map : PageMap) (size : ℕ) (low high : ℤ) (said : List (ℤ × Local)) (rows : List Held) → Pairwise (IsHeldAs map size) said rows → RisesAs low said high → Rises low rows high
rises_so map size low high [] [] all rises = rises
rises_so map size low high [] (row ∷ rows) all rises = absurd all
rises_so map size low high (one ∷ said) [] all rises = absurd all
rises_so map size low high (one ∷ said) (row ∷ rows) all rises =
    subst (λ (z : ℤ). (low <ℤ z) × Rises z rows high) all.0.rowid (rises.0, rises_so map size one.0 high said rows all.1 rises.1)

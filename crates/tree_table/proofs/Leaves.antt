-- The parts of a leaf's rows, with one more.
use Rattle.std.proofs.Common.{◌≡◌, ◌≤◌, ◌<◌, ◌+◌, ◌-◌, ℕ, zero, suc, ℤ, pos, append_assoc, if◌then◌else◌, Bool, true, false, nat_le, List, [], ◌∷◌, ◌++◌, length, map, take, drop, refl, sym, ap, subst, ◌∙◌, arith}
use Rattle.std.proofs.lemmas.Bool.{leb-true}
use Rattle.std.proofs.lemmas.Grind.{common_steps}
use Rattle.std.proofs.lemmas.Int.{ints}
use Rattle.std.proofs.lemmas.List.{length-append, length-take-le, length-drop, take-append-drop, map-append}
use Rattle.std.specs.List.{flat_map}
use Rattle.tree_leaf.specs.Leaf.{Entry}
use Rattle.pages.specs.Counting.{occurs}
use Rattle.pages.specs.Map.{PageMap}
use Rattle.pages.proofs.Moving.{occurs_append}
use Rattle.tree_page.specs.Cells.{Pairwise}
use Rattle.tree_page.specs.Node.{Local, Rows, IsNode}
use Rattle.tree_page.specs.Payload.{table_most, least, fitted, local_size, held_size}
use Rattle.tree_overflow.specs.Chains.{IsChain, IsPayload, first_link}
use Rattle.tree_pack.specs.Lists.{parts_of, row_parts}
use Rattle.tree_pack.specs.Rows.{LieWithin, last_number}
use Rattle.tree_pack.proofs.SayLemmas.{pairwise_take, pairwise_drop}
use Rattle.tree_store.specs.Sides.{each_of, nothing, Parted}
use Rattle.tree_table.specs.Growing.{below_of, IsTop, all_of}
use Rattle.tree_table.specs.Tree.{Held, IsHeldAs, Leaf, Rises, IsSorted, rows_of}
use Rattle.tree_table.proofs.Holes.{Kids, keys_of}
use Rattle.tree_table.proofs.Orders.{rows_in, put_in}

abbrev pub chains_of : List Held → List ℕ
chains_of rows = flat_map (λ (held : Held). held.pages) rows

abbrev pub leaf : List Held → Leaf
leaf rows = record { page = 0; rows = rows }

-- the last rowid, or the one given if there is none
abbrev last_held : ℤ → List Held → ℤ
last_held none [] = none
last_held none (held ∷ rows) = last_held held.row.rowid rows

rises_cut : (n : ℕ) (low : ℤ) (rows : List Held) (high : ℤ) → n ≤ length rows → Rises low rows high
    → Rises low (take n rows) (last_held low (take n rows)) × Rises (last_held low (take n rows)) (drop n rows) high
rises_cut zero low rows high le rises = (omega (arith, ints), rises)
rises_cut (suc n) low [] high le rises = absurd (omega (arith, le))
rises_cut (suc n) low (held ∷ rows) high le rises = (let r = rises_cut n held.row.rowid rows high (omega (arith, le)) rises.1 in ((rises.0, r.0), r.1))

same_last : (a b : ℤ) (n : ℕ) (rows : List Held) → 1 ≤ n → n ≤ length rows → last_held a (take n rows) ≡ last_held b (take n rows)
same_last a b zero rows some le = absurd (omega (arith, some))
same_last a b (suc n) [] some le = absurd (omega (arith, le))
same_last a b (suc n) (held ∷ rows) some le = refl

module _ (map' : PageMap) (size : ℕ) where
  abbrev Hold : List (ℤ × Local) → List Held → Type 0
  Hold said rows = Pairwise (IsHeldAs map' size) said rows

  last_same : (none : ℤ) (said : List (ℤ × Local)) (rows : List Held) → Hold said rows → last_number none said ≡ last_held none rows
  last_same none [] [] h = refl
  last_same none [] (held ∷ rows) h = absurd h
  last_same none (row ∷ said) [] h = absurd h
  last_same none (row ∷ said) (held ∷ rows) h = ap (λ (z : ℤ). last_number z said) h.0.rowid ∙ last_same held.row.rowid said rows h.1

  -- Pages that say the parts of rows are leaves of these.
  pub record AreLeaves (start : ℕ) (low high : ℤ) (counts : List ℕ) (said : List (ℤ × Local)) (rows : List Held) (pages : List (List ℕ)) : Type 0 where
    pub kids : Kids zero
    pub last : Leaf
    pub tops : Pairwise (IsTop map' size zero start) pages (all_of kids last)
    pub keys_are : map (λ part. part.1) (row_parts (last_number (pos 0)) counts said).0 ≡ keys_of kids
    pub sorted : Parted (IsSorted zero) low kids last high
    pub rows_are : each_of (rows_of zero) nothing kids last ≡ rows_in rows
    pub chains_are : each_of (below_of zero) nothing kids last ≡ chains_of rows

  flat_append : (xs ys : List Held) → chains_of (xs ++ ys) ≡ chains_of xs ++ chains_of ys
  flat_append [] ys = refl
  flat_append (x ∷ xs) ys = ap (λ (pages : List ℕ). x.pages ++ pages) (flat_append xs ys) ∙ sym (append_assoc x.pages (chains_of xs) (chains_of ys))

  top_is : (start : ℕ) (page : List ℕ) (said : List (ℤ × Local)) (rows : List Held) → Hold said rows → IsNode page start (Rows said) → IsTop map' size zero start page (leaf rows)
  top_is start page said rows hold says = record { node = Rows said; says = says; shows = (said, refl, hold) }

  pub cut_leaf : (start : ℕ) (low high : ℤ) (counts : List ℕ) (said : List (ℤ × Local)) (rows : List Held) (pages : List (List ℕ)) → Hold said rows → Rises low rows high → LieWithin 0 counts (length rows)
      → Pairwise (λ image node. IsNode image start node) pages (map (λ part. Rows part) (parts_of 0 counts said)) → AreLeaves start low high counts said rows pages
  cut_leaf start low high [] said rows [] hold rises within says = absurd says
  cut_leaf start low high [] said rows (page ∷ []) hold rises within says =
      record { kids = []; last = leaf rows; tops = (top_is start page said rows hold says.0, tt); keys_are = refl; sorted = rises; rows_are = refl; chains_are = refl }
  cut_leaf start low high [] said rows (page ∷ other ∷ pages) hold rises within says = absurd says.1
  cut_leaf start low high (count ∷ counts) said rows [] hold rises within says = absurd says
  cut_leaf start low high (count ∷ counts) said rows (page ∷ pages) hold rises within says =
      let some = within.0 in
      let le : count ≤ length rows = (let k = within.1 in omega (arith, k)) in
      let front = pairwise_take (IsHeldAs map' size) count said rows hold in
      let after = pairwise_drop (IsHeldAs map' size) count said rows hold in
      let key : last_number (pos 0) (take count said) ≡ last_held low (take count rows) = last_same (pos 0) (take count said) (take count rows) front ∙ same_last (pos 0) low count rows some le in
      let cut = rises_cut count low rows high le rises in
      let zero_more : count + 0 ≡ count = omega arith in
      let left : length rows - (count + 0) ≡ length (drop count rows) = (let e = length-drop count rows in omega (arith, e)) in
      let rest = cut_leaf start (last_held low (take count rows)) high counts (drop count said) (drop count rows) pages after cut.1 (subst (λ (n : ℕ). LieWithin 0 counts n) left within.2)
      (subst (λ (n : ℕ). Pairwise (λ image node. IsNode image start node) pages (map (λ part. Rows part) (parts_of 0 counts (drop n said)))) zero_more says.1) in
      record {
        kids = (leaf (take count rows), last_held low (take count rows)) ∷ rest.kids;
        last = rest.last;
        tops = (top_is start page (take count said) (take count rows) front says.0, rest.tops);
        keys_are = ap (λ (z : ℤ). z ∷ map (λ part. part.1) (row_parts (last_number (pos 0)) counts (drop count said)).0) key ∙ ap (λ (zs : List ℤ). last_held low (take count rows) ∷ zs) rest.keys_are;
        sorted = (cut.0, rest.sorted);
        rows_are = ap (λ (xs : List Entry). rows_in (take count rows) ++ xs) rest.rows_are ∙ sym (map-append (λ (held : Held). held.row) (take count rows) (drop count rows)) ∙ ap rows_in (take-append-drop count rows);
        chains_are = ap (λ (xs : List ℕ). chains_of (take count rows) ++ xs) rest.chains_are ∙ sym (flat_append (take count rows) (drop count rows)) ∙ ap chains_of (take-append-drop count rows);
      }

-- the overflow pages of a row that is put among others are added to theirs
pub put_chains : (n place : ℕ) (held : Held) (rows : List Held) → occurs n (chains_of (put_in place held rows)) ≡ occurs n held.pages + occurs n (chains_of rows)
put_chains n zero held rows = occurs_append n held.pages (chains_of rows)
put_chains n (suc place) held [] = occurs_append n held.pages []
put_chains n (suc place) held (first ∷ rows) =
    let rest = put_chains n place held rows in
    let one = occurs_append n first.pages (chains_of (put_in place held rows)) in
    let two = occurs_append n first.pages (chains_of rows) in
    omega (arith, rest, one, two)

-- ---- what a cell holds of a payload

least_le : (size : ℕ) → 512 ≤ size → least size ≤ table_most size
least_le size big = omega (arith, big)

local_le : (size n : ℕ) → 512 ≤ size → table_most size < n → local_size size (table_most size) n ≤ table_most size
local_le size n big more = by_size (nat_le n (table_most size)) refl
  where
    by_fit : (b : Bool) → nat_le (fitted size n) (table_most size) ≡ b → (if nat_le (fitted size n) (table_most size) then fitted size n else least size) ≤ table_most size
    by_fit true e = rw e (leb-true _ _ e)
    by_fit false e = rw e (least_le size big)

    by_size : (b : Bool) → nat_le n (table_most size) ≡ b → local_size size (table_most size) n ≤ table_most size
    by_size true e = absurd (let le = leb-true n (table_most size) e in omega (arith, le, more))
    by_size false e = rw e (by_fit (nat_le (fitted size n) (table_most size)) refl)

no_chain : (map' : PageMap) (usable : ℕ) (bytes pages : List ℕ) → length bytes ≡ 0 → IsChain map' usable bytes pages → length (first_link pages) ≡ 0
no_chain map' usable bytes [] none h = refl
no_chain map' usable bytes (page ∷ pages) none h = absurd (let some = h.0.some in omega (arith, some, none))

a_chain : (map' : PageMap) (usable : ℕ) (bytes pages : List ℕ) → 1 ≤ length bytes → IsChain map' usable bytes pages → length (first_link pages) ≡ 4
a_chain map' usable bytes [] some h = absurd (let none = ap length h in omega (arith, some, none))
a_chain map' usable bytes (page ∷ pages) some h = refl

not_le : (a b : ℕ) → nat_le a b ≡ false → b < a
not_le a b e = grind (arith, common_steps)

no_bool : true ≡ false → ⊥
no_bool e = cc

pub payload_held : (map' : PageMap) (size : ℕ) (held payload pages : List ℕ) → 512 ≤ size → IsPayload map' size (table_most size) held payload pages → length held ≡ held_size size (table_most size) (length payload)
payload_held map' size held payload pages big is = by_size (nat_le (length payload) (table_most size)) refl
  where
    local : ℕ
    local = local_size size (table_most size) (length payload)

    long : length held ≡ length (take local payload) + length (first_link pages)
    long = ap length is.parts ∙ length-append (take local payload) (first_link pages)

    by_size : (b : Bool) → nat_le (length payload) (table_most size) ≡ b → length held ≡ held_size size (table_most size) (length payload)
    by_size true e =
        let all : local ≡ length payload = rw e refl in
        let left = length-drop local payload in
        let none = no_chain map' size (drop local payload) pages (omega (arith, left, all)) is.chain in
        let taken = length-take-le local payload (omega (arith, all)) in
        rw e (omega (arith, long, none, taken, all))
    by_size false e =
        let more = not_le (length payload) (table_most size) e in
        let le = local_le size (length payload) big more in
        let left = length-drop local payload in
        let some = a_chain map' size (drop local payload) pages (omega (arith, left, le, more)) is.chain in
        let taken = length-take-le local payload (omega (arith, le, more)) in
        held_more e (omega (arith, long, some, taken))
      where
        held_more : nat_le (length payload) (table_most size) ≡ false → length held ≡ local + 4 → length held ≡ held_size size (table_most size) (length payload)
        held_more e h = h ∙ sym (held_is (nat_le (length payload) (table_most size)) e)
          where
            held_is : (b : Bool) → b ≡ false → (if b then length payload else local + 4) ≡ local + 4
            held_is true e = absurd (no_bool e)
            held_is false e = refl

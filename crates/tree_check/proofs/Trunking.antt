-- Trunk pages of the freelist, one after the other.
use Rattle.std.proofs.Common.{◌≡◌, ◌+◌, ◌-◌, ◌*◌, ◌/◌, ◌≤◌, ◌<◌, ◌^◌, ℕ, suc, Bool, List, [], ◌∷◌, ◌++◌, length, take, drop, refl, sym, ap, subst, ◌∙◌, arith, Ok, Err}
use Rattle.std.proofs.lemmas.List.{append_assoc, length-append, length-drop, drop-drop, take-append-drop, take_at, drop_at, nil_from_length}
use Rattle.std.specs.Int.{w32, to_be_bytes}
use Rattle.std.specs.List.{flat_map}
use Rattle.std.specs.Prelude.{⊤, Result, IsErrAnd, IfErr, OnOk}
use Rattle.sqlval.specs.declared.fault.Fault.{Fault}
use Rattle.sqlval.specs.Faults.{IsOutside}
use Rattle.pages.specs.Counting.{occurs}
use Rattle.pages.specs.Map.{PageMap, Has, page_at}
use Rattle.freelist.specs.Freelist.{Trunk, IsTrunk, IsFreelist, first_of, pages_of}
use Rattle.tree_check.specs.Checks.{IsCheckedList, IsUnmarkedList, MarksList}
use Rattle.tree_check.specs.Exact.{Checks, IsThisPage, alone}
use Rattle.tree_check.specs.Marks.{AreUnmarked}
use Rattle.tree_check.specs.Trunks.{AreListed, TellsList, IsTrunkOf, ChecksTrunk}
use Rattle.tree_check.specs.declared.lists.Listed.{Listed}
use Rattle.tree_check.proofs.Links.{one_number}
use Rattle.tree_check.proofs.Parting.{IsBoth, IsOf, both_appended, first_refused, refused, then_checks, nothing_left}

abbrev pub these : List ℕ → List ℕ
these leaves = leaves

abbrev IsNear : ℕ → Type 0
IsNear leaf = leaf < 2 ^ 32

-- ---- the pages that a trunk page lists

listed_apart : (map : PageMap) (bytes : List ℕ) (at count leaf : ℕ) → to_be_bytes w32 leaf ≡ take 4 (drop at bytes) → leaf < 2 ^ 32 → 0 < count → (leaves : List ℕ) → AreListed map (drop at bytes) count leaves
    → IsBoth (IsThisPage map leaf) (AreListed map (drop (at + 4) bytes) (count - 1)) alone these leaves
listed_apart map bytes at count leaf number near some [] are = absurd (let many = are.many in omega (arith, many, some))
listed_apart map bytes at count leaf number near some (first ∷ leaves) are =
    let parts : drop at bytes ≡ to_be_bytes w32 first ++ (flat_map (to_be_bytes w32) leaves ++ are.rest) = are.parts ∙ append_assoc (to_be_bytes w32 first) (flat_map (to_be_bytes w32) leaves) are.rest in
    let front : take 4 (drop at bytes) ≡ to_be_bytes w32 first = ap (take 4) parts ∙ take_at (to_be_bytes w32 first) (flat_map (to_be_bytes w32) leaves ++ are.rest) 4 refl in
    let same : leaf ≡ first = one_number leaf first [] [] near are.near.0 (ap (λ (l : List ℕ). l ++ []) (number ∙ front)) in
    let behind : drop 4 (drop at bytes) ≡ flat_map (to_be_bytes w32) leaves ++ are.rest = ap (drop 4) parts ∙ drop_at (to_be_bytes w32 first) (flat_map (to_be_bytes w32) leaves ++ are.rest) 4 refl in
    let many = are.many in
    record {
      one = leaf;
      other = leaves;
      is = record { is = refl; has = subst (Has map) (sym same) are.there.0 };
      also = record { many = omega (arith, many); rest = are.rest; parts = sym (drop-drop 4 at bytes) ∙ behind; there = are.there.1; near = are.near.1 };
      both = λ n. let e = ap (λ (q : ℕ). occurs n (alone q)) same in omega (arith, e);
    }

listed_together : (map : PageMap) (bytes : List ℕ) (at count leaf : ℕ) → to_be_bytes w32 leaf ≡ take 4 (drop at bytes) → leaf < 2 ^ 32 → 0 < count → (number : ℕ) (leaves : List ℕ) → IsThisPage map leaf number
    → AreListed map (drop (at + 4) bytes) (count - 1) leaves → IsOf (AreListed map (drop at bytes) count) these (alone number) leaves
listed_together map bytes at count leaf number_is near some number leaves is are =
    let many = are.many in
    record {
      it = leaf ∷ leaves;
      is = record {
        many = omega (arith, many, some);
        rest = are.rest;
        parts = sym (take-append-drop 4 (drop at bytes)) ∙ (ap (λ (l : List ℕ). l ++ drop 4 (drop at bytes)) (sym number_is)
            ∙ (ap (λ (l : List ℕ). to_be_bytes w32 leaf ++ l) (drop-drop 4 at bytes ∙ are.parts) ∙ sym (append_assoc (to_be_bytes w32 leaf) (flat_map (to_be_bytes w32) leaves) are.rest)));
        there = (subst (Has map) is.is is.has, are.there);
        near = (near, are.near);
      };
      both = λ n. let e = ap (λ (q : ℕ). occurs n (alone q)) is.is in omega (arith, e);
    }

-- what the pages after the next one decide
pub leaf_then : (map : PageMap) (bytes : List ℕ) (at count leaf : ℕ) (old mid : List Bool) → to_be_bytes w32 leaf ≡ take 4 (drop at bytes) → leaf < 2 ^ 32 → 0 < count → Checks (IsThisPage map leaf) alone old mid (Ok tt)
    → (new : List Bool) (result : Result ⊤ Fault) → Checks (AreListed map (drop (at + 4) bytes) (count - 1)) these mid new result → Checks (AreListed map (drop at bytes) count) these old new result
leaf_then map bytes at count leaf old mid number near some first new result rest =
    then_checks (IsThisPage map leaf) (AreListed map (drop (at + 4) bytes) (count - 1)) (AreListed map (drop at bytes) count) alone these these
    (listed_apart map bytes at count leaf number near some) (listed_together map bytes at count leaf number near some) old mid new result first rest

-- the next one is refused
pub leaf_stops : (map : PageMap) (bytes : List ℕ) (at count leaf : ℕ) (old mid new : List Bool) (fault : Fault) (result : Result ⊤ Fault) → to_be_bytes w32 leaf ≡ take 4 (drop at bytes) → leaf < 2 ^ 32 → 0 < count
    → Checks (IsThisPage map leaf) alone old mid (Err fault) → IsErrAnd result (λ e. e ≡ fault) → Checks (AreListed map (drop at bytes) count) these old new result
leaf_stops map bytes at count leaf old mid new fault result number near some first is =
    first_refused (IsThisPage map leaf) (AreListed map (drop (at + 4) bytes) (count - 1)) (AreListed map (drop at bytes) count) alone these these
    (listed_apart map bytes at count leaf number near some) old mid new fault result first is

-- the bytes end before the next one
pub leaf_there : (map : PageMap) (bytes : List ℕ) (at count : ℕ) → 0 < count → (leaves : List ℕ) → AreListed map (drop at bytes) count leaves → at + 4 ≤ length bytes
leaf_there map bytes at count some [] are = absurd (let many = are.many in omega (arith, many, some))
leaf_there map bytes at count some (first ∷ leaves) are =
    let long = length-drop at bytes in
    let parts : length (drop at bytes) ≡ length (to_be_bytes w32 first ++ (flat_map (to_be_bytes w32) leaves ++ are.rest)) =
    ap length (are.parts ∙ append_assoc (to_be_bytes w32 first) (flat_map (to_be_bytes w32) leaves) are.rest) in
    omega (arith, long, parts)

pub leaves_end : (map : PageMap) (bytes : List ℕ) (at count : ℕ) (marks : List Bool) → count ≡ 0 → Checks (AreListed map (drop at bytes) count) these marks marks (Ok tt)
leaves_end map bytes at count marks none =
    nothing_left (AreListed map (drop at bytes) count) these marks [] (record { many = sym none; rest = drop at bytes; parts = refl; there = tt; near = tt })
    (λ leaves are n. ap (occurs n) (nil_from_length leaves (are.many ∙ none)))

-- What was marked of the listed pages up to here: what is left decides.
pub record HasListed (before marks : List Bool) (Whole Rest : PageMap → List Bool → List Bool → Result ⊤ Fault → Type 0) : Type 0 where
  pub long : length marks ≡ length before
  pub decides : (map : PageMap) → length before ≡ suc (length map) → (after : List Bool) (result : Result ⊤ Fault) → Rest map marks after result → Whole map before after result

-- ---- a trunk page

header_is : (bytes rest : List ℕ) (n next : ℕ) → bytes ≡ to_be_bytes w32 next ++ (to_be_bytes w32 n ++ rest) → (take 4 bytes ≡ to_be_bytes w32 next) × (take 4 (drop 4 bytes) ≡ to_be_bytes w32 n) × (drop 8 bytes ≡ rest)
header_is bytes rest n next parts =
    let behind : drop 4 bytes ≡ to_be_bytes w32 n ++ rest = ap (drop 4) parts ∙ drop_at (to_be_bytes w32 next) (to_be_bytes w32 n ++ rest) 4 refl in (
      ap (take 4) parts ∙ take_at (to_be_bytes w32 next) (to_be_bytes w32 n ++ rest) 4 refl,
      ap (take 4) behind ∙ take_at (to_be_bytes w32 n) rest 4 refl,
      sym (drop-drop 4 4 bytes) ∙ (ap (drop 4) behind ∙ drop_at (to_be_bytes w32 n) rest 4 refl),
    )

same_number : (a b : ℕ) (bytes : List ℕ) → a < 2 ^ 32 → b < 2 ^ 32 → to_be_bytes w32 a ≡ bytes → bytes ≡ to_be_bytes w32 b → a ≡ b
same_number a b bytes near also one other = one_number a b [] [] near also (ap (λ (l : List ℕ). l ++ []) (one ∙ other))

few_near : (size n : ℕ) → size ≤ 2 ^ 16 → n + 2 ≤ size / 4 → n < 2 ^ 32
few_near size n small few = omega (arith, small, few)

module _ (map : PageMap) (size page left : ℕ) (listed : Listed) (small : size ≤ 2 ^ 16) (sized : length (page_at map page) ≡ size) (tells : TellsList (page_at map page) left listed) where
  -- what the page tells is one thing
  tells_one : (next : ℕ) (leaves : List ℕ) → IsTrunk map size (record { page = page; leaves = leaves }) next → (next ≡ listed.next) × (length leaves ≡ listed.len)
  tells_one next leaves is =
      let header = header_is (page_at map page) (flat_map (to_be_bytes w32) leaves ++ is.rest) (length leaves) next is.parts in (
        sym (same_number listed.next next (take 4 (page_at map page)) tells.next_near is.near tells.next header.0),
        sym (same_number listed.len (length leaves) (take 4 (drop 4 (page_at map page))) tells.len_near (few_near size (length leaves) small is.few) tells.len header.1),
      )

  trunk_apart : (leaves : List ℕ) → IsTrunkOf map size page listed.next listed.len leaves
      → IsBoth (IsThisPage map page) (AreListed map (drop 8 (page_at map page)) listed.len) alone these (page ∷ leaves)
  trunk_apart leaves is =
      let header = header_is (page_at map page) (flat_map (to_be_bytes w32) leaves ++ is.trunk.rest) (length leaves) listed.next is.trunk.parts in
      record {
        one = page;
        other = leaves;
        is = record { is = refl; has = is.trunk.has };
        also = record { many = is.many; rest = is.trunk.rest; parts = header.2; there = is.trunk.leaves; near = is.trunk.leaves_near };
        both = λ n. omega arith;
      }

  trunk_together : (number : ℕ) (leaves : List ℕ) → IsThisPage map page number → AreListed map (drop 8 (page_at map page)) listed.len leaves
      → IsOf (IsTrunkOf map size page listed.next listed.len) (λ leaves. page ∷ leaves) (alone number) leaves
  trunk_together number leaves is are =
      let bytes = page_at map page in
      let parts : bytes ≡ to_be_bytes w32 listed.next ++ (to_be_bytes w32 listed.len ++ drop 8 bytes) =
      sym (take-append-drop 4 bytes) ∙ (ap (λ (l : List ℕ). l ++ drop 4 bytes) (sym tells.next)
      ∙ ap (λ (l : List ℕ). to_be_bytes w32 listed.next ++ l) (sym (take-append-drop 4 (drop 4 bytes)) ∙ (ap (λ (l : List ℕ). l ++ drop 4 (drop 4 bytes)) (sym tells.len) ∙ ap (λ (l : List ℕ). to_be_bytes w32 listed.len ++ l) (drop-drop 4 4 bytes)))) in
      let few = tells.few in
      let many = are.many in
      let room = ap (λ (n : ℕ). n / 4) sized in
      record {
        it = leaves;
        is = record {
          trunk = record {
            has = subst (Has map) is.is is.has;
            near = tells.next_near;
            rest = are.rest;
            parts = parts ∙ (ap (λ (l : List ℕ). to_be_bytes w32 listed.next ++ (to_be_bytes w32 listed.len ++ l)) are.parts
                ∙ ap (λ (n : ℕ). to_be_bytes w32 listed.next ++ (to_be_bytes w32 n ++ (flat_map (to_be_bytes w32) leaves ++ are.rest))) (sym many));
            few = omega (arith, few, many, room);
            leaves = are.there;
            leaves_near = are.near;
          };
          many = many;
        };
        both = λ n. let e = ap (λ (q : ℕ). occurs n (alone q)) is.is in omega (arith, e);
      }

  both_checked : (old mid new : List Bool) (result : Result ⊤ Fault) → Checks (IsThisPage map page) alone old mid (Ok tt)
      → Checks (AreListed map (drop 8 (page_at map page)) listed.len) these mid new result → Checks (IsTrunkOf map size page listed.next listed.len) (λ leaves. page ∷ leaves) old new result
  both_checked old mid new result first then =
      then_checks (IsThisPage map page) (AreListed map (drop 8 (page_at map page)) listed.len) (IsTrunkOf map size page listed.next listed.len) alone these (λ leaves. page ∷ leaves)
      trunk_apart trunk_together old mid new result first then

  -- the page and those that it lists were marked
  pub trunk_checked : (old mid new : List Bool) → Checks (IsThisPage map page) alone old mid (Ok tt)
      → Checks (AreListed map (drop 8 (page_at map page)) listed.len) these mid new (Ok tt) → ChecksTrunk map size page left old new (Ok listed)
  trunk_checked old mid new first then = (tells.fewer, both_checked old mid new (Ok tt) first then)

  -- one of those is refused
  pub leaves_refused : (old mid new : List Bool) (fault : Fault) (result : Result Listed Fault) → Checks (IsThisPage map page) alone old mid (Ok tt)
      → Checks (AreListed map (drop 8 (page_at map page)) listed.len) these mid new (Err fault) → IsErrAnd result (λ e. e ≡ fault) → ChecksTrunk map size page left old new result
  leaves_refused old mid new fault (Ok x) first then is = absurd is
  leaves_refused old mid new fault (Err e) first then is = λ next leaves trunk fewer free.
      (let one = tells_one next leaves trunk in
      subst IsOutside (sym is) (both_checked old mid new (Err fault) first then leaves
      (record { trunk = subst (λ (n : ℕ). IsTrunk map size (record { page = page; leaves = leaves }) n) one.0 trunk; many = one.1 }) free))

-- the page isn't marked, or isn't read
pub trunk_refused : (map : PageMap) (size page left : ℕ) (old new : List Bool) (fault : Fault) (result : Result Listed Fault) → IsErrAnd result (λ e. e ≡ fault)
    → (Has map page → AreUnmarked old (alone page) → IsOutside fault) → ChecksTrunk map size page left old new result
trunk_refused map size page left old new fault (Ok x) is why = absurd is
trunk_refused map size page left old new fault (Err e) is why = λ next leaves trunk fewer free. subst IsOutside (sym is) (why trunk.has (λ n. let u = free n in omega (arith, u)))

-- ---- the list

module _ (map : PageMap) (size page left next len : ℕ) (one : List ℕ) (is_one : IsTrunkOf map size page next len one) (small : size ≤ 2 ^ 16) (some : 0 < left) (fewer : len < left) where
  list_apart : (trunks : List Trunk) → IsFreelist map size page left trunks → IsBoth (IsTrunkOf map size page next len) (IsFreelist map size next (left - len - 1)) (λ leaves. page ∷ leaves) pages_of (pages_of trunks)
  list_apart [] is = absurd (let count = is.count_is in omega (arith, count, some))
  list_apart (trunk ∷ trunks) is =
      let here : IsTrunk map size (record { page = page; leaves = trunk.leaves }) (first_of trunks) =
      subst (λ (n : ℕ). IsTrunk map size (record { page = n; leaves = trunk.leaves }) (first_of trunks)) (sym is.first_is) is.trunks_are.0 in
      let a = header_is (page_at map page) (flat_map (to_be_bytes w32) trunk.leaves ++ here.rest) (length trunk.leaves) (first_of trunks) here.parts in
      let b = header_is (page_at map page) (flat_map (to_be_bytes w32) one ++ is_one.trunk.rest) (length one) next is_one.trunk.parts in
      let next_is : first_of trunks ≡ next = same_number (first_of trunks) next (take 4 (page_at map page)) here.near is_one.trunk.near (sym a.0) b.0 in
      let len_is : length trunk.leaves ≡ length one = same_number (length trunk.leaves) (length one) (take 4 (drop 4 (page_at map page))) (few_near size (length trunk.leaves) small here.few) (few_near size (length one) small is_one.trunk.few) (sym a.1) b.1 in
      let count = is.count_is in
      let sum = length-append trunk.leaves (pages_of trunks) in
      let many = is_one.many in
      record {
        one = trunk.leaves;
        other = trunks;
        is = record { trunk = subst (λ (n : ℕ). IsTrunk map size (record { page = page; leaves = trunk.leaves }) n) next_is here; many = len_is ∙ many };
        also = record { first_is = sym next_is; trunks_are = is.trunks_are.1; count_is = omega (arith, count, sum, len_is, many) };
        both = λ n. let e = ap (λ (q : ℕ). occurs n (alone q)) is.first_is in let f = both_appended (trunk.page ∷ trunk.leaves) (pages_of trunks) n in omega (arith, e, f);
      }

  list_together : (leaves : List ℕ) (trunks : List Trunk) → IsTrunkOf map size page next len leaves → IsFreelist map size next (left - len - 1) trunks
      → IsOf (IsFreelist map size page left) pages_of (page ∷ leaves) (pages_of trunks)
  list_together leaves trunks is rest =
      let count = rest.count_is in
      let sum = length-append leaves (pages_of trunks) in
      let many = is.many in
      record {
        it = record { page = page; leaves = leaves } ∷ trunks;
        is = record {
          first_is = refl;
          trunks_are = (subst (λ (n : ℕ). IsTrunk map size (record { page = page; leaves = leaves }) n) rest.first_is is.trunk, rest.trunks_are);
          count_is = omega (arith, count, sum, many, fewer);
        };
        both = both_appended (page ∷ leaves) (pages_of trunks);
      }

-- what the trunk pages after the first decide
pub trunk_then : (map : PageMap) (size page left : ℕ) (listed : Listed) (old mid : List Bool) → size ≤ 2 ^ 16 → 0 < left → ChecksTrunk map size page left old mid (Ok listed) → (new : List Bool) (result : Result ⊤ Fault)
    → Checks (IsFreelist map size listed.next (left - listed.len - 1)) pages_of mid new result → Checks (IsFreelist map size page left) pages_of old new result
trunk_then map size page left listed old mid small some first new result rest =
    then_checks (IsTrunkOf map size page listed.next listed.len) (IsFreelist map size listed.next (left - listed.len - 1)) (IsFreelist map size page left) (λ leaves. page ∷ leaves) pages_of pages_of
    (list_apart map size page left listed.next listed.len first.1.0.it first.1.0.is small some first.0) (list_together map size page left listed.next listed.len first.1.0.it first.1.0.is small some first.0) old mid new result first.1 rest

-- a trunk page is refused
pub trunk_stops : (map : PageMap) (size page left : ℕ) (old mid new : List Bool) (fault : Fault) (result : Result ⊤ Fault) → 0 < left → ChecksTrunk map size page left old mid (Err fault) → IsErrAnd result (λ e. e ≡ fault)
    → Checks (IsFreelist map size page left) pages_of old new result
trunk_stops map size page left old mid new fault result some check is =
    refused (IsFreelist map size page left) pages_of old new fault result is by
  where
    by : (trunks : List Trunk) → IsFreelist map size page left trunks → AreUnmarked old (pages_of trunks) → IsOutside fault
    by [] are free = absurd (let count = are.count_is in omega (arith, count, some))
    by (trunk ∷ trunks) are free =
        let count = are.count_is in
        let sum = length-append trunk.leaves (pages_of trunks) in
        check (first_of trunks) trunk.leaves (subst (λ (n : ℕ). IsTrunk map size (record { page = n; leaves = trunk.leaves }) (first_of trunks)) (sym are.first_is) are.trunks_are.0)
        (omega (arith, count, sum))
        (λ n. let e = ap (λ (q : ℕ). occurs n (alone q)) are.first_is in let f = both_appended (trunk.page ∷ trunk.leaves) (pages_of trunks) n in let u = free n in omega (arith, e, f, u))

none_listed : (map : PageMap) (size page left : ℕ) (trunks : List Trunk) → left ≡ 0 → IsFreelist map size page left trunks → (trunks ≡ []) × (page ≡ 0)
none_listed map size page left [] none are = (refl, are.first_is)
none_listed map size page left (trunk ∷ trunks) none are = absurd (let count = are.count_is in omega (arith, count, none))

-- the list ends
pub list_ends : (map : PageMap) (size page left : ℕ) (marks : List Bool) → left ≡ 0 → page ≡ 0 → Checks (IsFreelist map size page left) pages_of marks marks (Ok tt)
list_ends map size page left marks none last =
    nothing_left (IsFreelist map size page left) pages_of marks [] (record { first_is = last; trunks_are = tt; count_is = none })
    (λ trunks are n. ap (λ (t : List Trunk). occurs n (pages_of t)) (none_listed map size page left trunks none are).0)

pub list_goes_on : (map : PageMap) (size page left : ℕ) (old new : List Bool) (fault : Fault) → left ≡ 0 → (page ≡ 0 → ⊥) → Checks (IsFreelist map size page left) pages_of old new (Err fault)
list_goes_on map size page left old new fault none more trunks are free = absurd (more (none_listed map size page left trunks none are).1)

-- ---- the whole

pub list_found : (map : PageMap) (size first count : ℕ) (old new : List Bool) (result : Result ⊤ Fault) → Checks (IsFreelist map size first count) pages_of old new result → OnOk result (IsCheckedList map size first count old new)
list_found map size first count old new (Ok done) check = record { trunks = check.0.it; listed = check.0.is; marks = check.0.marks }
list_found map size first count old new (Err fault) check = tt

pub list_only : (map : PageMap) (size first count : ℕ) (old new : List Bool) (result : Result ⊤ Fault) → Checks (IsFreelist map size first count) pages_of old new result → IsUnmarkedList map size first count old → IfErr result IsOutside
list_only map size first count old new (Ok done) check is = tt
list_only map size first count old new (Err fault) check is = check is.trunks is.listed is.apart

pub list_same : (map : PageMap) (size first count : ℕ) (old new : List Bool) (result : Result ⊤ Fault) → Checks (IsFreelist map size first count) pages_of old new result → OnOk result (MarksList map size first count old new)
list_same map size first count old new (Ok done) check = check.1
list_same map size first count old new (Err fault) check = tt

-- ---- places of listed pages

pub listed_first : (map : PageMap) (bytes : List ℕ) (len : ℕ) (old new : List Bool) (result : Result ⊤ Fault) → Checks (AreListed map (drop (8 + 4 * 0) bytes) (len - 0)) these old new result
    → Checks (AreListed map (drop 8 bytes) len) these old new result
listed_first map bytes len old new result check = subst (λ (n : ℕ). Checks (AreListed map (drop 8 bytes) n) these old new result) (let e : len - 0 ≡ len = omega arith in e) check

pub listed_next : (map : PageMap) (bytes : List ℕ) (index len : ℕ) (old new : List Bool) (result : Result ⊤ Fault) → Checks (AreListed map (drop (8 + 4 * (index + 1)) bytes) (len - (index + 1))) these old new result
    → Checks (AreListed map (drop ((8 + 4 * index) + 4) bytes) ((len - index) - 1)) these old new result
listed_next map bytes index len old new result check =
    let at : 8 + 4 * (index + 1) ≡ (8 + 4 * index) + 4 = omega arith in
    let left : len - (index + 1) ≡ (len - index) - 1 = omega arith in
    subst (λ (n : ℕ). Checks (AreListed map (drop n bytes) ((len - index) - 1)) these old new result) at
    (subst (λ (n : ℕ). Checks (AreListed map (drop (8 + 4 * (index + 1)) bytes) n) these old new result) left check)

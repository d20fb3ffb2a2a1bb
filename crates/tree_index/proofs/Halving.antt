-- The first place whose entry isn't less than a key, by halving.
use Rattle.std.proofs.Common.{◌≡◌, subst, sym, ◌∙◌, ap, ℕ, ◌<◌, ◌≤◌, ◌+◌, Bool, true, false, IsTrue, List, [], length, Result, Ok, Err, arith}
use Rattle.std.specs.declared.cmp.Ordering.{Ordering}
use Rattle.std.specs.Prelude.{⊤}
use Rattle.sqlval.specs.declared.collation.Collation.{Collation}
use Rattle.sqlval.specs.declared.fault.Fault.{Fault}
use Rattle.sqlval.specs.declared.value.Value.{Value}
use Rattle.pages.specs.Calls.{Limits, Stays}
use Rattle.pages.specs.Map.{PageMap, AreWhole, page_at}
use Rattle.tree_overflow.proofs.ReadChains.{stays_after}
use Rattle.tree_page.specs.Node.{Node}
use Rattle.tree_page.specs.Payload.{index_most}
use Rattle.tree_index.specs.Comparing.{HasEntries, ComeFirst, ComparesEntry, CountsEntries, FindsPlace, is_before, front_count}
use Rattle.tree_index.specs.Entries.{is_passed}
use Rattle.tree_index.specs.Tree.{Held}
use Rattle.tree_index.proofs.Orders.{count_within, counted, uncounted}
use Rattle.tree_index.proofs.Readings.{since}

nothing : Held
nothing = record { entry = []; payload = []; pages = [] }

-- the place lies between these two
abbrev pub Bounds : PageMap → ℕ → ℕ → Bool → List Collation → List Value → ℕ → ℕ → Type 0
Bounds pages size number after columns key low high = (node : Node) (entries : List Held) → AreWhole size pages → HasEntries pages size number node entries → ComeFirst (is_before after columns key) entries
    → (low ≤ front_count (is_before after columns key) entries) × (front_count (is_before after columns key) entries ≤ high) × (high ≤ length entries)

-- ---- on one page

pub asked : (pages : PageMap) (size number place : ℕ) (columns : List Collation) (key : List Value) (result answer : Result Ordering Fault) → result ≡ answer → ComparesEntry pages size number place columns key result
    → ComparesEntry pages size number place columns key answer
asked pages size number place columns key result answer is asks = subst (λ (r : Result Ordering Fault). ComparesEntry pages size number place columns key r) is asks

module _ (pages : PageMap) (size number : ℕ) (after : Bool) (columns : List Collation) (key : List Value) where
  -- all its places
  pub all_places : (len : ℕ) → CountsEntries pages size number (Ok len) → Bounds pages size number after columns key 0 len
  all_places len counts = λ node entries whole has first.
      (let all = counts node entries whole has in let most = count_within (is_before after columns key) entries in (omega arith, omega (arith, all, most), omega (arith, all)))

  module _ (low high middle : ℕ) (bounds : Bounds pages size number after columns key low high) (to : middle < high) where
    pub unread_in : (fault : Fault) → ComparesEntry pages size number middle columns key (Err fault) → FindsPlace pages size number after columns key (Err fault)
    unread_in fault asks = λ node entries whole has first.
        (let b = bounds node entries whole has first in asks node entries nothing whole has (let c = b.2 in omega (arith, to, c)))

    module _ (order : Ordering) (asks : ComparesEntry pages size number middle columns key (Ok order)) where
      pub above_in : is_passed after order ≡ true → Bounds pages size number after columns key (middle + 1) high
      above_in gt = λ node entries whole has first.
          (let b = bounds node entries whole has first in
          let lt : middle < length entries = (let c = b.2 in omega (arith, to, c)) in
          let less = ap (is_passed after) (sym (asks node entries nothing whole has lt)) ∙ gt in
          (let c = counted (is_before after columns key) entries middle nothing first lt less in omega (arith, c), b.1, b.2))

      pub under_in : is_passed after order ≡ false → Bounds pages size number after columns key low middle
      under_in gt = λ node entries whole has first.
          (let b = bounds node entries whole has first in
          let lt : middle < length entries = (let c = b.2 in omega (arith, to, c)) in
          let less = ap (is_passed after) (sym (asks node entries nothing whole has lt)) ∙ gt in
          (b.0, uncounted (is_before after columns key) entries middle nothing lt less, omega (arith, lt)))

  pub placed_in : (low high : ℕ) → Bounds pages size number after columns key low high → high ≤ low → FindsPlace pages size number after columns key (Ok low)
  placed_in low high bounds le = λ node entries whole has first.
      (let b = bounds node entries whole has first in let low_is = b.0 in let high_is = b.1 in omega (arith, le, low_is, high_is))

-- the place lies between these two, on each page of these bytes
pub record IsHalvingIn (bytes : List ℕ) (number most : ℕ) (after : Bool) (columns : List Collation) (key : List Value) (low high : ℕ) : Type 0 where
  pub ordered : low ≤ high
  pub bounds : (pages : PageMap) (size : ℕ) → bytes ≡ page_at pages number → most ≡ index_most size → Bounds pages size number after columns key low high

-- ---- by calls one after the other

module _ {P K : Type 0} (below : P → K) (tells : K → Bool) (limits : K → Limits) (map : P → PageMap) (count : P → ℕ) (failures : P → ℕ × ℕ) where
  pub record IsHalving (old now : P) (number : ℕ) (after : Bool) (columns : List Collation) (key : List Value) (low high : ℕ) : Type 0 where
    pub stays : Stays below map count failures {T = ⊤} (Ok tt) old now
    pub ordered : low ≤ high
    pub bounds : IsTrue (tells (below old)) → Bounds (map old) (limits (below old)).page number after columns key low high

  pub begins : (old now : P) (number : ℕ) (after : Bool) (columns : List Collation) (key : List Value) (len : ℕ) → Stays below map count failures {T = ℕ} (Ok len) old now
      → (IsTrue (tells (below old)) → CountsEntries (map old) (limits (below old)).page number (Ok len)) → IsHalving old now number after columns key 0 len
  begins old now number after columns key len stays counts = record {
    stays = record { kept = stays.kept; same = stays.same; counted = stays.counted; causes = record { db = stays.causes.db; log = stays.causes.log; why = tt } };
    ordered = omega arith;
    bounds = λ told. all_places (map old) (limits (below old)).page number after columns key len (counts told);
  }

  module _ (old now new : P) (number : ℕ) (after : Bool) (columns : List Collation) (key : List Value) (low high middle : ℕ) (half : IsHalving old now number after columns key low high) (from : low ≤ middle) (to : middle < high) where
    compares : (result : Result Ordering Fault) → (IsTrue (tells (below now)) → ComparesEntry (map now) (limits (below now)).page number middle columns key result) → IsTrue (tells (below old))
        → ComparesEntry (map old) (limits (below old)).page number middle columns key result
    compares result asks told = since below tells limits map (λ (m : PageMap) (n : ℕ). ComparesEntry m n number middle columns key result) old now half.stays.kept half.stays.same asks told

    pub unread : (fault : Fault) → (IsTrue (tells (below now)) → ComparesEntry (map now) (limits (below now)).page number middle columns key (Err fault)) → IsTrue (tells (below old))
        → FindsPlace (map old) (limits (below old)).page number after columns key (Err fault)
    unread fault asks told = unread_in (map old) (limits (below old)).page number after columns key low high middle (half.bounds told) to fault (compares (Err fault) asks told)

    module _ (order : Ordering) (asks : IsTrue (tells (below now)) → ComparesEntry (map now) (limits (below now)).page number middle columns key (Ok order))
        (stays : Stays below map count failures {T = Ordering} (Ok order) now new) where
      stays_now : Stays below map count failures {T = ⊤} (Ok tt) old new
      stays_now = stays_after below map count failures (Ok tt) (Ok tt) old now new half.stays
          (record { kept = stays.kept; same = stays.same; counted = stays.counted; causes = record { db = stays.causes.db; log = stays.causes.log; why = tt } })

      pub above : is_passed after order ≡ true → IsHalving old new number after columns key (middle + 1) high
      above gt = record {
        stays = stays_now;
        ordered = omega (arith, to);
        bounds = λ told. above_in (map old) (limits (below old)).page number after columns key low high middle (half.bounds told) to order (compares (Ok order) asks told) gt;
      }

      pub under : is_passed after order ≡ false → IsHalving old new number after columns key low middle
      under gt = record {
        stays = stays_now;
        ordered = from;
        bounds = λ told. under_in (map old) (limits (below old)).page number after columns key low high middle (half.bounds told) to order (compares (Ok order) asks told) gt;
      }

  pub placed : (old now : P) (number : ℕ) (after : Bool) (columns : List Collation) (key : List Value) (low high : ℕ) → IsHalving old now number after columns key low high → high ≤ low → IsTrue (tells (below old))
      → FindsPlace (map old) (limits (below old)).page number after columns key (Ok low)
  placed old now number after columns key low high half le told = placed_in (map old) (limits (below old)).page number after columns key low high (half.bounds told) le

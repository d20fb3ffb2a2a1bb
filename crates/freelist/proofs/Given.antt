-- A page was given to the freelist.
use Rattle.std.proofs.Common.{◌≡◌, ℕ, ◌+◌, ◌/◌, ◌^◌, ◌<◌, ◌≤◌, List, [], ◌∷◌, ◌++◌, length, refl, sym, ap, subst, ◌∙◌, arith, length-append}
use Rattle.std.specs.Int.{w32, to_be_bytes}
use Rattle.std.specs.List.{AllByRecursion}
use Rattle.std.specs.Prelude.{⊤, Result, Ok, Err, MatchResult, Bool, IsTrue, IfErr, OnOk, IsErrAnd}
use Rattle.sqlval.specs.declared.fault.Fault.{Fault}
use Rattle.sqlval.specs.Faults.{IsOutside}
use Rattle.db_header.specs.Header.{IsHeader}
use Rattle.db_header.specs.declared.fields.Header.{Header}
use Rattle.pages.specs.Calls.{Limits}
use Rattle.pages.specs.Counting.{occurs}
use Rattle.pages.specs.Map.{PageMap, page_at, with_page, Has}
use Rattle.freelist.specs.Freelist.{Trunk, AreTrunks, IsFreelist, first_of, pages_of}
use Rattle.freelist.specs.Calls.{AreFree, IsGiven, Gives}
use Rattle.freelist.specs.PageBytes.{Reheads, IsTrunkPage, IsFront, LeadsTo, IsLeafPut, listing}
use Rattle.freelist.proofs.Pigeonholes.{AllFrom, all_both, few_between}
use Rattle.freelist.proofs.TrunkBytes.{all_more}
use Rattle.freelist.proofs.Lists.{IsRewritten, occurs_both, occurs_self, all_has, trunks_stay, pages_moved, header_kept, rewritten, as_written}
use Rattle.freelist.proofs.Taken.{Begins, begins, stands_alone, trunk_page, one_there, hundred}

-- The freelist that this header tells.
pub record Tells (map : PageMap) (size : ℕ) (free : List ℕ) (header : Header) : Type 0 where
  pub trunks : List Trunk
  pub listed : IsFreelist map size header.freelist_trunk header.freelist_count trunks
  pub free_is : (n : ℕ) → occurs n (pages_of trunks) ≡ occurs n free

pub tells_of : (map : PageMap) (size : ℕ) (free first : List ℕ) (header : Header) → IsFront map first header → AreFree map size free → Tells map size free header
tells_of map size free first header front are =
    let has = are.has in
    let same : header ≡ has.header = front.only has.header (subst (λ (l : List ℕ). IsHeader l has.header) (sym front.first_is) has.header_is) in
    record { trunks = has.trunks; listed = subst (λ (h : Header). IsFreelist map size h.freelist_trunk h.freelist_count has.trunks) (sym same) has.listed; free_is = has.free_is }

first_near : (map : PageMap) (size : ℕ) (ts : List Trunk) → AreTrunks map size ts → first_of ts < 2 ^ 32 → AllFrom 1 (2 ^ 32) (pages_of ts)
first_near map size [] are near = tt
first_near map size (t ∷ ts) are near = (
  (((are.0).has).first, near),
  all_both 1 (2 ^ 32) t.leaves (pages_of ts) (leaves_between t.leaves (are.0).leaves (are.0).leaves_near) (first_near map size ts are.1 (are.0).near),
) where
  leaves_between : (xs : List ℕ) → AllByRecursion (Has map) xs → AllByRecursion (λ leaf. leaf < 2 ^ 32) xs → AllFrom 1 (2 ^ 32) xs
  leaves_between [] has near = tt
  leaves_between (x ∷ xs) has near = (((has.0).first, near.0), leaves_between xs has.1 near.1)

-- there are fewer free pages than page numbers
pub few_free : (map : PageMap) (size : ℕ) (free first : List ℕ) (header : Header) → IsFront map first header → AreFree map size free → header.freelist_trunk < 2 ^ 32 → header.freelist_count + 2 ≤ 2 ^ 32
few_free map size free first header front are near =
    let told = tells_of map size free first header front are in
    let listed = told.listed in
    let pages = pages_of told.trunks in
    let between = first_near map size told.trunks listed.trunks_are (subst (λ (n : ℕ). n < 2 ^ 32) listed.first_is near) in
    let few = few_between (2 ^ 32) pages between (λ n. (let once = (are.once).once n in omega (arith, told.free_is n, once))) (omega (arith, told.free_is 1, are.behind)) (omega arith) in
    omega (arith, few, listed.count_is)

-- a page became the first trunk page
pub trunk_given : (old new : PageMap) (size : ℕ) (first now bytes : List ℕ) (header : Header) (page : ℕ) (free : List ℕ) → AreFree old size free → IsFront old first header → 1 < page → Has old page → occurs page free ≡ 0
    → (8 ≤ length first → IsTrunkPage bytes header.freelist_trunk []) → length bytes ≡ length first → Reheads first now (listing header page (header.freelist_count + 1)) → new ≡ with_page (with_page old page bytes) 1 now → IsGiven old new size free page
trunk_given old new size first now bytes header page free are front behind has_it other begins_so long heads is =
    let told = tells_of old size free first header front are in
    let listed = told.listed in
    let counts = listing header page (header.freelist_count + 1) in
    let one = one_there old size free are in
    let hundred_bytes = hundred old size free first header front are in
    let trunk_is = begins_so (omega (arith, hundred_bytes)) in
    let same_size : length bytes ≡ size = long ∙ ap length front.first_is ∙ one.whole in
    let hundred_size : 100 ≤ size = omega (arith, hundred_bytes, long, same_size) in
    let change : IsRewritten old new page counts
    = rewritten old new page bytes now counts behind has_it.last (same_size ∙ sym (are.whole page has_it)) (subst (λ (l : List ℕ). Reheads l now counts) front.first_is heads) is in
    let page_is : page_at new page ≡ bytes = as_written old new page bytes now behind has_it.last is in
    let none_one : occurs 1 (pages_of told.trunks) ≡ 0 = omega (arith, told.free_is 1, are.behind) in
    let none_it : occurs page (pages_of told.trunks) ≡ 0 = omega (arith, told.free_is page, other) in
    let it : Trunk = record { page = page; leaves = [] } in
    record {
      now_free = pages_of (it ∷ told.trunks);
      has = record {
        header = counts;
        header_is = (change.front).header_is;
        trunks = it ∷ told.trunks;
        listed = record {
          first_is = refl;
          trunks_are = (
            record {
              has = record { first = has_it.first; last = (let same = change.long in let last = has_it.last in omega (arith, same, last)) };
              near = subst (λ (n : ℕ). n < 2 ^ 32) listed.first_is trunk_is.near;
              rest = trunk_is.rest;
              parts = subst (λ (n : ℕ). page_at new page ≡ to_be_bytes w32 n ++ (to_be_bytes w32 0 ++ trunk_is.rest)) listed.first_is (page_is ∙ trunk_is.parts);
              few = omega (arith, hundred_size);
              leaves = tt;
              leaves_near = tt;
            },
            trunks_stay old new size page counts told.trunks change none_one none_it listed.trunks_are,
          );
          count_is = (let count = listed.count_is in omega (arith, count));
        };
        free_is = λ n. refl;
      };
      moves = pages_moved old new page counts (page ∷ []) free [] (pages_of (it ∷ told.trunks)) change (λ n. (let there = told.free_is n in omega (arith, there))) (let self = occurs_self page in omega (arith, self));
      header = header_kept old new header page (header.freelist_count + 1) (λ other_header said. front.only other_header (subst (λ (l : List ℕ). IsHeader l other_header) (sym front.first_is) said)) (change.front).header_is;
      same = change.long;
    }

-- a page was put behind those that the first trunk page lists
pub leaf_given : (old new : PageMap) (size : ℕ) (first now trunk bytes : List ℕ) (header : Header) (next len page : ℕ) (free : List ℕ) → AreFree old size free → IsFront old first header → 1 ≤ header.freelist_count → header.freelist_count < 2 ^ 32
    → trunk ≡ page_at old header.freelist_trunk → LeadsTo (page_at old header.freelist_trunk) next len → len + 8 < length trunk / 4 → page < 2 ^ 32 → IsLeafPut trunk bytes len page → length bytes ≡ length trunk
    → Has old page → Reheads first now (listing header header.freelist_trunk (header.freelist_count + 1)) → new ≡ with_page (with_page old header.freelist_trunk bytes) 1 now → IsGiven old new size free page
leaf_given old new size first now trunk bytes header next len page free are front some fits trunk_is leads room near put long has_page heads is = from_first (begins old size free first header front are some) where
  it : ℕ
  it = header.freelist_trunk

  from_first : Begins old size free header → IsGiven old new size free page
  from_first (leaves, ts, b) =
      let alone = stands_alone old size free header leaves ts are b in
      let was = trunk_page old size free header leaves ts are fits b in
      let told = leads (first_of ts) leaves was in
      let found = put (first_of ts) leaves (subst (λ (l : List ℕ). IsTrunkPage l (first_of ts) leaves) (sym trunk_is) was) (sym told.1) in
      let counts = listing header it (header.freelist_count + 1) in
      let has_it = (b.trunk).has in
      let page_is : page_at new it ≡ bytes = as_written old new it bytes now alone.behind has_it.last is in
      let change : IsRewritten old new it counts
      = rewritten old new it bytes now counts alone.behind has_it.last (long ∙ ap length trunk_is) (subst (λ (l : List ℕ). Reheads l now counts) front.first_is heads) is in
      let now_it : Trunk = record { page = it; leaves = leaves ++ page ∷ [] } in
      let one_more : length (leaves ++ page ∷ []) ≡ length leaves + 1 = length-append leaves (page ∷ []) in
      let size_is : length trunk ≡ size = ap length trunk_is ∙ are.whole it has_it in
      let there : (n : ℕ) → occurs n (pages_of (now_it ∷ ts)) ≡ occurs n (page ∷ []) + occurs n free
      = λ n. (let whole = b.free_is n in let both = occurs_both n leaves (page ∷ []) in let rest = occurs_both n (it ∷ (leaves ++ page ∷ [])) (pages_of ts) in omega (arith, whole, both, rest)) in
      record {
        now_free = pages_of (now_it ∷ ts);
        has = record {
          header = counts;
          header_is = (change.front).header_is;
          trunks = now_it ∷ ts;
          listed = record {
            first_is = refl;
            trunks_are = (
              record {
                has = record { first = has_it.first; last = (let same = change.long in let last = has_it.last in omega (arith, same, last)) };
                near = found.near;
                rest = found.rest;
                parts = page_is ∙ found.parts;
                few = (let few : len + 8 < size / 4 = subst (λ (n : ℕ). len + 8 < n / 4) size_is room in let counted = told.1 in omega (arith, few, one_more, counted));
                leaves = all_more (Has new) leaves page (all_has old new leaves change.long (b.trunk).leaves) (record { first = has_page.first; last = (let same = change.long in let last = has_page.last in omega (arith, same, last)) });
                leaves_near = found.leaves_near;
              },
              trunks_stay old new size it counts ts change alone.none_one alone.none_it b.others,
            );
            count_is = (let counted = b.count in let both = length-append (it ∷ (leaves ++ page ∷ [])) (pages_of ts) in omega (arith, counted, one_more, both));
          };
          free_is = λ n. refl;
        };
        moves = pages_moved old new it counts (page ∷ []) free [] (pages_of (now_it ∷ ts)) change (λ n. (let both = there n in omega (arith, both))) (let self = occurs_self it in let now_there = b.free_is it in omega (arith, self, now_there));
        header = header_kept old new header it (header.freelist_count + 1) (λ other said. front.only other (subst (λ (l : List ℕ). IsHeader l other) (sym front.first_is) said)) (change.front).header_is;
        same = change.long;
      }

-- a refusal that is passed on
pub passed_on : {T : Type 0} (I : T → Type 0) (result : Result T Fault) (fault : Fault) → IsErrAnd result (λ e. e ≡ fault) → IsOutside fault → MatchResult result I IsOutside
passed_on I (Ok n) fault is outside = absurd is
passed_on I (Err e) fault is outside = subst IsOutside (sym is) outside

-- what a last call did, or why it was refused
pub done_or : {T : Type 0} (Does I : Type 0) (result : Result T Fault) → OnOk result Does → (Does → I) → IfErr result IsOutside → MatchResult result (λ done. I) IsOutside
done_or Does I (Ok n) done so refusal = so done
done_or Does I (Err e) done so refusal = refusal

-- what a call after one that reads gives back, it gives back from before that one
pub given_since : {B : Type 0} (tells : B → Bool) (limits : B → Limits) (b mid_b : B) (m mid new : PageMap) (page : ℕ) (result : Result ⊤ Fault) → mid_b ≡ b → mid ≡ m
    → (IsTrue (tells mid_b) → Gives mid new (limits mid_b).page page result) → IsTrue (tells b) → Gives m new (limits b).page page result
given_since {B} tells limits b mid_b m mid new page result kept same given told =
    subst (λ (k : B). Gives m new (limits k).page page result) kept (subst (λ (k : PageMap). Gives k new (limits mid_b).page page result) same (given (subst (λ (k : B). IsTrue (tells k)) (sym kept) told)))

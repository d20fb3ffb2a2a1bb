-- A page of the freelist was taken.
use Rattle.std.proofs.Common.{◌≡◌, inl, inr, ℕ, ◌+◌, ◌-◌, ◌/◌, ◌^◌, ◌<◌, ◌≤◌, List, [], ◌∷◌, ◌++◌, length, drop, refl, sym, ap, subst, ◌∙◌, arith, length-append, replicate}
use Rattle.std.proofs.lemmas.Grind.{common_steps}
use Rattle.std.proofs.lemmas.Bool.{cases_lt}
use Rattle.std.proofs.lemmas.List.{get_or_past, set-get_or, length-replicate, get_or_append_left, get_or_at}
use Rattle.std.specs.List.{AllByRecursion}
use Rattle.std.specs.Prelude.{Result, Ok, Err, MatchResult, Option, Some, None, IsTrue, Bool, IfErr, IfOk, OnOk, IsErrAnd}
use Rattle.sqlval.specs.declared.fault.Fault.{Fault}
use Rattle.sqlval.specs.Faults.{IsOutside}
use Rattle.db_header.specs.Header.{IsHeader}
use Rattle.db_header.specs.declared.fields.Header.{Header}
use Rattle.pages.specs.Calls.{IsOutsideOrFull, Limits}
use Rattle.pages.specs.Counting.{occurs, fresh, start_of}
use Rattle.pages.specs.Map.{PageMap, page_at, with_page, Has, IsThere}
use Rattle.freelist.specs.Freelist.{Trunk, IsTrunk, AreTrunks, IsFreelist, first_of, pages_of}
use Rattle.freelist.specs.Calls.{AreFree, IsTaken, Takes}
use Rattle.freelist.specs.PageBytes.{Reheads, IsTrunkPage, IsFront, LeadsTo, IsLastTaken, listing}
use Rattle.freelist.proofs.TrunkBytes.{all_front, all_last}
use Rattle.freelist.proofs.Lists.{IsRewritten, occurs_here, occurs_both, occurs_self, all_has, trunks_stay, pages_moved, header_kept, rewritten, as_written}

-- The freelist by its first trunk, and the trunks after it.
pub record BeginsWith (map : PageMap) (size : ℕ) (free : List ℕ) (header : Header) (leaves : List ℕ) (ts : List Trunk) : Type 0 where
  pub header_is : IsHeader (page_at map 1) header
  pub trunk : IsTrunk map size (record { page = header.freelist_trunk; leaves = leaves }) (first_of ts)
  pub others : AreTrunks map size ts
  pub count : header.freelist_count ≡ 1 + length leaves + length (pages_of ts)
  pub free_is : (n : ℕ) → occurs n (header.freelist_trunk ∷ leaves) + occurs n (pages_of ts) ≡ occurs n free
  pub short : header.freelist_count < 2 ^ 32 → length leaves < 2 ^ 32

abbrev pub Begins : PageMap → ℕ → List ℕ → Header → Type 0
Begins map size free header = (leaves : List ℕ) × (ts : List Trunk) × BeginsWith map size free header leaves ts

none_counted : (n : ℕ) → n ≡ 0 → 1 ≤ n → ⊥
none_counted n is one = omega (arith, is, one)

begins_so : (map : PageMap) (size : ℕ) (free : List ℕ) (header : Header) (ts : List Trunk) → IsHeader (page_at map 1) header → IsFreelist map size header.freelist_trunk header.freelist_count ts → ((n : ℕ) → occurs n (pages_of ts) ≡ occurs n free)
    → 1 ≤ header.freelist_count → Begins map size free header
begins_so map size free header [] is listed free_is some = absurd (none_counted header.freelist_count listed.count_is some)
begins_so map size free header (t ∷ ts) is listed free_is some = (
  t.leaves,
  ts,
  record {
    header_is = is;
    trunk = subst (λ (p : ℕ). IsTrunk map size (record { page = p; leaves = t.leaves }) (first_of ts)) (sym listed.first_is) (listed.trunks_are).0;
    others = (listed.trunks_are).1;
    count = (let both = length-append (t.page ∷ t.leaves) (pages_of ts) in omega (arith, listed.count_is, both));
    free_is = λ n. (let both = occurs_both n (t.page ∷ t.leaves) (pages_of ts) in subst (λ (p : ℕ). occurs n (p ∷ t.leaves) + occurs n (pages_of ts) ≡ occurs n free) (sym listed.first_is) (sym both ∙ free_is n));
    short = λ few. (let both = length-append (t.page ∷ t.leaves) (pages_of ts) in omega (arith, listed.count_is, both, few));
  },
)

pub begins : (map : PageMap) (size : ℕ) (free : List ℕ) (first : List ℕ) (header : Header) → IsFront map first header → AreFree map size free → 1 ≤ header.freelist_count → Begins map size free header
begins map size free first header front are some =
    let same : header ≡ (are.has).header = front.only (are.has).header (subst (λ (l : List ℕ). IsHeader l (are.has).header) (sym front.first_is) (are.has).header_is) in
    begins_so map size free header (are.has).trunks
    (subst (λ (h : Header). IsHeader (page_at map 1) h) (sym same) (are.has).header_is)
    (subst (λ (h : Header). IsFreelist map size h.freelist_trunk h.freelist_count (are.has).trunks) (sym same) (are.has).listed) (are.has).free_is some

-- the first trunk page is after page 1, and stands nowhere else
pub record IsAlone (header : Header) (leaves : List ℕ) (ts : List Trunk) : Type 0 where
  pub behind : 1 < header.freelist_trunk
  pub none_one : occurs 1 (pages_of ts) ≡ 0
  pub none_it : occurs header.freelist_trunk (pages_of ts) ≡ 0

pub stands_alone : (map : PageMap) (size : ℕ) (free : List ℕ) (header : Header) (leaves : List ℕ) (ts : List Trunk) → AreFree map size free → BeginsWith map size free header leaves ts → IsAlone header leaves ts
stands_alone map size free header leaves ts are b = record {
  behind = elim (cases_lt 1 header.freelist_trunk) [
    | inl lt ↦ lt
    | inr ge ↦ (let one = ((b.trunk).has).first in absurd (occurs_here 1 header.freelist_trunk leaves (omega (arith, b.free_is 1, are.behind)) (omega (arith, one, ge))))
  ];
  none_one = omega (arith, b.free_is 1, are.behind);
  none_it = (let it = header.freelist_trunk in let here = occurs_self it in let both = occurs_both it (it ∷ []) leaves in let most = (are.once).once it in omega (arith, here, both, most, b.free_is it));
}

pub trunk_page : (map : PageMap) (size : ℕ) (free : List ℕ) (header : Header) (leaves : List ℕ) (ts : List Trunk) → AreFree map size free → header.freelist_count < 2 ^ 32 → BeginsWith map size free header leaves ts → IsTrunkPage (page_at map header.freelist_trunk) (first_of ts) leaves
trunk_page map size free header leaves ts are fits b =
    let whole : length (page_at map header.freelist_trunk) ≡ size = are.whole header.freelist_trunk (b.trunk).has in
    record { near = (b.trunk).near; rest = (b.trunk).rest; parts = (b.trunk).parts; few = subst (λ (n : ℕ). length leaves + 2 ≤ n / 4) (sym whole) (b.trunk).few; short = b.short fits; leaves_near = (b.trunk).leaves_near }

pub page_there : (map : PageMap) (size : ℕ) (free : List ℕ) (header : Header) (leaves : List ℕ) (ts : List Trunk) → AreFree map size free → BeginsWith map size free header leaves ts → IsThere map size header.freelist_trunk
page_there map size free header leaves ts are b = record { has = (b.trunk).has; whole = are.whole header.freelist_trunk (b.trunk).has }

pub one_there : (map : PageMap) (size : ℕ) (free : List ℕ) → AreFree map size free → IsThere map size 1
one_there map size free are = (let long = ((are.has).header_is).long in record { has = has_one long; whole = are.whole 1 (has_one long) }) where
  has_one : 100 ≤ length (page_at map 1) → Has map 1
  has_one long = elim (cases_lt 0 (length map)) [
    | inl lt ↦ record { first = omega arith; last = omega (arith, lt) }
    | inr ge ↦ absurd (let none : length (page_at map 1) ≡ 0 = ap length (get_or_past map 0 [] (omega (arith, ge))) in omega (arith, none, long))
  ]

pub hundred : (map : PageMap) (size : ℕ) (free : List ℕ) (first : List ℕ) (header : Header) → IsFront map first header → AreFree map size free → 100 ≤ length first
hundred map size free first header front are = (let long = ((are.has).header_is).long in let is = ap length front.first_is in omega (arith, long, is))

no_leaves : (xs : List ℕ) → length xs ≡ 0 → xs ≡ []
no_leaves [] none = refl
no_leaves (x ∷ xs) none = absurd (omega (arith, none))

-- the first trunk page, which lists none, was taken itself
pub trunk_taken : (old new : PageMap) (size : ℕ) (first now : List ℕ) (header : Header) (next : ℕ) (free : List ℕ) → AreFree old size free → IsFront old first header → 1 ≤ header.freelist_count → header.freelist_count < 2 ^ 32
    → LeadsTo (page_at old header.freelist_trunk) next 0 → Reheads first now (listing header next (header.freelist_count - 1)) → new ≡ with_page old 1 now → IsTaken old new size free header.freelist_trunk
trunk_taken old new size first now header next free are front some fits leads heads is = from_first (begins old size free first header front are some) where
  from_first : Begins old size free header → IsTaken old new size free header.freelist_trunk
  from_first (leaves, ts, b) =
      let alone = stands_alone old size free header leaves ts are b in
      let told = leads (first_of ts) leaves (trunk_page old size free header leaves ts are fits b) in
      let empty : leaves ≡ [] = no_leaves leaves told.1 in
      let counts = listing header next (header.freelist_count - 1) in
      let same : new ≡ with_page (with_page old header.freelist_trunk (page_at old header.freelist_trunk)) 1 now
      = is ∙ ap (λ (m : PageMap). with_page m 1 now) (sym (set-get_or old (header.freelist_trunk - 1) [])) in
      let change : IsRewritten old new header.freelist_trunk counts
      = rewritten old new header.freelist_trunk (page_at old header.freelist_trunk) now counts alone.behind ((b.trunk).has).last refl (subst (λ (l : List ℕ). Reheads l now counts) front.first_is heads) same in
      let there : (n : ℕ) → occurs n (header.freelist_trunk ∷ []) + occurs n (pages_of ts) ≡ occurs n free
      = λ n. subst (λ (l : List ℕ). occurs n (header.freelist_trunk ∷ l) + occurs n (pages_of ts) ≡ occurs n free) empty (b.free_is n) in
      record {
        now_free = pages_of ts;
        has = record {
          header = counts;
          header_is = (change.front).header_is;
          trunks = ts;
          listed = record { first_is = sym told.0; trunks_are = trunks_stay old new size header.freelist_trunk counts ts change alone.none_one alone.none_it b.others; count_is = omega (arith, b.count, told.1, some) };
          free_is = λ n. refl;
        };
        moves = pages_moved old new header.freelist_trunk counts [] free (header.freelist_trunk ∷ []) (pages_of ts) change (λ n. omega (arith, there n)) (let self = occurs_self header.freelist_trunk in omega (arith, self, there header.freelist_trunk));
        header = header_kept old new header next (header.freelist_count - 1) (λ other said. front.only other (subst (λ (l : List ℕ). IsHeader l other) (sym front.first_is) said)) (change.front).header_is;
        behind = alone.behind;
        rule = inl change.long;
      }

last_of : (xs : List ℕ) → 1 ≤ length xs → (ys : List ℕ) × (y : ℕ) × (xs ≡ ys ++ y ∷ [])
last_of [] some = absurd (omega (arith, some))
last_of (x ∷ []) some = ([], x, refl)
last_of (x ∷ y ∷ ys) some = (let rest = last_of (y ∷ ys) (omega arith) in (x ∷ rest.0, rest.1, ap (λ (l : List ℕ). x ∷ l) rest.2))

-- a page after page 1 that is there and that isn't page 1
not_first : (map : PageMap) (page : ℕ) → Has map page → occurs 1 (page ∷ []) ≡ 0 → 1 < page
not_first map page has none = elim (cases_lt 1 page) [
  | inl lt ↦ lt
  | inr ge ↦ (let one = has.first in absurd (occurs_here 1 page [] none (omega (arith, one, ge))))
]

-- the last page that the first trunk page lists was taken
pub leaf_taken : (old new : PageMap) (size : ℕ) (first now trunk page : List ℕ) (header : Header) (next len leaf : ℕ) (free : List ℕ) → AreFree old size free → IsFront old first header → 1 ≤ header.freelist_count → header.freelist_count < 2 ^ 32
    → trunk ≡ page_at old header.freelist_trunk → LeadsTo (page_at old header.freelist_trunk) next len → 1 ≤ len → IsLastTaken trunk page len (Some leaf) → length page ≡ length trunk
    → Reheads first now (listing header header.freelist_trunk (header.freelist_count - 1)) → new ≡ with_page (with_page old header.freelist_trunk page) 1 now → IsTaken old new size free leaf
leaf_taken old new size first now trunk page header next len leaf free are front some fits trunk_is leads one last long heads is = from_first (begins old size free first header front are some) where
  it : ℕ
  it = header.freelist_trunk

  same_leaf : (n : ℕ) → Some leaf ≡ Some n → n ≡ leaf
  same_leaf n e = cc

  from_last : (leaves : List ℕ) (ts : List Trunk) → BeginsWith old size free header leaves ts → (more : List ℕ) (last_leaf : ℕ) → leaves ≡ more ++ last_leaf ∷ [] → len ≡ length leaves → IsTaken old new size free leaf
  from_last leaves ts b more last_leaf split counted =
      let alone = stands_alone old size free header leaves ts are b in
      let told : IsTrunkPage trunk (first_of ts) (more ++ last_leaf ∷ []) = subst (λ (l : List ℕ). IsTrunkPage l (first_of ts) (more ++ last_leaf ∷ [])) (sym trunk_is) (subst (λ (l : List ℕ). IsTrunkPage (page_at old header.freelist_trunk) (first_of ts) l) split (trunk_page old size free header leaves ts are fits b)) in
      let more_one : length leaves ≡ length more + 1 = ap length split ∙ length-append more (last_leaf ∷ []) in
      let found = last (first_of ts) more last_leaf told (omega (arith, counted, more_one)) in
      let leaf_is = same_leaf last_leaf found.0 in
      let counts = listing header header.freelist_trunk (header.freelist_count - 1) in
      let has_it = (b.trunk).has in
      let page_is = as_written old new it page now alone.behind has_it.last is in
      let change : IsRewritten old new it counts
      = rewritten old new it page now counts alone.behind has_it.last (long ∙ ap length trunk_is) (subst (λ (l : List ℕ). Reheads l now counts) front.first_is heads) is in
      let left : Trunk = record { page = it; leaves = more } in
      let all : AllByRecursion (Has old) (more ++ last_leaf ∷ []) = subst (λ (l : List ℕ). AllByRecursion (Has old) l) split (b.trunk).leaves in
      let there : (n : ℕ) → occurs n (last_leaf ∷ []) + occurs n (pages_of (left ∷ ts)) ≡ occurs n free
      = λ n. (let whole : occurs n (it ∷ (more ++ last_leaf ∷ [])) + occurs n (pages_of ts) ≡ occurs n free = subst (λ (l : List ℕ). occurs n (it ∷ l) + occurs n (pages_of ts) ≡ occurs n free) split (b.free_is n) in
      let both = occurs_both n more (last_leaf ∷ []) in let rest = occurs_both n (it ∷ more) (pages_of ts) in omega (arith, whole, both, rest)) in
      subst (λ (p : ℕ). IsTaken old new size free p) leaf_is (record {
        now_free = pages_of (left ∷ ts);
        has = record {
          header = counts;
          header_is = (change.front).header_is;
          trunks = left ∷ ts;
          listed = record {
            first_is = refl;
            trunks_are = (
              record {
                has = record { first = has_it.first; last = (let same = change.long in let old_last = has_it.last in omega (arith, same, old_last)) };
                near = (found.1).near;
                rest = (found.1).rest;
                parts = page_is ∙ (found.1).parts;
                few = (let few = (b.trunk).few in omega (arith, few, more_one));
                leaves = all_has old new more change.long (all_front (Has old) more last_leaf all);
                leaves_near = (found.1).leaves_near;
              },
              trunks_stay old new size it counts ts change alone.none_one alone.none_it b.others,
            );
            count_is = (let counted_all = b.count in let both = length-append (it ∷ more) (pages_of ts) in omega (arith, counted_all, more_one, some, both));
          };
          free_is = λ n. refl;
        };
        moves = pages_moved old new it counts [] free (last_leaf ∷ []) (pages_of (left ∷ ts)) change (λ n. omega (arith, there n)) (let self = occurs_self it in let now_there = b.free_is it in omega (arith, self, now_there));
        header = header_kept old new header header.freelist_trunk (header.freelist_count - 1) (λ other said. front.only other (subst (λ (l : List ℕ). IsHeader l other) (sym front.first_is) said)) (change.front).header_is;
        behind = not_first old last_leaf (all_last (Has old) more last_leaf all) (let gone = there 1 in let none = are.behind in omega (arith, gone, none));
        rule = inl change.long;
      })

  from_first : Begins old size free header → IsTaken old new size free leaf
  from_first (leaves, ts, b) =
      (let told = leads (first_of ts) leaves (trunk_page old size free header leaves ts are fits b) in
      let split = last_of leaves (omega (arith, told.1, one)) in
      from_last leaves ts b split.0 split.1 split.2 (sym told.1))

nothing : (xs : List ℕ) → ((n : ℕ) → occurs n xs ≡ 0) → xs ≡ []
nothing [] none = refl
nothing (x ∷ xs) none = absurd (occurs_here x x xs (none x) refl)

one_fresh : (m n : ℕ) → occurs n ((m + 1) ∷ []) ≡ fresh m (m + 1) n
one_fresh m n = grind (arith, common_steps)

no_trunks : (map : PageMap) (size first count : ℕ) (ts : List Trunk) → IsFreelist map size first count ts → count ≡ 0 → ts ≡ []
no_trunks map size first count [] listed none = refl
no_trunks map size first count (t ∷ ts) listed none = absurd (let is = listed.count_is in omega (arith, is, none))

-- the freelist was empty, and there is one page more
pub grown : (old new : PageMap) (size : ℕ) (first : List ℕ) (header : Header) (page : ℕ) (free : List ℕ) → AreFree old size free → IsFront old first header → header.freelist_count ≡ 0 → page ≡ length old + 1
    → new ≡ old ++ (replicate size 0 ∷ []) → IsTaken old new size free page
grown old new size first header page free are front none page_is is =
    let has = are.has in
    let said = has.header_is in
    let same : header ≡ has.header = front.only has.header (subst (λ (l : List ℕ). IsHeader l has.header) (sym front.first_is) said) in
    let count : (has.header).freelist_count ≡ 0 = ap (λ (h : Header). h.freelist_count) (sym same) ∙ none in
    let empty : has.trunks ≡ [] = no_trunks old size (has.header).freelist_trunk (has.header).freelist_count has.trunks has.listed count in
    let free_none : free ≡ [] = nothing free (λ n. sym (has.free_is n) ∙ ap (λ (ts : List Trunk). occurs n (pages_of ts)) empty) in
    let there = one_there old size free are in
    let long : length new ≡ length old + 1 = ap length is ∙ length-append old (replicate size 0 ∷ []) in
    let stays : (n : ℕ) → 1 ≤ n → n ≤ length old → page_at new n ≡ page_at old n
    = λ n from to. ap (λ (m : PageMap). page_at m n) is ∙ get_or_append_left old (replicate size 0 ∷ []) [] (n - 1) (omega (arith, from, to)) in
    let first_stays = stays 1 (omega arith) (there.has).last in
    let some = (there.has).last in
    record {
      now_free = [];
      has = record {
        header = has.header;
        header_is = subst (λ (l : List ℕ). IsHeader l has.header) (sym first_stays) said;
        trunks = [];
        listed = record { first_is = (has.listed).first_is ∙ ap first_of empty; trunks_are = tt; count_is = count };
        free_is = λ n. refl;
      };
      moves = record {
        longer = omega (arith, long);
        counts = λ n. subst (λ (l : List ℕ). occurs n (page ∷ []) + 0 ≡ 0 + occurs n l + fresh (length old) (length new) n) (sym free_none)
            (subst (λ (k : ℕ). occurs n (page ∷ []) + 0 ≡ 0 + 0 + fresh (length old) k n) (sym long) (subst (λ (p : ℕ). occurs n (p ∷ []) + 0 ≡ 0 + 0 + fresh (length old) (length old + 1) n) (sym page_is) (let now = one_fresh (length old) n in omega (arith, now))));
        keeps = λ n from to _. ap (λ (l : List ℕ). drop (start_of n) l) (stays n from to);
        whole = λ s whole n has_n. elim (cases_lt (length old) n) [
          | inl lt ↦ (let last = has_n.last in let at : n ≡ length old + 1 = omega (arith, lt, long, last) in
              let is_page : page_at new n ≡ replicate size 0 = ap (λ (k : ℕ). page_at new k) at ∙ ap (λ (m : PageMap). page_at m (length old + 1)) is ∙ get_or_at old (replicate size 0) [] [] (length old + 1 - 1) (omega arith) in
              ap length is_page ∙ length-replicate size 0 ∙ sym there.whole ∙ whole 1 there.has)
          | inr ge ↦ ap length (stays n has_n.first ge) ∙ whole n (record { first = has_n.first; last = ge })
        ];
      };
      header = λ other is_header. (other.freelist_trunk, other.freelist_count, subst (λ (l : List ℕ). IsHeader l other) (sym first_stays) is_header);
      behind = omega (arith, page_is, some);
      rule = inr (free_none, refl);
    }

-- a refusal that is passed on
pub refused : (I : ℕ → Type 0) (result : Result ℕ Fault) (fault : Fault) → IsErrAnd result (λ e. e ≡ fault) → IsOutside fault → MatchResult result I IsOutsideOrFull
refused I (Ok n) fault is outside = absurd is
refused I (Err e) fault is outside = inl (subst IsOutside (sym is) outside)

-- what a call after one that reads does, it does from before that one
pub since : {B : Type 0} (tells : B → Bool) (limits : B → Limits) (b mid_b : B) (m mid new : PageMap) (result : Result ℕ Fault) → mid_b ≡ b → mid ≡ m → (IsTrue (tells mid_b) → Takes mid new (limits mid_b).page result) → IsTrue (tells b) → Takes m new (limits b).page result
since {B} tells limits b mid_b m mid new result kept same taken told =
    subst (λ (k : B). Takes m new (limits k).page result) kept (subst (λ (k : PageMap). Takes k new (limits mid_b).page result) same (taken (subst (λ (k : B). IsTrue (tells k)) (sym kept) told)))

pub front_since : (m mid : PageMap) (first : List ℕ) (header : Header) → mid ≡ m → IsFront m first header → IsFront mid first header
front_since m mid first header same front = subst (λ (k : PageMap). IsFront k first header) (sym same) front

same_header : (a b : Header) → Some a ≡ Some b → a ≡ b
same_header a b e = cc

pub front_of : (map : PageMap) (items seen first : List ℕ) (header : Header) → items ≡ page_at map 1 → seen ≡ items → first ≡ items → ((other : Header) → IsHeader seen other → Some header ≡ Some other) → IsFront map first header
front_of map items seen first header is seen_is first_is only = record { first_is = first_is ∙ is; only = λ other said. same_header header other (only other (subst (λ (l : List ℕ). IsHeader l other) (first_is ∙ sym seen_is) said)) }

pub grown_or : (old new : PageMap) (size : ℕ) (first : List ℕ) (header : Header) (free : List ℕ) → AreFree old size free → IsFront old first header → header.freelist_count ≡ 0 → (result : Result ℕ Fault)
    → IfOk result (λ n. n ≡ length old + 1) → OnOk result (new ≡ old ++ (replicate size 0 ∷ [])) → IfErr result IsOutsideOrFull → MatchResult result (IsTaken old new size free) IsOutsideOrFull
grown_or old new size first header free are front none (Ok n) number done refusal = grown old new size first header n free are front none number done
grown_or old new size first header free are front none (Err e) number done refusal = refusal

same_pair : (a b c d : ℕ) → ◌≡◌ {A = Option (ℕ × ℕ)} (Some (a, b)) (Some (c, d)) → (c ≡ a) × (d ≡ b)
same_pair a b c d e = (ap (first_in c) (sym e), ap (second_in d) (sym e)) where
  first_in : ℕ → Option (ℕ × ℕ) → ℕ
  first_in k (Some p) = p.0
  first_in k None = k

  second_in : ℕ → Option (ℕ × ℕ) → ℕ
  second_in k (Some p) = p.1
  second_in k None = k

pub leads_to : (bytes seen : List ℕ) (next len : ℕ) → seen ≡ bytes → ((n : ℕ) (leaves : List ℕ) → IsTrunkPage seen n leaves → ◌≡◌ {A = Option (ℕ × ℕ)} (Some (next, len)) (Some (n, length leaves))) → LeadsTo bytes next len
leads_to bytes seen next len is only n leaves trunk = same_pair next len n (length leaves) (only n leaves (subst (λ (l : List ℕ). IsTrunkPage l n leaves) (sym is) trunk))

-- where the first trunk page is read, it is found to be one
pub told_trunk : (map : PageMap) (size : ℕ) (free first seen : List ℕ) (header : Header) (result : Option (ℕ × ℕ)) → AreFree map size free → IsFront map first header → 1 ≤ header.freelist_count → header.freelist_count < 2 ^ 32
    → seen ≡ page_at map header.freelist_trunk → ((n : ℕ) (leaves : List ℕ) → IsTrunkPage seen n leaves → result ≡ Some (n, length leaves)) → (found : ℕ × ℕ) × (result ≡ Some found)
told_trunk map size free first seen header result are front some fits is only =
    let b = begins map size free first header front are some in
    ((first_of b.1, length b.0), only (first_of b.1) b.0 (subst (λ (l : List ℕ). IsTrunkPage l (first_of b.1) b.0) (sym is) (trunk_page map size free header b.0 b.1 are fits b.2)))

-- where the first trunk page lists pages, the last of them is found
pub told_leaf : (map : PageMap) (size : ℕ) (free first trunk page : List ℕ) (header : Header) (next len : ℕ) (result : Option ℕ) → AreFree map size free → IsFront map first header → 1 ≤ header.freelist_count → header.freelist_count < 2 ^ 32
    → trunk ≡ page_at map header.freelist_trunk → LeadsTo (page_at map header.freelist_trunk) next len → 1 ≤ len → IsLastTaken trunk page len result → (leaf : ℕ) × (result ≡ Some leaf)
told_leaf map size free first trunk page header next len result are front some fits is leads one last =
    let b = begins map size free first header front are some in
    let trunk_is = trunk_page map size free header b.0 b.1 are fits b.2 in
    let told = leads (first_of b.1) b.0 trunk_is in
    let split = last_of b.0 (omega (arith, told.1, one)) in
    let long : length b.0 ≡ length split.0 + 1 = ap length split.2 ∙ length-append split.0 (split.1 ∷ []) in
    (split.1, (last (first_of b.1) split.0 split.1 (subst (λ (l : List ℕ). IsTrunkPage l (first_of b.1) (split.0 ++ split.1 ∷ [])) (sym is) (subst (λ (l : List ℕ). IsTrunkPage (page_at map header.freelist_trunk) (first_of b.1) l) split.2 trunk_is)) (omega (arith, told.1, long))).0)

-- The way to an entry, and what becomes of the pages on it.
use Rattle.std.proofs.Common.{◌≡◌, ◌≤◌, ◌<◌, ℕ, zero, suc, Bool, true, false, nat_eq, List, [], ◌∷◌, length, map, ◌++◌, take, None, Some, refl, sym, ap, subst, ◌∙◌, ◌⊎◌, inl, inr, arith}
use Rattle.std.proofs.lemmas.Grind.{common_steps}
use Rattle.std.specs.Global.{Vec}
use Rattle.std.specs.Prelude.{Result, Ok, Err, MatchResult}
use Rattle.sqlval.specs.Faults.{IsOutside}
use Rattle.sqlval.specs.declared.collation.Collation.{Collation}
use Rattle.sqlval.specs.declared.fault.Fault.{Fault}
use Rattle.sqlval.specs.declared.fault.Fault.TheVariants.{Memory, Full}
use Rattle.record.specs.Record.{IsRecord}
use Rattle.pages.specs.Calls.{IsOutsideOrFull}
use Rattle.pages.specs.Map.{PageMap, page_at, IsThere}
use Rattle.tree_page.specs.Node.{Local, Node, Between, IsNode, IsBetweenCell}
use Rattle.std.specs.List.{AllByRecursion}
use Rattle.tree_index.specs.Freeing.{below_of}
use Rattle.tree_pack.specs.declared.spreading.Packed.{Packed}
use Rattle.tree_page.specs.Cells.{Pairwise}
use Rattle.tree_store.specs.Saying.{Says}
use Rattle.tree_store.specs.Sides.{children}
use Rattle.tree_store.specs.Storing.{IsStored, Stores, cells_of}
use Rattle.tree_store.specs.declared.storing.Fan.{Fan}
use Rattle.tree_index.specs.Comparing.{ComeFirst, front_count, is_less, child_at}
use Rattle.sqlval.specs.declared.value.Value.{Value}
use Rattle.tree_index.specs.Entries.{Entry, AreEntries, AreLong, LeadsTo, has_entry, put_before, with_entries}
use Rattle.tree_index.specs.Growing.{AreAlsoPut, PutsOnLeaf, ComeWithin, IsEqualAt, IsLeafChanged, IsStep, StepsFrom, IsUnder, IsChanged, Changes, IsDeep, IsPlanned, IsWayTo, Widens, Fans, entries_put}
use Rattle.tree_index.specs.Tree.{Held, IsKidAs, Tree, top, entries_of, pages_of}
use Rattle.tree_index.specs.declared.growing.Change.{Change}
use Rattle.tree_index.specs.declared.growing.Change.TheVariants.{There, Same, Spread}
use Rattle.tree_index.specs.declared.placing.Step.{Step}
use Rattle.tree_index.specs.declared.placing.Step.TheVariants.{Found, Here, Down}
use Rattle.tree_index.proofs.Branches.{about, kid, left, right, under_child, has_same, put_above, put_parts, grown_alone, page_at_mid, long_mid, plan_above}
use Rattle.tree_index.proofs.Clearing.{number_far}
use Rattle.tree_index.proofs.Emptied.{large_size}
use Rattle.tree_index.proofs.Growth.{IsGrown, grown, planned_after, can_store}
use Rattle.tree_index.proofs.Inserts.{leaf_there, leaf_absent, put_at, between_there, still_rise, with_within}
use Rattle.tree_index.proofs.Going.{first_long}
use Rattle.tree_index.proofs.Within.{come_in_all}
use Rattle.tree_index.proofs.Leaves.{usual}
use Rattle.tree_index.proofs.Orders.{greater, greater_first, not_less_first, count_within}
use Rattle.tree_index.proofs.Rows.{child_there, keys_first}
use Rattle.tree_index.proofs.Shares.{start_after}
use Rattle.tree_index.proofs.Subtrees.{entries_at, entries_between, told}

deeper : (ways depth : ℕ) (deep : Bool) → IsDeep ways depth deep → IsDeep (suc ways) (suc depth) deep
deeper ways depth deep is = record { full = λ e. (let le = is.full e in omega (arith, le)); short = λ e. (let lt = is.short e in omega (arith, lt)) }

pub full_or : {A : Type 0} (fault : Fault) → IsOutside fault ⊎ ((fault ≡ Full) × A) → IsOutsideOrFull fault
full_or fault (inl outside) = inl outside
full_or fault (inr full) = inr full.0

-- ---- a child that changed

module _ (old : PageMap) (size number ways : ℕ) (columns : List Collation) (x : List Value) (y : Entry) (payload : List ℕ) (rest : List Entry) (depth : ℕ) (t : Tree (suc depth)) (free : List ℕ)
    (under : IsUnder old size number (suc ways) columns (suc depth) t free) (leads : LeadsTo columns x y) (record_is : IsRecord payload y) (long_all : AreLong columns (y ∷ rest)) (place child : ℕ) (way : IsWayTo columns x depth t place child) where
  other : IsEqualAt columns x (entries_between t.kids) (front_count (is_less columns x) (entries_between t.kids)) → ⊥
  other equal = way.other (subst (λ (n : ℕ). IsEqualAt columns x (entries_between t.kids) n) (sym way.place_is) equal)

  abbrev at_kid : Tree depth
  at_kid = kid old size number ways columns x depth t free under other

  child_same : child ≡ top depth at_kid
  child_same = way.child_is ∙ ap (λ (n : ℕ). child_at n (children (top depth) t.kids) (top depth t.last)) way.place_is
      ∙ child_there (top depth) (front_count (is_less columns x) (entries_between t.kids)) t.kids t.last

  under_now : IsUnder old size (top depth at_kid) ways columns depth at_kid free
  under_now = under_child old size number ways columns x depth t free under other

  child_changed : (mid : PageMap) (change : Change) → Changes old mid size child ways columns x payload rest (Ok change) → IsChanged old mid size (top depth at_kid) ways columns x y rest depth at_kid free change
  child_changed mid change changes = subst (λ (n : ℕ). Changes old mid size n ways columns x payload rest (Ok change)) child_same changes y depth at_kid free under_now leads record_is long_all

  pub child_refused : (mid : PageMap) (fault : Fault) → Changes old mid size child ways columns x payload rest (Err fault) → IsOutsideOrFull fault
  child_refused mid fault changes = subst (λ (n : ℕ). Changes old mid size n ways columns x payload rest (Err fault)) child_same changes y depth at_kid free under_now leads record_is long_all

  same : has_entry columns x (entries_of (suc depth) t) ≡ has_entry columns x (entries_of depth at_kid)
  same = has_same old size number ways columns x depth t free under other

  -- where the entry is there, or the child stays, the page stays
  pub above_there : (mid : PageMap) → Changes old mid size child ways columns x payload rest (Ok There) → IsChanged old mid size number (suc ways) columns x y rest (suc depth) t free There
  above_there mid changes = (let is = child_changed mid There changes in (same ∙ is.0, is.1))

  abbrev left_of : List Entry
  left_of = left old size number ways columns x depth t free under other

  abbrev right_of : List Entry
  right_of = right old size number ways columns x depth t free under other

  -- the entries of the page with this one and some of the rest are those of the child so, between the others
  with_all : (more : ℕ) → has_entry columns x (entries_of depth at_kid) ≡ false → ComeWithin columns (take more rest) (put_before columns x y (entries_of depth at_kid))
      → ComeWithin columns (take more rest) (put_before columns x y (entries_of (suc depth) t))
      × (with_entries columns (take more rest) (put_before columns x y (entries_of (suc depth) t))
      ≡ left_of ++ (with_entries columns (take more rest) (put_before columns x y (entries_of depth at_kid)) ++ right_of))
  with_all more absent come =
      let all = entries_of (suc depth) t in
      let led = leads all (same ∙ absent) in
      let parts = about old size number ways columns x depth t free under other (put_before columns x y) (with_within columns x y) in
      let rise = subst (λ (es : List Entry). AreEntries columns es) (sym led.1 ∙ parts) (still_rise columns y all under.sorted led.0 long_all.0) in
      let it = come_in_all columns (take more rest) (first_long columns more rest long_all.1) left_of (put_before columns x y (entries_of depth at_kid)) right_of rise come in
      (subst (λ (es : List Entry). ComeWithin columns (take more rest) es) (sym parts) it.0, ap (with_entries columns (take more rest)) parts ∙ it.1)

  pub above_same : (mid : PageMap) (more : ℕ) → Changes old mid size child ways columns x payload rest (Ok (Same more)) → IsChanged old mid size number (suc ways) columns x y rest (suc depth) t free (Same more)
  above_same mid more changes =
      let is = child_changed mid (Same more) changes in
      let all = with_all more is.0 is.1.1 in (
        same ∙ is.0,
        (is.1.0, all.0, put_parts old size number ways columns x depth t free under other (λ es. with_entries columns (take more rest) (put_before columns x y es)) all.1 mid is.1.2),
      )

  module _ (mid : PageMap) (packed : Packed) (deep : Bool) (changes : Changes old mid size child ways columns x payload rest (Ok (Spread packed deep))) where
    spread : IsChanged old mid size (top depth at_kid) ways columns x y rest depth at_kid free (Spread packed deep)
    spread = child_changed mid (Spread packed deep) changes

    abbrev all : List Entry
    all = put_before columns x y (entries_of depth at_kid)

    absent : has_entry columns x (entries_of (suc depth) t) ≡ false
    absent = same ∙ spread.0

    -- the packed pages are stored
    store_or : (new : PageMap) (result : Result Fan Fault) → Stores mid new size (child ∷ []) packed result
        → MatchResult result (IsStored mid new size (top depth at_kid ∷ []) (spread.2).now_free packed) IsOutsideOrFull
    store_or new result stores = by result (subst (λ (n : ℕ). Stores mid new size (n ∷ []) packed result) child_same stores)
      where
        by : (result : Result Fan Fault) → Stores mid new size (top depth at_kid ∷ []) packed result → MatchResult result (IsStored mid new size (top depth at_kid ∷ []) (spread.2).now_free packed) IsOutsideOrFull
        by (Ok fan) stores =
            stores (spread.2).now_free (planned_after old mid size (top depth at_kid) ways depth at_kid free under_now.stands all packed spread.2).are
            (can_store old mid size (top depth at_kid) ways depth at_kid free under_now.stands all packed spread.2) (spread.2).sized
        by (Err fault) stores = full_or fault (
            stores (spread.2).now_free (planned_after old mid size (top depth at_kid) ways depth at_kid free under_now.stands all packed spread.2).are
            (can_store old mid size (top depth at_kid) ways depth at_kid free under_now.stands all packed spread.2) (spread.2).sized)

    pub store_refused : (new : PageMap) (fault : Fault) → Stores mid new size (child ∷ []) packed (Err fault) → IsOutsideOrFull fault
    store_refused new fault stores = store_or new (Err fault) stores

    module _ (new : PageMap) (fan : Fan) (stores : Stores mid new size (child ∷ []) packed (Ok fan)) where
      g : IsGrown old new size (top depth at_kid) depth all (pages_of depth at_kid) free fan
      g = grown old mid size (top depth at_kid) ways depth at_kid free under_now.stands all packed spread.2 new fan (store_or new (Ok fan) stores)

      -- one page took the child's place
      pub widened_same : cells_of fan ≡ [] → IsChanged old new size number (suc ways) columns x y rest (suc depth) t free (Same 0)
      widened_same none = (absent, (omega arith, tt, put_above old size number ways columns x depth t free under other (put_before columns x y) (with_within columns x y) new (grown_alone old size number ways columns x depth t free under other (put_before columns x y) new fan g none)))

      page_says : Says new number (Between (under.stands.lies.0).said (top depth t.last))
      page_says = page_at_mid old size number ways columns x depth t free under other (put_before columns x y) new fan g

      long : length (page_at new number) ≡ size
      long = long_mid old size number ways columns x depth t free under other (put_before columns x y) new fan g

      pub page_there : IsThere new size number
      page_there = record { has = page_says.has; whole = long }

      node : IsNode (page_at new number) 0 (Between (under.stands.lies.0).said (top depth t.last))
      node = subst (λ (n : ℕ). IsNode (page_at new number) n (Between (under.stands.lies.0).said (top depth t.last))) (start_after number (number_far old size number (suc ways) (suc depth) t free under.stands)) page_says.node_is

      within : front_count (is_less columns x) (entries_between t.kids) ≤ length (under.stands.lies.0).said
      within =
          let le = count_within (is_less columns x) (entries_between t.kids) in
          let pairs = counted (under.stands.lies.0).said t.kids (under.stands.lies.0).children in
          omega (arith, le, pairs)
        where
          counted : (said : List (ℕ × Local)) (kids : List (Tree depth × Held)) → Pairwise (IsKidAs old size) said (children (top depth) kids) → length said ≡ length (entries_between kids)
          counted [] [] pair = refl
          counted [] (kid ∷ kids) pair = absurd pair
          counted (it ∷ said) [] pair = absurd pair
          counted (it ∷ said) (kid ∷ kids) pair = ap suc (counted said kids pair.1)

      -- several did
      pub widened_spread : (page : List ℕ) (result : Result Packed Fault) → page ≡ page_at new number → Fans page place fan result
          → MatchResult result (λ p. IsChanged old new size number (suc ways) columns x y rest (suc depth) t free (Spread p deep)) (λ fault. fault ≡ Memory)
      widened_spread page result page_is fans = by result
          (subst (λ (n : ℕ). Fans (page_at new number) n fan result) way.place_is (subst (λ (p : List ℕ). Fans p place fan result) page_is fans))
        where
          cells : Pairwise (IsBetweenCell (length (page_at new number))) (cells_of fan) g.news
          cells = subst (λ (n : ℕ). Pairwise (IsBetweenCell n) (cells_of fan) g.news) (sym long) g.cells

          by : (result : Result Packed Fault) → Fans (page_at new number) (front_count (is_less columns x) (entries_between t.kids)) fan result
              → MatchResult result (λ p. IsChanged old new size number (suc ways) columns x y rest (suc depth) t free (Spread p deep)) (λ fault. fault ≡ Memory)
          by (Ok p) fans = (
            absent,
            deeper ways depth deep spread.1,
            plan_above old size number ways columns x depth t free under other (put_before columns x y) new fan g (with_within columns x y) p
                (fans (under.stands.lies.0).said g.news (top depth t.last) node (usual (page_at new number) size (large_size size under.sized) long) within g.near cells g.few),
          )
          by (Err fault) fans = fans (under.stands.lies.0).said g.news (top depth t.last) node (usual (page_at new number) size (large_size size under.sized) long) within g.near cells g.few

-- ---- where the way goes on

pub mapped_first : (columns : List Collation) (x : Entry) (held : List Held) → ComeFirst (greater columns x) (map (λ h. h.entry) held) → ComeFirst (is_less columns x) held
mapped_first columns x [] first = tt
mapped_first columns x (h ∷ held) first = (λ e. part held (first.0 e), mapped_first columns x held first.1) where
  part : (held : List Held) → AllByRecursion (λ e. greater columns x e ≡ false) (map (λ h. h.entry) held) → AllByRecursion (λ h. is_less columns x h ≡ false) held
  part [] all = tt
  part (h ∷ held) all = (all.0, part held all.1)

is_zero : (n : ℕ) → nat_eq n 0 ≡ true → n ≤ 0
is_zero n e = grind (arith, common_steps)

is_more : (n : ℕ) → nat_eq n 0 ≡ false → 0 < n
is_more n e = grind (arith, common_steps)

deep_leaf : (ways : ℕ) → IsDeep ways zero (nat_eq ways 0)
deep_leaf ways = record { full = λ e. is_zero ways e; short = λ e. is_more ways e }

pub none_some : (a : ℕ) → None ≡ Some a → ⊥
none_some a e = cc

pub some_none : (a : ℕ) → Some a ≡ None → ⊥
some_none a e = cc

pub some_is : (a b : ℕ) → Some a ≡ Some b → a ≡ b
some_is a b e = cc

module _ (old : PageMap) (size number ways : ℕ) (columns : List Collation) (x : List Value) where
  abbrev top_node : (depth : ℕ) (t : Tree depth) (free : List ℕ) → IsUnder old size number ways columns depth t free → Node
  top_node depth t free under = (told old size number depth t under.stands.top_is under.stands.lies).node

  first : (depth : ℕ) (t : Tree depth) (free : List ℕ) → IsUnder old size number ways columns depth t free → ComeFirst (is_less columns x) (entries_at depth t)
  first zero t free under = mapped_first columns x t.entries (greater_first columns x (entries_of zero t) under.sorted)
  first (suc depth) t free under = keys_first (entries_of depth) columns x (greater columns x) t.kids t.last (greater_first columns x (entries_of (suc depth) t) under.sorted)

  pub stepped : (depth : ℕ) (t : Tree depth) (free : List ℕ) (under : IsUnder old size number ways columns depth t free) (result : Result Step Fault) → StepsFrom old size number columns x result
      → MatchResult result (IsStep columns x (top_node depth t free under) (entries_at depth t)) IsOutside
  stepped depth t free under result steps =
      let its = told old size number depth t under.stands.top_is under.stands.lies in
      steps its.node (entries_at depth t) (under.stands.free_are).whole its.has (first depth t free under)

  pub step_refused : (depth : ℕ) (t : Tree depth) (free : List ℕ) → IsUnder old size number ways columns depth t free → (fault : Fault) → StepsFrom old size number columns x (Err fault) → IsOutsideOrFull fault
  step_refused depth t free under fault steps = inl (stepped depth t free under (Err fault) steps)

  pub step_found : (place depth : ℕ) (t : Tree depth) (free : List ℕ) → IsUnder old size number ways columns depth t free → StepsFrom old size number columns x (Ok (Found place)) → has_entry columns x (entries_of depth t) ≡ true
  step_found place zero t free under steps = leaf_there columns x t.entries place (stepped zero t free under (Ok (Found place)) steps).1
  step_found place (suc depth) t free under steps = between_there (entries_of depth) columns x t.kids t.last place (stepped (suc depth) t free under (Ok (Found place)) steps).1

  pub step_here : (new : PageMap) (place : ℕ) (y : Entry) (payload : List ℕ) (rest : List Entry) (depth : ℕ) (t : Tree depth) (free : List ℕ) → IsUnder old size number ways columns depth t free → LeadsTo columns x y
      → IsRecord payload y → AreLong columns (y ∷ rest) → StepsFrom old size number columns x (Ok (Here place)) → (result : Result Change Fault)
      → PutsOnLeaf old new size number place (nat_eq ways 0) columns payload rest result
      → MatchResult result (IsChanged old new size number ways columns x y rest depth t free) IsOutsideOrFull
  step_here new place y payload rest zero t free under leads record_is long steps result changes =
      by result (changes y ways t free under.stands under.sized record_is (omega (arith, is.0, count_within (is_less columns x) t.entries)) sorted long.1)
    where
      is : IsStep columns x (top_node zero t free under) (entries_at zero t) (Here place)
      is = stepped zero t free under (Ok (Here place)) steps

      absent : has_entry columns x (entries_of zero t) ≡ false
      absent = leaf_absent columns x t.entries (not_less_first columns x (entries_of zero t) under.sorted) (λ equal. is.1 (subst (λ (n : ℕ). IsEqualAt columns x t.entries n) (sym is.0) equal))

      put : entries_put place y t ≡ put_before columns x y (entries_of zero t)
      put = ap (λ (n : ℕ). entries_put n y t) is.0 ∙ sym (put_at columns x y t.entries)

      sorted : AreEntries columns (entries_put place y t)
      sorted =
          let led = leads (entries_of zero t) absent in
          subst (λ (es : List Entry). AreEntries columns es) (sym (put ∙ led.1)) (still_rise columns y (entries_of zero t) under.sorted led.0 long.0)

      by : (result : Result Change Fault) → MatchResult result (IsLeafChanged old new size number (nat_eq ways 0) columns rest (entries_put place y t) t free) IsOutsideOrFull
          → MatchResult result (IsChanged old new size number ways columns x y rest zero t free) IsOutsideOrFull
      by (Ok There) none = absurd none
      by (Ok (Same more)) also = (absent, subst (λ (es : List Entry). AreAlsoPut old new size number zero columns rest es (pages_of zero t) free more) put also)
      by (Ok (Spread packed deep)) plan =
          (absent, subst (λ (b : Bool). IsDeep ways zero b) (sym plan.0) (deep_leaf ways), subst (λ (es : List Entry). IsPlanned old new size zero es (below_of zero t) free packed) put plan.1)
      by (Err fault) refused = refused
  step_here new place y payload rest (suc depth) t free under leads record_is long steps result changes = absurd (some_none _ (stepped (suc depth) t free under (Ok (Here place)) steps).2)

  pub down_deep : (place child depth : ℕ) (t : Tree depth) (free : List ℕ) → IsUnder old size number ways columns depth t free → StepsFrom old size number columns x (Ok (Down place child)) → ways ≡ 0 → ⊥
  down_deep place child zero t free under steps none = none_some _ (stepped zero t free under (Ok (Down place child)) steps).2
  down_deep place child (suc depth) t free under steps none = (let le = under.stands.shallow in omega (arith, le, none))

pub kids_alike : {T : Type 0} (page : T → ℕ) (m : PageMap) (size place : ℕ) (said : List (ℕ × Local)) (kids : List (T × Held)) (last : ℕ) → Pairwise (IsKidAs m size) said (children page kids)
    → child_at place said last ≡ child_at place (children page kids) last
kids_alike page m size place [] [] last pair = refl
kids_alike page m size place [] (kid ∷ kids) last pair = absurd pair
kids_alike page m size place (it ∷ said) [] last pair = absurd pair
kids_alike page m size zero (it ∷ said) (kid ∷ kids) last pair = pair.0.0
kids_alike page m size (suc place) (it ∷ said) (kid ∷ kids) last pair = kids_alike page m size place said kids last pair.1

module _ (old : PageMap) (size number fewer : ℕ) (columns : List Collation) (x : List Value) (y : Entry) (payload : List ℕ) (rest : List Entry) (leads : LeadsTo columns x y) (record_is : IsRecord payload y) (long_all : AreLong columns (y ∷ rest)) (place child : ℕ)
    (steps : StepsFrom old size number columns x (Ok (Down place child))) where
  way_to : (depth : ℕ) (t : Tree (suc depth)) (free : List ℕ) → IsUnder old size number (suc fewer) columns (suc depth) t free → IsWayTo columns x depth t place child
  way_to depth t free under =
      let is = stepped old size number (suc fewer) columns x (suc depth) t free under (Ok (Down place child)) steps in
      record {
        place_is = is.0;
        other = is.1;
        child_is = some_is _ _ (sym is.2) ∙ kids_alike (top depth) old size place (under.stands.lies.0).said t.kids (top depth t.last) (under.stands.lies.0).children;
      }

  -- what becomes of the child decides
  pub down : (mid : PageMap) (depth : ℕ) (t : Tree depth) (free : List ℕ) → IsUnder old size number (suc fewer) columns depth t free → (result : Result Change Fault)
      → Changes old mid size child fewer columns x payload rest result
      → MatchResult result (λ change. ((packed : Packed) (deep : Bool) → change ≡ Spread packed deep → ⊥) → IsChanged old mid size number (suc fewer) columns x y rest depth t free change) IsOutsideOrFull
  down mid zero t free under result changes = absurd (none_some _ (stepped old size number (suc fewer) columns x zero t free under (Ok (Down place child)) steps).2)
  down mid (suc depth) t free under result changes = by result changes
    where
      by : (result : Result Change Fault) → Changes old mid size child fewer columns x payload rest result
          → MatchResult result (λ change. ((packed : Packed) (deep : Bool) → change ≡ Spread packed deep → ⊥) → IsChanged old mid size number (suc fewer) columns x y rest (suc depth) t free change) IsOutsideOrFull
      by (Ok There) changes = λ not. above_there old size number fewer columns x y payload rest depth t free under leads record_is long_all place child (way_to depth t free under) mid changes
      by (Ok (Same more)) changes = λ not. above_same old size number fewer columns x y payload rest depth t free under leads record_is long_all place child (way_to depth t free under) mid more changes
      by (Ok (Spread packed deep)) changes = λ not. absurd (not packed deep refl)
      by (Err fault) changes = child_refused old size number fewer columns x y payload rest depth t free under leads record_is long_all place child (way_to depth t free under) mid fault changes

  pub down_spread : (mid new : PageMap) (depth : ℕ) (t : Tree depth) (free : List ℕ) → IsUnder old size number (suc fewer) columns depth t free → (packed : Packed) (deep : Bool)
      → Changes old mid size child fewer columns x payload rest (Ok (Spread packed deep)) → (result : Result Change Fault) → Widens mid new size number place child packed deep result
      → MatchResult result (IsChanged old new size number (suc fewer) columns x y rest depth t free) IsOutsideOrFull
  down_spread mid new zero t free under packed deep changes result widens = absurd (none_some _ (stepped old size number (suc fewer) columns x zero t free under (Ok (Down place child)) steps).2)
  down_spread mid new (suc depth) t free under packed deep changes result widens = widens old fewer columns x y payload rest depth t free under leads record_is long_all (way_to depth t free under) changes

-- ---- exits

pub planned_since : (old mid new : PageMap) (size depth : ℕ) (entries : List Entry) (used free : List ℕ) (result : Result Packed Fault) → new ≡ mid
    → MatchResult result (IsPlanned old mid size depth entries used free) IsOutsideOrFull → MatchResult result (IsPlanned old new size depth entries used free) IsOutsideOrFull
planned_since old mid new size depth entries used free result same is =
    subst (λ (m : PageMap). MatchResult result (IsPlanned old m size depth entries used free) IsOutsideOrFull) (sym same) is

pub changed_since : (old mid new : PageMap) (size number ways : ℕ) (columns : List Collation) (x : List Value) (y : Entry) (rest : List Entry) (depth : ℕ) (t : Tree depth) (free : List ℕ) (change : Change) → new ≡ mid
    → IsChanged old mid size number ways columns x y rest depth t free change → IsChanged old new size number ways columns x y rest depth t free change
changed_since old mid new size number ways columns x y rest depth t free change same is = subst (λ (m : PageMap). IsChanged old m size number ways columns x y rest depth t free change) (sym same) is

-- a fan without cells
pub no_cells : (fan : Fan) → length fan.cells.items ≡ 0 → cells_of fan ≡ []
no_cells fan none = none_in fan.cells.items none
  where
    none_in : (cells : List (Vec ℕ)) → length cells ≡ 0 → map (λ cell. cell.items) cells ≡ []
    none_in [] none = refl
    none_in (cell ∷ cells) none = absurd (omega (arith, none))

pub not_there : (packed : Packed) (deep : Bool) → There ≡ Spread packed deep → ⊥
not_there packed deep e = cc

pub not_same : (more : ℕ) (packed : Packed) (deep : Bool) → Same more ≡ Spread packed deep → ⊥
not_same more packed deep e = cc

-- another name for how many pages may follow
pub changed_ways : (old new : PageMap) (size number ways other : ℕ) (columns : List Collation) (x : List Value) (y : Entry) (rest : List Entry) (depth : ℕ) (t : Tree depth) (free : List ℕ) (change : Change) → ways ≡ other
    → IsChanged old new size number ways columns x y rest depth t free change → IsChanged old new size number other columns x y rest depth t free change
changed_ways old new size number ways other columns x y rest depth t free change same is = subst (λ (n : ℕ). IsChanged old new size number n columns x y rest depth t free change) same is

pub changed_or_ways : (old new : PageMap) (size number ways other : ℕ) (columns : List Collation) (x : List Value) (y : Entry) (rest : List Entry) (depth : ℕ) (t : Tree depth) (free : List ℕ) (result : Result Change Fault) → ways ≡ other
    → MatchResult result (IsChanged old new size number ways columns x y rest depth t free) IsOutsideOrFull → MatchResult result (IsChanged old new size number other columns x y rest depth t free) IsOutsideOrFull
changed_or_ways old new size number ways other columns x y rest depth t free result same is =
    subst (λ (n : ℕ). MatchResult result (IsChanged old new size number n columns x y rest depth t free) IsOutsideOrFull) same is

-- Entries that are put on a leaf one after the other.
use Rattle.std.proofs.Common.{◌≡◌, ◌∙◌, ◌+◌, ◌-◌, ◌<◌, ◌≤◌, ◌||◌, ℕ, zero, suc, Bool, true, false, IsTrue, List, [], ◌∷◌, ◌++◌, length, map, take, drop, slice_index_or, refl, sym, ap, subst, inl, arith}
use Rattle.std.proofs.lemmas.List.{append-nil, drop_all, take_all, take_more}
use Rattle.std.specs.Prelude.{⊤, Some, None, Ok, Err}
use Rattle.std.specs.List.{list_any}
use Rattle.std.specs.Ordering.{is_eq, is_gt, is_lt}
use Rattle.std.specs.declared.cmp.Ordering.TheVariants.{Greater, Less}
use Rattle.sqlval.specs.Faults.{IsOutside}
use Rattle.sqlval.specs.PageSizes.{IsPageSize}
use Rattle.sqlval.specs.declared.collation.Collation.{Collation}
use Rattle.sqlval.specs.declared.fault.Fault.{Fault}
use Rattle.pages.specs.Calls.{Causes, Limits}
use Rattle.pages.specs.Map.{PageMap}
use Rattle.record.specs.Writing.{record_of}
use Rattle.freelist.specs.Calls.{AreFree}
use Rattle.tree_overflow.specs.Calls.{IsWritten}
use Rattle.tree_overflow.proofs.Laying.{same_keeps}
use Rattle.tree_page.specs.Payload.{index_most}
use Rattle.tree_store.specs.Storing.{PlacesOn}
use Rattle.tree_index.specs.Coming.{IsBetweenAt, IsNextPut, IsWholeCell, PutsNext, RunsOn}
use Rattle.tree_index.specs.Comparing.{front_count, is_less}
use Rattle.tree_index.specs.Entries.{Entry, AreEntries, AreLong, entry_cmp, has_entry, with_entries, with_entry}
use Rattle.tree_index.specs.Freeing.{StandsUnder}
use Rattle.tree_index.specs.Growing.{AreAlsoPut, ComeWithin, IsEqualAt, IsPut, StandsWithin, entries_put}
use Rattle.tree_index.specs.Tree.{Held, Leaf, entries_of, pages_of}
use Rattle.tree_index.proofs.Going.{first_long, long_at}
use Rattle.tree_index.proofs.Inserts.{leads_itself, leaf_absent, nothing, put_at}
use Rattle.tree_index.proofs.Leaves.{leaf_placed, leaf_unplaced, leaf_unwritten}
use Rattle.tree_index.proofs.Orders.{counted, greater_first, not_less_first, uncounted}
use Rattle.tree_index.proofs.Readings.{local_whole}
use Rattle.tree_index.proofs.RunOff.{put_still, put_then, stands_put, unmoved}
use Rattle.tree_index.proofs.Subtrees.{told}
use Rattle.tree_index.proofs.Widening.{mapped_first}
use Rattle.tree_index.proofs.Within.{all_rise, one_more_comes, with_one_more}

-- ---- an entry that lies whole in its cell takes no other page

written_whole : (pages : PageMap) (size most : ℕ) (free payload : List ℕ) → AreFree pages size free → length payload ≤ most → IsWritten pages pages size most free payload payload
written_whole pages size most free payload are le =
    let local = local_whole size most (length payload) le in
    record {
      chain = [];
      now_free = free;
      is = record {
        parts = sym (append-nil _ ∙ ap (λ (n : ℕ). take n payload) local ∙ take_all (length payload) payload (omega arith));
        chain = ap (λ (n : ℕ). drop n payload) local ∙ drop_all (length payload) payload (omega arith);
      };
      has = are.has;
      moves = unmoved pages [] free;
      header = same_keeps pages pages refl;
      rule = inl refl;
    }

-- ---- one entry

any_at : (test : Entry → Bool) (held : List Held) (place : ℕ) (d : Held) → place < length held → test (slice_index_or held place d).entry ≡ true → list_any test (map (λ h. h.entry) held) ≡ true
any_at test [] place d lt passes = absurd (omega (arith, lt))
any_at test (h ∷ held) zero d lt passes = ap (λ (b : Bool). b || list_any test (map (λ h. h.entry) held)) passes
any_at test (h ∷ held) (suc place) d lt passes = ap (λ (b : Bool). test h.entry || b) (any_at test held place d (omega (arith, lt)) passes) ∙ or_true (test h.entry) where
  or_true : (b : Bool) → b || true ≡ true
  or_true true = refl
  or_true false = refl

module _ (old : PageMap) (size number ways : ℕ) (t : Leaf) (free : List ℕ) (under : StandsUnder old size number ways zero t free) (sized : IsPageSize size) (columns : List Collation) (x : Entry) (place : ℕ)
    (between : IsBetweenAt old size number columns x place) (sorted : AreEntries columns (entries_of zero t)) where
  lies : (d : Held) → (0 < place) × (place < length t.entries) × (entry_cmp columns x (slice_index_or t.entries (place - 1) d).entry ≡ Greater)
      × (entry_cmp columns x (slice_index_or t.entries place d).entry ≡ Less)
  lies d = (let its = told old size number zero t under.top_is under.lies in between its.node t.entries d (under.free_are).whole its.has)

  lt : place < length t.entries
  lt = (lies nothing).1

  counts : front_count (is_less columns x) t.entries ≡ place
  counts =
      let it = lies nothing in
      let first = mapped_first columns x t.entries (greater_first columns x (entries_of zero t) sorted) in
      let low = counted (is_less columns x) t.entries (place - 1) nothing first (omega (arith, it.0, it.1)) (ap is_gt it.2) in
      let high = uncounted (is_less columns x) t.entries place nothing it.1 (ap is_gt it.3) in
      omega (arith, low, high, it.0)

  absent : has_entry columns x (entries_of zero t) ≡ false
  absent = leaf_absent columns x t.entries (not_less_first columns x (entries_of zero t) sorted)
      (λ equal. (let same = (subst (λ (n : ℕ). IsEqualAt columns x t.entries n) counts equal).1 nothing in not_both (sym (ap is_eq (lies nothing).3) ∙ same)))
    where
      not_both : false ≡ true → ⊥
      not_both e = cc

  pub stands_within : StandsWithin columns x (entries_of zero t)
  stands_within = (
    any_at (λ e. is_gt (entry_cmp columns x e)) t.entries (place - 1) nothing (omega (arith, (lies nothing).0, lt)) (ap is_gt (lies nothing).2),
    any_at (λ e. is_lt (entry_cmp columns x e)) t.entries place nothing lt (ap is_lt (lies nothing).3),
    absent,
  )

  put_is : entries_put place x t ≡ with_entry columns x (entries_of zero t)
  put_is = ap (λ (n : ℕ). entries_put n x t) (sym counts) ∙ sym (put_at columns x x t.entries) ∙ (leads_itself columns x (entries_of zero t) absent).1

  module _ (cell : List ℕ) (is : IsWholeCell size x cell) where
    w : IsWritten old old size (index_most size) free (record_of x) (record_of x)
    w = written_whole old size (index_most size) free (record_of x) under.free_are is.1

    pub next_put : (new : PageMap) → PlacesOn old new size number place cell (Ok true) → IsNextPut old new size number columns x t free (Some place)
    next_put new places = (
      stands_within,
      subst (λ (es : List Entry). IsPut old new size number zero es (pages_of zero t) free) put_is
          (leaf_placed old old size number ways x (record_of x) t free under sized is.0 (record_of x) w place (omega (arith, lt)) cell is.2 new places),
    )

    pub next_unput : (new : PageMap) → PlacesOn old new size number place cell (Ok false) → new ≡ old
    next_unput new places = leaf_unplaced old old size number ways x (record_of x) t free under sized is.0 (record_of x) w place (omega (arith, lt)) cell is.2 new places

    pub next_unwritten : (new : PageMap) (fault : Fault) → PlacesOn old new size number place cell (Err fault) → IsOutside fault
    next_unwritten new fault places = leaf_unwritten old old size number ways x (record_of x) t free under sized is.0 (record_of x) w place (omega (arith, lt)) cell is.2 new fault places

-- ---- one after the other

-- So many of the given entries are on the leaf.
pub record IsRunningOn {P K : Type 0} (below : P → K) (tells : K → Bool) (limits : K → Limits) (pages : P → PageMap) (failures : P → ℕ × ℕ) (old now : P) (number : ℕ) (columns : List Collation)
    (given : List Entry) (count : ℕ) : Type 0 where
  pub kept : below now ≡ below old
  pub causes : Causes {T = ⊤} (Ok tt) (failures old) (failures now) ⊥
  pub runs : IsTrue (tells (below old)) → RunsOn (pages old) (pages now) (limits (below old)).page number columns given (Ok count)

module _ (old : PageMap) (size number : ℕ) (columns : List Collation) (given : List Entry) where
  pub none_on : RunsOn old old size number columns given (Ok 0)
  none_on ways t free under sized sorted long = (omega arith, tt, put_still old size number ways zero t free under)

  module _ (mid : PageMap) (count : ℕ) (runs : RunsOn old mid size number columns given (Ok count)) where
    -- what stands under the leaf's page by now
    module _ (ways : ℕ) (t : Leaf) (free : List ℕ) (under : StandsUnder old size number ways zero t free) (sized : IsPageSize size) (sorted : AreEntries columns (entries_of zero t)) (long : AreLong columns given) where
      abbrev was : AreAlsoPut old mid size number zero columns given (entries_of zero t) (pages_of zero t) free count
      was = runs ways t free under sized sorted long

      abbrev come : List Entry
      come = take count given

      abbrev p : IsPut old mid size number zero (with_entries columns come (entries_of zero t)) (pages_of zero t) free
      p = was.2

      pub stands : StandsUnder mid size number ways zero p.tree p.now_free
      stands = stands_put old size number ways zero t free under mid (with_entries columns come (entries_of zero t)) p

      pub rise : AreEntries columns (entries_of zero p.tree)
      rise = subst (λ (l : List Entry). AreEntries columns l) (sym p.entries_are) (all_rise columns come (entries_of zero t) (first_long columns count given long) sorted was.1)

    -- another one
    pub one_more_on : (new : PageMap) (y : Entry) (place : ℕ) → count < length given → y ≡ slice_index_or given count y → PutsNext mid new size number columns y (Ok (Some place))
        → RunsOn old new size number columns given (Ok (count + 1))
    one_more_on new y place lt y_is next ways t free under sized sorted long =
        let it = was ways t free under sized sorted long in
        let es = entries_of zero t in
        let gone = take count given in
        let now = it.2 in
        let is = next ways now.tree now.now_free (stands ways t free under sized sorted long) sized (rise ways t free under sized sorted long) (ap length y_is ∙ long_at columns count given y long lt) in
        let further : take (count + 1) given ≡ gone ++ y ∷ [] = take_more given count y lt ∙ ap (λ (e : Entry). gone ++ e ∷ []) (sym y_is) in
        let same : with_entry columns y (entries_of zero now.tree) ≡ with_entries columns (take (count + 1) given) es = (
        ap (with_entry columns y) now.entries_are ∙ sym (with_one_more columns gone y es) ∙ ap (λ (l : List Entry). with_entries columns l es) (sym further)) in (
          omega (arith, lt),
          subst (λ (l : List Entry). ComeWithin columns l es) (sym further) (one_more_comes columns gone y es it.1 (subst (λ (l : List Entry). StandsWithin columns y l) now.entries_are is.0)),
          subst (λ (l : List Entry). IsPut old new size number zero l (pages_of zero t) free) same
              (put_then old size number ways zero t free under mid (with_entries columns gone es) now new (with_entry columns y (entries_of zero now.tree)) is.1),
        )

    -- no other
    pub no_more_on : (new : PageMap) (y : Entry) → count < length given → y ≡ slice_index_or given count y → PutsNext mid new size number columns y (Ok None)
        → RunsOn old new size number columns given (Ok count)
    no_more_on new y lt y_is next ways t free under sized sorted long =
        let it = was ways t free under sized sorted long in
        let same = next ways (it.2).tree (it.2).now_free (stands ways t free under sized sorted long) sized (rise ways t free under sized sorted long) (ap length y_is ∙ long_at columns count given y long lt) in
        subst (λ (m : PageMap). AreAlsoPut old m size number zero columns given (entries_of zero t) (pages_of zero t) free count) (sym same) it

    pub on_refused : (new : PageMap) (y : Entry) (fault : Fault) → count < length given → y ≡ slice_index_or given count y → PutsNext mid new size number columns y (Err fault)
        → (ways : ℕ) (t : Leaf) (free : List ℕ) → StandsUnder old size number ways zero t free → IsPageSize size → AreEntries columns (entries_of zero t) → AreLong columns given → IsOutside fault
    on_refused new y fault lt y_is next ways t free under sized sorted long =
        let it = was ways t free under sized sorted long in
        next ways (it.2).tree (it.2).now_free (stands ways t free under sized sorted long) sized (rise ways t free under sized sorted long) (ap length y_is ∙ long_at columns count given y long lt)

-- ---- after the first

module _ (old mid : PageMap) (size number ways : ℕ) (t : Leaf) (free : List ℕ) (under : StandsUnder old size number ways zero t free) (sized : IsPageSize size) (columns : List Collation) (rest entries : List Entry)
    (sorted : AreEntries columns entries) (long : AreLong columns rest) (p : IsPut old mid size number zero entries (pages_of zero t) free) where
  rises : AreEntries columns (entries_of zero p.tree)
  rises = subst (λ (l : List Entry). AreEntries columns l) (sym p.entries_are) sorted

  pub on_after : (new : PageMap) (count : ℕ) → RunsOn mid new size number columns rest (Ok count) → AreAlsoPut old new size number zero columns rest entries (pages_of zero t) free count
  on_after new count runs =
      let is = runs ways p.tree p.now_free (stands_put old size number ways zero t free under mid entries p) sized rises long in (
        is.0,
        subst (λ (l : List Entry). ComeWithin columns (take count rest) l) p.entries_are is.1,
        subst (λ (l : List Entry). IsPut old new size number zero l (pages_of zero t) free) (ap (with_entries columns (take count rest)) p.entries_are)
            (put_then old size number ways zero t free under mid entries p new (with_entries columns (take count rest) (entries_of zero p.tree)) is.2),
      )

  pub on_after_refused : (new : PageMap) (fault : Fault) → RunsOn mid new size number columns rest (Err fault) → IsOutside fault
  on_after_refused new fault runs = runs ways p.tree p.now_free (stands_put old size number ways zero t free under mid entries p) sized rises long

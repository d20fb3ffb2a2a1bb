-- Entries that are taken off a leaf one after the other.
use Rattle.std.proofs.Common.{◌≡◌, ◌∙◌, ◌+◌, ◌<◌, ℕ, zero, Bool, true, false, IsTrue, List, [], ◌∷◌, ◌++◌, length, take, slice_index_or, refl, sym, ap, subst, arith}
use Rattle.std.proofs.lemmas.List.{take_more}
use Rattle.std.specs.Prelude.{⊤, Option, Some, None, Ok, Err}
use Rattle.sqlval.specs.Faults.{IsOutside}
use Rattle.sqlval.specs.PageSizes.{IsPageSize}
use Rattle.sqlval.specs.declared.collation.Collation.{Collation}
use Rattle.sqlval.specs.declared.fault.Fault.{Fault}
use Rattle.pages.specs.Calls.{Causes, Limits}
use Rattle.pages.specs.Counting.{Moves}
use Rattle.pages.specs.Map.{PageMap, IsThere}
use Rattle.pages.proofs.Moving.{in_sequence}
use Rattle.tree_overflow.proofs.Laying.{keeps_then, same_keeps}
use Rattle.tree_store.proofs.PutPages.{fresh_same}
use Rattle.tree_store.specs.Storing.{TakesOff}
use Rattle.tree_index.specs.Calls.{AreGivenBack}
use Rattle.tree_index.specs.Entries.{Entry, AreEntries, AreLong, GoInTurn, has_entry, without_entries, without_entry}
use Rattle.tree_index.specs.Freeing.{StandsUnder}
use Rattle.tree_index.specs.Growing.{IsPut}
use Rattle.tree_index.specs.Removing.{IsTakenOut}
use Rattle.tree_index.specs.Taking.{IsNextTaken, IsWholeAt, RunsOff, TakesNext}
use Rattle.tree_index.specs.Tree.{Leaf, Tree, entries_of, pages_of}
use Rattle.tree_index.specs.declared.removing.Loss.TheVariants.{Done}
use Rattle.tree_index.proofs.Givings.{none_given}
use Rattle.tree_index.proofs.Going.{long_at, one_more_goes, still_rise, without_one_more}
use Rattle.tree_index.proofs.Inserts.{leaf_there, nothing}
use Rattle.tree_index.proofs.Shares.{after}
use Rattle.tree_index.proofs.Subtrees.{told, tree_up}
use Rattle.tree_index.proofs.Taken.{held, leaf_off, leaf_still, leaf_unwritten}
use Rattle.tree_index.proofs.Without.{leaf_without}

pub none_of : {A : Type 0} (found : Option A) → ((x : A) → found ≡ Some x → ⊥) → found ≡ None
none_of None none = refl
none_of (Some x) none = absurd (none x refl)

-- ---- one change after the other

pub unmoved : (pages : PageMap) (used free : List ℕ) → Moves pages pages used free used free
unmoved pages used free = record {
  longer = omega arith;
  counts = λ n. (let none = fresh_same (length pages) (length pages) n refl in omega (arith, none));
  keeps = λ n from to none. refl;
  whole = λ size whole. whole;
}

module _ (old : PageMap) (size number ways depth : ℕ) (t : Tree depth) (free : List ℕ) (under : StandsUnder old size number ways depth t free) where
  -- the tree as it is
  pub put_still : IsPut old old size number depth (entries_of depth t) (pages_of depth t) free
  put_still = record {
    tree = t;
    top_is = under.top_is;
    lies = under.lies;
    entries_are = refl;
    now_free = free;
    has = (under.free_are).has;
    moves = unmoved old (pages_of depth t) free;
    header = same_keeps old old refl;
  }

  module _ (mid : PageMap) (entries : List Entry) (p : IsPut old mid size number depth entries (pages_of depth t) free) where
    -- the tree that has other entries now stands as it did
    pub stands_put : StandsUnder mid size number ways depth p.tree p.now_free
    stands_put =
        let past = after old mid size (pages_of depth t) free (pages_of depth p.tree) p.now_free under.free_are p.moves p.has (tree_up old size depth t under.lies) under.apart under.first in
        record {
          top_is = p.top_is;
          lies = p.lies;
          shallow = under.shallow;
          apart = past.apart;
          first = past.first;
          free_are = past.are;
        }

    pub put_then : (new : PageMap) (others : List Entry) → IsPut mid new size number depth others (pages_of depth p.tree) p.now_free → IsPut old new size number depth others (pages_of depth t) free
    put_then new others next = record {
      tree = next.tree;
      top_is = next.top_is;
      lies = next.lies;
      entries_are = next.entries_are;
      now_free = next.now_free;
      has = next.has;
      moves = in_sequence old mid new (pages_of depth t) free (pages_of depth p.tree) p.now_free (pages_of depth next.tree) next.now_free p.moves next.moves;
      header = keeps_then old mid new p.header next.header;
    }

-- a leaf's page is there
pub leaf_is_there : (old : PageMap) (size number ways : ℕ) (t : Leaf) (free : List ℕ) → StandsUnder old size number ways zero t free → IsThere old size number
leaf_is_there old size number ways t free under =
    let its = told old size number zero t under.top_is under.lies in
    record { has = its.has.says.has; whole = (under.free_are).whole number its.has.says.has }

-- ---- one entry

module _ (old : PageMap) (size number ways : ℕ) (t : Leaf) (free : List ℕ) (under : StandsUnder old size number ways zero t free) (sized : IsPageSize size) (columns : List Collation) (x : Entry) (place : ℕ)
    (whole : IsWholeAt old size number columns x place) where
  lt : place < length t.entries
  lt = (let its = told old size number zero t under.top_is under.lies in (whole its.node t.entries (under.free_are).whole its.has).0.0)

  given : AreGivenBack old old size (held old size number ways zero t free under place lt).pages free
  given =
      let its = told old size number zero t under.top_is under.lies in
      let none = (whole its.node t.entries (under.free_are).whole its.has).1 nothing in
      subst (λ (chain : List ℕ). AreGivenBack old old size chain free) (sym none) (none_given old size free under.free_are)

  pub next_taken : AreEntries columns (entries_of zero t) → length x ≡ length columns + 1 → (new : PageMap) → TakesOff old new size number place (Ok true)
      → IsNextTaken old new size number columns x t free (Some place)
  next_taken sorted long new takes =
      let its = told old size number zero t under.top_is under.lies in
      let equal = (whole its.node t.entries (under.free_are).whole its.has).0 in (
        leaf_there columns x t.entries place equal,
        subst (λ (es : List Entry). IsPut old new size number zero es (pages_of zero t) free) (sym (leaf_without columns x long t.entries place sorted equal))
            (leaf_off old size number ways t free under sized place lt old given new takes),
      )

  pub next_still : (new : PageMap) → TakesOff old new size number place (Ok false) → new ≡ old
  next_still new takes = leaf_still old size number ways t free under sized place lt old given new takes

  pub next_refused : (new : PageMap) (fault : Fault) → TakesOff old new size number place (Err fault) → IsOutside fault
  next_refused new fault takes = leaf_unwritten old size number ways t free under sized place lt old given new fault takes

-- ---- one after the other

-- So many of the given entries are off the leaf.
pub record IsRunning {P K : Type 0} (below : P → K) (tells : K → Bool) (limits : K → Limits) (pages : P → PageMap) (failures : P → ℕ × ℕ) (old now : P) (number : ℕ) (columns : List Collation)
    (given : List Entry) (count : ℕ) : Type 0 where
  pub kept : below now ≡ below old
  pub causes : Causes {T = ⊤} (Ok tt) (failures old) (failures now) ⊥
  pub runs : IsTrue (tells (below old)) → RunsOff (pages old) (pages now) (limits (below old)).page number columns given (Ok count)

-- what a call does from the pages as they are now, which are those of before the first in all but what they hold
pub since_now : {P K : Type 0} (below : P → K) (tells : K → Bool) (limits : K → Limits) (old mid : P) (Does : ℕ → Type 0) → below mid ≡ below old
    → (IsTrue (tells (below mid)) → Does (limits (below mid)).page) → IsTrue (tells (below old)) → Does (limits (below old)).page
since_now {P} {K} below tells limits old mid Does kept does told = subst (λ (k : K). Does (limits k).page) kept (does (subst (λ (k : K). IsTrue (tells k)) (sym kept) told))

module _ (old : PageMap) (size number : ℕ) (columns : List Collation) (given : List Entry) where
  pub none_off : RunsOff old old size number columns given (Ok 0)
  none_off ways t free under sized sorted long = (omega arith, tt, put_still old size number ways zero t free under)

  module _ (mid : PageMap) (count : ℕ) (runs : RunsOff old mid size number columns given (Ok count)) where
    -- another one
    pub one_more_off : (new : PageMap) (y : Entry) (place : ℕ) → count < length given → y ≡ slice_index_or given count y → TakesNext mid new size number columns y (Ok (Some place))
        → RunsOff old new size number columns given (Ok (count + 1))
    one_more_off new y place lt y_is next ways t free under sized sorted long =
        let was = runs ways t free under sized sorted long in
        let p = was.2 in
        let gone = take count given in
        let es = entries_of zero t in
        let stands = stands_put old size number ways zero t free under mid (without_entries columns gone es) p in
        let rise = subst (λ (l : List Entry). AreEntries columns l) (sym p.entries_are) (still_rise columns gone es sorted) in
        let is = next ways p.tree p.now_free stands sized rise (ap length y_is ∙ long_at columns count given y long lt) in
        let further : take (count + 1) given ≡ gone ++ y ∷ [] = take_more given count y lt ∙ ap (λ (e : Entry). gone ++ e ∷ []) (sym y_is) in
        let same : without_entry columns y (entries_of zero p.tree) ≡ without_entries columns (take (count + 1) given) es = (
        ap (without_entry columns y) p.entries_are ∙ sym (without_one_more columns gone y es) ∙ ap (λ (l : List Entry). without_entries columns l es) (sym further)) in (
          omega (arith, lt),
          subst (λ (l : List Entry). GoInTurn columns l es) (sym further) (one_more_goes columns gone y es was.1 (sym (ap (has_entry columns y) p.entries_are) ∙ is.0)),
          subst (λ (l : List Entry). IsPut old new size number zero l (pages_of zero t) free) same
              (put_then old size number ways zero t free under mid (without_entries columns gone es) p new (without_entry columns y (entries_of zero p.tree)) is.1),
        )

    -- no other
    pub no_more_off : (new : PageMap) (y : Entry) → count < length given → y ≡ slice_index_or given count y → TakesNext mid new size number columns y (Ok None)
        → RunsOff old new size number columns given (Ok count)
    no_more_off new y lt y_is next ways t free under sized sorted long =
        let was = runs ways t free under sized sorted long in
        let gone = take count given in
        let es = entries_of zero t in
        let stands = stands_put old size number ways zero t free under mid (without_entries columns gone es) was.2 in
        let rise = subst (λ (l : List Entry). AreEntries columns l) (sym (was.2).entries_are) (still_rise columns gone es sorted) in
        let same = next ways (was.2).tree (was.2).now_free stands sized rise (ap length y_is ∙ long_at columns count given y long lt) in
        subst (λ (m : PageMap). IsTakenOut old m size number zero columns given es t free (Done count)) (sym same) was

    pub off_refused : (new : PageMap) (y : Entry) (fault : Fault) → count < length given → y ≡ slice_index_or given count y → TakesNext mid new size number columns y (Err fault)
        → (ways : ℕ) (t : Leaf) (free : List ℕ) → StandsUnder old size number ways zero t free → IsPageSize size → AreEntries columns (entries_of zero t) → AreLong columns given → IsOutside fault
    off_refused new y fault lt y_is next ways t free under sized sorted long =
        let was = runs ways t free under sized sorted long in
        let gone = take count given in
        let es = entries_of zero t in
        let stands = stands_put old size number ways zero t free under mid (without_entries columns gone es) was.2 in
        let rise = subst (λ (l : List Entry). AreEntries columns l) (sym (was.2).entries_are) (still_rise columns gone es sorted) in
        next ways (was.2).tree (was.2).now_free stands sized rise (ap length y_is ∙ long_at columns count given y long lt)

-- ---- after the first

module _ (old mid : PageMap) (size number ways : ℕ) (t : Leaf) (free : List ℕ) (under : StandsUnder old size number ways zero t free) (sized : IsPageSize size) (columns : List Collation) (rest entries : List Entry)
    (sorted : AreEntries columns entries) (long : AreLong columns rest) (p : IsPut old mid size number zero entries (pages_of zero t) free) where
  rise : AreEntries columns (entries_of zero p.tree)
  rise = subst (λ (l : List Entry). AreEntries columns l) (sym p.entries_are) sorted

  pub run_after : (new : PageMap) (count : ℕ) → RunsOff mid new size number columns rest (Ok count) → IsTakenOut old new size number zero columns rest entries t free (Done count)
  run_after new count runs =
      let is = runs ways p.tree p.now_free (stands_put old size number ways zero t free under mid entries p) sized rise long in (
        is.0,
        subst (λ (l : List Entry). GoInTurn columns (take count rest) l) p.entries_are is.1,
        subst (λ (l : List Entry). IsPut old new size number zero l (pages_of zero t) free) (ap (without_entries columns (take count rest)) p.entries_are)
            (put_then old size number ways zero t free under mid entries p new (without_entries columns (take count rest) (entries_of zero p.tree)) is.2),
      )

  pub run_refused : (new : PageMap) (fault : Fault) → RunsOff mid new size number columns rest (Err fault) → IsOutside fault
  run_refused new fault runs = runs ways p.tree p.now_free (stands_put old size number ways zero t free under mid entries p) sized rise long

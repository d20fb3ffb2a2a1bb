-- The rows of a query whose source's tree is read leaf by leaf.
use Rattle.std.proofs.Common.{◌≡◌, ◌⊎◌, inl, inr, refl, sym, ap, subst, ◌∙◌, ℕ, ℤ, ◌++◌, Bool, true, List, [], ◌∷◌, map, Option, Some, None, Ok, Err, IsTrue, append_assoc, append-nil, arith}
use Rattle.std.specs.Prelude.{Result, IsErrAnd, ⊤, option_map, slice_get}
use Rattle.sqlval.specs.Faults.{IsOutside}
use Rattle.sqlval.specs.Refusals.{Answer, Refusal, ◌then◌, refusal_of}
use Rattle.sqlval.specs.declared.fault.Fault.{Fault}
use Rattle.tree_leaf.specs.Leaf.{Entry}
use Rattle.pages.specs.Calls.{Limits, Stays}
use Rattle.pages.specs.Map.{PageMap, AreWhole}
use Rattle.tree_table.specs.Rows.{rows_from}
use Rattle.tree_table.specs.Scanning.{BeginsAll}
use Rattle.tree_table.specs.Tree.{IsTableTree}
use Rattle.catalog.specs.Database.{Database}
use Rattle.catalog.specs.declared.tables.Table.{Table}
use Rattle.query_terms.specs.Outcome.{AnswersBy, IsRefusedBy}
use Rattle.query_terms.specs.Values.{Row}
use Rattle.query_terms.specs.declared.tree.Place.{Place}
use Rattle.query_names.specs.Readings.{rows_over}
use Rattle.query_names.specs.Views.{answer_of}
use Rattle.query_names.specs.declared.queries.BoundSource.{BoundSource}
use Rattle.query_names.specs.declared.reading.Condition.{Condition}
use Rattle.query_names.specs.declared.reading.Reading.{Reading}
use Rattle.query_bind.specs.Named.{ArePlaced, place_seen}
use Rattle.query_answer.specs.Answers.{LoadsBeside}
use Rattle.query_answer.specs.Nesting.{beside_rows, Named}
use Rattle.query_answer.specs.Parts.{StayRefused, answer_on, is_row_by_row, part_of}
use Rattle.query_view.specs.Seen.{IsRefusedFrom}
use Rattle.row_scan.specs.Sources.{GivesShown, HoldRows, as_held, as_source, as_shown, shown_in, shown_source}
use Rattle.row_scan.specs.Rows.{TableRow}
use Rattle.row_scan.specs.Trees.{AnswersOrFails, HasRows}
use Rattle.executor.specs.Reading.{Streams, answer_within, rows_of_each}
use Rattle.db_pages.specs.Stored.{Stores}
use Rattle.executor.proofs.Answering.{Rows, answers}
use Rattle.executor.proofs.IndexTrees.{has_source}
use Rattle.executor.proofs.LoadedSources.{answer_over, tree_rows}
use Rattle.catalog.specs.Listed.{Listed, table_named}
use Rattle.query_names.specs.declared.queries.Origin.{Origin}
use Rattle.query_names.specs.declared.queries.Origin.TheVariants.{Tree}

map_after : {X : Type 0} (g : Row → Row) (f : X → Row) (xs : List X) → map g (map f xs) ≡ map (λ x. g (f x)) xs
map_after g f [] = refl
map_after g f (x ∷ xs) = ap (λ (rows : List Row). g (f x) ∷ rows) (map_after g f xs)

-- what is shown of entries is shown of the rows that they are held as
shown_of_rows : (shown : Option (List Place)) (own : Option ℕ) (entries : List Entry) (rows : List TableRow) → map (as_held own) entries ≡ map as_source rows → map (as_shown shown own) entries ≡ map (shown_source shown) rows
shown_of_rows shown own entries rows e =
    sym (map_after (shown_in shown) (as_held own) entries) ∙ (ap (map (shown_in shown)) e ∙ map_after (shown_in shown) as_source rows)

module _ {P K : Type 0} (below : P → K) (tells : K → Bool) (limits : K → Limits) (pages : P → PageMap) (count : P → ℕ) (failures : P → ℕ × ℕ) where
  -- What is so after some leaves, whose rows are given.
  pub record HasStreamed (Is : List Row → Type 0) (old now : P) (table : BoundSource) (shown : Option (List Place)) (at_root : ℕ) (next : Option ℤ) : Type 0 where
    pub stays : Stays below pages count failures {T = ⊤} (Ok tt) old now
    pub same_root : at_root ≡ table.root
    pub before : List Row
    pub given : Is before
    pub are : IsTrue (tells (below old)) → (entries : List Entry) (used : List ℕ) → AreWhole (limits (below old)).page (pages old) → IsTableTree (pages old) (limits (below old)).page table.root entries used
        → map (as_shown shown table.shape.own) entries ≡ before ++ map (as_shown shown table.shape.own) (rows_from next entries)

  pub none_streamed : (Is : List Row → Type 0) (old : P) (table : BoundSource) (shown : Option (List Place)) (at_root : ℕ) (next : Option ℤ) → Is [] → at_root ≡ table.root → BeginsAll next → HasStreamed Is old old table shown at_root next
  none_streamed Is old table shown at_root next none same begin = record {
    stays = record { kept = refl; same = refl; counted = refl; causes = record { db = omega arith; log = omega arith; why = tt } };
    same_root = same;
    before = [];
    given = none;
    are = λ told entries used whole tree. ap (map (as_shown shown table.shape.own)) (sym (begin (pages old) (limits (below old)).page table.root entries used tree));
  }

  -- what a call says of the pages as they were
  since : (old mid : P) (root : ℕ) (shown : Option (List Place)) (own : Option ℕ) (at_root : ℕ) (next later : Option ℤ) (result : Result (List Row) Fault) → Stays below pages count failures {T = ⊤} (Ok tt) old mid → at_root ≡ root
      → (IsTrue (tells (below mid)) → GivesShown (pages mid) (limits (below mid)).page at_root shown own next later result) → IsTrue (tells (below old)) → GivesShown (pages old) (limits (below old)).page root shown own next later result
  since old mid root shown own at_root next later result stays same gives told =
      subst (λ (n : ℕ). GivesShown (pages old) (limits (below old)).page n shown own next later result) same
      (subst (λ (m : PageMap). GivesShown m (limits (below old)).page at_root shown own next later result) stays.same
      (subst (λ (k : K). GivesShown (pages mid) (limits k).page at_root shown own next later result) stays.kept (gives (subst (λ (k : K). IsTrue (tells k)) (sym stays.kept) told))))

  module _ (over : List Row → Answer Rows) (Is : List Row → Type 0) (old mid : P) (table : BoundSource) (shown : Option (List Place)) (at_root : ℕ) (next later : Option ℤ) (has : HasStreamed Is old mid table shown at_root next) where
    -- a leaf that isn't read
    pub leaf_unread : {X : Type 0} (view : X → Rows) (fault : Fault) (result : Result X Fault) → HoldRows → IsErrAnd result (λ e. e ≡ fault)
        → (IsTrue (tells (below mid)) → GivesShown (pages mid) (limits (below mid)).page at_root shown table.shape.own next later (Err fault)) → IsTrue (tells (below old)) → Streams view over (pages old) (limits (below old)).page table shown result
    leaf_unread view fault (Ok x) hold same gives told rows whole holds = absurd same
    leaf_unread view fault (Err e) hold same gives told rows whole holds =
        inl (subst IsOutside (sym same) (since old mid table.root shown table.shape.own at_root next later (Err fault) has.stays has.same_root gives told holds.entries holds.used whole holds.tree))

    module _ (rows : List Row) (gives : IsTrue (tells (below mid)) → GivesShown (pages mid) (limits (below mid)).page at_root shown table.shape.own next later (Ok rows)) where
      more_are : IsTrue (tells (below old)) → (entries : List Entry) (used : List ℕ) → AreWhole (limits (below old)).page (pages old) → IsTableTree (pages old) (limits (below old)).page table.root entries used
          → map (as_shown shown table.shape.own) entries ≡ (has.before ++ rows) ++ map (as_shown shown table.shape.own) (rows_from later entries)
      more_are told entries used whole tree =
          has.are told entries used whole tree
          ∙ (ap (λ (l : List Row). has.before ++ l) (since old mid table.root shown table.shape.own at_root next later (Ok rows) has.stays has.same_root gives told entries used whole tree)
          ∙ sym (append_assoc has.before rows (map (as_shown shown table.shape.own) (rows_from later entries))))

      -- a leaf of which all is given
      pub leaf_streamed : (After : List Row → Type 0) (new : P) (new_root : ℕ) → new_root ≡ at_root → Stays below pages count failures {T = ⊤} (Ok tt) old new
          → ((before : List Row) → Is before → After (before ++ rows)) → HasStreamed After old new table shown new_root later
      leaf_streamed After new new_root same stays given = record {
        stays = stays;
        same_root = same ∙ has.same_root;
        before = has.before ++ rows;
        given = given has.before has.given;
        are = more_are;
      }

      -- a leaf with a row of which something is refused
      pub leaf_refused : {X : Type 0} (view : X → Rows) (fault : Fault) (result : Result X Fault) → HoldRows → IsErrAnd result (λ e. e ≡ fault)
          → ((before : List Row) → Is before → IsRefusedFrom over (before ++ rows) fault) → IsTrue (tells (below old)) → Streams view over (pages old) (limits (below old)).page table shown result
      leaf_refused view fault (Ok x) hold same refused told them whole holds = absurd same
      leaf_refused view fault (Err e) hold same refused told them whole holds = by (refused has.before has.given)
        where
          all : (has.before ++ rows) ++ map (as_shown shown table.shape.own) (rows_from later holds.entries) ≡ map (shown_source shown) them
          all = sym (more_are told holds.entries holds.used whole holds.tree) ∙ shown_of_rows shown table.shape.own holds.entries them (hold table.shape holds.entries them holds.each)

          by : IsRefusedFrom over (has.before ++ rows) fault → IsOutside e ⊎ (over (map (shown_source shown) them) ≡ Err (refusal_of e))
          by (inl memory) = inl (inl (same ∙ memory))
          by (inr why) =
              inr (ap over (sym all) ∙ (why (map (as_shown shown table.shape.own) (rows_from later holds.entries)) ∙ ap (λ (f : Fault). refusal (refusal_of f)) (sym same)))
            where
              refusal : Refusal → Answer Rows
              refusal r = Err r

  -- after the last leaf
  pub all_streamed : {X : Type 0} (view : X → Rows) (over : List Row → Answer Rows) (Is : List Row → Type 0) (old mid : P) (table : BoundSource) (shown : Option (List Place)) (at_root : ℕ) (next : Option ℤ) (result : Result X Fault)
      → HasStreamed Is old mid table shown at_root next → next ≡ None → HoldRows
      → ((rows : List Row) → Is rows → AnswersBy view (over rows) result) → IsTrue (tells (below old)) → Streams view over (pages old) (limits (below old)).page table shown result
  all_streamed view over Is old mid table shown at_root next result has none hold finish told rows whole holds =
      answers view (over (map (shown_source shown) rows)) result
      (subst (λ (l : List Row). AnswersBy view (over l) result) all (finish has.before has.given))
    where
      all : has.before ≡ map (shown_source shown) rows
      all =
          sym (append-nil has.before)
          ∙ (ap (λ (n : Option ℤ). has.before ++ map (as_shown shown table.shape.own) (rows_from n holds.entries)) (sym none)
          ∙ (sym (has.are told holds.entries holds.used whole holds.tree) ∙ shown_of_rows shown table.shape.own holds.entries rows (hold table.shape holds.entries rows holds.each)))

-- what is refused of some rows is refused of all that begin with them
pub refused_from : StayRefused → (q : Reading) → is_row_by_row q ≡ true → (rows : List Row) (fault : Fault) → IsRefusedBy (part_of q rows) fault → IsRefusedFrom (answer_on q) rows fault
refused_from stay q is rows fault (inl memory) = inl memory
refused_from stay q is rows fault (inr why) = inr (λ more. stay q rows more (refusal_of fault) is why)

-- ---- of a database

pub only_source : (l : Listed) (sources : List Named) (table : BoundSource) → ArePlaced l sources (Tree table ∷ []) → (s : Named) × (sources ≡ s ∷ []) × (option_map place_seen (table_named s.0 l.tables) ≡ Some table)
only_source l [] table placed = absurd placed
only_source l (s ∷ []) table placed = (s, refl, placed.0)
only_source l (s ∷ t ∷ ss) table placed = absurd placed.1

-- a query with a table as its one source
module _ (law : LoadsBeside) (pages : PageMap) (size : ℕ) (l : Listed) (room : ℕ) (db : Database) (stored : Stores pages size l db) (reading : Reading) (origins : List Origin) (table : BoundSource) (one : origins ≡ Tree table ∷ [])
    (placed : ArePlaced l reading.sources origins) where
  only : (s : Named) × (reading.sources ≡ s ∷ []) × (option_map place_seen (table_named s.0 l.tables) ≡ Some table)
  only = only_source l reading.sources table (subst (ArePlaced l reading.sources) one placed)

  -- its tree has the table's rows
  pub tree_has : HasRows pages size table.root table.shape (stored.rows_at table.root)
  tree_has = (has_source pages size l db stored reading.sources 0 only.0 table (ap (λ (them : List Named). slice_get them 0) only.1) only.2).has

  -- and is answered on these
  pub tree_answers : answer_within room db reading ≡ answer_on reading (map (shown_source None) (stored.rows_at table.root))
  tree_answers = answer_over law room db reading (map (shown_source None) (stored.rows_at table.root) ∷ []) each
    where
      each : rows_of_each room db reading.sources ≡ Ok (map (shown_source None) (stored.rows_at table.root) ∷ [])
      each =
          ap (rows_of_each room db) only.1
          ∙ ap (λ (a : Answer (List Row)). a then λ x. Ok (x ∷ [])) (tree_rows room stored.rows_at l db only.0.0 table stored.of_listed.lists only.2)

  pub bound_over : {X : Type 0} (view : X → Rows) (result : Result X Fault) → Streams view (answer_on reading) pages size table None result → AnswersOrFails view (answer_within room db reading) result
  bound_over view result streams =
      subst (λ (a : Answer Rows). AnswersOrFails view a result) (sym tree_answers) (streams (stored.rows_at table.root) stored.shared.whole tree_has)

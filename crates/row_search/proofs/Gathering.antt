-- The rows of a table's tree from a rowid on, leaf by leaf.
use Rattle.std.proofs.Common.{◌≡◌, refl, sym, ap, subst, ◌∙◌, ℕ, ℤ, Bool, true, false, not, cond, int_lt, List, [], ◌∷◌, ◌++◌, map, filter, Option, Some, None, IsTrue, Ok, Err, append_assoc, append-nil, arith}
use mathlib.Core.Bool.{true≢false}
use Rattle.std.proofs.lemmas.Int.{ints}
use Rattle.std.proofs.lemmas.List.Elements.{filter-append}
use Rattle.std.specs.Prelude.{Result, IsErrAnd, ◌||◌}
use Rattle.sqlval.specs.Faults.{IsOutside}
use Rattle.sqlval.specs.declared.fault.Fault.{Fault}
use Rattle.sqlval.specs.declared.value.Value.TheVariants.{Int}
use Rattle.tree_leaf.specs.Leaf.{Entry}
use Rattle.pages.specs.Calls.{Limits, Stays}
use Rattle.pages.specs.Map.{PageMap, AreWhole}
use Rattle.tree_page.specs.Cells.{Pairwise}
use Rattle.tree_overflow.proofs.ReadChains.{unrefused}
use Rattle.tree_table.specs.Rows.{rows_from}
use Rattle.tree_table.specs.Tree.{IsTableTree}
use Rattle.query_terms.specs.Values.{Row}
use Rattle.query_names.specs.declared.queries.BoundSource.{BoundSource}
use Rattle.catalog.specs.declared.tables.RowShape.{RowShape}
use Rattle.row_scan.specs.Rows.{IsRow, TableRow}
use Rattle.row_scan.specs.Sources.{GivesRows, HoldRows, as_held, as_source}
use Rattle.row_search.specs.Between.{LoadsBetween, comes_upto, is_from_to, is_upto}
use Rattle.row_search.proofs.LookedUp.{chosen_through}

-- ---- cut off

-- whether a row's rowid isn't before this one
abbrev is_since : ℤ → Row → Bool
is_since low row = elim row.rowid [ Int rowid ↦ not (int_lt rowid low) | _ ↦ false ]

still_past : (high next rowid : ℤ) → int_lt high next ≡ true → int_lt rowid next ≡ false → int_lt high rowid ≡ true
still_past high next rowid past since = grind (arith, ints)

-- past a rowid none comes that isn't
none_after : (own : Option ℕ) (high next : ℤ) → int_lt high next ≡ true → (entries : List Entry) → filter (is_upto high) (map (as_held own) (rows_from (Some next) entries)) ≡ []
none_after own high next past [] = refl
none_after own high next past (entry ∷ entries) = by (int_lt entry.rowid next) refl (none_after own high next past entries)
  where
    rest : List Entry
    rest = rows_from (Some next) entries

    by : (b : Bool) → int_lt entry.rowid next ≡ b → filter (is_upto high) (map (as_held own) rest) ≡ []
        → filter (is_upto high) (map (as_held own) (rows_from (Some next) (entry ∷ entries))) ≡ []
    by true e none = ap (λ t. filter (is_upto high) (map (as_held own) (cond (not t) (entry ∷ rest) rest))) e ∙ none
    by false e none =
        ap (λ t. filter (is_upto high) (map (as_held own) (cond (not t) (entry ∷ rest) rest))) e
        ∙ (ap (λ t. cond (not t) (as_held own entry ∷ filter (is_upto high) (map (as_held own) rest)) (filter (is_upto high) (map (as_held own) rest))) (still_past high next entry.rowid past e) ∙ none)

nothing_comes : (own : Option ℕ) (high : ℤ) (next : Option ℤ) → comes_upto next high ≡ false → (entries : List Entry) → filter (is_upto high) (map (as_held own) (rows_from next entries)) ≡ []
nothing_comes own high None past entries = refl
nothing_comes own high (Some next) past entries = none_after own high next (by (int_lt high next) past) entries
  where
    by : (b : Bool) → not b ≡ false → b ≡ true
    by true e = refl
    by false e = absurd (true≢false e)

-- what passes both tests
both_passed : (low high : ℤ) (rows : List TableRow)
    → filter (λ row. not (int_lt high row.0)) (filter (λ row. not (int_lt row.0 low)) rows) ≡ filter (λ row. is_from_to low high row.0) rows
both_passed low high [] = refl
both_passed low high (row ∷ rows) = by (int_lt row.0 low) refl (both_passed low high rows)
  where
    since : List TableRow
    since = filter (λ row. not (int_lt row.0 low)) rows

    upto : List TableRow → List TableRow
    upto them = filter (λ row. not (int_lt high row.0)) them

    both : List TableRow
    both = filter (λ row. is_from_to low high row.0) rows

    late : (b : Bool) → upto since ≡ both → cond (not b) (row ∷ upto since) (upto since) ≡ cond (not b) (row ∷ both) both
    late true rest = rest
    late false rest = ap (λ (them : List TableRow). row ∷ them) rest

    by : (a : Bool) → int_lt row.0 low ≡ a → upto since ≡ both → upto (filter (λ row. not (int_lt row.0 low)) (row ∷ rows)) ≡ filter (λ row. is_from_to low high row.0) (row ∷ rows)
    by true e rest =
        ap (λ t. upto (cond (not t) (row ∷ since) since)) e ∙ (rest ∙ sym (ap (λ t. cond (not (t || int_lt high row.0)) (row ∷ both) both) e))
    by false e rest =
        ap (λ t. upto (cond (not t) (row ∷ since) since)) e
        ∙ (late (int_lt high row.0) rest ∙ sym (ap (λ t. cond (not (t || int_lt high row.0)) (row ∷ both) both) e))

-- the rows up to a rowid of those that were read until none such comes
those_between : HoldRows → (shape : RowShape) (low high : ℤ) (next : Option ℤ) (entries : List Entry) (rows : List TableRow) (found : List Row) → Pairwise (IsRow shape) entries rows → comes_upto next high ≡ false
    → map (as_held shape.own) (rows_from (Some low) entries) ≡ found ++ map (as_held shape.own) (rows_from next entries) → filter (is_upto high) found ≡ map as_source (filter (λ row. is_from_to low high row.0) rows)
those_between hold shape low high next entries rows found each past are =
    sym (append-nil (filter (is_upto high) found))
    ∙ (ap (λ (them : List Row). filter (is_upto high) found ++ them) (sym (nothing_comes shape.own high next past entries))
    ∙ (sym (filter-append (is_upto high) found (map (as_held shape.own) (rows_from next entries)))
    ∙ (ap (filter (is_upto high)) (sym are)
    ∙ (ap (filter (is_upto high)) (sym (chosen_through (is_since low) (as_held shape.own) entries))
    ∙ (ap (λ (them : List Row). filter (is_upto high) (filter (is_since low) them)) (hold shape entries rows each)
    ∙ (ap (filter (is_upto high)) (chosen_through (is_since low) as_source rows)
    ∙ (chosen_through (is_upto high) as_source (filter (λ row. not (int_lt row.0 low)) rows) ∙ ap (map as_source) (both_passed low high rows))))))))

-- ---- leaf by leaf

module _ {P K : Type 0} (below : P → K) (tells : K → Bool) (limits : K → Limits) (pages : P → PageMap) (count : P → ℕ) (failures : P → ℕ × ℕ) where
  -- What is so after some leaves: the rows so far, and those that come, are those of all entries from a rowid on.
  pub record HasGathered (old now : P) (root at_root : ℕ) (own : Option ℕ) (low : ℤ) (next : Option ℤ) (found : List Row) : Type 0 where
    pub stays : Stays below pages count failures unrefused old now
    pub same_root : at_root ≡ root
    pub are : IsTrue (tells (below old)) → (entries : List Entry) (used : List ℕ) → AreWhole (limits (below old)).page (pages old) → IsTableTree (pages old) (limits (below old)).page root entries used
        → map (as_held own) (rows_from (Some low) entries) ≡ found ++ map (as_held own) (rows_from next entries)

  pub none_gathered : (old : P) (root at_root : ℕ) (own : Option ℕ) (low from : ℤ) (found : List Row) → at_root ≡ root → from ≡ low → found ≡ [] → HasGathered old old root at_root own low (Some from) found
  none_gathered old root at_root own low from found same from_is none = record {
    stays = record { kept = refl; same = refl; counted = refl; causes = record { db = omega arith; log = omega arith; why = tt } };
    same_root = same;
    are = λ told entries used whole tree.
        ap (λ (n : ℤ). map (as_held own) (rows_from (Some n) entries)) (sym from_is) ∙ ap (λ (them : List Row). them ++ map (as_held own) (rows_from (Some from) entries)) (sym none);
  }

  module _ (old mid : P) (table : BoundSource) (at_root : ℕ) (low : ℤ) (next later : Option ℤ) (found : List Row) (has : HasGathered old mid table.root at_root table.shape.own low next found) where
    -- what a leaf gives of the pages as they were
    given_since : (result : Result (List Row) Fault) → (IsTrue (tells (below mid)) → GivesRows (pages mid) (limits (below mid)).page at_root table.shape.own next later result) → IsTrue (tells (below old))
        → GivesRows (pages old) (limits (below old)).page table.root table.shape.own next later result
    given_since result gives told =
        subst (λ (n : ℕ). GivesRows (pages old) (limits (below old)).page n table.shape.own next later result) has.same_root
        (subst (λ (m : PageMap). GivesRows m (limits (below old)).page at_root table.shape.own next later result) has.stays.same
        (subst (λ (k : K). GivesRows (pages mid) (limits k).page at_root table.shape.own next later result) has.stays.kept (gives (subst (λ (k : K). IsTrue (tells k)) (sym has.stays.kept) told))))

    -- the leaf isn't read
    pub leaf_unread : (high : ℤ) (fault : Fault) (result : Result (List Row) Fault) → (IsTrue (tells (below mid)) → GivesRows (pages mid) (limits (below mid)).page at_root table.shape.own next later (Err fault))
        → IsErrAnd result (λ e. e ≡ fault) → IsTrue (tells (below old)) → LoadsBetween (pages old) (limits (below old)).page table low high result
    leaf_unread high fault (Ok rows) gives same told = absurd same
    leaf_unread high fault (Err e) gives same told = λ rows whole holds. subst IsOutside (sym same) (given_since (Err fault) gives told holds.entries holds.used whole holds.tree)

    -- its rows come after those before it
    pub leaf_gathered : (rows after : List Row) → (IsTrue (tells (below mid)) → GivesRows (pages mid) (limits (below mid)).page at_root table.shape.own next later (Ok rows)) → after ≡ found ++ rows
        → (new : P) (new_root : ℕ) → new_root ≡ at_root → Stays below pages count failures unrefused old new → HasGathered old new table.root new_root table.shape.own low later after
    leaf_gathered rows after gives put new new_root same stays = record {
      stays = stays;
      same_root = same ∙ has.same_root;
      are = λ told entries used whole tree.
          has.are told entries used whole tree
          ∙ (ap (λ (them : List Row). found ++ them) (given_since (Ok rows) gives told entries used whole tree)
          ∙ (sym (append_assoc found rows (map (as_held table.shape.own) (rows_from later entries))) ∙ ap (λ (them : List Row). them ++ map (as_held table.shape.own) (rows_from later entries)) (sym put)));
    }

  -- no more of them comes
  pub all_gathered : HoldRows → (old mid : P) (table : BoundSource) (at_root : ℕ) (low high : ℤ) (next : Option ℤ) (found result : List Row) → HasGathered old mid table.root at_root table.shape.own low next found
      → comes_upto next high ≡ false → result ≡ filter (is_upto high) found → IsTrue (tells (below old)) → LoadsBetween (pages old) (limits (below old)).page table low high (Ok result)
  all_gathered hold old mid table at_root low high next found result has past is told = λ rows whole holds.
      (is ∙ those_between hold table.shape low high next holds.entries rows found holds.each past (has.are told holds.entries holds.used whole holds.tree))

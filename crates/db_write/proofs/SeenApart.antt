-- Rows that are seen to clash with no other, in the trees of indexes that are read from their beginnings.
use Rattle.std.proofs.Common.{◌≡◌, inl, inr, refl, sym, ap, subst, ◌∙◌, ◌<◌, ◌≤◌, ◌+◌, ◌||◌, ℕ, Bool, true, false, IsTrue, List, [], ◌∷◌, ◌++◌, length, drop, slice_index_or, Ok, Err}
use Rattle.std.specs.Prelude.{IsErrAnd, Result}
use Rattle.std.specs.List.{AllByRecursion, list_any}
use Rattle.std.proofs.lemmas.Bool.{false≢true}
use Rattle.std.proofs.lemmas.List.{drop_all, drop_more}
use Rattle.sqlval.specs.Faults.{IsOutside}
use Rattle.sqlval.specs.Lists.{any_twice}
use Rattle.sqlval.specs.declared.fault.Fault.{Fault}
use Rattle.sqlval.specs.declared.fault.Fault.TheVariants.{Memory}
use Rattle.pages.specs.Map.{AreWhole, PageMap}
use Rattle.catalog.specs.Database as database
use Rattle.catalog.specs.declared.tables.Index.{Index}
use Rattle.query_names.specs.Keys.{clash, has_clash}
use Rattle.row_scan.specs.Rows.{TableRow}
use Rattle.row_search.specs.Found.{HasEntriesOf}
use Rattle.index_entries.specs.Alone.{clashes}
use Rattle.index_build.specs.Calls.{SeesKeysApart}
use Rattle.index_build.proofs.OneKeys.{clash_back, unique_of}
use Rattle.index_build.proofs.SameClashes.{clash_alike}
use Rattle.db_layout.specs.Trees.{columns_of}
use Rattle.db_write.specs.Kept.{AreAloneIn, ClashesWithNone, SeeApart, SeesApart}
use Rattle.db_write.specs.OneRow.{IsOneOf}
use Rattle.db_write.proofs.LookedAt.{at_place}

neither : (a b : Bool) → a || b ≡ false → (a ≡ false) × (b ≡ false)
neither true b e = absurd (false≢true (sym e))
neither false b e = (refl, e)

both_false : (a b : Bool) → a ≡ false → b ≡ false → a || b ≡ false
both_false a b first second = ap (λ (t : Bool). t || b) first ∙ second

-- ---- rows of which no two clash

module _ {X : Type 0} (test : X → X → Bool) (even : (x y : X) → test x y ≡ test y x) where
  at_middle : (p : X → Bool) (before : List X) (x : X) (after : List X) → list_any p (before ++ x ∷ after) ≡ false → p x ≡ false
  at_middle p [] x after none = (neither (p x) (list_any p after) none).0
  at_middle p (y ∷ before) x after none = at_middle p before x after (neither (p y) (list_any p (before ++ x ∷ after)) none).1

  none_beside : (before : List X) (x : X) (after : List X) → any_twice test (before ++ x ∷ after) ≡ false → list_any (test x) (before ++ after) ≡ false
  none_beside [] x after none = (neither (list_any (test x) after) (any_twice test after) none).0
  none_beside (y ∷ before) x after none =
      let parts = neither (list_any (test y) (before ++ x ∷ after)) (any_twice test (before ++ x ∷ after)) none in
      both_false (test x y) (list_any (test x) (before ++ after)) (even x y ∙ at_middle (test y) before x after parts.0) (none_beside before x after parts.1)

module _ (index : Index) where
  abbrev its : database.Index
  its = unique_of true (columns_of index)

  alike : (row : TableRow) (others : List TableRow) → list_any (clashes (columns_of index) row) others ≡ list_any (λ (other : TableRow). clash its row.1 other.1) others
  alike row [] = refl
  alike row (other ∷ others) =
      ap (λ (b : Bool). b || list_any (clashes (columns_of index) row) others) (clash_alike its row other refl)
      ∙ ap (λ (b : Bool). clash its row.1 other.1 || b) (alike row others)

  one_clashes : (rows : List TableRow) → has_clash its rows ≡ false → (row : TableRow) → ClashesWithNone rows index row
  one_clashes rows none row before after are =
      alike row (before ++ after)
      ∙ none_beside (λ (r : TableRow) (s : TableRow). clash its r.1 s.1) (clash_back index.columns its refl refl) before row after (ap (has_clash its) are ∙ none)

  none_clash : (rows those : List TableRow) → has_clash its rows ≡ false → AllByRecursion (ClashesWithNone rows index) those
  none_clash rows [] none = tt
  none_clash rows (row ∷ those) none = (one_clashes rows none row, none_clash rows those none)

-- what is so of all rows is so of those that are among them
one_of_all : (P : TableRow → Type 0) (rows : List TableRow) (row : TableRow) → IsOneOf row rows → AllByRecursion P rows → P row
one_of_all P [] row one all = absurd one
one_of_all P (other ∷ rows) row (inl is) all = subst P (sym is) all.0
one_of_all P (other ∷ rows) row (inr later) all = one_of_all P rows row later all.1

some_of_all : (P : TableRow → Type 0) (rows those : List TableRow) → AllByRecursion (λ row. IsOneOf row rows) those → AllByRecursion P rows → AllByRecursion P those
some_of_all P rows [] among all = tt
some_of_all P rows (row ∷ those) among all = (one_of_all P rows row among.0 all, some_of_all P rows those among.1 all)

pub some_alone : (rows those : List TableRow) (indexes : List Index) → AllByRecursion (λ row. IsOneOf row rows) those → AllByRecursion (AreAloneIn rows rows) indexes → AllByRecursion (AreAloneIn rows those) indexes
some_alone rows those [] among alone = tt
some_alone rows those (index ∷ indexes) among alone =
    (λ unique. some_of_all (ClashesWithNone rows index) rows those among (alone.0 unique), some_alone rows those indexes among alone.1)

-- ---- one index

module _ (pages : PageMap) (size : ℕ) (index : Index) where
  -- its keys were looked at
  pub keys_seen : (result : Result Bool Fault) → SeesKeysApart pages size index.root index.columns result → SeesApart pages size index result
  keys_seen (Ok apart) sees = λ rows whole has so unique. none_clash index rows rows (sees (its index) rows has.0 refl refl whole has.1 so)
  keys_seen (Err fault) sees = λ rows whole has. sees (its index) rows has.0 refl refl whole has.1

  -- the index isn't UNIQUE
  pub plain_apart : index.is_unique ≡ false → SeesApart pages size index (Ok true)
  plain_apart plain rows whole has so unique = absurd (false≢true (sym plain ∙ unique))

  -- memory was short
  pub keys_unseen : (fault : Fault) (result : Result Bool Fault) → IsErrAnd result (λ e. e ≡ fault) → fault ≡ Memory → SeesApart pages size index result
  keys_unseen fault (Ok apart) same short = absurd same
  keys_unseen fault (Err e) same short = λ rows whole has. inl (same ∙ short)

-- ---- one index after another

-- of these indexes those from here on decide
abbrev pub ApartOn : PageMap → ℕ → List Index → List Index → Type 0
ApartOn pages size indexes left = (rows : List TableRow) → AreWhole size pages → AllByRecursion (HasEntriesOf pages size rows) indexes
    → AllByRecursion (AreAloneIn rows rows) left → AllByRecursion (AreAloneIn rows rows) indexes

module _ (pages : PageMap) (size : ℕ) (indexes : List Index) where
  pub apart_first : ApartOn pages size indexes indexes
  apart_first rows whole has all = all

  module _ (i : ℕ) (index : Index) (lt : i < length indexes) (at : index ≡ slice_index_or indexes i index) where
    -- one more
    pub apart_on : (apart : Bool) → IsTrue apart → SeesApart pages size index (Ok apart) → ApartOn pages size indexes (drop i indexes) → ApartOn pages size indexes (drop (i + 1) indexes)
    apart_on apart so sees so_far rows whole has all =
        so_far rows whole has
        (subst (AllByRecursion (AreAloneIn rows rows)) (sym (drop_more indexes i index lt ∙ ap (λ (x : Index). x ∷ drop (i + 1) indexes) (sym at)))
        (sees rows whole (at_place (HasEntriesOf pages size rows) indexes i index lt at has) so, all))

    -- one isn't read
    pub apart_stop : (fault : Fault) (result : Result Bool Fault) → IsErrAnd result (λ e. e ≡ fault) → SeesApart pages size index (Err fault) → SeeApart pages size indexes result
    apart_stop fault (Ok apart) same sees = absurd same
    apart_stop fault (Err e) same sees = λ rows whole has. subst IsOutside (sym same) (sees rows whole (at_place (HasEntriesOf pages size rows) indexes i index lt at has))

  pub apart_end : (i : ℕ) → length indexes ≤ i → ApartOn pages size indexes (drop i indexes) → SeeApart pages size indexes (Ok true)
  apart_end i le so_far rows whole has so = so_far rows whole has (subst (AllByRecursion (AreAloneIn rows rows)) (sym (drop_all i indexes le)) tt)

  -- nothing is said
  pub apart_unsaid : SeeApart pages size indexes (Ok false)
  apart_unsaid rows whole has so = absurd (false≢true so)

-- Rows that are looked at one after another, in the trees of indexes, which stay as they are.
use Rattle.std.proofs.Common.{◌≡◌, inl, refl, sym, ap, subst, ◌∙◌, ◌<◌, ◌≤◌, ◌+◌, ℕ, zero, suc, Bool, true, false, not, IsTrue, List, [], ◌∷◌, ◌++◌, length, map, drop, slice_index_or, Ok, Err, arith}
use Rattle.std.specs.Prelude.{IsErrAnd, Result, ⊤}
use Rattle.std.specs.List.{AllByRecursion, list_any}
use Rattle.std.proofs.lemmas.Bool.{false≢true}
use Rattle.std.proofs.lemmas.List.{drop_all, drop_more}
use Rattle.sqlval.specs.Faults.{IsOutside}
use Rattle.sqlval.specs.declared.fault.Fault.{Fault}
use Rattle.sqlval.specs.declared.fault.Fault.TheVariants.{Memory}
use Rattle.pages.specs.Calls.{Stays}
use Rattle.pages.specs.Map.{AreWhole, PageMap}
use Rattle.tree_index.specs.Tree.{IsIndexTree}
use Rattle.catalog.specs.declared.tables.Index.{Index}
use Rattle.catalog.specs.declared.tables.TableRow as stored
use Rattle.row_scan.specs.Rows.{TableRow}
use Rattle.row_search.specs.Found.{HasEntriesOf}
use Rattle.index_entries.specs.Alone.{clashes}
use Rattle.index_entries.specs.Entries.{AreApart, collations, entries_of_rows}
use Rattle.index_entries.specs.Keeping.{row_in}
use Rattle.index_entries.specs.Others.{FindsAlone}
use Rattle.db_layout.specs.Trees.{columns_of}
use Rattle.db_write.specs.Kept.{AreAloneIn, ClashesWithNone, SeeAlone, SeesAlone}
use Rattle.db_write.specs.OneRow.{IsOneOf}
use Rattle.db_write.proofs.TurnedRows.{Split, split_at}

pub at_place : {X : Type 0} (P : X → Type 0) (xs : List X) (i : ℕ) (x : X) → i < length xs → x ≡ slice_index_or xs i x → AllByRecursion P xs → P x
at_place P [] i x lt is all = absurd (omega (arith, lt))
at_place P (y ∷ xs) zero x lt is all = subst P (sym is) all.0
at_place P (y ∷ xs) (suc i) x lt is all = at_place P xs i x (omega (arith, lt)) is all.1

-- ---- what stays

abbrev pub unrefused : Result ⊤ Fault
unrefused = Ok tt

module _ {P K : Type 0} (below : P → K) (pages : P → PageMap) (count : P → ℕ) (failures : P → ℕ × ℕ) where
  -- nothing was read
  pub stays_first : (old : P) → Stays below pages count failures unrefused old old
  stays_first old = record { kept = refl; same = refl; counted = refl; causes = record { db = omega arith; log = omega arith; why = tt } }

-- ---- the rows of one index

-- of these rows those from here on decide
abbrev pub RowsOn : PageMap → ℕ → Index → List TableRow → List TableRow → Type 0
RowsOn pages size index those left = (rows : List TableRow) → AreApart rows → AreWhole size pages → HasEntriesOf pages size rows index
    → AllByRecursion (ClashesWithNone rows index) left → AllByRecursion (ClashesWithNone rows index) those

pub rows_on_first : (pages : PageMap) (size : ℕ) (index : Index) (those : List TableRow) → RowsOn pages size index those those
rows_on_first pages size index those rows apart whole has all = all

is_none : (b : Bool) → not b ≡ true → b ≡ false
is_none true e = absurd (false≢true e)
is_none false e = refl

module _ (pages : PageMap) (size : ℕ) (index : Index) (row : TableRow) where
  -- the row clashes with none
  row_alone : FindsAlone pages size index.root (columns_of index) row (Ok true) → (rows : List TableRow) → AreApart rows → AreWhole size pages → HasEntriesOf pages size rows index → ClashesWithNone rows index row
  row_alone finds rows apart whole has before after are =
      is_none (list_any (clashes (columns_of index) row) (before ++ after))
      (sym (finds before after has.0 (subst AreApart (sym are) apart) whole
      (subst (λ (rs : List TableRow). IsIndexTree pages size index.root (collations (columns_of index)) (entries_of_rows (columns_of index) rs) has.0) (sym are) has.1)))

  -- it isn't read
  row_unread : (fault : Fault) → FindsAlone pages size index.root (columns_of index) row (Err fault) → (rows : List TableRow) → AreApart rows → AreWhole size pages → HasEntriesOf pages size rows index → IsOneOf row rows → IsOutside fault
  row_unread fault finds rows apart whole has one = by (split_at row rows one)
    where
      by : Split row rows → IsOutside fault
      by s = finds s.front s.back has.0 (subst AreApart (sym s.are) apart) whole
          (subst (λ (rs : List TableRow). IsIndexTree pages size index.root (collations (columns_of index)) (entries_of_rows (columns_of index) rs) has.0) (sym s.are) has.1)

module _ (pages : PageMap) (size : ℕ) (index : Index) (those : List stored.TableRow) (i : ℕ) (row : stored.TableRow) (lt : i < length those) (at : row ≡ slice_index_or those i row) where
  further : map row_in (drop i those) ≡ row_in row ∷ map row_in (drop (i + 1) those)
  further = ap (map row_in) (drop_more those i row lt ∙ ap (λ (r : stored.TableRow). r ∷ drop (i + 1) those) (sym at))

  -- one more is alone
  pub rows_on : FindsAlone pages size index.root (columns_of index) (row_in row) (Ok true) → RowsOn pages size index (map row_in those) (map row_in (drop i those)) → RowsOn pages size index (map row_in those) (map row_in (drop (i + 1) those))
  rows_on finds so_far rows apart whole has all =
      so_far rows apart whole has
      (subst (AllByRecursion (ClashesWithNone rows index)) (sym further) (row_alone pages size index (row_in row) finds rows apart whole has, all))

  one_of : (rows : List TableRow) → AllByRecursion (λ r. IsOneOf r rows) (map row_in those) → IsOneOf (row_in row) rows
  one_of rows among = by those i lt at among
    where
      by : (them : List stored.TableRow) (n : ℕ) → n < length them → row ≡ slice_index_or them n row → AllByRecursion (λ r. IsOneOf r rows) (map row_in them) → IsOneOf (row_in row) rows
      by [] n less is all = absurd (omega (arith, less))
      by (r ∷ them) zero less is all = subst (λ (x : stored.TableRow). IsOneOf (row_in x) rows) (sym is) all.0
      by (r ∷ them) (suc n) less is all = by them n (omega (arith, less)) is all.1

  -- one isn't read
  pub rows_stop : (fault : Fault) (result : Result Bool Fault) → IsErrAnd result (λ e. e ≡ fault) → FindsAlone pages size index.root (columns_of index) (row_in row) (Err fault) → SeesAlone pages size index (map row_in those) result
  rows_stop fault (Ok alone) same finds = absurd same
  rows_stop fault (Err e) same finds = λ rows apart whole has among. subst IsOutside (sym same) (row_unread pages size index (row_in row) fault finds rows apart whole has (one_of rows among))

-- all are alone
pub rows_end : (pages : PageMap) (size : ℕ) (index : Index) (those : List stored.TableRow) (i : ℕ) → length those ≤ i → RowsOn pages size index (map row_in those) (map row_in (drop i those)) → SeesAlone pages size index (map row_in those) (Ok true)
rows_end pages size index those i le so_far rows apart whole has among so unique =
    so_far rows apart whole has (subst (λ (them : List stored.TableRow). AllByRecursion (ClashesWithNone rows index) (map row_in them)) (sym (drop_all i those le)) tt)

-- nothing is said
pub not_said : (pages : PageMap) (size : ℕ) (index : Index) (those : List TableRow) → SeesAlone pages size index those (Ok false)
not_said pages size index those rows apart whole has among so = absurd (false≢true so)

-- the index isn't UNIQUE
pub not_unique : (pages : PageMap) (size : ℕ) (index : Index) (those : List TableRow) → index.is_unique ≡ false → SeesAlone pages size index those (Ok true)
not_unique pages size index those plain rows apart whole has among so unique = absurd (false≢true (sym plain ∙ unique))

-- memory was short
pub not_seen : (pages : PageMap) (size : ℕ) (index : Index) (those : List TableRow) (fault : Fault) (result : Result Bool Fault) → IsErrAnd result (λ e. e ≡ fault) → fault ≡ Memory → SeesAlone pages size index those result
not_seen pages size index those fault (Ok alone) same short = absurd same
not_seen pages size index those fault (Err e) same short = λ rows apart whole has among. inl (same ∙ short)

-- ---- one index after another

-- of these indexes those from here on decide
abbrev pub IndexesOn : PageMap → ℕ → List Index → List TableRow → List Index → Type 0
IndexesOn pages size indexes those left = (rows : List TableRow) → AreApart rows → AreWhole size pages → AllByRecursion (HasEntriesOf pages size rows) indexes → AllByRecursion (λ row. IsOneOf row rows) those
    → AllByRecursion (AreAloneIn rows those) left → AllByRecursion (AreAloneIn rows those) indexes

pub indexes_on_first : (pages : PageMap) (size : ℕ) (indexes : List Index) (those : List TableRow) → IndexesOn pages size indexes those indexes
indexes_on_first pages size indexes those rows apart whole has among all = all

module _ (pages : PageMap) (size : ℕ) (indexes : List Index) (those : List TableRow) (i : ℕ) (index : Index) (lt : i < length indexes) (at : index ≡ slice_index_or indexes i index) where
  -- one more
  pub indexes_on : (alone : Bool) → IsTrue alone → SeesAlone pages size index those (Ok alone) → IndexesOn pages size indexes those (drop i indexes) → IndexesOn pages size indexes those (drop (i + 1) indexes)
  indexes_on alone so sees so_far rows apart whole has among all =
      so_far rows apart whole has among
      (subst (AllByRecursion (AreAloneIn rows those)) (sym (drop_more indexes i index lt ∙ ap (λ (x : Index). x ∷ drop (i + 1) indexes) (sym at)))
      (sees rows apart whole (at_place (HasEntriesOf pages size rows) indexes i index lt at has) among so, all))

  -- one isn't read
  pub indexes_stop : (fault : Fault) (result : Result Bool Fault) → IsErrAnd result (λ e. e ≡ fault) → SeesAlone pages size index those (Err fault) → SeeAlone pages size indexes those result
  indexes_stop fault (Ok alone) same sees = absurd same
  indexes_stop fault (Err e) same sees = λ rows apart whole has among. subst IsOutside (sym same) (sees rows apart whole (at_place (HasEntriesOf pages size rows) indexes i index lt at has) among)

pub indexes_end : (pages : PageMap) (size : ℕ) (indexes : List Index) (those : List TableRow) (i : ℕ) → length indexes ≤ i → IndexesOn pages size indexes those (drop i indexes) → SeeAlone pages size indexes those (Ok true)
indexes_end pages size indexes those i le so_far rows apart whole has among so =
    so_far rows apart whole has among (subst (AllByRecursion (AreAloneIn rows those)) (sym (drop_all i indexes le)) tt)

pub none_said : (pages : PageMap) (size : ℕ) (indexes : List Index) (those : List TableRow) → SeeAlone pages size indexes those (Ok false)
none_said pages size indexes those rows apart whole has among so = absurd (false≢true so)

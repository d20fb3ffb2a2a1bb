-- What setting rows that are kept comes to: the indexes' trees have their entries as they stand.
use Rattle.std.proofs.Common.{◌≡◌, inl, refl, sym, ap, subst, ◌∙◌, ◌&&◌, ◌||◌, ℕ, Bool, true, false, not, List, [], ◌∷◌, ◌++◌, map, slice_get, slice_index_or, IsTrue, Option, None, Some, Ok, Err, arith}
use Rattle.std.specs.Prelude.{IsErrAnd, MatchResult, Result, unwrap_or, ⊤}
use Rattle.std.specs.Global.{Vec}
use Rattle.std.specs.List.{AllByRecursion, list_any}
use Rattle.std.proofs.lemmas.Bool.{false≢true}
use Rattle.std.proofs.lemmas.Option.{unwrap_or-slice_get}
use Rattle.sqlval.specs.Faults.{IsOutside}
use Rattle.sqlval.specs.Lists.{sorted}
use Rattle.sqlval.specs.PageSizes.{IsPageSize}
use Rattle.sqlval.specs.Refusals.{Answer}
use Rattle.sqlval.specs.declared.collation.Collation.{Collation}
use Rattle.sqlval.specs.declared.fault.Fault.{Fault}
use Rattle.sqlval.specs.declared.value.Value.{Value}
use Rattle.sqlval.specs.declared.value.Value.TheVariants.{Int, Null}
use Rattle.pages.specs.Calls.{IsOutsideOrFull}
use Rattle.pages.specs.Map.{PageMap}
use Rattle.tree_page.specs.Cells.{Pairwise}
use Rattle.tree_index.specs.Entries.{Entry, entry_cmp}
use Rattle.tree_table.specs.declared.changing.RowChange.{RowChange}
use Rattle.db_layout.specs.Layout.{OfEntries, Owner}
use Rattle.catalog.specs.Listed.{with_rows}
use Rattle.catalog.specs.Rows.{are_rows}
use Rattle.catalog.specs.declared.tables.Index.{Index}
use Rattle.catalog.specs.declared.tables.IndexColumn.{IndexColumn}
use Rattle.catalog.specs.declared.tables.Table.{Table}
use Rattle.catalog.specs.declared.tables.TableRow as stored
use Rattle.query_terms.specs.Terms.{Term}
use Rattle.query_terms.specs.Values.{Row}
use Rattle.row_scan.specs.Rows.{TableRow}
use Rattle.row_scan.specs.Sources.{as_source}
use Rattle.row_search.specs.Found.{HasIndexed}
use Rattle.row_change.specs.Agreement.{has_unique}
use Rattle.row_change.specs.Choosing.{chosen_or_all}
use Rattle.row_change.specs.Demands.{is_alone}
use Rattle.row_change.specs.Keeping.{HaveOneKey, IsAloneAmong, IsKept, KeepsAll, PutsKept, SetsKeptAsEach}
use Rattle.row_change.specs.Meaning.{AreEnough}
use Rattle.row_change.specs.Setting.{keeps_rowids, rows_beside}
use Rattle.row_change.specs.Updating.{AreSetIn}
use Rattle.row_change.proofs.KeptKeys.{chosen_known}
use Rattle.row_change.proofs.KeptRows.{rows_kept}
use Rattle.row_change.proofs.Rising.{Rises, fit_rows_rise}
use Rattle.row_change.proofs.SetTrees.{meant_by}
use Rattle.index_entries.specs.Alone.{clashes}
use Rattle.index_entries.specs.Entries.{collations, entries_of_rows, indexed}
use Rattle.index_entries.specs.Keeping.{columns_in, row_in}
use Rattle.db_layout.specs.Trees.{AreAmong, IsEntriesTree, columns_of}
use Rattle.db_write.specs.Changing.{AreUpdated, IsRefusedUpdate, UpdatesInTrees}
use Rattle.db_write.specs.Kept.{AreAloneIn, AreSetAlone, FindsKept, KeysRise, SeeAlone, SeeApart}
use Rattle.db_write.specs.OneRow.{IsOneOf}
use Rattle.db_write.specs.Reading.{LoadsEnough}
use Rattle.db_write.specs.Turning.{HaveEntries, HaveNow, clashes_among, clashes_at}
use Rattle.db_write.proofs.Among.{keeps_all}
use Rattle.db_write.proofs.Clashing as clashing
use Rattle.db_write.proofs.Needed.{MeansRows, has_indexed, source}
use Rattle.db_write.proofs.Owned.{RowsStand, fit_apart, indexes_stand, rows_among, table_holds}
use Rattle.db_write.proofs.PutRows.{others_left}
use Rattle.db_write.proofs.RisenKeys.{risen_alone}
use Rattle.db_write.proofs.SeenApart.{some_alone}
use Rattle.db_write.proofs.SetShuffles.{meant_are}
use Rattle.db_write.proofs.TurnedRows.{Split, in_filter, split_at}

-- ---- entries

value_same : (before after : List Value) (place : ℕ) → slice_get before place ≡ slice_get after place → slice_index_or before place Null ≡ slice_index_or after place Null
value_same before after place same = sym (unwrap_or-slice_get before place Null) ∙ (ap (λ (o : Option Value). unwrap_or o Null) same ∙ unwrap_or-slice_get after place Null)

key_same : (before after : List Value) (columns : List IndexColumn) → AllByRecursion (λ (column : IndexColumn). slice_get before column.place ≡ slice_get after column.place) columns
    → map (λ (column : ℕ × Collation). slice_index_or before column.0 Null) (columns_in columns) ≡ map (λ (column : ℕ × Collation). slice_index_or after column.0 Null) (columns_in columns)
key_same before after [] all = refl
key_same before after (c ∷ columns) all =
    ap (λ (v : Value). v ∷ map (λ (column : ℕ × Collation). slice_index_or before column.0 Null) (columns_in columns)) (value_same before after c.place all.0)
    ∙ ap (λ (vs : List Value). slice_index_or after c.place Null ∷ vs) (key_same before after columns all.1)

entry_same : (index : Index) (row now : TableRow) → now.0 ≡ row.0 → HaveOneKey row.1 now.1 index → indexed (columns_of index) row ≡ indexed (columns_of index) now
entry_same index row now rowid key =
    ap (λ (vs : List Value). vs ++ Int row.0 ∷ []) (key_same row.1 now.1 index.columns key) ∙ ap (λ n. map (λ (column : ℕ × Collation). slice_index_or now.1 column.0 Null) (columns_of index) ++ Int n ∷ []) (sym rowid)

-- rows have the same entries in an index
abbrev HaveSame : List TableRow → List TableRow → Index → Type 0
HaveSame rows now index = entries_of_rows (columns_of index) rows ≡ entries_of_rows (columns_of index) now

abbrev KeptIn : List Index → TableRow → TableRow → Type 0
KeptIn indexes row now = (now.0 ≡ row.0) × AllByRecursion (HaveOneKey row.1 now.1) indexes

kept_in : (table : Table) (rows now : List TableRow) → Pairwise (IsKept table) rows now → Pairwise (KeptIn table.indexes) rows now
kept_in table [] [] all = tt
kept_in table [] (y ∷ now) all = absurd all
kept_in table (x ∷ rows) [] all = absurd all
kept_in table (x ∷ rows) (y ∷ now) all = ((all.0.rowid, all.0.keys), kept_in table rows now all.1)

later_kept : (index : Index) (indexes : List Index) (rows now : List TableRow) → Pairwise (KeptIn (index ∷ indexes)) rows now → Pairwise (KeptIn indexes) rows now
later_kept index indexes [] [] all = tt
later_kept index indexes [] (y ∷ now) all = absurd all
later_kept index indexes (x ∷ rows) [] all = absurd all
later_kept index indexes (x ∷ rows) (y ∷ now) all = ((all.0.0, all.0.1.1), later_kept index indexes rows now all.1)

all_same : (index : Index) (indexes : List Index) (rows now : List TableRow) → Pairwise (KeptIn (index ∷ indexes)) rows now → map (indexed (columns_of index)) rows ≡ map (indexed (columns_of index)) now
all_same index indexes [] [] all = refl
all_same index indexes [] (y ∷ now) all = absurd all
all_same index indexes (x ∷ rows) [] all = absurd all
all_same index indexes (x ∷ rows) (y ∷ now) all =
    ap (λ (e : Entry). e ∷ map (indexed (columns_of index)) rows) (entry_same index x y all.0.0 all.0.1.0) ∙ ap (λ (es : List Entry). indexed (columns_of index) y ∷ es) (all_same index indexes rows now all.1)

have_same : (indexes : List Index) (rows now : List TableRow) → Pairwise (KeptIn indexes) rows now → AllByRecursion (HaveSame rows now) indexes
have_same [] rows now all = tt
have_same (index ∷ indexes) rows now all =
    (ap (λ (es : List Entry). sorted (entry_cmp (collations (columns_of index))) es) (all_same index indexes rows now all), have_same indexes rows now (later_kept index indexes rows now all))

-- the trees of the indexes have the entries of the rows that are kept
trees_stay : (pages : PageMap) (size : ℕ) (schema : Owner) (before : List Owner) (indexes : List Index) (rows now : List TableRow) (after : List Owner) → AllByRecursion (HaveSame rows now) indexes
    → HaveEntries pages size schema before indexes rows after → HaveNow pages pages size schema before indexes now after
trees_stay pages size schema before indexes rows now after same have = record {
  have = record { mine = have.mine; each = all indexes have.mine same have.each; free = have.free; shared = have.shared };
  header = keeps_all pages;
  longer = omega arith;
}
  where
    one : (index : Index) (owner : Owner) → HaveSame rows now index → IsEntriesTree rows index owner → IsEntriesTree now index owner
    one index owner same is = record { root_is = is.root_is; content_is = subst (λ (es : List Entry). owner.content ≡ OfEntries (collations (columns_of index)) es) same is.content_is }

    all : (indexes : List Index) (mine : List Owner) → AllByRecursion (HaveSame rows now) indexes → Pairwise (IsEntriesTree rows) indexes mine → Pairwise (IsEntriesTree now) indexes mine
    all [] [] same each = tt
    all [] (owner ∷ mine) same each = absurd each
    all (index ∷ indexes) [] same each = absurd each
    all (index ∷ indexes) (owner ∷ mine) same each = (one index owner same.0 each.0, all indexes mine same.1 each.1)

-- ---- the tree of the table alone changes

module _ (old : PageMap) (size : ℕ) (table : Table) (c : Option Term) (sets : List (ℕ × Term)) (found : List Row) (loads : LoadsEnough old size table c (Ok found)) where
  -- the changes aren't found
  pub none_found : (new : PageMap) (fault : Fault) (result : Result ⊤ Fault) → IsErrAnd result (λ e. e ≡ fault) → FindsKept old size table c sets found (Err fault) → UpdatesInTrees old new size table c sets result
  none_found new fault (Ok done) same finds = absurd same
  none_found new fault (Err e) same finds = λ schema before after rows sized is_root among fit.
      subst (λ (f : Fault). IsRefusedUpdate table c sets rows f) (sym same) (finds schema before after rows sized is_root among fit (loads schema before after rows sized is_root among fit))

  pub kept_set : (new : PageMap) (changes : Vec RowChange) (result : Result ⊤ Fault) → keeps_rowids table sets ≡ true → FindsKept old size table c sets found (Ok (Some changes)) → PutsKept old new size table changes.items result
      → UpdatesInTrees old new size table c sets result
  kept_set new changes result stays finds puts schema before after rows sized is_root among fit =
      by result (puts sets c rows s.entries s.used s.free stays s.stands s.each k.kept)
    where
      s : RowsStand old size schema before table rows after
      s = rows_among old size schema before table rows after among sized is_root

      k : AreSetAlone table sets c rows changes.items
      k = finds schema before after rows sized is_root among fit (loads schema before after rows sized is_root among fit)

      by : (r : Result ⊤ Fault) → MatchResult r (λ done. AreSetIn old new size table.root table sets c rows s.used s.free) IsOutsideOrFull
          → MatchResult r (λ done. AreUpdated old new size schema before table c sets rows after) (IsRefusedUpdate table c sets rows)
      by (Ok done) set = record {
        now = set.now;
        answer = k.as_each ∙ set.answer;
        hold = record {
          holds = table_holds old new size schema before table rows after s set.entries set.becomes new set.now set.each
              (trees_stay new size schema _ table.indexes rows set.now after
              (have_same table.indexes rows set.now (kept_in table rows set.now (rows_kept table sets c rows set.now changes.items k.kept set.answer)))
              (indexes_stand old new size schema before table rows after s set.entries set.becomes));
          fit = set.fit fit;
        };
      }
      by (Err fault) outside = inl outside

-- ---- each is alone

both_false : (a b : Bool) → a ≡ false → b ≡ false → a || b ≡ false
both_false a b first second = ap (λ (t : Bool). t || b) first ∙ second

neither : (a b : Bool) → a || b ≡ false → (a ≡ false) × (b ≡ false)
neither true b e = absurd (false≢true (sym e))
neither false b e = (refl, e)

heads_alone : (rows : List TableRow) (row : TableRow) (those : List TableRow) (indexes : List Index) → AllByRecursion (AreAloneIn rows (row ∷ those)) indexes → (before after : List TableRow) → before ++ row ∷ after ≡ rows
    → clashes_among indexes row (before ++ after) ≡ false
heads_alone rows row those [] alone before after are = refl
heads_alone rows row those (index ∷ indexes) alone before after are =
    both_false (clashes_at index row (before ++ after)) (clashes_among indexes row (before ++ after)) (by index.is_unique refl) (heads_alone rows row those indexes alone.1 before after are)
  where
    by : (b : Bool) → index.is_unique ≡ b → clashes_at index row (before ++ after) ≡ false
    by true unique = ap (λ (t : Bool). t && list_any (clashes (columns_of index) row) (before ++ after)) unique ∙ (alone.0 unique).0 before after are
    by false plain = ap (λ (t : Bool). t && list_any (clashes (columns_of index) row) (before ++ after)) plain

tails_alone : (rows : List TableRow) (row : TableRow) (those : List TableRow) (indexes : List Index) → AllByRecursion (AreAloneIn rows (row ∷ those)) indexes → AllByRecursion (AreAloneIn rows those) indexes
tails_alone rows row those [] alone = tt
tails_alone rows row those (index ∷ indexes) alone = (λ unique. (alone.0 unique).1, tails_alone rows row those indexes alone.1)

one_alone : (table : Table) (rows : List TableRow) (row : TableRow) → Rises rows → Split row rows → ((before after : List TableRow) → before ++ row ∷ after ≡ rows → clashes_among table.indexes row (before ++ after) ≡ false) → IsAloneAmong table rows row
one_alone table rows row rises s none =
    let others : rows_beside row.0 rows ≡ s.front ++ s.back = subst (λ (rs : List TableRow). rows_beside row.0 rs ≡ s.front ++ s.back) s.are (others_left s.front row s.back (subst Rises (sym s.are) rises)) in
    ap (is_alone table row) others ∙ (clashing.alone_is table row (s.front ++ s.back) ∙ ap not (none s.front s.back s.are))

all_alone : (table : Table) (rows those : List TableRow) → Rises rows → AllByRecursion (λ row. IsOneOf row rows) those → AllByRecursion (AreAloneIn rows those) table.indexes → AllByRecursion (IsAloneAmong table rows) those
all_alone table rows [] rises among alone = tt
all_alone table rows (row ∷ those) rises among alone =
    (one_alone table rows row rises (split_at row rows among.0) (heads_alone rows row those table.indexes alone), all_alone table rows those rises among.1 (tails_alone rows row those table.indexes alone))

-- without a UNIQUE index each is
plain_none : (row : TableRow) (others : List TableRow) (indexes : List Index) → list_any (λ (i : Index). i.is_unique) indexes ≡ false → clashes_among indexes row others ≡ false
plain_none row others [] none = refl
plain_none row others (index ∷ indexes) none =
    (let parts = neither index.is_unique (list_any (λ (i : Index). i.is_unique) indexes) none in
    both_false (clashes_at index row others) (clashes_among indexes row others) (ap (λ (t : Bool). t && list_any (clashes (columns_of index) row) others) parts.0) (plain_none row others indexes parts.1))

free_all : (table : Table) (rows those : List TableRow) → has_unique table ≡ false → AllByRecursion (IsAloneAmong table rows) those
free_all table rows [] none = tt
free_all table rows (row ∷ those) none = (clashing.alone_is table row (rows_beside row.0 rows) ∙ ap not (plain_none row (rows_beside row.0 rows) table.indexes none), free_all table rows those none)

-- ---- the changes

module _ (pages : PageMap) (size : ℕ) (table : Table) (c : Option Term) (sets : List (ℕ × Term)) (found : List Row) where
  abbrev Finds : Result (Option (Vec RowChange)) Fault → Type 0
  Finds result = FindsKept pages size table c sets found result

  module _ (law : SetsKeptAsEach) (changes : Vec RowChange) (keeps : KeepsAll table sets c found changes.items) where
    abbrev given : List TableRow → Result (List TableRow) Fault
    given rows = Ok rows

    set_alone : (rows : List TableRow) (enough : AreEnough c found rows) → are_rows (with_rows table rows) ≡ true → AllByRecursion (IsAloneAmong table rows) (keeps rows enough).olds → AreSetAlone table sets c rows changes.items
    set_alone rows enough fit alone = (let k = keeps rows enough in record { kept = k; as_each = law table sets c rows k.olds k.news fit k.chosen k.set k.kept alone })

    -- without a UNIQUE index
    pub finds_free : has_unique table ≡ false → Finds (Ok (Some changes))
    finds_free none schema before after rows sized is_root among fit enough = set_alone rows enough fit (free_all table rows (keeps rows enough).olds none)

    -- the indexes aren't read
    pub finds_unseen : (fault : Fault) (result : Result (Option (Vec RowChange)) Fault) → IsErrAnd result (λ e. e ≡ fault) → SeeApart pages size table.indexes (Err fault) → Finds result
    finds_unseen fault (Ok kept) same sees = absurd same
    finds_unseen fault (Err e) same sees = λ schema before after rows sized is_root among fit enough.
        (let have = has_indexed pages size table schema before rows after (rows_among pages size schema before table rows after among sized is_root) fit in
        inl (inl (subst IsOutside (sym same) (sees rows have.whole have.entries))))

    -- no two rows clash
    pub finds_apart : (apart : Bool) → IsTrue apart → SeeApart pages size table.indexes (Ok apart) → Finds (Ok (Some changes))
    finds_apart apart so sees schema before after rows sized is_root among fit enough =
        (let have = has_indexed pages size table schema before rows after (rows_among pages size schema before table rows after among sized is_root) fit in
        let k = keeps rows enough in
        let among_rows = subst (AllByRecursion (λ row. IsOneOf row rows)) (chosen_known table sets c rows k.olds k.chosen).0 (in_filter (meant_by c) rows) in
        set_alone rows enough fit
        (all_alone table rows k.olds (fit_rows_rise (with_rows table rows) fit) among_rows (some_alone rows k.olds table.indexes among_rows (sees rows have.whole have.entries so))))

    -- all rows are set, and their keys rise
    pub finds_risen : c ≡ None → AllByRecursion (KeysRise found) table.indexes → Finds (Ok (Some changes))
    finds_risen none rise schema before after rows sized is_root among fit enough =
        (let k = keeps rows enough in
        let among_rows = subst (AllByRecursion (λ row. IsOneOf row rows)) (chosen_known table sets c rows k.olds k.chosen).0 (in_filter (meant_by c) rows) in
        let all : enough.some ≡ rows = ok_same enough.some rows (subst (λ (o : Option Term). chosen_or_all o enough.some ≡ chosen_or_all o rows) none enough.same) in
        let risen = subst (λ (them : List Row). AllByRecursion (KeysRise them) table.indexes) (enough.are ∙ ap (map as_source) all) rise in
        set_alone rows enough fit (all_alone table rows k.olds (fit_rows_rise (with_rows table rows) fit) among_rows (risen_alone rows k.olds table.indexes risen)))
      where
        ok_same : (x y : List TableRow) → ◌≡◌ {A = Answer (List TableRow)} (Ok x) (Ok y) → x ≡ y
        ok_same x y e = cc

    module _ (meant : Vec stored.TableRow) (means : MeansRows c found (Ok meant)) where
      olds_are : (rows : List TableRow) (enough : AreEnough c found rows) → (keeps rows enough).olds ≡ map row_in meant.items
      olds_are rows enough = (let k = keeps rows enough in sym (chosen_known table sets c rows k.olds k.chosen).0 ∙ meant_are c rows (map row_in meant.items) (means rows enough))

      module _ (schema : Owner) (before after : List Owner) (rows : List TableRow) (sized : IsPageSize size) (is_root : schema.root ≡ 1) (among : AreAmong pages size schema before table rows after)
          (fit : are_rows (with_rows table rows) ≡ true) (enough : AreEnough c found rows) where
        s : RowsStand pages size schema before table rows after
        s = rows_among pages size schema before table rows after among sized is_root

        have : HasIndexed pages size (source pages size table) table.indexes rows
        have = has_indexed pages size table schema before rows after s fit

        among_rows : AllByRecursion (λ row. IsOneOf row rows) (map row_in meant.items)
        among_rows = subst (AllByRecursion (λ row. IsOneOf row rows)) (meant_are c rows (map row_in meant.items) (means rows enough)) (in_filter (meant_by c) rows)

        looked : (result : Result Bool Fault) → SeeAlone pages size table.indexes (map row_in meant.items) result → MatchResult result (λ alone. IsTrue alone → AllByRecursion (AreAloneIn rows (map row_in meant.items)) table.indexes) IsOutside
        looked result sees = sees rows (fit_apart table rows fit) have.whole have.entries among_rows

      -- they aren't looked at
      pub finds_unread : (fault : Fault) (result : Result (Option (Vec RowChange)) Fault) → IsErrAnd result (λ e. e ≡ fault) → SeeAlone pages size table.indexes (map row_in meant.items) (Err fault) → Finds result
      finds_unread fault (Ok kept) same sees = absurd same
      finds_unread fault (Err e) same sees = λ schema before after rows sized is_root among fit enough.
          inl (inl (subst IsOutside (sym same) (looked schema before after rows sized is_root among fit enough (Err fault) sees)))

      -- each is alone
      pub finds_alone : (alone : Bool) → IsTrue alone → SeeAlone pages size table.indexes (map row_in meant.items) (Ok alone) → Finds (Ok (Some changes))
      finds_alone alone so sees schema before after rows sized is_root among fit enough =
          set_alone rows enough fit
          (subst (AllByRecursion (IsAloneAmong table rows)) (sym (olds_are rows enough))
          (all_alone table rows (map row_in meant.items) (fit_rows_rise (with_rows table rows) fit) (among_rows schema before after rows sized is_root among fit enough)
          (looked schema before after rows sized is_root among fit enough (Ok alone) sees so)))

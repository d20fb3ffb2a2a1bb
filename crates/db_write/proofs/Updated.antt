-- What updating rows with their entries comes to.
use Rattle.std.proofs.Common.{◌≡◌, ◌⊎◌, ◌∙◌, inl, inr, sym, ap, subst, ℕ, true, false, not, filter, List, [], ◌∷◌, ◌++◌, length, map, Option, Ok, Err, refl, arith}
use Rattle.std.specs.Prelude.{Result, IsErrAnd, MatchResult, ⊤}
use Rattle.std.specs.Global.{Vec}
use Rattle.std.specs.List.{list_any}
use Rattle.sqlval.specs.Faults.{IsOutside}
use Rattle.sqlval.specs.PageSizes.{IsPageSize}
use Rattle.sqlval.specs.Refusals.{refusal_of}
use Rattle.sqlval.specs.declared.fault.Fault.{Fault}
use Rattle.sqlval.specs.declared.fault.Fault.TheVariants.{TooLong}
use Rattle.pages.specs.Calls.{IsOutsideOrFull}
use Rattle.pages.specs.Map.{PageMap}
use Rattle.db_layout.specs.Layout.{Owner}
use Rattle.catalog.specs.Listed.{with_rows}
use Rattle.catalog.specs.Rows.{are_rows}
use Rattle.catalog.specs.declared.tables.Index.{Index}
use Rattle.catalog.specs.declared.tables.Table.{Table}
use Rattle.catalog.specs.declared.tables.TableRow as stored
use Rattle.query_terms.specs.Outcome.{IsRefusedBy}
use Rattle.query_terms.specs.Terms.{Term}
use Rattle.query_terms.specs.Values.{Row}
use Rattle.row_scan.specs.Rows.{TableRow}
use Rattle.row_change.specs.Agreement.{SetsAsEach, has_unique}
use Rattle.row_change.specs.Choosing.{chosen_or_all}
use Rattle.row_change.specs.Meaning.{AreEnough}
use Rattle.row_change.specs.Setting.{keeps_rowids}
use Rattle.row_change.specs.Updating.{AreSetIn, IsSetRefusal, SetsRows, TellsChanged}
use Rattle.row_change.proofs.SetTrees.{meant_by}
use Rattle.row_change.proofs.Updates.{fit_rows_hold}
use Rattle.index_entries.specs.Entries.{AreApart}
use Rattle.index_entries.specs.Keeping.{row_in}
use Rattle.index_entries.specs.Replacing.{rowids}
use Rattle.db_write.specs.Changing.{AreUpdated, IsRefusedUpdate, UpdatesInTrees}
use Rattle.db_write.specs.Reading.{LoadsEnough}
use Rattle.db_write.specs.Turning.{AreEntriesStorable, HaveEntries, HaveNow, ReplacesInIndexes}
use Rattle.db_write.proofs.Among.{rows_tree}
use Rattle.db_write.proofs.Needed.{MeansRows}
use Rattle.db_write.proofs.Owned.{RowsStand, fit_apart, indexes_stand, rows_among, same_entries, table_holds}
use Rattle.db_write.proofs.SetShuffles.{changed_shuffle, meant_are, meant_refused, rowids_kept}
use Rattle.db_write.proofs.Shuffling.{Shuffles, parted, shuffled_apart, shuffled_entries}
use Rattle.db_write.proofs.Sides.{no_index}
use Rattle.db_write.proofs.Widths.{some_storable, wide_among}

module _ (old mid : PageMap) (size : ℕ) (table : Table) (c : Option Term) (sets : List (ℕ × Term)) where
  -- no rows are read
  pub none_read : (fault : Fault) (result : Result ⊤ Fault) → IsErrAnd result (λ e. e ≡ fault) → LoadsEnough old size table c (Err fault) → UpdatesInTrees old mid size table c sets result
  none_read fault (Ok done) same loads = absurd same
  none_read fault (Err e) same loads = λ schema before after rows sized is_root among fit.
      inl (inl (subst IsOutside (sym same) (loads schema before after rows sized is_root among fit)))

  module _ (found : List Row) (loads : LoadsEnough old size table c (Ok found)) where
    -- the rows that are meant aren't copied
    pub none_copied : (fault : Fault) (result : Result ⊤ Fault) → IsErrAnd result (λ e. e ≡ fault) → MeansRows c found (Err fault) → UpdatesInTrees old mid size table c sets result
    none_copied fault (Ok done) same means = absurd same
    none_copied fault (Err e) same means = λ schema before after rows sized is_root among fit.
        subst (λ (f : Fault). IsRefusedUpdate table c sets rows f) (sym same) (by rows (means rows (loads schema before after rows sized is_root among fit)))
      where
        by : (rows : List TableRow) → IsRefusedBy (chosen_or_all c rows) fault → IsRefusedUpdate table c sets rows fault
        by rows (inl memory) = inl (inl (inl memory))
        by rows (inr e) = inr (inl (meant_refused table sets c rows (refusal_of fault) e))

  -- without a UNIQUE index, and where SET leaves the rowids, all rows are set at once
  module _ (law : SetsAsEach) (plain : has_unique table ≡ false) (stays : keeps_rowids table sets ≡ true) (found : List Row) (loads : LoadsEnough old size table c (Ok found)) where
    -- no row is set
    pub none_set : (fault : Fault) (result : Result ⊤ Fault) → IsErrAnd result (λ e. e ≡ fault) → SetsRows {X = ⊤} old mid size table.root table sets c found (Err fault) → UpdatesInTrees old mid size table c sets result
    none_set fault (Ok done) same sets_so = absurd same
    none_set fault (Err e) same sets_so = λ schema before after rows sized is_root among fit. (
        let s = rows_among old size schema before table rows after among sized is_root in
        subst (λ (f : Fault). IsRefusedUpdate table c sets rows f) (sym same) (by rows fit (sets_so rows s.entries s.used s.free stays s.stands s.each (loads schema before after rows sized is_root among fit))))
      where
        by : (rows : List TableRow) → are_rows (with_rows table rows) ≡ true → IsSetRefusal table sets c rows fault → IsRefusedUpdate table c sets rows fault
        by rows fit (inl outside) = inl outside
        by rows fit (inr e) = inr (inl (law table sets c rows plain stays fit ∙ e))

    -- rows are set; then the indexes follow
    module _ (sets_so : SetsRows {X = ⊤} old mid size table.root table sets c found (Ok tt)) (schema : Owner) (before after : List Owner) (rows : List TableRow) (s : RowsStand old size schema before table rows after)
        (enough : AreEnough c found rows) (fit : are_rows (with_rows table rows) ≡ true) where
      set : AreSetIn old mid size table.root table sets c rows s.used s.free
      set = sets_so rows s.entries s.used s.free stays s.stands s.each enough

      fits : are_rows (with_rows table set.now) ≡ true
      fits = set.fit fit

      abbrev Before : List Owner
      Before = before ++ rows_tree table.root set.entries set.becomes.now_used ∷ []

      stand : HaveEntries mid size schema Before table.indexes rows after
      stand = indexes_stand old mid size schema before table rows after s set.entries set.becomes

      updated : (new : PageMap) → HaveNow mid new size schema Before table.indexes set.now after → AreUpdated old new size schema before table c sets rows after
      updated new have = record {
        now = set.now;
        answer = law table sets c rows plain stays fit ∙ set.answer;
        hold = record { holds = table_holds old mid size schema before table rows after s set.entries set.becomes new set.now set.each have; fit = fits };
      }

    -- of a table without indexes
    pub bare_set : length table.indexes ≡ 0 → SetsRows {X = ⊤} old mid size table.root table sets c found (Ok tt) → UpdatesInTrees old mid size table c sets (Ok tt)
    bare_set few sets_so schema before after rows sized is_root among fit =
        let s = rows_among old size schema before table rows after among sized is_root in
        let enough = loads schema before after rows sized is_root among fit in
        updated sets_so schema before after rows s enough fit mid
        (no_index mid size schema _ table.indexes rows (set sets_so schema before after rows s enough fit).now after sized is_root few (stand sets_so schema before after rows s enough fit))

    -- of a table with indexes
    module _ (gone come : Vec stored.TableRow) (means : MeansRows c found (Ok gone)) (sets_so : SetsRows {X = ⊤} old mid size table.root table sets c found (Ok tt))
        (tells : TellsChanged table sets c found (Ok come)) where
      module _ (new : PageMap) (schema : Owner) (before after : List Owner) (rows : List TableRow) (sized : IsPageSize size) (is_root : schema.root ≡ 1) (s : RowsStand old size schema before table rows after)
          (enough : AreEnough c found rows) (fit : are_rows (with_rows table rows) ≡ true) where
        abbrev stay : List TableRow
        stay = filter (λ row. not (meant_by c row)) rows

        abbrev front : List Owner
        front = before ++ rows_tree table.root (set sets_so schema before after rows s enough fit).entries (set sets_so schema before after rows s enough fit).becomes.now_used ∷ []

        abbrev now : List TableRow
        now = (set sets_so schema before after rows s enough fit).now

        gone_are : filter (meant_by c) rows ≡ map row_in gone.items
        gone_are = meant_are c rows (map row_in gone.items) (means rows enough)

        went : Shuffles stay (map row_in gone.items) rows
        went = subst (λ (rs : List TableRow). Shuffles stay rs rows) gone_are (parted (meant_by c) rows)

        came : Shuffles stay (map row_in come.items) now
        came = changed_shuffle table sets c rows (map row_in come.items) now (tells rows enough) (set sets_so schema before after rows s enough fit).answer

        same_rowids : rowids (map row_in gone.items) ≡ rowids (map row_in come.items)
        same_rowids = sym (ap rowids gone_are) ∙ rowids_kept table sets stays c rows (map row_in come.items) (fit_rows_hold table rows fit) (tells rows enough)

        now_apart : AreApart now
        now_apart = fit_apart table now (fits sets_so schema before after rows s enough fit)

        -- the new entries are in the places of the old ones, or the call is refused
        replaced : (result : Result ⊤ Fault) → ReplacesInIndexes mid new size table.indexes (map row_in gone.items) (map row_in come.items) result
            → MatchResult result (λ done. AreUpdated old new size schema before table c sets rows after) (IsRefusedUpdate table c sets rows)
        replaced result replaces = by result (replaces stay (shuffled_apart went (fit_apart table rows fit)) same_rowids schema front after sized is_root
            (same_entries mid size schema front table.indexes rows (stay ++ map row_in gone.items) after (λ columns. shuffled_entries columns went (fit_apart table rows fit)) (stand sets_so schema before after rows s enough fit)))
          where
            by : (r : Result ⊤ Fault) → MatchResult r (λ done. HaveNow mid new size schema front table.indexes (stay ++ map row_in come.items) after)
                (λ fault. IsOutsideOrFull fault ⊎ ((fault ≡ TooLong) × (AreEntriesStorable table.indexes (map row_in come.items) → ⊥)))
                → MatchResult r (λ done. AreUpdated old new size schema before table c sets rows after) (IsRefusedUpdate table c sets rows)
            by (Ok done) have = updated sets_so schema before after rows s enough fit new (record {
              have = same_entries new size schema front table.indexes (stay ++ map row_in come.items) now after (λ columns. sym (shuffled_entries columns came now_apart)) have.have;
              header = have.header;
              longer = have.longer;
            })
            by (Err fault) (inl outside) = inl outside
            by (Err fault) (inr long) = inr (inr (long.0, wide_among table now (fits sets_so schema before after rows s enough fit) (λ all. long.1 (some_storable table.indexes came all))))

      pub indexed_set : (new : PageMap) (result : Result ⊤ Fault) → ReplacesInIndexes mid new size table.indexes (map row_in gone.items) (map row_in come.items) result → UpdatesInTrees old new size table c sets result
      indexed_set new result replaces schema before after rows sized is_root among fit =
          let s = rows_among old size schema before table rows after among sized is_root in
          let enough = loads schema before after rows sized is_root among fit in
          replaced new schema before after rows sized is_root s enough fit result replaces

-- a table without indexes has no UNIQUE one
pub bare_plain : (table : Table) → length table.indexes ≡ 0 → has_unique table ≡ false
bare_plain table bare = by table.indexes bare
  where
    by : (indexes : List Index) → length indexes ≡ 0 → list_any (λ i. i.is_unique) indexes ≡ false
    by [] few = refl
    by (index ∷ indexes) few = absurd (omega (arith, few))

-- What setting rows one after another comes to, each with its entries.
use Rattle.std.proofs.Common.{◌≡◌, ◌⊎◌, inl, inr, refl, sym, ap, subst, ◌∙◌, ◌≤◌, ◌<◌, ◌-◌, ℕ, Bool, true, false, cond, filter, List, [], ◌∷◌, ◌++◌, length, map, take, drop, slice_index_or, Option, None, Ok, Err, arith}
use Rattle.std.specs.Prelude.{Result, IsErrAnd, MatchResult, ⊤}
use Rattle.std.specs.FinMap.Entries.{find, put}
use Rattle.std.specs.List.{AllByRecursion}
use Rattle.std.specs.Ordering.{int_cmp}
use Rattle.sqlval.specs.PageSizes.{IsPageSize}
use Rattle.sqlval.specs.Refusals.{Answer, Refusal, ◌then◌, refusal_of}
use Rattle.sqlval.specs.declared.fault.Fault.{Fault}
use Rattle.pages.specs.Calls.{IsOutsideOrFull}
use Rattle.pages.specs.Map.{PageMap}
use Rattle.db_layout.specs.Layout.{Owner}
use Rattle.catalog.specs.Listed.{with_rows}
use Rattle.catalog.specs.Rows.{are_rows, as_row}
use Rattle.catalog.specs.declared.tables.Table.{Table}
use Rattle.catalog.specs.declared.tables.TableRow as stored
use Rattle.query_terms.specs.Outcome.{IsRefusedBy}
use Rattle.query_terms.specs.Rows.{row_at}
use Rattle.query_terms.specs.Terms.{Term}
use Rattle.query_terms.specs.Values.{Row}
use Rattle.row_scan.specs.Rows.{TableRow}
use Rattle.row_scan.specs.Sources.{as_source}
use Rattle.row_change.specs.Choosing.{chosen_or_all}
use Rattle.row_change.specs.Demands.{admitted, with_own_rowid}
use Rattle.row_change.specs.Meaning.{AreEnough}
use Rattle.row_change.specs.NewRows.{row_of}
use Rattle.row_change.specs.Setting.{row_set, rows_meant, rows_set, rows_turned}
use Rattle.row_change.specs.Updating.{IsSetIn, SetsRow, row_moved}
use Rattle.row_change.proofs.Rising.{fit_rows_rise}
use Rattle.row_change.proofs.SetTrees.{as_sources, meant_as_chosen, meant_by}
use Rattle.index_entries.specs.Entries.{AreApart, IsApart}
use Rattle.index_entries.specs.Keeping.{row_in}
use Rattle.db_layout.specs.Trees.{AreAmong}
use Rattle.db_write.specs.Changing.{AreUpdated, IsRefusedUpdate, UpdatesInTrees}
use Rattle.db_write.specs.OneRow.{AreTurned, IsOneOf, IsRefusedAs, IsTurned, TurnsFrom, TurnsRow, row_turned}
use Rattle.db_write.specs.Reading.{LoadsEnough}
use Rattle.db_write.specs.Turning.{HaveAlone, HaveEntries, IsRowRefused, MovesRowInIndexes}
use Rattle.db_write.proofs.Among.{keeps_all, rows_tree}
use Rattle.db_write.proofs.Clashing.{alone_same, clash_refused, in_turn, passes, where_alone}
use Rattle.db_write.proofs.InsertedRows.{since_before}
use Rattle.db_write.proofs.Looping.{first_of, none_left}
use Rattle.db_write.proofs.Owned.{RowsStand, fit_apart, indexes_stand, rows_among, same_entries, same_now, table_holds}
use Rattle.db_write.proofs.PutRows.{one_shuffles, others_left, own_free, put_shuffles}
use Rattle.db_write.proofs.SetShuffles.{meant_are}
use Rattle.db_write.proofs.Shuffling.{Shuffles, no_rows, one_comes, one_stays, shuffled_apart, shuffled_entries}
use Rattle.db_write.proofs.Widths.{some_storable, wide_among}

-- ---- one row

abbrev not_given : Refusal → Answer TableRow
not_given r = Err r

-- a source's row is the table's
same_row : (source : Row) (row gone : TableRow) → source ≡ as_source row → gone ≡ as_row source → gone ≡ row
same_row source row gone is copied = copied ∙ ap as_row is

module _ (old : PageMap) (size : ℕ) (table : Table) (sets : List (ℕ × Term)) (source : Row) where
  -- it isn't copied, for want of memory
  pub not_copied : (new : PageMap) (fault : Fault) (result : Result stored.TableRow Fault) → IsErrAnd result (λ e. e ≡ fault) → IsOutsideOrFull fault → TurnsRow old new size table sets source result
  not_copied new fault (Ok now) same outside = absurd same
  not_copied new fault (Err e) same outside = λ schema before after front row back sized is_root among fit is. inl (subst IsOutsideOrFull (sym same) outside)

  -- it isn't set
  pub row_unset : (mid : PageMap) (fault : Fault) (result : Result stored.TableRow Fault) → IsErrAnd result (λ e. e ≡ fault) → SetsRow old mid size table.root table sets source (Err fault) → TurnsRow old mid size table sets source result
  row_unset mid fault (Ok now) same sets_so = absurd same
  row_unset mid fault (Err e) same sets_so = λ schema before after front row back sized is_root among fit is. (
      let s = rows_among old size schema before table (front ++ row ∷ back) after among sized is_root in
      subst (λ (f : Fault). IsRefusedAs (row_turned table sets row (front ++ back)) table f) (sym same) (by front row back (sets_so front row back s.entries s.used s.free s.stands s.each is)))
    where
      by : (front : List TableRow) (row : TableRow) (back : List TableRow) → IsOutsideOrFull fault ⊎ (row_moved table sets (front ++ back) row ≡ Err (refusal_of fault)) → IsRefusedAs (row_turned table sets row (front ++ back)) table fault
      by front row back (inl outside) = inl outside
      by front row back (inr is) = inr (inl (in_turn table (front ++ back) (row_set table sets row) ∙ ap (λ (a : Answer TableRow). a then where_alone table (front ++ back)) is))

  -- it is set, and its entries are next
  module _ (mid new : PageMap) (gone come : stored.TableRow) (copied : row_of gone ≡ as_row source) (sets_so : SetsRow old mid size table.root table sets source (Ok come)) where
    module _ (schema : Owner) (before after : List Owner) (front : List TableRow) (row : TableRow) (back : List TableRow) (sized : IsPageSize size) (is_root : schema.root ≡ 1)
        (s : RowsStand old size schema before table (front ++ row ∷ back) after) (fit : are_rows (with_rows table (front ++ row ∷ back)) ≡ true) (is : source ≡ as_source row) where
      set : IsSetIn old mid size table.root table sets front row back s.used s.free (row_of come)
      set = sets_so front row back s.entries s.used s.free s.stands s.each is

      abbrev others : List TableRow
      others = front ++ back

      abbrev rows_now : List TableRow
      rows_now = put int_cmp come.rowid come.values.items others

      fits : are_rows (with_rows table rows_now) ≡ true
      fits = set.fit fit

      -- in another order they were the others and then the row, and they are the others and then what it became
      stood : Shuffles others (row ∷ []) (front ++ row ∷ back)
      stood = one_shuffles front row back

      came : Shuffles others (row_of come ∷ []) rows_now
      came = put_shuffles (row_of come) others (own_free (row_set table sets row) others (row_of come) set.answer)

      stood_apart : AreApart (front ++ row ∷ back)
      stood_apart = fit_apart table (front ++ row ∷ back) fit

      come_apart : AreApart rows_now
      come_apart = fit_apart table rows_now fits

      abbrev first : List Owner
      first = before ++ rows_tree table.root set.entries set.becomes.now_used ∷ []

      stand : HaveEntries mid size schema first table.indexes (others ++ row ∷ []) after
      stand =
          same_entries mid size schema first table.indexes (front ++ row ∷ back) (others ++ row ∷ []) after (λ columns. shuffled_entries columns stood stood_apart)
          (indexes_stand old mid size schema before table (front ++ row ∷ back) after s set.entries set.becomes)

      moved : (result : Result ⊤ Fault) → MovesRowInIndexes mid new size table.indexes (row_in gone) (row_in come) result
          → MatchResult result (λ done. HaveAlone mid new size schema first table.indexes (row_of come) others (others ++ row_of come ∷ []) after) (IsRowRefused table.indexes (row_of come) others)
      moved result moves =
          subst (λ (r : TableRow). MovesRowInIndexes mid new size table.indexes r (row_of come) result) (same_row source row (row_of gone) is copied) moves
          others (shuffled_apart stood stood_apart) (shuffled_apart came come_apart) schema first after sized is_root stand

      answered : (a : Answer TableRow) → where_alone table others (row_of come) ≡ a → row_turned table sets row others ≡ a
      answered a so = in_turn table others (row_set table sets row) ∙ (ap (λ (b : Answer TableRow). b then where_alone table others) set.answer ∙ so)

      turned : HaveAlone mid new size schema first table.indexes (row_of come) others (others ++ row_of come ∷ []) after → IsTurned old new size schema before table sets front row back after (row_of come)
      turned have = record {
        answer = answered (Ok (row_of come)) (passes table (row_of come) others have.alone);
        hold = record {
          holds = table_holds old mid size schema before table (front ++ row ∷ back) after s set.entries set.becomes new rows_now set.each
              (same_now mid new size schema first table.indexes (others ++ row_of come ∷ []) rows_now after (λ columns. sym (shuffled_entries columns came come_apart)) have.now);
          fit = fits;
        };
      }

      unturned : (fault : Fault) → IsRowRefused table.indexes (row_of come) others fault → IsRefusedAs (row_turned table sets row others) table fault
      unturned fault (inl outside) = inl outside
      unturned fault (inr (inl clash)) =
          inr (inl (answered (Err (refusal_of fault)) (clash_refused table (row_of come) others clash.1 ∙ ap (λ (f : Fault). not_given (refusal_of f)) (sym clash.0))))
      unturned fault (inr (inr long)) = inr (inr (long.0, wide_among table rows_now fits (λ all. long.1 (some_storable table.indexes came all))))

    pub row_turns : MovesRowInIndexes mid new size table.indexes (row_in gone) (row_in come) (Ok tt) → TurnsRow old new size table sets source (Ok come)
    row_turns moves schema before after front row back sized is_root among fit is =
        let s = rows_among old size schema before table (front ++ row ∷ back) after among sized is_root in
        turned schema before after front row back sized is_root s fit is (moved schema before after front row back sized is_root s fit is (Ok tt) moves)

    pub row_unturned : (fault : Fault) (result : Result stored.TableRow Fault) → IsErrAnd result (λ e. e ≡ fault) → MovesRowInIndexes mid new size table.indexes (row_in gone) (row_in come) (Err fault) → TurnsRow old new size table sets source result
    row_unturned fault (Ok now) same moves = absurd same
    row_unturned fault (Err e) same moves = λ schema before after front row back sized is_root among fit is. (
        let s = rows_among old size schema before table (front ++ row ∷ back) after among sized is_root in
        subst (λ (f : Fault). IsRefusedAs (row_turned table sets row (front ++ back)) table f) (sym same)
        (unturned schema before after front row back sized is_root s fit is fault (moved schema before after front row back sized is_root s fit is (Err fault) moves)))

-- ---- a row among others

pub record Split (row : TableRow) (rows : List TableRow) : Type 0 where
  pub front : List TableRow
  pub back : List TableRow
  pub are : front ++ row ∷ back ≡ rows

pub split_at : (row : TableRow) (rows : List TableRow) → IsOneOf row rows → Split row rows
split_at row [] one = absurd one
split_at row (other ∷ rows) (inl is) = record { front = []; back = rows; are = ap (λ (r : TableRow). r ∷ rows) is }
split_at row (other ∷ rows) (inr later) = (let s = split_at row rows later in record { front = other ∷ s.front; back = s.back; are = ap (λ (rs : List TableRow). other ∷ rs) s.are })

-- another row is one of the others
one_beside : (other : TableRow) (front : List TableRow) (row : TableRow) (back : List TableRow) → (row.0 ≡ other.0 → ⊥) → IsOneOf other (front ++ row ∷ back) → IsOneOf other (front ++ back)
one_beside other [] row back apart (inl is) = absurd (apart (ap (λ (r : TableRow). r.0) (sym is)))
one_beside other [] row back apart (inr later) = later
one_beside other (next ∷ front) row back apart (inl is) = inl is
one_beside other (next ∷ front) row back apart (inr later) = inr (one_beside other front row back apart later)

-- and stays one where a row comes
one_still : (other : TableRow) {stay come now : List TableRow} → Shuffles stay come now → IsOneOf other stay → IsOneOf other now
one_still other no_rows one = absurd one
one_still other (one_stays row rest) (inl is) = inl is
one_still other (one_stays row rest) (inr later) = inr (one_still other rest later)
one_still other (one_comes row rest) one = inr (one_still other rest one)

stay_all : (olds : List TableRow) (front : List TableRow) (row : TableRow) (back come now : List TableRow) → Shuffles (front ++ back) come now → IsApart row olds → AllByRecursion (λ r. IsOneOf r (front ++ row ∷ back)) olds
    → AllByRecursion (λ r. IsOneOf r now) olds
stay_all [] front row back come now shuffle apart all = tt
stay_all (other ∷ olds) front row back come now shuffle apart all =
    (one_still other shuffle (one_beside other front row back apart.0 all.0), stay_all olds front row back come now shuffle apart.1 all.1)

-- none of the others has the rowid of what a row became
turned_free : (table : Table) (sets : List (ℕ × Term)) (row : TableRow) (others : List TableRow) (now : TableRow) → row_turned table sets row others ≡ Ok now → find int_cmp now.0 others ≡ None
turned_free table sets row others now answer =
    own_free (row_set table sets row) others now (alone_same table others (row_set table sets row then λ r. with_own_rowid others r) now (sym (in_turn table others (row_set table sets row)) ∙ answer))

-- ---- rows one after another

abbrev Turned : Table → List (ℕ × Term) → List TableRow → List TableRow → TableRow → Answer (List TableRow)
Turned table sets others olds now = rows_turned table sets (put int_cmp now.0 now.1 others) olds

one_and_more : (table : Table) (sets : List (ℕ × Term)) (front : List TableRow) (row : TableRow) (back olds : List TableRow) → are_rows (with_rows table (front ++ row ∷ back)) ≡ true
    → rows_turned table sets (front ++ row ∷ back) (row ∷ olds) ≡ (row_turned table sets row (front ++ back) then Turned table sets (front ++ back) olds)
one_and_more table sets front row back olds fit =
    ap (λ (others : List TableRow). row_set table sets row then λ now. admitted table others now then Turned table sets others olds)
    (others_left front row back (fit_rows_rise (with_rows table (front ++ row ∷ back)) fit))
    ∙ by (row_set table sets row)
  where
    by : (a : Answer TableRow) → (a then λ now. admitted table (front ++ back) now then Turned table sets (front ++ back) olds) ≡ ((a then λ now. admitted table (front ++ back) now) then Turned table sets (front ++ back) olds)
    by (Ok now) = refl
    by (Err r) = refl

-- what becomes of the table's trees, once it's known what the call answers
abbrev Turns : PageMap → PageMap → ℕ → Owner → List Owner → Table → List (ℕ × Term) → List TableRow → List TableRow → List Owner → Result ⊤ Fault → Type 0
Turns old new size schema before table sets rows olds after result =
    MatchResult result (λ done. AreTurned old new size schema before table sets rows olds after) (λ fault. IsRefusedAs (rows_turned table sets rows olds) table fault)

pub turns_none : (pages : PageMap) (size : ℕ) (table : Table) (sets : List (ℕ × Term)) → TurnsFrom pages pages size table sets [] (Ok tt)
turns_none pages size table sets schema before after rows [] sized is_root among fit are one apart =
    record { now = rows; answer = refl; hold = record { holds = record { among = among; header = keeps_all pages; longer = omega arith }; fit = fit } }
turns_none pages size table sets schema before after rows (row ∷ olds) sized is_root among fit are one apart = absurd cc

head_is : (a b : Row) (xs ys : List Row) → a ∷ xs ≡ b ∷ ys → a ≡ b
head_is a b xs ys e = cc

tail_is : (a b : Row) (xs ys : List Row) → a ∷ xs ≡ b ∷ ys → xs ≡ ys
tail_is a b xs ys e = cc

module _ (old mid : PageMap) (size : ℕ) (table : Table) (sets : List (ℕ × Term)) (source : Row) (more : List Row) where
  pub turns_more : (new : PageMap) (came : stored.TableRow) (result : Result ⊤ Fault) → TurnsRow old mid size table sets source (Ok came) → TurnsFrom mid new size table sets more result → TurnsFrom old new size table sets (source ∷ more) result
  turns_more new came result first next schema before after rows [] sized is_root among fit are one apart = absurd cc
  turns_more new came result first next schema before after rows (row ∷ olds) sized is_root among fit are one apart = by (split_at row rows one.0)
    where
      here : (front back : List TableRow) → AreAmong old size schema before table (front ++ row ∷ back) after → are_rows (with_rows table (front ++ row ∷ back)) ≡ true
          → AllByRecursion (λ r. IsOneOf r (front ++ row ∷ back)) olds → Turns old new size schema before table sets (front ++ row ∷ back) (row ∷ olds) after result
      here front back among fit one =
          let now = first schema before after front row back sized is_root among fit (head_is source (as_source row) more (map as_source olds) are) in
          let same = one_and_more table sets front row back olds fit ∙ ap (λ (a : Answer TableRow). a then Turned table sets (front ++ back) olds) now.answer in
          on now same result (next schema before after (put int_cmp came.rowid came.values.items (front ++ back)) olds sized is_root now.hold.holds.among now.hold.fit (tail_is source (as_source row) more (map as_source olds) are)
          (stay_all olds front row back (row_of came ∷ []) (put int_cmp came.rowid came.values.items (front ++ back)) (put_shuffles (row_of came) (front ++ back) (turned_free table sets row (front ++ back) (row_of came) now.answer)) apart.0 one)
          apart.1)
        where
          on : (now : IsTurned old mid size schema before table sets front row back after (row_of came))
              → rows_turned table sets (front ++ row ∷ back) (row ∷ olds) ≡ rows_turned table sets (put int_cmp came.rowid came.values.items (front ++ back)) olds
              → (r : Result ⊤ Fault) → MatchResult r (λ done. AreTurned mid new size schema before table sets (put int_cmp came.rowid came.values.items (front ++ back)) olds after) (λ fault. IsRefusedAs (rows_turned table sets (put int_cmp came.rowid came.values.items (front ++ back)) olds) table fault)
              → MatchResult r (λ done. AreTurned old new size schema before table sets (front ++ row ∷ back) (row ∷ olds) after) (λ fault. IsRefusedAs (rows_turned table sets (front ++ row ∷ back) (row ∷ olds)) table fault)
          on now same (Ok done) they = record { now = they.now; answer = same ∙ they.answer; hold = since_before old mid new size schema before table (put int_cmp came.rowid came.values.items (front ++ back)) they.now after now.hold they.hold }
          on now same (Err fault) (inl outside) = inl outside
          on now same (Err fault) (inr (inl is)) = inr (inl (same ∙ is))
          on now same (Err fault) (inr (inr wide)) = inr (inr wide)

      by : Split row rows → Turns old new size schema before table sets rows (row ∷ olds) after result
      by s = subst (λ (rs : List TableRow). AreAmong old size schema before table rs after → are_rows (with_rows table rs) ≡ true → AllByRecursion (λ r. IsOneOf r rs) olds → Turns old new size schema before table sets rs (row ∷ olds) after result) s.are
          (here s.front s.back) among fit one.1

  pub turns_stop : (fault : Fault) (result : Result ⊤ Fault) → IsErrAnd result (λ e. e ≡ fault) → TurnsRow old mid size table sets source (Err fault) → TurnsFrom old mid size table sets (source ∷ more) result
  turns_stop fault (Ok done) same first = absurd same
  turns_stop fault (Err e) same first = stop
    where
      stop : TurnsFrom old mid size table sets (source ∷ more) (Err e)
      stop schema before after rows [] sized is_root among fit are one apart = absurd cc
      stop schema before after rows (row ∷ olds) sized is_root among fit are one apart =
          subst (λ (f : Fault). IsRefusedAs (rows_turned table sets rows (row ∷ olds)) table f) (sym same) (by (split_at row rows one.0))
        where
          on : (front back : List TableRow) → are_rows (with_rows table (front ++ row ∷ back)) ≡ true → IsRefusedAs (row_turned table sets row (front ++ back)) table fault
              → IsRefusedAs (rows_turned table sets (front ++ row ∷ back) (row ∷ olds)) table fault
          on front back fit (inl outside) = inl outside
          on front back fit (inr (inl is)) = inr (inl (one_and_more table sets front row back olds fit ∙ ap (λ (a : Answer TableRow). a then Turned table sets (front ++ back) olds) is))
          on front back fit (inr (inr wide)) = inr (inr wide)

          here : (front back : List TableRow) → AreAmong old size schema before table (front ++ row ∷ back) after → are_rows (with_rows table (front ++ row ∷ back)) ≡ true
              → IsRefusedAs (rows_turned table sets (front ++ row ∷ back) (row ∷ olds)) table fault
          here front back among fit = on front back fit (first schema before after front row back sized is_root among fit (head_is source (as_source row) more (map as_source olds) are))

          by : Split row rows → IsRefusedAs (rows_turned table sets rows (row ∷ olds)) table fault
          by s = subst (λ (rs : List TableRow). AreAmong old size schema before table rs after → are_rows (with_rows table rs) ≡ true → IsRefusedAs (rows_turned table sets rs (row ∷ olds)) table fault) s.are
              (here s.front s.back) among fit

-- the first source's row and the others
pub first_source : (rows : List Row) (left : List ℕ) → 1 ≤ length left → row_at rows (slice_index_or left 0 0) ∷ map (row_at rows) (take (length left - 1) (drop 1 left)) ≡ map (row_at rows) left
first_source rows [] some = absurd (omega (arith, some))
first_source rows (place ∷ left) some = ap (map (row_at rows)) (first_of (place ∷ left) place some refl)

pub none_sourced : (rows : List Row) (left : List ℕ) → length left < 1 → [] ≡ map (row_at rows) left
none_sourced rows left few = ap (map (row_at rows)) (none_left left few)

-- ---- all of a statement

pub in_filter : (p : TableRow → Bool) (rows : List TableRow) → AllByRecursion (λ row. IsOneOf row rows) (filter p rows)
in_filter p [] = tt
in_filter p (row ∷ rows) = by (p row) (further (filter p rows) (in_filter p rows))
  where
    further : (them : List TableRow) → AllByRecursion (λ r. IsOneOf r rows) them → AllByRecursion (λ r. IsOneOf r (row ∷ rows)) them
    further [] all = tt
    further (r ∷ them) all = (inr all.0, further them all.1)

    by : (b : Bool) → AllByRecursion (λ r. IsOneOf r (row ∷ rows)) (filter p rows) → AllByRecursion (λ r. IsOneOf r (row ∷ rows)) (cond b (row ∷ filter p rows) (filter p rows))
    by true all = (inl refl, all)
    by false all = all

apart_some : (p : TableRow → Bool) (row : TableRow) (rows : List TableRow) → IsApart row rows → IsApart row (filter p rows)
apart_some p row [] apart = tt
apart_some p row (other ∷ rows) apart = by (p other) (apart_some p row rows apart.1)
  where
    by : (b : Bool) → IsApart row (filter p rows) → IsApart row (cond b (other ∷ filter p rows) (filter p rows))
    by true rest = (apart.0, rest)
    by false rest = rest

filter_apart : (p : TableRow → Bool) (rows : List TableRow) → AreApart rows → AreApart (filter p rows)
filter_apart p [] apart = tt
filter_apart p (row ∷ rows) apart = by (p row) (filter_apart p rows apart.1)
  where
    by : (b : Bool) → AreApart (filter p rows) → AreApart (cond b (row ∷ filter p rows) (filter p rows))
    by true rest = (apart_some p row rows apart.0, rest)
    by false rest = rest

-- the rows that are meant, which the sources are
record Meant (c : Option Term) (rows : List TableRow) (sources : List Row) : Type 0 where
  olds : List TableRow
  chosen : chosen_or_all c rows ≡ Ok olds
  are : sources ≡ map as_source olds

given_sources : (a b : List Row) → (let l : Answer (List Row) = Ok a in l) ≡ Ok b → a ≡ b
given_sources a b e = cc

no_sources : (r : Refusal) (a : List Row) → (let l : Answer (List Row) = Err r in l) ≡ Ok a → ⊥
no_sources r a e = absurd cc

refused_as : (r s : Refusal) → (let l : Answer (List Row) = Err r in l) ≡ Err s → r ≡ s
refused_as r s e = cc

sources_given : (a : List Row) (s : Refusal) → (let l : Answer (List Row) = Ok a in l) ≡ Err s → ⊥
sources_given a s e = absurd cc

-- what is said of the rows that are read holds of all
of_all : (c : Option Term) (found : List Row) (rows : List TableRow) → AreEnough c found rows → rows_meant c [] found ≡ (chosen_or_all c rows then as_sources)
of_all c found rows enough = ap (rows_meant c []) enough.are ∙ (meant_as_chosen c enough.some ∙ ap (λ (a : Answer (List TableRow)). a then as_sources) enough.same)

module _ (old : PageMap) (size : ℕ) (table : Table) (c : Option Term) (sets : List (ℕ × Term)) (found : List Row) (loads : LoadsEnough old size table c (Ok found)) where
  -- the places aren't found
  pub none_placed : (new : PageMap) (fault : Fault) (result : Result ⊤ Fault) → IsErrAnd result (λ e. e ≡ fault) → IsRefusedBy (rows_meant c [] found) fault → UpdatesInTrees old new size table c sets result
  none_placed new fault (Ok done) same why = absurd same
  none_placed new fault (Err e) same why = λ schema before after rows sized is_root among fit.
      subst (λ (f : Fault). IsRefusedUpdate table c sets rows f) (sym same) (by rows (loads schema before after rows sized is_root among fit) why)
    where
      on : (rows : List TableRow) (a : Answer (List TableRow)) → (a then as_sources) ≡ Err (refusal_of fault) → (a then λ olds. rows_turned table sets rows olds) ≡ Err (refusal_of fault)
      on rows (Ok them) e = absurd (sources_given (map as_source them) (refusal_of fault) e)
      on rows (Err r) e = ap (λ (x : Refusal). Err x) (refused_as r (refusal_of fault) e)

      by : (rows : List TableRow) → AreEnough c found rows → IsRefusedBy (rows_meant c [] found) fault → IsRefusedUpdate table c sets rows fault
      by rows enough (inl memory) = inl (inl (inl memory))
      by rows enough (inr is) = inr (inl (on rows (chosen_or_all c rows) (sym (of_all c found rows enough) ∙ is)))

  meant : (rows : List TableRow) (places : List ℕ) → AreEnough c found rows → rows_meant c [] found ≡ Ok (map (row_at found) places) → Meant c rows (map (row_at found) places)
  meant rows places enough is = by (chosen_or_all c rows) refl (sym (of_all c found rows enough) ∙ is)
    where
      by : (a : Answer (List TableRow)) → chosen_or_all c rows ≡ a → (a then as_sources) ≡ Ok (map (row_at found) places) → Meant c rows (map (row_at found) places)
      by (Ok them) h e = record { olds = them; chosen = h; are = sym (given_sources (map as_source them) (map (row_at found) places) e) }
      by (Err r) h e = absurd (no_sources r (map (row_at found) places) e)

  -- the rows at these places are set, one after another
  pub each_set : (new : PageMap) (places : List ℕ) (result : Result ⊤ Fault) → rows_meant c [] found ≡ Ok (map (row_at found) places) → TurnsFrom old new size table sets (map (row_at found) places) result
      → UpdatesInTrees old new size table c sets result
  each_set new places result is turns schema before after rows sized is_root among fit =
      by result (turns schema before after rows them.olds sized is_root among fit them.are
      (subst (λ (olds : List TableRow). AllByRecursion (λ row. IsOneOf row rows) olds) olds_are (in_filter (meant_by c) rows))
      (subst AreApart olds_are (filter_apart (meant_by c) rows (fit_apart table rows fit))))
    where
      them : Meant c rows (map (row_at found) places)
      them = meant rows places (loads schema before after rows sized is_root among fit) is

      olds_are : filter (meant_by c) rows ≡ them.olds
      olds_are = meant_are c rows them.olds them.chosen

      same : rows_set table sets c rows ≡ rows_turned table sets rows them.olds
      same = ap (λ (a : Answer (List TableRow)). a then λ olds. rows_turned table sets rows olds) them.chosen

      by : (r : Result ⊤ Fault) → MatchResult r (λ done. AreTurned old new size schema before table sets rows them.olds after) (λ fault. IsRefusedAs (rows_turned table sets rows them.olds) table fault)
          → MatchResult r (λ done. AreUpdated old new size schema before table c sets rows after) (IsRefusedUpdate table c sets rows)
      by (Ok done) are = record { now = are.now; answer = same ∙ are.answer; hold = are.hold }
      by (Err fault) (inl outside) = inl outside
      by (Err fault) (inr (inl is)) = inr (inl (same ∙ is))
      by (Err fault) (inr (inr wide)) = inr (inr wide)

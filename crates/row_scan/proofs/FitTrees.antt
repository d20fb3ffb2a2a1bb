-- The rows of a tree that is checked batch by batch are such as a table may hold.
use Rattle.std.proofs.Common.{◌≡◌, refl, sym, ap, subst, ◌∙◌, ◌<◌, ◌≤◌, ◌+◌, ◌&&◌, ◌==◌, ℕ, pos, zero, suc, ℤ, Bool, true, false, List, [], ◌∷◌, ◌++◌, length, map, take, slice_index_or, Option, None, Ok, Err, IsTrue, SFits, w64, append_assoc, arith}
use Rattle.std.proofs.lemmas.Bool.{eq-eqb, false≢true}
use Rattle.std.proofs.lemmas.Bool.Decides.{nat_tests}
use Rattle.std.proofs.lemmas.Int.{ints}
use Rattle.std.proofs.lemmas.List.{append-nil, length-map, length-replicate, take_more}
use Rattle.std.proofs.lemmas.List.Elements.{All-from_recursion, recursion_from_All}
use Rattle.std.specs.List.{AllByRecursion, list_all}
use Rattle.std.specs.Ordering.{int_cmp}
use Rattle.std.specs.Prelude.{Result, replicate, nat_le, ⊤}
use Rattle.std.specs.Str.Lossy.{utf8_valid_len}
use Rattle.sqlval.specs.Conversion.{is_word}
use Rattle.sqlval.specs.Faults.{IsOutside}
use Rattle.sqlval.specs.Lists.{is_rising}
use Rattle.sqlval.specs.declared.affinity.Affinity.TheVariants as to
use Rattle.sqlval.specs.declared.collation.Collation.TheVariants.{Binary}
use Rattle.sqlval.specs.declared.fault.Fault.{Fault}
use Rattle.sqlval.specs.declared.value.Value.{Value}
use Rattle.sqlval.specs.declared.value.Value.TheVariants.{Null, Int, Text, Blob}
use Rattle.record.specs.Record.{IsRecord}
use Rattle.record.specs.Rows.{AreOfRow}
use Rattle.record.specs.Writing.{IsStorable}
use Rattle.record.proofs.VarintLemmas.{AreBytes}
use Rattle.tree_leaf.specs.Leaf.{Entry}
use Rattle.pages.specs.Calls.{Limits, Stays}
use Rattle.pages.specs.Map.{PageMap, AreWhole}
use Rattle.tree_page.specs.Cells.{Pairwise}
use Rattle.tree_table.specs.Rows.{rows_from}
use Rattle.tree_table.specs.Scanning.{BeginsAll, GivesBatch}
use Rattle.tree_table.specs.Tree.{IsTableTree}
use Rattle.catalog.specs.Listed.{as_column, own_column, place_within, shape_of, with_rows}
use Rattle.catalog.specs.Rows.{holds_rowid, in_record, is_row, is_value}
use Rattle.catalog.specs.declared.tables.Column.{Column}
use Rattle.catalog.specs.declared.tables.RowShape.{RowShape}
use Rattle.catalog.specs.declared.tables.Table.{Table}
use Rattle.row_scan.specs.Rows.{IsRow, TableRow}
use Rattle.row_scan.specs.Trees.{AreFitRows, HasRows, HoldsFit, IsFitRow, FindsFit}
use Rattle.row_scan.proofs.OwnValues.{as_read, held_within, read_values, written_length, written_null, written_values}
use Rattle.row_scan.proofs.RowLemmas.{row_is}
use Rattle.row_scan.proofs.RowOrder.{both_true, record_holds, rowids_rise}
use Rattle.row_scan.proofs.TreeOrder.{tree_rises}

-- ---- one row

word_in : (n : ℤ) → SFits w64 n → is_word n ≡ true
word_in n fits = grind (arith, ints)

-- an entry of bytes whose payload is the record of values of a row, with the rowid at its own place
pub fit_row : (shape : RowShape) (entry : Entry) (values : List Value) → AreBytes entry.payload → SFits w64 entry.rowid → IsRecord entry.payload values → AreOfRow shape.width shape.own values
    → IsFitRow shape entry (as_read shape.own (entry.rowid, values))
fit_row shape entry values bytes fits is are =
    let word : is_word entry.rowid ≡ true = word_in entry.rowid fits in
    let said : list_all is_value values ≡ true = record_holds entry.payload values bytes (recursion_from_All IsStorable values are.storable) is in
    record { is = row_is shape entry values is are; word = word; values = read_values shape.own entry.rowid values word said are.null }

first_of : (a b : Bool) → (a && b) ≡ true → a ≡ true
first_of true b e = refl
first_of false b e = absurd (false≢true e)

second_of : (a b : Bool) → (a && b) ≡ true → b ≡ true
second_of true b e = e
second_of false b e = absurd (false≢true e)

within : (n : ℕ) → nat_le n 1000000 ≡ true → n ≤ 1000000
within n e = grind (arith, nat_tests)

storable : (value : Value) → is_value value ≡ true → IsStorable value
storable Null e = tt
storable (Int n) e = tt
storable (Text t) e = within (length t) (first_of (nat_le (length t) 1000000) (utf8_valid_len t == length t) e)
storable (Blob b) e = within (length b) (first_of (nat_le (length b) 1000000) _ e)

all_storable : (values : List Value) → list_all is_value values ≡ true → AllByRecursion IsStorable values
all_storable [] e = tt
all_storable (value ∷ values) e = (storable value (first_of (is_value value) (list_all is_value values) e), all_storable values (second_of (is_value value) (list_all is_value values) e))

-- the record of a fit row has values of a row
pub fit_given : (shape : RowShape) (entry : Entry) (row : TableRow) → IsFitRow shape entry row → AreOfRow shape.width shape.own (in_record shape.own row.1)
fit_given shape entry row is = record {
  full = written_length shape.own row.1 ∙ is.is.full;
  storable = All-from_recursion IsStorable (in_record shape.own row.1) (all_storable (in_record shape.own row.1) (written_values shape.own row.1 is.values));
  null = written_null shape.own row.0 row.1 is.is.own;
}

-- ---- a batch

-- the rows up to a place
abbrev pub HaveRows : RowShape → List Entry → Type 0
HaveRows shape entries = (rows : List TableRow) × Pairwise (IsFitRow shape) entries rows

behind : {A B : Type 0} (P : A → B → Type 0) (xs others : List A) (ys more : List B) → Pairwise P xs ys → Pairwise P others more → Pairwise P (xs ++ others) (ys ++ more)
behind P [] others [] more all rest = rest
behind P [] others (y ∷ ys) more all rest = absurd all
behind P (x ∷ xs) others [] more all rest = absurd all
behind P (x ∷ xs) others (y ∷ ys) more all rest = (all.0, behind P xs others ys more all.1 rest)

pub have_more : (shape : RowShape) (entries more : List Entry) → HaveRows shape entries → HaveRows shape more → HaveRows shape (entries ++ more)
have_more shape entries more have others = (have.0 ++ others.0, behind (IsFitRow shape) entries more have.0 others.0 have.1 others.1)

pub one_more : (shape : RowShape) (entries : List Entry) (i : ℕ) (d : Entry) → i < length entries → (row : TableRow) × IsFitRow shape (slice_index_or entries i d) row → HaveRows shape (take i entries) → HaveRows shape (take (i + 1) entries)
one_more shape entries i d lt one have =
    subst (HaveRows shape) (sym (take_more entries i d lt)) (have_more shape (take i entries) (slice_index_or entries i d ∷ []) have (one.0 ∷ [], (one.1, tt)))

-- the row of an entry among others
pub row_there : (shape : RowShape) (entries : List Entry) (rows : List TableRow) (i : ℕ) (d : Entry) → i < length entries → Pairwise (IsFitRow shape) entries rows → (row : TableRow) × IsFitRow shape (slice_index_or entries i d) row
row_there shape [] rows i d lt each = absurd (omega (arith, lt))
row_there shape (entry ∷ entries) [] i d lt each = absurd each
row_there shape (entry ∷ entries) (row ∷ rows) zero d lt each = (row, each.0)
row_there shape (entry ∷ entries) (row ∷ rows) (suc i) d lt each = row_there shape entries rows i d (omega (arith, lt)) each.1

-- the rows of a part of the entries
pub part_has : (shape : RowShape) (front mid after : List Entry) (rows : List TableRow) → Pairwise (IsFitRow shape) (front ++ (mid ++ after)) rows → HaveRows shape mid
part_has shape (entry ∷ front) mid after [] each = absurd each
part_has shape (entry ∷ front) mid after (row ∷ rows) each = part_has shape front mid after rows each.1
part_has shape [] [] after rows each = ([], tt)
part_has shape [] (entry ∷ mid) after [] each = absurd each
part_has shape [] (entry ∷ mid) after (row ∷ rows) each = (let more = part_has shape [] mid after rows each.1 in (row ∷ more.0, (each.0, more.1)))

-- ---- rows that a table may hold

plain_rows : (shape : RowShape) (entries : List Entry) (rows : List TableRow) → Pairwise (IsFitRow shape) entries rows → Pairwise (IsRow shape) entries rows
plain_rows shape [] [] each = tt
plain_rows shape [] (row ∷ rows) each = absurd each
plain_rows shape (entry ∷ entries) [] each = absurd each
plain_rows shape (entry ∷ entries) (row ∷ rows) each = (each.0.is, plain_rows shape entries rows each.1)

each_fit : (t : Table) (held : List TableRow) (shape : RowShape) (entries : List Entry) (rows : List TableRow) → shape ≡ shape_of t → Pairwise (IsFitRow shape) entries rows → list_all (is_row (with_rows t held)) rows ≡ true
each_fit t held shape [] [] same each = refl
each_fit t held shape [] (row ∷ rows) same each = absurd each
each_fit t held shape (entry ∷ entries) [] same each = absurd each
each_fit t held shape (entry ∷ entries) (row ∷ rows) same each =
    let full : length row.1 ≡ length (map as_column t.columns) =
    each.0.is.full ∙ (ap (λ (s : RowShape). s.width) same ∙ sym (length-map t.columns as_column)) in
    let own : holds_rowid (own_column t) row ≡ true = subst (λ (s : RowShape). holds_rowid s.own row ≡ true) same each.0.is.own in
    both_true (is_row (with_rows t held) row) (list_all (is_row (with_rows t held)) rows)
    (both_true (is_word row.0 && length row.1 == length (map as_column t.columns) && list_all is_value row.1) (holds_rowid (own_column t) row)
    (both_true (is_word row.0 && length row.1 == length (map as_column t.columns)) (list_all is_value row.1)
    (both_true (is_word row.0) (length row.1 == length (map as_column t.columns)) each.0.word
    (eq-eqb (length row.1) (length (map as_column t.columns)) full)) each.0.values) own)
    (each_fit t held shape entries rows same each.1)

-- the entries of a tree that are fit rows
pub holds_fit : (pages : PageMap) (size root : ℕ) (shape : RowShape) (entries : List Entry) (used : List ℕ) → IsTableTree pages size root entries used → HaveRows shape entries → HoldsFit entries shape
holds_fit pages size root shape entries used tree have =
    let each = plain_rows shape entries have.0 have.1 in
    record {
      rows = have.0;
      each = each;
      fit = λ t same. both_true (is_rising int_cmp (map (λ r. r.0) have.0)) (list_all (is_row (with_rows t have.0)) have.0)
          (rowids_rise shape entries have.0 (tree_rises pages size root entries used tree) each) (each_fit t have.0 shape entries have.0 same have.1);
    }

abbrev column : Column
column = record { name = []; affinity = to.Blob; collation = Binary; is_filled = false; default = Null }

-- a table whose rows have a shape
abbrev some_table : RowShape → Table
some_table shape = record { name = []; columns = replicate shape.width column; rowid_column = shape.own; checks = []; keys = []; indexes = []; root = 0; rowid = pos 0 }

has_shape : (shape : RowShape) → place_within shape.width shape.own ≡ shape.own → shape ≡ shape_of (some_table shape)
has_shape shape within =
    ap (λ (own : Option ℕ). record { width = shape.width; own = own }) (sym within)
    ∙ ap (λ (n : ℕ). record { width = n; own = place_within n shape.own }) (sym (length-replicate shape.width column))

word_first : (a b c d : Bool) → (a && b && c && d) ≡ true → a ≡ true
word_first true b c d e = refl
word_first false b c d e = absurd (false≢true e)

values_third : (a b c d : Bool) → (a && b && c && d) ≡ true → c ≡ true
values_third true true true d e = refl
values_third true true false d e = absurd (false≢true e)
values_third true false c d e = absurd (false≢true e)
values_third false b c d e = absurd (false≢true e)

fit_each : (t : Table) (held : List TableRow) (shape : RowShape) (entries : List Entry) (rows : List TableRow) → Pairwise (IsRow shape) entries rows → list_all (is_row (with_rows t held)) rows ≡ true → Pairwise (IsFitRow shape) entries rows
fit_each t held shape [] [] each fit = tt
fit_each t held shape [] (row ∷ rows) each fit = absurd each
fit_each t held shape (entry ∷ entries) [] each fit = absurd each
fit_each t held shape (entry ∷ entries) (row ∷ rows) each fit =
    let one = first_of (is_row (with_rows t held) row) (list_all (is_row (with_rows t held)) rows) fit in
    let a = is_word row.0 in
    let b = length row.1 == length (map as_column t.columns) in
    let c = list_all is_value row.1 in
    let d = holds_rowid (own_column t) row in (
      record { is = each.0; word = word_first a b c d one; values = values_third a b c d one },
      fit_each t held shape entries rows each.1 (second_of (is_row (with_rows t held) row) (list_all (is_row (with_rows t held)) rows) fit),
    )

-- where there is a row, the rowid's own place is one of its values
fit_within : (shape : RowShape) (entries : List Entry) (rows : List TableRow) → place_within shape.width shape.own ≡ shape.own → Pairwise (IsRow shape) entries rows → AreFitRows shape rows
    → Pairwise (IsFitRow shape) entries rows
fit_within shape entries rows within each fit =
    let t = some_table shape in
    let all = fit t (has_shape shape within) in
    fit_each t rows shape entries rows each (second_of (is_rising int_cmp (map (λ r. r.0) rows)) (list_all (is_row (with_rows t rows)) rows) all)

pub fit_rows : (shape : RowShape) (entries : List Entry) (rows : List TableRow) → Pairwise (IsRow shape) entries rows → AreFitRows shape rows → Pairwise (IsFitRow shape) entries rows
fit_rows shape [] [] each fit = tt
fit_rows shape [] (row ∷ rows) each fit = absurd each
fit_rows shape (entry ∷ entries) [] each fit = absurd each
fit_rows shape (entry ∷ entries) (row ∷ rows) each fit =
    let within : place_within shape.width shape.own ≡ shape.own =
    subst (λ (n : ℕ). place_within n shape.own ≡ shape.own) each.0.full (held_within shape.own row.0 row.1 each.0.own) in
    fit_within shape (entry ∷ entries) (row ∷ rows) within each fit

-- ---- batch by batch

module _ {P K : Type 0} (below : P → K) (tells : K → Bool) (limits : K → Limits) (pages : P → PageMap) (count : P → ℕ) (failures : P → ℕ × ℕ) where
  -- What is so after some batches.
  pub record HasChecked (old now : P) (root at_root : ℕ) (next : Option ℤ) (shape : RowShape) : Type 0 where
    pub stays : Stays below pages count failures {T = ⊤} (Ok tt) old now
    pub same_root : at_root ≡ root
    pub done : List Entry
    pub have : HaveRows shape done
    pub are : IsTrue (tells (below old)) → (rows : List Entry) (used : List ℕ) → AreWhole (limits (below old)).page (pages old) → IsTableTree (pages old) (limits (below old)).page root rows used
        → rows ≡ done ++ rows_from next rows

  pub none_checked : (old : P) (root at_root : ℕ) (next : Option ℤ) (shape : RowShape) → at_root ≡ root → BeginsAll next → HasChecked old old root at_root next shape
  none_checked old root at_root next shape same begin = record {
    stays = record { kept = refl; same = refl; counted = refl; causes = record { db = omega arith; log = omega arith; why = tt } };
    same_root = same;
    done = [];
    have = ([], tt);
    are = λ told rows used whole tree. sym (begin (pages old) (limits (below old)).page root rows used tree);
  }

  batch_is : (old mid : P) (root at_root : ℕ) (next later : Option ℤ) (batch : List Entry) (result : Result ⊤ Fault) → Stays below pages count failures {T = ⊤} (Ok tt) old mid → at_root ≡ root
      → (IsTrue (tells (below mid)) → GivesBatch (pages mid) (limits (below mid)).page at_root next later batch result) → IsTrue (tells (below old)) → GivesBatch (pages old) (limits (below old)).page root next later batch result
  batch_is old mid root at_root next later batch result stays same gives told =
      subst (λ (n : ℕ). GivesBatch (pages old) (limits (below old)).page n next later batch result) same
      (subst (λ (m : PageMap). GivesBatch m (limits (below old)).page at_root next later batch result) stays.same
      (subst (λ (k : K). GivesBatch (pages mid) (limits k).page at_root next later batch result) stays.kept (gives (subst (λ (k : K). IsTrue (tells k)) (sym stays.kept) told))))

  module _ (old mid : P) (root at_root : ℕ) (next later : Option ℤ) (shape : RowShape) (batch : List Entry) (has : HasChecked old mid root at_root next shape) where
    parts : (IsTrue (tells (below mid)) → GivesBatch (pages mid) (limits (below mid)).page at_root next later batch (Ok tt)) → IsTrue (tells (below old)) → (rows : List Entry) (used : List ℕ)
        → AreWhole (limits (below old)).page (pages old) → IsTableTree (pages old) (limits (below old)).page root rows used → rows ≡ has.done ++ (batch ++ rows_from later rows)
    parts gives told rows used whole tree =
        has.are told rows used whole tree ∙ ap (λ (them : List Entry). has.done ++ them) (batch_is old mid root at_root next later batch (Ok tt) has.stays has.same_root gives told rows used whole tree).0

    pub checked_on : (new : P) (new_root : ℕ) → new_root ≡ at_root → Stays below pages count failures {T = ⊤} (Ok tt) old new
        → (IsTrue (tells (below mid)) → GivesBatch (pages mid) (limits (below mid)).page at_root next later batch (Ok tt)) → HaveRows shape batch → HasChecked old new root new_root later shape
    checked_on new new_root same stays gives have = record {
      stays = stays;
      same_root = same ∙ has.same_root;
      done = has.done ++ batch;
      have = have_more shape has.done batch has.have have;
      are = λ told rows used whole tree. parts gives told rows used whole tree ∙ sym (append_assoc has.done batch (rows_from later rows));
    }

    -- where the tree's rows are fit, those of the batch are
    pub batch_has : (IsTrue (tells (below mid)) → GivesBatch (pages mid) (limits (below mid)).page at_root next later batch (Ok tt)) → IsTrue (tells (below old)) → (rows : List TableRow)
        → AreWhole (limits (below old)).page (pages old) → HasRows (pages old) (limits (below old)).page root shape rows → AreFitRows shape rows → HaveRows shape batch
    batch_has gives told rows whole tree fit =
        part_has shape has.done batch (rows_from later tree.entries) rows
        (subst (λ (entries : List Entry). Pairwise (IsFitRow shape) entries rows) (parts gives told tree.entries tree.used whole tree.tree) (fit_rows shape tree.entries rows tree.each fit))

    pub batch_fails : (fault : Fault) → (IsTrue (tells (below mid)) → GivesBatch (pages mid) (limits (below mid)).page at_root next later batch (Err fault)) → IsTrue (tells (below old)) → (rows : List TableRow)
        → AreWhole (limits (below old)).page (pages old) → HasRows (pages old) (limits (below old)).page root shape rows → IsOutside fault
    batch_fails fault gives told rows whole tree = batch_is old mid root at_root next later batch (Err fault) has.stays has.same_root gives told tree.entries tree.used whole tree.tree

    pub all_checked : next ≡ None → IsTrue (tells (below old)) → FindsFit (pages old) (limits (below old)).page root shape (Ok tt)
    all_checked none told entries used whole tree =
        let same = has.are told entries used whole tree ∙ ap (λ (at : Option ℤ). has.done ++ rows_from at entries) none ∙ append-nil has.done in
        holds_fit (pages old) (limits (below old)).page root shape entries used tree (subst (HaveRows shape) (sym same) has.have)

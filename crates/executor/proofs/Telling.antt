-- Rows that tell what is listed go on to tell it: with more pages, with one row more, and with one less.
use Rattle.std.proofs.Common.{◌≡◌, ◌≤◌, inl, inr, refl, sym, ap, subst, ◌∙◌, ℕ, ℤ, true, false, codes, cond, map, List, [], ◌∷◌, ◌++◌, append_assoc, Option, Some, None, arith}
use Rattle.std.specs.List.{AllByRecursion}
use Rattle.std.specs.Ordering.{eq_by_cmp, int_cmp, int_eq}
use Rattle.std.specs.Prelude.{⊤, flat_map}
use Rattle.sqlval.specs.Names.{folded}
use Rattle.tree_leaf.specs.Leaf.{Entry}
use Rattle.tree_page.specs.Cells.{Pairwise}
use Rattle.tree_table.specs.Rows.{payload_at, with_row, without_row}
use Rattle.sql_syntax.specs.declared.create.TableDefinition.{TableDefinition}
use Rattle.catalog.specs.Listed.{is_table, rowids_in, rowids_of, Listed}
use Rattle.catalog.specs.UnusedRowids.{is_among}
use Rattle.catalog.specs.declared.tables.Index.{Index}
use Rattle.catalog.specs.declared.tables.Table.{Table}
use Rattle.query_names.specs.Bound.{AreOnce, is_twice_named}
use Rattle.query_names.specs.Creating.{HasColumnsOf, has_doubled}
use Rattle.query_names.proofs.CreatedTables.{keeps_once}
use Rattle.db_pages.specs.Reordering.{AreReordered}
use Rattle.db_pages.specs.Schema.{AreRowsOf, HasRowOf, IndexTold, TableTold, Tells, Told, all_told, told_by, TriggerTold, ViewTold, tables_told}
use Rattle.db_pages.proofs.Reordering.{all_reordered, is_reordered, reordered_between, reordered_map, reordered_sym, reordered_without}
use Rattle.executor.specs.Listing.{AreThere, without_rows}
use Rattle.executor.proofs.FoundTables.{neither, same_bytes}
use Rattle.executor.proofs.Owners.{found_among, joins, one_of, splits}
use Rattle.executor.proofs.SchemaRows.{AreDistinct, distinct_before, distinct_left, goes_between, there_at, without_at}
use Rattle.catalog.specs.declared.tables.Trigger.{Trigger}
use Rattle.catalog.specs.declared.tables.View.{View}

-- the rows tell these items, in whatever order
pub record AreToldBy (pages : ℕ) (items : List Told) (rows : List Entry) : Type 0 where
  pub told : List Told
  pub all : AreReordered told items
  pub each : Pairwise (Tells pages) told rows

pub as_told : (pages : ℕ) (l : Listed) (rows : List Entry) → AreRowsOf pages l rows → AreToldBy pages (all_told l) rows
as_told pages l rows tell = record { told = tell.told; all = tell.all; each = tell.each }

pub as_rows : (pages : ℕ) (l : Listed) (items : List Told) (rows : List Entry) → all_told l ≡ items → AreToldBy pages items rows → AreRowsOf pages l rows
as_rows pages l items rows are tell = record { told = tell.told; all = subst (AreReordered tell.told) (sym are) tell.all; each = tell.each }

pub told_as : (pages : ℕ) (items others : List Told) (rows : List Entry) → items ≡ others → AreToldBy pages items rows → AreToldBy pages others rows
told_as pages items others rows same tell = subst (λ (xs : List Told). AreToldBy pages xs rows) same tell

-- ---- more pages

row_with_more : (n m : ℕ) → n ≤ m → (kind own on : List ℕ) (root : ℕ) (sql : Option (List ℕ)) (row : Entry) → HasRowOf n kind own on root sql row → HasRowOf m kind own on root sql row
row_with_more n m le kind own on root sql row is = record {
  above = is.above;
  within = omega (arith, is.within, le);
  name = is.name;
  name_is = is.name_is;
  table_name = is.table_name;
  table_name_is = is.table_name_is;
  row_is = is.row_is;
}

tells_with_more : (n m : ℕ) → n ≤ m → (item : Told) (row : Entry) → Tells n item row → Tells m item row
tells_with_more n m le (TableTold t) row is = record {
  sql = is.sql;
  definition = is.definition;
  creates = is.creates;
  makes = is.makes;
  rowid_is = is.rowid_is;
  row_is = row_with_more n m le _ _ _ _ (Some is.sql) row is.row_is;
}
tells_with_more n m le (IndexTold t i) row (inl is) = inl (record {
  sql = is.sql;
  definition = is.definition;
  creates = is.creates;
  makes = is.makes;
  rowid_is = is.rowid_is;
  row_is = row_with_more n m le _ _ _ _ (Some is.sql) row is.row_is;
})
tells_with_more n m le (IndexTold t i) row (inr is) = inr (record {
  automatic = is.automatic;
  rowid_is = is.rowid_is;
  row_is = row_with_more n m le (codes "index") i.name t.name i.root None row is.row_is;
})
tells_with_more n m le (ViewTold v) row is = is
tells_with_more n m le (TriggerTold t) row is = is

each_tells : (P Q : Told → Entry → Type 0) → ((item : Told) (row : Entry) → P item row → Q item row) → (items : List Told) (rows : List Entry) → Pairwise P items rows → Pairwise Q items rows
each_tells P Q so [] [] each = tt
each_tells P Q so [] (row ∷ rows) each = absurd each
each_tells P Q so (item ∷ items) [] each = absurd each
each_tells P Q so (item ∷ items) (row ∷ rows) each = (so item row each.0, each_tells P Q so items rows each.1)

pub more_pages : (n m : ℕ) → n ≤ m → (items : List Told) (rows : List Entry) → AreToldBy n items rows → AreToldBy m items rows
more_pages n m le items rows tell = record { told = tell.told; all = tell.all; each = each_tells (Tells n) (Tells m) (tells_with_more n m le) tell.told rows tell.each }

-- ---- other words for what is told

pub each_retold : (pages : ℕ) (f : Told → Told) (items : List Told) (rows : List Entry) → AllByRecursion (λ item. (row : Entry) → Tells pages item row → Tells pages (f item) row) items
    → Pairwise (Tells pages) items rows → Pairwise (Tells pages) (map f items) rows
each_retold pages f [] [] so each = tt
each_retold pages f [] (row ∷ rows) so each = absurd each
each_retold pages f (item ∷ items) [] so each = absurd each
each_retold pages f (item ∷ items) (row ∷ rows) so each = (so.0 row each.0, each_retold pages f items rows so.1 each.1)

pub retold : (pages : ℕ) (f : Told → Told) (items : List Told) (rows : List Entry) → AllByRecursion (λ item. (row : Entry) → Tells pages item row → Tells pages (f item) row) items
    → AreToldBy pages items rows → AreToldBy pages (map f items) rows
retold pages f items rows so tell = record {
  told = map f tell.told;
  all = reordered_map f tell.told items tell.all;
  each = each_retold pages f tell.told rows
      (all_reordered (λ item. (row : Entry) → Tells pages item row → Tells pages (f item) row) items tell.told (reordered_sym tell.told items tell.all) so) tell.each;
}

-- ---- one row more

-- what stands beside two parts of a list stands in two parts
record Parted {A B : Type 0} (P : A → B → Type 0) (xs : List A) (front back : List B) : Type 0 where
  first : List A
  rest : List A
  parts : xs ≡ first ++ rest
  fronts : Pairwise P first front
  backs : Pairwise P rest back

parted : {A B : Type 0} (P : A → B → Type 0) (xs : List A) (front back : List B) → Pairwise P xs (front ++ back) → Parted P xs front back
parted P xs [] back each = record { first = []; rest = xs; parts = refl; fronts = tt; backs = each }
parted P [] (y ∷ front) back each = absurd each
parted P (x ∷ xs) (y ∷ front) back each =
    let r = parted P xs front back each.1 in
    record { first = x ∷ r.first; rest = r.rest; parts = ap (λ zs. x ∷ zs) r.parts; fronts = (each.0, r.fronts); backs = r.backs }

pub one_more : (pages : ℕ) (c d : List Told) (item : Told) (row : Entry) (rows : List Entry) → AreToldBy pages (c ++ d) rows → payload_at row.rowid rows ≡ None → Tells pages item row
    → AreToldBy pages (c ++ item ∷ d) (with_row row rows)
one_more pages c d item row rows tell none tells =
    let g = goes_between row rows none in
    let p = parted (Tells pages) tell.told g.before g.after (subst (Pairwise (Tells pages) tell.told) g.parts tell.each) in
    record {
      told = p.first ++ item ∷ p.rest;
      all = reordered_between p.first p.rest c d item (is_reordered tell.told (p.first ++ p.rest) (c ++ d) p.parts tell.all);
      each = subst (Pairwise (Tells pages) (p.first ++ item ∷ p.rest)) (sym g.then_are) (joins (Tells pages) p.first g.before (item ∷ p.rest) (row ∷ g.after) p.fronts (tells, p.backs));
    }

-- ---- one row less

-- the rowid of the row of a told item
abbrev pub rowid_told : Told → ℤ
rowid_told (TableTold t) = t.rowid
rowid_told (IndexTold t i) = i.rowid
rowid_told (ViewTold v) = v.rowid
rowid_told (TriggerTold t) = t.rowid

pub at_rowid : (pages : ℕ) (item : Told) (row : Entry) → Tells pages item row → row.rowid ≡ rowid_told item
at_rowid pages (TableTold t) row tells = tells.rowid_is
at_rowid pages (IndexTold t i) row (inl tells) = tells.rowid_is
at_rowid pages (IndexTold t i) row (inr tells) = tells.rowid_is
at_rowid pages (ViewTold v) row tells = tells.rowid_is
at_rowid pages (TriggerTold t) row tells = tells.rowid_is

-- the row of an item is there, and without it the others are told
pub record IsLess (pages : ℕ) (items : List Told) (rowid : ℤ) (rows : List Entry) : Type 0 where
  pub there : payload_at rowid rows ≡ None → ⊥
  pub tell : AreToldBy pages items (without_row rowid rows)
  pub distinct : AreDistinct (without_row rowid rows)

pub one_less : (pages : ℕ) (c d : List Told) (item : Told) (rows : List Entry) → AreToldBy pages (c ++ item ∷ d) rows → AreDistinct rows → IsLess pages (c ++ d) (rowid_told item) rows
one_less pages c d item rows tell distinct =
    let out = reordered_without c d item tell.told (reordered_sym tell.told (c ++ item ∷ d) tell.all) in
    let s = splits (Tells pages) out.0 item out.1 rows (subst (λ (xs : List Told). Pairwise (Tells pages) xs rows) out.2 tell.each) in
    let at : s.at.rowid ≡ rowid_told item = at_rowid pages item s.at s.is in
    let apart : AreDistinct (s.before ++ s.at ∷ s.after) = subst AreDistinct s.parts distinct in
    let left : without_row (rowid_told item) rows ≡ s.before ++ s.after =
    ap (without_row (rowid_told item)) s.parts ∙ without_at s.before s.at s.after (rowid_told item) at (distinct_before s.before s.at s.after (rowid_told item) at apart) in
    record {
      there = λ none. there_at s.before s.at s.after (rowid_told item) at (subst (λ (rs : List Entry). payload_at (rowid_told item) rs ≡ None) s.parts none);
      tell = record {
        told = out.0 ++ out.1;
        all = reordered_sym (c ++ d) (out.0 ++ out.1) out.3;
        each = subst (Pairwise (Tells pages) (out.0 ++ out.1)) (sym left) (joins (Tells pages) out.0 s.before out.1 s.after s.fronts s.backs);
      };
      distinct = subst AreDistinct (sym left) (distinct_left s.before s.at s.after apart);
    }

-- the same of several items
pub record AreLess (pages : ℕ) (items : List Told) (rowids : List ℤ) (rows : List Entry) : Type 0 where
  pub there : AreThere rowids rows
  pub tell : AreToldBy pages items (without_rows rowids rows)
  pub distinct : AreDistinct (without_rows rowids rows)

pub many_less : (pages : ℕ) (c xs d : List Told) (rows : List Entry) → AreToldBy pages (c ++ (xs ++ d)) rows → AreDistinct rows → AreLess pages (c ++ d) (map rowid_told xs) rows
many_less pages c [] d rows tell distinct = record { there = tt; tell = tell; distinct = distinct }
many_less pages c (x ∷ xs) d rows tell distinct =
    let one = one_less pages c (xs ++ d) x rows tell distinct in
    let rest = many_less pages c xs d (without_row (rowid_told x) rows) one.tell one.distinct in
    record { there = (one.there, rest.there); tell = rest.tell; distinct = rest.distinct }

-- ---- rowids

told_rowids : (t : Table) → map rowid_told (told_by t) ≡ rowids_in t
told_rowids t = ap (λ xs. t.rowid ∷ xs) (of_indexes t.indexes)
  where
    of_indexes : (is : List Index) → map rowid_told (map (λ i. IndexTold t i) is) ≡ map (λ i. i.rowid) is
    of_indexes [] = refl
    of_indexes (i ∷ is) = ap (λ xs. i.rowid ∷ xs) (of_indexes is)

pub rowids_told : (t : Table) → map rowid_told (told_by t) ≡ rowids_in t
rowids_told t = told_rowids t

map_both : {A B : Type 0} (f : A → B) (xs ys : List A) → map f (xs ++ ys) ≡ map f xs ++ map f ys
map_both f [] ys = refl
map_both f (x ∷ xs) ys = ap (λ zs. f x ∷ zs) (map_both f xs ys)

table_rowids : (tables : List Table) → map rowid_told (tables_told tables) ≡ flat_map rowids_in tables
table_rowids [] = refl
table_rowids (t ∷ ts) = map_both rowid_told (told_by t) (tables_told ts) ∙ (ap (λ zs. zs ++ map rowid_told (tables_told ts)) (told_rowids t) ∙ ap (λ zs. rowids_in t ++ zs) (table_rowids ts))

view_rowids : (views : List View) → map rowid_told (map ViewTold views) ≡ map (λ (v : View). v.rowid) views
view_rowids [] = refl
view_rowids (v ∷ vs) = ap (λ zs. v.rowid ∷ zs) (view_rowids vs)

trigger_rowids : (triggers : List Trigger) → map rowid_told (map TriggerTold triggers) ≡ map (λ (t : Trigger). t.rowid) triggers
trigger_rowids [] = refl
trigger_rowids (t ∷ ts) = ap (λ zs. t.rowid ∷ zs) (trigger_rowids ts)

-- what is told of the views, then of the triggers
abbrev pub treeless_told : Listed → List Told
treeless_told l = map ViewTold l.views ++ map TriggerTold l.triggers

treeless_rowids : (l : Listed) → map rowid_told (treeless_told l) ≡ map (λ (v : View). v.rowid) l.views ++ map (λ (t : Trigger). t.rowid) l.triggers
treeless_rowids l =
    map_both rowid_told (map ViewTold l.views) (map TriggerTold l.triggers)
    ∙ (ap (λ zs. zs ++ map rowid_told (map TriggerTold l.triggers)) (view_rowids l.views) ∙ ap (λ zs. map (λ (v : View). v.rowid) l.views ++ zs) (trigger_rowids l.triggers))

all_rowids : (l : Listed) → map rowid_told (all_told l) ≡ rowids_of l
all_rowids l =
    map_both rowid_told (tables_told l.tables) (treeless_told l)
    ∙ (ap (λ zs. zs ++ map rowid_told (treeless_told l)) (table_rowids l.tables) ∙ ap (λ zs. flat_map rowids_in l.tables ++ zs) (treeless_rowids l))

-- a rowid that none of the items has
not_among : (rowid : ℤ) (items : List Told) → is_among rowid (map rowid_told items) ≡ false → AllByRecursion (λ item. int_eq (rowid_told item) rowid ≡ false) items
not_among rowid [] none = tt
not_among rowid (item ∷ items) none =
    let both = neither (eq_by_cmp int_cmp (rowid_told item) rowid) (is_among rowid (map rowid_told items)) none in (both.0, not_among rowid items both.1)

none_at : (pages : ℕ) (rowid : ℤ) (items : List Told) (rows : List Entry) → Pairwise (Tells pages) items rows → AllByRecursion (λ item. int_eq (rowid_told item) rowid ≡ false) items → payload_at rowid rows ≡ None
none_at pages rowid [] [] each other = refl
none_at pages rowid [] (row ∷ rows) each other = absurd each
none_at pages rowid (item ∷ items) [] each other = absurd each
none_at pages rowid (item ∷ items) (row ∷ rows) each other =
    ap (λ b. cond b (Some row.payload) (payload_at rowid rows)) (subst (λ z. int_eq z rowid ≡ false) (sym (at_rowid pages item row each.0)) other.0)
    ∙ none_at pages rowid items rows each.1 other.1

-- no row has a rowid that nothing listed has
pub free_at : (pages : ℕ) (l : Listed) (rows : List Entry) (rowid : ℤ) → AreRowsOf pages l rows → is_among rowid (rowids_of l) ≡ false → payload_at rowid rows ≡ None
free_at pages l rows rowid tell none =
    none_at pages rowid tell.told rows tell.each
    (all_reordered (λ item. int_eq (rowid_told item) rowid ≡ false) (all_told l) tell.told (reordered_sym tell.told (all_told l) tell.all)
    (not_among rowid (all_told l) (subst (λ (xs : List ℤ). is_among rowid xs ≡ false) (sym (all_rowids l)) none)))

-- ---- columns

-- of a definition's columns none has the name of another
abbrev IsOnce : Told → Type 0
IsOnce (TableTold t) = is_twice_named t.columns ≡ false
IsOnce (IndexTold t i) = ⊤
IsOnce (ViewTold v) = ⊤
IsOnce (TriggerTold t) = ⊤

own_name : (t : Table) → is_table t.name t ≡ true
own_name t = same_bytes (folded t.name)

once_alone : (d : TableDefinition) (t : Table) → has_doubled d.columns ≡ false → HasColumnsOf d t → is_twice_named t.columns ≡ false
once_alone d t once columns = keeps_once [] d t (λ name u found. absurd cc) once columns t.name t (ap (λ b. cond b (Some t) None) (own_name t))

told_once : (pages : ℕ) (items : List Told) (rows : List Entry) → Pairwise (Tells pages) items rows → AllByRecursion IsOnce items
told_once pages [] rows each = tt
told_once pages (item ∷ items) [] each = absurd each
told_once pages (TableTold t ∷ items) (row ∷ rows) each = (once_alone each.0.definition t each.0.makes.once each.0.makes.columns, told_once pages items rows each.1)
told_once pages (IndexTold t i ∷ items) (row ∷ rows) each = (tt, told_once pages items rows each.1)
told_once pages (ViewTold v ∷ items) (row ∷ rows) each = (tt, told_once pages items rows each.1)
told_once pages (TriggerTold t ∷ items) (row ∷ rows) each = (tt, told_once pages items rows each.1)

pub all_after : {A : Type 0} (P : A → Type 0) (xs ys : List A) → AllByRecursion P (xs ++ ys) → AllByRecursion P ys
all_after P [] ys all = all
all_after P (x ∷ xs) ys all = all_after P xs ys all.1

pub all_before : {A : Type 0} (P : A → Type 0) (xs ys : List A) → AllByRecursion P (xs ++ ys) → AllByRecursion P xs
all_before P [] ys all = tt
all_before P (x ∷ xs) ys all = (all.0, all_before P xs ys all.1)

tables_once : (tables : List Table) → AllByRecursion IsOnce (tables_told tables) → AllByRecursion (λ (t : Table). is_twice_named t.columns ≡ false) tables
tables_once [] all = tt
tables_once (t ∷ ts) all = (all.0, tables_once ts (all_after IsOnce (told_by t) (tables_told ts) all))

-- tables that rows tell have no two columns of one name
pub once_told : (pages : ℕ) (l : Listed) (rows : List Entry) → AreRowsOf pages l rows → AreOnce l.tables
once_told pages l rows tell name t named =
    let a = found_among (is_table name) l.tables t named in
    let all : AllByRecursion (λ (t : Table). is_twice_named t.columns ≡ false) l.tables = tables_once l.tables (all_before IsOnce (tables_told l.tables) (treeless_told l) (all_reordered IsOnce tell.told (all_told l) tell.all (told_once pages tell.told rows tell.each))) in
    one_of (λ (t : Table). is_twice_named t.columns ≡ false) a.front t a.back (subst (AllByRecursion (λ (t : Table). is_twice_named t.columns ≡ false)) a.parts all)

-- ---- other items in place of some

-- the same rows tell another item
pub one_retold : (pages : ℕ) (c d : List Told) (item other : Told) (rows : List Entry) → ((row : Entry) → Tells pages item row → Tells pages other row) → AreToldBy pages (c ++ item ∷ d) rows
    → AreToldBy pages (c ++ other ∷ d) rows
one_retold pages c d item other rows so tell =
    let out = reordered_without c d item tell.told (reordered_sym tell.told (c ++ item ∷ d) tell.all) in
    let s = splits (Tells pages) out.0 item out.1 rows (subst (λ (xs : List Told). Pairwise (Tells pages) xs rows) out.2 tell.each) in
    record {
      told = out.0 ++ other ∷ out.1;
      all = reordered_between out.0 out.1 c d other (reordered_sym (c ++ d) (out.0 ++ out.1) out.3);
      each = subst (Pairwise (Tells pages) (out.0 ++ other ∷ out.1)) (sym s.parts) (joins (Tells pages) out.0 s.before (other ∷ out.1) (s.at ∷ s.after) s.fronts (so s.at s.is, s.backs));
    }

-- the second tells whatever the first does
abbrev pub IsToldAlso : ℕ → Told → Told → Type 0
IsToldAlso pages item other = (row : Entry) → Tells pages item row → Tells pages other row

pub many_retold : (pages : ℕ) (c xs ys d : List Told) (rows : List Entry) → Pairwise (IsToldAlso pages) xs ys → AreToldBy pages (c ++ (xs ++ d)) rows → AreToldBy pages (c ++ (ys ++ d)) rows
many_retold pages c [] [] d rows also tell = tell
many_retold pages c [] (y ∷ ys) d rows also tell = absurd also
many_retold pages c (x ∷ xs) [] d rows also tell = absurd also
many_retold pages c (x ∷ xs) (y ∷ ys) d rows also tell =
    told_as pages ((c ++ y ∷ []) ++ (ys ++ d)) (c ++ y ∷ (ys ++ d)) rows (append_assoc c (y ∷ []) (ys ++ d))
    (many_retold pages (c ++ y ∷ []) xs ys d rows also.1
    (told_as pages (c ++ y ∷ (xs ++ d)) ((c ++ y ∷ []) ++ (xs ++ d)) rows (sym (append_assoc c (y ∷ []) (xs ++ d))) (one_retold pages c (xs ++ d) x y rows also.0 tell)))

-- a table with other indexes is told by the same row, and its indexes too
pub same_table : (pages : ℕ) (t : Table) (others : List Index) → IsToldAlso pages (TableTold t) (TableTold (record t { indexes = others }))
same_table pages t others row is = record {
  sql = is.sql;
  definition = is.definition;
  creates = is.creates;
  makes = record { free = is.makes.free; once = is.makes.once; name_is = is.makes.name_is; columns = is.makes.columns; checks = is.makes.checks; keys = is.makes.keys };
  rowid_is = is.rowid_is;
  row_is = is.row_is;
}

pub same_indexes : (pages : ℕ) (t : Table) (others is : List Index) → Pairwise (IsToldAlso pages) (map (λ i. IndexTold t i) is) (map (λ i. IndexTold (record t { indexes = others }) i) is)
same_indexes pages t others [] = tt
same_indexes pages t others (i ∷ is) = (λ row. same_row row, same_indexes pages t others is)
  where
    same_row : (row : Entry) → Tells pages (IndexTold t i) row → Tells pages (IndexTold (record t { indexes = others }) i) row
    same_row row (inl tells) = inl (record {
      sql = tells.sql;
      definition = tells.definition;
      creates = tells.creates;
      makes = record {
        free = tells.makes.free;
        once = tells.makes.once;
        name_is = tells.makes.name_is;
        on = tells.makes.on;
        unique = tells.makes.unique;
        written = tells.makes.written;
        columns = tells.makes.columns;
      };
      rowid_is = tells.rowid_is;
      row_is = tells.row_is;
    })
    same_row row (inr tells) = inr (record { automatic = tells.automatic; rowid_is = tells.rowid_is; row_is = tells.row_is })

-- ---- all that tables tell

pub told_append : (xs ys : List Table) → tables_told (xs ++ ys) ≡ tables_told xs ++ tables_told ys
told_append [] ys = refl
told_append (x ∷ xs) ys = ap (λ zs. told_by x ++ zs) (told_append xs ys) ∙ sym (append_assoc (told_by x) (tables_told xs) (tables_told ys))

-- what stands after what these tables tell, where those come next, and then views and triggers
abbrev pub told_after : List Table → Listed → List Told
told_after back l = tables_told back ++ treeless_told l

pub told_joined : (front back : List Table) (l : Listed) → all_told (record l { tables = front ++ back }) ≡ tables_told front ++ told_after back l
told_joined front back l = ap (λ zs. zs ++ treeless_told l) (told_append front back) ∙ append_assoc (tables_told front) (tables_told back) (treeless_told l)

pub told_around : (front : List Table) (t : Table) (back : List Table) (l : Listed) → all_told (record l { tables = front ++ t ∷ back }) ≡ tables_told front ++ (told_by t ++ told_after back l)
told_around front t back l = told_joined front (t ∷ back) l ∙ ap (λ zs. tables_told front ++ zs) (append_assoc (told_by t) (tables_told back) (treeless_told l))

pub map_append : {A B : Type 0} (f : A → B) (xs ys : List A) → map f (xs ++ ys) ≡ map f xs ++ map f ys
map_append f xs ys = map_both f xs ys

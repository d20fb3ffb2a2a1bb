-- Rows in others' places, some at a time: all of a batch go, and then all come.
use Rattle.std.proofs.Common.{◌≡◌, refl, sym, ap, subst, ◌∙◌, inl, inr, ℕ, ℤ, ◌≤◌, ◌<◌, ◌+◌, ◌-◌, append_assoc, Bool, true, false, List, [], ◌∷◌, ◌++◌, length, map, take, drop, slice_index_or, arith, Ok, Err}
use Rattle.std.proofs.lemmas.List.{append-nil, drop_all, drop_more, length-drop, length-map}
use Rattle.std.specs.List.{AllByRecursion}
use Rattle.std.specs.Prelude.{Result, ⊤, IsErrAnd, if◌then◌else◌, suc, min}
use Rattle.sqlval.specs.declared.fault.Fault.{Fault}
use Rattle.record.specs.Writing.{AreStorable}
use Rattle.pages.specs.Calls.{IsOutsideOrFull}
use Rattle.pages.specs.Map.{PageMap}
use Rattle.tree_index.specs.Calls.{BecomesEntries, Stands}
use Rattle.tree_index.specs.Entries.{Entry, with_entry}
use Rattle.catalog.specs.declared.tables.TableRow.{TableRow}
use Rattle.index_entries.specs.Entries.{AreApart, Columns, IsApart, Row, collations, entries_of_rows, indexed}
use Rattle.index_entries.specs.Keeping.{AddsEntries, IsAddRefusal, Turns, row_in}
use Rattle.index_entries.specs.Replacing.{HaveSameKeys, ReplacesEntries, changed, has_same_key, rowids}
use Rattle.index_entries.specs.Taking.{TakesBatch}
use Rattle.index_entries.proofs.Replacing.{head, replaces_none, replaces_same, replaces_uneven, tail}
use Rattle.index_entries.proofs.Rows.{adds_its_entry, apart_after, apart_before, both_parts}
use Rattle.index_entries.proofs.Turning.{apart_front, stays, then_turns, without_one}

-- ---- rows as they are listed

pub listed : (i : ℕ) (rows : List TableRow) (row : TableRow) → i < length rows → row ≡ slice_index_or rows i row → map row_in (drop i rows) ≡ row_in row ∷ map row_in (drop (i + 1) rows)
listed i rows row lt at = ap (map row_in) (drop_more rows i row lt ∙ ap (λ (r : TableRow). r ∷ drop (i + 1) rows) (sym at))

pub none_listed : (i : ℕ) (rows : List TableRow) → length rows ≤ i → map row_in (drop i rows) ≡ []
none_listed i rows all = ap (map row_in) (drop_all i rows all)

pub some_listed : (rows : List TableRow) → (length rows ≡ 0 → ⊥) → 1 ≤ length rows
some_listed [] some = absurd (some refl)
some_listed (row ∷ rows) some = omega arith

pub none_yet : (n : ℕ) → 0 + n ≡ n
none_yet n = omega arith

-- ---- parts of lists

front_of : {X : Type 0} (P : X → Type 0) (xs ys : List X) → AllByRecursion P (xs ++ ys) → AllByRecursion P xs
front_of P [] ys all = tt
front_of P (x ∷ xs) ys all = (all.0, front_of P xs ys all.1)

back_of : {X : Type 0} (P : X → Type 0) (xs ys : List X) → AllByRecursion P (xs ++ ys) → AllByRecursion P ys
back_of P [] ys all = all
back_of P (x ∷ xs) ys all = back_of P xs ys all.1

more_ids : {m n : ℤ} {ms ns : List ℤ} → m ≡ n → ms ≡ ns → m ∷ ms ≡ n ∷ ns
more_ids e es = cc

joined : (xs ys : List Row) → rowids (xs ++ ys) ≡ rowids xs ++ rowids ys
joined [] ys = refl
joined (x ∷ xs) ys = ap (λ (ns : List ℤ). x.0 ∷ ns) (joined xs ys)

-- rowids of two lists of rows, by their parts
parted : (gone come rest others : List Row) → length gone ≡ length come → rowids (gone ++ rest) ≡ rowids (come ++ others) → (rowids gone ≡ rowids come) × (rowids rest ≡ rowids others)
parted [] [] rest others even same = (refl, same)
parted [] (next ∷ come) rest others even same = absurd (omega (arith, even))
parted (row ∷ gone) [] rest others even same = absurd (omega (arith, even))
parted (row ∷ gone) (next ∷ come) rest others even same = (let more = parted gone come rest others (omega (arith, even)) (tail same) in (more_ids (head same) more.0, more.1))

put_ids : (rows gone come : List Row) → rowids gone ≡ rowids come → rowids (rows ++ gone) ≡ rowids (rows ++ come)
put_ids [] gone come same = same
put_ids (row ∷ rows) gone come same = ap (λ (ns : List ℤ). row.0 ∷ ns) (put_ids rows gone come same)

-- ---- rows that are apart

one_apart : (x y : Row) (xs ys : List Row) → x.0 ≡ y.0 → rowids xs ≡ rowids ys → IsApart x xs → IsApart y ys
one_apart x y [] [] id same all = tt
one_apart x y [] (b ∷ ys) id same all = absurd cc
one_apart x y (a ∷ xs) [] id same all = absurd cc
one_apart x y (a ∷ xs) (b ∷ ys) id same all = (λ e. all.0 (id ∙ e ∙ sym (head same)), one_apart x y xs ys id (tail same) all.1)

-- so are others of their rowids
others_apart : (xs ys : List Row) → rowids xs ≡ rowids ys → AreApart xs → AreApart ys
others_apart [] [] same apart = tt
others_apart [] (y ∷ ys) same apart = absurd cc
others_apart (x ∷ xs) [] same apart = absurd cc
others_apart (x ∷ xs) (y ∷ ys) same apart = (one_apart x y xs ys (head same) (tail same) apart.0, others_apart xs ys (tail same) apart.1)

apart_with : (row : Row) (before after : List Row) → AllByRecursion (λ (other : Row). row.0 ≡ other.0 → ⊥) (before ++ after) → AreApart (before ++ after) → AreApart (before ++ row ∷ after)
apart_with row [] after none apart = (none, apart)
apart_with row (first ∷ before) after none apart = (at before (λ e. none.0 (sym e)) apart.0, apart_with row before after none.1 apart.1) where
  at : (rows : List Row) → (first.0 ≡ row.0 → ⊥) → IsApart first (rows ++ after) → IsApart first (rows ++ row ∷ after)
  at [] other all = (other, all)
  at (next ∷ rows) other all = (all.0, at rows other all.1)

-- in another order too
last_apart : (before gone after : List Row) → AreApart (before ++ (gone ++ after)) → AreApart ((before ++ after) ++ gone)
last_apart before [] after apart = subst AreApart (sym (append-nil (before ++ after))) apart
last_apart before (row ∷ gone) after apart =
    let earlier = apart_before before (gone ++ after) row apart in
    let later = apart_after before (gone ++ after) row apart in
    let beside = both_parts (λ (other : Row). row.0 ≡ other.0 → ⊥) before after earlier (back_of (λ (other : Row). row.0 ≡ other.0 → ⊥) gone after later) in
    let others = both_parts (λ (other : Row). row.0 ≡ other.0 → ⊥) (before ++ after) gone beside (front_of (λ (other : Row). row.0 ≡ other.0 → ⊥) gone after later) in
    apart_with row (before ++ after) gone others (last_apart before gone after (without_one before row (gone ++ after) apart))

-- ---- entries don't depend on where rows stand

same_last : (columns : Columns) (before come after : List Row) → AreApart (before ++ (come ++ after)) → entries_of_rows columns ((before ++ after) ++ come) ≡ entries_of_rows columns (before ++ (come ++ after))
same_last columns before [] after apart = ap (λ (rs : List Row). entries_of_rows columns rs) (append-nil (before ++ after))
same_last columns before (row ∷ come) after apart =
    (adds_its_entry columns (before ++ after) come row (last_apart before (row ∷ come) after apart)).1
    ∙ ap (λ (es : List Entry). with_entry (collations columns) (indexed columns row) es) (same_last columns before come after (without_one before row (come ++ after) apart))
    ∙ sym (adds_its_entry columns before (come ++ after) row apart).1

module _ (columns : Columns) (come others : List Row) (f : Fault) where
  wider_front : IsAddRefusal columns come f → IsAddRefusal columns (come ++ others) f
  wider_front (inl outside) = inl outside
  wider_front (inr long) = inr (long.0, λ all. long.1 (front_of (λ (row : Row). AreStorable (indexed columns row)) come others all))

  wider_back : IsAddRefusal columns others f → IsAddRefusal columns (come ++ others) f
  wider_back (inl outside) = inl outside
  wider_back (inr long) = inr (long.0, λ all. long.1 (back_of (λ (row : Row). AreStorable (indexed columns row)) come others all))

module _ (size root : ℕ) (columns : Columns) where
  turns_by : (old new : PageMap) (before after from to : List Row) (Why : Fault → Type 0) (result : Result ⊤ Fault) → entries_of_rows columns before ≡ entries_of_rows columns from → entries_of_rows columns after ≡ entries_of_rows columns to
      → Turns old new size root columns before after Why result → Turns old new size root columns from to Why result
  turns_by old new before after from to Why (Ok done) first second turns used free stands =
      subst (λ (es : List Entry). BecomesEntries old new size root (collations columns) es used free) second
      (turns used free (subst (λ (es : List Entry). Stands old size root (collations columns) es used free) (sym first) stands))
  turns_by old new before after from to Why (Err f) first second turns used free stands =
      turns used free (subst (λ (es : List Entry). Stands old size root (collations columns) es used free) (sym first) stands)

  turns_wider : (old new : PageMap) (before after : List Row) (Why More : Fault → Type 0) (result : Result ⊤ Fault) → ((f : Fault) → Why f → More f)
      → Turns old new size root columns before after Why result → Turns old new size root columns before after More result
  turns_wider old new before after Why More (Ok done) wider turns = turns
  turns_wider old new before after Why More (Err f) wider turns = λ used free stands. wider f (turns used free stands)

  -- ---- rows that come one after another

  pub adds_none : (pages : PageMap) → AddsEntries pages pages size root columns [] (Ok tt)
  adds_none pages rows apart =
      subst (λ (rs : List Row). Turns pages pages size root columns rows rs (IsAddRefusal columns []) (Ok tt)) (sym (append-nil rows)) (stays pages size root columns rows (IsAddRefusal columns []))

  pub adds_more : (old mid new : PageMap) (row : Row) (rest : List Row) (result : Result ⊤ Fault) → AddsEntries old mid size root columns (row ∷ []) (Ok tt) → AddsEntries mid new size root columns rest result
      → AddsEntries old new size root columns (row ∷ rest) result
  adds_more old mid new row rest result first next rows apart =
      let now = subst AreApart (sym (append_assoc rows (row ∷ []) rest)) apart in
      let then_so = subst (λ (rs : List Row). Turns mid new size root columns (rows ++ row ∷ []) rs (IsAddRefusal columns rest) result) (append_assoc rows (row ∷ []) rest) (next (rows ++ row ∷ []) now) in
      turns_wider old new rows (rows ++ row ∷ rest) (IsAddRefusal columns rest) (IsAddRefusal columns (row ∷ rest)) result (wider_back columns (row ∷ []) rest)
      (then_turns old mid new size root columns rows (rows ++ row ∷ []) (rows ++ row ∷ rest) (IsAddRefusal columns (row ∷ [])) (IsAddRefusal columns rest) result
      (first rows (apart_front (rows ++ row ∷ []) rest now)) then_so)

  pub adds_stop : (old new : PageMap) (row : Row) (rest : List Row) (fault : Fault) (result : Result ⊤ Fault) → IsErrAnd result (λ e. e ≡ fault) → AddsEntries old new size root columns (row ∷ []) (Err fault)
      → AddsEntries old new size root columns (row ∷ rest) result
  adds_stop old new row rest fault (Ok done) is first = absurd is
  adds_stop old new row rest fault (Err e) is first = λ rows apart used free stands.
      subst (λ (f : Fault). IsAddRefusal columns (row ∷ rest) f) (sym is)
      (wider_front columns (row ∷ []) rest fault (first rows (apart_front (rows ++ row ∷ []) rest (subst AreApart (sym (append_assoc rows (row ∷ []) rest)) apart)) used free stands))

  -- ---- one batch

  last_rows : (rows gone : List Row) → rows ++ (gone ++ []) ≡ rows ++ gone
  last_rows rows gone = ap (λ (rs : List Row). rows ++ rs) (append-nil gone)

  pub batch_replaced : (old mid new : PageMap) (gone come : List Row) (result : Result ⊤ Fault) → TakesBatch old mid size root columns gone (Ok tt) → AddsEntries mid new size root columns come result
      → ReplacesEntries old new size root columns gone come result
  batch_replaced old mid new gone come result takes adds rows apart same =
      let out = takes rows [] (subst AreApart (sym (last_rows rows gone)) apart) in
      let from = subst (λ (rs : List Row). Turns old mid size root columns rs (rows ++ []) IsOutsideOrFull (Ok tt)) (last_rows rows gone) out in
      let first = subst (λ (rs : List Row). Turns old mid size root columns (rows ++ gone) rs IsOutsideOrFull (Ok tt)) (append-nil rows) from in
      then_turns old mid new size root columns (rows ++ gone) rows (rows ++ come) IsOutsideOrFull (IsAddRefusal columns come) result
      first (adds rows (others_apart (rows ++ gone) (rows ++ come) (put_ids rows gone come same) apart))

  -- it isn't taken out
  pub batch_stays : (old new : PageMap) (gone come : List Row) (fault : Fault) (result : Result ⊤ Fault) → IsErrAnd result (λ e. e ≡ fault) → TakesBatch old new size root columns gone (Err fault)
      → ReplacesEntries old new size root columns gone come result
  batch_stays old new gone come fault (Ok done) is takes = absurd is
  batch_stays old new gone come fault (Err e) is takes = λ rows apart same used free stands.
      subst (λ (f : Fault). IsAddRefusal columns come f) (sym is)
      (inl (takes rows [] (subst AreApart (sym (last_rows rows gone)) apart) used free
      (subst (λ (rs : List Row). Stands old size root (collations columns) (entries_of_rows columns rs) used free) (sym (last_rows rows gone)) stands)))

  -- ---- a batch, and then the rest

  module _ (gone come rest others : List Row) (even : length gone ≡ length come) where
    pub replaces_rest : (old mid new : PageMap) (result : Result ⊤ Fault) → ReplacesEntries old mid size root columns gone come (Ok tt) → ReplacesEntries mid new size root columns rest others result
        → ReplacesEntries old new size root columns (gone ++ rest) (come ++ others) result
    replaces_rest old mid new result first next rows apart same =
        let ids = parted gone come rest others even same in
        let ids_now = joined gone rest ∙ ap (λ (ns : List ℤ). ns ++ rowids rest) ids.0 ∙ sym (joined come rest) in
        let now = others_apart (rows ++ (gone ++ rest)) (rows ++ (come ++ rest)) (put_ids rows (gone ++ rest) (come ++ rest) ids_now) apart in
        let one = turns_by old mid ((rows ++ rest) ++ gone) ((rows ++ rest) ++ come) (rows ++ (gone ++ rest)) (rows ++ (come ++ rest)) (IsAddRefusal columns come) (Ok tt)
        (same_last columns rows gone rest apart) (same_last columns rows come rest now) (first (rows ++ rest) (last_apart rows gone rest apart) ids.0) in
        let two = next (rows ++ come) (subst AreApart (sym (append_assoc rows come rest)) now) ids.1 in
        let from = subst (λ (rs : List Row). Turns mid new size root columns rs ((rows ++ come) ++ others) (IsAddRefusal columns others) result) (append_assoc rows come rest) two in
        let then_so = subst (λ (rs : List Row). Turns mid new size root columns (rows ++ (come ++ rest)) rs (IsAddRefusal columns others) result) (append_assoc rows come others) from in
        turns_wider old new (rows ++ (gone ++ rest)) (rows ++ (come ++ others)) (IsAddRefusal columns others) (IsAddRefusal columns (come ++ others)) result (wider_back columns come others)
        (then_turns old mid new size root columns (rows ++ (gone ++ rest)) (rows ++ (come ++ rest)) (rows ++ (come ++ others)) (IsAddRefusal columns come) (IsAddRefusal columns others) result one then_so)

    -- the batch is refused
    pub batch_refused : (old new : PageMap) (fault : Fault) (result : Result ⊤ Fault) → IsErrAnd result (λ e. e ≡ fault) → ReplacesEntries old new size root columns gone come (Err fault)
        → ReplacesEntries old new size root columns (gone ++ rest) (come ++ others) result
    batch_refused old new fault (Ok done) is first = absurd is
    batch_refused old new fault (Err e) is first = λ rows apart same used free stands.
        subst (λ (f : Fault). IsAddRefusal columns (come ++ others) f) (sym is)
        (wider_front columns come others fault (first (rows ++ rest) (last_apart rows gone rest apart) (parted gone come rest others even same).0 used free
        (subst (λ (es : List Entry). Stands old size root (collations columns) es used free) (sym (same_last columns rows gone rest apart)) stands)))

  -- ---- no rows are left

  pub none_go : (pages : PageMap) (left next : List TableRow) → length left ≡ 0 → ReplacesEntries pages pages size root columns (map row_in left) (map row_in next) (Ok tt)
  none_go pages [] next none = replaces_none size root columns pages (map row_in next)
  none_go pages (row ∷ left) next none = absurd (omega (arith, none))

  pub none_come : (pages : PageMap) (left next : List TableRow) → length next ≡ 0 → ReplacesEntries pages pages size root columns (map row_in left) (map row_in next) (Ok tt)
  none_come pages [] next none = replaces_none size root columns pages (map row_in next)
  none_come pages (row ∷ left) [] none = replaces_uneven size root columns pages pages (row_in row) (map row_in left) (Ok tt)
  none_come pages (row ∷ left) (first ∷ next) none = absurd (omega (arith, none))

  -- ---- rows whose entries stay

  first_stays : (pages : PageMap) (row next : Row) → has_same_key columns row.1 next.1 ≡ true → ReplacesEntries pages pages size root columns (row ∷ []) (next ∷ []) (Ok tt)
  first_stays pages row next same rows apart ids = replaces_same pages pages pages size root columns row next same rows [] apart (head ids)

module _ (columns : Columns) where
  -- none has another key
  pub none_changed : (gone come : List Row) → HaveSameKeys columns gone come → changed columns gone come ≡ 0
  none_changed [] come same = refl
  none_changed (row ∷ gone) [] same = refl
  none_changed (row ∷ gone) (next ∷ come) same = ap (λ (b : Bool). if b then 0 else suc (changed columns gone come)) same.0

  pub changed_within : (gone come : List Row) → (changed columns gone come ≤ length gone) × (changed columns gone come ≤ length come)
  changed_within [] come = (omega arith, omega arith)
  changed_within (row ∷ gone) [] = (omega arith, omega arith)
  changed_within (row ∷ gone) (next ∷ come) = by (has_same_key columns row.1 next.1) (changed_within gone come) where
    by : (b : Bool) → (changed columns gone come ≤ length gone) × (changed columns gone come ≤ length come)
        → ((if b then 0 else suc (changed columns gone come)) ≤ length (row ∷ gone)) × ((if b then 0 else suc (changed columns gone come)) ≤ length (next ∷ come))
    by true more = (omega arith, omega arith)
    by false more = (omega (arith, more.0), omega (arith, more.1))

  first_same : (row next : Row) (gone come : List Row) → changed columns (row ∷ gone) (next ∷ come) ≡ 0 → has_same_key columns row.1 next.1 ≡ true
  first_same row next gone come none = by (has_same_key columns row.1 next.1) none where
    by : (b : Bool) → (if b then 0 else suc (changed columns gone come)) ≡ 0 → b ≡ true
    by true none = refl
    by false none = absurd (omega (arith, none))

  module _ (i : ℕ) (gone come : List TableRow) (row next : TableRow) (within : i < length gone) (also : i < length come) (row_is : row ≡ slice_index_or gone i row) (next_is : next ≡ slice_index_or come i next) where
    found_at : (b : Bool) → has_same_key columns (row_in row).1 (row_in next).1 ≡ b
        → changed columns (map row_in (drop i gone)) (map row_in (drop i come)) ≡ (if b then 0 else suc (changed columns (map row_in (drop (i + 1) gone)) (map row_in (drop (i + 1) come))))
    found_at b same =
        ap (λ (rs : List Row). changed columns rs (map row_in (drop i come))) (listed i gone row within row_is)
        ∙ ap (λ (rs : List Row). changed columns (row_in row ∷ map row_in (drop (i + 1) gone)) rs) (listed i come next also next_is)
        ∙ ap (λ (t : Bool). if t then 0 else suc (changed columns (map row_in (drop (i + 1) gone)) (map row_in (drop (i + 1) come)))) same

    -- one more
    pub one_changed : has_same_key columns (row_in row).1 (row_in next).1 ≡ false → i + changed columns (map row_in (drop i gone)) (map row_in (drop i come)) ≡ changed columns (map row_in gone) (map row_in come)
        → (i + 1) + changed columns (map row_in (drop (i + 1) gone)) (map row_in (drop (i + 1) come)) ≡ changed columns (map row_in gone) (map row_in come)
    one_changed differ so = (let here = found_at false differ in omega (arith, here, so))

    -- the first that has the same key
    pub one_same : has_same_key columns (row_in row).1 (row_in next).1 ≡ true → i + changed columns (map row_in (drop i gone)) (map row_in (drop i come)) ≡ changed columns (map row_in gone) (map row_in come)
        → i < 256 → i ≡ min 256 (changed columns (map row_in gone) (map row_in come))
    one_same same so few = (let here = found_at true same in omega (arith, here, so, few))

  -- as many as may be
  pub all_changed : (i : ℕ) (gone come : List TableRow) (most : ℕ) → most ≡ min (min (length gone) (length come)) 256 → i ≤ most → most ≤ i
      → i + changed columns (map row_in (drop i gone)) (map row_in (drop i come)) ≡ changed columns (map row_in gone) (map row_in come) → i ≡ min 256 (changed columns (map row_in gone) (map row_in come))
  all_changed i gone come most is within all so =
      let left = changed_within (map row_in (drop i gone)) (map row_in (drop i come)) in
      let goes : length (map row_in (drop i gone)) ≡ length gone - i = length-map (drop i gone) row_in ∙ length-drop i gone in
      let comes : length (map row_in (drop i come)) ≡ length come - i = length-map (drop i come) row_in ∙ length-drop i come in
      omega (arith, left.0, left.1, goes, comes, is, within, all, so)

  module _ (left next batch new rest others : List TableRow) (n : ℕ) (some : 1 ≤ length left) (also : 1 ≤ length next) (none : changed columns (map row_in left) (map row_in next) ≡ 0) (one : n ≡ 1) where
    -- the entry of the first row stays
    pub passed_over : (size root : ℕ) (pages : PageMap) → batch ≡ take n left → new ≡ take n next → ReplacesEntries pages pages size root columns (map row_in batch) (map row_in new) (Ok tt)
    passed_over size root pages front newer =
        at left next some also none front newer
      where
        at : (left next : List TableRow) → 1 ≤ length left → 1 ≤ length next → changed columns (map row_in left) (map row_in next) ≡ 0 → batch ≡ take n left → new ≡ take n next
            → ReplacesEntries pages pages size root columns (map row_in batch) (map row_in new) (Ok tt)
        at [] next some also none front newer = absurd (omega (arith, some))
        at (row ∷ left) [] some also none front newer = absurd (omega (arith, also))
        at (row ∷ left) (first ∷ next) some also none front newer =
            subst (λ (rs : List TableRow). ReplacesEntries pages pages size root columns (map row_in rs) (map row_in new) (Ok tt)) (sym (front ∙ ap (λ (k : ℕ). take k (row ∷ left)) one))
            (subst (λ (rs : List TableRow). ReplacesEntries pages pages size root columns (row_in row ∷ []) (map row_in rs) (Ok tt)) (sym (newer ∙ ap (λ (k : ℕ). take k (first ∷ next)) one))
            (first_stays size root columns pages (row_in row) (row_in first) (first_same (row_in row) (row_in first) (map row_in left) (map row_in next) none)))

    pub same_after : rest ≡ drop n left → others ≡ drop n next → HaveSameKeys columns (map row_in left) (map row_in next) → HaveSameKeys columns (map row_in rest) (map row_in others)
    same_after back newer same = at left next some also back newer same where
      at : (left next : List TableRow) → 1 ≤ length left → 1 ≤ length next → rest ≡ drop n left → others ≡ drop n next → HaveSameKeys columns (map row_in left) (map row_in next) → HaveSameKeys columns (map row_in rest) (map row_in others)
      at [] next some also back newer same = absurd (omega (arith, some))
      at (row ∷ left) [] some also back newer same = absurd (omega (arith, also))
      at (row ∷ left) (first ∷ next) some also back newer same =
          subst (λ (rs : List TableRow). HaveSameKeys columns (map row_in rs) (map row_in others)) (sym (back ∙ ap (λ (k : ℕ). drop k (row ∷ left)) one))
          (subst (λ (rs : List TableRow). HaveSameKeys columns (map row_in left) (map row_in rs)) (sym (newer ∙ ap (λ (k : ℕ). drop k (first ∷ next)) one)) same.1)

-- The entries of an index's tree are compared with those of rows, batch by batch.
use Rattle.std.proofs.Common.{◌≡◌, inl, inr, ◌+◌, ◌≤◌, ◌<◌, refl, sym, ap, subst, ◌∙◌, ℕ, zero, suc, Bool, true, false, cond, List, [], ◌∷◌, ◌++◌, length, map, take, slice_index_or, IsTrue, Ok, Err, arith}
use Rattle.std.proofs.lemmas.List.{append_assoc, append-nil, length-append, take_all}
use Rattle.std.specs.Prelude.{Result, ⊤, IsErrAnd, not}
use Rattle.std.specs.List.{AllByRecursion}
use Rattle.std.specs.Ordering.{is_eq, is_gt}
use Rattle.std.specs.declared.cmp.Ordering.{Ordering}
use Rattle.std.specs.declared.cmp.Ordering.TheVariants.{Less, Equal, Greater}
use Rattle.sqlval.specs.Faults.{IsOrMemory}
use Rattle.sqlval.specs.Gives.{Refuses}
use Rattle.sqlval.specs.Lists.{SortKey, keys_cmp}
use Rattle.sqlval.specs.Order.{order}
use Rattle.sqlval.specs.Laws.{seen}
use Rattle.sqlval.specs.declared.collation.Collation.{Collation}
use Rattle.sqlval.specs.declared.collation.Collation.TheVariants.{Binary}
use Rattle.sqlval.specs.declared.fault.Damage.TheVariants as Damage
use Rattle.sqlval.specs.declared.fault.Fault.{Fault}
use Rattle.sqlval.specs.declared.fault.Fault.TheVariants.{Damaged, Memory}
use Rattle.sqlval.specs.declared.value.Value.{Value}
use Rattle.sqlval.specs.declared.value.Value.TheVariants.{Null, Int, Text, Blob}
use Rattle.sqlval.proofs.Ordering.{equal_is_alike, alike_is_equal}
use Rattle.record.specs.Record.{IsRecord}
use Rattle.pages.specs.Calls.{Limits, Stays}
use Rattle.pages.specs.Map.{PageMap, AreWhole}
use Rattle.tree_page.specs.Cells.{Pairwise}
use Rattle.tree_overflow.proofs.ReadChains.{unrefused}
use Rattle.tree_index.specs.Entries.{Entry, entries_from, keys_of}
use Rattle.tree_index.specs.Scanning.{GivesBatch, coming}
use Rattle.tree_index.specs.Tree.{IsIndexTree}
use Rattle.catalog.specs.declared.tables.IndexColumn.{IndexColumn}
use Rattle.query_terms.specs.Values.{Row}
use Rattle.index_entries.proofs.Rows.{both_parts}
use Rattle.index_build.specs.Calls.{Tells}
use Rattle.index_build.specs.Checking.{AreOfRows, ComparesEntries, IsRowsEntry, SaysWhether, are_by_rowid}

-- what isn't so
pub tells_not : (A : Type 0) → (A → ⊥) → Tells false A
tells_not A not = record {
  yes = λ t. absurd (let n : false ≡ true = t in cc);
  no = λ a. absurd (not a);
}

-- ---- values

seen_whole : (v : Value) → seen Binary v ≡ v
seen_whole Null = refl
seen_whole (Int n) = refl
seen_whole (Text t) = refl
seen_whole (Blob b) = refl

pub equal_is_one : (v w : Value) → order Binary v w ≡ Equal → v ≡ w
equal_is_one v w e = sym (seen_whole v) ∙ (equal_is_alike Binary v w e ∙ seen_whole w)

pub one_is_equal : (v w : Value) → v ≡ w → order Binary v w ≡ Equal
one_is_equal v w e = alike_is_equal Binary v w (ap (seen Binary) e)

-- what an order of two values tells
pub tells_one : (v w : Value) (o : Ordering) (same : Bool) → o ≡ order Binary v w → same ≡ is_eq o → Tells same (v ≡ w)
tells_one v w o same o_is same_is = record {
  yes = λ t. equal_is_one v w (by (order Binary v w) (subst IsTrue (same_is ∙ ap is_eq o_is) t));
  no = λ e. same_is ∙ ap is_eq (o_is ∙ one_is_equal v w e);
}
  where
    by : (o : Ordering) → IsTrue (is_eq o) → o ≡ Equal
    by Less t = absurd (let n : false ≡ true = t in cc)
    by Equal t = refl
    by Greater t = absurd (let n : false ≡ true = t in cc)

-- what the record of an entry tells
abbrev row_in : Entry → Result Entry Fault → Entry
row_in d (Ok row) = row
row_in d (Err fault) = d

abbrev read_as : Entry → Result Entry Fault
read_as entry = Ok entry

-- what is told of the values that were read is told of the entry
pub tells_entry : (P : Entry → Type 0) (same : Bool) (row entry : Entry) → read_as entry ≡ read_as row → Tells same (P row) → Tells same (P entry)
tells_entry P same row entry read tell = subst (λ (e : Entry). Tells same (P e)) (sym (ap (row_in entry) read)) tell

not_ok : (fault : Fault) (entry : Entry) → read_as entry ≡ Err fault → ⊥
not_ok fault entry e = cc

only_memory : (fault : Fault) (entry : Entry) → Refuses fault (read_as entry) → fault ≡ Memory
only_memory Memory entry refuses = refl
only_memory fault entry refuses = absurd (not_ok fault entry refuses)

-- a record of an entry is refused only if out of memory
pub memory_alone : (fault : Fault) (entry : Entry) (P : Bool → Type 0) (result : Result Bool Fault) → Refuses fault (read_as entry) → IsErrAnd result (λ e. e ≡ fault) → IsOrMemory P result
memory_alone fault entry P (Ok same) refuses is = absurd is
memory_alone fault entry P (Err e) refuses is = is ∙ only_memory fault entry refuses

-- ---- lists item by item

item_next : {X : Type 0} (xs : List X) (place : ℕ) (d : X) → place < length xs → take (suc place) xs ≡ take place xs ++ slice_index_or xs place d ∷ []
item_next [] place d lt = absurd (omega (arith, lt))
item_next (x ∷ xs) zero d lt = refl
item_next (x ∷ xs) (suc place) d lt = ap (λ l. x ∷ l) (item_next xs place d (omega (arith, lt)))

pub item_there : {X : Type 0} (xs : List X) (place : ℕ) (d : X) → place < length xs → take (place + 1) xs ≡ take place xs ++ slice_index_or xs place d ∷ []
item_there xs place d lt = (let next : suc place ≡ place + 1 = omega arith in subst (λ (n : ℕ). take n xs ≡ take place xs ++ slice_index_or xs place d ∷ []) next (item_next xs place d lt))

-- one more item of both is the same
pub same_next : {X : Type 0} (xs ys : List X) (place : ℕ) (d e : X) → place < length xs → place < length ys → take place xs ≡ take place ys → slice_index_or xs place d ≡ slice_index_or ys place e
    → take (place + 1) xs ≡ take (place + 1) ys
same_next xs ys place d e lt also front item =
    item_there xs place d lt ∙ (ap (λ l. l ++ slice_index_or xs place d ∷ []) front ∙ (ap (λ x. take place ys ++ x ∷ []) item ∙ sym (item_there ys place e also)))

-- all items of both are the same
pub all_same : {X : Type 0} (xs ys : List X) (place : ℕ) → length xs ≤ place → length ys ≤ place → take place xs ≡ take place ys → xs ≡ ys
all_same xs ys place le also same = sym (take_all place xs le) ∙ (same ∙ take_all place ys also)

-- ---- records of entries

pub as_many : (records : List (List ℕ)) (given : List Entry) → Pairwise IsRecord records given → length records ≡ length given
as_many [] [] are = refl
as_many [] (entry ∷ given) are = absurd are
as_many (bytes ∷ records) [] are = absurd are
as_many (bytes ∷ records) (entry ∷ given) are = ap suc (as_many records given are.1)

-- the record at a place
record_at : (records : List (List ℕ)) (given : List Entry) (place : ℕ) (d : List ℕ) (e : Entry) → Pairwise IsRecord records given → place < length records
    → IsRecord (slice_index_or records place d) (slice_index_or given place e)
record_at [] given place d e are lt = absurd (omega (arith, lt))
record_at (bytes ∷ records) [] place d e are lt = absurd are
record_at (bytes ∷ records) (entry ∷ given) zero d e are lt = are.0
record_at (bytes ∷ records) (entry ∷ given) (suc place) d e are lt = record_at records given place d e are.1 (omega (arith, lt))

pub mapped_at : {X : Type 0} (f : X → List ℕ) (xs : List X) (place : ℕ) (d : X) → place < length xs → slice_index_or (map f xs) place [] ≡ f (slice_index_or xs place d)
mapped_at f [] place d lt = absurd (omega (arith, lt))
mapped_at f (x ∷ xs) zero d lt = refl
mapped_at f (x ∷ xs) (suc place) d lt = mapped_at f xs place d (omega (arith, lt))

pub as_long : {X : Type 0} (f : X → List ℕ) (xs : List X) → length (map f xs) ≡ length xs
as_long f [] = refl
as_long f (x ∷ xs) = ap suc (as_long f xs)

-- one isn't read
pub not_told : (P Q : Bool → Type 0) (fault : Fault) (result : Result Bool Fault) → IsOrMemory P (Err fault) → IsErrAnd result (λ e. e ≡ fault) → IsOrMemory Q result
not_told P Q fault (Ok same) short is = absurd is
not_told P Q fault (Err e) short is = is ∙ short

-- ---- entries that are each so

all_front : {X : Type 0} (P : X → Type 0) (xs ys : List X) → AllByRecursion P (xs ++ ys) → AllByRecursion P xs
all_front P [] ys all = tt
all_front P (x ∷ xs) ys all = (all.0, all_front P xs ys all.1)

all_back : {X : Type 0} (P : X → Type 0) (xs ys : List X) → AllByRecursion P (xs ++ ys) → AllByRecursion P ys
all_back P [] ys all = all
all_back P (x ∷ xs) ys all = all_back P xs ys all.1

all_at : {X : Type 0} (P : X → Type 0) (xs : List X) (place : ℕ) (d : X) → place < length xs → AllByRecursion P xs → P (slice_index_or xs place d)
all_at P [] place d lt all = absurd (omega (arith, lt))
all_at P (x ∷ xs) zero d lt all = all.0
all_at P (x ∷ xs) (suc place) d lt all = all_at P xs place d (omega (arith, lt)) all.1

-- The entries of the first of these records are so.
abbrev pub AreSoFar : (Entry → Type 0) → List (List ℕ) → ℕ → Type 0
AreSoFar P records place = (given : List Entry) → Pairwise IsRecord records given → AllByRecursion P (take place given)

-- there are more records than there may be
pub too_many : (P : Entry → Type 0) (records : List (List ℕ)) (most : ℕ) (given : List Entry) → most < length records → Pairwise IsRecord records given → Tells false (AllByRecursion P given × (length given ≤ most))
too_many P records most given lt are = tells_not (AllByRecursion P given × (length given ≤ most)) (λ few.
    (let many = as_many records given are in
    let le = few.1 in
    omega (arith, many, le, lt)))

module _ {X : Type 0} (f : X → List ℕ) (P : Entry → Type 0) (records : List X) (place : ℕ) (d : X) (lt : place < length records) (bytes : List ℕ) (bytes_are : bytes ≡ f (slice_index_or records place d)) (given : List Entry)
    (are : Pairwise IsRecord (map f records) given) where
  abbrev here : Entry
  here = slice_index_or given place []

  -- the record there is that of an entry
  pub there : IsRecord bytes here
  there =
      let many = as_long f records in
      subst (λ (b : List ℕ). IsRecord b here) (mapped_at f records place d lt ∙ sym bytes_are) (record_at (map f records) given place [] [] are (omega (arith, many, lt)))

  given_long : place < length given
  given_long = (let many = as_long f records in let n = as_many (map f records) given are in omega (arith, n, many, lt))

  -- which isn't so
  pub differs : (same : Bool) (most : ℕ) → Tells same (P here) → (IsTrue same → ⊥) → Tells false (AllByRecursion P given × (length given ≤ most))
  differs same most tell not = tells_not (AllByRecursion P given × (length given ≤ most)) (λ all. not (tell.no (all_at P given place [] given_long all.0)))

  -- which is so
  pub one_more : (same : Bool) → Tells same (P here) → IsTrue same → AllByRecursion P (take place given) → AllByRecursion P (take (place + 1) given)
  one_more same tell so front = subst (AllByRecursion P) (sym (item_there given place [] given_long)) (both_parts P (take place given) (here ∷ []) front (tell.yes so, tt))

-- all are so
pub all_those : (P : Entry → Type 0) (records : List (List ℕ)) (most place : ℕ) (given : List Entry) → AreSoFar P records place → length records ≤ place → length records ≤ most → Pairwise IsRecord records given
    → Tells true (AllByRecursion P given × (length given ≤ most))
all_those P records most place given so_far le few are = record {
  yes = λ t. (
      let many = as_many records given are in
      (subst (AllByRecursion P) (take_all place given (omega (arith, many, le))) (so_far given are), omega (arith, many, few)));
  no = λ all. refl;
}

-- ---- what comes

no_key : (ks : List SortKey) (entry : Entry) → keys_cmp ks [] entry ≡ Equal
no_key [] entry = refl
no_key (k ∷ ks) entry = refl

pub all_come : (columns : List Collation) (entries : List Entry) → entries_from false columns [] entries ≡ entries
all_come columns [] = refl
all_come columns (entry ∷ entries) =
    ap (λ o. cond (not (is_gt o)) (entry ∷ entries_from false columns [] entries) (entries_from false columns [] entries)) (no_key (keys_of columns) entry)
    ∙ ap (λ (l : List Entry). entry ∷ l) (all_come columns entries)

nothing_in : (given : List Entry) → Pairwise IsRecord [] given → given ≡ []
nothing_in [] are = refl
nothing_in (entry ∷ given) are = absurd are

-- Of these entries some came, each of them a row's, and others are to come; so many rows are left.
pub record HaveCome (columns : List IndexColumn) (rows : List Row) (left : ℕ) (there later : List Entry) : Type 0 where
  pub done : List Entry
  pub split : there ≡ done ++ later
  pub each : AllByRecursion (IsRowsEntry columns rows) done
  pub count : length done + left ≡ length rows

module _ (columns : List IndexColumn) (rows : List Row) (left : ℕ) (there later : List Entry) (have : HaveCome columns rows left there later) where
  -- what is said of all is said of those that come next
  next_are : (given last : List Entry) → later ≡ given ++ last → AreOfRows columns rows there → AllByRecursion (IsRowsEntry columns rows) given × (length given ≤ left)
  next_are given last split are =
      let all = subst (AllByRecursion (IsRowsEntry columns rows)) (have.split ∙ ap (λ (l : List Entry). have.done ++ l) split) are.0 in
      let count = have.count in
      let many = are.1 in
      let whole = ap length have.split ∙ length-append have.done later in
      let next = ap length split ∙ length-append given last in (
        all_front (IsRowsEntry columns rows) given last (all_back (IsRowsEntry columns rows) have.done (given ++ last) all),
        omega (arith, count, many, whole, next),
      )

  -- more came
  more_came : (given last : List Entry) (fewer : ℕ) → later ≡ given ++ last → AllByRecursion (IsRowsEntry columns rows) given → fewer + length given ≡ left → HaveCome columns rows fewer there last
  more_came given last fewer split each so_many =
      let count = have.count in
      let both = length-append have.done given in
      record {
        done = have.done ++ given;
        split = have.split ∙ (ap (λ (l : List Entry). have.done ++ l) split ∙ sym (append_assoc have.done given last));
        each = both_parts (IsRowsEntry columns rows) have.done given have.each each;
        count = omega (arith, count, both, so_many);
      }

  all_came : later ≡ [] → there ≡ have.done
  all_came none = have.split ∙ (ap (λ (l : List Entry). have.done ++ l) none ∙ append-nil have.done)

  -- none is to come, and no row is left
  came_out : later ≡ [] → left ≡ 0 → AreOfRows columns rows there
  came_out none end =
      let count = have.count in
      let same = ap length (all_came none) in
      (subst (AllByRecursion (IsRowsEntry columns rows)) (sym (all_came none)) have.each, omega (arith, count, same, end))

  -- none is to come, and some rows are left
  came_short : later ≡ [] → 1 ≤ left → AreOfRows columns rows there → ⊥
  came_short none some are =
      let count = have.count in
      let same = ap length (all_came none) in
      let many = are.1 in
      omega (arith, count, same, many, some)

module _ {P K : Type 0} (below : P → K) (tells : K → Bool) (limits : K → Limits) (pages : P → PageMap) (count : P → ℕ) (failures : P → ℕ × ℕ) where
  -- What is so after some batches.
  pub record HasCompared (old now : P) (root at_root : ℕ) (columns : List IndexColumn) (collations : List Collation) (ended after : Bool) (key : List Value) (rows : List Row) (left : ℕ) : Type 0 where
    pub stays : Stays below pages count failures unrefused old now
    pub same_root : at_root ≡ root
    pub came : IsTrue (tells (below old)) → (there : List Entry) (used : List ℕ) → are_by_rowid rows ≡ true → AreWhole (limits (below old)).page (pages old) → IsIndexTree (pages old) (limits (below old)).page root collations there used
        → HaveCome columns rows left there (coming ended after collations key there)

  pub at_start : (old : P) (root at_root : ℕ) (columns : List IndexColumn) (collations : List Collation) (ended after : Bool) (key start : List Value) (rows : List Row) (left : ℕ) → left ≡ length rows → at_root ≡ root → start ≡ []
      → ((columns : List Collation) (entries : List Entry) → coming ended after columns key entries ≡ entries_from false columns start entries)
      → HasCompared old old root at_root columns collations ended after key rows left
  at_start old root at_root columns collations ended after key start rows left left_is same none from = record {
    stays = record { kept = refl; same = refl; counted = refl; causes = record { db = omega arith; log = omega arith; why = tt } };
    same_root = same;
    came = λ told there used rises whole tree. (
        let all : coming ended after collations key there ≡ there = from collations there ∙ (ap (λ (k : List Value). entries_from false collations k there) none ∙ all_come collations there) in
        record { done = []; split = sym all; each = tt; count = omega (arith, left_is) });
  }

  module _ (old mid : P) (root at_root : ℕ) (columns : List IndexColumn) (collations : List Collation) (ended ended_then after after_then : Bool) (key key_then : List Value) (rows : List Row) (left : ℕ) (batch : List (List ℕ))
      (has : HasCompared old mid root at_root columns collations ended after key rows left) where
    -- what a batch gives of the pages as they were
    given_since : (result : Result ⊤ Fault)
        → (IsTrue (tells (below mid)) → GivesBatch (pages mid) (limits (below mid)).page at_root collations (coming ended after collations key) (coming ended_then after_then collations key_then) ended_then batch result)
        → IsTrue (tells (below old))
        → GivesBatch (pages old) (limits (below old)).page root collations (coming ended after collations key) (coming ended_then after_then collations key_then) ended_then batch result
    given_since result gives told =
        subst (λ (n : ℕ). GivesBatch (pages old) (limits (below old)).page n collations (coming ended after collations key) (coming ended_then after_then collations key_then) ended_then batch result) has.same_root
        (subst (λ (m : PageMap). GivesBatch m (limits (below old)).page at_root collations (coming ended after collations key) (coming ended_then after_then collations key_then) ended_then batch result) has.stays.same
        (subst (λ (k : K). GivesBatch (pages mid) (limits k).page at_root collations (coming ended after collations key) (coming ended_then after_then collations key_then) ended_then batch result) has.stays.kept
        (gives (subst (λ (k : K). IsTrue (tells k)) (sym has.stays.kept) told))))

    -- the batch isn't read
    pub not_read : (fault : Fault) (result : Result ⊤ Fault)
        → (IsTrue (tells (below mid)) → GivesBatch (pages mid) (limits (below mid)).page at_root collations (coming ended after collations key) (coming ended_then after_then collations key_then) ended_then batch (Err fault))
        → IsErrAnd result (λ e. e ≡ fault) → IsTrue (tells (below old)) → ComparesEntries (pages old) (limits (below old)).page root columns collations rows result
    not_read fault (Ok done) gives same told = absurd same
    not_read fault (Err e) gives same told = λ there used rises whole tree.
        subst (λ (f : Fault). SaysWhether root (AreOfRows columns rows there) (Err f)) (sym same) (inl (given_since (Err fault) gives told there used whole tree))

    module _ (gives : IsTrue (tells (below mid)) → GivesBatch (pages mid) (limits (below mid)).page at_root collations (coming ended after collations key) (coming ended_then after_then collations key_then) ended_then batch (Ok tt)) where
      -- the batch isn't compared
      pub not_compared : (fault : Fault) (result : Result ⊤ Fault) → ((given : List Entry) → are_by_rowid rows ≡ true → Pairwise IsRecord batch given → fault ≡ Memory) → IsErrAnd result (λ e. e ≡ fault)
          → IsTrue (tells (below old)) → ComparesEntries (pages old) (limits (below old)).page root columns collations rows result
      not_compared fault (Ok done) short same told = absurd same
      not_compared fault (Err e) short same told = λ there used rises whole tree.
          (let batch_is = given_since (Ok tt) gives told there used whole tree in
          subst (λ (f : Fault). SaysWhether root (AreOfRows columns rows there) (Err f)) (sym same) (inl (inl (short batch_is.0 rises batch_is.1))))

      -- the batch has other entries, or too many
      pub others : (same : Bool) → ((given : List Entry) → are_by_rowid rows ≡ true → Pairwise IsRecord batch given → Tells same (AllByRecursion (IsRowsEntry columns rows) given × (length given ≤ left))) → (IsTrue same → ⊥)
          → IsTrue (tells (below old)) → ComparesEntries (pages old) (limits (below old)).page root columns collations rows (Err (Damaged Damage.Index root))
      others same tell not told = λ there used rises whole tree.
          (let batch_is = given_since (Ok tt) gives told there used whole tree in
          let have = has.came told there used rises whole tree in
          inr (
            refl,
            λ are.
                not ((tell batch_is.0 rises batch_is.1).no
                (next_are columns rows left there (coming ended after collations key there) have batch_is.0 (coming ended_then after_then collations key_then there) batch_is.2 are)),
          ))

      -- the batch has entries of rows
      pub goes_on : (new : P) (new_root : ℕ) (same : Bool) (fewer : ℕ) → new_root ≡ at_root → Stays below pages count failures unrefused old new
          → ((given : List Entry) → are_by_rowid rows ≡ true → Pairwise IsRecord batch given → Tells same (AllByRecursion (IsRowsEntry columns rows) given × (length given ≤ left))) → IsTrue same → fewer + length batch ≡ left
          → HasCompared old new root new_root columns collations ended_then after_then key_then rows fewer
      goes_on new new_root same fewer root_is stays tell so fewer_is = record {
        stays = stays;
        same_root = root_is ∙ has.same_root;
        came = λ told there used rises whole tree. (
            let batch_is = given_since (Ok tt) gives told there used whole tree in
            let given = batch_is.0 in
            let have = has.came told there used rises whole tree in
            let many = as_many batch given batch_is.1 in
            more_came columns rows left there (coming ended after collations key there) have given (coming ended_then after_then collations key_then there) fewer batch_is.2
            ((tell given rises batch_is.1).yes so).0 (omega (arith, many, fewer_is)));
      }

      none_left : batch ≡ [] → IsTrue (tells (below old)) → (there : List Entry) (used : List ℕ) → AreWhole (limits (below old)).page (pages old)
          → IsIndexTree (pages old) (limits (below old)).page root collations there used → coming ended after collations key there ≡ []
      none_left none told there used whole tree =
          (let batch_is = given_since (Ok tt) gives told there used whole tree in
          let empty : batch_is.0 ≡ [] = nothing_in batch_is.0 (subst (λ (l : List (List ℕ)). Pairwise IsRecord l batch_is.0) none batch_is.1) in
          batch_is.2 ∙ (ap (λ (l : List Entry). l ++ coming ended_then after_then collations key_then there) empty
          ∙ ap (λ (b : Bool). coming b after_then collations key_then there) (batch_is.3 empty)))

      -- all were compared
      pub all_compared : batch ≡ [] → left ≡ 0 → IsTrue (tells (below old)) → ComparesEntries (pages old) (limits (below old)).page root columns collations rows (Ok tt)
      all_compared none end told = λ there used rises whole tree.
          came_out columns rows left there (coming ended after collations key there) (has.came told there used rises whole tree) (none_left none told there used whole tree) end

      -- some rows are left
      pub some_missing : batch ≡ [] → 1 ≤ left → IsTrue (tells (below old)) → ComparesEntries (pages old) (limits (below old)).page root columns collations rows (Err (Damaged Damage.Index root))
      some_missing none some told = λ there used rises whole tree.
          inr (refl, came_short columns rows left there (coming ended after collations key there) (has.came told there used rises whole tree) (none_left none told there used whole tree) some)

-- The entries of a UNIQUE index's tree are read from its beginning, and each is compared with the next one.
use Rattle.std.proofs.Common.{◌≡◌, ◌+◌, ◌-◌, ◌≤◌, ◌<◌, refl, sym, ap, subst, ◌∙◌, ℕ, zero, suc, Bool, true, false, ◌||◌, List, [], ◌∷◌, ◌++◌, length, map, drop, slice_index_or, IsTrue, Ok, Err, arith}
use mathlib.Core.Bool.{true≢false}
use Rattle.std.proofs.lemmas.List.{append_assoc, append-nil, drop-map, map-append}
use Rattle.std.specs.Prelude.{Result, MatchResult, ⊤, IfErr, IsErrAnd}
use Rattle.sqlval.specs.Faults.{IsNotDiskFault, IsOutside}
use Rattle.sqlval.specs.declared.collation.Collation.{Collation}
use Rattle.sqlval.specs.declared.fault.Fault.{Fault}
use Rattle.sqlval.specs.declared.value.Value.{Value}
use Rattle.record.specs.Columns.{HoldsValues, values_in}
use Rattle.record.specs.Record.{IsRecord}
use Rattle.pages.specs.Calls.{IsCause, Limits, Stays}
use Rattle.pages.specs.Map.{AreWhole, PageMap}
use Rattle.tree_page.specs.Cells.{Pairwise}
use Rattle.tree_overflow.proofs.ReadChains.{stays_after, unrefused}
use Rattle.tree_index.specs.Entries.{Entry, entries_from}
use Rattle.tree_index.specs.Scanning.{GivesBatch, coming}
use Rattle.tree_index.specs.Tree.{IsIndexTree}
use Rattle.query_names.specs.Keys.{has_clash}
use Rattle.catalog.specs.declared.tables.IndexColumn.{IndexColumn}
use Rattle.index_entries.specs.Entries.{entries_of_rows}
use Rattle.index_entries.specs.Keeping.{columns_in}
use Rattle.index_build.specs.Calls.{SeesKeysApart}
use Rattle.index_build.specs.Ranking.{any_beside, have_one_key, value_or_null}
use Rattle.index_build.proofs.Comparing.{all_come, as_long, as_many, mapped_at}
use Rattle.index_build.proofs.Neighbours.{IsPast, none_beside, past_none, past_one}
use Rattle.index_build.proofs.OneKeys.{tells_clash}
use Rattle.index_build.proofs.RowEntries.{collations_same}

-- ---- lists

pairs_join : {A B : Type 0} (P : A → B → Type 0) (xs us : List A) (ys vs : List B) → Pairwise P xs ys → Pairwise P us vs → Pairwise P (xs ++ us) (ys ++ vs)
pairs_join P [] us [] vs are more = more
pairs_join P [] us (y ∷ ys) vs are more = absurd are
pairs_join P (x ∷ xs) us [] vs are more = absurd are
pairs_join P (x ∷ xs) us (y ∷ ys) vs are more = (are.0, pairs_join P xs us ys vs are.1 more)

pairs_left : {A B : Type 0} (P : A → B → Type 0) (n : ℕ) (xs : List A) (ys : List B) → Pairwise P xs ys → Pairwise P (drop n xs) (drop n ys)
pairs_left P zero xs ys are = are
pairs_left P (suc n) [] [] are = tt
pairs_left P (suc n) [] (y ∷ ys) are = absurd are
pairs_left P (suc n) (x ∷ xs) [] are = absurd are
pairs_left P (suc n) (x ∷ xs) (y ∷ ys) are = pairs_left P n xs ys are.1

neither : (a b : Bool) → a || b ≡ false → (a ≡ false) × (b ≡ false)
neither true b e = absurd (true≢false e)
neither false b e = (refl, e)

before_next : (n : ℕ) → suc n - 1 ≡ n
before_next n = omega arith

-- where no two neighbours of some items are so, the last of them and what follows decide
last_decides : {X : Type 0} (test : X → X → Bool) (xs ys : List X) → any_beside test xs ≡ false → any_beside test (drop (length xs - 1) xs ++ ys) ≡ any_beside test (xs ++ ys)
last_decides test [] ys none = refl
last_decides test (x ∷ []) ys none = refl
last_decides test (x ∷ y ∷ xs) ys none =
    let parts = neither (test x y) (any_beside test (y ∷ xs)) none in
    let here : drop (length (x ∷ y ∷ xs) - 1) (x ∷ y ∷ xs) ≡ drop (length (y ∷ xs) - 1) (y ∷ xs) =
    ap (λ (n : ℕ). drop n (x ∷ y ∷ xs)) (before_next (suc (length xs))) ∙ sym (ap (λ (n : ℕ). drop n (y ∷ xs)) (before_next (length xs))) in
    ap (λ l. any_beside test (l ++ ys)) here ∙ (last_decides test (y ∷ xs) ys parts.1 ∙ sym (ap (λ (b : Bool). b || any_beside test ((y ∷ xs) ++ ys)) parts.0))

-- ---- records, each beside the next one

-- the values that lie in two records have one key without NULL
abbrev pub share : List IndexColumn → List ℕ → List ℕ → Bool
share columns a b = have_one_key 0 columns (values_in a) (values_in b)

-- The records before a place are compared. This one stands last there, and this is its first value.
pub record HasCome (columns : List IndexColumn) (records : List (List ℕ)) (place : ℕ) (before : List ℕ) (first : Value) : Type 0 where
  pub past : IsPast (share columns) records place
  pub before_is : before ≡ slice_index_or records (place - 1) []
  pub first_is : first ≡ value_or_null (values_in before) 0

module _ {X : Type 0} (f : X → List ℕ) (columns : List IndexColumn) (records : List X) where
  -- a record where it lies
  pub lying_at : (place : ℕ) (d : X) (bytes : List ℕ) → place < length records → d ≡ slice_index_or records place d → bytes ≡ f d → bytes ≡ slice_index_or (map f records) place []
  lying_at place d bytes lt d_is bytes_are = bytes_are ∙ ap f d_is ∙ sym (mapped_at f records place d lt)

  pub first_comes : (d : X) (bytes : List ℕ) (first : Value) → 0 < length records → d ≡ slice_index_or records 0 d → bytes ≡ f d → first ≡ value_or_null (values_in bytes) 0 → HasCome columns (map f records) 1 bytes first
  first_comes d bytes first lt d_is bytes_are first_is = record {
    past = past_none (share columns) (map f records);
    before_is = lying_at 0 d bytes lt d_is bytes_are;
    first_is = first_is;
  }

  module _ (place : ℕ) (before : List ℕ) (first : Value) (has : HasCome columns (map f records) place before first) (lt : place < length records) (d : X) (d_is : d ≡ slice_index_or records place d) (bytes : List ℕ)
      (bytes_are : bytes ≡ f d) (value : Value) (value_is : value ≡ value_or_null (values_in bytes) 0) (found : Bool) (found_is : found ≡ share columns before bytes) (other : found ≡ false) where
    answer : found ≡ share columns (slice_index_or (map f records) (place - 1) []) (slice_index_or (map f records) place [])
    answer = found_is ∙ ap (λ (l : List ℕ). share columns l bytes) has.before_is ∙ ap (share columns (slice_index_or (map f records) (place - 1) [])) (lying_at place d bytes lt d_is bytes_are)

    -- it has another key
    pub next_comes : HasCome columns (map f records) (place + 1) bytes value
    next_comes =
        let here : place ≡ place + 1 - 1 = omega arith in
        record {
          past = past_one (share columns) (map f records) [] place has.past (let many = as_long f records in omega (arith, many, lt)) found answer other;
          before_is = lying_at place d bytes lt d_is bytes_are ∙ ap (λ (n : ℕ). slice_index_or (map f records) n []) here;
          first_is = value_is;
        }

-- of records the entries decide
pub entries_decide : (columns : List IndexColumn) → HoldsValues → (records : List (List ℕ)) (given : List Entry) → Pairwise IsRecord records given → any_beside (share columns) records ≡ any_beside (have_one_key 0 columns) given
entries_decide columns hold [] [] are = refl
entries_decide columns hold [] (entry ∷ given) are = absurd are
entries_decide columns hold (bytes ∷ records) [] are = absurd are
entries_decide columns hold (bytes ∷ []) (entry ∷ []) are = refl
entries_decide columns hold (bytes ∷ []) (entry ∷ other ∷ given) are = absurd are.1
entries_decide columns hold (bytes ∷ more ∷ records) (entry ∷ []) are = absurd are.1
entries_decide columns hold (bytes ∷ more ∷ records) (entry ∷ other ∷ given) are =
    ap (λ (v : List Value). have_one_key 0 columns v (values_in more) || any_beside (share columns) (more ∷ records)) (hold bytes entry are.0)
    ∙ ap (λ (v : List Value). have_one_key 0 columns entry v || any_beside (share columns) (more ∷ records)) (hold more other are.1.0)
    ∙ ap (λ (b : Bool). have_one_key 0 columns entry other || b) (entries_decide columns hold (more ∷ records) (other ∷ given) are.1)

-- where no two neighbours of records share a key, no two of their entries do
pub all_apart : {X : Type 0} (f : X → List ℕ) (columns : List IndexColumn) (records : List X) (place : ℕ) (before : List ℕ) (first : Value) → HoldsValues → HasCome columns (map f records) place before first → length records ≤ place
    → (given : List Entry) → Pairwise IsRecord (map f records) given → any_beside (have_one_key 0 columns) given ≡ false
all_apart f columns records place before first hold has le given are =
    (let many = as_long f records in
    sym (entries_decide columns hold (map f records) given are) ∙ none_beside (share columns) (map f records) place has.past (omega (arith, many, le)))

-- there are no records
pub none_apart : (columns : List IndexColumn) (records : List (List ℕ)) (given : List Entry) → length records ≡ 0 → Pairwise IsRecord records given → any_beside (have_one_key 0 columns) given ≡ false
none_apart columns [] [] none are = refl
none_apart columns [] (entry ∷ given) none are = absurd are
none_apart columns (bytes ∷ records) given none are = absurd (omega (arith, none))

-- ---- batch by batch

abbrev refused : Fault → Result ⊤ Fault
refused fault = Err fault

-- records put after others, and the last of records, through what their bytes are
pub put_after : {X : Type 0} (f : X → List ℕ) (records batch all : List X) → all ≡ records ++ batch → map f all ≡ map f records ++ map f batch
put_after f records batch all are = ap (map f) are ∙ map-append f records batch

pub last_left : {X : Type 0} (f : X → List ℕ) (all last : List X) → last ≡ drop (length all - 1) all → map f last ≡ drop (length (map f all) - 1) (map f all)
last_left f all last is = ap (map f) is ∙ (sym (drop-map f (length all - 1) all) ∙ ap (λ (n : ℕ). drop (n - 1) (map f all)) (sym (as_long f all)))

-- of the entries no two have one key without NULL, where that is seen; or memory was short, or a disk's call failed
abbrev pub SeesApart : PageMap → ℕ → ℕ → List IndexColumn → List Collation → Result Bool Fault → Type 0
SeesApart pages size root columns under result = (there : List Entry) (used : List ℕ) → AreWhole size pages → IsIndexTree pages size root under there used
    → MatchResult result (λ apart. IsTrue apart → any_beside (have_one_key 0 columns) there ≡ false) IsOutside

-- so it is of the rows whose entries these are
pub rows_apart : (pages : PageMap) (size root : ℕ) (columns : List IndexColumn) (under : List Collation) (result : Result Bool Fault) → under ≡ map (λ column. column.collation) columns
    → SeesApart pages size root columns under result → SeesKeysApart pages size root columns result
rows_apart pages size root columns under result under_is sees i rows used unique columns_are whole tree =
    by result (sees (entries_of_rows (columns_in columns) rows) used whole
    (subst (λ (l : List Collation). IsIndexTree pages size root l (entries_of_rows (columns_in columns) rows) used) (sym (under_is ∙ collations_same columns)) tree))
  where
    by : (r : Result Bool Fault) → MatchResult r (λ apart. IsTrue apart → any_beside (have_one_key 0 columns) (entries_of_rows (columns_in columns) rows) ≡ false) IsOutside
        → MatchResult r (λ apart. IsTrue apart → has_clash i rows ≡ false) IsOutside
    by (Ok apart) none = λ so. sym (tells_clash columns (entries_of_rows (columns_in columns) rows) false (sym (none so)) i rows unique columns_are refl)
    by (Err fault) outside = outside

-- nothing is said
pub not_told_apart : (pages : PageMap) (size root : ℕ) (columns : List IndexColumn) (under : List Collation) → SeesApart pages size root columns under (Ok false)
not_told_apart pages size root columns under there used whole tree so = absurd (true≢false (sym so))

-- Of the entries that there are those of these records and those that come later decide.
pub record IsOn (columns : List IndexColumn) (records : List (List ℕ)) (later there : List Entry) : Type 0 where
  pub given : List Entry
  pub are : Pairwise IsRecord records given
  pub same : any_beside (have_one_key 0 columns) (given ++ later) ≡ any_beside (have_one_key 0 columns) there

module _ {P K : Type 0} (below : P → K) (tells : K → Bool) (limits : K → Limits) (pages : P → PageMap) (count : P → ℕ) (failures : P → ℕ × ℕ) where
  -- What is so after some batches: what was read last and what comes decide.
  pub record HasRead (old now : P) (root at_root : ℕ) (columns : List IndexColumn) (under : List Collation) (ended after : Bool) (key : List Value) (records : List (List ℕ)) : Type 0 where
    pub stays : Stays below pages count failures unrefused old now
    pub same_root : at_root ≡ root
    pub left : IsTrue (tells (below old)) → (there : List Entry) (used : List ℕ) → AreWhole (limits (below old)).page (pages old) → IsIndexTree (pages old) (limits (below old)).page root under there used
        → IsOn columns records (coming ended after under key there) there

  -- the pages stay where a batch isn't read
  pub stays_unread : (fault : Fault) (result : Result Bool Fault) (old mid new : P) → Stays below pages count failures unrefused old mid → Stays below pages count failures {T = ⊤} (Err fault) mid new → IsErrAnd result (λ e. e ≡ fault)
      → Stays below pages count failures result old new
  stays_unread fault (Ok apart) old mid new first then is = absurd is
  stays_unread fault (Err e) old mid new first then is =
      (let stays = stays_after below pages count failures unrefused (refused fault) old mid new first then in
      record {
        kept = stays.kept;
        same = stays.same;
        counted = stays.counted;
        causes = record { db = stays.causes.db; log = stays.causes.log; why = record { io = λ io. stays.causes.why.io (sym is ∙ io); full = λ full. stays.causes.why.full (sym is ∙ full) } };
      })

  -- and where it is, and then something is refused that is no disk's
  pub stays_read : (result : Result Bool Fault) (old mid new : P) → Stays below pages count failures unrefused old mid → Stays below pages count failures unrefused mid new → IfErr result IsNotDiskFault
      → Stays below pages count failures result old new
  stays_read result old mid new first then other =
      (let stays = stays_after below pages count failures unrefused unrefused old mid new first then in
      record { kept = stays.kept; same = stays.same; counted = stays.counted; causes = record { db = stays.causes.db; log = stays.causes.log; why = why result other } })
    where
      why : (r : Result Bool Fault) → IfErr r IsNotDiskFault → IfErr r (IsCause (failures old) (failures new) ⊥)
      why (Ok apart) is = tt
      why (Err fault) is = record { io = λ io. absurd (is.0 io); full = λ full. absurd (is.1 full) }

  pub nothing_read : (old : P) (root at_root : ℕ) (columns : List IndexColumn) (under : List Collation) (ended after : Bool) (key start : List Value) (records : List (List ℕ)) → at_root ≡ root → start ≡ [] → records ≡ []
      → ((columns : List Collation) (entries : List Entry) → coming ended after columns key entries ≡ entries_from false columns start entries)
      → HasRead old old root at_root columns under ended after key records
  nothing_read old root at_root columns under ended after key start records root_is none empty from = record {
    stays = record { kept = refl; same = refl; counted = refl; causes = record { db = omega arith; log = omega arith; why = tt } };
    same_root = root_is;
    left = λ told there used whole tree. record {
      given = [];
      are = subst (λ (l : List (List ℕ)). Pairwise IsRecord l []) (sym empty) tt;
      same = ap (any_beside (have_one_key 0 columns)) (from under there ∙ (ap (λ (k : List Value). entries_from false under k there) none ∙ all_come under there));
    };
  }

  module _ (old mid : P) (root at_root : ℕ) (columns : List IndexColumn) (under : List Collation) (ended ended_then after after_then : Bool) (key key_then : List Value) (records batch : List (List ℕ))
      (has : HasRead old mid root at_root columns under ended after key records) where
    -- what a batch gives of the pages as they were
    given_since : (result : Result ⊤ Fault)
        → (IsTrue (tells (below mid)) → GivesBatch (pages mid) (limits (below mid)).page at_root under (coming ended after under key) (coming ended_then after_then under key_then) ended_then batch result)
        → IsTrue (tells (below old))
        → GivesBatch (pages old) (limits (below old)).page root under (coming ended after under key) (coming ended_then after_then under key_then) ended_then batch result
    given_since result gives told =
        subst (λ (n : ℕ). GivesBatch (pages old) (limits (below old)).page n under (coming ended after under key) (coming ended_then after_then under key_then) ended_then batch result) has.same_root
        (subst (λ (m : PageMap). GivesBatch m (limits (below old)).page at_root under (coming ended after under key) (coming ended_then after_then under key_then) ended_then batch result) has.stays.same
        (subst (λ (k : K). GivesBatch (pages mid) (limits k).page at_root under (coming ended after under key) (coming ended_then after_then under key_then) ended_then batch result) has.stays.kept
        (gives (subst (λ (k : K). IsTrue (tells k)) (sym has.stays.kept) told))))

    -- the batch isn't read
    pub batch_unread : (fault : Fault) (result : Result Bool Fault)
        → (IsTrue (tells (below mid)) → GivesBatch (pages mid) (limits (below mid)).page at_root under (coming ended after under key) (coming ended_then after_then under key_then) ended_then batch (Err fault))
        → IsErrAnd result (λ e. e ≡ fault) → IsTrue (tells (below old)) → SeesApart (pages old) (limits (below old)).page root columns under result
    batch_unread fault (Ok apart) gives same told = absurd same
    batch_unread fault (Err e) gives same told = λ there used whole tree. subst IsOutside (sym same) (given_since (Err fault) gives told there used whole tree)

    module _ (gives : IsTrue (tells (below mid)) → GivesBatch (pages mid) (limits (below mid)).page at_root under (coming ended after under key) (coming ended_then after_then under key_then) ended_then batch (Ok tt))
        (seen : List (List ℕ)) (seen_are : seen ≡ records ++ batch) where
      goes : IsTrue (tells (below old)) → (there : List Entry) (used : List ℕ) → AreWhole (limits (below old)).page (pages old) → IsIndexTree (pages old) (limits (below old)).page root under there used
          → IsOn columns seen (coming ended_then after_then under key_then there) there
      goes told there used whole tree =
          (let on = has.left told there used whole tree in
          let batch_is = given_since (Ok tt) gives told there used whole tree in
          let later = coming ended_then after_then under key_then there in
          record {
            given = on.given ++ batch_is.0;
            are = subst (λ (l : List (List ℕ)). Pairwise IsRecord l (on.given ++ batch_is.0)) (sym seen_are) (pairs_join IsRecord records batch on.given batch_is.0 on.are batch_is.1);
            same = ap (any_beside (have_one_key 0 columns)) (append_assoc on.given batch_is.0 later ∙ ap (λ (l : List Entry). on.given ++ l) (sym batch_is.2)) ∙ on.same;
          })

      module _ (tell : (given : List Entry) → Pairwise IsRecord seen given → any_beside (have_one_key 0 columns) given ≡ false) where
        -- nothing comes later
        pub ends_apart : ended_then ≡ true → IsTrue (tells (below old)) → SeesApart (pages old) (limits (below old)).page root columns under (Ok true)
        ends_apart ends told there used whole tree so =
            (let on = goes told there used whole tree in
            let all : on.given ++ coming ended_then after_then under key_then there ≡ on.given =
            ap (λ (b : Bool). on.given ++ coming b after_then under key_then there) ends ∙ append-nil on.given in
            sym on.same ∙ (ap (any_beside (have_one_key 0 columns)) all ∙ tell on.given on.are))

        -- the last of them stays
        pub goes_on : (new : P) (new_root : ℕ) (last : List (List ℕ)) → new_root ≡ at_root → Stays below pages count failures unrefused old new → last ≡ drop (length seen - 1) seen
            → HasRead old new root new_root columns under ended_then after_then key_then last
        goes_on new new_root last root_is stays last_is = record {
          stays = stays;
          same_root = root_is ∙ has.same_root;
          left = λ told there used whole tree. (
              let on = goes told there used whole tree in
              let later = coming ended_then after_then under key_then there in
              let many = as_many seen on.given on.are in
              record {
                given = drop (length on.given - 1) on.given;
                are =
                    subst (λ (l : List (List ℕ)). Pairwise IsRecord l (drop (length on.given - 1) on.given)) (sym (last_is ∙ ap (λ (n : ℕ). drop (n - 1) seen) many))
                    (pairs_left IsRecord (length on.given - 1) seen on.given on.are);
                same = last_decides (have_one_key 0 columns) on.given later (tell on.given on.are) ∙ on.same;
              });
        }

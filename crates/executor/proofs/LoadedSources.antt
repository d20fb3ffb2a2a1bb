-- The rows that a query needs of its sources, read one source after another, and what it answers over them.
use Rattle.std.proofs.Common.{◌≡◌, inl, inr, refl, sym, ap, subst, ◌∙◌, ℕ, zero, suc, ◌+◌, ◌≤◌, List, [], ◌∷◌, ◌++◌, map, length, Bool, true, Option, Some, None, Result, Ok, Err, arith}
use Rattle.std.proofs.lemmas.Bool.{false≢true}
use Rattle.std.proofs.lemmas.List.{append-nil, append_assoc}
use Rattle.std.specs.Prelude.{⊤, IsErrAnd, IsTrue, MatchResult, drop, is_some, option_and_then, option_map, slice_get, slice_set}
use Rattle.std.specs.List.{AllByRecursion}
use Rattle.sqlval.specs.Faults.{IsOutside}
use Rattle.sqlval.specs.Refusals.{Answer, Refusal, ◌then◌, all_answers, refusal_of}
use Rattle.sqlval.specs.declared.fault.Fault.{Fault}
use Rattle.pages.specs.Calls.{Limits, Stays}
use Rattle.pages.specs.Map.{PageMap}
use Rattle.sql_syntax.specs.declared.query.Query.{Query}
use Rattle.catalog.specs.Database.{ATable, Database, Name, Object, object}
use Rattle.catalog.specs.Database as database
use Rattle.catalog.specs.Listed.{Listed, Lists, table_named, view_named, with_rows}
use Rattle.catalog.specs.declared.tables.Table.{Table}
use Rattle.catalog.specs.declared.tables.View.{View}
use Rattle.query_terms.specs.Outcome.{AnswersBy}
use Rattle.query_terms.specs.Values.{Row}
use Rattle.query_names.specs.Bound.{IsFaultOf}
use Rattle.query_names.specs.Checked.{Checked, Meant, faults, known_map}
use Rattle.query_names.specs.Known.{IsKnownIn}
use Rattle.query_names.specs.Queries.{resolve_query}
use Rattle.query_names.specs.Readings.{rows_over}
use Rattle.query_names.specs.Views.{answer_of, loaded, look_up, rows_of, rows_of_object, table_rows}
use Rattle.query_names.specs.declared.queries.BoundSource.{BoundSource}
use Rattle.query_names.specs.declared.queries.Origin.{Origin}
use Rattle.query_names.specs.declared.queries.Origin.TheVariants as origin
use Rattle.query_names.specs.declared.reading.Condition.{Condition}
use Rattle.query_names.specs.declared.reading.Reading.{Reading}
use Rattle.query_bind.specs.Named.{ArePlaced, IsPlaced, place_seen}
use Rattle.query_answer.specs.Answers.{LoadsBeside}
use Rattle.query_answer.specs.Nesting.{Named, beside_rows}
use Rattle.row_scan.specs.Rows.{TableRow}
use Rattle.row_scan.specs.Sources.{as_source}
use Rattle.row_scan.specs.Trees.{AnswersOrFails}
use Rattle.db_pages.specs.Stored.{Stores}
use Rattle.executor.specs.Reading.{AreEnoughFor, AreKnown, AreSourceRows, IsRefusalOf, IsSameOver, LoadsSource, LoadsSources, ReadsView, answer_within, rows_of_each, source_view}
use Rattle.executor.specs.Works.{read_on}
use Rattle.executor.proofs.Answering.{answers}
use Rattle.executor.proofs.FoundTables.{table_found}

-- ---- lists

-- whether a query comes to the same over these lists of rows
abbrev SameOver : Reading → List (List Row) → List (List Row) → Type 0
SameOver q lists others = rows_over q [] (beside_rows q.sources lists) ≡ rows_over q [] (beside_rows q.sources others)

get_at : {A : Type 0} (before : List A) (x : A) (rest : List A) → slice_get (before ++ (x ∷ rest)) (length before) ≡ Some x
get_at [] x rest = refl
get_at (y ∷ before) x rest = get_at before x rest

set_at : {A : Type 0} (before : List A) (x y : A) (rest : List A) → slice_set (before ++ (x ∷ rest)) (length before) y ≡ before ++ (y ∷ rest)
set_at [] x y rest = refl
set_at (z ∷ before) x y rest = ap (λ more. z ∷ more) (set_at before x y rest)

one_longer : {A : Type 0} (before : List A) (x : A) → length (before ++ x ∷ []) ≡ suc (length before)
one_longer [] x = refl
one_longer (y ∷ before) x = ap suc (one_longer before x)

-- an item in its own place
set_itself : {A : Type 0} (xs : List A) (n : ℕ) (x : A) → slice_get xs n ≡ Some x → slice_set xs n x ≡ xs
set_itself [] n x at = absurd cc
set_itself (y ∷ ys) zero x at = ap (λ z. z ∷ ys) (the_one y x at)
  where
    the_one : {A : Type 0} (y x : A) → Some y ≡ Some x → x ≡ y
    the_one y x e = cc
set_itself (y ∷ ys) (suc n) x at = ap (λ zs. y ∷ zs) (set_itself ys n x at)

-- what comes first of the items from a place on stands there
first_there : {A : Type 0} (xs : List A) (n : ℕ) (x : A) (rest : List A) → drop n xs ≡ x ∷ rest → slice_get xs n ≡ Some x
first_there [] zero x rest e = absurd cc
first_there [] (suc n) x rest e = absurd cc
first_there (y ∷ ys) zero x rest e = the_head y x ys rest e
  where
    the_head : {A : Type 0} (y x : A) (ys rest : List A) → y ∷ ys ≡ x ∷ rest → Some y ≡ Some x
    the_head y x ys rest e = cc
first_there (y ∷ ys) (suc n) x rest e = first_there ys n x rest e

rest_there : {A : Type 0} (xs : List A) (n : ℕ) (x : A) (rest : List A) → drop n xs ≡ x ∷ rest → drop (suc n) xs ≡ rest
rest_there [] zero x rest e = absurd cc
rest_there [] (suc n) x rest e = absurd cc
rest_there (y ∷ ys) zero x rest e = the_tail y x ys rest e
  where
    the_tail : {A : Type 0} (y x : A) (ys rest : List A) → y ∷ ys ≡ x ∷ rest → ys ≡ rest
    the_tail y x ys rest e = cc
rest_there (y ∷ ys) (suc n) x rest e = rest_there ys n x rest e

-- an answer that is handed on is the answer
then_ok : {A : Type 0} (a : Answer A) → a ≡ (a then λ x. Ok x)
then_ok (Ok x) = refl
then_ok (Err r) = refl

-- ---- the sources so far

module _ (l : Listed) (room : ℕ) (db : Database) (q : Reading) where
  -- These lists were read, and what is left of the sources decides.
  pub record IsUnderWay (left : List Origin) (sources : List (List Row)) : Type 0 where
    pub lists : List (List Row)
    pub after : List Named
    pub after_is : drop (length sources) q.sources ≡ after
    pub counted : length sources + length after ≡ length q.sources
    pub placed : ArePlaced l after left
    pub known : AllByRecursion (λ s. IsKnownIn room db s.0) after
    pub decides : rows_of_each room db q.sources ≡ (rows_of_each room db after then λ rest. Ok (lists ++ rest))
    pub same : (rest : List (List Row)) → SameOver q (sources ++ rest) (lists ++ rest)

  pub begins : (origins : List Origin) → ArePlaced l q.sources origins → AllByRecursion (λ s. IsKnownIn room db s.0) q.sources → IsUnderWay origins []
  begins origins placed known = record {
    lists = [];
    after = q.sources;
    after_is = refl;
    counted = omega arith;
    placed = placed;
    known = known;
    decides = then_ok (rows_of_each room db q.sources);
    same = λ rest. refl;
  }

  -- the next source
  pub record IsNext (origin : Origin) (sources : List (List Row)) : Type 0 where
    pub s : Named
    pub ss : List Named
    pub left_are : drop (length sources) q.sources ≡ s ∷ ss
    pub placed : IsPlaced l s origin
    pub known : IsKnownIn room db s.0

  next_is : (origin : Origin) (rest : List Origin) (sources : List (List Row)) (after : List Named) → drop (length sources) q.sources ≡ after → ArePlaced l after (origin ∷ rest)
      → AllByRecursion (λ s. IsKnownIn room db s.0) after → IsNext origin sources
  next_is origin rest sources [] is placed known = absurd placed
  next_is origin rest sources (s ∷ ss) is placed known = record { s = s; ss = ss; left_are = is; placed = placed.0; known = known.0 }

  pub next_of : (origin : Origin) (rest : List Origin) (sources : List (List Row)) → IsUnderWay (origin ∷ rest) sources → IsNext origin sources
  next_of origin rest sources w = next_is origin rest sources w.after w.after_is w.placed w.known

  pub there : (origin : Origin) (sources : List (List Row)) → (n : IsNext origin sources) → slice_get q.sources (length sources) ≡ Some n.s
  there origin sources n = first_there q.sources (length sources) n.s n.ss n.left_are

  -- where its rows are read, the rest decides
  pub goes_on : (origin : Origin) (rest : List Origin) (sources : List (List Row)) (w : IsUnderWay (origin ∷ rest) sources) (n : IsNext origin sources) (found : List Row)
      → AreSourceRows room db q (length sources) n.s.0 found → IsUnderWay rest (sources ++ found ∷ [])
  goes_on origin rest sources w n found rows = record {
    lists = w.lists ++ rows.all ∷ [];
    after = n.ss;
    after_is = ap (λ (k : ℕ). drop k q.sources) (one_longer sources found) ∙ rest_there q.sources (length sources) n.s n.ss n.left_are;
    counted = (let c = w.counted in let longer = one_longer sources found in let more = ap length (sym w.after_is ∙ n.left_are) in omega (arith, c, longer, more));
    placed = (subst (λ (ss : List Named). ArePlaced l ss (origin ∷ rest)) here w.placed).1;
    known = (subst (AllByRecursion (λ (s : Named). IsKnownIn room db s.0)) here w.known).1;
    decides = w.decides
        ∙ (ap (λ (ss : List Named). rows_of_each room db ss then λ more. Ok (w.lists ++ more)) here
        ∙ (ap (λ (a : Answer (List Row)). (a then λ x. rows_of_each room db n.ss then λ xs. Ok (x ∷ xs)) then λ more. Ok (w.lists ++ more)) rows.are
        ∙ onwards (rows_of_each room db n.ss)));
    same = λ more.
        (let over : List (List Row) → _ = λ lists. rows_over q [] (beside_rows q.sources lists) in
        ap over (append_assoc sources (found ∷ []) more)
        ∙ (ap over (sym (set_at sources rows.all found more))
        ∙ (sym (rows.same (sources ++ (rows.all ∷ more)) (get_at sources rows.all more))
        ∙ (w.same (rows.all ∷ more) ∙ ap over (sym (append_assoc w.lists (rows.all ∷ []) more))))));
  }
    where
      here : w.after ≡ n.s ∷ n.ss
      here = sym w.after_is ∙ n.left_are

      onwards : (a : Answer (List (List Row))) → ((a then λ xs. Ok (rows.all ∷ xs)) then λ more. Ok (w.lists ++ more)) ≡ (a then λ rest. Ok ((w.lists ++ rows.all ∷ []) ++ rest))
      onwards (Ok xs) = ap (λ (ls : List (List Row)). Ok ls) (sym (append_assoc w.lists (rows.all ∷ []) xs))
      onwards (Err r) = refl

  -- where they are refused, the sources are
  pub stops : (origin : Origin) (rest : List Origin) (sources : List (List Row)) (w : IsUnderWay (origin ∷ rest) sources) (n : IsNext origin sources) (r : Refusal)
      → rows_of room db n.s.0 ≡ Err r → rows_of_each room db q.sources ≡ Err r
  stops origin rest sources w n r refused =
      w.decides
      ∙ (ap (λ (ss : List Named). rows_of_each room db ss then λ more. Ok (w.lists ++ more)) (sym w.after_is ∙ n.left_are)
      ∙ ap (λ (a : Answer (List Row)). (a then λ x. rows_of_each room db n.ss then λ xs. Ok (x ∷ xs)) then λ more. Ok (w.lists ++ more)) refused)

  -- where none is left, all were read
  pub ends : (sources : List (List Row)) → IsUnderWay [] sources → AreEnoughFor room db q sources
  ends sources w = by w.after refl w.placed
    where
      by : (after : List Named) → w.after ≡ after → ArePlaced l after [] → AreEnoughFor room db q sources
      by (s ∷ ss) is placed = absurd placed
      by [] is placed = record {
        all = w.lists;
        are = w.decides ∙ (ap (λ (ss : List Named). rows_of_each room db ss then λ rest. Ok (w.lists ++ rest)) is ∙ ap (λ (ls : List (List Row)). Ok ls) (append-nil w.lists));
        many = (let c = w.counted in let none = ap length is in omega (arith, c, none));
        same = (let over : List (List Row) → _ = λ lists. rows_over q [] (beside_rows q.sources lists) in ap over (sym (append-nil sources)) ∙ (w.same [] ∙ ap over (append-nil w.lists)));
      }

-- ---- reading

module _ {P K : Type 0} (below : P → K) (tells : K → Bool) (limits : K → Limits) (pages : P → PageMap) (count : P → ℕ) (failures : P → ℕ × ℕ) where
  -- what is so after some sources
  pub record HasLoaded (old now : P) (l : Listed) (room : ℕ) (q : Reading) (origins left : List Origin) (sources : List (List Row)) : Type 0 where
    pub stays : Stays below pages count failures {T = ⊤} (Ok tt) old now
    pub so_far : IsTrue (tells (below old)) → (db : Database) → Stores (pages old) (limits (below old)).page l db → ArePlaced l q.sources origins → AreKnown room db q.sources → IsUnderWay l room db q left sources

  pub none_loaded : (old : P) (l : Listed) (room : ℕ) (q : Reading) (origins : List Origin) (sources : List (List Row)) → sources ≡ [] → HasLoaded old old l room q origins origins sources
  none_loaded old l room q origins sources none = record {
    stays = record { kept = refl; same = refl; counted = refl; causes = record { db = omega arith; log = omega arith; why = tt } };
    so_far = λ told db stored placed known. subst (IsUnderWay l room db q origins) (sym none) (begins l room db q origins placed known.each);
  }

  -- what a call says of the pages as they were
  since : (old mid : P) (l : Listed) (room : ℕ) (q : Reading) (n : ℕ) (o : Origin) (result : Result (List Row) Fault) → Stays below pages count failures {T = ⊤} (Ok tt) old mid
      → (IsTrue (tells (below mid)) → LoadsSource (pages mid) (limits (below mid)).page l room q n o result) → IsTrue (tells (below old)) → LoadsSource (pages old) (limits (below old)).page l room q n o result
  since old mid l room q n o result stays loads told =
      subst (λ (m : PageMap). LoadsSource m (limits (below old)).page l room q n o result) stays.same
      (subst (λ (k : K). LoadsSource (pages mid) (limits k).page l room q n o result) stays.kept (loads (subst (λ (k : K). IsTrue (tells k)) (sym stays.kept) told)))

  module _ (old mid : P) (l : Listed) (room : ℕ) (q : Reading) (origins left rest : List Origin) (o : Origin) (sources : List (List Row)) (has : HasLoaded old mid l room q origins left sources) (left_is : left ≡ o ∷ rest) where
    under_way : IsTrue (tells (below old)) → (db : Database) → Stores (pages old) (limits (below old)).page l db → ArePlaced l q.sources origins → AreKnown room db q.sources → IsUnderWay l room db q (o ∷ rest) sources
    under_way told db stored placed known = subst (λ (os : List Origin). IsUnderWay l room db q os sources) left_is (has.so_far told db stored placed known)

    pub one_loaded : (new : P) (n : ℕ) (found : List Row) (after : List (List Row)) → n ≡ length sources → Stays below pages count failures {T = ⊤} (Ok tt) old new
        → (IsTrue (tells (below mid)) → LoadsSource (pages mid) (limits (below mid)).page l room q n o (Ok found)) → after ≡ sources ++ found ∷ [] → HasLoaded old new l room q origins rest after
    one_loaded new n found after number stays loads after_is = record {
      stays = stays;
      so_far = λ told db stored placed known.
          (let w = under_way told db stored placed known in
          let next = next_of l room db q o rest sources w in
          let read : LoadsSource (pages old) (limits (below old)).page l room q (length sources) o (Ok found) =
          subst (λ (k : ℕ). LoadsSource (pages old) (limits (below old)).page l room q k o (Ok found)) number (since old mid l room q n o (Ok found) has.stays loads told) in
          subst (IsUnderWay l room db q rest) (sym after_is)
          (goes_on l room db q o rest sources w next found (read db next.s stored (there l room db q o sources next) next.placed known.few next.known)));
    }

    -- a source that isn't read
    pub not_loaded : {X : Type 0} (view : X → List (List Row)) (n : ℕ) (fault : Fault) (result : Result X Fault) → n ≡ length sources → IsErrAnd result (λ e. e ≡ fault)
        → (IsTrue (tells (below mid)) → LoadsSource (pages mid) (limits (below mid)).page l room q n o (Err fault)) → IsTrue (tells (below old))
        → LoadsSources view (pages old) (limits (below old)).page l room q origins result
    not_loaded view n fault (Ok x) number same loads told = absurd same
    not_loaded view n fault (Err e) number same loads told = λ db stored placed known.
        (let w = under_way told db stored placed known in
        let next = next_of l room db q o rest sources w in
        let read : LoadsSource (pages old) (limits (below old)).page l room q (length sources) o (Err fault) =
        subst (λ (k : ℕ). LoadsSource (pages old) (limits (below old)).page l room q k o (Err fault)) number (since old mid l room q n o (Err fault) has.stays loads told) in
        subst (IsRefusalOf (rows_of_each room db q.sources)) (sym same)
        (by db w next (read db next.s stored (there l room db q o sources next) next.placed known.few next.known)))
      where
        by : (db : Database) (w : IsUnderWay l room db q (o ∷ rest) sources) (next : IsNext l room db q o sources) → IsRefusalOf (rows_of room db next.s.0) fault → IsRefusalOf (rows_of_each room db q.sources) fault
        by db w next (inl outside) = inl outside
        by db w next (inr refused) = inr (stops l room db q o rest sources w next (refusal_of fault) refused)

  pub all_loaded : {X : Type 0} (view : X → List (List Row)) (x : X) (old mid : P) (l : Listed) (room : ℕ) (q : Reading) (origins left : List Origin) → HasLoaded old mid l room q origins left (view x) → left ≡ []
      → IsTrue (tells (below old)) → LoadsSources view (pages old) (limits (below old)).page l room q origins (Ok x)
  all_loaded view x old mid l room q origins left has none told = λ db stored placed known.
      ends l room db q (view x) (subst (λ (os : List Origin). IsUnderWay l room db q os (view x)) none (has.so_far told db stored placed known))

-- ---- the sources of a query

-- the rows of a table are those at its place
at_place : (rows_at : ℕ → List TableRow) (t : Table) (place : BoundSource) → option_map place_seen (Some t) ≡ Some place
    → ◌≡◌ {A = Answer (List Row)} (Ok (map as_source (rows_at t.root))) (Ok (map as_source (rows_at place.root)))
at_place rows_at t place is = ap (λ (p : BoundSource). Ok (map as_source (rows_at p.root))) (one (place_seen t) place is)
  where
    one : (a b : BoundSource) → Some a ≡ Some b → a ≡ b
    one a b e = cc

-- a table that has a place is there
placed_table : (found : Option Table) (place : BoundSource) → option_map place_seen found ≡ Some place → (t : Table) × (found ≡ Some t)
placed_table None place is = (let bad : None ≡ Some place = is in cc)
placed_table (Some t) place is = (t, refl)

-- a table's rows are the same whatever the room for views
table_in : (room : ℕ) (db : Database) (name : Name) (t : database.Table) → object db name ≡ Some (ATable t) → rows_of room db name ≡ Ok (table_rows t)
table_in zero db name t is = ap (rows_of_object _) is
table_in (suc room) db name t is = ap (rows_of_object _) is

pub tree_rows : (room : ℕ) (rows_at : ℕ → List TableRow) (l : Listed) (db : Database) (name : Name) (place : BoundSource) → Lists rows_at l db → option_map place_seen (table_named name l.tables) ≡ Some place
    → rows_of room db name ≡ Ok (map as_source (rows_at place.root))
tree_rows room rows_at l db name place lists is =
    let (t, named) = placed_table (table_named name l.tables) place is in
    table_in room db name (with_rows t (rows_at t.root)) (table_found rows_at l db name t lists named)
    ∙ at_place rows_at t place (subst (λ (found : Option Table). option_map place_seen found ≡ Some place) named is)

-- a view's rows are all that the query needs of it
pub view_loaded : (pages : PageMap) (size : ℕ) (l : Listed) (room : ℕ) (q : Reading) (n : ℕ) (view : View) (result : Result (List Row) Fault) → source_view l.views q.sources n ≡ Some view
    → ReadsView pages size l room view result → LoadsSource pages size l room q n origin.View result
view_loaded pages size l room q n view result is reads db s stored at placed few known =
    by result (reads db s.0 stored placed.0 (sym (ap (option_and_then (λ (s : Named). view_named s.0 l.views)) at) ∙ is) few known)
  where
    by : (result : Result (List Row) Fault) → AnswersOrFails (λ (rows : List Row). rows) (rows_of room db s.0) result → MatchResult result (AreSourceRows room db q n s.0) (IsRefusalOf (rows_of room db s.0))
    by (Ok found) answered =
        record { all = found; are = answered; same = λ lists here. ap (λ (ls : List (List Row)). rows_over q [] (beside_rows q.sources ls)) (sym (set_itself lists n found here)) }
    by (Err f) refused = refused

-- there is no source of a view that isn't there
pub no_view : (pages : PageMap) (size : ℕ) (l : Listed) (room : ℕ) (q : Reading) (n : ℕ) (result : Result (List Row) Fault) → source_view l.views q.sources n ≡ None
    → LoadsSource pages size l room q n origin.View result
no_view pages size l room q n result none db s stored at placed few known =
    absurd (false≢true (sym (ap is_some (sym (ap (option_and_then (λ (s : Named). view_named s.0 l.views)) at) ∙ none)) ∙ placed.1))

-- ---- its answer

-- a query comes to what it comes to over the rows of its sources
pub answer_over : (law : LoadsBeside) (room : ℕ) (db : Database) (q : Reading) (all : List (List Row)) → rows_of_each room db q.sources ≡ Ok all
    → answer_within room db q ≡ rows_over q [] (beside_rows q.sources all)
answer_over law room db q all are =
    ap (λ a. a then rows_over q []) (law (rows_of room db) q.sources ∙ ap (λ (a : Answer (List (List Row))). a then λ lists. Ok (beside_rows q.sources lists)) are)

-- and is refused as they are
answer_refused : (law : LoadsBeside) (room : ℕ) (db : Database) (q : Reading) (r : Refusal) → rows_of_each room db q.sources ≡ Err r → answer_within room db q ≡ Err r
answer_refused law room db q r refused =
    ap (λ a. a then rows_over q []) (law (rows_of room db) q.sources ∙ ap (λ (a : Answer (List (List Row))). a then λ lists. Ok (beside_rows q.sources lists)) refused)

pub sources_refused : {X : Type 0} (view : X → List (List _)) (law : LoadsBeside) (room : ℕ) (db : Database) (q : Reading) (fault : Fault) (result : Result X Fault) → IsErrAnd result (λ e. e ≡ fault)
    → IsRefusalOf (rows_of_each room db q.sources) fault → AnswersOrFails view (answer_within room db q) result
sources_refused view law room db q fault (Ok x) same why = absurd same
sources_refused view law room db q fault (Err e) same (inl outside) = inl (subst IsOutside (sym same) outside)
sources_refused view law room db q fault (Err e) same (inr refused) = inr (answer_refused law room db q (refusal_of fault) refused ∙ ap (λ (f : Fault). Err (refusal_of f)) (sym same))

pub rows_answered : {X : Type 0} (view : X → List (List _)) (law : LoadsBeside) (room : ℕ) (db : Database) (q : Reading) (sources : List (List Row)) (result : Result X Fault) → AreEnoughFor room db q sources
    → (length sources ≡ length q.sources → AnswersBy view (rows_over q [] (beside_rows q.sources sources)) result) → AnswersOrFails view (answer_within room db q) result
rows_answered view law room db q sources result enough gives =
    answers view (answer_within room db q) result (subst (λ a. AnswersBy view a result) (sym (answer_over law room db q enough.all enough.are ∙ sym enough.same)) (gives enough.many))

-- a refusal of its names is one of reading it
pub unnamed : (db : Database) (q : Query) (f : Fault) → IsFaultOf (faults (resolve_query (look_up db) [] q)) f → IsFaultOf (faults (read_on db q)) f
unnamed db q f why = by_checked (resolve_query (look_up db) [] q) why
  where
    by_checked : (k : Checked Reading) → IsFaultOf (faults k) f → IsFaultOf (faults (known_map (answer_of db []) k)) f
    by_checked (Meant r rs) is = is

-- All rows of each source, read one after another.
use Rattle.std.proofs.Common.{◌≡◌, ◌∙◌, inl, inr, refl, sym, ap, subst, ℕ, Bool, List, [], ◌∷◌, ◌++◌, append_assoc, Result, Ok, Err, arith}
use Rattle.std.specs.Prelude.{⊤, IsErrAnd, IsTrue}
use Rattle.std.proofs.lemmas.List.{append-nil}
use Rattle.sqlval.specs.Refusals.{Answer, Refusal, ◌then◌, refusal_of}
use Rattle.sqlval.specs.declared.fault.Fault.{Fault}
use Rattle.pages.specs.Calls.{Limits, Stays}
use Rattle.pages.specs.Map.{PageMap}
use Rattle.catalog.specs.Database.{Database}
use Rattle.catalog.specs.Listed.{Listed}
use Rattle.query_names.specs.Views.{all_rows}
use Rattle.query_terms.specs.Values.{Row}
use Rattle.query_answer.specs.Nesting.{Named}
use Rattle.row_scan.specs.Trees.{AnswersOrFails}
use Rattle.db_pages.specs.Stored.{Stores}
use Rattle.executor.specs.Reading.{IsRefusalOf}
use Rattle.executor.specs.Rows.{ReadsAll}
use Rattle.executor_programs.specs.Querying.{AreKnownSources, AreLoaded, LoadsEach, rows_of_each}

then_ok : {A : Type 0} (a : Answer A) → a ≡ (a then λ x. Ok x)
then_ok (Ok x) = refl
then_ok (Err r) = refl

-- These lists were read, and what is left of the sources decides.
pub record IsUnderWay (db : Database) (all left : List Named) (before lists : List (List Row)) : Type 0 where
  pub found : List (List Row)
  pub after : lists ≡ before ++ found
  pub known : AreKnownSources db left
  pub decides : rows_of_each db all ≡ (rows_of_each db left then λ rest. Ok (found ++ rest))

module _ (db : Database) (all rest : List Named) (s : Named) (before lists : List (List Row)) (w : IsUnderWay db all (s ∷ rest) before lists) where
  goes_on : (rows : List Row) → all_rows db s.0 ≡ Ok rows → IsUnderWay db all rest before (lists ++ rows ∷ [])
  goes_on rows read = record {
    found = w.found ++ rows ∷ [];
    after = ap (λ (ls : List (List Row)). ls ++ rows ∷ []) w.after ∙ append_assoc before w.found (rows ∷ []);
    known = w.known.1;
    decides = w.decides
        ∙ (ap (λ (a : Answer (List Row)). (a then λ x. rows_of_each db rest then λ xs. Ok (x ∷ xs)) then λ more. Ok (w.found ++ more)) read
        ∙ onwards (rows_of_each db rest));
  }
    where
      onwards : (a : Answer (List (List Row))) → ((a then λ xs. Ok (rows ∷ xs)) then λ more. Ok (w.found ++ more)) ≡ (a then λ rest. Ok ((w.found ++ rows ∷ []) ++ rest))
      onwards (Ok xs) = ap (λ (ls : List (List Row)). Ok ls) (sym (append_assoc w.found (rows ∷ []) xs))
      onwards (Err r) = refl

  stops : (r : Refusal) → all_rows db s.0 ≡ Err r → rows_of_each db all ≡ Err r
  stops r refused =
      w.decides ∙ ap (λ (a : Answer (List Row)). (a then λ x. rows_of_each db rest then λ xs. Ok (x ∷ xs)) then λ more. Ok (w.found ++ more)) refused

module _ {P K : Type 0} (below : P → K) (tells : K → Bool) (limits : K → Limits) (pages : P → PageMap) (count : P → ℕ) (failures : P → ℕ × ℕ) where
  -- what is so after some sources
  pub record HasLoaded (old now : P) (l : Listed) (all left : List Named) (before lists : List (List Row)) : Type 0 where
    pub stays : Stays below pages count failures {T = ⊤} (Ok tt) old now
    pub so_far : IsTrue (tells (below old)) → (db : Database) → Stores (pages old) (limits (below old)).page l db → AreKnownSources db all → IsUnderWay db all left before lists

  pub none_loaded : (old : P) (l : Listed) (all : List Named) (before : List (List Row)) → HasLoaded old old l all all before before
  none_loaded old l all before = record {
    stays = record { kept = refl; same = refl; counted = refl; causes = record { db = omega arith; log = omega arith; why = tt } };
    so_far = λ told db stored known. record { found = []; after = sym (append-nil before); known = known; decides = then_ok (rows_of_each db all) };
  }

  module _ (old mid : P) (l : Listed) (all left rest : List Named) (s : Named) (before lists : List (List Row)) (has : HasLoaded old mid l all left before lists) (left_is : left ≡ s ∷ rest) where
    under_way : IsTrue (tells (below old)) → (db : Database) → Stores (pages old) (limits (below old)).page l db → AreKnownSources db all → IsUnderWay db all (s ∷ rest) before lists
    under_way told db stored known = subst (λ (ss : List Named). IsUnderWay db all ss before lists) left_is (has.so_far told db stored known)

    -- what a call says of the pages as they were
    since : (result : Result (List Row) Fault) → (IsTrue (tells (below mid)) → ReadsAll (pages mid) (limits (below mid)).page l s.0 result) → IsTrue (tells (below old)) → ReadsAll (pages old) (limits (below old)).page l s.0 result
    since result reads told =
        subst (λ (m : PageMap). ReadsAll m (limits (below old)).page l s.0 result) has.stays.same
        (subst (λ (k : K). ReadsAll (pages mid) (limits k).page l s.0 result) has.stays.kept (reads (subst (λ (k : K). IsTrue (tells k)) (sym has.stays.kept) told)))

    pub one_loaded : (new : P) (rows : List Row) (after : List (List Row)) → Stays below pages count failures {T = ⊤} (Ok tt) old new
        → (IsTrue (tells (below mid)) → ReadsAll (pages mid) (limits (below mid)).page l s.0 (Ok rows)) → after ≡ lists ++ rows ∷ [] → HasLoaded old new l all rest before after
    one_loaded new rows after stays reads after_is = record {
      stays = stays;
      so_far = λ told db stored known.
          (let w = under_way told db stored known in
          subst (IsUnderWay db all rest before) (sym after_is) (goes_on db all rest s before lists w rows (since (Ok rows) reads told db stored w.known.0)));
    }

    -- a source that isn't read
    pub not_loaded : (fault : Fault) (result : Result ⊤ Fault) (now : List (List Row)) → IsErrAnd result (λ e. e ≡ fault) → (IsTrue (tells (below mid)) → ReadsAll (pages mid) (limits (below mid)).page l s.0 (Err fault))
        → IsTrue (tells (below old)) → (db : Database) → Stores (pages old) (limits (below old)).page l db → AreKnownSources db all → LoadsEach db all before now result
    not_loaded fault (Ok x) now same reads told db stored known = absurd same
    not_loaded fault (Err e) now same reads told db stored known =
        (let w = under_way told db stored known in
        subst (IsRefusalOf (rows_of_each db all)) (sym same) (by w (since (Err fault) reads told db stored w.known.0)))
      where
        by : IsUnderWay db all (s ∷ rest) before lists → AnswersOrFails {X = List Row} (λ rows. rows) (all_rows db s.0) (Err fault) → IsRefusalOf (rows_of_each db all) fault
        by w (inl outside) = inl outside
        by w (inr refused) = inr (stops db all rest s before lists w (refusal_of fault) refused)

  pub all_loaded : (old mid : P) (l : Listed) (all left : List Named) (before lists : List (List Row)) → HasLoaded old mid l all left before lists → left ≡ []
      → IsTrue (tells (below old)) → (db : Database) → Stores (pages old) (limits (below old)).page l db → AreKnownSources db all → AreLoaded db all before lists
  all_loaded old mid l all left before lists has none told db stored known =
      (let w = has.so_far told db stored known in
      record {
        lists = w.found;
        are = w.decides ∙ (ap (λ (ss : List Named). rows_of_each db ss then λ rest. Ok (w.found ++ rest)) none ∙ ap (λ (ls : List (List Row)). Ok ls) (append-nil w.found));
        after = w.after;
      })

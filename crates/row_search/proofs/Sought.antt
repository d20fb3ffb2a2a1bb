-- The rows of a table that have these rowids.
use Rattle.std.proofs.Common.{◌≡◌, refl, sym, ap, subst, ◌∙◌, ◌+◌, ◌≤◌, ℕ, ℤ, Bool, List, [], ◌∷◌, ◌++◌, length, map, take, IsTrue, Ok, Err, arith}
use Rattle.std.proofs.lemmas.List.{flat_map_more, map-append, take_all}
use Rattle.std.specs.List.{flat_map}
use Rattle.std.specs.Prelude.{Result, ⊤, IsErrAnd}
use Rattle.sqlval.specs.Faults.{IsOutside}
use Rattle.sqlval.specs.declared.fault.Fault.{Fault}
use Rattle.pages.specs.Calls.{Limits, Stays}
use Rattle.pages.specs.Map.{PageMap}
use Rattle.tree_overflow.proofs.ReadChains.{stays_after, unrefused}
use Rattle.query_terms.specs.Values.{Row}
use Rattle.query_names.specs.declared.queries.BoundSource.{BoundSource}
use Rattle.row_scan.specs.Sources.{LoadsRowsAt, as_source, rows_at}
use Rattle.row_search.specs.Loading.{AddsRowsAt, LoadsRowsOf}

-- ---- one row

-- it isn't read
pub not_loaded : (pages : PageMap) (size : ℕ) (table : BoundSource) (rowid : ℤ) (before after : List Row) (fault : Fault) (result : Result ⊤ Fault) → LoadsRowsAt pages size table rowid (Err fault)
    → IsErrAnd result (λ e. e ≡ fault) → AddsRowsAt pages size table rowid before after result
not_loaded pages size table rowid before after fault (Ok done) loads same = absurd same
not_loaded pages size table rowid before after fault (Err e) loads same = λ rows whole has. subst IsOutside (sym same) (loads rows whole has)

-- it is put after the others
pub row_added : (pages : PageMap) (size : ℕ) (table : BoundSource) (rowid : ℤ) (before found after : List Row) → LoadsRowsAt pages size table rowid (Ok found) → after ≡ before ++ found
    → AddsRowsAt pages size table rowid before after (Ok tt)
row_added pages size table rowid before found after loads is = λ rows whole has. is ∙ ap (λ (l : List Row). before ++ l) (loads rows whole has)

-- ---- one after the other

module _ {P K : Type 0} (below : P → K) (tells : K → Bool) (limits : K → Limits) (pages : P → PageMap) (count : P → ℕ) (failures : P → ℕ × ℕ) where
  -- the rows of the rowids so far
  pub record AreLoaded (old now : P) (table : BoundSource) (rowids : List ℤ) (found : List Row) (place : ℕ) : Type 0 where
    pub stays : Stays below pages count failures unrefused old now
    pub so_far : IsTrue (tells (below old)) → LoadsRowsOf (pages old) (limits (below old)).page table (take place rowids) (Ok found)

  pub none_yet : (old : P) (table : BoundSource) (rowids : List ℤ) (found : List Row) → found ≡ [] → AreLoaded old old table rowids found 0
  none_yet old table rowids found none = record {
    stays = record { kept = refl; same = refl; counted = refl; causes = record { db = omega arith; log = omega arith; why = tt } };
    so_far = λ told rows whole has. none;
  }

  module _ (old mid : P) (table : BoundSource) (rowids : List ℤ) (found then : List Row) (place : ℕ) (rowid : ℤ) (has : AreLoaded old mid table rowids found place) where
    -- what a call gives of the pages as they were
    given_since : (result : Result ⊤ Fault) → (IsTrue (tells (below mid)) → AddsRowsAt (pages mid) (limits (below mid)).page table rowid found then result) → IsTrue (tells (below old))
        → AddsRowsAt (pages old) (limits (below old)).page table rowid found then result
    given_since result adds told =
        subst (λ (m : PageMap). AddsRowsAt m (limits (below old)).page table rowid found then result) has.stays.same
        (subst (λ (k : K). AddsRowsAt (pages mid) (limits k).page table rowid found then result) has.stays.kept (adds (subst (λ (k : K). IsTrue (tells k)) (sym has.stays.kept) told)))

    -- one isn't read
    pub one_unread : (fault : Fault) (result : Result (List Row) Fault) → (IsTrue (tells (below mid)) → AddsRowsAt (pages mid) (limits (below mid)).page table rowid found then (Err fault))
        → IsErrAnd result (λ e. e ≡ fault) → IsTrue (tells (below old)) → LoadsRowsOf (pages old) (limits (below old)).page table rowids result
    one_unread fault (Ok rows) adds same told = absurd same
    one_unread fault (Err e) adds same told = λ rows whole are. subst IsOutside (sym same) (given_since (Err fault) adds told rows whole are)

    -- and what stays, stays
    pub one_refused : {T : Type 0} (new : P) (fault : Fault) (result : Result T Fault) → Stays below pages count failures {T = ⊤} (Err fault) mid new → IsErrAnd result (λ e. e ≡ fault)
        → Stays below pages count failures result old new
    one_refused new fault (Ok rows) stays same = absurd same
    one_refused new fault (Err e) stays same =
        stays_after below pages count failures unrefused (Err e) old mid new has.stays
        (record {
          kept = stays.kept;
          same = stays.same;
          counted = stays.counted;
          causes = record { db = stays.causes.db; log = stays.causes.log; why = record { io = λ io. stays.causes.why.io (sym same ∙ io); full = λ full. stays.causes.why.full (sym same ∙ full) } };
        })

    -- one more
    pub one_more : (new : P) → take (place + 1) rowids ≡ take place rowids ++ rowid ∷ [] → (IsTrue (tells (below mid)) → AddsRowsAt (pages mid) (limits (below mid)).page table rowid found then (Ok tt))
        → Stays below pages count failures unrefused old new → AreLoaded old new table rowids then (place + 1)
    one_more new taken adds stays = record {
      stays = stays;
      so_far = λ told rows whole are. (
          given_since (Ok tt) adds told rows whole are
          ∙ (ap (λ (l : List Row). l ++ map as_source (rows_at rowid rows)) (has.so_far told rows whole are)
          ∙ (sym (map-append as_source (flat_map (λ id. rows_at id rows) (take place rowids)) (rows_at rowid rows))
          ∙ ap (map as_source) (flat_map_more (λ id. rows_at id rows) [] (take place rowids) rowid ∙ ap (flat_map (λ id. rows_at id rows)) (sym taken)))));
    }

  -- all
  pub all_loaded : (old mid : P) (table : BoundSource) (rowids : List ℤ) (found : List Row) (place : ℕ) → AreLoaded old mid table rowids found place → length rowids ≤ place → (result : List Row) → result ≡ found
      → IsTrue (tells (below old)) → LoadsRowsOf (pages old) (limits (below old)).page table rowids (Ok result)
  all_loaded old mid table rowids found place has le result is told = λ rows whole are.
      (is ∙ (has.so_far told rows whole are ∙ ap (λ (ids : List ℤ). map as_source (flat_map (λ id. rows_at id rows) ids)) (take_all place rowids le)))

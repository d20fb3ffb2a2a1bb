-- Entries that come some at a time.
use Rattle.std.proofs.Common.{◌≡◌, refl, sym, ap, subst, ◌∙◌, inl, inr, ℕ, zero, suc, ◌≤◌, List, [], ◌∷◌, ◌++◌, append_assoc, length, map, take, drop, arith, Ok, Err}
use mathlib.Core.Bool.{true≢false}
use Rattle.std.proofs.lemmas.List.{append-nil}
use Rattle.std.specs.List.{AllByRecursion}
use Rattle.std.specs.Prelude.{Result, IsErrAnd, MatchResult, ⊤}
use Rattle.sqlval.specs.declared.collation.Collation.{Collation}
use Rattle.sqlval.specs.declared.fault.Fault.{Fault}
use Rattle.pages.specs.Map.{PageMap}
use Rattle.pages.proofs.Moving.{in_sequence}
use Rattle.record.specs.Writing.{AreStorable}
use Rattle.tree_index.specs.Calls.{BecomesEntries, InsertsRun, IsInsertRefusal}
use Rattle.tree_index.specs.Entries.{Entry, ComeInTurn, has_entry, with_entries, with_entry}
use Rattle.index_entries.specs.Coming.{IsPutRefusal, PutsCome}
use Rattle.index_entries.specs.Entries.{AreApart, Columns, Row, collations, entries_of_rows, indexed}
use Rattle.index_entries.specs.Keeping.{AddsEntries, IsAddRefusal}
use Rattle.index_entries.proofs.Gone.{long_rest, rows_long}
use Rattle.index_entries.proofs.Rows.{adds_its_entry}
use Rattle.index_entries.proofs.Turning.{apart_front, keeps_all, keeps_then, unmoved}

-- ---- entries

all_rest : {X : Type 0} (P : X → Type 0) (n : ℕ) (xs : List X) → AllByRecursion P xs → AllByRecursion P (drop n xs)
all_rest P zero xs all = all
all_rest P (suc n) [] all = tt
all_rest P (suc n) (x ∷ xs) all = all_rest P n xs all.1

module _ (size root : ℕ) (columns : List Collation) where
  come_parts : (n : ℕ) (come entries : List Entry) → ComeInTurn columns come entries → ComeInTurn columns (drop n come) (with_entries columns (take n come) entries)
  come_parts zero come entries turn = turn
  come_parts (suc n) [] entries turn = tt
  come_parts (suc n) (y ∷ come) entries turn = come_parts n come (with_entry columns y entries) turn.1

  with_parts : (n : ℕ) (come entries : List Entry) → with_entries columns (drop n come) (with_entries columns (take n come) entries) ≡ with_entries columns come entries
  with_parts zero come entries = refl
  with_parts (suc n) [] entries = refl
  with_parts (suc n) (y ∷ come) entries = with_parts n come (with_entry columns y entries)

  pub come_none : (pages : PageMap) (come : List Entry) → length come ≡ 0 → PutsCome pages pages size root columns come (Ok tt)
  come_none pages [] none entries used free stands long turn = record { now_used = used; now_free = free; stands = stands; moves = unmoved pages used free; header = keeps_all pages }
  come_none pages (y ∷ come) none entries used free stands long turn = absurd (omega (arith, none))

  wider : (n : ℕ) (come : List Entry) (f : Fault) → IsPutRefusal (drop n come) f → IsPutRefusal come f
  wider n come f (inl outside) = inl outside
  wider n come f (inr long) = inr (long.0, λ all. long.1 (all_rest AreStorable n come all))

  becomes_then : (old mid new : PageMap) (n : ℕ) (come middle entries : List Entry) (used free : List ℕ) (was : BecomesEntries old mid size root columns middle used free) (result : Result ⊤ Fault)
      → MatchResult result (λ done. BecomesEntries mid new size root columns entries was.now_used was.now_free) (IsPutRefusal (drop n come))
      → MatchResult result (λ done. BecomesEntries old new size root columns entries used free) (IsPutRefusal come)
  becomes_then old mid new n come middle entries used free was (Ok done) now = record {
    now_used = now.now_used;
    now_free = now.now_free;
    stands = now.stands;
    moves = in_sequence old mid new used free was.now_used was.now_free now.now_used now.now_free was.moves now.moves;
    header = keeps_then old mid new was.header now.header;
  }
  becomes_then old mid new n come middle entries used free was (Err fault) refused = wider n come fault refused

  -- some come, and then the rest
  pub come_more : (old mid new : PageMap) (come : List Entry) (count : ℕ) → 1 ≤ count → InsertsRun old mid size root columns come (Ok count) → (left : List Entry) → left ≡ drop count come → (result : Result ⊤ Fault)
      → PutsCome mid new size root columns left result → PutsCome old new size root columns come result
  come_more old mid new come zero some puts left left_is result next entries used free stands long turn = absurd (omega (arith, some))
  come_more old mid new come (suc n) some puts left left_is result next entries used free stands long turn =
      let was = (puts entries used free stands long).2 in
      let middle = with_entries columns (take (suc n) come) entries in
      let rest = subst (λ (es : List Entry). PutsCome mid new size root columns es result) left_is next in
      becomes_then old mid new (suc n) come middle (with_entries columns come entries) used free was result
      (subst (λ (es : List Entry). MatchResult result (λ done. BecomesEntries mid new size root columns es was.now_used was.now_free) (IsPutRefusal (drop (suc n) come))) (with_parts (suc n) come entries)
      (rest middle was.now_used was.now_free was.stands (long_rest size root columns (suc n) come long) (come_parts (suc n) come entries turn)))

  -- the first isn't there
  pub never_there : (old mid : PageMap) (come : List Entry) → (length come ≡ 0 → ⊥) → InsertsRun old mid size root columns come (Ok 0) → (result : Result ⊤ Fault) → PutsCome old mid size root columns come result
  never_there old mid [] some puts result entries used free stands long turn = absurd (some refl)
  never_there old mid (y ∷ come) some puts result entries used free stands long turn = absurd (true≢false (sym (puts entries used free stands long).0 ∙ turn.0))

  pub come_refused : (old new : PageMap) (come : List Entry) (fault : Fault) → InsertsRun old new size root columns come (Err fault) → (result : Result ⊤ Fault) → IsErrAnd result (λ e. e ≡ fault)
      → PutsCome old new size root columns come result
  come_refused old new come fault puts (Ok done) same = absurd same
  come_refused old new [] fault puts (Err e) same = λ entries used free stands long turn. absurd (puts entries used free stands long)
  come_refused old new (y ∷ come) fault puts (Err e) same = λ entries used free stands long turn.
      subst (IsPutRefusal (y ∷ come)) (sym same) (of_all (puts entries used free stands long))
    where
      of_all : IsInsertRefusal y fault → IsPutRefusal (y ∷ come) fault
      of_all (inl outside) = inl outside
      of_all (inr large) = inr (large.0, λ all. large.1 all.0)

-- ---- rows

module _ (columns : Columns) where
  -- the entry of none is there in its turn
  rows_come : (come rows : List Row) → AreApart (rows ++ come) → ComeInTurn (collations columns) (map (indexed columns) come) (entries_of_rows columns rows)
      × (with_entries (collations columns) (map (indexed columns) come) (entries_of_rows columns rows) ≡ entries_of_rows columns (rows ++ come))
  rows_come [] rows apart = (tt, ap (entries_of_rows columns) (sym (append-nil rows)))
  rows_come (row ∷ come) rows apart =
      let now = subst AreApart (sym (append_assoc rows (row ∷ []) come)) apart in
      let law = adds_its_entry columns rows [] row (apart_front (rows ++ row ∷ []) come now) in
      let same = ap (entries_of_rows columns) (append-nil rows) in
      let put : with_entry (collations columns) (indexed columns row) (entries_of_rows columns rows) ≡ entries_of_rows columns (rows ++ row ∷ []) = (
      ap (with_entry (collations columns) (indexed columns row)) (sym same) ∙ sym law.1) in
      let more = rows_come come (rows ++ row ∷ []) now in (
        (sym (ap (has_entry (collations columns) (indexed columns row)) same) ∙ law.0, subst (λ (es : List Entry). ComeInTurn (collations columns) (map (indexed columns) come) es) (sym put) more.0),
        ap (with_entries (collations columns) (map (indexed columns) come)) put ∙ more.1 ∙ ap (entries_of_rows columns) (append_assoc rows (row ∷ []) come),
      )

  all_storable : (come : List Row) → AllByRecursion (λ row. AreStorable (indexed columns row)) come → AllByRecursion AreStorable (map (indexed columns) come)
  all_storable [] all = tt
  all_storable (row ∷ come) all = (all.0, all_storable come all.1)

module _ (size root : ℕ) (columns : Columns) where
  pub batch_added : (old new : PageMap) (come : List Row) (entries : List Entry) (under : List Collation) → entries ≡ map (indexed columns) come → under ≡ collations columns → (result : Result ⊤ Fault)
      → PutsCome old new size root under entries result → AddsEntries old new size root columns come result
  batch_added old new come entries under is under_is result puts rows apart used free stands =
      let one = subst (λ (cs : List Collation). PutsCome old new size root cs entries result) under_is puts in
      let all = subst (λ (es : List Entry). PutsCome old new size root (collations columns) es result) is one in
      let law = rows_come columns come rows apart in
      by result law.1 (all (entries_of_rows columns rows) used free stands (rows_long columns come) law.0)
    where
      by : (result : Result ⊤ Fault) → with_entries (collations columns) (map (indexed columns) come) (entries_of_rows columns rows) ≡ entries_of_rows columns (rows ++ come)
          → MatchResult result (λ done. BecomesEntries old new size root (collations columns) (with_entries (collations columns) (map (indexed columns) come) (entries_of_rows columns rows)) used free) (IsPutRefusal (map (indexed columns) come))
          → MatchResult result (λ done. BecomesEntries old new size root (collations columns) (entries_of_rows columns (rows ++ come)) used free) (IsAddRefusal columns come)
      by (Ok done) same becomes = subst (λ (es : List Entry). BecomesEntries old new size root (collations columns) es used free) same becomes
      by (Err f) same (inl outside) = inl outside
      by (Err f) same (inr large) = inr (large.0, λ all. large.1 (all_storable columns come all))

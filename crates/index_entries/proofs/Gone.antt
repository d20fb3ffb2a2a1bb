-- Entries that go some at a time.
use Rattle.std.proofs.Common.{◌≡◌, refl, sym, ap, subst, ◌∙◌, ◌≤◌, ℕ, zero, suc, List, [], ◌∷◌, ◌++◌, length, map, take, drop, arith, Ok, Err}
use Rattle.std.proofs.lemmas.List.{append-nil}
use mathlib.Core.Bool.{true≢false}
use Rattle.std.specs.Prelude.{Result, IsErrAnd, MatchResult, ⊤}
use Rattle.sqlval.specs.declared.collation.Collation.{Collation}
use Rattle.sqlval.specs.declared.fault.Fault.{Fault}
use Rattle.pages.specs.Calls.{IsOutsideOrFull}
use Rattle.pages.specs.Map.{PageMap}
use Rattle.pages.proofs.Moving.{in_sequence}
use Rattle.tree_index.specs.Calls.{BecomesEntries, RemovesRun}
use Rattle.tree_index.specs.Entries.{Entry, AreLong, GoInTurn, without_entries, without_entry}
use Rattle.index_entries.specs.Entries.{AreApart, Columns, Row, collations, entries_of_rows, indexed}
use Rattle.index_entries.specs.Keeping.{TakesEntries, TakesEntry, Turns}
use Rattle.index_entries.specs.Taking.{TakesBatch, TakesGone}
use Rattle.index_entries.proofs.Rows.{takes_its_entry}
use Rattle.index_entries.proofs.Turning.{indexed_long, keeps_all, keeps_then, then_turns, unmoved, without_one}

-- ---- entries

module _ (size root : ℕ) (columns : List Collation) where
  go_parts : (n : ℕ) (gone entries : List Entry) → GoInTurn columns gone entries → GoInTurn columns (drop n gone) (without_entries columns (take n gone) entries)
  go_parts zero gone entries go = go
  go_parts (suc n) [] entries go = tt
  go_parts (suc n) (y ∷ gone) entries go = go_parts n gone (without_entry columns y entries) go.1

  without_parts : (n : ℕ) (gone entries : List Entry) → without_entries columns (drop n gone) (without_entries columns (take n gone) entries) ≡ without_entries columns gone entries
  without_parts zero gone entries = refl
  without_parts (suc n) [] entries = refl
  without_parts (suc n) (y ∷ gone) entries = without_parts n gone (without_entry columns y entries)

  pub long_rest : (n : ℕ) (gone : List Entry) → AreLong columns gone → AreLong columns (drop n gone)
  long_rest zero gone long = long
  long_rest (suc n) [] long = tt
  long_rest (suc n) (y ∷ gone) long = long_rest n gone long.1

  pub gone_none : (pages : PageMap) (gone : List Entry) → length gone ≡ 0 → TakesGone pages pages size root columns gone (Ok tt)
  gone_none pages [] none entries used free stands long go = record { now_used = used; now_free = free; stands = stands; moves = unmoved pages used free; header = keeps_all pages }
  gone_none pages (y ∷ gone) none entries used free stands long go = absurd (omega (arith, none))

  becomes_then : (old mid new : PageMap) (middle entries : List Entry) (used free : List ℕ) (was : BecomesEntries old mid size root columns middle used free) (result : Result ⊤ Fault)
      → MatchResult result (λ done. BecomesEntries mid new size root columns entries was.now_used was.now_free) IsOutsideOrFull
      → MatchResult result (λ done. BecomesEntries old new size root columns entries used free) IsOutsideOrFull
  becomes_then old mid new middle entries used free was (Ok done) now = record {
    now_used = now.now_used;
    now_free = now.now_free;
    stands = now.stands;
    moves = in_sequence old mid new used free was.now_used was.now_free now.now_used now.now_free was.moves now.moves;
    header = keeps_then old mid new was.header now.header;
  }
  becomes_then old mid new middle entries used free was (Err fault) refused = refused

  -- some go, and then the rest
  pub gone_more : (old mid new : PageMap) (gone : List Entry) (count : ℕ) → 1 ≤ count → RemovesRun old mid size root columns gone (Ok count) → (left : List Entry) → left ≡ drop count gone → (result : Result ⊤ Fault)
      → TakesGone mid new size root columns left result → TakesGone old new size root columns gone result
  gone_more old mid new gone zero some removes left left_is result next entries used free stands long go = absurd (omega (arith, some))
  gone_more old mid new gone (suc n) some removes left left_is result next entries used free stands long go =
      let was = (removes entries used free stands long).2 in
      let middle = without_entries columns (take (suc n) gone) entries in
      let rest = subst (λ (es : List Entry). TakesGone mid new size root columns es result) left_is next in
      becomes_then old mid new middle (without_entries columns gone entries) used free was result
      (subst (λ (es : List Entry). MatchResult result (λ done. BecomesEntries mid new size root columns es was.now_used was.now_free) IsOutsideOrFull) (without_parts (suc n) gone entries)
      (rest middle was.now_used was.now_free was.stands (long_rest (suc n) gone long) (go_parts (suc n) gone entries go)))

  -- the first is there
  pub never_missing : (old mid : PageMap) (gone : List Entry) → (length gone ≡ 0 → ⊥) → RemovesRun old mid size root columns gone (Ok 0) → (result : Result ⊤ Fault) → TakesGone old mid size root columns gone result
  never_missing old mid [] some removes result entries used free stands long go = absurd (some refl)
  never_missing old mid (y ∷ gone) some removes result entries used free stands long go = absurd (true≢false (sym go.0 ∙ (removes entries used free stands long).0))

  pub gone_refused : (old new : PageMap) (gone : List Entry) (fault : Fault) → RemovesRun old new size root columns gone (Err fault) → (result : Result ⊤ Fault) → IsErrAnd result (λ e. e ≡ fault)
      → TakesGone old new size root columns gone result
  gone_refused old new gone fault removes (Ok done) same = absurd same
  gone_refused old new gone fault removes (Err e) same = λ entries used free stands long go. subst IsOutsideOrFull (sym same) (removes entries used free stands long)

-- ---- rows

module _ (columns : Columns) where
  pub rows_long : (gone : List Row) → AreLong (collations columns) (map (indexed columns) gone)
  rows_long [] = tt
  rows_long (row ∷ gone) = (indexed_long columns row, rows_long gone)

  -- the entry of each row is there in its turn
  rows_go : (gone before after : List Row) → AreApart (before ++ (gone ++ after))
      → GoInTurn (collations columns) (map (indexed columns) gone) (entries_of_rows columns (before ++ (gone ++ after)))
      × (without_entries (collations columns) (map (indexed columns) gone) (entries_of_rows columns (before ++ (gone ++ after))) ≡ entries_of_rows columns (before ++ after))
  rows_go [] before after apart = (tt, refl)
  rows_go (row ∷ gone) before after apart =
      let law = takes_its_entry columns before (gone ++ after) row apart in
      let more = rows_go gone before after (without_one before row (gone ++ after) apart) in (
        (law.0, subst (λ (es : List Entry). GoInTurn (collations columns) (map (indexed columns) gone) es) (sym law.1) more.0),
        ap (without_entries (collations columns) (map (indexed columns) gone)) law.1 ∙ more.1,
      )

apart_less : (before gone after : List Row) → AreApart (before ++ (gone ++ after)) → AreApart (before ++ after)
apart_less before [] after apart = apart
apart_less before (row ∷ gone) after apart = apart_less before gone after (without_one before row (gone ++ after) apart)

-- the entries of rows, by the rows
pub entries_by_rows : {A : Type 0} (columns : Columns) (row_of : A → Row) (rows : List A) → map (λ row. indexed columns (row_of row)) rows ≡ map (indexed columns) (map row_of rows)
entries_by_rows columns row_of [] = refl
entries_by_rows columns row_of (row ∷ rows) = ap (λ (es : List Entry). indexed columns (row_of row) ∷ es) (entries_by_rows columns row_of rows)

module _ (size root : ℕ) (columns : Columns) where
  pub batch_taken : (old new : PageMap) (gone : List Row) (entries : List Entry) (under : List Collation) → entries ≡ map (indexed columns) gone → under ≡ collations columns → (result : Result ⊤ Fault)
      → TakesGone old new size root under entries result → TakesBatch old new size root columns gone result
  batch_taken old new gone entries under is under_is result takes before after apart used free stands =
      let one = subst (λ (cs : List Collation). TakesGone old new size root cs entries result) under_is takes in
      let all = subst (λ (es : List Entry). TakesGone old new size root (collations columns) es result) is one in
      let law = rows_go columns gone before after apart in
      subst (λ (es : List Entry). MatchResult result (λ done. BecomesEntries old new size root (collations columns) es used free) IsOutsideOrFull) law.1
      (all (entries_of_rows columns (before ++ (gone ++ after))) used free stands (rows_long columns gone) law.0)

  pub then_rest : (old mid new : PageMap) (batch rest : List Row) (result : Result ⊤ Fault) → TakesBatch old mid size root columns batch (Ok tt) → TakesEntries mid new size root columns rest result
      → TakesEntries old new size root columns (batch ++ rest) result
  then_rest old mid new batch rest result first next rows apart =
      then_turns old mid new size root columns (rows ++ (batch ++ rest)) (rows ++ rest) rows IsOutsideOrFull IsOutsideOrFull result (first rows rest apart) (next rows (apart_less rows batch rest apart))

  pub batch_stops : (old new : PageMap) (batch rest : List Row) (fault : Fault) (result : Result ⊤ Fault) → IsErrAnd result (λ e. e ≡ fault) → TakesBatch old new size root columns batch (Err fault)
      → TakesEntries old new size root columns (batch ++ rest) result
  batch_stops old new batch rest fault (Ok done) same first = absurd same
  batch_stops old new batch rest fault (Err e) same first = λ rows apart used free stands. subst IsOutsideOrFull (sym same) (first rows rest apart used free stands)

  -- one row goes as the last of the others
  pub takes_one : (old new : PageMap) (row : Row) (result : Result ⊤ Fault) → TakesEntry old new size root columns row result → TakesEntries old new size root columns (row ∷ []) result
  takes_one old new row result takes = λ rows apart.
      subst (λ (rest : List Row). Turns old new size root columns (rows ++ row ∷ []) rest IsOutsideOrFull result) (append-nil rows) (takes rows [] apart)

-- ---- rows in two parts

parted : {A : Type 0} (row_of : A → Row) (n : ℕ) (left : List A) → map row_of left ≡ map row_of (take n left) ++ map row_of (drop n left)
parted row_of zero left = refl
parted row_of (suc n) [] = refl
parted row_of (suc n) (row ∷ left) = ap (λ (rs : List Row). row_of row ∷ rs) (parted row_of n left)

pub rows_parted : {A : Type 0} (row_of : A → Row) (n : ℕ) (left batch rest : List A) → batch ≡ take n left → rest ≡ drop n left → map row_of left ≡ map row_of batch ++ map row_of rest
rows_parted {A} row_of n left batch rest front back =
    parted row_of n left ∙ ap (λ (rs : List A). map row_of rs ++ map row_of (drop n left)) (sym front) ∙ ap (λ (rs : List A). map row_of batch ++ map row_of rs) (sym back)

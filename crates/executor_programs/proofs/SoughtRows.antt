-- The rows that a search finds beside NEW and OLD: the condition chooses of them what it chooses of all.
use Rattle.std.proofs.Common.{◌≡◌, ◌∙◌, inl, refl, sym, ap, Bool, true, false, List, [], ◌∷◌, ◌++◌, length, map, Option, Some, None, Result, Ok, Err, slice_get, cond}
use Rattle.std.specs.Prelude.{MatchResult, filter, flat_map, if◌then◌else◌, unwrap_or}
use Rattle.sqlval.specs.Faults.{IsOutside}
use Rattle.sqlval.specs.Refusals.{Answer, ◌then◌, all_answers}
use Rattle.sqlval.specs.declared.fault.Fault.{Fault}
use Rattle.catalog.specs.Database.{Database, Name}
use Rattle.catalog.specs.declared.tables.Table.{Table}
use Rattle.query_names.specs.Calm.{is_calm}
use Rattle.query_names.specs.Laws.{CalmIsNotRefused}
use Rattle.query_names.specs.Readings.{env_of, holds}
use Rattle.query_names.specs.Views.{all_rows}
use Rattle.query_plan.specs.Searching.{IsUntrue, OtherRowsFail, is_found}
use Rattle.query_plan.specs.declared.searching.Search.{Search}
use Rattle.query_terms.specs.Terms.{Term}
use Rattle.query_terms.specs.Values.{Row, truth}
use Rattle.row_scan.specs.Trees.{AnswersOrFails}
use Rattle.row_change.specs.Changes.{Outer}
use Rattle.executor.specs.Rows.{AreSought}
use Rattle.executor_programs.specs.Choosing.{row_chosen, rows_chosen}
use Rattle.executor_programs.specs.Seeking.{AreEnoughBeside, FollowsBeside, SeeksBeside}

-- ---- rows that aren't chosen may be left out

module _ (beside : List Row) (c : Option Term) where
  -- one row's part, and the other rows'
  chosen_first : (r : Row) (rows : List Row) → rows_chosen beside c (r ∷ rows) ≡ (row_chosen beside c r then λ found. rows_chosen beside c rows then λ others. Ok (found ++ others))
  chosen_first r rows = by (row_chosen beside c r) (all_answers (map (row_chosen beside c) rows))
    where
      by : (one : Answer (List Row)) (rest : Answer (List (List Row)))
          → ((one then λ x. rest then λ xs. Ok (x ∷ xs)) then λ found. Ok (flat_map (λ r. r) found))
          ≡ (one then λ found. (rest then λ found. Ok (flat_map (λ r. r) found)) then λ others. Ok (found ++ others))
      by (Err e) rest = refl
      by (Ok x) (Err e) = refl
      by (Ok x) (Ok xs) = refl

  left_out : (others : Answer (List Row)) → (others then λ rows. Ok ([] ++ rows)) ≡ others
  left_out (Err e) = refl
  left_out (Ok rows) = refl

  enough : (is_needed : Row → Bool) → ((r : Row) → is_needed r ≡ false → row_chosen beside c r ≡ Ok []) → (rows : List Row) → rows_chosen beside c (filter is_needed rows) ≡ rows_chosen beside c rows
  enough is_needed none [] = refl
  enough is_needed none (r ∷ rows) = by (is_needed r) refl (enough is_needed none rows)
    where
      by : (b : Bool) → is_needed r ≡ b → rows_chosen beside c (filter is_needed rows) ≡ rows_chosen beside c rows
          → rows_chosen beside c (cond (is_needed r) (r ∷ filter is_needed rows) (filter is_needed rows)) ≡ rows_chosen beside c (r ∷ rows)
      by true e same =
          ap (λ b. rows_chosen beside c (cond b (r ∷ filter is_needed rows) (filter is_needed rows))) e
          ∙ (chosen_first r (filter is_needed rows)
          ∙ (ap (λ rest. row_chosen beside c r then λ found. rest then λ others. Ok (found ++ others)) same ∙ sym (chosen_first r rows)))
      by false e same =
          ap (λ b. rows_chosen beside c (cond b (r ∷ filter is_needed rows) (filter is_needed rows))) e
          ∙ (same
          ∙ (sym (left_out (rows_chosen beside c rows))
          ∙ (ap (λ one. one then λ found. rows_chosen beside c rows then λ others. Ok (found ++ others)) (sym (none r e)) ∙ sym (chosen_first r rows))))

-- ---- a row of which what is asked isn't true

last_row : (beside : List Row) (r : Row) → slice_get (beside ++ r ∷ []) (length beside) ≡ Some r
last_row [] r = refl
last_row (b ∷ beside) r = last_row beside r

not_true : (answer : Answer (Option Bool)) → IsUntrue answer → answer ≡ Ok (Some true) → ⊥
not_true answer h is = by h.0 h.1 h.2
  where
    by : (test : Option Bool) → answer ≡ Ok test → unwrap_or test false ≡ false → ⊥
    by (Some true) e f = absurd cc
    by (Some false) e f = absurd cc
    by None e f = absurd cc

module _ (calm : CalmIsNotRefused) (beside : List Row) (condition asked : Term) (is : is_calm condition ≡ true) (follows : FollowsBeside beside condition asked) (r : Row) where
  unchosen : IsUntrue (holds asked (beside ++ r ∷ [])) → row_chosen beside (Some condition) r ≡ Ok []
  unchosen untrue =
      (let has = calm condition is (env_of (beside ++ r ∷ [])) in
      by has.2 (ap (λ a. a then truth) has.1 ∙ has.3))
    where
      by : (test : Option Bool) → holds condition (beside ++ r ∷ []) ≡ Ok test → row_chosen beside (Some condition) r ≡ Ok []
      by None e = ap (λ a. (a then λ test. Ok (unwrap_or test false)) then λ test. Ok (if test then r ∷ [] else [])) e
      by (Some false) e = ap (λ a. (a then λ test. Ok (unwrap_or test false)) then λ test. Ok (if test then r ∷ [] else [])) e
      by (Some true) e = absurd (not_true (holds asked (beside ++ r ∷ [])) untrue (follows r e))

-- ---- the rows of a call

module _ (db : Database) (seen : Outer) (name : Name) where
  -- those that a search finds
  pub sought_enough : OtherRowsFail → CalmIsNotRefused → (table : Table) (condition : Term) (search : Search) (result : Result (List Row) Fault) → SeeksBeside table.indexes seen.rows condition search
      → MatchResult result (λ found. AreSought db name table search found) IsOutside → AreEnoughBeside db seen name (Some condition) result
  sought_enough fail calm table condition search (Err f) seeks outside = inl outside
  sought_enough fail calm table condition search (Ok found) seeks sought =
      ap (rows_chosen seen.rows (Some condition)) sought.are
      ∙ (enough seen.rows (Some condition) (is_found table.indexes search)
      (λ r not_found.
      unchosen calm seen.rows condition seeks.asked seeks.calm seeks.follows r
      (fail table.indexes (length seen.rows) seeks.asked search seeks.sought (seen.rows ++ r ∷ []) r (last_row seen.rows r) not_found))
      sought.all
      ∙ sym (ap (λ (all : Answer (List Row)). all then rows_chosen seen.rows (Some condition)) sought.read))

  -- all of them
  pub all_enough : (condition : Option Term) (result : Result (List Row) Fault) → AnswersOrFails (λ (rows : List Row). rows) (all_rows db name) result → AreEnoughBeside db seen name condition result
  all_enough condition (Err f) refused = refused
  all_enough condition (Ok rows) read = sym (ap (λ (all : Answer (List Row)). all then rows_chosen seen.rows condition) read)

-- What a query gives of each group of which tallies are kept.
use Rattle.std.proofs.Common.{◌≡◌, refl, sym, ap, subst, ◌∙◌, List, [], ◌∷◌, ◌++◌, length, map, Ok, Err, Vec, Global, arith}
use Rattle.std.specs.List.{AllByRecursion}
use Rattle.std.proofs.lemmas.List.{map-append, append-nil}
use Rattle.sqlval.specs.Refusals.{Answer, ◌then◌, all_answers}
use Rattle.sqlval.specs.declared.fault.Fault.{Fault}
use Rattle.sqlval.specs.declared.value.Value.{Value}
use Rattle.query_terms.specs.Outcome.{IsRefusedBy}
use Rattle.query_terms.specs.Terms.{Term}
use Rattle.query_terms.proofs.InOrder.{left, one_on, refuses_on}
use Rattle.query_names.specs.Readings.{Sortable}
use Rattle.query_totals.specs.Totals.{AreTaken, tallies_over}
use Rattle.query_totals.specs.declared.tally.Tally.{Tally}
use Rattle.query_groups.specs.Groups.{kept_of_group, keys_of_group, listed, rows_of_group}
use Rattle.query_answer.specs.Groups.{Keyed, row_of_group}
use Rattle.query_answer.specs.Nesting.{shown}
use Rattle.query_answer.specs.declared.results.FoundRow.{FoundRow}

abbrev Listed : Type 0
Listed = List Value × List Tally

abbrev first_or : Listed → List Listed → Listed
first_or d [] = d
first_or d (x ∷ xs) = x

abbrev later_ones : List Listed → List Listed
later_ones [] = []
later_ones (x ∷ xs) = xs

module _ (ts : List Term) where
  abbrev IsTaken : List Keyed → Type 0
  IsTaken group = AllByRecursion (AreTaken ts) (rows_of_group group)

  -- what is kept of a group is this
  abbrev IsKept : List Value → Vec Tally Global → List Keyed → Type 0
  IsKept keys tallies group = (keys ≡ keys_of_group group) × (tallies.items ≡ tallies_over (rows_of_group group) ts)

  abbrev row_of : List Keyed → Answer Sortable
  row_of group = row_of_group ts group

  -- before the first
  pub groups_begin : (found : List (List Keyed)) (rows : List FoundRow) → rows ≡ [] → left row_of found (map shown rows) ≡ all_answers (map row_of found)
  groups_begin found rows none = ap (λ (l : List FoundRow). left row_of found (map shown l)) none ∙ by (all_answers (map row_of found))
    where
      by : (a : Answer (List Sortable)) → (a then λ xs. let l : Answer (List Sortable) = Ok ([] ++ xs) in l) ≡ a
      by (Ok xs) = refl
      by (Err r) = refl

  module _ (rest : List (List Value × Vec Tally Global)) (keys : List Value) (tallies : Vec Tally Global) (rows : List FoundRow) (total : Answer (List Sortable)) where
    first_is : (group : List Keyed) (later : List (List Keyed)) → listed ((keys, tallies) ∷ rest) ≡ map (kept_of_group ts) (group ∷ later) → IsKept keys tallies group × (listed rest ≡ map (kept_of_group ts) later)
    first_is group later e = (let d : Listed = ([], []) in ((ap (λ l. (first_or d l).0) e, ap (λ l. (first_or d l).1) e), ap later_ones e))

    -- one more is given
    more_given : (now : List (List Keyed)) (new : List FoundRow) (y : FoundRow) → AllByRecursion IsTaken now → listed ((keys, tallies) ∷ rest) ≡ map (kept_of_group ts) now → left row_of now (map shown rows) ≡ total
        → ((group : List Keyed) → IsTaken group → keys ≡ keys_of_group group → tallies.items ≡ tallies_over (rows_of_group group) ts → row_of group ≡ Ok (shown y)) → new ≡ rows ++ y ∷ []
        → (x : List (List Keyed)) × AllByRecursion IsTaken x × (listed rest ≡ map (kept_of_group ts) x) × (left row_of x (map shown new) ≡ total)
    more_given [] new y taken e so_far gives is = absurd cc
    more_given (group ∷ later) new y taken e so_far gives is =
        (let kept = first_is group later e in (
          later,
          taken.1,
          kept.1,
          ap (λ (l : List FoundRow). left row_of later (map shown l)) is
              ∙ (ap (left row_of later) (map-append shown rows (y ∷ []))
              ∙ (sym (one_on row_of group later (map shown rows) (shown y) (gives group taken.0 kept.0.0 kept.0.1)) ∙ so_far)),
        ))

    -- one is refused, and so are all
    one_refused : (now : List (List Keyed)) (fault : Fault) → AllByRecursion IsTaken now → listed ((keys, tallies) ∷ rest) ≡ map (kept_of_group ts) now → left row_of now (map shown rows) ≡ total
        → ((group : List Keyed) → IsTaken group → keys ≡ keys_of_group group → tallies.items ≡ tallies_over (rows_of_group group) ts → IsRefusedBy (row_of group) fault) → IsRefusedBy total fault
    one_refused [] fault taken e so_far refuses = absurd cc
    one_refused (group ∷ later) fault taken e so_far refuses =
        (let kept = first_is group later e in
        subst (λ (a : Answer (List Sortable)). IsRefusedBy a fault) so_far
        (refuses_on fault (all_answers (map row_of (group ∷ later))) (λ xs. let l : Answer (List Sortable) = Ok (map shown rows ++ xs) in l)
        (refuses_on fault (row_of group) (λ y. all_answers (map row_of later) then λ ys. let l : Answer (List Sortable) = Ok (y ∷ ys) in l) (refuses group taken.0 kept.0.0 kept.0.1))))

    module _ (items : List (List Value × Vec Tally Global)) (begun : items ≡ (keys, tallies) ∷ rest) where
      pub groups_go_on : (now : List (List Keyed)) (new : List FoundRow) (y : FoundRow) → AllByRecursion IsTaken now → listed items ≡ map (kept_of_group ts) now → left row_of now (map shown rows) ≡ total
          → ((group : List Keyed) → IsTaken group → keys ≡ keys_of_group group → tallies.items ≡ tallies_over (rows_of_group group) ts → row_of group ≡ Ok (shown y)) → new ≡ rows ++ y ∷ []
          → (x : List (List Keyed)) × AllByRecursion IsTaken x × (listed rest ≡ map (kept_of_group ts) x) × (left row_of x (map shown new) ≡ total)
      groups_go_on now new y taken e so_far gives is = more_given now new y taken (sym (ap listed begun) ∙ e) so_far gives is

      pub groups_stop : (now : List (List Keyed)) (fault : Fault) → AllByRecursion IsTaken now → listed items ≡ map (kept_of_group ts) now → left row_of now (map shown rows) ≡ total
          → ((group : List Keyed) → IsTaken group → keys ≡ keys_of_group group → tallies.items ≡ tallies_over (rows_of_group group) ts → IsRefusedBy (row_of group) fault) → IsRefusedBy total fault
      groups_stop now fault taken e so_far refuses = one_refused now fault taken (sym (ap listed begun) ∙ e) so_far refuses

  -- none is left
  pub groups_done : (items : List (List Value × Vec Tally Global)) (now : List (List Keyed)) (rows : List FoundRow) (total : Answer (List Sortable)) → length items ≡ 0 → listed items ≡ map (kept_of_group ts) now
      → left row_of now (map shown rows) ≡ total → total ≡ Ok (map shown rows)
  groups_done (i ∷ items) now rows total none e so_far = absurd (omega (arith, none))
  groups_done [] now rows total none e so_far = sym so_far ∙ by now e
    where
      by : (now : List (List Keyed)) → listed [] ≡ map (kept_of_group ts) now → left row_of now (map shown rows) ≡ Ok (map shown rows)
      by [] h = (let done : List Sortable → Answer (List Sortable) = λ l. Ok l in ap done (append-nil (map shown rows)))
      by (group ∷ later) h = absurd cc

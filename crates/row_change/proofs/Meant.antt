-- The rows that a statement means are those that its condition chooses.
use Rattle.std.proofs.Common.{◌≡◌, inl, inr, refl, sym, ap, subst, ◌∙◌, ◌<◌, ◌≤◌, ◌+◌, ℕ, List, [], ◌∷◌, ◌++◌, length, map, take, slice_index_or, Option, Result, Ok, Err}
use Rattle.std.specs.Prelude.{IfErr, IfOk, IsErrAnd}
use Rattle.std.specs.Global.{Vec}
use Rattle.std.proofs.lemmas.List.{map_more, take_all}
use Rattle.sqlval.specs.Refusals.{Answer, ◌then◌}
use Rattle.sqlval.specs.declared.fault.Fault.{Fault}
use Rattle.sqlval.specs.declared.fault.Fault.TheVariants.{Memory}
use Rattle.catalog.specs.Rows.{as_row}
use Rattle.catalog.specs.declared.tables.TableRow as stored
use Rattle.query_terms.specs.Outcome.{AnswersBy, IsRefusedBy}
use Rattle.query_terms.specs.Rows.{row_at}
use Rattle.query_terms.specs.Terms.{Term}
use Rattle.query_terms.specs.Values.{Row}
use Rattle.row_scan.specs.Rows.{TableRow}
use Rattle.row_scan.specs.Sources.{as_source}
use Rattle.row_change.specs.Choosing.{chosen_or_all}
use Rattle.row_change.specs.Meaning.{AreEnough}
use Rattle.row_change.specs.NewRows.{row_of}
use Rattle.row_change.specs.Setting.{rows_meant}
use Rattle.row_change.proofs.SetRows.{map_twice}
use Rattle.row_change.proofs.SetTrees.{as_sources, meant_as_chosen}

abbrev as_table : List Row → Answer (List TableRow)
as_table them = Ok (map as_row them)

-- ---- the calls

-- those up to the next place
pub one_further : (h : ℕ → TableRow) (places : List ℕ) (i : ℕ) → i < length places → map h (take i places) ++ h (slice_index_or places i 0) ∷ [] ≡ map h (take (i + 1) places)
one_further h places i lt = sym (map_more h places i 0 lt)

pub up_to_end : (h : ℕ → TableRow) (places : List ℕ) (i : ℕ) → length places ≤ i → map h (take i places) ≡ map h places
up_to_end h places i le = ap (map h) (take_all i places le)

-- copies of the rows at places
pub copied : (a : Answer (List TableRow)) (rows : List Row) (places seen : List ℕ) (result : Result (Vec stored.TableRow) Fault) → a ≡ Ok (map (λ place. as_row (row_at rows place)) places) → seen ≡ places
    → IfOk result (λ them. map row_of them.items ≡ map (λ place. as_row (row_at rows place)) seen) → IfErr result (λ fault. fault ≡ Memory) → AnswersBy (λ them. map row_of them.items) a result
copied a rows places seen (Ok them) is same copies refused = is ∙ ap (λ (rs : List TableRow). Ok rs) (sym (copies ∙ ap (map (λ place. as_row (row_at rows place))) same))
copied a rows places seen (Err fault) is same copies refused = inl refused

pub not_copied : {X : Type 0} (view : X → List TableRow) (a : Answer (List TableRow)) (result : Result X Fault) (f : Fault) → IsErrAnd result (λ e. e ≡ f) → IsRefusedBy a f → AnswersBy view a result
not_copied view a (Ok x) f same why = absurd same
not_copied view a (Err e) f same why = subst (λ (g : Fault). IsRefusedBy a g) (sym same) why

-- ---- as the definition means

back : (rows : List TableRow) → map as_row (map as_source rows) ≡ rows
back [] = refl
back (row ∷ rows) = ap (λ (rs : List TableRow). row ∷ rs) (back rows)

as_meant : (c : Option Term) (rows : List TableRow) → (rows_meant c [] (map as_source rows) then as_table) ≡ chosen_or_all c rows
as_meant c rows = ap (λ (a : Answer (List Row)). a then as_table) (meant_as_chosen c rows) ∙ by (chosen_or_all c rows)
  where
    by : (a : Answer (List TableRow)) → ((a then as_sources) then as_table) ≡ a
    by (Ok them) = ap (λ (rs : List TableRow). Ok rs) (back them)
    by (Err r) = refl

-- the places of rows that are enough
pub places_chosen : (c : Option Term) (found : List Row) (all : List TableRow) (result : Result (Vec ℕ) Fault) → AreEnough c found all → AnswersBy (λ places. map (row_at found) places.items) (rows_meant c [] found) result
    → AnswersBy (λ places. map (λ place. as_row (row_at found place)) places.items) (chosen_or_all c all) result
places_chosen c found all result enough answers = by result answers
  where
    same : (rows_meant c [] found then as_table) ≡ chosen_or_all c all
    same = ap (λ (them : List Row). rows_meant c [] them then as_table) enough.are ∙ (as_meant c enough.some ∙ enough.same)

    by : (r : Result (Vec ℕ) Fault) → AnswersBy (λ places. map (row_at found) places.items) (rows_meant c [] found) r → AnswersBy (λ places. map (λ place. as_row (row_at found place)) places.items) (chosen_or_all c all) r
    by (Ok places) is = sym same ∙ (ap (λ (a : Answer (List Row)). a then as_table) is ∙ ap (λ (rs : List TableRow). Ok rs) (sym (map_twice as_row (row_at found) places.items)))
    by (Err fault) (inl memory) = inl memory
    by (Err fault) (inr why) = inr (sym same ∙ ap (λ (a : Answer (List Row)). a then as_table) why)

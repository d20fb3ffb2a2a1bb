-- Rows that are to be grouped have a value for each key.
use Rattle.std.proofs.Common.{◌≡◌, refl, sym, ap, subst, ◌∙◌, Bool, true, false, List, [], ◌∷◌, ◌++◌, length, map, Option, Ok, Err}
use Rattle.std.specs.Prelude.{if◌then◌else◌}
use Rattle.std.specs.List.{AllByRecursion}
use Rattle.std.proofs.lemmas.Bool.{false≢true}
use Rattle.sqlval.specs.Flow.{Finished, followed_by, collected, row_of}
use Rattle.sqlval.specs.Refusals.{Answer, ◌then◌}
use Rattle.query_terms.specs.Terms.{Term}
use Rattle.query_terms.specs.Values.{Row}
use Rattle.query_filter.specs.Passing.{passing}
use Rattle.query_names.specs.Readings.{Sortable, env_of, filtered, combined, keyed_row, sortable}
use Rattle.query_names.specs.declared.reading.Condition.{Condition}
use Rattle.query_names.specs.declared.reading.Reading.{Reading}
use Rattle.query_groups.specs.Groups.{AreAsLong}
use Rattle.query_answer.specs.Groups.{Keyed}
use Rattle.query_answer.specs.Nesting.{Found, all_kept, at_leaf, filtered_by, given, grouped_row, joins_by, kept_if, kept_row, key_and_rows, onto, stepped, to_group}
use Rattle.query_answer.specs.Parts.{HasKeys, HaveKeys, of_row}
use Rattle.query_answer.proofs.Given.{Has, all_computed, keyed}

pub as_long : (q : Reading) → q.is_grouped ≡ true → (found : List Found) → HaveKeys q found → AreAsLong q.keys (map key_and_rows found)
as_long q g [] h = tt
as_long q g (f ∷ fs) h = (h.0 g, as_long q g fs h.1)

both_long : {A : Type 0} (P : A → Type 0) (xs ys : List A) → AllByRecursion P xs → AllByRecursion P ys → AllByRecursion P (xs ++ ys)
both_long P [] ys h k = k
both_long P (x ∷ xs) ys h k = (h.0, both_long P xs ys h.1 k)

module _ (q : Reading) where
  abbrev kept_by : List Row → Bool → Answer Found
  kept_by rows b = if b then grouped_row q rows else (sortable q (env_of rows) then λ s. Ok (given s))

  long_row : (rows : List Row) → Has (HasKeys q) (kept_row q rows)
  long_row rows = by q.is_grouped refl
    where
      with_keys : (a : Answer Keyed) → Has (λ k. length k.0 ≡ length q.keys) a → Has (HasKeys q) (a then λ k. Ok (to_group k))
      with_keys (Ok k) h = λ g. h
      with_keys (Err r) h = tt

      ungrouped : q.is_grouped ≡ false → (a : Answer Sortable) → Has (HasKeys q) (a then λ s. Ok (given s))
      ungrouped e (Ok s) = λ g. absurd (false≢true (sym e ∙ g))
      ungrouped e (Err r) = tt

      by : (b : Bool) → q.is_grouped ≡ b → Has (HasKeys q) (kept_row q rows)
      by true e = subst (Has (HasKeys q)) (sym (ap (kept_by rows) e)) (with_keys (keyed_row q rows) (keyed q rows))
      by false e = subst (Has (HasKeys q)) (sym (ap (kept_by rows) e)) (ungrouped e (sortable q (env_of rows)))

  -- what is kept of all combinations
  pub all_long : (sources : List (Condition × List Row)) (found : List Found) → all_kept q sources ≡ Ok found → HaveKeys q found
  all_long sources found e = subst (Has (HaveKeys q)) e (all_computed (HasKeys q) (kept_row q) long_row (filtered q.filter (combined sources [])))

  -- what is kept of one row more, where WHERE is this
  module _ (f : Option Term) (c : Condition) (rows : List Row) where
    one_long : (k : Answer Found) → Has (HasKeys q) k → Has (HaveKeys q) (collected (followed_by (row_of k) Finished))
    one_long (Ok k) h = (h, tt)
    one_long (Err r) h = tt

    leaf_long : (passes : Answer Bool) → Has (HaveKeys q) (collected (followed_by (kept_if (filtered_by f q) rows passes) Finished))
    leaf_long (Ok true) = one_long (kept_row (filtered_by f q) rows) (long_row rows)
    leaf_long (Ok false) = tt
    leaf_long (Err r) = tt

    step_long : (joins : Answer Bool) → Has (HaveKeys q) (collected (stepped joins (at_leaf (filtered_by f q) rows) (λ joins. Finished)))
    step_long (Ok true) = leaf_long (passing f (env_of rows))
    step_long (Ok false) = tt
    step_long (Err r) = tt

    pub stay_long : (xs ys : List Found) → onto xs (of_row (filtered_by f q) c rows) ≡ Ok ys → HaveKeys q xs → HaveKeys q ys
    stay_long xs ys e long = subst (Has (HaveKeys q)) e (by (collected (of_row (filtered_by f q) c rows)) (step_long (joins_by c rows)))
      where
        by : (a : Answer (List Found)) → Has (HaveKeys q) a → Has (HaveKeys q) (a then λ zs. let l : Answer (List Found) = Ok (xs ++ zs) in l)
        by (Ok zs) h = both_long (HasKeys q) xs zs long h
        by (Err r) h = tt

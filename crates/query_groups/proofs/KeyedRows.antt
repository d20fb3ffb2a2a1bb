-- What a query of groups keeps of a row and gives of a group, where its results and what it is sorted by are keys and aggregates.
use Rattle.std.proofs.Common.{◌≡◌, ℕ, refl, sym, ap, ◌∙◌, true, suc, List, [], ◌∷◌, ◌++◌, length, map, take, drop, Ok, Err}
use Rattle.std.specs.List.{list_all}
use Rattle.std.specs.Prelude.{flat_map}
use Rattle.std.proofs.lemmas.Bool.{false≢true}
use Rattle.sqlval.specs.Refusals.{Answer, ◌then◌, all_answers}
use Rattle.sqlval.specs.declared.value.Value.{Value}
use Rattle.sqlval.specs.declared.value.Value.TheVariants.{Null}
use Rattle.query_terms.specs.Terms.{Term, Const, Digits, Cell, Key, Apply, Total, One, Two, Collate, In, Between, Raise}
use Rattle.query_terms.specs.Values.{Environment, Row, counted, value}
use Rattle.query_terms.specs.declared.tree.Aggregate.TheVariants.{CountAll, Count, Sum, Min, Max}
use Rattle.query_names.specs.Readings.{Sortable, arguments, env_of, keyed_row, sortable, values}
use Rattle.query_names.specs.declared.reading.Reading.{Reading}
use Rattle.query_totals.specs.Totals.{argument_at, arguments_at}
use Rattle.query_groups.specs.Groups.{Keyed, is_of_group}

-- the results, and what the rows are sorted by
abbrev pub all_of : Reading → List Term
all_of q = q.results ++ map (λ o. o.0) q.order

-- ---- what a row is refused for

abbrev checked_at : List Term → List Row → Answer (List Value)
checked_at ts rows = all_answers (map (λ a. value a.1 (env_of rows) then counted a.0) (flat_map arguments ts))

abbrev one_more : Answer Value → Answer (List Value) → Answer (List Value)
one_more x a = x then λ v. a then λ vs. Ok (v ∷ vs)

module _ {B : Type 0} (k : Answer B) where
  abbrev or_refused : Answer (List Value) → Answer B
  or_refused a = a then λ vs. k

  none_more : (v : Value) (a : Answer (List Value)) → or_refused (one_more (Ok v) a) ≡ or_refused a
  none_more v (Ok vs) = refl
  none_more v (Err r) = refl

  each_more : (x : Answer Value) (a b : Answer (List Value)) → or_refused a ≡ or_refused b → or_refused (one_more x a) ≡ or_refused (one_more x b)
  each_more (Err r) a b h = refl
  each_more (Ok v) a b h = none_more v a ∙ (h ∙ sym (none_more v b))

  same_arguments : (ts : List Term) (rows : List Row) → list_all is_of_group ts ≡ true → or_refused (checked_at ts rows) ≡ or_refused (arguments_at ts rows)
  same_arguments [] rows all = refl
  same_arguments (Total CountAll e ∷ ts) rows all = same_arguments ts rows all ∙ sym (none_more Null (arguments_at ts rows))
  same_arguments (Total Count e ∷ ts) rows all = each_more (argument_at (Total Count e) rows) (checked_at ts rows) (arguments_at ts rows) (same_arguments ts rows all)
  same_arguments (Total Sum e ∷ ts) rows all = each_more (argument_at (Total Sum e) rows) (checked_at ts rows) (arguments_at ts rows) (same_arguments ts rows all)
  same_arguments (Total Min e ∷ ts) rows all = each_more (argument_at (Total Min e) rows) (checked_at ts rows) (arguments_at ts rows) (same_arguments ts rows all)
  same_arguments (Total Max e ∷ ts) rows all = each_more (argument_at (Total Max e) rows) (checked_at ts rows) (arguments_at ts rows) (same_arguments ts rows all)
  same_arguments (Key i e ∷ ts) rows all = same_arguments ts rows all ∙ sym (none_more Null (arguments_at ts rows))
  same_arguments (Const v ∷ ts) rows all = absurd (false≢true all)
  same_arguments (Digits n ∷ ts) rows all = absurd (false≢true all)
  same_arguments (Cell s p a c ∷ ts) rows all = absurd (false≢true all)
  same_arguments (Apply f es ∷ ts) rows all = absurd (false≢true all)
  same_arguments (One o e ∷ ts) rows all = absurd (false≢true all)
  same_arguments (Two o a b ∷ ts) rows all = absurd (false≢true all)
  same_arguments (Collate c e ∷ ts) rows all = absurd (false≢true all)
  same_arguments (In n a bs ∷ ts) rows all = absurd (false≢true all)
  same_arguments (Between n a b c ∷ ts) rows all = absurd (false≢true all)
  same_arguments (Raise a t ∷ ts) rows all = absurd (false≢true all)

-- a row with its keys is refused where a key is, or an argument as `arguments_at` has them
pub keyed_row_is : (q : Reading) (rows : List Row) → list_all is_of_group (all_of q) ≡ true
    → keyed_row q rows ≡ (values (env_of rows) q.keys then λ ks. arguments_at (all_of q) rows then λ vs. let k : Answer Keyed = Ok (ks, rows) in k)
keyed_row_is q rows all = by (values (env_of rows) q.keys)
  where
    by : (a : Answer (List Value)) → (a then λ ks. checked_at (all_of q) rows then λ vs. let k : Answer Keyed = Ok (ks, rows) in k) ≡ (a then λ ks. arguments_at (all_of q) rows then λ vs. let k : Answer Keyed = Ok (ks, rows) in k)
    by (Ok ks) = same_arguments (let k : Answer Keyed = Ok (ks, rows) in k) (all_of q) rows all
    by (Err r) = refl

-- ---- what is given of a group

abbrev onto : Value → Answer Sortable → Answer Sortable
onto v a = a then λ s. Ok (v ∷ s.0, s.1)

-- the results and the sort keys are the values of all
pub sortable_is : (q : Reading) (env : Environment) → sortable q env ≡ (values env (all_of q) then λ vs. let s : Answer Sortable = Ok (take (length q.results) vs, drop (length q.results) vs) in s)
sortable_is q env = by q.results
  where
    sort_by : List Term
    sort_by = map (λ o. o.0) q.order

    whole : (front : List Term) → Answer Sortable
    whole front = values env front then λ vs. values env sort_by then λ ks. Ok (vs, ks)

    in_parts : (front : List Term) → Answer Sortable
    in_parts front = values env (front ++ sort_by) then λ vs. Ok (take (length front) vs, drop (length front) vs)

    first_whole : (v : Value) (a b : Answer (List Value)) → ((a then λ xs. let l : Answer (List Value) = Ok (v ∷ xs) in l) then λ vs. b then λ ks. let s : Answer Sortable = Ok (vs, ks) in s) ≡ onto v (a then λ vs. b then λ ks. Ok (vs, ks))
    first_whole v (Ok vs) (Ok ks) = refl
    first_whole v (Ok vs) (Err r) = refl
    first_whole v (Err r) b = refl

    first_parts : (n : ℕ) (v : Value) (a : Answer (List Value)) → ((a then λ xs. let l : Answer (List Value) = Ok (v ∷ xs) in l) then λ vs. let s : Answer Sortable = Ok (take (suc n) vs, drop (suc n) vs) in s) ≡ onto v (a then λ vs. Ok (take n vs, drop n vs))
    first_parts n v (Ok vs) = refl
    first_parts n v (Err r) = refl

    step : (t : Term) (front : List Term) (a : Answer Value) → whole front ≡ in_parts front
        → ((a then λ x. values env front then λ xs. let l : Answer (List Value) = Ok (x ∷ xs) in l) then λ vs. values env sort_by then λ ks. let s : Answer Sortable = Ok (vs, ks) in s)
        ≡ ((a then λ x. values env (front ++ sort_by) then λ xs. let l : Answer (List Value) = Ok (x ∷ xs) in l) then λ vs. let s : Answer Sortable = Ok (take (suc (length front)) vs, drop (suc (length front)) vs) in s)
    step t front (Ok v) h = first_whole v (values env front) (values env sort_by) ∙ (ap (onto v) h ∙ sym (first_parts (length front) v (values env (front ++ sort_by))))
    step t front (Err r) h = refl

    none : (a : Answer (List Value)) → (a then λ ks. let s : Answer Sortable = Ok ([], ks) in s) ≡ (a then λ vs. let s : Answer Sortable = Ok (take 0 vs, drop 0 vs) in s)
    none (Ok vs) = refl
    none (Err r) = refl

    by : (front : List Term) → whole front ≡ in_parts front
    by [] = none (values env sort_by)
    by (t ∷ ts) = step t ts (value t env) (by ts)

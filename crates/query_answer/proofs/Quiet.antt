-- No query is refused for a disk.
use Rattle.std.proofs.Common.{inl, inr, subst, Bool, true, false, cond, List, [], ◌∷◌, ◌++◌, map, Ok, Err}
use Rattle.std.specs.Prelude.{Option, Some, None, flat_map}
use Rattle.sqlval.specs.Faults.{IsNotDiskFault}
use Rattle.sqlval.specs.Flow.{Flow, Finished, Next, Refused, flow_of, followed_by, for_each, row_of, computed, passed, kept, or_one, collected}
use Rattle.sqlval.specs.Refusals.{Answer, ◌then◌, all_answers}
use Rattle.sqlval.specs.declared.fault.Fault.{Fault}
use Rattle.sqlval.specs.declared.value.Value.{Value}
use Rattle.query_terms.specs.Outcome.{IsRefusedBy}
use Rattle.query_terms.specs.Terms.{Term}
use Rattle.query_terms.specs.Values as meant
use Rattle.query_terms.specs.Values.{Row, Environment, value}
use Rattle.query_terms.specs.declared.tree.Aggregate.{Aggregate}
use Rattle.query_names.specs.declared.reading.Condition.{Condition}
use Rattle.query_names.specs.declared.reading.Condition.TheVariants.{Always, Where, OrNulls}
use Rattle.query_names.specs.declared.reading.Reading.{Reading}
use Rattle.query_names.specs.Readings.{arguments, combined, crossed, env_of, environments, filtered, group_env, grouped, holds, joined, keyed_row, nulls, sortable, values}
use Rattle.query_answer.specs.Answers.{given_from}
use Rattle.query_answer.specs.Groups.{Keyed}
use Rattle.query_terms.proofs.Quiet.{IsQuiet, Quiet, each, memory_is_quiet, next, of_counted, of_value, quiet_fault}
use Rattle.query_names.proofs.QuietValues.{of_holds, of_values}

-- ---- flows

abbrev RunsQuietly : {A : Type 0} → Flow A → Type 0
RunsQuietly Finished = Unit {0}
RunsQuietly (Next x f) = RunsQuietly f
RunsQuietly (Refused r) = Quiet r

both_run : {A : Type 0} (f g : Flow A) → RunsQuietly f → RunsQuietly g → RunsQuietly (followed_by f g)
both_run Finished g h k = k
both_run (Next x f) g h k = both_run f g h k
both_run (Refused r) g h k = h

each_runs : {A B : Type 0} (k : A → Flow B) → ((x : A) → RunsQuietly (k x)) → (f : Flow A) → RunsQuietly f → RunsQuietly (for_each k f)
each_runs k h Finished l = tt
each_runs k h (Next x f) l = both_run (k x) (for_each k f) (h x) (each_runs k h f l)
each_runs k h (Refused r) l = l

one_runs : {A : Type 0} (a : Answer A) → IsQuiet a → RunsQuietly (row_of a)
one_runs (Ok x) h = tt
one_runs (Err r) h = h

listed_runs : {A : Type 0} (xs : List A) → RunsQuietly (flow_of xs)
listed_runs [] = tt
listed_runs (x ∷ xs) = listed_runs xs

passing_runs : {A : Type 0} (x : A) (a : Answer (Option Bool)) → IsQuiet a → RunsQuietly (passed x a)
passing_runs x (Ok (Some true)) h = tt
passing_runs x (Ok (Some false)) h = tt
passing_runs x (Ok None) h = tt
passing_runs x (Err r) h = h

or_one_runs : {A : Type 0} (x : A) (f : Flow A) → RunsQuietly f → RunsQuietly (or_one x f)
or_one_runs x Finished h = tt
or_one_runs x (Next y f) h = h
or_one_runs x (Refused r) h = h

collected_quietly : {A : Type 0} (f : Flow A) → RunsQuietly f → IsQuiet (collected f)
collected_quietly Finished h = tt
collected_quietly (Next x f) h = next (collected f) (λ xs. Ok (x ∷ xs)) (collected_quietly f h) (λ xs. tt)
collected_quietly (Refused r) h = h

kept_runs : (t : Term) (f : Flow (List Row)) → RunsQuietly f → RunsQuietly (kept (holds t) f)
kept_runs t f h = each_runs (λ x. passed x (holds t x)) (λ x. passing_runs x (holds t x) (of_holds t x)) f h

crossed_runs : (rows source : List Row) → RunsQuietly (crossed rows source)
crossed_runs rows source = each_runs (λ r. Next (rows ++ r ∷ []) Finished) (λ r. tt) (flow_of source) (listed_runs source)

joined_runs : (c : Condition) (rows source : List Row) → RunsQuietly (joined c rows source)
joined_runs Always rows source = crossed_runs rows source
joined_runs (Where t) rows source = kept_runs t (crossed rows source) (crossed_runs rows source)
joined_runs (OrNulls t) rows source = or_one_runs (rows ++ nulls ∷ []) (kept (holds t) (crossed rows source)) (kept_runs t (crossed rows source) (crossed_runs rows source))

pub combined_runs : (ss : List (Condition × List Row)) (rows : List Row) → RunsQuietly (combined ss rows)
combined_runs [] rows = tt
combined_runs (s ∷ ss) rows = each_runs (combined ss) (λ x. combined_runs ss x) (joined s.0 rows s.1) (joined_runs s.0 rows s.1)

filtered_runs : (filter : Option Term) (f : Flow (List Row)) → RunsQuietly f → RunsQuietly (filtered filter f)
filtered_runs None f h = h
filtered_runs (Some t) f h = kept_runs t f h

of_sortable : (q : Reading) (env : Environment) → IsQuiet (sortable q env)
of_sortable q env =
    next (values env q.results) (λ vs. values env (map (λ o. o.0) q.order) then λ ks. Ok (vs, ks)) (of_values env q.results) (λ vs.
    next (values env (map (λ o. o.0) q.order)) (λ ks. Ok (vs, ks)) (of_values env (map (λ o. o.0) q.order)) (λ ks. tt))

abbrev argument_at : Environment → Aggregate × Term → Answer Value
argument_at env a = value a.1 env then meant.counted a.0

of_keyed : (q : Reading) (rows : List Row) → IsQuiet (keyed_row q rows)
of_keyed q rows =
    next (values (env_of rows) q.keys) (λ ks. all_answers (map (argument_at (env_of rows)) (flat_map arguments (q.results ++ map (λ o. o.0) q.order))) then λ _. Ok (ks, rows)) (of_values (env_of rows) q.keys) (λ ks.
    next (all_answers (map (argument_at (env_of rows)) (flat_map arguments (q.results ++ map (λ o. o.0) q.order)))) (λ _. Ok (ks, rows))
    (each (argument_at (env_of rows)) (λ a. next (value a.1 (env_of rows)) (meant.counted a.0) (of_value a.1 (env_of rows)) (λ v. of_counted a.0 v)) (flat_map arguments (q.results ++ map (λ o. o.0) q.order))) (λ x. tt))

-- ---- the query

abbrev combinations : Reading → Flow (List Row) → Flow (List Row)
combinations q flow = filtered q.filter flow

combinations_run : (q : Reading) (flow : Flow (List Row)) → RunsQuietly flow → RunsQuietly (combinations q flow)
combinations_run q flow h = filtered_runs q.filter flow h

abbrev of_groups : Reading → List Row → Answer (List Keyed) → Flow Environment
of_groups q outer a = elim a [ Err r ↦ Refused r | Ok rows ↦ flow_of (map (group_env outer) (grouped q.keys rows)) ]

groups_run : (q : Reading) (outer : List Row) (a : Answer (List Keyed)) → IsQuiet a → RunsQuietly (of_groups q outer a)
groups_run q outer (Ok rows) h = listed_runs (map (group_env outer) (grouped q.keys rows))
groups_run q outer (Err r) h = h

environments_run : (q : Reading) (outer : List Row) (flow : Flow (List Row)) → RunsQuietly flow → RunsQuietly (environments q outer (combinations q flow))
environments_run q outer flow h = by q.is_grouped
  where
    by : (b : Bool) → RunsQuietly (cond b (of_groups q outer (collected (computed (keyed_row q) (combinations q flow)))) (for_each (λ rows. Next (env_of rows) Finished) (combinations q flow)))
    by true =
        groups_run q outer (collected (computed (keyed_row q) (combinations q flow)))
        (collected_quietly (computed (keyed_row q) (combinations q flow)) (each_runs (λ x. row_of (keyed_row q x)) (λ x. one_runs (keyed_row q x) (of_keyed q x)) (combinations q flow) (combinations_run q flow h)))
    by false = each_runs (λ rows. Next (env_of rows) Finished) (λ rows. tt) (combinations q flow) (combinations_run q flow h)

given_quietly : (q : Reading) (outer : List Row) (flow : Flow (List Row)) → RunsQuietly flow → IsQuiet (given_from q outer flow)
given_quietly q outer flow h =
    collected_quietly (computed (sortable q) (environments q outer (combinations q flow)))
    (each_runs (λ x. row_of (sortable q x)) (λ x. one_runs (sortable q x) (of_sortable q x)) (environments q outer (combinations q flow)) (environments_run q outer flow h))

-- ---- faults

pub refused_quietly : (q : Reading) (outer : List Row) (flow : Flow (List Row)) (f : Fault) → RunsQuietly flow → IsRefusedBy (given_from q outer flow) f → IsNotDiskFault f
refused_quietly q outer flow f h (inl m) = memory_is_quiet f m
refused_quietly q outer flow f h (inr e) = quiet_fault f (subst IsQuiet e (given_quietly q outer flow h))

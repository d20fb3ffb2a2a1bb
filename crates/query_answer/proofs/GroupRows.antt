-- What a query gives of groups of rows.
use Rattle.std.proofs.Common.{◌≡◌, refl, sym, ap, ◌∙◌, ℕ, suc, ◌+◌, ◌-◌, ◌<◌, List, [], ◌∷◌, ◌++◌, length, map, take, drop, slice_index_or, Ok, arith}
use Rattle.std.proofs.lemmas.List.{drop-map, take-map}
use Rattle.std.proofs.lemmas.Cmp.{eq_by_cmp_equiv, on_total}
use Rattle.std.specs.List.{AllByRecursion, prefix_len}
use Rattle.std.specs.Ordering.{is_eq}
use Rattle.std.specs.declared.cmp.Ordering.{Ordering}
use Rattle.sqlval.specs.Lists.{groups, keys_cmp, sorted}
use Rattle.sqlval.specs.Refusals.{Answer, ◌then◌, all_answers}
use Rattle.sqlval.specs.declared.value.Value.{Value}
use Rattle.query_terms.specs.Rows.{picked_rows}
use Rattle.query_terms.specs.Terms.{Term}
use Rattle.query_terms.specs.Values.{Row, Environment}
use Rattle.query_names.specs.declared.reading.Reading.{Reading}
use Rattle.query_names.specs.Readings.{Sortable, group_env, grouped, sort_keys, sortable}
use Rattle.query_answer.specs.Groups.{Keyed, have_same_keys, keyed_of, of_group, of_groups, of_runs, sorted_by_keys}
use Rattle.query_answer.specs.Nesting.{shown}
use Rattle.query_answer.specs.Sorting.{by_values, key_of, order_of}
use Rattle.query_answer.specs.declared.results.FoundRow.{FoundRow}
use Rattle.query_answer.specs.declared.sorting.SortOrder.{SortOrder}
use Rattle.query_answer.proofs.AsDefined.{all_sorted, as_keys, each_itself, groups_as, sorted_as, sorted_seen}
use Rattle.query_terms.proofs.InOrder.{left, one_on}
use Rattle.query_answer.proofs.KeyOrders.{by_keys}
use Rattle.query_answer.proofs.Runs.{groups_seen, run_at}

-- ---- what is evaluated over

rows_seen : (ss : List (List Row)) (rs : List FoundRow) → map (picked_rows ss) (map (λ r. r.picked) rs) ≡ map (λ k. k.1) (map (keyed_of ss) rs)
rows_seen ss [] = refl
rows_seen ss (r ∷ rs) = ap (λ xs. picked_rows ss r.picked ∷ xs) (rows_seen ss rs)

pub env_is : (ss : List (List Row)) (first : List ℕ) (places : List (List ℕ)) (group : List FoundRow) (keys : List Value) → places ≡ map (λ r. r.picked) group → keys ≡ (group_env [] (map (keyed_of []) group)).keys
    → (let l : Environment = record { rows = picked_rows ss first; group = map (picked_rows ss) places; keys = keys } in l) ≡ group_env (picked_rows ss first) (map (keyed_of ss) group)
env_is ss first places [] keys h k = λ i. record { rows = picked_rows ss first; group = map (picked_rows ss) (h i); keys = k i }
env_is ss first places (r ∷ rs) keys h k = λ i. record { rows = picked_rows ss first; group = (ap (map (picked_rows ss)) h ∙ rows_seen ss (r ∷ rs)) i; keys = k i }

pub places_within : (places : List (List ℕ)) (rows : List FoundRow) (n m : ℕ) → places ≡ map (λ r. r.picked) rows → take n (drop m places) ≡ map (λ r. r.picked) (take n (drop m rows))
places_within places rows n m h = ap (λ ps. take n (drop m ps)) h ∙ (ap (take n) (drop-map (λ r. r.picked) m rows) ∙ take-map (λ r. r.picked) n (drop m rows))

-- ---- one group after another

pub group_at : (orders : List SortOrder) (rows : List FoundRow) (start n : ℕ) (d : FoundRow) → start < length rows → n ≡ prefix_len (have_same_keys orders (slice_index_or rows start d)) (drop (start + 1) rows)
    → groups (have_same_keys orders) (drop start rows) ≡ take (start + 1 + n - start) (drop start rows) ∷ groups (have_same_keys orders) (drop (start + 1 + n) rows)
group_at orders rows start n d lt h =
    let e : n + 1 ≡ start + 1 + n - start = omega arith in
    run_at (have_same_keys orders) (eq_by_cmp_equiv (on_total (λ (r : FoundRow). r.keys) (by_keys 0 orders))) rows start n d lt h
    ∙ ap (λ m. take m (drop start rows) ∷ groups (have_same_keys orders) (drop (start + 1 + n) rows)) e

shown_more : (found : List FoundRow) (y : FoundRow) → map shown (found ++ y ∷ []) ≡ map shown found ++ shown y ∷ []
shown_more [] y = refl
shown_more (x ∷ found) y = ap (λ ys. shown x ∷ ys) (shown_more found y)

pub next_group : (f : List FoundRow → Answer Sortable) (gs rest : List (List FoundRow)) (g : List FoundRow) (found new : List FoundRow) (y : FoundRow) (total : Answer (List Sortable))
    → gs ≡ g ∷ rest → f g ≡ Ok (shown y) → new ≡ found ++ y ∷ [] → left f gs (map shown found) ≡ total → left f rest (map shown new) ≡ total
next_group f gs rest g found new y total h k m so_far =
    ap (λ ys. left f rest (map shown ys)) m
    ∙ (ap (left f rest) (shown_more found y)
    ∙ (sym (one_on f g rest (map shown found) (shown y) k) ∙ (ap (λ xs. left f xs (map shown found)) (sym h) ∙ so_far)))

-- ---- as they are defined

keys_of_terms : (ts : List Term) → sort_keys ts ≡ map key_of (map order_of ts)
keys_of_terms [] = refl
keys_of_terms (t ∷ ts) = ap (λ ks. key_of (order_of t) ∷ ks) (keys_of_terms ts)

pub count_of_orders : (ts : List Term) → length (map order_of ts) ≡ length ts
count_of_orders [] = refl
count_of_orders (t ∷ ts) = ap suc (count_of_orders ts)

abbrev keyed_cmp : List SortOrder → Keyed → Keyed → Ordering
keyed_cmp ks r s = by_values ks r.0 s.0

abbrev defined_cmp : List Term → Keyed → Keyed → Ordering
defined_cmp ts r s = keys_cmp (sort_keys ts) r.0 s.0

pub as_sort_keys : (ts : List Term) (vs ws : List Value) → length vs ≡ length ts → length ws ≡ length ts → keys_cmp (sort_keys ts) vs ws ≡ by_values (map order_of ts) vs ws
as_sort_keys ts vs ws p q =
    ap (λ ks. keys_cmp ks vs ws) (keys_of_terms ts)
    ∙ as_keys (map order_of ts) vs ws (p ∙ sym (count_of_orders ts)) (q ∙ sym (count_of_orders ts))

grouped_so : (t : Term) (ts : List Term) (rows : List Keyed) → AllByRecursion (λ r. length r.0 ≡ length (t ∷ ts)) rows
    → grouped (t ∷ ts) rows ≡ groups (λ r s. is_eq (keyed_cmp (map order_of (t ∷ ts)) r s)) (sorted (keyed_cmp (map order_of (t ∷ ts))) rows)
grouped_so t ts rows h =
    ap (groups (λ r s. is_eq (defined_cmp (t ∷ ts) r s))) (sym same_rows)
    ∙ groups_as long (λ r s. is_eq (defined_cmp (t ∷ ts) r s)) (λ r s. is_eq (keyed_cmp (map order_of (t ∷ ts)) r s)) (λ r s p q. ap is_eq (agree r s p q)) (sorted (keyed_cmp (map order_of (t ∷ ts))) rows)
    (all_sorted (λ (r : Keyed). r) long (defined_cmp (t ∷ ts)) (keyed_cmp (map order_of (t ∷ ts))) agree rows h)
  where
    long : Keyed → Type 0
    long r = length r.0 ≡ length (t ∷ ts)

    agree : (r s : Keyed) → length r.0 ≡ length (t ∷ ts) → length s.0 ≡ length (t ∷ ts) → defined_cmp (t ∷ ts) r s ≡ keyed_cmp (map order_of (t ∷ ts)) r s
    agree r s p q = as_sort_keys (t ∷ ts) r.0 s.0 p q

    same_rows : sorted (keyed_cmp (map order_of (t ∷ ts))) rows ≡ sorted (defined_cmp (t ∷ ts)) rows
    same_rows =
        sym (each_itself (sorted (keyed_cmp (map order_of (t ∷ ts))) rows))
        ∙ (sorted_as (λ (r : Keyed). r) long (defined_cmp (t ∷ ts)) (keyed_cmp (map order_of (t ∷ ts))) agree rows h ∙ ap (sorted (defined_cmp (t ∷ ts))) (each_itself rows))

keyed_long : (n : ℕ) (ss : List (List Row)) (rows : List FoundRow) → AllByRecursion (λ r. length r.keys ≡ n) rows → AllByRecursion (λ r. length r.0 ≡ n) (map (keyed_of ss) rows)
keyed_long n ss [] h = tt
keyed_long n ss (r ∷ rs) h = (h.0, keyed_long n ss rs h.1)

each_of : (q : Reading) (outer : List Row) (ss : List (List Row)) (gs : List (List FoundRow)) → map (λ g. sortable q (group_env outer g)) (map (map (keyed_of ss)) gs) ≡ map (of_group q outer ss) gs
each_of q outer ss [] = refl
each_of q outer ss (g ∷ gs) = ap (λ ys. of_group q outer ss g ∷ ys) (each_of q outer ss gs)

some_keys : (q : Reading) (outer : List Row) (ss : List (List Row)) (found : List FoundRow) (t : Term) (ts : List Term) → AllByRecursion (λ r. length r.keys ≡ length (t ∷ ts)) found
    → all_answers (map (λ g. sortable q (group_env outer g)) (grouped (t ∷ ts) (map (keyed_of ss) found))) ≡ of_runs q outer ss (map order_of (t ∷ ts)) (sorted_by_keys (map order_of (t ∷ ts)) found)
some_keys q outer ss found t ts h =
    ap (λ gs. all_answers (map (λ g. sortable q (group_env outer g)) gs))
    (grouped_so t ts (map (keyed_of ss) found) (keyed_long (length (t ∷ ts)) ss found h)
    ∙ (ap (groups (λ r s. is_eq (keyed_cmp (map order_of (t ∷ ts)) r s))) (sym (sorted_seen (keyed_of ss) (keyed_cmp (map order_of (t ∷ ts))) found))
    ∙ sym (groups_seen (keyed_of ss) (λ r s. is_eq (keyed_cmp (map order_of (t ∷ ts)) r s)) (sorted_by_keys (map order_of (t ∷ ts)) found))))
    ∙ ap all_answers (each_of q outer ss (groups (have_same_keys (map order_of (t ∷ ts))) (sorted_by_keys (map order_of (t ∷ ts)) found)))

-- with keys
pub by_groups : (q : Reading) (outer : List Row) (ss : List (List Row)) (found : List FoundRow) → (length q.keys ≡ 0 → ⊥) → AllByRecursion (λ r. length r.keys ≡ length q.keys) found
    → of_runs q outer ss (map order_of q.keys) (sorted_by_keys (map order_of q.keys) found) ≡ of_groups q outer (map (keyed_of ss) found)
by_groups q outer ss found some h = by q.keys some h
  where
    by : (ks : List Term) → (length ks ≡ 0 → ⊥) → AllByRecursion (λ r. length r.keys ≡ length ks) found
        → of_runs q outer ss (map order_of ks) (sorted_by_keys (map order_of ks) found) ≡ all_answers (map (λ g. sortable q (group_env outer g)) (grouped ks (map (keyed_of ss) found)))
    by [] none h = absurd (none refl)
    by (t ∷ ts) some h = sym (some_keys q outer ss found t ts h)

-- without any
pub by_one : (q : Reading) (outer : List Row) (ss : List (List Row)) (found : List FoundRow) → length q.keys ≡ 0 → (of_group q outer ss found then λ s. let l : Answer (List Sortable) = Ok (s ∷ []) in l) ≡ of_groups q outer (map (keyed_of ss) found)
by_one q outer ss found none = by q.keys none
  where
    by : (ks : List Term) → length ks ≡ 0 → (of_group q outer ss found then λ s. let l : Answer (List Sortable) = Ok (s ∷ []) in l) ≡ all_answers (map (λ g. sortable q (group_env outer g)) (grouped ks (map (keyed_of ss) found)))
    by [] h = refl
    by (t ∷ ts) h = absurd (omega (arith, h))

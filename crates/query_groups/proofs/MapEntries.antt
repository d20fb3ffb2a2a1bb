-- The map's entries, with one more row.
use Rattle.std.proofs.Common.{◌≡◌, ◌<◌, refl, sym, ap, ◌∙◌, subst, Bool, cond, List, [], ◌∷◌, ◌++◌, Option, Some, None}
use Rattle.std.specs.BTreeMap.{insert_entry, is_at}
use Rattle.std.specs.Cmp.Lexicographic.{slice_cmp}
use Rattle.std.specs.List.{AllByRecursion}
use Rattle.std.specs.List.Sorted.{IsStrictlySortedBy}
use Rattle.std.specs.Map.{keys_of, lookup, set_value}
use Rattle.std.specs.Cmp.{IsTotalOrder}
use Rattle.std.specs.Ordering.{MatchOrdering, is_eq, match_ordering, nat_cmp, ordering_then}
use Rattle.std.specs.declared.cmp.Ordering.{Ordering}
use Rattle.std.specs.declared.cmp.Ordering.TheVariants.{Less, Equal, Greater}
use Rattle.std.proofs.lemmas.Cmp.{nat_cmp_total, nat_list_cmp_total, on_total, ranked, then_total}
use Rattle.std.proofs.lemmas.Map.Keys.{sorted_head, sorted_tail}
use Rattle.sort_keys.specs.Keys.{prefix_number, values_key}
use Rattle.sort_keys.specs.Laws.{PrefixesStandFirst}
use Rattle.query_terms.specs.Terms.{Term}
use Rattle.query_terms.specs.Values.{Row}
use Rattle.query_names.specs.Readings.{sort_keys}
use Rattle.query_totals.specs.Totals.{tallies_over}
use Rattle.query_groups.specs.Groups.{Keyed, keys_of_group, rows_of_group}
use Rattle.query_groups.specs.Keeping.{AllSome, HoldGroups, HoldsGroup, HasPrefix, by_bytes, key_order, put_last}
use Rattle.query_groups.specs.declared.kept.Group.{Group}
use Rattle.query_groups.specs.declared.kept.GroupKey.{GroupKey}

-- a search for a key among the entries
abbrev pub found_at : GroupKey → GroupKey → Bool
found_at key = is_at (key_order key)

-- keys stand as their bytes
key_is : PrefixesStandFirst → (a b : GroupKey) → HasPrefix a → HasPrefix b → key_order a b ≡ slice_cmp nat_cmp a.bytes.items b.bytes.items
key_is first a b h k = by (nat_cmp a.prefix b.prefix) refl (ranked a.prefix b.prefix (nat_cmp a.prefix b.prefix) refl)
  where
    told : (prefix_number a.bytes.items < prefix_number b.bytes.items → slice_cmp nat_cmp a.bytes.items b.bytes.items ≡ Less) × (prefix_number b.bytes.items < prefix_number a.bytes.items → slice_cmp nat_cmp a.bytes.items b.bytes.items ≡ Greater)
    told = first a.bytes.items b.bytes.items h.bytes k.bytes

    by : (o : Ordering) → nat_cmp a.prefix b.prefix ≡ o → MatchOrdering o (a.prefix < b.prefix) (a.prefix ≡ b.prefix) (b.prefix < a.prefix) → key_order a b ≡ slice_cmp nat_cmp a.bytes.items b.bytes.items
    by Less e lt =
        ap (λ o. ordering_then o (slice_cmp nat_cmp a.bytes.items b.bytes.items)) e
        ∙ sym (told.0 (subst (λ n. n < prefix_number b.bytes.items) h.prefix (subst (λ n. a.prefix < n) k.prefix lt)))
    by Equal e same = ap (λ o. ordering_then o (slice_cmp nat_cmp a.bytes.items b.bytes.items)) e
    by Greater e lt =
        ap (λ o. ordering_then o (slice_cmp nat_cmp a.bytes.items b.bytes.items)) e
        ∙ sym (told.1 (subst (λ n. n < prefix_number a.bytes.items) k.prefix (subst (λ n. b.prefix < n) h.prefix lt)))

total : IsTotalOrder key_order
total = then_total (on_total (λ (k : GroupKey). k.prefix) nat_cmp_total) (on_total (λ (k : GroupKey). k.bytes.items) nat_list_cmp_total)

none_some : {A X : Type 0} (x : X) → Some x ≡ None → A
none_some x e = absurd cc

abbrev pub some_value : {X : Type 0} → X → Option X → X
some_value d None = d
some_value d (Some x) = x

rows_more : (group : List Keyed) (r : Keyed) → rows_of_group (group ++ r ∷ []) ≡ rows_of_group group ++ r.1 ∷ []
rows_more [] r = refl
rows_more (g ∷ gs) r = ap (λ (rs : List (List Row)). g.1 ∷ rs) (rows_more gs r)

module _ (first : PrefixesStandFirst) (ks ts : List Term) where
  -- ---- a group of its own

  pub put_new : (es : List (GroupKey × Group)) (gs : List (List Keyed)) (k : GroupKey) (v : Group) (r : Keyed) → HoldGroups ks ts es gs → AllSome gs → k.bytes.items ≡ values_key (sort_keys ks) r.0 → HoldsGroup ks ts (k, v) (r ∷ [])
      → lookup (found_at k) es ≡ None → HoldGroups ks ts (insert_entry key_order es k v) (put_last (by_bytes ks) r gs)
  put_new [] [] k v r h some is kept none = (kept, tt)
  put_new [] (g ∷ gs) k v r h some is kept none = absurd h
  put_new (e ∷ es) [] k v r h some is kept none = absurd h
  put_new (e ∷ es) ([] ∷ gs) k v r h some is kept none = absurd some
  put_new (e ∷ es) ((y ∷ ys) ∷ gs) k v r h some is kept none =
      subst (λ o. HoldGroups ks ts (insert_entry key_order (e ∷ es) k v) (match_ordering o ((r ∷ []) ∷ (y ∷ ys) ∷ gs) (((y ∷ ys) ++ r ∷ []) ∷ gs) ((y ∷ ys) ∷ put_last (by_bytes ks) r gs))) same
      (by (key_order k e.0) refl (λ n. put_new es gs k v r h.1 some is kept n))
    where
      same : key_order k e.0 ≡ by_bytes ks r y
      same = key_is first k e.0 kept.3 h.0.3 ∙ (λ i. slice_cmp nat_cmp (is i) (h.0.0 i))

      by : (o : Ordering) → key_order k e.0 ≡ o → (lookup (found_at k) es ≡ None → HoldGroups ks ts (insert_entry key_order es k v) (put_last (by_bytes ks) r gs))
          → HoldGroups ks ts (match_ordering o ((k, v) ∷ e ∷ es) ((e.0, v) ∷ es) (e ∷ insert_entry key_order es k v)) (match_ordering o ((r ∷ []) ∷ (y ∷ ys) ∷ gs) (((y ∷ ys) ++ r ∷ []) ∷ gs) ((y ∷ ys) ∷ put_last (by_bytes ks) r gs))
      by Less f rest = (kept, (h.0, h.1))
      by Equal f rest = none_some e.1 (sym (ap (λ o. cond (is_eq o) (Some e.1) (lookup (found_at k) es)) f) ∙ none)
      by Greater f rest = (h.0, rest (sym (ap (λ o. cond (is_eq o) (Some e.1) (lookup (found_at k) es)) f) ∙ none))

  -- ---- at the end of its group

  below_all : (key k : GroupKey) (es : List (GroupKey × Group)) → key_order key k ≡ Less → AllByRecursion (λ j. key_order k j ≡ Less) (keys_of es) → lookup (found_at key) es ≡ None
  below_all key k [] h less = refl
  below_all key k (e ∷ es) h less =
      ap (λ o. cond (is_eq o) (Some e.1) (lookup (found_at key) es)) (total.trans key k e.0 h less.0)
      ∙ below_all key k es h less.1

  -- a value that is kept of a group, whatever is under it
  abbrev pub IsOf : Group → List Keyed → Type 0
  IsOf v group = (v.keys ≡ keys_of_group group) × (v.tallies.items ≡ tallies_over (rows_of_group group) ts)

  abbrev pub Puts : GroupKey → List (GroupKey × Group) → List (List Keyed) → Keyed → Group → Type 0
  Puts key es gs r v =
      (group : List Keyed) × IsOf v group
      × ((w : Group) → w.keys ≡ v.keys → w.tallies.items ≡ tallies_over (rows_of_group group ++ r.1 ∷ []) ts → HoldGroups ks ts (set_value (found_at key) es w) (put_last (by_bytes ks) r gs))

  pub put_there : (es : List (GroupKey × Group)) (gs : List (List Keyed)) (key : GroupKey) (r : Keyed) (v : Group) → HasPrefix key → HoldGroups ks ts es gs → AllSome gs → key.bytes.items ≡ values_key (sort_keys ks) r.0 → IsStrictlySortedBy key_order (keys_of es)
      → lookup (found_at key) es ≡ Some v → Puts key es gs r v
  put_there [] [] key r v whole h some is sorted found = none_some v (sym found)
  put_there [] (g ∷ gs) key r v whole h some is sorted found = absurd h
  put_there (e ∷ es) [] key r v whole h some is sorted found = absurd h
  put_there (e ∷ es) ([] ∷ gs) key r v whole h some is sorted found = absurd some
  put_there (e ∷ es) ((y ∷ ys) ∷ gs) key r v whole h some is sorted found = by (key_order key e.0) refl (λ f. put_there es gs key r v whole h.1 some is (sorted_tail key_order e.0 (keys_of es) sorted) f)
    where
      same : key_order key e.0 ≡ by_bytes ks r y
      same = key_is first key e.0 whole h.0.3 ∙ (λ i. slice_cmp nat_cmp (is i) (h.0.0 i))

      looked : (o : Ordering) → key_order key e.0 ≡ o → cond (is_eq o) (Some e.1) (lookup (found_at key) es) ≡ Some v
      looked o f = sym (ap (λ p. cond (is_eq p) (Some e.1) (lookup (found_at key) es)) f) ∙ found

      stands : (o : Ordering) → key_order key e.0 ≡ o → put_last (by_bytes ks) r ((y ∷ ys) ∷ gs) ≡ match_ordering o ((r ∷ []) ∷ (y ∷ ys) ∷ gs) (((y ∷ ys) ++ r ∷ []) ∷ gs) ((y ∷ ys) ∷ put_last (by_bytes ks) r gs)
      stands o f = ap (λ p. match_ordering p ((r ∷ []) ∷ (y ∷ ys) ∷ gs) (((y ∷ ys) ++ r ∷ []) ∷ gs) ((y ∷ ys) ∷ put_last (by_bytes ks) r gs)) (sym same ∙ f)

      set_so : (w : Group) (o : Ordering) → key_order key e.0 ≡ o → set_value (found_at key) (e ∷ es) w ≡ cond (is_eq o) ((e.0, w) ∷ es) (e ∷ set_value (found_at key) es w)
      set_so w o f = ap (λ p. cond (is_eq p) ((e.0, w) ∷ es) (e ∷ set_value (found_at key) es w)) f

      both : (w : Group) (o : Ordering) → key_order key e.0 ≡ o
          → HoldGroups ks ts (cond (is_eq o) ((e.0, w) ∷ es) (e ∷ set_value (found_at key) es w)) (match_ordering o ((r ∷ []) ∷ (y ∷ ys) ∷ gs) (((y ∷ ys) ++ r ∷ []) ∷ gs) ((y ∷ ys) ∷ put_last (by_bytes ks) r gs))
          → HoldGroups ks ts (set_value (found_at key) (e ∷ es) w) (put_last (by_bytes ks) r ((y ∷ ys) ∷ gs))
      both w o f k = subst (λ es'. HoldGroups ks ts es' (put_last (by_bytes ks) r ((y ∷ ys) ∷ gs))) (sym (set_so w o f)) (subst (HoldGroups ks ts (cond (is_eq o) ((e.0, w) ∷ es) (e ∷ set_value (found_at key) es w))) (sym (stands o f)) k)

      by : (o : Ordering) → key_order key e.0 ≡ o → (lookup (found_at key) es ≡ Some v → Puts key es gs r v) → Puts key (e ∷ es) ((y ∷ ys) ∷ gs) r v
      by Less f rest = none_some v (sym (sym (below_all key e.0 es f (sorted_head key_order e.0 (keys_of es) sorted)) ∙ looked Less f))
      by Equal f rest =
          let is_v : e.1 ≡ v = ap (some_value v) (looked Equal f) in (
            y ∷ ys,
            (sym (ap (λ g. g.keys) is_v) ∙ h.0.1, sym (ap (λ g. g.tallies.items) is_v) ∙ h.0.2),
            λ w same_keys told. both w Equal f ((h.0.0, same_keys ∙ (sym (ap (λ g. g.keys) is_v) ∙ h.0.1), told ∙ ap (λ rows. tallies_over rows ts) (sym (rows_more (y ∷ ys) r)), h.0.3), h.1),
          )
      by Greater f rest =
          let there = rest (looked Greater f) in
          (there.0, there.1, λ w same_keys told. both w Greater f (h.0, there.2 w same_keys told))

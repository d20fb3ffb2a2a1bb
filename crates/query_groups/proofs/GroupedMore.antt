-- The groups of rows, with one more row.
use Rattle.std.proofs.Common.{◌≡◌, refl, sym, ap, ◌∙◌, subst, List, [], ◌∷◌, ◌++◌, length, map, Ok, Err, Result}
use Rattle.std.specs.Prelude.{All}
use Rattle.std.specs.Cmp.{IsTotalOrder}
use Rattle.std.specs.List.{AllByRecursion}
use Rattle.std.specs.Ordering.{is_eq}
use Rattle.std.specs.declared.cmp.Ordering.{Ordering}
use Rattle.std.proofs.lemmas.Cmp.{on_total}
use Rattle.sqlval.specs.Lists.{keys_cmp, sorted}
use Rattle.sqlval.specs.Refusals.{Answer, ◌then◌}
use Rattle.sqlval.specs.declared.fault.Fault.{Fault}
use Rattle.sqlval.specs.declared.value.Value.{Value}
use Rattle.sort_keys.specs.Keys.{IsHeld}
use Rattle.sort_keys.specs.Laws.{FullKeysStandAsValues}
use Rattle.query_terms.specs.Outcome.{AnswersBy}
use Rattle.query_terms.specs.Terms.{Term}
use Rattle.query_terms.specs.Values.{Row}
use Rattle.query_terms.proofs.InOrder.{refuses_on}
use Rattle.query_names.specs.Readings.{grouped, sort_keys}
use Rattle.query_totals.specs.Totals.{arguments_at}
use Rattle.query_groups.specs.Groups.{AreAsLong, Entry, Keyed, bytes_of_group, kept_of_group}
use Rattle.query_groups.specs.Keeping.{AllSome, HaveHeldKeys, HoldGroups, TakesArguments, by_bytes, seen_entries, put_last}
use Rattle.query_groups.specs.declared.kept.Group.{Group}
use Rattle.query_groups.specs.declared.kept.GroupKey.{GroupKey}
use Rattle.query_groups.proofs.KeyOrder.{as_full, full_cmp, full_total}
use Rattle.query_groups.proofs.PutLast.{AllHeads, all_grouped, grouped_as, groups_some, put_as, put_is}

-- ---- entries by what is seen of them

abbrev MapEntry : Type 0
MapEntry = GroupKey × Group

abbrev seen_of : MapEntry → Entry
seen_of e = (e.0.bytes.items, (e.1.keys, e.1.tallies.items))

abbrev first_or : {X : Type 0} → X → List X → X
first_or d [] = d
first_or d (x ∷ xs) = x

abbrev rest_of : {X : Type 0} → List X → List X
rest_of [] = []
rest_of (x ∷ xs) = xs

some_none : {X A : Type 0} (x : X) (xs : List X) → x ∷ xs ≡ [] → A
some_none x xs e = absurd cc

module _ (ks ts : List Term) where
  abbrev entry_of : List Keyed → Entry
  entry_of group = (bytes_of_group ks group, kept_of_group ts group)

  pub zipped : (es : List MapEntry) (gs : List (List Keyed)) → seen_entries es ≡ map entry_of gs → HaveHeldKeys es → HoldGroups ks ts es gs
  zipped [] [] h held = tt
  zipped [] (g ∷ gs) h held = some_none (entry_of g) (map entry_of gs) (sym h)
  zipped (e ∷ es) [] h held = some_none (seen_of e) (map seen_of es) h
  zipped (e ∷ es) (g ∷ gs) h held =
      let seen : seen_of e ≡ entry_of g = ap (first_or (seen_of e)) h in (
        (ap (λ (p : Entry). p.0) seen, ap (λ (p : Entry). p.1.0) seen, ap (λ (p : Entry). p.1.1) seen, held.0.0),
        zipped es gs (ap rest_of h) held.1,
      )

  pub are_seen : (es : List MapEntry) (gs : List (List Keyed)) → HoldGroups ks ts es gs → seen_entries es ≡ map entry_of gs
  are_seen [] [] h = refl
  are_seen [] (g ∷ gs) h = absurd h
  are_seen (e ∷ es) [] h = absurd h
  are_seen (e ∷ es) (g ∷ gs) h = (λ i. (h.0.0 i, (h.0.1 i, h.0.2 i)) ∷ are_seen es gs h.1 i)

-- ---- the groups by the bytes

more_all : {X : Type 0} (P : X → Type 0) (xs : List X) (x : X) → AllByRecursion P xs → P x → AllByRecursion P (xs ++ x ∷ [])
more_all P [] x h p = (p, tt)
more_all P (y ∷ ys) x h p = (h.0, more_all P ys x h.1 p)

module _ (ks : List Term) where
  abbrev IsAsLong : Keyed → Type 0
  IsAsLong r = length r.0 ≡ length ks

  abbrev pub IsKeyed : Keyed → Type 0
  IsKeyed r = (length r.0 ≡ length ks) × All IsHeld r.0

  abbrev by_keys : Keyed → Keyed → Ordering
  by_keys r s = keys_cmp (sort_keys ks) r.0 s.0

  abbrev by_all : Keyed → Keyed → Ordering
  by_all r s = full_cmp (sort_keys ks) r.0 s.0

  agree : (r s : Keyed) → IsAsLong r → IsAsLong s → by_keys r s ≡ by_all r s
  agree r s h k = as_full ks r.0 s.0 h k

  total : IsTotalOrder by_all
  total = on_total (λ (r : Keyed). r.0) (full_total (sort_keys ks))

  with_bytes : FullKeysStandAsValues → (r s : Keyed) → IsKeyed r → IsKeyed s → by_all r s ≡ by_bytes ks r s
  with_bytes full r s h k = sym (agree r s h.0 k.0) ∙ sym (full (sort_keys ks) r.0 s.0 h.1 k.1 (h.0 ∙ sym k.0))

pub groups_are_some : (ks : List Term) (found : List Keyed) → (length ks ≡ 0 → ⊥) → AllSome (grouped ks found)
groups_are_some [] found some = absurd (some refl)
groups_are_some (k ∷ ks) found some = groups_some (λ r s. is_eq (by_keys (k ∷ ks) r s)) (sorted (by_keys (k ∷ ks)) found)

groups_are_long : (ks : List Term) (found : List Keyed) → AreAsLong ks found → AllByRecursion (AllByRecursion (IsAsLong ks)) (grouped ks found)
groups_are_long [] found h = (h, tt)
groups_are_long (k ∷ ks) found h = all_grouped (IsAsLong (k ∷ ks)) (by_keys (k ∷ ks)) found h

module _ (ks ts : List Term) where
  heads_of : (es : List MapEntry) (gs : List (List Keyed)) → HoldGroups ks ts es gs → HaveHeldKeys es → AllByRecursion (AllByRecursion (IsAsLong ks)) gs → AllHeads (IsKeyed ks) gs
  heads_of [] [] h held long = tt
  heads_of [] (g ∷ gs) h held long = absurd h
  heads_of (e ∷ es) [] h held long = absurd h
  heads_of (e ∷ es) ([] ∷ gs) h held long = heads_of es gs h.1 held.1 long.1
  heads_of (e ∷ es) ((y ∷ ys) ∷ gs) h held long = ((long.0.0, subst (All IsHeld) h.0.1 held.0.1), heads_of es gs h.1 held.1 long.1)

  -- the first row of each group has keys as the program has them
  pub heads_keyed : (es : List MapEntry) (found : List Keyed) → HoldGroups ks ts es (grouped ks found) → HaveHeldKeys es → AreAsLong ks found → AllHeads (IsKeyed ks) (grouped ks found)
  heads_keyed es found h held long = heads_of es (grouped ks found) h held (groups_are_long ks found long)

pub grouped_more : FullKeysStandAsValues → (ks : List Term) (before : List Keyed) (r : Keyed) → (length ks ≡ 0 → ⊥) → AreAsLong ks before → IsKeyed ks r → AllHeads (IsKeyed ks) (grouped ks before)
    → grouped ks (before ++ r ∷ []) ≡ put_last (by_bytes ks) r (grouped ks before)
grouped_more full [] before r some h k heads = absurd (some refl)
grouped_more full (t ∷ ts) before r some h k heads =
    grouped_as (IsAsLong (t ∷ ts)) (by_keys (t ∷ ts)) (by_all (t ∷ ts)) (agree (t ∷ ts)) (before ++ r ∷ []) (more_all (IsAsLong (t ∷ ts)) before r h k.0)
    ∙ (put_is (by_all (t ∷ ts)) (total (t ∷ ts)) before r
    ∙ (ap (put_last (by_all (t ∷ ts)) r) (sym (grouped_as (IsAsLong (t ∷ ts)) (by_keys (t ∷ ts)) (by_all (t ∷ ts)) (agree (t ∷ ts)) before h))
    ∙ put_as (IsKeyed (t ∷ ts)) (by_all (t ∷ ts)) (by_bytes (t ∷ ts)) r (λ s l. with_bytes (t ∷ ts) full r s k l) (grouped (t ∷ ts) before) heads))

-- ---- what is answered with one more row

pub tells : {B : Type 0} (ts : List Term) (now : List Row) (Is : Type 0) (x y : B) (result : Result Unit Fault) → TakesArguments ts now Is result → (Is → x ≡ y) → AnswersBy (λ u. y) (arguments_at ts now then λ vs. let l : Answer B = Ok x in l) result
tells {B} ts now Is x y (Ok u) h k = ap (λ (a : Answer (List Value)). a then λ vs. let l : Answer B = Ok x in l) h.0.1 ∙ ap (λ (z : B). let l : Answer B = Ok z in l) (k h.1)
tells {B} ts now Is x y (Err fault) h k = refuses_on fault (arguments_at ts now) (λ vs. let l : Answer B = Ok x in l) h

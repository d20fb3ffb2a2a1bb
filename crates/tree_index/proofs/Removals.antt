-- An entry that is taken out of a tree, from the page at the top on.
use Rattle.std.proofs.Common.{◌≡◌, ◌<◌, ◌+◌, ℕ, zero, suc, true, false, List, ◌∷◌, ◌++◌, append_assoc, length, map, slice_index_or, sym, ap, subst, ◌∙◌, arith}
use Rattle.std.specs.Prelude.{Result, Ok, Err, MatchResult}
use Rattle.sqlval.specs.declared.collation.Collation.{Collation}
use Rattle.sqlval.specs.declared.fault.Fault.{Fault}
use Rattle.pages.specs.Calls.{IsOutsideOrFull}
use Rattle.pages.specs.Map.{PageMap}
use Rattle.tree_pack.specs.declared.spreading.Packed.{Packed}
use Rattle.tree_index.specs.Entries.{Entry, AreEntries, AreLong, has_entry, without_entry}
use Rattle.tree_index.specs.Growing.{IsEqualAt, StepsFrom, IsUnder, IsWayTo}
use Rattle.tree_index.specs.Joining.{tree_at, left_at, right_at}
use Rattle.tree_index.specs.Removing.{TakesAt, IsTakenOut, IsLessened, Lessens, Narrows, count_at, entries_cut}
use Rattle.tree_index.specs.Tree.{Held, Tree, top, entries_of}
use Rattle.tree_index.specs.declared.placing.Step.TheVariants.{Found, Here, Down}
use Rattle.tree_index.specs.declared.removing.Loss.{Loss}
use Rattle.tree_index.specs.declared.removing.Loss.TheVariants.{Still, Done, Spread}
use Rattle.tree_index.proofs.Inserts.{leaf_absent, nothing}
use Rattle.tree_index.proofs.Narrowing.{child_refused, above_still, above_done}
use Rattle.tree_index.proofs.Orders.{not_less_first}
use Rattle.tree_index.proofs.Pairs.{one, pair_entries, held_is, between_len}
use Rattle.tree_index.proofs.Subtrees.{entries_at, entries_between}
use Rattle.tree_index.proofs.Widening.{stepped, step_found, kids_alike, none_some, some_none, some_is}
use Rattle.tree_index.proofs.Without.{leaf_without, others_rise, without_one}

module _ (columns : List Collation) (x : Entry) (rest : List Entry) (long_all : AreLong columns (x ∷ rest)) where
  long_x : length x ≡ length columns + 1
  long_x = long_all.0

  -- the entry at the place goes, and no other
  cut_is : (depth place : ℕ) (t : Tree depth) → AreEntries columns (entries_of depth t) → IsEqualAt columns x (entries_at depth t) place → entries_cut depth place t ≡ without_entry columns x (entries_of depth t)
  cut_is zero place t sorted equal = sym (leaf_without columns x long_x t.entries place sorted equal)
  cut_is (suc depth) place t sorted equal =
      let lt : place < length t.kids = (let lt = equal.0 in let e = between_len t.kids in omega (arith, lt, e)) in
      let l = left_at (entries_of depth) one place t.kids t.last in
      let a = entries_of depth (tree_at place t.kids t.last) in
      let b = entries_of depth (tree_at (suc place) t.kids t.last) in
      let r = right_at (entries_of depth) one (suc place) t.kids t.last in
      let e = (slice_index_or (entries_between t.kids) place nothing).entry in
      let whole : entries_of (suc depth) t ≡ (l ++ a) ++ (e ∷ (b ++ r)) = (
      pair_entries (entries_of depth) place t.kids t.last lt
      ∙ ap (λ (held : List Held). l ++ (a ++ (map (λ h. h.entry) held ++ (b ++ r)))) (held_is place t.kids nothing lt)
      ∙ sym (append_assoc l a (e ∷ (b ++ r)))) in
      sym (ap (without_entry columns x) whole ∙ without_one columns x long_x (l ++ a) e (b ++ r) (subst (λ (es : List Entry). AreEntries columns es) whole sorted) (equal.1 nothing)
      ∙ append_assoc l a (b ++ r) ∙ ap (λ (es : List Entry). l ++ es) (sym (append_assoc a b r)))

  within : (depth place : ℕ) (t : Tree depth) → IsEqualAt columns x (entries_at depth t) place → place < count_at depth t
  within zero place t equal = equal.0
  within (suc depth) place t equal = (let lt = equal.0 in let e = between_len t.kids in omega (arith, lt, e))

  module _ (old : PageMap) (size number : ℕ) where
    -- it is on the page at the top
    pub found_taken : (new : PageMap) (place depth : ℕ) (t : Tree depth) (free : List ℕ) → IsUnder old size number depth columns depth t free → StepsFrom old size number columns x (Ok (Found place))
        → (result : Result Loss Fault) → TakesAt old new size number place depth columns rest result → MatchResult result (IsLessened old new size number columns x rest depth t free) IsOutsideOrFull
    found_taken new place depth t free under steps result takes = by result (takes depth t free under.stands under.sized (within depth place t equal) (subst (λ (es : List Entry). AreEntries columns es) (sym cut) (others_rise columns x (entries_of depth t) under.sorted)) long_all.1)
      where
        equal : IsEqualAt columns x (entries_at depth t) place
        equal = (stepped old size number depth columns x depth t free under (Ok (Found place)) steps).1

        there : has_entry columns x (entries_of depth t) ≡ true
        there = step_found old size number depth columns x place depth t free under steps

        cut : entries_cut depth place t ≡ without_entry columns x (entries_of depth t)
        cut = cut_is depth place t under.sorted equal

        by : (result : Result Loss Fault) → MatchResult result (IsTakenOut old new size number depth columns rest (entries_cut depth place t) t free) IsOutsideOrFull
            → MatchResult result (IsLessened old new size number columns x rest depth t free) IsOutsideOrFull
        by (Ok Still) none = absurd none
        by (Ok (Done more)) out = (there, subst (λ (es : List Entry). IsTakenOut old new size number depth columns rest es t free (Done more)) cut out)
        by (Ok (Spread p)) out = (there, subst (λ (es : List Entry). IsTakenOut old new size number depth columns rest es t free (Spread p)) cut out)
        by (Err fault) refused = refused

    -- a leaf hasn't it
    pub here_still : (place depth : ℕ) (t : Tree depth) (free : List ℕ) → IsUnder old size number depth columns depth t free → StepsFrom old size number columns x (Ok (Here place)) → has_entry columns x (entries_of depth t) ≡ false
    here_still place zero t free under steps =
        let is = stepped old size number zero columns x zero t free under (Ok (Here place)) steps in
        leaf_absent columns x t.entries (not_less_first columns x (entries_of zero t) under.sorted) (λ equal. is.1 (subst (λ (n : ℕ). IsEqualAt columns x t.entries n) (sym is.0) equal))
    here_still place (suc depth) t free under steps = absurd (some_none _ (stepped old size number (suc depth) columns x (suc depth) t free under (Ok (Here place)) steps).2)

    pub leaf_ends : (place child depth : ℕ) → depth ≡ 0 → (t : Tree depth) (free : List ℕ) → IsUnder old size number depth columns depth t free → StepsFrom old size number columns x (Ok (Down place child)) → ⊥
    leaf_ends place child zero none t free under steps = none_some _ (stepped old size number zero columns x zero t free under (Ok (Down place child)) steps).2
    leaf_ends place child (suc depth) none t free under steps = omega (arith, none)

    -- ---- it is below a child, if it is there

    module _ (depth place child : ℕ) (steps : StepsFrom old size number columns x (Ok (Down place child))) where
      way_to : (t : Tree (suc depth)) (free : List ℕ) → IsUnder old size number (suc depth) columns (suc depth) t free → IsWayTo columns x depth t place child
      way_to t free under =
          let is = stepped old size number (suc depth) columns x (suc depth) t free under (Ok (Down place child)) steps in
          record {
            place_is = is.0;
            other = is.1;
            child_is = some_is _ _ (sym is.2) ∙ kids_alike (top depth) old size place (under.stands.lies.0).said t.kids (top depth t.last) (under.stands.lies.0).children;
          }

      pub down_refused : (mid : PageMap) (fault : Fault) → Lessens old mid size child depth columns x rest (Err fault) → (t : Tree (suc depth)) (free : List ℕ) → IsUnder old size number (suc depth) columns (suc depth) t free
          → IsOutsideOrFull fault
      down_refused mid fault lessens t free under = child_refused old size number depth columns x rest t free under long_all place child (way_to t free under) mid fault lessens

      pub down_still : (mid : PageMap) → Lessens old mid size child depth columns x rest (Ok Still) → Lessens old mid size number (suc depth) columns x rest (Ok Still)
      down_still mid lessens t free under long = above_still old size number depth columns x rest t free under long_all place child (way_to t free under) mid lessens

      pub down_done : (mid : PageMap) (more : ℕ) → Lessens old mid size child depth columns x rest (Ok (Done more)) → Lessens old mid size number (suc depth) columns x rest (Ok (Done more))
      down_done mid more lessens t free under long = above_done old size number depth columns x rest t free under long place child (way_to t free under) mid more lessens

      pub down_spread : (mid new : PageMap) (packed : Packed) → Lessens old mid size child depth columns x rest (Ok (Spread packed)) → (result : Result Loss Fault) → Narrows mid new size number place child packed depth result
          → Lessens old new size number (suc depth) columns x rest result
      down_spread mid new packed lessens result narrows t free under long = narrows old columns x rest t free under long_all (way_to t free under) lessens

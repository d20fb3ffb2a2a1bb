-- Packed pages that are stored as the top of a tree, which is built anew where its ways would be too long.
use Rattle.std.proofs.Common.{◌≡◌, ◌<◌, ◌∙◌, refl, subst, ℕ, suc, Bool, true, false, List, [], ◌∷◌, inl, inr, arith}
use Rattle.std.specs.Prelude.{⊤, Result, Ok, Err, MatchResult}
use Rattle.sqlval.specs.declared.collation.Collation.{Collation}
use Rattle.sqlval.specs.declared.fault.Fault.{Fault}
use Rattle.pages.specs.Calls.{IsOutsideOrFull}
use Rattle.pages.specs.Counting.{Moves}
use Rattle.pages.specs.Map.{PageMap}
use Rattle.pages.proofs.Moving.{in_sequence}
use Rattle.tree_overflow.proofs.Laying.{keeps_then}
use Rattle.tree_page.specs.declared.items.Kind.TheVariants.{IndexInterior}
use Rattle.tree_pack.specs.declared.spreading.Packed.{Packed}
use Rattle.tree_store.specs.Storing.{IsRooted, Roots}
use Rattle.tree_index.specs.Calls.{Stands, BecomesEntries}
use Rattle.tree_index.specs.Entries.{Entry, AreEntries}
use Rattle.tree_index.specs.Flattening.{IsBuilt, Flattens}
use Rattle.tree_index.specs.Freeing.{below_of}
use Rattle.tree_index.specs.Growing.{IsDeep, IsPlanned, IsPut}
use Rattle.tree_index.specs.Tree.{entries_of, pages_of}
use Rattle.tree_index.proofs.Rooting.{put_becomes, put_stands, root_free, root_there, root_unfree, can_root, lifted_put, rooted_becomes}

module _ (old : PageMap) (size root : ℕ) (columns : List Collation) (entries all : List Entry) (used free : List ℕ) (is : Stands old size root columns entries used free) (sorted : AreEntries columns all) (mid : PageMap)
    (packed : Packed) (deep : Bool) (deep_is : IsDeep 19 is.tree.depth deep) (plan : IsPlanned old mid size is.tree.depth all (below_of is.tree.depth is.tree.tree) free packed) where
  abbrev depth : ℕ
  depth = is.tree.depth

  abbrev was : List ℕ
  was = pages_of depth is.tree.tree

  rooted : (put : PageMap) (result : Result ⊤ Fault) → Roots mid put size root IndexInterior packed result → MatchResult result (λ done. IsRooted mid put size root IndexInterior plan.now_free packed) IsOutsideOrFull
  rooted put result roots =
      roots plan.now_free (root_free old size root columns entries used free is mid all sorted packed plan) (root_there old size root columns entries used free is mid all sorted packed plan)
      (root_unfree old size root columns entries used free is mid all sorted packed plan) refl (can_root old size root columns entries used free is mid all sorted packed plan)

  pub top_refused : (put : PageMap) (fault : Fault) → Roots mid put size root IndexInterior packed (Err fault) → IsOutsideOrFull fault
  top_refused put fault roots = rooted put (Err fault) roots

  -- the ways are short enough
  pub top_stored : (put : PageMap) → (deep ≡ true → packed.pieces.items ≡ []) → Roots mid put size root IndexInterior packed (Ok tt) → BecomesEntries old put size root columns all used free
  top_stored put lone roots = rooted_becomes old size root columns entries used free is mid all sorted packed plan put (short deep refl) (rooted put (Ok tt) roots)
    where
      short : (b : Bool) → deep ≡ b → (packed.pieces.items ≡ [] → ⊥) → depth < 19
      short true e some = absurd (some (lone e))
      short false e some = deep_is.short e

  lifted : (put : PageMap) → (packed.pieces.items ≡ [] → ⊥) → IsRooted mid put size root IndexInterior plan.now_free packed → IsPut old put size root (suc depth) all was free
  lifted put some (inl alone) = absurd (some alone.0)
  lifted put some (inr l) = lifted_put old size root columns entries used free is mid all sorted packed plan put l.1

  -- a tree that is built in its place
  built_becomes : (put new : PageMap) (p : IsPut old put size root (suc depth) all was free) → IsBuilt put new size root 16 (entries_of (suc depth) p.tree) (below_of (suc depth) p.tree) p.now_free
      → BecomesEntries old new size root columns all used free
  built_becomes put new p b =
      let q = b.put in
      let first = subst (λ (n : ℕ). Moves old put was free (n ∷ below_of (suc depth) p.tree) p.now_free) p.top_is p.moves in
      let few = b.shallow in
      put_becomes old size root columns entries used free is new b.depth all (omega (arith, few)) sorted (record {
        tree = q.tree;
        top_is = q.top_is;
        lies = q.lies;
        entries_are = q.entries_are ∙ p.entries_are;
        now_free = q.now_free;
        has = q.has;
        moves = in_sequence old put new was free (root ∷ below_of (suc depth) p.tree) p.now_free (pages_of b.depth q.tree) q.now_free first q.moves;
        header = keeps_then old put new p.header q.header;
      })

  pub top_built : (put new : PageMap) (result : Result ⊤ Fault) → (packed.pieces.items ≡ [] → ⊥) → Roots mid put size root IndexInterior packed (Ok tt) → Flattens put new size root result
      → MatchResult result (λ done. BecomesEntries old new size root columns all used free) IsOutsideOrFull
  top_built put new result some roots flattens =
      by result (flattens depth p.tree p.now_free (put_stands old size root columns entries used free is put (suc depth) 20 all (let lt = is.tree.shallow in omega (arith, lt)) p) is.sized)
    where
      p : IsPut old put size root (suc depth) all was free
      p = lifted put some (rooted put (Ok tt) roots)

      by : (result : Result ⊤ Fault) → MatchResult result (λ done. IsBuilt put new size root 16 (entries_of (suc depth) p.tree) (below_of (suc depth) p.tree) p.now_free) IsOutsideOrFull
          → MatchResult result (λ done. BecomesEntries old new size root columns all used free) IsOutsideOrFull
      by (Ok done) b = built_becomes put new p b
      by (Err fault) refused = refused

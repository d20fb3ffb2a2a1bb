-- Packed pages that are stored as the top of a tree, which is built anew where its ways would be too long.
use Rattle.std.proofs.Common.{◌≡◌, ◌<◌, ◌∙◌, refl, subst, ℕ, suc, ℤ, Bool, true, false, List, [], ◌∷◌, inl, inr, arith}
use Rattle.std.specs.Prelude.{⊤, Result, Ok, Err, MatchResult}
use Rattle.sqlval.specs.declared.fault.Fault.{Fault}
use Rattle.tree_leaf.specs.Leaf.{Entry}
use Rattle.pages.specs.Calls.{IsOutsideOrFull}
use Rattle.pages.specs.Counting.{Moves}
use Rattle.pages.specs.Map.{PageMap}
use Rattle.pages.proofs.Moving.{in_sequence}
use Rattle.tree_overflow.proofs.Laying.{keeps_then}
use Rattle.tree_page.specs.declared.items.Kind.TheVariants.{TableInterior}
use Rattle.tree_pack.specs.declared.spreading.Packed.{Packed}
use Rattle.tree_store.specs.Storing.{IsRooted, Roots}
use Rattle.tree_table.specs.Calls.{Stands, BecomesRows}
use Rattle.tree_table.specs.Flattening.{IsBuilt, Flattens}
use Rattle.tree_table.specs.Freeing.{StandsUnder}
use Rattle.tree_table.specs.Growing.{below_of, IsUnder, IsDeep, IsPlanned, IsPut}
use Rattle.tree_table.specs.Tree.{pages_of, rows_of}
use Rattle.tree_table.proofs.Roots.{beside_free, put_up, root_free, root_there, root_unfree, can_root, lifted_put, rooted_becomes}

module _ (old : PageMap) (size root : ℕ) (rowid : ℤ) (rows all : List Entry) (used free : List ℕ) (is : Stands old size root rows used free) (low high : ℤ)
    (under : IsUnder old size root 19 rowid is.tree.depth low is.tree.tree high free) (mid : PageMap) (packed : Packed) (deep : Bool) (deep_is : IsDeep 19 is.tree.depth deep)
    (plan : IsPlanned old mid size root is.tree.depth low high all (below_of is.tree.depth is.tree.tree) free packed) where
  abbrev depth : ℕ
  depth = is.tree.depth

  abbrev was : List ℕ
  was = pages_of depth is.tree.tree

  rooted : (put : PageMap) (result : Result ⊤ Fault) → Roots mid put size root TableInterior packed result → MatchResult result (λ done. IsRooted mid put size root TableInterior plan.now_free packed) IsOutsideOrFull
  rooted put result roots =
      roots plan.now_free (root_free old size root rowid rows used free is low high under mid all packed plan) (root_there old size root rowid rows used free is low high under mid all packed plan)
      (root_unfree old size root rowid rows used free is low high under mid all packed plan) refl (can_root old size root rowid rows used free is low high under mid all packed plan)

  pub top_refused : (put : PageMap) (fault : Fault) → Roots mid put size root TableInterior packed (Err fault) → IsOutsideOrFull fault
  top_refused put fault roots = rooted put (Err fault) roots

  -- the ways are short enough
  pub top_stored : (put : PageMap) → (deep ≡ true → packed.pieces.items ≡ []) → Roots mid put size root TableInterior packed (Ok tt) → BecomesRows old put size root all used free
  top_stored put lone roots = rooted_becomes old size root rowid rows used free is low high under mid all packed plan put (short deep refl) (rooted put (Ok tt) roots)
    where
      short : (b : Bool) → deep ≡ b → (packed.pieces.items ≡ [] → ⊥) → depth < 19
      short true e some = absurd (some (lone e))
      short false e some = deep_is.short e

  lifted : (put : PageMap) → (packed.pieces.items ≡ [] → ⊥) → IsRooted mid put size root TableInterior plan.now_free packed → IsPut old put size root (suc depth) low high all was free
  lifted put some (inl alone) = absurd (some alone.0)
  lifted put some (inr l) = lifted_put old size root rowid rows used free is low high under mid all packed plan put l.0 l.1

  -- a tree that is built in its place
  built_becomes : (put new : PageMap) (p : IsPut old put size root (suc depth) low high all was free) → IsBuilt put new size root 16 low high (rows_of (suc depth) p.tree) (below_of (suc depth) p.tree) p.now_free
      → BecomesRows old new size root all used free
  built_becomes put new p b =
      let q = b.put in
      let first = subst (λ (n : ℕ). Moves old put was free (n ∷ below_of (suc depth) p.tree) p.now_free) p.top_is p.moves in
      let whole : IsPut old new size root b.depth low high all was free = record {
        tree = q.tree;
        top_is = q.top_is;
        lies = q.lies;
        sorted = q.sorted;
        rows_are = q.rows_are ∙ p.rows_are;
        now_free = q.now_free;
        has = q.has;
        moves = in_sequence old put new was free (root ∷ below_of (suc depth) p.tree) p.now_free (pages_of b.depth q.tree) q.now_free first q.moves;
        header = keeps_then old put new p.header q.header;
      } in
      let few = b.shallow in
      (put_up old size root rowid rows used free is 16 new b.depth low high all (omega (arith, few)) few whole).0

  pub top_built : (put new : PageMap) (result : Result ⊤ Fault) → (packed.pieces.items ≡ [] → ⊥) → Roots mid put size root TableInterior packed (Ok tt) → Flattens put new size root result
      → MatchResult result (λ done. BecomesRows old new size root all used free) IsOutsideOrFull
  top_built put new result some roots flattens = by result (flattens depth low high p.tree p.now_free standing p.sorted is.sized)
    where
      p : IsPut old put size root (suc depth) low high all was free
      p = lifted put some (rooted put (Ok tt) roots)

      standing : StandsUnder put size root 20 (suc depth) p.tree p.now_free
      standing =
          let beside = beside_free old size root rowid rows used free is put (suc depth) p.tree p.now_free p.top_is p.has p.moves in
          record {
            top_is = p.top_is;
            lies = p.lies;
            shallow = (let lt = is.tree.shallow in omega (arith, lt));
            apart = beside.apart;
            first = beside.below;
            free_are = beside.free_are;
          }

      by : (result : Result ⊤ Fault) → MatchResult result (λ done. IsBuilt put new size root 16 low high (rows_of (suc depth) p.tree) (below_of (suc depth) p.tree) p.now_free) IsOutsideOrFull
          → MatchResult result (λ done. BecomesRows old new size root all used free) IsOutsideOrFull
      by (Ok done) b = built_becomes put new p b
      by (Err fault) refused = refused

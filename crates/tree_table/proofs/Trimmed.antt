-- A root whose second child is a leaf without rows.
use Rattle.std.proofs.Common.{◌≡◌, ◌≤◌, ◌<◌, ℕ, zero, suc, ℤ, pos, true, List, [], length, slice_index_or, Option, Some, None, refl, sym, subst, ◌∙◌, inl, arith}
use Rattle.std.specs.Prelude.{⊤, Result, Ok, Err, MatchResult, MatchOption}
use Rattle.sqlval.specs.declared.fault.Fault.{Fault}
use Rattle.sqlval.specs.Faults.{IsOutside}
use Rattle.tree_leaf.specs.Leaf.{Entry}
use Rattle.pages.specs.Calls.{IsOutsideOrFull}
use Rattle.pages.specs.Map.{PageMap}
use Rattle.tree_pack.specs.declared.spreading.Packed.{Packed}
use Rattle.tree_store.specs.Saying.{Says}
use Rattle.tree_store.specs.Sides.{children}
use Rattle.tree_store.specs.Storing.{IsRewritten, Rewrites}
use Rattle.tree_page.specs.Node.{Rows, Keys}
use Rattle.tree_table.specs.Calls.{Stands, BecomesRows, IsTreeEdited}
use Rattle.tree_table.specs.Freeing.{FindsParts, ReadsChild}
use Rattle.tree_table.specs.Growing.{below_of, all_of, IsPlanned, IsUnder}
use Rattle.tree_table.specs.Joining.{JoinsAt}
use Rattle.tree_table.specs.Lowering.{TrimsRoot}
use Rattle.tree_table.specs.Tree.{Tree, top, rows_of, Lies}
use Rattle.tree_table.specs.declared.freeing.Parts.{Parts}
use Rattle.tree_table.specs.declared.freeing.Parts.TheVariants.{Children}
use Rattle.tree_table.proofs.Clearing.{IsTold, by_kids, child_is, each_at, standing}
use Rattle.tree_table.proofs.Roots.{BecomesUpTo, bounds, root_under, root_free, root_there, root_unfree, can_root, rewritten_up}
use Rattle.tree_table.proofs.Settled.{becomes_then}

-- ---- the second child

told_top : (m : PageMap) (size depth : ℕ) (t : Tree depth) → Lies m size depth t → IsTold m (top depth t)
told_top m size zero t lies = record { node = Rows lies.said; says = lies.says; ours = tt }
told_top m size (suc depth) t lies = record { node = Keys (children (top depth) t.kids) (top depth t.last); says = lies.0; ours = tt }

module _ (old : PageMap) (size root : ℕ) (rows : List Entry) (used free : List ℕ) (is : Stands old size root rows used free) (parts : Parts) (finds : FindsParts old size root (Ok parts)) (two : parts ≡ Children 2) where
  pub deep : 1 ≤ is.tree.depth
  deep =
      by_kids old size root 19 2 is.tree.depth is.tree.tree free parts (λ (depth : ℕ) (t : Tree depth). 1 ≤ depth) (standing old size root rows used free is) finds two (λ less u s e. omega arith)

  pub second_unread : (fault : Fault) → ReadsChild old size root 1 (Err fault) → IsOutside fault
  second_unread fault reads =
      by_kids old size root 19 2 is.tree.depth is.tree.tree free parts (λ (depth : ℕ) (t : Tree depth). IsOutside fault) (standing old size root rows used free is) finds two (λ less u s e.
      reads (children (top less) u.kids) (top less u.last) (s.free_are).whole
      (subst (λ (n : ℕ). Says old n (Keys (children (top less) u.kids) (top less u.last))) s.top_is s.lies.0))

  pub second_told : (child : ℕ) → ReadsChild old size root 1 (Ok child) → IsTold old child
  second_told child reads =
      by_kids old size root 19 2 is.tree.depth is.tree.tree free parts (λ (depth : ℕ) (t : Tree depth). IsTold old child) (standing old size root rows used free is) finds two (λ less u s e.
      (let here = reads (children (top less) u.kids) (top less u.last) (s.free_are).whole (subst (λ (n : ℕ). Says old n (Keys (children (top less) u.kids) (top less u.last))) s.top_is s.lies.0) in
      let lt : 1 < suc (length u.kids) = omega (arith, e) in
      subst (λ (n : ℕ). IsTold old n) (sym (here ∙ child_is (top less) u.kids u.last u.last 1 lt))
      (told_top old size less (slice_index_or (all_of u.kids u.last) 1 u.last) (each_at (Lies old size less) u.kids u.last u.last 1 lt s.lies.1))))

-- ---- the first child alone

module _ (old : PageMap) (size root : ℕ) (rows : List Entry) (used free : List ℕ) (is : Stands old size root rows used free) where
  abbrev depth : ℕ
  depth = is.tree.depth

  abbrev pub IsTwoJoined : PageMap → Option Packed → Type 0
  IsTwoJoined mid joined = MatchOption joined (mid ≡ old)
      (IsPlanned old mid size root depth (bounds old size root (pos 0) rows used free is).less (bounds old size root (pos 0) rows used free is).more (rows_of depth is.tree.tree) (below_of depth is.tree.tree) free)

  pub two_joined : (mid : PageMap) (result : Result (Option Packed) Fault) → 1 ≤ depth → JoinsAt old mid size root 1 result → MatchResult result (IsTwoJoined mid) IsOutsideOrFull
  two_joined mid result some joins = by depth is.tree.tree (root_under old size root (pos 0) rows used free is) some
    where
      less : ℤ
      less = (bounds old size root (pos 0) rows used free is).less

      more : ℤ
      more = (bounds old size root (pos 0) rows used free is).more

      by : (d : ℕ) (t : Tree d) → IsUnder old size root 19 (pos 0) d less t more free → 1 ≤ d
          → MatchResult result (λ joined. MatchOption joined (mid ≡ old) (IsPlanned old mid size root d less more (rows_of d t) (below_of d t) free)) IsOutsideOrFull
      by zero t under le = absurd (omega (arith, le))
      by (suc d) t under le = joins 19 (pos 0) d less t more free under

  pub none_joined : (mid : PageMap) (found : Option Packed) → ((packed : Packed) → found ≡ Some packed → ⊥) → IsTwoJoined mid found → mid ≡ old
  none_joined mid (Some packed) none at = absurd (none packed refl)
  none_joined mid None none at = at

  pub trimmed : (mid new : PageMap) (packed : Packed) (result : Result ⊤ Fault) → IsTwoJoined mid (Some packed) → packed.pieces.items ≡ [] → Rewrites mid new size root packed.last.items result
      → MatchResult result (λ done. BecomesUpTo old new size root depth rows used free) IsOutsideOrFull
  trimmed mid new packed result plan none rewrites =
      by result (rewrites plan.now_free (root_free old size root (pos 0) rows used free is (bounds old size root (pos 0) rows used free is).less (bounds old size root (pos 0) rows used free is).more (root_under old size root (pos 0) rows used free is) mid all packed plan) (root_there old size root (pos 0) rows used free is (bounds old size root (pos 0) rows used free is).less (bounds old size root (pos 0) rows used free is).more (root_under old size root (pos 0) rows used free is) mid all packed plan)
      (root_unfree old size root (pos 0) rows used free is (bounds old size root (pos 0) rows used free is).less (bounds old size root (pos 0) rows used free is).more (root_under old size root (pos 0) rows used free is) mid all packed plan) ((can_root old size root (pos 0) rows used free is (bounds old size root (pos 0) rows used free is).less (bounds old size root (pos 0) rows used free is).more (root_under old size root (pos 0) rows used free is) mid all packed plan).front none))
    where
      all : List Entry
      all = rows_of depth is.tree.tree

      by : (result : Result ⊤ Fault) → MatchResult result (λ done. IsRewritten mid new size plan.now_free root packed.last.items) IsOutside
          → MatchResult result (λ done. BecomesUpTo old new size root depth rows used free) IsOutsideOrFull
      by (Err fault) outside = inl outside
      by (Ok done) r =
          subst (λ (xs : List Entry). BecomesUpTo old new size root depth xs used free) is.tree.rows_are (rewritten_up old size root (pos 0) rows used free is (bounds old size root (pos 0) rows used free is).less (bounds old size root (pos 0) rows used free is).more (root_under old size root (pos 0) rows used free is) mid all packed plan new none r)

-- ---- after a row was put in

pub trimmed_then : (Skips Acts : Option (List ℕ) → Type 0) (old mid new : PageMap) (size root : ℕ) (rowid : ℤ) (edit : List Entry → List Entry) (rows : List Entry) (used free : List ℕ) (result : Result ⊤ Fault)
    → IsTreeEdited Skips Acts old mid size root rowid edit rows used free true → TrimsRoot mid new size root result
    → MatchResult result (λ done. IsTreeEdited Skips Acts old new size root rowid edit rows used free true) IsOutsideOrFull
trimmed_then Skips Acts old mid new size root rowid edit rows used free result edited trims = by result (trims (edit rows) now.now_used now.now_free now.stands)
  where
    now : BecomesRows old mid size root (edit rows) used free
    now = edited.1

    by : (result : Result ⊤ Fault) → MatchResult result (λ done. BecomesUpTo mid new size root now.stands.tree.depth (edit rows) now.now_used now.now_free) IsOutsideOrFull
        → MatchResult result (λ done. IsTreeEdited Skips Acts old new size root rowid edit rows used free true) IsOutsideOrFull
    by (Err fault) refused = refused
    by (Ok done) after = (edited.0, becomes_then old mid new size root (edit rows) (edit rows) used free now after.0)

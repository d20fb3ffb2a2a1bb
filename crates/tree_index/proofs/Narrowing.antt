-- An interior page one of whose children lost an entry.
use Rattle.std.proofs.Common.{◌≡◌, ◌≤◌, ◌<◌, ℕ, suc, true, List, [], ◌∷◌, length, take, refl, sym, ap, subst, ◌∙◌, arith}
use Rattle.std.specs.Prelude.{Result, Ok, Err, MatchResult}
use Rattle.sqlval.specs.declared.collation.Collation.{Collation}
use Rattle.sqlval.specs.declared.fault.Fault.{Fault}
use Rattle.sqlval.specs.declared.fault.Fault.TheVariants.{Memory}
use Rattle.pages.specs.Calls.{IsOutsideOrFull}
use Rattle.pages.specs.Counting.{Moves}
use Rattle.pages.specs.Map.{PageMap, page_at, AreWhole, IsThere}
use Rattle.pages.proofs.Moving.{in_sequence}
use Rattle.tree_overflow.proofs.Laying.{keeps_then}
use Rattle.tree_page.specs.Cells.{Pairwise}
use Rattle.tree_page.specs.Node.{Local, Between, IsNode, IsBetweenCell}
use Rattle.tree_pack.specs.declared.spreading.Packed.{Packed}
use Rattle.tree_store.specs.Saying.{Says}
use Rattle.tree_store.specs.Sides.{children}
use Rattle.tree_store.specs.Storing.{IsStored, Stores, cells_of}
use Rattle.tree_store.specs.declared.storing.Fan.{Fan}
use Rattle.tree_index.specs.Comparing.{front_count, is_less, child_at}
use Rattle.tree_index.specs.Entries.{Entry, AreEntries, AreLong, GoInTurn, has_entry, without_entries, without_entry}
use Rattle.tree_index.specs.Freeing.{StandsUnder, below_of}
use Rattle.tree_index.specs.Growing.{IsEqualAt, IsUnder, IsPlanned, IsPut, IsWayTo, Fans}
use Rattle.tree_index.specs.Joining.{JoinsAt}
use Rattle.tree_index.specs.Removing.{IsLessened, Lessens}
use Rattle.tree_index.specs.Tree.{Held, IsKidAs, Tree, top, entries_of, pages_of}
use Rattle.tree_index.specs.declared.removing.Loss.{Loss}
use Rattle.tree_index.specs.declared.removing.Loss.TheVariants.{Still, Done, Spread}
use Rattle.tree_index.proofs.Branches.{kid, left, right, split, under_child, has_same, put_above, put_parts, put_moves, grown_alone, page_at_mid, long_mid, plan_above}
use Rattle.tree_index.proofs.Clearing.{number_far}
use Rattle.tree_index.proofs.Emptied.{large_size}
use Rattle.tree_index.proofs.Going.{first_long, go_within}
use Rattle.tree_index.proofs.Growth.{IsGrown, grown, planned_after, can_store}
use Rattle.tree_index.proofs.Leaves.{usual}
use Rattle.tree_index.proofs.Orders.{count_within}
use Rattle.tree_index.proofs.Rows.{child_there}
use Rattle.tree_index.proofs.Shares.{IsAfter, after, start_after}
use Rattle.tree_index.proofs.Subtrees.{IsTold, told, entries_between, tree_up, below_up}
use Rattle.tree_index.proofs.Widening.{full_or}
use Rattle.tree_index.proofs.Without.{without_local}

pub lessened_since : (old mid new : PageMap) (size number : ℕ) (columns : List Collation) (x : Entry) (rest : List Entry) (depth : ℕ) (t : Tree depth) (free : List ℕ) (loss : Loss) → new ≡ mid
    → IsLessened old mid size number columns x rest depth t free loss → IsLessened old new size number columns x rest depth t free loss
lessened_since old mid new size number columns x rest depth t free loss same is = subst (λ (m : PageMap). IsLessened old m size number columns x rest depth t free loss) (sym same) is

module _ (old : PageMap) (size number depth : ℕ) (columns : List Collation) (x : Entry) (rest : List Entry) (t : Tree (suc depth)) (free : List ℕ) (under : IsUnder old size number (suc depth) columns (suc depth) t free)
    (long_x : AreLong columns (x ∷ rest)) (place child : ℕ) (way : IsWayTo columns x depth t place child) where
  pub other : IsEqualAt columns x (entries_between t.kids) (front_count (is_less columns x) (entries_between t.kids)) → ⊥
  other equal = way.other (subst (λ (n : ℕ). IsEqualAt columns x (entries_between t.kids) n) (sym way.place_is) equal)

  abbrev at_kid : Tree depth
  at_kid = kid old size number depth columns x depth t free under other

  abbrev edit : List Entry → List Entry
  edit = without_entry columns x

  child_same : child ≡ top depth at_kid
  child_same = way.child_is ∙ ap (λ (n : ℕ). child_at n (children (top depth) t.kids) (top depth t.last)) way.place_is
      ∙ child_there (top depth) (front_count (is_less columns x) (entries_between t.kids)) t.kids t.last

  under_now : IsUnder old size (top depth at_kid) depth columns depth at_kid free
  under_now = under_child old size number depth columns x depth t free under other

  pub child_lessened : (mid : PageMap) (loss : Loss) → Lessens old mid size child depth columns x rest (Ok loss) → IsLessened old mid size (top depth at_kid) columns x rest depth at_kid free loss
  child_lessened mid loss lessens = subst (λ (n : ℕ). Lessens old mid size n depth columns x rest (Ok loss)) child_same lessens at_kid free under_now long_x

  pub child_refused : (mid : PageMap) (fault : Fault) → Lessens old mid size child depth columns x rest (Err fault) → IsOutsideOrFull fault
  child_refused mid fault lessens = subst (λ (n : ℕ). Lessens old mid size n depth columns x rest (Err fault)) child_same lessens at_kid free under_now long_x

  same : has_entry columns x (entries_of (suc depth) t) ≡ has_entry columns x (entries_of depth at_kid)
  same = has_same old size number depth columns x depth t free under other

  -- where the entry isn't there, or the child stays, the page stays
  pub above_still : (mid : PageMap) → Lessens old mid size child depth columns x rest (Ok Still) → IsLessened old mid size number columns x rest (suc depth) t free Still
  above_still mid lessens = (let is = child_lessened mid Still lessens in (same ∙ is.0, is.1))

  pub above_done : (mid : PageMap) (more : ℕ) → Lessens old mid size child depth columns x rest (Ok (Done more)) → IsLessened old mid size number columns x rest (suc depth) t free (Done more)
  above_done mid more lessens =
      let is = child_lessened mid (Done more) lessens in
      let gone = x ∷ take more rest in
      let parts = split old size number depth columns x depth t free under other in
      let l = left old size number depth columns x depth t free under other in
      let r = right old size number depth columns x depth t free under other in
      let go = go_within columns gone (long_x.0, first_long columns more rest long_x.1) l (entries_of depth at_kid) r (subst (λ (es : List Entry). AreEntries columns es) parts under.sorted) (is.0, is.1.1) in
      let all = subst (λ (es : List Entry). GoInTurn columns gone es) (sym parts) go.0 in (
        all.0,
        (is.1.0, all.1, put_parts old size number depth columns x depth t free under other (without_entries columns gone) (ap (without_entries columns gone) parts ∙ go.1) mid is.1.2),
      )

  module _ (mid : PageMap) (packed : Packed) (lessens : Lessens old mid size child depth columns x rest (Ok (Spread packed))) where
    spread : IsLessened old mid size (top depth at_kid) columns x rest depth at_kid free (Spread packed)
    spread = child_lessened mid (Spread packed) lessens

    abbrev all : List Entry
    all = edit (entries_of depth at_kid)

    present : has_entry columns x (entries_of (suc depth) t) ≡ true
    present = same ∙ spread.0

    -- the packed pages are stored
    store_or : (new : PageMap) (result : Result Fan Fault) → Stores mid new size (child ∷ []) packed result
        → MatchResult result (IsStored mid new size (top depth at_kid ∷ []) (spread.1).now_free packed) IsOutsideOrFull
    store_or new result stores = by result (subst (λ (n : ℕ). Stores mid new size (n ∷ []) packed result) child_same stores)
      where
        by : (result : Result Fan Fault) → Stores mid new size (top depth at_kid ∷ []) packed result → MatchResult result (IsStored mid new size (top depth at_kid ∷ []) (spread.1).now_free packed) IsOutsideOrFull
        by (Ok fan) stores =
            stores (spread.1).now_free (planned_after old mid size (top depth at_kid) depth depth at_kid free under_now.stands all packed spread.1).are
            (can_store old mid size (top depth at_kid) depth depth at_kid free under_now.stands all packed spread.1) (spread.1).sized
        by (Err fault) stores = full_or fault (
            stores (spread.1).now_free (planned_after old mid size (top depth at_kid) depth depth at_kid free under_now.stands all packed spread.1).are
            (can_store old mid size (top depth at_kid) depth depth at_kid free under_now.stands all packed spread.1) (spread.1).sized)

    pub store_refused : (new : PageMap) (fault : Fault) → Stores mid new size (child ∷ []) packed (Err fault) → IsOutsideOrFull fault
    store_refused new fault stores = store_or new (Err fault) stores

    module _ (new : PageMap) (fan : Fan) (stores : Stores mid new size (child ∷ []) packed (Ok fan)) where
      pub g : IsGrown old new size (top depth at_kid) depth all (pages_of depth at_kid) free fan
      g = grown old mid size (top depth at_kid) depth depth at_kid free under_now.stands all packed spread.1 new fan (store_or new (Ok fan) stores)

      page_says : Says new number (Between (under.stands.lies.0).said (top depth t.last))
      page_says = page_at_mid old size number depth columns x depth t free under other edit new fan g

      long : length (page_at new number) ≡ size
      long = long_mid old size number depth columns x depth t free under other edit new fan g

      pub page_there : IsThere new size number
      page_there = record { has = page_says.has; whole = long }

      node : IsNode (page_at new number) 0 (Between (under.stands.lies.0).said (top depth t.last))
      node = subst (λ (n : ℕ). IsNode (page_at new number) n (Between (under.stands.lies.0).said (top depth t.last))) (start_after number (number_far old size number (suc depth) (suc depth) t free under.stands)) page_says.node_is

      within : front_count (is_less columns x) (entries_between t.kids) ≤ length (under.stands.lies.0).said
      within =
          let le = count_within (is_less columns x) (entries_between t.kids) in
          let pairs = counted (under.stands.lies.0).said t.kids (under.stands.lies.0).children in
          omega (arith, le, pairs)
        where
          counted : (said : List (ℕ × Local)) (kids : List (Tree depth × Held)) → Pairwise (IsKidAs old size) said (children (top depth) kids) → length said ≡ length (entries_between kids)
          counted [] [] pair = refl
          counted [] (kid ∷ kids) pair = absurd pair
          counted (it ∷ said) [] pair = absurd pair
          counted (it ∷ said) (kid ∷ kids) pair = ap suc (counted said kids pair.1)

      -- several pages took the child's place
      pub narrowed_spread : (page : List ℕ) (result : Result Packed Fault) → page ≡ page_at new number → Fans page place fan result
          → MatchResult result (λ p. IsLessened old new size number columns x rest (suc depth) t free (Spread p)) (λ fault. fault ≡ Memory)
      narrowed_spread page result page_is fans = by result
          (subst (λ (n : ℕ). Fans (page_at new number) n fan result) way.place_is (subst (λ (p : List ℕ). Fans p place fan result) page_is fans))
        where
          cells : Pairwise (IsBetweenCell (length (page_at new number))) (cells_of fan) g.news
          cells = subst (λ (n : ℕ). Pairwise (IsBetweenCell n) (cells_of fan) g.news) (sym long) g.cells

          by : (result : Result Packed Fault) → Fans (page_at new number) (front_count (is_less columns x) (entries_between t.kids)) fan result
              → MatchResult result (λ p. IsLessened old new size number columns x rest (suc depth) t free (Spread p)) (λ fault. fault ≡ Memory)
          by (Ok p) fans = (
            present,
            plan_above old size number depth columns x depth t free under other edit new fan g (without_local columns x) p
                (fans (under.stands.lies.0).said g.news (top depth t.last) node (usual (page_at new number) size (large_size size under.sized) long) within g.near cells g.few),
          )
          by (Err fault) fans = fans (under.stands.lies.0).said g.news (top depth t.last) node (usual (page_at new number) size (large_size size under.sized) long) within g.near cells g.few

      module _ (alone : cells_of fan ≡ []) where
        abbrev pub child_put : IsPut old new size (top depth at_kid) depth (edit (entries_of depth at_kid)) (pages_of depth at_kid) free
        child_put = grown_alone old size number depth columns x depth t free under other edit new fan g alone

        abbrev pub put : IsPut old new size number (suc depth) (edit (entries_of (suc depth) t)) (pages_of (suc depth) t) free
        put = put_above old size number depth columns x depth t free under other edit (without_local columns x) new child_put

        below_moves : Moves old new (below_of (suc depth) t) free (below_of (suc depth) put.tree) put.now_free
        below_moves = put_moves old size number depth columns x depth t free under other edit (without_local columns x) new child_put

        -- one did
        pub narrowed_done : IsLessened old new size number columns x rest (suc depth) t free (Done 0)
        narrowed_done = (present, (omega arith, tt, put))

        past : IsAfter new size (below_of (suc depth) put.tree) put.now_free
        past = after old new size (below_of (suc depth) t) free (below_of (suc depth) put.tree) put.now_free under.stands.free_are below_moves put.has (below_up old size (suc depth) t under.stands.lies)
            (λ n. (let all = under.stands.apart n in omega (arith, all))) (let none = under.stands.first in omega (arith, none))

        all_past : IsAfter new size (pages_of (suc depth) put.tree) put.now_free
        all_past = after old new size (pages_of (suc depth) t) free (pages_of (suc depth) put.tree) put.now_free under.stands.free_are put.moves put.has (tree_up old size (suc depth) t under.stands.lies)
            under.stands.apart under.stands.first

        stands_now : StandsUnder new size number (suc depth) (suc depth) put.tree put.now_free
        stands_now = record {
          top_is = put.top_is;
          lies = put.lies;
          shallow = omega arith;
          apart = all_past.apart;
          first = all_past.first;
          free_are = all_past.are;
        }

        abbrev pub put_kids : List (Tree depth × Held)
        put_kids = (put.tree).kids

        pub told_now : IsTold new size number (suc depth) put.tree
        told_now = told new size number (suc depth) put.tree put.top_is put.lies

        pub whole_now : AreWhole size new
        whole_now = (all_past.are).whole

        -- and the child is joined with one beside it
        pub narrowed_joined : (final : PageMap) (first : ℕ) → first < length put_kids → (result : Result Packed Fault) → JoinsAt new final size number first depth result
            → MatchResult result (λ p. IsLessened old final size number columns x rest (suc depth) t free (Spread p)) IsOutsideOrFull
        narrowed_joined final first lt result joins = by result (joins (suc depth) put.tree put.now_free stands_now under.sized lt)
          where
            by : (result : Result Packed Fault) → MatchResult result (IsPlanned new final size (suc depth) (entries_of (suc depth) put.tree) (below_of (suc depth) put.tree) put.now_free) IsOutsideOrFull
                → MatchResult result (λ p. IsLessened old final size number columns x rest (suc depth) t free (Spread p)) IsOutsideOrFull
            by (Err fault) refused = refused
            by (Ok p) plan = (
              present,
              record {
                kids = plan.kids;
                last = plan.last;
                tops = plan.tops;
                divide = plan.divide;
                entries_are = plan.entries_are ∙ put.entries_are;
                now_free = plan.now_free;
                has = plan.has;
                moves = in_sequence old new final (below_of (suc depth) t) free (below_of (suc depth) put.tree) put.now_free _ plan.now_free below_moves plan.moves;
                header = keeps_then old new final put.header plan.header;
                sized = plan.sized;
                few = plan.few;
              },
            )

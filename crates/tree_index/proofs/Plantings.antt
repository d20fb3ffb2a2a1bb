-- Leaves of cells that are ready, and a tree that is built over them.
use Rattle.std.proofs.Common.{◌≡◌, ◌≤◌, ◌<◌, ◌+◌, ◌^◌, ◌∙◌, ap, refl, sym, subst, ℕ, zero, true, List, [], ◌∷◌, ◌++◌, length, map, inl, inr, arith}
use Rattle.std.specs.List.{AllByRecursion}
use Rattle.std.specs.Prelude.{Result, Ok, Err, MatchResult, ◌⊎◌, ⊤}
use Rattle.sqlval.specs.Faults.{IsOutside}
use Rattle.sqlval.specs.declared.fault.Fault.{Fault}
use Rattle.sqlval.specs.declared.fault.Fault.TheVariants.{Full}
use Rattle.pages.specs.Calls.{IsOutsideOrFull}
use Rattle.pages.specs.Counting.{occurs, Moves}
use Rattle.pages.specs.Map.{PageMap, page_at}
use Rattle.pages.proofs.Moving.{occurs_append}
use Rattle.tree_page.specs.Cells.{Pairwise}
use Rattle.tree_page.specs.Node.{Node, Entries, IsNode, IsBetweenCell}
use Rattle.tree_page.specs.declared.items.Kind.TheVariants.{IndexLeaf}
use Rattle.tree_pack.specs.Lists.{pieces, entry_parts}
use Rattle.tree_pack.specs.Packing.{AreOf, CanPack, images, divider_bytes, Packs}
use Rattle.tree_pack.specs.declared.spreading.Packed.{Packed}
use Rattle.tree_pack.specs.declared.spreading.Piece.{Piece}
use Rattle.tree_pack.proofs.SmallLemmas.{node_packs}
use Rattle.tree_store.specs.Saying.{Says}
use Rattle.tree_store.specs.Sides.{each_of}
use Rattle.tree_store.specs.Staying.{AreKept}
use Rattle.tree_store.specs.Storing.{AreOlds, IsRewritten, IsStored, Rewrites, Stores}
use Rattle.tree_store.specs.declared.storing.Fan.{Fan}
use Rattle.tree_store.proofs.PutPages.{put_there}
use Rattle.tree_index.specs.Entries.{Entry}
use Rattle.tree_index.specs.Filling.{AreReady}
use Rattle.tree_index.specs.Flattening.{BecomeRow, IsBuilt, BuildsOver}
use Rattle.tree_index.specs.Freeing.{below_of}
use Rattle.tree_index.specs.Growing.{entries_in}
use Rattle.tree_index.specs.Tree.{Held, Leaf, pages_of}
use Rattle.tree_index.proofs.Branches.{starts_at}
use Rattle.tree_index.proofs.Cutting.{AreLeaves, cut_leaf}
use Rattle.tree_index.proofs.Emptied.{can_stand, large_size}
use Rattle.tree_index.proofs.Flattened.{root_stays, still_unfree, built_or, row_few}
use Rattle.tree_index.proofs.Growth.{chain, pages_in}
use Rattle.tree_index.proofs.Planting.{lone_top, plant, tops_kept, dividers_kept, moved_to, top_moved, entries_moved, pages_moved, lies_moved}
use Rattle.tree_index.proofs.Shares.{AreUpTo, after, beside_used, others_kept, self_once, start_after}
use Rattle.tree_index.proofs.Subtrees.{entries_up}

last_sized : (size : ℕ) (pages : List (List ℕ)) (page : List ℕ) → AllByRecursion (λ image. length image ≡ size) (pages ++ page ∷ []) → length page ≡ size
last_sized size [] page h = h.0
last_sized size (other ∷ pages) page h = last_sized size pages page h.1

module _ (old : PageMap) (size root : ℕ) (entries : List Entry) (chains free : List ℕ) (cells : List (List ℕ)) (is : AreReady old size root entries chains free cells) where
  abbrev pub run_node : Node
  run_node = Entries is.said

  pub run_of : AreOf IndexLeaf size [] cells run_node
  run_of = record { kind_is = refl; right_is = refl; say = is.say }

  pub run_can : CanPack size 0 IndexLeaf cells
  run_can = (let sizes = large_size size is.sized in node_packs IndexLeaf size 0 [] cells run_node sizes.0 sizes.1 (omega arith) run_of)

  root_apart : occurs root chains + occurs root free ≡ 0
  root_apart = (let most = is.apart root in let one = self_once root chains in omega (arith, most, one))

  root_beside : (n : ℕ) → occurs n (root ∷ []) + occurs n chains + occurs n free ≤ 1
  root_beside n = (let most = is.apart n in let both = occurs_append n (root ∷ []) chains in omega (arith, most, both))

  no_olds : AreOlds old free []
  no_olds = record { there = tt; after = tt; once = is.free_are.once }

  module _ (packed : Packed) (packs : Packs IndexLeaf size [] true cells run_node packed) where
    cut : AreLeaves old size is.held (images packed) (divider_bytes packed)
    cut = cut_leaf old size packs.counts is.said is.held (images packed) (divider_bytes packed) is.are
        (subst (λ (n : ℕ). Pairwise (λ image node. IsNode image n node) (images packed) (map (λ part. Entries part) (pieces (entry_parts packs.counts is.said).0 (entry_parts packs.counts is.said).1)))
        (starts_at packs.counts) packs.say) packs.divide

    abbrev parts : List ℕ
    parts = each_of (below_of zero) chain cut.kids cut.last

    parts_are : parts ≡ chains
    parts_are = cut.chains_are ∙ is.chains_are

    beside_parts : (n : ℕ) → occurs n (root ∷ []) + occurs n parts + occurs n free ≤ 1
    beside_parts n = (let most = root_beside n in let same = ap (occurs n) parts_are in omega (arith, most, same))

    leaves_are : entries_in zero cut.kids cut.last ≡ entries
    leaves_are = cut.entries_are ∙ is.entries_are

    -- ---- one leaf

    alone_built : (new : PageMap) → packed.pieces.items ≡ [] → IsRewritten old new size free root packed.last.items → IsBuilt old new size root 16 entries chains free
    alone_built new none r =
        let kept : AreKept old new size parts = others_kept old new size (root ∷ []) free (root ∷ []) free parts is.free_are.whole r.moves
        (λ n some. (let most = beside_parts n in omega (arith, most, some))) in
        let lone = lone_top new size zero packed.pieces.items packed.last.items cut.kids cut.last none (tops_kept old new size zero (images packed) cut.kids cut.last kept cut.tops) in
        let t = moved_to zero root cut.last in
        let there = is.has in
        let bytes : page_at new root ≡ packed.last.items = ap (λ (m : PageMap). page_at m root) r.is ∙ put_there old root packed.last.items there in
        let says : Says new root (lone.1).node = record {
          has = record { first = there.first; last = (let b = there.last in let longer = (r.moves).longer in omega (arith, b, longer)) };
          node_is = subst (λ (n : ℕ). IsNode (page_at new root) n (lone.1).node) (sym (start_after root is.after)) (subst (λ (page : List ℕ). IsNode page 0 (lone.1).node) (sym bytes) (lone.1).says);
        } in
        record {
          depth = zero;
          shallow = omega arith;
          put = record {
            tree = t;
            top_is = top_moved zero root cut.last;
            lies = lies_moved new size zero root cut.last (lone.1).node (lone.1).shows says;
            entries_are = entries_moved zero root cut.last ∙ subst (λ (ks : List (Leaf × Held)). entries_in zero ks cut.last ≡ entries) lone.0 leaves_are;
            now_free = free;
            has = r.has;
            moves = beside_used old new (root ∷ []) free (root ∷ []) free chains (root ∷ chains) (pages_of zero t) r.moves (λ n. occurs_append n (root ∷ []) chains) (λ n.
                (let e = ap (occurs n) (pages_moved zero root cut.last) in let s = occurs_append n (root ∷ []) (below_of zero cut.last) in
                let f = ap (λ (ks : List (Leaf × Held)). occurs n (each_of (below_of zero) chain ks cut.last)) lone.0 in let g = ap (occurs n) parts_are in omega (arith, e, s, f, g)));
            header = r.header;
          };
        }

    pub alone_or : (new : PageMap) (result : Result ⊤ Fault) → packed.pieces.items ≡ [] → Rewrites old new size root packed.last.items result
        → MatchResult result (λ done. IsBuilt old new size root 16 entries chains free) IsOutsideOrFull
    alone_or new result none rewrites = by result (rewrites free is.free_are is.has (omega (arith, root_apart))
        (can_stand old size root packed.last.items is.after (last_sized size (map (λ (piece : Piece). piece.page.items) packed.pieces.items) packed.last.items packs.sized)))
      where
        by : (result : Result ⊤ Fault) → MatchResult result (λ done. IsRewritten old new size free root packed.last.items) IsOutside
            → MatchResult result (λ done. IsBuilt old new size root 16 entries chains free) IsOutsideOrFull
        by (Ok done) r = alone_built new none r
        by (Err fault) outside = inl outside

    -- ---- several

    stored_row : (mid : PageMap) (fan : Fan) → IsStored old mid size [] free packed fan → BecomeRow old mid size 0 entries chains free fan
    stored_row mid fan s =
        let stored = s.stored in
        let moves = stored.moves in
        let numbers = s.fronts ++ fan.last ∷ [] in
        let kept : AreKept old mid size parts = others_kept old mid size [] free numbers stored.now_free parts is.free_are.whole moves
        (λ n some. (let most = beside_parts n in omega (arith, most, some))) in
        let planted = plant mid size zero s.fronts fan.last (images packed) cut.kids cut.last (divider_bytes packed) stored.on
        (tops_kept old mid size zero (images packed) cut.kids cut.last kept cut.tops) (dividers_kept old mid size zero (divider_bytes packed) cut.kids cut.last kept cut.divide) in
        let now_pages = pages_in zero planted.kids planted.last in
        let all_moves : Moves old mid chains free now_pages stored.now_free =
        beside_used old mid [] free numbers stored.now_free chains chains now_pages moves (λ n. omega arith) (λ n. (let pages = planted.pages_are n in let part = ap (occurs n) parts_are in omega (arith, pages, part))) in
        let up : AreUpTo (length old) chains = subst (AreUpTo (length old)) is.chains_are (entries_up old size is.said is.held is.are) in
        let later = after old mid size chains free now_pages stored.now_free is.free_are all_moves stored.has up (λ n. (let most = root_beside n in omega (arith, most))) is.first in
        record {
          now_used = now_pages;
          now_free = stored.now_free;
          row = record {
            kids = planted.kids;
            last = planted.last;
            said = planted.news;
            fan_is = record {
              cells = subst (λ (cs : List (List ℕ)). Pairwise (IsBetweenCell size) cs planted.news) (sym s.cells_are) planted.cells;
              last_is = sym planted.last_is;
              near = subst (λ (n : ℕ). n < 2 ^ 32) (sym planted.last_is) planted.near;
            };
            shown = planted.shown;
            lies = planted.lies;
            entries_are = planted.entries_are ∙ leaves_are;
            used_are = refl;
            apart = later.apart;
            first = later.first;
            free_are = later.are;
            sized = is.sized;
          };
          moves = all_moves;
          header = stored.header;
        }

    pub store_refused : (mid : PageMap) (fault : Fault) → Stores old mid size [] packed (Err fault) → IsOutsideOrFull fault
    store_refused mid fault stores = by (stores free is.free_are no_olds packs.sized)
      where
        by : IsOutside fault ⊎ ((fault ≡ Full) × (0 < length (images packed))) → IsOutsideOrFull fault
        by (inl outside) = inl outside
        by (inr full) = inr full.0

    pub several_or : (mid new : PageMap) (fan : Fan) (result : Result ⊤ Fault) → Stores old mid size [] packed (Ok fan) → BuildsOver mid new size root fan 15 result
        → MatchResult result (λ done. IsBuilt old new size root 16 entries chains free) IsOutsideOrFull
    several_or mid new fan result stores builds =
        let b = stored_row mid fan (stores free is.free_are no_olds packs.sized) in
        let few = row_few mid size 0 entries b.now_used b.now_free fan b.row in
        built_or old mid size 0 root entries chains free fan b new 16 result
        (builds 0 entries b.now_used b.now_free b.row (root_stays old mid size 0 root entries chains free fan b is.has) is.after (still_unfree old mid size 0 root entries chains free fan b is.has root_apart) (omega (arith, few)))

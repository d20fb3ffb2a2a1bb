-- Packed pages that are stored in the place of the tops of several trees.
use Rattle.std.proofs.Common.{◌≡◌, ◌≤◌, ◌<◌, ◌+◌, ℕ, List, [], ◌∷◌, ◌++◌, length, sym, subst, ◌∙◌, arith}
use Rattle.std.proofs.lemmas.List.{length-map}
use Rattle.std.specs.List.{AllByRecursion}
use Rattle.pages.specs.Counting.{occurs, Moves}
use Rattle.pages.specs.Map.{PageMap, Has}
use Rattle.pages.proofs.Moving.{in_sequence, occurs_append}
use Rattle.freelist.specs.Calls.{AreFree}
use Rattle.tree_overflow.proofs.Laying.{keeps_then}
use Rattle.tree_page.specs.Cells.{Pairwise}
use Rattle.tree_page.specs.Node.{IsBetweenCell}
use Rattle.tree_pack.specs.Packing.{images, divider_bytes}
use Rattle.tree_pack.specs.declared.spreading.Packed.{Packed}
use Rattle.tree_pack.specs.declared.spreading.Piece.{Piece}
use Rattle.tree_store.specs.Sides.{each_of}
use Rattle.tree_store.specs.Storing.{AreOlds, IsStored, BeginsAs}
use Rattle.tree_store.specs.declared.storing.Fan.{Fan}
use Rattle.tree_index.specs.Entries.{Entry}
use Rattle.tree_index.specs.Freeing.{below_of}
use Rattle.tree_index.specs.Growing.{IsPlanned}
use Rattle.tree_index.proofs.Growth.{IsGrown, chain, pages_in}
use Rattle.tree_index.proofs.Planting.{plant, tops_kept, dividers_kept}
use Rattle.tree_index.proofs.Shares.{AreUpTo, IsAfter, after, once_after, beside_used, others_kept, up_append, up_cons, up_none}

module _ (old mid : PageMap) (size depth first : ℕ) (more below free : List ℕ) (entries : List Entry) (packed : Packed) (plan : IsPlanned old mid size depth entries below free packed) (are : AreFree old size free)
    (there : AllByRecursion (Has old) (first ∷ more)) (far : AllByRecursion (λ n. 1 < n) (first ∷ more)) (apart : (n : ℕ) → occurs n (first ∷ more) + occurs n below + occurs n free ≤ 1)
    (none : occurs 1 below ≡ 0) (up : AreUpTo (length old) below) where
  abbrev olds : List ℕ
  olds = first ∷ more

  -- the pages of the trees' parts, and not yet those of their tops
  abbrev parts : List ℕ
  parts = each_of (below_of depth) chain plan.kids plan.last

  moves_tops : Moves old mid (olds ++ below) free (olds ++ parts) plan.now_free
  moves_tops = beside_used old mid below free parts plan.now_free olds (olds ++ below) (olds ++ parts) plan.moves
      (λ n. (let e = occurs_append n olds below in omega (arith, e))) (λ n. (let e = occurs_append n olds parts in omega (arith, e)))

  all_up : (numbers : List ℕ) → AllByRecursion (Has old) numbers → AreUpTo (length old) numbers
  all_up [] all = up_none (length old)
  all_up (n ∷ numbers) all = up_cons (length old) n numbers all.0.last (all_up numbers all.1)

  pub grown_once : (n : ℕ) → occurs n (olds ++ parts) + occurs n plan.now_free ≤ 1
  grown_once = once_after old mid size (olds ++ below) free (olds ++ parts) plan.now_free are moves_tops (up_append (length old) olds below (all_up olds there) up)
      (λ n. (let one = apart n in let e = occurs_append n olds below in omega (arith, one, e)))

  pub grown_after : IsAfter mid size parts plan.now_free
  grown_after = after old mid size below free parts plan.now_free are plan.moves plan.has up (λ n. (let one = apart n in omega (arith, one))) none

  still_there : (numbers : List ℕ) → AllByRecursion (Has old) numbers → AllByRecursion (Has mid) numbers
  still_there [] all = tt
  still_there (n ∷ numbers) all = (record { first = all.0.first; last = (let last = all.0.last in let longer = (plan.moves).longer in omega (arith, last, longer)) }, still_there numbers all.1)

  -- their pages can be written
  pub can_store_all : AreOlds mid plan.now_free olds
  can_store_all = record {
    there = still_there olds there;
    after = far;
    once = record { once = λ n. (let once = grown_once n in let e = occurs_append n olds parts in let f = occurs_append n olds plan.now_free in omega (arith, once, e, f)) };
  }

  one_is : (a b : ℕ) (xs ys : List ℕ) → a ∷ xs ≡ b ∷ ys → a ≡ b
  one_is a b xs ys e = cc

  begins_with : (fronts : List ℕ) (n : ℕ) → fronts ≡ [] → BeginsAs (fronts ++ n ∷ []) olds → n ≡ first
  begins_with fronts n e begins = one_is n first _ _ (subst (λ (numbers : List ℕ). BeginsAs (numbers ++ n ∷ []) olds) e begins)

  -- the planned subtrees stand on the pages of the fan
  pub grown_all : (new : PageMap) (fan : Fan) → IsStored mid new size olds plan.now_free packed fan → IsGrown old new size first depth entries (olds ++ below) free fan
  grown_all new fan is =
      let stored = is.stored in
      let numbers = is.fronts ++ fan.last ∷ [] in
      let kept = others_kept mid new size olds plan.now_free numbers stored.now_free parts (grown_after.are).whole stored.moves
      (λ n some. (let once = grown_once n in let e = occurs_append n olds parts in omega (arith, once, some, e))) in
      let planted = plant new size depth is.fronts fan.last (images packed) plan.kids plan.last (divider_bytes packed) stored.on
      (tops_kept mid new size depth (images packed) plan.kids plan.last kept plan.tops) (dividers_kept mid new size depth (divider_bytes packed) plan.kids plan.last kept plan.divide) in
      let second_move = beside_used mid new olds plan.now_free numbers stored.now_free parts (olds ++ parts) (pages_in depth planted.kids planted.last) stored.moves
      (λ n. occurs_append n olds parts) (λ n. planted.pages_are n) in
      record {
        kids = planted.kids;
        last = planted.last;
        last_is = planted.last_is;
        near = planted.near;
        lies = planted.lies;
        entries_are = planted.entries_are ∙ plan.entries_are;
        news = planted.news;
        cells = subst (λ (cells : List (List ℕ)). Pairwise (IsBetweenCell size) cells planted.news) (sym is.cells_are) planted.cells;
        shown = planted.shown;
        few = (let le = planted.few in let len : length (divider_bytes packed) ≡ length packed.pieces.items = length-map packed.pieces.items (λ (piece : Piece). piece.divider.items) in
            let few = plan.few in omega (arith, le, len, few));
        now_free = stored.now_free;
        has = stored.has;
        moves = in_sequence old mid new (olds ++ below) free (olds ++ parts) plan.now_free (pages_in depth planted.kids planted.last) stored.now_free moves_tops second_move;
        header = keeps_then old mid new plan.header stored.header;
        alone = λ nothing. (let lone = planted.alone (sym is.cells_are ∙ nothing) in (lone.1, begins_with is.fronts fan.last lone.0 stored.begins));
      }

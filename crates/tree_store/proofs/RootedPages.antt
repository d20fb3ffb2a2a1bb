-- Packed pages are stored below a root.
use Rattle.std.proofs.Common.{◌≡◌, inl, inr, ℕ, ◌≤◌, List, [], ◌∷◌, ◌++◌, length, map, refl, sym, subst, ◌∙◌, arith, length-append}
use Rattle.std.proofs.lemmas.List.{length-map}
use Rattle.std.specs.Int.{w32, to_be_bytes}
use Rattle.std.specs.Prelude.{⊤, Bool, IsTrue, Result, Ok, Err, MatchResult}
use Rattle.sqlval.specs.declared.fault.Fault.{Fault}
use Rattle.sqlval.specs.Faults.{IsOutside}
use Rattle.pages.specs.Calls.{Limits, IsOutsideOrFull}
use Rattle.pages.specs.Counting.{occurs, start_of}
use Rattle.pages.specs.Map.{PageMap, page_at, Has}
use Rattle.pages.proofs.Moving.{not_fresh}
use Rattle.freelist.specs.Calls.{AreFree}
use Rattle.freelist.proofs.Lists.{occurs_here}
use Rattle.tree_page.specs.Cells.{Pairwise, IsTreePage}
use Rattle.tree_page.specs.Reading.{type_of}
use Rattle.tree_page.specs.declared.items.Kind.{Kind}
use Rattle.tree_pack.specs.Building.{right_room, Fits}
use Rattle.tree_pack.specs.Packing.{images, divider_bytes}
use Rattle.tree_pack.specs.declared.spreading.Packed.{Packed}
use Rattle.tree_store.specs.declared.storing.Fan.{Fan}
use Rattle.tree_store.specs.Storing.{IsOn, AreOlds, IsStored, Stores, CanRoot, IsLifted, IsRooted, cells_over, cells_of}
use Rattle.tree_store.specs.Steps.{HasMoved, IsRaised, Raises}
use Rattle.tree_store.proofs.MovedPages.{free_now, moved_then, moved_beside}
use Rattle.tree_store.proofs.CellsOver.{rooms_over, some_over}

pairs_long : {A B : Type 0} (P : A → B → Type 0) (xs : List A) (ys : List B) → Pairwise P xs ys → length xs ≡ length ys
pairs_long P [] [] all = refl
pairs_long P [] (y ∷ ys) all = absurd all
pairs_long P (x ∷ xs) [] all = absurd all
pairs_long P (x ∷ xs) (y ∷ ys) all = (let rest = pairs_long P xs ys all.1 in omega (arith, rest))

-- there are as many numbers in front as dividers
fronts_long : (map : PageMap) (packed : Packed) (fronts : List ℕ) (last : ℕ) → Pairwise (IsOn map) (fronts ++ last ∷ []) (images packed) → length fronts ≡ length (divider_bytes packed)
fronts_long m packed fronts last on =
    let pages = map (λ piece. piece.page.items) packed.pieces.items in
    let same = pairs_long (IsOn m) (fronts ++ last ∷ []) (images packed) on in
    let numbers = length-append fronts (last ∷ []) in
    let both = length-append pages (packed.last.items ∷ []) in
    let each = length-map packed.pieces.items (λ piece. piece.page.items) in
    let dividers = length-map packed.pieces.items (λ piece. piece.divider.items) in
    omega (arith, same, numbers, both, each, dividers)

-- the cells over the pages fit the root
cells_fit : (old new : PageMap) (size root : ℕ) (packed : Packed) (fan : Fan) (fronts : List ℕ) → CanRoot old size root packed → cells_of fan ≡ cells_over fronts (divider_bytes packed) → Pairwise (IsOn new) (fronts ++ fan.last ∷ []) (images packed)
    → Fits size (start_of root) 4 (cells_of fan)
cells_fit old new size root packed fan fronts can cells_are on = subst (λ (l : List (List ℕ)). Fits size (start_of root) 4 l) (sym cells_are) (record {
  addressed = can.addressed;
  some = some_over fronts (divider_bytes packed);
  room = (let rooms = rooms_over fronts (divider_bytes packed) (fronts_long new packed fronts fan.last on) in let room = can.room in omega (arith, rooms, room));
})

on_after : (mid new : PageMap) (root : ℕ) (numbers : List ℕ) (images : List (List ℕ)) → length new ≡ length mid → ((n : ℕ) → 1 ≤ n → (n ≡ root → ⊥) → page_at new n ≡ page_at mid n) → occurs root numbers ≡ 0
    → Pairwise (IsOn mid) numbers images → Pairwise (IsOn new) numbers images
on_after mid new root [] [] same others none on = tt
on_after mid new root [] (y ∷ ys) same others none on = absurd on
on_after mid new root (x ∷ xs) [] same others none on = absurd on
on_after mid new root (x ∷ xs) (y ∷ ys) same others none on = (
  record {
    has = (let has = (on.0).has in let last = has.last in record { first = has.first; last = omega (arith, last, same) });
    after = (on.0).after;
    near = (on.0).near;
    is = others x ((on.0).has).first (λ it. occurs_here root x xs none it) ∙ (on.0).is;
  },
  on_after mid new root xs ys same others (omega (arith, none)) on.1,
)

-- no page is used yet
none_used : (map : PageMap) (size : ℕ) (free : List ℕ) → AreFree map size free → AreOlds map free []
none_used map size free are = record { there = tt; after = tt; once = are.once }

-- the pages were stored, and the root is an interior page over them
lifted : (old mid new : PageMap) (size root : ℕ) (kind : Kind) (free : List ℕ) (packed : Packed) (fan : Fan) → (s : IsStored old mid size [] free packed fan) → Has old root
    → occurs root (s.fronts ++ fan.last ∷ []) ≡ 0 → IsRaised mid new size root kind (s.stored).now_free fan.last (cells_of fan) → IsLifted old new size root kind free packed
lifted old mid new size root kind free packed fan s has apart r =
    let numbers = s.fronts ++ fan.last ∷ [] in
    let st = s.stored in
    let first : HasMoved old mid size [] free numbers st.now_free = record { has = st.has; moves = st.moves; header = st.header } in
    let all = moved_then old mid new size (root ∷ []) free (root ∷ numbers) st.now_free (root ∷ numbers) st.now_free
    (moved_beside old mid size [] free numbers st.now_free (root ∷ []) (root ∷ []) (root ∷ numbers) first (λ n. omega arith) (λ n. omega arith))
    (moved_beside mid new size (root ∷ []) st.now_free (root ∷ []) st.now_free numbers (root ∷ numbers) (root ∷ numbers) r.moved (λ n. omega arith) (λ n. omega arith)) in
    let longer = (all.moves).longer in
    let last = has.last in
    record {
      fronts = s.fronts;
      last = fan.last;
      now_free = st.now_free;
      has_root = record { first = has.first; last = omega (arith, longer, last) };
      root_is = subst (λ (l : List (List ℕ)). IsTreePage (type_of kind) (page_at new root) (start_of root) (to_be_bytes w32 fan.last) l) s.cells_are r.root_is;
      on = on_after mid new root numbers (images packed) r.same r.others apart st.on;
      has = all.has;
      moves = all.moves;
      header = all.header;
      rule = elim (st.rule) [ inl same ↦ inl (r.same ∙ same) | inr none ↦ inr none ];
    }

matched_root : (A B : Type 0) (result : Result ⊤ Fault) → (A → B) → MatchResult result (λ done. A) IsOutside → MatchResult result (λ done. B) IsOutsideOrFull
matched_root A B (Ok done) so is = so is
matched_root A B (Err fault) so is = inl is

-- where the pages were stored, making the root decides
pub rooted_or : (old mid new : PageMap) (size root : ℕ) (kind : Kind) (free : List ℕ) (packed : Packed) (fan : Fan) (result : Result ⊤ Fault) → (packed.pieces.items ≡ [] → ⊥) → AreFree old size free → Has old root → occurs root free ≡ 0
    → right_room kind ≡ 4 → CanRoot old size root packed → Stores old mid size [] packed (Ok fan) → Raises mid new size root kind fan.last (cells_of fan) result → MatchResult result (λ done. IsRooted old new size root kind free packed) IsOutsideOrFull
rooted_or old mid new size root kind free packed fan result several are has none interior can stores raises =
    let s = stores free are (none_used old size free are) can.sized in
    let st = s.stored in
    let numbers = s.fronts ++ fan.last ∷ [] in
    let moved : HasMoved old mid size [] free numbers st.now_free = record { has = st.has; moves = st.moves; header = st.header } in
    let are_now = free_now old mid size [] free numbers st.now_free are (none_used old size free are) moved in
    let last = has.last in
    let longer = (st.moves).longer in
    let at = (st.moves).counts root in
    let no_fresh = not_fresh (length old) (length mid) root last in
    let apart : occurs root numbers ≡ 0 = omega (arith, at, no_fresh, none) in
    matched_root (IsRaised mid new size root kind st.now_free fan.last (cells_of fan)) (IsRooted old new size root kind free packed) result
    (λ r. inr (several, lifted old mid new size root kind free packed fan s has apart r))
    (raises st.now_free are_now (record { first = has.first; last = omega (arith, last, longer) }) (omega (arith, at, no_fresh, none)) interior (cells_fit old mid size root packed fan s.fronts can s.cells_are st.on))

-- what making a root does, it does from before the first call
pub raises_since : {P K : Type 0} (below : P → K) (tells : K → Bool) (limits : K → Limits) (old mid : P) (m new : PageMap) (root : ℕ) (kind : Kind) (last : ℕ) (cells : List (List ℕ)) (result : Result ⊤ Fault) → below mid ≡ below old
    → (IsTrue (tells (below mid)) → Raises m new (limits (below mid)).page root kind last cells result) → IsTrue (tells (below old)) → Raises m new (limits (below old)).page root kind last cells result
raises_since {P} {K} below tells limits old mid m new root kind last cells result kept raises told =
    subst (λ (k : K). Raises m new (limits k).page root kind last cells result) kept (raises (subst (λ (k : K). IsTrue (tells k)) (sym kept) told))

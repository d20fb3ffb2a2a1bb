-- Cells of entries that are made one after another, and the tree of them.
use Rattle.std.proofs.Common.{◌≡◌, ◌∙◌, inl, inr, refl, sym, ap, subst, ◌+◌, ◌<◌, ℕ, zero, suc, Bool, List, [], ◌∷◌, ◌++◌, length, map, slice_index_or, IsTrue, Ok, Err, arith}
use Rattle.std.proofs.lemmas.Grind.{common_steps}
use Rattle.std.proofs.lemmas.List.{append-nil, map-append}
use Rattle.std.proofs.lemmas.List.Concat.{flat_map-append}
use Rattle.std.specs.List.{AllByRecursion}
use Rattle.std.specs.Global.{Vec}
use Rattle.std.specs.Prelude.{Result, ⊤, IfOk, IfErr, IsErrAnd, MatchResult, ◌⊎◌}
use Rattle.sqlval.specs.PageSizes.{IsPageSize}
use Rattle.sqlval.specs.declared.collation.Collation.{Collation}
use Rattle.sqlval.specs.declared.fault.Fault.{Fault}
use Rattle.sqlval.specs.declared.fault.Fault.TheVariants.{Memory, TooLong}
use Rattle.record.specs.Record.{IsRecord}
use Rattle.record.specs.Writing.{AreStorable}
use Rattle.pages.specs.Calls.{Causes, Limits}
use Rattle.pages.specs.Counting.{occurs, fresh, Moves}
use Rattle.pages.specs.Map.{PageMap, Has}
use Rattle.pages.proofs.Moving.{in_sequence, occurs_append}
use Rattle.freelist.specs.Calls.{AreFree}
use Rattle.tree_overflow.specs.Calls.{IsWritten}
use Rattle.tree_overflow.proofs.Laying.{keeps_then, same_keeps}
use Rattle.tree_page.specs.Cells.{Pairwise}
use Rattle.tree_page.specs.Node.{IsEntryCell}
use Rattle.tree_page.specs.Payload.{index_most}
use Rattle.tree_store.specs.Staying.{AreKept}
use Rattle.tree_index.specs.Calls.{IsNewTree}
use Rattle.tree_index.specs.Entries.{Entry, AreEntries}
use Rattle.tree_index.specs.Filling.{AreCells, AreReady, IsFilled, IsFillRefusal}
use Rattle.tree_index.specs.Flattening.{IsBuilt}
use Rattle.tree_index.specs.Freeing.{chains_of}
use Rattle.tree_index.specs.Tree.{Held, IsHeldAs, pages_of}
use Rattle.tree_index.proofs.Shares.{IsAfter, after, after_first, beside_used, others_kept, up_cons, up_none}
use Rattle.tree_index.proofs.Staying.{entries_kept}
use Rattle.tree_index.proofs.Subtrees.{top_there}

-- ---- cells of entries

pairs_more : {A B : Type 0} (P : A → B → Type 0) (xs xs' : List A) (ys ys' : List B) → Pairwise P xs ys → Pairwise P xs' ys' → Pairwise P (xs ++ xs') (ys ++ ys')
pairs_more P [] xs' [] ys' all more = more
pairs_more P [] xs' (y ∷ ys) ys' all more = absurd all
pairs_more P (x ∷ xs) xs' [] ys' all more = absurd all
pairs_more P (x ∷ xs) xs' (y ∷ ys) ys' all more = (all.0, pairs_more P xs xs' ys ys' all.1 more)

none_moved : (m : PageMap) (free : List ℕ) → Moves m m [] free [] free
none_moved m free = record { longer = omega arith; counts = λ n. (let same = same_fresh n in omega (arith, same)); keeps = λ n from to none. refl; whole = λ size whole. whole }
  where
    same_fresh : (n : ℕ) → fresh (length m) (length m) n ≡ 0
    same_fresh n = grind (arith, common_steps)

-- no cells
pub no_cells : (m : PageMap) (size : ℕ) (free : List ℕ) → AreFree m size free → AreCells m m size [] free []
no_cells m size free are = record {
  said = [];
  held = [];
  say = tt;
  are = tt;
  entries_are = refl;
  now_free = free;
  has = are.has;
  moves = none_moved m free;
  header = same_keeps m m refl;
}

-- the cell of one entry
pub one_cell : (old new : PageMap) (size : ℕ) (entry : Entry) (payload held cell : List ℕ) (free : List ℕ) → IsRecord payload entry → IsWritten old new size (index_most size) free payload held
    → IsEntryCell size cell (record { size = length payload; bytes = held }) → AreCells old new size (entry ∷ []) free (cell ∷ [])
one_cell old new size entry payload held cell free record_is w cell_is = record {
  said = record { size = length payload; bytes = held } ∷ [];
  held = record { entry = entry; payload = payload; pages = w.chain } ∷ [];
  say = (cell_is, tt);
  are = (record { size = refl; payload = w.is; record_is = record_is }, tt);
  entries_are = refl;
  now_free = w.now_free;
  has = w.has;
  moves = subst (λ (pages : List ℕ). Moves old new [] free pages w.now_free) (sym (append-nil w.chain)) w.moves;
  header = w.header;
}

pub one_cell_or : (old new : PageMap) (size : ℕ) (entry : Entry) (payload held : List ℕ) (free : List ℕ) (result : Result (Vec ℕ) Fault) → IsRecord payload entry
    → IsWritten old new size (index_most size) free payload held → IfOk result (λ cell. IsEntryCell size cell.items (record { size = length payload; bytes = held })) → IfErr result (λ fault. fault ≡ Memory)
    → MatchResult result (λ cell. AreCells old new size (entry ∷ []) free (cell.items ∷ [])) (IsFillRefusal (entry ∷ []))
one_cell_or old new size entry payload held free (Ok cell) record_is w cell_is refused = one_cell old new size entry payload held cell.items free record_is w cell_is
one_cell_or old new size entry payload held free (Err fault) record_is w cell_is refused = inl (inl (inl refused))

module _ (old mid : PageMap) (size : ℕ) (entries : List Entry) (free : List ℕ) (cells : List (List ℕ)) (are : AreFree old size free) (a : AreCells old mid size entries free cells) where
  pub cells_after : IsAfter mid size (chains_of a.held) a.now_free
  cells_after = after old mid size [] free (chains_of a.held) a.now_free are a.moves a.has (up_none (length old)) (λ n. (let once = are.once.once n in omega (arith, once))) (omega arith)

  -- more cells after them
  pub cells_more : (new : PageMap) (others : List Entry) (more : List (List ℕ)) → AreCells mid new size others a.now_free more → AreCells old new size (entries ++ others) free (cells ++ more)
  cells_more new others more b =
      let beside = cells_after in
      let kept : AreKept mid new size (chains_of a.held) = others_kept mid new size [] a.now_free (chains_of b.held) b.now_free (chains_of a.held) beside.are.whole b.moves
      (λ n some. (let once = beside.apart n in omega (arith, once, some))) in
      let chains : (n : ℕ) → occurs n (chains_of (a.held ++ b.held)) ≡ occurs n (chains_of b.held) + occurs n (chains_of a.held) = λ n.
      (let e = ap (occurs n) (flat_map-append (λ (h : Held). h.pages) a.held b.held) in let both = occurs_append n (chains_of a.held) (chains_of b.held) in omega (arith, e, both)) in
      record {
        said = a.said ++ b.said;
        held = a.held ++ b.held;
        say = pairs_more (IsEntryCell size) cells more a.said b.said a.say b.say;
        are = pairs_more (IsHeldAs new size) a.said b.said a.held b.held (entries_kept mid new size a.said a.held kept a.are) b.are;
        entries_are = map-append (λ (h : Held). h.entry) a.held b.held ∙ ap (λ (es : List Entry). es ++ map (λ (h : Held). h.entry) b.held) a.entries_are ∙ ap (λ (es : List Entry). entries ++ es) b.entries_are;
        now_free = b.now_free;
        has = b.has;
        moves = in_sequence old mid new [] free (chains_of a.held) a.now_free (chains_of (a.held ++ b.held)) b.now_free a.moves
            (beside_used mid new [] a.now_free (chains_of b.held) b.now_free (chains_of a.held) (chains_of a.held) (chains_of (a.held ++ b.held)) b.moves (λ n. omega arith) chains);
        header = keeps_then old mid new a.header b.header;
      }

-- The cells up to here are made.
pub record IsMaking {P K : Type 0} (below : P → K) (tells : K → Bool) (limits : K → Limits) (pages : P → PageMap) (failures : P → ℕ × ℕ)
    (old now : P) (entries : List Entry) (cells : List (List ℕ)) : Type 0 where
  pub kept : below now ≡ below old
  pub causes : Causes {T = ⊤} (Ok tt) (failures old) (failures now) ⊥
  pub made : IsTrue (tells (below old)) → (free : List ℕ) → AreFree (pages old) (limits (below old)).page free → IsPageSize (limits (below old)).page
      → AreCells (pages old) (pages now) (limits (below old)).page entries free cells

-- ---- refusals

stored_at : (xs : List Entry) (index : ℕ) (d : Entry) → index < length xs → AllByRecursion AreStorable xs → AreStorable (slice_index_or xs index d)
stored_at [] index d lt all = absurd (omega (arith, lt))
stored_at (x ∷ xs) zero d lt all = all.0
stored_at (x ∷ xs) (suc index) d lt all = stored_at xs index d (omega (arith, lt)) all.1

-- one of the entries is refused
pub one_refused : (entries : List Entry) (index : ℕ) (y : Entry) (fault : Fault) → index < length entries → y ≡ slice_index_or entries index y → IsFillRefusal (y ∷ []) fault → IsFillRefusal entries fault
one_refused entries index y fault lt is (inl outside) = inl outside
one_refused entries index y fault lt is (inr long) = inr (long.0, λ all. long.1 (subst AreStorable (sym is) (stored_at entries index y lt all), tt))

-- a record wasn't made
pub not_encoded : (entry : Entry) (fault : Fault) → (fault ≡ Memory) ⊎ ((fault ≡ TooLong) × (AreStorable entry → ⊥)) → IsFillRefusal (entry ∷ []) fault
not_encoded entry fault (inl memory) = inl (inl (inl memory))
not_encoded entry fault (inr long) = inr (long.0, λ all. long.1 all.0)

pub refused_as : {T : Type 0} (entries : List Entry) (P : T → Type 0) (result : Result T Fault) (fault : Fault) → IsErrAnd result (λ e. e ≡ fault) → IsFillRefusal entries fault → MatchResult result P (IsFillRefusal entries)
refused_as entries P (Ok x) fault is refusal = absurd is
refused_as entries P (Err e) fault is refusal = subst (IsFillRefusal entries) (sym is) refusal

-- what a call does where the pages below are the same
pub does_since : {P K : Type 0} (below : P → K) (tells : K → Bool) (limits : K → Limits) (old mid : P) (Does : ℕ → Type 0) → below mid ≡ below old
    → (IsTrue (tells (below mid)) → Does (limits (below mid)).page) → IsTrue (tells (below old)) → Does (limits (below old)).page
does_since {P} {K} below tells limits old mid Does kept does told =
    subst (λ (k : K). Does (limits k).page) kept (does (subst (λ (k : K). IsTrue (tells k)) (sym kept) told))

-- ---- the tree

module _ (old mid next : PageMap) (size root : ℕ) (columns : List Collation) (entries : List Entry) (free : List ℕ) (cells : List (List ℕ)) (are : AreFree old size free) (sized : IsPageSize size)
    (t : IsNewTree old mid size columns free root) (a : AreCells mid next size entries t.now_free cells) where
  root_has : Has mid root
  root_has = subst (Has mid) t.stands.tree.root_is (top_there mid size t.stands.tree.depth t.stands.tree.tree t.stands.tree.lies)

  cells_moved : Moves mid next (root ∷ []) t.now_free (root ∷ chains_of a.held) a.now_free
  cells_moved = beside_used mid next [] t.now_free (chains_of a.held) a.now_free (root ∷ []) (root ∷ []) (root ∷ chains_of a.held) a.moves (λ n. omega arith)
      (λ n. (let both = occurs_append n (root ∷ []) (chains_of a.held) in omega (arith, both)))

  cells_beside : IsAfter next size (root ∷ chains_of a.held) a.now_free
  cells_beside = after mid next size (root ∷ []) t.now_free (root ∷ chains_of a.held) a.now_free t.stands.free_are cells_moved a.has (up_cons (length mid) root [] root_has.last (up_none (length mid)))
      t.stands.apart t.stands.first

  -- the cells are ready beside the new tree's root
  pub are_ready : AreReady next size root entries (chains_of a.held) a.now_free cells
  are_ready =
      let beside = cells_beside in
      let has = root_has in
      record {
        said = a.said;
        held = a.held;
        say = a.say;
        are = a.are;
        entries_are = a.entries_are;
        chains_are = refl;
        has = record { first = has.first; last = (let last = has.last in let longer = a.moves.longer in omega (arith, last, longer)) };
        after = after_first mid root [] has t.stands.first;
        apart = beside.apart;
        first = (let none = beside.first in let both = occurs_append 1 (root ∷ []) (chains_of a.held) in omega (arith, none, both));
        free_are = beside.are;
        sized = sized;
      }

  -- what is built of them is the tree of the entries
  pub tree_filled : (new : PageMap) → AreEntries columns entries → IsBuilt next new size root 16 entries (chains_of a.held) a.now_free → IsFilled old new size columns entries free root
  tree_filled new sorted b =
      let put = b.put in
      let used = pages_of b.depth put.tree in
      let moves = in_sequence old mid new [] free (root ∷ []) t.now_free used put.now_free t.moves
      (in_sequence mid next new (root ∷ []) t.now_free (root ∷ chains_of a.held) a.now_free used put.now_free cells_moved put.moves) in
      let now = after old new size [] free used put.now_free are moves put.has (up_none (length old)) (λ n. (let once = are.once.once n in omega (arith, once))) (omega arith) in
      record {
        used = used;
        now_free = put.now_free;
        stands = record {
          tree = record {
            depth = b.depth;
            tree = put.tree;
            shallow = (let few = b.shallow in omega (arith, few));
            root_is = put.top_is;
            lies = put.lies;
            entries_are = put.entries_are;
            sorted = sorted;
            used_are = refl;
            once = record { once = λ n. (let both = now.apart n in omega (arith, both)) };
          };
          free_are = now.are;
          apart = now.apart;
          first = now.first;
          sized = sized;
        };
        moves = moves;
        header = keeps_then old mid new t.header (keeps_then mid next new a.header put.header);
      }

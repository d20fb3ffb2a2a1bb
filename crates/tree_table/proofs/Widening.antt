-- What becomes of the page above a child that gives way to packed pages.
use Rattle.std.proofs.Common.{◌≡◌, ◌<◌, ℕ, suc, ℤ, Bool, List, [], ◌∷◌, Option, sym, ap, subst, ◌∙◌, ◌⊎◌, inl, inr, arith}
use Rattle.std.specs.Prelude.{Result, Ok, Err, MatchResult}
use Rattle.sqlval.specs.declared.fault.Fault.{Fault}
use Rattle.sqlval.specs.declared.fault.Fault.TheVariants.{Memory, Full}
use Rattle.sqlval.specs.Faults.{IsOutside}
use Rattle.tree_leaf.specs.Leaf.{Entry}
use Rattle.pages.specs.Calls.{IsOutsideOrFull}
use Rattle.pages.specs.Counting.{start_of}
use Rattle.pages.specs.Map.{PageMap, page_at, IsThere}
use Rattle.tree_page.specs.Node.{Keys}
use Rattle.tree_page.specs.Reading.{below}
use Rattle.tree_pack.specs.declared.spreading.Packed.{Packed}
use Rattle.tree_store.specs.Saying.{Says}
use Rattle.tree_store.specs.Sides.{children}
use Rattle.tree_store.specs.Storing.{IsStored, Stores, cells_of}
use Rattle.tree_store.specs.declared.storing.Fan.{Fan}
use Rattle.tree_table.specs.Fanning.{Fans}
use Rattle.tree_table.specs.Growing.{below_of, IsPlanned, IsUnder, IsDeep, IsEdited, Edits, IsWidened, GivesWay}
use Rattle.tree_table.specs.Rows.{payload_at, IsLocal}
use Rattle.tree_table.specs.Stepping.{child_at}
use Rattle.tree_table.specs.Tree.{Tree, top, rows_of, pages_of}
use Rattle.tree_table.specs.declared.growing.Change.{Change}
use Rattle.tree_table.specs.declared.growing.Change.TheVariants.{Still, Same, Spread}
use Rattle.tree_table.proofs.Branches.{under_child, child_far, payload_same, put_above, grown_alone, page_stays, page_at_mid, plan_above}
use Rattle.tree_table.proofs.Few.{large_size}
use Rattle.tree_table.proofs.Growth.{IsGrown, grown, planned_after, can_store}
use Rattle.tree_table.proofs.Holes.{keys_of, hole, IsHole}
use Rattle.tree_table.proofs.Locals.{local_wider, same_le}
use Rattle.tree_table.proofs.Putting.{usual}

deeper : (ways depth : ℕ) (deep : Bool) → IsDeep ways depth deep → IsDeep (suc ways) (suc depth) deep
deeper ways depth deep is = record { full = λ e. (let le = is.full e in omega (arith, le)); short = λ e. (let lt = is.short e in omega (arith, lt)) }

module _ (old : PageMap) (size number ways : ℕ) (rowid : ℤ) (edit : List Entry → List Entry) (depth : ℕ) (low : ℤ) (t : Tree (suc depth)) (high : ℤ) (free : List ℕ)
    (under : IsUnder old size number (suc ways) rowid (suc depth) low t high free) (place child : ℕ)
    (place_is : place ≡ below rowid (keys_of t.kids)) (child_is : child ≡ child_at place (children (top depth) t.kids) (top depth t.last)) where
  h : IsHole depth rowid low t.kids t.last high (below rowid (keys_of t.kids))
  h = hole depth rowid low t.kids t.last high under.above under.upto under.sorted

  abbrev at : ℕ
  at = below rowid (keys_of t.kids)

  child_same : child ≡ top depth h.tree
  child_same = child_is ∙ ap (λ (n : ℕ). child_at n (children (top depth) t.kids) (top depth t.last)) place_is ∙ h.child

  under_now : IsUnder old size (top depth h.tree) ways rowid depth h.from h.tree h.to free
  under_now = under_child old size number ways rowid edit depth low t high free under at h

  wider : IsLocal rowid h.to edit → IsLocal rowid high edit
  wider is = local_wider rowid rowid h.to high edit (same_le rowid) h.to_le is

  -- what became of the page, where this became of the child
  module _ (Skips Acts : Option (List ℕ) → Type 0) where
    abbrev Becomes : PageMap → Result Change Fault → Type 0
    Becomes mid result = Edits Skips Acts old mid size child ways rowid edit result

    child_changed : (mid : PageMap) (result : Result Change Fault) → Becomes mid result
        → MatchResult result (IsEdited Skips Acts old mid size (top depth h.tree) ways rowid edit depth h.from h.tree h.to free) IsOutsideOrFull
    child_changed mid result becomes = subst (λ (n : ℕ). MatchResult result (IsEdited Skips Acts old mid size n ways rowid edit depth h.from h.tree h.to free) IsOutsideOrFull) child_same
        (becomes depth h.from h.tree h.to free (subst (λ (n : ℕ). IsUnder old size n ways rowid depth h.from h.tree h.to free) (sym child_same) under_now))

    pub child_refused : (mid : PageMap) (fault : Fault) → Becomes mid (Err fault) → IsOutsideOrFull fault
    child_refused mid fault becomes = child_changed mid (Err fault) becomes

    same_found : payload_at rowid (rows_of depth h.tree) ≡ payload_at rowid (rows_of (suc depth) t)
    same_found = sym (payload_same old size number ways rowid edit depth low t high free under at h)

    -- where nothing changed, or the child stays, the page stays
    pub above_still : (mid : PageMap) → Becomes mid (Ok Still) → IsEdited Skips Acts old mid size number (suc ways) rowid edit (suc depth) low t high free Still
    above_still mid becomes = (let is = child_changed mid (Ok Still) becomes in (subst Skips same_found is.0, is.1))

    pub above_same : (mid : PageMap) → Becomes mid (Ok Same) → IsEdited Skips Acts old mid size number (suc ways) rowid edit (suc depth) low t high free Same
    above_same mid becomes =
        let is = child_changed mid (Ok Same) becomes in
        (subst Acts same_found is.0, wider is.1, put_above old size number ways rowid edit depth low t high free under at h is.1 mid is.2)

    pub acts_above : (mid : PageMap) (packed : Packed) (deep : Bool) → Becomes mid (Ok (Spread packed deep)) → Acts (payload_at rowid (rows_of (suc depth) t)) × IsLocal rowid high edit
    acts_above mid packed deep becomes = (let is = child_changed mid (Ok (Spread packed deep)) becomes in (subst Acts same_found is.0, wider is.1))

  module _ (mid : PageMap) (packed : Packed) (deep : Bool) (gives : GivesWay old mid size child ways rowid edit packed deep) where
    spread : IsLocal rowid h.to edit × IsDeep ways depth deep × IsPlanned old mid size (top depth h.tree) depth h.from h.to (edit (rows_of depth h.tree)) (below_of depth h.tree) free packed
    spread = subst (λ (n : ℕ). GivesWay old mid size n ways rowid edit packed deep) child_same gives depth h.from h.tree h.to free under_now

    abbrev plan : IsPlanned old mid size (top depth h.tree) depth h.from h.to (edit (rows_of depth h.tree)) (below_of depth h.tree) free packed
    plan = spread.2

    pub still_deep : IsDeep (suc ways) (suc depth) deep
    still_deep = deeper ways depth deep spread.1

    -- the packed pages are stored
    store_or : (new : PageMap) (result : Result Fan Fault) → Stores mid new size (child ∷ []) packed result
        → MatchResult result (IsStored mid new size (top depth h.tree ∷ []) plan.now_free packed) IsOutsideOrFull
    store_or new result stores = by result (subst (λ (n : ℕ). Stores mid new size (n ∷ []) packed result) child_same stores)
      where
        far : 1 < top depth h.tree
        far = child_far old size number ways rowid edit depth low t high free under at h

        by : (result : Result Fan Fault) → Stores mid new size (top depth h.tree ∷ []) packed result → MatchResult result (IsStored mid new size (top depth h.tree ∷ []) plan.now_free packed) IsOutsideOrFull
        by (Ok fan) stores =
            stores plan.now_free (planned_after old mid size (top depth h.tree) ways rowid depth h.from h.tree h.to free under_now (edit (rows_of depth h.tree)) packed plan).are
            (can_store old mid size (top depth h.tree) ways rowid depth h.from h.tree h.to free under_now (edit (rows_of depth h.tree)) packed plan far) plan.sized
        by (Err fault) stores = full_or fault (
            stores plan.now_free (planned_after old mid size (top depth h.tree) ways rowid depth h.from h.tree h.to free under_now (edit (rows_of depth h.tree)) packed plan).are
            (can_store old mid size (top depth h.tree) ways rowid depth h.from h.tree h.to free under_now (edit (rows_of depth h.tree)) packed plan far) plan.sized)
          where
            full_or : {A : Type 0} (fault : Fault) → IsOutside fault ⊎ ((fault ≡ Full) × A) → IsOutsideOrFull fault
            full_or fault (inl outside) = inl outside
            full_or fault (inr full) = inr full.0

    pub store_refused : (new : PageMap) (fault : Fault) → Stores mid new size (child ∷ []) packed (Err fault) → IsOutsideOrFull fault
    store_refused new fault stores = store_or new (Err fault) stores

    module _ (new : PageMap) (fan : Fan) (stores : Stores mid new size (child ∷ []) packed (Ok fan)) where
      g : IsGrown old new size (top depth h.tree) depth h.from h.to (edit (rows_of depth h.tree)) (pages_of depth h.tree) free fan
      g = grown old mid new size (top depth h.tree) ways rowid depth h.from h.tree h.to free under_now (edit (rows_of depth h.tree)) packed plan fan
          (child_far old size number ways rowid edit depth low t high free under at h) (store_or new (Ok fan) stores)

      -- one page took the child's place
      pub widened_same : cells_of fan ≡ [] → IsWidened old new size number (suc ways) edit (suc depth) low t high free Same
      widened_same none = (
        put_above old size number ways rowid edit depth low t high free under at h spread.0 new (grown_alone old size number ways rowid edit depth low t high free under at h new fan g none),
        page_stays old size number ways rowid edit depth low t high free under at h new (g.kids, g.last) g.now_free g.moves g.lies,
      )

      page_says : Says new number (Keys (children (top depth) t.kids) (top depth t.last))
      page_says = page_at_mid old size number ways rowid edit depth low t high free under at h new fan g

      pub page_there : IsThere new size number
      page_there = record { has = page_says.has; whole = (g.moves).whole size (under.free_are).whole number page_says.has }

      -- several did
      pub widened_spread : (page : List ℕ) (start : ℕ) (result : Result Packed Fault) → page ≡ page_at new number → start ≡ start_of number → Fans page start place fan result
          → MatchResult result (λ p. IsWidened old new size number (suc ways) edit (suc depth) low t high free (Spread p deep)) (λ fault. fault ≡ Memory)
      widened_spread page start result page_is start_is fans = by result
          (subst (λ (n : ℕ). Fans (page_at new number) (start_of number) n fan result) place_is
          (subst (λ (n : ℕ). Fans (page_at new number) n place fan result) start_is (subst (λ (p : List ℕ). Fans p start place fan result) page_is fans)))
        where
          by : (result : Result Packed Fault) → Fans (page_at new number) (start_of number) at fan result
              → MatchResult result (λ p. IsWidened old new size number (suc ways) edit (suc depth) low t high free (Spread p deep)) (λ fault. fault ≡ Memory)
          by (Ok p) fans = (
            deeper ways depth deep spread.1,
            plan_above old size number ways rowid edit depth low t high free under at h spread.0 new fan g p
                (fans (children (top depth) t.kids) (children (top depth) g.kids) (top depth t.last) page_says.node_is
                (usual size number (page_at new number) (large_size size under.sized) (page_there.whole)) h.within g.near g.cells_are),
          )
          by (Err fault) fans =
              fans (children (top depth) t.kids) (children (top depth) g.kids) (top depth t.last) page_says.node_is
              (usual size number (page_at new number) (large_size size under.sized) (page_there.whole)) h.within g.near g.cells_are

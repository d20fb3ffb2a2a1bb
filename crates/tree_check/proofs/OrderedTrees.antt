-- The check of subtrees of an index's tree.
use Rattle.std.proofs.Common.{◌≡◌, ◌+◌, ◌-◌, ◌≤◌, ◌<◌, ℕ, zero, suc, Bool, List, [], ◌∷◌, ◌++◌, length, drop, slice_index_or, refl, sym, ap, subst, arith, Ok, Err}
use Rattle.std.specs.Prelude.{⊤, Result, IsErrAnd}
use Rattle.sqlval.specs.declared.collation.Collation.{Collation}
use Rattle.sqlval.specs.declared.fault.Fault.{Fault}
use Rattle.sqlval.specs.declared.value.Value.{Value}
use Rattle.pages.specs.Counting.{occurs, start_of}
use Rattle.pages.specs.Map.{PageMap, Has, page_at}
use Rattle.tree_page.specs.Cells.{Pairwise}
use Rattle.tree_page.specs.Node.{Local, Node, Rows, Keys, Entries, Between, IsNode, IsBetweenCell, code_of}
use Rattle.tree_page.specs.Payload.{held_size, index_most}
use Rattle.tree_page.specs.Reading.{type_of}
use Rattle.tree_page.specs.declared.items.Kind.TheVariants.{IndexLeaf, IndexInterior}
use Rattle.tree_page.proofs.OneThing.{says_one}
use Rattle.tree_store.specs.Saying.{Says}
use Rattle.tree_store.specs.Sides.{Side, children}
use Rattle.tree_index.specs.Entries.{Entry}
use Rattle.tree_index.specs.Tree.{Held, IsHeldAs, IsKidAs, Leaf, Tree, top, entries_of, pages_of}
use Rattle.tree_check.specs.Exact.{Checks, IsThisPage, alone}
use Rattle.tree_check.specs.InOrder.{ChecksOrdered}
use Rattle.tree_check.specs.IndexTrees.{IsIndexSubtree, AreIndexSubtrees, SaysKind, ReadsKind, chain_of, chains_of, entry_in, entries_in, pages_along, entries_along}
use Rattle.tree_check.specs.Marks.{AreUnmarked}
use Rattle.tree_check.proofs.EntryChecks.{ChecksEntries, drop_more, drop_none}
use Rattle.tree_check.proofs.Parting.{IsOf, both_appended}
use Rattle.tree_check.proofs.Turns.{IsInTurn, IsLike, then_turns, first_stops, turn_refused, turns_as, no_entries, without_entries}

-- the check of a tree under a page
abbrev pub ChecksUnder : PageMap → ℕ → ℕ → ℕ → List Collation → List Value → List Value → List Bool → List Bool → Result ⊤ Fault → Type 0
ChecksUnder map size page depth = ChecksOrdered (IsIndexSubtree map size page depth) (pages_of depth) (entries_of depth)

-- the check of trees side by side
abbrev pub ChecksAlong : PageMap → ℕ → List (ℕ × Local) → ℕ → ℕ → List Collation → List Value → List Value → List Bool → List Bool → Result ⊤ Fault → Type 0
ChecksAlong map size said end depth = ChecksOrdered (AreIndexSubtrees map size said end depth) (pages_along depth) (entries_along depth)

-- ---- what pages say

said_entries : Node → List Local
said_entries (Rows rows) = []
said_entries (Keys kids last) = []
said_entries (Entries entries) = entries
said_entries (Between kids last) = []

said_kids : Node → List (ℕ × Local)
said_kids (Rows rows) = []
said_kids (Keys kids last) = []
said_kids (Entries entries) = []
said_kids (Between kids last) = kids

said_last : Node → ℕ
said_last (Rows rows) = 0
said_last (Keys kids last) = 0
said_last (Entries entries) = 0
said_last (Between kids last) = last

one_leaf : (page : List ℕ) (start : ℕ) (a b : List Local) → IsNode page start (Entries a) → IsNode page start (Entries b) → a ≡ b
unfolding said_entries
one_leaf page start a b is also = ap said_entries (says_one page start (Entries a) (Entries b) is also)

one_between : (page : List ℕ) (start : ℕ) (a b : List (ℕ × Local)) (last also : ℕ) → IsNode page start (Between a last) → IsNode page start (Between b also) → (a ≡ b) × (last ≡ also)
unfolding said_kids said_last
one_between page start a b last also is other =
    (let same = says_one page start (Between a last) (Between b also) is other in (ap said_kids same, ap said_last same))

-- bytes of a leaf say entries
pub leaf_says : (bytes : List ℕ) (start : ℕ) → SaysKind bytes start IndexLeaf → (said : List Local) × IsNode bytes start (Entries said)
leaf_says bytes start says = by says.node says.node_is says.code
  where
    by : (node : Node) → IsNode bytes start node → type_of IndexLeaf ≡ code_of node → (said : List Local) × IsNode bytes start (Entries said)
    by (Rows rows) is code = absurd (omega (arith, code))
    by (Keys kids last) is code = absurd (omega (arith, code))
    by (Entries entries) is code = (entries, is)
    by (Between kids last) is code = absurd (omega (arith, code))

-- those of an interior page say children with entries between them
pub between_says : (bytes : List ℕ) (start : ℕ) → SaysKind bytes start IndexInterior → (said : List (ℕ × Local)) × (last : ℕ) × IsNode bytes start (Between said last)
between_says bytes start says = by says.node says.node_is says.code
  where
    by : (node : Node) → IsNode bytes start node → type_of IndexInterior ≡ code_of node → (said : List (ℕ × Local)) × (last : ℕ) × IsNode bytes start (Between said last)
    by (Rows rows) is code = absurd (omega (arith, code))
    by (Keys kids last) is code = absurd (omega (arith, code))
    by (Entries entries) is code = absurd (omega (arith, code))
    by (Between kids last) is code = (kids, last, is)

-- how many bytes a cell has of an entry between children
held_between : (usable : ℕ) (cells : List (List ℕ)) (said : List (ℕ × Local)) (index : ℕ) (d : ℕ × Local) → Pairwise (IsBetweenCell usable) cells said → index < length said
    → length (slice_index_or said index d).1.bytes ≡ held_size usable (index_most usable) (slice_index_or said index d).1.size
held_between usable cells [] index d all lt = absurd (omega (arith, lt))
held_between usable [] (one ∷ said) index d all lt = absurd all
held_between usable (cell ∷ cells) (one ∷ said) zero d all lt = all.0.entry.held
held_between usable (cell ∷ cells) (one ∷ said) (suc index) d all lt = held_between usable cells said index d all.1 (omega (arith, lt))

pub kid_held : (page : List ℕ) (start usable : ℕ) (said : List (ℕ × Local)) (last index : ℕ) (one : ℕ × Local) → IsNode page start (Between said last) → length page ≡ usable → index < length said
    → one ≡ slice_index_or said index one → length one.1.bytes ≡ held_size usable (index_most usable) one.1.size
kid_held page start usable said last index one is long lt at =
    subst (λ (l : ℕ × Local). length l.1.bytes ≡ held_size usable (index_most usable) l.1.size) (sym at)
    (held_between usable is.cells said index one (subst (λ (u : ℕ). Pairwise (IsBetweenCell u) is.cells said) long is.say.0) lt)

-- ---- the page at the top

says_at : (map : PageMap) (number page : ℕ) (node : Node) → number ≡ page → Says map number node → Says map page node
says_at map number page node is says = subst (λ (n : ℕ). Says map n node) is says

top_page : (map : PageMap) (size page depth : ℕ) (t : Tree depth) → IsIndexSubtree map size page depth t → IsThisPage map page page
top_page map size page zero t is = record { is = refl; has = subst (Has map) is.top_is is.lies.says.has }
top_page map size page (suc depth) t is = record { is = refl; has = subst (Has map) is.top_is is.lies.0.says.has }

top_unmarked : (map : PageMap) (size page depth : ℕ) (t : Tree depth) (old : List Bool) → IsIndexSubtree map size page depth t → AreUnmarked old (pages_of depth t) → AreUnmarked old (alone page)
top_unmarked map size page zero t old is free n = (let e = ap (λ (q : ℕ). occurs n (alone q)) is.top_is in let u = free n in omega (arith, e, u))
top_unmarked map size page (suc depth) t old is free n = (let e = ap (λ (q : ℕ). occurs n (alone q)) is.top_is in let u = free n in omega (arith, e, u))

-- the page of a tree isn't marked
pub under_unmarked : (map : PageMap) (size page depth : ℕ) (columns : List Collation) (last now : List Value) (old mid new : List Bool) (fault : Fault) (result : Result ⊤ Fault)
    → Checks (IsThisPage map page) alone old mid (Err fault) → IsErrAnd result (λ e. e ≡ fault) → ChecksUnder map size page depth columns last now old new result
under_unmarked map size page depth columns last now old mid new fault result check is =
    turn_refused (IsIndexSubtree map size page depth) (pages_of depth) (entries_of depth) columns last now old new fault result is
    (λ t under free. check page (top_page map size page depth t under) (top_unmarked map size page depth t old under free))

-- ---- a leaf

-- a leaf isn't read
pub leaf_unread : {X : Type 0} (view : X → List ℕ) (map : PageMap) (size page : ℕ) (columns : List Collation) (last now : List Value) (old new : List Bool) (fault : Fault) (result : Result ⊤ Fault)
    → ReadsKind view map page IndexLeaf (Err fault) → IsErrAnd result (λ e. e ≡ fault) → ChecksUnder map size page 0 columns last now old new result
leaf_unread view map size page columns last now old new fault result reads is =
    turn_refused (IsIndexSubtree map size page 0) (pages_of 0) (entries_of 0) columns last now old new fault result is
    (λ t under free. reads (Entries under.lies.said) (says_at map t.page page (Entries under.lies.said) under.top_is under.lies.says) refl)

module _ (map : PageMap) (size page : ℕ) (said : List Local) (node : IsNode (page_at map page) (start_of page) (Entries said)) where
  leaf_apart : (t : Leaf) → IsIndexSubtree map size page 0 t → IsInTurn (IsThisPage map page) (Pairwise (IsHeldAs map size) said) alone chains_of no_entries entries_in (pages_of 0 t) (entries_of 0 t)
  leaf_apart t is =
      let says = says_at map t.page page (Entries is.lies.said) is.top_is is.lies.says in
      let same = one_leaf (page_at map page) (start_of page) is.lies.said said says.node_is node in
      record {
        one = page;
        other = t.entries;
        is = record { is = refl; has = says.has };
        also = subst (λ (l : List Local). Pairwise (IsHeldAs map size) l t.entries) same is.lies.entries;
        both = λ n. let e = ap (λ (q : ℕ). occurs n (alone q)) is.top_is in omega (arith, e);
        turn = refl;
      }

  leaf_together : (number : ℕ) (helds : List Held) → IsThisPage map page number → Pairwise (IsHeldAs map size) said helds → IsOf (IsIndexSubtree map size page 0) (pages_of 0) (alone number) (chains_of helds)
  leaf_together number helds is are = record {
    it = record { page = page; entries = helds };
    is = record { top_is = refl; lies = record { said = said; says = record { has = subst (Has map) is.is is.has; node_is = node }; entries = are } };
    both = λ n. let e = ap (λ (q : ℕ). occurs n (alone q)) is.is in omega (arith, e);
  }

  -- a leaf whose page was marked is checked as its entries are
  pub leaf_turns : (columns : List Collation) (last now : List Value) (old mid new : List Bool) (result : Result ⊤ Fault) → Checks (IsThisPage map page) alone old mid (Ok tt)
      → ChecksEntries map size said columns last now mid new result → ChecksUnder map size page 0 columns last now old new result
  leaf_turns columns last now old mid new result marked entries =
      then_turns (IsThisPage map page) (Pairwise (IsHeldAs map size) said) (IsIndexSubtree map size page 0) alone chains_of (pages_of 0) no_entries entries_in (entries_of 0) columns
      leaf_apart leaf_together last last now old mid new result (without_entries (IsThisPage map page) alone columns last old mid marked) entries

-- ---- an interior page

-- an interior page isn't read
pub inner_unread : {X : Type 0} (view : X → List ℕ) (map : PageMap) (size page depth : ℕ) (columns : List Collation) (last now : List Value) (old new : List Bool) (fault : Fault) (result : Result ⊤ Fault) → 1 ≤ depth
    → ReadsKind view map page IndexInterior (Err fault) → IsErrAnd result (λ e. e ≡ fault) → ChecksUnder map size page depth columns last now old new result
inner_unread view map size page depth columns last now old new fault result some reads is =
    let same : suc (depth - 1) ≡ depth = omega (arith, some) in
    subst (λ (d : ℕ). ChecksUnder map size page d columns last now old new result) same
    (turn_refused (IsIndexSubtree map size page (suc (depth - 1))) (pages_of (suc (depth - 1))) (entries_of (suc (depth - 1))) columns last now old new fault result is
    (λ t under free. reads (Between under.lies.0.said (top (depth - 1) t.last))
    (says_at map t.page page (Between under.lies.0.said (top (depth - 1) t.last)) under.top_is under.lies.0.says) refl))

module _ (map : PageMap) (size page depth : ℕ) (said : List (ℕ × Local)) (end : ℕ) (node : IsNode (page_at map page) (start_of page) (Between said end)) where
  inner_apart : (t : Tree (suc depth)) → IsIndexSubtree map size page (suc depth) t
      → IsInTurn (IsThisPage map page) (AreIndexSubtrees map size said end depth) alone (pages_along depth) no_entries (entries_along depth) (pages_of (suc depth) t) (entries_of (suc depth) t)
  inner_apart t is =
      let inner = is.lies.0 in
      let says = says_at map t.page page (Between inner.said (top depth t.last)) is.top_is inner.says in
      let same = one_between (page_at map page) (start_of page) inner.said said (top depth t.last) end says.node_is node in
      record {
        one = page;
        other = (t.kids, t.last);
        is = record { is = refl; has = says.has };
        also = record { kids_are = subst (λ (l : List (ℕ × Local)). Pairwise (IsKidAs map size) l (children (top depth) t.kids)) same.0 inner.children; last_is = same.1; lies = is.lies.1 };
        both = λ n. let e = ap (λ (q : ℕ). occurs n (alone q)) is.top_is in omega (arith, e);
        turn = refl;
      }

  inner_together : (number : ℕ) (side : Side (Tree depth) Held) → IsThisPage map page number → AreIndexSubtrees map size said end depth side
      → IsOf (IsIndexSubtree map size page (suc depth)) (pages_of (suc depth)) (alone number) (pages_along depth side)
  inner_together number side is on = record {
    it = record { page = page; kids = side.0; last = side.1 };
    is = record {
      top_is = refl;
      lies = (
        record {
          said = said;
          says = record { has = subst (Has map) is.is is.has; node_is = subst (λ (n : ℕ). IsNode (page_at map page) (start_of page) (Between said n)) (sym on.last_is) node };
          children = on.kids_are;
        },
        on.lies,
      );
    };
    both = λ n. let e = ap (λ (q : ℕ). occurs n (alone q)) is.is in omega (arith, e);
  }

-- an interior page that was marked is checked as its children are
pub inner_turns : (map : PageMap) (size page depth : ℕ) (said : List (ℕ × Local)) (end : ℕ) (columns : List Collation) (last now : List Value) (old mid new : List Bool) (result : Result ⊤ Fault) → 1 ≤ depth
    → IsNode (page_at map page) (start_of page) (Between said end) → Checks (IsThisPage map page) alone old mid (Ok tt)
    → ChecksAlong map size said end (depth - 1) columns last now mid new result → ChecksUnder map size page depth columns last now old new result
inner_turns map size page depth said end columns last now old mid new result some node marked along =
    let same : suc (depth - 1) ≡ depth = omega (arith, some) in
    subst (λ (d : ℕ). ChecksUnder map size page d columns last now old new result) same
    (then_turns (IsThisPage map page) (AreIndexSubtrees map size said end (depth - 1)) (IsIndexSubtree map size page (suc (depth - 1))) alone (pages_along (depth - 1)) (pages_of (suc (depth - 1)))
    no_entries (entries_along (depth - 1)) (entries_of (suc (depth - 1))) columns (inner_apart map size page (depth - 1) said end node) (inner_together map size page (depth - 1) said end node)
    last last now old mid new result (without_entries (IsThisPage map page) alone columns last old mid marked) along)

-- ---- one child after the other

-- an entry and the trees after it
abbrev After : ℕ → Type 0
After depth = Held × Side (Tree depth) Held

abbrev IsAfterKid : PageMap → ℕ → Local → List (ℕ × Local) → (end depth : ℕ) → After depth → Type 0
IsAfterKid map size local rest end depth after = IsHeldAs map size local after.0 × AreIndexSubtrees map size rest end depth after.1

abbrev pages_after : (depth : ℕ) → After depth → List ℕ
pages_after depth after = chain_of after.0 ++ pages_along depth after.1

abbrev entries_after : (depth : ℕ) → After depth → List Entry
entries_after depth after = entry_in after.0 ++ entries_along depth after.1

module _ (map : PageMap) (size child : ℕ) (local : Local) (rest : List (ℕ × Local)) (end depth : ℕ) where
  kid_apart : (parts : List (Tree depth × Held)) (final : Tree depth) → AreIndexSubtrees map size ((child, local) ∷ rest) end depth (parts, final)
      → IsInTurn (IsIndexSubtree map size child depth) (IsAfterKid map size local rest end depth) (pages_of depth) (pages_after depth) (entries_of depth) (entries_after depth)
      (pages_along depth (parts, final)) (entries_along depth (parts, final))
  kid_apart [] final are = absurd are.kids_are
  kid_apart (part ∷ parts) final are = record {
    one = part.0;
    other = (part.1, (parts, final));
    is = record { top_is = sym are.kids_are.0.0; lies = are.lies.0 };
    also = (are.kids_are.0.1, record { kids_are = are.kids_are.1; last_is = are.last_is; lies = are.lies.1 });
    both = both_appended (pages_of depth part.0) (pages_after depth (part.1, (parts, final)));
    turn = refl;
  }

  kid_together : (t : Tree depth) (after : After depth) → IsIndexSubtree map size child depth t → IsAfterKid map size local rest end depth after
      → IsOf (AreIndexSubtrees map size ((child, local) ∷ rest) end depth) (pages_along depth) (pages_of depth t) (pages_after depth after)
  kid_together t after is are = record {
    it = ((t, after.0) ∷ after.1.0, after.1.1);
    is = record { kids_are = ((sym is.top_is, are.0), are.1.kids_are); last_is = are.1.last_is; lies = (is.lies, are.1.lies) };
    both = both_appended (pages_of depth t) (pages_after depth after);
  }

  entry_apart : (after : After depth) → IsAfterKid map size local rest end depth after
      → IsInTurn (IsHeldAs map size local) (AreIndexSubtrees map size rest end depth) chain_of (pages_along depth) entry_in (entries_along depth) (pages_after depth after) (entries_after depth after)
  entry_apart after are = record { one = after.0; other = after.1; is = are.0; also = are.1; both = both_appended (chain_of after.0) (pages_along depth after.1); turn = refl }

  entry_together : (held : Held) (side : Side (Tree depth) Held) → IsHeldAs map size local held → AreIndexSubtrees map size rest end depth side
      → IsOf (IsAfterKid map size local rest end depth) (pages_after depth) (chain_of held) (pages_along depth side)
  entry_together held side is are = record { it = (held, side); is = (is, are); both = both_appended (chain_of held) (pages_along depth side) }

  -- a child is checked, then the entry after it and the trees after that
  child_then : (columns : List Collation) (last mid now : List Value) (old new then : List Bool) (result : Result ⊤ Fault) → ChecksUnder map size child depth columns last mid old new (Ok tt)
      → ChecksOrdered (IsAfterKid map size local rest end depth) (pages_after depth) (entries_after depth) columns mid now new then result
      → ChecksAlong map size ((child, local) ∷ rest) end depth columns last now old then result
  child_then columns last mid now old new then result first after =
      then_turns (IsIndexSubtree map size child depth) (IsAfterKid map size local rest end depth) (AreIndexSubtrees map size ((child, local) ∷ rest) end depth) (pages_of depth) (pages_after depth) (pages_along depth)
      (entries_of depth) (entries_after depth) (entries_along depth) columns (λ side are. kid_apart side.0 side.1 are) kid_together last mid now old new then result first after

  -- the child is refused
  child_stops : (columns : List Collation) (last mid now : List Value) (old new then : List Bool) (fault : Fault) (result : Result ⊤ Fault) → ChecksUnder map size child depth columns last mid old new (Err fault)
      → IsErrAnd result (λ e. e ≡ fault) → ChecksAlong map size ((child, local) ∷ rest) end depth columns last now old then result
  child_stops columns last mid now old new then fault result first stops =
      first_stops (IsIndexSubtree map size child depth) (IsAfterKid map size local rest end depth) (AreIndexSubtrees map size ((child, local) ∷ rest) end depth) (pages_of depth) (pages_after depth) (pages_along depth)
      (entries_of depth) (entries_after depth) (entries_along depth) columns (λ side are. kid_apart side.0 side.1 are) last mid now old new then fault result first stops

  -- so are the entry and the trees after it
  held_then : (columns : List Collation) (last mid now : List Value) (old new then : List Bool) (result : Result ⊤ Fault) → ChecksOrdered (IsHeldAs map size local) chain_of entry_in columns last mid old new (Ok tt)
      → ChecksAlong map size rest end depth columns mid now new then result
      → ChecksOrdered (IsAfterKid map size local rest end depth) (pages_after depth) (entries_after depth) columns last now old then result
  held_then columns last mid now old new then result first after =
      then_turns (IsHeldAs map size local) (AreIndexSubtrees map size rest end depth) (IsAfterKid map size local rest end depth) chain_of (pages_along depth) (pages_after depth)
      entry_in (entries_along depth) (entries_after depth) columns entry_apart entry_together last mid now old new then result first after

  held_stops : (columns : List Collation) (last mid now : List Value) (old new then : List Bool) (fault : Fault) (result : Result ⊤ Fault)
      → ChecksOrdered (IsHeldAs map size local) chain_of entry_in columns last mid old new (Err fault) → IsErrAnd result (λ e. e ≡ fault)
      → ChecksOrdered (IsAfterKid map size local rest end depth) (pages_after depth) (entries_after depth) columns last now old then result
  held_stops columns last mid now old new then fault result first stops =
      first_stops (IsHeldAs map size local) (AreIndexSubtrees map size rest end depth) (IsAfterKid map size local rest end depth) chain_of (pages_along depth) (pages_after depth)
      entry_in (entries_along depth) (entries_after depth) columns entry_apart last mid now old new then fault result first stops

module _ (map : PageMap) (size : ℕ) (said : List (ℕ × Local)) (index end depth : ℕ) (one : ℕ × Local) (lt : index < length said) (there : one ≡ slice_index_or said index one) (columns : List Collation) where
  from_here : (last now : List Value) (old then : List Bool) (result : Result ⊤ Fault) → ChecksAlong map size (one ∷ drop (index + 1) said) end depth columns last now old then result
      → ChecksAlong map size (drop index said) end depth columns last now old then result
  from_here last now old then result check =
      subst (λ (l : List (ℕ × Local)). ChecksAlong map size l end depth columns last now old then result) (sym (drop_more said index one lt there)) check

  -- what the trees after this child and this entry decide
  pub cell_then : (last mid next now : List Value) (old new later then : List Bool) (result : Result ⊤ Fault) → ChecksUnder map size one.0 depth columns last mid old new (Ok tt)
      → ChecksOrdered (IsHeldAs map size one.1) chain_of entry_in columns mid next new later (Ok tt) → ChecksAlong map size (drop (index + 1) said) end depth columns next now later then result
      → ChecksAlong map size (drop index said) end depth columns last now old then result
  cell_then last mid next now old new later then result child entry rest =
      from_here last now old then result (child_then map size one.0 one.1 (drop (index + 1) said) end depth columns last mid now old new then result child
      (held_then map size one.0 one.1 (drop (index + 1) said) end depth columns mid next now new later then result entry rest))

  -- this child is refused
  pub kid_stops : (last mid now : List Value) (old new then : List Bool) (fault : Fault) (result : Result ⊤ Fault) → ChecksUnder map size one.0 depth columns last mid old new (Err fault) → IsErrAnd result (λ e. e ≡ fault)
      → ChecksAlong map size (drop index said) end depth columns last now old then result
  kid_stops last mid now old new then fault result child stops =
      from_here last now old then result (child_stops map size one.0 one.1 (drop (index + 1) said) end depth columns last mid now old new then fault result child stops)

  -- this entry is refused
  pub between_stops : (last mid next now : List Value) (old new later then : List Bool) (fault : Fault) (result : Result ⊤ Fault) → ChecksUnder map size one.0 depth columns last mid old new (Ok tt)
      → ChecksOrdered (IsHeldAs map size one.1) chain_of entry_in columns mid next new later (Err fault) → IsErrAnd result (λ e. e ≡ fault)
      → ChecksAlong map size (drop index said) end depth columns last now old then result
  between_stops last mid next now old new later then fault result child entry stops =
      from_here last now old then result (child_then map size one.0 one.1 (drop (index + 1) said) end depth columns last mid now old new then result child
      (held_stops map size one.0 one.1 (drop (index + 1) said) end depth columns mid next now new later then fault result entry stops))

-- only the last child is left
pub end_turns : (map : PageMap) (size : ℕ) (said : List (ℕ × Local)) (index end depth : ℕ) (columns : List Collation) (last now : List Value) (old new : List Bool) (result : Result ⊤ Fault) → length said ≤ index
    → ChecksUnder map size end depth columns last now old new result → ChecksAlong map size (drop index said) end depth columns last now old new result
end_turns map size said index end depth columns last now old new result le check =
    subst (λ (l : List (ℕ × Local)). ChecksAlong map size l end depth columns last now old new result) (sym (drop_none said index le))
    (turns_as (IsIndexSubtree map size end depth) (AreIndexSubtrees map size [] end depth) (pages_of depth) (pages_along depth) (entries_of depth) (entries_along depth) columns
    (λ t is. record { it = ([], t); is = record { kids_are = tt; last_is = is.top_is; lies = is.lies }; pages_are = refl; entries_are = refl })
    (λ side are. by side.0 side.1 are) last now old new result check)
  where
    by : (parts : List (Tree depth × Held)) (final : Tree depth) → AreIndexSubtrees map size [] end depth (parts, final)
        → IsLike (IsIndexSubtree map size end depth) (pages_of depth) (entries_of depth) (pages_along depth (parts, final)) (entries_along depth (parts, final))
    by [] final are = record { it = final; is = record { top_is = are.last_is; lies = are.lies }; pages_are = refl; entries_are = refl }
    by (part ∷ parts) final are = absurd are.kids_are

-- A way leads down a tree to the leaf where a rowid belongs.
use Rattle.std.proofs.Common.{◌≡◌, refl, sym, ◌∙◌, ap, subst, ℕ, zero, suc, Bool, true, false, ℤ, ◌<ℤ◌, ◌≤ℤ◌, int_lt, List, [], ◌∷◌, ◌++◌, map, append_assoc, Option, Some, None, ◌⊎◌, inl, inr, arith}
use Rattle.std.proofs.lemmas.Int.{ints}
use Rattle.std.proofs.lemmas.List.{append-nil}
use Rattle.std.specs.Prelude.{⊤, MatchOption}
use Rattle.std.specs.List.{AllByRecursion}
use Rattle.tree_leaf.specs.Leaf.{Entry}
use Rattle.pages.specs.Map.{PageMap}
use Rattle.tree_page.specs.Cells.{Pairwise}
use Rattle.tree_page.specs.Node.{Local, Node, Rows, Keys}
use Rattle.tree_page.specs.Reading.{NeverFall, below, numbers_of}
use Rattle.tree_store.specs.Saying.{Says}
use Rattle.tree_store.specs.Sides.{Each, Parted, children, each_of, nothing}
use Rattle.tree_table.specs.Tree.{Held, IsHeldAs, Tree, top, rows_of, Rises, IsSorted, Lies, IsTableTree}
use Rattle.tree_table.specs.Ways.{way_for, step_for, IsAbout, IsStepAbout, IsLeft, IsRight, IsUnder, IsEnd, rowids}
use Rattle.tree_table.specs.declared.way.Way.{Way}
use Rattle.tree_table.specs.declared.way.Step.{Step}
use Rattle.tree_table.specs.declared.way.Step.TheVariants.{AtLeaf, Down}

-- ---- order

-- the rows lie above `low` and up to `high`
abbrev pub Within : ℤ → ℤ → List Entry → Type 0
Within low high rows = AllByRecursion (λ row. (low <ℤ row.rowid) × (row.rowid ≤ℤ high)) rows

abbrev pub UpTo : ℤ → List Entry → Type 0
UpTo high rows = AllByRecursion (λ row. row.rowid ≤ℤ high) rows

abbrev pub Above : ℤ → List Entry → Type 0
Above low rows = AllByRecursion (λ row. low <ℤ row.rowid) rows

pub all_joined : (P : Entry → Type 0) (xs ys : List Entry) → AllByRecursion P xs → AllByRecursion P ys → AllByRecursion P (xs ++ ys)
all_joined P [] ys first more = more
all_joined P (x ∷ xs) ys first more = (first.0, all_joined P xs ys first.1 more)

widened : (low to from high : ℤ) (rows : List Entry) → low ≤ℤ from → to ≤ℤ high → Within from to rows → Within low high rows
widened low to from high [] below above all = tt
widened low to from high (row ∷ rows) below above ((less, most), all) = ((omega (arith, ints, below, less), omega (arith, ints, above, most)), widened low to from high rows below above all)

pub up_to : (low high to : ℤ) (rows : List Entry) → high ≤ℤ to → Within low high rows → UpTo to rows
up_to low high to [] le all = tt
up_to low high to (row ∷ rows) le (its, all) = (omega (arith, ints, le, its.1), up_to low high to rows le all)

pub above : (from low high : ℤ) (rows : List Entry) → from ≤ℤ low → Within low high rows → Above from rows
above from low high [] le all = tt
above from low high (row ∷ rows) le (its, all) = (omega (arith, ints, le, its.0), above from low high rows le all)

upto_more : (high to : ℤ) (rows : List Entry) → high ≤ℤ to → UpTo high rows → UpTo to rows
upto_more high to [] le all = tt
upto_more high to (row ∷ rows) le (its, all) = (omega (arith, ints, le, its), upto_more high to rows le all)

above_less : (from low : ℤ) (rows : List Entry) → from ≤ℤ low → Above low rows → Above from rows
above_less from low [] le all = tt
above_less from low (row ∷ rows) le (its, all) = (omega (arith, ints, le, its), above_less from low rows le all)

rises_le : (low high : ℤ) (rows : List Held) → Rises low rows high → low ≤ℤ high
rises_le low high [] le = le
rises_le low high (held ∷ rows) (less, more) = (let rest = rises_le held.row.rowid high rows more in omega (arith, ints, less, rest))

abbrev pub rows_in : List Held → List Entry
rows_in rows = map (λ held. held.row) rows

pub rises_within : (low high : ℤ) (rows : List Held) → Rises low rows high → Within low high (rows_in rows)
rises_within low high [] le = tt
rises_within low high (held ∷ rows) (less, more) =
    let rest = rises_le held.row.rowid high rows more in
    ((less, rest), widened low high held.row.rowid high (rows_in rows) (omega (arith, ints, less)) (omega (arith, ints)) (rises_within held.row.rowid high rows more))

parted_le : {T : Type 0} (P : ℤ → T → ℤ → Type 0) → ((low : ℤ) (t : T) (high : ℤ) → P low t high → low ≤ℤ high) → (low : ℤ) (kids : List (T × ℤ)) (last : T) (high : ℤ) → Parted P low kids last high
    → low ≤ℤ high
parted_le P one low [] last high its = one low last high its
parted_le P one low (kid ∷ kids) last high (its, more) = (let first = one low kid.0 kid.1 its in let rest = parted_le P one kid.1 kids last high more in omega (arith, ints, first, rest))

sorted_le : (depth : ℕ) (low : ℤ) (t : Tree depth) (high : ℤ) → IsSorted depth low t high → low ≤ℤ high
sorted_le zero low t high sorted = rises_le low high t.rows sorted
sorted_le (suc depth) low t high sorted = parted_le (IsSorted depth) (sorted_le depth) low t.kids t.last high sorted

parted_within : {T : Type 0} (P : ℤ → T → ℤ → Type 0) (rows : T → List Entry) → ((low : ℤ) (t : T) (high : ℤ) → P low t high → low ≤ℤ high) → ((low : ℤ) (t : T) (high : ℤ) → P low t high → Within low high (rows t))
    → (low : ℤ) (kids : List (T × ℤ)) (last : T) (high : ℤ) → Parted P low kids last high → Within low high (each_of rows nothing kids last)
parted_within P rows least one low [] last high its = one low last high its
parted_within P rows least one low (kid ∷ kids) last high (its, more) =
    let first = least low kid.0 kid.1 its in
    let rest = parted_le P least kid.1 kids last high more in
    all_joined (λ row. (low <ℤ row.rowid) × (row.rowid ≤ℤ high)) (rows kid.0) (each_of rows nothing kids last) (widened low kid.1 low high (rows kid.0) (omega (arith, ints)) rest (one low kid.0 kid.1 its))
    (widened low high kid.1 high (each_of rows nothing kids last) first (omega (arith, ints)) (parted_within P rows least one kid.1 kids last high more))

pub sorted_within : (depth : ℕ) (low : ℤ) (t : Tree depth) (high : ℤ) → IsSorted depth low t high → Within low high (rows_of depth t)
sorted_within zero low t high sorted = rises_within low high t.rows sorted
sorted_within (suc depth) low t high sorted = parted_within (IsSorted depth) (rows_of depth) (sorted_le depth) (sorted_within depth) low t.kids t.last high sorted

-- ---- numbers that never fall

never_falls : (low high : ℤ) (rows : List Held) → Rises low rows high → NeverFall (rowids rows)
never_falls low high [] rising = tt
never_falls low high (one ∷ []) rising = tt
never_falls low high (one ∷ two ∷ rows) (first, (second, more)) = (omega (arith, ints, second), never_falls one.row.rowid high (two ∷ rows) (second, more))

abbrev keys_of : {T : Type 0} → (T → ℕ) → List (T × ℤ) → List ℤ
keys_of page kids = map (λ kid. kid.1) (children page kids)

keys_never_fall : {T : Type 0} (page : T → ℕ) (P : ℤ → T → ℤ → Type 0) → ((low : ℤ) (t : T) (high : ℤ) → P low t high → low ≤ℤ high) → (low : ℤ) (kids : List (T × ℤ)) (last : T) (high : ℤ) → Parted P low kids last high
    → NeverFall (keys_of page kids)
keys_never_fall page P least low [] last high its = tt
keys_never_fall page P least low (kid ∷ []) last high its = tt
keys_never_fall page P least low (one ∷ two ∷ kids) last high (first, (second, more)) =
    (least one.1 two.0 two.1 second, keys_never_fall page P least one.1 (two ∷ kids) last high (second, more))

pub said_rowids : (pages : PageMap) (size : ℕ) (said : List (ℤ × Local)) (rows : List Held) → Pairwise (IsHeldAs pages size) said rows → map (λ row. row.0) said ≡ rowids rows
said_rowids pages size [] [] all = refl
said_rowids pages size [] (row ∷ rows) all = absurd all
said_rowids pages size (item ∷ said) [] all = absurd all
said_rowids pages size (item ∷ said) (row ∷ rows) all = ap (λ (z : ℤ). z ∷ map (λ row. row.0) said) all.0.rowid ∙ ap (λ (them : List ℤ). row.row.rowid ∷ them) (said_rowids pages size said rows all.1)

-- ---- a step down

pub below_or_not : (a b : ℤ) → (t : Bool) → int_lt a b ≡ t → ((int_lt a b ≡ true) × (a <ℤ b)) ⊎ ((int_lt a b ≡ false) × (b ≤ℤ a))
below_or_not a b true is = inl (is, grind (arith, ints))
below_or_not a b false is = inr (is, grind (arith, ints))

-- the child where a rowid belongs, among children of which others stand to the left and right
pub child_under : (pages : PageMap) (size : ℕ) (rowid : ℤ) (rows : List Entry) (depth : ℕ) (way : Way) (kids : List (Tree depth × ℤ)) (last : Tree depth) (low high : ℤ) (front after : List Entry)
    → Parted (IsSorted depth) low kids last high → Each (Lies pages size depth) kids last → rows ≡ front ++ (each_of (rows_of depth) nothing kids last ++ after)
    → UpTo low front → Above high after → IsLeft rowid way.left low front → IsRight rowid way.right high after
    → IsUnder pages size rowid rows depth (way_for rowid way (children (top depth) kids) (top depth last))
child_under pages size rowid rows depth way [] last low high front after sorted lies is in_front behind left right =
    record { t = last; low = low; high = high; front = front; after = after; at = refl; lies = lies; sorted = sorted; rows_are = is; front_is = in_front; after_is = behind; left_is = left; right_is = right }
child_under pages size rowid rows depth way (kid ∷ kids) last low high front after (sorted, more) (lies, rest) is in_front behind left right =
    let others = each_of (rows_of depth) nothing kids last in
    let least = sorted_le depth low kid.0 kid.1 sorted in
    let most = parted_le (IsSorted depth) (sorted_le depth) kid.1 kids last high more in
    elim (below_or_not kid.1 rowid (int_lt kid.1 rowid) refl) [
      | inl h ↦ rw h.0 (child_under pages size rowid rows depth (record { page = way.page; left = Some kid.1; right = way.right }) kids last kid.1 high (front ++ rows_of depth kid.0) after more rest
          (is ∙ ap (λ (them : List Entry). front ++ them) (append_assoc (rows_of depth kid.0) others after) ∙ sym (append_assoc front (rows_of depth kid.0) (others ++ after)))
          (all_joined (λ row. row.rowid ≤ℤ kid.1) front (rows_of depth kid.0) (upto_more low kid.1 front least in_front) (up_to low kid.1 kid.1 (rows_of depth kid.0) (omega (arith, ints)) (sorted_within depth low kid.0 kid.1 sorted)))
          behind (refl, h.1) right)
      | inr h ↦ rw h.0 (record {
        t = kid.0;
        low = low;
        high = kid.1;
        front = front;
        after = others ++ after;
        at = refl;
        lies = lies;
        sorted = sorted;
        rows_are = is ∙ ap (λ (them : List Entry). front ++ them) (append_assoc (rows_of depth kid.0) others after);
        front_is = in_front;
        after_is = all_joined (λ row. kid.1 <ℤ row.rowid) others after
            (above kid.1 kid.1 high others (omega (arith, ints)) (parted_within (IsSorted depth) (rows_of depth) (sorted_le depth) (sorted_within depth) kid.1 kids last high more))
            (above_less kid.1 high after most behind);
        left_is = left;
        right_is = (refl, h.1);
      })
    ]

-- a page's part of a tree lies about the rowid
pub about_it : (pages : PageMap) (size : ℕ) (rowid : ℤ) (rows : List Entry) (depth : ℕ) (way : Way) → IsUnder pages size rowid rows depth way → IsAbout rowid way
about_it pages size rowid rows depth way under = (on_left way.left under.left_is, on_right way.right under.right_is) where
  on_left : (left : Option ℤ) → IsLeft rowid left under.low under.front → MatchOption left ⊤ (λ key. key <ℤ rowid)
  on_left None is = tt
  on_left (Some key) is = is.1

  on_right : (right : Option ℤ) → IsRight rowid right under.high under.after → MatchOption right ⊤ (λ key. rowid ≤ℤ key)
  on_right None is = tt
  on_right (Some key) is = is.1

-- the step leads to the end, or down to a page whose part of the tree has the rowid's place
abbrev pub Leads : PageMap → ℕ → ℤ → List Entry → ℕ → Way → Step → Type 0
Leads pages size rowid rows depth way (AtLeaf place) = IsEnd pages size rowid rows (record { way = way; place = place })
Leads pages size rowid rows depth way (Down down) = (less : ℕ) × (suc less ≡ depth) × IsUnder pages size rowid rows less down

-- what the page of a way says, and where it leads
pub record IsAsked (pages : PageMap) (size : ℕ) (rowid : ℤ) (rows : List Entry) (depth : ℕ) (way : Way) : Type 0 where
  pub node : Node
  pub numbers : List ℤ
  pub says : Says pages way.page node
  pub numbered : numbers_of node ≡ Some numbers
  pub rising : NeverFall numbers
  pub about : IsStepAbout rowid (step_for rowid way node)
  pub leads : Leads pages size rowid rows depth way (step_for rowid way node)

pub asked : (pages : PageMap) (size : ℕ) (rowid : ℤ) (rows : List Entry) (depth : ℕ) (way : Way) → IsUnder pages size rowid rows depth way → IsAsked pages size rowid rows depth way
asked pages size rowid rows zero way under = record {
  node = Rows under.lies.said;
  numbers = map (λ row. row.0) under.lies.said;
  says = subst (λ (n : ℕ). Says pages n (Rows under.lies.said)) under.at under.lies.says;
  numbered = refl;
  rising = subst (λ (them : List ℤ). NeverFall them) (sym (said_rowids pages size under.lies.said under.t.rows under.lies.rows)) (never_falls under.low under.high under.t.rows under.sorted);
  about = tt;
  leads = record { under = under; place = ap (λ (them : List ℤ). below rowid them) (said_rowids pages size under.lies.said under.t.rows under.lies.rows) };
}
asked pages size rowid rows (suc depth) way under =
    let kids = under.t.kids in
    let last = under.t.last in
    let child = child_under pages size rowid rows depth way kids last under.low under.high under.front under.after under.sorted under.lies.1 under.rows_are under.front_is under.after_is under.left_is under.right_is in
    record {
      node = Keys (children (top depth) kids) (top depth last);
      numbers = keys_of (top depth) kids;
      says = subst (λ (n : ℕ). Says pages n (Keys (children (top depth) kids) (top depth last))) under.at under.lies.0;
      numbered = refl;
      rising = keys_never_fall (top depth) (IsSorted depth) (sorted_le depth) under.low kids last under.high under.sorted;
      about = about_it pages size rowid rows depth (way_for rowid way (children (top depth) kids) (top depth last)) child;
      leads = (depth, refl, child);
    }

-- a way begins at the root
pub begins : (pages : PageMap) (size root : ℕ) (rowid : ℤ) (rows : List Entry) (used : List ℕ) → (tree : IsTableTree pages size root rows used)
    → IsUnder pages size rowid rows tree.depth (record { page = root; left = None; right = None })
begins pages size root rowid rows used tree = record {
  t = tree.tree;
  low = tree.low;
  high = tree.high;
  front = [];
  after = [];
  at = tree.root_is;
  lies = tree.lies;
  sorted = tree.sorted;
  rows_are = sym tree.rows_are ∙ sym (append-nil (rows_of tree.depth tree.tree));
  front_is = tt;
  after_is = tt;
  left_is = refl;
  right_is = refl;
}

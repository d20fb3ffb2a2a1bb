-- Cells of pages that stand side by side are read one page after the other: what is left decides.
use Rattle.std.proofs.Common.{◌≡◌, ◌≤◌, ◌<◌, ◌+◌, ◌∙◌, ap, refl, sym, subst, ℕ, Bool, IsTrue, Option, Some, List, [], ◌∷◌, ◌++◌, length, map, take, slice_index_or, inl, append_assoc}
use Rattle.std.proofs.lemmas.List.{append-nil, map_push, take_all, take_more}
use Rattle.std.specs.Global.{Vec}
use Rattle.std.specs.Prelude.{⊤, Result, Ok, Err, MatchResult, IsErrAnd}
use Rattle.sqlval.specs.Faults.{IsOutside}
use Rattle.sqlval.specs.declared.fault.Fault.{Fault}
use Rattle.sqlval.specs.declared.fault.Fault.TheVariants.{Memory}
use Rattle.pages.specs.Calls.{Limits, Causes}
use Rattle.pages.specs.Counting.{start_of}
use Rattle.pages.specs.Map.{PageMap, page_at, AreWhole}
use Rattle.tree_page.specs.Cells.{Pairwise}
use Rattle.tree_page.specs.Node.{Local, Node, Between, IsNode, IsBetweenCell}
use Rattle.tree_page.specs.Reading.{Place}
use Rattle.tree_pack.proofs.Splices.{pairwise_append}
use Rattle.tree_store.specs.Saying.{Says}
use Rattle.tree_store.specs.Sides.{Side}
use Rattle.tree_index.specs.Comparing.{placed}
use Rattle.tree_index.specs.Flattening.{ReadsCells, all_kids, AreAdded, ReadsKid, ReadsKids}

-- ---- one page

-- the cells of a page were added, and one for its last child
pub kid_added : (size : ℕ) (before mid after : List (List ℕ)) (moved : List ℕ) (kids : List (ℕ × Local)) (kid : ℕ × Local) → AreAdded size before mid kids → after ≡ mid ++ moved ∷ [] → IsBetweenCell size moved kid
    → AreAdded size before after (kids ++ kid ∷ [])
kid_added size before mid after moved kids kid one two cell = (
  one.0 ++ moved ∷ [],
  two ∙ ap (λ (xs : List (List ℕ)). xs ++ moved ∷ []) one.1 ∙ append_assoc before one.0 (moved ∷ []),
  pairwise_append (IsBetweenCell size) one.0 (moved ∷ []) kids (kid ∷ []) one.2 (cell, tt),
)

-- ---- one page after the other

pub none_read : (m : PageMap) (size : ℕ) (before : List (List ℕ)) → ReadsKids m size [] before before (Ok tt)
none_read m size before [] whole leads = ([], sym (append-nil before), tt)
none_read m size before (side ∷ sides) whole leads = absurd leads

both_added : (size : ℕ) (before mid after : List (List ℕ)) (kids more : List (ℕ × Local)) → AreAdded size before mid kids → AreAdded size mid after more → AreAdded size before after (kids ++ more)
both_added size before mid after kids more one two = (
  one.0 ++ two.0,
  two.1 ∙ ap (λ (xs : List (List ℕ)). xs ++ two.0) one.1 ∙ append_assoc before one.0 two.0,
  pairwise_append (IsBetweenCell size) one.0 two.0 kids more one.2 two.2,
)

pub next_read : (m : PageMap) (size : ℕ) (cell : List ℕ) (rest before mid after : List (List ℕ)) (result : Result ⊤ Fault) → ReadsKid m size cell before mid (Ok tt) → ReadsKids m size rest mid after result
    → ReadsKids m size (cell ∷ rest) before after result
next_read m size cell rest before mid after result one more [] whole leads = absurd leads
next_read m size cell rest before mid after result one more (side ∷ sides) whole leads = by result (more sides whole leads.1)
  where
    by : (result : Result ⊤ Fault) → MatchResult result (λ done. AreAdded size mid after (all_kids sides)) IsOutside → MatchResult result (λ done. AreAdded size before after (all_kids (side ∷ sides))) IsOutside
    by (Ok done) added = both_added size before mid after (side.0.0 ++ (side.0.1, side.1) ∷ []) (all_kids sides) (one side whole leads.0) added
    by (Err fault) outside = outside

pub next_unread : (m : PageMap) (size : ℕ) (cell : List ℕ) (rest before mid after : List (List ℕ)) (fault : Fault) (result : Result ⊤ Fault) → ReadsKid m size cell before mid (Err fault) → IsErrAnd result (λ e. e ≡ fault)
    → ReadsKids m size (cell ∷ rest) before after result
next_unread m size cell rest before mid after fault result one is [] whole leads = absurd leads
next_unread m size cell rest before mid after fault (Ok done) one is (side ∷ sides) whole leads = absurd is
next_unread m size cell rest before mid after fault (Err e) one is (side ∷ sides) whole leads = subst IsOutside (sym is) (one side whole leads.0)

-- no call was refused yet
abbrev unrefused : Result ⊤ Fault
unrefused = Ok tt

module _ {P K : Type 0} (below : P → K) (tells : K → Bool) (limits : K → Limits) (map' : P → PageMap) (count : P → ℕ) (failures : P → ℕ × ℕ) where
  -- What was read up to here: what is left decides.
  pub record HasReadKids (old now : P) (cells before left out : List (List ℕ)) : Type 0 where
    pub kept : below now ≡ below old
    pub same : map' now ≡ map' old
    pub counted : count now ≡ count old
    pub causes : Causes unrefused (failures old) (failures now) ⊥
    pub read : IsTrue (tells (below old)) → (after : List (List ℕ)) (result : Result ⊤ Fault) → ReadsKids (map' old) (limits (below old)).page left out after result
        → ReadsKids (map' old) (limits (below old)).page cells before after result

  -- what reading a page's cells does, it does from before the first call
  pub read_since : (old mid : P) (cell : List ℕ) (before after : List (List ℕ)) (result : Result ⊤ Fault) → below mid ≡ below old → map' mid ≡ map' old
      → (IsTrue (tells (below mid)) → ReadsKid (map' mid) (limits (below mid)).page cell before after result) → IsTrue (tells (below old)) → ReadsKid (map' old) (limits (below old)).page cell before after result
  read_since old mid cell before after result kept same reads told =
      subst (λ (k : K). ReadsKid (map' old) (limits k).page cell before after result) kept
      (subst (λ (m : PageMap). ReadsKid m (limits (below mid)).page cell before after result) same (reads (subst (λ (k : K). IsTrue (tells k)) (sym kept) told)))

  pub cells_since : (old mid : P) (number : ℕ) (before after : List (List ℕ)) (result : Result ℕ Fault) → below mid ≡ below old → map' mid ≡ map' old
      → (IsTrue (tells (below mid)) → ReadsCells (map' mid) (limits (below mid)).page number before after result) → IsTrue (tells (below old)) → ReadsCells (map' old) (limits (below old)).page number before after result
  cells_since old mid number before after result kept same reads told =
      subst (λ (k : K). ReadsCells (map' old) (limits k).page number before after result) kept
      (subst (λ (m : PageMap). ReadsCells m (limits (below mid)).page number before after result) same (reads (subst (λ (k : K). IsTrue (tells k)) (sym kept) told)))

-- ---- one page's bytes

-- what is read of the bytes of a page is read of the page
pub read_at : (m : PageMap) (size number : ℕ) (bytes : List ℕ) (start : ℕ) (before after : List (List ℕ)) (result : Result ℕ Fault) → bytes ≡ page_at m number → start ≡ start_of number
    → ((kids : List (ℕ × Local)) (last : ℕ) (is : IsNode bytes start (Between kids last)) → MatchResult result (λ child. (child ≡ last) × (after ≡ before ++ is.cells)) (λ fault. fault ≡ Memory))
    → (kids : List (ℕ × Local)) (last : ℕ) → AreWhole size m → Says m number (Between kids last) → MatchResult result (λ child. (child ≡ last) × AreAdded size before after kids) (λ fault. fault ≡ Memory)
read_at m size number bytes start before after result same from reads kids last whole is = by result (here kids last is.node_is)
  where
    here : (kids : List (ℕ × Local)) (last : ℕ) (is : IsNode (page_at m number) (start_of number) (Between kids last)) → MatchResult result (λ child. (child ≡ last) × (after ≡ before ++ is.cells)) (λ fault. fault ≡ Memory)
    here = subst (λ (s : ℕ). (kids : List (ℕ × Local)) (last : ℕ) (is : IsNode (page_at m number) s (Between kids last)) → MatchResult result (λ child. (child ≡ last) × (after ≡ before ++ is.cells)) (λ fault. fault ≡ Memory)) from
        (subst (λ (b : List ℕ). (kids : List (ℕ × Local)) (last : ℕ) (is : IsNode b start (Between kids last)) → MatchResult result (λ child. (child ≡ last) × (after ≡ before ++ is.cells)) (λ fault. fault ≡ Memory)) same reads)

    by : (result : Result ℕ Fault) → MatchResult result (λ child. (child ≡ last) × (after ≡ before ++ is.node_is.cells)) (λ fault. fault ≡ Memory)
        → MatchResult result (λ child. (child ≡ last) × AreAdded size before after kids) (λ fault. fault ≡ Memory)
    by (Ok child) read = (read.0, (is.node_is.cells, read.1, subst (λ (n : ℕ). Pairwise (IsBetweenCell n) is.node_is.cells kids) (whole number is.has) is.node_is.say.0))
    by (Err fault) memory = memory

pub memory_placed : (number : ℕ) (fault placed_fault : Fault) → fault ≡ Memory → placed_fault ≡ placed number fault → IsOutside placed_fault
memory_placed number fault placed_fault memory is = inl (is ∙ ap (placed number) memory)

-- ---- cells that are copied

abbrev bytes_of : List (Vec ℕ) → List (List ℕ)
bytes_of cells = map (λ cell. cell.items) cells

pub one_copied : (old out pushed : List (Vec ℕ)) (cell : Vec ℕ) (cells : List (List ℕ)) (place : ℕ) → pushed ≡ out ++ cell ∷ [] → place < length cells → cell.items ≡ slice_index_or cells place []
    → bytes_of out ≡ bytes_of old ++ take place cells → bytes_of pushed ≡ bytes_of old ++ take (place + 1) cells
one_copied old out pushed cell cells place p lt is so_far =
    ap bytes_of p ∙ map_push (λ (x : Vec ℕ). x.items) out cell ∙ ap (λ (xs : List (List ℕ)). xs ++ cell.items ∷ []) so_far ∙ append_assoc (bytes_of old) (take place cells) (cell.items ∷ [])
    ∙ ap (λ (x : List ℕ). bytes_of old ++ (take place cells ++ x ∷ [])) is ∙ ap (λ (xs : List (List ℕ)). bytes_of old ++ xs) (sym (take_more cells place [] lt))

pub all_copied : (old out : List (Vec ℕ)) (cells : List (List ℕ)) (place : ℕ) → length cells ≤ place → bytes_of out ≡ bytes_of old ++ take place cells → bytes_of out ≡ bytes_of old ++ cells
all_copied old out cells place le so_far = so_far ∙ ap (λ (xs : List (List ℕ)). bytes_of old ++ xs) (take_all place cells le)

-- ---- numbers

pub number_added : (kids rest : List (ℕ × Local)) (kid : ℕ × Local) (numbers pushed : List ℕ) (number : ℕ) → pushed ≡ numbers ++ number ∷ [] → number ≡ kid.0
    → numbers ++ map (λ (k : ℕ × Local). k.0) (kid ∷ rest) ≡ map (λ (k : ℕ × Local). k.0) kids → pushed ++ map (λ (k : ℕ × Local). k.0) rest ≡ map (λ (k : ℕ × Local). k.0) kids
number_added kids rest kid numbers pushed number p is so_far =
    ap (λ (xs : List ℕ). xs ++ map (λ (k : ℕ × Local). k.0) rest) p ∙ append_assoc numbers (number ∷ []) (map (λ (k : ℕ × Local). k.0) rest)
    ∙ ap (λ (n : ℕ). numbers ++ n ∷ map (λ (k : ℕ × Local). k.0) rest) is ∙ so_far

-- the children that cells say, the first of them apart
pub first_said : (size : ℕ) (cell : List ℕ) (cells : List (List ℕ)) (kids : List (ℕ × Local)) → Pairwise (IsBetweenCell size) (cell ∷ cells) kids
    → (kid : ℕ × Local) × (rest : List (ℕ × Local)) × (kids ≡ kid ∷ rest) × IsBetweenCell size cell kid × Pairwise (IsBetweenCell size) cells rest
first_said size cell cells [] say = absurd say
first_said size cell cells (kid ∷ kids) say = (kid, kids, refl, say.0, say.1)

-- what a place's cells say, where the place is on these bytes
pub copied_at : (place : Place) (bytes : List ℕ) (start : ℕ) (before after : List (List ℕ)) (result : Result ⊤ Fault) → place ≡ record { bytes = bytes; start = start }
    → ((node : Node) (is : IsNode place.bytes place.start node) → MatchResult result (λ done. after ≡ before ++ is.cells) (λ fault. fault ≡ Memory))
    → (node : Node) (is : IsNode bytes start node) → MatchResult result (λ done. after ≡ before ++ is.cells) (λ fault. fault ≡ Memory)
copied_at place bytes start before after result same copied =
    subst (λ (p : Place). (node : Node) (is : IsNode p.bytes p.start node) → MatchResult result (λ done. after ≡ before ++ is.cells) (λ fault. fault ≡ Memory)) same copied

-- ---- a fan

-- the children of the pages of all cells, and those of the last page
pub fan_read : (size last : ℕ) (mid after : List (List ℕ)) (sides : List (Side ℕ Local × Local)) (kids : List (ℕ × Local)) (result : Result ℕ Fault)
    → AreAdded size [] mid (all_kids sides) → MatchResult result (λ child. (child ≡ last) × AreAdded size mid after kids) IsOutside
    → MatchResult result (λ child. Pairwise (IsBetweenCell size) after (all_kids sides ++ kids) × (child ≡ last)) IsOutside
fan_read size last mid after sides kids (Ok child) added read =
    let both = both_added size [] mid after (all_kids sides) kids added read.1 in
    (subst (λ (cs : List (List ℕ)). Pairwise (IsBetweenCell size) cs (all_kids sides ++ kids)) (sym both.1) both.2, read.0)
fan_read size last mid after sides kids (Err fault) added read = read

pub some_is : (x y : ℕ) → ◌≡◌ {A = Option ℕ} (Some x) (Some y) → x ≡ y
some_is x y e = cc

pub pushed_cell : (out pushed : List (Vec ℕ)) (cell : Vec ℕ) → pushed ≡ out ++ cell ∷ [] → bytes_of pushed ≡ bytes_of out ++ cell.items ∷ []
pushed_cell out pushed cell p = ap bytes_of p ∙ map_push (λ (x : Vec ℕ). x.items) out cell

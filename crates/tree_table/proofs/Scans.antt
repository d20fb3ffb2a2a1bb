-- What is left of a tree's rows from a rowid on, leaf by leaf.
use Rattle.std.proofs.Common.{◌≡◌, refl, sym, ◌∙◌, ap, subst, ℕ, zero, suc, ◌<◌, ◌≤◌, ◌-◌, ◌^◌, nat_lt, Bool, true, false, ℤ, pos, negsuc, ◌<ℤ◌, ◌≤ℤ◌, ◌+ℤ◌, int_lt, List, [], ◌∷◌, ◌++◌, drop, filter, not, if◌then◌else◌, cond, Option, Some, None, inl, inr, arith}
use Rattle.std.proofs.lemmas.Bool.Decides.{nat_tests}
use Rattle.std.proofs.lemmas.Int.{ints}
use Rattle.std.proofs.lemmas.List.Elements.{filter-append}
use Rattle.std.specs.Int.{w64, cast_signed}
use Rattle.std.specs.List.{AllByRecursion}
use Rattle.tree_leaf.specs.Leaf.{Entry}
use Rattle.pages.specs.Map.{PageMap}
use Rattle.tree_page.specs.Cells.{Pairwise}
use Rattle.tree_page.specs.Node.{Local, IsRowCell}
use Rattle.tree_page.specs.Reading.{below}
use Rattle.tree_store.specs.Sides.{Each, each_of, nothing}
use Rattle.tree_table.specs.Rows.{rows_from}
use Rattle.tree_table.specs.Scanning.{IsNextOf}
use Rattle.tree_table.specs.Tree.{Held, IsHeldAs, Tree, rows_of, Rises, Lies, IsTableTree}
use Rattle.tree_table.specs.Ways.{IsLeft, IsRight, IsEnd, rowids}
use Rattle.tree_table.specs.declared.way.End.{End}
use Rattle.tree_table.proofs.Orders.{is_less, not_less, rises_le}
use Rattle.tree_table.proofs.WaysDown.{UpTo, Above, all_joined, above, up_to, rows_in, rises_within, below_or_not}

-- ---- rows from a rowid on

skipped : (z : ℤ) (row : Entry) (rows : List Entry) → int_lt row.rowid z ≡ true → rows_from (Some z) (row ∷ rows) ≡ rows_from (Some z) rows
skipped z row rows e = ap (λ (t : Bool). cond (not t) (row ∷ rows_from (Some z) rows) (rows_from (Some z) rows)) e

taken : (z : ℤ) (row : Entry) (rows : List Entry) → int_lt row.rowid z ≡ false → rows_from (Some z) (row ∷ rows) ≡ row ∷ rows_from (Some z) rows
taken z row rows e = ap (λ (t : Bool). cond (not t) (row ∷ rows_from (Some z) rows) (rows_from (Some z) rows)) e

none_from : (z high : ℤ) (rows : List Entry) → high <ℤ z → UpTo high rows → rows_from (Some z) rows ≡ []
none_from z high [] less all = refl
none_from z high (row ∷ rows) less all = skipped z row rows (is_less row.rowid z (omega (arith, ints, all.0, less))) ∙ none_from z high rows less all.1

-- all rows that aren't less come
pub all_from : (z : ℤ) (rows : List Entry) → AllByRecursion (λ row. z ≤ℤ row.rowid) rows → rows_from (Some z) rows ≡ rows
all_from z [] all = refl
all_from z (row ∷ rows) all = taken z row rows (not_less row.rowid z all.0) ∙ ap (λ (them : List Entry). row ∷ them) (all_from z rows all.1)

not_below : (z low : ℤ) (rows : List Entry) → z ≤ℤ (low +ℤ pos 1) → Above low rows → AllByRecursion (λ row. z ≤ℤ row.rowid) rows
not_below z low [] le all = tt
not_below z low (row ∷ rows) le all = (omega (arith, ints, all.0, le), not_below z low rows le all.1)

in_leaf : (z low high : ℤ) (rows : List Held) → Rises low rows high → rows_from (Some z) (rows_in rows) ≡ rows_in (drop (below z (rowids rows)) rows)
in_leaf z low high [] rising = refl
in_leaf z low high (row ∷ rows) rising =
    let place = λ (t : Bool). rows_in (drop (if t then suc (below z (rowids rows)) else 0) (row ∷ rows)) in
    elim (below_or_not row.row.rowid z (int_lt row.row.rowid z) refl) [
      | inl h ↦ skipped z row.row (rows_in rows) h.0 ∙ in_leaf z row.row.rowid high rows rising.1 ∙ sym (ap place h.0)
      | inr h ↦ taken z row.row (rows_in rows) h.0
          ∙ ap (λ (them : List Entry). row.row ∷ them) (all_from z (rows_in rows) (not_below z row.row.rowid (rows_in rows) (omega (arith, ints, h.1))
          (above row.row.rowid row.row.rowid high (rows_in rows) (omega (arith, ints)) (rises_within row.row.rowid high rows rising.1))))
          ∙ sym (ap place h.0)
    ]

parts_from : (z : ℤ) (front mid after : List Entry) → rows_from (Some z) (front ++ (mid ++ after)) ≡ rows_from (Some z) front ++ (rows_from (Some z) mid ++ rows_from (Some z) after)
parts_from z front mid after =
    let test = λ (row : Entry). not (int_lt row.rowid z) in
    filter-append test front (mid ++ after) ∙ ap (λ (them : List Entry). filter test front ++ them) (filter-append test mid after)

-- ---- beside the leaf

on_left : (z low : ℤ) (left : Option ℤ) (front : List Entry) → IsLeft z left low front → UpTo low front → rows_from (Some z) front ≡ []
on_left z low None front is all = ap (λ (them : List Entry). rows_from (Some z) them) is
on_left z low (Some key) front is all = none_from z low front (omega (arith, ints, is.0, is.1)) all

on_right : (z high : ℤ) (right : Option ℤ) (after : List Entry) → IsRight z right high after → Above high after → rows_from (Some z) after ≡ after
on_right z high None after is all = ap (λ (them : List Entry). rows_from (Some z) them) is ∙ sym is
on_right z high (Some key) after is all = all_from z after (not_below z high after (omega (arith, ints, is.0, is.1)) all)

-- the rowids have 64 bits
abbrev pub AreWords : List Entry → Type 0
AreWords rows = AllByRecursion (λ row. (negsuc (2 ^ 63 - 1) ≤ℤ row.rowid) × (row.rowid <ℤ pos (2 ^ 63))) rows

words_behind : (front rows : List Entry) → AreWords (front ++ rows) → AreWords rows
words_behind [] rows all = all
words_behind (row ∷ front) rows all = words_behind front rows all.1

none_above : (key : ℤ) (rows : List Entry) → pos (2 ^ 63) ≤ℤ (key +ℤ pos 1) → Above key rows → AreWords rows → rows ≡ []
none_above key [] le all words = refl
none_above key (row ∷ rows) le all words = absurd (never key row.rowid le all.0 (words.0).1)
  where
    never : (a b : ℤ) → pos (2 ^ 63) ≤ℤ (a +ℤ pos 1) → a <ℤ b → b <ℤ pos (2 ^ 63) → ⊥
    never a b le less word = omega (arith, ints, le, less, word)

later_from : (z low high : ℤ) (right later : Option ℤ) (front mid after : List Entry) → low ≤ℤ high → UpTo low front → UpTo high mid → Above high after → IsRight z right high after → IsNextOf right later
    → AreWords after → rows_from later (front ++ (mid ++ after)) ≡ after
later_from z low high None later front mid after le in_front in_mid behind is next words =
    ap (λ (from : Option ℤ). rows_from from (front ++ (mid ++ after))) next ∙ sym is
later_from z low high (Some key) None front mid after le in_front in_mid behind is next words =
    sym (none_above key after next (subst (λ (k : ℤ). Above k after) (sym is.0) behind) words)
later_from z low high (Some key) (Some from) front mid after le in_front in_mid behind is next words =
    parts_from from front mid after
    ∙ ap (λ (them : List Entry). them ++ (rows_from (Some from) mid ++ rows_from (Some from) after)) (none_from from low front (omega (arith, ints, le, is.0, next.0)) in_front)
    ∙ ap (λ (them : List Entry). them ++ rows_from (Some from) after) (none_from from high mid (omega (arith, ints, is.0, next.0)) in_mid)
    ∙ all_from from after (not_below from high after (omega (arith, ints, is.0, next.0)) behind)

-- the rows from a rowid on are those of its leaf, from their place on, and those after the leaf's right key
pub of_leaf : (pages : PageMap) (size : ℕ) (z : ℤ) (rows : List Entry) (end : End) (later : Option ℤ) (is : IsEnd pages size z rows end) → AreWords rows → IsNextOf end.way.right later
    → rows_from (Some z) rows ≡ rows_in (drop end.place is.under.t.rows) ++ rows_from later rows
of_leaf pages size z rows end later is words next =
    let under = is.under in
    let leaf = under.t.rows in
    let within = rises_within under.low under.high leaf under.sorted in
    let all = under.rows_are in
    let rest = subst AreWords all words in
    let after_words = words_behind (rows_in leaf) under.after (words_behind under.front (rows_in leaf ++ under.after) rest) in
    let here : rows_from (Some z) rows ≡ rows_in (drop end.place leaf) ++ under.after =
    ap (λ (them : List Entry). rows_from (Some z) them) all ∙ parts_from z under.front (rows_in leaf) under.after
    ∙ ap (λ (them : List Entry). them ++ (rows_from (Some z) (rows_in leaf) ++ rows_from (Some z) under.after)) (on_left z under.low end.way.left under.front under.left_is under.front_is)
    ∙ ap (λ (them : List Entry). them ++ rows_from (Some z) under.after) (in_leaf z under.low under.high leaf under.sorted ∙ ap (λ (n : ℕ). rows_in (drop n leaf)) (sym is.place))
    ∙ ap (λ (them : List Entry). rows_in (drop end.place leaf) ++ them) (on_right z under.high end.way.right under.after under.right_is under.after_is) in
    let later_is : rows_from later rows ≡ under.after =
    ap (λ (them : List Entry). rows_from later them) all
    ∙ later_from z under.low under.high end.way.right later under.front (rows_in leaf) under.after (rises_le under.low leaf under.high under.sorted) under.front_is
    (up_to under.low under.high under.high (rows_in leaf) (omega (arith, ints)) within) under.after_is under.right_is next after_words in
    here ∙ ap (λ (them : List Entry). rows_in (drop end.place leaf) ++ them) (sym later_is)

-- ---- rowids of 64 bits

word_above : (n : ℕ) → n < 2 ^ 63 → (negsuc (2 ^ 63 - 1) ≤ℤ pos n) × (pos n <ℤ pos (2 ^ 63))
word_above n h = (omega (arith, ints), omega (arith, ints, h))

word_below : (n : ℕ) → n < 2 ^ 63 → (negsuc (2 ^ 63 - 1) ≤ℤ negsuc n) × (negsuc n <ℤ pos (2 ^ 63))
word_below n h = (omega (arith, ints, h), omega (arith, ints))

signed_word : (n : ℕ) → (negsuc (2 ^ 63 - 1) ≤ℤ cast_signed w64 n) × (cast_signed w64 n <ℤ pos (2 ^ 63))
signed_word n = by_test (nat_lt n (2 ^ 63)) refl
  where
    by_test : (b : Bool) → nat_lt n (2 ^ 63) ≡ b → (negsuc (2 ^ 63 - 1) ≤ℤ cond b (pos n) (negsuc (2 ^ 64 - suc n))) × (cond b (pos n) (negsuc (2 ^ 64 - suc n)) <ℤ pos (2 ^ 63))
    by_test true e = word_above n (grind (arith, nat_tests))
    by_test false e = word_below (2 ^ 64 - suc n) (let far : 2 ^ 63 ≤ n = grind (arith, nat_tests) in omega (arith, far))

held_words : (pages : PageMap) (size usable : ℕ) (cells : List (List ℕ)) (said : List (ℤ × Local)) (rows : List Held) → Pairwise (IsRowCell usable) cells said → Pairwise (IsHeldAs pages size) said rows → AreWords (rows_in rows)
held_words pages size usable cells [] [] say all = tt
held_words pages size usable cells [] (row ∷ rows) say all = absurd all
held_words pages size usable cells (item ∷ said) [] say all = absurd all
held_words pages size usable [] (item ∷ said) (row ∷ rows) say all = absurd say
held_words pages size usable (cell ∷ cells) (item ∷ said) (row ∷ rows) say all = (
  subst (λ (z : ℤ). (negsuc (2 ^ 63 - 1) ≤ℤ z) × (z <ℤ pos (2 ^ 63))) (sym (say.0).signed ∙ (all.0).rowid) (signed_word (say.0).number),
  held_words pages size usable cells said rows say.1 all.1,
)

kids_words : (depth : ℕ) (P : Tree depth → Type 0) → ((t : Tree depth) → P t → AreWords (rows_of depth t)) → (kids : List (Tree depth × ℤ)) (last : Tree depth) → Each P kids last → AreWords (each_of (rows_of depth) nothing kids last)
kids_words depth P one [] last lies = one last lies
kids_words depth P one (kid ∷ kids) last lies =
    all_joined (λ row. (negsuc (2 ^ 63 - 1) ≤ℤ row.rowid) × (row.rowid <ℤ pos (2 ^ 63))) (rows_of depth kid.0) (each_of (rows_of depth) nothing kids last) (one kid.0 lies.0) (kids_words depth P one kids last lies.1)

words_in : (pages : PageMap) (size depth : ℕ) (t : Tree depth) → Lies pages size depth t → AreWords (rows_of depth t)
words_in pages size zero t lies = held_words pages size _ (lies.says.node_is).cells lies.said t.rows (lies.says.node_is).say lies.rows
words_in pages size (suc depth) t lies = kids_words depth (Lies pages size depth) (words_in pages size depth) t.kids t.last lies.1

pub words_of : (pages : PageMap) (size root : ℕ) (rows : List Entry) (used : List ℕ) → IsTableTree pages size root rows used → AreWords rows
words_of pages size root rows used tree = subst AreWords tree.rows_are (words_in pages size tree.depth tree.tree tree.lies)

at_least : (rows : List Entry) → AreWords rows → AllByRecursion (λ row. negsuc (2 ^ 63 - 1) ≤ℤ row.rowid) rows
at_least [] words = tt
at_least (row ∷ rows) words = ((words.0).0, at_least rows words.1)

-- from the least rowid on, all rows come
pub from_least : (pages : PageMap) (size root : ℕ) (rows : List Entry) (used : List ℕ) → IsTableTree pages size root rows used → rows_from (Some (negsuc (2 ^ 63 - 1))) rows ≡ rows
from_least pages size root rows used tree = all_from (negsuc (2 ^ 63 - 1)) rows (at_least rows (words_of pages size root rows used tree))

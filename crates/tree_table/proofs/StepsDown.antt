-- Which child of a page a way goes on to.
use Rattle.std.proofs.Common.{◌≡◌, refl, sym, ◌∙◌, ap, subst, ℕ, zero, suc, ◌<◌, ◌≤◌, ◌-◌, Bool, true, false, ℤ, int_lt, List, [], ◌∷◌, length, map, slice_index_or, if◌then◌else◌, Option, Some, Result, Ok, Err, arith}
use Rattle.sqlval.specs.declared.fault.Fault.{Fault}
use Rattle.tree_page.specs.Node.{Node, Rows, Keys, Entries, Between, IsNode, code_of}
use Rattle.tree_page.specs.Reading.{Place, NeverFall, below, key_of, numbers_of}
use Rattle.tree_page.specs.declared.items.Key.{Key}
use Rattle.tree_page.proofs.Places.{below_within}
use Rattle.pages.specs.Counting.{start_of}
use Rattle.pages.specs.Map.{PageMap, page_at}
use Rattle.tree_store.specs.Saying.{Says}
use Rattle.tree_table.specs.Ways.{child_for, left_for, right_for, way_for, step_for, IsStepAbout}
use Rattle.tree_table.specs.declared.way.Step.{Step}
use Rattle.tree_table.specs.declared.way.Step.TheVariants.{AtLeaf, Down}
use Rattle.tree_table.specs.declared.way.Way.{Way}

abbrev keys : List (ℕ × ℤ) → List ℤ
keys kids = map (λ kid. kid.1) kids

keys_counted : (kids : List (ℕ × ℤ)) → length (keys kids) ≡ length kids
keys_counted [] = refl
keys_counted (kid ∷ kids) = ap suc (keys_counted kids)

pub place_within : (rowid : ℤ) (kids : List (ℕ × ℤ)) → below rowid (map (λ kid. kid.1) kids) ≤ length kids
place_within rowid kids = omega (arith, below_within rowid (keys kids), keys_counted kids)

pub left_first : (rowid : ℤ) (left : Option ℤ) (kids : List (ℕ × ℤ)) → below rowid (map (λ kid. kid.1) kids) ≡ 0 → left_for rowid left kids ≡ left
left_first rowid left [] e = refl
left_first rowid left (kid ∷ kids) e = by_test (int_lt kid.1 rowid) e where
  by_test : (b : Bool) → (if b then suc (below rowid (keys kids)) else 0) ≡ 0 → (if b then left_for rowid (Some kid.1) kids else left) ≡ left
  by_test true e = absurd (omega (arith, e))
  by_test false e = refl

pub left_more : (rowid : ℤ) (left : Option ℤ) (kids : List (ℕ × ℤ)) (place : ℕ) (d : ℕ × ℤ) → below rowid (map (λ kid. kid.1) kids) ≡ suc place
    → left_for rowid left kids ≡ Some (slice_index_or kids place d).1
left_more rowid left [] place d e = absurd (omega (arith, e))
left_more rowid left (kid ∷ kids) place d e = by_test (λ left place e. left_more rowid left kids place d e) (int_lt kid.1 rowid) place e where
  by_test : ((left : Option ℤ) (place : ℕ) → below rowid (keys kids) ≡ suc place → left_for rowid left kids ≡ Some (slice_index_or kids place d).1) → (b : Bool) (place : ℕ)
      → (if b then suc (below rowid (keys kids)) else 0) ≡ suc place
      → (if b then left_for rowid (Some kid.1) kids else left) ≡ Some (slice_index_or (kid ∷ kids) place d).1
  by_test more true zero e = left_first rowid (Some kid.1) kids (omega (arith, e))
  by_test more true (suc place) e = more (Some kid.1) place (omega (arith, e))
  by_test more false place e = absurd (omega (arith, e))

pub child_there : (rowid : ℤ) (right : Option ℤ) (kids : List (ℕ × ℤ)) (last place : ℕ) (d : ℕ × ℤ) → below rowid (map (λ kid. kid.1) kids) ≡ place → place < length kids
    → (child_for rowid kids last ≡ (slice_index_or kids place d).0) × (right_for rowid right kids ≡ Some (slice_index_or kids place d).1)
child_there rowid right [] last place d e lt = absurd (omega (arith, lt))
child_there rowid right (kid ∷ kids) last place d e lt = by_test (λ place e lt. child_there rowid right kids last place d e lt) (int_lt kid.1 rowid) place e lt where
  by_test : ((place : ℕ) → below rowid (keys kids) ≡ place → place < length kids
      → (child_for rowid kids last ≡ (slice_index_or kids place d).0) × (right_for rowid right kids ≡ Some (slice_index_or kids place d).1))
      → (b : Bool) (place : ℕ) → (if b then suc (below rowid (keys kids)) else 0) ≡ place → place < suc (length kids)
      → ((if b then child_for rowid kids last else kid.0) ≡ (slice_index_or (kid ∷ kids) place d).0) × ((if b then right_for rowid right kids else Some kid.1) ≡ Some (slice_index_or (kid ∷ kids) place d).1)
  by_test more true zero e lt = absurd (omega (arith, e))
  by_test more true (suc place) e lt = more place (omega (arith, e)) (omega (arith, lt))
  by_test more false zero e lt = (refl, refl)
  by_test more false (suc place) e lt = absurd (omega (arith, e))

pub child_last : (rowid : ℤ) (right : Option ℤ) (kids : List (ℕ × ℤ)) (last : ℕ) → below rowid (map (λ kid. kid.1) kids) ≡ length kids
    → (child_for rowid kids last ≡ last) × (right_for rowid right kids ≡ right)
child_last rowid right [] last e = (refl, refl)
child_last rowid right (kid ∷ kids) last e = by_test (λ e. child_last rowid right kids last e) (int_lt kid.1 rowid) e where
  by_test : (below rowid (keys kids) ≡ length kids → (child_for rowid kids last ≡ last) × (right_for rowid right kids ≡ right))
      → (b : Bool) → (if b then suc (below rowid (keys kids)) else 0) ≡ suc (length kids)
      → ((if b then child_for rowid kids last else kid.0) ≡ last) × ((if b then right_for rowid right kids else Some kid.1) ≡ right)
  by_test more true e = more (omega (arith, e))
  by_test more false e = absurd (omega (arith, e))

way_is : (a b : Way) → a.page ≡ b.page → a.left ≡ b.left → a.right ≡ b.right → a ≡ b
way_is a b page left right = λ i. record { page = page i; left = left i; right = right i }

-- ---- what the calls answer

pub key_left : (rowid : ℤ) (left : Option ℤ) (kids : List (ℕ × ℤ)) (place : ℕ) (key : Key) (d : ℕ × ℤ) → (place ≡ 0 → ⊥) → place ≡ below rowid (map (λ kid. kid.1) kids)
    → key_of key ≡ slice_index_or kids (place - 1) d → Some key.rowid ≡ left_for rowid left kids
key_left rowid left kids zero key d some e is = absurd (some refl)
key_left rowid left kids (suc place) key d some e is =
    ap (λ (kid : ℕ × ℤ). Some kid.1) (is ∙ ap (λ (i : ℕ). slice_index_or kids i d) (omega arith)) ∙ sym (left_more rowid left kids place d (sym e))

pub way_there : (rowid : ℤ) (way : Way) (left : Option ℤ) (kids : List (ℕ × ℤ)) (last place : ℕ) (key : Key) (d : ℕ × ℤ) → left ≡ left_for rowid way.left kids
    → place ≡ below rowid (map (λ kid. kid.1) kids) → place < length kids → key_of key ≡ slice_index_or kids place d
    → record { page = key.child; left = left; right = Some key.rowid } ≡ way_for rowid way kids last
way_there rowid way left kids last place key d on e lt is =
    let there = child_there rowid way.right kids last place d (sym e) lt in
    way_is (record { page = key.child; left = left; right = Some key.rowid }) (way_for rowid way kids last)
    (ap (λ (kid : ℕ × ℤ). kid.0) is ∙ sym there.0) on (ap (λ (kid : ℕ × ℤ). Some kid.1) is ∙ sym there.1)

pub way_last : (rowid : ℤ) (way : Way) (left : Option ℤ) (kids : List (ℕ × ℤ)) (last place child : ℕ) → left ≡ left_for rowid way.left kids
    → place ≡ below rowid (map (λ kid. kid.1) kids) → place ≡ length kids → child ≡ last
    → record { page = child; left = left; right = way.right } ≡ way_for rowid way kids last
way_last rowid way left kids last place child on e all is =
    let there = child_last rowid way.right kids last (sym e ∙ all) in
    way_is (record { page = child; left = left; right = way.right }) (way_for rowid way kids last) (is ∙ sym there.0) on (sym there.1)

pub place_within_at : (rowid : ℤ) (kids : List (ℕ × ℤ)) (place : ℕ) → place ≡ below rowid (map (λ kid. kid.1) kids) → place ≤ length kids
place_within_at rowid kids place e = omega (arith, e, place_within rowid kids)

pub ok_is : {X : Type 0} (a b : X) → ◌≡◌ {A = Result X Fault} (Ok a) (Ok b) → a ≡ b
ok_is a b e = cc

pub not_refused : {X : Type 0} (fault : Fault) (a : X) → ◌≡◌ {A = Result X Fault} (Err fault) (Ok a) → ⊥
not_refused fault a e = cc

-- ---- what a page says

some_is : (a b : List ℤ) → ◌≡◌ {A = Option (List ℤ)} (Some a) (Some b) → a ≡ b
some_is a b e = cc

pub at_leaf : (rowid : ℤ) (way : Way) (node : Node) (numbers : List ℤ) (place : ℕ) → 13 ≡ code_of node → numbers_of node ≡ Some numbers → place ≡ below rowid numbers
    → AtLeaf place ≡ step_for rowid way node
at_leaf rowid way (Rows rows) numbers place code numbered is = ap (λ (n : ℕ). AtLeaf n) (is ∙ ap (λ (them : List ℤ). below rowid them) (sym (some_is _ _ numbered)))
at_leaf rowid way (Keys kids last) numbers place code numbered is = absurd (omega (arith, code))
at_leaf rowid way (Entries entries) numbers place code numbered is = absurd (omega (arith, code))
at_leaf rowid way (Between kids last) numbers place code numbered is = absurd (omega (arith, code))

-- the step down, where a call answers as it is asked to
pub going_down : (bytes : List ℕ) (start : ℕ) (rowid : ℤ) (way : Way) (node : Node) (numbers : List ℤ) (place : ℕ) (result : Result Way Fault) → IsNode bytes start node → 5 ≡ code_of node
    → numbers_of node ≡ Some numbers → place ≡ below rowid numbers
    → ((kids : List (ℕ × ℤ)) (last : ℕ) (rowid : ℤ) → IsNode bytes start (Keys kids last) → place ≡ below rowid (map (λ kid. kid.1) kids) → result ≡ Ok (way_for rowid way kids last))
    → (down : Way) × (result ≡ Ok down) × (Down down ≡ step_for rowid way node)
going_down bytes start rowid way (Rows rows) numbers place result is code numbered at gives = absurd (omega (arith, code))
going_down bytes start rowid way (Keys kids last) numbers place result is code numbered at gives =
    (way_for rowid way kids last, gives kids last rowid is (at ∙ ap (λ (them : List ℤ). below rowid them) (sym (some_is _ _ numbered))), refl)
going_down bytes start rowid way (Entries entries) numbers place result is code numbered at gives = absurd (omega (arith, code))
going_down bytes start rowid way (Between kids last) numbers place result is code numbered at gives = absurd (omega (arith, code))

-- the page that was read is that of the bytes
pub on_page : (page : Place) (bytes : List ℕ) (start at : ℕ) (node : Node) → page ≡ record { bytes = bytes; start = at } → at ≡ start → IsNode bytes start node → IsNode page.bytes page.start node
on_page page bytes start at node is begins it =
    subst (λ (p : Place). IsNode p.bytes p.start node) (sym is) (subst (λ (n : ℕ). IsNode bytes n node) (sym begins) it)

-- the step that a page's bytes give is that of the page
pub step_gives : (pages : PageMap) (way : Way) (rowid again : ℤ) (bytes : List ℕ) (result : Result Step Fault) → again ≡ rowid → bytes ≡ page_at pages way.page
    → ((node : Node) (numbers : List ℤ) → IsNode bytes (start_of way.page) node → numbers_of node ≡ Some numbers → NeverFall numbers → IsStepAbout again (step_for again way node) → result ≡ Ok (step_for again way node))
    → (node : Node) (numbers : List ℤ) → Says pages way.page node → numbers_of node ≡ Some numbers → NeverFall numbers → IsStepAbout rowid (step_for rowid way node) → result ≡ Ok (step_for rowid way node)
step_gives pages way rowid again bytes result plain read gives node numbers says numbered rising about =
    let is : IsNode bytes (start_of way.page) node = subst (λ (them : List ℕ). IsNode them (start_of way.page) node) (sym read) says.node_is in
    gives node numbers is numbered rising (subst (λ (z : ℤ). IsStepAbout z (step_for z way node)) (sym plain) about) ∙ ap (λ (z : ℤ). Ok (step_for z way node)) plain

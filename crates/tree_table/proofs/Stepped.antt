-- What a page leads to by a rowid is what the code finds.
use Rattle.std.proofs.Common.{◌≡◌, ◌≤◌, ◌<◌, ℕ, zero, suc, ℤ, Bool, true, false, ◌==◌, List, [], ◌∷◌, length, Some, None, Ok, Err, slice_index_or, refl, sym, ap, ◌∙◌, arith}
use Rattle.std.specs.Prelude.{Result}
use Rattle.sqlval.specs.declared.fault.Fault.{Fault}
use Rattle.tree_page.specs.Node.{Local, Node, Rows, Keys, Entries, Between, code_of}
use Rattle.tree_page.specs.Reading.{count_of, numbers_of, below, type_of}
use Rattle.tree_page.specs.declared.items.Kind.{Kind}
use Rattle.tree_page.specs.declared.items.Kind.TheVariants.{TableLeaf, TableInterior, IndexLeaf, IndexInterior}
use Rattle.tree_table.specs.Stepping.{child_at, HasRowid, IsStep}
use Rattle.tree_table.specs.declared.descending.Step.TheVariants.{Found, Here, Down}

-- ---- the child at a place

pub child_within : (place : ℕ) (kids : List (ℕ × ℤ)) (last : ℕ) (d : ℕ × ℤ) → place < length kids → child_at place kids last ≡ (slice_index_or kids place d).0
child_within place [] last d lt = absurd (omega (arith, lt))
child_within zero (kid ∷ kids) last d lt = refl
child_within (suc place) (kid ∷ kids) last d lt = child_within place kids last d (omega (arith, lt))

pub child_behind : (place : ℕ) (kids : List (ℕ × ℤ)) (last : ℕ) → length kids ≤ place → child_at place kids last ≡ last
child_behind place [] last le = refl
child_behind zero (kid ∷ kids) last le = absurd (omega (arith, le))
child_behind (suc place) (kid ∷ kids) last le = child_behind place kids last (omega (arith, le))

-- ---- a page

pub some_is : {A : Type 0} {x y : A} → Some x ≡ Some y → x ≡ y
some_is e = cc

no_numbers : {A : Type 0} {x : A} → None ≡ Some x → ⊥
no_numbers e = cc

pub ok_is : {A : Type 0} {x y : A} → Path (Result A Fault) (Ok x) (Ok y) → x ≡ y
ok_is e = cc

pub not_ok : {A : Type 0} {x : A} {f : Fault} → Path (Result A Fault) (Err f) (Ok x) → ⊥
not_ok e = cc

no_bool : Path Bool false true → ⊥
no_bool e = cc

leaf_kind : (kind : Kind) → type_of kind ≡ 13 → kind ≡ TableLeaf
leaf_kind TableLeaf e = refl
leaf_kind TableInterior e = absurd (omega (arith, e))
leaf_kind IndexLeaf e = absurd (omega (arith, e))
leaf_kind IndexInterior e = absurd (omega (arith, e))

not_leaf : (kind : Kind) → kind ≡ TableLeaf → type_of kind ≡ 5 → ⊥
not_leaf kind is e = (let f = ap type_of is in omega (arith, e, f))

-- the code's test of a kind
pub leaf_is : (kind : Kind) (test : Bool) → test ≡ (type_of kind == 13) → test ≡ true → kind ≡ TableLeaf
leaf_is TableLeaf test is so = refl
leaf_is TableInterior test is so = absurd (no_bool (sym is ∙ so))
leaf_is IndexLeaf test is so = absurd (no_bool (sym is ∙ so))
leaf_is IndexInterior test is so = absurd (no_bool (sym is ∙ so))

pub not_leaf_is : (kind : Kind) (test : Bool) → test ≡ (type_of kind == 13) → test ≡ false → kind ≡ TableLeaf → ⊥
not_leaf_is kind test is not same = no_bool (sym not ∙ is ∙ ap (λ (k : Kind). type_of k == 13) same)

-- an interior page leads down
pub looked_down : (rowid : ℤ) (node : Node) (numbers : List ℤ) (place child : ℕ) (kind : Kind) → numbers_of node ≡ Some numbers → type_of kind ≡ code_of node → (kind ≡ TableLeaf → ⊥)
    → place ≡ below rowid numbers → ((kids : List (ℕ × ℤ)) (last : ℕ) → node ≡ Keys kids last → child ≡ child_at place kids last) → IsStep rowid node (Down place child)
looked_down rowid (Rows rows) numbers place child kind numbered is inner at found = inner (leaf_kind kind is)
looked_down rowid (Keys kids last) numbers place child kind numbered is inner at found = (at ∙ ap (below rowid) (sym (some_is numbered)), found kids last refl)
looked_down rowid (Entries entries) numbers place child kind numbered is inner at found = absurd (no_numbers numbered)
looked_down rowid (Between kids last) numbers place child kind numbered is inner at found = absurd (no_numbers numbered)

-- a leaf is found to have a row of the rowid
pub looked_found : (rowid : ℤ) (node : Node) (numbers : List ℤ) (place : ℕ) (kind : Kind) → numbers_of node ≡ Some numbers → type_of kind ≡ code_of node → kind ≡ TableLeaf
    → place ≡ below rowid numbers → place < count_of node → ((rows : List (ℤ × Local)) (d : ℤ × Local) → node ≡ Rows rows → rowid ≡ (slice_index_or rows place d).0) → IsStep rowid node (Found place)
looked_found rowid (Rows rows) numbers place kind numbered is leaf at lt found =
    (at ∙ ap (below rowid) (sym (some_is numbered)), record { within = lt; same = λ d. sym (found rows d refl) })
looked_found rowid (Keys kids last) numbers place kind numbered is leaf at lt found = not_leaf kind leaf is
looked_found rowid (Entries entries) numbers place kind numbered is leaf at lt found = absurd (no_numbers numbered)
looked_found rowid (Between kids last) numbers place kind numbered is leaf at lt found = absurd (no_numbers numbered)

-- or to have none
pub looked_here : (rowid : ℤ) (node : Node) (numbers : List ℤ) (place : ℕ) (kind : Kind) → numbers_of node ≡ Some numbers → type_of kind ≡ code_of node → kind ≡ TableLeaf
    → place ≡ below rowid numbers → ((rows : List (ℤ × Local)) → node ≡ Rows rows → HasRowid rowid rows place → ⊥) → IsStep rowid node (Here place)
looked_here rowid (Rows rows) numbers place kind numbered is leaf at none = (at ∙ ap (below rowid) (sym (some_is numbered)), none rows refl)
looked_here rowid (Keys kids last) numbers place kind numbered is leaf at none = not_leaf kind leaf is
looked_here rowid (Entries entries) numbers place kind numbered is leaf at none = absurd (no_numbers numbered)
looked_here rowid (Between kids last) numbers place kind numbered is leaf at none = absurd (no_numbers numbered)

pub as_rows : (node : Node) (numbers : List ℤ) (kind : Kind) → numbers_of node ≡ Some numbers → type_of kind ≡ code_of node → kind ≡ TableLeaf
    → ((rows : List (ℤ × Local)) → node ≡ Rows rows → ⊥) → ⊥
as_rows (Rows rows) numbers kind numbered is leaf go = go rows refl
as_rows (Keys kids last) numbers kind numbered is leaf go = not_leaf kind leaf is
as_rows (Entries entries) numbers kind numbered is leaf go = no_numbers numbered
as_rows (Between kids last) numbers kind numbered is leaf go = no_numbers numbered

-- What is read of a page on the way to the pages below it.
use Rattle.std.proofs.Common.{◌≡◌, refl, sym, ap, subst, ℕ, suc, ◌+◌, ◌-◌, ◌^◌, List, [], ◌∷◌, length, Result, Ok, Err, ◌⊎◌, inl, inr, arith}
use Rattle.std.specs.Prelude.{MatchResult, min}
use Rattle.sqlval.specs.declared.fault.Fault.{Fault}
use Rattle.pages.specs.Counting.{start_of}
use Rattle.pages.specs.Map.{PageMap, page_at}
use Rattle.tree_page.specs.Cells.{Pairwise}
use Rattle.tree_page.specs.Node.{Node, Rows, Keys, Entries, Between, IsNode, IsKeyCell, code_of}
use Rattle.tree_page.specs.Reading.{count_of, type_of}
use Rattle.tree_page.specs.declared.items.Kind.{Kind}
use Rattle.tree_page.specs.declared.items.Kind.TheVariants.{IndexLeaf, IndexInterior}
use Rattle.tree_store.specs.Saying.{Says}
use Rattle.tree_table.specs.Freeing.{parts_for, IsOfTable}
use Rattle.tree_table.specs.declared.freeing.Parts.TheVariants.{Cells, Children}

-- what a page says, its bytes say
pub says_it : (pages : PageMap) (number : ℕ) (bytes : List ℕ) (node : Node) → Says pages number node → bytes ≡ page_at pages number → IsNode bytes (start_of number) node
says_it pages number bytes node says read = subst (λ (them : List ℕ). IsNode them (start_of number) node) (sym read) says.node_is

pub child_answers : (result : Result ℕ Fault) (child : ℕ) → MatchResult result (λ n. n ≡ child) (λ fault. ⊥) → result ≡ Ok child
child_answers (Ok n) child is = ap (λ (m : ℕ). Ok m) is
child_answers (Err fault) child is = absurd is

pub cells_for : (node : Node) (count : ℕ) → 13 ≡ code_of node → count ≡ count_of node → Cells count ≡ parts_for node
cells_for (Rows rows) count code is = ap (λ (n : ℕ). Cells n) is
cells_for (Keys kids last) count code is = absurd (omega (arith, code))
cells_for (Entries entries) count code is = absurd (omega (arith, code))
cells_for (Between kids last) count code is = absurd (omega (arith, code))

paired : {A B : Type 0} (P : A → B → Type 0) (xs : List A) (ys : List B) → Pairwise P xs ys → length xs ≡ length ys
paired P [] [] all = refl
paired P [] (y ∷ ys) all = absurd all
paired P (x ∷ xs) [] all = absurd all
paired P (x ∷ xs) (y ∷ ys) all = ap suc (paired P xs ys all.1)

pub children_for : (bytes : List ℕ) (start : ℕ) (node : Node) (count all : ℕ) → IsNode bytes start node → 5 ≡ code_of node → count ≡ count_of node → all ≡ min (count + 1) (2 ^ 64 - 1) → Children all ≡ parts_for node
children_for bytes start (Rows rows) count all is code counted sum = absurd (omega (arith, code))
children_for bytes start (Keys kids last) count all is code counted sum =
    let few = (is.page_is).few in
    let pairs = paired IsKeyCell is.cells kids (is.say).0 in
    let same : all ≡ suc (length kids) = omega (arith, few, pairs, counted, sum) in
    ap (λ (n : ℕ). Children n) same
children_for bytes start (Entries entries) count all is code counted sum = absurd (omega (arith, code))
children_for bytes start (Between kids last) count all is code counted sum = absurd (omega (arith, code))

-- a page of a table is of no other kind
pub not_of_index : (node : Node) (kind : Kind) → IsOfTable node → type_of kind ≡ code_of node → (kind ≡ IndexLeaf) ⊎ (kind ≡ IndexInterior) → ⊥
not_of_index (Rows rows) kind ours is (inl leaf) = (let code = ap type_of leaf in omega (arith, is, code))
not_of_index (Rows rows) kind ours is (inr inner) = (let code = ap type_of inner in omega (arith, is, code))
not_of_index (Keys kids last) kind ours is (inl leaf) = (let code = ap type_of leaf in omega (arith, is, code))
not_of_index (Keys kids last) kind ours is (inr inner) = (let code = ap type_of inner in omega (arith, is, code))
not_of_index (Entries entries) kind ours is index = ours
not_of_index (Between kids last) kind ours is index = ours

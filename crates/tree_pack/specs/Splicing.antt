-- Pages some of whose cells give way to others, and pages that are joined.
use Rattle.std.specs.Prelude.{◌≡◌, ◌≤◌, ◌+◌, ◌^◌, ◌==◌, ℕ, false, List, [], ◌++◌, length, take, drop, IfOk, IfSome, Option, Result, MatchResult}
use Rattle.std.specs.Global.{Vec}
use Rattle.sqlval.specs.declared.fault.Fault.{Fault}
use Rattle.sqlval.specs.declared.fault.Fault.TheVariants.{Memory}
use Rattle.tree_page.specs.Node.{Node, IsNode, Say, code_of, right_of}
use Rattle.tree_page.specs.Reading.{type_of}
use Rattle.tree_page.specs.declared.items.Kind.{Kind}
use Rattle.tree_pack.specs.Placing.{IsPlaced}
use Rattle.tree_pack.specs.declared.spreading.Packed.{Packed}
use Rattle.tree_pack.specs.Packing.{AreOf, Packs}

-- the items, where `count` of them, from a place on, gave way to these
abbrev pub spliced : {A : Type 0} → ℕ → ℕ → List A → List A → List A
spliced from count news items = take from items ++ (news ++ drop (from + count) items)

-- a page of the format's sizes, whose header begins at its front or after the database's header
pub record IsUsual (page : List ℕ) (start : ℕ) : Type 0 where
  pub least : 512 ≤ length page
  pub addressed : length page ≤ 2 ^ 16
  pub near : start ≤ 100

-- Where `count` cells of a page, from a place on, give way to these, and what all say then is a node of the page's kind, this node is
-- packed; or memory was short. If the change stands after all other cells, the pages are full.
abbrev pub Splices : List ℕ → ℕ → ℕ → ℕ → List (List ℕ) → List ℕ → Result Packed Fault → Type 0
Splices page start from count cells right result =
    (kind : Kind) (old new : Node) (is : IsNode page start old) → IsUsual page start → type_of kind ≡ code_of old → from + count ≤ length is.cells
    → AreOf kind (length page) right (spliced from count cells is.cells) new
    → MatchResult result (Packs kind (length page) (take start page) (from + count == length is.cells) (spliced from count cells is.cells) new) (λ fault. fault ≡ Memory)

-- Where this is so, and the new node has the old one's last child, a page that is answered says the new one.
abbrev pub SplicesOne : List ℕ → ℕ → ℕ → ℕ → List (List ℕ) → Result (Option (Vec ℕ)) Fault → Type 0
SplicesOne page start from count cells result =
    (old new : Node) (is : IsNode page start old) → IsUsual page start → from + count ≤ length is.cells → code_of new ≡ code_of old
    → right_of new ≡ right_of old → Say (length page) (spliced from count cells is.cells) new
    → IfOk result (λ answer. IfSome answer (λ written. IsPlaced page start (spliced from count cells is.cells) new written.items))

-- Where the cells of two pages of one kind, and those given between them, say a node, it is packed, with the last child of the second;
-- or memory was short.
abbrev pub Joins : List ℕ → List (List ℕ) → List ℕ → Result Packed Fault → Type 0
Joins left between right result =
    (kind : Kind) (a b new : Node) (is_a : IsNode left 0 a) (is_b : IsNode right 0 b) → IsUsual left 0 → length right ≡ length left
    → type_of kind ≡ code_of a → code_of a ≡ code_of b → AreOf kind (length left) (right_of b) (is_a.cells ++ (between ++ is_b.cells)) new
    → MatchResult result (Packs kind (length left) [] false (is_a.cells ++ (between ++ is_b.cells)) new) (λ fault. fault ≡ Memory)

-- A page says one thing.
use Rattle.std.proofs.Common.{◌≡◌, ℕ, ℤ, pos, ◌<◌, List, length, slice_index_or, Option, Some, sym, ap, ◌∙◌, arith}
use Rattle.std.proofs.lemmas.List.{ext_get_or}
use Rattle.record.proofs.VarintLemmas.{some_is}
use Rattle.tree_page.specs.declared.items.Kind.{Kind}
use Rattle.tree_page.specs.declared.items.Kind.TheVariants.{TableLeaf, TableInterior, IndexLeaf, IndexInterior}
use Rattle.tree_page.specs.Node.{Local, Node, Rows, Keys, Entries, Between, code_of, IsNode}
use Rattle.tree_page.specs.Reading.{type_of, count_of}
use Rattle.tree_page.specs.Bytes.{leading_row, leading_key, leading_entry, leading_between, item_on}
use Rattle.tree_page.specs.Laws.{SaysOne}
use Rattle.tree_page.proofs.NodeLemmas.{type_is, no_local, node_front, node_last, node_row, node_key, node_entry, node_between}

-- the same header stands on the page of both
record IsLike (a b : Node) : Type 0 where
  pub type : code_of a ≡ code_of b
  pub count : count_of a ≡ count_of b

like : (page : List ℕ) (start : ℕ) (a b : Node) → IsNode page start a → IsNode page start b → IsLike a b
like page start a b is also =
    let same = some_is (sym (node_front page start a is) ∙ node_front page start b also) in
    record { type = sym (type_is a) ∙ ap (λ (h : Kind × ℕ). type_of h.0) same ∙ type_is b; count = ap (λ (h : Kind × ℕ). h.1) same }

-- lists of which the same is found at each place
same_items : {X : Type 0} (d : X) (xs ys : List X) (read : ℕ → ℕ → Option X) → length xs ≡ length ys → ((i : ℕ) → i < length xs → read (length xs) i ≡ Some (slice_index_or xs i d))
    → ((i : ℕ) → i < length ys → read (length ys) i ≡ Some (slice_index_or ys i d)) → xs ≡ ys
same_items d xs ys read long first second =
    ext_get_or d xs ys long (λ i less. some_is (sym (first i less) ∙ (ap (λ (n : ℕ). read n i) long ∙ second i (omega (arith, long, less)))))

one_of : (page : List ℕ) (start : ℕ) (a b : Node) → IsNode page start a → IsNode page start b → IsLike a b → a ≡ b
one_of page start (Rows xs) (Rows ys) is also l =
    ap (λ (zs : List (ℤ × Local)). Rows zs) (same_items (pos 0, no_local) xs ys (λ n i. item_on leading_row page start (TableLeaf, n) i) l.count (λ i less. node_row page start xs i (pos 0, no_local) is less) (λ i less. node_row page start ys i (pos 0, no_local) also less))
one_of page start (Keys xs m) (Keys ys n) is also l =
    let items = same_items (0, pos 0) xs ys (λ n i. item_on (λ usable. leading_key) page start (TableInterior, n) i) l.count (λ i less. node_key page start xs m i (0, pos 0) is less) (λ i less. node_key page start ys n i (0, pos 0) also less) in
    let last : m ≡ n = some_is (sym (node_last page start (Keys xs m) is) ∙ node_last page start (Keys ys n) also) in
    ap (λ (zs : List (ℕ × ℤ)). Keys zs m) items ∙ ap (λ (k : ℕ). Keys ys k) last
one_of page start (Entries xs) (Entries ys) is also l =
    ap (λ (zs : List Local). Entries zs) (same_items no_local xs ys (λ n i. item_on leading_entry page start (IndexLeaf, n) i) l.count (λ i less. node_entry page start xs i no_local is less) (λ i less. node_entry page start ys i no_local also less))
one_of page start (Between xs m) (Between ys n) is also l =
    let items = same_items (0, no_local) xs ys (λ n i. item_on leading_between page start (IndexInterior, n) i) l.count (λ i less. node_between page start xs m i (0, no_local) is less) (λ i less. node_between page start ys n i (0, no_local) also less) in
    let last : m ≡ n = some_is (sym (node_last page start (Between xs m) is) ∙ node_last page start (Between ys n) also) in
    ap (λ (zs : List (ℕ × Local)). Between zs m) items ∙ ap (λ (k : ℕ). Between ys k) last
one_of page start (Rows xs) (Keys ys n) is also l = absurd (omega (arith, l.type))
one_of page start (Rows xs) (Entries ys) is also l = absurd (omega (arith, l.type))
one_of page start (Rows xs) (Between ys n) is also l = absurd (omega (arith, l.type))
one_of page start (Keys xs m) (Rows ys) is also l = absurd (omega (arith, l.type))
one_of page start (Keys xs m) (Entries ys) is also l = absurd (omega (arith, l.type))
one_of page start (Keys xs m) (Between ys n) is also l = absurd (omega (arith, l.type))
one_of page start (Entries xs) (Rows ys) is also l = absurd (omega (arith, l.type))
one_of page start (Entries xs) (Keys ys n) is also l = absurd (omega (arith, l.type))
one_of page start (Entries xs) (Between ys n) is also l = absurd (omega (arith, l.type))
one_of page start (Between xs m) (Rows ys) is also l = absurd (omega (arith, l.type))
one_of page start (Between xs m) (Keys ys n) is also l = absurd (omega (arith, l.type))
one_of page start (Between xs m) (Entries ys) is also l = absurd (omega (arith, l.type))

pub says_one : SaysOne
says_one page start a b is also = one_of page start a b is also (like page start a b is also)

-- Under one root there is one tree.
use Rattle.std.proofs.Common.{◌≡◌, ◌-◌, ◌<◌, ◌^◌, ℕ, zero, suc, ℤ, List, [], ◌∷◌, ◌++◌, length, take, drop, map, slice_index_or, refl, sym, ap, subst, ◌∙◌, arith}
use Rattle.std.proofs.lemmas.List.{append-nil, length-take, length-drop, take-append-drop}
use Rattle.std.specs.Int.{w32, to_be_bytes}
use Rattle.std.specs.List.{flat_map}
use Rattle.std.specs.Prelude.{min}
use Rattle.pages.specs.Counting.{start_of}
use Rattle.pages.specs.Map.{PageMap, page_at}
use Rattle.tree_page.specs.Cells.{Pairwise}
use Rattle.tree_page.specs.Node.{Local, Node, Rows, Keys}
use Rattle.tree_page.specs.Payload.{local_size, table_most}
use Rattle.tree_page.proofs.OneThing.{says_one}
use Rattle.tree_overflow.specs.Chains.{IsLink, IsChain, IsPayload, first_link, next_of}
use Rattle.tree_overflow.proofs.ReadChains.{chain_near}
use Rattle.tree_store.specs.Saying.{Says}
use Rattle.tree_store.specs.Sides.{Each, children, each_of, nothing}
use Rattle.tree_table.specs.Laws.{OneTree}
use Rattle.tree_table.specs.Tree.{Held, IsHeldAs, IsLeaf, Leaf, Lies, Tree, top, rows_of, pages_of}
use Rattle.tree_table.proofs.SameRows.{split}

-- ---- payloads

-- four bytes tell one number, and where they end
one_number : (a b : ℕ) (xs ys : List ℕ) → a < 2 ^ 32 → b < 2 ^ 32 → to_be_bytes w32 a ++ xs ≡ to_be_bytes w32 b ++ ys → (a ≡ b) × (xs ≡ ys)
one_number a b xs ys near also e =
    let parts = split (to_be_bytes w32 a) xs (to_be_bytes w32 b) ys refl e in
    let first = ap (λ (l : List ℕ). slice_index_or l 0 0) e in
    let second = ap (λ (l : List ℕ). slice_index_or l 1 0) e in
    let third = ap (λ (l : List ℕ). slice_index_or l 2 0) e in
    let fourth = ap (λ (l : List ℕ). slice_index_or l 3 0) e in
    (omega (arith, near, also, first, second, third, fourth), parts.1)

-- the first bytes of lists of one length are as many
as_many : (n : ℕ) (xs ys : List ℕ) → length xs ≡ length ys → length (take n xs) ≡ length (take n ys)
as_many n xs ys long = length-take n xs ∙ (ap (min n) long ∙ sym (length-take n ys))

-- and so are the others
left : (n : ℕ) (xs ys : List ℕ) → length xs ≡ length ys → length (drop n xs) ≡ length (drop n ys)
left n xs ys long = length-drop n xs ∙ (ap (λ (k : ℕ). k - n) long ∙ sym (length-drop n ys))

-- lists of the same parts are one
whole : (n : ℕ) (xs ys : List ℕ) → take n xs ≡ take n ys → drop n xs ≡ drop n ys → xs ≡ ys
whole n xs ys front rest = sym (take-append-drop n xs) ∙ ((λ i. front i ++ rest i) ∙ take-append-drop n ys)

-- a chain is told by its first page and the number of its bytes
one_chain : (map : PageMap) (usable : ℕ) (bytes others pages more : List ℕ) → length bytes ≡ length others → next_of pages ≡ next_of more
    → IsChain map usable bytes pages → IsChain map usable others more → (bytes ≡ others) × (pages ≡ more)
one_chain map usable bytes others [] [] long first is also = (is ∙ sym also, refl)
one_chain map usable bytes others [] (page ∷ more) long first is also = absurd (let behind = also.0.behind in omega (arith, first, behind))
one_chain map usable bytes others (page ∷ pages) [] long first is also = absurd (let behind = is.0.behind in omega (arith, first, behind))
one_chain map usable bytes others (page ∷ pages) (other ∷ more) long first is also =
    let here : IsLink map usable page others (next_of more) = subst (λ (n : ℕ). IsLink map usable n others (next_of more)) (sym first) also.0 in
    let links = one_number (next_of pages) (next_of more) (take (usable - 4) bytes ++ is.0.rest) (take (usable - 4) others ++ here.rest)
    (chain_near map usable (drop (usable - 4) bytes) pages is.1) (chain_near map usable (drop (usable - 4) others) more also.1) (sym is.0.parts ∙ here.parts) in
    let front = split (take (usable - 4) bytes) is.0.rest (take (usable - 4) others) here.rest (as_many (usable - 4) bytes others long) links.1 in
    let rest = one_chain map usable (drop (usable - 4) bytes) (drop (usable - 4) others) pages more (left (usable - 4) bytes others long) links.0 is.1 also.1 in
    (whole (usable - 4) bytes others front.0 rest.0, λ i. first i ∷ rest.1 i)

-- the number behind the bytes of a cell tells the first page of a chain
one_first : (map : PageMap) (usable : ℕ) (bytes others pages more : List ℕ) → IsChain map usable bytes pages → IsChain map usable others more
    → first_link pages ≡ first_link more → next_of pages ≡ next_of more
one_first map usable bytes others [] [] is also e = refl
one_first map usable bytes others [] (page ∷ more) is also e = absurd (let none = ap length e in omega (arith, none))
one_first map usable bytes others (page ∷ pages) [] is also e = absurd (let none = ap length e in omega (arith, none))
one_first map usable bytes others (page ∷ pages) (other ∷ more) is also e =
    (one_number page other [] [] is.0.near also.0.near (append-nil (to_be_bytes w32 page) ∙ (e ∙ sym (append-nil (to_be_bytes w32 other))))).0

-- a payload is told by its bytes in a cell and its length
one_payload : (map : PageMap) (usable most : ℕ) (bytes payload other pages more : List ℕ) → length payload ≡ length other
    → IsPayload map usable most bytes payload pages → IsPayload map usable most bytes other more → (payload ≡ other) × (pages ≡ more)
one_payload map usable most bytes payload other pages more long is also =
    let local = local_size usable most (length payload) in
    let same : local_size usable most (length other) ≡ local_size usable most (length payload) = ap (local_size usable most) (sym long) in
    let parts : bytes ≡ take local other ++ first_link more = subst (λ (n : ℕ). bytes ≡ take n other ++ first_link more) same also.parts in
    let chain : IsChain map usable (drop local other) more = subst (λ (n : ℕ). IsChain map usable (drop n other) more) same also.chain in
    let front = split (take local payload) (first_link pages) (take local other) (first_link more) (as_many local payload other long) (sym is.parts ∙ parts) in
    let first = one_first map usable (drop local payload) (drop local other) pages more is.chain chain front.1 in
    let rest = one_chain map usable (drop local payload) (drop local other) pages more (left local payload other long) first is.chain chain in
    (whole local payload other front.0 rest.0, rest.1)

-- ---- leaves

one_held : (map : PageMap) (usable : ℕ) (said : ℤ × Local) (a b : Held) → IsHeldAs map usable said a → IsHeldAs map usable said b → a ≡ b
one_held map usable said a b is also =
    let rowid = sym is.rowid ∙ also.rowid in
    let both = one_payload map usable (table_most usable) said.1.bytes a.row.payload b.row.payload a.pages b.pages (sym is.size ∙ also.size) is.payload also.payload in
    λ i. record { row = record { rowid = rowid i; payload = both.0 i }; pages = both.1 i }

-- what a leaf says tells its rows
one_list : (map : PageMap) (usable : ℕ) (said : List (ℤ × Local)) (rows others : List Held) → Pairwise (IsHeldAs map usable) said rows → Pairwise (IsHeldAs map usable) said others → rows ≡ others
one_list map usable [] [] [] are also = refl
one_list map usable [] [] (b ∷ others) are also = absurd also
one_list map usable [] (a ∷ rows) others are also = absurd are
one_list map usable (one ∷ said) [] others are also = absurd are
one_list map usable (one ∷ said) (a ∷ rows) [] are also = absurd also
one_list map usable (one ∷ said) (a ∷ rows) (b ∷ others) are also =
    let first = one_held map usable one a b are.0 also.0 in
    let rest = one_list map usable said rows others are.1 also.1 in
    λ i. first i ∷ rest i

-- ---- pages

-- a page of one number says one thing
one_node : (map : PageMap) (page other : ℕ) (a b : Node) → page ≡ other → Says map page a → Says map other b → a ≡ b
one_node map page other a b same is also =
    says_one (page_at map page) (start_of page) a b is.node_is (subst (λ (n : ℕ). Says map n b) (sym same) also).node_is

same_said : (a b : List (ℤ × Local)) → Rows a ≡ Rows b → a ≡ b
same_said a b h = cc

same_kids : (a b : List (ℕ × ℤ)) (last other : ℕ) → Keys a last ≡ Keys b other → a ≡ b
same_kids a b last other h = cc

same_last : (a b : List (ℕ × ℤ)) (last other : ℕ) → Keys a last ≡ Keys b other → last ≡ other
same_last a b last other h = cc

leaf_above : {A : Type 0} (said : List (ℤ × Local)) (kids : List (ℕ × ℤ)) (last : ℕ) → Rows said ≡ Keys kids last → A
leaf_above said kids last h = absurd cc

-- ---- subtrees side by side

no_kid : {A X : Type 0} (x : X) (xs : List X) → [] ≡ x ∷ xs → A
no_kid x xs h = absurd cc

first_kid : (a b : ℕ × ℤ) (kids others : List (ℕ × ℤ)) → a ∷ kids ≡ b ∷ others → a ≡ b
first_kid a b kids others h = cc

other_kids : (a b : ℕ × ℤ) (kids others : List (ℕ × ℤ)) → a ∷ kids ≡ b ∷ others → kids ≡ others
other_kids a b kids others h = cc

-- subtrees under the same pages give the same, where each does
one_side : {T U X : Type 0} (at : T → ℕ) (also_at : U → ℕ) (P : T → Type 0) (Q : U → Type 0) (f : T → List X) (g : U → List X)
    → ((t : T) (u : U) → at t ≡ also_at u → P t → Q u → f t ≡ g u) → (kids : List (T × ℤ)) (last : T) (others : List (U × ℤ)) (other : U)
    → children at kids ≡ children also_at others → at last ≡ also_at other → Each P kids last → Each Q others other → each_of f nothing kids last ≡ each_of g nothing others other
one_side at also_at P Q f g one [] last [] other kids_are last_is is also = one last other last_is is also
one_side at also_at P Q f g one [] last (kid ∷ others) other kids_are last_is is also = no_kid (also_at kid.0, kid.1) (children also_at others) kids_are
one_side at also_at P Q f g one (kid ∷ kids) last [] other kids_are last_is is also = no_kid (at kid.0, kid.1) (children at kids) (sym kids_are)
one_side at also_at P Q f g one (kid ∷ kids) last (too ∷ others) other kids_are last_is is also =
    let page = ap (λ (k : ℕ × ℤ). k.0) (first_kid (at kid.0, kid.1) (also_at too.0, too.1) (children at kids) (children also_at others) kids_are) in
    let first = one kid.0 too.0 page is.0 also.0 in
    let rest = one_side at also_at P Q f g one kids last others other
    (other_kids (at kid.0, kid.1) (also_at too.0, too.1) (children at kids) (children also_at others) kids_are) last_is is.1 also.1 in
    λ i. first i ++ rest i

-- ---- trees

-- the same rows, on the same pages
abbrev AreOne : (depth other : ℕ) → Tree depth → Tree other → Type 0
AreOne depth other t u = (rows_of depth t ≡ rows_of other u) × (pages_of depth t ≡ pages_of other u)

one_leaf : (pages : PageMap) (usable : ℕ) (t u : Leaf) → t.page ≡ u.page → IsLeaf pages usable t → IsLeaf pages usable u → AreOne 0 0 t u
one_leaf pages usable t u page is also =
    let said = same_said is.said also.said (one_node pages t.page u.page (Rows is.said) (Rows also.said) page is.says also.says) in
    let rows = one_list pages usable is.said t.rows u.rows is.rows (subst (λ (l : List (ℤ × Local)). Pairwise (IsHeldAs pages usable) l u.rows) (sym said) also.rows) in
    (ap (map (λ (held : Held). held.row)) rows, λ i. page i ∷ flat_map (λ (held : Held). held.pages) (rows i))

one_tree : (map : PageMap) (usable depth other : ℕ) (t : Tree depth) (u : Tree other) → top depth t ≡ top other u → Lies map usable depth t → Lies map usable other u → AreOne depth other t u
one_tree map usable zero zero t u page is also = one_leaf map usable t u page is also
one_tree map usable zero (suc other) t u page is also =
    leaf_above is.said (children (top other) u.kids) (top other u.last) (one_node map t.page u.page (Rows is.said) (Keys (children (top other) u.kids) (top other u.last)) page is.says also.0)
one_tree map usable (suc depth) zero t u page is also =
    leaf_above also.said (children (top depth) t.kids) (top depth t.last) (one_node map u.page t.page (Rows also.said) (Keys (children (top depth) t.kids) (top depth t.last)) (sym page) also.says is.0)
one_tree map usable (suc depth) (suc other) t u page is also =
    let node = one_node map t.page u.page (Keys (children (top depth) t.kids) (top depth t.last)) (Keys (children (top other) u.kids) (top other u.last)) page is.0 also.0 in
    let kids = same_kids (children (top depth) t.kids) (children (top other) u.kids) (top depth t.last) (top other u.last) node in
    let last = same_last (children (top depth) t.kids) (children (top other) u.kids) (top depth t.last) (top other u.last) node in
    let rows = one_side (top depth) (top other) (Lies map usable depth) (Lies map usable other) (rows_of depth) (rows_of other)
    (λ kid too same has too_has. (one_tree map usable depth other kid too same has too_has).0) t.kids t.last u.kids u.last kids last is.1 also.1 in
    let pages = one_side (top depth) (top other) (Lies map usable depth) (Lies map usable other) (pages_of depth) (pages_of other)
    (λ kid too same has too_has. (one_tree map usable depth other kid too same has too_has).1) t.kids t.last u.kids u.last kids last is.1 also.1 in
    (rows, λ i. page i ∷ pages i)

pub one_table_tree : OneTree
one_table_tree map size root rows others used other_used is also =
    let both = one_tree map size is.depth also.depth is.tree also.tree (is.root_is ∙ sym also.root_is) is.lies also.lies in
    (sym is.rows_are ∙ (both.0 ∙ also.rows_are), sym is.used_are ∙ (both.1 ∙ also.used_are))

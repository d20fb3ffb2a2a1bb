-- What is read of a page.
use Rattle.std.proofs.Common.{◌≡◌, refl, sym, ◌∙◌, ap, subst, ℕ, zero, suc, ◌<◌, ◌≤◌, List, [], ◌∷◌, ◌++◌, length, map, take, drop, slice_index_or, Option, Some, Result, Ok, Err, ◌⊎◌, inl, inr, Bool, IsTrue, arith}
use Rattle.std.specs.Prelude.{MatchResult, IsErrAnd}
use Rattle.std.proofs.lemmas.Bool.Decides.{nat_tests}
use Rattle.std.proofs.lemmas.List.{append-nil, take_all, drop_all}
use Rattle.sqlval.specs.Faults.{IsOutside}
use Rattle.sqlval.specs.declared.fault.Fault.{Fault}
use Rattle.pages.specs.Calls.{Limits, IsOutsideOrFull}
use Rattle.pages.specs.Counting.{start_of}
use Rattle.pages.specs.Map.{PageMap, page_at}
use Rattle.tree_overflow.specs.Chains.{IsChain, IsPayload, first_link}
use Rattle.tree_page.specs.Cells.{Pairwise}
use Rattle.tree_page.specs.Node.{Local, Node, Rows, Keys, Entries, Between, IsNode, code_of}
use Rattle.tree_page.specs.Payload.{local_size}
use Rattle.tree_page.specs.Reading.{Place, count_of, type_of}
use Rattle.tree_page.specs.declared.items.Kind.{Kind}
use Rattle.tree_page.specs.declared.items.Kind.TheVariants.{TableLeaf, TableInterior, IndexLeaf, IndexInterior}
use Rattle.tree_store.specs.Saying.{Says}
use Rattle.tree_index.specs.Comparing.{IsOfIndex, IsBetween, locals_of, child_at, child_of, HasEntries, IsPageOf, placed}
use Rattle.tree_index.specs.Tree.{Held, IsHeldAs}

pub ok_is : {X : Type 0} (a b : X) → ◌≡◌ {A = Result X Fault} (Ok a) (Ok b) → a ≡ b
ok_is a b e = cc

pub not_refused : {X : Type 0} (fault : Fault) (a : X) → ◌≡◌ {A = Result X Fault} (Err fault) (Ok a) → ⊥
not_refused fault a e = cc

-- a refusal is passed on
pub refused : {X : Type 0} (P : X → Type 0) (result : Result X Fault) (fault : Fault) → IsErrAnd result (λ e. e ≡ fault) → IsOutside fault → MatchResult result P IsOutside
refused P (Ok x) fault is outside = absurd is
refused P (Err e) fault is outside = subst IsOutside (sym is) outside

-- ---- a page

-- the page that was read is that of the bytes
pub on_page : (page : Place) (bytes : List ℕ) (start at : ℕ) (node : Node) → page ≡ record { bytes = bytes; start = at } → at ≡ start → IsNode bytes start node → IsNode page.bytes page.start node
on_page page bytes start at node is begins it =
    subst (λ (p : Place). IsNode p.bytes p.start node) (sym is) (subst (λ (n : ℕ). IsNode bytes n node) (sym begins) it)

-- what a page says, its bytes say
pub says_it : (pages : PageMap) (number : ℕ) (bytes : List ℕ) (node : Node) → Says pages number node → bytes ≡ page_at pages number → IsNode bytes (start_of number) node
says_it pages number bytes node says read = subst (λ (them : List ℕ). IsNode them (start_of number) node) (sym read) says.node_is

-- so do they where they are looked at
pub on_bytes : (pages : PageMap) (number : ℕ) (page : Place) (node : Node) → Says pages number node → IsPageOf pages number page → IsNode page.bytes page.start node
on_bytes pages number page node says read =
    subst (λ (n : ℕ). IsNode page.bytes n node) (sym read.1) (subst (λ (them : List ℕ). IsNode them (start_of number) node) (sym read.0) says.node_is)

-- a page that was opened so is that of the number
pub opened : (pages : PageMap) (number begins : ℕ) (bytes : List ℕ) (page : Place) → page ≡ record { bytes = bytes; start = begins } → begins ≡ start_of number → bytes ≡ page_at pages number → IsPageOf pages number page
opened pages number begins bytes page is at read = (ap (λ (p : Place). p.bytes) is ∙ read, ap (λ (p : Place). p.start) is ∙ at)

-- a refusal that is none of a page has no number
pub placed_outside : (number : ℕ) (fault : Fault) → IsOutside fault → IsOutside (placed number fault)
placed_outside number fault (inl memory) = inl (ap (placed number) memory)
placed_outside number fault (inr io) = inr (ap (placed number) io)

-- a page of an index is of no other kind
pub not_of_table : (node : Node) (kind : Kind) → IsOfIndex node → type_of kind ≡ code_of node → (kind ≡ TableLeaf) ⊎ (kind ≡ TableInterior) → ⊥
not_of_table (Rows rows) kind ours is table = ours
not_of_table (Keys kids last) kind ours is table = ours
not_of_table (Entries entries) kind ours is (inl leaf) = (let code = ap type_of leaf in omega (arith, is, code))
not_of_table (Entries entries) kind ours is (inr inner) = (let code = ap type_of inner in omega (arith, is, code))
not_of_table (Between kids last) kind ours is (inl leaf) = (let code = ap type_of leaf in omega (arith, is, code))
not_of_table (Between kids last) kind ours is (inr inner) = (let code = ap type_of inner in omega (arith, is, code))

-- a leaf says entries, and an interior page children with entries between them
pub at_leaf : (node : Node) (kind : Kind) (Goal : Node → Type 0) → IsOfIndex node → type_of kind ≡ code_of node → kind ≡ IndexLeaf
    → ((entries : List Local) → node ≡ Entries entries → Goal (Entries entries)) → Goal node
at_leaf (Rows rows) kind Goal ours is leaf so = absurd ours
at_leaf (Keys kids last) kind Goal ours is leaf so = absurd ours
at_leaf (Entries entries) kind Goal ours is leaf so = so entries refl
at_leaf (Between kids last) kind Goal ours is leaf so = absurd (let code = ap type_of leaf in omega (arith, is, code))

pub at_inner : (node : Node) (kind : Kind) (Goal : Node → Type 0) → IsOfIndex node → type_of kind ≡ code_of node → kind ≡ IndexInterior
    → ((kids : List (ℕ × Local)) (last : ℕ) → node ≡ Between kids last → Goal (Between kids last)) → Goal node
at_inner (Rows rows) kind Goal ours is inner so = absurd ours
at_inner (Keys kids last) kind Goal ours is inner so = absurd ours
at_inner (Entries entries) kind Goal ours is inner so = absurd (let code = ap type_of inner in omega (arith, is, code))
at_inner (Between kids last) kind Goal ours is inner so = so kids last refl

-- the entry of a child
pub local_there : (kids : List (ℕ × Local)) (place : ℕ) (d : ℕ × Local) (e : Local) → place < length (map (λ kid. kid.1) kids)
    → (place < length kids) × (slice_index_or (map (λ kid. kid.1) kids) place e ≡ (slice_index_or kids place d).1)
local_there [] place d e lt = absurd (omega (arith, lt))
local_there (kid ∷ kids) zero d e lt = (omega arith, refl)
local_there (kid ∷ kids) (suc place) d e lt = (let rest = local_there kids place d e (omega (arith, lt)) in (omega (arith, rest.0), rest.1))

-- the child at a place
pub child_within : {K : Type 0} (place : ℕ) (kids : List (ℕ × K)) (last : ℕ) (d : ℕ × K) → place < length kids → child_at place kids last ≡ (slice_index_or kids place d).0
child_within place [] last d lt = absurd (omega (arith, lt))
child_within zero (kid ∷ kids) last d lt = refl
child_within (suc place) (kid ∷ kids) last d lt = child_within place kids last d (omega (arith, lt))

pub child_after : {K : Type 0} (place : ℕ) (kids : List (ℕ × K)) (last : ℕ) → length kids ≤ place → child_at place kids last ≡ last
child_after place [] last le = refl
child_after zero (kid ∷ kids) last le = absurd (omega (arith, le))
child_after (suc place) (kid ∷ kids) last le = child_after place kids last (omega (arith, le))

-- the child at a place, or the last one, is what is found
pub child_found : (node : Node) (place : ℕ) (result : Result (Option ℕ) Fault) → IsBetween node
    → ((kids : List (ℕ × Local)) (last : ℕ) → node ≡ Between kids last → result ≡ Ok (Some (child_at place kids last))) → result ≡ Ok (child_of place node)
child_found (Rows rows) place result is so = absurd is
child_found (Keys kids last) place result is so = absurd is
child_found (Entries entries) place result is so = absurd is
child_found (Between kids last) place result is so = so kids last refl

pub is_between : (node : Node) (kids : List (ℕ × Local)) (last : ℕ) → node ≡ Between kids last → IsBetween node
is_between node kids last e = subst (λ (n : Node). IsBetween n) (sym e) tt

-- ---- its entries

-- what a page says of the entry at a place
pub said_there : (pages : PageMap) (size : ℕ) (said : List Local) (entries : List Held) (place : ℕ) (item : Local) (d : Held) → Pairwise (IsHeldAs pages size) said entries → place < length entries
    → (place < length said) × IsHeldAs pages size (slice_index_or said place item) (slice_index_or entries place d)
said_there pages size [] [] place item d all lt = absurd (omega (arith, lt))
said_there pages size [] (entry ∷ entries) place item d all lt = absurd all
said_there pages size (one ∷ said) [] place item d all lt = absurd all
said_there pages size (one ∷ said) (entry ∷ entries) zero item d all lt = (omega arith, all.0)
said_there pages size (one ∷ said) (entry ∷ entries) (suc place) item d all lt =
    (let rest = said_there pages size said entries place item d all.1 (omega (arith, lt)) in (omega (arith, rest.0), rest.1))

pub said_counted : (pages : PageMap) (size : ℕ) (said : List Local) (entries : List Held) → Pairwise (IsHeldAs pages size) said entries → length said ≡ length entries
said_counted pages size [] [] all = refl
said_counted pages size [] (entry ∷ entries) all = absurd all
said_counted pages size (one ∷ said) [] all = absurd all
said_counted pages size (one ∷ said) (entry ∷ entries) all = ap suc (said_counted pages size said entries all.1)

pub locals_mapped : (kids : List (ℕ × Local)) → length (map (λ kid. kid.1) kids) ≡ length kids
locals_mapped [] = refl
locals_mapped (kid ∷ kids) = ap suc (locals_mapped kids)

pub locals_counted : (node : Node) → IsOfIndex node → length (locals_of node) ≡ count_of node
locals_counted (Rows rows) ours = absurd ours
locals_counted (Keys kids last) ours = absurd ours
locals_counted (Entries entries) ours = refl
locals_counted (Between kids last) ours = locals_mapped kids

pub entries_counted : (pages : PageMap) (size number : ℕ) (node : Node) (entries : List Held) → HasEntries pages size number node entries → count_of node ≡ length entries
entries_counted pages size number node entries has = sym (locals_counted node has.ours) ∙ said_counted pages size (locals_of node) entries has.held

-- ---- a payload that lies whole in its cell

no_link : (pages : PageMap) (usable : ℕ) (bytes chain : List ℕ) → IsChain pages usable bytes chain → length bytes ≡ 0 → first_link chain ≡ []
no_link pages usable bytes [] is none = refl
no_link pages usable bytes (page ∷ chain) is none = absurd (omega (arith, (is.0).some, none))

pub local_whole : (usable most size : ℕ) → size ≤ most → local_size usable most size ≡ size
local_whole usable most size le = grind (arith, nat_tests)

pub lies_whole : (pages : PageMap) (usable most : ℕ) (bytes payload chain : List ℕ) → IsPayload pages usable most bytes payload chain → length payload ≤ most → bytes ≡ payload
lies_whole pages usable most bytes payload chain is le =
    let all = local_whole usable most (length payload) le in
    let rest : length (drop (local_size usable most (length payload)) payload) ≡ 0 = ap (λ (n : ℕ). length (drop n payload)) all ∙ ap length (drop_all (length payload) payload (omega arith)) in
    is.parts ∙ ap (λ (n : ℕ). take n payload ++ first_link chain) all ∙ ap (λ (link : List ℕ). take (length payload) payload ++ link) (no_link pages usable _ chain is.chain rest)
    ∙ append-nil (take (length payload) payload) ∙ take_all (length payload) payload (omega arith)

-- ---- calls one after the other

-- what a call says of pages that are as before, it says of those before
pub since : {P K : Type 0} (below : P → K) (tells : K → Bool) (limits : K → Limits) (pages : P → PageMap) (F : PageMap → ℕ → Type 0) (old mid : P)
    → below mid ≡ below old → pages mid ≡ pages old → (IsTrue (tells (below mid)) → F (pages mid) (limits (below mid)).page) → IsTrue (tells (below old)) → F (pages old) (limits (below old)).page
since {P} {K} below tells limits pages F old mid kept same says told =
    subst (λ (k : K). F (pages old) (limits k).page) kept (subst (λ (m : PageMap). F m (limits (below mid)).page) same (says (subst (λ (k : K). IsTrue (tells k)) (sym kept) told)))

pub full_err : {T : Type 0} (P : T → Type 0) (result : Result T Fault) (fault : Fault) → IsErrAnd result (λ e. e ≡ fault) → IsOutsideOrFull fault → MatchResult result P IsOutsideOrFull
full_err P (Ok x) fault is full = absurd is
full_err P (Err e) fault is full = subst IsOutsideOrFull (sym is) full

pub outside_full : {T : Type 0} (P : T → Type 0) (result : Result T Fault) (fault : Fault) → IsErrAnd result (λ e. e ≡ fault) → IsOutside fault → MatchResult result P IsOutsideOrFull
outside_full P result fault is outside = full_err P result fault is (inl outside)

-- Pages are given back, part by part.
use Rattle.std.proofs.Common.{◌≡◌, refl, sym, ◌∙◌, ap, subst, ℕ, zero, suc, ◌<◌, ◌≤◌, ◌+◌, Bool, IsTrue, Ok, Err, List, [], ◌∷◌, ◌++◌, length, take, slice_index_or, arith}
use Rattle.std.proofs.lemmas.List.{append-nil, take_more, take_all, length-drop}
use Rattle.std.proofs.lemmas.List.Concat.{flat_map-append}
use Rattle.std.specs.List.{flat_map}
use Rattle.std.specs.Prelude.{⊤, Result, MatchResult}
use Rattle.sqlval.specs.Faults.{IsOutside}
use Rattle.sqlval.specs.declared.fault.Fault.{Fault}
use Rattle.pages.specs.Calls.{Limits, Causes}
use Rattle.pages.specs.Counting.{occurs, IsOnce, Moves}
use Rattle.pages.specs.Map.{PageMap}
use Rattle.pages.proofs.Moving.{in_sequence, occurs_append}
use Rattle.freelist.specs.Calls.{AreFree, HasFree, KeepsHeader}
use Rattle.tree_overflow.specs.Calls.{IsFreed}
use Rattle.tree_overflow.specs.Chains.{IsPayload}
use Rattle.tree_overflow.proofs.Laying.{keeps_then, same_keeps}
use Rattle.tree_page.specs.Node.{Local, Node}
use Rattle.tree_page.specs.Payload.{local_size}
use Rattle.tree_store.proofs.PutPages.{fresh_same}
use Rattle.tree_store.proofs.Staying.{says_kept, occurs_here, kept_of}
use Rattle.tree_store.specs.Staying.{AreKept}
use Rattle.tree_index.specs.Calls.{AreGivenBack}
use Rattle.tree_index.specs.Comparing.{locals_of}
use Rattle.tree_index.specs.Freeing.{HoldEntries, FreesEntry}
use Rattle.tree_index.specs.Tree.{Held}
use Rattle.tree_index.proofs.Readings.{local_whole, said_there}
use Rattle.tree_index.proofs.Shares.{AreUpTo, chain_up, after, others_kept, beside_used}
use Rattle.tree_index.proofs.Staying.{entry_kept}

-- ---- one part after the other

pub none_given : (m : PageMap) (size : ℕ) (free : List ℕ) → AreFree m size free → AreGivenBack m m size [] free
none_given m size free are = record {
  now_free = free;
  free_are = are;
  moves = record {
    longer = omega arith;
    counts = λ n. (let none = fresh_same (length m) (length m) n refl in omega (arith, none));
    keeps = λ n from to none. refl;
    whole = λ size whole. whole;
  };
  header = same_keeps m m refl;
  same = refl;
}

-- it matters only how often each page stands in the list
pub given_as : (old new : PageMap) (size : ℕ) (used other free : List ℕ) → ((n : ℕ) → occurs n other ≡ occurs n used) → AreGivenBack old new size used free → AreGivenBack old new size other free
given_as old new size used other free same given = record {
  now_free = given.now_free;
  free_are = given.free_are;
  moves = record {
    longer = (given.moves).longer;
    counts = λ n. (let at = (given.moves).counts n in let e = same n in omega (arith, at, e));
    keeps = λ n from to none. (given.moves).keeps n from to (let e = same n in omega (arith, none, e));
    whole = (given.moves).whole;
  };
  header = given.header;
  same = given.same;
}

pub given_then : (old mid new : PageMap) (size : ℕ) (used more free : List ℕ) → (given : AreGivenBack old mid size used free) → AreGivenBack mid new size more given.now_free → AreGivenBack old new size (used ++ more) free
given_then old mid new size used more free given then_given = record {
  now_free = then_given.now_free;
  free_are = then_given.free_are;
  moves = in_sequence old mid new (used ++ more) free more given.now_free [] then_given.now_free
      (beside_used old mid used free [] given.now_free more (used ++ more) more given.moves (λ n. occurs_append n used more) (λ n. omega arith)) then_given.moves;
  header = keeps_then old mid new given.header then_given.header;
  same = then_given.same ∙ given.same;
}

-- what is free then, where pages that are there were given back
pub given_by : (old new : PageMap) (size : ℕ) (used free now_free : List ℕ) → AreFree old size free → AreUpTo (length old) used → ((n : ℕ) → occurs n used + occurs n free ≤ 1) → occurs 1 used ≡ 0
    → HasFree new size now_free → Moves old new used free [] now_free → KeepsHeader old new → length new ≡ length old → AreGivenBack old new size used free
given_by old new size used free now_free are up apart first has moves header same = record {
  now_free = now_free;
  free_are = (after old new size used free [] now_free are moves has up apart first).are;
  moves = moves;
  header = header;
  same = same;
}

-- ---- a chain

once_both : (used free : List ℕ) → IsOnce (used ++ free) → (n : ℕ) → occurs n used + occurs n free ≤ 1
once_both used free once n = (let most = once.once n in let both = occurs_append n used free in omega (arith, most, both))

-- a payload that lies whole in its cell has no pages
pub no_pages : (m : PageMap) (size most : ℕ) (bytes payload chain : List ℕ) → IsPayload m size most bytes payload chain → length payload ≤ most → chain ≡ []
no_pages m size most bytes payload [] is le = refl
no_pages m size most bytes payload (page ∷ chain) is le =
    let all = local_whole size most (length payload) le in
    let none = length-drop (local_size size most (length payload)) payload in
    let some = (is.chain.0).some in
    absurd (omega (arith, all, none, some))

pub chain_given : (old new : PageMap) (size most : ℕ) (bytes payload chain free : List ℕ) → AreFree old size free → occurs 1 chain ≡ 0 → IsOnce (chain ++ free) → IsPayload old size most bytes payload chain
    → IsFreed old new size chain free → AreGivenBack old new size chain free
chain_given old new size most bytes payload chain free are first once is freed =
    given_by old new size chain free freed.now_free are (chain_up old size _ chain is.chain) (once_both chain free once) first freed.has freed.moves freed.header freed.same

-- ---- parts of a list of pages

-- what a list of parts has up to a place
abbrev pub up_to : {X : Type 0} → (X → List ℕ) → ℕ → List X → List ℕ
up_to pages place parts = flat_map pages (take place parts)

pub up_to_more : {X : Type 0} (pages : X → List ℕ) (place : ℕ) (parts : List X) (d : X) → place < length parts
    → up_to pages (place + 1) parts ≡ up_to pages place parts ++ pages (slice_index_or parts place d)
up_to_more pages place parts d lt =
    ap (flat_map pages) (take_more parts place d lt) ∙ flat_map-append pages (take place parts) (slice_index_or parts place d ∷ [])
    ∙ ap (λ (l : List ℕ). up_to pages place parts ++ l) (append-nil (pages (slice_index_or parts place d)))

pub up_to_all : {X : Type 0} (pages : X → List ℕ) (place : ℕ) (parts : List X) → length parts ≤ place → up_to pages place parts ≡ flat_map pages parts
up_to_all pages place parts le = ap (flat_map pages) (take_all place parts le)

-- the parts before a place and the one there are among all
pub among : {X : Type 0} (pages : X → List ℕ) (place : ℕ) (parts : List X) (d : X) (n : ℕ) → place < length parts
    → occurs n (up_to pages place parts) + occurs n (pages (slice_index_or parts place d)) ≤ occurs n (flat_map pages parts)
among pages place [] d n lt = absurd (omega (arith, lt))
among pages zero (x ∷ xs) d n lt = (let both = occurs_append n (pages x) (flat_map pages xs) in omega (arith, both))
among pages (suc place) (x ∷ xs) d n lt =
    let rest = among pages place xs d n (omega (arith, lt)) in
    let whole = occurs_append n (pages x) (flat_map pages xs) in
    let part = occurs_append n (pages x) (up_to pages place xs) in
    omega (arith, rest, whole, part)

-- and the parts before a place
pub part_of : {X : Type 0} (pages : X → List ℕ) (place : ℕ) (parts : List X) (n : ℕ) → occurs n (up_to pages place parts) ≤ occurs n (flat_map pages parts)
part_of pages zero parts n = omega arith
part_of pages (suc place) [] n = omega arith
part_of pages (suc place) (x ∷ xs) n =
    let rest = part_of pages place xs n in
    let whole = occurs_append n (pages x) (flat_map pages xs) in
    let part = occurs_append n (pages x) (up_to pages place xs) in
    omega (arith, rest, whole, part)

-- ---- after some parts were given back

-- What is so where pages were given back, and others weren't yet.
pub record IsAfterPart (old now : PageMap) (size : ℕ) (here now_free : List ℕ) : Type 0 where
  pub kept : AreKept old now size here
  pub apart : (n : ℕ) → occurs n here + occurs n now_free ≤ 1

pub after_part : (old now : PageMap) (size : ℕ) (used here free : List ℕ) → AreFree old size free → ((n : ℕ) → occurs n used + occurs n here + occurs n free ≤ 1) → (given : AreGivenBack old now size used free)
    → IsAfterPart old now size here given.now_free
after_part old now size used here free are once given = record {
  kept = others_kept old now size used free [] given.now_free here are.whole given.moves (λ n some. (let most = once n in omega (arith, most, some)));
  apart = λ n. (let most = once n in let at = (given.moves).counts n in let none = fresh_same (length old) (length now) n given.same in omega (arith, most, at, none));
}

-- ---- the entries of a page

abbrev pub chain_of : Held → List ℕ
chain_of held = held.pages

nothing : Local
nothing = record { size = 0; bytes = [] }

none_held : Held
none_held = record { entry = []; payload = []; pages = [] }

module _ (old : PageMap) (size number : ℕ) (node : Node) (entries : List Held) (free : List ℕ) (is : HoldEntries old size number node entries free) where
  once_entry : (place n : ℕ) → place < length entries
      → occurs n (up_to chain_of place entries) + occurs n (number ∷ chain_of (slice_index_or entries place none_held)) + occurs n free ≤ 1
  once_entry place n lt = (let part = among chain_of place entries none_held n lt in let most = is.apart n in omega (arith, part, most))

  -- where the entry at a place is freed, the entries up to it are
  pub entry_given : (now new : PageMap) (place : ℕ) (result : Result ⊤ Fault) → place < length entries → AreGivenBack old now size (up_to chain_of place entries) free
      → FreesEntry now new size number place result → MatchResult result (λ done. AreGivenBack old new size (up_to chain_of (place + 1) entries) free) IsOutside
  entry_given now new place result lt given frees =
      let held = slice_index_or entries place none_held in
      let here = number ∷ chain_of held in
      let past = after_part old now size (up_to chain_of place entries) here free is.free_are (λ n. once_entry place n lt) given in
      let there = said_there old size (locals_of node) entries place nothing none_held (is.has).held lt in
      let says_now = says_kept old now size number here node past.kept (occurs_here number (chain_of held)) (is.has).says in
      let held_now = entry_kept old now size (slice_index_or (locals_of node) place nothing) held (kept_of old now size here held.pages (λ n some. omega (arith, some)) past.kept) there.1 in
      let first : occurs 1 held.pages ≡ 0 = (let part = among chain_of place entries none_held 1 lt in let none = is.first in omega (arith, part, none)) in
      let once : IsOnce (held.pages ++ given.now_free) = record { once = λ n. (let both = occurs_append n held.pages given.now_free in let most = past.apart n in omega (arith, both, most)) } in
      by_result result (frees node nothing held given.now_free says_now (is.has).ours there.0 held_now given.free_are first once)
    where
      by_result : (result : Result ⊤ Fault) → MatchResult result (λ done. AreGivenBack now new size (chain_of (slice_index_or entries place none_held)) given.now_free) IsOutside
          → MatchResult result (λ done. AreGivenBack old new size (up_to chain_of (place + 1) entries) free) IsOutside
      by_result (Ok done) more = subst (λ (pages : List ℕ). AreGivenBack old new size pages free) (sym (up_to_more chain_of place entries none_held lt))
          (given_then old now new size (up_to chain_of place entries) (chain_of (slice_index_or entries place none_held)) free given more)
      by_result (Err fault) outside = outside

module _ {P K : Type 0} (below : P → K) (tells : K → Bool) (limits : K → Limits) (map : P → PageMap) (failures : P → ℕ × ℕ) where
  -- The entries of a page up to a place were given back.
  pub record HasGivenEntries (old now : P) (number count place : ℕ) : Type 0 where
    pub kept : below now ≡ below old
    pub causes : Causes {T = ⊤} (Ok tt) (failures old) (failures now) ⊥
    pub given : IsTrue (tells (below old)) → (node : Node) (entries : List Held) (free : List ℕ) → HoldEntries (map old) (limits (below old)).page number node entries free → count ≡ length entries
        → AreGivenBack (map old) (map now) (limits (below old)).page (up_to chain_of place entries) free

  pub no_entry_given : (old : P) (number count : ℕ) → HasGivenEntries old old number count 0
  no_entry_given old number count = record {
    kept = refl;
    causes = record { db = omega arith; log = omega arith; why = tt };
    given = λ told node entries free is counted. none_given (map old) (limits (below old)).page free is.free_are;
  }

  pub next_entry : (old now new : P) (number count place : ℕ) (result : Result ⊤ Fault) → HasGivenEntries old now number count place → place < count
      → (IsTrue (tells (below now)) → FreesEntry (map now) (map new) (limits (below now)).page number place result) → IsTrue (tells (below old)) → (node : Node) (entries : List Held) (free : List ℕ)
      → HoldEntries (map old) (limits (below old)).page number node entries free → count ≡ length entries
      → MatchResult result (λ done. AreGivenBack (map old) (map new) (limits (below old)).page (up_to chain_of (place + 1) entries) free) IsOutside
  next_entry old now new number count place result has lt frees told node entries free is counted =
      let told_now = subst (λ (k : K). IsTrue (tells k)) (sym has.kept) told in
      let freed = subst (λ (k : K). FreesEntry (map now) (map new) (limits k).page number place result) has.kept (frees told_now) in
      entry_given (map old) (limits (below old)).page number node entries free is (map now) (map new) place result (omega (arith, lt, counted)) (has.given told node entries free is counted) freed

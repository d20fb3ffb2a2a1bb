-- Two children of an interior page that are joined.
use Rattle.std.proofs.Common.{◌≡◌, ◌≤◌, ◌<◌, ◌+◌, ◌-◌, ◌^◌, ℕ, suc, min, List, [], ◌∷◌, ◌++◌, append_assoc, length, map, slice_index_or, sym, ap, subst, ◌∙◌, arith}
use Rattle.std.specs.Global.{Vec}
use Rattle.std.specs.Prelude.{Result, Ok, Err, MatchResult}
use Rattle.sqlval.specs.Faults.{IsOutside}
use Rattle.sqlval.specs.PageSizes.{IsPageSize}
use Rattle.sqlval.specs.declared.fault.Fault.{Fault}
use Rattle.pages.specs.Calls.{IsOutsideOrFull}
use Rattle.pages.specs.Counting.{occurs, Moves}
use Rattle.pages.specs.Map.{PageMap}
use Rattle.pages.proofs.Moving.{in_sequence, occurs_append}
use Rattle.freelist.specs.Calls.{KeepsHeader}
use Rattle.tree_overflow.proofs.Laying.{keeps_then}
use Rattle.tree_pack.specs.declared.spreading.Packed.{Packed}
use Rattle.tree_store.specs.Staying.{AreKept}
use Rattle.tree_store.proofs.Staying.{kept_of}
use Rattle.tree_index.specs.Calls.{AreGivenBack}
use Rattle.tree_index.specs.Comparing.{child_at}
use Rattle.tree_index.specs.Entries.{Entry}
use Rattle.tree_index.specs.Freeing.{StandsUnder, chains_of, below_of}
use Rattle.tree_index.specs.Growing.{IsDivider, IsPlanned}
use Rattle.tree_index.specs.Joining.{tree_at, left_at, right_at, held_at, entries_around, AreBeside, FindsKid, GivesEntry, Binds, Unites, SpreadsTwo}
use Rattle.tree_index.specs.Tree.{Held, Tree, top, entries_of, pages_of}
use Rattle.tree_index.proofs.Clearing.{few_kids}
use Rattle.tree_index.proofs.Inserts.{nothing}
use Rattle.tree_index.proofs.Pairs.{one, pair_entries, held_is, between_len}
use Rattle.tree_index.proofs.Rows.{child_there}
use Rattle.tree_index.proofs.Shares.{IsAfter, after, beside_used, others_kept}
use Rattle.tree_index.proofs.Staying.{lies_kept}
use Rattle.tree_index.proofs.Subtrees.{told, entries_between, below_up}
use Rattle.tree_index.proofs.TwoPlans.{left_tree, right_tree, belows, pair_counts, two_beside, page_says}
use Rattle.tree_index.proofs.Widening.{kids_alike}

-- it matters only how often each page stands in the list
pub planned_used : (old new : PageMap) (size depth : ℕ) (entries : List Entry) (used other free : List ℕ) (packed : Packed) → ((n : ℕ) → occurs n other ≡ occurs n used) → IsPlanned old new size depth entries used free packed
    → IsPlanned old new size depth entries other free packed
planned_used old new size depth entries used other free packed same plan = record {
  kids = plan.kids;
  last = plan.last;
  tops = plan.tops;
  divide = plan.divide;
  entries_are = plan.entries_are;
  now_free = plan.now_free;
  has = plan.has;
  moves = record {
    longer = (plan.moves).longer;
    counts = λ n. (let at = (plan.moves).counts n in let e = same n in omega (arith, at, e));
    keeps = λ n from to none. (plan.moves).keeps n from to (let e = same n in omega (arith, none, e));
    whole = (plan.moves).whole;
  };
  header = plan.header;
  sized = plan.sized;
  few = plan.few;
}

-- pages that moved before
pub planned_then : (old mid new : PageMap) (size depth : ℕ) (entries : List Entry) (used free mid_used mid_free : List ℕ) (packed : Packed) → Moves old mid used free mid_used mid_free
    → KeepsHeader old mid → IsPlanned mid new size depth entries mid_used mid_free packed → IsPlanned old new size depth entries used free packed
planned_then old mid new size depth entries used free mid_used mid_free packed moves header plan = record {
  kids = plan.kids;
  last = plan.last;
  tops = plan.tops;
  divide = plan.divide;
  entries_are = plan.entries_are;
  now_free = plan.now_free;
  has = plan.has;
  moves = in_sequence old mid new used free mid_used mid_free _ plan.now_free moves plan.moves;
  header = keeps_then old mid new header plan.header;
  sized = plan.sized;
  few = plan.few;
}

module _ (old : PageMap) (size number ways depth : ℕ) (t : Tree (suc depth)) (free : List ℕ) (under : StandsUnder old size number ways (suc depth) t free) (sized : IsPageSize size) (place : ℕ) (lt : place < length t.kids) where
  abbrev pub a : Tree depth
  a = left_tree old size number ways depth t free under sized place lt

  abbrev pub b : Tree depth
  b = right_tree old size number ways depth t free under sized place lt

  abbrev two : List ℕ
  two = belows old size number ways depth t free under sized place lt

  abbrev pub held : Held
  held = slice_index_or (entries_between t.kids) place nothing

  -- the child at a place
  kid_is : (n child : ℕ) → child ≡ child_at n (under.lies.0).said (top depth t.last) → child ≡ top depth (tree_at n t.kids t.last)
  kid_is n child is = is ∙ kids_alike (top depth) old size n (under.lies.0).said t.kids (top depth t.last) (under.lies.0).children ∙ child_there (top depth) n t.kids t.last

  pub kid_unread : (n : ℕ) (fault : Fault) → FindsKid old size number n (Err fault) → IsOutside fault
  kid_unread n fault finds = finds (under.lies.0).said (top depth t.last) (under.free_are).whole (page_says old size number ways depth t free under sized place lt)

  pub left_read : (child : ℕ) → FindsKid old size number place (Ok child) → child ≡ top depth a
  left_read child finds = kid_is place child (finds (under.lies.0).said (top depth t.last) (under.free_are).whole (page_says old size number ways depth t free under sized place lt))

  pub right_read : (n child : ℕ) → n ≡ min (place + 1) (2 ^ 64 - 1) → FindsKid old size number n (Ok child) → child ≡ top depth b
  right_read n child sum finds =
      let few = few_kids old size number ways depth t free under in
      let next : n ≡ suc place = omega (arith, sum, few, lt) in
      kid_is (suc place) child (subst (λ (k : ℕ). child ≡ child_at k (under.lies.0).said (top depth t.last)) next (finds (under.lies.0).said (top depth t.last) (under.free_are).whole (page_says old size number ways depth t free under sized place lt)))

  pub in_between : place < length (entries_between t.kids)
  in_between = (let e = between_len t.kids in omega (arith, e, lt))

  pub entry_or : (result : Result (Vec ℕ) Fault) → GivesEntry old size number place result → MatchResult result (λ cell. IsDivider old size cell.items held) IsOutside
  entry_or result gives =
      let its = told old size number (suc depth) t under.top_is under.lies in
      gives its.node (entries_between t.kids) nothing (under.free_are).whole sized its.has in_between

  held_pages : (n : ℕ) → occurs n (chains_of (held_at place t.kids)) ≡ occurs n held.pages
  held_pages n = (let e = ap (λ (hs : List Held). occurs n (chains_of hs)) (held_is place t.kids nothing lt) in let f = occurs_append n held.pages [] in omega (arith, e, f))

  same_entries : entries_around depth place (entries_of depth a ++ held.entry ∷ entries_of depth b) t ≡ entries_of (suc depth) t
  same_entries =
      let l = left_at (entries_of depth) one place t.kids t.last in
      let r = right_at (entries_of depth) one (suc place) t.kids t.last in
      ap (λ (es : List Entry). l ++ es) (append_assoc (entries_of depth a) (held.entry ∷ entries_of depth b) r)
      ∙ sym (ap (λ (hs : List Held). l ++ (entries_of depth a ++ (map (λ h. h.entry) hs ++ (entries_of depth b ++ r)))) (held_is place t.kids nothing lt))
      ∙ sym (pair_entries (entries_of depth) place t.kids t.last lt)

  module _ (left right : ℕ) (left_is : left ≡ top depth a) (right_is : right ≡ top depth b) where
    beside_now : AreBeside old size left right depth a b free
    beside_now = subst (λ (n : ℕ). AreBeside old size n right depth a b free) (sym left_is) (subst (λ (n : ℕ). AreBeside old size (top depth a) n depth a b free) (sym right_is) (two_beside old size number ways depth t free under sized place lt))

    -- both, with the entry between them
    pub bound_or : (entry : List ℕ) → IsDivider old size entry held → (result : Result Packed Fault) → Binds old size left entry right depth result
        → MatchResult result (IsPlanned old old size depth (entries_of depth a ++ held.entry ∷ entries_of depth b) two free) IsOutside
    bound_or entry d result binds = by result (binds a b held free beside_now d)
      where
        by : (result : Result Packed Fault) → MatchResult result (IsPlanned old old size depth (entries_of depth a ++ held.entry ∷ entries_of depth b) (below_of depth a ++ (held.pages ++ below_of depth b)) free) IsOutside
            → MatchResult result (IsPlanned old old size depth (entries_of depth a ++ held.entry ∷ entries_of depth b) two free) IsOutside
        by (Ok p) plan = planned_used old old size depth (entries_of depth a ++ held.entry ∷ entries_of depth b) (below_of depth a ++ (held.pages ++ below_of depth b)) two free p
            (λ n. (let e = occurs_append n (below_of depth a) (chains_of (held_at place t.kids) ++ below_of depth b) in let f = occurs_append n (chains_of (held_at place t.kids)) (below_of depth b) in
            let h = occurs_append n (below_of depth a) (held.pages ++ below_of depth b) in let k = occurs_append n held.pages (below_of depth b) in let s = held_pages n in omega (arith, e, f, h, k, s))) plan
        by (Err fault) outside = outside

    -- what becomes of the page above
    spread_of : (entries : List Entry) (mid new : PageMap) (packed : Packed) → IsPlanned old mid size depth entries two free packed → (result : Result Packed Fault) → SpreadsTwo mid new size number place left right packed result
        → MatchResult result (IsPlanned old new size (suc depth) (entries_around depth place entries t) (below_of (suc depth) t) free) IsOutsideOrFull
    spread_of entries mid new packed plan result spreads = spreads old ways depth t free entries under sized lt (sym left_is) (sym right_is) plan

    pub joined_or : (new : PageMap) (packed : Packed) → IsPlanned old old size depth (entries_of depth a ++ held.entry ∷ entries_of depth b) two free packed → (result : Result Packed Fault) → SpreadsTwo old new size number place left right packed result
        → MatchResult result (IsPlanned old new size (suc depth) (entries_of (suc depth) t) (below_of (suc depth) t) free) IsOutsideOrFull
    joined_or new packed plan result spreads =
        subst (λ (es : List Entry). MatchResult result (IsPlanned old new size (suc depth) es (below_of (suc depth) t) free) IsOutsideOrFull) same_entries
        (spread_of (entries_of depth a ++ held.entry ∷ entries_of depth b) old new packed plan result spreads)

    -- ---- without the entry between them

    pub parted_or : (mid new : PageMap) (packed : Packed) → IsPlanned old mid size depth (entries_of depth a ++ entries_of depth b) two free packed → (result : Result Packed Fault) → SpreadsTwo mid new size number place left right packed result
        → MatchResult result (IsPlanned old new size (suc depth) (entries_around depth place (entries_of depth a ++ entries_of depth b) t) (below_of (suc depth) t) free) IsOutsideOrFull
    parted_or mid new packed plan result spreads = spread_of (entries_of depth a ++ entries_of depth b) mid new packed plan result spreads

    module _ (mid : PageMap) (given : AreGivenBack old mid size held.pages free) where
      pages_kept : AreKept old mid size (pages_of depth a ++ pages_of depth b)
      pages_kept = others_kept old mid size held.pages free [] given.now_free (pages_of depth a ++ pages_of depth b) (under.free_are).whole given.moves
          (λ n some. (let all = under.apart n in let parts = pair_counts old size number ways depth t free under sized place lt n in let s = held_pages n in let e = occurs_append n (pages_of depth a) (pages_of depth b) in
          let f = occurs_append n (t.page ∷ []) (below_of (suc depth) t) in omega (arith, all, parts, s, e, f, some)))

      now_two : AreBeside old size left right depth a b free
      now_two = beside_now

      once_two : (n : ℕ) → occurs n (held.pages ++ (pages_of depth a ++ pages_of depth b)) + occurs n free ≤ 1
      once_two n =
          let all = under.apart n in
          let parts = pair_counts old size number ways depth t free under sized place lt n in
          let s = held_pages n in
          let e = occurs_append n (pages_of depth a) (pages_of depth b) in
          let h = occurs_append n held.pages (pages_of depth a ++ pages_of depth b) in
          let f = occurs_append n (t.page ∷ []) (below_of (suc depth) t) in
          omega (arith, all, parts, s, e, h, f)

      two_moves : Moves old mid (held.pages ++ (pages_of depth a ++ pages_of depth b)) free (pages_of depth a ++ pages_of depth b) given.now_free
      two_moves = beside_used old mid held.pages free [] given.now_free (pages_of depth a ++ pages_of depth b) (held.pages ++ (pages_of depth a ++ pages_of depth b)) (pages_of depth a ++ pages_of depth b) given.moves
          (λ n. occurs_append n held.pages (pages_of depth a ++ pages_of depth b)) (λ n. omega arith)

      two_after : IsAfter mid size (pages_of depth a ++ pages_of depth b) given.now_free
      two_after = after old mid size (held.pages ++ (pages_of depth a ++ pages_of depth b)) free (pages_of depth a ++ pages_of depth b) given.now_free under.free_are two_moves (given.free_are).has
          (λ n some. below_up old size (suc depth) t under.lies n (let parts = pair_counts old size number ways depth t free under sized place lt n in let s = held_pages n in
          let e = occurs_append n (pages_of depth a) (pages_of depth b) in let h = occurs_append n held.pages (pages_of depth a ++ pages_of depth b) in omega (arith, parts, s, e, h, some)))
          once_two
          (let none = under.first in let parts = pair_counts old size number ways depth t free under sized place lt 1 in let s = held_pages 1 in
          let e = occurs_append 1 (pages_of depth a) (pages_of depth b) in let h = occurs_append 1 held.pages (pages_of depth a ++ pages_of depth b) in
          let f = occurs_append 1 (t.page ∷ []) (below_of (suc depth) t) in omega (arith, none, parts, s, e, h, f))

      beside_mid : AreBeside mid size left right depth a b given.now_free
      beside_mid = record {
        left_is = sym left_is;
        right_is = sym right_is;
        lies_left = lies_kept old mid size depth a (kept_of old mid size (pages_of depth a ++ pages_of depth b) (pages_of depth a)
            (λ n some. (let e = occurs_append n (pages_of depth a) (pages_of depth b) in omega (arith, e, some))) pages_kept) beside_now.lies_left;
        lies_right = lies_kept old mid size depth b (kept_of old mid size (pages_of depth a ++ pages_of depth b) (pages_of depth b)
            (λ n some. (let e = occurs_append n (pages_of depth a) (pages_of depth b) in omega (arith, e, some))) pages_kept) beside_now.lies_right;
        apart = λ n. (let one = two_after.apart n in let e = occurs_append n (pages_of depth a) (pages_of depth b) in omega (arith, one, e));
        first = (let none = two_after.first in let e = occurs_append 1 (pages_of depth a) (pages_of depth b) in omega (arith, none, e));
        free_are = given.free_are;
        sized = sized;
      }

      -- both, where the entry's overflow pages were given back
      pub united_or : (new : PageMap) (result : Result Packed Fault) → Unites mid new size left right depth result
          → MatchResult result (IsPlanned old new size depth (entries_of depth a ++ entries_of depth b) two free) IsOutsideOrFull
      united_or new result unites = by result (unites a b given.now_free beside_mid)
        where
          by : (result : Result Packed Fault) → MatchResult result (IsPlanned mid new size depth (entries_of depth a ++ entries_of depth b) (below_of depth a ++ below_of depth b) given.now_free) IsOutsideOrFull
              → MatchResult result (IsPlanned old new size depth (entries_of depth a ++ entries_of depth b) two free) IsOutsideOrFull
          by (Ok p) plan =
              planned_then old mid new size depth (entries_of depth a ++ entries_of depth b) two free (below_of depth a ++ below_of depth b) given.now_free p
              (beside_used old mid held.pages free [] given.now_free (below_of depth a ++ below_of depth b) two (below_of depth a ++ below_of depth b) given.moves
              (λ n. (let e = occurs_append n (below_of depth a) (chains_of (held_at place t.kids) ++ below_of depth b) in let f = occurs_append n (chains_of (held_at place t.kids)) (below_of depth b) in
              let h = occurs_append n (below_of depth a) (below_of depth b) in let s = held_pages n in omega (arith, e, f, h, s))) (λ n. omega arith)) given.header plan
          by (Err fault) refused = refused

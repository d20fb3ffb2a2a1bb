-- A page whose child was stored, and then joined with one beside it.
use Rattle.std.proofs.Common.{◌≡◌, ℕ, suc, ℤ, List, ◌∷◌, Option, Some, None, sym, ap, subst, ◌∙◌, inl, inr, arith}
use Rattle.std.proofs.lemmas.Bool.{cases_eq}
use Rattle.std.proofs.lemmas.Grind.{common_steps}
use Rattle.std.specs.Prelude.{Result, Ok, Err, MatchResult, MatchOption}
use Rattle.sqlval.specs.declared.fault.Fault.{Fault}
use Rattle.tree_leaf.specs.Leaf.{Entry}
use Rattle.pages.specs.Calls.{IsOutsideOrFull}
use Rattle.pages.specs.Counting.{occurs, body_at, Moves}
use Rattle.pages.specs.Map.{PageMap}
use Rattle.pages.proofs.Moving.{in_sequence}
use Rattle.tree_overflow.proofs.Laying.{beside, keeps_then}
use Rattle.tree_pack.specs.declared.spreading.Packed.{Packed}
use Rattle.tree_table.specs.Growing.{below_of, IsPlanned, IsUnder, IsPut}
use Rattle.tree_table.specs.Joining.{IsJoinedAt, JoinsAt}
use Rattle.tree_table.specs.Tree.{Tree, rows_of, pages_of}
use Rattle.tree_table.proofs.Passing.{IsAfter, after, once_after, tree_up, below_up}

not_here : (n x : ℕ) (xs : List ℕ) → (n ≡ x → ⊥) → occurs n (x ∷ xs) ≡ occurs n xs
not_here n x xs other = grind (arith, common_steps)

module _ (old mid : PageMap) (size number ways : ℕ) (rowid : ℤ) (depth : ℕ) (low : ℤ) (t : Tree (suc depth)) (high : ℤ) (free : List ℕ) (under : IsUnder old size number ways rowid (suc depth) low t high free)
    (rows : List Entry) (put : IsPut old mid size number (suc depth) low high rows (pages_of (suc depth) t) free) (still : body_at mid number ≡ body_at old number) where
  abbrev u : Tree (suc depth)
  u = put.tree

  same_top : u.page ≡ t.page
  same_top = put.top_is ∙ sym under.top_is

  -- the pages below have moved
  below_moves : Moves old mid (below_of (suc depth) t) free (below_of (suc depth) u) put.now_free
  below_moves = record {
    longer = (put.moves).longer;
    counts = λ n. (let at = (put.moves).counts n in let e = ap (λ (m : ℕ). occurs n (m ∷ below_of (suc depth) u)) same_top in omega (arith, at, e));
    keeps = λ n from to none. elim (cases_eq n t.page) [
      | inl same ↦ subst (λ (m : ℕ). body_at mid m ≡ body_at old m) (sym (same ∙ under.top_is)) still
      | inr other ↦ (put.moves).keeps n from to (let e = not_here n t.page (below_of (suc depth) t) other in omega (arith, none, e))
    ];
    whole = (put.moves).whole;
  }

  past : IsAfter mid size (below_of (suc depth) u) put.now_free
  past = after old mid size (below_of (suc depth) t) free (below_of (suc depth) u) put.now_free under.free_are below_moves put.has (below_up old size (suc depth) t under.lies)
      (λ n. (let all = under.apart n in omega (arith, all))) under.first

  under_mid : IsUnder mid size number ways rowid (suc depth) low u high put.now_free
  under_mid = record {
    top_is = put.top_is;
    lies = put.lies;
    sorted = put.sorted;
    above = under.above;
    upto = under.upto;
    shallow = under.shallow;
    apart = once_after old mid size (pages_of (suc depth) t) free (pages_of (suc depth) u) put.now_free under.free_are put.moves (tree_up old size (suc depth) t under.lies) under.apart;
    first = past.first;
    free_are = past.are;
    sized = under.sized;
  }

  abbrev IsNarrowed : PageMap → Option Packed → Type 0
  IsNarrowed new joined = MatchOption joined (new ≡ mid) (IsPlanned old new size number (suc depth) low high rows (below_of (suc depth) t) free)

  planned : (new : PageMap) (packed : Packed) → IsPlanned mid new size number (suc depth) low high (rows_of (suc depth) u) (below_of (suc depth) u) put.now_free packed
      → IsPlanned old new size number (suc depth) low high rows (below_of (suc depth) t) free packed
  planned new packed plan = record {
    kids = plan.kids;
    last = plan.last;
    tops = plan.tops;
    divide = plan.divide;
    sorted = plan.sorted;
    rows_are = plan.rows_are ∙ put.rows_are;
    now_free = plan.now_free;
    has = plan.has;
    moves = in_sequence old mid new (number ∷ below_of (suc depth) t) free (number ∷ below_of (suc depth) u) put.now_free _ plan.now_free
        (beside old mid (below_of (suc depth) t) free (below_of (suc depth) u) put.now_free number below_moves) plan.moves;
    header = keeps_then old mid new put.header plan.header;
    sized = plan.sized;
    front = plan.front;
    few = plan.few;
  }

  pub narrowed_or : (new : PageMap) (place : ℕ) (result : Result (Option Packed) Fault) → JoinsAt mid new size number place result → MatchResult result (IsNarrowed new) IsOutsideOrFull
  narrowed_or new place result joins = by result (joins ways rowid depth low u high put.now_free under_mid)
    where
      by : (result : Result (Option Packed) Fault) → MatchResult result (IsJoinedAt mid new size number (suc depth) low u high put.now_free) IsOutsideOrFull → MatchResult result (IsNarrowed new) IsOutsideOrFull
      by (Ok (Some packed)) plan = planned new packed plan
      by (Ok None) same = same
      by (Err fault) refused = refused

-- Checks one after the other.
use Rattle.std.proofs.Common.{◌≡◌, ◌+◌, ℕ, Bool, List, [], ◌∷◌, ◌++◌, length, refl, sym, ap, subst, ◌∙◌, arith, Ok, Err}
use Rattle.std.specs.Prelude.{⊤, Result, IsErrAnd, IsTrue}
use Rattle.sqlval.specs.declared.fault.Fault.{Fault}
use Rattle.sqlval.specs.Faults.{IsOutside}
use Rattle.pages.specs.Calls.{Limits}
use Rattle.pages.specs.Counting.{occurs}
use Rattle.pages.specs.Map.{PageMap}
use Rattle.tree_check.specs.Checks.{CanMark}
use Rattle.tree_check.specs.Exact.{AreTold, Checks}
use Rattle.tree_check.specs.Marks.{Marks, AreUnmarked}

-- ---- counts

pub occurs_append : (n : ℕ) (xs ys : List ℕ) → occurs n (xs ++ ys) ≡ occurs n xs + occurs n ys
occurs_append n [] ys = omega arith
occurs_append n (x ∷ xs) ys = let h = occurs_append n xs ys in omega (arith, h)

-- each page stands there as often as in both lists together
abbrev pub AreBoth : List ℕ → List ℕ → List ℕ → Type 0
AreBoth all some others = (n : ℕ) → occurs n all ≡ occurs n some + occurs n others

pub both_appended : (xs ys : List ℕ) → AreBoth (xs ++ ys) xs ys
both_appended xs ys n = occurs_append n xs ys

pub unmarked_first : (marks : List Bool) (all some others : List ℕ) → AreBoth all some others → AreUnmarked marks all → AreUnmarked marks some
unmarked_first marks all some others both free n = (let h = both n in let u = free n in omega (arith, h, u))

pub unmarked_then : (old mid : List Bool) (all some others : List ℕ) → AreBoth all some others → Marks old mid some → AreUnmarked old all → AreUnmarked mid others
unmarked_then old mid all some others both marked free n = (let h = both n in let u = free n in let v = marked.marks n in omega (arith, h, u, v))

pub marks_both : (old mid new : List Bool) (all some others : List ℕ) → AreBoth all some others → Marks old mid some → Marks mid new others → Marks old new all
marks_both old mid new all some others both first then = record {
  long = then.long ∙ first.long;
  marks = λ n. let h = both n in let u = first.marks n in let v = then.marks n in omega (arith, h, u, v);
}

-- ---- one check after another

-- Something is two things, with the pages of both.
pub record IsBoth {X Y : Type 0} (Is : X → Type 0) (Also : Y → Type 0) (pages : X → List ℕ) (others : Y → List ℕ) (all : List ℕ) : Type 0 where
  pub one : X
  pub other : Y
  pub is : Is one
  pub also : Also other
  pub both : AreBoth all (pages one) (others other)

-- Something of a kind, with the pages of two others.
pub record IsOf {Z : Type 0} (Whole : Z → Type 0) (pages : Z → List ℕ) (some others : List ℕ) : Type 0 where
  pub it : Z
  pub is : Whole it
  pub both : AreBoth (pages it) some others

module _ {X Y Z : Type 0} (Is : X → Type 0) (Also : Y → Type 0) (Whole : Z → Type 0) (pages : X → List ℕ) (others : Y → List ℕ) (all : Z → List ℕ)
    (apart : (z : Z) → Whole z → IsBoth Is Also pages others (all z)) where
  -- the first of two checks is refused
  pub first_refused : (old mid new : List Bool) (fault : Fault) (result : Result ⊤ Fault) → Checks Is pages old mid (Err fault) → IsErrAnd result (λ e. e ≡ fault) → Checks Whole all old new result
  first_refused old mid new fault (Ok done) check is = absurd is
  first_refused old mid new fault (Err e) check is = λ z whole free.
      (let parts = apart z whole in subst IsOutside (sym is) (check parts.one parts.is (unmarked_first old (all z) (pages parts.one) (others parts.other) parts.both free)))

  -- what the second one says, the whole does
  pub then_checks : (together : (x : X) (y : Y) → Is x → Also y → IsOf Whole all (pages x) (others y)) → (old mid new : List Bool) (result : Result ⊤ Fault)
      → Checks Is pages old mid (Ok tt) → Checks Also others mid new result → Checks Whole all old new result
  then_checks together old mid new (Ok done) first then =
      let it = together first.0.it then.0.it first.0.is then.0.is in (
        record { it = it.it; is = it.is; marks = marks_both old mid new (all it.it) (pages first.0.it) (others then.0.it) it.both first.0.marks then.0.marks },
        λ z whole free. (
            let parts = apart z whole in
            let marked = first.1 parts.one parts.is (unmarked_first old (all z) (pages parts.one) (others parts.other) parts.both free) in
            marks_both old mid new (all z) (pages parts.one) (others parts.other) parts.both marked
            (then.1 parts.other parts.also (unmarked_then old mid (all z) (pages parts.one) (others parts.other) parts.both marked free))),
      )
  then_checks together old mid new (Err fault) first then = λ z whole free.
      (let parts = apart z whole in
      let marked = first.1 parts.one parts.is (unmarked_first old (all z) (pages parts.one) (others parts.other) parts.both free) in
      then parts.other parts.also (unmarked_then old mid (all z) (pages parts.one) (others parts.other) parts.both marked free))

-- a check after the first marks is refused for another reason
pub refused : {Z : Type 0} (Whole : Z → Type 0) (all : Z → List ℕ) (old new : List Bool) (fault : Fault) (result : Result ⊤ Fault) → IsErrAnd result (λ e. e ≡ fault)
    → ((z : Z) → Whole z → AreUnmarked old (all z) → IsOutside fault) → Checks Whole all old new result
refused Whole all old new fault (Ok done) is why = absurd is
refused Whole all old new fault (Err e) is why = λ z whole free. subst IsOutside (sym is) (why z whole free)

-- ---- the same seen in another way

-- Something of one kind is something of another, with the same pages.
pub record IsAs {Z : Type 0} (Whole : Z → Type 0) (pages : Z → List ℕ) (same : List ℕ) : Type 0 where
  pub it : Z
  pub is : Whole it
  pub as_often : (n : ℕ) → occurs n (pages it) ≡ occurs n same

marks_as : (old new : List Bool) (pages same : List ℕ) → ((n : ℕ) → occurs n pages ≡ occurs n same) → Marks old new same → Marks old new pages
marks_as old new pages same often marks = record { long = marks.long; marks = λ n. let h = often n in let u = marks.marks n in omega (arith, h, u) }

unmarked_as : (old : List Bool) (pages same : List ℕ) → ((n : ℕ) → occurs n pages ≡ occurs n same) → AreUnmarked old same → AreUnmarked old pages
unmarked_as old pages same often free n = (let h = often n in let u = free n in omega (arith, h, u))

pub checks_as : {X Z : Type 0} (Is : X → Type 0) (Whole : Z → Type 0) (pages : X → List ℕ) (all : Z → List ℕ) → ((x : X) → Is x → IsAs Whole all (pages x)) → ((z : Z) → Whole z → IsAs Is pages (all z))
    → (old new : List Bool) (result : Result ⊤ Fault) → Checks Is pages old new result → Checks Whole all old new result
checks_as Is Whole pages all to from old new (Ok done) check =
    let it = to check.0.it check.0.is in (
      record { it = it.it; is = it.is; marks = marks_as old new (all it.it) (pages check.0.it) it.as_often check.0.marks },
      λ z whole free. (
          let x = from z whole in
          marks_as old new (all z) (pages x.it) (λ n. sym (x.as_often n)) (check.1 x.it x.is (unmarked_as old (pages x.it) (all z) x.as_often free))),
    )
checks_as Is Whole pages all to from old new (Err fault) check = λ z whole free.
    (let x = from z whole in check x.it x.is (unmarked_as old (pages x.it) (all z) x.as_often free))

-- ---- nothing to check

pub nothing_left : {X : Type 0} (Is : X → Type 0) (pages : X → List ℕ) (marks : List Bool) → (it : X) → Is it → ((x : X) → Is x → (n : ℕ) → occurs n (pages x) ≡ 0) → Checks Is pages marks marks (Ok tt)
nothing_left {X} Is pages marks it is none = (record { it = it; is = is; marks = unchanged it is }, λ x so free. unchanged x so)
  where
    unchanged : (x : X) → Is x → Marks marks marks (pages x)
    unchanged x so = record { long = refl; marks = λ n. let h = none x so n in omega (arith, h) }

-- ---- what stays

pub told_after : {P K : Type 0} (below : P → K) (tells : K → Bool) (limits : K → Limits) (bytes : P → PageMap) (old mid : P) (map : PageMap) (size : ℕ)
    → below mid ≡ below old → bytes mid ≡ bytes old → AreTold below tells limits bytes old map size → AreTold below tells limits bytes mid map size
told_after below tells limits bytes old mid map size kept same are = record {
  told = subst (λ k. IsTrue (tells k)) (sym kept) are.told;
  map_is = same ∙ are.map_is;
  size_is = ap (λ k. (limits k).page) kept ∙ are.size_is;
}

pub can_after : (map : PageMap) (size : ℕ) (old mid : List Bool) → length mid ≡ length old → CanMark map size old → CanMark map size mid
can_after map size old mid long can = record { whole = can.whole; long = long ∙ can.long; sized = can.sized }

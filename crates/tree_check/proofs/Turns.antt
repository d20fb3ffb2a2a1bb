-- Checks in order, one after the other.
use Rattle.std.proofs.Common.{◌≡◌, ℕ, Bool, List, [], ◌∷◌, ◌++◌, refl, sym, ap, subst, ◌∙◌, Ok, Err}
use Rattle.std.specs.Prelude.{⊤, Result, IsErrAnd}
use Rattle.sqlval.specs.declared.collation.Collation.{Collation}
use Rattle.sqlval.specs.declared.fault.Fault.{Fault}
use Rattle.sqlval.specs.declared.value.Value.{Value}
use Rattle.sqlval.specs.Faults.{IsOutside}
use Rattle.pages.specs.Counting.{occurs}
use Rattle.tree_index.specs.Entries.{Entry}
use Rattle.tree_check.specs.Exact.{Checks}
use Rattle.tree_check.specs.InOrder.{ChecksOrdered, Follow}
use Rattle.tree_check.specs.Marks.{AreUnmarked}
use Rattle.tree_check.proofs.Parting.{AreBoth, IsBoth, IsOf, IsAs, unmarked_first, unmarked_then, then_checks, checks_as}

-- ---- entries that follow

-- entries follow, and others after them
pub follow_both : (columns : List Collation) (last mid now : List Value) (front rest : List Entry) → Follow columns last front mid → Follow columns mid rest now → Follow columns last (front ++ rest) now
follow_both columns last mid now [] rest first then = subst (λ (l : List Value). Follow columns l rest now) first then
follow_both columns last mid now (entry ∷ front) rest first then = (first.0, follow_both columns entry mid now front rest first.1 then)

-- Of entries that follow, those at the front do, and those after them.
pub record FollowParts (columns : List Collation) (last now : List Value) (front rest : List Entry) : Type 0 where
  pub mid : List Value
  pub first : Follow columns last front mid
  pub then : Follow columns mid rest now

pub follow_parts : (columns : List Collation) (last now : List Value) (front rest : List Entry) → Follow columns last (front ++ rest) now → FollowParts columns last now front rest
follow_parts columns last now [] rest all = record { mid = last; first = refl; then = all }
follow_parts columns last now (entry ∷ front) rest all =
    let parts = follow_parts columns entry now front rest all.1 in
    record { mid = parts.mid; first = (all.0, parts.first); then = parts.then }

-- the last one is one alone
pub one_last : (columns : List Collation) (last a b : List Value) (entries : List Entry) → Follow columns last entries a → Follow columns last entries b → a ≡ b
one_last columns last a b [] first other = first ∙ sym other
one_last columns last a b (entry ∷ entries) first other = one_last columns entry a b entries first.1 other.1

-- ---- one check after another

-- Something is two things, with the pages of both, and the entries of the one before those of the other.
pub record IsInTurn {X Y : Type 0} (Is : X → Type 0) (Also : Y → Type 0) (pages : X → List ℕ) (others : Y → List ℕ) (entries : X → List Entry) (later : Y → List Entry)
    (all : List ℕ) (every : List Entry) : Type 0 where
  pub one : X
  pub other : Y
  pub is : Is one
  pub also : Also other
  pub both : AreBoth all (pages one) (others other)
  pub turn : every ≡ entries one ++ later other

module _ {X Y Z : Type 0} (Is : X → Type 0) (Also : Y → Type 0) (Whole : Z → Type 0) (pages : X → List ℕ) (others : Y → List ℕ) (all : Z → List ℕ)
    (entries : X → List Entry) (later : Y → List Entry) (every : Z → List Entry) (columns : List Collation)
    (apart : (z : Z) → Whole z → IsInTurn Is Also pages others entries later (all z) (every z)) where
  as_both : (z : Z) → Whole z → IsBoth Is Also pages others (all z)
  as_both z whole = (let parts = apart z whole in record { one = parts.one; other = parts.other; is = parts.is; also = parts.also; both = parts.both })

  -- the first of two checks is refused
  pub first_stops : (last mid now : List Value) (old new then : List Bool) (fault : Fault) (result : Result ⊤ Fault) → ChecksOrdered Is pages entries columns last mid old new (Err fault)
      → IsErrAnd result (λ e. e ≡ fault) → ChecksOrdered Whole all every columns last now old then result
  first_stops last mid now old new then fault (Ok done) check is = absurd is
  first_stops last mid now old new then fault (Err e) check is = λ z end whole free follow.
      (let parts = apart z whole in
      let in_turn = follow_parts columns last end (entries parts.one) (later parts.other) (subst (λ (l : List Entry). Follow columns last l end) parts.turn follow) in
      subst IsOutside (sym is) (check parts.one in_turn.mid parts.is (unmarked_first old (all z) (pages parts.one) (others parts.other) parts.both free) in_turn.first))

  -- what the second one says, the whole does
  pub then_turns : (together : (x : X) (y : Y) → Is x → Also y → IsOf Whole all (pages x) (others y)) → (last mid now : List Value) (old new then : List Bool) (result : Result ⊤ Fault)
      → ChecksOrdered Is pages entries columns last mid old new (Ok tt) → ChecksOrdered Also others later columns mid now new then result → ChecksOrdered Whole all every columns last now old then result
  then_turns together last mid now old new then (Ok done) first second = (
    then_checks Is Also Whole pages others all as_both together old new then (Ok tt) first.0 second.0,
    λ z whole. (
        let parts = apart z whole in
        subst (λ (l : List Entry). Follow columns last l now) (sym parts.turn)
        (follow_both columns last mid now (entries parts.one) (later parts.other) (first.1 parts.one parts.is) (second.1 parts.other parts.also))),
  )
  then_turns together last mid now old new then (Err fault) first second = λ z end whole free follow.
      (let parts = apart z whole in
      let in_turn = follow_parts columns last end (entries parts.one) (later parts.other) (subst (λ (l : List Entry). Follow columns last l end) parts.turn follow) in
      let same : mid ≡ in_turn.mid = one_last columns last mid in_turn.mid (entries parts.one) (first.1 parts.one parts.is) in_turn.first in
      let marked = first.0.1 parts.one parts.is (unmarked_first old (all z) (pages parts.one) (others parts.other) parts.both free) in
      second parts.other end parts.also (unmarked_then old new (all z) (pages parts.one) (others parts.other) parts.both marked free)
      (subst (λ (l : List Value). Follow columns l (later parts.other) end) (sym same) in_turn.then))

-- a check after the first marks is refused for another reason
pub turn_refused : {Z : Type 0} (Whole : Z → Type 0) (all : Z → List ℕ) (every : Z → List Entry) (columns : List Collation) (last now : List Value) (old new : List Bool) (fault : Fault) (result : Result ⊤ Fault)
    → IsErrAnd result (λ e. e ≡ fault) → ((z : Z) → Whole z → AreUnmarked old (all z) → IsOutside fault) → ChecksOrdered Whole all every columns last now old new result
turn_refused Whole all every columns last now old new fault (Ok done) is why = absurd is
turn_refused Whole all every columns last now old new fault (Err e) is why = λ z end whole free follow. subst IsOutside (sym is) (why z whole free)

-- ---- pages without entries, and then a check in order

abbrev pub no_entries : {X : Type 0} → X → List Entry
no_entries x = []

-- a check that meets no entries is one in order
pub without_entries : {X : Type 0} (Is : X → Type 0) (pages : X → List ℕ) (columns : List Collation) (last : List Value) (old new : List Bool) → Checks Is pages old new (Ok tt)
    → ChecksOrdered Is pages no_entries columns last last old new (Ok tt)
without_entries Is pages columns last old new check = (check, λ x is. refl)

-- ---- the same seen in another way

-- Something of one kind is something of another, with the same pages and entries.
pub record IsLike {Z : Type 0} (Whole : Z → Type 0) (pages : Z → List ℕ) (entries : Z → List Entry) (same : List ℕ) (them : List Entry) : Type 0 where
  pub it : Z
  pub is : Whole it
  pub pages_are : pages it ≡ same
  pub entries_are : entries it ≡ them

as_it : {Z : Type 0} (Whole : Z → Type 0) (pages : Z → List ℕ) (entries : Z → List Entry) (same : List ℕ) (them : List Entry) → IsLike Whole pages entries same them → IsAs Whole pages same
as_it Whole pages entries same them like = record { it = like.it; is = like.is; as_often = λ n. ap (λ (l : List ℕ). occurs n l) like.pages_are }

pub turns_as : {X Z : Type 0} (Is : X → Type 0) (Whole : Z → Type 0) (pages : X → List ℕ) (all : Z → List ℕ) (entries : X → List Entry) (every : Z → List Entry) (columns : List Collation)
    → ((x : X) → Is x → IsLike Whole all every (pages x) (entries x)) → ((z : Z) → Whole z → IsLike Is pages entries (all z) (every z)) → (last now : List Value) (old new : List Bool) (result : Result ⊤ Fault)
    → ChecksOrdered Is pages entries columns last now old new result → ChecksOrdered Whole all every columns last now old new result
turns_as Is Whole pages all entries every columns to from last now old new (Ok done) check = (
  checks_as Is Whole pages all (λ x is. as_it Whole all every (pages x) (entries x) (to x is)) (λ z whole. as_it Is pages entries (all z) (every z) (from z whole)) old new (Ok tt) check.0,
  λ z whole. (let like = from z whole in subst (λ (l : List Entry). Follow columns last l now) like.entries_are (check.1 like.it like.is)),
)
turns_as Is Whole pages all entries every columns to from last now old new (Err fault) check = λ z end whole free follow.
    (let like = from z whole in
    check like.it end like.is (subst (λ (l : List ℕ). AreUnmarked old l) (sym like.pages_are) free) (subst (λ (l : List Entry). Follow columns last l end) (sym like.entries_are) follow))

-- ---- what such a check keeps

-- the marks, and the last entry
abbrev pub Kept : Type 0
Kept = List Bool × List Value

abbrev pub marks_kept : Kept → List Bool
marks_kept kept = kept.0

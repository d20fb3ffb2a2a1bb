-- No refusal of an expression comes from a disk.
use Rattle.std.proofs.Common.{◌≡◌, refl, sym, ap, ◌∙◌, inl, inr, ℕ, Bool, true, false, not, ◌&&◌, ◌||◌, ◌==◌, if◌then◌else◌, List, [], ◌∷◌, ◌++◌, map, Option, Some, None}
use Rattle.std.specs.Prelude.{codes, nat_lt}
use Rattle.std.specs.List.{list_any, Contains}
use Rattle.std.proofs.lemmas.Bool.{false≢true}
use Rattle.std.proofs.lemmas.List.Folds.{list_any-append, list_any_at}
use Rattle.sqlval.specs.Faults.{IsNotDiskFault}
use Rattle.sqlval.specs.Names.{is_same_name}
use Rattle.sqlval.specs.Refusals.{Refusal, Io, Full, NoSuch, Misuse, refusal_of}
use Rattle.sqlval.specs.declared.collation.Collation.TheVariants.{Binary, NoCase, RTrim}
use Rattle.sqlval.specs.declared.fault.Fault.{Fault}
use Rattle.sqlval.specs.declared.value.Value.TheVariants.{Null}
use Rattle.sql_syntax.specs.Tree as tree
use Rattle.sql_syntax.specs.Tree.{Tree, Trees}
use Rattle.catalog.specs.Database.{Name}
use Rattle.query_terms.specs.Terms.{Term, Terms, Const, Apply, Total, One, Two, Collate, In, Between, Raise, More}
use Rattle.query_terms.specs.declared.tree.Aggregate.TheVariants.{CountAll, Count, Sum, Min, Max}
use Rattle.query_terms.specs.declared.tree.OneSided.TheVariants.{Negated, Not}
use Rattle.query_names.specs.Bound.{IsFaultOf}
use Rattle.query_names.specs.Checked.{Checked, Meant, good, faults, also, both, all_three, known_map, known_all, ◌and_then◌, unless, the_one, bad}
use Rattle.query_names.specs.Expressions.{called, called_star, count_of, first_of, function_named, is_aggregate, resolve, resolve_all, resolve_collation, two_sided}
use Rattle.query_names.specs.Scopes.{fits, found}
use Rattle.query_names.specs.declared.functions.Called.{Called}
use Rattle.query_names.specs.declared.functions.Called.TheVariants.{OfFunction, OfAggregate}
use Rattle.query_names.specs.declared.scope.ScopeSource.{ScopeSource}

abbrev pub is_loud : Refusal → Bool
is_loud Io = true
is_loud Full = true
is_loud r = false

-- no refusal of it is a disk's
abbrev pub Quiet : {A : Type 0} → Checked A → Type 0
Quiet k = list_any is_loud (faults k) ≡ false

pub quiet_or : (rs ss : List Refusal) → list_any is_loud rs ≡ false → list_any is_loud ss ≡ false → list_any is_loud (rs ++ ss) ≡ false
quiet_or rs ss hr hs = list_any-append is_loud rs ss ∙ (ap (λ b. b || list_any is_loud ss) hr ∙ hs)

pub of_both : {A B C : Type 0} (f : A → B → C) (a : Checked A) (b : Checked B) → Quiet a → Quiet b → Quiet (both f a b)
of_both f (Meant x rs) (Meant y ss) ha hb = quiet_or rs ss ha hb

pub of_three : {A B C D : Type 0} (f : A → B → C → D) (a : Checked A) (b : Checked B) (c : Checked C) → Quiet a → Quiet b → Quiet c → Quiet (all_three f a b c)
of_three f (Meant x rs) (Meant y ss) (Meant z ts) ha hb hc = quiet_or (rs ++ ss) ts (quiet_or rs ss ha hb) hc

pub of_map : {A B : Type 0} (f : A → B) (k : Checked A) → Quiet k → Quiet (known_map f k)
of_map f (Meant x rs) h = h

pub of_also : {A : Type 0} (rs : List Refusal) (k : Checked A) → list_any is_loud rs ≡ false → Quiet k → Quiet (also rs k)
of_also rs (Meant x ss) hr hs = quiet_or rs ss hr hs

pub of_then : {A B : Type 0} (k : Checked A) (f : A → Checked B) → Quiet k → ((x : A) → Quiet (f x)) → Quiet (k and_then f)
of_then (Meant x rs) f h each = of_also rs (f x) h (each x)

pub of_unless : {A : Type 0} (b : Bool) (r : Refusal) (k : Checked A) → is_loud r ≡ false → Quiet k → Quiet (unless b r k)
of_unless true r k h q = of_also (r ∷ []) k (ap (λ b. b || false) h) q
of_unless false r k h q = of_also [] k refl q

pub of_known : {A B : Type 0} (f : A → Checked B) (xs : List A) → ((x : A) → Quiet (f x)) → Quiet (known_all (map f xs))
of_known f [] each = refl
of_known f (x ∷ xs) each = of_both (λ y ys. y ∷ ys) (f x) (known_all (map f xs)) (each x) (of_known f xs each)

-- ---- expressions

pub of_one : {A : Type 0} (b : Bool) (x : A) (ts : List A) → Quiet (the_one b x ts)
of_one b x [] = of_unless (not b) NoSuch (good x) refl refl
of_one b x (t ∷ []) = refl
of_one b x (t ∷ u ∷ us) = refl

pub of_collation : (n : Name) → Quiet (resolve_collation n)
of_collation n = by_tests (is_same_name n (codes "binary")) (is_same_name n (codes "nocase")) (is_same_name n (codes "rtrim"))
  where
    by_tests : (a b c : Bool) → Quiet (if a then good Binary else if b then good NoCase else if c then good RTrim else bad Binary NoSuch)
    by_tests true b c = refl
    by_tests false true c = refl
    by_tests false false true = refl
    by_tests false false false = refl

pub of_called : (totals : Bool) (g : Option Called) (n : ℕ) → Quiet (called totals g n)
of_called totals None n = refl
of_called totals (Some (OfAggregate g)) n = by_tests (not totals) (not (n == 1))
  where
    by_tests : (a b : Bool) → Quiet {A = Terms → Term} (unless a Misuse (unless b Misuse (good (λ es. Total g (first_of es)))))
    by_tests true true = refl
    by_tests true false = refl
    by_tests false true = refl
    by_tests false false = refl
of_called totals (Some (OfFunction f m more)) n = of_unless (not (n == m || (more && nat_lt m n))) Misuse (good (Apply f)) refl refl

pub of_star : (totals : Bool) (g : Option Called) → Quiet (called_star totals g)
of_star totals None = refl
of_star totals (Some (OfAggregate Count)) = of_unless (not totals) Misuse (good (Total CountAll (Const Null))) refl refl
of_star totals (Some (OfAggregate CountAll)) = refl
of_star totals (Some (OfAggregate Sum)) = refl
of_star totals (Some (OfAggregate Min)) = refl
of_star totals (Some (OfAggregate Max)) = refl
of_star totals (Some (OfFunction f m more)) = refl

mutual
  pub of_tree : (totals : Bool) (s : List ScopeSource) (e : Tree) → Quiet (resolve totals s e)
  of_tree totals s tree.Null = refl
  of_tree totals s (tree.Integer n) = refl
  of_tree totals s (tree.Text t) = refl
  of_tree totals s (tree.Blob b) = refl
  of_tree totals s (tree.Column q n) = of_one (list_any (λ x. fits q x && not x.is_known) s) (Const Null) (found 0 q n s)
  of_tree totals s (tree.Call f es) =
      of_both {A = Terms → Term} (λ h ts. h ts) (called totals (function_named f) (count_of es)) (resolve_all (totals && not (is_aggregate (function_named f))) s es)
      (of_called totals (function_named f) (count_of es)) (of_trees (totals && not (is_aggregate (function_named f))) s es)
  of_tree totals s (tree.CallAll f) = of_star totals (function_named f)
  of_tree totals s (tree.Paren e) = of_tree totals s e
  of_tree totals s (tree.Negated e) = of_map (One Negated) (resolve totals s e) (of_tree totals s e)
  of_tree totals s (tree.Not e) = of_map (One Not) (resolve totals s e) (of_tree totals s e)
  of_tree totals s (tree.Binary o a b) = of_both (Two (two_sided o)) (resolve totals s a) (resolve totals s b) (of_tree totals s a) (of_tree totals s b)
  of_tree totals s (tree.Collate e c) = of_both Collate (resolve_collation c) (resolve totals s e) (of_collation c) (of_tree totals s e)
  of_tree totals s (tree.In n a bs) = of_both (In n) (resolve totals s a) (resolve_all totals s bs) (of_tree totals s a) (of_trees totals s bs)
  of_tree totals s (tree.Between n a b c) =
      of_three (Between n) (resolve totals s a) (resolve totals s b) (resolve totals s c) (of_tree totals s a) (of_tree totals s b) (of_tree totals s c)
  of_tree totals s (tree.Raise k t) = of_unless (not (list_any (λ x. x.needs_name) s)) Misuse (good (Raise k t)) refl refl

  pub of_trees : (totals : Bool) (s : List ScopeSource) (es : Trees) → Quiet (resolve_all totals s es)
  of_trees totals s tree.End = refl
  of_trees totals s (tree.More e es) = of_both More (resolve totals s e) (resolve_all totals s es) (of_tree totals s e) (of_trees totals s es)

-- ---- faults

pub loud_or_not : (b : Bool) (rs : List Refusal) → list_any is_loud rs ≡ false → (b ≡ true → list_any is_loud rs ≡ true) → b ≡ false
loud_or_not true rs h f = absurd (false≢true (sym h ∙ f refl))
loud_or_not false rs h f = refl

pub none_among : (rs : List Refusal) (r : Refusal) → list_any is_loud rs ≡ false → Contains rs r → is_loud r ≡ false
none_among rs r h (k, lt, is) = loud_or_not (is_loud r) rs h (λ e. list_any_at is_loud rs k r lt (ap is_loud is ∙ e))

pub quiet_fault : (fault : Fault) → is_loud (refusal_of fault) ≡ false → IsNotDiskFault fault
quiet_fault fault h = (
  λ e. false≢true (sym h ∙ ap (λ f. is_loud (refusal_of f)) e),
  λ e. false≢true (sym h ∙ ap (λ f. is_loud (refusal_of f)) e),
)

pub not_disk : {A : Type 0} (k : Checked A) (fault : Fault) → Quiet k → IsFaultOf (faults k) fault → IsNotDiskFault fault
not_disk k fault q (inl m) = quiet_fault fault (ap (λ f. is_loud (refusal_of f)) m)
not_disk k fault q (inr h) = quiet_fault fault (none_among (faults k) (refusal_of fault) q h)

-- Expressions whose names are looked up (SQL As Understood By SQLite, "SQL Language Expressions", "Built-In Scalar SQL Functions", "Built-in Aggregate Functions").
use Rattle.std.specs.Prelude.{ℕ, suc, Bool, true, false, not, ◌&&◌, ◌||◌, List, Option, Some, None, if◌then◌else◌, nat_lt, ◌==◌, codes}
use Rattle.std.specs.List.{list_any}
use Rattle.sqlval.specs.Names.{is_same_name}
use Rattle.sqlval.specs.Refusals.{NoSuch, Misuse}
use Rattle.sqlval.specs.declared.collation.Collation.{Collation}
use Rattle.sqlval.specs.declared.collation.Collation.TheVariants.{Binary, NoCase, RTrim}
use Rattle.sqlval.specs.declared.value.Value.TheVariants.{Null, Text, Blob}
use Rattle.sql_syntax.specs.Tree as tree
use Rattle.sql_syntax.specs.Tree.{Tree, Trees}
use Rattle.sql_syntax.specs.declared.expr.Operator.{Operator}
use Rattle.sql_syntax.specs.declared.expr.Operator.TheVariants as op
use Rattle.catalog.specs.Database.{Name}
use Rattle.query_names.specs.Checked.{Checked, good, bad, both, all_three, known_map, unless}
use Rattle.query_names.specs.declared.functions.Called.{Called}
use Rattle.query_names.specs.declared.functions.Called.TheVariants.{OfFunction, OfAggregate}
use Rattle.query_names.specs.Scopes.{resolve_column}
use Rattle.query_names.specs.declared.scope.ScopeSource.{ScopeSource}
use Rattle.query_terms.specs.Terms.{Term, Terms, Const, Digits, Apply, Total, One, Two, Collate, In, Between, Raise, End, More}
use Rattle.query_terms.specs.declared.tree.Comparison.TheVariants.{Equal, NotEqual, Less, LessOrEqual, Greater, GreaterOrEqual}
use Rattle.query_terms.specs.declared.tree.Arithmetic.TheVariants.{Add, Subtract, Multiply, Divide, Remainder}
use Rattle.query_terms.specs.declared.tree.OneSided.TheVariants.{Negated, Not}
use Rattle.query_terms.specs.declared.tree.TwoSided.{TwoSided}
use Rattle.query_terms.specs.declared.tree.TwoSided.TheVariants.{Compare, Calculate, Is, IsNot, And, Or, Concatenate}
use Rattle.query_terms.specs.declared.tree.Function.TheVariants.{Abs, Coalesce, Length, Lower, Upper, TypeOf}
use Rattle.query_terms.specs.declared.tree.Aggregate.TheVariants.{CountAll, Count, Sum, Min, Max}

-- ---- collations and functions

-- one of the three by name (Datatypes In SQLite, "Collating Sequences")
abbrev pub resolve_collation : Name → Checked Collation
resolve_collation n =
    if is_same_name n (codes "binary") then good Binary
    else if is_same_name n (codes "nocase") then good NoCase
    else if is_same_name n (codes "rtrim") then good RTrim
    else bad Binary NoSuch

-- the functions that are supported
abbrev pub function_named : Name → Option Called
function_named n =
    if is_same_name n (codes "abs") then Some (OfFunction Abs 1 false)
    else if is_same_name n (codes "coalesce") then Some (OfFunction Coalesce 2 true)
    else if is_same_name n (codes "length") then Some (OfFunction Length 1 false)
    else if is_same_name n (codes "lower") then Some (OfFunction Lower 1 false)
    else if is_same_name n (codes "upper") then Some (OfFunction Upper 1 false)
    else if is_same_name n (codes "typeof") then Some (OfFunction TypeOf 1 false)
    else if is_same_name n (codes "count") then Some (OfAggregate Count)
    else if is_same_name n (codes "sum") then Some (OfAggregate Sum)
    else if is_same_name n (codes "min") then Some (OfAggregate Min)
    else if is_same_name n (codes "max") then Some (OfAggregate Max)
    else None

abbrev pub is_aggregate : Option Called → Bool
is_aggregate (Some (OfAggregate g)) = true
is_aggregate _ = false

abbrev pub count_of : Trees → ℕ
count_of tree.End = 0
count_of (tree.More e es) = suc (count_of es)

abbrev pub first_of : Terms → Term
first_of End = Const Null
first_of (More e es) = e

-- a call with so many arguments, where aggregates may stand or not
abbrev pub called : Bool → Option Called → ℕ → Checked (Terms → Term)
called totals None n = bad (λ es. Const Null) NoSuch
called totals (Some (OfAggregate g)) n = unless (not totals) Misuse (unless (not (n == 1)) Misuse (good (λ es. Total g (first_of es))))
called totals (Some (OfFunction f m more)) n = unless (not (n == m || (more && nat_lt m n))) Misuse (good (Apply f))

-- `*` stands in count alone, whether or not there is a function of the name
abbrev pub called_star : Bool → Option Called → Checked Term
called_star totals None = unless true Misuse (bad (Const Null) NoSuch)
called_star totals (Some (OfAggregate Count)) = unless (not totals) Misuse (good (Total CountAll (Const Null)))
called_star totals _ = bad (Const Null) Misuse

-- ---- operators

-- what an operator of the grammar is
abbrev pub two_sided : Operator → TwoSided
two_sided op.Or = Or
two_sided op.And = And
two_sided op.Equal = Compare Equal
two_sided op.NotEqual = Compare NotEqual
two_sided op.Is = Is
two_sided op.IsNot = IsNot
two_sided op.Less = Compare Less
two_sided op.LessOrEqual = Compare LessOrEqual
two_sided op.Greater = Compare Greater
two_sided op.GreaterOrEqual = Compare GreaterOrEqual
two_sided op.Add = Calculate Add
two_sided op.Subtract = Calculate Subtract
two_sided op.Multiply = Calculate Multiply
two_sided op.Divide = Calculate Divide
two_sided op.Remainder = Calculate Remainder
two_sided op.Concatenate = Concatenate

-- ---- expressions

-- whether an aggregate may stand there, and the sources that are seen; only a trigger's program sees NEW or OLD
abbrev mutual
  pub resolve : Bool → List ScopeSource → Tree → Checked Term
  resolve totals s tree.Null = good (Const Null)
  resolve totals s (tree.Integer n) = good (Digits n)
  resolve totals s (tree.Text t) = good (Const (Text t))
  resolve totals s (tree.Blob b) = good (Const (Blob b))
  resolve totals s (tree.Column q n) = resolve_column s q n
  resolve totals s (tree.Call f es) =
      let g : Option Called = function_named f in
      both {A = Terms → Term} (λ h ts. h ts) (called totals g (count_of es)) (resolve_all (totals && not (is_aggregate g)) s es)
  resolve totals s (tree.CallAll f) = called_star totals (function_named f)
  resolve totals s (tree.Paren e) = resolve totals s e
  resolve totals s (tree.Negated e) = known_map (One Negated) (resolve totals s e)
  resolve totals s (tree.Not e) = known_map (One Not) (resolve totals s e)
  resolve totals s (tree.Binary o a b) = both (Two (two_sided o)) (resolve totals s a) (resolve totals s b)
  resolve totals s (tree.Collate e c) = both Collate (resolve_collation c) (resolve totals s e)
  resolve totals s (tree.In n a bs) = both (In n) (resolve totals s a) (resolve_all totals s bs)
  resolve totals s (tree.Between n a b c) = all_three (Between n) (resolve totals s a) (resolve totals s b) (resolve totals s c)
  resolve totals s (tree.Raise k t) = unless (not (list_any (λ x. x.needs_name) s)) Misuse (good (Raise k t))

  pub resolve_all : Bool → List ScopeSource → Trees → Checked Terms
  resolve_all totals s tree.End = good End
  resolve_all totals s (tree.More e es) = both More (resolve totals s e) (resolve_all totals s es)

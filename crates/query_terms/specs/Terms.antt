-- Expressions whose names are known, with the affinity and the collation of each.
use Rattle.std.specs.Prelude.{ℕ, ◌+◌, Bool, true, false, not, ◌&&◌, List, [], ◌∷◌, Option, Some, None, unwrap_or, ◌==◌}
use Rattle.std.specs.Option.{option_or}
use Rattle.std.specs.Cmp.Lexicographic.{pointwise}
use Rattle.sqlval.specs.Sameness.{is_same_value}
use Rattle.sqlval.specs.declared.affinity.Affinity.{Affinity}
use Rattle.sqlval.specs.declared.collation.Collation.{Collation}
use Rattle.sqlval.specs.declared.collation.Collation.TheVariants.{Binary, NoCase, RTrim}
use Rattle.sqlval.specs.declared.value.Value.{Value}
use Rattle.sql_syntax.specs.declared.expr.RaiseAction.{RaiseAction}
use Rattle.sql_syntax.specs.declared.expr.RaiseAction.TheVariants.{Abort, Rollback}
use Rattle.query_terms.specs.declared.tree.Comparison.{Comparison}
use Rattle.query_terms.specs.declared.tree.Comparison.TheVariants.{Equal, NotEqual, Less, LessOrEqual, Greater, GreaterOrEqual}
use Rattle.query_terms.specs.declared.tree.Arithmetic.{Arithmetic}
use Rattle.query_terms.specs.declared.tree.Arithmetic.TheVariants.{Add, Subtract, Multiply, Divide, Remainder}
use Rattle.query_terms.specs.declared.tree.OneSided.{OneSided}
use Rattle.query_terms.specs.declared.tree.OneSided.TheVariants.{Negated, Not}
use Rattle.query_terms.specs.declared.tree.TwoSided.{TwoSided}
use Rattle.query_terms.specs.declared.tree.TwoSided.TheVariants.{Compare, Calculate, Is, IsNot, And, Or, Concatenate}
use Rattle.query_terms.specs.declared.tree.Place.{Place}
use Rattle.query_terms.specs.declared.tree.Place.TheVariants.{RowId, At}
use Rattle.query_terms.specs.declared.tree.Function.{Function}
use Rattle.query_terms.specs.declared.tree.Function.TheVariants.{Abs, Coalesce, Length, Lower, Upper, TypeOf}
use Rattle.query_terms.specs.declared.tree.Aggregate.{Aggregate}
use Rattle.query_terms.specs.declared.tree.Aggregate.TheVariants.{CountAll, Count, Sum, Min, Max}

mutual
  pub data Term : Type 0 where
    Const : Value → Term
    -- the number after a minus, at most 2 ^ 63
    Digits : ℕ → Term
    -- of a source, with the column's affinity and collation
    Cell : ℕ → Place → Option Affinity → Collation → Term
    -- a GROUP BY expression, by its place
    Key : ℕ → Term → Term
    Apply : Function → Terms → Term
    Total : Aggregate → Term → Term
    One : OneSided → Term → Term
    Two : TwoSided → Term → Term → Term
    Collate : Collation → Term → Term
    In : Bool → Term → Terms → Term
    Between : Bool → Term → Term → Term → Term
    Raise : RaiseAction → List ℕ → Term

  pub data Terms : Type 0 where
    End : Terms
    More : Term → Terms → Terms

-- the terms of a list
abbrev pub terms : List Term → Terms
terms [] = End
terms (e ∷ es) = More e (terms es)

-- How many forms stand one over another, and how many items a list has, all together: the measure of recursions. It falls
-- to each part, and from a list to its rest.
abbrev mutual
  pub size : Term → ℕ
  size (Const v) = 0
  size (Digits n) = 0
  size (Cell s p a c) = 0
  size (Key k e) = size e + 1
  size (Apply f es) = size_in es + 1
  size (Total g e) = size e + 1
  size (One o e) = size e + 1
  size (Two o a b) = size a + size b + 1
  size (Collate c e) = size e + 1
  size (In n a es) = size a + size_in es + 1
  size (Between n a b c) = size a + size b + size c + 1
  size (Raise k t) = 0

  pub size_in : Terms → ℕ
  size_in End = 0
  size_in (More e es) = size e + size_in es + 1

-- ---- affinity and collation of a term

-- of a column; a literal or a computed value has none
abbrev pub affinity : Term → Option Affinity
affinity (Cell s p a c) = a
affinity (Key k e) = affinity e
affinity (Collate c e) = affinity e
affinity _ = None

-- the collation of the column that the term is, if it is one
abbrev pub column_collation : Term → Option Collation
column_collation (Cell s p a c) = Some c
column_collation (Key k e) = column_collation e
column_collation (Collate c e) = column_collation e
column_collation _ = None

-- the leftmost collation written in it
abbrev mutual
  pub written : Term → Option Collation
  written (Key k e) = written e
  written (Apply f es) = written_in es
  written (Total f e) = written e
  written (One o e) = written e
  written (Two o a b) = option_or (written a) (written b)
  written (Collate c e) = option_or (written e) (Some c)
  written (In n a bs) = option_or (written a) (written_in bs)
  written (Between n a b c) = option_or (written a) (option_or (written b) (written c))
  written _ = None

  pub written_in : Terms → Option Collation
  written_in End = None
  written_in (More e es) = option_or (written e) (written_in es)

-- under which collation a term is sorted, grouped and told apart
abbrev pub collation : Term → Collation
collation e = unwrap_or (option_or (written e) (column_collation e)) Binary

-- under which collation two terms are compared: the first that is written, else that of a column, the left before the right
abbrev pub collation_of_two : Term → Term → Collation
collation_of_two a b = unwrap_or (option_or (option_or (written a) (written b)) (option_or (column_collation a) (column_collation b))) Binary

-- ---- when two terms are the same

-- the place of a comparison among them
abbrev pub comparison_index : Comparison → ℕ
comparison_index Equal = 0
comparison_index NotEqual = 1
comparison_index Less = 2
comparison_index LessOrEqual = 3
comparison_index Greater = 4
comparison_index GreaterOrEqual = 5

-- the place of an operation among them
abbrev pub arithmetic_index : Arithmetic → ℕ
arithmetic_index Add = 0
arithmetic_index Subtract = 1
arithmetic_index Multiply = 2
arithmetic_index Divide = 3
arithmetic_index Remainder = 4

-- the place of a function among them
abbrev pub function_index : Function → ℕ
function_index Abs = 0
function_index Coalesce = 1
function_index Length = 2
function_index Lower = 3
function_index Upper = 4
function_index TypeOf = 5

-- the place of an aggregate among them
abbrev pub aggregate_index : Aggregate → ℕ
aggregate_index CountAll = 0
aggregate_index Count = 1
aggregate_index Sum = 2
aggregate_index Min = 3
aggregate_index Max = 4

-- the place of a collation among them
abbrev pub collation_index : Collation → ℕ
collation_index Binary = 0
collation_index NoCase = 1
collation_index RTrim = 2

-- the same rowid or column
abbrev pub same_place : Place → Place → Bool
same_place RowId RowId = true
same_place (At i) (At j) = i == j
same_place _ _ = false

-- the same operator before an operand
abbrev pub same_one : OneSided → OneSided → Bool
same_one Negated Negated = true
same_one Not Not = true
same_one _ _ = false

-- the same operator between operands
abbrev pub same_two : TwoSided → TwoSided → Bool
same_two (Compare o) (Compare p) = comparison_index o == comparison_index p
same_two (Calculate o) (Calculate p) = arithmetic_index o == arithmetic_index p
same_two Is Is = true
same_two IsNot IsNot = true
same_two And And = true
same_two Or Or = true
same_two Concatenate Concatenate = true
same_two _ _ = false

-- the same action of RAISE
abbrev pub same_raise : RaiseAction → RaiseAction → Bool
same_raise Abort Abort = true
same_raise Rollback Rollback = true
same_raise _ _ = false

abbrev pub same_flag : Bool → Bool → Bool
same_flag true b = b
same_flag false b = not b

-- the same term; columns are told apart by where they stand
abbrev mutual
  pub same_term : Term → Term → Bool
  same_term (Const v) (Const w) = is_same_value v w
  same_term (Digits m) (Digits n) = m == n
  same_term (One o a) (One p b) = same_one o p && same_term a b
  same_term (Two o a b) (Two p c d) = same_two o p && same_term a c && same_term b d
  same_term (In m a b) (In n c d) = same_flag m n && same_term a c && same_terms b d
  same_term (Between m a b e) (Between n c d f) = same_flag m n && same_term a c && same_term b d && same_term e f
  same_term (Cell s p a c) (Cell t q b d) = (s == t) && same_place p q
  same_term (Key i a) (Key j b) = i == j
  same_term (Raise k t) (Raise l u) = same_raise k l && pointwise ◌==◌ t u
  same_term (Apply f a) (Apply g b) = (function_index f == function_index g) && same_terms a b
  same_term (Total f a) (Total g b) = (aggregate_index f == aggregate_index g) && same_term a b
  same_term (Collate c a) (Collate d b) = (collation_index c == collation_index d) && same_term a b
  same_term _ _ = false

  pub same_terms : Terms → Terms → Bool
  same_terms End End = true
  same_terms (More a as') (More b bs) = same_term a b && same_terms as' bs
  same_terms _ _ = false

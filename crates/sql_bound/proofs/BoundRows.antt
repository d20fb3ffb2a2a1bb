-- Worked examples of parameters, of literals and of expressions with them.
use Rattle.std.specs.Prelude.{◌≡◌, refl, ℕ, pos, negsuc, false, true, codes, List, [], ◌∷◌, None, Some}
use Rattle.sqlval.specs.declared.value.Value.{Value}
use Rattle.sqlval.specs.declared.value.Value.TheVariants as value
use Rattle.sql_syntax.specs.Tree.{Tree, Null, Integer, Text, Blob, Column, Negated, Binary, Between, In, Call, CallAll, End, More}
use Rattle.sql_syntax.specs.declared.expr.Operator.TheVariants.{Equal, Add}
use Rattle.sql_syntax.specs.declared.query.Query.{Query}
use Rattle.sql_syntax.specs.declared.statement.Statement.TheVariants.{Select, Commit}
use Rattle.sql_bound.specs.Bound.{bound_statement, bound_tree, literal_of, parameter_of}
use Rattle.sql_bound.specs.Greatest.{greatest_parameter}

-- ---- names

pub first_parameter : parameter_of (codes "?1") ≡ Some 1
first_parameter = refl

pub twelfth_parameter : parameter_of (codes "?12") ≡ Some 12
twelfth_parameter = refl

pub last_parameter : parameter_of (codes "?32766") ≡ Some 32766
last_parameter = refl

pub past_the_last : parameter_of (codes "?32767") ≡ None
past_the_last = refl

pub mark_alone : parameter_of (codes "?") ≡ None
mark_alone = refl

pub zeroth : parameter_of (codes "?0") ≡ None
zeroth = refl

pub zero_in_front : parameter_of (codes "?01") ≡ None
zero_in_front = refl

pub letter_behind : parameter_of (codes "?1a") ≡ None
letter_behind = refl

pub without_mark : parameter_of (codes "1") ≡ None
without_mark = refl

-- ---- literals

pub null_is_null : literal_of value.Null ≡ Null
null_is_null = refl

pub nothing : literal_of (value.Int (pos 0)) ≡ Integer 0
nothing = refl

pub minus_five : literal_of (value.Int (negsuc 4)) ≡ Negated (Integer 5)
minus_five = refl

pub greatest : literal_of (value.Int (pos 9223372036854775807)) ≡ Integer 9223372036854775807
greatest = refl

pub least : literal_of (value.Int (negsuc 9223372036854775807)) ≡ Negated (Integer 9223372036854775808)
least = refl

pub text : literal_of (value.Text (codes "it")) ≡ Text (codes "it")
text = refl

pub blob : literal_of (value.Blob (0 ∷ 255 ∷ [])) ≡ Blob (0 ∷ 255 ∷ [])
blob = refl

-- ---- expressions

abbrev a : Tree
a = Column None (codes "a")

abbrev parameter : List ℕ → Tree
parameter name = Column None name

-- 7 and 'x'
abbrev given : List Value
given = value.Int (pos 7) ∷ value.Text (codes "x") ∷ []

-- ?2 and ?1, whichever comes first
pub by_number : bound_tree given (Binary Equal (parameter (codes "?2")) (parameter (codes "?1"))) ≡ Binary Equal (Text (codes "x")) (Integer 7)
by_number = refl

-- one parameter in two places
pub twice : bound_tree given (Binary Add (parameter (codes "?1")) (parameter (codes "?1"))) ≡ Binary Add (Integer 7) (Integer 7)
twice = refl

-- without a third value ?3 stays; so do a column, and t.?1
pub stays : bound_tree given (Binary Add a (parameter (codes "?3"))) ≡ Binary Add a (parameter (codes "?3"))
stays = refl

pub of_a_source : bound_tree given (Column (Some (codes "t")) (codes "?1")) ≡ Column (Some (codes "t")) (codes "?1")
of_a_source = refl

-- a NOT BETWEEN -?1 AND ?1; a IN (?1, ?2); f(?2, count(*))
pub between : bound_tree given (Between true a (Negated (parameter (codes "?1"))) (parameter (codes "?1"))) ≡ Between true a (Negated (Integer 7)) (Integer 7)
between = refl

pub among : bound_tree given (In false a (More (parameter (codes "?1")) (More (parameter (codes "?2")) End))) ≡ In false a (More (Integer 7) (More (Text (codes "x")) End))
among = refl

pub called : bound_tree given (Call (codes "f") (More (parameter (codes "?2")) (More (CallAll (codes "count")) End)))
    ≡ Call (codes "f") (More (Text (codes "x")) (More (CallAll (codes "count")) End))
called = refl

-- ---- statements

-- SELECT WHERE condition ORDER BY order DESC
abbrev query : Tree → Tree → Query
query condition order = record {
  is_distinct = false;
  results = [];
  from = None;
  condition = Some condition;
  groups = [];
  order = record { expression = order; is_descending = true } ∷ [];
  limit = None;
}

pub selected : bound_statement given (Select (query (parameter (codes "?1")) (parameter (codes "?2")))) ≡ Some (Select (query (Integer 7) (Text (codes "x"))))
selected = refl

pub other_statement : bound_statement given Commit ≡ None
other_statement = refl

pub two_parameters : greatest_parameter (Select (query (Binary Add (parameter (codes "?2")) a) (parameter (codes "?1")))) ≡ 2
two_parameters = refl

pub no_parameter : greatest_parameter (Select (query a (parameter (codes "?0")))) ≡ 0
no_parameter = refl

-- Worked examples of queries.
use Rattle.std.specs.Prelude.{◌≡◌, refl, false, negsuc, Ok, Err, codes, None, Some, List, [], ◌∷◌, Option}
use Rattle.std.specs.Fmt.{digits}
use Rattle.sqlval.specs.Refusals.{RealRefused, TypeRefused, NoSuch, Misuse}
use Rattle.sqlval.specs.declared.affinity.Affinity.{Affinity}
use Rattle.sqlval.specs.declared.affinity.Affinity.TheVariants as kind
use Rattle.sqlval.specs.declared.value.Value.{Value}
use Rattle.sqlval.specs.declared.value.Value.TheVariants.{Null, Int, Text, Blob}
use Rattle.sql_syntax.specs.Tree.{Tree, Call, CallAll, Negated, Binary, Collate, In, End, More}
use Rattle.sql_syntax.specs.declared.expr.Operator.TheVariants as op
use Rattle.sql_syntax.specs.declared.query.Join.{Join}
use Rattle.sql_syntax.specs.declared.query.JoinKind.TheVariants.{Left}
use Rattle.sql_syntax.specs.declared.query.Query.{Query}
use Rattle.catalog.specs.Database.{Name, Database, TableColumn, Object, with_object}
use Rattle.query_names.specs.Views.{answer}
use Rattle.query_names.proofs.Written.{null, number, text, named, from, joined, select, results, rising, col, table, numbered, int}

abbrev typed : Name → Affinity → TableColumn
typed n k = record (col n) { affinity = k }

abbrev rows_of : List TableColumn → List (List Value) → Object
rows_of cs rows = table cs (numbered 1 rows)

abbrev c : Name → Tree
c = named

abbrev query : List Tree → List Join → Option Tree → Query
query es js w = record (select (results es) js) { condition = w }

abbrev a : Name
a = codes "a"

abbrev b : Name
b = codes "b"

abbrev t : Name
t = codes "t"

-- SELECT 1
pub one : answer [] (query (number 1 ∷ []) [] None) ≡ Ok ((int 1 ∷ []) ∷ [])
unfolding answer
one = refl

-- SELECT a FROM t
pub no_table : answer [] (query (c a ∷ []) (from t ∷ []) None) ≡ Err NoSuch
unfolding answer
no_table = refl

-- t(a, b) holds (1, 6), (0, 5): SELECT a FROM t WHERE 9223372036854775807 + a > 0 AND b = 5
pub overflow : answer (with_object [] t (rows_of (col a ∷ col b ∷ []) ((int 1 ∷ int 6 ∷ []) ∷ (int 0 ∷ int 5 ∷ []) ∷ [])))
    (query (c a ∷ []) (from t ∷ []) (Some (Binary op.And (Binary op.Greater (Binary op.Add (number 9223372036854775807) (c a)) (number 0)) (Binary op.Equal (c b) (number 5))))) ≡ Err RealRefused
unfolding answer
overflow = refl

abbrev mixed : Database
mixed = with_object [] t (rows_of (col a ∷ []) ((Null ∷ []) ∷ (Blob (0 ∷ []) ∷ []) ∷ (Text (codes "a") ∷ []) ∷ (int 2 ∷ []) ∷ (Text (codes "B") ∷ []) ∷ []))

abbrev by : Tree → Query → Query
by e q = record q { order = rising e ∷ [] }

pub ordered : answer mixed (by (c a) (query (c a ∷ []) (from t ∷ []) None))
    ≡ Ok ((Null ∷ []) ∷ (int 2 ∷ []) ∷ (Text (codes "B") ∷ []) ∷ (Text (codes "a") ∷ []) ∷ (Blob (0 ∷ []) ∷ []) ∷ [])
unfolding answer
ordered = refl

pub ordered_nocase : answer mixed (by (Collate (c a) (codes "NOCASE")) (query (c a ∷ []) (from t ∷ []) None))
    ≡ Ok ((Null ∷ []) ∷ (int 2 ∷ []) ∷ (Text (codes "a") ∷ []) ∷ (Text (codes "B") ∷ []) ∷ (Blob (0 ∷ []) ∷ []) ∷ [])
unfolding answer
ordered_nocase = refl

abbrev ten : Database
ten = with_object [] t (rows_of (typed a kind.Integer ∷ typed b kind.Text ∷ []) ((int 10 ∷ Text (codes "10") ∷ []) ∷ []))

-- SELECT a = b FROM t; '10' = 10
pub number_and_text : answer ten (query (Binary op.Equal (c a) (c b) ∷ Binary op.Equal (text (codes "10")) (number 10) ∷ []) (from t ∷ []) None) ≡ Ok ((int 1 ∷ int 0 ∷ []) ∷ [])
unfolding answer
number_and_text = refl

abbrev twos : Database
twos = with_object [] t (rows_of (col a ∷ []) ((int 1 ∷ []) ∷ (int 2 ∷ []) ∷ (int 2 ∷ []) ∷ (Null ∷ []) ∷ []))

-- SELECT a, count(*) FROM t GROUP BY a
pub counted : answer twos (record (query (c a ∷ CallAll (codes "count") ∷ []) (from t ∷ []) None) { groups = c a ∷ [] })
    ≡ Ok ((Null ∷ int 1 ∷ []) ∷ (int 1 ∷ int 1 ∷ []) ∷ (int 2 ∷ int 2 ∷ []) ∷ [])
unfolding answer
counted = refl

-- SELECT sum(a) FROM t WHERE a > 9
pub sum_of_none : answer twos (query (Call (codes "sum") (More (c a) End) ∷ []) (from t ∷ []) (Some (Binary op.Greater (c a) (number 9)))) ≡ Ok ((Null ∷ []) ∷ [])
unfolding answer
sum_of_none = refl

abbrev two : Database
two = with_object (with_object [] t (rows_of (col a ∷ col b ∷ []) ((int 1 ∷ Text (codes "x") ∷ []) ∷ (int 2 ∷ Text (codes "y") ∷ []) ∷ []))) (codes "u") (rows_of (col (codes "c") ∷ []) ((int 2 ∷ []) ∷ (int 2 ∷ []) ∷ []))

-- SELECT a, c FROM t LEFT JOIN u ON a = c
pub left_join : answer two (query (c a ∷ c (codes "c") ∷ []) (from t ∷ joined Left (codes "u") (Binary op.Equal (c a) (c (codes "c"))) ∷ []) None)
    ≡ Ok ((int 1 ∷ Null ∷ []) ∷ (int 2 ∷ int 2 ∷ []) ∷ (int 2 ∷ int 2 ∷ []) ∷ [])
unfolding answer
left_join = refl

-- SELECT 7 / -2, -7 % 2, 1 / 0
pub divided : answer two (query (Binary op.Divide (number 7) (Negated (number 2)) ∷ Binary op.Remainder (Negated (number 7)) (number 2) ∷ Binary op.Divide (number 1) (number 0) ∷ []) [] None)
    ≡ Ok ((Int (negsuc 2) ∷ Int (negsuc 0) ∷ Null ∷ []) ∷ [])
unfolding answer
divided = refl

-- SELECT NULL OR 1, 0 AND NULL, 2 IN (1, NULL)
pub three_valued : answer two (query (Binary op.Or null (number 1) ∷ Binary op.And (number 0) null ∷ In false (number 2) (More (number 1) (More null End)) ∷ []) [] None)
    ≡ Ok ((int 1 ∷ int 0 ∷ Null ∷ []) ∷ [])
unfolding answer
three_valued = refl

-- SELECT 1 WHERE 'x'
pub no_truth : answer two (query (number 1 ∷ []) [] (Some (text (codes "x")))) ≡ Err TypeRefused
unfolding answer
no_truth = refl

-- SELECT a + 1 FROM t LIMIT 1 where a sum passes 64 bits
pub limit_after : answer (with_object [] t (rows_of (col a ∷ []) ((int 1 ∷ []) ∷ (int 9223372036854775807 ∷ []) ∷ [])))
    (record (query (Binary op.Add (c a) (number 1) ∷ []) (from t ∷ []) None) { limit = Some (record { count = 1; offset = None }) }) ≡ Err RealRefused
unfolding answer
limit_after = refl

-- SELECT a = b, b = 10, '10' = 10 FROM t
pub text_and_number : answer ten (query (Binary op.Equal (c a) (c b) ∷ Binary op.Equal (c b) (number 10) ∷ Binary op.Equal (text (codes "10")) (number 10) ∷ []) (from t ∷ []) None) ≡ Ok ((int 1 ∷ int 1 ∷ int 0 ∷ []) ∷ [])
unfolding answer digits
text_and_number = refl

-- SELECT sum(a) over a text, and abs of the least integer
pub sum_of_text : answer mixed (query (Call (codes "sum") (More (c a) End) ∷ []) (from t ∷ []) None) ≡ Err TypeRefused
unfolding answer
sum_of_text = refl

-- an aggregate beside a column that is no key
pub column_beside : answer twos (query (c a ∷ CallAll (codes "count") ∷ []) (from t ∷ []) None) ≡ Err Misuse
unfolding answer
column_beside = refl

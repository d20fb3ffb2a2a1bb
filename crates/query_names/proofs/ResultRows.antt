-- Worked examples of which rows a query gives, and in which order.
use Rattle.std.specs.Prelude.{◌≡◌, refl, true, false, negsuc, Ok, Err, codes, Some, List, [], ◌∷◌}
use Rattle.sqlval.specs.Refusals.{Ambiguous, Misuse}
use Rattle.sqlval.specs.declared.value.Value.TheVariants.{Null, Int, Text}
use Rattle.sql_syntax.specs.Tree.{Tree, Call, CallAll, Negated, Binary, Collate, Between, End, More}
use Rattle.sql_syntax.specs.declared.expr.Operator.TheVariants as op
use Rattle.sql_syntax.specs.declared.query.OrderTerm.{OrderTerm}
use Rattle.sql_syntax.specs.declared.query.Query.{Query}
use Rattle.sql_syntax.specs.declared.query.ResultItem.{ResultItem}
use Rattle.sql_syntax.specs.declared.query.ResultItem.TheVariants.{All, Of}
use Rattle.catalog.specs.Database.{Name, Database, AView, with_object}
use Rattle.query_names.specs.Views.{answer}
use Rattle.query_names.proofs.Written.{null, number, text, named, from, select, result, results, rising, col, table, numbered, int}

abbrev a : Name
a = codes "a"

abbrev b : Name
b = codes "b"

abbrev t : Name
t = codes "t"

abbrev u : Name
u = codes "u"

abbrev x : Name
x = codes "x"

abbrev v : Name
v = codes "v"

abbrev named_as : Tree → Name → ResultItem
named_as e n = Of e (Some n)

-- t(a) holds 3, 1, 2
abbrev three : Database
three = with_object [] t (table (col a ∷ []) (numbered 1 ((int 3 ∷ []) ∷ (int 1 ∷ []) ∷ (int 2 ∷ []) ∷ [])))

-- of t, in this order
abbrev of_t : List ResultItem → List Tree → Query
of_t items order = record (select items (from t ∷ [])) { order = by order }
  where
    by : List Tree → List OrderTerm
    by [] = []
    by (e ∷ es) = rising e ∷ by es

abbrev count : Tree
count = CallAll (codes "count")

abbrev nocase : Tree → Tree
nocase e = Collate e (codes "NOCASE")

-- ---- the order

-- SELECT a AS b, -a AS a FROM t ORDER BY a: the name after AS comes before the column
pub by_alias : answer three (of_t (named_as (named a) b ∷ named_as (Negated (named a)) a ∷ []) (named a ∷ []))
    ≡ Ok ((int 3 ∷ Int (negsuc 2) ∷ []) ∷ (int 2 ∷ Int (negsuc 1) ∷ []) ∷ (int 1 ∷ Int (negsuc 0) ∷ []) ∷ [])
unfolding answer
by_alias = refl

-- SELECT DISTINCT a FROM t ORDER BY a COLLATE NOCASE
pub distinct_by_another : answer three (record (of_t (result (named a) ∷ []) (nocase (named a) ∷ [])) { is_distinct = true }) ≡ Err Misuse
unfolding answer
distinct_by_another = refl

-- SELECT a FROM t ORDER BY count(*), and SELECT 1 FROM t ORDER BY count(*)
pub column_by_count : answer three (of_t (result (named a) ∷ []) (count ∷ [])) ≡ Err Misuse
unfolding answer
column_by_count = refl

pub one_by_count : answer three (of_t (result (number 1) ∷ []) (count ∷ [])) ≡ Ok ((int 1 ∷ []) ∷ [])
unfolding answer
one_by_count = refl

-- SELECT a FROM t ORDER BY a DESC LIMIT 1 OFFSET 1
pub second_greatest : answer three (record (of_t (result (named a) ∷ []) []) { order = record { expression = named a; is_descending = true } ∷ []; limit = Some (record { count = 1; offset = Some 1 }) }) ≡ Ok ((int 2 ∷ []) ∷ [])
unfolding answer
second_greatest = refl

-- ---- groups

-- SELECT a+1+1 FROM t GROUP BY a+1
pub over_a_key : answer three (record (of_t (result (Binary op.Add (Binary op.Add (named a) (number 1)) (number 1)) ∷ []) []) { groups = Binary op.Add (named a) (number 1) ∷ [] })
    ≡ Ok ((int 3 ∷ []) ∷ (int 4 ∷ []) ∷ (int 5 ∷ []) ∷ [])
unfolding answer
over_a_key = refl

-- SELECT a FROM t GROUP BY a COLLATE NOCASE
pub beside_a_key : answer three (record (of_t (result (named a) ∷ []) []) { groups = nocase (named a) ∷ [] }) ≡ Err Misuse
unfolding answer
beside_a_key = refl

-- t(a) holds 'a', 'B', 'A': SELECT count(*) FROM t GROUP BY a COLLATE NOCASE
abbrev letters : Database
letters = with_object [] t (table (col a ∷ []) (numbered 1 ((Text (codes "a") ∷ []) ∷ (Text (codes "B") ∷ []) ∷ (Text (codes "A") ∷ []) ∷ [])))

pub under_a_collation : answer letters (record (of_t (result count ∷ []) []) { groups = nocase (named a) ∷ [] }) ≡ Ok ((int 2 ∷ []) ∷ (int 1 ∷ []) ∷ [])
unfolding answer
under_a_collation = refl

-- ---- rows and values

-- t(a) holds 2, 1, 2: SELECT DISTINCT a FROM t
pub distinct : answer (with_object [] t (table (col a ∷ []) (numbered 1 ((int 2 ∷ []) ∷ (int 1 ∷ []) ∷ (int 2 ∷ []) ∷ [])))) (record (of_t (result (named a) ∷ []) (named a ∷ [])) { is_distinct = true })
    ≡ Ok ((int 1 ∷ []) ∷ (int 2 ∷ []) ∷ [])
unfolding answer
distinct = refl

-- u(b) holds 7, 8: SELECT a, b FROM t, u ORDER BY a, b
pub comma : answer (with_object three u (table (col b ∷ []) (numbered 1 ((int 7 ∷ []) ∷ (int 8 ∷ []) ∷ []))))
    (record (select (results (named a ∷ named b ∷ [])) (from t ∷ from u ∷ [])) { order = rising (named a) ∷ rising (named b) ∷ [] })
    ≡ Ok ((int 1 ∷ int 7 ∷ []) ∷ (int 1 ∷ int 8 ∷ []) ∷ (int 2 ∷ int 7 ∷ []) ∷ (int 2 ∷ int 8 ∷ []) ∷ (int 3 ∷ int 7 ∷ []) ∷ (int 3 ∷ int 8 ∷ []) ∷ [])
unfolding answer
comma = refl

-- SELECT NULL IS NULL, 1 IS NULL, 2 BETWEEN 1 AND 2, 2 NOT BETWEEN 1 AND 2, coalesce(NULL, 3, 4), 'a' || 'b', 'a' || NULL
pub operators : answer [] (select (results (
    Binary op.Is null null
    ∷ Binary op.Is (number 1) null
    ∷ Between false (number 2) (number 1) (number 2)
    ∷ Between true (number 2) (number 1) (number 2)
    ∷ Call (codes "coalesce") (More null (More (number 3) (More (number 4) End)))
    ∷ Binary op.Concatenate (text a) (text b)
    ∷ Binary op.Concatenate (text a) null
    ∷ []
    )) []) ≡ Ok ((int 1 ∷ int 0 ∷ int 1 ∷ int 0 ∷ int 3 ∷ Text (codes "ab") ∷ Null ∷ []) ∷ [])
unfolding answer
operators = refl

-- ---- a view's columns

-- CREATE VIEW v AS SELECT a AS x, a AS x FROM t
abbrev doubled : Database
doubled = with_object three v (AView (record { columns = []; query = of_t (named_as (named a) x ∷ named_as (named a) x ∷ []) [] }))

-- SELECT * FROM v, and SELECT x FROM v
pub all_of_doubled : answer doubled (select (All ∷ []) (from v ∷ [])) ≡ Ok ((int 3 ∷ int 3 ∷ []) ∷ (int 1 ∷ int 1 ∷ []) ∷ (int 2 ∷ int 2 ∷ []) ∷ [])
unfolding answer
all_of_doubled = refl

pub one_of_doubled : answer doubled (select (result (named x) ∷ []) (from v ∷ [])) ≡ Err Ambiguous
unfolding answer
one_of_doubled = refl

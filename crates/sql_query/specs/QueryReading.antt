-- Reading queries.
use Rattle.std.specs.Prelude.{ℕ, Bool, true, false, List, [], ◌∷◌, Option, Some, None, Ok}
use Rattle.sql_lexer.specs.declared.keyword.Keyword.TheVariants as w
use Rattle.sql_lexer.specs.declared.token.Kind.TheVariants as k
use Rattle.sql_syntax.specs.Tree.{Tree}
use Rattle.sql_syntax.specs.declared.query.FromClause.{FromClause}
use Rattle.sql_syntax.specs.declared.query.Join.{Join}
use Rattle.sql_syntax.specs.declared.query.JoinKind.{JoinKind}
use Rattle.sql_syntax.specs.declared.query.JoinKind.TheVariants as join
use Rattle.sql_syntax.specs.declared.query.Limit.{Limit}
use Rattle.sql_syntax.specs.declared.query.OrderTerm.{OrderTerm}
use Rattle.sql_syntax.specs.declared.query.Query.{Query}
use Rattle.sql_syntax.specs.declared.query.ResultItem.{ResultItem}
use Rattle.sql_syntax.specs.declared.query.ResultItem.TheVariants as item
use Rattle.sql_syntax.specs.declared.query.Source.{Source}
use Rattle.sql_expr.specs.Symbols.{Symbol, Plain, Name}
use Rattle.sql_expr.specs.Reading.{Read, ◌>>=◌, name_from, maybe_name_from, expression_from, expressions_from, maybe_after_from, integer_from}
use Rattle.sql_grammar.specs.Readers.{Reader, yields, made, both, preceded, optionally, choose, choose_by, choose_comma, maybe, listed, many, limited}
use Rattle.sql_grammar.specs.Limits.{few, few_joins}

abbrev pub value : Tree × Option (List ℕ) → ResultItem
value x = item.Of x.0 x.1

unfoldable pub value_from : Reader ResultItem
value_from = made value (both expression_from (maybe w.As name_from))

-- the pieces after a star, where it comes next
unfoldable pub after_star : List Symbol → Option (List Symbol)
after_star (Plain k.Star ∷ ts) = Some ts
after_star ts = None

-- the pieces after the star of one source, where that comes next
unfoldable pub after_all_of : List Symbol → Option (List Symbol)
after_all_of (Name c ∷ Plain k.Dot ∷ Plain k.Star ∷ ts) = Some ts
after_all_of ts = None

abbrev pub all_of_by : List Symbol → Option (List Symbol) → Read ResultItem
all_of_by ts (Some rest) = name_from ts >>= λ a. Ok (item.AllOf a.0, rest)
all_of_by ts None = value_from ts

unfoldable pub named_from : Reader ResultItem
named_from ts = all_of_by ts (after_all_of ts)

unfoldable pub result_from : Reader ResultItem
result_from ts = choose_by (yields item.All) named_from ts (after_star ts)

unfoldable pub results_from : Reader (List ResultItem)
results_from = limited few (listed result_from)

unfoldable pub alias_from : Reader (Option (List ℕ))
alias_from = choose w.As (made Some name_from) maybe_name_from

abbrev pub source : List ℕ × Option (List ℕ) → Source
source x = record { name = x.0; alias = x.1 }

unfoldable pub source_from : Reader Source
source_from = made source (both name_from alias_from)

-- how a further source is joined, where one comes next
unfoldable pub join_kind_from : Reader (Option JoinKind)
join_kind_from =
    choose_comma (yields (Some join.Comma)) (choose w.Join (yields (Some join.Inner)) (choose w.Inner (preceded w.Join (yields (Some join.Inner)))
    (choose w.Left (optionally w.Outer (preceded w.Join (yields (Some join.Left)))) (yields None))))

unfoldable pub on_from : JoinKind → Reader (Option Tree)
on_from join.Comma = yields None
on_from join.Inner = made Some (preceded w.On expression_from)
on_from join.Left = made Some (preceded w.On expression_from)

abbrev pub joined : JoinKind → Source × Option Tree → Join
joined kind x = record { kind = kind; source = x.0; condition = x.1 }

unfoldable pub join_from : JoinKind → Reader Join
join_from kind = made (joined kind) (both source_from (on_from kind))

abbrev pub join_by : Option JoinKind → Reader (Option Join)
join_by None ts = Ok (None, ts)
join_by (Some kind) ts = join_from kind ts >>= λ a. Ok (Some a.0, a.1)

-- a further source, where one comes next
unfoldable pub next_join_from : Reader (Option Join)
next_join_from ts = join_kind_from ts >>= λ a. join_by a.0 a.1

abbrev pub from_clause : Source × List Join → FromClause
from_clause x = record { first = x.0; joins = x.1 }

unfoldable pub sources_from : Reader FromClause
sources_from = made from_clause (both source_from (limited few_joins (many next_join_from)))

unfoldable pub groups_from : Reader (List Tree)
groups_from = choose w.Group (preceded w.By expressions_from) (yields [])

unfoldable pub direction_from : Reader Bool
direction_from = choose w.Desc (yields true) (choose w.Asc (yields false) (yields false))

abbrev pub term : Tree × Bool → OrderTerm
term x = record { expression = x.0; is_descending = x.1 }

unfoldable pub term_from : Reader OrderTerm
term_from = made term (both expression_from direction_from)

unfoldable pub order_from : Reader (List OrderTerm)
order_from = choose w.Order (preceded w.By (listed term_from)) (yields [])

abbrev pub limit : ℕ × Option ℕ → Limit
limit x = record { count = x.0; offset = x.1 }

unfoldable pub limit_from : Reader (Option Limit)
limit_from = maybe w.Limit (made limit (both integer_from (maybe w.Offset integer_from)))

unfoldable pub distinct_from : Reader Bool
distinct_from = choose w.Distinct (yields true) (yields false)

abbrev pub Front : Type 0
Front = Bool × List ResultItem

abbrev pub query : (((((Front × Option FromClause) × Option Tree) × List Tree) × List OrderTerm) × Option Limit) → Query
query x = record {
  is_distinct = x.0.0.0.0.0.0;
  results = x.0.0.0.0.0.1;
  from = x.0.0.0.0.1;
  condition = x.0.0.0.1;
  groups = x.0.0.1;
  order = x.0.1;
  limit = x.1;
}

-- what stands after SELECT
unfoldable pub selection_from : Reader Query
selection_from =
    made query (both (both (both (both (both (both distinct_from results_from) (maybe w.From sources_from)) (maybe_after_from w.Where)) groups_from) order_from) limit_from)

unfoldable pub query_from : Reader Query
query_from = preceded w.Select selection_from

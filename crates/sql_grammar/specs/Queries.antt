-- The grammar of queries: which pieces are which tree (SQL As Understood By SQLite, "SELECT").
use Rattle.std.specs.Prelude.{ℕ, Bool, true, false, Option, Some, None, List, [], ◌∷◌, ◌++◌}
use Rattle.sql_lexer.specs.declared.keyword.Keyword.TheVariants as w
use Rattle.sql_lexer.specs.declared.token.Kind.TheVariants as k
use Rattle.sql_syntax.specs.Tree.{Tree, trees}
use Rattle.sql_syntax.specs.declared.query.FromClause.{FromClause}
use Rattle.sql_syntax.specs.declared.query.Join.{Join}
use Rattle.sql_syntax.specs.declared.query.JoinKind.TheVariants as kinds
use Rattle.sql_syntax.specs.declared.query.Limit.{Limit}
use Rattle.sql_syntax.specs.declared.query.OrderTerm.{OrderTerm}
use Rattle.sql_syntax.specs.declared.query.Query.{Query}
use Rattle.sql_syntax.specs.declared.query.ResultItem.{ResultItem}
use Rattle.sql_syntax.specs.declared.query.ResultItem.TheVariants as item
use Rattle.sql_syntax.specs.declared.query.Source.{Source}
use Rattle.sql_expr.specs.Symbols.{Symbol, Name, word, mark}
use Rattle.sql_expr.specs.Grammar.{Items, IsExpression, IsName, Optional, Preceded}
use Rattle.sql_grammar.specs.Parts.{Said, Listed, Many}

-- a number
pub data IsInteger : List Symbol → ℕ → Type 0 where
  integer : {n : ℕ} → IsInteger (mark (k.Integer n) ∷ []) n

-- `*`, `*` of one source, or an expression with a name after AS
pub data IsResult : List Symbol → ResultItem → Type 0 where
  all : IsResult (mark k.Star ∷ []) item.All
  all_of : {c : List ℕ} → IsResult (Name c ∷ mark k.Dot ∷ mark k.Star ∷ []) (item.AllOf c)
  value : {es us : List Symbol} {e : Tree} {c : Option (List ℕ)} → IsExpression es e → Optional (Preceded (word w.As) IsName) us c → IsResult (es ++ us) (item.Of e c)

-- a name after AS, where AS may be left out
pub data IsAlias : List Symbol → List ℕ → Type 0 where
  alias : {c : List ℕ} → IsAlias (Name c ∷ []) c
  alias_as : {c : List ℕ} → IsAlias (word w.As ∷ Name c ∷ []) c

pub data IsSource : List Symbol → Source → Type 0 where
  source : {us : List Symbol} {t : List ℕ} {c : Option (List ℕ)} → Optional IsAlias us c → IsSource (Name t ∷ us) (record { name = t; alias = c })

pub data IsJoin : List Symbol → Join → Type 0 where
  comma : {ss : List Symbol} {s : Source} → IsSource ss s → IsJoin (mark k.Comma ∷ ss) (record { kind = kinds.Comma; source = s; condition = None })
  inner : {is ss es : List Symbol} {i : Bool} {s : Source} {e : Tree} → Said (word w.Inner) is i → IsSource ss s → IsExpression es e
      → IsJoin (is ++ word w.Join ∷ ss ++ word w.On ∷ es) (record { kind = kinds.Inner; source = s; condition = Some e })
  left : {os ss es : List Symbol} {o : Bool} {s : Source} {e : Tree} → Said (word w.Outer) os o → IsSource ss s → IsExpression es e
      → IsJoin (word w.Left ∷ os ++ word w.Join ∷ ss ++ word w.On ∷ es) (record { kind = kinds.Left; source = s; condition = Some e })

pub data IsFrom : List Symbol → FromClause → Type 0 where
  sources : {ss js : List Symbol} {s : Source} {joins : List Join} → IsSource ss s → Many IsJoin js joins
      → IsFrom (ss ++ js) (record { first = s; joins = joins })

-- the keys of GROUP BY, none where it isn't written
pub data IsGroups : List Symbol → List Tree → Type 0 where
  no_groups : IsGroups [] []
  groups : {es : List Symbol} {keys : List Tree} → Items es (trees keys) → IsGroups (word w.Group ∷ word w.By ∷ es) keys

-- whether DESC is written; ASC may be
pub data IsDirection : List Symbol → Bool → Type 0 where
  unsaid : IsDirection [] false
  ascending : IsDirection (word w.Asc ∷ []) false
  descending : IsDirection (word w.Desc ∷ []) true

pub data IsTerm : List Symbol → OrderTerm → Type 0 where
  term : {es ds : List Symbol} {e : Tree} {d : Bool} → IsExpression es e → IsDirection ds d → IsTerm (es ++ ds) (record { expression = e; is_descending = d })

-- the terms of ORDER BY, none where it isn't written
pub data IsOrder : List Symbol → List OrderTerm → Type 0 where
  no_order : IsOrder [] []
  order : {ts : List Symbol} {terms : List OrderTerm} → Listed IsTerm ts terms → IsOrder (word w.Order ∷ word w.By ∷ ts) terms

pub data IsLimit : List Symbol → Limit → Type 0 where
  limit : {ns os : List Symbol} {n : ℕ} {o : Option ℕ} → IsInteger ns n → Optional (Preceded (word w.Offset) IsInteger) os o
      → IsLimit (ns ++ os) (record { count = n; offset = o })

-- SELECT [DISTINCT] result {, result} [FROM source {join}] [WHERE expr] [GROUP BY expr {, expr}] [ORDER BY term {, term}]
-- [LIMIT integer [OFFSET integer]], without its first word
pub data IsSelection : List Symbol → Query → Type 0 where
  selection : {ds rs fs cs gs os ls : List Symbol} {d : Bool} {results : List ResultItem} {from : Option FromClause} {condition : Option Tree} {groups : List Tree}
      {order : List OrderTerm} {limit : Option Limit}
      → Said (word w.Distinct) ds d → Listed IsResult rs results → Optional (Preceded (word w.From) IsFrom) fs from
      → Optional (Preceded (word w.Where) IsExpression) cs condition → IsGroups gs groups → IsOrder os order → Optional (Preceded (word w.Limit) IsLimit) ls limit
      → IsSelection (ds ++ rs ++ fs ++ cs ++ gs ++ os ++ ls)
      (record { is_distinct = d; results = results; from = from; condition = condition; groups = groups; order = order; limit = limit })

-- a SELECT
abbrev pub IsQuery : List Symbol → Query → Type 0
IsQuery = Preceded (word w.Select) IsSelection

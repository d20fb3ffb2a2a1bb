-- The grammar of triggers: which pieces are which tree (SQL As Understood By SQLite, "CREATE TRIGGER").
use Rattle.std.specs.Prelude.{ℕ, Bool, true, false, ◌&&◌, Option, List, [], ◌∷◌, ◌++◌}
use Rattle.sql_lexer.specs.declared.keyword.Keyword.TheVariants as w
use Rattle.sql_lexer.specs.declared.token.Kind.TheVariants as k
use Rattle.sql_syntax.specs.Tree.{Tree}
use Rattle.sql_syntax.specs.declared.change.Change.{Change}
use Rattle.sql_syntax.specs.declared.create.TriggerDefinition.{TriggerDefinition}
use Rattle.sql_syntax.specs.declared.create.TriggerEvent.{TriggerEvent}
use Rattle.sql_syntax.specs.declared.create.TriggerEvent.TheVariants as event
use Rattle.sql_syntax.specs.declared.create.TriggerStatement.{TriggerStatement}
use Rattle.sql_syntax.specs.declared.create.TriggerStatement.TheVariants as program
use Rattle.sql_syntax.specs.declared.create.TriggerTime.{TriggerTime}
use Rattle.sql_syntax.specs.declared.create.TriggerTime.TheVariants as time
use Rattle.sql_syntax.specs.declared.query.Query.{Query}
use Rattle.sql_expr.specs.Grammar.{IsExpression, IsNames, Optional, Preceded}
use Rattle.sql_expr.specs.Limits.{is_shallow, if_given}
use Rattle.sql_expr.specs.Symbols.{Symbol, Name, word, mark}
use Rattle.sql_grammar.specs.Changes.{IsChange, is_change_within}
use Rattle.sql_grammar.specs.Queries.{IsSelection}
use Rattle.sql_grammar.specs.Within.{all_fit, is_selection_within}
use Rattle.sql_grammar.specs.Parts.{Before}

-- BEFORE, AFTER or INSTEAD OF
pub data IsTime : List Symbol → TriggerTime → Type 0 where
  before_row : IsTime (word w.Before ∷ []) time.Before
  after_row : IsTime (word w.After ∷ []) time.After
  instead_of_row : IsTime (word w.Instead ∷ word w.Of ∷ []) time.InsteadOf

-- INSERT, DELETE, or UPDATE [OF name {, name}]
pub data IsEvent : List Symbol → TriggerEvent → Type 0 where
  on_insert : IsEvent (word w.Insert ∷ []) event.Insert
  on_delete : IsEvent (word w.Delete ∷ []) event.Delete
  on_update : {ns : List Symbol} {names : Option (List (List ℕ))} → Optional (Preceded (word w.Of) IsNames) ns names → IsEvent (word w.Update ∷ ns) (event.Update names)

-- [FOR EACH ROW], and whether it is written
pub data IsEachRow : List Symbol → Bool → Type 0 where
  each_row_unsaid : IsEachRow [] false
  each_row : IsEachRow (word w.For ∷ word w.Each ∷ word w.Row ∷ []) true

-- a SELECT or a change
pub data IsProgram : List Symbol → TriggerStatement → Type 0 where
  selects : {qs : List Symbol} {q : Query} → IsSelection qs q → IsProgram (word w.Select ∷ qs) (program.Select q)
  changes : {cs : List Symbol} {c : Change} → IsChange cs c → IsProgram cs (program.Change c)

-- body ; {body ;} END
pub data IsBody : List Symbol → List TriggerStatement → Type 0 where
  last_program : {ps : List Symbol} {p : TriggerStatement} → Before (mark k.Semicolon) IsProgram ps p → IsBody (ps ++ word w.End ∷ []) (p ∷ [])
  next_program : {ps bs : List Symbol} {p : TriggerStatement} {body : List TriggerStatement} → Before (mark k.Semicolon) IsProgram ps p → IsBody bs body → IsBody (ps ++ bs) (p ∷ body)

-- name (BEFORE | AFTER | INSTEAD OF) event ON name [FOR EACH ROW] [WHEN expr] BEGIN body ; {body ;} END, after CREATE TRIGGER
pub data IsTrigger : List Symbol → TriggerDefinition → Type 0 where
  trigger : {ts es rs cs bs : List Symbol} {n t : List ℕ} {m : TriggerTime} {e : TriggerEvent} {r : Bool} {condition : Option Tree} {body : List TriggerStatement}
      → IsTime ts m → IsEvent es e → IsEachRow rs r → Optional (Preceded (word w.When) IsExpression) cs condition → IsBody bs body
      → IsTrigger (Name n ∷ ts ++ es ++ (word w.On ∷ Name t ∷ []) ++ rs ++ cs ++ (word w.Begin ∷ bs))
      (record { name = n; time = m; event = e; target = t; condition = condition; body = body })

-- statements within their limits
abbrev pub is_program_within : TriggerStatement → Bool
is_program_within (program.Select q) = is_selection_within q
is_program_within (program.Change c) = is_change_within c

-- an expression after WHEN of a depth of at most 100, and statements within the limits
abbrev pub is_trigger_within : TriggerDefinition → Bool
is_trigger_within t = if_given is_shallow t.condition && all_fit is_program_within t.body

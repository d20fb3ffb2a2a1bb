-- No object that CREATE makes ends with a semicolon.
use Rattle.std.proofs.Common.{◌≡◌, List, [], ◌∷◌, ◌++◌, refl, sym, subst, append_assoc}
use Rattle.sql_lexer.specs.declared.keyword.Keyword.TheVariants as w
use Rattle.sql_lexer.specs.declared.token.Kind.TheVariants as k
use Rattle.sql_syntax.specs.declared.create.IndexDefinition.{IndexDefinition}
use Rattle.sql_syntax.specs.declared.create.NewObject.{NewObject}
use Rattle.sql_syntax.specs.declared.create.TableDefinition.{TableDefinition}
use Rattle.sql_syntax.specs.declared.create.TriggerDefinition.{TriggerDefinition}
use Rattle.sql_syntax.specs.declared.create.TriggerStatement.{TriggerStatement}
use Rattle.sql_syntax.specs.declared.create.ViewDefinition.{ViewDefinition}
use Rattle.sql_syntax.specs.declared.query.Query.{Query}
use Rattle.sql_expr.specs.Grammar.{preceded}
use Rattle.sql_expr.specs.Symbols.{Symbol, Name, word, mark}
use Rattle.sql_grammar.specs.NewObjects as n
use Rattle.sql_grammar.specs.NewObjects.{IsObject}
use Rattle.sql_grammar.specs.Objects as o
use Rattle.sql_grammar.specs.Objects.{IsIndex, IsView}
use Rattle.sql_grammar.specs.Queries.{IsQuery}
use Rattle.sql_grammar.specs.Tables as t
use Rattle.sql_grammar.specs.Tables.{IsTable}
use Rattle.sql_grammar.specs.Triggers as g
use Rattle.sql_grammar.specs.Triggers.{IsTrigger, IsBody}
use Rattle.sql_parser.proofs.Quiet.{Quiet, ends_quiet, behind_quiet, before_quiet, quiet_selection}

quiet_query : (us : List Symbol) (q : Query) → IsQuery us q → Quiet us
quiet_query _ q (preceded {ts = ts} s) = behind_quiet (word w.Select) ts refl (quiet_selection ts q s)

quiet_table : (us : List Symbol) (x : TableDefinition) → IsTable us x → Quiet us
quiet_table _ _ (t.table {cs = cs} {rs = rs} {n = name} l m) =
    subst Quiet (append_assoc (Name name ∷ mark k.LeftParen ∷ cs) rs (mark k.RightParen ∷ [])) (ends_quiet ((Name name ∷ mark k.LeftParen ∷ cs) ++ rs) (mark k.RightParen) refl)

quiet_index : (us : List Symbol) (x : IndexDefinition) → IsIndex us x → Quiet us
quiet_index _ _ (o.index {us = us} {cs = cs} {n = name} {t = table} s l) =
    before_quiet (us ++ (word w.Index ∷ Name name ∷ []) ++ (word w.On ∷ Name table ∷ [])) (mark k.LeftParen) (cs ++ mark k.RightParen ∷ []) (ends_quiet (mark k.LeftParen ∷ cs) (mark k.RightParen) refl)

quiet_view : (us : List Symbol) (x : ViewDefinition) → IsView us x → Quiet us
quiet_view _ _ (o.view {ns = ns} {ss = ss} {n = name} {q = q} c s) = before_quiet (Name name ∷ ns) (word w.As) ss (behind_quiet (word w.As) ss refl (quiet_query ss q s))

-- a body has some piece, and doesn't end with a semicolon
record Ended (us : List Symbol) : Type 0 where
  first : Symbol
  rest : List Symbol
  parts : us ≡ first ∷ rest
  quiet : Quiet us

over_ended : (us vs : List Symbol) → Ended vs → Quiet (us ++ vs)
over_ended us vs e = subst (λ (ws : List Symbol). Quiet (us ++ ws)) (sym e.parts) (before_quiet us e.first e.rest (subst Quiet e.parts e.quiet))

ended_over : (us vs : List Symbol) → Ended vs → Ended (us ++ vs)
ended_over [] vs e = e
ended_over (p ∷ us) vs e = record { first = p; rest = us ++ vs; parts = refl; quiet = over_ended (p ∷ us) vs e }

ended_body : {us : List Symbol} {x : List TriggerStatement} → IsBody us x → Ended us
ended_body (g.last_program {ps = ps} p) = ended_over ps (word w.End ∷ []) (record { first = word w.End; rest = []; parts = refl; quiet = refl })
ended_body (g.next_program {ps = ps} {bs = bs} p b) = ended_over ps bs (ended_body b)

quiet_trigger : (us : List Symbol) (x : TriggerDefinition) → IsTrigger us x → Quiet us
quiet_trigger _ _ (g.trigger {ts = ts} {es = es} {rs = rs} {cs = cs} {bs = bs} {n = name} {t = target} m e r c b) =
    before_quiet (Name name ∷ ts ++ es ++ (word w.On ∷ Name target ∷ []) ++ rs ++ cs) (word w.Begin) bs (behind_quiet (word w.Begin) bs refl (ended_body b).quiet)

pub quiet_object : (us : List Symbol) (x : NewObject) → IsObject us x → Quiet us
quiet_object _ _ (n.makes_table {us = us} {t = x} d) = behind_quiet (word w.Table) us refl (quiet_table us x d)
quiet_object us _ (n.makes_index {i = x} d) = quiet_index us x d
quiet_object _ _ (n.makes_view {us = us} {v = x} d) = behind_quiet (word w.View) us refl (quiet_view us x d)
quiet_object _ _ (n.makes_trigger {us = us} {t = x} d) = behind_quiet (word w.Trigger) us refl (quiet_trigger us x d)

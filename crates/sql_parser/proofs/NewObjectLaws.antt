-- What CREATE makes is read exactly.
use Rattle.std.proofs.Common.{◌≡◌, false, None, List, ◌++◌, refl}
use Rattle.sql_lexer.specs.declared.keyword.Keyword.{Keyword}
use Rattle.sql_lexer.specs.declared.keyword.Keyword.TheVariants as w
use Rattle.sql_syntax.specs.declared.create.IndexDefinition.{IndexDefinition}
use Rattle.sql_syntax.specs.declared.create.NewObject.{NewObject}
use Rattle.sql_syntax.specs.declared.create.NewObject.TheVariants as object
use Rattle.sql_expr.specs.Symbols.{Symbol, same_word}
use Rattle.sql_expr.specs.Reading.{after_word}
use Rattle.sql_grammar.specs.Changes.{IsChange, is_change_within, EndsStatement}
use Rattle.sql_query.specs.ChangeReading.{change_from}
use Rattle.sql_grammar.specs.NewObjects as g
use Rattle.sql_grammar.specs.NewObjects.{IsObject, is_object_within}
use Rattle.sql_grammar.specs.Objects as o
use Rattle.sql_grammar.specs.Objects.{IsIndex, IsView, is_view_within}
use Rattle.sql_parser.specs.ObjectReading.{view_from, object_from}
use Rattle.sql_grammar.specs.Parts.{said, unsaid}
use Rattle.sql_grammar.specs.Queries.{IsSelection}
use Rattle.sql_query.specs.QueryReading.{selection_from}
use Rattle.sql_grammar.specs.Tables.{IsTable}
use Rattle.sql_grammar.specs.Triggers.{IsTrigger}
use Rattle.sql_grammar.specs.Within.{is_selection_within}
use Rattle.sql_grammar.proofs.Chosen.{Made, Or, this, other, exact_making, exact_or, renamed}
use Rattle.sql_grammar.proofs.Exact.{weaker}
use Rattle.sql_grammar.proofs.Law.{Law}
use Rattle.sql_create.proofs.IndexLaws.{exact_index}
use Rattle.sql_create.proofs.TableLaws.{exact_table}
use Rattle.sql_parser.proofs.TriggerLaws.{exact_trigger}

abbrev Table : List Symbol → NewObject → Type 0
Table = Made object.Table IsTable

abbrev View : List Symbol → NewObject → Type 0
View = Made object.View IsView

abbrev Trigger : List Symbol → NewObject → Type 0
Trigger = Made object.Trigger IsTrigger

abbrev Index : List Symbol → NewObject → Type 0
Index = Made object.Index IsIndex

abbrev Created : List Symbol → NewObject → Type 0
Created = Or w.Table Table (Or w.View View (Or w.Trigger Trigger Index))

index_lacks : (v : Keyword) → same_word w.Index v ≡ false → same_word w.Unique v ≡ false → (us : List Symbol) (i : IndexDefinition) (rest : List Symbol) → IsIndex us i → after_word v (us ++ rest) ≡ None
unfolding after_word
index_lacks v a b _ _ rest (o.index unsaid columns) = rw a refl
index_lacks v a b _ _ rest (o.index said columns) = rw b refl

not_trigger : (us : List Symbol) (x : NewObject) (rest : List Symbol) → Index us x → EndsStatement rest → after_word w.Trigger (us ++ rest) ≡ None
not_trigger us x rest (i, r, same) f = index_lacks w.Trigger refl refl us i rest r

not_view : (us : List Symbol) (x : NewObject) (rest : List Symbol) → Or w.Trigger Trigger Index us x → EndsStatement rest → after_word w.View (us ++ rest) ≡ None
unfolding after_word
not_view _ x rest (this r) f = refl
not_view us x rest (other (i, r, same)) f = index_lacks w.View refl refl us i rest r

not_table : (us : List Symbol) (x : NewObject) (rest : List Symbol) → Or w.View View (Or w.Trigger Trigger Index) us x → EndsStatement rest → after_word w.Table (us ++ rest) ≡ None
unfolding after_word
not_table _ x rest (this r) f = refl
not_table _ x rest (other (this r)) f = refl
not_table us x rest (other (other (i, r, same))) f = index_lacks w.Table refl refl us i rest r

object_forth : (us : List Symbol) (x : NewObject) → Created us x → IsObject us x
object_forth _ x (this (t, r, same)) = rw (← same) (g.makes_table r)
object_forth _ x (other (this (v, r, same))) = rw (← same) (g.makes_view r)
object_forth _ x (other (other (this (t, r, same)))) = rw (← same) (g.makes_trigger r)
object_forth us x (other (other (other (i, r, same)))) = rw (← same) (g.makes_index r)

object_back : (us : List Symbol) (x : NewObject) → IsObject us x → Created us x
object_back _ _ (g.makes_table {t = t} r) = this (t, r, refl)
object_back _ _ (g.makes_view {v = v} r) = other (this (v, r, refl))
object_back _ _ (g.makes_trigger {t = t} r) = other (other (this (t, r, refl)))
object_back _ _ (g.makes_index {i = i} r) = other (other (other (i, r, refl)))

module _ (S : Law selection_from IsSelection is_selection_within EndsStatement) (C : Law change_from IsChange is_change_within EndsStatement) (V : Law view_from IsView is_view_within EndsStatement) where
  pub exact_object : Law object_from IsObject is_object_within EndsStatement
  unfolding object_from
  exact_object =
      renamed (exact_or w.Table (exact_making (weaker EndsStatement (λ rest f. tt) exact_table) object.Table is_object_within (λ t. refl))
      (exact_or w.View (exact_making V object.View is_object_within (λ v. refl))
      (exact_or w.Trigger (exact_making (weaker EndsStatement (λ rest f. tt) (exact_trigger S C)) object.Trigger is_object_within (λ t. refl))
      (exact_making (weaker EndsStatement (λ rest f. tt) exact_index) object.Index is_object_within (λ i. refl)) not_trigger) not_view) not_table)
      IsObject object_forth object_back

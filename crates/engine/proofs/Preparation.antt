-- A text is one statement at most, so what was read is what can't be prepared.
use Rattle.std.proofs.Common.{◌≡◌, ◌⊎◌, ◌≤◌, inr, sym, ap, subst, ℕ, Bool, true, false, List, length, refl}
use Rattle.std.specs.Prelude.{IfErr, Option, Some, None, Result, Ok, Err}
use Rattle.sql_bound.specs.Bound.{bound_change, bound_query, bound_statement}
use Rattle.sqlval.specs.declared.value.Value.{Value}
use Rattle.sql_syntax.specs.declared.statement.Statement.TheVariants.{Create, Drop, Change, Select, Begin, Commit, Rollback, RollbackTo, Savepoint, Release, Checkpoint}
use Rattle.sql_grammar.specs.Statements.{is_statement_within}
use Rattle.sql_grammar.specs.Texts.{IsStatementText}
use Rattle.sql_parser.specs.Refusals.{IsTextRefusal}
use Rattle.sql_syntax.specs.declared.statement.Statement.{Statement}
use Rattle.sqlval.specs.declared.fault.Fault.{Fault}
use Rattle.sqlval.specs.declared.fault.Fault.TheVariants.{TooLong, Unsupported}
use Rattle.sqlval.specs.declared.fault.Feature.TheVariants.{StatementForm}
use Rattle.executor.specs.Forms.{KeepsItsText}
use Rattle.session.specs.Limits.{may_be_full}
use Rattle.engine.specs.Looking.{IsNoQuery, IsNoSelect}
use Rattle.engine.specs.Preparing.{TakesValues}

none_is : (b : Statement) → ◌≡◌ {A = Option Statement} None (Some b) → ⊥
none_is b e = cc

ok_is : (a b : Statement) → ◌≡◌ {A = Result Statement Fault} (Ok a) (Ok b) → a ≡ b
ok_is a b e = cc

module _ (text : List ℕ) (read : Statement) (short : length text ≤ 65536)
    (only : (s : Statement) → IsStatementText text s → is_statement_within s ≡ true → length text ≤ 65536 → ◌≡◌ {A = Result Statement Fault} (Ok s) (Ok read))
    (late : (s : Statement) → IsStatementText text s → is_statement_within s ≡ false → ◌≡◌ {A = Result Statement Fault} (Err TooLong) (Ok read)) where
  not_ok : ◌≡◌ {A = Result Statement Fault} (Err TooLong) (Ok read) → ⊥
  not_ok e = cc

  one_statement : (s : Statement) → IsStatementText text s → read ≡ s
  one_statement s is = by_within (is_statement_within s) refl
    where
      by_within : (within : Bool) → is_statement_within s ≡ within → read ≡ s
      by_within true e = sym (ok_is s read (only s is e short))
      by_within false e = absurd (not_ok (late s is e))

  pub not_prepared : {T : Type 0} (result : Result T Fault) → IfErr result (λ fault. (fault ≡ Unsupported StatementForm) × (TakesValues read → ⊥))
      → IfErr result (λ fault. IsTextRefusal text fault ⊎ ((fault ≡ Unsupported StatementForm) × ((s : Statement) → IsStatementText text s → TakesValues s → ⊥)))
  not_prepared (Ok x) refused = tt
  not_prepared (Err e) refused = inr (refused.0, λ s is takes. refused.1 (subst TakesValues (sym (one_statement s is)) takes))

  -- and a text that is read as something else is no query
  pub no_query : {T : Type 0} (result : Result T Fault) → IfErr result (λ fault. (fault ≡ Unsupported StatementForm) × IsNoSelect read) → IfErr result (IsNoQuery text)
  no_query (Ok x) refused = tt
  no_query (Err e) refused = inr (refused.0, λ query is. refused.1 query (one_statement (Select query) is))

-- ---- a statement with values

pub some_statement : (a b : Statement) → ◌≡◌ {A = Option Statement} (Some a) (Some b) → a ≡ b
some_statement a b e = cc

-- what has values in its places carries no text
pub bound_keeps : (values : List Value) (statement bound : Statement) → bound_statement values statement ≡ Some bound → KeepsItsText bound
bound_keeps values (Select query) bound is = subst KeepsItsText (some_statement (Select (bound_query values query)) bound is) tt
bound_keeps values (Change change) bound is = subst KeepsItsText (some_statement (Change (bound_change values change)) bound is) tt
bound_keeps values (Create x) bound is = absurd (none_is bound is)
bound_keeps values (Drop kind name) bound is = absurd (none_is bound is)
bound_keeps values (Begin mode) bound is = absurd (none_is bound is)
bound_keeps values Commit bound is = absurd (none_is bound is)
bound_keeps values Rollback bound is = absurd (none_is bound is)
bound_keeps values (RollbackTo name) bound is = absurd (none_is bound is)
bound_keeps values (Savepoint name) bound is = absurd (none_is bound is)
bound_keeps values (Release name) bound is = absurd (none_is bound is)
bound_keeps values (Checkpoint mode) bound is = absurd (none_is bound is)

-- and may make the database larger where the statement may
pub bound_full : (values : List Value) (statement bound : Statement) → bound_statement values statement ≡ Some bound → may_be_full bound ≡ may_be_full statement
bound_full values (Select query) bound is = sym (ap may_be_full (some_statement (Select (bound_query values query)) bound is))
bound_full values (Change change) bound is = sym (ap may_be_full (some_statement (Change (bound_change values change)) bound is))
bound_full values (Create x) bound is = absurd (none_is bound is)
bound_full values (Drop kind name) bound is = absurd (none_is bound is)
bound_full values (Begin mode) bound is = absurd (none_is bound is)
bound_full values Commit bound is = absurd (none_is bound is)
bound_full values Rollback bound is = absurd (none_is bound is)
bound_full values (RollbackTo name) bound is = absurd (none_is bound is)
bound_full values (Savepoint name) bound is = absurd (none_is bound is)
bound_full values (Release name) bound is = absurd (none_is bound is)
bound_full values (Checkpoint mode) bound is = absurd (none_is bound is)

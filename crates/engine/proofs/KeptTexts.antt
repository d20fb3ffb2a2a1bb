-- A CREATE that was read keeps a text of itself.
use Rattle.std.proofs.Common.{◌≡◌, ◌≤◌, ◌-◌, refl, ap, sym, ℕ, true, List, [], ◌∷◌, length, take, drop, arith, length-take, length-drop}
use Rattle.sql_lexer.specs.Lex.{Lexed}
use Rattle.sql_syntax.specs.declared.create.Create.{Create}
use Rattle.sql_syntax.specs.declared.statement.Statement.{Statement}
use Rattle.sql_syntax.specs.declared.statement.Statement.TheVariants as statement
use Rattle.sql_expr.specs.Symbols.{Symbol}
use Rattle.sql_grammar.specs.Statements as s
use Rattle.sql_grammar.specs.Statements.{IsStatement, IsText, is_statement_within}
use Rattle.sql_grammar.specs.Texts.{IsStatementText, body_end, sql_in}
use Rattle.sql_parser.proofs.KeptText.{kept_text}
use Rattle.executor.specs.Forms.{KeepsItsText}

kept_is : (sql : List ℕ) (us : List Symbol) (c : Create) (x : Statement) → IsStatement sql us x → x ≡ statement.Create c → c.sql ≡ sql
kept_is sql _ c _ (s.create {us = us} {o = o} d) e = sym (ap (λ (c : Create). c.sql) (same_create (record { sql = sql; object = o }) c e))
  where
    same_create : (a b : Create) → statement.Create a ≡ statement.Create b → a ≡ b
    same_create a b h = cc
kept_is sql _ c _ (s.drop d) e = absurd cc
kept_is sql _ c _ (s.change d) e = absurd cc
kept_is sql _ c _ (s.select d) e = absurd cc
kept_is sql _ c _ (s.begin d t) e = absurd cc
kept_is sql _ c _ (s.commit t) e = absurd cc
kept_is sql _ c _ (s.rollback t) e = absurd cc
kept_is sql _ c _ (s.rollback_to t u) e = absurd cc
kept_is sql _ c _ s.savepoint e = absurd cc
kept_is sql _ c _ (s.release t) e = absurd cc
kept_is sql _ c _ (s.checkpoint p m) e = absurd cc

text_is : (sql : List ℕ) (ps : List Symbol) (c : Create) (x : Statement) → IsText sql ps x → x ≡ statement.Create c → c.sql ≡ sql
text_is sql _ c x (s.text {us = us} made closing) e = kept_is sql us c x made e

cut_short : (n k : ℕ) (z : List ℕ) → length (take n (drop k z)) ≤ length z
cut_short n k z = omega (arith, length-take n (drop k z), length-drop k z)

part_short : (z : List ℕ) (ts : List Lexed) → length (sql_in z ts) ≤ length z
part_short z [] = omega arith
part_short z (t ∷ ts) = cut_short (body_end t.start (t ∷ ts) - t.start) t.start z

pub keeps_text : (z : List ℕ) (x : Statement) → IsStatementText z x → is_statement_within x ≡ true → length z ≤ 65536 → KeepsItsText x
keeps_text z (statement.Create c) is within short = record {
  sql = c.sql;
  is = kept_text z c is;
  within = within;
  short = omega (arith, ap length (text_is (sql_in z is.tokens) _ c (statement.Create c) is.at refl), part_short z is.tokens, short);
}
keeps_text z (statement.Drop k n) is within short = tt
keeps_text z (statement.Change c) is within short = tt
keeps_text z (statement.Select q) is within short = tt
keeps_text z (statement.Begin mode) is within short = tt
keeps_text z statement.Commit is within short = tt
keeps_text z statement.Rollback is within short = tt
keeps_text z (statement.RollbackTo n) is within short = tt
keeps_text z (statement.Savepoint n) is within short = tt
keeps_text z (statement.Release n) is within short = tt
keeps_text z (statement.Checkpoint mode) is within short = tt

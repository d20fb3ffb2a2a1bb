-- The text that a CREATE keeps is that CREATE.
use Rattle.std.proofs.Common.{◌≡◌, false, List, ℕ, [], ◌∷◌, ◌++◌, refl, sym, ap, subst, ◌∙◌}
use Rattle.std.proofs.lemmas.List.{append-nil}
use Rattle.sql_lexer.specs.declared.keyword.Keyword.TheVariants as w
use Rattle.sql_lexer.specs.declared.token.Kind.TheVariants as k
use Rattle.sql_lexer.specs.Cut.{Cuts}
use Rattle.sql_lexer.specs.Lex.{Lexed}
use Rattle.sql_syntax.specs.declared.create.Create.{Create}
use Rattle.sql_syntax.specs.declared.statement.Statement.{Statement}
use Rattle.sql_syntax.specs.declared.statement.Statement.TheVariants as statement
use Rattle.sql_expr.specs.Symbols.{Symbol, word, mark}
use Rattle.sql_grammar.specs.NewObjects.{IsObject}
use Rattle.sql_grammar.specs.Parts.{said, unsaid}
use Rattle.sql_grammar.specs.Statements as s
use Rattle.sql_grammar.specs.Statements.{IsStatement, IsText}
use Rattle.sql_grammar.specs.Texts.{IsStatementText, pieces_of, sql_in}
use Rattle.sql_parser.proofs.Quiet.{Quiet, behind_quiet}
use Rattle.sql_parser.proofs.QuietObjects.{quiet_object}
use Rattle.sql_parser.proofs.Kept.{Keeps, open_keeps, closed_keeps}

-- an object after CREATE and its text
record Makes (sql : List ℕ) (us : List Symbol) (c : Create) : Type 0 where
  symbols : List Symbol
  parts : us ≡ word w.Create ∷ symbols
  object : IsObject symbols c.object
  kept : c.sql ≡ sql

makes : (sql : List ℕ) (us : List Symbol) (c : Create) (x : Statement) → IsStatement sql us x → x ≡ statement.Create c → Makes sql us c
makes sql _ c _ (s.create {us = us} {o = o} d) e =
    let same : record { sql = sql; object = o } ≡ c = cc in
    subst (λ (c : Create). Makes sql (word w.Create ∷ us) c) same (record { symbols = us; parts = refl; object = d; kept = refl })
makes sql _ c _ (s.drop d) e = absurd cc
makes sql _ c _ (s.change d) e = absurd cc
makes sql _ c _ (s.select d) e = absurd cc
makes sql _ c _ (s.begin d t) e = absurd cc
makes sql _ c _ (s.commit t) e = absurd cc
makes sql _ c _ (s.rollback t) e = absurd cc
makes sql _ c _ (s.rollback_to t u) e = absurd cc
makes sql _ c _ s.savepoint e = absurd cc
makes sql _ c _ (s.release t) e = absurd cc
makes sql _ c _ (s.checkpoint p m) e = absurd cc

-- the text of the tokens is the statement again
again : (sql : List ℕ) (ps : List Symbol) (c : Create) → Makes sql ps c → Keeps sql ps → IsStatementText c.sql (statement.Create c)
again sql ps c m k =
    let own : sql_in sql k.tokens ≡ c.sql = k.whole ∙ sym m.kept in
    let made : IsStatement c.sql ps (statement.Create c) = subst (λ (us : List Symbol). IsStatement c.sql us (statement.Create c)) (sym m.parts) (s.create m.object) in
    let all : IsText c.sql ps (statement.Create c) = subst (λ (us : List Symbol). IsText c.sql us (statement.Create c)) (append-nil ps) (s.text made unsaid) in
    let here : IsText (sql_in sql k.tokens) (pieces_of k.tokens) (statement.Create c) =
    subst (λ (z : List ℕ). IsText z (pieces_of k.tokens) (statement.Create c)) (sym own) (subst (λ (us : List Symbol). IsText c.sql us (statement.Create c)) (sym k.means) all) in
    subst (λ (z : List ℕ). IsStatementText z (statement.Create c)) (sym m.kept) (record { tokens = k.tokens; cut = k.cuts; at = here })

kept_by : (z : List ℕ) (ts : List Lexed) (ps : List Symbol) (c : Create) (x : Statement) → Cuts 0 false z ts → IsText (sql_in z ts) ps x → pieces_of ts ≡ ps → x ≡ statement.Create c → IsStatementText c.sql (statement.Create c)
kept_by z ts _ c x d (s.text {us = us} made unsaid) e is =
    let m = makes (sql_in z ts) us c x made is in
    let quiet : Quiet (word w.Create ∷ m.symbols) = behind_quiet (word w.Create) m.symbols refl (quiet_object m.symbols c.object m.object) in
    let here : pieces_of ts ≡ word w.Create ∷ m.symbols = e ∙ append-nil us ∙ m.parts in
    again (sql_in z ts) us c m (subst (Keeps (sql_in z ts)) (sym m.parts) (open_keeps z ts (word w.Create) m.symbols d here quiet))
kept_by z ts _ c x d (s.text {us = us} made said) e is =
    let m = makes (sql_in z ts) us c x made is in
    let quiet : Quiet (word w.Create ∷ m.symbols) = behind_quiet (word w.Create) m.symbols refl (quiet_object m.symbols c.object m.object) in
    let here : pieces_of ts ≡ word w.Create ∷ m.symbols ++ mark k.Semicolon ∷ [] = e ∙ ap (λ (vs : List Symbol). vs ++ mark k.Semicolon ∷ []) m.parts in
    again (sql_in z ts) us c m (subst (Keeps (sql_in z ts)) (sym m.parts) (closed_keeps z ts (word w.Create) m.symbols d here quiet))

pub kept_text : (z : List ℕ) (c : Create) → IsStatementText z (statement.Create c) → IsStatementText c.sql (statement.Create c)
kept_text z c x = kept_by z x.tokens (pieces_of x.tokens) c (statement.Create c) x.cut x.at refl refl

-- Texts are parsed exactly.
use Rattle.std.proofs.Common.{◌≡◌, ℕ, ◌<◌, ◌≤◌, nat_lt, Bool, true, false, List, length, Result, Ok, Err, refl, sym, ap, subst, ◌∙◌, arith, inl, inr}
use Rattle.std.specs.Prelude.{IfOk}
use Rattle.std.proofs.lemmas.Bool.{cases_lt}
use Rattle.std.proofs.lemmas.Bool.Decides.{nat_tests}
use Rattle.sqlval.specs.Gives.{Gives, Refuses}
use Rattle.sqlval.specs.declared.fault.Fault.{Fault}
use Rattle.sqlval.specs.declared.fault.Fault.TheVariants as fault
use Rattle.sqlval.specs.declared.fault.Feature.TheVariants as feature
use Rattle.sql_lexer.specs.Lex.{Lexed, tokens}
use Rattle.sql_lexer.specs.Spans.{IsLexingFault}
use Rattle.sql_lexer.proofs.Sound.{cuts}
use Rattle.sql_lexer.proofs.Whole.{again, one_way}
use Rattle.sql_syntax.specs.declared.statement.Statement.{Statement}
use Rattle.sql_expr.specs.declared.refusal.Refusal.{Refusal}
use Rattle.sql_expr.specs.declared.refusal.Refusal.TheVariants.{Memory, Syntax, TooLong, Unsupported}
use Rattle.sql_grammar.specs.Changes.{EndsStatement}
use Rattle.sql_parser.specs.Parsing.{answered, parsed_by}
use Rattle.sql_parser.specs.Refusals.{IsParsingFault, IsTextRefusal}
use Rattle.sql_parser.specs.StatementReading.{statement_from, whole_from}
use Rattle.sql_grammar.specs.Statements.{IsStatement, IsText, IsUnsupported, is_statement_within}
use Rattle.sql_grammar.specs.Texts.{IsStatementText, IsUnsupportedText, pieces_of, sql_in}
use Rattle.sql_grammar.proofs.Law.{Law}
use Rattle.sql_parser.proofs.WholeLaws.{kept, whole_reads, whole_found, whole_only, whole_late, one_statement, whole_unserved, whole_refused}

-- ---- tokens

long_text : (z : List ℕ) → 65536 < length z → tokens z ≡ Err fault.TooLong
unfolding tokens
long_text z lt = let e : nat_lt 65536 (length z) ≡ true = grind (arith, nat_tests) in rw e refl

token_list : (z : List ℕ) (ts : List Lexed) → tokens z ≡ Ok ts → length z ≤ 65536
token_list z ts e = elim (cases_lt 65536 (length z)) [ inl lt ↦ absurd (let no = long_text z lt in cc) | inr le ↦ le ]

-- ---- what a text gives

reads_as : (z : List ℕ) (ts : List Lexed) (r : Result Statement Refusal) → tokens z ≡ Ok ts → whole_from (sql_in z ts) (pieces_of ts) ≡ r → parsed_by z (tokens z) ≡ answered (length z) ts r
reads_as z ts r e h = rw (e, h) refl

-- a text that is answered or refused as by its tokens
record Answered (z : List ℕ) (r : Result Statement Refusal) : Type 0 where
  ts : List Lexed
  cut : tokens z ≡ Ok ts
  whole : whole_from (sql_in z ts) (pieces_of ts) ≡ r

answer_ok : (total : ℕ) (ts : List Lexed) (r : Result Statement Refusal) (s : Statement) → answered total ts r ≡ Ok s → r ≡ Ok s
answer_ok total ts (Ok a) s h = cc
answer_ok total ts (Err e) s h = absurd cc

answer_unserved : (total : ℕ) (ts : List Lexed) (r : Result Statement Refusal) → answered total ts r ≡ Err (fault.Unsupported feature.Statement) → r ≡ Err Unsupported
answer_unserved total ts (Ok a) h = absurd cc
answer_unserved total ts (Err Memory) h = absurd cc
answer_unserved total ts (Err (Syntax n)) h = absurd cc
answer_unserved total ts (Err TooLong) h = absurd cc
answer_unserved total ts (Err Unsupported) h = refl

text_answered : (z : List ℕ) (s : Statement) → parsed_by z (tokens z) ≡ Ok s → Answered z (Ok s)
text_answered z s h = by_tokens (tokens z) refl h
  where
    by_tokens : (t : Result (List Lexed) Fault) → tokens z ≡ t → parsed_by z t ≡ Ok s → Answered z (Ok s)
    by_tokens (Ok ts) e h = record { ts = ts; cut = e; whole = answer_ok (length z) ts (whole_from (sql_in z ts) (pieces_of ts)) s h }
    by_tokens (Err f) e h = absurd cc

given_ok : (r : Result Statement Fault) (a b : Result Statement Fault) → a ≡ b → Gives (λ s. s) r a → Gives (λ s. s) r b
given_ok r a b e h = subst (λ (x : Result Statement Fault). Gives (λ s. s) r x) e h

-- a text whose tokens are refused isn't refused as one that isn't supported
pub refused_first : (z : List ℕ) (f : Fault) → IsLexingFault (length z) f → IsTextRefusal z f
refused_first z fault.Memory h = tt
refused_first z (fault.Syntax at) h = omega (arith, h)
refused_first z fault.RealRefused h = tt
refused_first z fault.TooLong h = tt
refused_first z _ h = absurd h

pub refused_behind : (z : List ℕ) (ts : List Lexed) (f : Fault) → tokens z ≡ Ok ts → Refuses f (parsed_by z (tokens z)) → IsParsingFault (length z) f → IsTextRefusal z f
refused_behind z ts (fault.Unsupported feature.Statement) e h w =
    let read : answered (length z) ts (whole_from (sql_in z ts) (pieces_of ts)) ≡ Err (fault.Unsupported feature.Statement) = ap (parsed_by z) (sym e) ∙ h in
    let u = whole_refused (sql_in z ts) (pieces_of ts) (answer_unserved (length z) ts (whole_from (sql_in z ts) (pieces_of ts)) read) in
    record { tokens = ts; cut = cuts z ts (token_list z ts e) e; at = u }
refused_behind z ts f e h w = w

module _ (law : (sql : List ℕ) → Law (statement_from sql) (IsStatement sql) is_statement_within EndsStatement) (z : List ℕ) where
  pub one_text : (a b : Statement) → IsStatementText z a → IsStatementText z b → a ≡ b
  one_text a b x y =
      let same : y.tokens ≡ x.tokens = one_way z y.tokens x.tokens y.cut x.cut in
      one_statement law (sql_in z x.tokens) (pieces_of x.tokens) a b x.at (subst (λ (ts : List Lexed). IsText (sql_in z ts) (pieces_of ts) b) same y.at)

  never_kept : (s : Statement) (b : Bool) → kept s b ≡ Err Unsupported → ⊥
  never_kept s true h = absurd cc
  never_kept s false h = absurd cc

  pub never_unserved : (s : Statement) → IsStatementText z s → IsUnsupportedText z → ⊥
  never_unserved s x y =
      let same : y.tokens ≡ x.tokens = one_way z y.tokens x.tokens y.cut x.cut in
      let u : IsUnsupported (pieces_of x.tokens) = subst (λ (ts : List Lexed). IsUnsupported (pieces_of ts)) same y.at in
      never_kept s (is_statement_within s) (sym (whole_reads law (sql_in z x.tokens) (pieces_of x.tokens) s x.at) ∙ whole_unserved (sql_in z x.tokens) (pieces_of x.tokens) u)

  text_found : (s : Statement) → parsed_by z (tokens z) ≡ Ok s → IsStatementText z s × (is_statement_within s ≡ true) × (length z ≤ 65536)
  text_found s h =
      let a = text_answered z s h in
      let f = whole_found law (sql_in z a.ts) (pieces_of a.ts) s a.whole in
      (record { tokens = a.ts; cut = cuts z a.ts (token_list z a.ts a.cut) a.cut; at = f.0 }, f.1, token_list z a.ts a.cut)

  text_only : (s : Statement) → IsStatementText z s → is_statement_within s ≡ true → length z ≤ 65536 → parsed_by z (tokens z) ≡ Ok s
  text_only s x t le = reads_as z x.tokens (Ok s) (again z x.tokens le x.cut) (whole_only law (sql_in z x.tokens) (pieces_of x.tokens) s x.at t)

  text_late : (s : Statement) → IsStatementText z s → is_statement_within s ≡ false → parsed_by z (tokens z) ≡ Err fault.TooLong
  text_late s x t = elim (cases_lt 65536 (length z)) [
    | inl lt ↦ ap (parsed_by z) (long_text z lt)
    | inr le ↦ reads_as z x.tokens (Err TooLong) (again z x.tokens le x.cut) (whole_late law (sql_in z x.tokens) (pieces_of x.tokens) s x.at t)
  ]

  text_unserved : IsUnsupportedText z → length z ≤ 65536 → parsed_by z (tokens z) ≡ Err (fault.Unsupported feature.Statement)
  text_unserved x le = reads_as z x.tokens (Err Unsupported) (again z x.tokens le x.cut) (whole_unserved (sql_in z x.tokens) (pieces_of x.tokens) x.at)

  pub found : (r : Result Statement Fault) → Gives (λ s. s) r (parsed_by z (tokens z)) → IfOk r (λ s. IsStatementText z s × (is_statement_within s ≡ true) × (length z ≤ 65536))
  found (Ok s) h = text_found s h
  found (Err f) h = tt

  pub only : (r : Result Statement Fault) → Gives (λ s. s) r (parsed_by z (tokens z)) → (s : Statement) → IsStatementText z s → is_statement_within s ≡ true → length z ≤ 65536 → Gives (λ s. s) r (Ok s)
  only r h s x t le = given_ok r (parsed_by z (tokens z)) (Ok s) (text_only s x t le) h

  pub late : (r : Result Statement Fault) → Gives (λ s. s) r (parsed_by z (tokens z)) → (s : Statement) → IsStatementText z s → is_statement_within s ≡ false → Gives (λ s. s) r (Err fault.TooLong)
  late r h s x t = given_ok r (parsed_by z (tokens z)) (Err fault.TooLong) (text_late s x t) h

  pub unsupported : (r : Result Statement Fault) → Gives (λ s. s) r (parsed_by z (tokens z)) → IsUnsupportedText z → length z ≤ 65536 → Gives (λ s. s) r (Err (fault.Unsupported feature.Statement))
  unsupported r h x le = given_ok r (parsed_by z (tokens z)) (Err (fault.Unsupported feature.Statement)) (text_unserved x le) h

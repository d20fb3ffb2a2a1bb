-- A statement's text is a step.
use Rattle.std.proofs.Common.{◌≡◌, ◌≤◌, ◌⊎◌, inl, inr, refl, sym, ap, subst, ◌∙◌, ℕ, Bool, true, false, List, length, Some, Result, Ok, Err, ◌==◌, ◌||◌, arith}
use Rattle.std.specs.Prelude.{⊤, nat_lt}
use Rattle.std.proofs.lemmas.Bool.Decides.{nat_tests}
use Rattle.disk.specs.declared.device.Disk.{Ghosts}
use Rattle.sqlval.specs.Gives.{Refuses}
use Rattle.sqlval.specs.Refusals.{refusal_of}
use Rattle.sqlval.specs.declared.fault.Fault.{Fault}
use Rattle.sqlval.specs.declared.fault.Fault.TheVariants as fault
use Rattle.sqlval.specs.declared.fault.Feature.TheVariants as feature
use Rattle.sqlval.specs.declared.fault.Misuse.TheVariants as misuse
use Rattle.sql_lexer.specs.Lex.{Lexed, tokens}
use Rattle.sql_syntax.specs.declared.statement.Statement.{Statement}
use Rattle.sql_expr.specs.declared.refusal.Refusal.{Refusal}
use Rattle.sql_expr.specs.declared.refusal.Refusal.TheVariants as reading
use Rattle.sql_parser.proofs.Grammar.{exact_statement}
use Rattle.sql_parser.proofs.ParseLaws.{one_text}
use Rattle.sql_parser.specs.Parsing.{answered, parsed_by}
use Rattle.sql_parser.specs.StatementReading.{whole_from}
use Rattle.sql_parser.specs.Refusals.{IsTextRefusal}
use Rattle.sql_grammar.specs.Statements.{is_statement_within}
use Rattle.sql_grammar.specs.Texts.{IsStatementText, IsUnsupportedText, pieces_of, sql_in}
use Rattle.session.specs.TooLong.{StepOrTooLong}
use Rattle.session.specs.ConnectionState.{files_of, first_refusal}
use Rattle.session.specs.Machine.{Machine, Reply, Refused}
use Rattle.executor.specs.Forms.{KeepsItsText}
use Rattle.session.specs.Representation.{CopiesAnswered, Steps, others_in}
use Rattle.session.specs.Steps.{is_connection}
use Rattle.session.specs.Texts.{IsCandidate, IsTextFault, StepByText, is_long}
use Rattle.session.specs.declared.transactions.Connections.{Connections}
use Rattle.session.proofs.Executing.{either, first_by, no_connection, not_both, one_fault, passes_by, refused_copies, served_for}
use Rattle.session.proofs.Settled.{as_shown, not_longer}
use Rattle.engine.specs.EngineState.{has_failed_of}
use Rattle.engine.specs.Language.{grammar, token_refusal}
use Rattle.engine.specs.Representation.{EngineRepresents, StepsByText, StepsByTextTo, files_in}
use Rattle.engine.specs.declared.opening.Engine.{Engine}
use Rattle.engine.proofs.KeptTexts.{keeps_text}

-- ---- what reading a text says of it

abbrev Read : Type 0
Read = Result Statement Fault

abbrev unsupported : Read
unsupported = Err (fault.Unsupported feature.Statement)

refused_or : (f : Fault) (given : Read) → Refuses f given → (f ≡ fault.Memory) ⊎ (given ≡ Err f)
refused_or fault.Memory given h = inl refl
refused_or f given h = inr h

long_tokens : (text : List ℕ) → is_long text ≡ true → tokens text ≡ Err fault.TooLong
unfolding tokens
long_tokens text is = rw is refl

short_text : (text : List ℕ) → is_long text ≡ false → length text ≤ 65536
short_text text is = grind (arith, nat_tests)

same_fault : (a b : Fault) (left : Read) → left ≡ Err a → left ≡ Err b → b ≡ a
same_fault a b left p q = cc

one_or_other : (f : Fault) (s : Statement) (read : Read) → read ≡ Err f → read ≡ Ok s → ⊥
one_or_other f s read p q = absurd cc

two_faults : (place : ℕ) → unsupported ≡ Err (fault.Syntax place) → ⊥
two_faults place is = absurd cc

late_fault : unsupported ≡ Err fault.TooLong → ⊥
late_fault is = absurd cc

-- tokens that are none of a statement aren't refused as a real
never_real : (total : ℕ) (ts : List Lexed) (r : Result Statement Refusal) → answered total ts r ≡ Err fault.RealRefused → ⊥
never_real total ts (Ok s) is = absurd cc
never_real total ts (Err reading.Memory) is = absurd cc
never_real total ts (Err (reading.Syntax left)) is = absurd cc
never_real total ts (Err reading.TooLong) is = absurd cc
never_real total ts (Err reading.Unsupported) is = absurd cc

module _ (text : List ℕ) where
  abbrev read : Read
  read = parsed_by text (tokens text)

  candidate : (ts : List Lexed) → is_long text ≡ false → tokens text ≡ Ok ts → (IsUnsupportedText text → ⊥) → IsCandidate grammar text
  candidate ts short cut served = (short, ap token_refusal cut, served)

  -- a text whose tokens stand, by its refusal
  behind : (f : Fault) (ts : List Lexed) → is_long text ≡ false → tokens text ≡ Ok ts → read ≡ Err f → IsTextRefusal text f → (IsUnsupportedText text → length text ≤ 65536 → Refuses f unsupported)
      → (f ≡ fault.Memory) ⊎ IsTextFault grammar text (refusal_of f)
  behind fault.Memory ts short cut is why other = inl refl
  behind (fault.Syntax place) ts short cut is why other =
      inr (inr (inr (inr (inl (candidate ts short cut (λ x. two_faults place (other x (short_text text short))), (place, is, refl))))))
  behind fault.TooLong ts short cut is why other =
      inr (inr (inr (inr (inr (inl (candidate ts short cut (λ x. late_fault (other x (short_text text short))), is, refl))))))
  behind (fault.Unsupported feature.Statement) ts short cut is why other = inr (inr (inr (inl (short, ap token_refusal cut, why, refl))))
  behind fault.RealRefused ts short cut is why other =
      absurd (never_real (length text) ts (whole_from (sql_in text ts) (pieces_of ts)) (ap (parsed_by text) (sym cut) ∙ is))
  behind f ts short cut is why other = absurd why

  -- why a text is refused
  pub text_fault : (f : Fault) → Refuses f read → IsTextRefusal text f → (IsUnsupportedText text → length text ≤ 65536 → Refuses f unsupported)
      → (f ≡ fault.Memory) ⊎ IsTextFault grammar text (refusal_of f)
  text_fault f given why other = by_memory (refused_or f read given)
    where
      by_tokens : (t : Result (List Lexed) Fault) → tokens text ≡ t → is_long text ≡ false → read ≡ Err f → (f ≡ fault.Memory) ⊎ IsTextFault grammar text (refusal_of f)
      by_tokens (Ok ts) cut short is = behind f ts short cut is why other
      by_tokens (Err e) cut short is =
          let same : f ≡ e = same_fault e f read (ap (parsed_by text) cut) is in
          inr (inr (inl (short, ap token_refusal cut ∙ ap (λ (x : Fault). Some (refusal_of x)) (sym same))))

      by_length : (long : Bool) → is_long text ≡ long → read ≡ Err f → (f ≡ fault.Memory) ⊎ IsTextFault grammar text (refusal_of f)
      by_length true long is =
          let same : f ≡ fault.TooLong = same_fault fault.TooLong f read (ap (parsed_by text) (long_tokens text long)) is in
          inr (inl (long, ap refusal_of same))
      by_length false short is = by_tokens (tokens text) refl short is

      by_memory : (f ≡ fault.Memory) ⊎ (read ≡ Err f) → (f ≡ fault.Memory) ⊎ IsTextFault grammar text (refusal_of f)
      by_memory (inl memory) = inl memory
      by_memory (inr is) = by_length (is_long text) refl is

  -- what a text is that is read as a statement
  pub read_candidate : (s : Statement) → read ≡ Ok s → (IsUnsupportedText text → length text ≤ 65536 → unsupported ≡ Ok s) → IsCandidate grammar text
  read_candidate s is other = by_length (is_long text) refl
    where
      by_tokens : (t : Result (List Lexed) Fault) → tokens text ≡ t → is_long text ≡ false → IsCandidate grammar text
      by_tokens (Ok ts) cut short = candidate ts short cut (λ x. one_or_other (fault.Unsupported feature.Statement) s unsupported refl (other x (short_text text short)))
      by_tokens (Err e) cut short = absurd (one_or_other e s read (ap (parsed_by text) cut) is)

      by_length : (long : Bool) → is_long text ≡ long → IsCandidate grammar text
      by_length true long = absurd (one_or_other fault.TooLong s read (ap (parsed_by text) (long_tokens text long)) is)
      by_length false short = by_tokens (tokens text) refl short

-- ---- steps

abbrev done : Result ⊤ Fault
done = Ok tt

module _ {D : Type 0} {g : Ghosts D} (e : Engine D g) (n : ℕ) (text : List ℕ) where
  abbrev Step : Machine → Reply → Machine → Type 0
  Step m reply next = StepByText (λ before c s answer after. StepOrTooLong before c s answer after) grammar m n text reply next

  stays : (m : Machine) (f : Fault) → EngineRepresents e m → Step m (Refused (refusal_of f)) m → StepsByTextTo e m n text (Refused (refusal_of f)) e
  stays m f shows step = record { next = m; step = step; shown = shows; crash = as_shown e.connections m shows; copied = λ s is. refused_copies (others_in e.connections n) (files_in e) (files_in e) s (Refused (refusal_of f)) (refusal_of f) refl; renewed = λ more. not_longer m.history more }

  -- refused before the text is looked at
  pub refused_check : (f : Fault) → first_refusal (has_failed_of e) n ≡ Err f → StepsByText e n text (Refused (refusal_of f)) e
  refused_check f is m (inl h) =
      let same : fault.Failed ≡ f = one_fault fault.Failed f (ap (λ b. first_refusal b n) (sym h.0) ∙ is) in
      subst (λ (x : Fault). StepsByTextTo e m n text (Refused (refusal_of x)) e) same (stays m fault.Failed (inl h) (inl (h.1, refl, refl)))
  refused_check f is m (inr shown) = either (n == 0 || nat_lt 16 n)
      (λ bad. subst (λ (x : Fault). StepsByTextTo e m n text (Refused (refusal_of x)) e) (one_fault (fault.Misuse misuse.Connection) f (sym (first_by n bad) ∙ whole))
      (stays m (fault.Misuse misuse.Connection) (inr shown) (inr (inl (shown.running, no_connection n bad, refl, refl)))))
      (λ good. absurd (not_both f (sym (passes_by n good) ∙ whole)))
    where
      whole : first_refusal false n ≡ Err f
      whole = ap (λ b. first_refusal b n) (sym shown.whole) ∙ is

  -- refused for the text, or when out of memory
  pub refused_text : (f : Fault) → first_refusal (has_failed_of e) n ≡ done → (f ≡ fault.Memory) ⊎ IsTextFault grammar text (refusal_of f)
      → StepsByText e n text (Refused (refusal_of f)) e
  refused_text f is why m shows = by_why why
    where
      served : (m.failed ≡ false) × (is_connection n ≡ true)
      served = served_for e.connections m n is shows

      by_why : (f ≡ fault.Memory) ⊎ IsTextFault grammar text (refusal_of f) → StepsByTextTo e m n text (Refused (refusal_of f)) e
      by_why (inl memory) = stays m f shows (inr (inr (served.0, served.1, inl (ap (λ (x : Fault). Refused (refusal_of x)) memory, refl))))
      by_why (inr of_text) = stays m f shows (inr (inr (served.0, served.1, inr (inl (refusal_of f, of_text, refl, refl)))))

  -- executed as the statement that the text is
  pub executed : (s : Statement) (reply : Reply) (new : Connections D g) → first_refusal (has_failed_of e) n ≡ done → IsCandidate grammar text → IsStatementText text s → is_statement_within s ≡ true
      → (KeepsItsText s → Steps e.connections n s reply new) → StepsByText e n text reply (record e { connections = new })
  executed s reply new is stands reads within steps m shows =
      let served = served_for e.connections m n is shows in
      let to = steps (keeps_text text s reads within (short_text text stands.0)) m shows in
      record {
        next = to.next;
        step = inr (inr (served.0, served.1, inr (inr (stands, s, reads, within, to.step))));
        shown = to.shown;
        crash = to.crash;
        copied = λ other is. subst (λ (x : Statement). CopiesAnswered (others_in e.connections n) (files_in e) x reply (files_of new)) (one_text exact_statement text s other reads is) to.copied;
        renewed = to.renewed;
      }

-- DROP, the statements of transactions and savepoints, and checkpoints are read exactly.
use Rattle.std.proofs.Common.{◌≡◌, ℕ, Bool, true, Option, Some, None, List, [], ◌∷◌, ◌++◌, Result, Ok, Err, refl, sym, ap, subst, ◌∙◌, arith}
use Rattle.sql_lexer.specs.declared.keyword.Keyword.{Keyword}
use Rattle.sql_lexer.specs.declared.keyword.Keyword.TheVariants as w
use Rattle.sql_lexer.specs.declared.token.Kind.TheVariants as k
use Rattle.sql_syntax.specs.declared.statement.BeginMode.{BeginMode}
use Rattle.sql_syntax.specs.declared.statement.BeginMode.TheVariants as begin
use Rattle.sql_syntax.specs.declared.statement.CheckpointMode.{CheckpointMode}
use Rattle.sql_syntax.specs.declared.statement.ObjectKind.{ObjectKind}
use Rattle.sql_syntax.specs.declared.statement.ObjectKind.TheVariants as kinds
use Rattle.sql_syntax.specs.declared.statement.Statement.{Statement}
use Rattle.sql_syntax.specs.declared.statement.Statement.TheVariants as statement
use Rattle.sql_expr.specs.declared.refusal.Refusal.{Refusal}
use Rattle.sql_expr.specs.declared.refusal.Refusal.TheVariants.{Unsupported}
use Rattle.sql_expr.specs.Exact.{Used}
use Rattle.sql_expr.specs.Follows.{Anything, lacks_paren}
use Rattle.sql_expr.specs.Grammar.{IsName, Enclosed, enclosed, Optional, left_out, given, Preceded}
use Rattle.sql_expr.specs.Grammar as grammar
use Rattle.sql_expr.specs.Limits.{unlimited}
use Rattle.sql_expr.specs.Symbols.{Symbol, Plain, Name, word}
use Rattle.sql_expr.specs.Reading.{Read, ◌>>=◌, after_word, name_from, after_paren}
use Rattle.sql_expr.proofs.MarkTests.{mark_from_is, tells_right}
use Rattle.sql_expr.proofs.Takes.{bind_ok, ok_is, done}
use Rattle.sql_grammar.specs.Changes.{EndsStatement}
use Rattle.sql_grammar.specs.Parts.{Both, pair, Before, before, Said, said, unsaid}
use Rattle.sql_grammar.specs.Readers.{yields, made, both, choose, choose_by, optionally, trailed}
use Rattle.sql_parser.specs.StatementReading as reading
use Rattle.sql_parser.specs.StatementReading.{kind_from, drop_from, mode_from, begin_from, rollback_from, release_from, given_from, argument_from, end_from, pragma_by, pragma_from}
use Rattle.sql_grammar.specs.Statements as g
use Rattle.sql_grammar.specs.Statements.{IsKind, IsMode, IsPragma, is_statement_within, checkpoint_of}
use Rattle.sql_grammar.proofs.Bases.{exact_name}
use Rattle.sql_grammar.proofs.Chosen.{Made, exact_making, renamed, relimited, Or, this, other, exact_or, Begins, begun_none, begins_or, Led, exact_optionally, Trailed, exact_trailed}
use Rattle.sql_grammar.proofs.Endings.{lacks_word, word_none, name_none}
use Rattle.sql_grammar.proofs.Exact.{Nothing, weaker, exact_both, exact_yields, exact_behind, exact_before_mark}
use Rattle.sql_grammar.proofs.Law.{Law, free}
use Rattle.sql_grammar.proofs.MarkChoice.{paren_is, right_self}

-- ---- DROP

yield : {A : Type 0} (a : A) (fits : A → Bool) (F : List Symbol → Type 0) → fits a ≡ true → Law (yields a) (Nothing a) fits F
yield a fits F t = exact_yields a (Nothing a) fits F (refl, refl) t (λ us b e. e)

kind_yield : (kind : ObjectKind) → Law (yields kind) (Nothing kind) unlimited Anything
kind_yield kind = yield kind unlimited Anything refl

abbrev IsTrigger : List Symbol → ObjectKind → Type 0
IsTrigger = Preceded (word w.Trigger) (Nothing kinds.Trigger)

abbrev IsView : List Symbol → ObjectKind → Type 0
IsView = Or w.View (Nothing kinds.View) IsTrigger

abbrev IsIndex : List Symbol → ObjectKind → Type 0
IsIndex = Or w.Index (Nothing kinds.Index) IsView

begins_trigger : Begins 4 IsTrigger
begins_trigger _ a (grammar.preceded {ts = us} r) = record { first = w.Trigger; others = us; is = refl; late = omega arith }

begins_view : Begins 3 IsView
begins_view = begins_or w.View begins_trigger

begins_index : Begins 2 IsIndex
begins_index = begins_or w.Index begins_view

kind_forth : (us : List Symbol) (kind : ObjectKind) → Or w.Table (Nothing kinds.Table) IsIndex us kind → IsKind us kind
kind_forth _ kind (this r) = rw (r.0, r.1) g.table
kind_forth _ kind (other (this r)) = rw (r.0, r.1) g.index
kind_forth _ kind (other (other (this r))) = rw (r.0, r.1) g.view
kind_forth _ kind (other (other (other (grammar.preceded r)))) = rw (r.0, r.1) g.trigger

kind_back : (us : List Symbol) (kind : ObjectKind) → IsKind us kind → Or w.Table (Nothing kinds.Table) IsIndex us kind
kind_back _ _ g.table = this (refl, refl)
kind_back _ _ g.index = other (this (refl, refl))
kind_back _ _ g.view = other (other (this (refl, refl)))
kind_back _ _ g.trigger = other (other (other (grammar.preceded (refl, refl))))

exact_kind : Law kind_from IsKind unlimited Anything
unfolding kind_from
exact_kind =
    renamed (exact_or w.Table (kind_yield kinds.Table)
    (exact_or w.Index (kind_yield kinds.Index)
    (exact_or w.View (kind_yield kinds.View) (exact_behind w.Trigger (kind_yield kinds.Trigger)) (λ us a rest s f. begun_none w.View us rest (begins_trigger us a s)))
    (λ us a rest s f. begun_none w.Index us rest (begins_view us a s))) (λ us a rest s f. begun_none w.Table us rest (begins_index us a s)))
    IsKind kind_forth kind_back

abbrev pub IsDrop : List Symbol → Statement → Type 0
IsDrop = Made reading.dropped (Both IsKind IsName)

pub exact_drop : Law drop_from IsDrop is_statement_within Anything
unfolding drop_from
exact_drop = exact_making (exact_both exact_kind exact_name (λ vs b rest s f. tt)) reading.dropped is_statement_within (λ x. refl)

-- ---- transactions

abbrev EndsMode : List Symbol → Type 0
EndsMode rest = (after_word w.Deferred rest ≡ None) × (after_word w.Immediate rest ≡ None)

mode_yield : (mode : BeginMode) → Law (yields mode) (Nothing mode) unlimited EndsMode
mode_yield mode = yield mode unlimited EndsMode refl

-- a word that doesn't come next where nothing stands
none_before : (v : Keyword) (us rest : List Symbol) → us ≡ [] → after_word v rest ≡ None → after_word v (us ++ rest) ≡ None
none_before v us rest e f = ap (λ (ws : List Symbol). after_word v (ws ++ rest)) e ∙ f

abbrev IsOtherMode : List Symbol → BeginMode → Type 0
IsOtherMode = Or w.Immediate (Nothing begin.Immediate) (Nothing begin.Deferred)

not_deferred : (us : List Symbol) (mode : BeginMode) (rest : List Symbol) → IsOtherMode us mode → EndsMode rest → after_word w.Deferred (us ++ rest) ≡ None
not_deferred _ mode rest (this {us = us} r) f = word_none w.Deferred w.Immediate (us ++ rest) refl
not_deferred us mode rest (other s) f = none_before w.Deferred us rest s.0 f.0

mode_forth : (us : List Symbol) (mode : BeginMode) → Or w.Deferred (Nothing begin.Deferred) IsOtherMode us mode → IsMode us mode
mode_forth _ mode (this r) = rw (r.0, r.1) g.deferred
mode_forth _ mode (other (this r)) = rw (r.0, r.1) g.immediate
mode_forth us mode (other (other r)) = rw (r.0, r.1) g.unsaid_mode

mode_back : (us : List Symbol) (mode : BeginMode) → IsMode us mode → Or w.Deferred (Nothing begin.Deferred) IsOtherMode us mode
mode_back _ _ g.deferred = this (refl, refl)
mode_back _ _ g.immediate = other (this (refl, refl))
mode_back _ _ g.unsaid_mode = other (other (refl, refl))

exact_mode : Law mode_from IsMode unlimited EndsMode
unfolding mode_from
exact_mode =
    renamed (exact_or w.Deferred (mode_yield begin.Deferred)
    (exact_or w.Immediate (mode_yield begin.Immediate) (mode_yield begin.Deferred) (λ us a rest s f. none_before w.Immediate us rest s.0 f.1)) not_deferred)
    IsMode mode_forth mode_back

ends_mode : (us : List Symbol) (t : Bool) (rest : List Symbol) → Said (word w.Transaction) us t → EndsStatement rest → EndsMode (us ++ rest)
ends_mode _ _ rest unsaid f = (lacks_word w.Deferred rest f, lacks_word w.Immediate rest f)
ends_mode _ _ rest said f = (word_none w.Deferred w.Transaction rest refl, word_none w.Immediate w.Transaction rest refl)

abbrev pub IsBegin : List Symbol → Statement → Type 0
IsBegin = Made statement.Begin (Trailed w.Transaction IsMode)

pub exact_begin : Law begin_from IsBegin is_statement_within EndsStatement
unfolding begin_from
exact_begin = exact_making (exact_trailed w.Transaction exact_mode EndsStatement (λ rest f. lacks_word w.Transaction rest f) ends_mode) statement.Begin is_statement_within (λ mode. refl)

abbrev pub IsCommit : List Symbol → Statement → Type 0
IsCommit = Trailed w.Transaction (Nothing statement.Commit)

pub exact_commit : Law (trailed w.Transaction (yields statement.Commit)) IsCommit is_statement_within EndsStatement
exact_commit =
    exact_trailed w.Transaction (yield statement.Commit is_statement_within Anything refl) EndsStatement (λ rest f. lacks_word w.Transaction rest f) (λ us b rest s f. tt)

-- a name, of which this statement is made
abbrev pub Naming : (List ℕ → Statement) → List Symbol → Statement → Type 0
Naming make = Made make IsName

pub exact_naming : (make : List ℕ → Statement) → ((n : List ℕ) → is_statement_within (make n) ≡ true) → Law (made make name_from) (Naming make) is_statement_within EndsStatement
exact_naming make t = weaker EndsStatement (λ rest f. tt) (exact_making exact_name make is_statement_within t)

no_word : (v : Keyword) (make : List ℕ → Statement) (us : List Symbol) (s : Statement) (rest : List Symbol) → Naming make us s → after_word v (us ++ rest) ≡ None
no_word v make us s rest (c, name, is) = ap (λ (ws : List Symbol). after_word v (ws ++ rest)) name ∙ name_none v c rest

exact_named : (make : List ℕ → Statement) → ((n : List ℕ) → is_statement_within (make n) ≡ true)
    → Law (optionally w.Savepoint (made make name_from)) (Led w.Savepoint (Naming make)) is_statement_within EndsStatement
exact_named make t = exact_optionally w.Savepoint (exact_naming make t) (λ us s rest r f. no_word w.Savepoint make us s rest r)

abbrev pub IsReturn : List Symbol → Statement → Type 0
IsReturn = Or w.To (Led w.Savepoint (Naming statement.RollbackTo)) (Nothing statement.Rollback)

exact_return : Law (choose w.To (optionally w.Savepoint (made statement.RollbackTo name_from)) (yields statement.Rollback)) IsReturn is_statement_within EndsStatement
exact_return =
    exact_or w.To (exact_named statement.RollbackTo (λ n. refl)) (yield statement.Rollback is_statement_within EndsStatement refl)
    (λ us s rest e f. none_before w.To us rest e.0 (lacks_word w.To rest f))

no_transaction : (us : List Symbol) (s : Statement) (rest : List Symbol) → IsReturn us s → EndsStatement rest → after_word w.Transaction (us ++ rest) ≡ None
no_transaction _ s rest (this {us = us} r) f = word_none w.Transaction w.To (us ++ rest) refl
no_transaction us s rest (other e) f = none_before w.Transaction us rest e.0 (lacks_word w.Transaction rest f)

abbrev pub IsRollback : List Symbol → Statement → Type 0
IsRollback = Led w.Transaction IsReturn

pub exact_rollback : Law rollback_from IsRollback is_statement_within EndsStatement
unfolding rollback_from
exact_rollback = exact_optionally w.Transaction exact_return no_transaction

abbrev pub IsRelease : List Symbol → Statement → Type 0
IsRelease = Led w.Savepoint (Naming statement.Release)

pub exact_release : Law release_from IsRelease is_statement_within EndsStatement
unfolding release_from
exact_release = exact_named statement.Release (λ n. refl)

-- ---- PRAGMA

no_paren : (ts : List Symbol) → lacks_paren ts ≡ true → after_paren ts ≡ None
unfolding after_paren
no_paren [] h = refl
no_paren (Plain k.LeftParen ∷ ts) h = absurd cc
no_paren (_ ∷ ts) h = refl

abbrev IsGiven : List Symbol → Option (List ℕ) → Type 0
IsGiven = Made (λ n. Some n) (Before (Plain k.RightParen) IsName)

exact_given : Law given_from IsGiven unlimited Anything
unfolding given_from
exact_given = exact_making (exact_before_mark k.RightParen (mark_from_is k.RightParen tells_right) right_self exact_name (λ rest. tt)) (λ n. Some n) unlimited (λ n. refl)

given_forth : (us : List Symbol) (x : Option (List ℕ)) → IsGiven us x → Optional (Enclosed IsName) (Plain k.LeftParen ∷ us) x
given_forth _ x (n, before {ts = us} r, e) = subst (Optional (Enclosed IsName) (Plain k.LeftParen ∷ us ++ Plain k.RightParen ∷ [])) e (given (enclosed r))

argument_takes : (ts : List Symbol) (x : Option (List ℕ) × List Symbol) → argument_from ts ≡ Ok x → Used (Optional (Enclosed IsName)) unlimited ts x
unfolding argument_from yields
argument_takes ts x h = by_found (after_paren ts) refl h
  where
    by_found : (o : Option (List Symbol)) → after_paren ts ≡ o → choose_by given_from (yields None) ts o ≡ Ok x → Used (Optional (Enclosed IsName)) unlimited ts x
    by_found (Some rest) e h =
        let u = exact_given.exact.takes rest x h in
        record { used = Plain k.LeftParen ∷ u.used; parts = paren_is ts rest e ∙ ap (λ (us : List Symbol). Plain k.LeftParen ∷ us) u.parts; at = given_forth u.used x.0 u.at; within = refl }
    by_found None e h = subst (Used (Optional (Enclosed IsName)) unlimited ts) (ok_is _ _ h) (record { used = []; parts = refl; at = left_out; within = refl })

argument_again : (us : List Symbol) (x : Option (List ℕ)) (rest : List Symbol) → Optional (Enclosed IsName) us x → lacks_paren rest ≡ true → argument_from (us ++ rest) ≡ Ok (x, rest)
unfolding argument_from yields after_paren
argument_again _ _ rest left_out f = ap (choose_by given_from (yields None) rest) (no_paren rest f)
argument_again _ _ rest (given {a = n} (enclosed {ts = us} r)) f = exact_given.exact.again (us ++ Plain k.RightParen ∷ []) (Some n) rest (n, before r, refl) refl tt

pub exact_argument : Law argument_from (Optional (Enclosed IsName)) unlimited (λ rest. lacks_paren rest ≡ true)
exact_argument = free (λ x. refl) (record { takes = argument_takes; again = λ us x rest r t f. argument_again us x rest r f; late = λ us x rest r t f. absurd cc })

abbrev pub Named : List Symbol → List ℕ × Option (List ℕ) → Type 0
Named = Both IsName (Optional (Enclosed IsName))

no_parens : (rest : List Symbol) → EndsStatement rest → lacks_paren rest ≡ true
no_parens [] f = refl
no_parens (p ∷ rest) f = subst (λ (p : Symbol). lacks_paren (p ∷ rest) ≡ true) (sym f) refl

pub exact_pragma_name : Law (both name_from argument_from) Named (λ x. true) EndsStatement
exact_pragma_name = weaker EndsStatement no_parens (exact_both exact_name exact_argument (λ vs b rest s f. tt))

-- a PRAGMA that is a checkpoint
pub record IsCheckpoint (us : List Symbol) (s : Statement) : Type 0 where
  pub name : List ℕ
  pub argument : Option (List ℕ)
  pub at : Named us (name, argument)
  pub mode : CheckpointMode
  pub asked : checkpoint_of name argument ≡ Some mode
  pub is : statement.Checkpoint mode ≡ s

abbrev pub pragma_end : Result (List Symbol) Refusal → Read Statement
pragma_end r = r >>= λ rest. Err Unsupported

no_checkpoint : (r : Result (List Symbol) Refusal) (x : Statement × List Symbol) → pragma_end r ≡ Ok x → ⊥
no_checkpoint (Ok us) x h = absurd cc
no_checkpoint (Err e) x h = absurd cc

pragma_takes : (ts : List Symbol) (x : Statement × List Symbol) → pragma_from ts ≡ Ok x → Used IsCheckpoint unlimited ts x
unfolding pragma_from
pragma_takes ts x h =
    let a = bind_ok (both name_from argument_from ts) (λ a. pragma_by a.1 (checkpoint_of a.0.0 a.0.1)) x h in
    let u = exact_pragma_name.exact.takes ts a.0 a.1 in
    by_mode a.0 u (checkpoint_of a.0.0.0 a.0.0.1) refl a.2
  where
    by_mode : (a : (List ℕ × Option (List ℕ)) × List Symbol) → Used Named (λ x. true) ts a → (o : Option CheckpointMode) → checkpoint_of a.0.0 a.0.1 ≡ o → pragma_by a.1 o ≡ Ok x
        → Used IsCheckpoint unlimited ts x
    by_mode a u (Some mode) e h =
        subst (Used IsCheckpoint unlimited ts) (ok_is _ _ h)
        (record { used = u.used; parts = u.parts; at = record { name = a.0.0; argument = a.0.1; at = u.at; mode = mode; asked = e; is = refl }; within = refl })
    by_mode a u None e h = absurd (no_checkpoint (end_from a.1) x h)

pragma_again : (us : List Symbol) (s : Statement) (rest : List Symbol) → IsCheckpoint us s → EndsStatement rest → pragma_from (us ++ rest) ≡ Ok (s, rest)
unfolding pragma_from
pragma_again us s rest c f =
    let h = exact_pragma_name.exact.again us (c.name, c.argument) rest c.at refl f in
    let e = c.asked in
    rw (h, e) (ap (λ (s : Statement). done (s, rest)) c.is)

pub exact_pragma : Law pragma_from IsCheckpoint is_statement_within EndsStatement
exact_pragma =
    relimited (free (λ s. refl) (record { takes = pragma_takes; again = λ us s rest r t f. pragma_again us s rest r f; late = λ us s rest r t f. absurd cc })) is_statement_within
    (λ us s c. ap is_statement_within (sym c.is))

pub pragma_is : {us : List Symbol} {n : List ℕ} {argument : Option (List ℕ)} → Named us (n, argument) → IsPragma us n argument
pragma_is {n = n} {argument = argument} (pair {vs = vs} name o) = subst (λ (ns : List Symbol). IsPragma (ns ++ vs) n argument) (sym name) (g.pragma o)

pub pragma_named : {us : List Symbol} {n : List ℕ} {argument : Option (List ℕ)} → IsPragma us n argument → Named us (n, argument)
pragma_named (g.pragma {n = n} o) = pair {us = Name n ∷ []} refl o

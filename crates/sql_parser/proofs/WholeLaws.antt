-- Whole statements are read exactly, and those that aren't supported are refused for that, and no others.
use Rattle.std.proofs.Common.{◌≡◌, ℕ, ◌<◌, Bool, true, false, if◌then◌else◌, Option, Some, None, List, [], ◌∷◌, ◌++◌, Result, Ok, Err, refl, sym, ap, subst, ◌∙◌, arith}
use Rattle.sql_lexer.specs.declared.keyword.Keyword.{Keyword}
use Rattle.sql_lexer.specs.declared.keyword.Keyword.TheVariants as w
use Rattle.sql_lexer.specs.declared.token.Kind.TheVariants as k
use Rattle.sql_syntax.specs.declared.statement.BeginMode.TheVariants as begin
use Rattle.sql_syntax.specs.declared.statement.CheckpointMode.{CheckpointMode}
use Rattle.sql_syntax.specs.declared.statement.ObjectKind.TheVariants as kinds
use Rattle.sql_syntax.specs.declared.statement.Statement.{Statement}
use Rattle.sql_syntax.specs.declared.statement.Statement.TheVariants as statement
use Rattle.sql_expr.specs.declared.refusal.Refusal.{Refusal}
use Rattle.sql_expr.specs.declared.refusal.Refusal.TheVariants.{TooLong, Unsupported}
use Rattle.sql_expr.specs.Symbols.{Symbol, Plain, word}
use Rattle.sql_expr.specs.Reading.{◌>>=◌, after_word, name_from, after_paren}
use Rattle.sql_expr.proofs.Takes.{bind_ok, ok_is}
use Rattle.sql_expr.proofs.WordTests.{after_word_is, after_word_self}
use Rattle.sql_grammar.specs.Changes.{EndsStatement}
use Rattle.sql_query.specs.ChangeReading.{change_from}
use Rattle.sql_parser.specs.ObjectReading.{object_from}
use Rattle.sql_grammar.specs.Parts.{Said, said, unsaid}
use Rattle.sql_query.specs.QueryReading.{selection_from}
use Rattle.sql_grammar.specs.Readers.{Reader, yields, made, both, choose, choose_by, limited_by, trailed}
use Rattle.sql_parser.specs.StatementReading as reading
use Rattle.sql_parser.specs.StatementReading.{kind_from, drop_from, mode_from, begin_from, rollback_from, release_from, given_from, argument_from, end_from, pragma_by, pragma_from, begins_unserved, served_from, transaction_from, statement_from, whole_from}
use Rattle.sql_grammar.specs.Statements as g
use Rattle.sql_grammar.specs.Statements.{IsPragma, IsStatement, IsText, IsUnsupported, is_statement_within, checkpoint_of, is_unsupported_word}
use Rattle.sql_grammar.proofs.Chosen.{turn, other_word}
use Rattle.sql_grammar.proofs.Exact.{reads}
use Rattle.sql_grammar.proofs.Law.{Law}
use Rattle.sql_parser.proofs.Served.{unsupported, Serves, bind, name_serves}
use Rattle.sql_parser.proofs.ServedParts.{made_serves, both_serves, choose_serves, choose_by_serves, behind_serves, before_mark_serves, optionally_serves, yields_serves, change_serves, selection_serves, object_serves}
use Rattle.sql_parser.proofs.ShortLaws.{pragma_end, exact_pragma_name, pragma_is, pragma_named}
use Rattle.sql_parser.proofs.StatementLaws.{unserved_turn}
use Rattle.sql_grammar.proofs.Endings.{word_none}

-- ---- the closing semicolon

end_takes : (ts us : List Symbol) → end_from ts ≡ Ok us → (closed : Bool) × Said (Plain k.Semicolon) ts closed
unfolding end_from
end_takes [] us h = (false, unsaid)
end_takes (Plain k.Semicolon ∷ []) us h = (true, said)
end_takes (Plain k.Semicolon ∷ p ∷ ts) us h = absurd cc
end_takes (_ ∷ ts) us h = absurd cc

end_reads : (ts : List Symbol) (closed : Bool) → Said (Plain k.Semicolon) ts closed → end_from ts ≡ Ok []
unfolding end_from
end_reads _ _ unsaid = refl
end_reads _ _ said = refl

end_ends : (ts : List Symbol) (closed : Bool) → Said (Plain k.Semicolon) ts closed → EndsStatement ts
end_ends _ _ unsaid = tt
end_ends _ _ said = refl

end_serves : (ts : List Symbol) → unsupported (end_from ts) ≡ false
unfolding end_from
end_serves [] = refl
end_serves (Plain k.Semicolon ∷ []) = refl
end_serves (Plain k.Semicolon ∷ p ∷ ts) = refl
end_serves (_ ∷ ts) = refl

-- ---- statements

-- a statement within the limits, or one past them
abbrev pub kept : Statement → Bool → Result Statement Refusal
kept s true = Ok s
kept s false = Err TooLong

module _ (law : (sql : List ℕ) → Law (statement_from sql) (IsStatement sql) is_statement_within EndsStatement) where
  pub whole_found : (sql : List ℕ) (ts : List Symbol) (s : Statement) → whole_from sql ts ≡ Ok s → IsText sql ts s × (is_statement_within s ≡ true)
  unfolding whole_from
  whole_found sql ts s h =
      let a = bind_ok (statement_from sql ts) (λ a. end_from a.1 >>= λ rest. Ok a.0) s h in
      let b = bind_ok (end_from a.0.1) (λ rest. Ok a.0.0) s a.2 in
      let (closed, is) = end_takes a.0.1 b.0 b.1 in
      let u = (law sql).exact.takes ts a.0 a.1 in
      let t : IsText sql (u.used ++ a.0.1) a.0.0 = g.text u.at is in
      subst (λ (s : Statement). IsText sql ts s × (is_statement_within s ≡ true)) (ok_is _ _ b.2) (subst (λ (us : List Symbol). IsText sql us a.0.0) (sym u.parts) t, u.within)

  whole_by : (sql : List ℕ) (ts rest : List Symbol) (s : Statement) (b : Bool) → statement_from sql ts ≡ limited_by (s, rest) b → end_from rest ≡ Ok [] → whole_from sql ts ≡ kept s b
  unfolding whole_from
  whole_by sql ts rest s true h e = rw (h, e) refl
  whole_by sql ts rest s false h e = rw h refl

  pub whole_reads : (sql : List ℕ) (ts : List Symbol) (s : Statement) → IsText sql ts s → whole_from sql ts ≡ kept s (is_statement_within s)
  whole_reads sql _ s (g.text {us = us} {ss = ss} {closed = closed} r e) =
      whole_by sql (us ++ ss) ss s (is_statement_within s) (reads (law sql) us s ss r (end_ends ss closed e)) (end_reads ss closed e)

  pub whole_only : (sql : List ℕ) (ts : List Symbol) (s : Statement) → IsText sql ts s → is_statement_within s ≡ true → whole_from sql ts ≡ Ok s
  whole_only sql ts s t e = whole_reads sql ts s t ∙ ap (kept s) e

  pub whole_late : (sql : List ℕ) (ts : List Symbol) (s : Statement) → IsText sql ts s → is_statement_within s ≡ false → whole_from sql ts ≡ Err TooLong
  whole_late sql ts s t e = whole_reads sql ts s t ∙ ap (kept s) e

  same_statement : (sql : List ℕ) (ts us : List Symbol) (a b : Statement) → IsText sql ts a → IsText sql us b → ts ≡ us → a ≡ b
  same_statement sql _ _ a b (g.text {us = us} {ss = ss} {closed = c} r e) (g.text {us = vs} {ss = zs} {closed = d} s f) same =
      ((law sql).single us vs a b ss zs r s (end_ends ss c e) (end_ends zs d f) same).0

  pub one_statement : (sql : List ℕ) (ts : List Symbol) (a b : Statement) → IsText sql ts a → IsText sql ts b → a ≡ b
  one_statement sql ts a b t u = same_statement sql ts ts a b t u refl

-- ---- what isn't supported

-- a word that isn't supported is none that a choice asks for
none_asked : (u v : Keyword) (ts : List Symbol) → is_unsupported_word v ≡ true → 0 < turn u → after_word u (word v ∷ ts) ≡ None
none_asked u v ts e some = word_none u v ts (other_word u v (λ same. let none = unserved_turn v e in omega (arith, some, same, none)))

unserved_first : (sql : List ℕ) (v : Keyword) (ts : List Symbol) → is_unsupported_word v ≡ true → statement_from sql (word v ∷ ts) ≡ Err Unsupported
unfolding statement_from choose transaction_from served_from begins_unserved
unserved_first sql v ts e =
    let a = none_asked w.Create v ts e (omega arith) in
    let b = none_asked w.Drop v ts e (omega arith) in
    let c = none_asked w.Select v ts e (omega arith) in
    let d = none_asked w.Pragma v ts e (omega arith) in
    let h = none_asked w.Begin v ts e (omega arith) in
    let i = none_asked w.Commit v ts e (omega arith) in
    let j = none_asked w.Rollback v ts e (omega arith) in
    let l = none_asked w.Savepoint v ts e (omega arith) in
    let m = none_asked w.Release v ts e (omega arith) in
    rw (a, b, c, d, h, i, j, l, m, e) refl

pragma_first : (sql : List ℕ) (ts : List Symbol) → statement_from sql (word w.Pragma ∷ ts) ≡ pragma_from ts
unfolding statement_from choose
pragma_first sql ts =
    let a = word_none w.Create w.Pragma ts refl in
    let b = word_none w.Drop w.Pragma ts refl in
    let c = word_none w.Select w.Pragma ts refl in
    let d = after_word_self w.Pragma ts in
    rw (a, b, c, d) refl

pragma_unserved : (us ss : List Symbol) (n : List ℕ) (argument : Option (List ℕ)) (closed : Bool) → IsPragma us n argument → checkpoint_of n argument ≡ None → Said (Plain k.Semicolon) ss closed
    → pragma_from (us ++ ss) ≡ Err Unsupported
unfolding pragma_from
pragma_unserved us ss n argument closed p none e =
    let h = exact_pragma_name.exact.again us (n, argument) ss (pragma_named p) refl (end_ends ss closed e) in
    let i = end_reads ss closed e in
    rw (h, none, i) refl

refused_whole : (sql : List ℕ) (ts : List Symbol) (e : Refusal) → statement_from sql ts ≡ Err e → whole_from sql ts ≡ Err e
unfolding whole_from
refused_whole sql ts e h = rw h refl

pub whole_unserved : (sql : List ℕ) (ts : List Symbol) → IsUnsupported ts → whole_from sql ts ≡ Err Unsupported
whole_unserved sql _ (g.unserved_word {ts = ts} v e) = refused_whole sql (word v ∷ ts) Unsupported (unserved_first sql v ts e)
whole_unserved sql _ (g.unserved_pragma {us = us} {ss = ss} {n = n} {argument = a} {closed = c} p none e) =
    refused_whole sql (word w.Pragma ∷ us ++ ss) Unsupported (pragma_first sql (us ++ ss) ∙ pragma_unserved us ss n a c p none e)

-- ---- nothing else is refused as that

-- Either reading is refused as that, and the pieces aren't supported, or it isn't.
abbrev Only : {A : Type 0} → List Symbol → Result A Refusal → Type 0
Only ts x = unsupported x ≡ true → IsUnsupported ts

served : {A : Type 0} (ts : List Symbol) (x : Result A Refusal) → unsupported x ≡ false → Only ts x
served ts x h l = absurd (let no : true ≡ false = sym l ∙ h in cc)

only_bind : {A B : Type 0} (ts : List Symbol) (x : Result A Refusal) (f : A → Result B Refusal) → ((a : A) → x ≡ Ok a → Only ts (f a)) → Only ts x → Only ts (x >>= f)
only_bind ts (Ok a) f h l = h a refl
only_bind ts (Err e) f h l = l

only_choose : {A : Type 0} (v : Keyword) (p q : Reader A) (ts : List Symbol) → ((rest : List Symbol) → ts ≡ word v ∷ rest → Only ts (p rest)) → Only ts (q ts) → Only ts (choose v p q ts)
unfolding choose
only_choose v p q ts h l = by_found (after_word v ts) refl
  where
    by_found : (o : Option (List Symbol)) → after_word v ts ≡ o → Only ts (choose_by p q ts o)
    by_found (Some rest) e = h rest (after_word_is v ts rest e)
    by_found None e = l

unserved_is : (ts : List Symbol) → begins_unserved ts ≡ true → IsUnsupported ts
unfolding begins_unserved
unserved_is [] h = absurd cc
unserved_is (Plain (k.Word v) ∷ ts) h = g.unserved_word v h
unserved_is (_ ∷ ts) h = absurd cc

only_served : (ts : List Symbol) → Only ts (served_from ts)
unfolding served_from
only_served ts = by_test (begins_unserved ts) refl
  where
    by_test : (b : Bool) → begins_unserved ts ≡ b → Only ts (if b then Err Unsupported else made statement.Change change_from ts)
    by_test true e = λ h. unserved_is ts e
    by_test false e = served ts (made statement.Change change_from ts) (made_serves change_from change_serves statement.Change ts)

given_serves : Serves given_from
unfolding given_from
given_serves = made_serves _ (before_mark_serves name_from name_serves k.RightParen) Some

argument_serves : Serves argument_from
unfolding argument_from
argument_serves ts = choose_by_serves given_from (yields None) given_serves (yields_serves None) ts (after_paren ts)

only_pragma : (ts : List Symbol) → Only (word w.Pragma ∷ ts) (pragma_from ts)
unfolding pragma_from
only_pragma ts =
    only_bind (word w.Pragma ∷ ts) (both name_from argument_from ts) (λ a. pragma_by a.1 (checkpoint_of a.0.0 a.0.1)) (λ a e. by_mode a e (checkpoint_of a.0.0 a.0.1) refl)
    (served (word w.Pragma ∷ ts) (both name_from argument_from ts) (both_serves name_from argument_from name_serves argument_serves ts))
  where
    is_pragma : (a : (List ℕ × Option (List ℕ)) × List Symbol) → both name_from argument_from ts ≡ Ok a → checkpoint_of a.0.0 a.0.1 ≡ None → (closed : Bool) → Said (Plain k.Semicolon) a.1 closed
        → IsUnsupported (word w.Pragma ∷ ts)
    is_pragma a e none closed is =
        let u = exact_pragma_name.exact.takes ts a e in
        let t : IsUnsupported (word w.Pragma ∷ u.used ++ a.1) = g.unserved_pragma (pragma_is u.at) none is in
        subst (λ (us : List Symbol). IsUnsupported (word w.Pragma ∷ us)) (sym u.parts) t

    by_end : (a : (List ℕ × Option (List ℕ)) × List Symbol) → both name_from argument_from ts ≡ Ok a → checkpoint_of a.0.0 a.0.1 ≡ None → (o : Result (List Symbol) Refusal) → end_from a.1 ≡ o
        → Only (word w.Pragma ∷ ts) (pragma_end o)
    by_end a e none (Ok us) h = λ l. let (closed, is) = end_takes a.1 us h in is_pragma a e none closed is
    by_end a e none (Err f) h = served (word w.Pragma ∷ ts) (pragma_end (Err f)) (sym (ap unsupported h) ∙ end_serves a.1)

    by_mode : (a : (List ℕ × Option (List ℕ)) × List Symbol) → both name_from argument_from ts ≡ Ok a → (o : Option CheckpointMode) → checkpoint_of a.0.0 a.0.1 ≡ o
        → Only (word w.Pragma ∷ ts) (pragma_by a.1 o)
    by_mode a e (Some mode) h = served (word w.Pragma ∷ ts) (pragma_by a.1 (Some mode)) refl
    by_mode a e None h = by_end a e h (end_from a.1) refl

kind_serves : Serves kind_from
unfolding kind_from
kind_serves =
    choose_serves _ _ (yields_serves kinds.Table) (choose_serves _ _ (yields_serves kinds.Index) (choose_serves _ _ (yields_serves kinds.View)
    (behind_serves _ (yields_serves kinds.Trigger) w.Trigger) w.View) w.Index) w.Table

drop_serves : Serves drop_from
unfolding drop_from
drop_serves = made_serves _ (both_serves _ _ kind_serves name_serves) reading.dropped

trailed_serves : {A : Type 0} (v : Keyword) (p : Reader A) → Serves p → Serves (trailed v p)
unfolding trailed
trailed_serves v p s ts = bind (p ts) _ (s ts) (λ a. refl)

mode_serves : Serves mode_from
unfolding mode_from
mode_serves = choose_serves _ _ (yields_serves begin.Deferred) (choose_serves _ _ (yields_serves begin.Immediate) (yields_serves begin.Deferred) w.Immediate) w.Deferred

begin_serves : Serves begin_from
unfolding begin_from
begin_serves = made_serves _ (trailed_serves w.Transaction mode_from mode_serves) statement.Begin

rollback_serves : Serves rollback_from
unfolding rollback_from
rollback_serves =
    optionally_serves _ (choose_serves _ _ (optionally_serves _ (made_serves _ name_serves statement.RollbackTo) w.Savepoint) (yields_serves statement.Rollback) w.To) w.Transaction

release_serves : Serves release_from
unfolding release_from
release_serves = optionally_serves _ (made_serves _ name_serves statement.Release) w.Savepoint

only_transaction : (ts : List Symbol) → Only ts (transaction_from ts)
unfolding transaction_from
only_transaction ts =
    only_choose w.Begin begin_from _ ts (λ rest e. served ts (begin_from rest) (begin_serves rest))
    (only_choose w.Commit (trailed w.Transaction (yields statement.Commit)) _ ts (λ rest e. served ts (trailed w.Transaction (yields statement.Commit) rest) (trailed_serves w.Transaction (yields statement.Commit) (yields_serves statement.Commit) rest))
    (only_choose w.Rollback rollback_from _ ts (λ rest e. served ts (rollback_from rest) (rollback_serves rest))
    (only_choose w.Savepoint (made statement.Savepoint name_from) _ ts (λ rest e. served ts (made statement.Savepoint name_from rest) (made_serves name_from name_serves statement.Savepoint rest))
    (only_choose w.Release release_from served_from ts (λ rest e. served ts (release_from rest) (release_serves rest)) (only_served ts)))))

only_statement : (sql : List ℕ) (ts : List Symbol) → Only ts (statement_from sql ts)
unfolding statement_from
only_statement sql ts =
    only_choose w.Create (made (reading.created sql) object_from) _ ts (λ rest e. served ts (made (reading.created sql) object_from rest) (made_serves object_from object_serves (reading.created sql) rest))
    (only_choose w.Drop drop_from _ ts (λ rest e. served ts (drop_from rest) (drop_serves rest))
    (only_choose w.Select (made statement.Select selection_from) _ ts (λ rest e. served ts (made statement.Select selection_from rest) (made_serves selection_from selection_serves statement.Select rest))
    (only_choose w.Pragma pragma_from transaction_from ts (λ rest e. subst (λ (us : List Symbol). Only us (pragma_from rest)) (sym e) (only_pragma rest)) (only_transaction ts))))

only_whole : (sql : List ℕ) (ts : List Symbol) → Only ts (whole_from sql ts)
unfolding whole_from
only_whole sql ts =
    only_bind ts (statement_from sql ts) (λ a. end_from a.1 >>= λ rest. Ok a.0) (λ a e. served ts (end_from a.1 >>= λ rest. kept a.0 true) (bind (end_from a.1) (λ rest. kept a.0 true) (end_serves a.1) (λ rest. refl)))
    (only_statement sql ts)

pub whole_refused : (sql : List ℕ) (ts : List Symbol) → whole_from sql ts ≡ Err Unsupported → IsUnsupported ts
whole_refused sql ts h = only_whole sql ts (ap unsupported h)

-- Statements are read exactly.
use Rattle.std.proofs.Common.{if◌then◌else◌, ◌≡◌, ℕ, ◌<◌, Bool, true, false, Option, Some, None, List, [], ◌∷◌, ◌++◌, Ok, Err, refl, sym, ap, subst, ◌∙◌, arith}
use Rattle.std.proofs.lemmas.List.{append-nil}
use Rattle.sql_lexer.specs.declared.keyword.Keyword.{Keyword}
use Rattle.sql_lexer.specs.declared.keyword.Keyword.TheVariants as w
use Rattle.sql_syntax.specs.declared.statement.Statement.{Statement}
use Rattle.sql_syntax.specs.declared.statement.Statement.TheVariants as statement
use Rattle.sql_expr.specs.declared.refusal.Refusal.TheVariants.{Syntax, Unsupported}
use Rattle.sql_expr.specs.Exact.{Used}
use Rattle.sql_expr.specs.Symbols.{Symbol, Name, word}
use Rattle.sql_expr.specs.Reading.{fail, after_word, word_from}
use Rattle.sql_expr.proofs.WordTests.{after_word_is}
use Rattle.sql_grammar.specs.Changes.{IsChange, is_change_within, EndsStatement}
use Rattle.sql_query.specs.ChangeReading.{change_from}
use Rattle.sql_grammar.specs.NewObjects.{IsObject, is_object_within}
use Rattle.sql_parser.specs.ObjectReading.{object_from}
use Rattle.sql_grammar.specs.Parts.{pair}
use Rattle.sql_grammar.specs.Queries.{IsSelection}
use Rattle.sql_query.specs.QueryReading.{selection_from}
use Rattle.sql_grammar.specs.Readers.{made, preceded, choose, limited_by}
use Rattle.sql_parser.specs.StatementReading as reading
use Rattle.sql_parser.specs.StatementReading.{begins_unserved, served_from, transaction_from, statement_from}
use Rattle.sql_grammar.specs.Statements as g
use Rattle.sql_grammar.specs.Statements.{IsStatement, is_statement_within, is_unsupported_word}
use Rattle.sql_grammar.specs.Within.{is_selection_within}
use Rattle.sql_grammar.proofs.Chosen.{Made, exact_making, renamed, Or, this, other, exact_or, turn, Begun, Begins, begun_none, begins_or}
use Rattle.sql_grammar.proofs.Exact.{exactly, reads, weaker}
use Rattle.sql_grammar.proofs.Law.{Law}
use Rattle.sql_parser.proofs.ShortLaws.{IsDrop, exact_drop, IsBegin, exact_begin, IsCommit, exact_commit, Naming, exact_naming, IsRollback, exact_rollback, IsRelease, exact_release, IsCheckpoint, exact_pragma, pragma_is, pragma_named}

-- ---- all statements

abbrev IsChanged : List Symbol → Statement → Type 0
IsChanged = Made statement.Change IsChange

abbrev IsLetGo : List Symbol → Statement → Type 0
IsLetGo = Or w.Release IsRelease IsChanged

abbrev IsSaved : List Symbol → Statement → Type 0
IsSaved = Or w.Savepoint (Naming statement.Savepoint) IsLetGo

abbrev IsRolled : List Symbol → Statement → Type 0
IsRolled = Or w.Rollback IsRollback IsSaved

abbrev IsCommitted : List Symbol → Statement → Type 0
IsCommitted = Or w.Commit IsCommit IsRolled

abbrev IsTransaction : List Symbol → Statement → Type 0
IsTransaction = Or w.Begin IsBegin IsCommitted

abbrev IsAsked : List Symbol → Statement → Type 0
IsAsked = Or w.Pragma IsCheckpoint IsTransaction

abbrev IsSelected : List Symbol → Statement → Type 0
IsSelected = Or w.Select (Made statement.Select IsSelection) IsAsked

abbrev IsDropped : List Symbol → Statement → Type 0
IsDropped = Or w.Drop IsDrop IsSelected

abbrev IsAny : List ℕ → List Symbol → Statement → Type 0
IsAny sql = Or w.Create (Made (reading.created sql) IsObject) IsDropped

drop_forth : (sql : List ℕ) (us : List Symbol) (s : Statement) → IsDrop us s → IsStatement sql (word w.Drop ∷ us) s
drop_forth sql _ s (x, pair {us = us} {vs = vs} {a = kind} {b = n} k name, is) =
    subst (λ (vs : List Symbol). IsStatement sql (word w.Drop ∷ us ++ vs) s) (sym name) (subst (IsStatement sql (word w.Drop ∷ us ++ Name n ∷ [])) is (g.drop k))

begin_forth : (sql : List ℕ) (us : List Symbol) (s : Statement) → IsBegin us s → IsStatement sql (word w.Begin ∷ us) s
begin_forth sql _ s (mode, (x, pair {us = us} {vs = ts} {a = m} {b = t} r said', same), is) =
    subst (IsStatement sql (word w.Begin ∷ us ++ ts)) (ap statement.Begin same ∙ is) (g.begin r said')

commit_forth : (sql : List ℕ) (us : List Symbol) (s : Statement) → IsCommit us s → IsStatement sql (word w.Commit ∷ us) s
commit_forth sql _ s (x, pair {us = us} {vs = ts} {a = c} {b = t} r said', same) =
    subst (λ (us : List Symbol). IsStatement sql (word w.Commit ∷ us ++ ts) s) (sym r.0) (subst (IsStatement sql (word w.Commit ∷ ts)) (sym r.1 ∙ same) (g.commit said'))

rollback_forth : (sql : List ℕ) (us : List Symbol) (s : Statement) → IsRollback us s → IsStatement sql (word w.Rollback ∷ us) s
rollback_forth sql _ s (x, pair {us = ts} {a = t} {b = a} r (this (y, pair {us = ss} {vs = vs} {a = b} {b = c} q (n, name, of), is)), same) =
    subst (λ (vs : List Symbol). IsStatement sql (word w.Rollback ∷ ts ++ (word w.To ∷ ss ++ vs)) s) (sym name)
    (subst (IsStatement sql (word w.Rollback ∷ ts ++ (word w.To ∷ ss ++ Name n ∷ []))) (of ∙ is ∙ same) (g.rollback_to r q))
rollback_forth sql _ s (x, pair {us = ts} {vs = vs} {a = t} {b = a} r (other e), same) =
    subst (λ (us : List Symbol). IsStatement sql (word w.Rollback ∷ us) s) (sym (append-nil ts) ∙ ap (λ (vs : List Symbol). ts ++ vs) (sym e.0))
    (subst (IsStatement sql (word w.Rollback ∷ ts)) (sym e.1 ∙ same) (g.rollback r))

release_forth : (sql : List ℕ) (us : List Symbol) (s : Statement) → IsRelease us s → IsStatement sql (word w.Release ∷ us) s
release_forth sql _ s (x, pair {us = ss} {vs = vs} {a = b} {b = c} q (n, name, is), same) =
    subst (λ (vs : List Symbol). IsStatement sql (word w.Release ∷ ss ++ vs) s) (sym name) (subst (IsStatement sql (word w.Release ∷ ss ++ Name n ∷ [])) (is ∙ same) (g.release q))

any_forth : (sql : List ℕ) (us : List Symbol) (s : Statement) → IsAny sql us s → IsStatement sql us s
any_forth sql _ s (this {us = us} (o, r, is)) = subst (IsStatement sql (word w.Create ∷ us)) is (g.create r)
any_forth sql _ s (other (this {us = us} r)) = drop_forth sql us s r
any_forth sql _ s (other (other (this {us = us} (q, r, is)))) = subst (IsStatement sql (word w.Select ∷ us)) is (g.select r)
any_forth sql _ s (other (other (other (this {us = us} c)))) = subst (IsStatement sql (word w.Pragma ∷ us)) c.is (g.checkpoint (pragma_is c.at) c.asked)
any_forth sql _ s (other (other (other (other (this {us = us} r))))) = begin_forth sql us s r
any_forth sql _ s (other (other (other (other (other (this {us = us} r)))))) = commit_forth sql us s r
any_forth sql _ s (other (other (other (other (other (other (this {us = us} r))))))) = rollback_forth sql us s r
any_forth sql _ s (other (other (other (other (other (other (other (this (n, name, is))))))))) =
    subst (λ (us : List Symbol). IsStatement sql (word w.Savepoint ∷ us) s) (sym name) (subst (IsStatement sql (word w.Savepoint ∷ Name n ∷ [])) is g.savepoint)
any_forth sql _ s (other (other (other (other (other (other (other (other (this {us = us} r))))))))) = release_forth sql us s r
any_forth sql us s (other (other (other (other (other (other (other (other (other (c, r, is)))))))))) = subst (IsStatement sql us) is (g.change r)

any_back : (sql : List ℕ) (us : List Symbol) (s : Statement) → IsStatement sql us s → IsAny sql us s
any_back sql _ _ (g.create {o = o} r) = this (o, r, refl)
any_back sql _ _ (g.drop {kind = kind} {n = n} k) = other (this ((kind, n), pair k refl, refl))
any_back sql _ _ (g.select {q = q} r) = other (other (this (q, r, refl)))
any_back sql _ _ (g.checkpoint {n = n} {argument = a} {mode = mode} p e) =
    other (other (other (this (record { name = n; argument = a; at = pragma_named p; mode = mode; asked = e; is = refl }))))
any_back sql _ _ (g.begin {mode = mode} {t = t} r q) = other (other (other (other (this (mode, ((mode, t), pair r q, refl), refl)))))
any_back sql _ _ (g.commit {t = t} q) = other (other (other (other (other (this ((statement.Commit, t), pair {us = []} (refl, refl) q, refl))))))
any_back sql _ _ (g.rollback {ts = ts} {t = t} q) =
    other (other (other (other (other (other (subst (λ (us : List Symbol). IsRolled (word w.Rollback ∷ us) statement.Rollback) (append-nil ts)
    (this ((t, statement.Rollback), pair q (other (refl, refl)), refl))))))))
any_back sql _ _ (g.rollback_to {t = t} {s = s} {n = n} q r) =
    other (other (other (other (other (other (this ((t, statement.RollbackTo n), pair q (this ((s, statement.RollbackTo n), pair r (n, refl, refl), refl)), refl)))))))
any_back sql _ _ (g.savepoint {n = n}) = other (other (other (other (other (other (other (this (n, refl, refl))))))))
any_back sql _ _ (g.release {s = s} {n = n} q) = other (other (other (other (other (other (other (other (this ((s, statement.Release n), pair q (n, refl, refl), refl)))))))))
any_back sql _ _ (g.change {c = c} r) = other (other (other (other (other (other (other (other (other (c, r, refl)))))))))

-- ---- words that aren't supported

pub unserved_turn : (v : Keyword) → is_unsupported_word v ≡ true → turn v ≡ 0
unserved_turn w.Alter h = refl
unserved_turn w.Analyze h = refl
unserved_turn w.Attach h = refl
unserved_turn w.Detach h = refl
unserved_turn w.Explain h = refl
unserved_turn w.Reindex h = refl
unserved_turn w.Replace h = refl
unserved_turn w.Vacuum h = refl
unserved_turn w.Values h = refl
unserved_turn w.With h = refl
unserved_turn _ h = absurd cc

served_word : (v : Keyword) → 0 < turn v → is_unsupported_word v ≡ false
served_word v some = by_test (is_unsupported_word v) refl
  where
    by_test : (b : Bool) → is_unsupported_word v ≡ b → b ≡ false
    by_test false e = refl
    by_test true e = let none = unserved_turn v e in absurd (omega (arith, some, none))

served_begun : (us rest : List Symbol) → Begun 10 us → begins_unserved (us ++ rest) ≡ false
unfolding begins_unserved
served_begun us rest b = ap (λ (ws : List Symbol). begins_unserved (ws ++ rest)) b.is ∙ served_word b.first (omega (arith, b.late))

not_syntax : {A : Type 0} (x : A × List Symbol) (b : Bool) (n : ℕ) → limited_by x b ≡ Err (Syntax n) → ⊥
not_syntax x true n h = absurd cc
not_syntax x false n h = absurd cc

no_change : (ts : List Symbol) → after_word w.Insert ts ≡ None → after_word w.Update ts ≡ None → after_word w.Delete ts ≡ None → change_from ts ≡ fail ts
unfolding change_from choose preceded word_from
no_change ts a b c = rw (a, b, c) refl

module _ (C : Law change_from IsChange is_change_within EndsStatement) where
  begins_change : Begins 10 IsChange
  begins_change us c r = by_insert (after_word w.Insert us) refl
    where
      read : change_from us ≡ limited_by (c, []) (is_change_within c)
      read = ap change_from (sym (append-nil us)) ∙ reads C us c [] r tt

      by_delete : (o : Option (List Symbol)) → after_word w.Insert us ≡ None → after_word w.Update us ≡ None → after_word w.Delete us ≡ o → Begun 10 us
      by_delete (Some vs) a b e = record { first = w.Delete; others = vs; is = after_word_is w.Delete us vs e; late = omega arith }
      by_delete None a b e = absurd (not_syntax (c, []) (is_change_within c) _ (sym read ∙ no_change us a b e))

      by_update : (o : Option (List Symbol)) → after_word w.Insert us ≡ None → after_word w.Update us ≡ o → Begun 10 us
      by_update (Some vs) a e = record { first = w.Update; others = vs; is = after_word_is w.Update us vs e; late = omega arith }
      by_update None a e = by_delete (after_word w.Delete us) a e refl

      by_insert : (o : Option (List Symbol)) → after_word w.Insert us ≡ o → Begun 10 us
      by_insert (Some vs) e = record { first = w.Insert; others = vs; is = after_word_is w.Insert us vs e; late = omega arith }
      by_insert None e = by_update (after_word w.Update us) e refl

  begins_changed : Begins 10 IsChanged
  begins_changed us s (c, r, is) = begins_change us c r

  exact_changed : Law (made statement.Change change_from) IsChanged is_statement_within EndsStatement
  exact_changed = exact_making C statement.Change is_statement_within (λ c. refl)

  served_takes : (ts : List Symbol) (x : Statement × List Symbol) → served_from ts ≡ Ok x → Used IsChanged is_statement_within ts x
  unfolding served_from
  served_takes ts x h = by_test (begins_unserved ts) h
    where
      by_test : (b : Bool) → (if b then Err Unsupported else made statement.Change change_from ts) ≡ Ok x → Used IsChanged is_statement_within ts x
      by_test true h = absurd cc
      by_test false h = exact_changed.exact.takes ts x h

  served_reads : (us : List Symbol) (s : Statement) (rest : List Symbol) → IsChanged us s → EndsStatement rest → served_from (us ++ rest) ≡ limited_by (s, rest) (is_statement_within s)
  unfolding served_from
  served_reads us s rest r f = let e = served_begun us rest (begins_changed us s r) in rw e (reads exact_changed us s rest r f)

  exact_served : Law served_from IsChanged is_statement_within EndsStatement
  exact_served = exactly served_takes served_reads exact_changed.single

  begins_let_go : Begins 9 IsLetGo
  begins_let_go = begins_or w.Release begins_changed

  begins_saved : Begins 8 IsSaved
  begins_saved = begins_or w.Savepoint begins_let_go

  begins_rolled : Begins 7 IsRolled
  begins_rolled = begins_or w.Rollback begins_saved

  begins_committed : Begins 6 IsCommitted
  begins_committed = begins_or w.Commit begins_rolled

  begins_transaction : Begins 5 IsTransaction
  begins_transaction = begins_or w.Begin begins_committed

  begins_asked : Begins 4 IsAsked
  begins_asked = begins_or w.Pragma begins_transaction

  begins_selected : Begins 3 IsSelected
  begins_selected = begins_or w.Select begins_asked

  begins_dropped : Begins 2 IsDropped
  begins_dropped = begins_or w.Drop begins_selected

  exact_transaction : Law transaction_from IsTransaction is_statement_within EndsStatement
  unfolding transaction_from
  exact_transaction =
      exact_or w.Begin exact_begin
      (exact_or w.Commit exact_commit
      (exact_or w.Rollback exact_rollback
      (exact_or w.Savepoint (exact_naming statement.Savepoint (λ n. refl))
      (exact_or w.Release exact_release exact_served (λ us s rest r f. begun_none w.Release us rest (begins_changed us s r))) (λ us s rest r f. begun_none w.Savepoint us rest (begins_let_go us s r)))
      (λ us s rest r f. begun_none w.Rollback us rest (begins_saved us s r))) (λ us s rest r f. begun_none w.Commit us rest (begins_rolled us s r)))
      (λ us s rest r f. begun_none w.Begin us rest (begins_committed us s r))

  module _ (O : Law object_from IsObject is_object_within EndsStatement) (S : Law selection_from IsSelection is_selection_within EndsStatement) where
    pub exact_statement : (sql : List ℕ) → Law (statement_from sql) (IsStatement sql) is_statement_within EndsStatement
    unfolding statement_from
    exact_statement sql =
        renamed (exact_or w.Create (exact_making O (reading.created sql) is_statement_within (λ o. refl))
        (exact_or w.Drop (weaker EndsStatement (λ rest f. tt) exact_drop)
        (exact_or w.Select (exact_making S statement.Select is_statement_within (λ q. refl))
        (exact_or w.Pragma exact_pragma exact_transaction (λ us s rest r f. begun_none w.Pragma us rest (begins_transaction us s r))) (λ us s rest r f. begun_none w.Select us rest (begins_asked us s r)))
        (λ us s rest r f. begun_none w.Drop us rest (begins_selected us s r))) (λ us s rest r f. begun_none w.Create us rest (begins_dropped us s r)))
        (IsStatement sql) (any_forth sql) (any_back sql)

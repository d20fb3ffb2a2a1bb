-- Names, lists of names, and parts in parentheses or after a word are read exactly.
use Rattle.std.proofs.Common.{◌≡◌, ℕ, zero, suc, ◌-◌, ◌≤◌, Bool, true, false, List, [], ◌∷◌, ◌++◌, length, Option, Some, None, Ok, Err, refl, sym, ap, subst, ◌∙◌, append_assoc, length-append, arith}
use Rattle.sql_lexer.specs.declared.keyword.Keyword.{Keyword}
use Rattle.sql_lexer.specs.declared.token.Kind.TheVariants as t
use Rattle.sql_syntax.specs.Tree.{Tree}
use Rattle.sql_expr.specs.declared.refusal.Refusal.TheVariants.{TooLong}
use Rattle.sql_expr.specs.Exact.{Used, Exact}
use Rattle.sql_expr.specs.Follows.{EndsExpression, EndsList, EndsAfter, Anything, ends_list, lacks_name, lacks_paren}
use Rattle.sql_expr.specs.Grammar.{IsExpression, AreExpressions, IsName, IsNames, last_name, next_name, Enclosed, enclosed, Optional, left_out, given, Preceded, preceded}
use Rattle.sql_expr.specs.Limits.{unlimited, is_shallow, are_shallow, if_given}
use Rattle.sql_expr.specs.Symbols.{Symbol, Plain, Name, word}
use Rattle.sql_expr.specs.Reading as spec
use Rattle.sql_expr.specs.Reading.{Read, ◌>>=◌, fail, after_word, mark_from, name_from, maybe_name_from, names_upto, names_from, enclosed_by, name_row_from, maybe_name_row_from, expression_from, expressions_from, row_from, enclosed_from, maybe_by, maybe_after_from}
use Rattle.sql_expr.proofs.Again.{follows_paren, ends_paren}
use Rattle.sql_expr.proofs.Exactly.{exact_expression, exact_expressions}
use Rattle.sql_expr.proofs.MarkTests.{mark_from_is, tells_left, tells_right}
use Rattle.sql_expr.proofs.Takes.{bind_ok, ok_is, done}
use Rattle.sql_expr.proofs.WordTests.{after_word_is, after_word_self}

-- ---- names

name_takes : (ts : List Symbol) (x : List ℕ × List Symbol) → name_from ts ≡ Ok x → Used IsName unlimited ts x
unfolding name_from
name_takes [] x h = absurd cc
name_takes (Name c ∷ ts) x h = subst (Used IsName unlimited (Name c ∷ ts)) (ok_is _ _ h) (record { used = Name c ∷ []; parts = refl; at = refl; within = refl })
name_takes (_ ∷ ts) x h = absurd cc

pub exact_name : Exact name_from IsName unlimited Anything
unfolding name_from
exact_name = record {
  takes = name_takes;
  again = λ us c rest r w f. ap (λ (ys : List Symbol). name_from (ys ++ rest)) r;
  late = λ us c rest r w f. absurd cc;
}

maybe_name_takes : (ts : List Symbol) (x : Option (List ℕ) × List Symbol) → maybe_name_from ts ≡ Ok x → Used (Optional IsName) unlimited ts x
unfolding maybe_name_from
maybe_name_takes [] x h = subst (Used (Optional IsName) unlimited []) (ok_is _ _ h) (record { used = []; parts = refl; at = left_out; within = refl })
maybe_name_takes (Name c ∷ ts) x h = subst (Used (Optional IsName) unlimited (Name c ∷ ts)) (ok_is _ _ h) (record { used = Name c ∷ []; parts = refl; at = given refl; within = refl })
maybe_name_takes (s ∷ ts) x h = subst (Used (Optional IsName) unlimited (s ∷ ts)) (ok_is _ _ h) (record { used = []; parts = refl; at = left_out; within = refl })

no_name : (rest : List Symbol) → lacks_name rest ≡ true → maybe_name_from rest ≡ Ok (None, rest)
unfolding maybe_name_from
no_name [] h = refl
no_name (Name c ∷ ts) h = absurd cc
no_name (_ ∷ ts) h = refl

maybe_name_again : (us : List Symbol) (x : Option (List ℕ)) (rest : List Symbol) → Optional IsName us x → lacks_name rest ≡ true → maybe_name_from (us ++ rest) ≡ Ok (x, rest)
unfolding maybe_name_from
maybe_name_again _ _ rest left_out f = no_name rest f
maybe_name_again _ _ rest (given {ts = us} {a = c} r) f = ap (λ (ys : List Symbol). maybe_name_from (ys ++ rest)) r

pub exact_maybe_name : Exact maybe_name_from (Optional IsName) unlimited (λ rest. lacks_name rest ≡ true)
exact_maybe_name = record { takes = maybe_name_takes; again = λ us x rest r w f. maybe_name_again us x rest r f; late = λ us x rest r w f. absurd cc }

-- ---- lists of names

record Listed (found : List (List ℕ)) (ts : List Symbol) (x : List (List ℕ) × List Symbol) : Type 0 where
  pub names : List (List ℕ)
  pub used : List Symbol
  pub parts : ts ≡ used ++ x.1
  pub at : IsNames used names
  pub all : x.0 ≡ found ++ names

names_stop : (found : List (List ℕ)) (c : List ℕ) (ts rest : List Symbol) (x : List (List ℕ) × List Symbol) → ts ≡ Name c ∷ rest → done (found ++ c ∷ [], rest) ≡ Ok x → Listed found ts x
names_stop found c ts rest x e h =
    subst (Listed found ts) (ok_is _ _ h) (record { names = c ∷ []; used = Name c ∷ []; parts = e; at = last_name; all = refl })

names_go : (n : ℕ) → ((found : List (List ℕ)) (ts : List Symbol) (x : List (List ℕ) × List Symbol) → names_upto n found ts ≡ Ok x → Listed found ts x)
    → (found : List (List ℕ)) (c : List ℕ) (ts rest : List Symbol) (x : List (List ℕ) × List Symbol) → ts ≡ Name c ∷ rest → spec.next_name (names_upto n) (found ++ c ∷ []) rest ≡ Ok x → Listed found ts x
names_go n ih found c ts [] x e h = names_stop found c ts [] x e h
names_go n ih found c ts (Plain t.Comma ∷ rest) x e h =
    let l = ih (found ++ c ∷ []) rest x h in record {
      names = c ∷ l.names;
      used = Name c ∷ Plain t.Comma ∷ l.used;
      parts = e ∙ ap (λ (us : List Symbol). Name c ∷ Plain t.Comma ∷ us) l.parts;
      at = next_name l.at;
      all = l.all ∙ append_assoc found (c ∷ []) l.names;
    }
names_go n ih found c ts (s ∷ rest) x e h = names_stop found c ts (s ∷ rest) x e h

names_take : (n : ℕ) (found : List (List ℕ)) (ts : List Symbol) (x : List (List ℕ) × List Symbol) → names_upto n found ts ≡ Ok x → Listed found ts x
unfolding names_upto
names_take zero found ts x h = absurd cc
names_take (suc n) found ts x h =
    let b = bind_ok (name_from ts) (λ c. spec.next_name (names_upto n) (found ++ c.0 ∷ []) c.1) x h in
    let u = name_takes ts b.0 b.1 in
    names_go n (names_take n) found b.0.0 ts b.0.1 x (u.parts ∙ ap (λ (us : List Symbol). us ++ b.0.1) u.at) b.2

names_end : (n : ℕ) (found : List (List ℕ)) (c : List ℕ) (rest : List Symbol) → ends_list rest ≡ true → names_upto (suc n) found (Name c ∷ rest) ≡ Ok (found ++ c ∷ [], rest)
unfolding names_upto name_from
names_end n found c [] f = refl
names_end n found c (Plain t.Comma ∷ ts) f = absurd cc
names_end n found c (_ ∷ ts) f = refl

names_next : (n : ℕ) (found : List (List ℕ)) (c : List ℕ) (rest : List Symbol) → names_upto (suc n) found (Name c ∷ Plain t.Comma ∷ rest) ≡ names_upto n (found ++ c ∷ []) rest
unfolding names_upto name_from
names_next n found c rest = refl

names_upto_again : {us : List Symbol} {cs : List (List ℕ)} → IsNames us cs → (n : ℕ) (found : List (List ℕ)) (rest : List Symbol) → length us ≤ n → ends_list rest ≡ true
    → names_upto n found (us ++ rest) ≡ Ok (found ++ cs, rest)
names_upto_again (last_name {c = c}) n found rest long f =
    let some : n ≡ suc (n - 1) = omega arith in
    ap (λ (k : ℕ). names_upto k found (Name c ∷ rest)) some ∙ names_end (n - 1) found c rest f
names_upto_again (next_name {c = c} {ts = us} {cs = cs} i) n found rest long f =
    let some : n ≡ suc (n - 1) = omega arith in
    ap (λ (k : ℕ). names_upto k found (Name c ∷ Plain t.Comma ∷ (us ++ rest))) some
    ∙ names_next (n - 1) found c (us ++ rest)
    ∙ names_upto_again i (n - 1) (found ++ c ∷ []) rest (omega arith) f
    ∙ ap (λ (x : List (List ℕ)). Ok (x, rest)) (append_assoc found (c ∷ []) cs)

names_takes : (ts : List Symbol) (x : List (List ℕ) × List Symbol) → names_from ts ≡ Ok x → Used IsNames unlimited ts x
names_takes ts x h =
    let l = names_take (length ts) [] ts x h in
    record { used = l.used; parts = l.parts; at = subst (IsNames l.used) (sym l.all) l.at; within = refl }

pub exact_names : Exact names_from IsNames unlimited (λ rest. ends_list rest ≡ true)
exact_names = record {
  takes = names_takes;
  again = λ us cs rest i w f. names_upto_again i (length (us ++ rest)) [] rest (omega (arith, length-append us rest)) f;
  late = λ us cs rest i w f. absurd cc;
}

-- ---- parts in parentheses

closing : (rest : List Symbol) → mark_from t.RightParen (Plain t.RightParen ∷ rest) ≡ Ok rest
unfolding mark_from
closing rest = refl

opening : (rest : List Symbol) → mark_from t.LeftParen (Plain t.LeftParen ∷ rest) ≡ Ok rest
unfolding mark_from
opening rest = refl

module _ {A : Type 0} (part : List Symbol → Read A) (Rule : List Symbol → A → Type 0) (limits : A → Bool) (Follow : List Symbol → Type 0) (exact : Exact part Rule limits Follow) (closes : (rest : List Symbol) → Follow (Plain t.RightParen ∷ rest)) where
  enclosed_takes : (ts : List Symbol) (x : A × List Symbol) → enclosed_by part ts ≡ Ok x → Used (Enclosed Rule) limits ts x
  unfolding enclosed_by
  enclosed_takes ts x h =
      let a = bind_ok (mark_from t.LeftParen ts) (λ inside. part inside >>= λ found. mark_from t.RightParen found.1 >>= λ after. done (found.0, after)) x h in
      let b = bind_ok (part a.0) (λ found. mark_from t.RightParen found.1 >>= λ after. done (found.0, after)) x a.2 in
      let c = bind_ok (mark_from t.RightParen b.0.1) (λ after. done (b.0.0, after)) x b.2 in
      let u = exact.takes a.0 b.0 b.1 in
      let whole = u.parts ∙ ap (λ (us : List Symbol). u.used ++ us) (mark_from_is t.RightParen tells_right b.0.1 c.0 c.1) ∙ sym (append_assoc u.used (Plain t.RightParen ∷ []) c.0) in
      subst (Used (Enclosed Rule) limits ts) (ok_is _ _ c.2) (record {
        used = Plain t.LeftParen ∷ (u.used ++ Plain t.RightParen ∷ []);
        parts = mark_from_is t.LeftParen tells_left ts a.0 a.1 ∙ ap (λ (us : List Symbol). Plain t.LeftParen ∷ us) whole;
        at = enclosed u.at;
        within = u.within;
      })

  enclosed_again : (us : List Symbol) (a : A) (rest : List Symbol) → Enclosed Rule us a → limits a ≡ true → enclosed_by part (us ++ rest) ≡ Ok (a, rest)
  unfolding enclosed_by
  enclosed_again _ _ rest (enclosed {ts = us} {a = a} r) w =
      let h = exact.again us a (Plain t.RightParen ∷ rest) r w (closes rest) in
      let k = closing rest in
      let l = opening (us ++ Plain t.RightParen ∷ rest) in
      rw (append_assoc us (Plain t.RightParen ∷ []) rest, l, h, k) refl

  enclosed_late : (us : List Symbol) (a : A) (rest : List Symbol) → Enclosed Rule us a → limits a ≡ false → enclosed_by part (us ++ rest) ≡ Err TooLong
  unfolding enclosed_by
  enclosed_late _ _ rest (enclosed {ts = us} {a = a} r) w =
      let h = exact.late us a (Plain t.RightParen ∷ rest) r w (closes rest) in
      let l = opening (us ++ Plain t.RightParen ∷ rest) in
      rw (append_assoc us (Plain t.RightParen ∷ []) rest, l, h) refl

  pub exact_enclosed : Exact (enclosed_by part) (Enclosed Rule) limits Anything
  exact_enclosed = record { takes = enclosed_takes; again = λ us a rest r w f. enclosed_again us a rest r w; late = λ us a rest r w f. enclosed_late us a rest r w }

pub exact_name_row : Exact name_row_from (Enclosed IsNames) unlimited Anything
exact_name_row = exact_enclosed names_from IsNames unlimited (λ rest. ends_list rest ≡ true) exact_names (λ rest. refl)

pub exact_row : Exact row_from (Enclosed AreExpressions) are_shallow Anything
exact_row = exact_enclosed expressions_from AreExpressions are_shallow EndsList exact_expressions (λ rest. ends_paren rest)

pub exact_enclosed_expression : Exact enclosed_from (Enclosed IsExpression) is_shallow Anything
exact_enclosed_expression = exact_enclosed expression_from IsExpression is_shallow EndsExpression exact_expression (λ rest. follows_paren 11 rest)

-- ---- parts that may be left out

maybe_row_takes : (ts : List Symbol) (x : Option (List (List ℕ)) × List Symbol) → maybe_name_row_from ts ≡ Ok x → Used (Optional (Enclosed IsNames)) unlimited ts x
unfolding maybe_name_row_from
maybe_row_takes [] x h = subst (Used (Optional (Enclosed IsNames)) unlimited []) (ok_is _ _ h) (record { used = []; parts = refl; at = left_out; within = refl })
maybe_row_takes (Plain t.LeftParen ∷ ts) x h =
    let b = bind_ok (name_row_from (Plain t.LeftParen ∷ ts)) (λ found. done (Some found.0, found.1)) x h in
    let u = exact_name_row.takes (Plain t.LeftParen ∷ ts) b.0 b.1 in
    subst (Used (Optional (Enclosed IsNames)) unlimited (Plain t.LeftParen ∷ ts)) (ok_is _ _ b.2) (record { used = u.used; parts = u.parts; at = given u.at; within = refl })
maybe_row_takes (s ∷ ts) x h = subst (Used (Optional (Enclosed IsNames)) unlimited (s ∷ ts)) (ok_is _ _ h) (record { used = []; parts = refl; at = left_out; within = refl })

no_row : (rest : List Symbol) → lacks_paren rest ≡ true → maybe_name_row_from rest ≡ Ok (None, rest)
unfolding maybe_name_row_from
no_row [] h = refl
no_row (Plain t.LeftParen ∷ ts) h = absurd cc
no_row (_ ∷ ts) h = refl

maybe_row_again : (us : List Symbol) (x : Option (List (List ℕ))) (rest : List Symbol) → Optional (Enclosed IsNames) us x → lacks_paren rest ≡ true → maybe_name_row_from (us ++ rest) ≡ Ok (x, rest)
unfolding maybe_name_row_from
maybe_row_again _ _ rest left_out f = no_row rest f
maybe_row_again _ _ rest (given {a = cs} (enclosed {ts = us} r)) f =
    let h = exact_name_row.again (Plain t.LeftParen ∷ us ++ Plain t.RightParen ∷ []) cs rest (enclosed r) refl tt in
    ap (λ (r : Read (List (List ℕ))). r >>= λ found. done (Some found.0, found.1)) h

pub exact_maybe_name_row : Exact maybe_name_row_from (Optional (Enclosed IsNames)) unlimited (λ rest. lacks_paren rest ≡ true)
exact_maybe_name_row = record { takes = maybe_row_takes; again = λ us x rest r w f. maybe_row_again us x rest r f; late = λ us x rest r w f. absurd cc }

-- ---- an expression after a word

behind_takes : (keyword : Keyword) (ts : List Symbol) (x : Option Tree × List Symbol) → maybe_after_from keyword ts ≡ Ok x → Used (Optional (Preceded (word keyword) IsExpression)) (if_given is_shallow) ts x
unfolding maybe_after_from
behind_takes keyword ts x h = by_found (after_word keyword ts) refl h
  where
    by_found : (f : Option (List Symbol)) → after_word keyword ts ≡ f → maybe_by ts f ≡ Ok x → Used (Optional (Preceded (word keyword) IsExpression)) (if_given is_shallow) ts x
    by_found None e h = subst (Used (Optional (Preceded (word keyword) IsExpression)) (if_given is_shallow) ts) (ok_is _ _ h) (record { used = []; parts = refl; at = left_out; within = refl })
    by_found (Some rest) e h =
        let b = bind_ok (expression_from rest) (λ y. done (Some y.0, y.1)) x h in
        let u = exact_expression.takes rest b.0 b.1 in
        subst (Used (Optional (Preceded (word keyword) IsExpression)) (if_given is_shallow) ts) (ok_is _ _ b.2) (record {
          used = word keyword ∷ u.used;
          parts = after_word_is keyword ts rest e ∙ ap (λ (us : List Symbol). word keyword ∷ us) u.parts;
          at = given (preceded u.at);
          within = u.within;
        })

behind_again : (keyword : Keyword) (us : List Symbol) (x : Option Tree) (rest : List Symbol) → Optional (Preceded (word keyword) IsExpression) us x → if_given is_shallow x ≡ true → EndsAfter keyword rest → maybe_after_from keyword (us ++ rest) ≡ Ok (x, rest)
unfolding maybe_after_from
behind_again keyword _ _ rest left_out w f = ap (maybe_by rest) f.1
behind_again keyword _ _ rest (given {a = e} (preceded {ts = us} at)) w f =
    let h = exact_expression.again us e rest at w f.0 in
    ap (maybe_by (word keyword ∷ us ++ rest)) (after_word_self keyword (us ++ rest)) ∙ ap (λ (r : Read Tree). r >>= λ y. done (Some y.0, y.1)) h

behind_late : (keyword : Keyword) (us : List Symbol) (x : Option Tree) (rest : List Symbol) → Optional (Preceded (word keyword) IsExpression) us x → if_given is_shallow x ≡ false → EndsAfter keyword rest → maybe_after_from keyword (us ++ rest) ≡ Err TooLong
unfolding maybe_after_from
behind_late keyword _ _ rest left_out w f = absurd cc
behind_late keyword _ _ rest (given {a = e} (preceded {ts = us} at)) w f =
    let h = exact_expression.late us e rest at w f.0 in
    ap (maybe_by (word keyword ∷ us ++ rest)) (after_word_self keyword (us ++ rest)) ∙ ap (λ (r : Read Tree). r >>= λ y. done (Some y.0, y.1)) h

pub exact_maybe_after : (keyword : Keyword) → Exact (maybe_after_from keyword) (Optional (Preceded (word keyword) IsExpression)) (if_given is_shallow) (EndsAfter keyword)
exact_maybe_after keyword = record { takes = behind_takes keyword; again = behind_again keyword; late = behind_late keyword }

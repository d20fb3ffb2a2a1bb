-- A reader is exact for a rule, and pieces are one thing of the rule at most.
use Rattle.std.proofs.Common.{◌≡◌, Bool, true, Option, Some, None, List, [], ◌∷◌, ◌++◌, refl, sym, ap, ◌∙◌, append_assoc}
use Rattle.sql_lexer.specs.declared.keyword.Keyword.{Keyword}
use Rattle.sql_lexer.specs.declared.token.Kind.TheVariants as k
use Rattle.sql_expr.specs.Exact.{Exact, Single}
use Rattle.sql_expr.specs.Follows.{Anything}
use Rattle.sql_expr.specs.Grammar.{Optional, left_out, given, Preceded, preceded, Enclosed, enclosed}
use Rattle.sql_expr.specs.Symbols.{Symbol, Plain, word}
use Rattle.sql_expr.specs.Reading.{Read, after_word}
use Rattle.sql_expr.proofs.Takes.{ok_is}
use Rattle.sql_expr.proofs.WordTests.{after_word_self}
use Rattle.sql_grammar.specs.Parts.{Before, before}

pub record Law {A : Type 0} (p : List Symbol → Read A) (R : List Symbol → A → Type 0) (fits : A → Bool) (F : List Symbol → Type 0) : Type 0 where
  pub exact : Exact p R fits F
  pub single : Single R F

-- ---- lists that are one

pub tail_is : (p : Symbol) (us vs : List Symbol) → p ∷ us ≡ p ∷ vs → us ≡ vs
tail_is p us vs h = cc

pub cons_is : {A : Type 0} {a b : A} {xs ys : List A} → a ≡ b → xs ≡ ys → a ∷ xs ≡ b ∷ ys
cons_is h l = λ i. h i ∷ l i

pub pair_is : {A B : Type 0} {a c : A} {b d : B} → a ≡ c → b ≡ d → ◌≡◌ {A = A × B} (a, b) (c, d)
pair_is h l = λ i. (h i, l i)

pub never_both : {A : Type 0} (o : Option A) (a : A) → o ≡ Some a → o ≡ None → ⊥
never_both o a h l = cc

-- ---- what is one thing at most

-- where nothing is too long, what is read again is one
pub single_free : {A : Type 0} {p : List Symbol → Read A} {R : List Symbol → A → Type 0} {fits : A → Bool} {F : List Symbol → Type 0} → ((a : A) → fits a ≡ true) → Exact p R fits F → Single R F
single_free {p = p} free e us vs a b rest after r s f g same =
    let both : (a, rest) ≡ (b, after) = ok_is _ _ (sym (e.again us a rest r (free a) f) ∙ ap p same ∙ e.again vs b after s (free b) g) in
    (ap (λ x. x.0) both, ap (λ x. x.1) both)

-- the law of a reader that refuses nothing as too long
pub free : {A : Type 0} {p : List Symbol → Read A} {R : List Symbol → A → Type 0} {fits : A → Bool} {F : List Symbol → Type 0} → ((a : A) → fits a ≡ true) → Exact p R fits F → Law p R fits F
free all e = record { exact = e; single = single_free all e }

module _ {A : Type 0} {R : List Symbol → A → Type 0} {F : List Symbol → Type 0} (one : Single R F) where
  pub single_behind : (p : Symbol) → Single (Preceded p R) F
  single_behind p _ _ a b rest after (preceded {ts = us} r) (preceded {ts = vs} s) f g same = one us vs a b rest after r s f g (tail_is p (us ++ rest) (vs ++ after) same)

  pub single_before : (p : Symbol) → ((rest : List Symbol) → F (p ∷ rest)) → Single (Before p R) Anything
  single_before p closes _ _ a b rest after (before {ts = us} r) (before {ts = vs} s) f g same =
      let x = one us vs a b (p ∷ rest) (p ∷ after) r s (closes rest) (closes after) (sym (append_assoc us (p ∷ []) rest) ∙ same ∙ append_assoc vs (p ∷ []) after) in
      (x.0, tail_is p rest after x.1)

  pub single_enclosed : ((rest : List Symbol) → F (Plain k.RightParen ∷ rest)) → Single (Enclosed R) Anything
  single_enclosed closes _ _ a b rest after (enclosed {ts = us} r) (enclosed {ts = vs} s) f g same =
      single_before (Plain k.RightParen) closes (us ++ Plain k.RightParen ∷ []) (vs ++ Plain k.RightParen ∷ []) a b rest after (before r) (before s) tt tt
      (tail_is (Plain k.LeftParen) ((us ++ Plain k.RightParen ∷ []) ++ rest) ((vs ++ Plain k.RightParen ∷ []) ++ after) same)

  pub single_maybe : (w : Keyword) → Single (Optional (Preceded (word w) R)) (λ rest. F rest × (after_word w rest ≡ None))
  single_maybe w _ _ _ _ rest after left_out left_out f g same = (refl, same)
  single_maybe w _ _ _ _ rest after left_out (given (preceded {ts = vs} s)) f g same = absurd (never_both (after_word w rest) (vs ++ after) (ap (after_word w) same ∙ after_word_self w (vs ++ after)) f.1)
  single_maybe w _ _ _ _ rest after (given (preceded {ts = us} r)) left_out f g same = absurd (never_both (after_word w after) (us ++ rest) (ap (after_word w) (sym same) ∙ after_word_self w (us ++ rest)) g.1)
  single_maybe w _ _ _ _ rest after (given {a = a} (preceded {ts = us} r)) (given {a = b} (preceded {ts = vs} s)) f g same =
      let x = one us vs a b rest after r s f.0 g.0 (tail_is (word w) (us ++ rest) (vs ++ after) same) in
      (ap (λ (a : A). Some a) x.0, x.1)

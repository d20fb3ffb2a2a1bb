-- A choice by a mark is read exactly.
use Rattle.std.proofs.Common.{◌≡◌, Bool, Option, Some, None, List, [], ◌∷◌, ◌++◌, Ok, refl, sym, ap, ◌∙◌, ◌⊎◌, inl, inr}
use Rattle.sql_lexer.specs.declared.token.Kind.TheVariants as k
use Rattle.sql_expr.specs.Exact.{Used, Single}
use Rattle.sql_expr.specs.Grammar.{Preceded, preceded}
use Rattle.sql_expr.specs.Symbols.{Symbol, Plain}
use Rattle.sql_expr.specs.Reading.{after_comma, after_paren, mark_from}
use Rattle.sql_grammar.specs.Readers.{Reader, choose_by, choose_comma, limited_by}
use Rattle.sql_grammar.proofs.Exact.{exactly, reads}
use Rattle.sql_grammar.proofs.Law.{Law, tail_is, never_both}

-- one rule after a piece, or another
abbrev pub OrPreceded : {A : Type 0} → Symbol → (List Symbol → A → Type 0) → (List Symbol → A → Type 0) → List Symbol → A → Type 0
OrPreceded m R S us a = Preceded m R us a ⊎ S us a

module _ {A : Type 0} (m : Symbol) (after : List Symbol → Option (List Symbol)) (is : (ts rest : List Symbol) → after ts ≡ Some rest → ts ≡ m ∷ rest) (self : (ts : List Symbol) → after (m ∷ ts) ≡ Some ts)
    {p : Reader A} {R : List Symbol → A → Type 0} {q : Reader A} {S : List Symbol → A → Type 0} {f : A → Bool} {F : List Symbol → Type 0}
    (P : Law p R f F) (Q : Law q S f F) (lacks : (us : List Symbol) (a : A) (rest : List Symbol) → S us a → F rest → after (us ++ rest) ≡ None) where
  found_takes : (ts : List Symbol) (x : A × List Symbol) (found : Option (List Symbol)) → after ts ≡ found → choose_by p q ts found ≡ Ok x → Used (OrPreceded m R S) f ts x
  found_takes ts x (Some rest) e h =
      let u = P.exact.takes rest x h in
      record { used = m ∷ u.used; parts = is ts rest e ∙ ap (λ (us : List Symbol). m ∷ us) u.parts; at = inl (preceded u.at); within = u.within }
  found_takes ts x None e h = let u = Q.exact.takes ts x h in record { used = u.used; parts = u.parts; at = inr u.at; within = u.within }

  found_reads : (us : List Symbol) (a : A) (rest : List Symbol) → OrPreceded m R S us a → F rest → choose_by p q (us ++ rest) (after (us ++ rest)) ≡ limited_by (a, rest) (f a)
  found_reads _ a rest (inl (preceded {ts = us} r)) more = ap (choose_by p q (m ∷ us ++ rest)) (self (us ++ rest)) ∙ reads P us a rest r more
  found_reads us a rest (inr s) more = ap (choose_by p q (us ++ rest)) (lacks us a rest s more) ∙ reads Q us a rest s more

  found_single : Single (OrPreceded m R S) F
  found_single _ _ a b rest left (inl (preceded {ts = us} r)) (inl (preceded {ts = vs} s)) more far same = P.single us vs a b rest left r s more far (tail_is m (us ++ rest) (vs ++ left) same)
  found_single _ vs a b rest left (inl (preceded {ts = us} r)) (inr s) more far same =
      absurd (never_both (after (vs ++ left)) (us ++ rest) (ap after (sym same) ∙ self (us ++ rest)) (lacks vs b left s far))
  found_single us _ a b rest left (inr r) (inl (preceded {ts = vs} s)) more far same =
      absurd (never_both (after (us ++ rest)) (vs ++ left) (ap after same ∙ self (vs ++ left)) (lacks us a rest r more))
  found_single us vs a b rest left (inr r) (inr s) more far same = Q.single us vs a b rest left r s more far same

  pub exact_choose_by : Law (λ ts. choose_by p q ts (after ts)) (OrPreceded m R S) f F
  exact_choose_by = exactly (λ ts x h. found_takes ts x (after ts) refl h) found_reads found_single

-- ---- marks

pub comma_is : (ts rest : List Symbol) → after_comma ts ≡ Some rest → ts ≡ Plain k.Comma ∷ rest
unfolding after_comma
comma_is [] rest h = absurd cc
comma_is (Plain k.Comma ∷ ts) rest h = cc
comma_is (_ ∷ ts) rest h = absurd cc

pub comma_self : (ts : List Symbol) → after_comma (Plain k.Comma ∷ ts) ≡ Some ts
unfolding after_comma
comma_self ts = refl

pub paren_is : (ts rest : List Symbol) → after_paren ts ≡ Some rest → ts ≡ Plain k.LeftParen ∷ rest
unfolding after_paren
paren_is [] rest h = absurd cc
paren_is (Plain k.LeftParen ∷ ts) rest h = cc
paren_is (_ ∷ ts) rest h = absurd cc

pub paren_self : (ts : List Symbol) → after_paren (Plain k.LeftParen ∷ ts) ≡ Some ts
unfolding after_paren
paren_self ts = refl

pub left_self : (ts : List Symbol) → mark_from k.LeftParen (Plain k.LeftParen ∷ ts) ≡ Ok ts
unfolding mark_from
left_self ts = refl

pub right_self : (ts : List Symbol) → mark_from k.RightParen (Plain k.RightParen ∷ ts) ≡ Ok ts
unfolding mark_from
right_self ts = refl

pub semicolon_self : (ts : List Symbol) → mark_from k.Semicolon (Plain k.Semicolon ∷ ts) ≡ Ok ts
unfolding mark_from
semicolon_self ts = refl

-- ---- one rule after a comma, or another

abbrev pub OrComma : {A : Type 0} → (List Symbol → A → Type 0) → (List Symbol → A → Type 0) → List Symbol → A → Type 0
OrComma = OrPreceded (Plain k.Comma)

pub exact_choose_comma : {A : Type 0} {p : Reader A} {R : List Symbol → A → Type 0} {q : Reader A} {S : List Symbol → A → Type 0} {f : A → Bool} {F : List Symbol → Type 0} → Law p R f F → Law q S f F
    → ((us : List Symbol) (a : A) (rest : List Symbol) → S us a → F rest → after_comma (us ++ rest) ≡ None) → Law (choose_comma p q) (OrComma R S) f F
unfolding choose_comma
exact_choose_comma P Q lacks = exact_choose_by (Plain k.Comma) after_comma comma_is comma_self P Q lacks

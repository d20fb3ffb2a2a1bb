-- Rules that a first word chooses are read exactly.
use Rattle.std.proofs.Common.{◌≡◌, ℕ, suc, ◌≤◌, Bool, true, false, Option, Some, None, List, ◌∷◌, ◌++◌, Ok, Err, refl, sym, ap, ◌∙◌, arith, ◌⊎◌, inl, inr}
use Rattle.sql_lexer.specs.declared.keyword.Keyword.{Keyword}
use Rattle.sql_lexer.specs.declared.keyword.Keyword.TheVariants as w
use Rattle.sql_expr.specs.Symbols.{Symbol, word, same_word}
use Rattle.sql_expr.specs.Reading.{Read, ◌>>=◌, after_word, optional_from, or_all}
use Rattle.sql_expr.proofs.Takes.{done}
use Rattle.sql_expr.proofs.WordTests.{word_is}
use Rattle.sql_grammar.specs.Parts.{Both, Said}
use Rattle.sql_grammar.specs.Readers.{Reader, yields, made, both, choose, choose_by, optionally, trailed}
use Rattle.sql_grammar.proofs.Exact.{weaker, exact_both, exact_made, exact_choose, exact_said, and_one}
use Rattle.sql_grammar.proofs.Law.{Law}
use Rattle.sql_grammar.proofs.Endings.{word_none}

-- ---- the same in other words

-- what is made of a thing of a rule
abbrev pub Made : {A B : Type 0} → (A → B) → (List Symbol → A → Type 0) → List Symbol → B → Type 0
Made {A} make R us b = (a : A) × (R us a) × (make a ≡ b)

module _ {A : Type 0} {p : Reader A} {R : List Symbol → A → Type 0} {f : A → Bool} {F : List Symbol → Type 0} (P : Law p R f F) where
  pub exact_making : {B : Type 0} (make : A → B) (g : B → Bool) → ((a : A) → g (make a) ≡ f a) → Law (made make p) (Made make R) g F
  exact_making make g same = exact_made make (Made make R) g P (λ us a r. (a, r, refl)) (λ us b s. s) same

  -- a reader that gives the same
  pub alike : (q : Reader A) → ((ts : List Symbol) → q ts ≡ p ts) → Law q R f F
  alike q same = record {
    exact = record {
      takes = λ ts x h. P.exact.takes ts x (sym (same ts) ∙ h);
      again = λ us a rest r t more. same (us ++ rest) ∙ P.exact.again us a rest r t more;
      late = λ us a rest r t more. same (us ++ rest) ∙ P.exact.late us a rest r t more;
    };
    single = P.single;
  }

  -- a rule that has the same
  pub renamed : (S : List Symbol → A → Type 0) → ((us : List Symbol) (a : A) → R us a → S us a) → ((us : List Symbol) (a : A) → S us a → R us a) → Law p S f F
  renamed S forth back = record {
    exact = record {
      takes = λ ts x h. let u = P.exact.takes ts x h in record { used = u.used; parts = u.parts; at = forth u.used x.0 u.at; within = u.within };
      again = λ us a rest s t more. P.exact.again us a rest (back us a s) t more;
      late = λ us a rest s t more. P.exact.late us a rest (back us a s) t more;
    };
    single = λ us vs a b rest after s t more far same. P.single us vs a b rest after (back us a s) (back vs b t) more far same;
  }

  -- limits that are the same for what the rule has
  pub relimited : (g : A → Bool) → ((us : List Symbol) (a : A) → R us a → g a ≡ f a) → Law p R g F
  relimited g same = record {
    exact = record {
      takes = λ ts x h. let u = P.exact.takes ts x h in record { used = u.used; parts = u.parts; at = u.at; within = same u.used x.0 u.at ∙ u.within };
      again = λ us a rest r t more. P.exact.again us a rest r (sym (same us a r) ∙ t) more;
      late = λ us a rest r t more. P.exact.late us a rest r (sym (same us a r) ∙ t) more;
    };
    single = P.single;
  }

-- ---- one rule after its word, or another

pub data Or {A : Type 0} (v : Keyword) (R S : List Symbol → A → Type 0) : List Symbol → A → Type 0 where
  this : {us : List Symbol} {a : A} → R us a → Or v R S (word v ∷ us) a
  other : {us : List Symbol} {a : A} → S us a → Or v R S us a

module _ {A : Type 0} (v : Keyword) {p : Reader A} {R : List Symbol → A → Type 0} {q : Reader A} {S : List Symbol → A → Type 0} {f : A → Bool} {F : List Symbol → Type 0}
    (P : Law p R f F) (Q : Law q S f F) (lacks : (us : List Symbol) (a : A) (rest : List Symbol) → S us a → F rest → after_word v (us ++ rest) ≡ None) where
  or_split : (us : List Symbol) (a : A) (rest : List Symbol) → Or v R S us a → F rest
      → ((vs : List Symbol) × (us ≡ word v ∷ vs) × R vs a × F rest) ⊎ ((after_word v (us ++ rest) ≡ None) × S us a × F rest)
  or_split _ a rest (this {us = us} r) more = inl (us, refl, r, more)
  or_split us a rest (other s) more = inr (lacks us a rest s more, s, more)

  pub exact_or : Law (choose v p q) (Or v R S) f F
  exact_or = exact_choose v (Or v R S) P Q (λ us a r. this r) (λ us a s. other s) or_split

-- the places of words among those that a choice asks for
abbrev pub turn : Keyword → ℕ
turn w.Create = 1
turn w.Drop = 2
turn w.Select = 3
turn w.Pragma = 4
turn w.Begin = 5
turn w.Commit = 6
turn w.Rollback = 7
turn w.Savepoint = 8
turn w.Release = 9
turn w.Insert = 10
turn w.Update = 10
turn w.Delete = 10
turn w.Table = 1
turn w.Index = 2
turn w.View = 3
turn w.Trigger = 4
turn _ = 0

-- the pieces begin with a word of this turn or a later one
pub record Begun (n : ℕ) (us : List Symbol) : Type 0 where
  pub first : Keyword
  pub others : List Symbol
  pub is : us ≡ word first ∷ others
  pub late : n ≤ turn first

-- all that a rule has begins so
abbrev pub Begins : {A : Type 0} → ℕ → (List Symbol → A → Type 0) → Type 0
Begins {A} n S = (us : List Symbol) (a : A) → S us a → Begun n us

pub other_word : (v u : Keyword) → (turn u ≡ turn v → ⊥) → same_word u v ≡ false
other_word v u apart = by_test (same_word u v) refl
  where
    by_test : (b : Bool) → same_word u v ≡ b → b ≡ false
    by_test false e = refl
    by_test true e = absurd (apart (ap turn (word_is u v e)))

pub begun_none : (v : Keyword) (us rest : List Symbol) → Begun (suc (turn v)) us → after_word v (us ++ rest) ≡ None
begun_none v us rest b =
    ap (λ (ws : List Symbol). after_word v (ws ++ rest)) b.is ∙ word_none v b.first (b.others ++ rest) (other_word v b.first (λ same. omega (arith, same, b.late)))

pub begins_or : {A : Type 0} (v : Keyword) {R S : List Symbol → A → Type 0} → Begins (suc (turn v)) S → Begins (turn v) (Or v R S)
begins_or v later _ a (this {us = us} r) = record { first = v; others = us; is = refl; late = omega arith }
begins_or v later us a (other s) = let b = later us a s in record { first = b.first; others = b.others; is = b.is; late = omega (arith, b.late) }

-- ---- words that may be left out

-- with the word before it, or without
abbrev pub Led : {A : Type 0} → Keyword → (List Symbol → A → Type 0) → List Symbol → A → Type 0
Led {A} v R = Made {A = Bool × A} (λ x. x.1) (Both (Said (word v)) R)

-- with the word after it, or without
abbrev pub Trailed : {A : Type 0} → Keyword → (List Symbol → A → Type 0) → List Symbol → A → Type 0
Trailed {A} v R = Made {A = A × Bool} (λ x. x.0) (Both R (Said (word v)))

module _ {A : Type 0} (v : Keyword) {p : Reader A} {R : List Symbol → A → Type 0} {f : A → Bool} {F : List Symbol → Type 0} (P : Law p R f F) where
  led_same : (ts : List Symbol) → optionally v p ts ≡ made {A = Bool × A} (λ x. x.1) (both (choose v (yields true) (yields false)) p) ts
  unfolding optionally made both choose yields optional_from
  led_same ts = by_found (after_word v ts)
    where
      by_read : (b : Bool) (r : Read A) → r ≡ ((r >>= λ x. done {A = (Bool × A) × List Symbol} ((b, x.0), x.1)) >>= λ y. done {A = A × List Symbol} (y.0.1, y.1))
      by_read b (Ok x) = refl
      by_read b (Err e) = refl

      by_found : (o : Option (List Symbol)) → p (or_all ts o)
          ≡ ((choose_by (yields true) (yields false) ts o >>= λ a. p a.1 >>= λ x. done {A = (Bool × A) × List Symbol} ((a.0, x.0), x.1)) >>= λ y. done {A = A × List Symbol} (y.0.1, y.1))
      by_found (Some rest) = by_read true (p rest)
      by_found None = by_read false (p ts)

  pub exact_optionally : ((us : List Symbol) (a : A) (rest : List Symbol) → R us a → F rest → after_word v (us ++ rest) ≡ None) → Law (optionally v p) (Led v R) f F
  exact_optionally lacks = alike (exact_making (exact_both (exact_said v) P lacks) (λ x. x.1) f (λ x. refl)) (optionally v p) led_same

  trailed_same : (ts : List Symbol) → trailed v p ts ≡ made {A = A × Bool} (λ x. x.0) (both p (choose v (yields true) (yields false))) ts
  unfolding trailed made both choose yields optional_from
  trailed_same ts = by_read (p ts)
    where
      by_found : (a : A) (rest : List Symbol) (o : Option (List Symbol)) → done {A = A × List Symbol} (a, or_all rest o)
          ≡ ((choose_by (yields true) (yields false) rest o >>= λ b. done {A = (A × Bool) × List Symbol} ((a, b.0), b.1)) >>= λ y. done {A = A × List Symbol} (y.0.0, y.1))
      by_found a rest (Some us) = refl
      by_found a rest None = refl

      by_read : (r : Read A) → (r >>= λ x. done {A = A × List Symbol} (x.0, or_all x.1 (after_word v x.1)))
          ≡ ((r >>= λ a. choose_by (yields true) (yields false) a.1 (after_word v a.1) >>= λ b. done {A = (A × Bool) × List Symbol} ((a.0, b.0), b.1)) >>= λ y. done {A = A × List Symbol} (y.0.0, y.1))
      by_read (Ok x) = by_found x.0 x.1 (after_word v x.1)
      by_read (Err e) = refl

  pub exact_trailed : (G : List Symbol → Type 0) → ((rest : List Symbol) → G rest → after_word v rest ≡ None) → ((us : List Symbol) (b : Bool) (rest : List Symbol) → Said (word v) us b → G rest → F (us ++ rest))
      → Law (trailed v p) (Trailed v R) f G
  exact_trailed G lacks before = alike (exact_making (exact_both P (weaker G lacks (exact_said v)) before) (λ x. x.0) f (λ x. and_one (f x.0))) (trailed v p) trailed_same

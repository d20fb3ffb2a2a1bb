-- Readers made of exact readers are exact.
use Rattle.std.proofs.Common.{◌≡◌, Bool, true, false, ◌&&◌, Option, Some, None, List, [], ◌∷◌, ◌++◌, Ok, refl, sym, ap, subst, ◌∙◌, append_assoc, ◌⊎◌, inl, inr}
use Rattle.sql_lexer.specs.declared.keyword.Keyword.{Keyword}
use Rattle.sql_expr.specs.Exact.{Used, Single}
use Rattle.sql_expr.specs.Grammar.{Optional, left_out, given, Preceded}
use Rattle.sql_expr.specs.Grammar as g
use Rattle.sql_expr.specs.Limits.{unlimited, if_given}
use Rattle.sql_lexer.specs.declared.token.Kind.{Kind}
use Rattle.sql_expr.specs.Symbols.{Symbol, Plain, word}
use Rattle.sql_expr.specs.Reading.{Read, ◌>>=◌, after_word, word_from, mark_from}
use Rattle.sql_expr.proofs.Takes.{bind_ok, ok_is, done}
use Rattle.sql_expr.proofs.WordTests.{after_word_is, after_word_self, word_from_is, word_from_self}
use Rattle.sql_expr.specs.Follows.{Anything}
use Rattle.sql_grammar.specs.Parts.{Both, pair, Before, before, Said, said, unsaid}
use Rattle.sql_grammar.proofs.Law.{Law, tail_is, pair_is, never_both, single_behind, single_before, single_maybe}
use Rattle.sql_grammar.specs.Readers.{Reader, yields, made, both, preceded, after_mark, before_mark, choose, choose_by, maybe, limited, limited_by}

-- what an exact reader gives
pub reads : {A : Type 0} {p : Reader A} {R : List Symbol → A → Type 0} {fits : A → Bool} {F : List Symbol → Type 0} → Law p R fits F
    → (us : List Symbol) (a : A) (rest : List Symbol) → R us a → F rest → p (us ++ rest) ≡ limited_by (a, rest) (fits a)
reads {p = p} {fits = fits} e us a rest r f = by_test (fits a) refl
  where
    by_test : (b : Bool) → fits a ≡ b → p (us ++ rest) ≡ limited_by (a, rest) b
    by_test true t = e.exact.again us a rest r t f
    by_test false t = e.exact.late us a rest r t f

pub exactly : {A : Type 0} {p : Reader A} {R : List Symbol → A → Type 0} {fits : A → Bool} {F : List Symbol → Type 0}
    → ((ts : List Symbol) (x : A × List Symbol) → p ts ≡ Ok x → Used R fits ts x)
    → ((us : List Symbol) (a : A) (rest : List Symbol) → R us a → F rest → p (us ++ rest) ≡ limited_by (a, rest) (fits a)) → Single R F → Law p R fits F
exactly takes reads single = record {
  exact = record {
    takes = takes;
    again = λ us a rest r t f. reads us a rest r f ∙ ap (limited_by (a, rest)) t;
    late = λ us a rest r t f. reads us a rest r f ∙ ap (limited_by (a, rest)) t;
  };
  single = single;
}

pub weaker : {A : Type 0} {p : Reader A} {R : List Symbol → A → Type 0} {fits : A → Bool} {F : List Symbol → Type 0} (G : List Symbol → Type 0)
    → ((rest : List Symbol) → G rest → F rest) → Law p R fits F → Law p R fits G
weaker G less e = record {
  exact = record { takes = e.exact.takes; again = λ us a rest r t f. e.exact.again us a rest r t (less rest f); late = λ us a rest r t f. e.exact.late us a rest r t (less rest f) };
  single = λ us vs a b rest after r s f g same. e.single us vs a b rest after r s (less rest f) (less after g) same;
}

both_by : {A B : Type 0} (f g : Bool) (a : A) (b : B) (mid rest : List Symbol) (r : Read A) (q : Reader B) → r ≡ limited_by (a, mid) f → q mid ≡ limited_by (b, rest) g
    → (r >>= λ x. q x.1 >>= λ y. Ok ((x.0, y.0), y.1)) ≡ limited_by {A = A × B} ((a, b), rest) (f && g)
both_by true true a b mid rest r q h k = rw (h, k) refl
both_by true false a b mid rest r q h k = rw (h, k) refl
both_by false g a b mid rest r q h k = rw h refl

pub and_true : (f g : Bool) → f ≡ true → g ≡ true → (f && g) ≡ true
and_true f g a b = rw (a, b) refl

pub and_one : (b : Bool) → b ≡ (b && true)
and_one true = refl
and_one false = refl

pub any : {A : Type 0} (x : Option A) → if_given unlimited x ≡ true
any None = refl
any (Some a) = refl

module _ {A B : Type 0} {p : Reader A} {R : List Symbol → A → Type 0} {f : A → Bool} {F : List Symbol → Type 0} {q : Reader B} {S : List Symbol → B → Type 0} {g : B → Bool}
    {G : List Symbol → Type 0} (P : Law p R f F) (Q : Law q S g G) (before : (vs : List Symbol) (b : B) (rest : List Symbol) → S vs b → G rest → F (vs ++ rest)) where
  both_takes : (ts : List Symbol) (x : (A × B) × List Symbol) → both p q ts ≡ Ok x → Used (Both R S) (λ x. f x.0 && g x.1) ts x
  unfolding both
  both_takes ts x h =
      let a = bind_ok (p ts) (λ a. q a.1 >>= λ b. Ok ((a.0, b.0), b.1)) x h in
      let b = bind_ok (q a.0.1) (λ b. Ok ((a.0.0, b.0), b.1)) x a.2 in
      let u = P.exact.takes ts a.0 a.1 in
      let v = Q.exact.takes a.0.1 b.0 b.1 in
      subst (Used (Both R S) (λ x. f x.0 && g x.1) ts) (ok_is _ _ b.2) (record {
        used = u.used ++ v.used;
        parts = u.parts ∙ ap (λ (us : List Symbol). u.used ++ us) v.parts ∙ sym (append_assoc u.used v.used b.0.1);
        at = pair u.at v.at;
        within = and_true (f a.0.0) (g b.0.0) u.within v.within;
      })

  both_reads : (us : List Symbol) (x : A × B) (rest : List Symbol) → Both R S us x → G rest → both p q (us ++ rest) ≡ limited_by (x, rest) (f x.0 && g x.1)
  unfolding both
  both_reads _ _ rest (pair {us = us} {vs = vs} {a = a} {b = b} r s) more =
      let h = reads P us a (vs ++ rest) r (before vs b rest s more) in
      let k = reads Q vs b rest s more in
      rw (append_assoc us vs rest) (both_by (f a) (g b) a b (vs ++ rest) rest (p (us ++ (vs ++ rest))) q h k)

  both_single : Single (Both R S) G
  both_single _ _ _ _ rest after (pair {us = us} {vs = vs} {a = a} {b = b} r s) (pair {us = ws} {vs = xs} {a = c} {b = d} t u) more far same =
      let one =
      P.single us ws a c (vs ++ rest) (xs ++ after) r t (before vs b rest s more) (before xs d after u far) (sym (append_assoc us vs rest) ∙ same ∙ append_assoc ws xs after) in
      let other = Q.single vs xs b d rest after s u more far one.1 in
      (pair_is one.0 other.0, other.1)

  pub exact_both : Law (both p q) (Both R S) (λ x. f x.0 && g x.1) G
  exact_both = exactly both_takes both_reads both_single

made_by : {A B : Type 0} (make : A → B) (f : Bool) (a : A) (rest : List Symbol) (r : Read A) → r ≡ limited_by (a, rest) f → (r >>= λ x. Ok (make x.0, x.1)) ≡ limited_by (make a, rest) f
made_by make true a rest r h = rw h refl
made_by make false a rest r h = rw h refl

module _ {A B : Type 0} {p : Reader A} {R : List Symbol → A → Type 0} {f : A → Bool} {F : List Symbol → Type 0} (make : A → B) (S : List Symbol → B → Type 0) (g : B → Bool)
    (P : Law p R f F) (forth : (us : List Symbol) (a : A) → R us a → S us (make a)) (back : (us : List Symbol) (b : B) → S us b → (a : A) × (R us a) × (make a ≡ b))
    (same : (a : A) → g (make a) ≡ f a) where
  made_takes : (ts : List Symbol) (x : B × List Symbol) → made make p ts ≡ Ok x → Used S g ts x
  unfolding made
  made_takes ts x h =
      let a = bind_ok (p ts) (λ a. Ok (make a.0, a.1)) x h in
      let u = P.exact.takes ts a.0 a.1 in
      subst (Used S g ts) (ok_is _ _ a.2) (record { used = u.used; parts = u.parts; at = forth u.used a.0.0 u.at; within = same a.0.0 ∙ u.within })

  made_reads : (us : List Symbol) (b : B) (rest : List Symbol) → S us b → F rest → made make p (us ++ rest) ≡ limited_by (b, rest) (g b)
  unfolding made
  made_reads us b rest s more =
      let a = back us b s in
      let h = made_by make (f a.0) a.0 rest (p (us ++ rest)) (reads P us a.0 rest a.1 more) in
      subst (λ (b : B). made make p (us ++ rest) ≡ limited_by (b, rest) (g b)) a.2 (h ∙ ap (limited_by (make a.0, rest)) (sym (same a.0)))

  made_single : Single S F
  made_single us vs b d rest after s t more far same =
      let x = back us b s in
      let y = back vs d t in
      let one = P.single us vs x.0 y.0 rest after x.1 y.1 more far same in
      (sym x.2 ∙ ap make one.0 ∙ y.2, one.1)

  pub exact_made : Law (made make p) S g F
  exact_made = exactly made_takes made_reads made_single

limit_by : {A : Type 0} (f g : Bool) (a : A) (rest : List Symbol) (fits : A → Bool) (r : Read A) → g ≡ fits a → r ≡ limited_by (a, rest) f → (r >>= λ x. limited_by x (fits x.0)) ≡ limited_by (a, rest) (f && g)
limit_by true g a rest fits r e h = rw (h, e) refl
limit_by false g a rest fits r e h = rw h refl

fit_is : {A : Type 0} (x y : A × List Symbol) (fits : A → Bool) (b : Bool) → fits x.0 ≡ b → limited_by x b ≡ Ok y → (x ≡ y) × (fits x.0 ≡ true)
fit_is x y fits true e h = (ok_is _ _ h, e)
fit_is x y fits false e h = absurd cc

module _ {A : Type 0} {p : Reader A} {R : List Symbol → A → Type 0} {f : A → Bool} {F : List Symbol → Type 0} (fits : A → Bool) (P : Law p R f F) where
  limited_takes : (ts : List Symbol) (x : A × List Symbol) → limited fits p ts ≡ Ok x → Used R (λ a. f a && fits a) ts x
  unfolding limited
  limited_takes ts x h =
      let a = bind_ok (p ts) (λ a. limited_by a (fits a.0)) x h in
      let u = P.exact.takes ts a.0 a.1 in
      let k = fit_is a.0 x fits (fits a.0.0) refl a.2 in
      subst (Used R (λ a. f a && fits a) ts) k.0 (record { used = u.used; parts = u.parts; at = u.at; within = and_true (f a.0.0) (fits a.0.0) u.within k.1 })

  pub exact_limited : Law (limited fits p) R (λ a. f a && fits a) F
  unfolding limited
  exact_limited = exactly limited_takes (λ us a rest r more. limit_by (f a) (fits a) a rest fits (p (us ++ rest)) refl (reads P us a rest r more)) P.single

-- nothing is read
pub exact_yields : {A : Type 0} (a : A) (R : List Symbol → A → Type 0) (fits : A → Bool) (F : List Symbol → Type 0) → R [] a → fits a ≡ true
    → ((us : List Symbol) (b : A) → R us b → (us ≡ []) × (b ≡ a)) → Law (yields a) R fits F
unfolding yields
exact_yields a R fits F r t only = exactly
    (λ ts x h. subst (Used R fits ts) (ok_is (a, ts) x h) (record { used = []; parts = refl; at = r; within = t }))
    (λ us b rest s f. let e = only us b s in rw (e.0, e.1, t) refl)
    (λ us vs b c rest after s u f g same.
    let e = only us b s in
    let h = only vs c u in
    (e.1 ∙ sym h.1, ap (λ (ws : List Symbol). ws ++ rest) (sym e.0) ∙ same ∙ ap (λ (ws : List Symbol). ws ++ after) h.0))

module _ {A : Type 0} (w : Keyword) {p : Reader A} {R : List Symbol → A → Type 0} {f : A → Bool} {F : List Symbol → Type 0} (P : Law p R f F) where
  behind_takes : (ts : List Symbol) (x : A × List Symbol) → preceded w p ts ≡ Ok x → Used (Preceded (word w) R) f ts x
  unfolding preceded
  behind_takes ts x h =
      let a = bind_ok (word_from w ts) p x h in
      let u = P.exact.takes a.0 x a.2 in
      record { used = word w ∷ u.used; parts = word_from_is w ts a.0 a.1 ∙ ap (λ (us : List Symbol). word w ∷ us) u.parts; at = g.preceded u.at; within = u.within }

  behind_reads : (us : List Symbol) (a : A) (rest : List Symbol) → Preceded (word w) R us a → F rest → preceded w p (us ++ rest) ≡ limited_by (a, rest) (f a)
  unfolding preceded
  behind_reads _ a rest (g.preceded {ts = us} r) more = let h = word_from_self w (us ++ rest) in rw h (reads P us a rest r more)

  pub exact_behind : Law (preceded w p) (Preceded (word w) R) f F
  exact_behind = exactly behind_takes behind_reads (single_behind P.single (word w))

-- One of two rules: the first after its word, and the second where the word does not come next.
module _ {A : Type 0} (w : Keyword) {p : Reader A} {R : List Symbol → A → Type 0} {q : Reader A} {S : List Symbol → A → Type 0} {f : A → Bool} {F G H : List Symbol → Type 0}
    (T : List Symbol → A → Type 0) (P : Law p R f F) (Q : Law q S f G)
    (first : (us : List Symbol) (a : A) → R us a → T (word w ∷ us) a) (second : (us : List Symbol) (a : A) → S us a → T us a)
    (split : (us : List Symbol) (a : A) (rest : List Symbol) → T us a → H rest
    → ((vs : List Symbol) × (us ≡ word w ∷ vs) × R vs a × F rest) ⊎ ((after_word w (us ++ rest) ≡ None) × S us a × G rest)) where
  choose_takes : (ts : List Symbol) (x : A × List Symbol) → choose w p q ts ≡ Ok x → Used T f ts x
  unfolding choose
  choose_takes ts x h = by_found (after_word w ts) refl h
    where
      by_found : (found : Option (List Symbol)) → after_word w ts ≡ found → choose_by p q ts found ≡ Ok x → Used T f ts x
      by_found (Some rest) e h =
          let u = P.exact.takes rest x h in
          record { used = word w ∷ u.used; parts = after_word_is w ts rest e ∙ ap (λ (us : List Symbol). word w ∷ us) u.parts; at = first u.used x.0 u.at; within = u.within }
      by_found None e h = let u = Q.exact.takes ts x h in record { used = u.used; parts = u.parts; at = second u.used x.0 u.at; within = u.within }

  choose_reads : (us : List Symbol) (a : A) (rest : List Symbol) → T us a → H rest → choose w p q (us ++ rest) ≡ limited_by (a, rest) (f a)
  unfolding choose
  choose_reads us a rest t more = by_case (split us a rest t more)
    where
      by_case : ((vs : List Symbol) × (us ≡ word w ∷ vs) × R vs a × F rest) ⊎ ((after_word w (us ++ rest) ≡ None) × S us a × G rest)
          → choose_by p q (us ++ rest) (after_word w (us ++ rest)) ≡ limited_by (a, rest) (f a)
      by_case (inl (vs, e, r, more)) = let h = after_word_self w (vs ++ rest) in rw (e, h) (reads P vs a rest r more)
      by_case (inr (e, s, more)) = rw e (reads Q us a rest s more)

  abbrev Split : List Symbol → A → List Symbol → Type 0
  Split us a rest = ((vs : List Symbol) × (us ≡ word w ∷ vs) × R vs a × F rest) ⊎ ((after_word w (us ++ rest) ≡ None) × S us a × G rest)

  taken : (us vs rest : List Symbol) → us ≡ word w ∷ vs → after_word w (us ++ rest) ≡ Some (vs ++ rest)
  taken us vs rest e = ap (λ (ws : List Symbol). after_word w (ws ++ rest)) e ∙ after_word_self w (vs ++ rest)

  one_split : (us vs : List Symbol) (a b : A) (rest after : List Symbol) → us ++ rest ≡ vs ++ after → Split us a rest → Split vs b after → (a ≡ b) × (rest ≡ after)
  one_split us vs a b rest after same (inl (xs, e, r, more)) (inl (ys, h, s, far)) =
      P.single xs ys a b rest after r s more far
      (tail_is (word w) (xs ++ rest) (ys ++ after) (ap (λ (ws : List Symbol). ws ++ rest) (sym e) ∙ same ∙ ap (λ (ws : List Symbol). ws ++ after) h))
  one_split us vs a b rest after same (inl (xs, e, r, more)) (inr (h, s, far)) =
      absurd (never_both (after_word w (vs ++ after)) (xs ++ rest) (ap (after_word w) (sym same) ∙ taken us xs rest e) h)
  one_split us vs a b rest after same (inr (e, r, more)) (inl (ys, h, s, far)) =
      absurd (never_both (after_word w (us ++ rest)) (ys ++ after) (ap (after_word w) same ∙ taken vs ys after h) e)
  one_split us vs a b rest after same (inr (e, r, more)) (inr (h, s, far)) = Q.single us vs a b rest after r s more far same

  pub exact_choose : Law (choose w p q) T f H
  exact_choose =
      exactly choose_takes choose_reads (λ us vs a b rest after t u more far same. one_split us vs a b rest after same (split us a rest t more) (split vs b after u far))

-- A part after a word, where the word comes next.
module _ {A : Type 0} (w : Keyword) {p : Reader A} {R : List Symbol → A → Type 0} {f : A → Bool} {F : List Symbol → Type 0} (P : Law p R f F) where
  abbrev pub Ends : List Symbol → Type 0
  Ends rest = F rest × (after_word w rest ≡ None)

  maybe_takes : (ts : List Symbol) (x : Option A × List Symbol) → maybe w p ts ≡ Ok x → Used (Optional (Preceded (word w) R)) (if_given f) ts x
  unfolding maybe choose made yields
  maybe_takes ts x h = by_found (after_word w ts) refl h
    where
      by_found : (found : Option (List Symbol)) → after_word w ts ≡ found → choose_by (made Some p) (yields None) ts found ≡ Ok x → Used (Optional (Preceded (word w) R)) (if_given f) ts x
      by_found (Some rest) e h =
          let a = bind_ok (p rest) (λ a. done (Some a.0, a.1)) x h in
          let u = P.exact.takes rest a.0 a.1 in
          subst (Used (Optional (Preceded (word w) R)) (if_given f) ts) (ok_is _ _ a.2) (record {
            used = word w ∷ u.used;
            parts = after_word_is w ts rest e ∙ ap (λ (us : List Symbol). word w ∷ us) u.parts;
            at = given (g.preceded u.at);
            within = u.within;
          })
      by_found None e h = subst (Used (Optional (Preceded (word w) R)) (if_given f) ts) (ok_is _ _ h) (record { used = []; parts = refl; at = left_out; within = refl })

  maybe_reads : (us : List Symbol) (x : Option A) (rest : List Symbol) → Optional (Preceded (word w) R) us x → Ends rest → maybe w p (us ++ rest) ≡ limited_by (x, rest) (if_given f x)
  unfolding maybe choose made yields
  maybe_reads _ _ rest left_out more = ap (choose_by (made Some p) (yields None) rest) more.1
  maybe_reads _ _ rest (given {a = a} (g.preceded {ts = us} r)) more =
      ap (choose_by (made Some p) (yields None) (word w ∷ us ++ rest)) (after_word_self w (us ++ rest)) ∙ some (f a) (reads P us a rest r more.0)
    where
      some : (b : Bool) → p (us ++ rest) ≡ limited_by (a, rest) b → made Some p (us ++ rest) ≡ limited_by (Some a, rest) b
      some true h = rw h refl
      some false h = rw h refl

  pub exact_maybe : Law (maybe w p) (Optional (Preceded (word w) R)) (if_given f) Ends
  exact_maybe = exactly maybe_takes maybe_reads (single_maybe P.single w)

-- A part after a mark, of which the test tells it apart.
module _ {A : Type 0} (m : Kind) (is : (ts rest : List Symbol) → mark_from m ts ≡ Ok rest → ts ≡ Plain m ∷ rest) (self : (ts : List Symbol) → mark_from m (Plain m ∷ ts) ≡ Ok ts)
    {p : Reader A} {R : List Symbol → A → Type 0} {f : A → Bool} {F : List Symbol → Type 0} (P : Law p R f F) where
  mark_takes : (ts : List Symbol) (x : A × List Symbol) → after_mark m p ts ≡ Ok x → Used (Preceded (Plain m) R) f ts x
  unfolding after_mark
  mark_takes ts x h =
      let a = bind_ok (mark_from m ts) p x h in
      let u = P.exact.takes a.0 x a.2 in
      record { used = Plain m ∷ u.used; parts = is ts a.0 a.1 ∙ ap (λ (us : List Symbol). Plain m ∷ us) u.parts; at = g.preceded u.at; within = u.within }

  mark_reads : (us : List Symbol) (a : A) (rest : List Symbol) → Preceded (Plain m) R us a → F rest → after_mark m p (us ++ rest) ≡ limited_by (a, rest) (f a)
  unfolding after_mark
  mark_reads _ a rest (g.preceded {ts = us} r) more = let h = self (us ++ rest) in rw h (reads P us a rest r more)

  pub exact_behind_mark : Law (after_mark m p) (Preceded (Plain m) R) f F
  exact_behind_mark = exactly mark_takes mark_reads (single_behind P.single (Plain m))

-- A part with a mark after it.
module _ {A : Type 0} (m : Kind) (is : (ts rest : List Symbol) → mark_from m ts ≡ Ok rest → ts ≡ Plain m ∷ rest) (self : (ts : List Symbol) → mark_from m (Plain m ∷ ts) ≡ Ok ts)
    {p : Reader A} {R : List Symbol → A → Type 0} {f : A → Bool} {F : List Symbol → Type 0} (P : Law p R f F) (closes : (rest : List Symbol) → F (Plain m ∷ rest)) where
  before_takes : (ts : List Symbol) (x : A × List Symbol) → before_mark m p ts ≡ Ok x → Used (Before (Plain m) R) f ts x
  unfolding before_mark
  before_takes ts x h =
      let a = bind_ok (p ts) (λ a. mark_from m a.1 >>= λ rest. done (a.0, rest)) x h in
      let b = bind_ok (mark_from m a.0.1) (λ rest. done (a.0.0, rest)) x a.2 in
      let u = P.exact.takes ts a.0 a.1 in
      subst (Used (Before (Plain m) R) f ts) (ok_is _ _ b.2) (record {
        used = u.used ++ Plain m ∷ [];
        parts = u.parts ∙ ap (λ (us : List Symbol). u.used ++ us) (is a.0.1 b.0 b.1) ∙ sym (append_assoc u.used (Plain m ∷ []) b.0);
        at = before u.at;
        within = u.within;
      })

  mark_by : (b : Bool) (a : A) (rest : List Symbol) (r : Read A) → r ≡ limited_by (a, Plain m ∷ rest) b → (r >>= λ a. mark_from m a.1 >>= λ rest. done (a.0, rest)) ≡ limited_by (a, rest) b
  mark_by true a rest r h = let s = self rest in rw (h, s) refl
  mark_by false a rest r h = rw h refl

  before_reads : (us : List Symbol) (a : A) (rest : List Symbol) → Before (Plain m) R us a → Unit {0} → before_mark m p (us ++ rest) ≡ limited_by (a, rest) (f a)
  unfolding before_mark
  before_reads _ a rest (before {ts = us} r) free =
      rw (append_assoc us (Plain m ∷ []) rest) (mark_by (f a) a rest (p (us ++ Plain m ∷ rest)) (reads P us a (Plain m ∷ rest) r (closes rest)))

  pub exact_before_mark : Law (before_mark m p) (Before (Plain m) R) f Anything
  exact_before_mark = exactly before_takes before_reads (single_before P.single (Plain m) closes)

-- A word that may be left out.
abbrev pub Nothing : {A : Type 0} → A → List Symbol → A → Type 0
Nothing a us b = (us ≡ []) × (b ≡ a)

module _ (v : Keyword) where
  said_first : (us : List Symbol) (b : Bool) → Nothing true us b → Said (word v) (word v ∷ us) b
  said_first us b e = rw (e.0, e.1) said

  said_second : (us : List Symbol) (b : Bool) → Nothing false us b → Said (word v) us b
  said_second us b e = rw (e.0, e.1) unsaid

  said_split : (us : List Symbol) (b : Bool) (rest : List Symbol) → Said (word v) us b → after_word v rest ≡ None
      → ((vs : List Symbol) × (us ≡ word v ∷ vs) × Nothing true vs b × Unit {0}) ⊎ ((after_word v (us ++ rest) ≡ None) × Nothing false us b × Unit {0})
  said_split _ _ rest unsaid lacks = inr (lacks, (refl, refl), tt)
  said_split _ _ rest said lacks = inl ([], refl, (refl, refl), tt)

  pub exact_said : Law (choose v (yields true) (yields false)) (Said (word v)) unlimited (λ rest. after_word v rest ≡ None)
  exact_said =
      exact_choose v (Said (word v)) (exact_yields true (Nothing true) unlimited Anything (refl, refl) refl (λ us b e. e)) (exact_yields false (Nothing false) unlimited Anything (refl, refl) refl (λ us b e. e))
      said_first said_second said_split

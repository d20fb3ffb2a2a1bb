-- Lists of parts that are read exactly are read exactly.
use Rattle.std.proofs.Common.{◌≡◌, ℕ, zero, suc, ◌+◌, ◌-◌, ◌<◌, ◌≤◌, Bool, true, false, ◌&&◌, Option, Some, None, List, [], ◌∷◌, ◌++◌, length, Ok, refl, sym, ap, subst, ◌∙◌, append_assoc, length-append, arith}
use Rattle.sql_lexer.specs.declared.token.Kind.TheVariants as k
use Rattle.sql_expr.specs.Exact.{Used, Single}
use Rattle.sql_expr.specs.Follows.{ends_list}
use Rattle.sql_expr.specs.Symbols.{Symbol, Plain}
use Rattle.sql_expr.specs.Reading.{◌>>=◌, after_comma}
use Rattle.sql_expr.proofs.Takes.{bind_ok, ok_is}
use Rattle.sql_grammar.specs.Within.{all_fit}
use Rattle.sql_expr.specs.Grammar.{Optional, left_out, given}
use Rattle.sql_expr.specs.Limits.{if_given}
use Rattle.std.proofs.lemmas.List.{append-nil}
use Rattle.sql_grammar.specs.Parts.{Listed, last, next, Many, done_many, further}
use Rattle.sql_grammar.specs.Readers.{Reader, next_by, more_by, listed, listed_upto, many, many_upto, limited_by}
use Rattle.sql_grammar.proofs.Exact.{exactly, reads, and_true}
use Rattle.sql_grammar.proofs.Law.{Law, tail_is, cons_is}

comma_is : (ts rest : List Symbol) → after_comma ts ≡ Some rest → ts ≡ Plain k.Comma ∷ rest
unfolding after_comma
comma_is [] rest h = absurd cc
comma_is (Plain k.Comma ∷ ts) rest h = cc
comma_is (_ ∷ ts) rest h = absurd cc

no_comma : (ts : List Symbol) → ends_list ts ≡ true → after_comma ts ≡ None
unfolding after_comma
no_comma [] h = refl
no_comma (Plain k.Comma ∷ ts) h = absurd cc
no_comma (_ ∷ ts) h = refl

-- what a list took after the items that were found
record Grows {A : Type 0} (R : List Symbol → A → Type 0) (f : A → Bool) (found : List A) (ts : List Symbol) (x : List A × List Symbol) : Type 0 where
  items : List A
  used : List Symbol
  parts : ts ≡ used ++ x.1
  at : Listed R used items
  within : all_fit f items ≡ true
  all : x.0 ≡ found ++ items

module _ {A : Type 0} {p : Reader A} {R : List Symbol → A → Type 0} {f : A → Bool} {F : List Symbol → Type 0} (P : Law p R f F) (G : List Symbol → Type 0)
    (stops : (rest : List Symbol) → G rest → F rest × (ends_list rest ≡ true)) (goes : (rest : List Symbol) → F (Plain k.Comma ∷ rest))
    (some : (us : List Symbol) (a : A) → R us a → 0 < length us) where
  by_next : (n : ℕ) → ((found : List A) (ts : List Symbol) (x : List A × List Symbol) → listed_upto p n found ts ≡ Ok x → Grows R f found ts x)
      → (found : List A) (ts : List Symbol) (a : A × List Symbol) (u : Used R f ts a) (x : List A × List Symbol) (c : Option (List Symbol)) → after_comma a.1 ≡ c
      → next_by (listed_upto p n) (found ++ a.0 ∷ []) a.1 c ≡ Ok x → Grows R f found ts x
  by_next n ih found ts a u x None e h =
      let t : (f a.0 && true) ≡ true = and_true (f a.0) true u.within refl in
      subst (Grows R f found ts) (ok_is _ _ h) (record { items = a.0 ∷ []; used = u.used; parts = u.parts; at = last u.at; within = t; all = refl })
  by_next n ih found ts a u x (Some rest) e h =
      let g = ih (found ++ a.0 ∷ []) rest x h in record {
        items = a.0 ∷ g.items;
        used = u.used ++ Plain k.Comma ∷ g.used;
        parts = u.parts ∙ ap (λ (us : List Symbol). u.used ++ us) (comma_is a.1 rest e ∙ ap (λ (us : List Symbol). Plain k.Comma ∷ us) g.parts) ∙ sym (append_assoc u.used (Plain k.Comma ∷ g.used) x.1);
        at = next u.at g.at;
        within = and_true (f a.0) (all_fit f g.items) u.within g.within;
        all = g.all ∙ append_assoc found (a.0 ∷ []) g.items;
      }

  grows : (n : ℕ) (found : List A) (ts : List Symbol) (x : List A × List Symbol) → listed_upto p n found ts ≡ Ok x → Grows R f found ts x
  unfolding listed_upto
  grows zero found ts x h = absurd cc
  grows (suc n) found ts x h =
      let a = bind_ok (p ts) (λ a. next_by (listed_upto p n) (found ++ a.0 ∷ []) a.1 (after_comma a.1)) x h in
      by_next n (grows n) found ts a.0 (P.exact.takes ts a.0 a.1) x (after_comma a.0.1) refl a.2

  listed_takes : (ts : List Symbol) (x : List A × List Symbol) → listed p ts ≡ Ok x → Used (Listed R) (all_fit f) ts x
  unfolding listed
  listed_takes ts x h =
      let g = grows (length ts) [] ts x h in
      record { used = g.used; parts = g.parts; at = subst (Listed R g.used) (sym g.all) g.at; within = ap (all_fit f) g.all ∙ g.within }

  one_step : (n : ℕ) (found : List A) (ts rest : List Symbol) (a : A) (b : Bool) → p ts ≡ limited_by (a, rest) b
      → listed_upto p (suc n) found ts ≡ (limited_by (a, rest) b >>= λ x. next_by (listed_upto p n) (found ++ x.0 ∷ []) x.1 (after_comma x.1))
  unfolding listed_upto
  one_step n found ts rest a b h = rw h refl

  ends_by : (n : ℕ) (found : List A) (rest : List Symbol) (a : A) (b : Bool) → after_comma rest ≡ None
      → (limited_by (a, rest) b >>= λ x. next_by (listed_upto p n) (found ++ x.0 ∷ []) x.1 (after_comma x.1)) ≡ limited_by (found ++ a ∷ [], rest) (b && true)
  ends_by n found rest a true e = rw e refl
  ends_by n found rest a false e = refl

  all_read : {us : List Symbol} {xs : List A} → Listed R us xs → (n : ℕ) (found : List A) (rest : List Symbol) → length us ≤ n → G rest
      → listed_upto p n found (us ++ rest) ≡ limited_by (found ++ xs, rest) (all_fit f xs)
  unfolding after_comma
  all_read (last {ts = us} {a = a} r) n found rest long more =
      let lt : 0 < length us = some us a r in
      let turn : n ≡ suc (n - 1) = omega arith in
      let s = stops rest more in
      ap (λ (m : ℕ). listed_upto p m found (us ++ rest)) turn
      ∙ one_step (n - 1) found (us ++ rest) rest a (f a) (reads P us a rest r s.0)
      ∙ ends_by (n - 1) found rest a (f a) (no_comma rest s.1)
  all_read (next {ts = us} {us = vs} {a = a} {xs = xs} r l) n found rest long more =
      let lt : 0 < length us = some us a r in
      let count : length (us ++ Plain k.Comma ∷ vs) ≡ length us + suc (length vs) = length-append us (Plain k.Comma ∷ vs) in
      let turn : n ≡ suc (n - 1) = omega arith in
      let inner = all_read l (n - 1) (found ++ a ∷ []) rest (omega arith) more in
      ap (λ (ts : List Symbol). listed_upto p n found ts) (append_assoc us (Plain k.Comma ∷ vs) rest)
      ∙ ap (λ (m : ℕ). listed_upto p m found (us ++ Plain k.Comma ∷ (vs ++ rest))) turn
      ∙ one_step (n - 1) found (us ++ Plain k.Comma ∷ (vs ++ rest)) (Plain k.Comma ∷ (vs ++ rest)) a (f a) (reads P us a (Plain k.Comma ∷ (vs ++ rest)) r (goes (vs ++ rest)))
      ∙ by_fit (f a) inner
    where
      by_fit : (b : Bool) → listed_upto p (n - 1) (found ++ a ∷ []) (vs ++ rest) ≡ limited_by ((found ++ a ∷ []) ++ xs, rest) (all_fit f xs)
          → (limited_by (a, Plain k.Comma ∷ (vs ++ rest)) b >>= λ x. next_by (listed_upto p (n - 1)) (found ++ x.0 ∷ []) x.1 (after_comma x.1)) ≡ limited_by (found ++ a ∷ xs, rest) (b && all_fit f xs)
      by_fit true h = h ∙ ap (λ (ys : List A). limited_by (ys, rest) (all_fit f xs)) (append_assoc found (a ∷ []) xs)
      by_fit false h = refl

  no_end : (rest ts : List Symbol) → G rest → rest ≡ Plain k.Comma ∷ ts → ⊥
  no_end rest ts more e = let no : false ≡ true = ap ends_list (sym e) ∙ (stops rest more).1 in cc

  one_list : {us vs : List Symbol} {xs ys : List A} → Listed R us xs → Listed R vs ys → (rest after : List Symbol) → G rest → G after → us ++ rest ≡ vs ++ after → (xs ≡ ys) × (rest ≡ after)
  one_list (last {ts = us} {a = a} r) (last {ts = vs} {a = b} s) rest after more far same =
      let one = P.single us vs a b rest after r s (stops rest more).0 (stops after far).0 same in
      (cons_is one.0 refl, one.1)
  one_list (last {ts = us} {a = a} r) (next {ts = vs} {us = ws} {a = b} s m) rest after more far same =
      let one = P.single us vs a b rest (Plain k.Comma ∷ (ws ++ after)) r s (stops rest more).0 (goes (ws ++ after)) (same ∙ append_assoc vs (Plain k.Comma ∷ ws) after) in
      absurd (no_end rest (ws ++ after) more one.1)
  one_list (next {ts = us} {us = ws} {a = a} r l) (last {ts = vs} {a = b} s) rest after more far same =
      let one = P.single us vs a b (Plain k.Comma ∷ (ws ++ rest)) after r s (goes (ws ++ rest)) (stops after far).0 (sym (append_assoc us (Plain k.Comma ∷ ws) rest) ∙ same) in
      absurd (no_end after (ws ++ rest) far (sym one.1))
  one_list (next {ts = us} {us = ws} {a = a} r l) (next {ts = vs} {us = zs} {a = b} s m) rest after more far same =
      let one =
      P.single us vs a b (Plain k.Comma ∷ (ws ++ rest)) (Plain k.Comma ∷ (zs ++ after)) r s (goes (ws ++ rest)) (goes (zs ++ after))
      (sym (append_assoc us (Plain k.Comma ∷ ws) rest) ∙ same ∙ append_assoc vs (Plain k.Comma ∷ zs) after) in
      let others = one_list l m rest after more far (tail_is (Plain k.Comma) (ws ++ rest) (zs ++ after) one.1) in
      (cons_is one.0 others.0, others.1)

  pub exact_listed : Law (listed p) (Listed R) (all_fit f) G
  unfolding listed
  exact_listed =
      exactly listed_takes (λ us xs rest l more. all_read l (length (us ++ rest)) [] rest (omega (arith, length-append us rest)) more)
      (λ us vs xs ys rest after l m more far same. one_list l m rest after more far same)

none_used : {A : Type 0} {R : List Symbol → A → Type 0} {us : List Symbol} {x : Option A} → Optional R us x → x ≡ None → us ≡ []
none_used left_out e = refl
none_used (given r) e = absurd cc

abbrev pub some_of : {A : Type 0} → A → Option A
some_of a = Some a

some_is : {A : Type 0} (a b : A) → some_of a ≡ some_of b → a ≡ b
some_is a b e = cc

some_at : {A : Type 0} {R : List Symbol → A → Type 0} {us : List Symbol} {x : Option A} (a : A) → Optional R us x → x ≡ Some a → R us a
some_at a left_out e = absurd cc
some_at {R = R} {us = us} a (given {a = b} r) e = subst (R us) (some_is b a e) r

-- what a chain took after the items that were found
record Adds {A : Type 0} (R : List Symbol → A → Type 0) (f : A → Bool) (found : List A) (ts : List Symbol) (x : List A × List Symbol) : Type 0 where
  items : List A
  used : List Symbol
  parts : ts ≡ used ++ x.1
  at : Many R used items
  within : all_fit f items ≡ true
  all : x.0 ≡ found ++ items

module _ {A : Type 0} {p : Reader (Option A)} {R : List Symbol → A → Type 0} {f : A → Bool} (F G : List Symbol → Type 0)
    (takes : (ts : List Symbol) (x : Option A × List Symbol) → p ts ≡ Ok x → Used (Optional R) (if_given f) ts x)
    (item : (us : List Symbol) (a : A) (rest : List Symbol) → R us a → F rest → p (us ++ rest) ≡ limited_by (Some a, rest) (f a))
    (stop : (rest : List Symbol) → G rest → p rest ≡ Ok (None, rest)) (ends : (rest : List Symbol) → G rest → F rest)
    (goes : (us : List Symbol) (a : A) (rest : List Symbol) → R us a → F (us ++ rest)) (some : (us : List Symbol) (a : A) → R us a → 0 < length us) (alone : Single R F) where
  by_more : (n : ℕ) → ((found : List A) (ts : List Symbol) (x : List A × List Symbol) → many_upto p n found ts ≡ Ok x → Adds R f found ts x)
      → (found : List A) (ts : List Symbol) (o : Option A) (rest : List Symbol) (u : Used (Optional R) (if_given f) ts (o, rest)) (x : List A × List Symbol)
      → more_by (many_upto p n) found o rest ≡ Ok x → Adds R f found ts x
  by_more n ih found ts None rest u x h =
      let none : u.used ≡ [] = none_used u.at refl in
      subst (Adds R f found ts) (ok_is (found, rest) x h) (record {
        items = [];
        used = [];
        parts = u.parts ∙ ap (λ (us : List Symbol). us ++ rest) none;
        at = done_many;
        within = refl;
        all = sym (append-nil found);
      })
  by_more n ih found ts (Some a) rest u x h =
      let g = ih (found ++ a ∷ []) rest x h in record {
        items = a ∷ g.items;
        used = u.used ++ g.used;
        parts = u.parts ∙ ap (λ (us : List Symbol). u.used ++ us) g.parts ∙ sym (append_assoc u.used g.used x.1);
        at = further (some_at a u.at refl) g.at;
        within = and_true (f a) (all_fit f g.items) u.within g.within;
        all = g.all ∙ append_assoc found (a ∷ []) g.items;
      }

  adds : (n : ℕ) (found : List A) (ts : List Symbol) (x : List A × List Symbol) → many_upto p n found ts ≡ Ok x → Adds R f found ts x
  unfolding many_upto
  adds zero found ts x h =
      subst (Adds R f found ts) (ok_is (found, ts) x h) (record { items = []; used = []; parts = refl; at = done_many; within = refl; all = sym (append-nil found) })
  adds (suc n) found ts x h =
      let a = bind_ok (p ts) (λ a. more_by (many_upto p n) found a.0 a.1) x h in
      by_more n (adds n) found ts a.0.0 a.0.1 (takes ts a.0 a.1) x a.2

  many_takes : (ts : List Symbol) (x : List A × List Symbol) → many p ts ≡ Ok x → Used (Many R) (all_fit f) ts x
  unfolding many
  many_takes ts x h =
      let g = adds (length ts) [] ts x h in
      record { used = g.used; parts = g.parts; at = subst (Many R g.used) (sym g.all) g.at; within = ap (all_fit f) g.all ∙ g.within }

  rest_read : (n : ℕ) (found : List A) (rest : List Symbol) → G rest → many_upto p n found rest ≡ Ok (found, rest)
  unfolding many_upto
  rest_read zero found rest more = refl
  rest_read (suc n) found rest more = let h = stop rest more in rw h refl

  one_more : (n : ℕ) (found : List A) (ts rest : List Symbol) (a : A) (b : Bool) → p ts ≡ limited_by (Some a, rest) b
      → many_upto p (suc n) found ts ≡ (limited_by (Some a, rest) b >>= λ x. more_by (many_upto p n) found x.0 x.1)
  unfolding many_upto
  one_more n found ts rest a b h = rw h refl

  follows : {us : List Symbol} {xs : List A} → Many R us xs → (rest : List Symbol) → G rest → F (us ++ rest)
  follows done_many rest g = ends rest g
  follows (further {ts = us} {us = vs} {a = a} r l) rest g = subst F (sym (append_assoc us vs rest)) (goes us a (vs ++ rest) r)

  many_read : {us : List Symbol} {xs : List A} → Many R us xs → (n : ℕ) (found : List A) (rest : List Symbol) → length us ≤ n → G rest
      → many_upto p n found (us ++ rest) ≡ limited_by (found ++ xs, rest) (all_fit f xs)
  many_read done_many n found rest long g = rest_read n found rest g ∙ ap (λ (ys : List A). Ok (ys, rest)) (sym (append-nil found))
  many_read (further {ts = us} {us = vs} {a = a} {xs = xs} r l) n found rest long g =
      let lt : 0 < length us = some us a r in
      let count : length (us ++ vs) ≡ length us + length vs = length-append us vs in
      let turn : n ≡ suc (n - 1) = omega arith in
      let inner = many_read l (n - 1) (found ++ a ∷ []) rest (omega arith) g in
      ap (λ (ts : List Symbol). many_upto p n found ts) (append_assoc us vs rest)
      ∙ ap (λ (m : ℕ). many_upto p m found (us ++ (vs ++ rest))) turn
      ∙ one_more (n - 1) found (us ++ (vs ++ rest)) (vs ++ rest) a (f a) (item us a (vs ++ rest) r (follows l rest g))
      ∙ by_fit (f a) inner
    where
      by_fit : (b : Bool) → many_upto p (n - 1) (found ++ a ∷ []) (vs ++ rest) ≡ limited_by ((found ++ a ∷ []) ++ xs, rest) (all_fit f xs)
          → (limited_by (Some a, vs ++ rest) b >>= λ x. more_by (many_upto p (n - 1)) found x.0 x.1) ≡ limited_by (found ++ a ∷ xs, rest) (b && all_fit f xs)
      by_fit true h = h ∙ ap (λ (ys : List A). limited_by (ys, rest) (all_fit f xs)) (append_assoc found (a ∷ []) xs)
      by_fit false h = refl

  no_item : (a : A) (ts rest : List Symbol) (b : Bool) → limited_by (Some a, ts) b ≡ Ok (None, rest) → ⊥
  no_item a ts rest true h = let no : Some a ≡ None = ap (λ x. x.0) (ok_is {A = Option A × List Symbol} _ _ h) in cc
  no_item a ts rest false h = cc

  no_more : {vs ws : List Symbol} {b : A} {ys : List A} → R vs b → Many R ws ys → (rest after : List Symbol) → G rest → G after → rest ≡ (vs ++ ws) ++ after → ⊥
  no_more {vs = vs} {ws = ws} {b = b} s m rest after more far same =
      no_item b (ws ++ after) rest (f b) (sym (item vs b (ws ++ after) s (follows m after far)) ∙ ap p (sym (same ∙ append_assoc vs ws after)) ∙ stop rest more)

  one_chain : {us vs : List Symbol} {xs ys : List A} → Many R us xs → Many R vs ys → (rest after : List Symbol) → G rest → G after → us ++ rest ≡ vs ++ after → (xs ≡ ys) × (rest ≡ after)
  one_chain done_many done_many rest after more far same = (refl, same)
  one_chain done_many (further s m) rest after more far same = absurd (no_more s m rest after more far same)
  one_chain (further r l) done_many rest after more far same = absurd (no_more r l after rest far more (sym same))
  one_chain (further {ts = us} {us = ws} {a = a} r l) (further {ts = vs} {us = zs} {a = b} s m) rest after more far same =
      let one =
      alone us vs a b (ws ++ rest) (zs ++ after) r s (follows l rest more) (follows m after far) (sym (append_assoc us ws rest) ∙ same ∙ append_assoc vs zs after) in
      let others = one_chain l m rest after more far one.1 in
      (cons_is one.0 others.0, others.1)

  pub exact_many : Law (many p) (Many R) (all_fit f) G
  unfolding many
  exact_many =
      exactly many_takes (λ us xs rest l more. many_read l (length (us ++ rest)) [] rest (omega (arith, length-append us rest)) more)
      (λ us vs xs ys rest after l m more far same. one_chain l m rest after more far same)

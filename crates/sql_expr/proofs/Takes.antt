-- What is read is spelled so.
use Rattle.std.proofs.Common.{◌≡◌, ℕ, zero, suc, ◌≤◌, max, Bool, true, false, cond, List, [], ◌∷◌, ◌++◌, length, Option, Some, None, Result, Ok, Err, refl, sym, ap, subst, ◌∙◌, append_assoc, arith, ◌⊎◌, inl, inr, leb}
use Rattle.std.proofs.lemmas.Bool.{leb-true, eqb-true}
use Rattle.sql_expr.specs.declared.refusal.Refusal.{Refusal}
use Rattle.sql_expr.specs.declared.refusal.Refusal.TheVariants.{TooLong}
use Rattle.sql_lexer.specs.declared.keyword.Keyword.TheVariants as w
use Rattle.sql_lexer.specs.declared.token.Kind.{Kind}
use Rattle.sql_lexer.specs.declared.token.Kind.TheVariants as t
use Rattle.sql_syntax.specs.declared.expr.Operator.{Operator}
use Rattle.sql_syntax.specs.declared.expr.Operator.TheVariants as op
use Rattle.sql_syntax.specs.declared.expr.RaiseAction.{RaiseAction}
use Rattle.sql_syntax.specs.declared.expr.RaiseAction.TheVariants as raises
use Rattle.sql_syntax.specs.Tree as tree
use Rattle.sql_syntax.specs.Tree.{Tree, Trees, trees}
use Rattle.sql_expr.specs.Depth.{deep, deepest, list_of}
use Rattle.sql_expr.specs.Symbols.{Symbol, Plain, Name, Text, Blob}
use Rattle.sql_expr.proofs.Again.{list-trees}
use Rattle.sql_expr.proofs.MarkTests.{mark_from_is, tells_left, tells_right, tells_comma}
use Rattle.sql_expr.proofs.WordTests.{word_from_is}
use Rattle.sql_expr.specs.Grammar as g
use Rattle.sql_expr.specs.Grammar.{level_of, operator, At, Tail, Items}
use Rattle.sql_expr.specs.Reading as spec
use Rattle.sql_expr.specs.Reading.{Read, ◌>>=◌, Deep, Deeps, over, leaf, binds, goes_on, prefixes, is_prefixed, wrap, word_from, after_word, mark_from, name_from, action_from, text_from, raise_from, literal, by_literal, items_upto, items_from, items, call, named, paren, atom, prefix, operand, between, among, collate, by_operator, tail, tails, ladder, level_at, expression_from}

-- the value of a step that did not fail
pub bind_ok : {A B : Type 0} (r : Result A Refusal) (f : A → Result B Refusal) (y : B) → (r >>= f) ≡ Ok y → (x : A) × (r ≡ Ok x) × (f x ≡ Ok y)
bind_ok (Ok x) f y e = (x, refl, e)
bind_ok (Err d) f y e = absurd cc

chosen : {A : Type 0} (b : Bool) (x y : A) (z : A) → cond b x y ≡ z → ((b ≡ true) × (x ≡ z)) ⊎ ((b ≡ false) × (y ≡ z))
chosen true x y z e = inl (refl, e)
chosen false x y z e = inr (refl, e)

-- what a reader took from the front
pub record Takes (room r : ℕ) (ts : List Symbol) (x : Deep × List Symbol) : Type 0 where
  pub used : List Symbol
  pub parts : ts ≡ used ++ x.1
  pub at : At r used x.0.tree
  pub depth : x.0.depth ≡ deep x.0.tree
  pub fits : deep x.0.tree ≤ room

-- what goes on after a left operand
pub record Goes (room r : ℕ) (a : Tree) (ts : List Symbol) (x : Deep × List Symbol) : Type 0 where
  pub used : List Symbol
  pub parts : ts ≡ used ++ x.1
  pub at : Tail r a used x.0.tree
  pub depth : x.0.depth ≡ deep x.0.tree
  pub fits : deep x.0.tree ≤ room

abbrev pub done : {A : Type 0} → A → Result A Refusal
done x = Ok x

pub ok_is : {A : Type 0} (x y : A) → done x ≡ done y → x ≡ y
ok_is x y e = cc

over_is : (room : ℕ) (e : Tree) (d : ℕ) (ts : List Symbol) (x : Deep × List Symbol) → over room e d ts ≡ Ok x → ((record { tree = e; depth = suc d }, ts) ≡ x) × (suc d ≤ room)
unfolding over
over_is room e d ts x h = by_test (leb (suc d) room) refl h
  where
    by_test : (b : Bool) → leb (suc d) room ≡ b → cond b (done (record { tree = e; depth = suc d }, ts)) (Err TooLong) ≡ Ok x → ((record { tree = e; depth = suc d }, ts) ≡ x) × (suc d ≤ room)
    by_test true t h = (ok_is _ _ h, leb-true _ _ t)
    by_test false t h = absurd cc

pub name_is : (ts : List Symbol) (x : List ℕ × List Symbol) → name_from ts ≡ Ok x → ts ≡ Name x.0 ∷ x.1
unfolding name_from
name_is [] x h = absurd cc
name_is (Name c ∷ ts) x h = ap (λ (y : List ℕ × List Symbol). Name y.0 ∷ y.1) (ok_is _ _ h)
name_is (_ ∷ ts) x h = absurd cc

text_is : (ts : List Symbol) (x : List ℕ × List Symbol) → text_from ts ≡ Ok x → ts ≡ Text x.0 ∷ x.1
unfolding text_from
text_is [] x h = absurd cc
text_is (Text z ∷ ts) x h = ap (λ (y : List ℕ × List Symbol). Text y.0 ∷ y.1) (ok_is _ _ h)
text_is (_ ∷ ts) x h = absurd cc

-- what a list took
pub record Lists (room : ℕ) (found : Deeps) (ts : List Symbol) (x : Deeps × List Symbol) : Type 0 where
  pub es : Trees
  pub used : List Symbol
  pub parts : ts ≡ used ++ x.1
  pub items : Items used es
  pub trees : x.0.trees ≡ found.trees ++ list_of es
  pub depth : x.0.depth ≡ max found.depth (deepest es)
  pub fits : deepest es ≤ room

spelled : (d e : Tree) (ts : List Symbol) → Some d ≡ Some e → At 0 ts d → deep d ≡ 1 → At 0 ts e × (deep e ≡ 1)
spelled d e ts h at one = let k = some_is d e h in (subst (At 0 ts) k at, subst (λ (y : Tree). deep y ≡ 1) k one)
  where
    some_is : (d e : Tree) → Some d ≡ Some e → d ≡ e
    some_is d e h = cc

module _ (inner : ℕ → List Symbol → Read Deep) (m : ℕ) (sound : (r : ℕ) (ts : List Symbol) (x : Deep × List Symbol) → inner r ts ≡ Ok x → Takes m r ts x) where
  item_takes : (n : ℕ) (found : Deeps) (ts : List Symbol) (e : Deep) (after : List Symbol) (x : Deeps × List Symbol) → ((found : Deeps) (ts : List Symbol) (x : Deeps × List Symbol) → items_upto inner (suc m) n found ts ≡ Ok x → Lists m found ts x)
      → Takes m 10 ts (e, after) → spec.next_item (items_upto inner (suc m) n) (spec.with_item found e) after ≡ Ok x → Lists m found ts x
  item_takes n found ts e [] x ih k h =
      let done_x = ok_is (spec.with_item found e, []) x h in
      subst (Lists m found ts) done_x (record { es = tree.More e.tree tree.End; used = k.used; parts = k.parts; items = g.last k.at; trees = refl; depth = let d = k.depth in omega arith; fits = let d = k.fits in omega arith })
  item_takes n found ts e (Plain t.Comma ∷ after) x ih k h =
      let l = ih (spec.with_item found e) after x h in record {
        es = tree.More e.tree l.es;
        used = k.used ++ Plain t.Comma ∷ l.used;
        parts = k.parts ∙ ap (λ (us : List Symbol). k.used ++ Plain t.Comma ∷ us) l.parts ∙ sym (append_assoc k.used (Plain t.Comma ∷ l.used) x.1);
        items = g.next k.at l.items;
        trees = l.trees ∙ append_assoc found.trees (e.tree ∷ []) (list_of l.es);
        depth = let d = k.depth in let q = l.depth in omega arith;
        fits = let d = k.fits in let q = l.fits in omega arith;
      }
  item_takes n found ts e (s ∷ after) x ih k h =
      let done_x = ok_is (spec.with_item found e, s ∷ after) x h in
      subst (Lists m found ts) done_x (record { es = tree.More e.tree tree.End; used = k.used; parts = k.parts; items = g.last k.at; trees = refl; depth = let d = k.depth in omega arith; fits = let d = k.fits in omega arith })

  pub items_upto_takes : (n : ℕ) (found : Deeps) (ts : List Symbol) (x : Deeps × List Symbol) → items_upto inner (suc m) n found ts ≡ Ok x → Lists m found ts x
  unfolding items_upto
  items_upto_takes zero found ts x h = absurd cc
  items_upto_takes (suc n) found ts x h =
      let b = bind_ok (inner 10 ts) (λ e. spec.next_item (items_upto inner (suc m) n) (spec.with_item found e.0) e.1) x h in
      item_takes n found ts b.0.0 b.0.1 x (items_upto_takes n) (sound 10 ts b.0 b.1) b.2

  items_takes : (ts : List Symbol) (x : Deeps × List Symbol) → items inner (suc m) ts ≡ Ok x → (es : Trees) × (used : List Symbol) × (ts ≡ used ++ Plain t.RightParen ∷ x.1) × Items used es × (trees x.0.trees ≡ es) × (x.0.depth ≡ deepest es) × (deepest es ≤ m)
  unfolding items
  items_takes ts x h =
      let b = bind_ok (items_upto inner (suc m) (length ts) spec.no_items ts) (λ found. mark_from t.RightParen found.1 >>= λ after. Ok (found.0, after)) x h in
      let c = bind_ok (mark_from t.RightParen b.0.1) (λ after. Ok (b.0.0, after)) x b.2 in
      let l = items_upto_takes (length ts) spec.no_items ts b.0 b.1 in
      let same : (b.0.0, c.0) ≡ x = ok_is _ _ c.2 in
      let closes = mark_from_is t.RightParen tells_right b.0.1 c.0 c.1 in
      let parts = l.parts ∙ ap (λ (us : List Symbol). l.used ++ us) (closes ∙ ap (λ (y : Deeps × List Symbol). Plain t.RightParen ∷ y.1) same) in
      let list : x.0.trees ≡ list_of l.es = ap (λ (y : Deeps × List Symbol). y.0.trees) (sym same) ∙ l.trees in
      let depth : x.0.depth ≡ deepest l.es = ap (λ (y : Deeps × List Symbol). y.0.depth) (sym same) ∙ l.depth ∙ omega arith in
      (l.es, l.used, parts, l.items, ap trees list ∙ list-trees l.es, depth, l.fits)

  -- a nested expression and what is made of it
  operand_goes : (r : ℕ) (o : Operator) (a : Deep) (pre ts : List Symbol) (x : Deep × List Symbol)
      → ((used : List Symbol) (b : Tree) → At r used b → Tail r a.tree (pre ++ used) (tree.Binary o a.tree b)) → a.depth ≡ deep a.tree
      → operand inner (suc m) r o a ts ≡ Ok x → Goes (suc m) r a.tree (pre ++ ts) x
  unfolding operand
  operand_goes r o a pre ts x make ad h =
      let b = bind_ok (inner r ts) (λ b. over (suc m) (tree.Binary o a.tree b.0.tree) (max a.depth b.0.depth) b.1) x h in
      let k = sound r ts b.0 b.1 in
      let c = over_is (suc m) (tree.Binary o a.tree b.0.0.tree) (max a.depth b.0.0.depth) b.0.1 x b.2 in
      let kd = k.depth in
      subst (Goes (suc m) r a.tree (pre ++ ts)) c.0 (record {
        used = pre ++ k.used;
        parts = ap (λ (us : List Symbol). pre ++ us) k.parts ∙ sym (append_assoc pre k.used b.0.1);
        at = make k.used b.0.0.tree k.at;
        depth = omega arith;
        fits = omega (arith, c.1);
      })

  between_goes : (r : ℕ) (n : Bool) (a : Deep) (pre ts : List Symbol) (x : Deep × List Symbol)
      → ((bs cs : List Symbol) (b c : Tree) → At r bs b → At r cs c → Tail r a.tree (pre ++ (bs ++ Plain (t.Word w.And) ∷ cs)) (tree.Between n a.tree b c)) → a.depth ≡ deep a.tree
      → between inner (suc m) r n a ts ≡ Ok x → Goes (suc m) r a.tree (pre ++ ts) x
  unfolding between
  between_goes r n a pre ts x make ad h =
      let b = bind_ok (inner r ts) (λ b. word_from w.And b.1 >>= λ after. inner r after >>= λ c. over (suc m) (tree.Between n a.tree b.0.tree c.0.tree) (max a.depth (max b.0.depth c.0.depth)) c.1) x h in
      let s = bind_ok (word_from w.And b.0.1) (λ after. inner r after >>= λ c. over (suc m) (tree.Between n a.tree b.0.0.tree c.0.tree) (max a.depth (max b.0.0.depth c.0.depth)) c.1) x b.2 in
      let c = bind_ok (inner r s.0) (λ c. over (suc m) (tree.Between n a.tree b.0.0.tree c.0.tree) (max a.depth (max b.0.0.depth c.0.depth)) c.1) x s.2 in
      let k = sound r ts b.0 b.1 in
      let l = sound r s.0 c.0 c.1 in
      let o = over_is (suc m) (tree.Between n a.tree b.0.0.tree c.0.0.tree) (max a.depth (max b.0.0.depth c.0.0.depth)) c.0.1 x c.2 in
      let kd = k.depth in
      let ld = l.depth in
      let whole : ts ≡ (k.used ++ Plain (t.Word w.And) ∷ l.used) ++ c.0.1 =
      k.parts ∙ ap (λ (us : List Symbol). k.used ++ us) (word_from_is w.And b.0.1 s.0 s.1 ∙ ap (λ (us : List Symbol). Plain (t.Word w.And) ∷ us) l.parts) ∙ sym (append_assoc k.used (Plain (t.Word w.And) ∷ l.used) c.0.1) in
      subst (Goes (suc m) r a.tree (pre ++ ts)) o.0 (record {
        used = pre ++ (k.used ++ Plain (t.Word w.And) ∷ l.used);
        parts = ap (λ (us : List Symbol). pre ++ us) whole ∙ sym (append_assoc pre (k.used ++ Plain (t.Word w.And) ∷ l.used) c.0.1);
        at = make k.used l.used b.0.0.tree c.0.0.tree k.at l.at;
        depth = omega arith;
        fits = omega (arith, o.1);
      })

  among_goes : (r : ℕ) (n : Bool) (a : Deep) (pre ts : List Symbol) (x : Deep × List Symbol)
      → ((us : List Symbol) (es : Trees) → Items us es → Tail r a.tree (pre ++ (Plain t.LeftParen ∷ (us ++ Plain t.RightParen ∷ []))) (tree.In n a.tree es)) → a.depth ≡ deep a.tree
      → among inner (suc m) n a ts ≡ Ok x → Goes (suc m) r a.tree (pre ++ ts) x
  unfolding among
  among_goes r n a pre ts x make ad h =
      let p = bind_ok (mark_from t.LeftParen ts) (λ inside. items inner (suc m) inside >>= λ found. over (suc m) (tree.In n a.tree (trees found.0.trees)) (max a.depth found.0.depth) found.1) x h in
      let f = bind_ok (items inner (suc m) p.0) (λ found. over (suc m) (tree.In n a.tree (trees found.0.trees)) (max a.depth found.0.depth) found.1) x p.2 in
      let l = items_takes p.0 f.0 f.1 in
      let o = over_is (suc m) (tree.In n a.tree (trees f.0.0.trees)) (max a.depth f.0.0.depth) f.0.1 x f.2 in
      let ld = l.5 in
      let same : (record { tree = tree.In n a.tree l.0; depth = suc (max a.depth f.0.0.depth) }, f.0.1) ≡ x = ap (λ (es : Trees). (record { tree = tree.In n a.tree es; depth = suc (max a.depth f.0.0.depth) }, f.0.1)) (sym l.4) ∙ o.0 in
      let whole : ts ≡ (Plain t.LeftParen ∷ (l.1 ++ Plain t.RightParen ∷ [])) ++ f.0.1 =
      mark_from_is t.LeftParen tells_left ts p.0 p.1 ∙ ap (λ (us : List Symbol). Plain t.LeftParen ∷ us) (l.2 ∙ sym (append_assoc l.1 (Plain t.RightParen ∷ []) f.0.1)) in
      subst (Goes (suc m) r a.tree (pre ++ ts)) same (record {
        used = pre ++ (Plain t.LeftParen ∷ (l.1 ++ Plain t.RightParen ∷ []));
        parts = ap (λ (us : List Symbol). pre ++ us) whole ∙ sym (append_assoc pre (Plain t.LeftParen ∷ (l.1 ++ Plain t.RightParen ∷ [])) f.0.1);
        at = make l.1 l.0 l.3;
        depth = omega arith;
        fits = omega (arith, o.1);
      })

  collate_goes : (r : ℕ) (a : Deep) (ts : List Symbol) (x : Deep × List Symbol) → r ≡ 1 → a.depth ≡ deep a.tree
      → collate inner (suc m) a ts ≡ Ok x → Goes (suc m) r a.tree (Plain (t.Word w.Collate) ∷ ts) x
  unfolding collate
  collate_goes r a ts x is ad h =
      let b = bind_ok (name_from ts) (λ c. over (suc m) (tree.Collate a.tree c.0) a.depth c.1) x h in
      let o = over_is (suc m) (tree.Collate a.tree b.0.0) a.depth b.0.1 x b.2 in
      subst (Goes (suc m) r a.tree (Plain (t.Word w.Collate) ∷ ts)) o.0 (record {
        used = Plain (t.Word w.Collate) ∷ Name b.0.0 ∷ [];
        parts = ap (λ (us : List Symbol). Plain (t.Word w.Collate) ∷ us) (name_is ts b.0 b.1);
        at = subst (λ (k : ℕ). Tail k a.tree (Plain (t.Word w.Collate) ∷ Name b.0.0 ∷ []) (tree.Collate a.tree b.0.0)) (sym is) g.collate;
        depth = omega arith;
        fits = omega (arith, o.1);
      })

  operator_goes : (r : ℕ) (s : Kind) (found : Option Operator) (a : Deep) (ts : List Symbol) (x : Deep × List Symbol) → operator s ≡ found → level_of s ≡ suc r → a.depth ≡ deep a.tree
      → by_operator inner (suc m) r found a ts (Plain s ∷ ts) ≡ Ok x → Goes (suc m) r a.tree (Plain s ∷ ts) x
  operator_goes r s (Some o) a ts x is bd ad h = operand_goes r o a (Plain s ∷ []) ts x (λ us b d. g.binary s o bd is d) ad h
  operator_goes r s None a ts x is bd ad h = absurd cc

  six : (r : ℕ) (a : Tree) (ts : List Symbol) (e : Tree) → r ≡ 6 → Tail 6 a ts e → Tail r a ts e
  six r a ts e is d = subst (λ (k : ℕ). Tail k a ts e) (sym is) d

  at_six : (r : ℕ) (ts : List Symbol) (e : Tree) → r ≡ 6 → At r ts e → At 6 ts e
  at_six r ts e is d = subst (λ (k : ℕ). At k ts e) is d

  tail_goes : (r : ℕ) (a : Deep) (ts : List Symbol) (x : Deep × List Symbol) → goes_on (suc r) ts ≡ true → a.depth ≡ deep a.tree → tail inner (suc m) r a ts ≡ Ok x → Goes (suc m) r a.tree ts x
  unfolding tail goes_on
  tail_goes r a [] x on ad h = absurd cc
  tail_goes r a (Plain (t.Word w.Collate) ∷ ts) x on ad h = collate_goes r a ts x (let b = eqb-true _ _ on in omega arith) ad h
  tail_goes r a (Plain (t.Word w.Is) ∷ Plain (t.Word w.Not) ∷ ts) x on ad h =
      let e : r ≡ 6 = let b = eqb-true _ _ on in omega arith in
      operand_goes r op.IsNot a (Plain (t.Word w.Is) ∷ Plain (t.Word w.Not) ∷ []) ts x (λ us b d. six r a.tree _ _ e (g.is_not (at_six r us b e d))) ad h
  tail_goes r a (Plain (t.Word w.Is) ∷ ts) x on ad h =
      let e : r ≡ 6 = let b = eqb-true _ _ on in omega arith in
      operand_goes r op.Is a (Plain (t.Word w.Is) ∷ []) ts x (λ us b d. six r a.tree _ _ e (g.is (at_six r us b e d))) ad h
  tail_goes r a (Plain (t.Word w.Between) ∷ ts) x on ad h =
      let e : r ≡ 6 = let b = eqb-true _ _ on in omega arith in
      between_goes r false a (Plain (t.Word w.Between) ∷ []) ts x (λ bs cs b c d k. six r a.tree _ _ e (g.between (at_six r bs b e d) (at_six r cs c e k))) ad h
  tail_goes r a (Plain (t.Word w.In) ∷ ts) x on ad h =
      let e : r ≡ 6 = let b = eqb-true _ _ on in omega arith in
      among_goes r false a (Plain (t.Word w.In) ∷ []) ts x (λ us es i. six r a.tree _ _ e (g.among i)) ad h
  tail_goes r a (Plain (t.Word w.Not) ∷ Plain (t.Word w.Between) ∷ ts) x on ad h =
      let e : r ≡ 6 = let b = eqb-true _ _ on in omega arith in
      between_goes r true a (Plain (t.Word w.Not) ∷ Plain (t.Word w.Between) ∷ []) ts x (λ bs cs b c d k. six r a.tree _ _ e (g.not_between (at_six r bs b e d) (at_six r cs c e k))) ad h
  tail_goes r a (Plain (t.Word w.Not) ∷ Plain (t.Word w.In) ∷ ts) x on ad h =
      let e : r ≡ 6 = let b = eqb-true _ _ on in omega arith in
      among_goes r true a (Plain (t.Word w.Not) ∷ Plain (t.Word w.In) ∷ []) ts x (λ us es i. six r a.tree _ _ e (g.not_among i)) ad h
  tail_goes r a (Plain (t.Word w.Not) ∷ ts) x on ad h = absurd cc
  tail_goes r a (Plain s ∷ ts) x on ad h = operator_goes r s (operator s) a ts x refl (eqb-true _ _ on) ad h
  tail_goes r a (_ ∷ ts) x on ad h = absurd cc

  tails_take : (n r : ℕ) (all used : List Symbol) (a : Deep) (ts : List Symbol) (x : Deep × List Symbol) → all ≡ used ++ ts → At (suc r) used a.tree → a.depth ≡ deep a.tree → deep a.tree ≤ suc m
      → tails inner (suc m) n r a ts ≡ Ok x → Takes (suc m) (suc r) all x
  unfolding tails
  tails_take zero r all used a ts x parts at ad fits h = by_test (goes_on (suc r) ts) h
    where
      by_test : (b : Bool) → cond b (Err TooLong) (done (a, ts)) ≡ Ok x → Takes (suc m) (suc r) all x
      by_test true h = absurd cc
      by_test false h = subst (Takes (suc m) (suc r) all) (ok_is _ _ h) (record { used = used; parts = parts; at = at; depth = ad; fits = fits })
  tails_take (suc n) r all used a ts x parts at ad fits h = by_test (λ us b ys. tails_take n r all us b ys x) (goes_on (suc r) ts) refl h
    where
      by_test : ((us : List Symbol) (b : Deep) (ys : List Symbol) → all ≡ us ++ ys → At (suc r) us b.tree → b.depth ≡ deep b.tree → deep b.tree ≤ suc m → tails inner (suc m) n r b ys ≡ Ok x → Takes (suc m) (suc r) all x)
          → (b : Bool) → goes_on (suc r) ts ≡ b → cond b (tail inner (suc m) r a ts >>= λ y. tails inner (suc m) n r y.0 y.1) (done (a, ts)) ≡ Ok x → Takes (suc m) (suc r) all x
      by_test ih true on h =
          let b = bind_ok (tail inner (suc m) r a ts) (λ y. tails inner (suc m) n r y.0 y.1) x h in
          let k = tail_goes r a ts b.0 on ad b.1 in
          ih (used ++ k.used) b.0.0 b.0.1 (parts ∙ ap (λ (us : List Symbol). used ++ us) k.parts ∙ sym (append_assoc used k.used b.0.1)) (g.chain at k.at) k.depth k.fits b.2
      by_test ih false on h = subst (Takes (suc m) (suc r) all) (ok_is _ _ h) (record { used = used; parts = parts; at = at; depth = ad; fits = fits })

  leaf_takes : (e : Tree) (used ts : List Symbol) (x : Deep × List Symbol) → At 0 used e → deep e ≡ 1 → done (leaf e, ts) ≡ Ok x → Takes (suc m) 0 (used ++ ts) x
  leaf_takes e used ts x at is h =
      subst (Takes (suc m) 0 (used ++ ts)) (ok_is _ _ h) (record { used = used; parts = refl; at = at; depth = sym is; fits = omega arith })

  list_call_takes : (f : List ℕ) (ts : List Symbol) (x : Deep × List Symbol) → (items inner (suc m) ts >>= λ found. over (suc m) (tree.Call f (trees found.0.trees)) found.0.depth found.1) ≡ Ok x
      → Takes (suc m) 0 (Name f ∷ Plain t.LeftParen ∷ ts) x
  list_call_takes f ts x h =
      let b = bind_ok (items inner (suc m) ts) (λ found. over (suc m) (tree.Call f (trees found.0.trees)) found.0.depth found.1) x h in
      let l = items_takes ts b.0 b.1 in
      let o = over_is (suc m) (tree.Call f (trees b.0.0.trees)) b.0.0.depth b.0.1 x b.2 in
      let ld = l.5 in
      let same : (record { tree = tree.Call f l.0; depth = suc b.0.0.depth }, b.0.1) ≡ x = ap (λ (es : Trees). (record { tree = tree.Call f es; depth = suc b.0.0.depth }, b.0.1)) (sym l.4) ∙ o.0 in
      subst (Takes (suc m) 0 (Name f ∷ Plain t.LeftParen ∷ ts)) same (record {
        used = Name f ∷ Plain t.LeftParen ∷ (l.1 ++ Plain t.RightParen ∷ []);
        parts = ap (λ (us : List Symbol). Name f ∷ Plain t.LeftParen ∷ us) (l.2 ∙ sym (append_assoc l.1 (Plain t.RightParen ∷ []) b.0.1));
        at = g.call l.3;
        depth = omega arith;
        fits = omega (arith, o.1);
      })

  all_call_takes : (f : List ℕ) (ts : List Symbol) (x : Deep × List Symbol) → (mark_from t.RightParen ts >>= λ after. done (leaf (tree.CallAll f), after)) ≡ Ok x
      → Takes (suc m) 0 (Name f ∷ Plain t.LeftParen ∷ Plain t.Star ∷ ts) x
  all_call_takes f ts x h =
      let b = bind_ok (mark_from t.RightParen ts) (λ after. done (leaf (tree.CallAll f), after)) x h in
      let whole : Name f ∷ Plain t.LeftParen ∷ Plain t.Star ∷ ts ≡ Name f ∷ Plain t.LeftParen ∷ Plain t.Star ∷ Plain t.RightParen ∷ b.0 = ap (λ (us : List Symbol). Name f ∷ Plain t.LeftParen ∷ Plain t.Star ∷ us) (mark_from_is t.RightParen tells_right ts b.0 b.1) in
      subst (λ (us : List Symbol). Takes (suc m) 0 us x) (sym whole) (leaf_takes (tree.CallAll f) (Name f ∷ Plain t.LeftParen ∷ Plain t.Star ∷ Plain t.RightParen ∷ []) b.0 x g.call_of_all refl b.2)

  call_takes : (f : List ℕ) (ts : List Symbol) (x : Deep × List Symbol) → call inner (suc m) f ts ≡ Ok x → Takes (suc m) 0 (Name f ∷ Plain t.LeftParen ∷ ts) x
  unfolding call
  call_takes f [] x h = list_call_takes f [] x h
  call_takes f (Plain t.RightParen ∷ ts) x h =
      let o = over_is (suc m) (tree.Call f tree.End) 0 ts x h in
      subst (Takes (suc m) 0 (Name f ∷ Plain t.LeftParen ∷ Plain t.RightParen ∷ ts)) o.0 (record { used = Name f ∷ Plain t.LeftParen ∷ Plain t.RightParen ∷ []; parts = refl; at = g.empty_call; depth = refl; fits = o.1 })
  call_takes f (Plain t.Star ∷ ts) x h = all_call_takes f ts x h
  call_takes f (s ∷ ts) x h = list_call_takes f (s ∷ ts) x h

  qualified_takes : (s : List ℕ) (ts : List Symbol) (x : Deep × List Symbol) → (name_from ts >>= λ c. done (leaf (tree.Column (Some s) c.0), c.1)) ≡ Ok x → Takes (suc m) 0 (Name s ∷ Plain t.Dot ∷ ts) x
  qualified_takes s ts x h =
      let b = bind_ok (name_from ts) (λ c. done (leaf (tree.Column (Some s) c.0), c.1)) x h in
      let whole : Name s ∷ Plain t.Dot ∷ ts ≡ Name s ∷ Plain t.Dot ∷ Name b.0.0 ∷ b.0.1 = ap (λ (us : List Symbol). Name s ∷ Plain t.Dot ∷ us) (name_is ts b.0 b.1) in
      subst (λ (us : List Symbol). Takes (suc m) 0 us x) (sym whole) (leaf_takes (tree.Column (Some s) b.0.0) (Name s ∷ Plain t.Dot ∷ Name b.0.0 ∷ []) b.0.1 x g.qualified refl b.2)

  named_takes : (c : List ℕ) (ts : List Symbol) (x : Deep × List Symbol) → named inner (suc m) c ts ≡ Ok x → Takes (suc m) 0 (Name c ∷ ts) x
  unfolding named
  named_takes c [] x h = leaf_takes (tree.Column None c) (Name c ∷ []) [] x g.column refl h
  named_takes c (Plain t.Dot ∷ ts) x h = qualified_takes c ts x h
  named_takes c (Plain t.LeftParen ∷ ts) x h = call_takes c ts x h
  named_takes c (s ∷ ts) x h = leaf_takes (tree.Column None c) (Name c ∷ []) (s ∷ ts) x g.column refl h

  action_is : (ts : List Symbol) (x : RaiseAction × List Symbol) (rest : List Symbol) (z : List ℕ) → action_from ts ≡ Ok x → x.1 ≡ Plain t.Comma ∷ Text z ∷ Plain t.RightParen ∷ rest
      → (s : Symbol) × (ts ≡ s ∷ Plain t.Comma ∷ Text z ∷ Plain t.RightParen ∷ rest) × At 0 (Plain (t.Word w.Raise) ∷ Plain t.LeftParen ∷ s ∷ Plain t.Comma ∷ Text z ∷ Plain t.RightParen ∷ []) (tree.Raise x.0 z)
  unfolding action_from
  action_is [] x rest z h e = absurd cc
  action_is (Plain (t.Word w.Abort) ∷ ts) x rest z h e =
      let k = ok_is (raises.Abort, ts) x h in
      (Plain (t.Word w.Abort), ap (λ (us : List Symbol). Plain (t.Word w.Abort) ∷ us) (ap (λ (y : RaiseAction × List Symbol). y.1) k ∙ e), subst (λ (y : RaiseAction × List Symbol). At 0 (Plain (t.Word w.Raise) ∷ Plain t.LeftParen ∷ Plain (t.Word w.Abort) ∷ Plain t.Comma ∷ Text z ∷ Plain t.RightParen ∷ []) (tree.Raise y.0 z)) k g.abort)
  action_is (Plain (t.Word w.Rollback) ∷ ts) x rest z h e =
      let k = ok_is (raises.Rollback, ts) x h in
      (Plain (t.Word w.Rollback), ap (λ (us : List Symbol). Plain (t.Word w.Rollback) ∷ us) (ap (λ (y : RaiseAction × List Symbol). y.1) k ∙ e), subst (λ (y : RaiseAction × List Symbol). At 0 (Plain (t.Word w.Raise) ∷ Plain t.LeftParen ∷ Plain (t.Word w.Rollback) ∷ Plain t.Comma ∷ Text z ∷ Plain t.RightParen ∷ []) (tree.Raise y.0 z)) k g.rollback)
  action_is (_ ∷ ts) x rest z h e = absurd cc

  raise_takes : (ts : List Symbol) (x : Deep × List Symbol) → raise_from ts ≡ Ok x → Takes (suc m) 0 (Plain (t.Word w.Raise) ∷ ts) x
  unfolding raise_from
  raise_takes ts x h =
      let a = bind_ok (mark_from t.LeftParen ts) (λ inside. action_from inside >>= λ action. mark_from t.Comma action.1 >>= λ preceded. text_from preceded >>= λ message. mark_from t.RightParen message.1 >>= λ after. done (leaf (tree.Raise action.0 message.0), after)) x h in
      let b = bind_ok (action_from a.0) (λ action. mark_from t.Comma action.1 >>= λ preceded. text_from preceded >>= λ message. mark_from t.RightParen message.1 >>= λ after. done (leaf (tree.Raise action.0 message.0), after)) x a.2 in
      let c = bind_ok (mark_from t.Comma b.0.1) (λ preceded. text_from preceded >>= λ message. mark_from t.RightParen message.1 >>= λ after. done (leaf (tree.Raise b.0.0 message.0), after)) x b.2 in
      let d = bind_ok (text_from c.0) (λ message. mark_from t.RightParen message.1 >>= λ after. done (leaf (tree.Raise b.0.0 message.0), after)) x c.2 in
      let e = bind_ok (mark_from t.RightParen d.0.1) (λ after. done (leaf (tree.Raise b.0.0 d.0.0), after)) x d.2 in
      let preceded = mark_from_is t.Comma tells_comma b.0.1 c.0 c.1 ∙ ap (λ (us : List Symbol). Plain t.Comma ∷ us) (text_is c.0 d.0 d.1 ∙ ap (λ (us : List Symbol). Text d.0.0 ∷ us) (mark_from_is t.RightParen tells_right d.0.1 e.0 e.1)) in
      let k = action_is a.0 b.0 e.0 d.0.0 b.1 preceded in
      let whole = ap (λ (us : List Symbol). Plain (t.Word w.Raise) ∷ us) (mark_from_is t.LeftParen tells_left ts a.0 a.1 ∙ ap (λ (us : List Symbol). Plain t.LeftParen ∷ us) k.1) in
      subst (λ (us : List Symbol). Takes (suc m) 0 us x) (sym whole) (leaf_takes (tree.Raise b.0.0 d.0.0) (Plain (t.Word w.Raise) ∷ Plain t.LeftParen ∷ k.0 ∷ Plain t.Comma ∷ Text d.0.0 ∷ Plain t.RightParen ∷ []) e.0 x k.2 refl e.2)

  paren_takes : (ts : List Symbol) (x : Deep × List Symbol) → paren inner (suc m) ts ≡ Ok x → Takes (suc m) 0 (Plain t.LeftParen ∷ ts) x
  unfolding paren
  paren_takes ts x h =
      let b = bind_ok (inner 10 ts) (λ e. mark_from t.RightParen e.1 >>= λ after. over (suc m) (tree.Paren e.0.tree) e.0.depth after) x h in
      let c = bind_ok (mark_from t.RightParen b.0.1) (λ after. over (suc m) (tree.Paren b.0.0.tree) b.0.0.depth after) x b.2 in
      let k = sound 10 ts b.0 b.1 in
      let o = over_is (suc m) (tree.Paren b.0.0.tree) b.0.0.depth c.0 x c.2 in
      let kd = k.depth in
      subst (Takes (suc m) 0 (Plain t.LeftParen ∷ ts)) o.0 (record {
        used = Plain t.LeftParen ∷ (k.used ++ Plain t.RightParen ∷ []);
        parts = ap (λ (us : List Symbol). Plain t.LeftParen ∷ us) (k.parts ∙ ap (λ (us : List Symbol). k.used ++ us) (mark_from_is t.RightParen tells_right b.0.1 c.0 c.1) ∙ sym (append_assoc k.used (Plain t.RightParen ∷ []) c.0));
        at = g.paren k.at;
        depth = omega arith;
        fits = omega (arith, o.1);
      })

  literal_takes : (s : Symbol) (found : Option Tree) (ts : List Symbol) (x : Deep × List Symbol) → ((e : Tree) → found ≡ Some e → At 0 (s ∷ []) e × (deep e ≡ 1)) → by_literal found ts (s ∷ ts) ≡ Ok x → Takes (suc m) 0 (s ∷ ts) x
  literal_takes s (Some e) ts x is h = let k = is e refl in leaf_takes e (s ∷ []) ts x k.0 k.1 h
  literal_takes s None ts x is h = absurd cc

  literal_is : (s : Symbol) (e : Tree) → literal s ≡ Some e → At 0 (s ∷ []) e × (deep e ≡ 1)
  literal_is (Plain (t.Word w.Null)) e h = spelled tree.Null e (Plain (t.Word w.Null) ∷ []) h g.null refl
  literal_is (Plain (t.Integer n)) e h = spelled (tree.Integer n) e (Plain (t.Integer n) ∷ []) h g.integer refl
  literal_is (Text z) e h = spelled (tree.Text z) e (Text z ∷ []) h g.text refl
  literal_is (Blob z) e h = spelled (tree.Blob z) e (Blob z ∷ []) h g.blob refl
  literal_is _ e h = absurd cc

  atom_takes : (ts : List Symbol) (x : Deep × List Symbol) → atom inner (suc m) ts ≡ Ok x → Takes (suc m) 0 ts x
  unfolding atom
  atom_takes [] x h = absurd cc
  atom_takes (Plain t.LeftParen ∷ ts) x h = paren_takes ts x h
  atom_takes (Plain (t.Word w.Raise) ∷ ts) x h = raise_takes ts x h
  atom_takes (Name c ∷ ts) x h = named_takes c ts x h
  atom_takes (s ∷ ts) x h = literal_takes s (literal s) ts x (literal_is s) h

  prefix_takes : (r : ℕ) (s : Symbol) (ts : List Symbol) (x : Deep × List Symbol) → ((us : List Symbol) (e : Tree) → At r us e → At r (s ∷ us) (wrap s e)) → ((e : Tree) → deep (wrap s e) ≡ suc (deep e))
      → prefix inner (suc m) r (s ∷ ts) ≡ Ok x → Takes (suc m) r (s ∷ ts) x
  unfolding prefix
  prefix_takes r s ts x make deeper h =
      let b = bind_ok (inner r ts) (λ e. over (suc m) (wrap s e.0.tree) e.0.depth e.1) x h in
      let k = sound r ts b.0 b.1 in
      let o = over_is (suc m) (wrap s b.0.0.tree) b.0.0.depth b.0.1 x b.2 in
      let kd = k.depth in
      let dd = deeper b.0.0.tree in
      subst (Takes (suc m) r (s ∷ ts)) o.0 (record {
        used = s ∷ k.used;
        parts = ap (λ (us : List Symbol). s ∷ us) k.parts;
        at = make k.used b.0.0.tree k.at;
        depth = omega arith;
        fits = omega (arith, o.1);
      })

  prefixed_takes : (r : ℕ) (ts : List Symbol) (x : Deep × List Symbol) → is_prefixed (suc r) ts ≡ true → prefix inner (suc m) (suc r) ts ≡ Ok x → Takes (suc m) (suc r) ts x
  unfolding is_prefixed
  prefixed_takes r [] x on h = absurd cc
  prefixed_takes r (Plain t.Minus ∷ ts) x on h =
      let e : suc r ≡ 1 = sym (eqb-true _ _ on) in
      prefix_takes (suc r) (Plain t.Minus) ts x (λ us k d. subst (λ (n : ℕ). At n (Plain t.Minus ∷ us) (tree.Negated k)) (sym e) (g.minus (subst (λ (n : ℕ). At n us k) e d))) (λ k. refl) h
  prefixed_takes r (Plain (t.Word w.Not) ∷ ts) x on h =
      let e : suc r ≡ 8 = sym (eqb-true _ _ on) in
      prefix_takes (suc r) (Plain (t.Word w.Not)) ts x (λ us k d. subst (λ (n : ℕ). At n (Plain (t.Word w.Not) ∷ us) (tree.Not k)) (sym e) (g.not (subst (λ (n : ℕ). At n us k) e d))) (λ k. refl) h
  prefixed_takes r (_ ∷ ts) x on h = let e : 0 ≡ suc r = eqb-true _ _ on in absurd (omega arith)

  ladder_takes : (r : ℕ) (ts : List Symbol) (x : Deep × List Symbol) → ladder inner (suc m) r ts ≡ Ok x → Takes (suc m) r ts x
  unfolding ladder
  ladder_takes zero ts x h = atom_takes ts x h
  ladder_takes (suc r) ts x h = by_test (ladder_takes r ts) (is_prefixed (suc r) ts) refl h
    where
      by_test : ((y : Deep × List Symbol) → ladder inner (suc m) r ts ≡ Ok y → Takes (suc m) r ts y)
          → (b : Bool) → is_prefixed (suc r) ts ≡ b → cond b (prefix inner (suc m) (suc r) ts) (ladder inner (suc m) r ts >>= λ y. tails inner (suc m) (suc m) r y.0 y.1) ≡ Ok x → Takes (suc m) (suc r) ts x
      by_test ih true on h = prefixed_takes r ts x on h
      by_test ih false on h =
          let b = bind_ok (ladder inner (suc m) r ts) (λ y. tails inner (suc m) (suc m) r y.0 y.1) x h in
          let k = ih b.0 b.1 in
          tails_take (suc m) r ts k.used b.0.0 b.0.1 x k.parts (g.up k.at) k.depth k.fits b.2

pub sound : (room r : ℕ) (ts : List Symbol) (x : Deep × List Symbol) → level_at room r ts ≡ Ok x → Takes room r ts x
unfolding level_at
sound zero r ts x h = absurd cc
sound (suc m) r ts x h = ladder_takes (level_at m) m (sound m) r ts x h

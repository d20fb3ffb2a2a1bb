-- An expression that passes the limit is refused for that, whatever follows that cannot go on with it.
use Rattle.std.proofs.Common.{◌≡◌, ℕ, zero, suc, ◌-◌, ◌<◌, ◌≤◌, max, Bool, true, false, List, [], ◌∷◌, ◌++◌, length, Ok, Err, refl, ap, ◌∙◌, append_assoc, length-append, arith, ◌⊎◌, inl, inr}
use Rattle.std.proofs.lemmas.Bool.{lt-leb, cases_lt}
use Rattle.sql_expr.specs.declared.refusal.Refusal.TheVariants.{TooLong}
use Rattle.sql_lexer.specs.declared.keyword.Keyword.TheVariants as w
use Rattle.sql_lexer.specs.declared.token.Kind.TheVariants as t
use Rattle.sql_syntax.specs.declared.expr.Operator.{Operator}
use Rattle.sql_syntax.specs.declared.expr.Operator.TheVariants as op
use Rattle.sql_syntax.specs.Tree as tree
use Rattle.sql_syntax.specs.Tree.{Tree, Trees, trees}
use Rattle.sql_expr.specs.Depth.{deep, deepest, list_of}
use Rattle.sql_expr.specs.Symbols.{Symbol, Plain}
use Rattle.sql_expr.specs.Follows.{Follows}
use Rattle.sql_expr.specs.Grammar as g
use Rattle.sql_expr.specs.Grammar.{level_of, operator, At, Tail, Items}
use Rattle.sql_expr.specs.Reading as spec
use Rattle.sql_expr.specs.Reading.{Read, ◌>>=◌, Deep, Deeps, over, leaf, binds, goes_on, prefixes, is_prefixed, wrap, word_from, after_word, mark_from, name_from, action_from, text_from, raise_from, items_upto, items_from, items, call, named, paren, atom, prefix, operand, between, among, collate, by_operator, tail, tails, ladder, level_at, expression_from}
use Rattle.sql_expr.proofs.Again.{deepened, list-trees, Follows-less, first, call_begun, is_alone, by_tail, items_begun, items_next, items_of, tail_on, tail_follows, follows_paren, follows_comma, follows_and, At_some, ends_paren, opens, listed, read_again}

-- ---- past the limit

over_late : (room : ℕ) (e : Tree) (d : ℕ) (ts : List Symbol) → room < suc d → over room e d ts ≡ Err TooLong
unfolding over
over_late room e d ts lt = rw (lt-leb (suc d) room lt) refl

nested_late : (room r : ℕ) (e : Tree) (all : List Symbol) → ((m : ℕ) → suc m < deep e → ladder (level_at m) (suc m) r all ≡ Err TooLong) → room < deep e → level_at room r all ≡ Err TooLong
unfolding level_at
nested_late zero r e all d lt = refl
nested_late (suc m) r e all d lt = d m lt

-- a nested expression is read, or passes the limit
abbrev Either : ℕ → ℕ → Tree → List Symbol → List Symbol → Type 0
Either room r e all rest = ((deep e ≤ room) × (level_at room r all ≡ Ok (deepened e, rest))) ⊎ ((room < deep e) × (level_at room r all ≡ Err TooLong))

either : {r : ℕ} {ts : List Symbol} {e : Tree} → At r ts e → (room : ℕ) (rest : List Symbol) → Follows (suc r) rest → ((m : ℕ) → suc m < deep e → ladder (level_at m) (suc m) r (ts ++ rest) ≡ Err TooLong) → Either room r e (ts ++ rest) rest
either {r} {ts} {e} d room rest f late =
    elim (cases_lt room (deep e)) [
      | inl lt ↦ inr (lt, nested_late room r e (ts ++ rest) late lt)
      | inr le ↦ inl (le, read_again d room rest le f)
    ]

operand_late : (m r : ℕ) (o : Operator) (a b : Tree) (ts rest : List Symbol) → suc m < deep (tree.Binary o a b) → Either m r b ts rest → operand (level_at m) (suc m) r o (deepened a) ts ≡ Err TooLong
unfolding operand
operand_late m r o a b ts rest lt (inl h) = let e = h.1 in rw e (over_late (suc m) (tree.Binary o a b) (max (deep a) (deep b)) rest lt)
operand_late m r o a b ts rest lt (inr h) = let e = h.1 in rw e refl

between_late : (m : ℕ) (n : Bool) (a b c : Tree) (ts us rest : List Symbol) → suc m < deep (tree.Between n a b c) → Either m 6 b ts (Plain (t.Word w.And) ∷ us) → Either m 6 c us rest → between (level_at m) (suc m) 6 n (deepened a) ts ≡ Err TooLong
unfolding between word_from after_word
between_late m n a b c ts us rest lt (inr h) k = let e = h.1 in rw e refl
between_late m n a b c ts us rest lt (inl h) (inr k) = let e = h.1 in let x = k.1 in rw (e, x) refl
between_late m n a b c ts us rest lt (inl h) (inl k) = let e = h.1 in let x = k.1 in rw (e, x) (over_late (suc m) (tree.Between n a b c) (max (deep a) (max (deep b) (deep c))) rest lt)

abbrev EitherList : ℕ → Trees → List Symbol → List Symbol → Type 0
EitherList m es all rest = ((deepest es ≤ m) × (items (level_at m) (suc m) all ≡ Ok (record { trees = list_of es; depth = deepest es }, rest))) ⊎ ((m < deepest es) × (items (level_at m) (suc m) all ≡ Err TooLong))

among_late : (m : ℕ) (n : Bool) (a : Tree) (ts : List Symbol) (es : Trees) (rest : List Symbol) → suc m < deep (tree.In n a es) → EitherList m es (ts ++ Plain t.RightParen ∷ rest) rest → among (level_at m) (suc m) n (deepened a) (Plain t.LeftParen ∷ (ts ++ Plain t.RightParen ∷ rest)) ≡ Err TooLong
unfolding among mark_from
among_late m n a ts es rest lt (inl h) = let e = h.1 in rw (e, list-trees es) (over_late (suc m) (tree.In n a es) (max (deep a) (deepest es)) rest lt)
among_late m n a ts es rest lt (inr h) = let e = h.1 in rw e refl

tails_late : (m n r : ℕ) (d : Deep) (ts : List Symbol) → goes_on (suc r) ts ≡ true → tail (level_at m) (suc m) r d ts ≡ Err TooLong → tails (level_at m) (suc m) n r d ts ≡ Err TooLong
unfolding tails
tails_late m zero r d ts q h = rw q refl
tails_late m (suc n) r d ts q h = rw (q, h) refl

items_late : (m n : ℕ) (found : Deeps) (ts : List Symbol) → level_at m 10 ts ≡ Err TooLong → items_upto (level_at m) (suc m) (suc n) found ts ≡ Err TooLong
unfolding items_upto
items_late m n found ts h = rw h refl

items_fail : (m : ℕ) (ts : List Symbol) → items_upto (level_at m) (suc m) (length ts) spec.no_items ts ≡ Err TooLong → items (level_at m) (suc m) ts ≡ Err TooLong
unfolding items
items_fail m ts h = rw h refl

prefixed_late : (m r : ℕ) (s : Symbol) (ts : List Symbol) → is_prefixed (suc r) (s ∷ ts) ≡ true → level_at m (suc r) ts ≡ Err TooLong → ladder (level_at m) (suc m) (suc r) (s ∷ ts) ≡ Err TooLong
unfolding ladder prefix
prefixed_late m r s ts is_one h = rw (is_one, h) refl

raised_late : (m r : ℕ) (all : List Symbol) → is_prefixed (suc r) all ≡ false → ladder (level_at m) (suc m) r all ≡ Err TooLong → ladder (level_at m) (suc m) (suc r) all ≡ Err TooLong
unfolding ladder
raised_late m r all bare h = rw (bare, h) refl

paren_late : (m : ℕ) (ts : List Symbol) → level_at m 10 ts ≡ Err TooLong → paren (level_at m) (suc m) ts ≡ Err TooLong
unfolding paren
paren_late m ts h = rw h refl

read_list : {ts : List Symbol} {es : Trees} → Items ts es → (m : ℕ) (rest : List Symbol) → deepest es ≤ m → items (level_at m) (suc m) (ts ++ Plain t.RightParen ∷ rest) ≡ Ok (record { trees = list_of es; depth = deepest es }, rest)
read_list {ts} {es} i m rest le =
    items_of (level_at m) (suc m) ts es rest (listed i m (Plain t.RightParen ∷ rest) (length (ts ++ Plain t.RightParen ∷ rest)) spec.no_items le (omega (arith, length-append ts (Plain t.RightParen ∷ rest))) (ends_paren rest))

either_list : {ts : List Symbol} {es : Trees} → Items ts es → (m : ℕ) (rest : List Symbol) → (m < deepest es → items_upto (level_at m) (suc m) (length (ts ++ Plain t.RightParen ∷ rest)) spec.no_items (ts ++ Plain t.RightParen ∷ rest) ≡ Err TooLong) → EitherList m es (ts ++ Plain t.RightParen ∷ rest) rest
either_list {ts} {es} i m rest late =
    elim (cases_lt m (deepest es)) [
      | inl lt ↦ inr (lt, items_fail m (ts ++ Plain t.RightParen ∷ rest) (late lt))
      | inr le ↦ inl (le, read_list i m rest le)
    ]

mutual
  unfolding ladder atom named call raise_from action_from text_from mark_from name_from tail collate is_prefixed

  late : {r : ℕ} {ts : List Symbol} {e : Tree} → At r ts e → (m : ℕ) (rest : List Symbol) → suc m < deep e → Follows r rest → ladder (level_at m) (suc m) r (ts ++ rest) ≡ Err TooLong
  late g.null m rest lt f = absurd (omega arith)
  late g.integer m rest lt f = absurd (omega arith)
  late g.text m rest lt f = absurd (omega arith)
  late g.blob m rest lt f = absurd (omega arith)
  late g.call_of_all m rest lt f = absurd (omega arith)
  late g.abort m rest lt f = absurd (omega arith)
  late g.rollback m rest lt f = absurd (omega arith)
  late g.column m rest lt f = absurd (omega arith)
  late g.qualified m rest lt f = absurd (omega arith)
  late (g.paren {ts = ts} {e = e} d) m rest lt f =
      ap (paren (level_at m) (suc m)) (append_assoc ts (Plain t.RightParen ∷ []) rest)
      ∙ paren_late m (ts ++ Plain t.RightParen ∷ rest) (nested_late m 10 e (ts ++ Plain t.RightParen ∷ rest) (λ k l. late d k (Plain t.RightParen ∷ rest) l (follows_paren 10 rest)) (omega arith))
  late g.empty_call m rest lt f = absurd (omega arith)
  late (g.call {f = name} {ts = ts} {es = es} i) m rest lt f =
      let h = items_fail m (ts ++ Plain t.RightParen ∷ rest) (listed_late i m (Plain t.RightParen ∷ rest) (length (ts ++ Plain t.RightParen ∷ rest)) spec.no_items (omega arith) (omega (arith, length-append ts (Plain t.RightParen ∷ rest))) (follows_paren 11 rest)) in
      ap (λ (us : List Symbol). call (level_at m) (suc m) name us) (append_assoc ts (Plain t.RightParen ∷ []) rest)
      ∙ call_begun (level_at m) (suc m) name (ts ++ Plain t.RightParen ∷ rest) (items_begun i (Plain t.RightParen ∷ rest))
      ∙ rw h refl
  late (g.minus {ts = ts} {e = e} d) m rest lt f =
      prefixed_late m 0 (Plain t.Minus) (ts ++ rest) refl (nested_late m 1 e (ts ++ rest) (λ k l. late d k rest l f) (omega arith))
  late (g.not {ts = ts} {e = e} d) m rest lt f =
      prefixed_late m 7 (Plain (t.Word w.Not)) (ts ++ rest) refl (nested_late m 8 e (ts ++ rest) (λ k l. late d k rest l f) (omega arith))
  late (g.up {r = r} {ts = ts} {e = e} d) m rest lt f =
      raised_late m r (ts ++ rest) (first d rest (suc r) (omega arith)) (late d m rest lt (Follows-less r rest f))
  late (g.chain {r = r} {us = us} {vs = vs} {a = a} {e = e} d x) m rest lt f =
      let all = ap (ladder (level_at m) (suc m) (suc r)) (append_assoc us vs rest) in
      elim (cases_lt (suc m) (deep a)) [
        | inl big ↦ all ∙ late d m (vs ++ rest) big (tail_follows x rest)
        | inr le ↦
            let o = opens d m (vs ++ rest) le (tail_follows x rest) in
            all ∙ o.2 ∙ tails_late m o.0 r (deepened a) (vs ++ rest) (tail_on x rest) (tail_late x m rest lt f)
      ]

  tail_late : {r : ℕ} {a e : Tree} {vs : List Symbol} → Tail r a vs e → (m : ℕ) (rest : List Symbol) → suc m < deep e → Follows (suc r) rest → tail (level_at m) (suc m) r (deepened a) (vs ++ rest) ≡ Err TooLong
  tail_late (g.binary {r = r} {a = a} {b = b} {bs = bs} s o bd is d) m rest lt f =
      by_tail (level_at m) (suc m) r (deepened a) s o (bs ++ rest) is ∙ operand_late m r o a b (bs ++ rest) rest lt (either d m rest f (λ k l. late d k rest l (Follows-less r rest f)))
  tail_late (g.is {a = a} {b = b} {bs = bs} d) m rest lt f =
      is_alone (level_at m) (suc m) 6 (deepened a) (bs ++ rest) (first d rest 8 (omega arith))
      ∙ operand_late m 6 op.Is a b (bs ++ rest) rest lt (either d m rest f (λ k l. late d k rest l (Follows-less 6 rest f)))
  tail_late (g.is_not {a = a} {b = b} {bs = bs} d) m rest lt f =
      operand_late m 6 op.IsNot a b (bs ++ rest) rest lt (either d m rest f (λ k l. late d k rest l (Follows-less 6 rest f)))
  tail_late (g.between {a = a} {b = b} {c = c} {bs = bs} {cs = cs} d x) m rest lt f =
      let after = Plain (t.Word w.And) ∷ (cs ++ rest) in
      ap (between (level_at m) (suc m) 6 false (deepened a)) (append_assoc bs (Plain (t.Word w.And) ∷ cs) rest)
      ∙ between_late m false a b c (bs ++ after) (cs ++ rest) rest lt
      (either d m after (follows_and (cs ++ rest)) (λ k l. late d k after l (Follows-less 6 _ (follows_and (cs ++ rest))))) (either x m rest f (λ k l. late x k rest l (Follows-less 6 rest f)))
  tail_late (g.not_between {a = a} {b = b} {c = c} {bs = bs} {cs = cs} d x) m rest lt f =
      let after = Plain (t.Word w.And) ∷ (cs ++ rest) in
      ap (between (level_at m) (suc m) 6 true (deepened a)) (append_assoc bs (Plain (t.Word w.And) ∷ cs) rest)
      ∙ between_late m true a b c (bs ++ after) (cs ++ rest) rest lt
      (either d m after (follows_and (cs ++ rest)) (λ k l. late d k after l (Follows-less 6 _ (follows_and (cs ++ rest))))) (either x m rest f (λ k l. late x k rest l (Follows-less 6 rest f)))
  tail_late (g.among {a = a} {ts = ts} {es = es} i) m rest lt f =
      ap (λ (us : List Symbol). among (level_at m) (suc m) false (deepened a) (Plain t.LeftParen ∷ us)) (append_assoc ts (Plain t.RightParen ∷ []) rest)
      ∙ among_late m false a ts es rest lt (either_list i m rest (λ big. listed_late i m (Plain t.RightParen ∷ rest) (length (ts ++ Plain t.RightParen ∷ rest)) spec.no_items big (omega (arith, length-append ts (Plain t.RightParen ∷ rest))) (follows_paren 11 rest)))
  tail_late (g.not_among {a = a} {ts = ts} {es = es} i) m rest lt f =
      ap (λ (us : List Symbol). among (level_at m) (suc m) true (deepened a) (Plain t.LeftParen ∷ us)) (append_assoc ts (Plain t.RightParen ∷ []) rest)
      ∙ among_late m true a ts es rest lt (either_list i m rest (λ big. listed_late i m (Plain t.RightParen ∷ rest) (length (ts ++ Plain t.RightParen ∷ rest)) spec.no_items big (omega (arith, length-append ts (Plain t.RightParen ∷ rest))) (follows_paren 11 rest)))
  tail_late (g.collate {a = a} {c = c}) m rest lt f = over_late (suc m) (tree.Collate a c) (deep a) rest lt

  pub listed_late : {ts : List Symbol} {es : Trees} → Items ts es → (m : ℕ) (rest : List Symbol) (n : ℕ) (found : Deeps) → m < deepest es → length ts ≤ n → Follows 11 rest → items_upto (level_at m) (suc m) n found (ts ++ rest) ≡ Err TooLong
  listed_late (g.last {ts = ts} {e = e} d) m rest n found lt long f =
      let some : n ≡ suc (n - 1) = omega (arith, At_some d) in
      ap (λ (k : ℕ). items_upto (level_at m) (suc m) k found (ts ++ rest)) some
      ∙ items_late m (n - 1) found (ts ++ rest) (nested_late m 10 e (ts ++ rest) (λ k l. late d k rest l (Follows-less 10 rest f)) (omega arith))
  listed_late (g.next {ts = ts} {us = us} {e = e} {es = es} d i) m rest n found lt long f =
      let after = us ++ rest in
      let some : n ≡ suc (n - 1) = omega (arith, At_some d, length-append ts (Plain t.Comma ∷ us)) in
      let start = ap (items_upto (level_at m) (suc m) n found) (append_assoc ts (Plain t.Comma ∷ us) rest) ∙ ap (λ (k : ℕ). items_upto (level_at m) (suc m) k found (ts ++ Plain t.Comma ∷ after)) some in
      elim (cases_lt m (deep e)) [
        | inl big ↦ start ∙ items_late m (n - 1) found (ts ++ Plain t.Comma ∷ after) (nested_late m 10 e (ts ++ Plain t.Comma ∷ after) (λ k l. late d k (Plain t.Comma ∷ after) l (follows_comma 10 after)) big)
        | inr le ↦
            start
            ∙ items_next (level_at m) (suc m) (n - 1) found (deepened e) (ts ++ Plain t.Comma ∷ after) after (read_again d m (Plain t.Comma ∷ after) le (follows_comma 11 after))
            ∙ listed_late i m rest (n - 1) (spec.with_item found (deepened e)) (omega arith) (omega (arith, At_some d, length-append ts (Plain t.Comma ∷ us))) f
      ]

-- an expression past the limit is refused for that
pub expression_late : (ts : List Symbol) (e : Tree) (rest : List Symbol) → At 10 ts e → 100 < deep e → Follows 11 rest → expression_from (ts ++ rest) ≡ Err TooLong
unfolding expression_from
expression_late ts e rest d lt f =
    let h = nested_late 100 10 e (ts ++ rest) (λ m l. late d m rest l (Follows-less 10 rest f)) lt in rw h refl

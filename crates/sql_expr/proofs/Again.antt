-- Each expression is read again, whatever follows that cannot go on with it.
use Rattle.std.proofs.Common.{◌≡◌, ℕ, zero, suc, ◌+◌, ◌-◌, ◌<◌, ◌≤◌, max, Bool, true, false, eqb, List, [], ◌∷◌, ◌++◌, length, Option, Some, None, Result, Ok, Err, refl, sym, ap, ◌∙◌, append_assoc, length-append, arith, ◌⊎◌, inl, inr, ◌≢◌}
use Rattle.std.proofs.lemmas.List.{append-nil}
use Rattle.std.proofs.lemmas.Bool.{le-leb, ne_eqb}
use Rattle.std.proofs.lemmas.Bool.Decides.{eqb_tells}
use Rattle.sql_expr.specs.declared.refusal.Refusal.{Refusal}
use Rattle.sql_lexer.specs.declared.keyword.Keyword.TheVariants as w
use Rattle.sql_lexer.specs.declared.token.Kind.{Kind}
use Rattle.sql_lexer.specs.declared.token.Kind.TheVariants as t
use Rattle.sql_syntax.specs.declared.expr.Operator.{Operator}
use Rattle.sql_syntax.specs.declared.expr.Operator.TheVariants as op
use Rattle.sql_syntax.specs.Tree as tree
use Rattle.sql_syntax.specs.Tree.{Tree, Trees, trees}
use Rattle.sql_expr.specs.Depth.{deep, deepest, list_of}
use Rattle.sql_expr.specs.Symbols.{Symbol, Plain, Name, Text, Blob}
use Rattle.sql_expr.specs.Follows.{ends_name, Follows, ends_list, EndsList}
use Rattle.sql_expr.specs.Grammar as g
use Rattle.sql_expr.specs.Grammar.{level_of, operator, At, Tail, Items}
use Rattle.sql_expr.specs.Reading as spec
use Rattle.sql_expr.specs.Reading.{Read, ◌>>=◌, Deep, Deeps, over, leaf, binds, goes_on, prefixes, is_prefixed, wrap, word_from, after_word, mark_from, name_from, action_from, text_from, raise_from, items_upto, items_from, items, call, named, paren, atom, prefix, operand, between, among, collate, by_operator, tail, tails, ladder, level_at, expression_from}

abbrev pub deepened : Tree → Deep
deepened e = record { tree = e; depth = deep e }

pub deep_some : (e : Tree) → 0 < deep e
deep_some tree.Null = omega arith
deep_some (tree.Integer n) = omega arith
deep_some (tree.Text z) = omega arith
deep_some (tree.Blob z) = omega arith
deep_some (tree.Column s c) = omega arith
deep_some (tree.Paren e) = omega arith
deep_some (tree.Negated e) = omega arith
deep_some (tree.Not e) = omega arith
deep_some (tree.Binary o a b) = omega arith
deep_some (tree.Between n a b c) = omega arith
deep_some (tree.In n a es) = omega arith
deep_some (tree.Collate e c) = omega arith
deep_some (tree.Call f es) = omega arith
deep_some (tree.CallAll f) = omega arith
deep_some (tree.Raise r z) = omega arith

-- ---- what an expression begins with

abbrev pub begins : List Symbol → Bool
begins (Plain (t.Word w.Null) ∷ ts) = true
begins (Plain (t.Word w.Raise) ∷ ts) = true
begins (Plain (t.Integer n) ∷ ts) = true
begins (Name c ∷ ts) = true
begins (Text z ∷ ts) = true
begins (Blob z ∷ ts) = true
begins (Plain t.LeftParen ∷ ts) = true
begins (Plain t.Minus ∷ ts) = true
begins (Plain (t.Word w.Not) ∷ ts) = true
begins _ = false

pub first : {r : ℕ} {ts : List Symbol} {e : Tree} → At r ts e → (rest : List Symbol) (k : ℕ) → r < k → is_prefixed k (ts ++ rest) ≡ false
unfolding is_prefixed
first g.null rest k lt = ne_eqb 0 k (λ h. omega arith)
first g.integer rest k lt = ne_eqb 0 k (λ h. omega arith)
first g.text rest k lt = ne_eqb 0 k (λ h. omega arith)
first g.blob rest k lt = ne_eqb 0 k (λ h. omega arith)
first g.call_of_all rest k lt = ne_eqb 0 k (λ h. omega arith)
first g.abort rest k lt = ne_eqb 0 k (λ h. omega arith)
first g.rollback rest k lt = ne_eqb 0 k (λ h. omega arith)
first g.column rest k lt = ne_eqb 0 k (λ h. omega arith)
first g.qualified rest k lt = ne_eqb 0 k (λ h. omega arith)
first (g.paren d) rest k lt = ne_eqb 0 k (λ h. omega arith)
first g.empty_call rest k lt = ne_eqb 0 k (λ h. omega arith)
first (g.call d) rest k lt = ne_eqb 0 k (λ h. omega arith)
first (g.minus d) rest k lt = ne_eqb 1 k (λ h. omega arith)
first (g.not d) rest k lt = ne_eqb 8 k (λ h. omega arith)
first (g.up d) rest k lt = first d rest k (omega arith)
first (g.chain {us = us} {vs = vs} d x) rest k lt = rw (append_assoc us vs rest) (first d (vs ++ rest) k lt)

pub begun : {r : ℕ} {ts : List Symbol} {e : Tree} → At r ts e → (rest : List Symbol) → begins (ts ++ rest) ≡ true
begun g.null rest = refl
begun g.integer rest = refl
begun g.text rest = refl
begun g.blob rest = refl
begun g.call_of_all rest = refl
begun g.abort rest = refl
begun g.rollback rest = refl
begun g.column rest = refl
begun g.qualified rest = refl
begun (g.paren d) rest = refl
begun g.empty_call rest = refl
begun (g.call d) rest = refl
begun (g.minus d) rest = refl
begun (g.not d) rest = refl
begun (g.up d) rest = begun d rest
begun (g.chain {us = us} {vs = vs} d x) rest = rw (append_assoc us vs rest) (begun d (vs ++ rest))

-- ---- steps

pub over_fits : (room : ℕ) (e : Tree) (d : ℕ) (ts : List Symbol) → suc d ≤ room → over room e d ts ≡ Ok (record { tree = e; depth = suc d }, ts)
unfolding over
over_fits room e d ts le = rw (le-leb (suc d) room le) refl

pub never_one : (ts : List Symbol) → goes_on 1 ts ≡ false
unfolding goes_on
never_one [] = refl
never_one (Plain s ∷ ts) = never_one_of s
  where
    never_one_of : (s : Kind) → eqb (level_of s) 1 ≡ false
    never_one_of (t.Word w.Or) = refl
    never_one_of _ = refl
never_one (_ ∷ ts) = refl

pub never_eight : (ts : List Symbol) → goes_on 8 ts ≡ false
unfolding goes_on
never_eight [] = refl
never_eight (Plain s ∷ ts) = never_eight_of s
  where
    never_eight_of : (s : Kind) → eqb (level_of s) 8 ≡ false
    never_eight_of (t.Word w.Or) = refl
    never_eight_of _ = refl
never_eight (_ ∷ ts) = refl

pub follows_by : (r : ℕ) (s : Symbol) (rest : List Symbol) → ends_name (s ∷ rest) ≡ true → ((k : ℕ) → 0 < k → k < r → binds s ≡ k → ⊥) → Follows r (s ∷ rest)
unfolding goes_on
follows_by r s rest e ne = record { alone = e; quiet = λ k p q. ne_eqb (binds s) k (ne k p q) }

pub Follows-less : (r : ℕ) (rest : List Symbol) → Follows (suc r) rest → Follows r rest
Follows-less r rest f = record { alone = f.alone; quiet = λ k p q. f.quiet k p (omega arith) }

pub Follows-one : (rest : List Symbol) → Follows 1 rest → Follows 2 rest
Follows-one rest f = record { alone = f.alone; quiet = λ k p q. let e : k ≡ 1 = omega arith in rw e (never_one rest) }

pub Follows-eight : (rest : List Symbol) → Follows 8 rest → Follows 9 rest
Follows-eight rest f = record { alone = f.alone; quiet = λ k p q. at_most k p q (eqb_tells k 8) }
  where
    at_most : (k : ℕ) → 0 < k → k < 9 → ((eqb k 8 ≡ true) × (k ≡ 8)) ⊎ ((eqb k 8 ≡ false) × (k ≢ 8)) → goes_on k rest ≡ false
    at_most k p q (inl h) = let e : k ≡ 8 = h.1 in rw e (never_eight rest)
    at_most k p q (inr h) = let ne : k ≢ 8 = h.1 in f.quiet k p (omega arith)

module _ (inner : ℕ → List Symbol → Read Deep) (room : ℕ) where
  pub tails_stop : (n r : ℕ) (d : Deep) (rest : List Symbol) → goes_on (suc r) rest ≡ false → tails inner room n r d rest ≡ Ok (d, rest)
  unfolding tails
  tails_stop zero r d rest q = rw q refl
  tails_stop (suc n) r d rest q = rw q refl

  pub tails_go : (n r : ℕ) (d e : Deep) (ts rest : List Symbol) → goes_on (suc r) ts ≡ true → tail inner room r d ts ≡ Ok (e, rest) → tails inner room (suc n) r d ts ≡ tails inner room n r e rest
  unfolding tails
  tails_go n r d e ts rest q h = rw (q, h) refl

  pub named_alone : (c : List ℕ) (rest : List Symbol) → ends_name rest ≡ true → named inner room c rest ≡ Ok (leaf (tree.Column None c), rest)
  unfolding named
  named_alone c [] e = refl
  named_alone c (Plain t.Dot ∷ ts) e = absurd cc
  named_alone c (Plain t.LeftParen ∷ ts) e = absurd cc
  named_alone c (_ ∷ ts) e = refl

  pub call_begun : (f : List ℕ) (ts : List Symbol) → begins ts ≡ true → call inner room f ts ≡ (items inner room ts >>= λ found. over room (tree.Call f (trees found.0.trees)) found.0.depth found.1)
  unfolding call
  call_begun f [] e = absurd cc
  call_begun f (Plain t.RightParen ∷ ts) e = absurd cc
  call_begun f (Plain t.Star ∷ ts) e = absurd cc
  call_begun f (_ ∷ ts) e = refl

  pub is_alone : (r : ℕ) (d : Deep) (ts : List Symbol) → is_prefixed 8 ts ≡ false → tail inner room r d (Plain (t.Word w.Is) ∷ ts) ≡ operand inner room r op.Is d ts
  unfolding tail is_prefixed
  is_alone r d [] e = refl
  is_alone r d (Plain (t.Word w.Not) ∷ ts) e = absurd cc
  is_alone r d (_ ∷ ts) e = refl

  pub by_tail : (r : ℕ) (d : Deep) (s : Kind) (o : Operator) (ts : List Symbol) → operator s ≡ Some o → tail inner room r d (Plain s ∷ ts) ≡ operand inner room r o d ts
  unfolding tail
  by_tail r d (t.Word w.Collate) o ts e = absurd cc
  by_tail r d (t.Word w.Is) o ts e = absurd cc
  by_tail r d (t.Word w.Between) o ts e = absurd cc
  by_tail r d (t.Word w.In) o ts e = absurd cc
  by_tail r d (t.Word w.Not) o ts e = absurd cc
  by_tail r d s o ts e = ap (λ (x : Option Operator). by_operator inner room r x d ts (Plain s ∷ ts)) e

-- ---- what reading comes to where an expression stands at the front

abbrev pub Opened : ℕ → ℕ → Tree → List Symbol → List Symbol → Type 0
Opened room zero e all rest = ladder (level_at room) (suc room) zero all ≡ Ok (deepened e, rest)
Opened room (suc r) e all rest =
    (n : ℕ) × (suc room ≤ n + deep e) × (ladder (level_at room) (suc room) (suc r) all ≡ tails (level_at room) (suc room) n r (deepened e) rest)

pub closed : (room r : ℕ) (e : Tree) (all rest : List Symbol) → Opened room r e all rest → Follows (suc r) rest → ladder (level_at room) (suc room) r all ≡ Ok (deepened e, rest)
closed room zero e all rest o f = o
closed room (suc r) e all rest o f = o.2 ∙ tails_stop (level_at room) (suc room) o.0 r (deepened e) rest (f.quiet (suc r) (omega arith) (omega arith))

pub nested : (room r : ℕ) (e : Tree) (all rest : List Symbol) → ((m : ℕ) → deep e ≤ suc m → Opened m r e all rest) → deep e ≤ room → Follows (suc r) rest → level_at room r all ≡ Ok (deepened e, rest)
unfolding level_at
nested zero r e all rest d le f = absurd (omega (arith, deep_some e))
nested (suc m) r e all rest d le f = closed m r e all rest (d m le) f

-- one level further up
pub raised : (room r : ℕ) (e : Tree) (all rest : List Symbol) → Opened room r e all rest → Follows (suc r) rest → is_prefixed (suc r) all ≡ false → Opened room (suc r) e all rest
unfolding ladder
raised room r e all rest o f bare =
    let c = closed room r e all rest o f in
    (suc room, omega arith, rw (bare, c) refl)

-- an expression that stands after a token before its operand
pub prefixed : (room r : ℕ) (s : Symbol) (e : Tree) (ts rest : List Symbol) → is_prefixed (suc r) (s ∷ ts) ≡ true → level_at room (suc r) ts ≡ Ok (deepened e, rest) → deep e ≤ room → deep (wrap s e) ≡ suc (deep e)
    → goes_on (suc r) rest ≡ false → Opened room (suc r) (wrap s e) (s ∷ ts) rest
unfolding ladder prefix
prefixed room r s e ts rest is_one h le same quiet =
    let o = over_fits (suc room) (wrap s e) (deep e) rest (omega arith) in
    let whole : ladder (level_at room) (suc room) (suc r) (s ∷ ts) ≡ Ok (deepened (wrap s e), rest) =
    rw (is_one, h, o) (ap (λ (d : ℕ). Ok (record { tree = wrap s e; depth = d }, rest)) (sym same)) in
    (suc room, omega arith, whole ∙ sym (tails_stop (level_at room) (suc room) (suc room) r (deepened (wrap s e)) rest quiet))

pub list-trees : (es : Trees) → trees (list_of es) ≡ es
list-trees tree.End = refl
list-trees (tree.More e es) = ap (tree.More e) (list-trees es)

pub items_stop : (go : Deeps → List Symbol → Read Deeps) (found : Deeps) (rest : List Symbol) → ends_list rest ≡ true → spec.next_item go found rest ≡ Ok (found, rest)
items_stop go found [] e = refl
items_stop go found (Plain t.Comma ∷ ts) e = absurd cc
items_stop go found (_ ∷ ts) e = refl

pub items_end : (inner : ℕ → List Symbol → Read Deep) (room n : ℕ) (found : Deeps) (e : Deep) (ts rest : List Symbol) → inner 10 ts ≡ Ok (e, rest) → ends_list rest ≡ true
    → items_upto inner room (suc n) found ts ≡ Ok (spec.with_item found e, rest)
unfolding items_upto
items_end inner room n found e ts rest h ends = rw h (items_stop (items_upto inner room n) (spec.with_item found e) rest ends)

pub items_next : (inner : ℕ → List Symbol → Read Deep) (room n : ℕ) (found : Deeps) (e : Deep) (ts rest : List Symbol) → inner 10 ts ≡ Ok (e, Plain t.Comma ∷ rest)
    → items_upto inner room (suc n) found ts ≡ items_upto inner room n (spec.with_item found e) rest
unfolding items_upto
items_next inner room n found e ts rest h = rw h refl

pub items_begun : {ts : List Symbol} {es : Trees} → Items ts es → (rest : List Symbol) → begins (ts ++ rest) ≡ true
items_begun (g.last d) rest = begun d rest
items_begun (g.next {ts = ts} {us = us} d i) rest = rw (append_assoc ts (Plain t.Comma ∷ us) rest) (begun d (Plain t.Comma ∷ us ++ rest))

-- a tail goes on with the chain, and makes the tree deeper
pub tail_on : {r : ℕ} {a e : Tree} {vs : List Symbol} → Tail r a vs e → (rest : List Symbol) → goes_on (suc r) (vs ++ rest) ≡ true
unfolding goes_on
tail_on (g.binary s o b is d) rest = rw b (eqb_same _)
  where
    eqb_same : (n : ℕ) → eqb n n ≡ true
    eqb_same n = grind arith
tail_on (g.is d) rest = refl
tail_on (g.is_not d) rest = refl
tail_on (g.between d c) rest = refl
tail_on (g.not_between d c) rest = refl
tail_on (g.among i) rest = refl
tail_on (g.not_among i) rest = refl
tail_on g.collate rest = refl

pub tail_deeper : {r : ℕ} {a e : Tree} {vs : List Symbol} → Tail r a vs e → deep a < deep e
tail_deeper (g.binary s o b is d) = omega arith
tail_deeper (g.is d) = omega arith
tail_deeper (g.is_not d) = omega arith
tail_deeper (g.between d c) = omega arith
tail_deeper (g.not_between d c) = omega arith
tail_deeper (g.among i) = omega arith
tail_deeper (g.not_among i) = omega arith
tail_deeper g.collate = omega arith

pub operator_alone : (s : Kind) (o : Operator) (ts : List Symbol) → operator s ≡ Some o → ends_name (Plain s ∷ ts) ≡ true
operator_alone t.Dot o ts e = absurd cc
operator_alone t.LeftParen o ts e = absurd cc
operator_alone _ o ts e = refl

pub tail_follows : {r : ℕ} {a e : Tree} {vs : List Symbol} → Tail r a vs e → (rest : List Symbol) → Follows (suc r) (vs ++ rest)
tail_follows (g.binary {r = r} {bs = bs} s o b is d) rest = follows_by _ (Plain s) (bs ++ rest) (operator_alone s o (bs ++ rest) is) (λ k p q h. omega arith)
tail_follows (g.is d) rest = follows_by _ (Plain (t.Word w.Is)) _ refl (λ k p q h. omega arith)
tail_follows (g.is_not d) rest = follows_by _ (Plain (t.Word w.Is)) _ refl (λ k p q h. omega arith)
tail_follows (g.between d c) rest = follows_by _ (Plain (t.Word w.Between)) _ refl (λ k p q h. omega arith)
tail_follows (g.not_between d c) rest = follows_by _ (Plain (t.Word w.Not)) _ refl (λ k p q h. omega arith)
tail_follows (g.among i) rest = follows_by _ (Plain (t.Word w.In)) _ refl (λ k p q h. omega arith)
tail_follows (g.not_among i) rest = follows_by _ (Plain (t.Word w.Not)) _ refl (λ k p q h. omega arith)
tail_follows g.collate rest = follows_by _ (Plain (t.Word w.Collate)) _ refl (λ k p q h. omega arith)

-- ---- the law

pub follows_paren : (r : ℕ) (rest : List Symbol) → Follows r (Plain t.RightParen ∷ rest)
follows_paren r rest = follows_by r (Plain t.RightParen) rest refl (λ k p q h. omega arith)

pub follows_comma : (r : ℕ) (rest : List Symbol) → Follows r (Plain t.Comma ∷ rest)
follows_comma r rest = follows_by r (Plain t.Comma) rest refl (λ k p q h. omega arith)

pub follows_and : (rest : List Symbol) → Follows 7 (Plain (t.Word w.And) ∷ rest)
follows_and rest = follows_by 7 (Plain (t.Word w.And)) rest refl (λ k p q h. omega arith)

pub ends_paren : (rest : List Symbol) → EndsList (Plain t.RightParen ∷ rest)
ends_paren rest = (follows_paren 11 rest, refl)

pub At_some : {r : ℕ} {ts : List Symbol} {e : Tree} → At r ts e → 0 < length ts
At_some g.null = omega arith
At_some g.integer = omega arith
At_some g.text = omega arith
At_some g.blob = omega arith
At_some g.call_of_all = omega arith
At_some g.abort = omega arith
At_some g.rollback = omega arith
At_some g.column = omega arith
At_some g.qualified = omega arith
At_some (g.paren d) = omega arith
At_some g.empty_call = omega arith
At_some (g.call d) = omega arith
At_some (g.minus d) = omega arith
At_some (g.not d) = omega arith
At_some (g.up d) = At_some d
At_some (g.chain {us = us} {vs = vs} d x) = omega (arith, length-append us vs, At_some d)

pub items_of : (inner : ℕ → List Symbol → Read Deep) (room : ℕ) (ts : List Symbol) (es : Trees) (rest : List Symbol)
    → items_upto inner room (length (ts ++ Plain t.RightParen ∷ rest)) spec.no_items (ts ++ Plain t.RightParen ∷ rest) ≡ Ok (record { trees = [] ++ list_of es; depth = max 0 (deepest es) }, Plain t.RightParen ∷ rest)
    → items inner room (ts ++ Plain t.RightParen ∷ rest) ≡ Ok (record { trees = list_of es; depth = deepest es }, rest)
unfolding items mark_from
items_of inner room ts es rest h =
    let d : max 0 (deepest es) ≡ deepest es = omega arith in
    rw h (ap (λ (k : ℕ). Ok (record { trees = list_of es; depth = k }, rest)) d)

pub among_fits : (inner : ℕ → List Symbol → Read Deep) (room : ℕ) (n : Bool) (a : Tree) (ts : List Symbol) (es : Trees) (rest : List Symbol) → suc (max (deep a) (deepest es)) ≤ room
    → items inner room (ts ++ Plain t.RightParen ∷ rest) ≡ Ok (record { trees = list_of es; depth = deepest es }, rest)
    → among inner room n (deepened a) (Plain t.LeftParen ∷ (ts ++ Plain t.RightParen ∷ rest)) ≡ Ok (deepened (tree.In n a es), rest)
unfolding among mark_from
among_fits inner room n a ts es rest le h =
    rw (h, list-trees es) (over_fits room (tree.In n a es) (max (deep a) (deepest es)) rest le)

pub between_fits : (inner : ℕ → List Symbol → Read Deep) (room : ℕ) (n : Bool) (a b c : Tree) (ts us rest : List Symbol) → deep (tree.Between n a b c) ≤ room
    → inner 6 ts ≡ Ok (deepened b, Plain (t.Word w.And) ∷ us) → inner 6 us ≡ Ok (deepened c, rest) → between inner room 6 n (deepened a) ts ≡ Ok (deepened (tree.Between n a b c), rest)
unfolding between word_from after_word
between_fits inner room n a b c ts us rest le h k = rw (h, k) (over_fits room (tree.Between n a b c) (max (deep a) (max (deep b) (deep c))) rest le)

pub operand_fits : (inner : ℕ → List Symbol → Read Deep) (room r : ℕ) (o : Operator) (a b : Tree) (ts rest : List Symbol) → deep (tree.Binary o a b) ≤ room
    → inner r ts ≡ Ok (deepened b, rest) → operand inner room r o (deepened a) ts ≡ Ok (deepened (tree.Binary o a b), rest)
unfolding operand
operand_fits inner room r o a b ts rest le h = rw h (over_fits room (tree.Binary o a b) (max (deep a) (deep b)) rest le)

pub paren_fits : (inner : ℕ → List Symbol → Read Deep) (room : ℕ) (e : Tree) (ts rest : List Symbol) → suc (deep e) ≤ room
    → inner 10 ts ≡ Ok (deepened e, Plain t.RightParen ∷ rest) → paren inner room ts ≡ Ok (deepened (tree.Paren e), rest)
unfolding paren mark_from
paren_fits inner room e ts rest le h = rw h (over_fits room (tree.Paren e) (deep e) rest le)

mutual
  unfolding ladder atom named call raise_from action_from text_from mark_from name_from tail collate is_prefixed

  pub opens : {r : ℕ} {ts : List Symbol} {e : Tree} → At r ts e → (room : ℕ) (rest : List Symbol) → deep e ≤ suc room → Follows r rest → Opened room r e (ts ++ rest) rest
  opens g.null room rest le f = refl
  opens g.integer room rest le f = refl
  opens g.text room rest le f = refl
  opens g.blob room rest le f = refl
  opens g.call_of_all room rest le f = refl
  opens g.abort room rest le f = refl
  opens g.rollback room rest le f = refl
  opens (g.column {c = c}) room rest le f = named_alone (level_at room) (suc room) c rest f.alone
  opens g.qualified room rest le f = refl
  opens (g.paren {ts = ts} {e = e} d) room rest le f =
      let all = append_assoc ts (Plain t.RightParen ∷ []) rest in
      let n = nested room 10 e (ts ++ Plain t.RightParen ∷ rest) (Plain t.RightParen ∷ rest) (λ m l. opens d m (Plain t.RightParen ∷ rest) l (follows_paren 10 rest)) (omega arith) (follows_paren 11 rest) in
      ap (paren (level_at room) (suc room)) all ∙ paren_fits (level_at room) (suc room) e (ts ++ Plain t.RightParen ∷ rest) rest le n
  opens (g.empty_call {f = name}) room rest le f = over_fits (suc room) (tree.Call name tree.End) 0 rest (omega arith)
  opens (g.call {f = name} {ts = ts} {es = es} i) room rest le f =
      let all = append_assoc ts (Plain t.RightParen ∷ []) rest in
      let l = listed i room (Plain t.RightParen ∷ rest) (length (ts ++ Plain t.RightParen ∷ rest)) spec.no_items (omega arith) (omega (arith, length-append ts (Plain t.RightParen ∷ rest))) (ends_paren rest) in
      let c = items_of (level_at room) (suc room) ts es rest l in
      ap (λ (us : List Symbol). call (level_at room) (suc room) name us) all
      ∙ call_begun (level_at room) (suc room) name (ts ++ Plain t.RightParen ∷ rest) (items_begun i (Plain t.RightParen ∷ rest))
      ∙ rw (c, list-trees es) (over_fits (suc room) (tree.Call name es) (deepest es) rest le)
  opens (g.minus {ts = ts} {e = e} d) room rest le f =
      prefixed room 0 (Plain t.Minus) e (ts ++ rest) rest refl (nested room 1 e (ts ++ rest) rest (λ m l. opens d m rest l f) (omega arith) (Follows-one rest f)) (omega arith) refl (never_one rest)
  opens (g.not {ts = ts} {e = e} d) room rest le f =
      prefixed room 7 (Plain (t.Word w.Not)) e (ts ++ rest) rest refl (nested room 8 e (ts ++ rest) rest (λ m l. opens d m rest l f) (omega arith) (Follows-eight rest f)) (omega arith) refl (never_eight rest)
  opens (g.up {r = r} {ts = ts} {e = e} d) room rest le f =
      raised room r e (ts ++ rest) rest (opens d room rest le (Follows-less r rest f)) f (first d rest (suc r) (omega arith))
  opens (g.chain {r = r} {us = us} {vs = vs} {a = a} {e = e} d x) room rest le f =
      let deeper = tail_deeper x in
      let o = opens d room (vs ++ rest) (omega arith) (tail_follows x rest) in
      let all : (us ++ vs) ++ rest ≡ us ++ (vs ++ rest) = append_assoc us vs rest in
      let n = o.0 in
      let some : n ≡ suc (n - 1) = omega (arith, o.1) in
      let step = tails_go (level_at room) (suc room) (n - 1) r (deepened a) (deepened e) (vs ++ rest) rest (tail_on x rest) (tailed x room rest le f) in
      (n - 1, omega (arith, o.1), ap (ladder (level_at room) (suc room) (suc r)) all ∙ o.2 ∙ ap (λ (k : ℕ). tails (level_at room) (suc room) k r (deepened a) (vs ++ rest)) some ∙ step)

  pub tailed : {r : ℕ} {a e : Tree} {vs : List Symbol} → Tail r a vs e → (room : ℕ) (rest : List Symbol) → deep e ≤ suc room → Follows (suc r) rest → tail (level_at room) (suc room) r (deepened a) (vs ++ rest) ≡ Ok (deepened e, rest)
  tailed (g.binary {r = r} {a = a} {b = b} {bs = bs} s o bd is d) room rest le f =
      by_tail (level_at room) (suc room) r (deepened a) s o (bs ++ rest) is
      ∙ operand_fits (level_at room) (suc room) r o a b (bs ++ rest) rest le (nested room r b (bs ++ rest) rest (λ m l. opens d m rest l (Follows-less r rest f)) (omega arith) f)
  tailed (g.is {a = a} {b = b} {bs = bs} d) room rest le f =
      is_alone (level_at room) (suc room) 6 (deepened a) (bs ++ rest) (first d rest 8 (omega arith))
      ∙ operand_fits (level_at room) (suc room) 6 op.Is a b (bs ++ rest) rest le (nested room 6 b (bs ++ rest) rest (λ m l. opens d m rest l (Follows-less 6 rest f)) (omega arith) f)
  tailed (g.is_not {a = a} {b = b} {bs = bs} d) room rest le f =
      operand_fits (level_at room) (suc room) 6 op.IsNot a b (bs ++ rest) rest le (nested room 6 b (bs ++ rest) rest (λ m l. opens d m rest l (Follows-less 6 rest f)) (omega arith) f)
  tailed (g.between {a = a} {b = b} {c = c} {bs = bs} {cs = cs} d x) room rest le f =
      let all = append_assoc bs (Plain (t.Word w.And) ∷ cs) rest in
      let n = nested room 6 b (bs ++ Plain (t.Word w.And) ∷ (cs ++ rest)) (Plain (t.Word w.And) ∷ (cs ++ rest)) (λ m l. opens d m (Plain (t.Word w.And) ∷ (cs ++ rest)) l (Follows-less 6 _ (follows_and (cs ++ rest)))) (omega arith) (follows_and (cs ++ rest)) in
      let k = nested room 6 c (cs ++ rest) rest (λ m l. opens x m rest l (Follows-less 6 rest f)) (omega arith) f in
      ap (between (level_at room) (suc room) 6 false (deepened a)) all ∙ between_fits (level_at room) (suc room) false a b c (bs ++ Plain (t.Word w.And) ∷ (cs ++ rest)) (cs ++ rest) rest le n k
  tailed (g.not_between {a = a} {b = b} {c = c} {bs = bs} {cs = cs} d x) room rest le f =
      let all = append_assoc bs (Plain (t.Word w.And) ∷ cs) rest in
      let n = nested room 6 b (bs ++ Plain (t.Word w.And) ∷ (cs ++ rest)) (Plain (t.Word w.And) ∷ (cs ++ rest)) (λ m l. opens d m (Plain (t.Word w.And) ∷ (cs ++ rest)) l (Follows-less 6 _ (follows_and (cs ++ rest)))) (omega arith) (follows_and (cs ++ rest)) in
      let k = nested room 6 c (cs ++ rest) rest (λ m l. opens x m rest l (Follows-less 6 rest f)) (omega arith) f in
      ap (between (level_at room) (suc room) 6 true (deepened a)) all ∙ between_fits (level_at room) (suc room) true a b c (bs ++ Plain (t.Word w.And) ∷ (cs ++ rest)) (cs ++ rest) rest le n k
  tailed (g.among {a = a} {ts = ts} {es = es} i) room rest le f =
      let all = append_assoc ts (Plain t.RightParen ∷ []) rest in
      let l = listed i room (Plain t.RightParen ∷ rest) (length (ts ++ Plain t.RightParen ∷ rest)) spec.no_items (omega arith) (omega (arith, length-append ts (Plain t.RightParen ∷ rest))) (ends_paren rest) in
      ap (λ (us : List Symbol). among (level_at room) (suc room) false (deepened a) (Plain t.LeftParen ∷ us)) all
      ∙ among_fits (level_at room) (suc room) false a ts es rest le (items_of (level_at room) (suc room) ts es rest l)
  tailed (g.not_among {a = a} {ts = ts} {es = es} i) room rest le f =
      let all = append_assoc ts (Plain t.RightParen ∷ []) rest in
      let l = listed i room (Plain t.RightParen ∷ rest) (length (ts ++ Plain t.RightParen ∷ rest)) spec.no_items (omega arith) (omega (arith, length-append ts (Plain t.RightParen ∷ rest))) (ends_paren rest) in
      ap (λ (us : List Symbol). among (level_at room) (suc room) true (deepened a) (Plain t.LeftParen ∷ us)) all
      ∙ among_fits (level_at room) (suc room) true a ts es rest le (items_of (level_at room) (suc room) ts es rest l)
  tailed (g.collate {a = a} {c = c}) room rest le f = over_fits (suc room) (tree.Collate a c) (deep a) rest le

  pub listed : {ts : List Symbol} {es : Trees} → Items ts es → (room : ℕ) (rest : List Symbol) (n : ℕ) (found : Deeps) → deepest es ≤ room → length ts ≤ n → EndsList rest
      → items_upto (level_at room) (suc room) n found (ts ++ rest) ≡ Ok (record { trees = found.trees ++ list_of es; depth = max found.depth (deepest es) }, rest)
  listed (g.last {ts = ts} {e = e} d) room rest n found le long ends =
      let some : n ≡ suc (n - 1) = omega (arith, At_some d) in
      let h = nested room 10 e (ts ++ rest) rest (λ m l. opens d m rest l (Follows-less 10 rest ends.0)) (omega arith) ends.0 in
      let same : max found.depth (deep e) ≡ max found.depth (max (deep e) 0) = omega arith in
      ap (λ (k : ℕ). items_upto (level_at room) (suc room) k found (ts ++ rest)) some
      ∙ items_end (level_at room) (suc room) (n - 1) found (deepened e) (ts ++ rest) rest h ends.1
      ∙ ap (λ (k : ℕ). Ok (record { trees = found.trees ++ e ∷ []; depth = k }, rest)) same
  listed (g.next {ts = ts} {us = us} {e = e} {es = es} d i) room rest n found le long ends =
      let all = append_assoc ts (Plain t.Comma ∷ us) rest in
      let after = us ++ rest in
      let some : n ≡ suc (n - 1) = omega (arith, At_some d, length-append ts (Plain t.Comma ∷ us)) in
      let h = nested room 10 e (ts ++ Plain t.Comma ∷ after) (Plain t.Comma ∷ after) (λ m l. opens d m (Plain t.Comma ∷ after) l (follows_comma 10 after)) (omega arith) (follows_comma 11 after) in
      let ih = listed i room rest (n - 1) (spec.with_item found (deepened e)) (omega arith) (omega (arith, At_some d, length-append ts (Plain t.Comma ∷ us))) ends in
      let same : max (max found.depth (deep e)) (deepest es) ≡ max found.depth (max (deep e) (deepest es)) = omega arith in
      ap (items_upto (level_at room) (suc room) n found) all
      ∙ ap (λ (k : ℕ). items_upto (level_at room) (suc room) k found (ts ++ Plain t.Comma ∷ after)) some
      ∙ items_next (level_at room) (suc room) (n - 1) found (deepened e) (ts ++ Plain t.Comma ∷ after) after h
      ∙ ih
      ∙ ap (λ (k : ℕ). Ok (record { trees = (found.trees ++ e ∷ []) ++ list_of es; depth = k }, rest)) same
      ∙ ap (λ (x : List Tree). Ok (record { trees = x; depth = max found.depth (max (deep e) (deepest es)) }, rest)) (append_assoc found.trees (e ∷ []) (list_of es))

pub read_again : {r : ℕ} {ts : List Symbol} {e : Tree} → At r ts e → (room : ℕ) (rest : List Symbol) → deep e ≤ room → Follows (suc r) rest → level_at room r (ts ++ rest) ≡ Ok (deepened e, rest)
read_again {r} {ts} {e} d room rest le f = nested room r e (ts ++ rest) rest (λ m l. opens d m rest l (Follows-less r rest f)) le f

pub follows_end : (r : ℕ) → Follows r []
unfolding goes_on
follows_end r = record { alone = refl; quiet = λ k p q. refl }

pub read_whole : (ts : List Symbol) (e : Tree) → At 10 ts e → (room : ℕ) → deep e ≤ room → level_at room 10 ts ≡ Ok (deepened e, [])
read_whole ts e d room le = ap (level_at room 10) (sym (append-nil ts)) ∙ read_again d room [] le (follows_end 11)

abbrev pub tree_in : Result (Deep × List Symbol) Refusal → Tree
tree_in (Ok x) = x.0.tree
tree_in (Err f) = tree.Null

-- the pieces are one expression at most
pub one_tree : (ts : List Symbol) (a b : Tree) → At 10 ts a → At 10 ts b → a ≡ b
one_tree ts a b d x =
    let room = max (deep a) (deep b) in
    let h = read_whole ts a d room (omega arith) in
    let k = read_whole ts b x room (omega arith) in
    ap tree_in (sym h ∙ k)

-- an expression within the limit is read
pub expression_again : (ts : List Symbol) (e : Tree) (rest : List Symbol) → At 10 ts e → deep e ≤ 100 → Follows 11 rest → expression_from (ts ++ rest) ≡ Ok (e, rest)
unfolding expression_from
expression_again ts e rest d le f = let h = read_again d 100 rest le f in rw h refl

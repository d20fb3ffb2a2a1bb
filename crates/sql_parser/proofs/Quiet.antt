-- No query ends with a semicolon.
use Rattle.std.proofs.Common.{◌≡◌, ℕ, suc, Bool, true, false, Option, List, [], ◌∷◌, ◌++◌, refl}
use Rattle.sql_lexer.specs.declared.keyword.Keyword.TheVariants as w
use Rattle.sql_lexer.specs.declared.token.Kind.{Kind}
use Rattle.sql_lexer.specs.declared.token.Kind.TheVariants as k
use Rattle.sql_syntax.specs.Tree.{Tree, Trees}
use Rattle.sql_syntax.specs.declared.query.FromClause.{FromClause}
use Rattle.sql_syntax.specs.declared.query.Join.{Join}
use Rattle.sql_syntax.specs.declared.query.Limit.{Limit}
use Rattle.sql_syntax.specs.declared.query.OrderTerm.{OrderTerm}
use Rattle.sql_syntax.specs.declared.query.Query.{Query}
use Rattle.sql_syntax.specs.declared.query.ResultItem.{ResultItem}
use Rattle.sql_syntax.specs.declared.query.Source.{Source}
use Rattle.sql_expr.specs.Grammar as e
use Rattle.sql_expr.specs.Grammar.{At, Tail, Items, level_of, IsName, Optional, left_out, given, Preceded, preceded}
use Rattle.sql_expr.specs.Symbols.{Symbol, Plain, Name, word, mark}
use Rattle.sql_grammar.specs.Parts.{Said, said, unsaid, Listed, last, next, Many, done_many, further}
use Rattle.sql_grammar.specs.Queries as q
use Rattle.sql_grammar.specs.Queries.{IsInteger, IsResult, IsAlias, IsSource, IsJoin, IsFrom, IsGroups, IsDirection, IsTerm, IsOrder, IsLimit, IsSelection}

abbrev pub closes : Symbol → Bool
closes (Plain k.Semicolon) = true
closes _ = false

-- whether the last piece is a semicolon
abbrev pub is_closed : List Symbol → Bool
is_closed [] = false
is_closed (p ∷ []) = closes p
is_closed (p ∷ r ∷ ps) = is_closed (r ∷ ps)

abbrev pub Quiet : List Symbol → Type 0
Quiet us = is_closed us ≡ false

pub both_quiet : (us vs : List Symbol) → Quiet us → Quiet vs → Quiet (us ++ vs)
both_quiet [] vs h o = o
both_quiet (p ∷ []) [] h o = h
both_quiet (p ∷ []) (r ∷ vs) h o = o
both_quiet (p ∷ r ∷ us) vs h o = both_quiet (r ∷ us) vs h o

pub behind_quiet : (p : Symbol) (us : List Symbol) → closes p ≡ false → Quiet us → Quiet (p ∷ us)
behind_quiet p [] h o = h
behind_quiet p (r ∷ us) h o = o

pub ends_quiet : (us : List Symbol) (p : Symbol) → closes p ≡ false → Quiet (us ++ p ∷ [])
ends_quiet [] p h = h
ends_quiet (r ∷ []) p h = h
ends_quiet (r ∷ s ∷ us) p h = ends_quiet (s ∷ us) p h

-- what stands before a piece doesn't matter
pub before_quiet : (us : List Symbol) (p : Symbol) (vs : List Symbol) → Quiet (p ∷ vs) → Quiet (us ++ p ∷ vs)
before_quiet [] p vs h = h
before_quiet (r ∷ []) p vs h = h
before_quiet (r ∷ s ∷ us) p vs h = before_quiet (s ∷ us) p vs h

joins_nothing : (s : Kind) (r : ℕ) → level_of s ≡ suc r → closes (Plain s) ≡ false
joins_nothing k.Semicolon r h = absurd cc
joins_nothing s r h = refl

mutual
  pub quiet_at : {r : ℕ} {ts : List Symbol} {t : Tree} → At r ts t → Quiet ts
  quiet_at e.null = refl
  quiet_at e.integer = refl
  quiet_at e.text = refl
  quiet_at e.blob = refl
  quiet_at e.column = refl
  quiet_at e.qualified = refl
  quiet_at (e.paren {ts = ts} d) = ends_quiet (mark k.LeftParen ∷ ts) (mark k.RightParen) refl
  quiet_at e.call_of_all = refl
  quiet_at e.empty_call = refl
  quiet_at (e.call {f = f} {ts = ts} i) = ends_quiet (Name f ∷ mark k.LeftParen ∷ ts) (mark k.RightParen) refl
  quiet_at e.abort = refl
  quiet_at e.rollback = refl
  quiet_at (e.minus {ts = ts} d) = behind_quiet (mark k.Minus) ts refl (quiet_at d)
  quiet_at (e.not {ts = ts} d) = behind_quiet (word w.Not) ts refl (quiet_at d)
  quiet_at (e.up d) = quiet_at d
  quiet_at (e.chain {us = us} {vs = vs} d t) = both_quiet us vs (quiet_at d) (quiet_tail t)

  quiet_tail : {r : ℕ} {a : Tree} {ts : List Symbol} {t : Tree} → Tail r a ts t → Quiet ts
  quiet_tail (e.binary {r = r} {bs = bs} s o l h d) = behind_quiet (Plain s) bs (joins_nothing s r l) (quiet_at d)
  quiet_tail (e.is {bs = bs} d) = behind_quiet (word w.Is) bs refl (quiet_at d)
  quiet_tail (e.is_not {bs = bs} d) = behind_quiet (word w.Not) bs refl (quiet_at d)
  quiet_tail (e.between {bs = bs} {cs = cs} d f) = both_quiet (word w.Between ∷ bs) (word w.And ∷ cs) (behind_quiet (word w.Between) bs refl (quiet_at d)) (behind_quiet (word w.And) cs refl (quiet_at f))
  quiet_tail (e.not_between {bs = bs} {cs = cs} d f) =
      both_quiet (word w.Not ∷ word w.Between ∷ bs) (word w.And ∷ cs) (behind_quiet (word w.Between) bs refl (quiet_at d)) (behind_quiet (word w.And) cs refl (quiet_at f))
  quiet_tail (e.among {ts = ts} i) = ends_quiet (word w.In ∷ mark k.LeftParen ∷ ts) (mark k.RightParen) refl
  quiet_tail (e.not_among {ts = ts} i) = ends_quiet (word w.Not ∷ word w.In ∷ mark k.LeftParen ∷ ts) (mark k.RightParen) refl
  quiet_tail e.collate = refl

quiet_items : {ts : List Symbol} {es : Trees} → Items ts es → Quiet ts
quiet_items (e.last d) = quiet_at d
quiet_items (e.next {ts = ts} {us = us} d i) = both_quiet ts (mark k.Comma ∷ us) (quiet_at d) (behind_quiet (mark k.Comma) us refl (quiet_items i))

quiet_listed : {A : Type 0} {R : List Symbol → A → Type 0} → ((us : List Symbol) (a : A) → R us a → Quiet us) → {us : List Symbol} {xs : List A} → Listed R us xs → Quiet us
quiet_listed each (last {ts = ts} {a = a} r) = each ts a r
quiet_listed each (next {ts = ts} {us = us} {a = a} r l) = both_quiet ts (mark k.Comma ∷ us) (each ts a r) (behind_quiet (mark k.Comma) us refl (quiet_listed each l))

quiet_many : {A : Type 0} {R : List Symbol → A → Type 0} → ((us : List Symbol) (a : A) → R us a → Quiet us) → {us : List Symbol} {xs : List A} → Many R us xs → Quiet us
quiet_many each done_many = refl
quiet_many each (further {ts = ts} {us = us} {a = a} r l) = both_quiet ts us (each ts a r) (quiet_many each l)

quiet_optional : {A : Type 0} {R : List Symbol → A → Type 0} → ((us : List Symbol) (a : A) → R us a → Quiet us) → {us : List Symbol} {x : Option A} → Optional R us x → Quiet us
quiet_optional each left_out = refl
quiet_optional each (given {ts = ts} {a = a} r) = each ts a r

quiet_said : {p : Symbol} {us : List Symbol} {b : Bool} → closes p ≡ false → Said p us b → Quiet us
quiet_said h unsaid = refl
quiet_said h said = h

quiet_behind : {A : Type 0} {R : List Symbol → A → Type 0} (p : Symbol) → closes p ≡ false → ((us : List Symbol) (a : A) → R us a → Quiet us) → (us : List Symbol) (a : A) → Preceded p R us a → Quiet us
quiet_behind p h each _ a (preceded {ts = ts} r) = behind_quiet p ts h (each ts a r)

quiet_expression : (us : List Symbol) (t : Tree) → At 10 us t → Quiet us
quiet_expression us t d = quiet_at d

quiet_name : (us : List Symbol) (c : List ℕ) → IsName us c → Quiet us
quiet_name us c h = rw h refl

quiet_result : (us : List Symbol) (r : ResultItem) → IsResult us r → Quiet us
quiet_result _ _ q.all = refl
quiet_result _ _ q.all_of = refl
quiet_result _ _ (q.value {es = es} {us = us} d o) = both_quiet es us (quiet_at d) (quiet_optional (quiet_behind (word w.As) refl quiet_name) o)

quiet_alias : (us : List Symbol) (c : List ℕ) → IsAlias us c → Quiet us
quiet_alias _ _ q.alias = refl
quiet_alias _ _ q.alias_as = refl

quiet_source : (us : List Symbol) (s : Source) → IsSource us s → Quiet us
quiet_source _ _ (q.source {us = us} {t = t} o) = behind_quiet (Name t) us refl (quiet_optional quiet_alias o)

quiet_on : (us : List Symbol) {ss es : List Symbol} {s : Source} {t : Tree} → Quiet us → IsSource ss s → At 10 es t → Quiet (us ++ word w.Join ∷ ss ++ word w.On ∷ es)
quiet_on us {ss = ss} {es = es} {s = s} h i d =
    both_quiet (us ++ word w.Join ∷ ss) (word w.On ∷ es) (both_quiet us (word w.Join ∷ ss) h (behind_quiet (word w.Join) ss refl (quiet_source ss s i))) (behind_quiet (word w.On) es refl (quiet_at d))

quiet_join : (us : List Symbol) (j : Join) → IsJoin us j → Quiet us
quiet_join _ _ (q.comma {ss = ss} {s = s} i) = behind_quiet (mark k.Comma) ss refl (quiet_source ss s i)
quiet_join _ _ (q.inner {is = is} {ss = ss} {es = es} h i d) = quiet_on is (quiet_said refl h) i d
quiet_join _ _ (q.left {os = os} {ss = ss} {es = es} h i d) = quiet_on (word w.Left ∷ os) (behind_quiet (word w.Left) os refl (quiet_said refl h)) i d

quiet_from : (us : List Symbol) (f : FromClause) → IsFrom us f → Quiet us
quiet_from _ _ (q.sources {ss = ss} {js = js} {s = s} i m) = both_quiet ss js (quiet_source ss s i) (quiet_many quiet_join m)

quiet_groups : {us : List Symbol} {es : List Tree} → IsGroups us es → Quiet us
quiet_groups q.no_groups = refl
quiet_groups (q.groups {es = es} i) = behind_quiet (word w.By) es refl (quiet_items i)

quiet_term : (us : List Symbol) (t : OrderTerm) → IsTerm us t → Quiet us
quiet_term _ _ (q.term {es = es} {ds = ds} d o) = both_quiet es ds (quiet_at d) (quiet_direction o)
  where
    quiet_direction : {us : List Symbol} {b : Bool} → IsDirection us b → Quiet us
    quiet_direction q.unsaid = refl
    quiet_direction q.ascending = refl
    quiet_direction q.descending = refl

quiet_order : {us : List Symbol} {ts : List OrderTerm} → IsOrder us ts → Quiet us
quiet_order q.no_order = refl
quiet_order (q.order {ts = ts} l) = behind_quiet (word w.By) ts refl (quiet_listed quiet_term l)

quiet_integer : (us : List Symbol) (n : ℕ) → IsInteger us n → Quiet us
quiet_integer _ _ q.integer = refl

quiet_limit : (us : List Symbol) (l : Limit) → IsLimit us l → Quiet us
quiet_limit _ _ (q.limit {ns = ns} {os = os} {n = n} i o) = both_quiet ns os (quiet_integer ns n i) (quiet_optional (quiet_behind (word w.Offset) refl quiet_integer) o)

pub quiet_selection : (us : List Symbol) (x : Query) → IsSelection us x → Quiet us
quiet_selection _ _ (q.selection {ds = ds} {rs = rs} {fs = fs} {cs = cs} {gs = gs} {os = os} {ls = ls} d r f c g o l) =
    both_quiet (ds ++ rs ++ fs ++ cs ++ gs ++ os) ls
    (both_quiet (ds ++ rs ++ fs ++ cs ++ gs) os
    (both_quiet (ds ++ rs ++ fs ++ cs) gs
    (both_quiet (ds ++ rs ++ fs) cs
    (both_quiet (ds ++ rs) fs
    (both_quiet ds rs (quiet_said refl d) (quiet_listed quiet_result r))
    (quiet_optional (quiet_behind (word w.From) refl quiet_from) f))
    (quiet_optional (quiet_behind (word w.Where) refl quiet_expression) c))
    (quiet_groups g))
    (quiet_order o))
    (quiet_optional (quiet_behind (word w.Limit) refl quiet_limit) l)

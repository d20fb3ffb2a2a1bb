-- No part of a statement is refused as one that isn't supported.
use Rattle.std.proofs.Common.{◌≡◌, ℕ, zero, suc, max, Bool, true, false, if◌then◌else◌, nat_le, Option, Some, None, List, [], ◌∷◌, ◌++◌, length, Result, Ok, Err, refl}
use Rattle.sql_lexer.specs.declared.keyword.Keyword.{Keyword}
use Rattle.sql_lexer.specs.declared.keyword.Keyword.TheVariants as w
use Rattle.sql_lexer.specs.declared.token.Kind.{Kind}
use Rattle.sql_lexer.specs.declared.token.Kind.TheVariants as k
use Rattle.sql_syntax.specs.Tree as tree
use Rattle.sql_syntax.specs.Tree.{Tree}
use Rattle.sql_syntax.specs.declared.expr.Operator.{Operator}
use Rattle.sql_expr.specs.Grammar.{operator}
use Rattle.sql_expr.specs.declared.refusal.Refusal.{Refusal}
use Rattle.sql_expr.specs.declared.refusal.Refusal.TheVariants.{TooLong, Unsupported}
use Rattle.sql_expr.specs.Symbols.{Symbol, Plain, Name, Text, is_mark}
use Rattle.sql_expr.specs.Reading as r
use Rattle.sql_expr.specs.Reading.{Read, ◌>>=◌, Deeps, after_word, or_fail, word_from, mark_from, name_from, over}
use Rattle.sql_expr.specs.declared.levels.Deep.{Deep}
use Rattle.sql_grammar.specs.Readers.{Reader}

abbrev pub is_unsupported : Refusal → Bool
is_unsupported Unsupported = true
is_unsupported _ = false

-- whether a statement isn't supported
abbrev pub unsupported : {A : Type 0} → Result A Refusal → Bool
unsupported (Ok x) = false
unsupported (Err e) = is_unsupported e

-- a reader that refuses nothing as that
abbrev pub Serves : {A : Type 0} → Reader A → Type 0
Serves p = (ts : List Symbol) → unsupported (p ts) ≡ false

pub bind : {A B : Type 0} (x : Result A Refusal) (f : A → Result B Refusal) → unsupported x ≡ false → ((a : A) → unsupported (f a) ≡ false) → unsupported (x >>= f) ≡ false
bind (Ok a) f h l = l a
bind (Err e) f h l = h

by_bool : {A : Type 0} (b : Bool) (x y : Result A Refusal) → unsupported x ≡ false → unsupported y ≡ false → unsupported (if b then x else y) ≡ false
by_bool true x y h l = h
by_bool false x y h l = l

-- ---- words, marks and names

by_found : (ts : List Symbol) (o : Option (List Symbol)) → unsupported (or_fail ts o) ≡ false
by_found ts (Some rest) = refl
by_found ts None = refl

pub word_serves : (v : Keyword) (ts : List Symbol) → unsupported (word_from v ts) ≡ false
unfolding word_from
word_serves v ts = by_found ts (after_word v ts)

pub mark_serves : (m : Kind) (ts : List Symbol) → unsupported (mark_from m ts) ≡ false
unfolding mark_from
mark_serves m [] = refl
mark_serves m (p ∷ ts) = by_bool (is_mark m p) (Ok ts) (r.fail (p ∷ ts)) refl refl

pub name_serves : Serves name_from
unfolding name_from
name_serves [] = refl
name_serves (Name c ∷ ts) = refl
name_serves (_ ∷ ts) = refl

pub maybe_name_serves : Serves r.maybe_name_from
unfolding r.maybe_name_from
maybe_name_serves [] = refl
maybe_name_serves (Name c ∷ ts) = refl
maybe_name_serves (_ ∷ ts) = refl

next_name_serves : (go : List (List ℕ) → List Symbol → Read (List (List ℕ))) → ((found : List (List ℕ)) → Serves (go found)) → (found : List (List ℕ)) → Serves (r.next_name go found)
next_name_serves go s found [] = refl
next_name_serves go s found (Plain k.Comma ∷ ts) = s found ts
next_name_serves go s found (_ ∷ ts) = refl

names_upto_serve : (n : ℕ) (found : List (List ℕ)) → Serves (r.names_upto n found)
unfolding r.names_upto
names_upto_serve zero found ts = refl
names_upto_serve (suc n) found ts =
    bind (name_from ts) (λ c. r.next_name (r.names_upto n) (found ++ c.0 ∷ []) c.1) (name_serves ts) (λ c. next_name_serves (r.names_upto n) (names_upto_serve n) (found ++ c.0 ∷ []) c.1)

pub names_serve : Serves r.names_from
names_serve ts = names_upto_serve (length ts) [] ts

pub enclosed_serves : {A : Type 0} (p : Reader A) → Serves p → Serves (r.enclosed_by p)
unfolding r.enclosed_by
enclosed_serves p s ts =
    bind (mark_from k.LeftParen ts) _ (mark_serves k.LeftParen ts) (λ inside. bind (p inside) _ (s inside) (λ x. bind (mark_from k.RightParen x.1) _ (mark_serves k.RightParen x.1) (λ after. refl)))

pub maybe_row_serves : Serves r.maybe_name_row_from
unfolding r.maybe_name_row_from
maybe_row_serves [] = refl
maybe_row_serves (Plain k.LeftParen ∷ ts) = bind (r.name_row_from (Plain k.LeftParen ∷ ts)) _ (enclosed_serves r.names_from names_serve (Plain k.LeftParen ∷ ts)) (λ x. refl)
maybe_row_serves (_ ∷ ts) = refl

-- ---- expressions

over_serves : (room : ℕ) (e : Tree) (d : ℕ) → Serves (over room e d)
unfolding over
over_serves room e d ts = by_bool (nat_le (suc d) room) (Ok (record { tree = e; depth = suc d }, ts)) (Err TooLong) refl refl

literal_serves : (o : Option Tree) (ts all : List Symbol) → unsupported (r.by_literal o ts all) ≡ false
literal_serves (Some e) ts all = refl
literal_serves None ts all = refl

action_serves : Serves r.action_from
unfolding r.action_from
action_serves [] = refl
action_serves (Plain (k.Word w.Abort) ∷ ts) = refl
action_serves (Plain (k.Word w.Rollback) ∷ ts) = refl
action_serves (_ ∷ ts) = refl

text_serves : Serves r.text_from
unfolding r.text_from
text_serves [] = refl
text_serves (Text z ∷ ts) = refl
text_serves (_ ∷ ts) = refl

raise_serves : Serves r.raise_from
unfolding r.raise_from
raise_serves ts =
    bind (mark_from k.LeftParen ts) _ (mark_serves k.LeftParen ts) (λ inside. bind (r.action_from inside) _ (action_serves inside) (λ action.
    bind (mark_from k.Comma action.1) _ (mark_serves k.Comma action.1) (λ preceded. bind (r.text_from preceded) _ (text_serves preceded) (λ message.
    bind (mark_from k.RightParen message.1) _ (mark_serves k.RightParen message.1) (λ after. refl)))))

next_item_serves : (go : Deeps → List Symbol → Read Deeps) → ((found : Deeps) → Serves (go found)) → (found : Deeps) → Serves (r.next_item go found)
next_item_serves go s found [] = refl
next_item_serves go s found (Plain k.Comma ∷ ts) = s found ts
next_item_serves go s found (_ ∷ ts) = refl

module _ (inner : ℕ → List Symbol → Read Deep) (room : ℕ) (within : (level : ℕ) → Serves (inner level)) where
  items_upto_serve : (n : ℕ) (found : Deeps) → Serves (r.items_upto inner room n found)
  unfolding r.items_upto
  items_upto_serve zero found ts = refl
  items_upto_serve (suc n) found ts =
      bind (inner 10 ts) (λ e. r.next_item (r.items_upto inner room n) (r.with_item found e.0) e.1) (within 10 ts)
      (λ e. next_item_serves (r.items_upto inner room n) (items_upto_serve n) (r.with_item found e.0) e.1)

  items_serve : Serves (r.items inner room)
  unfolding r.items
  items_serve ts = bind (r.items_from inner room ts) _ (items_upto_serve (length ts) r.no_items ts) (λ x. bind (mark_from k.RightParen x.1) _ (mark_serves k.RightParen x.1) (λ after. refl))

  call_serves : (f : List ℕ) → Serves (r.call inner room f)
  unfolding r.call
  call_serves f (Plain k.RightParen ∷ ts) = over_serves room (tree.Call f tree.End) 0 ts
  call_serves f (Plain k.Star ∷ ts) = bind (mark_from k.RightParen ts) _ (mark_serves k.RightParen ts) (λ after. refl)
  call_serves f ts = bind (r.items inner room ts) _ (items_serve ts) (λ x. over_serves room (tree.Call f (tree.trees x.0.trees)) x.0.depth x.1)

  named_serves : (c : List ℕ) → Serves (r.named inner room c)
  unfolding r.named
  named_serves c (Plain k.Dot ∷ ts) = bind (name_from ts) _ (name_serves ts) (λ x. refl)
  named_serves c (Plain k.LeftParen ∷ ts) = call_serves c ts
  named_serves c ts = refl

  paren_serves : Serves (r.paren inner room)
  unfolding r.paren
  paren_serves ts =
      bind (inner 10 ts) _ (within 10 ts) (λ e. bind (mark_from k.RightParen e.1) _ (mark_serves k.RightParen e.1) (λ after. over_serves room (tree.Paren e.0.tree) e.0.depth after))

  atom_serves : Serves (r.atom inner room)
  unfolding r.atom
  atom_serves (Plain k.LeftParen ∷ ts) = paren_serves ts
  atom_serves (Plain (k.Word w.Raise) ∷ ts) = raise_serves ts
  atom_serves (Name c ∷ ts) = named_serves c ts
  atom_serves (p ∷ ts) = literal_serves (r.literal p) ts (p ∷ ts)
  atom_serves [] = refl

  prefix_serves : (level : ℕ) → Serves (r.prefix inner room level)
  unfolding r.prefix
  prefix_serves level [] = refl
  prefix_serves level (p ∷ ts) = bind (inner level ts) _ (within level ts) (λ e. over_serves room (r.wrap p e.0.tree) e.0.depth e.1)

  operand_serves : (level : ℕ) (o : Operator) (left : Deep) → Serves (r.operand inner room level o left)
  unfolding r.operand
  operand_serves level o left ts = bind (inner level ts) _ (within level ts) (λ b. over_serves room (tree.Binary o left.tree b.0.tree) (max left.depth b.0.depth) b.1)

  between_serves : (level : ℕ) (n : Bool) (left : Deep) → Serves (r.between inner room level n left)
  unfolding r.between
  between_serves level n left ts =
      bind (inner level ts) _ (within level ts) (λ b. bind (word_from w.And b.1) _ (word_serves w.And b.1) (λ after. bind (inner level after) _ (within level after)
      (λ c. over_serves room (tree.Between n left.tree b.0.tree c.0.tree) (max left.depth (max b.0.depth c.0.depth)) c.1)))

  among_serves : (n : Bool) (left : Deep) → Serves (r.among inner room n left)
  unfolding r.among
  among_serves n left ts =
      bind (mark_from k.LeftParen ts) _ (mark_serves k.LeftParen ts) (λ inside. bind (r.items inner room inside) _ (items_serve inside)
      (λ x. over_serves room (tree.In n left.tree (tree.trees x.0.trees)) (max left.depth x.0.depth) x.1))

  collate_serves : (left : Deep) → Serves (r.collate inner room left)
  unfolding r.collate
  collate_serves left ts = bind (name_from ts) _ (name_serves ts) (λ c. over_serves room (tree.Collate left.tree c.0) left.depth c.1)

  operator_serves : (level : ℕ) (o : Option Operator) (left : Deep) (ts all : List Symbol) → unsupported (r.by_operator inner room level o left ts all) ≡ false
  operator_serves level (Some o) left ts all = operand_serves level o left ts
  operator_serves level None left ts all = refl

  tail_serves : (level : ℕ) (left : Deep) → Serves (r.tail inner room level left)
  unfolding r.tail
  tail_serves level left (Plain (k.Word w.Collate) ∷ ts) = collate_serves left ts
  tail_serves level left (Plain (k.Word w.Is) ∷ Plain (k.Word w.Not) ∷ ts) = operand_serves level _ left ts
  tail_serves level left (Plain (k.Word w.Is) ∷ ts) = operand_serves level _ left ts
  tail_serves level left (Plain (k.Word w.Between) ∷ ts) = between_serves level false left ts
  tail_serves level left (Plain (k.Word w.In) ∷ ts) = among_serves false left ts
  tail_serves level left (Plain (k.Word w.Not) ∷ Plain (k.Word w.Between) ∷ ts) = between_serves level true left ts
  tail_serves level left (Plain (k.Word w.Not) ∷ Plain (k.Word w.In) ∷ ts) = among_serves true left ts
  tail_serves level left (Plain (k.Word w.Not) ∷ ts) = refl
  tail_serves level left (Plain s ∷ ts) = operator_serves level (operator s) left ts (Plain s ∷ ts)
  tail_serves level left ts = refl

  tails_serve : (n level : ℕ) (left : Deep) → Serves (r.tails inner room n level left)
  unfolding r.tails
  tails_serve zero level left ts = by_bool (r.goes_on (suc level) ts) (Err TooLong) (Ok (left, ts)) refl refl
  tails_serve (suc n) level left ts =
      by_bool (r.goes_on (suc level) ts) (r.tail inner room level left ts >>= λ x. r.tails inner room n level x.0 x.1) (Ok (left, ts))
      (bind (r.tail inner room level left ts) _ (tail_serves level left ts) (λ x. tails_serve n level x.0 x.1)) refl

  ladder_serves : (level : ℕ) → Serves (r.ladder inner room level)
  unfolding r.ladder
  ladder_serves zero ts = atom_serves ts
  ladder_serves (suc level) ts =
      by_bool (r.is_prefixed (suc level) ts) (r.prefix inner room (suc level) ts) (r.ladder inner room level ts >>= λ x. r.tails inner room room level x.0 x.1) (prefix_serves (suc level) ts)
      (bind (r.ladder inner room level ts) _ (ladder_serves level ts) (λ x. tails_serve room level x.0 x.1))

level_serves : (room level : ℕ) → Serves (r.level_at room level)
unfolding r.level_at
level_serves zero level ts = refl
level_serves (suc room) level ts = ladder_serves (r.level_at room) (suc room) (level_serves room) level ts

pub expression_serves : Serves r.expression_from
unfolding r.expression_from
expression_serves ts = bind (r.level_at 100 10 ts) _ (level_serves 100 10 ts) (λ x. refl)

pub expressions_serve : Serves r.expressions_from
unfolding r.expressions_from
expressions_serve ts = bind (r.items_from (r.level_at 100) 101 ts) _ (items_upto_serve (r.level_at 100) 101 (level_serves 100) (length ts) r.no_items ts) (λ x. refl)

pub maybe_behind_serves : (v : Keyword) → Serves (r.maybe_after_from v)
unfolding r.maybe_after_from
maybe_behind_serves v ts = by_place (after_word v ts)
  where
    by_place : (o : Option (List Symbol)) → unsupported (r.maybe_by ts o) ≡ false
    by_place None = refl
    by_place (Some rest) = bind (r.expression_from rest) _ (expression_serves rest) (λ x. refl)

-- Expressions are read exactly.
use Rattle.std.proofs.Common.{◌≡◌, ℕ, suc, ◌≤◌, max, true, false, leb, List, [], ◌∷◌, ◌++◌, length, Result, Ok, Err, refl, sym, ap, subst, ◌∙◌, length-append, arith}
use Rattle.std.proofs.lemmas.Bool.{leb-true, leb-false, le-leb}
use Rattle.sql_syntax.specs.Tree as tree
use Rattle.sql_syntax.specs.Tree.{Tree, Trees, trees}
use Rattle.sql_expr.specs.declared.refusal.Refusal.{Refusal}
use Rattle.sql_expr.specs.declared.refusal.Refusal.TheVariants.{TooLong}
use Rattle.sql_expr.specs.Depth.{deep, deepest, list_of}
use Rattle.sql_expr.specs.Exact.{Used, Exact, Single}
use Rattle.sql_expr.specs.Follows.{EndsExpression, EndsList}
use Rattle.sql_expr.specs.Grammar.{Items, IsExpression, AreExpressions}
use Rattle.sql_expr.specs.Limits.{is_shallow, are_shallow}
use Rattle.sql_expr.specs.Symbols.{Symbol}
use Rattle.sql_expr.specs.Reading as spec
use Rattle.sql_expr.specs.Reading.{Read, ◌>>=◌, Deep, Deeps, items_upto, level_at, expression_from, expressions_from}
use Rattle.sql_expr.proofs.Again.{list-trees, read_again, expression_again, listed}
use Rattle.sql_expr.proofs.Late.{expression_late, listed_late}
use Rattle.sql_expr.proofs.Takes.{bind_ok, ok_is, done, sound, items_upto_takes}

expression_takes : (ts : List Symbol) (x : Tree × List Symbol) → expression_from ts ≡ Ok x → Used IsExpression is_shallow ts x
unfolding expression_from
expression_takes ts x h =
    let b = bind_ok (level_at 100 10 ts) (λ y. done (y.0.tree, y.1)) x h in
    let k = sound 100 10 ts b.0 b.1 in
    subst (Used IsExpression is_shallow ts) (ok_is _ _ b.2) (record { used = k.used; parts = k.parts; at = k.at; within = le-leb (deep b.0.0.tree) 100 k.fits })

pub exact_expression : Exact expression_from IsExpression is_shallow EndsExpression
exact_expression = record {
  takes = expression_takes;
  again = λ us e rest at w f. expression_again us e rest at (leb-true (deep e) 100 w) f;
  late = λ us e rest at w f. expression_late us e rest at (leb-false (deep e) 100 w) f;
}

abbrev read_tree : Result (Deep × List Symbol) Refusal → Tree
read_tree (Ok x) = x.0.tree
read_tree (Err f) = tree.Null

abbrev rest_of : {A : Type 0} → Result (A × List Symbol) Refusal → List Symbol
rest_of (Ok x) = x.1
rest_of (Err f) = []

pub single_expression : Single IsExpression EndsExpression
single_expression us vs a b rest after d x f g same =
    let room = max (deep a) (deep b) in
    let h = read_again d room rest (omega arith) f in
    let k = read_again x room after (omega arith) g in
    let e = sym h ∙ ap (level_at room 10) same ∙ k in
    (ap read_tree e, ap rest_of e)

-- ---- lists

pub trees-list : (es : List Tree) → list_of (trees es) ≡ es
trees-list [] = refl
trees-list (e ∷ es) = ap (λ (x : List Tree). e ∷ x) (trees-list es)

expressions_take : (ts : List Symbol) (x : List Tree × List Symbol) → expressions_from ts ≡ Ok x → Used AreExpressions are_shallow ts x
unfolding expressions_from
expressions_take ts x h =
    let b = bind_ok (items_upto (level_at 100) 101 (length ts) spec.no_items ts) (λ y. done (y.0.trees, y.1)) x h in
    let l = items_upto_takes (level_at 100) 100 (sound 100) (length ts) spec.no_items ts b.0 b.1 in
    let all : trees b.0.0.trees ≡ l.es = ap trees l.trees ∙ list-trees l.es in
    subst (Used AreExpressions are_shallow ts) (ok_is _ _ b.2) (record {
      used = l.used;
      parts = l.parts;
      at = subst (Items l.used) (sym all) l.items;
      within = ap (λ (es : Trees). leb (deepest es) 100) all ∙ le-leb (deepest l.es) 100 l.fits;
    })

read_items : (room : ℕ) (us : List Symbol) (es : List Tree) (rest : List Symbol) → Items us (trees es) → deepest (trees es) ≤ room → EndsList rest
    → items_upto (level_at room) (suc room) (length (us ++ rest)) spec.no_items (us ++ rest) ≡ Ok (record { trees = es; depth = deepest (trees es) }, rest)
read_items room us es rest i le f =
    let d : max 0 (deepest (trees es)) ≡ deepest (trees es) = omega arith in
    listed i room rest (length (us ++ rest)) spec.no_items le (omega (arith, length-append us rest)) f
    ∙ ap (λ (k : ℕ). Ok (record { trees = list_of (trees es); depth = k }, rest)) d
    ∙ ap (λ (x : List Tree). Ok (record { trees = x; depth = deepest (trees es) }, rest)) (trees-list es)

expressions_again : (us : List Symbol) (es : List Tree) (rest : List Symbol) → AreExpressions us es → are_shallow es ≡ true → EndsList rest → expressions_from (us ++ rest) ≡ Ok (es, rest)
unfolding expressions_from
expressions_again us es rest i w f = let h = read_items 100 us es rest i (leb-true (deepest (trees es)) 100 w) f in rw h refl

expressions_late : (us : List Symbol) (es : List Tree) (rest : List Symbol) → AreExpressions us es → are_shallow es ≡ false → EndsList rest → expressions_from (us ++ rest) ≡ Err TooLong
unfolding expressions_from
expressions_late us es rest i w f =
    let h = listed_late i 100 rest (length (us ++ rest)) spec.no_items (leb-false (deepest (trees es)) 100 w) (omega (arith, length-append us rest)) f.0 in rw h refl

pub exact_expressions : Exact expressions_from AreExpressions are_shallow EndsList
exact_expressions = record { takes = expressions_take; again = expressions_again; late = expressions_late }

abbrev read_list : Result (Deeps × List Symbol) Refusal → List Tree
read_list (Ok x) = x.0.trees
read_list (Err f) = []

pub single_expressions : Single AreExpressions EndsList
single_expressions us vs a b rest after d x f g same =
    let room = max (deepest (trees a)) (deepest (trees b)) in
    let h = read_items room us a rest d (omega arith) f in
    let k = read_items room vs b after x (omega arith) g in
    let e = sym h ∙ ap (λ (ys : List Symbol). items_upto (level_at room) (suc room) (length ys) spec.no_items ys) same ∙ k in
    (ap read_list e, ap rest_of e)

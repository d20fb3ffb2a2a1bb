-- The test of words tells them apart.
use Rattle.std.proofs.Common.{◌≡◌, Bool, true, false, refl, ℕ, zero, suc, List, [], ◌∷◌, Option, Some, None, Result, Ok, cond, sym, ap, ◌∙◌}
use Rattle.std.proofs.lemmas.Bool.{eqb-true, eq-eqb}
use denote.Enum.Declared.{declared, tag_of}
use Rattle.sql_lexer.specs.contracts.keyword.Keyword as keyword
use Rattle.sql_lexer.specs.declared.keyword.Keyword.{Keyword}
use Rattle.sql_lexer.specs.declared.keyword.Keyword.TheVariants as w
use Rattle.sql_lexer.specs.declared.token.Kind.TheVariants as t
use Rattle.sql_expr.specs.declared.refusal.Refusal.{Refusal}
use Rattle.sql_expr.specs.Symbols.{Symbol, Plain, word, same_word}
use Rattle.sql_expr.specs.Reading.{after_word, word_from, or_fail}

-- the place of a word among all
abbrev place : Keyword → ℕ
place v = tag_of (declared keyword.enum) v

abbrev pick : ℕ → List Keyword → Keyword
pick n [] = w.Abort
pick zero (x ∷ xs) = x
pick (suc n) (x ∷ xs) = pick n xs

abbrev word_at : ℕ → Keyword
word_at n = pick n (w.Abort ∷ w.After ∷ w.Alter ∷ w.Analyze ∷ w.And ∷ w.As ∷ w.Asc ∷ w.Attach ∷ w.Before ∷ w.Begin ∷ w.Between ∷ w.By ∷ w.Check ∷ w.Collate ∷ w.Commit ∷ w.Create ∷ w.Default ∷ w.Deferred ∷ w.Delete ∷ w.Desc ∷ w.Detach ∷ w.Distinct ∷ w.Drop ∷ w.Each ∷ w.End ∷ w.Explain ∷ w.For ∷ w.From ∷ w.Group ∷ w.Immediate ∷ w.In ∷ w.Index ∷ w.Inner ∷ w.Insert ∷ w.Instead ∷ w.Into ∷ w.Is ∷ w.Join ∷ w.Key ∷ w.Left ∷ w.Limit ∷ w.Not ∷ w.Null ∷ w.Of ∷ w.Offset ∷ w.On ∷ w.Or ∷ w.Order ∷ w.Outer ∷ w.Pragma ∷ w.Primary ∷ w.Raise ∷ w.Reindex ∷ w.Release ∷ w.Replace ∷ w.Rollback ∷ w.Row ∷ w.Savepoint ∷ w.Select ∷ w.Set ∷ w.Table ∷ w.To ∷ w.Transaction ∷ w.Trigger ∷ w.Unique ∷ w.Update ∷ w.Vacuum ∷ w.Values ∷ w.View ∷ w.When ∷ w.Where ∷ w.With ∷ [])

back : (v : Keyword) → word_at (place v) ≡ v
back w.Abort = refl
back w.After = refl
back w.Alter = refl
back w.Analyze = refl
back w.And = refl
back w.As = refl
back w.Asc = refl
back w.Attach = refl
back w.Before = refl
back w.Begin = refl
back w.Between = refl
back w.By = refl
back w.Check = refl
back w.Collate = refl
back w.Commit = refl
back w.Create = refl
back w.Default = refl
back w.Deferred = refl
back w.Delete = refl
back w.Desc = refl
back w.Detach = refl
back w.Distinct = refl
back w.Drop = refl
back w.Each = refl
back w.End = refl
back w.Explain = refl
back w.For = refl
back w.From = refl
back w.Group = refl
back w.Immediate = refl
back w.In = refl
back w.Index = refl
back w.Inner = refl
back w.Insert = refl
back w.Instead = refl
back w.Into = refl
back w.Is = refl
back w.Join = refl
back w.Key = refl
back w.Left = refl
back w.Limit = refl
back w.Not = refl
back w.Null = refl
back w.Of = refl
back w.Offset = refl
back w.On = refl
back w.Or = refl
back w.Order = refl
back w.Outer = refl
back w.Pragma = refl
back w.Primary = refl
back w.Raise = refl
back w.Reindex = refl
back w.Release = refl
back w.Replace = refl
back w.Rollback = refl
back w.Row = refl
back w.Savepoint = refl
back w.Select = refl
back w.Set = refl
back w.Table = refl
back w.To = refl
back w.Transaction = refl
back w.Trigger = refl
back w.Unique = refl
back w.Update = refl
back w.Vacuum = refl
back w.Values = refl
back w.View = refl
back w.When = refl
back w.Where = refl
back w.With = refl

abbrev done : {A : Type 0} → A → Result A Refusal
done x = Ok x

pub word_is : (v u : Keyword) → same_word v u ≡ true → v ≡ u
word_is v u h = sym (back v) ∙ ap word_at (eqb-true (place v) (place u) h) ∙ back u

pub word_self : (v : Keyword) → same_word v v ≡ true
word_self v = eq-eqb (place v) (place v) refl

-- a word that is read is that word
pub after_word_is : (v : Keyword) (ts rest : List Symbol) → after_word v ts ≡ Some rest → ts ≡ word v ∷ rest
unfolding after_word
after_word_is v [] rest h = absurd cc
after_word_is v (Plain (t.Word u) ∷ ts) rest h = by_test (same_word u v) refl h
  where
    some_is : (us vs : List Symbol) → Some us ≡ Some vs → us ≡ vs
    some_is us vs h = cc

    by_test : (b : Bool) → same_word u v ≡ b → cond b (Some ts) None ≡ Some rest → Plain (t.Word u) ∷ ts ≡ word v ∷ rest
    by_test true e h = let k = word_is u v e in let l = some_is ts rest h in λ i. Plain (t.Word (k i)) ∷ l i
    by_test false e h = absurd cc
after_word_is v (_ ∷ ts) rest h = absurd cc

pub after_word_self : (v : Keyword) (ts : List Symbol) → after_word v (word v ∷ ts) ≡ Some ts
unfolding after_word
after_word_self v ts = rw (word_self v) refl

pub word_from_is : (v : Keyword) (ts rest : List Symbol) → word_from v ts ≡ Ok rest → ts ≡ word v ∷ rest
unfolding word_from
word_from_is v ts rest h = by_found (after_word v ts) refl h
  where
    ok_as : (us vs : List Symbol) → done us ≡ done vs → us ≡ vs
    ok_as us vs h = cc

    by_found : (f : Option (List Symbol)) → after_word v ts ≡ f → or_fail ts f ≡ Ok rest → ts ≡ word v ∷ rest
    by_found None e h = absurd cc
    by_found (Some us) e h = after_word_is v ts us e ∙ ap (λ (ys : List Symbol). word v ∷ ys) (ok_as us rest h)

pub word_from_self : (v : Keyword) (ts : List Symbol) → word_from v (word v ∷ ts) ≡ Ok ts
unfolding word_from
word_from_self v ts = rw (after_word_self v ts) refl

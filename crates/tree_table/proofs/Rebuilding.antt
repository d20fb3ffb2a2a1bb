-- What stands before the header of a page that is built anew.
use Rattle.std.proofs.Common.{◌≡◌, ◌≤◌, ap, ◌∙◌, ℕ, List, ◌++◌, length, take, arith, Result, IfOk, Vec}
use Rattle.std.specs.declared.alloc.Global.{Global}
use Rattle.std.proofs.lemmas.Result.{IfOk-weaker}
use Rattle.std.proofs.lemmas.List.{take-append-le, take_all, length-take}
use Rattle.sqlval.specs.declared.fault.Fault.{Fault}
use Rattle.tree_leaf.specs.Leaf.{Entry}
use Rattle.tree_leaf.specs.Writing.{leaf_of}

take_front : (xs ys : List ℕ) (n : ℕ) → n ≤ length xs → take n (take n xs ++ ys) ≡ take n xs
take_front xs ys n le = take-append-le n (take n xs) ys (omega (arith, le, length-take n xs)) ∙ take_all n (take n xs) (omega (arith, le, length-take n xs))

leaf_front : (page : List ℕ) (size start : ℕ) (rows : List Entry) → start ≤ length page → take start (leaf_of (take start page) size rows) ≡ take start page
unfolding leaf_of
leaf_front page size start rows le = take_front page _ start le

pub front_stays : (result : Result (Vec ℕ Global) Fault) (page : List ℕ) (size start : ℕ) (rows : List Entry) → start ≤ length page
    → IfOk result (λ new. new.items ≡ leaf_of (take start page) size rows) → IfOk result (λ new. take start new.items ≡ take start page)
front_stays result page size start rows le exact = IfOk-weaker result _ _ (λ new e. ap (take start) e ∙ leaf_front page size start rows le) exact

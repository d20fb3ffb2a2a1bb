use Rattle.std.proofs.Common.{rules, sym, subst, Option, IfNone, IfSome, ℤ, SFits, w64, to_z, of_z}
use Rattle.std.proofs.lemmas.Int.{to_z-of_z}
use Rattle.query_plan.specs.Asking.{IsNotAsked}
use Rattle.query_plan.specs.Ranges.{SeeksRowids}
use Rattle.query_plan.specs.Searching.{IsSought}
use Rattle.query_plan.specs.declared.searching.Search.{Search}
use Rattle.query_plan.proofs.Most.{found_by, none_by}
use Rattle.query_plan.proofs.RowidEnds.{rowids_asked}
use Rattle.query_plan.proofs.searching.many_sought.Goals as goal

pub returns-in-Some-clause-found : goal.returns-in-Some-clause-found
returns-in-Some-clause-found c =
    let low : SFits w64 c.in-Some.found.0 = search rules in
    let high : SFits w64 c.in-Some.found.1 = search rules in
    let seeks : SeeksRowids c.args.source c.args.condition.now c.in-Some.found.0 c.in-Some.found.1 =
    rowids_asked c.args.source c.args.condition.now c.in-Some.found.0 c.in-Some.found.1 c.requires.calm (search rules) in
    subst (λ (n : ℤ). SeeksRowids c.args.source c.args.condition.now (to_z w64 (of_z w64 c.in-Some.found.0)) n) (sym (to_z-of_z w64 c.in-Some.found.1 high))
    (subst (λ (n : ℤ). SeeksRowids c.args.source c.args.condition.now n c.in-Some.found.1) (sym (to_z-of_z w64 c.in-Some.found.0 low)) seeks)

pub returns-then-len-gt0-clause-found : goal.returns-then-len-gt0-clause-found
returns-then-len-gt0-clause-found c =
    subst (λ (o : Option Search). IfSome o (IsSought c.args.indexes.now c.args.source c.args.condition.now)) (sym c.search_by.ensures)
    (found_by c.args.source c.args.condition.now c.args.indexes.now c.in_ok-most.most c.requires.calm c.in_ok-most.ensures.found)

pub returns-in-None-clause-found : goal.returns-in-None-clause-found
returns-in-None-clause-found c =
    subst (λ (o : Option Search). IfSome o (IsSought c.args.indexes.now c.args.source c.args.condition.now)) (sym c.search_by-in-None.ensures)
    (found_by c.args.source c.args.condition.now c.args.indexes.now c.in_ok-most.most c.requires.calm c.in_ok-most.ensures.found)

pub returns-in-None-clause-only : goal.returns-in-None-clause-only
returns-in-None-clause-only c =
    subst (λ (o : Option Search). IfNone o (IsNotAsked c.args.source c.args.condition.now c.args.indexes.now)) (sym c.search_by-in-None.ensures)
    (none_by c.args.source c.args.condition.now c.args.indexes.now c.in_ok-most.most c.requires.calm c.in_ok-most.ensures.found)

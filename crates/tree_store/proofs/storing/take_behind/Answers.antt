use Rattle.std.proofs.Common.{◌∙◌, ◌<◌, List, ℕ, length, rules, Ok, Err, refl, Vec, Global}
use Rattle.tree_store.proofs.TakenPages.{taken_all, takes_next, untaken, takes_since}
use Rattle.tree_store.proofs.storing.take_behind.Goals as goal

-- the numbers so far
abbrev items : Vec ℕ Global → List ℕ
items numbers = numbers.items

pub returns-in_err-take-clause-taken : goal.returns-in_err-take-clause-taken
returns-in_err-take-clause-taken g c = λ told.
    (let pages = g.P.Pages in
    let old = c.args.pages.now in
    let mid = c.numbers.pages in
    let new = pages.map c.take.new.pages in
    let size = (pages.limits (pages.below old)).page in
    let fault = c.in_err-take.field-0.0 in
    let some : length c.numbers.numbers.items < c.args.count = search rules in
    let takes = takes_since pages.below pages.tells pages.limits old mid (pages.map mid) new (Err fault) c.numbers.invariant.kept c.in_err-take.ensures.taken told in
    c.numbers.invariant.taken told new c.from_residual-in_err-take.result
    (untaken items (pages.map mid) new new size c.numbers.numbers.items c.args.count fault c.from_residual-in_err-take.result some takes c.from_residual-in_err-take.ensures.1))

pub numbers-preserved : goal.numbers-preserved
numbers-preserved g c =
    let pages = g.P.Pages in
    let old = c.args.pages.now in
    let mid = c.numbers.pages in
    let next = pages.map c.take.new.pages in
    let size = (pages.limits (pages.below old)).page in
    let kept = c.numbers.invariant.kept in
    let some : length c.numbers.numbers.items < c.args.count = search rules in
    record {
      kept = c.take.ensures.kept ∙ kept;
      causes = search rules;
      taken = λ told new result rest. (
          let takes = takes_since pages.below pages.tells pages.limits old mid (pages.map mid) next (Ok c.in_ok-take.field-0) kept c.in_ok-take.ensures.taken told in
          c.numbers.invariant.taken told new result
          (takes_next items (pages.map mid) next new size c.numbers.numbers.items c.push.new.self.items c.args.count c.in_ok-take.field-0 result some c.in_ok-push.ensures.items takes rest));
    }

pub returns-clause-taken : goal.returns-clause-taken
returns-clause-taken g c = λ told.
    (let pages = g.P.Pages in
    let old = c.args.pages.now in
    let mid = pages.map c.numbers.pages in
    let size = (pages.limits (pages.below old)).page in
    let done : length c.numbers.numbers.items < c.args.count → ⊥ = search rules in
    c.numbers.invariant.taken told mid (Ok c.numbers.numbers) (taken_all items mid size c.numbers.numbers.items c.args.count c.numbers.numbers refl done))

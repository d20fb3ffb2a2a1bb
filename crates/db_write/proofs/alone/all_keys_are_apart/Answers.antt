use Rattle.std.proofs.Common.{rules, arith, ℕ, Ok, Err}
use Rattle.std.specs.Prelude.{⊤}
use Rattle.pages.specs.Calls.{Stays}
use Rattle.pages.specs.Map.{PageMap}
use Rattle.db_write.specs.Kept.{SeesApart}
use Rattle.db_write.proofs.LookedAt.{unrefused}
use Rattle.db_write.proofs.Looping.{after_reading}
use Rattle.db_write.proofs.SeenApart.{apart_end, apart_on, apart_stop}
use Rattle.db_write.proofs.alone.all_keys_are_apart.Goals as goal

pub returns-in_err-keys_are_apart_at-clause-seen : goal.returns-in_err-keys_are_apart_at-clause-seen
returns-in_err-keys_are_apart_at-clause-seen g c = λ told.
    (let pages = g.P.Pages in
    let old = c.args.pages.now in
    let index = c.index-item.result in
    let fault = c.in_err-keys_are_apart_at.field-0.0 in
    let before = c.indexes.invariant.0 in
    let sees = after_reading pages.below pages.tells pages.limits pages.map old c.indexes.pages
    (λ (m : PageMap) (n : ℕ). SeesApart m n index (Err fault)) before.kept before.same c.in_err-keys_are_apart_at.ensures.seen told in
    apart_stop (pages.map old) (pages.limits (pages.below old)).page c.args.indexes.now c.indexes.index-index index c.indexes-test.true c.index-item.is fault c.from_residual.result c.from_residual.ensures.1 sees)

pub indexes-preserved : goal.indexes-preserved
indexes-preserved g c =
    let pages = g.P.Pages in
    let old = c.args.pages.now in
    let index = c.index-item.result in
    let before = c.indexes.invariant.0 in
    let stays : Stays pages.below pages.map pages.count pages.failures {T = ⊤} unrefused old c.keys_are_apart_at.new.pages = search rules in (
      stays,
      λ told.
          (let sees = after_reading pages.below pages.tells pages.limits pages.map old c.indexes.pages
          (λ (m : PageMap) (n : ℕ). SeesApart m n index (Ok c.in_ok-keys_are_apart_at.field-0)) before.kept before.same c.in_ok-keys_are_apart_at.ensures.seen told in
          apart_on (pages.map old) (pages.limits (pages.below old)).page c.args.indexes.now c.indexes.index-index index c.indexes-test.true c.index-item.is c.in_ok-keys_are_apart_at.field-0 c.if-not-branch.false sees
          (c.indexes.invariant.1 told)),
    )

pub returns-clause-seen : goal.returns-clause-seen
returns-clause-seen g c = λ told.
    (let pages = g.P.Pages in
    let old = c.args.pages.now in
    apart_end (pages.map old) (pages.limits (pages.below old)).page c.args.indexes.now c.indexes.index-index (omega (arith, c.indexes-test.false)) (c.indexes.invariant.1 told))

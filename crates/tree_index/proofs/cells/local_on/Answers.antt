use Rattle.std.proofs.Common.{◌≡◌, ◌<◌, ℕ, [], length, slice_index_or, sym, ◌∙◌, ap, subst}
use Rattle.tree_page.specs.Node.{Local, Node, IsNode}
use Rattle.tree_page.specs.Reading.{Answers, local_of}
use Rattle.tree_index.specs.Comparing.{locals_of}
use Rattle.tree_index.proofs.Readings.{at_inner, local_there}
use Rattle.tree_index.proofs.cells.local_on.Goals as goal

nothing : ℕ × Local
nothing = (0, record { size = 0; bytes = [] })

pub returns-in_err-between-in-IndexInterior-clause-only : goal.returns-in_err-between-in-IndexInterior-clause-only
returns-in_err-between-in-IndexInterior-clause-only c = λ node d on ours.
    at_inner node c.kind.result (λ (n : Node). c.args.place < length (locals_of n) → Answers local_of c.from_residual.result (slice_index_or (locals_of n) c.args.place d)) ours (c.kind.ensures node on) c.in-IndexInterior.is
    (λ kids last e lt. absurd (c.in_err-between-in-IndexInterior.ensures.only kids last nothing (subst (λ (n : Node). IsNode c.args.page.now.bytes c.args.page.now.start n) e on) (local_there kids c.args.place nothing d lt).0))

pub returns-in_ok-between-in-IndexInterior-clause-only : goal.returns-in_ok-between-in-IndexInterior-clause-only
returns-in_ok-between-in-IndexInterior-clause-only c = λ node d on ours.
    at_inner node c.kind.result (λ (n : Node). c.args.place < length (locals_of n) → local_of c.in_ok-between-in-IndexInterior.field-0.entry ≡ slice_index_or (locals_of n) c.args.place d) ours (c.kind.ensures node on) c.in-IndexInterior.is
    (λ kids last e lt.
    (let there = local_there kids c.args.place nothing d lt in
    ap (λ (kid : ℕ × Local). kid.1) (c.in_ok-between-in-IndexInterior.ensures.only kids last nothing (subst (λ (n : Node). IsNode c.args.page.now.bytes c.args.page.now.start n) e on) there.0) ∙ sym there.1))

use Rattle.std.proofs.Common.{◌≡◌, ◌+◌, ◌-◌, ◌/◌, length, if◌then◌else◌, arith, rules}
use Rattle.std.proofs.lemmas.Result.{IfOk-weaker}
use Rattle.tree_pack.specs.Parts.{AreParts, IsCut}
use Rattle.tree_pack.proofs.Totals.{rooms, length-rooms, cut_is}
use Rattle.tree_pack.proofs.cutting.cut.Goals as goal
use Rattle.tree_pack.proofs.cutting.cut.Goals.{then-rises, else-rises}

pub returns : goal.returns
returns c =
    let cells = c.args.cells.now in
    let sum = c.room_of-sum.result in
    let goal_is : c.if-rises.goal ≡ (if c.args.rises then c.args.room + 1 else sum - sum / 2) = elim (c.if-rises.branch) [ then-rises w ↦ search rules | else-rises w ↦ search rules ] in
    let several : length (rooms cells) ≡ c.args.up + 1 → ⊥ = λ e. omega (arith, e, c.if-cells-up.false, length-rooms cells) in
    IfOk-weaker c.cut_on.result (λ counts. AreParts c.args.up c.args.room c.if-rises.goal counts.items (rooms cells)) (λ counts. IsCut c.args.up c.args.room c.args.rises (rooms cells) counts.items)
    (λ counts parts. cut_is c.args.up c.args.room c.if-rises.goal sum c.args.rises counts.items (rooms cells) c.room_of-sum.ensures c.if-sum-room.false several goal_is parts) c.cut_on.ensures

use Rattle.std.proofs.Common.{Equal, refl, subst}
use Rattle.std.specs.declared.cmp.Ordering.{Ordering}
use Rattle.tree_index.specs.Taking.{ComparesWhole}
use Rattle.tree_index.proofs.Whole.{equal_whole}
use Rattle.tree_index.proofs.taking.place_near.Goals as goal

pub returns-in-Equal : goal.returns-in-Equal
returns-in-Equal c = record {
  found = λ pages size read most.
      (let columns = c.args.key.columns.now in
      let key = c.args.key.values.now in
      let it = subst (λ (o : Ordering). ComparesWhole pages size c.args.number c.args.near columns key o) c.in-Equal.is (c.in_ok-whole_order.ensures.found pages size read most) in
      equal_whole pages size c.args.number c.args.near columns key Equal refl it);
}

use Rattle.std.proofs.Common.{◌∙◌, ap, max}
use Rattle.tree_pack.specs.Freeing.{counted}
use Rattle.tree_pack.proofs.FreeingLemmas.{greatest_next}
use Rattle.tree_pack.proofs.freeing.greatest_below.Goals as goal

pub pointers-preserved : goal.pointers-preserved
pointers-preserved c = record {
  value = greatest_next c.args.limit c.pointers.most c.max-most.result _ c.pointers.left.now c.in-len2-up.len_at_least
      (c.max-most.ensures ∙ ap (λ n. max n c.pointers.most) (c.counted.ensures.value ∙ ap (counted c.args.limit) (c.first_pointer.ensures.value c.in-len2-up.len_at_least))) c.pointers.invariant.value;
}

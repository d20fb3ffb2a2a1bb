use Rattle.std.proofs.Common.{◌∙◌, refl, remove, ap, arith}
use Rattle.pager.proofs.Joining.{remove_insert}
use Rattle.pager.proofs.saved.insert_stamped.Goals as goal

pub returns-in-Err-clause-refused : goal.returns-in-Err-clause-refused
returns-in-Err-clause-refused c =
    let within = c.requires.within in
    let even = c.requires.even in
    (refl, c.in-Err.ensures.refused, c.remove.ensures.items ∙ ap (λ xs. remove xs c.args.index) c.in_ok-insert.ensures.items ∙ remove_insert c.args.stamps.now.items c.args.index c.args.stamp (omega (arith, within, even)))

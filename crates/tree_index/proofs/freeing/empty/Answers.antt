use Rattle.std.proofs.Common.{Bool, false, IsTrue, subst}
use Rattle.tree_index.proofs.Emptied.{none_fit}
use Rattle.tree_index.proofs.freeing.empty.Goals as goal

never : IsTrue false → ⊥
never e = cc

pub returns-then-not-fits-clause-refused : goal.returns-then-not-fits-clause-refused
returns-then-not-fits-clause-refused c = λ sized.
    absurd (never (subst (λ (b : Bool). IsTrue b) c.if-not-fits.true (c.fits.ensures.1 (none_fit c.args.page_size sized))))

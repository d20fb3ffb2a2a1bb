use Rattle.std.proofs.Common.{◌∙◌, ap, map}
use Rattle.std.proofs.lemmas.List.{take_all}
use Rattle.query_terms.specs.Terms.{terms}
use Rattle.query_names.specs.Grouping.{keyed}
use Rattle.query_bind.proofs.Keyless.{all_keyed}
use Rattle.query_bind.proofs.marking.+marked.Goals as goal

pub marked_all-returns : goal.marked_all-returns
marked_all-returns t c =
    ap terms c.terms.invariant
    ∙ (ap (λ es. terms (map (keyed c.args.keys.now) es)) (take_all c.terms.term-index c.args.list.now c.terms-test.false) ∙ all_keyed c.args.keys.now c.args.list.now)

use Rattle.std.proofs.Common.{◌∙◌, ◌++◌, ap, length, sym}
use Rattle.trigger_names.specs.Resolved.{set_at}
use Rattle.trigger_names.proofs.SetPairs.{next_paired, none_paired}
use Rattle.trigger_names.proofs.setting.paired.Goals as goal

pub terms-init : goal.terms-init
terms-init c = c.new-sets.ensures.items ∙ none_paired c.args.places.now

pub terms-preserved : goal.terms-preserved
terms-preserved c =
    c.in_ok-push_set.ensures.pushed
    ∙ (ap (λ sets. sets ++ set_at c.args.places.now (length sets) c.in-Some.term) c.terms.invariant ∙ sym (next_paired c.args.places.now c.terms.yielded c.in-Some.term))

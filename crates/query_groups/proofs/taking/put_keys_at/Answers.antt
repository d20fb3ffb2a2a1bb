use Rattle.std.proofs.Common.{◌≡◌, ◌∙◌, ◌<◌, ◌++◌, ◌∷◌, ℕ, List, Ok, ap, arith, drop, drop-cons, drop_of_length-le, length, rules, subst, suc, sym}
use Rattle.sqlval.specs.Refusals.{Answer, ◌then◌}
use Rattle.sort_keys.specs.Keys.{values_key}
use Rattle.query_terms.specs.Outcome.{IsRefusedBy}
use Rattle.query_terms.specs.Rows.{seen}
use Rattle.query_terms.specs.Terms.{Term}
use Rattle.query_names.specs.Readings.{sort_keys, values}
use Rattle.query_groups.proofs.KeysWritten.{all_written, write_refused, written_is, written_on}
use Rattle.query_groups.proofs.taking.put_keys_at.Goals as goal

pub returns-in_err-value-clause-told : goal.returns-in_err-value-clause-told
returns-in_err-value-clause-told c =
    let env = seen c.args.env in
    let ts = c.args.key_terms.now in
    let i = c.terms.term-index in
    let t = c.term-item.result in
    let fault = c.in_err-value.field-0.0 in
    let lt : i < length ts = (let test = c.terms-test.true in let end = c.terms.auto.term-index-end in omega (arith, test, end)) in
    let here : drop i ts ≡ t ∷ drop (suc i) ts = drop-cons ts i t lt ∙ ap (λ (x : Term). x ∷ drop (suc i) ts) (sym c.term-item.is) in
    let refused : IsRefusedBy (values env ts then λ keys. let l : Answer (List ℕ) = Ok (c.args.out.now.items ++ values_key (sort_keys ts) keys) in l) fault =
    subst (λ a. IsRefusedBy a fault) (ap (written_on env c.terms.out.items) (sym here) ∙ (c.terms.invariant.0 ∙ written_is env c.args.out.now.items ts))
    (write_refused env c.terms.out.items t (drop (suc i) ts) fault c.in_err-value.ensures) in
    search rules

pub returns-clause-told : goal.returns-clause-told
returns-clause-told c =
    let env = seen c.args.env in
    let ts = c.args.key_terms.now in
    sym (written_is env c.args.out.now.items ts)
    ∙ (sym c.terms.invariant.0 ∙ (ap (written_on env c.terms.out.items) (drop_of_length-le ts c.terms-test.false) ∙ all_written env c.terms.out.items))

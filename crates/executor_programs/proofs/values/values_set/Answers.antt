use Rattle.std.proofs.Common.{◌≡◌, ◌∙◌, ◌++◌, ◌∷◌, [], length, map, replicate, rules}
use Rattle.query_names.specs.Readings.{env_of}
use Rattle.query_terms.specs.Rows.{picked_rows}
use Rattle.executor_programs.proofs.QuietTerms.{handed_on, terms_quietly}
use Rattle.executor_programs.proofs.SetBeside.{seen_beside, set_given, set_refused}
use Rattle.executor_programs.proofs.values.values_set.Goals as goal

pub returns-in_err-given-clause-set : goal.returns-in_err-given-clause-set
returns-in_err-given-clause-set c = λ seen shows.
    (let zeros : c.deref-2.result.now ≡ replicate (length c.deref.result.now) 0 = search rules in
    let are : picked_rows c.deref.result.now c.deref-2.result.now ≡ seen.rows ++ c.args.row ∷ [] =
    seen_beside c.args.outer.rows.now c.deref.result.now seen.rows c.in_ok-own.own c.args.row c.deref-2.result.now shows.rows c.in_ok-own.ensures (c.deref.ensures.value ∙ c.in_ok-sources.ensures) zeros in
    set_refused seen c.args.sets.now c.args.row (picked_rows c.deref.result.now c.deref-2.result.now) are (λ values. values.items) c.from_residual-in_err-given.result c.in_err-given.field-0.0 c.from_residual-in_err-given.ensures.1 c.in_err-given.ensures)

pub returns-in_err-given-clause-not_disk : goal.returns-in_err-given-clause-not_disk
returns-in_err-given-clause-not_disk c =
    handed_on c.from_residual-in_err-given.result c.in_err-given.field-0.0 c.from_residual-in_err-given.ensures.1
    (terms_quietly (env_of (picked_rows c.deref.result.now c.deref-2.result.now)) (map (λ s. s.1) c.args.sets.now) c.in_err-given.field-0.0 c.in_err-given.ensures)

pub returns-clause-set : goal.returns-clause-set
returns-clause-set c = λ seen shows.
    (let zeros : c.deref-2.result.now ≡ replicate (length c.deref.result.now) 0 = search rules in
    let are : picked_rows c.deref.result.now c.deref-2.result.now ≡ seen.rows ++ c.args.row ∷ [] =
    seen_beside c.args.outer.rows.now c.deref.result.now seen.rows c.in_ok-own.own c.args.row c.deref-2.result.now shows.rows c.in_ok-own.ensures (c.deref.ensures.value ∙ c.in_ok-sources.ensures) zeros in
    let was : c.args.values.items ≡ c.args.row.values = search rules in
    set_given seen c.args.sets.now c.args.row (picked_rows c.deref.result.now c.deref-2.result.now) are c.in_ok-given.given.items c.args.values.items c.put_given.new.values.items c.in_ok-places.places.items c.deref-3.result.now c.deref-4.result.now
    c.in_ok-given.ensures was c.in_ok-places.ensures c.deref-3.ensures.value c.deref-4.ensures.value c.in_ok-put_given.ensures.put)

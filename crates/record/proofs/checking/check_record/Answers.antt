use Rattle.std.proofs.Common.{rules, ◌≡◌, ◌∙◌, ap, sym, subst, Err, arith, length, All}
use Rattle.std.proofs.lemmas.Result.{on_ok_weaker}
use Rattle.record.specs.Reading.{fault_of, record_at}
use Rattle.record.specs.Rows.{AreOfRow, has_null_at}
use Rattle.record.specs.Writing.{IsStorable}
use Rattle.record.proofs.VarintLemmas.{AreBytes-from_index}
use Rattle.record.proofs.RecordLemmas.{record_again, record_is}
use Rattle.record.proofs.RowChecks.{halves_read, halves_wrong, no_both, one_wrong_alone, same_values}
use Rattle.record.proofs.checking.check_record.Goals as goal

pub returns-in_err-types-clause-only : goal.returns-in_err-types-clause-only
returns-in_err-types-clause-only c = λ values is row.
    absurd (no_both (record_at c.args.bytes.now) values c.in_err-types.field-0.0 (record_again c.args.bytes.now values is) (halves_wrong c.args.bytes.now c.in_err-types.field-0.0 c.in_err-types.ensures))

pub returns-in_err-types-clause-why : goal.returns-in_err-types-clause-why
returns-in_err-types-clause-why c = λ wrong is.
    (let same = one_wrong_alone (record_at c.args.bytes.now) c.in_err-types.field-0.0 wrong (halves_wrong c.args.bytes.now c.in_err-types.field-0.0 c.in_err-types.ensures) is in
    let given : c.from_residual.result ≡ Err (fault_of c.in_err-types.field-0.0) = search rules in
    given ∙ ap (λ w. Err (fault_of w)) same)

pub returns-in_err-seen-clause-only : goal.returns-in_err-seen-clause-only
returns-in_err-seen-clause-only c = λ values is row.
    absurd (no_both (record_at c.args.bytes.now) values c.in_err-seen.field-0.0 (record_again c.args.bytes.now values is)
    (halves_read c.args.bytes.now c.in_ok-types.types.now c.in_ok-types.bodies.now c.in_ok-types.ensures ∙ c.in_err-seen.ensures.why))

pub returns-in_err-seen-clause-why : goal.returns-in_err-seen-clause-why
returns-in_err-seen-clause-why c = λ wrong is.
    (let same = one_wrong_alone (record_at c.args.bytes.now) c.in_err-seen.field-0.0 wrong (halves_read c.args.bytes.now c.in_ok-types.types.now c.in_ok-types.bodies.now c.in_ok-types.ensures ∙ c.in_err-seen.ensures.why) is in
    let given : c.from_residual-in_err-seen.result ≡ Err (fault_of c.in_err-seen.field-0.0) = search rules in
    given ∙ ap (λ w. Err (fault_of w)) same)

pub returns-clause-found : goal.returns-clause-found
returns-clause-found c =
    let found = c.in_ok-seen.ensures.found in
    let read = halves_read c.args.bytes.now c.in_ok-types.types.now c.in_ok-types.bodies.now c.in_ok-types.ensures ∙ found.1 in
    let is = record_is c.args.bytes.now found.0 (AreBytes-from_index c.args.bytes.now (λ i. omega (arith, c.type_inv.bytes i))) read in
    on_ok_weaker c.check_seen.result (λ told. (found.0, is, record { full = sym found.2 ∙ told.0; storable = found.4.0 told.2; null = sym found.3 ∙ told.1 })) c.check_seen.ensures.found

pub returns-clause-only : goal.returns-clause-only
returns-clause-only c = λ values is row.
    (let found = c.in_ok-seen.ensures.found in
    let read = halves_read c.args.bytes.now c.in_ok-types.types.now c.in_ok-types.bodies.now c.in_ok-types.ensures ∙ found.1 in
    let same = same_values (record_at c.args.bytes.now) found.0 values read (record_again c.args.bytes.now values is) in
    let row = subst (λ vs. AreOfRow c.args.width c.args.own vs) (sym same) row in
    c.check_seen.ensures.only (found.2 ∙ row.full) (found.3 ∙ row.null) (found.4.1 row.storable))

pub returns-clause-why : goal.returns-clause-why
returns-clause-why c = λ wrong is.
    (let found = c.in_ok-seen.ensures.found in
    absurd (no_both (record_at c.args.bytes.now) found.0 wrong (halves_read c.args.bytes.now c.in_ok-types.types.now c.in_ok-types.bodies.now c.in_ok-types.ensures ∙ found.1) is))

pub returns-in_err-types-clause-first : goal.returns-in_err-types-clause-first
returns-in_err-types-clause-first c = λ values is.
    absurd (no_both (record_at c.args.bytes.now) values c.in_err-types.field-0.0 (record_again c.args.bytes.now values is) (halves_wrong c.args.bytes.now c.in_err-types.field-0.0 c.in_err-types.ensures))

pub returns-in_err-seen-clause-first : goal.returns-in_err-seen-clause-first
returns-in_err-seen-clause-first c = λ values is.
    absurd (no_both (record_at c.args.bytes.now) values c.in_err-seen.field-0.0 (record_again c.args.bytes.now values is)
    (halves_read c.args.bytes.now c.in_ok-types.types.now c.in_ok-types.bodies.now c.in_ok-types.ensures ∙ c.in_err-seen.ensures.why))

pub returns-clause-first : goal.returns-clause-first
returns-clause-first c = λ values is.
    (let found = c.in_ok-seen.ensures.found in
    let read = halves_read c.args.bytes.now c.in_ok-types.types.now c.in_ok-types.bodies.now c.in_ok-types.ensures ∙ found.1 in
    let same = same_values (record_at c.args.bytes.now) found.0 values read (record_again c.args.bytes.now values is) in
    record {
      count = λ no. c.check_seen.ensures.count (λ e. no (sym (ap length same) ∙ (sym found.2 ∙ e)));
      place = λ full null. c.check_seen.ensures.place (found.2 ∙ (ap length same ∙ full)) (found.3 ∙ (ap (has_null_at c.args.own) same ∙ null));
      limit = λ full null long. c.check_seen.ensures.limit (found.2 ∙ (ap length same ∙ full)) (found.3 ∙ (ap (has_null_at c.args.own) same ∙ null)) (λ e. long (subst (λ vs. All IsStorable vs) same (found.4.0 e)));
    })

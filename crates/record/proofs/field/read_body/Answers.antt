use Rattle.std.proofs.Common.{◌≡◌, ◌∙◌, ap, length, w64, FitsSigned, rules, arith}
use Rattle.std.proofs.lemmas.Int.{ints, to_z-of_z}
use Rattle.record.specs.Reading.{body_len}
use Rattle.record.proofs.RecordLemmas.{wide_reads}
use Rattle.record.proofs.field.read_body.Goals as goal

pub returns-in-2 : goal.returns-in-2
unfolding body_len
returns-in-2 c =
    let len : length c.args.body.now ≡ 2 = c.requires ∙ ap body_len c.in-2.is in
    wide_reads c.args.serial c.args.body.now _ (omega (arith, c.in-2.is)) (omega (arith, c.in-2.is)) (rw len (search (arith, ints, to_z-of_z, c.read_i16.ensures)))

pub returns-in-3 : goal.returns-in-3
unfolding body_len
returns-in-3 c =
    let len : length c.args.body.now ≡ 3 = c.requires ∙ ap body_len c.in-3.is in
    let fits : FitsSigned w64 c.from-in-3.result = search rules in
    let same : c.from-in-3.result ≡ c.read_i24.result = search rules in
    wide_reads c.args.serial c.args.body.now _ (omega (arith, c.in-3.is)) (omega (arith, c.in-3.is)) (rw len (to_z-of_z w64 c.from-in-3.result fits ∙ same ∙ c.read_i24.ensures))

pub returns-in-5 : goal.returns-in-5
unfolding body_len
returns-in-5 c =
    let len : length c.args.body.now ≡ 6 = c.requires ∙ ap body_len c.in-5.is in
    let fits : FitsSigned w64 c.read_i48.result = search rules in
    wide_reads c.args.serial c.args.body.now _ (omega (arith, c.in-5.is)) (omega (arith, c.in-5.is)) (rw len (to_z-of_z w64 c.read_i48.result fits ∙ c.read_i48.ensures))

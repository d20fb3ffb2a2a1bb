use Rattle.std.proofs.Common.{rules, refl, sym, ap, subst, ◌∙◌, length, take, drop, arith}
use Rattle.disk.specs.File.{File}
use Rattle.db_header.proofs.Fronts.{header_moves}
use Rattle.pager.proofs.HeaderFronts.{front_of, header_found}
use Rattle.engine.specs.Opening.{ReadsHeader}
use Rattle.engine.proofs.EmptyOpening as empty
use Rattle.engine.proofs.EmptyOpening.{clash}
use Rattle.pager.proofs.Headers.{header_fault, header_not_blank}
use Rattle.engine.proofs.BlankFiles.{call_failed, no_blank, other_refusal, told_blank}
use Rattle.engine.proofs.CountedCalls.{call_refused, calm_refused, part_refused}
use Rattle.engine.proofs.OpenFaults.{call_listed, header_listed}
use Rattle.engine.proofs.opening.file_header.Goals as goal

pub returns-then-branch-clause-read : goal.returns-then-branch-clause-read
returns-then-branch-clause-read g c = λ head told is. clash (sym c.if-branch.true ∙ c.in_ok-is_blank.ensures.blank told ∙ empty.header_not_blank _ head is)

pub returns-then-branch-2-clause-read : goal.returns-then-branch-2-clause-read
returns-then-branch-2-clause-read g c = λ head told is.
    let kept = c.in_ok-is_blank.ensures.kept in
    let long = c.in_ok-len.ensures.length (kept.told ∙ told) ∙ ap (λ (f : File). length f.content) (kept.same told) in
    absurd (omega (arith, c.if-branch-2.true, long, is.long))

pub returns-clause-read : goal.returns-clause-read
returns-clause-read g c = λ head told is.
    let kept = c.in_ok-is_blank.ensures.kept in
    let told_len = kept.told ∙ told in
    let told_read = c.in_ok-len.ensures.tells ∙ told_len in
    let same = c.in_ok-len.ensures.same told_len ∙ kept.same told in
    let front = c.in_ok-read_at.ensures.read told_read ∙ ap (λ (f : File). take 100 (drop 0 f.content)) same in
    subst (ReadsHeader head) (sym (c.read.ensures.only head (header_moves _ _ head (sym (front_of _ _ front)) is))) refl

pub returns-clause-found : goal.returns-clause-found
returns-clause-found g c = λ told.
    let kept = c.in_ok-is_blank.ensures.kept in
    let told_len = kept.told ∙ told in
    let told_read = c.in_ok-len.ensures.tells ∙ told_len in
    let same = c.in_ok-len.ensures.same told_len ∙ kept.same told in
    header_found _ (g.D.Disk.file c.args.db.now).content (c.in_ok-read_at.ensures.read told_read ∙ ap (λ (f : File). take 100 (drop 0 f.content)) same) c.read.result c.read.ensures.found

pub returns-in_err-is_blank-clause-counted : goal.returns-in_err-is_blank-clause-counted
returns-in_err-is_blank-clause-counted g c = part_refused _ c.in_err-is_blank.field-0.0 _ _ c.from_residual.ensures.1 c.in_err-is_blank.ensures.counted.counts c.in_err-is_blank.ensures.counted.io

pub returns-then-branch-clause-counted : goal.returns-then-branch-clause-counted
returns-then-branch-clause-counted g c = calm_refused _ _ _ c.in_ok-is_blank.ensures.counted.none_failed (search rules)

pub returns-in_err-len-clause-counted : goal.returns-in_err-len-clause-counted
returns-in_err-len-clause-counted g c = call_refused _ c.in_err-len.field-0.0 _ _ _ c.from_residual-in_err-len.ensures.1 c.in_ok-is_blank.ensures.counted.none_failed c.in_err-len.ensures.count

pub returns-then-branch-2-clause-counted : goal.returns-then-branch-2-clause-counted
returns-then-branch-2-clause-counted g c = calm_refused _ _ _ (c.in_ok-len.ensures.count ∙ c.in_ok-is_blank.ensures.counted.none_failed) (search rules)

pub returns-in_err-read_at-clause-counted : goal.returns-in_err-read_at-clause-counted
returns-in_err-read_at-clause-counted g c = call_refused _ c.in_err-read_at.field-0.0 _ _ _ c.from_residual-in_err-read_at.ensures.1 (c.in_ok-len.ensures.count ∙ c.in_ok-is_blank.ensures.counted.none_failed) c.in_err-read_at.ensures.count

pub returns-clause-counted : goal.returns-clause-counted
returns-clause-counted g c =
    calm_refused _ _ _ (c.in_ok-read_at.ensures.count ∙ (c.in_ok-len.ensures.count ∙ c.in_ok-is_blank.ensures.counted.none_failed)) (header_fault _ c.read.result c.read.ensures.exact)

pub returns-in_err-is_blank-clause-blank : goal.returns-in_err-is_blank-clause-blank
returns-in_err-is_blank-clause-blank g c = λ told. call_failed (g.D.Disk.file c.args.db.now).content _ c.in_err-is_blank.field-0.0 c.from_residual.ensures.1 c.in_err-is_blank.ensures.refused

pub returns-in_err-len-clause-blank : goal.returns-in_err-len-clause-blank
returns-in_err-len-clause-blank g c = λ told. call_failed (g.D.Disk.file c.args.db.now).content _ c.in_err-len.field-0.0 c.from_residual-in_err-len.ensures.1 c.in_err-len.ensures.refused

pub returns-then-branch-clause-blank : goal.returns-then-branch-clause-blank
returns-then-branch-clause-blank g c = λ told. told_blank _ _ (search rules) (sym (c.in_ok-is_blank.ensures.blank told) ∙ c.if-branch.true)

pub returns-then-branch-2-clause-blank : goal.returns-then-branch-2-clause-blank
returns-then-branch-2-clause-blank g c = λ told. other_refusal _ _ (λ blank. clash (sym blank ∙ sym (c.in_ok-is_blank.ensures.blank told) ∙ c.if-branch.false)) (search rules)

pub returns-in_err-read_at-clause-blank : goal.returns-in_err-read_at-clause-blank
returns-in_err-read_at-clause-blank g c = λ told. call_failed (g.D.Disk.file c.args.db.now).content _ c.in_err-read_at.field-0.0 c.from_residual-in_err-read_at.ensures.1 c.in_err-read_at.ensures.refused

pub returns-clause-blank : goal.returns-clause-blank
returns-clause-blank g c = λ told. no_blank (g.D.Disk.file c.args.db.now).content c.read.result (λ blank. clash (sym blank ∙ sym (c.in_ok-is_blank.ensures.blank told) ∙ c.if-branch.false)) (header_not_blank _ c.read.result c.read.ensures.exact)

pub returns-in_err-is_blank-clause-refused : goal.returns-in_err-is_blank-clause-refused
returns-in_err-is_blank-clause-refused g c = call_listed _ c.in_err-is_blank.field-0.0 c.from_residual.ensures.1 c.in_err-is_blank.ensures.refused

pub returns-in_err-len-clause-refused : goal.returns-in_err-len-clause-refused
returns-in_err-len-clause-refused g c = call_listed _ c.in_err-len.field-0.0 c.from_residual-in_err-len.ensures.1 c.in_err-len.ensures.refused

pub returns-in_err-read_at-clause-refused : goal.returns-in_err-read_at-clause-refused
returns-in_err-read_at-clause-refused g c = call_listed _ c.in_err-read_at.field-0.0 c.from_residual-in_err-read_at.ensures.1 c.in_err-read_at.ensures.refused

pub returns-clause-refused : goal.returns-clause-refused
returns-clause-refused g c = header_listed _ c.read.result c.read.ensures.exact

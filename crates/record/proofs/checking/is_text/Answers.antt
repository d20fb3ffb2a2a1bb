use Rattle.std.proofs.Common.{◌≡◌, ◌∙◌, sym}
use Rattle.std.proofs.lemmas.Str.{IsUtf8-from_ascii, is_utf8-from_IsUtf8}
use Rattle.std.specs.Str.{IsValidUpTo, valid_up_to}
use Rattle.record.proofs.RowChecks.{text_told}
use Rattle.record.proofs.checking.is_text.Goals as goal

pub returns-then-is_ascii : goal.returns-then-is_ascii
returns-then-is_ascii c = c.if-is_ascii.true ∙ sym (is_utf8-from_IsUtf8 c.args.body.now (IsUtf8-from_ascii c.args.body.now c.if-is_ascii.ensures.cases))

pub returns-else-is_ascii : goal.returns-else-is_ascii
returns-else-is_ascii c =
    c.is_ok.ensures.value ∙ text_told (λ s. s.now ≡ c.args.body.now) (λ e. IsValidUpTo c.args.body.now (valid_up_to e)) c.from_utf8.result c.args.body.now c.from_utf8.ensures.cases

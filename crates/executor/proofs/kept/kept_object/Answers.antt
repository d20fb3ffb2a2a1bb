use Rattle.executor.proofs.KeptTexts.{creating, is_made, unread}
use Rattle.executor.proofs.kept.kept_object.Goals as goal

pub returns-in_err-parse-clause-kept : goal.returns-in_err-parse-clause-kept
returns-in_err-parse-clause-kept c = λ made text.
    (let only = rw (c.as_str.ensures) at c.in_err-parse.ensures.only in
    unread made c.from_residual.result c.in_err-parse.field-0.0 (creating text.sql made) c.from_residual.ensures.1 (only (creating text.sql made) text.is text.within text.short))

pub returns-clause-kept : goal.returns-clause-kept
returns-clause-kept c = λ made text.
    (let only = rw (c.as_str.ensures) at c.in_ok-parse.ensures.only in
    is_made made text.sql c.in_ok-parse.field-0 c.created_in.result (only (creating text.sql made) text.is text.within text.short) (c.created_in.ensures.created text.sql made))

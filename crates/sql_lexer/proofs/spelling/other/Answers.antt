use Rattle.std.proofs.Common.{lit<, sym}
use Rattle.sql_lexer.proofs.Cuts.{is_ended_after}
use Rattle.sql_lexer.proofs.Lengths.{blob_ends, closing_ends}
use Rattle.sql_lexer.proofs.spelling.other.Goals as goal

pub returns-in_ok-blob-in-88-clause-cut : goal.returns-in_ok-blob-in-88-clause-cut
returns-in_ok-blob-in-88-clause-cut c = is_ended_after c.args.text.now 2 39 c.in_ok-blob-in-88.field-0 (lit< tt) (blob_ends _ _ (sym c.in_ok-blob-in-88.ensures.value))

pub returns-in_ok-closing-in-39-clause-cut : goal.returns-in_ok-closing-in-39-clause-cut
returns-in_ok-closing-in-39-clause-cut c = is_ended_after c.args.text.now 1 39 c.in_ok-closing-in-39.field-0 (lit< tt) (closing_ends 39 _ _ (sym c.in_ok-closing-in-39.ensures.value))

pub returns-in_ok-closing-in-34-clause-cut : goal.returns-in_ok-closing-in-34-clause-cut
returns-in_ok-closing-in-34-clause-cut c = is_ended_after c.args.text.now 1 34 c.in_ok-closing-in-34.field-0 (lit< tt) (closing_ends 34 _ _ (sym c.in_ok-closing-in-34.ensures.value))

use Rattle.std.proofs.Common.{length}
use Rattle.sql_parser.proofs.Same.{place_there}
use Rattle.sql_parser.proofs.parsing.place.Goals as goal

pub returns-then-index-spelled-clause-value : goal.returns-then-index-spelled-clause-value
returns-then-index-spelled-clause-value c =
    place_there (length c.args.text.now) c.args.spelled.now c.args.left c.saturating_sub-index.result _ c.saturating_sub-index.ensures c.if-index-spelled.true

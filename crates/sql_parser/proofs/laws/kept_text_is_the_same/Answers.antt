use Rattle.sql_parser.proofs.KeptText.{kept_text}
use Rattle.sql_parser.proofs.laws.kept_text_is_the_same.Goals as goal

pub returns : goal.returns
returns c = kept_text

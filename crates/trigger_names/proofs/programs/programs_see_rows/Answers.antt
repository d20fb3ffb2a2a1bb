use Rattle.trigger_names.proofs.SeenRows.{see_rows}
use Rattle.trigger_names.proofs.programs.programs_see_rows.Goals as goal

pub returns : goal.returns
returns c = see_rows

use Rattle.pager.proofs.Mapping.{put_at_end, put_in_place}
use Rattle.pager.proofs.laws.puts_change_maps.Goals as goal

pub returns-clause-place : goal.returns-clause-place
returns-clause-place c = put_in_place

pub returns-clause-end : goal.returns-clause-end
returns-clause-end c = put_at_end

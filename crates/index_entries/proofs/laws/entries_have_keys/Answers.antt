use Rattle.index_entries.proofs.Keys.{finds_keys}
use Rattle.index_entries.proofs.laws.entries_have_keys.Goals as goal

pub returns : goal.returns
returns c = finds_keys

use Rattle.std.proofs.Common.{◌∙◌, sym}
use Rattle.wal.specs.LogState.{state_of}
use Rattle.wal.proofs.Standing.{if_copied}
use Rattle.wal.proofs.log.Log.is_copied.Goals as goal

pub returns-clause-alone : goal.returns-clause-alone
returns-clause-alone g c copied ok told told_log =
    let is = if_copied (state_of c.args.self.now) (sym c.is_copied.ensures ∙ copied) in
    c.args.self.now.db_copied ok told told_log is.0 is.1

use Rattle.std.proofs.Common.{refl}
use Rattle.wal_frame.proofs.Reading.{finished}
use Rattle.wal_frame.proofs.progress.Progress.finish.Goals as goal

pub returns-clause-found : goal.returns-clause-found
returns-clause-found c log whole = finished c.args.header.now log c.args.self _ c.requires whole c.truncate.ensures.items refl refl

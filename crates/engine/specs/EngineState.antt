-- What an engine holds.
use Rattle.std.specs.Prelude.{Bool}
use Rattle.disk.specs.declared.device.Disk.{Ghosts}
use Rattle.engine.specs.declared.opening.Engine.{Engine}
use Rattle.session.specs.ConnectionState.{files_of, has_failed_in}
use Rattle.session.specs.declared.transactions.Connections.{Connections}
use Rattle.wal.specs.LogState.{db_of, log_of}

module _ {D : Type 0} {g : Ghosts D} where
  -- its connections
  abbrev pub connections_of : Engine D g → Connections D g
  connections_of engine = engine.connections

  -- a commit or a checkpoint has failed, so that the files are to be opened anew
  abbrev pub has_failed_of : Engine D g → Bool
  has_failed_of engine = has_failed_in engine.connections

  -- the disk of the database file, and that of the log
  abbrev pub db_disk : Engine D g → D
  db_disk engine = db_of (files_of engine.connections)

  abbrev pub log_disk : Engine D g → D
  log_disk engine = log_of (files_of engine.connections)

-- What a query reads: two files as a snapshot shows them, or with a writer's changes ("Isolation In SQLite").
use Rattle.std.specs.Prelude.{◌≤◌}
use Rattle.disk.specs.declared.device.Disk.{Ghosts}
use Rattle.wal.specs.LogState.{state_of, seen_by}
use Rattle.wal.specs.declared.log.Log.{Log}
use Rattle.pager.specs.Views.{View, view_at, view_of}
use Rattle.session.specs.Writers.{IsWriter}
use Rattle.session.specs.declared.reads.Sight.{Sight}
use Rattle.session.specs.declared.reads.Sight.TheVariants as sight

module _ {D : Type 0} {g : Ghosts D} where
  -- what is seen of the files so
  abbrev pub view_by : Log D g → Sight → View
  view_by files (sight.Snapshot snapshot) = view_at files snapshot
  view_by files (sight.Writer writer) = view_of files writer.now

  -- the log has what the snapshot sees, or the writer's changes can be committed over the newest commit
  abbrev pub IsSightOf : Log D g → Sight → Type 0
  IsSightOf files (sight.Snapshot snapshot) = seen_by snapshot ≤ (state_of files).frames
  IsSightOf files (sight.Writer writer) = IsWriter files writer.now

-- Which machine an engine shows, and steps of it by texts.
use Rattle.std.specs.Prelude.{ℕ, List}
use Rattle.disk.specs.declared.device.Disk.{Ghosts}
use Rattle.sql_grammar.specs.Texts.{IsStatementText}
use Rattle.sql_syntax.specs.declared.statement.Statement.{Statement}
use Rattle.session.specs.TooLong.{StepOrTooLong}
use Rattle.session.specs.Holding.{HoldThroughout}
use Rattle.session.specs.ConnectionState.{files_of}
use Rattle.session.specs.Machine.{Machine, Reply}
use Rattle.session.specs.Representation.{BeginsLog, CopiesAnswered, Represents, others_in}
use Rattle.session.specs.Crashes.{MayShow}
use Rattle.session.specs.Texts.{StepByText}
use Rattle.wal.specs.declared.log.Log.{Log}
use Rattle.engine.specs.Language.{grammar}
use Rattle.engine.specs.declared.opening.Engine.{Engine}

module _ {D : Type 0} {g : Ghosts D} where
  -- the engine shows a machine where its connections do
  abbrev pub EngineRepresents : Engine D g → Machine → Type 0
  EngineRepresents engine = Represents engine.connections

  -- the two files of an engine
  abbrev pub files_in : Engine D g → Log D g
  files_in engine = files_of engine.connections

  -- This is a step by a text from a machine to one that is shown after it; and at each moment a crash leaves a database that the step may show.
  -- Where the text is a checkpoint, its frames are copied as the reply says; and a commit begins the log anew where it may.
  pub record StepsByTextTo (old : Engine D g) (m : Machine) (connection : ℕ) (text : List ℕ) (reply : Reply) (new : Engine D g) : Type 0 where
    pub next : Machine
    pub step : StepByText (λ before c s answer after. StepOrTooLong before c s answer after) grammar m connection text reply next
    pub shown : EngineRepresents new next
    pub crash : HoldThroughout (MayShow m next) (files_in old) (files_in new)
    pub copied : (s : Statement) → IsStatementText text s → CopiesAnswered (others_in old.connections connection) (files_in old) s reply (files_in new)
    pub renewed : BeginsLog (others_in old.connections connection) (files_in old) m next (files_in new)

  -- From each machine that was shown the text is a step, and the machine after it is shown.
  abbrev pub StepsByText : Engine D g → ℕ → List ℕ → Reply → Engine D g → Type 0
  StepsByText old connection text reply new = (m : Machine) → EngineRepresents old m → StepsByTextTo old m connection text reply new

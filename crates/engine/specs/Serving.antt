-- What is read and written where an input's lines are supported.
use Rattle.std.specs.Prelude.{◌≡◌, ◌⊎◌, ◌≤◌, ℕ, List, [], ◌∷◌, ◌++◌, length, Option, IfSome, IsTrue, IsFalse, Result, Ok, Err}
use Rattle.std.specs.Io.KnownBytes.{Appends}
use Rattle.disk.specs.declared.device.Disk.{Ghosts}
use Rattle.sqlval.specs.Refusals.{refusal_of}
use Rattle.sqlval.specs.declared.fault.Fault.{Fault}
use Rattle.sqlval.specs.declared.fault.Fault.TheVariants.{Failed}
use Rattle.sqlval.specs.declared.value.Value.{Value}
use Rattle.session.specs.Machine as machine
use Rattle.session.specs.Holding.{HoldThroughout}
use Rattle.session.specs.Machine.{Machine, Rows, Refused, idle}
use Rattle.session.specs.Representation.{AreGivenUp}
use Rattle.session.specs.Crashes.{MayShowInRun}
use Rattle.engine.specs.EngineState.{connections_of, has_failed_of}
use Rattle.engine.specs.Failing.{HasFullCause, KeepsDisksOfText, MarksWhereCounted}
use Rattle.engine.specs.Lines.{AreLines, Between, IsLineRefusal, IsInputLine, kept_of}
use Rattle.engine.specs.Output.{output_text}
use Rattle.engine.specs.Representation.{EngineRepresents, StepsByText, StepsByTextTo, files_in}
use Rattle.engine.specs.declared.opening.Engine.{Engine}

-- the rows' values, or a refusal
abbrev pub Reply : Type 0
Reply = Result (List (List Value)) Fault

-- the same, as a machine replies
abbrev pub machine_reply : Reply → machine.Reply
machine_reply (Ok rows) = Rows rows
machine_reply (Err fault) = Refused (refusal_of fault)

-- the machine with 16 idle connections
abbrev pub given_up : Machine → Machine
given_up m = record m { connections = idle 16 }

-- The line has no statement that could be executed, and the reply says why.
pub record IsRefusedLine (line : List ℕ) (reply : Reply) : Type 0 where
  pub fault : Fault
  pub why : IsLineRefusal line fault
  pub is : reply ≡ Err fault

-- The input begins with these lines, each of them whole: the last one ends with a line feed, or with the input.
pub record BeginsWithLines (lines : List (List ℕ)) (input : List ℕ) : Type 0 where
  pub beginning : List ℕ
  pub unanswered : List ℕ
  pub whole : input ≡ beginning ++ unanswered
  pub are_lines : AreLines beginning lines
  pub are_ended : (unanswered ≡ []) ⊎ (beginning ≡ []) ⊎ ((front : List ℕ) × (beginning ≡ front ++ 10 ∷ []))

-- After what was before stands a beginning of the text.
pub record EndsWithPart (text before after : List ℕ) : Type 0 where
  pub part : List ℕ
  pub unwritten : List ℕ
  pub is : text ≡ part ++ unwritten
  pub written : after ≡ before ++ part

module _ {D : Type 0} {g : Ghosts D} where
  -- The line has a statement, and the reply to it is a step of the machines that the engine shows. Where it marks the engine as failed, a
  -- call of a disk has failed.
  pub record IsExecuted (old : Engine D g) (line : List ℕ) (reply : Reply) (new : Engine D g) : Type 0 where
    pub connection : ℕ
    pub statement : List ℕ
    pub says : IsInputLine line connection statement
    pub fits : length statement ≤ 65536
    pub step : StepsByText old connection statement (machine_reply reply) new
    pub counted : MarksWhereCounted old new
    pub full : HasFullCause old connection statement reply
    pub early : KeepsDisksOfText old statement reply new

  -- A reply to what was kept of a line: the engine had failed, or the line is refused, and nothing changes; or its statement was executed.
  abbrev pub AnswersKept : Engine D g → List ℕ → Reply → Engine D g → Type 0
  AnswersKept old kept reply new =
      IsTrue (has_failed_of old) × (reply ≡ Err Failed) × (new ≡ old)
      ⊎ IsFalse (has_failed_of old) × IsRefusedLine kept reply × (new ≡ old)
      ⊎ IsFalse (has_failed_of old) × IsExecuted old kept reply new

  -- A reply to a line, of which the first 65,540 bytes decide: one more than a number, a space and a statement may have.
  abbrev pub Answers : Engine D g → List ℕ → Reply → Engine D g → Type 0
  Answers old line reply new = AnswersKept old (kept_of line) reply new

  -- one reply to each line, in order, each from where the one before has left the engine
  abbrev pub AreReplies : Engine D g → List (List ℕ) → List Reply → Engine D g → Type 0
  AreReplies old [] [] new = new ≡ old
  AreReplies old [] (reply ∷ replies) new = ⊥
  AreReplies old (line ∷ lines) [] new = ⊥
  AreReplies old (line ∷ lines) (reply ∷ replies) new = (mid : Engine D g) × Answers old line reply mid × AreReplies mid lines replies new

  -- The line's statement was executed, from this machine to the next.
  pub record Executes (old : Engine D g) (m : Machine) (line : List ℕ) (reply : Reply) (new : Engine D g) (next : Machine) : Type 0 where
    pub connection : ℕ
    pub statement : List ℕ
    pub says : IsInputLine line connection statement
    pub fits : length statement ≤ 65536
    pub to : StepsByTextTo old m connection statement (machine_reply reply) new
    pub next_is : next ≡ to.next
    pub full : HasFullCause old connection statement reply
    pub early : KeepsDisksOfText old statement reply new

  -- A reply to a line, from a machine to the next, which differs only where its statement was executed.
  abbrev pub AnswersFrom : Engine D g → Machine → List ℕ → Reply → Engine D g → Machine → Type 0
  AnswersFrom old m line reply new next =
      IsTrue (has_failed_of old) × (reply ≡ Err Failed) × (new ≡ old) × (next ≡ m)
      ⊎ IsFalse (has_failed_of old) × IsRefusedLine (kept_of line) reply × (new ≡ old) × (next ≡ m)
      ⊎ IsFalse (has_failed_of old) × Executes old m (kept_of line) reply new next

  -- one reply to each line, in order, from machine to machine
  abbrev pub RunsBy : Engine D g → Machine → List (List ℕ) → List Reply → Engine D g → Machine → Type 0
  RunsBy old m [] [] new end = (new ≡ old) × (end ≡ m)
  RunsBy old m [] (reply ∷ replies) new end = ⊥
  RunsBy old m (line ∷ lines) [] new end = ⊥
  RunsBy old m (line ∷ lines) (reply ∷ replies) new end = (mid : Engine D g) × (next : Machine) × AnswersFrom old m line reply mid next × RunsBy mid next lines replies new end

  -- From a machine the replies are a run to a machine that is shown then; and at each moment a crash leaves a database that the run may show:
  -- one that was committed from the acknowledged one on, or one that a commit left in doubt.
  pub record RunsTo (old : Engine D g) (m : Machine) (lines : List (List ℕ)) (replies : List Reply) (new : Engine D g) : Type 0 where
    pub end : Machine
    pub runs : RunsBy old m lines replies new end
    pub shown : EngineRepresents new end
    pub crash : HoldThroughout (MayShowInRun m end) (files_in old) (files_in new)

  -- the same from each machine that was shown
  abbrev pub Runs : Engine D g → List (List ℕ) → List Reply → Engine D g → Type 0
  Runs old lines replies new = (m : Machine) → EngineRepresents old m → RunsTo old m lines replies new

  -- Lines were read and replied to: the whole input where its bytes are known, and after what was written before stand the replies.
  pub record HasServed (old : Engine D g) (given left before after : Option (List ℕ)) (new : Engine D g) : Type 0 where
    pub lines : List (List ℕ)
    pub replies : List Reply
    pub are_replies : AreReplies old lines replies new
    pub runs : Runs old lines replies new
    pub read : Between (λ input rest. (rest ≡ []) × AreLines input lines) given left
    pub written : Between (λ b a. a ≡ b ++ output_text replies) before after

  -- Lines were read and replied to: those of a beginning of the input, and after what was written before stands a beginning of the replies.
  pub record HasServedInPart (old : Engine D g) (given before after : Option (List ℕ)) (new : Engine D g) : Type 0 where
    pub lines : List (List ℕ)
    pub replies : List Reply
    pub are_replies : AreReplies old lines replies new
    pub runs : Runs old lines replies new
    pub read : IfSome given (BeginsWithLines lines)
    pub written : Between (EndsWithPart (output_text replies)) before after

  -- All open transactions are given up: the files are as they were, and the machine has its connections idle.
  pub record GivesUp (old new : Engine D g) : Type 0 where
    pub files : files_in new ≡ files_in old
    pub gone : AreGivenUp (connections_of old) (connections_of new)
    pub shown : (m : Machine) → EngineRepresents old m → EngineRepresents new (given_up m)

  -- All lines were served, and then all transactions given up.
  pub record HasRun (old : Engine D g) (given left before after : Option (List ℕ)) (new : Engine D g) : Type 0 where
    pub end : Engine D g
    pub served : HasServed old given left before after end
    pub gone : GivesUp end new

  -- Lines were served in part, and then all transactions given up.
  pub record HasRunInPart (old : Engine D g) (given before after : Option (List ℕ)) (new : Engine D g) : Type 0 where
    pub end : Engine D g
    pub served : HasServedInPart old given before after end
    pub gone : GivesUp end new

-- A beginning of the text was written.
pub record AppendsPart (before after : Option (List ℕ)) (text : List ℕ) : Type 0 where
  pub part : List ℕ
  pub unwritten : List ℕ
  pub is : text ≡ part ++ unwritten
  pub written : Appends before after part

-- A beginning of the text was written, and this is the rest.
pub record HasWritten (before after : Option (List ℕ)) (text rest : List ℕ) : Type 0 where
  pub part : List ℕ
  pub is : text ≡ part ++ rest
  pub written : Appends before after part

-- Which command a line is.
use Rattle.std.specs.Prelude.{ℕ, not, if◌then◌else◌, List, [], ◌∷◌, map, Option, Some, None, Result, Ok, Err}
use Rattle.std.specs.List.{prefix_len}
use Rattle.std.specs.Str.{str_eq_ignore_ascii_case}
use Rattle.sql_lexer.specs.Bytes.{is_space}
use Rattle.sql_lexer.specs.Lex.{Text}
use Rattle.shell.specs.declared.commands.Command.{Command}
use Rattle.shell.specs.declared.commands.Command.TheVariants as c
use Rattle.shell.specs.declared.commands.Mistake.{Mistake}
use Rattle.shell.specs.declared.commands.Mistake.TheVariants as m
use Rattle.shell.specs.declared.commands.Word.{Word}
use Rattle.shell.specs.declared.commands.Word.TheVariants as w
use Rattle.shell.specs.declared.commands.TheConstants.{WORDS, MODES, SWITCHES, CONNECTIONS, DEPTHS}

-- how many bytes at the front are no spaces
abbrev pub word_len : Text → ℕ
word_len line = prefix_len (λ b. not (is_space b)) line

-- what a table has beside a word, in letters of any case
abbrev pub in_table : {X : Type 0} → List (Text × X) → Text → Option X
in_table [] word = None
in_table (k ∷ ks) word = if str_eq_ignore_ascii_case k.0 word then Some k.1 else in_table ks word

-- a command that takes no argument
abbrev pub without_argument : Command → Text → Result Command Mistake
without_argument command [] = Ok command
without_argument command (b ∷ z) = Err m.Argument

-- a command that wants an argument
abbrev pub with_one : Command → Text → Result Command Mistake
with_one command [] = Err m.Argument
with_one command (b ∷ z) = Ok command

-- a command with what its argument names
abbrev pub named : {X : Type 0} → (X → Command) → Option X → Result Command Mistake
named command None = Err m.Argument
named command (Some x) = Ok (command x)

abbrev pub mode_command : Text → Result Command Mistake
mode_command argument = named (λ x. c.Mode x) (in_table (map (λ k. (k.0.now, k.1)) MODES) argument)

abbrev pub headers_command : Text → Result Command Mistake
headers_command argument = named (λ x. c.Headers x) (in_table (map (λ k. (k.0.now, k.1)) SWITCHES) argument)

abbrev pub timer_command : Text → Result Command Mistake
timer_command argument = named (λ x. c.Timer x) (in_table (map (λ k. (k.0.now, k.1)) SWITCHES) argument)

abbrev pub connection_command : Text → Result Command Mistake
connection_command argument = named (λ x. c.Connection x) (in_table (map (λ k. (k.0.now, k.1)) CONNECTIONS) argument)

abbrev pub checkpoint_command : Text → Result Command Mistake
checkpoint_command argument = named (λ x. c.Checkpoint x) (in_table (map (λ k. (k.0.now, k.1)) DEPTHS) argument)

abbrev pub command_by : Word → Text → Result Command Mistake
command_by w.Help argument = without_argument c.Help argument
command_by w.Quit argument = without_argument c.Quit argument
command_by w.Tables argument = Ok c.Tables
command_by w.Schema argument = Ok c.Schema
command_by w.Indexes argument = Ok c.Indexes
command_by w.Mode argument = mode_command argument
command_by w.Headers argument = headers_command argument
command_by w.Timer argument = timer_command argument
command_by w.Read argument = with_one c.Read argument
command_by w.Dump argument = Ok c.Dump
command_by w.Connection argument = connection_command argument
command_by w.Checkpoint argument = checkpoint_command argument

abbrev pub command_if : Option Word → Text → Result Command Mistake
command_if None argument = Err m.Word
command_if (Some word) argument = command_by word argument

-- the command that a word and an argument are
abbrev pub command_of : Text → Text → Result Command Mistake
command_of word argument = command_if (in_table (map (λ k. (k.0.now, k.1)) WORDS) word) argument

-- Where a statement ends (SQL As Understood By SQLite, "CREATE TRIGGER").
use Rattle.std.specs.Prelude.{ℕ, Bool, true, false, if◌then◌else◌, List, [], ◌∷◌, Option, Some, None}
use Rattle.std.specs.List.{list_all}
use Rattle.sql_lexer.specs.Lex.{Text, plus}
use Rattle.shell.specs.Pieces.{text_pieces}
use Rattle.shell.specs.declared.pieces.Sort.{Sort}
use Rattle.shell.specs.declared.pieces.Sort.TheVariants as s
use Rattle.shell.specs.declared.statements.Phase.{Phase}
use Rattle.shell.specs.declared.statements.Phase.TheVariants as p

-- ---- what a piece makes of the phase before it

abbrev pub after_start : Sort → Phase
after_start s.Gap = p.Start
after_start s.Explain = p.Explain
after_start s.Create = p.Create
after_start _ = p.Plain

abbrev pub after_explain : Sort → Phase
after_explain s.Gap = p.Explain
after_explain s.Other = p.Explain
after_explain s.Create = p.Create
after_explain _ = p.Plain

abbrev pub after_create : Sort → Phase
after_create s.Gap = p.Create
after_create s.Temp = p.Create
after_create s.Trigger = p.Trigger
after_create _ = p.Plain

abbrev pub after_trigger : Sort → Phase
after_trigger s.Semicolon = p.Between
after_trigger _ = p.Trigger

abbrev pub after_semicolon : Sort → Phase
after_semicolon s.Gap = p.Between
after_semicolon s.Semicolon = p.Between
after_semicolon s.End = p.End
after_semicolon _ = p.Trigger

abbrev pub after_end : Sort → Phase
after_end s.Gap = p.End
after_end _ = p.Trigger

abbrev pub phase_after : Phase → Sort → Phase
phase_after p.Start sort = after_start sort
phase_after p.Explain sort = after_explain sort
phase_after p.Create sort = after_create sort
phase_after p.Plain sort = p.Plain
phase_after p.Trigger sort = after_trigger sort
phase_after p.Between sort = after_semicolon sort
phase_after p.End sort = after_end sort

-- ---- the end

-- a semicolon ends a statement, but not those in a trigger's program
abbrev pub is_last : Phase → Bool
is_last p.Trigger = false
is_last p.Between = false
is_last _ = true

abbrev pub ends : Phase → Sort → Bool
ends phase s.Semicolon = is_last phase
ends phase _ = false

-- how many bytes the pieces up to the one that ends a statement have, that with them
abbrev pub end_from : Phase → List (Sort × ℕ) → Option ℕ
end_from phase [] = None
end_from phase (piece ∷ others) =
    if ends phase piece.0 then Some piece.1 else plus piece.1 (end_from (phase_after phase piece.0) others)

-- the place after the first statement of a text, where it ends
abbrev pub statement_end : Text → Option ℕ
statement_end z = end_from p.Start (text_pieces z)

abbrev pub is_gap : Sort → Bool
is_gap s.Gap = true
is_gap _ = false

-- nothing but spaces and comments
abbrev pub is_blank : Text → Bool
is_blank z = list_all (λ piece. is_gap piece.0) (text_pieces z)

use Rattle.std.proofs.Common.{Ok, Err, map}
use Rattle.sql_lexer.specs.Lex as lex
use Rattle.sql_parser.proofs.Grammar.{exact_statement}
use Rattle.sql_parser.proofs.ParseLaws as laws
use Rattle.sql_parser.proofs.Same.{parses_ok, parses_err}
use Rattle.sql_parser.proofs.parsing.parse.Goals as goal

pub returns-in-Ok-clause-exact : goal.returns-in-Ok-clause-exact
returns-in-Ok-clause-exact c =
    parses_ok c.args.text.now (lex.tokens c.args.text.now) c.in_ok-found.found.items c.in-Ok.statement c.in_ok-found.ensures.exact (rw c.deref.ensures.value at c.in-Ok.ensures)

pub returns-clause-exact : goal.returns-clause-exact
returns-clause-exact c =
    parses_err c.args.text.now (lex.tokens c.args.text.now) c.in_ok-found.found.items c.in-Err.refusal _ c.in_ok-found.ensures.exact
    (rw c.deref.ensures.value at c.in-Err.ensures) (rw c.deref-in-Err.ensures.value at c.fault.ensures.value)

pub returns-in-Ok-clause-found : goal.returns-in-Ok-clause-found
returns-in-Ok-clause-found c = laws.found exact_statement c.args.text.now (Ok c.in-Ok.statement) (returns-in-Ok-clause-exact c)

pub returns-in-Ok-clause-only : goal.returns-in-Ok-clause-only
returns-in-Ok-clause-only c = laws.only exact_statement c.args.text.now (Ok c.in-Ok.statement) (returns-in-Ok-clause-exact c)

pub returns-clause-only : goal.returns-clause-only
returns-clause-only c = laws.only exact_statement c.args.text.now (Err c.fault.result) (returns-clause-exact c)

pub returns-in-Ok-clause-late : goal.returns-in-Ok-clause-late
returns-in-Ok-clause-late c = laws.late exact_statement c.args.text.now (Ok c.in-Ok.statement) (returns-in-Ok-clause-exact c)

pub returns-clause-late : goal.returns-clause-late
returns-clause-late c = laws.late exact_statement c.args.text.now (Err c.fault.result) (returns-clause-exact c)

pub returns-in-Ok-clause-unsupported : goal.returns-in-Ok-clause-unsupported
returns-in-Ok-clause-unsupported c = laws.unsupported exact_statement c.args.text.now (Ok c.in-Ok.statement) (returns-in-Ok-clause-exact c)

pub returns-clause-unsupported : goal.returns-clause-unsupported
returns-clause-unsupported c = laws.unsupported exact_statement c.args.text.now (Err c.fault.result) (returns-clause-exact c)

pub returns-clause-refused : goal.returns-clause-refused
returns-clause-refused c = laws.refused_behind c.args.text.now (map lex.seen c.in_ok-found.found.items) c.fault.result c.in_ok-found.ensures.exact (returns-clause-exact c) c.fault.ensures.served

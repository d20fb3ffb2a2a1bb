use Rattle.std.proofs.Common.{◌≤◌, ℕ, List, length, subst, sym}
use Rattle.sql_grammar.specs.Texts.{IsStatementText}
use Rattle.db_load.proofs.SchemaTables.{refused_alone}
use Rattle.db_load.proofs.schema.statement_of.Goals as goal

pub returns-in-Err-clause-tells : goal.returns-in-Err-clause-tells
returns-in-Err-clause-tells c = λ statement it.
    (let same = sym (c.in_ok-text_in.ensures.tells it.text it.text_is) in
    c.outside.ensures.memory
    (refused_alone c.in-Err.fault statement
    (c.in-Err.ensures.only statement (subst (λ (text : List ℕ). IsStatementText text statement) same it.is) it.within (subst (λ (text : List ℕ). length text ≤ 65536) same it.short))))

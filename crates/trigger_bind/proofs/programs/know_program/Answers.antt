use Rattle.std.proofs.Common.{◌≡◌, ◌∙◌, inl, subst, sym, List}
use Rattle.sql_syntax.specs.declared.create.TriggerStatement.{TriggerStatement}
use Rattle.query_names.specs.declared.scope.ScopeSource.{ScopeSource}
use Rattle.query_bind.specs.Named.{AreOuter}
use Rattle.trigger.specs.Binding.{program_scope}
use Rattle.trigger_bind.specs.Programs.{Knows, aim_awaited, faults_within}
use Rattle.trigger_bind.proofs.Bodies.{body_faults, knows_err}
use Rattle.trigger_bind.proofs.Sources.{program_known, refused_when}
use Rattle.trigger_bind.proofs.programs.know_program.Goals as goal

pub returns-in_err-outer-clause-known : goal.returns-in_err-outer-clause-known
returns-in_err-outer-clause-known c = λ rows_at db of target.
    knows_err (faults_within 0 db c.args.definition.now) c.in_err-outer.field-0.0 c.from_residual.result c.from_residual.ensures.1 (inl (c.in_err-outer.ensures.seen rows_at db of target))

pub returns-in_err-know_when-clause-known : goal.returns-in_err-know_when-clause-known
returns-in_err-know_when-clause-known c = λ rows_at db of target.
    (let same : c.deref.result.now ≡ (program_scope db (aim_awaited c.args.definition.now)).scope = c.deref.ensures.value ∙ c.in_ok-outer.ensures.seen rows_at db of target in
    knows_err (faults_within 0 db c.args.definition.now) c.in_err-know_when.field-0.0 c.from_residual-in_err-know_when.result c.from_residual-in_err-know_when.ensures.1
    (refused_when db c.args.definition.now c.deref.result.now same c.in_err-know_when.field-0.0 (c.in_err-know_when.ensures.known (program_scope db (aim_awaited c.args.definition.now)).rows)))

pub returns-clause-known : goal.returns-clause-known
returns-clause-known c = λ rows_at db of target.
    (let seen = program_scope db (aim_awaited c.args.definition.now) in
    let same : c.deref.result.now ≡ (program_scope db (aim_awaited c.args.definition.now)).scope = c.deref.ensures.value ∙ c.in_ok-outer.ensures.seen rows_at db of target in
    let outer = subst (λ (s : List ScopeSource). AreOuter s) (sym c.deref-2.ensures.value) c.in_ok-outer.ensures.outer in
    let body = c.know_body.ensures.known rows_at db seen.rows outer of in
    program_known db c.args.definition.now c.deref.result.now same c.know_body.result (c.in_ok-know_when.ensures.known seen.rows)
    (subst (λ (ss : List TriggerStatement). Knows (body_faults db (record { scope = c.deref.result.now; rows = seen.rows }) ss) c.know_body.result) c.as_slice.ensures
    (subst (λ (s : List ScopeSource). Knows (body_faults db (record { scope = s; rows = seen.rows }) c.as_slice.result.now) c.know_body.result) (c.deref-2.ensures.value ∙ sym c.deref.ensures.value) body)))

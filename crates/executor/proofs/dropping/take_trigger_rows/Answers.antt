use Rattle.std.proofs.Common.{rules, sym, subst, ◌∙◌, ◌-◌, ℤ, List, length, take, drop, [], ◌∷◌, Ok, Err}
use Rattle.std.specs.declared.alloc.Global.{Global}
use Rattle.std.specs.declared.rc.Rc.{Rc}
use Rattle.catalog.specs.Listed.{shared}
use Rattle.catalog.specs.declared.tables.Trigger.{Trigger}
use Rattle.db_write.proofs.Looping.{first_of, none_left, since}
use Rattle.executor.specs.Listing.{TakesSchemaRows, rowids_on}
use Rattle.executor.proofs.SchemaTaking.{TakesTriggerRows, rowids_first, takes_none, takes_only, takes_then}
use Rattle.executor.proofs.dropping.take_trigger_rows.Goals as goal

pub returns-in_err-take_if_on-clause-taken : goal.returns-in_err-take_if_on-clause-taken
returns-in_err-take_if_on-clause-taken g c = λ told.
    (let pages = g.P.Pages in
    let old = c.args.pages.now in
    let mid = c.triggers.pages in
    let new = pages.map c.take_if_on.new.pages in
    let size = (pages.limits (pages.below old)).page in
    let name = c.args.name.now in
    let handle = c.trigger-item.result in
    let t = handle.value in
    let fault = c.in_err-take_if_on.field-0.0 in
    let result = c.from_residual.result in
    let does = since pages.below pages.tells pages.limits old mid (λ n. TakesSchemaRows (pages.map mid) new n (rowids_on name (t ∷ [])) (Err fault)) c.triggers.invariant.kept
    (rw (c.deref.ensures) at c.in_err-take_if_on.ensures.taken) told in
    let rest = take (length c.triggers.left.now - 1) (drop 1 c.triggers.left.now) in
    c.triggers.invariant.decides told new result
    (subst (λ (them : List (Rc Trigger Global)). TakesTriggerRows name (pages.map mid) new size them result) (first_of c.triggers.left.now handle c.in-len1-up.len_at_least c.trigger-item.is)
    (subst (λ (rowids : List ℤ). TakesSchemaRows (pages.map mid) new size rowids result) (sym (rowids_first name t (shared rest)))
    (takes_only (pages.map mid) new size (rowids_on name (t ∷ [])) (rowids_on name (shared rest)) fault result c.from_residual.ensures.1 does))))

pub triggers-preserved : goal.triggers-preserved
triggers-preserved g c =
    let pages = g.P.Pages in
    let old = c.args.pages.now in
    let mid = c.triggers.pages in
    let size = (pages.limits (pages.below old)).page in
    let name = c.args.name.now in
    let handle = c.trigger-item.result in
    let t = handle.value in
    let rest = take (length c.triggers.left.now - 1) (drop 1 c.triggers.left.now) in
    record {
      kept = c.in_ok-take_if_on.ensures.kept ∙ c.triggers.invariant.kept;
      causes = search rules;
      decides = λ told last result next.
          (let new = pages.map c.take_if_on.new.pages in
          let does = since pages.below pages.tells pages.limits old mid (λ n. TakesSchemaRows (pages.map mid) new n (rowids_on name (t ∷ [])) (Ok tt)) c.triggers.invariant.kept
          (rw (c.deref.ensures) at c.in_ok-take_if_on.ensures.taken) told in
          c.triggers.invariant.decides told last result
          (subst (λ (them : List (Rc Trigger Global)). TakesTriggerRows name (pages.map mid) last size them result) (first_of c.triggers.left.now handle c.in-len1-up.len_at_least c.trigger-item.is)
          (subst (λ (rowids : List ℤ). TakesSchemaRows (pages.map mid) last size rowids result) (sym (rowids_first name t (shared rest)))
          (takes_then (pages.map mid) new size (rowids_on name (t ∷ [])) (rowids_on name (shared rest)) last result does next))));
    }

pub returns-clause-taken : goal.returns-clause-taken
returns-clause-taken g c = λ told.
    (let pages = g.P.Pages in
    let old = c.args.pages.now in
    let now = pages.map c.triggers.pages in
    let size = (pages.limits (pages.below old)).page in
    c.triggers.invariant.decides told now (Ok tt)
    (subst (λ (them : List (Rc Trigger Global)). TakesTriggerRows c.args.name.now now now size them (Ok tt)) (none_left c.triggers.left.now c.in_default.len_below) (takes_none now size)))

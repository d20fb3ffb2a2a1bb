use Rattle.std.proofs.Common.{◌≡◌, ◌∙◌, sym, ap, subst, ◌+◌, suc, arith}
use Rattle.std.proofs.lemmas.List.{length-map}
use Rattle.std.specs.declared.alloc.Global.{Global}
use Rattle.std.specs.declared.rc.Rc.{Rc}
use Rattle.catalog.specs.Listed.{shared}
use Rattle.catalog.specs.declared.tables.Trigger.{Trigger}
use Rattle.trigger_bind.specs.Choosing.{is_set_off_by}
use Rattle.trigger_bind.specs.Needs.{Notes}
use Rattle.trigger_bind.specs.declared.needs.Needs.{Needs}
use Rattle.trigger_bind.proofs.Noting.{IsBefore, before_all, one_chosen, one_passed, shared_at}
use Rattle.trigger_bind.proofs.needs.note_set_off.Goals as goal
use Rattle.trigger_bind.proofs.needs.note_set_off.Goals.{then-is_set_off_by+in_ok-note, else-is_set_off_by}

pub triggers-preserved : goal.triggers-preserved
triggers-preserved c =
    let next : c.triggers.place + 1 ≡ suc c.triggers.place = omega arith in
    let at = shared_at c.args.triggers.now c.triggers.place c.index-triggers-place.result c.triggers-test.true c.index-triggers-place.is in
    let so = c.is_set_off_by.ensures ∙ ap (λ (t : Trigger). is_set_off_by c.args.change.now t) c.deref.ensures in
    elim c.if-is_set_off_by.branch [
      | then-is_set_off_by+in_ok-note w ↦ subst (λ (needs : Needs). Notes (IsBefore (shared c.args.triggers.now) (is_set_off_by c.args.change.now) (c.triggers.place + 1)) c.args.needs.now needs) (sym w.needs-is)
          (one_chosen (shared c.args.triggers.now) (is_set_off_by c.args.change.now) c.triggers.place c.index-triggers-place.result.value at (c.triggers.place + 1) next c.args.needs.now c.triggers.needs w.note.new.needs
          (sym so ∙ w.if-is_set_off_by.true) c.triggers.invariant w.in_ok-note.ensures.noted)
      | else-is_set_off_by w ↦ subst (λ (needs : Needs). Notes (IsBefore (shared c.args.triggers.now) (is_set_off_by c.args.change.now) (c.triggers.place + 1)) c.args.needs.now needs) (sym w.needs-is)
          (one_passed (shared c.args.triggers.now) (is_set_off_by c.args.change.now) c.triggers.place c.index-triggers-place.result.value at (c.triggers.place + 1) next c.args.needs.now c.triggers.needs
          (sym so ∙ w.if-is_set_off_by.false) c.triggers.invariant)
    ]

pub returns-clause-noted : goal.returns-clause-noted
returns-clause-noted c =
    let many = length-map c.args.triggers.now (λ (h : Rc Trigger Global). h.value) in
    let end = c.triggers-test.false in
    before_all (shared c.args.triggers.now) (is_set_off_by c.args.change.now) c.triggers.place c.args.needs.now c.triggers.needs (omega (arith, many, end)) c.triggers.invariant

use Rattle.std.proofs.Common.{◌≡◌, ◌∙◌, sym, ap, subst, ◌<◌, ℕ, length, slice_index_or, Some, List, arith}
use Rattle.std.proofs.lemmas.List.{length-map}
use Rattle.std.specs.Prelude.{OnOk, slice_get}
use Rattle.std.specs.declared.alloc.Global.{Global}
use Rattle.std.specs.declared.rc.Rc.{Rc}
use Rattle.catalog.specs.Listed.{listed_in, shared, triggers_in}
use Rattle.catalog.specs.declared.tables.Trigger.{Trigger}
use Rattle.trigger_bind.specs.Choosing.{sets_off_within}
use Rattle.trigger_bind.specs.Needs.{NotesThose}
use Rattle.trigger_bind.specs.Programs.{KnowsItself}
use Rattle.trigger_bind.proofs.Among.{one_there}
use Rattle.trigger_bind.proofs.Noting.{shared_at}
use Rattle.trigger_bind.proofs.programs.know_place.Goals as goal

-- the trigger at the place is the one that is looked at
is_there : (hs : List (Rc Trigger Global)) (ts : List Trigger) (i : ℕ) (h : Rc Trigger Global) (u t : Trigger) → shared hs ≡ ts → i < length ts → h ≡ slice_index_or hs i h → u ≡ h.value → slice_get ts i ≡ Some t → u ≡ t
is_there hs ts i h u t same lt is value at =
    let many = length-map hs (λ (h : Rc Trigger Global). h.value) in
    let all = ap length same in
    value ∙ one_there ts i h.value t (ap (λ (xs : List Trigger). slice_get xs i) (sym same) ∙ shared_at hs i h (omega (arith, many, all, lt)) is) at

pub returns-clause-known : goal.returns-clause-known
returns-clause-known c = λ t at.
    subst (λ (u : Trigger). KnowsItself (listed_in c.args.catalog.now) u.definition c.know_program.result)
    (is_there c.triggers.result.now (triggers_in c.args.catalog.now) c.args.place c.index-triggers-place.result c.deref-trigger.result.now t c.triggers.ensures c.requires.within c.index-triggers-place.is c.deref-trigger.ensures at)
    c.know_program.ensures.known

pub returns-clause-noted : goal.returns-clause-noted
returns-clause-noted c = λ t at.
    subst (λ (u : Trigger). OnOk c.know_program.result (NotesThose (triggers_in c.args.catalog.now) (sets_off_within u.definition.body) c.args.needs.now c.know_program.new.needs))
    (is_there c.triggers.result.now (triggers_in c.args.catalog.now) c.args.place c.index-triggers-place.result c.deref-trigger.result.now t c.triggers.ensures c.requires.within c.index-triggers-place.is c.deref-trigger.ensures at)
    c.know_program.ensures.noted

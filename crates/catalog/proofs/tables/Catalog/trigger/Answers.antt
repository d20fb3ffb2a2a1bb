use Rattle.std.proofs.Common.{◌∙◌, ap, List}
use Rattle.std.specs.declared.alloc.Global.{Global}
use Rattle.std.specs.declared.rc.Rc.{Rc}
use Rattle.std.specs.Prelude.{Some, option_map}
use Rattle.catalog.specs.Listed.{is_trigger, shared, trigger_named}
use Rattle.catalog.specs.declared.tables.Trigger.{Trigger}
use Rattle.catalog.proofs.Sharing.{handle_value, shared_found}
use Rattle.catalog.proofs.tables.Catalog.trigger.Goals as goal

pub returns-in-Some : goal.returns-in-Some
returns-in-Some c =
    ap Some c.deref.ensures ∙ ap (option_map handle_value) c.in-Some.ensures ∙ shared_found (is_trigger c.args.name.now) c.as_slice.result.now
    ∙ ap (λ (handles : List (Rc Trigger Global)). trigger_named c.args.name.now (shared handles)) c.as_slice.ensures.value

pub returns-in-None : goal.returns-in-None
returns-in-None c =
    ap (option_map handle_value) c.in-None.ensures ∙ shared_found (is_trigger c.args.name.now) c.as_slice.result.now
    ∙ ap (λ (handles : List (Rc Trigger Global)). trigger_named c.args.name.now (shared handles)) c.as_slice.ensures.value

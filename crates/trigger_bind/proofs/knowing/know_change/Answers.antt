use Rattle.std.proofs.Common.{◌≡◌, ◌⊎◌, ◌∙◌, inl, inr, sym, ap, zero, [], length, List, subst}
use Rattle.std.proofs.lemmas.List.{length-map}
use Rattle.std.specs.declared.alloc.Global.{Global}
use Rattle.std.specs.declared.rc.Rc.{Rc}
use Rattle.sqlval.specs.Refusals.{Refusal, refusal_of}
use Rattle.sqlval.specs.declared.fault.Fault.{Fault}
use Rattle.sqlval.specs.declared.fault.Fault.TheVariants.{Memory}
use Rattle.sql_syntax.specs.declared.change.Change.{Change}
use Rattle.catalog.specs.Database.{Database}
use Rattle.catalog.specs.Listed.{listed_in}
use Rattle.catalog.specs.declared.tables.Trigger.{Trigger}
use Rattle.query_names.specs.Bound.{IsFaultOf}
use Rattle.query_names.specs.Checked.{faults}
use Rattle.trigger_bind.specs.Choosing.{is_set_off_by}
use Rattle.trigger_bind.specs.Needs.{NotesThose}
use Rattle.row_change.specs.Changes.{no_outer}
use Rattle.trigger.specs.Binding.{IsFault, faults_after}
use Rattle.trigger_bind.proofs.Bodies.{matched}
use Rattle.trigger_bind.proofs.Queue.{begins, none_refused, place_within, refused_there, stepped}
use Rattle.trigger_bind.proofs.knowing.know_change.Goals as goal

of_first : (db : Database) (change : Change) (fault : Fault) → IsFaultOf (faults_after 0 db no_outer change) fault → (fault ≡ Memory) ⊎ IsFault db change (refusal_of fault)
of_first db change fault (inl memory) = inl memory
of_first db change fault (inr is) = inr (zero, is)

pub returns-in_err-bound-clause-known : goal.returns-in_err-bound-clause-known
returns-in_err-bound-clause-known c = λ rows_at db of.
    matched ((r : Refusal) → IsFault db c.args.change.now r → ⊥) (λ fault. (fault ≡ Memory) ⊎ IsFault db c.args.change.now (refusal_of fault)) c.in_err-bound.field-0.0
    c.from_residual.result c.from_residual.ensures.1 (of_first db c.args.change.now c.in_err-bound.field-0.0 (c.in_err-bound.ensures.named rows_at db [] tt of))

pub queue-init : goal.queue-init
queue-init c = (
  begins (listed_in c.args.catalog.now) c.args.change.now c.in_ok-needs.needs c.note_set_off.new.needs
      (c.in_ok-needs.ensures.nothing.0 ∙ (sym (length-map c.triggers-triggers.result.now (λ (h : Rc Trigger Global). h.value)) ∙ ap length c.triggers-triggers.ensures)) c.in_ok-needs.ensures.nothing.1 c.in_ok-needs.ensures.nothing.2
      (subst (λ (ts : List Trigger). NotesThose ts (is_set_off_by c.args.change.now) c.in_ok-needs.needs c.note_set_off.new.needs) c.triggers-triggers.ensures c.in_ok-note_set_off.ensures.noted)
      (λ rows_at db of. ap faults (c.in_ok-bound.ensures.named rows_at db [] tt of)),
  record { named = λ rows_at db rows of. c.in_ok-bound.ensures.named rows_at db rows tt of; counted = c.in_ok-bound.ensures.counted },
)

pub know_place-requires-clause-within : goal.know_place-requires-clause-within
know_place-requires-clause-within c =
    place_within (listed_in c.args.catalog.now) c.args.change.now c.queue.needs c.next_needed.new.needs c.next_needed.new.needs c.in-Some.place c.queue.invariant.0 c.in-Some.ensures.needed
    (c.next_needed.ensures.taken c.in-Some.place c.in-Some.is)

pub queue-smaller : goal.queue-smaller
queue-smaller c =
    (stepped (listed_in c.args.catalog.now) c.args.change.now c.queue.needs c.next_needed.new.needs c.know_place.new.needs c.in-Some.place c.queue.invariant.0 c.in-Some.ensures.needed
    (c.next_needed.ensures.taken c.in-Some.place c.in-Some.is) c.in_ok-know_place.ensures.noted c.in_ok-know_place.ensures.known).1

pub queue-preserved : goal.queue-preserved
queue-preserved c = (
  (stepped (listed_in c.args.catalog.now) c.args.change.now c.queue.needs c.next_needed.new.needs c.know_place.new.needs c.in-Some.place c.queue.invariant.0 c.in-Some.ensures.needed
      (c.next_needed.ensures.taken c.in-Some.place c.in-Some.is) c.in_ok-know_place.ensures.noted c.in_ok-know_place.ensures.known).0,
  c.queue.invariant.1,
)

pub returns-in_err-know_place-clause-known : goal.returns-in_err-know_place-clause-known
returns-in_err-know_place-clause-known c = λ rows_at db of.
    matched ((r : Refusal) → IsFault db c.args.change.now r → ⊥) (λ fault. (fault ≡ Memory) ⊎ IsFault db c.args.change.now (refusal_of fault)) c.in_err-know_place.field-0.0
    c.from_residual-in_err-know_place.result c.from_residual-in_err-know_place.ensures.1
    (refused_there (listed_in c.args.catalog.now) c.args.change.now c.queue.needs c.next_needed.new.needs c.know_place.new.needs c.in-Some.place c.queue.invariant.0 c.in-Some.ensures.needed
    (c.next_needed.ensures.taken c.in-Some.place c.in-Some.is) c.in_err-know_place.field-0.0 c.in_err-know_place.ensures.known rows_at db of)

pub returns-clause-known : goal.returns-clause-known
returns-clause-known c = λ rows_at db of r fault.
    none_refused (listed_in c.args.catalog.now) c.args.change.now c.queue.needs c.queue.invariant.0 (c.next_needed.ensures.nothing c.in_default.is).0 rows_at db of r fault

pub returns-clause-named : goal.returns-clause-named
returns-clause-named c = c.queue.invariant.1

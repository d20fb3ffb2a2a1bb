use Rattle.std.proofs.Common.{◌∙◌, ap, set, map, get_or, arith, None, Some, option_map}
use Rattle.kinolavust_c.proofs.Placing.{set_at}
use Rattle.kinolavust_c.proofs.slots.Slots.keep.Goals as goal

pub returns-then-slot-len-clause-kept : goal.returns-then-slot-len-clause-kept
returns-then-slot-len-clause-kept c =
    let slot = c.first_free-slot.result in
    let items = c.args.self.now.slots.items in (
      c.first_free-slot.ensures.free,
      (λ other.
          ap (λ kept. get_or (map (option_map (λ it. it.value)) (set items slot kept)) other None) c.replace.ensures.after
          ∙ set_at (option_map (λ kept. kept.value)) items slot (Some c.args.statement) None other (omega (arith, c.if-slot-len.true, c.len.ensures))),
    )

use Rattle.std.proofs.Common.{◌∙◌, ap, set, map, get_or, arith, None, option_map}
use Rattle.kinolavust_c.proofs.Placing.{set_at}
use Rattle.kinolavust_c.proofs.slots.Slots.finish.Goals as goal

pub returns-clause-free : goal.returns-clause-free
returns-clause-free c other =
    let items = c.args.self.now.slots.items in
    ap (λ kept. get_or (map (option_map (λ it. it.value)) (set items c.args.slot kept)) other None) c.replace-kept.ensures.after
    ∙ set_at (option_map (λ kept. kept.value)) items c.args.slot None None other (omega (arith, c.if-len-slot.false, c.len.ensures))

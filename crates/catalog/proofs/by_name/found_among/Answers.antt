use Rattle.std.proofs.Common.{◌∙◌, ap, rules, sym, Some}
use Rattle.catalog.proofs.RisingNames.{found_is, none_is}
use Rattle.catalog.proofs.by_name.found_among.Goals as goal

pub returns-in-Ok : goal.returns-in-Ok
returns-in-Ok c = λ rise.
    (let d = c.index-by_name-place.result in
    ap Some (search rules) ∙ sym (found_is c.args.name.now c.args.by_name.now c.in-Ok.place d rise (search rules) (c.in-Ok.ensures.found d)))

pub returns-in-Err : goal.returns-in-Err
returns-in-Err c = λ rise. sym (none_is c.args.name.now c.args.by_name.now c.in-Err.field-0 (c.in-Err.ensures.gap rise))

use Rattle.std.proofs.Common.{◌≡◌, ◌∙◌, length, ap, arith, refl}
use Rattle.tree_check.proofs.Links.{large_size, link_refused}
use Rattle.pages.specs.Map.{page_at}
use Rattle.tree_check.proofs.chains.check_link.Goals as goal

pub returns-in_err-mark-clause-checked : goal.returns-in_err-mark-clause-checked
returns-in_err-mark-clause-checked g c = λ map size told can.
    link_refused map size c.args.page _ _ c.in_err-mark.field-0.0 c.from_residual.result c.from_residual.ensures.1
    (λ has free. c.in_err-mark.ensures.checked map can.long c.args.page (record { is = refl; has = has }) free)

pub returns-in_default-clause-checked : goal.returns-in_default-clause-checked
returns-in_default-clause-checked g c = λ map size told can has behind free.
    (let read : c.loaded.result.now ≡ page_at map c.args.page = c.loaded.ensures ∙ (c.in_ok-load.ensures.bytes told.told ∙ ap (λ m. page_at m c.args.page) told.map_is) in
    let long = ap length read ∙ can.whole c.args.page has in
    let large = (large_size size can.sized).0 in
    absurd (c.in_default.ensures.only (omega (arith, long, large))))

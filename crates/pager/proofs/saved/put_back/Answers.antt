use Rattle.std.proofs.Common.{◌∙◌, sym}
use Rattle.pager.proofs.Placing.{set_swaps, stamps_missing, stamps_set, swapped_missing}
use Rattle.pager.proofs.saved.put_back.Goals as goal

pub returns-in-Ok-clause-pages : goal.returns-in-Ok-clause-pages
returns-in-Ok-clause-pages c = c.replace.ensures.items ∙ set_swaps 0 c.args.pages.now.items c.in-Ok.index c.args.page c.requires.rises c.in-Ok.ensures.found

pub returns-in-Ok-clause-stamps : goal.returns-in-Ok-clause-stamps
returns-in-Ok-clause-stamps c = c.replace-in-Ok.ensures.items ∙ stamps_set 0 c.args.pages.now.items c.args.stamps.now.items c.args.page.number c.args.stamp c.in-Ok.index c.requires.rises c.requires.even c.in-Ok.ensures.found

pub returns-in_default-clause-pages : goal.returns-in_default-clause-pages
returns-in_default-clause-pages c = sym (swapped_missing c.args.pages.now.items c.args.page c.place_of.result c.requires.rises (c.place_of.ensures.gap c.requires.rises) c.in_default.not-Ok)

pub returns-in_default-clause-stamps : goal.returns-in_default-clause-stamps
returns-in_default-clause-stamps c = sym (stamps_missing c.args.pages.now.items c.args.stamps.now.items c.args.page.number c.args.stamp c.place_of.result c.requires.rises c.requires.even (c.place_of.ensures.gap c.requires.rises) c.in_default.not-Ok)

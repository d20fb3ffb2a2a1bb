use Rattle.std.proofs.Common.{rules}
use Rattle.std.proofs.lemmas.Cmp.{nat_list_cmp_total, on_total}
use Rattle.std.specs.declared.alloc.Global.{Global}
use Rattle.std.specs.declared.rc.Rc.{Rc}
use Rattle.sqlval.specs.Names.{folded}
use Rattle.sqlval.proofs.StableSorts.{sort_by_is}
use Rattle.catalog.specs.declared.tables.Trigger.{Trigger}
use Rattle.trigger_bind.specs.Choosing.{by_name}
use Rattle.trigger_bind.proofs.choosing.sort_by_name.Goals as goal

pub returns-clause-sorted : goal.returns-clause-sorted
returns-clause-sorted c =
    sort_by_is (λ (a b : Rc Trigger Global). by_name a.value b.value) c.args.triggers.now.items c.sort_by.new.self.items
    (on_total (λ (h : Rc Trigger Global). folded h.value.definition.name) nat_list_cmp_total) c.in_ok-sort_by.ensures.sorted c.in_ok-sort_by.ensures.stable (λ a r q k. search rules)

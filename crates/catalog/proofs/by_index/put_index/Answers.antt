use Rattle.std.proofs.Common.{◌≡◌, rules, sym, subst}
use Rattle.catalog.specs.ByIndex.{AreMore, index_name}
use Rattle.catalog.specs.ByName.{IsGapOfName, RiseBy, in_handles}
use Rattle.catalog.proofs.RisingIndexes.{one_more}
use Rattle.catalog.proofs.by_index.put_index.Goals as goal

pub returns-in_ok-insert-in-Err-clause-new : goal.returns-in_ok-insert-in-Err-clause-new
returns-in_ok-insert-in-Err-clause-new c = λ is_new.
    (let handle = c.args.handle.value in
    let name : c.name.result.now ≡ index_name handle = search rules in
    let is = subst (λ n. RiseBy index_name (in_handles c.as_slice.result.now) → IsGapOfName index_name n c.as_slice.result.now c.in-Err.place) name c.in-Err.ensures.gap in
    subst (λ handles. AreMore (λ test. test handle.table.value (index_name handle)) (in_handles c.args.handles.now.items) (in_handles handles)) (sym c.in_ok-insert-in-Err.ensures.items)
    (one_more c.args.handles.now.items c.in-Err.place c.args.handle
    (subst (λ handles. RiseBy index_name (in_handles handles) → IsGapOfName index_name (index_name handle) handles c.in-Err.place) c.as_slice.ensures.value is)))

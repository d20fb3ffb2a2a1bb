use Rattle.std.proofs.Common.{◌≡◌, rules, sym, subst}
use Rattle.std.specs.Prelude.{IsTrue}
use Rattle.std.specs.List.{insert}
use Rattle.catalog.specs.ByIndex.{AreIndexesByName}
use Rattle.catalog.specs.ByName.{AreByName, in_handles}
use Rattle.catalog.proofs.RisingIndexes.{more_by_index}
use Rattle.catalog.proofs.by_name.Tables.put.Goals as goal
use Rattle.catalog.proofs.by_name.Tables.put.Goals.{then-was_by_name, else-was_by_name, then-are_new, else-are_new}

pub invariant_of-self-2 : goal.invariant_of-self-2
invariant_of-self-2 c =
    let tables = in_handles c.self.inside.listed.items in
    let by_name = in_handles c.put_by_name.new.by_name.items in
    let before = in_handles c.self.inside.indexes.items in
    let indexes = in_handles c.put_indexes.new.handles.items in
    let twin : c.in_ok-twin.twin.value ≡ c.args.table.value = search rules in
    elim c.if-was_by_name.branch [
      | then-was_by_name w ↦ (elim c.if-are_new.branch [
        | then-are_new v ↦ λ all.
            (let both : AreByName tables (in_handles c.self.inside.by_name.items) × AreIndexesByName tables before = search rules in
            let is_new : IsTrue c.in_ok-is_new.is_new = search rules in
            let are_new : IsTrue c.in_ok-are_new.are_new = search rules in (
              subst (λ ts. AreByName ts by_name) (sym c.in_ok-put_at.ensures.added)
                  (subst (λ t. AreByName (insert tables c.args.place t) by_name) twin (c.in_ok-is_new.ensures.new is_new tables c.args.place both.0)),
              subst (λ ts. AreIndexesByName ts indexes) (sym c.in_ok-put_at.ensures.added)
                  (more_by_index tables c.args.place c.args.table.value before indexes both.1 (c.in_ok-are_new.ensures.new are_new)),
            ))
        | else-are_new v ↦ λ all. search rules
      ])
      | else-was_by_name w ↦ (elim c.if-are_new.branch [
        | then-are_new v ↦ λ all. search rules
        | else-are_new v ↦ λ all. search rules
      ])
    ]

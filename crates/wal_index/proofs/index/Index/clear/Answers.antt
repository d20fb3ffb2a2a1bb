use Rattle.std.proofs.Common.{◌-◌, arith, ◌∙◌}
use Rattle.std.proofs.lemmas.List.{length-set}
use Rattle.wal_index.proofs.Lists.{rising_emptied, emptied_more}
use Rattle.wal_index.proofs.Rooms.{room_kept}
use Rattle.wal_index.proofs.index.Index.clear.Goals as goal

pub invariant_of-self : goal.invariant_of-self
invariant_of-self c = record {
  rising = rising_emptied c.lists.self.lists.items c.lists.i c.clear.new.self (omega (arith, c.lists-test.true, c.lists.auto.i-end, c.len-i-end.ensures, c.lists.invariant.count)) c.clear.ensures.items c.lists.self.rising;
}

pub lists-preserved : goal.lists-preserved
lists-preserved c = record {
  none = emptied_more c.lists.self.lists.items c.lists.i c.clear.new.self (omega (arith, c.lists-test.true, c.lists.auto.i-end, c.len-i-end.ensures, c.lists.invariant.count)) c.clear.ensures.items c.lists.invariant.none;
  kept = λ p. omega (arith, c.lists.invariant.kept p, room_kept c.lists.self.lists.items c.lists.i c.clear.new.self c.index_mut.result.now (omega (arith, c.lists-test.true, c.lists.auto.i-end, c.len-i-end.ensures, c.lists.invariant.count)) c.index_mut.ensures.value (omega (arith, c.clear.ensures.len, c.clear.ensures.capacity)) (p - 1));
  count = length-set c.lists.self.lists.items c.lists.i c.clear.new.self ∙ c.lists.invariant.count;
}

use Rattle.std.proofs.Common.{◌-◌, ◌∙◌, ap, arith}
use Rattle.std.specs.Prelude.{is_ok}
use Rattle.std.proofs.lemmas.Result.{on_ok_weaker}
use Rattle.wal_index.proofs.Lists.{same_list, maybe_pushed, rising_same}
use Rattle.wal_index.proofs.Rooms.{room_at, room_pushed, room_changed, room_kept}
use Rattle.wal_index.proofs.index.Index.reserve.Goals as goal

pub invariant_of-self : goal.invariant_of-self
invariant_of-self c = record {
  rising = rising_same c.lists.self.lists.items c.push.new.self.items (maybe_pushed c.lists.self.lists.items c.push.new.self.items c.new.result (is_ok c.push.result) c.new.ensures.items c.push.ensures.items) c.lists.self.rising;
}

pub lists-preserved : goal.lists-preserved
lists-preserved c = record {
  same = λ p. maybe_pushed c.lists.self.lists.items c.push.new.self.items c.new.result (is_ok c.push.result) c.new.ensures.items c.push.ensures.items (p - 1) ∙ c.lists.invariant.same p;
  kept = λ p. omega (arith, c.lists.invariant.kept p, room_pushed c.lists.self.lists.items c.new.result (p - 1), ap (λ rows. room_at rows (p - 1)) c.in_ok-push.ensures.items);
  few = λ h. omega (arith, c.lists-test.true, c.len.ensures, c.in_ok-push.ensures.len);
}

pub invariant_of-self-2 : goal.invariant_of-self-2
invariant_of-self-2 c = record {
  rising = rising_same c.lists.self.lists.items _
      (same_list c.lists.self.lists.items (c.args.page - 1) c.reserve.new.self c.index_mut.result.now (omega (arith, c.lists-test.false, c.len.ensures)) c.index_mut.ensures.value c.reserve.ensures.items) c.lists.self.rising;
}

pub returns-clause-same : goal.returns-clause-same
returns-clause-same c p =
    same_list c.lists.self.lists.items (c.args.page - 1) c.reserve.new.self c.index_mut.result.now (omega (arith, c.lists-test.false, c.len.ensures)) c.index_mut.ensures.value c.reserve.ensures.items (p - 1)
    ∙ c.lists.invariant.same p

pub returns-clause-kept : goal.returns-clause-kept
returns-clause-kept c p =
    omega (arith, c.lists.invariant.kept p, room_kept c.lists.self.lists.items (c.args.page - 1) c.reserve.new.self c.index_mut.result.now (omega (arith, c.lists-test.false, c.len.ensures)) c.index_mut.ensures.value (omega (arith, c.reserve.ensures.len, c.reserve.ensures.capacity)) (p - 1))

pub returns-clause-room : goal.returns-clause-room
returns-clause-room c =
    on_ok_weaker c.reserve.result (λ room number. omega (arith, room, c.reserve.ensures.len, room_changed c.lists.self.lists.items (c.args.page - 1) c.reserve.new.self (omega (arith, c.lists-test.false, c.len.ensures)))) c.reserve.ensures.ok

use Rattle.std.proofs.Common.{inl, inr, ◌-◌, ◌∙◌, ◌<◌, length, sym, subst, arith}
use Rattle.std.specs.Prelude.{is_ok}
use Rattle.wal_index.specs.Rows.{IsRising, AreUpTo}
use Rattle.wal_index.proofs.Lists.{list_read, pushed_list, pushed_in, rising_added}
use Rattle.wal_index.proofs.Rooms.{room_elsewhere, room_was}
use Rattle.wal_index.proofs.HasFrames.{has_last}
use Rattle.wal_index.proofs.index.Index.add.Goals as goal

pub are_up_to-requires : goal.are_up_to-requires
are_up_to-requires c =
    let read = list_read c.args.self.now.lists.items (c.args.page - 1) c.index.result.now (omega (arith, c.if-page-len.false, c.if-page-eq0.false, c.len.ensures)) c.index.ensures in
    subst IsRising (sym (c.deref.ensures.value ∙ read)) (c.args.self.now.rising (c.args.page - 1))

pub invariant_of-self : goal.invariant_of-self
invariant_of-self c =
    let lt : c.args.page - 1 < length c.args.self.now.lists.items = omega (arith, c.if-page-len.false, c.if-page-eq0.false, c.len.ensures) in
    let read = list_read c.args.self.now.lists.items (c.args.page - 1) c.index.result.now lt c.index.ensures in
    record {
      rising = rising_added c.args.self.now.lists.items (c.args.page - 1) c.push.new.self c.index_mut.result.now c.args.frame (is_ok c.push.result) lt c.index_mut.ensures.value c.push.ensures.items
          (subst (AreUpTo c.args.frame) (c.deref.ensures.value ∙ read) (c.are_up_to.ensures.yes c.if-are_up_to.true)) c.args.self.now.rising;
    }

pub returns-then-are_up_to-clause-frames : goal.returns-then-are_up_to-clause-frames
returns-then-are_up_to-clause-frames c p known =
    elim (pushed_list c.args.self.now.lists.items (c.args.page - 1) c.push.new.self c.index_mut.result.now c.args.frame _ (omega (arith, c.if-page-len.false, c.if-page-eq0.false, c.len.ensures)) c.index_mut.ensures.value c.push.ensures.items (p - 1)) [
      | inl same ↦ inl same
      | inr more ↦ inr (omega (arith, more.0, known, c.if-page-eq0.false), more.1)
    ]

pub returns-then-are_up_to-clause-added : goal.returns-then-are_up_to-clause-added
returns-then-are_up_to-clause-added c known room up_to =
    let lt : c.args.page - 1 < length c.args.self.now.lists.items = omega (arith, c.if-page-len.false, c.if-page-eq0.false, c.len.ensures) in
    has_last _ c.args.page c.args.frame c.index_mut.result.now.items
    (pushed_in c.args.self.now.lists.items (c.args.page - 1) c.push.new.self c.index_mut.result.now c.args.frame (is_ok c.push.result) lt c.push.ensures.items
    (c.push.ensures.succeeds (omega (arith, room, room_was c.args.self.now.lists.items (c.args.page - 1) c.index_mut.result.now lt c.index_mut.ensures.value))))

pub returns-then-are_up_to-clause-kept : goal.returns-then-are_up_to-clause-kept
returns-then-are_up_to-clause-kept c p known other =
    omega (arith, room_elsewhere c.args.self.now.lists.items (c.args.page - 1) c.push.new.self (p - 1) (λ same. other (omega (arith, same, known, c.if-page-eq0.false))))

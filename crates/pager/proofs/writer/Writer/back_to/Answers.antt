use Rattle.std.proofs.Common.{◌≡◌, ◌<◌, length, refl, subst, rules, arith}
use Rattle.std.specs.Prelude.{slice_index_or}
use Rattle.pager.proofs.Sparing.{room_taken}
use Rattle.pager.proofs.Undoing.{kept_taken, mark_within, saved_below, states_length, states_taken}
use Rattle.pager.proofs.writer.Writer.back_to.Goals as goal

pub invariant_of-self : goal.invariant_of-self
invariant_of-self c = record {
  kept = kept_taken _ _ _ _ _ _ _ c.args.self.now.kept c.truncate.ensures.items;
  room = room_taken _ _ _ _ _ _ _ _ _ _ c.args.self.now.kept c.args.self.now.room c.truncate.ensures.items (omega arith) refl;
}

pub changes-init : goal.changes-init
changes-init c =
    let lt : c.args.mark < length c.args.self.now.marks.items = subst (λ n. c.args.mark < n) (states_length c.args.self.now.saved.items c.args.self.now.pages.items c.args.self.now.marks.items) c.requires in
    let is : c.index.result.now ≡ slice_index_or c.args.self.now.marks.items c.args.mark c.index.result.now = search rules in
    record {
      same = c.truncate.ensures.items;
      all = states_taken _ _ _ _ _ c.truncate.ensures.items;
      stands = record { page_size = refl; snapshot = refl };
      within = mark_within _ _ _ _ c.args.self.now.marks.items c.args.mark c.index.result.now lt is c.args.self.now.kept;
    }

pub undo-requires-clause-below : goal.undo-requires-clause-below
undo-requires-clause-below c =
    let lt : c.args.mark < length c.args.self.now.marks.items = subst (λ n. c.args.mark < n) (states_length c.args.self.now.saved.items c.args.self.now.pages.items c.args.self.now.marks.items) c.requires in
    let is : c.index.result.now ≡ slice_index_or c.args.self.now.marks.items c.args.mark c.index.result.now = search rules in
    let more : c.index.result.now.saved < length c.changes.self.saved.items = search rules in
    saved_below _ _ _ _ _ c.args.self.now.marks.items _ c.args.mark c.index.result.now lt is c.args.self.now.kept c.changes.invariant.same more

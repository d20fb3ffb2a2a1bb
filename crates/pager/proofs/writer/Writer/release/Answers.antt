use Rattle.std.proofs.Common.{◌≡◌, ◌+◌, [], ◌<◌, ◌++◌, ◌∙◌, ap, ◌≤◌, length, take, drop, subst, sym, rules}
use Rattle.std.specs.Prelude.{slice_index_or, vec_capacity}
use Rattle.pager.specs.Undo.{IsKept, needed, newest_stamp, older_than}
use Rattle.pager.proofs.Leaving.{kept_left, states_left}
use Rattle.pager.proofs.Sparing.{left_most, room_none, room_taken}
use Rattle.pager.proofs.Undoing.{kept_none, mark_within, states_length}
use Rattle.pager.proofs.writer.Writer.release.Goals as goal

pub leave_out-requires : goal.leave_out-requires
leave_out-requires c =
    let lt : c.args.mark < length c.args.self.now.marks.items = subst (λ n. c.args.mark < n) (states_length c.args.self.now.saved.items c.args.self.now.pages.items c.args.self.now.marks.items) c.requires in
    let is : c.index.result.now ≡ slice_index_or c.args.self.now.marks.items c.args.mark c.index.result.now = search rules in
    mark_within _ _ _ _ c.args.self.now.marks.items c.args.mark c.index.result.now lt is c.args.self.now.kept

pub invariant_of-self-2 : goal.invariant_of-self-2
invariant_of-self-2 c =
    let lt : c.args.mark < length c.args.self.now.marks.items = subst (λ n. c.args.mark < n) (states_length c.args.self.now.saved.items c.args.self.now.pages.items c.args.self.now.marks.items) c.requires in
    let is : c.index.result.now ≡ slice_index_or c.args.self.now.marks.items c.args.mark c.index.result.now = search rules in
    let limit : c.newest_stamp.result ≡ newest_stamp c.truncate.new.self.items = search rules in
    let left = c.leave_out.ensures.left ∙ ap (λ n. take c.index.result.now.saved c.args.self.now.saved.items ++ needed n (drop c.index.result.now.saved c.args.self.now.saved.items)) limit in
    record {
      kept = kept_left _ c.args.self.now.saved.items _ _ _ c.args.self.now.marks.items _ c.args.mark c.index.result.now lt is (mark_within _ _ _ _ c.args.self.now.marks.items c.args.mark c.index.result.now lt is c.args.self.now.kept) c.args.self.now.kept c.truncate.ensures.items left;
      room = room_taken _ c.args.self.now.saved.items _ _ _ c.args.self.now.marks.items _ c.args.mark _ _ c.args.self.now.kept c.args.self.now.room c.truncate.ensures.items (subst (λ fs. length fs ≤ length c.args.self.now.saved.items) (sym c.leave_out.ensures.left) (left_most c.index.result.now.saved c.newest_stamp.result c.args.self.now.saved.items)) c.leave_out.ensures.capacity;
    }

pub returns-clause-marks : goal.returns-clause-marks
returns-clause-marks c =
    let lt : c.args.mark < length c.args.self.now.marks.items = subst (λ n. c.args.mark < n) (states_length c.args.self.now.saved.items c.args.self.now.pages.items c.args.self.now.marks.items) c.requires in
    let is : c.index.result.now ≡ slice_index_or c.args.self.now.marks.items c.args.mark c.index.result.now = search rules in
    let limit : c.newest_stamp.result ≡ newest_stamp c.truncate.new.self.items = search rules in
    let left = c.leave_out.ensures.left ∙ ap (λ n. take c.index.result.now.saved c.args.self.now.saved.items ++ needed n (drop c.index.result.now.saved c.args.self.now.saved.items)) limit in
    states_left _ c.args.self.now.saved.items _ _ _ c.args.self.now.marks.items _ c.args.mark c.index.result.now lt is (mark_within _ _ _ _ c.args.self.now.marks.items c.args.mark c.index.result.now lt is c.args.self.now.kept) c.args.self.now.kept c.truncate.ensures.items left

pub invariant_of-self : goal.invariant_of-self
invariant_of-self c =
    let stamp = c.args.self.now.stamp in
    let pages = c.args.self.now.pages.items in
    let stamps = c.args.self.now.stamps.items in
    let kept = kept_none stamp c.args.self.now.saved.items pages stamps c.args.self.now.marks.items c.args.self.now.kept in
    record {
      kept = subst (λ es. IsKept stamp es pages stamps c.clear.new.self.items) (sym c.clear-then-mark-eq0.ensures.items) (subst (IsKept stamp [] pages stamps) (sym c.clear.ensures.items) kept);
      room = subst (λ es. older_than (newest_stamp c.clear.new.self.items) stamps + length es ≤ vec_capacity c.clear-then-mark-eq0.new.self) (sym c.clear-then-mark-eq0.ensures.items)
          (subst (λ ms. older_than (newest_stamp ms) stamps + 0 ≤ vec_capacity c.clear-then-mark-eq0.new.self) (sym c.clear.ensures.items) (room_none stamps (vec_capacity c.clear-then-mark-eq0.new.self)));
    }

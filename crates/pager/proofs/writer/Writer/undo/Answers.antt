use Rattle.std.proofs.Common.{◌≡◌, ◌≤◌, ◌+◌, ◌++◌, ◌∷◌, [], ◌∙◌, ap, length, refl, subst, sym, rules}
use Rattle.pager.specs.declared.saved.Saved.TheVariants.{Added, Changed, Part}
use Rattle.pager.specs.Undo.{newest_stamp, older_than, parts_over}
use Rattle.pager.proofs.Sparing.{room_undone}
use Rattle.pager.proofs.Undoing.{kept_even, kept_undone, states_undone}
use Rattle.pager.proofs.writer.Writer.undo.Goals as goal

pub put_back-requires-clause-even : goal.put_back-requires-clause-even
put_back-requires-clause-even c = kept_even _ _ _ _ _ c.args.self.now.kept

pub take_out-requires-clause-even : goal.take_out-requires-clause-even
take_out-requires-clause-even c = kept_even _ _ _ _ _ c.args.self.now.kept

pub invariant_of-self : goal.invariant_of-self
invariant_of-self c =
    let popped : c.args.self.now.saved.items ≡ c.pop.new.self.items ++ Changed c.in-Some-Changed.page c.in-Some-Changed.stamp ∷ [] = search rules in
    record {
      kept = kept_undone _ _ _ _ _ _ _ _ _ c.args.self.now.kept popped c.requires.below c.put_back.ensures.pages c.put_back.ensures.stamps;
      room = subst (λ n. older_than (newest_stamp c.args.self.now.marks.items) c.put_back.new.stamps.items + length c.pop.new.self.items ≤ n) (sym c.pop.ensures.capacity)
          (room_undone (newest_stamp c.args.self.now.marks.items) c.args.self.now.pages.items c.args.self.now.stamps.items _ _ _ (Changed c.in-Some-Changed.page c.in-Some-Changed.stamp) _ c.args.self.now.room c.args.self.now.kept.0 (kept_even _ _ _ _ _ c.args.self.now.kept) c.put_back.ensures.stamps popped);
    }

pub invariant_of-self-in-Some-Added : goal.invariant_of-self-in-Some-Added
invariant_of-self-in-Some-Added c =
    let popped : c.args.self.now.saved.items ≡ c.pop.new.self.items ++ Added c.in-Some-Added.number ∷ [] = search rules in
    record {
      kept = kept_undone _ _ _ (Added c.in-Some-Added.number) _ _ _ _ _ c.args.self.now.kept popped c.requires.below c.take_out.ensures.pages c.take_out.ensures.stamps;
      room = subst (λ n. older_than (newest_stamp c.args.self.now.marks.items) c.take_out.new.stamps.items + length c.pop.new.self.items ≤ n) (sym c.pop.ensures.capacity)
          (room_undone (newest_stamp c.args.self.now.marks.items) c.args.self.now.pages.items c.args.self.now.stamps.items _ _ _ (Added c.in-Some-Added.number) _ c.args.self.now.room c.args.self.now.kept.0 (kept_even _ _ _ _ _ c.args.self.now.kept) c.take_out.ensures.stamps popped);
    }

pub returns-in-Some-Changed-clause-marks : goal.returns-in-Some-Changed-clause-marks
returns-in-Some-Changed-clause-marks c =
    let popped : c.args.self.now.saved.items ≡ c.pop.new.self.items ++ Changed c.in-Some-Changed.page c.in-Some-Changed.stamp ∷ [] = search rules in
    states_undone _ _ _ (Changed c.in-Some-Changed.page c.in-Some-Changed.stamp) _ _ _ _ c.args.self.now.kept popped c.requires.below c.put_back.ensures.pages

pub returns-in-Some-Added-clause-marks : goal.returns-in-Some-Added-clause-marks
returns-in-Some-Added-clause-marks c =
    let popped : c.args.self.now.saved.items ≡ c.pop.new.self.items ++ Added c.in-Some-Added.number ∷ [] = search rules in
    states_undone _ _ _ (Added c.in-Some-Added.number) _ _ _ _ c.args.self.now.kept popped c.requires.below c.take_out.ensures.pages

pub invariant_of-self-in-Some-Part : goal.invariant_of-self-in-Some-Part
invariant_of-self-in-Some-Part c =
    let part = Part c.in-Some-Part.number c.in-Some-Part.offset c.in-Some-Part.bytes in
    let popped : c.args.self.now.saved.items ≡ c.pop.new.self.items ++ part ∷ [] = search rules in
    let pages = c.part_back.ensures ∙ ap (λ bytes. parts_over c.in-Some-Part.number c.in-Some-Part.offset bytes c.args.self.now.pages.items) c.as_slice.ensures.value in
    record {
      kept = kept_undone _ _ _ part _ _ _ _ _ c.args.self.now.kept popped c.requires.below pages refl;
      room = subst (λ n. older_than (newest_stamp c.args.self.now.marks.items) c.args.self.now.stamps.items + length c.pop.new.self.items ≤ n) (sym c.pop.ensures.capacity)
          (room_undone (newest_stamp c.args.self.now.marks.items) c.args.self.now.pages.items c.args.self.now.stamps.items _ _ _ part _ c.args.self.now.room c.args.self.now.kept.0 (kept_even _ _ _ _ _ c.args.self.now.kept) refl popped);
    }

pub returns-in-Some-Part-clause-marks : goal.returns-in-Some-Part-clause-marks
returns-in-Some-Part-clause-marks c =
    let part = Part c.in-Some-Part.number c.in-Some-Part.offset c.in-Some-Part.bytes in
    let popped : c.args.self.now.saved.items ≡ c.pop.new.self.items ++ part ∷ [] = search rules in
    let pages = c.part_back.ensures ∙ ap (λ bytes. parts_over c.in-Some-Part.number c.in-Some-Part.offset bytes c.args.self.now.pages.items) c.as_slice.ensures.value in
    states_undone _ _ _ part _ _ _ _ c.args.self.now.kept popped c.requires.below pages

use Rattle.std.proofs.Common.{◌≡◌, ◌≤◌, ◌+◌, ◌++◌, ◌∷◌, [], length, refl, rules, arith}
use Rattle.std.specs.Prelude.{vec_capacity}
use Rattle.std.specs.List.{insert}
use Rattle.pager.specs.declared.saved.Saved.TheVariants.{Added}
use Rattle.pager.proofs.Sparing.{newest_up_to, room_added, room_alone}
use Rattle.pager.proofs.Undoing.{kept_add, kept_alone, kept_even, no_marks, states_add}
use Rattle.pager.proofs.writer.Writer.insert_page.Goals as goal

pub insert_stamped-requires-clause-even : goal.insert_stamped-requires-clause-even
insert_stamped-requires-clause-even c = kept_even _ _ _ _ _ c.args.self.now.kept

pub insert_stamped-requires-2-clause-even : goal.insert_stamped-requires-2-clause-even
insert_stamped-requires-2-clause-even c = kept_even _ _ _ _ _ c.args.self.now.kept

pub invariant_of-self : goal.invariant_of-self
invariant_of-self c =
    let empty : length c.args.self.now.marks.items ≡ 0 = search rules in
    let none = no_marks c.args.self.now.marks.items empty in
    record {
      kept = kept_alone c.insert_stamped.result _ _ c.args.self.now.pages.items _ c.args.self.now.stamps.items _ _ c.args.index c.args.page none c.args.self.now.kept c.requires c.insert_stamped.ensures.pages c.insert_stamped.ensures.stamps c.insert_stamped.ensures.refused;
      room = room_alone _ _ _ _ _ none c.args.self.now.room;
    }

pub invariant_of-self-2 : goal.invariant_of-self-2
invariant_of-self-2 c =
    let pages : c.insert_stamped-2.new.pages.items ≡ insert c.args.self.now.pages.items c.args.index c.args.page = search rules in
    let stamps : c.insert_stamped-2.new.stamps.items ≡ insert c.args.self.now.stamps.items c.args.index c.args.self.now.stamp = search rules in
    let saved : c.push.new.self.items ≡ c.args.self.now.saved.items ++ Added c.args.page.number ∷ [] = search rules in
    let free : c.reserve.new.self.len + (c.len.result + 1) ≤ vec_capacity c.reserve.new.self = search rules in
    let pages_count = c.len.ensures.count in
    let even = kept_even _ _ _ _ _ c.args.self.now.kept in
    let same = c.reserve.ensures.len in
    let count = c.args.self.now.saved.ok.0 in
    let grows = c.push.ensures.capacity in
    record {
      kept = kept_add _ _ _ _ _ _ _ _ c.args.index c.args.page c.args.self.now.kept c.requires saved pages stamps;
      room = room_added _ _ c.args.self.now.stamps.items _ c.args.self.now.saved.items _ _ c.args.index _ (omega (arith, free, pages_count, even, same, count, grows)) (newest_up_to _ _ _ _ _ c.args.self.now.kept) stamps saved;
    }

pub returns-clause-rest : goal.returns-clause-rest
returns-clause-rest c =
    let pages : c.insert_stamped-2.new.pages.items ≡ insert c.args.self.now.pages.items c.args.index c.args.page = search rules in
    let saved : c.push.new.self.items ≡ c.args.self.now.saved.items ++ Added c.args.page.number ∷ [] = search rules in
    record {
      size = refl;
      page_size = refl;
      snapshot = refl;
      objects = refl;
      marks = states_add _ _ _ _ _ _ _ c.args.index c.args.page c.args.self.now.kept c.requires saved pages;
    }

use Rattle.std.proofs.Common.{◌≡◌, ◌<◌, ◌∙◌, ◌≤◌, ◌++◌, ◌∷◌, [], length, ap, refl, rules, subst, sym, arith}
use Rattle.std.specs.Prelude.{slice_index_or, vec_capacity}
use Rattle.pager.specs.declared.saved.Saved.TheVariants.{Changed}
use Rattle.pager.specs.Marks.{changes_at_each}
use Rattle.pager.specs.Undo.{IsKept, newest_stamp}
use Rattle.pager.proofs.Sparing.{newest_up_to, room_saved, some_room}
use Rattle.pager.proofs.Undoing.{kept_even, kept_over, kept_save, states_over, states_save}
use Rattle.pager.proofs.writer.Writer.replace.Goals as goal

pub at-stamp-requires : goal.at-stamp-requires
at-stamp-requires c =
    let even = kept_even _ _ _ _ _ c.args.self.now.kept in
    let within = c.requires.within in
    omega (arith, even, within)

pub replace-requires : goal.replace-requires
replace-requires c =
    let even = kept_even _ _ _ _ _ c.args.self.now.kept in
    let within = c.requires.within in
    omega (arith, even, within)

pub invariant_of-self : goal.invariant_of-self
invariant_of-self c =
    let stamp_is : c.at-stamp.result.now ≡ slice_index_or c.args.self.now.stamps.items c.args.index c.at-stamp.result.now = search rules in
    let older : c.at-stamp.result.now < newest_stamp c.args.self.now.marks.items = search rules in
    let within : c.args.index < length c.args.self.now.stamps.items = (let even = kept_even _ _ _ _ _ c.args.self.now.kept in let at = c.requires.within in omega (arith, even, at)) in
    let some = some_room (newest_stamp c.args.self.now.marks.items) c.args.self.now.stamps.items c.args.index c.at-stamp.result.now (length c.args.self.now.saved.items) (vec_capacity c.args.self.now.saved) c.args.self.now.room within stamp_is older in
    let free : c.args.self.now.saved.len < vec_capacity c.args.self.now.saved = omega (arith, some, c.args.self.now.saved.ok.0) in
    let saved : c.push.new.self.items ≡ c.args.self.now.saved.items ++ Changed c.replace-old.result c.at-stamp.result.now ∷ [] = (let ok = c.push.ensures.succeeds free in search rules) in
    record {
      kept = kept_save _ _ _ _ _ _ _ _ c.args.index c.at-stamp.result.now c.args.page c.replace-old.result c.args.self.now.kept c.requires c.replace-old.ensures.was stamp_is saved c.replace-old.ensures.items c.replace.ensures.items;
      room = room_saved (newest_stamp c.args.self.now.marks.items) c.args.self.now.stamp c.args.self.now.stamps.items _ c.args.self.now.saved.items _ _ c.args.index c.at-stamp.result.now _ _ c.args.self.now.room within stamp_is older (newest_up_to _ _ _ _ _ c.args.self.now.kept) c.replace.ensures.items saved c.push.ensures.capacity;
    }

pub invariant_of-self-else-stamp-newest_stamp : goal.invariant_of-self-else-stamp-newest_stamp
invariant_of-self-else-stamp-newest_stamp c = record {
  kept = subst (λ ps. IsKept c.args.self.now.stamp c.args.self.now.saved.items ps c.args.self.now.stamps.items c.args.self.now.marks.items) (sym c.replace-old.ensures.items) (kept_over _ _ _ _ _ c.args.index c.args.page c.args.self.now.kept c.requires);
  room = c.args.self.now.room;
}

pub returns-then-stamp-newest_stamp-clause-rest : goal.returns-then-stamp-newest_stamp-clause-rest
returns-then-stamp-newest_stamp-clause-rest c =
    let stamp_is : c.at-stamp.result.now ≡ slice_index_or c.args.self.now.stamps.items c.args.index c.at-stamp.result.now = search rules in
    let older : c.at-stamp.result.now < newest_stamp c.args.self.now.marks.items = search rules in
    let within : c.args.index < length c.args.self.now.stamps.items = (let even = kept_even _ _ _ _ _ c.args.self.now.kept in let at = c.requires.within in omega (arith, even, at)) in
    let some = some_room (newest_stamp c.args.self.now.marks.items) c.args.self.now.stamps.items c.args.index c.at-stamp.result.now (length c.args.self.now.saved.items) (vec_capacity c.args.self.now.saved) c.args.self.now.room within stamp_is older in
    let free : c.args.self.now.saved.len < vec_capacity c.args.self.now.saved = omega (arith, some, c.args.self.now.saved.ok.0) in
    let saved : c.push.new.self.items ≡ c.args.self.now.saved.items ++ Changed c.replace-old.result c.at-stamp.result.now ∷ [] = (let ok = c.push.ensures.succeeds free in search rules) in
    record {
      size = refl;
      page_size = refl;
      snapshot = refl;
      objects = refl;
      marks = states_save _ _ _ _ _ _ _ c.args.index c.at-stamp.result.now c.args.page c.replace-old.result c.args.self.now.kept c.requires c.replace-old.ensures.was saved c.replace-old.ensures.items;
    }

pub returns-else-stamp-newest_stamp-clause-rest : goal.returns-else-stamp-newest_stamp-clause-rest
returns-else-stamp-newest_stamp-clause-rest c =
    let stamp_is : c.at-stamp.result.now ≡ slice_index_or c.args.self.now.stamps.items c.args.index c.at-stamp.result.now = search rules in
    let young : newest_stamp c.args.self.now.marks.items ≤ c.at-stamp.result.now = search rules in
    record {
      size = refl;
      page_size = refl;
      snapshot = refl;
      objects = refl;
      marks = ap (λ ps. changes_at_each c.args.self.now.saved.items ps c.args.self.now.marks.items) c.replace-old.ensures.items ∙ states_over _ _ _ _ _ c.args.index c.at-stamp.result.now c.args.page c.args.self.now.kept c.requires stamp_is young;
    }

use Rattle.std.proofs.Common.{◌≡◌, ◌≤◌, ◌+◌, ◌++◌, ◌∷◌, [], length, refl, rules, sym, subst, arith}
use Rattle.std.specs.Prelude.{vec_capacity}
use Rattle.pager.specs.Undo.{IsKept, newest_stamp}
use Rattle.pager.proofs.Sparing.{older_most}
use Rattle.pager.proofs.Undoing.{kept_even, kept_mark}
use Rattle.pager.proofs.writer.Writer.mark.Goals as goal

pub invariant_of-self-2 : goal.invariant_of-self-2
invariant_of-self-2 c =
    let more : c.in-Some.stamp ≡ c.args.self.now.stamp + 1 = search rules in
    let long : c.reserve.new.self.len ≡ length c.args.self.now.saved.items = search rules in
    let marks : c.push.new.self.items ≡ c.args.self.now.marks.items ++ record { saved = c.reserve.new.self.len; stamp = c.in-Some.stamp; size = c.args.self.now.size; has_new_objects = c.args.self.now.has_new_objects } ∷ [] = search rules in
    let room : c.reserve.new.self.len + c.len.result ≤ vec_capacity c.reserve.new.self = search rules in
    let count = c.len.ensures.count in
    let few = older_most (newest_stamp c.push.new.self.items) c.args.self.now.stamps.items in
    let even = kept_even _ _ _ _ _ c.args.self.now.kept in
    let saved = c.reserve.new.self.ok.0 in
    record {
      kept = subst (λ es. IsKept c.in-Some.stamp es c.args.self.now.pages.items c.args.self.now.stamps.items c.push.new.self.items) (sym c.reserve.ensures.items)
          (kept_mark _ _ _ _ _ _ _ _ c.args.self.now.kept more long refl marks);
      room = omega (arith, room, count, few, even, saved);
    }

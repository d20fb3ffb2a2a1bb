use Rattle.std.proofs.Common.{◌≡◌, ◌<◌, length, rules, arith}
use Rattle.std.proofs.lemmas.Bool.{le-leb, leb-true}
use Rattle.std.specs.Prelude.{slice_index_or}
use Rattle.pager.specs.Undo.{newest_stamp}
use Rattle.pager.proofs.Undoing.{any_stamp, kept_even}
use Rattle.pager.proofs.writer.Writer.is_saved.Goals as goal

pub at-requires : goal.at-requires
at-requires c =
    let even = kept_even _ _ _ _ _ c.args.self.now.kept in
    let within = c.requires in
    omega (arith, even, within)

pub returns-clause-found : goal.returns-clause-found
returns-clause-found c is =
    let stamp_is : c.at.result.now ≡ slice_index_or c.args.self.now.stamps.items c.args.index c.at.result.now = search rules in
    let limit : c.newest_stamp.result ≡ newest_stamp c.args.self.now.marks.items = search rules in
    let within : c.args.index < length c.args.self.now.stamps.items = (let even = kept_even _ _ _ _ _ c.args.self.now.kept in let at = c.requires in omega (arith, even, at)) in
    let le = leb-true _ _ is in
    let same = any_stamp c.args.self.now.stamps.items c.args.index c.at.result.now 0 within in
    omega (arith, le, limit, stamp_is, same)

pub returns-clause-only : goal.returns-clause-only
returns-clause-only c is =
    let stamp_is : c.at.result.now ≡ slice_index_or c.args.self.now.stamps.items c.args.index c.at.result.now = search rules in
    let limit : c.newest_stamp.result ≡ newest_stamp c.args.self.now.marks.items = search rules in
    let within : c.args.index < length c.args.self.now.stamps.items = (let even = kept_even _ _ _ _ _ c.args.self.now.kept in let at = c.requires in omega (arith, even, at)) in
    let same = any_stamp c.args.self.now.stamps.items c.args.index c.at.result.now 0 within in
    le-leb _ _ (omega (arith, is, limit, stamp_is, same))

use Rattle.std.proofs.Common.{◌≡◌, ◌+◌, length, ◌∙◌, ap, sym, subst, arith}
use Rattle.std.proofs.lemmas.List.{length-map}
use Rattle.disk.specs.File.{version_at, IsLeft}
use Rattle.disk.specs.StoredVersion.{versions_of, version_of}
use Rattle.disk.specs.Picked.{picked, left_by}
use Rattle.disk.proofs.Picking.{chosen_by, picks_left}
use Rattle.disk.proofs.versions.VersionsSinceSync.left.Goals as goal

exact : (c : goal.After-bytes) → c.bytes.left.items ≡ left_by (versions_of c.args.self.now) c.args.picks.now
exact c =
    let time = c.args.self.now in
    let many : c.len.result + 1 ≡ length (versions_of time) = omega (arith, length-map time.later.items version_of, c.len.ensures) in
    let inv = c.bytes.invariant in
    let size : length c.bytes.left.items ≡ length (version_at (versions_of time) c.pick-from.result).bytes = omega (arith, inv.size, c.bytes-test.false, c.bytes.auto.at-end, ap length c.bytes_at-at-end.ensures) in
    chosen_by (versions_of time) c.args.picks.now c.bytes.left.items c.pick-from.result c.count_choices-choices.result (c.pick-from.ensures ∙ ap (picked c.args.picks.now 0) many) c.count_choices-choices.ensures.exact size (λ p lt. inv.bytes p (omega (arith, inv.size, lt)))

pub returns-clause-exact : goal.returns-clause-exact
returns-clause-exact c = exact c

pub returns-clause-left : goal.returns-clause-left
returns-clause-left c =
    let vs = versions_of c.args.self.now in
    subst (IsLeft vs) (sym (exact c)) (picks_left vs c.args.picks.now (omega arith))

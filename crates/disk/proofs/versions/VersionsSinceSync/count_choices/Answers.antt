use Rattle.std.proofs.Common.{◌≡◌, ◌+◌, length, sym, ◌∙◌, arith}
use Rattle.std.proofs.lemmas.List.{length-map}
use Rattle.disk.specs.StoredVersion.{versions_of, version_of}
use Rattle.disk.proofs.Picking.{before_next}
use Rattle.disk.proofs.versions.VersionsSinceSync.count_choices.Goals as goal

pub behind-preserved : goal.behind-preserved
behind-preserved c =
    let vs = versions_of c.args.self.now in
    let many : length vs ≡ length c.args.self.now.later.items + 1 = omega (arith, length-map c.args.self.now.later.items version_of) in
    omega (arith, c.behind.invariant, before_next vs c.behind.at (omega (arith, many, c.len-count.ensures, c.behind-test.true)) (sym c.is_cut_at.ensures ∙ c.if-is_cut_at.false))

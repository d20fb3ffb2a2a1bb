use Rattle.std.proofs.Common.{Bool, length, sym, subst, arith}
use Rattle.std.specs.Prelude.{OnOk, IfErr}
use Rattle.wal.specs.Anew.{IsStateCommitted}
use Rattle.wal.specs.LogState.{state_of}
use Rattle.wal.specs.declared.log.Snapshot.{Snapshot}
use Rattle.pager.specs.Commits.{CommitsPages, IsRefusedCommit}
use Rattle.pager.specs.Limits.{pages_of}
use Rattle.pager.specs.Pruning.{AreNew, IsPruned, Prunes}
use Rattle.pager.specs.Views.{View, changes_of, view_at}
use Rattle.pager.specs.Writers.{snapshot_of}
use Rattle.pager.proofs.NewPages.{new_again}
use Rattle.session.specs.ConnectionState.{files_of}
use Rattle.session.specs.Representation.{ShowTheSame}
use Rattle.session.proofs.NewChanges.{ends, may, mid_applies, newest_there, page, header, pruned_applies, pruned_over, unread, written_over}
use Rattle.session.proofs.Showing.{read_files}
use Rattle.session.proofs.transactions.Connections.write_changes.Goals as goal

pub returns-in_err-pruned-clause-writes : goal.returns-in_err-pruned-clause-writes
returns-in_err-pruned-clause-writes g c db was whole applies stored =
    let old = c.args.self.now in
    let w = c.args.writer.now in
    let kept = c.in_err-pruned.ensures.kept in
    let same : ShowTheSame (files_of old) c.pruned.new.log = read_files (files_of old) c.pruned.new.log applies.told kept.0 kept.1 kept.2 in
    unread old c.pruned.new.log w db was whole applies stored same c.from_residual.result c.in_err-pruned.field-0.0 c.from_residual.ensures.1
    (c.in_err-pruned.ensures.refused applies.told (omega (arith, applies.writer.newest.seen)) applies.writer.sound (newest_there (files_of old) w _ was applies.writer stored))

pub returns-in-None-clause-writes : goal.returns-in-None-clause-writes
returns-in-None-clause-writes g c db was whole applies stored =
    let old = c.args.self.now in
    let w = c.args.writer.now in
    let mid = c.pruned.new.log in
    let kept = c.in_ok-pruned.ensures.kept in
    let same : ShowTheSame (files_of old) mid = read_files (files_of old) mid applies.told kept.0 kept.1 kept.2 in
    let view = view_at (files_of old) (snapshot_of w) in
    let none : AreNew view (changes_of w) (changes_of w) =
    subst (Prunes view w) c.in-None.is (c.in_ok-pruned.ensures.pruned applies.told (omega (arith, applies.writer.newest.seen)) applies.writer.sound) in
    let own = subst (λ (v : View). AreNew v (changes_of w) (changes_of w)) (sym (same.at (snapshot_of w))) none in
    let now = mid_applies old mid w db was whole applies stored same in
    let p = page old mid w db was whole applies stored same w now own in
    let h = header old mid w db was whole applies stored same w now own in
    let m = may old mid w db was whole applies stored same w now own in
    let alone = c.is_alone-is_alone.ensures in
    ends old mid w db was whole applies stored same w now own c.commit.result c.commit.new.log c.commit.new.self c.commit.new.self
    (subst (λ (b : Bool). OnOk c.commit.result (CommitsPages mid b w p h c.commit.new.log)) alone (c.commit.ensures.commits p h m))
    (subst (λ (b : Bool). IfErr c.commit.result (IsRefusedCommit mid b w p h c.commit.new.log c.commit.new.self)) alone (c.commit.ensures.refused p h m)) c.commit.ensures.disks.db
    (subst (λ (b : Bool). IsStateCommitted b c.commit.result (state_of mid) (length (changes_of w)) (pages_of w) (state_of c.commit.new.log)) alone (c.commit.ensures.known p h m)) (c.commit.ensures.crash p h m)
    (λ r next is. written_over old mid w db was whole applies stored same r next c.commit.new.self is)

pub returns-in-Some-clause-writes : goal.returns-in-Some-clause-writes
returns-in-Some-clause-writes g c db was whole applies stored =
    let old = c.args.self.now in
    let w = c.args.writer.now in
    let v = c.in-Some.pruned in
    let mid = c.pruned.new.log in
    let kept = c.in_ok-pruned.ensures.kept in
    let same : ShowTheSame (files_of old) mid = read_files (files_of old) mid applies.told kept.0 kept.1 kept.2 in
    let view = view_at (files_of old) (snapshot_of w) in
    let pruned : IsPruned view w v = subst (Prunes view w) c.in-Some.is (c.in_ok-pruned.ensures.pruned applies.told (omega (arith, applies.writer.newest.seen)) applies.writer.sound) in
    let again : AreNew (view_at mid (snapshot_of w)) (changes_of v) (changes_of v) =
    subst (λ (x : View). AreNew x (changes_of v) (changes_of v)) (sym (same.at (snapshot_of w))) (new_again view (changes_of w) (changes_of v) pruned.changes) in
    let own = subst (λ (s : Snapshot). AreNew (view_at mid s) (changes_of v) (changes_of v)) (sym pruned.snapshot) again in
    let now = pruned_applies old mid w db was whole applies stored same v pruned in
    let p = page old mid w db was whole applies stored same v now own in
    let h = header old mid w db was whole applies stored same v now own in
    let m = may old mid w db was whole applies stored same v now own in
    let commit = c.commit-in-Some in
    let alone = c.is_alone-is_alone.ensures in
    ends old mid w db was whole applies stored same v now own commit.result commit.new.log commit.new.self w
    (subst (λ (b : Bool). OnOk commit.result (CommitsPages mid b v p h commit.new.log)) alone (commit.ensures.commits p h m))
    (subst (λ (b : Bool). IfErr commit.result (IsRefusedCommit mid b v p h commit.new.log commit.new.self)) alone (commit.ensures.refused p h m)) commit.ensures.disks.db
    (subst (λ (b : Bool). IsStateCommitted b commit.result (state_of mid) (length (changes_of v)) (pages_of v) (state_of commit.new.log)) alone (commit.ensures.known p h m)) (commit.ensures.crash p h m)
    (λ r next is. pruned_over old mid w db was whole applies stored same v pruned r next commit.new.self is)

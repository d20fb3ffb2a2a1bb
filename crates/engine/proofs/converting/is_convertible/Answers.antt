use Rattle.std.proofs.Common.{◌≡◌, ℕ, [], ◌∷◌, List, rules, subst, sym, ap, arith}
use Rattle.db_header.specs.Header.{part}
use Rattle.disk.specs.File.{File}
use Rattle.pager_older.specs.Older.{TellsFront, as_wal}
use Rattle.session.specs.Holding.{Hold}
use Rattle.std.specs.Prelude.{IsTrue}
use Rattle.engine.proofs.ConvertedFiles.{kept_both, kept_file, no_bytes, refused_by_pages, tells_refused}
use Rattle.engine.proofs.converting.is_convertible.Goals as goal

pub returns-in_err-check_file-clause-told : goal.returns-in_err-check_file-clause-told
returns-in_err-check_file-clause-told g c told_db told_log =
    let kept = kept_both g.D.Disk.tells g.D.Disk.file _ _ _ (kept_file g.D.Disk.tells g.D.Disk.file _ _ c.in_ok-is_blank.ensures.kept) c.in_ok-front.ensures.kept in
    let told = subst IsTrue (sym kept.tells_same) told_db in
    let same = ap (λ (f : File). f.content) (kept.same told_db) in
    let none : c.args.journal ≡ 0 = search rules in
    let empty = no_bytes (g.D.Disk.file c.args.log.now).content (omega (arith, c.in_ok-len.ensures.length told_log, c.if-branch-ne0.false)) in
    tells_refused _ _ _ c.from_residual-in_err-check_file.result c.in_err-check_file.field-0.0 c.from_residual-in_err-check_file.ensures.1
    (refused_by_pages _ _ c.args.journal c.in_err-check_file.field-0.0 none empty (λ database alone. c.in_err-check_file.ensures.held database told (subst (λ (b : List ℕ). Hold (as_wal b) [] database) (sym same) alone.held)))

pub returns-clause-told : goal.returns-clause-told
returns-clause-told g c told_db told_log =
    let kept = kept_both g.D.Disk.tells g.D.Disk.file _ _ _ (kept_file g.D.Disk.tells g.D.Disk.file _ _ c.in_ok-is_blank.ensures.kept) c.in_ok-front.ensures.kept in
    let told = subst IsTrue (sym kept.tells_same) told_db in
    let same = ap (λ (f : File). f.content) (kept.same told_db) in
    let blank = kept_file g.D.Disk.tells g.D.Disk.file _ _ c.in_ok-is_blank.ensures.kept in
    let front = subst (TellsFront (g.D.Disk.file c.is_blank.new.db).content) c.in-Some.is (c.in_ok-front.ensures.told (subst IsTrue (sym blank.tells_same) told_db)) in
    let none : c.args.journal ≡ 0 = search rules in
    let empty = no_bytes (g.D.Disk.file c.args.log.now).content (omega (arith, c.in_ok-len.ensures.length told_log, c.if-branch-ne0.false)) in
    let found = c.in_ok-check_file.ensures.found told in (
      none,
      empty,
      (
        found.0,
        record {
          older = subst (λ (f : File). part 18 2 f.content ≡ 1 ∷ 1 ∷ []) (blank.same told_db) front.older;
          held = subst (λ (b : List ℕ). Hold (as_wal b) [] found.0) same found.1;
        },
      ),
    )

pub returns-clause-older : goal.returns-clause-older
returns-clause-older g c told_db done =
    let blank = kept_file g.D.Disk.tells g.D.Disk.file _ _ c.in_ok-is_blank.ensures.kept in
    let front = subst (TellsFront (g.D.Disk.file c.is_blank.new.db).content) c.in-Some.is (c.in_ok-front.ensures.told (subst IsTrue (sym blank.tells_same) told_db)) in
    subst (λ (f : File). part 18 2 f.content ≡ 1 ∷ 1 ∷ []) (blank.same told_db) front.older

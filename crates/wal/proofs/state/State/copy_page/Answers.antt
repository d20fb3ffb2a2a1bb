use Rattle.std.proofs.Common.{inl, inr, ◌∙◌, ◌+◌, ℕ, ap, subst, refl, arith, take, drop}
use Rattle.disk.specs.Calls.{Writes, FailsToWrite}
use Rattle.wal.proofs.Fetched.{frame_low, page_inside, newest_found}
use Rattle.wal.proofs.LeftOut.{left_out}
use Rattle.wal.proofs.Results.{on_ok_from, on_err_from}
use Rattle.wal.proofs.state.State.copy_page.Goals as goal

pub returns-in_default-clause-copied : goal.returns-in_default-clause-copied
returns-in_default-clause-copied g c told_db =
    let s = c.args.self.now in
    let left = c.in_default.ensures.none refl in
    inl (record {
      stands = λ told bytes. left_out s (g.D.Disk.file c.args.db.now).content (g.D.Disk.file c.args.log.now).content c.args.mark c.args.number (c.requires.stands told) c.requires.mark.0 c.requires.mark.1 c.requires.number.0 c.requires.number.1
          (c.requires.copied told_db told) bytes left;
      whole = (c.requires.reaches told_db).1 left;
      same = refl;
    })

pub overflow_add-at : goal.overflow_add-at
overflow_add-at g c = omega (arith, c.offset.ensures, frame_low c.args.self.now c.args.mark c.args.number c.in-Some.frame c.in-Some.ensures.found)

pub read_at-requires : goal.read_at-requires
read_at-requires g c told =
    omega (arith, c.offset.ensures, c.requires.size, page_inside c.args.self.now (g.D.Disk.file c.args.log.now).content c.args.mark c.args.number c.in-Some.frame (c.requires.stands told) c.in-Some.ensures.found)

pub returns-clause-copied : goal.returns-clause-copied
returns-clause-copied g c told_db =
    let s = c.args.self.now in
    let log = (g.D.Disk.file c.args.log.now).content in
    on_ok_from c.write_at.result _ _
    (λ writes. inr (record {
      page = c.read_at.new.buf;
      size = omega (arith, c.read_at.auto.buf, c.requires.size);
      newest = λ told. newest_found s log c.read_at.new.buf c.args.mark c.args.number c.in-Some.frame c.offset.result (c.requires.stands told) c.in-Some.ensures.found c.requires.mark.1 c.requires.number.1 c.offset.ensures
          (c.in_ok-read_at.ensures.read told ∙ ap (λ (n : ℕ). take n (drop (c.offset.result + 24) log)) c.requires.size);
      writes = subst (λ (at : ℕ). Writes at c.read_at.new.buf (g.D.Disk.file c.args.db.now) (g.D.Disk.file c.write_at.new.self)) c.place.ensures writes;
    }))
    (c.write_at.ensures.done told_db)

pub returns-clause-failed : goal.returns-clause-failed
returns-clause-failed g c told_db =
    let s = c.args.self.now in
    let log = (g.D.Disk.file c.args.log.now).content in
    on_err_from c.write_at.result _ _
    (λ failed. elim failed [
      | inl same ↦ inl same
      | inr fails ↦ inr (record {
        page = c.read_at.new.buf;
        size = omega (arith, c.read_at.auto.buf, c.requires.size);
        newest = λ told. newest_found s log c.read_at.new.buf c.args.mark c.args.number c.in-Some.frame c.offset.result (c.requires.stands told) c.in-Some.ensures.found c.requires.mark.1 c.requires.number.1 c.offset.ensures
            (c.in_ok-read_at.ensures.read told ∙ ap (λ (n : ℕ). take n (drop (c.offset.result + 24) log)) c.requires.size);
        fails = subst (λ (at : ℕ). FailsToWrite at c.read_at.new.buf (g.D.Disk.file c.args.db.now) (g.D.Disk.file c.write_at.new.self)) c.place.ensures fails;
      })
    ])
    (c.write_at.ensures.failed told_db)

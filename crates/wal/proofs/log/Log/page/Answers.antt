use Rattle.std.proofs.Common.{◌≡◌, inr, ◌∙◌, ◌+◌, ◌-◌, ◌*◌, ℕ, ap, subst, sym, refl, arith, length, take, drop}
use Rattle.std.specs.Prelude.{IsTrue}
use Rattle.disk.specs.File.{File}
use Rattle.wal.specs.Alone.{HasCopiedPages}
use Rattle.wal.proofs.Paging.{found_page, filed_page, missing_page}
use Rattle.wal.proofs.Results.{on_ok_from}
use Rattle.wal.proofs.log.Log.page.Goals as goal

pub invariant_of-self-clause-db_pages : goal.invariant_of-self-clause-db_pages
invariant_of-self-clause-db_pages g c ok told told_now =
    let s = c.args.self.now.state in
    let told_log : IsTrue (g.D.Disk.tells c.args.self.now.log) = sym c.read_at.ensures.tells ∙ told_now in
    subst (λ (f : File). HasCopiedPages s s.copied_pages (g.D.Disk.file c.args.self.now.db).content f.content) (sym (c.read_at.ensures.same told_log)) (c.args.self.now.db_pages ok told told_log)

pub invariant_of-self-2-clause-db_pages : goal.invariant_of-self-2-clause-db_pages
invariant_of-self-2-clause-db_pages g c ok told_now told_log =
    let s = c.args.self.now.state in
    let told : IsTrue (g.D.Disk.tells c.args.self.now.db) = sym c.read_at-2.ensures.tells ∙ told_now in
    subst (λ (f : File). HasCopiedPages s s.copied_pages f.content (g.D.Disk.file c.args.self.now.log).content) (sym (c.read_at-2.ensures.same told)) (c.args.self.now.db_pages ok told told_log)

pub returns-in-Some-clause-read : goal.returns-in-Some-clause-read
returns-in-Some-clause-read g c told_db told until =
    let s = c.args.self.now.state in
    let log = (g.D.Disk.file c.args.self.now.log).content in
    on_ok_from c.read_at.result _ _
    (λ read. found_page s.header s.is_begun s.mark c.args.snapshot.mark s.sum s.index (g.D.Disk.file c.args.self.now.db).content log c.read_at.new.buf c.args.number c.in-Some.frame c.offset.result s.page_size
    (c.args.self.now.log_there c.if-self.false told) s.indexed c.in-Some.ensures.found until (omega (arith, c.args.snapshot.few, c.if-number-snapshot.false)) c.offset.ensures (sym s.same_size)
    (read ∙ ap (λ (n : ℕ). take n (drop (c.offset.result + 24) log)) (let e : length c.args.out.now ≡ s.page_size = omega (arith, c.if-out-self.false) in e)))
    (c.read_at.ensures.read told)

pub returns-clause-read : goal.returns-clause-read
returns-clause-read g c told_db told until =
    let s = c.args.self.now.state in
    let db = (g.D.Disk.file c.args.self.now.db).content in
    on_ok_from c.read_at-2.result _ _
    (λ read. filed_page s.header s.is_begun s.mark c.args.snapshot.mark s.sum s.index db (g.D.Disk.file c.args.self.now.log).content c.read_at-2.new.buf c.args.number s.page_size
    (c.args.self.now.log_there c.if-self.false told) (c.in_default.ensures.none refl) until (omega (arith, c.if-number-eq0.false)) (omega (arith, c.args.snapshot.few, c.if-number-snapshot.false))
    (record {
      whole = omega (arith, c.if-number-size.false, c.args.self.now.db_there c.if-self.false told_db);
      bytes_are = read ∙ ap (λ (n : ℕ). take n (drop ((c.args.number - 1) * s.page_size) db)) (let e : length c.args.out.now ≡ s.page_size = omega (arith, c.if-out-self.false) in e);
    }))
    (c.read_at-2.ensures.read told_db)

pub returns-then-number-size-clause-refused : goal.returns-then-number-size-clause-refused
returns-then-number-size-clause-refused g c =
    let s = c.args.self.now.state in
    inr (inr (
      refl,
      λ given. missing_page s.header s.is_begun s.mark c.args.snapshot.mark s.sum s.index (g.D.Disk.file c.args.self.now.db).content (g.D.Disk.file c.args.self.now.log).content given.3.bytes c.args.number s.page_size
          (c.args.self.now.log_there c.if-self.false given.1) (c.in_default.ensures.none refl) given.2 given.3.first (omega (arith, c.args.snapshot.few, given.3.last))
          (omega (arith, c.args.self.now.db_there c.if-self.false given.0, c.if-number-size.true)) given.3.is,
    ))

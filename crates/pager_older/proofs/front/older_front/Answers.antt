use Rattle.std.proofs.Common.{◌≡◌, ◌∙◌, refl, ap, arith, length, min}
use Rattle.disk.specs.File.{File}
use Rattle.pager_older.proofs.Fronts.{front_read, part_read}
use Rattle.pager_older.proofs.front.older_front.Goals as goal

pub returns-clause-told : goal.returns-clause-told
returns-clause-told g c = λ told.
    let bytes = (g.D.Disk.file c.args.db.now).content in
    let has : c.min-there.result ≡ min 100 (length bytes) = omega (arith, c.in_ok-len.ensures.length told, c.min-there.ensures) in
    let read = part_read bytes (g.D.Disk.file c.len.new.self).content c.read_at.new.buf c.min-there.result (omega (arith, has)) (ap (λ (file : File). file.content) (c.in_ok-len.ensures.same told)) (c.in_ok-read_at.ensures.read (c.in_ok-len.ensures.tells ∙ told)) in
    c.judged.ensures.told bytes (front_read bytes c.read_at.new.buf _ c.min-there.result has read refl)

pub returns-clause-refused : goal.returns-clause-refused
returns-clause-refused g c = λ told.
    let bytes = (g.D.Disk.file c.args.db.now).content in
    let has : c.min-there.result ≡ min 100 (length bytes) = omega (arith, c.in_ok-len.ensures.length told, c.min-there.ensures) in
    let read = part_read bytes (g.D.Disk.file c.len.new.self).content c.read_at.new.buf c.min-there.result (omega (arith, has)) (ap (λ (file : File). file.content) (c.in_ok-len.ensures.same told)) (c.in_ok-read_at.ensures.read (c.in_ok-len.ensures.tells ∙ told)) in
    c.judged.ensures.refused bytes (front_read bytes c.read_at.new.buf _ c.min-there.result has read refl)

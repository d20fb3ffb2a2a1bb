use Rattle.std.proofs.Common.{rules, ◌≡◌, ◌<◌, ◌∙◌, ◌-◌, ℕ, zero, suc, List, [], ◌∷◌, map, ap, sym, refl, arith, length, slice_index_or, slice_set}
use Rattle.std.proofs.lemmas.List.{map-set}
use Rattle.std.specs.Global.{Vec}
use Rattle.pages.specs.Map.{written_over}
use Rattle.pages.specs.Memory.{pages_in_memory}
use Rattle.pages.proofs.memory.MemPagesWritePages.write_over.Goals as goal

-- the bytes of the page at a place
bytes_at : (pages : List (Vec ℕ)) (place : ℕ) (d : Vec ℕ) → place < length pages → (slice_index_or pages place d).items ≡ slice_index_or (map (λ page. page.items) pages) place []
bytes_at [] place d lt = absurd (omega (arith, lt))
bytes_at (page ∷ pages) zero d lt = refl
bytes_at (page ∷ pages) (suc place) d lt = bytes_at pages place d (omega (arith, lt))

pub returns-clause-done : goal.returns-clause-done
returns-clause-done c = λ told.
    (let pages = c.args.self.now.pages.items in
    let place = c.args.number - 1 in
    let within : place < length pages = search rules in
    let there : c.index_mut.result.now.items ≡ slice_index_or (map (λ page. page.items) pages) place [] =
    ap (λ page. page.items) c.index_mut.ensures.value ∙ bytes_at pages place c.index_mut.result.now within in
    map-set (λ page. page.items) pages place c.put_part.new.page
    ∙ ap (slice_set (pages_in_memory c.args.self.now) place) (c.put_part.ensures.written ∙ ap (written_over c.args.offset c.args.bytes.now) there))

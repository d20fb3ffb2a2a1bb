use Rattle.std.proofs.Common.{◌≡◌, ◌++◌, ◌∙◌, List, ℕ, length, drop, sym, subst, rules}
use Rattle.std.proofs.lemmas.List.{length-take-le}
use Rattle.freelist.specs.PageBytes.{Reheads}
use Rattle.freelist.proofs.HeaderBytes.{reheaded}
use Rattle.freelist.proofs.bytes.set_header.Goals as goal

pub copy_from_slice-requires : goal.copy_from_slice-requires
copy_from_slice-requires c =
    let hundred : length c.write.result ≡ 100 = search rules in
    length-take-le 100 c.args.page.now c.if-page-ge100.true ∙ sym hundred

pub returns-then-page-ge100 : goal.returns-then-page-ge100
returns-then-page-ge100 c = record {
  reheads = λ long. (
      let hundred : length c.write.result ≡ 100 = search rules in
      subst (λ (l : List ℕ). Reheads c.args.page.now (l ++ drop 100 c.args.page.now) c.args.header.now) (sym c.copy_from_slice.ensures.after) (reheaded c.write.result c.args.page.now c.args.header.now hundred c.write.ensures.is long));
}

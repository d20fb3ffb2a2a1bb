use Rattle.std.proofs.Common.{rules, inl, inr, ◌≡◌, length, subst}
use Rattle.std.proofs.lemmas.Result.{IfErr-weaker, IfOk-weaker}
use Rattle.db_header.specs.Header.{IsHeader}
use Rattle.db_header.specs.declared.fields.Header.{Header}
use Rattle.engine.proofs.NewFiles.{fits_empty}
use Rattle.engine.proofs.creating.empty_page.Goals as goal

pub returns-clause-refused : goal.returns-clause-refused
returns-clause-refused c =
    let long : length c.write-header.result ≡ 100 = search rules in
    IfErr-weaker c.build.result _ _ (λ fault h. elim h [ inl m ↦ m | inr r ↦ absurd (r.1 (fits_empty c.args.page_size _ c.requires long)) ]) c.build.ensures.refused

pub returns-clause-made : goal.returns-clause-made
returns-clause-made c =
    let long : length c.write-header.result ≡ 100 = search rules in
    let says = subst (λ (header : Header). IsHeader c.write-header.result header) c.empty.ensures c.write-header.ensures.is in
    IfOk-weaker c.build.result _ _ (λ page h. record { header = c.write-header.result; sized = long; says = says; page = h }) c.build.ensures.exact

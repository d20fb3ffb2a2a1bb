use Rattle.std.proofs.Common.{ℤ, Ok, rules, w64, SFits, ap, ◌∙◌}
use Rattle.std.proofs.lemmas.Int.{to_z-of_z}
use Rattle.std.proofs.lemmas.Iterator.Adapters.{option_map_id}
use Rattle.tree_page.specs.Bytes.{number_on}
use Rattle.tree_page.proofs.NodeLemmas.{node_number, found_there, seen, unseen}
use Rattle.tree_page.proofs.page.TreePage.number.Goals as goal

pub returns-in-Some-clause-only : goal.returns-in-Some-clause-only
returns-in-Some-clause-only c = λ node numbers d is numbered less.
    let page = c.args.self.now in
    let fits : SFits w64 c.in-Some.found = search rules in
    ap (λ (n : ℤ). Ok n) (to_z-of_z w64 c.in-Some.found fits ∙ seen (λ (n : ℤ). n) c.find_number.result _ _ c.in-Some.is
    (found_there (λ (n : ℤ). n) (λ bytes start header. number_on header.0 bytes start header c.args.index) c.find_number.result page _ _ _ node _ c.self.view_is c.self.inside.sound (option_map_id c.find_number.result ∙ c.find_number.ensures) is (node_number page.bytes page.start node numbers c.args.index d is numbered less)))

pub returns-in-None-clause-only : goal.returns-in-None-clause-only
returns-in-None-clause-only c = λ node numbers d is numbered less.
    let page = c.args.self.now in
    absurd (unseen (λ (n : ℤ). n) c.find_number.result _ c.in-None.is
    (found_there (λ (n : ℤ). n) (λ bytes start header. number_on header.0 bytes start header c.args.index) c.find_number.result page _ _ _ node _ c.self.view_is c.self.inside.sound (option_map_id c.find_number.result ∙ c.find_number.ensures) is (node_number page.bytes page.start node numbers c.args.index d is numbered less)))

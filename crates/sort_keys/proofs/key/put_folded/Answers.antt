use Rattle.std.proofs.Common.{◌≡◌, ◌∙◌, ◌∷◌, ◌++◌, List, ap, rules, length, ℕ}
use Rattle.std.specs.Char.{to_ascii_lowercase}
use Rattle.sort_keys.specs.Keys.{ended}
use Rattle.sort_keys.proofs.Escapes.{folded_ended}
use Rattle.sort_keys.proofs.Parts.{mapped_from}
use Rattle.sort_keys.proofs.key.put_folded.Goals as goal

pub returns-clause-ok : goal.returns-clause-ok
returns-clause-ok c =
    let old = c.args.out.now.items in
    let is : c.put_ended.new.out.items ≡ old ++ 3 ∷ ended c.args.text.now = search rules in
    let begins : c.len-start.result ≡ length old = search rules in
    let long : c.put_ended.new.out.len ≡ length c.put_ended.new.out.items = search rules in
    mapped_from to_ascii_lowercase c.deref_mut.result.now c.put_ended.new.out.items old (3 ∷ ended c.args.text.now) c.fold.new.bytes c.len-start.result c.put_ended.new.out.len c.deref_mut.ensures.value is begins long c.fold.ensures
    ∙ ap (λ (ys : List ℕ). old ++ 3 ∷ ys) (folded_ended c.args.text.now)

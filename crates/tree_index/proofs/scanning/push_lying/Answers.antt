use Rattle.std.proofs.Common.{◌∙◌, ◌≤◌, ◌++◌, ℕ, List, [], ◌∷◌, length, map, ap, subst, sym, slice_index_or, arith}
use Rattle.std.proofs.lemmas.List.{map-append}
use Rattle.tree_page.specs.Node.{Local}
use Rattle.tree_page.specs.Payload.{index_most}
use Rattle.tree_page.specs.Reading.{local_of}
use Rattle.tree_index.specs.Tree.{IsHeldAs}
use Rattle.tree_index.proofs.Comparisons.{nothing}
use Rattle.tree_index.proofs.Readings.{lies_whole, said_there}
use Rattle.tree_index.proofs.scanning.push_lying.Goals as goal

pub returns-in-Err-clause-pushed : goal.returns-in-Err-clause-pushed
returns-in-Err-clause-pushed c = λ pages size said entries d most_is is held lt.
    absurd (c.in-Err.ensures.only said nothing is (said_there pages size said entries c.args.place nothing d held lt).0)

pub returns-clause-pushed : goal.returns-clause-pushed
returns-clause-pushed c = λ pages size said entries d most_is is held lt.
    (let local = local_of c.in-Ok.local in
    let there = said_there pages size said entries c.args.place local d held lt in
    let it = slice_index_or entries c.args.place d in
    let has = subst (λ (l : Local). IsHeldAs pages size l it) (sym (c.in-Ok.ensures.only said local is there.0)) there.1 in
    let le : length it.payload ≤ index_most size = omega (arith, has.size, c.if-local-most.false, most_is) in
    ap (map (λ bytes. bytes.items)) c.in_ok-push.ensures.items ∙ map-append (λ bytes. bytes.items) c.args.batch.now.items (c.extend_from_slice.new.self ∷ [])
    ∙ ap (λ (l : List ℕ). map (λ bytes. bytes.items) c.args.batch.now.items ++ l ∷ [])
    (c.in_ok-extend_from_slice.ensures.items ∙ ap (λ (l : List ℕ). l ++ c.in-Ok.local.bytes.now) c.memory_of-entry.ensures ∙ lies_whole pages size (index_most size) _ it.payload it.pages has.payload le))

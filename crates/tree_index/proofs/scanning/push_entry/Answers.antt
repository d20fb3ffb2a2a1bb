use Rattle.std.proofs.Common.{◌≡◌, ◌∙◌, ◌++◌, ℕ, List, [], ◌∷◌, map, ap, slice_index_or}
use Rattle.std.proofs.lemmas.List.{map-append}
use Rattle.tree_index.proofs.Readings.{refused}
use Rattle.tree_index.proofs.scanning.push_entry.Goals as goal

pub returns-clause-pushed : goal.returns-clause-pushed
returns-clause-pushed g c = λ told node entries d whole has lt.
    (let payload = (slice_index_or entries c.args.place d).payload in
    let read : c.read_entry.new.out.items ≡ payload = c.in_ok-read_entry.ensures.read told node entries d whole has lt ∙ ap (λ (l : List ℕ). l ++ payload) c.new-entry.ensures.items in
    ap (map (λ bytes. bytes.items)) c.in_ok-push.ensures.items ∙ map-append (λ bytes. bytes.items) c.args.batch.now.items (c.read_entry.new.out ∷ [])
    ∙ ap (λ (l : List ℕ). map (λ bytes. bytes.items) c.args.batch.now.items ++ l ∷ []) read)

pub returns-in_err-read_entry-clause-pushed : goal.returns-in_err-read_entry-clause-pushed
returns-in_err-read_entry-clause-pushed g c = λ told node entries d whole has lt.
    refused _ _ c.in_err-read_entry.field-0.0 c.from_residual.ensures.1 (c.in_err-read_entry.ensures.read told node entries d whole has lt)

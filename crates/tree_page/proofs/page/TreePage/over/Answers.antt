use Rattle.std.proofs.Common.{◌≡◌, ℕ, Option, Some, None, ◌∙◌}
use Rattle.std.specs.Prelude.{option_map}
use Rattle.tree_page.specs.declared.items.Kind.{Kind}
use Rattle.tree_page.specs.declared.header.Header.{Header}
use Rattle.tree_page.specs.Bytes.{header_parts}
use Rattle.tree_page.proofs.NodeLemmas.{node_front}
use Rattle.tree_page.proofs.page.TreePage.over.Goals as goal

-- a header that is there was read
there : (r : Option Header) (header : Kind × ℕ) → option_map header_parts r ≡ Some header → r ≡ None → ⊥
there (Some h) header e none = absurd cc
there None header e none = absurd cc

pub returns-in_default-clause-only : goal.returns-in_default-clause-only
returns-in_default-clause-only c = λ node is.
    absurd (there c.read_header.result _ (c.read_header.ensures ∙ node_front c.args.bytes.now c.args.start node is) c.in_default.is)

use Rattle.std.proofs.Common.{◌≡◌, ℕ, List, ◌++◌, ap, ◌∙◌, append_assoc, codes}
use Rattle.shell.specs.Inserts.{insert_head}
use Rattle.shell.specs.Names.{name_text}
use Rattle.shell.proofs.inserts.put_head.Goals as goal

three : (a b c d : List ℕ) → ((a ++ b) ++ c) ++ d ≡ a ++ ((b ++ c) ++ d)
three a b c d = ap (λ x. x ++ d) (append_assoc a b c) ∙ append_assoc a (b ++ c) d

pub returns-clause-written : goal.returns-clause-written
unfolding insert_head
returns-clause-written c =
    rw (c.in_ok-extend_from_slice-2.ensures.items, c.in_ok-put_name.ensures.written, c.in_ok-extend_from_slice.ensures.items)
    (three c.args.out.now.items (codes "INSERT INTO ") (name_text c.args.table.now) (codes " VALUES("))

-- Items that are spliced pair with items that are spliced alike.
use Rattle.std.proofs.Common.{ℕ, ◌+◌, List, [], ◌∷◌, ◌++◌, take, drop}
use Rattle.tree_page.specs.Cells.{Pairwise}
use Rattle.tree_pack.specs.Splicing.{spliced}
use Rattle.tree_pack.proofs.SayLemmas.{pairwise_take, pairwise_drop}

pub pairwise_append : {A B : Type 0} (P : A → B → Type 0) (xs more : List A) (ys others : List B) → Pairwise P xs ys → Pairwise P more others
    → Pairwise P (xs ++ more) (ys ++ others)
pairwise_append P [] more [] others first then = then
pairwise_append P [] more (y ∷ ys) others first then = absurd first
pairwise_append P (x ∷ xs) more [] others first then = absurd first
pairwise_append P (x ∷ xs) more (y ∷ ys) others first then = (first.0, pairwise_append P xs more ys others first.1 then)

pub pairwise_spliced : {A B : Type 0} (P : A → B → Type 0) (from count : ℕ) (cells news : List A) (items others : List B) → Pairwise P cells items
    → Pairwise P news others → Pairwise P (spliced from count news cells) (spliced from count others items)
pairwise_spliced P from count cells news items others all new = pairwise_append P (take from cells) (news ++ drop (from + count) cells) (take from items)
    (others ++ drop (from + count) items) (pairwise_take P from cells items all)
    (pairwise_append P news (drop (from + count) cells) others (drop (from + count) items) new (pairwise_drop P (from + count) cells items all))

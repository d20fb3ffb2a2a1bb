-- A tree whose rows changed twice, and one that lost rows.
use Rattle.std.proofs.Common.{◌≡◌, ◌≤◌, ℕ, zero, suc, ℤ, pos, List, [], ◌∷◌, ◌++◌, length, Option, Some, None, refl, sym, ap, subst, ◌∙◌, arith}
use Rattle.std.specs.Prelude.{⊤, Result, Ok, Err, MatchResult}
use Rattle.sqlval.specs.declared.fault.Fault.{Fault}
use Rattle.sqlval.specs.Faults.{IsOutside}
use Rattle.tree_leaf.specs.Leaf.{Entry}
use Rattle.pages.specs.Map.{PageMap}
use Rattle.pages.proofs.Moving.{in_sequence}
use Rattle.tree_store.proofs.PutPages.{fresh_same}
use Rattle.tree_overflow.proofs.Laying.{keeps_then, same_keeps}
use Rattle.tree_table.specs.Calls.{Stands, BecomesRows}
use Rattle.tree_table.specs.Freeing.{IsCleared}
use Rattle.tree_table.specs.Lowering.{IsSettled}
use Rattle.tree_table.specs.Rows.{last_rowid}
use Rattle.tree_table.specs.Tree.{Tree, rows_of, pages_of}
use Rattle.tree_table.proofs.Holes.{Kids, pages_in}
use Rattle.tree_table.proofs.Lowered.{IsLowerTree}
use Rattle.tree_table.proofs.Planting.{pages_split}
use Rattle.tree_table.proofs.Roots.{BecomesUpTo, becomes_up}

-- ---- twice

abbrev pub becomes_then : (old mid new : PageMap) (size root : ℕ) (rows others : List Entry) (used free : List ℕ) (first : BecomesRows old mid size root rows used free)
    → BecomesRows mid new size root others first.now_used first.now_free → BecomesRows old new size root others used free
becomes_then old mid new size root rows others used free first after = record {
  now_used = after.now_used;
  now_free = after.now_free;
  stands = after.stands;
  moves = in_sequence old mid new used free first.now_used first.now_free after.now_used after.now_free first.moves after.moves;
  header = keeps_then old mid new first.header after.header;
}

-- ---- nothing changed

pub unchanged : (old new : PageMap) (size root : ℕ) (rows : List Entry) (used free : List ℕ) (is : Stands old size root rows used free) → new ≡ old → BecomesUpTo old new size root is.tree.depth rows used free
unchanged old new size root rows used free is same = subst (λ (m : PageMap). BecomesUpTo old m size root is.tree.depth rows used free) (sym same) (
  record {
    now_used = used;
    now_free = free;
    stands = is;
    moves = record {
      longer = omega arith;
      counts = λ n. (let none = fresh_same (length old) (length old) n refl in omega (arith, none));
      keeps = λ n from to none. refl;
      whole = λ size whole. whole;
    };
    header = same_keeps old old refl;
  },
  omega arith,
)

-- ---- a root that is lower

pub lower_becomes : (old new : PageMap) (size root : ℕ) (rows : List Entry) (used free : List ℕ) (is : Stands old size root rows used free) (low high : ℤ) (result : Result ⊤ Fault)
    → MatchResult result (λ done. IsLowerTree old new size root is.tree.depth low high (rows_of is.tree.depth is.tree.tree) (pages_of is.tree.depth is.tree.tree) free) IsOutside
    → MatchResult result (λ done. BecomesUpTo old new size root is.tree.depth rows used free) IsOutside
lower_becomes old new size root rows used free is low high (Err fault) outside = outside
lower_becomes old new size root rows used free is low high (Ok done) l =
    becomes_up old size root (pos 0) rows used free is is.tree.depth new l.deep l.t low high rows l.now_free (let a = l.near in let b = is.tree.shallow in omega (arith, a, b)) l.near l.top_is l.lies l.sorted
    (l.rows_are ∙ is.tree.rows_are) l.has l.moves l.header

-- ---- a tree without rows

no_more : {A : Type 0} {x y : A} {xs : List A} → x ∷ xs ≡ y ∷ [] → xs ≡ []
no_more e = cc

no_cons : {A : Type 0} {x : A} {xs : List A} → x ∷ xs ≡ [] → ⊥
no_cons e = cc

some_pages : (depth : ℕ) (kids : Kids depth) (last : Tree depth) → pages_in depth kids last ≡ [] → ⊥
some_pages depth [] last e = no_cons (sym (pages_split depth last) ∙ e)
some_pages depth (kid ∷ kids) last e = no_cons (sym (ap (λ (pages : List ℕ). pages ++ pages_in depth kids last) (pages_split depth kid.0)) ∙ e)

-- a tree of one page is a leaf
one_page : (depth root most : ℕ) (t : Tree depth) → pages_of depth t ≡ root ∷ [] → depth ≤ most
one_page zero root most t e = omega arith
one_page (suc depth) root most t e = absurd (some_pages depth t.kids t.last (no_more e))

pub some_not_none : {A : Type 0} {x : A} → Some x ≡ None → ⊥
some_not_none e = cc

none_last : (rows : List Entry) → last_rowid rows ≡ None → rows ≡ []
none_last [] e = refl
none_last (row ∷ []) e = absurd (some_not_none e)
none_last (row ∷ next ∷ rows) e = absurd (no_cons (none_last (next ∷ rows) e))

pub cleared_settles : (old new : PageMap) (size root depth : ℕ) (rows : List Entry) (used free : List ℕ) (last : Option ℤ) → last ≡ last_rowid rows → last ≡ None → (result : Result ⊤ Fault)
    → MatchResult result (λ done. IsCleared old new size root used free) IsOutside → MatchResult result (λ done. IsSettled old new size root depth rows used free) IsOutside
cleared_settles old new size root depth rows used free last is none (Err fault) outside = outside
cleared_settles old new size root depth rows used free last is none (Ok done) c =
    subst (λ (all : List Entry). IsSettled old new size root depth all used free) (sym (none_last rows (sym is ∙ none))) (
      record { now_used = root ∷ []; now_free = c.now_free; stands = c.stands; moves = c.moves; header = c.header },
      λ e. refl,
      one_page (c.stands.tree.depth) root depth (c.stands.tree.tree) (c.stands.tree.used_are),
    )

pub lowered_settles : (old new : PageMap) (size root depth : ℕ) (rows : List Entry) (used free : List ℕ) (last : Option ℤ) → last ≡ last_rowid rows → (last ≡ None → ⊥) → (result : Result ⊤ Fault)
    → MatchResult result (λ done. BecomesUpTo old new size root depth rows used free) IsOutside → MatchResult result (λ done. IsSettled old new size root depth rows used free) IsOutside
lowered_settles old new size root depth rows used free last is some (Err fault) outside = outside
lowered_settles old new size root depth rows used free last is some (Ok done) b = (b.0, λ none. absurd (some (is ∙ ap last_rowid none)), b.1)

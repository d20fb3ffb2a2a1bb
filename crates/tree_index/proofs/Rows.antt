-- A row of subtrees, and others in place of the one at a place.
use Rattle.std.proofs.Common.{◌≡◌, refl, sym, ◌∙◌, ap, subst, ℕ, zero, suc, ◌≤◌, Bool, true, false, List, [], ◌∷◌, ◌++◌, append_assoc, if◌then◌else◌, arith}
use Rattle.std.proofs.lemmas.List.{append-nil}
use Rattle.std.specs.List.{AllByRecursion, flat_map}
use Rattle.std.specs.Ordering.{is_gt, is_eq}
use Rattle.sqlval.specs.declared.collation.Collation.{Collation}
use Rattle.pages.specs.Counting.{occurs}
use Rattle.pages.specs.Map.{PageMap}
use Rattle.pages.proofs.Moving.{occurs_append}
use Rattle.tree_page.specs.Cells.{Pairwise}
use Rattle.tree_page.specs.Node.{Local}
use Rattle.tree_pack.proofs.Splices.{pairwise_append}
use Rattle.tree_store.specs.Sides.{Side, Each, behind, children, each_of}
use Rattle.tree_store.specs.Frames.{goes}
use Rattle.tree_store.specs.Staying.{AreKept}
use Rattle.tree_store.proofs.Staying.{kept_of, each_kept}
use Rattle.tree_store.proofs.Windows.{frame_gives, each_join}
use Rattle.tree_index.specs.Comparing.{ComeFirst, front_count, is_less, child_at}
use Rattle.tree_index.specs.Entries.{Entry, entry_cmp}
use Rattle.tree_index.specs.Freeing.{all_of}
use Rattle.tree_index.specs.Growing.{replaced, IsEqualAt}
use Rattle.tree_index.specs.Joining.{tree_at, left_at, right_at}
use Rattle.tree_index.specs.Tree.{Held, IsKidAs}
use Rattle.tree_index.proofs.Inserts.{by_bool, neither_lt}
use Rattle.tree_index.proofs.Orders.{greater, not_less, before_one, after_one, first_right, count_more, count_none}
use Rattle.tree_index.proofs.Subtrees.{entries_between}

-- ---- what the row gives

module _ {T K X : Type 0} (f : T → List X) (between : K → List X) where
  pub row_gives : (place : ℕ) (window : Side T K) (kids : List (T × K)) (last : T)
      → each_of f between (replaced place window kids last).0 (replaced place window kids last).1
      ≡ left_at f between place kids last ++ (each_of f between window.0 window.1 ++ right_at f between place kids last)
  row_gives place window [] last = sym (append-nil (each_of f between window.0 window.1))
  row_gives zero window (kid ∷ kids) last = frame_gives f between (goes [] kid.1 (kids, last)) window
  row_gives (suc place) window (kid ∷ kids) last =
      let left = left_at f between place kids last in
      let rest = each_of f between window.0 window.1 ++ right_at f between place kids last in
      ap (λ (xs : List X). f kid.0 ++ (between kid.1 ++ xs)) (row_gives place window kids last)
      ∙ ap (λ (xs : List X). f kid.0 ++ xs) (sym (append_assoc (between kid.1) left rest))
      ∙ sym (append_assoc (f kid.0) (between kid.1 ++ left) rest)

pub same_row : {T K : Type 0} (place : ℕ) (kids : List (T × K)) (last : T) → replaced place ([], tree_at place kids last) kids last ≡ (kids, last)
same_row place [] last = refl
same_row zero (kid ∷ kids) last = refl
same_row {T} {K} (suc place) (kid ∷ kids) last = ap (λ (side : Side T K). behind (kid ∷ []) side) (same_row place kids last)

pub row_split : {T K X : Type 0} (f : T → List X) (between : K → List X) (place : ℕ) (kids : List (T × K)) (last : T)
    → each_of f between kids last ≡ left_at f between place kids last ++ (f (tree_at place kids last) ++ right_at f between place kids last)
row_split {T} {K} f between place kids last =
    sym (ap (λ (side : Side T K). each_of f between side.0 side.1) (same_row place kids last)) ∙ row_gives f between place ([], tree_at place kids last) kids last

-- ---- what it shows

abbrev pub seen : {T K : Type 0} → (T → ℕ) → Side T K → Side ℕ K
seen page side = (children page side.0, page side.1)

pub children_append : {T K : Type 0} (page : T → ℕ) (xs ys : List (T × K)) → children page (xs ++ ys) ≡ children page xs ++ children page ys
children_append page [] ys = refl
children_append {T} {K} page (x ∷ xs) ys = ap (λ (cells : List (ℕ × K)). (page x.0, x.1) ∷ cells) (children_append page xs ys)

pub seen_row : {T K : Type 0} (page : T → ℕ) (place : ℕ) (window : Side T K) (kids : List (T × K)) (last : T)
    → seen page (replaced place window kids last) ≡ replaced place (seen page window) (children page kids) (page last)
seen_row page place window [] last = refl
seen_row {T} {K} page zero window (kid ∷ kids) last = ap (λ (cells : List (ℕ × K)). (cells, page last)) (children_append page window.0 ((window.1, kid.1) ∷ kids))
seen_row {T} {K} page (suc place) window (kid ∷ kids) last = ap (λ (side : Side ℕ K). behind ((page kid.0, kid.1) ∷ []) side) (seen_row page place window kids last)

-- what a page says of the row, where others stand in place of one
pub pair_row : (m : PageMap) (size place : ℕ) (news : List (ℕ × Local)) (their : List (ℕ × Held)) (new other : ℕ) (said : List (ℕ × Local)) (kids : List (ℕ × Held)) (last its : ℕ)
    → Pairwise (IsKidAs m size) news their → new ≡ other → Pairwise (IsKidAs m size) said kids → last ≡ its
    → Pairwise (IsKidAs m size) (replaced place (news, new) said last).0 (replaced place (their, other) kids its).0 × ((replaced place (news, new) said last).1 ≡ (replaced place (their, other) kids its).1)
pair_row m size place news their new other [] [] last its pair same all ends = (pair, same)
pair_row m size place news their new other [] (kid ∷ kids) last its pair same all ends = absurd all
pair_row m size place news their new other (it ∷ said) [] last its pair same all ends = absurd all
pair_row m size zero news their new other (it ∷ said) (kid ∷ kids) last its pair same all ends =
    (pairwise_append (IsKidAs m size) news ((new, it.1) ∷ said) their ((other, kid.1) ∷ kids) pair ((same, all.0.1), all.1), ends)
pair_row m size (suc place) news their new other (it ∷ said) (kid ∷ kids) last its pair same all ends =
    (let rest = pair_row m size place news their new other said kids last its pair same all.1 ends in ((all.0, rest.0), rest.1))

pub child_there : {T K : Type 0} (page : T → ℕ) (place : ℕ) (kids : List (T × K)) (last : T) → child_at place (children page kids) (page last) ≡ page (tree_at place kids last)
child_there page place [] last = refl
child_there page zero (kid ∷ kids) last = refl
child_there page (suc place) (kid ∷ kids) last = child_there page place kids last

-- ---- what holds of each

pub holds_at : {T K : Type 0} (P : T → Type 0) (place : ℕ) (kids : List (T × K)) (last : T) → Each P kids last → P (tree_at place kids last)
holds_at P place [] last all = all
holds_at P zero (kid ∷ kids) last all = all.0
holds_at P (suc place) (kid ∷ kids) last all = holds_at P place kids last all.1

module _ {T K : Type 0} (P Q : T → Type 0) (pages : T → List ℕ) (between : K → List ℕ) (old new : PageMap) (size : ℕ) (one : (u : T) → AreKept old new size (pages u) → P u → Q u) where
  -- each of the row stays where those beside the one that changes are kept
  pub row_kept : (place : ℕ) (window : Side T K) (kids : List (T × K)) (last : T) → AreKept old new size (left_at pages between place kids last ++ right_at pages between place kids last)
      → Each Q window.0 window.1 → Each P kids last → Each Q (replaced place window kids last).0 (replaced place window kids last).1
  row_kept place window [] last kept its all = its
  row_kept zero window (kid ∷ kids) last kept its all =
      let rest = each_of pages between kids last in
      each_join Q window.0 window.1 kid.1 kids last its
      (each_kept P Q pages between old new size one kids last (kept_of old new size (between kid.1 ++ rest) rest (λ n some. (let e = occurs_append n (between kid.1) rest in omega (arith, e, some))) kept) all.1)
  row_kept (suc place) window (kid ∷ kids) last kept its all =
      let left = left_at pages between place kids last in
      let right = right_at pages between place kids last in
      let whole = (pages kid.0 ++ (between kid.1 ++ left)) ++ right in
      let a = λ (n : ℕ). occurs_append n (pages kid.0 ++ (between kid.1 ++ left)) right in
      let b = λ (n : ℕ). occurs_append n (pages kid.0) (between kid.1 ++ left) in
      let c = λ (n : ℕ). occurs_append n (between kid.1) left in
      let d = λ (n : ℕ). occurs_append n left right in (
        one kid.0 (kept_of old new size whole (pages kid.0) (λ n some. (let x = a n in let y = b n in omega (arith, x, y, some))) kept) all.0,
        row_kept place window kids last (kept_of old new size whole (left ++ right) (λ n some. (let x = a n in let y = b n in let z = c n in let w = d n in omega (arith, x, y, z, w, some))) kept) its all.1,
      )

-- the pages of one are among those of all
pub pages_among : {T K : Type 0} (pages : T → List ℕ) (place n : ℕ) (kids : List (T × K)) (last : T) → occurs n (pages (tree_at place kids last)) ≤ occurs n (flat_map pages (all_of kids last))
pages_among pages place n [] last = (let e = occurs_append n (pages last) [] in omega (arith, e))
pages_among pages zero n (kid ∷ kids) last = (let e = occurs_append n (pages kid.0) (flat_map pages (all_of kids last)) in omega (arith, e))
pages_among pages (suc place) n (kid ∷ kids) last = (let e = occurs_append n (pages kid.0) (flat_map pages (all_of kids last)) in let rest = pages_among pages place n kids last in omega (arith, e, rest))

-- ---- where an entry belongs

module _ {T : Type 0} (f : T → List Entry) (columns : List Collation) (x : Entry) where
  abbrev one_entry : Held → List Entry
  one_entry held = held.entry ∷ []

  abbrev Test : Held → Bool
  Test = is_less columns x

  nothing : Held
  nothing = record { entry = []; payload = []; pages = [] }

  all_append : (P : Entry → Type 0) (xs ys : List Entry) → AllByRecursion P xs → AllByRecursion P ys → AllByRecursion P (xs ++ ys)
  all_append P [] ys a b = b
  all_append P (e ∷ xs) ys a b = (a.0, all_append P xs ys a.1 b)

  -- all on the left of its child are less
  pub left_less : (kids : List (T × Held)) (last : T) → ComeFirst (greater columns x) (each_of f one_entry kids last)
      → AllByRecursion (λ e. greater columns x e ≡ true) (left_at f one_entry (front_count Test (entries_between kids)) kids last)
  left_less [] last first = tt
  left_less (kid ∷ kids) last first = by (is_gt (entry_cmp columns x kid.1.entry)) refl (left_less kids last (first_right (greater columns x) (f kid.0 ++ kid.1.entry ∷ []) (each_of f one_entry kids last)
      (subst (λ (es : List Entry). ComeFirst (greater columns x) es) (sym (append_assoc (f kid.0) (kid.1.entry ∷ []) (each_of f one_entry kids last))) first))) where
        by : (b : Bool) → is_gt (entry_cmp columns x kid.1.entry) ≡ b → AllByRecursion (λ e. greater columns x e ≡ true) (left_at f one_entry (front_count Test (entries_between kids)) kids last)
            → AllByRecursion (λ e. greater columns x e ≡ true) (left_at f one_entry (if b then suc (front_count Test (entries_between kids)) else 0) (kid ∷ kids) last)
        by true e more = all_append (λ e. greater columns x e ≡ true) (f kid.0) (kid.1.entry ∷ left_at f one_entry (front_count Test (entries_between kids)) kids last)
            (before_one (greater columns x) (f kid.0) kid.1.entry (each_of f one_entry kids last) first e) (e, more)
        by false e more = tt

  -- and all on its right are greater, where the entry there isn't equal
  pub right_greater : (kids : List (T × Held)) (last : T) → ComeFirst (not_less columns x) (each_of f one_entry kids last) → (IsEqualAt columns x (entries_between kids) (front_count Test (entries_between kids)) → ⊥)
      → AllByRecursion (λ e. not_less columns x e ≡ false) (right_at f one_entry (front_count Test (entries_between kids)) kids last)
  right_greater [] last first other = tt
  right_greater (kid ∷ kids) last first other =
      let rest : ComeFirst (not_less columns x) (kid.1.entry ∷ each_of f one_entry kids last) = first_right (not_less columns x) (f kid.0) (kid.1.entry ∷ each_of f one_entry kids last) first in
      by (is_gt (entry_cmp columns x kid.1.entry)) refl rest (λ more. right_greater kids last rest.1 more)
    where
      by : (b : Bool) → is_gt (entry_cmp columns x kid.1.entry) ≡ b → ComeFirst (not_less columns x) (kid.1.entry ∷ each_of f one_entry kids last)
          → ((IsEqualAt columns x (entries_between kids) (front_count Test (entries_between kids)) → ⊥) → AllByRecursion (λ e. not_less columns x e ≡ false) (right_at f one_entry (front_count Test (entries_between kids)) kids last))
          → AllByRecursion (λ e. not_less columns x e ≡ false) (right_at f one_entry (if b then suc (front_count Test (entries_between kids)) else 0) (kid ∷ kids) last)
      by true e rest more = more (λ equal. other (subst (λ (n : ℕ). IsEqualAt columns x (entries_between (kid ∷ kids)) n) (sym (count_more Test kid.1 (entries_between kids) e)) (omega (arith, equal.0), equal.1)))
      by false e rest more = by_bool (is_eq (entry_cmp columns x kid.1.entry)) (AllByRecursion (λ e. not_less columns x e ≡ false) (kid.1.entry ∷ each_of f one_entry kids last))
          (λ same. absurd (other (subst (λ (n : ℕ). IsEqualAt columns x (entries_between (kid ∷ kids)) n) (sym (count_none Test kid.1 (entries_between kids) e)) (omega arith, λ d. same))))
          (λ differs. after_one (not_less columns x) kid.1.entry (each_of f one_entry kids last) rest (neither_lt (entry_cmp columns x kid.1.entry) e differs))

  -- the entries between subtrees are among all
  pub keys_first : (test : Entry → Bool) (kids : List (T × Held)) (last : T) → ComeFirst test (each_of f one_entry kids last) → ComeFirst (λ (h : Held). test h.entry) (entries_between kids)
  keys_first test [] last first = tt
  keys_first test (kid ∷ kids) last first =
      let rest : ComeFirst test (kid.1.entry ∷ each_of f one_entry kids last) = first_right test (f kid.0) (kid.1.entry ∷ each_of f one_entry kids last) first in
      (λ e. among kids (rest.0 e), keys_first test kids last rest.1)
    where
      part : (xs ys : List Entry) → AllByRecursion (λ y. test y ≡ false) (xs ++ ys) → AllByRecursion (λ y. test y ≡ false) ys
      part [] ys all = all
      part (e ∷ xs) ys all = part xs ys all.1

      among : (kids : List (T × Held)) → AllByRecursion (λ y. test y ≡ false) (each_of f one_entry kids last) → AllByRecursion (λ h. test h.entry ≡ false) (entries_between kids)
      among [] all = tt
      among (kid ∷ kids) all = (let rest = part (f kid.0) (kid.1.entry ∷ each_of f one_entry kids last) all in (rest.0, among kids rest.1))

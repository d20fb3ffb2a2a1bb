-- A page above a subtree that has grown.
use Rattle.std.proofs.Common.{◌≡◌, ℕ, zero, suc, true, false, List, [], ◌∷◌, ◌++◌, length, map, refl, sym, ap, subst, ◌∙◌, arith}
use Rattle.std.specs.List.{AllByRecursion}
use Rattle.sqlval.specs.declared.collation.Collation.{Collation}
use Rattle.pages.specs.Counting.{occurs, Moves}
use Rattle.pages.specs.Laws.{IsJoined}
use Rattle.pages.specs.Map.{PageMap, page_at, AreWhole}
use Rattle.pages.proofs.Moving.{occurs_append}
use Rattle.tree_overflow.proofs.Laying.{beside}
use Rattle.tree_page.specs.Cells.{Pairwise}
use Rattle.tree_page.specs.Node.{Local, Between, IsNode, IsEntryCell}
use Rattle.tree_pack.specs.Packing as packing
use Rattle.tree_pack.specs.Packing.{images, divider_bytes, Packs}
use Rattle.tree_pack.specs.Lists.{side_parts, all_sides}
use Rattle.tree_pack.specs.declared.spreading.Packed.{Packed}
use Rattle.tree_store.specs.Saying.{Says}
use Rattle.tree_store.specs.Sides.{Side, children, Each}
use Rattle.tree_store.specs.Staying.{AreKept}
use Rattle.tree_store.specs.Storing.{cells_of}
use Rattle.tree_store.specs.declared.storing.Fan.{Fan}
use Rattle.tree_store.proofs.Staying.{says_kept, occurs_here, kept_of}
use Rattle.tree_index.specs.Comparing.{front_count, is_less, child_at}
use Rattle.tree_index.specs.Entries.{Entry, AreEntries, has_entry}
use Rattle.tree_index.specs.Freeing.{chains_of, below_of}
use Rattle.tree_index.specs.Growing.{replaced, IsEqualAt, IsFanned, IsPlanned, IsUnder, IsPut, entries_in}
use Rattle.tree_index.specs.Tree.{Held, IsKidAs, IsInterior, Tree, top, entries_of, pages_of, Lies}
use Rattle.tree_index.proofs.Cutting.{cut_branch}
use Rattle.tree_index.proofs.Growth.{IsGrown, chain, pages_in}
use Rattle.tree_index.proofs.Inserts.{has_within, entries_part}
use Rattle.tree_index.proofs.Orders.{greater, not_less, greater_first, not_less_first}
use Rattle.tree_index.specs.Joining.{tree_at, left_at, right_at}
use Rattle.tree_index.proofs.Rows.{row_gives, row_split, same_row, seen, seen_row, pair_row, child_there, holds_at, row_kept, pages_among, left_less, right_greater}
use Rattle.tree_index.proofs.Shares.{beside_used, others_kept}
use Rattle.tree_index.proofs.Staying.{entry_kept, lies_kept}
use Rattle.tree_index.proofs.Subtrees.{entries_between, row_pages}

-- what is done to entries beside those that are less and those that are greater is done to the ones between
abbrev pub IsLocalTo : List Collation → Entry → (List Entry → List Entry) → Type 0
IsLocalTo columns x edit =
    (left mid right : List Entry) → AllByRecursion (λ e. greater columns x e ≡ true) left → AllByRecursion (λ e. not_less columns x e ≡ false) right
    → edit (left ++ (mid ++ right)) ≡ left ++ (edit mid ++ right)

abbrev one : Held → List Entry
one held = held.entry ∷ []

-- where packed pages begin: none is page 1
pub starts_at : (counts : List ℕ) → packing.start_of [] counts ≡ 0
starts_at [] = refl
starts_at (count ∷ counts) = refl

-- what a page says of children stays where the entries between them are kept
pub kids_kept : {T : Type 0} (old new : PageMap) (size : ℕ) (page : T → ℕ) (said : List (ℕ × Local)) (kids : List (T × Held)) → AreKept old new size (chains_of (entries_between kids))
    → Pairwise (IsKidAs old size) said (children page kids) → Pairwise (IsKidAs new size) said (children page kids)
kids_kept old new size page [] [] kept all = tt
kids_kept old new size page [] (kid ∷ kids) kept all = absurd all
kids_kept old new size page (it ∷ said) [] kept all = absurd all
kids_kept old new size page (it ∷ said) (kid ∷ kids) kept all =
    let rest = chains_of (entries_between kids) in
    let both = λ (n : ℕ). occurs_append n kid.1.pages rest in (
      (all.0.0, entry_kept old new size it.1 kid.1 (kept_of old new size (kid.1.pages ++ rest) kid.1.pages (λ n some. (let b = both n in omega (arith, b, some))) kept) all.0.1),
      kids_kept old new size page said kids (kept_of old new size (kid.1.pages ++ rest) rest (λ n some. (let b = both n in omega (arith, b, some))) kept) all.1,
    )

module _ (old : PageMap) (size number ways : ℕ) (columns : List Collation) (x : Entry) (depth : ℕ) (t : Tree (suc depth)) (free : List ℕ)
    (under : IsUnder old size number (suc ways) columns (suc depth) t free)
    (other : IsEqualAt columns x (entries_between t.kids) (front_count (is_less columns x) (entries_between t.kids)) → ⊥) where
  abbrev Row : Type 0
  Row = Side (Tree depth) Held

  abbrev pub place : ℕ
  place = front_count (is_less columns x) (entries_between t.kids)

  -- the subtree where the entry belongs
  abbrev pub kid : Tree depth
  kid = tree_at place t.kids t.last

  abbrev pub left : List Entry
  left = left_at (entries_of depth) one place t.kids t.last

  abbrev pub right : List Entry
  right = right_at (entries_of depth) one place t.kids t.last

  abbrev others : List ℕ
  others = left_at (pages_of depth) chain place t.kids t.last ++ right_at (pages_of depth) chain place t.kids t.last

  more : AllByRecursion (λ e. greater columns x e ≡ true) left
  more = left_less (entries_of depth) columns x t.kids t.last (greater_first columns x (entries_of (suc depth) t) under.sorted)

  fewer : AllByRecursion (λ e. not_less columns x e ≡ false) right
  fewer = right_greater (entries_of depth) columns x t.kids t.last (not_less_first columns x (entries_of (suc depth) t) under.sorted) other

  pub split : entries_of (suc depth) t ≡ left ++ (entries_of depth kid ++ right)
  split = row_split (entries_of depth) one place t.kids t.last

  joined : (window : Row) → IsJoined (pages_in depth window.0 window.1) others (pages_in depth (replaced place window t.kids t.last).0 (replaced place window t.kids t.last).1)
  joined window n =
      let a = left_at (pages_of depth) chain place t.kids t.last in
      let b = right_at (pages_of depth) chain place t.kids t.last in
      let mid = pages_in depth window.0 window.1 in
      let e = ap (occurs n) (row_gives (pages_of depth) chain place window t.kids t.last) in
      let one = occurs_append n a (mid ++ b) in
      let two = occurs_append n mid b in
      let both = occurs_append n a b in
      omega (arith, e, one, two, both)

  joined_old : IsJoined (pages_of depth kid) others (pages_in depth t.kids t.last)
  joined_old n =
      let a = left_at (pages_of depth) chain place t.kids t.last in
      let b = right_at (pages_of depth) chain place t.kids t.last in
      let e = ap (occurs n) (row_split (pages_of depth) chain place t.kids t.last) in
      let one = occurs_append n a (pages_of depth kid ++ b) in
      let two = occurs_append n (pages_of depth kid) b in
      let both = occurs_append n a b in
      omega (arith, e, one, two, both)

  pub under_child : IsUnder old size (top depth kid) ways columns depth kid free
  under_child = record {
    stands = record {
      top_is = refl;
      lies = holds_at (Lies old size depth) place t.kids t.last under.stands.lies.1;
      shallow = (let le = under.stands.shallow in omega (arith, le));
      apart = λ n. (let all = under.stands.apart n in let part = joined_old n in omega (arith, all, part));
      first = (let none = under.stands.first in let part = joined_old 1 in omega (arith, none, part));
      free_are = under.stands.free_are;
    };
    sorted = entries_part columns left (entries_of depth kid) right (subst (λ (es : List Entry). AreEntries columns es) split under.sorted);
    sized = under.sized;
  }

  pub has_same : has_entry columns x (entries_of (suc depth) t) ≡ has_entry columns x (entries_of depth kid)
  has_same = ap (has_entry columns x) split ∙ has_within columns x left (entries_of depth kid) right more fewer

  -- what is done to the entries is done to those of the subtree
  pub about : (edit : List Entry → List Entry) → IsLocalTo columns x edit → edit (entries_of (suc depth) t) ≡ left ++ (edit (entries_of depth kid) ++ right)
  about edit local = ap edit split ∙ local left (entries_of depth kid) right more fewer

  entries_with : (edit : List Entry → List Entry) → IsLocalTo columns x edit → (window : Row) → entries_in depth window.0 window.1 ≡ edit (entries_of depth kid)
      → entries_in depth (replaced place window t.kids t.last).0 (replaced place window t.kids t.last).1 ≡ edit (entries_of (suc depth) t)
  entries_with edit local window e =
      row_gives (entries_of depth) one place window t.kids t.last ∙ ap (λ (es : List Entry). left ++ (es ++ right)) e ∙ sym (about edit local)

  -- ---- the page with others in place of the child

  module _ (mid : PageMap) (window : Row) (now_free : List ℕ) (moves : Moves old mid (pages_of depth kid) free (pages_in depth window.0 window.1) now_free)
      (lies : Each (Lies mid size depth) window.0 window.1) where
    abbrev side : Row
    side = replaced place window t.kids t.last

    whole_mid : AreWhole size mid
    whole_mid = moves.whole size (under.stands.free_are).whole

    kept : AreKept old mid size (t.page ∷ others)
    kept = others_kept old mid size (pages_of depth kid) free (pages_in depth window.0 window.1) now_free (t.page ∷ others) (under.stands.free_are).whole moves
        (λ n some. (let all = under.stands.apart n in let part = joined_old n in omega (arith, all, part, some)))

    side_lies : Each (Lies mid size depth) side.0 side.1
    side_lies = row_kept (Lies old size depth) (Lies mid size depth) (pages_of depth) chain old mid size (λ u k its. lies_kept old mid size depth u k its) place window t.kids t.last
        (kept_of old mid size (t.page ∷ others) others (λ n some. omega (arith, some)) kept) lies under.stands.lies.1

    side_moves : Moves old mid (pages_in depth t.kids t.last) free (pages_in depth side.0 side.1) now_free
    side_moves = beside_used old mid (pages_of depth kid) free (pages_in depth window.0 window.1) now_free others (pages_in depth t.kids t.last) (pages_in depth side.0 side.1) moves joined_old (joined window)

    abbrev said : List (ℕ × Local)
    said = (under.stands.lies.0).said

    page_says : Says mid t.page (Between said (top depth t.last))
    page_says = says_kept old mid size t.page (t.page ∷ others) (Between said (top depth t.last)) kept (occurs_here t.page others) (under.stands.lies.0).says

    kids_shown : Pairwise (IsKidAs mid size) said (children (top depth) t.kids)
    kids_shown = kids_kept old mid size (top depth) said t.kids
        (kept_of old mid size (t.page ∷ others) (chains_of (entries_between t.kids)) (λ n some.
        (let row = row_pages (pages_of depth) n t.kids t.last in let part = joined_old n in let le = pages_among (pages_of depth) place n t.kids t.last in omega (arith, row, part, le, some))) kept)
        (under.stands.lies.0).children

  -- ---- one page in place of the child, which kept its number

  pub put_parts : (edit : List Entry → List Entry) → edit (entries_of (suc depth) t) ≡ left ++ (edit (entries_of depth kid) ++ right)
      → (mid : PageMap) → IsPut old mid size (top depth kid) depth (edit (entries_of depth kid)) (pages_of depth kid) free
      → IsPut old mid size number (suc depth) (edit (entries_of (suc depth) t)) (pages_of (suc depth) t) free
  put_parts edit parts mid p =
      let window : Row = ([], p.tree) in
      let s = replaced place window t.kids t.last in
      let same : seen (top depth) s ≡ (children (top depth) t.kids, top depth t.last) = (
      seen_row (top depth) place window t.kids t.last ∙ ap (λ (n : ℕ). replaced place ([], n) (children (top depth) t.kids) (top depth t.last)) (p.top_is ∙ sym (child_there (top depth) place t.kids t.last) ∙ there place (children (top depth) t.kids) (top depth t.last))
      ∙ same_row place (children (top depth) t.kids) (top depth t.last)) in
      let page = page_says mid window p.now_free p.moves p.lies in
      let interior : IsInterior mid size t.page (children (top depth) t.kids) (top depth t.last) = record { said = (under.stands.lies.0).said; says = page; children = kids_shown mid window p.now_free p.moves p.lies } in
      record {
        tree = record { page = t.page; kids = s.0; last = s.1 };
        top_is = under.stands.top_is;
        lies = (
          subst (λ (shown : Side ℕ Held). IsInterior mid size t.page shown.0 shown.1) (sym same) interior,
          side_lies mid window p.now_free p.moves p.lies,
        );
        entries_are = row_gives (entries_of depth) one place window t.kids t.last ∙ ap (λ (es : List Entry). left ++ (es ++ right)) p.entries_are ∙ sym parts;
        now_free = p.now_free;
        has = p.has;
        moves = beside old mid (pages_in depth t.kids t.last) free (pages_in depth s.0 s.1) p.now_free t.page (side_moves mid window p.now_free p.moves p.lies);
        header = p.header;
      }
    where
      there : (place : ℕ) (kids : List (ℕ × Held)) (last : ℕ) → child_at place kids last ≡ tree_at place kids last
      there place [] last = refl
      there zero (kid ∷ kids) last = refl
      there (suc place) (kid ∷ kids) last = there place kids last

  pub put_above : (edit : List Entry → List Entry) → IsLocalTo columns x edit → (mid : PageMap) → IsPut old mid size (top depth kid) depth (edit (entries_of depth kid)) (pages_of depth kid) free
      → IsPut old mid size number (suc depth) (edit (entries_of (suc depth) t)) (pages_of (suc depth) t) free
  put_above edit local mid p = put_parts edit (about edit local) mid p

  -- the pages below the page have moved, and not the page
  pub put_moves : (edit : List Entry → List Entry) (local : IsLocalTo columns x edit) (mid : PageMap) (p : IsPut old mid size (top depth kid) depth (edit (entries_of depth kid)) (pages_of depth kid) free)
      → Moves old mid (below_of (suc depth) t) free (below_of (suc depth) (put_above edit local mid p).tree) (put_above edit local mid p).now_free
  unfolding put_above put_parts
  put_moves edit local mid p = side_moves mid ([], p.tree) p.now_free p.moves p.lies

  pub grown_alone : (edit : List Entry → List Entry) (mid : PageMap) (fan : Fan) (g : IsGrown old mid size (top depth kid) depth (edit (entries_of depth kid)) (pages_of depth kid) free fan) → cells_of fan ≡ []
      → IsPut old mid size (top depth kid) depth (edit (entries_of depth kid)) (pages_of depth kid) free
  grown_alone edit mid fan g none =
      let alone = g.alone none in
      record {
        tree = g.last;
        top_is = g.last_is ∙ alone.1;
        lies = subst (λ (ks : List (Tree depth × Held)). Each (Lies mid size depth) ks g.last) alone.0 g.lies;
        entries_are = subst (λ (ks : List (Tree depth × Held)). entries_in depth ks g.last ≡ edit (entries_of depth kid)) alone.0 g.entries_are;
        now_free = g.now_free;
        has = g.has;
        moves = subst (λ (ks : List (Tree depth × Held)). Moves old mid (pages_of depth kid) free (pages_in depth ks g.last) g.now_free) alone.0 g.moves;
        header = g.header;
      }

  -- ---- several pages in place of the child

  module _ (edit : List Entry → List Entry) (mid : PageMap) (fan : Fan) (g : IsGrown old mid size (top depth kid) depth (edit (entries_of depth kid)) (pages_of depth kid) free fan) where
    -- the page's children are these, and so it says
    pub page_at_mid : Says mid number (Between (under.stands.lies.0).said (top depth t.last))
    page_at_mid = subst (λ (n : ℕ). Says mid n (Between (under.stands.lies.0).said (top depth t.last))) under.stands.top_is (page_says mid (g.kids, g.last) g.now_free g.moves g.lies)

    pub long_mid : length (page_at mid number) ≡ size
    long_mid = whole_mid mid (g.kids, g.last) g.now_free g.moves g.lies number page_at_mid.has

    pub plan_above : IsLocalTo columns x edit → (packed : Packed) → IsFanned (page_at mid number) (replaced place (g.news, fan.last) (under.stands.lies.0).said (top depth t.last)) fan packed
        → IsPlanned old mid size (suc depth) (edit (entries_of (suc depth) t)) (below_of (suc depth) t) free packed
    plan_above local packed is =
        let window : Row = (g.kids, g.last) in
        let s = replaced place window t.kids t.last in
        let said = (under.stands.lies.0).said in
        let shows = replaced place (g.news, fan.last) said (top depth t.last) in
        let packs = is.packs in
        let pair = pair_row mid size place g.news (children (top depth) g.kids) fan.last (top depth g.last) said (children (top depth) t.kids) (top depth t.last) (top depth t.last) g.shown (sym g.last_is)
        (kids_shown mid window g.now_free g.moves g.lies) refl in
        let same : seen (top depth) s ≡ replaced place (children (top depth) g.kids, top depth g.last) (children (top depth) t.kids) (top depth t.last) = seen_row (top depth) place window t.kids t.last in
        let hold = subst (λ (shown : Side ℕ Held). Pairwise (IsKidAs mid size) shows.0 shown.0) (sym same) pair.0 in
        let ends : shows.1 ≡ top depth s.1 = pair.1 ∙ sym (ap (λ (shown : Side ℕ Held). shown.1) same) in
        let says = subst (λ (n : ℕ). Pairwise (λ image node. IsNode image n node) (images packed) (map (λ side. Between side.0 side.1) (all_sides (side_parts packs.counts (shows.0, shows.1)).0 (side_parts packs.counts (shows.0, shows.1)).1))) (starts_at packs.counts) packs.say in
        let divide = subst (λ (n : ℕ). Pairwise (IsEntryCell n) (divider_bytes packed) (map (λ part. part.1) (side_parts packs.counts (shows.0, shows.1)).0)) long_mid packs.divide in
        let cut = cut_branch mid size depth packs.counts shows.0 shows.1 s.0 s.1 (images packed) (divider_bytes packed) hold ends (side_lies mid window g.now_free g.moves g.lies) says divide in
        record {
          kids = cut.tops_of;
          last = cut.last_of;
          tops = cut.tops;
          divide = cut.divide;
          entries_are = sym (cut.gives (entries_of depth) one) ∙ entries_with edit local window g.entries_are;
          now_free = g.now_free;
          has = g.has;
          moves = subst (λ (pages : List ℕ). Moves old mid (below_of (suc depth) t) free pages g.now_free) (cut.gives (pages_of depth) chain) (side_moves mid window g.now_free g.moves g.lies);
          header = g.header;
          sized = subst (λ (n : ℕ). AllByRecursion (λ image. length image ≡ n) (images packed)) long_mid packs.sized;
          few = (let le = is.few in omega (arith, le));
        }

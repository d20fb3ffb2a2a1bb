-- A tree under a root that has one more entry.
use Rattle.std.proofs.Common.{◌≡◌, ◌≤◌, ◌<◌, ◌+◌, ◌*◌, ℕ, suc, ◌⊎◌, Bool, true, false, List, [], ◌∷◌, ◌++◌, length, map, refl, sym, ap, subst, ◌∙◌, inl, inr, arith}
use Rattle.std.proofs.lemmas.List.{length-map}
use Rattle.std.specs.List.{AllByRecursion}
use Rattle.std.specs.Prelude.{⊤, Option, None, Some, is_some, Result, Ok, Err, IsErrAnd, MatchResult, take, zero}
use Rattle.sqlval.specs.declared.fault.Fault.TheVariants.{Memory, TooLong}
use Rattle.record.specs.Writing.{AreStorable}
use Rattle.sqlval.specs.declared.collation.Collation.{Collation}
use Rattle.sqlval.specs.declared.fault.Fault.{Fault}
use Rattle.record.specs.Record.{IsRecord}
use Rattle.pages.specs.Calls.{IsOutsideOrFull}
use Rattle.pages.specs.Counting.{occurs, start_of, Moves}
use Rattle.pages.specs.Map.{PageMap, page_at, Has}
use Rattle.pages.proofs.Moving.{in_sequence, occurs_append}
use Rattle.freelist.specs.Calls.{AreFree, HasFree, KeepsHeader}
use Rattle.tree_overflow.proofs.Laying.{keeps_then}
use Rattle.tree_page.specs.Cells.{Pairwise}
use Rattle.tree_page.specs.Node.{Between, IsNode, IsBetweenCell}
use Rattle.tree_page.specs.Payload.{index_most}
use Rattle.tree_page.specs.declared.items.Kind.TheVariants.{IndexInterior}
use Rattle.tree_pack.specs.Packing.{images, divider_bytes}
use Rattle.tree_pack.specs.Parts.{total}
use Rattle.tree_pack.specs.declared.spreading.Packed.{Packed}
use Rattle.tree_pack.specs.declared.spreading.Piece.{Piece}
use Rattle.tree_pack.proofs.SmallLemmas.{entry_len}
use Rattle.tree_store.specs.Saying.{Says}
use Rattle.tree_store.specs.Sides.{children, each_of}
use Rattle.tree_store.specs.Staying.{AreKept}
use Rattle.tree_store.specs.Storing.{CanRoot, IsRewritten, IsLifted, IsRooted, cells_over}
use Rattle.tree_store.proofs.PutPages.{put_there}
use Rattle.tree_index.specs.Calls.{Stands, BecomesEntries, IsFirstInserted, IsFirstThere, IsInsertedBy, IsInsertRefusal, IsRunInserted, IsFirstRefusal}
use Rattle.sqlval.specs.declared.value.Value.{Value}
use Rattle.tree_index.specs.Entries.{Entry, AreEntries, AreLong, ComeInTurn, has_entry, put_before, with_entries, with_entry, LeadsTo}
use Rattle.tree_index.specs.Flattening.{StoresTop}
use Rattle.tree_index.specs.Freeing.{all_of, below_of, StandsUnder}
use Rattle.tree_index.specs.Growing.{IsTop, IsDivider, IsPlanned, IsPut, IsUnder, IsChanged, Changes, entries_in}
use Rattle.tree_index.specs.Tree.{Held, IsInterior, Tree, top, entries_of, pages_of, Lies}
use Rattle.tree_index.specs.declared.growing.Change.{Change}
use Rattle.tree_index.specs.declared.growing.Change.TheVariants.{There, Same, Spread}
use Rattle.tree_index.proofs.Clearing.{top_and_below}
use Rattle.tree_index.proofs.Emptied.{large_size, standing, can_stand}
use Rattle.tree_index.proofs.Growth.{chain, pages_in, moves_top, planned_after, planned_once, number_there, number_unfree}
use Rattle.tree_index.proofs.Inserts.{still_rise}
use Rattle.tree_index.proofs.Going.{first_long}
use Rattle.tree_index.proofs.Within.{all_rise, in_turn}
use Rattle.tree_index.proofs.Planting.{lone_top, plant, tops_kept, dividers_kept, moved_to, top_moved, entries_moved, pages_moved, lies_moved}
use Rattle.tree_index.proofs.Clearing.{number_far}
use Rattle.tree_index.proofs.Shares.{after, beside_used, others_kept, start_after}
use Rattle.tree_index.proofs.Subtrees.{tree_up}

pub not_true : {b : Bool} → b ≡ true → b ≡ false → ⊥
not_true yes_is no_is = cc

module _ (old : PageMap) (size root : ℕ) (columns : List Collation) (entries : List Entry) (used free : List ℕ) (is : Stands old size root columns entries used free) where
  abbrev depth : ℕ
  depth = is.tree.depth

  abbrev tree : Tree depth
  tree = is.tree.tree

  pub root_stands : StandsUnder old size root 19 depth tree free
  root_stands = standing old size root columns entries used free is

  pub root_under : IsUnder old size root 19 columns depth tree free
  root_under = record { stands = root_stands; sorted = subst (λ (es : List Entry). AreEntries columns es) (sym is.tree.entries_are) is.tree.sorted; sized = is.sized }

  pub becomes : (new : PageMap) (deep : ℕ) (t : Tree deep) (all : List Entry) (now_free : List ℕ) → deep < 20 → top deep t ≡ root → Lies new size deep t → entries_of deep t ≡ all → AreEntries columns all
      → HasFree new size now_free → Moves old new (pages_of depth tree) free (pages_of deep t) now_free → KeepsHeader old new → BecomesEntries old new size root columns all used free
  becomes new deep t all now_free shallow at lies holds sorted has moves header =
      let beside = root_stands in
      let now = after old new size (pages_of depth tree) free (pages_of deep t) now_free beside.free_are moves has (tree_up old size depth tree beside.lies) beside.apart beside.first in
      record {
        now_used = pages_of deep t;
        now_free = now_free;
        stands = record {
          tree = record {
            depth = deep;
            tree = t;
            shallow = shallow;
            root_is = at;
            lies = lies;
            entries_are = holds;
            sorted = sorted;
            used_are = refl;
            once = record { once = λ n. (let both = now.apart n in omega (arith, both)) };
          };
          free_are = now.are;
          apart = now.apart;
          first = now.first;
          sized = is.sized;
        };
        moves = subst (λ (pages : List ℕ). Moves old new pages free (pages_of deep t) now_free) is.tree.used_are moves;
        header = header;
      }

  pub put_becomes : (new : PageMap) (deep : ℕ) (all : List Entry) → deep < 20 → AreEntries columns all → IsPut old new size root deep all (pages_of depth tree) free → BecomesEntries old new size root columns all used free
  put_becomes new deep all shallow sorted p = becomes new deep p.tree all p.now_free shallow p.top_is p.lies p.entries_are sorted p.has p.moves p.header

  -- what stands where the old tree did
  pub put_stands : (new : PageMap) (deep ways : ℕ) (all : List Entry) → deep ≤ ways → (p : IsPut old new size root deep all (pages_of depth tree) free) → StandsUnder new size root ways deep p.tree p.now_free
  put_stands new deep ways all shallow p =
      let beside = root_stands in
      let now = after old new size (pages_of depth tree) free (pages_of deep p.tree) p.now_free beside.free_are p.moves p.has (tree_up old size depth tree beside.lies) beside.apart beside.first in
      record { top_is = p.top_is; lies = p.lies; shallow = shallow; apart = now.apart; first = now.first; free_are = now.are }

  -- ---- packed pages in place of the root's

  module _ (mid : PageMap) (all : List Entry) (sorted : AreEntries columns all) (packed : Packed) (plan : IsPlanned old mid size depth all (below_of depth tree) free packed) where
    abbrev at_parts : List ℕ
    at_parts = each_of (below_of depth) chain plan.kids plan.last

    far : 1 < root
    far = number_far old size root 19 depth tree free root_stands

    pub root_free : AreFree mid size plan.now_free
    root_free = (planned_after old mid size root 19 depth tree free root_stands all packed plan).are

    pub root_there : Has mid root
    root_there = number_there old mid size root 19 depth tree free root_stands all packed plan

    pub root_unfree : occurs root plan.now_free ≡ 0
    root_unfree = number_unfree old mid size root 19 depth tree free root_stands all packed plan

    last_sized : (pages : List (List ℕ)) (page : List ℕ) → AllByRecursion (λ image. length image ≡ size) (pages ++ page ∷ []) → length page ≡ size
    last_sized [] page h = h.0
    last_sized (other ∷ pages) page h = last_sized pages page h.1

    -- at most two cells of the root's page
    short : (dividers : List (List ℕ)) (held : List Held) → 512 ≤ size → length dividers ≤ 2 → Pairwise (IsDivider mid size) dividers held → total (map (λ divider. length divider + 6) dividers) ≤ 2 * (index_most size + 19)
    short [] held big le divide = omega arith
    short (one ∷ dividers) [] big le divide = absurd divide
    short (one ∷ []) (h ∷ held) big le divide = (let len = entry_len size one divide.0.said big divide.0.cell in omega (arith, len))
    short (one ∷ other ∷ dividers) (h ∷ []) big le divide = absurd divide.1
    short (one ∷ other ∷ []) (h ∷ more ∷ held) big le divide =
        (let len = entry_len size one divide.0.said big divide.0.cell in let next = entry_len size other divide.1.0.said big divide.1.0.cell in omega (arith, len, next))
    short (one ∷ other ∷ another ∷ dividers) (h ∷ more ∷ held) big le divide = absurd (omega (arith, le))

    pub can_root : CanRoot mid size root packed
    can_root =
        let sizes = large_size size is.sized in
        record {
          sized = plan.sized;
          front = λ none. can_stand mid size root packed.last.items far (last_sized (map (λ (piece : Piece). piece.page.items) packed.pieces.items) packed.last.items plan.sized);
          addressed = sizes.1;
          room = (let start = start_after root far in let len = length-map packed.pieces.items (λ (piece : Piece). piece.divider.items) in let few = plan.few in let big = sizes.0 in
              let small = short (divider_bytes packed) (map (λ kid. kid.1) plan.kids) sizes.0 (omega (arith, len, few)) plan.divide in
              omega (arith, start, small, big));
        }

    module _ (new : PageMap) (now_used now_free : List ℕ) (moves : Moves mid new (root ∷ []) plan.now_free now_used now_free) where
      kept : AreKept mid new size at_parts
      kept = others_kept mid new size (root ∷ []) plan.now_free now_used now_free at_parts root_free.whole moves
          (λ n some. (let once = planned_once old mid size root 19 depth tree free root_stands all packed plan n in omega (arith, once, some)))

      tops_now : Pairwise (IsTop new size depth) (images packed) (all_of plan.kids plan.last)
      tops_now = tops_kept mid new size depth (images packed) plan.kids plan.last kept plan.tops

      moves_now : (pages : List ℕ) → ((n : ℕ) → occurs n pages ≡ occurs n now_used + occurs n at_parts) → Moves old new (pages_of depth tree) free pages now_free
      moves_now pages counts =
          let first = moves_top old mid size root 19 depth tree free root_stands all packed plan in
          let second = beside_used mid new (root ∷ []) plan.now_free now_used now_free at_parts (root ∷ at_parts) pages moves (λ n. occurs_append n (root ∷ []) at_parts) counts in
          subst (λ (was : List ℕ). Moves old new was free pages now_free) (sym (top_and_below old size root 19 depth tree free root_stands))
          (in_sequence old mid new (root ∷ below_of depth tree) free (root ∷ at_parts) plan.now_free pages now_free first second)

    -- one page took the place of the root's
    rewritten_becomes : (new : PageMap) → packed.pieces.items ≡ [] → IsRewritten mid new size plan.now_free root packed.last.items → BecomesEntries old new size root columns all used free
    rewritten_becomes new none r =
        let alone = lone_top new size depth packed.pieces.items packed.last.items plan.kids plan.last none (tops_now new (root ∷ []) plan.now_free r.moves) in
        let t = moved_to depth root plan.last in
        let there = root_there in
        let bytes : page_at new root ≡ packed.last.items = ap (λ (m : PageMap). page_at m root) r.is ∙ put_there mid root packed.last.items there in
        let says : Says new root (alone.1).node = record {
          has = record { first = there.first; last = (let b = there.last in let longer = (r.moves).longer in omega (arith, b, longer)) };
          node_is = subst (λ (n : ℕ). IsNode (page_at new root) n (alone.1).node) (sym (start_after root far)) (subst (λ (page : List ℕ). IsNode page 0 (alone.1).node) (sym bytes) (alone.1).says);
        } in
        becomes new depth t all plan.now_free is.tree.shallow (top_moved depth root plan.last) (lies_moved new size depth root plan.last (alone.1).node (alone.1).shows says)
        (entries_moved depth root plan.last ∙ subst (λ (ks : List (Tree depth × Held)). entries_in depth ks plan.last ≡ all) alone.0 plan.entries_are) sorted r.has
        (moves_now new (root ∷ []) plan.now_free r.moves (pages_of depth t) (λ n.
        (let e = ap (occurs n) (pages_moved depth root plan.last) in let s = occurs_append n (root ∷ []) (below_of depth plan.last) in
        let f = ap (λ (ks : List (Tree depth × Held)). occurs n (each_of (below_of depth) chain ks plan.last)) alone.0 in omega (arith, e, s, f))))
        (keeps_then old mid new plan.header r.header)

    -- the root is a page above several
    pub lifted_put : (new : PageMap) → IsLifted mid new size root IndexInterior plan.now_free packed → IsPut old new size root (suc depth) all (pages_of depth tree) free
    lifted_put new l =
        let numbers = root ∷ (l.fronts ++ l.last ∷ []) in
        let keep = kept new numbers l.now_free l.moves in
        let planted = plant new size depth l.fronts l.last (images packed) plan.kids plan.last (divider_bytes packed) l.on (tops_now new numbers l.now_free l.moves)
        (dividers_kept mid new size depth (divider_bytes packed) plan.kids plan.last keep plan.divide) in
        let t : Tree (suc depth) = record { page = root; kids = planted.kids; last = planted.last } in
        let long : length (page_at new root) ≡ size = (l.moves).whole size root_free.whole root l.has_root in
        let interior : IsInterior new size root (children (top depth) planted.kids) (top depth planted.last) = record {
          said = planted.news;
          says = record {
            has = l.has_root;
            node_is = subst (λ (n : ℕ). IsNode (page_at new root) (start_of root) (Between planted.news n)) (sym planted.last_is)
                (record { cells = cells_over l.fronts (divider_bytes packed); page_is = l.root_is; say = (subst (λ (n : ℕ). Pairwise (IsBetweenCell n) (cells_over l.fronts (divider_bytes packed)) planted.news) (sym long) planted.cells, planted.near) });
          };
          children = planted.shown;
        } in
        record {
          tree = t;
          top_is = refl;
          lies = (interior, planted.lies);
          entries_are = planted.entries_are ∙ plan.entries_are;
          now_free = l.now_free;
          has = l.has;
          moves = moves_now new numbers l.now_free l.moves (pages_of (suc depth) t) (λ n.
              (let pages = planted.pages_are n in let a = occurs_append n (root ∷ []) (pages_in depth planted.kids planted.last) in
              let b = occurs_append n (root ∷ []) (l.fronts ++ l.last ∷ []) in omega (arith, pages, a, b)));
          header = keeps_then old mid new plan.header l.header;
        }

    pub rooted_becomes : (new : PageMap) → ((packed.pieces.items ≡ [] → ⊥) → depth < 19) → IsRooted mid new size root IndexInterior plan.now_free packed → BecomesEntries old new size root columns all used free
    rooted_becomes new shallow (inl alone) = rewritten_becomes new alone.0 alone.1
    rooted_becomes new shallow (inr lifted) = (let lt = shallow lifted.0 in put_becomes new (suc depth) all (omega (arith, lt)) sorted (lifted_put new lifted.1))

  -- ---- what the calls answer

  module _ (x : List Value) (y : Entry) (rest : List Entry) (leads : LeadsTo columns x y) (payload : List ℕ) (record_is : IsRecord payload y) (long : AreLong columns (y ∷ rest)) where
    changed : (new : PageMap) (change : Change) → Changes old new size root 19 columns x payload rest (Ok change) → IsChanged old new size root 19 columns x y rest depth tree free change
    changed new change changes = changes y depth tree free root_under leads record_is long

    pub change_refused : (new : PageMap) (fault : Fault) → Changes old new size root 19 columns x payload rest (Err fault) → IsOutsideOrFull fault
    change_refused new fault changes = changes y depth tree free root_under leads record_is long

    none : has_entry columns x (entries_of depth tree) ≡ false → has_entry columns x entries ≡ false
    none e = sym (ap (has_entry columns x) is.tree.entries_are) ∙ e

    none_such : has_entry columns x (entries_of depth tree) ≡ false → has_entry columns y entries ≡ false
    none_such e = (leads entries (none e)).0

    -- the key's place is the entry's
    placed : has_entry columns x (entries_of depth tree) ≡ false → put_before columns x y (entries_of depth tree) ≡ with_entry columns y entries
    placed e = (leads (entries_of depth tree) e).1 ∙ ap (with_entry columns y) is.tree.entries_are

    sorted_now : has_entry columns x (entries_of depth tree) ≡ false → AreEntries columns (put_before columns x y (entries_of depth tree))
    sorted_now e =
        let led = leads (entries_of depth tree) e in
        subst (AreEntries columns) (sym led.1) (still_rise columns y (entries_of depth tree) root_under.sorted led.0 long.0)

    pub inserted_there : (new : PageMap) → Changes old new size root 19 columns x payload rest (Ok There) → IsFirstInserted old new size root columns x y rest entries used free None
    inserted_there new changes = (let c = changed new There changes in (sym (ap (has_entry columns x) is.tree.entries_are) ∙ c.0, c.1))

    pub inserted_same : (new : PageMap) (more : ℕ) → Changes old new size root 19 columns x payload rest (Ok (Same more)) → IsFirstInserted old new size root columns x y rest entries used free (Some more)
    inserted_same new more changes =
        let c = changed new (Same more) changes in
        let others = take more rest in
        let put = put_before columns x y (entries_of depth tree) in
        let same = placed c.0 in (
          c.1.0,
          none c.0,
          (none_such c.0, subst (λ (es : List Entry). ComeInTurn columns others es) same (in_turn columns others put c.1.1)),
          subst (λ (es : List Entry). BecomesEntries old new size root columns es used free) (ap (with_entries columns others) same)
              (put_becomes new depth (with_entries columns others put) is.tree.shallow (all_rise columns others put (first_long columns more rest long.1) (sorted_now c.0) c.1.1) c.1.2),
        )

    module _ (mid : PageMap) (packed : Packed) (deep : Bool) (changes : Changes old mid size root 19 columns x payload rest (Ok (Spread packed deep))) where
      spread : IsChanged old mid size root 19 columns x y rest depth tree free (Spread packed deep)
      spread = changed mid (Spread packed deep) changes

      -- packed pages that are stored as the top
      pub inserted_spread : (new : PageMap) (result : Result ⊤ Fault) → StoresTop mid new size root packed deep result
          → MatchResult result (λ done. IsFirstInserted old new size root columns x y rest entries used free (Some 0)) IsOutsideOrFull
      inserted_spread new result stores = by result (stores old columns entries (put_before columns x y (entries_of depth tree)) used free is (sorted_now spread.0) spread.1 spread.2)
        where
          by : (result : Result ⊤ Fault) → MatchResult result (λ done. BecomesEntries old new size root columns (put_before columns x y (entries_of depth tree)) used free) IsOutsideOrFull
              → MatchResult result (λ done. IsFirstInserted old new size root columns x y rest entries used free (Some 0)) IsOutsideOrFull
          by (Ok done) now = (omega arith, none spread.0, (none_such spread.0, tt), subst (λ (es : List Entry). BecomesEntries old new size root columns es used free) (placed spread.0) now)
          by (Err fault) refused = refused

-- ---- one entry, or several

take_none : (n : ℕ) → take {A = Entry} n [] ≡ []
take_none zero = refl
take_none (suc n) = refl

module _ (old new : PageMap) (size root : ℕ) (columns : List Collation) (key : List Value) (y : Entry) (entries : List Entry) (used free : List ℕ) where
  pub one_inserted : (found : Option ℕ) (done : Bool) → done ≡ is_some found → IsFirstInserted old new size root columns key y [] entries used free found → IsInsertedBy old new size root columns key y entries used free done
  one_inserted None true is first = absurd cc
  one_inserted None false is first = first
  one_inserted (Some more) true is first = (first.1, subst (λ (es : List Entry). BecomesEntries old new size root columns es used free) (ap (λ (rest : List Entry). with_entries columns (y ∷ rest) entries) (take_none more)) first.3)
  one_inserted (Some more) false is first = absurd cc

module _ (old new : PageMap) (size root : ℕ) (columns : List Collation) (y : Entry) (rest given entries : List Entry) (used free : List ℕ) (whole : given ≡ y ∷ rest) where
  pub run_inserted : (more count : ℕ) → (more < length given → count ≡ more + 1) → IsFirstInserted old new size root columns y y rest entries used free (Some more)
      → IsRunInserted old new size root columns given entries used free count
  run_inserted more count counted first =
      let lt : more < length given = (let le = first.0 in let all = ap length whole in omega (arith, le, all)) in
      let count_is : suc more ≡ count = (let c = counted lt in omega (arith, c)) in
      subst (λ (n : ℕ). IsRunInserted old new size root columns given entries used free n) count_is
      (subst (λ (them : List Entry). IsRunInserted old new size root columns them entries used free (suc more)) (sym whole) (le_up first.0, first.2, first.3))
    where
      le_up : more ≤ length rest → suc more ≤ suc (length rest)
      le_up le = omega (arith, le)

  pub run_there : IsFirstInserted old new size root columns y y rest entries used free None → IsRunInserted old new size root columns given entries used free 0
  run_there first = subst (λ (them : List Entry). IsRunInserted old new size root columns them entries used free 0) (sym whole) first

pub none_first_in : (columns : List Collation) (given entries : List Entry) → length given ≡ 0 → IsFirstThere columns given entries
none_first_in columns [] entries none = tt
none_first_in columns (x ∷ given) entries none = absurd (omega (arith, none))

-- ---- exits

-- a record wasn't made
pub encode_err : {T : Type 0} (I : T → Type 0) (result : Result T Fault) (fault : Fault) (x : Entry) → IsErrAnd result (λ e. e ≡ fault) → (fault ≡ Memory) ⊎ ((fault ≡ TooLong) × (AreStorable x → ⊥))
    → MatchResult result I (IsInsertRefusal x)
encode_err I (Ok y) fault x is refused = absurd is
encode_err I (Err e) fault x is (inl memory) = inl (inl (inl (is ∙ memory)))
encode_err I (Err e) fault x is (inr large) = inr (is ∙ large.0, large.1)

-- what was put by its key was refused, of one entry and of several
pub put_err : {T : Type 0} (I : T → Type 0) (result : Result T Fault) (fault : Fault) (x : Entry) → IsErrAnd result (λ e. e ≡ fault) → IsOutsideOrFull fault → MatchResult result I (IsInsertRefusal x)
put_err I (Ok y) fault x is full = absurd is
put_err I (Err e) fault x is full = inl (subst IsOutsideOrFull (sym is) full)

pub run_err : {T : Type 0} (I : T → Type 0) (result : Result T Fault) (fault : Fault) (x : Entry) (rest given : List Entry) → given ≡ x ∷ rest → IsErrAnd result (λ e. e ≡ fault) → IsOutsideOrFull fault
    → MatchResult result I (IsFirstRefusal given)
run_err I (Ok y) fault x rest given whole is full = absurd is
run_err I (Err e) fault x rest given whole is full = subst (λ (them : List Entry). IsFirstRefusal them e) (sym whole) (inl (subst IsOutsideOrFull (sym is) full))

pub none_left : {A : Type 0} (xs : List A) → length xs ≡ 0 → xs ≡ []
none_left [] none = refl
none_left (x ∷ xs) none = absurd (omega (arith, none))

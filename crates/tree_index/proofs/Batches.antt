-- The entries that come in a tree from a key on.
use Rattle.std.proofs.Common.{◌≡◌, refl, sym, ◌∙◌, ap, subst, inl, inr, ◌⊎◌, ℕ, zero, suc, ◌<◌, ◌≤◌, ◌+◌, ◌-◌, Bool, true, false, not, ◌&&◌, cond, IsTrue, List, [], ◌∷◌, ◌++◌, append_assoc, length, map, filter, take, drop, slice_index_or, min, nat_le, if◌then◌else◌, Option, Some, None, Result, Ok, Err, arith}
use Rattle.std.proofs.lemmas.Bool.Decides.{leb_tells}
use Rattle.std.proofs.lemmas.List.{append-nil, drop_all, length-drop, take_min}
use Rattle.std.proofs.lemmas.List.Elements.{filter-append}
use Rattle.std.specs.declared.cmp.Ordering.{Ordering}
use Rattle.std.specs.declared.cmp.Ordering.TheVariants.{Less, Equal, Greater}
use Rattle.std.specs.Ordering.{is_lt, ordering_reverse}
use Rattle.sqlval.specs.Lists.{is_rising}
use Rattle.std.specs.List.{AllByRecursion}
use Rattle.std.specs.Prelude.{⊤, IfOk, IfErr, IsErrAnd, MatchResult}
use Rattle.sqlval.specs.Faults.{IsOutside, IsOrMemory}
use Rattle.sqlval.specs.declared.collation.Collation.{Collation}
use Rattle.sqlval.specs.declared.fault.Fault.{Fault}
use Rattle.sqlval.specs.declared.fault.Fault.TheVariants.{Memory}
use Rattle.sqlval.specs.declared.value.Value.{Value}
use Rattle.std.specs.Global.{Vec}
use Rattle.record.specs.Record.{IsRecord}
use Rattle.pages.specs.Calls.{Limits, Stays}
use Rattle.pages.specs.Counting.{start_of}
use Rattle.pages.specs.Map.{PageMap, AreWhole, page_at}
use Rattle.tree_overflow.proofs.ReadChains.{stays_after, stays_done}
use Rattle.tree_page.specs.Cells.{Pairwise}
use Rattle.tree_page.specs.Node.{Local, Node, IsNode, code_of}
use Rattle.tree_page.specs.Reading.{Place, type_of}
use Rattle.tree_page.specs.declared.items.Kind.{Kind}
use Rattle.tree_page.specs.declared.items.Kind.TheVariants.{IndexLeaf}
use Rattle.tree_page.specs.Payload.{index_most}
use Rattle.tree_pack.proofs.Splices.{pairwise_append}
use Rattle.tree_store.specs.Sides.{children, each_of}
use Rattle.tree_index.specs.Comparing.{HasEntries, ComeFirst, locals_of, FindsChild, FindsPlace, CountsEntries, front_count, is_before, child_of, child_at}
use Rattle.tree_index.specs.Entries.{Entry, AreEntries, entries_from, entry_cmp, is_passed}
use Rattle.tree_index.specs.Scanning.{coming, AreAll, IsBatch, GivesBelow, PushesEntry, PushesLying, AreCopied, CopiesEntries, CopiesFirst, CopiesLying}
use Rattle.tree_index.specs.Tree.{Held, IsHeldAs, Tree, top, entries_of, Lies, IsIndexTree}
use Rattle.tree_index.proofs.Comparisons.{value_at}
use Rattle.tree_index.proofs.Cutting.{values}
use Rattle.tree_index.proofs.Inserts.{entries_part, turn}
use Rattle.tree_index.proofs.Orders.{not_less, greater_first, not_less_first, before_one, after_one, first_right}
use Rattle.tree_index.proofs.Readings.{at_leaf, on_page, refused, says_it, since}
use Rattle.tree_index.specs.Joining.{tree_at, left_at, right_at}
use Rattle.tree_index.proofs.Rows.{row_split, child_there, holds_at, keys_first}
use Rattle.tree_index.proofs.Subtrees.{entries_at, entries_between, told}
use Rattle.tree_index.proofs.Widening.{kids_alike}

-- ---- values

pub values_refused : (result : Result (Vec Value) Fault) (fault : Fault) (P : Vec Value → Type 0) → IsErrAnd result (λ e. e ≡ fault) → fault ≡ Memory → IsOrMemory P result
values_refused (Ok o) fault P is memory = absurd is
values_refused (Err e) fault P is memory = is ∙ memory

pub values_are : (result : Result (Vec Value) Fault) (row entry : List Value) → row ≡ entry → IfOk result (λ values. values.items ≡ row) → IfErr result (λ fault. fault ≡ Memory) → IsOrMemory (λ values. values.items ≡ entry) result
values_are (Ok o) row entry same is refused = is ∙ same
values_are (Err fault) row entry same is refused = refused

pub nothing : Held
nothing = record { entry = []; payload = []; pages = [] }

abbrev pub records : List Held → List (List ℕ)
records held = map (λ h. h.payload) held

-- up to so many of these, and whether they are all
take_least : (place most : ℕ) (entries : List Held) → take (min most (length entries - place)) (drop place entries) ≡ take most (drop place entries)
take_least place most entries = ap (λ (n : ℕ). take (min most n) (drop place entries)) (sym (length-drop place entries)) ∙ take_min most (drop place entries)

pub inside : (place most len upto at : ℕ) → upto ≡ min most (len - place) → at < place + upto → place ≤ at → at < len
inside place most len upto at is lt le = omega (arith, is, lt, le)

are_all : (len count place most : ℕ) (all : Bool) → len ≡ count → all ≡ nat_le (len - place) most → AreAll count place most all
are_all len count place most all same is =
    let tells : ((nat_le (len - place) most ≡ true) × (len - place ≤ most)) ⊎ ((nat_le (len - place) most ≡ false) × (most < len - place)) = leb_tells (len - place) most in
    elim tells [
      | inl t ↦ (λ e. omega (arith, t.1, same), λ e. absurd (true_is_false (sym t.0 ∙ sym is ∙ e)))
      | inr t ↦ (λ e. absurd (true_is_false (sym e ∙ is ∙ t.0)), λ e. omega (arith, t.1, same))
    ]
  where
    true_is_false : true ≡ false → ⊥
    true_is_false e = cc

-- what a refused call left stays where its refusal is passed on
pub stays_passed : {P K S T : Type 0} (below : P → K) (map' : P → PageMap) (count : P → ℕ) (failures : P → ℕ × ℕ) (fault : Fault) (result : Result T Fault) (a b : P)
    → Stays below map' count failures {T = S} (Err fault) a b → IsErrAnd result (λ e. e ≡ fault) → Stays below map' count failures result a b
stays_passed below map' count failures fault (Ok done) a b stays is = absurd is
stays_passed below map' count failures fault (Err e) a b stays is = record {
  kept = stays.kept;
  same = stays.same;
  counted = stays.counted;
  causes = record { db = stays.causes.db; log = stays.causes.log; why = record { io = λ io. stays.causes.why.io (sym is ∙ io); full = λ full. stays.causes.why.full (sym is ∙ full) } };
}

-- ---- the entries of a leaf, as far as they lie whole there

-- The records of entries from a place up to another were put after those before, up to here.
pub record IsCopying (page : Place) (most from upto at : ℕ) (before batch : List (List ℕ)) : Type 0 where
  pub reached : from ≤ at
  pub copied : CopiesLying page most from upto before batch (Ok at)

pub copying_starts : (page : Place) (most from upto : ℕ) (before : List (List ℕ)) → IsCopying page most from upto from before before
copying_starts page most from upto before = record { reached = omega arith; copied = λ pages size said entries most_is is held within. refl }

module _ (page : Place) (most from upto at : ℕ) (before batch more : List (List ℕ)) (has : IsCopying page most from upto at before batch) (lt : at < upto) where
  room : (entries : List Held) → (from < upto → upto ≤ length entries) → at < length entries
  room entries within = (let low = has.reached in let all = within (omega (arith, low, lt)) in omega (arith, lt, all))

  -- the next one isn't pushed
  pub not_copied : (fault : Fault) (result : Result ℕ Fault) → IsErrAnd result (λ e. e ≡ fault) → PushesLying page most at batch more (Err fault) → CopiesLying page most from upto before more result
  not_copied fault result passed says pages size said entries most_is is held within = refused _ _ fault passed (says pages size said entries nothing most_is is held (room entries within))

  -- it doesn't lie whole there
  pub copied_so_far : PushesLying page most at batch more (Ok false) → CopiesLying page most from upto before more (Ok at)
  copied_so_far says pages size said entries most_is is held within =
      has.copied pages size said entries most_is is held within
      ∙ ap (λ (b : List (List ℕ)). b ++ records (take (upto - at) (drop at entries))) (sym (says pages size said entries nothing most_is is held (room entries within)))

  -- it does
  pub one_copied : PushesLying page most at batch more (Ok true) → IsCopying page most from upto (at + 1) before more
  one_copied says = record {
    reached = (let low = has.reached in omega (arith, low));
    copied = λ pages size said entries most_is is held within.
        (let here = room entries within in
        let pushed = says pages size said entries nothing most_is is held here in
        let next : at + 1 ≡ suc at = omega arith in
        let left = upto - (at + 1) in
        let one : upto - at ≡ suc left = omega (arith, lt) in
        let rest : List (List ℕ) = records (take left (drop (suc at) entries)) in
        has.copied pages size said entries most_is is held within ∙ ap (λ (n : ℕ). batch ++ records (take n (drop at entries))) one
        ∙ ap (λ (hs : List Held). batch ++ records (take (suc left) hs)) (value_at entries at nothing here)
        ∙ sym (append_assoc batch ((slice_index_or entries at nothing).payload ∷ []) rest)
        ∙ ap (λ (b : List (List ℕ)). b ++ rest) (sym pushed) ∙ ap (λ (n : ℕ). more ++ records (take left (drop n entries))) (sym next));
  }

-- a page that is a leaf has its entries there
pub copied_of_leaf : (page : Place) (bytes : List ℕ) (number start most from upto : ℕ) (kind : Kind) (before after : List (List ℕ)) (result : Result ℕ Fault) → page ≡ record { bytes = bytes; start = start } → start ≡ start_of number
    → kind ≡ IndexLeaf → ((node : Node) → IsNode page.bytes page.start node → type_of kind ≡ code_of node) → CopiesLying page most from upto before after result
    → (pages : PageMap) (size : ℕ) → bytes ≡ page_at pages number → most ≡ index_most size → CopiesFirst pages size number from upto before after result
copied_of_leaf page bytes number start most from upto kind before after result page_is start_is leaf kinds copies pages size bytes_are most_is node entries has within =
    (let it = on_page page bytes (start_of number) start node page_is start_is (says_it pages number bytes node has.says bytes_are) in
    at_leaf node kind (λ n. IsNode page.bytes page.start n → Pairwise (IsHeldAs pages size) (locals_of n) entries → MatchResult result (AreCopied entries from upto before after) IsOutside) has.ours (kinds node it) leaf
    (λ said same is held. copies pages size said entries most_is is held within) it has.held)

-- so many from a place on are there
pub all_there : (place most len upto : ℕ) → upto ≡ min most (len - place) → place < place + upto → place + upto ≤ len
all_there place most len upto is lt = omega (arith, is, lt)

-- ---- the entries of a page, one after the other

module _ {P K : Type 0} (below : P → K) (tells : K → Bool) (limits : K → Limits) (map' : P → PageMap) (count : P → ℕ) (failures : P → ℕ × ℕ) where
  -- The records of entries from a place up to another were put after those before; of so many in all.
  pub record HasCopied (old now : P) (number place upto at : ℕ) (before batch : List (List ℕ)) : Type 0 where
    pub from : place ≤ at
    pub stays : Stays below map' count failures {T = ⊤} (Ok tt) old now
    pub copied : IsTrue (tells (below old)) → (node : Node) (entries : List Held) → AreWhole (limits (below old)).page (map' old) → HasEntries (map' old) (limits (below old)).page number node entries
        → before ++ records (take upto (drop place entries)) ≡ batch ++ records (take (place + upto - at) (drop at entries))

  pub starts : (old mid now : P) (number place upto at len : ℕ) (before batch : List (List ℕ)) → Stays below map' count failures {T = ℕ} (Ok len) old mid → Stays below map' count failures {T = ⊤} (Ok tt) mid now → place ≤ at
      → (IsTrue (tells (below old)) → (node : Node) (entries : List Held) → AreWhole (limits (below old)).page (map' old) → HasEntries (map' old) (limits (below old)).page number node entries
      → before ++ records (take (place + upto - place) (drop place entries)) ≡ batch ++ records (take (place + upto - at) (drop at entries)))
      → HasCopied old now number place upto at before batch
  starts old mid now number place upto at len before batch counted loaded reached copied = record {
    from = reached;
    stays = stays_after below map' count failures (Ok tt) (Ok tt) old mid now (stays_done {S = ℕ} below map' count failures (Ok len) old mid counted) loaded;
    copied = λ told node entries whole has.
        (let same : upto ≡ place + upto - place = omega arith in ap (λ (n : ℕ). before ++ records (take n (drop place entries))) same ∙ copied told node entries whole has);
  }

  pushes : (old mid : P) (number at : ℕ) (before batch : List (List ℕ)) (result : Result ⊤ Fault) → below mid ≡ below old → map' mid ≡ map' old
      → (IsTrue (tells (below mid)) → PushesEntry (map' mid) (limits (below mid)).page number at before batch result) → IsTrue (tells (below old)) → PushesEntry (map' old) (limits (below old)).page number at before batch result
  pushes old mid number at before batch result kept same says told = since below tells limits map' (λ (m : PageMap) (n : ℕ). PushesEntry m n number at before batch result) old mid kept same says told

  module _ (old now new : P) (number place upto at len : ℕ) (before batch : List (List ℕ)) (has : HasCopied old now number place upto at before batch) (more_come : at < place + upto) (lt : at < len)
      (counts : IsTrue (tells (below old)) → CountsEntries (map' old) (limits (below old)).page number (Ok len)) where
    pub unpushed : (more : List (List ℕ)) (fault : Fault) → (IsTrue (tells (below now)) → PushesEntry (map' now) (limits (below now)).page number at batch more (Err fault)) → IsTrue (tells (below old))
        → (node : Node) (entries : List Held) → AreWhole (limits (below old)).page (map' old) → HasEntries (map' old) (limits (below old)).page number node entries → IsOutside fault
    unpushed more fault says told node entries whole has_it =
        pushes old now number at batch more (Err fault) has.stays.kept has.stays.same says told node entries nothing whole has_it (let all = counts told node entries whole has_it in omega (arith, lt, all))

    pub goes_on : (more : List (List ℕ)) → (IsTrue (tells (below now)) → PushesEntry (map' now) (limits (below now)).page number at batch more (Ok tt)) → Stays below map' count failures {T = ⊤} (Ok tt) now new
        → HasCopied old new number place upto (at + 1) before more
    goes_on more says stays = record {
      from = (let le = has.from in omega (arith, le));
      stays = stays_after below map' count failures (Ok tt) (Ok tt) old now new has.stays stays;
      copied = λ told node entries whole has_it.
          (let all = counts told node entries whole has_it in
          let here : at < length entries = omega (arith, lt, all) in
          let pushed = pushes old now number at batch more (Ok tt) has.stays.kept has.stays.same says told node entries nothing whole has_it here in
          let next : at + 1 ≡ suc at = omega arith in
          let left = place + upto - (at + 1) in
          let one : place + upto - at ≡ suc left = omega (arith, more_come) in
          let rest : List (List ℕ) = records (take left (drop (suc at) entries)) in
          has.copied told node entries whole has_it ∙ ap (λ (n : ℕ). batch ++ records (take n (drop at entries))) one
          ∙ ap (λ (hs : List Held). batch ++ records (take (suc left) hs)) (value_at entries at nothing here)
          ∙ sym (append_assoc batch ((slice_index_or entries at nothing).payload ∷ []) rest)
          ∙ ap (λ (b : List (List ℕ)). b ++ rest) (sym pushed) ∙ ap (λ (n : ℕ). more ++ records (take left (drop n entries))) (sym next));
    }

  pub all_copied : (old now : P) (number place upto most at len : ℕ) (before batch : List (List ℕ)) (all : Bool) → HasCopied old now number place upto at before batch → place + upto ≤ at
      → upto ≡ min most (len - place) → all ≡ nat_le (len - place) most
      → (IsTrue (tells (below old)) → CountsEntries (map' old) (limits (below old)).page number (Ok len)) → IsTrue (tells (below old)) → CopiesEntries (map' old) (limits (below old)).page number place most before batch (Ok all)
  all_copied old now number place upto most at len before batch all has le count_is all_is counts told node entries whole has_it =
      let long = counts told node entries whole has_it in
      let none : place + upto - at ≡ 0 = omega (arith, le) in
      let taken = sym (append-nil batch) ∙ ap (λ (n : ℕ). batch ++ records (take n (drop at entries))) (sym none) ∙ sym (has.copied told node entries whole has_it) in
      let to : min most (length entries - place) ≡ upto = ap (λ (n : ℕ). min most (n - place)) (sym long) ∙ sym count_is in
      (taken ∙ ap (λ (n : ℕ). before ++ records (take n (drop place entries))) (sym to) ∙ ap (λ (hs : List Held). before ++ records hs) (take_least place most entries), are_all len (length entries) place most all long all_is)

-- ---- what comes

module _ (test : Entry → Bool) where
  abbrev Coming : List Entry → List Entry
  Coming entries = filter (λ e. not (test e)) entries

  none_come : (entries : List Entry) → AllByRecursion (λ e. test e ≡ true) entries → Coming entries ≡ []
  none_come [] all = refl
  none_come (e ∷ entries) all = ap (λ (b : Bool). cond (not b) (e ∷ Coming entries) (Coming entries)) all.0 ∙ none_come entries all.1

  all_come : (entries : List Entry) → AllByRecursion (λ e. test e ≡ false) entries → Coming entries ≡ entries
  all_come [] all = refl
  all_come (e ∷ entries) all = ap (λ (b : Bool). cond (not b) (e ∷ Coming entries) (Coming entries)) all.0 ∙ ap (λ (es : List Entry). e ∷ es) (all_come entries all.1)

  pub parts_come : (left mid right : List Entry) → AllByRecursion (λ e. test e ≡ true) left → AllByRecursion (λ e. test e ≡ false) right → Coming (left ++ (mid ++ right)) ≡ Coming mid ++ right
  parts_come left mid right before after =
      filter-append (λ e. not (test e)) left (mid ++ right) ∙ ap (λ (es : List Entry). es ++ Coming (mid ++ right)) (none_come left before)
      ∙ filter-append (λ e. not (test e)) mid right ∙ ap (λ (es : List Entry). Coming mid ++ es) (all_come right after)

  -- on a leaf
  pub leaf_comes : (held : List Held) → ComeFirst test (values held) → Coming (values held) ≡ values (drop (front_count (λ h. test h.entry) held) held)
  leaf_comes [] first = refl
  leaf_comes (h ∷ held) first = by (test h.entry) refl (leaf_comes held first.1) where
    by : (b : Bool) → test h.entry ≡ b → Coming (values held) ≡ values (drop (front_count (λ g. test g.entry) held) held)
        → cond (not b) (h.entry ∷ Coming (values held)) (Coming (values held)) ≡ values (drop (if b then suc (front_count (λ g. test g.entry) held) else 0) (h ∷ held))
    by true e rest = rest
    by false e rest = ap (λ (es : List Entry). h.entry ∷ es) (all_come (values held) (first.0 e))

  -- beside the subtree where the first may be
  module _ {T : Type 0} (f : T → List Entry) where
    abbrev one : Held → List Entry
    one held = held.entry ∷ []

    all_append : (xs ys : List Entry) → AllByRecursion (λ e. test e ≡ true) xs → AllByRecursion (λ e. test e ≡ true) ys → AllByRecursion (λ e. test e ≡ true) (xs ++ ys)
    all_append [] ys a b = b
    all_append (e ∷ xs) ys a b = (a.0, all_append xs ys a.1 b)

    pub left_passed : (kids : List (T × Held)) (last : T) → ComeFirst test (each_of f one kids last) → AllByRecursion (λ e. test e ≡ true) (left_at f one (front_count (λ h. test h.entry) (entries_between kids)) kids last)
    left_passed [] last first = tt
    left_passed (kid ∷ kids) last first = by (test kid.1.entry) refl (left_passed kids last (first_right test (f kid.0 ++ kid.1.entry ∷ []) (each_of f one kids last)
        (subst (λ (es : List Entry). ComeFirst test es) (sym (append_assoc (f kid.0) (kid.1.entry ∷ []) (each_of f one kids last))) first))) where
          by : (b : Bool) → test kid.1.entry ≡ b → AllByRecursion (λ e. test e ≡ true) (left_at f one (front_count (λ h. test h.entry) (entries_between kids)) kids last)
              → AllByRecursion (λ e. test e ≡ true) (left_at f one (if b then suc (front_count (λ h. test h.entry) (entries_between kids)) else 0) (kid ∷ kids) last)
          by true e more = all_append (f kid.0) (kid.1.entry ∷ left_at f one (front_count (λ h. test h.entry) (entries_between kids)) kids last)
              (before_one test (f kid.0) kid.1.entry (each_of f one kids last) first e) (e, more)
          by false e more = tt

    pub right_comes : (kids : List (T × Held)) (last : T) → ComeFirst test (each_of f one kids last) → AllByRecursion (λ e. test e ≡ false) (right_at f one (front_count (λ h. test h.entry) (entries_between kids)) kids last)
    right_comes [] last first = tt
    right_comes (kid ∷ kids) last first =
        let rest : ComeFirst test (kid.1.entry ∷ each_of f one kids last) = first_right test (f kid.0) (kid.1.entry ∷ each_of f one kids last) first in
        by (test kid.1.entry) refl rest (right_comes kids last rest.1)
      where
        by : (b : Bool) → test kid.1.entry ≡ b → ComeFirst test (kid.1.entry ∷ each_of f one kids last) → AllByRecursion (λ e. test e ≡ false) (right_at f one (front_count (λ h. test h.entry) (entries_between kids)) kids last)
            → AllByRecursion (λ e. test e ≡ false) (right_at f one (if b then suc (front_count (λ h. test h.entry) (entries_between kids)) else 0) (kid ∷ kids) last)
        by true e rest more = more
        by false e rest more = after_one test kid.1.entry (each_of f one kids last) rest e

-- the entry after a subtree is the first on its right
pub right_head : {T : Type 0} (f : T → List Entry) (place : ℕ) (kids : List (T × Held)) (last : T) → place < length (entries_between kids)
    → (more : List Entry) × (right_at f (λ h. h.entry ∷ []) place kids last ≡ (slice_index_or (entries_between kids) place nothing).entry ∷ more)
right_head f place [] last lt = absurd (omega (arith, lt))
right_head f zero (kid ∷ kids) last lt = (each_of f (λ h. h.entry ∷ []) kids last, refl)
right_head f (suc place) (kid ∷ kids) last lt = right_head f place kids last (omega (arith, lt))

pub right_end : {T : Type 0} (f : T → List Entry) (place : ℕ) (kids : List (T × Held)) (last : T) → length (entries_between kids) ≤ place → right_at f (λ h. h.entry ∷ []) place kids last ≡ []
right_end f place [] last le = refl
right_end f zero (kid ∷ kids) last le = absurd (omega (arith, le))
right_end f (suc place) (kid ∷ kids) last le = right_end f place kids last (omega (arith, le))

-- ---- records

records_from : (m : PageMap) (size n : ℕ) (said : List Local) (held : List Held) → Pairwise (IsHeldAs m size) said held → Pairwise IsRecord (records (drop n held)) (values (drop n held))
records_from m size zero [] [] all = tt
records_from m size zero [] (h ∷ held) all = absurd all
records_from m size zero (it ∷ said) [] all = absurd all
records_from m size zero (it ∷ said) (h ∷ held) all = (all.0.record_is, records_from m size zero said held all.1)
records_from m size (suc n) [] [] all = tt
records_from m size (suc n) [] (h ∷ held) all = absurd all
records_from m size (suc n) (it ∷ said) [] all = absurd all
records_from m size (suc n) (it ∷ said) (h ∷ held) all = records_from m size n said held all.1

record_at : (m : PageMap) (size place : ℕ) (said : List Local) (held : List Held) → Pairwise (IsHeldAs m size) said held → place < length held
    → IsRecord (slice_index_or held place nothing).payload (slice_index_or held place nothing).entry
record_at m size place [] [] all lt = absurd (omega (arith, lt))
record_at m size place [] (h ∷ held) all lt = absurd all
record_at m size place (it ∷ said) [] all lt = absurd all
record_at m size zero (it ∷ said) (h ∷ held) all lt = all.0.record_is
record_at m size (suc place) (it ∷ said) (h ∷ held) all lt = record_at m size place said held all.1 (omega (arith, lt))

-- the first ones of these, and the others
records_upto : (most : ℕ) (held : List Held) → Pairwise IsRecord (records held) (values held) → Pairwise IsRecord (records (take most held)) (values (take most held))
records_upto zero held all = tt
records_upto (suc most) [] all = tt
records_upto (suc most) (h ∷ held) all = (all.0, records_upto most held all.1)

values_split : (most : ℕ) (held : List Held) → values held ≡ values (take most held) ++ values (drop most held)
values_split zero held = refl
values_split (suc most) [] = refl
values_split (suc most) (h ∷ held) = ap (λ (es : List Entry). h.entry ∷ es) (values_split most held)

none_left : (place most : ℕ) (held : List Held) → length held ≤ place + most → drop most (drop place held) ≡ []
none_left zero most held le = drop_all most held (omega (arith, le))
none_left (suc place) most [] le = drop_all most [] (omega arith)
none_left (suc place) most (h ∷ held) le = none_left place most held (omega (arith, le))

some_taken : (place most : ℕ) (held : List Held) → 0 < most → place + most < length held → values (take most (drop place held)) ≡ [] → ⊥
some_taken place zero held one lt none = absurd (omega (arith, one))
some_taken place (suc most) [] one lt none = absurd (omega (arith, lt))
some_taken zero (suc most) (h ∷ held) one lt none = no_cons none where
  no_cons : {x : Entry} {xs : List Entry} → x ∷ xs ≡ [] → ⊥
  no_cons e = cc
some_taken (suc place) (suc most) (h ∷ held) one lt none = some_taken place (suc most) held one (omega (arith, lt)) none

-- ---- a tree under a page

passed_first : (after : Bool) (columns : List Collation) (key : List Value) (entries : List Entry) → AreEntries columns entries → ComeFirst (λ e. is_passed after (entry_cmp columns key e)) entries
passed_first true columns key entries are = not_less_first columns key entries are
passed_first false columns key entries are = greater_first columns key entries are

mapped_first : (test : Entry → Bool) (held : List Held) → ComeFirst test (values held) → ComeFirst (λ (h : Held). test h.entry) held
mapped_first test [] first = tt
mapped_first test (h ∷ held) first = (λ e. part held (first.0 e), mapped_first test held first.1) where
  part : (held : List Held) → AllByRecursion (λ e. test e ≡ false) (values held) → AllByRecursion (λ h. test h.entry ≡ false) held
  part [] all = tt
  part (h ∷ held) all = (all.0, part held all.1)

some_is : (a b : ℕ) → Some a ≡ Some b → a ≡ b
some_is a b e = cc

none_some : (a : ℕ) → None ≡ Some a → ⊥
none_some a e = cc

module _ (m : PageMap) (size number ways : ℕ) (after : Bool) (columns : List Collation) (key : List Value) where
  abbrev Test : Entry → Bool
  Test e = is_passed after (entry_cmp columns key e)

  -- A tree under a page, whose entries rise.
  pub record IsTreeAt (depth : ℕ) (t : Tree depth) : Type 0 where
    pub whole : AreWhole size m
    pub at : top depth t ≡ number
    pub lies : Lies m size depth t
    pub shallow : depth ≤ ways
    pub sorted : AreEntries columns (entries_of depth t)

  module _ (depth : ℕ) (t : Tree depth) (is : IsTreeAt depth t) where
    pub first : ComeFirst (is_before after columns key) (entries_at depth t)
    first = by depth t is.sorted where
      by : (depth : ℕ) (t : Tree depth) → AreEntries columns (entries_of depth t) → ComeFirst (is_before after columns key) (entries_at depth t)
      by zero t sorted = mapped_first Test t.entries (passed_first after columns key (entries_of zero t) sorted)
      by (suc depth) t sorted = keys_first (entries_of depth) columns key Test t.kids t.last (passed_first after columns key (entries_of (suc depth) t) sorted)

    pub placed : (result : Result ℕ Fault) → FindsPlace m size number after columns key result → MatchResult result (λ place. place ≡ front_count (is_before after columns key) (entries_at depth t)) IsOutside
    placed result finds = (let its = told m size number depth t is.at is.lies in finds its.node (entries_at depth t) is.whole its.has first)

    pub seen : (place : ℕ) (result : Result (Option ℕ) Fault) → FindsChild m size number place result
        → MatchResult result (λ child. child ≡ child_of place (told m size number depth t is.at is.lies).node) IsOutside
    seen place result finds = (let its = told m size number depth t is.at is.lies in finds its.node is.whole its.has.says its.has.ours)

    pub counts : (result : Result ℕ Fault) → CountsEntries m size number result → MatchResult result (λ len. len ≡ length (entries_at depth t)) IsOutside
    counts result asks = (let its = told m size number depth t is.at is.lies in asks its.node (entries_at depth t) is.whole its.has)

    pub pushed : (place : ℕ) (before batch : List (List ℕ)) (result : Result ⊤ Fault) → place < length (entries_at depth t) → PushesEntry m size number place before batch result
        → MatchResult result (λ done. batch ≡ before ++ (slice_index_or (entries_at depth t) place nothing).payload ∷ []) IsOutside
    pushed place before batch result lt asks = (let its = told m size number depth t is.at is.lies in asks its.node (entries_at depth t) nothing is.whole its.has lt)

    pub copies : (place most : ℕ) (before batch : List (List ℕ)) (result : Result Bool Fault) → CopiesEntries m size number place most before batch result
        → MatchResult result (λ all. (batch ≡ before ++ records (take most (drop place (entries_at depth t)))) × AreAll (length (entries_at depth t)) place most all) IsOutside
    copies place most before batch result asks = (let its = told m size number depth t is.at is.lies in asks its.node (entries_at depth t) is.whole its.has)

  -- a leaf gives the first that come of it, and says whether these are all
  pub leaf_batch : (depth : ℕ) (t : Tree depth) (is : IsTreeAt depth t) (place most : ℕ) (before batch : List (List ℕ)) (all : Bool) → place ≡ front_count (is_before after columns key) (entries_at depth t)
      → ((child : ℕ) → child_of place (told m size number depth t is.at is.lies).node ≡ Some child → ⊥) → before ≡ [] → 0 < most
      → (batch ≡ before ++ records (take most (drop place (entries_at depth t)))) × AreAll (length (entries_at depth t)) place most all → IsBatch after columns key (entries_of depth t) batch all
  leaf_batch zero t is place most before batch all place_is no_child empty one copied =
      let come = drop place t.entries in
      record {
        given = values (take most come);
        rest = values (drop most come);
        records = subst (λ (b : List (List ℕ)). Pairwise IsRecord b (values (take most come))) (sym (copied.0 ∙ ap (λ (b : List (List ℕ)). b ++ records (take most come)) empty))
            (records_upto most come (records_from m size place is.lies.said t.entries is.lies.entries));
        split = leaf_comes Test t.entries (passed_first after columns key (entries_of zero t) is.sorted) ∙ ap (λ (n : ℕ). values (drop n t.entries)) (sym place_is) ∙ values_split most come;
        all = λ e. ap values (none_left place most t.entries (copied.1.0 e));
        some = λ e. some_taken place most t.entries one (copied.1.1 e);
      }
  leaf_batch (suc depth) t is place most before batch all place_is no_child empty one copied = absurd (no_child _ refl)

  pub not_leaf : (depth : ℕ) (t : Tree depth) (is : IsTreeAt depth t) (place child : ℕ) → Some child ≡ child_of place (told m size number depth t is.at is.lies).node → ways ≡ 0 → ⊥
  not_leaf zero t is place child some none = none_some child (sym some)
  not_leaf (suc depth) t is place child some none = (let le = is.shallow in omega (arith, le, none))

  -- ---- an interior page

  module _ (depth : ℕ) (t : Tree (suc depth)) (is : IsTreeAt (suc depth) t) where
    abbrev pub at_place : ℕ
    at_place = front_count (is_before after columns key) (entries_between t.kids)

    abbrev pub kid : Tree depth
    kid = tree_at at_place t.kids t.last

    abbrev left : List Entry
    left = left_at (entries_of depth) (λ h. h.entry ∷ []) at_place t.kids t.last

    abbrev pub right : List Entry
    right = right_at (entries_of depth) (λ h. h.entry ∷ []) at_place t.kids t.last

    first_all : ComeFirst Test (entries_of (suc depth) t)
    first_all = passed_first after columns key (entries_of (suc depth) t) is.sorted

    parts : entries_of (suc depth) t ≡ left ++ (entries_of depth kid ++ right)
    parts = row_split (entries_of depth) (λ h. h.entry ∷ []) at_place t.kids t.last

    pub comes : entries_from after columns key (entries_of (suc depth) t) ≡ entries_from after columns key (entries_of depth kid) ++ right
    comes = ap (entries_from after columns key) parts
        ∙ parts_come Test left (entries_of depth kid) right (left_passed Test (entries_of depth) t.kids t.last first_all) (right_comes Test (entries_of depth) t.kids t.last first_all)

    pub child_is : (place child : ℕ) → place ≡ at_place → Some child ≡ child_of place (told m size number (suc depth) t is.at is.lies).node → child ≡ top depth kid
    child_is place child place_is some =
        some_is _ _ some ∙ kids_alike (top depth) m size place is.lies.0.said t.kids (top depth t.last) is.lies.0.children
        ∙ ap (λ (n : ℕ). child_at n (children (top depth) t.kids) (top depth t.last)) place_is ∙ child_there (top depth) at_place t.kids t.last

    pub kid_lies : Lies m size depth kid
    kid_lies = holds_at (Lies m size depth) at_place t.kids t.last is.lies.1

    pub kid_sorted : AreEntries columns (entries_of depth kid)
    kid_sorted = entries_part columns left (entries_of depth kid) right (subst (λ (es : List Entry). AreEntries columns es) parts is.sorted)

    -- the child has given some
    pub child_some : (batch : List (List ℕ)) → IsBatch after columns key (entries_of depth kid) batch false → IsBatch after columns key (entries_of (suc depth) t) batch false
    child_some batch b = record {
      given = b.given;
      rest = b.rest ++ right;
      records = b.records;
      split = comes ∙ ap (λ (es : List Entry). es ++ right) b.split ∙ append_assoc b.given b.rest right;
      all = λ e. absurd (false_true e);
      some = b.some;
    }
      where
        false_true : false ≡ true → ⊥
        false_true e = cc

    -- it has given all, and there is nothing after it
    pub child_last : (batch : List (List ℕ)) → length (entries_between t.kids) ≤ at_place → IsBatch after columns key (entries_of depth kid) batch true → IsBatch after columns key (entries_of (suc depth) t) batch true
    child_last batch le b = record {
      given = b.given;
      rest = [];
      records = b.records;
      split = comes ∙ ap (λ (es : List Entry). es ++ right) b.split ∙ append_assoc b.given b.rest right ∙ ap (λ (es : List Entry). b.given ++ (es ++ right)) (b.all refl)
          ∙ ap (λ (es : List Entry). b.given ++ es) (right_end (entries_of depth) at_place t.kids t.last le);
      all = λ e. refl;
      some = b.some;
    }

    -- and the entry after it was put after them
    pub child_then : (batch more : List (List ℕ)) (lt : at_place < length (entries_between t.kids)) → more ≡ batch ++ (slice_index_or (entries_between t.kids) at_place nothing).payload ∷ []
        → IsBatch after columns key (entries_of depth kid) batch true → IsBatch after columns key (entries_of (suc depth) t) more false
    child_then batch more lt pushed b =
        let held = slice_index_or (entries_between t.kids) at_place nothing in
        let head = right_head (entries_of depth) at_place t.kids t.last lt in
        let its = told m size number (suc depth) t is.at is.lies in
        record {
          given = b.given ++ held.entry ∷ [];
          rest = head.0;
          records = subst (λ (bs : List (List ℕ)). Pairwise IsRecord bs (b.given ++ held.entry ∷ [])) (sym pushed)
              (pairwise_append IsRecord batch (held.payload ∷ []) b.given (held.entry ∷ []) b.records (record_at m size at_place _ (entries_between t.kids) its.has.held lt, tt));
          split = comes ∙ ap (λ (es : List Entry). es ++ right) b.split ∙ append_assoc b.given b.rest right ∙ ap (λ (es : List Entry). b.given ++ (es ++ right)) (b.all refl)
              ∙ ap (λ (es : List Entry). b.given ++ es) head.1 ∙ sym (append_assoc b.given (held.entry ∷ []) head.0);
          all = λ e. absurd (false_true e);
          some = λ e none. no_end b.given held.entry none;
        }
      where
        false_true : false ≡ true → ⊥
        false_true e = cc

        no_end : (xs : List Entry) (e : Entry) → xs ++ e ∷ [] ≡ [] → ⊥
        no_end [] e none = cc
        no_end (x ∷ xs) e none = cc

-- a page with a child is the top of a tree of several pages
pub inner : (m : PageMap) (size number ways : ℕ) (after : Bool) (columns : List Collation) (key : List Value) (depth : ℕ) (t : Tree depth) (is : IsTreeAt m size number ways after columns key depth t) (place child : ℕ)
    (Goal : (depth : ℕ) → Tree depth → Type 0) → place ≡ front_count (is_before after columns key) (entries_at depth t) → Some child ≡ child_of place (told m size number depth t is.at is.lies).node
    → ((less : ℕ) (u : Tree (suc less)) (its : IsTreeAt m size number ways after columns key (suc less) u) → place ≡ front_count (is_before after columns key) (entries_between u.kids)
    → Some child ≡ child_of place (told m size number (suc less) u its.at its.lies).node → Goal (suc less) u) → Goal depth t
inner m size number ways after columns key zero t is place child Goal place_is some so = absurd (none_some child (sym some))
inner m size number ways after columns key (suc depth) t is place child Goal place_is some so = so depth t is place_is some

-- what the child gives
pub kid_batch : (m : PageMap) (size number ways : ℕ) (after : Bool) (columns : List Collation) (key : List Value) (less : ℕ) (u : Tree (suc less)) (its : IsTreeAt m size number ways after columns key (suc less) u) (place child : ℕ)
    → place ≡ front_count (is_before after columns key) (entries_between u.kids) → Some child ≡ child_of place (told m size number (suc less) u its.at its.lies).node
    → (before batch : List (List ℕ)) (result : Result Bool Fault) → before ≡ [] → GivesBelow m size child (ways - 1) after columns key before batch result
    → MatchResult result (IsBatch after columns key (entries_of less (kid m size number ways after columns key less u its)) batch) IsOutside
kid_batch m size number ways after columns key less u its place child place_is some before batch result empty gives =
    gives less (kid m size number ways after columns key less u its) its.whole (sym (child_is m size number ways after columns key less u its place child place_is some))
    (kid_lies m size number ways after columns key less u its) (let le = its.shallow in omega (arith, le)) (kid_sorted m size number ways after columns key less u its) empty

pub as_whole : (after : Bool) (columns : List Collation) (key : List Value) (entries : List Entry) (batch : List (List ℕ)) (whole other : Bool) → whole ≡ other → IsBatch after columns key entries batch whole → IsBatch after columns key entries batch other
as_whole after columns key entries batch whole other same is = subst (λ (b : Bool). IsBatch after columns key entries batch b) same is

-- ---- the entries after the last one of a batch

true_false : true ≡ false → ⊥
true_false e = cc

-- what doesn't come stands before
passed_front : (test : Entry → Bool) (entries : List Entry) → ComeFirst test entries → (front : List Entry) × (entries ≡ front ++ filter (λ e. not (test e)) entries)
passed_front test [] first = ([], refl)
passed_front test (e ∷ entries) first = by (test e) refl (passed_front test entries first.1) where
  by : (b : Bool) → test e ≡ b → (front : List Entry) × (entries ≡ front ++ filter (λ e. not (test e)) entries)
      → (front : List Entry) × (e ∷ entries ≡ front ++ cond (not b) (e ∷ filter (λ e. not (test e)) entries) (filter (λ e. not (test e)) entries))
  by true is rest = (e ∷ rest.0, ap (λ (es : List Entry). e ∷ es) rest.1)
  by false is rest = ([], ap (λ (es : List Entry). e ∷ es) (sym (all_come test entries (first.0 is))))

self_passed : (columns : List Collation) (e : Entry) → not_less columns e e ≡ true
self_passed columns e = by (entry_cmp columns e e) (turn columns e e) where
  by : (o : Ordering) → o ≡ ordering_reverse o → not (is_lt o) ≡ true
  by Less is = absurd (true_false (ap is_lt is))
  by Equal is = refl
  by Greater is = refl

after_rising : (columns : List Collation) (e : Entry) (rest : List Entry) → ComeFirst (not_less columns e) rest → is_rising (entry_cmp columns) (e ∷ rest) ≡ true → AllByRecursion (λ f. not_less columns e f ≡ false) rest
after_rising columns e [] first rises = tt
after_rising columns e (f ∷ rest) first rises = after_one (not_less columns e) f rest first (ap not (and_left (is_lt (entry_cmp columns e f)) (is_rising (entry_cmp columns) (f ∷ rest)) rises)) where
  and_left : (a b : Bool) → a && b ≡ true → a ≡ true
  and_left true b e = refl
  and_left false b e = absurd (true_false (sym e))

-- after the last of those that came come the others
pub come_later : (after : Bool) (columns : List Collation) (key : List Value) (entries front : List Entry) (e : Entry) (rest : List Entry) → AreEntries columns entries
    → entries_from after columns key entries ≡ (front ++ e ∷ []) ++ rest → entries_from true columns e entries ≡ rest
come_later after columns key entries front e rest are split =
    let passed = passed_front (λ x. is_passed after (entry_cmp columns key x)) entries (passed_first after columns key entries are) in
    let whole : entries ≡ (passed.0 ++ front) ++ e ∷ rest = (
    passed.1 ∙ ap (λ (es : List Entry). passed.0 ++ es) (split ∙ append_assoc front (e ∷ []) rest) ∙ sym (append_assoc passed.0 front (e ∷ rest))) in
    let are_now = subst (λ (es : List Entry). AreEntries columns es) whole are in
    let first = not_less_first columns e ((passed.0 ++ front) ++ e ∷ rest) are_now in
    let rises = (entries_part columns (passed.0 ++ front) (e ∷ rest) [] (subst (λ (es : List Entry). AreEntries columns ((passed.0 ++ front) ++ es)) (sym (append-nil (e ∷ rest))) are_now)).rising in
    let self = self_passed columns e in
    let before = before_one (not_less columns e) (passed.0 ++ front) e rest first self in
    let later = first_right (not_less columns e) (passed.0 ++ front) (e ∷ rest) first in
    ap (entries_from true columns e) (whole ∙ sym (append_assoc (passed.0 ++ front) (e ∷ []) rest))
    ∙ parts_come (not_less columns e) ((passed.0 ++ front) ++ e ∷ []) [] rest (both_passed (passed.0 ++ front) before self) (after_rising columns e rest later.1 rises)
  where
    both_passed : (xs : List Entry) → AllByRecursion (λ x. not_less columns e x ≡ true) xs → not_less columns e e ≡ true → AllByRecursion (λ x. not_less columns e x ≡ true) (xs ++ e ∷ [])
    both_passed [] all self = (self, tt)
    both_passed (x ∷ xs) all self = (all.0, both_passed xs all.1 self)

-- ---- a cursor

-- the last record and the last entry
pub record EndsWith (batch : List (List ℕ)) (given : List Entry) : Type 0 where
  pub front : List (List ℕ)
  pub last : List ℕ
  pub entries : List Entry
  pub entry : Entry
  pub batch_is : batch ≡ front ++ last ∷ []
  pub given_is : given ≡ entries ++ entry ∷ []
  pub record_is : IsRecord last entry

pub ends_with : (batch : List (List ℕ)) (given : List Entry) → Pairwise IsRecord batch given → (given ≡ [] → ⊥) → EndsWith batch given
ends_with [] [] all some = absurd (some refl)
ends_with [] (e ∷ given) all some = absurd all
ends_with (b ∷ batch) [] all some = absurd all
ends_with (b ∷ []) (e ∷ []) all some = record { front = []; last = b; entries = []; entry = e; batch_is = refl; given_is = refl; record_is = all.0 }
ends_with (b ∷ []) (e ∷ f ∷ given) all some = absurd all.1
ends_with (b ∷ d ∷ batch) (e ∷ []) all some = absurd all.1
ends_with (b ∷ d ∷ batch) (e ∷ f ∷ given) all some =
    let rest = ends_with (d ∷ batch) (f ∷ given) all.1 (λ none. no_cons none) in
    record {
      front = b ∷ rest.front;
      last = rest.last;
      entries = e ∷ rest.entries;
      entry = rest.entry;
      batch_is = ap (λ (bs : List (List ℕ)). b ∷ bs) rest.batch_is;
      given_is = ap (λ (es : List Entry). e ∷ es) rest.given_is;
      record_is = rest.record_is;
    }
  where
    no_cons : {x : Entry} {xs : List Entry} → x ∷ xs ≡ [] → ⊥
    no_cons e = cc

abbrev Key : Type 0
Key = List Value

module _ (m : PageMap) (size root : ℕ) (after : Bool) (columns : List Collation) (key : Key) (entries : List Entry) (used : List ℕ) (tree : IsIndexTree m size root columns entries used) where
  -- what a batch is that was read from the root on
  pub root_batch : AreWhole size m → (before batch : List (List ℕ)) (result : Result Bool Fault) → before ≡ [] → GivesBelow m size root 19 after columns key before batch result
      → MatchResult result (IsBatch after columns key entries batch) IsOutside
  root_batch whole before batch result empty gives =
      subst (λ (es : List Entry). MatchResult result (IsBatch after columns key es batch) IsOutside) tree.entries_are
      (gives tree.depth tree.tree whole tree.root_is tree.lies (let lt = tree.shallow in omega (arith, lt)) (subst (λ (es : List Entry). AreEntries columns es) (sym tree.entries_are) tree.sorted) empty)

  abbrev Given : (List Entry → List Entry) → (List Entry → List Entry) → Bool → List (List ℕ) → Type 0
  Given next later ended batch = (given : List Entry) × Pairwise IsRecord batch given × (next entries ≡ given ++ later entries) × (given ≡ [] → ended ≡ true)

  pub given_some : (ended now : Bool) (batch : List (List ℕ)) → ended ≡ false → now ≡ false → (b : IsBatch after columns key entries batch false) (other : Key)
      → other ≡ (ends_with batch b.given b.records (b.some refl)).entry → Given (coming ended after columns key) (coming now true columns other) now batch
  given_some ended now batch is now_is b other e =
      let end = ends_with batch b.given b.records (b.some refl) in
      let later : entries_from true columns end.entry entries ≡ b.rest = come_later after columns key entries end.entries end.entry b.rest tree.sorted
      (b.split ∙ ap (λ (es : List Entry). es ++ b.rest) end.given_is) in (
        b.given,
        b.records,
        ap (λ (t : Bool). coming t after columns key entries) is ∙ b.split ∙ ap (λ (es : List Entry). b.given ++ es) (sym later)
            ∙ ap (λ (k : Key). b.given ++ entries_from true columns k entries) (sym e) ∙ ap (λ (t : Bool). b.given ++ coming t true columns other entries) (sym now_is),
        λ none. absurd (b.some refl none),
      )

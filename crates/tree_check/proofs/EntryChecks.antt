-- The check of entries on a page.
use Rattle.std.proofs.Common.{◌≡◌, ◌+◌, ◌<◌, ◌≤◌, ℕ, zero, suc, Bool, List, [], ◌∷◌, ◌++◌, length, drop, slice_index_or, refl, sym, ap, subst, ◌∙◌, inl, arith, Ok, Err}
use Rattle.std.specs.Prelude.{⊤, Result, IsErrAnd, MatchResult}
use Rattle.std.specs.List.{flat_map}
use Rattle.sqlval.specs.declared.collation.Collation.{Collation}
use Rattle.sqlval.specs.declared.fault.Fault.{Fault}
use Rattle.sqlval.specs.declared.fault.Fault.TheVariants.{Memory}
use Rattle.sqlval.specs.declared.value.Value.{Value}
use Rattle.sqlval.specs.Faults.{IsOutside}
use Rattle.pages.specs.Counting.{occurs}
use Rattle.pages.specs.Map.{PageMap, AreWhole}
use Rattle.tree_overflow.specs.Calls.{Reads}
use Rattle.tree_overflow.specs.Chains.{IsPayload}
use Rattle.record.specs.Record.{IsRecord, DetermineValues}
use Rattle.tree_page.specs.Cells.{Pairwise}
use Rattle.tree_page.specs.Node.{Local, Entries, IsNode, IsEntryCell}
use Rattle.tree_page.specs.Payload.{held_size, index_most}
use Rattle.tree_table.specs.SingleLeaf.{placed}
use Rattle.tree_index.specs.Entries.{Entry}
use Rattle.tree_index.specs.Tree.{Held, IsHeldAs}
use Rattle.tree_check.specs.Exact.{Checks}
use Rattle.tree_check.specs.InOrder.{ChecksOrdered, Follow, IsNext}
use Rattle.tree_check.specs.IndexTrees.{chain_of, chains_of, entry_in, entries_in}
use Rattle.tree_check.specs.Marks.{AreUnmarked}
use Rattle.tree_check.specs.Tails.{Chain, IsTailOn, IsTail, IsEntryOf, AddsTail, ChecksPayload}
use Rattle.tree_check.specs.declared.chains.Tail.{Tail}
use Rattle.tree_check.proofs.Links.{pages_on}
use Rattle.tree_check.proofs.Parting.{IsOf, IsAs, both_appended, checks_as, nothing_left}
use Rattle.tree_check.proofs.Payloads.{least_in_index, payload_chains, chains_payload, short_whole}
use Rattle.tree_check.proofs.Turns.{IsInTurn, then_turns, first_stops}

-- ---- a payload

module _ (map : PageMap) (size : ℕ) (said : Local) (tails : List Tail) (large : 512 ≤ size) (tail : IsTail size (index_most size) said tails) where
  made_of : (chains : List Chain) → Pairwise (IsTailOn map size) tails chains → IsAs (IsEntryOf map size said) pages_on (flat_map pages_on chains)
  made_of chains on =
      let made = chains_payload map size (index_most size) (least_in_index size large) said tails chains tail on in
      record { it = record { bytes = made.payload; pages = made.over }; is = made.is; as_often = made.as_often }

  over : (whole : Chain) → IsEntryOf map size said whole → IsAs (Pairwise (IsTailOn map size) tails) (flat_map pages_on) whole.pages
  over whole is =
      let has = payload_chains map size (index_most size) (least_in_index size large) said tails whole.bytes whole.pages is tail in
      record { it = has.chains; is = has.on; as_often = has.as_often }

  -- a payload is checked as its chain is
  pub payload_checks : (old new : List Bool) (result : Result ⊤ Fault) → Checks (Pairwise (IsTailOn map size) tails) (flat_map pages_on) old new result → Checks (IsEntryOf map size said) pages_on old new result
  payload_checks old new result check = checks_as (Pairwise (IsTailOn map size) tails) (IsEntryOf map size said) (flat_map pages_on) pages_on made_of over old new result check

-- one without a tail is what lies in its cell
pub payload_whole : (map : PageMap) (size : ℕ) (said : Local) (tails : List Tail) → 512 ≤ size → IsTail size (index_most size) said tails → tails ≡ [] → (whole : Chain) → IsEntryOf map size said whole → said.bytes ≡ whole.bytes
payload_whole map size said tails large tail none whole is =
    short_whole map size (index_most size) (least_in_index size large) said whole.bytes whole.pages is (subst (IsTail size (index_most size) said) none tail)

held_as : (size : ℕ) (said : Local) (usable most : ℕ) → usable ≡ size → most ≡ index_most size → length said.bytes ≡ held_size size (index_most size) said.size → length said.bytes ≡ held_size usable most said.size
held_as size said usable most usable_is most_is held =
    subst (λ (u : ℕ). length said.bytes ≡ held_size u most said.size) (sym usable_is) (subst (λ (m : ℕ). length said.bytes ≡ held_size size m said.size) (sym most_is) held)

-- a chain isn't sound, or isn't read
pub payload_refused : {X : Type 0} (view : X → List ℕ) (map : PageMap) (size : ℕ) (said : Local) (old new : List Bool) (fault : Fault) (result : Result X Fault) → IsErrAnd result (λ e. e ≡ fault)
    → ((whole : Chain) → IsEntryOf map size said whole → AreUnmarked old whole.pages → IsOutside fault) → ChecksPayload view map size said old new result
payload_refused view map size said old new fault (Ok x) is why = absurd is
payload_refused view map size said old new fault (Err e) is why = λ whole entry free. subst IsOutside (sym is) (why whole entry free)

-- the tail that was added is that of the payload
pub added_tail : (size : ℕ) (said : Local) (usable most : ℕ) → usable ≡ size → most ≡ index_most size → length said.bytes ≡ held_size size (index_most size) said.size → (old new : List Tail)
    → (length said.bytes ≡ held_size usable most said.size → AddsTail usable most said old new (Ok tt)) → old ≡ [] → IsTail size (index_most size) said new
added_tail size said usable most usable_is most_is held old new adds none =
    let is : AddsTail size (index_most size) said old new (Ok tt) = subst (λ (m : ℕ). AddsTail size m said old new (Ok tt)) most_is
    (subst (λ (u : ℕ). AddsTail u most said old new (Ok tt)) usable_is (adds (held_as size said usable most usable_is most_is held))) in
    subst (IsTail size (index_most size) said) (sym (is.1 ∙ ap (λ (l : List Tail). l ++ is.0) none)) is.2

pub tail_refused : (size : ℕ) (said : Local) (usable most : ℕ) → usable ≡ size → most ≡ index_most size → length said.bytes ≡ held_size size (index_most size) said.size → (old new : List Tail) (fault : Fault)
    → (length said.bytes ≡ held_size usable most said.size → AddsTail usable most said old new (Err fault)) → IsOutside fault
tail_refused size said usable most usable_is most_is held old new fault adds = inl (adds (held_as size said usable most usable_is most_is held))

-- the payload that was read
pub payload_read : (map : PageMap) (size most : ℕ) (said : Local) → most ≡ index_most size → (before after : List ℕ) (result : Result ⊤ Fault) → AreWhole size map → {now : PageMap} → now ≡ map → {at : ℕ} → at ≡ size
    → Reads now at most said.bytes said.size before after result → (whole : Chain) → IsEntryOf map size said whole → MatchResult result (λ done. after ≡ before ++ whole.bytes) IsOutside
payload_read map size most said most_is before after result are {now} now_is {at} at_is reads whole entry =
    subst (λ (n : ℕ). Reads map n most said.bytes said.size before after result) at_is (subst (λ (m : PageMap). Reads m at most said.bytes said.size before after result) now_is reads)
    whole.bytes whole.pages are (subst (λ (m : ℕ). IsPayload map size m said.bytes whole.bytes whole.pages) (sym most_is) entry.is) (sym entry.long)

-- ---- one entry

module _ (determine : DetermineValues) (map : PageMap) (size : ℕ) (said : Local) (columns : List Collation) (last : List Value) (old new : List Bool) where
  -- the payload is that of the next entry
  pub entry_checks : {X : Type 0} (view : X → List ℕ) (x : X) (entry : Entry) → ChecksPayload view map size said old new (Ok x) → IsRecord (view x) entry → IsNext columns last entry
      → ChecksOrdered (IsHeldAs map size said) chain_of entry_in columns last entry old new (Ok tt)
  entry_checks view x entry check is next = (
    checks_as (IsEntryOf map size said) (IsHeldAs map size said) pages_on chain_of
        (λ whole of. record {
          it = record { entry = entry; payload = whole.bytes; pages = whole.pages };
          is = record { size = of.long; payload = of.is; record_is = subst (λ (l : List ℕ). IsRecord l entry) (check.1 whole of) is };
          as_often = λ n. refl;
        })
        (λ held of. record { it = record { bytes = held.payload; pages = held.pages }; is = record { long = of.size; is = of.payload }; as_often = λ n. refl })
        old new (Ok tt) check.0,
    λ held of. (
        let read = check.1 (record { bytes = held.payload; pages = held.pages }) (record { long = of.size; is = of.payload }) in
        let same : entry ≡ held.entry = determine (view x) entry held.entry is (subst (λ (l : List ℕ). IsRecord l held.entry) (sym read) of.record_is) in
        (subst (λ (e : Entry). IsNext columns last e) same next, same)),
  )

  -- it isn't, or isn't read as one
  pub entry_refused : {X : Type 0} (view : X → List ℕ) (x : X) (now : List Value) (number : ℕ) (fault placed_as : Fault) → ChecksPayload view map size said old new (Ok x)
      → ((entry : List Value) → IsRecord (view x) entry → IsNext columns last entry → fault ≡ Memory) → placed_as ≡ placed number fault
      → ChecksOrdered (IsHeldAs map size said) chain_of entry_in columns last now old new (Err placed_as)
  entry_refused view x now number fault placed_as check only is = λ held end of free follow.
      (let read = check.1 (record { bytes = held.payload; pages = held.pages }) (record { long = of.size; is = of.payload }) in
      inl (is ∙ ap (placed number) (only held.entry (subst (λ (l : List ℕ). IsRecord l held.entry) (sym read) of.record_is) follow.0)))

-- the payload isn't read
pub entry_stops : {X : Type 0} (view : X → List ℕ) (map : PageMap) (size : ℕ) (said : Local) (columns : List Collation) (last now : List Value) (old new then : List Bool) (fault : Fault) (result : Result ⊤ Fault)
    → ChecksPayload view map size said old new (Err fault) → IsErrAnd result (λ e. e ≡ fault) → ChecksOrdered (IsHeldAs map size said) chain_of entry_in columns last now old then result
entry_stops view map size said columns last now old new then fault (Ok done) check is = absurd is
entry_stops view map size said columns last now old new then fault (Err e) check is = λ held end of free follow.
    subst IsOutside (sym is) (check (record { bytes = held.payload; pages = held.pages }) (record { long = of.size; is = of.payload }) free)

-- ---- the last entry, elsewhere

module _ {X : Type 0} (Is : X → Type 0) (pages : X → List ℕ) (entries : X → List Entry) (columns : List Collation) (last : List Value) (old : List Bool) where
  -- a refusal is handed on
  pub handed_on : (mid now : List Value) (new then : List Bool) (fault : Fault) (result : Result ⊤ Fault) → ChecksOrdered Is pages entries columns last mid old new (Err fault) → IsErrAnd result (λ e. e ≡ fault)
      → ChecksOrdered Is pages entries columns last now old then result
  handed_on mid now new then fault (Ok done) check is = absurd is
  handed_on mid now new then fault (Err e) check is = λ x end of free follow. subst IsOutside (sym is) (check x end of free follow)

  -- memory was short
  pub not_kept : (now : List Value) (then : List Bool) (result : Result ⊤ Fault) → IsErrAnd result (λ e. e ≡ Memory) → ChecksOrdered Is pages entries columns last now old then result
  not_kept now then (Ok done) is = absurd is
  not_kept now then (Err e) is = λ x end of free follow. inl is

-- ---- entries one after the other

-- what is left from a place on
pub drop_more : {A : Type 0} (xs : List A) (index : ℕ) (x : A) → index < length xs → x ≡ slice_index_or xs index x → drop index xs ≡ x ∷ drop (index + 1) xs
drop_more xs index x lt is = (let next : index + 1 ≡ suc index = omega arith in after xs index lt is ∙ ap (λ n. x ∷ drop n xs) (sym next))
  where
    after : {A : Type 0} (xs : List A) (index : ℕ) → {x : A} → index < length xs → x ≡ slice_index_or xs index x → drop index xs ≡ x ∷ drop (suc index) xs
    after [] index lt is = absurd (omega (arith, lt))
    after (y ∷ xs) zero lt is = ap (λ z. z ∷ xs) (sym is)
    after (y ∷ xs) (suc index) lt is = after xs index (omega (arith, lt)) is

pub drop_none : {A : Type 0} (xs : List A) (index : ℕ) → length xs ≤ index → drop index xs ≡ []
drop_none [] zero le = refl
drop_none [] (suc index) le = refl
drop_none (x ∷ xs) zero le = absurd (omega (arith, le))
drop_none (x ∷ xs) (suc index) le = drop_none xs index (omega (arith, le))

-- how many bytes a cell has of an entry
held_in : (usable : ℕ) (cells : List (List ℕ)) (said : List Local) (index : ℕ) (d : Local) → Pairwise (IsEntryCell usable) cells said → index < length said
    → length (slice_index_or said index d).bytes ≡ held_size usable (index_most usable) (slice_index_or said index d).size
held_in usable cells [] index d all lt = absurd (omega (arith, lt))
held_in usable [] (one ∷ said) index d all lt = absurd all
held_in usable (cell ∷ cells) (one ∷ said) zero d all lt = all.0.held
held_in usable (cell ∷ cells) (one ∷ said) (suc index) d all lt = held_in usable cells said index d all.1 (omega (arith, lt))

pub entry_held : (page : List ℕ) (start usable : ℕ) (said : List Local) (index : ℕ) (one : Local) → IsNode page start (Entries said) → length page ≡ usable → index < length said
    → one ≡ slice_index_or said index one → length one.bytes ≡ held_size usable (index_most usable) one.size
entry_held page start usable said index one is long lt at =
    subst (λ (l : Local). length l.bytes ≡ held_size usable (index_most usable) l.size) (sym at)
    (held_in usable is.cells said index one (subst (λ (u : ℕ). Pairwise (IsEntryCell u) is.cells said) long is.say) lt)

module _ (map : PageMap) (size : ℕ) (one : Local) (rest : List Local) where
  one_apart : (helds : List Held) → Pairwise (IsHeldAs map size) (one ∷ rest) helds
      → IsInTurn (IsHeldAs map size one) (Pairwise (IsHeldAs map size) rest) chain_of chains_of entry_in entries_in (chains_of helds) (entries_in helds)
  one_apart [] all = absurd all
  one_apart (held ∷ helds) all = record { one = held; other = helds; is = all.0; also = all.1; both = both_appended held.pages (chains_of helds); turn = refl }

  one_together : (held : Held) (helds : List Held) → IsHeldAs map size one held → Pairwise (IsHeldAs map size) rest helds
      → IsOf (Pairwise (IsHeldAs map size) (one ∷ rest)) chains_of (chain_of held) (chains_of helds)
  one_together held helds is are = record { it = held ∷ helds; is = (is, are); both = both_appended held.pages (chains_of helds) }

-- the check of entries
abbrev pub ChecksEntries : PageMap → ℕ → List Local → List Collation → List Value → List Value → List Bool → List Bool → Result ⊤ Fault → Type 0
ChecksEntries map size said = ChecksOrdered (Pairwise (IsHeldAs map size) said) chains_of entries_in

-- what the entries after this one decide
pub entry_then : (map : PageMap) (size : ℕ) (said : List Local) (index : ℕ) (one : Local) (columns : List Collation) (last mid now : List Value) (old new then : List Bool) (result : Result ⊤ Fault)
    → index < length said → one ≡ slice_index_or said index one → ChecksOrdered (IsHeldAs map size one) chain_of entry_in columns last mid old new (Ok tt)
    → ChecksEntries map size (drop (index + 1) said) columns mid now new then result → ChecksEntries map size (drop index said) columns last now old then result
entry_then map size said index one columns last mid now old new then result lt is first rest =
    subst (λ (l : List Local). ChecksEntries map size l columns last now old then result) (sym (drop_more said index one lt is))
    (then_turns (IsHeldAs map size one) (Pairwise (IsHeldAs map size) (drop (index + 1) said)) (Pairwise (IsHeldAs map size) (one ∷ drop (index + 1) said)) chain_of chains_of chains_of entry_in entries_in entries_in columns
    (one_apart map size one (drop (index + 1) said)) (one_together map size one (drop (index + 1) said)) last mid now old new then result first rest)

-- this one is refused
pub entries_stop : (map : PageMap) (size : ℕ) (said : List Local) (index : ℕ) (one : Local) (columns : List Collation) (last mid now : List Value) (old new then : List Bool) (fault : Fault) (result : Result ⊤ Fault)
    → index < length said → one ≡ slice_index_or said index one → ChecksOrdered (IsHeldAs map size one) chain_of entry_in columns last mid old new (Err fault) → IsErrAnd result (λ e. e ≡ fault)
    → ChecksEntries map size (drop index said) columns last now old then result
entries_stop map size said index one columns last mid now old new then fault result lt is first stops =
    subst (λ (l : List Local). ChecksEntries map size l columns last now old then result) (sym (drop_more said index one lt is))
    (first_stops (IsHeldAs map size one) (Pairwise (IsHeldAs map size) (drop (index + 1) said)) (Pairwise (IsHeldAs map size) (one ∷ drop (index + 1) said)) chain_of chains_of chains_of entry_in entries_in entries_in columns
    (one_apart map size one (drop (index + 1) said)) last mid now old new then fault result first stops)

no_marks : (map : PageMap) (size : ℕ) (helds : List Held) → Pairwise (IsHeldAs map size) [] helds → helds ≡ []
no_marks map size [] all = refl
no_marks map size (held ∷ helds) all = absurd all

-- no entry is left
pub entries_end : (map : PageMap) (size : ℕ) (said : List Local) (index : ℕ) (columns : List Collation) (last : List Value) (marks : List Bool) → length said ≤ index
    → ChecksEntries map size (drop index said) columns last last marks marks (Ok tt)
entries_end map size said index columns last marks le =
    subst (λ (l : List Local). ChecksEntries map size l columns last last marks marks (Ok tt)) (sym (drop_none said index le)) (
      nothing_left (Pairwise (IsHeldAs map size) []) chains_of marks [] tt (λ helds all n. ap (λ (l : List Held). occurs n (chains_of l)) (no_marks map size helds all)),
      λ helds all. subst (λ (l : List Held). Follow columns last (entries_in l) last) (sym (no_marks map size helds all)) refl,
    )

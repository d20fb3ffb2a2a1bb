-- Packed pages are stored: pages were taken, all are written, and what is left over is given back.
use Rattle.std.proofs.Common.{◌≡◌, inl, inr, ℕ, ◌+◌, ◌≤◌, List, [], ◌∷◌, ◌++◌, length, map, take, drop, sym, ap, subst, ◌∙◌, arith, length-append}
use Rattle.std.proofs.Math.Seq.{take-append_seam}
use Rattle.std.proofs.lemmas.Bool.{cases_lt}
use Rattle.std.proofs.lemmas.List.{take_all, drop_all, take-append-drop, length-take-le, nil_from_length, append-nil, length-map}
use Rattle.std.specs.List.{AllByRecursion}
use Rattle.std.specs.Prelude.{⊤, Bool, IsTrue, ◌⊎◌, min, Result, Ok, Err, MatchResult, IsErrAnd}
use Rattle.sqlval.specs.declared.fault.Fault.{Fault}
use Rattle.sqlval.specs.declared.fault.Fault.TheVariants.{Full}
use Rattle.sqlval.specs.Faults.{IsOutside}
use Rattle.pages.specs.Calls.{Limits}
use Rattle.pages.specs.Counting.{occurs}
use Rattle.pages.specs.Map.{PageMap}
use Rattle.pages.proofs.Moving.{occurs_append}
use Rattle.freelist.specs.Calls.{AreFree}
use Rattle.tree_pack.specs.Packing.{images}
use Rattle.tree_pack.specs.declared.spreading.Packed.{Packed}
use Rattle.tree_store.specs.Storing.{AreOlds, AreStored, BeginsAs}
use Rattle.tree_store.specs.Steps.{HasMoved, AreTaken, TakesMore, AreWritten, WritesAll, GivesAll}
use Rattle.tree_store.proofs.PutPages.{fresh_same}
use Rattle.tree_store.proofs.MovedPages.{free_now, olds_now, olds_part, moved_then, moved_beside, all_on_still, none_at_all}

-- The pages have their numbers, and they and those that are left over can be written.
pub record IsBegun (old mid : PageMap) (size : ℕ) (olds free spare numbers : List ℕ) : Type 0 where
  pub now_free : List ℕ
  pub are : AreFree mid size now_free
  pub all : AreOlds mid now_free (numbers ++ spare)
  pub moved : HasMoved old mid size olds free (numbers ++ spare) now_free
  pub begins : BeginsAs numbers olds
  pub rule : (length mid ≡ length old) ⊎ ((now_free ≡ []) × (spare ≡ []))

begins_as : (olds kept more numbers : List ℕ) (k count : ℕ) → k ≡ min (length olds) count → kept ≡ take k olds → numbers ≡ kept ++ more → length numbers ≡ count → BeginsAs numbers olds
begins_as olds kept more numbers k count k_is kept_is numbers_are long = elim (cases_lt count (length olds)) [
  | inl lt ↦ (let cut : length kept ≡ k = ap length kept_is ∙ length-take-le k olds (omega (arith, k_is)) in
      let both = ap length numbers_are ∙ length-append kept more in
      let none : more ≡ [] = nil_from_length more (omega (arith, both, cut, long, k_is, lt)) in
      let same : numbers ≡ take (length numbers) olds = numbers_are ∙ ap (λ (l : List ℕ). kept ++ l) none ∙ append-nil kept ∙ kept_is ∙ ap (λ (n : ℕ). take n olds) (omega (arith, k_is, long, lt)) in
      take_all (length olds) numbers (omega (arith, long, lt)) ∙ same)
  | inr ge ↦ (let whole : kept ≡ olds = kept_is ∙ take_all k olds (omega (arith, k_is, ge)) in
      let begun : take (length olds) numbers ≡ olds = ap (take (length olds)) (numbers_are ∙ ap (λ (l : List ℕ). l ++ more) whole) ∙ take-append_seam olds more in
      begun ∙ sym (take_all (length numbers) olds (omega (arith, long, ge))))
]

pub begun : (old mid : PageMap) (size : ℕ) (olds free kept spare numbers : List ℕ) (k count : ℕ) → k ≡ min (length olds) count → kept ≡ take k olds → spare ≡ drop k olds → AreFree old size free → AreOlds old free olds
    → AreTaken old mid size free kept count numbers → IsBegun old mid size olds free spare numbers
begun old mid size olds free kept spare numbers k count k_is kept_is spare_is are olds_are t =
    let whole : kept ++ spare ≡ olds = ap (λ (l : List ℕ). l ++ spare) kept_is ∙ ap (λ (l : List ℕ). take k olds ++ l) spare_is ∙ take-append-drop k olds in
    let cut : length kept ≡ k = ap length kept_is ∙ length-take-le k olds (omega (arith, k_is)) in
    let both : (n : ℕ) → occurs n olds ≡ occurs n kept + occurs n spare = λ n. ap (occurs n) (sym whole) ∙ occurs_append n kept spare in
    let numbered : (n : ℕ) → occurs n numbers ≡ occurs n kept + occurs n t.more = λ n. ap (occurs n) t.numbers_are ∙ occurs_append n kept t.more in
    let moved = moved_beside old mid size [] free t.more t.now_free olds olds (numbers ++ spare) t.moved (λ n. omega arith)
    (λ n. (let a = both n in let b = numbered n in let c = occurs_append n numbers spare in omega (arith, a, b, c))) in
    record {
      now_free = t.now_free;
      are = free_now old mid size olds free (numbers ++ spare) t.now_free are olds_are moved;
      all = olds_now old mid size olds free (numbers ++ spare) t.now_free are olds_are moved;
      moved = moved;
      begins = begins_as olds kept t.more numbers k count k_is kept_is t.numbers_are t.long;
      rule = elim (t.rule) [
        | inl same ↦ inl same
        | inr grew ↦ inr (grew.0, (let few = grew.1 in spare_is ∙ drop_all k olds (omega (arith, few, cut, k_is))))
      ];
    }

part_of : (old mid : PageMap) (size : ℕ) (olds free spare numbers : List ℕ) → (b : IsBegun old mid size olds free spare numbers) → AreOlds mid b.now_free numbers
part_of old mid size olds free spare numbers b = olds_part mid b.now_free numbers (numbers ++ spare) (λ n. (let both = occurs_append n numbers spare in omega (arith, both))) b.all

-- the pages weren't written
pub unwritten : (old mid any : PageMap) (size : ℕ) (olds free spare numbers : List ℕ) (images : List (List ℕ)) (fault : Fault) → IsBegun old mid size olds free spare numbers → AllByRecursion (λ image. length image ≡ size) images → length numbers ≡ length images
    → WritesAll mid any size numbers images (Err fault) → IsOutside fault
unwritten old mid any size olds free spare numbers images fault b sized long writes = writes b.now_free b.are (part_of old mid size olds free spare numbers b) sized long

-- The pages are written, and those that are left over can be given back.
record IsThrough (mid then : PageMap) (size : ℕ) (spare numbers free : List ℕ) (images : List (List ℕ)) : Type 0 where
  pub written : AreWritten mid then size free numbers images
  pub moved : HasMoved mid then size (numbers ++ spare) free (numbers ++ spare) free
  pub are : AreFree then size free
  pub all : AreOlds then free (numbers ++ spare)
  pub spares : AreOlds then free spare

through : (old mid then : PageMap) (size : ℕ) (olds free spare numbers : List ℕ) (images : List (List ℕ)) → (b : IsBegun old mid size olds free spare numbers) → AllByRecursion (λ image. length image ≡ size) images → length numbers ≡ length images
    → WritesAll mid then size numbers images (Ok tt) → IsThrough mid then size spare numbers b.now_free images
through old mid then size olds free spare numbers images b sized long writes =
    let w = writes b.now_free b.are (part_of old mid size olds free spare numbers b) sized long in
    let moved = moved_beside mid then size numbers b.now_free numbers b.now_free spare (numbers ++ spare) (numbers ++ spare) w.moved (λ n. occurs_append n numbers spare) (λ n. occurs_append n numbers spare) in
    let all = olds_now mid then size (numbers ++ spare) b.now_free (numbers ++ spare) b.now_free b.are b.all moved in
    record {
      written = w;
      moved = moved;
      are = free_now mid then size (numbers ++ spare) b.now_free (numbers ++ spare) b.now_free b.are b.all moved;
      all = all;
      spares = olds_part then b.now_free spare (numbers ++ spare) (λ n. (let both = occurs_append n numbers spare in omega (arith, both))) all;
    }

-- pages that are left over weren't given back
pub ungiven : (old mid then any : PageMap) (size : ℕ) (olds free spare numbers : List ℕ) (images : List (List ℕ)) (fault : Fault) → IsBegun old mid size olds free spare numbers → AllByRecursion (λ image. length image ≡ size) images
    → length numbers ≡ length images → WritesAll mid then size numbers images (Ok tt) → GivesAll then any size spare (Err fault) → IsOutside fault
ungiven old mid then any size olds free spare numbers images fault b sized long writes gives =
    (let w = through old mid then size olds free spare numbers images b sized long writes in gives b.now_free w.are w.spares)

-- the pages are stored
pub stored : (old mid then new : PageMap) (size : ℕ) (olds free spare numbers : List ℕ) (packed : Packed) → IsBegun old mid size olds free spare numbers → AllByRecursion (λ image. length image ≡ size) (images packed)
    → length numbers ≡ length (images packed) → WritesAll mid then size numbers (images packed) (Ok tt) → GivesAll then new size spare (Ok tt) → AreStored old new size olds free packed numbers
stored old mid then new size olds free spare numbers packed b sized long writes gives =
    let w = through old mid then size olds free spare numbers (images packed) b sized long writes in
    let v = gives b.now_free w.are w.spares in
    let last = moved_beside then new size spare b.now_free [] v.now_free numbers (numbers ++ spare) numbers v.moved
    (λ n. (let both = occurs_append n numbers spare in omega (arith, both))) (λ n. omega arith) in
    let all = moved_then old mid new size olds free (numbers ++ spare) b.now_free numbers v.now_free b.moved
    (moved_then mid then new size (numbers ++ spare) b.now_free (numbers ++ spare) b.now_free numbers v.now_free w.moved last) in
    let apart : (n : ℕ) → 1 ≤ occurs n numbers → occurs n spare + occurs n b.now_free ≡ 0
    = λ n some. (let most = ((w.all).once).once n in let first = occurs_append n (numbers ++ spare) b.now_free in let both = occurs_append n numbers spare in omega (arith, most, first, both, some)) in
    let same = v.same in
    record {
      now_free = v.now_free;
      on = all_on_still then new size spare b.now_free [] v.now_free numbers (images packed) v.moved apart (w.written).on;
      begins = b.begins;
      has = all.has;
      moves = all.moves;
      header = all.header;
      rule = elim (b.rule) [
        | inl before ↦ inl (same ∙ (w.written).same ∙ before)
        | inr grew ↦ inr (let moves = (v.moved).moves in none_at_all v.now_free (λ n. (let at = moves.counts n in let no_fresh = fresh_same (length then) (length new) n same in
            let gone = ap (occurs n) grew.0 in let spared = ap (occurs n) grew.1 in omega (arith, at, no_fresh, gone, spared))))
      ];
    }

-- there are as many pages as numbers
pub as_many : (packed : Packed) (numbers : List ℕ) → length numbers ≡ length packed.pieces.items + 1 → length numbers ≡ length (images packed)
as_many packed numbers is = (let pages = map (λ piece. piece.page.items) packed.pieces.items in
    let both = length-append pages (packed.last.items ∷ []) in let each = length-map packed.pieces.items (λ piece. piece.page.items) in omega (arith, is, both, each))

-- a refusal that comes from outside is passed on
pub passed_on : {T : Type 0} (A : T → Type 0) (B : Type 0) (fault : Fault) (result : Result T Fault) → IsErrAnd result (λ e. e ≡ fault) → IsOutside fault → MatchResult result A (λ e. IsOutside e ⊎ ((e ≡ Full) × B))
passed_on A B fault (Ok x) is outside = absurd is
passed_on A B fault (Err e) is outside = inl (subst IsOutside (sym is) outside)

-- what writing pages does, it does from before the first call
pub writes_since : {P K : Type 0} (below : P → K) (tells : K → Bool) (limits : K → Limits) (old mid : P) (m new : PageMap) (numbers : List ℕ) (images : List (List ℕ)) (result : Result ⊤ Fault) → below mid ≡ below old
    → (IsTrue (tells (below mid)) → WritesAll m new (limits (below mid)).page numbers images result) → IsTrue (tells (below old)) → WritesAll m new (limits (below old)).page numbers images result
writes_since {P} {K} below tells limits old mid m new numbers images result kept writes told =
    subst (λ (k : K). WritesAll m new (limits k).page numbers images result) kept (writes (subst (λ (k : K). IsTrue (tells k)) (sym kept) told))

-- and so does giving pages back
pub all_given_since : {P K : Type 0} (below : P → K) (tells : K → Bool) (limits : K → Limits) (old mid : P) (m new : PageMap) (spare : List ℕ) (result : Result ⊤ Fault) → below mid ≡ below old
    → (IsTrue (tells (below mid)) → GivesAll m new (limits (below mid)).page spare result) → IsTrue (tells (below old)) → GivesAll m new (limits (below old)).page spare result
all_given_since {P} {K} below tells limits old mid m new spare result kept gives told =
    subst (λ (k : K). GivesAll m new (limits k).page spare result) kept (gives (subst (λ (k : K). IsTrue (tells k)) (sym kept) told))

-- The pages have their numbers, one for each.
pub record IsReady (old mid : PageMap) (size : ℕ) (olds free spare numbers : List ℕ) (packed : Packed) : Type 0 where
  pub begun_is : IsBegun old mid size olds free spare numbers
  pub long : length numbers ≡ length (images packed)

-- where pages were taken, they are ready to be written
pub ready : {T : Type 0} (view : T → List ℕ) (old mid : PageMap) (size : ℕ) (olds free kept spare slice fronts : List ℕ) (last k len : ℕ) (x : T) (packed : Packed) → k ≡ min (length olds) (len + 1) → kept ≡ take k olds → spare ≡ drop k olds
    → slice ≡ view x → slice ≡ fronts ++ last ∷ [] → len ≡ length packed.pieces.items → AreFree old size free → AreOlds old free olds → TakesMore view old mid size kept (len + 1) (Ok x)
    → IsReady old mid size olds free spare (fronts ++ last ∷ []) packed
ready view old mid size olds free kept spare slice fronts last k len x packed k_is kept_is spare_is slice_is split len_is are olds_are takes =
    let same : view x ≡ fronts ++ last ∷ [] = sym slice_is ∙ split in
    let cut : length kept ≡ k = ap length kept_is ∙ length-take-le k olds (omega (arith, k_is)) in
    let t = takes free are (omega (arith, cut, k_is)) in
    let whole = begun old mid size olds free kept spare (view x) k (len + 1) k_is kept_is spare_is are olds_are t in
    record {
      begun_is = subst (λ (l : List ℕ). IsBegun old mid size olds free spare l) same whole;
      long = (let long = t.long in let counted = ap length same in as_many packed (fronts ++ last ∷ []) (omega (arith, long, counted, len_is)));
    }

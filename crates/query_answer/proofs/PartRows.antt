-- What is kept of parts of an only source's rows.
use Rattle.std.proofs.Common.{◌≡◌, inl, inr, refl, sym, ap, subst, ◌∙◌, ℕ, zero, suc, ◌+◌, ◌<◌, ◌≤◌, arith, Bool, true, false, not, ◌&&◌, ◌||◌, ◌==◌, List, [], ◌∷◌, ◌++◌, length, map, drop, slice_index_or, Ok, Err}
use Rattle.std.specs.Prelude.{IfErr, Result, if◌then◌else◌}
use Rattle.std.specs.List.{list_all}
use Rattle.std.proofs.lemmas.Bool.{false≢true}
use Rattle.std.proofs.lemmas.List.{at_drop_more, append-nil}
use Rattle.sqlval.specs.Faults.{IsNotDiskFault}
use Rattle.sqlval.specs.Flow.{Flow, Finished, Next, Refused, followed_by, collected, row_of}
use Rattle.sqlval.specs.Refusals.{Answer, Refusal, ◌then◌, refusal_of}
use Rattle.sqlval.specs.declared.fault.Fault.{Fault}
use Rattle.sqlval.specs.declared.value.Value.{Value}
use Rattle.query_terms.specs.Outcome.{AnswersBy, IsRefusedBy}
use Rattle.query_terms.specs.Rows.{picked_rows}
use Rattle.query_terms.specs.Values.{Row}
use Rattle.query_filter.specs.Passing.{passing}
use Rattle.query_names.specs.Readings.{Sortable, combined, cut, env_of, in_order, nulls, once, rows_over}
use Rattle.query_names.specs.declared.reading.Condition.{Condition}
use Rattle.query_names.specs.declared.reading.Reading.{Reading}
use Rattle.query_totals.specs.Totals.{is_total, tallies_over}
use Rattle.query_groups.specs.Groups.{entries_kept, is_of_group}
use Rattle.query_answer.specs.Answers.{given_from}
use Rattle.query_answer.specs.Groups.{of_groups}
use Rattle.query_answer.specs.Nesting.{Found, Named, all_kept, at_leaf, beside_rows, given, is_left, joins_by, kept_if, kept_row, key_and_rows, nest_from, onto, stepped, to_group, tried}
use Rattle.query_answer.specs.Parts.{HaveKeys, Kept, StayRefused, is_alone, is_of_groups, is_of_totals, is_row_by_row, kept_of, of_row, of_rows, part_of, tallied_of}
use Rattle.query_answer.proofs.Flows.{followed_nothing, followed_twice, kept_rows}
use Rattle.query_answer.proofs.Given.{given_alone, given_grouped, given_refused, kept_alone, kept_from, kept_grouped, one_by_one, with_keys}
use Rattle.query_answer.proofs.LongKeys.{all_long}
use Rattle.query_answer.proofs.Levels.{behind_found, refused_found, row_within}
use Rattle.query_answer.proofs.Quiet.{combined_runs, refused_quietly}

-- ---- tests

first_of : (a b : Bool) → (a && b) ≡ true → a ≡ true
first_of true b e = refl
first_of false b e = absurd (false≢true e)

second_of : (a b : Bool) → (a && b) ≡ true → b ≡ true
second_of true b e = e
second_of false b e = absurd (false≢true e)

not_so : (a : Bool) → not a ≡ true → a ≡ false
not_so false e = refl
not_so true e = absurd (false≢true e)

alone_is : (ss : List Named) → is_alone ss ≡ true → (s : Named) × (ss ≡ s ∷ []) × (is_left s.1 ≡ false)
alone_is [] e = absurd (false≢true e)
alone_is (s ∷ []) e = (s, refl, not_so (is_left s.1) e)
alone_is (s ∷ t ∷ ss) e = absurd (false≢true e)

other_of : (a b : Bool) → a ≡ false → (a || b) ≡ true → b ≡ true
other_of false b isnt e = e
other_of true b isnt e = absurd (false≢true (sym isnt))

-- the one of two that can be
with_none : (n a b : Bool) → ((n && a) || (not n && b)) ≡ true → n ≡ true → (n && a) ≡ true
with_none true true b e is = refl
with_none true false b e is = e
with_none false a b e is = absurd (false≢true is)

with_some : (n a b : Bool) → ((n && a) || (not n && b)) ≡ true → n ≡ false → (not n && b) ≡ true
with_some true a b e isnt = absurd (false≢true (sym isnt))
with_some false a b e isnt = e

module _ (q : Reading) (e : is_row_by_row q ≡ true) (g : q.is_grouped ≡ true) where
  one_of : (is_of_totals q || is_of_groups q) ≡ true
  one_of = other_of (not q.is_grouped) (is_of_totals q || is_of_groups q) (ap not g) (first_of (not q.is_grouped || (is_of_totals q || is_of_groups q)) (is_alone q.sources) e)

  pub of_totals : (length q.keys == 0) ≡ true → is_of_totals q ≡ true
  of_totals n = with_none (length q.keys == 0) ((length q.order == 0) && list_all is_total q.results) ((length q.order == 0) && list_all is_of_group q.results) one_of n

  pub of_some_groups : (length q.keys == 0) ≡ false → is_of_groups q ≡ true
  of_some_groups n = with_some (length q.keys == 0) ((length q.order == 0) && list_all is_total q.results) ((length q.order == 0) && list_all is_of_group q.results) one_of n

pub alone : (q : Reading) → is_row_by_row q ≡ true → (s : Named) × (q.sources ≡ s ∷ []) × (is_left s.1 ≡ false)
alone q e = alone_is q.sources (second_of (not q.is_grouped || (is_of_totals q || is_of_groups q)) (is_alone q.sources) e)

-- ---- one row

module _ {B : Type 0} where
  pub nothing_more : (xs : List B) → onto xs Finished ≡ Ok xs
  nothing_more xs = (let done : List B → Answer (List B) = λ l. Ok l in ap done (append-nil xs))

  -- a row that doesn't join
  pub passed_over : (a : Answer Bool) (here : Flow B) (xs : List B) → a ≡ Ok false → onto xs (stepped a here (λ joins. Finished)) ≡ Ok xs
  passed_over a here xs e = ap (λ (b : Answer Bool). onto xs (stepped b here (λ joins. Finished))) e ∙ nothing_more xs

  -- one whose condition is refused
  pub condition_refused : (a : Answer Bool) (here : Flow B) (xs : List B) (fault : Fault) → IsRefusedBy a fault → IsRefusedBy (onto xs (stepped a here (λ joins. Finished))) fault
  condition_refused a here xs fault (inl m) = inl m
  condition_refused a here xs fault (inr e) = inr (ap (λ (b : Answer Bool). onto xs (stepped b here (λ joins. Finished))) e)

-- ---- row after row

row_is : (ss : List (List Row)) (rows : List Row) (i : ℕ) (d : Row) → ss ≡ rows ∷ [] → i < length rows → picked_rows ss (i ∷ []) ≡ slice_index_or rows i d ∷ []
row_is ss rows i d same lt = ap (λ (s : List (List Row)). picked_rows s (i ∷ [])) same ∙ ap (λ (r : Row). r ∷ []) (row_within rows i d lt)

module _ (q : Reading) (c : Condition) (ss : List (List Row)) (rows : List Row) (i : ℕ) (xs : List Found) (total : Answer (List Found)) (same : ss ≡ rows ∷ []) (lt : i < length rows)
    (so_far : onto xs (of_rows q c (drop i rows)) ≡ total) where
  abbrev here : Flow Found
  here = of_row q c (slice_index_or rows i nulls ∷ [])

  whole : onto xs (followed_by here (of_rows q c (drop (i + 1) rows))) ≡ total
  whole = sym (at_drop_more (λ rest. onto xs (of_rows q c rest)) rows i nulls lt) ∙ so_far

  pub row_goes_on : (ys : List Found) → onto xs (of_row q c (picked_rows ss (i ∷ []))) ≡ Ok ys → onto ys (of_rows q c (drop (i + 1) rows)) ≡ total
  row_goes_on ys e =
      sym (behind_found xs ys here (of_rows q c (drop (i + 1) rows)) (ap (λ (r : List Row). onto xs (of_row q c r)) (sym (row_is ss rows i nulls same lt)) ∙ e)) ∙ whole

  pub row_stops : (fault : Fault) → IsRefusedBy (onto xs (of_row q c (picked_rows ss (i ∷ [])))) fault → IsRefusedBy total fault
  row_stops fault h =
      subst (λ (a : Answer (List Found)). IsRefusedBy a fault) whole
      (refused_found xs here (of_rows q c (drop (i + 1) rows)) fault (subst (λ (r : List Row). IsRefusedBy (onto xs (of_row q c r)) fault) (row_is ss rows i nulls same lt) h))

-- ---- the loops over one source

alone_tried : (q : Reading) (c : Condition) (f : Bool) (rows : List Row) → is_left c ≡ false → tried (joins_by c) (is_left c) (at_leaf q) [] f rows ≡ of_rows q c rows
alone_tried q c f [] e = ap (λ b. if (b && not f) then at_leaf q (nulls ∷ []) else Finished) e
alone_tried q c f (r ∷ rs) e = by (λ g. alone_tried q c g rs e) (joins_by c (r ∷ []))
  where
    by : ((g : Bool) → tried (joins_by c) (is_left c) (at_leaf q) [] g rs ≡ of_rows q c rs) → (a : Answer Bool)
        → stepped a (at_leaf q (r ∷ [])) (λ joins. tried (joins_by c) (is_left c) (at_leaf q) [] (f || joins) rs) ≡ followed_by (stepped a (at_leaf q (r ∷ [])) (λ joins. Finished)) (of_rows q c rs)
    by rest (Ok true) = ap (followed_by (at_leaf q (r ∷ []))) (rest (f || true)) ∙ ap (λ (g : Flow Found). followed_by g (of_rows q c rs)) (sym (followed_nothing (at_leaf q (r ∷ []))))
    by rest (Ok false) = rest (f || false)
    by rest (Err x) = refl

pub rows_kept : (q : Reading) (s : Named) (rows : List Row) → q.sources ≡ s ∷ [] → is_left s.1 ≡ false → all_kept q (beside_rows q.sources (rows ∷ [])) ≡ collected (of_rows q s.1 rows)
rows_kept q s rows same e =
    ap collected (kept_rows q (beside_rows q.sources (rows ∷ [])))
    ∙ (ap (λ (ss : List Named). collected (nest_from (at_leaf q) (beside_rows ss (rows ∷ [])) [])) same
    ∙ ap collected (alone_tried q s.1 false rows e))

-- ---- what is kept of a list

abbrev pub all_of : Reading → Answer (List Found) → Answer Kept
all_of q a = a then λ all. Ok (kept_of q all)

abbrev kept_if_grouped : Reading → List Found → Bool → Kept
kept_if_grouped q found b = if b then tallied_of q found (length q.keys == 0) else (map (λ f. f.0) found, [], [])

pub kept_totals : (q : Reading) (found : List Found) → q.is_grouped ≡ true → (length q.keys == 0) ≡ true → kept_of q found ≡ ([], tallies_over (map (λ f. f.1) found) q.results, [])
kept_totals q found g n = ap (kept_if_grouped q found) g ∙ ap (tallied_of q found) n

pub kept_groups : (q : Reading) (found : List Found) → q.is_grouped ≡ true → (length q.keys == 0) ≡ false → kept_of q found ≡ ([], [], entries_kept q.keys q.results (map key_and_rows found))
kept_groups q found g n = ap (kept_if_grouped q found) g ∙ ap (tallied_of q found) n

pub kept_each : (q : Reading) (found : List Found) → q.is_grouped ≡ false → kept_of q found ≡ (map (λ f. f.0) found, [], [])
kept_each q found g = ap (kept_if_grouped q found) g

-- an answer of which something is kept
was_kept : (q : Reading) (a : Answer (List Found)) (kept : Kept) → all_of q a ≡ Ok kept → (found : List Found) × (a ≡ Ok found) × (kept_of q found ≡ kept)
was_kept q (Ok found) kept e = (found, refl, cc)
was_kept q (Err r) kept e = absurd cc

was_refused : (q : Reading) (a : Answer (List Found)) (r : Refusal) → all_of q a ≡ Err r → a ≡ Err r
was_refused q (Ok found) r e = absurd cc
was_refused q (Err x) r e = ap again e
  where
    again : Answer Kept → Answer (List Found)
    again (Ok kept) = Ok []
    again (Err r) = Err r

refused_of : (q : Reading) (a : Answer (List Found)) (f : Fault) → IsRefusedBy (all_of q a) f → IsRefusedBy a f
refused_of q a f (inl m) = inl m
refused_of q a f (inr e) = inr (was_refused q a (refusal_of f) e)

of_refused : (q : Reading) (a : Answer (List Found)) (f : Fault) → IsRefusedBy a f → IsRefusedBy (all_of q a) f
of_refused q a f (inl m) = inl m
of_refused q a f (inr e) = inr (ap (all_of q) e)

pub part_is : (q : Reading) (s : Named) (rows : List Row) → q.sources ≡ s ∷ [] → is_left s.1 ≡ false → part_of q rows ≡ all_of q (collected (of_rows q s.1 rows))
part_is q s rows same e = ap (all_of q) (rows_kept q s rows same e)

pub nothing_kept : (q : Reading) → is_row_by_row q ≡ true → part_of q [] ≡ Ok (kept_of q [])
nothing_kept q e = (let a = alone q e in part_is q a.0 [] a.1 a.2)

-- ---- row after row of what is kept

-- (`q` says what is kept, and `p` is the same query with its WHERE prepared)
module _ (p q : Reading) (c : Condition) (ss : List (List Row)) (rows : List Row) (i : ℕ) (xs : List Found) (total : Answer (List Found)) (same : ss ≡ rows ∷ []) (lt : i < length rows)
    (so_far : onto xs (of_rows p c (drop i rows)) ≡ total) where
  pub rows_go_on : (new : Kept) → all_of q (onto xs (of_row p c (picked_rows ss (i ∷ [])))) ≡ Ok new → (ys : List Found) × (new ≡ kept_of q ys) × (onto ys (of_rows p c (drop (i + 1) rows)) ≡ total) × (onto xs (of_row p c (picked_rows ss (i ∷ []))) ≡ Ok ys)
  rows_go_on new h =
      let was = was_kept q (onto xs (of_row p c (picked_rows ss (i ∷ [])))) new h in
      (was.0, sym was.2, row_goes_on p c ss rows i xs total same lt so_far was.0 was.1, was.1)

  pub rows_stop : (fault : Fault) → IsRefusedBy (all_of q (onto xs (of_row p c (picked_rows ss (i ∷ []))))) fault → IsRefusedBy (all_of q total) fault
  rows_stop fault h =
      of_refused q total fault (row_stops p c ss rows i xs total same lt so_far fault (refused_of q (onto xs (of_row p c (picked_rows ss (i ∷ [])))) fault h))

pub none_left : (rows : List Row) (i : ℕ) → length rows ≤ i → drop i rows ≡ []
none_left [] zero h = refl
none_left [] (suc i) h = refl
none_left (r ∷ rs) zero h = absurd (omega (arith, h))
none_left (r ∷ rs) (suc i) h = none_left rs i (omega (arith, h))

pub rows_done : (q : Reading) (xs : List Found) (total : Answer (List Found)) (kept : Kept) → kept ≡ kept_of q xs → onto xs Finished ≡ total → all_of q total ≡ Ok kept
rows_done q xs total kept is left =
    ap (all_of q) (sym left) ∙ (ap (all_of q) (nothing_more xs) ∙ (let done : Kept → Answer Kept = λ k. Ok k in ap done (sym is)))

-- ---- one row

module _ (q : Reading) (c : Condition) (rows : List Row) (before : List Found) where
  -- one that WHERE keeps
  pub one_kept : joins_by c rows ≡ Ok true → passing q.filter (env_of rows) ≡ Ok true
      → all_of q (onto before (of_row q c rows)) ≡ (kept_row q rows then λ f. Ok (kept_of q (before ++ f ∷ [])))
  one_kept joins passes = (λ i. all_of q (onto before (stepped (joins i) (kept_if q rows (passes i)) (λ joins. Finished)))) ∙ by (kept_row q rows)
    where
      by : (a : Answer Found) → all_of q (onto before (followed_by (row_of a) Finished)) ≡ (a then λ f. let k : Answer Kept = Ok (kept_of q (before ++ f ∷ [])) in k)
      by (Ok f) = refl
      by (Err r) = refl

  -- one that it doesn't keep
  pub one_left : joins_by c rows ≡ Ok true → passing q.filter (env_of rows) ≡ Ok false → all_of q (onto before (of_row q c rows)) ≡ Ok (kept_of q before)
  one_left joins passes =
      (λ i. all_of q (onto before (stepped (joins i) (kept_if q rows (passes i)) (λ joins. Finished)))) ∙ ap (all_of q) (nothing_more before)

  pub one_apart : joins_by c rows ≡ Ok false → all_of q (onto before (of_row q c rows)) ≡ Ok (kept_of q before)
  one_apart joins = ap (all_of q) (passed_over (joins_by c rows) (at_leaf q rows) before joins)

  -- one of which a condition is refused
  pub one_unjoined : (f : Fault) → IsRefusedBy (joins_by c rows) f → IsRefusedBy (all_of q (onto before (of_row q c rows))) f
  one_unjoined f h = of_refused q (onto before (of_row q c rows)) f (condition_refused (joins_by c rows) (at_leaf q rows) before f h)

  pub one_unfiltered : (f : Fault) → joins_by c rows ≡ Ok true → IsRefusedBy (passing q.filter (env_of rows)) f → IsRefusedBy (all_of q (onto before (of_row q c rows))) f
  one_unfiltered f joins (inl m) = inl m
  one_unfiltered f joins (inr e) = inr (λ i. all_of q (onto before (stepped (joins i) (kept_if q rows (e i)) (λ joins. Finished))))

-- ---- parts

pub rows_behind : (q : Reading) (c : Condition) (rows more : List Row) → of_rows q c (rows ++ more) ≡ followed_by (of_rows q c rows) (of_rows q c more)
rows_behind q c [] more = refl
rows_behind q c (r ∷ rs) more =
    ap (followed_by (of_row q c (r ∷ []))) (rows_behind q c rs more) ∙ sym (followed_twice (of_row q c (r ∷ [])) (of_rows q c rs) (of_rows q c more))

-- a list that is there, and what a flow gives after it
none_onto : {A : Type 0} (a : Answer (List A)) → a ≡ (a then λ ys. Ok ([] ++ ys))
none_onto (Ok ys) = refl
none_onto (Err r) = refl

pub behind : {A : Type 0} (f g : Flow A) (xs : List A) → collected f ≡ Ok xs → collected (followed_by f g) ≡ onto xs g
behind f g xs e = none_onto (collected (followed_by f g)) ∙ behind_found [] xs f g (sym (none_onto (collected f)) ∙ e)

pub refused_behind : {A : Type 0} (f g : Flow A) (r : Refusal) → collected f ≡ Err r → collected (followed_by f g) ≡ Err r
refused_behind Finished g r e = absurd cc
refused_behind (Refused x) g r e = e
refused_behind {A} (Next x f) g r e = ap (λ (a : Answer (List A)). a then λ xs. Ok (x ∷ xs)) (refused_behind f g r (tail (collected f) e))
  where
    tail : (a : Answer (List A)) → (a then λ xs. let l : Answer (List A) = Ok (x ∷ xs) in l) ≡ Err r → a ≡ Err r
    tail (Ok xs) h = absurd cc
    tail (Err y) h = h

-- ---- what a part gives after those before it

module _ (q : Reading) (s : Named) (rows before : List Row) (e : is_row_by_row q ≡ true) (same : q.sources ≡ s ∷ []) (left : is_left s.1 ≡ false) where
  more_is : (found : List Found) → collected (of_rows q s.1 before) ≡ Ok found → all_of q (onto found (of_rows q s.1 rows)) ≡ part_of q (before ++ rows)
  more_is found h =
      ap (all_of q) (sym (behind (of_rows q s.1 before) (of_rows q s.1 rows) found h) ∙ ap collected (sym (rows_behind q s.1 before rows))) ∙ sym (part_is q s (before ++ rows) same left)

  pub part_given : {T : Type 0} (result : Result T Fault) (old new : Kept) → part_of q before ≡ Ok old
      → ((found : List Found) → HaveKeys q found → old ≡ kept_of q found → AnswersBy (λ u. new) (all_of q (onto found (of_rows q s.1 rows))) result) → AnswersBy (λ u. new) (part_of q (before ++ rows)) result
  part_given result old new had given =
      let was = was_kept q (collected (of_rows q s.1 before)) old (sym (part_is q s before same left) ∙ had) in
      subst (λ (a : Answer Kept). AnswersBy (λ u. new) a result) (more_is was.0 was.1)
      (given was.0 (all_long q (beside_rows q.sources (before ∷ [])) was.0 (rows_kept q s before same left ∙ was.1)) (sym was.2))

  pub part_quiet : (f : Fault) (new : Kept) → IsRefusedBy (part_of q (before ++ rows)) f → IsNotDiskFault f
  part_quiet f new h =
      let sources = beside_rows q.sources ((before ++ rows) ∷ []) in
      refused_quietly q [] (combined sources []) f (combined_runs sources []) (given_refused q [] (combined sources []) f (refused_of q (all_kept q sources) f h))

  pub part_calm : {T : Type 0} (result : Result T Fault) (new : Kept) → AnswersBy (λ u. new) (part_of q (before ++ rows)) result → IfErr result IsNotDiskFault
  part_calm (Ok u) new answers = tt
  part_calm (Err f) new answers = part_quiet f new answers

-- in the words of the loop's call
pub part_answers : {T : Type 0} (q : Reading) (s : Named) (new : Kept) (at p : Reading) (c : Condition) (them rows : List Row) (found : List Found) (result : Result T Fault) → at ≡ q → p ≡ q → c ≡ s.1 → them ≡ rows
    → AnswersBy (λ u. new) (all_of at (onto found (of_rows p c them))) result → AnswersBy (λ u. new) (all_of q (onto found (of_rows q s.1 rows))) result
part_answers q s new at p c them rows found result at_is p_is c_is them_is answers =
    subst (λ (a : Answer Kept). AnswersBy (λ u. new) a result) (λ i. all_of (at_is i) (onto found (of_rows (p_is i) (c_is i) (them_is i)))) answers

-- ---- what is refused stays so

refused_before : {A B : Type 0} (h : A → B) (a : Answer (List A)) (r : Refusal) → (a then λ ys. let l : Answer (List B) = Ok (map h ys) in l) ≡ Err r → a ≡ Err r
refused_before h (Ok ys) r e = absurd cc
refused_before {A} {B} h (Err x) r e = ap again e
  where
    again : Answer (List B) → Answer (List A)
    again (Ok bs) = Ok []
    again (Err r) = Err r

unkept : (q : Reading) (flow : Flow (List Row)) (r : Refusal) → kept_from q flow ≡ Err r → given_from q [] flow ≡ Err r
unkept q flow r h = by q.is_grouped refl
  where
    by : (b : Bool) → q.is_grouped ≡ b → given_from q [] flow ≡ Err r
    by false g = given_alone q [] flow g ∙ refused_before given (one_by_one q flow) r (sym (kept_alone q flow g) ∙ h)
    by true g = given_grouped q [] flow g ∙ ap (λ a. a then of_groups q []) (refused_before to_group (with_keys q flow) r (sym (kept_grouped q flow g) ∙ h))

refused_over : (q : Reading) (sources : List (Condition × List Row)) (r : Refusal) → given_from q [] (combined sources []) ≡ Err r → rows_over q [] sources ≡ Err r
refused_over q sources r e = ap (λ (a : Answer (List Sortable)). a then λ found. finished (map (λ s. s.0) (cut q (in_order q (once q found))))) e
  where
    finished : List (List Value) → Answer (List (List Value))
    finished rows = Ok rows

pub stay_refused : StayRefused
stay_refused q rows more r e refused =
    let a = alone q e in
    let sources = beside_rows q.sources ((rows ++ more) ∷ []) in
    refused_over q sources r
    (unkept q (combined sources []) r
    (rows_kept q a.0 (rows ++ more) a.1 a.2
    ∙ (ap collected (rows_behind q a.0.1 rows more)
    ∙ refused_behind (of_rows q a.0.1 rows) (of_rows q a.0.1 more) r (was_refused q (collected (of_rows q a.0.1 rows)) r (sym (part_is q a.0 rows a.1 a.2) ∙ refused)))))

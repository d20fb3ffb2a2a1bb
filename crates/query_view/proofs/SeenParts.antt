-- What a query keeps of what a view's query makes of rows.
use Rattle.std.proofs.Common.{◌≡◌, inl, inr, refl, sym, ap, subst, ◌∙◌, true, List, [], ◌++◌, map, Option, Some, None, Ok, Err, append_assoc, append-nil}
use Rattle.std.specs.Prelude.{Result}
use Rattle.std.proofs.lemmas.List.{map-append}
use Rattle.sqlval.specs.Faults.{IsNotDiskFault}
use Rattle.sqlval.specs.Refusals.{Answer, Refusal, ◌then◌, refusal_of}
use Rattle.sqlval.specs.declared.fault.Fault.{Fault}
use Rattle.sqlval.specs.declared.value.Value.{Value}
use Rattle.sqlval.specs.declared.value.Value.TheVariants.{Null}
use Rattle.query_terms.specs.Outcome.{AnswersBy, IsRefusedBy}
use Rattle.query_terms.specs.Values.{Row}
use Rattle.query_names.specs.Views.{plain_rows}
use Rattle.query_names.specs.declared.reading.Reading.{Reading}
use Rattle.query_answer.specs.Parts.{FollowOneAnother, GivesInOrder, Kept, StayRefused, answer_on, is_row_by_row, part_of}
use Rattle.query_view.specs.Seen.{HasKept, HasSeen, IsRefusedFrom, answer_through}

abbrev Rows : Type 0
Rows = List (List Value)

abbrev made : Answer Rows → Answer (List Row)
made a = a then λ rows. Ok (plain_rows rows)

-- ---- what was kept, and more

module _ (law : FollowOneAnother) (view q : Reading) (is : GivesInOrder view) where
  pub none_seen : (kept : Kept) → part_of q [] ≡ Ok kept → HasSeen view q [] (kept, None)
  none_seen kept h = record { made = []; are = law.none view is; kept = h }

  was_made : (a : Answer Rows) (there : List Row) → made a ≡ Ok there → (rows : Rows) × (a ≡ Ok rows) × (there ≡ plain_rows rows)
  was_made (Ok rows) there e = (rows, refl, cc)
  was_made (Err r) there e = absurd cc

  module _ (before rows : List Row) (old : Kept × Option Fault) (has : HasSeen view q before old) where
    abbrev after : Answer Rows → Answer Rows → Answer Rows
    after a b = a then λ xs. b then λ ys. Ok (xs ++ ys)

    pub more_seen : (there : List Row) (new : Kept × Option Fault) → made (answer_on view rows) ≡ Ok there
        → ((them : List Row) → HasKept q them old.0 old.1 → HasKept q (them ++ there) new.0 new.1) → HasSeen view q (before ++ rows) new
    more_seen there new is_made keeps =
        let was = was_made (answer_on view rows) there is_made in
        record {
          made = has.made ++ was.0;
          are = law.both view before rows is ∙ (λ i. after (has.are i) (was.1 i));
          kept = subst (λ (l : List Row). HasKept q l new.0 new.1) (ap (λ (l : List Row). plain_rows has.made ++ l) was.2 ∙ sym (map-append as_row has.made was.0)) (keeps (plain_rows has.made) has.kept);
        }
      where
        as_row : List Value → Row
        as_row vs = record { rowid = Null; values = vs }

    was_refused : (a : Answer Rows) (r : Refusal) → made a ≡ Err r → a ≡ Err r
    was_refused (Ok rows) r e = absurd cc
    was_refused (Err x) r e = ap again e
      where
        again : Answer (List Row) → Answer Rows
        again (Ok rows) = Ok []
        again (Err r) = Err r

    abbrev seen : Answer Rows → Answer Rows
    seen a = a then λ rows. answer_on q (plain_rows rows)

    pub none_made : (fault : Fault) → IsRefusedBy (made (answer_on view rows)) fault → IsRefusedFrom (answer_through view q) (before ++ rows) fault
    none_made fault (inl memory) = inl memory
    none_made fault (inr why) =
        inr (λ more.
        ap seen (law.both view (before ++ rows) more is
        ∙ (ap (λ (a : Answer Rows). after a (answer_on view more)) (law.both view before rows is ∙ (λ i. after (has.are i) (was_refused (answer_on view rows) (refusal_of fault) why i))))))

-- ---- what a query keeps

module _ (law : StayRefused) (q : Reading) (e : is_row_by_row q ≡ true) (before rows : List Row) where
  -- one that is refused stays so
  pub stays_refused : (kept : Kept) (fault : Fault) → HasKept q before kept (Some fault) → HasKept q (before ++ rows) kept (Some fault)
  stays_refused kept fault h = (h.0, further h.1)
    where
      further : IsRefusedFrom (answer_on q) before fault → IsRefusedFrom (answer_on q) (before ++ rows) fault
      further (inl memory) = inl memory
      further (inr why) = inr (λ more. ap (answer_on q) (append_assoc before rows more) ∙ why (rows ++ more))

  pub now_refused : (kept : Kept) (fault : Fault) → IsNotDiskFault fault → IsRefusedBy (part_of q (before ++ rows)) fault → HasKept q (before ++ rows) kept (Some fault)
  now_refused kept fault quiet (inl memory) = (quiet, inl memory)
  now_refused kept fault quiet (inr why) = (quiet, inr (λ more. law q (before ++ rows) more (refusal_of fault) e why))

-- ---- the answer

module _ (view q : Reading) (rows : List Row) where
  abbrev seen_then : Answer Rows → Answer Rows
  seen_then a = a then λ them. answer_on q (plain_rows them)

  pub answered : {X : Type 0} (by : X → Rows) (kept : Kept) (result : Result X Fault) → HasSeen view q rows (kept, None)
      → ((them : List Row) → part_of q them ≡ Ok kept → AnswersBy by (answer_on q them) result) → AnswersBy by (answer_through view q rows) result
  answered by kept result has finish =
      subst (λ (a : Answer Rows). AnswersBy by a result) (sym (ap seen_then has.are)) (finish (plain_rows has.made) has.kept)

  pub refused : (kept : Kept) (fault : Fault) → HasSeen view q rows (kept, Some fault) → IsRefusedBy (answer_through view q rows) fault
  refused kept fault has = by has.kept.1
    where
      by : IsRefusedFrom (answer_on q) (plain_rows has.made) fault → IsRefusedBy (answer_through view q rows) fault
      by (inl memory) = inl memory
      by (inr why) = inr (ap seen_then has.are ∙ (ap (answer_on q) (sym (append-nil (plain_rows has.made))) ∙ why []))

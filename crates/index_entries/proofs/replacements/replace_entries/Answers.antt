use Rattle.std.proofs.Common.{rules, ◌≡◌, subst, sym, ◌∙◌, ◌<◌, ℕ, List, ◌++◌, length, map, arith, Ok, Err}
use Rattle.std.proofs.lemmas.List.{length-map}
use Rattle.index_entries.specs.Entries.{Row}
use Rattle.index_entries.specs.Keeping.{columns_in, row_in}
use Rattle.index_entries.specs.Replacing.{ReplacesEntries, changed}
use Rattle.index_entries.proofs.Batches.{batch_refused, changed_within, none_changed, none_come, none_go, passed_over, replaces_rest, same_after, some_listed}
use Rattle.index_entries.proofs.Gone.{rows_parted}
use Rattle.index_entries.proofs.Looping.{since}
use Rattle.index_entries.proofs.replacements.replace_entries.Goals as goal

pub split_at-requires : goal.split_at-requires
split_at-requires g c =
    let within = changed_within (columns_in c.args.columns.now) (map row_in c.rows.left.now) (map row_in c.rows.next.now) in
    let some = some_listed c.rows.left.now (λ none. grind (arith, none, c.is_empty.ensures, c.rows-test.true)) in
    omega (arith, within.0, length-map c.rows.left.now row_in, some, c.max-passed.ensures, c.count_changed-count.ensures)

pub split_at-requires-in-rows : goal.split_at-requires-in-rows
split_at-requires-in-rows g c =
    let within = changed_within (columns_in c.args.columns.now) (map row_in c.rows.left.now) (map row_in c.rows.next.now) in
    let some = some_listed c.rows.next.now (λ none. grind (arith, none, c.is_empty-in-rows.ensures, c.if-not-is_empty.true)) in
    omega (arith, within.1, length-map c.rows.next.now row_in, some, c.max-passed.ensures, c.count_changed-count.ensures)

-- a batch is refused
pub returns-in_err-replace_batch-clause-replaced : goal.returns-in_err-replace_batch-clause-replaced
returns-in_err-replace_batch-clause-replaced g c = λ told.
    (let pages = g.P.Pages in
    let old = c.args.pages.now in
    let mid = pages.map c.rows.pages in
    let new = pages.map c.replace_batch.new.pages in
    let size = (pages.limits (pages.below old)).page in
    let columns = columns_in c.args.columns.now in
    let batch = c.split_at.result.0.now in
    let rest = c.split_at.result.1.now in
    let come = c.split_at-in-rows.result.0.now in
    let others = c.split_at-in-rows.result.1.now in
    let fault = c.in_err-replace_batch.field-0.0 in
    let result = c.from_residual-in_err-replace_batch.result in
    let does = since pages.below pages.tells pages.limits old c.rows.pages (λ (n : ℕ). ReplacesEntries mid new n c.args.root columns (map row_in batch) (map row_in come) (Err fault)) c.rows.invariant.0.kept c.in_err-replace_batch.ensures.replaced told in
    let even = length-map batch row_in ∙ c.split_at.ensures.front_len ∙ sym c.split_at-in-rows.ensures.front_len ∙ sym (length-map come row_in) in
    let first = rows_parted row_in c.max-passed.result c.rows.left.now batch rest c.split_at.ensures.front c.split_at.ensures.back in
    let second = rows_parted row_in c.max-passed.result c.rows.next.now come others c.split_at-in-rows.ensures.front c.split_at-in-rows.ensures.back in
    c.rows.invariant.0.decides told new result
    (subst (λ (rs : List Row). ReplacesEntries mid new size c.args.root columns rs (map row_in c.rows.next.now) result) (sym first)
    (subst (λ (rs : List Row). ReplacesEntries mid new size c.args.root columns (map row_in batch ++ map row_in rest) rs result) (sym second)
    (batch_refused size c.args.root columns (map row_in batch) (map row_in come) (map row_in rest) (map row_in others) even mid new fault result c.from_residual-in_err-replace_batch.ensures.1 does))))

-- where the keys are the same there is no batch
pub returns-in_err-replace_batch-clause-idle : goal.returns-in_err-replace_batch-clause-idle
returns-in_err-replace_batch-clause-idle g c = λ same.
    (let none = none_changed (columns_in c.args.columns.now) (map row_in c.rows.left.now) (map row_in c.rows.next.now) (c.rows.invariant.1 same).1 in
    absurd (omega (arith, none, c.count_changed-count.ensures, c.if-count-gt0.true)))

pub rows-smaller-in_ok-replace_batch : goal.rows-smaller-in_ok-replace_batch
rows-smaller-in_ok-replace_batch g c = (let less : length c.split_at.result.1.now < length c.rows.left.now = omega (arith, c.split_at.ensures.back_len, c.max-passed.ensures) in less)

pub rows-preserved-in_ok-replace_batch : goal.rows-preserved-in_ok-replace_batch
rows-preserved-in_ok-replace_batch g c =
    let pages = g.P.Pages in
    let old = c.args.pages.now in
    let mid = pages.map c.rows.pages in
    let now = pages.map c.replace_batch.new.pages in
    let size = (pages.limits (pages.below old)).page in
    let columns = columns_in c.args.columns.now in
    let batch = c.split_at.result.0.now in
    let rest = c.split_at.result.1.now in
    let come = c.split_at-in-rows.result.0.now in
    let others = c.split_at-in-rows.result.1.now in
    let even = length-map batch row_in ∙ c.split_at.ensures.front_len ∙ sym c.split_at-in-rows.ensures.front_len ∙ sym (length-map come row_in) in
    let first = rows_parted row_in c.max-passed.result c.rows.left.now batch rest c.split_at.ensures.front c.split_at.ensures.back in
    let second = rows_parted row_in c.max-passed.result c.rows.next.now come others c.split_at-in-rows.ensures.front c.split_at-in-rows.ensures.back in (
      record {
        kept = c.in_ok-replace_batch.ensures.kept ∙ c.rows.invariant.0.kept;
        causes = search rules;
        decides = λ told new result more.
            (let does = since pages.below pages.tells pages.limits old c.rows.pages (λ (n : ℕ). ReplacesEntries mid now n c.args.root columns (map row_in batch) (map row_in come) (Ok tt)) c.rows.invariant.0.kept c.in_ok-replace_batch.ensures.replaced told in
            c.rows.invariant.0.decides told new result
            (subst (λ (rs : List Row). ReplacesEntries mid new size c.args.root columns rs (map row_in c.rows.next.now) result) (sym first)
            (subst (λ (rs : List Row). ReplacesEntries mid new size c.args.root columns (map row_in batch ++ map row_in rest) rs result) (sym second)
            (replaces_rest size c.args.root columns (map row_in batch) (map row_in come) (map row_in rest) (map row_in others) even mid now new result does more))));
      },
      λ same.
          (let none = none_changed columns (map row_in c.rows.left.now) (map row_in c.rows.next.now) (c.rows.invariant.1 same).1 in
          absurd (omega (arith, none, c.count_changed-count.ensures, c.if-count-gt0.true))),
    )

pub rows-smaller : goal.rows-smaller
rows-smaller g c = (let less : length c.split_at.result.1.now < length c.rows.left.now = omega (arith, c.split_at.ensures.back_len, c.max-passed.ensures) in less)

-- the first entry stays
pub rows-preserved : goal.rows-preserved
rows-preserved g c =
    let pages = g.P.Pages in
    let old = c.args.pages.now in
    let mid = pages.map c.rows.pages in
    let size = (pages.limits (pages.below old)).page in
    let columns = columns_in c.args.columns.now in
    let left = c.rows.left.now in
    let next = c.rows.next.now in
    let batch = c.split_at.result.0.now in
    let rest = c.split_at.result.1.now in
    let come = c.split_at-in-rows.result.0.now in
    let others = c.split_at-in-rows.result.1.now in
    let n = c.max-passed.result in
    let even = length-map batch row_in ∙ c.split_at.ensures.front_len ∙ sym c.split_at-in-rows.ensures.front_len ∙ sym (length-map come row_in) in
    let first = rows_parted row_in n left batch rest c.split_at.ensures.front c.split_at.ensures.back in
    let second = rows_parted row_in n next come others c.split_at-in-rows.ensures.front c.split_at-in-rows.ensures.back in
    let some = some_listed left (λ none. grind (arith, none, c.is_empty.ensures, c.rows-test.true)) in
    let also = some_listed next (λ none. grind (arith, none, c.is_empty-in-rows.ensures, c.if-not-is_empty.true)) in
    let none : changed columns (map row_in left) (map row_in next) ≡ 0 = omega (arith, c.count_changed-count.ensures, c.if-count-gt0.false) in
    let one : n ≡ 1 = omega (arith, c.max-passed.ensures, c.if-count-gt0.false) in
    let stays = passed_over columns left next batch come rest others n some also none one size c.args.root mid c.split_at.ensures.front c.split_at-in-rows.ensures.front in (
      record {
        kept = c.rows.invariant.0.kept;
        causes = c.rows.invariant.0.causes;
        decides = λ told new result more.
            (c.rows.invariant.0.decides told new result
            (subst (λ (rs : List Row). ReplacesEntries mid new size c.args.root columns rs (map row_in next) result) (sym first)
            (subst (λ (rs : List Row). ReplacesEntries mid new size c.args.root columns (map row_in batch ++ map row_in rest) rs result) (sym second)
            (replaces_rest size c.args.root columns (map row_in batch) (map row_in come) (map row_in rest) (map row_in others) even mid mid new result stays more))));
      },
      λ same.
          (let so = c.rows.invariant.1 same in
          (so.0, same_after columns left next batch come rest others n some also none one c.split_at.ensures.back c.split_at-in-rows.ensures.back so.1)),
    )

-- all are replaced
pub returns-clause-replaced : goal.returns-clause-replaced
returns-clause-replaced g c = λ told.
    (let pages = g.P.Pages in
    let mid = pages.map c.rows.pages in
    let size = (pages.limits (pages.below c.args.pages.now)).page in
    let columns = columns_in c.args.columns.now in
    let left = c.rows.left.now in
    let next = c.rows.next.now in
    let done : ReplacesEntries mid mid size c.args.root columns (map row_in left) (map row_in next) (Ok tt) = elim c.rows-test.branch [
      | goal.then-rows-test+else-not-is_empty w ↦ (let none : length next ≡ 0 = grind (arith, w.is_empty-in-rows.ensures, w.if-not-is_empty.false) in none_come size c.args.root columns mid left next none)
      | goal.else-rows-test w ↦ (let none : length left ≡ 0 = grind (arith, c.is_empty.ensures, w.rows-test.false) in none_go size c.args.root columns mid left next none)
    ] in
    c.rows.invariant.0.decides told mid (Ok tt) done)

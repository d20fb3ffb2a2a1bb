use Rattle.std.proofs.Common.{◌≡◌, ◌∙◌, inr, refl, sym, subst, arith}
use Rattle.sqlval.specs.declared.fault.Fault.TheVariants.{Memory}
use Rattle.db_header.specs.declared.fields.Header.{Header}
use Rattle.wal.specs.Anew.{base_of, begins_anew}
use Rattle.wal.specs.LogState.{state_of}
use Rattle.pager.specs.Limits.{pages_of}
use Rattle.pager.specs.Views.{changes_of}
use Rattle.pager.specs.Writers.{IsNextHeader, Reheads, makes_objects}
use Rattle.pager.proofs.CommitViews.{all_committed, all_left, committed_left, has_pages, known_after, may_header, next_header_there, not_refused, refused_commit, refused_leaves, same_header}
use Rattle.pager.proofs.Reheading.{IsReheaded, reheaded_same}
use Rattle.pager.proofs.Restoring.{IsReset, reset_same}
use Rattle.pager.proofs.writer.Writer.commit.Goals as goal

pub returns-in_err-old-clause-refused : goal.returns-in_err-old-clause-refused
returns-in_err-old-clause-refused g c page header may =
    absurd (not_refused c.header.result header _ (c.header.ensures.only header may.whole (may_header c.args.log.now c.args.self.now page header may)) c.in_err-old.was)

pub returns-clause-commits : goal.returns-clause-commits
returns-clause-commits g c page header may =
    let has = may_header c.args.log.now c.args.self.now page header may in
    let headed : IsReheaded c.args.self.now c.set_header.new.self c.next_header-new.result = record { pages = c.set_header.ensures.reheads header has; rest = c.set_header.ensures.rest } in
    let re = reheaded_same c.args.self.now c.set_header.new.self c.join_pages.new.self c.next_header-new.result headed c.join_pages.ensures.pages c.join_pages.ensures.rest in
    let is : c.in_ok-old.old ≡ header = same_header _ _ (sym c.in_ok-old.was ∙ c.header.ensures.only header may.whole has) in
    let next = subst (λ (h : Header). IsNextHeader h c.next_header-new.result (makes_objects c.args.self.now) (pages_of c.args.self.now)) is (c.next_header-new.ensures.next (has_pages c.args.self.now may.whole)) in
    all_committed c.args.log.now c.commit.new.self c.args.self.now c.join_pages.new.self page header c.next_header-new.result may re c.args.may_restart c.begins_anew-restarts.result c.begins_anew-restarts.ensures.is
    (λ begins. c.begins_anew-restarts.ensures.alone begins may.tells) c.as_slice.result.now c.as_slice.ensures
    (c.in_default.ensures.done may.tells.log) c.in_default.ensures.known c.commit.ensures.same next

pub returns-clause-known : goal.returns-clause-known
returns-clause-known g c page header may =
    let has = may_header c.args.log.now c.args.self.now page header may in
    let headed : IsReheaded c.args.self.now c.set_header.new.self c.next_header-new.result = record { pages = c.set_header.ensures.reheads header has; rest = c.set_header.ensures.rest } in
    let re = reheaded_same c.args.self.now c.set_header.new.self c.join_pages.new.self c.next_header-new.result headed c.join_pages.ensures.pages c.join_pages.ensures.rest in
    known_after c.args.log.now c.commit.new.self c.args.self.now c.join_pages.new.self page header c.next_header-new.result may re c.args.may_restart c.begins_anew-restarts.result c.begins_anew-restarts.ensures.is
    (λ begins. c.begins_anew-restarts.ensures.alone begins may.tells) c.as_slice.result.now c.as_slice.ensures c.in_default.ensures.known

pub returns-in-Err-clause-refused : goal.returns-in-Err-clause-refused
returns-in-Err-clause-refused g c page header may =
    let has = may_header c.args.log.now c.args.self.now page header may in
    let headed : IsReheaded c.args.self.now c.set_header.new.self c.next_header-new.result = record { pages = c.set_header.ensures.reheads header has; rest = c.set_header.ensures.rest } in
    let re = reheaded_same c.args.self.now c.set_header.new.self c.join_pages.new.self c.next_header-new.result headed c.join_pages.ensures.pages c.join_pages.ensures.rest in
    let is : c.in_ok-old.old ≡ header = same_header _ _ (sym c.in_ok-old.was ∙ c.header.ensures.only header may.whole has) in
    let there = next_header_there c.args.log.now c.commit.new.self c.args.self.now c.join_pages.new.self page header c.next_header-new.result may re in
    let again : IsReheaded c.join_pages.new.self c.set_header-in-Err.new.self header = record {
      pages = subst (Reheads (changes_of c.join_pages.new.self) (changes_of c.set_header-in-Err.new.self)) is (c.set_header-in-Err.ensures.reheads c.next_header-new.result there);
      rest = c.set_header-in-Err.ensures.rest;
    } in
    let first : IsReset c.args.self.now c.set_header.new.self = record { first = c.set_header.ensures.first; bytes = c.set_header.ensures.bytes; saved = c.set_header.ensures.log.0; marks = c.set_header.ensures.log.1 } in
    let one = reset_same c.args.self.now c.set_header.new.self c.join_pages.new.self first c.join_pages.ensures.pages c.join_pages.ensures.log in
    let two : IsReset c.join_pages.new.self c.set_header-in-Err.new.self = record { first = c.set_header-in-Err.ensures.first; bytes = c.set_header-in-Err.ensures.bytes; saved = c.set_header-in-Err.ensures.log.0; marks = c.set_header-in-Err.ensures.log.1 } in
    refused_commit c.args.log.now c.commit.new.self c.args.self.now c.join_pages.new.self page header c.next_header-new.result may re c.args.may_restart c.begins_anew-restarts.result c.begins_anew-restarts.ensures.is c.set_header-in-Err.new.self c.as_slice.result.now c.in-Err.fault _ _ again one two c.as_slice.ensures
    c.in-Err.ensures.refused c.in-Err.ensures.known c.commit.ensures.same

pub returns-in_err-old-clause-crash : goal.returns-in_err-old-clause-crash
returns-in_err-old-clause-crash g c page header may =
    absurd (not_refused c.header.result header _ (c.header.ensures.only header may.whole (may_header c.args.log.now c.args.self.now page header may)) c.in_err-old.was)

pub returns-clause-crash : goal.returns-clause-crash
returns-clause-crash g c page header may =
    let has = may_header c.args.log.now c.args.self.now page header may in
    let headed : IsReheaded c.args.self.now c.set_header.new.self c.next_header-new.result = record { pages = c.set_header.ensures.reheads header has; rest = c.set_header.ensures.rest } in
    let re = reheaded_same c.args.self.now c.set_header.new.self c.join_pages.new.self c.next_header-new.result headed c.join_pages.ensures.pages c.join_pages.ensures.rest in
    let is : c.in_ok-old.old ≡ header = same_header _ _ (sym c.in_ok-old.was ∙ c.header.ensures.only header may.whole has) in
    let next = subst (λ (h : Header). IsNextHeader h c.next_header-new.result (makes_objects c.args.self.now) (pages_of c.args.self.now)) is (c.next_header-new.ensures.next (has_pages c.args.self.now may.whole)) in
    inr (committed_left c.args.log.now c.commit.new.self c.args.self.now c.join_pages.new.self page header c.next_header-new.result may re c.args.may_restart c.begins_anew-restarts.result c.begins_anew-restarts.ensures.is
    (λ begins. c.begins_anew-restarts.ensures.alone begins may.tells) c.as_slice.result.now c.as_slice.ensures (c.in_default.ensures.done may.tells.log)
    (c.commit.ensures.crash may.tells.whole may.tells.log) next)

pub returns-in-Err-clause-crash : goal.returns-in-Err-clause-crash
returns-in-Err-clause-crash g c page header may =
    let has = may_header c.args.log.now c.args.self.now page header may in
    let headed : IsReheaded c.args.self.now c.set_header.new.self c.next_header-new.result = record { pages = c.set_header.ensures.reheads header has; rest = c.set_header.ensures.rest } in
    let re = reheaded_same c.args.self.now c.set_header.new.self c.join_pages.new.self c.next_header-new.result headed c.join_pages.ensures.pages c.join_pages.ensures.rest in
    let is : c.in_ok-old.old ≡ header = same_header _ _ (sym c.in_ok-old.was ∙ c.header.ensures.only header may.whole has) in
    let next = subst (λ (h : Header). IsNextHeader h c.next_header-new.result (makes_objects c.args.self.now) (pages_of c.args.self.now)) is (c.next_header-new.ensures.next (has_pages c.args.self.now may.whole)) in
    refused_leaves c.args.log.now c.commit.new.self c.args.self.now c.join_pages.new.self page header c.next_header-new.result may re (base_of (state_of c.args.log.now) c.begins_anew-restarts.result) c.as_slice.result.now c.in-Err.fault _ _ c.as_slice.ensures
    c.in-Err.ensures.refused
    (λ few. all_left c.args.log.now c.commit.new.self c.args.self.now c.join_pages.new.self page header c.next_header-new.result may re c.args.may_restart c.begins_anew-restarts.result c.begins_anew-restarts.ensures.is
    (λ begins. c.begins_anew-restarts.ensures.alone begins may.tells) c.as_slice.result.now c.as_slice.ensures (c.commit.ensures.crash may.tells.whole may.tells.log) few next)

pub returns-then-is_err-clause-refused : goal.returns-then-is_err-clause-refused
returns-then-is_err-clause-refused g c page header may =
    let has = may_header c.args.log.now c.args.self.now page header may in
    let headed : IsReheaded c.args.self.now c.set_header.new.self c.next_header-new.result = record { pages = c.set_header.ensures.reheads header has; rest = c.set_header.ensures.rest } in
    let re = reheaded_same c.args.self.now c.set_header.new.self c.join_pages.new.self c.next_header-new.result headed c.join_pages.ensures.pages c.join_pages.ensures.rest in
    let is : c.in_ok-old.old ≡ header = same_header _ _ (sym c.in_ok-old.was ∙ c.header.ensures.only header may.whole has) in
    let there = next_header_there c.args.log.now c.args.log.now c.args.self.now c.join_pages.new.self page header c.next_header-new.result may re in
    let again : IsReheaded c.join_pages.new.self c.set_header-then-is_err.new.self header = record {
      pages = subst (Reheads (changes_of c.join_pages.new.self) (changes_of c.set_header-then-is_err.new.self)) is (c.set_header-then-is_err.ensures.reheads c.next_header-new.result there);
      rest = c.set_header-then-is_err.ensures.rest;
    } in
    let first : IsReset c.args.self.now c.set_header.new.self = record { first = c.set_header.ensures.first; bytes = c.set_header.ensures.bytes; saved = c.set_header.ensures.log.0; marks = c.set_header.ensures.log.1 } in
    let one = reset_same c.args.self.now c.set_header.new.self c.join_pages.new.self first c.join_pages.ensures.pages c.join_pages.ensures.log in
    let two : IsReset c.join_pages.new.self c.set_header-then-is_err.new.self = record { first = c.set_header-then-is_err.ensures.first; bytes = c.set_header-then-is_err.ensures.bytes; saved = c.set_header-then-is_err.ensures.log.0; marks = c.set_header-then-is_err.ensures.log.1 } in
    refused_commit c.args.log.now c.args.log.now c.args.self.now c.join_pages.new.self page header c.next_header-new.result may re c.args.may_restart (begins_anew (state_of c.args.log.now) c.args.may_restart) refl c.set_header-then-is_err.new.self (changes_of c.join_pages.new.self) Memory 0 0 again one two refl
    refl refl (record { db = refl; tells_same = refl; counts = omega arith })

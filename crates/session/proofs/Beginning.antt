-- BEGIN IMMEDIATE is a step of the machine.
use Rattle.std.proofs.Common.{◌≡◌, ◌⊎◌, inl, inr, refl, sym, ap, subst, ◌∙◌, ℕ, ◌-◌, List, [], ◌∷◌, true, false, arith}
use Rattle.std.proofs.lemmas.Bool.{false≢true}
use Rattle.std.specs.Prelude.{◌↔◌, ⊤, IsErrAnd, Result, Ok, Err, slice_set}
use Rattle.std.specs.List.{list_any}
use Rattle.disk.specs.declared.device.Disk.{Ghosts}
use Rattle.sqlval.specs.Refusals as refusal
use Rattle.sqlval.specs.Refusals.{refusal_of}
use Rattle.sqlval.specs.declared.fault.Fault.{Fault}
use Rattle.sqlval.specs.declared.fault.Fault.TheVariants as fault
use Rattle.sql_syntax.specs.declared.statement.BeginMode.TheVariants as begins
use Rattle.sql_syntax.specs.declared.statement.Statement.TheVariants as statement
use Rattle.wal.specs.LogState.{LogState, size_of}
use Rattle.wal.specs.Sizes.{IsSizeWithinLimits}
use Rattle.wal.specs.declared.log.Snapshot.{Snapshot}
use Rattle.catalog.specs.Database.{Database}
use Rattle.session.specs.SavedTables.{HasNoSavepoints, IsUnchanged, Savepoints, committed_in, current_in}
use Rattle.session.specs.declared.savepoints.SavedCatalogs.{SavedCatalogs}
use Rattle.pager.specs.Marks.{Changes}
use Rattle.pager.specs.Views.{ViewHas, IsViewPage, View, newest_view, view_at, view_of}
use Rattle.pager.specs.Writers.{IsBegun, seen, snapshot_of}
use Rattle.pager.specs.declared.writer.Writer.{Writer}
use Rattle.session.specs.Endings.{as_answered, once_answered}
use Rattle.session.specs.TooLong.{StepOrTooLong}
use Rattle.session.specs.ConnectionState.{files_of}
use Rattle.session.specs.Machine.{Machine, Connection, Idle, Rows, Refused, Writes, another, is_writing, last_place, newest, with_connection}
use Rattle.session.specs.Outcomes.{Gives, RefusedBy, begun, outcome}
use Rattle.db_pages.specs.Stored.{Stores}
use Rattle.session.specs.Stored.{ShowsDatabase}
use Rattle.pages.specs.Map.{PageMap}
use Rattle.pager.specs.Maps.{pages_in}
use Rattle.pager.proofs.Mapping.{maps_alike}
use Rattle.pager.proofs.Sounding.{begun_is_sound}
use Rattle.session.specs.Representation.{RepresentsRunning, IsTransaction, MayWrite, OnlyReads, ShowTheSame, StepsOn, beside_in, done_reply, has_no_snapshot, is_idle, newest_tables}
use Rattle.session.specs.Seats.{holds_writer}
use Rattle.session.specs.Writers.{IsNewest, IsWriter}
use Rattle.session.specs.declared.transactions.Connections.{Connections}
use Rattle.session.specs.declared.seats.Transaction.{Transaction}
use Rattle.session.specs.declared.seats.Transaction.TheVariants as transaction
use Rattle.session.proofs.SeenPages.{at_newest}
use Rattle.session.proofs.Parking.{busy_so}
use Rattle.session.proofs.Settled.{as_shown, crash_keeps, not_longer}
use Rattle.session.proofs.Showing.{begins_in, idle_first, moved, still_shown}
use Rattle.session.proofs.Stepping.{begin_outcome, begun_as, busy_begin, by_outcome, free_begin, instead}
use Rattle.catalog.specs.Listed.{Listed}

-- views of the same pages hold the same
pub same_stores : (v w : View) (tables : Listed) (db : Database) → w.page_size ≡ v.page_size → w.size ≡ v.size → ((number : ℕ) (bytes : List ℕ) → ViewHas w number bytes ↔ ViewHas v number bytes) → ShowsDatabase v tables db → ShowsDatabase w tables db
same_stores v w tables db sized long same held = record {
  stored = subst (λ (map : PageMap). Stores map w.page_size tables db) (sym (maps_alike w v long same))
      (subst (λ (n : ℕ). Stores (pages_in v) n tables db) (sym sized) held.stored);
  served = subst (λ n. IsSizeWithinLimits n w.size) (sym sized) (subst (IsSizeWithinLimits v.page_size) (sym long) held.served);
}

pub no_snapshot_idle : (t : Transaction) → is_idle t ≡ true → has_no_snapshot t ≡ true
no_snapshot_idle transaction.Idle is = refl
no_snapshot_idle transaction.Begun is = refl
no_snapshot_idle (transaction.Reading s) is = absurd (false≢true is)
no_snapshot_idle (transaction.Writing w) is = absurd (false≢true is)

module _ {D : Type 0} {g : Ghosts D} where
  -- what the newest commit left has a first page
  pub first_there : (c : Connections D g) (m : Machine) (shown : RepresentsRunning c m) (s : Snapshot) → IsNewest (files_of c) s → IsViewPage (view_at (files_of c) s) 1 shown.settled.found.page
  first_there c m shown s newest = subst (λ (v : View). IsViewPage v 1 shown.settled.found.page) (sym (at_newest (files_of c) s newest)) shown.settled.found.first

  -- what changes where a transaction that writes begins
  pub record StartsWriting (old new : Connections D g) (w : Writer) (s : Snapshot) : Type 0 where
    pub files : ShowTheSame (files_of old) (files_of new)
    pub beside : beside_in new ≡ beside_in old
    pub catalog : new.catalog ≡ old.catalog
    pub now : new.transaction ≡ transaction.Writing w
    pub stands : snapshot_of w ≡ s
    pub newest : IsNewest (files_of old) s
    pub begun : IsBegun (view_at (files_of old) s) w

  pub none_where_idle : (c : Connections D g) (m : Machine) (t : Transaction) (k : Connection) → IsTransaction (files_of c) c.catalog m.history t k → is_idle t ≡ true → IsUnchanged c.catalog × HasNoSavepoints c.catalog
  none_where_idle c m transaction.Idle k is idle = (is.1, is.2)
  none_where_idle c m transaction.Begun k is idle = absurd (false≢true idle)
  none_where_idle c m (transaction.Reading s) k is idle = absurd (false≢true idle)
  none_where_idle c m (transaction.Writing w) k is idle = absurd (false≢true idle)

  -- where no other connection writes
  pub free_of : (c : Connections D g) (m : Machine) (shown : RepresentsRunning c m) → list_any holds_writer c.parked.items ≡ false → another is_writing m c.connection ≡ false
  free_of c m shown free = sym (busy_so (files_of c) m.history c.parked.items (slice_set m.connections (c.connection - 1) Idle) shown.parked) ∙ free

  pub immediate_outcome : (c : Connections D g) (m : Machine) (shown : RepresentsRunning c m) → is_idle c.transaction ≡ true → outcome m c.connection (statement.Begin begins.Immediate) ≡ begun begins.Immediate m c.connection
  immediate_outcome c m shown idle = begin_outcome begins.Immediate m c.connection Idle (shown.is ∙ idle_first (files_of c) c.catalog m c.transaction shown.present shown.transaction idle)

  pub free_outcome : (c : Connections D g) (m : Machine) (shown : RepresentsRunning c m) → is_idle c.transaction ≡ true → MayWrite c → outcome m c.connection (statement.Begin begins.Immediate) ≡ Gives [] (with_connection m c.connection (begun_as begins.Immediate m))
  free_outcome c m shown idle may = immediate_outcome c m shown idle ∙ free_begin begins.Immediate m c.connection (free_of c m shown may.free)

  -- BEGIN IMMEDIATE where another connection writes
  pub begin_busy : (c : Connections D g) → is_idle c.transaction ≡ true → list_any holds_writer c.parked.items ≡ true → StepsOn c (statement.Begin begins.Immediate) (Refused refusal.Busy) c
  begin_busy c idle busy m shown = record {
    next = m;
    step = by_outcome m c.connection (statement.Begin begins.Immediate) shown.running shown.numbered (RefusedBy (refusal.Busy ∷ [])) (Refused refusal.Busy) m
        (immediate_outcome c m shown idle ∙ busy_begin m c.connection (sym (busy_so (files_of c) m.history c.parked.items (slice_set m.connections (c.connection - 1) Idle) shown.parked) ∙ busy))
        (refusal.Busy, (0, omega arith, refl), refl, refl);
    shown = inr shown;
    crash = as_shown c m (inr shown);
    renewed = λ more. not_longer m.history more;
  }

  -- the newest tables are those that a transaction without a snapshot sees
  pub newest_listed : (c : Connections D g) (m : Machine) (shown : RepresentsRunning c m) → committed_in c.catalog ≡ newest_tables c → ShowsDatabase (newest_view (files_of c)) (committed_in c.catalog) (newest m)
  newest_listed c m shown same = subst (λ (ts : Listed). ShowsDatabase (newest_view (files_of c)) ts (newest m)) (sym same) shown.stored

  -- the writer that begins may commit over the newest commit
  pub writer_begins : (old new : Connections D g) (w : Writer) (s : Snapshot) → StartsWriting old new w s → IsSizeWithinLimits (newest_view (files_of old)).page_size (newest_view (files_of old)).size → IsWriter (files_of new) w
  writer_begins old new w s start served = record {
    newest = record {
      seen = ap (λ (x : Snapshot). x.mark) start.stands ∙ start.newest.seen ∙ ap (λ (k : LogState). k.frames) (sym start.files.known);
      sized = ap (λ (x : Snapshot). x.size) start.stands ∙ start.newest.sized ∙ ap (λ (k : LogState). k.size) (sym start.files.known);
    };
    sound = begun_is_sound (view_at (files_of old) s) w start.begun (ap size_of (sym start.stands))
        (subst (λ (v : View). IsSizeWithinLimits v.page_size v.size) (sym (at_newest (files_of old) s start.newest)) served);
    page_size = start.begun.page_size ∙ ap (λ (k : LogState). k.page_size) (sym start.files.known);
  }

  pub writer_stores : (old new : Connections D g) (w : Writer) (s : Snapshot) (tables : Listed) (db : Database) → StartsWriting old new w s → ShowsDatabase (newest_view (files_of old)) tables db → ShowsDatabase (view_of (files_of new) w) tables db
  writer_stores old new w s tables db start held =
      subst (λ (v : View). ShowsDatabase (seen v w) tables db) (sym (ap (view_at (files_of new)) start.stands ∙ start.files.at s))
      (same_stores (view_at (files_of old) s) (seen (view_at (files_of old) s) w) tables db refl start.begun.size start.begun.sees
      (subst (λ (v : View). ShowsDatabase v tables db) (sym (at_newest (files_of old) s start.newest)) held))

  pub begun_immediate : (old new : Connections D g) (w : Writer) (s : Snapshot) → is_idle old.transaction ≡ true → MayWrite old → ((m : Machine) → RepresentsRunning old m → StartsWriting old new w s) → StepsOn old (statement.Begin begins.Immediate) (Rows []) new
  begun_immediate old new w s idle may all m shown =
      let start = all m shown in
      let next = with_connection m old.connection (begun_as begins.Immediate m) in
      let was = none_where_idle old m old.transaction shown.present shown.transaction idle in
      let base = newest_listed old m shown (may.newest (no_snapshot_idle old.transaction idle)) in
      record {
        next = next;
        step = by_outcome m old.connection (statement.Begin begins.Immediate) shown.running shown.numbered (Gives [] next) (Rows []) next (free_outcome old m shown idle may) (refl, refl);
        shown = inr (moved old new m (begun_as begins.Immediate m) shown start.files start.beside (inr (free_of old m shown may.free))
            (subst (λ (t : Transaction). IsTransaction (files_of new) new.catalog m.history t (begun_as begins.Immediate m)) (sym start.now) (record {
              db = newest m;
              points = [];
              is = begins_in Changes new.catalog (Writes (last_place m) (newest m)) (subst HasNoSavepoints (sym start.catalog) was.1);
              may = writer_begins old new w s start shown.stored.served;
              stored = subst (λ (c : SavedCatalogs). ShowsDatabase (view_of (files_of new) w) (current_in c) (newest m)) (sym start.catalog)
                  (writer_stores old new w s (current_in old.catalog) (newest m) start (subst (λ (ts : Listed). ShowsDatabase (newest_view (files_of old)) ts (newest m)) (sym was.0) base));
              saved = record { tables = ap (λ (p : Savepoints). p.points) (subst HasNoSavepoints (sym start.catalog) was.1); hold = tt };
              marks = start.begun.marks;
              base = subst (λ (v : View). ShowsDatabase v (committed_in new.catalog) (newest m)) (sym start.files.newest)
                  (subst (λ (c : SavedCatalogs). ShowsDatabase (newest_view (files_of old)) (committed_in c) (newest m)) (sym start.catalog) base);
            })));
        crash = crash_keeps old new m next shown start.files;
        renewed = λ more. not_longer m.history more;
      }

  -- where page 1 isn't read, when out of memory or a failed call
  pub begin_fails : (old new : Connections D g) (f : Fault) → is_idle old.transaction ≡ true → OnlyReads old new → ((m : Machine) → RepresentsRunning old m → (f ≡ fault.Memory) ⊎ (f ≡ fault.Io)) → MayWrite old → StepsOn old (statement.Begin begins.Immediate) (Refused (refusal_of f)) new
  begin_fails old new f idle reads why may m shown = record {
    next = m;
    step = by_why (why m shown);
    shown = inr (still_shown old new m shown (reads.files shown.told) reads.beside reads.catalog reads.transaction);
    crash = crash_keeps old new m m shown (reads.files shown.told);
    renewed = λ more. not_longer m.history more;
  }
    where
      outcome_is : outcome m old.connection (statement.Begin begins.Immediate) ≡ Gives [] (with_connection m old.connection (begun_as begins.Immediate m))
      outcome_is = free_outcome old m shown idle may

      by_why : (f ≡ fault.Memory) ⊎ (f ≡ fault.Io) → StepOrTooLong m old.connection (statement.Begin begins.Immediate) (as_answered (Refused (refusal_of f))) (once_answered m new.connection (Refused (refusal_of f)))
      by_why (inl memory) = subst (λ (e : Fault). StepOrTooLong m old.connection (statement.Begin begins.Immediate) (as_answered (Refused (refusal_of e))) (once_answered m new.connection (Refused (refusal_of e)))) (sym memory)
          (instead m old.connection (statement.Begin begins.Immediate) shown.running shown.numbered _ (Refused refusal.Memory) outcome_is (inl refl, refl))
      by_why (inr io) = subst (λ (e : Fault). StepOrTooLong m old.connection (statement.Begin begins.Immediate) (as_answered (Refused (refusal_of e))) (once_answered m new.connection (Refused (refusal_of e)))) (sym io)
          (instead m old.connection (statement.Begin begins.Immediate) shown.running shown.numbered _ (Refused refusal.Io) outcome_is (inr (refl, refl), refl))

pub done_refused : (result : Result ⊤ Fault) (f : Fault) → IsErrAnd result (λ e. e ≡ f) → done_reply result ≡ Refused (refusal_of f)
done_refused (Ok x) f is = absurd is
done_refused (Err e) f is = ap (λ (x : Fault). Refused (refusal_of x)) is

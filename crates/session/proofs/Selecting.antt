-- SELECT is a step of the machine.
use Rattle.std.proofs.Common.{◌≡◌, inl, inr, refl, sym, ap, subst, ◌∙◌, ℕ, List, [], ◌∷◌, true, false, Ok, Err, arith}
use Rattle.std.specs.Prelude.{Contains, IsErrAnd, Result, Vec, map}
use Rattle.disk.specs.declared.device.Disk.{Ghosts}
use Rattle.sqlval.specs.Refusals as refusal
use Rattle.sqlval.specs.Refusals.{Answer, Refusal, refusal_of}
use Rattle.sqlval.specs.declared.fault.Fault.{Fault}
use Rattle.sqlval.specs.declared.value.Value.{Value}
use Rattle.sql_syntax.specs.declared.query.Query.{Query}
use Rattle.sql_syntax.specs.declared.statement.Statement.TheVariants as statement
use Rattle.catalog.specs.Database.{Database}
use Rattle.session.specs.SavedTables.{IsUnchanged, committed_in, current_in}
use Rattle.session.specs.declared.savepoints.SavedCatalogs.{SavedCatalogs}
use Rattle.query_names.specs.Checked.{Checked, Meant, faults}
use Rattle.row_scan.specs.Rows.{values_of}
use Rattle.smallvec.specs.SmallVec.{SmallVec}
use Rattle.std.specs.declared.alloc.Global.{Global}
use Rattle.executor.specs.Reading.{AnswersRead}
use Rattle.pager.specs.Views.{View, newest_view, view_at}
use Rattle.session.specs.TooLong.{StepOrTooLong}
use Rattle.session.specs.Holding.{HoldThroughout}
use Rattle.session.specs.ConnectionState.{files_of}
use Rattle.session.specs.Looking.{database_seen}
use Rattle.session.specs.Machine.{Machine, Idle, NoSnapshot, Reads, Writes, Rows, Refused, committed, connection, last_place, newest, with_connection}
use Rattle.session.specs.Outcomes.{answered, given, left_by, outcome}
use Rattle.executor.specs.Works.{read_on}
use Rattle.session.specs.Steps.{Allowed, Instead}
use Rattle.session.specs.Crashes.{MayShow}
use Rattle.session.specs.Stored.{ShowsDatabase}
use Rattle.session.specs.Saving.{in_transaction}
use Rattle.session.specs.Representation.{Beside, IsReadingIn, IsSnapshotOf, RepresentsRunning, IsTransaction, OnlyReads, SeesNewest, ShowTheSame, StartsReading, StepsOn, StepsTo, has_no_snapshot, is_begun, newest_tables, rows_reply, seen_in}
use Rattle.session.proofs.SeenPages.{at_newest}
use Rattle.session.specs.declared.transactions.Connections.{Connections}
use Rattle.session.specs.declared.seats.Transaction.{Transaction}
use Rattle.session.specs.declared.seats.Transaction.TheVariants as transaction
use Rattle.session.proofs.Settled.{crash_keeps, not_longer}
use Rattle.session.proofs.Showing.{moved, still_newest, still_shown, the_same}
use Rattle.session.proofs.Stepping.{by_outcome, instead, select_outcome}
use Rattle.catalog.specs.Listed.{Listed}

-- ---- what a query comes to

abbrev pub Rowed : Type 0
Rowed = Result (Vec (SmallVec Value) Global) Fault

abbrev Reading : Type 0
Reading = Checked (Answer (List (List Value)))

pub given_rows : (m next : Machine) (n : ℕ) (rows : List (List Value)) (k : Reading) → k ≡ Meant (Ok rows) [] → Allowed m n (given next k) (Rows rows) next
given_rows m next n rows k is = subst (λ (x : Reading). Allowed m n (given next x) (Rows rows) next) (sym is) (refl, refl)

pub given_refusal : (m next : Machine) (n : ℕ) (r : Refusal) (k : Reading) → k ≡ Meant (Err r) [] → Allowed m n (given next k) (Refused (answered r)) (left_by m n r)
given_refusal m next n r k is = subst (λ (x : Reading). Allowed m n (given next x) (Refused (answered r)) (left_by m n r)) (sym is) (r, (0, omega arith, refl), refl, refl)

pub given_fault : (m next : Machine) (n : ℕ) (r : Refusal) (k : Reading) → Contains (faults k) r → Allowed m n (given next k) (Refused (answered r)) (left_by m n r)
given_fault m next n r (Meant a []) has = absurd (omega (arith, has.1))
given_fault m next n r (Meant a (s ∷ rs)) has = (r, has, refl, refl)

pub given_memory : (m next : Machine) (k : Reading) → Instead m (given next k) (Refused refusal.Memory) m
given_memory m next (Meant a (r ∷ rs)) = (inl refl, refl)
given_memory m next (Meant (Err r) []) = (inl refl, refl)
given_memory m next (Meant (Ok rows) []) = (inl refl, refl)

pub given_io : (m next : Machine) (k : Reading) → Instead m (given next k) (Refused refusal.Io) m
given_io m next (Meant a (r ∷ rs)) = (inr (refl, refl), refl)
given_io m next (Meant (Err r) []) = (inr (refl, refl), refl)
given_io m next (Meant (Ok rows) []) = (inr (refl, refl), refl)

-- what a call answered of a query
abbrev pub Answered : Reading → Rowed → Type 0
Answered = AnswersRead (λ rows. map values_of rows.items)

module _ {D : Type 0} {g : Ghosts D} where
  -- the database that the present connection reads, and where a query leaves the machine
  pub record Sees (c : Connections D g) (m : Machine) : Type 0 where
    pub db : Database
    pub db_is : db ≡ database_seen m (connection m c.connection)
    pub stored : ShowsDatabase (seen_in c.transaction (files_of c)) (current_in c.catalog) db
    pub next : Machine
    pub is : (q : Query) → outcome m c.connection (statement.Select q) ≡ given next (read_on db q)

  -- the tables of a transaction that has no snapshot yet are the newest
  newest_current : (c : Connections D g) (m : Machine) → RepresentsRunning c m → committed_in c.catalog ≡ newest_tables c → IsUnchanged c.catalog → ShowsDatabase (newest_view (files_of c)) (current_in c.catalog) (newest m)
  newest_current c m shown same all = subst (λ (ts : Listed). ShowsDatabase (newest_view (files_of c)) ts (newest m)) (sym (all ∙ same)) shown.stored

  pub sees_by : (c : Connections D g) (m : Machine) (shown : RepresentsRunning c m) (t : Transaction) → c.transaction ≡ t → (has_no_snapshot t ≡ true → committed_in c.catalog ≡ newest_tables c)
      → IsTransaction (files_of c) c.catalog m.history t shown.present → Sees c m
  sees_by c m shown transaction.Idle is base first = record {
    db = newest m;
    db_is = sym (ap (database_seen m) (shown.is ∙ first.0));
    stored = subst (λ (t : Transaction). ShowsDatabase (seen_in t (files_of c)) (current_in c.catalog) (newest m)) (sym is) (newest_current c m shown (base refl) first.1);
    next = m;
    is = λ q. select_outcome q m c.connection Idle (shown.is ∙ first.0);
  }
  sees_by c m shown transaction.Begun is base first = record {
    db = newest m;
    db_is = sym (ap (database_seen m) (shown.is ∙ first.is));
    stored = subst (λ (t : Transaction). ShowsDatabase (seen_in t (files_of c)) (current_in c.catalog) (newest m)) (sym is) (newest_current c m shown (base refl) first.all);
    next = with_connection m c.connection (in_transaction c.catalog first.points (Reads (last_place m)));
    is = λ q. select_outcome q m c.connection (in_transaction c.catalog first.points NoSnapshot) (shown.is ∙ first.is);
  }
  sees_by c m shown (transaction.Reading s) is base first = record {
    db = committed m first.0;
    db_is = sym (ap (database_seen m) (shown.is ∙ first.1.is));
    stored = subst (λ (t : Transaction). ShowsDatabase (seen_in t (files_of c)) (current_in c.catalog) (committed m first.0)) (sym is)
        (subst (λ (ts : Listed). ShowsDatabase (view_at (files_of c) s) ts (committed m first.0)) (sym first.1.all) first.2.shows);
    next = m;
    is = λ q. select_outcome q m c.connection (in_transaction c.catalog first.1.points (Reads first.0)) (shown.is ∙ first.1.is);
  }
  sees_by c m shown (transaction.Writing w) is base first = record {
    db = first.db;
    db_is = sym (ap (database_seen m) (shown.is ∙ first.is));
    stored = subst (λ (t : Transaction). ShowsDatabase (seen_in t (files_of c)) (current_in c.catalog) first.db) (sym is) first.stored;
    next = m;
    is = λ q. select_outcome q m c.connection (in_transaction c.catalog first.points (Writes (last_place m) first.db)) (shown.is ∙ first.is);
  }

  pub sees : (c : Connections D g) (m : Machine) → RepresentsRunning c m → SeesNewest c → Sees c m
  sees c m shown base = sees_by c m shown c.transaction refl base shown.transaction

  -- ---- a call that answered

  -- a query's refusal, as it is answered, and what it leaves
  abbrev Refuses : Connections D g → Machine → Query → Refusal → Type 0
  Refuses c m q r = StepOrTooLong m c.connection (statement.Select q) (Refused (answered r)) (left_by m c.connection r)

  select_step : (c : Connections D g) (m : Machine) (shown : RepresentsRunning c m) (q : Query) (f : Fault) → (s : Sees c m) → Answered (read_on s.db q) (Err f) → Refuses c m q (refusal_of f)
  select_step c m shown q f s (inl (inl memory)) = subst (λ (e : Fault). Refuses c m q (refusal_of e)) (sym memory)
      (instead m c.connection (statement.Select q) shown.running shown.numbered _ (Refused refusal.Memory) (s.is q) (given_memory m s.next (read_on s.db q)))
  select_step c m shown q f s (inl (inr io)) = subst (λ (e : Fault). Refuses c m q (refusal_of e)) (sym io)
      (instead m c.connection (statement.Select q) shown.running shown.numbered _ (Refused refusal.Io) (s.is q) (given_io m s.next (read_on s.db q)))
  select_step c m shown q f s (inr (inl has)) =
      by_outcome m c.connection (statement.Select q) shown.running shown.numbered _ (Refused (answered (refusal_of f))) (left_by m c.connection (refusal_of f)) (s.is q) (given_fault m s.next c.connection (refusal_of f) (read_on s.db q) has)
  select_step c m shown q f s (inr (inr refused)) =
      by_outcome m c.connection (statement.Select q) shown.running shown.numbered _ (Refused (answered (refusal_of f))) (left_by m c.connection (refusal_of f)) (s.is q) (given_refusal m s.next c.connection (refusal_of f) (read_on s.db q) refused)

  -- a refused SELECT
  pub select_refused : (old new : Connections D g) (q : Query) (f : Fault) → SeesNewest old → OnlyReads old new
      → ((m : Machine) (db : Database) → RepresentsRunning old m → ShowsDatabase (seen_in old.transaction (files_of old)) (current_in old.catalog) db → Answered (read_on db q) (Err f)) → StepsOn old (statement.Select q) (Refused (refusal_of f)) new
  select_refused old new q f base reads answers m shown =
      let s = sees old m shown base in
      record {
        next = m;
        step = subst (λ (b : Beside). StepOrTooLong m old.connection (statement.Select q) (Refused (answered (refusal_of f))) (left_by m b.connection (refusal_of f))) (sym reads.beside)
            (select_step old m shown q f s (answers m s.db shown s.stored));
        shown = inr (still_shown old new m shown (reads.files shown.told) reads.beside reads.catalog reads.transaction);
        crash = crash_keeps old new m m shown (reads.files shown.told);
        renewed = λ more. not_longer m.history more;
      }

  -- a SELECT that gives rows
  pub select_gives : (old mid new : Connections D g) (q : Query) (rows : List (List Value)) → SeesNewest old → OnlyReads old mid → StartsReading mid new
      → ((m : Machine) (db : Database) → RepresentsRunning old m → ShowsDatabase (seen_in old.transaction (files_of old)) (current_in old.catalog) db → read_on db q ≡ Meant (Ok rows) []) → StepsOn old (statement.Select q) (Rows rows) new
  unfolding sees_by
  select_gives old mid new q rows base reads starts answered m shown = by_case old.transaction refl base shown.transaction
    where
      mid_shown : RepresentsRunning mid m
      mid_shown = still_shown old mid m shown (reads.files shown.told) reads.beside reads.catalog reads.transaction

      same_files : ShowTheSame (files_of mid) (files_of new)
      same_files = subst (ShowTheSame (files_of mid)) (sym starts.files) (the_same (files_of mid) mid_shown.told)

      crash_of : (next : Machine) → HoldThroughout (MayShow m next) (files_of old) (files_of new)
      crash_of next = crash_keeps old new m next shown (subst (ShowTheSame (files_of old)) (sym starts.files) (reads.files shown.told))

      step_of : (s : Sees old m) → StepOrTooLong m old.connection (statement.Select q) (Rows rows) s.next
      step_of s = by_outcome m old.connection (statement.Select q) shown.running shown.numbered _ (Rows rows) s.next (s.is q) (given_rows m s.next old.connection rows (read_on s.db q) (answered m s.db shown s.stored))

      other_shown : (t : Transaction) → old.transaction ≡ t → is_begun t ≡ false → RepresentsRunning new m
      other_shown t is begun = still_shown mid new m mid_shown same_files starts.beside starts.catalog (starts.other (ap is_begun (reads.transaction ∙ is) ∙ begun))

      begun_shown : old.transaction ≡ transaction.Begun → committed_in old.catalog ≡ newest_tables old → (first : IsReadingIn old.catalog NoSnapshot shown.present) → RepresentsRunning new (with_connection m old.connection (in_transaction old.catalog first.points (Reads (last_place m))))
      begun_shown is same first =
          let begun = starts.begun (ap is_begun (reads.transaction ∙ is)) in
          let k = in_transaction old.catalog first.points (Reads (last_place m)) in
          let reading : IsReadingIn old.catalog (Reads (last_place m)) k = record { points = first.points; is = refl; all = first.all; saved = first.saved } in
          let whole = subst (ShowTheSame (files_of old)) (sym starts.files) (reads.files shown.told) in
          let mine = subst (λ (c : SavedCatalogs). IsReadingIn c (Reads (last_place m)) k) (sym (starts.catalog ∙ reads.catalog)) reading in
          let newest_s = still_newest (files_of mid) (files_of new) begun.0 same_files begun.2 in
          let stored : ShowsDatabase (newest_view (files_of new)) (committed_in new.catalog) (newest m) =
          subst (λ (v : View). ShowsDatabase v (committed_in new.catalog) (newest m)) (sym whole.newest)
          (subst (λ (ts : Listed). ShowsDatabase (newest_view (files_of old)) ts (newest m)) (sym (ap committed_in (starts.catalog ∙ reads.catalog) ∙ same)) shown.stored) in
          let seen : IsSnapshotOf (files_of new) (committed_in new.catalog) m.history (last_place m) begun.0 = record {
            shows = subst (λ (v : View). ShowsDatabase v (committed_in new.catalog) (newest m)) (sym (at_newest (files_of new) begun.0 newest_s)) stored;
            age = inl (refl, newest_s);
          } in
          moved old new m k shown whole (starts.beside ∙ reads.beside) (inl refl)
          (subst (λ (t : Transaction). IsTransaction (files_of new) new.catalog m.history t k) (sym begun.1) (last_place m, mine, seen))

      by_case : (t : Transaction) → old.transaction ≡ t → (has_no_snapshot t ≡ true → committed_in old.catalog ≡ newest_tables old) → IsTransaction (files_of old) old.catalog m.history t shown.present → StepsTo old m (statement.Select q) (Rows rows) new
      by_case transaction.Idle is b first = (let s = sees_by old m shown transaction.Idle is b first in record { next = s.next; step = step_of s; shown = inr (other_shown transaction.Idle is refl); crash = crash_of s.next; renewed = λ more. not_longer m.history more })
      by_case transaction.Begun is b first = (let s = sees_by old m shown transaction.Begun is b first in record { next = s.next; step = step_of s; shown = inr (begun_shown is (b refl) first); crash = crash_of s.next; renewed = λ more. not_longer m.history more })
      by_case (transaction.Reading t) is b first = (let s = sees_by old m shown (transaction.Reading t) is b first in record { next = s.next; step = step_of s; shown = inr (other_shown (transaction.Reading t) is refl); crash = crash_of s.next; renewed = λ more. not_longer m.history more })
      by_case (transaction.Writing w) is b first = (let s = sees_by old m shown (transaction.Writing w) is b first in record { next = s.next; step = step_of s; shown = inr (other_shown (transaction.Writing w) is refl); crash = crash_of s.next; renewed = λ more. not_longer m.history more })

pub refused_reply : (result : Rowed) (f : Fault) → IsErrAnd result (λ e. e ≡ f) → rows_reply result ≡ Refused (refusal_of f)
refused_reply (Ok rows) f is = absurd is
refused_reply (Err e) f is = ap (λ (x : Fault). Refused (refusal_of x)) is

-- Another connection becomes the present one, or sees the newest tables: the same machine is shown.
use Rattle.std.proofs.Common.{◌≡◌, ◌≤◌, ◌<◌, refl, sym, ap, subst, ◌∙◌, ℕ, ◌-◌, ◌==◌, Bool, List, [], ◌∷◌, length, true, false, arith}
use Rattle.std.proofs.lemmas.Bool.{false≢true}
use Rattle.std.proofs.lemmas.Bool.Decides.{nat_tests}
use Rattle.std.specs.List.{AllByRecursion}
use Rattle.std.specs.Prelude.{⊤, Ok, Option, Some, map, reverse, option_map, slice_get, slice_set, unwrap_or}
use Rattle.disk.specs.declared.device.Disk.{Ghosts}
use Rattle.sql_syntax.specs.declared.statement.Statement.{Statement}
use Rattle.wal.specs.declared.log.Log.{Log}
use Rattle.catalog.specs.Database.{Database}
use Rattle.pager.specs.Views.{Tells, newest_view}
use Rattle.session.specs.ConnectionState.{files_of, has_failed_in}
use Rattle.session.specs.CopiedBack.{CopiesBack}
use Rattle.session.specs.Crashes.{MayShow}
use Rattle.session.specs.Holding.{HoldThroughout, IsSettled}
use Rattle.session.specs.Machine.{Connection, Idle, InTransactionOf, Machine, NoSnapshot, Reply, connection, newest}
use Rattle.session.specs.Representation.{AreParked, BeginsLog, Beside, CopiesAnswered, IsTransaction, RepresentsRunning, SeesNewest, ShowTheSame, StepsOn, StepsOver, Switches, TakesNewest, TradesWith, beside_in, has_no_snapshot, newest_tables, others_in, seats_in, transaction_of}
use Rattle.session.specs.SavedTables.{Rebases, SavedTables, Savepoints, committed_in, rebased, savepoints_in}
use Rattle.session.specs.Saving.{IsUnwritten, SavedAs, states_of}
use Rattle.session.specs.Steps.{is_connection}
use Rattle.session.specs.Stored.{ShowsDatabase}
use Rattle.session.specs.Endings.{as_answered, once_answered}
use Rattle.session.specs.TooLong.{StepOrTooLong}
use Rattle.session.proofs.EndedSteps.{AnswersTo}
use Rattle.session.specs.declared.savepoints.SavedCatalogs.{SavedCatalogs}
use Rattle.session.specs.declared.seats.Seat.{Seat}
use Rattle.session.specs.declared.seats.Transaction.{Transaction}
use Rattle.session.specs.declared.seats.Transaction.TheVariants as transaction
use Rattle.session.specs.declared.transactions.Connections.{Connections}
use Rattle.session.proofs.Alike.{alike_begins, alike_copies, set_alike, set_other, transactions_of}
use Rattle.session.proofs.Parking.{get_set, parked_count, parked_get, parked_set, set_got, set_length, set_twice}
use Rattle.session.proofs.Showing.{in_range, stays, the_same}
use Rattle.catalog.specs.Listed.{Listed}

-- ---- a savepoint on other tables

abbrev rebased_point : Listed → SavedAs ⊤ → SavedAs ⊤
rebased_point tables p = record { state = p.state; tables = record { name = p.tables.name; tables = tables }; kept = p.kept }

-- a connection has a transaction
abbrev in_one : Connection → Bool
in_one Idle = false
in_one (InTransactionOf began points phase) = true

equal_numbers : (a b : ℕ) → (a == b) ≡ true → a ≡ b
equal_numbers a b is = grind (arith, nat_tests)

other_numbers : (a b : ℕ) → (a == b) ≡ false → a ≡ b → ⊥
other_numbers a b is e = grind (arith, nat_tests)

either_case : {P : Type 0} (a b : ℕ) → (a ≡ b → P) → ((a ≡ b → ⊥) → P) → P
either_case {P = P} a b same other = by_test (a == b) refl
  where
    by_test : (t : Bool) → (a == b) ≡ t → P
    by_test true is = same (equal_numbers a b is)
    by_test false is = other (other_numbers a b is)

in_seat : (x : Option Seat) (s : Seat) → x ≡ Some s → s.transaction ≡ unwrap_or (option_map (λ (r : Seat). r.transaction) x) transaction.Idle
in_seat x s is = sym (ap (λ (y : Option Seat). unwrap_or (option_map (λ (r : Seat). r.transaction) y) transaction.Idle) is)

states_same : (tables : Listed) (points : List (SavedAs ⊤)) → map (λ p. p.state) (map (rebased_point tables) points) ≡ map (λ p. p.state) points
states_same tables [] = refl
states_same tables (p ∷ ps) = ap (λ ss. p.state ∷ ss) (states_same tables ps)

tables_same : (tables : Listed) (points : List (SavedAs ⊤)) → map (λ (p : SavedTables). record { name = p.name; tables = tables }) (map (λ p. p.tables) points) ≡ map (λ p. p.tables) (map (rebased_point tables) points)
tables_same tables [] = refl
tables_same tables (p ∷ ps) = ap (λ (ss : List SavedTables). record { name = p.tables.name; tables = tables } ∷ ss) (tables_same tables ps)

all_unwritten : (old tables new : Listed) (points : List (SavedAs ⊤)) → tables ≡ new → AllByRecursion (IsUnwritten old) points → AllByRecursion (IsUnwritten new) (map (rebased_point tables) points)
all_unwritten old tables new [] same all = tt
all_unwritten old tables new (p ∷ ps) same all = (record { named = all.0.named; working = all.0.working; tables = same }, all_unwritten old tables new ps same all.1)

module _ {D : Type 0} {g : Ghosts D} where
  -- ---- the present connection

  abbrev present_seat : Connections D g → Seat
  present_seat c = record { transaction = c.transaction; catalog = c.catalog }

  module _ (old : Connections D g) (m : Machine) (shown : RepresentsRunning old m) where
    count_is : length old.parked.items ≡ 16
    count_is = parked_count (files_of old) m.history old.parked.items (slice_set m.connections (old.connection - 1) Idle) shown.parked ∙ set_length m.connections (old.connection - 1) Idle ∙ shown.sixteen

    pub seat_there : (n : ℕ) → is_connection n ≡ true → n - 1 < length old.parked.items
    seat_there n is = omega (arith, in_range n m shown.sixteen is, shown.sixteen, count_is)

    -- all seats are those of the machine
    pub all_parked : AreParked (files_of old) m.history (seats_in old) m.connections
    all_parked =
        subst (AreParked (files_of old) m.history (seats_in old))
        (set_twice m.connections (old.connection - 1) Idle (connection m old.connection) ∙ set_got m.connections (old.connection - 1) Idle)
        (parked_set (files_of old) m.history old.parked.items (slice_set m.connections (old.connection - 1) Idle) (old.connection - 1) (present_seat old) (connection m old.connection) shown.parked
        (subst (λ (k : Connection). IsTransaction (files_of old) old.catalog m.history old.transaction k) (sym shown.is) shown.transaction))

  trades_files : (n : ℕ) (old mid new : Connections D g) → TradesWith old.connection old mid → TradesWith n (record mid { connection = n }) new → files_of new ≡ files_of old
  trades_files n old mid new first second = second.files ∙ first.files

  pub other_shown : (n : ℕ) (old mid new : Connections D g) (m : Machine) → is_connection n ≡ true → TradesWith old.connection old mid → TradesWith n (record mid { connection = n }) new → RepresentsRunning old m → RepresentsRunning new m
  other_shown n old mid new m is first second shown = record {
    running = shown.running;
    sure = shown.sure;
    whole = second.failed ∙ first.failed ∙ shown.whole;
    told = subst Tells (sym files) shown.told;
    settled = subst IsSettled (sym files) shown.settled;
    some = shown.some;
    stored = subst (λ (l : Log D g). ShowsDatabase (newest_view l) (newest_tables new) (newest m)) (sym files)
        (subst (λ (ts : Listed). ShowsDatabase (newest_view (files_of old)) ts (newest m)) (sym (second.newest ∙ first.newest)) shown.stored);
    sixteen = shown.sixteen;
    numbered = ap is_connection second.connection_is ∙ is;
    present = connection m n;
    is = ap (connection m) second.connection_is;
    transaction = subst (λ (l : Log D g). IsTransaction l new.catalog m.history new.transaction (connection m n)) (sym files)
        (parked_get (files_of old) m.history mid.parked.items m.connections (n - 1) (present_seat new) all_now (second.trades.got (omega (arith, there n is, mid_count))));
    parked = subst (λ k. AreParked (files_of new) m.history new.parked.items (slice_set m.connections (k - 1) Idle)) (sym second.connection_is)
        (subst (λ (l : Log D g). AreParked l m.history new.parked.items (slice_set m.connections (n - 1) Idle)) (sym files)
        (subst (λ (ss : List Seat). AreParked (files_of old) m.history ss (slice_set m.connections (n - 1) Idle)) (sym (second.trades.set (omega (arith, there n is, mid_count))))
        (parked_set (files_of old) m.history mid.parked.items m.connections (n - 1) (present_seat mid) Idle all_now idle_seat)));
    sole = shown.sole;
  }
    where
      files : files_of new ≡ files_of old
      files = second.files ∙ first.files

      there : (k : ℕ) → is_connection k ≡ true → k - 1 < length old.parked.items
      there k is = seat_there old m shown k is

      set_is : mid.parked.items ≡ seats_in old
      set_is = first.trades.set (there old.connection shown.numbered)

      mid_count : length mid.parked.items ≡ length old.parked.items
      mid_count = ap length set_is ∙ set_length old.parked.items (old.connection - 1) (present_seat old)

      all_now : AreParked (files_of old) m.history mid.parked.items m.connections
      all_now = subst (λ (ss : List Seat). AreParked (files_of old) m.history ss m.connections) (sym set_is) (all_parked old m shown)

      idle_seat : IsTransaction (files_of old) mid.catalog m.history mid.transaction Idle
      idle_seat = subst (λ (k : Connection). IsTransaction (files_of old) mid.catalog m.history mid.transaction k)
          (ap (λ (x : Option Connection). unwrap_or x Idle) (get_set m.connections (old.connection - 1) Idle (in_range old.connection m shown.sixteen shown.numbered)))
          (parked_get (files_of old) m.history old.parked.items (slice_set m.connections (old.connection - 1) Idle) (old.connection - 1) (present_seat mid) shown.parked (first.trades.got (there old.connection shown.numbered)))

  pub switched_shown : (n : ℕ) (old new : Connections D g) (m : Machine) → is_connection n ≡ true → Switches n old new → RepresentsRunning old m → RepresentsRunning new m
  switched_shown n old new m is switch shown = either_case n old.connection
      (λ same. subst (λ (c : Connections D g). RepresentsRunning c m) (sym (switch.same same)) shown)
      (λ other. (let trades = switch.other other in other_shown n old trades.0 new m is trades.1 trades.2 shown))

  -- what it is of the connections that it was
  pub record WasPresent (n : ℕ) (old new : Connections D g) : Type 0 where
    pub files : files_of new ≡ files_of old
    pub failed : has_failed_in new ≡ has_failed_in old
    pub number : new.connection ≡ n
    pub transaction : 1 ≤ n → n ≤ length old.parked.items → 1 ≤ old.connection → old.connection ≤ length old.parked.items → new.transaction ≡ transaction_of old n

  pub was_present : (n : ℕ) (old new : Connections D g) → Switches n old new → WasPresent n old new
  was_present n old new switch = either_case n old.connection
      (λ same. (let is = switch.same same in record {
        files = ap files_of is;
        failed = ap has_failed_in is;
        number = ap (λ (c : Connections D g). c.connection) is ∙ sym same;
        transaction = λ above below from to.
            ap (λ (c : Connections D g). c.transaction) is
            ∙ in_seat (slice_get (seats_in old) (n - 1)) (present_seat old)
            (ap (λ k. slice_get (seats_in old) (k - 1)) same ∙ get_set old.parked.items (old.connection - 1) (present_seat old) (omega (arith, from, to)));
      }))
      (λ other. (let trades = switch.other other in record {
        files = trades.2.files ∙ trades.1.files;
        failed = trades.2.failed ∙ trades.1.failed;
        number = trades.2.connection_is;
        transaction = λ above below from to.
            (let set_is = trades.1.trades.set (omega (arith, from, to)) in
            in_seat (slice_get (seats_in old) (n - 1)) (present_seat new)
            (ap (λ (ss : List Seat). slice_get ss (n - 1)) (sym set_is)
            ∙ trades.2.trades.got (omega (arith, above, below, ap length set_is, set_length old.parked.items (old.connection - 1) (present_seat old)))));
      }))

  -- ---- the others' seats

  idle_alone : (files : Log D g) (catalog : SavedCatalogs) (history : List Database) (t : Transaction) → IsTransaction files catalog history t Idle → t ≡ transaction.Idle
  idle_alone files catalog history transaction.Idle is = refl
  idle_alone files catalog history transaction.Begun is = absurd (false≢true (ap in_one is.is))
  idle_alone files catalog history (transaction.Reading s) is = absurd (false≢true (ap in_one is.1.is))
  idle_alone files catalog history (transaction.Writing w) is = absurd (false≢true (ap in_one is.is))

  abbrev idle_in : Connections D g → Seat
  idle_in c = record { transaction = transaction.Idle; catalog = c.catalog }

  -- the seat in the present connection's place has no transaction
  own_idle : (c : Connections D g) (m : Machine) → RepresentsRunning c m → (s : Seat) → slice_get c.parked.items (c.connection - 1) ≡ Some s → s.transaction ≡ transaction.Idle
  own_idle c m shown s got = idle_alone (files_of c) s.catalog m.history s.transaction
      (subst (λ (k : Connection). IsTransaction (files_of c) s.catalog m.history s.transaction k)
      (ap (λ (x : Option Connection). unwrap_or x Idle) (get_set m.connections (c.connection - 1) Idle (in_range c.connection m shown.sixteen shown.numbered)))
      (parked_get (files_of c) m.history c.parked.items (slice_set m.connections (c.connection - 1) Idle) (c.connection - 1) s shown.parked got))

  pub switched_others : (n : ℕ) (old new : Connections D g) (m : Machine) → is_connection n ≡ true → Switches n old new → RepresentsRunning old m → transactions_of new.parked.items ≡ transactions_of (others_in old n)
  switched_others n old new m is switch shown = either_case n old.connection
      (λ same.
      ap (λ (c : Connections D g). transactions_of c.parked.items) (switch.same same)
      ∙ sym (ap (λ k. transactions_of (slice_set (seats_in old) (k - 1) (idle_in old))) same
      ∙ ap transactions_of (set_twice old.parked.items (old.connection - 1) (present_seat old) (idle_in old))
      ∙ set_alike old.parked.items (old.connection - 1) (idle_in old) (λ s got. own_idle old m shown s got)))
      (λ other. by_trades (switch.other other))
    where
      by_trades : (mid : Connections D g) × TradesWith old.connection old mid × TradesWith n (record mid { connection = n }) new → transactions_of new.parked.items ≡ transactions_of (others_in old n)
      by_trades trades =
          let there = seat_there old m shown old.connection shown.numbered in
          let set_is : trades.0.parked.items ≡ seats_in old = trades.1.trades.set there in
          let count : length trades.0.parked.items ≡ length old.parked.items = ap length set_is ∙ set_length old.parked.items (old.connection - 1) (present_seat old) in
          ap transactions_of (trades.2.trades.set (omega (arith, seat_there old m shown n is, count)))
          ∙ ap (λ (ss : List Seat). transactions_of (slice_set ss (n - 1) (present_seat trades.0))) set_is
          ∙ set_other (seats_in old) (n - 1) (present_seat trades.0) (idle_in old) (own_idle old m shown (present_seat trades.0) (trades.1.trades.got there))

  -- ---- steps of the connections from before

  pub steps_over : (old mid new : Connections D g) (m : Machine) (n : ℕ) (s : Statement) (reply : Reply) → files_of mid ≡ files_of old → mid.connection ≡ n → transactions_of mid.parked.items ≡ transactions_of (others_in old n)
      → CopiesAnswered mid.parked.items (files_of mid) s reply (files_of new) → AnswersTo mid m s reply new → StepsOver old m n s reply new
  steps_over old mid new m n s reply files number others copied step = record {
    next = step.next;
    step = subst (λ k. StepOrTooLong m k s reply step.next) number step.step;
    shown = step.shown;
    crash = subst (λ (l : Log D g). HoldThroughout (MayShow m step.next) l (files_of new)) files step.crash;
    copied = λ mode is rows answered. (let has = copied mode is rows answered in (
      has.0,
      has.1,
      subst (λ (l : Log D g). CopiesBack mode (others_in old n) l (Ok has.0) (files_of new)) files (alike_copies mode mid.parked.items (others_in old n) (files_of mid) (Ok has.0) (files_of new) others has.2),
    ));
    renewed = subst (λ (l : Log D g). BeginsLog (others_in old n) l m step.next (files_of new)) files
        (alike_begins mid.parked.items (others_in old n) (files_of mid) m step.next (files_of new) others step.renewed);
  }

  pub steps_from : (old mid new : Connections D g) (s : Statement) (reply : Reply) → files_of mid ≡ files_of old → beside_in mid ≡ beside_in old → ((m : Machine) → RepresentsRunning old m → RepresentsRunning mid m) → StepsOn mid s reply new
      → StepsOn old s reply new
  steps_from old mid new s reply files beside shows steps m shown =
      let step = steps m (shows m shown) in
      record {
        next = step.next;
        step = subst (λ (b : Beside). StepOrTooLong m b.connection s (as_answered reply) (once_answered step.next new.connection reply)) beside step.step;
        shown = step.shown;
        crash = subst (λ (l : Log D g). HoldThroughout (MayShow m step.next) l (files_of new)) files step.crash;
        renewed = subst (λ (b : Beside). BeginsLog b.parked (files_of old) m step.next (files_of new)) beside
            (subst (λ (l : Log D g). BeginsLog mid.parked.items l m step.next (files_of new)) files step.renewed);
      }

  -- ---- the newest tables

  taken_transaction : (files : Log D g) (old new : SavedCatalogs) (history : List Database) (tables : Listed) (t : Transaction) (k : Connection) → has_no_snapshot t ≡ true → Rebases tables old new → IsTransaction files old history t k → IsTransaction files new history t k
  taken_transaction files old new history tables transaction.Idle k none takes is = (
    is.0,
    takes.current ∙ sym takes.committed,
    takes.savepoints ∙ ap (rebased tables) is.2,
  )
  taken_transaction files old new history tables transaction.Begun k none takes is = record {
    points = map (rebased_point tables) is.points;
    is = is.is ∙ ap (λ ss. InTransactionOf (savepoints_in old).began (reverse ss) NoSnapshot) (sym (states_same tables is.points))
        ∙ ap (λ (s : Savepoints). InTransactionOf s.began (states_of (map (rebased_point tables) is.points)) NoSnapshot) (sym takes.savepoints);
    all = takes.current ∙ sym takes.committed;
    saved = record {
      tables = ap (λ (s : Savepoints). s.points) takes.savepoints ∙ ap (map (λ (p : SavedTables). record { name = p.name; tables = tables })) is.saved.tables ∙ tables_same tables is.points;
      hold = all_unwritten (committed_in old) tables (committed_in new) is.points (sym takes.committed) is.saved.hold;
    };
  }
  taken_transaction files old new history tables (transaction.Reading s) k none takes is = absurd (false≢true none)
  taken_transaction files old new history tables (transaction.Writing w) k none takes is = absurd (false≢true none)

  pub taken_shown : (old new : Connections D g) (m : Machine) → TakesNewest old new → RepresentsRunning old m → RepresentsRunning new m
  taken_shown old new m takes shown = stays old new m shown same takes.beside
      (subst (λ (t : Transaction). IsTransaction (files_of new) new.catalog m.history t shown.present) (sym takes.transaction)
      (subst (λ (l : Log D g). IsTransaction l new.catalog m.history old.transaction shown.present) (sym takes.files) (by_test (has_no_snapshot old.transaction) refl)))
    where
      same : ShowTheSame (files_of old) (files_of new)
      same = subst (ShowTheSame (files_of old)) (sym takes.files) (the_same (files_of old) shown.told)

      by_test : (b : Bool) → has_no_snapshot old.transaction ≡ b → IsTransaction (files_of old) new.catalog m.history old.transaction shown.present
      by_test true none = taken_transaction (files_of old) old.catalog new.catalog m.history (newest_tables old) old.transaction shown.present none (takes.taken none) shown.transaction
      by_test false some = subst (λ (c : SavedCatalogs). IsTransaction (files_of old) c m.history old.transaction shown.present) (sym (takes.same some)) shown.transaction

  pub taken_newest : (old new : Connections D g) → TakesNewest old new → SeesNewest new
  taken_newest old new takes none = (takes.taken (ap has_no_snapshot (sym takes.transaction) ∙ none)).committed ∙ ap (λ (b : Beside). b.newest) (sym takes.beside)

  -- a statement that begins with taking the newest tables
  pub after_taking : (old mid new : Connections D g) (s : Statement) (reply : Reply) → TakesNewest old mid → StepsOn mid s reply new → StepsOn old s reply new
  after_taking old mid new s reply takes steps = steps_from old mid new s reply takes.files takes.beside (λ m shown. taken_shown old mid m takes shown) steps

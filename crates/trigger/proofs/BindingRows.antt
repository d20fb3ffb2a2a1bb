-- Worked examples of triggers that are bound with the statement, and of their chains at the limit.
use Rattle.std.specs.Prelude.{◌≡◌, refl, ℕ, zero, suc, ◌+◌, ◌<◌, flat_map, true, pos, Err, codes, None, Some, List, [], ◌∷◌, ◌++◌, Option, length, is_ok}
use Rattle.std.proofs.Common.{arith, subst}
use Rattle.sqlval.specs.Refusals.{Refusal, NoSuch, Misuse, TooLong}
use Rattle.sql_syntax.specs.Tree as tree
use Rattle.sql_syntax.specs.Tree.{Tree, Raise}
use Rattle.sql_syntax.specs.declared.change.Change.{Change}
use Rattle.sql_syntax.specs.declared.create.TriggerEvent.{TriggerEvent}
use Rattle.sql_syntax.specs.declared.create.TriggerEvent.TheVariants.{Insert, Delete}
use Rattle.sql_syntax.specs.declared.create.TriggerStatement.{TriggerStatement}
use Rattle.sql_syntax.specs.declared.create.TriggerStatement.TheVariants as program
use Rattle.sql_syntax.specs.declared.create.TriggerTime.TheVariants.{After, InsteadOf}
use Rattle.sql_syntax.specs.declared.expr.Operator.TheVariants as op
use Rattle.sql_syntax.specs.declared.expr.RaiseAction.TheVariants.{Abort}
use Rattle.sql_syntax.specs.declared.query.ResultItem.TheVariants.{All}
use Rattle.catalog.specs.Database.{Name, Database, AView, ATrigger, with_object}
use Rattle.query_names.specs.Checked.{faults}
use Rattle.query_names.proofs.Written.{number, named_of, from, select, result, results, insert, update, set, delete, col, table, int}
use Rattle.row_change.specs.Changes.{resolve_change, no_outer}
use Rattle.trigger.specs.Binding.{faults_after, IsFault, triggers_for, aim_of, program_scope, program_faults}
use Rattle.trigger.specs.Effects.{change}

abbrev a : Name
a = codes "a"

abbrev t : Name
t = codes "t"

abbrev u : Name
u = codes "u"

abbrev v : Name
v = codes "v"

abbrev g : Name
g = codes "g"

abbrev two : Database
two = with_object (with_object [] t (table (col a ∷ []) [])) u (table (col a ∷ []) ((pos 1, int 7 ∷ []) ∷ []))

abbrev on : Name → TriggerEvent → Name → Option Tree → List TriggerStatement → Database → Database
on n event target when body db = with_object db n (ATrigger (record { name = n; time = After; event = event; target = target; condition = when; body = body }))

-- g AFTER DELETE ON t WHEN OLD.a = 99: DELETE FROM nosuch. DELETE FROM t, where t has no row
abbrev with_g : Database
with_g = on g Delete t (Some (tree.Binary op.Equal (named_of (codes "OLD") a) (number 99))) (program.Change (delete (codes "nosuch") None) ∷ []) two

pub trigger_bound : faults_after 1 with_g no_outer (delete t None) ≡ NoSuch ∷ []
trigger_bound = refl

-- through two triggers: h on u runs DELETE FROM t
pub trigger_bound_after : faults_after 2 (on (codes "h") Delete u None (program.Change (delete t None) ∷ []) with_g) no_outer (delete u None) ≡ NoSuch ∷ []
trigger_bound_after = refl

-- where no trigger is set off, only its own text is refused
pub no_faults_behind : (db : Database) (c : Change) → triggers_for db (aim_of c) ≡ [] → faults (resolve_change db no_outer c) ≡ [] → (x : Refusal) → IsFault db c x → ⊥
no_faults_behind db c h k x (zero, p) = absurd (omega (arith, subst (λ l. p.0 < length l) k p.1))
no_faults_behind db c h k x (suc n, p) = absurd (omega (arith, subst (λ l. p.0 < length (flat_map (λ y. program_faults (faults_after n db) db (program_scope db (aim_of c)) y.1) l)) h p.1))

-- a trigger that sets itself off has no refusal, however long the chain: g AFTER INSERT ON t: INSERT INTO t VALUES (NEW.a)
pub itself : faults_after 3 (on g Insert t None (program.Change (insert t (named_of (codes "NEW") a ∷ [])) ∷ []) two) no_outer (insert t (number 1 ∷ [])) ≡ []
itself = refl

-- RAISE in a view is refused, though a program reads it
abbrev raising : Database
raising = with_object two v (AView (record { columns = []; query = select (result (Raise Abort (codes "x")) ∷ []) [] }))

pub raise_in_view : faults_after 1 (on g Insert t None (program.Select (select (All ∷ []) (from v ∷ [])) ∷ []) raising) no_outer (insert t (number 1 ∷ [])) ≡ Misuse ∷ []
raise_in_view = refl

-- ---- triggers that set one another off

abbrev n_th : ℕ → Name
n_th n = (1000 + n) ∷ []

abbrev table_at : ℕ → Database → Database
table_at n db = with_object db (n_th n) (table (col a ∷ []) [])

abbrev insert_into : Name → Change
insert_into n = insert n (number 1 ∷ [])

abbrev triggers : ℕ → Database
triggers zero = table_at 0 []
triggers (suc n) = on ((2000 + n) ∷ []) Insert (n_th (suc n)) None (program.Change (insert_into (n_th n)) ∷ []) (table_at (suc n) (triggers n))

pub triggers_64 : is_ok (change (triggers 64) (insert_into (n_th 64))) ≡ true
triggers_64 = refl

pub triggers_65 : change (triggers 65) (insert_into (n_th 65)) ≡ Err TooLong
triggers_65 = refl

-- ---- a view that is refused

-- CREATE VIEW v AS SELECT * FROM v
abbrev in_itself : Database
in_itself = with_object two v (AView (record { columns = []; query = select (All ∷ []) (from v ∷ []) }))

-- CREATE TRIGGER g INSTEAD OF INSERT ON v BEGIN SELECT NEW.x, nosuch.x; END
abbrev reading_new : Database
reading_new = with_object in_itself g (ATrigger (record {
  name = g;
  time = InsteadOf;
  event = Insert;
  target = v;
  condition = None;
  body = program.Select (select (results (named_of (codes "NEW") (codes "x") ∷ named_of (codes "nosuch") (codes "x") ∷ [])) []) ∷ [];
}))

-- INSERT INTO v VALUES (1): the view is refused, and so is what doesn't hang on it
pub refused_view : faults_after 0 reading_new no_outer (insert v (number 1 ∷ [])) ≡ Misuse ∷ []
refused_view = refl

pub new_of_refused_view : faults_after 1 reading_new no_outer (insert v (number 1 ∷ [])) ≡ NoSuch ∷ []
new_of_refused_view = refl

-- CREATE TRIGGER g INSTEAD OF INSERT ON v BEGIN SELECT NEW.x; END
abbrev reading_new_alone : Database
reading_new_alone = with_object in_itself g (ATrigger (record {
  name = g;
  time = InsteadOf;
  event = Insert;
  target = v;
  condition = None;
  body = program.Select (select (result (named_of (codes "NEW") (codes "x")) ∷ []) []) ∷ [];
}))

pub only_new_of_refused_view : faults_after 1 reading_new_alone no_outer (insert v (number 1 ∷ [])) ≡ []
only_new_of_refused_view = refl

-- ---- a chain over tables without rows

-- h AFTER DELETE ON u: INSERT INTO t VALUES (1); g AFTER INSERT ON t: UPDATE nosuch SET a = 1. DELETE FROM u, where u has no row
abbrev chain : Database
chain = on (codes "h") Delete u None (program.Change (insert t (number 1 ∷ [])) ∷ [])
    (on g Insert t None (program.Change (update (codes "nosuch") (set a (number 1) ∷ [])) ∷ []) (with_object two u (table (col a ∷ []) [])))

pub chain_bound : faults_after 2 chain no_outer (delete u None) ≡ NoSuch ∷ []
chain_bound = refl

-- what comes before the end of the chain isn't refused
pub chain_below : faults_after 0 chain no_outer (delete u None) ++ faults_after 1 chain no_outer (delete u None) ≡ []
chain_below = refl

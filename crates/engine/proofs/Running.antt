-- Replies to lines are a run from each machine that was shown, and what a crash leaves is one of its databases.
use Rattle.std.proofs.Common.{◌≡◌, ◌≤◌, ◌<◌, ◌∙◌, inl, inr, refl, sym, ap, subst, ℕ, zero, suc, Bool, true, false, List, [], ◌∷◌, length, Option, Some, None, arith}
use Rattle.std.specs.Prelude.{IsTrue, IsFalse, slice_get, unwrap_or}
use Rattle.std.proofs.lemmas.Bool.{false≢true}
use Rattle.disk.specs.declared.device.Disk.{Ghosts}
use Rattle.disk.proofs.Moments.{throughout_both}
use Rattle.sql_syntax.specs.declared.statement.Statement.{Statement}
use Rattle.catalog.specs.Database.{Database}
use Rattle.session.specs.TooLong.{StepOrTooLong}
use Rattle.session.specs.Holding.{HoldThroughout, LeaveHeld}
use Rattle.session.specs.Laws.{IsBeside}
use Rattle.session.specs.Machine.{Machine, Reply, committed, last_place, newest}
use Rattle.session.specs.Crashes.{MayShow, MayShowInRun}
use Rattle.session.specs.Texts.{StepByText}
use Rattle.session.proofs.Besides.{beside_itself, moved, others_stay_beside}
use Rattle.session.proofs.Settled.{as_shown, held_weaker}
use Rattle.engine.specs.EngineState.{has_failed_of}
use Rattle.engine.specs.Language.{grammar}
use Rattle.engine.specs.Lines.{kept_of}
use Rattle.engine.specs.Serving as serving
use Rattle.engine.specs.Serving.{Answers, AnswersFrom, AreReplies, IsExecuted, RunsTo, Runs, machine_reply}
use Rattle.engine.specs.Representation.{EngineRepresents, files_in}
use Rattle.engine.specs.declared.opening.Engine.{Engine}

-- ---- machines

-- there is a database, and none is in doubt where no commit has failed
record IsSound (m : Machine) : Type 0 where
  some : 1 ≤ length m.history
  sure : m.failed ≡ false → m.in_doubt ≡ None

so_far_beside : (m : Machine) (c : ℕ) (s : Statement) (reply : Reply) (new : Machine) → StepOrTooLong m c s reply new → IsBeside m c new
so_far_beside m c s reply new (inl step) = others_stay_beside m c s reply new step
so_far_beside m c s reply new (inr h) = moved m new m c h.2 (beside_itself m c)

-- what is at a place
at_place : (dbs : List Database) (i : ℕ) → i < length dbs → slice_get dbs i ≡ Some (unwrap_or (slice_get dbs i) [])
at_place [] i within = absurd (omega (arith, within))
at_place (x ∷ dbs) zero within = refl
at_place (x ∷ dbs) (suc i) within = at_place dbs i (omega (arith, within))

-- the newest database is at its place
newest_at : (m : Machine) → 1 ≤ length m.history → slice_get m.history (last_place m) ≡ Some (newest m)
newest_at m some = at_place m.history (last_place m) (omega (arith, some))

-- the databases of a machine stay at their places
record Keeps (m end : Machine) : Type 0 where
  longer : length m.history ≤ length end.history
  kept : (i : ℕ) → i < length m.history → committed end i ≡ committed m i

keeps_itself : (m : Machine) → Keeps m m
keeps_itself m = record { longer = omega arith; kept = λ i within. refl }

keeps_both : (m next end : Machine) → Keeps m next → Keeps next end → Keeps m end
keeps_both m next end a b = record { longer = omega (arith, a.longer, b.longer); kept = λ i within. b.kept i (omega (arith, within, a.longer)) ∙ a.kept i within }

beside_keeps : (m : Machine) (c : ℕ) (next : Machine) → IsBeside m c next → Keeps m next
beside_keeps m c next is = record { longer = is.longer; kept = is.kept }

still_at : (m end : Machine) (i : ℕ) → Keeps m end → i < length m.history → slice_get end.history i ≡ Some (committed m i)
still_at m end i keeps within = at_place end.history i (omega (arith, within, keeps.longer)) ∙ ap Some (keeps.kept i within)

-- what one step or a run may show, the whole run may
later_show : (m next end : Machine) (db : Database) → Keeps m next → MayShowInRun next end db → MayShowInRun m end db
later_show m next end db keeps (inl (i, from, at)) = inl (i, omega (arith, from, keeps.longer), at)
later_show m next end db keeps (inr doubt) = inr doubt

in_run : (m end : Machine) (db : Database) → 1 ≤ length m.history → Keeps m end → db ≡ newest m → MayShowInRun m end db
in_run m end db some keeps is = inl (last_place m, omega arith, still_at m end (last_place m) keeps (omega (arith, some)) ∙ ap Some (sym is))

some_doubt : {A : Type 0} (db : Database) (doubt : Option Database) → doubt ≡ None → doubt ≡ Some db → A
some_doubt db doubt none some = absurd cc

step_shows : (m next end : Machine) (db : Database) → IsSound m → IsSound next → m.failed ≡ false → Keeps m next → Keeps next end → (next.failed ≡ true → end ≡ next) → MayShow m next db → MayShowInRun m end db
step_shows m next end db sound sound_next running first rest stays (inl was) = in_run m end db sound.some (keeps_both m next end first rest) was
step_shows m next end db sound sound_next running first rest stays (inr (inl is)) = later_show m next end db first (in_run next end db sound_next.some rest is)
step_shows m next end db sound sound_next running first rest stays (inr (inr (inl doubt))) = some_doubt db m.in_doubt (sound.sure running) doubt
step_shows m next end db sound sound_next running first rest stays (inr (inr (inr doubt))) = by_failed next.failed refl
  where
    by_failed : (b : Bool) → next.failed ≡ b → MayShowInRun m end db
    by_failed true failed = inr (ap (λ (n : Machine). n.in_doubt) (stays failed) ∙ doubt)
    by_failed false on = some_doubt db next.in_doubt (sound_next.sure on) doubt

one_shows : (m : Machine) (db : Database) → 1 ≤ length m.history → MayShow m m db → MayShowInRun m m db
one_shows m db some (inl is) = in_run m m db some (keeps_itself m) is
one_shows m db some (inr (inl is)) = in_run m m db some (keeps_itself m) is
one_shows m db some (inr (inr (inl doubt))) = inr doubt
one_shows m db some (inr (inr (inr doubt))) = inr doubt

-- ---- engines

module _ {D : Type 0} {g : Ghosts D} where
  sound_of : (e : Engine D g) (m : Machine) → EngineRepresents e m → IsSound m
  sound_of e m (inl (failed, stopped, left)) = record { some = left.some; sure = λ on. absurd (false≢true (sym on ∙ stopped)) }
  sound_of e m (inr shown) = record { some = shown.some; sure = λ on. shown.sure }

  running_of : (e : Engine D g) (m : Machine) → EngineRepresents e m → IsFalse (has_failed_of e) → m.failed ≡ false
  running_of e m (inl h) on = absurd (false≢true (sym on ∙ h.0))
  running_of e m (inr shown) on = shown.running

  failed_of : (e : Engine D g) (m : Machine) → EngineRepresents e m → m.failed ≡ true → IsTrue (has_failed_of e)
  failed_of e m (inl h) stopped = h.0
  failed_of e m (inr shown) stopped = absurd (false≢true (sym shown.running ∙ stopped))

  abbrev TextStep : Engine D g → Machine → ℕ → List ℕ → Reply → Machine → Type 0
  TextStep old m c text reply next = StepByText (λ before k s answer after. StepOrTooLong before k s answer after) grammar m c text reply next

  step_beside : (old : Engine D g) (m : Machine) (c : ℕ) (text : List ℕ) (reply : Reply) (next : Machine) → TextStep old m c text reply next → IsBeside m c next
  step_beside old m c text reply next (inl h) = moved m next m c h.2 (beside_itself m c)
  step_beside old m c text reply next (inr (inl h)) = moved m next m c h.3 (beside_itself m c)
  step_beside old m c text reply next (inr (inr (a, b, inl h))) = moved m next m c h.1 (beside_itself m c)
  step_beside old m c text reply next (inr (inr (a, b, inr (inl (r, why, is, same))))) = moved m next m c same (beside_itself m c)
  step_beside old m c text reply next (inr (inr (a, b, inr (inr (d, s, reads, within, by))))) = so_far_beside m c s reply next by

  -- the run, with what it keeps
  record Ran (old : Engine D g) (m : Machine) (lines : List (List ℕ)) (replies : List serving.Reply) (new : Engine D g) : Type 0 where
    to : RunsTo old m lines replies new
    keeps : Keeps m to.end
    stays : m.failed ≡ true → to.end ≡ m

  ran_nothing : (old new : Engine D g) (m : Machine) → new ≡ old → EngineRepresents old m → Ran old m [] [] new
  ran_nothing old new m is shows = subst (Ran old m [] []) (sym is) (record {
    to = record {
      end = m;
      runs = (refl, refl);
      shown = shows;
      crash = held_weaker (MayShow m m) (MayShowInRun m m) (λ db. one_shows m db (sound_of old m shows).some) (files_in old) (files_in old) (as_shown old.connections m shows);
    };
    keeps = keeps_itself m;
    stays = λ failed. refl;
  })

  -- a line that changes nothing
  ran_still : (old mid new : Engine D g) (m : Machine) (line : List ℕ) (reply : serving.Reply) (lines : List (List ℕ)) (replies : List serving.Reply) → mid ≡ old → AnswersFrom old m line reply mid m → Ran mid m lines replies new
      → Ran old m (line ∷ lines) (reply ∷ replies) new
  ran_still old mid new m line reply lines replies is answers rest = record {
    to = record {
      end = rest.to.end;
      runs = (mid, m, answers, rest.to.runs);
      shown = rest.to.shown;
      crash = subst (λ (e : Engine D g). HoldThroughout (MayShowInRun m rest.to.end) (files_in e) (files_in new)) is rest.to.crash;
    };
    keeps = rest.keeps;
    stays = rest.stays;
  }

  -- a line whose statement was executed
  ran_step : (old mid new : Engine D g) (m : Machine) (line : List ℕ) (reply : serving.Reply) (lines : List (List ℕ)) (replies : List serving.Reply) (shows : EngineRepresents old m) → IsFalse (has_failed_of old)
      → (ex : IsExecuted old (kept_of line) reply mid) → Ran mid (ex.step m shows).next lines replies new → Ran old m (line ∷ lines) (reply ∷ replies) new
  ran_step old mid new m line reply lines replies shows on ex rest =
      let to = ex.step m shows in
      let first = beside_keeps m ex.connection to.next (step_beside old m ex.connection ex.statement (machine_reply reply) to.next to.step) in
      let May = MayShowInRun m rest.to.end in
      record {
        to = record {
          end = rest.to.end;
          runs = (mid, to.next, inr (inr (on, record { connection = ex.connection; statement = ex.statement; says = ex.says; fits = ex.fits; to = to; next_is = refl; full = ex.full; early = ex.early })), rest.to.runs);
          shown = rest.to.shown;
          crash = throughout_both (LeaveHeld May) (LeaveHeld May) (λ d l h. h) _ _ _ _ _ _
              (held_weaker (MayShow m to.next) May (λ db. step_shows m to.next rest.to.end db (sound_of old m shows) (sound_of mid to.next to.shown) (running_of old m shows on) first rest.keeps rest.stays) (files_in old) (files_in mid) to.crash)
              (held_weaker (MayShowInRun to.next rest.to.end) May (λ db. later_show m to.next rest.to.end db first) (files_in mid) (files_in new) rest.to.crash);
        };
        keeps = keeps_both m to.next rest.to.end first rest.keeps;
        stays = λ failed. absurd (false≢true (sym (running_of old m shows on) ∙ failed));
      }

  -- by the answer to the first line, where the rest runs from wherever that leads
  by_answer : (old mid new : Engine D g) (m : Machine) (line : List ℕ) (reply : serving.Reply) (lines : List (List ℕ)) (replies : List serving.Reply) → EngineRepresents old m → Answers old line reply mid
      → ((n : Machine) → EngineRepresents mid n → Ran mid n lines replies new) → Ran old m (line ∷ lines) (reply ∷ replies) new
  by_answer old mid new m line reply lines replies shows (inl (failed, is, same)) rest =
      ran_still old mid new m line reply lines replies same (inl (failed, is, same, refl)) (rest m (subst (λ (e : Engine D g). EngineRepresents e m) (sym same) shows))
  by_answer old mid new m line reply lines replies shows (inr (inl (on, is, same))) rest =
      ran_still old mid new m line reply lines replies same (inr (inl (on, is, same, refl))) (rest m (subst (λ (e : Engine D g). EngineRepresents e m) (sym same) shows))
  by_answer old mid new m line reply lines replies shows (inr (inr (on, ex))) rest = ran_step old mid new m line reply lines replies shows on ex (rest (ex.step m shows).next (ex.step m shows).shown)

  ran : (old : Engine D g) (lines : List (List ℕ)) (replies : List serving.Reply) (new : Engine D g) → AreReplies old lines replies new → (m : Machine) → EngineRepresents old m → Ran old m lines replies new
  ran old [] [] new are m shows = ran_nothing old new m are shows
  ran old [] (r ∷ rs) new are m shows = absurd are
  ran old (l ∷ ls) [] new are m shows = absurd are
  ran old (l ∷ ls) (r ∷ rs) new (mid, answered, are) m shows = by_answer old mid new m l r ls rs shows answered (λ n here. ran mid ls rs new are n here)

  pub all_run : (old : Engine D g) (lines : List (List ℕ)) (replies : List serving.Reply) (new : Engine D g) → AreReplies old lines replies new → Runs old lines replies new
  all_run old lines replies new are m shows = (let it = ran old lines replies new are m shows in it.to)

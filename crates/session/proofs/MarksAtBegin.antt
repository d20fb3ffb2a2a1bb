-- The marks that the first write of a transaction sets, one for each savepoint.
use Rattle.std.proofs.Common.{◌≡◌, refl, sym, ap, subst, ◌∙◌, ℕ, List, [], ◌∷◌, length, map, Option}
use Rattle.std.specs.Prelude.{⊤, replicate, unwrap_or}
use Rattle.std.specs.List.{AllByRecursion}
use Rattle.disk.specs.declared.device.Disk.{Ghosts}
use Rattle.wal.specs.declared.log.Log.{Log}
use Rattle.catalog.specs.Database.{Database}
use Rattle.pager.specs.Marks.{Changes, IsOverTheSame, now_of}
use Rattle.pager.specs.Views.{view_of}
use Rattle.pager.specs.declared.writer.Writer.{Writer}
use Rattle.session.specs.Machine.{SavepointState}
use Rattle.session.specs.SavedTables.{SavedTables}
use Rattle.session.specs.Saving.{IsMarked, IsUnwritten, SavedAs}
use Rattle.session.specs.Stored.{ShowsDatabase}
use Rattle.session.specs.Writers.{IsWriter}
use Rattle.catalog.specs.Listed.{Listed}

-- each savepoint with what the writer would commit when it began
abbrev pub at_begin : Changes → List (SavedAs ⊤) → List (SavedAs Changes)
at_begin now points = map (λ p. record { state = p.state; tables = p.tables; kept = now }) points

all_at_begin : (now : Changes) (points : List (SavedAs ⊤)) → replicate (length points) now ≡ map (λ p. p.kept) (at_begin now points)
all_at_begin now [] = refl
all_at_begin now (p ∷ ps) = ap (λ (cs : List Changes). now ∷ cs) (all_at_begin now ps)

pub marks_at_begin : (now : Changes) (points : List (SavedAs ⊤)) (n : ℕ) → n ≡ length points → replicate n now ≡ map (λ p. p.kept) (at_begin now points)
marks_at_begin now points n is = ap (λ k. replicate k now) is ∙ all_at_begin now points

pub tables_at_begin : (now : Changes) (points : List (SavedAs ⊤)) → map (λ p. p.tables) points ≡ map (λ p. p.tables) (at_begin now points)
tables_at_begin now [] = refl
tables_at_begin now (p ∷ ps) = ap (λ (ts : List SavedTables). p.tables ∷ ts) (tables_at_begin now ps)

pub states_at_begin : (now : Changes) (points : List (SavedAs ⊤)) → map (λ p. p.state) points ≡ map (λ p. p.state) (at_begin now points)
states_at_begin now [] = refl
states_at_begin now (p ∷ ps) = ap (λ (ss : List SavepointState). p.state ∷ ss) (states_at_begin now ps)

module _ {D : Type 0} {g : Ghosts D} where
  -- a writer that goes back to where it began shows the newest database
  pub shows_begin : (files : Log D g) (committed : Listed) (newest : Database) (now : Changes) (left : Writer) → ((u : Writer) → now_of u ≡ now → IsOverTheSame left u → IsWriter files u × ShowsDatabase (view_of files u) committed newest)
      → (points : List (SavedAs ⊤)) → AllByRecursion (IsUnwritten committed) points → AllByRecursion (IsMarked files newest left) (at_begin now points)
  shows_begin files committed newest now left back [] all = tt
  shows_begin files committed newest now left back (p ∷ ps) all = (
    record {
      named = all.0.named;
      back = λ u is over. (
        (back u is over).0,
        subst (λ (ts : Listed). ShowsDatabase (view_of files u) ts (unwrap_or p.state.working newest)) (sym all.0.tables)
            (subst (λ (db : Option Database). ShowsDatabase (view_of files u) committed (unwrap_or db newest)) (sym all.0.working) (back u is over).1),
      );
    },
    shows_begin files committed newest now left back ps all.1,
  )

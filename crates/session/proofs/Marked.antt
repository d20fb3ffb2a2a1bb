-- A statement that writes under a mark of its writer.
use Rattle.std.proofs.Common.{◌≡◌, inl, refl, sym, ap, subst, ◌∙◌, ℕ, List, [], ◌∷◌, ◌++◌, length, Result, Ok, Err}
use Rattle.std.proofs.lemmas.List.{get_or_push}
use Rattle.std.specs.Prelude.{⊤, IsErrAnd, slice_index_or}
use Rattle.disk.specs.declared.device.Disk.{Ghosts}
use Rattle.sqlval.specs.declared.fault.Fault.{Fault}
use Rattle.sqlval.specs.declared.fault.Fault.TheVariants as fault
use Rattle.sql_syntax.specs.declared.statement.Statement.{Statement}
use Rattle.wal.specs.declared.log.Log.{Log}
use Rattle.catalog.specs.Database.{Database}
use Rattle.session.specs.SavedTables.{current_in}
use Rattle.pager.specs.Limits.{pages_of}
use Rattle.pager.specs.Marks.{Changes, IsOverTheSame, now_of}
use Rattle.pager.specs.Views.{View, after, changes_of, view_at, view_of}
use Rattle.pager.specs.Writers.{snapshot_of}
use Rattle.pager.specs.declared.writer.Writer.{Writer}
use Rattle.pager.proofs.Backing.{back_sound}
use Rattle.session.specs.Applying.{IsApplied, IsNotApplied, Applies, CanApply}
use Rattle.session.specs.ConnectionState.{files_of}
use Rattle.session.specs.Writers.{IsNewest, IsWriter}
use Rattle.session.specs.Stored.{ShowsDatabase}
use Rattle.session.specs.declared.transactions.Connections.{Connections}
use Rattle.session.proofs.Settled.{still_settled}
use Rattle.session.proofs.Showing.{still_writer, the_same}
use Rattle.catalog.specs.Listed.{Listed}

-- what is kept at a mark that was set last, where the marks are as they were then
pub at_last_mark : (marks left : List Changes) (now back : Changes) (place : ℕ) → place ≡ length marks → left ≡ marks ++ now ∷ [] → ((d : Changes) → back ≡ slice_index_or left place d) → back ≡ now
at_last_mark marks left now back place last is kept =
    kept now ∙ ap (λ (changes : List Changes). slice_index_or changes place now) is ∙ get_or_push marks now now place (sym last)

pub over_on : (w v u : Writer) → IsOverTheSame w v → IsOverTheSame v u → IsOverTheSame w u
over_on w v u first second = record { page_size = second.page_size ∙ first.page_size; snapshot = second.snapshot ∙ first.snapshot }

module _ {D : Type 0} {g : Ghosts D} where
  -- ---- a mark is set, or forgotten

  pub moved_view : (files : Log D g) (w v : Writer) → now_of v ≡ now_of w → IsOverTheSame w v → view_of files v ≡ view_of files w
  moved_view files w v now over = λ k. after (view_at files (over.snapshot k)) ((now k).pages) ((now k).size)

  -- a writer that would commit the same over the same snapshot
  pub moved_writer : (files : Log D g) (w v : Writer) → now_of v ≡ now_of w → IsOverTheSame w v → IsWriter files w → IsWriter files v
  moved_writer files w v now over is = record {
    newest = subst (IsNewest files) (sym over.snapshot) is.newest;
    sound = back_sound w v now over is.sound;
    page_size = over.page_size ∙ is.page_size;
  }

  pub moved_on : (c : Connections D g) (w v : Writer) (db : Database) → now_of v ≡ now_of w → IsOverTheSame w v → CanApply c w db → CanApply c v db
  moved_on c w v db now over on = record {
    told = on.told;
    settled = on.settled;
    writer = moved_writer (files_of c) w v now over on.writer;
    stored = subst (λ (x : View). ShowsDatabase x (current_in c.catalog) db) (sym (moved_view (files_of c) w v now over)) on.stored;
  }

  -- a mark that is refused
  pub unmarked : (s : Statement) (c : Connections D g) (w v : Writer) (db : Database) (r : Result ⊤ Fault) (f : Fault) → IsErrAnd r (λ e. e ≡ f) → f ≡ fault.Memory → CanApply c w db → Applies s c w db r c v
  unmarked s c w v db (Ok done) f is memory on = absurd is
  unmarked s c w v db (Err e) f is memory on = record {
    kept = record { files = the_same (files_of c) on.told; beside = refl; transaction = refl; tables = refl; savepoints = refl };
    tables = refl;
    why = inl (inl (inl (is ∙ memory)));
  }

  -- a statement that was applied, whose mark is let go of
  pub released : (s : Statement) (old new : Connections D g) (db : Database) (left end : Writer) → now_of end ≡ now_of left → IsOverTheSame left end → IsApplied s old db new left → IsApplied s old db new end
  released s old new db left end now over has = record { kept = has.kept; made = has.made; reaches = has.reaches; applies = moved_on new left end has.made now over has.applies }

  -- what the connections and a writer have that went back to what it had
  pub went_back : (s : Statement) (old new : Connections D g) (db : Database) (w end : Writer) (f : Fault) → now_of end ≡ now_of w → IsOverTheSame w end → CanApply old w db → IsNotApplied s old db new f → CanApply new end db
  went_back s old new db w end f now over on has =
      moved_on new w end db now over (record {
        told = has.kept.files.told;
        settled = still_settled (files_of old) (files_of new) has.kept.files on.settled;
        writer = still_writer (files_of old) (files_of new) w has.kept.files on.writer;
        stored = subst (λ (ts : Listed). ShowsDatabase (view_of (files_of new) w) ts db) (sym has.tables)
            (subst (λ (v : View). ShowsDatabase (after v (changes_of w) (pages_of w)) (current_in old.catalog) db) (sym (has.kept.files.at (snapshot_of w))) on.stored);
      })

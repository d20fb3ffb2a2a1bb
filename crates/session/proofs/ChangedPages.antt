-- What a statement's change of a writer's pages comes to for the two files.
use Rattle.std.proofs.Common.{◌≡◌, ◌∙◌, ◌≤◌, ◌/◌, refl, sym, ap, subst, arith, ℕ, true, inl}
use Rattle.std.specs.Prelude.{⊤, Option, Some, None, Result, Ok, Err, IsTrue, OnErr, max, IsErrAnd}
use Rattle.std.proofs.Math.Nat.{div-mul-le_self, mul-le-mul_left, mul-le-mul_right}
use Rattle.sqlval.specs.declared.fault.Fault.{Fault}
use Rattle.sqlval.specs.declared.fault.Fault.TheVariants as fault
use Rattle.disk.specs.declared.device.Disk.{Ghosts}
use Rattle.sql_syntax.specs.declared.statement.Statement.{Statement}
use Rattle.catalog.specs.Database.{Database}
use Rattle.session.specs.SavedTables.{committed_in, current_in, savepoints_in}
use Rattle.catalog.specs.declared.tables.Catalog.{Catalog}
use Rattle.session.specs.declared.savepoints.SavedCatalogs.{SavedCatalogs}
use Rattle.wal.specs.LogState.{LogState}
use Rattle.wal.specs.Sizes.{IsSizeWithinLimits}
use Rattle.wal.specs.declared.log.Log.{Log}
use Rattle.pages.specs.Map.{PageMap}
use Rattle.pager.specs.Limits.{page_size_of, pages_of}
use Rattle.pager.specs.Maps.{pages_in}
use Rattle.pager.specs.Sights.{UnderReader, UnderWriter, map_over, tells_writer, under_reader, under_writer}
use Rattle.pager.specs.Sound.{IsSound, most_of}
use Rattle.pager.specs.Views.{Tells, View, after, view_at, view_of}
use Rattle.pager.specs.Writers.{snapshot_of}
use Rattle.pager.specs.declared.writer.Writer.{Writer}
use Rattle.pager.specs.Marks.{Changes, IsOverTheSame, now_of}
use Rattle.pager.proofs.Sounding.{sound_alike, sound_from, sound_to}
use Rattle.pager.proofs.WriterSights.{map_told}
use Rattle.executor.specs.Changing as pages
use Rattle.executor_programs.specs.Making as making
use Rattle.executor_programs.specs.Writes.{listed_then}
use Rattle.db_pages.specs.Stored.{Stores}
use Rattle.session.specs.Changing.{CanChange, ChangesPages, Listing, MakesCatalog, listing}
use Rattle.session.specs.Representation.{ShowTheSame}
use Rattle.session.specs.Writers.{IsNewest, IsWriter}
use Rattle.session.specs.Stored.{ShowsDatabase}
use Rattle.session.proofs.KeptFiles.{changes_stored, changes_told, files_kept}
use Rattle.session.proofs.Settled.{still_settled}
use Rattle.session.proofs.Showing.{still_newest}
use Rattle.catalog.specs.Listed.{Listed}

-- no more pages than there may be are within the limits
pub few_pages : (pages page_size : ℕ) → pages ≤ most_of page_size → IsSizeWithinLimits page_size pages
few_pages pages page_size le =
    let most = div-mul-le_self 1073741824 (max 1 page_size) in
    let wide = mul-le-mul_left pages (let le : page_size ≤ max 1 page_size = omega arith in le) in
    let all = mul-le-mul_right (max 1 page_size) (let few : pages ≤ 1073741824 / max 1 page_size = omega (arith, le) in few) in
    record { few = omega (arith, le); small = omega (arith, wide, all, most) }

module _ {D : Type 0} {g : Ghosts D} where
  -- a writer whose schema change is noted sees what it saw
  noted_view : (files : Log D g) (w v : Writer) → now_of v ≡ record (now_of w) { makes_objects = true } → IsOverTheSame w v → view_of files v ≡ view_of files w
  noted_view files w v now over = λ k. after (view_at files (over.snapshot k)) ((now k).pages) ((now k).size)

  noted_writer : (files : Log D g) (w v : Writer) → now_of v ≡ record (now_of w) { makes_objects = true } → IsOverTheSame w v → IsWriter files w → IsWriter files v
  noted_writer files w v now over is = record {
    newest = subst (IsNewest files) (sym over.snapshot) is.newest;
    sound = sound_alike w v (record { size = ap (λ (c : Changes). c.size) now; page_size = over.page_size; snapshot = over.snapshot }) (ap (λ (c : Changes). c.pages) now) is.sound;
    page_size = over.page_size ∙ is.page_size;
  }

  pub noted : (s : Statement) (old next : Listing D g) (w v end : Writer) (db : Database) → now_of end ≡ record (now_of v) { makes_objects = true } → IsOverTheSame v end
      → ChangesPages s old w db (Ok tt) next v → ChangesPages s old w db (Ok tt) next end
  noted s old next w v end db now over has = record {
    kept = has.kept;
    made = has.made;
    reaches = has.reaches;
    applies = record {
      told = has.applies.told;
      settled = has.applies.settled;
      writer = noted_writer next.files v end now over has.applies.writer;
      stored = subst (λ (x : View). ShowsDatabase x (current_in next.catalog) has.made) (sym (noted_view next.files v end now over)) has.applies.stored;
    };
  }

  -- where the changed tables aren't shared, when out of memory
  pub not_shared : (s : Statement) (old new : Log D g) (catalog next : SavedCatalogs) (w v : Writer) (db : Database) (r : Result ⊤ Fault) (f : Fault) → IsErrAnd r (λ e. e ≡ f) → f ≡ fault.Memory → next ≡ catalog → ShowTheSame old new
      → ChangesPages s (listing old catalog) w db r (listing new next) v
  not_shared s old new catalog next w v db (Ok done) f is memory kept same = absurd is
  not_shared s old new catalog next w v db (Err e) f is memory kept same = record {
    kept = record { files = same; tables = ap committed_in kept; savepoints = ap savepoints_in kept };
    tables = ap current_in kept;
    why = inl (inl (inl (is ∙ memory)));
  }

  -- a writer that changes the database of a catalog's tables has pages that tell their bytes
  pub tells_changes : (files : Log D g) (catalog : SavedCatalogs) (w : Writer) (db : Database) (a n b : ℕ) → CanChange (listing files catalog) w db → IsTrue (tells_writer (under_writer files w a n b))
  tells_changes files catalog w db a n b on = changes_told files w a n b on.told on.writer

  -- and they are those that it sees
  stored_over : (files : Log D g) (catalog : SavedCatalogs) (w : Writer) (db : Database) (a b : ℕ) → (on : CanChange (listing files catalog) w db)
      → Stores (map_over (under_reader files (snapshot_of w) a b) w) (page_size_of w) (current_in catalog) db
  stored_over files catalog w db a b on = changes_stored files w (current_in catalog) db a b on.told on.writer on.stored

  module _ (old new : Log D g) (w v : Writer) (a n b c m d : ℕ) (kept : under_writer new v c m d ≡ under_writer old w a n b) where
    reader_kept : under_reader new (snapshot_of v) c d ≡ under_reader old (snapshot_of w) a b
    reader_kept = ap (λ (under : UnderWriter). under.reader) kept

    pub shows_same : Tells old → ShowTheSame old new
    shows_same = files_kept old new (snapshot_of w) (snapshot_of v) a b c d reader_kept

    snapshot_same : snapshot_of v ≡ snapshot_of w
    snapshot_same = ap (λ (under : UnderReader). under.snapshot) reader_kept

    page_size_same : page_size_of v ≡ page_size_of w
    page_size_same = ap (λ (under : UnderWriter). under.page_size) kept

    sound_still : IsSound w → IsSound v
    sound_still is = sound_from v (ap (λ (under : UnderWriter). under.is_sound) kept ∙ sound_to w is)

    writer_still : ShowTheSame old new → IsWriter old w → IsWriter new v
    writer_still same is = record {
      newest = subst (IsNewest new) (sym snapshot_same) (still_newest old new (snapshot_of w) same is.newest);
      sound = sound_still is.sound;
      page_size = page_size_same ∙ is.page_size ∙ ap (λ (k : LogState). k.page_size) (sym same.known);
    }

    map_now : Tells new → map_over (under_reader new (snapshot_of v) c d) v ≡ pages_in (view_of new v)
    map_now told = map_told new v c d told

    served_now : ShowTheSame old new → IsWriter old w → IsSizeWithinLimits (view_of new v).page_size (view_of new v).size
    served_now same is =
        subst (λ (p : ℕ). IsSizeWithinLimits p (pages_of v)) (page_size_same ∙ is.page_size ∙ ap (λ (k : LogState). k.page_size) (sym same.known))
        (few_pages (pages_of v) (page_size_of v) (sound_still is.sound).within)

    -- what the pages hold then is what the writer sees
    stored_now : (tables : Listed) (made : Database) → ShowTheSame old new → IsWriter old w → Stores (map_over (under_reader new (snapshot_of v) c d) v) (page_size_of w) tables made → ShowsDatabase (view_of new v) tables made
    stored_now tables made same is stored = record {
      stored = subst (λ (map : PageMap). Stores map (view_of new v).page_size tables made) (map_now same.told)
          (subst (λ (p : ℕ). Stores (map_over (under_reader new (snapshot_of v) c d) v) p tables made) (is.page_size ∙ ap (λ (k : LogState). k.page_size) (sym same.known)) stored);
      served = served_now same is;
    }

    -- what a change of the pages comes to
    pub changed : (s : Statement) (catalog next : SavedCatalogs) (db : Database) (r : Result ⊤ Fault) → CanChange (listing old catalog) w db
        → committed_in next ≡ committed_in catalog → savepoints_in next ≡ savepoints_in catalog
        → making.CarriesOut (λ done. current_in next) s (map_over (under_reader old (snapshot_of w) a b) w) (map_over (under_reader new (snapshot_of v) c d) v) (page_size_of w) (current_in catalog) r
        → OnErr r (current_in next ≡ current_in catalog)
        → ChangesPages s (listing old catalog) w db r (listing new next) v
    changed s catalog next db (Ok done) on keeps points makes refused =
        let same = shows_same on.told in
        let made = makes db (stored_over old catalog w db a b on) in
        record {
          kept = record { files = same; tables = keeps; savepoints = points };
          made = made.made;
          reaches = made.reaches;
          applies = record {
            told = same.told;
            settled = still_settled old new same on.settled;
            writer = writer_still same on.writer;
            stored = stored_now (current_in next) made.made same on.writer made.stored;
          };
        }
    changed s catalog next db (Err f) on keeps points makes refused =
        record { kept = record { files = shows_same on.told; tables = keeps; savepoints = points }; tables = refused; why = makes db (stored_over old catalog w db a b on) }

    -- the same of a call on the current catalog that answers another, or none where the tables stay
    pub changed_to : (s : Statement) (catalog : SavedCatalogs) (db : Database) (tables : Listed) (r : Result (Option Catalog) Fault) → CanChange (listing old catalog) w db → tables ≡ current_in catalog
        → making.CarriesOut (listed_then tables) s (map_over (under_reader old (snapshot_of w) a b) w) (map_over (under_reader new (snapshot_of v) c d) v) (page_size_of w) tables r
        → MakesCatalog s (listing old catalog) w db r new v
    changed_to s catalog db tables (Ok None) on same makes =
        changed s catalog catalog db (Ok tt) on refl refl
        (λ base held. subst (λ (ts : Listed). pages.IsMade s base (map_over (under_reader new (snapshot_of v) c d) v) (page_size_of w) ts) same
        (makes base (subst (λ (ts : Listed). Stores (map_over (under_reader old (snapshot_of w) a b) w) (page_size_of w) ts base) (sym same) held))) tt
    changed_to s catalog db tables (Ok (Some made)) on same makes = λ next now kept points.
        changed s catalog next db (Ok tt) on kept points
        (λ base held. subst (λ (ts : Listed). pages.IsMade s base (map_over (under_reader new (snapshot_of v) c d) v) (page_size_of w) ts) (sym now)
        (makes base (subst (λ (ts : Listed). Stores (map_over (under_reader old (snapshot_of w) a b) w) (page_size_of w) ts base) (sym same) held))) tt
    changed_to s catalog db tables (Err f) on same makes =
        changed s catalog catalog db (Err f) on refl refl
        (λ base held. makes base (subst (λ (ts : Listed). Stores (map_over (under_reader old (snapshot_of w) a b) w) (page_size_of w) ts base) (sym same) held)) refl

-- Why the files in the middle of a run must be real ones: without `grows`, invented files would make each run good.
use Rattle.std.proofs.Common.{◌≡◌, ◌⊎◌, inl, inr, ⊎_elim, ◌≤◌, ℕ, List, [], ◌∷◌, ◌++◌, length, refl, sym, ◌∙◌, ap, subst, arith}
use Rattle.std.proofs.lemmas.List.{append-nil}
use Rattle.disk.specs.File.{Version, File, whole, versions, moment, versions_in, Phase, OnDb, OnLog, Throughout, IsLeft}
use Rattle.disk.proofs.Left.{left_synced}
use Rattle.disk.proofs.More.{version_left}
use Rattle.disk.proofs.Moments.{versions_now, throughout_meets_db}

-- `Always` without `grows`
pub record HollowAlways (old new : File) (Good : List Version → Type 0) : Type 0 where
  pub syncs : (more : List (List Version)) × (new.past ≡ old.past ++ more)
  pub each : (t : ℕ) → moment old ≤ t → t ≤ moment new → Good (versions_in new t)

abbrev pub IsHollowRun : (List Version → List Version → Type 0) → List Phase → File → File → File → File → Type 0
IsHollowRun Good [] db log new_db new_log = Good (versions db) (versions log) × (new_db ≡ db) × (new_log ≡ log)
IsHollowRun Good (OnDb d ∷ phases) db log new_db new_log = HollowAlways db d (λ vs. Good vs (versions log)) × IsHollowRun Good phases d log new_db new_log
IsHollowRun Good (OnLog l ∷ phases) db log new_db new_log = HollowAlways log l (λ vs. Good (versions db) vs) × IsHollowRun Good phases db l new_db new_log

-- one time alone
hollow_now : (old new : File) (Good : List Version → Type 0) → new.past ≡ old.past → Good (versions new) → HollowAlways old new Good
hollow_now old new Good past here = record {
  syncs = ([], past ∙ sym (append-nil old.past));
  each = λ t since until. subst Good (sym (versions_now new t (omega (arith, since, until, ap length past)))) here;
}

-- where one content of the database file is good beside each log, and one of the log beside each database file
module _ (Good : List Version → List Version → Type 0) (dg lg : List ℕ) (good_db : (vs : List Version) → Good (whole dg ∷ []) vs) (good_log : (vs : List Version) → Good vs (whole lg ∷ [])) where
  pub hollow : (db log new_db new_log : File) → (more_db more_log : List (List Version)) → new_db.past ≡ db.past ++ more_db → new_log.past ≡ log.past ++ more_log → Good (versions new_db) (versions new_log)
      → (phases : List Phase) × IsHollowRun Good phases db log new_db new_log
  hollow db log new_db new_log more_db more_log later_db later_log at_end =
      let fd : File = record { content = []; first = dg; later = []; past = db.past } in
      let fl : File = record { content = []; first = lg; later = []; past = new_log.past } in (
        OnDb fd ∷ OnLog fl ∷ OnDb new_db ∷ OnLog new_log ∷ [],
        (
          hollow_now db fd (λ vs. Good vs (versions log)) refl (good_db (versions log)),
          (
            record { syncs = (more_log, later_log); each = λ t since until. good_db (versions_in fl t) },
            (
              record { syncs = (more_db, later_db); each = λ t since until. good_log (versions_in new_db t) },
              (
                hollow_now fl new_log (λ vs. Good (versions new_db) vs) refl at_end,
                (at_end, refl, refl),
              ),
            ),
          ),
        ),
      )

-- A run that overwrites the database file's 1 by a 2, syncs it, puts the 1 back and syncs again. A log of 7 would have made that harmless.
abbrev pub Fine : List Version → List Version → Type 0
Fine dv lv = (db log : List ℕ) → IsLeft dv db → IsLeft lv log → (db ≡ 1 ∷ []) ⊎ (log ≡ 7 ∷ [])

abbrev pub the_log : File
the_log = record { content = 5 ∷ []; first = 5 ∷ []; later = []; past = [] }

abbrev pub the_db : File
the_db = record { content = 1 ∷ []; first = 1 ∷ []; later = []; past = [] }

abbrev pub put_back : File
put_back = record { content = 1 ∷ []; first = 1 ∷ []; later = []; past = (whole (1 ∷ []) ∷ whole (2 ∷ []) ∷ []) ∷ (whole (2 ∷ []) ∷ whole (1 ∷ []) ∷ []) ∷ [] }

-- without `grows` it passes
pub passed : (phases : List Phase) × IsHollowRun Fine phases the_db the_log put_back the_log
passed = hollow Fine (1 ∷ []) (7 ∷ []) (λ vs db log left_db left_log. inl (left_synced _ db left_db)) (λ vs db log left_db left_log. inr (left_synced _ log left_log))
    the_db the_log put_back the_log put_back.past [] refl refl (λ db log left_db left_log. inl (left_synced _ db left_db))

-- and it is refused
pub refused : Throughout Fine the_db the_log put_back the_log → ⊥
refused run =
    let met = throughout_meets_db Fine the_db the_log put_back the_log run 0 (omega arith) (omega arith) in
    let begun = met.1.begun (omega (arith, met.1.until)) in
    let left : IsLeft met.0 (5 ∷ []) = subst (λ (vs : List Version). IsLeft vs (5 ∷ [])) (sym begun.1) (version_left (whole (5 ∷ []) ∷ begun.0) 0 (omega arith)) in
    ⊎_elim (λ (e : 2 ∷ [] ≡ 1 ∷ []). cc) (λ (e : 5 ∷ [] ≡ 7 ∷ []). cc)
    (met.2 (2 ∷ []) (5 ∷ []) (version_left (whole (1 ∷ []) ∷ whole (2 ∷ []) ∷ []) 1 (omega arith)) left)

-- What follows from the definitions of the moments of a run.
use Rattle.std.proofs.Common.{◌≡◌, inl, inr, ⊎_elim, ◌<◌, ◌≤◌, ◌+◌, ℕ, List, [], ◌∷◌, ◌++◌, length, refl, sym, ◌∙◌, ap, subst, arith, length-append}
use Rattle.std.specs.Prelude.{slice_index_or, Result, Ok, Err, OnOk, OnErr}
use Rattle.std.proofs.lemmas.List.{get_or_append_left, get_or_at, append-nil, append_assoc}
use Rattle.std.proofs.lemmas.Bool.{cases_lt}
use Rattle.disk.specs.File.{Version, File, whole, versions, moment, versions_in, Elapses, Always, Phase, OnDb, OnLog, IsRun, Throughout, IsMoment, IsSynced, IsLeft}
use Rattle.disk.specs.Calls.{Gains, Syncs, Rose}
use Rattle.disk.proofs.Left.{left_grows}

-- the present versions
pub versions_now : (file : File) (t : ℕ) → t ≡ moment file → versions_in file t ≡ versions file
versions_now file t is = get_or_at file.past (versions file) [] [] t (sym is)

-- those of a time that is over
versions_before : (file : File) (t : ℕ) → t < moment file → versions_in file t ≡ slice_index_or file.past t []
versions_before file t lt = get_or_append_left file.past (versions file ∷ []) [] t lt

pub alone : (file : File) → IsSynced file → versions file ≡ whole file.content ∷ []
alone file synced = ap (λ (l : List Version). whole file.first ∷ l) synced.alone ∙ ap (λ (b : List ℕ). whole b ∷ []) synced.same

pub gains_versions : (v : Version) (old new : File) → Gains v old new → versions new ≡ versions old ++ v ∷ []
gains_versions v old new gains = ap (λ (l : List Version). whole new.first ∷ l) gains.later ∙ ap (λ (b : List ℕ). whole b ∷ (old.later ++ v ∷ [])) gains.first

pub syncs_versions : (old new : File) → Syncs old new → versions new ≡ whole old.content ∷ []
syncs_versions old new syncs = ap (λ (l : List Version). whole new.first ∷ l) syncs.later ∙ ap (λ (b : List ℕ). whole b ∷ []) syncs.first

pub syncs_synced : (old new : File) → Syncs old new → IsSynced new
syncs_synced old new syncs = record { alone = syncs.later; same = syncs.first ∙ sym syncs.content }

-- time goes on: not at all, by one call, by one part and another

pub elapses_unsynced : (old new : File) (more : List Version) → new.past ≡ old.past → versions new ≡ versions old ++ more → Elapses old new
elapses_unsynced old new more past grows = record {
  syncs = ([], past ∙ sym (append-nil old.past));
  grows = (more, versions_now new (moment old) (ap length (sym past)) ∙ grows);
}

pub elapses_same : (old new : File) → new ≡ old → Elapses old new
elapses_same old new same = elapses_unsynced old new [] (ap (λ (f : File). f.past) same) (ap versions same ∙ sym (append-nil (versions old)))

pub elapses_refl : (file : File) → Elapses file file
elapses_refl file = elapses_same file file refl

pub elapses_gains : (v : Version) (old new : File) → Gains v old new → Elapses old new
elapses_gains v old new gains = elapses_unsynced old new (v ∷ []) gains.past (gains_versions v old new gains)

pub elapses_syncs : (old new : File) → Syncs old new → Elapses old new
elapses_syncs old new syncs = record {
  syncs = (versions old ∷ [], syncs.past);
  grows = (
    [],
    versions_before new (moment old) (omega (arith, ap length syncs.past, length-append old.past (versions old ∷ [])))
        ∙ ap (λ (l : List (List Version)). slice_index_or l (moment old) []) syncs.past ∙ get_or_at old.past (versions old) [] [] (moment old) refl ∙ sym (append-nil (versions old)),
  );
}

pub later_moment : (old new : File) → Elapses old new → moment old ≤ moment new
later_moment old new e = omega (arith, ap length e.syncs.1, length-append old.past e.syncs.0)

-- the times that were over are as they were
pub same_before : (old new : File) → Elapses old new → (t : ℕ) → t < moment old → versions_in new t ≡ versions_in old t
same_before old new e t lt =
    versions_before new t (omega (arith, lt, later_moment old new e))
    ∙ ap (λ (l : List (List Version)). slice_index_or l t []) e.syncs.1
    ∙ get_or_append_left old.past e.syncs.0 [] t lt
    ∙ sym (versions_before old t lt)

pub elapses_both : (old mid new : File) → Elapses old mid → Elapses mid new → Elapses old new
elapses_both old mid new one two = record {
  syncs = (one.syncs.0 ++ two.syncs.0, two.syncs.1 ∙ ap (λ (l : List (List Version)). l ++ two.syncs.0) one.syncs.1 ∙ append_assoc old.past one.syncs.0 two.syncs.0);
  grows =
      elim (cases_lt (moment old) (moment mid)) [
        | inl before ↦ (one.grows.0, same_before mid new two (moment old) before ∙ one.grows.1)
        | inr past ↦ (one.grows.0 ++ two.grows.0, at_mid (omega (arith, past, later_moment old mid one)))
      ];
}
  where
    at_mid : moment old ≡ moment mid → versions_in new (moment old) ≡ versions old ++ (one.grows.0 ++ two.grows.0)
    at_mid is =
        ap (versions_in new) is ∙ two.grows.1
        ∙ ap (λ (l : List Version). l ++ two.grows.0) (sym (versions_now mid (moment old) is) ∙ one.grows.1)
        ∙ append_assoc (versions old) one.grows.0 two.grows.0

-- while no sync succeeds
pub always_unsynced : (old new : File) (Good : List Version → Type 0) → Elapses old new → new.past ≡ old.past → Good (versions new) → Always old new Good
always_unsynced old new Good elapses past here = record {
  elapses = elapses;
  each = λ t since until. subst Good (sym (versions_now new t (omega (arith, since, until, ap length past)))) here;
}

-- up to a sync
pub always_synced : (old mid new : File) (Good : List Version → Type 0) → Elapses old mid → mid.past ≡ old.past → Syncs mid new → Good (versions mid) → Good (whole mid.content ∷ []) → Always old new Good
always_synced old mid new Good elapses past syncs here at_end = record {
  elapses = elapses_both old mid new elapses (elapses_syncs mid new syncs);
  each = λ t since until.
      elim (cases_lt t (moment new)) [
        | inl before ↦ subst Good (sym (time_before t before (omega (arith, since, before, size, ap length past)))) here
        | inr now ↦ subst Good (sym (versions_now new t (omega (arith, now, until)) ∙ syncs_versions mid new syncs)) at_end
      ];
}
  where
    size : moment new ≡ moment mid + 1
    size = omega (arith, ap length syncs.past, length-append mid.past (versions mid ∷ []))

    time_before : (t : ℕ) → t < moment new → t ≡ moment mid → versions_in new t ≡ versions mid
    time_before t lt is = versions_before new t lt ∙ ap (λ (l : List (List Version)). slice_index_or l t []) syncs.past ∙ get_or_at mid.past (versions mid) [] [] t (sym is)

-- one part and then another
pub always_both : (old mid new : File) (Good : List Version → Type 0) → Always old mid Good → Always mid new Good → Always old new Good
always_both old mid new Good first second = record {
  elapses = elapses_both old mid new first.elapses second.elapses;
  each = λ t since until.
      elim (cases_lt t (moment mid)) [
        | inl before ↦ subst Good (sym (same_before mid new second.elapses t before)) (first.each t since (omega (arith, before)))
        | inr now ↦ second.each t now until
      ];
}

pub always_weaker : (old new : File) (Good Better : List Version → Type 0) → ((vs : List Version) → Better vs → Good vs) → Always old new Better → Always old new Good
always_weaker old new Good Better f all = record { elapses = all.elapses; each = λ t since until. f _ (all.each t since until) }

-- a file that stays as it is
pub stays : (Good : List Version → Type 0) (old new : File) → new ≡ old → Good (versions old) → Always old new Good
stays Good old new same good = always_unsynced old new Good (elapses_same old new same) (ap (λ (f : File). f.past) same) (subst (λ (f : File). Good (versions f)) (sym same) good)

-- a version that was added
pub gains_good : (Good : List Version → Type 0) (v : Version) (old new : File) → Gains v old new → Good (versions old ++ v ∷ []) → Always old new Good
gains_good Good v old new gains good = always_unsynced old new Good (elapses_gains v old new gains) gains.past (subst Good (sym (gains_versions v old new gains)) good)

-- then a sync, done or failed
pub after_sync : {T E : Type 0} (result : Result T E) (Good : List Version → Type 0) (v : Version) (old mid new : File) → Gains v old mid → OnOk result (Syncs mid new) → OnErr result (new ≡ mid) → Good (versions old ++ v ∷ []) → Good (whole mid.content ∷ []) → Always old new Good
after_sync (Ok x) Good v old mid new gains done failed good at_end = always_synced old mid new Good (elapses_gains v old mid gains) gains.past done (subst Good (sym (gains_versions v old mid gains)) good) at_end
after_sync (Err e) Good v old mid new gains done failed good at_end = subst (λ (f : File). Always old f Good) (sym failed) (gains_good Good v old mid gains good)

-- at the end
pub always_end : (old new : File) (Good : List Version → Type 0) → Always old new Good → Good (versions new)
always_end old new Good all = subst Good (versions_now new (moment new) refl) (all.each (moment new) (later_moment old new all.elapses) (omega arith))

-- runs over two files, one after the other
pub run_both : (Good : List Version → List Version → Type 0) (first second : List Phase) (db log mid_db mid_log new_db new_log : File) → IsRun Good first db log mid_db mid_log → IsRun Good second mid_db mid_log new_db new_log → IsRun Good (first ++ second) db log new_db new_log
run_both Good [] second db log mid_db mid_log new_db new_log one two =
    subst (λ (d : File). IsRun Good second d log new_db new_log) one.1 (subst (λ (l : File). IsRun Good second mid_db l new_db new_log) one.2 two)
run_both Good (OnDb d ∷ first) second db log mid_db mid_log new_db new_log one two = (one.0, run_both Good first second d log mid_db mid_log new_db new_log one.1 two)
run_both Good (OnLog l ∷ first) second db log mid_db mid_log new_db new_log one two = (one.0, run_both Good first second db l mid_db mid_log new_db new_log one.1 two)

-- a run is good in each weaker sense
pub run_weaker : (Good Better : List Version → List Version → Type 0) → ((d l : List Version) → Better d l → Good d l) → (phases : List Phase) (db log new_db new_log : File) → IsRun Better phases db log new_db new_log → IsRun Good phases db log new_db new_log
run_weaker Good Better f [] db log new_db new_log run = (f (versions db) (versions log) run.0, run.1, run.2)
run_weaker Good Better f (OnDb d ∷ phases) db log new_db new_log run = (always_weaker db d (λ vs. Good vs (versions log)) (λ vs. Better vs (versions log)) (λ vs. f vs (versions log)) run.0, run_weaker Good Better f phases d log new_db new_log run.1)
run_weaker Good Better f (OnLog l ∷ phases) db log new_db new_log run = (always_weaker log l (λ vs. Good (versions db) vs) (λ vs. Better (versions db) vs) (λ vs. f (versions db) vs) run.0, run_weaker Good Better f phases db l new_db new_log run.1)

-- two runs, the second of them good in a stronger sense
pub throughout_both : (Good Better : List Version → List Version → Type 0) → ((d l : List Version) → Better d l → Good d l) → (db log mid_db mid_log new_db new_log : File) → Throughout Good db log mid_db mid_log → Throughout Better mid_db mid_log new_db new_log → Throughout Good db log new_db new_log
throughout_both Good Better f db log mid_db mid_log new_db new_log one two =
    (one.0 ++ two.0, run_both Good one.0 two.0 db log mid_db mid_log new_db new_log one.1 (run_weaker Good Better f two.0 mid_db mid_log new_db new_log two.1))

-- time goes on in both files
pub run_elapses_db : (Good : List Version → List Version → Type 0) (phases : List Phase) (db log new_db new_log : File) → IsRun Good phases db log new_db new_log → Elapses db new_db
run_elapses_db Good [] db log new_db new_log run = elapses_same db new_db run.1
run_elapses_db Good (OnDb d ∷ phases) db log new_db new_log run = elapses_both db d new_db run.0.elapses (run_elapses_db Good phases d log new_db new_log run.1)
run_elapses_db Good (OnLog l ∷ phases) db log new_db new_log run = run_elapses_db Good phases db l new_db new_log run.1

pub run_elapses_log : (Good : List Version → List Version → Type 0) (phases : List Phase) (db log new_db new_log : File) → IsRun Good phases db log new_db new_log → Elapses log new_log
run_elapses_log Good [] db log new_db new_log run = elapses_same log new_log run.2
run_elapses_log Good (OnDb d ∷ phases) db log new_db new_log run = run_elapses_log Good phases d log new_db new_log run.1
run_elapses_log Good (OnLog l ∷ phases) db log new_db new_log run = elapses_both log l new_log run.0.elapses (run_elapses_log Good phases db l new_db new_log run.1)

-- the versions of a file from which time goes on are those of a moment
pub moment_first : (old new : File) → Elapses old new → IsMoment old new (versions old)
moment_first old new e = record {
  time = moment old;
  since = omega arith;
  until = later_moment old new e;
  some = omega arith;
  front = e.grows;
  begun = λ is. ([], sym (append-nil (versions old)));
}

-- and so is each moment of what follows
pub moment_later : (old mid new : File) (vs : List Version) → Elapses old mid → IsMoment mid new vs → IsMoment old new vs
moment_later old mid new vs e is = record {
  time = is.time;
  since = omega (arith, is.since, later_moment old mid e);
  until = is.until;
  some = is.some;
  front = is.front;
  begun = λ at_old.
      let same : moment old ≡ moment mid = omega (arith, at_old, is.since, later_moment old mid e) in
      let gained = is.begun (at_old ∙ same) in
      (e.grows.0 ++ gained.0, gained.1 ∙ ap (λ (l : List Version). l ++ gained.0) (sym (versions_now mid (moment old) same) ∙ e.grows.1) ∙ append_assoc (versions old) e.grows.0 gained.0);
}

-- For each time of the log between the two there is a moment of the database file at which the two together are good.
run_meets_log : (Good : List Version → List Version → Type 0) (phases : List Phase) (db log new_db new_log : File) → IsRun Good phases db log new_db new_log → (t : ℕ) → moment log ≤ t → t ≤ moment new_log → (vs : List Version) × IsMoment db new_db vs × Good vs (versions_in new_log t)
run_meets_log Good [] db log new_db new_log run t since until = (
  versions db,
  moment_first db new_db (elapses_same db new_db run.1),
  subst (Good (versions db)) (sym (versions_now new_log t (omega (arith, since, until, ap moment run.2)) ∙ ap versions run.2)) run.0,
)
run_meets_log Good (OnDb d ∷ phases) db log new_db new_log run t since until =
    let met = run_meets_log Good phases d log new_db new_log run.1 t since until in
    (met.0, moment_later db d new_db met.0 run.0.elapses met.1, met.2)
run_meets_log Good (OnLog l ∷ phases) db log new_db new_log run t since until =
    elim (cases_lt t (moment l)) [
      | inl before ↦ (
        versions db,
        moment_first db new_db (run_elapses_db Good phases db l new_db new_log run.1),
        subst (Good (versions db)) (sym (same_before l new_log (run_elapses_log Good phases db l new_db new_log run.1) t before)) (run.0.each t since (omega (arith, before))),
      )
      | inr now ↦ run_meets_log Good phases db l new_db new_log run.1 t now until
    ]

pub throughout_meets_log : (Good : List Version → List Version → Type 0) (db log new_db new_log : File) → Throughout Good db log new_db new_log → (t : ℕ) → moment log ≤ t → t ≤ moment new_log → (vs : List Version) × IsMoment db new_db vs × Good vs (versions_in new_log t)
throughout_meets_log Good db log new_db new_log run = run_meets_log Good run.0 db log new_db new_log run.1

-- For each time of the database file between the two there is a moment of the log at which the two together are good.
run_meets_db : (Good : List Version → List Version → Type 0) (phases : List Phase) (db log new_db new_log : File) → IsRun Good phases db log new_db new_log → (t : ℕ) → moment db ≤ t → t ≤ moment new_db → (vs : List Version) × IsMoment log new_log vs × Good (versions_in new_db t) vs
run_meets_db Good [] db log new_db new_log run t since until = (
  versions log,
  moment_first log new_log (elapses_same log new_log run.2),
  subst (λ (vs : List Version). Good vs (versions log)) (sym (versions_now new_db t (omega (arith, since, until, ap moment run.1)) ∙ ap versions run.1)) run.0,
)
run_meets_db Good (OnLog l ∷ phases) db log new_db new_log run t since until =
    let met = run_meets_db Good phases db l new_db new_log run.1 t since until in
    (met.0, moment_later log l new_log met.0 run.0.elapses met.1, met.2)
run_meets_db Good (OnDb d ∷ phases) db log new_db new_log run t since until =
    elim (cases_lt t (moment d)) [
      | inl before ↦ (
        versions log,
        moment_first log new_log (run_elapses_log Good phases d log new_db new_log run.1),
        subst (λ (vs : List Version). Good vs (versions log)) (sym (same_before d new_db (run_elapses_db Good phases d log new_db new_log run.1) t before)) (run.0.each t since (omega (arith, before))),
      )
      | inr now ↦ run_meets_db Good phases d log new_db new_log run.1 t now until
    ]

pub throughout_meets_db : (Good : List Version → List Version → Type 0) (db log new_db new_log : File) → Throughout Good db log new_db new_log → (t : ℕ) → moment db ≤ t → t ≤ moment new_db → (vs : List Version) × IsMoment log new_log vs × Good (versions_in new_db t) vs
throughout_meets_db Good db log new_db new_log run = run_meets_db Good run.0 db log new_db new_log run.1

-- So for each moment of one of the files, where fewer versions of it are good where more are.
pub meets_log_moment : (Good : List Version → List Version → Type 0) → ((d l more : List Version) → Good d (l ++ more) → Good d l) → (db log new_db new_log : File) → Throughout Good db log new_db new_log
    → (lv : List Version) → IsMoment log new_log lv → (dv : List Version) × IsMoment db new_db dv × Good dv lv
meets_log_moment Good earlier db log new_db new_log run lv is =
    let met = throughout_meets_log Good db log new_db new_log run is.time is.since is.until in
    (met.0, met.1, earlier met.0 lv is.front.0 (subst (Good met.0) is.front.1 met.2))

pub meets_db_moment : (Good : List Version → List Version → Type 0) → ((d l more : List Version) → Good (d ++ more) l → Good d l) → (db log new_db new_log : File) → Throughout Good db log new_db new_log
    → (dv : List Version) → IsMoment db new_db dv → (lv : List Version) × IsMoment log new_log lv × Good dv lv
meets_db_moment Good earlier db log new_db new_log run dv is =
    let met = throughout_meets_db Good db log new_db new_log run is.time is.since is.until in
    (met.0, met.1, earlier dv met.0 is.front.0 (subst (λ (vs : List Version). Good vs met.0) is.front.1 met.2))

-- what a crash may have left only grows
pub left_more : (vs more : List Version) (c : List ℕ) → IsLeft vs c → IsLeft (vs ++ more) c
left_more vs [] c left = subst (λ (l : List Version). IsLeft l c) (sym (append-nil vs)) left
left_more vs (v ∷ more) c left = subst (λ (l : List Version). IsLeft l c) (append_assoc vs (v ∷ []) more) (left_more (vs ++ v ∷ []) more c (left_grows vs v c left))

pub rose_after : (old mid new : ℕ) → old ≤ mid → Rose mid new → Rose old new
rose_after old mid new le rose = ⊎_elim (λ up. inl (omega (arith, up, le))) (λ top. elim (cases_lt old new) [
  | inl up ↦ inl up
  | inr none ↦ inr (omega (arith, top.0, top.1, le, none), omega (arith, top.1, le))
]) rose

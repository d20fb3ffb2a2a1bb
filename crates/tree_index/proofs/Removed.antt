-- A tree under a root that lost an entry.
use Rattle.std.proofs.Common.{◌≡◌, ◌==◌, ◌<◌, ◌≤◌, ◌+◌, ℕ, zero, suc, Bool, true, false, List, [], ◌∷◌, length, take, refl, sym, ap, subst, ◌∙◌, inl, inr, arith}
use Rattle.std.proofs.lemmas.Bool.{cases_eq}
use Rattle.std.proofs.lemmas.Grind.{common_steps}
use Rattle.std.specs.Prelude.{⊤, Option, None, Some, is_some, Result, Ok, Err, IsErrAnd, MatchResult}
use Rattle.sqlval.specs.declared.collation.Collation.{Collation}
use Rattle.sqlval.specs.declared.fault.Fault.{Fault}
use Rattle.pages.specs.Calls.{IsOutsideOrFull}
use Rattle.pages.specs.Map.{PageMap}
use Rattle.tree_pack.specs.declared.spreading.Packed.{Packed}
use Rattle.tree_index.specs.Calls.{Stands, BecomesEntries, IsFirstMissing, IsRemoved, IsRunRemoved, RemovesEntry, RemovesRun}
use Rattle.tree_index.specs.Entries.{Entry, AreEntries, AreLong, GoInTurn, has_entry, without_entries, without_entry}
use Rattle.tree_index.specs.Flattening.{StoresTop}
use Rattle.tree_index.specs.Growing.{IsDeep, IsUnder}
use Rattle.tree_index.specs.Removing.{FindsDepth, IsFirstRemoved, IsLessened, Lessens, RemovesFirst}
use Rattle.tree_index.specs.Tree.{entries_of}
use Rattle.tree_index.specs.declared.removing.Loss.{Loss}
use Rattle.tree_index.specs.declared.removing.Loss.TheVariants.{Still, Done, Spread}
use Rattle.tree_index.proofs.Going.{still_rise}
use Rattle.tree_index.proofs.Readings.{full_err}
use Rattle.tree_index.proofs.Rooting.{root_stands, put_becomes}
use Rattle.tree_index.proofs.Without.{others_rise}

pub same_19 : (n : ℕ) → (n == 19) ≡ true → n ≡ 19
same_19 n e = grind (arith, common_steps)

pub other_19 : (n : ℕ) → (n == 19) ≡ false → n ≡ 19 → ⊥
other_19 n e same = grind (arith, common_steps)

module _ (old : PageMap) (size root : ℕ) (columns : List Collation) (entries : List Entry) (used free : List ℕ) (is : Stands old size root columns entries used free) where
  pub depth_unread : (fault : Fault) → FindsDepth old size root 19 (Err fault) → IsOutsideOrFull fault
  depth_unread fault finds = inl (finds is.tree.depth is.tree.tree (is.free_are).whole is.tree.root_is is.tree.lies (let lt = is.tree.shallow in omega (arith, lt)))

  pub depth_read : (depth : ℕ) → FindsDepth old size root 19 (Ok depth) → depth ≡ is.tree.depth
  depth_read depth finds = finds is.tree.depth is.tree.tree (is.free_are).whole is.tree.root_is is.tree.lies (let lt = is.tree.shallow in omega (arith, lt))

  module _ (x : Entry) (rest : List Entry) (long : AreLong columns (x ∷ rest)) (depth : ℕ) (depth_is : depth ≡ is.tree.depth) where
    under : IsUnder old size root is.tree.depth columns is.tree.depth is.tree.tree free
    under = record {
      stands = (let s = root_stands old size root columns entries used free is in record {
        top_is = s.top_is;
        lies = s.lies;
        shallow = omega arith;
        apart = s.apart;
        first = s.first;
        free_are = s.free_are;
      });
      sorted = subst (λ (es : List Entry). AreEntries columns es) (sym is.tree.entries_are) is.tree.sorted;
      sized = is.sized;
    }

    abbrev es : List Entry
    es = entries_of is.tree.depth is.tree.tree

    lessened : (mid : PageMap) (loss : Loss) → Lessens old mid size root depth columns x rest (Ok loss) → IsLessened old mid size root columns x rest is.tree.depth is.tree.tree free loss
    lessened mid loss lessens = subst (λ (d : ℕ). Lessens old mid size root d columns x rest (Ok loss)) depth_is lessens is.tree.tree free under long

    pub removal_refused : (mid : PageMap) (fault : Fault) → Lessens old mid size root depth columns x rest (Err fault) → IsOutsideOrFull fault
    removal_refused mid fault lessens = subst (λ (d : ℕ). Lessens old mid size root d columns x rest (Err fault)) depth_is lessens is.tree.tree free under long

    there : {b : Bool} → has_entry columns x es ≡ b → has_entry columns x entries ≡ b
    there e = sym (ap (has_entry columns x) is.tree.entries_are) ∙ e

    pub removed_still : (mid : PageMap) → Lessens old mid size root depth columns x rest (Ok Still) → IsFirstRemoved old mid size root columns x rest entries used free None
    removed_still mid lessens = (let l = lessened mid Still lessens in (there l.0, l.1))

    with_all : (new : PageMap) (more : ℕ) → more ≤ length rest → GoInTurn columns (x ∷ take more rest) es → BecomesEntries old new size root columns (without_entries columns (x ∷ take more rest) es) used free
        → IsFirstRemoved old new size root columns x rest entries used free (Some more)
    with_all new more le go is_now = (
      le,
      subst (λ (l : List Entry). GoInTurn columns (x ∷ take more rest) l) is.tree.entries_are go,
      subst (λ (l : List Entry). BecomesEntries old new size root columns (without_entries columns (x ∷ take more rest) l) used free) is.tree.entries_are is_now,
    )

    pub removed_done : (mid : PageMap) (more : ℕ) → Lessens old mid size root depth columns x rest (Ok (Done more)) → IsFirstRemoved old mid size root columns x rest entries used free (Some more)
    removed_done mid more lessens =
        let l = lessened mid (Done more) lessens in
        let gone = x ∷ take more rest in
        with_all mid more l.1.0 (l.0, l.1.1)
        (put_becomes old size root columns entries used free is mid is.tree.depth (without_entries columns gone es) is.tree.shallow (still_rise columns gone es under.sorted) l.1.2)

    module _ (mid : PageMap) (packed : Packed) (lessens : Lessens old mid size root depth columns x rest (Ok (Spread packed))) where
      spread : IsLessened old mid size root columns x rest is.tree.depth is.tree.tree free (Spread packed)
      spread = lessened mid (Spread packed) lessens

      -- whether a way has 20 pages
      is_deep : (deep : Bool) → (deep ≡ true → depth ≡ 19) → (deep ≡ false → depth ≡ 19 → ⊥) → IsDeep 19 is.tree.depth deep
      is_deep deep full short = record {
        full = λ e. (let same = full e in omega (arith, same, depth_is));
        short = λ e. (let few = is.tree.shallow in let other = short e in not_last few other);
      }
        where
          not_last : is.tree.depth < 20 → (depth ≡ 19 → ⊥) → is.tree.depth < 19
          not_last few other = elim (cases_eq depth 19) [
            | inl same ↦ absurd (other same)
            | inr less ↦ omega (arith, few, less, depth_is)
          ]

      pub removed_spread : (new : PageMap) (deep : Bool) (result : Result ⊤ Fault) → (deep ≡ true → depth ≡ 19) → (deep ≡ false → depth ≡ 19 → ⊥) → StoresTop mid new size root packed deep result
          → MatchResult result (λ done. IsFirstRemoved old new size root columns x rest entries used free (Some 0)) IsOutsideOrFull
      removed_spread new deep result full short settles =
          by result (settles old columns entries (without_entry columns x es) used free is (others_rise columns x es under.sorted) (is_deep deep full short) spread.1)
        where
          by : (result : Result ⊤ Fault) → MatchResult result (λ done. BecomesEntries old new size root columns (without_entry columns x es) used free) IsOutsideOrFull
              → MatchResult result (λ done. IsFirstRemoved old new size root columns x rest entries used free (Some 0)) IsOutsideOrFull
          by (Ok done) now = with_all new 0 (omega arith) (spread.0, tt) now
          by (Err fault) refused = refused

-- ---- one entry, and some

none_taken : (more : ℕ) → ◌≡◌ {A = List Entry} (take more []) []
none_taken zero = refl
none_taken (suc more) = refl

pub none_first : (columns : List Collation) (given entries : List Entry) → length given ≡ 0 → IsFirstMissing columns given entries
none_first columns [] entries none = tt
none_first columns (x ∷ given) entries none = absurd (omega (arith, none))

module _ (old new : PageMap) (size root : ℕ) (columns : List Collation) where
  -- where no more are given, one entry is removed
  pub one_removed : (x : Entry) (removed : Option ℕ) (gone : Bool) → gone ≡ is_some removed → RemovesFirst old new size root columns x [] (Ok removed) → RemovesEntry old new size root columns x (Ok gone)
  one_removed x None gone same removes entries used free is long =
      (let it = removes entries used free is (long, tt) in subst (λ (b : Bool). IsRemoved old new size root columns x entries used free b) (sym same) (it.0, it.1))
  one_removed x (Some more) gone same removes entries used free is long =
      let it = removes entries used free is (long, tt) in
      let becomes = subst (λ (l : List Entry). BecomesEntries old new size root columns (without_entries columns (x ∷ l) entries) used free) (none_taken more) it.2 in
      subst (λ (b : Bool). IsRemoved old new size root columns x entries used free b) (sym same) (it.1.0, becomes)

  pub one_refused : (x : Entry) (fault : Fault) → RemovesFirst old new size root columns x [] (Err fault) → (result : Result Bool Fault) → IsErrAnd result (λ e. e ≡ fault) → RemovesEntry old new size root columns x result
  one_refused x fault removes result is_err entries used free is long =
      full_err (IsRemoved old new size root columns x entries used free) result fault is_err (removes entries used free is (long, tt))

  -- of a list its first ones are
  pub run_counted : (x : Entry) (rest given : List Entry) → given ≡ x ∷ rest → (more : ℕ) → RemovesFirst old new size root columns x rest (Ok (Some more)) → (count : ℕ) → (more < length given → count ≡ more + 1)
      → RemovesRun old new size root columns given (Ok count)
  run_counted x rest given whole more removes count counts entries used free is long =
      let it = removes entries used free is (subst (λ (l : List Entry). AreLong columns l) whole long) in
      let le = it.0 in
      let len = ap length whole in
      let same : count ≡ suc more = (let e = counts (omega (arith, le, len)) in omega (arith, e)) in
      subst (λ (n : ℕ). IsRunRemoved old new size root columns given entries used free n) (sym same)
      (subst (λ (l : List Entry). IsRunRemoved old new size root columns l entries used free (suc more)) (sym whole) (omega (arith, le), it.1, it.2))

  pub first_missing : (x : Entry) (rest : List Entry) → RemovesFirst old new size root columns x rest (Ok None) → RemovesRun old new size root columns (x ∷ rest) (Ok 0)
  first_missing x rest removes entries used free is long = (let it = removes entries used free is long in (it.0, it.1))

  pub run_unremoved : (x : Entry) (rest : List Entry) (fault : Fault) → RemovesFirst old new size root columns x rest (Err fault) → (result : Result ℕ Fault) → IsErrAnd result (λ e. e ≡ fault)
      → RemovesRun old new size root columns (x ∷ rest) result
  run_unremoved x rest fault removes result is_err entries used free is long =
      full_err (IsRunRemoved old new size root columns (x ∷ rest) entries used free) result fault is_err (removes entries used free is long)

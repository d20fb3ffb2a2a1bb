-- Programs that are looked at one after another, as they are found to be needed.
use Rattle.std.proofs.Common.{◌≡◌, ◌⊎◌, inl, inr, sym, ap, subst, ◌∙◌, ℕ, ℤ, ◌<◌, Bool, true, List, [], ◌∷◌, ◌++◌, length, Some, Ok, Err, arith}
use Rattle.std.proofs.lemmas.List.{length-append}
use Rattle.std.proofs.lemmas.List.Elements.{Contains-append_cases, Contains-append_left, Contains-append_right}
use Rattle.std.specs.List.{Contains}
use Rattle.std.specs.Prelude.{slice_get}
use Rattle.sqlval.specs.Refusals.{Refusal, refusal_of}
use Rattle.sqlval.specs.declared.fault.Fault.{Fault}
use Rattle.sqlval.specs.declared.fault.Fault.TheVariants.{Memory}
use Rattle.query_names.specs.Bound.{IsFaultOf}
use Rattle.sqlval.specs.declared.value.Value.{Value}
use Rattle.sql_syntax.specs.declared.change.Change.{Change}
use Rattle.sql_syntax.specs.declared.create.TriggerDefinition.{TriggerDefinition}
use Rattle.catalog.specs.Database.{Database}
use Rattle.catalog.specs.Listed.{Listed}
use Rattle.catalog.specs.Named.{IsOfListed}
use Rattle.catalog.specs.declared.tables.Trigger.{Trigger}
use Rattle.row_change.specs.Changes.{no_outer}
use Rattle.trigger.specs.Binding.{IsFault, faults_after}
use Rattle.trigger_bind.specs.Choosing.{is_set_off_by, sets_off_within}
use Rattle.trigger_bind.specs.Needs.{IsNeeded, IsPlaceOf, NotesThose, cost, unneeded}
use Rattle.trigger_bind.specs.Programs.{KnowsItself, faults_within}
use Rattle.trigger_bind.specs.declared.needs.Needs.{Needs}
use Rattle.trigger_bind.proofs.Among.{at_place, in_either, in_here, in_none, is_within, one_there, place_of, there_is}
use Rattle.trigger_bind.proofs.Chains.{IsClosed, Leads, leads_first, leads_next, no_fault}

-- the names of a program themselves are known, and what it sets off is needed
pub record IsKnown (l : Listed) (db : Database) (needed : List Bool) (d : TriggerDefinition) : Type 0 where
  pub own : faults_within 0 db d ≡ []
  pub needs : (i : ℕ) → IsPlaceOf l.triggers (sets_off_within d.body) i → IsNeeded needed i

-- while programs are still to be looked at
pub record IsUnderWay (l : Listed) (c : Change) (needs : Needs) : Type 0 where
  pub flags : length needs.needed.items ≡ length l.triggers
  pub queued : (i : ℕ) → Contains needs.queue.items i → IsNeeded needs.needed.items i
  pub set_off : (i : ℕ) → IsPlaceOf l.triggers (is_set_off_by c) i → IsNeeded needs.needed.items i
  pub own : (rows_at : ℕ → List (ℤ × List Value)) (db : Database) → IsOfListed rows_at l db → faults_after 0 db no_outer c ≡ []
  pub leads : (rows_at : ℕ → List (ℤ × List Value)) (db : Database) (of : IsOfListed rows_at l db) (i : ℕ) (t : Trigger) → slice_get l.triggers i ≡ Some t → IsNeeded needs.needed.items i → Leads rows_at l db of c t.definition
  pub looked : (rows_at : ℕ → List (ℤ × List Value)) (db : Database) → IsOfListed rows_at l db → (i : ℕ) (t : Trigger) → slice_get l.triggers i ≡ Some t → IsNeeded needs.needed.items i
      → Contains needs.queue.items i ⊎ IsKnown l db needs.needed.items t.definition

module _ (l : Listed) (c : Change) where
  pub begins : (none needs : Needs) → length none.needed.items ≡ length l.triggers → ((i : ℕ) → IsNeeded none.needed.items i → ⊥) → none.queue.items ≡ [] → NotesThose l.triggers (is_set_off_by c) none needs
      → ((rows_at : ℕ → List (ℤ × List Value)) (db : Database) → IsOfListed rows_at l db → faults_after 0 db no_outer c ≡ []) → IsUnderWay l c needs
  begins none needs flags nothing empty notes own = record {
    flags = notes.same ∙ flags;
    queued = λ i at. queued i (notes.fresh i at);
    set_off = notes.all;
    own = own;
    leads = λ rows_at db of i t at needed.
        (let (u, u_at, so) = (noted i (notes.noted i needed)).1 in
        leads_first rows_at l db of c t (own rows_at db of) (at_place l.triggers i t at) (subst (λ w. is_set_off_by c w ≡ true) (one_there l.triggers i u t u_at at) so));
    looked = λ rows_at db of i t at needed. inl (noted i (notes.noted i needed)).0;
  }
    where
      queued : (i : ℕ) → Contains none.queue.items i ⊎ IsNeeded needs.needed.items i → IsNeeded needs.needed.items i
      queued i (inl before) = absurd (in_none i (subst (λ ns. Contains ns i) empty before))
      queued i (inr is) = is

      noted : (i : ℕ) → IsNeeded none.needed.items i ⊎ (Contains needs.queue.items i × IsPlaceOf l.triggers (is_set_off_by c) i) → Contains needs.queue.items i × IsPlaceOf l.triggers (is_set_off_by c) i
      noted i (inl before) = absurd (nothing i before)
      noted i (inr is) = is

  module _ (old mid new : Needs) (place : ℕ) (way : IsUnderWay l c old) (same : mid.needed ≡ old.needed) (queue : old.queue.items ≡ mid.queue.items ++ place ∷ []) where
    was : IsNeeded old.needed.items place
    was = way.queued place (subst (λ ns. Contains ns place) (sym queue) (Contains-append_right mid.queue.items (place ∷ []) place (in_here place [])))

    pub place_within : place < length l.triggers
    place_within = (let lt = is_within old.needed.items place true was in let e = way.flags in omega (arith, lt, e))

    leads_there : (t : Trigger) → slice_get l.triggers place ≡ Some t → (rows_at : ℕ → List (ℤ × List Value)) (db : Database) (of : IsOfListed rows_at l db) → Leads rows_at l db of c t.definition
    leads_there t at rows_at db of = way.leads rows_at db of place t at was

    before : (i : ℕ) → IsNeeded mid.needed.items i → IsNeeded old.needed.items i
    before i is = subst (λ v. IsNeeded v.items i) same is

    still : (i : ℕ) → IsNeeded old.needed.items i → IsNeeded mid.needed.items i
    still i is = subst (λ v. IsNeeded v.items i) (sym same) is

    module _ (t : Trigger) (at : slice_get l.triggers place ≡ Some t) (notes : NotesThose l.triggers (sets_off_within t.definition.body) mid new)
        (own : (rows_at : ℕ → List (ℤ × List Value)) (db : Database) → IsOfListed rows_at l db → faults_within 0 db t.definition ≡ []) where
      keeps : (i : ℕ) → IsNeeded old.needed.items i → IsNeeded new.needed.items i
      keeps i is = notes.keeps i (still i is)

      goes_on : IsUnderWay l c new
      goes_on = record {
        flags = notes.same ∙ (ap (λ v. length v.items) same ∙ way.flags);
        queued = λ i is. queued i (notes.fresh i is);
        set_off = λ i is. keeps i (way.set_off i is);
        own = way.own;
        leads = λ rows_at db of i u u_at needed. leads rows_at db of i u u_at (notes.noted i needed);
        looked = λ rows_at db of i u u_at needed. looked rows_at db of i u u_at (notes.noted i needed);
      }
        where
          queued : (i : ℕ) → Contains mid.queue.items i ⊎ IsNeeded new.needed.items i → IsNeeded new.needed.items i
          queued i (inl rest) = keeps i (way.queued i (subst (λ ns. Contains ns i) (sym queue) (Contains-append_left mid.queue.items (place ∷ []) i rest)))
          queued i (inr needed) = needed

          leads : (rows_at : ℕ → List (ℤ × List Value)) (db : Database) (of : IsOfListed rows_at l db) (i : ℕ) (u : Trigger) → slice_get l.triggers i ≡ Some u
              → IsNeeded mid.needed.items i ⊎ (Contains new.queue.items i × IsPlaceOf l.triggers (sets_off_within t.definition.body) i) → Leads rows_at l db of c u.definition
          leads rows_at db of i u u_at (inl needed) = way.leads rows_at db of i u u_at (before i needed)
          leads rows_at db of i u u_at (inr noted) =
              (let (w, w_at, so) = noted.1 in
              leads_next rows_at l db of c t.definition u (leads_there t at rows_at db of) (own rows_at db of) (at_place l.triggers i u u_at)
              (subst (λ x. sets_off_within t.definition.body x ≡ true) (one_there l.triggers i w u w_at u_at) so))

          known : (db : Database) (u : Trigger) → IsKnown l db old.needed.items u.definition → IsKnown l db new.needed.items u.definition
          known db u is = record { own = is.own; needs = λ i so. keeps i (is.needs i so) }

          here : (rows_at : ℕ → List (ℤ × List Value)) (db : Database) → IsOfListed rows_at l db → (u : Trigger) → t ≡ u → IsKnown l db new.needed.items u.definition
          here rows_at db of u same = subst (λ (w : Trigger). IsKnown l db new.needed.items w.definition) same (record { own = own rows_at db of; needs = notes.all })

          of_queue : (rows_at : ℕ → List (ℤ × List Value)) (db : Database) → IsOfListed rows_at l db → (i : ℕ) (u : Trigger) → slice_get l.triggers i ≡ Some u
              → Contains mid.queue.items i ⊎ Contains (place ∷ []) i → Contains new.queue.items i ⊎ IsKnown l db new.needed.items u.definition
          of_queue rows_at db of i u u_at (inl rest) = inl (notes.stays i rest)
          of_queue rows_at db of i u u_at (inr last) = by (in_either i place [] last)
            where
              by : (place ≡ i) ⊎ Contains [] i → Contains new.queue.items i ⊎ IsKnown l db new.needed.items u.definition
              by (inl e) = inr (here rows_at db of u (one_there l.triggers place t u at (ap (slice_get l.triggers) e ∙ u_at)))
              by (inr none) = absurd (in_none i none)

          looked : (rows_at : ℕ → List (ℤ × List Value)) (db : Database) → IsOfListed rows_at l db → (i : ℕ) (u : Trigger) → slice_get l.triggers i ≡ Some u
              → IsNeeded mid.needed.items i ⊎ (Contains new.queue.items i × IsPlaceOf l.triggers (sets_off_within t.definition.body) i) → Contains new.queue.items i ⊎ IsKnown l db new.needed.items u.definition
          looked rows_at db of i u u_at (inr noted) = inl noted.0
          looked rows_at db of i u u_at (inl needed) = by (way.looked rows_at db of i u u_at (before i needed))
            where
              by : Contains old.queue.items i ⊎ IsKnown l db old.needed.items u.definition → Contains new.queue.items i ⊎ IsKnown l db new.needed.items u.definition
              by (inl waits) = of_queue rows_at db of i u u_at (Contains-append_cases mid.queue.items (place ∷ []) i (subst (λ ns. Contains ns i) queue waits))
              by (inr is) = inr (known db u is)

      costs_less : cost new < cost old
      costs_less = (let a = notes.cost_is in let b = ap (λ v. unneeded v.items) same in let n = ap length queue ∙ length-append mid.queue.items (place ∷ []) in omega (arith, a, b, n))

    -- the program at the place was looked at
    pub stepped : ((t : Trigger) → slice_get l.triggers place ≡ Some t → NotesThose l.triggers (sets_off_within t.definition.body) mid new)
        → ((t : Trigger) → slice_get l.triggers place ≡ Some t → KnowsItself l t.definition (Ok tt)) → IsUnderWay l c new × (cost new < cost old)
    stepped notes known =
        let (t, at) = there_is l.triggers place place_within in
        let own : (rows_at : ℕ → List (ℤ × List Value)) (db : Database) → IsOfListed rows_at l db → faults_within 0 db t.definition ≡ [] = λ rows_at db of. known t at rows_at db of (leads_there t at rows_at db of).target in
        (goes_on t at (notes t at) own, costs_less t at (notes t at) own)

    -- or one of its names is refused
    pub refused_there : (fault : Fault) → ((t : Trigger) → slice_get l.triggers place ≡ Some t → KnowsItself l t.definition (Err fault))
        → (rows_at : ℕ → List (ℤ × List Value)) (db : Database) → IsOfListed rows_at l db → (fault ≡ Memory) ⊎ IsFault db c (refusal_of fault)
    refused_there fault known rows_at db of = by (known t at rows_at db of leads.target)
      where
        t : Trigger
        t = (there_is l.triggers place place_within).0

        at : slice_get l.triggers place ≡ Some t
        at = (there_is l.triggers place place_within).1

        leads : Leads rows_at l db of c t.definition
        leads = leads_there t at rows_at db of

        by : IsFaultOf (faults_within 0 db t.definition) fault → (fault ≡ Memory) ⊎ IsFault db c (refusal_of fault)
        by (inl memory) = inl memory
        by (inr is) = inr (leads.leads 0 (refusal_of fault) is)

  -- ---- the end

  abbrev Has : Needs → Trigger → Type 0
  Has needs t = (i : ℕ) × (slice_get l.triggers i ≡ Some t) × IsNeeded needs.needed.items i

  pub none_refused : (needs : Needs) → IsUnderWay l c needs → needs.queue.items ≡ [] → (rows_at : ℕ → List (ℤ × List Value)) (db : Database) → IsOfListed rows_at l db → (r : Refusal) → IsFault db c r → ⊥
  none_refused needs way empty rows_at db of r fault =
      no_fault rows_at l db of (Has needs) (λ t at has. closed t has.0 (way.looked rows_at db of has.0 t has.1 has.2)) c (way.own rows_at db of)
      (λ t at so. has t (is_set_off_by c) (place_of l.triggers t at) so way.set_off) r fault
    where
      has : (t : Trigger) (p : Trigger → Bool) → (i : ℕ) × (slice_get l.triggers i ≡ Some t) → p t ≡ true → ((i : ℕ) → IsPlaceOf l.triggers p i → IsNeeded needs.needed.items i) → Has needs t
      has t p place so all = (place.0, place.1, all place.0 (t, place.1, so))

      closed : (t : Trigger) (i : ℕ) → Contains needs.queue.items i ⊎ IsKnown l db needs.needed.items t.definition → IsClosed rows_at l db of (Has needs) t.definition
      closed t i (inl waits) = absurd (in_none i (subst (λ ns. Contains ns i) empty waits))
      closed t i (inr is) = record { own = is.own; needs = λ u at so. has u (sets_off_within t.definition.body) (place_of l.triggers u at) so is.needs }

-- A refusal adds no committed database.
use Rattle.std.proofs.Common.{◌≡◌, ◌⊎◌, inl, inr, sym, ap, ◌∙◌, ℕ, true, subst, Some}
use Rattle.sqlval.specs.Refusals.{Refusal}
use Rattle.session.specs.Laws.{RefusalsAddNothing, TextRefusalsAddNothing}
use Rattle.session.specs.Machine.{Machine, Reply, Rows, Refused}
use Rattle.session.specs.Outcomes.{Outcome, Gives, RefusedBy, Commits, Copies, Bound, outcome}
use Rattle.session.specs.Steps.{Allowed, Instead}
use Rattle.session.proofs.Answered.{left_history}

allowed_keeps : (m : Machine) (c : ℕ) (o : Outcome) (r : Refusal) (new : Machine) → Allowed m c o (Refused r) new → new.history ≡ m.history
allowed_keeps m c (Gives rows m') r new h = absurd (different h.0)
  where
    is_rows : Reply → Type 0
    is_rows (Rows rows) = Unit {0}
    is_rows (Refused r) = ⊥

    different : Refused r ≡ Rows rows → ⊥
    different e = subst is_rows (sym e) tt
allowed_keeps m c (RefusedBy rs) r new h = ap (λ (x : Machine). x.history) h.3 ∙ left_history m c h.0
allowed_keeps m c (Commits alone db) r new h = either h.1
  where
    either : (new ≡ record m { failed = true }) ⊎ (new ≡ record m { failed = true; in_doubt = Some db }) → new.history ≡ m.history
    either (inl e) = ap (λ x. x.history) e
    either (inr e) = ap (λ x. x.history) e
allowed_keeps m c (Copies mode) r new h = ap (λ x. x.history) h.1
allowed_keeps m c (Bound db ch o) r new (inl h) = ap (λ (x : Machine). x.history) h.3 ∙ left_history m c h.0
allowed_keeps m c (Bound db ch o) r new (inr h) = allowed_keeps m c o r new h.1

step_keeps : (m : Machine) (c : ℕ) (o : Outcome) (r : Refusal) (new : Machine) → Allowed m c o (Refused r) new ⊎ Instead m o (Refused r) new → new.history ≡ m.history
step_keeps m c o r new (inl h) = allowed_keeps m c o r new h
step_keeps m c o r new (inr h) = ap (λ x. x.history) h.1

pub refusals : RefusalsAddNothing
refusals m c s r new (inl h) = ap (λ y. y.history) h.2
refusals m c s r new (inr (inl h)) = ap (λ y. y.history) h.3
refusals m c s r new (inr (inr h)) = step_keeps m c (outcome m c s) r new h.2

pub text_refusals : TextRefusalsAddNothing
text_refusals g m c text r new (inl h) = ap (λ y. y.history) h.2
text_refusals g m c text r new (inr (inl h)) = ap (λ y. y.history) h.3
text_refusals g m c text r new (inr (inr (f, i, inl h))) = ap (λ y. y.history) h.1
text_refusals g m c text r new (inr (inr (f, i, inr (inl h)))) = ap (λ y. y.history) h.3
text_refusals g m c text r new (inr (inr (f, i, inr (inr h)))) = refusals m c h.1 r new h.4

-- What a refusal after other calls comes of.
use Rattle.std.proofs.Common.{◌≡◌, inl, inr, sym, ◌≤◌, ◌<◌, ◌-◌, ◌^◌, ℕ, List, [], length, ap, ◌∙◌, arith}
use Rattle.std.proofs.lemmas.Bool.{cases_lt}
use Rattle.std.proofs.lemmas.List.{get_or-set_other, length-set}
use Rattle.std.specs.Prelude.{Result, Ok, Err, IfErr, IsErrAnd}
use Rattle.sqlval.specs.declared.fault.Fault.{Fault}
use Rattle.sqlval.specs.declared.fault.Fault.TheVariants.{Memory, Io, Full}
use Rattle.pages.specs.Calls.{HasGrown, HasRisen, IsCause, Causes}
use Rattle.pages.specs.Map.{PageMap, with_page, IsThere}

grown_since : (a b c : ℕ) → a ≤ b → HasGrown b c → HasGrown a c
grown_since a b c le (inl lt) = inl (omega (arith, le, lt))
grown_since a b c le (inr top) = grown_top (top.0) (top.1) where
  grown_top : 2 ^ 64 - 1 ≤ b → b ≤ c → HasGrown a c
  grown_top high more = elim (cases_lt a c) [
    | inl lt ↦ inl lt
    | inr ge ↦ inr ((omega (arith, le, high, more, ge)), omega (arith, le, more))
  ]

risen_since : (a b c : ℕ × ℕ) → a.0 ≤ b.0 → a.1 ≤ b.1 → HasRisen b c → HasRisen a c
risen_since a b c db log (inl grown) = inl (grown_since a.0 b.0 c.0 db grown)
risen_since a b c db log (inr grown) = inr (grown_since a.1 b.1 c.1 log grown)

cause_since : {T : Type 0} (result : Result T Fault) (a b c : ℕ × ℕ) (F : Type 0) → a.0 ≤ b.0 → a.1 ≤ b.1 → IfErr result (IsCause b c F) → IfErr result (IsCause a c F)
cause_since (Ok x) a b c F db log why = tt
cause_since (Err fault) a b c F db log why = record { io = λ is. risen_since a b c db log (why.io is); full = why.full }

-- a call's causes count from before an earlier call
pub causes_after : {S T : Type 0} (before : Result S Fault) (result : Result T Fault) (a b c : ℕ × ℕ) (E F : Type 0) → Causes before a b E → Causes result b c F → Causes result a c F
causes_after before result a b c E F first then = record {
  db = omega (arith, first.db, then.db);
  log = omega (arith, first.log, then.log);
  why = cause_since result a b c F first.db first.log then.why;
}

-- another page is there after a page was written
pub there_after : (map : PageMap) (size number other : ℕ) (bytes : List ℕ) → 1 ≤ number → other < number → IsThere map size other → IsThere (with_page map number bytes) size other
there_after map size number other bytes one lt there = record {
  has = record { first = there.has.first; last = omega (arith, there.has.last, length-set map (number - 1) bytes) };
  whole = ap length (get_or-set_other map (number - 1) (other - 1) bytes [] (λ same. absurd (omega (arith, same, lt, one, there.has.first)))) ∙ there.whole;
}

cause_at_last : {T : Type 0} (result : Result T Fault) (a b : ℕ × ℕ) (F : Type 0) → IfErr result (IsCause a b ⊥) → IfErr result (IsCause a b F)
cause_at_last (Ok x) a b F why = tt
cause_at_last (Err fault) a b F why = record { io = why.io; full = λ is. absurd (why.full is) }

-- a call that never says `Full`, after an earlier call
pub causes_still : {S T : Type 0} (before : Result S Fault) (result : Result T Fault) (a b c : ℕ × ℕ) (F : Type 0) → Causes before a b ⊥ → Causes result b c ⊥ → Causes result a c F
causes_still before result a b c F first then = (let all = causes_after before result a b c ⊥ ⊥ first then in record { db = all.db; log = all.log; why = cause_at_last result a c F all.why })

-- a refusal for want of memory, before any other call
pub memory_alone : {T : Type 0} (result : Result T Fault) (fault : Fault) (a : ℕ × ℕ) → IsErrAnd result (λ e. e ≡ fault) → fault ≡ Memory → Causes result a a ⊥
memory_alone (Ok x) fault a is memory = absurd is
memory_alone (Err e) fault a is memory = record { db = omega arith; log = omega arith; why = record { io = λ io. absurd (not_io (sym (is ∙ memory) ∙ io)); full = λ full. absurd (not_full (sym (is ∙ memory) ∙ full)) } } where
  not_io : Memory ≡ Io → ⊥
  not_io e = cc

  not_full : Memory ≡ Full → ⊥
  not_full e = cc

-- Both fields are handed to `from_raw`, which owns what they own, and the box that it returns is returned.
use mathlib.Core.Path.{◌≡◌, refl, sym, subst, ap}
use mathlib.Core.List.{List, [], ◌∷◌, ◌++◌}
use lib.Dec.{T}
use mir.Syntax.{Fn, Body, place, copy, assign, rv_opd, seq, return}
use mir.MapTy.{inst_fn}
use mir.Val.{Val, vptr, has_ty, WT}
use base.Logic.{ent, id⊢}
use base.Fml.{ftrue, fsep, flft}
use contract.BorrowLft.{◌⊑◌}
use prog.Wp.{WpFn}
use contract.Monad.{fact}
use contract.Running.{tables}
use types.Kit.{Item, ⋆, at_ret, ‵, raw, ◌⊛◌, some, later, ◌$◌, ◌∵◌, !, qed, by, move, drop, use1, join, split, split3, pick, rewrite, fsplit, fjoin, feq_i, suffices, await, done}
use types.Part.{whole, sub}
use types.Run.{stop, fld, no_more, and_then, of_opd, returns, enter, first, blocks, exec}
use types.ByLocal.{alloc_all, pass_all, free_all, look_at, get, get_in, sets, lands_last, env}
use denote.RattleType.{RattleType}
use denote.Exit.{no}
use denote.RawPtr.{block_ptr}
use denote.Signature.{plain}
use denote.Steps.{heard, nothing, only}
use denote.Triple.Call.{calls_at_last}
use denote.Triple.Clauses.{Ended}
use denote.Triple.Spec.{triple_of}
use denote.Triple.Table.{framed}
use denote.Triple.Walked.{says, Stays, stay_dropped, walk_of, ends_at}
use Rattle.std.proofs.raw_atomic.Walks.{proved_at}
use Rattle.std.proofs.alloc.Calls.{token, Goes-blank}
use Rattle.std.specs.Box.Ownership.{box_owns}
use Rattle.std.proofs.BoxSteps.Form.{Bx, D, R, P, B, args, box_ty, word, box_typed}
use Rattle.std.proofs.BoxSteps.Steps.{box_out, box_in}
use Rattle.kinolavust_c.specs.contracts.handle.parts.Parts.{the_row as Parts}
use Rattle.std.specs.contracts.boxed.Box.from_raw as g
use Rattle.std.proofs.boxed.Box.from_raw.Met.{met}
use Rattle.kinolavust_c.specs.contracts.handle.parts.Parts.into_box as f
use Rattle.kinolavust_c.proofs.handle.parts.Parts.into_box.Statement.{statement}
use Rattle.kinolavust_c.proofs.handle.parts.Parts.into_box.Code as code

-- what runs after the call: its result is returned
abbrev returning : Body
returning = seq (assign (place 0 []) (rv_opd (copy (place 4 [])))) return

module _ (E : Bx) where
  abbrev ended : Ended
  ended = f.ended E.row E.al.row E.al.g E.al.d E.al.drops

  abbrev stayed : Stays ended.signature.params ended.kept
  stayed = (stay_dropped _ no, tt)

  abbrev body : Fn
  body = inst_fn (args E) code.function

  abbrev Taken : RattleType
  Taken = Parts (R E) (P E) E.al.g

pub into_box_spec : {M : Type 1} → statement M
into_box_spec 𝓤 𝓛 𝓜 𝓡 wired X Z LX LZ g' d dd allocator md =
    let E : Bx = record { row = X; laws = LX; al = record { row = Z; laws = LZ; g = g'; d = d; drops = dd } } in
    let c = f.clauses X Z g' d dd 𝓛 𝓜.mem 𝓡.returns in let W = walk_of 𝓛 (ended E) (stayed E) c in let 𝓣 = tables 𝓤 𝓛.H 𝓜 𝓡 𝓡.env in
    let G = triple_of 𝓛 (g.signature X Z g' d dd) (g.spec X Z g' d dd 𝓛 𝓜.mem 𝓡.returns) in
    proved_at 𝓛 (ended E) (stayed E) c 𝓜 𝓡 (Goes-blank 𝓛 2 (plain (λ _. Taken E)) no (λ κs x w. tt), tt)
    (f.Key.name (args E)) (body E) (code.unfolded 𝓤 𝓛.H 𝓜 𝓡 wired (X, (Z, tt)) d dd) (λ y are.
    let κs = y.0.0 in let qs = y.0.1 in let parts = y.0.3.0 in
    let held : D E = record { ptr = parts.ptr; alloc = parts.alloc; value = parts.value } in
    let tokens : Item 𝓤 = ‵ (flft κs.0 qs.0) ⊛ ‵ (flft κs.1.0 qs.1.0) ⊛ ‵ ftrue in
    let alive : Item 𝓤 = raw (fact 𝓤 (κs.0 ⊑ X.lives)) ⊛ raw (fact 𝓤 (κs.1.0 ⊑ Z.lives)) ⊛ ‵ ftrue in
    qed 𝓛 ((tokens ⊛ ‵ (fsep ((B E).own_val held y.0.4.0) ftrue)) ∷ alive ∷ []) ∵ split ! $ move ! (1 ∷ []) $ fsplit ! $
    box_out E ! held y.0.4.0 (λ b o hv at is fits. fjoin ! $
    let bits = word E hv b o in
    let z : G.Ghost = ((κs, qs, tt, (parts.alloc, (block_ptr b o, tt)), (hv ∷ [], (vptr b o ∷ [], tt))), parts.value) in
    -- [the block with its token; the allocator; nothing; the tokens; that the types are alive]
    let Γ : List (Item 𝓤) = ‵ (box_owns (token E.al parts.alloc) (R E) (block_ptr b o) parts.value) ∷ ‵ ((P E).own_val parts.alloc (hv ∷ [])) ∷ ‵ ftrue ∷ tokens ∷ alive ∷ [] in
    by ! (subst (λ (us : List Val). ent 𝓤 (⋆ 𝓛 Γ) (WpFn 𝓤 𝓛.H 𝓣.C 𝓣.Λ (body E) (us ++ []) (W.post y))) (sym is) (qed 𝓛 Γ ∵
    enter ! _ _ _ (bits ∷ []) _ $ alloc_all ! (λ l. pass_all ! refl (box_typed E hv b o fits, tt) $
    sets ! (of_opd ! (get_in ! (fld ! refl (stop !)) (sub ! 0 refl (whole !)))) refl (tt, tt) $
    sets ! (of_opd ! (get_in ! (fld ! refl (stop !)) (sub ! 1 refl (whole !)))) refl fits $
    first ! $ blocks ! $ sets ! (of_opd ! (get ! refl)) refl fits $
    move ! (4 ∷ []) $ split3 ! $ move ! (2 ∷ []) $ drop ! $ move ! (1 ∷ 2 ∷ []) $ join ! $ move ! (1 ∷ 0 ∷ []) $ join ! $
    -- [what the call requires; the allocator; nothing; the tokens]
    move ! (2 ∷ []) $ feq_i ! (List Val) (vptr b o ∷ []) (vptr b o ∷ []) refl $ fjoin ! $ move ! (2 ∷ 0 ∷ []) $ fjoin ! $ move ! (2 ∷ 0 ∷ []) $ join ! $ join ! $
    use1 𝓛 (raw (G.pre z)) (id⊢ 𝓤 _) $
    calls_at_last ! (framed 𝓤 𝓛.H 𝓜 𝓣) G (met 𝓤 𝓛 𝓜 𝓡 (code.calls-std_alloc::boxed::Box::from_raw 𝓡.env wired) X Z LX LZ g' d dd allocator md) z
    (and_then ! (get ! refl) (and_then ! (get ! refl) (no_more !))) (λ v.
    use1 𝓛 (later (some (λ (r : D E). (tokens ⊛ ‵ ((B E).own_val r (v ∷ []))) ⊛ some (λ (_ : Unit {0} × (Unit {0} × Unit {0})).
    ‵ (fsep ftrue (fsep ftrue ftrue)) ⊛ (raw (fact 𝓤 (r.value ≡ parts.value)) ⊛ raw (fact 𝓤 (r.alloc ≡ parts.alloc))))))) (id⊢ 𝓤 _) $
    await ! tt $ pick ! (λ r. split ! $ move ! (1 ∷ []) $ pick ! (λ _. split3 ! $ drop ! $ heard ! (r.value ≡ parts.value) (λ same. drop ! $ split ! $ move ! (1 ∷ []) $
    box_out E ! r (v ∷ []) (λ b' o' hw at' is' fits'. box_in E ! r b' o' r.value at' refl $
    rewrite ! 0 (λ (us : List Val). ‵ ((B E).own_val r us)) (sym is') refl $
    let typed : T (has_ty (box_ty E) v) × WT v = subst (λ (u : Val). T (has_ty (box_ty E) u) × WT u) (sym (ap only is')) (box_typed E hw b' o' fits') in
    lands_last ! refl typed $ exec ! 𝓣.C 𝓣.Λ (env (body E).locals l) returning (at_ret (env (body E).locals l) (W.post y)) $
    sets ! (of_opd ! (get ! refl)) refl typed $ returns ! (look_at ! 0 refl) $ free_all ! refl $
    suffices ! _ (ends_at 𝓛 (ended E) (stayed E) c y v r ((tt, (tt, tt)), tt) (tt, tt)) $ says ! same $
    nothing ! $ nothing ! $ fjoin ! $ join ! $ move ! (1 ∷ 0 ∷ []) $ join ! $ done !))))))))))

-- Logs in which older frames stand after those that count, and frames that are written over them.
use Rattle.std.proofs.Common.{◌≡◌, ◌⊎◌, inl, inr, ◌≤◌, ◌+◌, ℕ, suc, List, [], ◌++◌, Bool, true, false, length, take, drop, refl, sym, ◌∙◌, ap, subst, arith, length-append, length-take, length-drop}
use Rattle.std.proofs.lemmas.Bool.{cases_lt}
use Rattle.std.proofs.lemmas.List.{append_assoc, append-nil, take-append-drop, take_at, drop_all}
use Rattle.std.proofs.lemmas.Slice.{drop-append-drop}
use Rattle.disk.specs.Calls.{overwritten}
use Rattle.wal_frame.specs.declared.log_header.LogHeader.{LogHeader}
use Rattle.wal_frame.specs.declared.log_header.Salts.{Salts}
use Rattle.wal_frame.specs.Log.{header_bytes, salts_at}
use Rattle.wal_frame.specs.Accepted.{IsFrame, frame_start, frame_at}
use Rattle.wal_frame.proofs.Fronts.{start_more, start_rises}
use Rattle.wal.specs.Stale.{IsStaleFrom, HasCleanTail}
use Rattle.wal.specs.Stands.{base_at, place_at, log_front, log_end}

-- none of the older frames counts
pub none_stale : (h : LogHeader) (n : ℕ) (log : List ℕ) → IsStaleFrom h n log → (k : ℕ) → n ≤ k → IsFrame h log k → ⊥
none_stale h n log stale k le is = omega (arith, stale.older k le is.whole, ap (λ (s : Salts). s.first) is.salts)

-- no whole frame stands after the end of a log
pub stale_short : (h : LogHeader) (n : ℕ) (log : List ℕ) → length log ≤ frame_start h n → IsStaleFrom h n log
stale_short h n log short = record { older = λ k le within. absurd (omega (arith, short, within, start_rises h n k le, start_more h k)) }

-- what stands after bytes that were written over others
pub kept_place : (h : LogHeader) (front old : List ℕ) (at k : ℕ) → length front ≡ at → at ≤ frame_start h k → frame_at h (front ++ drop at old) k ≡ frame_at h old k
kept_place h front old at k size le = ap (take (24 + h.page_size)) (drop-append-drop at old front (frame_start h k) le size)

pub over_size : (front old : List ℕ) (at : ℕ) → length front ≡ at → at ≤ length old → length (front ++ drop at old) ≡ length old
over_size front old at size le = length-append front (drop at old) ∙ omega (arith, size, le, length-drop at old)

-- Frames that are written over older ones leave those after them as they are.
pub stale_over : (h : LogHeader) (n m : ℕ) (front old : List ℕ) → n ≤ m → length front ≡ frame_start h m → IsStaleFrom h n old → IsStaleFrom h m (front ++ drop (frame_start h m) old)
stale_over h n m front old le size stale = record {
  older = λ k past within.
      elim (cases_lt (length old) (frame_start h m)) [
        | inl short ↦ absurd (omega (arith, short, within, size, length-append front (drop (frame_start h m) old), length-drop (frame_start h m) old, start_rises h m k past, start_more h k))
        | inr long ↦ (
            let whole : frame_start h (suc k) ≤ length old = omega (arith, within, over_size front old (frame_start h m) size long) in
            let same : (salts_at 8 (frame_at h (front ++ drop (frame_start h m) old) k)).first ≡ (salts_at 8 (frame_at h old k)).first =
            ap (λ (f : List ℕ). (salts_at 8 f).first) (kept_place h front old (frame_start h m) k size (start_rises h m k past)) in
            omega (arith, same, stale.older k (omega (arith, le, past)) whole))
      ];
}

-- The log that frames are written into: the front, and what no more counts.
pub record IsBase (h : LogHeader) (n : ℕ) (front log base : List ℕ) : Type 0 where
  pub joined : base ≡ front ++ drop (frame_start h n) base
  pub stale : IsStaleFrom h n base
  pub inside : frame_start h n ≤ length base
  pub rest : (e : ℕ) → frame_start h n ≤ e → (drop e base ≡ []) ⊎ (drop e base ≡ drop e log)

pub base_is : (h : LogHeader) (b clean : Bool) (mark end : ℕ) (log : List ℕ) → (b ≡ true → frame_start h mark ≤ length log) → (b ≡ false → mark ≡ 0) → (clean ≡ true → HasCleanTail h b mark log) → end ≡ log_end h b mark
    → IsBase h mark (log_front h b mark log) log (base_at h b clean end log)
base_is h true true mark end log inside none tail is_end = record {
  joined = sym (take-append-drop (frame_start h mark) log);
  stale = (tail refl).stale refl;
  inside = inside refl;
  rest = λ e le. inr refl;
}
base_is h true false mark end log inside none tail is_end = subst (λ (n : ℕ). IsBase h mark (take (frame_start h mark) log) log (take n log)) (sym is_end) (record {
  joined = sym (append-nil (take at log)) ∙ ap (λ (l : List ℕ). take at log ++ l) (sym (drop_all at (take at log) (omega (arith, size))));
  stale = stale_short h mark (take at log) (omega (arith, size));
  inside = omega (arith, size);
  rest = λ e le. inl (drop_all e (take at log) (omega (arith, size, le)));
})
  where
    at : ℕ
    at = frame_start h mark

    size : length (take at log) ≡ at
    size = omega (arith, length-take at log, inside refl)
base_is h false clean mark end log inside none tail is_end = record {
  joined = sym (append-nil (header_bytes h)) ∙ ap (λ (l : List ℕ). header_bytes h ++ l) (sym (drop_all (frame_start h mark) (header_bytes h) (omega (arith, at_32))));
  stale = stale_short h mark (header_bytes h) (omega (arith, at_32));
  inside = omega (arith, at_32);
  rest = λ e le. inl (drop_all e (header_bytes h) (omega (arith, at_32, le)));
}
  where
    at_32 : frame_start h mark ≡ 32
    at_32 = ap (frame_start h) (none refl) ∙ omega arith

-- where frames are written
pub place_is : (h : LogHeader) (b : Bool) (mark end : ℕ) → (b ≡ false → mark ≡ 0) → end ≡ log_end h b mark → place_at b end ≡ frame_start h mark
place_is h true mark end none is_end = is_end
place_is h false mark end none is_end = omega arith ∙ ap (frame_start h) (sym (none refl))

-- what was written there
pub over_base : (h : LogHeader) (n at : ℕ) (front log base bytes : List ℕ) → IsBase h n front log base → length front ≡ frame_start h n → at ≡ frame_start h n → overwritten at bytes base ≡ front ++ (bytes ++ drop (at + length bytes) base)
over_base h n at front log base bytes is start is_at =
    ap (λ (l : List ℕ). (l ++ bytes) ++ drop (at + length bytes) base) (ap (take at) is.joined ∙ take_at front (drop (frame_start h n) base) at (start ∙ sym is_at))
    ∙ append_assoc front bytes (drop (at + length bytes) base)

-- a log that was cut after its committed frames is clean
pub cut_clean : (h : LogHeader) (b : Bool) (mark : ℕ) (log : List ℕ) → length log ≡ log_end h b mark → HasCleanTail h b mark log
cut_clean h true mark log is = record { stale = λ yes. stale_short h mark log (omega (arith, is)); none = λ no. (let bad : true ≡ false = no in cc) }
cut_clean h false mark log is = record { stale = λ yes. (let bad : false ≡ true = yes in cc); none = λ no. is }

-- the same, said of equal parts
pub clean_as : (h g : LogHeader) (b d : Bool) (m n : ℕ) (log : List ℕ) → g ≡ h → d ≡ b → n ≡ m → HasCleanTail h b m log → HasCleanTail g d n log
clean_as h g b d m n log same_header same_begun same_mark clean =
    subst (λ (x : LogHeader). HasCleanTail x d n log) (sym same_header) (subst (λ (x : Bool). HasCleanTail h x n log) (sym same_begun) (subst (λ (x : ℕ). HasCleanTail h b x log) (sym same_mark) clean))

pub clean_begun : (h : LogHeader) (n : ℕ) (log : List ℕ) → IsStaleFrom h n log → HasCleanTail h true n log
clean_begun h n log stale = record { stale = λ yes. stale; none = λ no. (let bad : true ≡ false = no in cc) }

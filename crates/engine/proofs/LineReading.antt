-- What reading a line's parts does to an input.
use Rattle.std.proofs.Common.{◌≡◌, ◌∙◌, ap, sym, refl, subst, Bool, true, false, arith, ℕ, zero, suc, ◌+◌, ◌-◌, ◌<◌, zero-le, List, [], ◌∷◌, ◌++◌, length, take, take_all, append-nil, append_assoc, All, Option, Some, None, OnSome, Result, Ok, Err, IfOk, inl, inr}
use Rattle.std.proofs.lemmas.List.Elements.{recursion_from_All}
use Rattle.std.specs.List.{AllByRecursion}
use Rattle.std.specs.Io.KnownBytes.{Consumes, Keeps, IsAtEnd}
use Rattle.std.proofs.KnownBytes.{Consumes-nil, Consumes-kept, Consumes-trans}
use Rattle.sqlval.specs.declared.fault.Fault.{Fault}
use Rattle.engine.specs.declared.lines.Met.{Met}
use Rattle.engine.specs.declared.lines.Met.TheVariants.{Nothing, LineFeed, End}
use Rattle.engine.specs.Lines.{Between, BeganWith, HasPart, HasRead, IsEmptyStill, IsNoLineFeed, IsPresent, kept_of, tail_of}

-- nothing was read, and the input is kept
nothing_read : (a b : Option (List ℕ)) (line : List ℕ) → Keeps a b → HasPart Nothing a b line line
nothing_read a b line kept = record {
  part = [];
  one_line = tt;
  read = Consumes-kept a a b [] (Consumes-nil a) kept;
  there = tt;
  kept_is = sym (append-nil line) ∙ ap (λ (l : List ℕ). line ++ l) (sym (take_all (65540 - length line) [] zero-le));
}

pub not_shown_read : (r : Result Met Fault) (a b : Option (List ℕ)) (line : List ℕ) → IfOk r (λ met. met ≡ Nothing) → Keeps a b
    → IfOk r (λ met. HasPart met a b line line)
not_shown_read (Ok met) a b line e kept = subst (λ (m : Met). HasPart m a b line line) (sym e) (nothing_read a b line kept)
not_shown_read (Err fault) a b line e kept = tt

end_there : (a c : Option (List ℕ)) (bs : List ℕ) → Consumes a c bs → OnSome a (IsAtEnd c) → Between (λ some none. none ≡ []) a c
end_there None c bs read end = tt
end_there (Some x) None bs read end = absurd read
end_there (Some x) (Some y) bs read end = end

is_there : (met : Met) (a c : Option (List ℕ)) (shown bs : List ℕ) → (met ≡ End → length shown ≡ 0) → Consumes a c bs
    → (length shown ≡ 0 → OnSome a (IsAtEnd c)) → IsPresent met a c
is_there Nothing a c shown bs none read end = tt
is_there LineFeed a c shown bs none read end = tt
is_there End a c shown bs none read end = end_there a c bs read (end (none refl))

-- what was shown was read up to its line feed, or whole
pub part_read : (met : Met) (n count : ℕ) (a c : Option (List ℕ)) (shown before after : List ℕ) → count ≡ n + length (tail_of met)
    → All IsNoLineFeed (take n shown) → take (n + length (tail_of met)) shown ≡ take n shown ++ tail_of met → (met ≡ End → length shown ≡ 0)
    → after ≡ before ++ take (65540 - length before) (take n shown) → Consumes a c (take count shown) × (length shown ≡ 0 → OnSome a (IsAtEnd c))
    → HasPart met a c before after
part_read met n count a c shown before after count_is line tail none kept (read, end) = record {
  part = take n shown;
  one_line = recursion_from_All IsNoLineFeed (take n shown) line;
  read = subst (Consumes a c) (ap (λ (k : ℕ). take k shown) count_is ∙ tail) read;
  there = is_there met a c shown (take count shown) none read end;
  kept_is = kept;
}

-- what is kept of a line after one more part of it
kept_more : (most : ℕ) (done part : List ℕ) → take most done ++ take (most - length (take most done)) part ≡ take most (done ++ part)
kept_more zero [] part = refl
kept_more zero (x ∷ xs) part = refl
kept_more (suc most) [] part =
    let left : suc most - 0 ≡ suc most = omega arith in
    ap (λ (k : ℕ). take k part) left
kept_more (suc most) (x ∷ xs) part =
    let left : suc most - suc (length (take most xs)) ≡ most - length (take most xs) = omega arith in
    ap (λ (k : ℕ). x ∷ (take most xs ++ take k part)) left ∙ ap (λ (l : List ℕ). x ∷ l) (kept_more most xs part)

-- A line was begun: these bytes of it were read, and this is kept of them.
pub record IsBegun (before after : Option (List ℕ)) (kept : List ℕ) : Type 0 where
  pub done : List ℕ
  pub one_line : AllByRecursion IsNoLineFeed done
  pub read : Consumes before after done
  pub kept_is : kept ≡ kept_of done

pub begun : (a : Option (List ℕ)) (line : List ℕ) → line ≡ [] → IsBegun a a line
begun a line none = record { done = []; one_line = tt; read = Consumes-nil a; kept_is = none ∙ sym (take_all 65540 [] zero-le) }

none_in_both : (xs ys : List ℕ) → AllByRecursion IsNoLineFeed xs → AllByRecursion IsNoLineFeed ys → AllByRecursion IsNoLineFeed (xs ++ ys)
none_in_both [] ys first second = second
none_in_both (x ∷ xs) ys (here, rest) second = (here, none_in_both xs ys rest second)

kept_joined : (line after done part : List ℕ) → line ≡ kept_of done → after ≡ line ++ take (65540 - length line) part → after ≡ kept_of (done ++ part)
kept_joined line after done part is next = next ∙ ap (λ (l : List ℕ). l ++ take (65540 - length l) part) is ∙ kept_more 65540 done part

pub begun_more : (a b c : Option (List ℕ)) (line after : List ℕ) → IsBegun a b line → HasPart Nothing b c line after → IsBegun a c after
begun_more a b c line after have part = record {
  done = have.done ++ part.part;
  one_line = none_in_both have.done part.part have.one_line part.one_line;
  read = Consumes-trans a b c have.done part.part have.read (subst (Consumes b c) (append-nil part.part) part.read);
  kept_is = kept_joined line after have.done part.part have.kept_is part.kept_is;
}

fed : (a b c : Option (List ℕ)) (done part : List ℕ) → Consumes a b done → Consumes b c (part ++ 10 ∷ []) → Between (BeganWith (done ++ part)) a c
fed None b c done part first second = tt
fed (Some x) None c done part first second = absurd first
fed (Some x) (Some y) None done part first second = absurd second
fed (Some x) (Some y) (Some z) done part first second =
    inl (first ∙ ap (λ (l : List ℕ). done ++ l) (second ∙ append_assoc part (10 ∷ []) z) ∙ sym (append_assoc done part (10 ∷ z)))

pub line_fed : (a b c : Option (List ℕ)) (line after : List ℕ) → IsBegun a b line → HasPart LineFeed b c line after → HasRead true a c after
line_fed a b c line after have part = record {
  line = have.done ++ part.part;
  one_line = none_in_both have.done part.part have.one_line part.one_line;
  read = fed a b c have.done part.part have.read part.read;
  kept_is = kept_joined line after have.done part.part have.kept_is part.kept_is;
}

last : (a b c : Option (List ℕ)) (done part : List ℕ) → 0 < length (done ++ part) → Consumes a b done → Consumes b c (part ++ [])
    → Between (λ some none. none ≡ []) b c → Between (BeganWith (done ++ part)) a c
last None b c done part some first second end = tt
last (Some x) None c done part some first second end = absurd first
last (Some x) (Some y) None done part some first second end = absurd second
last (Some x) (Some y) (Some z) done part some first second end =
    inr (first ∙ ap (λ (l : List ℕ). done ++ l) (second ∙ append_assoc part [] z ∙ ap (λ (l : List ℕ). part ++ l) end ∙ append-nil part), end, some)

empty : (a b c : Option (List ℕ)) (done part : List ℕ) → done ++ part ≡ [] → Consumes a b done → Consumes b c (part ++ [])
    → Between (λ some none. none ≡ []) b c → Between IsEmptyStill a c
empty None b c done part none first second end = tt
empty (Some x) None c done part none first second end = absurd first
empty (Some x) (Some y) None done part none first second end = absurd second
empty (Some x) (Some y) (Some z) done part none first second end =
    (first ∙ ap (λ (l : List ℕ). done ++ l) (second ∙ append_assoc part [] z ∙ ap (λ (l : List ℕ). part ++ l) end ∙ append-nil part) ∙ none, end)

longer : (most : ℕ) (line : List ℕ) → 0 < most → length (take most line) ≡ 0 → line ≡ []
longer zero line some none = absurd (omega (arith, some))
longer (suc most) [] some none = refl
longer (suc most) (x ∷ xs) some none = absurd (omega (arith, none))

shorter : (most : ℕ) (line : List ℕ) → 0 < length (take most line) → 0 < length line
shorter zero [] some = some
shorter (suc most) [] some = some
shorter zero (x ∷ xs) some = omega arith
shorter (suc most) (x ∷ xs) some = omega arith

pub line_ended : (is_line : Bool) (a b c : Option (List ℕ)) (line after : List ℕ) → (is_line ≡ true → 0 < length after) → (is_line ≡ false → length after ≡ 0)
    → IsBegun a b line → HasPart End b c line after → HasRead is_line a c after
line_ended true a b c line after some none have part =
    let kept = kept_joined line after have.done part.part have.kept_is part.kept_is in
    record {
      line = have.done ++ part.part;
      one_line = none_in_both have.done part.part have.one_line part.one_line;
      read = last a b c have.done part.part (shorter 65540 (have.done ++ part.part) (subst (λ (l : List ℕ). 0 < length l) kept (some refl))) have.read part.read part.there;
      kept_is = kept;
    }
line_ended false a b c line after some none have part =
    let kept = kept_joined line after have.done part.part have.kept_is part.kept_is in
    empty a b c have.done part.part (longer 65540 (have.done ++ part.part) (omega arith) (ap length (sym kept) ∙ none refl)) have.read part.read part.there

-- the same, by what was met
met_as : (met other : Met) (b c : Option (List ℕ)) (line after : List ℕ) → met ≡ other → HasPart met b c line after → HasPart other b c line after
met_as met other b c line after e part = subst (λ (m : Met). HasPart m b c line after) e part

pub goes_on : (met : Met) (a b c : Option (List ℕ)) (line after : List ℕ) → met ≡ Nothing → IsBegun a b line → HasPart met b c line after → IsBegun a c after
goes_on met a b c line after e have part = begun_more a b c line after have (met_as met Nothing b c line after e part)

pub ends_fed : (met : Met) (a b c : Option (List ℕ)) (line after : List ℕ) → met ≡ LineFeed → IsBegun a b line → HasPart met b c line after → HasRead true a c after
ends_fed met a b c line after e have part = line_fed a b c line after have (met_as met LineFeed b c line after e part)

pub ends_there : (met : Met) (is_line : Bool) (a b c : Option (List ℕ)) (line after : List ℕ) → (is_line ≡ true → 0 < length after)
    → (is_line ≡ false → length after ≡ 0) → met ≡ End → IsBegun a b line → HasPart met b c line after → HasRead is_line a c after
ends_there met is_line a b c line after some none e have part = line_ended is_line a b c line after some none have (met_as met End b c line after e part)

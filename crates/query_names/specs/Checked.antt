-- What a text stands for when its names are looked up, and each of its refusals, since any one of them may be answered.
use Rattle.std.specs.Prelude.{Bool, not, List, [], ◌∷◌, ◌++◌, length, Err, if◌then◌else◌, ◌==◌}
use Rattle.sqlval.specs.Refusals.{Refusal, NoSuch, Ambiguous, Answer}

-- what a text stands for, and each of its refusals. Where there are some, what it stands for only lets the rest be looked at
pub data Checked (A : Type 0) : Type 0 where
  Meant : A → List Refusal → Checked A

-- meant, and not refused
abbrev pub good : {A : Type 0} → A → Checked A
good x = Meant x []

-- refused, and looked at as this
abbrev pub bad : {A : Type 0} → A → Refusal → Checked A
bad x r = Meant x (r ∷ [])

-- what the text stands for
abbrev pub meant : {A : Type 0} → Checked A → A
meant (Meant x rs) = x

-- each of its refusals
abbrev pub faults : {A : Type 0} → Checked A → List Refusal
faults (Meant x rs) = rs

-- the same, to be looked at whole
abbrev pub noted : {A : Type 0} → Checked A → Checked (Checked A)
noted k = Meant k (faults k)

-- nothing in it is refused
abbrev pub is_good : {A : Type 0} → Checked A → Bool
is_good k = length (faults k) == 0

-- what two texts stand for together, with the refusals of both
abbrev pub both : {A B C : Type 0} → (A → B → C) → Checked A → Checked B → Checked C
both f (Meant x rs) (Meant y ss) = Meant (f x y) (rs ++ ss)

-- the same of three
abbrev pub all_three : {A B C D : Type 0} → (A → B → C → D) → Checked A → Checked B → Checked C → Checked D
all_three {C = C} {D = D} f a b c = both {A = C → D} (λ g z. g z) (both f a b) c

-- the same refusals of something made of it
abbrev pub known_map : {A B : Type 0} → (A → B) → Checked A → Checked B
known_map f (Meant x rs) = Meant (f x) rs

-- what each text of a list stands for
abbrev pub known_all : {A : Type 0} → List (Checked A) → Checked (List A)
known_all [] = good []
known_all (k ∷ ks) = both (λ x xs. x ∷ xs) k (known_all ks)

-- further items after those that were found before
abbrev pub onto_list : {A : Type 0} → List A → Checked (List A) → Checked (List A)
onto_list found k = known_map (λ xs. found ++ xs) k

-- with these refusals in front
abbrev pub also : {A : Type 0} → List Refusal → Checked A → Checked A
also rs (Meant x ss) = Meant x (rs ++ ss)

-- what follows is looked at with what came before
infixl 15 ◌and_then◌
abbrev pub ◌and_then◌ : {A B : Type 0} → Checked A → (A → Checked B) → Checked B
(Meant x rs) and_then f = also rs (f x)

-- one more refusal, where the test is true
abbrev pub unless : {A : Type 0} → Bool → Refusal → Checked A → Checked A
unless b r k = also (if b then (r ∷ []) else []) k

-- the one of the list; none is no refusal where it may stand in a source that isn't known
abbrev pub the_one : {A : Type 0} → Bool → A → List A → Checked A
the_one may_be x [] = unless (not may_be) NoSuch (good x)
the_one may_be x (t ∷ []) = good t
the_one may_be x (t ∷ u ∷ us) = bad t Ambiguous

-- some refusal of the text, and else what follows
abbrev pub known_then : {A B : Type 0} → Checked A → (A → Answer B) → Answer B
known_then (Meant x []) f = f x
known_then (Meant x (r ∷ rs)) f = Err r

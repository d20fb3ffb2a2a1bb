-- What a row gives around its window, and which rows can stand in it.
use Rattle.std.proofs.Common.{◌≡◌, ℤ, refl, sym, ◌∙◌, ap, List, [], ◌∷◌, ◌++◌, append_assoc}
use Rattle.std.proofs.lemmas.List.{append-nil}
use Rattle.tree_store.specs.Sides.{Side, each_of, Each, Parted}
use Rattle.tree_store.specs.Frames.{Frame, ends, goes, framed, fronts, left_of, right_of, Opens}

module _ {T K X : Type 0} (f : T → List X) (between : K → List X) where
  front_gives : (front kids : List (T × K)) (last : T) → each_of f between (front ++ kids) last ≡ fronts f between front ++ each_of f between kids last
  front_gives [] kids last = refl
  front_gives (kid ∷ front) kids last =
      ap (λ xs. f kid.0 ++ (between kid.1 ++ xs)) (front_gives front kids last)
      ∙ ap (λ xs. f kid.0 ++ xs) (sym (append_assoc (between kid.1) (fronts f between front) (each_of f between kids last)))
      ∙ sym (append_assoc (f kid.0) (between kid.1 ++ fronts f between front) (each_of f between kids last))

  window_gives : (kids : List (T × K)) (t : T) (key : K) (rest : List (T × K)) (last : T)
      → each_of f between (kids ++ (t, key) ∷ rest) last ≡ each_of f between kids t ++ (between key ++ each_of f between rest last)
  window_gives [] t key rest last = refl
  window_gives (kid ∷ kids) t key rest last =
      ap (λ xs. f kid.0 ++ (between kid.1 ++ xs)) (window_gives kids t key rest last)
      ∙ ap (λ xs. f kid.0 ++ xs) (sym (append_assoc (between kid.1) (each_of f between kids t) (between key ++ each_of f between rest last)))
      ∙ sym (append_assoc (f kid.0) (between kid.1 ++ each_of f between kids t) (between key ++ each_of f between rest last))

  -- what a row gives is what its frame gives around what the window gives
  pub frame_gives : (frame : Frame T K) (window : Side T K)
      → each_of f between (framed frame window).0 (framed frame window).1 ≡ left_of f between frame ++ (each_of f between window.0 window.1 ++ right_of f between frame)
  frame_gives (ends front) window =
      front_gives front window.0 window.1 ∙ ap (λ xs. fronts f between front ++ xs) (sym (append-nil (each_of f between window.0 window.1)))
  frame_gives (goes front key rest) window =
      front_gives front (window.0 ++ (window.1, key) ∷ rest.0) rest.1
      ∙ ap (λ xs. fronts f between front ++ xs) (window_gives window.0 window.1 key rest.0 rest.1)

module _ {T : Type 0} (P : ℤ → T → ℤ → Type 0) where
  parted_window : (low : ℤ) (kids : List (T × ℤ)) (t : T) (key : ℤ) (rest : List (T × ℤ)) (last : T) (high : ℤ)
      → Parted P low (kids ++ (t, key) ∷ rest) last high → Parted P low kids t key × Parted P key rest last high
  parted_window low [] t key rest last high h = h
  parted_window low (kid ∷ kids) t key rest last high (h, r) = let s = parted_window kid.1 kids t key rest last high r in ((h, s.0), s.1)

  parted_join : (low : ℤ) (kids : List (T × ℤ)) (t : T) (key : ℤ) (rest : List (T × ℤ)) (last : T) (high : ℤ)
      → Parted P low kids t key → Parted P key rest last high → Parted P low (kids ++ (t, key) ∷ rest) last high
  parted_join low [] t key rest last high h k = (h, k)
  parted_join low (kid ∷ kids) t key rest last high (h, r) k = (h, parted_join kid.1 kids t key rest last high r k)

  -- what is in a window lies within bounds, and other rows within these can stand there
  pub opens : (low : ℤ) (frame : Frame T ℤ) (window : Side T ℤ) (high : ℤ) → Parted P low (framed frame window).0 (framed frame window).1 high → Opens P low frame window high
  opens low (ends []) window high h = record { from = low; to = high; parted = h; opening = record { fill = λ w k. k } }
  opens low (ends (kid ∷ front)) window high (h, r) =
      let s = opens kid.1 (ends front) window high r in
      record { from = s.from; to = s.to; parted = s.parted; opening = record { fill = λ w k. (h, s.opening.fill w k) } }
  opens low (goes [] key rest) window high h =
      let s = parted_window low window.0 window.1 key rest.0 rest.1 high h in
      record { from = low; to = key; parted = s.0; opening = record { fill = λ w k. parted_join low w.0 w.1 key rest.0 rest.1 high k s.1 } }
  opens low (goes (kid ∷ front) key rest) window high (h, r) =
      let s = opens kid.1 (goes front key rest) window high r in
      record { from = s.from; to = s.to; parted = s.parted; opening = record { fill = λ w k. (h, s.opening.fill w k) } }

-- ---- what holds of each subtree

module _ {T K : Type 0} (P : T → Type 0) where
  pub each_front : (front kids : List (T × K)) (last : T) → Each P (front ++ kids) last → Each P kids last
  each_front [] kids last h = h
  each_front (kid ∷ front) kids last (h, r) = each_front front kids last r

  pub each_window : (kids : List (T × K)) (t : T) (key : K) (rest : List (T × K)) (last : T) → Each P (kids ++ (t, key) ∷ rest) last → Each P kids t × Each P rest last
  each_window [] t key rest last h = h
  each_window (kid ∷ kids) t key rest last (h, r) = let s = each_window kids t key rest last r in ((h, s.0), s.1)

  pub each_join : (kids : List (T × K)) (t : T) (key : K) (rest : List (T × K)) (last : T) → Each P kids t → Each P rest last → Each P (kids ++ (t, key) ∷ rest) last
  each_join [] t key rest last h k = (h, k)
  each_join (kid ∷ kids) t key rest last (h, r) k = (h, each_join kids t key rest last r k)

  -- what holds of each subtree of a row holds of those in the window
  pub each_in : (frame : Frame T K) (window : Side T K) → Each P (framed frame window).0 (framed frame window).1 → Each P window.0 window.1
  each_in (ends front) window h = each_front front window.0 window.1 h
  each_in (goes front key rest) window h = (each_window window.0 window.1 key rest.0 rest.1 (each_front front (window.0 ++ (window.1, key) ∷ rest.0) rest.1 h)).0

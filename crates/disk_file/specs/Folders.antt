-- The folder of a file (POSIX, "Pathname Resolution").
use Rattle.std.specs.Prelude.{ℕ, List, ◌∷◌, Some, codes}
use Rattle.std.specs.Path.{path_parent}

-- all before a path's last part, or the present folder where that is nothing
abbrev pub folder_of : List ℕ → List ℕ
folder_of path = elim (path_parent path) [ Some (c ∷ cs) ↦ c ∷ cs | _ ↦ codes "." ]

-- Two ways to say which database pages hold: by the definition of a whole file, and by what is listed (Database File Format,
-- "The Database File").
use Rattle.std.specs.Prelude.{◌≡◌, ℕ}
use Rattle.pages.specs.Map.{PageMap}
use Rattle.db_files.specs.Stands.{StandsFor}
use Rattle.catalog.specs.Database.{Database}
use Rattle.catalog.specs.Listed.{Listed}
use Rattle.db_pages.specs.Language.{language}
use Rattle.db_pages.specs.Stored.{IsCounted, Stores}

-- pages that store a database stand for it, where their header counts them
abbrev pub StoredStand : Type 0
StoredStand = (map : PageMap) (size : ℕ) (l : Listed) (db : Database) → Stores map size l db → IsCounted map → StandsFor language size map db

-- and pages that stand for a database store it
abbrev pub StandingStored : Type 0
StandingStored = (map : PageMap) (size : ℕ) (db : Database) → StandsFor language size map db → (l : Listed) × Stores map size l db

-- pages store one database at most
abbrev pub StoredOnce : Type 0
StoredOnce = (map : PageMap) (size : ℕ) (l other : Listed) (a b : Database)
    → Stores map size l a → Stores map size other b → a ≡ b

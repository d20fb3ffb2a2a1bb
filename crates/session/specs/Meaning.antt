-- Two ways to say which database two files hold: by the definition of whole files, and by a view of them (Database File Format,
-- "The Database File").
use Rattle.std.specs.Prelude.{ℕ, List}
use Rattle.catalog.specs.Database.{Database}
use Rattle.session.specs.Holding.{Hold, StoreFiles}

-- two files hold the database that a view of them stores
abbrev pub StoredFilesHold : Type 0
StoredFilesHold = (db log : List ℕ) (database : Database) → StoreFiles db log database → Hold db log database

-- and a view of them stores the one that they hold
abbrev pub HeldFilesAreStored : Type 0
HeldFilesAreStored = (db log : List ℕ) (database : Database) → Hold db log database → StoreFiles db log database

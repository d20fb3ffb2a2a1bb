-- A statement that answers no rows and has nothing to do with transactions is a write.
use Rattle.std.proofs.Common.{◌≡◌, true, false, refl}
use Rattle.sqlval.specs.declared.name.Name.{Name}
use Rattle.executor.specs.Forms.{answers_rows, is_write}
use Rattle.sql_syntax.specs.declared.change.Change.{Change}
use Rattle.sql_syntax.specs.declared.change.Change.TheVariants as change
use Rattle.sql_syntax.specs.declared.create.Create.{Create}
use Rattle.sql_syntax.specs.declared.create.NewObject.{NewObject}
use Rattle.sql_syntax.specs.declared.create.NewObject.TheVariants as new
use Rattle.sql_syntax.specs.declared.statement.BeginMode.{BeginMode}
use Rattle.sql_syntax.specs.declared.statement.Statement.{Statement}
use Rattle.sql_syntax.specs.declared.statement.Statement.TheVariants as statement

-- a test that is true and false
never : true ≡ false → ⊥
never is = (let bad : true ≡ false = is in cc)

of_object : (c : Create) (o : NewObject) → is_write (statement.Create (record c { object = o })) ≡ false → ⊥
of_object c (new.Table d) none = never none
of_object c (new.Index d) none = never none
of_object c (new.View d) none = never none
of_object c (new.Trigger d) none = never none

of_change : (c : Change) → is_write (statement.Change c) ≡ false → ⊥
of_change (change.Insert i) none = never none
of_change (change.Delete d) none = never none
of_change (change.Update u) none = never none

pub no_other_form : (s : Statement) → is_write s ≡ false → answers_rows s ≡ false → ((mode : BeginMode) → s ≡ statement.Begin mode → ⊥) → (s ≡ statement.Commit → ⊥) → (s ≡ statement.Rollback → ⊥)
    → ((name : Name) → s ≡ statement.RollbackTo name → ⊥) → ((name : Name) → s ≡ statement.Savepoint name → ⊥) → ((name : Name) → s ≡ statement.Release name → ⊥) → ⊥
no_other_form (statement.Create c) none no_rows begin commit rollback back savepoint release = of_object c c.object none
no_other_form (statement.Drop kind name) none no_rows begin commit rollback back savepoint release = never none
no_other_form (statement.Change c) none no_rows begin commit rollback back savepoint release = of_change c none
no_other_form (statement.Select q) none no_rows begin commit rollback back savepoint release = never no_rows
no_other_form (statement.Begin mode) none no_rows begin commit rollback back savepoint release = begin mode refl
no_other_form statement.Commit none no_rows begin commit rollback back savepoint release = commit refl
no_other_form statement.Rollback none no_rows begin commit rollback back savepoint release = rollback refl
no_other_form (statement.RollbackTo name) none no_rows begin commit rollback back savepoint release = back name refl
no_other_form (statement.Savepoint name) none no_rows begin commit rollback back savepoint release = savepoint name refl
no_other_form (statement.Release name) none no_rows begin commit rollback back savepoint release = release name refl
no_other_form (statement.Checkpoint mode) none no_rows begin commit rollback back savepoint release = never no_rows

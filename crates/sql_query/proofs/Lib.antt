pub mod ChangeLaws
pub mod InsertLaws
pub mod JoinLaws
pub mod QueryLaws
pub mod ResultLaws
pub mod SelectLaws

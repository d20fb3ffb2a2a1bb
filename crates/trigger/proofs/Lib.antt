mod ChangeRows
pub mod BindingRows
mod EffectRows
mod OnlyTables
mod Updating
mod ReadOnlyViews
pub mod ListedEvents

mod ConnectionRows
pub mod Answered
mod ControlRefusals
pub mod EndedSteps
mod SettledFaults
pub mod Refusals
pub mod Replies
pub mod ErrorCauses
pub mod Settled
pub mod Stepping
pub mod Showing
pub mod Selecting
pub mod SeenPages
pub mod Besides
pub mod FirstPages
pub mod KeptFiles
mod ChangedPages
pub mod ReadingPhases
mod SavedLists
pub mod SavedStates
pub mod SavedPoints
pub mod SavingSteps
pub mod MarksAtBegin
pub mod Beginning
pub mod Applying
pub mod Writing
pub mod Marked
mod NewChanges
pub mod Committing
pub mod CommitCrashes
pub mod CommitSteps
pub mod Executing
pub mod FilesAlone
mod SameViews
mod Copied
mod Leasts
mod CheckpointSteps
mod CopyFrames
pub mod Fresh
pub mod StatementCauses
mod WellFormedRows
pub mod StandingViews
pub mod Standing
pub mod StoredFiles
pub mod Parking
mod Alike
pub mod Switching
pub mod FirstRefusals
mod OtherForms
mod Turning
pub mod LookingOnly

pub mod AloneFiles
pub mod ConvertedFiles
pub mod Preparation
pub mod EmptyOpening
pub mod HeldOpening
pub mod HeldCrashes
pub mod Crashed
pub mod LineLaws
pub mod LineReading
pub mod CountedCalls
pub mod NewFiles
pub mod NewFileCrashes
pub mod Opened
pub mod BlankFiles
pub mod OpenAnswers
pub mod OpenFaults
pub mod Refusing
pub mod KeptTexts
pub mod TextSteps
pub mod Running
pub mod GivenUp
pub mod Served
pub mod Marked
mod LoadedFiles
mod OneView
mod PastLimits
mod Quotes

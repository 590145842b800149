-- Of every input whatever: statements 7, 8, 9 and 10.
pub mod Unreal
pub mod Gone
pub mod Refusal
pub mod SecondValidation
pub mod PassedRuns
pub mod ValidationRuns
pub mod WholeCalls
pub mod Modest
pub mod Entered
pub mod Confined

pub mod EqualRoots
pub mod Longest
pub mod Loops
pub mod Parted
pub mod PlanResults
pub mod Plans
pub mod Sizes

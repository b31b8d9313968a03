-- The sample plan and its journal, plans with windows, plans with rights records, a plan with branches, and the key that lets runs be computed.
pub mod SamplePlan
pub mod WindowPlans
pub mod RightsPlans
pub mod BranchingPlans
pub mod Computing

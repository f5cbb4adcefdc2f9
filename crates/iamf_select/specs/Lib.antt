pub mod CandidateView
pub mod ElementTests
pub mod Finds
pub mod PlanView

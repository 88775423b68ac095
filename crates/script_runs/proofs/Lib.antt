pub mod CalmLaws
pub mod PlanLemmas
pub mod ScriptLaws
pub mod SpaceLines
pub mod TakenLines
pub mod TurnLemmas

-- Laws of what the plan program prints.
pub mod PlanShown

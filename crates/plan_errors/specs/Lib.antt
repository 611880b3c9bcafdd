pub mod PlanNo

pub mod DemoRun
pub mod RollRun
pub mod Run
pub mod inside

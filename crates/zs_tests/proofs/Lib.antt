pub mod NewTasks

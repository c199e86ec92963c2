-- 02, U12, "Four courses, one log": the shared log with worked examples, a call on four tables, and the room that three of them leave to the fourth.
pub mod Log
pub mod Examples
pub mod Courses
pub mod Room

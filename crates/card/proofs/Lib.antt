-- Laws of the shared log, of what a call on four tables answers and writes, and of the room that three tables leave to the fourth.
pub mod Log
pub mod Examples
pub mod Courses
pub mod Ones
pub mod Room

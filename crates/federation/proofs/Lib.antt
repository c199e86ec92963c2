-- Laws of the calls on four tables: by the number of the course, and of a refusal.
pub mod Numbers
pub mod Blank

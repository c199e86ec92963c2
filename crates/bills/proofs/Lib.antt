-- Laws of the bill: it never falls, it is that of a count that stopped, and 02's two examples.
pub mod Grows

-- What an order of updates as a file says (02, U13), when it fits, and the test that the code runs.
pub mod File
pub mod Fits
pub mod Test
pub mod Checks

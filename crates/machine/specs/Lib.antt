-- What a reader has to believe of the machine: the layout, own and inherited lists, and the flags that a table keeps of a run.
pub mod Machine

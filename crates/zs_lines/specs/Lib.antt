-- What the clauses of callers name, and so what has to be believed.
pub mod Lines
pub mod Buffers
pub mod Streams
pub mod Numbers

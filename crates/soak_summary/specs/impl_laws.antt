-- What the counter keeps of the law of outputs. No contract cites it.
pub mod Told

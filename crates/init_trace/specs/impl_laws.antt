-- What the printer keeps of the law of outputs. No contract cites it.
pub mod Told

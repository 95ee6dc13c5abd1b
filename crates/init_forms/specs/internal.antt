-- What private functions say of themselves. No promise of the program cites it, and a reader needn't believe it.
pub mod Judging
pub mod Serving

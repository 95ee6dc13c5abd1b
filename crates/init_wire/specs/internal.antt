-- What private functions say of themselves. No promise of the crate cites it, and a reader needn't believe it.
pub mod Booted

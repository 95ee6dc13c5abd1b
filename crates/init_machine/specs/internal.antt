-- The nodes that a name lacks, for the laws and for the proofs of stores. The definitions that contracts cite stand beside this folder.
pub mod Nodes

-- Why each step keeps its rule. These are the proofs of laws of an impl, which may cite no others: the definitions that
-- contracts cite stand beside this folder. First what serves any table with cells; from `OneFrame` on the table of one cell.
pub mod Serials
pub mod Places
pub mod Sets
pub mod Bodies
pub mod CellWords
pub mod Worlds
pub mod Lists
pub mod Reads
pub mod OneFrame
pub mod OneBackup
pub mod OneDirty
pub mod OneValue
pub mod OneClean
pub mod OnePresent
pub mod OneFirst
pub mod OneCopied
pub mod OneLast
pub mod OneLists

-- The texts of a tree that aren't rc files: the property policy, and the build files.
use Rattle.std.specs.Prelude.{ℕ, ◌<◌, ◌≤◌, ◌⊎◌, List, [], codes, length}
use Rattle.init_base.specs.Tree.{file_at}
pub use Rattle.rc_import.specs.BuildFiles.{Tree, build_text, bytes_or, faults_of, pairs_of, system_path, vendor_path}

-- ---- the policy

abbrev pub contexts_path : List ℕ
contexts_path = codes "/property_contexts"

abbrev pub allow_path : List ℕ
allow_path = codes "/property_allow"

-- an absent contexts file counts as one line
abbrev pub contexts_text : Tree → List ℕ
contexts_text tree = bytes_or (codes "* default_prop") (file_at tree contexts_path)

-- an absent allow file counts as empty
abbrev pub allow_text : Tree → List ℕ
allow_text tree = bytes_or [] (file_at tree allow_path)

-- ---- the limit of a file, 1,048,576 bytes

abbrev pub AreShort : List ℕ → List ℕ → Type 0
AreShort one other = (length one ≤ 1048576) × (length other ≤ 1048576)

abbrev pub IsOneLong : List ℕ → List ℕ → Type 0
IsOneLong one other = (1048576 < length one) ⊎ (1048576 < length other)

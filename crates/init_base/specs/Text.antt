-- Where the bytes of a text are: short ones in place, and others as a part of bytes that several texts share, in one block with their
-- count or in two.
use Rattle.std.specs.Prelude.{ℕ, ◌≤◌, List, length, take, slice_range}
use Rattle.std.specs.Arc.{arc_value}
use Rattle.init_base.specs.declared.text.Form.{Form}
use Rattle.init_base.specs.declared.text.Form.TheVariants.{Block, Inline, Shared}

-- the bytes of a text
abbrev pub form_bytes : Form → List ℕ
form_bytes (Inline len bytes) = take len bytes
form_bytes (Block owner from to) = slice_range (arc_value owner) from to
form_bytes (Shared owner from to) = slice_range (arc_value owner).items from to

-- the bytes are there
abbrev pub IsForm : Form → Type 0
IsForm (Inline len bytes) = len ≤ 22
IsForm (Block owner from to) = (from ≤ to) × (to ≤ 56)
IsForm (Shared owner from to) = (from ≤ to) × (to ≤ length (arc_value owner).items)

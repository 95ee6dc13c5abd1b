-- The protocol of the queue. What a session has pushed is what the worker has popped of it, and then what the queue holds of it, in order.
use Rattle.std.specs.Prelude.{◌≡◌, ◌==◌, ℕ, ◌<◌, ◌≤◌, true, List, [], ◌∷◌, ◌++◌, length, if◌then◌else◌, slice_index_or}
use mathlib.Core.Option.{some}
use lib.ListN.{get_elem?}
use Rattle.init_machine.specs.declared.config.Pair.{Pair}
use Rattle.prop_dispatch.specs.declared.protocol.Item.{Item}
use Rattle.prop_dispatch.specs.declared.protocol.View.{View}

-- the requests of a session among these items, in order
abbrev pub pairs_of : ℕ → List Item → List Pair
pairs_of session [] = []
pairs_of session (item ∷ items) =
    if item.session == session then item.request ∷ pairs_of session items else pairs_of session items

-- Each session has one pass, which knows what the session has pushed: so many passes were made, and so many were taken in again. `all` is
-- what was popped, and then what the queue holds.
abbrev pub FitsSession : (ℕ → ℕ) → ℕ → ℕ → List Item → ℕ → View → Type 0
FitsSession port_of ended made all port v =
    v.sends ≡ true → (port_of v.from ≡ port) × (ended ≤ v.from) × (v.from < made) × (pairs_of v.from all ≡ v.put)

-- the worker's pass is the only one that pops
abbrev pub FitsWorker : ℕ → ℕ → List Item → List (List Pair) → ℕ → View → Type 0
FitsWorker worker made got done port v = v.gets ≡ true → (port ≡ worker) × (v.made ≡ made) × (v.got ≡ got) × (v.done ≡ done)

-- the rule, over what the queue holds and what each pass knows
pub record KeepsOrder (items : List Item) (views : List View) : Type 0 where
  pub worker : ℕ
  pub port_of : ℕ → ℕ
  pub made : ℕ
  pub got : List Item
  pub done : List (List Pair)
  pub ended : (k : ℕ) → k < length done → pairs_of k (got ++ items) ≡ slice_index_or done k []
  pub unmade : (k : ℕ) → made ≤ k → pairs_of k (got ++ items) ≡ []
  pub within : length done ≤ made
  pub each : (port : ℕ) (v : View) → get_elem? views port ≡ some v
      → FitsSession port_of (length done) made (got ++ items) port v × FitsWorker worker made got done port v

-- what the worker learns of what the queue holds: of the sessions that have ended, all requests were popped or are in the queue; and
-- there are no others
pub record Accounts (v : View) (items : List Item) : Type 0 where
  pub ended : (k : ℕ) → k < length v.done → pairs_of k (v.got ++ items) ≡ slice_index_or v.done k []
  pub unmade : (k : ℕ) → v.made ≤ k → pairs_of k (v.got ++ items) ≡ []

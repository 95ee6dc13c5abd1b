-- How a core lends its store.
use Rattle.std.specs.Borrow.{Lends, MutBor, Fml}
use denote.RattleType.{RattleType}
use Rattle.init_machine.specs.declared.store.PropStore as store
use Rattle.outputs.specs.declared.Outputs as outputs
use Rattle.init_core.specs.Core.{CoreView}
use Rattle.init_core.specs.contracts.machine.Core as core

-- when the loan ends, the core has the store as it was left, with its properties in the state, and nothing else has changed
abbrev pub LendsStore : (S O : RattleType) → store.Ghosts S.Denot → outputs.Ghosts O.Denot → MutBor (CoreView S.Denot) → MutBor S.Denot → Fml
LendsStore S O g h taken lent =
    Lends (core.the_row S O g h) S taken lent (λ now. record taken.now { store = now; state = record taken.now.state { props = g.meaning now } })

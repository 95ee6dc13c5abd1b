-- What passes know.
use Rattle.std.specs.Prelude.{ℕ, true, false, List, []}
use Rattle.init_machine.specs.declared.config.Pair.{Pair}
use Rattle.prop_dispatch.specs.declared.protocol.Item.{Item}
use Rattle.prop_dispatch.specs.declared.protocol.View.{View}

-- a session has pushed this
abbrev pub session_view : ℕ → List Pair → View
session_view from put = record { sends = true; from = from; put = put; gets = false; made = 0; got = []; done = [] }

-- the worker has made passes for so many sessions, has popped this, and has taken in passes of sessions that pushed this
abbrev pub worker_view : ℕ → List Item → List (List Pair) → View
worker_view made got done = record { sends = false; from = 0; put = []; gets = true; made = made; got = got; done = done }

-- a pass that was taken in
abbrev pub spent_view : View
spent_view = record { sends = false; from = 0; put = []; gets = false; made = 0; got = []; done = [] }

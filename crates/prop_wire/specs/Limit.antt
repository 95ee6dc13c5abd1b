-- How much of a stream is served.
use Rattle.std.specs.Prelude.{ℕ, List, take}

-- the most bytes of a stream that are served
abbrev pub max_stream : ℕ
max_stream = 16777216

-- the bytes of a stream that are served
abbrev pub stream_of : List ℕ → List ℕ
stream_of held = take max_stream held

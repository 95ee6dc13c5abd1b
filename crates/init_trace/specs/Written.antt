-- What a call that writes a text to a sink leaves there, where the sink tells what it took.
use Rattle.std.specs.Prelude.{◌≡◌, ℕ, List, ◌++◌, Option, Result, Ok, Err}
use Rattle.std.specs.Io.KnownBytes.{append_known}
use Rattle.init_base.specs.declared.outside.refusal.IoRefusal.{IoRefusal}

-- some front of the text was taken, and nothing else
pub record TakesFront (old new : Option (List ℕ)) (text : List ℕ) : Type 0 where
  pub front : List ℕ
  pub rest : List ℕ
  pub whole : front ++ rest ≡ text
  pub taken : new ≡ append_known old front

-- all of the text is taken where the call answers Ok, else some front of it
abbrev pub Writes : {T : Type 0} → Option (List ℕ) → Option (List ℕ) → Result T IoRefusal → List ℕ → Type 0
Writes old new (Ok value) text = new ≡ append_known old text
Writes old new (Err refusal) text = TakesFront old new text

-- A page is what waits to be written. What was taken and what waits now are what waited before and the text.
pub record Added (old new : Option (List ℕ)) (waited waits text : List ℕ) : Type 0 where
  pub front : List ℕ
  pub whole : front ++ waits ≡ waited ++ text
  pub taken : new ≡ append_known old front

-- a text is added to a page where the call answers Ok, else some front of what waited and the text was taken
abbrev pub Adds : {T : Type 0} → Option (List ℕ) → Option (List ℕ) → Result T IoRefusal → List ℕ → List ℕ → List ℕ → Type 0
Adds old new (Ok value) waited waits text = Added old new waited waits text
Adds old new (Err refusal) waited waits text = TakesFront old new (waited ++ text)

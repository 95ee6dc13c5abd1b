-- Where two lists first differ.
use Rattle.std.specs.Prelude.{◌≡◌, ◌≢◌, ℕ, ◌+◌, List, take, slice_get}

-- the lists are the same before this place, which counts from 1, and differ at it; a list that has ended differs from one that
-- goes on
pub record DifferFirst {A : Type 0} (one other : List A) (number : ℕ) : Type 0 where
  pub place : ℕ
  pub number_is : number ≡ place + 1
  pub same : take place one ≡ take place other
  pub differ : slice_get one place ≢ slice_get other place

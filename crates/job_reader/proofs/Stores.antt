-- What a store that is refused says.
use Rattle.std.proofs.Common.{◌≡◌, ◌≤◌, ◌∙◌, ℕ, List, Option, Some, None, Ok, length, subst}
use Rattle.std.specs.Prelude.{IfSome}
use Rattle.init_base.specs.Keeping.{LoadsHeld}
use Rattle.persist_file.specs.Causes.{IsRefused}
use Rattle.persist_file.specs.declared.refusal.StoreRefusal.{StoreRefusal}
use Rattle.persist_file.specs.declared.refusal.StoreRefusal.TheVariants as refusal
use Rattle.job_reader.specs.Stops.{status_of, store_stop}
use Rattle.job_reader.specs.Store.{StoreSays}

pub store_refused : (held : List ℕ) (why : StoreRefusal) → length held ≤ 33554432 → IsRefused held why → StoreSays held (status_of (store_stop why))
store_refused held (refusal.BadLine line cause) short refused = (short, refused)
store_refused held refusal.NoMemory short refused = tt

-- the text that a keeper gave is no store
pub read_refused : (held : Option (List ℕ)) (bytes text : List ℕ) (why : StoreRefusal) → bytes ≡ text → LoadsHeld held 33554432 (Ok text)
    → length text ≤ 33554432 → IsRefused bytes why → IfSome held (λ h. StoreSays h (status_of (store_stop why)))
read_refused None bytes text why same loads short refused = tt
read_refused (Some held) bytes text why same loads short refused =
    store_refused held why (subst (λ (t : List ℕ). length t ≤ 33554432) loads short) (subst (λ (b : List ℕ). IsRefused b why) (same ∙ loads) refused)

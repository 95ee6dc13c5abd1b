use Rattle.rc_import.proofs.Listed.{listed}
use Rattle.rc_import.proofs.listing.list.Goals as goal

pub returns-in_ok-in_byte_order-in-Ok-Some-clause-names : goal.returns-in_ok-in_byte_order-in-Ok-Some-clause-names
returns-in_ok-in_byte_order-in-Ok-Some-clause-names g c =
    listed _ _ _ _ c.in-Ok-Some.names _ c.bytes.ensures c.in-Ok-Some.field-0-is c.in-Ok-Some.ensures.names c.in-Ok-Some.ensures.bound c.in_ok-in_byte_order-in-Ok-Some.ensures

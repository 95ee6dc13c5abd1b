-- The client's reader, which is away while its message is set.
use Rattle.std.proofs.Common.{◌≡◌, Bool, false, Option, Some, None, IfOk, Result, Ok, Err, refl, sym, subst, ◌∙◌}
use Rattle.atomic_table.specs.Seated.{TableId}
use Rattle.init_base.specs.declared.outside.refusal.IoRefusal.{IoRefusal}
use Rattle.init_base.specs.declared.outside.refusal.IoRefusal.TheVariants as io
use Rattle.property_area.specs.Seats.{Seated}
use Rattle.property_area.specs.declared.view.LogOpening.{LogOpening}
use Rattle.property_service.specs.Service.{DeclaredIn, ServiceView}
use Rattle.wire_format.specs.declared.message.Message.{Message}
use Rattle.prop_wire.specs.Desk.{IsSameClient, SetsMessage}
use Rattle.prop_wire.specs.Refusals.{refusal_of}
use Rattle.prop_wire.specs.internal.Course.{who_in, CanAsk, IsBack, Remains, RemainsServing, SetsFor}
use Rattle.prop_wire.specs.declared.refusal.WireRefusal.{WireRefusal}
use Rattle.prop_wire.specs.declared.refusal.WireRefusal.TheVariants as refusal
use Rattle.prop_wire.specs.declared.reply.Reply.{Reply}

same_client : (reader : Seated) → IsSameClient reader reader
same_client reader = record { table = refl; who = refl; opening = refl }

pub back_self : (area : TableId) (reader : Option Seated) → CanAsk area reader → IsBack reader reader
back_self area None can = can
back_self area (Some reader) can = same_client reader

pub back_then : (a b c : Option Seated) → IsBack a b → IsBack b c → IsBack a c
back_then None b c h k = h
back_then (Some a) None c h k = absurd h
back_then (Some a) (Some b) None h k = k
back_then (Some a) (Some b) (Some c) h k = record { table = k.table ∙ h.table; who = k.who ∙ h.who; opening = k.opening ∙ h.opening }

pub who_back : (a b : Option Seated) → IsBack a b → who_in b ≡ who_in a
who_back None b h = absurd h
who_back (Some a) None h = absurd h
who_back (Some a) (Some b) h = h.who

pub can_back : (area : TableId) (a b : Option Seated) → IsBack a b → CanAsk area a → CanAsk area b
can_back area None b h can = absurd h
can_back area (Some a) None h can = absurd h
can_back area (Some a) (Some b) h can =
    (h.table ∙ can.0, subst (λ (o : Option LogOpening). DeclaredIn o b.view.who) (sym h.opening) (subst (λ n. DeclaredIn a.view.opening n) (sym h.who) can.1))

-- the reader that is lent
pub can_lent : (area : TableId) (reader : Option Seated) (lent : Seated) → reader ≡ Some lent → CanAsk area reader
    → (lent.table ≡ area) × DeclaredIn lent.view.opening lent.view.who
can_lent area reader lent is can = subst (λ (r : Option Seated). CanAsk area r) is can

pub sets_lent : {E : Type 0} (r : Result (Option Reply) E) (old new : ServiceView) (reader back : Option Seated) (lent : Seated) (message : Message) → reader ≡ Some lent
    → IfOk r (λ reply. SetsMessage old new lent back message reply) → IfOk r (λ reply. SetsFor old new reader back message reply)
sets_lent (Ok reply) old new reader back lent message is h = subst (λ (s : Option Seated). SetsFor old new s back message reply) (sym is) h
sets_lent (Err why) old new reader back lent message is h = tt

-- ---- what remains of it after a call

pub set_back : (old new : ServiceView) (reader back : Option Seated) (message : Message) (reply : Option Reply) → SetsFor old new reader back message reply
    → IsBack reader back
set_back old new None back message reply h = h
set_back old new (Some reader) back message reply h = h.comes_back

pub set_ready : (old new : ServiceView) (reader back : Option Seated) (message : Message) (reply : Option Reply) → SetsFor old new reader back message reply
    → new.spent ≡ false
set_ready old new None back message reply h = absurd h
set_ready old new (Some reader) back message reply h = h.ready

pub remains_all : {T : Type 0} (r : Result T IoRefusal) (reader back : Option Seated) (spent : Bool) → IsBack reader back → spent ≡ false → Remains r reader back spent
remains_all (Ok value) reader back spent h ready = (h, ready)
remains_all (Err io.Failed) reader back spent h ready = (h, ready)
remains_all (Err io.NoMemory) reader back spent h ready = tt

pub remains_behind : (T U : Type 0) (why : IoRefusal) (a b c : Option Seated) (spent : Bool) → IsBack a b → Remains {T = T} (Err why) b c spent → Remains {T = U} (Err why) a c spent
remains_behind T U io.Failed a b c spent h k = (back_then a b c h k.0, k.1)
remains_behind T U io.NoMemory a b c spent h k = tt

pub serving_all : {T : Type 0} (r : Result T WireRefusal) (reader back : Option Seated) (spent : Bool) → IsBack reader back → spent ≡ false → RemainsServing r reader back spent
serving_all (Ok value) reader back spent h ready = (h, ready)
serving_all (Err refusal.Spent) reader back spent h ready = tt
serving_all (Err (refusal.BadCommand at word)) reader back spent h ready = (h, ready)
serving_all (Err (refusal.BadLength at len)) reader back spent h ready = (h, ready)
serving_all (Err (refusal.TooLong taken)) reader back spent h ready = (h, ready)
serving_all (Err (refusal.Torn at)) reader back spent h ready = (h, ready)
serving_all (Err refusal.ReadFault) reader back spent h ready = (h, ready)
serving_all (Err refusal.WriteFault) reader back spent h ready = (h, ready)
serving_all (Err refusal.NoMemory) reader back spent h ready = tt

pub serving_of : (T U : Type 0) (why : IoRefusal) (a b : Option Seated) (spent : Bool) → Remains {T = T} (Err why) a b spent → RemainsServing {T = U} (Err (refusal_of why)) a b spent
serving_of T U io.Failed a b spent h = h
serving_of T U io.NoMemory a b spent h = tt

pub serving_behind : (T U : Type 0) (why : WireRefusal) (a b c : Option Seated) (spent : Bool) → IsBack a b → RemainsServing {T = T} (Err why) b c spent
    → RemainsServing {T = U} (Err why) a c spent
serving_behind T U refusal.Spent a b c spent h k = tt
serving_behind T U (refusal.BadCommand at word) a b c spent h k = (back_then a b c h k.0, k.1)
serving_behind T U (refusal.BadLength at len) a b c spent h k = (back_then a b c h k.0, k.1)
serving_behind T U (refusal.TooLong taken) a b c spent h k = (back_then a b c h k.0, k.1)
serving_behind T U (refusal.Torn at) a b c spent h k = (back_then a b c h k.0, k.1)
serving_behind T U refusal.ReadFault a b c spent h k = (back_then a b c h k.0, k.1)
serving_behind T U refusal.WriteFault a b c spent h k = (back_then a b c h k.0, k.1)
serving_behind T U refusal.NoMemory a b c spent h k = tt

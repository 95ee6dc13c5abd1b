-- What a desk does with a client's message.
use Rattle.std.specs.Prelude.{◌≡◌, ◌++◌, false, [], ◌∷◌, Option, IsSomeAnd}
use Rattle.property_area.specs.Seats.{Seated}
use Rattle.property_service.specs.Service.{ServiceView}
use Rattle.property_service.specs.Settings.{set_entry}
use Rattle.wire_format.specs.declared.message.Message.{Message}
use Rattle.prop_wire.specs.Replies.{reply_in}
use Rattle.prop_wire.specs.declared.reply.Reply.{Reply}

-- the reader is of the same area and client, and knows the same opening
pub record IsSameClient (reader back : Seated) : Type 0 where
  pub table : back.table ≡ reader.table
  pub who : back.view.who ≡ reader.view.who
  pub opening : back.view.opening ≡ reader.view.opening

-- The history gains the entry of the message's set by the reader's client, and the reply is that of this entry. The reader comes back.
pub record SetsMessage (old new : ServiceView) (reader : Seated) (back : Option Seated) (message : Message) (reply : Option Reply) : Type 0 where
  pub history : new.history ≡ old.history ++ set_entry old reader message.name message.value ∷ []
  pub opening : new.opening ≡ old.opening
  pub replied : reply ≡ reply_in (set_entry old reader message.name message.value).outputs
  pub comes_back : IsSomeAnd back (IsSameClient reader)
  pub ready : new.spent ≡ false

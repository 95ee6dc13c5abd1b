-- Messages that can be served are served to their end, or refused by a fault alone, or for want of memory.
use Rattle.std.proofs.Common.{◌≡◌, ℕ, List, [], Option, Some, None, refl, sym, ◌∙◌, subst, inl, inr}
use Rattle.std.specs.Prelude.{IsSomeAnd}
use Rattle.command_line.specs.declared.form.Form.TheVariants.{Wire}
use Rattle.job_reader.specs.Counts.{AreCounted, Counts, IsDoneUnlessRisen}
use Rattle.job_reader.specs.Store.{HasStore}
use Rattle.job_reader.specs.Tree.{IsWorldOf}
use Rattle.job_reader.specs.declared.status.Status.{Status}
use Rattle.job_reader.specs.declared.status.Status.TheVariants as status
use Rattle.rc_import.specs.World.{World}
use Rattle.init_forms.proofs.OneStatus.{CanOpen, Comes, comes, machine_not}
use Rattle.init_forms.proofs.Streams.{messages_are_done, one_stream_status}
use Rattle.init_forms.specs.Outcome.{ComesTo, Ends, Outcome, Shown, Shows, Sources, TellRun, Told, status_of_outcome}
use Rattle.init_forms.specs.Serving.{AreMessages}
use Rattle.init_forms.specs.Top.{CanServe}

of_done : (how : Status) (before now : Counts) → how ≡ status.Done → IsDoneUnlessRisen how before now
of_done how before now is = subst (λ (s : Status). IsDoneUnlessRisen s before now) (sym is) tt

module _ (told : Told) (can : CanOpen told) (messages : AreMessages told.script) where
  by_outcome : (outcome : Outcome) → Comes (Some Wire) told outcome → status_of_outcome outcome ≡ status.Done
  by_outcome outcome (inl refused) = absurd (machine_not told (status_of_outcome outcome) can refused)
  by_outcome outcome (inr ends) = one_stream_status told.script (status_of_outcome outcome) status.Done ends.1 (messages_are_done told.script messages)

  is_done : (how : Status) (shown : Shown) → (outcome : Outcome) × ComesTo (Some Wire) told outcome × (how ≡ status_of_outcome outcome) × Shows outcome shown → how ≡ status.Done
  is_done how shown ends = ends.2 ∙ by_outcome ends.0 (comes (Some Wire) told ends.0 ends.1)

  whole : (how : Status) (shown : Shown) (before now : Counts) → Ends (Some Wire) told how shown → AreCounted how before now → IsDoneUnlessRisen how before now
  whole status.Done shown before now ends counted = tt
  whole status.Usage shown before now ends counted = of_done status.Usage before now (is_done status.Usage shown ends)
  whole status.ReadFault shown before now ends counted = counted.0
  whole status.WriteFault shown before now ends counted = counted.0
  whole status.NoMemory shown before now ends counted = tt
  whole (status.BadScript line) shown before now ends counted = of_done (status.BadScript line) before now (is_done (status.BadScript line) shown ends)
  whole status.NoInit shown before now ends counted = of_done status.NoInit before now (is_done status.NoInit shown ends)
  whole (status.TooLarge limit number) shown before now ends counted =
      of_done (status.TooLarge limit number) before now (is_done (status.TooLarge limit number) shown ends)
  whole (status.BadPolicy allow line) shown before now ends counted =
      of_done (status.BadPolicy allow line) before now (is_done (status.BadPolicy allow line) shown ends)
  whole (status.BadStore line why) shown before now ends counted =
      of_done (status.BadStore line why) before now (is_done (status.BadStore line why) shown ends)
  whole (status.BadWire at) shown before now ends counted = of_done (status.BadWire at) before now (is_done (status.BadWire at) shown ends)
  whole status.BadTrace shown before now ends counted = of_done status.BadTrace before now (is_done status.BadTrace shown ends)

-- what is told of a stream and a store that are known
with_told : (script held : Option (List ℕ)) (world : World) (P : List ℕ → List ℕ → Type 0) → IsSomeAnd script AreMessages → IsSomeAnd held HasStore
    → ((bytes text : List ℕ) → script ≡ Some bytes → held ≡ Some text → AreMessages bytes → HasStore text → P bytes text) → (bytes : List ℕ) × (text : List ℕ) × P bytes text
with_told None held world P messages store h = absurd messages
with_told (Some bytes) None world P messages store h = absurd store
with_told (Some bytes) (Some text) world P messages store h = (bytes, text, h bytes text refl refl messages store)

pub complete_wire : (how : Status) (sources : Sources) (world : World) (shown : Shown) (before now : Counts)
    → ((told : Told) → TellRun sources told → Ends (Some Wire) told how shown) → AreCounted how before now → IsWorldOf sources.tree world → CanServe sources world
    → IsDoneUnlessRisen how before now
complete_wire how sources world shown before now ends counted is can =
    (with_told sources.script sources.held world (λ bytes text. IsDoneUnlessRisen how before now) can.messages can.store
    (λ bytes text script held messages store.
    let told : Told = record { script = bytes; world = world; held = text; trace = [] } in
    whole told (record { policy = can.world_is_fit.0; files = can.world_is_fit.1; store = store }) messages how shown before now
    (ends told (record { script_is = script; world_is = is; held_is = held })) counted)).2

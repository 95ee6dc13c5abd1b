-- Taking events from a queue in which no mark waits leaves none.
use Rattle.std.proofs.Common.{◌≡◌, ℕ, zero, suc, ◌+◌, Bool, false, ◌&&◌, nat_lt, nat_le, cond, List, [], ◌∷◌, length, drop, refl, ap, ◌∙◌, arith}
use Rattle.std.specs.List.{list_any, position_or_len}
use Rattle.init_machine.specs.Taking.{taken_now, taken_from, events_to_take, past_mark, is_mark, is_matched}
use Rattle.init_machine.specs.declared.action.Action.{Action}
use Rattle.init_machine.specs.declared.action.Command.{Command}
use Rattle.init_machine.specs.declared.event.Event.{Event}
use Rattle.init_machine.specs.declared.event.Event.TheVariants.{Named, Change, AllProperties, Mark}

none_before_end : (events : List Event) → list_any is_mark events ≡ false → nat_lt (position_or_len is_mark events) (length events) ≡ false
none_before_end [] none = refl
none_before_end (Named name ∷ rest) none = let more = none_before_end rest none in grind (arith, more)
none_before_end (Change pair ∷ rest) none = let more = none_before_end rest none in grind (arith, more)
none_before_end (AllProperties ∷ rest) none = let more = none_before_end rest none in grind (arith, more)
none_before_end (Mark ∷ rest) none = absurd (cc)

none_behind : (n : ℕ) (events : List Event) → list_any is_mark events ≡ false → list_any is_mark (drop n events) ≡ false
none_behind zero events none = none
none_behind (suc n) [] none = refl
none_behind (suc n) (Named name ∷ rest) none = none_behind n rest none
none_behind (suc n) (Change pair ∷ rest) none = none_behind n rest none
none_behind (suc n) (AllProperties ∷ rest) none = none_behind n rest none
none_behind (suc n) (Mark ∷ rest) none = absurd (cc)

module _ (triggers : Event → Action → Bool) (actions : List Action) where
  same_to_take : (events : List Event) → list_any is_mark events ≡ false → events_to_take triggers actions events ≡ events
  same_to_take events none =
      ap (λ b. cond (b && nat_le (position_or_len is_mark events) (position_or_len (is_matched triggers actions) events)) (past_mark events) events) (none_before_end events none)

  pub none_left : (running : List (List Command)) (events : List Event) → list_any is_mark events ≡ false → list_any is_mark (taken_now triggers actions running events).events ≡ false
  unfolding taken_now
  none_left [] events none =
      ap (λ (es : List Event). list_any is_mark (taken_from triggers actions es).events) (same_to_take events none)
      ∙ none_behind (position_or_len (is_matched triggers actions) events + 1) events none
  none_left (commands ∷ rest) events none = none

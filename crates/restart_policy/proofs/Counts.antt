-- What the counts by place mean after one more exit.
use Rattle.std.proofs.Common.{◌≡◌, ℕ, zero, suc, ◌<◌, Bool, List, [], ◌∷◌, map, set, get_or, length, refl, sym, ap, ◌∙◌, arith}
use Rattle.std.proofs.lemmas.List.{map-set}
use Rattle.init_machine.specs.Reaping.{counted}
use Rattle.init_machine.specs.State.{Exits, no_exits}
use Rattle.restart_policy.specs.Exits.{counted_of, exits_behind}
use Rattle.restart_policy.specs.declared.exits.Counted.{Counted}

exits_there : (counts : List Counted) (at : ℕ) (d : Counted) (e : Exits) → at < length counts → get_or (map counted_of counts) at e ≡ counted_of (get_or counts at d)
exits_there [] at d e within = absurd (omega arith)
exits_there (x ∷ counts) zero d e within = refl
exits_there (x ∷ counts) (suc at) d e within = exits_there counts at d e (omega arith)

module _ (counts : List Counted) (at window now : ℕ) (booted : Bool) (old new : Counted) (within : at < length counts) (is_old : old ≡ get_or counts at old)
    (more : counted_of new ≡ counted booted now window (counted_of old)) where
  pub one_more : counted_of new ≡ exits_behind (map counted_of counts) at window booted now
  one_more = more ∙ ap (counted booted now window) (ap counted_of is_old ∙ sym (exits_there counts at old no_exits within))

  pub with_more : map counted_of (set counts at new) ≡ set (map counted_of counts) at (exits_behind (map counted_of counts) at window booted now)
  with_more = map-set counted_of counts at new ∙ ap (set (map counted_of counts) at) one_more

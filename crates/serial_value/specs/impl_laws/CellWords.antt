-- The words of a cell after each store of an update.
use Rattle.std.proofs.Common.{ℕ, ◌+◌, ◌<◌, ◌≤◌, List, length, get_or, set, sym, ap, ◌∙◌, arith, get_or-set_other, get_or-set_same}
use mathlib.Core.Logic.{dite}
use native.Mathlib.Decide.{ℕ_discrete}
use Rattle.init_machine.specs.Serial.{top_byte, clean_serial, dirty_serial}
use Rattle.serial_value.specs.Words.{body_word}
use Rattle.serial_value.specs.One.{CellHolds}
use Rattle.serial_value.specs.impl_laws.Bodies.{short_size}

module _ (words : List ℕ) (place number : ℕ) (value new : List ℕ) (above : 16 ≤ place) (inside : place + 13 ≤ length words) where
  pub cell_backup : (new' : List ℕ) (k : ℕ) → k < 12 → CellHolds words place number value new k
      → CellHolds (set words (4 + k) (body_word value k)) place number value new' (k + 1)
  cell_backup new' k small h = let w = body_word value k in record {
    clean = λ _. get_or-set_other words (4 + k) place w 0 (λ e. omega arith) ∙ h.clean (omega arith);
    dirty = λ done. absurd (omega arith);
    backup = λ j short done. dite (ℕ_discrete j k)
        (λ e. ap (λ (i : ℕ). get_or (set words (4 + k) w) (4 + i) 0) e ∙ (get_or-set_same words (4 + k) w 0 (omega arith) ∙ ap (body_word value) (sym e)))
        (λ other. get_or-set_other words (4 + k) (4 + j) w 0 (λ e. other (omega arith)) ∙ h.backup j short (omega arith));
    stored = λ j short done. absurd (omega arith);
    kept = λ j short done. get_or-set_other words (4 + k) (place + 1 + j) w 0 (λ e. omega arith) ∙ h.kept j short (omega arith);
  }

  pub cell_dirty : length value ≤ 91 → CellHolds words place number value new 12
      → CellHolds (set words place (dirty_serial (clean_serial (top_byte value) number))) place number value new 13
  cell_dirty few h = let w = dirty_serial (clean_serial (top_byte value) number) in let size = short_size value few in record {
    clean = λ done. absurd (omega arith);
    dirty = λ _. get_or-set_same words place w 0 (omega arith);
    backup = λ j short done. get_or-set_other words place (4 + j) w 0 (λ e. omega arith) ∙ h.backup j short (omega arith);
    stored = λ j short done. absurd (omega arith);
    kept = λ j short done. get_or-set_other words place (place + 1 + j) w 0 (λ e. omega arith) ∙ h.kept j short (omega arith);
  }

  pub cell_value : length value ≤ 91 → (k : ℕ) → k < 12 → CellHolds words place number value new (13 + k)
      → CellHolds (set words (place + 1 + k) (body_word new k)) place number value new (13 + k + 1)
  cell_value few k small h = let w = body_word new k in let size = short_size value few in record {
    clean = λ done. absurd (omega arith);
    dirty = λ _. get_or-set_other words (place + 1 + k) place w 0 (λ e. omega arith) ∙ h.dirty (omega arith);
    backup = λ j short done. get_or-set_other words (place + 1 + k) (4 + j) w 0 (λ e. omega arith) ∙ h.backup j short (omega arith);
    stored = λ j short done. dite (ℕ_discrete j k)
        (λ e. ap (λ (i : ℕ). get_or (set words (place + 1 + k) w) (place + 1 + i) 0) e ∙ (get_or-set_same words (place + 1 + k) w 0 (omega arith) ∙ ap (body_word new) (sym e)))
        (λ other. get_or-set_other words (place + 1 + k) (place + 1 + j) w 0 (λ e. other (omega arith)) ∙ h.stored j short (omega arith));
    kept = λ j short done. get_or-set_other words (place + 1 + k) (place + 1 + j) w 0 (λ e. omega arith) ∙ h.kept j short (omega arith);
  }

  pub cell_clean : length new ≤ 91 → (number' : ℕ) (new' : List ℕ) → CellHolds words place number value new 25
      → CellHolds (set words place (clean_serial (top_byte new) number')) place number' new new' 0
  cell_clean few number' new' h = let w = clean_serial (top_byte new) number' in let size = short_size new few in record {
    clean = λ _. get_or-set_same words place w 0 (omega arith);
    dirty = λ done. absurd (omega arith);
    backup = λ j short done. absurd (omega arith);
    stored = λ j short done. absurd (omega arith);
    kept = λ j short done. get_or-set_other words place (place + 1 + j) w 0 (λ e. omega arith) ∙ h.stored j short (omega arith);
  }

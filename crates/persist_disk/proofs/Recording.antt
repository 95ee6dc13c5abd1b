-- One step more in the record of a disk in memory.
use Rattle.std.proofs.Common.{◌≡◌, inl, inr, ⊎_elim, ℕ, ◌≤◌, List, [], ◌∷◌, ◌++◌, length, reverse, sym, ◌∙◌, ap, subst, arith}
use Rattle.std.proofs.lemmas.List.{reverse-append}
use Rattle.init_base.specs.Crash.{LeavesAlone, LeavesNoOther}
use Rattle.persist_disk.specs.DiskModel.{LeavesTorn, Torn}
use Rattle.persist_disk.specs.Record.{content_after, left_now, none_later, reaches_back, read_is_left, CrashLeaves, LeftSince}
use Rattle.persist_disk.specs.declared.mem_disk.DiskStep.{DiskStep}
use Rattle.persist_disk.specs.declared.mem_disk.DiskStep.TheVariants.{Write, Sync}

pub newest : (steps more : List DiskStep) (before : List DiskStep) (step : DiskStep) → more ≡ steps ++ step ∷ [] → reverse steps ≡ before → reverse more ≡ step ∷ before
newest steps more before step more_is before_is = ap reverse more_is ∙ reverse-append steps (step ∷ []) ∙ ap (λ (l : List DiskStep). step ∷ l) before_is

module _ (start same : List ℕ) (steps now : List DiskStep) (same_is : same ≡ start) where
  pub sync_no_other : now ≡ Sync ∷ steps → LeavesNoOther (length steps) (LeftSince start steps) (LeftSince same now)
  sync_no_other now_is =
      subst (λ (l : List DiskStep). LeavesNoOther (length steps) (LeftSince start steps) (LeftSince same l)) (sym now_is)
      (subst (λ (s : List ℕ). LeavesNoOther (length steps) (LeftSince start steps) (LeftSince s (Sync ∷ steps))) (sym same_is) (λ m bytes le left.
      ⊎_elim
      (λ (at : (m ≤ length (Sync ∷ steps)) × CrashLeaves start (Sync ∷ steps) bytes).
      let here : CrashLeaves start steps bytes = subst (λ (l : List ℕ). CrashLeaves start steps l) (sym at.1) (read_is_left start steps) in
      reaches_back start steps m (length steps) bytes le (left_now start steps bytes here))
      (λ past. past)
      left))

  pub sync_safe : now ≡ Sync ∷ steps → LeavesAlone (LeftSince same now (length now)) (content_after same now)
  sync_safe now_is =
      subst (λ (l : List DiskStep). LeavesAlone (LeftSince same l (length l)) (content_after same l)) (sym now_is) (λ bytes. (
        λ left. ⊎_elim
            (λ (at : (length (Sync ∷ steps) ≤ length (Sync ∷ steps)) × CrashLeaves same (Sync ∷ steps) bytes). at.1)
            (λ past. let le = none_later same steps (length (Sync ∷ steps)) bytes past in absurd (omega arith))
            left,
        λ is. inl (omega arith, is),
      ))

  pub write_torn : (at : ℕ) (text bytes : List ℕ) → text ≡ bytes → now ≡ Write at text ∷ steps → LeavesTorn (length steps) (LeftSince start steps) (LeftSince same now) at (length bytes)
  write_torn at text bytes text_is now_is =
      subst (λ (l : List DiskStep). LeavesTorn (length steps) (LeftSince start steps) (LeftSince same l) at (length bytes)) (sym now_is)
      (subst (λ (s : List ℕ). LeavesTorn (length steps) (LeftSince start steps) (LeftSince s (Write at text ∷ steps)) at (length bytes)) (sym same_is) (λ m image le left.
      ⊎_elim
      (λ (here : (m ≤ length (Write at text ∷ steps)) × CrashLeaves start (Write at text ∷ steps) image).
      inr (here.1.0, left_now start steps here.1.0 here.1.1, subst (λ (l : List ℕ). Torn at (length l) here.1.0 image) text_is here.1.2))
      (λ past. inl past)
      left))

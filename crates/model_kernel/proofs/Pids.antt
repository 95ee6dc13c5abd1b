-- Processes in ascending order of their pids: which end, what is told of them, and what is left.
use Rattle.std.proofs.Common.{◌≡◌, ℕ, ◌+◌, ◌<◌, Bool, true, false, cond, not, ◌&&◌, ◌||◌, eqb, List, [], ◌∷◌, ◌++◌, map, filter, fold, Some, refl, sym, ap, ◌∙◌, subst, arith, if◌then◌else◌}
use Rattle.std.proofs.lemmas.Grind.{common_steps}
use Rattle.std.specs.List.{cons_option, list_any}
use Rattle.std.specs.List.Sorted.{IsStrictlySortedBy}
use Rattle.std.specs.Ordering.{nat_cmp}
use Rattle.collections.proofs.Ascending.{AreAbove, Ascends, itself, none_above, same_ascending, ascends_from_sorted}
use Rattle.init_machine.specs.Kernel.{Process, has_ended, marked}
use Rattle.model_kernel.specs.Living.{AreBelow, found, is_over, pids, with_pid, without_pid}

differs_above : (x y : ℕ) → x < y → eqb y x ≡ false
differs_above x y below = grind (arith, common_steps)

differs_below : (x y : ℕ) → x < y → eqb x y ≡ false
differs_below x y below = grind (arith, common_steps)

flip : (x y : ℕ) → eqb x y ≡ eqb y x
flip x y = grind (arith, common_steps)

same_number : (x y : ℕ) → eqb x y ≡ true → x ≡ y
same_number x y e = grind (arith, common_steps)

-- none of the processes above is taken away
none_gone : (pid : ℕ) (ps : List Process) → AreAbove pid (pids ps) → without_pid ps pid ≡ ps
none_gone pid [] above = refl
none_gone pid (p ∷ ps) above =
    let rest = none_gone pid ps above.1 in
    λ i. cond (not (differs_above pid p.pid above.0 i)) (p ∷ rest i) (rest i)

above_filter : (pid : ℕ) (h : Process → Bool) (ps : List Process) → AreAbove pid (pids ps) → AreAbove pid (pids (filter h ps))
above_filter pid h [] above = tt
above_filter pid h (p ∷ ps) above = by (h p) (above_filter pid h ps above.1)
  where
    by : (b : Bool) → AreAbove pid (pids (filter h ps)) → AreAbove pid (pids (cond b (p ∷ filter h ps) (filter h ps)))
    by true rest = (above.0, rest)
    by false rest = rest

filter_ascends : (h : Process → Bool) (ps : List Process) → Ascends (pids ps) → Ascends (pids (filter h ps))
filter_ascends h [] up = tt
filter_ascends h (p ∷ ps) up = by (h p) (filter_ascends h ps up.1)
  where
    by : (b : Bool) → Ascends (pids (filter h ps)) → Ascends (pids (cond b (p ∷ filter h ps) (filter h ps)))
    by true rest = (above_filter p.pid h ps up.0, rest)
    by false rest = rest

-- a process below those that go stays
bury_skips : (p : Process) (ps : List Process) (qs : List ℕ) → AreAbove p.pid qs → fold without_pid (p ∷ ps) qs ≡ p ∷ fold without_pid ps qs
bury_skips p ps [] above = refl
bury_skips p ps (q ∷ qs) above =
    ap (λ b. fold without_pid (cond (not b) (p ∷ without_pid ps q) (without_pid ps q)) qs) (differs_below p.pid q above.0)
    ∙ bury_skips p (without_pid ps q) qs above.1

buried_ascending : (h : Process → Bool) (ps : List Process) → Ascends (pids ps) → fold without_pid ps (pids (filter h ps)) ≡ filter (λ p. not (h p)) ps
buried_ascending h [] up = refl
buried_ascending h (p ∷ ps) up = by (h p) (buried_ascending h ps up.1)
  where
    by : (b : Bool) → fold without_pid ps (pids (filter h ps)) ≡ filter (λ p. not (h p)) ps
        → fold without_pid (p ∷ ps) (pids (cond b (p ∷ filter h ps) (filter h ps))) ≡ cond (not b) (p ∷ filter (λ p. not (h p)) ps) (filter (λ p. not (h p)) ps)
    by true rest =
        ap (λ b. fold without_pid (cond (not b) (p ∷ without_pid ps p.pid) (without_pid ps p.pid)) (pids (filter h ps))) (itself p.pid)
        ∙ ap (λ left. fold without_pid left (pids (filter h ps))) (none_gone p.pid ps up.0) ∙ rest
    by false rest = bury_skips p ps (pids (filter h ps)) (above_filter p.pid h ps up.0) ∙ ap (λ left. p ∷ left) rest

-- those that are left when the processes that end are gone
pub buried : (now : ℕ) (ps : List Process) → IsStrictlySortedBy nat_cmp (pids ps) → fold without_pid ps (pids (filter (has_ended now) ps)) ≡ filter (λ p. not (has_ended now p)) ps
buried now ps sorted = buried_ascending (has_ended now) ps (ascends_from_sorted (pids ps) sorted)

found_skips : (p : Process) (ps : List Process) (qs : List ℕ) → AreAbove p.pid qs → found (p ∷ ps) qs ≡ found ps qs
found_skips p ps [] above = refl
found_skips p ps (q ∷ qs) above =
    let rest = found_skips p ps qs above.1 in
    λ i. cons_option (cond (differs_below p.pid q above.0 i) (Some p) (with_pid ps q)) (rest i)

found_ascending : (h : Process → Bool) (ps : List Process) → Ascends (pids ps) → found ps (pids (filter h ps)) ≡ filter h ps
found_ascending h [] up = refl
found_ascending h (p ∷ ps) up = by (h p) (found_ascending h ps up.1)
  where
    skips : found (p ∷ ps) (pids (filter h ps)) ≡ found ps (pids (filter h ps))
    skips = found_skips p ps (pids (filter h ps)) (above_filter p.pid h ps up.0)

    by : (b : Bool) → found ps (pids (filter h ps)) ≡ filter h ps → found (p ∷ ps) (pids (cond b (p ∷ filter h ps) (filter h ps))) ≡ cond b (p ∷ filter h ps) (filter h ps)
    by true rest =
        ap (λ b. cons_option (cond b (Some p) (with_pid ps p.pid)) (found (p ∷ ps) (pids (filter h ps)))) (itself p.pid)
        ∙ ap (λ left. p ∷ left) (skips ∙ rest)
    by false rest = skips ∙ rest

-- the processes of the pids of those that end
pub found_ended : (now : ℕ) (ps : List Process) → IsStrictlySortedBy nat_cmp (pids ps) → found ps (pids (filter (has_ended now) ps)) ≡ filter (has_ended now) ps
found_ended now ps sorted = found_ascending (has_ended now) ps (ascends_from_sorted (pids ps) sorted)

-- a pid is among those that end where its process does
over_member : (now pid : ℕ) (ps : List Process) → Ascends (pids ps) → list_any (eqb pid) (pids (filter (has_ended now) ps)) ≡ is_over now (with_pid ps pid)
over_member now pid [] up = refl
over_member now pid (p ∷ ps) up = by (eqb pid p.pid) (has_ended now p) refl refl (over_member now pid ps up.1)
  where
    later : List ℕ
    later = pids (filter (has_ended now) ps)

    left : Bool → Bool
    left over = list_any (eqb pid) (pids (cond over (p ∷ filter (has_ended now) ps) (filter (has_ended now) ps)))

    right : Bool → Bool
    right same = is_over now (cond same (Some p) (with_pid ps pid))

    none : eqb pid p.pid ≡ true → list_any (eqb pid) later ≡ false
    none is_same = none_above pid later (subst (λ n. AreAbove n later) (sym (same_number pid p.pid is_same)) (above_filter p.pid (has_ended now) ps up.0))

    by : (same over : Bool) → eqb pid p.pid ≡ same → has_ended now p ≡ over → list_any (eqb pid) later ≡ is_over now (with_pid ps pid)
        → left (has_ended now p) ≡ right (eqb p.pid pid)
    by true true is_same over rest =
        ap left over ∙ ap (λ b. b || list_any (eqb pid) later) is_same ∙ sym over ∙ sym (ap right (flip p.pid pid ∙ is_same))
    by true false is_same over rest = ap left over ∙ none is_same ∙ sym over ∙ sym (ap right (flip p.pid pid ∙ is_same))
    by false true is_same over rest =
        ap left over ∙ ap (λ b. b || list_any (eqb pid) later) is_same ∙ rest ∙ sym (ap right (flip p.pid pid ∙ is_same))
    by false false is_same over rest = ap left over ∙ rest ∙ sym (ap right (flip p.pid pid ∙ is_same))

kept_above : (x : ℕ) (t : ℕ → Bool) (xs : List ℕ) → AreAbove x xs → AreAbove x (filter t xs)
kept_above x t [] above = tt
kept_above x t (y ∷ xs) above = by (t y) (kept_above x t xs above.1)
  where
    by : (b : Bool) → AreAbove x (filter t xs) → AreAbove x (cond b (y ∷ filter t xs) (filter t xs))
    by true rest = (above.0, rest)
    by false rest = rest

kept_ascend : (t : ℕ → Bool) (xs : List ℕ) → Ascends xs → Ascends (filter t xs)
kept_ascend t [] up = tt
kept_ascend t (x ∷ xs) up = by (t x) (kept_ascend t xs up.1)
  where
    by : (b : Bool) → Ascends (filter t xs) → Ascends (cond b (x ∷ filter t xs) (filter t xs))
    by true rest = (kept_above x t xs up.0, rest)
    by false rest = rest

-- of members that pass, those that are there
kept_member : (t : ℕ → Bool) (q : ℕ) (xs : List ℕ) → list_any (eqb q) (filter t xs) ≡ (t q && list_any (eqb q) xs)
kept_member t q [] = by (t q)
  where
    by : (b : Bool) → false ≡ (b && false)
    by true = refl
    by false = refl
kept_member t q (x ∷ xs) = by (eqb q x) (t x) refl refl (kept_member t q xs)
  where
    left : Bool → Bool
    left passes = list_any (eqb q) (cond passes (x ∷ filter t xs) (filter t xs))

    and_true : (b : Bool) → b ≡ (b && true)
    and_true true = refl
    and_true false = refl

    by : (same passes : Bool) → eqb q x ≡ same → t x ≡ passes → list_any (eqb q) (filter t xs) ≡ (t q && list_any (eqb q) xs)
        → left (t x) ≡ (t q && (eqb q x || list_any (eqb q) xs))
    by true true is_same passes rest =
        let at_q : t q ≡ true = ap t (same_number q x is_same) ∙ passes in
        ap left passes ∙ ap (λ b. b || list_any (eqb q) (filter t xs)) is_same ∙ sym (λ i. at_q i && (is_same i || list_any (eqb q) xs))
    by true false is_same passes rest =
        let at_q : t q ≡ false = ap t (same_number q x is_same) ∙ passes in
        ap left passes ∙ rest ∙ ap (λ b. b && list_any (eqb q) xs) at_q ∙ sym (ap (λ b. b && (eqb q x || list_any (eqb q) xs)) at_q)
    by false true is_same passes rest =
        ap left passes ∙ ap (λ b. b || list_any (eqb q) (filter t xs)) is_same ∙ rest ∙ sym (ap (λ b. t q && (b || list_any (eqb q) xs)) is_same)
    by false false is_same passes rest = ap left passes ∙ rest ∙ sym (ap (λ b. t q && (b || list_any (eqb q) xs)) is_same)

all_asked : (a b : Bool) → (a ≡ true → b ≡ true) → (a && b) ≡ a
all_asked true b h = h refl
all_asked false b h = refl

-- those that end, of pids that name all of them
pub ended_of_asked : (now : ℕ) (ps : List Process) (asked : List ℕ) → IsStrictlySortedBy nat_cmp (pids ps) → IsStrictlySortedBy nat_cmp asked
    → ((pid : ℕ) → is_over now (with_pid ps pid) ≡ true → list_any (eqb pid) asked ≡ true)
    → filter (λ pid. is_over now (with_pid ps pid)) asked ≡ pids (filter (has_ended now) ps)
ended_of_asked now ps asked sorted ascending all =
    let up = ascends_from_sorted (pids ps) sorted in
    let over : ℕ → Bool = λ pid. is_over now (with_pid ps pid) in
    same_ascending (filter over asked) (pids (filter (has_ended now) ps))
    (kept_ascend over asked (ascends_from_sorted asked ascending))
    (filter_ascends (has_ended now) ps up)
    (λ q. kept_member over q asked ∙ all_asked (over q) (list_any (eqb q) asked) (all q) ∙ sym (over_member now q ps up))

-- pids that are below the next one stay so
pub below_pushed : (n : ℕ) (ps : List Process) (p : Process) → AreBelow n ps → p.pid ≡ n → AreBelow (n + 1) (ps ++ p ∷ [])
below_pushed n [] p below is = (omega arith, tt)
below_pushed n (q ∷ ps) p below is = (omega (arith, below.0), below_pushed n ps p below.1 is)

pub below_marked : (n pid : ℕ) (ps : List Process) → AreBelow n ps → AreBelow n (map (marked pid) ps)
below_marked n pid [] below = tt
below_marked n pid (p ∷ ps) below = (by (eqb p.pid pid), below_marked n pid ps below.1)
  where
    by : (b : Bool) → (if b then record p { killed = true } else p).pid < n
    by true = below.0
    by false = below.0

pub below_filter : (n : ℕ) (h : Process → Bool) (ps : List Process) → AreBelow n ps → AreBelow n (filter h ps)
below_filter n h [] below = tt
below_filter n h (p ∷ ps) below = by (h p) (below_filter n h ps below.1)
  where
    by : (b : Bool) → AreBelow n (filter h ps) → AreBelow n (cond b (p ∷ filter h ps) (filter h ps))
    by true rest = (below.0, rest)
    by false rest = rest

-- What stands beside the processes, when the process of one pid changes.
use Rattle.std.proofs.Common.{◌≡◌, ℕ, Bool, true, false, ◌&&◌, ◌||◌, eqb, nat_le, cond, true≢false, List, [], ◌∷◌, Option, Some, None, IfSome, MatchOption, refl, sym, ap, subst, ◌∙◌, arith}
use Rattle.std.proofs.lemmas.Grind.{common_steps}
use Rattle.std.specs.BTreeMap.{is_at}
use Rattle.std.specs.List.{list_any}
use Rattle.std.specs.List.Sorted.{IsStrictlySortedBy}
use Rattle.std.specs.Map.{keys_of, lookup, set_value}
use Rattle.std.specs.Option.{option_map}
use Rattle.std.specs.Ordering.{nat_cmp}
use Rattle.collections.proofs.Ascending.{itself}
use Rattle.collections.proofs.Held.{due_from_held}
use Rattle.collections.specs.Moments.{is_due, is_held}
use Rattle.init_machine.specs.Kernel.{has_ended, is_past}
use Rattle.model_kernel.proofs.Entries.{at_its_pid, flip, numbered_at, numbered_marked, process_found, tie}
use Rattle.model_kernel.specs.Living.{AreListed, AreNumbered, IsListed, is_over, living, process_at, slain, with_pid}
use Rattle.model_kernel.specs.Parts.{end_of, process_of}
use Rattle.model_kernel.specs.declared.process.End.{End as EndInMemory}
use Rattle.model_kernel.specs.declared.process.Process.{Process as ProcessInMemory}

same_number : (x y : ℕ) → eqb x y ≡ true → x ≡ y
same_number x y e = grind (arith, common_steps)

from_zero : (now : ℕ) → nat_le 0 now ≡ true
from_zero now = grind (arith, common_steps)

and_false : (a b c : Bool) → b ≡ false → ((a && b) || c) ≡ c
and_false true b c e = ap (λ x. x || c) e
and_false false b c e = refl

or_true : (a b : Bool) → b ≡ true → (a || b) ≡ true
or_true true b e = refl
or_true false b e = e

-- a process is listed as before where its moments are
same_listed : (a b : Bool) (old new : List (ℕ × ℕ)) (q : ℕ) (p : ProcessInMemory) → (b ≡ false → a ≡ false)
    → ((t n : ℕ) → n ≡ q → is_held t n new ≡ is_held t n old) → IsListed a old q p → IsListed b new q p
same_listed a b old new q p weaker kept listed = record {
  planned = by p.end listed.planned;
  killed = λ all killed. kept 0 q refl ∙ listed.killed (weaker all) killed;
}
  where
    by : (end : Option EndInMemory) → IfSome end (λ end. is_held end.time q old ≡ true) → IfSome end (λ end. is_held end.time q new ≡ true)
    by None h = tt
    by (Some end) h = kept end.time q refl ∙ h

-- the process of one pid changes, with its moments, and the others stay
pub one_changes : (a b : Bool) (old new : List (ℕ × ℕ)) (pid : ℕ) (entries changed : List (ℕ × ProcessInMemory)) → (b ≡ false → a ≡ false)
    → ((t n : ℕ) → eqb pid n ≡ false → is_held t n new ≡ is_held t n old)
    → ((q : ℕ) → is_at (nat_cmp pid) q ≡ false → lookup (is_at (nat_cmp q)) changed ≡ lookup (is_at (nat_cmp q)) entries)
    → IfSome (lookup (is_at (nat_cmp pid)) changed) (IsListed b new pid)
    → IsStrictlySortedBy nat_cmp (keys_of changed) → AreNumbered changed
    → AreListed a old entries → AreListed b new changed
one_changes a b old new pid entries changed weaker moments others its ordered numbered listed = record {
  ordered = ordered;
  numbered = numbered;
  listed = λ q. by q (eqb pid q) refl;
}
  where
    kept : (q : ℕ) (o : Option ProcessInMemory) → eqb pid q ≡ false → IfSome o (IsListed a old q) → IfSome o (IsListed b new q)
    kept q None differs h = tt
    kept q (Some p) differs h = same_listed a b old new q p weaker (λ t n e. moments t n (ap (eqb pid) e ∙ differs)) h

    by : (q : ℕ) (same : Bool) → eqb pid q ≡ same → IfSome (lookup (is_at (nat_cmp q)) changed) (IsListed b new q)
    by q true same = subst (λ n. IfSome (lookup (is_at (nat_cmp n)) changed) (IsListed b new n)) (same_number pid q same) its
    by q false differs =
        subst (λ o. IfSome o (IsListed b new q)) (sym (others q (tie pid q ∙ differs))) (kept q (lookup (is_at (nat_cmp q)) entries) differs (listed.listed q))

-- a process that has ended is due
pub listed_is_due : (ends : List (ℕ × ℕ)) (now pid : ℕ) (p : ProcessInMemory) → IsListed false ends pid p → has_ended now (process_of p) ≡ true → is_due now pid ends ≡ true
listed_is_due ends now pid p listed ended = by_kill p.killed refl ended
  where
    by_end : (end : Option EndInMemory) → IfSome end (λ end. is_held end.time pid ends ≡ true) → is_past now (option_map end_of end) ≡ true → is_due now pid ends ≡ true
    by_end None held past = cc
    by_end (Some end) held past = due_from_held now end.time pid ends past held

    by_kill : (b : Bool) → p.killed ≡ b → (b || is_past now (process_of p).end) ≡ true → is_due now pid ends ≡ true
    by_kill true killed e = due_from_held now 0 pid ends (from_zero now) (listed.killed refl killed)
    by_kill false killed e = by_end p.end listed.planned e

-- what stands at a pid is the process with it
pub got : (pid : ℕ) (entries : List (ℕ × ProcessInMemory)) → AreNumbered entries → option_map process_of (lookup (is_at (nat_cmp pid)) entries) ≡ with_pid (living entries) pid
got pid entries numbered = by (lookup (is_at (nat_cmp pid)) entries) (numbered_at pid entries numbered) ∙ process_found pid entries
  where
    by : (o : Option ProcessInMemory) → IfSome o (λ p. p.pid ≡ pid) → option_map process_of o ≡ option_map (λ p. process_at (pid, p)) o
    by None h = refl
    by (Some p) h = ap Some (at_its_pid pid p h)

-- where not all are asked, those that have ended are due
pub ended_are_due : (ends : List (ℕ × ℕ)) (now pid : ℕ) (entries : List (ℕ × ProcessInMemory)) → AreListed false ends entries
    → is_over now (with_pid (living entries) pid) ≡ true → is_due now pid ends ≡ true
ended_are_due ends now pid entries listed over =
    by (lookup (is_at (nat_cmp pid)) entries) (listed.listed pid) (ap (is_over now) (got pid entries listed.numbered) ∙ over)
  where
    by : (o : Option ProcessInMemory) → IfSome o (IsListed false ends pid) → is_over now (option_map process_of o) ≡ true → is_due now pid ends ≡ true
    by None h e = cc
    by (Some p) h e = listed_is_due ends now pid p h e

-- those that have ended have a pid
pub ended_are_keys : (now pid : ℕ) (entries : List (ℕ × ProcessInMemory)) → is_over now (with_pid (living entries) pid) ≡ true → list_any (eqb pid) (keys_of entries) ≡ true
ended_are_keys now pid [] over = cc
ended_are_keys now pid (e ∷ entries) over = by (eqb e.0 pid) refl over (ended_are_keys now pid entries)
  where
    by : (b : Bool) → eqb e.0 pid ≡ b → is_over now (cond b (Some (process_at e)) (with_pid (living entries) pid)) ≡ true
        → (is_over now (with_pid (living entries) pid) ≡ true → list_any (eqb pid) (keys_of entries) ≡ true) → list_any (eqb pid) (keys_of (e ∷ entries)) ≡ true
    by true same over rest = ap (λ b. b || list_any (eqb pid) (keys_of entries)) (flip pid e.0 ∙ same)
    by false same over rest = or_true (eqb pid e.0) (list_any (eqb pid) (keys_of entries)) (rest over)

-- a process more is listed
pub listed_pushed : (asks_all : Bool) (ends : List (ℕ × ℕ)) (pid : ℕ) (p : ProcessInMemory) → p.killed ≡ false
    → IfSome p.end (λ end. is_held end.time pid ends ≡ true) → IsListed asks_all ends pid p
listed_pushed asks_all ends pid p lives planned = record {
  planned = planned;
  killed = λ all killed. absurd (true≢false (sym killed ∙ lives));
}

-- a process that is killed is listed at 0
slain_listed : (a b : Bool) (old new : List (ℕ × ℕ)) (pid : ℕ) (o : Option ProcessInMemory) → IfSome o (IsListed a old pid)
    → ((t : ℕ) → is_held t pid old ≡ true → is_held t pid new ≡ true) → (b ≡ false → is_held 0 pid new ≡ true) → IfSome (option_map slain o) (IsListed b new pid)
slain_listed a b old new pid None listed more zero = tt
slain_listed a b old new pid (Some p) listed more zero = record {
  planned = by p.end listed.planned;
  killed = λ all killed. zero all;
}
  where
    by : (end : Option EndInMemory) → IfSome end (λ end. is_held end.time pid old ≡ true) → IfSome end (λ end. is_held end.time pid new ≡ true)
    by None h = tt
    by (Some end) h = more end.time h

module _ (pid : ℕ) (old new : List (ℕ × ProcessInMemory))
    (at_it : lookup (is_at (nat_cmp pid)) new ≡ option_map slain (lookup (is_at (nat_cmp pid)) old))
    (others : (q : ℕ) → is_at (nat_cmp pid) q ≡ false → lookup (is_at (nat_cmp q)) new ≡ lookup (is_at (nat_cmp q)) old)
    (ordered : IsStrictlySortedBy nat_cmp (keys_of old) → IsStrictlySortedBy nat_cmp (keys_of new))
    (change : MatchOption (lookup (is_at (nat_cmp pid)) old) (new ≡ old) (λ p. new ≡ set_value (is_at (nat_cmp pid)) old (slain p))) where
  -- a killed process stands at 0
  pub kill_listed : (asks_all : Bool) (ends more : List (ℕ × ℕ)) → ((t n : ℕ) → is_held t n more ≡ ((eqb 0 t && eqb pid n) || is_held t n ends))
      → AreListed asks_all ends old → AreListed asks_all more new
  kill_listed asks_all ends more held listed =
      one_changes asks_all asks_all ends more pid old new (λ e. e)
      (λ t n differs. held t n ∙ and_false (eqb 0 t) (eqb pid n) (is_held t n ends) differs)
      others
      (subst (λ o. IfSome o (IsListed asks_all more pid)) (sym at_it)
      (slain_listed asks_all asks_all ends more pid (lookup (is_at (nat_cmp pid)) old) (listed.listed pid)
      (λ t before. held t pid ∙ or_true (eqb 0 t && eqb pid pid) (is_held t pid ends) before)
      (λ _. held 0 pid ∙ (λ i. (itself 0 i && itself pid i) || is_held 0 pid ends))))
      (ordered listed.ordered)
      (numbered_marked pid old new listed.numbered change)
      listed

  -- or else all are asked
  pub kill_asks_all : (asks_all : Bool) (ends : List (ℕ × ℕ)) → AreListed asks_all ends old → AreListed true ends new
  kill_asks_all asks_all ends listed =
      one_changes asks_all true ends ends pid old new (λ e. absurd (true≢false e))
      (λ t n differs. refl)
      others
      (subst (λ o. IfSome o (IsListed true ends pid)) (sym at_it)
      (slain_listed asks_all true ends ends pid (lookup (is_at (nat_cmp pid)) old) (listed.listed pid) (λ t before. before) (λ e. absurd (true≢false e))))
      (ordered listed.ordered)
      (numbered_marked pid old new listed.numbered change)
      listed

-- What a change of the processes by their pids means for the list of processes.
use Rattle.std.proofs.Common.{◌≡◌, ℕ, ◌<◌, Bool, true, false, cond, not, eqb, List, [], ◌∷◌, ◌++◌, map, Option, Some, None, MatchOption, IfSome, find, refl, sym, ap, subst, ◌∙◌, arith, if◌then◌else◌}
use Rattle.std.proofs.lemmas.Grind.{common_steps}
use Rattle.std.specs.BTreeMap.{insert_entry, is_at}
use Rattle.std.specs.List.Sorted.{IsStrictlySortedBy}
use Rattle.std.specs.Map.{keys_of, lookup, remove_entry, set_value, values_of}
use Rattle.std.specs.Option.{option_map}
use Rattle.std.specs.Ordering.{nat_cmp, is_eq}
use Rattle.std.specs.Str.{bytes_eq}
use Rattle.std.specs.declared.cmp.Ordering.TheVariants.{Greater}
use Rattle.collections.proofs.Ascending.{AreAbove, Ascends, ascends_from_sorted}
use Rattle.init_machine.specs.Kernel.{marked}
use Rattle.model_kernel.specs.Living.{AreBelow, AreNumbered, living, pids, process_at, slain, with_pid, without_pid}
use Rattle.model_kernel.specs.Parts.{process_of}
use Rattle.model_kernel.specs.declared.process.Process.{Process as ProcessInMemory}

pub tie : (x y : ℕ) → is_eq (nat_cmp x y) ≡ eqb x y
tie x y = grind (arith, common_steps)

greater : (x y : ℕ) → y < x → nat_cmp x y ≡ Greater
greater x y below = grind (arith, common_steps)

differs_above : (x y : ℕ) → x < y → eqb y x ≡ false
differs_above x y below = grind (arith, common_steps)

pub flip : (x y : ℕ) → eqb x y ≡ eqb y x
flip x y = grind (arith, common_steps)

same_number : (x y : ℕ) → eqb x y ≡ true → x ≡ y
same_number x y e = grind (arith, common_steps)

-- the pids are the keys
pub pids_of_living : (entries : List (ℕ × ProcessInMemory)) → pids (living entries) ≡ keys_of entries
pids_of_living [] = refl
pids_of_living (e ∷ entries) = ap (λ rest. e.0 ∷ rest) (pids_of_living entries)

-- a process in memory that has the pid of its key
pub at_its_pid : (pid : ℕ) (p : ProcessInMemory) → p.pid ≡ pid → process_of p ≡ process_at (pid, p)
at_its_pid pid p e = λ i. record (process_of p) { pid = e i }

-- what stands at a pid is the process with that pid
pub process_found : (pid : ℕ) (entries : List (ℕ × ProcessInMemory)) → option_map (λ p. process_at (pid, p)) (lookup (is_at (nat_cmp pid)) entries) ≡ with_pid (living entries) pid
process_found pid [] = refl
process_found pid (e ∷ entries) = by (eqb e.0 pid) refl (process_found pid entries)
  where
    tied : is_eq (nat_cmp pid e.0) ≡ eqb e.0 pid
    tied = tie pid e.0 ∙ flip pid e.0

    by : (b : Bool) → eqb e.0 pid ≡ b → option_map (λ p. process_at (pid, p)) (lookup (is_at (nat_cmp pid)) entries) ≡ with_pid (living entries) pid
        → option_map (λ p. process_at (pid, p)) (lookup (is_at (nat_cmp pid)) (e ∷ entries)) ≡ with_pid (living (e ∷ entries)) pid
    by true same rest =
        ap (λ b. option_map (λ p. process_at (pid, p)) (cond b (Some e.1) (lookup (is_at (nat_cmp pid)) entries))) (tied ∙ same)
        ∙ ap (λ n. Some (process_at (n, e.1))) (sym (same_number e.0 pid same))
        ∙ sym (ap (λ b. cond b (Some (process_at e)) (with_pid (living entries) pid)) same)
    by false same rest =
        ap (λ b. option_map (λ p. process_at (pid, p)) (cond b (Some e.1) (lookup (is_at (nat_cmp pid)) entries))) (tied ∙ same)
        ∙ rest
        ∙ sym (ap (λ b. cond b (Some (process_at e)) (with_pid (living entries) pid)) same)

-- a process with a pid above all goes to the end
pub insert_last : (entries : List (ℕ × ProcessInMemory)) (p : ProcessInMemory) → AreBelow p.pid (living entries)
    → living (insert_entry nat_cmp entries p.pid p) ≡ living entries ++ process_of p ∷ []
insert_last [] p below = refl
insert_last (e ∷ entries) p below = rw (greater p.pid e.0 below.0) (ap (λ rest. process_at e ∷ rest) (insert_last entries p below.1))

-- no process above is taken away
none_gone : (pid : ℕ) (entries : List (ℕ × ProcessInMemory)) → AreAbove pid (keys_of entries) → without_pid (living entries) pid ≡ living entries
none_gone pid [] above = refl
none_gone pid (e ∷ entries) above =
    let rest = none_gone pid entries above.1 in
    λ i. cond (not (differs_above pid e.0 above.0 i)) (process_at e ∷ rest i) (rest i)

-- no process above is marked
none_marked : (pid : ℕ) (entries : List (ℕ × ProcessInMemory)) → AreAbove pid (keys_of entries) → map (marked pid) (living entries) ≡ living entries
none_marked pid [] above = refl
none_marked pid (e ∷ entries) above =
    let rest = none_marked pid entries above.1 in
    λ i. (if differs_above pid e.0 above.0 i then record (process_at e) { killed = true } else process_at e) ∷ rest i

module _ (pid : ℕ) where
  above_it : (n : ℕ) (keys : List ℕ) → AreAbove n keys → eqb pid n ≡ true → AreAbove pid keys
  above_it n keys above same = subst (λ m. AreAbove m keys) (sym (same_number pid n same)) above

  removed_ascending : (entries : List (ℕ × ProcessInMemory)) → Ascends (keys_of entries) → living (remove_entry (is_at (nat_cmp pid)) entries) ≡ without_pid (living entries) pid
  removed_ascending [] up = refl
  removed_ascending (e ∷ entries) up = by (eqb pid e.0) refl (removed_ascending entries up.1)
    where
      by : (b : Bool) → eqb pid e.0 ≡ b → living (remove_entry (is_at (nat_cmp pid)) entries) ≡ without_pid (living entries) pid
          → living (remove_entry (is_at (nat_cmp pid)) (e ∷ entries)) ≡ without_pid (living (e ∷ entries)) pid
      by true same rest =
          ap (λ b. living (cond b entries (e ∷ remove_entry (is_at (nat_cmp pid)) entries))) (tie pid e.0 ∙ same)
          ∙ sym (none_gone pid entries (above_it e.0 (keys_of entries) up.0 same))
          ∙ sym (ap (λ b. cond (not b) (process_at e ∷ without_pid (living entries) pid) (without_pid (living entries) pid)) (flip e.0 pid ∙ same))
      by false same rest =
          ap (λ b. living (cond b entries (e ∷ remove_entry (is_at (nat_cmp pid)) entries))) (tie pid e.0 ∙ same)
          ∙ ap (λ ps. process_at e ∷ ps) rest
          ∙ sym (ap (λ b. cond (not b) (process_at e ∷ without_pid (living entries) pid) (without_pid (living entries) pid)) (flip e.0 pid ∙ same))

  marked_ascending : (entries : List (ℕ × ProcessInMemory)) (p : ProcessInMemory) → Ascends (keys_of entries) → lookup (is_at (nat_cmp pid)) entries ≡ Some p
      → living (set_value (is_at (nat_cmp pid)) entries (slain p)) ≡ map (marked pid) (living entries)
  marked_ascending [] p up found = cc
  marked_ascending (e ∷ entries) p up found = by (eqb pid e.0) refl found (marked_ascending entries p up.1)
    where
      by : (b : Bool) → eqb pid e.0 ≡ b → lookup (is_at (nat_cmp pid)) (e ∷ entries) ≡ Some p
          → (lookup (is_at (nat_cmp pid)) entries ≡ Some p → living (set_value (is_at (nat_cmp pid)) entries (slain p)) ≡ map (marked pid) (living entries))
          → living (set_value (is_at (nat_cmp pid)) (e ∷ entries) (slain p)) ≡ map (marked pid) (living (e ∷ entries))
      by true same found rest =
          let is_p : Some e.1 ≡ Some p = sym (ap (λ b. cond b (Some e.1) (lookup (is_at (nat_cmp pid)) entries)) (tie pid e.0 ∙ same)) ∙ found in
          let same_p : e.1 ≡ p = cc in
          let others = none_marked pid entries (above_it e.0 (keys_of entries) up.0 same) in
          let its : eqb e.0 pid ≡ true = flip e.0 pid ∙ same in
          ap (λ b. living (cond b ((e.0, slain p) ∷ entries) (e ∷ set_value (is_at (nat_cmp pid)) entries (slain p)))) (tie pid e.0 ∙ same)
          ∙ ap (λ q. process_at (e.0, slain q) ∷ living entries) (sym same_p)
          ∙ sym (λ i. (if its i then record (process_at e) { killed = true } else process_at e) ∷ others i)
      by false same found rest =
          let later = rest (sym (ap (λ b. cond b (Some e.1) (lookup (is_at (nat_cmp pid)) entries)) (tie pid e.0 ∙ same)) ∙ found) in
          ap (λ b. living (cond b ((e.0, slain p) ∷ entries) (e ∷ set_value (is_at (nat_cmp pid)) entries (slain p)))) (tie pid e.0 ∙ same)
          ∙ ap (λ ps. process_at e ∷ ps) later
          ∙ sym (ap (λ b. (if b then record (process_at e) { killed = true } else process_at e) ∷ map (marked pid) (living entries)) (flip e.0 pid ∙ same))

  unmarked : (entries : List (ℕ × ProcessInMemory)) → lookup (is_at (nat_cmp pid)) entries ≡ None → map (marked pid) (living entries) ≡ living entries
  unmarked [] none = refl
  unmarked (e ∷ entries) none = by (eqb pid e.0) refl none (unmarked entries)
    where
      by : (b : Bool) → eqb pid e.0 ≡ b → lookup (is_at (nat_cmp pid)) (e ∷ entries) ≡ None → (lookup (is_at (nat_cmp pid)) entries ≡ None → map (marked pid) (living entries) ≡ living entries)
          → map (marked pid) (living (e ∷ entries)) ≡ living (e ∷ entries)
      by true same none rest =
          let is_some : Some e.1 ≡ None = sym (ap (λ b. cond b (Some e.1) (lookup (is_at (nat_cmp pid)) entries)) (tie pid e.0 ∙ same)) ∙ none in
          cc
      by false same none rest =
          let later = rest (sym (ap (λ b. cond b (Some e.1) (lookup (is_at (nat_cmp pid)) entries)) (tie pid e.0 ∙ same)) ∙ none) in
          ap (λ b. (if b then record (process_at e) { killed = true } else process_at e) ∷ map (marked pid) (living entries)) (flip e.0 pid ∙ same)
          ∙ ap (λ ps. process_at e ∷ ps) later

-- the entry of a pid is taken away, and so is its process
pub living_removed : (pid : ℕ) (entries : List (ℕ × ProcessInMemory)) → IsStrictlySortedBy nat_cmp (keys_of entries)
    → living (remove_entry (is_at (nat_cmp pid)) entries) ≡ without_pid (living entries) pid
living_removed pid entries ordered = removed_ascending pid entries (ascends_from_sorted (keys_of entries) ordered)

-- the process of a pid is killed, where there is one, and so it is marked
pub living_marked : (pid : ℕ) (old new : List (ℕ × ProcessInMemory)) → IsStrictlySortedBy nat_cmp (keys_of old)
    → MatchOption (lookup (is_at (nat_cmp pid)) old) (new ≡ old) (λ p. new ≡ set_value (is_at (nat_cmp pid)) old (slain p))
    → living new ≡ map (marked pid) (living old)
living_marked pid old new ordered change = by (lookup (is_at (nat_cmp pid)) old) refl change
  where
    by : (o : Option ProcessInMemory) → lookup (is_at (nat_cmp pid)) old ≡ o → MatchOption o (new ≡ old) (λ p. new ≡ set_value (is_at (nat_cmp pid)) old (slain p))
        → living new ≡ map (marked pid) (living old)
    by None is same = ap living same ∙ sym (unmarked pid old is)
    by (Some p) is set = ap living set ∙ marked_ascending pid old p (ascends_from_sorted (keys_of old) ordered) is

-- what stands at a pid has it
pub numbered_at : (pid : ℕ) (entries : List (ℕ × ProcessInMemory)) → AreNumbered entries → IfSome (lookup (is_at (nat_cmp pid)) entries) (λ p. p.pid ≡ pid)
numbered_at pid [] numbered = tt
numbered_at pid (e ∷ entries) numbered = by (eqb pid e.0) refl (numbered_at pid entries numbered.1)
  where
    by : (b : Bool) → eqb pid e.0 ≡ b → IfSome (lookup (is_at (nat_cmp pid)) entries) (λ p. p.pid ≡ pid)
        → IfSome (cond (is_eq (nat_cmp pid e.0)) (Some e.1) (lookup (is_at (nat_cmp pid)) entries)) (λ p. p.pid ≡ pid)
    by true same rest =
        subst (λ b. IfSome (cond b (Some e.1) (lookup (is_at (nat_cmp pid)) entries)) (λ p. p.pid ≡ pid)) (sym (tie pid e.0 ∙ same)) (numbered.0 ∙ sym (same_number pid e.0 same))
    by false same rest =
        subst (λ b. IfSome (cond b (Some e.1) (lookup (is_at (nat_cmp pid)) entries)) (λ p. p.pid ≡ pid)) (sym (tie pid e.0 ∙ same)) rest

pub numbered_inserted : (entries : List (ℕ × ProcessInMemory)) (p : ProcessInMemory) → AreBelow p.pid (living entries) → AreNumbered entries → AreNumbered (insert_entry nat_cmp entries p.pid p)
numbered_inserted [] p below numbered = (refl, tt)
numbered_inserted (e ∷ entries) p below numbered = rw (greater p.pid e.0 below.0) (numbered.0, numbered_inserted entries p below.1 numbered.1)

pub numbered_removed : (test : ℕ → Bool) (entries : List (ℕ × ProcessInMemory)) → AreNumbered entries → AreNumbered (remove_entry test entries)
numbered_removed test [] numbered = tt
numbered_removed test (e ∷ entries) numbered = by (test e.0) (numbered_removed test entries numbered.1)
  where
    by : (b : Bool) → AreNumbered (remove_entry test entries) → AreNumbered (cond b entries (e ∷ remove_entry test entries))
    by true rest = numbered.1
    by false rest = (numbered.0, rest)

numbered_set : (test : ℕ → Bool) (entries : List (ℕ × ProcessInMemory)) (p : ProcessInMemory) → AreNumbered entries → lookup test entries ≡ Some p → AreNumbered (set_value test entries (slain p))
numbered_set test [] p numbered found = tt
numbered_set test (e ∷ entries) p numbered found = by (test e.0) found (numbered_set test entries p numbered.1)
  where
    by : (b : Bool) → cond b (Some e.1) (lookup test entries) ≡ Some p → (lookup test entries ≡ Some p → AreNumbered (set_value test entries (slain p)))
        → AreNumbered (cond b ((e.0, slain p) ∷ entries) (e ∷ set_value test entries (slain p)))
    by true found rest = let same : e.1 ≡ p = cc in (sym (ap (λ q. q.pid) same) ∙ numbered.0, numbered.1)
    by false found rest = (numbered.0, rest found)

pub numbered_marked : (pid : ℕ) (old new : List (ℕ × ProcessInMemory)) → AreNumbered old
    → MatchOption (lookup (is_at (nat_cmp pid)) old) (new ≡ old) (λ p. new ≡ set_value (is_at (nat_cmp pid)) old (slain p)) → AreNumbered new
numbered_marked pid old new numbered change = by (lookup (is_at (nat_cmp pid)) old) refl change
  where
    by : (o : Option ProcessInMemory) → lookup (is_at (nat_cmp pid)) old ≡ o → MatchOption o (new ≡ old) (λ p. new ≡ set_value (is_at (nat_cmp pid)) old (slain p)) → AreNumbered new
    by None is same = subst AreNumbered (sym same) numbered
    by (Some p) is set = subst AreNumbered (sym set) (numbered_set (is_at (nat_cmp pid)) old p numbered is)

-- the first process in memory with a name is the first one
pub first_in_memory : (name : List ℕ) (entries : List (ℕ × ProcessInMemory)) → AreNumbered entries
    → option_map (λ p. p.pid) (find (λ p. bytes_eq p.name name) (values_of entries)) ≡ option_map (λ p. p.pid) (find (λ p. bytes_eq p.name name) (living entries))
first_in_memory name [] numbered = refl
first_in_memory name (e ∷ entries) numbered = by (bytes_eq e.1.name name) (first_in_memory name entries numbered.1)
  where
    by : (b : Bool) → option_map (λ p. p.pid) (find (λ p. bytes_eq p.name name) (values_of entries)) ≡ option_map (λ p. p.pid) (find (λ p. bytes_eq p.name name) (living entries))
        → option_map (λ p. p.pid) (cond b (Some e.1) (find (λ p. bytes_eq p.name name) (values_of entries))) ≡ option_map (λ p. p.pid) (cond b (Some (process_at e)) (find (λ p. bytes_eq p.name name) (living entries)))
    by true rest = ap Some numbered.0
    by false rest = rest

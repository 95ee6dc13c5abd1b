-- A new area keeps the rule.
use Rattle.std.proofs.Common.{◌≡◌, ℕ, zero, suc, ◌≤◌, nat_lt, Bool, true, false, if◌then◌else◌, Some, ⊎_elim, [], ◌∷◌, length, get_or, replicate, None, sym, refl, ap, subst, inl, arith}
use Rattle.std.proofs.lemmas.Bool.{cases_Bool}
use Rattle.std.proofs.lemmas.Bool.Decides.{nat_tests}
use mathlib.Core.Option.{some, some-injective, some-ne-none}
use lib.ListN.{get_elem?}
use Rattle.atomic_table.specs.Table.{opening}
use Rattle.property_trie.proofs.Apart.{trie_lies}
use Rattle.property_area.specs.declared.view.AreaView.{AreaView}
use Rattle.property_area.specs.declared.area.AreaRefusal.TheVariants.{TooSmall, TooBig}
use Rattle.property_area.specs.Seats.{size_refusal}
use Rattle.property_area.specs.Area.{Moment, WordsHold, ViewHolds, AreaHolds, begins}

zeros : (n i : ℕ) → get_or (replicate n zero) i zero ≡ zero
zeros zero i = refl
zeros (suc n) zero = refl
zeros (suc n) (suc i) = zeros n i

count_zeros : (n : ℕ) → length (replicate n zero) ≡ n
count_zeros zero = refl
count_zeros (suc n) = ap suc (count_zeros n)

abbrev first_moment : Moment
first_moment = record { writer = 0; sets = []; making = None; adding = None; head = 0; out = []; seats = 1; opening = None; log = [] }

first_words : (n : ℕ) → 64 ≤ n → WordsHold (replicate n zero) first_moment
first_words n wide = record {
  few = omega arith;
  legal = λ i set e. absurd (some-ne-none set (sym e));
  fit = record {
    fits = λ i set e. absurd (some-ne-none set (sym e));
    once = λ i j name long other e. absurd (some-ne-none (name, long) (sym e));
  };
  head = zeros n 0;
  late = inl refl;
  empty = (zeros n 2, zeros n 3);
  trie = record {
    holds = record { top = zeros n 1; nodes = tt };
    lies = trie_lies [];
    room = let c = count_zeros n in omega arith;
    parts = tt;
  };
  made = tt;
  cells = λ name there. absurd (there refl);
}

first_view : (n : ℕ) (seat : ℕ) (v : AreaView) → get_elem? (begins n ∷ []) seat ≡ some v → ViewHolds (replicate n zero) first_moment seat v
first_view n zero v e = subst (λ (x : AreaView). ViewHolds (replicate n zero) first_moment zero x) (some-injective _ _ e) record {
  width = sym (count_zeros n);
  trie = record { known = λ name place is. let small = is.1 in absurd (omega arith); trail = tt };
  part = (refl, refl, refl, refl, refl, tt, (refl, refl, refl, refl, (λ who none. refl), (λ a none. absurd (cc))));
}
first_view n (suc seat) v e = absurd (some-ne-none v (sym e))

least : (n : ℕ) → nat_lt n 64 ≡ false → 64 ≤ n
least n is = grind (arith, nat_tests)

-- a size that isn't refused
pub size_fine : (n : ℕ) → size_refusal n ≡ None → 64 ≤ n
size_fine n is = ⊎_elim
    (λ (t : nat_lt n 64 ≡ true).
    let refused : size_refusal n ≡ Some (TooSmall n) = ap (λ (b : Bool). if b then Some (TooSmall n) else (if nat_lt 1048576 n then Some (TooBig n) else None)) t in absurd (cc))
    (λ (f : nat_lt n 64 ≡ false). least n f)
    (cases_Bool (nat_lt n 64))

pub area_opens : (n : ℕ) → 64 ≤ n → AreaHolds (opening (replicate n zero) [] (begins n))
area_opens n wide = record {
  moment = first_moment;
  words = first_words n wide;
  there = omega arith;
  count = refl;
  each = first_view n;
}

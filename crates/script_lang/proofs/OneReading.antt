-- Each text has one reading.
use Rattle.std.proofs.Common.{◌≡◌, ℕ, List, [], length, Option, Some, None, refl, sym, ap, subst, ◌∙◌, arith, ◌⊎◌, inl, inr}
use Rattle.std.proofs.lemmas.Bool.{cases_lt}
use Rattle.init_machine.specs.declared.limit.Limit.{Limit}
use Rattle.init_machine.specs.declared.limit.Limit.TheVariants as limit
use Rattle.script_lang.specs.Lines.{lines_of}
use Rattle.script_lang.specs.Ordering.{first_misfit}
use Rattle.script_lang.specs.Refusal.{IsBadAt, IsTooLarge}
use Rattle.script_lang.specs.Script.{IsScript, IsWithinLimits, said_from, script_of, total_steps}
use Rattle.script_lang.specs.declared.script.Script.{Script}
use Rattle.script_lang.proofs.Misfits.{all_fit_is_none, none_is_all_fit, some_is_first_bad, first_bad_is_some}

pub one_script : (bytes : List ℕ) (script other : Script) → IsScript bytes script → IsScript bytes other → script ≡ other
one_script bytes script other first second = first.script_is ∙ sym second.script_is

pub one_line : (bytes : List ℕ) (line other : ℕ) → IsBadAt bytes line → IsBadAt bytes other → line ≡ other
one_line bytes line other first second =
    let same : Some line ≡ Some other =
    sym (first_bad_is_some (lines_of bytes) line first.first_bad) ∙ first_bad_is_some (lines_of bytes) other second.first_bad in
    cc

pub script_or_line : (bytes : List ℕ) (script : Script) (line : ℕ) → IsScript bytes script → IsBadAt bytes line → ⊥
script_or_line bytes script line is bad =
    let same : None ≡ Some line = sym (all_fit_is_none (lines_of bytes) is.all_fit) ∙ first_bad_is_some (lines_of bytes) line bad.first_bad in
    cc

pub within_no_limit : (bytes : List ℕ) (limit : Limit) (number : ℕ) → IsWithinLimits bytes → IsTooLarge bytes limit number → ⊥
within_no_limit bytes limit.ScriptBytes number within large = omega (arith, within.short, large.0)
within_no_limit bytes limit.ScriptLines number within large = omega (arith, within.few_lines, large.1)
within_no_limit bytes limit.Steps number within large = omega (arith, within.few_steps, large.2)
within_no_limit bytes limit.FileBytes number within large = large
within_no_limit bytes limit.Files number within large = large
within_no_limit bytes limit.Names number within large = large
within_no_limit bytes limit.RcBytes number within large = large
within_no_limit bytes limit.StoreBytes number within large = large
within_no_limit bytes limit.TraceBytes number within large = large

-- the limit that the bytes pass, and the number

abbrev Passed : Type 0
Passed = Limit × ℕ

-- it is one of three
data Which : Type 0 where
  of_bytes : Which
  of_lines : Which
  of_steps : Which

abbrev limit_of : Which → Limit
limit_of of_bytes = limit.ScriptBytes
limit_of of_lines = limit.ScriptLines
limit_of of_steps = limit.Steps

which_of : (bytes : List ℕ) (limit : Limit) (number : ℕ) → IsTooLarge bytes limit number → (which : Which) × (limit ≡ limit_of which)
which_of bytes limit.ScriptBytes number large = (of_bytes, refl)
which_of bytes limit.ScriptLines number large = (of_lines, refl)
which_of bytes limit.Steps number large = (of_steps, refl)
which_of bytes limit.FileBytes number large = absurd large
which_of bytes limit.Files number large = absurd large
which_of bytes limit.Names number large = absurd large
which_of bytes limit.RcBytes number large = absurd large
which_of bytes limit.StoreBytes number large = absurd large
which_of bytes limit.TraceBytes number large = absurd large

same_limit : (bytes : List ℕ) (a b : Which) (number count : ℕ) → IsTooLarge bytes (limit_of a) number → IsTooLarge bytes (limit_of b) count
    → (a ≡ b) × (number ≡ count)
same_limit bytes of_bytes of_bytes number count one two = (refl, omega (arith, one.1, two.1))
same_limit bytes of_lines of_lines number count one two = (refl, omega (arith, one.2, two.2))
same_limit bytes of_steps of_steps number count one two = (refl, omega (arith, one.3, two.3))
same_limit bytes of_bytes of_lines number count one two = absurd (omega (arith, one.0, two.0))
same_limit bytes of_bytes of_steps number count one two = absurd (omega (arith, one.0, two.0))
same_limit bytes of_lines of_bytes number count one two = absurd (omega (arith, one.0, two.0))
same_limit bytes of_lines of_steps number count one two = absurd (omega (arith, one.1, two.1))
same_limit bytes of_steps of_bytes number count one two = absurd (omega (arith, one.0, two.0))
same_limit bytes of_steps of_lines number count one two = absurd (omega (arith, one.1, two.1))

pub one_limit : (bytes : List ℕ) (limit other : Limit) (number count : ℕ) → IsTooLarge bytes limit number → IsTooLarge bytes other count
    → (limit ≡ other) × (number ≡ count)
one_limit bytes limit other number count one two =
    let a = which_of bytes limit number one in
    let b = which_of bytes other count two in
    let same = same_limit bytes a.0 b.0 number count (subst (λ l. IsTooLarge bytes l number) a.1 one) (subst (λ l. IsTooLarge bytes l count) b.1 two) in
    (a.1 ∙ ap limit_of same.0 ∙ sym b.1, same.1)

-- ---- each text has a reading

abbrev Reading : List ℕ → Type 0
Reading bytes = ((script : Script) × IsScript bytes script)
    ⊎ (((limit : Limit) × (number : ℕ) × IsTooLarge bytes limit number) ⊎ ((line : ℕ) × IsBadAt bytes line))

within_reading : (bytes : List ℕ) → IsWithinLimits bytes → (misfit : Option ℕ) → first_misfit [] 1 (lines_of bytes) ≡ misfit → Reading bytes
within_reading bytes within None e =
    inl (script_of (said_from 1 (lines_of bytes)), record { within = within; all_fit = none_is_all_fit (lines_of bytes) e; script_is = refl })
within_reading bytes within (Some line) e =
    inr (inr (line, record { within = within; first_bad = some_is_first_bad (lines_of bytes) line e }))

pub some_reading : (bytes : List ℕ) → Reading bytes
some_reading bytes = elim (cases_lt 16777216 (length bytes)) [
  | inl long ↦ inr (inl (limit.ScriptBytes, 16777217, (long, refl)))
  | inr short ↦ elim (cases_lt 100000 (length (lines_of bytes))) [
    | inl many ↦ inr (inl (limit.ScriptLines, length (lines_of bytes), (short, many, refl)))
    | inr few ↦ elim (cases_lt 1000000 (total_steps (lines_of bytes))) [
      | inl steps ↦ inr (inl (limit.Steps, total_steps (lines_of bytes), (short, few, steps, refl)))
      | inr within ↦ within_reading bytes (record { short = short; few_lines = few; few_steps = within }) (first_misfit [] 1 (lines_of bytes)) refl
    ]
  ]
]

-- What the reader of scripts answers.
use Rattle.std.proofs.Common.{◌≡◌, ℕ, ◌≤◌, List, [], length, Option, Some, None, refl, sym, ap, ◌∙◌, subst, arith, Bool, true, false, cond, ◌&&◌, ◌++◌, ◌∷◌, All}
use Rattle.std.specs.List.{filter_map}
use Rattle.std.proofs.lemmas.List.Elements.{All-nil, All-cons}
use Rattle.script_lang.specs.Building.{built_from, empty_script}
use Rattle.script_lang.specs.Gathering.{IsGatheredWithin, or_else, said_until}
use Rattle.script_lang.specs.Lines.{lines_of}
use Rattle.script_lang.specs.Ordering.{first_misfit, first_unfit, first_unfit_of_sets}
use Rattle.script_lang.specs.Refusal.{IsBadAt}
use Rattle.script_lang.specs.Script.{IsScript, IsWithinLimits, act_in, fits, said_from, script_of, statements}
use Rattle.script_lang.specs.Sets.{IsBadOfSetsAt, IsScriptOfSets, IsSetOrMain, only_sets}
use Rattle.script_lang.specs.declared.gather.Gathered.{Gathered}
use Rattle.script_lang.specs.declared.script.Client.{Client}
use Rattle.script_lang.specs.declared.script.Script.{Script}
use Rattle.script_lang.specs.declared.statement.Said.{Said}
use Rattle.script_lang.specs.declared.statement.Statement.{Statement}
use Rattle.script_lang.specs.declared.statement.Statement.TheVariants as statement
use Rattle.script_lang.proofs.Builds.{built_script}
use Rattle.script_lang.proofs.Gatherings.{IsGathered, gathered_is, misfit_is, all_said}
use Rattle.script_lang.proofs.Misfits.{all_fit_of_sets, none_is_all_fit, some_is_first_bad, some_is_first_bad_of_sets}

-- what was gathered of a text within the limits
pub record IsWithin (bytes : List ℕ) (g : Gathered) : Type 0 where
  pub short : length bytes ≤ 16777216
  pub few_lines : g.lines ≤ 100000
  pub few_steps : g.steps ≤ 1000000
  pub gathered : IsGathered (lines_of bytes) g

pub is_within : (bytes : List ℕ) (g : Gathered) → IsGatheredWithin bytes g → IsWithin bytes g
is_within bytes g within = record {
  short = within.short;
  few_lines = within.few_lines;
  few_steps = within.few_steps;
  gathered = gathered_is (lines_of bytes) g within.gathered;
}

within_limits : (bytes : List ℕ) (g : Gathered) → IsWithin bytes g → IsWithinLimits bytes
within_limits bytes g within = record {
  short = within.short;
  few_lines = omega (arith, within.few_lines, within.gathered.lines);
  few_steps = omega (arith, within.few_steps, within.gathered.steps);
}

misfit_of : (bytes : List ℕ) (g : Gathered) → IsWithin bytes g → or_else (first_unfit [] g.said) g.unread ≡ first_misfit [] 1 (lines_of bytes)
misfit_of bytes g within =
    ap (λ said. or_else (first_unfit [] said) g.unread) within.gathered.said
    ∙ ap (λ unread. or_else (first_unfit [] (said_until 1 (lines_of bytes))) unread) within.gathered.unread
    ∙ misfit_is [] 1 (lines_of bytes)

pub is_bad_at : (bytes : List ℕ) (g : Gathered) (line : ℕ) → IsWithin bytes g → Some line ≡ or_else (first_unfit [] g.said) g.unread → IsBadAt bytes line
is_bad_at bytes g line within some = record {
  within = within_limits bytes g within;
  first_bad = some_is_first_bad (lines_of bytes) line (sym (some ∙ misfit_of bytes g within));
}

pub neither : (unfit unread : Option ℕ) → or_else unfit unread ≡ None → (unfit ≡ None) × (unread ≡ None)
neither None unread e = (refl, e)
neither (Some line) unread e = cc

pub is_script : (bytes : List ℕ) (g : Gathered) (script : Script) → IsWithin bytes g → None ≡ or_else (first_unfit [] g.said) g.unread
    → script ≡ built_from empty_script g.said → IsScript bytes script
is_script bytes g script within none built =
    let both = neither (first_unfit [] g.said) g.unread (sym none) in
    let all : g.said ≡ said_from 1 (lines_of bytes) =
    within.gathered.said ∙ all_said 1 (lines_of bytes) (sym within.gathered.unread ∙ both.1) in
    record {
      within = within_limits bytes g within;
      all_fit = none_is_all_fit (lines_of bytes) (sym (none ∙ misfit_of bytes g within));
      script_is = built ∙ built_script g.said both.0 ∙ ap script_of all;
    }

-- ---- where clients only set

pub is_bad_of_sets_at : (bytes : List ℕ) (g : Gathered) (line : ℕ) → IsWithin bytes g → Some line ≡ or_else (first_unfit_of_sets [] g.said) g.unread
    → IsBadOfSetsAt bytes line
is_bad_of_sets_at bytes g line within some = record {
  within = within_limits bytes g within;
  first_bad = some_is_first_bad_of_sets (lines_of bytes) line (sym (some
      ∙ ap (λ said. or_else (first_unfit_of_sets [] said) g.unread) within.gathered.said
      ∙ ap (λ unread. or_else (first_unfit_of_sets [] (said_until 1 (lines_of bytes))) unread) within.gathered.unread));
}

-- what fits where clients only set fits in any script

fits_both : (fit set : Bool) (later : Option ℕ) (line : ℕ) → cond (fit && set) later (Some line) ≡ None
    → (fit ≡ true) × (set ≡ true) × (later ≡ None)
fits_both true true later line e = (refl, refl, e)
fits_both true false later line e = cc
fits_both false set later line e = cc

none_unfit : (before : List Statement) (said : List Said) → first_unfit_of_sets before said ≡ None → first_unfit before said ≡ None
none_unfit before [] none = refl
none_unfit before (said ∷ more) none =
    let later = first_unfit_of_sets (before ++ said.statement ∷ []) more in
    let now = fits_both (fits before said.statement) (only_sets said.statement) later said.line none in
    rw now.0 (none_unfit (before ++ said.statement ∷ []) more now.2)

one_act : (clients : List Client) (s : Statement) (more : List Statement) → only_sets s ≡ true
    → All IsSetOrMain (filter_map (act_in clients) more) → All IsSetOrMain (filter_map (act_in clients) (s ∷ more))
one_act clients (statement.Area size) more only later = later
one_act clients (statement.Plan plan) more only later = later
one_act clients (statement.Client client) more only later = later
one_act clients (statement.Step count) more only later = All-cons IsSetOrMain _ _ tt later
one_act clients (statement.Tick ms) more only later = All-cons IsSetOrMain _ _ tt later
one_act clients (statement.Exit name status) more only later = All-cons IsSetOrMain _ _ tt later
one_act clients (statement.File path content) more only later = All-cons IsSetOrMain _ _ tt later
one_act clients (statement.Ask name ask) more only later = All-cons IsSetOrMain _ _ only later

acts_only_set : (clients : List Client) (before : List Statement) (said : List Said) → first_unfit_of_sets before said ≡ None
    → All IsSetOrMain (filter_map (act_in clients) (statements said))
acts_only_set clients before [] none = All-nil IsSetOrMain
acts_only_set clients before (said ∷ more) none =
    let later = first_unfit_of_sets (before ++ said.statement ∷ []) more in
    let now = fits_both (fits before said.statement) (only_sets said.statement) later said.line none in
    one_act clients said.statement (statements more) now.1 (acts_only_set clients (before ++ said.statement ∷ []) more now.2)

pub said_fits : (g : Gathered) → None ≡ or_else (first_unfit_of_sets [] g.said) g.unread → first_unfit [] g.said ≡ None
said_fits g none = none_unfit [] g.said (neither (first_unfit_of_sets [] g.said) g.unread (sym none)).0

all_lines_said : (bytes : List ℕ) (g : Gathered) → IsWithin bytes g → g.unread ≡ None → g.said ≡ said_from 1 (lines_of bytes)
all_lines_said bytes g within none = within.gathered.said ∙ all_said 1 (lines_of bytes) (sym within.gathered.unread ∙ none)

module _ (bytes : List ℕ) (g : Gathered) (script : Script) (within : IsWithin bytes g)
    (none : None ≡ or_else (first_unfit_of_sets [] g.said) g.unread) (built : script ≡ built_from empty_script g.said) where
  both : (first_unfit_of_sets [] g.said ≡ None) × (g.unread ≡ None)
  both = neither (first_unfit_of_sets [] g.said) g.unread (sym none)

  is : script ≡ script_of g.said
  is = built ∙ built_script g.said (none_unfit [] g.said both.0)

  pub is_script_of_sets : IsScriptOfSets bytes script
  is_script_of_sets = record {
    within = within_limits bytes g within;
    all_fit = all_fit_of_sets (lines_of bytes) (sym (none
        ∙ ap (λ said. or_else (first_unfit_of_sets [] said) g.unread) within.gathered.said
        ∙ ap (λ unread. or_else (first_unfit_of_sets [] (said_until 1 (lines_of bytes))) unread) within.gathered.unread));
    script_is = is ∙ ap script_of (all_lines_said bytes g within both.1);
  }

  pub only_sets_acts : All IsSetOrMain script.acts
  only_sets_acts = subst (λ (s : Script). All IsSetOrMain s.acts) (sym is) (acts_only_set (script_of g.said).clients [] g.said both.0)

-- The inputs of a script, actor by actor.
use Rattle.std.proofs.Common.{◌≡◌, ℕ, zero, suc, Bool, true, false, cond, ◌==◌, not, List, [], ◌∷◌, ◌++◌, filter, replicate, Option, Some, None, refl, sym, ap, ◌∙◌}
use Rattle.std.specs.List.{filter_map, flat_map, cons_option}
use Rattle.std.proofs.lemmas.List.Elements.{filter-append, filter_map-append}
use Rattle.init_machine.specs.declared.config.Pair.{Pair}
use Rattle.init_machine.specs.declared.input.Input.{Input}
use Rattle.init_machine.specs.declared.input.Input.TheVariants as input
use Rattle.script_lang.specs.Inputs.{act_inputs, main_inputs, ask_by, InOrder, Parts, part_of}
use Rattle.script_lang.specs.Laws.{is_set, set_by, set_in}
use Rattle.script_lang.specs.declared.script.Act.{Act}
use Rattle.script_lang.specs.declared.script.Act.TheVariants as act
use Rattle.script_lang.specs.declared.script.Ask.{Ask}
use Rattle.script_lang.specs.declared.script.Ask.TheVariants as ask
use Rattle.script_lang.specs.declared.script.Script.{Script}

abbrev is_no_set : Input → Bool
is_no_set input = not (is_set input)

nexts : (count : ℕ) → filter is_no_set (replicate count input.Next) ≡ replicate count input.Next
nexts zero = refl
nexts (suc count) = ap (λ inputs. input.Next ∷ inputs) (nexts count)

no_sets : (who : ℕ) (count : ℕ) → filter_map (set_by who) (replicate count input.Next) ≡ []
no_sets who zero = refl
no_sets who (suc count) = no_sets who count

of_main : (act : Act) → filter is_no_set (act_inputs act) ≡ main_inputs act
of_main (act.Step count) = nexts count
of_main (act.Tick ms) = refl
of_main (act.Exit name status) = refl
of_main (act.File path content) = refl
of_main (act.Ask who (ask.Set pair)) = refl
of_main (act.Ask who (ask.Read name)) = refl
of_main (act.Ask who ask.Sync) = refl
of_main (act.Ask who ask.Catch) = refl

all_of_main : (acts : List Act) → filter is_no_set (flat_map act_inputs acts) ≡ flat_map main_inputs acts
all_of_main [] = refl
all_of_main (act ∷ acts) =
    filter-append is_no_set (act_inputs act) (flat_map act_inputs acts)
    ∙ ap (λ inputs. inputs ++ filter is_no_set (flat_map act_inputs acts)) (of_main act)
    ∙ ap (λ inputs. main_inputs act ++ inputs) (all_of_main acts)

pub main_part : (script : Script) → filter is_no_set (InOrder script) ≡ input.Boot ∷ (Parts script).main
main_part script = ap (λ inputs. input.Boot ∷ inputs) (all_of_main script.acts)

-- the sets of a client

abbrev asked : ℕ → Act → List Pair
asked who act = filter_map set_in (cons_option (ask_by who act) [])

set_asked : (mine : Bool) (pair : Pair)
    → cons_option (cond mine (Some pair) None) [] ≡ filter_map set_in (cons_option (cond mine (Some (ask.Set pair)) None) [])
set_asked true pair = refl
set_asked false pair = refl

none_asked : (mine : Bool) (request : Ask) → set_in request ≡ None → [] ≡ filter_map set_in (cons_option (cond mine (Some request) None) [])
none_asked true request none = sym (rw none refl)
none_asked false request none = refl

of_client : (who : ℕ) (act : Act) → filter_map (set_by who) (act_inputs act) ≡ asked who act
of_client who (act.Step count) = no_sets who count
of_client who (act.Tick ms) = refl
of_client who (act.Exit name status) = refl
of_client who (act.File path content) = refl
of_client who (act.Ask other (ask.Set pair)) = set_asked (other.0 == who) pair
of_client who (act.Ask other (ask.Read name)) = none_asked (other.0 == who) (ask.Read name) refl
of_client who (act.Ask other ask.Sync) = none_asked (other.0 == who) ask.Sync refl
of_client who (act.Ask other ask.Catch) = none_asked (other.0 == who) ask.Catch refl

one_asked : (o : Option Ask) (more : List Ask) → filter_map set_in (cons_option o []) ++ filter_map set_in more ≡ filter_map set_in (cons_option o more)
one_asked None more = refl
one_asked (Some request) more = sym (filter_map-append set_in (request ∷ []) more)

all_of_client : (who : ℕ) (acts : List Act) → filter_map (set_by who) (flat_map act_inputs acts) ≡ filter_map set_in (filter_map (ask_by who) acts)
all_of_client who [] = refl
all_of_client who (act ∷ acts) =
    filter_map-append (set_by who) (act_inputs act) (flat_map act_inputs acts)
    ∙ ap (λ pairs. pairs ++ filter_map (set_by who) (flat_map act_inputs acts)) (of_client who act)
    ∙ ap (λ pairs. asked who act ++ pairs) (all_of_client who acts)
    ∙ one_asked (ask_by who act) (filter_map (ask_by who) acts)

pub client_part : (script : Script) (who : ℕ) → filter_map (set_by who) (InOrder script) ≡ filter_map set_in (part_of who script)
client_part script who = all_of_client who script.acts

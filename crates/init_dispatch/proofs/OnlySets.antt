-- A script that was read from a text whose clients only set has no other requests.
use Rattle.std.proofs.Common.{◌≡◌, ℕ, ◌+◌, true, All, IsTrue, List, [], ◌∷◌, ◌++◌, Option, Some, None, refl, sym, ap, subst}
use Rattle.std.specs.List.{filter_map}
use Rattle.std.proofs.lemmas.Bool.{and_parts}
use Rattle.std.proofs.lemmas.List.Elements.{All-cons, All-nil}
use Rattle.init_machine.specs.State.{Opening}
use Rattle.init_machine.specs.declared.diagnostic.Diagnostic.{Diagnostic}
use Rattle.init_machine.specs.declared.report.Report.{Report}
use Rattle.script_lang.proofs.Conditions.{script_meets}
use Rattle.script_lang.proofs.SetsReading.{script_of_sets_is_script}
use Rattle.script_lang.specs.Lines.{lines_of}
use Rattle.script_lang.specs.Script.{act_in, fits, said_from, said_in, script_of, statements, statements_of}
use Rattle.script_lang.specs.Sets.{IsScriptOfSets, IsSetOrMain, only_sets, reading_fits_sets}
use Rattle.script_lang.specs.Statements.{reading_of}
use Rattle.script_lang.specs.declared.script.Act.{Act}
use Rattle.script_lang.specs.declared.script.Client.{Client}
use Rattle.script_lang.specs.declared.script.Script.{Script}
use Rattle.script_lang.specs.declared.statement.Said.{Said}
use Rattle.script_lang.specs.declared.statement.Statement.{Statement}
use Rattle.script_lang.specs.declared.statement.Statement.TheVariants as statement
use Rattle.init_dispatch.specs.Dispatched.{IsDispatched, IsRunOfOrder}
use Rattle.init_dispatch.proofs.Orders.{is_run_of_order}

-- the acts of what some lines say
abbrev acts_of : List Client → List Said → List Act
acts_of clients said = filter_map (act_in clients) (statements said)

one_act : (clients : List Client) (s : Statement) (more : List Statement) → only_sets s ≡ true
    → All IsSetOrMain (filter_map (act_in clients) more) → All IsSetOrMain (filter_map (act_in clients) (s ∷ more))
one_act clients (statement.Area size) more only later = later
one_act clients (statement.Plan plan) more only later = later
one_act clients (statement.Client client) more only later = later
one_act clients (statement.Step count) more only later = All-cons IsSetOrMain _ _ tt later
one_act clients (statement.Tick ms) more only later = All-cons IsSetOrMain _ _ tt later
one_act clients (statement.Exit name status) more only later = All-cons IsSetOrMain _ _ tt later
one_act clients (statement.File path content) more only later = All-cons IsSetOrMain _ _ tt later
one_act clients (statement.Ask name ask) more only later = All-cons IsSetOrMain _ _ only later

one_line : (clients : List Client) (number : ℕ) (before : List Statement) (reading : Option (Option Statement)) (said : List Said)
    → IsTrue (reading_fits_sets before reading) → All IsSetOrMain (acts_of clients said) → All IsSetOrMain (acts_of clients (said_in number reading ++ said))
one_line clients number before None said fit later = later
one_line clients number before (Some None) said fit later = later
one_line clients number before (Some (Some s)) said fit later = one_act clients s (statements said) (and_parts (fits before s) (only_sets s) fit).1 later

-- each line fits behind some statements
abbrev EachFits : List (List ℕ) → Type 0
EachFits lines = (before : List (List ℕ)) (line : List ℕ) (behind : List (List ℕ)) → lines ≡ before ++ line ∷ behind
    → (front : List Statement) × IsTrue (reading_fits_sets front (reading_of line))

all_lines : (clients : List Client) (number : ℕ) (lines : List (List ℕ)) → EachFits lines → All IsSetOrMain (acts_of clients (said_from number lines))
all_lines clients number [] each = All-nil IsSetOrMain
all_lines clients number (line ∷ lines) each =
    let this = each [] line lines refl in
    one_line clients number this.0 (reading_of line) (said_from (number + 1) lines) this.1
    (all_lines clients (number + 1) lines (λ before one behind text. each (line ∷ before) one behind (ap (λ rest. line ∷ rest) text)))

acts_only_set : (bytes : List ℕ) (script : Script) → IsScriptOfSets bytes script → All IsSetOrMain script.acts
acts_only_set bytes script is =
    let said = said_from 1 (lines_of bytes) in
    subst (λ (s : Script). All IsSetOrMain s.acts) (sym is.script_is)
    (all_lines (script_of said).clients 1 (lines_of bytes)
    (λ before line behind text. (statements_of before, is.all_fit before line behind text)))

pub is_run_of_read : (bytes : List ℕ) (o : Opening) (found : List Diagnostic) (script : Script) (report : Report) → IsScriptOfSets bytes script
    → IsDispatched o found script report → IsRunOfOrder o found script report
is_run_of_read bytes o found script report is done =
    is_run_of_order o found script report (script_meets bytes script (script_of_sets_is_script bytes script is)).asks (acts_only_set bytes script is) done

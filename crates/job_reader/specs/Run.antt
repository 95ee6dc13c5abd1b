-- The course of a run, and its text.
use Rattle.std.specs.Prelude.{◌≡◌, ℕ, List, map}
use Rattle.init_driver.specs.Run.{Due, due_of, report_of}
use Rattle.init_machine.specs.State.{Opening}
use Rattle.init_machine.specs.declared.diagnostic.Diagnostic.{Diagnostic}
use Rattle.init_trace.specs.Report.{TextOf}
use Rattle.rc_import.specs.World.{World}
use Rattle.script_lang.specs.declared.script.Script.{Script}
use Rattle.job_reader.specs.Policy.{IsPolicyOf}
use Rattle.job_reader.specs.Script.{IsScriptIn}
use Rattle.job_reader.specs.Store.{IsStoreOf}
use Rattle.job_reader.specs.Tree.{IsLoadOf}
use Rattle.job_reader.specs.declared.grammar.Grammar.{Grammar}

-- What a run goes by: the machine's opening, the diagnostics of the tree, and the script.
pub record Course : Type 0 where
  pub opening : Opening
  pub diagnostics : List Diagnostic
  pub script : Script

-- OpeningOf: the opening of a script, a world and a store. The actions and services are those of the rc files, the pairs
-- those of the build files, the policy that of the tree, the saved pairs those of the store, and the plans, the domains
-- of the clients and the capacity those of the script.
pub record IsOpened (script : Script) (world : World) (held : List ℕ) (diagnostics : List Diagnostic) (opening : Opening) : Type 0 where
  pub policy : IsPolicyOf world.tree opening.policy
  pub load : IsLoadOf world opening.config diagnostics
  pub saved : IsStoreOf held opening.config.saved
  pub plans : opening.config.plans ≡ script.plans
  pub domains : opening.config.domains ≡ map (λ client. client.domain) script.clients
  pub capacity : opening.capacity ≡ script.words

-- the course of a script's bytes, by a grammar, of a world, and of the text that a keeper holds
pub record IsCourseOf (g : Grammar) (bytes : List ℕ) (world : World) (held : List ℕ) (course : Course) : Type 0 where
  pub script_is : IsScriptIn g bytes course.script
  pub opened : IsOpened course.script world held course.diagnostics course.opening

-- the text of a run: that of its report
abbrev pub run_text : Course → List ℕ
run_text course = TextOf (report_of course.opening course.diagnostics course.script)

-- what the run is to write and to give
abbrev pub due_of_course : Course → Due
due_of_course course = due_of course.opening course.diagnostics course.script

-- A generated boot: the tree and the script that are read for it, and what is written.
use Rattle.std.specs.Prelude.{ℕ, List, [], ◌∷◌}
use Rattle.init_driver.specs.Run.{report_of}
use Rattle.job_reader.specs.Run.{Course}
use Rattle.job_reader.specs.Texts.{Tree, allow_path, contexts_path}
use Rattle.rc_import.specs.Order.{root_file}
use Rattle.script_lang.specs.Generated.{generated, script_text}
use Rattle.soak_summary.specs.Counting.{tally_of}
use Rattle.soak_summary.specs.Summary.{SummaryText}

-- the tree of so many services: the root file and the policy
unfoldable pub generated_tree : ℕ → Tree
generated_tree services =
    (root_file, (generated services).root) ∷ (contexts_path, (generated services).contexts) ∷ (allow_path, (generated services).allow) ∷ []

-- the script over it
unfoldable pub generated_script : ℕ → List ℕ
generated_script services = script_text services

-- the summary of the report of a course
unfoldable pub soak_text : ℕ → Course → List ℕ
soak_text services course =
    SummaryText (record { services = services; tally = tally_of (report_of course.opening course.diagnostics course.script) })

-- Which configurations a machine is opened with: what the readers of files, scripts and stores give makes one.
use Rattle.std.specs.Prelude.{ℕ, Bool, true, false, IsTrue, not, ◌&&◌, nat_le, nat_lt, List, [], ◌∷◌, length, map, Option, Some, None}
use Rattle.std.specs.List.{list_any, list_all}
use Rattle.std.specs.Str.{bytes_eq}
use Rattle.init_base.specs.Name.{is_legal_name}
use Rattle.init_base.specs.declared.units.Millis.{Millis}
use Rattle.init_machine.specs.Arity.{permits}
use Rattle.init_machine.specs.Kernel.{last_time}
use Rattle.init_machine.specs.Pairs.{is_before}
use Rattle.init_machine.specs.Setting.{is_persistent}
use Rattle.init_machine.specs.declared.action.Action.{Action}
use Rattle.init_machine.specs.declared.action.Command.{Command}
use Rattle.init_machine.specs.declared.config.Config.{Config}
use Rattle.init_machine.specs.declared.config.Pair.{Pair}
use Rattle.init_machine.specs.declared.config.Plan.{Plan}
use Rattle.init_machine.specs.declared.service.Critical.{Critical}
use Rattle.init_machine.specs.declared.service.ServiceDef.{ServiceDef}
use Rattle.init_machine.specs.declared.word.Word.{Word}
use Rattle.init_machine.specs.declared.word.Word.TheVariants as word

-- no two of some texts are the same
abbrev pub are_distinct : List (List ℕ) → Bool
are_distinct [] = true
are_distinct (text ∷ rest) = not (list_any (λ other. bytes_eq other text) rest) && are_distinct rest

-- a command has as many arguments as its word takes
abbrev pub has_its_arguments : Command → Bool
has_its_arguments c = permits c.word (length c.args)

-- an action has a command, and tests properties of legal names
abbrev pub is_well_formed_action : Action → Bool
is_well_formed_action a =
    nat_lt 0 (length a.commands) && list_all has_its_arguments a.commands && list_all (λ test. is_legal_name test.name) a.props

-- a command that waits
abbrev pub is_waiting_word : Word → Bool
is_waiting_word word.ClassStart = false
is_waiting_word word.ClassStop = false
is_waiting_word word.ClassReset = false
is_waiting_word word.ClassRestart = false
is_waiting_word word.Start = false
is_waiting_word word.Stop = false
is_waiting_word word.Enable = false
is_waiting_word word.Restart = false
is_waiting_word word.ExecStart = true
is_waiting_word word.Exec = true
is_waiting_word word.Setprop = false
is_waiting_word word.Trigger = false
is_waiting_word word.WaitForProp = true
is_waiting_word word.Wait = true
is_waiting_word word.LoadPersistProps = false
is_waiting_word word.Export = false
is_waiting_word word.Write = false
is_waiting_word word.Copy = false
is_waiting_word word.Rm = false
is_waiting_word word.Rmdir = false
is_waiting_word word.Symlink = false
is_waiting_word word.Chmod = false
is_waiting_word word.Mkdir = false
is_waiting_word (word.Inert noted) = false

-- what each period of a service is bounded by: 1,000,000 minutes, the most of a critical window (an rc file gives periods of
-- restart and timeout in seconds, and 1,000,000 at most)
abbrev pub is_period : Millis → Bool
is_period period = nat_le period.0 60000000000

abbrev pub is_timeout : Option Millis → Bool
is_timeout None = true
is_timeout (Some timeout) = is_period timeout

abbrev pub is_window : Option Critical → Bool
is_window None = true
is_window (Some critical) = is_period critical.window

-- a service's name is that of a property, and short enough for the property that tells its state; its `onrestart` doesn't wait
abbrev pub is_well_formed_service : ServiceDef → Bool
is_well_formed_service service =
    is_legal_name service.name && nat_le (length service.name) 246
    && is_period service.period && is_timeout service.timeout && is_window service.critical
    && list_all has_its_arguments service.onrestart && not (list_any (λ c. is_waiting_word c.word) service.onrestart)

abbrev pub is_well_formed_plan : Plan → Bool
is_well_formed_plan plan = nat_le plan.after.0 last_time

-- the names of saved pairs ascend
abbrev pub ascend : List Pair → Bool
ascend [] = true
ascend (p ∷ []) = true
ascend (p ∷ q ∷ rest) = is_before p.name q.name && ascend (q ∷ rest)

pub record IsWellFormed (c : Config) : Type 0 where
  pub actions : IsTrue (list_all is_well_formed_action c.actions)
  pub services : IsTrue (list_all is_well_formed_service c.services)
  pub names : IsTrue (are_distinct (map (λ service. service.name) c.services))
  pub plans : IsTrue (list_all is_well_formed_plan c.plans)
  pub paths : IsTrue (are_distinct (map (λ plan. plan.path) c.plans))
  pub saved : IsTrue (list_all (λ p. is_persistent p.name) c.saved)
  pub order : IsTrue (ascend c.saved)
  pub domains : IsTrue (nat_le (length c.domains) 64)

-- The command that the words are read by, as `clap` sees it.
use Rattle.std.specs.Prelude.{◌≡◌, ℕ, false, true, List, codes, Some}
use Rattle.clap.specs.Words.{App, Rule, new_app, new_rule, with_rule, with_subcommand}
use Rattle.clap.specs.declared.builder.ArgAction.TheVariants.{Set}
use Rattle.clap.specs.declared.builder.command.Command.{Command}
use Rattle.clap.specs.declared.builder.command.Command.TheViews.{out-Command as fields_of}

-- none of a command's arguments is shared with its forms
abbrev pub HasNoGlobals : Command → Type 0
HasNoGlobals command = (fields_of command).has_globals ≡ false

-- a word that has to be given
abbrev pub path_rule : List ℕ → Rule
path_rule id = record (new_rule id) { required = true; action = Some Set }

-- `run ROOT SCRIPT`
abbrev pub run_app : App
run_app = with_rule (with_rule (new_app (codes "run")) (path_rule (codes "ROOT"))) (path_rule (codes "SCRIPT"))

-- `race ROOT SCRIPT`
abbrev pub race_app : App
race_app = with_rule (with_rule (new_app (codes "race")) (path_rule (codes "ROOT"))) (path_rule (codes "SCRIPT"))

-- `check ROOT`
abbrev pub check_app : App
check_app = with_rule (new_app (codes "check")) (path_rule (codes "ROOT"))

-- `soak N`
abbrev pub soak_app : App
soak_app = with_rule (new_app (codes "soak")) (path_rule (codes "N"))

-- `wire ROOT MESSAGES`
abbrev pub wire_app : App
wire_app = with_rule (with_rule (new_app (codes "wire")) (path_rule (codes "ROOT"))) (path_rule (codes "MESSAGES"))

-- `dispatch ROOT SCRIPT`
abbrev pub dispatch_app : App
dispatch_app = with_rule (with_rule (new_app (codes "dispatch")) (path_rule (codes "ROOT"))) (path_rule (codes "SCRIPT"))

-- `audit ROOT SCRIPT TRACE`
abbrev pub audit_app : App
audit_app = with_rule (with_rule (with_rule (new_app (codes "audit")) (path_rule (codes "ROOT"))) (path_rule (codes "SCRIPT"))) (path_rule (codes "TRACE"))

-- what holds of all: no program's name stands before the words, one of them is named, and there is neither help nor
-- version
abbrev pub bare_of : App → App
bare_of a = record a {
  top = record a.top {
    no_binary_name = true;
    disable_help_flag = true;
    disable_help_subcommand = true;
    disable_version_flag = true;
    subcommand_required = true;
  };
}

abbrev pub app : App
app =
    with_subcommand
    (with_subcommand
    (with_subcommand
    (with_subcommand (with_subcommand (with_subcommand (with_subcommand (bare_of (new_app (codes "initsim"))) run_app.top) race_app.top) check_app.top) soak_app.top)
    wire_app.top)
    dispatch_app.top)
    audit_app.top

-- What stands in a script's place before messages are served.
use Rattle.std.specs.Prelude.{[], ◌∷◌, codes}
use Rattle.script_lang.specs.declared.script.Client.{Client}
use Rattle.script_lang.specs.declared.script.Script.{Script}

-- the one client, from whom all messages come: a shell
abbrev pub sender : Client
sender = record { name = codes "u"; domain = codes "shell" }

-- a script without acts, over an area of 65,536 words
abbrev pub wire_script : Script
wire_script = record { words = 65536; plans = []; clients = sender ∷ []; acts = []; lines = [] }

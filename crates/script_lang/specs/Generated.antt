-- The texts of a generated boot, by its number of services: the files of a tree and the script over it.
use Rattle.std.specs.Prelude.{ℕ, suc, zero, ◌+◌, List, [], ◌∷◌, ◌++◌, codes}
use Rattle.std.specs.Fmt.{decimal}
use Rattle.script_lang.specs.declared.generator.Generated.{Generated}

abbrev pub line : List ℕ → List ℕ
line text = text ++ 10 ∷ []

-- the texts of the numbers from 1 to another, one after another
abbrev pub each_to : (ℕ → List ℕ) → ℕ → List ℕ
each_to text zero = []
each_to text (suc last) = each_to text last ++ text (suc last)

-- a service, of the default class
unfoldable pub service_line : ℕ → List ℕ
service_line i = line (codes "service s" ++ decimal i ++ codes " /bin/s" ++ decimal i)

-- an action on any value of a property
unfoldable pub trigger_line : ℕ → List ℕ
trigger_line i = line (codes "on property:p" ++ decimal i ++ codes "=*")

-- another property is set to that value
unfoldable pub setprop_line : ℕ → List ℕ
setprop_line i = line (codes "setprop q" ++ decimal i ++ codes " ${p" ++ decimal i ++ codes "}")

-- a service and an action
unfoldable pub service_lines : ℕ → List ℕ
service_lines i = service_line i ++ trigger_line i ++ setprop_line i

-- what stands before the services: their class is started at boot, which comes behind late-init
abbrev pub boot_lines : List ℕ
boot_lines =
    line (codes "on boot") ++ line (codes "class_start default") ++ line (codes "on late-init") ++ line (codes "trigger boot")

-- one property is set and read by the client
unfoldable pub ask_lines : ℕ → List ℕ
ask_lines i =
    line (codes "@c set p" ++ decimal i ++ codes " " ++ decimal i)
    ++ line (codes "@c read p" ++ decimal i)

-- what stands before the requests
abbrev pub declaration_lines : List ℕ
declaration_lines = line (codes "client c d") ++ line (codes "step 3")

abbrev pub root_text : ℕ → List ℕ
root_text services = boot_lines ++ each_to service_lines services

abbrev pub script_text : ℕ → List ℕ
script_text services =
    declaration_lines ++ each_to ask_lines services ++ line (codes "step " ++ decimal (services + 1))

abbrev pub generated : ℕ → Generated
generated services = record {
  root = root_text services;
  contexts = line (codes "* default_prop");
  allow = line (codes "allow d default_prop");
  script = script_text services;
}

-- What a line of a script says, by its words: a declaration or an act.
use Rattle.std.specs.Prelude.{ℕ, Bool, false, ◌&&◌, ◌==◌, nat_eq, nat_le, if◌then◌else◌, List, [], ◌∷◌, drop, length, codes, Option, Some, None}
use Rattle.std.specs.Char.{is_ascii_digit}
use Rattle.std.specs.Fmt.{decimal}
use Rattle.std.specs.List.{list_all, starts_with}
use Rattle.std.specs.Option.{option_map}
use Rattle.std.specs.Str.{bytes_eq}
use Rattle.std.specs.Str.Parse.{digits_value}
use Rattle.init_base.specs.Name.{is_legal_name}
use Rattle.init_base.specs.Quoted.{unquoted}
use Rattle.init_machine.specs.declared.config.Pair.{Pair}
use Rattle.init_machine.specs.declared.config.Plan.{Plan}
use Rattle.script_lang.specs.Lines.{says_nothing, words_of}
use Rattle.script_lang.specs.declared.script.Ask.{Ask}
use Rattle.script_lang.specs.declared.script.Ask.TheVariants as ask
use Rattle.script_lang.specs.declared.script.Client.{Client}
use Rattle.script_lang.specs.declared.statement.Statement.{Statement}
use Rattle.script_lang.specs.declared.statement.Statement.TheVariants as statement

-- ---- words

-- the number from the least to the most that a word is in decimal, without leading zeros
abbrev pub number_in : ℕ → ℕ → List ℕ → Option ℕ
number_in least most word =
    let number = digits_value 10 word in
    if nat_le least number && nat_le number most && bytes_eq (decimal number) word then Some number else None

-- one digit, or more of which the first isn't 0
abbrev pub is_canonical : List ℕ → Bool
is_canonical [] = false
is_canonical (digit ∷ digits) = if digit == 48 then length digits == 0 else list_all is_ascii_digit (digit ∷ digits)

-- 2 ^ 53, the last moment of the clock in milliseconds
abbrev pub last_moment : ℕ
last_moment = 9007199254740992

-- the status that a word is
abbrev pub status_in : List ℕ → Option ℕ
status_in word = number_in 0 255 word

abbrev pub with_two : {A B C : Type 0} → (A → B → C) → Option A → Option B → Option C
with_two make (Some a) (Some b) = Some (make a b)
with_two make (Some a) None = None
with_two make None b = None

abbrev pub with_three : {A B C D : Type 0} → (A → B → C → D) → Option A → Option B → Option C → Option D
with_three make (Some a) b c = with_two (make a) b c
with_three make None b c = None

-- ---- declarations, by the words behind the first one

abbrev pub area_of : List (List ℕ) → Option Statement
area_of (size ∷ []) = option_map statement.Area (number_in 64 1048576 size)
area_of _ = None

abbrev pub plan : List ℕ → ℕ → ℕ → Plan
plan path after status = record { path = path; after = record { 0 = after }; status = status }

abbrev pub plan_of : List (List ℕ) → Option Statement
plan_of (path ∷ after ∷ status ∷ []) =
    with_three (λ path after status. statement.Plan (plan path after status)) (unquoted path) (number_in 0 last_moment after) (status_in status)
plan_of _ = None

abbrev pub client : List ℕ → List ℕ → Client
client name domain = record { name = name; domain = domain }

abbrev pub client_of : List (List ℕ) → Option Statement
client_of (name ∷ domain ∷ []) = with_two (λ name domain. statement.Client (client name domain)) (unquoted name) (unquoted domain)
client_of _ = None

-- ---- acts of the main actor

abbrev pub step_of : List (List ℕ) → Option Statement
step_of (count ∷ []) = option_map statement.Step (number_in 1 1000000 count)
step_of _ = None

abbrev pub tick_of : List (List ℕ) → Option Statement
tick_of (ms ∷ []) = option_map statement.Tick (number_in 0 last_moment ms)
tick_of _ = None

abbrev pub exit_of : List (List ℕ) → Option Statement
exit_of (name ∷ status ∷ []) = with_two statement.Exit (unquoted name) (status_in status)
exit_of _ = None

abbrev pub file_of : List (List ℕ) → Option Statement
file_of (path ∷ content ∷ []) = with_two statement.File (unquoted path) (unquoted content)
file_of _ = None

-- ---- acts of clients

abbrev pub pair : List ℕ → List ℕ → Pair
pair name value = record { name = name; value = value }

-- the name that is set may be any text
abbrev pub set_of : List (List ℕ) → Option Ask
set_of (name ∷ value ∷ []) = with_two (λ name value. ask.Set (pair name value)) (unquoted name) (unquoted value)
set_of _ = None

abbrev pub legal : Option (List ℕ) → Option (List ℕ)
legal None = None
legal (Some name) = if is_legal_name name then Some name else None

-- the name that is read is legal
abbrev pub read_of : List (List ℕ) → Option Ask
read_of (name ∷ []) = option_map ask.Read (legal (unquoted name))
read_of _ = None

-- a request without arguments
abbrev pub lone : Ask → List (List ℕ) → Option Ask
lone request [] = Some request
lone request (word ∷ words) = None

-- the request of a client
abbrev pub ask_of : List (List ℕ) → Option Ask
ask_of [] = None
ask_of (word ∷ args) =
    if bytes_eq word (codes "set") then set_of args
    else if bytes_eq word (codes "read") then read_of args
    else if bytes_eq word (codes "sync") then lone ask.Sync args
    else if bytes_eq word (codes "catch") then lone ask.Catch args
    else None

-- ---- lines

-- `@`, which stands before the name of a client
abbrev pub is_call : List ℕ → Bool
is_call word = starts_with nat_eq word (codes "@")

-- what an act of the main actor says, by its first word and the others
abbrev pub act_of : List ℕ → List (List ℕ) → Option Statement
act_of word args =
    if bytes_eq word (codes "step") then step_of args
    else if bytes_eq word (codes "tick") then tick_of args
    else if bytes_eq word (codes "exit") then exit_of args
    else if bytes_eq word (codes "file") then file_of args
    else None

-- what a declaration or an act of the main actor says
abbrev pub plain_statement_of : List ℕ → List (List ℕ) → Option Statement
plain_statement_of word args =
    if bytes_eq word (codes "area") then area_of args
    else if bytes_eq word (codes "plan") then plan_of args
    else if bytes_eq word (codes "client") then client_of args
    else act_of word args

-- what the words of a line say
abbrev pub statement_of : List (List ℕ) → Option Statement
statement_of [] = None
statement_of (word ∷ args) =
    if is_call word then with_two statement.Ask (unquoted (drop 1 word)) (ask_of args) else plain_statement_of word args

-- What a line says: nothing, or a statement. None where the line is out of form.
unfoldable pub reading_of : List ℕ → Option (Option Statement)
reading_of line = if says_nothing line then Some None else option_map Some (statement_of (words_of line))

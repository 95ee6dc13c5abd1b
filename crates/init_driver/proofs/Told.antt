-- What acts tell the clients, one act after another.
use Rattle.std.proofs.Common.{◌≡◌, ℕ, zero, suc, ◌+◌, ◌-◌, ◌<◌, ◌≤◌, ◌==◌, Bool, true, false, if◌then◌else◌, List, [], ◌∷◌, ◌++◌, length, Option, Some, None, Result, Ok, Err, append-nil, append_assoc, refl, sym, ap, ◌∙◌, subst, arith, get_or, drop, eq-eqb}
use Rattle.std.proofs.lemmas.List.{at_drop_more}
use Rattle.std.specs.List.{flat_map}
use Rattle.std.specs.Result.{OnOk}
use Rattle.std.proofs.lemmas.List.Concat.{flat_map-append}
use Rattle.std.proofs.Math.ListN.{set}
use Rattle.std.proofs.lemmas.Bool.{ne_eqb}
use Rattle.init_base.specs.declared.units.ClientId.{ClientId}
use Rattle.init_machine.specs.History.{after_from}
use Rattle.init_machine.specs.Policy.{PolicyLines}
use Rattle.init_machine.specs.State.{State}
use Rattle.init_machine.specs.declared.config.Config.{Config}
use Rattle.init_machine.specs.declared.report.ClientPart.{ClientPart}
use Rattle.init_machine.specs.declared.report.Reading.{Reading}
use Rattle.script_lang.specs.Inputs.{act_inputs}
use Rattle.script_lang.specs.declared.script.Act.{Act}
use Rattle.script_lang.specs.declared.script.Act.TheVariants as act
use Rattle.script_lang.specs.declared.script.Ask.{Ask}
use Rattle.script_lang.specs.declared.script.Client.{Client}
use Rattle.init_driver.specs.Course.{told_at, told_from}
use Rattle.init_driver.specs.Seat.{AreTold, told_with}
use Rattle.init_driver.specs.Readings.{empty_parts, parts_from, readings_from, readings_in, told_by, told_now}

abbrev with_readings : ClientPart → List Reading → ClientPart
with_readings part readings = record part { readings = readings }

-- no act tells nothing
pub told_by_none : (config : Config) (policy : PolicyLines) (s : State) (id : ℕ) (parts : List ClientPart) → told_from config policy s [] id parts ≡ parts
told_by_none config policy s id [] = refl
told_by_none config policy s id (part ∷ rest) =
    ap (λ (rs : List Reading). with_readings part rs ∷ told_from config policy s [] (id + 1) rest) (append-nil part.readings)
    ∙ ap (λ (ps : List ClientPart). part ∷ ps) (told_by_none config policy s (id + 1) rest)

-- the first act, and then the others
pub told_by_first : (config : Config) (policy : PolicyLines) (s : State) (act : Act) (acts : List Act) (id : ℕ) (parts : List ClientPart)
    → told_from config policy (after_from config policy s (act_inputs act)) acts id (told_at s act id parts) ≡ told_from config policy s (act ∷ acts) id parts
told_by_first config policy s act acts id [] = refl
told_by_first config policy s act acts id (part ∷ rest) =
    let t = after_from config policy s (act_inputs act) in
    let later = readings_from config policy id t acts in
    ap (λ (rs : List Reading). with_readings part rs ∷ told_from config policy t acts (id + 1) (told_at s act (id + 1) rest)) (append_assoc part.readings (told_by id s act) later)
    ∙ ap (λ (ps : List ClientPart). with_readings part (part.readings ++ (told_by id s act ++ later)) ∷ ps) (told_by_first config policy s act acts (id + 1) rest)

-- the parts of clients that had learned nothing
pub told_of_empty : (config : Config) (policy : PolicyLines) (s : State) (acts : List Act) (id : ℕ) (clients : List Client)
    → told_from config policy s acts id (empty_parts clients) ≡ parts_from config policy s acts id clients
told_of_empty config policy s acts id [] = refl
told_of_empty config policy s acts id (client ∷ rest) =
    ap (λ (ps : List ClientPart). with_readings (record { name = client.name; domain = client.domain; readings = [] }) (readings_from config policy id s acts) ∷ ps)
    (told_of_empty config policy s acts (id + 1) rest)

pub told_length : (s : State) (act : Act) (id : ℕ) (parts : List ClientPart) → length (told_at s act id parts) ≡ length parts
told_length s act id [] = refl
told_length s act id (part ∷ rest) = ap (λ n. suc n) (told_length s act (id + 1) rest)

untold_from : (s : State) (act : Act) (id : ℕ) (parts : List ClientPart) → ((who : ℕ) → id ≤ who → told_by who s act ≡ []) → told_at s act id parts ≡ parts
untold_from s act id [] none = refl
untold_from s act id (part ∷ rest) none =
    ap (λ (rs : List Reading). with_readings part rs ∷ told_at s act (id + 1) rest) (ap (λ rs. part.readings ++ rs) (none id (omega arith)) ∙ append-nil part.readings)
    ∙ ap (λ (ps : List ClientPart). part ∷ ps) (untold_from s act (id + 1) rest (λ who above. none who (omega arith)))

-- an act that tells nobody anything
pub untold : (s : State) (act : Act) (id : ℕ) (parts : List ClientPart) → ((who : ℕ) → told_by who s act ≡ []) → told_at s act id parts ≡ parts
untold s act id parts none = untold_from s act id parts (λ who above. none who)

either_none : (b : Bool) → (if b then readings_in None else []) ≡ []
either_none true = refl
either_none false = refl

-- a request that tells nothing
pub untold_ask : (s : State) (who : ClientId) (ask : Ask) (id : ℕ) (parts : List ClientPart) → told_now s ask ≡ None → told_at s (act.Ask who ask) id parts ≡ parts
untold_ask s who ask id parts none =
    untold s (act.Ask who ask) id parts (λ k. ap (λ t. if who.0 == k then readings_in t else []) none ∙ either_none (who.0 == k))

told_same : (s : State) (who : ClientId) (ask : Ask) (reading : Reading) (id : ℕ) → told_now s ask ≡ Some reading → who.0 ≡ id → told_by id s (act.Ask who ask) ≡ reading ∷ []
told_same s who ask reading id is same =
    ap (λ t. if who.0 == id then readings_in t else []) is ∙ ap (λ (b : Bool). if b then reading ∷ [] else []) (eq-eqb who.0 id same)

told_other : (s : State) (who : ClientId) (ask : Ask) (id : ℕ) → (who.0 ≡ id → ⊥) → told_by id s (act.Ask who ask) ≡ []
told_other s who ask id differs = ap (λ (b : Bool). if b then readings_in (told_now s ask) else []) (ne_eqb who.0 id differs)

-- a request that tells its client something
told_ask : (s : State) (who : ClientId) (ask : Ask) (reading : Reading) → told_now s ask ≡ Some reading → (id : ℕ) (parts : List ClientPart) (k : ℕ) → k < length parts → who.0 ≡ id + k → (part : ClientPart) → part ≡ get_or parts k part
    → set parts k (with_readings part (part.readings ++ reading ∷ [])) ≡ told_at s (act.Ask who ask) id parts
told_ask s who ask reading is id [] k within same part at = absurd (omega arith)
told_ask s who ask reading is id (first ∷ rest) zero within same part at =
    ap (λ (p : ClientPart). with_readings p (p.readings ++ reading ∷ []) ∷ rest) at
    ∙ ap (λ (rs : List Reading). with_readings first (first.readings ++ rs) ∷ rest) (sym (told_same s who ask reading id is (omega arith)))
    ∙ ap (λ (ps : List ClientPart). with_readings first (first.readings ++ told_by id s (act.Ask who ask)) ∷ ps)
    (sym (untold_from s (act.Ask who ask) (id + 1) rest (λ k above. told_other s who ask k (λ e. omega arith))))
told_ask s who ask reading is id (first ∷ rest) (suc k) within same part at =
    ap (λ (ps : List ClientPart). first ∷ ps) (told_ask s who ask reading is (id + 1) rest k (omega arith) (omega arith) part at)
    ∙ ap (λ (rs : List Reading). with_readings first rs ∷ told_at s (act.Ask who ask) (id + 1) rest)
    (sym (ap (λ rs. first.readings ++ rs) (told_other s who ask id (λ e. omega arith)) ∙ append-nil first.readings))

-- no request tells nothing
pub not_asked : (a : Act) → ((who : ClientId) (ask : Ask) → a ≡ act.Ask who ask → ⊥) → (s : State) (who : ℕ) → told_by who s a ≡ []
not_asked (act.Step count) none s who = refl
not_asked (act.Tick ms) none s who = refl
not_asked (act.Exit name status) none s who = refl
not_asked (act.File path content) none s who = refl
not_asked (act.Ask other ask) none s who = absurd (none other ask refl)

-- one act more was taken
pub told_on : (config config' : Config) (policy policy' : PolicyLines) (s s' : State) (acts : List Act) (k : ℕ) (act : Act) (parts parts' : List ClientPart)
    → k < length acts → act ≡ get_or acts k act → parts' ≡ told_at s act 1 parts → config' ≡ config → policy' ≡ policy → s' ≡ after_from config policy s (act_inputs act)
    → told_from config' policy' s' (drop (k + 1) acts) 1 parts' ≡ told_from config policy s (drop k acts) 1 parts
told_on config config' policy policy' s s' acts k act parts parts' within at told same_config same_policy state =
    let rest = drop (k + 1) acts in
    ap (λ (ps : List ClientPart). told_from config' policy' s' rest 1 ps) told
    ∙ ap (λ (c : Config). told_from c policy' s' rest 1 (told_at s act 1 parts)) same_config
    ∙ ap (λ (p : PolicyLines). told_from config p s' rest 1 (told_at s act 1 parts)) same_policy
    ∙ ap (λ (t : State). told_from config policy t rest 1 (told_at s act 1 parts)) state
    ∙ told_by_first config policy s act rest 1 parts
    ∙ ap (λ (a : Act). told_from config policy s (a ∷ rest) 1 parts) at
    ∙ sym (at_drop_more (λ (left : List Act). told_from config policy s left 1 parts) acts k act within)

-- the same, where the reading was pushed
pub told_pushed : {T E : Type 0} (r : Result T E) (s : State) (a : Act) (who : ClientId) (ask : Ask) (reading : Reading) (parts : List ClientPart) (part : ClientPart) (new : List Reading)
    → a ≡ act.Ask who ask → told_now s ask ≡ Some reading → 1 ≤ who.0 → who.0 ≤ length parts → part ≡ get_or parts (who.0 - 1) part → OnOk r (new ≡ part.readings ++ reading ∷ [])
    → OnOk r (set parts (who.0 - 1) (with_readings part new) ≡ told_at s a 1 parts)
told_pushed (Ok v) s a who ask reading parts part new asks tells least most at pushed =
    ap (λ (rs : List Reading). set parts (who.0 - 1) (with_readings part rs)) pushed
    ∙ told_ask s who ask reading tells 1 parts (who.0 - 1) (omega arith) (omega arith) part at
    ∙ ap (λ (x : Act). told_at s x 1 parts) (sym asks)
told_pushed (Err e) s a who ask reading parts part new asks tells least most at pushed = pushed

-- the parts of all clients, where the acts were taken from the state behind the boot
pub told_of_opened : (config config' : Config) (policy policy' : PolicyLines) (s s' : State) (acts acts' : List Act) (clients clients' : List Client) (parts opened : List ClientPart)
    → parts ≡ told_from config' policy' s' acts' 1 opened → opened ≡ empty_parts clients' → clients' ≡ clients → acts' ≡ acts → config' ≡ config → policy' ≡ policy → s' ≡ s
    → parts ≡ parts_from config policy s acts 1 clients
told_of_opened config config' policy policy' s s' acts acts' clients clients' parts opened told empty same_clients same_acts same_config same_policy same_state =
    told ∙ ap (λ (ps : List ClientPart). told_from config' policy' s' acts' 1 ps) (empty ∙ ap empty_parts same_clients)
    ∙ ap (λ (taken : List Act). told_from config' policy' s' taken 1 (empty_parts clients)) same_acts
    ∙ ap (λ (c : Config). told_from c policy' s' acts 1 (empty_parts clients)) same_config
    ∙ ap (λ (p : PolicyLines). told_from config p s' acts 1 (empty_parts clients)) same_policy
    ∙ ap (λ (t : State). told_from config policy t acts 1 (empty_parts clients)) same_state
    ∙ told_of_empty config policy s acts 1 clients

-- ---- what the clients were told by the area

pub on_ok_of : {T E : Type 0} {P : Type 0} (r : Result T E) → P → OnOk r P
on_ok_of (Ok v) h = h
on_ok_of (Err e) h = tt

-- the same was told
pub told_alike : (told told' : ℕ → List Reading) (id : ℕ) (parts : List ClientPart) → ((q : ℕ) → told' q ≡ told q) → AreTold told id parts → AreTold told' id parts
told_alike told told' id [] same h = tt
told_alike told told' id (part ∷ parts) same h = (same id ∙ h.0, told_alike told told' (id + 1) parts same h.1)

-- nobody was told anything
pub told_fresh : (told : ℕ → List Reading) (id : ℕ) (clients : List Client) → ((q : ℕ) → told q ≡ []) → AreTold told id (empty_parts clients)
told_fresh told id [] none = tt
told_fresh told id (client ∷ clients) none = (none id, told_fresh told (id + 1) clients none)

-- an act told its client what it tells, between counts
pub told_more : (told told' : ℕ → List Reading) (s : State) (act : Act) (id : ℕ) (parts : List ClientPart)
    → ((q : ℕ) → told' q ≡ told q ++ flat_map told_with (told_by q s act)) → AreTold told id parts → AreTold told' id (told_at s act id parts)
told_more told told' s act id [] more h = tt
told_more told told' s act id (part ∷ parts) more h = (
  more id ∙ ap (λ rs. rs ++ flat_map told_with (told_by id s act)) h.0 ∙ sym (flat_map-append told_with part.readings (told_by id s act)),
  told_more told told' s act (id + 1) parts more h.1,
)

-- the same, of the request of an act
pub told_by_ask : (s : State) (a : Act) (who : ClientId) (ask : Ask) (reading : Option Reading) (q : ℕ) → a ≡ act.Ask who ask → reading ≡ told_now s ask
    → (if who.0 == q then flat_map told_with (readings_in reading) else []) ≡ flat_map told_with (told_by q s a)
told_by_ask s a who ask reading q is tells =
    ap (λ (r : Option Reading). if who.0 == q then flat_map told_with (readings_in r) else []) tells
    ∙ (elim (who.0 == q) as (λ b. (if b then flat_map told_with (readings_in (told_now s ask)) else []) ≡ flat_map told_with (if b then readings_in (told_now s ask) else [])) [
      | true ↦ refl
      | false ↦ refl
    ])
    ∙ ap (λ (x : Act). flat_map told_with (told_by q s x)) (sym is)

-- a part was pushed to
pub on_ok_told : {T E : Type 0} (r : Result T E) (told : ℕ → List Reading) (x y : List ClientPart) → OnOk r (x ≡ y) → AreTold told 1 y → OnOk r (AreTold told 1 x)
on_ok_told (Ok v) told x y e h = subst (AreTold told 1) (sym e) h
on_ok_told (Err e) told x y is h = tt

-- Building a script of statements that fit.
use Rattle.std.proofs.Common.{◌≡◌, ℕ, ◌+◌, ◌<◌, ◌≤◌, Bool, true, false, cond, not, ◌&&◌, ◌||◌, nat_lt, List, [], ◌∷◌, ◌++◌, length, length-append, map, filter, Option, Some, None, refl, sym, ap, ◌∙◌, append_assoc, append-nil, arith}
use Rattle.std.specs.List.{list_any, count_by, filter_map, position_or_len}
use Rattle.std.specs.Str.{bytes_eq}
use Rattle.std.proofs.lemmas.Bool.{ltb-true}
use Rattle.std.proofs.lemmas.List.Elements.{filter_map-append}
use Rattle.std.proofs.lemmas.List.Sums.{sum_by-append}
use Rattle.script_lang.specs.Building.{built_from, with_statement, empty_script}
use Rattle.script_lang.specs.Ordering.{first_unfit}
use Rattle.script_lang.specs.Script.{fits, is_act, is_client, is_client_named, area_in, plan_in, client_in, act_in, client_id, last_or, script_of, statements}
use Rattle.script_lang.specs.declared.script.Client.{Client}
use Rattle.script_lang.specs.declared.script.Script.{Script}
use Rattle.script_lang.specs.declared.statement.Said.{Said}
use Rattle.script_lang.specs.declared.statement.Statement.{Statement}
use Rattle.script_lang.specs.declared.statement.Statement.TheVariants as statement
use Rattle.std.specs.Cmp.{second_so}

-- the rest fits behind statements that are in the script
pub record RestFits (script : Script) (rest : List Said) : Type 0 where
  pub before : List Statement
  pub fitting : first_unfit before rest ≡ None
  pub count : length script.clients ≡ count_by is_client before
  pub few : count_by is_client before ≤ 64

-- what the code knows of the first of them
pub fits_now : (before : List Statement) (said : Said) (rest : List Said) → first_unfit before (said ∷ rest) ≡ None
    → (fits before said.statement ≡ true) × (first_unfit (before ++ said.statement ∷ []) rest ≡ None)
fits_now before said rest none = chosen (fits before said.statement) (first_unfit (before ++ said.statement ∷ []) rest) said.line none
  where
    chosen : (fit : Bool) (later : Option ℕ) (line : ℕ) → cond fit later (Some line) ≡ None → (fit ≡ true) × (later ≡ None)
    chosen true later line e = (refl, e)
    chosen false later line e = cc

pub count_more : (before : List Statement) (s : Statement) → count_by is_client (before ++ s ∷ []) ≡ count_by is_client before + cond (is_client s) 1 0
count_more before s = omega (arith, sum_by-append (λ s. cond (is_client s) 1 0) before (s ∷ []))

pub clients_more : (script : Script) (line : ℕ) (s : Statement) → length (with_statement script line s).clients ≡ length script.clients + cond (is_client s) 1 0
clients_more script line (statement.Area size) = omega arith
clients_more script line (statement.Plan plan) = omega arith
clients_more script line (statement.Client client) = length-append script.clients (client ∷ [])
clients_more script line (statement.Step count) = omega arith
clients_more script line (statement.Tick ms) = omega arith
clients_more script line (statement.Exit name status) = omega arith
clients_more script line (statement.File path content) = omega arith
clients_more script line (statement.Ask name ask) = omega arith

still_few : (before : List Statement) (s : Statement) → fits before s ≡ true → count_by is_client before ≤ 64
    → count_by is_client before + cond (is_client s) 1 0 ≤ 64
still_few before (statement.Area size) fit few = omega arith
still_few before (statement.Plan plan) fit few = omega arith
still_few before (statement.Client client) fit few =
    let low : count_by is_client before < 64 =
    ltb-true _ _ (second_so (not (list_any is_act before) && not (list_any (is_client_named client.name) before)) (nat_lt (count_by is_client before) 64) fit) in
    omega arith
still_few before (statement.Step count) fit few = omega arith
still_few before (statement.Tick ms) fit few = omega arith
still_few before (statement.Exit name status) fit few = omega arith
still_few before (statement.File path content) fit few = omega arith
still_few before (statement.Ask name ask) fit few = omega arith

pub built_more : (script : Script) (said : Said) (rest : List Said) → RestFits script (said ∷ rest)
    → RestFits (with_statement script said.line said.statement) rest
built_more script said rest fitting =
    let now = fits_now fitting.before said rest fitting.fitting in
    let few = still_few fitting.before said.statement now.0 fitting.few in
    record {
      before = fitting.before ++ said.statement ∷ [];
      fitting = now.1;
      count = omega (arith, clients_more script said.line said.statement, count_more fitting.before said.statement, fitting.count);
      few = omega (arith, count_more fitting.before said.statement, few);
    }

-- ---- the whole script

pub position_more : (p : Client → Bool) (clients more : List Client) → list_any p clients ≡ true
    → position_or_len p (clients ++ more) ≡ position_or_len p clients
position_more p [] more any = cc
position_more p (client ∷ clients) more any =
    elim (p client) as (λ t. p client ≡ t → position_or_len p (client ∷ clients ++ more) ≡ position_or_len p (client ∷ clients)) [
      | true ↦ λ here. rw here refl
      | false ↦ λ other.
          let later : list_any p clients ≡ true = sym (rw other refl) ∙ any in
          let same = position_more p clients more later in
          rw (other, same) refl
    ] refl

pub named_client : (before : List Statement) (name : List ℕ)
    → list_any (is_client_named name) before ≡ list_any (λ client. bytes_eq client.name name) (filter_map client_in before)
named_client [] name = refl
named_client (statement.Area size ∷ before) name = named_client before name
named_client (statement.Plan plan ∷ before) name = named_client before name
named_client (statement.Client client ∷ before) name = ap (λ b. bytes_eq client.name name || b) (named_client before name)
named_client (statement.Step count ∷ before) name = named_client before name
named_client (statement.Tick ms ∷ before) name = named_client before name
named_client (statement.Exit n status ∷ before) name = named_client before name
named_client (statement.File path content ∷ before) name = named_client before name
named_client (statement.Ask n ask ∷ before) name = named_client before name

-- the script with what the rest says
abbrev script_behind : Script → List Said → Script
script_behind script rest =
    let clients = script.clients ++ filter_map client_in (statements rest) in
    record {
      words = last_or script.words (filter_map area_in (statements rest));
      plans = script.plans ++ filter_map plan_in (statements rest);
      clients = clients;
      acts = script.acts ++ filter_map (act_in clients) (statements rest);
      lines = script.lines ++ map (λ s. s.line) (filter (λ s. is_act s.statement) rest);
    }

nothing_behind : (script : Script) → script ≡ script_behind script []
nothing_behind script = sym (simp append-nil)

-- a client that is declared keeps its number
same_id : (script : Script) (before : List Statement) (name : List ℕ) (more : List Client) → script.clients ≡ filter_map client_in before
    → list_any (is_client_named name) before ≡ true → client_id script.clients name ≡ client_id (script.clients ++ more) name
same_id script before name more clients any =
    let declared : list_any (λ client. bytes_eq client.name name) script.clients ≡ true =
    ap (list_any (λ client. bytes_eq client.name name)) clients ∙ sym (named_client before name) ∙ any in
    ap (λ n. record { 0 = n + 1 }) (sym (position_more (λ client. bytes_eq client.name name) script.clients more declared))

behind_one : (script : Script) (line : ℕ) (s : Statement) (rest : List Said) (before : List Statement) → script.clients ≡ filter_map client_in before
    → fits before s ≡ true → script_behind (with_statement script line s) rest ≡ script_behind script (record { line = line; statement = s } ∷ rest)
behind_one script line (statement.Area size) rest before clients fit = refl
behind_one script line (statement.Plan plan) rest before clients fit = simp append_assoc
behind_one script line (statement.Client client) rest before clients fit = simp append_assoc
behind_one script line (statement.Step count) rest before clients fit = simp append_assoc
behind_one script line (statement.Tick ms) rest before clients fit = simp append_assoc
behind_one script line (statement.Exit name status) rest before clients fit = simp append_assoc
behind_one script line (statement.File path content) rest before clients fit = simp append_assoc
behind_one script line (statement.Ask name ask) rest before clients fit =
    let id = same_id script before name (filter_map client_in (statements rest)) clients fit in
    rw (← id) (simp append_assoc)

no_client : (s : Statement) (before : List Statement) → client_in s ≡ None → filter_map client_in before ≡ filter_map client_in (before ++ s ∷ [])
no_client s before none =
    let last : filter_map client_in (s ∷ []) ≡ [] = rw none refl in
    sym (filter_map-append client_in before (s ∷ []) ∙ ap (λ cs. filter_map client_in before ++ cs) last ∙ append-nil (filter_map client_in before))

pub with_client : (script : Script) (line : ℕ) (s : Statement) (before : List Statement) → script.clients ≡ filter_map client_in before
    → (with_statement script line s).clients ≡ filter_map client_in (before ++ s ∷ [])
with_client script line (statement.Client client) before clients =
    ap (λ cs. cs ++ client ∷ []) clients ∙ sym (filter_map-append client_in before (statement.Client client ∷ []))
with_client script line (statement.Area size) before clients = clients ∙ no_client (statement.Area size) before refl
with_client script line (statement.Plan plan) before clients = clients ∙ no_client (statement.Plan plan) before refl
with_client script line (statement.Step count) before clients = clients ∙ no_client (statement.Step count) before refl
with_client script line (statement.Tick ms) before clients = clients ∙ no_client (statement.Tick ms) before refl
with_client script line (statement.Exit name status) before clients = clients ∙ no_client (statement.Exit name status) before refl
with_client script line (statement.File path content) before clients = clients ∙ no_client (statement.File path content) before refl
with_client script line (statement.Ask name ask) before clients = clients ∙ no_client (statement.Ask name ask) before refl

built_is : (script : Script) (before : List Statement) (rest : List Said) → script.clients ≡ filter_map client_in before
    → first_unfit before rest ≡ None → built_from script rest ≡ script_behind script rest
built_is script before [] clients fitting = nothing_behind script
built_is script before (said ∷ rest) clients fitting =
    let now = fits_now before said rest fitting in
    built_is (with_statement script said.line said.statement) (before ++ said.statement ∷ []) rest (with_client script said.line said.statement before clients) now.1
    ∙ behind_one script said.line said.statement rest before clients now.0

no_plan : (s : Statement) (before : List Statement) → plan_in s ≡ None → filter_map plan_in before ≡ filter_map plan_in (before ++ s ∷ [])
no_plan s before none =
    let last : filter_map plan_in (s ∷ []) ≡ [] = rw none refl in
    sym (filter_map-append plan_in before (s ∷ []) ∙ ap (λ ps. filter_map plan_in before ++ ps) last ∙ append-nil (filter_map plan_in before))

pub with_plan : (script : Script) (line : ℕ) (s : Statement) (before : List Statement) → script.plans ≡ filter_map plan_in before
    → (with_statement script line s).plans ≡ filter_map plan_in (before ++ s ∷ [])
with_plan script line (statement.Plan plan) before plans =
    ap (λ ps. ps ++ plan ∷ []) plans ∙ sym (filter_map-append plan_in before (statement.Plan plan ∷ []))
with_plan script line (statement.Area size) before plans = plans ∙ no_plan (statement.Area size) before refl
with_plan script line (statement.Client client) before plans = plans ∙ no_plan (statement.Client client) before refl
with_plan script line (statement.Step count) before plans = plans ∙ no_plan (statement.Step count) before refl
with_plan script line (statement.Tick ms) before plans = plans ∙ no_plan (statement.Tick ms) before refl
with_plan script line (statement.Exit name status) before plans = plans ∙ no_plan (statement.Exit name status) before refl
with_plan script line (statement.File path content) before plans = plans ∙ no_plan (statement.File path content) before refl
with_plan script line (statement.Ask name ask) before plans = plans ∙ no_plan (statement.Ask name ask) before refl

pub built_script : (said : List Said) → first_unfit [] said ≡ None → built_from empty_script said ≡ script_of said
built_script said fitting = built_is empty_script [] said refl fitting

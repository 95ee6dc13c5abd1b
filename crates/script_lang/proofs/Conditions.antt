-- A script meets what a run asks of it.
use Rattle.std.proofs.Common.{◌≡◌, ◌≢◌, ℕ, ◌+◌, ◌<◌, ◌≤◌, Bool, true, false, cond, not, ◌&&◌, ◌||◌, nat_lt, List, [], ◌∷◌, ◌++◌, length, get_or, length-append, Option, Some, None, All, refl, sym, ap, subst, ◌∙◌, arith}
use Rattle.std.specs.List.{list_any, count_by, filter_map, position_or_len}
use Rattle.std.specs.Option.{option_map}
use Rattle.std.specs.Str.{bytes_eq}
use Rattle.std.proofs.lemmas.Bool.{ltb-true, not-true}
use Rattle.std.proofs.lemmas.List.Elements.{All-nil, All-cons, All-append, All-weaker}
use Rattle.std.proofs.lemmas.List.Folds.{list_any_at}
use Rattle.std.proofs.lemmas.List.Quantifiers.{all_pairs_push}
use Rattle.init_machine.proofs.DistinctSums.{bytes_eq-refl}
use Rattle.script_lang.specs.Building.{built_from, with_statement, with_act, empty_script}
use Rattle.script_lang.specs.Gathering.{first_unread, said_until}
use Rattle.script_lang.specs.Laws.{Differ, IsAskAmong, IsMoment, IsPermitted, IsPermittedAsk, MeetsConditions, ReadsLegal}
use Rattle.script_lang.specs.Lines.{says_nothing, words_of, lines_of}
use Rattle.script_lang.specs.Ordering.{first_unfit}
use Rattle.script_lang.specs.Script.{AllFit, IsScript, client_id, client_in, fits, is_act, is_client, is_client_named, is_plan_of, plan_in, said_from, said_in}
use Rattle.script_lang.specs.Statements.{reading_of, statement_of}
use Rattle.script_lang.specs.declared.script.Act.{Act}
use Rattle.script_lang.specs.declared.script.Act.TheVariants as act
use Rattle.script_lang.specs.declared.script.Ask.{Ask}
use Rattle.script_lang.specs.declared.script.Ask.TheVariants as ask
use Rattle.script_lang.specs.declared.script.Script.{Script}
use Rattle.script_lang.specs.declared.statement.Said.{Said}
use Rattle.script_lang.specs.declared.statement.Statement.{Statement}
use Rattle.script_lang.specs.declared.statement.Statement.TheVariants as statement
use Rattle.script_lang.proofs.Builds.{fits_now, named_client, with_client, with_plan, clients_more, count_more, built_script}
use Rattle.script_lang.proofs.Gatherings.{misfit_is, all_said}
use Rattle.script_lang.proofs.Misfits.{all_fit_is_none}
use Rattle.script_lang.proofs.Readings.{neither}
use Rattle.script_lang.proofs.Spellings.{statement_written}
use Rattle.std.specs.Cmp.{first_so, second_so}

-- ---- what lines say is permitted

PermittedAll : List Said → Type 0
PermittedAll [] = Unit {0}
PermittedAll (said ∷ rest) = IsPermitted said.statement × PermittedAll rest

permitted_statement : (words : List (List ℕ)) (nothing : Bool) (s : Statement) → cond nothing (Some None) (option_map Some (statement_of words)) ≡ Some (Some s)
    → IsPermitted s
permitted_statement words true s e = absurd (not_said e)
  where
    not_said : Some None ≡ Some (Some s) → ⊥
    not_said e = let same : None ≡ Some s = cc in cc
permitted_statement words false s e = said (statement_of words) refl e
  where
    said : (o : Option Statement) → statement_of words ≡ o → option_map Some o ≡ Some (Some s) → IsPermitted s
    said None is e = cc
    said (Some t) is e =
        let same : t ≡ s = let inner : Some t ≡ Some s = cc in cc in
        subst IsPermitted same (statement_written words t is).1

permitted_reading : (line : List ℕ) (s : Statement) → reading_of line ≡ Some (Some s) → IsPermitted s
unfolding reading_of
permitted_reading line s e = permitted_statement (words_of line) (says_nothing line) s e

permitted_lines : (number : ℕ) (lines : List (List ℕ)) → PermittedAll (said_from number lines)
unfolding PermittedAll
permitted_lines number [] = tt
permitted_lines number (line ∷ lines) = one (reading_of line) refl (permitted_lines (number + 1) lines)
  where
    one : (reading : Option (Option Statement)) → reading_of line ≡ reading → PermittedAll (said_from (number + 1) lines)
        → PermittedAll (said_in number reading ++ said_from (number + 1) lines)
    one None is later = later
    one (Some None) is later = later
    one (Some (Some s)) is later = (permitted_reading line s is, later)

-- ---- one statement more

all_more : {X : Type 0} (P : X → Type 0) (xs : List X) (x : X) → All P xs → P x → All P (xs ++ x ∷ [])
all_more P xs x all here = All-append P xs (x ∷ []) all (All-cons P x [] here (All-nil P))

-- no text of the others is that of the new one
others_differ : {A : Type 0} (text : A → List ℕ) (values : List A) (new : A) → list_any (λ value. bytes_eq (text value) (text new)) values ≡ false
    → (k : ℕ) (d : A) → k < length values → text (get_or values k d) ≢ text new
others_differ text values new none k d low same =
    let found : list_any (λ value. bytes_eq (text value) (text new)) values ≡ true =
    list_any_at (λ value. bytes_eq (text value) (text new)) values k d low (ap (λ t. bytes_eq t (text new)) same ∙ bytes_eq-refl (text new)) in
    cc

still_differ : {A : Type 0} (text : A → List ℕ) (values : List A) (new : A) → Differ text values
    → list_any (λ value. bytes_eq (text value) (text new)) values ≡ false → Differ text (values ++ new ∷ [])
still_differ text values new differ none = all_pairs_push (λ a b. text a ≢ text b) values new differ (others_differ text values new none)

named_plan : (before : List Statement) (path : List ℕ) → list_any (is_plan_of path) before ≡ list_any (λ plan. bytes_eq plan.path path) (filter_map plan_in before)
named_plan [] path = refl
named_plan (statement.Area size ∷ before) path = named_plan before path
named_plan (statement.Plan plan ∷ before) path = ap (λ b. bytes_eq plan.path path || b) (named_plan before path)
named_plan (statement.Client client ∷ before) path = named_plan before path
named_plan (statement.Step count ∷ before) path = named_plan before path
named_plan (statement.Tick ms ∷ before) path = named_plan before path
named_plan (statement.Exit n status ∷ before) path = named_plan before path
named_plan (statement.File p content ∷ before) path = named_plan before path
named_plan (statement.Ask n ask ∷ before) path = named_plan before path

position_within : {X : Type 0} (p : X → Bool) (xs : List X) → list_any p xs ≡ true → position_or_len p xs < length xs
position_within p [] any = cc
position_within p (x ∷ xs) any =
    elim (p x) as (λ t. p x ≡ t → position_or_len p (x ∷ xs) < length (x ∷ xs)) [
      | true ↦ λ here. rw here (omega arith)
      | false ↦ λ other.
          let later : list_any p xs ≡ true = sym (rw other refl) ∙ any in
          let low = position_within p xs later in
          rw other (omega arith)
    ] refl

-- the script is what the statements before say
record IsOf (script : Script) (before : List Statement) : Type 0 where
  plans : script.plans ≡ filter_map plan_in before
  clients : script.clients ≡ filter_map client_in before
  count : length script.clients ≡ count_by is_client before

meets_act : (script : Script) (line : ℕ) (act : Act) → MeetsConditions script → IsAskAmong (length script.clients) act
    → MeetsConditions (with_act script line act)
meets_act script line act meets among = record {
  least_words = meets.least_words;
  most_words = meets.most_words;
  plans_differ = meets.plans_differ;
  moments = meets.moments;
  clients_differ = meets.clients_differ;
  few_clients = meets.few_clients;
  asks = all_more (IsAskAmong (length script.clients)) script.acts act meets.asks among;
  line_of_each = omega (arith, length-append script.lines (line ∷ []), length-append script.acts (act ∷ []), meets.line_of_each);
}

among_more : (few many : ℕ) → few ≤ many → (act : Act) → IsAskAmong few act → IsAskAmong many act
among_more few many more (act.Step count) among = tt
among_more few many more (act.Tick ms) among = tt
among_more few many more (act.Exit name status) among = tt
among_more few many more (act.File path content) among = tt
among_more few many more (act.Ask who ask) among = let low = among.1 in (among.0, omega (arith, low, more), among.2)

legal_read : (request : Ask) → IsPermittedAsk request → ReadsLegal request
legal_read (ask.Set pair) permitted = tt
legal_read (ask.Read name) permitted = permitted.1
legal_read ask.Sync permitted = tt
legal_read ask.Catch permitted = tt

meets_one : (script : Script) (line : ℕ) (s : Statement) (before : List Statement) → MeetsConditions script → IsOf script before → fits before s ≡ true
    → IsPermitted s → MeetsConditions (with_statement script line s)
meets_one script line (statement.Area size) before meets of fit permitted = record {
  least_words = permitted.0;
  most_words = permitted.1;
  plans_differ = meets.plans_differ;
  moments = meets.moments;
  clients_differ = meets.clients_differ;
  few_clients = meets.few_clients;
  asks = meets.asks;
  line_of_each = meets.line_of_each;
}
meets_one script line (statement.Plan plan) before meets of fit permitted =
    let none : list_any (is_plan_of plan.path) before ≡ false =
    not-true _ (second_so (not (list_any is_act before)) (not (list_any (is_plan_of plan.path) before)) fit) in
    let new : list_any (λ other. bytes_eq other.path plan.path) script.plans ≡ false =
    ap (list_any (λ other. bytes_eq other.path plan.path)) of.plans ∙ sym (named_plan before plan.path) ∙ none in
    record {
      least_words = meets.least_words;
      most_words = meets.most_words;
      plans_differ = still_differ (λ plan. plan.path) script.plans plan meets.plans_differ new;
      moments = all_more (λ plan. IsMoment plan.after.0) script.plans plan meets.moments permitted.1;
      clients_differ = meets.clients_differ;
      few_clients = meets.few_clients;
      asks = meets.asks;
      line_of_each = meets.line_of_each;
    }
meets_one script line (statement.Client client) before meets of fit permitted =
    let front = first_so (not (list_any is_act before) && not (list_any (is_client_named client.name) before)) (nat_lt (count_by is_client before) 64) fit in
    let none : list_any (is_client_named client.name) before ≡ false =
    not-true _ (second_so (not (list_any is_act before)) (not (list_any (is_client_named client.name) before)) front) in
    let new : list_any (λ other. bytes_eq other.name client.name) script.clients ≡ false =
    ap (list_any (λ other. bytes_eq other.name client.name)) of.clients ∙ sym (named_client before client.name) ∙ none in
    let low : count_by is_client before < 64 =
    ltb-true _ _ (second_so (not (list_any is_act before) && not (list_any (is_client_named client.name) before)) (nat_lt (count_by is_client before) 64) fit) in
    record {
      least_words = meets.least_words;
      most_words = meets.most_words;
      plans_differ = meets.plans_differ;
      moments = meets.moments;
      clients_differ = still_differ (λ client. client.name) script.clients client meets.clients_differ new;
      few_clients = omega (arith, length-append script.clients (client ∷ []), of.count, low);
      asks = All-weaker (IsAskAmong (length script.clients)) (IsAskAmong (length (script.clients ++ client ∷ [])))
          (among_more (length script.clients) (length (script.clients ++ client ∷ [])) (omega (arith, length-append script.clients (client ∷ [])))) script.acts meets.asks;
      line_of_each = meets.line_of_each;
    }
meets_one script line (statement.Step count) before meets of fit permitted = meets_act script line (act.Step count) meets tt
meets_one script line (statement.Tick ms) before meets of fit permitted = meets_act script line (act.Tick ms) meets tt
meets_one script line (statement.Exit name status) before meets of fit permitted = meets_act script line (act.Exit name status) meets tt
meets_one script line (statement.File path content) before meets of fit permitted = meets_act script line (act.File path content) meets tt
meets_one script line (statement.Ask name request) before meets of fit permitted =
    let declared : list_any (λ client. bytes_eq client.name name) script.clients ≡ true =
    ap (list_any (λ client. bytes_eq client.name name)) of.clients ∙ sym (named_client before name) ∙ fit in
    let low = position_within (λ client. bytes_eq client.name name) script.clients declared in
    meets_act script line (act.Ask (client_id script.clients name) request) meets (omega arith, omega (arith, low), legal_read request permitted.1)

of_one : (script : Script) (line : ℕ) (s : Statement) (before : List Statement) → IsOf script before → IsOf (with_statement script line s) (before ++ s ∷ [])
of_one script line s before of = record {
  plans = with_plan script line s before of.plans;
  clients = with_client script line s before of.clients;
  count = omega (arith, clients_more script line s, count_more before s, of.count);
}

-- ---- all statements

meets_all : (script : Script) (before : List Statement) (rest : List Said) → MeetsConditions script → IsOf script before → first_unfit before rest ≡ None
    → PermittedAll rest → MeetsConditions (built_from script rest)
unfolding PermittedAll
meets_all script before [] meets of fitting permitted = meets
meets_all script before (said ∷ rest) meets of fitting permitted =
    let now = fits_now before said rest fitting in
    meets_all (with_statement script said.line said.statement) (before ++ said.statement ∷ []) rest
    (meets_one script said.line said.statement before meets of now.0 permitted.0) (of_one script said.line said.statement before of) now.1 permitted.1

empty_meets : MeetsConditions empty_script
empty_meets = record {
  least_words = omega arith;
  most_words = omega arith;
  plans_differ = λ i j d below low. absurd (omega arith);
  moments = All-nil (λ plan. IsMoment plan.after.0);
  clients_differ = λ i j d below low. absurd (omega arith);
  few_clients = omega arith;
  asks = All-nil (IsAskAmong 0);
  line_of_each = refl;
}

-- what the lines of a script say fits
said_fits : (lines : List (List ℕ)) → AllFit lines → first_unfit [] (said_from 1 lines) ≡ None
said_fits lines fit =
    let both = neither (first_unfit [] (said_until 1 lines)) (first_unread 1 lines) (misfit_is [] 1 lines ∙ all_fit_is_none lines fit) in
    ap (first_unfit []) (sym (all_said 1 lines both.1)) ∙ both.0

pub script_meets : (bytes : List ℕ) (script : Script) → IsScript bytes script → MeetsConditions script
script_meets bytes script is =
    let said = said_from 1 (lines_of bytes) in
    let fitting = said_fits (lines_of bytes) is.all_fit in
    subst MeetsConditions (built_script said fitting ∙ sym is.script_is)
    (meets_all empty_script [] said empty_meets (record { plans = refl; clients = refl; count = refl }) fitting (permitted_lines 1 (lines_of bytes)))

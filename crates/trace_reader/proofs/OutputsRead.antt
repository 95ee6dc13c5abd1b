-- Outputs are read as they are written.
use Rattle.std.proofs.Common.{◌≡◌, ℕ, List, [], ◌∷◌, map, codes, Some, refl, sym, ap, subst, ◌∙◌, inl, inr}
use Rattle.std.specs.Option.{option_map}
use Rattle.std.specs.Str.{bytes_eq}
use Rattle.init_base.specs.Quoted.{quoted, unquoted}
use Rattle.std.specs.Fmt.{decimal}
use Rattle.init_machine.specs.Commands.{word_of}
use Rattle.init_machine.specs.HasText.{OutputHasText}
use Rattle.init_machine.specs.WordTexts.{word_text}
use Rattle.init_machine.specs.declared.output.Output.{Output}
use Rattle.init_machine.specs.declared.output.Output.TheVariants as output
use Rattle.init_machine.proofs.DistinctSums.{same_bytes}
use Rattle.init_trace.specs.Fields.{cause_fields, how_fields, output_fields, refusal_fields}
use Rattle.script_lang.specs.Statements.{with_two, with_three}
use Rattle.trace_reader.specs.Held.{OutputIsHeld}
use Rattle.trace_reader.specs.Outputs.{command_of, millis, output_in, output_named, pid, reap_of, unset_of, wait_child_of, wait_file_of, wait_of, wait_prop_of}
use Rattle.trace_reader.specs.Reading.{with_four}
use Rattle.trace_reader.specs.Refusals.{cause_of, how_of, refusal_of}
use Rattle.trace_reader.specs.Words.{small_in, texts_in}
use Rattle.trace_reader.specs.declared.output_word.OutputWord.{OutputWord}
use Rattle.trace_reader.specs.declared.output_word.OutputWord.TheVariants as word
use Rattle.trace_reader.specs.declared.output_word.TheConstants.{OUTPUTS}
use Rattle.trace_reader.proofs.Choices.{choose_named, four_some, if_some, map_some, three_some, two_some}
use Rattle.trace_reader.proofs.RefusalsRead.{cause_complete, cause_sound, how_complete, how_sound, refusal_complete, refusal_sound}
use Rattle.trace_reader.proofs.Spells.{IsWritten, by_lone, by_one, by_pair, by_three, by_two, command, large, mapped, small, text, texts_complete, texts_sound, three_complete, two_complete, written_as}

abbrev pub OutputIsGood : Output → Type 0
OutputIsGood o = OutputIsHeld o × OutputHasText o

abbrev pub OutputIsWritten : List (List ℕ) → Output → Type 0
OutputIsWritten words o = IsWritten Output output_fields OutputIsGood words o

pub output_name : OutputWord → List ℕ
output_name word.Event = codes "event"
output_name word.Change = codes "change"
output_name word.AllProperties = codes "all-properties"
output_name word.Action = codes "action"
output_name word.Command = codes "command"
output_name word.Put = codes "put"
output_name word.Stored = codes "stored"
output_name word.Unset = codes "unset"
output_name word.Spawn = codes "spawn"
output_name word.NoPid = codes "no-pid"
output_name word.Kill = codes "kill"
output_name word.Reap = codes "reap"
output_name word.Env = codes "env"
output_name word.Tree = codes "tree"
output_name word.Noted = codes "noted"
output_name word.Ok = codes "ok"
output_name word.Failed = codes "failed"
output_name word.Wait = codes "wait"
output_name word.Released = codes "released"
output_name word.Timeout = codes "timeout"
output_name word.Blocked = codes "blocked"
output_name word.Idle = codes "idle"
output_name word.Down = codes "down"
output_name word.TooFar = codes "too-far"
output_name word.NoProcess = codes "no-process"
output_name word.Reboot = codes "reboot"
output_name word.Accepted = codes "accepted"
output_name word.Control = codes "control"
output_name word.Refused = codes "refused"

pub output_word_is : (name : List ℕ) (k : OutputWord) → output_named name ≡ Some k → name ≡ output_name k
unfolding output_name
output_word_is name k e = choose_named output_name (map (λ row. (row.0.now, row.1)) OUTPUTS) name k refl e

-- ---- what is read was written

command_written : (args : List (List ℕ)) (o : Output) → command_of args ≡ Some o → OutputIsWritten (codes "command" ∷ args) o
command_written [] o e = cc
command_written (file ∷ []) o e = cc
command_written (file ∷ line ∷ []) o e = cc
command_written (file ∷ line ∷ name ∷ args) o e =
    let got = four_some (λ file line word args. output.Command file line word args) (unquoted file) (small_in line) (word_of name) (texts_in args) o e in
    let first = text.sound file got.0 got.4 in
    let second = small.sound line got.1 got.5 in
    let third = command.sound name got.2 got.6 in
    let later = texts_sound args got.3 got.7 in
    written_as output_fields OutputIsGood (codes "command" ∷ file ∷ line ∷ name ∷ args) (output.Command got.0 got.1 got.2 got.3) o got.8
    (ap (λ w. codes "command" ∷ w ∷ line ∷ name ∷ args) first.0 ∙ ap (λ w. codes "command" ∷ quoted got.0 ∷ w ∷ name ∷ args) second.0
    ∙ ap (λ w. codes "command" ∷ quoted got.0 ∷ decimal got.1 ∷ w ∷ args) third.0
    ∙ ap (λ ws. codes "command" ∷ quoted got.0 ∷ decimal got.1 ∷ word_text got.2 ∷ ws) later.0)
    ((first.1, second.1, later.1), tt)

unset_written : (args : List (List ℕ)) (o : Output) → unset_of args ≡ Some o → OutputIsWritten (codes "unset" ∷ args) o
unset_written [] o e = cc
unset_written (name ∷ args) o e =
    let got = two_some (λ name refusal. output.Unset name refusal) (unquoted name) (refusal_of args) o e in
    let first = text.sound name got.0 got.2 in
    let later = refusal_sound args got.1 got.3 in
    written_as output_fields OutputIsGood (codes "unset" ∷ name ∷ args) (output.Unset got.0 got.1) o got.4
    (ap (λ w. codes "unset" ∷ w ∷ args) first.0 ∙ ap (λ ws. codes "unset" ∷ quoted got.0 ∷ ws) later.spelled)
    ((first.1, later.holds.0), later.holds.1)

reap_written : (args : List (List ℕ)) (o : Output) → reap_of args ≡ Some o → OutputIsWritten (codes "reap" ∷ args) o
reap_written [] o e = cc
reap_written (number ∷ []) o e = cc
reap_written (number ∷ name ∷ args) o e =
    let got = three_some (λ number name how. output.Reap (pid number) name how) (small_in number) (unquoted name) (how_of args) o e in
    let first = small.sound number got.0 got.3 in
    let second = text.sound name got.1 got.4 in
    let later = how_sound args got.2 got.5 in
    written_as output_fields OutputIsGood (codes "reap" ∷ number ∷ name ∷ args) (output.Reap (pid got.0) got.1 got.2) o got.6
    (ap (λ w. codes "reap" ∷ w ∷ name ∷ args) first.0 ∙ ap (λ w. codes "reap" ∷ decimal got.0 ∷ w ∷ args) second.0
    ∙ ap (λ ws. codes "reap" ∷ decimal got.0 ∷ quoted got.1 ∷ ws) later.spelled)
    ((first.1, second.1, later.holds), tt)

failed_written : (args : List (List ℕ)) (o : Output) → option_map (λ cause. output.Failed cause) (cause_of args) ≡ Some o → OutputIsWritten (codes "failed" ∷ args) o
failed_written args o e =
    let m = map_some (λ cause. output.Failed cause) (cause_of args) o e in
    let got = cause_sound args m.0 m.1 in
    written_as output_fields OutputIsGood (codes "failed" ∷ args) (output.Failed m.0) o m.2 (ap (λ ws. codes "failed" ∷ ws) got.spelled) got.holds

refused_written : (args : List (List ℕ)) (o : Output) → option_map (λ refusal. output.Refused refusal) (refusal_of args) ≡ Some o → OutputIsWritten (codes "refused" ∷ args) o
refused_written args o e =
    let m = map_some (λ refusal. output.Refused refusal) (refusal_of args) o e in
    let got = refusal_sound args m.0 m.1 in
    written_as output_fields OutputIsGood (codes "refused" ∷ args) (output.Refused m.0) o m.2 (ap (λ ws. codes "refused" ∷ ws) got.spelled) got.holds

-- the fields behind `wait`
abbrev wait_fields : Output → List (List ℕ)
wait_fields (output.WaitChild pid) = codes "child" ∷ decimal pid.0 ∷ []
wait_fields (output.WaitProp name value) = codes "prop" ∷ quoted name ∷ quoted value ∷ []
wait_fields (output.WaitFile path until) = codes "file" ∷ quoted path ∷ decimal until.0 ∷ []
wait_fields _ = []

abbrev IsWait : Output → Type 0
IsWait o = (codes "wait" ∷ wait_fields o ≡ output_fields o) × OutputIsGood o

abbrev WaitIsWritten : List (List ℕ) → Output → Type 0
WaitIsWritten words o = IsWritten Output wait_fields IsWait words o

wait_child_written : (args : List (List ℕ)) (o : Output) → wait_child_of args ≡ Some o → WaitIsWritten (codes "child" ∷ args) o
wait_child_written = by_one wait_fields IsWait (codes "child") (λ number. output.WaitChild (pid number)) small (λ a h. (refl, (h, tt))) (λ a. refl)

wait_prop_written : (args : List (List ℕ)) (o : Output) → wait_prop_of args ≡ Some o → WaitIsWritten (codes "prop" ∷ args) o
wait_prop_written = by_pair wait_fields IsWait (codes "prop") (λ texts. output.WaitProp texts.0 texts.1) text text (λ a b h k. (refl, ((h, k), tt))) (λ a b. refl)

wait_file_written : (args : List (List ℕ)) (o : Output) → wait_file_of args ≡ Some o → WaitIsWritten (codes "file" ∷ args) o
wait_file_written = by_two wait_fields IsWait (codes "file") (λ path until. output.WaitFile path (millis until)) text large (λ a b h k. (refl, ((h, k), tt))) (λ a b. refl)

any_wait : (args : List (List ℕ)) (o : Output) → WaitIsWritten args o → OutputIsWritten (codes "wait" ∷ args) o
any_wait args o h = record { spelled = ap (λ ws. codes "wait" ∷ ws) h.spelled ∙ h.holds.0; holds = h.holds.1 }

wait_written : (args : List (List ℕ)) (o : Output) → wait_of args ≡ Some o → OutputIsWritten (codes "wait" ∷ args) o
wait_written [] o e = cc
wait_written (name ∷ args) o e = elim (if_some (bytes_eq name (codes "child")) _ _ o e) [
  | inl is ↦ any_wait (name ∷ args) o (subst (λ w. WaitIsWritten (w ∷ args) o) (sym (same_bytes name (codes "child") is.0)) (wait_child_written args o is.1))
  | inr isnt ↦ elim (if_some (bytes_eq name (codes "prop")) _ _ o isnt.1) [
    | inl is ↦ any_wait (name ∷ args) o (subst (λ w. WaitIsWritten (w ∷ args) o) (sym (same_bytes name (codes "prop") is.0)) (wait_prop_written args o is.1))
    | inr isnt ↦ elim (if_some (bytes_eq name (codes "file")) _ _ o isnt.1) [
      | inl is ↦ any_wait (name ∷ args) o (subst (λ w. WaitIsWritten (w ∷ args) o) (sym (same_bytes name (codes "file") is.0)) (wait_file_written args o is.1))
      | inr isnt ↦ let none = isnt.1 in cc
    ]
  ]
]

pub output_in_written : (k : OutputWord) (args : List (List ℕ)) (o : Output) → output_in k args ≡ Some o → OutputIsWritten (output_name k ∷ args) o
unfolding output_name
output_in_written word.Event = by_one output_fields OutputIsGood (codes "event") (λ name. output.Event name) text (λ a h. (h, tt)) (λ a. refl)
output_in_written word.Change = by_pair output_fields OutputIsGood (codes "change") (λ texts. output.Change texts.0 texts.1) text text (λ a b h k. ((h, k), tt)) (λ a b. refl)
output_in_written word.AllProperties = by_lone output_fields OutputIsGood (codes "all-properties") output.AllProperties (tt, tt) refl
output_in_written word.Action = by_two output_fields OutputIsGood (codes "action") (λ file line. output.Action file line) text small (λ a b h k. ((h, k), tt)) (λ a b. refl)
output_in_written word.Command = command_written
output_in_written word.Put = by_three output_fields OutputIsGood (codes "put") (λ number name value. output.Put number name value) large text text (λ a b c h k l. ((h, k, l), tt)) (λ a b c. refl)
output_in_written word.Stored = by_one output_fields OutputIsGood (codes "stored") (λ name. output.Stored name) text (λ a h. (h, tt)) (λ a. refl)
output_in_written word.Unset = unset_written
output_in_written word.Spawn = by_three output_fields OutputIsGood (codes "spawn") (λ number name path. output.Spawn (pid number) name path) small text text (λ a b c h k l. ((h, k, l), tt)) (λ a b c. refl)
output_in_written word.NoPid = by_one output_fields OutputIsGood (codes "no-pid") (λ name. output.NoPid name) text (λ a h. (h, tt)) (λ a. refl)
output_in_written word.Kill = by_two output_fields OutputIsGood (codes "kill") (λ number name. output.Kill (pid number) name) small text (λ a b h k. ((h, k), tt)) (λ a b. refl)
output_in_written word.Reap = reap_written
output_in_written word.Env = by_pair output_fields OutputIsGood (codes "env") (λ texts. output.Env texts.0 texts.1) text text (λ a b h k. ((h, k), tt)) (λ a b. refl)
output_in_written word.Tree = by_one output_fields OutputIsGood (codes "tree") (λ path. output.Tree path) text (λ a h. (h, tt)) (λ a. refl)
output_in_written word.Noted = by_lone output_fields OutputIsGood (codes "noted") output.Noted (tt, tt) refl
output_in_written word.Ok = by_lone output_fields OutputIsGood (codes "ok") output.Ok (tt, tt) refl
output_in_written word.Failed = failed_written
output_in_written word.Wait = wait_written
output_in_written word.Released = by_lone output_fields OutputIsGood (codes "released") output.Released (tt, tt) refl
output_in_written word.Timeout = by_lone output_fields OutputIsGood (codes "timeout") output.Timeout (tt, tt) refl
output_in_written word.Blocked = by_lone output_fields OutputIsGood (codes "blocked") output.Blocked (tt, tt) refl
output_in_written word.Idle = by_lone output_fields OutputIsGood (codes "idle") output.Idle (tt, tt) refl
output_in_written word.Down = by_lone output_fields OutputIsGood (codes "down") output.Down (tt, tt) refl
output_in_written word.TooFar = by_lone output_fields OutputIsGood (codes "too-far") output.TooFar (tt, tt) refl
output_in_written word.NoProcess = by_lone output_fields OutputIsGood (codes "no-process") output.NoProcess (tt, tt) refl
output_in_written word.Reboot = by_one output_fields OutputIsGood (codes "reboot") (λ target. output.Reboot target) text (λ a h. (h, tt)) (λ a. refl)
output_in_written word.Accepted = by_one output_fields OutputIsGood (codes "accepted") (λ number. output.Accepted number) large (λ a h. (h, tt)) (λ a. refl)
output_in_written word.Control = by_one output_fields OutputIsGood (codes "control") (λ number. output.Control number) large (λ a h. (h, tt)) (λ a. refl)
output_in_written word.Refused = refused_written

-- ---- what is written is read

-- an output is read from its fields: its first word names its kind, and the others give it
pub record IsRead (o : Output) : Type 0 where
  pub kind : OutputWord
  pub args : List (List ℕ)
  pub fields : output_fields o ≡ output_name kind ∷ args
  pub named : output_named (output_name kind) ≡ Some kind
  pub told : output_in kind args ≡ Some o

read_as : (o : Output) (kind : OutputWord) (args : List (List ℕ)) → output_fields o ≡ output_name kind ∷ args → output_named (output_name kind) ≡ Some kind
    → output_in kind args ≡ Some o → IsRead o
read_as o kind args e f g = record { kind = kind; args = args; fields = e; named = f; told = g }

pub output_complete : (o : Output) → OutputIsGood o → IsRead o
unfolding output_name
output_complete (output.Event name) h = read_as (output.Event name) word.Event (quoted name ∷ []) refl refl (mapped (λ name. output.Event name) (text.complete name h.0))
output_complete (output.Stored name) h = read_as (output.Stored name) word.Stored (quoted name ∷ []) refl refl (mapped (λ name. output.Stored name) (text.complete name h.0))
output_complete (output.NoPid name) h = read_as (output.NoPid name) word.NoPid (quoted name ∷ []) refl refl (mapped (λ name. output.NoPid name) (text.complete name h.0))
output_complete (output.Tree path) h = read_as (output.Tree path) word.Tree (quoted path ∷ []) refl refl (mapped (λ path. output.Tree path) (text.complete path h.0))
output_complete (output.Reboot target) h = read_as (output.Reboot target) word.Reboot (quoted target ∷ []) refl refl (mapped (λ target. output.Reboot target) (text.complete target h.0))
output_complete (output.Accepted number) h = read_as (output.Accepted number) word.Accepted (decimal number ∷ []) refl refl (mapped (λ number. output.Accepted number) (large.complete number h.0))
output_complete (output.Control number) h = read_as (output.Control number) word.Control (decimal number ∷ []) refl refl (mapped (λ number. output.Control number) (large.complete number h.0))
output_complete (output.Change name value) h = read_as (output.Change name value) word.Change (quoted name ∷ quoted value ∷ []) refl refl (mapped (λ (texts : List ℕ × List ℕ). output.Change texts.0 texts.1) (two_complete (λ (a : List ℕ) (b : List ℕ). (a, b)) text text name value h.0.0 h.0.1))
output_complete (output.Env name value) h = read_as (output.Env name value) word.Env (quoted name ∷ quoted value ∷ []) refl refl (mapped (λ (texts : List ℕ × List ℕ). output.Env texts.0 texts.1) (two_complete (λ (a : List ℕ) (b : List ℕ). (a, b)) text text name value h.0.0 h.0.1))
output_complete output.AllProperties h = read_as output.AllProperties word.AllProperties ([]) refl refl (refl)
output_complete output.Noted h = read_as output.Noted word.Noted ([]) refl refl (refl)
output_complete output.Ok h = read_as output.Ok word.Ok ([]) refl refl (refl)
output_complete output.Released h = read_as output.Released word.Released ([]) refl refl (refl)
output_complete output.Timeout h = read_as output.Timeout word.Timeout ([]) refl refl (refl)
output_complete output.Blocked h = read_as output.Blocked word.Blocked ([]) refl refl (refl)
output_complete output.Idle h = read_as output.Idle word.Idle ([]) refl refl (refl)
output_complete output.Down h = read_as output.Down word.Down ([]) refl refl (refl)
output_complete output.TooFar h = read_as output.TooFar word.TooFar ([]) refl refl (refl)
output_complete output.NoProcess h = read_as output.NoProcess word.NoProcess ([]) refl refl (refl)
output_complete (output.Action file line) h = read_as (output.Action file line) word.Action (quoted file ∷ decimal line ∷ []) refl refl (two_complete (λ file line. output.Action file line) text small file line h.0.0 h.0.1)
output_complete (output.Kill number name) h = read_as (output.Kill number name) word.Kill (decimal number.0 ∷ quoted name ∷ []) refl refl (two_complete (λ number name. output.Kill (pid number) name) small text number.0 name h.0.0 h.0.1)
output_complete (output.Put number name value) h = read_as (output.Put number name value) word.Put (decimal number ∷ quoted name ∷ quoted value ∷ []) refl refl (three_complete (λ number name value. output.Put number name value) large text text number name value h.0.0 h.0.1 h.0.2)
output_complete (output.Spawn number name path) h = read_as (output.Spawn number name path) word.Spawn (decimal number.0 ∷ quoted name ∷ quoted path ∷ []) refl refl (three_complete (λ number name path. output.Spawn (pid number) name path) small text text number.0 name path h.0.0 h.0.1 h.0.2)
output_complete (output.Command file line name args) h = read_as (output.Command file line name args) word.Command (quoted file ∷ decimal line ∷ word_text name ∷ map quoted args) refl refl (
    ap (λ o. with_four (λ file line word args. output.Command file line word args) o (small_in (decimal line)) (word_of (word_text name)) (texts_in (map quoted args))) (text.complete file h.0.0)
    ∙ ap (λ o. with_three (λ line word args. output.Command file line word args) o (word_of (word_text name)) (texts_in (map quoted args))) (small.complete line h.0.1)
    ∙ ap (λ o. with_two (λ word args. output.Command file line word args) o (texts_in (map quoted args))) (command.complete name tt)
    ∙ ap (λ o. with_two (λ word args. output.Command file line word args) (Some name) o) (texts_complete args h.0.2))
output_complete (output.Unset name r) h = read_as (output.Unset name r) word.Unset (quoted name ∷ refusal_fields r) refl refl (
    ap (λ o. with_two (λ name refusal. output.Unset name refusal) o (refusal_of (refusal_fields r))) (text.complete name h.0.0)
    ∙ ap (λ o. with_two (λ name refusal. output.Unset name refusal) (Some name) o) (refusal_complete r (h.0.1, h.1)))
output_complete (output.Reap number name w) h = read_as (output.Reap number name w) word.Reap (decimal number.0 ∷ quoted name ∷ how_fields w) refl refl (
    ap (λ o. with_three (λ number name how. output.Reap (pid number) name how) o (unquoted (quoted name)) (how_of (how_fields w))) (small.complete number.0 h.0.0)
    ∙ ap (λ o. with_two (λ name how. output.Reap (pid number.0) name how) o (how_of (how_fields w))) (text.complete name h.0.1)
    ∙ ap (λ o. with_two (λ name how. output.Reap (pid number.0) name how) (Some name) o) (how_complete w h.0.2))
output_complete (output.Failed c) h = read_as (output.Failed c) word.Failed (cause_fields c) refl refl (mapped (λ cause. output.Failed cause) (cause_complete c h))
output_complete (output.Refused r) h = read_as (output.Refused r) word.Refused (refusal_fields r) refl refl (mapped (λ refusal. output.Refused refusal) (refusal_complete r h))
output_complete (output.WaitChild number) h = read_as (output.WaitChild number) word.Wait (codes "child" ∷ decimal number.0 ∷ []) refl refl (mapped (λ number. output.WaitChild (pid number)) (small.complete number.0 h.0))
output_complete (output.WaitProp name value) h = read_as (output.WaitProp name value) word.Wait (codes "prop" ∷ quoted name ∷ quoted value ∷ []) refl refl (mapped (λ (texts : List ℕ × List ℕ). output.WaitProp texts.0 texts.1) (two_complete (λ (a : List ℕ) (b : List ℕ). (a, b)) text text name value h.0.0 h.0.1))
output_complete (output.WaitFile path until) h = read_as (output.WaitFile path until) word.Wait (codes "file" ∷ quoted path ∷ decimal until.0 ∷ []) refl refl (two_complete (λ path until. output.WaitFile path (millis until)) text large path until.0 h.0.0 h.0.1)

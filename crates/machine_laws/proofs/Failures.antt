-- What is answered where a set, a call on the tree or an expansion fails has a text; and what an accepted set says.
use Rattle.std.proofs.Common.{◌≡◌, ℕ, Bool, true, false, not, ◌||◌, nat_lt, List, [], ◌∷◌, length, Option, Some, None, is_none, Result, Ok, Err, if◌then◌else◌, refl}
use Rattle.init_base.specs.Name.{is_legal_name}
use Rattle.init_base.specs.Value.{value_fault_under}
use Rattle.init_base.specs.declared.value.BadValue.{BadValue}
use Rattle.init_base.specs.declared.value.BadValue.TheVariants.{TooLong, NotUtf8}
use Rattle.init_machine.specs.Choices.{first_of, only_if}
use Rattle.init_machine.specs.Effect.{onto, expand_all}
use Rattle.init_machine.specs.Expand.{Piece, Plain, ValueOf, ValueOr, Bad, Placed, value_or_cause, piece_value, joined, values_of, within_limit, pieces_of, expand}
use Rattle.init_machine.specs.FileTree.{Place, tree_refusal, is_path, is_there, is_directory, is_other, is_under_other, is_insecure, is_full, node_at, parts_of}
use Rattle.init_machine.specs.HasText.{RefusalHasText, TreeHasText, CauseHasText}
use Rattle.init_machine.specs.Policy.{PolicyLines, context_of, is_allowed}
use Rattle.init_machine.specs.Props.{Property, lookup_in, full_for}
use Rattle.init_machine.specs.Setting.{set_answer, down, denied, bad_value, held, no_room, control_op, has_service, is_control, is_read_only, control_refusals, property_refusals}
use Rattle.init_machine.specs.State.{State, Rules}
use Rattle.init_machine.specs.Typed.{is_typed}
use Rattle.init_machine.specs.declared.output.Cause.{Cause}
use Rattle.init_machine.specs.declared.output.Cause.TheVariants as cause
use Rattle.init_machine.specs.declared.output.FsRefusal.{FsRefusal}
use Rattle.init_machine.specs.declared.output.FsRefusal.TheVariants.{BadPath, Absent, IsDir, NotDir, Exists, NotEmpty, Insecure}
use Rattle.init_machine.specs.declared.output.SetRefusal.{SetRefusal}
use Rattle.init_machine.specs.declared.output.SetRefusal.TheVariants as refusal
use Rattle.init_machine.specs.declared.store.Full.{Full}
use Rattle.init_machine.specs.declared.store.Full.TheVariants.{Words, Numbers}
use Rattle.init_machine.specs.declared.task.TreeCall.{TreeCall}
use Rattle.init_machine.specs.declared.task.TreeCall.TheVariants as call

-- The first of some answers is one of them.

abbrev pub IfAny : {T : Type 0} → (T → Type 0) → Option T → Type 0
IfAny P None = Unit {0}
IfAny P (Some answer) = P answer

abbrev EachAny : {T : Type 0} → (T → Type 0) → List (Option T) → Type 0
EachAny P [] = Unit {0}
EachAny P (answer ∷ rest) = IfAny P answer × EachAny P rest

first_is_one : {T : Type 0} (P : T → Type 0) (answers : List (Option T)) → EachAny P answers → IfAny P (first_of answers)
first_is_one P [] each = tt
first_is_one P (None ∷ rest) each = first_is_one P rest each.1
first_is_one P (Some answer ∷ rest) each = each.0

if_only : {T : Type 0} (P : T → Type 0) (b : Bool) (answer : T) → P answer → IfAny P (only_if b answer)
if_only P true answer holds = holds
if_only P false answer holds = tt

if_either : {T : Type 0} (P : T → Type 0) (b : Bool) (first second : List (Option T)) → EachAny P first → EachAny P second → EachAny P (if b then first else second)
if_either P true first second left right = left
if_either P false first second left right = right

-- Refusals of sets.

abbrev pub AnswerHasText : Option SetRefusal → Type 0
AnswerHasText answer = IfAny RefusalHasText answer

down_has_text : (over : Option (List ℕ)) → AnswerHasText (down over)
down_has_text None = tt
down_has_text (Some target) = tt

denied_has_text : (policy : PolicyLines) (by : Option (List ℕ)) (name : List ℕ) → AnswerHasText (denied policy by name)
denied_has_text policy None name = tt
denied_has_text policy (Some domain) name =
    if_only RefusalHasText (not (is_allowed policy domain (context_of policy name).label)) (refusal.Denied (context_of policy name).label) tt

value_has_text : (fault : Option BadValue) → AnswerHasText (bad_value fault)
value_has_text None = tt
value_has_text (Some (TooLong len)) = tt
value_has_text (Some NotUtf8) = tt

held_has_text : (property : Option Property) → AnswerHasText (held property)
held_has_text None = tt
held_has_text (Some property) = tt

read_only_has_text : (b : Bool) (property : Option Property) → AnswerHasText (if b then held property else None)
read_only_has_text true property = held_has_text property
read_only_has_text false property = tt

room_has_text : (full : Option Full) → AnswerHasText (no_room full)
room_has_text None = tt
room_has_text (Some (Words used need)) = tt
room_has_text (Some (Numbers last)) = tt

-- a refusal of a set has a text
pub answer_has_text : (rules : Rules) (s : State) (by : Option (List ℕ)) (name value : List ℕ) → AnswerHasText (set_answer rules s by name value)
unfolding set_answer
answer_has_text rules s by name value =
    first_is_one RefusalHasText
    (down s.over ∷ only_if (not (is_legal_name name)) refusal.InvalidName
    ∷ (if is_control name then control_refusals rules by name value else property_refusals rules.policy s.props by name value)) (
      down_has_text s.over,
      (
        if_only RefusalHasText (not (is_legal_name name)) refusal.InvalidName tt,
        if_either RefusalHasText (is_control name) (control_refusals rules by name value) (property_refusals rules.policy s.props by name value) (
          if_only RefusalHasText (is_none (control_op name)) refusal.UnknownControl tt,
          (denied_has_text rules.policy by name, (if_only RefusalHasText (not (has_service rules.services value)) refusal.NoSuchService tt, tt)),
        ) (
          denied_has_text rules.policy by name,
          (
            if_only RefusalHasText (not (is_typed (context_of rules.policy name).kind value)) refusal.InvalidType tt,
            (
              value_has_text (value_fault_under name value),
              (read_only_has_text (is_read_only name) (lookup_in s.props.held name), (room_has_text (full_for s.props name (length value)), tt)),
            ),
          ),
        ),
      ),
    )

-- What an accepted set says.

abbrev NoneOf : {T : Type 0} → List (Option T) → Type 0
NoneOf [] = Unit {0}
NoneOf (answer ∷ rest) = (answer ≡ None) × NoneOf rest

none_first : {T : Type 0} (answers : List (Option T)) → first_of answers ≡ None → NoneOf answers
none_first [] none = tt
none_first (None ∷ rest) none = (refl, none_first rest none)
none_first (Some answer ∷ rest) none = absurd (cc)

not_only_if : {T : Type 0} (b : Bool) (answer : T) → only_if b answer ≡ None → b ≡ false
not_only_if true answer none = absurd (cc)
not_only_if false answer none = refl

not_not : (b : Bool) → not b ≡ false → b ≡ true
not_not true is = refl
not_not false is = cc

not_down : (over : Option (List ℕ)) → down over ≡ None → over ≡ None
not_down None none = refl
not_down (Some target) none = absurd (cc)

no_fault : (fault : Option BadValue) → bad_value fault ≡ None → fault ≡ None
no_fault None none = refl
no_fault (Some (TooLong len)) none = absurd (cc)
no_fault (Some NotUtf8) none = absurd (cc)

not_held : (property : Option Property) → held property ≡ None → property ≡ None
not_held None none = refl
not_held (Some property) none = absurd (cc)

-- a set was accepted: of a property, unless the name is a control name
pub record Accepted (rules : Rules) (s : State) (name value : List ℕ) : Type 0 where
  pub on : s.over ≡ None
  pub legal : is_legal_name name ≡ true
  pub sound : is_control name ≡ false → value_fault_under name value ≡ None
  pub typed : is_control name ≡ false → is_typed (context_of rules.policy name).kind value ≡ true
  pub fresh : is_control name ≡ false → is_read_only name ≡ true → lookup_in s.props.held name ≡ None

choice_false : {T : Type 0} (b : Bool) (first second : List (Option T)) → NoneOf (if b then first else second) → b ≡ false → NoneOf second
choice_false true first second none is = absurd (cc)
choice_false false first second none is = none

read_only_none : (b : Bool) (property : Option Property) → (if b then held property else None) ≡ None → b ≡ true → property ≡ None
read_only_none true property none is = not_held property none
read_only_none false property none is = absurd (cc)

pub accepted : (rules : Rules) (s : State) (by : Option (List ℕ)) (name value : List ℕ) → set_answer rules s by name value ≡ None → Accepted rules s name value
unfolding set_answer
accepted rules s by name value none =
    let all = none_first
    (down s.over ∷ only_if (not (is_legal_name name)) refusal.InvalidName
    ∷ (if is_control name then control_refusals rules by name value else property_refusals rules.policy s.props by name value)) none in
    let of_property : is_control name ≡ false → NoneOf (property_refusals rules.policy s.props by name value) =
    choice_false (is_control name) (control_refusals rules by name value) (property_refusals rules.policy s.props by name value) all.1.1 in
    record {
      on = not_down s.over all.0;
      legal = not_not (is_legal_name name) (not_only_if (not (is_legal_name name)) refusal.InvalidName all.1.0);
      sound = λ plain. no_fault (value_fault_under name value) (of_property plain).1.1.0;
      typed = λ plain.
          let typed = is_typed (context_of rules.policy name).kind value in
          not_not typed (not_only_if (not typed) refusal.InvalidType (of_property plain).1.0);
      fresh = λ plain once. read_only_none (is_read_only name) (lookup_in s.props.held name) (of_property plain).1.1.1.0 once;
    }

-- Refusals of the tree.

abbrev pub CallHasText : Option FsRefusal → Type 0
CallHasText answer = IfAny TreeHasText answer

-- a refusal of a call on the tree has a text
pub tree_has_text : (tree : List Place) (asked : TreeCall) → CallHasText (tree_refusal tree asked)
unfolding tree_refusal
tree_has_text tree (call.Write path content) =
    first_is_one TreeHasText
    (only_if (not (is_path path)) BadPath ∷ only_if (is_directory (node_at tree (parts_of path))) IsDir ∷ only_if (is_under_other tree (parts_of path)) NotDir ∷ []) (
      if_only TreeHasText (not (is_path path)) BadPath tt,
      (
        if_only TreeHasText (is_directory (node_at tree (parts_of path))) IsDir tt,
        (if_only TreeHasText (is_under_other tree (parts_of path)) NotDir tt, tt),
      ),
    )
tree_has_text tree (call.Copy from to) =
    first_is_one TreeHasText
    (only_if (not (is_path from) || not (is_path to)) BadPath
    ∷ only_if (not (is_there (node_at tree (parts_of from)))) Absent
    ∷ only_if (is_directory (node_at tree (parts_of from)) || is_directory (node_at tree (parts_of to))) IsDir
    ∷ only_if (is_under_other tree (parts_of to)) NotDir
    ∷ only_if (is_insecure (node_at tree (parts_of from))) Insecure ∷ []) (
      if_only TreeHasText (not (is_path from) || not (is_path to)) BadPath tt,
      (
        if_only TreeHasText (not (is_there (node_at tree (parts_of from)))) Absent tt,
        (
          if_only TreeHasText (is_directory (node_at tree (parts_of from)) || is_directory (node_at tree (parts_of to))) IsDir tt,
          (
            if_only TreeHasText (is_under_other tree (parts_of to)) NotDir tt,
            (if_only TreeHasText (is_insecure (node_at tree (parts_of from))) Insecure tt, tt),
          ),
        ),
      ),
    )
tree_has_text tree (call.MakeDirectory path mode) =
    first_is_one TreeHasText
    (only_if (not (is_path path)) BadPath ∷ only_if (is_under_other tree (parts_of path)) NotDir ∷ only_if (is_other (node_at tree (parts_of path))) Exists ∷ []) (
      if_only TreeHasText (not (is_path path)) BadPath tt,
      (
        if_only TreeHasText (is_under_other tree (parts_of path)) NotDir tt,
        (if_only TreeHasText (is_other (node_at tree (parts_of path))) Exists tt, tt),
      ),
    )
tree_has_text tree (call.Remove path) =
    first_is_one TreeHasText
    (only_if (not (is_path path)) BadPath ∷ only_if (not (is_there (node_at tree (parts_of path)))) Absent ∷ only_if (is_directory (node_at tree (parts_of path))) IsDir ∷ []) (
      if_only TreeHasText (not (is_path path)) BadPath tt,
      (
        if_only TreeHasText (not (is_there (node_at tree (parts_of path)))) Absent tt,
        (if_only TreeHasText (is_directory (node_at tree (parts_of path))) IsDir tt, tt),
      ),
    )
tree_has_text tree (call.RemoveDirectory path) =
    first_is_one TreeHasText
    (only_if (not (is_path path)) BadPath
    ∷ only_if (not (is_there (node_at tree (parts_of path)))) Absent
    ∷ only_if (is_other (node_at tree (parts_of path))) NotDir
    ∷ only_if (is_full tree (parts_of path)) NotEmpty ∷ []) (
      if_only TreeHasText (not (is_path path)) BadPath tt,
      (
        if_only TreeHasText (not (is_there (node_at tree (parts_of path)))) Absent tt,
        (
          if_only TreeHasText (is_other (node_at tree (parts_of path))) NotDir tt,
          (if_only TreeHasText (is_full tree (parts_of path)) NotEmpty tt, tt),
        ),
      ),
    )
tree_has_text tree (call.Link target path) =
    first_is_one TreeHasText
    (only_if (not (is_path path)) BadPath ∷ only_if (is_under_other tree (parts_of path)) NotDir ∷ only_if (is_there (node_at tree (parts_of path))) Exists ∷ []) (
      if_only TreeHasText (not (is_path path)) BadPath tt,
      (
        if_only TreeHasText (is_under_other tree (parts_of path)) NotDir tt,
        (if_only TreeHasText (is_there (node_at tree (parts_of path))) Exists tt, tt),
      ),
    )
tree_has_text tree (call.ChangeMode mode path) =
    first_is_one TreeHasText
    (only_if (not (is_path path)) BadPath ∷ only_if (not (is_there (node_at tree (parts_of path)))) Absent ∷ []) (
      if_only TreeHasText (not (is_path path)) BadPath tt,
      (if_only TreeHasText (not (is_there (node_at tree (parts_of path)))) Absent tt, tt),
    )

-- Expansions that fail.

abbrev pub ResultHasText : {T : Type 0} → Result T Cause → Type 0
ResultHasText (Ok value) = Unit {0}
ResultHasText (Err why) = CauseHasText why

value_or_cause_has_text : (name : List ℕ) (value : Option (List ℕ)) → ResultHasText (value_or_cause name value)
value_or_cause_has_text name None = tt
value_or_cause_has_text name (Some []) = tt
value_or_cause_has_text name (Some (b ∷ rest)) = tt

piece_has_text : (look_up : List ℕ → Option (List ℕ)) (place : ℕ) (piece : Piece) → ResultHasText (piece_value look_up place piece)
piece_has_text look_up place (Plain bytes) = tt
piece_has_text look_up place (ValueOf name) = value_or_cause_has_text name (look_up name)
piece_has_text look_up place (ValueOr name other) = tt
piece_has_text look_up place Bad = tt

joined_has_text : (first later : Result (List ℕ) Cause) → ResultHasText first → ResultHasText later → ResultHasText (joined first later)
joined_has_text (Err why) later one two = one
joined_has_text (Ok value) (Err why) one two = two
joined_has_text (Ok value) (Ok values) one two = tt

values_have_text : (look_up : List ℕ → Option (List ℕ)) (pieces : List Placed) → ResultHasText (values_of look_up pieces)
values_have_text look_up [] = tt
values_have_text look_up (first ∷ rest) =
    joined_has_text (piece_value look_up first.place first.piece) (values_of look_up rest) (piece_has_text look_up first.place first.piece) (values_have_text look_up rest)

long_has_text : (b : Bool) (text : List ℕ) → ResultHasText (if b then Err cause.TooLong else Ok text)
long_has_text true text = tt
long_has_text false text = tt

limit_has_text : (values : Result (List ℕ) Cause) → ResultHasText values → ResultHasText (within_limit values)
limit_has_text (Err why) text = text
limit_has_text (Ok value) text = long_has_text (nat_lt 4096 (length value)) value

expand_has_text : (look_up : List ℕ → Option (List ℕ)) (arg : List ℕ) → ResultHasText (expand look_up arg)
unfolding expand
expand_has_text look_up arg = limit_has_text (values_of look_up (pieces_of arg)) (values_have_text look_up (pieces_of arg))

onto_has_text : (arg : Result (List ℕ) Cause) (args : Result (List (List ℕ)) Cause) → ResultHasText arg → ResultHasText args → ResultHasText (onto arg args)
onto_has_text (Err why) args one all = one
onto_has_text (Ok arg) (Err why) one all = all
onto_has_text (Ok arg) (Ok args) one all = tt

-- why the expansion of some arguments fails has a text
pub expansion_has_text : (look_up : List ℕ → Option (List ℕ)) (args : List (List ℕ)) → ResultHasText (expand_all look_up args)
expansion_has_text look_up [] = tt
expansion_has_text look_up (arg ∷ args) = onto_has_text (expand look_up arg) (expand_all look_up args) (expand_has_text look_up arg) (expansion_has_text look_up args)

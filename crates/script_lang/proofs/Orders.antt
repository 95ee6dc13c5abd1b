-- What was seen of the statements before tells whether a statement fits.
use Rattle.std.proofs.Common.{◌≡◌, ℕ, Bool, true, false, cond, not, ◌&&◌, ◌||◌, nat_lt, List, [], ◌∷◌, ◌++◌, length, refl, sym, ap, ◌∙◌, arith, Bor}
use Rattle.std.specs.HashSet.{HashSet, contains}
use Rattle.std.specs.List.{list_any, count_by}
use Rattle.std.specs.Str.{bytes_eq}
use Rattle.std.specs.declared.hash.BuildHasherDefault.{BuildHasherDefault}
use Rattle.std.specs.declared.hash.FoldHasher.{FoldHasher}
use Rattle.std.proofs.Math.Bool.{or-false}
use Rattle.std.proofs.lemmas.List.Folds.{list_any-append}
use Rattle.std.proofs.lemmas.List.Sums.{sum_by-append}
use Rattle.init_machine.specs.declared.config.Plan.{Plan}
use Rattle.script_lang.specs.Ordering.{Seen, has_path}
use Rattle.script_lang.specs.Script.{fits, is_act, is_area, is_client, is_client_named, is_plan_of}
use Rattle.script_lang.specs.declared.order.Order.{Order}
use Rattle.script_lang.specs.declared.script.Ask.{Ask}
use Rattle.script_lang.specs.declared.script.Client.{Client}
use Rattle.script_lang.specs.declared.statement.Statement.{Statement}
use Rattle.script_lang.specs.declared.statement.Statement.TheVariants as statement

any_more : {X : Type 0} (p : X → Bool) (xs : List X) (x : X) → list_any p (xs ++ x ∷ []) ≡ (list_any p xs || p x)
any_more p xs x = list_any-append p xs (x ∷ []) ∙ ap (λ b. list_any p xs || b) (or-false (p x))

any_other : {X : Type 0} (p : X → Bool) (xs : List X) (x : X) → p x ≡ false → list_any p xs ≡ list_any p (xs ++ x ∷ [])
any_other p xs x other = sym (any_more p xs x ∙ ap (λ b. list_any p xs || b) other ∙ or-false (list_any p xs))

count_other : {X : Type 0} (p : X → Bool) (xs : List X) (x : X) → p x ≡ false → count_by p xs ≡ count_by p (xs ++ x ∷ [])
count_other p xs x other =
    let more = sum_by-append (λ x. cond (p x) 1 0) xs (x ∷ []) in
    let none : count_by p (x ∷ []) ≡ 0 = rw other refl in
    omega (arith, more, none)

-- ---- plans

abbrev Paths : Type 0
Paths = HashSet (Bor (List ℕ)) (BuildHasherDefault FoldHasher)

abbrev HasMore : Paths → Paths → List ℕ → Type 0
HasMore paths more path =
    (other : Bor (List ℕ)) → contains (λ x y. bytes_eq x.now y.now) more other ≡ cond (bytes_eq path other.now) true (contains (λ x y. bytes_eq x.now y.now) paths other)

either : (first second : Bool) → cond first true second ≡ (second || first)
either true true = refl
either true false = refl
either false true = refl
either false false = refl

pub plan_fits : (order : Order) (before : List Statement) (plan : Plan) (path : List ℕ) (answer : Bool) → Seen order before → order.has_act ≡ false
    → path ≡ plan.path → answer ≡ not (has_path order.paths path) → answer ≡ fits before (statement.Plan plan)
plan_fits order before plan path answer seen no_act same is =
    let none : list_any is_act before ≡ false = sym seen.act ∙ no_act in
    is ∙ ap (λ p. not (has_path order.paths p)) same ∙ ap not (seen.paths plan.path) ∙ sym (rw none refl)

pub plan_added : (order : Order) (more : Paths) (before : List Statement) (plan : Plan) (path : List ℕ) → Seen order before
    → path ≡ plan.path → HasMore order.paths more path → Seen (record order { paths = more }) (before ++ statement.Plan plan ∷ [])
plan_added order more before plan path seen same is = record {
  area = seen.area ∙ any_other is_area before (statement.Plan plan) refl;
  act = seen.act ∙ any_other is_act before (statement.Plan plan) refl;
  paths = λ other.
      is (record { ref_ptr = (0, 0); now = other })
      ∙ either (bytes_eq path other) (has_path order.paths other)
      ∙ ap (λ p. has_path order.paths other || bytes_eq p other) same
      ∙ ap (λ b. b || bytes_eq plan.path other) (seen.paths other)
      ∙ sym (any_more (is_plan_of other) before (statement.Plan plan));
  names = λ name. seen.names name ∙ any_other (is_client_named name) before (statement.Plan plan) refl;
  count = seen.count ∙ count_other is_client before (statement.Plan plan) refl;
}

-- ---- clients

pub client_fits : (order : Order) (before : List Statement) (client : Client) (name : List ℕ) → Seen order before → name ≡ client.name
    → (not order.has_act && not (list_any (λ other. bytes_eq other.now name) order.names.items) && nat_lt (length order.names.items) 64)
    ≡ fits before (statement.Client client)
client_fits order before client name seen same = rw (seen.act, seen.names name, seen.count, same) refl

pub ask_fits : (order : Order) (before : List Statement) (name : List ℕ) (ask : Ask) → Seen order before
    → list_any (λ other. bytes_eq other.now name) order.names.items ≡ fits before (statement.Ask name ask)
ask_fits order before name ask seen = seen.names name

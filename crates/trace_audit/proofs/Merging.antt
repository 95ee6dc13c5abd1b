-- What inputs take of the parts, and when a merging begins with them.
use Rattle.std.proofs.Common.{◌≡◌, ◌≢◌, ℕ, Bool, true, false, cond, ◌==◌, List, [], ◌∷◌, ◌++◌, filter, Option, Some, None, refl, sym, ap, ◌∙◌, subst, append_assoc, inl, inr}
use Rattle.std.specs.List.{cons_option, filter_map}
use Rattle.std.proofs.lemmas.List.{append_cancel_left}
use Rattle.std.proofs.lemmas.List.Elements.{filter-append, filter_map-append}
use Rattle.std.proofs.lemmas.Bool.{eqb-true, ne_eqb}
use Rattle.std.proofs.lemmas.Bool.Decides.{eqb_tells}
use Rattle.init_machine.specs.declared.config.Pair.{Pair}
use Rattle.init_machine.specs.declared.input.Input.{Input}
use Rattle.init_machine.specs.declared.input.Input.TheVariants as input
use Rattle.script_lang.specs.Inputs.{ActorParts}
use Rattle.script_lang.specs.Laws.{set_by}
use Rattle.script_lang.specs.Merges.{IsMerging, is_main}
use Rattle.trace_audit.specs.Progress.{IsOver, Left, Takes, first_left}
use Rattle.trace_audit.specs.Taken.{Fills}

pub takes_more : (xs ys : List Input) (a b c : Left) → Takes xs a b → Takes ys b c → Takes (xs ++ ys) a c
takes_more xs ys a b c first then = record {
  main =
      ap (λ (ms : List Input). ms ++ c.main) (filter-append is_main xs ys)
      ∙ append_assoc (filter is_main xs) (filter is_main ys) c.main
      ∙ ap (λ (ms : List Input). filter is_main xs ++ ms) then.main
      ∙ first.main;
  sets = λ who.
      ap (λ (ps : List Pair). ps ++ c.sets who) (filter_map-append (set_by who) xs ys)
      ∙ append_assoc (filter_map (set_by who) xs) (filter_map (set_by who) ys) (c.sets who)
      ∙ ap (λ (ps : List Pair). filter_map (set_by who) xs ++ ps) (then.sets who)
      ∙ first.sets who;
}

-- what is left behind some inputs fills what was left, with them
pub fills_behind : (xs more : List Input) (a b : Left) → Takes xs a b → Fills more b → Fills (xs ++ more) a
fills_behind xs more a b takes fills = record {
  main =
      filter-append is_main xs more ∙ ap (λ (ms : List Input). filter is_main xs ++ ms) fills.main ∙ takes.main;
  sets = λ who.
      filter_map-append (set_by who) xs more ∙ ap (λ (ps : List Pair). filter_map (set_by who) xs ++ ps) (fills.sets who) ∙ takes.sets who;
}

pub fills_left : (xs more : List Input) (a b : Left) → Takes xs a b → Fills (xs ++ more) a → Fills more b
fills_left xs more a b takes fills = record {
  main =
      append_cancel_left (filter is_main xs) (filter is_main more) b.main (sym (filter-append is_main xs more) ∙ fills.main ∙ sym takes.main);
  sets = λ who.
      append_cancel_left (filter_map (set_by who) xs) (filter_map (set_by who) more) (b.sets who)
      (sym (filter_map-append (set_by who) xs more) ∙ fills.sets who ∙ sym (takes.sets who));
}

-- where an input and others fill what is left, it is the next of its actor
pub fills_next : (i : Input) (more : List Input) (left : Left) → Fills (i ∷ more) left
    → Takes (i ∷ []) left (record { main = filter is_main more; sets = λ who. filter_map (set_by who) more })
fills_next i more left fills = record {
  main = sym (filter-append is_main (i ∷ []) more) ∙ fills.main;
  sets = λ who. sym (filter_map-append (set_by who) (i ∷ []) more) ∙ fills.sets who;
}

-- ---- without the next input of an actor, the others still fill what is left

without_main : List Input → List Input
without_main [] = []
without_main (input.Set who name value ∷ rest) = input.Set who name value ∷ without_main rest
without_main (input.Boot ∷ rest) = rest
without_main (input.Next ∷ rest) = rest
without_main (input.Tick ms ∷ rest) = rest
without_main (input.Exit name status ∷ rest) = rest
without_main (input.File path content ∷ rest) = rest

main_gone : (all : List Input) (i : Input) (m : List Input) → filter is_main all ≡ i ∷ m → filter is_main (without_main all) ≡ m
unfolding without_main
main_gone [] i m is = cc
main_gone (input.Set who name value ∷ rest) i m is = main_gone rest i m is
main_gone (input.Boot ∷ rest) i m is = cc
main_gone (input.Next ∷ rest) i m is = cc
main_gone (input.Tick ms ∷ rest) i m is = cc
main_gone (input.Exit name status ∷ rest) i m is = cc
main_gone (input.File path content ∷ rest) i m is = cc

sets_stay : (who : ℕ) (all : List Input) → filter_map (set_by who) (without_main all) ≡ filter_map (set_by who) all
unfolding without_main
sets_stay who [] = refl
sets_stay who (input.Set other name value ∷ rest) = ap (λ (ps : List Pair). cons_option (set_by who (input.Set other name value)) ps) (sets_stay who rest)
sets_stay who (input.Boot ∷ rest) = refl
sets_stay who (input.Next ∷ rest) = refl
sets_stay who (input.Tick ms ∷ rest) = refl
sets_stay who (input.Exit name status ∷ rest) = refl
sets_stay who (input.File path content ∷ rest) = refl

without_set : ℕ → List Input → List Input
without_set who [] = []
without_set who (input.Set other name value ∷ rest) = cond (other.0 == who) rest (input.Set other name value ∷ without_set who rest)
without_set who (input.Boot ∷ rest) = input.Boot ∷ without_set who rest
without_set who (input.Next ∷ rest) = input.Next ∷ without_set who rest
without_set who (input.Tick ms ∷ rest) = input.Tick ms ∷ without_set who rest
without_set who (input.Exit name status ∷ rest) = input.Exit name status ∷ without_set who rest
without_set who (input.File path content ∷ rest) = input.File path content ∷ without_set who rest

gone_case : (own : Bool) (pair next : Pair) (rest without m : List Pair) → (rest ≡ next ∷ m → without ≡ m)
    → cons_option (cond own (Some pair) None) rest ≡ next ∷ m → cond own rest (cons_option (cond own (Some pair) None) without) ≡ m
gone_case true pair next rest without m later is = cc
gone_case false pair next rest without m later is = later is

of_cond : (own : Bool) (who : ℕ) (i : Input) (rest without : List Input)
    → filter_map (set_by who) (cond own rest (i ∷ without)) ≡ cond own (filter_map (set_by who) rest) (cons_option (set_by who i) (filter_map (set_by who) without))
of_cond true who i rest without = refl
of_cond false who i rest without = refl

set_gone : (who : ℕ) (all : List Input) (next : Pair) (m : List Pair) → filter_map (set_by who) all ≡ next ∷ m
    → filter_map (set_by who) (without_set who all) ≡ m
unfolding without_set
set_gone who [] next m is = cc
set_gone who (input.Set other name value ∷ rest) next m is =
    of_cond (other.0 == who) who (input.Set other name value) rest (without_set who rest)
    ∙ gone_case (other.0 == who) (record { name = name; value = value }) next (filter_map (set_by who) rest) (filter_map (set_by who) (without_set who rest)) m
    (set_gone who rest next m) is
set_gone who (input.Boot ∷ rest) next m is = set_gone who rest next m is
set_gone who (input.Next ∷ rest) next m is = set_gone who rest next m is
set_gone who (input.Tick ms ∷ rest) next m is = set_gone who rest next m is
set_gone who (input.Exit name status ∷ rest) next m is = set_gone who rest next m is
set_gone who (input.File path content ∷ rest) next m is = set_gone who rest next m is

main_case : (own : Bool) (i : Input) (rest without : List Input) → is_main i ≡ false → filter is_main without ≡ filter is_main rest
    → filter is_main (cond own rest (i ∷ without)) ≡ filter is_main rest
main_case true i rest without other same = refl
main_case false i rest without other same = ap (λ (b : Bool). cond b (i ∷ filter is_main without) (filter is_main without)) other ∙ same

main_stays : (who : ℕ) (all : List Input) → filter is_main (without_set who all) ≡ filter is_main all
unfolding without_set
main_stays who [] = refl
main_stays who (input.Set other name value ∷ rest) =
    main_case (other.0 == who) (input.Set other name value) rest (without_set who rest) refl (main_stays who rest)
main_stays who (input.Boot ∷ rest) = ap (λ (is : List Input). input.Boot ∷ is) (main_stays who rest)
main_stays who (input.Next ∷ rest) = ap (λ (is : List Input). input.Next ∷ is) (main_stays who rest)
main_stays who (input.Tick ms ∷ rest) = ap (λ (is : List Input). input.Tick ms ∷ is) (main_stays who rest)
main_stays who (input.Exit name status ∷ rest) = ap (λ (is : List Input). input.Exit name status ∷ is) (main_stays who rest)
main_stays who (input.File path content ∷ rest) = ap (λ (is : List Input). input.File path content ∷ is) (main_stays who rest)

other_case : (own mine : Bool) (pair : Pair) (rest without : List Pair) → (own ≡ true → mine ≡ false) → without ≡ rest
    → cond own rest (cons_option (cond mine (Some pair) None) without) ≡ cons_option (cond mine (Some pair) None) rest
other_case true mine pair rest without apart same = sym (ap (λ (b : Bool). cons_option (cond b (Some pair) None) rest) (apart refl))
other_case false mine pair rest without apart same = ap (λ (ps : List Pair). cons_option (cond mine (Some pair) None) ps) same

not_both : (by who other : ℕ) → other ≢ who → (by == who) ≡ true → (by == other) ≡ false
not_both by who other apart own = ne_eqb by other (λ (same : by ≡ other). apart (sym same ∙ eqb-true by who own))

others_stay : (who other : ℕ) → other ≢ who → (all : List Input) → filter_map (set_by other) (without_set who all) ≡ filter_map (set_by other) all
unfolding without_set
others_stay who other apart [] = refl
others_stay who other apart (input.Set by name value ∷ rest) =
    of_cond (by.0 == who) other (input.Set by name value) rest (without_set who rest)
    ∙ other_case (by.0 == who) (by.0 == other) (record { name = name; value = value }) (filter_map (set_by other) rest)
    (filter_map (set_by other) (without_set who rest)) (not_both by.0 who other apart) (others_stay who other apart rest)
others_stay who other apart (input.Boot ∷ rest) = others_stay who other apart rest
others_stay who other apart (input.Next ∷ rest) = others_stay who other apart rest
others_stay who other apart (input.Tick ms ∷ rest) = others_stay who other apart rest
others_stay who other apart (input.Exit name status ∷ rest) = others_stay who other apart rest
others_stay who other apart (input.File path content ∷ rest) = others_stay who other apart rest

main_after : (i : Input) (a b : Left) (all : List Input) → (filter is_main (i ∷ []) ≡ i ∷ []) → ((who : ℕ) → set_by who i ≡ None)
    → Takes (i ∷ []) a b → Fills all a → (rest : List Input) × Fills rest b
main_after i a b all own none takes fills = (
  without_main all,
  record {
    main = main_gone all i b.main (fills.main ∙ sym takes.main ∙ ap (λ (is : List Input). is ++ b.main) own);
    sets = λ who.
        sets_stay who all ∙ fills.sets who ∙ sym (takes.sets who)
        ∙ ap (λ (o : Option Pair). cons_option o [] ++ b.sets who) (none who);
  },
)

-- what is left behind an input can be filled, where what was left before it can
pub fills_after : (i : Input) (a b : Left) (all : List Input) → Takes (i ∷ []) a b → Fills all a → (rest : List Input) × Fills rest b
fills_after (input.Set who name value) a b all takes fills =
    let pair : Pair = record { name = name; value = value } in (
      without_set who.0 all,
      record {
        main = main_stays who.0 all ∙ fills.main ∙ sym takes.main;
        sets = λ w.
            elim (eqb_tells who.0 w) [
              | inl own ↦
                  let taken : cons_option (cond (who.0 == w) (Some pair) None) [] ++ b.sets w ≡ a.sets w = takes.sets w in
                  let next : pair ∷ b.sets w ≡ a.sets w = ap (λ (o : Bool). cons_option (cond o (Some pair) None) [] ++ b.sets w) (sym own.0) ∙ taken in
                  ap (λ (n : ℕ). filter_map (set_by w) (without_set n all)) own.1
                  ∙ set_gone w all pair (b.sets w) (fills.sets w ∙ sym next)
              | inr apart ↦
                  let taken : cons_option (cond (who.0 == w) (Some pair) None) [] ++ b.sets w ≡ a.sets w = takes.sets w in
                  let same : b.sets w ≡ a.sets w = ap (λ (o : Bool). cons_option (cond o (Some pair) None) [] ++ b.sets w) (sym apart.0) ∙ taken in
                  others_stay who.0 w (λ (is : w ≡ who.0). apart.1 (sym is)) all ∙ fills.sets w ∙ sym same
            ];
      },
    )
fills_after input.Boot a b all takes fills = main_after input.Boot a b all refl (λ who. refl) takes fills
fills_after input.Next a b all takes fills = main_after input.Next a b all refl (λ who. refl) takes fills
fills_after (input.Tick ms) a b all takes fills = main_after (input.Tick ms) a b all refl (λ who. refl) takes fills
fills_after (input.Exit name status) a b all takes fills = main_after (input.Exit name status) a b all refl (λ who. refl) takes fills
fills_after (input.File path content) a b all takes fills = main_after (input.File path content) a b all refl (λ who. refl) takes fills

-- ---- merging

pub merging_of : (parts : ActorParts) (rest : List Input) → Fills rest (first_left parts) → IsMerging parts (input.Boot ∷ rest)
merging_of parts rest fills = record { rest = rest; begins = refl; main = fills.main; sets = fills.sets }

pub rest_of_merging : (parts : ActorParts) (rest : List Input) → IsMerging parts (input.Boot ∷ rest) → Fills rest (first_left parts)
rest_of_merging parts rest merging =
    let same : merging.rest ≡ rest = let b = merging.begins in cc in
    subst (λ (is : List Input). Fills is (first_left parts)) same
    (let x : Fills merging.rest (first_left parts) = record { main = merging.main; sets = merging.sets } in x)

pub none_over : (a : Left) → Fills [] a → IsOver a
none_over a fills = record { main = sym fills.main; sets = λ who. sym (fills.sets who) }

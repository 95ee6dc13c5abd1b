-- The step goes behind the others, unless it is there.
use Rattle.std.proofs.Common.{◌≡◌, ◌<◌, ◌++◌, ◌∷◌, [], length, get_or, slice_get, nat_eq, Some, Result, Ok, Err, OnErr, refl, sym, ap, ◌∙◌, subst, arith}
use Rattle.indexmap.specs.IndexMap.{get}
use Rattle.model_fs.specs.internal.Steps.{place_of, with_path, paths_of, IsIndexed, IsNumbered}
use Rattle.model_fs.proofs.Slots.{indexed_added, indexed_same}
use Rattle.model_fs.proofs.Steps.{are_distinct, length-paths, numbered_with_text, paths_with_text, numbered_added, paths_added, place_added, place_is}
use Rattle.model_fs.proofs.places.Places.add.Goals as goal

at_err : {T E P : Type 0} (r : Result T E) → P → OnErr r P
at_err (Ok done) p = tt
at_err (Err refused) p = p

pub invariant_of-self-in_err-place : goal.invariant_of-self-in_err-place
invariant_of-self-in_err-place c =
    let keys = c.self.inside.steps.keys in
    let slots = get nat_eq c.self.inside.noted in
    let known : IsNumbered c.add.new.self keys =
    subst (λ names. IsNumbered names keys) (sym c.in_ok-name.ensures.texts) (numbered_with_text c.self.inside.names c.args.part.now keys c.self.invariant.numbered) in
    let same : paths_of c.add.new.self keys ≡ paths_of c.self.inside.names keys =
    ap (λ names. paths_of names keys) c.in_ok-name.ensures.texts ∙ paths_with_text c.self.inside.names c.args.part.now keys c.self.invariant.numbered in
    subst (λ steps. IsIndexed c.add.new.self steps slots) (sym c.in_err-place.ensures.err)
    (indexed_same c.self.inside.names c.add.new.self keys slots c.self.invariant known same)

pub returns-in_err-place-clause-err : goal.returns-in_err-place-clause-err
returns-in_err-place-clause-err c =
    at_err c.from_residual-in_err-place.result
    (ap (paths_of c.add.new.self) c.in_err-place.ensures.err
    ∙ ap (λ names. paths_of names c.self.inside.steps.keys) c.in_ok-name.ensures.texts
    ∙ paths_with_text c.self.inside.names c.args.part.now c.self.inside.steps.keys c.self.invariant.numbered
    ∙ c.self.view_is)

pub invariant_of-self-2 : goal.invariant_of-self-2
invariant_of-self-2 c =
    let keys = c.self.inside.steps.keys in
    let known : IsNumbered c.add.new.self keys =
    subst (λ names. IsNumbered names keys) (sym c.in_ok-name.ensures.texts) (numbered_with_text c.self.inside.names c.args.part.now keys c.self.invariant.numbered) in
    let within : c.args.parent < length keys = omega (arith, length-paths c.self.inside.names keys, ap length c.self.view_is) in
    let slots = get nat_eq c.self.inside.noted in
    let paths = paths_of c.self.inside.names keys in
    let same : paths_of c.add.new.self keys ≡ paths =
    ap (λ names. paths_of names keys) c.in_ok-name.ensures.texts ∙ paths_with_text c.self.inside.names c.args.part.now keys c.self.invariant.numbered in
    let front = get_or paths c.args.parent [] in
    let above : place_of paths front ≡ Some c.args.parent = place_is c.self.inside.names keys c.self.invariant.numbered c.args.parent front within refl in
    subst (λ steps. IsIndexed c.add.new.self steps slots) (sym c.in_ok-place.ensures.keys)
    (indexed_added c.self.inside.names c.add.new.self keys _ slots (front ++ c.args.part.now ∷ []) c.self.invariant
    (numbered_added c.add.new.self keys known c.args.part.now c.args.parent c.in_ok-name.name within c.in_ok-name.ensures.place)
    (paths_added c.add.new.self keys known front c.args.part.now c.args.parent c.in_ok-name.name (ap (λ ps. place_of ps front) same ∙ above) c.in_ok-name.ensures.place
    ∙ ap (λ ps. with_path ps (front ++ c.args.part.now ∷ [])) same))

pub returns-clause-paths : goal.returns-clause-paths
returns-clause-paths c front above =
    let keys = c.self.inside.steps.keys in
    let known : IsNumbered c.add.new.self keys =
    subst (λ names. IsNumbered names keys) (sym c.in_ok-name.ensures.texts) (numbered_with_text c.self.inside.names c.args.part.now keys c.self.invariant.numbered) in
    let same : paths_of c.add.new.self keys ≡ c.args.self.now =
    ap (λ names. paths_of names keys) c.in_ok-name.ensures.texts ∙ paths_with_text c.self.inside.names c.args.part.now keys c.self.invariant.numbered ∙ c.self.view_is in
    ap (paths_of c.add.new.self) c.in_ok-place.ensures.keys
    ∙ paths_added c.add.new.self keys known front c.args.part.now c.args.parent c.in_ok-name.name (ap (λ paths. place_of paths front) same ∙ above) c.in_ok-name.ensures.place
    ∙ ap (λ paths. with_path paths (front ++ c.args.part.now ∷ [])) same

pub returns-clause-place : goal.returns-clause-place
returns-clause-place c front above =
    let keys = c.self.inside.steps.keys in
    let known : IsNumbered c.add.new.self keys =
    subst (λ names. IsNumbered names keys) (sym c.in_ok-name.ensures.texts) (numbered_with_text c.self.inside.names c.args.part.now keys c.self.invariant.numbered) in
    let same : paths_of c.add.new.self keys ≡ c.args.self.now =
    ap (λ names. paths_of names keys) c.in_ok-name.ensures.texts ∙ paths_with_text c.self.inside.names c.args.part.now keys c.self.invariant.numbered ∙ c.self.view_is in
    let within : c.args.parent < length keys = omega (arith, length-paths c.self.inside.names keys, ap length c.self.view_is) in
    let stored = c.in_ok-place.ensures.stored in
    ap (λ steps. place_of (paths_of c.add.new.self steps) (front ++ c.args.part.now ∷ [])) c.in_ok-place.ensures.keys
    ∙ place_added c.add.new.self keys known front c.args.part.now c.args.parent c.in_ok-name.name c.in_ok-place.place stored.0
    within (ap (λ paths. place_of paths front) same ∙ above) c.in_ok-name.ensures.place
    (ap (λ steps. slice_get steps c.in_ok-place.place) (sym c.in_ok-place.ensures.keys) ∙ stored.1) stored.2

pub returns-clause-distinct : goal.returns-clause-distinct
returns-clause-distinct c =
    let keys = c.self.inside.steps.keys in
    let known : IsNumbered c.add.new.self keys =
    subst (λ names. IsNumbered names keys) (sym c.in_ok-name.ensures.texts) (numbered_with_text c.self.inside.names c.args.part.now keys c.self.invariant.numbered) in
    let within : c.args.parent < length keys = omega (arith, length-paths c.self.inside.names keys, ap length c.self.view_is) in
    are_distinct c.add.new.self c.insert_full.new.self.keys
    (subst (IsNumbered c.add.new.self) (sym c.in_ok-place.ensures.keys)
    (numbered_added c.add.new.self keys known c.args.part.now c.args.parent c.in_ok-name.name within c.in_ok-name.ensures.place))

use Rattle.std.proofs.Common.{◌≡◌, ◌∷◌, ◌++◌, [], List, ℕ, Some, None, sym, ap, ◌∙◌}
use Rattle.std.specs.Prelude.{position}
use Rattle.std.specs.Str.{bytes_eq}
use Rattle.collections.proofs.Places.{absent_added}
use Rattle.trace_audit.specs.Indexed.{listed}
use Rattle.trace_audit.proofs.Indexing.{held_others, new_others, on_any}
use Rattle.trace_audit.proofs.sets.add_place.Goals as goal

pub returns-in-Some-clause-others : goal.returns-in-Some-clause-others
returns-in-Some-clause-others c =
    let names = c.args.names.now in
    let lists = c.args.places.now.items in
    let at : position (bytes_eq c.args.name.now) names ≡ Some c.in-Some.id =
    ap (λ (n : List ℕ). position (bytes_eq n) names) (sym c.bytes.ensures) ∙ sym c.place.ensures ∙ c.in-Some.is in
    on_any c.push.result _
    (λ (other : List ℕ) (apart : other ≡ c.args.name.now → ⊥). held_others names lists c.args.name.now other c.push.new.self c.in-Some.id at apart)

pub returns-clause-others : goal.returns-clause-others
returns-clause-others c =
    let names = c.args.names.now in
    let lists = c.args.places.now.items in
    let name = c.args.name.now in
    let none : position (bytes_eq name) names ≡ None =
    ap (λ (n : List ℕ). position (bytes_eq n) names) (sym c.bytes.ensures) ∙ sym c.place.ensures ∙ c.in_default.is in
    let texts : c.add.new.self ≡ names ++ name ∷ [] =
    c.in_ok-add.ensures.texts
    ∙ sym (absent_added names c.bytes-2.result.now (ap (λ (n : List ℕ). position (bytes_eq n) names) c.bytes-2.ensures ∙ none))
    ∙ ap (λ (n : List ℕ). names ++ n ∷ []) c.bytes-2.ensures in
    λ (other : List ℕ) (apart : other ≡ name → ⊥).
    ap (λ (ns : List (List ℕ)). listed ns c.push-3.new.self.items other) texts
    ∙ ap (λ (ls : List (List ℕ)). listed (names ++ name ∷ []) ls other) c.in_ok-push-2.ensures.items
    ∙ new_others names lists name other _ c.requires apart

-- A path leads on by its next part, and behind a part without a place nothing stands.
use Rattle.std.proofs.Common.{◌≡◌, ◌||◌, List, ℕ, ◌++◌, ◌∷◌, [], None, refl, sym, ap, ◌∙◌, append_assoc, append-nil}
use Rattle.init_machine.specs.FileTree.{parts_of, is_other}
use Rattle.model_fs.specs.internal.Entries.{place_in}
use Rattle.model_fs.specs.internal.Rows.{node_at, is_under_other}
use Rattle.model_fs.proofs.Above.{under_by_last}
use Rattle.model_fs.proofs.Standing.{under_beyond}
use Rattle.model_fs.proofs.Views.{viewed}
use Rattle.model_fs.proofs.entries.Entries.+lead_on.Goals as goal

pub returns-in_default-clause-at : goal.returns-in_default-clause-at
returns-in_default-clause-at t c front above =
    sym above ∙ ap (place_in c.args.self.now) (sym (append-nil front) ∙ ap (λ ps. front ++ ps) (sym c.in_default.ensures))

pub returns-in_default-clause-under : goal.returns-in_default-clause-under
returns-in_default-clause-under t c front above under =
    under ∙ ap (is_under_other c.args.self.now) (sym (append-nil front) ∙ ap (λ ps. front ++ ps) (sym c.in_default.ensures))

pub returns-in-Some-child-clause-at : goal.returns-in-Some-child-clause-at
returns-in-Some-child-clause-at t c front above =
    let next = front ++ c.in-Some.part.now ∷ [] in
    let from = viewed c.self.invariant c.self.view_is front ∙ above in
    let leads = sym (viewed c.self.invariant c.self.view_is next) ∙ sym (c.child.ensures.place front from) ∙ c.in-Some-child.is in
    c.lead_on.ensures.at next leads
    ∙ ap (place_in c.args.self.now) (append_assoc front (c.in-Some.part.now ∷ []) (parts_of c.in-Some.behind.now) ∙ ap (λ ps. front ++ ps) (sym c.in-Some.ensures.0))

pub returns-in-Some-child-clause-under : goal.returns-in-Some-child-clause-under
returns-in-Some-child-clause-under t c front above under =
    let tree = c.args.self.now in
    let part = c.in-Some.part.now in
    let next = front ++ part ∷ [] in
    let from = viewed c.self.invariant c.self.view_is front ∙ above in
    let leads = sym (viewed c.self.invariant c.self.view_is next) ∙ sym (c.child.ensures.place front from) ∙ c.in-Some-child.is in
    let here : c.is_other.result ≡ is_other (node_at tree front) = c.is_other.ensures ∙ ap is_other (c.node.ensures front above) in
    c.lead_on.ensures.under next leads ((λ i. under i || here i) ∙ sym (under_by_last tree next front part refl))
    ∙ ap (is_under_other tree) (append_assoc front (part ∷ []) (parts_of c.in-Some.behind.now) ∙ ap (λ ps. front ++ ps) (sym c.in-Some.ensures.0))

pub returns-in-None-clause-at : goal.returns-in-None-clause-at
returns-in-None-clause-at t c front above =
    let path = front ++ c.in-Some.part.now ∷ parts_of c.in-Some.behind.now in
    sym (ap (λ ps. place_in c.args.self.now (front ++ ps)) c.in-Some.ensures.0 ∙ sym (viewed c.self.invariant c.self.view_is path)
    ∙ c.child.ensures.behind c.in-None.is front (parts_of c.in-Some.behind.now) (viewed c.self.invariant c.self.view_is front ∙ above))

pub returns-in-None-clause-under : goal.returns-in-None-clause-under
returns-in-None-clause-under t c front above under =
    let tree = c.args.self.now in
    let part = c.in-Some.part.now in
    let next = front ++ part ∷ [] in
    let here : c.is_other.result ≡ is_other (node_at tree front) = c.is_other.ensures ∙ ap is_other (c.node.ensures front above) in
    let nothing : (rest : List (List ℕ)) → place_in tree (next ++ rest) ≡ None = λ rest.
    ap (place_in tree) (append_assoc front (part ∷ []) rest) ∙ sym (viewed c.self.invariant c.self.view_is (front ++ part ∷ rest))
    ∙ c.child.ensures.behind c.in-None.is front rest (viewed c.self.invariant c.self.view_is front ∙ above) in
    (λ i. under i || here i) ∙ sym (under_by_last tree next front part refl)
    ∙ sym (under_beyond tree next (parts_of c.in-Some.behind.now) nothing)
    ∙ ap (is_under_other tree) (append_assoc front (part ∷ []) (parts_of c.in-Some.behind.now) ∙ ap (λ ps. front ++ ps) (sym c.in-Some.ensures.0))

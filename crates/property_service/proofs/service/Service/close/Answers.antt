use Rattle.std.proofs.Common.{◌≡◌, ℕ, All, Bool, false, List, Result, Ok, IfOk, OnOk, sym, ap, ◌∙◌, subst}
use Rattle.init_machine.specs.declared.report.Entry.{Entry}
use Rattle.property_service.proofs.Closing.{never, on_ok, through}
use Rattle.property_service.specs.Ending.{HasItsPart, IsFirstMissing, IsMissing}
use Rattle.property_service.specs.Service.{ServiceView}
use Rattle.property_service.specs.declared.ending.Closed.{Closed}
use Rattle.property_service.specs.declared.ending.Finished.{Finished}
use Rattle.property_service.specs.declared.ending.FinishRefusal.{FinishRefusal}
use Rattle.property_service.specs.declared.ending.FinishRefusal.TheVariants as refused
use Rattle.property_service.proofs.service.Service.close.Goals as goal

-- the service over a desk, with a history
abbrev served : ServiceView → List Entry → Bool → ServiceView
served desk history spent = record { opening = desk.opening; history = history; seat = desk.seat; spent = spent }

-- a service that isn't spent is its desk
desk_is : (s desk : ServiceView) (history : List Entry) (spent : Bool) → served desk history spent ≡ s → s.spent ≡ false
    → (spent ≡ false → (desk.spent ≡ false) × (history ≡ desk.history)) → (desk.spent ≡ false) × (desk ≡ s)
desk_is s desk history spent view ready keeps =
    let free = ap (λ (t : ServiceView). t.spent) view ∙ ready in
    let kept = keeps free in
    (kept.0, (λ j. served desk (sym kept.1 j) ((kept.0 ∙ sym free) j)) ∙ view)

abbrev closed_of : Finished → Closed
closed_of x = record { saved = x.saved; saving = x.saving; policy = x.policy; seat = x.seat }

-- what is so of the desk where it closes is so of the service
said : (P : ServiceView → Type 0) (s desk : ServiceView) (history : List Entry) (r : Result Finished FinishRefusal) (closed : Result Closed FinishRefusal) → desk ≡ s
    → IfOk r (λ (x : Finished). (x.history ≡ history) × (closed ≡ Ok (closed_of x))) → OnOk closed (P desk) → OnOk r (P s)
said P s desk history r closed is made holds =
    through (λ (x : Finished). x.history ≡ history) closed_of (P s) r closed made (on_ok (P desk) (P s) closed (subst P is) holds)

pub returns-clause-parts : goal.returns-clause-parts
returns-clause-parts g c =
    let desk = c.self.inside.desk in
    let is = desk_is c.args.self desk c.self.inside.history c.self.inside.spent c.self.view_is c.requires.ready c.self.invariant in
    said (λ (t : ServiceView). All (HasItsPart t) c.args.readers) c.args.self desk c.self.inside.history c.with_history.result c.finish.result is.1
    c.with_history.ensures.finished c.finish.ensures.parts

pub returns-clause-whole : goal.returns-clause-whole
returns-clause-whole g c =
    let desk = c.self.inside.desk in
    let is = desk_is c.args.self desk c.self.inside.history c.self.inside.spent c.self.view_is c.requires.ready c.self.invariant in
    said (λ (t : ServiceView). (q : ℕ) → ¬ IsMissing t c.args.readers q) c.args.self desk c.self.inside.history c.with_history.result c.finish.result is.1
    c.with_history.ensures.finished c.finish.ensures.whole

pub returns-clause-missing : goal.returns-clause-missing
returns-clause-missing g c who refusal =
    let is = desk_is c.args.self c.self.inside.desk c.self.inside.history c.self.inside.spent c.self.view_is c.requires.ready c.self.invariant in
    subst (λ (t : ServiceView). IsFirstMissing t c.args.readers who) is.1
    (c.finish.ensures.missing who ((c.with_history.ensures.refused (refused.Missing who)).0 refusal))

pub returns-clause-given : goal.returns-clause-given
returns-clause-given g c who refusal =
    let is = desk_is c.args.self c.self.inside.desk c.self.inside.history c.self.inside.spent c.self.view_is c.requires.ready c.self.invariant in
    subst (λ (t : ServiceView). All (HasItsPart t) c.args.readers) is.1
    (c.finish.ensures.given who ((c.with_history.ensures.refused (refused.Missing who)).0 refusal))

pub returns-clause-spent : goal.returns-clause-spent
returns-clause-spent g c refusal =
    let is = desk_is c.args.self c.self.inside.desk c.self.inside.history c.self.inside.spent c.self.view_is c.requires.ready c.self.invariant in
    never _ (sym is.0 ∙ c.finish.ensures.spent.0 ((c.with_history.ensures.refused refused.Spent).0 refusal))

-- All sessions are served.
use Rattle.std.proofs.Common.{◌≡◌, true, List, [], refl, sym, subst, append-nil}
use Rattle.std.proofs.lemmas.List.Elements.{All-nil, All-weaker}
use Rattle.atomic_table.specs.Seated.{TableId}
use Rattle.init_machine.specs.declared.input.Input.{Input}
use Rattle.init_machine.specs.declared.input.Input.TheVariants as input
use Rattle.init_machine.specs.declared.report.Entry.{Entry}
use Rattle.prop_dispatch.specs.Relayed.{HaveAsked, IsRelayed, IsSetOf}
use Rattle.prop_dispatch.specs.declared.session.Session.{Session}
use Rattle.prop_dispatch.specs.declared.verdict.Verdict.{Verdict}
use Rattle.property_area.specs.Seats.{Seated}
use Rattle.property_service.specs.Service.{ServiceView}
use Rattle.script_lang.specs.Laws.{is_set}
use Rattle.init_dispatch.specs.internal.Ending.{IsServed}

-- there is no session
none_served : (area : TableId) (s : ServiceView) → IsServed area s s [] []
none_served area s = record {
  entries = [];
  history = sym (append-nil s.history);
  are_sets = All-nil _;
  asked = tt;
}

pub nobody_served : (area : TableId) (s : ServiceView) (sessions : List Session) (readers : List Seated) → sessions ≡ [] → readers ≡ []
    → IsServed area s s sessions readers
nobody_served area s sessions readers none nobody =
    subst (λ (these : List Session). IsServed area s s these readers) (sym none)
    (subst (λ (back : List Seated). IsServed area s s [] back) (sym nobody) (none_served area s))

set_of_one : (sessions : List Session) (i : Input) → IsSetOf sessions i → is_set i ≡ true
set_of_one sessions input.Boot is = absurd is
set_of_one sessions input.Next is = absurd is
set_of_one sessions (input.Tick ms) is = absurd is
set_of_one sessions (input.Exit name status) is = absurd is
set_of_one sessions (input.File path content) is = absurd is
set_of_one sessions (input.Set who name value) is = refl

pub all_served : (area : TableId) (old new : ServiceView) (sessions : List Session) (readers : List Seated) (verdicts : List (List Verdict))
    → IsRelayed old.history sessions verdicts new.history → HaveAsked area old new sessions readers → IsServed area old new sessions readers
all_served area old new sessions readers verdicts relayed asked = record {
  entries = relayed.entries;
  history = relayed.history;
  are_sets = All-weaker _ _ (λ (e : Entry) own. set_of_one sessions e.input own) relayed.entries relayed.own;
  asked = asked;
}

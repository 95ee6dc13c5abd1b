use Rattle.std.proofs.Common.{◌≡◌, ◌<◌, List, length, map, sym, ap, subst, refl, ◌∙◌}
use Rattle.init_machine.specs.State.{Opening}
use Rattle.init_machine.specs.declared.report.ClientPart.{ClientPart}
use Rattle.init_machine.specs.declared.report.Entry.{Entry}
use Rattle.script_lang.specs.declared.script.Client.{Client}
use Rattle.trace_audit.specs.Audited.{EachHolds, FailsAt, IllegalAt, client_of}
use Rattle.trace_audit.specs.Taken.{HasGathered, IsBehind, with_history}
use Rattle.trace_audit.proofs.Holding.{none_hold}
use Rattle.trace_audit.proofs.NextTaken.{behind_of}
use Rattle.trace_audit.proofs.Options.{none_is, some_is, some_items}
use Rattle.trace_audit.proofs.Verdicts.{all_hold, says_legal, says_merge, says_readings}
use Rattle.trace_audit.proofs.taking.Audit.verdict.Goals as goal

clients_same : {declared read slice made : List Client} {looked parts : List ClientPart} → read ≡ declared → read ≡ slice → slice ≡ made
    → made ≡ map (λ part. client_of part) looked → looked ≡ parts → declared ≡ map (λ part. client_of part) parts
clients_same of_script same of_slice of_looked of_parts =
    sym of_script ∙ same ∙ of_slice ∙ of_looked ∙ ap (λ (parts : List ClientPart). map (λ part. client_of part) parts) of_parts

pub returns-in-Some-end : goal.returns-in-Some-end
returns-in-Some-end c =
    λ (o : Opening) (history : List Entry) taken.
    says_merge o c.args.diagnostics.now c.args.script.now (with_history history c.args.report.now) c.no-in-Some-end.result c.in-Some-end.number history c.no-in-Some-end.ensures
    (sym c.items.ensures ∙ c.in_default.ensures ∙ c.items-2.ensures)
    (clients_same c.items-4.ensures c.in_default-first_difference.ensures c.as_slice.ensures.value c.in_ok-clients.ensures c.items-3.ensures) refl
    (some_is _ _ _ c.in-Some-end.number (c.end.ensures.end history taken.merged) c.in-Some-end.is)

pub returns-in-Some-illegal : goal.returns-in-Some-illegal
returns-in-Some-illegal c =
    λ (o : Opening) (history : List Entry) taken.
    says_legal o c.args.diagnostics.now c.args.script.now (with_history history c.args.report.now) c.no-in-Some-illegal.result c.in-Some-illegal.number c.no-in-Some-illegal.ensures
    (sym c.items.ensures ∙ c.in_default.ensures ∙ c.items-2.ensures)
    (clients_same c.items-4.ensures c.in_default-first_difference.ensures c.as_slice.ensures.value c.in_ok-clients.ensures c.items-3.ensures)
    (none_is _ _ _ (c.end.ensures.end history taken.merged) c.in_default-end.is)
    (some_is c.args.self.now.illegal (IsBehind o history c.args.self.now.core) (IllegalAt o history) c.in-Some-illegal.number
    (taken.checked (c.end.ensures.begun c.in_default-end.is)) c.in-Some-illegal.is)

pub returns-in-Some-2 : goal.returns-in-Some-2
returns-in-Some-2 c =
    λ (o : Opening) (history : List Entry) taken.
    let some : 0 < length c.args.script.now.clients = some_items c.args.script.now.clients c.is_empty.result c.is_empty.ensures.1 c.if-is_empty.false in
    let told : HasGathered history c.replace.result = subst (HasGathered history) (sym c.replace.ensures.value) (taken.told some) in
    let read = c.in_ok-number.ensures history (c.in_ok-told.ensures.sets ∙ told.sets) (c.in_ok-told.ensures.requests ∙ told.requests) in
    let met = some_is _ (EachHolds c.args.script.now history 1 c.items-5.result.now) (FailsAt c.args.script.now history c.items-5.result.now) c.in-Some-2.number read c.in-Some-2.is in
    says_readings o c.args.diagnostics.now c.args.script.now (with_history history c.args.report.now) c.no-in-Some-2.result c.in-Some-2.number c.no-in-Some-2.ensures
    (sym c.items.ensures ∙ c.in_default.ensures ∙ c.items-2.ensures)
    (clients_same c.items-4.ensures c.in_default-first_difference.ensures c.as_slice.ensures.value c.in_ok-clients.ensures c.items-3.ensures)
    (none_is _ _ _ (c.end.ensures.end history taken.merged) c.in_default-end.is)
    (behind_of o history c.args.self.now.illegal c.args.self.now.core c.in_default-illegal.is (taken.checked (c.end.ensures.begun c.in_default-end.is))).legal
    (subst (λ (parts : List ClientPart). FailsAt c.args.script.now history parts c.in-Some-2.number) c.items-5.ensures met)

pub returns : goal.returns
returns c =
    λ (o : Opening) (history : List Entry) taken.
    let some : 0 < length c.args.script.now.clients = some_items c.args.script.now.clients c.is_empty.result c.is_empty.ensures.1 c.if-is_empty.false in
    let told : HasGathered history c.replace.result = subst (HasGathered history) (sym c.replace.ensures.value) (taken.told some) in
    let read = c.in_ok-number.ensures history (c.in_ok-told.ensures.sets ∙ told.sets) (c.in_ok-told.ensures.requests ∙ told.requests) in
    let met = none_is _ (EachHolds c.args.script.now history 1 c.items-5.result.now) (FailsAt c.args.script.now history c.items-5.result.now) read c.in-None.is in
    all_hold o c.args.diagnostics.now c.args.script.now (with_history history c.args.report.now)
    (sym c.items.ensures ∙ c.in_default.ensures ∙ c.items-2.ensures)
    (clients_same c.items-4.ensures c.in_default-first_difference.ensures c.as_slice.ensures.value c.in_ok-clients.ensures c.items-3.ensures)
    (none_is _ _ _ (c.end.ensures.end history taken.merged) c.in_default-end.is)
    (behind_of o history c.args.self.now.illegal c.args.self.now.core c.in_default-illegal.is (taken.checked (c.end.ensures.begun c.in_default-end.is))).legal
    (subst (λ (parts : List ClientPart). EachHolds c.args.script.now history 1 parts) c.items-5.ensures met)

pub returns-then-is_empty : goal.returns-then-is_empty
returns-then-is_empty c =
    λ (o : Opening) (history : List Entry) taken.
    let those = (clients_same c.items-4.ensures c.in_default-first_difference.ensures c.as_slice.ensures.value c.in_ok-clients.ensures c.items-3.ensures) in
    all_hold o c.args.diagnostics.now c.args.script.now (with_history history c.args.report.now)
    (sym c.items.ensures ∙ c.in_default.ensures ∙ c.items-2.ensures) those
    (none_is _ _ _ (c.end.ensures.end history taken.merged) c.in_default-end.is)
    (behind_of o history c.args.self.now.illegal c.args.self.now.core c.in_default-illegal.is (taken.checked (c.end.ensures.begun c.in_default-end.is))).legal
    (none_hold c.args.script.now history (with_history history c.args.report.now) those (ap length (c.is_empty.ensures.0 c.if-is_empty.true)))

use Rattle.std.proofs.Common.{◌≡◌, Bool, true, false, List, All, None, Result, Ok, sym, ap, ◌∙◌}
use Rattle.std.specs.List.{filter_map}
use Rattle.init_base.specs.declared.memory.NoMemory.{NoMemory}
use Rattle.init_machine.specs.Facts.{Stands}
use Rattle.init_machine.specs.History.{sets_of}
use Rattle.init_machine.specs.declared.report.Entry.{Entry}
use Rattle.script_lang.specs.Inputs.{ask_by, part_of}
use Rattle.script_lang.specs.declared.script.Act.{Act}
use Rattle.trace_audit.specs.Audited.{ReadingsHold, answer_all}
use Rattle.trace_audit.specs.Lists.{all_requests, ascending, bounds_list, rises}
use Rattle.trace_audit.specs.declared.told.Bounds.{Bounds}
use Rattle.trace_audit.proofs.Holding.{holds, hold_ascend, hold_rise}
use Rattle.trace_audit.proofs.readings.do_hold.Goals as goal

pub returns-then-not-seconds_rise-clause-fail : goal.returns-then-not-seconds_rise-clause-fail
returns-then-not-seconds_rise-clause-fail c =
    λ (history : List Entry) (those : c.args.told.now.sets.pairs.items ≡ sets_of history) (all : c.args.told.now.requests.items ≡ all_requests 0 history) same
    (hold : ReadingsHold c.args.script.now history c.args.who c.args.readings.now).
    let rise : rises c.args.readings.now ≡ true = hold_rise c.args.script.now history c.args.who c.args.readings.now hold in
    let fall : rises c.args.readings.now ≡ false = sym c.seconds_rise.ensures ∙ c.if-not-seconds_rise.true in
    let impossible : ⊥ = cc in impossible

pub returns-clause-hold : goal.returns-clause-hold
returns-clause-hold c =
    λ (history : List Entry) (those : c.args.told.now.sets.pairs.items ≡ sets_of history) (all : c.args.told.now.requests.items ≡ all_requests 0 history)
    (same : ◌≡◌ {A = Result Bool NoMemory} (Ok c.is_in_order.result) (Ok true)).
    let script = c.args.script.now in
    let readings = c.args.readings.now in
    let who = c.args.who in
    let in_order : c.is_in_order.result ≡ true = cc in
    let answers : answer_all (part_of who script) readings ≡ true =
    ap (λ (acts : List Act). answer_all (filter_map (ask_by who) acts) readings) (sym c.items-acts.ensures) ∙ sym c.are_answers.ensures ∙ c.if-not-are_answers.false in
    let stand : All (Stands c.args.told.now.sets.pairs.items None) readings =
    c.all_stand.ensures.stand c.if-not-all_stand.false in
    let rise : rises readings ≡ true = sym c.seconds_rise.ensures ∙ c.if-not-seconds_rise.false in
    let bounds = c.in_ok-requests.requests.items in
    let ascend : ascending 0 (bounds_list (part_of who script) bounds readings) ≡ true =
    ap (λ (bs : List Bounds). ascending 0 (bounds_list (part_of who script) bs readings)) (sym c.as_slice.ensures.value)
    ∙ ap (λ (acts : List Act). ascending 0 (bounds_list (filter_map (ask_by who) acts) c.as_slice.result.now readings)) (sym c.items-acts.ensures)
    ∙ sym c.is_in_order.ensures ∙ in_order in
    holds script history who readings c.args.told.now.sets.pairs.items c.args.told.now.requests.items bounds those all c.in_ok-requests.ensures answers stand rise ascend

pub returns-clause-fail : goal.returns-clause-fail
returns-clause-fail c =
    λ (history : List Entry) (those : c.args.told.now.sets.pairs.items ≡ sets_of history) (all : c.args.told.now.requests.items ≡ all_requests 0 history)
    (same : ◌≡◌ {A = Result Bool NoMemory} (Ok c.is_in_order.result) (Ok false)) (hold : ReadingsHold c.args.script.now history c.args.who c.args.readings.now).
    let script = c.args.script.now in
    let readings = c.args.readings.now in
    let who = c.args.who in
    let bounds = c.in_ok-requests.requests.items in
    let ascend : ascending 0 (bounds_list (part_of who script) bounds readings) ≡ true =
    hold_ascend script history who readings c.args.told.now.requests.items bounds all c.in_ok-requests.ensures hold in
    let in_order : c.is_in_order.result ≡ true =
    c.is_in_order.ensures
    ∙ ap (λ (acts : List Act). ascending 0 (bounds_list (filter_map (ask_by who) acts) c.as_slice.result.now readings)) c.items-acts.ensures
    ∙ ap (λ (bs : List Bounds). ascending 0 (bounds_list (part_of who script) bs readings)) c.as_slice.ensures.value
    ∙ ascend in
    let impossible : ⊥ = cc in impossible

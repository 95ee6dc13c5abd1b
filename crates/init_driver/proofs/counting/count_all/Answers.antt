use Rattle.std.proofs.Common.{◌≡◌, ◌∙◌, List, [], ◌∷◌, ◌++◌, length, refl, sym, ap, subst, arith}
use Rattle.std.specs.List.{flat_map}
use Rattle.std.proofs.lemmas.List.{length-map}
use Rattle.init_machine.specs.History.{after_from}
use Rattle.init_machine.specs.declared.config.Config.{Config}
use Rattle.init_machine.specs.declared.input.Input.TheVariants as Input
use Rattle.machine_laws.specs.Histories.{history_from}
use Rattle.script_lang.specs.Inputs.{act_inputs, InOrder}
use Rattle.script_lang.specs.declared.script.Act.{Act}
use Rattle.soak_summary.specs.Counts.{Counts, counted_of, with_entries}
use Rattle.init_driver.specs.Machine.{told_to}
use Rattle.init_driver.specs.Readings.{parts_from}
use Rattle.init_driver.specs.Run.{report_from}
use Rattle.init_driver.specs.Seat.{AreTold}
use Rattle.init_driver.proofs.Done.{has_done}
use Rattle.init_driver.proofs.Tallied.{counts_then, tally_is}
use Rattle.init_driver.proofs.Told.{on_ok_of, told_fresh, told_of_opened}
use Rattle.init_driver.proofs.counting.count_all.Given as given
use Rattle.init_driver.proofs.counting.count_all.Goals as goal

pub count_acts-requires-clause-domains : goal.count_acts-requires-clause-domains
count_acts-requires-clause-domains g c =
    let many = ap length c.in_ok-parts.ensures ∙ length-map _ _ ∙ ap length c.items.ensures in
    let same = ap (λ (config : Config). length config.domains) c.in_ok-count_input.ensures.counts.config in
    omega (arith, many, same, c.requires.domains)

pub count_acts-requires-clause-heard : goal.count_acts-requires-clause-heard
count_acts-requires-clause-heard g c =
    let told = told_to c.count_input.new.core.readers in
    subst (AreTold told 1) (sym c.in_ok-parts.ensures) (told_fresh told 1 c.items.result.now (λ who. c.in_ok-count_input.ensures.still who ∙ c.requires.fresh who))

parts_are : (g : given.Over) (c : goal.After-drop-parts-2 g)
    → c.count_acts.new.parts.items
    ≡ parts_from c.args.core.now.config c.args.core.now.policy (after_from c.args.core.now.config c.args.core.now.policy c.args.core.now.state (Input.Boot ∷ [])) c.args.script.now.acts 1 c.args.script.now.clients
parts_are g c =
    let core = c.args.core.now in
    let core' = c.count_input.new.core in
    let ok = c.in_ok-count_input.ensures.counts in
    told_of_opened core.config core'.config core.policy core'.policy (after_from core.config core.policy core.state (Input.Boot ∷ [])) core'.state c.args.script.now.acts c.items-2.result.now
    c.args.script.now.clients c.items.result.now c.count_acts.new.parts.items c.in_ok-parts.parts.items c.in_ok-count_acts.ensures.told c.in_ok-parts.ensures c.items.ensures c.items-2.ensures
    ok.config ok.policy ok.state

pub returns-clause-tally : goal.returns-clause-tally
returns-clause-tally g c =
    let core = c.args.core.now in
    let script = c.args.script.now in
    let counts =
    counts_then (Input.Boot ∷ []) (flat_map act_inputs c.items-2.result.now) core c.count_input.new.core c.count_acts.new.core c.args.counts.now c.count_input.new.counts c.count_acts.new.counts
    c.in_ok-count_input.ensures.counts c.in_ok-count_acts.ensures.counts in
    tally_is c.tally.result c.count_acts.new.counts (history_from core.config core.policy core.state (InOrder script)) c.as_slice.result.now
    (parts_from core.config core.policy (after_from core.config core.policy core.state (Input.Boot ∷ [])) script.acts 1 script.clients) c.tally.ensures
    (counts.counted ∙ ap (λ (x : Counts). with_entries x (history_from core.config core.policy core.state (Input.Boot ∷ flat_map act_inputs c.items-2.result.now))) c.requires.none
    ∙ ap (λ (acts : List Act). with_entries (counted_of []) (history_from core.config core.policy core.state (Input.Boot ∷ flat_map act_inputs acts))) c.items-2.ensures)
    (c.as_slice.ensures.value ∙ parts_are g c)

pub returns-clause-done : goal.returns-clause-done
returns-clause-done g c =
    let core = c.args.core.now in
    let script = c.args.script.now in
    let counts =
    counts_then (Input.Boot ∷ []) (flat_map act_inputs c.items-2.result.now) core c.count_input.new.core c.count_acts.new.core c.args.counts.now c.count_input.new.counts c.count_acts.new.counts
    c.in_ok-count_input.ensures.counts c.in_ok-count_acts.ensures.counts in
    on_ok_of c.tally.result
    (λ found. has_done core core c.count_acts.new.core c.count_acts.new.core (report_from core.config core.policy core.state found script) (InOrder script)
    c.count_acts.new.parts.items refl counts.config counts.opening
    (counts.history
    ∙ ap (λ (acts : List Act). core.desk.history ++ history_from core.config core.policy core.state (Input.Boot ∷ flat_map act_inputs acts)) c.items-2.ensures)
    refl c.in_ok-count_acts.ensures.heard (parts_are g c) refl)

-- A process is begun, or the kernel has no pid.
use Rattle.std.proofs.Common.{◌∙◌, Ok, Err, ap, refl, sym, subst}
use Rattle.init_machine.specs.Services.{Operated}
use Rattle.model_kernel.specs.Kernel.{spawned as kernel_spawned}
use Rattle.model_kernel.specs.declared.refusal.SpawnRefusal.TheVariants as refusal
use Rattle.machine_parts.specs.Parts.{Does, rules_of, state_of}
use Rattle.machine_parts.proofs.Telling.{spawn_of_pid, spawn_without_pid, spawns, unspawns}
use Rattle.machine_parts.proofs.operations.spawn.Goals as goal

pub returns-in_ok-tell-in-Ok-clause-had_pid : goal.returns-in_ok-tell-in-Ok-clause-had_pid
returns-in_ok-tell-in-Ok-clause-had_pid g c =
    let s = state_of g.S.PropStore.meaning c.args.parts.now in
    let is = spawn_of_pid (rules_of c.args.parts.now) s c.args.name.now c.args.path.now c.args.at (Ok c.in-Ok.pid) c.in-Ok.pid refl c.in-Ok.ensures.no_pid in
    ap (λ (o : Operated). o.had_pid) (sym is)

pub returns-in_ok-tell-in-Ok-clause-done : goal.returns-in_ok-tell-in-Ok-clause-done
returns-in_ok-tell-in-Ok-clause-done g c =
    let meaning = g.S.PropStore.meaning in
    let told = g.S.PropStore.told in
    let a = c.args.parts.now in
    let is = spawn_of_pid (rules_of a) (state_of meaning a) c.args.name.now c.args.path.now c.args.at (Ok c.in-Ok.pid) c.in-Ok.pid refl c.in-Ok.ensures.no_pid in
    subst (λ (o : Operated). Does meaning told g.O.Outputs.Adds a c.tell.new.parts o.done) (sym is)
    (spawns meaning told g.met.O.Outputs.joins a c.enter_process.new.parts c.tell.new.parts c.spawn.new.self c.in-Ok.pid c.args.name.now c.args.path.now c.args.at
    (c.in-Ok.ensures.ok ∙ ap (λ path. kernel_spawned a.kernel c.args.name.now path) c.bytes.ensures) c.in-Ok.ensures.pid
    c.in_ok-enter_process-in-Ok.ensures.done c.in_ok-tell-in-Ok.ensures.done)

pub returns-in_ok-tell-in-Err-NoPid-clause-had_pid : goal.returns-in_ok-tell-in-Err-NoPid-clause-had_pid
returns-in_ok-tell-in-Err-NoPid-clause-had_pid g c =
    let s = state_of g.S.PropStore.meaning c.args.parts.now in
    let exact = rw c.in-Err-NoPid.field-0-is at c.in-Err-NoPid.ensures.no_pid in
    let is = spawn_without_pid (rules_of c.args.parts.now) s c.args.name.now c.args.path.now c.args.at (Err refusal.NoPid) refl exact in
    ap (λ (o : Operated). o.had_pid) (sym is)

pub returns-in_ok-tell-in-Err-NoPid-clause-done : goal.returns-in_ok-tell-in-Err-NoPid-clause-done
returns-in_ok-tell-in-Err-NoPid-clause-done g c =
    let meaning = g.S.PropStore.meaning in
    let told = g.S.PropStore.told in
    let a = c.args.parts.now in
    let exact = rw c.in-Err-NoPid.field-0-is at c.in-Err-NoPid.ensures.no_pid in
    let is = spawn_without_pid (rules_of a) (state_of meaning a) c.args.name.now c.args.path.now c.args.at (Err refusal.NoPid) refl exact in
    subst (λ (o : Operated). Does meaning told g.O.Outputs.Adds a c.tell-in-Err-NoPid.new.parts o.done) (sym is)
    (unspawns meaning told g.met.O.Outputs.joins a c.stop_unspawned.new.parts c.tell-in-Err-NoPid.new.parts c.spawn.new.self c.args.name.now c.args.at c.in-Err-NoPid.ensures.err
    c.in_ok-stop_unspawned-in-Err-NoPid.ensures.done c.in_ok-tell-in-Err-NoPid.ensures.done)

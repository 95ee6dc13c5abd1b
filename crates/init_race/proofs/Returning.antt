-- Among the readers that come back none is missing.
use Rattle.std.proofs.Common.{◌≡◌, ℕ, zero, suc, ◌+◌, ◌≤◌, ◌<◌, inl, inr, ⊎_elim, All, List, [], ◌∷◌, ◌++◌, length, Result, Ok, Err, IfOk, sym, ap, ◌∙◌, subst, arith}
use Rattle.std.proofs.lemmas.List.{map-append}
use Rattle.atomic_table.specs.Seated.{TableId}
use Rattle.init_base.specs.declared.memory.NoMemory.{NoMemory}
use Rattle.init_machine.specs.State.{Opening}
use Rattle.init_machine.specs.declared.report.ClientPart.{ClientPart}
use Rattle.property_area.specs.Seats.{Seated}
use Rattle.property_service.specs.Ending.{HasItsPart, HasReader}
use Rattle.script_lang.specs.declared.script.Script.{Script}
use Rattle.init_race.specs.internal.Ended.{ComeBack, readers_of}
use Rattle.init_race.specs.Race.{AreAll}
use Rattle.init_race.specs.Seating.{AllSeated, EachSeated}
use Rattle.init_race.specs.Threads.{EachThrough}
use Rattle.init_race.specs.declared.actors.Acted.{Acted}
use Rattle.init_race.proofs.Through.{Split, all_last, same_opening, split_through}

first_have : (xs ys : List Seated) (who : ℕ) → HasReader xs who → HasReader (xs ++ ys) who
first_have [] ys who has = absurd has
first_have (x ∷ xs) ys who has = ⊎_elim (λ (is : x.view.who ≡ who). inl is) (λ (later : HasReader xs who). inr (first_have xs ys who later)) has

last_has : (xs : List Seated) (y : Seated) (who : ℕ) → y.view.who ≡ who → HasReader (xs ++ y ∷ []) who
last_has [] y who is = inl is
last_has (x ∷ xs) y who is = inr (last_has xs y who is)

-- each client that had a reader has one of those that come back
clients_have : (script : Script) (area : TableId) (o : Opening) (k : ℕ) (seated : List Seated) (acted : List Acted) (n : ℕ) → EachSeated area o k seated
    → EachThrough script seated acted → n < length seated → HasReader (readers_of acted) (k + n)
clients_have script area o k [] acted n each through below = absurd (omega arith)
clients_have script area o k (r ∷ seated) [] n each through below = absurd through
clients_have script area o k (r ∷ seated) (one ∷ acted) zero each through below =
    let e : k ≡ k + 0 = omega arith in inl (through.0.goes.who ∙ each.0.who ∙ e)
clients_have script area o k (r ∷ seated) (one ∷ acted) (suc n) each through below =
    let e : k + 1 + n ≡ k + suc n = omega arith in
    inr (subst (HasReader (readers_of acted)) e (clients_have script area o (k + 1) seated acted n each.1 through.1 (omega arith)))

actors_have : (script : Script) (area : TableId) (o : Opening) (seated : List Seated) (main : Seated) (acted : List Acted) (split : Split script seated main acted) (who : ℕ)
    → EachSeated area o 1 seated → main.view.who ≡ 0 → who ≤ length seated → HasReader (readers_of split.clients ++ split.last.reader ∷ []) who
actors_have script area o seated main acted split zero each is few = last_has (readers_of split.clients) split.last.reader 0 (split.through.goes.who ∙ is)
actors_have script area o seated main acted split (suc n) each is few =
    let e : 1 + n ≡ suc n = omega arith in
    first_have (readers_of split.clients) (split.last.reader ∷ []) (suc n)
    (subst (HasReader (readers_of split.clients)) e (clients_have script area o 1 seated split.clients n each split.each (omega arith)))

pub all_come : (area : TableId) (o : Opening) (script : Script) (readers : List Seated) (acted : List Acted) → length script.clients ≡ length o.config.domains
    → AllSeated area o (length script.clients) readers → EachThrough script readers acted → AreAll (readers_of acted)
all_come area o script readers acted domains seated through s has who within =
    let split = split_through script seated.clients seated.main acted (subst (λ (rs : List Seated). EachThrough script rs acted) seated.all through) in
    let clients = split.clients in
    let last = split.last in
    let whole : readers_of acted ≡ readers_of clients ++ last.reader ∷ [] = ap readers_of split.all ∙ map-append (λ (one : Acted). one.reader) clients (last ∷ []) in
    let main_has = all_last (HasItsPart s) (readers_of clients) last.reader (subst (All (HasItsPart s)) whole has) in
    let same : s.opening ≡ o = same_opening o s.opening (sym main_has.opening ∙ split.through.goes.opening ∙ seated.booted.opening) in
    let known : who ≤ length o.config.domains = subst (λ (p : Opening). who ≤ length p.config.domains) same within in
    let many = seated.many_are in
    subst (λ (rs : List Seated). HasReader rs who) (sym whole)
    (actors_have script area o seated.clients seated.main acted split who seated.each seated.booted.who (omega arith))

pub back_all : (area : TableId) (o : Opening) (script : Script) (readers : List Seated) (came : Result (List Seated × List ClientPart) NoMemory)
    → length script.clients ≡ length o.config.domains → AllSeated area o (length script.clients) readers
    → IfOk came (λ back. ComeBack script readers back.0 back.1) → IfOk came (λ back. AreAll back.0)
back_all area o script readers (Ok back) domains seated come =
    subst AreAll (sym come.back_is) (all_come area o script readers come.acted domains seated come.through)
back_all area o script readers (Err e) domains seated come = tt

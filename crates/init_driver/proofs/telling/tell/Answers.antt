use Rattle.std.proofs.Common.{◌∙◌, ◌++◌, ap, refl, sym, subst}
use Rattle.init_driver.specs.Machine.{told_to}
use Rattle.init_driver.specs.Seat.{AreTold}
use Rattle.script_lang.specs.declared.script.Act.TheVariants as act
use Rattle.init_driver.specs.Course.{told_at}
use Rattle.init_driver.proofs.Told.{not_asked, on_ok_told, told_by_ask, told_more, told_pushed, untold, untold_ask}
use Rattle.init_driver.proofs.telling.tell.Goals as goal

pub returns-in_default-clause-told : goal.returns-in_default-clause-told
returns-in_default-clause-told g c = sym (untold c.args.core.now.state c.args.act.now 1 c.args.parts.now.items (not_asked c.args.act.now c.in_default.not-Ask c.args.core.now.state))

pub returns-in_default-clause-same : goal.returns-in_default-clause-same
returns-in_default-clause-same g c = record { config = refl; policy = refl; state = refl; opening = refl; history = refl }

pub returns-in_default-2-clause-told : goal.returns-in_default-2-clause-told
returns-in_default-2-clause-told g c =
    rw c.in-Ask.is
    (sym (untold_ask c.args.core.now.state c.in-Ask.who c.in-Ask.ask 1 c.args.parts.now.items (sym c.in_ok-reading.ensures.told ∙ c.in_default-2.is)))

pub returns-clause-told : goal.returns-clause-told
returns-clause-told g c =
    let among = rw c.in-Ask.is at c.requires.asked in
    told_pushed c.push.result c.args.core.now.state c.args.act.now c.in-Ask.who c.in-Ask.ask c.in-Some.reading c.args.parts.now.items c.index_mut-part.result.now c.push.new.self
    c.in-Ask.is (sym c.in_ok-reading.ensures.told ∙ c.in-Some.is) among.0 among.1 c.index_mut-part.ensures.value c.push.ensures.ok

pub returns-in_default-2-clause-heard : goal.returns-in_default-2-clause-heard
returns-in_default-2-clause-heard g c =
    let s = c.args.core.now.state in
    let told = told_to c.args.core.now.readers in
    let told' = told_to c.learn.new.self.readers in
    let ok = c.in_ok-reading.ensures in
    subst (AreTold told' 1) (untold_ask s c.in-Ask.who c.in-Ask.ask 1 c.args.parts.now.items (sym ok.told ∙ c.in_default-2.is))
    (told_more told told' s (act.Ask c.in-Ask.who c.in-Ask.ask) 1 c.args.parts.now.items
    (λ q. ok.heard q ∙ ap (λ rs. told q ++ rs) (told_by_ask s (act.Ask c.in-Ask.who c.in-Ask.ask) c.in-Ask.who c.in-Ask.ask c.in_ok-reading.field-0 q refl ok.told)) c.requires.heard)

pub returns-clause-heard : goal.returns-clause-heard
returns-clause-heard g c =
    let s = c.args.core.now.state in
    let told = told_to c.args.core.now.readers in
    let told' = told_to c.learn.new.self.readers in
    let ok = c.in_ok-reading.ensures in
    on_ok_told c.push.result told' _ (told_at s c.args.act.now 1 c.args.parts.now.items) (returns-clause-told g c)
    (told_more told told' s c.args.act.now 1 c.args.parts.now.items
    (λ q. ok.heard q ∙ ap (λ rs. told q ++ rs) (told_by_ask s c.args.act.now c.in-Ask.who c.in-Ask.ask _ q c.in-Ask.is ok.told)) c.requires.heard)

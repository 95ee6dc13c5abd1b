use Rattle.std.proofs.Common.{◌≡◌, ℕ, true, List, Bor, map, sym, subst}
use Rattle.std.proofs.lemmas.Result.{IfErr-weaker}
use Rattle.clap.specs.Words.{App, app_of, takes}
use Rattle.command_line.specs.internal.Command.{app}
use Rattle.command_line.proofs.Taken.{form_taken}
use Rattle.command_line.proofs.command.parse.Goals as goal

pub returns : goal.returns
returns c =
    let taken : takes app (map (λ (word : Bor (List ℕ)). word.now) c.args.words.now) ≡ true = form_taken (map (λ (word : Bor (List ℕ)). word.now) c.args.words.now) c.requires in
    let same : takes (app_of c.in_ok-command.command) (map (λ (word : Bor (List ℕ)). word.now) c.args.words.now) ≡ true =
    subst (λ (a : App). takes a (map (λ (word : Bor (List ℕ)). word.now) c.args.words.now) ≡ true) (sym c.in_ok-command.ensures.ok) taken in
    IfErr-weaker c.try_get_matches_from.result _ _ (λ e h. h same) c.try_get_matches_from.ensures.passes

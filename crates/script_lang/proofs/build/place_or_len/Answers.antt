use Rattle.std.proofs.Common.{◌≡◌, arith}
use Rattle.std.specs.List.{position_or_len}
use Rattle.std.specs.Str.{bytes_eq}
use Rattle.script_lang.specs.declared.script.Client.{Client}
use Rattle.script_lang.proofs.LineWords.{position_or_whole, place_within}
use Rattle.script_lang.proofs.build.place_or_len.Goals as goal

pub returns-clause-within : goal.returns-clause-within
returns-clause-within c =
    let is_named = λ (client : Client). bytes_eq client.name c.args.name.now in
    let e = position_or_whole is_named c.args.clients.now in
    let is : c.unwrap_or.result ≡ position_or_len is_named c.args.clients.now = cc in
    omega (arith, is, place_within is_named c.args.clients.now)

pub returns-clause-place : goal.returns-clause-place
returns-clause-place c =
    let e = position_or_whole (λ (client : Client). bytes_eq client.name c.args.name.now) c.args.clients.now in
    cc

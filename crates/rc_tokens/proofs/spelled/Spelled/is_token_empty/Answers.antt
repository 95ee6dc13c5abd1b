use Rattle.std.proofs.Common.{◌≡◌, ap, length, rules, sym}
use Rattle.rc_tokens.specs.internal.Ranges.{Spelling}
use Rattle.rc_tokens.proofs.Ranges.{none_behind}
use Rattle.rc_tokens.proofs.spelled.Spelled.is_token_empty.Goals as goal

pub returns : goal.returns
returns c =
    let count : c.len.result ≡ length c.self.inside.bytes.items = search rules in
    none_behind c.self.inside.bytes.items c.args.self.now.token c.self.inside.token_from c.len.result
    c.self.invariant.token_within count (sym (ap (λ (s : Spelling). s.token) c.self.view_is))

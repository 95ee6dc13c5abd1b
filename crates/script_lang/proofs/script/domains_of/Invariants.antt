use Rattle.std.proofs.Common.{◌≡◌, ◌++◌, drop, map}
use Rattle.script_lang.proofs.script.domains_of.Given as goal

-- what is left decides
abbrev pub invariant-loop-client : goal.invariant-loop-client
invariant-loop-client l =
    l.domains ++ map (λ client. client.domain) (drop l.client-index l.clients) ≡ map (λ client. client.domain) l.clients

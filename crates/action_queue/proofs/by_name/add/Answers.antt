use Rattle.std.proofs.Common.{ℕ, List, [], ◌∷◌, ◌++◌, ap, ◌∙◌, if◌then◌else◌}
use Rattle.std.specs.Str.{bytes_eq}
use Rattle.action_queue.specs.ByName.{places_of}
use Rattle.action_queue.proofs.ByBytes.{put_at}
use Rattle.action_queue.proofs.by_name.add.Goals as goal

pub returns : goal.returns
returns c = λ other.
    let name = c.args.name.now in
    put_at (λ key. key) (λ places. places.items) c.take-found.new.places.map c.insert.new.self c.in_ok-of.field-0 c.push.new.self name (places_of c.args.places.now)
    c.in_ok-insert.ensures.updates c.in_ok-of.ensures c.take-found.ensures.others other
    ∙ ap (λ (found : List ℕ). if bytes_eq name other then found else places_of c.args.places.now other)
    (c.in_ok-push.ensures.items ∙ ap (λ (found : List ℕ). found ++ c.args.at ∷ []) c.take-found.ensures.found)

-- A path leads on from where its front leads.
use Rattle.std.proofs.Common.{◌≡◌, ◌++◌, ◌∷◌, [], sym, ap, ◌∙◌}
use Rattle.init_machine.specs.FileTree.{parts_of}
use Rattle.model_fs.specs.internal.Entries.{place_in}
use Rattle.model_fs.specs.internal.Steps.{place_of}
use Rattle.model_fs.proofs.Above.{under_by_last}
use Rattle.model_fs.proofs.Rows.{under_is}
use Rattle.model_fs.proofs.Shown.{place_shown}
use Rattle.model_fs.proofs.Slots.{place_noted}
use Rattle.model_fs.proofs.Steps.{last_parts}
use Rattle.model_fs.proofs.entries.Entries.walk.Goals as goal

pub above-above-requires : goal.above-above-requires
above-above-requires c at found =
    let paths = c.self.inside.places in
    let front = parts_of c.in-Some.front.now in
    ap (λ tree. place_in tree front) (sym c.self.view_is) ∙ place_shown paths c.self.inside.entries.items front c.self.invariant.long
    ∙ place_noted paths c.in-Some.front.now c.noted-noted.result c.noted-noted.ensures at found

pub returns : goal.returns
returns c =
    let paths = c.self.inside.places in
    let entries = c.self.inside.entries.items in
    let tree = c.args.self.now in
    let front = parts_of c.in-Some.front.now in
    let path = front ++ c.in-Some.part.now ∷ [] in
    let leads : place_of paths front ≡ c.above-above.result.at =
    sym (place_shown paths entries front c.self.invariant.long) ∙ ap (λ t. place_in t front) c.self.view_is ∙ sym c.above-above.ensures.at in (
      sym c.is_path_behind.ensures ∙ c.if-not-is_path_behind.false,
      record {
        at =
            c.child.ensures.place front leads
            ∙ sym (place_shown paths entries path c.self.invariant.long)
            ∙ ap (λ t. place_in t path) c.self.view_is
            ∙ ap (place_in tree) (sym c.in-Some.ensures.0);
        parent = λ other last is.
            c.above-above.ensures.at ∙ ap (place_in tree) (last_parts front other c.in-Some.part.now last (sym c.in-Some.ensures.0 ∙ is)).0;
        behind = λ root none. c.child.ensures.none none;
        under = c.above-above.ensures.other ∙ sym (under_by_last tree (parts_of c.args.path.now) front c.in-Some.part.now c.in-Some.ensures.0)
            ∙ sym (under_is tree (parts_of c.args.path.now));
      },
    )

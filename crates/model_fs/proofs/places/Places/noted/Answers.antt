-- What is noted of the text is so.
use Rattle.std.proofs.Common.{◌≡◌, nat_eq, Some, sym, ap, ◌∙◌}
use Rattle.std.specs.Cmp.Lexicographic.{bytes_decides}
use Rattle.indexmap.specs.IndexMap.{get}
use Rattle.init_machine.specs.FileTree.{is_path, parts_of}
use Rattle.model_fs.specs.internal.Steps.{place_of}
use Rattle.model_fs.proofs.places.Places.noted.Goals as goal

pub returns-then-eq : goal.returns-then-eq
returns-then-eq c =
    let got : get nat_eq c.self.inside.noted c.slot_of.result ≡ Some c.in_ok-noted.noted.now = sym c.in_ok-noted.ensures.value in
    let is = c.self.invariant.noted c.slot_of.result c.in_ok-noted.noted.now got in
    let same : c.in_ok-noted.noted.now.text.items ≡ c.args.text.now =
    sym c.as_slice.ensures.value ∙ (bytes_decides c.as_slice.result.now c.args.text.now).0 (sym c.if-eq.ensures) in (
      ap is_path (sym same) ∙ is.0,
      ap (λ text. place_of c.args.self.now (parts_of text)) (sym same)
          ∙ ap (λ paths. place_of paths (parts_of c.in_ok-noted.noted.now.text.items)) (sym c.self.view_is) ∙ is.1,
    )

use Rattle.std.proofs.Common.{[], replicate, ap, ◌∙◌, ℕ, refl}
use Rattle.std.specs.List.{flat_map}
use Rattle.script_lang.specs.Inputs.{Parts, act_inputs}
use Rattle.trace_audit.specs.Progress.{first_left, left_of}
use Rattle.trace_audit.proofs.FirstLeft.{first_fills, first_progress}
use Rattle.trace_audit.proofs.Merging.{fills_left}
use Rattle.trace_audit.proofs.merge.Merge.new.Goals as goal

pub returns : goal.returns
returns c =
    let script = c.args.script.now in
    let p = c.in_ok-new.field-0 in
    let places = c.in_ok-new.ensures.places ∙ ap (λ (n : ℕ). replicate n 0) c.len.ensures in
    let takes = first_progress script p c.requires c.in_ok-new.ensures.main places in
    record {
      taken = refl;
      order = record {
        takes = takes;
        more = flat_map act_inputs script.acts;
        fills = fills_left [] (flat_map act_inputs script.acts) (first_left (Parts script)) (left_of script.acts p) takes (first_fills script c.requires);
      };
    }

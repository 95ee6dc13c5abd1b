use Rattle.std.proofs.Common.{List, refl, sym, ap, ◌∙◌}
use Rattle.init_machine.specs.declared.diagnostic.Diagnostic.{Diagnostic}
use Rattle.rc_parse.specs.internal.Adding.{from_header}
use Rattle.rc_parse.proofs.Headers.{headed}
use Rattle.rc_parse.proofs.Skims.{skim_added, none_left}
use Rattle.rc_parse.proofs.skimming.skim.Goals as goal

pub loop-header-init : goal.loop-header-init
loop-header-init c = record {
  left_decides = refl;
  headed = ap from_header c.take_span_section.ensures.rest ∙ headed c.lines-lines.result ∙ sym c.take_span_section.ensures.rest;
}

pub loop-header-preserved : goal.loop-header-preserved
loop-header-preserved c = record {
  left_decides =
      skim_added c.args.file.now c.loop-header.skimmed c.skim_section.new.skimmed c.loop-header.lines c.pop.new.self c.take_span_section-body.result
      c.take_span_section-body.new.lines c.in-Some.header
      c.loop-header.invariant.headed c.in-Some.ensures c.take_span_section-body.ensures.section c.take_span_section-body.ensures.rest c.in_ok-skim_section.ensures
      ∙ c.loop-header.invariant.left_decides;
  headed = ap from_header c.take_span_section-body.ensures.rest ∙ headed c.pop.new.self ∙ sym c.take_span_section-body.ensures.rest;
}

pub returns : goal.returns
returns c =
    let first = c.new-skimmed.result in
    let skimmed = c.loop-header.skimmed in
    none_left c.args.file.now c.args.tokens.now first (record first { diagnostics = c.skim_orphans.new.diagnostics }) skimmed
    (record skimmed { diagnostics = c.add_cut.new.diagnostics })
    c.lines-lines.result c.take_span_section.result c.take_span_section.new.lines c.loop-header.lines c.dropped.result
    c.new-skimmed.ensures c.lines-lines.ensures c.take_span_section.ensures.section
    (ap (λ (d : List Diagnostic). record first { diagnostics = d }) c.in_ok-skim_orphans.ensures) c.take_span_section.ensures.rest
    c.loop-header.invariant.left_decides c.in_default.ensures.0 c.dropped.ensures
    (ap (λ (d : List Diagnostic). record skimmed { diagnostics = d }) c.in_ok-add_cut.ensures)

use Rattle.std.proofs.Common.{List, refl, sym, ap, ◌∙◌}
use Rattle.init_machine.specs.declared.diagnostic.Diagnostic.{Diagnostic}
use Rattle.rc_parse.specs.internal.Adding.{from_header}
use Rattle.rc_parse.proofs.Headers.{headed}
use Rattle.rc_parse.proofs.SectionList.{section_added, none_left, parsed_have}
use Rattle.rc_parse.proofs.sections.parse.Goals as goal

pub loop-header-init : goal.loop-header-init
loop-header-init c = record {
  left_decides = refl;
  headed = ap from_header c.take_section.ensures.rest ∙ headed c.lines-lines.result ∙ sym c.take_section.ensures.rest;
}

pub loop-header-preserved : goal.loop-header-preserved
loop-header-preserved c = record {
  left_decides =
      section_added c.args.file.now c.loop-header.parsed c.add_section.new.parsed c.loop-header.lines c.pop.new.self c.take_section-body.result
      c.take_section-body.new.lines c.in-Some.header
      c.loop-header.invariant.headed c.in-Some.ensures c.take_section-body.ensures.section c.take_section-body.ensures.rest c.in_ok-add_section.ensures
      ∙ c.loop-header.invariant.left_decides;
  headed = ap from_header c.take_section-body.ensures.rest ∙ headed c.pop.new.self ∙ sym c.take_section-body.ensures.rest;
}

pub returns-clause-sections : goal.returns-clause-sections
returns-clause-sections c =
    let first = c.new-parsed.result in
    let parsed = c.loop-header.parsed in
    none_left c.args.file.now c.args.tokens.now first (record first { diagnostics = c.add_orphans.new.diagnostics }) parsed
    (record parsed { diagnostics = c.add_cut.new.diagnostics })
    c.lines-lines.result c.take_section.result c.take_section.new.lines c.loop-header.lines c.dropped.result
    c.new-parsed.ensures c.lines-lines.ensures c.take_section.ensures.section
    (ap (λ (d : List Diagnostic). record first { diagnostics = d }) c.in_ok-add_orphans.ensures) c.take_section.ensures.rest
    c.loop-header.invariant.left_decides c.in_default.ensures.0 c.dropped.ensures
    (ap (λ (d : List Diagnostic). record parsed { diagnostics = d }) c.in_ok-add_cut.ensures)

pub returns-clause-commands : goal.returns-clause-commands
returns-clause-commands c = parsed_have c.args.file.now c.args.tokens.now (record c.loop-header.parsed { diagnostics = c.add_cut.new.diagnostics }) (returns-clause-sections c)

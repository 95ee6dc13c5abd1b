use Rattle.std.proofs.Common.{◌∙◌}
use Rattle.lint_sources.proofs.Loads.{build_files_read}
use Rattle.rc_import.proofs.Outcomes.{if_told, told}
use Rattle.lint_sources.proofs.loading.read_build_files.Goals as goal

pub returns-clause-props : goal.returns-clause-props
returns-clause-props g c =
    if_told _ _ (λ tree is. build_files_read tree c.in_ok-props.props c.in_ok-more.more _
    (told _ _ tree is c.in_ok-props.ensures.props)
    (told _ _ tree (c.in_ok-props.ensures.tree ∙ is) c.in_ok-more.ensures.props)
    c.in_ok-append.ensures.ok c.in_ok-append-2.ensures.ok)

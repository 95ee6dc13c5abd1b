use Rattle.std.proofs.Common.{◌∙◌}
use Rattle.rc_import.proofs.Outcomes.{err_is, if_told, told}
use Rattle.job_reader.specs.Stops.{GivesBuildFiles}
use Rattle.job_reader.proofs.TreeTexts.{build_files_read, unread_vendor}
use Rattle.job_reader.proofs.texts.read_build_files.Goals as goal

pub returns-in_err-more-clause-props : goal.returns-in_err-more-clause-props
returns-in_err-more-clause-props g c =
    if_told _ _ (λ tree is. err_is (GivesBuildFiles tree) _ _ c.from_residual-in_err-more.ensures
    (unread_vendor tree c.in_err-more.field-0.0 (told _ _ tree (c.in_ok-props.ensures.tree ∙ is) c.in_err-more.ensures.props)))

pub returns-clause-props : goal.returns-clause-props
returns-clause-props g c =
    if_told _ _ (λ tree is. build_files_read tree c.in_ok-props.props c.in_ok-more.more _
    (told _ _ tree is c.in_ok-props.ensures.props)
    (told _ _ tree (c.in_ok-props.ensures.tree ∙ is) c.in_ok-more.ensures.props)
    c.in_ok-append.ensures.ok c.in_ok-append-2.ensures.ok)

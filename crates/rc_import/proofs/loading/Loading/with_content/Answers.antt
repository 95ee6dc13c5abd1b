use Rattle.std.proofs.Common.{rules}
use Rattle.rc_import.proofs.Files.{content_reached}
use Rattle.rc_import.proofs.loading.Loading.with_content.Goals as goal

pub returns-clause-read : goal.returns-clause-read
returns-clause-read g c =
    content_reached g.G.Gathers.holds c.args.path.now c.args.content.now c.args.self c.in_ok-loading.loading c.saturating_add-bytes.result c.in_ok-loading.imports
    c.requires.short (λ fits. search rules) (search rules) c.in_ok-loading.ensures.stands c.in_ok-loading.ensures.imports

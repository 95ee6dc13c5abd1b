-- What is gathered of one file more.
use Rattle.std.proofs.Common.{◌≡◌, ℕ, List, ◌++◌, Option, sym, ap, ◌∙◌, subst}
use Rattle.init_machine.specs.declared.action.Action.{Action}
use Rattle.init_machine.specs.declared.service.ServiceDef.{ServiceDef}
use Rattle.rc_tokens.specs.Lines.{Line, Lines, Tokens}
use Rattle.rc_parse.specs.Files.{Reads}
use Rattle.rc_parse.specs.Kept.{kept}
use Rattle.rc_parse.specs.Sections.{Sections}
use Rattle.rc_parse.specs.declared.merging.Merger.{Merger}
use Rattle.rc_parse.specs.declared.parsed.Parsed.{Parsed}

pub gathered_one : (merger next : Merger) (found parsed : Parsed) (actions : List Action) (services : List ServiceDef) → found ≡ parsed
    → next.actions ≡ merger.actions ++ found.actions
    → ((read : List ServiceDef) → merger.services ≡ kept read → next.services ≡ kept (read ++ found.services))
    → (merger.actions ≡ actions) × (merger.services ≡ kept services)
    → (next.actions ≡ actions ++ parsed.actions) × (next.services ≡ kept (services ++ parsed.services))
gathered_one merger next found parsed actions services is added stays held = (
  added ∙ (λ i. held.0 i ++ (is i).actions),
  stays services held.1 ∙ ap (λ (p : Parsed). kept (services ++ p.services)) is,
)

-- the lines that were read are those of which a file's meaning speaks
pub same_sections : (path asked content : List ℕ) (tokens : Tokens) (parsed : Parsed) → asked ≡ content
    → ((lines : List Line) (dropped : Option ℕ) → Lines asked lines dropped → (tokens.lines ≡ lines) × (tokens.dropped ≡ dropped))
    → Reads path content parsed → Sections path tokens parsed
same_sections path asked content tokens parsed same only reads =
    let are = only reads.lines reads.dropped (subst (λ bytes. Lines bytes reads.lines reads.dropped) (sym same) reads.spelled) in
    let is : record { lines = reads.lines; dropped = reads.dropped } ≡ tokens = λ i. record { lines = sym are.0 i; dropped = sym are.1 i } in
    subst (λ t. Sections path t parsed) is reads.sections

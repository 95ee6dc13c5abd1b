-- A file has one meaning.
use Rattle.std.proofs.Common.{◌≡◌, ℕ, List, Option, sym, subst, ap, ◌∙◌}
use Rattle.init_machine.specs.declared.action.Action.{Action}
use Rattle.init_machine.specs.declared.diagnostic.Diagnostic.{Diagnostic}
use Rattle.init_machine.specs.declared.service.ServiceDef.{ServiceDef}
use Rattle.rc_tokens.specs.Lines.{Line, Tokens}
use Rattle.rc_tokens.proofs.Answer.{one_answer}
use Rattle.rc_parse.specs.Files.{Reads}
use Rattle.rc_parse.specs.Sections.{Sections}
use Rattle.rc_parse.specs.declared.parsed.Import.{Import}
use Rattle.rc_parse.specs.declared.parsed.Parsed.{Parsed}

abbrev parsed_of : List Action → List ServiceDef → List Import → List Diagnostic → Parsed
parsed_of actions services imports diagnostics =
    record { actions = actions; services = services; imports = imports; diagnostics = diagnostics }

same_parts : (a b : List Action) (s t : List ServiceDef) (i j : List Import) (d e : List Diagnostic)
    → a ≡ b → s ≡ t → i ≡ j → d ≡ e → parsed_of a s i d ≡ parsed_of b t j e
same_parts a b s t i j d e first second third last =
    ap (λ x. parsed_of x s i d) first ∙ ap (λ x. parsed_of b x i d) second ∙ ap (λ x. parsed_of b t x d) third ∙ ap (λ x. parsed_of b t j x) last

-- the sections of some lines are one thing
same_sections : (file : List ℕ) (tokens : Tokens) (one other : Parsed) → Sections file tokens one → Sections file tokens other → one ≡ other
same_sections file tokens one other first second =
    same_parts one.actions other.actions one.services other.services one.imports other.imports one.diagnostics other.diagnostics
    (first.actions_are ∙ sym second.actions_are) (first.services_are ∙ sym second.services_are)
    (first.imports_are ∙ sym second.imports_are) (first.diagnostics_are ∙ sym second.diagnostics_are)

abbrev tokens_of : List Line → Option ℕ → Tokens
tokens_of lines dropped = record { lines = lines; dropped = dropped }

same_tokens : (lines others : List Line) (dropped other : Option ℕ) → lines ≡ others → dropped ≡ other → tokens_of lines dropped ≡ tokens_of others other
same_tokens lines others dropped other first second =
    ap (λ x. tokens_of x dropped) first ∙ ap (λ x. tokens_of others x) second

pub same_reading : (file content : List ℕ) (one other : Parsed) → Reads file content one → Reads file content other → one ≡ other
same_reading file content one other first second =
    let lines = one_answer content first.lines second.lines first.dropped second.dropped first.spelled second.spelled in
    same_sections file (tokens_of second.lines second.dropped) one other
    (subst (λ tokens. Sections file tokens one)
    (same_tokens first.lines second.lines first.dropped second.dropped lines.0 lines.1) first.sections)
    second.sections

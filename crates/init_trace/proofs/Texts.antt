-- The text of a report, part by part.
use Rattle.std.proofs.Common.{◌≡◌, ℕ, ◌+◌, ◌<◌, List, length, get_or, drop, [], ◌∷◌, ◌++◌, map, append_assoc, refl, sym, ap, ◌∙◌}
use Rattle.std.specs.List.{flat_map}
use Rattle.std.proofs.lemmas.List.{at_drop_more}
use Rattle.std.proofs.lemmas.List.Concat.{flat_map-append}
use Rattle.init_machine.specs.declared.report.ClientPart.{ClientPart}
use Rattle.init_machine.specs.declared.report.Entry.{Entry}
use Rattle.init_trace.specs.Fields.{diagnostic_fields}
use Rattle.init_trace.specs.Law.{TextIsItsParts}
use Rattle.init_trace.specs.Line.{line_text, lines_text}
use Rattle.init_trace.specs.Report.{title_fields, end_fields, entry_lines, client_lines, clients_lines, EntriesText, EntryText, TailText, TextOf}

pub lines_text-append : (a b : List (List (List ℕ))) → lines_text (a ++ b) ≡ lines_text a ++ lines_text b
lines_text-append a b = flat_map-append line_text a b

entries_text : (entries : List Entry) → lines_text (flat_map entry_lines entries) ≡ EntriesText entries
entries_text [] = refl
entries_text (entry ∷ rest) =
    lines_text-append (entry_lines entry) (flat_map entry_lines rest) ∙ ap (λ t. EntryText entry ++ t) (entries_text rest)

pub text_parts : TextIsItsParts
unfolding TextOf
text_parts report =
    let a = title_fields ∷ map diagnostic_fields report.diagnostics in
    let b = flat_map entry_lines report.history in
    let c = clients_lines 1 report.clients in
    let d = end_fields ∷ [] in
    ap lines_text (append_assoc (a ++ b) c d ∙ append_assoc a b (c ++ d))
    ∙ lines_text-append a (b ++ (c ++ d))
    ∙ ap (λ t. lines_text a ++ t) (lines_text-append b (c ++ d) ∙ ap (λ t. t ++ lines_text (c ++ d)) (entries_text report.history))

-- the tail is the parts, and the last line
pub tail_parts : (parts : List ClientPart) → TailText parts ≡ lines_text (clients_lines 1 parts) ++ line_text end_fields
tail_parts parts = lines_text-append (clients_lines 1 parts) (end_fields ∷ [])

-- the parts that are left, at the part with this place
pub parts_at : (parts : List ClientPart) (i : ℕ) (part : ClientPart) → i < length parts → part ≡ get_or parts i part
    → lines_text (clients_lines (i + 1) (drop i parts)) ≡ lines_text (client_lines (i + 1) part) ++ lines_text (clients_lines (i + 1 + 1) (drop (i + 1) parts))
parts_at parts i part within is =
    let rest = clients_lines (i + 1 + 1) (drop (i + 1) parts) in
    at_drop_more (λ ps. lines_text (clients_lines (i + 1) ps)) parts i part within ∙ lines_text-append (client_lines (i + 1) (get_or parts i part)) rest
    ∙ ap (λ p. lines_text (client_lines (i + 1) p) ++ lines_text rest) (sym is)

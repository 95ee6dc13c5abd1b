-- Lines are read as they are written.
use Rattle.std.proofs.Common.{◌≡◌, ℕ, true, List, [], ◌∷◌, codes, Option, Some, None, refl, sym, ap, subst, ◌∙◌, inl, inr}
use Rattle.std.specs.Str.{bytes_eq}
use Rattle.init_machine.specs.declared.diagnostic.Diagnostic.{Diagnostic}
use Rattle.init_machine.specs.declared.input.Input.{Input}
use Rattle.init_machine.specs.declared.input.Input.TheVariants as input
use Rattle.init_machine.specs.declared.output.Output.{Output}
use Rattle.init_machine.specs.declared.report.Reading.{Reading}
use Rattle.init_machine.specs.declared.report.Reading.TheVariants as reading
use Rattle.init_machine.proofs.DistinctSums.{same_bytes}
use Rattle.init_trace.specs.Fields.{diagnostic_fields, head_fields, reading_fields}
use Rattle.init_trace.specs.Report.{client_fields, output_line, reading_line}
use Rattle.trace_reader.specs.Drafts.{client_part}
use Rattle.trace_reader.specs.Held.{DiagnosticIsHeld, Fits64, InputIsHeld, IsText, ReadingIsHeld}
use Rattle.trace_reader.specs.Lines.{diagnostic, diagnostic_of, head_of, inner_of, input_of, line_of, reading_of, told_inside}
use Rattle.trace_reader.specs.Outputs.{output_in, output_named}
use Rattle.trace_reader.specs.declared.line.Line.{Line}
use Rattle.trace_reader.specs.declared.line.Line.TheVariants as line
use Rattle.trace_reader.specs.declared.output_word.OutputWord.{OutputWord}
use Rattle.trace_reader.proofs.Choices.{if_some, map_some}
use Rattle.trace_reader.proofs.OutputsRead.{IsRead, OutputIsGood, output_complete, output_in_written, output_name, output_word_is}
use Rattle.trace_reader.proofs.Serials.{serial}
use Rattle.trace_reader.proofs.Spells.{IsWritten, by_four, by_lone, by_one, by_pair, by_three, by_two, four_complete, kind_spells, large, mapped, small, status, text, three_complete, two_complete, written_as}

-- ---- readings

abbrev ReadingIsWritten : List (List ℕ) → Reading → Type 0
ReadingIsWritten words r = IsWritten Reading reading_fields ReadingIsHeld words r

reading_sound : (word : List ℕ) (args : List (List ℕ)) (r : Reading) → reading_of word args ≡ Some r → ReadingIsWritten (word ∷ args) r
reading_sound word args r e = elim (if_some (bytes_eq word (codes "found")) _ _ r e) [
  | inl is ↦ named (codes "found") is.0 (by_three reading_fields ReadingIsHeld (codes "found") (λ name number value. reading.Found name number value) text large text (λ a b c h k l. (h, k, l)) (λ a b c. refl) args r is.1)
  | inr isnt ↦ elim (if_some (bytes_eq word (codes "absent")) _ _ r isnt.1) [
    | inl is ↦ named (codes "absent") is.0 (by_two reading_fields ReadingIsHeld (codes "absent") (λ name number. reading.Absent name number) text large (λ a b h k. (h, k)) (λ a b. refl) args r is.1)
    | inr isnt ↦ elim (if_some (bytes_eq word (codes "again")) _ _ r isnt.1) [
      | inl is ↦ named (codes "again") is.0 (by_four reading_fields ReadingIsHeld (codes "again") (λ name number first second. reading.Again name number first second) text large serial serial (λ a b c d h k l m. (h, k, l, m)) (λ a b c d. refl) args r is.1)
      | inr isnt ↦ elim (if_some (bytes_eq word (codes "synced")) _ _ r isnt.1) [
        | inl is ↦ named (codes "synced") is.0 (by_one reading_fields ReadingIsHeld (codes "synced") (λ number. reading.Synced number) large (λ a h. h) (λ a. refl) args r is.1)
        | inr isnt ↦ elim (if_some (bytes_eq word (codes "caught")) _ _ r isnt.1) [
          | inl is ↦ named (codes "caught") is.0 (by_one reading_fields ReadingIsHeld (codes "caught") (λ number. reading.Caught number) large (λ a h. h) (λ a. refl) args r is.1)
          | inr isnt ↦ let none = isnt.1 in cc
        ]
      ]
    ]
  ]
]
  where
    named : (key : List ℕ) → bytes_eq word key ≡ true → ReadingIsWritten (key ∷ args) r → ReadingIsWritten (word ∷ args) r
    named key is h = subst (λ w. ReadingIsWritten (w ∷ args) r) (sym (same_bytes word key is)) h

reading_complete : (r : Reading) → ReadingIsHeld r → inner_of (reading_fields r) ≡ Some (line.Reading r)
reading_complete (reading.Found name number value) h =
    mapped (λ reading. line.Reading reading) (three_complete (λ name number value. reading.Found name number value) text large text name number value h.0 h.1 h.2)
reading_complete (reading.Absent name number) h =
    mapped (λ reading. line.Reading reading) (two_complete (λ name number. reading.Absent name number) text large name number h.0 h.1)
reading_complete (reading.Again name number one other) h =
    mapped (λ reading. line.Reading reading)
    (four_complete (λ name number first second. reading.Again name number first second) text large serial serial name number one other h.0 h.1 h.2 h.3)
reading_complete (reading.Synced number) h = mapped (λ reading. line.Reading reading) (mapped (λ number. reading.Synced number) (large.complete number h))
reading_complete (reading.Caught number) h = mapped (λ reading. line.Reading reading) (mapped (λ number. reading.Caught number) (large.complete number h))

-- ---- lines that no space begins

abbrev InputIsWritten : List (List ℕ) → Input → Type 0
InputIsWritten words i = IsWritten Input head_fields InputIsHeld words i

input_sound : (word : List ℕ) (args : List (List ℕ)) (i : Input) → input_of word args ≡ Some i → InputIsWritten (word ∷ args) i
input_sound word args i e = elim (if_some (bytes_eq word (codes "next")) _ _ i e) [
  | inl is ↦ named (codes "next") is.0 (by_lone head_fields InputIsHeld (codes "next") input.Next tt refl args i is.1)
  | inr isnt ↦ elim (if_some (bytes_eq word (codes "set")) _ _ i isnt.1) [
    | inl is ↦ named (codes "set") is.0 (by_three head_fields InputIsHeld (codes "set") (λ who name value. input.Set (record { 0 = who }) name value) small text text (λ a b c h k l. (h, k, l)) (λ a b c. refl) args i is.1)
    | inr isnt ↦ elim (if_some (bytes_eq word (codes "tick")) _ _ i isnt.1) [
      | inl is ↦ named (codes "tick") is.0 (by_one head_fields InputIsHeld (codes "tick") (λ ms. input.Tick ms) large (λ a h. h) (λ a. refl) args i is.1)
      | inr isnt ↦ elim (if_some (bytes_eq word (codes "exit")) _ _ i isnt.1) [
        | inl is ↦ named (codes "exit") is.0 (by_two head_fields InputIsHeld (codes "exit") (λ name status. input.Exit name status) text status (λ a b h k. (h, k)) (λ a b. refl) args i is.1)
        | inr isnt ↦ elim (if_some (bytes_eq word (codes "file")) _ _ i isnt.1) [
          | inl is ↦ named (codes "file") is.0 (by_pair head_fields InputIsHeld (codes "file") (λ texts. input.File texts.0 texts.1) text text (λ a b h k. (h, k)) (λ a b. refl) args i is.1)
          | inr isnt ↦ elim (if_some (bytes_eq word (codes "boot")) _ _ i isnt.1) [
            | inl is ↦ named (codes "boot") is.0 (by_lone head_fields InputIsHeld (codes "boot") input.Boot tt refl args i is.1)
            | inr isnt ↦ let none = isnt.1 in cc
          ]
        ]
      ]
    ]
  ]
]
  where
    named : (key : List ℕ) → bytes_eq word key ≡ true → InputIsWritten (key ∷ args) i → InputIsWritten (word ∷ args) i
    named key is h = subst (λ w. InputIsWritten (w ∷ args) i) (sym (same_bytes word key is)) h

input_complete : (i : Input) → InputIsHeld i → line_of (head_fields i) ≡ Some (line.Head i)
input_complete input.Boot h = refl
input_complete input.Next h = refl
input_complete (input.Tick ms) h = mapped (λ input. line.Head input) (mapped (λ ms. input.Tick ms) (large.complete ms h))
input_complete (input.Exit name code) h =
    mapped (λ input. line.Head input) (two_complete (λ name status. input.Exit name status) text status name code h.0 h.1)
input_complete (input.File path content) h =
    mapped (λ input. line.Head input)
    (mapped (λ (texts : List ℕ × List ℕ). input.File texts.0 texts.1) (two_complete (λ (a : List ℕ) (b : List ℕ). (a, b)) text text path content h.0 h.1))
input_complete (input.Set who name value) h =
    mapped (λ input. line.Head input)
    (three_complete (λ who name value. input.Set (record { 0 = who }) name value) small text text who.0 name value h.0 h.1 h.2)

diagnostic_sound : (args : List (List ℕ)) (d : Diagnostic) → diagnostic_of args ≡ Some d → IsWritten Diagnostic diagnostic_fields DiagnosticIsHeld (codes "diag" ∷ args) d
diagnostic_sound = by_three diagnostic_fields DiagnosticIsHeld (codes "diag") diagnostic text small kind_spells (λ a b c h k l. (h, k)) (λ a b c. refl)

diagnostic_complete : (d : Diagnostic) → DiagnosticIsHeld d → line_of (diagnostic_fields d) ≡ Some (line.Diagnostic d)
diagnostic_complete d h =
    mapped (λ diagnostic. line.Diagnostic diagnostic) (three_complete diagnostic text small kind_spells d.file d.line d.kind h.0 h.1 tt)

-- ---- lines

-- the fields of a line that tells this
abbrev pub line_fields : Line → List (List ℕ)
line_fields (line.Diagnostic d) = diagnostic_fields d
line_fields (line.Head i) = head_fields i
line_fields (line.Output o) = output_line o
line_fields (line.Client id name domain) = client_fields id (client_part name domain [])
line_fields (line.Reading r) = reading_line r

abbrev pub LineIsGood : Line → Type 0
LineIsGood (line.Diagnostic d) = DiagnosticIsHeld d
LineIsGood (line.Head i) = InputIsHeld i
LineIsGood (line.Output o) = OutputIsGood o
LineIsGood (line.Client id name domain) = Fits64 id × IsText name × IsText domain
LineIsGood (line.Reading r) = ReadingIsHeld r

abbrev pub LineIsWritten : List (List ℕ) → Line → Type 0
LineIsWritten words l = IsWritten Line line_fields LineIsGood words l

inside_sound : (known : Option OutputWord) (word : List ℕ) (args : List (List ℕ)) (l : Line) → output_named word ≡ known → told_inside known word args ≡ Some l
    → LineIsWritten ([] ∷ word ∷ args) l
inside_sound (Some known) word args l e f =
    let m = map_some (λ output. line.Output output) (output_in known args) l f in
    let got = output_in_written known args m.0 m.1 in
    written_as line_fields LineIsGood ([] ∷ word ∷ args) (line.Output m.0) l m.2
    (ap (λ w. [] ∷ w ∷ args) (output_word_is word known e) ∙ ap (λ ws. [] ∷ ws) got.spelled) got.holds
inside_sound None word args l e f =
    let m = map_some (λ reading. line.Reading reading) (reading_of word args) l f in
    let got = reading_sound word args m.0 m.1 in
    written_as line_fields LineIsGood ([] ∷ word ∷ args) (line.Reading m.0) l m.2 (ap (λ ws. [] ∷ ws) got.spelled) got.holds

inner_sound : (args : List (List ℕ)) (l : Line) → inner_of args ≡ Some l → LineIsWritten ([] ∷ args) l
inner_sound [] l e = cc
inner_sound (word ∷ args) l e = inside_sound (output_named word) word args l refl e

head_sound : (word : List ℕ) (args : List (List ℕ)) (l : Line) → head_of word args ≡ Some l → LineIsWritten (word ∷ args) l
head_sound word args l e = elim (if_some (bytes_eq word (codes "diag")) _ _ l e) [
  | inl is ↦
      let m = map_some (λ diagnostic. line.Diagnostic diagnostic) (diagnostic_of args) l is.1 in
      let got = diagnostic_sound args m.0 m.1 in
      named (codes "diag") is.0 (written_as line_fields LineIsGood (codes "diag" ∷ args) (line.Diagnostic m.0) l m.2 got.spelled got.holds)
  | inr isnt ↦ elim (if_some (bytes_eq word (codes "client")) _ _ l isnt.1) [
    | inl is ↦ named (codes "client") is.0 (by_three line_fields LineIsGood (codes "client") (λ id name domain. line.Client id name domain) large text text (λ a b c h k m. (h, k, m)) (λ a b c. refl) args l is.1)
    | inr isnt ↦
        let m = map_some (λ input. line.Head input) (input_of word args) l isnt.1 in
        let got = input_sound word args m.0 m.1 in
        written_as line_fields LineIsGood (word ∷ args) (line.Head m.0) l m.2 got.spelled got.holds
  ]
]
  where
    named : (key : List ℕ) → bytes_eq word key ≡ true → LineIsWritten (key ∷ args) l → LineIsWritten (word ∷ args) l
    named key is h = subst (λ w. LineIsWritten (w ∷ args) l) (sym (same_bytes word key is)) h

-- what is read of a line was written in it
pub line_sound : (words : List (List ℕ)) (l : Line) → line_of words ≡ Some l → LineIsWritten words l
line_sound [] l e = cc
line_sound ([] ∷ args) l e = inner_sound args l e
line_sound ((byte ∷ word) ∷ args) l e = head_sound (byte ∷ word) args l e

output_line_complete : (o : Output) (read : IsRead o) → line_of (output_line o) ≡ Some (line.Output o)
output_line_complete o read =
    ap inner_of read.fields
    ∙ ap (λ known. told_inside known (output_name read.kind) read.args) read.named
    ∙ mapped (λ output. line.Output output) read.told

-- what is written in a line is read of it
pub line_complete : (l : Line) → LineIsGood l → line_of (line_fields l) ≡ Some l
line_complete (line.Diagnostic d) h = diagnostic_complete d h
line_complete (line.Head i) h = input_complete i h
line_complete (line.Output o) h = output_line_complete o (output_complete o h)
line_complete (line.Client id name domain) h =
    three_complete (λ id name domain. line.Client id name domain) large text text id name domain h.0 h.1 h.2
line_complete (line.Reading r) h = reading_complete r h

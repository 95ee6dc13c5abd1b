-- From the steps of a read to what it answers.
use Rattle.std.proofs.Common.{◌≡◌, ℕ, suc, List, ◌∷◌, Contains, max, Some, None, sym, refl, ap, ◌∙◌, subst, arith}
use Rattle.std.proofs.Math.Nat.{le-max_left}
use Rattle.atomic_table.specs.Seated.{TableId}
use Rattle.init_machine.specs.Orderly.{seen_again}
use Rattle.init_machine.specs.declared.report.Reading.{Reading}
use Rattle.init_machine.specs.declared.report.Reading.TheVariants.{Found, Absent, Again}
use Rattle.serial_value.specs.declared.view.CellView.{CellView}
use Rattle.serial_value.specs.declared.view.CellView.TheVariants.{Reader}
use Rattle.serial_value.specs.declared.read.CellAnswer.TheVariants.{Found as CellFound, Again as CellAgain}
use Rattle.serial_value.specs.Cell.{Answers}
use Rattle.property_trie.specs.TrieSteps.{Finds, Lacks, IsAtRest}
use Rattle.property_area.specs.declared.view.AreaView.{AreaView}
use Rattle.property_area.specs.declared.reader.ReadAnswer.{ReadAnswer}
use Rattle.property_area.specs.declared.reader.ReadAnswer.TheVariants.{Found as AnswerFound, Absent as AnswerAbsent, Again as AnswerAgain}
use Rattle.property_area.specs.Area.{with_cell, with_trie, noted}
use Rattle.property_area.specs.Seats.{IsReaderView, KnowsStill}
use Rattle.property_area.specs.Readers.{seen_by, seen_in, Hears, Reads}

hears : (v w after : AreaView) (reading : Reading) (seen : ℕ) → w ≡ with_trie v w.trie → after ≡ noted (with_cell w (Reader seen None)) reading → Hears v reading seen after
hears v w after reading seen f e =
    e ∙ (λ i. noted (with_cell (f i) (Reader seen None)) reading)
    ∙ (λ i. with_trie (noted (with_cell v (Reader seen None)) reading) (sym (ap (λ (x : AreaView). x.trie) e) i))

module _ (table : TableId) (v : AreaView) (number : ℕ) (h : IsReaderView table v number) (name : List ℕ) where
  -- what a read owes: its answer, that the seat rests, and that it knows the cells that it knew
  abbrev pub Owed : ReadAnswer → List ℕ → List ℕ → AreaView → Type 0
  Owed answer before out after = Reads v name answer before out after × IsReaderView table after (seen_in answer) × KnowsStill v after

  -- the seat has found another cell
  knows_more : (after : AreaView) (place : ℕ) → after.trie.known ≡ (name, place) ∷ v.trie.known → KnowsStill v after
  knows_more after place is = record {
    cells = λ q at t. subst (λ (k : List (List ℕ × ℕ)). Contains k (q, at)) (sym is) (suc t.0, (let low = t.1 in omega arith), t.2);
  }

  seat_after : (after : AreaView) (reading : Reading) (seen : ℕ) → Hears v reading seen after → IsAtRest after.trie → IsReaderView table after seen
  seat_after after reading seen heard rests = record {
    reads = ap (λ (x : AreaView). x.cell) heard;
    rests = rests;
    wide = ap (λ (x : AreaView). x.words) heard ∙ h.wide;
  }

  own : seen_by v.cell ≡ number
  own = ap seen_by h.reads

  -- with the cell's part that it has
  same_view : v ≡ with_cell v (Reader number None)
  same_view = λ i. with_cell v (h.reads i)

  pub reads_absent : (out : List ℕ) (after : AreaView) → Finds with_trie noted v.words v.cell v.trie v name None after → Owed (AnswerAbsent number) out out after
  reads_absent out after f =
      let told : after ≡ noted v (Absent name number) = subst (λ (c : CellView). Lacks with_trie noted c v name after) h.reads f in
      let heard = hears v v after (Absent name number) number refl (told ∙ (λ i. noted (same_view i) (Absent name number))) in (
        (sym own, refl, heard),
        seat_after after (Absent name number) number heard (subst IsAtRest (sym (ap (λ (x : AreaView). x.trie) told)) h.rests),
        record { cells = λ q at t. subst (λ (k : List (List ℕ × ℕ)). Contains k (q, at)) (sym (ap (λ (x : AreaView). x.trie.known) told)) t },
      )

  module _ (place : ℕ) (w : AreaView) (f : Finds with_trie noted v.words v.cell v.trie v name (Some place) w) where
    -- what the walk left
    walked : w ≡ with_trie v w.trie
    walked = f.2 ∙ (λ i. with_trie v (sym f.2 i).trie)

    rests : IsAtRest w.trie
    rests = subst IsAtRest (sym (ap (λ (x : AreaView). x.trie) f.2)) record { live = h.rests.live; no_trail = refl; no_adding = h.rests.no_adding }

    cell : w.cell ≡ Reader number None
    cell = ap (λ (x : AreaView). x.cell) f.2 ∙ h.reads

    rests_after : (after : AreaView) (reading : Reading) (seen : ℕ) → after ≡ noted (with_cell w (Reader seen None)) reading → IsAtRest after.trie
    rests_after after reading seen e = subst IsAtRest (sym (ap (λ (x : AreaView). x.trie) e)) rests

    known_after : (after : AreaView) (reading : Reading) (seen : ℕ) → after ≡ noted (with_cell w (Reader seen None)) reading → after.trie.known ≡ (name, place) ∷ v.trie.known
    known_after after reading seen e = ap (λ (x : AreaView). x.trie.known) e ∙ ap (λ (x : AreaView). x.trie.known) f.2

    pub reads_found : (len value_number : ℕ) (before out : List ℕ) (after : AreaView) → Answers with_cell noted w.cell w name (CellFound len value_number) before out after
        → Owed (AnswerFound len (max number value_number)) before out after
    reads_found len value_number before out after answer =
        let a = subst (λ (c : CellView). Answers with_cell noted c w name (CellFound len value_number) before out after) cell answer in
        let seen : ℕ = max number value_number in
        let reading : Reading = Found name seen a.0 in
        let heard = hears v w after reading seen walked a.5 in
        let low = le-max_left number value_number in
        let was = own in (
          (a.0, a.1, a.2, a.3, a.4, omega arith, heard),
          seat_after after reading seen heard (rests_after after reading seen a.5),
          knows_more after place (known_after after reading seen a.5),
        )

    pub reads_again : (first second : ℕ) (before out : List ℕ) (after : AreaView) → Answers with_cell noted w.cell w name (CellAgain first second) before out after
        → Owed (AnswerAgain number first second) before out after
    reads_again first second before out after answer =
        let a = subst (λ (c : CellView). Answers with_cell noted c w name (CellAgain first second) before out after) cell answer in
        let seen : ℕ = seen_again number second in
        let reading : Reading = Again name number first second in
        let heard = hears v w after reading seen walked a.2 in (
          (sym own, a.0, a.1, heard),
          seat_after after reading seen heard (rests_after after reading seen a.2),
          knows_more after place (known_after after reading seen a.2),
        )

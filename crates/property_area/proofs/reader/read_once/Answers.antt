use Rattle.std.proofs.Common.{ℕ, Option, sym, subst}
use Rattle.property_trie.specs.TrieSteps.{Finds}
use Rattle.property_area.specs.declared.reader.ReadAnswer.TheVariants.{Found}
use Rattle.property_area.specs.Area.{with_trie, noted}
use Rattle.property_area.proofs.Hearing.{Owed, reads_found, reads_again}
use Rattle.property_area.proofs.reader.read_once.Goals as goal

pub returns-in-Found-clause-told : goal.returns-in-Found-clause-told
returns-in-Found-clause-told c =
    let v = c.args.seat.now.me.0 in
    let w = c.find.new.seat.me.0 in
    let name = c.args.name.bytes.now in
    let out = c.read_cell.new.out in
    let after = c.read_cell.new.seat.me.0 in
    subst (λ (k : ℕ). Owed c.args.seat.now.table_id v c.args.number c.requires.reader.2 name (Found c.in-Found.len k) c.args.out.now out after) (sym c.max.ensures)
    (reads_found c.args.seat.now.table_id v c.args.number c.requires.reader.2 name c.in-Some.at w
    (subst (λ (o : Option ℕ). Finds with_trie noted v.words v.cell v.trie v name o w) c.in-Some.is c.find.ensures.found)
    c.in-Found.len c.in-Found.own c.args.out.now out after c.in-Found.ensures.answer)

pub returns-in-Again-clause-told : goal.returns-in-Again-clause-told
returns-in-Again-clause-told c =
    let v = c.args.seat.now.me.0 in
    let w = c.find.new.seat.me.0 in
    let name = c.args.name.bytes.now in
    reads_again c.args.seat.now.table_id v c.args.number c.requires.reader.2 name c.in-Some.at w
    (subst (λ (o : Option ℕ). Finds with_trie noted v.words v.cell v.trie v name o w) c.in-Some.is c.find.ensures.found)
    c.in-Again.first c.in-Again.second c.args.out.now c.read_cell.new.out c.read_cell.new.seat.me.0 c.in-Again.ensures.answer

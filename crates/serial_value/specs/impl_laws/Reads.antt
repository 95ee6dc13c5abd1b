-- The loads of a reader: what each finds of a name that has a cell, and that the reader's view goes on being as it should.
use Rattle.std.proofs.Common.{◌≡◌, ◌≢◌, ℕ, ◌+◌, ◌/◌, ◌<◌, ◌≤◌, List, [], ◌∷◌, ◌++◌, length, get_or, max, Option, Some, None, Bool, true, false, sym, refl, ap, ◌∙◌, subst, inr, ⊎_elim, arith, length-append}
use mathlib.Core.Option.{some}
use mathlib.Core.Logic.{dite}
use native.Mathlib.Decide.{ℕ_discrete, dec_le}
use lib.ListN.{get_elem?}
use Rattle.std.specs.Prelude.{if◌then◌else◌}
use Rattle.std.proofs.Math.Nat.{le-max_left, le-max_right, max-le}
use Rattle.std.proofs.Math.Seq.{get_or-append_seam}
use Rattle.std.proofs.lemmas.Bool.{cases_Bool}
use Rattle.std.proofs.lemmas.List.{get_or_append_left}
use Rattle.init_base.specs.Value.{max_value_len}
use Rattle.init_machine.specs.Serial.{top_byte, dirty_serial, top_in, number_in, rank, is_dirty}
use Rattle.init_machine.specs.Sets.{Set, Numbered, LaterSet, LastSet}
use Rattle.init_machine.specs.Facts.{IsSerialOf}
use Rattle.init_machine.specs.Orderly.{seen_again, seen_after}
use Rattle.init_machine.specs.declared.report.Reading.{Reading}
use Rattle.init_machine.specs.declared.report.Reading.TheVariants.{Found, Again}
use Rattle.init_machine.specs.declared.client.ClientItem.{ClientItem}
use Rattle.init_machine.specs.declared.client.ClientItem.TheVariants.{Told}
use Rattle.serial_value.specs.declared.view.Copying.{Copying}
use Rattle.serial_value.specs.declared.view.CellView.{CellView}
use Rattle.serial_value.specs.declared.view.CellView.TheVariants.{Reader}
use Rattle.serial_value.specs.Words.{body_size, body_word, IsValue, HasWords}
use Rattle.serial_value.specs.Cell.{HasValue, copy_size, IsLongLength, Ends}
use Rattle.serial_value.specs.World.{World, CopyHolds, ReaderHolds}
use Rattle.serial_value.specs.impl_laws.Serials.{same_serial, dirtied}
use Rattle.serial_value.specs.impl_laws.Places.{at_below}
use Rattle.serial_value.specs.impl_laws.Bodies.{long_size, length_word, long_by_top, next_in_body, whole_body}
use Rattle.serial_value.specs.impl_laws.Sets.{numbered_within, numbered_once, at_last_set}
use Rattle.serial_value.specs.impl_laws.Lists.{MayTell, tells, seen_through-end}

-- What is known of the present serial of a name that has a cell.
pub record IsPresent (w : World) (name : List ℕ) : Type 0 where
  pub number : ℕ
  pub value : List ℕ
  pub last : LastSet w.sets (length w.sets) name number value
  pub legal : IsValue value
  pub fits : length value ≤ max_value_len name
  pub number_is : number_in (w.serial name) ≡ number
  pub top_is : top_in (w.serial name) ≡ top_byte value
  pub made : is_dirty (w.serial name) ≡ true → w.making ≡ Some name

module _ (w : World) (name : List ℕ) (p : IsPresent w name) where
  -- the present serial is one of the name
  pub present_serial : IsSerialOf w.sets w.making name (w.serial name)
  present_serial = record {
    value = p.value;
    numbered = subst (λ (n : ℕ). Numbered w.sets n name p.value) (sym p.number_is) p.last.numbered;
    top_is = p.top_is;
    later = λ dirty. inr (p.made dirty);
  }

  pub has_value : HasValue w.sets name p.value
  has_value = at_last_set w.sets (length w.sets) (omega arith) name p.number p.value p.last

  present_within : number_in (w.serial name) ≤ length w.sets
  present_within = let e = p.number_is in let n = numbered_within w.sets p.number name p.value p.last.numbered in omega arith

-- two serials of one name, of one rank, are one
same_rank : (sets : List Set) (making : Option (List ℕ)) (name : List ℕ) (v w : ℕ) → IsSerialOf sets making name v → IsSerialOf sets making name w → rank v ≡ rank w → v ≡ w
same_rank sets making name v w is is' ranks =
    let numbers : number_in v ≡ number_in w = ap (λ (n : ℕ). n / 2) ranks in
    let values = numbered_once sets (number_in w) name is.value is'.value (subst (λ (n : ℕ). Numbered sets n name is.value) numbers is.numbered) is'.numbered in
    same_serial v w (is.top_is ∙ (ap top_byte values ∙ sym is'.top_is)) ranks

-- one word more
longer : (words : List ℕ) (word n : ℕ) (value : List ℕ) → length words ≡ n → HasWords words n value → word ≡ body_word value n → HasWords (words ++ word ∷ []) (n + 1) value
longer words word n value is old new k small = dite (ℕ_discrete k n)
    (λ e. subst (λ (j : ℕ). get_or (words ++ word ∷ []) j 0 ≡ body_word value j) (is ∙ sym e) (get_or-append_seam words word [] 0 ∙ (new ∙ ap (body_word value) (sym is))))
    (λ other. get_or_append_left words (word ∷ []) 0 k (omega arith) ∙ old k (omega arith))

module _ (w : World) (number : ℕ) (began : List Set) (list : List ClientItem) where
  -- the first serial is loaded
  pub reader_begins : (copying : Option Copying) (name : List ℕ) (place : ℕ) → IsPresent w name → ReaderHolds w number copying began list
      → ReaderHolds w number (Some (record { name = name; place = place; first = w.serial name; words = [] })) began list
  reader_begins copying name place p r = record {
    early = r.early;
    holds = r.holds;
    seen = r.seen;
    copy = record {
      serial = present_serial w name p;
      below = omega arith;
      above = r.holds.met name;
      whole = λ same value at k small. absurd (omega arith);
      moved = λ other. absurd (other refl);
      lasting = λ top. refl;
    };
  }

  module _ (copying : Copying) (r : ReaderHolds w number (Some copying) began list) where
    abbrev c : CopyHolds w number list copying
    c = r.copy

    -- a word is copied: where the serial hasn't moved, it is the value's
    pub reader_copies : (word : ℕ)
        → (w.serial copying.name ≡ copying.first → (value : List ℕ) → HasValue w.sets copying.name value → word ≡ body_word value (length copying.words))
        → ReaderHolds w number (Some (record copying { words = copying.words ++ word ∷ [] })) began list
    reader_copies word right = record {
      early = r.early;
      holds = r.holds;
      seen = r.seen;
      copy = record {
        serial = c.serial;
        below = c.below;
        above = c.above;
        whole = λ same value at.
            subst (λ (j : ℕ). HasWords (copying.words ++ word ∷ []) j value) (sym (length-append copying.words (word ∷ [])))
            (longer copying.words word (length copying.words) value refl (c.whole same value at) (right same value at));
        moved = c.moved;
        lasting = c.lasting;
      };
    }

    module _ (p : IsPresent w copying.name) where
      abbrev word : ℕ
      word = w.serial copying.name

      noted_reader : (reading : Reading) → MayTell w began list reading → ReaderHolds w (seen_after reading) None began (list ++ Told reading ∷ [])
      noted_reader reading may = record {
        early = may.seen;
        holds = tells w began list r.holds reading may;
        seen = let e = seen_through-end (length began) list (Told reading) in omega arith;
        copy = tt;
      }

      -- where the serial has not moved, the value is Found
      finds : MayTell w began list (Found copying.name (max number (number_in word)) p.value)
      finds = record {
        stands = (
          seen_within,
          at_last_set w.sets seen seen_within copying.name p.number p.value record {
            numbered = p.last.numbered;
            early = let e = p.number_is in let m = le-max_right number (number_in word) in omega arith;
            last = λ k v low high. p.last.last k v low (let s = seen_within in omega arith);
          },
        );
        after = let a = r.seen in let m = le-max_left number (number_in word) in omega arith;
        seen = seen_within;
        again = λ name n first second e. absurd (cc);
      }
        where
          seen : ℕ
          seen = max number (number_in word)

          seen_within : max number (number_in word) ≤ length w.sets
          seen_within = max-le r.early (present_within w copying.name p)

      -- where it has moved, a write was met
      meets : word ≢ copying.first → MayTell w began list (Again copying.name number copying.first word)
      meets moved = record {
        stands = record {
          early = r.early;
          first_is = c.serial;
          second_is = present_serial w copying.name p;
          rises = higher;
          clean = λ clean. ⊎_elim
              (λ (later : LaterSet w.sets copying.name number). above_number later)
              (λ (t : (word ≡ dirty_serial copying.first) × (is_dirty copying.first ≡ false)). let d = dirtied copying.first t.1 in let e = ap is_dirty t.0 in absurd (cc))
              (c.moved moved);
          dirty = λ dirty k v low high. p.last.last k v (let e = p.number_is in omega arith) (let e = r.early in omega arith);
        };
        after = r.seen;
        seen = seen_within;
        again = λ name n first second e.
            let second_is : second ≡ word = cc in
            let ranks = ap rank second_is in
            let name_is : copying.name ≡ name = cc in (
              (let n = ap (λ (q : List ℕ). rank (w.serial q)) name_is in omega arith),
              λ i n' first' second' old.
                  let a = c.above i n' first' second' (subst (λ (q : List ℕ). get_elem? list i ≡ some (Told (Again q n' first' second'))) (sym name_is) old) in
                  let b = higher in omega arith,
            );
      }
        where
          higher : rank copying.first < rank word
          higher = dite (ℕ_discrete (rank copying.first) (rank word))
              (λ same. absurd (moved (sym (same_rank w.sets w.making copying.name copying.first word c.serial (present_serial w copying.name p) same))))
              (λ other. let b = c.below in omega arith)

          above_number : LaterSet w.sets copying.name number → number < number_in word
          above_number later = dite (dec_le (number_in word) later.0)
              (λ (low : number_in word ≤ later.0). absurd (p.last.last later.0 later.1 (let e = p.number_is in omega arith) (at_below w.sets later.0 (copying.name, later.1) later.3) later.3))
              (λ high. let l = later.2 in omega arith)

          seen_within : seen_again number word ≤ length w.sets
          seen_within = ⊎_elim
              (λ (t : is_dirty word ≡ true). subst (λ (b : Bool). (if b then number else (max number (number_in word))) ≤ length w.sets) (sym t) r.early)
              (λ (t : is_dirty word ≡ false). subst (λ (b : Bool). (if b then number else (max number (number_in word))) ≤ length w.sets) (sym t)
              (max-le r.early (present_within w copying.name p)))
              (cases_Bool (is_dirty word))

      abbrev MayEnd : {V : Type 0} → (V → CellView → V) → (V → Reading → V) → V → Type 0
      MayEnd with_cell noted v = (seen : ℕ) × (reading : Reading)
          × ReaderHolds w seen None began (list ++ Told reading ∷ [])
          × Ends with_cell noted (Reader number (Some copying)) v copying.name word (noted (with_cell v (Reader seen None)) reading)

      -- the present serial is the one that was loaded: the next word is one of the value's body
      pub reads_next : word ≡ copying.first → length copying.words < copy_size copying.first copying.words → length copying.words < body_size p.value
      reads_next same less = next_in_body copying.first copying.words p.value (ap top_in (sym same) ∙ p.top_is) (c.whole same p.value (has_value w copying.name p)) less

      -- the first word of a long cell is the length
      pub reads_length : (words place n : ℕ) → place + 1 + body_size p.value ≤ words → top_in copying.first ≡ 255
          → (word ≡ copying.first → n ≡ body_word p.value 0) → IsLongLength words copying.name place n
      reads_length words place n inside top right =
          let same = c.lasting top in
          let long = long_by_top p.value (sym p.top_is ∙ (ap top_in same ∙ top)) in
          let size = long_size p.value long in
          let is : n ≡ length p.value = right same ∙ length_word p.value long in
          subst (λ (m : ℕ). IsLongLength words copying.name place m) (sym is) (record { long = long; fits = p.fits; inside = omega arith })

      -- the last serial is loaded, once all words are copied
      pub reader_ends : {V : Type 0} (with_cell : V → CellView → V) (noted : V → Reading → V) (v : V)
          → length copying.words ≡ copy_size copying.first copying.words → MayEnd with_cell noted v
      reader_ends with_cell noted v copied = dite (ℕ_discrete word copying.first)
          (λ same. let seen = max number (number_in word) in (
            seen,
            Found copying.name seen p.value,
            noted_reader (Found copying.name seen p.value) finds,
            (
              (λ _.
                  let has = c.whole same p.value (has_value w copying.name p) in
                  let size = whole_body copying.first copying.words p.value (ap top_in (sym same) ∙ p.top_is) has copied in
                  (p.value, p.legal, p.fits, subst (λ (j : ℕ). HasWords copying.words j p.value) size has, p.top_is, refl)),
              (λ other. absurd (other same)),
              c.lasting,
            ),
          ))
          (λ other. (
            seen_again number word,
            Again copying.name number copying.first word,
            noted_reader (Again copying.name number copying.first word) (meets other),
            (
              (λ same. absurd (other same)),
              (λ _. refl),
              c.lasting,
            ),
          ))

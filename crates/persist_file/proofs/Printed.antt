-- What is printed is a text of the pairs.
use Rattle.std.proofs.Common.{◌≡◌, ℕ, zero, suc, ◌<◌, Bool, true, false, ◌==◌, ◌||◌, inl, inr, List, [], ◌∷◌, length, map, get_or, refl, ap, sym, ◌∙◌, IsTrue, arith}
use Rattle.std.specs.List.{list_all}
use Rattle.std.proofs.lemmas.Bool.{and_parts}
use Rattle.init_base.specs.Name.{is_legal_name}
use Rattle.init_machine.specs.Policy.{PolicyLines, context_of}
use Rattle.init_machine.specs.Typed.{is_typed}
use Rattle.init_machine.specs.declared.config.Pair.{Pair}
use Rattle.init_machine.specs.declared.type_kind.TypeKind.{TypeKind}
use Rattle.init_machine.specs.declared.type_kind.TypeKind.TheVariants as type
use Rattle.persist_file.specs.Store.{are_saved, are_typed, entry_under, is_fit, is_saved, kind_under, pairs_of, passes, saved_kind, store_text, text_of, IsStore, IsTextUnder}
use Rattle.persist_file.specs.declared.version.Version.TheVariants.{Second}
use Rattle.persist_file.proofs.Determined.{store_read}
use Rattle.persist_file.proofs.Values.{join}
use Rattle.persist_file.proofs.Whole.{all_saved}
use Rattle.persist_file.proofs.Written.{saved_parts}

any_passes : (value : List ℕ) → is_typed type.Any value ≡ true
unfolding is_typed
any_passes [] = refl
any_passes (b ∷ value) = by (length (b ∷ value) == 0)
  where
    by : (none : Bool) → (none || true) ≡ true
    by true = refl
    by false = refl

-- a value that passes a type passes it as the store spells it
pub passes_saved : (kind : TypeKind) (value : List ℕ) → is_typed kind value ≡ true → passes (saved_kind kind) value ≡ true
passes_saved type.Any value h = h
passes_saved type.Bool value h = h
passes_saved type.Int value h = h
passes_saved type.Uint value h = h
passes_saved (type.Enum values) value h = any_passes value

all_fit : (policy : PolicyLines) (pairs : List Pair) → are_typed policy pairs ≡ true → list_all (is_fit Second) (map (entry_under policy) pairs) ≡ true
all_fit policy [] h = refl
all_fit policy (p ∷ pairs) h =
    let parts = and_parts (is_typed (context_of policy p.name).kind p.value) (are_typed policy pairs) h in
    join (passes (kind_under policy p.name) p.value) (list_all (is_fit Second) (map (entry_under policy) pairs)) (passes_saved (context_of policy p.name).kind p.value parts.0) (all_fit policy pairs parts.1)

pub same_pairs : (policy : PolicyLines) (pairs : List Pair) → pairs_of (map (entry_under policy) pairs) ≡ pairs
same_pairs policy [] = refl
same_pairs policy (p ∷ pairs) = ap (λ ps. p ∷ ps) (same_pairs policy pairs)

pub read_back : (policy : PolicyLines) (pairs : List Pair) → IsTrue (are_saved pairs) → IsTrue (are_typed policy pairs) → IsStore (store_text policy pairs) pairs
read_back policy pairs saved typed = inr (record {
  version = Second;
  entries = map (entry_under policy) pairs;
  are_fit = join (are_saved (pairs_of (map (entry_under policy) pairs))) (list_all (is_fit Second) (map (entry_under policy) pairs)) (ap are_saved (same_pairs policy pairs) ∙ saved) (all_fit policy pairs typed);
  are = sym (same_pairs policy pairs);
  text = refl;
})

pub printed : (policy : PolicyLines) (bytes : List ℕ) (pairs others : List Pair) → IsTextUnder policy bytes others → IsStore bytes pairs → store_text policy pairs ≡ bytes
printed policy bytes pairs others under store =
    let text : IsStore bytes others = inr (record { version = Second; entries = under.entries; are_fit = under.are_fit; are = under.are; text = under.text }) in
    let same : pairs ≡ others = cc (sym (store_read bytes pairs store) ∙ store_read bytes others text) in
    ap (store_text policy) (same ∙ under.are) ∙ ap (text_of Second) (sym under.types) ∙ sym under.text

pub stored_are_saved : (bytes : List ℕ) (pairs : List Pair) → IsStore bytes pairs → IsTrue (are_saved pairs)
stored_are_saved bytes pairs (inl (none, no_pairs)) = ap are_saved no_pairs
stored_are_saved bytes pairs (inr text) = ap are_saved text.are ∙ (and_parts (are_saved (pairs_of text.entries)) (list_all (is_fit text.version) text.entries) text.are_fit).0

-- the name of a pair that may be saved is legal
legal_at : (pairs : List Pair) (at : ℕ) (d : Pair) → at < length pairs → list_all is_saved pairs ≡ true → is_legal_name (get_or pairs at d).name ≡ true
legal_at [] at d inside all = absurd (omega (arith, inside))
legal_at (p ∷ pairs) zero d inside all = (saved_parts p (and_parts (is_saved p) (list_all is_saved pairs) all).0).name
legal_at (p ∷ pairs) (suc at) d inside all = legal_at pairs at d (omega (arith, inside)) (and_parts (is_saved p) (list_all is_saved pairs) all).1

pub name_legal : (pairs : List Pair) (at : ℕ) (d : Pair) → at < length pairs → IsTrue (are_saved pairs) → is_legal_name (get_or pairs at d).name ≡ true
name_legal pairs at d inside h = legal_at pairs at d inside (all_saved pairs h)

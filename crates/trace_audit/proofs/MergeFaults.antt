-- Where the inputs of a history first are no merging's.
use Rattle.std.proofs.Common.{◌≡◌, ◌≢◌, ◌+◌, ℕ, suc, List, [], ◌∷◌, ◌++◌, length, filter, All, Option, Some, None, MatchOption, is_some, true, refl, sym, ap, ◌∙◌, subst, arith, append_assoc}
use Rattle.std.proofs.lemmas.List.{append-nil, length-append}
use Rattle.std.specs.List.{filter_map, flat_map}
use Rattle.init_machine.specs.History.{inputs_of}
use Rattle.init_machine.specs.declared.config.Pair.{Pair}
use Rattle.init_machine.specs.declared.input.Input.{Input}
use Rattle.init_machine.specs.declared.input.Input.TheVariants as input
use Rattle.init_machine.specs.declared.report.Entry.{Entry}
use Rattle.script_lang.specs.Inputs.{Parts, act_inputs}
use Rattle.script_lang.specs.Laws.{IsAskAmong, set_by}
use Rattle.script_lang.specs.Merges.{BeginsMerging, IsMerging, Merges, is_main}
use Rattle.script_lang.specs.declared.script.Script.{Script}
use Rattle.trace_audit.specs.Audited.{EndsEarly, StraysAt}
use Rattle.trace_audit.specs.Progress.{IsOver, Left, Refuses, Takes, first_left, left_of}
use Rattle.trace_audit.proofs.FirstLeft.{first_fills}
use Rattle.trace_audit.proofs.Options.{match_none, match_some, none_is}
use Rattle.trace_audit.specs.Taken.{Fills, Goes, HasMerged, IsAmid}
use Rattle.trace_audit.specs.declared.merge.Merge.{Merge}
use Rattle.trace_audit.proofs.Merging.{fills_after, fills_behind, fills_left, fills_next, merging_of, none_over, rest_of_merging, takes_more}

abbrev AreMet : Script → Type 0
AreMet script = All (IsAskAmong (length script.clients)) script.acts

none_begins : (script : Script) → AreMet script → BeginsMerging [] (Parts script)
none_begins script asks =
    (input.Boot ∷ flat_map act_inputs script.acts, merging_of (Parts script) (flat_map act_inputs script.acts) (first_fills script asks))

pub no_entry : (script : Script) → AreMet script → EndsEarly script [] 1
no_entry script asks = record {
  number_is = refl;
  begins = none_begins script asks;
  ends = λ (merges : Merges [] (Parts script)). let b = merges.begins in cc;
}

no_boot : (script : Script) (e : Entry) → AreMet script → e.input ≢ input.Boot → StraysAt script (e ∷ []) 1
no_boot script e asks other = record {
  before = [];
  entry = e;
  behind = [];
  history_is = refl;
  number_is = refl;
  begins = none_begins script asks;
  strays = λ (begins : BeginsMerging (e ∷ []) (Parts script)).
      let b = begins.1.begins in
      let same : e.input ≡ input.Boot = cc in
      other same;
}

inputs_more : (xs : List Entry) (e : Entry) → inputs_of (xs ++ e ∷ []) ≡ inputs_of xs ++ e.input ∷ []
inputs_more [] e = refl
inputs_more (x ∷ xs) e = ap (λ (is : List Input). x.input ∷ is) (inputs_more xs e)

pub begins_with : (script : Script) (first : Entry) (done : List Entry) (left : Left) (more : List Input) → first.input ≡ input.Boot
    → Takes (inputs_of done) (first_left (Parts script)) left → Fills more left → BeginsMerging (first ∷ done) (Parts script)
begins_with script first done left more boot takes fills = (
  more,
  subst (λ (i : Input). IsMerging (Parts script) (i ∷ (inputs_of done ++ more))) (sym boot)
      (merging_of (Parts script) (inputs_of done ++ more) (fills_behind (inputs_of done) more (first_left (Parts script)) left takes fills)),
)

-- what follows entries in a merging fills what they left
behind_fills : (script : Script) (first : Entry) (done : List Input) (left : Left) (more : List Input) → first.input ≡ input.Boot
    → Takes done (first_left (Parts script)) left → IsMerging (Parts script) (first.input ∷ (done ++ more)) → Fills more left
behind_fills script first done left more boot takes merging =
    fills_left done more (first_left (Parts script)) left takes
    (rest_of_merging (Parts script) (done ++ more) (subst (λ (i : Input). IsMerging (Parts script) (i ∷ (done ++ more))) boot merging))

strays_at : (script : Script) (history done behind : List Entry) (first e : Entry) (left : Left) (number : ℕ)
    → first.input ≡ input.Boot → history ≡ first ∷ (done ++ e ∷ behind) → number ≡ length done + 2
    → IsAmid script (inputs_of done) left
    → Refuses e.input left → StraysAt script history number
strays_at script history done behind first e left number boot is counted amid refuses = record {
  before = first ∷ done;
  entry = e;
  behind = behind;
  history_is = is;
  number_is = omega arith;
  begins = begins_with script first done left amid.more boot amid.takes amid.fills;
  strays = λ (begins : BeginsMerging ((first ∷ done) ++ e ∷ []) (Parts script)).
      let more : List Input = begins.0 in
      let same : inputs_of (done ++ e ∷ []) ++ more ≡ inputs_of done ++ e.input ∷ more =
      ap (λ (is : List Input). is ++ more) (inputs_more done e) ∙ append_assoc (inputs_of done) (e.input ∷ []) more in
      let merging : IsMerging (Parts script) (first.input ∷ (inputs_of done ++ e.input ∷ more)) =
      subst (λ (is : List Input). IsMerging (Parts script) (first.input ∷ is)) same begins.1 in
      let next = fills_next e.input more left (behind_fills script first (inputs_of done) left (e.input ∷ more) boot amid.takes merging) in
      refuses _ next;
}

ends_early : (script : Script) (rest : List Entry) (first : Entry) (left : Left) → first.input ≡ input.Boot → IsAmid script (inputs_of rest) left
    → (IsOver left → ⊥) → EndsEarly script (first ∷ rest) (length (first ∷ rest) + 1)
ends_early script rest first left boot amid goes_on = record {
  number_is = refl;
  begins = begins_with script first rest left amid.more boot amid.takes amid.fills;
  ends = λ (whole : Merges (first ∷ rest) (Parts script)).
      let all : IsMerging (Parts script) (first.input ∷ (inputs_of rest ++ [])) =
      subst (λ (is : List Input). IsMerging (Parts script) (first.input ∷ is)) (sym (append-nil (inputs_of rest))) whole in
      goes_on (none_over left (behind_fills script first (inputs_of rest) left [] boot amid.takes all));
}

takes_entry : (done : List Entry) (e : Entry) (a b c : Left) → Takes (inputs_of done) a b → Takes (e.input ∷ []) b c → Takes (inputs_of (done ++ e ∷ [])) a c
takes_entry done e a b c first then =
    subst (λ (is : List Input). Takes is a c) (sym (inputs_more done e)) (takes_more (inputs_of done) (e.input ∷ []) a b c first then)

-- ---- one entry after another

amid_next : (script : Script) (done : List Entry) (e : Entry) (left next : Left) → IsAmid script (inputs_of done) left → Takes (e.input ∷ []) left next
    → IsAmid script (inputs_of (done ++ e ∷ [])) next
amid_next script done e left next amid taken =
    let behind = fills_after e.input left next amid.more taken amid.fills in
    record {
      takes = takes_entry done e (first_left (Parts script)) left next amid.takes taken;
      more = behind.0;
      fills = behind.1;
    }

pub goes_first : (script : Script) (history : List Entry) (e : Entry) (left : Left) → length history ≡ 0 → e.input ≡ input.Boot → Goes script history left
    → Goes script (history ++ e ∷ []) left
goes_first script [] e left none boot goes = (boot, goes)
goes_first script (first ∷ done) e left none boot goes = cc

pub strays_first : (script : Script) (history : List Entry) (e : Entry) → AreMet script → length history ≡ 0 → e.input ≢ input.Boot
    → StraysAt script (history ++ e ∷ []) 1
strays_first script [] e asks none other = no_boot script e asks other
strays_first script (first ∷ done) e asks none other = cc

pub goes_next : (script : Script) (history : List Entry) (e : Entry) (left next : Left) → length history ≢ 0 → Takes (e.input ∷ []) left next
    → Goes script history left → Goes script (history ++ e ∷ []) next
goes_next script [] e left next some taken goes = absurd (some refl)
goes_next script (first ∷ done) e left next some taken goes = (goes.0, amid_next script done e left next goes.1 taken)

pub strays_next : (script : Script) (history : List Entry) (e : Entry) (left : Left) → length history ≢ 0 → Refuses e.input left
    → Goes script history left → StraysAt script (history ++ e ∷ []) (length history + 1)
strays_next script [] e left some refuses goes = absurd (some refl)
strays_next script (first ∷ done) e left some refuses goes =
    strays_at script ((first ∷ done) ++ e ∷ []) done [] first e left (length (first ∷ done) + 1) goes.0 refl (omega arith) goes.1 refuses

-- what strayed strays, whatever comes
pub strays_more : (script : Script) (history : List Entry) (e : Entry) (number : ℕ) → StraysAt script history number → StraysAt script (history ++ e ∷ []) number
strays_more script history e number at = record {
  before = at.before;
  entry = at.entry;
  behind = at.behind ++ e ∷ [];
  history_is = ap (λ (es : List Entry). es ++ e ∷ []) at.history_is ∙ append_assoc at.before (at.entry ∷ at.behind) (e ∷ []);
  number_is = at.number_is;
  begins = at.begins;
  strays = at.strays;
}

pub ends_next : (script : Script) (history : List Entry) (left : Left) → AreMet script → (length history ≢ 0 → IsOver left → ⊥) → Goes script history left
    → EndsEarly script history (length history + 1)
ends_next script [] left asks goes_on goes = no_entry script asks
ends_next script (first ∷ rest) left asks goes_on goes =
    ends_early script rest first left goes.0 goes.1 (goes_on (λ (none : suc (length rest) ≡ 0). cc))

-- where nothing is left, the history merges the parts
pub merges_all : (script : Script) (history : List Entry) (left : Left) → length history ≢ 0 → IsOver left → Goes script history left → Merges history (Parts script)
merges_all script [] left some over goes = absurd (some refl)
merges_all script (first ∷ rest) left some over goes =
    let inputs = inputs_of rest in
    let parts = Parts script in
    let takes = goes.1.takes in
    let fills : Fills inputs (first_left parts) = record {
      main = sym (append-nil (filter is_main inputs)) ∙ ap (λ (ms : List Input). filter is_main inputs ++ ms) (sym over.main) ∙ takes.main;
      sets = λ who.
          sym (append-nil (filter_map (set_by who) inputs)) ∙ ap (λ (ps : List Pair). filter_map (set_by who) inputs ++ ps) (sym (over.sets who)) ∙ takes.sets who;
    } in
    subst (λ (i : Input). IsMerging parts (i ∷ inputs)) (sym goes.0) (merging_of parts inputs fills)

-- some merging begins with the entries
pub goes_begins : (script : Script) (history : List Entry) (left : Left) → AreMet script → Goes script history left → BeginsMerging history (Parts script)
goes_begins script [] left asks goes = none_begins script asks
goes_begins script (first ∷ rest) left asks goes = begins_with script first rest left goes.1.more goes.0 goes.1.takes goes.1.fills

-- ---- what is known behind one more entry

one_longer : (history : List Entry) (e : Entry) (old new : ℕ) → old ≡ length history → new ≡ old + 1 → new ≡ length (history ++ e ∷ [])
one_longer history e old new counted more = let long : length (history ++ e ∷ []) ≡ length history + 1 = length-append history (e ∷ []) in omega arith

pub merged_strays : (script : Script) (history : List Entry) (e : Entry) (old new : Merge) → new.taken ≡ old.taken + 1 → new.strays ≡ Some (old.taken + 1)
    → old.strays ≡ None → (Goes script history (left_of script.acts old.progress) → StraysAt script (history ++ e ∷ []) (old.taken + 1))
    → HasMerged script history old → HasMerged script (history ++ e ∷ []) new
merged_strays script history e old new more is none strays merged = record {
  taken = one_longer history e old.taken new.taken merged.taken more;
  order =
      match_some new.strays _ (StraysAt script (history ++ e ∷ [])) (old.taken + 1) is
      (strays (none_is old.strays (Goes script history (left_of script.acts old.progress)) (StraysAt script history) merged.order none));
}

pub merged_goes : (script : Script) (history : List Entry) (e : Entry) (old new : Merge) → new.taken ≡ old.taken + 1 → new.strays ≡ None
    → old.strays ≡ None → (Goes script history (left_of script.acts old.progress) → Goes script (history ++ e ∷ []) (left_of script.acts new.progress))
    → HasMerged script history old → HasMerged script (history ++ e ∷ []) new
merged_goes script history e old new more is none goes merged = record {
  taken = one_longer history e old.taken new.taken merged.taken more;
  order =
      match_none new.strays (Goes script (history ++ e ∷ []) (left_of script.acts new.progress)) (StraysAt script (history ++ e ∷ [])) is
      (goes (none_is old.strays (Goes script history (left_of script.acts old.progress)) (StraysAt script history) merged.order none));
}

stays_at : (script : Script) (history : List Entry) (e : Entry) (strays : Option ℕ) (A B : Type 0) → is_some strays ≡ true
    → MatchOption strays A (StraysAt script history) → MatchOption strays B (StraysAt script (history ++ e ∷ []))
stays_at script history e None A B some at = cc
stays_at script history e (Some number) A B some at = strays_more script history e number at

pub merged_stays : (script : Script) (history : List Entry) (e : Entry) (old new : Merge) → new.taken ≡ old.taken + 1 → new.strays ≡ old.strays
    → is_some old.strays ≡ true → HasMerged script history old → HasMerged script (history ++ e ∷ []) new
merged_stays script history e old new more is some merged = record {
  taken = one_longer history e old.taken new.taken merged.taken more;
  order =
      let B = Goes script (history ++ e ∷ []) (left_of script.acts new.progress) in
      subst (λ (o : Option ℕ). MatchOption o B (StraysAt script (history ++ e ∷ []))) (sym is)
      (stays_at script history e old.strays (Goes script history (left_of script.acts old.progress)) B some merged.order);
}

use Rattle.std.proofs.Common.{◌≡◌, ◌++◌, ◌∷◌, ℕ, false, List, [], Option, Some, IsSomeAnd, Result, Ok, OnOk, length, sym, ap, ◌∙◌, subst}
use Rattle.init_machine.specs.History.{Legal, sets_of}
use Rattle.init_machine.specs.Setting.{is_control}
use Rattle.init_machine.specs.State.{Opening}
use Rattle.init_machine.specs.Step.{answer_line}
use Rattle.init_machine.specs.declared.input.Input.{Input}
use Rattle.init_machine.specs.declared.output.SetRefusal.{SetRefusal}
use Rattle.init_machine.specs.declared.report.Entry.{Entry}
use Rattle.property_area.specs.Readers.{last_of}
use Rattle.property_area.specs.Seats.{Seated}
use Rattle.property_service.proofs.Closing.{holds_at, never}
use Rattle.property_service.proofs.Judging.{answer_found, answer_judged, has_answer, not_short, not_spent}
use Rattle.property_service.specs.Back.{ComesBackFrom, line_of}
use Rattle.property_service.specs.Service.{Agrees, ServiceView, has_seat, next_entry, refusal_now, set_by}
use Rattle.property_service.specs.Settings.{HasSet, set_entry}
use Rattle.property_service.specs.declared.answer.Accepted.{Accepted}
use Rattle.property_service.proofs.service.Service.set_pair.Given as given
use Rattle.property_service.proofs.service.Service.set_pair.Goals.{After-history}
use Rattle.property_service.proofs.service.Service.set_pair.Goals as goal

-- Behind an input that was taken stands its entry, and the history is legal.
record Taken (old : ServiceView) (i : Input) (history : List Entry) : Type 0 where
  now : history ≡ old.history ++ next_entry old i ∷ []
  legal : Legal old.opening history

is_taken : {T E : Type 0} (old new : ServiceView) (i j : Input) (history : List Entry) (r : Result T E) (x : T) → r ≡ Ok x
    → OnOk r (new.history ≡ old.history ++ next_entry old j ∷ []) → OnOk r (new.opening ≡ old.opening) → OnOk r (new.spent ≡ false)
    → j ≡ i → history ≡ new.history → (new.spent ≡ false → Agrees new) → Taken old i history
is_taken {T} {E} old new i j history r x ok added opening ready is same agrees =
    let whole = agrees (holds_at (new.spent ≡ false) r x ok ready) in
    let opened = holds_at (new.opening ≡ old.opening) r x ok opening in record {
      now =
          same ∙ holds_at (new.history ≡ old.history ++ next_entry old j ∷ []) r x ok added
          ∙ ap (λ (k : Input). old.history ++ next_entry old k ∷ []) is;
      legal = subst (λ (y : Opening × List Entry). Legal y.0 y.1) (λ k. (opened k, sym same k)) whole.legal;
    }

taken_now : (g : given.Over) (c : After-history g) → Taken c.args.self.now (set_by c.args.reader.view.who c.args.pair.name c.args.pair.value) c.history.result.now
taken_now g c =
    let name = c.args.pair.name in
    let value = c.args.pair.value in
    is_taken c.args.self.now c.take-reader.new.self (set_by c.args.reader.view.who name value) (set_by c.who.result.0 name value) c.history.result.now c.take-reader.result.1 _ c.in-Ok.is
    c.take-reader.ensures.history c.take-reader.ensures.opening c.take-reader.ensures.ready (ap (λ (n : ℕ). set_by n name value) c.who.ensures)
    c.history.ensures.same c.history.ensures.agrees

pub last_answer-requires : goal.last_answer-requires
last_answer-requires g c =
    let old = c.args.self.now in
    let name = c.args.pair.name in
    let value = c.args.pair.value in
    let who = c.args.reader.view.who in
    let taken = taken_now g (goal.at.last_answer-requires g c).After-history in
    has_answer old who name value c.history.result.now taken.now taken.legal

-- What the input of a set leaves is as it was left by a set of the reader's client, who is the same.
is_left : {T E : Type 0} (old new : ServiceView) (who : ℕ) (name value : List ℕ) (reader : Seated) (back : Option Seated) (answer : Result Accepted SetRefusal) (r : Result T E) (x : T) → r ≡ Ok x
    → OnOk r (new.history ≡ old.history ++ next_entry old (set_by who name value) ∷ []) → OnOk r (new.opening ≡ old.opening)
    → OnOk r (IsSomeAnd back (λ now. ComesBackFrom old.history (next_entry old (set_by who name value)) reader now))
    → OnOk r ((q : ℕ) → has_seat new.seat q ≡ has_seat old.seat q) → OnOk r (new.spent ≡ false) → who ≡ reader.view.who
    → last_of (set_entry old reader name value).outputs ≡ Some (line_of answer)
    → line_of answer ≡ answer_line (refusal_now old reader.view.who name value) (is_control name) (length (sets_of new.history))
    → HasSet old new reader back name value answer
is_left {T} {E} old new who name value reader back answer r x ok added opening comes seats ready is told judged =
    let P : ℕ → Type 0 = λ n. IsSomeAnd back (λ now. ComesBackFrom old.history (next_entry old (set_by n name value)) reader now) in record {
      history = holds_at (new.history ≡ old.history ++ next_entry old (set_by who name value) ∷ []) r x ok added
          ∙ ap (λ (n : ℕ). old.history ++ next_entry old (set_by n name value) ∷ []) is;
      opening = holds_at (new.opening ≡ old.opening) r x ok opening;
      told = told;
      judged = judged;
      comes_back = subst P is (holds_at (P who) r x ok comes);
      seats = holds_at ((q : ℕ) → has_seat new.seat q ≡ has_seat old.seat q) r x ok seats;
      ready = holds_at (new.spent ≡ false) r x ok ready;
    }

pub returns-in-Ok-last_answer-clause-set : goal.returns-in-Ok-last_answer-clause-set
returns-in-Ok-last_answer-clause-set g c reached =
    let old = c.args.self.now in
    let name = c.args.pair.name in
    let value = c.args.pair.value in
    let who = c.args.reader.view.who in
    let taken = taken_now g (goal.at.returns-in-Ok-last_answer-clause-set g c).After-history in
    let found = c.in-Ok-last_answer.ensures in
    is_left old c.take-reader.new.self c.who.result.0 name value c.args.reader c.take-reader.result.0 c.in-Ok-last_answer.answer c.take-reader.result.1 _ c.in-Ok.is
    c.take-reader.ensures.history c.take-reader.ensures.opening c.take-reader.ensures.reader c.take-reader.ensures.seats c.take-reader.ensures.ready c.who.ensures
    (answer_found old who name value c.history.result.now taken.now c.in-Ok-last_answer.answer found)
    (answer_judged old who name value c.history.result.now taken.now c.in-Ok-last_answer.answer found taken.legal
    ∙ ap (λ (h : List Entry). answer_line (refusal_now old who name value) (is_control name) (length (sets_of h))) c.history.ensures.same)

pub returns-in-Ok-last_answer-clause-spent : goal.returns-in-Ok-last_answer-clause-spent
returns-in-Ok-last_answer-clause-spent g c =
    let old = c.args.self.now in
    let name = c.args.pair.name in
    let value = c.args.pair.value in
    let who = c.args.reader.view.who in
    let taken = taken_now g (goal.at.returns-in-Ok-last_answer-clause-spent g c).After-history in (
      λ is. never _ (not_spent old who name value c.history.result.now taken.now c.in-Ok-last_answer.answer c.in-Ok-last_answer.ensures is),
      λ is. never _ (sym c.if-self.false ∙ ap (λ (t : ServiceView). t.spent) c.self.view_is ∙ is),
    )

pub returns-in-Ok-last_answer-clause-unchanged : goal.returns-in-Ok-last_answer-clause-unchanged
returns-in-Ok-last_answer-clause-unchanged g c is =
    let old = c.args.self.now in
    let name = c.args.pair.name in
    let value = c.args.pair.value in
    let who = c.args.reader.view.who in
    let taken = taken_now g (goal.at.returns-in-Ok-last_answer-clause-unchanged g c).After-history in
    never _ (not_spent old who name value c.history.result.now taken.now c.in-Ok-last_answer.answer c.in-Ok-last_answer.ensures is)

pub returns-in-Ok-last_answer-clause-no_memory : goal.returns-in-Ok-last_answer-clause-no_memory
returns-in-Ok-last_answer-clause-no_memory g c is =
    let old = c.args.self.now in
    let name = c.args.pair.name in
    let value = c.args.pair.value in
    let who = c.args.reader.view.who in
    let taken = taken_now g (goal.at.returns-in-Ok-last_answer-clause-no_memory g c).After-history in
    never _ (not_short old who name value c.history.result.now taken.now c.in-Ok-last_answer.answer c.in-Ok-last_answer.ensures is)

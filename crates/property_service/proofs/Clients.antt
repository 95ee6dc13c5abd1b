-- The clients that have seats, and the lists of those that have none.
use Rattle.std.proofs.Common.{◌≡◌, ◌≢◌, ℕ, suc, List, [], ◌∷◌, Bool, true, false, ◌==◌, ◌||◌, nat_lt, if◌then◌else◌, sym, refl, ap, ◌∙◌, ⊎_elim, arith, ne_eqb, eq-eqb}
use Rattle.std.proofs.lemmas.Bool.{cases_Bool, eqb-true}
use Rattle.std.proofs.lemmas.Bool.Decides.{nat_tests}
use Rattle.init_machine.specs.Sets.{Set}
use Rattle.init_machine.specs.declared.client.ClientItem.{ClientItem}
use Rattle.property_area.specs.Area.{out_seat, list_in}
use Rattle.property_area.specs.Readers.{client_in, others_in, without}
use Rattle.property_area.specs.declared.view.Client.{Client}

-- two numbers that the test tells apart
pub apart : (a b : ℕ) → (a == b) ≡ false → a ≢ b
apart a b differs same = let is = eq-eqb a b same in let e : true ≡ false = sym is ∙ differs in cc

-- the other clients, without one
pub others_own : (clients : List Client) (who : ℕ) → list_in (others_in clients who) who ≡ []
others_own [] who = refl
others_own (c ∷ clients) who = ⊎_elim
    (λ (same : (c.who == who) ≡ true).
    ap (λ (b : Bool). list_in (if b then others_in clients who else c ∷ others_in clients who) who) same ∙ others_own clients who)
    (λ (differs : (c.who == who) ≡ false).
    ap (λ (b : Bool). list_in (if b then others_in clients who else c ∷ others_in clients who) who) differs
    ∙ ap (λ (b : Bool). if b then c.list else list_in (others_in clients who) who) differs
    ∙ others_own clients who)
    (cases_Bool (c.who == who))

pub others_else : (clients : List Client) (who q : ℕ) → who ≢ q → list_in (others_in clients who) q ≡ list_in clients q
others_else [] who q other = refl
others_else (c ∷ clients) who q other = ⊎_elim
    (λ (same : (c.who == who) ≡ true).
    let not_q : (c.who == q) ≡ false = ne_eqb c.who q (λ is. other (sym (eqb-true c.who who same) ∙ is)) in
    ap (λ (b : Bool). list_in (if b then others_in clients who else c ∷ others_in clients who) q) same
    ∙ others_else clients who q other
    ∙ sym (ap (λ (b : Bool). if b then c.list else list_in clients q) not_q))
    (λ (differs : (c.who == who) ≡ false).
    ap (λ (b : Bool). list_in (if b then others_in clients who else c ∷ others_in clients who) q) differs
    ∙ ap (λ (l : List ClientItem). if c.who == q then c.list else l) (others_else clients who q other))
    (cases_Bool (c.who == who))

-- where each other client has no list, none is left without this one
pub none_left : (clients : List Client) (who : ℕ) → ((q : ℕ) → who ≢ q → list_in clients q ≡ []) → (q : ℕ) → list_in (others_in clients who) q ≡ []
none_left clients who idle q = ⊎_elim
    (λ (same : (who == q) ≡ true).
    let is = eqb-true who q same in ap (λ (x : ℕ). list_in (others_in clients who) x) (sym is) ∙ others_own clients who)
    (λ (differs : (who == q) ≡ false). others_else clients who q (apart who q differs) ∙ idle q (apart who q differs))
    (cases_Bool (who == q))

pub list_behind : (c : Client) (clients : List Client) (q : ℕ) → c.who ≢ q → list_in (c ∷ clients) q ≡ list_in clients q
list_behind c clients q other = ap (λ (b : Bool). if b then c.list else list_in clients q) (ne_eqb c.who q other)

-- the client that came last
pub client_first : (c : Client) (clients : List Client) (who : ℕ) (sets : List Set) → c.who ≡ who → client_in (c ∷ clients) who sets ≡ c
client_first c clients who sets is = ap (λ (b : Bool). let x : Client = if b then c else client_in clients who sets in x) (eq-eqb c.who who is)

-- the list of a client, or the empty one
pub list_client : (clients : List Client) (who : ℕ) (sets : List Set) → list_in clients who ≡ (client_in clients who sets).list
list_client [] who sets = refl
list_client (c ∷ clients) who sets =
    elim (c.who == who) as (λ b. (if b then c.list else list_in clients who) ≡ (let x : Client = if b then c else client_in clients who sets in x.list)) [
      | true ↦ refl
      | false ↦ list_client clients who sets
    ]

-- seats without one
pub seat_own : (out : List (ℕ × ℕ)) (who : ℕ) → out_seat (without out who) who ≡ 0
seat_own [] who = refl
seat_own (o ∷ out) who = ⊎_elim
    (λ (same : (o.0 == who) ≡ true).
    ap (λ (b : Bool). out_seat (if b then without out who else o ∷ without out who) who) same ∙ seat_own out who)
    (λ (differs : (o.0 == who) ≡ false).
    ap (λ (b : Bool). out_seat (if b then without out who else o ∷ without out who) who) differs
    ∙ ap (λ (b : Bool). if b then suc o.1 else out_seat (without out who) who) differs
    ∙ seat_own out who)
    (cases_Bool (o.0 == who))

pub seat_else : (out : List (ℕ × ℕ)) (who q : ℕ) → who ≢ q → out_seat (without out who) q ≡ out_seat out q
seat_else [] who q other = refl
seat_else (o ∷ out) who q other = ⊎_elim
    (λ (same : (o.0 == who) ≡ true).
    let not_q : (o.0 == q) ≡ false = ne_eqb o.0 q (λ is. other (sym (eqb-true o.0 who same) ∙ is)) in
    ap (λ (b : Bool). out_seat (if b then without out who else o ∷ without out who) q) same
    ∙ seat_else out who q other
    ∙ sym (ap (λ (b : Bool). if b then suc o.1 else out_seat out q) not_q))
    (λ (differs : (o.0 == who) ≡ false).
    ap (λ (b : Bool). out_seat (if b then without out who else o ∷ without out who) q) differs
    ∙ ap (λ (n : ℕ). if o.0 == q then suc o.1 else n) (seat_else out who q other))
    (cases_Bool (o.0 == who))

-- whether a client has a seat, by the seats
abbrev seated : List (ℕ × ℕ) → ℕ → Bool
seated out who = nat_lt 0 (out_seat out who)

pub above : (n : ℕ) → nat_lt 0 (suc n) ≡ true
above n = grind (arith, nat_tests)

-- once a client's seat is taken in and handed out again, the same clients have seats
pub seats_again : (out : List (ℕ × ℕ)) (who id seat q : ℕ) → out_seat out who ≡ suc id → seated ((who, seat) ∷ without out who) q ≡ seated out q
seats_again out who id seat q had = ⊎_elim
    (λ (same : (who == q) ≡ true).
    let is = eqb-true who q same in
    ap (λ (b : Bool). nat_lt 0 (if b then suc seat else out_seat (without out who) q)) same
    ∙ above seat
    ∙ sym (ap (λ (n : ℕ). nat_lt 0 n) (ap (λ (x : ℕ). out_seat out x) (sym is) ∙ had) ∙ above id))
    (λ (differs : (who == q) ≡ false).
    ap (λ (b : Bool). nat_lt 0 (if b then suc seat else out_seat (without out who) q)) differs
    ∙ ap (λ (n : ℕ). nat_lt 0 n) (seat_else out who q (apart who q differs)))
    (cases_Bool (who == q))

pub or_false : (b : Bool) → (b || false) ≡ b
or_false true = refl
or_false false = refl

pub or_true : (b : Bool) → (b || true) ≡ true
or_true true = refl
or_true false = refl

-- once a client enters
pub seats_more : (out : List (ℕ × ℕ)) (who seat q : ℕ) → seated ((who, seat) ∷ out) q ≡ (seated out q || (who == q))
seats_more out who seat q = ⊎_elim
    (λ (same : (who == q) ≡ true).
    ap (λ (b : Bool). nat_lt 0 (if b then suc seat else out_seat out q)) same
    ∙ above seat
    ∙ sym (ap (λ (b : Bool). seated out q || b) same ∙ or_true (seated out q)))
    (λ (differs : (who == q) ≡ false).
    ap (λ (b : Bool). nat_lt 0 (if b then suc seat else out_seat out q)) differs
    ∙ sym (ap (λ (b : Bool). seated out q || b) differs ∙ or_false (seated out q)))
    (cases_Bool (who == q))

-- a client that has no seat
pub no_seat : (n : ℕ) → nat_lt 0 n ≡ false → n ≡ 0
no_seat n is = grind (arith, nat_tests)

-- Each move keeps the protocol.
use Rattle.std.proofs.Common.{◌≡◌, ◌≢◌, ◌⊎◌, inl, inr, ℕ, ◌+◌, ◌<◌, ◌≤◌, zero, suc, Bool, true, false, true≢false, List, [], ◌∷◌, ◌++◌, length, get_or, set, sym, refl, ap, ◌∙◌, subst, ⊎_elim, append_assoc, length-append, arith}
use Rattle.std.specs.Prelude.{◌==◌, nat_lt, if◌then◌else◌, slice_index_or}
use Rattle.std.proofs.Math.Seq.{get_or-append_seam}
use Rattle.std.proofs.lemmas.List.{get_or_append_left}
use Rattle.std.proofs.lemmas.Bool.Decides.{nat_tests}
use mathlib.Core.Option.{some, some-injective, some-ne-none}
use lib.ListN.{get_elem?}
use Rattle.crossbeam_queue.specs.Fifo.{Pushes, Pops, Forks, Merges, Learns}
use Rattle.crossbeam_queue.proofs.Lists.{at_set}
use Rattle.init_machine.specs.declared.config.Pair.{Pair}
use Rattle.prop_dispatch.specs.internal.Rule.{pairs_of, FitsSession, FitsWorker, KeepsOrder, Accounts}
use Rattle.prop_dispatch.specs.internal.Views.{session_view, worker_view, spent_view}
use Rattle.prop_dispatch.specs.declared.protocol.Item.{Item}
use Rattle.prop_dispatch.specs.declared.protocol.View.{View}
use Rattle.prop_dispatch.proofs.Requests.{of_own, of_other}

abbrev Each : (ℕ → View → Type 0) → List View → Type 0
Each F views = (port : ℕ) (v : View) → get_elem? views port ≡ some v → F port v

each_set : (F : ℕ → View → Type 0) (views : List View) (port : ℕ) (w : View) → F port w
    → ((j : ℕ) (u : View) → j ≢ port → get_elem? views j ≡ some u → F j u) → Each F (set views port w)
each_set F views port w mine others j u e =
    ⊎_elim (λ (x : (j ≡ port) × (w ≡ u)). subst (λ (y : ℕ × View). F y.0 y.1) (λ i. (sym x.0 i, x.1 i)) mine)
    (λ (x : (j ≢ port) × (get_elem? views j ≡ some u)). others j u x.0 x.1) (at_set views port j w u e)

-- what stands in a list with one more
at_new : (l : List View) (a b : View) (j : ℕ) → get_elem? (l ++ a ∷ []) j ≡ some b → (get_elem? l j ≡ some b) ⊎ ((j ≡ length l) × (a ≡ b))
at_new [] a b zero e = inr (refl, some-injective a b e)
at_new [] a b (suc j) e = absurd (some-ne-none b (sym e))
at_new (x ∷ xs) a b zero e = inl e
at_new (x ∷ xs) a b (suc j) e =
    ⊎_elim (λ (is : get_elem? xs j ≡ some b). inl is) (λ (is : (j ≡ length xs) × (a ≡ b)). inr (ap suc is.0, is.1)) (at_new xs a b j e)

nobody_else : (a b : View) (j : ℕ) → j ≢ 0 → get_elem? (a ∷ []) j ≡ some b → ⊥
nobody_else a b zero other e = other refl
nobody_else a b (suc j) other e = some-ne-none b (sym e)

picks : (b : Bool) (m n : ℕ) → b ≡ true → (if b then m else n) ≡ m
picks true m n is = refl
picks false m n is = absurd (true≢false (sym is))

picks_not : (b : Bool) (m n : ℕ) → b ≡ false → (if b then m else n) ≡ n
picks_not true m n is = absurd (true≢false is)
picks_not false m n is = refl

-- another session than the first one that hasn't ended is above it
above : (left k first next : ℕ) → next ≡ left + 1 → first ≡ left → left ≤ k → k ≢ first → next ≤ k
above left k first next one is low isnt = grind (arith, one, is, low, isnt)

split_test : (b : Bool) (k n : ℕ) → nat_lt k n ≡ b → k ≤ n → (k < n) ⊎ (k ≡ n)
split_test true k n is low = inl (grind (arith, nat_tests, is))
split_test false k n is low = inr (grind (arith, nat_tests, is, low))

lt_or_eq : (k n : ℕ) → k ≤ n → (k < n) ⊎ (k ≡ n)
lt_or_eq k n low = split_test (nat_lt k n) k n refl low

known_case : (done : List (List Pair)) (put : List Pair) (what : ℕ → List Pair)
    → ((k : ℕ) → k < length done → what k ≡ slice_index_or done k []) → what (length done) ≡ put
    → (k : ℕ) → k ≤ length done → what k ≡ slice_index_or (done ++ put ∷ []) k []
known_case done put what before this k low =
    ⊎_elim (λ (less : k < length done). before k less ∙ sym (get_or_append_left done (put ∷ []) [] k less))
    (λ (is : k ≡ length done). ap what is ∙ this ∙ sym (ap (λ j. get_or (done ++ put ∷ []) j []) is ∙ get_or-append_seam done put [] []))
    (lt_or_eq k (length done) low)

-- what is known of the sessions that have ended, and of the next one
known_so_far : (done : List (List Pair)) (put : List Pair) (what : ℕ → List Pair)
    → ((k : ℕ) → k < length done → what k ≡ slice_index_or done k []) → what (length done) ≡ put
    → (k : ℕ) → k < length (done ++ put ∷ []) → what k ≡ slice_index_or (done ++ put ∷ []) k []
known_so_far done put what before this k less =
    known_case done put what before this k (omega (arith, less, length-append done (put ∷ [])))

-- ---- a session pushes its next request

abbrev pushed : Item → List Item → List Item → List Item
pushed x got items = got ++ (items ++ x ∷ [])

puts_own : (x : Item) (got items : List Item) (k : ℕ) (put : List Pair) → x.session ≡ k → pairs_of k (got ++ items) ≡ put
    → pairs_of k (pushed x got items) ≡ put ++ x.request ∷ []
puts_own x got items k put own was =
    ap (pairs_of k) (sym (append_assoc got items (x ∷ []))) ∙ of_own k (got ++ items) x own ∙ ap (λ l. l ++ x.request ∷ []) was

puts_other : (x : Item) (got items : List Item) (k : ℕ) (put : List Pair) → x.session ≢ k → pairs_of k (got ++ items) ≡ put
    → pairs_of k (pushed x got items) ≡ put
puts_other x got items k put other was =
    ap (pairs_of k) (sym (append_assoc got items (x ∷ []))) ∙ of_other k (got ++ items) x other ∙ was

pub puts : (n port : ℕ) (v : View) (x : Item) → v.sends ≡ true → x.session ≡ v.from
    → Pushes KeepsOrder n port v x (λ w. w ≡ session_view v.from (v.put ++ x.request ∷ []))
puts n port v x may own items views room h at =
    let w : View = session_view v.from (v.put ++ x.request ∷ []) in
    let mine = (h.each port v at).0 may in
    let all = pushed x h.got items in
    let F : ℕ → View → Type 0 = λ j u. FitsSession h.port_of (length h.done) h.made all j u × FitsWorker h.worker h.made h.got h.done j u in (
      w,
      record {
        worker = h.worker;
        port_of = h.port_of;
        made = h.made;
        got = h.got;
        done = h.done;
        ended = λ k less. puts_other x h.got items k (slice_index_or h.done k []) (λ is. absurd (omega (arith, is, own, mine.1, less))) (h.ended k less);
        unmade = λ k more. puts_other x h.got items k [] (λ is. absurd (omega (arith, is, own, mine.2, more))) (h.unmade k more);
        within = h.within;
        each = each_set F views port w
            ((λ _. (mine.0, mine.1, mine.2, puts_own x h.got items v.from v.put own mine.3)), λ p. absurd (true≢false (sym p)))
            (λ j u other e. (
              (λ p. let theirs = (h.each j u e).0 p in (
                theirs.0,
                theirs.1,
                theirs.2,
                puts_other x h.got items u.from u.put
                    (λ is. other (sym theirs.0 ∙ ap h.port_of (sym (sym own ∙ is)) ∙ mine.0)) theirs.3,
              )),
              (h.each j u e).1,
            ));
      },
      refl,
    )

-- ---- the worker pops

pub takes : (port : ℕ) (v : View) → v.gets ≡ true → Pops KeepsOrder port v (λ x w. w ≡ worker_view v.made (v.got ++ x ∷ []) v.done)
takes port v may x items views h at =
    let w : View = worker_view v.made (v.got ++ x ∷ []) v.done in
    let mine = (h.each port v at).1 may in
    let got = h.got ++ x ∷ [] in
    let same : h.got ++ x ∷ items ≡ got ++ items = sym (append_assoc h.got (x ∷ []) items) in
    let F : ℕ → View → Type 0 = λ j u. FitsSession h.port_of (length h.done) h.made (got ++ items) j u × FitsWorker h.worker h.made got h.done j u in (
      w,
      record {
        worker = h.worker;
        port_of = h.port_of;
        made = h.made;
        got = got;
        done = h.done;
        ended = λ k less. ap (pairs_of k) (sym same) ∙ h.ended k less;
        unmade = λ k more. ap (pairs_of k) (sym same) ∙ h.unmade k more;
        within = h.within;
        each = each_set F views port w
            ((λ p. absurd (true≢false (sym p))), λ _. (mine.0, mine.1, ap (λ l. l ++ x ∷ []) mine.2, mine.3))
            (λ j u other e. (
              (λ p. let theirs = (h.each j u e).0 p in
                  (theirs.0, theirs.1, theirs.2, ap (pairs_of u.from) (sym same) ∙ theirs.3)),
              λ p. absurd (other (((h.each j u e).1 p).0 ∙ sym mine.0)),
            ));
      },
      refl,
    )

-- ---- what the worker learns

pub learns : (port : ℕ) (v : View) → v.gets ≡ true → Learns KeepsOrder port v (Accounts v)
learns port v may items views h at =
    let mine = (h.each port v at).1 may in
    subst (λ (m : ℕ × List Item × List (List Pair)). Accounts (worker_view m.0 m.1 m.2) items → Accounts v items)
    (λ i. (mine.1 i, mine.2 i, mine.3 i)) (λ a. record { ended = a.ended; unmade = a.unmade })
    (record { ended = h.ended; unmade = h.unmade })

-- ---- the beginning

pub begins : KeepsOrder [] (worker_view 0 [] [] ∷ [])
begins = record {
  worker = 0;
  port_of = λ k. 0;
  made = 0;
  got = [];
  done = [];
  ended = λ k less. absurd (omega (arith, less));
  unmade = λ k more. refl;
  within = omega arith;
  each = each_set (λ j u. FitsSession (λ k. 0) 0 0 [] j u × FitsWorker 0 0 [] [] j u) (worker_view 0 [] [] ∷ []) 0 (worker_view 0 [] [])
      ((λ p. absurd (true≢false (sym p))), λ _. (refl, refl, refl, refl))
      (λ j u other e. absurd (nobody_else (worker_view 0 [] []) u j other e));
}

-- ---- the worker makes the pass of the next session

-- the seats, with one more
abbrev ports_with : ℕ → ℕ → (ℕ → ℕ) → ℕ → ℕ
ports_with made port port_of k = if k == made then port else port_of k

port_new : (made port : ℕ) (port_of : ℕ → ℕ) → ports_with made port port_of made ≡ port
port_new made port port_of = picks (made == made) port (port_of made) (grind (arith, nat_tests))

port_old : (made port : ℕ) (port_of : ℕ → ℕ) (k : ℕ) → k < made → ports_with made port port_of k ≡ port_of k
port_old made port port_of k less = picks_not (k == made) port (port_of k) (grind (arith, nat_tests, less))

pub seats : (port : ℕ) (v : View) → v.gets ≡ true
    → Forks KeepsOrder port v (worker_view (v.made + 1) v.got v.done) (session_view v.made [])
seats port v may items views h at =
    let l : View = worker_view (v.made + 1) v.got v.done in
    let r : View = session_view v.made [] in
    let mine = (h.each port v at).1 may in
    let vs : List View = set views port l in
    let all = h.got ++ items in
    let port_of = ports_with h.made (length vs) h.port_of in
    let F : ℕ → View → Type 0 = λ j u. FitsSession port_of (length h.done) (h.made + 1) all j u × FitsWorker h.worker (h.made + 1) h.got h.done j u in
    let old : Each F vs = each_set F views port l
    ((λ p. absurd (true≢false (sym p))), λ _. (mine.0, ap (λ n. n + 1) mine.1, mine.2, mine.3))
    (λ j u other e. (
      (λ p. let theirs = (h.each j u e).0 p in
          (port_old h.made (length vs) h.port_of u.from theirs.2 ∙ theirs.0, theirs.1, omega (arith, theirs.2), theirs.3)),
      λ p. absurd (other (((h.each j u e).1 p).0 ∙ sym mine.0)),
    )) in
    let new : F (length vs) r = (
      (λ _. (
        ap port_of mine.1 ∙ port_new h.made (length vs) h.port_of,
        omega (arith, h.within, mine.1),
        omega (arith, mine.1),
        ap (λ k. pairs_of k all) mine.1 ∙ h.unmade h.made (omega arith),
      )),
      λ p. absurd (true≢false (sym p)),
    ) in
    record {
      worker = h.worker;
      port_of = port_of;
      made = h.made + 1;
      got = h.got;
      done = h.done;
      ended = h.ended;
      unmade = λ k more. h.unmade k (omega (arith, more));
      within = omega (arith, h.within);
      each = λ j u e. ⊎_elim (λ x. old j u x)
          (λ (is : (j ≡ length vs) × (r ≡ u)). subst (λ (y : ℕ × View). F y.0 y.1) (λ i. (sym is.0 i, is.1 i)) new) (at_new vs r u j e);
    }

-- ---- the worker takes in the pass of a session that has ended

pub leaves : (port : ℕ) (v : View) (other : ℕ) (u : View) → v.gets ≡ true → u.sends ≡ true → u.from ≡ length v.done
    → Merges KeepsOrder port v other u (worker_view v.made v.got (v.done ++ u.put ∷ [])) spent_view
leaves port v other u may sends next items views h at two at' =
    let both : View = worker_view v.made v.got (v.done ++ u.put ∷ []) in
    let mine = (h.each port v at).1 may in
    let vs : List View = set views port both in
    let was : get_elem? views other ≡ some u = ⊎_elim (λ x. absurd (two x.0)) (λ x. x.1) (at_set views port other both u at') in
    let theirs = (h.each other u was).0 sends in
    let from : u.from ≡ length h.done = next ∙ ap length mine.3 in
    let done : List (List Pair) = h.done ++ u.put ∷ [] in
    let more : length done ≡ length h.done + 1 = omega (arith, length-append h.done (u.put ∷ [])) in
    let all = h.got ++ items in
    let F : ℕ → View → Type 0 = λ j y. FitsSession h.port_of (length done) h.made all j y × FitsWorker h.worker h.made h.got done j y in
    let Now : ℕ → View → Type 0 = λ j y. j ≢ other → F j y in
    let now : Each Now vs = each_set Now views port both
    (λ _. ((λ p. absurd (true≢false (sym p))), λ _. (mine.0, mine.1, mine.2, ap (λ d. d ++ u.put ∷ []) mine.3)))
    (λ j y apart e mid. (
      (λ p. let its = (h.each j y e).0 p in (
        its.0,
        above (length h.done) y.from u.from (length done) more from its.1
            (λ is. mid (sym its.0 ∙ ap h.port_of is ∙ theirs.0)),
        its.2,
        its.3,
      )),
      λ p. absurd (apart (((h.each j y e).1 p).0 ∙ sym mine.0)),
    )) in
    record {
      worker = h.worker;
      port_of = h.port_of;
      made = h.made;
      got = h.got;
      done = done;
      ended = λ k less. known_so_far h.done u.put (λ k. pairs_of k all) h.ended (ap (λ k. pairs_of k all) (sym from) ∙ theirs.3) k less;
      unmade = h.unmade;
      within = omega (arith, more, from, theirs.2);
      each = each_set F vs other spent_view ((λ p. absurd (true≢false (sym p))), λ p. absurd (true≢false (sym p)))
          (λ j y apart e. now j y e apart);
    }

-- ---- the end

pub settles : (v : View) (items : List Item) → length items ≡ 0 → Accounts v items → Accounts v []
settles v [] none a = a
settles v (x ∷ items) none a = absurd (omega (arith, none))

-- Two texts are read in one way.
use Rattle.std.proofs.Common.{◌≡◌, ℕ, ◌+◌, ◌≤◌, Bool, true, false, not, ◌&&◌, ◌||◌, ◌⊎◌, inl, inr, List, [], ◌∷◌, ◌++◌, length, length-append, append_assoc, append-nil, refl, ap, sym, ◌∙◌, subst, IsTrue, arith}
use Rattle.std.specs.List.{list_any, flat_map}
use Rattle.std.proofs.lemmas.Bool.{false≢true}
use Rattle.std.proofs.lemmas.Grind.{flat_map-append}
use Rattle.std.proofs.lemmas.List.Folds.{list_all-append, list_any-append}
use Rattle.init_machine.specs.Policy.{ContextLine, PolicyLines, is_line_for}
use Rattle.init_machine.specs.declared.policy.Context.{Context}
use Rattle.init_base.specs.Lines.{lines_of}
use Rattle.prop_contexts.specs.Contexts.{ScopedLine, read_in, reading_of, default_in, exact_in, prefix_in, scoped_lines, default_contexts, exact_lines, prefix_lines}
use Rattle.prop_contexts.specs.Allows.{allow_of, allow_lines}
use Rattle.prop_contexts.specs.Grammar.{contexts_fit, allows_fit, is_formed, names_differ, IsPolicy, IsRefused, IsFirstUnfit, IsBadContext, IsTwice, HasNoDefault, AreContexts}
use Rattle.prop_contexts.specs.declared.refusal.PolicyRefusal.{PolicyRefusal}
use Rattle.prop_contexts.specs.declared.refusal.PolicyRefusal.TheVariants as refusal
use Rattle.prop_contexts.proofs.Steps.{both, join, Fits, fits_of, fits_to, formed_in}

-- ---- a front of lines that fit

given_front : {X : Type 0} (g : ScopedLine → List X) (front behind : List (List ℕ))
    → flat_map g (scoped_lines (front ++ behind)) ≡ flat_map g (scoped_lines front) ++ flat_map g (scoped_lines behind)
given_front g front behind =
    ap (flat_map g) (flat_map-append (λ l. read_in (reading_of l)) front behind) ∙ flat_map-append g (scoped_lines front) (scoped_lines behind)

not_front : (a b : Bool) → not (a || b) ≡ true → not a ≡ true
not_front true b h = h
not_front false b h = refl

differ_front : (xs ys : List ContextLine) → IsTrue (names_differ (xs ++ ys)) → IsTrue (names_differ xs)
differ_front [] ys h = refl
differ_front (x ∷ xs) ys h =
    let parts = both (not (list_any (λ other. is_line_for other.name x) (xs ++ ys))) (names_differ (xs ++ ys)) h in
    join (not (list_any (λ other. is_line_for other.name x) xs)) (names_differ xs)
    (not_front (list_any (λ other. is_line_for other.name x) xs) (list_any (λ other. is_line_for other.name x) ys)
    (sym (ap not (list_any-append (λ other. is_line_for other.name x) xs ys)) ∙ parts.0))
    (differ_front xs ys parts.1)

-- fits lines and their fronts
abbrev IsClosed : (List (List ℕ) → Bool) → Type 0
IsClosed fit = (front behind : List (List ℕ)) → IsTrue (fit (front ++ behind)) → IsTrue (fit front)

contexts_closed : IsClosed contexts_fit
contexts_closed front behind h =
    let fits = fits_of (front ++ behind) h in
    let formed : formed_in (front ++ behind) ≡ (formed_in front && formed_in behind) = list_all-append (λ l. is_formed (reading_of l)) front behind in
    let d = given_front (λ l. default_in l.scope l.line.context) front behind in
    let e = given_front (λ l. exact_in l.scope l.line) front behind in
    let p = given_front (λ l. prefix_in l.scope l.line) front behind in
    let few : length (default_contexts front) ≤ 1 = omega (arith, ap length d, length-append (default_contexts front) (default_contexts behind), fits.one_default) in
    let fit : Fits (formed_in front) (default_contexts front) (exact_lines front) (prefix_lines front) = record {
      all_formed = (both (formed_in front) (formed_in behind) (sym formed ∙ fits.all_formed)).0;
      one_default = few;
      exact_differ = differ_front (exact_lines front) (exact_lines behind) (sym (ap names_differ e) ∙ fits.exact_differ);
      prefixes_differ = differ_front (prefix_lines front) (prefix_lines behind) (sym (ap names_differ p) ∙ fits.prefixes_differ);
    } in
    fits_to (formed_in front) (default_contexts front) (exact_lines front) (prefix_lines front) fit

allows_closed : IsClosed allows_fit
allows_closed front behind h = (both (allows_fit front) (allows_fit behind) (sym (list_all-append (λ l. is_formed (allow_of l)) front behind) ∙ h)).0

-- ---- the first line that doesn't fit

same_line : (fit : List (List ℕ) → Bool) → IsClosed fit → (done front other behind more : List (List ℕ)) (line next : List ℕ)
    → IsTrue (fit (done ++ front)) → fit (done ++ (front ++ line ∷ [])) ≡ false → IsTrue (fit (done ++ other)) → fit (done ++ (other ++ next ∷ [])) ≡ false
    → front ++ line ∷ behind ≡ other ++ next ∷ more → (front ≡ other) × (line ≡ next)
same_line fit closed done [] [] behind more line next h i h' i' e = (refl, cc e)
same_line fit closed done [] (x ∷ other) behind more line next h i h' i' e =
    let first : line ≡ x = cc e in
    let fits : IsTrue (fit (done ++ x ∷ [])) = closed (done ++ x ∷ []) other (ap fit (append_assoc done (x ∷ []) other) ∙ h') in
    absurd (false≢true (sym i ∙ ap (λ l. fit (done ++ l ∷ [])) first ∙ fits))
same_line fit closed done (x ∷ front) [] behind more line next h i h' i' e =
    let first : next ≡ x = sym (cc e) in
    let fits : IsTrue (fit (done ++ x ∷ [])) = closed (done ++ x ∷ []) front (ap fit (append_assoc done (x ∷ []) front) ∙ h) in
    absurd (false≢true (sym i' ∙ ap (λ l. fit (done ++ l ∷ [])) first ∙ fits))
same_line fit closed done (x ∷ front) (y ∷ other) behind more line next h i h' i' e =
    let first : x ≡ y = cc e in
    let rest : front ++ line ∷ behind ≡ other ++ next ∷ more = cc e in
    let tail = same_line fit closed (done ++ x ∷ []) front other behind more line next
    (ap fit (append_assoc done (x ∷ []) front) ∙ h) (ap fit (append_assoc done (x ∷ []) (front ++ line ∷ [])) ∙ i)
    (ap fit (append_assoc done (x ∷ []) other) ∙ ap (λ l. fit (done ++ l ∷ other)) first ∙ h')
    (ap fit (append_assoc done (x ∷ []) (other ++ next ∷ [])) ∙ ap (λ l. fit (done ++ l ∷ (other ++ next ∷ []))) first ∙ i') rest in
    ((λ k. first k ∷ tail.0 k), tail.1)

one_unfit : (fit : List (List ℕ) → Bool) → IsClosed fit → (lines : List (List ℕ)) (number other : ℕ) (line next : List ℕ)
    → IsFirstUnfit fit lines number line → IsFirstUnfit fit lines other next → (number ≡ other) × (line ≡ next)
one_unfit fit closed lines number other line next first second =
    let same = same_line fit closed [] first.front second.front first.behind second.behind line next first.front_fits first.unfit second.front_fits second.unfit (sym first.place ∙ second.place) in
    (first.number_is ∙ ap (λ (ls : List (List ℕ)). length ls + 1) same.0 ∙ sym second.number_is, same.1)

none_unfit : (fit : List (List ℕ) → Bool) → IsClosed fit → (lines : List (List ℕ)) (number : ℕ) (line : List ℕ) → IsTrue (fit lines) → IsFirstUnfit fit lines number line → ⊥
none_unfit fit closed lines number line fits first =
    let split : lines ≡ (first.front ++ line ∷ []) ++ first.behind = first.place ∙ sym (append_assoc first.front (line ∷ []) first.behind) in
    false≢true (sym first.unfit ∙ closed (first.front ++ line ∷ []) first.behind (sym (ap fit split) ∙ fits))

abbrev FitOrUnfit : (List (List ℕ) → Bool) → List (List ℕ) → Type 0
FitOrUnfit fit lines = IsTrue (fit lines) ⊎ ((number : ℕ) × (line : List ℕ) × IsFirstUnfit fit lines number line)

scanned : (fit : List (List ℕ) → Bool) (done rest : List (List ℕ)) → IsTrue (fit done) → FitOrUnfit fit (done ++ rest)
scanned fit done [] h = inl (ap fit (append-nil done) ∙ h)
scanned fit done (line ∷ rest) h = by (fit (done ++ line ∷ [])) refl (λ fits. scanned fit (done ++ line ∷ []) rest fits)
  where
    by : (v : Bool) → fit (done ++ line ∷ []) ≡ v → (IsTrue (fit (done ++ line ∷ [])) → FitOrUnfit fit ((done ++ line ∷ []) ++ rest)) → FitOrUnfit fit (done ++ line ∷ rest)
    by true e more = subst (FitOrUnfit fit) (append_assoc done (line ∷ []) rest) (more e)
    by false e more = inr (length done + 1, line, record { front = done; behind = rest; place = refl; number_is = refl; front_fits = h; unfit = e })

-- ---- two texts

pub same_policy : (contexts allow : List ℕ) (policy other : PolicyLines) → IsPolicy contexts allow policy → IsPolicy contexts allow other → policy ≡ other
same_policy contexts allow policy other first second =
    let one : policy.default ∷ [] ≡ other.default ∷ [] = sym first.default ∙ second.default in
    let default : policy.default ≡ other.default = cc one in
    let exact = sym first.exact ∙ second.exact in
    let prefixes = sym first.prefixes ∙ second.prefixes in
    let allows = sym first.allows ∙ second.allows in
    (λ i. record { default = default i; exact = exact i; prefixes = prefixes i; allows = allows i })

-- the contexts don't fit, or there is no default, or there is one
abbrev Unfit : List ℕ → Type 0
Unfit contexts = (number : ℕ) × (line : List ℕ) × IsFirstUnfit contexts_fit (lines_of contexts) number line

not_unfit : (contexts : List ℕ) → IsTrue (contexts_fit (lines_of contexts)) → Unfit contexts → ⊥
not_unfit contexts fits (number, line, unfit) = none_unfit contexts_fit contexts_closed (lines_of contexts) number line fits unfit

bad_unfit : (contexts : List ℕ) (number : ℕ) → IsBadContext contexts number → Unfit contexts
bad_unfit contexts number (line, unfit, bad) = (number, line, unfit)

twice_unfit : (contexts : List ℕ) (number : ℕ) → IsTwice contexts number → Unfit contexts
twice_unfit contexts number (line, unfit, formed) = (number, line, unfit)

not_bad_twice : (contexts : List ℕ) (number other : ℕ) → IsBadContext contexts number → IsTwice contexts other → ⊥
not_bad_twice contexts number other (line, unfit, bad) (next, unfit', formed) =
    let same = one_unfit contexts_fit contexts_closed (lines_of contexts) number other line next unfit unfit' in
    false≢true (sym bad ∙ ap (λ l. is_formed (reading_of l)) same.1 ∙ formed)

none_or_one : (contexts : List ℕ) (number : ℕ) → HasNoDefault contexts number → AreContexts contexts → ⊥
none_or_one contexts number none are = omega (arith, ap length none.none, are.one)

pub not_both : (contexts allow : List ℕ) (policy : PolicyLines) (why : PolicyRefusal) → IsPolicy contexts allow policy → IsRefused contexts allow why → why ≡ refusal.NoMemory
not_both contexts allow policy (refusal.BadLine false line) is bad = absurd (not_unfit contexts is.contexts_are_fit (bad_unfit contexts line bad))
not_both contexts allow policy (refusal.BadLine true line) is bad = absurd (none_unfit allows_fit allows_closed (lines_of allow) line bad.line is.allows_are_fit bad.unfit)
not_both contexts allow policy (refusal.Twice line) is bad = absurd (not_unfit contexts is.contexts_are_fit (twice_unfit contexts line bad))
not_both contexts allow policy (refusal.NoDefault line) is bad = absurd (omega (arith, ap length bad.none, ap length is.default))
not_both contexts allow policy refusal.NoMemory is bad = refl

pub same_refusal : (contexts allow : List ℕ) (why other : PolicyRefusal) → IsRefused contexts allow why → IsRefused contexts allow other
    → (why ≡ refusal.NoMemory → ⊥) → (other ≡ refusal.NoMemory → ⊥) → why ≡ other
same_refusal contexts allow refusal.NoMemory other h i some some' = absurd (some refl)
same_refusal contexts allow why refusal.NoMemory h i some some' = absurd (some' refl)
same_refusal contexts allow (refusal.BadLine false n) (refusal.BadLine false m) (line, unfit, bad) (next, unfit', bad') some some' =
    ap (λ k. refusal.BadLine false k) (one_unfit contexts_fit contexts_closed (lines_of contexts) n m line next unfit unfit').0
same_refusal contexts allow (refusal.BadLine true n) (refusal.BadLine true m) h i some some' =
    ap (λ k. refusal.BadLine true k) (one_unfit allows_fit allows_closed (lines_of allow) n m h.line i.line h.unfit i.unfit).0
same_refusal contexts allow (refusal.Twice n) (refusal.Twice m) (line, unfit, formed) (next, unfit', formed') some some' =
    ap (λ k. refusal.Twice k) (one_unfit contexts_fit contexts_closed (lines_of contexts) n m line next unfit unfit').0
same_refusal contexts allow (refusal.NoDefault n) (refusal.NoDefault m) h i some some' = ap (λ k. refusal.NoDefault k) (h.number_is ∙ sym i.number_is)
same_refusal contexts allow (refusal.BadLine false n) (refusal.Twice m) h i some some' = absurd (not_bad_twice contexts n m h i)
same_refusal contexts allow (refusal.Twice n) (refusal.BadLine false m) h i some some' = absurd (not_bad_twice contexts m n i h)
same_refusal contexts allow (refusal.BadLine false n) (refusal.BadLine true m) h i some some' = absurd (not_unfit contexts i.whole.fit (bad_unfit contexts n h))
same_refusal contexts allow (refusal.BadLine true n) (refusal.BadLine false m) h i some some' = absurd (not_unfit contexts h.whole.fit (bad_unfit contexts m i))
same_refusal contexts allow (refusal.BadLine false n) (refusal.NoDefault m) h i some some' = absurd (not_unfit contexts i.fit (bad_unfit contexts n h))
same_refusal contexts allow (refusal.NoDefault n) (refusal.BadLine false m) h i some some' = absurd (not_unfit contexts h.fit (bad_unfit contexts m i))
same_refusal contexts allow (refusal.Twice n) (refusal.BadLine true m) h i some some' = absurd (not_unfit contexts i.whole.fit (twice_unfit contexts n h))
same_refusal contexts allow (refusal.BadLine true n) (refusal.Twice m) h i some some' = absurd (not_unfit contexts h.whole.fit (twice_unfit contexts m i))
same_refusal contexts allow (refusal.Twice n) (refusal.NoDefault m) h i some some' = absurd (not_unfit contexts i.fit (twice_unfit contexts n h))
same_refusal contexts allow (refusal.NoDefault n) (refusal.Twice m) h i some some' = absurd (not_unfit contexts h.fit (twice_unfit contexts m i))
same_refusal contexts allow (refusal.NoDefault n) (refusal.BadLine true m) h i some some' = absurd (none_or_one contexts n h i.whole)
same_refusal contexts allow (refusal.BadLine true n) (refusal.NoDefault m) h i some some' = absurd (none_or_one contexts m i h.whole)

-- ---- one of both

abbrev pub PolicyOrRefused : List ℕ → List ℕ → Type 0
PolicyOrRefused contexts allow =
    ((policy : PolicyLines) × IsPolicy contexts allow policy) ⊎ ((why : PolicyRefusal) × IsRefused contexts allow why × (why ≡ refusal.NoMemory → ⊥))

of_allow : (contexts allow : List ℕ) (default : Context) → IsTrue (contexts_fit (lines_of contexts)) → default_contexts (lines_of contexts) ≡ default ∷ [] → PolicyOrRefused contexts allow
of_allow contexts allow default fits one = elim (scanned allows_fit [] (lines_of allow) refl) [
  | inl allowed ↦ inl (
    record { default = default; exact = exact_lines (lines_of contexts); prefixes = prefix_lines (lines_of contexts); allows = allow_lines (lines_of allow) },
    record { contexts_are_fit = fits; default = one; exact = refl; prefixes = refl; allows_are_fit = allowed; allows = refl },
  )
  | inr (number, line, unfit) ↦ inr (refusal.BadLine true number, record { whole = record { fit = fits; one = ap length one }; line = line; unfit = unfit }, (λ e. cc e))
]

of_default : (contexts allow : List ℕ) (defaults : List Context) → IsTrue (contexts_fit (lines_of contexts)) → default_contexts (lines_of contexts) ≡ defaults → PolicyOrRefused contexts allow
of_default contexts allow [] fits is =
    inr (refusal.NoDefault (length (lines_of contexts) + 1), record { fit = fits; none = is; number_is = refl }, (λ e. cc e))
of_default contexts allow (default ∷ []) fits is = of_allow contexts allow default fits is
of_default contexts allow (default ∷ other ∷ more) fits is =
    absurd (omega (arith, ap length is, (fits_of (lines_of contexts) fits).one_default))

of_unfit : (contexts allow : List ℕ) (number : ℕ) (line : List ℕ) (formed : Bool) → IsFirstUnfit contexts_fit (lines_of contexts) number line → is_formed (reading_of line) ≡ formed
    → PolicyOrRefused contexts allow
of_unfit contexts allow number line true unfit e = inr (refusal.Twice number, (line, unfit, e), (λ h. cc h))
of_unfit contexts allow number line false unfit e = inr (refusal.BadLine false number, (line, unfit, e), (λ h. cc h))

pub policy_or_refused : (contexts allow : List ℕ) → PolicyOrRefused contexts allow
policy_or_refused contexts allow = elim (scanned contexts_fit [] (lines_of contexts) refl) [
  | inl fits ↦ of_default contexts allow (default_contexts (lines_of contexts)) fits refl
  | inr (number, line, unfit) ↦ of_unfit contexts allow number line (is_formed (reading_of line)) unfit refl
]

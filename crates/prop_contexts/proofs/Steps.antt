-- One line more: what lines give, and whether they fit.
use Rattle.std.proofs.Common.{◌≡◌, ℕ, ◌+◌, ◌≤◌, Bool, true, false, not, ◌&&◌, ◌||◌, nat_le, List, [], ◌∷◌, ◌++◌, length, length-append, refl, ap, sym, ◌∙◌, subst, IsTrue, arith}
use Rattle.std.specs.List.{list_all, list_any, flat_map}
use Rattle.std.proofs.lemmas.Bool.{false≢true, leb-true, le-leb, false_from_ne_true}
use Rattle.std.proofs.Math.Bool.{and-true}
use Rattle.std.proofs.lemmas.Grind.{flat_map-append}
use Rattle.std.proofs.lemmas.List.{append-nil}
use Rattle.std.proofs.lemmas.List.Folds.{list_all-append, list_any-append}
use Rattle.init_machine.specs.Policy.{ContextLine, is_line_for}
use Rattle.init_machine.specs.declared.policy.Context.{Context}
use Rattle.prop_contexts.specs.Contexts.{ScopedLine, read_in, reading_of, default_in, exact_in, prefix_in, scoped_lines, default_contexts, exact_lines, prefix_lines}
use Rattle.prop_contexts.specs.NameLines.{has_name}
use Rattle.prop_contexts.specs.Given.{Given, given_by, first_of, has_for, has_line, with_for, Takes, IsLineRefusal, IsTextRefusal}
use Rattle.prop_contexts.specs.Grammar.{contexts_fit, is_formed, names_differ}
use Rattle.init_base.specs.Lines.{lines_of}
use Rattle.prop_contexts.specs.declared.refusal.PolicyRefusal.{PolicyRefusal}
use Rattle.prop_contexts.specs.declared.refusal.PolicyRefusal.TheVariants as refusal
use Rattle.prop_contexts.specs.declared.line.Reading.{Reading}
use Rattle.prop_contexts.specs.declared.line.Reading.TheVariants.{Skipped, Bad, Read}
use Rattle.prop_contexts.specs.declared.context_line.Scope.{Scope}
use Rattle.prop_contexts.specs.declared.context_line.Scope.TheVariants.{Default, Exact, Prefix}

-- ---- what lines give

pub given_more : {X : Type 0} (g : ScopedLine → List X) (front : List (List ℕ)) (line : List ℕ)
    → flat_map g (scoped_lines (front ++ line ∷ [])) ≡ flat_map g (scoped_lines front) ++ flat_map g (read_in (reading_of line))
given_more g front line =
    ap (flat_map g) (flat_map-append (λ l. read_in (reading_of l)) front (line ∷ []) ∙ ap (λ ls. scoped_lines front ++ ls) (append-nil (read_in (reading_of line))))
    ∙ flat_map-append g (scoped_lines front) (read_in (reading_of line))

-- ---- tests together

pub both : (a b : Bool) → IsTrue (a && b) → IsTrue a × IsTrue b
both true b h = (refl, h)
both false b h = absurd (false≢true h)

pub join : (a b : Bool) → IsTrue a → IsTrue b → IsTrue (a && b)
join true b h i = i
join false b h i = h

-- lines fit by what they give
abbrev pub fit_of : Bool → List Context → List ContextLine → List ContextLine → Bool
fit_of formed defaults exact prefixes = formed && nat_le (length defaults) 1 && names_differ exact && names_differ prefixes

pub record Fits (formed : Bool) (defaults : List Context) (exact prefixes : List ContextLine) : Type 0 where
  pub all_formed : IsTrue formed
  pub one_default : length defaults ≤ 1
  pub exact_differ : IsTrue (names_differ exact)
  pub prefixes_differ : IsTrue (names_differ prefixes)

pub fits_from : (formed : Bool) (defaults : List Context) (exact prefixes : List ContextLine) → IsTrue (fit_of formed defaults exact prefixes) → Fits formed defaults exact prefixes
fits_from formed defaults exact prefixes h =
    let p = both (formed && nat_le (length defaults) 1 && names_differ exact) (names_differ prefixes) h in
    let q = both (formed && nat_le (length defaults) 1) (names_differ exact) p.0 in
    let r = both formed (nat_le (length defaults) 1) q.0 in
    record { all_formed = r.0; one_default = leb-true (length defaults) 1 r.1; exact_differ = q.1; prefixes_differ = p.1 }

pub fits_to : (formed : Bool) (defaults : List Context) (exact prefixes : List ContextLine) → Fits formed defaults exact prefixes → IsTrue (fit_of formed defaults exact prefixes)
fits_to formed defaults exact prefixes h =
    join (formed && nat_le (length defaults) 1 && names_differ exact) (names_differ prefixes)
    (join (formed && nat_le (length defaults) 1) (names_differ exact) (join formed (nat_le (length defaults) 1) h.all_formed (le-leb (length defaults) 1 h.one_default)) h.exact_differ)
    h.prefixes_differ

-- ---- names

tests_more : (a q d h : Bool) → (not (a || (q || false)) && (d && not h)) ≡ ((not a && d) && not (q || h))
tests_more true q d h = refl
tests_more false true true h = refl
tests_more false true false h = refl
tests_more false false d h = refl

pub differ_more : (lines : List ContextLine) (line : ContextLine)
    → names_differ (lines ++ line ∷ []) ≡ (names_differ lines && not (has_name lines line.name))
differ_more [] line = refl
differ_more (first ∷ lines) line =
    let any : Bool = list_any (λ other. is_line_for other.name first) lines in
    ap (λ b. not b && names_differ (lines ++ line ∷ [])) (list_any-append (λ other. is_line_for other.name first) lines (line ∷ []))
    ∙ ap (λ b. not (any || (is_line_for line.name first || false)) && b) (differ_more lines line)
    ∙ (tests_more (list_any (λ other. is_line_for other.name first) lines) (is_line_for line.name first) (names_differ lines) (has_name lines line.name))

-- ---- one line

abbrev pub gives : List Context → List ContextLine → List ContextLine → Given
gives defaults exact prefixes = record { default = first_of defaults; exact = exact; prefixes = prefixes }

still_differ : (lines : List ContextLine) (line : ContextLine) → IsTrue (names_differ lines) → has_name lines line.name ≡ false → IsTrue (names_differ (lines ++ line ∷ []))
still_differ lines line differ fresh = differ_more lines line ∙ join (names_differ lines) (not (has_name lines line.name)) differ (ap not fresh)

no_more_differ : (lines : List ContextLine) (line : ContextLine) → has_name lines line.name ≡ true → IsTrue (names_differ (lines ++ line ∷ [])) → ⊥
no_more_differ lines line twice differ =
    false≢true (sym (ap not twice) ∙ (both (names_differ lines) (not (has_name lines line.name)) (sym (differ_more lines line) ∙ differ)).1)

step_fit : (s : Scope) (line : ContextLine) (b c : Bool) (d : List Context) (e p : List ContextLine) → IsTrue c → Fits b d e p → has_for (gives d e p) s line.name ≡ false
    → Fits c (d ++ default_in s line.context) (e ++ exact_in s line) (p ++ prefix_in s line)
step_fit Default line b c [] e p formed fits fresh =
    let fit : Fits c (line.context ∷ []) e p = record { all_formed = formed; one_default = omega arith; exact_differ = fits.exact_differ; prefixes_differ = fits.prefixes_differ } in
    simp append-nil fit
step_fit Default line b c (x ∷ d) e p formed fits fresh = absurd (cc fresh)
step_fit Exact line b c d e p formed fits fresh =
    let fit : Fits c d (e ++ line ∷ []) p = record { all_formed = formed; one_default = fits.one_default; exact_differ = still_differ e line fits.exact_differ fresh; prefixes_differ = fits.prefixes_differ } in
    simp append-nil fit
step_fit Prefix line b c d e p formed fits fresh =
    let fit : Fits c d e (p ++ line ∷ []) = record { all_formed = formed; one_default = fits.one_default; exact_differ = fits.exact_differ; prefixes_differ = still_differ p line fits.prefixes_differ fresh } in
    simp append-nil fit

step_given : (s : Scope) (line : ContextLine) (d : List Context) (e p : List ContextLine) → has_for (gives d e p) s line.name ≡ false
    → with_for (gives d e p) s line ≡ gives (d ++ default_in s line.context) (e ++ exact_in s line) (p ++ prefix_in s line)
step_given Default line [] e p fresh = simp append-nil
step_given Default line (c ∷ d) e p fresh = absurd (cc fresh)
step_given Exact line d e p fresh = simp append-nil
step_given Prefix line d e p fresh = simp append-nil

step_unfit : (s : Scope) (line : ContextLine) (b : Bool) (d : List Context) (e p : List ContextLine) → has_for (gives d e p) s line.name ≡ true
    → Fits b (d ++ default_in s line.context) (e ++ exact_in s line) (p ++ prefix_in s line) → ⊥
step_unfit Default line b [] e p twice fits = cc twice
step_unfit Default line b (c ∷ d) e p twice fits = absurd (omega (arith, fits.one_default, length-append d (line.context ∷ [])))
step_unfit Exact line b d e p twice fits = no_more_differ e line twice fits.exact_differ
step_unfit Prefix line b d e p twice fits = no_more_differ p line twice fits.prefixes_differ

-- ---- one line behind others

abbrev pub formed_in : List (List ℕ) → Bool
formed_in lines = list_all (λ line. is_formed (reading_of line)) lines

pub fits_of : (lines : List (List ℕ)) → IsTrue (contexts_fit lines) → Fits (formed_in lines) (default_contexts lines) (exact_lines lines) (prefix_lines lines)
fits_of lines h = fits_from (formed_in lines) (default_contexts lines) (exact_lines lines) (prefix_lines lines) h

-- what lines give with one more, of which this is the reading
abbrev default_of : Reading ScopedLine → List Context
default_of r = flat_map (λ l. default_in l.scope l.line.context) (read_in r)

abbrev exact_of : Reading ScopedLine → List ContextLine
exact_of r = flat_map (λ l. exact_in l.scope l.line) (read_in r)

abbrev prefix_of : Reading ScopedLine → List ContextLine
prefix_of r = flat_map (λ l. prefix_in l.scope l.line) (read_in r)

abbrev Behind : List (List ℕ) → List ℕ → Reading ScopedLine → Type 0
Behind front line r =
    (contexts_fit (front ++ line ∷ []) ≡ fit_of (formed_in front && (is_formed r && true)) (default_contexts front ++ default_of r) (exact_lines front ++ exact_of r) (prefix_lines front ++ prefix_of r))
    × (given_by (front ++ line ∷ []) ≡ gives (default_contexts front ++ default_of r) (exact_lines front ++ exact_of r) (prefix_lines front ++ prefix_of r))

behind : (front : List (List ℕ)) (line : List ℕ) → Behind front line (reading_of line)
behind front line =
    let formed : formed_in (front ++ line ∷ []) ≡ (formed_in front && (is_formed (reading_of line) && true)) = list_all-append (λ l. is_formed (reading_of l)) front (line ∷ []) in
    let d : default_contexts (front ++ line ∷ []) ≡ default_contexts front ++ default_of (reading_of line) = given_more (λ l. default_in l.scope l.line.context) front line in
    let e : exact_lines (front ++ line ∷ []) ≡ exact_lines front ++ exact_of (reading_of line) = given_more (λ l. exact_in l.scope l.line) front line in
    let p : prefix_lines (front ++ line ∷ []) ≡ prefix_lines front ++ prefix_of (reading_of line) = given_more (λ l. prefix_in l.scope l.line) front line in
    ((λ i. fit_of (formed i) (d i) (e i) (p i)), (λ i. gives (d i) (e i) (p i)))

taken : (front : List (List ℕ)) (line : List ℕ) (r : Reading ScopedLine) (new : Given) → Behind front line r → IsTrue (contexts_fit front) → Takes (given_by front) r new
    → IsTrue (contexts_fit (front ++ line ∷ [])) × (new ≡ given_by (front ++ line ∷ []))
taken front line Skipped new more fit same = (more.0 ∙ simp (append-nil, and-true) fit, same ∙ sym (more.1 ∙ simp append-nil))
taken front line Bad new more fit none = absurd none
taken front line (Read l) new more fit (fresh, is) =
    let fits = fits_of front fit in
    let formed : IsTrue (formed_in front && (true && true)) = join (formed_in front) true fits.all_formed refl in
    let one = step_fit l.scope l.line (formed_in front) (formed_in front && (true && true)) (default_contexts front) (exact_lines front) (prefix_lines front) formed fits fresh in (
      more.0 ∙ simp append-nil (fits_to (formed_in front && (true && true)) (default_contexts front ++ default_in l.scope l.line.context) (exact_lines front ++ exact_in l.scope l.line) (prefix_lines front ++ prefix_in l.scope l.line) one),
      is ∙ step_given l.scope l.line (default_contexts front) (exact_lines front) (prefix_lines front) fresh ∙ sym (more.1 ∙ simp append-nil),
    )

pub takes : (front : List (List ℕ)) (line : List ℕ) (new : Given) → IsTrue (contexts_fit front) → Takes (given_by front) (reading_of line) new
    → IsTrue (contexts_fit (front ++ line ∷ [])) × (new ≡ given_by (front ++ line ∷ []))
takes front line new fit h = taken front line (reading_of line) new (behind front line) fit h

unfit_bad : (front : List (List ℕ)) (line : List ℕ) (r : Reading ScopedLine) → Behind front line r → r ≡ Bad → contexts_fit (front ++ line ∷ []) ≡ false
unfit_bad front line r more bad = false_from_ne_true (contexts_fit (front ++ line ∷ [])) (λ h.
    let fits = fits_of (front ++ line ∷ []) h in
    let parts = fits_from (formed_in front && (is_formed r && true)) (default_contexts front ++ default_of r) (exact_lines front ++ exact_of r) (prefix_lines front ++ prefix_of r) (sym more.0 ∙ h) in
    let formed : IsTrue (is_formed r) = (both (is_formed r) true (both (formed_in front) (is_formed r && true) parts.all_formed).1).0 in
    false≢true (sym (ap is_formed bad) ∙ formed))

unfit_twice : (front : List (List ℕ)) (line : List ℕ) (l : ScopedLine) → Behind front line (Read l) → has_line (given_by front) l ≡ true → contexts_fit (front ++ line ∷ []) ≡ false
unfit_twice front line l more twice = false_from_ne_true (contexts_fit (front ++ line ∷ [])) (λ h.
    let parts = fits_from (formed_in front && (true && true)) (default_contexts front ++ default_of (Read l)) (exact_lines front ++ exact_of (Read l)) (prefix_lines front ++ prefix_of (Read l)) (sym more.0 ∙ h) in
    step_unfit l.scope l.line (formed_in front && (true && true)) (default_contexts front) (exact_lines front) (prefix_lines front) twice (simp append-nil at parts))

-- why a line behind lines that fit isn't taken, where it stands in a text
pub refuses : (text : List ℕ) (front rest : List (List ℕ)) (line : List ℕ) (why : PolicyRefusal) → lines_of text ≡ front ++ line ∷ rest
    → IsTrue (contexts_fit front) → IsLineRefusal (given_by front) (reading_of line) (length front + 1) why → IsTextRefusal text why
refuses text front rest line (refusal.BadLine false number) place fit (is, bad) =
    let unfit = unfit_bad front line (reading_of line) (behind front line) bad in
    (line, record { front = front; behind = rest; place = place; number_is = is; front_fits = fit; unfit = unfit }, ap is_formed bad)
refuses text front rest line (refusal.BadLine true number) place fit none = none
refuses text front rest line (refusal.Twice number) place fit (is, (l, reads, twice)) =
    let unfit = unfit_twice front line l (subst (Behind front line) reads (behind front line)) twice in
    (line, record { front = front; behind = rest; place = place; number_is = is; front_fits = fit; unfit = unfit }, ap is_formed reads)
refuses text front rest line (refusal.NoDefault number) place fit none = none
refuses text front rest line refusal.NoMemory place fit h = tt

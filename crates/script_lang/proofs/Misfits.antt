-- The first line that doesn't fit behind those before it.
use Rattle.std.proofs.Common.{◌≡◌, ℕ, ◌+◌, Bool, true, false, cond, ◌&&◌, IsTrue, List, [], ◌∷◌, ◌++◌, length, Option, Some, None, refl, sym, ap, ◌∙◌, subst, append_assoc, append-nil, arith}
use Rattle.std.proofs.lemmas.List.{flat_map_more}
use Rattle.script_lang.specs.Gathering.{or_else, first_unread, said_until, unread_in, until_unread}
use Rattle.script_lang.specs.Ordering.{first_misfit, first_unfit_of_sets}
use Rattle.script_lang.specs.Script.{AllFit, IsFirstBad, fits, line_fits, statements_in, statements_of}
use Rattle.script_lang.specs.Sets.{AllFitSets, IsFirstBadOfSets, line_fits_sets, only_sets, reading_fits_sets}
use Rattle.script_lang.specs.Statements.{reading_of}
use Rattle.script_lang.specs.declared.statement.Said.{Said}
use Rattle.script_lang.specs.declared.statement.Statement.{Statement}

-- whether a line fits behind others
abbrev Fitting : Type 0
Fitting = List (List ℕ) → List ℕ → Bool

-- each of some lines fits behind other lines and those before it
abbrev FitBehind : Fitting → List (List ℕ) → List (List ℕ) → Type 0
FitBehind fits front lines =
    (before : List (List ℕ)) (line : List ℕ) (behind : List (List ℕ)) → lines ≡ before ++ line ∷ behind → IsTrue (fits (front ++ before) line)

-- the number of the first line that doesn't, where the first of these lines has this number
abbrev misfit_behind : Fitting → List (List ℕ) → ℕ → List (List ℕ) → Option ℕ
misfit_behind fits front number [] = None
misfit_behind fits front number (line ∷ lines) = cond (fits front line) (misfit_behind fits (front ++ line ∷ []) (number + 1) lines) (Some number)

moved : (front : List (List ℕ)) (line : List ℕ) (before : List (List ℕ)) → (front ++ line ∷ []) ++ before ≡ front ++ line ∷ before
moved front line before = append_assoc front (line ∷ []) before

-- the lines behind the first one fit behind it
fit_later : (fits : Fitting) (front : List (List ℕ)) (line : List ℕ) (lines : List (List ℕ)) → FitBehind fits front (line ∷ lines) → FitBehind fits (front ++ line ∷ []) lines
fit_later fits front line lines fit before one behind e =
    subst (λ f. IsTrue (fits f one)) (sym (moved front line before)) (fit (line ∷ before) one behind (ap (λ ls. line ∷ ls) e))

fit_first : (fits : Fitting) (front : List (List ℕ)) (line : List ℕ) (lines : List (List ℕ)) → FitBehind fits front (line ∷ lines) → fits front line ≡ true
fit_first fits front line lines fit = ap (λ f. fits f line) (sym (append-nil front)) ∙ fit [] line lines refl

-- all fit where no line is the first that doesn't

pub none_where_all_fit : (fits : Fitting) (front : List (List ℕ)) (number : ℕ) (lines : List (List ℕ)) → FitBehind fits front lines → misfit_behind fits front number lines ≡ None
none_where_all_fit fits front number [] fit = refl
none_where_all_fit fits front number (line ∷ lines) fit =
    rw (fit_first fits front line lines fit) (none_where_all_fit fits (front ++ line ∷ []) (number + 1) lines (fit_later fits front line lines fit))

if_none : (fit : Bool) (later : Option ℕ) (number : ℕ) → cond fit later (Some number) ≡ None → (fit ≡ true) × (later ≡ None)
if_none true later number e = (refl, e)
if_none false later number e = cc

pub all_fit_where_none : (fits : Fitting) (front : List (List ℕ)) (number : ℕ) (lines : List (List ℕ)) → misfit_behind fits front number lines ≡ None → FitBehind fits front lines
all_fit_where_none fits front number [] none [] one behind e = cc
all_fit_where_none fits front number [] none (b ∷ before) one behind e = cc
all_fit_where_none fits front number (line ∷ lines) none [] one behind e =
    let now = if_none (fits front line) (misfit_behind fits (front ++ line ∷ []) (number + 1) lines) number none in
    let same : line ≡ one = cc in
    subst (λ l. IsTrue (fits (front ++ []) l)) same (ap (λ f. fits f line) (append-nil front) ∙ now.0)
all_fit_where_none fits front number (line ∷ lines) none (b ∷ before) one behind e =
    let now = if_none (fits front line) (misfit_behind fits (front ++ line ∷ []) (number + 1) lines) number none in
    let same : line ≡ b = cc in
    let rest : lines ≡ before ++ one ∷ behind = cc in
    subst (λ f. IsTrue (fits f one)) (moved front line before ∙ ap (λ l. front ++ l ∷ before) same)
    (all_fit_where_none fits (front ++ line ∷ []) (number + 1) lines now.1 before one behind rest)

-- the first line that doesn't fit

-- it stands behind lines that fit
record BadBehind (fits : Fitting) (front : List (List ℕ)) (number : ℕ) (lines : List (List ℕ)) (place : ℕ) : Type 0 where
  before : List (List ℕ)
  bad : List ℕ
  behind : List (List ℕ)
  text : lines ≡ before ++ bad ∷ behind
  fit : FitBehind fits front before
  misfit : fits (front ++ before) bad ≡ false
  place_is : place ≡ number + length before

none_fit : (fits : Fitting) (front : List (List ℕ)) → FitBehind fits front []
none_fit fits front [] line behind e = cc
none_fit fits front (b ∷ before) line behind e = cc

fit_more : (fits : Fitting) (front : List (List ℕ)) (line : List ℕ) (lines : List (List ℕ)) → fits front line ≡ true → FitBehind fits (front ++ line ∷ []) lines
    → FitBehind fits front (line ∷ lines)
fit_more fits front line lines now later [] one behind e =
    let same : line ≡ one = cc in
    subst (λ l. IsTrue (fits (front ++ []) l)) same (ap (λ f. fits f line) (append-nil front) ∙ now)
fit_more fits front line lines now later (b ∷ before) one behind e =
    let same : line ≡ b = cc in
    let rest : lines ≡ before ++ one ∷ behind = cc in
    subst (λ f. IsTrue (fits f one)) (moved front line before ∙ ap (λ l. front ++ l ∷ before) same) (later before one behind rest)

bad_later : (fits : Fitting) (front : List (List ℕ)) (number : ℕ) (line : List ℕ) (lines : List (List ℕ)) (place : ℕ) → fits front line ≡ true
    → BadBehind fits (front ++ line ∷ []) (number + 1) lines place → BadBehind fits front number (line ∷ lines) place
bad_later fits front number line lines place now later = record {
  before = line ∷ later.before;
  bad = later.bad;
  behind = later.behind;
  text = ap (λ ls. line ∷ ls) later.text;
  fit = fit_more fits front line later.before now later.fit;
  misfit = ap (λ f. fits f later.bad) (sym (moved front line later.before)) ∙ later.misfit;
  place_is = omega (arith, later.place_is);
}

bad_now : (fits : Fitting) (front : List (List ℕ)) (number : ℕ) (line : List ℕ) (lines : List (List ℕ)) (place : ℕ) → fits front line ≡ false
    → number ≡ place → BadBehind fits front number (line ∷ lines) place
bad_now fits front number line lines place now here = record {
  before = [];
  bad = line;
  behind = lines;
  text = refl;
  fit = none_fit fits front;
  misfit = ap (λ f. fits f line) (append-nil front) ∙ now;
  place_is = omega arith;
}

bad_where_some : (fits : Fitting) (front : List (List ℕ)) (number : ℕ) (lines : List (List ℕ)) (place : ℕ) → misfit_behind fits front number lines ≡ Some place
    → BadBehind fits front number lines place
bad_where_some fits front number [] place some = cc
bad_where_some fits front number (line ∷ lines) place some =
    chosen (fits front line) refl some (bad_where_some fits (front ++ line ∷ []) (number + 1) lines place)
  where
    chosen : (fit : Bool) → fits front line ≡ fit → cond fit (misfit_behind fits (front ++ line ∷ []) (number + 1) lines) (Some number) ≡ Some place
        → (misfit_behind fits (front ++ line ∷ []) (number + 1) lines ≡ Some place → BadBehind fits (front ++ line ∷ []) (number + 1) lines place)
        → BadBehind fits front number (line ∷ lines) place
    chosen true now e later = bad_later fits front number line lines place now (later e)
    chosen false now e later = bad_now fits front number line lines place now (let same : number ≡ place = cc in same)

some_where_bad : (fits : Fitting) (front : List (List ℕ)) (number : ℕ) (before : List (List ℕ)) (bad : List ℕ) (behind : List (List ℕ)) → FitBehind fits front before
    → fits (front ++ before) bad ≡ false → misfit_behind fits front number (before ++ bad ∷ behind) ≡ Some (number + length before)
some_where_bad fits front number [] bad behind fit misfit =
    let now : fits front bad ≡ false = ap (λ f. fits f bad) (sym (append-nil front)) ∙ misfit in
    let place : number ≡ number + 0 = omega arith in
    rw now (ap (λ n. Some n) place)
some_where_bad fits front number (line ∷ before) bad behind fit misfit =
    let later = some_where_bad fits (front ++ line ∷ []) (number + 1) before bad behind (fit_later fits front line before fit)
    (ap (λ f. fits f bad) (moved front line before) ∙ misfit) in
    let place : number + 1 + length before ≡ number + length (line ∷ before) = omega arith in
    rw (fit_first fits front line before fit) (later ∙ ap (λ n. Some n) place)

-- ---- in any script

one_more : (front : List (List ℕ)) (line : List ℕ) → statements_of (front ++ line ∷ []) ≡ statements_of front ++ statements_in (reading_of line)
one_more front line = sym (flat_map_more (λ line. statements_in (reading_of line)) [] front line)

misfit_is_first : (front : List (List ℕ)) (number : ℕ) (lines : List (List ℕ)) → first_misfit (statements_of front) number lines ≡ misfit_behind line_fits front number lines
misfit_is_first front number [] = refl
misfit_is_first front number (line ∷ lines) =
    ap (λ before. cond (line_fits front line) (first_misfit before (number + 1) lines) (Some number)) (sym (one_more front line))
    ∙ ap (λ later. cond (line_fits front line) later (Some number)) (misfit_is_first (front ++ line ∷ []) (number + 1) lines)

pub all_fit_is_none : (lines : List (List ℕ)) → AllFit lines → first_misfit [] 1 lines ≡ None
all_fit_is_none lines fit = misfit_is_first [] 1 lines ∙ none_where_all_fit line_fits [] 1 lines fit

pub none_is_all_fit : (lines : List (List ℕ)) → first_misfit [] 1 lines ≡ None → AllFit lines
none_is_all_fit lines none = all_fit_where_none line_fits [] 1 lines (sym (misfit_is_first [] 1 lines) ∙ none)

pub some_is_first_bad : (lines : List (List ℕ)) (place : ℕ) → first_misfit [] 1 lines ≡ Some place → IsFirstBad lines place
some_is_first_bad lines place some =
    let found = bad_where_some line_fits [] 1 lines place (sym (misfit_is_first [] 1 lines) ∙ some) in
    record {
      before = found.before;
      bad = found.bad;
      behind = found.behind;
      text = found.text;
      all_fit = found.fit;
      misfit = found.misfit;
      number_is = omega (arith, found.place_is);
    }

pub first_bad_is_some : (lines : List (List ℕ)) (place : ℕ) → IsFirstBad lines place → first_misfit [] 1 lines ≡ Some place
first_bad_is_some lines place first =
    misfit_is_first [] 1 lines ∙ ap (misfit_behind line_fits [] 1) first.text
    ∙ some_where_bad line_fits [] 1 first.before first.bad first.behind first.all_fit first.misfit ∙ ap (λ n. Some n) (omega (arith, first.number_is))

-- ---- where clients only set

-- a line that says nothing adds no statement
sets_step : (before : List Statement) (number : ℕ) (reading : Option (Option Statement)) (said : List Said) (unread misfit : Option ℕ)
    → or_else (first_unfit_of_sets (before ++ statements_in reading) said) unread ≡ misfit
    → or_else (first_unfit_of_sets before (until_unread number reading said)) (unread_in number reading unread)
    ≡ cond (reading_fits_sets before reading) misfit (Some number)
sets_step before number None said unread misfit later = refl
sets_step before number (Some None) said unread misfit later =
    ap (λ b. or_else (first_unfit_of_sets b said) unread) (sym (append-nil before)) ∙ later
sets_step before number (Some (Some s)) said unread misfit later =
    chosen (fits before s && only_sets s) (first_unfit_of_sets (before ++ s ∷ []) said) later
  where
    chosen : (fit : Bool) (unfit : Option ℕ) → or_else unfit unread ≡ misfit
        → or_else (cond fit unfit (Some number)) unread ≡ cond fit misfit (Some number)
    chosen true unfit e = e
    chosen false unfit e = refl

-- the first line that doesn't fit is out of form, or says what doesn't fit
sets_misfit_is : (front : List (List ℕ)) (number : ℕ) (lines : List (List ℕ))
    → or_else (first_unfit_of_sets (statements_of front) (said_until number lines)) (first_unread number lines)
    ≡ misfit_behind line_fits_sets front number lines
sets_misfit_is front number [] = refl
sets_misfit_is front number (line ∷ lines) =
    sets_step (statements_of front) number (reading_of line) (said_until (number + 1) lines) (first_unread (number + 1) lines)
    (misfit_behind line_fits_sets (front ++ line ∷ []) (number + 1) lines)
    (ap (λ before. or_else (first_unfit_of_sets before (said_until (number + 1) lines)) (first_unread (number + 1) lines)) (sym (one_more front line))
    ∙ sets_misfit_is (front ++ line ∷ []) (number + 1) lines)

pub some_is_first_bad_of_sets : (lines : List (List ℕ)) (place : ℕ)
    → or_else (first_unfit_of_sets [] (said_until 1 lines)) (first_unread 1 lines) ≡ Some place → IsFirstBadOfSets lines place
some_is_first_bad_of_sets lines place some =
    let found = bad_where_some line_fits_sets [] 1 lines place (sym (sets_misfit_is [] 1 lines) ∙ some) in
    record {
      before = found.before;
      bad = found.bad;
      behind = found.behind;
      text = found.text;
      all_fit = found.fit;
      misfit = found.misfit;
      number_is = omega (arith, found.place_is);
    }

pub all_fit_of_sets : (lines : List (List ℕ)) → or_else (first_unfit_of_sets [] (said_until 1 lines)) (first_unread 1 lines) ≡ None → AllFitSets lines
all_fit_of_sets lines none = all_fit_where_none line_fits_sets [] 1 lines (sym (sets_misfit_is [] 1 lines) ∙ none)

pub one_first_bad_of_sets : (lines : List (List ℕ)) (place other : ℕ) → IsFirstBadOfSets lines place → IsFirstBadOfSets lines other → place ≡ other
one_first_bad_of_sets lines place other one two =
    let same : Some place ≡ Some other = sym (place_is lines place one) ∙ place_is lines other two in cc
  where
    place_is : (lines : List (List ℕ)) (place : ℕ) → IsFirstBadOfSets lines place → misfit_behind line_fits_sets [] 1 lines ≡ Some place
    place_is lines place first =
        ap (misfit_behind line_fits_sets [] 1) first.text
        ∙ some_where_bad line_fits_sets [] 1 first.before first.bad first.behind first.all_fit first.misfit ∙ ap (λ n. Some n) (omega (arith, first.number_is))

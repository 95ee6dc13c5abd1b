-- The names of services, one after another.
use Rattle.std.proofs.Common.{◌≡◌, ℕ, Bool, true, false, ◌||◌, if◌then◌else◌, List, [], ◌∷◌, ◌++◌, map, refl, sym, ap, ◌∙◌, subst, append_assoc, nat_lt, length, length-append, arith, not}
use Rattle.std.proofs.Math.Bool.{or-false}
use Rattle.std.proofs.lemmas.Bool.{le-ltb, lt-ltb}
use Rattle.std.proofs.lemmas.List.{append-nil}
use Rattle.std.proofs.lemmas.List.Folds.{list_any-append}
use Rattle.std.proofs.lemmas.Slice.Eq.{bytes_eq-Decides}
use Rattle.std.specs.List.{list_any}
use Rattle.std.specs.Str.{bytes_eq}
use Rattle.collections.specs.Texts.{with_text}
use Rattle.init_machine.specs.declared.diagnostic.Diagnostic.{Diagnostic}
use Rattle.init_machine.specs.declared.diagnostic.DiagKind.TheVariants.{ServiceAgain}
use Rattle.init_machine.specs.declared.service.ServiceDef.{ServiceDef}
use Rattle.rc_parse.specs.Kept.{is_named, is_again, agains_behind}
use Rattle.rc_parse.specs.Names.{knows, AreNamesOf}
use Rattle.rc_parse.specs.Readings.{diagnostic}
use Rattle.rc_parse.specs.Skims.{mark_of}
use Rattle.rc_parse.specs.declared.names.Names.{Names}
use Rattle.rc_parse.specs.declared.skimmed.ServiceMark.{ServiceMark}
use Rattle.rc_parse.proofs.Slots.{names_swapped}

-- ---- one name more

either : (a b : Bool) → (a || b) ≡ (b || a)
either true true = refl
either true false = refl
either false true = refl
either false false = refl

there : (names : List (List ℕ)) (name other : List ℕ) → knows names name ≡ true → knows names other ≡ (bytes_eq name other || knows names other)
there names name other known = by (bytes_eq name other) refl
  where
    by : (b : Bool) → bytes_eq name other ≡ b → knows names other ≡ (b || knows names other)
    by true same = ap (knows names) (sym ((bytes_eq-Decides name other).0 same)) ∙ known
    by false differ = refl

put_at : (known : Bool) (old : List (List ℕ)) (name other : List ℕ) → knows old name ≡ known
    → knows (if known then old else old ++ name ∷ []) other ≡ (bytes_eq name other || knows old other)
put_at true old name other known = there old name other known
put_at false old name other known =
    list_any-append (bytes_eq other) old (name ∷ [])
    ∙ ap (λ (b : Bool). knows old other || b) (or-false (bytes_eq other name) ∙ names_swapped other name)
    ∙ either (knows old other) (bytes_eq name other)

pub name_put : (old new : List (List ℕ)) (name : List ℕ) → new ≡ with_text old name
    → (other : List ℕ) → knows new other ≡ (bytes_eq name other || knows old other)
name_put old new name is other = ap (λ (names : List (List ℕ)). knows names other) is ∙ put_at (knows old name) old name other refl

longer : (known : Bool) (old : List (List ℕ)) (name : List ℕ) → nat_lt (length old) (length (if known then old else old ++ name ∷ [])) ≡ not known
longer true old name = le-ltb (length old) (length old) (omega arith)
longer false old name = lt-ltb (length old) (length (old ++ name ∷ [])) (omega (arith, length-append old (name ∷ [])))

pub is_longer : (old new : List (List ℕ)) (name : List ℕ) → new ≡ with_text old name → nat_lt (length old) (length new) ≡ not (knows old name)
is_longer old new name is = ap (λ (names : List (List ℕ)). nat_lt (length old) (length names)) is ∙ longer (knows old name) old name

-- the names of services and of one more
pub known_more : (names more : Names) (service : ServiceMark) (text : List ℕ) → text ≡ service.name
    → ((other : List ℕ) → knows more.names other ≡ (bytes_eq text other || knows names.names other))
    → (before : List ServiceDef) (read : ServiceDef) → AreNamesOf names before → service ≡ mark_of read → AreNamesOf more (before ++ read ∷ [])
known_more names more service text text_is put before read are is name =
    put name
    ∙ ap (λ (b : Bool). bytes_eq text name || b) (are name)
    ∙ either (bytes_eq text name) (list_any (is_named name) before)
    ∙ ap (λ (t : List ℕ). list_any (is_named name) before || bytes_eq t name) (text_is ∙ ap (λ (m : ServiceMark). m.name) is)
    ∙ ap (λ (b : Bool). list_any (is_named name) before || b) (sym (or-false (bytes_eq read.name name)))
    ∙ sym (list_any-append (is_named name) before (read ∷ []))

-- ---- services, one after another

-- what is known and told, where these services are read behind the names
abbrev pub Adds : Names → List Diagnostic → List ServiceMark → Names → List Diagnostic → Type 0
Adds names diagnostics left next all =
    (before read : List ServiceDef) → AreNamesOf names before → left ≡ map mark_of read
    → AreNamesOf next (before ++ read) × (all ≡ diagnostics ++ agains_behind before read)

-- one service does so much
abbrev pub AddsOne : Names → List Diagnostic → ServiceMark → Names → List Diagnostic → Type 0
AddsOne names diagnostics service mid found =
    (before : List ServiceDef) (read : ServiceDef) → AreNamesOf names before → service ≡ mark_of read
    → AreNamesOf mid (before ++ read ∷ []) × (found ≡ diagnostics ++ agains_behind before (read ∷ []))

told_before : (again : Bool) (one : Diagnostic) (rest : List Diagnostic) → (if again then one ∷ [] else []) ++ rest ≡ (if again then one ∷ rest else rest)
told_before true one rest = refl
told_before false one rest = refl

pub one_more : (names mid next : Names) (diagnostics found all : List Diagnostic) (service : ServiceMark) (rest left : List ServiceMark)
    → rest ≡ service ∷ left → AddsOne names diagnostics service mid found → Adds mid found left next all → Adds names diagnostics rest next all
one_more names mid next diagnostics found all service rest left front one more before read are marks = by read (sym front ∙ marks)
  where
    by : (read : List ServiceDef) → service ∷ left ≡ map mark_of read → AreNamesOf next (before ++ read) × (all ≡ diagnostics ++ agains_behind before read)
    by [] is = cc
    by (s ∷ later) is =
        let first : service ≡ mark_of s = cc in
        let rest : left ≡ map mark_of later = cc in
        let step = one before s are first in
        let then_ = more (before ++ s ∷ []) later step.0 rest in (
          subst (AreNamesOf next) (append_assoc before (s ∷ []) later) then_.0,
          then_.1
              ∙ ap (λ (d : List Diagnostic). d ++ agains_behind (before ++ s ∷ []) later) step.1
              ∙ append_assoc diagnostics (agains_behind before (s ∷ [])) (agains_behind (before ++ s ∷ []) later)
              ∙ ap (λ (d : List Diagnostic). diagnostics ++ d)
              (told_before (is_again before s) (diagnostic s.file s.line ServiceAgain) (agains_behind (before ++ s ∷ []) later)),
        )

pub none_more : (names : Names) (diagnostics : List Diagnostic) (left : List ServiceMark) → left ≡ [] → Adds names diagnostics left names diagnostics
none_more names diagnostics left none before read are marks = by read (sym none ∙ marks)
  where
    by : (read : List ServiceDef) → [] ≡ map mark_of read → AreNamesOf names (before ++ read) × (diagnostics ≡ diagnostics ++ agains_behind before read)
    by [] is = (subst (AreNamesOf names) (sym (append-nil before)) are, sym (append-nil diagnostics))
    by (s ∷ later) is = cc

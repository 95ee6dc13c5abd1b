-- What is spelled in a word is read from it, and what is read was spelled so: one record for each kind of word, and what
-- follows for lines of several words.
use Rattle.std.proofs.Common.{◌≡◌, ℕ, List, [], ◌∷◌, map, Option, Some, refl, sym, ap, subst, ◌∙◌, arith, lit<}
use Rattle.std.specs.Prelude.{⊤}
use Rattle.std.specs.Fmt.{decimal}
use Rattle.std.specs.List.{AllByRecursion}
use Rattle.std.specs.Option.{option_map}
use Rattle.std.specs.Str.{bytes_eq}
use Rattle.init_base.specs.Quoted.{quoted, unquoted}
use Rattle.init_base.proofs.QForms.{unquoted-quoted, quoted-unquoted, bytes-unquoted}
use Rattle.init_machine.specs.Commands.{word_of}
use Rattle.init_machine.specs.HasText.{TreeHasText}
use Rattle.init_machine.specs.WordTexts.{word_text}
use Rattle.init_machine.specs.declared.diagnostic.DiagKind.{DiagKind}
use Rattle.init_machine.specs.declared.diagnostic.DiagKind.TheVariants as kind
use Rattle.init_machine.specs.declared.output.FsRefusal.{FsRefusal}
use Rattle.init_machine.specs.declared.output.FsRefusal.TheVariants as tree
use Rattle.init_machine.specs.declared.word.Word.{Word}
use Rattle.init_machine.specs.declared.word.TheConstants.{WORDS}
use Rattle.init_machine.proofs.DistinctSums.{same_bytes}
use Rattle.init_machine.proofs.Texts.{each_word}
use Rattle.init_trace.specs.Words.{kind_text, tree_text}
use Rattle.script_lang.specs.Statements.{status_in, with_two, with_three}
use Rattle.script_lang.proofs.Numerals.{number_read, number_written}
use Rattle.trace_reader.specs.Held.{Fits8, Fits32, Fits64, IsText}
use Rattle.trace_reader.specs.Reading.{lone, only, two, three, four, pair_of, with_four}
use Rattle.trace_reader.specs.Words.{kind_in, large_in, small_in, texts_in, tree_in}
use Rattle.trace_reader.specs.declared.word.TheConstants.{KINDS, TREE_REFUSALS}
use Rattle.trace_reader.proofs.Choices.{map_some, two_some, three_some, four_some, choose_named, choose_good, find_passes}

pub record Spells (A : Type 0) (read : List ℕ → Option A) (write : A → List ℕ) (good : A → Type 0) : Type 0 where
  pub sound : (word : List ℕ) (a : A) → read word ≡ Some a → (word ≡ write a) × good a
  pub complete : (a : A) → good a → read (write a) ≡ Some a

-- ---- kinds of words

pub text : Spells (List ℕ) unquoted quoted IsText
text = record {
  sound = λ word a e. (quoted-unquoted word a e, bytes-unquoted word a e);
  complete = λ a h. unquoted-quoted a h;
}

large_sound : (word : List ℕ) (n : ℕ) → large_in word ≡ Some n → (word ≡ decimal n) × Fits64 n
large_sound word n e = let got = number_written 0 18446744073709551615 word n e in (got.form, omega (arith, got.high))

small_sound : (word : List ℕ) (n : ℕ) → small_in word ≡ Some n → (word ≡ decimal n) × Fits32 n
small_sound word n e = let got = number_written 0 4294967295 word n e in (got.form, omega (arith, got.high))

status_sound : (word : List ℕ) (n : ℕ) → status_in word ≡ Some n → (word ≡ decimal n) × Fits8 n
status_sound word n e = let got = number_written 0 255 word n e in (got.form, omega (arith, got.high))

large_complete : (n : ℕ) → Fits64 n → large_in (decimal n) ≡ Some n
large_complete n h = number_read 0 18446744073709551615 n (lit< tt) (omega arith) (omega arith)

small_complete : (n : ℕ) → Fits32 n → small_in (decimal n) ≡ Some n
small_complete n h = number_read 0 4294967295 n (lit< tt) (omega arith) (omega arith)

status_complete : (n : ℕ) → Fits8 n → status_in (decimal n) ≡ Some n
status_complete n h = number_read 0 255 n (lit< tt) (omega arith) (omega arith)

pub large : Spells ℕ large_in decimal Fits64
large = record { sound = large_sound; complete = large_complete }

pub small : Spells ℕ small_in decimal Fits32
small = record { sound = small_sound; complete = small_complete }

pub status : Spells ℕ status_in decimal Fits8
status = record { sound = status_sound; complete = status_complete }

abbrev pub Any : {A : Type 0} → A → Type 0
Any a = ⊤

kind_sound : (word : List ℕ) (k : DiagKind) → kind_in word ≡ Some k → (word ≡ kind_text k) × Any k
unfolding kind_text
kind_sound word k e = (choose_named kind_text (map (λ row. (row.0.now, row.1)) KINDS) word k refl e, tt)

kind_complete : (k : DiagKind) → Any k → kind_in (kind_text k) ≡ Some k
unfolding kind_text
kind_complete kind.Cut h = refl
kind_complete kind.Orphan h = refl
kind_complete kind.NoTrigger h = refl
kind_complete kind.BadTrigger h = refl
kind_complete kind.TwiceProp h = refl
kind_complete kind.BadWord h = refl
kind_complete kind.BadArity h = refl
kind_complete kind.BadOption h = refl
kind_complete kind.BadService h = refl
kind_complete kind.ServiceAgain h = refl
kind_complete kind.BadImport h = refl
kind_complete kind.NoFile h = refl
kind_complete kind.Loop h = refl
kind_complete kind.TooDeep h = refl
kind_complete kind.BadExpand h = refl
kind_complete kind.BadProp h = refl

pub kind_spells : Spells DiagKind kind_in kind_text (λ k. ⊤)
kind_spells = record { sound = kind_sound; complete = kind_complete }

tree_sound : (word : List ℕ) (k : FsRefusal) → tree_in word ≡ Some k → (word ≡ tree_text k) × TreeHasText k
unfolding tree_text
tree_sound word k e =
    let table = map (λ row. (row.0.now, row.1)) TREE_REFUSALS in
    (choose_named tree_text table word k refl e, choose_good TreeHasText table word k (tt, (tt, (tt, (tt, (tt, (tt, (tt, tt))))))) e)

tree_complete : (k : FsRefusal) → TreeHasText k → tree_in (tree_text k) ≡ Some k
unfolding tree_text
tree_complete tree.BadPath h = refl
tree_complete tree.Absent h = refl
tree_complete tree.IsDir h = refl
tree_complete tree.NotDir h = refl
tree_complete tree.Exists h = refl
tree_complete tree.NotEmpty h = refl
tree_complete tree.Insecure h = refl
tree_complete tree.NoMemory h = absurd h

pub tree_spells : Spells FsRefusal tree_in tree_text TreeHasText
tree_spells = record { sound = tree_sound; complete = tree_complete }

pub command : Spells Word word_of word_text (λ w. ⊤)
command = record {
  sound = λ word w e. (sym (same_bytes (word_text w) word (find_passes (λ other. bytes_eq (word_text other) word) WORDS w e)), tt);
  complete = λ w h. each_word w;
}

-- ---- several words

pub texts_sound : (words texts : List (List ℕ)) → texts_in words ≡ Some texts → (words ≡ map quoted texts) × AllByRecursion IsText texts
texts_sound [] texts e = let none : [] ≡ texts = cc in subst (λ ts. ([] ≡ map quoted ts) × AllByRecursion IsText ts) none (refl, tt)
texts_sound (word ∷ words) texts e =
    let got = two_some (λ text texts. text ∷ texts) (unquoted word) (texts_in words) texts e in
    let first = text.sound word got.0 got.2 in
    let later = texts_sound words got.1 got.3 in
    subst (λ ts. (word ∷ words ≡ map quoted ts) × AllByRecursion IsText ts) got.4
    (ap (λ w. w ∷ words) first.0 ∙ ap (λ ws. quoted got.0 ∷ ws) later.0, (first.1, later.1))

pub texts_complete : (texts : List (List ℕ)) → AllByRecursion IsText texts → texts_in (map quoted texts) ≡ Some texts
texts_complete [] h = refl
texts_complete (t ∷ texts) h =
    ap (λ o. with_two (λ text texts. text ∷ texts) o (texts_in (map quoted texts))) (text.complete t h.0)
    ∙ ap (λ o. with_two (λ text texts. text ∷ texts) (Some t) o) (texts_complete texts h.1)

pub mapped : {A B : Type 0} (f : A → B) {o : Option A} {a : A} → o ≡ Some a → option_map f o ≡ Some (f a)
mapped f e = ap (option_map f) e

pub two_complete : {A B C : Type 0} {ra : List ℕ → Option A} {wa : A → List ℕ} {ga : A → Type 0} {rb : List ℕ → Option B} {wb : B → List ℕ} {gb : B → Type 0}
    (make : A → B → C) (s : Spells A ra wa ga) (t : Spells B rb wb gb) (a : A) (b : B) → ga a → gb b
    → two make ra rb (wa a ∷ wb b ∷ []) ≡ Some (make a b)
two_complete {rb = rb} {wb = wb} make s t a b h k =
    ap (λ o. with_two make o (rb (wb b))) (s.complete a h) ∙ ap (λ o. with_two make (Some a) o) (t.complete b k)

pub three_complete : {A B C D : Type 0} {ra : List ℕ → Option A} {wa : A → List ℕ} {ga : A → Type 0} {rb : List ℕ → Option B} {wb : B → List ℕ} {gb : B → Type 0}
    {rc : List ℕ → Option C} {wc : C → List ℕ} {gc : C → Type 0}
    (make : A → B → C → D) (s : Spells A ra wa ga) (t : Spells B rb wb gb) (u : Spells C rc wc gc) (a : A) (b : B) (c : C) → ga a → gb b → gc c
    → three make ra rb rc (wa a ∷ wb b ∷ wc c ∷ []) ≡ Some (make a b c)
three_complete {rb = rb} {wb = wb} {rc = rc} {wc = wc} make s t u a b c h k l =
    ap (λ o. with_three make o (rb (wb b)) (rc (wc c))) (s.complete a h)
    ∙ ap (λ o. with_two (make a) o (rc (wc c))) (t.complete b k)
    ∙ ap (λ o. with_two (make a) (Some b) o) (u.complete c l)

pub four_complete : {A B C D E : Type 0} {ra : List ℕ → Option A} {wa : A → List ℕ} {ga : A → Type 0} {rb : List ℕ → Option B} {wb : B → List ℕ} {gb : B → Type 0}
    {rc : List ℕ → Option C} {wc : C → List ℕ} {gc : C → Type 0} {rd : List ℕ → Option D} {wd : D → List ℕ} {gd : D → Type 0}
    (make : A → B → C → D → E) (s : Spells A ra wa ga) (t : Spells B rb wb gb) (u : Spells C rc wc gc) (v : Spells D rd wd gd)
    (a : A) (b : B) (c : C) (d : D) → ga a → gb b → gc c → gd d
    → four make ra rb rc rd (wa a ∷ wb b ∷ wc c ∷ wd d ∷ []) ≡ Some (make a b c d)
four_complete {rb = rb} {wb = wb} {rc = rc} {wc = wc} {rd = rd} {wd = wd} make s t u v a b c d h k l m =
    ap (λ o. with_four make o (rb (wb b)) (rc (wc c)) (rd (wd d))) (s.complete a h)
    ∙ ap (λ o. with_three (make a) o (rc (wc c)) (rd (wd d))) (t.complete b k)
    ∙ ap (λ o. with_two (make a b) o (rd (wd d))) (u.complete c l)
    ∙ ap (λ o. with_two (make a b) (Some c) o) (v.complete d m)

-- ---- what words were written for

-- the words are the fields of the value, and it is good
pub record IsWritten (C : Type 0) (fields : C → List (List ℕ)) (good : C → Type 0) (words : List (List ℕ)) (c : C) : Type 0 where
  pub spelled : words ≡ fields c
  pub holds : good c

pub written_as : {C : Type 0} (fields : C → List (List ℕ)) (good : C → Type 0) (words : List (List ℕ)) (a c : C) → a ≡ c → words ≡ fields a → good a
    → IsWritten C fields good words c
written_as fields good words a c same e h = record { spelled = e ∙ ap fields same; holds = subst good same h }

pub only_sound : {A : Type 0} {read : List ℕ → Option A} {write : A → List ℕ} {good : A → Type 0} (s : Spells A read write good)
    (args : List (List ℕ)) (a : A) → only read args ≡ Some a → (args ≡ write a ∷ []) × good a
only_sound s [] a e = cc
only_sound s (word ∷ []) a e = let got = s.sound word a e in (ap (λ w. w ∷ []) got.0, got.1)
only_sound s (word ∷ other ∷ rest) a e = cc

pub by_lone : {C : Type 0} (fields : C → List (List ℕ)) (good : C → Type 0) (key : List ℕ) (value : C) → good value → fields value ≡ key ∷ []
    → (args : List (List ℕ)) (c : C) → lone value args ≡ Some c → IsWritten C fields good (key ∷ args) c
by_lone fields good key value holds spelled [] c e = let same : value ≡ c = cc in written_as fields good (key ∷ []) value c same (sym spelled) holds
by_lone fields good key value holds spelled (word ∷ rest) c e = cc

pub by_one : {A C : Type 0} {read : List ℕ → Option A} {write : A → List ℕ} {ok : A → Type 0} (fields : C → List (List ℕ)) (good : C → Type 0)
    (key : List ℕ) (make : A → C) (s : Spells A read write ok) → ((a : A) → ok a → good (make a)) → ((a : A) → fields (make a) ≡ key ∷ write a ∷ [])
    → (args : List (List ℕ)) (c : C) → option_map make (only read args) ≡ Some c → IsWritten C fields good (key ∷ args) c
by_one {read = read} fields good key make s holds spelled args c e =
    let m = map_some make (only read args) c e in
    let got = only_sound s args m.0 m.1 in
    written_as fields good (key ∷ args) (make m.0) c m.2 (ap (λ ws. key ∷ ws) got.0 ∙ sym (spelled m.0)) (holds m.0 got.1)

pub by_two : {A B C : Type 0} {ra : List ℕ → Option A} {wa : A → List ℕ} {ga : A → Type 0} {rb : List ℕ → Option B} {wb : B → List ℕ} {gb : B → Type 0}
    (fields : C → List (List ℕ)) (good : C → Type 0) (key : List ℕ) (make : A → B → C) (s : Spells A ra wa ga) (t : Spells B rb wb gb)
    → ((a : A) (b : B) → ga a → gb b → good (make a b)) → ((a : A) (b : B) → fields (make a b) ≡ key ∷ wa a ∷ wb b ∷ [])
    → (args : List (List ℕ)) (c : C) → two make ra rb args ≡ Some c → IsWritten C fields good (key ∷ args) c
by_two fields good key make s t holds spelled [] c e = cc
by_two fields good key make s t holds spelled (x ∷ []) c e = cc
by_two {ra = ra} {wa = wa} {rb = rb} fields good key make s t holds spelled (x ∷ y ∷ []) c e =
    let got = two_some make (ra x) (rb y) c e in
    let first = s.sound x got.0 got.2 in
    let second = t.sound y got.1 got.3 in
    written_as fields good (key ∷ x ∷ y ∷ []) (make got.0 got.1) c got.4
    (ap (λ w. key ∷ w ∷ y ∷ []) first.0 ∙ ap (λ w. key ∷ wa got.0 ∷ w ∷ []) second.0 ∙ sym (spelled got.0 got.1))
    (holds got.0 got.1 first.1 second.1)
by_two fields good key make s t holds spelled (x ∷ y ∷ other ∷ rest) c e = cc

pub by_pair : {A B C : Type 0} {ra : List ℕ → Option A} {wa : A → List ℕ} {ga : A → Type 0} {rb : List ℕ → Option B} {wb : B → List ℕ} {gb : B → Type 0}
    (fields : C → List (List ℕ)) (good : C → Type 0) (key : List ℕ) (make : A × B → C) (s : Spells A ra wa ga) (t : Spells B rb wb gb)
    → ((a : A) (b : B) → ga a → gb b → good (make (a, b))) → ((a : A) (b : B) → fields (make (a, b)) ≡ key ∷ wa a ∷ wb b ∷ [])
    → (args : List (List ℕ)) (c : C) → option_map make (pair_of ra rb args) ≡ Some c → IsWritten C fields good (key ∷ args) c
by_pair fields good key make s t holds spelled [] c e = cc
by_pair fields good key make s t holds spelled (x ∷ []) c e = cc
by_pair {A = A} {B = B} {ra = ra} {wa = wa} {rb = rb} fields good key make s t holds spelled (x ∷ y ∷ []) c e =
    let m = map_some make (with_two (λ (a : A) (b : B). (a, b)) (ra x) (rb y)) c e in
    let got = two_some (λ (a : A) (b : B). (a, b)) (ra x) (rb y) m.0 m.1 in
    let first = s.sound x got.0 got.2 in
    let second = t.sound y got.1 got.3 in
    written_as fields good (key ∷ x ∷ y ∷ []) (make (got.0, got.1)) c (ap make got.4 ∙ m.2)
    (ap (λ w. key ∷ w ∷ y ∷ []) first.0 ∙ ap (λ w. key ∷ wa got.0 ∷ w ∷ []) second.0 ∙ sym (spelled got.0 got.1))
    (holds got.0 got.1 first.1 second.1)
by_pair fields good key make s t holds spelled (x ∷ y ∷ other ∷ rest) c e = cc

pub by_three : {A B C D : Type 0} {ra : List ℕ → Option A} {wa : A → List ℕ} {ga : A → Type 0} {rb : List ℕ → Option B} {wb : B → List ℕ} {gb : B → Type 0}
    {rc : List ℕ → Option C} {wc : C → List ℕ} {gc : C → Type 0}
    (fields : D → List (List ℕ)) (good : D → Type 0) (key : List ℕ) (make : A → B → C → D) (s : Spells A ra wa ga) (t : Spells B rb wb gb) (u : Spells C rc wc gc)
    → ((a : A) (b : B) (c : C) → ga a → gb b → gc c → good (make a b c)) → ((a : A) (b : B) (c : C) → fields (make a b c) ≡ key ∷ wa a ∷ wb b ∷ wc c ∷ [])
    → (args : List (List ℕ)) (d : D) → three make ra rb rc args ≡ Some d → IsWritten D fields good (key ∷ args) d
by_three fields good key make s t u holds spelled [] d e = cc
by_three fields good key make s t u holds spelled (x ∷ []) d e = cc
by_three fields good key make s t u holds spelled (x ∷ y ∷ []) d e = cc
by_three {ra = ra} {wa = wa} {rb = rb} {wb = wb} {rc = rc} fields good key make s t u holds spelled (x ∷ y ∷ z ∷ []) d e =
    let got = three_some make (ra x) (rb y) (rc z) d e in
    let first = s.sound x got.0 got.3 in
    let second = t.sound y got.1 got.4 in
    let third = u.sound z got.2 got.5 in
    written_as fields good (key ∷ x ∷ y ∷ z ∷ []) (make got.0 got.1 got.2) d got.6
    (ap (λ w. key ∷ w ∷ y ∷ z ∷ []) first.0 ∙ ap (λ w. key ∷ wa got.0 ∷ w ∷ z ∷ []) second.0
    ∙ ap (λ w. key ∷ wa got.0 ∷ wb got.1 ∷ w ∷ []) third.0 ∙ sym (spelled got.0 got.1 got.2))
    (holds got.0 got.1 got.2 first.1 second.1 third.1)
by_three fields good key make s t u holds spelled (x ∷ y ∷ z ∷ other ∷ rest) d e = cc

pub by_four : {A B C D E : Type 0} {ra : List ℕ → Option A} {wa : A → List ℕ} {ga : A → Type 0} {rb : List ℕ → Option B} {wb : B → List ℕ} {gb : B → Type 0}
    {rc : List ℕ → Option C} {wc : C → List ℕ} {gc : C → Type 0} {rd : List ℕ → Option D} {wd : D → List ℕ} {gd : D → Type 0}
    (fields : E → List (List ℕ)) (good : E → Type 0) (key : List ℕ) (make : A → B → C → D → E)
    (s : Spells A ra wa ga) (t : Spells B rb wb gb) (u : Spells C rc wc gc) (v : Spells D rd wd gd)
    → ((a : A) (b : B) (c : C) (d : D) → ga a → gb b → gc c → gd d → good (make a b c d))
    → ((a : A) (b : B) (c : C) (d : D) → fields (make a b c d) ≡ key ∷ wa a ∷ wb b ∷ wc c ∷ wd d ∷ [])
    → (args : List (List ℕ)) (r : E) → four make ra rb rc rd args ≡ Some r → IsWritten E fields good (key ∷ args) r
by_four fields good key make s t u v holds spelled [] r e = cc
by_four fields good key make s t u v holds spelled (x ∷ []) r e = cc
by_four fields good key make s t u v holds spelled (x ∷ y ∷ []) r e = cc
by_four fields good key make s t u v holds spelled (x ∷ y ∷ z ∷ []) r e = cc
by_four {ra = ra} {wa = wa} {rb = rb} {wb = wb} {rc = rc} {wc = wc} {rd = rd} fields good key make s t u v holds spelled (x ∷ y ∷ z ∷ q ∷ []) r e =
    let got = four_some make (ra x) (rb y) (rc z) (rd q) r e in
    let first = s.sound x got.0 got.4 in
    let second = t.sound y got.1 got.5 in
    let third = u.sound z got.2 got.6 in
    let fourth = v.sound q got.3 got.7 in
    written_as fields good (key ∷ x ∷ y ∷ z ∷ q ∷ []) (make got.0 got.1 got.2 got.3) r got.8
    (ap (λ w. key ∷ w ∷ y ∷ z ∷ q ∷ []) first.0 ∙ ap (λ w. key ∷ wa got.0 ∷ w ∷ z ∷ q ∷ []) second.0
    ∙ ap (λ w. key ∷ wa got.0 ∷ wb got.1 ∷ w ∷ q ∷ []) third.0 ∙ ap (λ w. key ∷ wa got.0 ∷ wb got.1 ∷ wc got.2 ∷ w ∷ []) fourth.0
    ∙ sym (spelled got.0 got.1 got.2 got.3))
    (holds got.0 got.1 got.2 got.3 first.1 second.1 third.1 fourth.1)
by_four fields good key make s t u v holds spelled (x ∷ y ∷ z ∷ q ∷ other ∷ rest) r e = cc

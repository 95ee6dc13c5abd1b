-- A keeper that is given texts one after another.
use Rattle.std.proofs.Common.{◌≡◌, ℕ, ◌≤◌, inl, inr, List, [], ◌∷◌, ◌++◌, Option, Some, None, refl, sym, ap, ◌∙◌, subst, arith}
use Rattle.script_lang.specs.Script.{last_or}
use Rattle.init_driver.specs.Keeper.{IsLast, IsOneOf, KeeperView, LeavesNow, LeavesSince, Risks, Survives, Took}
use Rattle.init_driver.specs.Stored.{Keeps}

last_of_more : (held : List ℕ) (first more : List (List ℕ)) → last_or held (first ++ more) ≡ last_or (last_or held first) more
last_of_more held [] more = refl
last_of_more held (text ∷ first) more = last_of_more text first more

keeps_nothing : (held : Option (List ℕ)) → Keeps held held []
keeps_nothing None = tt
keeps_nothing (Some text) = refl

keeps_then : (a b c : Option (List ℕ)) (first more : List (List ℕ)) → Keeps a b first → Keeps b c more → Keeps a c (first ++ more)
keeps_then None b c first more h k = tt
keeps_then (Some held) b c first more h k =
    let now : c ≡ Some (last_or (last_or held first) more) = subst (λ z. Keeps z c more) h k in
    now ∙ ap Some (sym (last_of_more held first more))

-- ---- which texts a crash may leave

one_of_first : (first more : List (List ℕ)) (text : List ℕ) → IsOneOf first text → IsOneOf (first ++ more) text
one_of_first [] more text h = absurd h
one_of_first (given ∷ first) more text h = elim h [ inl same ↦ inl same | inr rest ↦ inr (one_of_first first more text rest) ]

one_of_more : (first more : List (List ℕ)) (text : List ℕ) → IsOneOf more text → IsOneOf (first ++ more) text
one_of_more [] more text h = h
one_of_more (given ∷ first) more text h = inr (one_of_more first more text h)

-- the last of texts behind what could be left before, and that in turn behind other texts
last_then : (Before Then : List ℕ → Type 0) (first more : List (List ℕ)) (text : List ℕ) → ((t : List ℕ) → Then t → IsLast Before first t)
    → IsLast Then more text → IsLast Before (first ++ more) text
last_then Before Then [] [] text leads h = leads text h
last_then Before Then [] (given ∷ more) text leads h = h
last_then Before Then (one ∷ first) more text leads h = last_then (λ other. other ≡ one) Then first more text leads h

since_then : (a b c : KeeperView) (first more : List (List ℕ)) → a.moment ≤ b.moment → LeavesSince a b first → LeavesSince b c more → LeavesSince a c (first ++ more)
since_then a b c first more later h k m text early left =
    elim (k m text (omega arith) left) [
      | inl before ↦ elim (h m text early before) [ inl earlier ↦ inl earlier | inr one ↦ inr (one_of_first first more text one) ]
      | inr one ↦ inr (one_of_more first more text one)
    ]

survives_nothing : (a : KeeperView) → a.TellsCrash → Survives a a []
survives_nothing a tells = record {
  tells = tells;
  later = omega arith;
  since = λ m text early left. inl left;
  now = λ text left. left;
}

survives_then : (a b c : KeeperView) (first more : List (List ℕ)) → Survives a b first → Survives b c more → Survives a c (first ++ more)
survives_then a b c first more h k = record {
  tells = k.tells;
  later = let one = h.later in let other = k.later in omega arith;
  since = since_then a b c first more h.later h.since k.since;
  now = λ text left. last_then (LeavesNow a) (LeavesNow b) first more text h.now (k.now text left);
}

-- ---- what a keeper took

pub took_nothing : (a : KeeperView) → Took a a []
took_nothing a = record { held = keeps_nothing a.held; crash = survives_nothing a }

pub took_then : (a b c : KeeperView) (first more : List (List ℕ)) → Took a b first → Took b c more → Took a c (first ++ more)
took_then a b c first more h k = record {
  held = keeps_then a.held b.held c.held first more h.held k.held;
  crash = λ tells. let early = h.crash tells in survives_then a b c first more early (k.crash early.tells);
}

-- one text more is risked behind others
pub risks_then : (a b c : KeeperView) (first texts others : List (List ℕ)) → Took a b first → (b.TellsCrash → Risks b c texts others)
    → a.TellsCrash → Risks a c (first ++ texts) (first ++ others)
risks_then a b c first texts others h risk tells =
    let early = h.crash tells in
    let k = risk early.tells in
    record {
      later = let one = early.later in let other = k.later in omega arith;
      since = since_then a b c first others early.later early.since k.since;
      now = λ text left. elim (k.now text left) [
        | inl one ↦ inl (last_then (LeavesNow a) (LeavesNow b) first texts text early.now one)
        | inr other ↦ inr (last_then (LeavesNow a) (LeavesNow b) first others text early.now other)
      ];
    }

-- nothing was asked of the keeper
pub risks_nothing : (a : KeeperView) (others : List (List ℕ)) → Risks a a [] others
risks_nothing a others = record {
  later = omega arith;
  since = λ m text early left. inl left;
  now = λ text left. inl left;
}

-- what a keeper took stands
pub risks_took : (a b : KeeperView) (texts more : List (List ℕ)) → Took a b texts → a.TellsCrash → Risks a b texts (texts ++ more)
risks_took a b texts more h tells =
    let k = h.crash tells in
    record {
      later = k.later;
      since = λ m text early left. elim (k.since m text early left) [ inl before ↦ inl before | inr one ↦ inr (one_of_first texts more text one) ];
      now = λ text left. inl (k.now text left);
    }

pub risks_took_others : (a b : KeeperView) (texts others : List (List ℕ)) → Took a b others → a.TellsCrash → Risks a b texts others
risks_took_others a b texts others h tells =
    let k = h.crash tells in
    record { later = k.later; since = k.since; now = λ text left. inr (k.now text left) }

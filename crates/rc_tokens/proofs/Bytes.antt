-- What the tests of one byte tell of each other.
use Rattle.std.proofs.Common.{◌≡◌, ℕ, ◌<◌, ◌≤◌, ◌==◌, true, false, ◌||◌, not, refl, arith}
use Rattle.std.proofs.lemmas.Bool.{not-true, or_parts, eqb-true}
use Rattle.std.proofs.lemmas.Bool.Decides.{nat_tests}
use Rattle.rc_tokens.specs.Grammar.{is_blank, is_line_feed, is_quote, is_backslash, is_plain}

pub record Plain (b : ℕ) : Type 0 where
  pub no_blank : is_blank b ≡ false
  pub no_feed : is_line_feed b ≡ false
  pub no_quote : is_quote b ≡ false
  pub no_backslash : is_backslash b ≡ false

pub plain_facts : (b : ℕ) → is_plain b ≡ true → Plain b
plain_facts b h =
    let none = not-true (is_blank b || is_line_feed b || is_quote b || is_backslash b) h in
    let p = or_parts (is_blank b || is_line_feed b || is_quote b) (is_backslash b) none in
    let q = or_parts (is_blank b || is_line_feed b) (is_quote b) p.0 in
    let r = or_parts (is_blank b) (is_line_feed b) q.0 in
    record { no_blank = r.0; no_feed = r.1; no_quote = q.1; no_backslash = p.1 }

pub plain_from : (b : ℕ) → is_blank b ≡ false → is_line_feed b ≡ false → is_quote b ≡ false → is_backslash b ≡ false → is_plain b ≡ true
plain_from b blank feed quote backslash = rw (blank, feed, quote, backslash) refl

-- above the quotation mark a byte is plain but for the backslash, and up to it the backslash isn't met
pub plain_above : (b : ℕ) → 34 < b → is_plain b ≡ not (b == 92)
plain_above b above = grind (arith, nat_tests)

pub plain_below : (b : ℕ) → b ≤ 34 → is_plain b ≡ not (is_blank b || is_line_feed b || is_quote b)
plain_below b below = grind (arith, nat_tests)

pub feed_is : (b : ℕ) → is_line_feed b ≡ true → b ≡ 10
feed_is b h = eqb-true b 10 h

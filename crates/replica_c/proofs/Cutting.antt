-- The first line of a text.
use Rattle.std.proofs.Common.{◌≡◌, ℕ, ◌+◌, ◌<◌, Bool, true, false, ◌||◌, List, [], ◌∷◌, ◌++◌, length, take, drop, Some, None, refl, ap, ◌∙◌, arith}
use Rattle.std.specs.List.{list_any, position}
use Rattle.line_feed.specs.Lines.{is_newline, lines, HasNoNewline, EndsFirstLine}
use Rattle.line_feed.proofs.LineLemmas.{EndsFirstLine-position, HasNoNewline-position}

neither : (a b : Bool) → (a || b) ≡ false → (a ≡ false) × (b ≡ false)
neither true b h = cc
neither false b h = (refl, h)

pub lines-cut : (text : List ℕ) (at : ℕ) → EndsFirstLine text at → lines text ≡ take at text ∷ lines (drop (at + 1) text)
lines-cut text at ends = ap lines ends.split ∙ go (take at text) (drop (at + 1) text) ends.first
  where
    go : (line rest : List ℕ) → HasNoNewline line → lines (line ++ 10 ∷ rest) ≡ line ∷ lines rest
    go [] rest h = refl
    go (b ∷ bs) rest h = let (p, q) = neither (is_newline b) (list_any is_newline bs) h in rw (p, go bs rest q)

pub lines-whole : (text : List ℕ) → 0 < length text → position is_newline text ≡ None → lines text ≡ text ∷ []
lines-whole [] some none = absurd (omega (arith, some))
lines-whole (b ∷ bs) some none = go b bs (HasNoNewline-position (b ∷ bs) none)
  where
    go : (b : ℕ) (bs : List ℕ) → HasNoNewline (b ∷ bs) → lines (b ∷ bs) ≡ (b ∷ bs) ∷ []
    go b [] h = rw (neither (is_newline b) false h).0
    go b (d ∷ bs) h = let (p, q) = neither (is_newline b) (list_any is_newline (d ∷ bs)) h in rw (p, go d bs q)

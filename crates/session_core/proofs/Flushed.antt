-- What a sink keeps back from turn to turn: nothing, unless the next line is at hand.
use Rattle.std.proofs.Common.{◌≡◌, ◌≢◌, ◌⊎◌, inl, inr, ℕ, ◌+◌, ◌<◌, ◌==◌, ◌||◌, not, Bool, true, false, List, [], Some, None, refl, ◌∙◌, arith}
use Rattle.std.proofs.lemmas.Bool.{eqb-false}
use Rattle.std.specs.List.{list_any}
use Rattle.line_feed.specs.Lines.{is_newline}
use Rattle.line_feed.specs.declared.feed.Outcome.{Outcome}
use Rattle.line_feed.specs.declared.feed.Outcome.TheVariants as outcome
use Rattle.session_rules.specs.declared.Ending.{Ending}
use Rattle.session_rules.specs.declared.Ending.TheVariants.{WriteFault}
use Rattle.session_rules.specs.Limits.{most_lines}
use Rattle.session_core.specs.Ended.{LeavesUnflushed}

-- nothing is kept, or a whole line is held
abbrev pub KeepsFor : List ℕ → List ℕ → Type 0
KeepsFor kept held = (kept ≡ []) ⊎ (list_any is_newline held ≡ true)

-- where no line was given, nothing was kept
unkept : (given : Outcome) (kept held : List ℕ) → KeepsFor kept held → (list_any is_newline held ≡ true → given ≡ outcome.Line) → given ≢ outcome.Line → kept ≡ []
unkept given kept held (inl none) line other = none
unkept given kept held (inr at_hand) line other = absurd (other (line at_hand))

-- nothing is kept, or a whole line is held and will be answered
abbrev pub KeepsOn : List ℕ → List ℕ → ℕ → Type 0
KeepsOn kept held answered = (kept ≡ []) ⊎ ((list_any is_newline held ≡ true) × (answered < most_lines))

pub keeps_for : (kept held : List ℕ) (answered : ℕ) → KeepsOn kept held answered → KeepsFor kept held
keeps_for kept held answered (inl none) = inl none
keeps_for kept held answered (inr at_hand) = inr at_hand.0

-- all lines answered
pub used_up_empty : (kept held : List ℕ) (answered : ℕ) → KeepsOn kept held answered → ¬ (answered < most_lines) → kept ≡ []
used_up_empty kept held answered (inl none) up = none
used_up_empty kept held answered (inr at_hand) up = absurd (up at_hand.1)

-- where a session doesn't wait, the next line is at hand
pub keeps_on : (kept held : List ℕ) (answered : ℕ) (waits : Bool) → waits ≡ (answered + 1 == most_lines || not (list_any is_newline held)) → answered < most_lines
    → (waits ≡ true → kept ≡ []) → KeepsOn kept held (answered + 1)
keeps_on kept held answered waits is more empty = by (answered + 1 == most_lines) (list_any is_newline held) refl refl
  where
    by : (last has : Bool) → (answered + 1 == most_lines) ≡ last → list_any is_newline held ≡ has → KeepsOn kept held (answered + 1)
    by true has p q = inl (empty (is ∙ rw p refl))
    by false false p q = inl (empty (is ∙ rw (p, q) refl))
    by false true p q = inr (q, omega (arith, more, eqb-false _ _ p))

-- a session that ends keeps nothing
pub ends_empty : (given : Outcome) (waits : Bool) (kept keeps held : List ℕ) (why : Ending) → KeepsFor kept held
    → (list_any is_newline held ≡ true → given ≡ outcome.Line) → LeavesUnflushed given waits kept (Some why) keeps → why ≢ WriteFault → keeps ≡ []
ends_empty outcome.Line waits kept keeps held why for line back well = back well
ends_empty outcome.TooLong waits kept keeps held why for line back well = back (λ e. well cc)
ends_empty outcome.End waits kept keeps held why for line back well = back ∙ unkept outcome.End kept held for line (λ e. cc)
ends_empty outcome.Fault waits kept keeps held why for line back well = back ∙ unkept outcome.Fault kept held for line (λ e. cc)

-- one that goes on and waits keeps nothing, either
pub goes_on_empty : (given : Outcome) (waits : Bool) (kept keeps held : List ℕ) → KeepsFor kept held
    → (list_any is_newline held ≡ true → given ≡ outcome.Line) → LeavesUnflushed given waits kept None keeps → waits ≡ true → keeps ≡ []
goes_on_empty outcome.Line waits kept keeps held for line back is = back is
goes_on_empty outcome.TooLong waits kept keeps held for line back is = back (λ e. cc)
goes_on_empty outcome.End waits kept keeps held for line back is = back ∙ unkept outcome.End kept held for line (λ e. cc)
goes_on_empty outcome.Fault waits kept keeps held for line back is = back ∙ unkept outcome.Fault kept held for line (λ e. cc)

-- What a sink waits for.
use Rattle.std.proofs.Common.{◌≡◌, inl, inr, ℕ, Bool, List, ◌++◌, length, take, drop, ◌∙◌, arith, take_all}
use Rattle.std.proofs.lemmas.List.{take-append-le}
use Rattle.server_core.specs.declared.due.Due.{Due}
use Rattle.server_core.specs.Pacing.{IsDue, Waits}

-- a list of which all was written
pub written_all : {X : Type 0} (new old : List X) (n : ℕ) → n ≡ length new → take n (new ++ drop (length new) old) ≡ new
written_all new old n all = take-append-le n new (drop (length new) old) (omega (arith, all)) ∙ take_all n new (omega (arith, all))

-- as many are due, or the sink is shut
pub still_waits : (shut : Bool) (before after : List Due) → ((document count : ℕ) → IsDue before document count → IsDue after document count)
    → (document count : ℕ) → Waits shut before document count → Waits shut after document count
still_waits shut before after stay document count (inl is) = inl is
still_waits shut before after stay document count (inr due) = inr (stay document count due)
